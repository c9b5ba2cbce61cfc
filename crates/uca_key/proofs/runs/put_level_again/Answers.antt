use Rattle.uca_key.proofs.Common.{◌≡◌, [], ◌++◌, refl, sym, ap, ◌∙◌, append-nil, bytes_left, weights_left}
use Rattle.uca_key.proofs.PlacingLemmas.{IsPutting-more, IsPutting-ends}
use Rattle.uca_key.proofs.runs.put_level_again.Goals as goal

pub returns-then-n-eq0 : goal.returns-then-n-eq0
returns-then-n-eq0 c =
    let none : weights_left c.each.left ≡ [] = c.read-n.ensures.end c.if-n-eq0.true in
    let end = bytes_left c.args.level c.each.state [] in
    let left : bytes_left c.args.level c.each.state (weights_left c.each.left) ≡ end ++ [] = ap (bytes_left c.args.level c.each.state) none ∙ sym (append-nil end) in
    IsPutting-ends _ _ _ _ _ _ (IsPutting-more _ _ _ _ _ _ c.each.invariant.putting _ _ end [] c.requires.size left (c.put_end.ensures c.args.level)) refl
