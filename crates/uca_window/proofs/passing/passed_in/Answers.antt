use Rattle.std.proofs.Common.{◌≡◌, ◌∙◌, sym, ap, map, eqb, eq-eqb, ne_eqb, arith}
use Rattle.std.proofs.lemmas.Bool.{cond-true, cond-false}
use Rattle.std.proofs.lemmas.Simd.{first_set_mask_l, length-chunk}
use lib.Lanes.{mask_l}
use lib.Count.{count_trailing_zeros}
use Rattle.uca_window.specs.Passing.{is_stop}
use Rattle.uca_window.proofs.passing.passed_in.Goals as goal

pub returns-then-found-eq0 : goal.returns-then-found-eq0
returns-then-found-eq0 c =
    let is : c.stops-found.result ≡ mask_l (map is_stop _) = c.stops-found.ensures in
    sym (cond-true (eqb (mask_l (map is_stop _)) 0) _ _ (eq-eqb _ _ (sym is ∙ c.if-found-eq0.true))) ∙ first_set_mask_l is_stop _ 32 (length-chunk c.args.at 32 c.args.bytes.now c.requires) (omega arith)

pub returns-else-found-eq0 : goal.returns-else-found-eq0
returns-else-found-eq0 c =
    let is : c.stops-found.result ≡ mask_l (map is_stop _) = c.stops-found.ensures in
    ap (count_trailing_zeros 64) is
    ∙ sym (cond-false (eqb (mask_l (map is_stop _)) 0) _ _ (ne_eqb _ _ (λ none. c.if-found-eq0.false (is ∙ none)))) ∙ first_set_mask_l is_stop _ 32 (length-chunk c.args.at 32 c.args.bytes.now c.requires) (omega arith)
