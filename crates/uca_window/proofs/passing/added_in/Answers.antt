use Rattle.std.proofs.Common.{◌+◌, ◌∙◌, sym, ap, ap₂}
use Rattle.std.proofs.lemmas.Simd.{ones-mask_l}
use lib.Count.{ones}
use lib.Lanes.{chunk}
use Rattle.uca_window.specs.Passing.{is_stop, is_of_pair, is_dense, is_high, added_by}
use Rattle.uca_window.proofs.passing.added_in.Goals as goal

pub returns-then-coarsely : goal.returns-then-coarsely
returns-then-coarsely c =
    let v = chunk c.args.at 32 c.args.bytes.now in
    ap₂ (λ a b. a + b) (ap ones c.high.ensures ∙ ones-mask_l is_high v) (ap ones c.dense.ensures ∙ ones-mask_l is_dense v) ∙ ap (λ b. added_by b v) (sym c.if-coarsely.true)

pub returns : goal.returns
returns c =
    let v = chunk c.args.at 32 c.args.bytes.now in
    ap₂ (λ a b. a + b) (ap ones c.stops.ensures ∙ ones-mask_l is_stop v) (ap ones c.of_pairs.ensures ∙ ones-mask_l is_of_pair v) ∙ ap (λ b. added_by b v) (sym c.if-coarsely.false)
