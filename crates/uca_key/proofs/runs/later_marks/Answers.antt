use Rattle.uca_key.proofs.Common.{arith, Bool, NonIgnorable, is_blank, common_steps}
use Rattle.uca_key.proofs.MaskLemmas.{blank-second, blank-third, blanks-fewer, parts-marked}
use Rattle.uca_key.proofs.runs.later_marks.Goals as goal

pub overflow_sub-result : goal.overflow_sub-result
overflow_sub-result c =
    let asked : Bool = c.args.asked in let masks = c.later_masks-second.ensures in
    blanks-fewer NonIgnorable 2 (is_blank asked) c.args.elements.now _ _ (blank-second NonIgnorable asked) (masks.second NonIgnorable) masks.none

pub overflow_sub-result-2 : goal.overflow_sub-result-2
overflow_sub-result-2 c =
    let asked : Bool = c.args.asked in let masks = c.later_masks-second.ensures in
    blanks-fewer NonIgnorable 3 (is_blank asked) c.args.elements.now _ _ (blank-third NonIgnorable asked) (masks.third NonIgnorable) masks.none

pub returns : goal.returns
returns c = record { second = λ v. grind (arith, common_steps, parts-marked, blank-second); third = λ v. grind (arith, common_steps, parts-marked, blank-third) }
