use Rattle.std.proofs.Common.{ℕ, ◌<◌, ◌∙◌, sym, ◌||◌, nat_le, get_or, arith}
use Rattle.uca_window.specs.Utf8.{is_one_of}
use Rattle.uca_window.proofs.Utf8Lanes.{at_most, below, less, lanes_of, lane_fits, left, right, either, just_one, none_passes, continues_is, begins_two_is}
use Rattle.uca_window.proofs.utf8.are_paired_after.Goals as goal

pub returns : goal.returns
returns g c = λ none k to.
    let here : ℕ → ℕ = λ j. get_or c.args.block j 0 in
    let back : ℕ → ℕ = λ j. get_or c.args.before j 0 in
    let block = lanes_of c.args.block _ c.fits-block.0 in
    let before = lanes_of c.args.before _ c.fits-before.0 in
    let continues = right below (λ j. less (here j) 0x80) 0x40 0 _ (right less here 0x80 0 _ block) in
    let needed = right below (λ j. less (back j) 0xC2) 0x1E 0 _ (right less back 0xC2 0 _ before) in
    let lanes = either _ _ _ (just_one _ _ _ continues needed) (just_one _ _ _ needed (left at_most back 0xC0 0 _ before)) in
    let fits : here k < 256 = lane_fits c.args.block k c.fits-block.1 in
    let begins = begins_two_is (back k) (lane_fits c.args.before k c.fits-before.1) in
    let told = none_passes _ 0 _ lanes c.requires none k (omega arith) (omega (arith, to)) in
    (λ i. is_one_of (sym (continues_is (here k) fits) i) (sym begins i) || is_one_of (sym begins i) (nat_le 0xC0 (back k))) ∙ told
