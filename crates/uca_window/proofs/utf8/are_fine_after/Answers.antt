use Rattle.std.proofs.Common.{ℕ, ◌<◌, ◌∙◌, sym, cond, ◌==◌, ◌||◌, nat_le, nat_lt, get_or, arith}
use Rattle.std.proofs.lemmas.Simd.{zip2_of_maps}
use Rattle.uca_window.specs.Utf8.{is_one_of}
use Rattle.uca_window.proofs.Utf8Lanes.{hit, at_most, below, less, lanes_of, lane_fits, left, right, either, just_one, chosen, none_passes, continues_is, begins_is}
use Rattle.uca_window.proofs.utf8.are_fine_after.Goals as goal

pub returns : goal.returns
returns g c = λ none k to.
    let here : ℕ → ℕ = λ j. get_or c.args.block j 0 in
    let one : ℕ → ℕ = λ j. get_or c.args.first j 0 in
    let two : ℕ → ℕ = λ j. get_or c.args.second j 0 in
    let block = lanes_of c.args.block _ c.fits-block.0 in
    let first = lanes_of c.args.first _ c.fits-first.0 in
    let second = lanes_of c.args.second _ c.fits-second.0 in
    let continues = right below (λ j. less (here j) 0x80) 0x40 0 _ (right less here 0x80 0 _ block) in
    let begins = right below (λ j. less (one j) 0xC2) 0x2E 0 _ (right less one 0xC2 0 _ first) in
    let needed = either _ _ _ begins (left at_most two 0xE0 0 _ second) in
    let other = just_one _ _ _ begins (left at_most one 0xC0 0 _ first) in
    let bound = chosen (λ j. nat_lt (here j) 0xA0) 0xE0 0xED 0 _ (right below here 0xA0 0 _ block) in
    let out = zip2_of_maps hit one _ _ first bound in
    let lanes = either _ _ _ (either _ _ _ (just_one _ _ _ continues needed) other) out in
    let fits : here k < 256 = lane_fits c.args.block k c.fits-block.1 in
    let led = begins_is (one k) (lane_fits c.args.first k c.fits-first.1) in
    let told = none_passes _ 0 _ lanes c.requires none k (omega arith) (omega (arith, to)) in
    (λ i. (is_one_of (sym (continues_is (here k) fits) i) (sym led i || nat_le 0xE0 (two k)) || is_one_of (sym led i) (nat_le 0xC0 (one k))) || (one k == cond (nat_lt (here k) 0xA0) 0xE0 0xED)) ∙ told
