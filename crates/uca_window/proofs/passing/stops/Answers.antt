use Rattle.std.proofs.Common.{bit_or, refl, arith}
use Rattle.std.proofs.lemmas.Simd.{zip2_of_maps, zip2_splat, zip2_splat_left}
use Rattle.uca_window.specs.Passing.{is_stop}
use Rattle.uca_window.proofs.Utf8Lanes.{hit, below, at_most, less, against, masked}
use Rattle.uca_window.proofs.passing.stops.Goals as goal

pub returns : goal.returns
returns c =
    let long = c.fits-block.0 in
    masked _ is_stop _ _ (omega arith) c.fits-block.1
    (zip2_of_maps bit_or _ _ _ (zip2_of_maps bit_or _ _ _ (zip2_of_maps bit_or _ _ _ (zip2_of_maps bit_or _ _ _ (against below _ 2 32 _ long (zip2_splat less _ 32 0xCC long)) (zip2_splat hit _ 32 0xD2 long)) (against below _ 14 32 _ long (zip2_splat less _ 32 0xD6 long))) (zip2_splat hit _ 32 0xEA long)) (zip2_splat_left at_most 0xEE 32 _ long)) refl
