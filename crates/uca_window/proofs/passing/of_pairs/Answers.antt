use Rattle.std.proofs.Common.{bit_or, refl, arith}
use Rattle.std.proofs.lemmas.Simd.{zip2_of_maps, zip2_splat}
use Rattle.uca_window.specs.Passing.{is_of_pair}
use Rattle.uca_window.proofs.Utf8Lanes.{hit, below, less, against, masked}
use Rattle.uca_window.proofs.passing.of_pairs.Goals as goal

pub returns : goal.returns
returns c =
    let long = c.fits-block.0 in
    masked _ is_of_pair _ _ (omega arith) c.fits-block.1 (zip2_of_maps bit_or _ _ _ (zip2_splat hit _ 32 0xCD long) (against below _ 2 32 _ long (zip2_splat less _ 32 0xBD long))) refl
