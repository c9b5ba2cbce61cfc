use Rattle.std.proofs.Common.{refl, arith}
use Rattle.std.proofs.lemmas.Simd.{zip2_splat_left}
use Rattle.uca_window.specs.Passing.{is_high}
use Rattle.uca_window.proofs.Utf8Lanes.{at_most, masked}
use Rattle.uca_window.proofs.passing.high.Goals as goal

pub returns : goal.returns
returns c =
    let long = c.fits-block.0 in
    masked _ is_high _ _ (omega arith) c.fits-block.1 (zip2_splat_left at_most 0xBD 32 _ long) refl
