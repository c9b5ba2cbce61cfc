use Rattle.std.proofs.Common.{refl, arith}
use Rattle.std.proofs.lemmas.Simd.{zip2_splat}
use Rattle.uca_window.specs.Passing.{is_dense}
use Rattle.uca_window.proofs.Utf8Lanes.{hit, masked}
use Rattle.uca_window.proofs.passing.dense.Goals as goal

pub returns : goal.returns
returns c =
    let long = c.fits-block.0 in
    masked _ is_dense _ _ (omega arith) c.fits-block.1 (zip2_splat hit _ 32 0xCD long) refl
