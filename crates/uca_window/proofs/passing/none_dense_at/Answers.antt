use Rattle.std.proofs.Common.{sym, ◌∙◌}
use Rattle.std.proofs.lemmas.Simd.{none_from_empty_mask}
use Rattle.uca_window.specs.Passing.{is_dense}
use Rattle.uca_window.proofs.Utf8Lanes.{zero_from}
use Rattle.uca_window.proofs.passing.none_dense_at.Goals as goal

pub returns : goal.returns
returns c = λ none. none_from_empty_mask is_dense c.args.bytes.now c.args.at 32 0 c.requires (sym c.dense.ensures ∙ zero_from c.dense.result none)
