-- Which keys of a table begin with some code points.
use Rattle.std.specs.Prelude.{ℕ, Bool, List}
use Rattle.std.specs.List.{list_any}
use Rattle.std.specs.FinMap.{entries}
use Rattle.uca_model.specs.Table.{ElementTable}
pub use Rattle.uca_keys.specs.Fronts.{is_front}

-- some key of a table does
abbrev pub begins_key : ElementTable → List ℕ → Bool
begins_key t path = list_any (λ e. is_front path e.0) (entries t.entries)
