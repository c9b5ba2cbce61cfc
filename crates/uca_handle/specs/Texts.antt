-- The order of two texts.
use Rattle.std.specs.Prelude.{ℕ, List, Option, option_map}
use Rattle.std.specs.declared.cmp.Ordering.{Ordering}
use Rattle.uca_model.specs.SortKey.{key_order, sort_key}
use Rattle.uca_model.specs.Table.{ElementTable}
use Rattle.uca_weights.specs.declared.settings.Settings.{Settings}

-- the order of two texts by a collator, which may have no table
abbrev pub text_order : Option ElementTable → Settings → List ℕ → List ℕ → Option Ordering
text_order held s a b = option_map (λ t. key_order (sort_key t s a) (sort_key t s b)) held
