-- An order with the level that decides it.
use Rattle.std.specs.Prelude.{◌≡◌, ℕ, List, Option, Some, None, Result, Err, MatchResult, chars}
use Rattle.uca_model.specs.DecidingLevel.{deciding_level}
use Rattle.uca_model.specs.Lines.{IsTextLine}
use Rattle.uca_model.specs.SortKey.{key_order, sort_key}
use Rattle.uca_model.specs.Table.{ElementTable}
use Rattle.uca_weights.specs.declared.settings.Settings.{Settings}
use Rattle.uca_handle.specs.declared.faults.CompareFault.{CompareFault}
use Rattle.uca_handle.specs.declared.faults.CompareFault.TheVariants.{Closed}
use Rattle.uca_handle.specs.Calls.{TellsFault}
use Rattle.uca_handle.specs.declared.levels.Decision.{Decision}

-- two texts are compared by a table: their order, and the first level at which they differ, or the last one where they do not
pub record IsDecision (t : ElementTable) (s : Settings) (a b : List ℕ) (d : Decision) : Type 0 where
  pub first : IsTextLine a
  pub second : IsTextLine b
  pub order : d.order ≡ key_order (sort_key t s (chars a)) (sort_key t s (chars b))
  pub level : d.level ≡ deciding_level t s (chars a) (chars b)

-- two texts are compared by a table, or the first that is none has this fault
abbrev pub ComparesLevelsBy : ElementTable → Settings → List ℕ → List ℕ → Result Decision CompareFault → Type 0
ComparesLevelsBy t s a b result = MatchResult result (IsDecision t s a b) (λ f. TellsFault a b (Some f))

-- the same by a collator, which may have no table
abbrev pub ComparesLevels : Option ElementTable → Settings → List ℕ → List ℕ → Result Decision CompareFault → Type 0
ComparesLevels None s a b result = result ≡ Err Closed
ComparesLevels (Some t) s a b result = ComparesLevelsBy t s a b result
