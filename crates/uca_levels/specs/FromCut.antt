-- A comparison of which the later levels begin at the safe cut of its texts.
use Rattle.std.specs.Prelude.{◌≡◌, ℕ, ◌+◌, ◌-◌, ◌*◌, ◌<◌, ◌≤◌, Bool, List, length, if◌then◌else◌}
use Rattle.std.specs.declared.cmp.Ordering.TheVariants.{Equal}
use Rattle.uca_weights.specs.declared.settings.Settings.{Settings}
use Rattle.uca_weights.specs.Settings.{levels}
use Rattle.uca_model.specs.LevelWeights.{level_list}
use Rattle.uca_model.specs.DecidingLevel.{key_from, deciding_from, deciding_level}
use Rattle.uca_model.specs.SortKey.{key_order, sort_key}
use Rattle.uca_model.specs.Source.{SourceState, restarted}
use Rattle.uca_model.specs.Table.{ElementTable}

-- the text was read once as a whole at most, and each further time from the cut on, the end counted as a character, each time begun by one way back
pub record ReadsFromCut (times cut : ℕ) (old new : SourceState) : Type 0 where
  pub text : new.text ≡ old.text
  pub reads : new.reads ≤ old.reads + ((length old.text + 1) + (times - 1) * (length old.text - cut + 1))
  pub rewinds : new.rewinds ≤ old.rewinds + times

-- where a way back leads: to the mark, where this comparison set one, else to the start
abbrev pub place_back : Bool → SourceState → ℕ
place_back marked s = if marked then s.mark else 0

-- the source after that way back
abbrev pub goes_back : Bool → SourceState → SourceState
goes_back marked s = record (restarted s) { place = place_back marked s }

-- no level before this one decided
pub record Undecided (t : ElementTable) (s : Settings) (a b : List ℕ) (level : ℕ) : Type 0 where
  pub order : level ≤ levels s.strength → key_order (sort_key t s a) (sort_key t s b) ≡ key_order (key_from (levels s.strength - level) level (level_list t s.weighting a)) (key_from (levels s.strength - level) level (level_list t s.weighting b))
  pub deciding : level ≤ levels s.strength → deciding_level t s a b ≡ deciding_from (levels s.strength - level) level (level_list t s.weighting a) (level_list t s.weighting b)
  pub same : levels s.strength < level → key_order (sort_key t s a) (sort_key t s b) ≡ Equal
  pub last : levels s.strength < level → deciding_level t s a b ≡ levels s.strength
