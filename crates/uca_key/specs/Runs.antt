-- Levels with runs of common weights that are put piece by piece.
use Rattle.std.specs.Prelude.{◌≡◌, ◌<◌, ◌-◌, ◌==◌, ◌&&◌, ℕ, Bool, false, List, get_or, length, not, slice_index}
use Rattle.std.specs.Int.{bit_at}
use Rattle.uca_weights.specs.declared.element.Element.{Element}
use Rattle.uca_weights.specs.declared.settings.Variable.{Variable}
use Rattle.uca_model.specs.LevelWeights.{level_weights}
use Rattle.uca_key.specs.PackedKey.{common_weight, runs_after}
use Rattle.uca_key.specs.Weighing.{own_weights}
use Rattle.uca_key.specs.declared.runs.Counted.{Counted}
use Rattle.uca_key.specs.declared.runs.LaterMarks.{LaterMarks}
use Rattle.uca_key.specs.declared.runs.Marked.{Marked}

-- the bytes of a level that are left to put, where these weights of elements are left
abbrev pub bytes_left : ℕ → Counted → List (List ℕ) → List ℕ
bytes_left level s ws = runs_after (common_weight level) s.run (level_weights level ws)

-- whether an element has another weight than the common one at a level
abbrev pub is_other : Variable → ℕ → Element → Bool
is_other v level e = not (slice_index (own_weights v e) (level - 1) == common_weight level)

-- whether an element has no weight at the levels 2 and 3, if that is asked
abbrev pub is_blank : Bool → Element → Bool
is_blank asked e = asked && ((e.l2 == 0) && (e.l3 == 0))

-- masks of elements by their places: those whose bit is 1 in the second have no weight at a level, and of the others only those whose bit is 1 in the first may have another weight
-- than the common one
pub record AreMarked (v : Variable) (level : ℕ) (m : Marked) (es : List Element) : Type 0 where
  pub common : (i : ℕ) (d : Element) → i < length es → bit_at m.others i ≡ 0 → bit_at m.blanks i ≡ 0 → is_other v level (get_or es i d) ≡ false
  pub blank : (i : ℕ) (d : Element) → i < length es → bit_at m.blanks i ≡ 1 → slice_index (own_weights v (get_or es i d)) (level - 1) ≡ 0

-- masks of elements at the levels 2 and 3, under each option
pub record AreMarkedLater (m : LaterMarks) (es : List Element) : Type 0 where
  pub second : (v : Variable) → AreMarked v 2 m.second es
  pub third : (v : Variable) → AreMarked v 3 m.third es
