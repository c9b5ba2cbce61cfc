-- A match that is taken out of a window, whatever characters follow the points.
use Rattle.std.specs.Prelude.{◌≡◌, ℕ, ◌+◌, ◌-◌, ◌<◌, ◌≤◌, ◌==◌, Bool, List, [], length, drop, if◌then◌else◌}
use Rattle.uca_model.specs.Table.{ElementTable, is_key}
use Rattle.uca_model.specs.Match.{discontiguous_match, took}
use Rattle.uca_model.specs.CollationElements.{step}
use Rattle.uca_model.specs.Window.{WindowState, IsWindow, Fits, rest_of}
use Rattle.uca_model.specs.Source.{SourceState}
use Rattle.uca_table.specs.Running.{highest_class, passed_over}

-- of the nonstarters after the first `start` points those before `at` were tried, and those that the key took are gone from the rest
pub record IsTaking (is_key : List ℕ → Bool) (start : ℕ) (first : List ℕ) (old : WindowState) (key : List ℕ) (w : WindowState) (at high : ℕ) : Type 0 where
  pub upto : start ≤ at
  pub within : at ≤ w.closed
  pub longest : w.longest ≡ old.longest
  pub ended : w.ended ≡ old.ended
  pub size : w.closed + length key ≡ old.closed + length first
  pub highest : high ≡ highest_class (passed_over w.points start at)
  pub over : (left : List ℕ) → Fits old left
      → Fits w left × (discontiguous_match is_key key (passed_over (rest_of w left) start at) (drop at (rest_of w left)) ≡ discontiguous_match is_key first [] (drop start (rest_of old left)))

-- the nonstarters after the first `start` points that the key takes have left the rest
pub record TakesNonstarters (is_key : List ℕ → Bool) (start : ℕ) (first : List ℕ) (old : WindowState) (key : List ℕ) (new : WindowState) : Type 0 where
  pub within : start ≤ new.closed
  pub size : new.closed + length key ≡ old.closed + length first
  pub longest : new.longest ≡ old.longest
  pub ended : new.ended ≡ old.ended
  pub over : (left : List ℕ) → Fits old left → Fits new left × (discontiguous_match is_key first [] (drop start (rest_of old left)) ≡ took key (drop start (rest_of new left)))

-- the match at the front has left the rest, where the window held enough of it
pub record TakesMatch (t : ElementTable) (old : WindowState) (key : List ℕ) (new : WindowState) : Type 0 where
  pub valid : IsWindow new
  pub size : new.closed + length key ≡ old.closed
  pub longest : new.longest ≡ old.longest
  pub ended : new.ended ≡ old.ended
  pub over : (left : List ℕ) → Fits old left → (old.closed < old.longest → old.closed ≡ length (rest_of old left))
      → Fits new left × (((step (is_key t) (rest_of old left)).matched.code_points ≡ key) × ((step (is_key t) (rest_of old left)).rest ≡ rest_of new left))

-- the code points of the match at the front of a window that wants no more, and what the window holds without them: the points are
-- taken for the whole text, since the match does not go beyond those that are closed
abbrev pub key_held : ElementTable → WindowState → List ℕ
key_held t w = (step (is_key t) w.points).matched.code_points

abbrev pub after_match : ElementTable → WindowState → WindowState
after_match t w = if w.closed == 0 then w else record w { points = (step (is_key t) w.points).rest; closed = w.closed - length (key_held t w) }

-- nothing was read, and the match is that of the points
pub record TakesHeld (t : ElementTable) (old : WindowState) (before : SourceState) (key : List ℕ) (new : WindowState) (after : SourceState) : Type 0 where
  pub source : after ≡ before
  pub some : 0 < old.closed
  pub found : key ≡ key_held t old
  pub becomes : new ≡ after_match t old

-- nothing was read, and there is no match
pub record EndsHeld (old : WindowState) (before : SourceState) (new : WindowState) (after : SourceState) : Type 0 where
  pub source : after ≡ before
  pub none : old.closed ≡ 0
  pub stays : new ≡ old
