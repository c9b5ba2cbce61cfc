-- The window: decomposed code points of a text in canonical order (UAX #15, D109), those of whole segments first.
use Rattle.std.specs.Prelude.{◌≡◌, ℕ, ◌+◌, ◌<◌, ◌≤◌, nat_lt, not, ◌&&◌, Bool, true, false, List, [], ◌∷◌, ◌++◌, length, take, drop, Option, Some, None, if◌then◌else◌}
use Rattle.std.specs.List.{list_all}
use Rattle.unicode_normalization.specs.Forms.{Nfd, nfd, IsInForm}
use Rattle.unicode_normalization.specs.Decompose.{decompose_canonical}
use Rattle.unicode_normalization.specs.Order.{is_starter, is_nonstarter, canonical_order}
use Rattle.uca_weights.specs.declared.limits.TheConstants.{MAX_KEY, MAX_LOOKAHEAD}
use Rattle.uca_model.specs.SafeText.{IsSafe}
use Rattle.uca_model.specs.Source.{SourceState, unread}

-- its points, how many of them are in closed segments, the length of the longest key, and whether a source has reported its end
pub record WindowState : Type 0 where
  pub points : List ℕ
  pub closed : ℕ
  pub longest : ℕ
  pub ended : Bool

-- a window that has read nothing
abbrev pub empty_window : ℕ → WindowState
empty_window longest = record { points = []; closed = 0; longest = longest; ended = false }

-- ---- its rest, over the unread characters of a source

-- the rest: the NFD of one list, its points and then the unread characters
abbrev pub rest_of : WindowState → List ℕ → List ℕ
rest_of w left = nfd (w.points ++ left)

-- it may read these characters: together with its points they are safe, and none are left once the end was reported
pub record Fits (w : WindowState) (left : List ℕ) : Type 0 where
  pub safe : IsSafe (w.points ++ left)
  pub ended : w.ended ≡ true → left ≡ []

-- how often it may still call `next`: once for each unread character, and once for the end
abbrev pub credit : WindowState → List ℕ → ℕ
credit w left = length left + (if w.ended then 0 else 1)

-- nothing, or a starter first
abbrev pub begins_segment : List ℕ → Bool
begins_segment [] = true
begins_segment (c ∷ cs) = is_starter c

-- the closed points are the first of the rest, and a starter or nothing follows them there
pub record ShowsFront (w : WindowState) (rest : List ℕ) : Type 0 where
  pub front : take w.closed rest ≡ take w.closed w.points
  pub follows : 0 < w.closed → begins_segment (drop w.closed rest) ≡ true

-- ---- what its calls do

-- it read on: no more calls of `next` than its credit fell by, and no way back
pub record ReadsOn (old : WindowState) (before : SourceState) (new : WindowState) (after : SourceState) : Type 0 where
  pub text : after.text ≡ before.text
  pub mark : after.mark ≡ before.mark
  pub fits : Fits new (unread after)
  pub longest : new.longest ≡ old.longest
  pub reads : after.reads + credit new (unread after) ≤ before.reads + credit old (unread before)
  pub rewinds : after.rewinds ≡ before.rewinds

-- over all characters that the old window fits, the new one fits them too, and its rest is the old rest with this change
abbrev pub ChangesRest : (List ℕ → List ℕ) → WindowState → WindowState → Type 0
ChangesRest change old new = (left : List ℕ) → Fits old left → Fits new left × (rest_of new left ≡ change (rest_of old left))

-- ---- what it holds, by what it held

-- too few points are closed, and more may come
abbrev pub is_wanting : WindowState → Bool
is_wanting w = nat_lt w.closed w.longest && not w.ended

-- the place of the last starter, 0 where there is none
abbrev pub last_starter : List ℕ → ℕ
last_starter [] = 0
last_starter (p ∷ ps) = if list_all is_nonstarter ps then 0 else last_starter ps + 1

-- it holds one character more, in NFD, or the end was reported: the segment of the last starter stays open until then
abbrev pub after_read : WindowState → Option ℕ → WindowState
after_read w None = record w { closed = length w.points; ended = true }
after_read w (Some c) =
    record w { points = canonical_order (w.points ++ decompose_canonical c); closed = last_starter (canonical_order (w.points ++ decompose_canonical c)) }

-- ---- what is true of every window

-- the closed points are whole segments, each a starter with the nonstarters after it, or nonstarters at the start. The others are
-- one segment to which nonstarters may still come, and there are none once the end was reported
pub record HasSegments (w : WindowState) : Type 0 where
  pub within : w.closed ≤ length w.points
  pub begins : 0 < w.closed → begins_segment (drop w.closed w.points) ≡ true
  pub nonstarters : list_all is_nonstarter (drop 1 (drop w.closed w.points)) ≡ true
  pub running : w.ended ≡ false → 0 < w.closed → w.closed < length w.points
  pub ended : w.ended ≡ true → w.closed ≡ length w.points

-- its points are in NFD, its segments so far are closed, and it holds few points beyond the length of the longest key
pub record IsWindow (w : WindowState) : Type 0 where
  pub form : IsInForm Nfd w.points
  pub segments : HasSegments w
  pub bound : length w.points ≤ w.longest + MAX_LOOKAHEAD
  pub longest : (1 ≤ w.longest) × (w.longest ≤ MAX_KEY)
