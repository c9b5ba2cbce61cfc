-- Two texts that are read in step while their characters agree, and their marks.
use Rattle.std.specs.Prelude.{◌≡◌, ℕ, ◌+◌, ◌≤◌, Bool, false, List, ◌++◌, length, Option}
use Rattle.uca_weights.specs.declared.settings.Variable.{Variable}
use Rattle.uca_model.specs.Table.{ElementTable, longest}
use Rattle.uca_model.specs.LevelWeights.{level_list}
use Rattle.uca_model.specs.SafeCut.{last_cut, cut_of}
use Rattle.uca_model.specs.Source.{SourceState, unread}
use Rattle.uca_model.specs.Window.{WindowState, Fits, credit}
use Rattle.uca_levels.specs.FirstWeight.{going_on}
use Rattle.uca_levels.specs.FromCut.{place_back}
use Rattle.uca_levels.specs.RemainingWeights.{WeightsState, remaining_weights, remaining_with_zeros}
use Rattle.uca_levels.specs.Reads.{InStep}

-- one pass over a text is under way, in a window, and a way back leads to this cut
pub record PassUnderWay (old : SourceState) (cut : ℕ) (marked : Bool) (w : WindowState) (now : SourceState) : Type 0 where
  pub text : now.text ≡ old.text
  pub back : place_back marked now ≡ cut
  pub fits : Fits w (unread now)
  pub reads : now.reads + credit w (unread now) ≤ old.reads + (length old.text + 1)
  pub rewinds : now.rewinds ≤ old.rewinds + 1

-- this front of it was read, and the cut is the last one in it
pub record FrontRead (t : ElementTable) (old : SourceState) (front : List ℕ) (marked : Bool) (w : WindowState) (now : SourceState) : Type 0 where
  pub pass : PassUnderWay old (last_cut t front) marked w now
  pub whole : old.text ≡ front ++ unread now
  pub place : now.place ≡ length front

-- weights of the first level by a table, before the end of their text
pub record IsRunning (t : ElementTable) (w : WeightsState) : Type 0 where
  pub level : w.level ≡ 1
  pub table : w.elements.table ≡ t
  pub size : w.elements.window.longest ≡ longest t
  pub running : w.elements.window.ended ≡ false

-- all characters so far were the same, and the two hold the same
pub record InCommon (t : ElementTable) (v : Variable) (was wus : SourceState) (left right : WeightsState) (marked : Bool) (a b : SourceState) : Type 0 where
  pub same : left ≡ right
  pub running : IsRunning t left
  pub front : List ℕ
  pub first : FrontRead t was front marked left.elements.window a
  pub second : FrontRead t wus front marked right.elements.window b
  pub lists : InStep (level_list t v was.text 1) (level_list t v wus.text 1) (remaining_weights left (unread a)) (remaining_weights right (unread b))

-- the texts go on with these characters after a common front, or end, and both were read up to there
pub record Parted (t : ElementTable) (v : Variable) (was wus : SourceState) (left right : WeightsState) (marked : Bool) (a b : SourceState) (x y : Option ℕ) : Type 0 where
  pub front : List ℕ
  pub later_a : List ℕ
  pub later_b : List ℕ
  pub whole_a : was.text ≡ front ++ going_on x later_a
  pub whole_b : wus.text ≡ front ++ going_on y later_b
  pub level : left.level ≡ 1
  pub first : PassUnderWay was (cut_of t was.text wus.text) marked left.elements.window a
  pub second : PassUnderWay wus (cut_of t was.text wus.text) marked right.elements.window b
  pub lists : InStep (level_list t v was.text 1) (level_list t v wus.text 1) (remaining_weights left (unread a)) (remaining_weights right (unread b))

-- what is left to do of a pass: characters to read, and weights to give
abbrev pub work_left : WeightsState → SourceState → ℕ
work_left w s = credit w.elements.window (unread s) + length (remaining_with_zeros w (unread s))
