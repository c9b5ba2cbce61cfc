-- How often a text is read.
use Rattle.std.specs.Prelude.{◌≡◌, ℕ, ◌+◌, ◌*◌, ◌≤◌, List, length, ◌++◌}
use Rattle.uca_model.specs.Source.{SourceState, unread}

-- the text was read so many times at most, the end counted as a character, and each time begun by one way back
pub record ReadsTimes (times : ℕ) (old new : SourceState) : Type 0 where
  pub text : new.text ≡ old.text
  pub reads : new.reads ≤ old.reads + times * (length old.text + 1)
  pub rewinds : new.rewinds ≤ old.rewinds + times

-- what was unread was read once at most, the end counted as a character, with no way back
pub record ReadsRest (old new : SourceState) : Type 0 where
  pub text : new.text ≡ old.text
  pub mark : new.mark ≡ old.mark
  pub reads : new.reads ≤ old.reads + (length (unread old) + 1)
  pub rewinds : new.rewinds ≡ old.rewinds

-- two lists have a front in common, and these are left of them
pub record InStep (xs ys left right : List ℕ) : Type 0 where
  pub front : List ℕ
  pub first : xs ≡ front ++ left
  pub second : ys ≡ front ++ right
