-- Reading on until a window wants no more: what it reads from a source, and what it holds then.
use Rattle.std.specs.Prelude.{◌≡◌, ℕ, ◌+◌, ◌≤◌, min, List, [], ◌∷◌, length, Some, None, if◌then◌else◌}
use Rattle.uca_model.specs.Source.{SourceState, unread}
use Rattle.uca_model.specs.Window.{WindowState, is_wanting, after_read}

-- how often it reads from a source that has these characters left: for each one while it wants a character, and for the end once
unfoldable pub times_asked : WindowState → List ℕ → ℕ
times_asked w [] = if is_wanting w then 1 else 0
times_asked w (c ∷ cs) = if is_wanting w then times_asked (after_read w (Some c)) cs + 1 else 0

-- what it holds then: these characters one after the other, each read while it wanted a character
unfoldable pub filled : WindowState → List ℕ → WindowState
filled w [] = if is_wanting w then after_read w None else w
filled w (c ∷ cs) = if is_wanting w then filled (after_read w (Some c)) cs else w

-- the source was read this often and no more, and its place went on by as many characters, up to its end
pub record IsAsked (times : ℕ) (old new : SourceState) : Type 0 where
  pub place : new.place ≡ old.place + min times (length (unread old))
  pub reads : new.reads ≤ old.reads + times
