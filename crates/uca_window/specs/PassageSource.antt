-- What a `PassageSource` states, and where its iterator is in the text.
use Rattle.std.specs.Prelude.{◌≡◌, ℕ, ◌-◌, ◌≤◌, List, length, drop, chars}
use Rattle.std.specs.Str.{IsUtf8}
use Rattle.uca_model.specs.Source.{SourceState}

-- a source of this text of which these characters are left, and these from its mark on
abbrev pub state_at : List ℕ → List ℕ → List ℕ → ℕ → ℕ → SourceState
state_at text left marked reads rewinds = record { text = text; place = length text - length left; mark = length text - length marked; reads = reads; rewinds = rewinds }

-- the characters that are left are the text without its first ones
pub record Follows (text left : List ℕ) : Type 0 where
  pub within : length left ≤ length text
  pub follows : drop (length text - length left) text ≡ left

-- these bytes are what is left of a text, and a text themselves
pub record StandsIn (text left : List ℕ) : Type 0 where
  pub utf8 : IsUtf8 left
  pub short : length left ≤ length text
  pub bytes : drop (length text - length left) text ≡ left
  pub follows : Follows (chars text) (chars left)
