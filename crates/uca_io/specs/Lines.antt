-- Lines of bytes.
use Rattle.std.specs.Prelude.{◌≡◌, ℕ, ◌==◌, Bool, false, List, [], ◌∷◌, All, if◌then◌else◌}

abbrev pub line_feed : ℕ
line_feed = 10

abbrev pub carriage_return : ℕ
carriage_return = 13

abbrev pub is_line_feed : ℕ → Bool
is_line_feed b = b == line_feed

-- a line without one CR at its end
abbrev pub without_return : List ℕ → List ℕ
without_return [] = []
without_return (b ∷ []) = if b == carriage_return then [] else b ∷ []
without_return (b ∷ c ∷ line) = b ∷ without_return (c ∷ line)

-- bytes without LF
pub record IsOpen (bytes : List ℕ) : Type 0 where
  pub line : All (λ b. is_line_feed b ≡ false) bytes
