-- The blanks and the words of a line.
use Rattle.std.specs.Prelude.{ℕ, ◌-◌, Bool, not, ◌||◌, ◌==◌, List, [], ◌∷◌, length, take, filter, if◌then◌else◌}
use Rattle.std.specs.List.{suffix_len, slice_split}

abbrev pub blank : ℕ
blank = 32

abbrev pub tab : ℕ
tab = 9

abbrev pub is_blank : ℕ → Bool
is_blank b = b == blank || b == tab

-- without the blanks at the front
abbrev pub skip_blanks : List ℕ → List ℕ
skip_blanks [] = []
skip_blanks (b ∷ bs) = if is_blank b then skip_blanks bs else b ∷ bs

-- without the blanks at the end
abbrev pub trim_end : List ℕ → List ℕ
trim_end bytes = take (length bytes - suffix_len is_blank bytes) bytes

-- the longest runs without blanks
abbrev pub words : List ℕ → List (List ℕ)
words text = filter (λ word. not (length word == 0)) (slice_split is_blank text)
