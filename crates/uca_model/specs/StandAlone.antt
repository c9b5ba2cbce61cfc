-- Where the elements of a character are those of its own NFD, whatever follows it.
use Rattle.std.specs.Prelude.{ℕ, Bool, true, false, not, ◌==◌, ◌&&◌, ◌||◌, nat_le, List, [], ◌∷◌, drop, if◌then◌else◌}
use Rattle.std.specs.List.{list_any, list_all}
use Rattle.std.specs.FinMap.{entries}
use Rattle.unicode_normalization.specs.Decompose.{decompose_canonical}
use Rattle.unicode_normalization.specs.Order.{is_starter}
use Rattle.uca_model.specs.Table.{ElementTable}

-- two code points or more, of which it is the first
abbrev pub is_longer_from : ℕ → List ℕ → Bool
is_longer_from p [] = false
is_longer_from p (x ∷ []) = false
is_longer_from p (x ∷ y ∷ key) = x == p

-- it is the first code point
abbrev pub is_first : ℕ → List ℕ → Bool
is_first p [] = false
is_first p (x ∷ key) = x == p

-- it comes after the first code point
abbrev pub is_inside : ℕ → List ℕ → Bool
is_inside p key = list_any (λ x. x == p) (drop 1 key)

-- some key of two code points or more begins with it
unfoldable pub leads : ElementTable → ℕ → Bool
leads t p = list_any (λ e. is_longer_from p e.0) (entries t.entries)

-- some key begins with it
unfoldable pub begins : ElementTable → ℕ → Bool
begins t p = list_any (λ e. is_first p e.0) (entries t.entries)

-- it is in some key at the second place or later
unfoldable pub continues : ElementTable → ℕ → Bool
continues t p = list_any (λ e. is_inside p e.0) (entries t.entries)

-- the code point is in the key before its last place
abbrev pub is_before_last : ℕ → List ℕ → Bool
is_before_last s [] = false
is_before_last s (x ∷ []) = false
is_before_last s (x ∷ y ∷ key) = x == s || is_before_last s (y ∷ key)

-- no match that began before the code point goes on after it
abbrev pub ends_matches : ElementTable → ℕ → Bool
ends_matches t s = list_all (λ entry. not (is_before_last s (drop 1 entry.0))) (entries t.entries)

-- the last code point is a starter
abbrev pub ends_in_starter : List ℕ → Bool
ends_in_starter [] = false
ends_in_starter (x ∷ []) = is_starter x
ends_in_starter (x ∷ y ∷ xs) = ends_in_starter (y ∷ xs)

-- how a text that begins with these code points may join what comes before it: 0 not at all, 1 in a key, 2 as nonstarters too
abbrev pub joining_of : ElementTable → List ℕ → ℕ
joining_of t [] = 2
joining_of t (s ∷ ds) = if is_starter s then (if continues t s then 1 else 0) else 2

-- the last code point is a starter after which no match goes on that began before it
abbrev pub ends_all_matches : ElementTable → List ℕ → Bool
ends_all_matches t [] = false
ends_all_matches t (x ∷ []) = is_starter x && ends_matches t x
ends_all_matches t (x ∷ y ∷ xs) = ends_all_matches t (y ∷ xs)

-- which of these the code points bear after them, and 3 where they bear all, whatever comes before them
abbrev pub bearing_of : ElementTable → List ℕ → ℕ
bearing_of t ds = if list_all (λ p. not (leads t p)) ds then (if ends_all_matches t ds then 3 else if ends_in_starter ds then 2 else 1) else 0

abbrev pub joining : ElementTable → ℕ → ℕ
joining t c = joining_of t (decompose_canonical c)

abbrev pub bearing : ElementTable → ℕ → ℕ
bearing t c = bearing_of t (decompose_canonical c)

-- the elements of a character do not depend on what follows it
abbrev pub stands_alone : ElementTable → ℕ → List ℕ → Bool
stands_alone t c [] = true
stands_alone t c (n ∷ x) = nat_le (joining t n) (bearing t c)
