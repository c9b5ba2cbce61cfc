-- The collation elements of a text in NFD (UTS #10, 7.2, Produce Collation Element Arrays, step S2).
use Rattle.std.specs.Prelude.{ℕ, zero, suc, Bool, false, nat_eq, List, [], ◌∷◌, length, take, drop, slice_index, flat_map, unwrap_or, if◌then◌else◌}
use Rattle.uca_weights.specs.declared.element.Element.{Element}
use Rattle.uca_model.specs.Table.{ElementTable, elements_at, is_key}
use Rattle.uca_model.specs.ImplicitWeights.{implicit}
use Rattle.uca_model.specs.Match.{Match, Step, longest_match_len, longest_match, discontiguous_match}

-- a code point that begins no key is taken alone; that no nonstarter is tried with it is this project's own rule
abbrev pub took_alone : List ℕ → Step
took_alone xs = record { matched = record { code_points = take 1 xs; found = false }; rest = drop 1 xs }

-- S2.1: the match at the front of a text, and what is left; a code point that begins no key is taken alone, and no nonstarter is tried with it
abbrev pub step : (List ℕ → Bool) → List ℕ → Step
step is_key xs = if nat_eq (longest_match_len is_key xs) 0 then took_alone xs else discontiguous_match is_key (longest_match is_key xs) [] (drop (longest_match_len is_key xs) xs)

-- S2: the matches of a text, in at most n steps
unfoldable pub matches_within : ℕ → (List ℕ → Bool) → List ℕ → List Match
matches_within zero is_key xs = []
matches_within (suc n) is_key [] = []
matches_within (suc n) is_key (x ∷ xs) = (step is_key (x ∷ xs)).matched ∷ matches_within n is_key (step is_key (x ∷ xs)).rest

-- S2: all matches of a text; each step takes a code point or more
abbrev pub matches : (List ℕ → Bool) → List ℕ → List Match
matches is_key xs = matches_within (length xs) is_key xs

-- S2.2: the elements that the table has for code points, and else the implicit ones of the first
abbrev pub elements_or_implicit : ElementTable → List ℕ → List Element
elements_or_implicit t key = unwrap_or (elements_at t key) (implicit t (slice_index key 0))

-- S2: the elements of a text in NFD, match after match
abbrev pub elements : ElementTable → List ℕ → List Element
elements t xs = flat_map (λ m. elements_or_implicit t m.code_points) (matches (is_key t) xs)
