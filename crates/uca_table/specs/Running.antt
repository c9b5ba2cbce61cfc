-- A match that goes over the nonstarters after it, and moves those that it takes to its end.
use Rattle.std.specs.Prelude.{◌≡◌, ℕ, ◌+◌, ◌-◌, ◌≤◌, max, Bool, List, [], ◌∷◌, ◌++◌, take, drop, slice_index}
use Rattle.unicode.specs.CanonicalCombiningClass.{canonical_combining_class as ccc}
use Rattle.uca_model.specs.Match.{discontiguous_match}

-- the text with the code point at `from` moved to `to`
abbrev pub brought_forward : List ℕ → ℕ → ℕ → List ℕ
brought_forward text to from = (take to text ++ slice_index text from ∷ []) ++ (take (from - to) (drop to text) ++ drop (from + 1) text)

-- the highest combining class, 0 of nothing
abbrev pub highest_class : List ℕ → ℕ
highest_class [] = 0
highest_class (c ∷ cs) = max (ccc c) (highest_class cs)

-- what is between the end of the match and a place that was reached
abbrev pub passed_over : List ℕ → ℕ → ℕ → List ℕ
passed_over text end at = take (at - end) (drop end text)

-- the match at the front of `text` was extended up to `at`, from the first `start` code points of `old`
pub record IsExtending (is_key : List ℕ → Bool) (start : ℕ) (old text : List ℕ) (end at high : ℕ) : Type 0 where
  pub some : start ≤ end
  pub upto : end ≤ at
  pub highest : high ≡ highest_class (passed_over text end at)
  pub same : discontiguous_match is_key (take end text) (passed_over text end at) (drop at text) ≡ discontiguous_match is_key (take start old) [] (drop start old)
