-- Steps of the loops that make a code of primary weights.
use Rattle.uca_key.proofs.Common.{◌≡◌, ℕ, zero, suc, ◌+◌, ◌-◌, ◌≤◌, ◌<◌, Bool, true, nat_le, nat_lt, List, [], ◌∷◌, ◌++◌, length, map, take, get_or, sym, ap, ◌∙◌, arith, append_assoc, append-nil, and_parts, leb-true, ltb-true, map-append, list_all, range_with_len, nfd, Element, ElementTable, elements, PrimaryCode, first_primary, points_of_ranges, primary_of, is_range, common_steps}
use Rattle.uca_key.specs.PrimaryCode.{code_of}
use Rattle.unicode_normalization.proofs.FormsLemmas.{normalize-nil}
use Rattle.uca_model.proofs.RewritingLemmas.{elements_nil}
use Rattle.uca_key.specs.declared.common_characters.TheConstants.{COMMON_RANGES, FIRST_LETTERS, SINGLE_CHARACTERS}

-- one number more
range-more : (f : ℕ → ℕ) (a n : ℕ) → map f (range_with_len a (n + 1)) ≡ map f (range_with_len a n) ++ f (a + n) ∷ []
range-more f a zero = let same : a + 0 ≡ a = omega arith in ap (λ x. f x ∷ []) (sym same)
range-more f a (suc n) = grind (arith, common_steps, range-more f (a + 1) n)

pub range-step : (f : ℕ → ℕ) (first point : ℕ) (before items after : List ℕ) → first ≤ point → items ≡ before ++ map f (range_with_len first (point - first)) → after ≡ items ++ f point ∷ []
    → after ≡ before ++ map f (range_with_len first (point + 1 - first))
range-step f first point before items after from so_far pushed = grind (arith, common_steps, append_assoc, range-more)

-- the first primary weight of a character that stands alone before nothing
pub alone-primary : (t : ElementTable) (c : ℕ) (es : List Element) (rest : List ℕ) → rest ≡ [] → es ++ elements t (nfd rest) ≡ elements t (nfd (c ∷ rest)) → first_primary es ≡ primary_of t c
alone-primary t c es rest end alone = grind (arith, common_steps, normalize-nil, elements_nil, append-nil)

-- the test holds at each place
pub all-at : (p : ℕ × ℕ → Bool) (rs : List (ℕ × ℕ)) (i : ℕ) (d : ℕ × ℕ) → list_all p rs ≡ true → i < length rs → p (get_or rs i d) ≡ true
all-at p [] i d h within = absurd (omega arith)
all-at p (r ∷ rs) zero d h within = (and_parts (p r) (list_all p rs) h).0
all-at p (r ∷ rs) (suc i) d h within = all-at p rs i d ((and_parts (p r) (list_all p rs) h).1) (omega arith)

-- the code points of a range
abbrev points : ℕ × ℕ → List ℕ
points r = range_with_len r.0 (r.1 + 1 - r.0)

-- one range more
ranges-more : (f : ℕ → ℕ) (rs : List (ℕ × ℕ)) (i : ℕ) (d : ℕ × ℕ) → i < length rs → map f (points_of_ranges (take (i + 1) rs)) ≡ map f (points_of_ranges (take i rs)) ++ map f (points (get_or rs i d))
ranges-more f [] i d within = absurd (omega arith)
ranges-more f (r ∷ rs) zero d within = ap (map f) (append-nil (points r))
ranges-more f (r ∷ rs) (suc i) d within = grind (arith, common_steps, map-append, append_assoc, ranges-more f rs i d (omega arith))

pub ranges-step : (f : ℕ → ℕ) (rs : List (ℕ × ℕ)) (i : ℕ) (d : ℕ × ℕ) (items after : List ℕ) → i < length rs → items ≡ map f (points_of_ranges (take i rs)) → after ≡ items ++ map f (points (get_or rs i d))
    → after ≡ map f (points_of_ranges (take (i + 1) rs))
ranges-step f rs i d items after within so_far pushed = pushed ∙ ap (λ l. l ++ map f (points (get_or rs i d))) so_far ∙ sym (ranges-more f rs i d within)

pub is_range-ordered : (r : ℕ × ℕ) → is_range r ≡ true → r.0 ≤ r.1
is_range-ordered r h = leb-true r.0 r.1 ((and_parts (nat_le r.0 r.1) (nat_lt r.1 0xD800) h).0)

pub is_range-scalars : (r : ℕ × ℕ) → is_range r ≡ true → r.1 < 55296
is_range-scalars r h = ltb-true r.1 55296 ((and_parts (nat_le r.0 r.1) (nat_lt r.1 0xD800) h).1)

abbrev pub the_code : List ℕ → List ℕ → List ℕ → PrimaryCode
the_code commons singles anchors = record { commons = commons; singles = singles; anchors = anchors }

-- a code of these weights is that of the table
pub code-made : (t : ElementTable) (commons singles anchors : List ℕ) → commons ≡ map (primary_of t) (points_of_ranges COMMON_RANGES) → singles ≡ map (primary_of t) SINGLE_CHARACTERS → anchors ≡ map (primary_of t) FIRST_LETTERS
    → the_code commons singles anchors ≡ code_of t
unfolding code_of
code-made t commons singles anchors e f g = grind (arith, common_steps)

-- what the functions that make a code need
pub ruleset code_steps = (common_steps, range-step, ranges-step, is_range-ordered, is_range-scalars, all-at)
