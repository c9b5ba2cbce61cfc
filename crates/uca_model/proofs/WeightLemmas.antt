-- The weights that a table of weights of sixteen bits, such as every valid one, gives a text of characters have sixteen bits.
use Rattle.std.proofs.Common.{◌≡◌, ℕ, suc, zero, ◌-◌, ◌^◌, ◌≤◌, ◌<◌, Bool, true, false, cond, not, ◌&&◌, ◌||◌, ◌==◌, nat_eq, List, [], ◌∷◌, ◌++◌, length, take, drop, get_or, slice_index, All, Option, Some, None, unwrap_or, refl, sym, subst, arith, inl, inr, ne_eqb}
use Rattle.std.proofs.lemmas.Bool.{cases_Bool, eqb-false, cond-false}
use Rattle.std.proofs.lemmas.List.Elements.{recursion_from_All}
use Rattle.std.specs.Char.{IsScalar}
use Rattle.std.specs.List.{AllByRecursion}
use Rattle.std.specs.Option.{option_map_or}
use Rattle.unicode_normalization.specs.Forms.{nfd}
use Rattle.unicode_normalization.specs.Order.{is_starter}
use Rattle.uca_weights.specs.declared.element.Element.{Element}
use Rattle.uca_weights.specs.declared.range.Ideographs.{Ideographs}
use Rattle.uca_weights.specs.declared.range.Range.{Range}
use Rattle.uca_weights.specs.declared.settings.Settings.{Settings}
use Rattle.uca_weights.specs.declared.settings.Variable.{Variable}
use Rattle.uca_weights.specs.declared.settings.Variable.TheVariants.{NonIgnorable, Blanked, Shifted}
use Rattle.uca_weights.specs.Element.{is_variable, is_completely_ignorable}
use Rattle.uca_weights.specs.VariableWeighting.{is_after_variable, unchanged, ignored, weights, weighted_after, weighted}
use Rattle.uca_model.specs.Table.{ElementTable, elements_at, is_key, IsElement, IsRange, AreRanges, IsTable}
use Rattle.uca_model.specs.Match.{Step, longest_match_len, is_blocked, discontiguous_match}
use Rattle.uca_model.specs.ImplicitWeights.{is_assigned, is_between, is_unified_ideograph, in_some, core_blocks, range_of, lowest_first, in_range, in_two_parts, two_parts_base, implicit_over}
use Rattle.uca_model.specs.CollationElements.{step, elements, elements_or_implicit}
use Rattle.uca_model.specs.LevelWeights.{level_weights, level_list}
use Rattle.uca_model.specs.Laws.{AreWeights, AreCodePoints}
use Rattle.uca_model.proofs.CharacterLemmas.{nfd-scalars, scalar-small}
use Rattle.uca_model.proofs.ImplicitLemmas.{found, offset_below}
use Rattle.uca_model.proofs.RewritingLemmas.{elements_nil, elements_step, step_shorter}
use Rattle.uca_model.proofs.TableLemmas.{IsEntry-elements_at}

-- what a text has at its levels fits the bytes of a key
pub record HasWeights (t : ElementTable) (s : Settings) (text : List ℕ) : Type 0 where
  pub weights : (level : ℕ) → 1 ≤ level → level < 5 → AreWeights (level_list t s.weighting text level)
  pub points : AreCodePoints (nfd text)

-- a table whose weights have sixteen bits, whatever its keys are
pub record Fits (t : ElementTable) : Type 0 where
  pub ranges : AreRanges t.ranges
  pub entries : (key : List ℕ) (es : List Element) → elements_at t key ≡ Some es → AllByRecursion IsElement es

pub Fits-IsTable : (t : ElementTable) → IsTable t → Fits t
Fits-IsTable t table = record { ranges = table.ranges; entries = λ key es e. recursion_from_All IsElement es (IsEntry-elements_at t key es table e).elements }

-- ---- parts of lists

module _ {X : Type 0} (P : X → Type 0) where
  pub each-append : (xs ys : List X) → AllByRecursion P xs → AllByRecursion P ys → AllByRecursion P (xs ++ ys)
  each-append [] ys a b = b
  each-append (x ∷ xs) ys a b = (a.0, each-append xs ys a.1 b)

  pub each-take : (n : ℕ) (xs : List X) → AllByRecursion P xs → AllByRecursion P (take n xs)
  each-take zero xs all = tt
  each-take (suc n) [] all = tt
  each-take (suc n) (x ∷ xs) all = (all.0, each-take n xs all.1)

  pub each-drop : (n : ℕ) (xs : List X) → AllByRecursion P xs → AllByRecursion P (drop n xs)
  each-drop zero xs all = all
  each-drop (suc n) [] all = tt
  each-drop (suc n) (x ∷ xs) all = each-drop n xs all.1

  pub each-at : (xs : List X) (i : ℕ) (d : X) → P d → AllByRecursion P xs → P (get_or xs i d)
  each-at [] i d last all = last
  each-at (x ∷ xs) zero d last all = all.0
  each-at (x ∷ xs) (suc i) d last all = each-at xs i d last all.1

  pub each-weaker : (Q : X → Type 0) → ((x : X) → P x → Q x) → (xs : List X) → AllByRecursion P xs → AllByRecursion Q xs
  each-weaker Q f [] all = tt
  each-weaker Q f (x ∷ xs) all = (f x all.0, each-weaker Q f xs all.1)

-- ---- the code points of a match are those of the text

-- the code points that a step takes and leaves
abbrev pub OfSuch : (ℕ → Type 0) → Step → Type 0
OfSuch P s = AllByRecursion P s.matched.code_points × AllByRecursion P s.rest

module _ (P : ℕ → Type 0) (is_key : List ℕ → Bool) where
  -- of either of two steps
  one_of : (b : Bool) (x y : Step) → OfSuch P x → OfSuch P y → OfSuch P (cond b x y)
  one_of true x y h g = h
  one_of false x y h g = g

  -- an extension has no code points but those of the start, those passed over and those left
  discontiguous_match-such : (s passed cs : List ℕ) → AllByRecursion P s → AllByRecursion P passed → AllByRecursion P cs → OfSuch P (discontiguous_match is_key s passed cs)
  unfolding discontiguous_match
  discontiguous_match-such s passed [] a b c = (a, b)
  discontiguous_match-such s passed (x ∷ xs) a b c =
      let one : AllByRecursion P (x ∷ []) = (c.0, tt) in
      one_of (is_starter x) _ _ (a, each-append P passed (x ∷ xs) b c)
      (one_of (not (is_blocked passed x) && is_key (s ++ x ∷ [])) _ _
      (discontiguous_match-such (s ++ x ∷ []) passed xs (each-append P s (x ∷ []) a one) b c.1)
      (discontiguous_match-such s (passed ++ x ∷ []) xs a (each-append P passed (x ∷ []) b one) c.1))

  -- a step has no code points but those of the text
  pub step-such : (xs : List ℕ) → AllByRecursion P xs → OfSuch P (step is_key xs)
  step-such xs all =
      let n = longest_match_len is_key xs in
      one_of (nat_eq n 0) _ _ (each-take P 1 xs all, each-drop P 1 xs all) (discontiguous_match-such (take n xs) [] (drop n xs) (each-take P n xs all) tt (each-drop P n xs all))

-- ---- elements

-- weights by the code point have sixteen bits
in_two_parts-elements : (base c : ℕ) → base ≤ 0xFBC0 → c < 0x110000 → AllByRecursion IsElement (in_two_parts base c)
in_two_parts-elements base c low scalar =
    (record { l1 = omega arith; l2 = omega arith; l3 = omega arith }, (record { l1 = omega arith; l2 = omega arith; l3 = omega arith }, tt))

-- no base is above that of all else
two_parts_base-within : (added : List Ideographs) (c : ℕ) → two_parts_base added c ≤ 0xFBC0
two_parts_base-within added c = of_tests (is_unified_ideograph added c) (in_some core_blocks c)
  where
    of_tests : (unified core : Bool) → cond unified (cond core 0xFB40 0xFB80) 0xFBC0 ≤ 0xFBC0
    of_tests true true = omega arith
    of_tests true false = omega arith
    of_tests false core = omega arith

-- weights by a range have sixteen bits
in_range-elements : (rs : List Range) (c : ℕ) (r : Range) → AreRanges rs → range_of rs c ≡ Some r → AllByRecursion IsElement (in_range rs c r)
in_range-elements rs c r ranges e =
    let own = (found IsRange (λ s. is_between s.first s.last c) rs r ranges.each e).0 in
    let below : c - lowest_first rs r.base r.first < 0x8000 = offset_below rs c r ranges e in
    (record { l1 = own.base; l2 = omega arith; l3 = omega arith }, (record { l1 = omega arith; l2 = omega arith; l3 = omega arith }, tt))

-- implicit elements have weights of sixteen bits
implicit_over-elements : (rs : List Range) (added : List Ideographs) (c : ℕ) → AreRanges rs → c < 0x110000 → AllByRecursion IsElement (implicit_over rs added c)
unfolding implicit_over
implicit_over-elements rs added c ranges small = by_test (is_assigned c)
  where
    by_code_point : AllByRecursion IsElement (in_two_parts (two_parts_base added c) c)
    by_code_point = in_two_parts-elements (two_parts_base added c) c (two_parts_base-within added c) small

    by_range : (o : Option Range) → range_of rs c ≡ o → AllByRecursion IsElement (option_map_or (in_range rs c) o (in_two_parts (two_parts_base added c) c))
    by_range None e = by_code_point
    by_range (Some r) e = in_range-elements rs c r ranges e

    by_test : (b : Bool) → AllByRecursion IsElement (cond b (option_map_or (in_range rs c) (range_of rs c) (in_two_parts (two_parts_base added c) c)) (in_two_parts (two_parts_base added c) c))
    by_test true = by_range (range_of rs c) refl
    by_test false = by_code_point

-- no code point is above the last one
abbrev pub IsSmall : ℕ → Type 0
IsSmall c = c < 0x110000

-- the elements of a match have weights of sixteen bits
elements_or_implicit-elements : (t : ElementTable) (key : List ℕ) → Fits t → AllByRecursion IsSmall key → AllByRecursion IsElement (elements_or_implicit t key)
elements_or_implicit-elements t key table small = of_answer (elements_at t key) refl
  where
    of_answer : (o : Option (List Element)) → elements_at t key ≡ o → AllByRecursion IsElement (unwrap_or o (implicit_over t.ranges t.ideographs (slice_index key 0)))
    of_answer None e = implicit_over-elements t.ranges t.ideographs (slice_index key 0) table.ranges (each-at IsSmall key 0 0 (omega arith) small)
    of_answer (Some es) e = table.entries key es e

-- the same of a text of at most n code points
elements-within : (n : ℕ) (t : ElementTable) (xs : List ℕ) → length xs ≤ n → Fits t → AllByRecursion IsSmall xs → AllByRecursion IsElement (elements t xs)
elements-within n t [] few table small = subst (AllByRecursion IsElement) (sym (elements_nil t)) tt
elements-within zero t (x ∷ xs) few table small = absurd (omega arith)
elements-within (suc n) t (x ∷ xs) few table small =
    let parts = step-such IsSmall (is_key t) (x ∷ xs) small in
    let shorter : length (step (is_key t) (x ∷ xs)).rest < suc (length xs) = step_shorter (is_key t) (x ∷ xs) (omega arith) in
    subst (AllByRecursion IsElement) (sym (elements_step t (x ∷ xs) (omega arith)))
    (each-append IsElement _ _ (elements_or_implicit-elements t (step (is_key t) (x ∷ xs)).matched.code_points table parts.0)
    (elements-within n t (step (is_key t) (x ∷ xs)).rest (omega arith) table parts.1))

-- the elements of a text of characters have weights of sixteen bits
pub elements-IsElement : (t : ElementTable) (xs : List ℕ) → Fits t → AllByRecursion IsSmall xs → AllByRecursion IsElement (elements t xs)
elements-IsElement t xs = elements-within (length xs) t xs (omega arith)

-- ---- weights

-- a weight has sixteen bits
abbrev IsWeight : ℕ → Type 0
IsWeight w = w < 2 ^ 16

-- each row of the table of variable weighting has weights of sixteen bits
unchanged-weights : (e : Element) (fourth : ℕ) → IsElement e → fourth < 2 ^ 16 → AllByRecursion IsWeight (unchanged e fourth)
unchanged-weights e fourth h small = (h.l1, (h.l2, (h.l3, (small, tt))))

ignored-weights : (fourth : ℕ) → fourth < 2 ^ 16 → AllByRecursion IsWeight (ignored fourth)
ignored-weights fourth small = (omega arith, (omega arith, (omega arith, (small, tt))))

one_list : (b : Bool) (x y : List ℕ) → AllByRecursion IsWeight x → AllByRecursion IsWeight y → AllByRecursion IsWeight (cond b x y)
one_list true x y h g = h
one_list false x y h g = g

weights-within : (v : Variable) (after : Bool) (e : Element) → IsElement e → AllByRecursion IsWeight (weights v after e)
weights-within NonIgnorable after e h = unchanged-weights e 0 h (omega arith)
weights-within Blanked after e h = one_list (is_variable e || (e.l1 == 0 && after)) _ _ (ignored-weights 0 (omega arith)) (unchanged-weights e 0 h (omega arith))
weights-within Shifted after e h =
    one_list (is_completely_ignorable e) _ _ (ignored-weights 0 (omega arith))
    (one_list (is_variable e) _ _ (ignored-weights e.l1 h.l1)
    (one_list (e.l1 == 0 && after) _ _ (ignored-weights 0 (omega arith)) (unchanged-weights e 0xffff h (omega arith))))

-- so have all elements of a list
weighted_after-within : (v : Variable) (before es : List Element) → AllByRecursion IsElement es → AllByRecursion (AllByRecursion IsWeight) (weighted_after v before es)
weighted_after-within v before [] all = tt
weighted_after-within v before (e ∷ es) all = (weights-within v (is_after_variable before) e all.0, weighted_after-within v (before ++ e ∷ []) es all.1)

-- the weights that are left out are the zeros
pub level_weights-AreWeights : (level : ℕ) (ws : List (List ℕ)) → AllByRecursion (AllByRecursion IsWeight) ws → AreWeights (level_weights level ws)
level_weights-AreWeights level [] all = tt
level_weights-AreWeights level (w ∷ ws) all =
    let weight = slice_index w (level - 1) in
    let small : weight < 2 ^ 16 = each-at IsWeight w (level - 1) 0 (omega arith) all.0 in
    let rest = level_weights-AreWeights level ws all.1 in
    elim (cases_Bool (weight == 0)) [
      | inl none ↦ rw none rest
      | inr some ↦ let other : weight ≡ 0 → ⊥ = eqb-false weight 0 some in rw some ((omega arith, small), rest)
    ]

pub elements-fit : (t : ElementTable) (text : List ℕ) → Fits t → All IsScalar text → AllByRecursion IsElement (elements t (nfd text))
elements-fit t text table scalars = elements-IsElement t (nfd text) table (each-weaker IsScalar IsSmall scalar-small (nfd text) (nfd-scalars text scalars))

-- a text of characters whose elements have weights of sixteen bits has weights that fit, and code points that do
pub HasWeights-elements : (t : ElementTable) (s : Settings) (text : List ℕ) → All IsScalar text → AllByRecursion IsElement (elements t (nfd text)) → HasWeights t s text
HasWeights-elements t s text scalars es = record {
  weights = λ level first last.
      subst AreWeights (sym (cond-false (level == 5) _ _ (ne_eqb level 5 (λ e. absurd (omega arith)))))
      (level_weights-AreWeights level (weighted s.weighting (elements t (nfd text))) (weighted_after-within s.weighting [] (elements t (nfd text)) es));
  points = each-weaker IsScalar (λ c. c < 2 ^ 24) (λ c h. let small : c < 0x110000 = scalar-small c h in omega arith) (nfd text) (nfd-scalars text scalars);
}

pub HasWeights-Fits : (t : ElementTable) (s : Settings) (text : List ℕ) → Fits t → All IsScalar text → HasWeights t s text
HasWeights-Fits t s text table scalars = HasWeights-elements t s text scalars (elements-fit t text table scalars)

-- under a valid table so has each text of characters
pub HasWeights-IsTable : (t : ElementTable) (s : Settings) (text : List ℕ) → IsTable t → All IsScalar text → HasWeights t s text
HasWeights-IsTable t s text table = HasWeights-Fits t s text (Fits-IsTable t table)
