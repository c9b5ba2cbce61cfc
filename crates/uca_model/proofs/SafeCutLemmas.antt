-- A text that is cut before a safe starter: its level lists are those of the two parts, one after the other.
use Rattle.std.proofs.Common.{◌⊎◌, ◌≡◌, ℕ, zero, suc, ◌+◌, ◌-◌, ◌/◌, ◌%◌, ◌≤◌, ◌<◌, max, Bool, true, false, cond, not, ◌&&◌, ◌==◌, ◌||◌, nat_eq, List, [], ◌∷◌, ◌++◌, length, take, drop, map, filter, flat_map, slice_index, find, Option, Some, None, unwrap_or, All, refl, sym, ap, ap₂, subst, ◌∙◌, arith, inl, inr, append_assoc, append-nil, length-append, eqb-true, eq-eqb, ne_eqb}
use Rattle.std.proofs.lemmas.Bool.{cases_Bool, and_parts, cond-true, cond-false, eqb-false, or_right}
use Rattle.std.proofs.lemmas.List.{map-append, take-append-le, drop-append-le, drop_at, reverse-append, take-append-drop, length-take}
use Rattle.std.proofs.lemmas.List.Elements.{filter-append, All-drop}
use Rattle.std.proofs.lemmas.List.Concat.{flat_map-append}
use Rattle.std.proofs.Math.Seq.{take-append_seam, drop-append_seam}
use Rattle.std.specs.List.{AllByRecursion, list_any, list_all}
use Rattle.std.specs.FinMap.{entries, get-entries}
use Rattle.std.specs.Option.{option_map_or, is_some}
use Rattle.unicode.specs.CanonicalCombiningClass.{canonical_combining_class as ccc}
use Rattle.unicode_normalization.specs.Decompose.{decompose_canonical}
use Rattle.unicode_normalization.specs.Forms.{nfd}
use Rattle.unicode_normalization.specs.Order.{is_starter, is_reorderable, sink, canonical_order}
use Rattle.unicode_normalization.proofs.ComposeLemmas.{is_starter-true, not_starter_from}
use Rattle.unicode_normalization.proofs.OrderLemmas.{canonical_order-at_starter, canonical_order-cons, canonical_order-nil, is_reorderable-true, sink-nil, sink-past, sink-stays, sink-starter}
use Rattle.uca_weights.specs.declared.element.Element.{Element}
use Rattle.uca_weights.specs.declared.range.Ideographs.{Ideographs}
use Rattle.uca_weights.specs.declared.range.Range.{Range}
use Rattle.uca_weights.specs.declared.settings.Variable.{Variable}
use Rattle.uca_weights.specs.declared.settings.Variable.TheVariants.{NonIgnorable, Blanked, Shifted}
use Rattle.uca_weights.specs.Element.{has_primary, is_variable, is_completely_ignorable}
use Rattle.uca_weights.specs.VariableWeighting.{is_after_variable, weights, weighted_after, weighted, ignored, unchanged}
use Rattle.uca_weights.specs.declared.limits.TheConstants.{MAX_DECOMPOSITION}
use Rattle.uca_model.specs.Table.{ElementTable, is_key, elements_at, IsTable, IsRange, AreRanges}
use Rattle.uca_model.specs.Match.{Step, greatest, longest_match_len, is_blocked, discontiguous_match, took}
use Rattle.uca_model.specs.CollationElements.{step, matches_within, matches, elements, elements_or_implicit}
use Rattle.uca_model.specs.ImplicitWeights.{pair, implicit_over, is_assigned, is_unified_ideograph, in_some, core_blocks, in_two_parts, two_parts_base, in_range, range_of, is_between, lowest_first}
use Rattle.uca_model.specs.LevelWeights.{level_weights, level_list}
use Rattle.uca_model.specs.SafeText.{IsSafe, longest_run, longest_run_after}
use Rattle.uca_model.specs.SafeCut.{begins_with, begins_with_primary, keeps_apart, is_safe_starter, begins_apart, is_cut, common_front, last_cut}
use Rattle.uca_model.specs.Laws.{IsCutApart, TextsAreCutApart}
use Rattle.uca_model.proofs.ImplicitLemmas.{found}
use Rattle.uca_model.proofs.RewritingLemmas.{matches-step, elements_nil, elements_step, step_shorter}
use Rattle.uca_model.proofs.SafeLemmas.{nfd-is, runs-append, run_after}
use Rattle.uca_model.proofs.TableLemmas.{find-holds}

-- ---- what a safe starter is

-- the same of each key that a look-up finds
pub record IsSafeStarter (t : ElementTable) (s : ℕ) : Type 0 where
  pub starter : is_starter s ≡ true
  pub first : (before after : List ℕ) → 0 < length before → is_key t (before ++ s ∷ after) ≡ false
  pub primary : (after : List ℕ) (es : List Element) → elements_at t (s ∷ after) ≡ Some es → begins_with_primary es ≡ true

pub each_passes : {A : Type 0} (p : A → Bool) (xs : List A) → list_all p xs ≡ true → AllByRecursion (λ x. p x ≡ true) xs
each_passes p [] h = tt
each_passes p (x ∷ xs) h = let both = and_parts (p x) (list_all p xs) h in (both.0, each_passes p xs both.1)

stands_in : (s : ℕ) (xs ys : List ℕ) → list_any (λ c. c == s) (xs ++ s ∷ ys) ≡ true
stands_in s [] ys = rw (eq-eqb s s refl) refl
stands_in s (x ∷ xs) ys = or_right (x == s) _ (stands_in s xs ys)

not_both : (a b : Bool) → a ≡ true → (not a && b) ≡ true → ⊥
not_both true b h g = cc
not_both false b h g = cc

second_of : (a b c : Bool) → a ≡ true → (c && (not a || b)) ≡ true → b ≡ true
second_of true true c h g = refl
second_of true false true h g = cc
second_of true false false h g = cc
second_of false b c h g = cc

pub some_or_none : {A : Type 0} (P : Type 0) (o : Option A) → ((a : A) → o ≡ Some a → ⊥) → is_some o ≡ false
some_or_none P None h = refl
some_or_none P (Some a) h = absurd (h a refl)

pub safe_starter-facts : (t : ElementTable) (s : ℕ) → is_safe_starter t s ≡ true → IsSafeStarter t s
safe_starter-facts t s h =
    let both = and_parts (is_starter s) (list_all (keeps_apart s) (entries t.entries)) h in
    let each = each_passes (keeps_apart s) (entries t.entries) both.1 in
    let at : (key : List ℕ) (es : List Element) → elements_at t key ≡ Some es → keeps_apart s (key, es) ≡ true =
    λ key es e. find-holds (λ entry. keeps_apart s entry ≡ true) key es (entries t.entries) each (sym (get-entries t.entries key) ∙ e) in
    record {
      starter = both.0;
      first = λ before after some. some_or_none ⊥ (elements_at t (before ++ s ∷ after)) (λ es e. not_first before after es some (at (before ++ s ∷ after) es e));
      primary = λ after es e. second_of (begins_with s (s ∷ after)) (begins_with_primary es) _ (eq-eqb s s refl) (at (s ∷ after) es e);
    }
  where
    not_first : (before after : List ℕ) (es : List Element) → 0 < length before → keeps_apart s (before ++ s ∷ after, es) ≡ true → ⊥
    not_first [] after es some k = absurd (omega arith)
    not_first (b ∷ before) after es some k = not_both (list_any (λ c. c == s) (before ++ s ∷ after)) _ (stands_in s before after) k

-- ---- the NFD

pub nfd-first : (x : List ℕ) (c s : ℕ) (others : List ℕ) → decompose_canonical c ≡ s ∷ others → ccc s ≤ 0 → nfd (c ∷ x) ≡ s ∷ canonical_order (others ++ flat_map decompose_canonical x)
nfd-first x c s others parts starter =
    nfd-is (c ∷ x) ∙ ap (λ ds. canonical_order (ds ++ flat_map decompose_canonical x)) parts
    ∙ canonical_order-at_starter [] s (others ++ flat_map decompose_canonical x) starter
    ∙ ap (λ l. l ++ s ∷ canonical_order (others ++ flat_map decompose_canonical x)) canonical_order-nil

pub nfd-cut_text : (p x : List ℕ) (c s : ℕ) (others : List ℕ) → decompose_canonical c ≡ s ∷ others → ccc s ≤ 0 → nfd (p ++ c ∷ x) ≡ nfd p ++ nfd (c ∷ x)
nfd-cut_text p x c s others parts starter =
    let back = others ++ flat_map decompose_canonical x in
    nfd-is (p ++ c ∷ x) ∙ ap canonical_order (flat_map-append decompose_canonical p (c ∷ x))
    ∙ ap (λ ds. canonical_order (flat_map decompose_canonical p ++ (ds ++ flat_map decompose_canonical x))) parts
    ∙ canonical_order-at_starter (flat_map decompose_canonical p) s back starter
    ∙ ap₂ (λ u v. u ++ v) (sym (nfd-is p)) (sym (nfd-first x c s others parts starter))

-- ---- the matches

greatest-same : (p q : ℕ → Bool) (m : ℕ) → ((k : ℕ) → k ≤ m → p k ≡ q k) → greatest p m ≡ greatest q m
greatest-same p q zero h = refl
greatest-same p q (suc m) h = ap₂ (λ b n. cond b (suc m) n) (h (suc m) (omega arith)) (greatest-same p q m (λ k le. h k (omega arith)))

greatest-more : (p q : ℕ → Bool) (m n : ℕ) → ((k : ℕ) → k ≤ m → p k ≡ q k) → ((k : ℕ) → m < k → p k ≡ false) → greatest p (n + m) ≡ greatest q m
greatest-more p q m zero h none = (let e : zero + m ≡ m = omega arith in ap (greatest p) e) ∙ greatest-same p q m h
greatest-more p q m (suc n) h none =
    (let e : suc n + m ≡ suc (n + m) = omega arith in ap (greatest p) e)
    ∙ cond-false _ _ _ (none (suc (n + m)) (omega arith)) ∙ greatest-more p q m n h none

pub greatest-within : (p : ℕ → Bool) (m : ℕ) → greatest p m ≤ m
greatest-within p zero = omega arith
greatest-within p (suc m) =
    elim (cases_Bool (p (suc m))) [
      | inl here ↦ let e : greatest p (suc m) ≡ suc m = cond-true _ _ _ here in omega arith
      | inr later ↦ let e : greatest p (suc m) ≡ greatest p m = cond-false _ _ _ later in omega (arith, greatest-within p m)
    ]

pub take_past : (xs ys : List ℕ) (n : ℕ) → length xs ≤ n → take n (xs ++ ys) ≡ xs ++ take (n - length xs) ys
take_past [] ys n h = let e : n ≡ n - 0 = omega arith in ap (λ k. take k ys) e
take_past (x ∷ xs) ys zero h = absurd (omega arith)
take_past (x ∷ xs) ys (suc n) h = ap (λ l. x ∷ l) (take_past xs ys n (omega arith)) ∙ (let e : n - length xs ≡ suc n - suc (length xs) = omega arith in ap (λ k. x ∷ (xs ++ take k ys)) e)

take_some : (s : ℕ) (ys : List ℕ) (n : ℕ) → 0 < n → take n (s ∷ ys) ≡ s ∷ take (n - 1) ys
take_some s ys zero h = absurd (omega arith)
take_some s ys (suc n) h = let e : n ≡ suc n - 1 = omega arith in ap (λ k. s ∷ take k ys) e

-- what follows a rest
abbrev pub with_more : List ℕ → Step → Step
with_more ys r = record r { rest = r.rest ++ ys }

-- a match ends before a starter
module _ (key : List ℕ → Bool) (s : ℕ) (ys : List ℕ) (starter : is_starter s ≡ true) where
  pub discontiguous_match-cut : (front passed cs : List ℕ) → discontiguous_match key front passed (cs ++ s ∷ ys) ≡ with_more (s ∷ ys) (discontiguous_match key front passed cs)
  unfolding discontiguous_match
  discontiguous_match-cut front passed [] = cond-true _ _ _ starter
  discontiguous_match-cut front passed (c ∷ cs) =
      elim (cases_Bool (is_starter c)) [
        | inl stops ↦ cond-true _ _ _ stops ∙ ap (took front) (sym (append_assoc passed (c ∷ cs) (s ∷ ys))) ∙ sym (ap (with_more (s ∷ ys)) (cond-true _ _ _ stops))
        | inr mark ↦
            let test = not (is_blocked passed c) && key (front ++ c ∷ []) in
            elim (cases_Bool test) [
              | inl takes ↦ cond-false _ _ _ mark ∙ cond-true _ _ _ takes ∙ discontiguous_match-cut (front ++ c ∷ []) passed cs ∙ sym (ap (with_more (s ∷ ys)) (cond-false _ _ _ mark ∙ cond-true _ _ _ takes))
              | inr leaves ↦ cond-false _ _ _ mark ∙ cond-false _ _ _ leaves ∙ discontiguous_match-cut front (passed ++ c ∷ []) cs ∙ sym (ap (with_more (s ∷ ys)) (cond-false _ _ _ mark ∙ cond-false _ _ _ leaves))
            ]
      ]

module _ (key : List ℕ → Bool) (s : ℕ) (ys : List ℕ) (starter : is_starter s ≡ true) (across : (before after : List ℕ) → 0 < length before → key (before ++ s ∷ after) ≡ false) where
  longest_match_len-cut : (xs : List ℕ) → 0 < length xs → longest_match_len key (xs ++ s ∷ ys) ≡ longest_match_len key xs
  longest_match_len-cut xs some =
      (let e : length (xs ++ s ∷ ys) ≡ suc (length ys) + length xs = omega (arith, length-append xs (s ∷ ys)) in ap (greatest (λ n. key (take n (xs ++ s ∷ ys)))) e)
      ∙ greatest-more (λ n. key (take n (xs ++ s ∷ ys))) (λ n. key (take n xs)) (length xs) (suc (length ys)) (λ k le. ap key (take-append-le k xs (s ∷ ys) le))
      (λ k more. ap key (take_past xs (s ∷ ys) k (omega arith) ∙ ap (λ l. xs ++ l) (take_some s ys (k - length xs) (omega arith))) ∙ across xs (take (k - length xs - 1) ys) some)

  -- a step before the cut does not see what follows it
  step-cut : (xs : List ℕ) → 0 < length xs → step key (xs ++ s ∷ ys) ≡ with_more (s ∷ ys) (step key xs)
  step-cut [] some = absurd (omega arith)
  step-cut (x ∷ xs) some =
      let all = x ∷ xs in
      let n = longest_match_len key all in
      let same = longest_match_len-cut all some in
      let within : n ≤ length all = greatest-within (λ k. key (take k all)) (length all) in
      elim (cases_Bool (nat_eq n 0)) [
        | inl none ↦ cond-true _ _ _ (ap (λ k. nat_eq k 0) same ∙ none) ∙ sym (ap (with_more (s ∷ ys)) (cond-true _ _ _ none))
        | inr found ↦
            cond-false _ _ _ (ap (λ k. nat_eq k 0) same ∙ found)
            ∙ ap (λ k. discontiguous_match key (take k (all ++ s ∷ ys)) [] (drop k (all ++ s ∷ ys))) same
            ∙ ap₂ (λ f r. discontiguous_match key f [] r) (take-append-le n all (s ∷ ys) within) (drop-append-le n all (s ∷ ys) within)
            ∙ discontiguous_match-cut key s ys starter (take n all) [] (drop n all)
            ∙ sym (ap (with_more (s ∷ ys)) (cond-false _ _ _ found))
      ]

  -- the matches of a text are those before the cut, and those after it
  matches-cut : (fuel : ℕ) (xs : List ℕ) → length xs ≤ fuel → matches key (xs ++ s ∷ ys) ≡ matches key xs ++ matches key (s ∷ ys)
  unfolding matches_within
  matches-cut fuel [] h = refl
  matches-cut zero (x ∷ xs) h = absurd (omega arith)
  matches-cut (suc fuel) (x ∷ xs) h =
      let here = step key (x ∷ xs) in
      let cut = step-cut (x ∷ xs) (omega arith) in
      let less : length here.rest < length (x ∷ xs) = step_shorter key (x ∷ xs) (omega arith) in
      matches-step key x (xs ++ s ∷ ys) ∙ ap (λ (r : Step). r.matched ∷ matches key r.rest) cut
      ∙ ap (λ l. here.matched ∷ l) (matches-cut fuel here.rest (omega arith))
      ∙ sym (ap (λ l. l ++ matches key (s ∷ ys)) (matches-step key x xs))

-- ---- the elements

pub elements-cut : (t : ElementTable) (xs : List ℕ) (s : ℕ) (ys : List ℕ) → IsSafeStarter t s → elements t (xs ++ s ∷ ys) ≡ elements t xs ++ elements t (s ∷ ys)
elements-cut t xs s ys safe =
    ap (flat_map (λ m. elements_or_implicit t m.code_points)) (matches-cut (is_key t) s ys safe.starter safe.first (length xs) xs (omega arith))
    ∙ flat_map-append (λ m. elements_or_implicit t m.code_points) (matches (is_key t) xs) (matches (is_key t) (s ∷ ys))

-- ---- the weights

-- whether the place after an element is after a variable, by whether the place of the element is
abbrev moved_on : Bool → Element → Bool
moved_on after e = cond (has_primary e) (is_variable e) after

-- the weights of elements, by whether the first follows a variable
abbrev weighted_by : Variable → Bool → List Element → List (List ℕ)
weighted_by v after [] = []
weighted_by v after (e ∷ es) = weights v after e ∷ weighted_by v (moved_on after e) es

after_one_more : (before : List Element) (e : Element) → is_after_variable (before ++ e ∷ []) ≡ moved_on (is_after_variable before) e
after_one_more before e =
    ap (λ l. option_map_or is_variable (find has_primary l) false) (reverse-append before (e ∷ []))
    ∙ elim (cases_Bool (has_primary e)) [
      | inl some ↦ ap (λ o. option_map_or is_variable o false) (cond-true _ _ _ some) ∙ sym (cond-true _ _ _ some)
      | inr none ↦ ap (λ o. option_map_or is_variable o false) (cond-false _ _ _ none) ∙ sym (cond-false _ _ _ none)
    ]

weighted_after-by : (v : Variable) (before es : List Element) → weighted_after v before es ≡ weighted_by v (is_after_variable before) es
weighted_after-by v before [] = refl
weighted_after-by v before (e ∷ es) =
    ap (λ ws. weights v (is_after_variable before) e ∷ ws) (weighted_after-by v (before ++ e ∷ []) es ∙ ap (λ b. weighted_by v b es) (after_one_more before e))

weighted_after-append : (v : Variable) (before es fs : List Element) → weighted_after v before (es ++ fs) ≡ weighted_after v before es ++ weighted_after v (before ++ es) fs
weighted_after-append v before [] fs = ap (λ b. weighted_after v b fs) (sym (append-nil before))
weighted_after-append v before (e ∷ es) fs =
    ap (λ ws. weights v (is_after_variable before) e ∷ ws)
    (weighted_after-append v (before ++ e ∷ []) es fs ∙ ap (λ b. weighted_after v (before ++ e ∷ []) es ++ weighted_after v b fs) (append_assoc before (e ∷ []) es))

-- an element with a primary weight does not depend on whether it follows a variable
weights-primary : (v : Variable) (after : Bool) (e : Element) → has_primary e ≡ true → weights v after e ≡ weights v false e
weights-primary NonIgnorable after e some = refl
weights-primary Blanked after e some = ap (λ b. cond (is_variable e || b) (ignored 0) (unchanged e 0)) (no_zero (e.l1 == 0) after some)
  where
    no_zero : (b a : Bool) → not b ≡ true → (b && a) ≡ (b && false)
    no_zero true a h = cc
    no_zero false a h = refl
weights-primary Shifted after e some =
    ap (λ b. cond (is_completely_ignorable e) (ignored 0) (cond (is_variable e) (ignored e.l1) (cond b (ignored 0) (unchanged e 0xffff)))) (no_zero (e.l1 == 0) after some)
  where
    no_zero : (b a : Bool) → not b ≡ true → (b && a) ≡ (b && false)
    no_zero true a h = cc
    no_zero false a h = refl

weighted_by-primary : (v : Variable) (after : Bool) (e : Element) (es : List Element) → has_primary e ≡ true → weighted_by v after (e ∷ es) ≡ weighted_by v false (e ∷ es)
weighted_by-primary v after e es some = ap₂ (λ w a. w ∷ weighted_by v a es) (weights-primary v after e some) (cond-true _ _ _ some ∙ sym (cond-true _ _ _ some))

-- elements that begin with a primary weight are weighted as if they were alone
pub weighted-cut : (v : Variable) (es : List Element) (e : Element) (fs : List Element) → has_primary e ≡ true → weighted v (es ++ e ∷ fs) ≡ weighted v es ++ weighted v (e ∷ fs)
weighted-cut v es e fs some =
    weighted_after-append v [] es (e ∷ fs)
    ∙ ap (λ ws. weighted v es ++ ws) (weighted_after-by v es (e ∷ fs) ∙ weighted_by-primary v (is_after_variable es) e fs some ∙ sym (weighted_after-by v [] (e ∷ fs)))

level_weights-append : (level : ℕ) (us vs : List (List ℕ)) → level_weights level (us ++ vs) ≡ level_weights level us ++ level_weights level vs
level_weights-append level us vs =
    ap (filter (λ w. not (w == 0))) (map-append (λ (w : List ℕ). slice_index w (level - 1)) us vs)
    ∙ filter-append (λ w. not (w == 0)) (map (λ (w : List ℕ). slice_index w (level - 1)) us) (map (λ (w : List ℕ). slice_index w (level - 1)) vs)

-- ---- the first element after the cut

-- elements of which the first has a primary weight
record BeginsPrimary (es : List Element) : Type 0 where
  first : Element
  others : List Element
  same : es ≡ first ∷ others
  some : has_primary first ≡ true

begins-pair : (a b : ℕ) → 0 < a → BeginsPrimary (pair a b)
begins-pair a b h = record {
  first = record { starred = false; l1 = a; l2 = 0x20; l3 = 2 };
  others = record { starred = false; l1 = b; l2 = 0; l3 = 0 } ∷ [];
  same = refl;
  some = ap not (ne_eqb a 0 (λ e. absurd (omega arith)));
}

begins-cond : (b : Bool) (x y : List Element) → BeginsPrimary x → BeginsPrimary y → BeginsPrimary (cond b x y)
begins-cond true x y h g = h
begins-cond false x y h g = g

base_some : (b d : Bool) (n : ℕ) → 0 < cond b (cond d 0xFB40 0xFB80) 0xFBC0 + n
base_some true true n = omega arith
base_some true false n = omega arith
base_some false d n = omega arith

begins-implicit : (rs : List Range) (added : List Ideographs) (c : ℕ) → AreRanges rs → BeginsPrimary (implicit_over rs added c)
unfolding implicit_over
begins-implicit rs added c ranges = begins-cond (is_assigned c) _ _ (by_range (range_of rs c) refl) by_point
  where
    by_point : BeginsPrimary (in_two_parts (two_parts_base added c) c)
    by_point = begins-pair _ (c % 0x8000 + 0x8000) (base_some (is_unified_ideograph added c) (in_some core_blocks c) (c / 0x8000))

    by_range : (o : Option Range) → range_of rs c ≡ o → BeginsPrimary (option_map_or (in_range rs c) o (in_two_parts (two_parts_base added c) c))
    by_range None e = by_point
    by_range (Some r) e = begins-pair r.base (c - lowest_first rs r.base r.first + 0x8000) (let at : IsRange r = (found IsRange (λ q. is_between q.first q.last c) rs r ranges.each e).0 in omega (arith, at.above))

-- a match begins with what it began with
pub record BeginsLike (front xs : List ℕ) : Type 0 where
  pub after : List ℕ
  pub same : xs ≡ front ++ after

with_cond : (b : Bool) (front : List ℕ) (x y : Step) → BeginsLike front x.matched.code_points → BeginsLike front y.matched.code_points → BeginsLike front (cond b x y).matched.code_points
with_cond true front x y h g = h
with_cond false front x y h g = g

discontiguous_match-begins : (key : List ℕ → Bool) (front passed cs : List ℕ) → BeginsLike front (discontiguous_match key front passed cs).matched.code_points
unfolding discontiguous_match
discontiguous_match-begins key front passed [] = record { after = []; same = sym (append-nil front) }
discontiguous_match-begins key front passed (c ∷ cs) =
    let taken = discontiguous_match-begins key (front ++ c ∷ []) passed cs in
    with_cond (is_starter c) front _ _ (record { after = []; same = sym (append-nil front) })
    (with_cond (not (is_blocked passed c) && key (front ++ c ∷ [])) front _ _
    (record { after = c ∷ taken.after; same = taken.same ∙ append_assoc front (c ∷ []) taken.after })
    (discontiguous_match-begins key front (passed ++ c ∷ []) cs))

pub step-begins : (key : List ℕ → Bool) (s : ℕ) (ys : List ℕ) → BeginsLike (s ∷ []) (step key (s ∷ ys)).matched.code_points
step-begins key s ys =
    let n = longest_match_len key (s ∷ ys) in
    elim (cases_Bool (nat_eq n 0)) [
      | inl none ↦ record { after = []; same = ap (λ (r : Step). r.matched.code_points) (cond-true _ _ _ none) }
      | inr some ↦
          let whole = discontiguous_match-begins key (take n (s ∷ ys)) [] (drop n (s ∷ ys)) in
          let other : n ≡ 0 → ⊥ = eqb-false n 0 some in
          record {
            after = take (n - 1) ys ++ whole.after;
            same = ap (λ (r : Step). r.matched.code_points) (cond-false _ _ _ some) ∙ whole.same ∙ ap (λ l. l ++ whole.after) (take_some s ys n (omega arith));
          }
    ]

begins-key : (t : ElementTable) (s : ℕ) (after : List ℕ) → IsTable t → IsSafeStarter t s → BeginsPrimary (elements_or_implicit t (s ∷ after))
begins-key t s after valid safe = by_entry (elements_at t (s ∷ after)) refl
  where
    by_elements : (es : List Element) → elements_at t (s ∷ after) ≡ Some es → BeginsPrimary es
    by_elements [] e = absurd (let none : false ≡ true = safe.primary after [] e in cc)
    by_elements (x ∷ es) e = record { first = x; others = es; same = refl; some = safe.primary after (x ∷ es) e }

    by_entry : (o : Option (List Element)) → elements_at t (s ∷ after) ≡ o → BeginsPrimary (unwrap_or o (implicit_over t.ranges t.ideographs s))
    by_entry None e = begins-implicit t.ranges t.ideographs s valid.ranges
    by_entry (Some es) e = by_elements es e

begins-elements : (t : ElementTable) (s : ℕ) (ys : List ℕ) → IsTable t → IsSafeStarter t s → BeginsPrimary (elements t (s ∷ ys))
begins-elements t s ys valid safe =
    let r = step (is_key t) (s ∷ ys) in
    let key = step-begins (is_key t) s ys in
    let first = subst (λ k. BeginsPrimary (elements_or_implicit t k)) (sym key.same) (begins-key t s key.after valid safe) in
    record {
      first = first.first;
      others = first.others ++ elements t r.rest;
      same = elements_step t (s ∷ ys) (omega arith) ∙ ap (λ es. es ++ elements t r.rest) first.same;
      some = first.some;
    }

-- ---- the lists of a text that is cut

weights-cut : (t : ElementTable) (v : Variable) (level : ℕ) (xs : List ℕ) (s : ℕ) (ys : List ℕ) → IsTable t → IsSafeStarter t s
    → level_weights level (weighted v (elements t (xs ++ s ∷ ys))) ≡ level_weights level (weighted v (elements t xs)) ++ level_weights level (weighted v (elements t (s ∷ ys)))
weights-cut t v level xs s ys valid safe =
    let back = begins-elements t s ys valid safe in
    ap (λ es. level_weights level (weighted v es)) (elements-cut t xs s ys safe ∙ ap (λ es. elements t xs ++ es) back.same)
    ∙ ap (level_weights level) (weighted-cut v (elements t xs) back.first back.others back.some)
    ∙ level_weights-append level (weighted v (elements t xs)) (weighted v (back.first ∷ back.others))
    ∙ ap (λ es. level_weights level (weighted v (elements t xs)) ++ level_weights level (weighted v es)) (sym back.same)

-- a character whose decomposition begins with a safe starter
pub record IsCut (t : ElementTable) (c : ℕ) : Type 0 where
  pub s : ℕ
  pub others : List ℕ
  pub parts : decompose_canonical c ≡ s ∷ others
  pub safe : IsSafeStarter t s

-- the level lists of a text are those of its front and then those of what follows the cut
pub level_list-cut : (t : ElementTable) (v : Variable) (p x : List ℕ) (c : ℕ) → IsTable t → IsCut t c → (level : ℕ) → level_list t v (p ++ c ∷ x) level ≡ level_list t v p level ++ level_list t v (c ∷ x) level
level_list-cut t v p x c valid cut level =
    let class : ccc cut.s ≤ 0 = is_starter-true cut.s cut.safe.starter in
    let whole = nfd-cut_text p x c cut.s cut.others cut.parts class in
    let back = nfd-first x c cut.s cut.others cut.parts class in
    let later = canonical_order (cut.others ++ flat_map decompose_canonical x) in
    elim (cases_Bool (level == 5)) [
      | inl five ↦ cond-true _ _ _ five ∙ whole ∙ sym (ap₂ (λ a b. a ++ b) (cond-true _ _ _ five) (cond-true _ _ _ five))
      | inr weights ↦
          cond-false _ _ _ weights
          ∙ ap (λ l. level_weights level (weighted v (elements t l))) (whole ∙ ap (λ l. nfd p ++ l) back)
          ∙ weights-cut t v level (nfd p) cut.s later valid cut.safe
          ∙ ap (λ l. level_weights level (weighted v (elements t (nfd p))) ++ level_weights level (weighted v (elements t l))) (sym back)
          ∙ sym (ap₂ (λ a b. a ++ b) (cond-false _ _ _ weights) (cond-false _ _ _ weights))
    ]

-- ---- where a character may be cut before

not_apart : (t : ElementTable) (c : ℕ) → is_starter c ≡ false → is_safe_starter t c ≡ false
not_apart t c mark = rw mark refl

sink-nonstarter : (t : ElementTable) (c : ℕ) (ds : List ℕ) → is_starter c ≡ false → begins_apart t (sink c ds) ≡ false
sink-nonstarter t c [] mark = ap (begins_apart t) (sink-nil c) ∙ not_apart t c mark
sink-nonstarter t c (d ∷ ds) mark =
    elim (cases_Bool (is_reorderable c d)) [
      | inl past ↦
          ap (begins_apart t) (sink-past c d ds past)
          ∙ not_apart t d (not_starter_from d (is_reorderable-true c d past).0)
      | inr stays ↦ ap (begins_apart t) (sink-stays c d ds stays) ∙ not_apart t c mark
    ]

-- canonical order leaves what begins with a safe starter as it begins
pub begins-ordered : (t : ElementTable) (ds : List ℕ) → begins_apart t (canonical_order ds) ≡ begins_apart t ds
begins-ordered t [] = ap (begins_apart t) canonical_order-nil
begins-ordered t (d ∷ ds) =
    elim (cases_Bool (is_starter d)) [
      | inl starter ↦ ap (begins_apart t) (canonical_order-cons d ds ∙ sink-starter d (canonical_order ds) (is_starter-true d starter))
      | inr mark ↦ ap (begins_apart t) (canonical_order-cons d ds) ∙ sink-nonstarter t d (canonical_order ds) mark ∙ sym (not_apart t d mark)
    ]

pub is_cut-parts : (t : ElementTable) (c : ℕ) → is_cut t c ≡ begins_apart t (decompose_canonical c)
is_cut-parts t c =
    ap (begins_apart t) (nfd-is (c ∷ []) ∙ ap canonical_order (append-nil (decompose_canonical c))) ∙ begins-ordered t (decompose_canonical c)

pub IsCut-from : (t : ElementTable) (c : ℕ) → is_cut t c ≡ true → IsCut t c
IsCut-from t c h = by_parts (decompose_canonical c) refl (sym (is_cut-parts t c) ∙ h)
  where
    by_parts : (ds : List ℕ) → decompose_canonical c ≡ ds → begins_apart t ds ≡ true → IsCut t c
    by_parts [] e h = cc
    by_parts (s ∷ ss) e h = record { s = s; others = ss; parts = e; safe = safe_starter-facts t s h }

-- ---- the common prefix, character after character

index_last : (xs : List ℕ) (c : ℕ) → slice_index (xs ++ c ∷ []) (length xs) ≡ c
index_last [] c = refl
index_last (x ∷ xs) c = index_last xs c

index_before : (xs ys : List ℕ) (k : ℕ) → k < length xs → slice_index (xs ++ ys) k ≡ slice_index xs k
index_before [] ys k h = absurd (omega arith)
index_before (x ∷ xs) ys zero h = refl
index_before (x ∷ xs) ys (suc k) h = index_before xs ys k (omega arith)

same_both : (b : Bool) (n : ℕ) → cond b n n ≡ n
same_both true n = refl
same_both false n = refl

pub last_cut-more : (t : ElementTable) (front : List ℕ) (c : ℕ) → last_cut t (front ++ c ∷ []) ≡ cond (is_cut t c) (length front) (last_cut t front)
last_cut-more t [] c = sym (same_both (is_cut t c) 0)
last_cut-more t (f ∷ fs) c =
    let text = f ∷ fs ++ c ∷ [] in
    let size : length text - 1 ≡ suc (length fs) = omega (arith, length-append fs (c ∷ [])) in
    let small : suc (length fs) - 1 ≡ length fs = omega arith in
    let test : ℕ → Bool = λ place. is_cut t (slice_index text place) in
    ap (greatest test) size
    ∙ ap₂ (λ b n. cond b (suc (length fs)) n) (ap (is_cut t) (index_last (f ∷ fs) c))
    (greatest-same test (λ place. is_cut t (slice_index (f ∷ fs) place)) (length fs) (λ k le. ap (is_cut t) (index_before (f ∷ fs) (c ∷ []) k (omega arith)))
    ∙ ap (greatest (λ place. is_cut t (slice_index (f ∷ fs) place))) (sym small))

-- two texts that do not begin alike
abbrev pub DiffersFirst : List ℕ → List ℕ → Type 0
DiffersFirst [] ys = Unit {0}
DiffersFirst (x ∷ xs) [] = Unit {0}
DiffersFirst (x ∷ xs) (y ∷ ys) = x ≡ y → ⊥

pub common_front-is : (front xs ys : List ℕ) → DiffersFirst xs ys → common_front (front ++ xs) (front ++ ys) ≡ front
common_front-is [] [] ys h = refl
common_front-is [] (x ∷ xs) [] h = refl
common_front-is [] (x ∷ xs) (y ∷ ys) h = cond-false _ _ _ (ne_eqb x y h)
common_front-is (f ∷ front) xs ys h = cond-true _ _ _ (eq-eqb f f refl) ∙ ap (λ l. f ∷ l) (common_front-is front xs ys h)

-- two texts begin with their common prefix
pub record InFront (front a b : List ℕ) : Type 0 where
  pub left : List ℕ
  pub right : List ℕ
  pub first : a ≡ front ++ left
  pub second : b ≡ front ++ right

pub common_front-first : (a b : List ℕ) → InFront (common_front a b) a b
common_front-first [] b = record { left = []; right = b; first = refl; second = refl }
common_front-first (x ∷ xs) [] = record { left = x ∷ xs; right = []; first = refl; second = refl }
common_front-first (x ∷ xs) (y ∷ ys) = by_test (common_front-first xs ys) (x == y) refl
  where
    by_test : InFront (common_front xs ys) xs ys → (b : Bool) → (x == y) ≡ b → InFront (cond b (x ∷ common_front xs ys) []) (x ∷ xs) (y ∷ ys)
    by_test later true e =
        record { left = later.left; right = later.right; first = ap (λ l. x ∷ l) later.first; second = ap₂ (λ c l. c ∷ l) (sym (eqb-true x y e)) later.second }
    by_test later false e = record { left = x ∷ xs; right = y ∷ ys; first = refl; second = refl }

-- ---- what follows the last cut

-- it begins with a character before which it may be cut
pub record BeginsAtCut (t : ElementTable) (xs : List ℕ) : Type 0 where
  pub c : ℕ
  pub later : List ℕ
  pub same : xs ≡ c ∷ later
  pub cut : IsCut t c

-- a front in two parts, of which the second, where there is a first, begins with a character before which it may be cut
pub record EndsAtCut (t : ElementTable) (front : List ℕ) (m : ℕ) : Type 0 where
  pub before : List ℕ
  pub after : List ℕ
  pub same : front ≡ before ++ after
  pub size : length before ≡ m
  pub begins : (before ≡ []) ⊎ BeginsAtCut t after

at_place : (xs : List ℕ) (k : ℕ) → k < length xs → drop k xs ≡ slice_index xs k ∷ drop (suc k) xs
at_place [] k h = absurd (omega arith)
at_place (x ∷ xs) zero h = refl
at_place (x ∷ xs) (suc k) h = at_place xs k (omega arith)

pub greatest-holds : (p : ℕ → Bool) (n : ℕ) → (greatest p n ≡ 0) ⊎ ((p (greatest p n) ≡ true) × (greatest p n ≤ n))
greatest-holds p zero = inl refl
greatest-holds p (suc n) =
    elim (cases_Bool (p (suc n))) [
      | inl here ↦ let e : greatest p (suc n) ≡ suc n = cond-true _ _ _ here in inr (ap p e ∙ here, omega arith)
      | inr other ↦
          let e : greatest p (suc n) ≡ greatest p n = cond-false _ _ _ other in
          elim (greatest-holds p n) [
            | inl none ↦ inl (e ∙ none)
            | inr some ↦ inr (ap p e ∙ some.0, omega (arith, some.1))
          ]
    ]

pub ends_at_cut : (t : ElementTable) (front : List ℕ) → EndsAtCut t front (last_cut t front)
ends_at_cut t front =
    let m = last_cut t front in
    elim (greatest-holds (λ place. is_cut t (slice_index front place)) (length front - 1)) [
      | inl none ↦ record { before = []; after = front; same = refl; size = sym none; begins = inl refl }
      | inr some ↦ by_size m some.0 some.1 refl
    ]
  where
    by_size : (m : ℕ) → is_cut t (slice_index front m) ≡ true → m ≤ length front - 1 → last_cut t front ≡ m → EndsAtCut t front (last_cut t front)
    by_size zero h le e = record { before = []; after = front; same = refl; size = sym e; begins = inl refl }
    by_size (suc m) h le e = record {
      before = take (suc m) front;
      after = drop (suc m) front;
      same = sym (take-append-drop (suc m) front);
      size = omega (arith, length-take (suc m) front, e);
      begins = inr (record { c = slice_index front (suc m); later = drop (suc (suc m)) front; same = at_place front (suc m) (omega arith); cut = IsCut-from t (slice_index front (suc m)) h });
    }

-- ---- the law

nothing-cut : (t : ElementTable) (v : Variable) (back : List ℕ) → IsCutApart t v [] back
nothing-cut t v back =
    record {
      decomposed = ap (λ l. l ++ nfd back) (sym none);
      elements = ap (λ l. l ++ elements t (nfd back)) (sym (ap (elements t) none ∙ elements_nil t));
      lists = λ level. ap (λ l. l ++ level_list t v back level) (sym (no_list level));
    }
  where
    none : nfd [] ≡ []
    none = nfd-is [] ∙ canonical_order-nil

    no_list : (level : ℕ) → level_list t v [] level ≡ []
    no_list level = elim (cases_Bool (level == 5)) [
      | inl five ↦ cond-true _ _ _ five ∙ none
      | inr weights ↦ cond-false _ _ _ weights ∙ ap (λ es. level_weights level (weighted v es)) (ap (elements t) none ∙ elements_nil t)
    ]

pub apart-cut : (t : ElementTable) (v : Variable) (p x : List ℕ) (c : ℕ) → IsTable t → IsCut t c → IsCutApart t v p (c ∷ x)
apart-cut t v p x c valid cut =
    let class : ccc cut.s ≤ 0 = is_starter-true cut.s cut.safe.starter in
    let whole = nfd-cut_text p x c cut.s cut.others cut.parts class in
    let back = nfd-first x c cut.s cut.others cut.parts class in
    let later = canonical_order (cut.others ++ flat_map decompose_canonical x) in
    record {
      decomposed = whole;
      elements = ap (elements t) (whole ∙ ap (λ l. nfd p ++ l) back) ∙ elements-cut t (nfd p) cut.s later cut.safe ∙ ap (λ l. elements t (nfd p) ++ elements t l) (sym back);
      lists = level_list-cut t v p x c valid cut;
    }

pub apart-after : (t : ElementTable) (v : Variable) (front left : List ℕ) (m : ℕ) → IsTable t → (ends : EndsAtCut t front m) → IsCutApart t v ends.before (ends.after ++ left)
apart-after t v front left m valid ends =
    elim ends.begins [
      | inl none ↦ subst (λ p. IsCutApart t v p (ends.after ++ left)) (sym none) (nothing-cut t v (ends.after ++ left))
      | inr some ↦ subst (λ l. IsCutApart t v ends.before (l ++ left)) (sym some.same) (apart-cut t v ends.before (some.later ++ left) some.c valid some.cut)
    ]

split_at : (t : ElementTable) (front left a : List ℕ) (m : ℕ) → (ends : EndsAtCut t front m) → a ≡ front ++ left → (take m a ≡ ends.before) × (drop m a ≡ ends.after ++ left)
split_at t front left a m ends e =
    let parts : a ≡ ends.before ++ (ends.after ++ left) = e ∙ ap (λ l. l ++ left) ends.same ∙ append_assoc ends.before ends.after left in
    let size : m ≡ length ends.before = sym ends.size in
    (ap₂ take size parts ∙ take-append_seam ends.before (ends.after ++ left), ap₂ drop size parts ∙ drop-append_seam ends.before (ends.after ++ left))

pub texts-cut : TextsAreCutApart
texts-cut t v a b valid =
    let front = common_front a b in
    let m = last_cut t front in
    let inside = common_front-first a b in
    let ends = ends_at_cut t front in
    let of_a = split_at t front inside.left a m ends inside.first in
    let of_b = split_at t front inside.right b m ends inside.second in
    record {
      same = of_a.0 ∙ sym of_b.0;
      first = subst (λ p. IsCutApart t v p (drop m a)) (sym of_a.0) (subst (λ l. IsCutApart t v ends.before l) (sym of_a.1) (apart-after t v front inside.left m valid ends));
      second = subst (λ p. IsCutApart t v p (drop m b)) (sym of_b.0) (subst (λ l. IsCutApart t v ends.before l) (sym of_b.1) (apart-after t v front inside.right m valid ends));
    }
