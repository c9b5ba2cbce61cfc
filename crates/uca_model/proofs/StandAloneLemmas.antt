-- The elements of a character that stands alone are those of its own NFD.
use Rattle.std.proofs.Common.{◌≡◌, ℕ, zero, suc, ◌+◌, ◌-◌, ◌≤◌, ◌<◌, Bool, true, false, cond, not, ◌&&◌, ◌||◌, ◌==◌, eqb, nat_eq, List, [], ◌∷◌, ◌++◌, length, take, drop, map, flat_map, get_or, refl, sym, ap, ap₂, ◌∙◌, arith, inl, inr, append_assoc, append-nil, length-append, eqb-true}
use Rattle.std.proofs.lemmas.Bool.{cases_Bool, cond-true, cond-false, and_parts, leb-true, eq-eqb}
use Rattle.std.proofs.lemmas.List.{take-append-le, drop-append-le}
use Rattle.std.proofs.lemmas.List.Concat.{flat_map-append}
use Rattle.std.specs.List.{list_any, list_all}
use Rattle.std.specs.Ordering.{eq_by_cmp}
use Rattle.std.specs.Cmp.Lexicographic.{pointwise}
use Rattle.std.specs.FinMap.{entries, contains_key-keys}
use Rattle.uca_weights.specs.declared.element.Element.{Element}
use Rattle.unicode_normalization.specs.Decompose.{decompose_canonical}
use Rattle.std.specs.Prelude.{Option, Some, None, unwrap_or}
use Rattle.std.specs.Option.{is_some}
use Rattle.unicode_normalization.specs.Forms.{Nfd, nfd}
use Rattle.unicode_normalization.proofs.DecomposeLemmas.{decompose-final, IsFull-decompose}
use Rattle.unicode_normalization.proofs.TableFacts.{is_final}
use Rattle.unicode_normalization.specs.Order.{is_starter, canonical_order}
use Rattle.unicode_normalization.proofs.ComposeLemmas.{is_starter-true, flat_map-final}
use Rattle.unicode_normalization.proofs.OrderLemmas.{canonical_order-at_starter, canonical_order-nil, list_all-canonical_order, canonical_order-ordered, is_ordered-one}
use Rattle.uca_model.specs.Table.{ElementTable, key_cmp, elements_at, is_key}
use Rattle.uca_model.specs.ImplicitWeights.{implicit}
use Rattle.uca_model.specs.Match.{Step, took, greatest, longest_match_len, is_blocked, discontiguous_match}
use Rattle.uca_model.specs.CollationElements.{step, took_alone, matches_within, matches, elements, elements_or_implicit}
use Rattle.uca_model.specs.StandAlone.{is_first, is_longer_from, is_inside, begins, leads, continues, ends_matches, ends_in_starter, ends_all_matches, joining_of, bearing_of, joining, bearing, stands_alone}
use Rattle.uca_model.proofs.SafeLemmas.{nfd-is}
use Rattle.uca_model.proofs.MatchingLemmas.{same_key}
use Rattle.uca_model.proofs.RewritingLemmas.{matches-step, step_shorter, elements_nil}

-- ---- keys

same_points : (a b : List ℕ) → pointwise eqb a b ≡ true → a ≡ b
same_points [] [] h = refl
same_points [] (y ∷ b) h = cc
same_points (x ∷ a) [] h = cc
same_points (x ∷ a) (y ∷ b) h =
    let both = and_parts (eqb x y) (pointwise eqb a b) h in
    ap₂ (λ z l. z ∷ l) (eqb-true x y both.0) (same_points a b both.1)

among : (p : List ℕ → Bool) (key : List ℕ) (es : List (List ℕ × List Element)) → list_any (λ e. p e.0) es ≡ false → list_any (eq_by_cmp key_cmp key) (map (λ e. e.0) es) ≡ true → p key ≡ false
among p key [] none h = cc
among p key (e ∷ es) none h = elim (cases_Bool (p e.0)) [
  | inl passes ↦ let some : list_any (λ e. p e.0) (e ∷ es) ≡ true = ap (λ b. b || list_any (λ e. p e.0) es) passes in cc
  | inr fails ↦
      let others : list_any (λ e. p e.0) es ≡ false = sym (ap (λ b. b || list_any (λ e. p e.0) es) fails) ∙ none in
      elim (cases_Bool (eq_by_cmp key_cmp key e.0)) [
        | inl here ↦ ap p (sym (same_points e.0 key (sym (same_key e.0 key) ∙ here))) ∙ fails
        | inr other ↦ among p key es others (sym (ap (λ b. b || list_any (eq_by_cmp key_cmp key) (map (λ e. e.0) es)) other) ∙ h)
      ]
]

-- what passes a test that no key passes is no key
no_key : (t : ElementTable) (p : List ℕ → Bool) (key : List ℕ) → list_any (λ e. p e.0) (entries t.entries) ≡ false → p key ≡ true → is_key t key ≡ false
no_key t p key none passes = elim (cases_Bool (is_key t key)) [
  | inl holds ↦ let e : p key ≡ false = among p key (entries t.entries) none (sym (contains_key-keys t.entries key) ∙ holds) in cc
  | inr fails ↦ fails
]

pub leads-no_key : (t : ElementTable) (p q : ℕ) (key : List ℕ) → leads t p ≡ false → is_key t (p ∷ q ∷ key) ≡ false
unfolding leads
leads-no_key t p q key none = no_key t (is_longer_from p) (p ∷ q ∷ key) none (eq-eqb p p refl)

begins-no_key : (t : ElementTable) (p : ℕ) (key : List ℕ) → begins t p ≡ false → is_key t (p ∷ key) ≡ false
unfolding begins
begins-no_key t p key none = no_key t (is_first p) (p ∷ key) none (eq-eqb p p refl)

stands_in : (s : ℕ) (before after : List ℕ) → list_any (λ x. x == s) (before ++ s ∷ after) ≡ true
stands_in s [] after = ap (λ b. b || list_any (λ x. x == s) after) (eq-eqb s s refl)
stands_in s (x ∷ before) after = elim (cases_Bool (x == s)) [
  | inl here ↦ ap (λ b. b || list_any (λ x. x == s) (before ++ s ∷ after)) here
  | inr later ↦ ap (λ b. b || list_any (λ x. x == s) (before ++ s ∷ after)) later ∙ stands_in s before after
]

continues-no_key : (t : ElementTable) (s : ℕ) (before after : List ℕ) → continues t s ≡ false → 0 < length before → is_key t (before ++ s ∷ after) ≡ false
unfolding continues
continues-no_key t s [] after none some = absurd (omega arith)
continues-no_key t s (x ∷ before) after none some = no_key t (is_inside s) ((x ∷ before) ++ s ∷ after) none (stands_in s before after)

-- ---- steps

-- what follows a rest
abbrev with_more : List ℕ → Step → Step
with_more ys r = record r { rest = r.rest ++ ys }

greatest-same : (p q : ℕ → Bool) (m : ℕ) → ((k : ℕ) → k ≤ m → p k ≡ q k) → greatest p m ≡ greatest q m
greatest-same p q zero h = refl
greatest-same p q (suc m) h = ap₂ (λ b n. cond b (suc m) n) (h (suc m) (omega arith)) (greatest-same p q m (λ k le. h k (omega arith)))

greatest-more : (p q : ℕ → Bool) (m n : ℕ) → ((k : ℕ) → k ≤ m → p k ≡ q k) → ((k : ℕ) → m < k → p k ≡ false) → greatest p (n + m) ≡ greatest q m
greatest-more p q m zero h none = (let e : zero + m ≡ m = omega arith in ap (greatest p) e) ∙ greatest-same p q m h
greatest-more p q m (suc n) h none =
    (let e : suc n + m ≡ suc (n + m) = omega arith in ap (greatest p) e)
    ∙ cond-false _ _ _ (none (suc (n + m)) (omega arith)) ∙ greatest-more p q m n h none

greatest-within : (p : ℕ → Bool) (m : ℕ) → greatest p m ≤ m
greatest-within p zero = omega arith
greatest-within p (suc m) = elim (cases_Bool (p (suc m))) [
  | inl here ↦ let e : greatest p (suc m) ≡ suc m = cond-true _ _ _ here in omega arith
  | inr later ↦ let e : greatest p (suc m) ≡ greatest p m = cond-false _ _ _ later in omega (arith, greatest-within p m)
]

take_past : (xs ys : List ℕ) (n : ℕ) → length xs ≤ n → take n (xs ++ ys) ≡ xs ++ take (n - length xs) ys
take_past [] ys n h = let e : n ≡ n - 0 = omega arith in ap (λ k. take k ys) e
take_past (x ∷ xs) ys zero h = absurd (omega arith)
take_past (x ∷ xs) ys (suc n) h = ap (λ l. x ∷ l) (take_past xs ys n (omega arith)) ∙ (let e : n - length xs ≡ suc n - suc (length xs) = omega arith in ap (λ k. x ∷ (xs ++ take k ys)) e)

take_some : (s : ℕ) (ys : List ℕ) (n : ℕ) → 0 < n → take n (s ∷ ys) ≡ s ∷ take (n - 1) ys
take_some s ys zero h = absurd (omega arith)
take_some s ys (suc n) h = let e : n ≡ suc n - 1 = omega arith in ap (λ k. s ∷ take k ys) e

-- no more than `xs` is looked at where nothing longer is a key
pub longest_match_len-front : (key : List ℕ → Bool) (xs : List ℕ) (s : ℕ) (ys : List ℕ) → ((after : List ℕ) → key (xs ++ s ∷ after) ≡ false) → longest_match_len key (xs ++ s ∷ ys) ≡ longest_match_len key xs
longest_match_len-front key xs s ys across =
    (let e : length (xs ++ s ∷ ys) ≡ suc (length ys) + length xs = omega (arith, length-append xs (s ∷ ys)) in ap (greatest (λ n. key (take n (xs ++ s ∷ ys)))) e)
    ∙ greatest-more (λ n. key (take n (xs ++ s ∷ ys))) (λ n. key (take n xs)) (length xs) (suc (length ys)) (λ k le. ap key (take-append-le k xs (s ∷ ys) le))
    (λ k more. ap key (take_past xs (s ∷ ys) k (omega arith) ∙ ap (λ l. xs ++ l) (take_some s ys (k - length xs) (omega arith))) ∙ across (take (k - length xs - 1) ys))

-- ---- a code point that begins no longer key

module _ (key : List ℕ → Bool) (p : ℕ) (single : (q : ℕ) (after : List ℕ) → key (p ∷ q ∷ after) ≡ false) where
  extension-none : (passed ys : List ℕ) → discontiguous_match key (p ∷ []) passed ys ≡ took (p ∷ []) (passed ++ ys)
  unfolding discontiguous_match
  extension-none passed [] = ap (took (p ∷ [])) (sym (append-nil passed))
  extension-none passed (y ∷ ys) = elim (cases_Bool (is_starter y)) [
    | inl stops ↦ cond-true _ _ _ stops
    | inr mark ↦
        cond-false _ _ _ mark ∙ cond-false _ _ _ (never (not (is_blocked passed y)) (key (p ∷ y ∷ [])) (single y []))
        ∙ extension-none (passed ++ y ∷ []) ys ∙ ap (took (p ∷ [])) (append_assoc passed (y ∷ []) ys)
  ] where
    never : (a b : Bool) → b ≡ false → (a && b) ≡ false
    never true b h = h
    never false b h = refl

  longest_match_len-single : (ys : List ℕ) → longest_match_len key (p ∷ ys) ≡ longest_match_len key (p ∷ [])
  longest_match_len-single [] = refl
  longest_match_len-single (y ∷ ys) = longest_match_len-front key (p ∷ []) y ys (λ after. single y after)

  step-single : (ys : List ℕ) → step key (p ∷ ys) ≡ with_more ys (step key (p ∷ []))
  step-single ys = elim (cases_Bool (key (p ∷ []))) [
    | inl found ↦
        let one : longest_match_len key (p ∷ []) ≡ 1 = cond-true _ _ _ found in
        here ys 1 (longest_match_len-single ys ∙ one) (λ z. extension-none [] z) ∙ sym (ap (with_more ys) (here [] 1 one (λ z. extension-none [] z)))
    | inr none ↦
        let zero : longest_match_len key (p ∷ []) ≡ 0 = cond-false _ _ _ none in
        cond-true _ _ _ (ap (λ k. nat_eq k 0) (longest_match_len-single ys ∙ zero)) ∙ sym (ap (with_more ys) (cond-true _ _ _ (ap (λ k. nat_eq k 0) zero)))
  ] where
    here : (z : List ℕ) (n : ℕ) → longest_match_len key (p ∷ z) ≡ 1 → ((w : List ℕ) → discontiguous_match key (p ∷ []) [] w ≡ took (p ∷ []) w) → step key (p ∷ z) ≡ took (p ∷ []) z
    here z n one e = cond-false _ _ _ (ap (λ k. nat_eq k 0) one) ∙ ap (λ k. discontiguous_match key (take k (p ∷ z)) [] (drop k (p ∷ z))) one ∙ e z

  pub matches-single : (ys : List ℕ) → matches key (p ∷ ys) ≡ matches key (p ∷ []) ++ matches key ys
  unfolding matches_within
  matches-single ys =
      let here = step key (p ∷ []) in
      let less : length here.rest < 1 = step_shorter key (p ∷ []) (omega arith) in
      let none = empty here.rest less in
      matches-step key p ys ∙ ap (λ (r : Step). r.matched ∷ matches key r.rest) (step-single ys)
      ∙ ap (λ l. here.matched ∷ matches key (l ++ ys)) none
      ∙ sym (ap (λ l. l ++ matches key ys) (matches-step key p [] ∙ ap (λ l. here.matched ∷ matches key l) none)) where
        empty : (xs : List ℕ) → length xs < 1 → xs ≡ []
        empty [] h = refl
        empty (x ∷ xs) h = absurd (omega arith)

-- ---- a starter that is in no key after the first place

module _ (key : List ℕ → Bool) (s : ℕ) (ys : List ℕ) (starter : is_starter s ≡ true) (across : (before after : List ℕ) → 0 < length before → key (before ++ s ∷ after) ≡ false) where
  extension-cut : (front passed cs : List ℕ) → discontiguous_match key front passed (cs ++ s ∷ ys) ≡ with_more (s ∷ ys) (discontiguous_match key front passed cs)
  unfolding discontiguous_match
  extension-cut front passed [] = cond-true _ _ _ starter
  extension-cut front passed (c ∷ cs) = elim (cases_Bool (is_starter c)) [
    | inl stops ↦ cond-true _ _ _ stops ∙ ap (took front) (sym (append_assoc passed (c ∷ cs) (s ∷ ys))) ∙ sym (ap (with_more (s ∷ ys)) (cond-true _ _ _ stops))
    | inr mark ↦ elim (cases_Bool (not (is_blocked passed c) && key (front ++ c ∷ []))) [
      | inl takes ↦ cond-false _ _ _ mark ∙ cond-true _ _ _ takes ∙ extension-cut (front ++ c ∷ []) passed cs ∙ sym (ap (with_more (s ∷ ys)) (cond-false _ _ _ mark ∙ cond-true _ _ _ takes))
      | inr leaves ↦ cond-false _ _ _ mark ∙ cond-false _ _ _ leaves ∙ extension-cut front (passed ++ c ∷ []) cs ∙ sym (ap (with_more (s ∷ ys)) (cond-false _ _ _ mark ∙ cond-false _ _ _ leaves))
    ]
  ]

  step-cut : (xs : List ℕ) → 0 < length xs → step key (xs ++ s ∷ ys) ≡ with_more (s ∷ ys) (step key xs)
  step-cut [] some = absurd (omega arith)
  step-cut (x ∷ xs) some =
      let all = x ∷ xs in
      let n = longest_match_len key all in
      let same : longest_match_len key (all ++ s ∷ ys) ≡ n = longest_match_len-front key all s ys (λ after. across all after some) in
      let within : n ≤ length all = greatest-within (λ k. key (take k all)) (length all) in
      elim (cases_Bool (nat_eq n 0)) [
        | inl none ↦ cond-true _ _ _ (ap (λ k. nat_eq k 0) same ∙ none) ∙ sym (ap (with_more (s ∷ ys)) (cond-true _ _ _ none))
        | inr found ↦
            cond-false _ _ _ (ap (λ k. nat_eq k 0) same ∙ found)
            ∙ ap (λ k. discontiguous_match key (take k (all ++ s ∷ ys)) [] (drop k (all ++ s ∷ ys))) same
            ∙ ap₂ (λ f r. discontiguous_match key f [] r) (take-append-le n all (s ∷ ys) within) (drop-append-le n all (s ∷ ys) within)
            ∙ extension-cut (take n all) [] (drop n all)
            ∙ sym (ap (with_more (s ∷ ys)) (cond-false _ _ _ found))
      ]

  matches-cut : (fuel : ℕ) (xs : List ℕ) → length xs ≤ fuel → matches key (xs ++ s ∷ ys) ≡ matches key xs ++ matches key (s ∷ ys)
  unfolding matches_within
  matches-cut fuel [] h = refl
  matches-cut zero (x ∷ xs) h = absurd (omega arith)
  matches-cut (suc fuel) (x ∷ xs) h =
      let here = step key (x ∷ xs) in
      let cut = step-cut (x ∷ xs) (omega arith) in
      let less : length here.rest < length (x ∷ xs) = step_shorter key (x ∷ xs) (omega arith) in
      matches-step key x (xs ++ s ∷ ys) ∙ ap (λ (r : Step). r.matched ∷ matches key r.rest) cut
      ∙ ap (λ l. here.matched ∷ l) (matches-cut fuel here.rest (omega arith))
      ∙ sym (ap (λ l. l ++ matches key (s ∷ ys)) (matches-step key x xs))

-- ---- the elements

pub elements-parts : (t : ElementTable) (xs ys zs : List ℕ) → matches (is_key t) zs ≡ matches (is_key t) xs ++ matches (is_key t) ys → elements t zs ≡ elements t xs ++ elements t ys
elements-parts t xs ys zs h =
    ap (flat_map (λ m. elements_or_implicit t m.code_points)) h
    ∙ flat_map-append (λ m. elements_or_implicit t m.code_points) (matches (is_key t) xs) (matches (is_key t) ys)

-- after a code point that leads no key the others go on by themselves
elements-single : (t : ElementTable) (p : ℕ) (ys : List ℕ) → leads t p ≡ false → elements t (p ∷ ys) ≡ elements t (p ∷ []) ++ elements t ys
elements-single t p ys none = elements-parts t (p ∷ []) ys (p ∷ ys) (matches-single (is_key t) p (λ q after. leads-no_key t p q after none) ys)

-- and so they do after some
elements-plain : (t : ElementTable) (xs ys : List ℕ) → list_all (λ p. not (leads t p)) xs ≡ true → elements t (xs ++ ys) ≡ elements t xs ++ elements t ys
elements-plain t [] ys plain = ap (λ l. l ++ elements t ys) (sym (elements_nil t))
elements-plain t (x ∷ xs) ys plain =
    let both = and_parts (not (leads t x)) (list_all (λ p. not (leads t p)) xs) plain in
    let none : leads t x ≡ false = not_true (leads t x) both.0 in
    elements-single t x (xs ++ ys) none ∙ ap (λ l. elements t (x ∷ []) ++ l) (elements-plain t xs ys both.1)
    ∙ sym (append_assoc (elements t (x ∷ [])) (elements t xs) (elements t ys)) ∙ ap (λ l. l ++ elements t ys) (sym (elements-single t x xs none)) where
      not_true : (b : Bool) → not b ≡ true → b ≡ false
      not_true true h = cc
      not_true false h = refl

-- before a starter that is in no key after the first place the text may be cut
elements-cut : (t : ElementTable) (xs : List ℕ) (s : ℕ) (ys : List ℕ) → is_starter s ≡ true → continues t s ≡ false → elements t (xs ++ s ∷ ys) ≡ elements t xs ++ elements t (s ∷ ys)
elements-cut t xs s ys starter none =
    elements-parts t xs (s ∷ ys) (xs ++ s ∷ ys) (matches-cut (is_key t) s ys starter (λ before after some. continues-no_key t s before after none some) (length xs) xs (omega arith))

-- ---- the NFD

nfd-first : (x : List ℕ) (c s : ℕ) (others : List ℕ) → decompose_canonical c ≡ s ∷ others → is_starter s ≡ true → nfd (c ∷ x) ≡ s ∷ canonical_order (others ++ flat_map decompose_canonical x)
nfd-first x c s others parts starter =
    nfd-is (c ∷ x) ∙ ap (λ ds. canonical_order (ds ++ flat_map decompose_canonical x)) parts
    ∙ canonical_order-at_starter [] s (others ++ flat_map decompose_canonical x) (is_starter-true s starter)
    ∙ ap (λ l. l ++ s ∷ canonical_order (others ++ flat_map decompose_canonical x)) canonical_order-nil

-- before a character whose decomposition begins with a starter
nfd-cut : (p x : List ℕ) (c s : ℕ) (others : List ℕ) → decompose_canonical c ≡ s ∷ others → is_starter s ≡ true → nfd (p ++ c ∷ x) ≡ nfd p ++ nfd (c ∷ x)
nfd-cut p x c s others parts starter =
    let back = others ++ flat_map decompose_canonical x in
    nfd-is (p ++ c ∷ x) ∙ ap canonical_order (flat_map-append decompose_canonical p (c ∷ x))
    ∙ ap (λ ds. canonical_order (flat_map decompose_canonical p ++ (ds ++ flat_map decompose_canonical x))) parts
    ∙ canonical_order-at_starter (flat_map decompose_canonical p) s back (is_starter-true s starter)
    ∙ ap₂ (λ u v. u ++ v) (sym (nfd-is p)) (sym (nfd-first x c s others parts starter))

-- after one whose decomposition ends with a starter
pub order-after : (front ds later : List ℕ) → ends_in_starter ds ≡ true → canonical_order (front ++ (ds ++ later)) ≡ canonical_order (front ++ ds) ++ canonical_order later
order-after front [] later h = cc
order-after front (s ∷ []) later h =
    canonical_order-at_starter front s later (is_starter-true s h)
    ∙ sym (append_assoc (canonical_order front) (s ∷ []) (canonical_order later))
    ∙ ap (λ l. l ++ canonical_order later) (sym (canonical_order-at_starter front s [] (is_starter-true s h) ∙ ap (λ l. canonical_order front ++ s ∷ l) canonical_order-nil))
order-after front (d ∷ e ∷ ds) later h =
    ap canonical_order (sym (append_assoc front (d ∷ []) ((e ∷ ds) ++ later)))
    ∙ order-after (front ++ d ∷ []) (e ∷ ds) later h
    ∙ ap (λ l. canonical_order l ++ canonical_order later) (append_assoc front (d ∷ []) (e ∷ ds))

nfd-after : (c : ℕ) (x : List ℕ) → ends_in_starter (decompose_canonical c) ≡ true → nfd (c ∷ x) ≡ nfd (c ∷ []) ++ nfd x
nfd-after c x h =
    nfd-is (c ∷ x) ∙ order-after [] (decompose_canonical c) (flat_map decompose_canonical x) h
    ∙ ap₂ (λ u v. u ++ v) (ap canonical_order (sym (append-nil (decompose_canonical c))) ∙ sym (nfd-is (c ∷ []))) (sym (nfd-is x))

-- ---- characters that stand alone

pub bearing-plain : (t : ElementTable) (ds : List ℕ) → 1 ≤ bearing_of t ds → list_all (λ p. not (leads t p)) ds ≡ true
bearing-plain t ds h = elim (cases_Bool (list_all (λ p. not (leads t p)) ds)) [
  | inl plain ↦ plain
  | inr other ↦ let e : bearing_of t ds ≡ 0 = cond-false _ _ _ other in absurd (omega arith)
]

pub closes-ends : (t : ElementTable) (ds : List ℕ) → ends_all_matches t ds ≡ true → ends_in_starter ds ≡ true
closes-ends t [] h = cc
closes-ends t (x ∷ []) h = (and_parts (is_starter x) (ends_matches t x) h).0
closes-ends t (x ∷ y ∷ ds) h = closes-ends t (y ∷ ds) h

bearing-closed : (t : ElementTable) (ds : List ℕ) → 2 ≤ bearing_of t ds → ends_in_starter ds ≡ true
bearing-closed t ds h = elim (cases_Bool (ends_in_starter ds)) [
  | inl ends ↦ ends
  | inr mark ↦ elim (cases_Bool (ends_all_matches t ds)) [
    | inl closes ↦ closes-ends t ds closes
    | inr other ↦
        let e : bearing_of t ds ≡ cond (list_all (λ p. not (leads t p)) ds) 1 0 = ap₂ (λ a b. cond (list_all (λ p. not (leads t p)) ds) (cond a 3 (cond b 2 1)) 0) other mark in
        absurd (few (list_all (λ p. not (leads t p)) ds) e)
  ]
] where
  few : (b : Bool) → bearing_of t ds ≡ cond b 1 0 → ⊥
  few true e = omega arith
  few false e = omega arith

-- it bears all, whatever comes before it
pub bearing-all : (t : ElementTable) (ds : List ℕ) → 3 ≤ bearing_of t ds → ends_all_matches t ds ≡ true
bearing-all t ds h = elim (cases_Bool (ends_all_matches t ds)) [
  | inl closes ↦ closes
  | inr other ↦
      let e : bearing_of t ds ≡ cond (list_all (λ p. not (leads t p)) ds) (cond (ends_in_starter ds) 2 1) 0 = ap (λ a. cond (list_all (λ p. not (leads t p)) ds) (cond a 3 (cond (ends_in_starter ds) 2 1)) 0) other in
      absurd (few (list_all (λ p. not (leads t p)) ds) (ends_in_starter ds) e)
] where
  few : (a b : Bool) → bearing_of t ds ≡ cond a (cond b 2 1) 0 → ⊥
  few true true e = omega arith
  few true false e = omega arith
  few false b e = omega arith

plain-nfd : (t : ElementTable) (c : ℕ) → list_all (λ p. not (leads t p)) (decompose_canonical c) ≡ true → list_all (λ p. not (leads t p)) (nfd (c ∷ [])) ≡ true
plain-nfd t c h =
    ap (list_all (λ p. not (leads t p))) (nfd-is (c ∷ []) ∙ ap canonical_order (append-nil (decompose_canonical c)))
    ∙ list_all-canonical_order (λ p. not (leads t p)) (decompose_canonical c) h

-- the elements of two texts, one after the other, are those of each
abbrev pub IsApart : ElementTable → List ℕ → List ℕ → Type 0
IsApart t p x = elements t (nfd (p ++ x)) ≡ elements t (nfd p) ++ elements t (nfd x)

-- how the NFD begins with these code points, by how they join what comes before
pub data Begins (t : ElementTable) (ds : List ℕ) : Type 0 where
  freshly : (s : ℕ) (others : List ℕ) → ds ≡ s ∷ others → is_starter s ≡ true → continues t s ≡ false → Begins t ds
  in_key : (s : ℕ) (others : List ℕ) → ds ≡ s ∷ others → is_starter s ≡ true → 1 ≤ joining_of t ds → Begins t ds
  as_mark : 2 ≤ joining_of t ds → Begins t ds

how_begins : (t : ElementTable) (ds : List ℕ) → Begins t ds
how_begins t [] = as_mark (omega arith)
how_begins t (s ∷ others) = elim (cases_Bool (is_starter s)) [
  | inl starter ↦ elim (cases_Bool (continues t s)) [
    | inl inside ↦ let e : joining_of t (s ∷ others) ≡ 1 = cond-true _ _ _ starter ∙ cond-true _ _ _ inside in in_key s others refl starter (omega arith)
    | inr fresh ↦ freshly s others refl starter fresh
  ]
  | inr mark ↦ let e : joining_of t (s ∷ others) ≡ 2 = cond-false _ _ _ mark in as_mark (omega arith)
]

-- before such a starter a text is cut, whatever comes before it
apart-freshly : (t : ElementTable) (p x : List ℕ) (n s : ℕ) (others : List ℕ) → decompose_canonical n ≡ s ∷ others → is_starter s ≡ true → continues t s ≡ false → IsApart t p (n ∷ x)
apart-freshly t p x n s others is starter fresh =
    let first = nfd-first x n s others is starter in
    ap (elements t) (nfd-cut p x n s others is starter ∙ ap (λ l. nfd p ++ l) first)
    ∙ elements-cut t (nfd p) s _ starter fresh ∙ ap (λ l. elements t (nfd p) ++ elements t l) (sym first)

apart-plain : (t : ElementTable) (c : ℕ) (x : List ℕ) → nfd (c ∷ x) ≡ nfd (c ∷ []) ++ nfd x → 1 ≤ bearing t c → IsApart t (c ∷ []) x
apart-plain t c x cut bears = ap (elements t) cut ∙ elements-plain t (nfd (c ∷ [])) (nfd x) (plain-nfd t c (bearing-plain t (decompose_canonical c) bears))

-- a text is cut before a character that joins nothing
pub apart-before : (t : ElementTable) (p x : List ℕ) (n : ℕ) → joining t n ≤ 0 → IsApart t p (n ∷ x)
apart-before t p x n fresh = elim (how_begins t (decompose_canonical n)) [
  | freshly s others is starter none ↦ apart-freshly t p x n s others is starter none
  | in_key s others is starter some ↦ absurd (omega arith)
  | as_mark some ↦ absurd (omega arith)
]

-- nothing has no elements
pub elements_none : (t : ElementTable) → elements t (nfd []) ≡ []
elements_none t = ap (elements t) (nfd-is [] ∙ canonical_order-nil) ∙ elements_nil t

-- and at its end
pub apart-end : (t : ElementTable) (p : List ℕ) → IsApart t p []
apart-end t p = ap (λ l. elements t (nfd l)) (append-nil p) ∙ sym (append-nil (elements t (nfd p))) ∙ ap (λ l. elements t (nfd p) ++ l) (sym (elements_none t))

-- THE KEY LEMMA
pub apart-alone : (t : ElementTable) (c : ℕ) (x : List ℕ) → stands_alone t c x ≡ true → IsApart t (c ∷ []) x
apart-alone t c [] h = apart-end t (c ∷ [])
apart-alone t c (n ∷ x) h =
    let bears : joining t n ≤ bearing t c = leb-true (joining t n) (bearing t c) h in
    elim (how_begins t (decompose_canonical n)) [
      | freshly s others is starter none ↦ apart-freshly t (c ∷ []) x n s others is starter none
      | in_key s others is starter some ↦ apart-plain t c (n ∷ x) (nfd-cut (c ∷ []) x n s others is starter) (omega arith)
      | as_mark some ↦ apart-plain t c (n ∷ x) (nfd-after c (n ∷ x) (bearing-closed t (decompose_canonical c) (omega arith))) (omega arith)
    ]

-- what a cell may say where nothing is known
pub joining-most : (t : ElementTable) (ds : List ℕ) → joining_of t ds ≤ 2
joining-most t [] = omega arith
joining-most t (s ∷ ds) = go (is_starter s) (continues t s) where
  go : (a b : Bool) → cond a (cond b 1 0) 2 ≤ 2
  go true true = omega arith
  go true false = omega arith
  go false b = omega arith

-- ---- a single code point

one_point : (key : List ℕ → Bool) (p : ℕ) → (step key (p ∷ [])).matched.code_points ≡ p ∷ []
unfolding discontiguous_match
one_point key p = elim (cases_Bool (key (p ∷ []))) [
  | inl found ↦
      let one : longest_match_len key (p ∷ []) ≡ 1 = cond-true _ _ _ found in
      ap (λ (s : Step). s.matched.code_points) (cond-false _ _ _ (ap (λ k. nat_eq k 0) one) ∙ ap (λ k. discontiguous_match key (take k (p ∷ [])) [] (drop k (p ∷ []))) one)
  | inr none ↦
      let zero : longest_match_len key (p ∷ []) ≡ 0 = cond-false _ _ _ none in
      ap (λ (s : Step). s.matched.code_points) (cond-true (nat_eq (longest_match_len key (p ∷ [])) 0) (took_alone (p ∷ [])) _ (ap (λ k. nat_eq k 0) zero))
]

pub elements-one : (t : ElementTable) (p : ℕ) → elements t (p ∷ []) ≡ elements_or_implicit t (p ∷ [])
unfolding matches_within
elements-one t p = ap (λ k. elements_or_implicit t k ++ []) (one_point (is_key t) p) ∙ append-nil (elements_or_implicit t (p ∷ []))

none_at : (o : Option (List Element)) → is_some o ≡ false → o ≡ None
none_at None h = refl
none_at (Some x) h = cc

-- where no key begins with it
pub elements-unknown : (t : ElementTable) (p : ℕ) → begins t p ≡ false → elements t (p ∷ []) ≡ implicit t p
elements-unknown t p none =
    elements-one t p ∙ ap (λ o. unwrap_or o (implicit t p)) (none_at (elements_at t (p ∷ [])) (begins-no_key t p [] none))

-- the decomposition of a character in place of the character
pub nfd-decomposition : (c : ℕ) → nfd (decompose_canonical c) ≡ nfd (c ∷ [])
nfd-decomposition c =
    nfd-is (decompose_canonical c)
    ∙ ap canonical_order (flat_map-final decompose_canonical (is_final Nfd) (decompose-final Nfd) (decompose_canonical c) (IsFull-decompose Nfd c).final ∙ sym (append-nil (decompose_canonical c)))
    ∙ sym (nfd-is (c ∷ []))

pub nfd-single : (c p : ℕ) → decompose_canonical c ≡ p ∷ [] → nfd (c ∷ []) ≡ p ∷ []
nfd-single c p e = nfd-is (c ∷ []) ∙ ap canonical_order (append-nil (decompose_canonical c) ∙ e) ∙ one where
  one : canonical_order (p ∷ []) ≡ p ∷ []
  one = canonical_order-ordered (p ∷ []) (is_ordered-one p)
