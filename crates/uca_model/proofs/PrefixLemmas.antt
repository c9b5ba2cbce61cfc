-- The primary weights of a text that begins with a complete one begin with those of the complete one.
use Rattle.std.proofs.Common.{◌⊎◌, ◌≡◌, ℕ, zero, suc, ◌+◌, ◌-◌, ◌≤◌, ◌<◌, Bool, true, false, cond, not, ◌&&◌, ◌==◌, ◌||◌, nat_eq, nat_le, List, [], ◌∷◌, ◌++◌, length, take, drop, map, filter, flat_map, reverse, slice_index, Option, Some, None, unwrap_or, refl, sym, ap, ap₂, ◌∙◌, arith, inl, inr, append_assoc, append-nil, length-append, eqb-true, eq-eqb}
use Rattle.std.proofs.lemmas.Bool.{cases_Bool, and_parts, cond-true, cond-false, eqb-false, leb-true, leb-false, or_right, and_from}
use Rattle.std.proofs.lemmas.List.{map-append, take-append-le, drop-append-le, reverse-append, reverse-reverse, length-drop}
use Rattle.std.proofs.lemmas.List.Elements.{filter-append}
use Rattle.std.proofs.lemmas.List.Concat.{flat_map-append}
use Rattle.std.proofs.lemmas.List.Folds.{list_all-append}
use Rattle.std.proofs.Math.Seq.{take-append_seam, drop-append_seam}
use Rattle.std.specs.List.{list_all}
use Rattle.std.specs.FinMap.{entries, get-entries}
use Rattle.std.specs.Option.{is_some}
use Rattle.unicode_normalization.specs.Decompose.{decompose_canonical}
use Rattle.unicode_normalization.specs.Forms.{nfd}
use Rattle.unicode_normalization.specs.Order.{is_starter, canonical_order}
use Rattle.unicode_normalization.proofs.ComposeLemmas.{is_starter-true}
use Rattle.unicode_normalization.proofs.OrderLemmas.{canonical_order-at_starter, list_all-canonical_order}
use Rattle.uca_weights.specs.declared.element.Element.{Element}
use Rattle.uca_weights.specs.declared.settings.Variable.{Variable}
use Rattle.uca_weights.specs.declared.settings.Variable.TheVariants.{NonIgnorable, Blanked, Shifted}
use Rattle.uca_weights.specs.Element.{has_primary, is_variable, is_completely_ignorable}
use Rattle.uca_weights.specs.VariableWeighting.{is_after_variable, weights, weighted_after, weighted, ignored, unchanged}
use Rattle.uca_model.specs.Table.{ElementTable, is_key, elements_at}
use Rattle.uca_model.specs.Match.{Match, Step, longest_match_len, is_blocked, discontiguous_match, took}
use Rattle.uca_model.specs.CollationElements.{step, elements, elements_or_implicit}
use Rattle.uca_model.specs.ImplicitWeights.{implicit}
use Rattle.uca_model.specs.LevelWeights.{level_weights}
use Rattle.uca_model.specs.StandAlone.{is_first, is_before_last, ends_matches}
use Rattle.uca_model.specs.Prefix.{lack_primary, is_primary_of, have_primaries_of, keeps_primary, keeps_primaries, is_closed, is_silent, is_complete_from, is_complete}
use Rattle.uca_model.proofs.RewritingLemmas.{elements_nil, elements_step, step_shorter, discontiguous_match-shorter}
use Rattle.uca_model.proofs.SafeCutLemmas.{step-begins, each_passes, some_or_none, discontiguous_match-cut, greatest-holds, greatest-within}
use Rattle.uca_model.proofs.SafeLemmas.{nfd-is}
use Rattle.uca_model.proofs.StandAloneLemmas.{longest_match_len-front}
use Rattle.uca_model.proofs.TableLemmas.{find-holds}

-- ---- the weights of the first level

-- the first weight of an element, whatever comes before it
abbrev primary : Variable → Bool → ℕ → ℕ
primary NonIgnorable starred l1 = l1
primary Blanked starred l1 = cond (starred && not (l1 == 0)) 0 l1
primary Shifted starred l1 = cond (starred && not (l1 == 0)) 0 l1

weights-first : (v : Variable) (after : Bool) (e : Element) → slice_index (weights v after e) 0 ≡ primary v e.starred e.l1
weights-first NonIgnorable after e = refl
weights-first Blanked after e = blanked (is_variable e) (e.l1 == 0) after (eqb-true e.l1 0)
  where
    blanked : (variable none behind : Bool) → (none ≡ true → e.l1 ≡ 0) → slice_index (cond (variable || (none && behind)) (ignored 0) (unchanged e 0)) 0 ≡ cond variable 0 e.l1
    blanked true none behind h = refl
    blanked false false behind h = refl
    blanked false true false h = refl
    blanked false true true h = sym (h refl)
weights-first Shifted after e = shifted (is_completely_ignorable e) (is_variable e) (e.l1 == 0) after (λ h. eqb-true e.l1 0 (and_parts (e.l1 == 0) (e.l2 == 0) (and_parts (e.l1 == 0 && e.l2 == 0) (e.l3 == 0) h).0).0) (eqb-true e.l1 0)
  where
    either : (b : Bool) → e.l1 ≡ 0 → 0 ≡ cond b 0 e.l1
    either true h = refl
    either false h = sym h

    shifted : (nothing variable none behind : Bool) → (nothing ≡ true → e.l1 ≡ 0) → (none ≡ true → e.l1 ≡ 0)
        → slice_index (cond nothing (ignored 0) (cond variable (ignored e.l1) (cond (none && behind) (ignored 0) (unchanged e 0xffff)))) 0 ≡ cond variable 0 e.l1
    shifted true variable none behind h g = either variable (h refl)
    shifted false true none behind h g = refl
    shifted false false false behind h g = refl
    shifted false false true false h g = refl
    shifted false false true true h g = sym (g refl)

-- the list of the first level
abbrev pub first_level : Variable → List Element → List ℕ
first_level v es = filter (λ w. not (w == 0)) (map (λ (e : Element). primary v e.starred e.l1) es)

first-weights : (v : Variable) (before es : List Element) → map (λ (w : List ℕ). slice_index w 0) (weighted_after v before es) ≡ map (λ (e : Element). primary v e.starred e.l1) es
first-weights v before [] = refl
first-weights v before (e ∷ es) = ap₂ (λ w ws. w ∷ ws) (weights-first v (is_after_variable before) e) (first-weights v (before ++ e ∷ []) es)

pub first_level-is : (v : Variable) (es : List Element) → level_weights 1 (weighted v es) ≡ first_level v es
first_level-is v es = ap (filter (λ w. not (w == 0))) (first-weights v [] es)

pub first_level-append : (v : Variable) (es fs : List Element) → first_level v (es ++ fs) ≡ first_level v es ++ first_level v fs
first_level-append v es fs =
    let p : Element → ℕ = λ (e : Element). primary v e.starred e.l1 in
    ap (filter (λ w. not (w == 0))) (map-append p es fs) ∙ filter-append (λ w. not (w == 0)) (map p es) (map p fs)

primary-none : (v : Variable) (starred : Bool) (l1 : ℕ) → l1 ≡ 0 → primary v starred l1 ≡ 0
primary-none NonIgnorable starred l1 h = h
primary-none Blanked starred l1 h = either (starred && not (l1 == 0))
  where
    either : (b : Bool) → cond b 0 l1 ≡ 0
    either true = refl
    either false = h
primary-none Shifted starred l1 h = either (starred && not (l1 == 0))
  where
    either : (b : Bool) → cond b 0 l1 ≡ 0
    either true = refl
    either false = h

zero_of : (n : ℕ) → not (not (n == 0)) ≡ true → n ≡ 0
zero_of n h = elim (cases_Bool (n == 0)) [
  | inl is ↦ eqb-true n 0 is
  | inr other ↦ let e : not (not false) ≡ true = sym (ap (λ b. not (not b)) other) ∙ h in cc
]

lack-none : (v : Variable) (es : List Element) → lack_primary es ≡ true → first_level v es ≡ []
lack-none v [] h = refl
lack-none v (e ∷ es) h =
    let both = and_parts (not (has_primary e)) (lack_primary es) h in
    ap₂ (λ w ws. cond (not (w == 0)) (w ∷ ws) ws) (primary-none v e.starred e.l1 (zero_of e.l1 both.0)) (lack-none v es both.1)

same_mark : (a b : Bool) → cond a b (not b) ≡ true → b ≡ a
same_mark true b h = h
same_mark false true h = cc
same_mark false false h = refl

have-same : (v : Variable) (fs es : List Element) → have_primaries_of fs es ≡ true → first_level v es ≡ first_level v fs
have-same v [] es h = lack-none v es h
have-same v (f ∷ fs) [] h = cc
have-same v (f ∷ fs) (e ∷ es) h =
    let both = and_parts (is_primary_of f e) (have_primaries_of fs es) h in
    let here = and_parts (e.l1 == f.l1) _ both.0 in
    let same : primary v e.starred e.l1 ≡ primary v f.starred f.l1 = ap₂ (primary v) (same_mark f.starred e.starred here.1) (eqb-true e.l1 f.l1 here.0) in
    ap₂ (λ w ws. cond (not (w == 0)) (w ∷ ws) ws) same (have-same v fs es both.1)

-- ---- what a table says about a code point

-- the same of each key that a look-up finds
pub record Keeps (t : ElementTable) (c : ℕ) : Type 0 where
  pub same : (after : List ℕ) (es : List Element) → elements_at t (c ∷ after) ≡ Some es → have_primaries_of (elements_or_implicit t (c ∷ [])) es ≡ true

second_of : (a b : Bool) → a ≡ true → (not a || b) ≡ true → b ≡ true
second_of true b h g = g
second_of false b h g = cc

keeps-facts : (t : ElementTable) (c : ℕ) → keeps_primaries t c ≡ true → Keeps t c
keeps-facts t c h = record {
  same = λ after es e.
      second_of (is_first c (c ∷ after)) (have_primaries_of (elements_or_implicit t (c ∷ [])) es) (eq-eqb c c refl)
      (find-holds (λ entry. keeps_primary t c entry ≡ true) (c ∷ after) es (entries t.entries) (each_passes (keeps_primary t c) (entries t.entries) h) (sym (get-entries t.entries (c ∷ after)) ∙ e));
}

before_last : (s : ℕ) (before : List ℕ) (c : ℕ) (after : List ℕ) → is_before_last s (before ++ s ∷ c ∷ after) ≡ true
before_last s [] c after = rw (eq-eqb s s refl) refl
before_last s (x ∷ []) c after = or_right (x == s) _ (before_last s [] c after)
before_last s (x ∷ y ∷ before) c after = or_right (x == s) _ (before_last s (y ∷ before) c after)

-- the code point is not between two others in the key
abbrev is_last_in : ℕ → List ℕ × List Element → Bool
is_last_in s entry = not (is_before_last s (drop 1 entry.0))

-- no key has the code point between two others
abbrev pub IsLast : ElementTable → ℕ → Type 0
IsLast t s = (b : ℕ) (before : List ℕ) (c : ℕ) (after : List ℕ) → is_key t (b ∷ before ++ s ∷ c ∷ after) ≡ false

pub last-facts : (t : ElementTable) (s : ℕ) → ends_matches t s ≡ true → IsLast t s
last-facts t s h b before c after = some_or_none ⊥ (elements_at t key) (λ es e. not_so es (at es e))
  where
    key : List ℕ
    key = b ∷ before ++ s ∷ c ∷ after

    at : (es : List Element) → elements_at t key ≡ Some es → is_last_in s (key, es) ≡ true
    at es e = find-holds (λ entry. is_last_in s entry ≡ true) key es (entries t.entries) (each_passes (is_last_in s) (entries t.entries) h) (sym (get-entries t.entries key) ∙ e)

    not_so : (es : List Element) → is_last_in s (key, es) ≡ true → ⊥
    not_so es g = let e : not true ≡ true = sym (ap not (before_last s before c after)) ∙ g in cc

-- ---- what a match has, and what it leaves

pick : (P : Step → Type 0) (b : Bool) (x y : Step) → (b ≡ true → P x) → (b ≡ false → P y) → P (cond b x y)
pick P true x y h g = h refl
pick P false x y h g = g refl

found-key : (key : List ℕ → Bool) (front passed cs : List ℕ) → key front ≡ true → key (discontiguous_match key front passed cs).matched.code_points ≡ true
unfolding discontiguous_match
found-key key front passed [] h = h
found-key key front passed (c ∷ cs) h =
    pick (λ r. key r.matched.code_points ≡ true) (is_starter c) _ _ (λ e. h)
    (λ e. pick (λ r. key r.matched.code_points ≡ true) (not (is_blocked passed c) && key (front ++ c ∷ [])) _ _
    (λ takes. found-key key (front ++ c ∷ []) passed cs (and_parts (not (is_blocked passed c)) (key (front ++ c ∷ [])) takes).1)
    (λ leaves. found-key key front (passed ++ c ∷ []) cs h))

step-key : (key : List ℕ → Bool) (c : ℕ) (cs : List ℕ) → ((step key (c ∷ cs)).matched.code_points ≡ c ∷ []) ⊎ (key (step key (c ∷ cs)).matched.code_points ≡ true)
step-key key c cs =
    let n = longest_match_len key (c ∷ cs) in
    elim (cases_Bool (nat_eq n 0)) [
      | inl none ↦ inl (ap (λ (r : Step). r.matched.code_points) (cond-true _ _ _ none))
      | inr some ↦
          let other : n ≡ 0 → ⊥ = eqb-false n 0 some in
          let here : key (take n (c ∷ cs)) ≡ true = elim (greatest-holds (λ k. key (take k (c ∷ cs))) (length (c ∷ cs))) [
            | inl nothing ↦ absurd (other nothing)
            | inr holds ↦ holds.0
          ] in
          inr (ap (λ (r : Step). key r.matched.code_points) (cond-false _ _ _ some) ∙ found-key key (take n (c ∷ cs)) [] (drop n (c ∷ cs)) here)
    ]

all_both : (q : ℕ → Bool) (xs ys : List ℕ) → list_all q xs ≡ true → list_all q ys ≡ true → list_all q (xs ++ ys) ≡ true
all_both q xs ys h g = list_all-append q xs ys ∙ and_from (list_all q xs) (list_all q ys) h g

left-all : (q : ℕ → Bool) (key : List ℕ → Bool) (front passed cs : List ℕ) → list_all q passed ≡ true → list_all q cs ≡ true → list_all q (discontiguous_match key front passed cs).rest ≡ true
unfolding discontiguous_match
left-all q key front passed [] h g = h
left-all q key front passed (c ∷ cs) h g =
    let both = and_parts (q c) (list_all q cs) g in
    pick (λ r. list_all q r.rest ≡ true) (is_starter c) _ _ (λ e. all_both q passed (c ∷ cs) h g)
    (λ e. pick (λ r. list_all q r.rest ≡ true) (not (is_blocked passed c) && key (front ++ c ∷ [])) _ _
    (λ takes. left-all q key (front ++ c ∷ []) passed cs h both.1)
    (λ leaves. left-all q key front (passed ++ c ∷ []) cs (all_both q passed (c ∷ []) h (and_from (q c) true both.0 refl)) both.1))

all-drop : (q : ℕ → Bool) (n : ℕ) (xs : List ℕ) → list_all q xs ≡ true → list_all q (drop n xs) ≡ true
all-drop q zero xs h = h
all-drop q (suc n) [] h = refl
all-drop q (suc n) (x ∷ xs) h = all-drop q n xs (and_parts (q x) (list_all q xs) h).1

-- a step leaves code points of those after the first alone
step-all : (q : ℕ → Bool) (key : List ℕ → Bool) (c : ℕ) (cs : List ℕ) → list_all q cs ≡ true → list_all q (step key (c ∷ cs)).rest ≡ true
step-all q key c cs h =
    let n = longest_match_len key (c ∷ cs) in
    elim (cases_Bool (nat_eq n 0)) [
      | inl none ↦ ap (λ (r : Step). list_all q r.rest) (cond-true _ _ _ none) ∙ h
      | inr some ↦ ap (λ (r : Step). list_all q r.rest) (cond-false _ _ _ some) ∙ left-all q key (take n (c ∷ cs)) [] (drop n (c ∷ cs)) refl (later n (eqb-false n 0 some))
    ]
  where
    later : (n : ℕ) → (n ≡ 0 → ⊥) → list_all q (drop n (c ∷ cs)) ≡ true
    later zero some = absurd (some refl)
    later (suc n) some = all-drop q n cs h

-- a match that begins with the code point has the primary weights of the code point alone
first-match : (t : ElementTable) (v : Variable) (c : ℕ) (cs : List ℕ) → Keeps t c → first_level v (elements_or_implicit t (step (is_key t) (c ∷ cs)).matched.code_points) ≡ first_level v (elements_or_implicit t (c ∷ []))
first-match t v c cs keeps =
    let begins = step-begins (is_key t) c cs in
    elim (step-key (is_key t) c cs) [
      | inl one ↦ ap (λ k. first_level v (elements_or_implicit t k)) one
      | inr found ↦ ap (λ k. first_level v (elements_or_implicit t k)) begins.same ∙ by_entry begins.after (elements_at t (c ∷ begins.after)) refl (sym (ap (is_key t) begins.same) ∙ found)
    ]
  where
    by_entry : (after : List ℕ) (o : Option (List Element)) → elements_at t (c ∷ after) ≡ o → is_some o ≡ true → first_level v (unwrap_or o (implicit t c)) ≡ first_level v (elements_or_implicit t (c ∷ []))
    by_entry after None e h = cc
    by_entry after (Some es) e h = have-same v (elements_or_implicit t (c ∷ [])) es (keeps.same after es e)

no_points : (xs : List ℕ) → length xs < 1 → xs ≡ []
no_points [] h = refl
no_points (x ∷ xs) h = absurd (omega arith)

-- the first level of a text, match by match
level-step : (t : ElementTable) (v : Variable) (xs : List ℕ) → 0 < length xs → first_level v (elements t xs) ≡ first_level v (elements_or_implicit t (step (is_key t) xs).matched.code_points) ++ first_level v (elements t (step (is_key t) xs).rest)
level-step t v xs some =
    ap (first_level v) (elements_step t xs some) ∙ first_level-append v (elements_or_implicit t (step (is_key t) xs).matched.code_points) (elements t (step (is_key t) xs).rest)

-- code points with no primary weight have none together
silent-none : (t : ElementTable) (v : Variable) (fuel : ℕ) (xs : List ℕ) → length xs ≤ fuel → list_all (is_silent t) xs ≡ true → first_level v (elements t xs) ≡ []
silent-none t v fuel [] h all = ap (first_level v) (elements_nil t)
silent-none t v zero (x ∷ xs) h all = absurd (omega arith)
silent-none t v (suc fuel) (x ∷ xs) h all =
    let both = and_parts (is_silent t x) (list_all (is_silent t) xs) all in
    let here = and_parts (lack_primary (elements_or_implicit t (x ∷ []))) (keeps_primaries t x) both.0 in
    let less : length (step (is_key t) (x ∷ xs)).rest < length (x ∷ xs) = step_shorter (is_key t) (x ∷ xs) (omega arith) in
    level-step t v (x ∷ xs) (omega arith)
    ∙ ap₂ (λ a b. a ++ b) (first-match t v x xs (keeps-facts t x here.1) ∙ lack-none v (elements_or_implicit t (x ∷ [])) here.0)
    (silent-none t v fuel (step (is_key t) (x ∷ xs)).rest (omega arith) (step-all (is_silent t) (is_key t) x xs both.1))

-- ---- a text before a starter whose primary weights are the same whatever follows

-- no key goes on after the code points, so no nonstarter after them is taken
extension-none : (key : List ℕ → Bool) (front : List ℕ) → ((c : ℕ) → key (front ++ c ∷ []) ≡ false) → (passed ys : List ℕ) → discontiguous_match key front passed ys ≡ took front (passed ++ ys)
unfolding discontiguous_match
extension-none key front none passed [] = ap (took front) (sym (append-nil passed))
extension-none key front none passed (y ∷ ys) = elim (cases_Bool (is_starter y)) [
  | inl stops ↦ cond-true _ _ _ stops
  | inr mark ↦
      cond-false _ _ _ mark ∙ cond-false _ _ _ (never (not (is_blocked passed y)) (key (front ++ y ∷ [])) (none y))
      ∙ extension-none key front none (passed ++ y ∷ []) ys ∙ ap (took front) (append_assoc passed (y ∷ []) ys)
] where
  never : (a b : Bool) → b ≡ false → (a && b) ≡ false
  never true b h = h
  never false b h = refl

-- the match at the front ends before the starter, whatever follows it
pub record EndsBefore (key : List ℕ → Bool) (all : List ℕ) (s : ℕ) : Type 0 where
  pub matched : Match
  pub left : List ℕ
  pub same : (ys : List ℕ) → step key (all ++ s ∷ ys) ≡ record { matched = matched; rest = left ++ s ∷ ys }
  pub less : length left < length all

-- the match at the front ends with the starter, whatever follows it
pub record EndsWith (key : List ℕ → Bool) (all : List ℕ) (s : ℕ) : Type 0 where
  pub matched : Match
  pub same : (ys : List ℕ) → step key (all ++ s ∷ ys) ≡ record { matched = matched; rest = ys }

module _ (key : List ℕ → Bool) (s : ℕ) (starter : is_starter s ≡ true) (x : ℕ) (xs : List ℕ) (last : (c : ℕ) (after : List ℕ) → key ((x ∷ xs) ++ s ∷ c ∷ after) ≡ false) where
  abbrev whole : List ℕ
  whole = (x ∷ xs) ++ s ∷ []

  longer : (y : ℕ) (after : List ℕ) → key (whole ++ y ∷ after) ≡ false
  longer y after = ap key (append_assoc (x ∷ xs) (s ∷ []) (y ∷ after)) ∙ last y after

  same_length : (ys : List ℕ) → longest_match_len key ((x ∷ xs) ++ s ∷ ys) ≡ longest_match_len key whole
  same_length [] = refl
  same_length (y ∷ ys) = ap (longest_match_len key) (sym (append_assoc (x ∷ xs) (s ∷ []) (y ∷ ys))) ∙ longest_match_len-front key whole y ys (longer y)

  pub steps : EndsBefore key (x ∷ xs) s ⊎ EndsWith key (x ∷ xs) s
  steps =
      let n = longest_match_len key whole in
      let within : n ≤ length whole = greatest-within (λ k. key (take k whole)) (length whole) in
      let size : length whole ≡ length (x ∷ xs) + 1 = length-append (x ∷ xs) (s ∷ []) in
      elim (cases_Bool (nat_eq n 0)) [
        | inl none ↦ inl (record {
          matched = record { code_points = x ∷ []; found = false };
          left = xs;
          same = λ ys. cond-true _ _ _ (ap (λ k. nat_eq k 0) (same_length ys) ∙ none);
          less = omega arith;
        })
        | inr some ↦
            let other : n ≡ 0 → ⊥ = eqb-false n 0 some in
            let at : (ys : List ℕ) → step key ((x ∷ xs) ++ s ∷ ys) ≡ discontiguous_match key (take n ((x ∷ xs) ++ s ∷ ys)) [] (drop n ((x ∷ xs) ++ s ∷ ys)) =
            λ ys. cond-false _ _ _ (ap (λ k. nat_eq k 0) (same_length ys) ∙ some) ∙ ap (λ k. discontiguous_match key (take k ((x ∷ xs) ++ s ∷ ys)) [] (drop k ((x ∷ xs) ++ s ∷ ys))) (same_length ys) in
            elim (cases_Bool (nat_le n (length (x ∷ xs)))) [
              | inl before ↦
                  let le : n ≤ length (x ∷ xs) = leb-true n (length (x ∷ xs)) before in
                  let here = discontiguous_match key (take n (x ∷ xs)) [] (drop n (x ∷ xs)) in
                  let short : length here.rest ≤ 0 + length (drop n (x ∷ xs)) = discontiguous_match-shorter key (take n (x ∷ xs)) [] (drop n (x ∷ xs)) in
                  let dropped : length (drop n (x ∷ xs)) ≡ length (x ∷ xs) - n = length-drop n (x ∷ xs) in
                  inl (record {
                    matched = here.matched;
                    left = here.rest;
                    same = λ ys. at ys ∙ ap₂ (λ f r. discontiguous_match key f [] r) (take-append-le n (x ∷ xs) (s ∷ ys) le) (drop-append-le n (x ∷ xs) (s ∷ ys) le)
                        ∙ discontiguous_match-cut key s ys starter (take n (x ∷ xs)) [] (drop n (x ∷ xs));
                    less = omega arith;
                  })
              | inr past ↦
                  let gt : length (x ∷ xs) < n = leb-false n (length (x ∷ xs)) past in
                  let all : n ≡ length whole = omega arith in
                  inr (record {
                    matched = record { code_points = whole; found = true };
                    same = λ ys. at ys ∙ ap₂ (λ f r. discontiguous_match key f [] r)
                        (ap₂ take all (sym (append_assoc (x ∷ xs) (s ∷ []) ys)) ∙ take-append_seam whole ys)
                        (ap₂ drop all (sym (append_assoc (x ∷ xs) (s ∷ []) ys)) ∙ drop-append_seam whole ys)
                        ∙ extension-none key whole (λ c. longer c []) [] ys;
                  })
            ]
      ]

-- the first level of a text up to the starter, and that of what its last match left of the code points after it
record GoesOn (t : ElementTable) (v : Variable) (xs : List ℕ) (s : ℕ) (ys : List ℕ) : Type 0 where
  more : List ℕ
  same : first_level v (elements t (xs ++ s ∷ ys)) ≡ first_level v (elements t (xs ++ s ∷ [])) ++ first_level v (elements t more)
  from : (q : ℕ → Bool) → list_all q ys ≡ true → list_all q more ≡ true

module _ (t : ElementTable) (v : Variable) (s : ℕ) (starter : is_starter s ≡ true) (keeps : Keeps t s) (last : IsLast t s) where
  alone : first_level v (elements t (s ∷ [])) ≡ first_level v (elements_or_implicit t (s ∷ []))
  alone =
      let r = step (is_key t) (s ∷ []) in
      let less : length r.rest < 1 = step_shorter (is_key t) (s ∷ []) (omega arith) in
      level-step t v (s ∷ []) (omega arith)
      ∙ ap₂ (λ a b. a ++ b) (first-match t v s [] keeps) (ap (λ l. first_level v (elements t l)) (no_points r.rest less) ∙ ap (first_level v) (elements_nil t))
      ∙ append-nil (first_level v (elements_or_implicit t (s ∷ [])))

  goes-on : (fuel : ℕ) (xs ys : List ℕ) → length xs ≤ fuel → GoesOn t v xs s ys
  goes-on fuel [] ys h = record {
    more = (step (is_key t) (s ∷ ys)).rest;
    same = level-step t v (s ∷ ys) (omega arith) ∙ ap (λ l. l ++ first_level v (elements t (step (is_key t) (s ∷ ys)).rest)) (first-match t v s ys keeps ∙ sym alone);
    from = λ q all. step-all q (is_key t) s ys all;
  }
  goes-on zero (x ∷ xs) ys h = absurd (omega arith)
  goes-on (suc fuel) (x ∷ xs) ys h = elim (steps (is_key t) s starter x xs (last x xs)) [
    | inl before ↦
        let later = goes-on fuel before.left ys (omega (arith, before.less)) in
        let part : (zs : List ℕ) → first_level v (elements t ((x ∷ xs) ++ s ∷ zs)) ≡ first_level v (elements_or_implicit t before.matched.code_points) ++ first_level v (elements t (before.left ++ s ∷ zs)) =
        λ zs. level-step t v ((x ∷ xs) ++ s ∷ zs) (omega arith) ∙ ap (λ (r : Step). first_level v (elements_or_implicit t r.matched.code_points) ++ first_level v (elements t r.rest)) (before.same zs) in
        record {
          more = later.more;
          same = part ys ∙ ap (λ l. first_level v (elements_or_implicit t before.matched.code_points) ++ l) later.same
              ∙ sym (append_assoc (first_level v (elements_or_implicit t before.matched.code_points)) (first_level v (elements t (before.left ++ s ∷ []))) (first_level v (elements t later.more)))
              ∙ ap (λ l. l ++ first_level v (elements t later.more)) (sym (part []));
          from = later.from;
        }
    | inr with_it ↦
        let part : (zs : List ℕ) → first_level v (elements t ((x ∷ xs) ++ s ∷ zs)) ≡ first_level v (elements_or_implicit t with_it.matched.code_points) ++ first_level v (elements t zs) =
        λ zs. level-step t v ((x ∷ xs) ++ s ∷ zs) (omega arith) ∙ ap (λ (r : Step). first_level v (elements_or_implicit t r.matched.code_points) ++ first_level v (elements t r.rest)) (with_it.same zs) in
        let only : first_level v (elements t ((x ∷ xs) ++ s ∷ [])) ≡ first_level v (elements_or_implicit t with_it.matched.code_points) =
        part [] ∙ ap (λ l. first_level v (elements_or_implicit t with_it.matched.code_points) ++ l) (ap (first_level v) (elements_nil t)) ∙ append-nil _ in
        record {
          more = ys;
          same = part ys ∙ ap (λ l. l ++ first_level v (elements t ys)) (sym only);
          from = λ q all. all;
        }
  ]

-- ---- texts

-- the decomposition ends in nonstarters with no primary weight, after a starter whose primary weights are the same whatever follows, or at the start
pub record EndsAt (t : ElementTable) (ds : List ℕ) : Type 0 where
  pub front : List ℕ
  pub s : ℕ
  pub back : List ℕ
  pub parts : ds ≡ front ++ s ∷ back
  pub starter : is_starter s ≡ true
  pub closed : is_closed t s ≡ true
  pub silent : list_all (is_silent t) back ≡ true

ends-at : (t : ElementTable) (cs back : List ℕ) → is_complete_from t cs ≡ true → list_all (is_silent t) back ≡ true → (list_all (is_silent t) (reverse cs ++ back) ≡ true) ⊎ EndsAt t (reverse cs ++ back)
ends-at t [] back h all = inl all
ends-at t (c ∷ cs) back h all =
    let turned : reverse (c ∷ cs) ++ back ≡ reverse cs ++ c ∷ back = ap (λ l. l ++ back) (reverse-append (c ∷ []) cs) ∙ append_assoc (reverse cs) (c ∷ []) back in
    elim (cases_Bool (is_starter c)) [
      | inl starter ↦ inr (record { front = reverse cs; s = c; back = back; parts = turned; starter = starter; closed = sym (cond-true _ _ _ starter) ∙ h; silent = all })
      | inr mark ↦
          let both = and_parts (is_silent t c) (is_complete_from t cs) (sym (cond-false _ _ _ mark) ∙ h) in
          elim (ends-at t cs (c ∷ back) both.1 (and_from (is_silent t c) _ both.0 all)) [
            | inl none ↦ inl (ap (list_all (is_silent t)) turned ∙ none)
            | inr some ↦ inr (record { front = some.front; s = some.s; back = some.back; parts = turned ∙ some.parts; starter = some.starter; closed = some.closed; silent = some.silent })
          ]
    ]

-- the first level of a longer text begins with that of the complete one
pub record LevelBegins (t : ElementTable) (v : Variable) (p x : List ℕ) : Type 0 where
  pub later : List ℕ
  pub same : level_weights 1 (weighted v (elements t (nfd (p ++ x)))) ≡ level_weights 1 (weighted v (elements t (nfd p))) ++ later

pub complete-begins : (t : ElementTable) (v : Variable) (p x : List ℕ) → is_complete t p ≡ true → LevelBegins t v p x
unfolding is_complete
complete-begins t v p x h = elim (ends-at t (reverse ds) [] h refl) [
  | inl none ↦
      let all : list_all (is_silent t) ds ≡ true = sym (ap (list_all (is_silent t)) back_again) ∙ none in
      let ordered : list_all (is_silent t) (nfd p) ≡ true = ap (list_all (is_silent t)) (nfd-is p) ∙ list_all-canonical_order (is_silent t) ds all in
      let nothing : level_weights 1 (weighted v (elements t (nfd p))) ≡ [] = first_level-is v _ ∙ silent-none t v (length (nfd p)) (nfd p) (omega arith) ordered in
      record { later = level_weights 1 (weighted v (elements t (nfd (p ++ x)))); same = ap (λ l. l ++ level_weights 1 (weighted v (elements t (nfd (p ++ x))))) (sym nothing) }
  | inr some ↦
      let class = is_starter-true some.s some.starter in
      let front = canonical_order some.front in
      let back = canonical_order some.back in
      let left = canonical_order (some.back ++ flat_map decompose_canonical x) in
      let own : nfd p ≡ front ++ some.s ∷ back = nfd-is p ∙ ap canonical_order (sym back_again ∙ some.parts) ∙ canonical_order-at_starter some.front some.s some.back class in
      let longer : nfd (p ++ x) ≡ front ++ some.s ∷ left =
      nfd-is (p ++ x) ∙ ap canonical_order (flat_map-append decompose_canonical p x ∙ ap (λ l. l ++ flat_map decompose_canonical x) (sym back_again ∙ some.parts) ∙ append_assoc some.front (some.s ∷ some.back) (flat_map decompose_canonical x))
      ∙ canonical_order-at_starter some.front some.s (some.back ++ flat_map decompose_canonical x) class in
      let facts = and_parts (ends_matches t some.s) (keeps_primaries t some.s) some.closed in
      let keeps = keeps-facts t some.s facts.1 in
      let last : IsLast t some.s = last-facts t some.s facts.0 in
      let of_own = goes-on t v some.s some.starter keeps last (length front) front back (omega arith) in
      let of_longer = goes-on t v some.s some.starter keeps last (length front) front left (omega arith) in
      let none : first_level v (elements t of_own.more) ≡ [] = silent-none t v (length of_own.more) of_own.more (omega arith) (of_own.from (is_silent t) (list_all-canonical_order (is_silent t) some.back some.silent)) in
      let short : level_weights 1 (weighted v (elements t (nfd p))) ≡ first_level v (elements t (front ++ some.s ∷ [])) =
      first_level-is v _ ∙ ap (λ l. first_level v (elements t l)) own ∙ of_own.same ∙ ap (λ l. first_level v (elements t (front ++ some.s ∷ [])) ++ l) none ∙ append-nil _ in
      record {
        later = first_level v (elements t of_longer.more);
        same = first_level-is v _ ∙ ap (λ l. first_level v (elements t l)) longer ∙ of_longer.same ∙ ap (λ l. l ++ first_level v (elements t of_longer.more)) (sym short);
      }
] where
  ds : List ℕ
  ds = flat_map decompose_canonical p

  back_again : reverse (reverse ds) ++ [] ≡ ds
  back_again = append-nil (reverse (reverse ds)) ∙ reverse-reverse ds
