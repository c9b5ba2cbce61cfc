-- After a character that bears all the text has its elements by itself, whatever comes before the character.
use Rattle.std.proofs.Common.{◌≡◌, ℕ, zero, suc, ◌+◌, ◌≤◌, Bool, true, false, not, ◌&&◌, List, [], ◌∷◌, ◌++◌, length, flat_map, refl, sym, ap, ap₂, ◌∙◌, arith, inl, inr, append_assoc, append-nil}
use Rattle.std.proofs.lemmas.Bool.{cases_Bool, and_parts}
use Rattle.std.proofs.lemmas.List.Concat.{flat_map-append}
use Rattle.std.specs.List.{list_all}
use Rattle.unicode_normalization.specs.Decompose.{decompose_canonical}
use Rattle.unicode_normalization.specs.Forms.{nfd}
use Rattle.unicode_normalization.specs.Order.{is_starter, canonical_order}
use Rattle.unicode_normalization.proofs.ComposeLemmas.{is_starter-true}
use Rattle.unicode_normalization.proofs.OrderLemmas.{canonical_order-at_starter, canonical_order-nil}
use Rattle.uca_model.specs.Table.{ElementTable, is_key}
use Rattle.uca_model.specs.Match.{Step}
use Rattle.uca_model.specs.CollationElements.{matches_within, matches, elements}
use Rattle.uca_model.specs.StandAlone.{leads, ends_matches, ends_all_matches, bearing}
use Rattle.uca_model.proofs.PrefixLemmas.{IsLast, last-facts, steps}
use Rattle.uca_model.proofs.RewritingLemmas.{matches-step}
use Rattle.uca_model.proofs.SafeLemmas.{nfd-is}
use Rattle.uca_model.proofs.StandAloneLemmas.{IsApart, bearing-all, bearing-plain, closes-ends, elements-parts, leads-no_key, matches-single, order-after}

-- the code points end in a starter that no key has before its last place
record ClosesWith (t : ElementTable) (ds : List ℕ) : Type 0 where
  front : List ℕ
  s : ℕ
  same : ds ≡ front ++ s ∷ []
  starter : is_starter s ≡ true
  last : ends_matches t s ≡ true
  single : leads t s ≡ false

not_true : (b : Bool) → not b ≡ true → b ≡ false
not_true true h = cc
not_true false h = refl

closes_with : (t : ElementTable) (ds : List ℕ) → ends_all_matches t ds ≡ true → list_all (λ p. not (leads t p)) ds ≡ true → ClosesWith t ds
closes_with t [] h plain = cc
closes_with t (x ∷ []) h plain =
    let both = and_parts (is_starter x) (ends_matches t x) h in
    record { front = []; s = x; same = refl; starter = both.0; last = both.1; single = not_true (leads t x) (and_parts (not (leads t x)) true plain).0 }
closes_with t (x ∷ y ∷ ds) h plain =
    let rest = closes_with t (y ∷ ds) h (and_parts (not (leads t x)) (list_all (λ p. not (leads t p)) (y ∷ ds)) plain).1 in
    record { front = x ∷ rest.front; s = rest.s; same = ap (λ l. x ∷ l) rest.same; starter = rest.starter; last = rest.last; single = rest.single }

-- the matches of a text that has such a starter
module _ (t : ElementTable) (s : ℕ) (starter : is_starter s ≡ true) (last : ends_matches t s ≡ true) (single : leads t s ≡ false) where
  closed-matches : (fuel : ℕ) (xs ys : List ℕ) → length xs ≤ fuel → matches (is_key t) (xs ++ s ∷ ys) ≡ matches (is_key t) (xs ++ s ∷ []) ++ matches (is_key t) ys
  unfolding matches_within
  closed-matches fuel [] ys h = matches-single (is_key t) s (λ q after. leads-no_key t s q after single) ys
  closed-matches zero (x ∷ xs) ys h = absurd (omega arith)
  closed-matches (suc fuel) (x ∷ xs) ys h =
      elim (steps (is_key t) s starter x xs (λ c after. last-facts t s last x xs c after)) [
        | inl before ↦
            matches-step (is_key t) x (xs ++ s ∷ ys) ∙ ap (λ (r : Step). r.matched ∷ matches (is_key t) r.rest) (before.same ys)
            ∙ ap (λ l. before.matched ∷ l) (closed-matches fuel before.left ys (omega (arith, before.less)))
            ∙ sym (ap (λ l. l ++ matches (is_key t) ys) (matches-step (is_key t) x (xs ++ s ∷ []) ∙ ap (λ (r : Step). r.matched ∷ matches (is_key t) r.rest) (before.same [])))
        | inr ends ↦
            matches-step (is_key t) x (xs ++ s ∷ ys) ∙ ap (λ (r : Step). r.matched ∷ matches (is_key t) r.rest) (ends.same ys)
            ∙ sym (ap (λ l. l ++ matches (is_key t) ys) (matches-step (is_key t) x (xs ++ s ∷ []) ∙ ap (λ (r : Step). r.matched ∷ matches (is_key t) r.rest) (ends.same [])))
      ]

-- the NFD of a text in two parts
nfd-parts : (p x : List ℕ) (c : ℕ) → nfd (p ++ c ∷ x) ≡ canonical_order (flat_map decompose_canonical p ++ (decompose_canonical c ++ flat_map decompose_canonical x))
nfd-parts p x c = nfd-is (p ++ c ∷ x) ∙ ap canonical_order (flat_map-append decompose_canonical p (c ∷ x))

-- a text is cut after a character that bears all
pub apart-after : (t : ElementTable) (p x : List ℕ) (c : ℕ) → 3 ≤ bearing t c → IsApart t (p ++ c ∷ []) x
apart-after t p x c h =
    let ds : List ℕ = decompose_canonical c in
    let fp : List ℕ = flat_map decompose_canonical p in
    let fx : List ℕ = flat_map decompose_canonical x in
    let closes : ends_all_matches t ds ≡ true = bearing-all t ds h in
    let end = closes_with t ds closes (bearing-plain t ds (omega (arith, h))) in
    let first : nfd (p ++ c ∷ []) ≡ canonical_order (fp ++ ds) = nfd-parts p [] c ∙ ap (λ l. canonical_order (fp ++ l)) (append-nil ds) in
    let all : nfd (p ++ c ∷ x) ≡ canonical_order (fp ++ ds) ++ nfd x =
    nfd-parts p x c ∙ order-after fp ds fx (closes-ends t ds closes) ∙ ap (λ l. canonical_order (fp ++ ds) ++ l) (sym (nfd-is x)) in
    let zs : List ℕ = canonical_order (fp ++ end.front) in
    let cut : canonical_order (fp ++ ds) ≡ zs ++ end.s ∷ [] =
    ap (λ l. canonical_order (fp ++ l)) end.same ∙ ap canonical_order (sym (append_assoc fp end.front (end.s ∷ [])))
    ∙ canonical_order-at_starter (fp ++ end.front) end.s [] (is_starter-true end.s end.starter) ∙ ap (λ l. zs ++ end.s ∷ l) canonical_order-nil in
    ap (λ l. elements t (nfd l)) (append_assoc p (c ∷ []) x)
    ∙ ap (elements t) (all ∙ ap (λ l. l ++ nfd x) cut ∙ append_assoc zs (end.s ∷ []) (nfd x))
    ∙ elements-parts t (zs ++ end.s ∷ []) (nfd x) (zs ++ end.s ∷ nfd x) (closed-matches t end.s end.starter end.last end.single (length zs) zs (nfd x) (omega arith))
    ∙ ap (λ l. elements t l ++ elements t (nfd x)) (sym (first ∙ cut))
