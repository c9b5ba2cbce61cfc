-- The NFD of characters is made of characters.
use Rattle.std.proofs.Common.{◌≡◌, ℕ, suc, zero, ◌+◌, ◌/◌, ◌%◌, ◌-◌, ◌<◌, Bool, true, false, List, [], ◌∷◌, flat_map, All, refl, ap, ◌∙◌, arith, inl, inr}
use Rattle.std.proofs.Math.Utf8.{scalar, scalar_cases, low_scalar}
use Rattle.std.proofs.lemmas.Bool.{cases_Bool, cases_eq, and_from, and_parts, cond-false}
use Rattle.std.proofs.lemmas.List.Elements.{recursion_from_All}
use Rattle.std.specs.List.{list_all, AllByRecursion}
use Rattle.std.specs.Char.{IsScalar}
use Rattle.ucd_table.proofs.RangedFacts.{values_ok, Stepped-at_values}
use Rattle.ucd_table.proofs.Computing.{tables}
use Rattle.ucd_normal.specs.declared.forms.Form.TheVariants.{Nfd}
use Rattle.ucd_normal.specs.Decomposition.{decomposition, canonical_mapping, if_canonical, or_itself, expand, canonical_decomposition}
use Rattle.ucd_normal.proofs.DecompositionLemmas.{decomposition_stepped}
use Rattle.unicode_normalization.specs.Decompose.{decompose}
use Rattle.unicode_normalization.specs.Forms.{nfd}
use Rattle.unicode_normalization.specs.Hangul.{is_syllable, decompose_hangul}
use Rattle.unicode_normalization.proofs.ComposeLemmas.{list_all-append}
use Rattle.unicode_normalization.proofs.DecomposeLemmas.{decompose-syllable}
use Rattle.unicode_normalization.proofs.FormsLemmas.{normalize-Nfd}
use Rattle.unicode_normalization.proofs.HangulLemmas.{is_syllable-true, decompose_hangul-two, decompose_hangul-three}
use Rattle.unicode_normalization.proofs.KeptLemmas.{list_all-decomposed}

-- each mapping of the table is made of characters
mapping-scalars : (c : ℕ) → list_all scalar (canonical_mapping c) ≡ true
unfolding values_ok tables decomposition_stepped
mapping-scalars = Stepped-at_values decomposition decomposition_stepped (λ e. list_all scalar (if_canonical e)) refl

-- where there is no mapping, the character is its own
or_itself-scalars : (c : ℕ) (xs : List ℕ) → scalar c ≡ true → list_all scalar xs ≡ true → list_all scalar (or_itself c xs) ≡ true
or_itself-scalars c [] own all = and_from _ _ own refl
or_itself-scalars c (x ∷ xs) own all = all

-- characters that are each mapped to characters give characters
flat_map-scalars : (f : ℕ → List ℕ) → ((c : ℕ) → scalar c ≡ true → list_all scalar (f c) ≡ true) → (xs : List ℕ) → list_all scalar xs ≡ true → list_all scalar (flat_map f xs) ≡ true
flat_map-scalars f keeps [] all = refl
flat_map-scalars f keeps (x ∷ xs) all =
    let parts = and_parts (scalar x) (list_all scalar xs) all in
    list_all-append scalar (f x) (flat_map f xs) (keeps x parts.0) (flat_map-scalars f keeps xs parts.1)

-- a full decomposition by the table is made of characters
expand-scalars : (depth c : ℕ) → list_all scalar (expand canonical_mapping depth c) ≡ true
unfolding expand
expand-scalars zero c = mapping-scalars c
expand-scalars (suc depth) c =
    flat_map-scalars (λ x. or_itself x (expand canonical_mapping depth x)) (λ x own. or_itself-scalars x (expand canonical_mapping depth x) own (expand-scalars depth x)) (canonical_mapping c) (mapping-scalars c)

-- the jamo of a syllable are characters
hangul-scalars : (c : ℕ) → is_syllable c ≡ true → list_all scalar (decompose_hangul c) ≡ true
hangul-scalars c h =
    let range = is_syllable-true c h in
    let l = low_scalar (0x1100 + (c - 0xAC00) / 588) (omega arith) in
    let v = low_scalar (0x1161 + (c - 0xAC00) % 588 / 28) (omega arith) in
    let t = low_scalar (0x11A7 + (c - 0xAC00) % 28) (omega arith) in
    elim (cases_eq ((c - 0xAC00) % 28) 0) [
      | inl two ↦ ap (list_all scalar) (decompose_hangul-two c two) ∙ and_from _ _ l (and_from _ _ v refl)
      | inr three ↦ ap (list_all scalar) (decompose_hangul-three c three) ∙ and_from _ _ l (and_from _ _ v (and_from _ _ t refl))
    ]

-- what is no Hangul syllable decomposes by the table
decompose-other : (c : ℕ) → is_syllable c ≡ false → decompose Nfd c ≡ or_itself c (expand canonical_mapping 3 c)
unfolding decompose canonical_decomposition
decompose-other c h = cond-false _ _ _ h

-- a character decomposes to characters
pub decompose-scalars : (c : ℕ) → scalar c ≡ true → list_all scalar (decompose Nfd c) ≡ true
decompose-scalars c own =
    elim (cases_Bool (is_syllable c)) [
      | inl syllable ↦ ap (list_all scalar) (decompose-syllable Nfd c syllable) ∙ hangul-scalars c syllable
      | inr other ↦ ap (list_all scalar) (decompose-other c other) ∙ or_itself-scalars c (expand canonical_mapping 3 c) own (expand-scalars 3 c)
    ]

-- between a test of each element and the fact of each
pub list_all-AllByRecursion : (p : ℕ → Bool) (xs : List ℕ) → list_all p xs ≡ true → AllByRecursion (λ x. p x ≡ true) xs
list_all-AllByRecursion p [] all = tt
list_all-AllByRecursion p (x ∷ xs) all = let parts = and_parts (p x) (list_all p xs) all in (parts.0, list_all-AllByRecursion p xs parts.1)

pub AllByRecursion-list_all : (p : ℕ → Bool) (xs : List ℕ) → AllByRecursion (λ x. p x ≡ true) xs → list_all p xs ≡ true
AllByRecursion-list_all p [] all = refl
AllByRecursion-list_all p (x ∷ xs) all = and_from _ _ all.0 (AllByRecursion-list_all p xs all.1)

-- UTS #10, 7.1, S1: the NFD of a text of characters is one
pub nfd-scalars : (text : List ℕ) → All IsScalar text → AllByRecursion IsScalar (nfd text)
nfd-scalars text all =
    let given = AllByRecursion-list_all scalar text (recursion_from_All IsScalar text all) in
    list_all-AllByRecursion scalar (nfd text) (ap (list_all scalar) (normalize-Nfd text) ∙ list_all-decomposed Nfd scalar decompose-scalars text given)

-- no character is past the last code point
pub scalar-small : (c : ℕ) → IsScalar c → c < 0x110000
scalar-small c h = elim (scalar_cases c h) [ inl low ↦ omega arith | inr high ↦ omega arith ]
