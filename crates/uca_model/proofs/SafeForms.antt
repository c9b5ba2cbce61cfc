-- A text in NFD is safe where its runs of nonstarters are short: none of its code points decomposes further.
use Rattle.std.proofs.Common.{◌≡◌, ℕ, Bool, true, false, ◌&&◌, List, [], ◌∷◌, length, flat_map, refl, ap, ◌∙◌}
use Rattle.std.proofs.lemmas.Bool.{and_from, and_parts}
use Rattle.std.specs.List.{list_all}
use Rattle.std.specs.Prelude.{nat_le}
use Rattle.unicode_normalization.specs.Decompose.{decompose_canonical}
use Rattle.unicode_normalization.specs.Forms.{Nfd, nfd}
use Rattle.unicode_normalization.proofs.ComposeLemmas.{list_all-append}
use Rattle.unicode_normalization.proofs.DecomposeLemmas.{IsFull-decompose, decompose-final}
use Rattle.unicode_normalization.proofs.FormsLemmas.{normalize_idem}
use Rattle.unicode_normalization.proofs.OrderLemmas.{list_all-canonical_order}
use Rattle.unicode_normalization.proofs.TableFacts.{is_final}
use Rattle.uca_weights.specs.declared.limits.TheConstants.{MAX_RUN, MAX_DECOMPOSITION}
use Rattle.uca_model.specs.SafeText.{is_safe, longest_run}
use Rattle.uca_model.proofs.SafeLemmas.{nfd-is, length-nfd_one}

-- no part of a decomposition decomposes further
final-parts : (cs : List ℕ) → list_all (is_final Nfd) (flat_map decompose_canonical cs) ≡ true
final-parts [] = refl
final-parts (c ∷ cs) = list_all-append (is_final Nfd) _ _ (IsFull-decompose Nfd c).final (final-parts cs)

final-nfd : (cs : List ℕ) → list_all (is_final Nfd) (nfd cs) ≡ true
final-nfd cs = ap (list_all (is_final Nfd)) (nfd-is cs) ∙ list_all-canonical_order (is_final Nfd) _ (final-parts cs)

-- what does not decompose is short
abbrev is_short : ℕ → Bool
is_short c = nat_le (length (nfd (c ∷ []))) MAX_DECOMPOSITION

short-final : (c : ℕ) → is_final Nfd c ≡ true → is_short c ≡ true
short-final c final = ap (λ n. nat_le n MAX_DECOMPOSITION) (length-nfd_one c ∙ ap length (decompose-final Nfd c final))

short-finals : (cs : List ℕ) → list_all (is_final Nfd) cs ≡ true → list_all is_short cs ≡ true
short-finals [] all = refl
short-finals (c ∷ cs) all = let parts = and_parts (is_final Nfd c) (list_all (is_final Nfd) cs) all in and_from _ _ (short-final c parts.0) (short-finals cs parts.1)

and-true : (a b : Bool) → b ≡ true → (a && b) ≡ a
and-true true b h = h
and-true false b h = refl

-- so an NFD is safe exactly where its runs are short
pub is_safe-nfd : (text : List ℕ) → is_safe (nfd text) ≡ nat_le (longest_run (nfd text)) MAX_RUN
is_safe-nfd text = and-true _ _ (short-finals (nfd text) (final-nfd text)) ∙ ap (λ cs. nat_le (longest_run cs) MAX_RUN) (normalize_idem Nfd text)
