-- The raised weight: once there is a gap, no entry and no implicit element has it, and so no text.
use Rattle.std.proofs.Common.{◌≡◌, ℕ, ◌+◌, ◌≤◌, ◌<◌, Bool, false, ◌==◌, nat_le, List, [], ◌∷◌, map, flat_map, slice_index, Option, Some, None, unwrap_or, refl, sym, subst, ◌∙◌, arith}
use Rattle.std.proofs.lemmas.Bool.Decides.{nat_tests}
use Rattle.std.specs.List.{AllByRecursion}
use Rattle.std.specs.Option.{option_map}
use Rattle.uca_weights.specs.declared.element.Element.{Element}
use Rattle.uca_weights.specs.declared.range.Ideographs.{Ideographs}
use Rattle.uca_weights.specs.declared.range.Range.{Range}
use Rattle.uca_weights.specs.Element.{weight}
use Rattle.uca_model.specs.Table.{ElementTable, AreRanges, elements_at, is_key}
use Rattle.uca_model.specs.ImplicitWeights.{pair, implicit, implicit_over}
use Rattle.uca_model.specs.Match.{Match}
use Rattle.uca_model.specs.CollationElements.{elements, elements_or_implicit, matches}
use Rattle.uca_model.specs.Gap.{with_gap, table_with_gap, max_weight}
use Rattle.uca_model.specs.Tailoring.{least, is_high, Placed}
use Rattle.uca_model.proofs.AnchorElements.{any_anchor}
use Rattle.uca_model.proofs.GapLookups.{elements_at-with_gap}
use Rattle.uca_model.proofs.GapAtWeights.{weight_with_gap-apart}
use Rattle.uca_model.proofs.WeightLemmas.{each-append}
use Rattle.uca_tailor.specs.TailoringLaws.{Lacks}
use Rattle.uca_tailor.proofs.Levels.{IsLevel, level_one, level_two, level_three, weight-with_gap}
use Rattle.uca_tailor.proofs.ImplicitElements.{implicit_pair}
use Rattle.uca_tailor.proofs.RelationFacts.{IsPlacedAt}

-- there is a gap at level 1 below the implicit weights
abbrev pub IsBelowTop : ℕ → ℕ → Type 0
IsBelowTop m w = m ≡ 1 → w < 32767

below_first : (x : ℕ) → nat_le 32768 x ≡ false → (x == 32767) ≡ false → x < 32767
below_first x h e = grind (arith, nat_tests)

pub is_below_top : (m : ℕ) (t : ElementTable) (es : List Element) (p : Placed) → (h : IsPlacedAt m t es p) → IsBelowTop m (weight m h.split.last)
is_below_top m t es p h is =
    let high = any_anchor is_high m es h.split h.is_split h.free.low in
    subst (λ k. (weight k h.split.last == max_weight k) ≡ false → weight k h.split.last < 32767) (sym is) (λ e. below_first h.split.last.l1 high.1 e) h.free.below_top

-- ## Entries and implicit elements

pub lacks_shifted : (m w : ℕ) (es : List Element) → IsLevel m → IsBelowTop m w → Lacks m (w + 1) (map (with_gap m w) es)
lacks_shifted m w [] l h = tt
lacks_shifted m w (e ∷ es) l h = (λ is. weight_with_gap-apart m w (weight m e) h (sym (weight-with_gap m w e l) ∙ is), lacks_shifted m w es l h)

lacks_pair : (m w a b : ℕ) → IsLevel m → IsBelowTop m w → least m ≤ w → 32768 ≤ a → 32768 ≤ b → Lacks m (w + 1) (pair a b)
lacks_pair m w a b level_one h g p q = let f : w < 32767 = h refl in (λ e. omega arith, (λ e. omega arith, tt))
lacks_pair m w a b level_two h g p q = let f : 32 ≤ w = g in (λ e. omega arith, (λ e. omega arith, tt))
lacks_pair m w a b level_three h g p q = let f : 2 ≤ w = g in (λ e. omega arith, (λ e. omega arith, tt))

pub lacks_implicit : (m w : ℕ) (rs : List Range) (added : List Ideographs) (c : ℕ) → IsLevel m → IsBelowTop m w → least m ≤ w → AreRanges rs → Lacks m (w + 1) (implicit_over rs added c)
lacks_implicit m w rs added c l h g r = let p = implicit_pair rs added c r in subst (Lacks m (w + 1)) (sym p.are) (lacks_pair m w p.first p.second l h g p.first_high p.second_high)

lacks_entry : (m w : ℕ) (o : Option (List Element)) (es : List Element) → IsLevel m → IsBelowTop m w → option_map (map (with_gap m w)) o ≡ Some es → Lacks m (w + 1) es
lacks_entry m w None es l h e = absurd (cc)
lacks_entry m w (Some fs) es l h e = let is : map (with_gap m w) fs ≡ es = cc in subst (Lacks m (w + 1)) is (lacks_shifted m w fs l h)

pub lacks_table : (m w : ℕ) (t : ElementTable) (key : List ℕ) (es : List Element) → IsLevel m → IsBelowTop m w → elements_at (table_with_gap m w t) key ≡ Some es → Lacks m (w + 1) es
lacks_table m w t key es l h e = lacks_entry m w (elements_at t key) es l h (sym (elements_at-with_gap m w t key) ∙ e)

-- ## Texts

-- no entry has a weight, but those of the keys that a test names, and no implicit element
pub record LacksAll (m x : ℕ) (t : ElementTable) (but : List ℕ → Bool) : Type 0 where
  pub entries : (key : List ℕ) (es : List Element) → but key ≡ false → elements_at t key ≡ Some es → Lacks m x es
  pub implicit_ones : (c : ℕ) → Lacks m x (implicit t c)

lacks_key : (m x : ℕ) (t : ElementTable) (but : List ℕ → Bool) (key : List ℕ) → LacksAll m x t but → but key ≡ false → Lacks m x (elements_or_implicit t key)
lacks_key m x t but key h other = by_entry (elements_at t key) refl where
  by_entry : (o : Option (List Element)) → elements_at t key ≡ o → Lacks m x (unwrap_or o (implicit t (slice_index key 0)))
  by_entry None e = h.implicit_ones _
  by_entry (Some es) e = h.entries key es other e

pub lacks_matches : (m x : ℕ) (t : ElementTable) (but : List ℕ → Bool) (ms : List Match) → LacksAll m x t but → AllByRecursion (λ k. but k.code_points ≡ false) ms → Lacks m x (flat_map (λ k. elements_or_implicit t k.code_points) ms)
lacks_matches m x t but [] h all = tt
lacks_matches m x t but (k ∷ ms) h all = each-append _ (elements_or_implicit t k.code_points) _ (lacks_key m x t but k.code_points h all.0) (lacks_matches m x t but ms h all.1)

-- where the test names no key
abbrev pub no_key : List ℕ → Bool
no_key key = false

all_others : (ms : List Match) → AllByRecursion (λ k. no_key k.code_points ≡ false) ms
all_others [] = tt
all_others (k ∷ ms) = (refl, all_others ms)

pub lacks_text : (m x : ℕ) (t : ElementTable) (xs : List ℕ) → LacksAll m x t no_key → Lacks m x (elements t xs)
lacks_text m x t xs h = lacks_matches m x t no_key (matches (is_key t) xs) h (all_others (matches (is_key t) xs))
