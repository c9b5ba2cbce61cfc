-- The implicit elements: no relation moves them, and they always fit.
use Rattle.std.proofs.Common.{◌≡◌, ℕ, ◌+◌, ◌-◌, ◌/◌, ◌%◌, ◌≤◌, Bool, true, false, cond, eqb, eqb-true, List, [], ◌∷◌, map, Option, Some, None, refl, sym, ap, ap₂, subst, ◌∙◌, arith, lit≤}
use Rattle.std.proofs.lemmas.Bool.Decides.{nat_tests}
use Rattle.std.specs.Option.{option_map_or}
use Rattle.uca_weights.specs.declared.element.Element.{Element}
use Rattle.uca_weights.specs.declared.range.Ideographs.{Ideographs}
use Rattle.uca_weights.specs.declared.range.Range.{Range}
use Rattle.uca_model.specs.Table.{IsRange, AreRanges}
use Rattle.uca_model.specs.ImplicitWeights.{pair, implicit_over, is_assigned, is_between, is_unified_ideograph, in_some, core_blocks, in_range, in_two_parts, range_of, lowest_first}
use Rattle.uca_model.specs.Gap.{weight_with_gap, weight_with_gap_at, with_gap}
use Rattle.uca_model.specs.Tailoring.{least}
use Rattle.uca_model.proofs.ImplicitLemmas.{found}
use Rattle.uca_model.proofs.GapAtWeights.{weight_cannot_move, weight_with_gap-low}
use Rattle.uca_tailor.proofs.Levels.{IsLevel, level_one, level_two, level_three}
use Rattle.uca_tailor.proofs.GapAndWeighting.{weight_with_gap_at-zero, weight_with_gap_at-high}
use Rattle.uca_tailor.proofs.LevelOrders.{AllCanMove}

-- two elements of implicit weights: the first weights are from 8000 on
pub record ArePair (es : List Element) : Type 0 where
  pub first : ℕ
  pub second : ℕ
  pub are : es ≡ pair first second
  pub first_high : 32768 ≤ first
  pub second_high : 32768 ≤ second

two_parts : (base c : ℕ) → 32768 ≤ base → ArePair (in_two_parts base c)
two_parts base c h = record { first = base + c / 0x8000; second = c % 0x8000 + 0x8000; are = refl; first_high = omega arith; second_high = omega arith }

by_range : (rs : List Range) (c : ℕ) (o : Option Range) → AreRanges rs → range_of rs c ≡ o → (es : List Element) → ArePair es → ArePair (option_map_or (in_range rs c) o es)
by_range rs c None ranges is es p = p
by_range rs c (Some r) ranges is es p = record {
  first = r.base;
  second = c - lowest_first rs r.base r.first + 0x8000;
  are = refl;
  first_high = (found IsRange (λ x. is_between x.first x.last c) rs r ranges.each is).0.above;
  second_high = omega arith;
}

either : (b : Bool) (es fs : List Element) → ArePair es → ArePair fs → ArePair (cond b es fs)
either true es fs p q = p
either false es fs p q = q

base_high : (a b : Bool) → 32768 ≤ cond a (cond b 0xFB40 0xFB80) 0xFBC0
base_high true true = lit≤ tt
base_high true false = lit≤ tt
base_high false b = lit≤ tt

pub implicit_pair : (rs : List Range) (added : List Ideographs) (c : ℕ) → AreRanges rs → ArePair (implicit_over rs added c)
unfolding implicit_over
implicit_pair rs added c h =
    let parts : ArePair (in_two_parts (cond (is_unified_ideograph added c) (cond (in_some core_blocks c) 0xFB40 0xFB80) 0xFBC0) c) = two_parts _ c (base_high (is_unified_ideograph added c) (in_some core_blocks c)) in
    either (is_assigned c) _ _ (by_range rs c (range_of rs c) h refl _ parts) parts

low_at : (m w j x : ℕ) (b : Bool) → eqb m j ≡ b → (m ≡ j → x ≤ w) → cond b (weight_with_gap m w x) x ≡ x
low_at m w j x true is h = weight_with_gap-low m w x (h (eqb-true m j is))
low_at m w j x false is h = refl

least_second : (m w : ℕ) → least m ≤ w → m ≡ 2 → 32 ≤ w
least_second m w h e = subst (λ k. least k ≤ w) e h

least_third : (m w : ℕ) → least m ≤ w → m ≡ 3 → 2 ≤ w
least_third m w h e = subst (λ k. least k ≤ w) e h

abbrev element : ℕ → ℕ → ℕ → Element
element a b c = record { starred = false; l1 = a; l2 = b; l3 = c }

-- implicit elements stay
pub pair-with_gap : (m w a b : ℕ) → least m ≤ w → 32768 ≤ a → 32768 ≤ b → map (with_gap m w) (pair a b) ≡ pair a b
pair-with_gap m w a b h p q =
    let second : weight_with_gap_at m w 2 32 ≡ 32 = low_at m w 2 32 (eqb m 2) refl (least_second m w h) in
    let third : weight_with_gap_at m w 3 2 ≡ 2 = low_at m w 3 2 (eqb m 3) refl (least_third m w h) in
    ap₂ (λ x y. x ∷ y ∷ [])
    (ap (λ k. element k (weight_with_gap_at m w 2 32) (weight_with_gap_at m w 3 2)) (weight_with_gap_at-high m w a p) ∙ ap₂ (element a) second third)
    (ap (λ k. element k (weight_with_gap_at m w 2 0) (weight_with_gap_at m w 3 0)) (weight_with_gap_at-high m w b q) ∙ ap₂ (element b) (weight_with_gap_at-zero m w 2) (weight_with_gap_at-zero m w 3))

pub implicit-with_gap : (m w : ℕ) (rs : List Range) (added : List Ideographs) (c : ℕ) → AreRanges rs → least m ≤ w → map (with_gap m w) (implicit_over rs added c) ≡ implicit_over rs added c
implicit-with_gap m w rs added c h g = let p = implicit_pair rs added c h in ap (map (with_gap m w)) p.are ∙ pair-with_gap m w p.first p.second g p.first_high p.second_high ∙ sym p.are

-- implicit elements fit
high_can_move : (w x : ℕ) → 32768 ≤ x → weight_cannot_move 1 w x ≡ false
high_can_move w x h = grind (arith, nat_tests)

low_can_move : (m w x : ℕ) → x ≤ w → weight_cannot_move m w x ≡ false
low_can_move m w x h = grind (arith, nat_tests)

pub pair_can_move : (m w a b : ℕ) → IsLevel m → least m ≤ w → 32768 ≤ a → 32768 ≤ b → AllCanMove m w (pair a b)
pair_can_move m w a b level_one h p q = (high_can_move w a p, (high_can_move w b q, tt))
pair_can_move m w a b level_two h p q = (low_can_move 2 w 32 h, (low_can_move 2 w 0 (omega arith), tt))
pair_can_move m w a b level_three h p q = (low_can_move 3 w 2 h, (low_can_move 3 w 0 (omega arith), tt))

pub implicit_can_move : (m w : ℕ) (rs : List Range) (added : List Ideographs) (c : ℕ) → IsLevel m → AreRanges rs → least m ≤ w → AllCanMove m w (implicit_over rs added c)
implicit_can_move m w rs added c l h g = let p = implicit_pair rs added c h in subst (AllCanMove m w) (sym p.are) (pair_can_move m w p.first p.second l g p.first_high p.second_high)
