-- A gap above a weight: what it leaves as it is, that it keeps the order of weights, and that no weight moves into the gap.
use Rattle.std.proofs.Common.{◌≡◌, ℕ, ◌+◌, ◌≤◌, ◌<◌, Bool, false, ◌&&◌, ◌==◌, eqb, refl, arith}
use Rattle.std.proofs.lemmas.Bool.Decides.{nat_tests}
use Rattle.std.specs.Ordering.{nat_cmp}
use Rattle.uca_weights.specs.declared.element.Element.{Element}
use Rattle.uca_weights.specs.Element.{weight}
use Rattle.uca_model.specs.Gap.{moves, weight_with_gap, max_weight}
use Rattle.uca_model.specs.Tailoring.{raised}

-- a weight of a level would move, and can't
abbrev pub weight_cannot_move : ℕ → ℕ → ℕ → Bool
weight_cannot_move level w x = moves level w x && x == max_weight level

-- zero stays, and no other weight becomes zero
pub weight_with_gap-zero : (level w : ℕ) → weight_with_gap level w 0 ≡ 0
weight_with_gap-zero level w = grind (arith, nat_tests)

pub weight_with_gap-is_zero : (level w x : ℕ) → eqb (weight_with_gap level w x) 0 ≡ eqb x 0
weight_with_gap-is_zero level w x = grind (arith, nat_tests)

-- so do weights up to the one below the gap, and at level 1 those of implicit elements, from 8000 on
pub weight_with_gap-low : (level w x : ℕ) → x ≤ w → weight_with_gap level w x ≡ x
weight_with_gap-low level w x h = grind (arith, nat_tests)

pub weight_with_gap-high : (w x : ℕ) → 32768 ≤ x → weight_with_gap 1 w x ≡ x
weight_with_gap-high w x h = grind (arith, nat_tests)

-- where weights can move up their order stays, both ways
pub nat_cmp-weight_with_gap : (level w x y : ℕ) → weight_cannot_move level w x ≡ false → weight_cannot_move level w y ≡ false → nat_cmp (weight_with_gap level w x) (weight_with_gap level w y) ≡ nat_cmp x y
nat_cmp-weight_with_gap level w x y p q = grind (arith, nat_tests)

-- the weight in the gap is no weight that moved
pub weight_with_gap-apart : (level w x : ℕ) → (level ≡ 1 → w < 32767) → weight_with_gap level w x ≡ w + 1 → ⊥
weight_with_gap-apart level w x h e = grind (arith, nat_tests)

-- where it can move up a weight of sixteen bits keeps them
pub weight_with_gap-fits : (level w x : ℕ) → weight_cannot_move level w x ≡ false → x < 65536 → weight_with_gap level w x < 65536
weight_with_gap-fits level w x p h = grind (arith, nat_tests)

-- a raised element has the weight in the gap
pub raised-first : (e : Element) → weight 1 (raised 1 e) ≡ weight 1 e + 1
raised-first e = refl

pub raised-second : (e : Element) → weight 2 (raised 2 e) ≡ weight 2 e + 1
raised-second e = refl

pub raised-third : (e : Element) → weight 3 (raised 3 e) ≡ weight 3 e + 1
raised-third e = refl
