-- Streams of weights, weight after weight.
use Rattle.std.proofs.Common.{◌≡◌, ℕ, ◌≤◌, ◌<◌, ◌^◌, List, ◌∷◌, Option, Some, None, IfSome, OnSome, refl, subst, arith}
use Rattle.std.specs.declared.cmp.Ordering.{Ordering}
use Rattle.uca_model.specs.DecidingLevel.{OrdersLevel}
use Rattle.uca_match.specs.Yields.{YieldsFirst}
use Rattle.uca_levels.specs.declared.primaries.Primaries.{Primaries}
use Rattle.uca_levels.specs.Decides.{Decides, IsOfLevel, SameNumber}
use Rattle.uca_levels.specs.Primaries.{after_first, first_weight}
use Rattle.uca_levels.specs.Reads.{InStep}
use Rattle.uca_levels.specs.Streams.{weight_before}
use Rattle.uca_levels.proofs.ReadsLemmas.{InStep-more, InStep-orders, given_some}
use Rattle.std.proofs.lemmas.Grind.{common_steps}

-- the next numbers decide the whole lists
pub decides-whole : (level : ℕ) (x y u w : Option ℕ) (o : Ordering) (xs ys left right later other : List ℕ) → Decides u w o → u ≡ x → w ≡ y → level ≤ 5 → IfSome x (IsOfLevel level) → IfSome y (IsOfLevel level)
    → InStep xs ys left right → YieldsFirst left x later → YieldsFirst right y other → OrdersLevel level xs ys o
decides-whole level x y u w o xs ys left right later other decides same_x same_y last weight_x weight_y lists first second =
    let both : Decides x y o = rw (← same_x) (rw (← same_y) decides) in
    InStep-orders level xs ys left right o lists (both.orders level left right later other last weight_x weight_y first second)

-- the same number goes to what both have in common
pub same-more : (x y u w : Option ℕ) (xs ys left right later other : List ℕ) → SameNumber u w → u ≡ x → w ≡ y → InStep xs ys left right → YieldsFirst left x later → YieldsFirst right y other → InStep xs ys later other
same-more x y u w xs ys left right later other same same_x same_y lists first second = grind (arith, common_steps, InStep-more, given_some)

pub of-weight : (level : ℕ) (x : Option ℕ) → IfSome x (λ weight. (0 < weight) × (weight < 2 ^ 16)) → IfSome x (IsOfLevel level)
of-weight level x h = grind (arith, common_steps)

pub of-point : (x : Option ℕ) → IfSome x (λ c. c < 2 ^ 24) → IfSome x (IsOfLevel 5)
of-point x h = grind (arith, common_steps)

pub if_some : (o : Option Ordering) (P Q : Ordering → Type 0) → ((x : Ordering) → P x → Q x) → IfSome o P → IfSome o Q
if_some None P Q more h = h
if_some (Some x) P Q more h = more x h

-- ---- second weights of characters

-- what both have after the same first weights
pub after-same : (x y : Option Primaries) (f g : Primaries) (u w : Option ℕ) (xs ys left right later other : List ℕ) → SameNumber u w → u ≡ first_weight x → w ≡ first_weight y → x ≡ Some f → y ≡ Some g
    → InStep xs ys left right → YieldsFirst left (first_weight x) (after_first x later) → YieldsFirst right (first_weight y) (after_first y other)
    → InStep xs ys (weight_before f.second later) (weight_before g.second other)
after-same x y f g u w xs ys left right later other same same_x same_y is_x is_y lists first second =
    let both : InStep xs ys (after_first x later) (after_first y other) = same-more (first_weight x) (first_weight y) u w xs ys left right _ _ same same_x same_y lists first second in
    let from_x : InStep xs ys (weight_before f.second later) (after_first y other) = subst (λ (r : Option Primaries). InStep xs ys (after_first r later) (after_first y other)) is_x both in
    subst (λ (r : Option Primaries). InStep xs ys (weight_before f.second later) (after_first r other)) is_y from_x

-- both have this one before what is left, or zero
pub same-before : (n m : ℕ) (xs ys later other : List ℕ) → n ≡ m → InStep xs ys (weight_before n later) (weight_before m other) → InStep xs ys later other
same-before n m xs ys later other same lists = grind (arith, common_steps, InStep-more)

starts-with : (n : ℕ) (left : List ℕ) → 0 < n → weight_before n left ≡ n ∷ left
starts-with n left some = grind (arith, common_steps)

-- these decide the whole lists, if they tell an order
pub decides-before : (x y : ℕ) (result : Option Ordering) (xs ys later other : List ℕ) → OnSome result ((0 < x) × (0 < y)) → IfSome result (Decides (Some x) (Some y)) → x < 2 ^ 16 → y < 2 ^ 16
    → InStep xs ys (weight_before x later) (weight_before y other) → IfSome result (OrdersLevel 1 xs ys)
decides-before x y None xs ys later other some decides fits_x fits_y lists = decides
decides-before x y (Some o) xs ys later other some decides fits_x fits_y lists =
    decides-whole 1 (Some x) (Some y) (Some x) (Some y) o xs ys (weight_before x later) (weight_before y other) later other decides refl refl (omega arith)
    (of-weight 1 (Some x) (some.0, fits_x)) (of-weight 1 (Some y) (some.1, fits_y)) lists (starts-with x later some.0) (starts-with y other some.1)

-- what loops over two streams use
pub ruleset steps = (common_steps, same-more)
