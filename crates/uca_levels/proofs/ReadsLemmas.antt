-- Remaining weights, how often texts are read, and texts that are read in step.
use Rattle.std.proofs.Common.{◌≡◌, ℕ, true, false, not, ◌==◌, List, [], ◌∷◌, ◌++◌, filter, Option, Some, None, sym, ap, subst, ◌∙◌, arith, append_assoc}
use Rattle.std.specs.declared.cmp.Ordering.{Ordering}
use Rattle.std.specs.declared.cmp.Ordering.TheVariants.{Equal}
use Rattle.std.specs.Ordering.{is_ne}
use Rattle.uca_model.specs.DecidingLevel.{OrdersLevel}
use Rattle.uca_model.proofs.LevelLemmas.{OrdersLevel-front}
use Rattle.uca_model.specs.Source.{SourceState}
use Rattle.uca_model.specs.Window.{WindowState, ReadsOn}
use Rattle.uca_match.specs.Yields.{YieldsFirst}
use Rattle.uca_levels.specs.Reads.{InStep}
use Rattle.std.proofs.lemmas.Grind.{common_steps}

-- ---- weights that are not zero

pub ReadsOn-more : (w v u : WindowState) (s t r : SourceState) → ReadsOn w s v t → ReadsOn v t u r → ReadsOn w s u r
ReadsOn-more w v u s t r h k = grind (arith, common_steps)

-- ---- two texts in step

pub InStep-on : (xs ys left right later other : List ℕ) → InStep xs ys left right → InStep left right later other → InStep xs ys later other
InStep-on xs ys left right later other h k = record {
  front = h.front ++ k.front;
  first = h.first ∙ rw k.first (sym (append_assoc h.front k.front later));
  second = h.second ∙ rw k.second (sym (append_assoc h.front k.front other));
}

pub InStep-more : (xs ys left right : List ℕ) (x y : ℕ) (later other : List ℕ) → InStep xs ys left right → left ≡ x ∷ later → right ≡ y ∷ other → x ≡ y → InStep xs ys later other
InStep-more xs ys left right x y later other h a b e = InStep-on _ _ _ _ _ _ h (record { front = x ∷ []; first = a; second = b ∙ ap (λ z. z ∷ other) (sym e) })

-- the same, where zeros are no weights
pub InStep-without : (weight : ℕ) (xs ys left right later other : List ℕ) → InStep xs ys (filter (λ w. not (w == 0)) left) (filter (λ w. not (w == 0)) right) → left ≡ weight ∷ later → right ≡ weight ∷ other
    → InStep xs ys (filter (λ w. not (w == 0)) later) (filter (λ w. not (w == 0)) other)
InStep-without weight xs ys left right later other h a b = grind (arith, common_steps, InStep-more)

pub InStep-same : (xs ys l r k j : List ℕ) → InStep xs ys l r → k ≡ l → j ≡ r → InStep xs ys k j
InStep-same xs ys l r k j h e f = rw e (rw f h)

-- what decides what is left decides the whole lists
pub InStep-orders : (level : ℕ) (xs ys left right : List ℕ) (o : Ordering) → InStep xs ys left right → OrdersLevel level left right o → OrdersLevel level xs ys o
InStep-orders level xs ys left right o h orders = rw h.first (rw h.second (OrdersLevel-front level h.front left right o orders))

-- ---- what a call gave

pub given_some : {A : Type 0} (xs ys : List A) (o : Option A) (x : A) → YieldsFirst xs o ys → o ≡ Some x → xs ≡ x ∷ ys
given_some xs ys o x h e = let P : Option _ → Type 0 = λ r. YieldsFirst xs r ys in subst P e h

pub given_none : {A : Type 0} (xs ys : List A) (o : Option A) → YieldsFirst xs o ys → o ≡ None → (xs ≡ []) × (ys ≡ [])
given_none xs ys o h e = let P : Option _ → Type 0 = λ r. YieldsFirst xs r ys in subst P e h

pub from_ne : (o : Ordering) → is_ne o ≡ true → o ≡ Equal → ⊥
from_ne o h e = grind (arith, common_steps)

pub from_not_ne : (o : Ordering) → is_ne o ≡ false → o ≡ Equal
from_not_ne o h = grind (arith, common_steps)
