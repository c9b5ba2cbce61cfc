-- Two texts without a front that they have in common.
use Rattle.std.specs.Prelude.{◌≡◌, ◌⊎◌, ℕ, true, List, [], ◌∷◌, ◌++◌}
use Rattle.uca_model.specs.Table.{ElementTable}
use Rattle.uca_model.specs.SafeCut.{is_cut}
use Rattle.uca_model.specs.CollationElements.{elements}
use Rattle.unicode_normalization.specs.Forms.{nfd}

-- a text may follow any other, and keeps its elements: it is empty, or begins with a character before which it may be cut
abbrev pub MayFollow : ElementTable → List ℕ → Type 0
MayFollow t [] = Unit {0}
MayFollow t (c ∷ later) = is_cut t c ≡ true

-- these are left of two texts after a front that they have in common, and both follow it so if there is one
pub record AreLeft (Follows : List ℕ → List ℕ → Type 0) (a b left_a left_b : List ℕ) : Type 0 where
  pub front : List ℕ
  pub first : a ≡ front ++ left_a
  pub second : b ≡ front ++ left_b
  pub follow : (front ≡ []) ⊎ (Follows front left_a × Follows front left_b)

-- they may follow any text
abbrev pub AreWithoutFront : ElementTable → List ℕ → List ℕ → List ℕ → List ℕ → Type 0
AreWithoutFront t = AreLeft (λ front left. MayFollow t left)

-- a text after a front has its elements by itself, and so has the front
abbrev pub IsApart : ElementTable → List ℕ → List ℕ → Type 0
IsApart t front left = elements t (nfd (front ++ left)) ≡ elements t (nfd front) ++ elements t (nfd left)

-- so have both
abbrev pub AreApart : ElementTable → List ℕ → List ℕ → List ℕ → List ℕ → Type 0
AreApart t = AreLeft (IsApart t)
