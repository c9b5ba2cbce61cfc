-- The element that stands for a character at the first level.
use Rattle.std.specs.Prelude.{◌≡◌, ◌==◌, ◌<◌, ◌++◌, ℕ, List, [], ◌∷◌, true, false, drop, get_or, length}
use Rattle.std.specs.List.{list_all}
use Rattle.unicode_normalization.specs.Forms.{nfd}
use Rattle.uca_weights.specs.declared.element.Element.{Element}
use Rattle.uca_model.specs.Table.{ElementTable}
use Rattle.uca_model.specs.CollationElements.{elements}
use Rattle.uca_model.specs.StandAlone.{joining}

-- the first of some elements, or one without weights
abbrev pub first_of : List Element → Element
first_of es = get_or es 0 record { starred = false; l1 = 0; l2 = 0; l3 = 0 }

-- elements begin with this one, and no other has a primary weight
pub record IsLead (e : Element) (es : List Element) : Type 0 where
  pub first : es ≡ e ∷ drop 1 es
  pub none : list_all (λ x. x.l1 == 0) (drop 1 es) ≡ true

-- a character may be read by this primary weight alone: it joins nothing before it, its elements stand alone before every text, they begin with one of this weight, and no other has one
pub record IsLeadWeight (t : ElementTable) (c w : ℕ) : Type 0 where
  pub joins : joining t c ≡ 0
  pub lead : IsLead (first_of (elements t (nfd (c ∷ [])))) (elements t (nfd (c ∷ [])))
  pub weight : w ≡ (first_of (elements t (nfd (c ∷ [])))).l1
  pub alone : (after : List ℕ) → elements t (nfd (c ∷ [])) ++ elements t (nfd after) ≡ elements t (nfd (c ∷ after))

-- weights of the first characters, by their code points; 0 where a character may not be read by one alone
pub record HoldsLeads (t : ElementTable) (weights : List ℕ) : Type 0 where
  pub size : length weights ≡ 2048
  pub each : (c : ℕ) → 0 < get_or weights c 0 → IsLeadWeight t c (get_or weights c 0)
