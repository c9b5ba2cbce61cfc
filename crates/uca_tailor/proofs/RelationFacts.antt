-- What follows for a relation that has no fault.
use Rattle.std.proofs.Common.{◌≡◌, ℕ, ◌≤◌, Bool, true, false, cond, nat_lt, List, ◌++◌, length, Option, Some, None, Result, Ok, Err, refl, sym, ap, ◌∙◌}
use Rattle.std.proofs.lemmas.Bool.{ltb-false}
use Rattle.std.specs.Option.{option_map_or}
use Rattle.uca_weights.specs.declared.element.Element.{Element}
use Rattle.uca_weights.specs.declared.limits.TheConstants.{MAX_ELEMENTS}
use Rattle.uca_weights.specs.Element.{weight}
use Rattle.uca_model.specs.Table.{ElementTable, with_entry}
use Rattle.uca_model.specs.TableText.{◌>>=◌}
use Rattle.uca_model.specs.CollationElements.{elements}
use Rattle.uca_model.specs.Rules.{Relation}
use Rattle.uca_model.specs.Tailoring.{TailorCause, small_weight, too_many_elements, Anchor, anchor_of, Placed, placed_next_to, fault_at, placed_at, placed_after, placed, Related, entered, related}
use Rattle.uca_model.proofs.AnchorElements.{IsFree, is_free}
use Rattle.uca_tailor.specs.TailoringLaws.{op_level}
use Rattle.uca_tailor.proofs.Levels.{places_at}

-- ## Results without a fault

pub cond_ok : {A E : Type 0} (b : Bool) (c : E) (r : Result A E) (x : A) → cond b (Err c) r ≡ Ok x → (b ≡ false) × (r ≡ Ok x)
cond_ok true c r x e = absurd (cc)
cond_ok false c r x e = (refl, e)

pub same_ok : {A E : Type 0} (x y : A) → (let l : Result A E = Ok x in l ≡ Ok y) → x ≡ y
same_ok x y e = cc

pub bind_ok : {A B E : Type 0} (r : Result A E) (f : A → Result B E) (y : B) → (r >>= f) ≡ Ok y → (x : A) × (r ≡ Ok x) × (f x ≡ Ok y)
bind_ok (Ok x) f y e = (x, refl, e)
bind_ok (Err c) f y e = absurd (cc)

-- ## Places

-- an item has a place at a level
pub record IsPlacedAt (level : ℕ) (t : ElementTable) (anchor : List Element) (p : Placed) : Type 0 where
  pub split : Anchor
  pub is_split : anchor_of level anchor ≡ Some split
  pub free : IsFree level (weight level split.last) t anchor
  pub are : p ≡ placed_next_to level t split

no_fault : {A E : Type 0} (o : Option E) (x y : A) → (let r : Result A E = option_map_or (λ cause. Err cause) o (Ok x) in r ≡ Ok y) → (o ≡ None) × (x ≡ y)
no_fault None x y e = (refl, same_ok x y e)
no_fault (Some c) x y e = absurd (cc)

at_anchor : (level : ℕ) (t : ElementTable) (anchor : List Element) (o : Option Anchor) (p : Placed) → anchor_of level anchor ≡ o
    → option_map_or (placed_at level t anchor) o (Err small_weight) ≡ Ok p → IsPlacedAt level t anchor p
at_anchor level t anchor None p is e = absurd (cc)
at_anchor level t anchor (Some a) p is e =
    let n = no_fault (fault_at level (weight level a.last) t anchor) (placed_next_to level t a) p e in
    record { split = a; is_split = is; free = is_free level (weight level a.last) t anchor n.0; are = sym n.1 }

pub is_placed_at : (level : ℕ) (t : ElementTable) (anchor : List Element) (p : Placed) → placed_after level t anchor ≡ Ok p → IsPlacedAt level t anchor p
is_placed_at level t anchor p e = at_anchor level t anchor (anchor_of level anchor) p refl e

-- ## Relations

abbrev related_as : ElementTable → List Element → Related
related_as u a = record { table = u; anchor = a }

-- an item has a place, and is entered there
pub record IsEntered (t : ElementTable) (anchor : List Element) (r : Relation) (next : Related) : Type 0 where
  pub place : Placed
  pub is_place : placed t anchor r.op ≡ Ok place
  pub few : length (place.base ++ elements place.table r.expansion) ≤ MAX_ELEMENTS
  pub table : next.table ≡ with_entry place.table r.item (place.base ++ elements place.table r.expansion)
  pub base : next.anchor ≡ place.base

pub is_entered : (t : ElementTable) (anchor : List Element) (r : Relation) (next : Related) → related t anchor r ≡ Ok next → IsEntered t anchor r next
is_entered t anchor r next e =
    let p = bind_ok (placed t anchor r.op) (λ p. entered r.item p (p.base ++ elements p.table r.expansion)) next e in
    let whole = p.0.base ++ elements p.0.table r.expansion in
    let few = cond_ok (nat_lt MAX_ELEMENTS (length whole)) too_many_elements _ next p.2 in
    let made : related_as (with_entry p.0.table r.item whole) p.0.base ≡ next = same_ok {E = TailorCause} _ next few.1 in
    record { place = p.0; is_place = p.1; few = ltb-false MAX_ELEMENTS (length whole) few.0; table = sym (ap (λ z. z.table) made); base = sym (ap (λ z. z.anchor) made) }

-- the same of a relation of a level
pub record IsRelated (level : ℕ) (t : ElementTable) (anchor : List Element) (r : Relation) (next : Related) : Type 0 where
  pub entered : IsEntered t anchor r next
  pub how : IsPlacedAt level t anchor entered.place

pub is_related : (level : ℕ) (t : ElementTable) (anchor : List Element) (r : Relation) (next : Related) → op_level r.op ≡ level → 1 ≤ level → related t anchor r ≡ Ok next → IsRelated level t anchor r next
is_related level t anchor r next is some e =
    let f = is_entered t anchor r next e in
    record { entered = f; how = is_placed_at level t anchor f.place (sym ((places_at level r.op is some).placed_is t anchor) ∙ f.is_place) }
