-- The items of a chain are sorted in the order in which they are written (UTS #35, Part 5, 3.5, Orderings).
use Rattle.std.specs.Prelude.{◌≡◌, ℕ, ◌<◌, ◌≤◌, min, false, List, [], ◌∷◌, ◌++◌, length, All, Ok}
use Rattle.std.specs.Char.{IsScalar}
use Rattle.std.specs.List.{list_any}
use Rattle.std.specs.declared.cmp.Ordering.TheVariants.{Less}
use Rattle.unicode_normalization.specs.Forms.{nfd}
use Rattle.uca_weights.specs.declared.settings.Strength.{Strength}
use Rattle.uca_weights.specs.Settings.{levels}
use Rattle.uca_model.specs.Table.{ElementTable, IsTable, is_key}
use Rattle.uca_model.specs.CollationElements.{elements, matches}
use Rattle.uca_model.specs.SortKey.{key_order}
use Rattle.uca_model.specs.WellFormed.{skips_a_level}
use Rattle.uca_model.specs.Rules.{Relation, Chain}
use Rattle.uca_model.specs.Tailoring.{tailored, IsUntouched}
use Rattle.uca_tailor.specs.TailoringLaws.{op_level, plain_key, HasNoMatch}

-- a relation in the middle of rules
pub record Place : Type 0 where
  -- the chains before its own, its chain's reset and the relations before it, and what comes after it
  pub before : List Chain
  pub reset : List ℕ
  pub done : List Relation
  pub relation : Relation
  pub rest : List Relation
  pub after : List Chain

abbrev pub chain : List ℕ → List Relation → Chain
chain reset relations = record { reset = reset; relations = relations }

-- the rules up to the relation, without it and with it, and all rules
abbrev pub rules_before : Place → List Chain
rules_before p = p.before ++ chain p.reset p.done ∷ []

abbrev pub rules_through : Place → List Chain
rules_through p = p.before ++ chain p.reset (p.done ++ p.relation ∷ []) ∷ []

abbrev pub all_rules : Place → List Chain
all_rules p = p.before ++ chain p.reset (p.done ++ p.relation ∷ p.rest) ∷ p.after

-- what comes after the relation
abbrev pub rules_after : Place → List Chain
rules_after p = chain p.relation.item p.rest ∷ p.after

-- the last item, or the reset where there is none
abbrev pub string_before : List ℕ → List Relation → List ℕ
string_before reset [] = reset
string_before reset (r ∷ rs) = string_before r.item rs

-- the last of some relations, if there is one, has an item and no expansion
abbrev pub EndPlain : List Relation → Type 0
EndPlain [] = Unit {0}
EndPlain (r ∷ []) = (1 ≤ length r.item) × (r.expansion ≡ [])
EndPlain (r ∷ q ∷ rs) = EndPlain (q ∷ rs)

-- the tables that the rules up to the relation make, without it and with it, and the one that all rules make
pub record Tailors (t : ElementTable) (p : Place) (t0 t1 u : ElementTable) : Type 0 where
  pub before : tailored t (rules_before p) ≡ Ok t0
  pub through : tailored t (rules_through p) ≡ Ok t1
  pub whole : tailored t (all_rules p) ≡ Ok u
  pub table_before : IsTable t0
  pub table_through : IsTable t1

-- two texts: one that the relation goes on from, and its item; nothing that comes later disturbs them
pub record AreNeighbours (level : ℕ) (p : Place) (t0 t1 u : ElementTable) (text item : List ℕ) : Type 0 where
  pub operator : op_level p.relation.op ≡ level
  pub some : 1 ≤ level
  pub text_is : nfd text ≡ string_before p.reset p.done
  pub item_is : nfd item ≡ p.relation.item
  pub some_points : 1 ≤ length p.relation.item
  pub text_scalars : All IsScalar text
  pub item_scalars : All IsScalar item
  pub plain_before : EndPlain p.done
  pub plain : p.relation.expansion ≡ []
  -- the text's elements are well-formed, it keeps its matches, and the item is none of them
  pub well_formed : list_any skips_a_level (elements t0 (nfd text)) ≡ false
  pub matches_stay : matches (is_key t0) (nfd text) ≡ matches (is_key t1) (nfd text)
  pub not_matched : HasNoMatch t0 p.relation.item text
  -- under the last table both have the matches that they had after the relation, none of them a later item
  pub text_stays : IsUntouched t1 u (rules_after p) text
  pub item_stays : IsUntouched t1 u (rules_after p) item

-- where variable elements are not ignored, the keys of two texts are equal at the strengths below a level, and at all others the first text comes first
pub record ComesBefore (level : ℕ) (u : ElementTable) (text item : List ℕ) : Type 0 where
  pub equal : (s : Strength) → levels s < level → plain_key u s text ≡ plain_key u s item
  pub less : (s : Strength) → level ≤ levels s → key_order (plain_key u s text) (plain_key u s item) ≡ Less

-- so it is for such neighbours
abbrev pub NeighboursComeAsWritten : Type 0
NeighboursComeAsWritten =
    (level : ℕ) (t : ElementTable) (p : Place) (t0 t1 u : ElementTable) (text item : List ℕ) → Tailors t p t0 t1 u → AreNeighbours level p t0 t1 u text item → ComesBefore level u text item

-- texts one after the other, each with the level at which it comes after the one before
abbrev pub ComeInOrder : ElementTable → List ℕ → List (ℕ × List ℕ) → Type 0
ComeInOrder u text [] = Unit {0}
ComeInOrder u text (next ∷ more) = ComesBefore next.0 u text next.1 × ComeInOrder u next.1 more

-- the least of their levels: that of the strongest operator among them
abbrev pub strongest : (ℕ × List ℕ) → List (ℕ × List ℕ) → ℕ
strongest next [] = next.0
strongest next (other ∷ more) = min next.0 (strongest other more)

abbrev pub last_text : (ℕ × List ℕ) → List (ℕ × List ℕ) → List ℕ
last_text next [] = next.1
last_text next (other ∷ more) = last_text other more

-- the first comes before the last at the strongest operator between them
abbrev pub ChainsComeAsWritten : Type 0
ChainsComeAsWritten = (u : ElementTable) (text : List ℕ) (next : ℕ × List ℕ) (more : List (ℕ × List ℕ)) → ComeInOrder u text (next ∷ more) → ComesBefore (strongest next more) u text (last_text next more)
