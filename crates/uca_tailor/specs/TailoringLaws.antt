-- Laws of tailoring, each of which is the contract of a public function: what a tailoring leaves as it is, and where an item is placed.
use Rattle.std.specs.Prelude.{◌≡◌, ◌≢◌, ℕ, ◌+◌, ◌<◌, ◌≤◌, not, ◌==◌, Bool, true, List, [], ◌∷◌, ◌++◌, map, filter, length, All, Some, Ok, false}
use Rattle.std.specs.Option.{option_map}
use Rattle.std.specs.Char.{IsScalar}
use Rattle.std.specs.List.{AllByRecursion, list_any}
use Rattle.std.specs.Ordering.{eq_by_cmp}
use Rattle.std.specs.declared.cmp.Ordering.TheVariants.{Less}
use Rattle.unicode_normalization.specs.Forms.{nfd}
use Rattle.uca_weights.specs.declared.element.Element.{Element}
use Rattle.uca_weights.specs.declared.settings.Settings.{Settings}
use Rattle.uca_weights.specs.declared.settings.Strength.{Strength}
use Rattle.uca_weights.specs.declared.settings.Variable.TheVariants.{NonIgnorable}
use Rattle.uca_weights.specs.Element.{weight}
use Rattle.uca_weights.specs.Settings.{levels}
use Rattle.uca_model.specs.Table.{ElementTable, IsElement, IsTable, key_cmp, elements_at, is_key}
use Rattle.uca_model.specs.ImplicitWeights.{implicit}
use Rattle.uca_model.specs.CollationElements.{elements, matches}
use Rattle.uca_model.specs.LevelWeights.{level_list}
use Rattle.uca_model.specs.SortKey.{sort_key, key_order}
use Rattle.uca_model.specs.WellFormed.{skips_a_level}
use Rattle.uca_model.specs.Rules.{Operator, first, second, third, same, Relation, Chain, IsRelation}
use Rattle.uca_model.specs.Gap.{weight_with_gap, with_gap}
use Rattle.uca_model.specs.Tailoring.{Anchor, anchor_of, Related, related, tailored, IsUntouched}

-- Untouched texts

-- the order of the keys of two untouched texts is the same under the given and the tailored table, at every strength and option
abbrev pub UntouchedTextsKeepTheirOrder : Type 0
UntouchedTextsKeepTheirOrder =
    (t u : ElementTable) (cs : List Chain) (s : Settings) (x y : List ℕ) → IsTable t → tailored t cs ≡ Ok u → All IsScalar x → All IsScalar y → IsUntouched t u cs x → IsUntouched t u cs y
    → key_order (sort_key u s x) (sort_key u s y) ≡ key_order (sort_key t s x) (sort_key t s y)

-- Places

-- the level at which an operator orders, 0 for `=`
abbrev pub op_level : Operator → ℕ
op_level first = 1
op_level second = 2
op_level third = 3
op_level same = 0

-- the weights of a level, zeros left out
abbrev pub weights_at : ℕ → List Element → List ℕ
weights_at level es = filter (λ w. not (w == 0)) (map (weight level) es)

-- no element has this weight at a level
abbrev pub Lacks : ℕ → ℕ → List Element → Type 0
Lacks level w es = AllByRecursion (λ e. weight level e ≢ w) es

-- what a relation of a level does to its anchor, whose weights at that level are `front` and then w
pub record IsPlaced (level : ℕ) (anchor : List Element) (r : Relation) (next : Related) (front : List ℕ) (w : ℕ) : Type 0 where
  -- at the level the item has the weights of the anchor moved for the gap, the last one raised by one ..
  pub old : weights_at level anchor ≡ front ++ w ∷ []
  pub at : weights_at level next.anchor ≡ map (weight_with_gap level w) front ++ (w + 1) ∷ []
  -- .. and at each level below, those of the anchor
  pub below : (j : ℕ) → 1 ≤ j → j < level → weights_at j next.anchor ≡ weights_at j anchor
  -- the raised weight is that of the last element of the item's place ..
  pub before : List Element
  pub last : Element
  pub expansion : List Element
  pub base : next.anchor ≡ before ++ last ∷ []
  pub item : elements_at next.table r.item ≡ Some (next.anchor ++ expansion)
  pub raised : weight level last ≡ w + 1
  -- .. and nowhere else at that level: not before it, not in the expansion, in no other entry and in no implicit element
  pub none_before : Lacks level (w + 1) before
  pub none_in_expansion : Lacks level (w + 1) expansion
  pub none_in_others : (key : List ℕ) (es : List Element) → eq_by_cmp key_cmp key r.item ≡ false → elements_at next.table key ≡ Some es → Lacks level (w + 1) es
  pub none_implicit : (c : ℕ) → Lacks level (w + 1) (implicit next.table c)

-- so is each item of a relation other than `=` whose anchor's elements are well-formed
abbrev pub EachItemIsPlaced : Type 0
EachItemIsPlaced =
    (level : ℕ) (t : ElementTable) (anchor : List Element) (r : Relation) (next : Related) → IsTable t → op_level r.op ≡ level → 1 ≤ level → list_any skips_a_level anchor ≡ false → related t anchor r ≡ Ok next
    → (front : List ℕ) × (w : ℕ) × IsPlaced level anchor r next front w

-- Neighbours

-- no match of a text is this key
abbrev pub HasNoMatch : ElementTable → List ℕ → List ℕ → Type 0
HasNoMatch t key text = AllByRecursion (λ m. eq_by_cmp key_cmp m.code_points key ≡ false) (matches (is_key t) (nfd text))

-- the key where variable elements are not ignored
abbrev pub plain_key : ElementTable → Strength → List ℕ → List ℕ
plain_key t strength text = sort_key t (record { strength = strength; weighting = NonIgnorable }) text

-- an item, which is a key in NFD, is next to a text at a level
pub record IsNext (level : ℕ) (t : ElementTable) (text item key : List ℕ) : Type 0 where
  -- their keys are equal at the strengths below the level, and at all others the text comes first
  pub equal : (s : Strength) → levels s < level → plain_key t s text ≡ plain_key t s item
  pub less : (s : Strength) → level ≤ levels s → key_order (plain_key t s text) (plain_key t s item) ≡ Less
  -- at the strength of the level each text between them has the text's list of that level as a proper prefix of its own ..
  pub between : (s : Strength) (z : List ℕ) → levels s ≡ level → All IsScalar z → key_order (plain_key t s text) (plain_key t s z) ≡ Less → key_order (plain_key t s z) (plain_key t s item) ≡ Less
      → (x : ℕ) × (more : List ℕ) × (level_list t NonIgnorable z level ≡ level_list t NonIgnorable text level ++ x ∷ more)
  -- .. and no text without the item among its matches has the item's key
  pub alone : (s : Strength) (z : List ℕ) → levels s ≡ level → All IsScalar z → HasNoMatch t key z → plain_key t s z ≢ plain_key t s item

-- so is each item without an expansion of a relation other than `=`, where the elements of the text, which are the anchor, are
-- well-formed, and the text has the same matches under the new table, the item not among them
abbrev pub EachItemIsNext : Type 0
EachItemIsNext =
    (level : ℕ) (t : ElementTable) (text item : List ℕ) (r : Relation) (next : Related) → IsTable t → op_level r.op ≡ level → 1 ≤ level → All IsScalar text → All IsScalar item
    → nfd item ≡ r.item → 1 ≤ length r.item → r.expansion ≡ [] → list_any skips_a_level (elements t (nfd text)) ≡ false → related t (elements t (nfd text)) r ≡ Ok next
    → matches (is_key t) (nfd text) ≡ matches (is_key next.table) (nfd text) → HasNoMatch t r.item text → IsNext level next.table text item r.item

-- Relation after relation

-- after a relation without an expansion, the anchor of the next relation is the item's elements under the new table
abbrev pub EachItemIsAnAnchor : Type 0
EachItemIsAnAnchor =
    (t : ElementTable) (anchor : List Element) (r : Relation) (next : Related) → 1 ≤ length r.item → r.expansion ≡ [] → related t anchor r ≡ Ok next → elements next.table r.item ≡ next.anchor

-- a relation turns a table into a table, and an anchor of elements of sixteen bits into another
abbrev pub RelatedTablesAreTables : Type 0
RelatedTablesAreTables =
    (t : ElementTable) (anchor : List Element) (r : Relation) (next : Related) → IsTable t → 1 ≤ length anchor → AllByRecursion IsElement anchor → IsRelation r → All IsScalar r.item → All IsScalar r.expansion
    → related t anchor r ≡ Ok next → IsTable next.table × (1 ≤ length next.anchor) × AllByRecursion IsElement next.anchor

-- Shifts

-- some element has this weight at a level
abbrev pub has_weight : ℕ → ℕ → List Element → Bool
has_weight level x es = list_any (λ e. weight level e == x) es

-- a weight that occurs at a level of a table: zero, that of an entry or of an implicit element, and FFFF, with which level 4 compares those of level 1
pub data LiesAt (level : ℕ) (t : ElementTable) (x : ℕ) : Type 0 where
  is_none : x ≡ 0 → LiesAt level t x
  of_entry : (key : List ℕ) (es : List Element) → elements_at t key ≡ Some es → has_weight level x es ≡ true → LiesAt level t x
  of_implicit : (c : ℕ) → has_weight level x (implicit t c) ≡ true → LiesAt level t x
  is_highest : level ≡ 1 → x ≡ 0xFFFF → LiesAt level t x

-- what a relation does to the weights of its level, whose anchor's last weight there is w
pub record IsShift (level w : ℕ) (t : ElementTable) (r : Relation) (next : Related) : Type 0 where
  -- all entries but that of the item are shifted ..
  pub entries : (key : List ℕ) → eq_by_cmp key_cmp key r.item ≡ false → elements_at next.table key ≡ option_map (map (with_gap level w)) (elements_at t key)
  -- .. the shift is strictly increasing on the weights that occur there ..
  pub increases : (x y : ℕ) → LiesAt level t x → LiesAt level t y → x < y → weight_with_gap level w x < weight_with_gap level w y
  -- .. and leaves zero, those of implicit elements, and FFFF at level 1
  pub none_stays : weight_with_gap level w 0 ≡ 0
  pub implicit_stays : (c : ℕ) → map (with_gap level w) (implicit t c) ≡ implicit t c
  pub highest_stays : level ≡ 1 → weight_with_gap level w 0xFFFF ≡ 0xFFFF

-- so does each relation other than `=`
abbrev pub EachShiftIsIncreasing : Type 0
EachShiftIsIncreasing =
    (level : ℕ) (t : ElementTable) (anchor : List Element) (r : Relation) (next : Related) → IsTable t → op_level r.op ≡ level → 1 ≤ level → related t anchor r ≡ Ok next
    → (a : Anchor) × (anchor_of level anchor ≡ Some a) × IsShift level (weight level a.last) t r next
