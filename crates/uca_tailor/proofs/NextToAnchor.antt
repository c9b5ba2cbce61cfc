-- Each item is next to its anchor: which keys are equal, which is less, and what lies between.
use Rattle.std.proofs.Common.{◌≡◌, ◌≢◌, ℕ, ◌+◌, ◌-◌, ◌≤◌, ◌<◌, true, false, cond, not, ◌==◌, List, [], ◌∷◌, ◌++◌, length, map, flat_map, All, refl, sym, ap, ap₂, subst, ◌∙◌, arith}
use mathlib.Core.List.{append-nil, map-append}
use Rattle.std.specs.Char.{IsScalar}
use Rattle.std.specs.List.{AllByRecursion, list_any}
use Rattle.std.specs.Ordering.{eq_by_cmp}
use Rattle.std.specs.declared.cmp.Ordering.TheVariants.{Less, Equal}
use Rattle.unicode_normalization.specs.Forms.{nfd}
use Rattle.uca_weights.specs.declared.element.Element.{Element}
use Rattle.uca_weights.specs.declared.settings.Settings.{Settings}
use Rattle.uca_weights.specs.declared.settings.Strength.{Strength}
use Rattle.uca_weights.specs.declared.settings.Variable.TheVariants.{NonIgnorable}
use Rattle.uca_weights.specs.Element.{weight}
use Rattle.uca_weights.specs.Settings.{levels}
use Rattle.uca_model.specs.Table.{ElementTable, AreRanges, IsTable, IsElement, key_cmp, elements_at, is_key, with_entry}
use Rattle.uca_model.specs.Match.{Match}
use Rattle.uca_model.specs.CollationElements.{elements, elements_or_implicit, matches}
use Rattle.uca_model.specs.LevelWeights.{level_list}
use Rattle.uca_model.specs.SortKey.{key_order}
use Rattle.uca_model.specs.DecidingLevel.{list_order}
use Rattle.uca_model.specs.WellFormed.{skips_a_level}
use Rattle.uca_model.specs.Rules.{Relation}
use Rattle.uca_model.specs.Gap.{weight_with_gap, with_gap, table_with_gap}
use Rattle.uca_model.specs.Tailoring.{least, Related}
use Rattle.uca_model.proofs.LevelLemmas.{levels-within}
use Rattle.uca_model.proofs.RewritingLemmas.{elements_nil}
use Rattle.uca_model.proofs.GapAtWeights.{weight_with_gap-low}
use Rattle.uca_model.proofs.WeightLemmas.{HasWeights, Fits, Fits-IsTable, elements-fit, HasWeights-Fits}
use Rattle.uca_tailor.specs.TailoringLaws.{weights_at, Lacks, HasNoMatch, plain_key, IsNext, EachItemIsNext}
use Rattle.uca_tailor.proofs.Levels.{IsLevel, level_most, level_of, is_below, places_at, weight-shifted_above}
use Rattle.uca_tailor.proofs.ChangedTables.{elements_of_keys, elements_of_matches, elements_of_keys-with_gap, elements_of_keys-with_entry, elements_at-here}
use Rattle.uca_tailor.proofs.RelationFacts.{IsRelated, is_related}
use Rattle.uca_tailor.proofs.AnchorWeights.{weights_at-same, weights_at-weight_with_gap}
use Rattle.uca_tailor.proofs.FittingWeights.{base_fits, new_fits}
use Rattle.uca_tailor.proofs.RaisedWeight.{LacksAll, lacks_matches}
use Rattle.uca_tailor.proofs.Placed.{is_placed}
use Rattle.uca_tailor.proofs.KeyAlone.{item_elements}
use Rattle.uca_tailor.proofs.KeyOrders.{orders, key_order-orders, sort_key-same, list_order-refl, orders-less, orders-between, orders-last}
use Rattle.uca_tailor.proofs.BetweenLists.{between_is_longer, last_less}
use Rattle.uca_tailor.proofs.PlainLists.{plain_list}

-- ## The elements of the anchor's text

others : (key : List ℕ) (ms : List Match) → AllByRecursion (λ m. eq_by_cmp key_cmp m.code_points key ≡ false) ms → AllByRecursion (λ k. eq_by_cmp key_cmp k key ≡ false) (map (λ m. m.code_points) ms)
others key [] h = tt
others key (m ∷ ms) h = (h.0, others key ms h.1)

-- a text with the same matches has its elements, moved for the gap
anchor_elements : (m w : ℕ) (t u : ElementTable) (item : List ℕ) (es : List Element) (text : List ℕ) → AreRanges t.ranges → least m ≤ w → u ≡ with_entry (table_with_gap m w t) item es
    → matches (is_key t) (nfd text) ≡ matches (is_key u) (nfd text) → HasNoMatch t item text → elements u (nfd text) ≡ map (with_gap m w) (elements t (nfd text))
anchor_elements m w t u item es text r h is alike none =
    let ms = matches (is_key t) (nfd text) in
    let ks = map (λ x. x.code_points) ms in
    ap (flat_map (λ x. elements_or_implicit u x.code_points)) (sym alike) ∙ elements_of_matches u ms ∙ ap (λ x. elements_of_keys x ks) is
    ∙ elements_of_keys-with_entry (table_with_gap m w t) item es ks (others item ms none)
    ∙ elements_of_keys-with_gap m w t ks r h ∙ ap (map (with_gap m w)) (sym (elements_of_matches t ms))

-- ## The lists of the anchor's text and of its item

pub record Neighbours (m : ℕ) (u : ElementTable) (text item key : List ℕ) (front : List ℕ) (w : ℕ) : Type 0 where
  pub fits : Fits u
  pub below : (j : ℕ) → 1 ≤ j → j < m → level_list u NonIgnorable text j ≡ level_list u NonIgnorable item j
  pub of_text : level_list u NonIgnorable text m ≡ front ++ w ∷ []
  pub of_item : level_list u NonIgnorable item m ≡ front ++ (w + 1) ∷ []
  pub lacks : LacksAll m (w + 1) u (λ k. eq_by_cmp key_cmp k key)

neighbours : (m : ℕ) (t : ElementTable) (text item : List ℕ) (r : Relation) (next : Related) → IsLevel m → IsTable t → All IsScalar text → 1 ≤ length r.item → nfd item ≡ r.item → r.expansion ≡ []
    → list_any skips_a_level (elements t (nfd text)) ≡ false → (h : IsRelated m t (elements t (nfd text)) r next)
    → matches (is_key t) (nfd text) ≡ matches (is_key next.table) (nfd text) → HasNoMatch t r.item text
    → Neighbours m next.table text item r.item (map (weight_with_gap m (weight m h.how.split.last)) (weights_at m h.how.split.before)) (weight m h.how.split.last)
neighbours m t text item r next l table scalars some decomposed no_expansion full h alike none =
    let es = elements t (nfd text) in
    let a = h.how.split in
    let w = weight m a.last in
    let u = next.table in
    let place = h.entered.place in
    let p = is_placed m t es r next l table.ranges full h in
    let moved : place.table ≡ table_with_gap m w t = ap (λ z. z.table) h.how.are in
    let whole : place.base ++ elements place.table r.expansion ≡ next.anchor =
    ap (λ x. place.base ++ elements place.table x) no_expansion ∙ ap (λ x. place.base ++ x) (elements_nil place.table) ∙ append-nil place.base ∙ sym h.entered.base in
    let made : u ≡ with_entry (table_with_gap m w t) r.item next.anchor = h.entered.table ∙ ap₂ (λ x y. with_entry x r.item y) moved whole in
    let of_anchor : elements u (nfd text) ≡ map (with_gap m w) es = anchor_elements m w t u r.item next.anchor text table.ranges h.how.free.large made alike none in
    let of_item : elements u (nfd item) ≡ next.anchor = ap (elements u) decomposed ∙ item_elements u r.item next.anchor some (ap (λ z. elements_at z r.item) made ∙ elements_at-here (table_with_gap m w t) r.item next.anchor) in
    let fit = elements-fit t text (Fits-IsTable t table) scalars in
    record {
      fits = new_fits m w t u r.item next.anchor l (Fits-IsTable t table) h.how.free.table_can_move (subst (AllByRecursion IsElement) (sym h.entered.base) (base_fits m t es place l h.how fit)) made;
      below = λ j low less.
          let most : m ≤ 3 = level_most m l in
          let lj = level_of j low (omega arith) in
          plain_list u text j lj ∙ ap (weights_at j) of_anchor ∙ weights_at-same j (with_gap m w) (λ e. weight-shifted_above j m w e (is_below j m l low less)) es
          ∙ sym (p.below j low less) ∙ ap (weights_at j) (sym of_item) ∙ sym (plain_list u item j lj);
      of_text =
          plain_list u text m l ∙ ap (weights_at m) of_anchor ∙ weights_at-weight_with_gap m w l es ∙ ap (map (weight_with_gap m w)) p.old
          ∙ map-append (weight_with_gap m w) (weights_at m a.before) (w ∷ []) ∙ ap (λ x. map (weight_with_gap m w) (weights_at m a.before) ++ x ∷ []) (weight_with_gap-low m w w (omega arith));
      of_item = plain_list u item m l ∙ ap (weights_at m) of_item ∙ p.at;
      lacks = record { entries = p.none_in_others; implicit_ones = p.none_implicit };
    }

-- ## The four parts

abbrev plain : Strength → Settings
plain s = record { strength = s; weighting = NonIgnorable }

lacks_weights : (m x : ℕ) (es : List Element) → Lacks m x es → AllByRecursion (λ y. y ≢ x) (weights_at m es)
lacks_weights m x [] h = tt
lacks_weights m x (e ∷ es) h = elim (weight m e == 0) as (λ b. AllByRecursion (λ y. y ≢ x) (cond (not b) (weight m e ∷ weights_at m es) (weights_at m es))) [
  | true ↦ lacks_weights m x es h.1
  | false ↦ (h.0, lacks_weights m x es h.1)
]

last_of : (x : ℕ) (xs : List ℕ) → AllByRecursion (λ y. y ≢ x) (xs ++ x ∷ []) → ⊥
last_of x [] h = h.0 refl
last_of x (y ∷ xs) h = last_of x xs h.1

-- texts with equal keys have equal lists at the last level
equal_keys : (u : ElementTable) (s : Strength) (x y : List ℕ) (m : ℕ) → 1 + (levels s - 1) ≡ m → HasWeights u (plain s) x → HasWeights u (plain s) y → plain_key u s x ≡ plain_key u s y → level_list u NonIgnorable x m ≡ level_list u NonIgnorable y m
equal_keys u s x y m at p q e =
    let tied : key_order (plain_key u s x) (plain_key u s y) ≡ Equal = ap (λ k. key_order k (plain_key u s y)) e ∙ list_order-refl (plain_key u s y) in
    let equal : orders (levels s - 1) 1 (level_list u NonIgnorable x) (level_list u NonIgnorable y) ≡ Equal = sym (key_order-orders u (plain s) x y p q) ∙ tied in
    subst (λ k. level_list u NonIgnorable x k ≡ level_list u NonIgnorable y k) at (orders-last (levels s - 1) 1 (level_list u NonIgnorable x) (level_list u NonIgnorable y) equal)

-- what lies between two keys that are equal up to the last level lies between them there
keys_between : (u : ElementTable) (s : Strength) (x z y : List ℕ) (m : ℕ) → 1 + (levels s - 1) ≡ m → HasWeights u (plain s) x → HasWeights u (plain s) z → HasWeights u (plain s) y
    → ((j : ℕ) → 1 ≤ j → j < 1 + (levels s - 1) → level_list u NonIgnorable x j ≡ level_list u NonIgnorable y j)
    → key_order (plain_key u s x) (plain_key u s z) ≡ Less → key_order (plain_key u s z) (plain_key u s y) ≡ Less
    → (list_order (level_list u NonIgnorable x m) (level_list u NonIgnorable z m) ≡ Less) × (list_order (level_list u NonIgnorable z m) (level_list u NonIgnorable y m) ≡ Less)
keys_between u s x z y m at p q r equal above under =
    let n = levels s - 1 in
    let e : orders n 1 (level_list u NonIgnorable x) (level_list u NonIgnorable z) ≡ Less = sym (key_order-orders u (plain s) x z p q) ∙ above in
    let f : orders n 1 (level_list u NonIgnorable z) (level_list u NonIgnorable y) ≡ Less = sym (key_order-orders u (plain s) z y q r) ∙ under in
    subst (λ k. (list_order (level_list u NonIgnorable x k) (level_list u NonIgnorable z k) ≡ Less) × (list_order (level_list u NonIgnorable z k) (level_list u NonIgnorable y k) ≡ Less)) at
    (orders-between n 1 (level_list u NonIgnorable x) (level_list u NonIgnorable z) (level_list u NonIgnorable y) equal e f)

-- the same of two lists that are known
longer : (front xs zs ys : List ℕ) (w : ℕ) → xs ≡ front ++ w ∷ [] → ys ≡ front ++ (w + 1) ∷ [] → list_order xs zs ≡ Less → list_order zs ys ≡ Less → (x : ℕ) × (more : List ℕ) × (zs ≡ xs ++ x ∷ more)
longer front xs zs ys w p q above under =
    let b : (x : ℕ) × (more : List ℕ) × (zs ≡ (front ++ w ∷ []) ++ x ∷ more) = between_is_longer front zs w (ap (λ x. list_order x zs) (sym p) ∙ above) (ap (list_order zs) (sym q) ∙ under) in
    (b.0, b.1, b.2 ∙ ap (λ x. x ++ b.0 ∷ b.1) (sym p))

is_next : (m : ℕ) (u : ElementTable) (text item key front : List ℕ) (w : ℕ) → IsLevel m → 1 ≤ m → All IsScalar text → All IsScalar item → Neighbours m u text item key front w → IsNext m u text item key
is_next m u text item key front w l some scalars points h = record {
  equal = λ s less. sort_key-same u (plain s) text item (λ k low top. h.below k low (omega arith));
  less = λ s more.
      let one : 1 ≤ levels s = (levels-within s).0 in
      key_order-orders u (plain s) text item (HasWeights-Fits u (plain s) text h.fits scalars) (HasWeights-Fits u (plain s) item h.fits points)
      ∙ orders-less (levels s - 1) 1 m (level_list u NonIgnorable text) (level_list u NonIgnorable item) some (omega arith) (λ j low less. h.below j low less) (ap₂ list_order h.of_text h.of_item ∙ last_less front w);
  between = λ s z is zs above under.
      let one : 1 ≤ levels s = (levels-within s).0 in
      let at : 1 + (levels s - 1) ≡ m = omega arith in
      let there = keys_between u s text z item m at (HasWeights-Fits u (plain s) text h.fits scalars) (HasWeights-Fits u (plain s) z h.fits zs) (HasWeights-Fits u (plain s) item h.fits points) (λ j low less. h.below j low (omega arith)) above under in
      longer front (level_list u NonIgnorable text m) (level_list u NonIgnorable z m) (level_list u NonIgnorable item m) w h.of_text h.of_item there.0 there.1;
  alone = λ s z is zs none e.
      let one : 1 ≤ levels s = (levels-within s).0 in
      let at : 1 + (levels s - 1) ≡ m = omega arith in
      let lists = equal_keys u s z item m at (HasWeights-Fits u (plain s) z h.fits zs) (HasWeights-Fits u (plain s) item h.fits points) e in
      let lacks = lacks_weights m (w + 1) (elements u (nfd z)) (lacks_matches m (w + 1) u (λ k. eq_by_cmp key_cmp k key) (matches (is_key u) (nfd z)) h.lacks none) in
      last_of (w + 1) front (subst (AllByRecursion (λ y. y ≢ w + 1)) (sym (plain_list u z m l) ∙ lists ∙ h.of_item) lacks);
}

pub each_next : EachItemIsNext
each_next level t text item r next table is some scalars points decomposed some_points no_expansion full e alike none =
    let h = is_related level t (elements t (nfd text)) r next is some e in
    let l = (places_at level r.op is some).level_is in
    is_next level next.table text item r.item _ _ l some scalars points (neighbours level t text item r next l table scalars some_points decomposed no_expansion full h alike none)
