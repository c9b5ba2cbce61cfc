-- Keys of texts that begin with a complete one, and the byte strings that begin with a key.
use Rattle.std.proofs.Common.{◌⊎◌, ◌≡◌, ◌≢◌, ℕ, ◌+◌, ◌/◌, ◌%◌, ◌≤◌, ◌<◌, Bool, true, false, cond, ◌==◌, nat_le, List, [], ◌∷◌, ◌++◌, flat_map, Option, Some, None, MatchOption, refl, sym, ap, ap₂, subst, ◌∙◌, arith, inl, inr, append_assoc, append-nil, eqb-true}
use Rattle.std.proofs.lemmas.Bool.{cases_Bool, eqb-false, leb-true, leb-false}
use Rattle.std.proofs.lemmas.List.Concat.{flat_map-append}
use Rattle.std.specs.Option.{option_map_or}
use Rattle.std.specs.declared.cmp.Ordering.{Ordering}
use Rattle.std.specs.declared.cmp.Ordering.TheVariants.{Less, Equal, Greater}
use Rattle.std.specs.Ordering.{nat_cmp, ordering_then}
use Rattle.std.specs.Cmp.{nat_cmp_is}
use Rattle.unicode_normalization.specs.Forms.{nfd}
use Rattle.uca_weights.specs.declared.settings.Strength.{Strength}
use Rattle.uca_weights.specs.declared.settings.Strength.TheVariants.{Primary, Secondary, Tertiary, Quaternary, Identical}
use Rattle.uca_weights.specs.declared.settings.Variable.{Variable}
use Rattle.uca_weights.specs.Settings.{levels}
use Rattle.uca_weights.specs.VariableWeighting.{weighted}
use Rattle.uca_model.specs.Table.{ElementTable}
use Rattle.uca_model.specs.CollationElements.{elements}
use Rattle.uca_model.specs.LevelWeights.{level_weights, level_list}
use Rattle.uca_model.specs.SortKey.{weight_bytes, key_order, sort_key}
use Rattle.uca_model.specs.Prefix.{primary_key, end_of_prefix, IsBetween}
use Rattle.uca_model.specs.Laws.{BeginsWith, AreBytes, AreWeights, KeysBeginWithCompleteTexts, PrefixesAreRanges, KeysBeginWithPrimaryWeights}
use Rattle.uca_model.proofs.GrowingLemmas.{keys-grow}
use Rattle.uca_model.proofs.PrefixLemmas.{complete-begins}
use Rattle.uca_model.proofs.WeightLemmas.{HasWeights-IsTable}

-- ---- keys

some_levels : (s : Strength) → levels Primary ≤ levels s
some_levels Primary = omega arith
some_levels Secondary = omega arith
some_levels Tertiary = omega arith
some_levels Quaternary = omega arith
some_levels Identical = omega arith

pub primary_key-is : (t : ElementTable) (v : Variable) (text : List ℕ) → primary_key t v text ≡ flat_map weight_bytes (level_weights 1 (weighted v (elements t (nfd text))))
unfolding sort_key
primary_key-is t v text = refl

pub keys-begin : KeysBeginWithCompleteTexts
keys-begin t s p x h =
    let level = complete-begins t s.weighting p x h in
    let grown = keys-grow t s.weighting Primary s.strength (p ++ x) (some_levels s.strength) in
    let longer : primary_key t s.weighting (p ++ x) ≡ primary_key t s.weighting p ++ flat_map weight_bytes level.later =
    primary_key-is t s.weighting (p ++ x) ∙ ap (flat_map weight_bytes) level.same
    ∙ flat_map-append weight_bytes (level_weights 1 (weighted s.weighting (elements t (nfd p)))) level.later
    ∙ ap (λ l. l ++ flat_map weight_bytes level.later) (sym (primary_key-is t s.weighting p)) in
    record {
      rest = flat_map weight_bytes level.later ++ grown.rest;
      parts = grown.parts ∙ ap (λ l. l ++ grown.rest) longer ∙ append_assoc (primary_key t s.weighting p) (flat_map weight_bytes level.later) grown.rest;
    }

-- ---- byte strings

three : (a b : ℕ) → (a < b) ⊎ (a ≡ b) ⊎ (b < a)
three a b = elim (cases_Bool (nat_le a b)) [
  | inr more ↦ inr (inr (leb-false a b more))
  | inl le ↦
      let at_most : a ≤ b = leb-true a b le in
      elim (cases_Bool (a == b)) [
        | inl same ↦ inr (inl (eqb-true a b same))
        | inr other ↦ let differ : a ≡ b → ⊥ = eqb-false a b other in inl (omega arith)
      ]
]

is_less : (a b : ℕ) → a < b → nat_cmp a b ≡ Less
is_less a b h = sym (nat_cmp_is a b Less h)

is_equal : (a b : ℕ) → a ≡ b → nat_cmp a b ≡ Equal
is_equal a b h = sym (nat_cmp_is a b Equal h)

is_greater : (a b : ℕ) → b < a → nat_cmp a b ≡ Greater
is_greater a b h = sym (nat_cmp_is a b Greater h)

-- no byte string comes before the empty one
not_before_none : (bytes : List ℕ) → key_order bytes [] ≢ Less
not_before_none [] h = cc
not_before_none (b ∷ bytes) h = cc

abbrev IsBelow : Option (List ℕ) → List ℕ → Type 0
IsBelow end bytes = MatchOption end (Unit {0}) (λ end. key_order bytes end ≡ Less)

-- the end of the prefix, by whether its others have one
abbrev end_with : ℕ → Option (List ℕ) → Option (List ℕ)
end_with c end = option_map_or (λ end. Some (c ∷ end)) end (cond (c == 255) None (Some ((c + 1) ∷ [])))

first_decides : (d c : ℕ) (ds cs : List ℕ) (o : Ordering) → nat_cmp d c ≡ o → key_order (d ∷ ds) (c ∷ cs) ≡ ordering_then o (key_order ds cs)
first_decides d c ds cs o e = ap (λ x. ordering_then x (key_order ds cs)) e

below-same : (c d : ℕ) (bytes : List ℕ) (end : Option (List ℕ)) → d ≡ c → IsBelow (end_with c end) (d ∷ bytes) → IsBelow end bytes
below-same c d bytes None e h = tt
below-same c d bytes (Some end) e h = sym (first_decides d c bytes end Equal (is_equal d c e)) ∙ h

below-greater : (c d : ℕ) (bytes : List ℕ) (end : Option (List ℕ)) → d < 256 → c < d → IsBelow (end_with c end) (d ∷ bytes) → ⊥
below-greater c d bytes (Some end) byte more h = let e : Greater ≡ Less = sym (first_decides d c bytes end Greater (is_greater d c more)) ∙ h in cc
below-greater c d bytes None byte more h = elim (cases_Bool (c == 255)) [
  | inl last ↦ let e : c ≡ 255 = eqb-true c 255 last in absurd (omega arith)
  | inr other ↦
      let under : key_order (d ∷ bytes) ((c + 1) ∷ []) ≡ Less = subst (λ b. IsBelow (cond b None (Some ((c + 1) ∷ []))) (d ∷ bytes)) other h in
      elim (three d (c + 1)) [
        | inl less ↦ absurd (omega arith)
        | inr (inl same) ↦ not_before_none bytes (sym (first_decides d (c + 1) bytes [] Equal (is_equal d (c + 1) same)) ∙ under)
        | inr (inr past) ↦ let e : Greater ≡ Less = sym (first_decides d (c + 1) bytes [] Greater (is_greater d (c + 1) past)) ∙ under in cc
      ]
]

pub between-begins : (front bytes : List ℕ) → AreBytes bytes → IsBetween front (end_of_prefix front) bytes → BeginsWith bytes front
unfolding end_of_prefix
between-begins [] bytes are h = record { rest = bytes; parts = refl }
between-begins (c ∷ front) [] are h = absurd (h.from refl)
between-begins (c ∷ front) (d ∷ bytes) are h = elim (three d c) [
  | inl less ↦ absurd (h.from (first_decides d c bytes front Less (is_less d c less)))
  | inr (inr more) ↦ absurd (below-greater c d bytes (end_of_prefix front) are.0 more h.before)
  | inr (inl same) ↦
      let later = between-begins front bytes are.1 (record {
        from = λ e. h.from (first_decides d c bytes front Equal (is_equal d c same) ∙ e);
        before = below-same c d bytes (end_of_prefix front) same h.before;
      }) in
      record { rest = later.rest; parts = ap₂ (λ x l. x ∷ l) same later.parts }
]

below-begins : (c : ℕ) (bytes : List ℕ) (end : Option (List ℕ)) → IsBelow end bytes → IsBelow (end_with c end) (c ∷ bytes)
below-begins c bytes (Some end) h = first_decides c c bytes end Equal (is_equal c c refl) ∙ h
below-begins c bytes None h = by_last (c == 255)
  where
    by_last : (b : Bool) → IsBelow (cond b None (Some ((c + 1) ∷ []))) (c ∷ bytes)
    by_last true = tt
    by_last false = first_decides c (c + 1) bytes [] Less (is_less c (c + 1) (omega arith))

pub begins-between : (front rest : List ℕ) → IsBetween front (end_of_prefix front) (front ++ rest)
unfolding end_of_prefix
begins-between [] rest = record { from = not_before_none rest; before = tt }
begins-between (c ∷ front) rest =
    let later = begins-between front rest in
    record {
      from = λ e. later.from (sym (first_decides c c (front ++ rest) front Equal (is_equal c c refl)) ∙ e);
      before = below-begins c (front ++ rest) (end_of_prefix front) later.before;
    }

pub prefixes-ranges : PrefixesAreRanges
prefixes-ranges front bytes are = (between-begins front bytes are, λ begins. subst (IsBetween front (end_of_prefix front)) (sym begins.parts) (begins-between front begins.rest))

-- ---- what begins with a key

-- nothing, or a separator
abbrev pub EndsLevel : List ℕ → Type 0
EndsLevel tail = (tail ≡ []) ⊎ BeginsWith tail (0 ∷ 0 ∷ [])

pub weights-begin : (ws vs tail more : List ℕ) → AreWeights ws → AreWeights vs → EndsLevel tail → flat_map weight_bytes ws ++ tail ≡ flat_map weight_bytes vs ++ more → BeginsWith ws vs
weights-begin ws [] tail more p q ends h = record { rest = ws; parts = refl }
weights-begin [] (v ∷ vs) tail more p q ends h = elim ends [
  | inl none ↦ let e : [] ≡ v / 256 % 256 ∷ v % 256 ∷ (flat_map weight_bytes vs ++ more) = sym none ∙ h in cc
  | inr separator ↦
      let e : 0 ∷ 0 ∷ separator.rest ≡ v / 256 % 256 ∷ v % 256 ∷ (flat_map weight_bytes vs ++ more) = sym separator.parts ∙ h in
      let first : 0 ≡ v / 256 % 256 = cc in
      let second : 0 ≡ v % 256 = cc in
      absurd (omega (arith, q.0.0, q.0.1))
]
weights-begin (w ∷ ws) (v ∷ vs) tail more p q ends h =
    let e : w / 256 % 256 ∷ w % 256 ∷ (flat_map weight_bytes ws ++ tail) ≡ v / 256 % 256 ∷ v % 256 ∷ (flat_map weight_bytes vs ++ more) = h in
    let first : w / 256 % 256 ≡ v / 256 % 256 = cc in
    let second : w % 256 ≡ v % 256 = cc in
    let others : flat_map weight_bytes ws ++ tail ≡ flat_map weight_bytes vs ++ more = cc in
    let later = weights-begin ws vs tail more p.1 q.1 ends others in
    record { rest = later.rest; parts = ap₂ (λ x l. x ∷ l) (omega (arith, p.0.1, q.0.1)) later.parts }

-- a key after its first level
pub record AfterLevel (key level : List ℕ) : Type 0 where
  pub tail : List ℕ
  pub same : key ≡ level ++ tail
  pub ends : EndsLevel tail

pub separated : (level others : List ℕ) → AfterLevel (level ++ 0 ∷ 0 ∷ others) level
separated level others = record { tail = 0 ∷ 0 ∷ others; same = refl; ends = inr (record { rest = others; parts = refl }) }

first-level : (t : ElementTable) (v : Variable) (strength : Strength) (text : List ℕ) → AfterLevel (sort_key t (record { strength = strength; weighting = v }) text) (flat_map weight_bytes (level_list t v text 1))
unfolding sort_key
first-level t v Primary text = record { tail = []; same = sym (append-nil _); ends = inl refl }
first-level t v Secondary text = separated _ _
first-level t v Tertiary text = separated _ _
first-level t v Quaternary text = separated _ _
first-level t v Identical text = separated _ _

pub keys-alike : KeysBeginWithPrimaryWeights
keys-alike t s p x table of_p of_x h =
    let level = first-level t s.weighting s.strength x in
    weights-begin (level_list t s.weighting x 1) (level_list t s.weighting p 1) level.tail h.rest
    ((HasWeights-IsTable t s x table of_x).weights 1 (omega arith) (omega arith)) ((HasWeights-IsTable t s p table of_p).weights 1 (omega arith) (omega arith))
    level.ends (sym level.same ∙ h.parts ∙ ap (λ l. l ++ h.rest) (primary_key-is t s.weighting p))
