-- Laws of texts that those who store sort keys rely on: which texts have the same key, how strengths agree, and which keys outlive a new table.
use Rattle.std.specs.Prelude.{◌≡◌, ◌↔◌, ℕ, Bool, false, ◌≤◌, List, All}
use Rattle.std.specs.Char.{IsScalar}
use Rattle.std.specs.List.{AllByRecursion}
use Rattle.std.specs.declared.cmp.Ordering.{Ordering}
use Rattle.std.specs.declared.cmp.Ordering.TheVariants.{Less, Equal, Greater}
use Rattle.unicode_normalization.specs.Forms.{nfd}
use Rattle.uca_weights.specs.declared.settings.Settings.{Settings}
use Rattle.uca_weights.specs.declared.settings.Strength.{Strength}
use Rattle.uca_weights.specs.declared.settings.Strength.TheVariants.{Identical}
use Rattle.uca_weights.specs.declared.settings.Variable.{Variable}
use Rattle.uca_weights.specs.Settings.{levels}
use Rattle.uca_model.specs.Table.{ElementTable, IsTable, elements_at}
use Rattle.uca_model.specs.ImplicitWeights.{implicit}
use Rattle.uca_model.specs.SortKey.{key_order, sort_key}

-- UAX #15: two texts are canonically equivalent if they have the same NFD
abbrev pub AreEquivalent : List ℕ → List ℕ → Type 0
AreEquivalent a b = nfd a ≡ nfd b

-- C1: canonically equivalent texts have the same sort key, under every table and all settings
abbrev pub EquivalentTextsHaveOneKey : Type 0
EquivalentTextsHaveOneKey = (t : ElementTable) (s : Settings) (a b : List ℕ) → AreEquivalent a b → sort_key t s a ≡ sort_key t s b

-- S3.10: under every table, sort keys at the strength Identical are equal exactly where the texts are canonically equivalent
abbrev pub IdenticalKeysTellTextsApart : Type 0
IdenticalKeysTellTextsApart = (t : ElementTable) (v : Variable) (a b : List ℕ) → IsTable t → All IsScalar a → All IsScalar b
    → (sort_key t (record { strength = Identical; weighting = v }) a ≡ sort_key t (record { strength = Identical; weighting = v }) b) ↔ AreEquivalent a b

-- an order refines another: where that one tells two things apart it is the same, and where it is Equal so is that one
pub record Refines (low high : Ordering) : Type 0 where
  pub less : low ≡ Less → high ≡ Less
  pub greater : low ≡ Greater → high ≡ Greater
  pub equal : high ≡ Equal → low ≡ Equal

-- 1.1: under every table, the order at a strength refines the order at each strength of as many levels or fewer
abbrev pub StrengthsRefine : Type 0
StrengthsRefine = (t : ElementTable) (v : Variable) (low high : Strength) (a b : List ℕ) → IsTable t → All IsScalar a → All IsScalar b → levels low ≤ levels high
    → Refines (key_order (sort_key t (record { strength = low; weighting = v }) a) (sort_key t (record { strength = low; weighting = v }) b))
    (key_order (sort_key t (record { strength = high; weighting = v }) a) (sort_key t (record { strength = high; weighting = v }) b))

-- none of these code points is in a set
abbrev pub IsWithout : (ℕ → Bool) → List ℕ → Type 0
IsWithout changed = AllByRecursion (λ c. changed c ≡ false)

-- two tables have the same elements for all keys without a code point of a set, and the same implicit elements for each code point outside it
pub record AgreeOutside (changed : ℕ → Bool) (t u : ElementTable) : Type 0 where
  pub keys : (key : List ℕ) → IsWithout changed key → elements_at t key ≡ elements_at u key
  pub implicit : (c : ℕ) → changed c ≡ false → implicit t c ≡ implicit u c

-- a text whose NFD has no such code point has the same sort key under both
abbrev pub KeysOutliveTables : Type 0
KeysOutliveTables = (changed : ℕ → Bool) (t u : ElementTable) (s : Settings) (text : List ℕ) → AgreeOutside changed t u → IsWithout changed (nfd text) → sort_key t s text ≡ sort_key u s text
