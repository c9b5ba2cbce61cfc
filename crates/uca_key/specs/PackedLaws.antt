-- Laws of packed sort keys, which public functions with no body have as their contracts.
use Rattle.std.specs.Prelude.{◌≡◌, ◌↔◌, ℕ, Bool, true, ◌==◌, ◌≤◌, List, [], ◌∷◌, ◌++◌, All}
use Rattle.std.specs.Char.{IsScalar}
use Rattle.std.specs.List.{list_any}
use Rattle.unicode_normalization.specs.Forms.{nfd}
use Rattle.uca_weights.specs.declared.settings.Settings.{Settings}
use Rattle.uca_weights.specs.declared.settings.Strength.{Strength}
use Rattle.uca_weights.specs.declared.settings.Variable.{Variable}
use Rattle.uca_weights.specs.Settings.{levels}
use Rattle.uca_model.specs.Table.{ElementTable, IsTable}
use Rattle.uca_model.specs.Laws.{BeginsWith}
use Rattle.uca_model.specs.LevelWeights.{level_list}
use Rattle.uca_model.specs.Prefix.{is_complete}
use Rattle.uca_model.specs.SortKey.{key_order, sort_key}
use Rattle.uca_model.specs.TextLaws.{AgreeOutside, AreEquivalent, IsWithout}
use Rattle.uca_key.specs.PrimaryCode.{code_points}
use Rattle.uca_key.specs.PackedKey.{packed_key, packed_prefix}

-- under every table, packed keys are in the byte order of the sort keys
abbrev pub PackedKeysFollowKeys : Type 0
PackedKeysFollowKeys = (t : ElementTable) (s : Settings) (a b : List ℕ) → IsTable t → All IsScalar a → All IsScalar b
    → key_order (packed_key t s a) (packed_key t s b) ≡ key_order (sort_key t s a) (sort_key t s b)

-- under every table, two packed keys are equal exactly where the sort keys are
abbrev pub PackedKeysTellTextsApart : Type 0
PackedKeysTellTextsApart = (t : ElementTable) (s : Settings) (a b : List ℕ) → IsTable t → All IsScalar a → All IsScalar b
    → (packed_key t s a ≡ packed_key t s b) ↔ (sort_key t s a ≡ sort_key t s b)

-- the packed key of a text at a strength is the beginning of its packed key at each strength of as many levels or more
abbrev pub PackedKeysGrowByLevels : Type 0
PackedKeysGrowByLevels = (t : ElementTable) (v : Variable) (low high : Strength) (text : List ℕ) → levels low ≤ levels high
    → BeginsWith (packed_key t (record { strength = high; weighting = v }) text) (packed_key t (record { strength = low; weighting = v }) text)

-- C1: canonically equivalent texts have one packed key, under every table and all settings
abbrev pub EquivalentTextsHaveOnePackedKey : Type 0
EquivalentTextsHaveOnePackedKey = (t : ElementTable) (s : Settings) (a b : List ℕ) → AreEquivalent a b → packed_key t s a ≡ packed_key t s b

-- under every table, where a text is complete, the packed key of each text that begins with it begins with its prefix, at every strength and option
abbrev pub PackedKeysBeginWithCompleteTexts : Type 0
PackedKeysBeginWithCompleteTexts = (t : ElementTable) (s : Settings) (p x : List ℕ) → is_complete t p ≡ true → BeginsWith (packed_key t s (p ++ x)) (packed_prefix t s.weighting p)

-- under every table, a packed key that begins with the prefix of another text is that of a text whose primary weights begin with those of the other
abbrev pub PackedKeysBeginWithPrimaryWeights : Type 0
PackedKeysBeginWithPrimaryWeights = (t : ElementTable) (s : Settings) (p x : List ℕ) → IsTable t → All IsScalar p → All IsScalar x
    → BeginsWith (packed_key t s x) (packed_prefix t s.weighting p) → BeginsWith (level_list t s.weighting x 1) (level_list t s.weighting p 1)

-- under every table, the packed key of a text whose primary weights begin with those of another begins with the prefix of the other
abbrev pub PackedKeysOfBeginnings : Type 0
PackedKeysOfBeginnings = (t : ElementTable) (s : Settings) (p x : List ℕ) → BeginsWith (level_list t s.weighting x 1) (level_list t s.weighting p 1) → BeginsWith (packed_key t s x) (packed_prefix t s.weighting p)

-- a text whose NFD has no code point of a set has the same packed key under two tables that agree outside it, where no character of the code has one in its NFD
abbrev pub PackedKeysOutliveTables : Type 0
PackedKeysOutliveTables = (changed : ℕ → Bool) (t u : ElementTable) (s : Settings) (text : List ℕ) → AgreeOutside changed t u
    → ((c : ℕ) → list_any (λ x. x == c) code_points ≡ true → IsWithout changed (nfd (c ∷ []))) → IsWithout changed (nfd text) → packed_key t s text ≡ packed_key u s text
