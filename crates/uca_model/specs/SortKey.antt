-- Sort keys and their order (UTS #10, 7.3, Form Sort Keys, and 7.4, Compare Sort Keys; steps S3 and S4).
use Rattle.std.specs.Prelude.{ℕ, List, [], ◌∷◌, ◌++◌, flat_map, take, drop}
use Rattle.std.specs.Int.{to_be_bytes, w16, w32}
use Rattle.std.specs.declared.cmp.Ordering.{Ordering}
use Rattle.std.specs.Ordering.{nat_cmp}
use Rattle.std.specs.Cmp.Lexicographic.{slice_cmp}
use Rattle.unicode_normalization.specs.Forms.{nfd}
use Rattle.uca_weights.specs.declared.settings.Settings.{Settings}
use Rattle.uca_weights.specs.Settings.{levels}
use Rattle.uca_weights.specs.VariableWeighting.{weighted}
use Rattle.uca_model.specs.Table.{ElementTable}
use Rattle.uca_model.specs.CollationElements.{elements}
use Rattle.uca_model.specs.LevelWeights.{level_weights}

-- a weight as two bytes, high byte first
abbrev pub weight_bytes : ℕ → List ℕ
weight_bytes w = to_be_bytes w16 w

-- a code point as three bytes, high byte first
abbrev pub code_point_bytes : ℕ → List ℕ
code_point_bytes c = drop 1 (to_be_bytes w32 c)

-- S3.2: the levels, with the separator 0000 between each two
abbrev pub joined : List (List ℕ) → List ℕ
joined [] = []
joined (x ∷ []) = x
joined (x ∷ y ∷ xs) = x ++ 0 ∷ 0 ∷ joined (y ∷ xs)

-- the bytes of one level of elements that were weighted
abbrev pub level_bytes : List (List ℕ) → ℕ → List ℕ
level_bytes ws level = flat_map weight_bytes (level_weights level ws)

-- the bytes of all five levels: of the elements, and of the text in NFD (S3.10)
abbrev pub all_levels : List (List ℕ) → List ℕ → List (List ℕ)
all_levels ws decomposed = level_bytes ws 1 ∷ level_bytes ws 2 ∷ level_bytes ws 3 ∷ level_bytes ws 4 ∷ flat_map code_point_bytes decomposed ∷ []

-- S3: the sort key of a text
unfoldable pub sort_key : ElementTable → Settings → List ℕ → List ℕ
sort_key t s text = joined (take (levels s.strength) (all_levels (weighted s.weighting (elements t (nfd text))) (nfd text)))

-- S4: sort keys are compared byte by byte, a proper prefix first
abbrev pub key_order : List ℕ → List ℕ → Ordering
key_order = slice_cmp nat_cmp
