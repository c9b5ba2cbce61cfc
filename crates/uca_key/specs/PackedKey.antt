-- Packed sort keys: sort keys (UTS #10, 7.3) with a code of primary weights, and with runs of common weights at the later levels. A form of this project.
use Rattle.std.specs.Prelude.{ℕ, zero, suc, ◌+◌, ◌*◌, ◌-◌, ◌==◌, nat_lt, List, [], ◌∷◌, ◌++◌, flat_map, take, if◌then◌else◌}
use Rattle.std.specs.List.{concat}
use Rattle.unicode_normalization.specs.Forms.{nfd}
use Rattle.uca_weights.specs.declared.settings.Settings.{Settings}
use Rattle.uca_weights.specs.declared.settings.Variable.{Variable}
use Rattle.uca_weights.specs.Settings.{levels}
use Rattle.uca_weights.specs.VariableWeighting.{weighted}
use Rattle.uca_model.specs.Table.{ElementTable}
use Rattle.uca_model.specs.CollationElements.{elements}
use Rattle.uca_model.specs.LevelWeights.{level_list, level_weights}
use Rattle.uca_model.specs.SortKey.{code_point_bytes, weight_bytes}
use Rattle.uca_key.specs.PrimaryCode.{PrimaryCode, code_of, primary_front, primary_level, start}

-- the weight that most characters have at a level from 2 to 4: in published tables at levels 2 and 3, and by the option Shifted at level 4 (UTS #10, 4)
abbrev pub common_weight : ℕ → ℕ
common_weight level = if level == 2 then 0x20 else if level == 3 then 2 else 0xFFFF

-- another weight: one byte up to FD, and else FE and two bytes, high byte first
abbrev pub other_bytes : ℕ → List ℕ
other_bytes w = if nat_lt w 0xFE then w ∷ [] else 0xFE ∷ weight_bytes w

-- a weight above the common one, after a run of so many common ones: after none or one the next 34 weights have a byte each
abbrev pub above_bytes : ℕ → ℕ → ℕ → List ℕ
above_bytes common run w =
    if nat_lt run 2 then (if nat_lt (w - common) 35 then (220 - 35 * run + (w - common)) ∷ [] else (255 - 35 * run) ∷ other_bytes w)
    else (187 - run) ∷ other_bytes w

-- a weight below the common one, after a run
abbrev pub below_bytes : ℕ → ℕ → List ℕ
below_bytes run w = (2 * run + 1) ∷ other_bytes w

-- the weights of a level after a run of so many common ones, fewer than 62. A run of 62 is the byte 124. What ends a shorter run is a byte that says its length: an
-- even one at the end of the level, an odd one before a weight below the common one, and one that counts down from 255 before a weight above it
abbrev pub runs_after : ℕ → ℕ → List ℕ → List ℕ
runs_after common run [] = (2 * run) ∷ []
runs_after common run (w ∷ ws) =
    if w == common then (if run + 1 == 62 then 124 ∷ runs_after common 0 ws else runs_after common (run + 1) ws)
    else (if nat_lt w common then below_bytes run w else above_bytes common run w) ++ runs_after common 0 ws

-- the bytes of a level, from 2 to 4, of elements that were weighted
abbrev pub packed_level : List (List ℕ) → ℕ → List ℕ
packed_level ws level = runs_after (common_weight level) 0 (level_weights level ws)

-- the bytes of a later level, from 2 to 5: the fifth is as in a sort key
abbrev pub packed_later : List (List ℕ) → List ℕ → ℕ → List ℕ
packed_later ws decomposed level = if level == 5 then flat_map code_point_bytes decomposed else packed_level ws level

-- so many later levels from one on
abbrev pub later_levels : ℕ → ℕ → List (List ℕ) → List ℕ → List ℕ
later_levels zero level ws decomposed = []
later_levels (suc n) level ws decomposed = packed_later ws decomposed level ++ later_levels n (level + 1) ws decomposed

-- the bytes of all five levels, each of which ends itself
abbrev pub packed_levels : PrimaryCode → List (List ℕ) → List ℕ → List (List ℕ)
packed_levels k ws decomposed =
    primary_level k (start k) (level_weights 1 ws) ∷ packed_later ws decomposed 2 ∷ packed_later ws decomposed 3 ∷ packed_later ws decomposed 4 ∷ packed_later ws decomposed 5 ∷ []

-- the packed sort key of a text, by a code of primary weights
unfoldable pub packed_key_by : PrimaryCode → ElementTable → Settings → List ℕ → List ℕ
packed_key_by k t s text = concat (take (levels s.strength) (packed_levels k (weighted s.weighting (elements t (nfd text))) (nfd text)))

-- the packed sort key of a text
unfoldable pub packed_key : ElementTable → Settings → List ℕ → List ℕ
packed_key t s text = packed_key_by (code_of t) t s text

-- the bytes with which the packed keys of just those texts begin whose primary weights begin with those of a text: its weights, without an end
unfoldable pub packed_prefix : ElementTable → Variable → List ℕ → List ℕ
packed_prefix t v text = primary_front (code_of t) (start (code_of t)) (level_list t v text 1)
