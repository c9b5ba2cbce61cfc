-- What a text has at each level (UTS #10, 7.3, Form Sort Keys, step S3).
use Rattle.std.specs.Prelude.{ℕ, ◌-◌, not, ◌==◌, List, map, filter, slice_index, if◌then◌else◌}
use Rattle.unicode_normalization.specs.Forms.{nfd}
use Rattle.uca_weights.specs.declared.settings.Variable.{Variable}
use Rattle.uca_weights.specs.VariableWeighting.{weighted}
use Rattle.uca_model.specs.Table.{ElementTable}
use Rattle.uca_model.specs.CollationElements.{elements}

-- S3.4, S3.5: the weights of one level, from 1 to 4, that are not zero
abbrev pub level_weights : ℕ → List (List ℕ) → List ℕ
level_weights level ws = filter (λ w. not (w == 0)) (map (λ w. slice_index w (level - 1)) ws)

-- the list of a level: at levels 1 to 4 the weights that are not zero, at level 5 the text in NFD (S3.10)
abbrev pub level_list : ElementTable → Variable → List ℕ → ℕ → List ℕ
level_list t v text level = if level == 5 then nfd text else level_weights level (weighted v (elements t (nfd text)))
