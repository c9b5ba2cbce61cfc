use Rattle.uca_key.proofs.Common.{rules, arith, ◌≡◌, [], nil_from_length, chars-nil, levels, Settings, ElementTable, common_steps}
use Rattle.uca_model.specs.CollationElements.{matches_within}
use Rattle.uca_model.specs.SortKey.{sort_key}
use Rattle.unicode_normalization.proofs.FormsLemmas.{normalize-nil}
use Rattle.uca_key.proofs.keys.key_of.Goals as goal

-- the key of no text at one level
no_key : (t : ElementTable) (s : Settings) → levels s.strength ≡ 1 → sort_key t s [] ≡ []
unfolding sort_key matches_within
no_key t s one = grind (arith, common_steps, normalize-nil)

pub returns-then-is_empty-clause-value : goal.returns-then-is_empty-clause-value
returns-then-is_empty-clause-value c = grind (arith, common_steps, nil_from_length, chars-nil, no_key)

pub returns-then-is_empty-clause-empty : goal.returns-then-is_empty-clause-empty
returns-then-is_empty-clause-empty c = search rules
