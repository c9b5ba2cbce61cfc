use Rattle.std.proofs.Common.{◌≡◌, ◌≤◌, ◌+◌, ◌*◌, ◌++◌, length, drop}
use Rattle.uca_model.specs.CanonicalText.{key_text}
use Rattle.uca_model.proofs.CanonicalLemmas.{more_points}
use Rattle.uca_allkeys.proofs.canonical.push_key.Given as goal

-- what is written and the text of what is left is the text of all
abbrev pub invariant-loop-c : goal.invariant-loop-c
invariant-loop-c l = record {
  text : l.line.items ++ more_points (drop l.c-index l.others) ≡ l.fn.line.items ++ key_text l.key;
  grows : length l.line.items + 7 * length (drop l.c-index l.others) ≤ length l.fn.line.items + 7 * length l.key;
}
