use Rattle.std.proofs.Common.{◌≡◌}
use Rattle.uca_commands.specs.KeyFronts.{front}
use Rattle.uca_commands.proofs.keyed_line.front_of.Given as goal

abbrev pub invariant-loop-at : goal.invariant-loop-at
invariant-loop-at l = record {
  value : l.front ≡ front l.at l.key;
}
