use Rattle.std.proofs.Common.{◌≡◌, ◌*◌, ◌++◌, length, drop, flat_map, map}
use Rattle.uca_table.specs.Bounds.{condition_of}
use Rattle.uca_commands.specs.Sending.{finding_line}
use Rattle.uca_commands.proofs.commands.lint.findings_text.Given as goal

abbrev pub invariant-loop-condition : goal.invariant-loop-condition
invariant-loop-condition l = record {
  complete : l.text.items ++ flat_map finding_line (map condition_of (drop l.condition-index l.broken)) ≡ flat_map finding_line (map condition_of l.broken);
  size : length l.text.items ≡ 4 * l.condition-index;
}
