use Rattle.std.proofs.Common.{◌≡◌, map}
use Rattle.std.specs.List.{AllWithin}
use Rattle.uca_commands.specs.KeyedLines.{number_of}
use Rattle.uca_commands.specs.LineSorting.{ShowsFront}
use Rattle.uca_commands.proofs.line_sort.take_fronts.Given as goal

abbrev pub invariant-loop-at : goal.invariant-loop-at
invariant-loop-at l = record {
  same : map number_of l.lines ≡ map number_of l.initial.lines;
  fronts : AllWithin (ShowsFront l.of l.depth) l.lines 0 l.at;
}
