use Rattle.std.proofs.Common.{◌≡◌, ◌≤◌, ◌+◌, ◌*◌, ◌^◌, List, ℕ, ◌++◌, length, flat_map}
use Rattle.std.specs.List.{All}
use Rattle.std.specs.FinMap.{entries}
use Rattle.uca_model.specs.Table.{IsEntry}
use Rattle.uca_model.specs.CanonicalText.{entry_line}
use Rattle.uca_io.specs.OutputBuffer.{accepted, Accepts}
use Rattle.uca_allkeys.proofs.canonical.send_entries.Given as goal

abbrev pub invariant-loop-key : goal.invariant-loop-key
invariant-loop-key g l = record {
  can : (goal.iterator-loop-key g).can_next l.key-iterator;
  finite : (goal.iterator-loop-key g).is_finite l.key-iterator;
  sent : List ℕ;
  sends : Accepts (g.W.Writer.state l.fn.writer) l.fn.out (g.W.Writer.state l.writer) l.out sent;
  complete : sent ++ flat_map entry_line l.key-iterator ≡ flat_map entry_line (entries l.table.entries);
  valid : All IsEntry l.key-iterator;
  room : accepted l.out + 4096 * length l.key-iterator ≤ 2 ^ 80 + 4096 * 2 ^ 64;
}
