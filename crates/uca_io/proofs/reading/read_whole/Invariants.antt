use Rattle.std.proofs.Common.{◌+◌, ◌≤◌, ◌-◌, length}
use Rattle.uca_io.specs.Reader.{Gives}
use Rattle.uca_io.proofs.reading.read_whole.Given as goal

abbrev pub invariant-loop-bytes : goal.invariant-loop-bytes
invariant-loop-bytes g l = record {
  gives : Gives (g.R.Reader.state l.fn.reader) (g.R.Reader.state l.reader) l.bytes.items;
  within : length l.bytes.items ≤ l.limit;
  calls : g.R.Reader.calls l.reader ≤ g.R.Reader.calls l.fn.reader + length l.bytes.items;
}

abbrev pub decreases-loop-bytes : goal.decreases-loop-bytes
decreases-loop-bytes g l = l.limit - length l.bytes.items
