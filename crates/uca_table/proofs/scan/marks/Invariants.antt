use Rattle.uca_table.proofs.Common.{◌≡◌, length, entries, all_said, join}
use Rattle.uca_table.proofs.scan.marks.Given as goal

abbrev pub invariant-entries : goal.invariant-entries
invariant-entries l = join l.marks (all_said l.t l.c l.cursor.coming) ≡ all_said l.t l.c (entries l.t.entries)

abbrev pub decreases-entries : goal.decreases-entries
decreases-entries l = length l.cursor.coming
