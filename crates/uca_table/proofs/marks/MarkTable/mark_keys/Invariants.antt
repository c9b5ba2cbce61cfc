use Rattle.uca_table.proofs.Common.{◌≡◌, ℕ, length, entries, AreMarks, all_said, join, marks_of}
use Rattle.uca_table.proofs.marks.MarkTable.mark_keys.Given as goal

abbrev pub invariant-entries : goal.invariant-entries
invariant-entries l = record {
  table : AreMarks l.self;
  marks : (p : ℕ) → join (marks_of l.self p) (all_said l.t p l.cursor.coming) ≡ all_said l.t p (entries l.t.entries);
}

abbrev pub decreases-entries : goal.decreases-entries
decreases-entries l = length l.cursor.coming
