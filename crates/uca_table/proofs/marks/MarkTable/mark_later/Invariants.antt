use Rattle.uca_table.proofs.Common.{◌≡◌, ℕ, length, AreMarks, join, later, marks_of}
use Rattle.uca_table.proofs.marks.MarkTable.mark_later.Given as goal

abbrev pub invariant-loop-c : goal.invariant-loop-c
invariant-loop-c l = record {
  table : AreMarks l.self;
  marks : (p : ℕ) → join (marks_of l.self p) (later p l.rest) ≡ join (marks_of l.fn.self p) (later p l.points);
}

abbrev pub decreases-loop-c : goal.decreases-loop-c
decreases-loop-c l = length l.rest
