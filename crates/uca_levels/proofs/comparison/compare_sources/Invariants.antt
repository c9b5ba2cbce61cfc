use Rattle.std.proofs.Common.{◌≡◌, ◌-◌, ◌+◌, ◌≤◌}
use Rattle.uca_weights.specs.Settings.{levels}
use Rattle.uca_model.specs.SafeCut.{cut_of}
use Rattle.uca_levels.specs.FromCut.{ReadsFromCut, Undecided, place_back}
use Rattle.uca_levels.proofs.comparison.compare_sources.Given as goal

-- the levels before this one are the same, and a way back leads to the cut
abbrev pub invariant-each : goal.invariant-each
invariant-each g l = record {
  first : 2 ≤ l.level;
  last : l.level ≤ levels l.s.strength + 1;
  undecided : Undecided l.t l.s (g.S.Source.state l.fn.a).text (g.T.Source.state l.fn.b).text l.level;
  back_a : place_back l.marked (g.S.Source.state l.a) ≡ cut_of l.t (g.S.Source.state l.fn.a).text (g.T.Source.state l.fn.b).text;
  back_b : place_back l.marked (g.T.Source.state l.b) ≡ cut_of l.t (g.S.Source.state l.fn.a).text (g.T.Source.state l.fn.b).text;
  reads_a : ReadsFromCut (l.level - 1) (cut_of l.t (g.S.Source.state l.fn.a).text (g.T.Source.state l.fn.b).text) (g.S.Source.state l.fn.a) (g.S.Source.state l.a);
  reads_b : ReadsFromCut (l.level - 1) (cut_of l.t (g.S.Source.state l.fn.a).text (g.T.Source.state l.fn.b).text) (g.T.Source.state l.fn.b) (g.T.Source.state l.b);
}

abbrev pub decreases-each : goal.decreases-each
decreases-each g l = levels l.s.strength + 1 - l.level
