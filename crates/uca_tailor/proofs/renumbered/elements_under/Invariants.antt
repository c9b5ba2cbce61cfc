use Rattle.std.proofs.Common.{◌≡◌, ◌≤◌, ◌++◌, length, drop, map}
use Rattle.std.specs.FinSet.{contains}
use Rattle.uca_model.specs.CollationElements.{matches}
use Rattle.uca_match.specs.Keys.{key_set}
use Rattle.uca_match.specs.Matches.{match_of}
use Rattle.uca_tailor.proofs.RenumberedLemmas.{elements_by}
use Rattle.uca_tailor.proofs.renumbered.elements_under.Given as goal

abbrev pub invariant-loop-matched : goal.invariant-loop-matched
invariant-loop-matched l = record {
  are : map match_of l.matched-items ≡ matches (contains (key_set l.t)) l.points;
  same : l.elements.items ++ elements_by l.t (drop l.matched-index l.matched-items) ≡ elements_by l.t l.matched-items;
  some : l.matched-index ≤ length l.elements.items;
}
