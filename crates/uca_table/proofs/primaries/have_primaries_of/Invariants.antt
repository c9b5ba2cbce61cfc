use Rattle.uca_table.proofs.Common.{◌≡◌, length, have_primaries_of}
use Rattle.uca_table.proofs.primaries.have_primaries_of.Given as goal

abbrev pub invariant-loop-first : goal.invariant-loop-first
invariant-loop-first l = have_primaries_of l.firsts l.left ≡ have_primaries_of l.own l.elements

abbrev pub decreases-loop-first : goal.decreases-loop-first
decreases-loop-first l = length l.firsts
