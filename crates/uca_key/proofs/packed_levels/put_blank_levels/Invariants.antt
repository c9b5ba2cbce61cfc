use Rattle.uca_key.proofs.Common.{◌+◌, ◌-◌, ◌≤◌, chars, nfd, weights_of, IsPutting, later_levels}
use Rattle.uca_key.proofs.packed_levels.put_blank_levels.Given as goal

-- the levels up to one were put
abbrev pub invariant-levels : goal.invariant-levels
invariant-levels l = record {
  first : 1 ≤ l.level;
  last : l.level ≤ l.last;
  putting : IsPutting l.fn.at l.fn.out l.next l.out (later_levels (l.last - 1) 2 (weights_of l.reading) (nfd (chars l.reading.text.now))) (later_levels (l.last - l.level) (l.level + 1) (weights_of l.reading) (nfd (chars l.reading.text.now)));
}

abbrev pub decreases-levels : goal.decreases-levels
decreases-levels l = l.last - l.level
