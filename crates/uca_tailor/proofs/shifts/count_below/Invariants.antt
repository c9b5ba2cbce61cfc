use Rattle.std.proofs.Common.{ℕ, ◌-◌, ◌<◌, ◌≤◌, length, get_or}
use Rattle.uca_tailor.proofs.shifts.count_below.Given as goal

abbrev pub invariant-loop-low : goal.invariant-loop-low
invariant-loop-low l = record {
  order : l.low ≤ l.high;
  within : l.high ≤ length l.bounds;
  below : (k : ℕ) → k < l.low → get_or l.bounds k 0 < l.weight;
  above : (k : ℕ) → l.high ≤ k → k < length l.bounds → l.weight ≤ get_or l.bounds k 0;
}

abbrev pub decreases-loop-low : goal.decreases-loop-low
decreases-loop-low l = l.high - l.low
