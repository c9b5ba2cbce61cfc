use Rattle.std.proofs.Common.{ℕ, ◌+◌, ◌-◌, ◌<◌, ◌≤◌, length, get_or}
use Rattle.uca_tailor.proofs.shifts.place_of.Given as goal

abbrev pub invariant-loop-low : goal.invariant-loop-low
invariant-loop-low l = record {
  order : l.low ≤ l.high;
  within : l.high ≤ length l.bounds;
  below : (k : ℕ) → k < l.low → get_or l.bounds k 0 + k < l.w;
  above : (k : ℕ) → l.high ≤ k → k < length l.bounds → l.w ≤ get_or l.bounds k 0 + k;
}

abbrev pub decreases-loop-low : goal.decreases-loop-low
decreases-loop-low l = l.high - l.low
