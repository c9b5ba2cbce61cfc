use Rattle.std.proofs.Common.{◌≡◌, ◌+◌, ◌-◌, ◌≤◌, not, length, drop}
use Rattle.std.specs.List.{prefix_len}
use Rattle.uca_window.specs.Passing.{is_stop}
use Rattle.uca_window.proofs.passing.passed_len.Given as goal

abbrev pub invariant-loop-at : goal.invariant-loop-at
invariant-loop-at l = (l.at ≤ length l.bytes) × (l.at + prefix_len (λ b. not (is_stop b)) (drop l.at l.bytes) ≡ prefix_len (λ b. not (is_stop b)) l.bytes)

abbrev pub decreases-loop-at : goal.decreases-loop-at
decreases-loop-at l = length l.bytes - l.at

abbrev pub invariant-loop-at-2 : goal.invariant-loop-at-2
invariant-loop-at-2 l = (l.at ≤ length l.bytes) × (l.at + prefix_len (λ b. not (is_stop b)) (drop l.at l.bytes) ≡ prefix_len (λ b. not (is_stop b)) l.bytes)

abbrev pub decreases-loop-at-2 : goal.decreases-loop-at-2
decreases-loop-at-2 l = length l.bytes - l.at
