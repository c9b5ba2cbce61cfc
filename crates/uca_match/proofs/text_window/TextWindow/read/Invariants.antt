use Rattle.std.proofs.Common.{◌≡◌, ◌+◌, ◌-◌, ◌≤◌, ◌++◌, length, take}
use Rattle.uca_weights.specs.declared.limits.TheConstants.{MAX_LOOKAHEAD}
use Rattle.uca_model.specs.Source.{unread}
use Rattle.uca_model.specs.Table.{longest}
use Rattle.uca_match.specs.RemainingElements.{remaining_elements}
use Rattle.uca_match.proofs.text_window.TextWindow.read.Given as goal

abbrev pub invariant-loop-at : goal.invariant-loop-at
invariant-loop-at l = record {
  within : l.at ≤ length l.room;
  same : remaining_elements l.fn.self.elements (unread l.fn.self.source) ≡ take l.at l.room ++ remaining_elements l.self.elements (unread l.self.source);
  table : l.self.elements.table ≡ l.fn.self.elements.table;
  bound : length l.self.elements.window.points ≤ longest l.self.elements.table + MAX_LOOKAHEAD;
  size : length l.room ≡ length l.fn.room;
}

abbrev pub decreases-loop-at : goal.decreases-loop-at
decreases-loop-at l = length l.room - l.at
