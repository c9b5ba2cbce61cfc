use Rattle.uca_key.proofs.Common.{◌≡◌, ◌<◌, ℕ, get_or, length, IsWindow}
use Rattle.uca_key.specs.declared.windows.Window.{Window}
use Rattle.uca_key.proofs.windows.windows_of.Given as goal

abbrev pub invariant-loop-base : goal.invariant-loop-base
invariant-loop-base l = record {
  size : length l.windows.items ≡ l.base-index;
  base : (i : ℕ) (d : Window) → i < l.base-index → (get_or l.windows.items i d).base ≡ get_or l.codes.anchors i 0;
  each : (i : ℕ) (d : Window) → i < l.base-index → IsWindow l.codes (get_or l.windows.items i d);
}
