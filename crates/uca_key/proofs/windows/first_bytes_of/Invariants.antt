use Rattle.uca_key.proofs.Common.{◌≡◌, true, ◌-◌, ◌<◌, ◌≤◌, ℕ, get_or, length, IsAlone}
use Rattle.uca_key.proofs.windows.first_bytes_of.Given as goal

-- the bytes of the weights so far
abbrev pub invariant-loop-w : goal.invariant-loop-w
invariant-loop-w l = record {
  size : length l.bytes ≡ 256;
  firsts : (w d : ℕ) → 0xFB00 ≤ w → w < l.w → 0 < get_or l.bytes (w - 0xFB00) d → IsAlone true l.codes l.window.base w (get_or l.bytes (w - 0xFB00) d);
}
