use Rattle.uca_key.proofs.Common.{◌≡◌, ◌<◌, ◌==◌, ◌||◌, ℕ, false, get_or, length, take, list_any}
use Rattle.uca_key.proofs.weight_codes.set_flags.Given as goal

abbrev pub invariant-loop-weight : goal.invariant-loop-weight
invariant-loop-weight l = record {
  size : length l.flags ≡ 65536;
  flags : (w : ℕ) → w < 65536 → get_or l.flags w false ≡ (get_or l.fn.flags w false || list_any (λ c. c == w) (take l.weight-index l.weights));
}
