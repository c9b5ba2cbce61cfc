use Rattle.uca_key.proofs.Common.{◌≡◌, ◌<◌, ◌≤◌, ◌-◌, get_or, take, greatest}
use Rattle.uca_key.proofs.weight_codes.number_of_greatest.Given as goal

abbrev pub invariant-loop-anchor : goal.invariant-loop-anchor
invariant-loop-anchor l = record {
  number : l.number ≡ l.anchor-index;
  best : l.best ≡ greatest (take l.anchor-index l.anchors) l.w;
  within : l.found ≤ l.number;
  none : l.found ≡ 0 → l.best ≡ 0;
  some : 0 < l.found → 0 < l.best;
  at : 0 < l.found → get_or l.anchors (l.found - 1) 0 ≡ l.best;
}
