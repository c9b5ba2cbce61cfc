use Rattle.std.proofs.Common.{◌≡◌, ◌++◌, take}
use Rattle.unicode_normalization.specs.Order.{canonical_order}
use Rattle.uca_window.specs.Segment.{IsOpen}
use Rattle.uca_window.proofs.points.push_decomposed.Given as goal

-- the parts so far follow the points in order
abbrev pub invariant-loop-point : goal.invariant-loop-point
invariant-loop-point l = record {
  points : l.points.items ≡ canonical_order (l.fn.points.items ++ take l.point-index l.point-items);
  segments : IsOpen l.ends_at l.points.items;
}
