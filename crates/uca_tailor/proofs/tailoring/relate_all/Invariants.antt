use Rattle.std.proofs.Common.{◌≡◌, ◌+◌, ◌<◌, length, map, drop}
use Rattle.uca_model.specs.Tailoring.{related_all}
use Rattle.uca_tailor.specs.Chains.{relation_of}
use Rattle.uca_tailor.proofs.tailoring.relate_all.Given as goal

abbrev pub invariant-loop-r : goal.invariant-loop-r
invariant-loop-r l = record {
  same : related_all l.count l.t l.anchor.items (map relation_of (drop l.r-index l.relations)) ≡ related_all l.fn.before l.fn.t l.fn.reset.items (map relation_of l.relations);
  count : l.count ≡ l.fn.before + l.r-index;
  some : 0 < length l.anchor.items;
}
