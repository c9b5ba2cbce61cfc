use Rattle.std.proofs.Common.{◌≡◌, ◌+◌, length, map, drop}
use Rattle.uca_model.specs.Rules.{items}
use Rattle.uca_model.specs.Tailoring.{tailored_from}
use Rattle.uca_tailor.specs.Chains.{chain_of}
use Rattle.uca_tailor.proofs.tailoring.relate_chains.Given as goal

abbrev pub invariant-loop-chain : goal.invariant-loop-chain
invariant-loop-chain l = record {
  same : tailored_from l.count l.t (map chain_of (drop l.chain-index l.chain-items)) ≡ tailored_from 0 l.fn.t (map chain_of l.chain-items);
  count : l.count + length (items (map chain_of (drop l.chain-index l.chain-items))) ≡ length (items (map chain_of l.chain-items));
}
