use Rattle.uca_tailor.proofs.RenumberedLemmas.{given, IsRenumbered-none}
use Rattle.uca_tailor.proofs.renumbered.Renumbered.new.Goals as goal

pub invariant_of-result : goal.invariant_of-result
invariant_of-result c = IsRenumbered-none c.new.result c.new-2.result.entries c.args.t.now c.of.result c.new-3.result c.longest-longest_key.result c.new.ensures c.new-2.ensures.empty c.longest-longest_key.ensures.valid c.of.ensures c.new-3.ensures c.longest-longest_key.ensures.value

pub returns : goal.returns
returns c = given c.new.result c.new-2.result.entries c.args.t.now c.new.ensures c.new-2.ensures.empty
