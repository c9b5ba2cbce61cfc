use Rattle.std.proofs.Common.{length}
use Rattle.uca_tailor.specs.Strings.{segments_from}
use Rattle.uca_tailor.proofs.ParsingLemmas.{InChain}
use Rattle.uca_tailor.proofs.parsing.read_chain.Given as goal

abbrev pub invariant-loop-relations : goal.invariant-loop-relations
invariant-loop-relations l = InChain l.fn.scanner l.count l.relations.items l.next l.scanner

abbrev pub decreases-loop-relations : goal.decreases-loop-relations
decreases-loop-relations l = length (segments_from l.next l.scanner)
