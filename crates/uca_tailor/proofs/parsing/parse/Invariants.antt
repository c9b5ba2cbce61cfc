use Rattle.std.proofs.Common.{length, chars}
use Rattle.uca_tailor.specs.Strings.{segments_from}
use Rattle.uca_tailor.proofs.ParsingLemmas.{InRules}
use Rattle.uca_tailor.proofs.parsing.parse.Given as goal

abbrev pub invariant-loop-next : goal.invariant-loop-next
invariant-loop-next l = InRules (chars l.text) l.chains.items l.count l.next l.scanner

abbrev pub decreases-loop-next : goal.decreases-loop-next
decreases-loop-next l = length (segments_from l.next l.scanner)
