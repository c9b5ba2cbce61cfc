use Rattle.std.proofs.Common.{◌≡◌, length}
use Rattle.uca_io.specs.Words.{skip_blanks}
use Rattle.uca_io.proofs.words.skip_blanks.Given as goal

abbrev pub invariant-loop-first : goal.invariant-loop-first
invariant-loop-first l = skip_blanks l.rest ≡ skip_blanks l.bytes

abbrev pub decreases-loop-first : goal.decreases-loop-first
decreases-loop-first l = length l.rest
