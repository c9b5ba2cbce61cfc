use Rattle.std.proofs.Common.{map, take}
use Rattle.uca_match.specs.Matches.{match_of}
use Rattle.uca_handle.specs.Listed.{Lists}
use Rattle.uca_handle.proofs.matches.list_matches.Given as goal

abbrev pub invariant-loop-matched : goal.invariant-loop-matched
invariant-loop-matched l = Lists l.t (map match_of (take l.matched-index l.matched-items)) l.all
