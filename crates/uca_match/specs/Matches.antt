-- Matches without where they lie in memory.
use Rattle.uca_model.specs.Match as model
use Rattle.uca_match.specs.declared.matches.Match.{Match}

abbrev pub match_of : Match → model.Match
match_of m = record { code_points = m.key.items; found = m.found }
