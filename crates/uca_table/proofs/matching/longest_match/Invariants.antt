use Rattle.uca_table.proofs.Common.{◌≡◌, take, greatest}
use Rattle.uca_table.proofs.matching.longest_match.Given as goal

abbrev pub invariant-loop-c : goal.invariant-loop-c
invariant-loop-c g l = record {
  path : g.P.Growing.path l.points ≡ take l.c-index l.text;
  set : g.P.Growing.set l.points ≡ g.P.Growing.set l.fn.none;
  found : g.P.Growing.path l.longest ≡ take (greatest (λ n. g.P.Growing.is_key (g.P.Growing.set l.fn.none) (take n l.text)) l.c-index) l.text;
  same : g.P.Growing.set l.longest ≡ g.P.Growing.set l.fn.none;
}
