use Rattle.uca_table.proofs.Common.{◌≡◌, take, IsExtending}
use Rattle.uca_table.proofs.matching.extend.Given as goal

abbrev pub invariant-loop-at : goal.invariant-loop-at
invariant-loop-at g l = record {
  extending : IsExtending (g.P.Growing.is_key (g.P.Growing.set l.fn.matched)) l.start l.fn.text l.text l.end l.at l.high;
  path : g.P.Growing.path l.matched ≡ take l.end l.text;
  set : g.P.Growing.set l.matched ≡ g.P.Growing.set l.fn.matched;
}
