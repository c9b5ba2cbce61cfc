use Rattle.std.proofs.Common.{Some, ap, ◌∙◌, ne_eqb}
use Rattle.uca_weights.specs.declared.limits.TheConstants.{MAX_RELATIONS}
use Rattle.uca_tailor.specs.declared.strings.Found.{Found}
use Rattle.uca_tailor.proofs.parsing.next_relation.Goals as goal

pub returns-else-count-eq-MAX_RELATIONS : goal.returns-else-count-eq-MAX_RELATIONS
returns-else-count-eq-MAX_RELATIONS c = record {
  at = c.in-Some.found.at;
  is = c.in-Some.is ∙ ap (λ o. let f : Found = record { operator = o; at = c.in-Some.found.at } in Some f) c.in-Relation.is;
  room = ne_eqb c.args.count MAX_RELATIONS c.if-count-eq-MAX_RELATIONS.false;
}
