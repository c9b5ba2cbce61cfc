-- Rules, without their places in memory.
use Rattle.std.specs.Prelude.{◌≡◌, ℕ, zero, suc, List, map, refl}
use Rattle.std.specs.Coded.{Coded, code_by, coded×, coded_list, coded_ℕ}
use Rattle.uca_model.specs.Rules.{Operator, first, second, third, same, Relation, Chain}
use Rattle.uca_tailor.specs.declared.rules.Op.{Op}
use Rattle.uca_tailor.specs.declared.rules.Op.TheVariants.{First, Second, Third, Same}
use Rattle.uca_tailor.specs.declared.rules.Relation.{Relation as RelationParts}
use Rattle.uca_tailor.specs.declared.rules.Chain.{Chain as ChainParts}

abbrev pub operator_of : Op → Operator
operator_of First = first
operator_of Second = second
operator_of Third = third
operator_of Same = same

abbrev pub relation_of : RelationParts → Relation
relation_of r = record { op = operator_of r.op; item = r.item.items; expansion = r.expansion.items }

abbrev pub chain_of : ChainParts → Chain
chain_of c = record { reset = c.reset.items; relations = map relation_of c.relations.items }

-- as data, by which a proof distinguishes two of them
abbrev pub number_of : Operator → ℕ
number_of first = 0
number_of second = 1
number_of third = 2
number_of same = 3

abbrev pub operator_at : ℕ → Operator
operator_at zero = first
operator_at (suc zero) = second
operator_at (suc (suc zero)) = third
operator_at (suc (suc (suc n))) = same

pub operator-numbered : (op : Operator) → operator_at (number_of op) ≡ op
operator-numbered first = refl
operator-numbered second = refl
operator-numbered third = refl
operator-numbered same = refl

abbrev pub coded_operator : Coded Operator
coded_operator = code_by ℕ coded_ℕ number_of operator_at operator-numbered

abbrev pub coded_relation : Coded Relation
coded_relation = code_by (Operator × (List ℕ × List ℕ)) (coded× coded_operator (coded× (coded_list coded_ℕ) (coded_list coded_ℕ))) (λ r. (r.op, (r.item, r.expansion))) (λ p. record { op = p.0; item = p.1.0; expansion = p.1.1 }) (λ _. refl)

abbrev pub coded_chain : Coded Chain
coded_chain = code_by (List ℕ × List Relation) (coded× (coded_list coded_ℕ) (coded_list coded_relation)) (λ c. (c.reset, c.relations)) (λ p. record { reset = p.0; relations = p.1 }) (λ _. refl)

abbrev pub coded_chains : Coded (List Chain)
coded_chains = coded_list coded_chain
