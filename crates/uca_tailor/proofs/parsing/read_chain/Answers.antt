use Rattle.std.proofs.Common.{◌≡◌, ◌∷◌, ◌++◌, [], rules, sym, subst, ◌∙◌}
use Rattle.std.proofs.lemmas.Bool.{cond-true}
use Rattle.uca_tailor.proofs.ParsingLemmas.{InChain, chain_more, pushed}
use Rattle.uca_tailor.proofs.parsing.read_chain.Goals as goal

pub loop-relations-preserved : goal.loop-relations-preserved
loop-relations-preserved c =
    let items : c.push.new.self.items ≡ c.loop-relations.relations.items ++ c.in_ok-relation.relation ∷ [] = c.push.ensures.items ∙ cond-true _ _ _ (pushed c.push.result c.is_err.result c.is_err.ensures.value c.if-is_err.false) in
    subst (λ rs. InChain c.args.scanner.now c.args.count rs c.in_ok-relation.after c.read_relation.new.scanner) (sym items)
    (chain_more c.args.scanner.now c.loop-relations.scanner c.read_relation.new.scanner c.args.count c.loop-relations.relations.items c.loop-relations.next c.in_ok-relation.after c.in-Some.op c.in_ok-relation.relation c.loop-relations.invariant (search rules) c.in_ok-relation.ensures)
