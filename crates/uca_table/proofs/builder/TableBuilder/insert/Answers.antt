use Rattle.uca_table.proofs.Common.{subst, sym, rules, IsEntry, AreStored}
use Rattle.uca_table.proofs.EntryLemmas.{AreStored-put}
use Rattle.uca_table.proofs.BuilderLemmas.{either_way}
use Rattle.uca_table.proofs.builder.TableBuilder.insert.Goals as goal

pub invariant_of-self : goal.invariant_of-self
invariant_of-self c =
    let old = c.self.inside.entries in let rs = c.self.inside.ranges in
    let entry : IsEntry (c.args.key.now, c.args.elements.now) = record { some_points = search rules; few_points = search rules; points = c.show_key.ensures; some_elements = search rules; few_elements = search rules; elements = c.show_elements.ensures } in
    either_way _ _ _ c.insert.result c.insert.ensures.ok c.insert.ensures.err
    (λ grown. subst (λ es. AreStored es rs) (sym grown) (AreStored-put old rs c.args.key.now c.args.elements.now c.self.invariant entry))
    (λ same. subst (λ es. AreStored es rs) (sym same) c.self.invariant)
