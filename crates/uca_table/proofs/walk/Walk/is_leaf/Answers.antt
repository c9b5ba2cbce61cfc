use Rattle.uca_table.proofs.Common.{ap, sym, ◌∙◌, ◌++◌, ◌∷◌, [], begins_entry, path_of}
use Rattle.uca_table.proofs.walk.Walk.is_leaf.Goals as goal

pub returns : goal.returns
returns c = λ leaf point. let w = c.args.self.now in ap (λ es. begins_entry es (path_of w ++ point ∷ [])) (sym w.same) ∙ c.is_leaf.ensures leaf point
