use Rattle.uca_table.proofs.Common.{◌++◌, ◌∷◌, [], path_of, table_of_walk}
use Rattle.uca_table.proofs.WalkLemmas.{no_key_there}
use Rattle.uca_table.proofs.growing.WalkGrowing.is_whole.Goals as goal

pub returns : goal.returns
returns c = λ leaf x. no_key_there (table_of_walk c.args.self.now) (path_of c.args.self.now ++ x ∷ []) (c.is_leaf.ensures leaf x)
