-- What a walk shows.
use Rattle.std.specs.Prelude.{ℕ, List}
use Rattle.uca_model.specs.Table.{ElementTable}
use Rattle.uca_keys.specs.Paths.{path_at}
use Rattle.uca_table.specs.declared.walk.Walk.{Walk}

-- the table whose keys it goes along
abbrev pub table_of_walk : Walk → ElementTable
table_of_walk w = w.table.now

-- the code points that were stepped
abbrev pub path_of : Walk → List ℕ
path_of w = path_at w.keys.now w.node.number
