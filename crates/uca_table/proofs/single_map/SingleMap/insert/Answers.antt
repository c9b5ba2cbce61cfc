use Rattle.uca_table.proofs.single_map.SingleMap.insert.Goals as goal

pub returns-clause-map : goal.returns-clause-map
returns-clause-map c = c.put.ensures.blocks _ c.make_room.ensures.blocks
