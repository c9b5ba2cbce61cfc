-- The table of a collator.
use Rattle.std.specs.Prelude.{Option, option_map}
use Rattle.std.specs.Arc.{arc_value}
use Rattle.uca_model.specs.Table.{ElementTable}
use Rattle.uca_handle.specs.declared.collator.Collator.{Collator}

-- its table, if it has one
abbrev pub held : Collator → Option ElementTable
held c = option_map arc_value c.handle.table
