use Rattle.std.proofs.Common.{ap, ◌∙◌}
use Rattle.std.specs.Prelude.{Some, option_map}
use Rattle.std.specs.Arc.{arc_value}
use Rattle.uca_handle.proofs.collator.Collator.load.Goals as goal

pub returns : goal.returns
returns c = record {
  t = c.in_ok-table_of.field-0;
  has = ap (option_map arc_value) c.of.ensures ∙ ap Some c.in_ok-opened.ensures;
  says = c.in_ok-table_of.ensures;
}
