use Rattle.std.proofs.Common.{ap, ◌∙◌, fold}
use Rattle.uca_model.specs.Table.{ElementTable}
use Rattle.uca_cli.specs.declared.built_in_table.TheConstants.{ENTRIES}
use Rattle.uca_cli.specs.BuiltIn.{with_point, with_contractions, with_ranges}
use Rattle.uca_cli.proofs.BuiltInLemmas.{table_made, whole_table-all}
use Rattle.uca_cli.proofs.built_in_table.built_in.Goals as goal

pub returns : goal.returns
returns c = table_made c.finish.result c.map_err.result _ _ _ c.finish.ensures.made c.map_err.ensures.cases
    (c.in_ok-add_ranges.ensures ∙ ap with_ranges c.in_ok-insert_contractions.ensures
    ∙ ap (λ (t : ElementTable). with_ranges (with_contractions t)) c.in_ok-insert_points.ensures
    ∙ ap (λ (t : ElementTable). with_ranges (with_contractions (fold with_point t ENTRIES))) c.new-builder.ensures ∙ whole_table-all)
