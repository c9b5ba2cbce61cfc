use Rattle.uca_tailor.proofs.RelatedTables.{related_tables}
use Rattle.uca_tailor.proofs.laws.related_tables_are_tables.Goals as goal

pub returns : goal.returns
returns c = related_tables
