use Rattle.uca_model.proofs.AgreeingTables.{keys-outlive}
use Rattle.uca_model.proofs.laws.keys_outlive_tables.Goals as goal

pub returns : goal.returns
returns c = keys-outlive
