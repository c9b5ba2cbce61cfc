use Rattle.uca_model.proofs.PrefixKeys.{prefixes-ranges}
use Rattle.uca_model.proofs.laws.prefixes_are_ranges.Goals as goal

pub returns : goal.returns
returns c = prefixes-ranges
