use Rattle.std.proofs.Common.{rules}
use Rattle.uca_weights.proofs.settings.Settings.levels.Goals as goal

pub returns-in-Quaternary : goal.returns-in-Quaternary
returns-in-Quaternary c = search rules
