use Rattle.uca_model.proofs.AnchorPlaces.{lie_in_the_gap}
use Rattle.uca_model.proofs.laws.items_lie_in_the_gap.Goals as goal

pub returns : goal.returns
returns c = lie_in_the_gap
