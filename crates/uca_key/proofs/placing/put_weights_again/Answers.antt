use Rattle.uca_key.proofs.Common.{take, ◌∙◌, weights_left}
use Rattle.uca_key.proofs.PlacingLemmas.{IsPutting-more}
use Rattle.uca_key.proofs.WeighingLemmas.{bytes-read}
use Rattle.uca_key.proofs.placing.put_weights_again.Goals as goal

pub each-preserved : goal.each-preserved
each-preserved c = record {
  weighting = c.read-n.ensures.weighting ∙ c.each.invariant.weighting;
  putting = IsPutting-more _ _ _ _ _ _ c.each.invariant.putting _ _ _ _ c.requires.size (bytes-read _ _ c.args.level (weights_left c.each.left) (weights_left c.read-n.new.self) (take c.read-n.result c.read-n.new.room) c.read-n.ensures.left c.each.invariant.weighting) c.put_level-next.ensures;
}
