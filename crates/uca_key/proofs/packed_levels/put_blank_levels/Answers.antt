use Rattle.uca_key.proofs.Common.{chars, arith, nfd, weights_of}
use Rattle.uca_key.proofs.PackedPieces.{later-next}
use Rattle.uca_key.proofs.PlacingLemmas.{IsPutting-more}
use Rattle.uca_key.proofs.packed_levels.put_blank_levels.Goals as goal

pub levels-preserved : goal.levels-preserved
levels-preserved c =
    let split = later-next c.args.last c.levels.level (weights_of c.args.reading.now) (nfd (chars c.args.reading.now.text.now)) c.levels-test.true in
    let putting = IsPutting-more _ _ _ _ _ _ c.levels.invariant.putting _ _ _ _ c.requires.size split c.put_later-next.ensures in
    record {
      first = omega arith;
      last = omega (arith, c.levels-test.true);
      putting = putting;
    }
