use Rattle.uca_key.proofs.Common.{◌<◌, ℕ, chars, arith, nfd, levels, weights_of}
use Rattle.uca_key.proofs.PlacingLemmas.{IsPutting-more}
use Rattle.uca_key.proofs.PackedPieces.{later-next}
use Rattle.uca_key.proofs.packed_levels.put_packed_levels.Goals as goal

pub put_held-requires-clause-within : goal.put_held-requires-clause-within
put_held-requires-clause-within c = (c.requires.holds c.in-Some.held c.in-Some.is).0

pub each-preserved : goal.each-preserved
each-preserved c =
    let top : ℕ = levels c.args.reading.now.settings.strength in
    let more : c.each.level < top = omega (arith, c.levels-last.ensures, c.each-test.true) in
    let split = later-next top c.each.level (weights_of c.args.reading.now) (nfd (chars c.args.reading.now.text.now)) more in
    record {
      first = omega arith;
      last = omega (arith, more);
      putting = IsPutting-more _ _ _ _ _ _ c.each.invariant.putting _ _ _ _ c.requires.size split c.put_again-next-in-each.ensures;
    }
