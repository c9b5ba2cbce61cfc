use Rattle.uca_key.proofs.Common.{◌<◌, ℕ, [], ◌∷◌, refl, arith, levels}
use Rattle.uca_key.proofs.KeyPieces.{tail-later, tail-none}
use Rattle.uca_key.proofs.PlacingLemmas.{IsPutting-more, IsPutting-ends}
use Rattle.uca_key.proofs.placing.put_levels.Goals as goal

pub returns-then-level-last-clause-bytes : goal.returns-then-level-last-clause-bytes
returns-then-level-last-clause-bytes c =
    let one = IsPutting-more _ _ _ _ _ _ c.each.invariant.putting _ _ _ _ c.requires.size refl c.put_level_of-next.ensures.bytes in
    IsPutting-ends _ _ _ _ _ _ one (tail-none _ c.each.level _ (omega (arith, c.levels-last.ensures, c.if-level-last.true)))

pub each-preserved : goal.each-preserved
each-preserved c =
    let top : ℕ = levels c.args.reading.now.settings.strength in
    let more : c.each.level < top = omega (arith, c.each.invariant.last, c.levels-last.ensures, c.if-level-last.false) in
    let one = IsPutting-more _ _ _ _ _ _ c.each.invariant.putting _ _ _ _ c.requires.size refl c.put_level_of-next.ensures.bytes in
    record {
      first = omega arith;
      last = omega (arith, more);
      holds = c.put_level_of-next.ensures.holds;
      putting = IsPutting-more _ _ _ _ _ _ one _ _ (0 ∷ 0 ∷ []) _ c.requires.size (tail-later top c.each.level _ more) c.put_bytes-next.ensures;
    }
