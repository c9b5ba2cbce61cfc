use Rattle.uca_key.proofs.Common.{◌<◌, ◌^◌, [], ◌∷◌, refl, arith, err_from_is_err_and, levels}
use Rattle.uca_key.proofs.KeyPieces.{IsSending-room, IsSending-more, IsSending-stops, IsSending-ends, tail-none, tail-later}
use Rattle.uca_key.proofs.streaming.send_key.Goals as goal

pub send_level-requires-clause-count : goal.send_level-requires-clause-count
send_level-requires-clause-count g c = IsSending-room _ _ _ _ _ _ c.each.invariant.sending _ _ (2 ^ 128) refl c.requires.count

pub returns-in_err-send_level : goal.returns-in_err-send_level
returns-in_err-send_level g c =
    let p = err_from_is_err_and c.from_residual.result c.from_residual.ensures.1 in
    rw (p.1, p.2) (IsSending-stops _ _ _ _ _ _ c.each.invariant.sending _ _ _ _ refl c.in_err-send_level.ensures.bytes)

pub returns-then-level-last : goal.returns-then-level-last
returns-then-level-last g c =
    let one = IsSending-more _ _ _ _ _ _ c.each.invariant.sending _ _ _ _ refl c.in_ok-send_level.ensures.bytes in
    IsSending-ends _ _ _ _ _ _ one (tail-none _ c.each.level _ (omega (arith, c.levels-last.ensures, c.if-level-last.true)))

pub send_separator-requires : goal.send_separator-requires
send_separator-requires g c =
    let one = IsSending-more _ _ _ _ _ _ c.each.invariant.sending _ _ _ _ refl c.in_ok-send_level.ensures.bytes in
    let more : c.each.level < levels c.args.reading.now.settings.strength = omega (arith, c.each.invariant.last, c.levels-last.ensures, c.if-level-last.false) in
    IsSending-room _ _ _ _ _ _ one (0 ∷ 0 ∷ []) _ (2 ^ 128) (tail-later _ c.each.level _ more) c.requires.count

pub returns-in_err-send_separator : goal.returns-in_err-send_separator
returns-in_err-send_separator g c =
    let p = err_from_is_err_and c.from_residual-in_err-send_separator.result c.from_residual-in_err-send_separator.ensures.1 in
    let one = IsSending-more _ _ _ _ _ _ c.each.invariant.sending _ _ _ _ refl c.in_ok-send_level.ensures.bytes in
    let more : c.each.level < levels c.args.reading.now.settings.strength = omega (arith, c.each.invariant.last, c.levels-last.ensures, c.if-level-last.false) in
    rw (p.1, p.2) (IsSending-stops _ _ _ _ _ _ one _ (0 ∷ 0 ∷ []) _ _ (tail-later _ c.each.level _ more) c.in_err-send_separator.ensures)

pub each-preserved : goal.each-preserved
each-preserved g c =
    let one = IsSending-more _ _ _ _ _ _ c.each.invariant.sending _ _ _ _ refl c.in_ok-send_level.ensures.bytes in
    let more : c.each.level < levels c.args.reading.now.settings.strength = omega (arith, c.each.invariant.last, c.levels-last.ensures, c.if-level-last.false) in
    record {
      first = omega arith;
      last = omega (arith, more);
      holds = c.send_level.ensures.holds;
      sending = IsSending-more _ _ _ _ _ _ one _ _ (0 ∷ 0 ∷ []) _ (tail-later _ c.each.level _ more) c.in_ok-send_separator.ensures;
    }
