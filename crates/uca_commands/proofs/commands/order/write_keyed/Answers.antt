use Rattle.std.proofs.Common.{◌≡◌, ℕ, ◌+◌, ◌<◌, List, [], ◌∷◌, ◌++◌, length, refl, drop, get_or, map, ap, arith, drop_of_length-le}
use Rattle.std.proofs.lemmas.List.{drop_more, length-append, length-drop}
use Rattle.std.proofs.lemmas.Result.{err_from_is_err_and}
use Rattle.uca_io.proofs.BufferLemmas.{accepted-Accepts}
use Rattle.uca_model.specs.Lines.{line_feed}
use Rattle.uca_model.specs.OrderOutput.{text_of_lines}
use Rattle.uca_commands.specs.KeyedLines.{line_of}
use Rattle.uca_commands.specs.declared.keyed_line.KeyedLine.{KeyedLine}
use Rattle.uca_commands.specs.declared.keyed_line.KeyedLines.{KeyedLines}
use Rattle.uca_commands.proofs.SendingLemmas.{Writes-flushed, Writes-more, Writes-none, Writes-stops}
use Rattle.uca_commands.proofs.commands.order.write_keyed.Goals as goal

-- the text of some lines
abbrev text : KeyedLines → List KeyedLine → List ℕ
text of ks = text_of_lines (map (line_of of) ks)

pub loop-keyed-init : goal.loop-keyed-init
loop-keyed-init g c = record {
  writes = Writes-none _ c.new-out.result (text c.args.of.now c.args.lines.now) c.new-out.ensures.waiting c.new-out.ensures.written;
  room = omega (arith, ap length c.new-out.ensures.waiting, c.new-out.ensures.written);
}

-- the next line, and those after it
next : (of : KeyedLines) (ks : List KeyedLine) (i : ℕ) (d : KeyedLine) (line : List ℕ) → i < length ks → line ≡ line_of of (get_or ks i d) → text of (drop i ks) ≡ (line ++ line_feed ∷ []) ++ text of (drop (i + 1) ks)
next of ks i d line within is = rw (is, drop_more ks i d within) refl

pub returns-in_err-send_line : goal.returns-in_err-send_line
returns-in_err-send_line g c =
    let p = err_from_is_err_and c.from_residual.result c.from_residual.ensures.1 in
    rw (p.1, p.2) (Writes-stops c.loop-keyed.invariant.writes (c.line.result.now ++ line_feed ∷ []) (text c.args.of.now (drop (c.loop-keyed.keyed-index + 1) c.args.lines.now)) _ (next c.args.of.now c.args.lines.now c.loop-keyed.keyed-index _ c.line.result.now c.loop-keyed-test.true c.line.ensures) c.in_err-send_line.ensures)

pub loop-keyed-preserved : goal.loop-keyed-preserved
loop-keyed-preserved g c = record {
  writes = Writes-more c.loop-keyed.invariant.writes (c.line.result.now ++ line_feed ∷ []) (text c.args.of.now (drop (c.loop-keyed.keyed-index + 1) c.args.lines.now)) (next c.args.of.now c.args.lines.now c.loop-keyed.keyed-index _ c.line.result.now c.loop-keyed-test.true c.line.ensures) c.in_ok-send_line.ensures;
  room = omega (arith, accepted-Accepts _ _ _ _ _ c.in_ok-send_line.ensures, length-append c.line.result.now (line_feed ∷ []), length-drop c.loop-keyed.keyed-index c.args.lines.now, length-drop (c.loop-keyed.keyed-index + 1) c.args.lines.now, c.loop-keyed.invariant.room, c.loop-keyed-test.true);
}

pub returns : goal.returns
returns g c = Writes-flushed c.loop-keyed.invariant.writes _ _ c.flush.result (ap (text c.args.of.now) (drop_of_length-le c.args.lines.now c.loop-keyed-test.false)) c.flush.ensures.all c.flush.ensures.empty
