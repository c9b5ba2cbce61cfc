use Rattle.std.proofs.Common.{[], length, refl, ap, arith}
use Rattle.std.proofs.lemmas.List.Elements.{All-head, All-tail}
use Rattle.std.proofs.lemmas.Result.{err_from_is_err_and}
use Rattle.uca_model.specs.Lines.{lines_of, IsTextLine}
use Rattle.uca_commands.specs.Sending.{line_text, lines_text}
use Rattle.uca_commands.proofs.SendingLemmas.{length-line_text, lines_text-parts, StopsOutput-line, Writes-more, Writes-none, Writes-stops}
use Rattle.uca_commands.proofs.output.write_lines.Goals as goal

pub loop-left-init : goal.loop-left-init
loop-left-init g c = record {
  writes = Writes-none _ c.new-out.result (lines_text c.args.form c.args.t.now c.args.s c.args.bytes.now) c.new-out.ensures.waiting c.new-out.ensures.written;
  texts = c.requires.texts;
  room = omega (arith, ap length c.new-out.ensures.waiting, c.new-out.ensures.written);
}

pub send_line-requires-clause-text : goal.send_line-requires-clause-text
send_line-requires-clause-text g c = All-head IsTextLine c.first_line.result.0.now (lines_of c.first_line.result.1.now) (rw c.first_line.ensures.parts at c.loop-left.invariant.texts)

pub returns-in_err-send_line : goal.returns-in_err-send_line
returns-in_err-send_line g c =
    let p = err_from_is_err_and c.from_residual.result c.from_residual.ensures.1 in
    rw (p.1, p.2) (StopsOutput-line c.loop-left.invariant.writes _ c.send_line.new.out (line_text c.args.form c.args.t.now c.args.s c.first_line.result.0.now) (lines_text c.args.form c.args.t.now c.args.s c.first_line.result.1.now) c.in_err-send_line.field-0.0
    (lines_text-parts c.args.form c.args.t.now c.args.s c.loop-left.left.now c.first_line.result.0.now c.first_line.result.1.now c.first_line.ensures.parts) (length-line_text c.args.form c.args.t.now c.args.s c.first_line.result.0.now) c.in_err-send_line.ensures.sends)

pub loop-left-preserved : goal.loop-left-preserved
loop-left-preserved g c = record {
  writes = Writes-more c.loop-left.invariant.writes (line_text c.args.form c.args.t.now c.args.s c.first_line.result.0.now) (lines_text c.args.form c.args.t.now c.args.s c.first_line.result.1.now)
      (lines_text-parts c.args.form c.args.t.now c.args.s c.loop-left.left.now c.first_line.result.0.now c.first_line.result.1.now c.first_line.ensures.parts) c.in_ok-send_line.ensures.sends;
  texts = All-tail IsTextLine c.first_line.result.0.now (lines_of c.first_line.result.1.now) (rw c.first_line.ensures.parts at c.loop-left.invariant.texts);
  room = omega (arith, c.in_ok-send_line.ensures.small, c.first_line.ensures.shorter, c.loop-left.invariant.room);
}

pub returns-in_err-flush : goal.returns-in_err-flush
returns-in_err-flush g c =
    let p = err_from_is_err_and c.from_residual-in_err-flush.result c.from_residual-in_err-flush.ensures.1 in
    rw (p.1, p.2) (Writes-stops c.loop-left.invariant.writes [] (lines_text c.args.form c.args.t.now c.args.s c.loop-left.left.now) _ refl c.in_err-flush.ensures.all)
