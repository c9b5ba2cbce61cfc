use Rattle.std.proofs.Common.{◌≡◌, ℕ, List, [], ◌∷◌, length, All, sym, ap, subst, arith, eqb-true}
use Rattle.std.proofs.lemmas.List.{nil_from_length}
use Rattle.std.proofs.lemmas.List.Elements.{All-head, All-tail}
use Rattle.std.proofs.lemmas.Result.{err_from_is_err_and}
use Rattle.uca_model.specs.CompareOutput.{compare_line, compare_each}
use Rattle.uca_model.specs.Lines.{lines_of, IsTextLine}
use Rattle.uca_commands.proofs.SendingLemmas.{Writes-flushed, Writes-more, Writes-none, Writes-stops}
use Rattle.uca_commands.proofs.commands.compare.write_orders.Goals as goal

pub loop-before-init : goal.loop-before-init
loop-before-init g c =
    let first : List ℕ = c.first_line.result.0.now in let others : List ℕ = c.first_line.result.1.now in
    let texts : All IsTextLine (first ∷ lines_of others) = subst (All IsTextLine) c.first_line.ensures.parts c.requires.texts in
    record {
      writes = rw c.first_line.ensures.parts (Writes-none _ c.new-out.result (compare_each c.args.t.now c.args.s first (lines_of others)) c.new-out.ensures.waiting c.new-out.ensures.written);
      text = All-head IsTextLine first (lines_of others) texts;
      texts = All-tail IsTextLine first (lines_of others) texts;
      room = omega (arith, ap length c.new-out.ensures.waiting, c.new-out.ensures.written, c.first_line.ensures.shorter);
    }

pub send_order-requires-clause-line : goal.send_order-requires-clause-line
send_order-requires-clause-line g c =
    All-head IsTextLine c.first_line-in-loop-before.result.0.now (lines_of c.first_line-in-loop-before.result.1.now) (subst (All IsTextLine) c.first_line-in-loop-before.ensures.parts c.loop-before.invariant.texts)

pub loop-before-preserved : goal.loop-before-preserved
loop-before-preserved g c =
    let line : List ℕ = c.first_line-in-loop-before.result.0.now in let rest : List ℕ = c.first_line-in-loop-before.result.1.now in
    let texts : All IsTextLine (line ∷ lines_of rest) = subst (All IsTextLine) c.first_line-in-loop-before.ensures.parts c.loop-before.invariant.texts in
    record {
      writes = Writes-more c.loop-before.invariant.writes (compare_line c.args.t.now c.args.s c.loop-before.before.now line) (compare_each c.args.t.now c.args.s line (lines_of rest))
          (ap (compare_each c.args.t.now c.args.s c.loop-before.before.now) c.first_line-in-loop-before.ensures.parts) c.in_ok-send_order.ensures.sends;
      text = All-head IsTextLine line (lines_of rest) texts;
      texts = All-tail IsTextLine line (lines_of rest) texts;
      room = omega (arith, c.in_ok-send_order.ensures.small, c.first_line-in-loop-before.ensures.shorter, c.loop-before.invariant.room);
    }

pub returns-in_err-send_order : goal.returns-in_err-send_order
returns-in_err-send_order g c =
    let line : List ℕ = c.first_line-in-loop-before.result.0.now in let rest : List ℕ = c.first_line-in-loop-before.result.1.now in
    let p = err_from_is_err_and c.from_residual.result c.from_residual.ensures.1 in
    rw (p.1, p.2) (Writes-stops c.loop-before.invariant.writes (compare_line c.args.t.now c.args.s c.loop-before.before.now line) (compare_each c.args.t.now c.args.s line (lines_of rest)) _
    (ap (compare_each c.args.t.now c.args.s c.loop-before.before.now) c.first_line-in-loop-before.ensures.parts) c.in_err-send_order.ensures.sends)

pub returns : goal.returns
returns g c =
    let left : List ℕ = c.loop-before.left.now in
    let none : left ≡ [] = nil_from_length left (eqb-true (length left) 0 (sym c.loop-before-test.ensures)) in
    Writes-flushed c.loop-before.invariant.writes _ _ c.flush.result (ap (λ l. compare_each c.args.t.now c.args.s c.loop-before.before.now (lines_of l)) none) c.flush.ensures.all c.flush.ensures.empty
