use Rattle.std.proofs.Common.{◌≡◌, length, sym, subst, arith}
use Rattle.std.proofs.lemmas.Bool.Decides.{nat_tests}
use Rattle.uca_model.specs.Lines.{lines_of}
use Rattle.uca_commands.specs.Input.{HasInputFault}
use Rattle.uca_commands.proofs.LinesLemmas.{HasFineFront-more, HasFineFront-end, HasInputFault-next}
use Rattle.uca_commands.proofs.input.check_lines.Goals as goal

pub returns : goal.returns
returns c =
    let none : length c.loop-left.left.now ≡ 0 = grind (arith, nat_tests) in
    HasFineFront-end c.args.bytes.now c.loop-left.left.now c.loop-left.number c.loop-left.invariant.front none

pub returns-in-Err : goal.returns-in-Err
returns-in-Err c =
    subst (HasInputFault (lines_of c.args.bytes.now)) (sym c.fault_at.ensures)
    (HasInputFault-next c.in-Err.fault _ _ _ c.first_line.result.0.now c.loop-left.number c.loop-left.invariant.front c.first_line.ensures.parts c.in-Err.ensures)

pub loop-left-preserved : goal.loop-left-preserved
loop-left-preserved c = record {
  front = HasFineFront-more _ _ _ c.first_line.result.0.now c.loop-left.number c.loop-left.invariant.front c.first_line.ensures.parts c.in-Ok.ensures.0;
  small = omega (arith, c.loop-left.invariant.small, c.first_line.ensures.shorter);
}
