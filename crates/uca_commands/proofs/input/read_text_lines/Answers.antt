use Rattle.std.proofs.Common.{List, ℕ, All, subst}
use Rattle.uca_model.specs.Lines.{lines_of, IsTextLine}
use Rattle.uca_commands.proofs.input.read_text_lines.Goals as goal

pub returns-clause-ok : goal.returns-clause-ok
returns-clause-ok g c = record {
  input = record { given = c.in_ok-bytes.ensures.reads.0; small = c.in_ok-bytes.ensures.reads.1 };
  lines = subst (λ (bytes : List ℕ). All IsTextLine (lines_of bytes)) c.deref.ensures.value c.in_ok-check_lines.ensures;
}
