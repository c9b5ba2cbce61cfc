use Rattle.uca_model.proofs.TextLines.{each-line}
use Rattle.uca_commands.proofs.input.is_safe_text.Goals as goal

pub returns : goal.returns
returns c = λ safe. each-line c.args.bytes.now (c.is_text_line.ensures.0 safe)
