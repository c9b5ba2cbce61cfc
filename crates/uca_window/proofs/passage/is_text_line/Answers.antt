use Rattle.uca_window.proofs.RunScan.{ascii_line}
use Rattle.uca_window.proofs.passage.is_text_line.Goals as goal

pub returns-then-is_ascii : goal.returns-then-is_ascii
returns-then-is_ascii c = (λ _. ascii_line c.args.bytes.now c.if-is_ascii.ensures, λ _. c.if-is_ascii.true)
