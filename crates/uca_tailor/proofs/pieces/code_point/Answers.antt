use Rattle.std.proofs.Common.{sym}
use Rattle.uca_model.specs.RuleText.{hex_value}
use Rattle.uca_tailor.proofs.PieceLemmas.{code_point_taken}
use Rattle.uca_tailor.proofs.pieces.code_point.Goals as goal

pub returns : goal.returns
returns c = λ s e. code_point_taken c.args.digits c.in-Some.value c.in-Some-from_u32.c (hex_value c.args.digits 0 c.args.scanner.now.left) s c.args.scanner.now c.hex_value.new.scanner c.args.string.now.items c.push.new.self.items (sym c.in-Some.ensures.value) c.in-Some-from_u32.ensures.value.0 c.in-Some-from_u32.ensures.value.1 e c.in-Some.ensures.scan c.in_ok-push.ensures.items
