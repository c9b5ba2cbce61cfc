use Rattle.std.proofs.Common.{sym, subst}
use Rattle.std.specs.Str.{chars}
use Rattle.std.proofs.lemmas.Str.{IsUtf8-from_ascii}
use Rattle.uca_model.specs.SafeText.{IsSafe}
use Rattle.uca_window.proofs.RunScan.{ascii_safe}
use Rattle.uca_window.proofs.passage.Passage.of_ascii.Goals as goal

pub from_utf8_unchecked-requires : goal.from_utf8_unchecked-requires
from_utf8_unchecked-requires c = IsUtf8-from_ascii c.args.bytes.now c.if-not-is_ascii.ensures

pub of_safe-requires : goal.of_safe-requires
of_safe-requires c = subst (λ bs. IsSafe (chars bs)) (sym c.from_utf8_unchecked.ensures) (ascii_safe c.args.bytes.now c.if-not-is_ascii.ensures)
