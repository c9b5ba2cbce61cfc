use Rattle.std.proofs.Common.{arith}
use Rattle.uca_window.proofs.RunScan.{short_safe}
use Rattle.uca_window.proofs.passage.is_short_line.Goals as goal

pub returns-then-bytes-le-SHORT : goal.returns-then-bytes-le-SHORT
returns-then-bytes-le-SHORT c = λ short. record {
  utf8 = c.are_short_utf8.ensures short;
  safe = short_safe c.args.bytes.now (c.are_short_utf8.ensures short) (omega (arith, c.if-bytes-le-SHORT.true));
}
