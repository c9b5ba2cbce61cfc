use Rattle.std.proofs.Common.{List, ℕ, flat_map, ap, subst}
use Rattle.std.specs.FinMap.{entries}
use Rattle.uca_io.specs.OutputBuffer.{Accepts}
use Rattle.uca_model.specs.CanonicalText.{range_line, entry_line}
use Rattle.uca_io.proofs.SendLemmas.{both_sent}
use Rattle.uca_allkeys.proofs.canonical.send_table.Goals as goal

pub returns-clause-lines : goal.returns-clause-lines
returns-clause-lines g c =
    let ranges : List ℕ = flat_map range_line c.args.table.now.ranges in
    let sent : Accepts (g.W.Writer.state c.args.writer.now) c.args.out.now (g.W.Writer.state c.send_ranges.new.writer) c.send_ranges.new.out ranges
    = subst (λ (l : List ℕ). Accepts (g.W.Writer.state c.args.writer.now) c.args.out.now (g.W.Writer.state c.send_ranges.new.writer) c.send_ranges.new.out l) (ap (flat_map range_line) c.ranges-2.ensures.value) c.in_ok-send_ranges.ensures.lines in
    both_sent _ _ _ c.args.out.now c.send_ranges.new.out c.send_entries.new.out ranges (flat_map entry_line (entries c.args.table.now.entries)) c.send_entries.result sent c.send_entries.ensures.lines
