use Rattle.std.proofs.Common.{◌≡◌, ℕ, ◌+◌, ◌≤◌, List, ◌++◌, length, drop, get_or, flat_map, sym, ap, ◌∙◌, arith}
use Rattle.std.proofs.lemmas.List.{drop_more}
use Rattle.std.proofs.lemmas.Result.{err_from_is_err_and}
use Rattle.uca_weights.specs.declared.range.Range.{Range}
use Rattle.uca_io.specs.OutputBuffer.{accepted}
use Rattle.uca_io.proofs.BufferLemmas.{accepted-Accepts}
use Rattle.uca_model.specs.CanonicalText.{range_line}
use Rattle.uca_io.proofs.SendLemmas.{sent_more, stopped_there}
use Rattle.uca_allkeys.proofs.canonical.send_ranges.Goals as goal

pub returns-in_err-write-clause-lines : goal.returns-in_err-write-clause-lines
returns-in_err-write-clause-lines g c =
    let p = err_from_is_err_and c.from_residual.result c.from_residual.ensures.1 in
    let ranges : List Range = c.args.ranges.now in let i : ℕ = c.loop-range.range-index in
    let none : Range = record { first = 0; last = 0; base = 0 } in
    let line : List ℕ = range_line (get_or ranges i none) in let rest : List ℕ = flat_map range_line (drop (i + 1) ranges) in
    let here : flat_map range_line (drop i ranges) ≡ line ++ rest = ap (flat_map range_line) (drop_more ranges i none c.loop-range-test.true) in
    let complete : c.loop-range.invariant.sent ++ (line ++ rest) ≡ flat_map range_line ranges = ap (λ l. c.loop-range.invariant.sent ++ l) (sym here) ∙ c.loop-range.invariant.complete in
    rw (p.1, p.2) (stopped_there _ _ _ c.args.out.now c.loop-range.out c.loop-range.invariant.sent line rest _ c.as_slice.result.now _ c.loop-range.invariant.sends complete (c.as_slice.ensures.value ∙ c.range_line.ensures) c.in_err-write.ensures.all)

pub loop-range-preserved : goal.loop-range-preserved
loop-range-preserved g c =
    let ranges : List Range = c.args.ranges.now in let i : ℕ = c.loop-range.range-index in
    let none : Range = record { first = 0; last = 0; base = 0 } in
    let line : List ℕ = range_line (get_or ranges i none) in let rest : List ℕ = flat_map range_line (drop (i + 1) ranges) in
    let here : flat_map range_line (drop i ranges) ≡ line ++ rest = ap (flat_map range_line) (drop_more ranges i none c.loop-range-test.true) in
    let complete : c.loop-range.invariant.sent ++ (line ++ rest) ≡ flat_map range_line ranges = ap (λ l. c.loop-range.invariant.sent ++ l) (sym here) ∙ c.loop-range.invariant.complete in
    let more = sent_more _ _ _ c.args.out.now c.loop-range.out c.write.new.self c.loop-range.invariant.sent line rest _ c.as_slice.result.now c.loop-range.invariant.sends complete (c.as_slice.ensures.value ∙ c.range_line.ensures) c.in_ok-write.ensures.all in
    let size : accepted c.write.new.self ≡ accepted c.loop-range.out + length c.as_slice.result.now = accepted-Accepts _ _ _ _ c.as_slice.result.now c.in_ok-write.ensures.all in
    let fits : length c.as_slice.result.now ≤ 4096 = c.as_slice.ensures.fits in
    record {
      sent = c.loop-range.invariant.sent ++ line;
      sends = more.0;
      complete = more.1;
      room = omega (arith, size, fits, c.loop-range.invariant.room);
    }
