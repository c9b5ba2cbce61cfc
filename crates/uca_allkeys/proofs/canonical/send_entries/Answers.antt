use Rattle.std.proofs.Common.{◌≡◌, ℕ, ◌+◌, ◌<◌, ◌≤◌, List, [], ◌∷◌, ◌++◌, length, flat_map, sym, subst, ap, ◌∙◌, arith}
use Rattle.std.proofs.lemmas.Result.{err_from_is_err_and}
use Rattle.std.proofs.lemmas.List.Elements.{All-tail}
use Rattle.std.specs.List.{All}
use Rattle.std.specs.FinMap.{entries}
use Rattle.uca_weights.specs.declared.element.Element.{Element}
use Rattle.uca_io.specs.OutputBuffer.{accepted}
use Rattle.uca_io.proofs.BufferLemmas.{Accepts-none, accepted-Accepts}
use Rattle.uca_model.specs.Table.{IsEntry}
use Rattle.uca_model.specs.CanonicalText.{entry_line}
use Rattle.uca_io.proofs.SendLemmas.{sent_more, stopped_there}
use Rattle.uca_allkeys.proofs.canonical.send_entries.Goals as goal

pub loop-key-init : goal.loop-key-init
loop-key-init g c =
    let all : c.into_iter-key-iterator.result ≡ entries c.args.table.now.entries = c.into_iter-key-iterator.ensures.into_iter_gives ∙ c.entries-key-items.ensures.value in
    let few : length c.into_iter-key-iterator.result < 18446744073709551616 = rw all c.entries-key-items.ensures.few in
    record {
      can = tt;
      finite = tt;
      sent = [];
      sends = Accepts-none _ _;
      complete = ap (flat_map entry_line) all;
      valid = subst (λ (es : List (List ℕ × List Element)). All IsEntry es) (sym all) c.show_entries.ensures;
      room = omega (arith, few, c.requires);
    }

pub loop-key-preserved : goal.loop-key-preserved
loop-key-preserved g c =
    let entry : List ℕ × List Element = (c.in-Some.key.items, c.in-Some.elements.now) in
    let steps : c.loop-key.key-iterator ≡ entry ∷ c.next.new.self = c.in-Some.ensures.steps in
    let line : List ℕ = entry_line entry in let rest : List ℕ = flat_map entry_line c.next.new.self in
    let is : c.as_slice-in-loop-key.result.now ≡ line = c.as_slice-in-loop-key.ensures.value ∙ c.entry_line.ensures ∙ ap (λ (key : List ℕ). entry_line (key, c.in-Some.elements.now)) c.as_slice.ensures.value in
    let complete : c.loop-key.invariant.sent ++ (line ++ rest) ≡ flat_map entry_line (entries c.args.table.now.entries) = ap (λ (es : List (List ℕ × List Element)). c.loop-key.invariant.sent ++ flat_map entry_line es) (sym steps) ∙ c.loop-key.invariant.complete in
    let more = sent_more _ _ _ c.args.out.now c.loop-key.out c.write.new.self c.loop-key.invariant.sent line rest _ c.as_slice-in-loop-key.result.now c.loop-key.invariant.sends complete is c.in_ok-write.ensures.all in
    let size : accepted c.write.new.self ≡ accepted c.loop-key.out + length c.as_slice-in-loop-key.result.now = accepted-Accepts _ _ _ _ c.as_slice-in-loop-key.result.now c.in_ok-write.ensures.all in
    let fits : length c.as_slice-in-loop-key.result.now ≤ 4096 = c.as_slice-in-loop-key.ensures.fits in
    let count : length c.loop-key.key-iterator ≡ length c.next.new.self + 1 = ap length steps ∙ omega arith in
    let valid : All IsEntry (entry ∷ c.next.new.self) = subst (λ (es : List (List ℕ × List Element)). All IsEntry es) steps c.loop-key.invariant.valid in
    record {
      can = tt;
      finite = tt;
      sent = c.loop-key.invariant.sent ++ line;
      sends = more.0;
      complete = more.1;
      valid = All-tail IsEntry entry c.next.new.self valid;
      room = omega (arith, size, fits, count, c.loop-key.invariant.room);
    }

pub returns-in_err-write-clause-lines : goal.returns-in_err-write-clause-lines
returns-in_err-write-clause-lines g c =
    let p = err_from_is_err_and c.from_residual.result c.from_residual.ensures.1 in
    let entry : List ℕ × List Element = (c.in-Some.key.items, c.in-Some.elements.now) in
    let steps : c.loop-key.key-iterator ≡ entry ∷ c.next.new.self = c.in-Some.ensures.steps in
    let line : List ℕ = entry_line entry in let rest : List ℕ = flat_map entry_line c.next.new.self in
    let is : c.as_slice-in-loop-key.result.now ≡ line = c.as_slice-in-loop-key.ensures.value ∙ c.entry_line.ensures ∙ ap (λ (key : List ℕ). entry_line (key, c.in-Some.elements.now)) c.as_slice.ensures.value in
    let complete : c.loop-key.invariant.sent ++ (line ++ rest) ≡ flat_map entry_line (entries c.args.table.now.entries) = ap (λ (es : List (List ℕ × List Element)). c.loop-key.invariant.sent ++ flat_map entry_line es) (sym steps) ∙ c.loop-key.invariant.complete in
    rw (p.1, p.2) (stopped_there _ _ _ c.args.out.now c.loop-key.out c.loop-key.invariant.sent line rest _ c.as_slice-in-loop-key.result.now _ c.loop-key.invariant.sends complete is c.in_err-write.ensures.all)
