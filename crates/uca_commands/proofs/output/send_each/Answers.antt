use Rattle.std.proofs.Common.{◌≡◌, ℕ, ◌+◌, ◌-◌, List, ◌++◌, false, length, drop, get_or, flat_map, sym, ap, ◌∙◌, arith}
use Rattle.std.proofs.lemmas.List.{drop_more, length-drop}
use Rattle.std.proofs.lemmas.Result.{err_from_is_err_and}
use Rattle.uca_weights.specs.declared.element.Element.{Element}
use Rattle.uca_io.specs.OutputBuffer.{accepted}
use Rattle.uca_io.proofs.BufferLemmas.{accepted-Accepts}
use Rattle.uca_model.specs.CanonicalText.{element_text}
use Rattle.uca_model.proofs.CanonicalLines.{length-element_text}
use Rattle.uca_io.proofs.SendLemmas.{sent_more, stopped_there}
use Rattle.uca_commands.proofs.output.send_each.Goals as goal

-- an element that occurs nowhere
abbrev none : Element
none = record { starred = false; l1 = 0; l2 = 0; l3 = 0 }

pub returns-in_err-write : goal.returns-in_err-write
returns-in_err-write g c =
    let p = err_from_is_err_and c.from_residual.result c.from_residual.ensures.1 in
    let es : List Element = c.args.elements.now in let i : ℕ = c.loop-element.element-index in
    let piece : List ℕ = element_text (get_or es i none) in let rest : List ℕ = flat_map element_text (drop (i + 1) es) in
    let here : flat_map element_text (drop i es) ≡ piece ++ rest = ap (flat_map element_text) (drop_more es i none c.loop-element-test.true) in
    let complete : c.loop-element.invariant.sent ++ (piece ++ rest) ≡ flat_map element_text es = ap (λ l. c.loop-element.invariant.sent ++ l) (sym here) ∙ c.loop-element.invariant.complete in
    rw (p.1, p.2) (stopped_there _ _ _ c.args.out.now c.loop-element.out c.loop-element.invariant.sent piece rest _ _ _ c.loop-element.invariant.sends complete c.element_text.ensures c.in_err-write.ensures.all)

pub loop-element-preserved : goal.loop-element-preserved
loop-element-preserved g c =
    let es : List Element = c.args.elements.now in let i : ℕ = c.loop-element.element-index in
    let piece : List ℕ = element_text (get_or es i none) in let rest : List ℕ = flat_map element_text (drop (i + 1) es) in
    let here : flat_map element_text (drop i es) ≡ piece ++ rest = ap (flat_map element_text) (drop_more es i none c.loop-element-test.true) in
    let complete : c.loop-element.invariant.sent ++ (piece ++ rest) ≡ flat_map element_text es = ap (λ l. c.loop-element.invariant.sent ++ l) (sym here) ∙ c.loop-element.invariant.complete in
    let more = sent_more _ _ _ c.args.out.now c.loop-element.out c.write.new.self c.loop-element.invariant.sent piece rest _ _ c.loop-element.invariant.sends complete c.element_text.ensures c.in_ok-write.ensures.all in
    let size : accepted c.write.new.self ≡ accepted c.loop-element.out + 17 = accepted-Accepts _ _ _ _ _ c.in_ok-write.ensures.all ∙ ap (λ n. accepted c.loop-element.out + n) (ap length c.element_text.ensures ∙ length-element_text (get_or es i none)) in
    let left : length (drop i es) ≡ length es - i = length-drop i es in
    let less : length (drop (i + 1) es) ≡ length es - (i + 1) = length-drop (i + 1) es in
    record {
      sent = c.loop-element.invariant.sent ++ piece;
      sends = more.0;
      complete = more.1;
      room = omega (arith, size, left, less, c.loop-element.invariant.room, c.loop-element-test.true);
    }
