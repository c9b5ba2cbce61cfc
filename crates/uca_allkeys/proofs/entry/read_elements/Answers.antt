use Rattle.std.proofs.Common.{List, ℕ, sym, ap, ◌∙◌}
use Rattle.std.specs.List.{slice_split}
use Rattle.uca_weights.specs.declared.element.Element.{Element}
use Rattle.uca_model.specs.TableText.{is_right_bracket, elements_after}
use Rattle.uca_io.proofs.LineLemmas.{some_parts}
use Rattle.uca_allkeys.proofs.entry.read_elements.Goals as goal

pub loop-part-preserved : goal.loop-part-preserved
loop-part-preserved c =
    let es : List Element = c.loop-part.elements.items in
    let others : List (List ℕ) = slice_split is_right_bracket c.in-Some.others.now in
    sym (c.in-Ok.ensures others (some_parts is_right_bracket c.in-Some.others.now)) ∙ ap (elements_after es) (sym c.in-Some.ensures.0) ∙ c.loop-part.invariant

pub returns-in-Err-clause-value : goal.returns-in-Err-clause-value
returns-in-Err-clause-value c =
    let es : List Element = c.loop-part.elements.items in
    let others : List (List ℕ) = slice_split is_right_bracket c.in-Some.others.now in
    sym c.loop-part.invariant ∙ ap (elements_after es) c.in-Some.ensures.0 ∙ c.in-Err.ensures others (some_parts is_right_bracket c.in-Some.others.now)
