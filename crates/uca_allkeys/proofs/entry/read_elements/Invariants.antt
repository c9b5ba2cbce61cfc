use Rattle.std.proofs.Common.{◌≡◌, [], length}
use Rattle.std.specs.List.{slice_split}
use Rattle.uca_model.specs.TableText.{is_right_bracket, elements_after}
use Rattle.uca_allkeys.proofs.entry.read_elements.Given as goal

abbrev pub invariant-loop-part : goal.invariant-loop-part
invariant-loop-part l = elements_after l.elements.items (slice_split is_right_bracket l.rest) ≡ elements_after [] (slice_split is_right_bracket l.text)

abbrev pub decreases-loop-part : goal.decreases-loop-part
decreases-loop-part l = length l.rest
