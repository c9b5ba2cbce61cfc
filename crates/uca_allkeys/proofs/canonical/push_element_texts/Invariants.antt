use Rattle.std.proofs.Common.{◌≡◌, ◌≤◌, ◌+◌, ◌*◌, ◌++◌, length, drop, flat_map}
use Rattle.uca_model.specs.CanonicalText.{element_text}
use Rattle.uca_allkeys.proofs.canonical.push_element_texts.Given as goal

-- what is written and the text of what is left is the text of all
abbrev pub invariant-loop-element : goal.invariant-loop-element
invariant-loop-element l = record {
  text : l.line.items ++ flat_map element_text (drop l.element-index l.elements) ≡ l.fn.line.items ++ flat_map element_text l.elements;
  grows : length l.line.items + 17 * length (drop l.element-index l.elements) ≤ length l.fn.line.items + 17 * length l.elements;
}
