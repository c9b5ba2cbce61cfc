-- How the parts of a table's text are gone through, one after the other.
use Rattle.std.proofs.Common.{◌≡◌, ℕ, ◌<◌, List, [], ◌∷◌, ◌++◌, length, arith}
use Rattle.std.proofs.lemmas.Bool.{cond-true, lt-ltb}
use Rattle.std.specs.Prelude.{Ok}
use Rattle.uca_weights.specs.declared.element.Element.{Element}
use Rattle.uca_weights.specs.declared.limits.TheConstants.{MAX_ELEMENTS}
use Rattle.uca_model.specs.TableText.{skip_blanks, element, elements_after}

-- one part more of an entry: where others follow it, it has to be an element
pub part-added : (es : List Element) (text : List ℕ) (parts : List (List ℕ)) (e : Element) → 0 < length parts → element (skip_blanks text) ≡ Ok e → length es < MAX_ELEMENTS → elements_after es (text ∷ parts) ≡ elements_after (es ++ e ∷ []) parts
part-added es text [] e some is few = absurd (omega arith)
part-added es text (next ∷ more) e some is few = rw is (cond-true _ _ _ (lt-ltb (length es) MAX_ELEMENTS few))
