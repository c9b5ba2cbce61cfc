use Rattle.std.proofs.Common.{◌≡◌, chars, length}
use denote.Text.{Utf8}
use denote.Shadow.{shadow}
use Rattle.uca_model.specs.Prefix.{is_complete}
use Rattle.uca_window.specs.Passage.{text_of}
use Rattle.uca_match.proofs.completeness.is_complete.Given as goal

abbrev pub invariant-loop-front : goal.invariant-loop-front
invariant-loop-front l = shadow (Utf8 l.left) × (is_complete l.fn.t (chars l.left) ≡ is_complete l.fn.t (text_of l.fn.p))

abbrev pub decreases-loop-front : goal.decreases-loop-front
decreases-loop-front l = length (chars l.left)
