use Rattle.std.proofs.Common.{◌≡◌, ◌≤◌, ◌++◌, IsUtf8, chars, length, take}
use Rattle.unicode_normalization.specs.Forms.{nfd}
use Rattle.uca_model.specs.CollationElements.{elements}
use Rattle.uca_model.specs.SafeText.{IsSafe}
use Rattle.uca_match.proofs.text_elements.read_text.Given as goal

abbrev pub invariant-stretches : goal.invariant-stretches
invariant-stretches l = record {
  same : take l.at l.room ++ elements l.t (nfd (chars l.rest)) ≡ elements l.t (nfd (chars l.text));
  within : l.at ≤ length l.room;
  size : length l.room ≡ length l.fn.room;
  utf8 : IsUtf8 l.rest;
  safe : IsSafe (chars l.rest);
}

abbrev pub decreases-stretches : goal.decreases-stretches
decreases-stretches l = length l.rest
