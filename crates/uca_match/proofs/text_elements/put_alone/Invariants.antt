use Rattle.std.proofs.Common.{◌≡◌, ◌∷◌, ◌<◌, ◌≤◌, ◌++◌, ℕ, List, chars, length, take}
use Rattle.unicode_normalization.specs.Forms.{nfd}
use Rattle.uca_model.specs.CollationElements.{elements}
use Rattle.uca_model.specs.StandAlone.{joining}
use Rattle.uca_window.specs.PassageSource.{StandsIn}
use Rattle.uca_match.proofs.TextLemmas.{IsSettled}
use Rattle.uca_match.proofs.text_elements.put_alone.Given as goal

-- the elements up to the place, and those of what is left from there, are those of all, if what comes next joins no more than the character before it
-- bears; and so it is one character earlier, where anything does not join that character
abbrev pub invariant-characters : goal.invariant-characters
invariant-characters l = record {
  ahead : ((n : ℕ) (x : List ℕ) → chars l.rest ≡ n ∷ x → joining l.t n ≤ l.bearing) → take l.at l.room ++ elements l.t (nfd (chars l.rest)) ≡ take l.from l.fn.room ++ elements l.t (nfd (chars l.text));
  settled : l.bearing < 2 → IsSettled l.t l.text l.rest l.at l.from l.room (take l.from l.fn.room ++ elements l.t (nfd (chars l.text)));
  kept : take l.from l.room ≡ take l.from l.fn.room;
  later : l.from ≤ l.at;
  within : l.at ≤ length l.room;
  size : length l.room ≡ length l.fn.room;
  stands : StandsIn l.text l.rest;
}

abbrev pub decreases-characters : goal.decreases-characters
decreases-characters l = length l.rest
