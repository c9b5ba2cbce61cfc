use Rattle.std.proofs.Common.{◌≤◌, chars}
use Rattle.std.specs.Str.Iter.{chars_rest}
use Rattle.arrayvec.specs.ArrayVec.{array_vec_len}
use Rattle.uca_weights.specs.declared.limits.TheConstants.{MAX_LOOKAHEAD}
use Rattle.uca_window.specs.Segment.{IsOpen}
use Rattle.uca_window.specs.PassageSource.{StandsIn}
use Rattle.uca_match.proofs.TextLemmas.{IsRead}
use Rattle.uca_match.proofs.stretch.read_stretch.Given as goal

abbrev pub invariant-characters : goal.invariant-characters
invariant-characters l = record {
  stands : StandsIn l.text (chars_rest l.left);
  read : IsRead (chars l.text) (chars (chars_rest l.left)) l.points.items;
  segments : IsOpen l.closed l.points.items;
  few : array_vec_len l.points ≤ MAX_LOOKAHEAD;
}
