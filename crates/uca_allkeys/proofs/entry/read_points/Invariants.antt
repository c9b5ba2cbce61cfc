use Rattle.std.proofs.Common.{◌≡◌, [], length}
use Rattle.uca_model.specs.TableText.{words, key_after}
use Rattle.uca_allkeys.proofs.entry.read_points.Given as goal

abbrev pub invariant-loop-word : goal.invariant-loop-word
invariant-loop-word l = key_after l.key.items (words l.rest) ≡ key_after [] (words l.text)

abbrev pub decreases-loop-word : goal.decreases-loop-word
decreases-loop-word l = length l.rest
