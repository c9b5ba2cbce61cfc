use Rattle.std.proofs.Common.{◌≡◌, ◌++◌, length}
use Rattle.uca_match.specs.TextLeft.{elements_left}
use Rattle.uca_match.proofs.text_elements.TextElements.push_all.Given as goal

abbrev pub invariant-each : goal.invariant-each
invariant-each l = record {
  same : l.out.items ++ elements_left l.self ≡ l.fn.out.items ++ elements_left l.fn.self;
  size : length l.room ≡ 64;
}

abbrev pub decreases-each : goal.decreases-each
decreases-each l = length (elements_left l.self)
