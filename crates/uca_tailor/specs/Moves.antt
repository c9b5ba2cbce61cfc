-- Gaps at all three levels, and elements that were added before some of them were made.
use Rattle.std.specs.Prelude.{ℕ, ◌≤◌, min, ◌==◌, [], ◌∷◌, ◌++◌, length, drop, if◌then◌else◌}
use Rattle.uca_weights.specs.declared.element.Element.{Element}
use Rattle.uca_tailor.specs.declared.moves.Moves.{Moves}
use Rattle.uca_tailor.specs.declared.moves.Stamp.{Stamp}
use Rattle.uca_tailor.specs.Shifts.{moved}

-- before the first gap, and after all that were made
abbrev pub start : Stamp
start = record { first = 0; second = 0; third = 0 }

abbrev pub now_of : Moves → Stamp
now_of m = record { first = length m.first; second = length m.second; third = length m.third }

-- this many gaps were made
pub record IsPast (m : Moves) (after : Stamp) : Type 0 where
  pub first : after.first ≤ length m.first
  pub second : after.second ≤ length m.second
  pub third : after.third ≤ length m.third

-- one more gap at a level
abbrev pub with_move : ℕ → ℕ → Moves → Moves
with_move level w m = record {
  first = if level == 1 then m.first ++ w ∷ [] else m.first;
  second = if level == 2 then m.second ++ w ∷ [] else m.second;
  third = if level == 3 then m.third ++ w ∷ [] else m.third;
}

-- an element, moved by the gaps that were made since
abbrev pub moved_element : Moves → Stamp → Element → Element
moved_element m after e = record { starred = e.starred; l1 = moved 1 (drop after.first m.first) e.l1; l2 = moved 2 (drop after.second m.second) e.l2; l3 = moved 3 (drop after.third m.third) e.l3 }

-- an element whose weights are cut to sixteen bits
abbrev pub cut : Element → Element
cut e = record { starred = e.starred; l1 = min e.l1 65535; l2 = min e.l2 65535; l3 = min e.l3 65535 }
