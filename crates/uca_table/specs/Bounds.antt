-- How a table is tested for well-formedness: by the highest and lowest weights of its elements.
use Rattle.std.specs.Prelude.{Bool, false, max, not, ◌==◌, ◌||◌, ◌&&◌, nat_le, nat_lt, if◌then◌else◌}
use Rattle.uca_weights.specs.declared.element.Element.{Element}
use Rattle.uca_weights.specs.Element.{has_primary, is_variable}
use Rattle.uca_model.specs.WellFormed.{Condition, wf1, wf2, wf3, wf4, wf5, skips_a_level, is_marked_in_vain}
use Rattle.uca_table.specs.declared.well_formed.Bounds.{Bounds}
use Rattle.uca_table.specs.declared.well_formed.WellFormed.{WellFormed}
use Rattle.uca_table.specs.declared.well_formed.WellFormed.TheVariants.{WF1, WF2, WF3, WF4, WF5}

abbrev pub condition_of : WellFormed → Condition
condition_of WF1 = wf1
condition_of WF2 = wf2
condition_of WF3 = wf3
condition_of WF4 = wf4
condition_of WF5 = wf5

-- the bounds with those of one more element
abbrev pub bounded : Bounds → Element → Bounds
bounded b e = record {
  secondary = if has_primary e then max b.secondary e.l2 else b.secondary;
  tertiary = if has_primary e || not (e.l2 == 0) then max b.tertiary e.l3 else b.tertiary;
  lowest = if is_variable e && (b.lowest == 0 || nat_lt e.l1 b.lowest) then e.l1 else b.lowest;
  highest = if is_variable e then max b.highest e.l1 else b.highest;
}

-- the bounds of no element
abbrev pub unbounded : Bounds
unbounded = record { secondary = 0; tertiary = 0; lowest = 0; highest = 0 }

-- an element breaks one of the first four conditions
abbrev pub is_against : Bounds → WellFormed → Element → Bool
is_against b WF1 e = skips_a_level e
is_against b WF2 e = not (has_primary e) && not (e.l2 == 0) && nat_le e.l2 b.secondary || not (has_primary e) && e.l2 == 0 && not (e.l3 == 0) && nat_le e.l3 b.tertiary
is_against b WF3 e = is_marked_in_vain e
is_against b WF4 e = not (is_variable e) && (not (b.lowest == 0) && nat_le b.lowest e.l1) && nat_le e.l1 b.highest
is_against b WF5 e = false
