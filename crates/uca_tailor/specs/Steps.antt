-- What the results of the steps of tailoring mean, in the terms of tailoring.
use Rattle.std.specs.Prelude.{◌≡◌, List, Option, Some, Result, Err, MatchOption}
use Rattle.uca_weights.specs.declared.element.Element.{Element}
use Rattle.uca_model.specs.Table.{ElementTable}
use Rattle.uca_model.specs.Tailoring as tailoring
use Rattle.uca_tailor.specs.declared.faults.TailorCause.{TailorCause}
use Rattle.uca_tailor.specs.Faults.{reported_cause}

abbrev pub anchor_as : List Element → Element → tailoring.Anchor
anchor_as before last = record { before = before; last = last }

abbrev pub placed_as : List Element → ElementTable → tailoring.Placed
placed_as base t = record { base = base; table = t }

abbrev pub related_as : ElementTable → List Element → tailoring.Related
related_as t anchor = record { table = t; anchor = anchor }

-- there is this fault; an allocation failure says nothing about it
abbrev pub Reports : Option tailoring.TailorCause → TailorCause → Type 0
Reports fault cause = MatchOption (reported_cause cause) (Unit {0}) (λ c. fault ≡ Some c)

-- a step is refused for this cause; an allocation failure says nothing about it
abbrev pub Refuses : {A : Type 0} → Result A tailoring.TailorCause → TailorCause → Type 0
Refuses says cause = MatchOption (reported_cause cause) (Unit {0}) (λ c. says ≡ Err c)
