-- What the exports report over texts that were checked before.
use Rattle.std.specs.Prelude.{ℕ, ℤ, Option, Some, None, Result}
use Rattle.std.specs.declared.cmp.Ordering.{Ordering}
use Rattle.uca_handle.specs.declared.faults.KeyFault.{KeyFault}
use Rattle.uca_c.specs.Reports.{key_report, order_number}
use Rattle.uca_c.specs.declared.numbers.TheConstants.{OK, CLOSED}

-- an order is found, unless the collator has no table
abbrev pub order_status : Option Ordering → ℕ
order_status (Some _) = OK
order_status None = CLOSED

abbrev pub key_status : Result ℕ KeyFault → ℕ
key_status outcome = (key_report outcome).status

-- what a result is written to holds after the call
abbrev pub found_order_after : ℤ → Option Ordering → ℤ
found_order_after before (Some order) = order_number order
found_order_after before None = before
