-- What a handle becomes once the table that it has lent comes back.
use Rattle.std.specs.Prelude.{Some}
use Rattle.std.specs.Borrow.{Lends, MutBor, Fml}
use Rattle.uca_handle.specs.Held.{counted}
use Rattle.uca_handle.specs.declared.handle.Handle.{Handle}
use Rattle.uca_handle.specs.contracts.handle.Handle.{the_row}

-- a handle with another counted table
abbrev pub with_table : Handle → counted.Denot → Handle
with_table h t = record { at = h.at; alloc = h.alloc; table = Some t }

-- h ends with the last table behind r
abbrev pub LendsTable : MutBor Handle → MutBor counted.Denot → Fml
LendsTable h r = Lends the_row counted h r (with_table h.now)
