use base.Shift.{Keyless}
use Rattle.std_heap.specs.contracts.Global as Heap
use Rattle.uca_handle.specs.Held.{counted, holds}
use Rattle.std.specs.Prelude.{Option, Some, None}
use mir.Raw.{raw}
use denote.Memory.{lone}
use denote.RawPtr.{Ptr}
use denote.Struct.Struct.{exits_of}
use denote.Struct.Owning.{shape, fields, to}
use denote.Param.Send.{IsSend, AllSend, owning_send, struct_send, sendable}
use Rattle.std.proofs.Crossing as heap
use Rattle.std_alloc.proofs.SendSync.{quiet, lies}
use Rattle.std_heap.proofs.Global.TheSendSync as handle
use Rattle.uca_handle.specs.contracts.opened.Opened as Opened
use Rattle.uca_handle.proofs.opened.Opened.TheSendSync.{the_send, the_sync}
use Rattle.uca_handle.specs.contracts.handle.Handle.{the_row, the_type}

counted_send : IsSend counted
counted_send = heap.Arc-send Opened.the_row the_send the_sync

holds_keyless : (a : Heap.the_row.Denot) (p : Ptr) (m : Option counted.Denot) → Keyless (holds a p m)
holds_keyless a p None = tt
holds_keyless a p (Some x) = (lies counted counted_send p x, heap.frees.frees a (raw (lone counted.mir)) p)

pub send : IsSend the_row
send =
    let all : AllSend (fields the_type) = (search sendable, (handle.the_field_send, tt)) in
    owning_send the_type all (λ d. holds_keyless d.alloc d.at d.table)
    (λ k. quiet (to the_type) (exits_of k (fields the_type)) ((struct_send (shape the_type) all).leaving k))
