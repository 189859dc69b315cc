-- A slot may go to another thread: what it owns there is nothing, or what a session's box owns,
-- which may.
use Rattle.std.proofs.Common.{[], Option, Some, None}
use base.Shift.{Keyless}
use denote.Param.Send.{IsSend, AllSend, owning_send, struct_send, sendable}
use denote.RawPtr.{Ptr}
use denote.Struct.Owning.{shape, fields, to}
use denote.Struct.Struct.{exits_of}
use Rattle.std.proofs.Crossing.{Box-send}
use Rattle.std_alloc.proofs.SendSync.{quiet}
use Rattle.std_heap.proofs.Global.TheSendSync as heap
use Rattle.std_heap.specs.declared.Global.{Global}
use Rattle.dcsctp_channel_session.specs.contracts.held.Held as content
use Rattle.dcsctp_channel_session.proofs.held.Held.TheSendSync.{the_send}
use Rattle.dcsctp_c.specs.SlotMemory.{memory_behind}
use Rattle.dcsctp_c.specs.contracts.slot.Slot.{the_row, the_type}

inside : (a : Global) (p : Ptr) (o : Option content.the_row.Denot) → Keyless (memory_behind a p o)
inside a p None = tt
inside a p (Some x) = ((Box-send content.the_row the_send).owned (record { ptr = p; alloc = a; value = x }) []).1

all : AllSend (fields the_type)
all = (search sendable, (heap.the_field_send, tt))

pub send : IsSend the_row
send =
    owning_send the_type all (λ s. inside s.alloc s.ptr s.value)
    (λ k. quiet (to the_type) (exits_of k (fields the_type)) ((struct_send (shape the_type) all).leaving k))
