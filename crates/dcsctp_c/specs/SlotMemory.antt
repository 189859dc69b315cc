-- The memory behind a slot's pointer: none, or a session's block with the right to free it.
use base.Fml.{Fml, ftrue}
use base.Stored.{Coded}
use denote.RawPtr.{Ptr}
use Rattle.std.specs.Box.Ownership.{box_owns}
use Rattle.std.specs.Coded.{coded_option}
use Rattle.std.specs.Global.{Global}
use Rattle.std.specs.Prelude.{Option, Some, None}
use Rattle.std_heap.specs.contracts.GlobalAllocator.TheImpl.{ghosts}
use Rattle.dcsctp_channel_session.specs.contracts.held.Held as content

abbrev pub MaybeHeld : Type 0
MaybeHeld = Option content.the_row.Denot

abbrev pub memory_behind : Global → Ptr → MaybeHeld → Fml
memory_behind alloc at None = ftrue
memory_behind alloc at (Some held) = box_owns (ghosts.dealloc_token alloc) content.the_row at held

-- how the logic stores a slot's value
abbrev pub slot_code : Coded MaybeHeld
slot_code = coded_option content.the_row.coded
