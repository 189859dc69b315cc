-- The packets among the events that wait: their checksums are filled in when they are taken.
use Rattle.std.specs.Prelude.{◌≡◌, ℕ, List, ◌∷◌}
use Rattle.std.specs.Vec.{with_items}
use Rattle.dcsctp_spec_lemmas.specs.wire.Spelling.{header_bytes, packet_bytes_of}
use Rattle.dcsctp_spec_lemmas.specs.spec.endpoint.Event.{Event, sent, event_map}
use Rattle.dcsctp_wire_build.specs.Building.{Building}
use Rattle.dcsctp_wire_build.specs.Checksums.{checksum_filled, checksum_cleared}
use Rattle.dcsctp_api.specs.declared.events.Entry.{Entry}
use Rattle.dcsctp_api.specs.declared.events.Entry.TheVariants.{Whole, Unfilled}
use Rattle.dcsctp_api.specs.declared.events.SocketEvent.{SocketEvent}
use Rattle.dcsctp_api.specs.declared.events.SocketEvent.TheVariants.{SendPacket}
use Rattle.dcsctp_api.specs.Events.{event_content}

-- the event that waits: a packet whose checksum isn't filled in yet counts as if it were
abbrev pub entry_event : Entry → SocketEvent
entry_event (Whole event) = event
entry_event (Unfilled packet) = SendPacket (with_items packet (checksum_filled packet.items))

-- what the event says of a packet that was built
abbrev pub packet_event : Building → Event (List ℕ)
packet_event packet =
    sent (packet_bytes_of packet.with_checksum (header_bytes packet.source_port packet.destination_port packet.verification_tag) packet.body)

-- the event with 0 in the place of its packet's checksum
abbrev pub cleared_event : Event (List ℕ) → Event (List ℕ)
cleared_event event = event_map checksum_cleared event

-- The first event is taken, but that its packet has 0 in the place of its checksum.
pub record TakesCleared (old : List SocketEvent) (event : SocketEvent) (new : List SocketEvent) : Type 0 where
  pub first : SocketEvent
  pub taken : old ≡ first ∷ new
  pub cleared : event_content event ≡ cleared_event (event_content first)
