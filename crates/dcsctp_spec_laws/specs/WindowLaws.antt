-- How much a flush puts in flight (RFC 9260, sections 6.1 and 7.2).
use Rattle.std.specs.Prelude.{ℕ, ◌+◌, ◌-◌, ◌≤◌, min, max, Option, None, Some, List}
use Rattle.dcsctp_spec_lemmas.specs.types.Settings.{packet_size_limit}
use Rattle.dcsctp_spec_lemmas.specs.types.Sizes.{common_header_size}
use Rattle.dcsctp_spec_lemmas.specs.spec.Packet.{Emission}
use Rattle.dcsctp_spec_lemmas.specs.spec.queues.Filling.{Stage, FillsPacket}
use Rattle.dcsctp_spec_lemmas.specs.spec.queues.Retransmission.{RetransmissionState, chunk_bytes_in_flight}
use Rattle.dcsctp_spec_lemmas.specs.spec.queues.Transfer.{Transfer}
use Rattle.dcsctp_spec_lemmas.specs.spec.endpoint.Endpoint.{Endpoint}
use Rattle.dcsctp_spec_lemmas.specs.spec.endpoint.FlushOutcomes.{Answer, FlushAnswers, flush_of}

-- the lesser of the two windows: our congestion window and the peer's receive window
abbrev pub lesser_window : RetransmissionState → ℕ
lesser_window state = min state.congestion.cwnd state.peer_window

-- The most that a chunk may lead to: less than the window was in flight before it, and it fits into that much room. If the
-- window is 0, it is a probe, which is sent only if nothing is in flight.
abbrev pub most_in_flight : RetransmissionState → ℕ → ℕ
most_in_flight state room = (lesser_window state - 1) + room

-- Once a packet is filled, no more is in flight than before, or than that.
abbrev pub PacketsKeepWindow : Type 0
PacketsKeepWindow =
    (now : ℕ) (old new : Stage) → FillsPacket now old new
    → chunk_bytes_in_flight new.queue ≤ max (chunk_bytes_in_flight old.queue) (most_in_flight old.queue old.room)

-- the same of an endpoint whose association has a transfer layer, or not yet
abbrev pub in_flight_of : Option Transfer → ℕ
in_flight_of None = 0
in_flight_of (Some transfer) = chunk_bytes_in_flight transfer.retransmission

abbrev pub most_of : Option Transfer → ℕ → ℕ
most_of None room = 0
most_of (Some transfer) room = most_in_flight transfer.retransmission room

-- Once a flush of any number of packets is over, no more is in flight than before, or than the window and one packet.
abbrev pub FlushesKeepWindow : Type 0
FlushesKeepWindow = (e : Endpoint) (draft : Emission) (answers : List Answer) → FlushAnswers e draft answers
    → in_flight_of (flush_of e draft answers).after.queues.transfer
    ≤ max (in_flight_of e.queues.transfer) (most_of e.queues.transfer (packet_size_limit e.options - common_header_size))
