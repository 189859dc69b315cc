-- Outside examples of a flush with answers, worked out by hand and computed by the definitions: a
-- wrong rule in specs/ would not check here.
use Rattle.std.proofs.Common.{◌≡◌, ℕ, true, false, None, List, [], ◌∷◌, refl}
use Rattle.std.specs.Prelude.{pos, negsuc}
use Rattle.dcsctp_types.specs.wire.declared.chunk.user_data.DataFlags.{DataFlags}
use Rattle.dcsctp_types.specs.wire.Content.{data_chunk}
use Rattle.dcsctp_spec.specs.endpoint.Event.{buffered_amount_low, lifecycle_message_fully_sent}
use Rattle.dcsctp_spec.specs.Packet.{Plain, plain, unworked, cookie_ack, Emission}
use Rattle.dcsctp_spec.specs.queues.Transfer.{EndpointQueues}
use Rattle.dcsctp_spec.specs.endpoint.Endpoint.{Endpoint, cookie_echoed, open_in, established}
use Rattle.dcsctp_spec.specs.endpoint.Following.{next_chunk}
use Rattle.dcsctp_spec.specs.endpoint.FlushOutcomes.{Answer, FillingEvent, amount_is_low, message_is_sent, flush_of, packets_allowed}
use Rattle.dcsctp_spec.proofs.HandshakeTurnFacts.{socket, mine, held, packet_of}

-- the flags of a whole message
abbrev whole : DataFlags
whole = record { is_end = true; is_beginning = true; is_unordered = false; immediate_ack = false }

-- two DATA chunks, of one byte each
abbrev first : Plain
first = unworked (data_chunk (record { flags = whole; tsn = 100; stream_id = 1; ssn = 0; ppid = 53; payload = 65 ∷ [] }))

abbrev second : Plain
second = unworked (data_chunk (record { flags = whole; tsn = 101; stream_id = 1; ssn = 1; ppid = 53; payload = 66 ∷ [] }))

-- the socket that flushes, once it has sent so many packets
abbrev flushing : Endpoint → ℕ → Endpoint
flushing e count = socket e 1191 (pos 4) (open_in established mine held) count

abbrev answering : Endpoint → List Plain → List FillingEvent → EndpointQueues → Answer
answering e chunks told below = record { acknowledgements = []; begun = None; data_chunks = chunks; told = told; after = record e { queues = below } }

abbrev acknowledgement : Emission
acknowledgement = record { with_checksum = false; packet = record { tag = 9; contents = cookie_ack ∷ [] } }

-- The first packet takes one message after its COOKIE ACK, and the second takes the other message, under
-- the peer's tag 9. What fell is reported before the packet that it fell for, and the transfer layer is as the second
-- answer leaves it.
two_packets : (e : Endpoint) (one two : EndpointQueues) → flush_of (flushing e 4) acknowledgement
    (answering (flushing e 4) (first ∷ []) [] one
    ∷ answering (flushing e 5) (second ∷ []) (amount_is_low 1 ∷ message_is_sent 7 ∷ []) two ∷ [])
    ≡ record {
      words = [];
      effects = [];
      after = record (flushing e 6) { queues = two };
      events = packet_of false 9 (cookie_ack ∷ plain first ∷ []) ∷ buffered_amount_low 1 ∷ lifecycle_message_fully_sent 7 ∷ packet_of false 9 (plain second ∷ []) ∷ [];
      following = next_chunk;
    }
two_packets e one two = refl

-- The second ask finds nothing: an empty packet isn't sent, and not counted.
one_packet : (e : Endpoint) (one two : EndpointQueues) → flush_of (flushing e 4) acknowledgement
    (answering (flushing e 4) (first ∷ []) [] one ∷ answering (flushing e 5) [] [] two ∷ [])
    ≡ record {
      words = [];
      effects = [];
      after = record (flushing e 5) { queues = two };
      events = packet_of false 9 (cookie_ack ∷ plain first ∷ []) ∷ [];
      following = next_chunk;
    }
one_packet e one two = refl

-- how many packets: those of `max_burst`, and one while the COOKIE ECHO isn't answered
four_packets_are_allowed : packets_allowed (pos 4) (open_in established mine held) ≡ 4
four_packets_are_allowed = refl

one_packet_is_allowed : packets_allowed (pos 4) (cookie_echoed mine held []) ≡ 1
one_packet_is_allowed = refl

no_packet_is_allowed : packets_allowed (pos 0) (cookie_echoed mine held []) ≡ 0
no_packet_is_allowed = refl

no_packet_by_a_negative_burst : packets_allowed (negsuc 0) (open_in established mine held) ≡ 0
no_packet_by_a_negative_burst = refl
