-- Outside examples of messages that wait to be sent, computed by the definitions.
use Rattle.std.proofs.Common.{◌≡◌, ℕ, true, false, Option, None, Some, List, [], ◌∷◌, refl}
use Rattle.dcsctp_types.specs.declared.ids.LifecycleId.{LifecycleId}
use Rattle.dcsctp_types.specs.declared.ids.StreamId.{StreamId}
use Rattle.dcsctp_types.specs.declared.sending.Pause.{Pause}
use Rattle.dcsctp_types.specs.declared.sending.Pause.TheVariants.{Open, Pausing}
use Rattle.dcsctp_types.specs.declared.sending.UnderWay.{UnderWay}
use Rattle.dcsctp_types.specs.Ids.{lifecycle_number}
use Rattle.dcsctp_types.specs.queues.SendStreams.{Waiting, Stream}
use Rattle.dcsctp_spec.specs.queues.SendQueue.{SendQueueState, has_queued_data, numbered_for, queue_restarted}
use Rattle.dcsctp_spec.specs.queues.Sending.{fragment, after_part, after_last, turn_counted, stream_held_after, may_send_part}
use Rattle.dcsctp_spec.specs.queues.OwnResets.{queue_handing_out, queue_committed, queue_rolled_back}
use Rattle.dcsctp_spec.specs.endpoint.MessageOutcomes.{Sending, sending_queued}

-- ---- messages that are added

-- an unordered message of 3 bytes for 2 seconds, sent again at most 4 times, under a name
asked : LifecycleId → Sending
asked name =
    record {
      message = record { stream = 1; ppid = 53; payload = 65 ∷ 66 ∷ 67 ∷ [] };
      options = record { unordered = true; lifetime = Some (record { secs = 2; nanos = 0 }); max_retransmissions = Some 4; lifecycle_id = Some name };
    }

-- as it waits, if it was added 1 second after the socket was made
asked_waits : LifecycleId → Waiting
asked_waits name =
    record {
      message_id = 0;
      ppid = 53;
      is_unordered = true;
      payload = 65 ∷ 66 ∷ 67 ∷ [];
      max_retransmissions = Some 4;
      expires_at = Some 3_000_000_000;
      lifecycle = Some (lifecycle_number name);
    }

-- an ordered one of 2 bytes, without more
plain : Sending
plain =
    record {
      message = record { stream = 1; ppid = 51; payload = 68 ∷ 69 ∷ [] };
      options = record { unordered = false; lifetime = None; max_retransmissions = None; lifecycle_id = None };
    }

plain_waits : ℕ → Waiting
plain_waits number =
    record { message_id = number; ppid = 51; is_unordered = false; payload = 68 ∷ 69 ∷ []; max_retransmissions = None; expires_at = None; lifecycle = None }

-- a stream whose next messages have the numbers 7, 8 and 9
stream : ℕ → Pause → ℕ → List Waiting → Stream
stream id pause amount messages =
    record { id = id; priority = 256; threshold = 0; amount = amount; next_ssn = 7; next_mid = 8; next_unordered_mid = 9; last_turn = 0; turn_bytes = 0; pause = pause; under_way = None; messages = messages }

fresh : ℕ → ℕ → List Waiting → Stream
fresh id amount messages = record (stream id Open amount messages) { next_ssn = 0; next_mid = 0; next_unordered_mid = 0 }

-- with its oldest message under way
going : UnderWay → Stream → Stream
going under_way stream = record stream { under_way = Some under_way }

queue : ℕ → ℕ → Option StreamId → List Stream → SendQueueState
queue total next held streams =
    record { streams = streams; held = held; total_amount = total; total_threshold = 0; default_priority = 256; default_threshold = 0; is_interleaved = false; next_message_id = next; takes_turns = false; turns_taken = 0; turn_size = 4; window = 0; reserved = 0 }

-- stream 1, as one that is held
abbrev one : Option StreamId
one = Some (record { 0 = 1 })

-- It waits as it was sent, on a stream that was never used.
first_waits : (name : LifecycleId) → sending_queued 1_000_000_000 (asked name) (queue 0 0 None []) ≡ queue 3 1 None (fresh 1 3 (asked_waits name ∷ []) ∷ [])
unfolding queue fresh stream asked asked_waits
first_waits name = refl

-- Another waits after it.
second_waits : (name : LifecycleId)
    → sending_queued 9 plain (queue 3 1 None (fresh 1 3 (asked_waits name ∷ []) ∷ [])) ≡ queue 5 2 None (fresh 1 5 (asked_waits name ∷ plain_waits 1 ∷ []) ∷ [])
unfolding queue fresh stream plain plain_waits
second_waits name = refl

-- There is data to send once a message waits, unless its stream is to be reset.
none_to_send : has_queued_data (queue 0 0 None (stream 1 Open 0 [] ∷ [])) ≡ false
unfolding queue stream
none_to_send = refl

one_to_send : has_queued_data (queue 2 1 None (stream 1 Open 2 (plain_waits 0 ∷ []) ∷ [])) ≡ true
unfolding queue stream
one_to_send = refl

none_while_paused : has_queued_data (queue 2 1 None (stream 1 Pausing 2 (plain_waits 0 ∷ []) ∷ [])) ≡ false
unfolding queue stream
none_while_paused = refl

-- ---- fragments

-- the second of these messages, as it is begun, and with a byte of it sent
begun_now : UnderWay
begun_now = record { stream_id = record { 0 = 1 }; ssn = 7; mid = 8; next_fsn = 0; sent = 0 }

one_sent : UnderWay
one_sent = record begun_now { next_fsn = 1; sent = 1 }

-- Its first byte leaves, and its SSN is used up. Until it ends it takes that byte, 256 for its part, twice the other byte, and twice
-- 256.
first_leaves : after_part 0 1 (plain_waits 4) begun_now (queue 2 5 None (stream 1 Open 2 (plain_waits 4 ∷ []) ∷ []))
    ≡ record (queue 1 5 one (going one_sent (record (stream 1 Open 1 (plain_waits 4 ∷ [])) { next_ssn = 8 }) ∷ [])) { reserved = 771 }
unfolding queue stream going plain_waits begun_now one_sent
first_leaves = refl

-- Then the other does, and nothing waits.
last_leaves : after_last 0 (plain_waits 4) one_sent
    (record (queue 1 5 one (going one_sent (record (stream 1 Open 1 (plain_waits 4 ∷ [])) { next_ssn = 8 }) ∷ [])) { reserved = 771 })
    ≡ queue 0 5 None (record (stream 1 Open 0 []) { next_ssn = 8 } ∷ [])
unfolding queue stream going plain_waits begun_now one_sent
last_leaves = refl

last_says : fragment one_sent (plain_waits 4) 1
    ≡ record {
      message_id = 4;
      stream = 1;
      ssn = 7;
      mid = 8;
      fsn = 1;
      ppid = 51;
      is_unordered = false;
      is_beginning = false;
      is_end = true;
      payload = 69 ∷ [];
      max_retransmissions = None;
      expires_at = None;
      lifecycle = None;
    }
unfolding plain_waits begun_now one_sent
last_says = refl

-- ---- numbers

-- The message under way takes the next MID as messages are interleaved.
renumbered_now : numbered_for true 1500 (queue 1 5 one (going one_sent (stream 1 Open 1 (plain_waits 4 ∷ [])) ∷ []))
    ≡ record (queue 1 5 one (going one_sent (record (stream 1 Open 1 (plain_waits 4 ∷ [])) { next_mid = 9 }) ∷ [])) { is_interleaved = true; window = 1500 }
unfolding queue stream going plain_waits begun_now one_sent
renumbered_now = refl

-- For another association it waits whole again, and all numbers begin at 0.
begins_again : queue_restarted (queue 1 5 one (going one_sent (stream 1 Open 1 (plain_waits 4 ∷ [])) ∷ stream 3 Pausing 0 [] ∷ []))
    ≡ queue 2 5 None (fresh 1 2 (plain_waits 4 ∷ []) ∷ fresh 3 0 [] ∷ [])
unfolding queue stream going fresh plain_waits begun_now one_sent
begins_again = refl

-- ---- streams whose reset is requested

-- Of two that are ready one is handed out: the first. The other stays ready. A stream whose message is under way isn't.
abbrev asked_of : SendQueueState
asked_of = queue 1 5 one (going one_sent (stream 1 Pausing 1 (plain_waits 4 ∷ [])) ∷ stream 2 Pausing 0 [] ∷ stream 3 Pausing 0 [] ∷ [])

handed : queue_committed (queue_handing_out 1 asked_of) ≡ queue 1 5 one (going one_sent (stream 1 Pausing 1 (plain_waits 4 ∷ [])) ∷ fresh 2 0 [] ∷ stream 3 Pausing 0 [] ∷ [])
unfolding queue stream going fresh begun_now one_sent
handed = refl

-- If its reset failed, its numbers continue.
handed_back : queue_rolled_back (queue_handing_out 1 asked_of) ≡ queue 1 5 one (going one_sent (stream 1 Pausing 1 (plain_waits 4 ∷ [])) ∷ stream 2 Open 0 [] ∷ stream 3 Pausing 0 [] ∷ [])
unfolding queue stream going begun_now one_sent
handed_back = refl

-- ---- messages that interleave: a turn has 4 bytes here

abbrev interleaving : List Stream → SendQueueState
interleaving streams = record (queue 8 5 None streams) { is_interleaved = true; takes_turns = true; window = 2000 }

-- A byte of a turn leaves no stream held, and the turn isn't over.
none_is_held : after_part 0 1 (plain_waits 4) begun_now (interleaving (stream 1 Open 8 (plain_waits 4 ∷ []) ∷ []))
    ≡ record (interleaving (going one_sent (record (stream 1 Open 7 (plain_waits 4 ∷ [])) { next_mid = 9; turn_bytes = 1 }) ∷ [])) { total_amount = 7; reserved = 771 }
unfolding queue stream going plain_waits begun_now one_sent
none_is_held = refl

-- With the fourth it is over.
turn_is_over : after_part 0 1 (plain_waits 4) begun_now (interleaving (record (stream 1 Open 8 (plain_waits 4 ∷ [])) { turn_bytes = 3 } ∷ []))
    ≡ record (interleaving (going one_sent (record (stream 1 Open 7 (plain_waits 4 ∷ [])) { next_mid = 9; last_turn = 1 }) ∷ [])) { total_amount = 7; turns_taken = 1; reserved = 771 }
unfolding queue stream going plain_waits begun_now one_sent
turn_is_over = refl

-- What is sent beyond it counts for the next.
beyond_its_turn : turn_counted 0 true 3 (interleaving (record (stream 1 Open 8 []) { turn_bytes = 3 } ∷ []))
    ≡ record (interleaving (record (stream 1 Open 8 []) { last_turn = 1; turn_bytes = 2 } ∷ [])) { turns_taken = 1 }
unfolding queue stream
beyond_its_turn = refl

-- A message that may be abandoned is held to its end.
abandonable_is_held : (queue : SendQueueState) (id : StreamId) → stream_held_after id (record (plain_waits 4) { max_retransmissions = Some 0 }) queue ≡ Some id
unfolding plain_waits
abandonable_is_held queue id = refl

-- ---- the peer's window, where messages interleave: of 2,000 bytes 1,750 are shared

-- A message of two bytes takes 516 at most, so it begins beside others that take 1,234, and not beside others that take a byte more.
there_is_room : may_send_part 1 (plain_waits 4) (stream 1 Open 2 []) (record (interleaving []) { reserved = 1234 }) ≡ true
unfolding queue stream plain_waits
there_is_room = refl

there_is_no_room : may_send_part 1 (plain_waits 4) (stream 1 Open 2 []) (record (interleaving []) { reserved = 1235 }) ≡ false
unfolding queue stream plain_waits
there_is_no_room = refl

-- It may be sent whole.
whole_takes_no_room : may_send_part 2 (plain_waits 4) (stream 1 Open 2 []) (record (interleaving []) { reserved = 1235 }) ≡ true
unfolding queue stream plain_waits
whole_takes_no_room = refl

-- Once more is taken than is shared, the stream that sends is held.
crowded_stream_is_held : stream_held_after (record { 0 = 1 }) (plain_waits 4) (record (interleaving []) { reserved = 1751 }) ≡ one
unfolding queue plain_waits
crowded_stream_is_held = refl

sharing_stream_is_not_held : stream_held_after (record { 0 = 1 }) (plain_waits 4) (record (interleaving []) { reserved = 1750 }) ≡ None
unfolding queue plain_waits
sharing_stream_is_not_held = refl
