-- Outside examples of own streams that the user resets, computed by the definitions.
use Rattle.std.proofs.Common.{◌≡◌, ℕ, true, false, Option, None, Some, List, [], ◌∷◌, refl}
use Rattle.dcsctp_types.specs.declared.association.Held.{Held}
use Rattle.dcsctp_types.specs.declared.association.Pair.{Pair}
use Rattle.dcsctp_types.specs.declared.sending.Pause.{Pause}
use Rattle.dcsctp_types.specs.declared.sending.Pause.TheVariants.{Open, Pausing}
use Rattle.dcsctp_types.specs.declared.ids.StreamId.{StreamId}
use Rattle.dcsctp_spec.specs.endpoint.Event.{Event, buffered_amount_low, total_buffered_amount_low, lifecycle_message_expired, lifecycle_end}
use Rattle.dcsctp_spec.specs.Packet.{Emission}
use Rattle.dcsctp_types.specs.queues.SendStreams.{Waiting, Stream}
use Rattle.dcsctp_spec.specs.queues.SendEvents.{falls_low}
use Rattle.dcsctp_spec.specs.queues.SendQueue.{SendQueueState, has_queued_data}
use Rattle.dcsctp_spec.specs.queues.OwnResets.{queue_with_prepared, prepared_all, prepare_all_events, ready_streams}
use Rattle.dcsctp_spec.specs.endpoint.Endpoint.{Endpoint, closed, cookie_wait, open_in, established}
use Rattle.dcsctp_spec.specs.endpoint.PreparedResets.{not_connected, not_supported, reset_refusal}

-- ---- what is refused

no_peer_is_held : (e : Endpoint) (my : Pair) → reset_refusal (record e { core = cookie_wait my }) ≡ Some not_connected
no_peer_is_held e my = refl

no_association : (e : Endpoint) → reset_refusal (record e { core = closed }) ≡ Some not_connected
no_association e = refl

not_negotiated : (e : Endpoint) (my : Pair) (held : Held)
    → reset_refusal (record e { core = open_in established my (record held { capabilities = record held.capabilities { reconfig = false } }) }) ≡ Some not_supported
not_negotiated e my held = refl

negotiated : (e : Endpoint) (my : Pair) (held : Held)
    → reset_refusal (record e { core = open_in established my (record held { capabilities = record held.capabilities { reconfig = true } }) }) ≡ None
negotiated e my held = refl

-- ---- what leaves the queue

-- a message of 3 bytes under this name
message : ℕ → Waiting
message name =
    record { message_id = name; ppid = 53; is_unordered = false; payload = 1 ∷ 2 ∷ 3 ∷ []; max_retransmissions = None; expires_at = None; lifecycle = Some name }

stream : ℕ → Pause → ℕ → List Waiting → Stream
stream id pause bytes messages =
    record { id = id; priority = 256; threshold = 0; amount = bytes; next_ssn = 7; next_mid = 8; next_unordered_mid = 9; last_turn = 0; turn_bytes = 0; pause = pause; under_way = None; messages = messages }

queue : ℕ → Option StreamId → List Stream → SendQueueState
queue bytes held streams =
    record { streams = streams; held = held; total_amount = bytes; total_threshold = 5; default_priority = 256; default_threshold = 0; is_interleaved = false; next_message_id = 9; takes_turns = false; turns_taken = 0; turn_size = 1156; window = 0; reserved = 0 }

-- a byte of a message was sent on this stream
going : Stream → Stream
going stream = record stream { under_way = Some (record { stream_id = record { 0 = stream.id }; ssn = 6; mid = 7; next_fsn = 1; sent = 1 }) }

abbrev stream_held : ℕ → Option StreamId
stream_held id = Some (record { 0 = id })

-- Two messages wait on stream 2: they go, and the stream is ready.
abbrev two : SendQueueState
two = queue 9 None (stream 2 Open 6 (message 4 ∷ message 6 ∷ []) ∷ stream 5 Open 3 (message 8 ∷ []) ∷ [])

two_leave : queue_with_prepared 2 two ≡ queue 3 None (stream 2 Pausing 0 [] ∷ stream 5 Open 3 (message 8 ∷ []) ∷ [])
unfolding queue stream message
two_leave = refl

it_is_ready : ready_streams (queue_with_prepared 2 two) ≡ 2 ∷ []
unfolding queue stream message
it_is_ready = refl

-- Again changes nothing.
again_stays : queue_with_prepared 2 (queue_with_prepared 2 two) ≡ queue_with_prepared 2 two
unfolding queue stream message
again_stays = refl

-- Of the one that is under way a byte was sent, and another waits after it: the first stays, and the stream isn't ready yet.
abbrev started : SendQueueState
started = queue 5 (stream_held 2) (going (stream 2 Open 5 (message 4 ∷ message 6 ∷ [])) ∷ [])

one_stays : queue_with_prepared 2 started ≡ queue 2 (stream_held 2) (going (stream 2 Pausing 2 (message 4 ∷ [])) ∷ [])
unfolding queue stream going message
one_stays = refl

not_ready_yet : ready_streams (queue_with_prepared 2 started) ≡ []
unfolding queue stream going message
not_ready_yet = refl

-- A message of another stream that is under way is no hindrance.
another_is_under_way : ready_streams (queue_with_prepared 2 (queue 5 (stream_held 1) (going (stream 1 Open 2 (message 4 ∷ [])) ∷ stream 2 Open 3 (message 6 ∷ []) ∷ []))) ≡ 2 ∷ []
unfolding queue stream going message
another_is_under_way = refl

-- A stream that was never used is ready at once.
never_used : queue_with_prepared 3 (queue 0 None []) ≡ queue 0 None (record (stream 3 Pausing 0 []) { next_ssn = 0; next_mid = 0; next_unordered_mid = 0 } ∷ [])
unfolding queue stream
never_used = refl

-- No message of them is begun then.
none_is_begun : has_queued_data (prepared_all (2 ∷ 5 ∷ []) two) ≡ false
unfolding queue stream message
none_is_begun = refl

-- ---- the events

told : List ℕ → SendQueueState → List (Event Emission)
told ids queue = prepare_all_events ids queue

-- Stream 2 falls to nothing, all of them to 3 bytes, which is below 5; and two messages are abandoned, each by its name.
both_fall : told (2 ∷ []) two
    ≡ buffered_amount_low 2 ∷ total_buffered_amount_low ∷ lifecycle_message_expired 4 ∷ lifecycle_end 4 ∷ lifecycle_message_expired 6 ∷ lifecycle_end 6 ∷ []
unfolding told queue stream message
both_fall = refl

-- Stream 5 comes after it; the total was low before.
then_another : told (2 ∷ 5 ∷ []) two
    ≡ buffered_amount_low 2 ∷ total_buffered_amount_low ∷ lifecycle_message_expired 4 ∷ lifecycle_end 4 ∷ lifecycle_message_expired 6 ∷ lifecycle_end 6
    ∷ buffered_amount_low 5 ∷ lifecycle_message_expired 8 ∷ lifecycle_end 8 ∷ []
unfolding told queue stream message
then_another = refl

-- Two bytes are left of the one that is under way, and its name stays.
one_is_told : told (2 ∷ []) started ≡ lifecycle_message_expired 6 ∷ lifecycle_end 6 ∷ []
unfolding told queue stream message going
one_is_told = refl

-- It is reported where the amount comes down to its threshold, and not where it was there before.
down_to_it : falls_low 5 12 7 ≡ true
down_to_it = refl

there_before : falls_low 5 5 5 ≡ false
there_before = refl
