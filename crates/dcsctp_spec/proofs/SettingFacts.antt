-- Outside examples of what the user sets, computed by the definitions.
use Rattle.std.proofs.Common.{◌≡◌, ℕ, false, None, List, [], ◌∷◌, refl}
use Rattle.dcsctp_types.specs.declared.sending.Pause.TheVariants.{Open}
use Rattle.dcsctp_types.specs.queues.SendStreams.{Stream}
use Rattle.dcsctp_spec.specs.queues.SendQueue.{SendQueueState, queue_stream}
use Rattle.dcsctp_spec.specs.endpoint.Endpoint.{Endpoint}
use Rattle.dcsctp_types.specs.Setting.{stream_priority, stream_low_threshold, longest_message}
use Rattle.dcsctp_spec.specs.endpoint.SettingOutcomes.{set_in_queue, endpoint_with}

stream : ℕ → ℕ → ℕ → Stream
stream id threshold priority =
    record { id = id; priority = priority; threshold = threshold; amount = 0; next_ssn = 0; next_mid = 0; next_unordered_mid = 0; last_turn = 0; turn_bytes = 0; pause = Open; under_way = None; messages = [] }

-- a queue of these streams, with the defaults of the options
queue : List Stream → SendQueueState
queue streams =
    record { streams = streams; held = None; total_amount = 0; total_threshold = 0; default_priority = 256; default_threshold = 0; is_interleaved = false; next_message_id = 0; takes_turns = false; turns_taken = 0; turn_size = 1156; window = 0; reserved = 0 }

-- A stream that was never used has the defaults but for what is set, and comes between its neighbours.
first_is_set : set_in_queue (stream_priority 1 5) (queue []) ≡ queue (stream 1 0 5 ∷ [])
unfolding queue stream
first_is_set = refl

between_is_set : set_in_queue (stream_low_threshold 2 7) (queue (stream 1 0 5 ∷ stream 3 9 9 ∷ [])) ≡ queue (stream 1 0 5 ∷ stream 2 7 256 ∷ stream 3 9 9 ∷ [])
unfolding queue stream
between_is_set = refl

-- One that was used keeps all else.
again_is_set : set_in_queue (stream_low_threshold 3 8) (queue (stream 1 0 5 ∷ stream 3 9 9 ∷ [])) ≡ queue (stream 1 0 5 ∷ stream 3 8 9 ∷ [])
unfolding queue stream
again_is_set = refl

-- What the user reads: 5 for a stream with that priority, and 256, the default, for another.
priorities_are_told : (queue_stream (queue (stream 1 0 5 ∷ [])) 1).priority ≡ 5
unfolding queue stream
priorities_are_told = refl

defaults_are_told : queue_stream (queue (stream 1 0 5 ∷ [])) 2 ≡ stream 2 0 256
unfolding queue stream
defaults_are_told = refl

-- The longest message is an option, and no stream's.
longest_is_set : (e : Endpoint) → (endpoint_with (longest_message 12) e).options.max_message_size ≡ 12
longest_is_set e = refl

streams_stay : (e : Endpoint) → (endpoint_with (longest_message 12) e).queues ≡ e.queues
streams_stay e = refl

longest_stays : (e : Endpoint) → (endpoint_with (stream_priority 1 5) e).options ≡ e.options
longest_stays e = refl
