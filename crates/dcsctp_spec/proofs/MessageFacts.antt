-- Outside examples of messages that are refused, computed by the definitions.
use Rattle.std.proofs.Common.{◌≡◌, None, Some, [], ◌∷◌, refl}
use Rattle.std.specs.Prelude.{codes}
use Rattle.dcsctp_types.specs.declared.association.Held.{Held}
use Rattle.dcsctp_types.specs.declared.association.Pair.{Pair}
use Rattle.dcsctp_types.specs.declared.kinds.ErrorKind.TheVariants.{ProtocolViolation}
use Rattle.dcsctp_spec.specs.endpoint.Event.{error, lifecycle_end}
use Rattle.dcsctp_spec.specs.queues.SendQueue.{SendQueueState, empty_queue}
use Rattle.dcsctp_spec.specs.endpoint.Endpoint.{Endpoint, Core, closed, open_in, shutdown_sent}
use Rattle.dcsctp_spec.specs.endpoint.MessageOutcomes.{empty_payload, message_too_large, shutting_down, resource_exhaustion, message_refusal, refusal_events}

-- a socket with the default limits
socket : Endpoint → Core → SendQueueState → Endpoint
socket e core queue =
    record e {
      options = record e.options { max_message_size = 262144; max_send_buffer_size = 2000000; per_stream_send_queue_limit = 2000000 };
      core = core;
      queues = record e.queues { queue = queue };
    }

-- 2,000,000 bytes wait
full : Endpoint → SendQueueState
full e = record (empty_queue e.options) { total_amount = 2000000 }

one_byte_is_taken : (e : Endpoint) → message_refusal (socket e closed (empty_queue e.options)) 1 1 ≡ None
unfolding socket
one_byte_is_taken e = refl

the_longest_is_taken : (e : Endpoint) → message_refusal (socket e closed (empty_queue e.options)) 1 262144 ≡ None
unfolding socket
the_longest_is_taken e = refl

one_byte_more_is_refused : (e : Endpoint) → message_refusal (socket e closed (empty_queue e.options)) 1 262145 ≡ Some (message_too_large 262145 262144)
unfolding socket
one_byte_more_is_refused e = refl

-- A full queue is looked at last.
empty_is_refused_first : (e : Endpoint) → message_refusal (socket e closed (full e)) 1 0 ≡ Some empty_payload
unfolding socket full
empty_is_refused_first e = refl

full_is_refused : (e : Endpoint) → message_refusal (socket e closed (full e)) 2 1 ≡ Some resource_exhaustion
unfolding socket full
full_is_refused e = refl

shutting_down_is_refused : (e : Endpoint) (my : Pair) (held : Held) → message_refusal (socket e (open_in shutdown_sent my held) (full e)) 1 1 ≡ Some shutting_down
unfolding socket full
shutting_down_is_refused e my held = refl

-- Its end is reported before the error.
the_end_comes_first : refusal_events empty_payload (Some 5) ≡ lifecycle_end 5 ∷ error ProtocolViolation (codes "Unable to send empty message") ∷ []
the_end_comes_first = refl
