-- A stream reset that a flush begins (RFC 6525, section 5.1.2): which streams its request names, and what is kept of it.
use Rattle.std.specs.Prelude.{ℕ, ◌+◌, ◌-◌, ◌*◌, ◌/◌, ◌%◌, ◌^◌, Bool, false, Option, None, Some, List, [], ◌∷◌, map, take}
use Rattle.dcsctp_types.specs.declared.association.Held.{Held}
use Rattle.dcsctp_types.specs.declared.kinds.BackoffAlgorithm.TheVariants.{Exponential}
use Rattle.dcsctp_types.specs.Sizes.{chunk_header_size, parameter_header_size, word_size}
use Rattle.dcsctp_spec.specs.Packet.{Content}
use Rattle.dcsctp_spec.specs.Reconfiguration.{RequestedReset}
use Rattle.dcsctp_spec.specs.queues.OwnResets.{ready_streams, queue_handing_out}
use Rattle.dcsctp_spec.specs.queues.SendQueue.{SendQueueState}
use Rattle.dcsctp_spec.specs.queues.Transfer.{Transfer}
use Rattle.dcsctp_spec.specs.queues.Outstanding.{next_tsn}
use Rattle.dcsctp_spec.specs.queues.Retransmission.{with_reset_begun}
use Rattle.dcsctp_spec.specs.queues.Retransmission.{RetransmissionState}
use Rattle.dcsctp_spec.specs.endpoint.Endpoint.{Endpoint, Core, cookie_echoed, open_in}
use Rattle.dcsctp_spec.specs.endpoint.Timers.{TimerSettings, started_timer}
use Rattle.dcsctp_spec.specs.association.Effect.{Effect, begins}
use Rattle.dcsctp_spec.specs.association.FlushChanges.{held_asking, reset_request}

-- the number of a request that is begun, and what it wants
pub record BegunReset : Type 0 where
  pub number : ℕ
  pub reset : RequestedReset

-- ---- which it is

-- what precedes the streams in a RE-CONFIG chunk of one request: both headers, two request numbers and a TSN (RFC 6525,
-- section 4.1)
abbrev pub request_size : ℕ
request_size = chunk_header_size + parameter_header_size + 3 * word_size

-- How many streams a request may name if its chunk has that much room. Each has 2 bytes, and all are padded to a multiple of 4.
abbrev pub streams_within : ℕ → ℕ
streams_within room = (room - request_size) / 4 * 2

-- the last TSN that was given out
abbrev pub last_assigned_tsn : RetransmissionState → ℕ
last_assigned_tsn state = (next_tsn state.outstanding + (2 ^ 32 - 1)) % 2 ^ 32

-- It is begun if none is outstanding, and a stream is to be reset. With the option it says that it is new.
abbrev pub begun_if_ready : Bool → Option ℕ → ℕ → ℕ → List ℕ → Option BegunReset
begun_if_ready follows None number last_tsn (stream ∷ streams) =
    Some (record { number = number; reset = record { last_tsn = last_tsn; streams = stream ∷ streams; is_new = follows } })
begun_if_ready follows outstanding number last_tsn streams = None

-- a stream, as its field of 16 bits holds it
abbrev pub stream_field : ℕ → ℕ
stream_field stream = stream % 2 ^ 16

-- Of the streams that are ready it names as many as fit, the first of them; the others stay ready.
abbrev pub begun_if_connected : Bool → Option Held → ℕ → ℕ → SendQueueState → Option BegunReset
begun_if_connected follows None room last_tsn queue = None
begun_if_connected follows (Some held) room last_tsn queue = begun_if_ready follows held.own_outstanding held.own_next last_tsn (map stream_field (take (streams_within room) (ready_streams queue)))

-- ---- its chunk and its effects

abbrev pub request_contents : Option BegunReset → List Content
request_contents None = []
request_contents (Some begun) = reset_request begun.number begun.reset ∷ []

abbrev pub begun_effects : Option BegunReset → List Effect
begun_effects None = []
begun_effects (Some begun) = begins begun.number ∷ []

-- ---- what is kept of it

-- The queue once this was begun: that many of the ready streams were handed out, or none if no reset was begun.
abbrev pub queue_requesting : ℕ → Option BegunReset → SendQueueState → SendQueueState
queue_requesting count None queue = queue
queue_requesting count (Some begun) queue = queue_handing_out count queue

-- what is in flight once this was begun: streams are reset before what is sent next
abbrev pub retransmission_begun : Option BegunReset → RetransmissionState → RetransmissionState
retransmission_begun None state = state
retransmission_begun (Some begun) state = with_reset_begun state

abbrev pub transfer_reset_begun : Option BegunReset → Transfer → Transfer
transfer_reset_begun begun transfer = record transfer { retransmission = retransmission_begun begun transfer.retransmission }

-- the retransmission timeout, if there is an association
abbrev pub rto_of : Option Transfer → ℕ
rto_of None = 0
rto_of (Some transfer) = transfer.timeout.rto

-- the longest that the reconfiguration timer waits once it has expired
abbrev pub longest_wait_of : Option Transfer → Option ℕ
longest_wait_of None = None
longest_wait_of (Some transfer) = transfer.timeout.longest_wait

-- The reconfiguration timer: each wait is twice the last one, and it never stops by itself (RFC 6525, section 5.1.1).
abbrev pub reconfiguration_settings : Option Transfer → TimerSettings
reconfiguration_settings transfer =
    record { duration = rto_of transfer; terms = record { backoff = Exponential; max_restarts = None; max_backoff = longest_wait_of transfer } }

abbrev pub held_begun : Option BegunReset → Held → Held
held_begun None held = held
held_begun (Some begun) held = held_asking held

abbrev pub core_asking : Core → Core
core_asking (cookie_echoed my held cookie) = cookie_echoed my (held_asking held) cookie
core_asking (open_in phase my held) = open_in phase my (held_asking held)
core_asking core = core

-- The request is outstanding, and its timer runs.
abbrev pub after_begun : Option BegunReset → Endpoint → Endpoint
after_begun None e = e
after_begun (Some begun) e =
    record e {
      core = core_asking e.core;
      outstanding = Some (record { last_tsn = begun.reset.last_tsn; streams = begun.reset.streams; is_new = begun.reset.is_new; waits_for_retry = false });
      timers = record e.timers { reconfiguration = started_timer e.moment (reconfiguration_settings e.queues.transfer) };
    }
