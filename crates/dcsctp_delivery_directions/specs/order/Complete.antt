-- What was acknowledged has arrived: once a sender has nothing left, all ordered messages of its
-- reliable streams were received (RFC 9260, section 6.2).
use Rattle.std.specs.Prelude.{◌≡◌, ◌<◌, ◌≤◌, ◌^◌, ℕ, Bool, true, false, List, [], length}
use Rattle.dcsctp_spec_lemmas.specs.types.declared.options.Options.{Options}
use Rattle.dcsctp_spec_lemmas.specs.types.queues.Messages.{MessageContent}
use Rattle.dcsctp_spec_lemmas.specs.types.queues.SendStreams.{stream_at}
use Rattle.dcsctp_spec_lemmas.specs.spec.queues.Transfer.{EndpointQueues}
use Rattle.dcsctp_delivery_directions.specs.sending.Log.{Message}
use Rattle.dcsctp_delivery_directions.specs.sending.Places.{HasEntry}
use Rattle.dcsctp_delivery_directions.specs.directions.Directions.{Direction, DirectionRun, assigned_count, tsns_in_flight}
use Rattle.dcsctp_delivery_directions.specs.order.Queue.{IsOrderedOn}
use Rattle.dcsctp_delivery_directions.specs.order.Streams.{AreDeliveredOnStreams, IsKeptReliable}

-- No message waits, and no TSN waits to be acknowledged.
pub record HasNothingLeft (queues : EndpointQueues) : Type 0 where
  pub waits : (q : ℕ) → (stream_at queues.queue.streams q).messages ≡ []
  pub flight : tsns_in_flight queues.transfer ≡ 0

-- Each ordered message that was queued on one of these streams was read.
pub record AreAllDelivered (these : ℕ → Bool) (queued : List Message) (read : List MessageContent) : Type 0 where
  pub on : AreDeliveredOnStreams these queued read
  pub all : (id : ℕ) → these id ≡ true → (place : ℕ) → IsOrderedOn queued id place → HasEntry place on.delivered.places

-- Without interleaving it is so of each stream that the sender keeps, and on which no message may be abandoned, whatever happens
-- on others: once the sender has nothing left, and the receiver has no message ready.
abbrev pub PlainStreamsArrive : Type 0
PlainStreamsArrive =
    (these : ℕ → Bool) (options : Options) (first size : ℕ) (direction : Direction) → DirectionRun options first size direction
    → first < 2 ^ 32 → assigned_count direction < 2 ^ 31 → length direction.queued < 2 ^ 64 → size ≤ 2 ^ 63 → direction.queues.queue.is_interleaved ≡ false → direction.beginning.from_zero ≡ true
    → ((id : ℕ) → these id ≡ true → IsKeptReliable direction id) → HasNothingLeft direction.queues → direction.reassembly.incoming.ready ≡ [] → AreAllDelivered these direction.queued direction.read
