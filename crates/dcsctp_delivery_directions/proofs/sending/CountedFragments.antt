-- Fragments of streams are counted: their amounts, numbers and turns change.
use Rattle.std.proofs.Common.{◌≡◌, ◌==◌, ℕ, Bool, true, false, ◌-◌, List, refl}
use Rattle.std.specs.Prelude.{slice_set, if◌then◌else◌}
use Rattle.dcsctp_spec.specs.types.declared.sending.UnderWay.{UnderWay}
use Rattle.dcsctp_spec.specs.types.queues.SendStreams.{Waiting, Stream, stream_counted, served_stream, fills_turn, stream_with_turn_bytes, stream_at}
use Rattle.dcsctp_spec.specs.queues.SendQueue.{SendQueueState, queue_interleaves}
use Rattle.dcsctp_spec.specs.queues.Sending.{reduced_queue, next_turn, queue_numbered, queue_served, queue_with_turn_bytes, turn_counted, fragment_counted}

-- Its amount, its numbers and its turn alone are other.
pub record IsCounted (old new : Stream) : Type 0 where
  pub id : new.id ≡ old.id
  pub messages : new.messages ≡ old.messages
  pub under_way : new.under_way ≡ old.under_way
  pub pause : new.pause ≡ old.pause

pub counted_stream : (interleaved unordered : Bool) (s : Stream) → IsCounted s (stream_counted interleaved unordered s)
counted_stream true true s = record { id = refl; messages = refl; under_way = refl; pause = refl }
counted_stream true false s = record { id = refl; messages = refl; under_way = refl; pause = refl }
counted_stream false true s = record { id = refl; messages = refl; under_way = refl; pause = refl }
counted_stream false false s = record { id = refl; messages = refl; under_way = refl; pause = refl }

-- It relates streams of which one has other numbers, or another turn.
pub record FollowsCounts (Relates : List Stream → List Stream → Type 0) : Type 0 where
  pub same : (streams : List Stream) → Relates streams streams
  pub both : (old between new : List Stream) → Relates old between → Relates between new → Relates old new
  pub set : (place : ℕ) (new : Stream) (streams : List Stream) → IsCounted (stream_at streams place) new → Relates streams (slice_set streams place new)

module _ (Relates : List Stream → List Stream → Type 0) (follows : FollowsCounts Relates) where
  by_numbering : (place : ℕ) (begins is_unordered : Bool) (queue : SendQueueState) → Relates queue.streams (queue_numbered place begins is_unordered queue).streams
  by_numbering place true is_unordered queue =
      follows.set place (stream_counted queue.is_interleaved is_unordered (stream_at queue.streams place)) queue.streams (counted_stream queue.is_interleaved is_unordered (stream_at queue.streams place))
  by_numbering place false is_unordered queue = follows.same queue.streams

  by_serving : (place : ℕ) (is_over : Bool) (queue : SendQueueState) → Relates queue.streams (queue_served place is_over queue).streams
  by_serving place true queue = follows.set place (served_stream (next_turn queue) (stream_at queue.streams place)) queue.streams (record { id = refl; messages = refl; under_way = refl; pause = refl })
  by_serving place false queue = follows.same queue.streams

  by_turn : (place : ℕ) (begins : Bool) (size : ℕ) (queue : SendQueueState) → Relates queue.streams (turn_counted place begins size queue).streams
  by_turn place begins size queue = go (queue_interleaves queue)
    where
      filled : SendQueueState
      filled = queue_with_turn_bytes place size queue

      over : Bool
      over = fills_turn queue.turn_size size (stream_at queue.streams place)

      go : (b : Bool) → Relates queue.streams (if b then queue_served place (fills_turn queue.turn_size size (stream_at queue.streams place)) (queue_with_turn_bytes place size queue) else queue_served place begins queue).streams
      go true =
          follows.both queue.streams filled.streams (queue_served place over filled).streams
          (follows.set place (stream_with_turn_bytes queue.turn_size size (stream_at queue.streams place)) queue.streams (record { id = refl; messages = refl; under_way = refl; pause = refl })) (by_serving place over filled)
      go false = by_serving place begins queue

  pub by_fragment : (place size : ℕ) (message : Waiting) (under_way : UnderWay) (queue : SendQueueState) → Relates queue.streams (fragment_counted place size message under_way queue).streams
  by_fragment place size message under_way queue =
      let numbered : SendQueueState = queue_numbered place (under_way.sent == 0) message.is_unordered queue in
      follows.both queue.streams numbered.streams (fragment_counted place size message under_way queue).streams (by_numbering place (under_way.sent == 0) message.is_unordered queue)
      (by_turn place (under_way.sent == 0) size numbered)

  pub by_amount : (place size : ℕ) (queue : SendQueueState) → Relates queue.streams (reduced_queue place size queue).streams
  by_amount place size queue =
      follows.set place (record (stream_at queue.streams place) { amount = (stream_at queue.streams place).amount - size }) queue.streams (record { id = refl; messages = refl; under_way = refl; pause = refl })

  -- a fragment of so many bytes is counted, and leaves
  pub by_leaving : (place size : ℕ) (message : Waiting) (under_way : UnderWay) (queue : SendQueueState) → Relates queue.streams (fragment_counted place size message under_way (reduced_queue place size queue)).streams
  by_leaving place size message under_way queue =
      follows.both queue.streams (reduced_queue place size queue).streams (fragment_counted place size message under_way (reduced_queue place size queue)).streams (by_amount place size queue)
      (by_fragment place size message under_way (reduced_queue place size queue))
