-- The end of a reset leaves a stream that is sent by epochs so: the next epoch has begun.
use Rattle.std.proofs.Common.{◌≡◌, ℕ, Bool, true, false, ◌≤◌, ◌+◌, ◌*◌, ◌^◌, List, length, drop, refl, sym, ◌∙◌, ap, arith, subst}
use Rattle.std.specs.Prelude.{Option, None, Some, is_some, if◌then◌else◌}
use Rattle.dcsctp_spec.specs.types.declared.sending.Pause.{Pause}
use Rattle.dcsctp_spec.specs.types.declared.sending.Pause.TheVariants.{Open, Pausing, HandedOut}
use Rattle.dcsctp_spec.specs.types.queues.SendStreams.{Waiting, Stream, front_of, unused_stream, committed_stream}
use Rattle.dcsctp_spec.specs.queues.OwnResets.{is_open_pause, queue_committed}
use Rattle.dcsctp_spec.specs.queues.SendQueue.{SendQueueState}
use Rattle.dcsctp_delivery_directions.specs.sending.Places.{at_place}
use Rattle.dcsctp_delivery_directions.specs.sending.Log.{Piece, History}
use Rattle.dcsctp_delivery_directions.specs.sending.Numbers.{stream_named, is_handed_out, IsCurrent, IsUnderWayKept, CountsMessages}
use Rattle.dcsctp_delivery_directions.specs.sending.Queueing.{floors_raised}
use Rattle.dcsctp_delivery_directions.proofs.sending.StreamsNamed.{found_mapped}
use Rattle.dcsctp_delivery_directions.proofs.order.Raised.{none_current_now}
use Rattle.dcsctp_delivery_directions.specs.epochs.Sending.{AllFrom, EpochBounds, newest_ended, asked_ended, is_open, HaltsIfAsked, SendsByEpoch, IsKnown}
use Rattle.dcsctp_delivery_directions.proofs.epochs.Feeding.{unbegun_same}
use Rattle.dcsctp_delivery_directions.proofs.epochs.Named.{IsUnmoved, unmoved}

-- The stream is open again if it was handed out.
pub data IsEndedAs (old new : Stream) : Type 0 where
  ended : is_handed_out old.pause ≡ true → new.messages ≡ old.messages → new.pause ≡ Open → IsEndedAs old new
  still : is_handed_out old.pause ≡ false → IsUnmoved old new → IsEndedAs old new

pub committing_named : (queue : SendQueueState) (id : ℕ) → IsEndedAs (stream_named id queue.streams) (stream_named id (queue_committed queue).streams)
committing_named queue id =
    found_mapped IsEndedAs id (unused_stream 0 0 0) committed_stream (λ s. one_id s s.pause refl) (still refl (unmoved (unused_stream 0 0 0))) (λ s here. one s s.pause refl) queue.streams
  where
    one_id : (s : Stream) (p : Pause) → s.pause ≡ p → (committed_stream s).id ≡ s.id
    one_id s Open is = rw is refl
    one_id s Pausing is = rw is refl
    one_id s HandedOut is = rw is refl

    one : (s : Stream) (p : Pause) → s.pause ≡ p → IsEndedAs s (committed_stream s)
    one s Open is = still (ap is_handed_out is) (record { messages = rw is refl; under_way = rw is refl; pause = rw is refl })
    one s Pausing is = still (ap is_handed_out is) (record { messages = rw is refl; under_way = rw is refl; pause = rw is refl })
    one s HandedOut is = ended (ap is_handed_out is) (rw is refl) (rw is refl)

-- No message of a stream that is handed out is under way.
not_under_way : (id : ℕ) (streams : List Stream) → IsUnderWayKept streams → is_handed_out (stream_named id streams).pause ≡ true → is_some (stream_named id streams).under_way ≡ false
not_under_way id streams kept handed = go (is_some (stream_named id streams).under_way) refl
  where
    go : (b : Bool) → is_some (stream_named id streams).under_way ≡ b → is_some (stream_named id streams).under_way ≡ false
    go true is = absurd (let no : true ≡ false = sym handed ∙ kept id is in cc)
    go false is = is

pub committing_by_epoch : (queue : SendQueueState) (history : History) (count id : ℕ) (asked : ℕ → EpochBounds) → CountsMessages history queue.streams → IsUnderWayKept queue.streams → SendsByEpoch count history queue id (asked id)
    → SendsByEpoch count (floors_raised queue.streams history) (queue_committed queue) id (asked_ended queue.streams asked id)
committing_by_epoch queue history count id asked counts kept e = go (committing_named queue id)
  where
    -- nothing that was sent on a stream that is handed out is current
    none_current : is_handed_out (stream_named id queue.streams).pause ≡ true → (n : ℕ) (f : Piece) → at_place n history.log ≡ Some (Some f) → f.message.stream ≡ id → IsCurrent (floors_raised queue.streams history) f → ⊥
    none_current = none_current_now history queue.streams counts id

    ending : (newest : Option ℕ) → (asked id).newest ≡ newest → is_handed_out (stream_named id queue.streams).pause ≡ true → (stream_named id (queue_committed queue).streams).messages ≡ (stream_named id queue.streams).messages
        → (stream_named id (queue_committed queue).streams).pause ≡ Open → HaltsIfAsked newest history queue id → SendsByEpoch count (floors_raised queue.streams history) (queue_committed queue) id (newest_ended (asked id))
    ending None is handed messages pause stops =
        rw is (record {
          from = record { sent = λ n f at on is'. absurd (none_current handed n f at on is'); waits = subst (λ (l : List Waiting). AllFrom (asked id).ended l) (sym messages) e.from.waits };
          stops = tt;
          newest = λ place same. absurd (cc);
          ended = e.ended;
        })
    ending (Some place) is handed messages pause stops =
        let its = stops (shut (stream_named id queue.streams).pause handed) in
        let waits : AllFrom place (stream_named id queue.streams).messages =
        subst (λ (b : Bool). AllFrom place (drop (if b then 1 else 0) (stream_named id queue.streams).messages)) (not_under_way id queue.streams kept handed) its.rest in
        rw is (record {
          from = record { sent = λ n f at on is'. absurd (none_current handed n f at on is'); waits = subst (λ (l : List Waiting). AllFrom place l) (sym messages) waits };
          stops = λ paused. absurd (let no : true ≡ false = sym (ap is_open_pause pause) ∙ paused in cc);
          newest = λ other same. (let two : place ≡ other = cc in let up = (e.newest place is).1 in (omega (arith, two), omega (arith, two, up)));
          ended = (e.newest place is).1;
        })
      where
        shut : (p : Pause) → is_handed_out p ≡ true → is_open_pause p ≡ false
        shut Open h = absurd (cc)
        shut Pausing h = absurd (cc)
        shut HandedOut h = refl

    stops_later : (newest : Option ℕ) → IsUnmoved (stream_named id queue.streams) (stream_named id (queue_committed queue).streams) → HaltsIfAsked newest history queue id → HaltsIfAsked newest (floors_raised queue.streams history) (queue_committed queue) id
    stops_later None unmoves stops = tt
    stops_later (Some place) unmoves stops = λ paused. (
        let s = stops (ap is_open_pause (sym unmoves.pause) ∙ paused) in
        record {
          sent = s.sent;
          going = λ w is front. s.going w (ap is_some (sym unmoves.under_way) ∙ is) (ap front_of (sym unmoves.messages) ∙ front);
          rest = subst (λ (l : List Waiting). AllFrom place l) (sym (unbegun_same (stream_named id queue.streams) (stream_named id (queue_committed queue).streams) unmoves.under_way unmoves.messages)) s.rest;
        }
        )

    go : IsEndedAs (stream_named id queue.streams) (stream_named id (queue_committed queue).streams) → SendsByEpoch count (floors_raised queue.streams history) (queue_committed queue) id (asked_ended queue.streams asked id)
    go (ended handed messages pause) = rw handed (ending (asked id).newest refl handed messages pause e.stops)
    go (still kept' unmoves) =
        rw kept' (record {
          from = record {
            sent = λ n f at on is. e.from.sent n f at on (subst (λ (b : Bool). (if b then 2 ^ 32 * (history.floors f.message.stream f.message.is_unordered + length history.log + 1) else history.floors f.message.stream f.message.is_unordered) ≤ f.mid)
                (ap (λ (k : ℕ). is_handed_out (stream_named k queue.streams).pause) on ∙ kept') is);
            waits = subst (λ (l : List Waiting). AllFrom (asked id).ended l) (sym unmoves.messages) e.from.waits;
          };
          stops = stops_later (asked id).newest unmoves e.stops;
          newest = e.newest;
          ended = e.ended;
        })

pub committing_known : (queue : SendQueueState) (id : ℕ) (asked : ℕ → EpochBounds) → (is_open id queue.streams ≡ false → IsKnown (asked id)) → is_open id (queue_committed queue).streams ≡ false → IsKnown (asked_ended queue.streams asked id)
committing_known queue id asked known shut = go (committing_named queue id)
  where
    go : IsEndedAs (stream_named id queue.streams) (stream_named id (queue_committed queue).streams) → IsKnown (asked_ended queue.streams asked id)
    go (ended handed messages pause) = absurd (let no : true ≡ false = sym (ap is_open_pause pause) ∙ shut in cc)
    go (still kept unmoves) = rw kept (known (ap is_open_pause (sym unmoves.pause) ∙ shut))
