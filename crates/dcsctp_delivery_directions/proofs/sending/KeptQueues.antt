-- What waits outlasts an association, also in another numbering.
use Rattle.std.proofs.Common.{◌≡◌, ◌==◌, ℕ, zero, suc, Bool, true, false, ◌<◌, ◌^◌, List, [], ◌∷◌, length, map, refl, sym, ◌∙◌, ap, arith, subst, inl}
use Rattle.std.specs.Prelude.{Option, None, Some, is_some, if◌then◌else◌}
use Rattle.dcsctp_spec.specs.types.declared.ids.StreamId.{StreamId}
use Rattle.dcsctp_spec.specs.types.declared.sending.UnderWay.{UnderWay}
use Rattle.dcsctp_spec.specs.types.queues.SendStreams.{Waiting, Stream, stream_at, stream_put_back, unused_stream, renumbered_stream}
use Rattle.dcsctp_spec.specs.queues.SendQueue.{SendQueueState, stream_changed, queue_restarted}
use Rattle.dcsctp_delivery_directions.specs.sending.Log.{Message, Slot, History, new_history}
use Rattle.dcsctp_delivery_directions.specs.sending.Pieces.{AllQueued, Ascend, Going, HoldsQueued}
use Rattle.dcsctp_delivery_directions.specs.sending.Queueing.{QueueHolds, QueueWaits}
use Rattle.dcsctp_delivery_directions.proofs.sending.Streams.{Alike}
use Rattle.dcsctp_delivery_directions.proofs.sending.StreamsNamed.{found_mapped, at_mapped, size_mapped}
use Rattle.dcsctp_delivery_directions.proofs.sending.Weights.{weight_same}
use Rattle.dcsctp_delivery_directions.specs.sending.Numbers.{stream_named, IsUnderWayKept, CountsByKind, HoldsWhole, NumbersMessages}
use Rattle.dcsctp_delivery_directions.proofs.sending.Counting.{Begins, counts_idle, counts_anew, ssns_anew}

-- ---- another association

fresh_going : (queued : List Message) (log : List Slot) (stream : Stream) (u : Option UnderWay) → Going queued log stream u → Going queued [] stream u
fresh_going queued log stream None g = tt
fresh_going queued log stream (Some u) g =
    record { place = g.place; message = g.message; at = g.at; unfinished = g.unfinished; begun = g.begun; is = g.is; waiting = g.waiting; front = g.front; named = g.named; came = inl refl }

-- the numbers continue
pub begins_again : (b : Bool) (history : History) (streams : List Stream) (held : Option StreamId) → CountsByKind b history streams held → Begins b streams held
begins_again true history streams held counts = counts_anew history streams held counts
begins_again false history streams held counts = ssns_anew streams held

-- with no message under way they may begin anywhere
pub begins_idle : (b : Bool) (streams : List Stream) (held : Option StreamId) → ((id : ℕ) → (stream_named id streams).under_way ≡ None) → Begins b streams held
begins_idle true streams held idle = counts_idle streams held idle
begins_idle false streams held idle = ssns_anew streams held

-- so they are numbered
pub numbered_new : (queue : SendQueueState) (begins : Begins queue.is_interleaved queue.streams queue.held) → IsUnderWayKept queue.streams → HoldsWhole [] queue → NumbersMessages (new_history begins.floors) queue
numbered_new queue begins kept whole = record { kinds = λ n f at. absurd (cc); counts = begins.counts; kept = kept; whole = whole; rests = λ id none f at. absurd (cc) }

pub whole_new : (log : List Slot) (queue : SendQueueState) → HoldsWhole log queue → HoldsWhole [] queue
whole_new log queue whole = record { each = whole.each; held = whole.held; newest = λ id is. tt }

-- what waits is held also where an association begins
pub kept_queued : (queued : List Message) (log : List Slot) (streams : List Stream) → HoldsQueued queued log streams → HoldsQueued queued [] streams
kept_queued queued log streams queue_holds =
    record {
      wait = queue_holds.wait;
      ascend = queue_holds.ascend;
      beyond = λ q n f at of. absurd (cc);
      distinct = queue_holds.distinct;
      small = queue_holds.small;
      going = λ q. fresh_going queued log (stream_at streams q) (stream_at streams q).under_way (queue_holds.going q);
      room = (let room = queue_holds.room in record { whole = room.whole; count = omega (arith, room.whole) });
    }

pub kept_hold : (queued : List Message) (history : History) (queue : SendQueueState) → QueueHolds queued history queue → QueueWaits queued queue
kept_hold queued history queue queues =
    let begins = begins_again queue.is_interleaved history queue.streams queue.held queues.numbers.counts in
    record {
      floors = begins.floors;
      holds = record {
        queue_holds = kept_queued queued history.log queue.streams queues.queue_holds;
        next = queues.next;
        numbers = numbered_new queue begins queues.numbers.kept (whole_new history.log queue queues.numbers.whole);
      };
    }

-- streams of which numbers and amounts alone changed
pub mapped_alike : (f : Stream → Stream) → ((s : Stream) → (f s).id ≡ s.id) → ((s : Stream) → (f s).messages ≡ s.messages) → ((s : Stream) → (f s).under_way ≡ s.under_way) → (streams : List Stream) → Alike streams (map f streams)
mapped_alike f same_id same same_under_way streams =
    record {
      sizes = size_mapped f streams;
      ids = at_mapped (λ s. s.id) f same_id streams;
      messages = at_mapped (λ s. s.messages) f same streams;
      under_ways = at_mapped (λ s. s.under_way) f same_under_way streams;
    }

-- where an association begins, streams hold the same messages, if what becomes of those under way is under way still, or none is
pub mapped_hold : (queued : List Message) (f : Stream → Stream) → ((s : Stream) → (f s).id ≡ s.id) → ((s : Stream) → (f s).messages ≡ s.messages) → ((s : Stream) → Going queued [] s s.under_way → Going queued [] (f s) (f s).under_way)
    → (streams : List Stream) → HoldsQueued queued [] streams → HoldsQueued queued [] (map f streams)
mapped_hold queued f same_id same goes streams queue_holds =
    record {
      wait = λ q. subst (λ (k : ℕ). AllQueued queued k (stream_at new q).messages) (sym (ids q)) (subst (λ (l : List Waiting). AllQueued queued (stream_at streams q).id l) (sym (messages q)) (queue_holds.wait q));
      ascend = λ q. subst (λ (l : List Waiting). Ascend l) (sym (messages q)) (queue_holds.ascend q);
      beyond = λ q n f at of. absurd (cc);
      distinct = λ p q below below' is. (
          let size : length new ≡ length streams = size_mapped f streams in
          queue_holds.distinct p q (omega (arith, below)) (omega (arith, below')) (sym (ids p) ∙ is ∙ ids q)
          );
      small = λ q. subst (λ (k : ℕ). k < 2 ^ 16) (sym (ids q)) (queue_holds.small q);
      going = going streams queue_holds.going;
      room = (
          let light = weight_same streams new (size_mapped f streams) messages in
          let room = queue_holds.room in
          record { whole = omega (arith, light, room.whole); count = omega (arith, light, room.whole) }
          );
    }
  where
    new : List Stream
    new = map f streams

    ids : (q : ℕ) → (stream_at new q).id ≡ (stream_at streams q).id
    ids = at_mapped (λ s. s.id) f same_id streams

    messages : (q : ℕ) → (stream_at new q).messages ≡ (stream_at streams q).messages
    messages = at_mapped (λ s. s.messages) f same streams

    going : (l : List Stream) → ((q : ℕ) → Going queued [] (stream_at l q) (stream_at l q).under_way) → (q : ℕ) → Going queued [] (stream_at (map f l) q) (stream_at (map f l) q).under_way
    going [] are zero = tt
    going [] are (suc q) = tt
    going (s ∷ l) are zero = goes s (are 0)
    going (s ∷ l) are (suc q) = going l (λ k. are (suc k)) q

pub restarted_hold : (queued : List Message) (history : History) (queue : SendQueueState) → QueueHolds queued history queue → QueueWaits queued (queue_restarted queue)
restarted_hold queued history queue queues =
    record {
      floors = begins.floors;
      holds = record {
        queue_holds = mapped_hold queued renumbered_stream (λ s. refl) (λ s. refl) (λ s going. fresh queued s going) (map stream_put_back queue.streams)
            (mapped_hold queued stream_put_back (λ s. refl) (λ s. refl) (λ s going. tt) queue.streams (kept_queued queued history.log queue.streams queues.queue_holds));
        next = queues.next;
        numbers = numbered_new (queue_restarted queue) begins (λ id some. absurd (clash id some))
            (record { each = λ id w some front kept. absurd (clash id some); held = λ id is. absurd (cc); newest = λ id is. tt });
      };
    }
  where
    idle : (id : ℕ) → (stream_named id (queue_restarted queue).streams).under_way ≡ None
    idle id =
        found_mapped (λ s t. t.under_way ≡ s.under_way) id (unused_stream 0 0 0) renumbered_stream (λ s. refl) refl (λ s is. refl) (map stream_put_back queue.streams)
        ∙ found_mapped (λ s t. t.under_way ≡ None) id (unused_stream 0 0 0) stream_put_back (λ s. refl) refl (λ s is. refl) queue.streams

    begins : Begins (queue_restarted queue).is_interleaved (queue_restarted queue).streams (queue_restarted queue).held
    begins = begins_idle (queue_restarted queue).is_interleaved (queue_restarted queue).streams (queue_restarted queue).held idle

    clash : (id : ℕ) → is_some (stream_named id (queue_restarted queue).streams).under_way ≡ true → ⊥
    clash id some = (let e : false ≡ true = sym (ap is_some (idle id)) ∙ some in absurd (cc))

    fresh : (queued : List Message) (s : Stream) → Going queued [] s s.under_way → Going queued [] (renumbered_stream s) (renumbered_stream s).under_way
    fresh queued s going = go s.under_way going
      where
        go : (u : Option UnderWay) → Going queued [] s u → Going queued [] (renumbered_stream s) u
        go None g = tt
        go (Some u) g = record { place = g.place; message = g.message; at = g.at; unfinished = g.unfinished; begun = g.begun; is = g.is; waiting = g.waiting; front = g.front; named = g.named; came = g.came }

pub one_set : (f : Stream → Stream) → ((s : Stream) → (f s).id ≡ s.id) → ((s : Stream) → (f s).messages ≡ s.messages) → ((s : Stream) → (f s).under_way ≡ s.under_way) → (id : ℕ) (streams : List Stream)
    → Alike streams (stream_changed id f streams)
one_set f same_id same same_under_way id streams =
    mapped_alike (λ s. if s.id == id then f s else s) (λ s. keeps_id (s.id == id) s) (λ s. keeps_messages (s.id == id) s) (λ s. keeps_under_way (s.id == id) s) streams
  where
    keeps_id : (b : Bool) (s : Stream) → (if b then f s else s).id ≡ s.id
    keeps_id true s = same_id s
    keeps_id false s = refl

    keeps_messages : (b : Bool) (s : Stream) → (if b then f s else s).messages ≡ s.messages
    keeps_messages true s = same s
    keeps_messages false s = refl

    keeps_under_way : (b : Bool) (s : Stream) → (if b then f s else s).under_way ≡ s.under_way
    keeps_under_way true s = same_under_way s
    keeps_under_way false s = refl
