-- One step leaves a stream that is sent as its user asked for resets so, with interleaving or without.
use Rattle.std.proofs.Common.{◌≡◌, ℕ, Bool, true, false, ◌<◌, ◌≤◌, ◌+◌, List, [], ◌∷◌, length, drop, refl, sym, ◌∙◌, ap, arith, subst, inl, inr}
use Rattle.std.specs.Prelude.{Option, None, Some, is_some, if◌then◌else◌}
use Rattle.dcsctp_spec.specs.types.declared.sending.Pause.{Pause}
use Rattle.dcsctp_spec.specs.types.declared.sending.Pause.TheVariants.{Open, Pausing, HandedOut}
use Rattle.dcsctp_spec.specs.types.declared.sending.UnderWay.{UnderWay}
use Rattle.dcsctp_spec.specs.types.queues.SendStreams.{Waiting, Stream, front_of, unused_stream, rolled_back, stream_at}
use Rattle.dcsctp_spec.specs.queues.SendQueue.{SendQueueState}
use Rattle.dcsctp_spec.specs.queues.OwnResets.{is_open_pause, queue_committed, queue_rolled_back}
use Rattle.dcsctp_delivery_directions.specs.sending.Places.{at_place}
use Rattle.dcsctp_delivery_directions.specs.sending.Log.{Message, Piece, Slot, History}
use Rattle.dcsctp_delivery_directions.specs.sending.Numbers.{stream_named, is_handed_out, IsUnderWayKept}
use Rattle.dcsctp_delivery_directions.specs.sending.Pieces.{Going, HoldsQueued}
use Rattle.dcsctp_delivery_directions.proofs.sending.Places.{at_cases, at_below}
use Rattle.dcsctp_delivery_directions.proofs.sending.StreamsNamed.{found_mapped}
use Rattle.dcsctp_delivery_directions.specs.epochs.Sending.{AllFrom, EpochBounds, newest_ended, asked_ended, is_open, HaltsIfAsked, SendsByEpoch, IsKnown}
use Rattle.dcsctp_delivery_directions.specs.epochs.InTurn.{SendsAsAsked, starts_ended}
use Rattle.dcsctp_delivery_directions.proofs.epochs.Alike.{stays_by_epoch}
use Rattle.dcsctp_delivery_directions.proofs.epochs.Ending.{IsEndedAs, ended, still, committing_named}
use Rattle.dcsctp_delivery_directions.proofs.epochs.Feeding.{unbegun_same}
use Rattle.dcsctp_delivery_directions.proofs.epochs.Named.{IsUnmoved, unmoved, named_or_unused}
use Rattle.dcsctp_delivery_directions.proofs.epochs.Queueing.{HasGoing}

-- ---- numbers of messages make no difference

-- above the numbers of all messages that were sent
abbrev pub high_of : List Slot → ℕ
high_of [] = 0
high_of (None ∷ log) = high_of log
high_of (Some f ∷ log) = high_of log + f.mid + 1

below_high : (n : ℕ) (f : Piece) (log : List Slot) → at_place n log ≡ Some (Some f) → f.mid < high_of log
below_high n f [] at = absurd (cc)
below_high n f (None ∷ log) at = elim (at_cases n None (Some f) log at) [ inl e ↦ absurd (let no : ◌≡◌ {A = Slot} None (Some f) = e.1 in cc) | inr before ↦ below_high n f log before ]
below_high n f (Some g ∷ log) at =
    elim (at_cases n (Some g) (Some f) log at) [
      | inl e ↦ (let both : ◌≡◌ {A = Slot} (Some g) (Some f) = e.1 in let same : g ≡ f = cc in let mids : g.mid ≡ f.mid = ap (λ (x : Piece). x.mid) same in omega (arith, mids))
      | inr before ↦ (let low = below_high n f log before in omega (arith, low))
    ]

-- the history, as if nothing had been sent since the last reset
abbrev pub none_since : History → History
none_since history = record history { floors = λ id is_unordered. high_of history.log }

module _ (count : ℕ) (history : History) (queue : SendQueueState) (id : ℕ) where
  stops_to : (newest : Option ℕ) → HaltsIfAsked newest history queue id → HaltsIfAsked newest (none_since history) queue id
  stops_to None s = tt
  stops_to (Some place) s = λ paused. (let h = s paused in record { sent = h.sent; going = h.going; rest = h.rest })

  stops_of : (newest : Option ℕ) → HaltsIfAsked newest (none_since history) queue id → HaltsIfAsked newest history queue id
  stops_of None s = tt
  stops_of (Some place) s = λ paused. (let h = s paused in record { sent = h.sent; going = h.going; rest = h.rest })

  pub to_epoch : (start : ℕ) (asked : EpochBounds) → SendsAsAsked count history queue id start asked → SendsByEpoch count (none_since history) queue id asked
  to_epoch start asked s =
      record {
        from = record { sent = λ n f at on is. absurd (let low = below_high n f history.log at in omega (arith, low, is)); waits = s.waits };
        stops = stops_to asked.newest s.stops;
        newest = s.newest;
        ended = s.ended;
      }

  pub of_epoch : (start : ℕ) (asked : EpochBounds) → ((n : ℕ) (f : Piece) → start ≤ n → at_place n history.log ≡ Some (Some f) → f.message.stream ≡ id → asked.ended ≤ f.place)
      → SendsByEpoch count (none_since history) queue id asked → SendsAsAsked count history queue id start asked
  of_epoch start asked from e = record { from = from; waits = e.from.waits; stops = stops_of asked.newest e.stops; newest = e.newest; ended = e.ended }

-- ---- the queue stays, and no TSN is assigned

pub still_asked : (old new : History) → new.log ≡ old.log → (queue : SendQueueState) (id count start : ℕ) (asked : EpochBounds) → SendsAsAsked count old queue id start asked → SendsAsAsked count new queue id start asked
still_asked old new same queue id count start asked s =
    of_epoch count new queue id start asked (λ n f low at. s.from n f low (ap (λ (l : List Slot). at_place n l) (sym same) ∙ at))
    (stays_by_epoch (none_since old) (none_since new) (record { log = same; floors = ap (λ (l : List Slot). λ (id : ℕ) (is_unordered : Bool). high_of l) same }) queue queue id (unmoved (stream_named id queue.streams)) count count asked (omega arith)
    (to_epoch count old queue id start asked s))

-- ---- the message under way

pub going_front : (queued : List Message) (log : List Slot) (queue : SendQueueState) (id : ℕ) → HoldsQueued queued log queue.streams → HasGoing queue id
going_front queued log queue id holds is =
    elim (named_or_unused id queue.streams) [
      | inl there ↦
          subst (λ (s : Stream). (w : Waiting) × (front_of s.messages ≡ Some w)) (sym there.same)
          (go (stream_at queue.streams there.q) (stream_at queue.streams there.q).under_way (ap (λ (s : Stream). is_some s.under_way) (sym there.same) ∙ is) (holds.going there.q))
      | inr none ↦ absurd (let no : false ≡ true = ap (λ (s : Stream). is_some s.under_way) (sym none) ∙ is in cc)
    ]
  where
    go : (s : Stream) (u : Option UnderWay) → is_some u ≡ true → Going queued log s u → (w : Waiting) × (front_of s.messages ≡ Some w)
    go s None none g = absurd (cc)
    go s (Some u) some g = (g.waiting, g.front)

-- ---- a reset ends

not_under_way : (id : ℕ) (streams : List Stream) → IsUnderWayKept streams → is_handed_out (stream_named id streams).pause ≡ true → is_some (stream_named id streams).under_way ≡ false
not_under_way id streams kept handed = go (is_some (stream_named id streams).under_way) refl
  where
    go : (b : Bool) → is_some (stream_named id streams).under_way ≡ b → is_some (stream_named id streams).under_way ≡ false
    go true is = absurd (let no : true ≡ false = sym handed ∙ kept id is in cc)
    go false is = is

shut : (p : Pause) → is_handed_out p ≡ true → is_open_pause p ≡ false
shut Open h = absurd (cc)
shut Pausing h = absurd (cc)
shut HandedOut h = refl

pub rolling_named : (queue : SendQueueState) (id : ℕ) → IsEndedAs (stream_named id queue.streams) (stream_named id (queue_rolled_back queue).streams)
rolling_named queue id =
    found_mapped IsEndedAs id (unused_stream 0 0 0) rolled_back (λ s. one_id s s.pause refl) (still refl (unmoved (unused_stream 0 0 0))) (λ s here. one s s.pause refl) queue.streams
  where
    one_id : (s : Stream) (p : Pause) → s.pause ≡ p → (rolled_back s).id ≡ s.id
    one_id s Open is = rw is refl
    one_id s Pausing is = rw is refl
    one_id s HandedOut is = rw is refl

    one : (s : Stream) (p : Pause) → s.pause ≡ p → IsEndedAs s (rolled_back s)
    one s Open is = still (ap is_handed_out is) (record { messages = rw is refl; under_way = rw is refl; pause = rw is refl })
    one s Pausing is = still (ap is_handed_out is) (record { messages = rw is refl; under_way = rw is refl; pause = rw is refl })
    one s HandedOut is = ended (ap is_handed_out is) (rw is refl) (rw is refl)

module _ (old later : History) (same : later.log ≡ old.log) (queue new : SendQueueState) (count id start : ℕ) where
  was_at : (n : ℕ) (f : Piece) → at_place n later.log ≡ Some (Some f) → at_place n old.log ≡ Some (Some f)
  was_at n f at = ap (λ (l : List Slot). at_place n l) (sym same) ∙ at

  stops_later : (newest : Option ℕ) → IsUnmoved (stream_named id queue.streams) (stream_named id new.streams) → HaltsIfAsked newest old queue id → HaltsIfAsked newest later new id
  stops_later None unmoves stops = tt
  stops_later (Some place) unmoves stops = λ paused. (
      let s = stops (ap is_open_pause (sym unmoves.pause) ∙ paused) in
      record {
        sent = λ n f at on. s.sent n f (was_at n f at) on;
        going = λ w is front. s.going w (ap is_some (sym unmoves.under_way) ∙ is) (ap front_of (sym unmoves.messages) ∙ front);
        rest = subst (λ (l : List Waiting). AllFrom place l) (sym (unbegun_same (stream_named id queue.streams) (stream_named id new.streams) unmoves.under_way unmoves.messages)) s.rest;
      }
      )

  opened_stops : (newest : Option ℕ) → (stream_named id new.streams).pause ≡ Open → HaltsIfAsked newest later new id
  opened_stops None pause = tt
  opened_stops (Some place) pause = λ paused. absurd (let no : true ≡ false = sym (ap is_open_pause pause) ∙ paused in cc)

  -- what is paused, but not handed out, stays so
  unmoved_asked : (asked : EpochBounds) → IsUnmoved (stream_named id queue.streams) (stream_named id new.streams) → SendsAsAsked count old queue id start asked → SendsAsAsked count later new id start asked
  unmoved_asked asked unmoves s =
      record {
        from = λ n f low at. s.from n f low (was_at n f at);
        waits = subst (λ (l : List Waiting). AllFrom asked.ended l) (sym unmoves.messages) s.waits;
        stops = stops_later asked.newest unmoves s.stops;
        newest = s.newest;
        ended = s.ended;
      }

  -- A request fails: the stream goes on as it was.
  failed_asked : (asked : EpochBounds) → IsEndedAs (stream_named id queue.streams) (stream_named id new.streams) → SendsAsAsked count old queue id start asked → SendsAsAsked count later new id start asked
  failed_asked asked (still kept unmoves) s = unmoved_asked asked unmoves s
  failed_asked asked (ended handed messages pause) s =
      record {
        from = λ n f low at. s.from n f low (was_at n f at);
        waits = subst (λ (l : List Waiting). AllFrom asked.ended l) (sym messages) s.waits;
        stops = opened_stops asked.newest pause;
        newest = s.newest;
        ended = s.ended;
      }

  -- Its reset has ended: the next epoch has begun, after all TSNs that were assigned.
  ended_asked : (newest : Option ℕ) (asked : EpochBounds) → asked.newest ≡ newest → IsUnderWayKept queue.streams → is_handed_out (stream_named id queue.streams).pause ≡ true → (stream_named id new.streams).messages ≡ (stream_named id queue.streams).messages
      → (stream_named id new.streams).pause ≡ Open → SendsAsAsked count old queue id start asked → HaltsIfAsked newest old queue id → SendsAsAsked count later new id (length old.log) (newest_ended asked)
  ended_asked None asked is kept handed messages pause s stops =
      rw is (record {
        from = λ n f low at. absurd (let below = at_below n (Some f) old.log (was_at n f at) in omega (arith, below, low));
        waits = subst (λ (l : List Waiting). AllFrom asked.ended l) (sym messages) s.waits;
        stops = tt;
        newest = λ place none. absurd (cc);
        ended = s.ended;
      })
  ended_asked (Some place) asked is kept handed messages pause s stops =
      let its = stops (shut (stream_named id queue.streams).pause handed) in
      let waits : AllFrom place (stream_named id queue.streams).messages =
      subst (λ (b : Bool). AllFrom place (drop (if b then 1 else 0) (stream_named id queue.streams).messages)) (not_under_way id queue.streams kept handed) its.rest in
      rw is (record {
        from = λ n f low at. absurd (let below = at_below n (Some f) old.log (was_at n f at) in omega (arith, below, low));
        waits = subst (λ (l : List Waiting). AllFrom place l) (sym messages) waits;
        stops = λ paused. absurd (let no : true ≡ false = sym (ap is_open_pause pause) ∙ paused in cc);
        newest = λ other some. (let two : place ≡ other = cc in let up = (s.newest place is).1 in (omega (arith, two), omega (arith, two, up)));
        ended = (s.newest place is).1;
      })

pub committing_asked : (old later : History) (same : later.log ≡ old.log) (queue : SendQueueState) (count id assigned : ℕ) (starts : ℕ → ℕ) (asked : ℕ → EpochBounds) → assigned ≡ length old.log → IsUnderWayKept queue.streams
    → SendsAsAsked count old queue id (starts id) (asked id) → SendsAsAsked count later (queue_committed queue) id (starts_ended queue.streams assigned starts id) (asked_ended queue.streams asked id)
committing_asked old later same queue count id assigned starts asked size kept s = go (committing_named queue id)
  where
    go : IsEndedAs (stream_named id queue.streams) (stream_named id (queue_committed queue).streams) → SendsAsAsked count later (queue_committed queue) id (starts_ended queue.streams assigned starts id) (asked_ended queue.streams asked id)
    go (still not unmoves) = rw not (unmoved_asked old later same queue (queue_committed queue) count id (starts id) (asked id) unmoves s)
    go (ended handed messages pause) =
        rw handed (subst (λ (k : ℕ). SendsAsAsked count later (queue_committed queue) id k (newest_ended (asked id))) (sym size)
        (ended_asked old later same queue (queue_committed queue) count id (starts id) (asked id).newest (asked id) refl kept handed messages pause s s.stops))

pub rolling_asked : (history : History) (queue : SendQueueState) (count id start : ℕ) (asked : EpochBounds) → SendsAsAsked count history queue id start asked → SendsAsAsked count history (queue_rolled_back queue) id start asked
rolling_asked history queue count id start asked s = failed_asked history history refl queue (queue_rolled_back queue) count id start asked (rolling_named queue id) s

pub rolling_known : (queue : SendQueueState) (id : ℕ) (asked : EpochBounds) → (is_open id queue.streams ≡ false → IsKnown asked) → is_open id (queue_rolled_back queue).streams ≡ false → IsKnown asked
rolling_known queue id asked known closed = go (rolling_named queue id)
  where
    go : IsEndedAs (stream_named id queue.streams) (stream_named id (queue_rolled_back queue).streams) → IsKnown asked
    go (ended handed messages pause) = absurd (let no : true ≡ false = sym (ap is_open_pause pause) ∙ closed in cc)
    go (still kept unmoves) = known (ap is_open_pause (sym unmoves.pause) ∙ closed)
