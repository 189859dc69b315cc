-- A flush leaves a stream that is sent by epochs so.
use Rattle.std.proofs.Common.{◌≡◌, ℕ, zero, suc, Bool, true, false, ◌<◌, ◌≤◌, ◌+◌, ◌-◌, List, [], ◌∷◌, ◌++◌, length, drop, take, refl, sym, ◌∙◌, ap, arith, subst, inl, inr}
use Rattle.std.specs.Prelude.{Option, None, Some}
use Rattle.std.proofs.lemmas.Bool.Decides.{leb_tells}
use Rattle.dcsctp_spec.specs.Packet.{Emission}
use Rattle.dcsctp_spec.specs.types.declared.sending.UnderWay.{UnderWay}
use Rattle.dcsctp_spec.specs.types.queues.SendStreams.{stream_at}
use Rattle.dcsctp_spec.specs.queues.Transfer.{Transfer, EndpointQueues}
use Rattle.dcsctp_spec.specs.endpoint.Endpoint.{Endpoint}
use Rattle.dcsctp_spec.specs.endpoint.FlushOutcomes.{Ask, Answer, AreFlushAnswers, flush_of}
use Rattle.dcsctp_delivery_directions.specs.sending.Places.{at_place}
use Rattle.dcsctp_delivery_directions.specs.sending.Flushes.{InFlight, QueuesFollowLog}
use Rattle.dcsctp_delivery_directions.specs.sending.Log.{Message, Piece, Slot, History, IsLogOfPieces}
use Rattle.dcsctp_delivery_directions.specs.sending.Numbers.{stream_named, IsCurrent}
use Rattle.dcsctp_delivery_directions.specs.sending.Pieces.{Going, IsGoing, CarriesPiece}
use Rattle.dcsctp_delivery_directions.specs.sending.Stages.{Bears, SaysSlot}
use Rattle.dcsctp_delivery_directions.proofs.sending.Extended.{at_more}
use Rattle.dcsctp_delivery_directions.proofs.sending.Losing.{items_in}
use Rattle.dcsctp_delivery_directions.proofs.sending.OpenOn.{flush_open_on}
use Rattle.dcsctp_delivery_directions.proofs.sending.Places.{at_below, at_some}
use Rattle.dcsctp_delivery_directions.proofs.sending.Stages.{item_at, item_below}
use Rattle.dcsctp_delivery_directions.specs.epochs.Sending.{AllFrom, SendsFrom, EpochBounds, is_open, HaltsIfAsked, SendsByEpoch}
use Rattle.dcsctp_delivery_directions.proofs.epochs.Feeding.{KnowsWays, FeedsStreams}
use Rattle.dcsctp_delivery_directions.proofs.epochs.FlushFeeds.{Flies, FeedsOn, flush_feeds}
use Rattle.dcsctp_delivery_directions.proofs.epochs.Named.{AreApart, AnyPlace, from_feeds, feeds_from, stop_feeds, feeds_going, feeds_rest, named_open, open_named}

-- ---- what is in flight

-- A piece has bytes.
some_bytes : (start size : ℕ) (l : List ℕ) → 0 < size → start + size ≤ length l → take size (drop start l) ≡ [] → ⊥
some_bytes start size [] some low none = absurd (omega (arith, some, low))
some_bytes zero zero (x ∷ l) some low none = absurd (omega (arith, some))
some_bytes zero (suc size) (x ∷ l) some low none = absurd (cc)
some_bytes (suc start) size (x ∷ l) some low none = some_bytes start size l some (omega (arith, low)) none

flight_size : (history : History) (first acknowledged : ℕ) (transfer : Option Transfer) → InFlight history first acknowledged transfer → length history.log ≡ acknowledged + length (items_in transfer)
flight_size history first acknowledged None flight = omega (arith, flight)
flight_size history first acknowledged (Some transfer) flight = flight.count

-- What was sent since is of messages of these places.
module _ (P W : ℕ → Type 0) (a id : ℕ) (queued : List Message) (history later : History) (first acknowledged : ℕ) (before : Option Transfer) (flight : InFlight history first acknowledged before) (cut : IsLogOfPieces queued later.log) where
  -- what is in flight at a place
  flies_at : (transfer : Transfer) → Bears later first acknowledged transfer.retransmission.outstanding → Flies P W a id (length (items_in before)) transfer.retransmission.outstanding.items → (k : ℕ) (f : Piece) → length (items_in before) ≤ k
      → at_place (acknowledged + k) later.log ≡ Some (Some f) → f.message.stream ≡ id → P f.place
  flies_at transfer bears flies k f from at on =
      let below = at_below (acknowledged + k) (Some f) later.log at in
      let count = bears.count in
      let (item, found) = item_at k transfer.retransmission.outstanding.items (omega (arith, below, count)) in
      let says = bears.items k item found in
      let both : Some says.slot ≡ Some (Some f) = sym says.at ∙ at in
      let same : says.slot ≡ Some f = cc in
      let carries : CarriesPiece item.fragment f = subst (SaysSlot item.fragment) same says.says in
      let piece = cut.pieces (acknowledged + k) f at in
      subst P carries.named (flies k item from found (carries.stream ∙ on) (λ none. some_bytes f.start f.size f.message.payload piece.some piece.within (sym carries.payload ∙ none)))

  flown : (after : Option Transfer) → InFlight later first acknowledged after → Flies P W a id (length (items_in before)) (items_in after) → (n : ℕ) (f : Piece) → length history.log ≤ n → at_place n later.log ≡ Some (Some f) → f.message.stream ≡ id → P f.place
  flown None none flies n f low at on =
      absurd (let size = flight_size history first acknowledged before flight in let below = at_below n (Some f) later.log at in omega (arith, low, size, below, none))
  flown (Some transfer) bears flies n f low at on =
      let size = flight_size history first acknowledged before flight in
      flies_at transfer bears flies (n - acknowledged) f (omega (arith, size, low)) (subst (λ (j : ℕ). at_place j later.log ≡ Some (Some f)) (omega (arith, size, low)) at) on

-- ---- a flush

-- A stream that is paused after it was paused before.
pub paused_before : (ask : Ask) (n : ℕ) (e : Endpoint) (draft : Emission) (answers : List Answer) → AreFlushAnswers ask n e draft answers → AreApart e.queues.queue.streams → (id : ℕ) → is_open id (flush_of e draft answers).after.queues.queue.streams ≡ false
    → is_open id e.queues.queue.streams ≡ false
paused_before ask n e draft answers allowed apart id paused = go (is_open id e.queues.queue.streams) refl
  where
    go : (b : Bool) → is_open id e.queues.queue.streams ≡ b → is_open id e.queues.queue.streams ≡ false
    go false is = is
    go true is =
        absurd (let no : true ≡ false = sym (open_named id (flush_of e draft answers).after.queues.queue.streams (flush_open_on id ask n e draft answers allowed (named_open id e.queues.queue.streams apart is))) ∙ paused in cc)

module _ (queued : List Message) (history later : History) (first acknowledged : ℕ) (more : List Slot) (grows : later.log ≡ more ++ history.log) (floors : later.floors ≡ history.floors)
    (ask : Ask) (n : ℕ) (e : Endpoint) (draft : Emission) (answers : List Answer) (allowed : AreFlushAnswers ask n e draft answers) (before : QueuesFollowLog queued history first acknowledged e.queues)
    (after : QueuesFollowLog queued later first acknowledged (flush_of e draft answers).after.queues) (id : ℕ) where
  abbrev queues : EndpointQueues
  queues = (flush_of e draft answers).after.queues

  pub was_sent : (k : ℕ) (f : Piece) → k < length history.log → at_place k later.log ≡ Some (Some f) → at_place k history.log ≡ Some (Some f)
  was_sent k f low at =
      let (slot, was) = at_some k history.log low in
      let both : Some slot ≡ Some (Some f) = sym (at_more more history.log k slot was) ∙ ap (λ (l : List Slot). at_place k l) (sym grows) ∙ at in
      was ∙ both

  was_current : (f : Piece) → IsCurrent later f → IsCurrent history f
  was_current f is = subst (λ (fs : ℕ → Bool → ℕ). fs f.message.stream f.message.is_unordered ≤ f.mid) floors is

  -- what is under way before it
  known : KnowsWays e.queues.queue
  known = record { distinct = before.queue_holds.distinct; named = λ q u is. named_so q u is (before.queue_holds.going q); held = before.numbers.whole.held }
    where
      named_so : (q : ℕ) (u : UnderWay) → (stream_at e.queues.queue.streams q).under_way ≡ Some u → Going queued history.log (stream_at e.queues.queue.streams q) (stream_at e.queues.queue.streams q).under_way
          → (stream_at e.queues.queue.streams q).id ≡ u.stream_id.0
      named_so q u is going = (let g : IsGoing queued history.log (stream_at e.queues.queue.streams q) u = subst (λ (o : Option UnderWay). Going queued history.log (stream_at e.queues.queue.streams q) o) is going in g.is)

  -- the invariant of a flush, before it and after it
  module _ (P W : ℕ → Type 0) (a : ℕ) (feeds : FeedsStreams P W a id e.queues.queue.streams) where
    fed : FeedsOn P W a id (length (items_in e.queues.transfer)) queues.queue (items_in queues.transfer)
    fed =
        flush_feeds P W a id (length (items_in e.queues.transfer)) ask n e draft answers allowed
        (record { fed = record { ways = known; feeds = feeds }; flies = λ k item low at on some. absurd (let below = item_below (items_in e.queues.transfer) k item at in omega (arith, low, below)); count = omega arith })

    -- what was sent is of these places
    sent_so : (k : ℕ) (f : Piece) → length history.log ≤ k → at_place k later.log ≡ Some (Some f) → f.message.stream ≡ id → P f.place
    sent_so k f low at on = flown P W a id queued history later first acknowledged e.queues.transfer before.flight after.cut queues.transfer after.flight fed.flies k f low at on

  flush_from : (place : ℕ) → SendsFrom history e.queues.queue id place → SendsFrom later queues.queue id place
  flush_from place f =
      let feeds = from_feeds place id e.queues.queue.streams before.queue_holds.distinct f.waits in
      record {
        sent = λ k g at on is. elim (leb_tells (suc k) (length history.log)) [
          | inl low ↦ f.sent k g (was_sent k g (let less = low.1 in omega (arith, less)) at) on (was_current g is)
          | inr high ↦ sent_so (λ p. place ≤ p) (λ p. place ≤ p) 0 feeds k g (let less = high.1 in omega (arith, less)) at on
        ];
        waits = feeds_from place id queues.queue.streams (fed (λ p. place ≤ p) (λ p. place ≤ p) 0 feeds).fed.feeds;
      }

  pub flush_stops : (newest : Option ℕ) → HaltsIfAsked newest history e.queues.queue id → HaltsIfAsked newest later queues.queue id
  flush_stops None stops = tt
  flush_stops (Some place) stops = λ paused. (
      let s = stops (paused_before ask n e draft answers allowed before.queue_holds.distinct id paused) in
      let feeds = stop_feeds place id e.queues.queue.streams before.queue_holds.distinct (paused_before ask n e draft answers allowed before.queue_holds.distinct id paused) s.going s.rest in
      let done = (fed (λ p. p < place) AnyPlace place feeds).fed.feeds in
      record {
        sent = λ k g at on. elim (leb_tells (suc k) (length history.log)) [
          | inl low ↦ s.sent k g (was_sent k g (let less = low.1 in omega (arith, less)) at) on
          | inr high ↦ sent_so (λ p. p < place) AnyPlace place feeds k g (let less = high.1 in omega (arith, less)) at on
        ];
        going = feeds_going place id queues.queue.streams done;
        rest = feeds_rest place id queues.queue.streams done;
      }
      )

  -- What waits on the stream since this place still does, and nothing older was sent.
  pub flush_waits : (place : ℕ) → AllFrom place (stream_named id e.queues.queue.streams).messages
      → AllFrom place (stream_named id queues.queue.streams).messages × ((k : ℕ) (f : Piece) → length history.log ≤ k → at_place k later.log ≡ Some (Some f) → f.message.stream ≡ id → place ≤ f.place)
  flush_waits place are =
      let feeds = from_feeds place id e.queues.queue.streams before.queue_holds.distinct are in
      (feeds_from place id queues.queue.streams (fed (λ p. place ≤ p) (λ p. place ≤ p) 0 feeds).fed.feeds, sent_so (λ p. place ≤ p) (λ p. place ≤ p) 0 feeds)

  pub flush_by_epoch : (count : ℕ) (asked : EpochBounds) → SendsByEpoch count history e.queues.queue id asked → SendsByEpoch count later queues.queue id asked
  flush_by_epoch count asked s =
      record { from = flush_from asked.ended s.from; stops = flush_stops asked.newest s.stops; newest = s.newest; ended = s.ended }
