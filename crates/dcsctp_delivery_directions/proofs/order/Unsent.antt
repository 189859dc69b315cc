-- A stream of which nothing was sent is in order.
use Rattle.std.proofs.Common.{◌≡◌, ℕ, Bool, true, ◌+◌, ◌^◌, List, [], ◌∷◌, ◌++◌, sym, ◌∙◌, ap, arith, subst, length}
use Rattle.std.specs.Prelude.{Option, None, Some}
use Rattle.std.specs.List.{AllByRecursion}
use Rattle.dcsctp_spec_lemmas.specs.types.declared.arrivals.SkippedTo.{SkippedTo}
use Rattle.dcsctp_spec_lemmas.specs.spec.queues.Runs.{WholeModel}
use Rattle.dcsctp_spec_lemmas.specs.spec.queues.IncomingStreams.{StreamModel}
use Rattle.dcsctp_spec_lemmas.specs.spec.queues.Incoming.{IncomingModel, stream_on}
use Rattle.dcsctp_spec_lemmas.specs.spec.queues.Reassembly.{WaitingSkips, DeferralModel, ReassemblyState, skips_of}
use Rattle.dcsctp_spec_lemmas.specs.spec.queues.Tracker.{TrackerState}
use Rattle.dcsctp_delivery_directions.specs.sending.Places.{HasEntry, at_place}
use Rattle.dcsctp_delivery_directions.specs.sending.Log.{Message, Piece, Slot, History, IsLogOfPieces, sent_messages}
use Rattle.dcsctp_delivery_directions.specs.sending.Numbers.{AreOfKind}
use Rattle.dcsctp_delivery_directions.specs.receiving.Clear.{Unsent}
use Rattle.dcsctp_delivery_directions.specs.receiving.Ready.{WaitQueued, IsNear, fresh, near, HoldsIncoming, ordered_base}
use Rattle.dcsctp_delivery_directions.specs.receiving.Received.{Reassembles, untouched, placed, HasReceived, SkipsLater, SkipsWait, ForwardsWait, kept_entries}
use Rattle.dcsctp_delivery_directions.specs.sending.Naming.{IsOfPiece, carries, closes}
use Rattle.dcsctp_delivery_directions.specs.order.Queue.{IsOrderedOn, AreSeparated}
use Rattle.dcsctp_delivery_directions.specs.order.Order.{AreReadAs}
use Rattle.dcsctp_delivery_directions.specs.order.Rising.{AscendFrom}
use Rattle.dcsctp_delivery_directions.specs.order.Reading.{OrderedStream, Watch, uncut}
use Rattle.dcsctp_delivery_directions.specs.order.Incoming.{IncomingOrdered}
use Rattle.dcsctp_delivery_directions.specs.order.Received.{none_quiet, ReassemblesInOrder, none_handled, some_handled, HasReceivedInOrder, IsKeptSkip}
use Rattle.dcsctp_delivery_directions.proofs.order.Order.{in_order_none}
use Rattle.dcsctp_delivery_directions.proofs.order.HeldParts.{parts_none}
use Rattle.dcsctp_delivery_directions.specs.receiving.Tracked.{tracked_number}

is_first : (next : ℕ) → IsNear (next + 1) next → next ≡ 2 ^ 32
is_first next (fresh e) = e
is_first next (near base same small low high) = absurd (omega (arith, same, low, high))

module _ (queued : List Message) (history : History) (id : ℕ) (cut : IsLogOfPieces queued history.log) (kinds : AreOfKind true history.log) (none : Unsent history.log id) where
  none_wait : (got : List ℕ) (waits : List ℕ) (waiting : List WholeModel) → WaitQueued queued history got id waits waiting → (next : ℕ) → AreReadAs history id waits waiting × AscendFrom next waiting
  none_wait got [] [] wait next = (tt, tt)
  none_wait got [] (w ∷ waiting) wait next = absurd wait
  none_wait got (p ∷ waits) [] wait next = absurd wait
  none_wait got (p ∷ waits) (w ∷ waiting) wait next = absurd (none wait.0.offset wait.0.head wait.0.at wait.0.number.0)

  pub unsent_ordered : (watch : Watch) (got : List ℕ) (base : ℕ) (read : List ℕ) (incoming : IncomingModel) (holds : HoldsIncoming queued history got base read incoming) → AreSeparated watch.knows_all watch.asks queued id watch.cuts (read ++ holds.places)
      → OrderedStream watch queued history id (read ++ holds.places) (holds.waits id) (stream_on id incoming.streams)
  unsent_ordered watch got base read incoming holds separated =
      let here = holds.streams_hold id in
      let stream : StreamModel = stream_on id incoming.streams in
      let waits = none_wait got (holds.waits id) stream.waiting here.wait (stream.next + 1) in
      let next : stream.next ≡ 2 ^ 32 =
      is_first stream.next (here.rows.next (stream.next + 1) (record { kinds = kinds; from = λ n f at on kind is. absurd (none n f at on); below = λ n f at on kind is. absurd (none n f at on) })) in
      record {
        order = record { in_order = in_order_none queued id (read ++ holds.places) elsewhere; below = λ place has on. absurd (elsewhere place has on); waiting = waits.0; ahead = waits.1 };
        reach = record { from = omega (arith, next); up_to = omega (arith, next) };
        by_epoch = record { filled = λ number low less. absurd (omega (arith, next, low, less)); since = λ later has on. absurd (elsewhere later has on) };
        separated = separated;
        since = λ cut has n f at on. absurd (none n f at on);
      }
    where
      elsewhere : (p : ℕ) → HasEntry p (read ++ holds.places) → IsOrderedOn queued id p → ⊥
      elsewhere p has on =
          let spent = holds.spent p has in
          let both : Some spent.head.message ≡ Some on.message = sym (cut.pieces spent.offset spent.head spent.at_head).at ∙ ap (λ (k : ℕ). at_place k queued) spent.is ∙ on.at in
          let same : spent.head.message ≡ on.message = cc in
          none spent.offset spent.head spent.at_head (ap (λ (m : Message). m.stream) same ∙ on.stream)

-- ---- nothing was sent yet

module _ (queued : List Message) (history : History) (empty : history.log ≡ []) where
  nowhere : (n : ℕ) (slot : Slot) → at_place n history.log ≡ Some slot → ⊥
  nowhere n slot at = (let none : at_place n [] ≡ Some slot = subst (λ (l : List Slot). at_place n l ≡ Some slot) empty at in absurd (cc))

  no_cut : IsLogOfPieces queued history.log
  no_cut =
      record {
        pieces = λ n f at. absurd (nowhere n (Some f) at);
        rows = λ n f at started earlier. absurd (nowhere n (Some f) at);
        ascends = λ m n f g less at at'. absurd (nowhere m (Some f) at);
        climbs = λ m n f g less at at'. absurd (nowhere m (Some f) at);
        shuts = λ n f at. absurd (nowhere n (Some f) at);
        ends = λ m n f g less at. absurd (nowhere m (Some f) at);
      }

  holds_none : (knows_all : Bool) (asks : ℕ → ℕ → Bool) (got : List ℕ) (base : ℕ) (read : List ℕ) (incoming : IncomingModel) → ((n : ℕ) → HasEntry n got → ⊥) → HoldsIncoming queued history got base read incoming → IncomingOrdered (uncut knows_all asks) (sent_messages queued history) none_quiet got base read incoming
  holds_none knows_all asks got base read incoming none holds =
      record {
        holds = holds;
        order = λ id counts. unsent_ordered queued history id no_cut (λ n f at. absurd (nowhere n (Some f) at)) (λ n f at on. absurd (nowhere n (Some f) at)) (uncut knows_all asks id) got base read incoming holds (λ cut has. absurd has);
        within = λ n has. absurd (none n has);
        parts = λ id counts loud. parts_none history got (ordered_base base) id (stream_on id incoming.streams) (holds.streams_hold id).rows.ordered (λ n f at on. nowhere n (Some f) at);
      }

  pub reassembles_none : (knows_all : Bool) (asks : ℕ → ℕ → Bool) (first : ℕ) (got read : List ℕ) (incoming : IncomingModel) → ((n : ℕ) → HasEntry n got → ⊥) → Reassembles queued history first got read incoming → ReassemblesInOrder (uncut knows_all asks) (sent_messages queued history) none_quiet first got read incoming
  reassembles_none knows_all asks first got read incoming none (untouched none' last empty') = none_handled none' last (λ base. holds_none knows_all asks [] base read incoming (λ n has. absurd has) (empty' base))
  reassembles_none knows_all asks first got read incoming none (placed base is holds) = some_handled base is (holds_none knows_all asks got base read incoming none holds)

  pub received_none : (knows_all : Bool) (asks : ℕ → ℕ → Bool) (first : ℕ) (read : List ℕ) (tracker : TrackerState) (reassembly : ReassemblyState) → HasReceived queued history first read tracker reassembly
      → HasReceivedInOrder (uncut knows_all asks) (sent_messages queued history) none_quiet first read tracker reassembly
  received_none knows_all asks first read tracker reassembly r =
      record {
        taken = r.taken;
        got = r.got;
        later = r.later;
        tracks = r.tracks;
        got_taken = r.got_taken;
        later_taken = r.later_taken;
        either = λ k has. absurd (none_taken k has);
        exact = λ small k is. absurd (nowhere k (Some is.piece) is.at);
        apart = r.apart;
        distinct = r.distinct;
        holds = reassembles_none knows_all asks first r.got read reassembly.incoming none_got r.holds;
        defers = r.defers;
        skips = record { kept = none_kept reassembly.deferral r.forwards; each = λ small id little knows loud counts n f on kind current of. absurd (no_piece n f of) };
      }
    where
      no_piece : (n : ℕ) (f : Piece) → IsOfPiece history.log f n → ⊥
      no_piece _ f (carries n at) = nowhere n (Some f) at
      no_piece _ f (closes n at end) = nowhere n (Some f) at

      none_among : (last_tsn : ℕ) (entries : List SkippedTo) → AllByRecursion (SkipsLater history first last_tsn) entries → AllByRecursion (IsKeptSkip history first tracker.cumulative) entries
      none_among last_tsn [] all = tt
      none_among last_tsn (entry ∷ entries) all = absurd
          (let sizes : length history.log ≡ 0 = ap (λ (l : List Slot). length l) empty in
          let below = all.0.tsn_is.below in
          omega (arith, sizes, below))

      by_skips : (last_tsn : ℕ) (skips : Option WaitingSkips) → SkipsWait history first last_tsn skips → AllByRecursion (IsKeptSkip history first tracker.cumulative) (kept_entries skips)
      by_skips last_tsn None wait = tt
      by_skips last_tsn (Some skips) wait = none_among last_tsn (kept_entries (Some skips)) wait.1

      none_kept : (d : Option DeferralModel) → ForwardsWait history first d → AllByRecursion (IsKeptSkip history first tracker.cumulative) (kept_entries (skips_of d))
      none_kept None wait = tt
      none_kept (Some d) wait = by_skips d.last_tsn d.skips wait

      none_taken : (n : ℕ) → HasEntry n r.taken → ⊥
      none_taken n has =
          let sent = r.tracks.sent (tracked_number first n) (r.tracks.received n has) in
          let sizes : length history.log ≡ 0 = ap (λ (l : List Slot). length l) empty in
          omega (arith, sent, sizes)

      none_got : (n : ℕ) → HasEntry n r.got → ⊥
      none_got n has = none_taken n (r.got_taken n has)
