-- Where a reset ends, all that was sent on the streams that are handed out is read, if none of it has limits.
use Rattle.std.proofs.Common.{◌≡◌, ℕ, Bool, true, false, ◌<◌, ◌≤◌, ◌^◌, List, ◌++◌, refl, sym, ◌∙◌, ap, arith, subst, inl, inr, Option, None, is_some, length}
use Rattle.std.specs.Prelude.{◌⊎◌, ◌+◌, Some}
use Rattle.dcsctp_spec.specs.types.declared.sending.UnderWay.{UnderWay}
use Rattle.dcsctp_spec_lemmas.specs.spec.queues.Incoming.{stream_on}
use Rattle.dcsctp_delivery_directions.specs.sending.Places.{HasEntry, at_place}
use Rattle.dcsctp_delivery_directions.specs.sending.Log.{Piece, sent_messages, newest_on, IsEndOrClosed}
use Rattle.dcsctp_delivery_directions.specs.sending.Numbers.{IsCurrent, is_handed_out, stream_named, AreFloorsAtZero}
use Rattle.dcsctp_delivery_directions.specs.receiving.Clear.{IsOver, IsClear}
use Rattle.dcsctp_delivery_directions.specs.receiving.Ready.{ordered_base}
use Rattle.dcsctp_delivery_directions.specs.directions.Directions.{Direction}
use Rattle.dcsctp_delivery_directions.proofs.directions.Queued.{is_over}
use Rattle.dcsctp_delivery_directions.proofs.directions.Receiving.{known_log, known_kinds}
use Rattle.dcsctp_delivery_directions.proofs.directions.Standing.{Stands}
use Rattle.dcsctp_delivery_directions.specs.order.Incoming.{IsOrderedOrReset, IncomingOrdered}
use Rattle.dcsctp_delivery_directions.specs.order.Parts.{ReadsAllSent}
use Rattle.dcsctp_delivery_directions.specs.order.Reading.{CountsFromZero, Watch}
use Rattle.dcsctp_delivery_directions.specs.sending.Naming.{IsOfPiece}
use Rattle.dcsctp_delivery_directions.proofs.receiving.Arriving.{fits_at}
use Rattle.dcsctp_delivery_directions.proofs.order.HandledOrPast.{handled_or_past}
use Rattle.dcsctp_delivery_directions.proofs.order.AllSent.{all_sent_are_read}
use Rattle.dcsctp_delivery_directions.proofs.order.Follows.{counts_from_zero}
use Rattle.dcsctp_delivery_directions.proofs.order.Quiet.{Arrives}

module _ (watch : ℕ → Watch) (first : ℕ) (old : Direction) (small : first < 2 ^ 32) (s : Stands first old) (little : length s.history.log < 2 ^ 31) (interleaved : old.queues.queue.is_interleaved ≡ true) (one : old.asking.out ≤ 1) (performed : old.asking.is_performed ≡ true)
    (at_zero : (id : ℕ) → AreFloorsAtZero s.history.floors id) (window : (id : ℕ) → (watch id).knows_all ≡ true → old.reassembly.max_size ≤ 2 ^ 63) (a : Arrives watch first s.history old.queued old.read old.tracker old.reassembly old.queues.queue.streams) where
  counts : (id : ℕ) → CountsFromZero s.history id
  counts id = counts_from_zero old.queued s.history id s.queues.cut (known_log first old small s little) (known_kinds first old small s interleaved) (at_zero id)

  -- nothing is under way on a stream that is handed out
  rests_on : (id : ℕ) → is_handed_out (stream_named id old.queues.queue.streams).pause ≡ true → (f : Piece) → newest_on id s.history.log ≡ Some f → IsEndOrClosed s.history.log f
  rests_on id handed f at = s.queues.numbers.rests id (go (stream_named id old.queues.queue.streams).under_way refl) f at
    where
      go : (u : Option UnderWay) → (stream_named id old.queues.queue.streams).under_way ≡ u → (stream_named id old.queues.queue.streams).under_way ≡ None
      go None is = is
      go (Some u) is = absurd (let clash : true ≡ false = sym handed ∙ s.queues.numbers.kept id (ap is_some is) in cc)

  pub ended_are_read : (got : List ℕ) → got ≡ a.received.got → (base : ℕ) (o : IncomingOrdered watch (sent_messages old.queued s.history) a.quiet got base a.places old.reassembly.incoming) (id : ℕ) → is_handed_out (stream_named id old.queues.queue.streams).pause ≡ true → (watch id).knows_all ≡ true
      → ReadsAllSent s.history id (a.places ++ o.holds.places)
  ended_are_read got same base o id handed knows = by_quiet (a.quiet id) refl
    where
      each : a.quiet id ≡ false → IsOver s.history first old.tracker.cumulative id → IsClear id old.reassembly → (k : ℕ) (g : Piece) → g.message.stream ≡ id → g.message.is_unordered ≡ false → IsCurrent s.history g → IsOfPiece s.history.log g k
          → (j : ℕ) (h : Piece) → at_place j s.history.log ≡ Some (Some h) → h.message.stream ≡ id → k ≤ j
          → (HasEntry k got × (at_place k s.history.log ≡ Some (Some g))) ⊎ (g.mid + 2 ^ 32 < s.history.floors id false + (stream_on id old.reassembly.incoming.streams).next)
      each loud over clear k g on kind current of j h at on' low =
          let below = over.below j h at on' in
          let up = over.passed in
          let fits = (fits_at old.queued h.place h.message s.fit (s.queues.cut.pieces j h at).at).stream in
          subst (λ (l : List ℕ). (HasEntry k l × (at_place k s.history.log ≡ Some (Some g))) ⊎ (g.mid + 2 ^ 32 < s.history.floors id false + (stream_on id old.reassembly.incoming.streams).next)) (sym same)
          (handled_or_past watch old.queued s.history a.quiet first a.places old.tracker old.reassembly a.received id (window id knows) (omega (arith, fits, on')) knows loud (counts id) clear.none clear.kept k g on kind current of (omega (arith, below, up, low)))

      by_quiet : (b : Bool) → a.quiet id ≡ b → ReadsAllSent s.history id (a.places ++ o.holds.places)
      by_quiet true quiet =
          (subst (λ (b : Bool). IsOrderedOrReset (watch id) b (sent_messages old.queued s.history) id (a.places ++ o.holds.places) (o.holds.waits id) (stream_on id old.reassembly.incoming.streams)) quiet (o.order id (counts id))).3 knows
      by_quiet false loud =
          elim (is_over first old s one ((s.arrived little).cleared interleaved performed) id handed) [
            | inl none ↦ λ n f is free. absurd (none n f is.at is.stream)
            | inr c ↦ λ n f is free.
                all_sent_are_read (watch id) knows old.queued s.history s.queues.cut (known_log first old small s little) id (counts id) (rests_on id handed) got (ordered_base base) (a.places ++ o.holds.places) (o.holds.waits id)
                (stream_on id old.reassembly.incoming.streams) (o.holds.streams_hold id).rows.ordered
                (subst (λ (b : Bool). IsOrderedOrReset (watch id) b (sent_messages old.queued s.history) id (a.places ++ o.holds.places) (o.holds.waits id) (stream_on id old.reassembly.incoming.streams)) loud (o.order id (counts id)))
                (each loud c.0 c.1) (o.parts id (counts id) loud) n f is free
          ]
