-- What the receiver of a direction has, with the streams that are quiet: it has reset them, and their
-- messages aren't numbered from 0 yet. Their sender has handed them out for a reset, and sends nothing
-- on them.
use Rattle.std.proofs.Common.{◌≡◌, ℕ, Bool, true, false, ◌<◌, ◌≤◌, ◌+◌, ◌-◌, ◌%◌, ◌^◌, List, [], ◌∷◌, ◌++◌, length, refl, sym, ◌∙◌, ap, arith, subst, inl, inr, Option, None, is_some}
use Rattle.std.specs.Prelude.{◌⊎◌, ◌||◌, not, Some}
use Rattle.std.proofs.lemmas.List.{length-append}
use Rattle.dcsctp_spec_lemmas.specs.types.queues.Messages.{MessageContent}
use Rattle.dcsctp_spec_lemmas.specs.types.queues.SendStreams.{Stream}
use Rattle.dcsctp_spec_lemmas.specs.spec.endpoint.BegunResets.{BegunReset}
use Rattle.dcsctp_spec_lemmas.specs.spec.queues.Incoming.{IncomingModel, stream_on, ResetsStreams}
use Rattle.dcsctp_spec_lemmas.specs.spec.queues.IncomingStreams.{new_stream}
use Rattle.dcsctp_spec_lemmas.specs.spec.queues.Numbers.{is_tsn_beyond}
use Rattle.dcsctp_spec_lemmas.specs.spec.queues.Reassembly.{ReassemblyState, names_stream, waiting_of, skips_of, EndsDeferral}
use Rattle.dcsctp_spec_lemmas.specs.spec.queues.Tracker.{TrackerState}
use Rattle.dcsctp_delivery_directions.specs.sending.Places.{HasEntry, at_place}
use Rattle.dcsctp_delivery_directions.specs.sending.Log.{Message, Slot, Mark, History, sent_messages, Piece, newest_on, IsEndOrClosed}
use Rattle.dcsctp_delivery_directions.specs.sending.Numbers.{IsCurrent, is_handed_out, stream_named}
use Rattle.dcsctp_delivery_directions.proofs.sending.Extended.{at_more}
use Rattle.dcsctp_delivery_directions.specs.receiving.Clear.{NoneSkips, NoneWaits, IsClear, IsOver, IsOwn}
use Rattle.dcsctp_delivery_directions.specs.receiving.Ready.{AreDistinct, WereQueued, ordered_base}
use Rattle.dcsctp_delivery_directions.specs.receiving.Received.{kept_entries, HasReceived, Few}
use Rattle.dcsctp_delivery_directions.specs.receiving.Tracked.{tracked_number}
use Rattle.dcsctp_delivery_directions.proofs.receiving.Clear.{left_clear, clear_through_resets}
use Rattle.dcsctp_delivery_directions.proofs.receiving.Clearing.{none_waits, none_kept}
use Rattle.dcsctp_delivery_directions.proofs.receiving.Growing.{were_more}
use Rattle.dcsctp_delivery_directions.specs.directions.Directions.{Direction, is_reset_reached}
use Rattle.dcsctp_delivery_directions.proofs.directions.Cleared.{not_new}
use Rattle.dcsctp_delivery_directions.proofs.directions.Continuing.{IsOutFor, NamedAreOut, Continues}
use Rattle.dcsctp_delivery_directions.proofs.directions.Performing.{IsNewest, newest_of, passed_before}
use Rattle.dcsctp_delivery_directions.proofs.directions.Receiving.{known_log, known_few, known_kinds}
use Rattle.dcsctp_delivery_directions.proofs.directions.Standing.{Stands}
use Rattle.dcsctp_delivery_directions.specs.order.Epochs.{SendsEpochsInTurn}
use Rattle.dcsctp_delivery_directions.specs.order.Received.{HasReceivedInOrder}
use Rattle.dcsctp_delivery_directions.proofs.order.Ending.{quiet_with, ends_in_order, NamedAreReadOf}
use Rattle.dcsctp_delivery_directions.proofs.order.Taken.{received_later}
use Rattle.dcsctp_delivery_directions.specs.order.Reading.{Watch, ComeSince}
use Rattle.dcsctp_delivery_directions.specs.order.Incoming.{SendsNoMore, IsOrderedOrReset}
use Rattle.dcsctp_delivery_directions.specs.sending.Naming.{IsOfPiece}
use Rattle.dcsctp_delivery_directions.proofs.receiving.Arriving.{fits_at}
use Rattle.dcsctp_delivery_directions.proofs.order.HandledOrPast.{handled_or_past}
use Rattle.dcsctp_delivery_directions.proofs.order.AllSent.{all_sent_are_read}
use Rattle.dcsctp_spec.specs.types.declared.sending.UnderWay.{UnderWay}

-- The stream is handed out, all its pieces came before a reset up to which all was received, and it is clear.
pub record IsSilent (history : History) (first cumulative : ℕ) (streams : List Stream) (reassembly : ReassemblyState) (id : ℕ) : Type 0 where
  pub handed : is_handed_out (stream_named id streams).pause ≡ true
  pub over : IsOver history first cumulative id
  pub clear : IsClear id reassembly

-- Each quiet stream is.
abbrev pub AreSilent : (ℕ → Bool) → History → ℕ → ℕ → List Stream → ReassemblyState → Type 0
AreSilent quiet history first cumulative streams reassembly = (id : ℕ) → quiet id ≡ true → IsSilent history first cumulative streams reassembly id

-- What was read was queued, and what was received is in order. `streams` are those of the sender's queue.
pub record Arrives (watch : ℕ → Watch) (first : ℕ) (history : History) (queued : List Message) (read : List MessageContent) (tracker : TrackerState) (reassembly : ReassemblyState) (streams : List Stream) : Type 0 where
  pub places : List ℕ
  pub were : WereQueued queued places read
  pub once : AreDistinct places
  pub quiet : ℕ → Bool
  pub received : HasReceivedInOrder watch (sent_messages queued history) quiet first places tracker reassembly
  pub silent : AreSilent quiet history first tracker.cumulative streams reassembly

-- ---- the history continues

module _ (watch : ℕ → Watch) (first : ℕ) (history later : History) (before after : List Stream) (out left : ℕ) (c : Continues history later before after out left) where
  silent_later : (quiet : ℕ → Bool) (cumulative : ℕ) (reassembly : ReassemblyState) → AreSilent quiet history first cumulative before reassembly → AreSilent quiet later first cumulative after reassembly
  silent_later quiet cumulative reassembly silent id is =
      let q = silent id is in
      let handed = c.stay id q.handed in
      record {
        handed = handed;
        over = record {
          mark = q.over.mark;
          has = c.keeps q.over.mark q.over.has;
          names = q.over.names;
          below = λ n f at on. q.over.below n f (not_new c.more history.log after id n f c.kept handed on (ap (λ (l : List Slot). at_place n l) (sym c.log) ∙ at)) on;
          passed = q.over.passed;
        };
        clear = q.clear;
      }

  pub arrives_later : (queued more : List Message) (read : List MessageContent) (tracker : TrackerState) (reassembly : ReassemblyState) → (a : Arrives watch first history queued read tracker reassembly before)
      → ((id : ℕ) → a.quiet id ≡ false → ComeSince history id (watch id).cuts → ComeSince later id (watch id).cuts) → Arrives watch first later (more ++ queued) read tracker reassembly after
  arrives_later queued more read tracker reassembly a fresh =
      record {
        places = a.places;
        were = were_more queued more a.places read a.were;
        once = a.once;
        quiet = a.quiet;
        received = received_later queued more history later
            (record { stays = stays; current = λ n f at is. subst (λ (floors : ℕ → Bool → ℕ). floors f.message.stream f.message.is_unordered ≤ f.mid) (sym c.floors) is; longer = longer; marks = c.marks })
            (record { stays = stays; floors = c.floors }) a.quiet a.places read a.were watch fresh no_more first tracker reassembly a.received;
        silent = silent_later a.quiet tracker.cumulative reassembly a.silent;
      }
    where
      no_more : (id : ℕ) → a.quiet id ≡ true → SendsNoMore history later id
      no_more id is n f at on = not_new c.more history.log after id n f c.kept (c.stay id (a.silent id is).handed) on (ap (λ (l : List Slot). at_place n l) (sym c.log) ∙ at)

      stays : (n : ℕ) (slot : Slot) → at_place n history.log ≡ Some slot → at_place n later.log ≡ Some slot
      stays n slot at = ap (λ (l : List Slot). at_place n l) c.log ∙ at_more c.more history.log n slot at

      longer : length history.log ≤ length later.log
      longer = (let sizes : length later.log ≡ length (c.more ++ history.log) = ap (λ (l : List Slot). length l) c.log in omega (arith, sizes, length-append c.more history.log))

-- ---- a reset is performed

either_quiet : (a b : Bool) → (a || b) ≡ true → (a ≡ true) ⊎ (b ≡ true)
either_quiet true b is = inl refl
either_quiet false b is = inr is

-- a stream that is named is new
named_new : (id : ℕ) (streams : List ℕ) (old between : IncomingModel) → names_stream streams id ≡ true → ResetsStreams streams old between → stream_on id between.streams ≡ new_stream id
named_new id [] old between named resets = resets.streams id
named_new id (one ∷ others) old between named resets = resets.streams id ∙ rw named refl

module _ (watch : ℕ → Watch) (first : ℕ) (old : Direction) (small : first < 2 ^ 32) (s : Stands first old) (turns : (id : ℕ) → SendsEpochsInTurn (watch id).asks old.queued s.history id) (little : length s.history.log < 2 ^ 31) (interleaved : old.queues.queue.is_interleaved ≡ true)
    (newest : BegunReset) (earlier : List BegunReset) (new : ReassemblyState) (asks : old.asking.requests ≡ newest ∷ earlier) (some : 0 < old.asking.out) (named : NamedAreOut s.history old.asking.out old.queues.queue.streams)
    (reached : is_reset_reached newest.reset old.tracker ≡ true) (own : IsOwn newest.reset old.reassembly.deferral) (leaves : EndsDeferral newest.reset.streams old.reassembly new) (window : (id : ℕ) → (watch id).knows_all ≡ true → old.reassembly.max_size ≤ 2 ^ 63) where
  abbrev m : IsNewest s.history.marks newest
  m = newest_of s.history.marks newest earlier (sym s.asked ∙ asks)

  abbrev all : HasReceived old.queued s.history first (s.arrived little).places old.tracker old.reassembly
  all = (s.arrived little).received

  abbrev few : Few s.history first
  few = known_few first old small s little

  has : HasEntry m.mark s.history.marks
  has = subst (λ (l : List Mark). HasEntry m.mark l) (sym m.is) (inl refl)

  last : newest.reset.last_tsn ≡ (first + m.mark.bound + (2 ^ 32 - 1)) % 2 ^ 32
  last = ap (λ (b : BegunReset). b.reset.last_tsn) (sym m.begins) ∙ (s.queues.marks m.mark has).last

  within : m.mark.bound ≤ length s.history.log
  within = (s.queues.marks m.mark has).within

  passed : tracked_number first m.mark.bound ≤ old.tracker.cumulative + 1
  passed =
      passed_before first m.mark.bound old.tracker.cumulative all.tracks.started (let within = within in omega (arith, within, little))
      (subst (λ (k : ℕ). not (is_tsn_beyond k (old.tracker.cumulative % 2 ^ 32)) ≡ true) last reached)

  out : (id : ℕ) → names_stream newest.reset.streams id ≡ true → IsOutFor s.history m.mark old.queues.queue.streams id
  out id names = named m.mark m.earlier m.is some id (subst (λ (b : BegunReset). names_stream b.reset.streams id ≡ true) (sym m.begins) names)

  -- nothing that waits is of these streams
  no_data : (id : ℕ) → IsOutFor s.history m.mark old.queues.queue.streams id → NoneWaits id (waiting_of old.reassembly.deferral)
  no_data id o =
      none_waits s.history first id m.mark (known_kinds first old small s interleaved) few has within o.names o.below all.later old.reassembly.deferral (s.queues.marks m.mark has).last
      (subst (λ (b : BegunReset). IsOwn b.reset old.reassembly.deferral) (sym m.begins) own) all.beyond all.defers

  no_skips : (id : ℕ) → IsOutFor s.history m.mark old.queues.queue.streams id → NoneSkips id (kept_entries (skips_of old.reassembly.deferral))
  no_skips id o =
      none_kept s.history first id m.mark (known_kinds first old small s interleaved) few has within o.names o.below old.reassembly.deferral (s.queues.marks m.mark has).last
      (subst (λ (b : BegunReset). IsOwn b.reset old.reassembly.deferral) (sym m.begins) own) all.forwards

  -- nothing is under way on a stream that is handed out
  rests_on : (id : ℕ) → is_handed_out (stream_named id old.queues.queue.streams).pause ≡ true → (f : Piece) → newest_on id s.history.log ≡ Some f → IsEndOrClosed s.history.log f
  rests_on id handed f at = s.queues.numbers.rests id (go (stream_named id old.queues.queue.streams).under_way refl) f at
    where
      go : (u : Option UnderWay) → (stream_named id old.queues.queue.streams).under_way ≡ u → (stream_named id old.queues.queue.streams).under_way ≡ None
      go None is = is
      go (Some u) is = absurd (let clash : true ≡ false = sym handed ∙ s.queues.numbers.kept id (ap is_some is) in cc)

  -- all that was sent on its streams is read
  named_are_read : (a : Arrives watch first s.history old.queued old.read old.tracker old.reassembly old.queues.queue.streams)
      → NamedAreReadOf watch old.queued s.history first s.queues.cut (known_log first old small s little) few turns a.places a.quiet a.received.got newest.reset.streams old.reassembly.incoming
  named_are_read a now same base o id names loud counts knows n f is free =
      all_sent_are_read (watch id) knows old.queued s.history s.queues.cut (known_log first old small s little) id counts (rests_on id (out id names).handed) now (ordered_base base) (a.places ++ o.holds.places) (o.holds.waits id)
      (stream_on id old.reassembly.incoming.streams) (o.holds.streams_hold id).rows.ordered
      (subst (λ (b : Bool). IsOrderedOrReset (watch id) b (sent_messages old.queued s.history) id (a.places ++ o.holds.places) (o.holds.waits id) (stream_on id old.reassembly.incoming.streams)) loud (o.order id counts))
      each (o.parts id counts loud) n f is free
    where
      each : (k : ℕ) (g : Piece) → g.message.stream ≡ id → g.message.is_unordered ≡ false → IsCurrent s.history g → IsOfPiece s.history.log g k → (j : ℕ) (h : Piece) → at_place j s.history.log ≡ Some (Some h) → h.message.stream ≡ id → k ≤ j
          → (HasEntry k now × (at_place k s.history.log ≡ Some (Some g))) ⊎ (g.mid + 2 ^ 32 < s.history.floors id false + (stream_on id old.reassembly.incoming.streams).next)
      each k g on kind current of j h at on' low =
          let below = (out id names).below j h at on' in
          let up = passed in
          let fits = (fits_at old.queued h.place h.message s.fit (s.queues.cut.pieces j h at).at).stream in
          subst (λ (l : List ℕ). (HasEntry k l × (at_place k s.history.log ≡ Some (Some g))) ⊎ (g.mid + 2 ^ 32 < s.history.floors id false + (stream_on id old.reassembly.incoming.streams).next)) (sym same)
          (handled_or_past watch old.queued s.history a.quiet first a.places old.tracker old.reassembly a.received id (window id knows) (omega (arith, fits, on')) knows loud counts (no_data id (out id names)) (no_skips id (out id names)) k g on kind current of
          (omega (arith, below, up, low)))

  pub performing_arrives : Arrives watch first s.history old.queued old.read old.tracker old.reassembly old.queues.queue.streams → Arrives watch first s.history old.queued old.read old.tracker new old.queues.queue.streams
  performing_arrives a =
      record {
        places = a.places;
        were = a.were;
        once = a.once;
        quiet = quiet_with a.quiet newest.reset.streams;
        received = ends_in_order watch old.queued s.history first s.queues.cut (known_log first old small s little) few turns a.places a.quiet newest.reset.streams old.tracker old.reassembly new
            (λ id is. elim (either_quiet (a.quiet id) (names_stream newest.reset.streams id) is) [ inl was ↦ (a.silent id was).clear.none | inr names ↦ no_data id (out id names) ])
            (λ id is. elim (either_quiet (a.quiet id) (names_stream newest.reset.streams id) is) [ inl was ↦ (a.silent id was).clear.kept | inr names ↦ no_skips id (out id names) ])
            all.forwards (λ id known. window id known) a.received (named_are_read a) leaves;
        silent = λ id is. elim (either_quiet (a.quiet id) (names_stream newest.reset.streams id) is) [
          | inl was ↦ (let q = a.silent id was in record { handed = q.handed; over = q.over; clear = clear_through_resets id newest.reset.streams old.reassembly new q.clear leaves })
          | inr names ↦
              (let o = out id names in
              record {
                handed = o.handed;
                over = record { mark = m.mark; has = has; names = o.names; below = o.below; passed = passed };
                clear = left_clear id newest.reset.streams old.reassembly new (no_data id o) (no_skips id o) (λ between resets. named_new id newest.reset.streams old.reassembly.incoming between names resets) leaves;
              })
        ];
      }

  or_true : (a : Bool) → (a || true) ≡ true
  or_true true = refl
  or_true false = refl

  -- The streams that it names are quiet then.
  pub performed_quiet : (a : Arrives watch first s.history old.queued old.read old.tracker old.reassembly old.queues.queue.streams) (id : ℕ) → names_stream newest.reset.streams id ≡ true → (performing_arrives a).quiet id ≡ true
  unfolding performing_arrives
  performed_quiet a id names = ap (λ (b : Bool). a.quiet id || b) names ∙ or_true (a.quiet id)
