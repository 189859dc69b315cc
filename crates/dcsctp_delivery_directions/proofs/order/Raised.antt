-- A reset ends: the messages of the streams that were handed out are numbered from 0 again, and these
-- streams are in order, as before they were quiet.
use Rattle.std.proofs.Common.{◌≡◌, ℕ, Bool, true, false, ◌<◌, ◌≤◌, ◌+◌, ◌*◌, ◌^◌, List, [], ◌∷◌, ◌++◌, length, refl, sym, ◌∙◌, ap, arith, subst, inl, inr}
use Rattle.std.specs.Prelude.{◌≢◌, ◌⊎◌, if◌then◌else◌, Some}
use Rattle.std.specs.List.{AllByRecursion}
use Rattle.dcsctp_spec_lemmas.specs.types.declared.arrivals.SkippedTo.{SkippedTo}
use Rattle.dcsctp_spec_lemmas.specs.types.declared.arrivals.SkippedTo.TheVariants.{Mid}
use Rattle.dcsctp_spec_lemmas.specs.spec.queues.Runs.{WholeModel}
use Rattle.dcsctp_spec_lemmas.specs.spec.queues.IncomingStreams.{StreamModel, new_stream, skipped_stream}
use Rattle.dcsctp_spec_lemmas.specs.spec.queues.Incoming.{stream_on}
use Rattle.dcsctp_spec_lemmas.specs.spec.queues.Reassembly.{ReassemblyState, waiting_of, skips_of}
use Rattle.dcsctp_spec_lemmas.specs.types.queues.SendStreams.{Stream}
use Rattle.dcsctp_spec_lemmas.specs.spec.queues.Tracker.{TrackerState, has_received}
use Rattle.dcsctp_delivery_directions.specs.sending.Places.{HasEntry, at_place}
use Rattle.dcsctp_delivery_directions.proofs.sending.Places.{decide}
use Rattle.dcsctp_delivery_directions.specs.sending.Naming.{IsOfPiece, carries, closes}
use Rattle.dcsctp_delivery_directions.specs.receiving.Received.{kept_entries}
use Rattle.dcsctp_delivery_directions.specs.receiving.Tracked.{tracked_number}
use Rattle.dcsctp_delivery_directions.specs.sending.Log.{Message, Piece, History, IsLogOfPieces, sent_messages}
use Rattle.dcsctp_delivery_directions.specs.sending.Numbers.{AreOfKind, CountsMessages, IsCurrent, is_handed_out, stream_named}
use Rattle.dcsctp_delivery_directions.specs.sending.Queueing.{floors_raised}
use Rattle.dcsctp_delivery_directions.specs.receiving.Clear.{IsClear, IsOver, Unsent, NoneSkips}
use Rattle.dcsctp_delivery_directions.specs.receiving.Ready.{WaitQueued, HoldsIncoming, ordered_base}
use Rattle.dcsctp_delivery_directions.proofs.receiving.Raising.{KeptOr, kept_or_clear, holds_keeps, name_keeps, defers_keeps}
use Rattle.dcsctp_delivery_directions.specs.order.Order.{IsSentAs, IsReadAs, AreReadAs}
use Rattle.dcsctp_delivery_directions.specs.order.Epochs.{SendsEpochsInTurn}
use Rattle.dcsctp_delivery_directions.specs.order.Reading.{CountsFromZero, OrderedStream, Watch}
use Rattle.dcsctp_delivery_directions.specs.order.Incoming.{IsOrderedOrReset, IncomingOrdered}
use Rattle.dcsctp_delivery_directions.specs.order.Received.{none_quiet, ReassemblesInOrder, none_handled, some_handled, HasReceivedInOrder, IsKeptSkip, IsSkipped, KnowsSkips}
use Rattle.dcsctp_delivery_directions.proofs.order.Incoming.{quiet_where, no_gap_where}
use Rattle.dcsctp_delivery_directions.proofs.order.Epochs.{whole_by_epoch}
use Rattle.dcsctp_delivery_directions.proofs.order.Order.{resets_stay}
use Rattle.dcsctp_delivery_directions.proofs.order.Received.{loud_by}
use Rattle.dcsctp_delivery_directions.proofs.order.Unsent.{unsent_ordered}
use Rattle.dcsctp_delivery_directions.specs.order.Parts.{HoldsParts}
use Rattle.dcsctp_delivery_directions.proofs.order.HeldParts.{parts_none, parts_anew, parts_floors}
use Rattle.dcsctp_delivery_directions.specs.order.Queue.{Cut, AreSeparated}

-- ---- a stream whose floor is raised

-- Nothing that was sent on it is current then.
pub none_current_now : (history : History) (streams : List Stream) → CountsMessages history streams → (id : ℕ) → is_handed_out (stream_named id streams).pause ≡ true → (n : ℕ) (f : Piece)
    → at_place n history.log ≡ Some (Some f) → f.message.stream ≡ id → IsCurrent (floors_raised streams history) f → ⊥
none_current_now history streams counts id handed n f at on is =
    let below = counts.below n f at in
    let few = counts.few f.message.stream f.message.is_unordered in
    let high : 2 ^ 32 * (history.floors f.message.stream f.message.is_unordered + length history.log + 1) ≤ f.mid =
    subst (λ (b : Bool). (if b then 2 ^ 32 * (history.floors f.message.stream f.message.is_unordered + length history.log + 1) else history.floors f.message.stream f.message.is_unordered) ≤ f.mid)
    (ap (λ (k : ℕ). is_handed_out (stream_named k streams).pause) on ∙ handed) is in
    omega (arith, below, few, high)

-- ---- a stream whose floor stays

module _ (queued : List Message) (history : History) (floors : ℕ → Bool → ℕ) (id : ℕ) (same_each : (b : Bool) → floors id b ≡ history.floors id b) where
  same : floors id false ≡ history.floors id false
  same = same_each false

  abbrev now : History
  now = record history { floors = floors }

  sent_now : (place mid : ℕ) → IsSentAs history id place mid → IsSentAs now id place mid
  sent_now place mid sent = record { offset = sent.offset; piece = sent.piece; at = sent.at; is = sent.is; stream = sent.stream; ordered = sent.ordered; under = sent.under }

  read_so : (place number : ℕ) → IsReadAs history id place number → IsReadAs now id place number
  read_so place number is = record { mid = is.mid; sent = sent_now place is.mid is.sent; counted = (let counted = is.counted in omega (arith, counted, same)) }

  read_now : (places : List ℕ) (wholes : List WholeModel) → AreReadAs history id places wholes → AreReadAs now id places wholes
  read_now [] [] are = tt
  read_now [] (w ∷ wholes) are = absurd are
  read_now (p ∷ places) [] are = absurd are
  read_now (p ∷ places) (w ∷ wholes) are = (record { mid = are.0.mid; sent = sent_now p are.0.mid are.0.sent; counted = (let counted = are.0.counted in omega (arith, counted, same)) }, read_now places wholes are.1)

  ordered_now : (watch : Watch) (all waits : List ℕ) (stream : StreamModel) → OrderedStream watch queued history id all waits stream → OrderedStream watch queued now id all waits stream
  ordered_now watch all waits stream o =
      record {
        order = record {
          in_order = o.order.in_order;
          below = λ place has on. (let is = o.order.below place has on in record { mid = is.mid; sent = sent_now place is.mid is.sent; below = (let below = is.below in omega (arith, below, same)) });
          waiting = read_now waits stream.waiting o.order.waiting;
          ahead = o.order.ahead;
        };
        reach = o.reach;
        by_epoch = record {
          filled = λ number low less. elim (o.by_epoch.filled number low less) [
            | inl has ↦ inl (record { place = has.place; has = has.has; is = read_so has.place number has.is })
            | inr l ↦ inr (record { offset = l.offset; piece = l.piece; at = l.at; stream = l.stream; ordered = l.ordered; limited = l.limited; from = (let from = l.from in omega (arith, from, same)); only = λ known. (let only = l.only known in omega (arith, only, same)) })
          ];
          since = λ later has on. elim (o.by_epoch.since later has on) [
            | inl r ↦ inl (record { mid = r.mid; sent = sent_now later r.mid r.sent; from = (let from = r.from in omega (arith, from, same)); below = (let below = r.below in omega (arith, below, same)) })
            | inr whole ↦ inr whole
          ];
        };
        separated = o.separated;
        since = λ cut has n f at on high. o.since cut has n f at on (subst (λ (k : ℕ). k ≤ f.mid) (ap (λ (k : ℕ). floors k f.message.is_unordered) on ∙ same_each f.message.is_unordered ∙ ap (λ (k : ℕ). history.floors k f.message.is_unordered) (sym on)) high);
      }

-- ---- all streams

module _ (watch : ℕ → Watch) (queued : List Message) (history : History) (streams : List Stream) (cut : IsLogOfPieces queued history.log) (kinds : AreOfKind true history.log) (counts : (id : ℕ) → CountsFromZero history id) (turns : (id : ℕ) → SendsEpochsInTurn (watch id).asks queued history id) (quiet : ℕ → Bool)
    (silent : (id : ℕ) → quiet id ≡ true → is_handed_out (stream_named id streams).pause ≡ true) (first cumulative : ℕ) (reassembly : ReassemblyState)
    (out : (id : ℕ) → is_handed_out (stream_named id streams).pause ≡ true → Unsent history.log id ⊎ (IsOver history first cumulative id × IsClear id reassembly))
    (none_current : (id : ℕ) → is_handed_out (stream_named id streams).pause ≡ true → (n : ℕ) (f : Piece) → at_place n history.log ≡ Some (Some f) → f.message.stream ≡ id → IsCurrent (floors_raised streams history) f → ⊥) (cuts : ℕ → List Cut)
    (cuts_kept : (id : ℕ) → is_handed_out (stream_named id streams).pause ≡ false → cuts id ≡ (watch id).cuts) where
  -- what is watched once it has ended
  abbrev watch_now : ℕ → Watch
  watch_now id = record (watch id) { cuts = cuts id }

  -- Of each stream that is handed out, the end of its reset separates what was queued before.
  abbrev EndsSeparate : List ℕ → List ℕ → Type 0
  EndsSeparate got read =
      (base : ℕ) (o : IncomingOrdered watch (sent_messages queued history) quiet got base read reassembly.incoming) (id : ℕ) → is_handed_out (stream_named id streams).pause ≡ true
      → AreSeparated (watch id).knows_all (watch id).asks queued id (cuts id) (read ++ o.holds.places)

  abbrev raised : History
  raised = floors_raised streams history

  kept : KeptOr queued history streams (λ id. IsOver history first cumulative id × IsClear id reassembly)
  kept = kept_or_clear queued history streams first cumulative reassembly out

  kept_new : KeptOr queued history streams (λ id. stream_on id reassembly.incoming.streams ≡ new_stream id)
  kept_new id = elim (kept id) [ inl keep ↦ inl keep | inr c ↦ inr c.1.stream ]

  holds_raised : (got : List ℕ) (base : ℕ) (read : List ℕ) → HoldsIncoming queued history got base read reassembly.incoming → HoldsIncoming queued raised got base read reassembly.incoming
  holds_raised got base read holds = holds_keeps queued history streams got base read reassembly.incoming kept_new holds

  no_waits : (got : List ℕ) (id : ℕ) (waits : List ℕ) → WaitQueued queued history got id waits [] → waits ≡ []
  no_waits got id [] wait = refl
  no_waits got id (p ∷ waits) wait = absurd wait

  above : (id : ℕ) → is_handed_out (stream_named id streams).pause ≡ true → (n : ℕ) (f : Piece) → at_place n history.log ≡ Some (Some f) → f.message.stream ≡ id → f.message.is_unordered ≡ false → f.mid < raised.floors id false
  above id handed n f at on ordered =
      let few = (counts id).few n f at on ordered in
      subst (λ (b : Bool). f.mid < (if b then 2 ^ 32 * (history.floors id false + length history.log + 1) else history.floors id false)) (sym handed) (omega (arith, few))

  ordered_raised : (got : List ℕ) (base : ℕ) (read : List ℕ) → EndsSeparate got read → IncomingOrdered watch (sent_messages queued history) quiet got base read reassembly.incoming → IncomingOrdered watch_now (sent_messages queued raised) none_quiet got base read reassembly.incoming
  unfolding holds_raised holds_keeps
  ordered_raised got base read recut o =
      record {
        holds = holds_raised got base read o.holds;
        order = λ id anew. by_pause id (is_handed_out (stream_named id streams).pause) refl;
        within = o.within;
        parts = λ id anew loud. parts_by_pause id (is_handed_out (stream_named id streams).pause) refl;
      }
    where
      parts_by_pause : (id : ℕ) (b : Bool) → is_handed_out (stream_named id streams).pause ≡ b → HoldsParts raised got id (stream_on id reassembly.incoming.streams)
      parts_by_pause id true handed = elim (out id handed) [
        | inl none ↦ parts_none raised got (ordered_base base) id (stream_on id reassembly.incoming.streams) ((holds_raised got base read o.holds).streams_hold id).rows.ordered none
        | inr c ↦ subst (λ (s : StreamModel). HoldsParts raised got id s) (sym c.1.stream) (parts_anew raised got id (λ n f is has. none_current id handed n f is.at is.stream is.current))
      ]
      parts_by_pause id false shut =
          let loud : quiet id ≡ false = loud_by quiet id (λ is. (let clash : true ≡ false = sym (silent id is) ∙ shut in cc)) in
          let same_each : ((b : Bool) → raised.floors id b ≡ history.floors id b) =
          λ b. subst (λ (c : Bool). (if c then 2 ^ 32 * (history.floors id b + length history.log + 1) else history.floors id b) ≡ history.floors id b) (sym shut) refl in
          parts_floors history raised.floors got id (stream_on id reassembly.incoming.streams) same_each (λ same. o.parts id (counts id) loud) refl

      renewed : (id : ℕ) → is_handed_out (stream_named id streams).pause ≡ true → IsClear id reassembly → OrderedStream (watch_now id) queued raised id (read ++ o.holds.places) (o.holds.waits id) (stream_on id reassembly.incoming.streams)
      renewed id handed clear =
          let none : o.holds.waits id ≡ [] = no_waits got id (o.holds.waits id) (subst (λ (s : StreamModel). WaitQueued queued history got id (o.holds.waits id) s.waiting) clear.stream (o.holds.streams_hold id).wait) in
          let between = quiet_where (watch id) queued history (quiet id) id (read ++ o.holds.places) (o.holds.waits id) (stream_on id reassembly.incoming.streams) (o.order id (counts id)) in
          subst (λ (l : List ℕ). OrderedStream (watch_now id) queued raised id (read ++ o.holds.places) l (stream_on id reassembly.incoming.streams)) (sym none)
          (subst (λ (s : StreamModel). OrderedStream (watch_now id) queued raised id (read ++ o.holds.places) [] s) (sym clear.stream)
          (record {
            order = resets_stay queued history id (read ++ o.holds.places) raised.floors (above id handed) between;
            reach = record { from = omega arith; up_to = omega arith };
            by_epoch = whole_by_epoch (watch id).knows_all (watch id).asks queued raised id (read ++ o.holds.places)
                (no_gap_where (watch id) queued history (quiet id) id (read ++ o.holds.places) (o.holds.waits id) (stream_on id reassembly.incoming.streams) cut (counts id) (turns id) (o.order id (counts id)));
            separated = recut base o id handed;
            since = λ cut has n f at on current. absurd (none_current id handed n f at on current);
          }))

      by_pause : (id : ℕ) (b : Bool) → is_handed_out (stream_named id streams).pause ≡ b → OrderedStream (watch_now id) queued raised id (read ++ o.holds.places) (o.holds.waits id) (stream_on id reassembly.incoming.streams)
      by_pause id true handed = elim (out id handed) [
        | inl none ↦ unsent_ordered queued raised id cut kinds none (watch_now id) got base read reassembly.incoming (holds_raised got base read o.holds) (recut base o id handed)
        | inr c ↦ renewed id handed c.1
      ]
      by_pause id false shut =
          let loud : quiet id ≡ false = loud_by quiet id (λ is. (let clash : true ≡ false = sym (silent id is) ∙ shut in cc)) in
          let same_each : ((b : Bool) → raised.floors id b ≡ history.floors id b) =
          λ b. subst (λ (c : Bool). (if c then 2 ^ 32 * (history.floors id b + length history.log + 1) else history.floors id b) ≡ history.floors id b) (sym shut) refl in
          subst (λ (cs : List Cut). OrderedStream (record (watch id) { cuts = cs }) queued raised id (read ++ o.holds.places) (o.holds.waits id) (stream_on id reassembly.incoming.streams)) (sym (cuts_kept id shut))
          (ordered_now queued history raised.floors id same_each (watch id) (read ++ o.holds.places) (o.holds.waits id) (stream_on id reassembly.incoming.streams)
          (subst (λ (b : Bool). IsOrderedOrReset (watch id) b (sent_messages queued history) id (read ++ o.holds.places) (o.holds.waits id) (stream_on id reassembly.incoming.streams)) loud (o.order id (counts id))))

  -- what is skipped is of streams that aren't numbered again
  entry_raised : (reached : ℕ) (entry : SkippedTo) → KeptOr queued history streams (λ id. skipped_stream entry ≢ id) → IsKeptSkip history first reached entry → IsKeptSkip raised first reached entry
  entry_raised reached entry may k = record { offset = k.offset; low = k.low; names = name_keeps queued history streams (k.offset + 1) entry may k.names }

  entries_raised : (reached : ℕ) (entries : List SkippedTo) → KeptOr queued history streams (λ id. NoneSkips id entries) → AllByRecursion (IsKeptSkip history first reached) entries → AllByRecursion (IsKeptSkip raised first reached) entries
  entries_raised reached [] may all = tt
  entries_raised reached (entry ∷ entries) may all = (
    entry_raised reached entry (λ id. elim (may id) [ inl keep ↦ inl keep | inr none ↦ inr none.0 ]) all.0,
    entries_raised reached entries (λ id. elim (may id) [ inl keep ↦ inl keep | inr none ↦ inr none.1 ]) all.1,
  )

  knows_raised : (taken : List ℕ) (tracker : TrackerState) → KnowsSkips watch (sent_messages queued history) quiet first taken tracker reassembly → KnowsSkips watch_now (sent_messages queued raised) none_quiet first taken tracker reassembly
  unfolding entry_raised
  knows_raised taken tracker k =
      record {
        kept = entries_raised tracker.cumulative (kept_entries (skips_of reassembly.deferral)) (λ id. elim (kept id) [ inl keep ↦ inl keep | inr c ↦ inr c.1.kept ]) k.kept;
        each = λ small id little knows loud now n f on kind current of received. by_pause id (is_handed_out (stream_named id streams).pause) refl small little knows n f on kind current of received;
      }
    where
      there : (f : Piece) (n : ℕ) → IsOfPiece history.log f n → (m : ℕ) × (at_place m history.log ≡ Some (Some f))
      there f _ (carries n at) = (n, at)
      there f _ (closes n at end) = (n, at)

      by_pause : (id : ℕ) (b : Bool) → is_handed_out (stream_named id streams).pause ≡ b → reassembly.max_size ≤ 2 ^ 63 → id < 2 ^ 16 → (watch id).knows_all ≡ true
          → (n : ℕ) (f : Piece) → f.message.stream ≡ id → f.message.is_unordered ≡ false → IsCurrent raised f → IsOfPiece history.log f n → has_received tracker (tracked_number first n) ≡ true
          → (HasEntry n taken × (at_place n history.log ≡ Some (Some f))) ⊎ IsSkipped raised first id (record { cumulative = tracker.cumulative; next = (stream_on id reassembly.incoming.streams).next; skips = (skips_of reassembly.deferral) }) f n
      by_pause id true handed small little knows n f on kind current of received = absurd (let (m, at) = there f n of in none_current id handed m f at on current)
      by_pause id false shut small little knows n f on kind current of received =
          let loud : quiet id ≡ false = loud_by quiet id (λ is. (let clash : true ≡ false = sym (silent id is) ∙ shut in cc)) in
          let same : ((b : Bool) → raised.floors id b ≡ history.floors id b) =
          λ b. subst (λ (c : Bool). (if c then 2 ^ 32 * (history.floors id b + length history.log + 1) else history.floors id b) ≡ history.floors id b) (sym shut) refl in
          let was : history.floors f.message.stream f.message.is_unordered ≤ f.mid =
          subst (λ (j : ℕ). j ≤ f.mid) (ap (λ (s : ℕ). raised.floors s f.message.is_unordered) on ∙ same f.message.is_unordered ∙ ap (λ (s : ℕ). history.floors s f.message.is_unordered) (sym on)) current in
          let floor = same false in
          elim (k.each small id little knows loud (counts id) n f on kind was of received) [
            | inl t ↦ inl t
            | inr s ↦ elim s [
              | inl past ↦ inr (inl (omega (arith, past, floor)))
              | inr w ↦ inr (inr (record {
                mid = w.mid;
                has = w.has;
                kept = entry_raised tracker.cumulative (Mid (record { 0 = id }) false w.mid) (λ other. elim (decide other id) [
                  | inl e ↦ inl (λ m g at' on' current'. subst (λ (j : ℕ). j ≤ g.mid) (ap (λ (s' : ℕ). history.floors s' g.message.is_unordered) (on' ∙ e) ∙ sym (same g.message.is_unordered) ∙ ap (λ (s' : ℕ). raised.floors s' g.message.is_unordered) (sym (on' ∙ e))) current')
                  | inr ne ↦ inr (λ is. ne (sym is))
                ]) w.kept;
                below = w.below;
              }))
            ]
          ]

  pub raised_in_order : (read : List ℕ) (tracker : TrackerState) → (r : HasReceivedInOrder watch (sent_messages queued history) quiet first read tracker reassembly) → ((got : List ℕ) → got ≡ r.got → EndsSeparate got read) → HasReceivedInOrder watch_now (sent_messages queued raised) none_quiet first read tracker reassembly
  raised_in_order read tracker r recut =
      record {
        taken = r.taken;
        got = r.got;
        later = r.later;
        tracks = r.tracks;
        got_taken = r.got_taken;
        later_taken = r.later_taken;
        either = r.either;
        exact = λ small k is. r.exact small k (record { piece = is.piece; at = is.at; free = is.free; known = is.known });
        apart = r.apart;
        distinct = r.distinct;
        holds = go r.holds;
        defers = defers_keeps queued history streams first r.later (waiting_of reassembly.deferral) (λ id. elim (kept id) [ inl keep ↦ inl keep | inr c ↦ inr c.1.none ]) r.defers;
        skips = knows_raised r.taken tracker r.skips;
      }
    where
      go : ReassemblesInOrder watch (sent_messages queued history) quiet first r.got read reassembly.incoming → ReassemblesInOrder watch_now (sent_messages queued raised) none_quiet first r.got read reassembly.incoming
      go (none_handled none last empty) = none_handled none last (λ base. ordered_raised [] base read (recut [] (sym none)) (empty base))
      go (some_handled base is holds) = some_handled base is (ordered_raised r.got base read (recut r.got refl) holds)
