-- Each step of a direction that ends no reset leaves what was received in order; and so does the end
-- of a reset.
use Rattle.dcsctp_delivery_directions.proofs.directions.InTurn.{turns_of}
use Rattle.std.proofs.Common.{◌≡◌, ℕ, zero, suc, true, false, ◌<◌, ◌≤◌, ◌+◌, ◌-◌, ◌%◌, ◌^◌, List, [], ◌∷◌, ◌++◌, length, sym, ◌∙◌, arith, subst, Bool, inl, inr, Some}
use Rattle.std.specs.Prelude.{◌⊎◌}
use Rattle.std.proofs.lemmas.List.{append-nil}
use Rattle.dcsctp_spec_lemmas.specs.types.declared.arrivals.SkippedTo.{SkippedTo}
use Rattle.dcsctp_spec_lemmas.specs.wire.Content.{data_chunk, i_data_chunk, forward_tsn_chunk, i_forward_tsn_chunk}
use Rattle.dcsctp_spec_lemmas.specs.spec.Packet.{unworked, plain}
use Rattle.dcsctp_spec_lemmas.specs.spec.queues.Arrivals.{Arrival, data_arrival, i_data_arrival, named_skips, skipped_messages}
use Rattle.dcsctp_spec_lemmas.specs.spec.queues.OwnResets.{queue_committed}
use Rattle.dcsctp_spec_lemmas.specs.spec.queues.Reassembly.{ReassemblyState, can_count}
use Rattle.dcsctp_spec_lemmas.specs.spec.queues.Tracker.{TrackerState}
use Rattle.dcsctp_spec_lemmas.specs.spec.queues.Transfer.{Transfer}
use Rattle.dcsctp_spec_lemmas.specs.spec.endpoint.BegunResets.{BegunReset}
use Rattle.dcsctp_spec_lemmas.specs.spec.endpoint.TransferMoves.{ReceivesData, MovesForward, has_room}
use Rattle.dcsctp_delivery_directions.specs.sending.Places.{HasEntry, at_place}
use Rattle.dcsctp_delivery_directions.specs.sending.Flushes.{IsData, IsInterleaved, IsForward, IsPassed, PassesAcknowledged}
use Rattle.dcsctp_delivery_directions.specs.sending.Naming.{IsOfPiece}
use Rattle.dcsctp_delivery_directions.specs.sending.Queueing.{message_of, floors_raised}
use Rattle.dcsctp_delivery_directions.specs.receiving.Clear.{IsClear, IsOver}
use Rattle.dcsctp_delivery_directions.specs.receiving.Ready.{AreDistinct, SkipAll}
use Rattle.dcsctp_delivery_directions.specs.receiving.Received.{Carries, HasReceived}
use Rattle.dcsctp_delivery_directions.proofs.receiving.Arriving.{carries_piece, carries_interleaved}
use Rattle.dcsctp_delivery_directions.proofs.receiving.Clear.{clear_through_data, clear_through_rest}
use Rattle.dcsctp_delivery_directions.proofs.receiving.Distinct.{distinct_with}
use Rattle.dcsctp_delivery_directions.proofs.receiving.Entries.{forward_skips, messages_skipped}
use Rattle.dcsctp_delivery_directions.proofs.receiving.Upward.{received_grows, forward_grows}
use Rattle.dcsctp_delivery_directions.proofs.receiving.Waiting.{both_queued}
use Rattle.dcsctp_delivery_directions.specs.directions.Directions.{Direction, DirectionStep, queues, sets, prepares, commits, rolls_back, flushes, resends, resends_nothing, speaks, asks_again, renews, turns_aside, acknowledges, loses, receives, forwards, receives_interleaved, forwards_interleaved, tracks, defers, performs, performs_earlier, resets, takes}
use Rattle.dcsctp_delivery_directions.proofs.directions.Continuing.{NamedAreOut, EndsNone, continues_same}
use Rattle.dcsctp_delivery_directions.proofs.directions.Queued.{is_over}
use Rattle.dcsctp_delivery_directions.proofs.directions.Receiving.{known_log, known_few, known_kinds, received_at, clears}
use Rattle.dcsctp_delivery_directions.proofs.directions.Standing.{Arrived, Stands, content_said, packet_said}
use Rattle.dcsctp_delivery_directions.specs.order.Reading.{CountsFromZero, Watch}
use Rattle.dcsctp_delivery_directions.specs.order.Epochs.{SendsEpochsInTurn}
use Rattle.dcsctp_delivery_directions.specs.order.Received.{none_quiet, HasReceivedInOrder, IsLastAssigned, IsNamedWaiting}
use Rattle.dcsctp_delivery_directions.proofs.order.Forwarding.{HasSkip}
use Rattle.dcsctp_delivery_directions.proofs.order.ForwardEach.{forward_each}
use Rattle.dcsctp_delivery_directions.proofs.receiving.Tracked.{up_to}
use Rattle.dcsctp_delivery_directions.proofs.order.Follows.{counts_from_zero}
use Rattle.dcsctp_delivery_directions.proofs.order.Quiet.{AreSilent, Arrives, arrives_later, performing_arrives}
use Rattle.dcsctp_delivery_directions.proofs.order.Raised.{none_current_now, raised_in_order}
use Rattle.dcsctp_delivery_directions.proofs.order.Received.{tracked_in_order, deferring_in_order, received_in_order}
use Rattle.dcsctp_delivery_directions.proofs.order.Forwarded.{forwarded_in_order, nothing_in_order}
use Rattle.dcsctp_delivery_directions.proofs.order.Taken.{takes_in_order}
use Rattle.dcsctp_delivery_directions.specs.sending.Log.{sent_messages, Message, Piece, Fits}
use Rattle.dcsctp_delivery_directions.specs.sending.Numbers.{CountsByKind, AreFloorsAtZero, is_handed_out, stream_named}
use Rattle.dcsctp_delivery_directions.proofs.sending.Places.{at_cases}
use Rattle.std.specs.List.{AllByRecursion}
use Rattle.dcsctp_delivery_directions.proofs.order.PlainReceived.{counted_so, piece_small}
use Rattle.dcsctp_delivery_directions.specs.receiving.Tracked.{tracked_number}
use Rattle.dcsctp_delivery_directions.specs.order.Queue.{Cut, AreSeparated}
use Rattle.dcsctp_delivery_directions.specs.order.Incoming.{IncomingOrdered}

-- a message that was queued fits
fit_at : (queued : List Message) (place : ℕ) (message : Message) → AllByRecursion Fits queued → at_place place queued ≡ Some message → Fits message
fit_at [] place message are at = absurd (cc)
fit_at (first ∷ queued) place message are at =
    elim (at_cases place first message queued at) [
      | inl e ↦ subst Fits e.1 are.0
      | inr e ↦ fit_at queued place message are.1 e
    ]

module _ (watch : ℕ → Watch) (first : ℕ) (old : Direction) (small : first < 2 ^ 32) (s : Stands first old) (turns : (id : ℕ) → SendsEpochsInTurn (watch id).asks old.queued s.history id) (little : length s.history.log < 2 ^ 31) (interleaved : old.queues.queue.is_interleaved ≡ true) where
  abbrev arrived : Arrived first s.history old
  arrived = s.arrived little

  -- what holds before the step, and after it with this tracker and this reassembly queue
  abbrev ArrivesWith : TrackerState → ReassemblyState → Type 0
  ArrivesWith tracker reassembly = Arrives watch first s.history old.queued old.read tracker reassembly old.queues.queue.streams

  -- What is acknowledged the receiver has reached, and its window is small, if that is to be known.
  abbrev Covers : Type 0
  Covers = (id : ℕ) → (watch id).knows_all ≡ true
      → ((first + (2 ^ 32 - 1)) % 2 ^ 32 + old.acknowledged ≤ old.tracker.cumulative) × (old.reassembly.max_size ≤ 2 ^ 63) × IsLastAssigned s.history first old.reassembly.deferral × IsNamedWaiting old.reassembly.deferral

  -- ---- what is received

  module _ (covered : Covers) (a : ArrivesWith old.tracker old.reassembly) (theirs new : Transfer) (same : theirs.tracker ≡ old.tracker) (same' : theirs.reassembly ≡ old.reassembly) where
    before : ArrivesWith theirs.tracker theirs.reassembly
    before = subst (λ (t : TrackerState). ArrivesWith t theirs.reassembly) (sym same) (subst (λ (r : ReassemblyState). ArrivesWith old.tracker r) (sym same') a)

    whole : HasReceived old.queued s.history first arrived.places theirs.tracker theirs.reassembly
    whole = received_at first old small s theirs new same same' arrived

    arrived_so : HasReceivedInOrder watch (sent_messages old.queued s.history) before.quiet first before.places new.tracker new.reassembly → theirs.tracker.cumulative ≤ new.tracker.cumulative
        → ((id : ℕ) → IsOver s.history first theirs.tracker.cumulative id → IsClear id theirs.reassembly → IsClear id new.reassembly) → ArrivesWith new.tracker new.reassembly
    arrived_so received up stays =
        record {
          places = before.places;
          were = before.were;
          once = before.once;
          quiet = before.quiet;
          received = received;
          silent = λ id is. (
              let q = before.silent id is in
              record {
                handed = q.handed;
                over = record { mark = q.over.mark; has = q.over.has; names = q.over.names; below = q.over.below; passed = (let passed = q.over.passed in omega (arith, passed, up)) };
                clear = stays id q.over q.clear;
              }
              );
        }

    -- where there is room its bytes can be counted
    counted : (offset : ℕ) (arrival : Arrival) → Carries s.history.log first offset arrival.tsn arrival.chunk → theirs.reassembly.max_size ≤ 2 ^ 63 → has_room arrival.tsn theirs ≡ true → can_count (length arrival.chunk.payload) theirs.reassembly ≡ true
    counted offset arrival carries small_window room =
        let size = (fit_at old.queued carries.piece.place carries.piece.message s.fit (s.queues.cut.pieces offset carries.piece carries.at).at).size in
        let payload : length arrival.chunk.payload ≤ length carries.piece.message.payload = subst (λ (l : List ℕ). length l ≤ length carries.piece.message.payload) (sym carries.payload) (piece_small carries.piece) in
        counted_so arrival.tsn (length arrival.chunk.payload) theirs room (record { whole = omega (arith, small_window, size, payload); half = omega (arith, size, payload) })

    data_arrives : (offset : ℕ) (arrival : Arrival) → Carries s.history.log first offset arrival.tsn arrival.chunk → ReceivesData arrival theirs new → ArrivesWith new.tracker new.reassembly
    data_arrives offset arrival carries does =
        let few = known_few first old small s little in
        arrived_so
        (received_in_order watch old.queued s.history first s.queues.cut (known_log first old small s little) few before.quiet before.places offset arrival theirs new carries whole.old (λ id is. (before.silent id is).over) before.received (counted offset arrival carries) does)
        (received_grows arrival theirs new does)
        (λ id over clear. clear_through_data old.queued s.history first id arrived.places offset arrival theirs new few whole over carries clear does)

    skips_arrive : (tsn : ℕ) (entries : List SkippedTo) → (passed : IsPassed s.history.log first tsn) → PassesAcknowledged s.history.log old.acknowledged passed.passed
        → ((n : ℕ) (f : Piece) → IsOfPiece s.history.log f n → n < passed.passed → (n < old.acknowledged) ⊎ HasSkip f.message.stream f.message.is_unordered entries) → SkipAll s.history passed.passed entries → MovesForward tsn entries theirs new → ArrivesWith new.tracker new.reassembly
    skips_arrive tsn entries passed reliable each skip does =
        arrived_so (go passed.passed passed.below passed.is reliable each skip) (forward_grows tsn entries theirs new does)
        (clears first old small s theirs new same same' tsn entries does passed.passed passed.below passed.is skip little arrived (known_kinds first old small s interleaved))
      where
        go : (k : ℕ) → k ≤ length s.history.log → tsn ≡ (first + k + (2 ^ 32 - 1)) % 2 ^ 32 → PassesAcknowledged s.history.log old.acknowledged k
            → ((n : ℕ) (f : Piece) → IsOfPiece s.history.log f n → n < k → (n < old.acknowledged) ⊎ HasSkip f.message.stream f.message.is_unordered entries) → SkipAll s.history k entries → HasReceivedInOrder watch (sent_messages old.queued s.history) before.quiet first before.places new.tracker new.reassembly
        go zero below is reliable' each' skip =
            nothing_in_order watch old.queued s.history first s.queues.cut (known_log first old small s little) (known_few first old small s little) before.quiet before.places tsn entries theirs new is before.received does
        go (suc k) below is reliable' each' skip =
            forwarded_in_order watch old.queued s.history first s.queues.cut (known_log first old small s little) (known_few first old small s little) before.quiet before.places tsn entries theirs new
            (record { offset = k; below = omega (arith, below); is = is ∙ omega arith }) (subst (λ (j : ℕ). SkipAll s.history j entries) (omega arith) skip) (known_kinds first old small s interleaved) whole.old
            (λ id is. (before.silent id is).over) before.received
            (record {
              sized = λ id known. subst (λ (r : ReassemblyState). r.max_size ≤ 2 ^ 63) (sym same') (covered id known).1;
              near = λ id known. subst (λ (r : ReassemblyState). IsLastAssigned s.history first r.deferral) (sym same') (covered id known).2;
              named = λ id known. subst (λ (r : ReassemblyState). IsNamedWaiting r.deferral) (sym same') (covered id known).3;
              beyond = whole.beyond;
              known = λ j sure up. (
                  let below : j < old.acknowledged = reliable' j sure.piece sure.at (omega (arith, up)) sure.free in
                  let reached = (covered sure.piece.message.stream sure.known).0 in
                  subst (λ (t : TrackerState). tracked_number first j ≤ t.cumulative) (sym same) (omega (arith, below, reached))
                  );
              each = λ n g of low known. elim (each' n g of (omega (arith, low))) [
                | inl below ↦
                    inl
                    (let reached = (covered g.message.stream known).0 in
                    up_to theirs.tracker.cumulative (tracked_number first n) theirs.tracker.ranges (subst (λ (t : TrackerState). tracked_number first n ≤ t.cumulative) (sym same) (omega (arith, below, reached))))
                | inr skip ↦ inr skip
              ];
            }) does

  -- ---- each step

  one_out : (newest : BegunReset) (earlier : List BegunReset) → old.asking.requests ≡ newest ∷ earlier → (old.asking.requests ≡ []) ⊎ (0 < old.asking.out) → 0 < old.asking.out
  one_out newest earlier asks (inl none) = absurd (let clash : newest ∷ earlier ≡ [] = sym asks ∙ none in cc)
  one_out newest earlier asks (inr some) = some

  pub arrives_on : (direction : Direction) (step : DirectionStep old direction) → EndsNone old direction step → NamedAreOut s.history old.asking.out old.queues.queue.streams
      → (old.asking.is_performed ≡ false → (old.asking.requests ≡ []) ⊎ (0 < old.asking.out)) → Covers → ArrivesWith old.tracker old.reassembly
      → Arrives watch first s.history direction.queued direction.read direction.tracker direction.reassembly old.queues.queue.streams
  arrives_on _ (queues now sending fits some) ends named unended covered a =
      arrives_later watch first s.history s.history old.queues.queue.streams old.queues.queue.streams 0 0 (continues_same s.history old.queues.queue.streams 0) old.queued (message_of sending ∷ []) old.read old.tracker old.reassembly a (λ id loud since. since)
  arrives_on _ (sets setting fits) ends named unended covered a = a
  arrives_on _ (prepares ids fit kept) ends named unended covered a = a
  arrives_on _ (commits go_on) ends named unended covered a = absurd ends
  arrives_on _ (rolls_back unmixed) ends named unended covered a = absurd ends
  arrives_on _ (flushes e draft answers same no_data allowed) ends named unended covered a = a
  arrives_on _ (resends now room transfer left tsns chunks emission known sends are contents) ends named unended covered a = a
  arrives_on _ (resends_nothing now room transfer left tsns known sends) ends named unended covered a = a
  arrives_on _ (speaks emission no_data) ends named unended covered a = a
  arrives_on _ (asks_again emission begun was contents) ends named unended covered a = a
  arrives_on _ (renews emission newest earlier number asks out contents) ends named unended covered a = a
  arrives_on _ (turns_aside transfer new known same) ends named unended covered a = a
  arrives_on _ (acknowledges now sack transfer new known valid reached does) ends named unended covered a = a
  arrives_on _ (loses now transfer known) ends named unended covered a = a
  arrives_on _ (receives emission chunk theirs new was holds some same same' does) ends named unended covered a =
      let is : IsData s.history.log first chunk = content_said s.history first old.acknowledged (plain (unworked (data_chunk chunk))) emission.packet.contents (packet_said s.history first old.acknowledged emission old.sent s.packets was) holds in
      data_arrives covered a theirs new same same' is.number (data_arrival chunk) (carries_piece old.queued s.history.log first chunk s.queues.cut s.fit is some) does
  arrives_on _ (forwards emission tsn streams theirs new was holds same same' does) ends named unended covered a =
      let is : IsForward false s.history first old.acknowledged tsn streams =
      content_said s.history first old.acknowledged (plain (unworked (forward_tsn_chunk tsn streams))) emission.packet.contents (packet_said s.history first old.acknowledged emission old.sent s.packets was) holds in
      skips_arrive covered a theirs new same same' tsn (named_skips streams) is.passed is.reliable (λ n f of low. absurd (let clash : true ≡ false = sym (known_kinds first old small s interleaved is.limited.number is.limited.piece is.limited.at) ∙ is.limited.kind in cc)) (forward_skips s.history first old.acknowledged tsn streams is) does
  arrives_on _ (receives_interleaved emission chunk theirs new was holds some same same' does) ends named unended covered a =
      let is : IsInterleaved s.history.log first chunk = content_said s.history first old.acknowledged (plain (unworked (i_data_chunk chunk))) emission.packet.contents (packet_said s.history first old.acknowledged emission old.sent s.packets was) holds in
      data_arrives covered a theirs new same same' is.number (i_data_arrival chunk) (carries_interleaved old.queued s.history.log first chunk s.queues.cut s.fit is some) does
  arrives_on _ (forwards_interleaved emission tsn streams theirs new was holds same same' does) ends named unended covered a =
      let is : IsForward true s.history first old.acknowledged tsn streams =
      content_said s.history first old.acknowledged (plain (unworked (i_forward_tsn_chunk tsn streams))) emission.packet.contents (packet_said s.history first old.acknowledged emission old.sent s.packets was) holds in
      skips_arrive covered a theirs new same same' tsn (skipped_messages streams) is.passed is.reliable (forward_each old.queued s.history first old.acknowledged tsn streams s.queues.cut s.fit is) (messages_skipped old.queued s.history first old.acknowledged tsn streams s.queues.cut s.fit is) does
  arrives_on _ (tracks new cumulative ranges) ends named unended covered a =
      record {
        places = a.places;
        were = a.were;
        once = a.once;
        quiet = a.quiet;
        received = tracked_in_order watch old.queued s.history a.quiet first a.places old.tracker new old.reassembly cumulative ranges a.received;
        silent = subst (λ (k : ℕ). AreSilent a.quiet s.history first k old.queues.queue.streams old.reassembly) (sym cumulative) a.silent;
      }
  arrives_on _ (defers last_tsn streams some) ends named unended covered a =
      record {
        places = a.places;
        were = a.were;
        once = a.once;
        quiet = a.quiet;
        received = deferring_in_order watch old.queued s.history a.quiet first a.places last_tsn streams old.tracker old.reassembly a.received;
        silent = λ id is. (let q = a.silent id is in record { handed = q.handed; over = q.over; clear = (clear_through_rest id old.reassembly q.clear).0 last_tsn streams });
      }
  arrives_on _ (performs newest earlier new asks unknown reached own leaves) ends named unended covered a =
      performing_arrives watch first old small s turns little interleaved newest earlier new asks (one_out newest earlier asks (unended (unknown (turns_of old interleaved)))) named reached own leaves (λ id known. (covered id known).1) a
  arrives_on _ (performs_earlier newest earlier new asks unknown reached own leaves) ends named unended covered a =
      performing_arrives watch first old small s turns little interleaved newest earlier new asks (one_out newest earlier asks (unended (unknown (turns_of old interleaved)))) named reached own leaves (λ id known. (covered id known).1) a
  arrives_on _ (resets streams new unmixed some leaves) ends named unended covered a = absurd (let clash : true ≡ false = sym (turns_of old interleaved) ∙ unmixed in cc)
  arrives_on _ (takes message messages ready) ends named unended covered a =
      let t = takes_in_order watch old.queued s.history a.quiet first a.places old.tracker old.reassembly message messages ready a.received in
      record {
        places = a.places ++ t.place ∷ [];
        were = both_queued old.queued a.places (t.place ∷ []) old.read (message ∷ []) a.were (t.was, tt);
        once = distinct_with t.place a.places [] (subst (λ (l : List ℕ). AreDistinct l) (sym (append-nil a.places)) a.once) (λ h. t.fresh (subst (λ (l : List ℕ). HasEntry t.place l) (append-nil a.places) h));
        quiet = a.quiet;
        received = t.received;
        silent = λ id is. (let q = a.silent id is in record { handed = q.handed; over = q.over; clear = (clear_through_rest id old.reassembly q.clear).1 messages });
      }

  -- ---- a reset ends

  pub committing_arrives : old.asking.out ≤ 1 → old.asking.is_performed ≡ true → ((id : ℕ) → AreFloorsAtZero s.history.floors id) → (a : ArrivesWith old.tracker old.reassembly) → (cuts : ℕ → List Cut)
      → ((id : ℕ) → is_handed_out (stream_named id old.queues.queue.streams).pause ≡ false → cuts id ≡ (watch id).cuts)
      → ((got : List ℕ) → got ≡ a.received.got → (base : ℕ) (o : IncomingOrdered watch (sent_messages old.queued s.history) a.quiet got base a.places old.reassembly.incoming) (id : ℕ) → is_handed_out (stream_named id old.queues.queue.streams).pause ≡ true
      → AreSeparated (watch id).knows_all (watch id).asks old.queued id (cuts id) (a.places ++ o.holds.places))
      → Arrives (λ id. record (watch id) { cuts = cuts id }) first (floors_raised old.queues.queue.streams s.history) old.queued old.read old.tracker old.reassembly (queue_committed old.queues.queue).streams
  committing_arrives one performed at_zero a cuts cuts_kept recut =
      let kinds = known_kinds first old small s interleaved in
      let counts : ((id : ℕ) → CountsFromZero s.history id) = λ id. counts_from_zero old.queued s.history id s.queues.cut (known_log first old small s little) kinds (at_zero id) in
      record {
        places = a.places;
        were = a.were;
        once = a.once;
        quiet = none_quiet;
        received = raised_in_order watch old.queued s.history old.queues.queue.streams s.queues.cut kinds counts turns a.quiet (λ id is. (a.silent id is).handed) first old.tracker.cumulative old.reassembly
            (is_over first old s one (arrived.cleared interleaved performed))
            (none_current_now s.history old.queues.queue.streams (subst (λ (b : Bool). CountsByKind b s.history old.queues.queue.streams old.queues.queue.held) interleaved s.queues.numbers.counts)) cuts cuts_kept a.places old.tracker a.received recut;
        silent = λ id is. absurd (cc);
      }
