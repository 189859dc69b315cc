-- The steps of a receiver.
use Rattle.std.proofs.Common.{◌≡◌, ◌≢◌, ℕ, zero, suc, true, false, ◌<◌, ◌≤◌, ◌+◌, ◌-◌, ◌%◌, ◌^◌, List, [], ◌∷◌, ◌++◌, length, refl, sym, ◌∙◌, arith, subst, inl}
use Rattle.std.specs.Prelude.{Some}
use Rattle.std.proofs.lemmas.List.{append-nil}
use Rattle.dcsctp_spec.specs.wire.Content.{DataContent, IDataContent, data_chunk, i_data_chunk, forward_tsn_chunk, i_forward_tsn_chunk}
use Rattle.dcsctp_spec.specs.Packet.{unworked, plain, Emission}
use Rattle.dcsctp_spec.specs.types.declared.arrivals.SkippedTo.{SkippedTo}
use Rattle.dcsctp_spec.specs.queues.Arrivals.{Arrival, data_arrival, i_data_arrival, named_skips, skipped_messages}
use Rattle.dcsctp_spec.specs.types.queues.Messages.{MessageContent}
use Rattle.dcsctp_spec.specs.queues.Reassembly.{ReassemblyState, with_ready, deferring, EndsDeferral}
use Rattle.dcsctp_spec.specs.types.queues.SendStreams.{Stream}
use Rattle.dcsctp_spec.specs.queues.Tracker.{TrackerState}
use Rattle.dcsctp_spec.specs.queues.Transfer.{Transfer}
use Rattle.dcsctp_spec.specs.endpoint.TransferMoves.{ReceivesData, MovesForward}
use Rattle.dcsctp_delivery_directions.specs.sending.Places.{HasEntry, at_place}
use Rattle.dcsctp_delivery_directions.specs.sending.Log.{Piece, Mark, History, Resets}
use Rattle.dcsctp_delivery_directions.specs.sending.Numbers.{AreOfKind, IsUnambiguous}
use Rattle.dcsctp_delivery_directions.specs.sending.Flushes.{IsData, IsInterleaved, IsForward, IsPassed}
use Rattle.dcsctp_delivery_directions.specs.receiving.Clear.{IsClear, IsOver}
use Rattle.dcsctp_delivery_directions.specs.receiving.Ready.{AreDistinct, SkipAll}
use Rattle.dcsctp_delivery_directions.specs.receiving.Received.{Carries, IsTsn, Few, HasReceived}
use Rattle.dcsctp_delivery_directions.specs.directions.Directions.{reset_performed, Direction}
use Rattle.dcsctp_delivery_directions.proofs.sending.Counting.{told}
use Rattle.dcsctp_delivery_directions.proofs.sending.Chunks.{kinds_of}
use Rattle.dcsctp_delivery_directions.proofs.receiving.Arriving.{carries_piece, carries_interleaved}
use Rattle.dcsctp_delivery_directions.proofs.receiving.Entries.{forward_skips, messages_skipped}
use Rattle.dcsctp_delivery_directions.proofs.receiving.Received.{receiving_keeps, forwarding_keeps}
use Rattle.dcsctp_delivery_directions.proofs.receiving.Reassembled.{left_keeps}
use Rattle.dcsctp_delivery_directions.proofs.receiving.Taking.{reads_on, passing_nothing, tracked_so, deferring_keeps}
use Rattle.dcsctp_delivery_directions.proofs.receiving.Upward.{passing_nothing_leaves, received_grows, forward_grows}
use Rattle.dcsctp_delivery_directions.proofs.receiving.Waiting.{both_queued}
use Rattle.dcsctp_delivery_directions.proofs.receiving.Distinct.{distinct_with}
use Rattle.dcsctp_delivery_directions.proofs.receiving.Clear.{clear_through_data, clear_through_forward, clear_through_resets, clear_through_rest}
use Rattle.dcsctp_delivery_directions.proofs.directions.Standing.{IsCleared, Arrived, Stands, few_of, content_said, packet_said}

-- ---- what was cleared stays so

over_of : (history : History) (first cumulative id : ℕ) (streams : List Stream) (reassembly : ReassemblyState) (c : IsCleared history first cumulative streams reassembly) → Resets c.mark id
    → ((n : ℕ) (f : Piece) → at_place n history.log ≡ Some (Some f) → f.message.stream ≡ id → n < c.mark.bound) → IsOver history first cumulative id
over_of history first cumulative id streams reassembly c names below =
    record { mark = c.mark; has = subst (λ (l : List Mark). HasEntry c.mark l) (sym c.is) (inl refl); names = names; below = below; passed = c.passed }

pub stays_cleared : (history : History) (first before after : ℕ) (streams : List Stream) (old new : ReassemblyState) → before ≤ after → ((id : ℕ) → IsOver history first before id → IsClear id old → IsClear id new)
    → IsCleared history first before streams old → IsCleared history first after streams new
stays_cleared history first before after streams old new up clears c =
    record {
      mark = c.mark;
      earlier = c.earlier;
      is = c.is;
      passed = (let passed = c.passed in omega (arith, passed, up));
      clear = λ id small handed names below. clears id (over_of history first before id streams old c names below) (c.clear id small handed names below);
    }

module _ (first : ℕ) (old : Direction) (small : first < 2 ^ 32) (s : Stands first old) where
  -- the receiver's part is another one
  unfoldable pub stepped_arrived : (tracker : TrackerState) (reassembly : ReassemblyState) → (length s.history.log < 2 ^ 31 → (a : Arrived first s.history old) → HasReceived old.queued s.history first a.places tracker reassembly)
      → (length s.history.log < 2 ^ 31 → (a : Arrived first s.history old) → old.queues.queue.is_interleaved ≡ true → IsCleared s.history first old.tracker.cumulative old.queues.queue.streams old.reassembly
      → IsCleared s.history first tracker.cumulative old.queues.queue.streams reassembly)
      → Stands first (record old { tracker = tracker; reassembly = reassembly })
  stepped_arrived tracker reassembly receives' clears =
      record {
        history = s.history;
        fit = s.fit;
        next = s.next;
        queues = s.queues;
        packets = s.packets;
        count = s.count;
        asked = s.asked;
        quiet = s.quiet;
        arrived = λ little. (let a = s.arrived little in
            record { places = a.places; were = a.were; once = a.once; received = receives' little a; cleared = λ is performed. clears little a is (a.cleared is performed) });
      }

  -- a receiver knows the log
  pub known_log : length s.history.log < 2 ^ 31 → IsUnambiguous s.history
  known_log little = told s.history old.queues.queue s.queues.numbers little

  pub known_few : length s.history.log < 2 ^ 31 → Few s.history first
  known_few little = few_of first s.history small little

  pub known_kinds : old.queues.queue.is_interleaved ≡ true → AreOfKind true s.history.log
  known_kinds is = kinds_of s.queues.numbers (sym is)

  module _ (theirs new : Transfer) (same : theirs.tracker ≡ old.tracker) (same' : theirs.reassembly ≡ old.reassembly) where
    pub received_at : (a : Arrived first s.history old) → HasReceived old.queued s.history first a.places theirs.tracker theirs.reassembly
    received_at a =
        subst (λ (t : TrackerState). HasReceived old.queued s.history first a.places t theirs.reassembly) (sym same)
        (subst (λ (r : ReassemblyState). HasReceived old.queued s.history first a.places old.tracker r) (sym same') a.received)

    pub cleared_at : IsCleared s.history first old.tracker.cumulative old.queues.queue.streams old.reassembly → IsCleared s.history first theirs.tracker.cumulative old.queues.queue.streams theirs.reassembly
    cleared_at c =
        subst (λ (t : TrackerState). IsCleared s.history first t.cumulative old.queues.queue.streams theirs.reassembly) (sym same)
        (subst (λ (r : ReassemblyState). IsCleared s.history first old.tracker.cumulative old.queues.queue.streams r) (sym same') c)

    -- ---- data

    unfoldable pub takes_data : (offset : ℕ) (arrival : Arrival) → Carries s.history.log first offset arrival.tsn arrival.chunk → ReceivesData arrival theirs new
        → Stands first (record old { tracker = new.tracker; reassembly = new.reassembly })
    takes_data offset arrival carries does =
        stepped_arrived new.tracker new.reassembly
        (λ little a. receiving_keeps old.queued s.history first s.queues.cut (known_log little) (known_few little) a.places offset arrival theirs new carries (received_at a) does)
        (λ little a is c. (
        let few = known_few little in
        let received = received_at a in
        let up = received_grows arrival theirs new does in
        stays_cleared s.history first theirs.tracker.cumulative new.tracker.cumulative old.queues.queue.streams theirs.reassembly new.reassembly up
        (λ id over clear. clear_through_data old.queued s.history first id a.places offset arrival theirs new few received over carries clear does) (cleared_at c)
        ))

    -- ---- TSNs are passed, or none

    module _ (tsn : ℕ) (entries : List SkippedTo) (does : MovesForward tsn entries theirs new) where
      module _ (passed : ℕ) (below : suc passed ≤ length s.history.log) (is : tsn ≡ (first + suc passed + (2 ^ 32 - 1)) % 2 ^ 32) where
        abbrev last_passed : IsTsn s.history.log first tsn
        last_passed = record { offset = passed; below = omega (arith, below); is = is ∙ omega arith }

      pub passes : (passed : ℕ) → passed ≤ length s.history.log → tsn ≡ (first + passed + (2 ^ 32 - 1)) % 2 ^ 32 → SkipAll s.history passed entries → length s.history.log < 2 ^ 31 → (a : Arrived first s.history old)
          → HasReceived old.queued s.history first a.places new.tracker new.reassembly
      passes zero below is skip little a = passing_nothing old.queued s.history first (known_few little) a.places tsn entries theirs new is (received_at a) does
      passes (suc passed) below is skip little a =
          forwarding_keeps old.queued s.history first s.queues.cut (known_log little) (known_few little) a.places tsn entries theirs new (last_passed passed below is)
          (subst (λ (k : ℕ). SkipAll s.history k entries) (omega arith) skip) (received_at a) does

      pub clears : (passed : ℕ) → passed ≤ length s.history.log → tsn ≡ (first + passed + (2 ^ 32 - 1)) % 2 ^ 32 → SkipAll s.history passed entries → length s.history.log < 2 ^ 31 → (a : Arrived first s.history old)
          → AreOfKind true s.history.log → (id : ℕ) → IsOver s.history first theirs.tracker.cumulative id → IsClear id theirs.reassembly → IsClear id new.reassembly
      clears zero below is skip little a kinds id over clear =
          subst (λ (r : ReassemblyState). IsClear id r) (sym (passing_nothing_leaves old.queued s.history first (known_few little) a.places tsn entries theirs new is (received_at a) does)) clear
      clears (suc passed) below is skip little a kinds id over clear =
          clear_through_forward old.queued s.history first id a.places tsn entries theirs new kinds (known_few little) (received_at a) over (last_passed passed below is)
          (subst (λ (k : ℕ). SkipAll s.history k entries) (omega arith) skip) clear does

      unfoldable pub skips : (passed : IsPassed s.history.log first tsn) → SkipAll s.history passed.passed entries → Stands first (record old { tracker = new.tracker; reassembly = new.reassembly })
      skips passed skip =
          stepped_arrived new.tracker new.reassembly (λ little a. passes passed.passed passed.below passed.is skip little a)
          (λ little a is c. (
          let up = forward_grows tsn entries theirs new does in
          stays_cleared s.history first theirs.tracker.cumulative new.tracker.cumulative old.queues.queue.streams theirs.reassembly new.reassembly up
          (clears passed.passed passed.below passed.is skip little a (known_kinds is)) (cleared_at c)
          ))

    -- ---- the chunks of a packet that was sent

    unfoldable pub stepped_receives : (emission : Emission) (chunk : DataContent) → HasEntry emission old.sent → HasEntry (plain (unworked (data_chunk chunk))) emission.packet.contents → chunk.payload ≢ []
        → ReceivesData (data_arrival chunk) theirs new → Stands first (record old { tracker = new.tracker; reassembly = new.reassembly })
    stepped_receives emission chunk was holds some does =
        let is : IsData s.history.log first chunk = content_said s.history first old.acknowledged (plain (unworked (data_chunk chunk))) emission.packet.contents (packet_said s.history first old.acknowledged emission old.sent s.packets was) holds in
        takes_data is.number (data_arrival chunk) (carries_piece old.queued s.history.log first chunk s.queues.cut s.fit is some) does

    unfoldable pub stepped_receives_interleaved : (emission : Emission) (chunk : IDataContent) → HasEntry emission old.sent → HasEntry (plain (unworked (i_data_chunk chunk))) emission.packet.contents → chunk.payload ≢ []
        → ReceivesData (i_data_arrival chunk) theirs new → Stands first (record old { tracker = new.tracker; reassembly = new.reassembly })
    stepped_receives_interleaved emission chunk was holds some does =
        let is : IsInterleaved s.history.log first chunk = content_said s.history first old.acknowledged (plain (unworked (i_data_chunk chunk))) emission.packet.contents (packet_said s.history first old.acknowledged emission old.sent s.packets was) holds in
        takes_data is.number (i_data_arrival chunk) (carries_interleaved old.queued s.history.log first chunk s.queues.cut s.fit is some) does

    unfoldable pub stepped_forwards : (emission : Emission) (tsn : ℕ) (bytes : List ℕ) → HasEntry emission old.sent → HasEntry (plain (unworked (forward_tsn_chunk tsn bytes))) emission.packet.contents
        → MovesForward tsn (named_skips bytes) theirs new → Stands first (record old { tracker = new.tracker; reassembly = new.reassembly })
    stepped_forwards emission tsn bytes was holds does =
        let is : IsForward false s.history first old.acknowledged tsn bytes =
        content_said s.history first old.acknowledged (plain (unworked (forward_tsn_chunk tsn bytes))) emission.packet.contents (packet_said s.history first old.acknowledged emission old.sent s.packets was) holds in
        skips tsn (named_skips bytes) does is.passed (forward_skips s.history first old.acknowledged tsn bytes is)

    unfoldable pub stepped_forwards_interleaved : (emission : Emission) (tsn : ℕ) (bytes : List ℕ) → HasEntry emission old.sent → HasEntry (plain (unworked (i_forward_tsn_chunk tsn bytes))) emission.packet.contents
        → MovesForward tsn (skipped_messages bytes) theirs new → Stands first (record old { tracker = new.tracker; reassembly = new.reassembly })
    stepped_forwards_interleaved emission tsn bytes was holds does =
        let is : IsForward true s.history first old.acknowledged tsn bytes =
        content_said s.history first old.acknowledged (plain (unworked (i_forward_tsn_chunk tsn bytes))) emission.packet.contents (packet_said s.history first old.acknowledged emission old.sent s.packets was) holds in
        skips tsn (skipped_messages bytes) does is.passed (messages_skipped old.queued s.history first old.acknowledged tsn bytes s.queues.cut s.fit is)

  -- ---- the rest

  unfoldable pub stepped_tracks : (new : TrackerState) → new.cumulative ≡ old.tracker.cumulative → new.ranges ≡ old.tracker.ranges → Stands first (record old { tracker = new })
  stepped_tracks new cumulative ranges =
      stepped_arrived new old.reassembly (λ little a. tracked_so old.queued s.history first a.places old.tracker new old.reassembly cumulative ranges a.received)
      (λ little a is c. subst (λ (k : ℕ). IsCleared s.history first k old.queues.queue.streams old.reassembly) (sym cumulative) c)

  unfoldable pub stepped_defers : (last_tsn : ℕ) (streams : List ℕ) → Stands first (record old { reassembly = deferring last_tsn streams old.reassembly })
  stepped_defers last_tsn streams =
      stepped_arrived old.tracker (deferring last_tsn streams old.reassembly) (λ little a. deferring_keeps old.queued s.history first a.places last_tsn streams old.tracker old.reassembly a.received)
      (λ little a is c. stays_cleared s.history first old.tracker.cumulative old.tracker.cumulative old.queues.queue.streams old.reassembly (deferring last_tsn streams old.reassembly) (omega arith)
      (λ id over clear. (clear_through_rest id old.reassembly clear).0 last_tsn streams) c)

  unfoldable pub stepped_resets : (streams : List ℕ) (new : ReassemblyState) → EndsDeferral streams old.reassembly new
      → Stands first (record old { reassembly = new; performed = reset_performed streams old.read new ∷ old.performed })
  stepped_resets streams new leaves =
      record {
        history = s.history;
        fit = s.fit;
        next = s.next;
        queues = s.queues;
        packets = s.packets;
        count = s.count;
        asked = s.asked;
        quiet = s.quiet;
        arrived = λ little. (
            let a = s.arrived little in
            record {
              places = a.places;
              were = a.were;
              once = a.once;
              received = left_keeps old.queued s.history first s.queues.cut (known_log little) (known_few little) a.places streams old.tracker old.reassembly new a.received leaves;
              cleared = λ is performed. stays_cleared s.history first old.tracker.cumulative old.tracker.cumulative old.queues.queue.streams old.reassembly new (omega arith)
                  (λ id over clear. clear_through_resets id streams old.reassembly new clear leaves) (a.cleared is performed);
            }
            );
      }

  unfoldable pub stepped_takes : (message : MessageContent) (messages : List MessageContent) → old.reassembly.incoming.ready ≡ message ∷ messages
      → Stands first (record old { reassembly = with_ready messages old.reassembly; read = old.read ++ message ∷ [] })
  stepped_takes message messages ready =
      record {
        history = s.history;
        fit = s.fit;
        next = s.next;
        queues = s.queues;
        packets = s.packets;
        count = s.count;
        asked = s.asked;
        quiet = s.quiet;
        arrived = λ little. (
            let a = s.arrived little in
            let t = reads_on old.queued s.history first a.places old.tracker old.reassembly message messages ready a.received in
            record {
              places = a.places ++ t.place ∷ [];
              were = both_queued old.queued a.places (t.place ∷ []) old.read (message ∷ []) a.were (record { message = t.sent; at = t.at; stream = t.stream; ppid = t.ppid; payload = t.payload }, tt);
              once = distinct_with t.place a.places [] (subst (λ (l : List ℕ). AreDistinct l) (sym (append-nil a.places)) a.once) (λ h. t.fresh (subst (λ (l : List ℕ). HasEntry t.place l) (append-nil a.places) h));
              received = t.received;
              cleared = λ is performed. stays_cleared s.history first old.tracker.cumulative old.tracker.cumulative old.queues.queue.streams old.reassembly (with_ready messages old.reassembly) (omega arith)
                  (λ id over clear. (clear_through_rest id old.reassembly clear).1 messages) (a.cleared is performed);
            }
            );
      }
