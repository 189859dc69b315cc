-- A step in which no reset is performed leaves what was received of dated messages so.
use Rattle.std.proofs.Common.{◌≡◌, ℕ, suc, true, false, ◌<◌, ◌≤◌, ◌+◌, ◌%◌, ◌^◌, List, [], ◌∷◌, ◌++◌, length, length-append, refl, sym, ◌∙◌, ap, arith, subst}
use Rattle.std.specs.Prelude.{Some}
use Rattle.std.proofs.lemmas.List.{append-nil}
use Rattle.dcsctp_spec.specs.types.queues.Messages.{MessageContent}
use Rattle.dcsctp_spec.specs.types.declared.arrivals.SkippedTo.{SkippedTo}
use Rattle.dcsctp_spec.specs.wire.Content.{data_chunk, i_data_chunk, forward_tsn_chunk, i_forward_tsn_chunk}
use Rattle.dcsctp_spec.specs.Packet.{unworked, plain}
use Rattle.dcsctp_spec.specs.queues.Arrivals.{Arrival, data_arrival, i_data_arrival, named_skips, skipped_messages}
use Rattle.dcsctp_spec.specs.queues.Reassembly.{ReassemblyState}
use Rattle.dcsctp_spec.specs.queues.Tracker.{TrackerState, is_new_tsn}
use Rattle.dcsctp_spec.specs.queues.Transfer.{Transfer}
use Rattle.dcsctp_spec.specs.endpoint.TransferMoves.{ReceivesData, MovesForward}
use Rattle.dcsctp_delivery_directions.specs.sending.Places.{HasEntry, at_place}
use Rattle.dcsctp_delivery_directions.specs.sending.Log.{Message, Piece, History}
use Rattle.dcsctp_delivery_directions.specs.sending.Flushes.{IsData, IsInterleaved, IsForward, IsPassed}
use Rattle.dcsctp_delivery_directions.specs.sending.Numbers.{AreOfKind}
use Rattle.dcsctp_delivery_directions.specs.sending.Queueing.{message_of}
use Rattle.dcsctp_delivery_directions.specs.receiving.Ready.{AreDistinct, WereQueued, SkipAll}
use Rattle.dcsctp_delivery_directions.specs.receiving.Received.{Carries, Few}
use Rattle.dcsctp_delivery_directions.specs.receiving.Tracked.{tracked_number}
use Rattle.dcsctp_delivery_directions.specs.directions.Calm.{ResetsNothing}
use Rattle.dcsctp_delivery_directions.specs.directions.Directions.{Direction, DirectionStep, queues, sets, prepares, commits, rolls_back, flushes, resends, resends_nothing, speaks, asks_again, renews, turns_aside, acknowledges, loses, receives, forwards, receives_interleaved, forwards_interleaved, tracks, defers, performs, performs_earlier, resets, takes}
use Rattle.dcsctp_delivery_directions.specs.order.Queue.{Cut}
use Rattle.dcsctp_delivery_directions.proofs.sending.Chunks.{kinds_of}
use Rattle.dcsctp_delivery_directions.proofs.sending.Places.{at_below}
use Rattle.dcsctp_delivery_directions.proofs.receiving.Arriving.{carries_piece, carries_interleaved}
use Rattle.dcsctp_delivery_directions.proofs.receiving.Entries.{forward_skips, messages_skipped}
use Rattle.dcsctp_delivery_directions.proofs.receiving.Distinct.{distinct_with}
use Rattle.dcsctp_delivery_directions.proofs.receiving.Growing.{were_more, received_more}
use Rattle.dcsctp_delivery_directions.proofs.receiving.Taking.{reads_on, tracked_so, deferring_keeps}
use Rattle.dcsctp_delivery_directions.proofs.receiving.Tracked.{new_beyond}
use Rattle.dcsctp_delivery_directions.proofs.receiving.Waiting.{both_queued}
use Rattle.dcsctp_delivery_directions.proofs.directions.Standing.{Stands, few_of, content_said, packet_said}
use Rattle.dcsctp_delivery_directions.proofs.epochs.Dated.{age_of_place, dated_message, dated_queued, dated_log, dated_history, dated_content, dated_contents, log_length}
use Rattle.dcsctp_delivery_directions.proofs.epochs.DatedReceived.{place_young, append_dated, ReceivedDated, data_dated, forward_dated}

-- What was received of dated messages, and read.
pub record ArrivesDated (first : ℕ) (history : History) (cuts : ℕ → List Cut) (queued : List Message) (read : List MessageContent) (tracker : TrackerState) (reassembly : ReassemblyState) : Type 0 where
  pub places : List ℕ
  pub were : WereQueued (dated_queued cuts queued) places (dated_contents cuts 0 read)
  pub once : AreDistinct places
  pub received : ReceivedDated queued history cuts first (length read) places tracker reassembly

-- All before this many TSNs was received, and what was sent on the stream since was queued after its reset was asked for.
pub record IsBounded (first : ℕ) (history : History) (cumulative id : ℕ) (c : Cut) : Type 0 where
  pub bound : ℕ
  pub passed : length history.log < 2 ^ 31 → tracked_number first bound ≤ cumulative + 1
  pub since : (n : ℕ) (f : Piece) → at_place n history.log ≡ Some (Some f) → f.message.stream ≡ id → bound ≤ n → c.place ≤ f.place

module _ (first : ℕ) (old : Direction) (small : first < 2 ^ 32) (s : Stands first old) (cuts : ℕ → List Cut) (little : length s.history.log < 2 ^ 31) (unmixed : old.queues.queue.is_interleaved ≡ false)
    (bounds : (id : ℕ) (c : Cut) → HasEntry c (cuts id) → IsBounded first s.history old.tracker.cumulative id c) (within : (id : ℕ) (c : Cut) → HasEntry c (cuts id) → c.index ≤ length old.read + length old.reassembly.incoming.ready)
    (a : ArrivesDated first s.history cuts old.queued old.read old.tracker old.reassembly) where
  abbrev Now : List Message → List MessageContent → TrackerState → ReassemblyState → Type 0
  Now queued read tracker reassembly = ArrivesDated first s.history cuts queued read tracker reassembly

  pub kinds : AreOfKind false s.history.log
  kinds = kinds_of s.queues.numbers (sym unmixed)

  pub few : Few s.history first
  few = few_of first s.history small little

  module _ (theirs new : Transfer) (same : theirs.tracker ≡ old.tracker) (same' : theirs.reassembly ≡ old.reassembly) where
    at_theirs : ReceivedDated old.queued s.history cuts first (length old.read) a.places theirs.tracker theirs.reassembly
    at_theirs =
        subst (λ (t : TrackerState). ReceivedDated old.queued s.history cuts first (length old.read) a.places t theirs.reassembly) (sym same)
        (subst (λ (r : ReassemblyState). ReceivedDated old.queued s.history cuts first (length old.read) a.places old.tracker r) (sym same') a.received)

    within_theirs : (id : ℕ) (c : Cut) → HasEntry c (cuts id) → c.index ≤ length old.read + length theirs.reassembly.incoming.ready
    within_theirs id c has = (let low = within id c has in let sizes : length theirs.reassembly.incoming.ready ≡ length old.reassembly.incoming.ready = ap (λ (r : ReassemblyState). length r.incoming.ready) same' in omega (arith, low, sizes))

    -- A message whose TSN is new isn't old.
    young : (offset : ℕ) (arrival : Arrival) (c : Carries s.history.log first offset arrival.tsn arrival.chunk) → is_new_tsn arrival.tsn theirs.tracker ≡ true → age_of_place (cuts c.piece.message.stream) c.piece.place ≡ 0
    young offset arrival c is =
        place_young (cuts c.piece.message.stream) c.piece.place
        (λ x has. (
        let b = bounds c.piece.message.stream x has in
        let size = log_length cuts s.history.log in
        let below = at_below offset (Some c.piece) s.history.log c.at in
        let beyond = new_beyond first (length (dated_log cuts s.history.log)) offset a.received.taken old.tracker small (omega (arith, little, size)) (omega (arith, below, size)) a.received.tracks
        (subst (λ (t : TrackerState). is_new_tsn ((first + offset) % 2 ^ 32) t ≡ true) same (subst (λ (k : ℕ). is_new_tsn k theirs.tracker ≡ true) c.is is)) in
        let passed = b.passed little in
        b.since offset c.piece c.at refl (omega (arith, beyond, passed))
        ))

    takes_dated : (offset : ℕ) (arrival : Arrival) → Carries s.history.log first offset arrival.tsn arrival.chunk → ReceivesData arrival theirs new → Now old.queued old.read new.tracker new.reassembly
    takes_dated offset arrival c does =
        record {
          places = a.places;
          were = a.were;
          once = a.once;
          received = data_dated old.queued s.history cuts first (length old.read) a.places s.queues.cut kinds few theirs new at_theirs within_theirs offset arrival c (young offset arrival c) does;
        }

    passes_dated : (tsn : ℕ) (entries : List SkippedTo) (passed : IsPassed s.history.log first tsn) → SkipAll s.history passed.passed entries → MovesForward tsn entries theirs new → Now old.queued old.read new.tracker new.reassembly
    passes_dated tsn entries passed skip does =
        record {
          places = a.places;
          were = a.were;
          once = a.once;
          received = forward_dated old.queued s.history cuts first (length old.read) a.places s.queues.cut kinds few theirs new at_theirs within_theirs tsn entries passed.passed passed.below passed.is skip does;
        }

  queues_dated : (m : Message) → Now (m ∷ old.queued) old.read old.tracker old.reassembly
  queues_dated m =
      let more : List Message = dated_message cuts (length old.queued) m ∷ [] in
      record {
        places = a.places;
        were = were_more (dated_queued cuts old.queued) more a.places (dated_contents cuts 0 old.read) a.were;
        once = a.once;
        received = received_more (dated_queued cuts old.queued) more (dated_history cuts s.history) [] first a.places old.tracker _ (λ n f at. absurd (cc)) a.received;
      }

  takes_so : (message : MessageContent) (messages : List MessageContent) → old.reassembly.incoming.ready ≡ message ∷ messages → Now old.queued (old.read ++ message ∷ []) old.tracker (record old.reassembly { incoming = record old.reassembly.incoming { ready = messages } })
  takes_so message messages ready =
      let index : ℕ = length old.read in
      let t = reads_on (dated_queued cuts old.queued) (dated_history cuts s.history) first a.places old.tracker _ (dated_content cuts index message) (dated_contents cuts (suc index) messages) (ap (dated_contents cuts index) ready) a.received in
      let size : length (old.read ++ message ∷ []) ≡ suc index = length-append old.read (message ∷ []) ∙ omega arith in
      record {
        places = a.places ++ t.place ∷ [];
        were = subst (WereQueued (dated_queued cuts old.queued) (a.places ++ t.place ∷ [])) (sym (append_dated cuts 0 old.read (message ∷ []) ∙ ap (λ (k : ℕ). dated_contents cuts 0 old.read ++ dated_content cuts k message ∷ []) (omega arith)))
            (both_queued (dated_queued cuts old.queued) a.places (t.place ∷ []) (dated_contents cuts 0 old.read) (dated_content cuts index message ∷ []) a.were (record { message = t.sent; at = t.at; stream = t.stream; ppid = t.ppid; payload = t.payload }, tt));
        once = distinct_with t.place a.places [] (subst (λ (l : List ℕ). AreDistinct l) (sym (append-nil a.places)) a.once) (λ h. t.fresh (subst (λ (l : List ℕ). HasEntry t.place l) (append-nil a.places) h));
        received = subst (λ (k : ℕ). ReceivedDated old.queued s.history cuts first k (a.places ++ t.place ∷ []) old.tracker (record old.reassembly { incoming = record old.reassembly.incoming { ready = messages } })) (sym size) t.received;
      }

  pub arrives_quiet : (direction : Direction) (step : DirectionStep old direction) → ResetsNothing old direction step → Now direction.queued direction.read direction.tracker direction.reassembly
  arrives_quiet _ (queues now sending fits some) quiet = queues_dated (message_of sending)
  arrives_quiet _ (receives emission chunk theirs new was holds some same same' does) quiet =
      let is : IsData s.history.log first chunk = content_said s.history first old.acknowledged (plain (unworked (data_chunk chunk))) emission.packet.contents (packet_said s.history first old.acknowledged emission old.sent s.packets was) holds in
      takes_dated theirs new same same' is.number (data_arrival chunk) (carries_piece old.queued s.history.log first chunk s.queues.cut s.fit is some) does
  arrives_quiet _ (receives_interleaved emission chunk theirs new was holds some same same' does) quiet =
      let is : IsInterleaved s.history.log first chunk = content_said s.history first old.acknowledged (plain (unworked (i_data_chunk chunk))) emission.packet.contents (packet_said s.history first old.acknowledged emission old.sent s.packets was) holds in
      takes_dated theirs new same same' is.number (i_data_arrival chunk) (carries_interleaved old.queued s.history.log first chunk s.queues.cut s.fit is some) does
  arrives_quiet _ (forwards emission tsn bytes theirs new was holds same same' does) quiet =
      let is : IsForward false s.history first old.acknowledged tsn bytes =
      content_said s.history first old.acknowledged (plain (unworked (forward_tsn_chunk tsn bytes))) emission.packet.contents (packet_said s.history first old.acknowledged emission old.sent s.packets was) holds in
      passes_dated theirs new same same' tsn (named_skips bytes) is.passed (forward_skips s.history first old.acknowledged tsn bytes is) does
  arrives_quiet _ (forwards_interleaved emission tsn bytes theirs new was holds same same' does) quiet =
      let is : IsForward true s.history first old.acknowledged tsn bytes =
      content_said s.history first old.acknowledged (plain (unworked (i_forward_tsn_chunk tsn bytes))) emission.packet.contents (packet_said s.history first old.acknowledged emission old.sent s.packets was) holds in
      passes_dated theirs new same same' tsn (skipped_messages bytes) is.passed (messages_skipped old.queued s.history first old.acknowledged tsn bytes s.queues.cut s.fit is) does
  arrives_quiet _ (tracks new cumulative ranges) quiet =
      record { places = a.places; were = a.were; once = a.once; received = tracked_so (dated_queued cuts old.queued) (dated_history cuts s.history) first a.places old.tracker new _ cumulative ranges a.received }
  arrives_quiet _ (defers last_tsn streams some) quiet =
      record { places = a.places; were = a.were; once = a.once; received = deferring_keeps (dated_queued cuts old.queued) (dated_history cuts s.history) first a.places last_tsn streams old.tracker _ a.received }
  arrives_quiet _ (takes message messages ready) quiet = takes_so message messages ready
  arrives_quiet _ (performs newest earlier new asks unknown reached own leaves) quiet = absurd quiet
  arrives_quiet _ (performs_earlier newest earlier new asks unknown reached own leaves) quiet = absurd quiet
  arrives_quiet _ (resets streams new mixed some leaves) quiet = absurd quiet
  arrives_quiet _ (sets setting fits) quiet = a
  arrives_quiet _ (prepares ids fit dropped) quiet = a
  arrives_quiet _ (commits go_on) quiet = a
  arrives_quiet _ (rolls_back mixed) quiet = a
  arrives_quiet _ (flushes e draft answers same no_data allowed) quiet = a
  arrives_quiet _ (resends now room transfer left tsns chunks emission known sends are contents) quiet = a
  arrives_quiet _ (resends_nothing now room transfer left tsns known sends) quiet = a
  arrives_quiet _ (speaks emission no_data) quiet = a
  arrives_quiet _ (asks_again emission begun was contents) quiet = a
  arrives_quiet _ (renews emission newest earlier number asks out contents) quiet = a
  arrives_quiet _ (turns_aside transfer new known same) quiet = a
  arrives_quiet _ (acknowledges now sack transfer new known valid reached does) quiet = a
  arrives_quiet _ (loses now transfer known) quiet = a
