-- Without interleaving order holds throughout a run of a direction, also where TSNs are passed, if few ordered messages are queued
-- on each stream.
use Rattle.std.proofs.Common.{◌≡◌, ℕ, Bool, true, false, ◌<◌, ◌≤◌, ◌+◌, ◌-◌, ◌%◌, ◌^◌, zero, suc, List, [], ◌∷◌, ◌++◌, length, map, refl, sym, ◌∙◌, ap, arith, subst}
use Rattle.std.specs.Prelude.{None, Some}
use Rattle.std.specs.List.{AllByRecursion, flat_map}
use Rattle.std.proofs.lemmas.List.{append-nil, length-append}
use Rattle.dcsctp_spec_lemmas.specs.types.declared.options.Options.{Options}
use Rattle.dcsctp_spec_lemmas.specs.types.queues.Messages.{MessageContent}
use Rattle.dcsctp_spec_lemmas.specs.wire.Content.{data_chunk, i_data_chunk, forward_tsn_chunk, i_forward_tsn_chunk}
use Rattle.dcsctp_spec_lemmas.specs.spec.Packet.{unworked, plain}
use Rattle.dcsctp_spec_lemmas.specs.types.declared.arrivals.SkippedTo.{SkippedTo}
use Rattle.dcsctp_spec_lemmas.specs.spec.queues.Skipping.{entry_bytes}
use Rattle.dcsctp_spec_lemmas.specs.spec.queues.Arrivals.{Arrival, data_arrival, i_data_arrival, named_skips, skipped_messages}
use Rattle.dcsctp_spec_lemmas.specs.spec.queues.Reassembly.{ReassemblyState}
use Rattle.dcsctp_spec_lemmas.specs.spec.queues.Tracker.{TrackerState}
use Rattle.dcsctp_spec_lemmas.specs.spec.queues.Transfer.{Transfer, EndpointQueues}
use Rattle.dcsctp_spec_lemmas.specs.spec.endpoint.TransferMoves.{ReceivesData, MovesForward}
use Rattle.dcsctp_delivery_directions.specs.sending.Places.{HasEntry, at_place}
use Rattle.dcsctp_delivery_directions.specs.sending.Log.{Fits, Message, Mark, Slot, History, IsLogOfPieces, new_history}
use Rattle.dcsctp_delivery_directions.specs.sending.Flushes.{AreForwardEntries, IsPassed, IsData, IsInterleaved, IsForward}
use Rattle.dcsctp_delivery_directions.specs.sending.Queueing.{QueueWaits, message_of}
use Rattle.dcsctp_delivery_directions.proofs.sending.Extended.{at_more}
use Rattle.dcsctp_delivery_directions.specs.receiving.Ready.{AreDistinct, WereQueued}
use Rattle.dcsctp_delivery_directions.specs.receiving.Received.{Carries}
use Rattle.dcsctp_delivery_directions.proofs.receiving.Arriving.{carries_piece, carries_interleaved}
use Rattle.dcsctp_delivery_directions.proofs.receiving.Distinct.{distinct_with}
use Rattle.dcsctp_delivery_directions.proofs.receiving.Growing.{were_more}
use Rattle.dcsctp_delivery_directions.proofs.receiving.Waiting.{both_queued}
use Rattle.dcsctp_delivery_directions.specs.directions.Calm.{ResetsNothing}
use Rattle.dcsctp_delivery_directions.specs.directions.Directions.{Beginning, BeginsAs, Direction, Asking, assigned_count, BeginsDirection, IsAwaited, NoneInFlight, DirectionRun, begins, goes_on, starts, DirectionStep, queues, sets, prepares, commits, rolls_back, flushes, resends, resends_nothing, speaks, asks_again, renews, turns_aside, acknowledges, loses, receives, forwards, receives_interleaved, forwards_interleaved, tracks, defers, performs, resets, performs_earlier, takes}
use Rattle.dcsctp_delivery_directions.proofs.directions.Calm.{none_has, Continues, continues_same, calm_continues, stays_unperformed, none_asked, unasked_calm}
use Rattle.dcsctp_delivery_directions.proofs.directions.Continuing.{begun_history, started_history}
use Rattle.dcsctp_delivery_directions.proofs.directions.Directions.{begun_stands, started_stands}
use Rattle.dcsctp_delivery_directions.proofs.directions.Standing.{Stands, cut_queued, content_said, packet_said}
use Rattle.dcsctp_delivery_directions.proofs.directions.Steps.{stepped, more_queued}
use Rattle.dcsctp_delivery_directions.specs.order.Queue.{ComeInOrder}
use Rattle.dcsctp_delivery_directions.specs.order.Delivered.{AreDeliveredInOrder}
use Rattle.dcsctp_delivery_directions.specs.order.PlainDirections.{FewOnEachStream}
use Rattle.dcsctp_delivery_directions.proofs.directions.Losing.{same_beginning}
use Rattle.dcsctp_delivery_directions.proofs.order.Beginning.{waits_from}
use Rattle.dcsctp_delivery_directions.proofs.order.FewGrowing.{takes_few, few_before, received_more, received_nothing}
use Rattle.dcsctp_delivery_directions.proofs.order.PlainDirections.{counts_plain, in_order_front}
use Rattle.dcsctp_spec_lemmas.specs.spec.endpoint.BegunResets.{BegunReset}
use Rattle.dcsctp_delivery_directions.specs.order.Plain.{CountsPlain}
use Rattle.dcsctp_delivery_directions.proofs.order.PlainReceived.{stays_idle}
use Rattle.dcsctp_delivery_directions.proofs.order.FewTurns.{CountsFew, counts_few}
use Rattle.dcsctp_delivery_directions.proofs.order.FewLeaving.{IncomingFew}
use Rattle.dcsctp_delivery_directions.proofs.order.FewSkipping.{SkipTurns}
use Rattle.dcsctp_delivery_directions.proofs.order.FewEntries.{forward_turns}
use Rattle.dcsctp_delivery_directions.proofs.order.FewReceived.{ReassemblesFew, none_handled, some_handled, known_by, HasReceivedFew, tracked_few, received_few, forwarded_few, nothing_few, forward_stays_idle}
use Rattle.dcsctp_delivery_directions.proofs.order.PlainSteps.{same_kind}

-- ---- what holds throughout

pub record ArrivesFew (first : ℕ) (history : History) (queued : List Message) (read : List MessageContent) (tracker : TrackerState) (reassembly : ReassemblyState) : Type 0 where
  pub places : List ℕ
  pub were : WereQueued queued places read
  pub once : AreDistinct places
  pub received : HasReceivedFew queued history first places tracker reassembly.incoming

-- the history, and what the receiver has of a log of DATA
pub record GoesFew (first : ℕ) (direction : Direction) : Type 0 where
  pub stands : Stands first direction
  pub unperformed : direction.asking.is_performed ≡ false
  pub zero : direction.beginning.from_zero ≡ true → direction.queues.queue.is_interleaved ≡ false → (id : ℕ) → stands.history.floors id false ≡ 0
  pub idle : direction.reassembly.deferral ≡ None
  pub arrives : CountsFew stands.history → ArrivesFew first stands.history direction.queued direction.read direction.tracker direction.reassembly

arrives_none : (first : ℕ) (direction : Direction) (s : Stands first direction) (floors : ℕ → Bool → ℕ) → s.history ≡ new_history floors → CountsFew s.history
    → ArrivesFew first s.history direction.queued direction.read direction.tracker direction.reassembly
arrives_none first direction s floors is counts =
    let a = s.arrived (counts.plain 0).few in
    record { places = a.places; were = a.were; once = a.once; received = received_nothing direction.queued s.history (ap (λ (h : History). h.log) is) first a.places direction.tracker direction.reassembly a.received }

-- ---- the history continues

arrives_later : (first : ℕ) (history later : History) (queued more : List Message) → IsLogOfPieces (more ++ queued) later.log → CountsFew later → (read : List MessageContent) (tracker : TrackerState) (reassembly : ReassemblyState) → Continues history later
    → ArrivesFew first history queued read tracker reassembly → ArrivesFew first later (more ++ queued) read tracker reassembly
arrives_later first history later queued more cut counts read tracker reassembly c a =
    record {
      places = a.places;
      were = were_more queued more a.places read a.were;
      once = a.once;
      received = received_more queued more history later cut counts c.more c.log
          (record { stays = stays; current = λ n f at is. subst (λ (floors : ℕ → Bool → ℕ). floors f.message.stream f.message.is_unordered ≤ f.mid) (sym c.floors) is; longer = longer; marks = c.marks })
          a.places read a.were first tracker reassembly.incoming a.received;
    }
  where
    stays : (n : ℕ) (slot : Slot) → at_place n history.log ≡ Some slot → at_place n later.log ≡ Some slot
    stays n slot at = ap (λ (l : List Slot). at_place n l) c.log ∙ at_more c.more history.log n slot at

    longer : length history.log ≤ length later.log
    longer = (let sizes : length later.log ≡ length (c.more ++ history.log) = ap (λ (l : List Slot). length l) c.log in omega (arith, sizes, length-append c.more history.log))

-- ---- each step

no_mark : (marks : List Mark) → map (λ (mark : Mark). mark.begun) marks ≡ [] → marks ≡ []
no_mark [] is = refl
no_mark (m ∷ marks) is = absurd (cc)

module _ (first : ℕ) (old : Direction) (small : first < 2 ^ 32) (unasked : old.asking.requests ≡ []) (idle : old.reassembly.deferral ≡ None) where
  idle_then : (theirs new : Transfer) → theirs.reassembly ≡ old.reassembly → theirs.reassembly.deferral ≡ None
  idle_then theirs new same = ap (λ (r : ReassemblyState). r.deferral) same ∙ idle

  pub idle_on : (direction : Direction) (step : DirectionStep old direction) → ResetsNothing old direction step → direction.reassembly.deferral ≡ None
  idle_on _ (queues now sending fits some) calm = idle
  idle_on _ (sets setting fits) calm = idle
  idle_on _ (prepares ids fit kept) calm = idle
  idle_on _ (commits go_on) calm = idle
  idle_on _ (rolls_back unmixed) calm = idle
  idle_on _ (flushes e draft answers same no_data allowed) calm = idle
  idle_on _ (resends now room transfer left tsns chunks emission known sends are contents) calm = idle
  idle_on _ (resends_nothing now room transfer left tsns known sends) calm = idle
  idle_on _ (speaks emission no_data) calm = idle
  idle_on _ (asks_again emission begun was contents) calm = idle
  idle_on _ (renews emission newest earlier number asks out contents) calm = idle
  idle_on _ (turns_aside transfer new known same) calm = idle
  idle_on _ (acknowledges now sack transfer new known valid reached does) calm = idle
  idle_on _ (loses now transfer known) calm = idle
  idle_on _ (receives emission chunk theirs new was holds some same same' does) calm = (stays_idle (data_arrival chunk) theirs new does (idle_then theirs new same')).0
  idle_on _ (forwards emission tsn streams theirs new was holds same same' does) calm = forward_stays_idle tsn (named_skips streams) theirs new does (idle_then theirs new same')
  idle_on _ (receives_interleaved emission chunk theirs new was holds some same same' does) calm = (stays_idle (i_data_arrival chunk) theirs new does (idle_then theirs new same')).0
  idle_on _ (forwards_interleaved emission tsn streams theirs new was holds same same' does) calm = forward_stays_idle tsn (skipped_messages streams) theirs new does (idle_then theirs new same')
  idle_on _ (tracks new cumulative ranges) calm = idle
  idle_on _ (defers last_tsn streams some) calm = absurd (none_has old.asking.requests streams some.asked unasked)
  idle_on _ (performs newest earlier new asks unknown reached own leaves) calm = absurd calm
  idle_on _ (resets streams new unmixed some leaves) calm = absurd calm
  idle_on _ (performs_earlier newest earlier new asks unknown reached own leaves) calm = absurd calm
  idle_on _ (takes message messages ready) calm = idle

  module _ (s : Stands first old) (counts : CountsFew s.history) where
    none_begun : s.history.marks ≡ []
    none_begun = no_mark s.history.marks (sym s.asked ∙ unasked)

    module _ (a : ArrivesFew first s.history old.queued old.read old.tracker old.reassembly) (theirs new : Transfer) (same : theirs.tracker ≡ old.tracker) (same' : theirs.reassembly ≡ old.reassembly) where
      before : HasReceivedFew old.queued s.history first a.places theirs.tracker theirs.reassembly.incoming
      before = subst (λ (t : TrackerState). HasReceivedFew old.queued s.history first a.places t theirs.reassembly.incoming) (sym same) (subst (λ (r : ReassemblyState). HasReceivedFew old.queued s.history first a.places old.tracker r.incoming) (sym same') a.received)

      arrived_so : HasReceivedFew old.queued s.history first a.places new.tracker new.reassembly.incoming → ArrivesFew first s.history old.queued old.read new.tracker new.reassembly
      arrived_so received = record { places = a.places; were = a.were; once = a.once; received = received }

      data_arrives : (offset : ℕ) (arrival : Arrival) → Carries s.history.log first offset arrival.tsn arrival.chunk → ReceivesData arrival theirs new → ArrivesFew first s.history old.queued old.read new.tracker new.reassembly
      data_arrives offset arrival carries does = arrived_so (received_few old.queued s.history first s.queues.cut counts small a.places offset arrival theirs new carries before (idle_then theirs new same') does)

      skips_arrive : (tsn : ℕ) (entries : List SkippedTo) → (passed : IsPassed s.history.log first tsn) → SkipTurns s.history passed.passed entries → MovesForward tsn entries theirs new → ArrivesFew first s.history old.queued old.read new.tracker new.reassembly
      skips_arrive tsn entries passed skip does = arrived_so (go passed.passed passed.below passed.is skip)
        where
          go : (k : ℕ) → k ≤ length s.history.log → tsn ≡ (first + k + (2 ^ 32 - 1)) % 2 ^ 32 → SkipTurns s.history k entries → HasReceivedFew old.queued s.history first a.places new.tracker new.reassembly.incoming
          go zero below is skip = nothing_few old.queued s.history first s.queues.cut counts small a.places tsn entries theirs new before (idle_then theirs new same') is does
          go (suc k) below is skip =
              forwarded_few old.queued s.history first s.queues.cut counts small a.places tsn entries theirs new before (idle_then theirs new same') (record { offset = k; below = omega (arith, below); is = is ∙ omega arith })
              (subst (λ (j : ℕ). SkipTurns s.history j entries) (omega arith) skip) does

    -- no I-FORWARD-TSN names a message
    none_interleaved : (passed : ℕ) (streams : List ℕ) (entries : List ((ℕ × Bool) × ℕ)) → streams ≡ flat_map (entry_bytes true) entries → AreForwardEntries true s.history passed entries → SkipTurns s.history passed (skipped_messages streams)
    none_interleaved passed streams [] is names = subst (λ (l : List ℕ). SkipTurns s.history passed (skipped_messages l)) (sym is) tt
    none_interleaved passed streams (entry ∷ entries) is names = absurd (let clash : true ≡ false = sym names.0.kind ∙ (counts.plain 0).kinds names.0.number names.0.piece names.0.at in cc)

    arrives_on : (direction : Direction) (step : DirectionStep old direction) → ResetsNothing old direction step → ArrivesFew first s.history old.queued old.read old.tracker old.reassembly
        → ArrivesFew first s.history direction.queued direction.read direction.tracker direction.reassembly
    arrives_on _ (queues now sending fits some) calm a =
        arrives_later first s.history s.history old.queued (message_of sending ∷ []) (cut_queued old.queued (message_of sending) s.history s.queues.cut) counts old.read old.tracker old.reassembly (continues_same s.history) a
    arrives_on _ (sets setting fits) calm a = a
    arrives_on _ (prepares ids fit kept) calm a = a
    arrives_on _ (commits go_on) calm a = a
    arrives_on _ (rolls_back unmixed) calm a = a
    arrives_on _ (flushes e draft answers same no_data allowed) calm a = a
    arrives_on _ (resends now room transfer left tsns chunks emission known sends are contents) calm a = a
    arrives_on _ (resends_nothing now room transfer left tsns known sends) calm a = a
    arrives_on _ (speaks emission no_data) calm a = a
    arrives_on _ (asks_again emission begun was contents) calm a = a
    arrives_on _ (renews emission newest earlier number asks out contents) calm a = a
    arrives_on _ (turns_aside transfer new known same) calm a = a
    arrives_on _ (acknowledges now sack transfer new known valid reached does) calm a = a
    arrives_on _ (loses now transfer known) calm a = a
    arrives_on _ (receives emission chunk theirs new was holds some same same' does) calm a =
        let is : IsData s.history.log first chunk = content_said s.history first old.acknowledged (plain (unworked (data_chunk chunk))) emission.packet.contents (packet_said s.history first old.acknowledged emission old.sent s.packets was) holds in
        data_arrives a theirs new same same' is.number (data_arrival chunk) (carries_piece old.queued s.history.log first chunk s.queues.cut s.fit is some) does
    arrives_on _ (forwards emission tsn streams theirs new was holds same same' does) calm a =
        let is : IsForward false s.history first old.acknowledged tsn streams =
        content_said s.history first old.acknowledged (plain (unworked (forward_tsn_chunk tsn streams))) emission.packet.contents (packet_said s.history first old.acknowledged emission old.sent s.packets was) holds in
        skips_arrive a theirs new same same' tsn (named_skips streams) is.passed (forward_turns old.queued s.history first old.acknowledged tsn streams s.queues.cut s.fit none_begun is) does
    arrives_on _ (receives_interleaved emission chunk theirs new was holds some same same' does) calm a =
        let is : IsInterleaved s.history.log first chunk = content_said s.history first old.acknowledged (plain (unworked (i_data_chunk chunk))) emission.packet.contents (packet_said s.history first old.acknowledged emission old.sent s.packets was) holds in
        data_arrives a theirs new same same' is.number (i_data_arrival chunk) (carries_interleaved old.queued s.history.log first chunk s.queues.cut s.fit is some) does
    arrives_on _ (forwards_interleaved emission tsn streams theirs new was holds same same' does) calm a =
        let is : IsForward true s.history first old.acknowledged tsn streams =
        content_said s.history first old.acknowledged (plain (unworked (i_forward_tsn_chunk tsn streams))) emission.packet.contents (packet_said s.history first old.acknowledged emission old.sent s.packets was) holds in
        skips_arrive a theirs new same same' tsn (skipped_messages streams) is.passed (none_interleaved is.passed.passed streams is.entries is.is is.names) does
    arrives_on _ (tracks new cumulative ranges) calm a =
        record { places = a.places; were = a.were; once = a.once; received = tracked_few old.queued s.history first a.places old.tracker new old.reassembly.incoming cumulative ranges a.received }
    arrives_on _ (defers last_tsn streams some) calm a = absurd (none_has old.asking.requests streams some.asked unasked)
    arrives_on _ (performs newest earlier new asks unknown reached own leaves) calm a = absurd calm
    arrives_on _ (resets streams new unmixed some leaves) calm a = absurd calm
    arrives_on _ (performs_earlier newest earlier new asks unknown reached own leaves) calm a = absurd calm
    arrives_on _ (takes message messages ready) calm a =
        let t = takes_few old.queued s.history first a.places old.tracker old.reassembly.incoming message messages ready a.received in
        record {
          places = a.places ++ t.place ∷ [];
          were = both_queued old.queued a.places (t.place ∷ []) old.read (message ∷ []) a.were (t.was, tt);
          once = distinct_with t.place a.places [] (subst (λ (l : List ℕ). AreDistinct l) (sym (append-nil a.places)) a.once) (λ h. t.fresh (subst (λ (l : List ℕ). HasEntry t.place l) (append-nil a.places) h));
          received = t.received;
        }

steps_few : (first : ℕ) (old : Direction) → first < 2 ^ 32 → GoesFew first old → old.asking.requests ≡ [] → (direction : Direction) → length direction.queued < 2 ^ 64 → (step : DirectionStep old direction) → ResetsNothing old direction step
    → GoesFew first direction
steps_few first old small g unasked direction few step calm =
    let s = stepped first old small g.stands direction few step in
    let c : Continues g.stands.history s.history = calm_continues first old small g.stands direction few step (λ interleaved. g.unperformed) in
    record {
      stands = s;
      unperformed = stays_unperformed old direction step calm g.unperformed;
      zero = λ from kind id. ap (λ (floors : ℕ → Bool → ℕ). floors id false) c.floors ∙ g.zero (sym (ap (λ (b : Beginning). b.from_zero) (same_beginning old direction step)) ∙ from) (sym (same_kind old direction step) ∙ kind) id;
      idle = idle_on first old small unasked g.idle direction step calm;
      arrives = λ counts. (
          let counts' = few_before g.stands.history s.history c.more c.log (λ n slot at. ap (λ (l : List Slot). at_place n l) c.log ∙ at_more c.more g.stands.history.log n slot at) counts in
          arrives_later first g.stands.history s.history direction.queued [] s.queues.cut counts direction.read direction.tracker direction.reassembly c
          (arrives_on first old small unasked g.idle g.stands counts' direction step calm (g.arrives counts'))
          );
    }

-- ---- a run

begins_few : (options : Options) (first size : ℕ) (direction : Direction) → first < 2 ^ 32 → BeginsDirection options first size direction → GoesFew first direction
begins_few options first size direction small b =
    let w = waits_from direction.queued direction.queues.queue b.queues in
    let b' : BeginsDirection options first size direction = record b { queues = w.waits } in
    let is = begun_history options first size direction small b' in
    record {
      stands = begun_stands options first size direction small b';
      unperformed = ap (λ (a : Asking). a.is_performed) b.asking;
      zero = λ from kind id. ap (λ (h : History). h.floors id false) is ∙ w.plain kind (b.begun.zero from) id;
      idle = ap (λ (r : ReassemblyState). r.deferral) b.reassembly;
      arrives = λ counts. arrives_none first direction (begun_stands options first size direction small b') w.waits.floors is counts;
    }

starts_few : (first : ℕ) (old : Direction) (queued : List Message) (below : EndpointQueues) (beginning : Beginning) → first < 2 ^ 32 → (g : GoesFew first old) → (awaited : IsAwaited old) → AllByRecursion Fits queued → QueueWaits queued below.queue
    → NoneInFlight first below.queue below.transfer → BeginsAs beginning queued below.queue → GoesFew first (record old { queued = queued; queues = below; prepared = []; beginning = beginning })
starts_few first old queued below beginning small g awaited fit waits none begun =
    let w = waits_from queued below.queue waits in
    let s = started_stands first old queued below beginning g.stands awaited small fit w.waits none in
    let is = started_history first old queued below beginning g.stands awaited small fit w.waits none in
    record {
      stands = s;
      unperformed = ap (λ (a : Asking). a.is_performed) awaited.asking;
      zero = λ from kind id. ap (λ (h : History). h.floors id false) is ∙ w.plain kind (begun.zero from) id;
      idle = g.idle;
      arrives = λ counts. arrives_none first (record old { queued = queued; queues = below; prepared = []; beginning = beginning }) s w.waits.floors is counts;
    }

run_few : (options : Options) (first size : ℕ) (direction : Direction) → first < 2 ^ 32 → length direction.queued < 2 ^ 64 → DirectionRun options first size direction → direction.asking.requests ≡ [] → GoesFew first direction
run_few options first size _ small few (begins direction b) none = begins_few options first size direction small b
run_few options first size _ small few (goes_on old direction run step) none =
    let before = none_asked old direction step none in
    steps_few first old small (run_few options first size old small (omega (arith, few, more_queued old direction step)) run before) before direction few step (unasked_calm old direction step before)
run_few options first size _ small few (starts old queued below beginning run awaited fit waits idle begun) none =
    let none_queued : length old.queued ≡ 0 = ap (λ (l : List Message). length l) awaited.queued in
    starts_few first old queued below beginning small (run_few options first size old small (omega (arith, none_queued)) run none) awaited fit waits idle begun

-- ---- what was read

-- the ordered messages of a stream that were read come in order
arrived_in_order : (first : ℕ) (history : History) (queued : List Message) (read : List MessageContent) (tracker : TrackerState) (reassembly : ReassemblyState)
    (a : ArrivesFew first history queued read tracker reassembly) (id : ℕ) → ComeInOrder queued id a.places
arrived_in_order first history queued read tracker reassembly a id = go a.received.got a.received.holds
  where
    front : (got : List ℕ) (base : ℕ) → IncomingFew queued history got (known_by first tracker) base a.places reassembly.incoming → ComeInOrder queued id a.places
    front got base o = in_order_front queued id a.places o.holds.places (o.order id).order.in_order

    go : (got : List ℕ) → ReassemblesFew queued history (known_by first tracker) first got a.places reassembly.incoming → ComeInOrder queued id a.places
    go got (none_handled none last empty) = front [] 0 (empty 0)
    go got (some_handled base at o) = front got base o

pub plain_few_deliver_in_order : (options : Options) (first size : ℕ) (direction : Direction) → DirectionRun options first size direction
    → first < 2 ^ 32 → assigned_count direction < 2 ^ 31 → length direction.queued < 2 ^ 64 → direction.queues.queue.is_interleaved ≡ false
    → direction.beginning.from_zero ≡ true → direction.asking.requests ≡ [] → FewOnEachStream direction.queued → AreDeliveredInOrder direction.queued direction.read
plain_few_deliver_in_order options first size direction run small little few kind from unasked low =
    let g = run_few options first size direction small few run unasked in
    let s = g.stands in
    let count = s.count in
    let counts : (id : ℕ) → CountsPlain id s.history =
    λ id. counts_plain first direction s kind (g.zero from kind) (omega (arith, count, little)) id (λ begun has. absurd (subst (λ (l : List BegunReset). HasEntry begun l) unasked has)) in
    let a = g.arrives (counts_few direction.queued s.history s.queues.cut counts low) in
    record {
      delivered = record { places = a.places; were_queued = a.were; once = a.once };
      in_order = arrived_in_order first s.history direction.queued direction.read direction.tracker direction.reassembly a;
    }
