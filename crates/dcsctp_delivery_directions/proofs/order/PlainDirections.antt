-- Without interleaving order holds throughout a run of a direction on each stream that isn't reset, and of
-- which nothing is skipped.
use Rattle.std.proofs.Common.{◌+◌, ◌≡◌, ◌==◌, zero, suc, ◌%◌, ◌-◌, ℕ, Bool, true, false, ◌<◌, ◌≤◌, ◌^◌, List, [], ◌∷◌, ◌++◌, length, map, refl, sym, ◌∙◌, ap, arith, subst, inl, inr}
use Rattle.std.specs.Prelude.{◌||◌, Option, Some}
use Rattle.std.specs.List.{AllByRecursion, flat_map}
use Rattle.dcsctp_spec_lemmas.specs.types.declared.arrivals.SkippedTo.{SkippedTo}
use Rattle.dcsctp_spec_lemmas.specs.spec.queues.Skipping.{entry_bytes}
use Rattle.std.proofs.lemmas.List.{append-nil, length-append}
use Rattle.std.proofs.lemmas.Bool.{eq-eqb}
use Rattle.std.proofs.lemmas.Bool.Decides.{eqb_tells}
use Rattle.dcsctp_spec_lemmas.specs.spec.endpoint.BegunResets.{BegunReset, stream_field}
use Rattle.dcsctp_spec_lemmas.specs.spec.queues.Incoming.{is_named}
use Rattle.dcsctp_spec_lemmas.specs.types.declared.options.Options.{Options}
use Rattle.dcsctp_spec_lemmas.specs.types.queues.Messages.{MessageContent}
use Rattle.dcsctp_spec_lemmas.specs.wire.Content.{data_chunk, i_data_chunk, forward_tsn_chunk, i_forward_tsn_chunk}
use Rattle.dcsctp_spec_lemmas.specs.spec.Packet.{unworked, plain, Emission}
use Rattle.dcsctp_spec_lemmas.specs.spec.queues.Arrivals.{Arrival, data_arrival, i_data_arrival, named_skips, skipped_messages}
use Rattle.dcsctp_spec_lemmas.specs.spec.queues.Reassembly.{ReassemblyState, DeferralModel, names_stream, new_reassembly, deferring, EndsDeferral}
use Rattle.dcsctp_spec_lemmas.specs.spec.queues.Tracker.{TrackerState}
use Rattle.dcsctp_spec_lemmas.specs.spec.queues.Transfer.{Transfer, EndpointQueues, part_overhead}
use Rattle.dcsctp_spec_lemmas.specs.spec.endpoint.TransferMoves.{ReceivesData, MovesForward}
use Rattle.dcsctp_delivery_directions.specs.sending.Places.{HasEntry, at_place}
use Rattle.dcsctp_delivery_directions.specs.sending.Log.{Fits, Message, Mark, Piece, Slot, History, Resets, new_history}
use Rattle.dcsctp_delivery_directions.specs.sending.Flushes.{IsData, IsInterleaved, IsPassed, PassesAcknowledged, IsForward, AreForwardEntries}
use Rattle.dcsctp_delivery_directions.specs.sending.Losing.{IsOpenOn, AreUnlimitedOn}
use Rattle.dcsctp_delivery_directions.specs.sending.Numbers.{AreOfKind, CountsSsns, CountsByKind}
use Rattle.dcsctp_delivery_directions.proofs.sending.HeldOn.{unlimited_on_at}
use Rattle.dcsctp_delivery_directions.proofs.receiving.Entries.{forward_skips}
use Rattle.dcsctp_delivery_directions.specs.sending.Queueing.{QueueWaits, message_of}
use Rattle.dcsctp_delivery_directions.proofs.sending.Extended.{at_more}
use Rattle.dcsctp_delivery_directions.proofs.sending.Places.{at_cases}
use Rattle.dcsctp_delivery_directions.specs.receiving.Ready.{AreDistinct, WereQueued, AreNamed}
use Rattle.dcsctp_delivery_directions.specs.receiving.Received.{Carries}
use Rattle.dcsctp_delivery_directions.specs.receiving.Tracked.{tracked_number}
use Rattle.dcsctp_delivery_directions.proofs.receiving.Arriving.{fits_at, carries_piece, carries_interleaved}
use Rattle.dcsctp_delivery_directions.proofs.receiving.Distinct.{distinct_with}
use Rattle.dcsctp_delivery_directions.proofs.receiving.Growing.{were_more}
use Rattle.dcsctp_delivery_directions.proofs.receiving.Waiting.{both_queued}
use Rattle.dcsctp_delivery_directions.specs.directions.Directions.{Beginning, BeginsAs, Direction, Asking, HasAsked, nothing_asked, assigned_count, BeginsDirection, IsAwaited, NoneInFlight, DirectionRun, begins, goes_on, starts, DirectionStep, queues, sets, prepares, commits, rolls_back, flushes, resends, resends_nothing, speaks, asks_again, renews, turns_aside, acknowledges, loses, receives, forwards, receives_interleaved, forwards_interleaved, tracks, defers, performs, resets, performs_earlier, takes}
use Rattle.dcsctp_delivery_directions.proofs.directions.Calm.{Continues, continues_same, calm_continues}
use Rattle.dcsctp_delivery_directions.proofs.directions.Awaited.{unsent_nothing}
use Rattle.dcsctp_delivery_directions.proofs.directions.Continuing.{begun_history, started_history}
use Rattle.dcsctp_delivery_directions.proofs.directions.Directions.{begun_stands, started_stands, run_stands, direction_queues}
use Rattle.dcsctp_delivery_directions.proofs.directions.Reached.{Covers, run_covers}
use Rattle.dcsctp_delivery_directions.proofs.directions.Standing.{Stands, content_said, packet_said}
use Rattle.dcsctp_delivery_directions.proofs.directions.Steps.{stepped, more_queued}
use Rattle.dcsctp_delivery_directions.specs.order.Queue.{ComeInOrder}
use Rattle.dcsctp_delivery_directions.specs.order.Delivered.{AreDeliveredInOrder}
use Rattle.dcsctp_delivery_directions.specs.order.Plain.{CountsPlain, CountsThese, IncomingPlain}
use Rattle.dcsctp_delivery_directions.proofs.order.PlainEntries.{forward_others}
use Rattle.dcsctp_delivery_directions.proofs.order.PlainSkipping.{plain_named, forwarded_plain, nothing_plain, forward_steady}
use Rattle.dcsctp_delivery_directions.specs.order.Streams.{NoneLostOn}
use Rattle.dcsctp_delivery_directions.specs.directions.Forwards.{NoneForwards}
use Rattle.dcsctp_delivery_directions.proofs.directions.Forwards.{forwards_never, i_forwards_never}
use Rattle.dcsctp_delivery_directions.proofs.directions.Losing.{same_beginning}
use Rattle.dcsctp_delivery_directions.proofs.order.Beginning.{waits_from}
use Rattle.dcsctp_delivery_directions.proofs.order.PlainGrowing.{takes_plain, these_before, received_more, received_nothing}
use Rattle.dcsctp_delivery_directions.proofs.order.PlainEnding.{AreUnnamed, ends_plain, deferring_beside, deferring_plain}
use Rattle.dcsctp_delivery_directions.proofs.order.StreamDirections.{not_handed, unlimited_earlier, step_open, step_keeps_on}
use Rattle.dcsctp_delivery_directions.proofs.order.PlainReceived.{ReassemblesPlain, none_handled, some_handled, HasReceivedPlain, SkipOthers, DefersBeside, tracked_plain, received_plain, IsSteadyAs, stays_steady}
use Rattle.dcsctp_delivery_directions.proofs.order.PlainSteps.{IsCounted, CanBeCounted, can_count, same_kind, none_before, counted_before, asked_before, stays_unnamed}

-- ---- what holds throughout

pub record Arrives (whole : Bool) (these : ℕ → Bool) (first : ℕ) (history : History) (queued : List Message) (read : List MessageContent) (tracker : TrackerState) (reassembly : ReassemblyState) : Type 0 where
  pub places : List ℕ
  pub were : WereQueued queued places read
  pub once : AreDistinct places
  pub received : HasReceivedPlain whole these queued history first places tracker reassembly

-- No request that was begun names one of these streams.
abbrev pub AreUnasked : (ℕ → Bool) → Direction → Type 0
AreUnasked these direction = (begun : BegunReset) → HasEntry begun direction.asking.requests → AreUnnamed these begun.reset.streams

-- No FORWARD-TSN was sent; or none of the messages of these may be abandoned.
abbrev pub AreFree : Bool → (ℕ → Bool) → Direction → Type 0
AreFree whole these direction = (whole ≡ true → NoneForwards direction.sent) × (whole ≡ false → (id : ℕ) → these id ≡ true → AreUnlimitedOn id direction.queued)

-- The history, and what the receiver has of a log of DATA, of streams that no request names, and of which nothing is skipped. The
-- streams that the sender keeps are open, no request names them, and none of their messages is left out if none has limits.
pub record GoesPlain (whole : Bool) (these : ℕ → Bool) (first size : ℕ) (direction : Direction) : Type 0 where
  pub stands : Stands first direction
  pub zero : direction.beginning.from_zero ≡ true → (id : ℕ) → stands.history.floors id false ≡ 0
  pub unpaused : (id : ℕ) → direction.beginning.keeps id ≡ true → IsOpenOn id direction.queues.queue.streams
  pub unnamed : (id : ℕ) → direction.beginning.keeps id ≡ true → (begun : BegunReset) → HasEntry begun direction.asking.requests → names_stream begun.reset.streams id ≡ false
  pub kept : (id : ℕ) → direction.beginning.keeps id ≡ true → AreUnlimitedOn id direction.queued → NoneLostOn id direction.queued stands.history.log direction.queues.queue.streams
  pub steady : AreUnasked these direction → AreFree whole these direction → DefersBeside these direction.reassembly.deferral × (direction.reassembly.max_size ≡ size)
  pub arrives : AreUnasked these direction → CountsThese whole these stands.history → CanBeCounted size direction.queued → AreFree whole these direction
      → Arrives whole these first stands.history direction.queued direction.read direction.tracker direction.reassembly

arrives_none : (whole : Bool) (these : ℕ → Bool) (first : ℕ) (direction : Direction) (s : Stands first direction) (floors : ℕ → Bool → ℕ) → s.history ≡ new_history floors → CountsThese whole these s.history
    → Arrives whole these first s.history direction.queued direction.read direction.tracker direction.reassembly
arrives_none whole these first direction s floors is counts =
    let a = s.arrived counts.few in
    record { places = a.places; were = a.were; once = a.once; received = received_nothing direction.queued s.history (ap (λ (h : History). h.log) is) whole these first a.places direction.tracker direction.reassembly a.received }

-- ---- the history continues

arrives_later : (whole : Bool) (these : ℕ → Bool) (first : ℕ) (history later : History) (queued more : List Message) (read : List MessageContent) (tracker : TrackerState) (reassembly : ReassemblyState) → Continues history later
    → Arrives whole these first history queued read tracker reassembly → Arrives whole these first later (more ++ queued) read tracker reassembly
arrives_later whole these first history later queued more read tracker reassembly c a =
    record {
      places = a.places;
      were = were_more queued more a.places read a.were;
      once = a.once;
      received = received_more queued more history later c.more c.log
          (record { stays = stays; current = λ n f at is. subst (λ (floors : ℕ → Bool → ℕ). floors f.message.stream f.message.is_unordered ≤ f.mid) (sym c.floors) is; longer = longer; marks = c.marks })
          a.places read a.were whole these first tracker reassembly a.received;
    }
  where
    stays : (n : ℕ) (slot : Slot) → at_place n history.log ≡ Some slot → at_place n later.log ≡ Some slot
    stays n slot at = ap (λ (l : List Slot). at_place n l) c.log ∙ at_more c.more history.log n slot at

    longer : length history.log ≤ length later.log
    longer = (let sizes : length later.log ≡ length (c.more ++ history.log) = ap (λ (l : List Slot). length l) c.log in omega (arith, sizes, length-append c.more history.log))

-- ---- each step

-- each message that was queued can be counted
counted_at : (size : ℕ) (queued : List Message) (place : ℕ) (message : Message) → CanBeCounted size queued → at_place place queued ≡ Some message → IsCounted size (length message.payload)
counted_at size [] place message can at = absurd (cc)
counted_at size (m ∷ queued) place message can at =
    elim (at_cases place m message queued at) [
      | inl e ↦ subst (λ (x : Message). IsCounted size (length x.payload)) e.1 can.0
      | inr old ↦ counted_at size queued place message can.1 old
    ]

module _ (whole : Bool) (these : ℕ → Bool) (first size : ℕ) (old : Direction) (small : first < 2 ^ 32) (unasked : AreUnasked these old) (free : AreFree whole these old) (beside : DefersBeside these old.reassembly.deferral) (s : Stands first old)
    (covers : Covers first old) (kind : old.queues.queue.is_interleaved ≡ false) where
  steady_then : (theirs new : Transfer) → theirs.reassembly ≡ old.reassembly → IsSteadyAs these theirs.reassembly new.reassembly → IsSteadyAs these old.reassembly new.reassembly
  steady_then theirs new same is = (is.0, is.1 ∙ ap (λ (r : ReassemblyState). r.max_size) same)

  -- what is asked for names none of these
  asked_none : (streams : List ℕ) → HasAsked old.asking.requests streams → AreUnnamed these streams
  asked_none streams asked id mine = ap (λ (l : List ℕ). names_stream l id) (sym asked.is) ∙ unasked asked.begun asked.has id mine

  newest_none : (newest : BegunReset) (earlier : List BegunReset) → old.asking.requests ≡ newest ∷ earlier → AreUnnamed these newest.reset.streams
  newest_none newest earlier asks = unasked newest (subst (λ (l : List BegunReset). HasEntry newest l) (sym asks) (inl refl))

  ended_steady : (streams : List ℕ) (new : ReassemblyState) → EndsDeferral streams old.reassembly new → IsSteadyAs these old.reassembly new
  ended_steady streams new leaves = (subst (λ (d : Option DeferralModel). DefersBeside these d) (sym leaves.deferral) tt, leaves.window)

  kinds : AreOfKind false s.history.log
  kinds n f at = s.queues.numbers.kinds n f at ∙ kind

  -- no message on these may be abandoned
  unlimited_these : whole ≡ false → (n : ℕ) (f : Piece) → at_place n s.history.log ≡ Some (Some f) → these f.message.stream ≡ true → f.message.is_limited ≡ false
  unlimited_these some n f at mine = unlimited_on_at f.message.stream old.queued f.place f.message (free.1 some f.message.stream mine) (s.queues.cut.pieces n f at).at refl

  -- a FORWARD-TSN is for others
  others_skipped : whole ≡ false → (tsn : ℕ) (streams : List ℕ) → IsForward false s.history first old.acknowledged tsn streams → SkipOthers these (named_skips streams)
  others_skipped some tsn streams is = forward_others these s.history is.passed.passed old.queued s.queues.cut s.fit (unlimited_these some) first old.acknowledged tsn streams is refl

  -- and an I-FORWARD-TSN for none
  none_skipped : (passed : ℕ) (streams : List ℕ) (entries : List ((ℕ × Bool) × ℕ)) → streams ≡ flat_map (entry_bytes true) entries → AreForwardEntries true s.history passed entries → skipped_messages streams ≡ []
  none_skipped passed streams [] is names = ap (λ (l : List ℕ). skipped_messages l) is
  none_skipped passed streams (entry ∷ entries) is names = absurd (let clash : true ≡ false = sym names.0.kind ∙ kinds names.0.number names.0.piece names.0.at in cc)

  said_plain : (emission : Emission) (tsn : ℕ) (streams : List ℕ) → HasEntry emission old.sent → HasEntry (plain (unworked (forward_tsn_chunk tsn streams))) emission.packet.contents → IsForward false s.history first old.acknowledged tsn streams
  said_plain emission tsn streams was holds = content_said s.history first old.acknowledged (plain (unworked (forward_tsn_chunk tsn streams))) emission.packet.contents (packet_said s.history first old.acknowledged emission old.sent s.packets was) holds

  said_interleaved : (emission : Emission) (tsn : ℕ) (streams : List ℕ) → HasEntry emission old.sent → HasEntry (plain (unworked (i_forward_tsn_chunk tsn streams))) emission.packet.contents → IsForward true s.history first old.acknowledged tsn streams
  said_interleaved emission tsn streams was holds = content_said s.history first old.acknowledged (plain (unworked (i_forward_tsn_chunk tsn streams))) emission.packet.contents (packet_said s.history first old.acknowledged emission old.sent s.packets was) holds

  forwarded_steady : (emission : Emission) (tsn : ℕ) (streams : List ℕ) (theirs new : Transfer) → HasEntry emission old.sent → HasEntry (plain (unworked (forward_tsn_chunk tsn streams))) emission.packet.contents → theirs.reassembly ≡ old.reassembly
      → MovesForward tsn (named_skips streams) theirs new → IsSteadyAs these old.reassembly new.reassembly
  forwarded_steady emission tsn streams theirs new was holds same' does = go whole refl
    where
      go : (b : Bool) → whole ≡ b → IsSteadyAs these old.reassembly new.reassembly
      go true exact = absurd (forwards_never emission tsn streams old.sent (free.0 exact) was holds)
      go false some =
          steady_then theirs new same'
          (forward_steady these tsn (named_skips streams) theirs new (others_skipped some tsn streams (said_plain emission tsn streams was holds)) (subst (λ (r : ReassemblyState). DefersBeside these r.deferral) (sym same') beside) does)

  forwarded_i_steady : (emission : Emission) (tsn : ℕ) (streams : List ℕ) (theirs new : Transfer) → HasEntry emission old.sent → HasEntry (plain (unworked (i_forward_tsn_chunk tsn streams))) emission.packet.contents → theirs.reassembly ≡ old.reassembly
      → MovesForward tsn (skipped_messages streams) theirs new → IsSteadyAs these old.reassembly new.reassembly
  forwarded_i_steady emission tsn streams theirs new was holds same' does = go whole refl
    where
      go : (b : Bool) → whole ≡ b → IsSteadyAs these old.reassembly new.reassembly
      go true exact = absurd (i_forwards_never emission tsn streams old.sent (free.0 exact) was holds)
      go false some =
          let is = said_interleaved emission tsn streams was holds in
          let none : skipped_messages streams ≡ [] = none_skipped is.passed.passed streams is.entries is.is is.names in
          steady_then theirs new same'
          (forward_steady these tsn (skipped_messages streams) theirs new (subst (λ (l : List SkippedTo). SkipOthers these l) (sym none) tt) (subst (λ (r : ReassemblyState). DefersBeside these r.deferral) (sym same') beside) does)

  pub steady_on : (direction : Direction) → DirectionStep old direction → IsSteadyAs these old.reassembly direction.reassembly
  steady_on _ (queues now sending fits some) = (beside, refl)
  steady_on _ (sets setting fits) = (beside, refl)
  steady_on _ (prepares ids fit kept) = (beside, refl)
  steady_on _ (commits go_on) = (beside, refl)
  steady_on _ (rolls_back unmixed) = (beside, refl)
  steady_on _ (flushes e draft answers same no_data allowed) = (beside, refl)
  steady_on _ (resends now room transfer left tsns chunks emission known sends are contents) = (beside, refl)
  steady_on _ (resends_nothing now room transfer left tsns known sends) = (beside, refl)
  steady_on _ (speaks emission no_data) = (beside, refl)
  steady_on _ (asks_again emission begun was contents) = (beside, refl)
  steady_on _ (renews emission newest earlier number asks out contents) = (beside, refl)
  steady_on _ (turns_aside transfer new known same) = (beside, refl)
  steady_on _ (acknowledges now sack transfer new known valid reached does) = (beside, refl)
  steady_on _ (loses now transfer known) = (beside, refl)
  steady_on _ (receives emission chunk theirs new was holds some same same' does) = steady_then theirs new same' (stays_steady these (data_arrival chunk) theirs new does (subst (λ (r : ReassemblyState). DefersBeside these r.deferral) (sym same') beside))
  steady_on _ (forwards emission tsn streams theirs new was holds same same' does) = forwarded_steady emission tsn streams theirs new was holds same' does
  steady_on _ (receives_interleaved emission chunk theirs new was holds some same same' does) = steady_then theirs new same' (stays_steady these (i_data_arrival chunk) theirs new does (subst (λ (r : ReassemblyState). DefersBeside these r.deferral) (sym same') beside))
  steady_on _ (forwards_interleaved emission tsn streams theirs new was holds same same' does) = forwarded_i_steady emission tsn streams theirs new was holds same' does
  steady_on _ (tracks new cumulative ranges) = (beside, refl)
  steady_on _ (defers last_tsn streams some) = (deferring_beside these last_tsn streams old.reassembly.deferral (asked_none streams some.asked) beside, refl)
  steady_on _ (performs newest earlier new asks unknown reached own leaves) = ended_steady newest.reset.streams new leaves
  steady_on _ (resets streams new unmixed some leaves) = ended_steady streams new leaves
  steady_on _ (performs_earlier newest earlier new asks unknown reached own leaves) = ended_steady newest.reset.streams new leaves
  steady_on _ (takes message messages ready) = (beside, refl)

  module _ (counts : CountsThese whole these s.history) (window : old.reassembly.max_size ≡ size) (can : CanBeCounted size old.queued) where
    with_received : (a : Arrives whole these first s.history old.queued old.read old.tracker old.reassembly) (read : List MessageContent) (tracker : TrackerState) (reassembly : ReassemblyState) → WereQueued old.queued a.places read
        → HasReceivedPlain whole these old.queued s.history first a.places tracker reassembly → Arrives whole these first s.history old.queued read tracker reassembly
    with_received a read tracker reassembly were received = record { places = a.places; were = were; once = a.once; received = received }

    data_arrives : (a : Arrives whole these first s.history old.queued old.read old.tracker old.reassembly) (theirs new : Transfer) → theirs.tracker ≡ old.tracker → theirs.reassembly ≡ old.reassembly
        → (offset : ℕ) (arrival : Arrival) → Carries s.history.log first offset arrival.tsn arrival.chunk → ReceivesData arrival theirs new → Arrives whole these first s.history old.queued old.read new.tracker new.reassembly
    data_arrives a theirs new same same' offset arrival carries does =
        let before : HasReceivedPlain whole these old.queued s.history first a.places theirs.tracker theirs.reassembly =
        subst (λ (t : TrackerState). HasReceivedPlain whole these old.queued s.history first a.places t theirs.reassembly) (sym same)
        (subst (λ (r : ReassemblyState). HasReceivedPlain whole these old.queued s.history first a.places old.tracker r) (sym same') a.received) in
        with_received a old.read new.tracker new.reassembly a.were
        (received_plain old.queued s.history first size s.queues.cut whole these counts small a.places offset arrival theirs new carries before (subst (λ (r : ReassemblyState). DefersBeside these r.deferral) (sym same') beside)
        (ap (λ (r : ReassemblyState). r.max_size) same' ∙ window) (counted_at size old.queued carries.piece.place carries.piece.message can (s.queues.cut.pieces offset carries.piece carries.at).at) does)

    ended_arrives : (a : Arrives whole these first s.history old.queued old.read old.tracker old.reassembly) (streams : List ℕ) (new : ReassemblyState) → AreUnnamed these streams → EndsDeferral streams old.reassembly new
        → Arrives whole these first s.history old.queued old.read old.tracker new
    ended_arrives a streams new apart leaves =
        with_received a old.read old.tracker new a.were (ends_plain old.queued s.history first size s.queues.cut whole these counts small a.places streams old.tracker old.reassembly new apart beside (s.arrived counts.few).received.forwards a.received leaves)

    theirs_have : (a : Arrives whole these first s.history old.queued old.read old.tracker old.reassembly) (theirs : Transfer) → theirs.tracker ≡ old.tracker → theirs.reassembly ≡ old.reassembly
        → HasReceivedPlain whole these old.queued s.history first a.places theirs.tracker theirs.reassembly
    theirs_have a theirs same same' =
        subst (λ (t : TrackerState). HasReceivedPlain whole these old.queued s.history first a.places t theirs.reassembly) (sym same)
        (subst (λ (r : ReassemblyState). HasReceivedPlain whole these old.queued s.history first a.places old.tracker r) (sym same') a.received)

    -- what is acknowledged the tracker has passed
    passed_before : whole ≡ false → (tracker : TrackerState) → tracker ≡ old.tracker → (passed : ℕ) → PassesAcknowledged s.history.log old.acknowledged passed
        → (n : ℕ) (f : Piece) → at_place n s.history.log ≡ Some (Some f) → these f.message.stream ≡ true → n < passed → tracked_number first n ≤ tracker.cumulative
    passed_before some tracker same passed reliable n f at mine low =
        let below : n < old.acknowledged = reliable n f at low (unlimited_these some n f at mine) in
        let count = s.count in
        let few = counts.few in
        let reached = covers.covered (omega (arith, count, few)) in
        subst (λ (t : TrackerState). tracked_number first n ≤ t.cumulative) (sym same) (omega (arith, below, reached))

    skipped_arrives : whole ≡ false → (a : Arrives whole these first s.history old.queued old.read old.tracker old.reassembly) (tsn : ℕ) (entries : List SkippedTo) (theirs new : Transfer) → theirs.tracker ≡ old.tracker → theirs.reassembly ≡ old.reassembly
        → (passed : IsPassed s.history.log first tsn) → PassesAcknowledged s.history.log old.acknowledged passed.passed → SkipOthers these entries → AreNamed s.history entries → MovesForward tsn entries theirs new → Arrives whole these first s.history old.queued old.read new.tracker new.reassembly
    skipped_arrives some a tsn entries theirs new same same' passed reliable others named does =
        with_received a old.read new.tracker new.reassembly a.were (go passed.passed passed.below passed.is reliable)
      where
        go : (k : ℕ) → k ≤ length s.history.log → tsn ≡ (first + k + (2 ^ 32 - 1)) % 2 ^ 32 → PassesAcknowledged s.history.log old.acknowledged k → HasReceivedPlain whole these old.queued s.history first a.places new.tracker new.reassembly
        go zero below is known = nothing_plain old.queued s.history first s.queues.cut whole these counts small a.places tsn entries theirs new is (theirs_have a theirs same same') does
        go (suc k) below is known =
            forwarded_plain old.queued s.history first s.queues.cut whole these counts small a.places some tsn entries (record { offset = k; below = omega (arith, below); is = is ∙ omega arith }) others named theirs new
            (λ n f at mine up. passed_before some theirs.tracker same (suc k) known n f at mine (omega (arith, up))) (theirs_have a theirs same same') does

    forwarded_arrives : (a : Arrives whole these first s.history old.queued old.read old.tracker old.reassembly) (emission : Emission) (tsn : ℕ) (streams : List ℕ) (theirs new : Transfer) → HasEntry emission old.sent
        → HasEntry (plain (unworked (forward_tsn_chunk tsn streams))) emission.packet.contents → theirs.tracker ≡ old.tracker → theirs.reassembly ≡ old.reassembly → MovesForward tsn (named_skips streams) theirs new
        → Arrives whole these first s.history old.queued old.read new.tracker new.reassembly
    forwarded_arrives a emission tsn streams theirs new was holds same same' does = go whole refl
      where
        go : (b : Bool) → whole ≡ b → Arrives whole these first s.history old.queued old.read new.tracker new.reassembly
        go true exact = absurd (forwards_never emission tsn streams old.sent (free.0 exact) was holds)
        go false some =
            let is = said_plain emission tsn streams was holds in
            skipped_arrives some a tsn (named_skips streams) theirs new same same' is.passed is.reliable (others_skipped some tsn streams is) (plain_named s.history is.passed.passed (named_skips streams) kinds (forward_skips s.history first old.acknowledged tsn streams is)) does

    forwarded_i_arrives : (a : Arrives whole these first s.history old.queued old.read old.tracker old.reassembly) (emission : Emission) (tsn : ℕ) (streams : List ℕ) (theirs new : Transfer) → HasEntry emission old.sent
        → HasEntry (plain (unworked (i_forward_tsn_chunk tsn streams))) emission.packet.contents → theirs.tracker ≡ old.tracker → theirs.reassembly ≡ old.reassembly → MovesForward tsn (skipped_messages streams) theirs new
        → Arrives whole these first s.history old.queued old.read new.tracker new.reassembly
    forwarded_i_arrives a emission tsn streams theirs new was holds same same' does = go whole refl
      where
        go : (b : Bool) → whole ≡ b → Arrives whole these first s.history old.queued old.read new.tracker new.reassembly
        go true exact = absurd (i_forwards_never emission tsn streams old.sent (free.0 exact) was holds)
        go false some =
            let is = said_interleaved emission tsn streams was holds in
            let none : skipped_messages streams ≡ [] = none_skipped is.passed.passed streams is.entries is.is is.names in
            skipped_arrives some a tsn (skipped_messages streams) theirs new same same' is.passed is.reliable (subst (λ (l : List SkippedTo). SkipOthers these l) (sym none) tt) (subst (λ (l : List SkippedTo). AreNamed s.history l) (sym none) tt) does

    arrives_on : (direction : Direction) → DirectionStep old direction → Arrives whole these first s.history old.queued old.read old.tracker old.reassembly
        → Arrives whole these first s.history direction.queued direction.read direction.tracker direction.reassembly
    arrives_on _ (queues now sending fits some) a =
        arrives_later whole these first s.history s.history old.queued (message_of sending ∷ []) old.read old.tracker old.reassembly (continues_same s.history) a
    arrives_on _ (sets setting fits) a = a
    arrives_on _ (prepares ids fit kept) a = a
    arrives_on _ (commits go_on) a = a
    arrives_on _ (rolls_back unmixed) a = a
    arrives_on _ (flushes e draft answers same no_data allowed) a = a
    arrives_on _ (resends now room transfer left tsns chunks emission known sends are contents) a = a
    arrives_on _ (resends_nothing now room transfer left tsns known sends) a = a
    arrives_on _ (speaks emission no_data) a = a
    arrives_on _ (asks_again emission begun was contents) a = a
    arrives_on _ (renews emission newest earlier number asks out contents) a = a
    arrives_on _ (turns_aside transfer new known same) a = a
    arrives_on _ (acknowledges now sack transfer new known valid reached does) a = a
    arrives_on _ (loses now transfer known) a = a
    arrives_on _ (receives emission chunk theirs new was holds some same same' does) a =
        let is : IsData s.history.log first chunk = content_said s.history first old.acknowledged (plain (unworked (data_chunk chunk))) emission.packet.contents (packet_said s.history first old.acknowledged emission old.sent s.packets was) holds in
        data_arrives a theirs new same same' is.number (data_arrival chunk) (carries_piece old.queued s.history.log first chunk s.queues.cut s.fit is some) does
    arrives_on _ (forwards emission tsn streams theirs new was holds same same' does) a = forwarded_arrives a emission tsn streams theirs new was holds same same' does
    arrives_on _ (receives_interleaved emission chunk theirs new was holds some same same' does) a =
        let is : IsInterleaved s.history.log first chunk = content_said s.history first old.acknowledged (plain (unworked (i_data_chunk chunk))) emission.packet.contents (packet_said s.history first old.acknowledged emission old.sent s.packets was) holds in
        data_arrives a theirs new same same' is.number (i_data_arrival chunk) (carries_interleaved old.queued s.history.log first chunk s.queues.cut s.fit is some) does
    arrives_on _ (forwards_interleaved emission tsn streams theirs new was holds same same' does) a = forwarded_i_arrives a emission tsn streams theirs new was holds same same' does
    arrives_on _ (tracks new cumulative ranges) a = with_received a old.read new old.reassembly a.were (tracked_plain whole these old.queued s.history first a.places old.tracker new old.reassembly cumulative ranges a.received)
    arrives_on _ (defers last_tsn streams some) a = with_received a old.read old.tracker (deferring last_tsn streams old.reassembly) a.were (deferring_plain whole these old.queued s.history first a.places last_tsn streams old.tracker old.reassembly a.received)
    arrives_on _ (performs newest earlier new asks unknown reached own leaves) a = ended_arrives a newest.reset.streams new (newest_none newest earlier asks) leaves
    arrives_on _ (resets streams new unmixed some leaves) a = ended_arrives a streams new (asked_none streams some) leaves
    arrives_on _ (performs_earlier newest earlier new asks unknown reached own leaves) a = ended_arrives a newest.reset.streams new (newest_none newest earlier asks) leaves
    arrives_on _ (takes message messages ready) a =
        let t = takes_plain whole these old.queued s.history first a.places old.tracker old.reassembly message messages ready a.received in
        record {
          places = a.places ++ t.place ∷ [];
          were = both_queued old.queued a.places (t.place ∷ []) old.read (message ∷ []) a.were (t.was, tt);
          once = distinct_with t.place a.places [] (subst (λ (l : List ℕ). AreDistinct l) (sym (append-nil a.places)) a.once) (λ h. t.fresh (subst (λ (l : List ℕ). HasEntry t.place l) (append-nil a.places) h));
          received = t.received;
        }

steps_plain : (whole : Bool) (these : ℕ → Bool) (first size : ℕ) (old : Direction) → first < 2 ^ 32 → Covers first old → GoesPlain whole these first size old → (direction : Direction) → length direction.queued < 2 ^ 64 → old.queues.queue.is_interleaved ≡ false → DirectionStep old direction
    → GoesPlain whole these first size direction
steps_plain whole these first size old small covers g direction few kind step =
    let s = stepped first old small g.stands direction few step in
    let c : Continues g.stands.history s.history = calm_continues first old small g.stands direction few step (λ mixed. absurd (let clash : true ≡ false = sym mixed ∙ kind in cc)) in
    let keeps : (id : ℕ) → direction.beginning.keeps id ≡ true → old.beginning.keeps id ≡ true = λ id kept. sym (ap (λ (b : Beginning). b.keeps id) (same_beginning old direction step)) ∙ kept in
    let open_now : (id : ℕ) → direction.beginning.keeps id ≡ true → IsOpenOn id direction.queues.queue.streams = λ id kept. step_open id old direction step (keeps id kept) (g.unpaused id (keeps id kept)) in
    let before : AreUnasked these direction → AreUnasked these old = λ unasked begun has. unasked begun (asked_before old direction step begun has) in
    record {
      stands = s;
      zero = λ from id. ap (λ (floors : ℕ → Bool → ℕ). floors id false) c.floors ∙ g.zero (sym (ap (λ (b : Beginning). b.from_zero) (same_beginning old direction step)) ∙ from) id;
      unpaused = open_now;
      unnamed = λ id kept. stays_unnamed id first old g.stands (g.unnamed id (keeps id kept)) direction step (not_handed id direction.queues.queue.streams (open_now id kept));
      kept = λ id kept are. step_keeps_on id first old g.stands direction step (keeps id kept) are s c.more c.log (g.kept id (keeps id kept) (unlimited_earlier id old direction step are));
      steady = λ unasked free. (
          let was = g.steady (before unasked) (free_before free) in
          let is = steady_on whole these first size old small (before unasked) (free_before free) was.0 g.stands covers kind direction step in
          (is.0, is.1 ∙ was.1)
          );
      arrives = λ unasked counts can free. (
          let counts' = these_before g.stands.history s.history c.more c.log whole these counts in
          let can' : CanBeCounted size old.queued = counted_before size old direction step can in
          let was = g.steady (before unasked) (free_before free) in
          arrives_later whole these first g.stands.history s.history direction.queued [] direction.read direction.tracker direction.reassembly c
          (arrives_on whole these first size old small (before unasked) (free_before free) was.0 g.stands covers kind counts' was.1 can' direction step (g.arrives (before unasked) counts' can' (free_before free)))
          );
    }
  where
    free_before : AreFree whole these direction → AreFree whole these old
    free_before free = ((λ exact. none_before old direction step (free.0 exact)), (λ some id mine. unlimited_earlier id old direction step (free.1 some id mine)))

-- ---- a run

-- a receiver that has received nothing
new_steady : (these : ℕ → Bool) (size overhead : ℕ) (reassembly : ReassemblyState) → reassembly ≡ new_reassembly size overhead → DefersBeside these reassembly.deferral × (reassembly.max_size ≡ size)
new_steady these size overhead reassembly is = (subst (λ (r : ReassemblyState). DefersBeside these r.deferral) (sym is) tt, ap (λ (r : ReassemblyState). r.max_size) is)

none_named : (id : ℕ) (asking : Asking) → asking ≡ nothing_asked → (begun : BegunReset) → HasEntry begun asking.requests → names_stream begun.reset.streams id ≡ false
none_named id asking is begun has = absurd (subst (λ (a : Asking). HasEntry begun a.requests) is has)

begins_plain : (whole : Bool) (these : ℕ → Bool) (options : Options) (first size : ℕ) (direction : Direction) → first < 2 ^ 32 → direction.queues.queue.is_interleaved ≡ false → BeginsDirection options first size direction → GoesPlain whole these first size direction
begins_plain whole these options first size direction small kind b =
    let w = waits_from direction.queued direction.queues.queue b.queues in
    let b' : BeginsDirection options first size direction = record b { queues = w.waits } in
    let is = begun_history options first size direction small b' in
    record {
      stands = begun_stands options first size direction small b';
      zero = λ from id. ap (λ (h : History). h.floors id false) is ∙ w.plain kind (b.begun.zero from) id;
      unpaused = λ id kept. (b.begun.all id kept).unpaused;
      unnamed = λ id kept. none_named id direction.asking b.asking;
      kept = λ id kept are place message at on. inr ((b.begun.all id kept).waits place message at on);
      steady = λ unasked free. new_steady these size (part_overhead options) direction.reassembly b.reassembly;
      arrives = λ unasked counts can free. arrives_none whole these first direction (begun_stands options first size direction small b') w.waits.floors is counts;
    }

starts_plain : (whole : Bool) (these : ℕ → Bool) (options : Options) (first size : ℕ) (old : Direction) (queued : List Message) (below : EndpointQueues) (beginning : Beginning) → first < 2 ^ 32 → DirectionRun options first size old → Stands first old → (awaited : IsAwaited old)
    → AllByRecursion Fits queued → QueueWaits queued below.queue → NoneInFlight first below.queue below.transfer → BeginsAs beginning queued below.queue → below.queue.is_interleaved ≡ false
    → GoesPlain whole these first size (record old { queued = queued; queues = below; prepared = []; beginning = beginning })
starts_plain whole these options first size old queued below beginning small run stands awaited fit waits none begun kind =
    let w = waits_from queued below.queue waits in
    let s = started_stands first old queued below beginning stands awaited small fit w.waits none in
    let is = started_history first old queued below beginning stands awaited small fit w.waits none in
    let nothing = unsent_nothing options first size old run (record { sent = awaited.sent; asked = ap (λ (a : Asking). a.requests) awaited.asking }) in
    record {
      stands = s;
      zero = λ from id. ap (λ (h : History). h.floors id false) is ∙ w.plain kind (begun.zero from) id;
      unpaused = λ id kept. (begun.all id kept).unpaused;
      unnamed = λ id kept. none_named id old.asking awaited.asking;
      kept = λ id kept are place message at on. inr ((begun.all id kept).waits place message at on);
      steady = λ unasked free. new_steady these size (part_overhead options) old.reassembly nothing.reassembly;
      arrives = λ unasked counts can free. arrives_none whole these first (record old { queued = queued; queues = below; prepared = []; beginning = beginning }) s w.waits.floors is counts;
    }

pub run_plain : (whole : Bool) (these : ℕ → Bool) (options : Options) (first size : ℕ) (direction : Direction) → first < 2 ^ 32 → length direction.queued < 2 ^ 64 → DirectionRun options first size direction → direction.queues.queue.is_interleaved ≡ false
    → GoesPlain whole these first size direction
run_plain whole these options first size _ small few (begins direction b) kind = begins_plain whole these options first size direction small kind b
run_plain whole these options first size _ small few (goes_on old direction run step) kind =
    let was : old.queues.queue.is_interleaved ≡ false = sym (same_kind old direction step) ∙ kind in
    let before : length old.queued < 2 ^ 64 = omega (arith, few, more_queued old direction step) in
    steps_plain whole these first size old small (run_covers options first size old small before run) (run_plain whole these options first size old small before run was) direction few was step
run_plain whole these options first size _ small few (starts old queued below beginning run awaited fit waits idle begun) kind =
    let none_queued : length old.queued ≡ 0 = ap (λ (l : List Message). length l) awaited.queued in
    starts_plain whole these options first size old queued below beginning small run (run_stands options first size old small (omega (arith, none_queued)) run) awaited fit waits idle begun kind

-- ---- what was read

pub in_order_front : (queued : List Message) (id : ℕ) (xs ys : List ℕ) → ComeInOrder queued id (xs ++ ys) → ComeInOrder queued id xs
in_order_front queued id [] ys are = tt
in_order_front queued id (x ∷ xs) ys are = (λ later has on on'. are.0 later (among later xs has) on on', in_order_front queued id xs ys are.1)
  where
    among : (p : ℕ) (zs : List ℕ) → HasEntry p zs → HasEntry p (zs ++ ys)
    among p [] h = absurd h
    among p (z ∷ zs) h = elim h [ inl e ↦ inl e | inr t ↦ inr (among p zs t) ]

-- ---- the SSNs of the log count its messages

named_fields : (id : ℕ) (ids : List ℕ) → id < 2 ^ 16 → is_named ids id ≡ true → is_named (map stream_field ids) id ≡ true
named_fields id [] small named = absurd (cc)
named_fields id (i ∷ ids) small named =
    elim (eqb_tells i id) [
      | inl e ↦ (let same : i ≡ id = e.1 in rw (eq-eqb (stream_field i) id (omega (arith, same, small))) refl)
      | inr e ↦ behind (stream_field i == id) (named_fields id ids small (subst (λ (b : Bool). (b || is_named ids id) ≡ true) e.0 named))
    ]
  where
    behind : (b : Bool) → is_named (map stream_field ids) id ≡ true → (b || is_named (map stream_field ids) id) ≡ true
    behind true is = refl
    behind false is = is

fields_name : (id : ℕ) (ids : List ℕ) → is_named (map stream_field ids) id ≡ true → names_stream (map stream_field ids) id ≡ true
fields_name id [] named = refl
fields_name id (i ∷ ids) named = named

has_begun : (mark : Mark) (marks : List Mark) → HasEntry mark marks → HasEntry mark.begun (map (λ (m : Mark). m.begun) marks)
has_begun mark [] has = absurd has
has_begun mark (m ∷ marks) has = elim has [ inl e ↦ inl (ap (λ (x : Mark). x.begun) e) | inr t ↦ inr (has_begun mark marks t) ]

module _ (first : ℕ) (direction : Direction) (s : Stands first direction) (kind : direction.queues.queue.is_interleaved ≡ false) (floors : (id : ℕ) → s.history.floors id false ≡ 0) (few : length s.history.log < 2 ^ 31) where
  -- no mark names the stream
  unmarked : (id : ℕ) → id < 2 ^ 16 → ((begun : BegunReset) → HasEntry begun direction.asking.requests → names_stream begun.reset.streams id ≡ false) → (mark : Mark) → HasEntry mark s.history.marks → Resets mark id → ⊥
  unmarked id small unnamed mark has names =
      let fields = (s.queues.marks mark has).fields in
      let named : names_stream mark.begun.reset.streams id ≡ true = subst (λ (l : List ℕ). names_stream l id ≡ true) (sym fields) (fields_name id mark.ids (named_fields id mark.ids small names)) in
      let shut = unnamed mark.begun (subst (λ (l : List BegunReset). HasEntry mark.begun l) (sym s.asked) (has_begun mark s.history.marks has)) in
      absurd (let clash : true ≡ false = sym named ∙ shut in cc)

  pub counts_plain : (id : ℕ) → ((begun : BegunReset) → HasEntry begun direction.asking.requests → names_stream begun.reset.streams id ≡ false) → CountsPlain id s.history
  counts_plain id unnamed =
      let c : CountsSsns s.history direction.queues.queue.streams direction.queues.queue.held =
      subst (λ (b : Bool). CountsByKind b s.history direction.queues.queue.streams direction.queues.queue.held) kind s.queues.numbers.counts in
      record {
        kinds = λ n f at. s.queues.numbers.kinds n f at ∙ kind;
        sent = λ n f of. (
            let fits = fits_at direction.queued f.place f.message s.fit (s.queues.cut.pieces n f of.at).at in
            let small : id < 2 ^ 16 = (let low = fits.stream in let on = of.stream in omega (arith, low, on)) in
            (c.turns id (record { floor = floors id; none = unmarked id small unnamed })).sent n f of.at of.stream of.ordered
            );
        closes = c.closes;
        few = few;
      }

  pub counts_these : (whole : Bool) (these : ℕ → Bool) → AreUnasked these direction → (whole ≡ false → (id : ℕ) → these id ≡ true → AreUnlimitedOn id direction.queued) → CountsThese whole these s.history
  counts_these whole these unasked unlimited =
      record { kinds = λ n f at. s.queues.numbers.kinds n f at ∙ kind; few = few; each = λ id mine. counts_plain id (λ begun has. unasked begun has id mine); unlimited = λ some n f at mine. unlimited_on_at f.message.stream direction.queued f.place f.message (unlimited some f.message.stream mine) (s.queues.cut.pieces n f at).at refl }

-- the ordered messages of such a stream that were read come in order
pub arrived_in_order : (whole : Bool) (these : ℕ → Bool) (first : ℕ) (history : History) (queued : List Message) (read : List MessageContent) (tracker : TrackerState) (reassembly : ReassemblyState)
    (a : Arrives whole these first history queued read tracker reassembly) (id : ℕ) → these id ≡ true → ComeInOrder queued id a.places
arrived_in_order whole these first history queued read tracker reassembly a id mine = go a.received.got a.received.holds
  where
    front : (got : List ℕ) (base : ℕ) → IncomingPlain these queued history got base a.places reassembly.incoming → ComeInOrder queued id a.places
    front got base o = in_order_front queued id a.places o.holds.places (o.order id mine).order.in_order

    go : (got : List ℕ) → ReassemblesPlain these queued history first got a.places reassembly.incoming → ComeInOrder queued id a.places
    go got (none_handled none last empty) = front [] 0 (empty 0)
    go got (some_handled base at o) = front got base o

pub plain_directions_deliver_in_order : (options : Options) (first size : ℕ) (direction : Direction) → DirectionRun options first size direction
    → first < 2 ^ 32 → assigned_count direction < 2 ^ 31 → length direction.queued < 2 ^ 64 → size ≤ 2 ^ 63 → direction.queues.queue.is_interleaved ≡ false
    → direction.beginning.from_zero ≡ true → direction.asking.requests ≡ [] → NoneForwards direction.sent → AreDeliveredInOrder direction.queued direction.read
plain_directions_deliver_in_order options first size direction run small little few window kind from unasked none =
    let g = run_plain true (λ id. true) options first size direction small few run kind in
    let can = can_count size direction.queued window (direction_queues options first size direction run small few).1 in
    let s = g.stands in
    let count = s.count in
    let nothing : AreUnasked (λ id. true) direction = λ begun has. absurd (subst (λ (l : List BegunReset). HasEntry begun l) unasked has) in
    let counts = counts_these first direction s kind (g.zero from) (omega (arith, count, little)) true (λ id. true) nothing (λ some. absurd (cc)) in
    let a = g.arrives nothing counts can ((λ exact. none), (λ some. absurd (cc))) in
    record {
      delivered = record { places = a.places; were_queued = a.were; once = a.once };
      in_order = λ id. arrived_in_order true (λ other. true) first s.history direction.queued direction.read direction.tracker direction.reassembly a id refl;
    }
