-- Over an honest run in which each tag serves one association, what a user reads is what its peer's
-- user sent.
use Rattle.dcsctp_delivery_sockets.proofs.sockets.Split.{is_split}
use Rattle.dcsctp_delivery_sockets.specs.sockets.Split.{IsSplitByResets}
use Rattle.std.proofs.Common.{◌≡◌, ℕ, zero, suc, List, [], ◌∷◌, ◌++◌, length, refl, sym, ◌∙◌, ap, subst, inl, inr, Bool, true, not, ◌<◌, ◌^◌, false, ◌+◌, arith}
use Rattle.std.proofs.lemmas.Bool.Decides.{leb_tells}
use Rattle.std.specs.Prelude.{◌⊎◌, Option, None, Some, false, Bool}
use Rattle.std.specs.List.{slice_get}
use Rattle.std.proofs.lemmas.List.{append-nil}
use Rattle.dcsctp_spec_lemmas.specs.wire.Content.{PacketContent}
use Rattle.dcsctp_spec_lemmas.specs.wire.Format.{IsPacket}
use Rattle.dcsctp_spec_lemmas.specs.types.declared.options.Options.{Options}
use Rattle.dcsctp_spec_lemmas.specs.types.declared.schedule.Side.{Side}
use Rattle.dcsctp_spec_lemmas.specs.types.declared.schedule.Side.TheVariants as sides
use Rattle.dcsctp_spec_lemmas.specs.types.Schedule.{StepContent, call_step, delivery_step, ActContent, step_act, outside_act, IsHonestAct, AreHonest}
use Rattle.dcsctp_spec_lemmas.specs.types.Settings.{FitsOptions, wire_options, ports_of}
use Rattle.dcsctp_spec_lemmas.specs.spec.endpoint.CallTurns.{Transition, HandleInput, events_of, effects_of, AlongTurns}
use Rattle.dcsctp_spec_lemmas.specs.spec.endpoint.Endpoint.{Endpoint, fresh_endpoint}
use Rattle.dcsctp_spec_lemmas.specs.spec.endpoint.Event.{Event, sent, packets_of_events}
use Rattle.dcsctp_spec_runs.specs.Fitting.{HoldsIfSent, AllSent, FitsEndpoint, IsSendable}
use Rattle.dcsctp_spec_runs.specs.Laws.{AnswerKeepsAgreement}
use Rattle.dcsctp_spec_lemmas.specs.spec.Packet.{packet_of_content, Emission, emission_bytes}
use Rattle.dcsctp_spec_runs.specs.Sockets.{PerformedAct, Both, of_side, of_other, side_of, side_turns_added, turns_after, endpoint_after, packets_shown, DeliveryTurns, StepTurns, SocketRun, side_of_act, NextTurns, acts_of}
use Rattle.dcsctp_spec_runs.proofs.RunsAlong.{run_along}
use Rattle.dcsctp_theorem_sockets.specs.Agreement.{AreUsable, AreFresh, recorded_past}
use Rattle.dcsctp_theorem_sockets.proofs.Deliver.{IsSent, sent_at, reads_as_sent}
use Rattle.dcsctp_theorem_sockets.proofs.Moves.{Below}
use Rattle.dcsctp_theorem_sockets.proofs.Sent.{all_sent_map}
use Rattle.dcsctp_theorem_sockets.proofs.SocketsAgree.{Joined, joined}
use Rattle.dcsctp_theorem_sockets.proofs.SocketsAlone.{MoveLaws, of_moves}
use Rattle.dcsctp_delivery_directions.specs.sending.Places as places
use Rattle.dcsctp_delivery_directions.specs.directions.Directions.{AreDelivered}
use Rattle.dcsctp_delivery_sockets.specs.associations.Reads.{nothing_read, messages_of, with_key}
use Rattle.dcsctp_delivery_sockets.specs.sockets.Echoes.{GoesToMaker}
use Rattle.dcsctp_delivery_sockets.specs.sockets.Ordered.{HasOneTag, StartsAtZero, AllowsOrder, IsDeliveredInOrder, read_under, AllowsNoGaps, IsDeliveredWithoutGaps, IsReliable, IsDeliveredByStream, AllowsDataOrder}
use Rattle.dcsctp_delivery_sockets.specs.sockets.UserMessages.{messages_of_turns, sendings_of_turns, read_of, IsDelivered}
use Rattle.dcsctp_delivery_sockets.specs.sockets.Delivery.{FitsStep, AreInMemory, MatchOrUnmatched, SendsLittle, SendsLittleTogether, TurnsAllowDelivery, Delivers, SocketsDeliver, IsOfNewTagsBut, NoneFails, IsUnrefused}
use Rattle.dcsctp_delivery_sockets.proofs.associations.Delivers.{ends_begin, ends_deliver}
use Rattle.dcsctp_delivery_sockets.specs.sockets.Acts.{ResetsThrough}
use Rattle.dcsctp_delivery_sockets.specs.sockets.Epochs.{HasReset, ReportsPeerReset, IsDeliveredByEpoch, IsDeliveredInEpochs, ResetsWithNoneWaiting}
use Rattle.dcsctp_delivery_sockets.proofs.sockets.AskedResets.{asked_through, asked_first, asked_later, emptied_through, emptied_first, emptied_later, emptied_so, has_reset_so}
use Rattle.dcsctp_delivery_sockets.proofs.sockets.Epochs.{is_by_epoch, is_in_epochs}
use Rattle.dcsctp_delivery_directions.specs.sending.Log.{Message}
use Rattle.dcsctp_delivery_sockets.specs.turns.Actions.{queued_after, resets_streams, resets_stream}
use Rattle.std.specs.List.{AllByRecursion}
use Rattle.std.specs.Prelude.{not, ◌&&◌}
use Rattle.dcsctp_delivery_directions.specs.order.Delivered.{AreDeliveredInOrder, AreDeliveredWithoutGaps}
use Rattle.dcsctp_delivery_sockets.specs.associations.InOrder.{Interleaves, InterleavesUnder, AreThrough}
use Rattle.dcsctp_delivery_sockets.specs.associations.InOrder.{IsReliableKept}
use Rattle.dcsctp_delivery_directions.proofs.order.StreamDirections.{are_unlimited_on as unlimited_test, unlimited_so, so_unlimited}
use Rattle.dcsctp_delivery_directions.proofs.receiving.Joining.{both}
use Rattle.dcsctp_delivery_sockets.specs.associations.Ends.{ResetCalls, NumbersFromZero, HadBoth, chunks_before, IsOnlyOwn}
use Rattle.dcsctp_spec_lemmas.specs.spec.endpoint.MessageOutcomes.{Sending}
use Rattle.dcsctp_spec_lemmas.specs.spec.endpoint.Turn.{Input, arrival, refusal, packet_begins, chunk_input, packet_ends, act_input, user_sets, user_sends, user_resets, user_takes, timer_expires, time_passes, restores}
use Rattle.dcsctp_delivery_directions.specs.order.PlainDirections.{FewOnEachStream}
use Rattle.dcsctp_delivery_directions.specs.sending.Losing.{AreUnlimited}
use Rattle.dcsctp_delivery_sockets.specs.sockets.Ordered.{SetsNoLimits, SendsFew, IsDeliveredOn, IsDeliveredAllOn}
use Rattle.dcsctp_delivery_sockets.proofs.sockets.FewSent.{few_queued_on}
use Rattle.dcsctp_delivery_sockets.proofs.associations.InOrder.{ends_deliver_in_order, ends_deliver_data_in_order, ends_deliver_by_stream, ends_deliver_on_streams, ends_arrive, ends_deliver_without_gaps, nothing_in_order, nothing_before, nothing_by_stream, nothing_on}
use Rattle.dcsctp_delivery_sockets.proofs.associations.Heard.{one_heard, silent_or_free}
use Rattle.dcsctp_theorem_sockets.specs.Telling.{SocketsReportEffects}
use Rattle.dcsctp_delivery_sockets.proofs.sockets.Resets.{AllSeen, seen_both, seen_more, resets_shared, all_tell}
use Rattle.dcsctp_delivery_sockets.proofs.sockets.PacketBack.{turns_back, packet_back}
use Rattle.dcsctp_delivery_sockets.proofs.sockets.Calls.{AreCalls, call_without, call_is, input_is}
use Rattle.dcsctp_delivery_sockets.proofs.sockets.Echoes.{echoes_go_to_makers}
use Rattle.dcsctp_delivery_sockets.proofs.sockets.KnownPeers.{IsMove}
use Rattle.dcsctp_delivery_sockets.proofs.sockets.OpenFitting.{AllOpenFitting, none_open, packet_opens}
use Rattle.dcsctp_delivery_sockets.proofs.sockets.Early.{NoneRestored, StandsSo, fresh_stands, all_stand, none_echo, packet_echoes}
use Rattle.dcsctp_delivery_sockets.proofs.sockets.Replaced.{match_swapped, peers_differ, before_held, replaced_unmatched}
use Rattle.dcsctp_delivery_sockets.proofs.sockets.Performed.{SidePerformed, BothPerformed, both_performed, fresh_front}
use Rattle.dcsctp_delivery_sockets.proofs.sockets.Known.{past_more, rest_turns, rest_moves, same_rules_after, own_turn, IsOwn, GoodPacket, SideKnown, BothKnown, both_front}
use Rattle.dcsctp_delivery_sockets.proofs.sockets.Stands.{Stand, queued_of, packets_of, reading_of, queued_same, sender_more, receiver_calls, receiver_handles, few_queued}
use Rattle.dcsctp_delivery_sockets.proofs.sockets.UserMessages.{is_by_stream, is_on, is_all_on, SaysSame, are_unlimited, are_unlimited_on, nothing_same, turns_same, turns_read, is_delivered, is_in_order, SaysSame, is_without_gaps}
use Rattle.dcsctp_spec_lemmas.specs.spec.association.Effect.{AssociationIdentity, Effect, holds}
use Rattle.dcsctp_spec_runs.specs.Past.{HasEffect, Each}
use Rattle.dcsctp_delivery_sockets.proofs.associations.Tagged.{ReadUnder, nothing_under, under_key, read_under_key, read_of_both}
use Rattle.dcsctp_delivery_directions.specs.sending.ChunkCounts.{chunks_to}
use Rattle.dcsctp_delivery_directions.specs.directions.Requests.{requests_to}
use Rattle.dcsctp_delivery_directions.specs.order.Complete.{AreAllDelivered}
use Rattle.dcsctp_delivery_directions.specs.order.Streams.{AreDeliveredByStream, AreDeliveredOnStreams}
use Rattle.dcsctp_spec_lemmas.specs.types.queues.Messages.{MessageContent}
use Rattle.dcsctp_spec_lemmas.proofs.TurnLists.{after_all-append, events_of-append}
use Rattle.dcsctp_spec_runs.specs.World.{after_effects}

-- ---- a packet that is delivered

-- It was sent by the other side.
record WasGood (packets : List Emission) (emission : Emission) : Type 0 where
  good : GoodPacket emission
  has : places.HasEntry emission packets

good_among : (all : List Emission) (events : List (Event Emission)) → ((emission : Emission) → places.HasEntry emission (packets_of_events events) → places.HasEntry emission all) → AllSent GoodPacket events
    → AllSent (WasGood all) events
good_among all [] within each = tt
good_among all (sent emission ∷ events) within each =
    (record { good = each.0; has = within emission (inl refl) }, good_among all events (λ other has. within other (inr has)) each.1)
good_among all (event ∷ events) within each = (tt, good_among all events within each.1)

-- ---- an act of one side

-- both directions, once the side that acts has taken these turns
record ActedSide (reset_calls their_reset_calls : ResetCalls) (mine theirs : Options) (turns others more : List Transition) : Type 0 where
  sends : Stand reset_calls mine theirs (turns ++ more) others
  receives : Stand their_reset_calls theirs mine others (turns ++ more)
  side_stands : StandsSo (endpoint_after mine (turns ++ more)) (recorded_past (turns ++ more))
  resets : AllSeen (events_of others) more

module _ (law : Below) (reset_calls their_reset_calls : ResetCalls) (mine theirs : Options) (turns others more : List Transition) (fits : FitsEndpoint (endpoint_after mine turns)) (their_fits : FitsOptions theirs)
    (known : SideKnown reset_calls mine (recorded_past others) (turns ++ more)) (their_known : SideKnown their_reset_calls theirs (recorded_past (turns ++ more)) others)
    (matched : MatchOrUnmatched mine theirs (recorded_past (turns ++ more)) (recorded_past others))
    (side : SidePerformed (recorded_past (turns ++ more)) (recorded_past others)) (stands : StandsSo (endpoint_after mine turns) (recorded_past turns)) (sends : Stand reset_calls mine theirs turns others)
    (receives : Stand their_reset_calls theirs mine others turns) where
  nothing_done : more ≡ [] → ActedSide reset_calls their_reset_calls mine theirs turns others more
  nothing_done none =
      let same : turns ≡ turns ++ more = sym (ap (λ (m : List Transition). turns ++ m) none ∙ append-nil turns) in
      record {
        sends = subst (λ (ts : List Transition). Stand reset_calls mine theirs ts others) same sends;
        receives = subst (λ (ts : List Transition). Stand their_reset_calls theirs mine others ts) same receives;
        side_stands = subst (λ (ts : List Transition). StandsSo (endpoint_after mine ts) (recorded_past ts)) same stands;
        resets = subst (AllSeen (events_of others)) (sym none) tt;
      }

  stand_so : AreCalls more → AllOpenFitting more → StandsSo (endpoint_after mine (turns ++ more)) (recorded_past (turns ++ more))
  stand_so calls opens =
      subst (λ (past : List Effect). StandsSo (endpoint_after mine (turns ++ more)) past) (sym (past_more turns more))
      (subst (λ (e : Endpoint). StandsSo e (after_effects (effects_of more) (recorded_past turns))) (sym (after_all-append (fresh_endpoint mine) turns more))
      (all_stand more (recorded_past turns) (endpoint_after mine turns) stands (rest_turns reset_calls mine turns more known) calls (rest_moves reset_calls mine turns more known) opens
      (subst NoneRestored (past_more turns more) side.restored)))

  handled : (bytes : List ℕ) → IsSent (WasGood (packets_of others)) (emission_bytes (ports_of theirs)) bytes → HandleInput (endpoint_after mine turns) bytes more → ActedSide reset_calls their_reset_calls mine theirs turns others more
  handled bytes out taken =
      let e : Endpoint = endpoint_after mine turns in
      let is : (packet : PacketContent) → IsPacket (wire_options e.options) packet bytes → packet_of_content packet ≡ out.emission.packet =
      λ packet found. reads_as_sent law.built e.options theirs out.emission packet their_fits out.good.good.sendable (subst (λ (bs : List ℕ). IsPacket (wire_options e.options) packet bs) out.is found) in
      let opens : AllOpenFitting more = packet_opens law.offers e bytes out.emission more fits out.good.good.sendable is taken in
      let calls : AreCalls more = input_is e bytes more taken in
      let done = sender_more reset_calls mine theirs turns others more sends known matched stands side.performed side.found side.restored calls opens (packet_echoes e bytes out.emission more out.good.good.goes is taken)
      (packet_back (packets_of others) out.emission out.good.has e bytes more out.good.good.goes (silent_or_free sends.ends.gets (recorded_past others) out.emission (one_heard sends.ends.gets (recorded_past others) (packets_of others) out.emission sends.reported.heard out.good.has)) is taken) in
      record {
        sends = done.0;
        resets = done.1;
        receives = receiver_handles their_reset_calls reset_calls theirs mine others turns more receives known their_known.tags matched stands side.found side.restored their_known.little bytes out.emission out.good.has
            out.good.good is taken calls opens;
        side_stands = stand_so calls opens;
      }

  delivered : (index : ℕ) (found : Option (List ℕ)) → slice_get (packets_shown theirs others) index ≡ found → DeliveryTurns (endpoint_after mine turns) found more → ActedSide reset_calls their_reset_calls mine theirs turns others more
  delivered index None is none = nothing_done none
  delivered index (Some bytes) is taken =
      handled bytes (sent_at (WasGood (packets_of others)) (emission_bytes (ports_of theirs)) (events_of others) index bytes
      (good_among (packets_of others) (events_of others) (λ emission has. has) their_known.packets) is) taken

  side_acts : (step : StepContent) → FitsStep step → StepTurns (endpoint_after mine turns) (packets_shown theirs others) step more → ActedSide reset_calls their_reset_calls mine theirs turns others more
  side_acts (call_step which call) in_memory taken =
      let calls : AreCalls more = call_is (endpoint_after mine turns) call more in_memory taken in
      let none = call_without (endpoint_after mine turns) call more taken in
      let done = sender_more reset_calls mine theirs turns others more sends known matched stands side.performed side.found side.restored calls (none_open more none) (none_echo more none) (turns_back (packets_of others) (endpoint_after mine turns) more none) in
      record {
        sends = done.0;
        resets = done.1;
        receives = receiver_calls their_reset_calls reset_calls theirs mine others turns more receives known their_known.tags matched stands side.found side.restored their_known.little call taken calls;
        side_stands = stand_so calls (none_open more none);
      }
  side_acts (delivery_step which zero) in_memory none = nothing_done none
  side_acts (delivery_step which (suc index)) in_memory taken = delivered index (slice_get (packets_shown theirs others) index) refl taken

-- ---- a run

pub record BothStand (reset_calls : Both ResetCalls) (options : Both Options) (turns : Both (List Transition)) : Type 0 where
  pub to_b : Stand reset_calls.a options.a options.b turns.a turns.b
  pub to_a : Stand reset_calls.b options.b options.a turns.b turns.a
  pub a_stands : StandsSo (endpoint_after options.a turns.a) (recorded_past turns.a)
  pub b_stands : StandsSo (endpoint_after options.b turns.b) (recorded_past turns.b)
  pub a_resets : AllSeen (events_of turns.b) turns.a
  pub b_resets : AllSeen (events_of turns.a) turns.b

stepped : Below → (reset_calls : Both ResetCalls) (options : Both Options) (turns : Both (List Transition)) (step : StepContent) (more : List Transition) (side : Side) → AreUsable options → Joined options turns → BothKnown reset_calls options (side_turns_added side more turns)
    → BothPerformed (side_turns_added side more turns) → FitsStep step → BothStand reset_calls options turns → StepTurns (endpoint_after (of_side side options) (of_side side turns)) (packets_shown (of_other side options) (of_other side turns)) step more
    → BothStand reset_calls options (side_turns_added side more turns)
stepped law reset_calls options turns step more sides.A are j known performed in_memory h taken =
    let done = side_acts law reset_calls.a reset_calls.b options.a options.b turns.a turns.b more j.a.fits (are sides.B).fits known.a known.b known.matched performed.a h.a_stands h.to_b h.to_a step in_memory taken in
    record {
      to_b = done.sends;
      to_a = done.receives;
      a_stands = done.side_stands;
      b_stands = h.b_stands;
      a_resets = seen_both (events_of turns.b) turns.a more h.a_resets done.resets;
      b_resets = subst (λ (seen : List (Event Emission)). AllSeen seen turns.b) (sym (events_of-append turns.a more)) (seen_more (events_of turns.a) (events_of more) turns.b h.b_resets);
    }
stepped law reset_calls options turns step more sides.B are j known performed in_memory h taken =
    let done = side_acts law reset_calls.b reset_calls.a options.b options.a turns.b turns.a more j.b.fits (are sides.A).fits known.b known.a
    (match_swapped options.a options.b (recorded_past turns.a) (recorded_past (turns.b ++ more)) known.matched) performed.b h.b_stands h.to_a h.to_b step in_memory taken in
    record {
      to_b = done.receives;
      to_a = done.sends;
      a_stands = h.a_stands;
      b_stands = done.side_stands;
      a_resets = subst (λ (seen : List (Event Emission)). AllSeen seen turns.a) (sym (events_of-append turns.b more)) (seen_more (events_of turns.b) (events_of more) turns.a h.a_resets);
      b_resets = seen_both (events_of turns.a) turns.b more h.b_resets done.resets;
    }

acted : Below → (reset_calls : Both ResetCalls) (options : Both Options) (turns : Both (List Transition)) (act : ActContent) (more : List Transition) → AreUsable options → IsHonestAct act → AreInMemory (act ∷ []) → Joined options turns
    → BothKnown reset_calls options (side_turns_added (side_of_act act) more turns) → BothPerformed (side_turns_added (side_of_act act) more turns) → BothStand reset_calls options turns → NextTurns options turns act more → BothStand reset_calls options (side_turns_added (side_of_act act) more turns)
acted law reset_calls options turns (step_act step) more are honest in_memory j known performed h taken = stepped law reset_calls options turns step more (side_of step) are j known performed in_memory.0 h taken
acted law reset_calls options turns (outside_act outside) more are honest in_memory j known performed h taken = absurd honest

both_stand : Below → AnswerKeepsAgreement → (reset_calls : Both ResetCalls) (options : Both Options) (run : List PerformedAct) → AreUsable options → SocketRun options run → AreHonest (acts_of run) → AreFresh (turns_after run) → AreInMemory (acts_of run)
    → BothKnown reset_calls options (turns_after run)
    → BothStand reset_calls options (turns_after run)
both_stand law answers reset_calls options [] are runs honest fresh in_memory known = record { to_b = ends_begin (record reset_calls.a { made = [] }) options.a options.b refl; to_a = ends_begin (record reset_calls.b { made = [] }) options.b options.a refl; a_stands = fresh_stands options.a; b_stands = fresh_stands options.b; a_resets = tt; b_resets = tt }
both_stand law answers reset_calls options (worked ∷ earlier) are runs honest fresh in_memory known =
    let before : BothKnown reset_calls options (turns_after earlier) = both_front reset_calls options (turns_after earlier) (side_of_act worked.act) worked.turns known in
    acted law reset_calls options (turns_after earlier) worked.act worked.turns are honest.0 (in_memory.0, tt) (joined law options earlier are runs.1 honest.1) known
    (both_performed law answers options (worked ∷ earlier) are runs honest fresh)
    (both_stand law answers reset_calls options earlier are runs.1 honest.1 (fresh_front (turns_after earlier) (side_of_act worked.act) worked.turns fresh) in_memory.1 before) runs.0

-- ---- what is known of a run

-- the laws below that this rests on
pub record DeliveryLaws : Type 0 where
  pub below : Below
  pub answers : AnswerKeepsAgreement
  pub moves : MoveLaws

good_one : (event : Event Emission) → HoldsIfSent IsSendable event → HoldsIfSent GoesToMaker event → HoldsIfSent GoodPacket event
good_one (sent emission) sendable goes = record { sendable = sendable; goes = goes }
good_one event sendable goes = tt

good_all : (events : List (Event Emission)) → AllSent IsSendable events → AllSent GoesToMaker events → AllSent GoodPacket events
good_all [] sendable goes = tt
good_all (event ∷ events) sendable goes = (good_one event sendable.0 goes.0, good_all events sendable.1 goes.1)

-- does its user never reset the stream?
abbrev pub resets_none : List Transition → ℕ → Bool
resets_none [] stream = true
resets_none (turn ∷ turns) stream = not (resets_stream stream turn.input) && resets_none turns stream

not_false : (b c : Bool) → (not b && c) ≡ true → (b ≡ false) × (c ≡ true)
not_false true c is = absurd (cc)
not_false false c is = (refl, is)

resets_so : (reset_calls : ResetCalls) (e : Endpoint) (queued : List Message) (turns : List Transition) → ((stream : ℕ) → reset_calls.never stream ≡ true → resets_none turns stream ≡ true)
    → ((stream count : ℕ) → asked_through e queued turns stream count ≡ true → reset_calls.asks stream count ≡ true) → ((stream count : ℕ) → reset_calls.empties stream count ≡ true → emptied_through e queued turns stream count ≡ true)
    → ResetsThrough reset_calls e queued turns
resets_so reset_calls e queued [] is asks empties = tt
resets_so reset_calls e queued (turn ∷ turns) is asks empties =
    let each : ((stream : ℕ) → reset_calls.never stream ≡ true → (resets_stream stream turn.input ≡ false) × (resets_none turns stream ≡ true)) =
    λ stream never_so. not_false (resets_stream stream turn.input) (resets_none turns stream) (is stream never_so) in (
      record {
        never = λ stream never_so. (each stream never_so).0;
        asks = λ accepted stream does. asks stream (length queued) (asked_first e queued turn turns stream accepted does);
        empty = λ accepted stream does known. emptied_first e queued turn turns stream accepted does (empties stream (length queued) known);
      },
      resets_so reset_calls turn.outcome.after (queued_after e turn.input queued) turns (λ stream never_so. (each stream never_so).1)
          (λ stream count later. asks stream count (asked_later e queued turn turns stream count later))
          (λ stream count known. emptied_later e queued turn turns stream count (empties stream count known)),
    )

none_reset : (stream : ℕ) (turns : List Transition) → AllByRecursion (λ turn. resets_stream stream turn.input ≡ false) turns → resets_none turns stream ≡ true
none_reset stream [] each = refl
none_reset stream (turn ∷ turns) each = ap (λ (b : Bool). not b && resets_none turns stream) each.0 ∙ none_reset stream turns each.1

-- A call that resets no stream resets none of them.
not_this : (input : Input) (stream : ℕ) → resets_streams input ≡ false → resets_stream stream input ≡ false
not_this arrival stream none = refl
not_this (refusal x0) stream none = refl
not_this (packet_begins x0) stream none = refl
not_this (chunk_input x0 x1) stream none = refl
not_this packet_ends stream none = refl
not_this (act_input x0) stream none = refl
not_this (user_sets x0) stream none = refl
not_this (user_sends x0) stream none = refl
not_this (user_resets x0) stream none = absurd (cc)
not_this user_takes stream none = refl
not_this (timer_expires x0) stream none = refl
not_this (time_passes x0) stream none = refl
not_this (restores x0) stream none = refl

none_of_all : (stream : ℕ) (turns : List Transition) → AllByRecursion (λ turn. resets_streams turn.input ≡ false) turns → AllByRecursion (λ turn. resets_stream stream turn.input ≡ false) turns
none_of_all stream [] each = tt
none_of_all stream (turn ∷ turns) each = (not_this turn.input stream each.0, none_of_all stream turns each.1)

-- the resets that a user asks for by these turns
abbrev pub turning_calls : Bool → Options → List Transition → ResetCalls
turning_calls in_turn options turns = record { never = resets_none turns; asks = asked_through (fresh_endpoint options) [] turns; empties = emptied_through (fresh_endpoint options) [] turns; made = []; in_turn = in_turn }

abbrev pub both_turning : Bool → Both Options → Both (List Transition) → Both ResetCalls
both_turning in_turn options turns = record { a = turning_calls in_turn options.a turns.a; b = turning_calls in_turn options.b turns.b }

-- where a request may fail without interleaving
abbrev pub calls_of : Options → List Transition → ResetCalls
calls_of options turns = turning_calls false options turns

abbrev pub both_calls : Both Options → Both (List Transition) → Both ResetCalls
both_calls options turns = both_turning false options turns

pub both_known : DeliveryLaws → SocketsReportEffects → (in_turn : Bool) (options : Both Options) (run : List PerformedAct) → AreUsable options → SocketRun options run → AreHonest (acts_of run) → AreFresh (turns_after run) → TurnsAllowDelivery options (turns_after run)
    → ((side : Side) → AlongTurns (IsUnrefused in_turn) (fresh_endpoint (of_side side options)) (of_side side (turns_after run))) → BothKnown (both_turning in_turn options (turns_after run)) options (turns_after run)
both_known law told in_turn options run are runs honest fresh allows unrefused =
    let j : Joined options (turns_after run) = joined law.below options run are runs honest in
    record {
      a = record {
        own = run_along IsOwn own_turn options run runs sides.A;
        moves = of_moves law.moves IsMove (λ e t moves. moves) options run are runs sides.A;
        packets = good_all (events_of (turns_after run).a) (all_sent_map (λ emission went. went.sendable) (events_of (turns_after run).a) j.a.went)
            (echoes_go_to_makers law.below law.answers options run are runs honest fresh sides.A);
        refused = unrefused sides.A;
        resets = resets_so (turning_calls in_turn options.a (turns_after run).a) (fresh_endpoint options.a) [] (turns_after run).a (λ stream is. is) (λ stream count is. is) (λ stream count is. is);
        tells = all_tell (turns_after run).a (told options run are runs sides.A);
        tags = allows.tags.a;
        little = allows.little sides.A;
        together = allows.together sides.A;
      };
      b = record {
        own = run_along IsOwn own_turn options run runs sides.B;
        moves = of_moves law.moves IsMove (λ e t moves. moves) options run are runs sides.B;
        packets = good_all (events_of (turns_after run).b) (all_sent_map (λ emission went. went.sendable) (events_of (turns_after run).b) j.b.went)
            (echoes_go_to_makers law.below law.answers options run are runs honest fresh sides.B);
        refused = unrefused sides.B;
        resets = resets_so (turning_calls in_turn options.b (turns_after run).b) (fresh_endpoint options.b) [] (turns_after run).b (λ stream is. is) (λ stream count is. is) (λ stream count is. is);
        tells = all_tell (turns_after run).b (told options run are runs sides.B);
        tags = allows.tags.b;
        little = allows.little sides.B;
        together = allows.together sides.B;
      };
      matched = allows.tags.matched;
    }

-- ---- what was read

module _ (reset_calls : ResetCalls) (mine theirs : Options) (turns others : List Transition) (little : SendsLittle mine turns) (together : SendsLittleTogether turns) (h : Stand reset_calls mine theirs turns others)
    (window : theirs.max_receiver_window_buffer_size < 2 ^ 32) (each : Each (IsOfNewTagsBut mine (recorded_past others)) (recorded_past turns)) (their_each : Each (IsOfNewTagsBut theirs (recorded_past turns)) (recorded_past others)) where
  pub few_went : (tag : ℕ) → chunks_before (h.ends.former tag) (packets_of turns) + chunks_to (h.ends.latest tag) (packets_of turns) < 2 ^ 30
  few_went tag = go (h.ends.former tag) refl
    where
      go : (former : Option ℕ) → h.ends.former tag ≡ former → chunks_before (h.ends.former tag) (packets_of turns) + chunks_to (h.ends.latest tag) (packets_of turns) < 2 ^ 30
      go None none =
          let nothing : chunks_before (h.ends.former tag) (packets_of turns) ≡ 0 = ap (λ (f : Option ℕ). chunks_before f (packets_of turns)) none in
          let few = little.chunks (h.ends.latest tag) in
          omega (arith, nothing, few)
      go (Some former) is =
          let was = h.between.sender.replaced tag former is in
          let held = before_held was.old was.link (recorded_past turns) was.before in
          let few = together was.old was.link held.0 held.1 (was.old_is ∙ sym was.link_is) (λ same. was.other (sym was.former_is ∙ same ∙ was.latest_is)) in
          let one : chunks_before (h.ends.former tag) (packets_of turns) ≡ chunks_to was.old.peer.tag (packets_of turns) =
          ap (λ (f : Option ℕ). chunks_before f (packets_of turns)) is ∙ ap (λ (n : ℕ). chunks_to n (packets_of turns)) (sym was.former_is) in
          let two : chunks_to (h.ends.latest tag) (packets_of turns) ≡ chunks_to was.link.peer.tag (packets_of turns) = ap (λ (n : ℕ). chunks_to n (packets_of turns)) (sym was.latest_is) in
          omega (arith, few, one, two)

  one_way : IsDelivered (messages_of_turns (fresh_endpoint mine) turns) (read_of (fresh_endpoint theirs) others)
  one_way =
      let same = queued_same mine turns in
      let all : AreDelivered (queued_of mine turns) (messages_of (reading_of theirs others).reads) =
      ends_deliver theirs h.ends (endpoint_after mine turns) (queued_of mine turns) (recorded_past turns) (packets_of turns) (endpoint_after theirs others) (recorded_past others) (reading_of theirs others) h.between
      (few_queued mine turns little) few_went in
      subst (IsDelivered (messages_of_turns (fresh_endpoint mine) turns)) (turns_read (fresh_endpoint theirs) others nothing_read)
      (is_delivered (queued_of mine turns) (messages_of_turns (fresh_endpoint mine) turns) (messages_of (reading_of theirs others).reads) same all)

  -- what was sent, with its options
  abbrev sent_all : List Sending
  sent_all = sendings_of_turns (fresh_endpoint mine) turns

  sent_same : SaysSame (λ sending. sending) (queued_of mine turns) sent_all
  sent_same = turns_same (λ sending. sending) (fresh_endpoint mine) turns [] [] (nothing_same (λ sending. sending))

  unambiguous_so : SetsNoLimits mine turns ⊎ SendsFew mine turns → AreUnlimited (queued_of mine turns) ⊎ FewOnEachStream (queued_of mine turns)
  unambiguous_so (inl unlimited) = inl (are_unlimited (queued_of mine turns) sent_all sent_same unlimited)
  unambiguous_so (inr few) = inr (few_queued_on (queued_of mine turns) sent_all sent_same few)

  -- ---- in one association

  module _ (tag key : ℕ) (both : HadBoth (recorded_past turns) key tag) (their_link : AssociationIdentity) (their_held : HasEffect (holds their_link) (recorded_past others)) (their_own : their_link.my.tag ≡ tag) where
    -- Where the sender had no other own tag, it is this key.
    only_own : HasOneTag (recorded_past turns) → IsOnlyOwn (recorded_past turns) key
    only_own one link has = one link both.link has both.held ∙ both.tag_is

    interleaves_so : Interleaves (recorded_past turns) tag → InterleavesUnder (recorded_past turns) key
    interleaves_so interleaves = (both.link, both.held, both.tag_is, interleaves both.link both.held both.peer_is)

    -- Data goes to it.
    latest_is : h.ends.latest key ≡ tag
    latest_is =
        elim (h.between.sender.known both.link both.held).1 [
          | inl is ↦ ap h.ends.latest (sym both.tag_is) ∙ sym is ∙ both.peer_is
          | inr is ↦ absurd (replaced_unmatched mine (recorded_past others) (recorded_past turns) each both.link.my.tag both.link.peer.tag (h.ends.latest both.link.my.tag)
              (h.between.sender.replaced both.link.my.tag both.link.peer.tag is) their_link their_held (their_own ∙ sym both.peer_is))
        ]

    by_order : NumbersFromZero (endpoint_after mine turns) (recorded_past turns) key → Interleaves (recorded_past turns) tag ⊎ AllowsDataOrder mine turns tag
        → AreDeliveredInOrder (queued_of mine turns) (with_key key (reading_of theirs others).reads)
    by_order anew (inl interleaves) =
        ends_deliver_in_order theirs h.ends (endpoint_after mine turns) (queued_of mine turns) (recorded_past turns) (packets_of turns) (endpoint_after theirs others) (recorded_past others) (reading_of theirs others) h.between
        (few_queued mine turns little) few_went key anew (interleaves_so interleaves)
    by_order anew (inr sends) =
        ends_deliver_data_in_order theirs h.ends (endpoint_after mine turns) (queued_of mine turns) (recorded_past turns) (packets_of turns) (endpoint_after theirs others) (recorded_past others) (reading_of theirs others) h.between
        (few_queued mine turns little) few_went window (unambiguous_so sends.unambiguous) key anew (ap (λ (n : ℕ). requests_to n (packets_of turns)) latest_is ∙ sends.no_requests)

    order_of : (endpoint_after mine turns).options.follow_rfc ≡ mine.follow_rfc → AllowsOrder mine turns tag → AreDeliveredInOrder (queued_of mine turns) (with_key key (reading_of theirs others).reads)
    order_of rules allows = by_order (elim allows.starts_at_zero [ inl follows ↦ inl (rules ∙ follows) | inr only ↦ inr (only_own only) ]) allows.numbering

    gaps_of : ((stream : ℕ) → resets_none turns stream ≡ true → reset_calls.never stream ≡ true) → AllowsNoGaps mine turns → AreDeliveredWithoutGaps (queued_of mine turns) (with_key key (reading_of theirs others).reads)
    gaps_of never leaves =
        ends_deliver_without_gaps theirs h.ends (endpoint_after mine turns) (queued_of mine turns) (recorded_past turns) (packets_of turns) (endpoint_after theirs others) (recorded_past others) (reading_of theirs others) h.between
        (few_queued mine turns little) few_went window (are_unlimited (queued_of mine turns) sent_all sent_same leaves.unlimited)
        (λ stream. ap (λ (c : ResetCalls). c.never stream) h.is ∙ never stream (none_reset stream turns (none_of_all stream turns leaves.never_resets))) key (only_own leaves.one_tag)

    streams_of : HasOneTag (recorded_past turns) → Interleaves (recorded_past turns) tag → AreDeliveredByStream h.ends.calls.never (queued_of mine turns) (with_key key (reading_of theirs others).reads)
    streams_of only interleaves =
        ends_deliver_by_stream theirs h.ends (endpoint_after mine turns) (queued_of mine turns) (recorded_past turns) (packets_of turns) (endpoint_after theirs others) (recorded_past others) (reading_of theirs others) h.between
        (few_queued mine turns little) few_went key (only_own only) (interleaves_so interleaves)

    these_of : (these : ℕ → Bool) → ((id : ℕ) → these id ≡ true → IsReliableKept h.ends.calls.never (queued_of mine turns) id) → HasOneTag (recorded_past turns) → AreDeliveredOnStreams these (queued_of mine turns) (with_key key (reading_of theirs others).reads)
    these_of these are only =
        ends_deliver_on_streams theirs h.ends (endpoint_after mine turns) (queued_of mine turns) (recorded_past turns) (packets_of turns) (endpoint_after theirs others) (recorded_past others) (reading_of theirs others) h.between
        (few_queued mine turns little) few_went window these are key (only_own only)

  -- What was read under a tag was read of one key of the sender, or nothing was.
  by_key : (P : List MessageContent → Type 0) (tag : ℕ) → P [] → ((key : ℕ) → HadBoth (recorded_past turns) key tag → (their_link : AssociationIdentity) → HasEffect (holds their_link) (recorded_past others) → their_link.my.tag ≡ tag → P (with_key key (reading_of theirs others).reads)) → P (read_under tag theirs others)
  by_key P tag nothing under =
      go (read_under_key theirs h.ends (endpoint_after mine turns) (queued_of mine turns) (recorded_past turns) (packets_of turns) (endpoint_after theirs others) (recorded_past others) (reading_of theirs others) h.between
      (peers_differ mine (recorded_past others) (recorded_past turns) each) (peers_differ theirs (recorded_past turns) (recorded_past others) their_each) tag)
    where
      go : ReadUnder (recorded_past turns) (recorded_past others) (reading_of theirs others) tag → P (read_under tag theirs others)
      go (nothing_under none) = subst P (sym none) nothing
      go (under_key key same both their_link held peer own) = subst P (sym same) (under key both their_link held own)

  one_in_order : (endpoint_after mine turns).options.follow_rfc ≡ mine.follow_rfc → (tag : ℕ) → AllowsOrder mine turns tag → IsDeliveredInOrder sent_all (read_under tag theirs others)
  one_in_order rules tag allows =
      is_in_order (queued_of mine turns) sent_all (read_under tag theirs others) sent_same
      (by_key (AreDeliveredInOrder (queued_of mine turns)) tag (nothing_in_order (queued_of mine turns) [] refl) (λ key both their_link held own. order_of tag key both their_link held own rules allows))

  one_without_gaps : ((stream : ℕ) → resets_none turns stream ≡ true → reset_calls.never stream ≡ true) → (tag : ℕ) → AllowsNoGaps mine turns → IsDeliveredWithoutGaps sent_all (read_under tag theirs others)
  one_without_gaps never tag leaves =
      is_without_gaps (queued_of mine turns) sent_all (read_under tag theirs others) sent_same
      (by_key (AreDeliveredWithoutGaps (queued_of mine turns)) tag (nothing_before (queued_of mine turns) [] refl) (λ key both their_link held own. gaps_of tag key both their_link held own never leaves))

  one_by_stream : ((stream : ℕ) → resets_none turns stream ≡ true → reset_calls.never stream ≡ true) → (tag : ℕ) → HasOneTag (recorded_past turns) → Interleaves (recorded_past turns) tag
      → IsDeliveredByStream (IsReliable mine turns) sent_all (read_under tag theirs others)
  one_by_stream never tag only interleaves =
      is_by_stream h.ends.calls.never (IsReliable mine turns) (queued_of mine turns) sent_all (read_under tag theirs others) sent_same
      (λ stream reliable. (
        ap (λ (c : ResetCalls). c.never stream) h.is ∙ never stream (none_reset stream turns reliable.never_resets),
        are_unlimited_on stream (queued_of mine turns) sent_all sent_same reliable.unlimited,
      ))
      (by_key (AreDeliveredByStream h.ends.calls.never (queued_of mine turns)) tag (nothing_by_stream h.ends.calls.never (queued_of mine turns) [] refl) (λ key both their_link held own. streams_of tag key both their_link held own only interleaves))

  -- the streams that are never reset, with no limits
  abbrev reliable_kept : ℕ → Bool
  reliable_kept id = h.ends.calls.never id && unlimited_test id (queued_of mine turns)

  kept_so : (id : ℕ) → reliable_kept id ≡ true → IsReliableKept h.ends.calls.never (queued_of mine turns) id
  kept_so id is =
      let (never, unlimited) = both (h.ends.calls.never id) (unlimited_test id (queued_of mine turns)) is in
      record { never = never; unlimited = unlimited_so id (queued_of mine turns) unlimited }

  reliable_so : ((stream : ℕ) → resets_none turns stream ≡ true → reset_calls.never stream ≡ true) → (stream : ℕ) → IsReliable mine turns stream → reliable_kept stream ≡ true
  reliable_so never stream is =
      let never_is : h.ends.calls.never stream ≡ true = ap (λ (c : ResetCalls). c.never stream) h.is ∙ never stream (none_reset stream turns is.never_resets) in
      rw never_is (so_unlimited stream (queued_of mine turns) (are_unlimited_on stream (queued_of mine turns) sent_all sent_same is.unlimited))

  one_on_streams : ((stream : ℕ) → resets_none turns stream ≡ true → reset_calls.never stream ≡ true) → (tag : ℕ) → HasOneTag (recorded_past turns) → IsDeliveredOn (IsReliable mine turns) sent_all (read_under tag theirs others)
  one_on_streams never tag only =
      is_on reliable_kept (IsReliable mine turns) (queued_of mine turns) sent_all (read_under tag theirs others) sent_same (reliable_so never)
      (by_key (AreDeliveredOnStreams reliable_kept (queued_of mine turns)) tag (nothing_on reliable_kept (queued_of mine turns) [] refl) (λ key both' their_link held own. these_of tag key both' their_link held own reliable_kept kept_so only))

  one_complete : ((stream : ℕ) → resets_none turns stream ≡ true → reset_calls.never stream ≡ true) → HasOneTag (recorded_past turns) → (through : AreThrough (endpoint_after mine turns) (endpoint_after theirs others))
      → IsDeliveredAllOn (IsReliable mine turns) sent_all (read_under through.theirs.my.tag theirs others)
  one_complete never only through =
      is_all_on reliable_kept (IsReliable mine turns) (queued_of mine turns) sent_all (read_under through.theirs.my.tag theirs others) sent_same (reliable_so never)
      (subst (AreAllDelivered reliable_kept (queued_of mine turns)) (sym same) all)
    where
      link_held : HasEffect (holds through.link) (recorded_past turns)
      link_held = h.between.mine through.link through.linked

      their_held : HasEffect (holds through.theirs) (recorded_past others)
      their_held =
          let c = h.between.receiver.current through.transfer through.there in
          let both : Some c.link ≡ Some through.theirs = sym c.linked ∙ through.theirs_linked in
          let one : c.link ≡ through.theirs = cc in
          subst (λ (l : AssociationIdentity). HasEffect (holds l) (recorded_past others)) one c.held

      same : read_under through.theirs.my.tag theirs others ≡ with_key through.link.my.tag (reading_of theirs others).reads
      same =
          read_of_both theirs h.ends (endpoint_after mine turns) (queued_of mine turns) (recorded_past turns) (packets_of turns) (endpoint_after theirs others) (recorded_past others) (reading_of theirs others) h.between
          (peers_differ mine (recorded_past others) (recorded_past turns) each) (peers_differ theirs (recorded_past turns) (recorded_past others) their_each) through.link.my.tag through.theirs.my.tag
          (record { link = through.link; held = link_held; tag_is = refl; peer_is = sym through.crossing }) through.theirs their_held through.one refl

      all : AreAllDelivered reliable_kept (queued_of mine turns) (with_key through.link.my.tag (reading_of theirs others).reads)
      all =
          ends_arrive theirs h.ends (endpoint_after mine turns) (queued_of mine turns) (recorded_past turns) (packets_of turns) (endpoint_after theirs others) (recorded_past others) (reading_of theirs others) h.between
          (few_queued mine turns little) few_went window reliable_kept kept_so through (λ link has. only link through.link has link_held)

  one_by_epoch : (endpoint_after mine turns).options.follow_rfc ≡ mine.follow_rfc → ((stream count : ℕ) → reset_calls.asks stream count ≡ true → HasReset mine turns stream count) → (tag : ℕ) → StartsAtZero mine turns → Interleaves (recorded_past turns) tag
      → IsDeliveredByEpoch (HasReset mine turns) (ReportsPeerReset theirs others tag) sent_all (read_under tag theirs others)
  one_by_epoch rules asked tag starts interleaves =
      is_by_epoch reset_calls mine theirs turns others h (few_queued mine turns little) few_went (peers_differ mine (recorded_past others) (recorded_past turns) each) (peers_differ theirs (recorded_past turns) (recorded_past others) their_each)
      sent_all sent_same asked rules tag starts interleaves

  one_split : (endpoint_after mine turns).options.follow_rfc ≡ mine.follow_rfc → ((stream count : ℕ) → reset_calls.asks stream count ≡ true → HasReset mine turns stream count) → reset_calls.in_turn ≡ true → (tag : ℕ) → StartsAtZero mine turns
      → IsSplitByResets (HasReset mine turns) (ReportsPeerReset theirs others tag) sent_all (read_under tag theirs others)
  one_split rules asked fails_none tag starts =
      is_split reset_calls mine theirs turns others h (few_queued mine turns little) few_went (peers_differ mine (recorded_past others) (recorded_past turns) each) (peers_differ theirs (recorded_past turns) (recorded_past others) their_each)
      sent_all sent_same asked rules tag starts fails_none

  one_in_epochs : ((stream count : ℕ) → reset_calls.asks stream count ≡ true → HasReset mine turns stream count) → ((stream count : ℕ) → ResetsWithNoneWaiting mine turns stream count → reset_calls.empties stream count ≡ true) → (tag : ℕ) → HasOneTag (recorded_past turns) → Interleaves (recorded_past turns) tag
      → IsDeliveredInEpochs (theirs.follow_rfc ≡ false) (HasReset mine turns) (ResetsWithNoneWaiting mine turns) (ReportsPeerReset theirs others tag) sent_all (read_under tag theirs others)
  one_in_epochs asked empties tag only interleaves =
      is_in_epochs reset_calls mine theirs turns others h (few_queued mine turns little) few_went (peers_differ mine (recorded_past others) (recorded_past turns) each) (peers_differ theirs (recorded_past turns) (recorded_past others) their_each)
      sent_all sent_same asked tag only interleaves empties (elim (leb_tells theirs.max_receiver_window_buffer_size (2 ^ 63)) [ inl e ↦ e.0 | inr e ↦ absurd (let beyond = e.1 in omega (arith, beyond, window)) ])

-- So both directions stand at the end of such a run.
pub sockets_stand : DeliveryLaws → SocketsReportEffects → (options : Both Options) (run : List PerformedAct) → AreUsable options → AreInMemory (acts_of run) → SocketRun options run → AreHonest (acts_of run) → AreFresh (turns_after run)
    → TurnsAllowDelivery options (turns_after run) → BothStand (both_calls options (turns_after run)) options (turns_after run)
sockets_stand law told options run are in_memory runs honest fresh allows =
    both_stand law.below law.answers (both_calls options (turns_after run)) options run are runs honest fresh in_memory (both_known law told false options run are runs honest fresh allows allows.refused)

pub sockets_deliver : DeliveryLaws → SocketsReportEffects → SocketsDeliver
sockets_deliver law told options run are in_memory runs honest fresh allows side =
    both_deliver (both_stand law.below law.answers (both_calls options turns) options run are runs honest fresh in_memory known) side
  where
    turns : Both (List Transition)
    turns = turns_after run

    known : BothKnown (both_calls options turns) options turns
    known = both_known law told false options run are runs honest fresh allows allows.refused

    window : (s : Side) → (of_side s options).max_receiver_window_buffer_size < 2 ^ 32
    window s = (are s).valid.receive_window

    -- where no request fails
    known_all : NoneFails options turns → BothKnown (both_turning true options turns) options turns
    known_all fails = both_known law told true options run are runs honest fresh allows fails

    stand_all : NoneFails options turns → BothStand (both_turning true options turns) options turns
    stand_all fails = both_stand law.below law.answers (both_turning true options turns) options run are runs honest fresh in_memory (known_all fails)

    split_a : NoneFails options turns → (tag : ℕ) → StartsAtZero options.b turns.b → IsSplitByResets (HasReset options.b turns.b) (ReportsPeerReset options.a turns.a tag) (sendings_of_turns (fresh_endpoint options.b) turns.b) (read_under tag options.a turns.a)
    split_a fails =
        let k = known_all fails in
        one_split (turning_calls true options.b turns.b) options.b options.a turns.b turns.a (allows.little sides.B) (allows.together sides.B) (stand_all fails).to_a (window sides.A) k.b.tags k.a.tags (same_rules_after (turning_calls true options.b turns.b) options.b turns.b k.b) (has_reset_so options.b turns.b) refl

    split_b : NoneFails options turns → (tag : ℕ) → StartsAtZero options.a turns.a → IsSplitByResets (HasReset options.a turns.a) (ReportsPeerReset options.b turns.b tag) (sendings_of_turns (fresh_endpoint options.a) turns.a) (read_under tag options.b turns.b)
    split_b fails =
        let k = known_all fails in
        one_split (turning_calls true options.a turns.a) options.a options.b turns.a turns.b (allows.little sides.A) (allows.together sides.A) (stand_all fails).to_b (window sides.B) k.a.tags k.b.tags (same_rules_after (turning_calls true options.a turns.a) options.a turns.a k.a) (has_reset_so options.a turns.a) refl

    both_deliver : BothStand (both_calls options turns) options turns → (s : Side) → Delivers options turns s
    both_deliver h sides.A =
        record {
          once = one_way (calls_of options.b turns.b) options.b options.a turns.b turns.a (allows.little sides.B) (allows.together sides.B) h.to_a (window sides.A) known.b.tags known.a.tags;
          in_order = one_in_order (calls_of options.b turns.b) options.b options.a turns.b turns.a (allows.little sides.B) (allows.together sides.B) h.to_a (window sides.A) known.b.tags known.a.tags (same_rules_after (calls_of options.b turns.b) options.b turns.b known.b);
          no_gaps = one_without_gaps (calls_of options.b turns.b) options.b options.a turns.b turns.a (allows.little sides.B) (allows.together sides.B) h.to_a (window sides.A) known.b.tags known.a.tags (λ stream is. is);
          by_stream = one_by_stream (calls_of options.b turns.b) options.b options.a turns.b turns.a (allows.little sides.B) (allows.together sides.B) h.to_a (window sides.A) known.b.tags known.a.tags (λ stream is. is);
          on_streams = one_on_streams (calls_of options.b turns.b) options.b options.a turns.b turns.a (allows.little sides.B) (allows.together sides.B) h.to_a (window sides.A) known.b.tags known.a.tags (λ stream is. is);
          complete = one_complete (calls_of options.b turns.b) options.b options.a turns.b turns.a (allows.little sides.B) (allows.together sides.B) h.to_a (window sides.A) known.b.tags known.a.tags (λ stream is. is);
          shared_resets = resets_shared (events_of turns.a) turns.b (told options run are runs sides.B) h.b_resets;
          by_epoch = one_by_epoch (calls_of options.b turns.b) options.b options.a turns.b turns.a (allows.little sides.B) (allows.together sides.B) h.to_a (window sides.A) known.b.tags known.a.tags (same_rules_after (calls_of options.b turns.b) options.b turns.b known.b) (has_reset_so options.b turns.b);
          split = λ fails. split_a fails;
          in_epochs = one_in_epochs (calls_of options.b turns.b) options.b options.a turns.b turns.a (allows.little sides.B) (allows.together sides.B) h.to_a (window sides.A) known.b.tags known.a.tags (has_reset_so options.b turns.b) (emptied_so options.b turns.b);
        }
    both_deliver h sides.B =
        record {
          once = one_way (calls_of options.a turns.a) options.a options.b turns.a turns.b (allows.little sides.A) (allows.together sides.A) h.to_b (window sides.B) known.a.tags known.b.tags;
          in_order = one_in_order (calls_of options.a turns.a) options.a options.b turns.a turns.b (allows.little sides.A) (allows.together sides.A) h.to_b (window sides.B) known.a.tags known.b.tags (same_rules_after (calls_of options.a turns.a) options.a turns.a known.a);
          no_gaps = one_without_gaps (calls_of options.a turns.a) options.a options.b turns.a turns.b (allows.little sides.A) (allows.together sides.A) h.to_b (window sides.B) known.a.tags known.b.tags (λ stream is. is);
          by_stream = one_by_stream (calls_of options.a turns.a) options.a options.b turns.a turns.b (allows.little sides.A) (allows.together sides.A) h.to_b (window sides.B) known.a.tags known.b.tags (λ stream is. is);
          on_streams = one_on_streams (calls_of options.a turns.a) options.a options.b turns.a turns.b (allows.little sides.A) (allows.together sides.A) h.to_b (window sides.B) known.a.tags known.b.tags (λ stream is. is);
          complete = one_complete (calls_of options.a turns.a) options.a options.b turns.a turns.b (allows.little sides.A) (allows.together sides.A) h.to_b (window sides.B) known.a.tags known.b.tags (λ stream is. is);
          shared_resets = resets_shared (events_of turns.b) turns.a (told options run are runs sides.A) h.a_resets;
          by_epoch = one_by_epoch (calls_of options.a turns.a) options.a options.b turns.a turns.b (allows.little sides.A) (allows.together sides.A) h.to_b (window sides.B) known.a.tags known.b.tags (same_rules_after (calls_of options.a turns.a) options.a turns.a known.a) (has_reset_so options.a turns.a);
          split = λ fails. split_b fails;
          in_epochs = one_in_epochs (calls_of options.a turns.a) options.a options.b turns.a turns.b (allows.little sides.A) (allows.together sides.A) h.to_b (window sides.B) known.a.tags known.b.tags (has_reset_so options.a turns.a) (emptied_so options.a turns.a);
        }
