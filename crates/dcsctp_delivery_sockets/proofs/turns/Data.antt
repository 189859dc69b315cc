-- The turns of data, SACKs and the timers of both, as actions.
use Rattle.dcsctp_delivery_sockets.specs.turns.Actions as actions
use Rattle.std.proofs.Common.{◌≡◌, ◌≢◌, ℕ, Bool, true, false, Option, None, Some, List, [], ◌∷◌, ◌++◌, take, refl, sym, ◌∙◌, subst, ap}
use Rattle.dcsctp_spec_lemmas.specs.wire.Content.{SackContent, DataContent, IDataContent, data_chunk, i_data_chunk, forward_tsn_chunk, i_forward_tsn_chunk, no_user_data}
use Rattle.dcsctp_spec_lemmas.specs.types.declared.arrivals.SkippedTo.{SkippedTo}
use Rattle.dcsctp_spec_lemmas.specs.types.declared.association.Held.{Held}
use Rattle.dcsctp_spec_lemmas.specs.types.declared.kinds.ErrorKind.TheVariants.{ProtocolViolation}
use Rattle.dcsctp_spec_lemmas.specs.spec.endpoint.Event.{Event, error, packets_of_events}
use Rattle.dcsctp_spec_lemmas.specs.spec.Packet.{Content, Plain, plain, unworked, error_of, Emission}
use Rattle.dcsctp_spec_lemmas.specs.spec.endpoint.Endpoint.{Endpoint, Core, held_by_core}
use Rattle.dcsctp_spec_lemmas.specs.spec.endpoint.Outcome.{Outcome, emits, to_peer}
use Rattle.dcsctp_spec_lemmas.specs.spec.association.Choices.{plain_contents}
use Rattle.dcsctp_spec_lemmas.specs.spec.queues.Acknowledging.{is_sack_valid, delivered_up_to}
use Rattle.dcsctp_spec_lemmas.specs.spec.queues.Arrivals.{Arrival, data_arrival, i_data_arrival, named_skips, skipped_messages}
use Rattle.dcsctp_spec_lemmas.specs.spec.queues.Outstanding.{acknowledged_count}
use Rattle.dcsctp_spec_lemmas.specs.spec.queues.Retransmission.{has_fast_retransmit}
use Rattle.dcsctp_spec_lemmas.specs.spec.queues.Tracker.{TrackerState, after_packet_end, is_acknowledgement_due, tracker_after_sack, delay_over}
use Rattle.dcsctp_spec_lemmas.specs.spec.queues.Transfer.{Transfer, EndpointQueues}
use Rattle.dcsctp_spec_lemmas.specs.spec.endpoint.DataOutcomes.{HandlesPayload, with_transfer, endpoint_with_tracker, flush_to_peer, AnswersTo, FlushTurn, no_user_data_text, no_user_data_outcome, ReceiveTurn, DataTurn, ForwardTurn, FastRetransmits, sack_taken, TakesSackAndFlushes, HandlesSackIfValid, HandlesSackIfConnected, SackTurn, acknowledging, AnswersPacketIfDue, AcknowledgesPacket, delay_outcome, LossTurn}
use Rattle.dcsctp_spec_lemmas.specs.spec.endpoint.FlushOutcomes.{own_sack, Answer, goes_out, draft_to, flush_of, room_of_draft}
use Rattle.dcsctp_spec_lemmas.specs.spec.endpoint.TransferMoves.{ReceivesData, MovesForward}
use Rattle.dcsctp_theorem_sockets.proofs.Bursts.{packets_of_events-append}
use Rattle.dcsctp_delivery_sockets.specs.turns.Actions.{IsCalm, MayAcknowledge, inside, ledger_of, queues_with_transfer, Actions, nothing, further, MakesPackets, MakesAlso, Becomes, goes_on, queued_unless_refused, queued_together, with_first, read_if_connected}
use Rattle.dcsctp_spec_lemmas.specs.spec.association.Effect.{identity_of_core}
use Rattle.dcsctp_delivery_sockets.proofs.turns.Tags.{flush_link}
use Rattle.dcsctp_delivery_sockets.specs.turns.Reports.{IsCumulative}
use Rattle.dcsctp_delivery_sockets.specs.turns.Tags.{IsPeerTag}
use Rattle.dcsctp_delivery_sockets.proofs.turns.Actions.{emits_link, Goes, MakesTo, both, action_of, emission_of, rests, emitted, flushed, makes_behind}
use Rattle.dcsctp_delivery_sockets.proofs.turns.Shutdown.{step_link, step_makes, step_below, step_peer}
use Rattle.dcsctp_delivery_sockets.proofs.turns.Fixed.{held_tag, sack_no_data, delivered_none, fast_core, Alike, sack_no_end, sack_not_stale, sack_reports, delayed_alike}

pub to_link : (e : Endpoint) (peer : Option Held) (answers : List Answer) → AnswersTo e peer answers → identity_of_core (flush_to_peer e peer answers).after.core ≡ identity_of_core e.core
to_link e None answers allowed = refl
to_link e (Some held) answers allowed = flush_link e (draft_to held) answers allowed

pub turn_link : (e : Endpoint) (o : Outcome) → FlushTurn e o → identity_of_core o.after.core ≡ identity_of_core e.core
turn_link e o turn = ap (λ (x : Outcome). identity_of_core x.after.core) turn.2 ∙ to_link e (held_by_core e.core) turn.0 turn.1

module _ (came : Option Content) (calm : IsCalm came) (to : ℕ) where
  -- ---- a flush by itself

  pub to_makes : (e : Endpoint) (peer : Option Held) (answers : List Answer) → IsPeerTag e.core to → held_by_core e.core ≡ peer → AnswersTo e peer answers → MakesTo came to (inside e) (flush_to_peer e peer answers)
  to_makes e None answers at holds allowed = rests came to (inside e)
  to_makes e (Some held) answers at holds allowed = flushed came to e (draft_to held) answers at (held_tag e.core held to holds at) tt tt tt tt allowed

  pub flush_makes : (e : Endpoint) (o : Outcome) → IsPeerTag e.core to → FlushTurn e o → MakesTo came to (inside e) o
  flush_makes e o at turn = subst (MakesTo came to (inside e)) (sym turn.2) (to_makes e (held_by_core e.core) turn.0 at refl turn.1)

  -- ---- DATA and FORWARD-TSN

  no_data_goes : (e : Endpoint) (peer : Option Held) (tsn : ℕ) → Goes came to e (no_user_data_outcome e peer tsn)
  no_data_goes e None tsn = goes_on calm refl (rests came to (inside e))
  no_data_goes e (Some held) tsn =
      goes_on calm (emits_link e [] (to_peer held (plain (error_of (no_user_data tsn ∷ [])))))
      (makes_behind came to (inside e) [] (error ProtocolViolation no_user_data_text ∷ []) (emits e [] (to_peer held (plain (error_of (no_user_data tsn ∷ []))))) refl
      (emitted came to e [] (to_peer held (plain (error_of (no_user_data tsn ∷ [])))) (tt, tt) tt (tt, tt)))

  receive_goes : (e : Endpoint) (transfer : Option Transfer) (arrived : Arrival) (o : Outcome)
      → ((old new : Transfer) → transfer ≡ Some old → ReceivesData arrived old new → MakesPackets came to (inside e) [] (inside (with_transfer e new)))
      → ReceiveTurn e transfer arrived o → Goes came to e o
  receive_goes e None arrived o does turn = subst (Goes came to e) (sym turn) (goes_on calm refl (rests came to (inside e)))
  receive_goes e (Some transfer) arrived o does turn = subst (Goes came to e) (sym turn.2) (goes_on calm refl (does transfer turn.0 refl turn.1))

  data_where_goes : (e : Endpoint) (arrived : Arrival) (payload : List ℕ) (o : Outcome)
      → ((old new : Transfer) → payload ≢ [] → e.queues.transfer ≡ Some old → ReceivesData arrived old new → MakesPackets came to (inside e) [] (inside (with_transfer e new)))
      → HandlesPayload e arrived payload o → Goes came to e o
  data_where_goes e arrived [] o does turn = subst (Goes came to e) (sym turn) (no_data_goes e (held_by_core e.core) arrived.tsn)
  data_where_goes e arrived (byte ∷ bytes) o does turn = receive_goes e e.queues.transfer arrived o (λ old new. does old new (λ is. absurd (cc))) turn

  pub data_goes : (e : Endpoint) (chunk : DataContent) (o : Outcome) → came ≡ Some (plain (unworked (data_chunk chunk))) → DataTurn e (data_arrival chunk) o → Goes came to e o
  data_goes e chunk o is turn =
      data_where_goes e (data_arrival chunk) chunk.payload o
      (λ old new some known does. action_of came to (inside e) (with_transfer e new).queues (λ queued sent read asking. actions.receives chunk old new is some known does)) turn

  pub i_data_goes : (e : Endpoint) (chunk : IDataContent) (o : Outcome) → came ≡ Some (plain (unworked (i_data_chunk chunk))) → DataTurn e (i_data_arrival chunk) o → Goes came to e o
  i_data_goes e chunk o is turn =
      data_where_goes e (i_data_arrival chunk) (i_data_arrival chunk).chunk.payload o
      (λ old new some known does. action_of came to (inside e) (with_transfer e new).queues (λ queued sent read asking. actions.receives_interleaved chunk old new is some known does)) turn

  forward_where_goes : (e : Endpoint) (transfer : Option Transfer) (tsn : ℕ) (entries : List SkippedTo) (o : Outcome)
      → ((old new : Transfer) → transfer ≡ Some old → MovesForward tsn entries old new → MakesPackets came to (inside e) [] (inside (with_transfer e new)))
      → ForwardTurn e transfer tsn entries o → Goes came to e o
  forward_where_goes e None tsn entries o does turn = subst (Goes came to e) (sym turn) (goes_on calm refl (rests came to (inside e)))
  forward_where_goes e (Some transfer) tsn entries o does turn = subst (Goes came to e) (sym turn.2) (goes_on calm refl (does transfer turn.0 refl turn.1))

  pub forward_goes : (e : Endpoint) (tsn : ℕ) (streams : List ℕ) (o : Outcome) → came ≡ Some (plain (unworked (forward_tsn_chunk tsn streams))) → ForwardTurn e e.queues.transfer tsn (named_skips streams) o → Goes came to e o
  forward_goes e tsn streams o is turn =
      forward_where_goes e e.queues.transfer tsn (named_skips streams) o
      (λ old new known does. action_of came to (inside e) (with_transfer e new).queues (λ queued sent read asking. actions.forwards tsn streams old new is known does)) turn

  pub i_forward_goes : (e : Endpoint) (tsn : ℕ) (streams : List ℕ) (o : Outcome) → came ≡ Some (plain (unworked (i_forward_tsn_chunk tsn streams))) → ForwardTurn e e.queues.transfer tsn (skipped_messages streams) o → Goes came to e o
  i_forward_goes e tsn streams o is turn =
      forward_where_goes e e.queues.transfer tsn (skipped_messages streams) o
      (λ old new known does. action_of came to (inside e) (with_transfer e new).queues (λ queued sent read asking. actions.forwards_interleaved tsn streams old new is known does)) turn

  -- ---- SACK

  out_makes : (e : Endpoint) (held : Held) (transfer : Transfer) (o : Outcome) (turn : FastRetransmits true e held transfer o) → held.peer.tag ≡ to → e.queues.transfer ≡ Some transfer → (chunks : List Plain) → turn.chunks ≡ chunks
      → MakesTo came to (inside e) (goes_out (with_transfer e (record transfer { retransmission = turn.left })) [] (draft_to held).with_checksum (draft_to held).packet.tag (plain_contents chunks))
  out_makes e held transfer o turn tag known [] is =
      action_of came to (inside e) (queues_with_transfer (record transfer { retransmission = turn.left }) e.queues)
      (λ queued sent read asking. actions.resends_nothing e.moment (room_of_draft e (draft_to held)) transfer turn.left turn.tsns known turn.sends)
  out_makes e held transfer o turn tag known (chunk ∷ chunks) is =
      let emission : Emission = record { with_checksum = (draft_to held).with_checksum; packet = record { tag = (draft_to held).packet.tag; contents = plain_contents (chunk ∷ chunks) } } in
      emission_of came to (inside e) (queues_with_transfer (record transfer { retransmission = turn.left }) e.queues) emission
      (λ queued sent read tsn asking fit. actions.resends e.moment (room_of_draft e (draft_to held)) transfer turn.left turn.tsns turn.chunks emission tag known turn.sends turn.are (ap plain_contents (sym is)))

  fast_makes : (b : Bool) (e : Endpoint) (held : Held) (transfer : Transfer) (o : Outcome) → held.peer.tag ≡ to → e.queues.transfer ≡ Some transfer → FastRetransmits b e held transfer o → MakesTo came to (inside e) o
  fast_makes false e held transfer o tag known turn = subst (MakesTo came to (inside e)) (sym turn) (rests came to (inside e))
  fast_makes true e held transfer o tag known turn = subst (MakesTo came to (inside e)) (sym turn.is) (out_makes e held transfer o turn tag known turn.chunks refl)

  -- The association continues, by actions.
  pub record Continues (e : Endpoint) (o : Outcome) : Type 0 where
    pub linked : identity_of_core o.after.core ≡ identity_of_core e.core
    pub makes : MakesTo came to (inside e) o

  pub acknowledged : (e : Endpoint) (held : Held) (transfer : Transfer) (sack : SackContent) (o : Outcome) → IsPeerTag e.core to → held_by_core e.core ≡ Some held → e.queues.transfer ≡ Some transfer
      → is_sack_valid transfer.retransmission sack.cumulative_tsn_ack ≡ true → MayAcknowledge came sack.cumulative_tsn_ack → TakesSackAndFlushes e held transfer sack o → Continues e o
  acknowledged e held transfer sack o at holds known valid may turn =
      let tag : held.peer.tag ≡ to = held_tag e.core held to holds at in
      let later : IsPeerTag turn.stepped.after.core to =
      subst (λ (x : Outcome). IsPeerTag x.after.core to) (sym turn.steps) (step_peer (sack_taken e transfer turn.left) e.core to at at) in
      let last_at : IsPeerTag turn.fast.after.core to =
      subst (λ (c : Core). IsPeerTag c to) (sym (fast_core (has_fast_retransmit turn.left.retransmission) turn.stepped.after held turn.left turn.fast turn.resends)) later in
      let taken : Endpoint = sack_taken e transfer turn.left in
      let first : MakesPackets came to (inside e) [] (inside taken) = action_of came to (inside e) taken.queues (λ queued sent read asking. actions.acknowledges e.moment sack transfer turn.left may known valid turn.takes) in
      let step : MakesTo came to (inside taken) turn.stepped = subst (MakesTo came to (inside taken)) (sym turn.steps) (step_makes came calm to taken e.core refl at) in
      let same : turn.stepped.after.queues ≡ taken.queues = ap (λ (x : Outcome). x.after.queues) turn.steps ∙ step_below taken e.core in
      let fast : MakesTo came to (inside turn.stepped.after) turn.fast =
      fast_makes (has_fast_retransmit turn.left.retransmission) turn.stepped.after held turn.left turn.fast tag (ap (λ (b : EndpointQueues). b.transfer) same) turn.resends in
      let last : MakesTo came to (inside turn.fast.after) (flush_of turn.fast.after (draft_to held) turn.answers) = flushed came to turn.fast.after (draft_to held) turn.answers last_at tag tt tt tt tt turn.allowed in
      let flush : Outcome = flush_of turn.fast.after (draft_to held) turn.answers in
      let told : List (Event Emission) = delivered_up_to sack.cumulative_tsn_ack transfer.retransmission in
      let none : packets_of_events told ≡ [] = delivered_none (take (acknowledged_count transfer.retransmission.outstanding sack.cumulative_tsn_ack) transfer.retransmission.outstanding.items) in
      let fronts : packets_of_events (told ++ (turn.stepped.events ++ turn.fast.events)) ≡ packets_of_events turn.stepped.events ++ packets_of_events turn.fast.events =
      packets_of_events-append told (turn.stepped.events ++ turn.fast.events)
      ∙ ap (λ (l : List Emission). l ++ packets_of_events (turn.stepped.events ++ turn.fast.events)) none ∙ packets_of_events-append turn.stepped.events turn.fast.events in
      let whole : MakesPackets came to (inside e) ((packets_of_events turn.stepped.events ++ packets_of_events turn.fast.events) ++ packets_of_events flush.events) (inside flush.after) =
      both came to (inside e) (inside turn.fast.after) (inside flush.after) (packets_of_events turn.stepped.events ++ packets_of_events turn.fast.events) (packets_of_events flush.events)
      (both came to (inside e) (inside turn.stepped.after) (inside turn.fast.after) (packets_of_events turn.stepped.events) (packets_of_events turn.fast.events)
      (both came to (inside e) (inside taken) (inside turn.stepped.after) [] (packets_of_events turn.stepped.events) first step) fast) last in
      let linked : identity_of_core flush.after.core ≡ identity_of_core e.core =
      flush_link turn.fast.after (draft_to held) turn.answers turn.allowed
      ∙ ap identity_of_core (fast_core (has_fast_retransmit turn.left.retransmission) turn.stepped.after held turn.left turn.fast turn.resends)
      ∙ ap (λ (x : Outcome). identity_of_core x.after.core) turn.steps ∙ step_link taken e.core refl in
      subst (Continues e) (sym turn.is)
      (record {
        linked = linked;
        makes = subst (λ (l : List Emission). MakesPackets came to (inside e) l (inside flush.after))
            (sym (packets_of_events-append (told ++ (turn.stepped.events ++ turn.fast.events)) flush.events ∙ ap (λ (l : List Emission). l ++ packets_of_events flush.events) fronts)) whole;
      })

  sack_where_goes : (b : Bool) (e : Endpoint) (held : Held) (transfer : Transfer) (sack : SackContent) (o : Outcome) → IsPeerTag e.core to → held_by_core e.core ≡ Some held → e.queues.transfer ≡ Some transfer
      → is_sack_valid transfer.retransmission sack.cumulative_tsn_ack ≡ b → MayAcknowledge came sack.cumulative_tsn_ack → HandlesSackIfValid b e held transfer sack o → Goes came to e o
  sack_where_goes false e held transfer sack o at holds known valid may turn = subst (Goes came to e) (sym turn) (goes_on calm refl (rests came to (inside e)))
  sack_where_goes true e held transfer sack o at holds known valid may turn = (let on = acknowledged e held transfer sack o at holds known valid may turn in goes_on calm on.linked on.makes)

  sack_by_goes : (e : Endpoint) (peer : Option Held) (transfer : Transfer) (sack : SackContent) (o : Outcome) → IsPeerTag e.core to → held_by_core e.core ≡ peer → e.queues.transfer ≡ Some transfer → MayAcknowledge came sack.cumulative_tsn_ack → HandlesSackIfConnected e peer transfer sack o → Goes came to e o
  sack_by_goes e None transfer sack o at holds known may turn = subst (Goes came to e) (sym turn) (goes_on calm refl (rests came to (inside e)))
  sack_by_goes e (Some held) transfer sack o at holds known may turn = sack_where_goes (is_sack_valid transfer.retransmission sack.cumulative_tsn_ack) e held transfer sack o at holds known refl may turn

  pub sack_goes : (e : Endpoint) (transfer : Option Transfer) (sack : SackContent) (o : Outcome) → IsPeerTag e.core to → e.queues.transfer ≡ transfer → MayAcknowledge came sack.cumulative_tsn_ack → SackTurn e transfer sack o → Goes came to e o
  sack_goes e None sack o at known may turn = subst (Goes came to e) (sym turn) (goes_on calm refl (rests came to (inside e)))
  sack_goes e (Some transfer) sack o at known may turn = sack_by_goes e (held_by_core e.core) transfer sack o at refl known may turn

  -- ---- the end of a packet

  tracked : (e : Endpoint) (transfer : Transfer) (tracker : TrackerState) → e.queues.transfer ≡ Some transfer → Alike tracker transfer.tracker → MakesPackets came to (inside e) [] (inside (endpoint_with_tracker e transfer tracker))
  tracked e transfer tracker known alike = action_of came to (inside e) (endpoint_with_tracker e transfer tracker).queues (λ queued sent read asking. actions.tracks transfer tracker known alike.cumulative alike.ranges)

  end_where_goes : (b : Bool) (e : Endpoint) (peer : Option Held) (transfer : Transfer) (tracker : TrackerState) (o : Outcome) → IsPeerTag e.core to → held_by_core e.core ≡ peer → e.queues.transfer ≡ Some transfer → Alike tracker transfer.tracker
      → AnswersPacketIfDue b e peer transfer tracker o → Goes came to e o
  end_where_goes true e (Some held) transfer tracker o at holds known alike turn =
      let base : Endpoint = endpoint_with_tracker e transfer (tracker_after_sack tracker) in
      let draft : Emission = acknowledging e held (own_sack (room_of_draft e (draft_to held)) (record transfer { tracker = tracker })) in
      subst (Goes came to e) (sym turn.is)
      (goes_on calm (flush_link base draft turn.answers turn.allowed) (both came to (inside e) (inside base) (inside (flush_of base draft turn.answers).after) [] (packets_of_events (flush_of base draft turn.answers).events)
      (tracked e transfer (tracker_after_sack tracker) known (record { cumulative = alike.cumulative; ranges = alike.ranges }))
      (flushed came to base draft turn.answers at (held_tag e.core held to holds at) (sack_no_data _ _) (sack_no_end _ _) (sack_not_stale _ _)
      (sack_reports _ (IsCumulative base.queues.transfer) _ refl) turn.allowed)))
  end_where_goes true e None transfer tracker o at holds known alike turn = subst (Goes came to e) (sym turn) (goes_on calm refl (tracked e transfer tracker known alike))
  end_where_goes false e peer transfer tracker o at holds known alike turn = subst (Goes came to e) (sym turn) (goes_on calm refl (tracked e transfer tracker known alike))

  pub end_goes : (e : Endpoint) (transfer : Option Transfer) (o : Outcome) → IsPeerTag e.core to → e.queues.transfer ≡ transfer → AcknowledgesPacket e transfer o → Goes came to e o
  end_goes e None o at known turn = subst (Goes came to e) (sym turn) (goes_on calm refl (rests came to (inside e)))
  end_goes e (Some transfer) o at known turn =
      let tracker = after_packet_end e.moment transfer.tracker in
      end_where_goes (is_acknowledgement_due tracker) e (held_by_core e.core) transfer tracker o at refl known (delayed_alike e.moment transfer.tracker transfer.tracker.acknowledgement) turn

  -- ---- timers

  pub delay_goes : (e : Endpoint) (transfer : Option Transfer) → e.queues.transfer ≡ transfer → Goes came to e (delay_outcome e transfer)
  delay_goes e None known = goes_on calm refl (rests came to (inside e))
  delay_goes e (Some transfer) known = goes_on calm refl (tracked e transfer (delay_over transfer.tracker) known (record { cumulative = refl; ranges = refl }))

  pub loss_goes : (e : Endpoint) (transfer : Option Transfer) (o : Outcome) → e.queues.transfer ≡ transfer → LossTurn e transfer o → Goes came to e o
  loss_goes e None o known turn = subst (Goes came to e) (sym turn) (goes_on calm refl (rests came to (inside e)))
  loss_goes e (Some transfer) o known turn =
      subst (Goes came to e) (sym turn) (goes_on calm refl (action_of came to (inside e) _ (λ queued sent read asking. actions.loses e.moment transfer known)))
