-- The turns of data, and what the user takes, sends and resets, keep what the moves of a transfer layer keep.
use Rattle.std.proofs.Common.{◌≡◌, ℕ, Bool, true, false, cond, Option, None, Some, List, [], ◌∷◌, refl, sym, subst}
use Rattle.dcsctp_spec_lemmas.specs.wire.Content.{SackContent, no_user_data}
use Rattle.dcsctp_spec_lemmas.specs.types.declared.arrivals.SkippedTo.{SkippedTo}
use Rattle.dcsctp_spec_lemmas.specs.types.declared.association.Held.{Held}
use Rattle.dcsctp_spec_lemmas.specs.types.declared.kinds.ErrorKind.TheVariants.{ProtocolViolation}
use Rattle.dcsctp_spec_lemmas.specs.types.declared.options.Options.{Options}
use Rattle.dcsctp_spec_lemmas.specs.types.queues.Messages.{MessageContent}
use Rattle.dcsctp_spec_lemmas.specs.spec.Packet.{plain, error_of}
use Rattle.dcsctp_spec_lemmas.specs.spec.association.Choices.{plain_contents}
use Rattle.dcsctp_spec_lemmas.specs.spec.endpoint.DataOutcomes.{HandlesPayload, with_transfer, endpoint_with_tracker, flush_to_peer, AnswersTo, FlushTurn, no_user_data_text, no_user_data_outcome, ReceiveTurn, DataTurn, ForwardTurn, FastRetransmits, sack_taken, TakesSackAndFlushes, HandlesSackIfValid, HandlesSackIfConnected, SackTurn, acknowledging, AnswersPacketIfDue, AcknowledgesPacket, TakesFirstReady, TakeLeft, TakeTurn, delay_outcome, LossTurn}
use Rattle.dcsctp_spec_lemmas.specs.spec.endpoint.Endpoint.{Endpoint, Core, closed, cookie_wait, cookie_echoed, open_in, held_by_core}
use Rattle.dcsctp_spec_lemmas.specs.spec.endpoint.Event.{error}
use Rattle.dcsctp_spec_lemmas.specs.spec.endpoint.FlushOutcomes.{own_sack, Answer, draft_to, room_of_draft}
use Rattle.dcsctp_spec_lemmas.specs.spec.endpoint.MessageOutcomes.{MessageRefusal, sending_refusal, Sending, queue_unless_refused, queue_one, queue_all, takes_any, SendAnswers, flush_if_queued, SendTurn}
use Rattle.dcsctp_spec_lemmas.specs.spec.endpoint.Outcome.{Outcome, quiet, sends, fits, to_peer, behind}
use Rattle.dcsctp_spec_lemmas.specs.spec.endpoint.PreparedResets.{ResetRefusal, reset_refusal, endpoint_with_queue, PreparesUnlessRefused, OwnResetsTurn}
use Rattle.dcsctp_spec_lemmas.specs.spec.queues.Acknowledging.{is_sack_valid}
use Rattle.dcsctp_spec_lemmas.specs.spec.queues.Arrivals.{Arrival}
use Rattle.dcsctp_spec_lemmas.specs.spec.queues.OwnResets.{prepared_all}
use Rattle.dcsctp_spec_lemmas.specs.spec.queues.Retransmission.{has_fast_retransmit}
use Rattle.dcsctp_spec_lemmas.specs.spec.queues.Tracker.{TrackerState, after_packet_end, is_acknowledgement_due, tracker_after_sack}
use Rattle.dcsctp_spec_lemmas.specs.spec.queues.Transfer.{Transfer}
use Rattle.dcsctp_theorem_transfer.proofs.Layers.{Keeps, HasPeer, LayerIs, EndpointIs, LeavesIt, goes_out_is, flush_is}
use Rattle.dcsctp_theorem_transfer.proofs.Shutdowns.{Stays, step_stays, left_by}

module _ (Receives Delays Restores : Type 0) (Before Good : Options → Transfer → Type 0) (keeps : Keeps Receives Delays Restores Before Good) where
  -- ---- a flush by itself

  to_is : (e : Endpoint) (peer : Option Held) (answers : List Answer) → AnswersTo e peer answers → EndpointIs Good e → LeavesIt Good (flush_to_peer e peer answers)
  to_is e None answers allowed h = h
  to_is e (Some held) answers allowed h = flush_is Receives Delays Restores Before Good keeps e (draft_to held) answers allowed h

  pub flush_turn_is : (e : Endpoint) (o : Outcome) → FlushTurn e o → EndpointIs Good e → LeavesIt Good o
  flush_turn_is e o turn h = subst (LeavesIt Good) (sym turn.2) (to_is e (held_by_core e.core) turn.0 turn.1 h)

  -- ---- DATA and FORWARD-TSN

  reported_is : (b : Bool) (e : Endpoint) (held : Held) (tsn : ℕ) → EndpointIs Good e
      → LeavesIt Good (behind [] (error ProtocolViolation no_user_data_text ∷ []) (cond b (sends e [] [] (to_peer held (plain (error_of (no_user_data tsn ∷ []))))) (quiet e [] [])))
  reported_is true e held tsn h = h
  reported_is false e held tsn h = h

  no_data_is : (e : Endpoint) (peer : Option Held) (tsn : ℕ) → EndpointIs Good e → LeavesIt Good (no_user_data_outcome e peer tsn)
  no_data_is e None tsn h = h
  no_data_is e (Some held) tsn h = reported_is (fits e (to_peer held (plain (error_of (no_user_data tsn ∷ []))))) e held tsn h

  receive_is : Receives → (e : Endpoint) (found : Option Transfer) (arrived : Arrival) (o : Outcome) → ReceiveTurn e found arrived o
      → LayerIs Good e.core e.options found → EndpointIs Good e → LeavesIt Good o
  receive_is may e None arrived o turn there h = subst (LeavesIt Good) (sym turn) h
  receive_is may e (Some t) arrived o turn there h = subst (LeavesIt Good) (sym turn.2) (there.0, keeps.receives may e.options arrived t turn.0 there.1 turn.1)

  payload_is : Receives → (e : Endpoint) (arrived : Arrival) (payload : List ℕ) (o : Outcome) → HandlesPayload e arrived payload o → EndpointIs Good e → LeavesIt Good o
  payload_is may e arrived [] o turn h = subst (LeavesIt Good) (sym turn) (no_data_is e (held_by_core e.core) arrived.tsn h)
  payload_is may e arrived (byte ∷ bytes) o turn h = receive_is may e e.queues.transfer arrived o turn h h

  pub data_is : Receives → (e : Endpoint) (arrived : Arrival) (o : Outcome) → DataTurn e arrived o → EndpointIs Good e → LeavesIt Good o
  data_is may e arrived o turn h = payload_is may e arrived arrived.chunk.payload o turn h

  pub forward_is : Receives → (e : Endpoint) (found : Option Transfer) (tsn : ℕ) (entries : List SkippedTo) (o : Outcome) → ForwardTurn e found tsn entries o
      → LayerIs Good e.core e.options found → EndpointIs Good e → LeavesIt Good o
  forward_is may e None tsn entries o turn there h = subst (LeavesIt Good) (sym turn) h
  forward_is may e (Some t) tsn entries o turn there h = subst (LeavesIt Good) (sym turn.2) (there.0, keeps.forwards may e.options tsn entries t turn.0 there.1 turn.1)

  -- ---- SACK

  -- A layer stays in what may follow a SACK, whatever else the endpoint has.
  abbrev Holds : Endpoint → Transfer → Type 0
  Holds e t = HasPeer e.core × Good e.options t

  fast_is : (b : Bool) (e : Endpoint) (held : Held) (t : Transfer) (o : Outcome) → FastRetransmits b e held t o → Holds e t → EndpointIs Good e → LeavesIt Good o
  fast_is false e held t o turn there h = subst (LeavesIt Good) (sym turn) h
  fast_is true e held t o turn there h =
      subst (LeavesIt Good) (sym turn.is)
      (goes_out_is Receives Delays Restores Before Good keeps (with_transfer e (record t { retransmission = turn.left })) [] (draft_to held).with_checksum held.peer.tag (plain_contents turn.chunks)
      (there.0, keeps.resends e.options e.moment (room_of_draft e (draft_to held)) e.queues.queue t turn.left turn.tsns there.1 turn.sends))

  pub acknowledges_is : (e : Endpoint) (held : Held) (t : Transfer) (sack : SackContent) (o : Outcome) → TakesSackAndFlushes e held t sack o → LayerIs Good e.core e.options (Some t) → LeavesIt Good o
  acknowledges_is e held t sack o turn there =
      let taken : Endpoint = sack_taken e t turn.left in
      let left : LayerIs Good e.core e.options (Some turn.left) = (there.0, keeps.acknowledges e.options e.moment sack t turn.left there.1 turn.takes) in
      let stays : Stays Good taken (Some turn.left) turn.stepped = subst (Stays Good taken (Some turn.left)) (sym turn.steps) (step_stays Good taken e.core (Some turn.left) left) in
      let fast : LeavesIt Good turn.fast = fast_is (has_fast_retransmit turn.left.retransmission) turn.stepped.after held turn.left turn.fast turn.resends stays.layer (left_by Good taken turn.stepped stays) in
      subst (LeavesIt Good) (sym turn.is) (flush_is Receives Delays Restores Before Good keeps turn.fast.after (draft_to held) turn.answers turn.allowed fast)

  valid_is : (b : Bool) (e : Endpoint) (held : Held) (t : Transfer) (sack : SackContent) (o : Outcome) → HandlesSackIfValid b e held t sack o → LayerIs Good e.core e.options (Some t)
      → EndpointIs Good e → LeavesIt Good o
  valid_is false e held t sack o turn there h = subst (LeavesIt Good) (sym turn) h
  valid_is true e held t sack o turn there h = acknowledges_is e held t sack o turn there

  sack_by : (e : Endpoint) (peer : Option Held) (t : Transfer) (sack : SackContent) (o : Outcome) → HandlesSackIfConnected e peer t sack o → LayerIs Good e.core e.options (Some t)
      → EndpointIs Good e → LeavesIt Good o
  sack_by e None t sack o turn there h = subst (LeavesIt Good) (sym turn) h
  sack_by e (Some held) t sack o turn there h = valid_is (is_sack_valid t.retransmission sack.cumulative_tsn_ack) e held t sack o turn there h

  pub sack_is : (e : Endpoint) (found : Option Transfer) (sack : SackContent) (o : Outcome) → SackTurn e found sack o → LayerIs Good e.core e.options found → EndpointIs Good e → LeavesIt Good o
  sack_is e None sack o turn there h = subst (LeavesIt Good) (sym turn) h
  sack_is e (Some t) sack o turn there h = sack_by e (held_by_core e.core) t sack o turn there h

  -- ---- the end of a packet

  no_peer : (core : Core) → held_by_core core ≡ None → HasPeer core → ⊥
  no_peer closed none has = has
  no_peer (cookie_wait my) none has = has
  no_peer (cookie_echoed my held cookie) none has = absurd (cc)
  no_peer (open_in phase my held) none has = absurd (cc)

  end_where : (b : Bool) (e : Endpoint) (peer : Option Held) (t : Transfer) (o : Outcome) → held_by_core e.core ≡ peer → is_acknowledgement_due (after_packet_end e.moment t.tracker) ≡ b
      → AnswersPacketIfDue b e peer t (after_packet_end e.moment t.tracker) o → LayerIs Before e.core e.options (Some t) → LeavesIt Good o
  end_where true e (Some held) t o known due turn there =
      let tracker : TrackerState = after_packet_end e.moment t.tracker in
      subst (LeavesIt Good) (sym turn.is)
      (flush_is Receives Delays Restores Before Good keeps (endpoint_with_tracker e t (tracker_after_sack tracker)) (acknowledging e held (own_sack (room_of_draft e (draft_to held)) (record t { tracker = tracker }))) turn.answers turn.allowed
      (there.0, keeps.answers e.options e.moment t there.1))
  end_where true e None t o known due turn there = absurd (no_peer e.core known there.0)
  end_where false e peer t o known due turn there = subst (LeavesIt Good) (sym turn) (there.0, keeps.ends e.options e.moment t there.1 due)

  -- It needs the weaker one alone.
  pub end_is : (e : Endpoint) (found : Option Transfer) (o : Outcome) → AcknowledgesPacket e found o → e.queues.transfer ≡ found → LayerIs Before e.core e.options found → LeavesIt Good o
  end_is e None o turn at there = subst (LeavesIt Good) (sym turn) (subst (LayerIs Good e.core e.options) (sym at) tt)
  end_is e (Some t) o turn at there = end_where (is_acknowledgement_due (after_packet_end e.moment t.tracker)) e (held_by_core e.core) t o refl refl turn there

  -- ---- what the user takes and sends

  take_where : (e : Endpoint) (t : Transfer) (messages : List MessageContent) (o : Outcome) → TakesFirstReady e t messages o → LayerIs Good e.core e.options (Some t)
      → EndpointIs Good e → LeavesIt Good o
  take_where e t [] o turn there h = subst (LeavesIt Good) (sym turn) h
  take_where e t (message ∷ messages) o turn there h = subst (LeavesIt Good) (sym turn) (there.0, keeps.takes e.options e.moment messages t there.1)

  take_left : (e : Endpoint) (messages : List MessageContent) (o : Outcome) → TakeLeft e messages o → EndpointIs Good e → LeavesIt Good o
  take_left e [] o turn h = subst (LeavesIt Good) (sym turn) h
  take_left e (message ∷ messages) o turn h = subst (LeavesIt Good) (sym turn) h

  pub take_is : (e : Endpoint) (found : Option Transfer) (o : Outcome) → TakeTurn e found o → LayerIs Good e.core e.options found → EndpointIs Good e → LeavesIt Good o
  take_is e None o turn there h = take_left e e.left o turn h
  take_is e (Some t) o turn there h = take_where e t t.reassembly.incoming.ready o turn there h

  one_is : (e : Endpoint) (message : Sending) (refusal : Option MessageRefusal) → EndpointIs Good e → LeavesIt Good (queue_unless_refused e message refusal)
  one_is e message None h = h
  one_is e message (Some refusal) h = h

  all_is : (e : Endpoint) (messages : List Sending) → EndpointIs Good e → LeavesIt Good (queue_all e messages)
  all_is e [] h = h
  all_is e (message ∷ messages) h = all_is (queue_one e message).after messages (one_is e message (sending_refusal e message) h)

  send_where : (b : Bool) (e : Endpoint) (answers : List Answer) → SendAnswers b e answers → EndpointIs Good e → LeavesIt Good (flush_if_queued b e answers)
  send_where false e answers allowed h = h
  send_where true e answers allowed h = to_is e (held_by_core e.core) answers allowed h

  pub send_is : (e : Endpoint) (messages : List Sending) (o : Outcome) → SendTurn e messages o → EndpointIs Good e → LeavesIt Good o
  send_is e messages o turn h = subst (LeavesIt Good) (sym turn.2) (send_where (takes_any e messages) (queue_all e messages).after turn.0 turn.1 (all_is e messages h))

  -- ---- our streams that the user resets

  resets_where : (refusal : Option ResetRefusal) (e : Endpoint) (ids : List ℕ) (o : Outcome) → PreparesUnlessRefused refusal e ids o → EndpointIs Good e → LeavesIt Good o
  resets_where None e ids o turn h = subst (LeavesIt Good) (sym turn.is) (flush_turn_is (endpoint_with_queue e (prepared_all ids e.queues.queue)) turn.flushed turn.flushes h)
  resets_where (Some refusal) e ids o turn h = subst (LeavesIt Good) (sym turn) h

  pub own_resets_is : (e : Endpoint) (ids : List ℕ) (o : Outcome) → OwnResetsTurn e ids o → EndpointIs Good e → LeavesIt Good o
  own_resets_is e ids o turn h = resets_where (reset_refusal e) e ids o turn h

  -- ---- timers

  pub delay_is : Delays → (e : Endpoint) (found : Option Transfer) → LayerIs Good e.core e.options found → EndpointIs Good e → LeavesIt Good (delay_outcome e found)
  delay_is may e None there h = h
  delay_is may e (Some t) there h = (there.0, keeps.delays may e.options t there.1)

  pub loss_is : (e : Endpoint) (found : Option Transfer) (o : Outcome) → LossTurn e found o → LayerIs Good e.core e.options found → EndpointIs Good e → LeavesIt Good o
  loss_is e None o turn there h = subst (LeavesIt Good) (sym turn) h
  loss_is e (Some t) o turn there h = subst (LeavesIt Good) (sym turn) (there.0, keeps.loses e.options e.moment t there.1)
