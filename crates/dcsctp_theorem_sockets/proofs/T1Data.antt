-- The turns of data leave T1 running where the association connects.
use Rattle.std.proofs.Common.{ℕ, Bool, true, false, cond, Option, None, Some, List, [], ◌∷◌, sym, subst}
use Rattle.dcsctp_spec_lemmas.specs.wire.Content.{SackContent, no_user_data}
use Rattle.dcsctp_spec_lemmas.specs.types.declared.association.Held.{Held}
use Rattle.dcsctp_spec_lemmas.specs.types.declared.kinds.ErrorKind.TheVariants.{ProtocolViolation}
use Rattle.dcsctp_spec_lemmas.specs.spec.endpoint.Event.{error}
use Rattle.dcsctp_spec_lemmas.specs.spec.Packet.{plain, error_of}
use Rattle.dcsctp_spec_lemmas.specs.spec.queues.Tracker.{TrackerState, after_packet_end, is_acknowledgement_due, tracker_after_sack}
use Rattle.dcsctp_spec_lemmas.specs.types.queues.Messages.{MessageContent}
use Rattle.dcsctp_spec_lemmas.specs.spec.queues.Retransmission.{has_fast_retransmit}
use Rattle.dcsctp_spec_lemmas.specs.spec.queues.Transfer.{Transfer}
use Rattle.dcsctp_spec_lemmas.specs.spec.endpoint.Endpoint.{Endpoint, held_by_core}
use Rattle.dcsctp_spec_lemmas.specs.spec.endpoint.Outcome.{Outcome, quiet, sends, fits, to_peer, behind}
use Rattle.dcsctp_spec_lemmas.specs.spec.association.Choices.{plain_contents}
use Rattle.dcsctp_spec_lemmas.specs.spec.endpoint.FlushOutcomes.{own_sack, Answer, goes_out, draft_to, room_of_draft}
use Rattle.dcsctp_spec_lemmas.specs.spec.queues.OwnResets.{prepared_all}
use Rattle.dcsctp_spec_lemmas.specs.spec.endpoint.MessageOutcomes.{MessageRefusal, sending_refusal, Sending, queue_unless_refused, queue_one, queue_all, takes_any, SendAnswers, flush_if_queued, SendTurn}
use Rattle.dcsctp_spec_lemmas.specs.spec.endpoint.PreparedResets.{ResetRefusal, reset_refusal, endpoint_with_queue, PreparesUnlessRefused, OwnResetsTurn}
use Rattle.dcsctp_spec_lemmas.specs.types.declared.arrivals.SkippedTo.{SkippedTo}
use Rattle.dcsctp_spec_lemmas.specs.spec.queues.Arrivals.{Arrival}
use Rattle.dcsctp_spec_lemmas.specs.spec.endpoint.DataOutcomes.{HandlesPayload, with_transfer, endpoint_with_tracker, flush_to_peer, AnswersTo, FlushTurn, no_user_data_text, no_user_data_outcome, ReceiveTurn, DataTurn, ForwardTurn, FastRetransmits, sack_taken, TakesSackAndFlushes, HandlesSackIfValid, HandlesSackIfConnected, SackTurn, acknowledging, AnswersPacketIfDue, AcknowledgesPacket, TakesFirstReady, TakeLeft, TakeTurn, delay_outcome, LossTurn}
use Rattle.dcsctp_spec_lemmas.specs.spec.queues.Acknowledging.{is_sack_valid}
use Rattle.dcsctp_spec_lemmas.proofs.FlushKeeps.{goes_out_keeps}
use Rattle.dcsctp_theorem_sockets.proofs.T1Shutdown.{step_up}
use Rattle.dcsctp_theorem_sockets.proofs.T1Turns.{Up, UpAfter, kept_up, flush_up}

-- ---- a flush by itself

to_up : (e : Endpoint) (peer : Option Held) (answers : List Answer) → AnswersTo e peer answers → Up e → UpAfter (flush_to_peer e peer answers)
to_up e None answers allowed h = h
to_up e (Some held) answers allowed h = flush_up e (draft_to held) answers allowed h

pub flush_turn_up : (e : Endpoint) (o : Outcome) → FlushTurn e o → Up e → UpAfter o
flush_turn_up e o turn h = subst UpAfter (sym turn.2) (to_up e (held_by_core e.core) turn.0 turn.1 h)

-- ---- DATA and FORWARD-TSN

reported_up : (b : Bool) (e : Endpoint) (held : Held) (tsn : ℕ) → Up e
    → UpAfter (behind [] (error ProtocolViolation no_user_data_text ∷ []) (cond b (sends e [] [] (to_peer held (plain (error_of (no_user_data tsn ∷ []))))) (quiet e [] [])))
reported_up true e held tsn h = h
reported_up false e held tsn h = h

no_data_up : (e : Endpoint) (peer : Option Held) (tsn : ℕ) → Up e → UpAfter (no_user_data_outcome e peer tsn)
no_data_up e None tsn h = h
no_data_up e (Some held) tsn h = reported_up (fits e (to_peer held (plain (error_of (no_user_data tsn ∷ []))))) e held tsn h

receive_up : (e : Endpoint) (transfer : Option Transfer) (arrived : Arrival) (o : Outcome) → ReceiveTurn e transfer arrived o → Up e → UpAfter o
receive_up e None arrived o turn h = subst UpAfter (sym turn) h
receive_up e (Some transfer) arrived o turn h = subst UpAfter (sym turn.2) h

data_where_up : (e : Endpoint) (arrived : Arrival) (payload : List ℕ) (o : Outcome) → HandlesPayload e arrived payload o → Up e → UpAfter o
data_where_up e arrived [] o turn h = subst UpAfter (sym turn) (no_data_up e (held_by_core e.core) arrived.tsn h)
data_where_up e arrived (byte ∷ bytes) o turn h = receive_up e e.queues.transfer arrived o turn h

pub data_up : (e : Endpoint) (arrived : Arrival) (o : Outcome) → DataTurn e arrived o → Up e → UpAfter o
data_up e arrived o turn h = data_where_up e arrived arrived.chunk.payload o turn h

pub forward_up : (e : Endpoint) (transfer : Option Transfer) (tsn : ℕ) (entries : List SkippedTo) (o : Outcome) → ForwardTurn e transfer tsn entries o → Up e → UpAfter o
forward_up e None tsn entries o turn h = subst UpAfter (sym turn) h
forward_up e (Some transfer) tsn entries o turn h = subst UpAfter (sym turn.2) h

-- ---- SACK

fast_up : (b : Bool) (e : Endpoint) (held : Held) (transfer : Transfer) (o : Outcome) → FastRetransmits b e held transfer o → Up e → UpAfter o
fast_up false e held transfer o turn h = subst UpAfter (sym turn) h
fast_up true e held transfer o turn h =
    let base : Endpoint = with_transfer e (record transfer { retransmission = turn.left }) in
    let with_checksum : Bool = (draft_to held).with_checksum in
    subst UpAfter (sym turn.is)
    (kept_up None base (goes_out base [] with_checksum held.peer.tag (plain_contents turn.chunks)) (goes_out_keeps base [] with_checksum held.peer.tag (plain_contents turn.chunks)) h)

pub acknowledges_up : (e : Endpoint) (held : Held) (transfer : Transfer) (sack : SackContent) (o : Outcome) → TakesSackAndFlushes e held transfer sack o → Up e → UpAfter o
acknowledges_up e held transfer sack o turn h =
    let step : UpAfter turn.stepped = subst UpAfter (sym turn.steps) (step_up (sack_taken e transfer turn.left) e.core h) in
    let fast : UpAfter turn.fast = fast_up (has_fast_retransmit turn.left.retransmission) turn.stepped.after held turn.left turn.fast turn.resends step in
    subst UpAfter (sym turn.is) (flush_up turn.fast.after (draft_to held) turn.answers turn.allowed fast)

sack_where_up : (b : Bool) (e : Endpoint) (held : Held) (transfer : Transfer) (sack : SackContent) (o : Outcome) → HandlesSackIfValid b e held transfer sack o → Up e → UpAfter o
sack_where_up false e held transfer sack o turn h = subst UpAfter (sym turn) h
sack_where_up true e held transfer sack o turn h = acknowledges_up e held transfer sack o turn h

sack_by_up : (e : Endpoint) (peer : Option Held) (transfer : Transfer) (sack : SackContent) (o : Outcome) → HandlesSackIfConnected e peer transfer sack o → Up e → UpAfter o
sack_by_up e None transfer sack o turn h = subst UpAfter (sym turn) h
sack_by_up e (Some held) transfer sack o turn h = sack_where_up (is_sack_valid transfer.retransmission sack.cumulative_tsn_ack) e held transfer sack o turn h

pub sack_up : (e : Endpoint) (transfer : Option Transfer) (sack : SackContent) (o : Outcome) → SackTurn e transfer sack o → Up e → UpAfter o
sack_up e None sack o turn h = subst UpAfter (sym turn) h
sack_up e (Some transfer) sack o turn h = sack_by_up e (held_by_core e.core) transfer sack o turn h

-- ---- the end of a packet

end_where_up : (b : Bool) (e : Endpoint) (peer : Option Held) (transfer : Transfer) (tracker : TrackerState) (o : Outcome) → AnswersPacketIfDue b e peer transfer tracker o → Up e → UpAfter o
end_where_up true e (Some held) transfer tracker o turn h =
    subst UpAfter (sym turn.is) (flush_up (endpoint_with_tracker e transfer (tracker_after_sack tracker)) (acknowledging e held (own_sack (room_of_draft e (draft_to held)) (record transfer { tracker = tracker }))) turn.answers turn.allowed h)
end_where_up true e None transfer tracker o turn h = subst UpAfter (sym turn) h
end_where_up false e peer transfer tracker o turn h = subst UpAfter (sym turn) h

pub end_up : (e : Endpoint) (transfer : Option Transfer) (o : Outcome) → AcknowledgesPacket e transfer o → Up e → UpAfter o
end_up e None o turn h = subst UpAfter (sym turn) h
end_up e (Some transfer) o turn h =
    let tracker = after_packet_end e.moment transfer.tracker in end_where_up (is_acknowledgement_due tracker) e (held_by_core e.core) transfer tracker o turn h

-- ---- what the user takes and sends

take_where_up : (e : Endpoint) (transfer : Transfer) (messages : List MessageContent) (o : Outcome) → TakesFirstReady e transfer messages o → Up e → UpAfter o
take_where_up e transfer [] o turn h = subst UpAfter (sym turn) h
take_where_up e transfer (message ∷ messages) o turn h = subst UpAfter (sym turn) h

take_left_up : (e : Endpoint) (messages : List MessageContent) (o : Outcome) → TakeLeft e messages o → Up e → UpAfter o
take_left_up e [] o turn h = subst UpAfter (sym turn) h
take_left_up e (message ∷ messages) o turn h = subst UpAfter (sym turn) h

pub take_up : (e : Endpoint) (transfer : Option Transfer) (o : Outcome) → TakeTurn e transfer o → Up e → UpAfter o
take_up e None o turn h = take_left_up e e.left o turn h
take_up e (Some transfer) o turn h = take_where_up e transfer transfer.reassembly.incoming.ready o turn h

queue_one_up : (e : Endpoint) (message : Sending) (refusal : Option MessageRefusal) → Up e → UpAfter (queue_unless_refused e message refusal)
queue_one_up e message None h = h
queue_one_up e message (Some refusal) h = h

queue_all_up : (e : Endpoint) (messages : List Sending) → Up e → UpAfter (queue_all e messages)
queue_all_up e [] h = h
queue_all_up e (message ∷ messages) h =
    queue_all_up (queue_one e message).after messages (queue_one_up e message (sending_refusal e message) h)

send_where_up : (b : Bool) (e : Endpoint) (answers : List Answer) → SendAnswers b e answers → Up e → UpAfter (flush_if_queued b e answers)
send_where_up false e answers allowed h = h
send_where_up true e answers allowed h = to_up e (held_by_core e.core) answers allowed h

pub send_up : (e : Endpoint) (messages : List Sending) (o : Outcome) → SendTurn e messages o → Up e → UpAfter o
send_up e messages o turn h =
    subst UpAfter (sym turn.2) (send_where_up (takes_any e messages) (queue_all e messages).after turn.0 turn.1 (queue_all_up e messages h))

-- ---- our streams that the user resets

resets_where_up : (refusal : Option ResetRefusal) (e : Endpoint) (ids : List ℕ) (o : Outcome) → PreparesUnlessRefused refusal e ids o → Up e → UpAfter o
resets_where_up None e ids o turn h = subst UpAfter (sym turn.is) (flush_turn_up (endpoint_with_queue e (prepared_all ids e.queues.queue)) turn.flushed turn.flushes h)
resets_where_up (Some refusal) e ids o turn h = subst UpAfter (sym turn) h

pub resets_up : (e : Endpoint) (ids : List ℕ) (o : Outcome) → OwnResetsTurn e ids o → Up e → UpAfter o
resets_up e ids o turn h = resets_where_up (reset_refusal e) e ids o turn h

-- ---- timers

pub delay_up : (e : Endpoint) (transfer : Option Transfer) → Up e → UpAfter (delay_outcome e transfer)
delay_up e None h = h
delay_up e (Some transfer) h = h

pub loss_up : (e : Endpoint) (transfer : Option Transfer) (o : Outcome) → LossTurn e transfer o → Up e → UpAfter o
loss_up e None o turn h = subst UpAfter (sym turn) h
loss_up e (Some transfer) o turn h = subst UpAfter (sym turn) h
