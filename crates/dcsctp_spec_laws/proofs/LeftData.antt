-- What data, messages and the timers of an association make of the messages that the last one left: they stay.
use Rattle.std.proofs.Common.{◌≡◌, ℕ, Bool, true, false, Option, None, Some, List, [], ◌∷◌, inl, inr, refl, sym, subst, ap, ◌∙◌}
use Rattle.dcsctp_spec_lemmas.specs.wire.Content.{SackContent, no_user_data}
use Rattle.dcsctp_spec_lemmas.specs.types.declared.association.Pair.{Pair}
use Rattle.dcsctp_spec_lemmas.specs.types.declared.association.Held.{Held}
use Rattle.dcsctp_spec_lemmas.specs.types.declared.arrivals.SkippedTo.{SkippedTo}
use Rattle.dcsctp_spec_lemmas.specs.types.queues.Messages.{MessageContent}
use Rattle.dcsctp_spec_lemmas.specs.spec.Packet.{plain, error_of}
use Rattle.dcsctp_spec_lemmas.specs.spec.association.Choices.{plain_contents}
use Rattle.dcsctp_spec_lemmas.specs.spec.queues.Acknowledging.{is_sack_valid}
use Rattle.dcsctp_spec_lemmas.specs.spec.queues.Arrivals.{Arrival}
use Rattle.dcsctp_spec_lemmas.specs.spec.queues.OwnResets.{prepared_all}
use Rattle.dcsctp_spec_lemmas.specs.spec.queues.Retransmission.{has_fast_retransmit}
use Rattle.dcsctp_spec_lemmas.specs.spec.queues.Tracker.{TrackerState, after_packet_end, is_acknowledgement_due, tracker_after_sack}
use Rattle.dcsctp_spec_lemmas.specs.spec.queues.Transfer.{Transfer}
use Rattle.dcsctp_spec_lemmas.specs.spec.endpoint.Endpoint.{Endpoint, Core, closed, cookie_wait, cookie_echoed, open_in, OpenPhase, established, shutdown_pending, shutdown_sent, shutdown_received, shutdown_ack_sent, held_by_core}
use Rattle.dcsctp_spec_lemmas.specs.spec.endpoint.Outcome.{Outcome, to_peer}
use Rattle.dcsctp_spec_lemmas.specs.spec.endpoint.FlushOutcomes.{Answer, draft_to, own_sack, room_of_draft}
use Rattle.dcsctp_spec_lemmas.specs.spec.endpoint.DataOutcomes.{with_transfer, endpoint_with_tracker, no_user_data_outcome, ReceiveTurn, HandlesPayload, DataTurn, ForwardTurn, FastRetransmits, sack_taken, TakesSackAndFlushes, HandlesSackIfValid, HandlesSackIfConnected, SackTurn, acknowledging, AnswersPacketIfDue, AcknowledgesPacket, TakesFirstReady, TakeLeft, TakeTurn, delay_outcome, LossTurn, FlushTurn}
use Rattle.dcsctp_spec_lemmas.specs.spec.endpoint.HeardShutdown.{said_by_shutdown, ShutdownTurn}
use Rattle.dcsctp_spec_lemmas.specs.spec.endpoint.MessageOutcomes.{MessageRefusal, Sending, sending_refusal, queue_unless_refused, queue_one, queue_all, takes_any, SendAnswers, flush_if_queued, SendTurn}
use Rattle.dcsctp_spec_lemmas.specs.spec.endpoint.PreparedResets.{ResetRefusal, reset_refusal, endpoint_with_queue, PreparesUnlessRefused, OwnResetsTurn}
use Rattle.dcsctp_spec_lemmas.specs.spec.endpoint.ShutdownOutcomes.{endpoint_in_phase, may_continue_shutdown, step_if_acknowledged, step_outcome, shutdown_outcome}
use Rattle.dcsctp_spec_lemmas.specs.spec.endpoint.Turn.{user_takes}
use Rattle.dcsctp_spec_lemmas.proofs.HeardShutdowns.{Heeds, heard}
use Rattle.dcsctp_spec_laws.specs.LeftLaws.{left_once, LeavesMessages}
use Rattle.dcsctp_spec_laws.proofs.LeftLemmas.{is_there, Stays, StaysIn, unmoved, stays_then, emits_stays, goes_out_stays, flush_stays, flush_by_stays}

-- ---- what is received

-- There is an association before and after it.
pub moved_stays : (e : Endpoint) (transfer left : Transfer) → e.queues.transfer ≡ Some transfer → Stays e (with_transfer e left)
moved_stays e transfer left is = record { left = refl; there = sym (ap is_there is); last = refl }

no_data_stays : (e : Endpoint) (peer : Option Held) (tsn : ℕ) → StaysIn e (no_user_data_outcome e peer tsn)
no_data_stays e None tsn = unmoved e
no_data_stays e (Some held) tsn = emits_stays e [] (to_peer held (plain (error_of (no_user_data tsn ∷ []))))

receive_stays : (e : Endpoint) (transfer : Option Transfer) (arrival : Arrival) (o : Outcome) → e.queues.transfer ≡ transfer → ReceiveTurn e transfer arrival o → StaysIn e o
receive_stays e None arrival o is turn = subst (StaysIn e) (sym turn) (unmoved e)
receive_stays e (Some transfer) arrival o is turn = subst (StaysIn e) (sym turn.2) (moved_stays e transfer turn.0 is)

data_where_stays : (e : Endpoint) (arrival : Arrival) (payload : List ℕ) (o : Outcome) → HandlesPayload e arrival payload o → StaysIn e o
data_where_stays e arrival [] o turn = subst (StaysIn e) (sym turn) (no_data_stays e (held_by_core e.core) arrival.tsn)
data_where_stays e arrival (byte ∷ bytes) o turn = receive_stays e e.queues.transfer arrival o refl turn

pub data_stays : (e : Endpoint) (arrival : Arrival) (o : Outcome) → DataTurn e arrival o → StaysIn e o
data_stays e arrival o turn = data_where_stays e arrival arrival.chunk.payload o turn

forward_where_stays : (e : Endpoint) (transfer : Option Transfer) (tsn : ℕ) (entries : List SkippedTo) (o : Outcome) → e.queues.transfer ≡ transfer → ForwardTurn e transfer tsn entries o → StaysIn e o
forward_where_stays e None tsn entries o is turn = subst (StaysIn e) (sym turn) (unmoved e)
forward_where_stays e (Some transfer) tsn entries o is turn = subst (StaysIn e) (sym turn.2) (moved_stays e transfer turn.0 is)

pub forward_stays : (e : Endpoint) (tsn : ℕ) (entries : List SkippedTo) (o : Outcome) → ForwardTurn e e.queues.transfer tsn entries o → StaysIn e o
forward_stays e tsn entries o turn = forward_where_stays e e.queues.transfer tsn entries o refl turn

-- ---- a step of a shutdown

step_by_stays : (b : Bool) (e : Endpoint) (phase : OpenPhase) (my : Pair) (held : Held) → StaysIn e (step_if_acknowledged b e phase my held)
step_by_stays true e established my held = unmoved e
step_by_stays true e shutdown_pending my held = record { left = refl; there = refl; last = refl }
step_by_stays true e shutdown_sent my held = unmoved e
step_by_stays true e shutdown_received my held = record { left = refl; there = refl; last = refl }
step_by_stays true e shutdown_ack_sent my held = unmoved e
step_by_stays false e phase my held = unmoved e

pub step_stays : (e : Endpoint) (core : Core) → StaysIn e (step_outcome e core)
step_stays e closed = unmoved e
step_stays e (cookie_wait my) = unmoved e
step_stays e (cookie_echoed my held cookie) = unmoved e
step_stays e (open_in phase my held) = step_by_stays (may_continue_shutdown e) e phase my held

-- the association in another phase, and a step from there
pub step_from_stays : (b : Bool) (e : Endpoint) (phase : OpenPhase) (my : Pair) (held : Held) → StaysIn e (step_if_acknowledged b (endpoint_in_phase e phase my held) phase my held)
step_from_stays b e phase my held = stays_then e (endpoint_in_phase e phase my held) _ (record { left = refl; there = refl; last = refl }) (step_by_stays b (endpoint_in_phase e phase my held) phase my held)

-- ---- SACK, and a SHUTDOWN that acknowledges

fast_stays : (b : Bool) (e : Endpoint) (held : Held) (transfer : Transfer) (o : Outcome) → is_there e.queues.transfer ≡ true → FastRetransmits b e held transfer o → StaysIn e o
fast_stays false e held transfer o there turn = subst (StaysIn e) (sym turn) (unmoved e)
fast_stays true e held transfer o there turn =
    let moved : Endpoint = with_transfer e (record transfer { retransmission = turn.left }) in
    subst (StaysIn e) (sym turn.is)
    (stays_then e moved _ (record { left = refl; there = sym there; last = refl })
    (goes_out_stays moved [] (draft_to held).with_checksum (draft_to held).packet.tag (plain_contents turn.chunks)))

acknowledges_stay : (e : Endpoint) (held : Held) (transfer : Transfer) (sack : SackContent) (o : Outcome) → e.queues.transfer ≡ Some transfer → TakesSackAndFlushes e held transfer sack o → StaysIn e o
acknowledges_stay e held transfer sack o is turn =
    let base : Endpoint = sack_taken e transfer turn.left in
    let taken : Stays e base = record { left = refl; there = sym (ap is_there is); last = refl } in
    let step : Stays base turn.stepped.after = subst (StaysIn base) (sym turn.steps) (step_stays base e.core) in
    let fast : Stays turn.stepped.after turn.fast.after = fast_stays (has_fast_retransmit turn.left.retransmission) turn.stepped.after held turn.left turn.fast step.there turn.resends in
    subst (StaysIn e) (sym turn.is)
    (stays_then e base _ taken
    (stays_then base turn.stepped.after _ step
    (stays_then turn.stepped.after turn.fast.after _ fast (flush_stays turn.fast.after (draft_to held) turn.answers turn.allowed))))

sack_where_stays : (b : Bool) (e : Endpoint) (held : Held) (transfer : Transfer) (sack : SackContent) (o : Outcome) → e.queues.transfer ≡ Some transfer → HandlesSackIfValid b e held transfer sack o → StaysIn e o
sack_where_stays false e held transfer sack o is turn = subst (StaysIn e) (sym turn) (unmoved e)
sack_where_stays true e held transfer sack o is turn = acknowledges_stay e held transfer sack o is turn

sack_by_stays : (e : Endpoint) (peer : Option Held) (transfer : Transfer) (sack : SackContent) (o : Outcome) → e.queues.transfer ≡ Some transfer → HandlesSackIfConnected e peer transfer sack o → StaysIn e o
sack_by_stays e None transfer sack o is turn = subst (StaysIn e) (sym turn) (unmoved e)
sack_by_stays e (Some held) transfer sack o is turn = sack_where_stays (is_sack_valid transfer.retransmission sack.cumulative_tsn_ack) e held transfer sack o is turn

sack_turn_stays : (e : Endpoint) (transfer : Option Transfer) (sack : SackContent) (o : Outcome) → e.queues.transfer ≡ transfer → SackTurn e transfer sack o → StaysIn e o
sack_turn_stays e None sack o is turn = subst (StaysIn e) (sym turn) (unmoved e)
sack_turn_stays e (Some transfer) sack o is turn = sack_by_stays e (held_by_core e.core) transfer sack o is turn

pub sack_stays : (e : Endpoint) (sack : SackContent) (o : Outcome) → SackTurn e e.queues.transfer sack o → StaysIn e o
sack_stays e sack o turn = sack_turn_stays e e.queues.transfer sack o refl turn

shutdown_at : (e : Endpoint) (core : Core) → StaysIn e (shutdown_outcome e core)
shutdown_at e closed = unmoved e
shutdown_at e (cookie_wait my) = unmoved e
shutdown_at e (cookie_echoed my held cookie) = unmoved e
shutdown_at e (open_in established my held) = step_from_stays (may_continue_shutdown e) e shutdown_received my held
shutdown_at e (open_in shutdown_pending my held) = step_from_stays (may_continue_shutdown e) e shutdown_received my held
shutdown_at e (open_in shutdown_sent my held) = record { left = refl; there = refl; last = refl }
shutdown_at e (open_in shutdown_received my held) = unmoved e
shutdown_at e (open_in shutdown_ack_sent my held) = record { left = refl; there = refl; last = refl }

heeds_stays : (e : Endpoint) (tsn : ℕ) (o : Outcome) → Heeds e e.core tsn o → StaysIn e o
heeds_stays e tsn o h =
    let moved : Endpoint = endpoint_in_phase e shutdown_received h.my h.held in
    stays_then e moved o.after (record { left = refl; there = refl; last = refl })
    (acknowledges_stay moved h.held h.transfer (said_by_shutdown tsn h.transfer.retransmission) o h.stands h.acknowledges)

pub shutdown_stays : (e : Endpoint) (tsn : ℕ) (o : Outcome) → ShutdownTurn e e.core tsn o → StaysIn e o
shutdown_stays e tsn o turn = elim (heard e e.core tsn o turn) [
  | inl rests ↦ subst (StaysIn e) (sym rests) (shutdown_at e e.core)
  | inr heeds ↦ heeds_stays e tsn o heeds
]

-- ---- the end of a packet

end_where_stays : (b : Bool) (e : Endpoint) (peer : Option Held) (transfer : Transfer) (tracker : TrackerState) (o : Outcome) → e.queues.transfer ≡ Some transfer
    → AnswersPacketIfDue b e peer transfer tracker o → StaysIn e o
end_where_stays true e (Some held) transfer tracker o is turn =
    let moved : Endpoint = endpoint_with_tracker e transfer (tracker_after_sack tracker) in
    subst (StaysIn e) (sym turn.is)
    (stays_then e moved _ (moved_stays e transfer (record transfer { tracker = tracker_after_sack tracker }) is)
    (flush_stays moved (acknowledging e held (own_sack (room_of_draft e (draft_to held)) (record transfer { tracker = tracker }))) turn.answers turn.allowed))
end_where_stays true e None transfer tracker o is turn = subst (StaysIn e) (sym turn) (moved_stays e transfer (record transfer { tracker = tracker }) is)
end_where_stays false e peer transfer tracker o is turn = subst (StaysIn e) (sym turn) (moved_stays e transfer (record transfer { tracker = tracker }) is)

end_by_stays : (e : Endpoint) (transfer : Option Transfer) (o : Outcome) → e.queues.transfer ≡ transfer → AcknowledgesPacket e transfer o → StaysIn e o
end_by_stays e None o is turn = subst (StaysIn e) (sym turn) (unmoved e)
end_by_stays e (Some transfer) o is turn =
    let tracker = after_packet_end e.moment transfer.tracker in end_where_stays (is_acknowledgement_due tracker) e (held_by_core e.core) transfer tracker o is turn

pub end_stays : (e : Endpoint) (o : Outcome) → AcknowledgesPacket e e.queues.transfer o → StaysIn e o
end_stays e o turn = end_by_stays e e.queues.transfer o refl turn

-- ---- what the user sends, and streams that the user resets

pub flush_turn_stays : (e : Endpoint) (o : Outcome) → FlushTurn e o → StaysIn e o
flush_turn_stays e o turn = subst (StaysIn e) (sym turn.2) (flush_by_stays e (held_by_core e.core) turn.0 turn.1)

queues_one : (e : Endpoint) (message : Sending) (refusal : Option MessageRefusal) → StaysIn e (queue_unless_refused e message refusal)
queues_one e message None = record { left = refl; there = refl; last = refl }
queues_one e message (Some refusal) = unmoved e

queues_all : (e : Endpoint) (messages : List Sending) → StaysIn e (queue_all e messages)
queues_all e [] = unmoved e
queues_all e (message ∷ messages) =
    let first : Outcome = queue_one e message in
    stays_then e first.after (queue_all first.after messages).after (queues_one e message (sending_refusal e message)) (queues_all first.after messages)

send_where_stays : (b : Bool) (e : Endpoint) (answers : List Answer) → SendAnswers b e answers → StaysIn e (flush_if_queued b e answers)
send_where_stays false e answers h = unmoved e
send_where_stays true e answers h = flush_by_stays e (held_by_core e.core) answers h

pub send_stays : (e : Endpoint) (messages : List Sending) (o : Outcome) → SendTurn e messages o → StaysIn e o
send_stays e messages o turn =
    let queued : Outcome = queue_all e messages in
    subst (StaysIn e) (sym turn.2)
    (stays_then e queued.after (flush_if_queued (takes_any e messages) queued.after turn.0).after (queues_all e messages) (send_where_stays (takes_any e messages) queued.after turn.0 turn.1))

resets_where_stay : (refusal : Option ResetRefusal) (e : Endpoint) (ids : List ℕ) (o : Outcome) → PreparesUnlessRefused refusal e ids o → StaysIn e o
resets_where_stay (Some refusal) e ids o turn = subst (StaysIn e) (sym turn) (unmoved e)
resets_where_stay None e ids o turn =
    let prepared : Endpoint = endpoint_with_queue e (prepared_all ids e.queues.queue) in
    subst (StaysIn e) (sym turn.is)
    (stays_then e prepared turn.flushed.after (record { left = refl; there = refl; last = refl }) (flush_turn_stays prepared turn.flushed turn.flushes))

pub own_resets_stay : (e : Endpoint) (ids : List ℕ) (o : Outcome) → OwnResetsTurn e ids o → StaysIn e o
own_resets_stay e ids o turn = resets_where_stay (reset_refusal e) e ids o turn

-- ---- what the user takes

-- The first of those that are left is taken.
abbrev TakenWhere : Endpoint → Option Transfer → Outcome → Type 0
TakenWhere e old o = LeavesMessages e user_takes old o.after.queues.transfer o.after.left

take_left : (e : Endpoint) (messages : List MessageContent) (o : Outcome) → e.queues.transfer ≡ None → e.left ≡ messages → TakeLeft e messages o → TakenWhere e None o
take_left e [] o none left turn =
    subst (TakenWhere e None) (sym turn) (subst (λ (t : Option Transfer). LeavesMessages e user_takes None t e.left) (sym none) (left ∙ sym (ap (left_once user_takes) left)))
take_left e (message ∷ messages) o none left turn =
    subst (TakenWhere e None) (sym turn) (subst (λ (t : Option Transfer). LeavesMessages e user_takes None t messages) (sym none) (sym (ap (left_once user_takes) left)))

take_where : (e : Endpoint) (transfer : Transfer) (messages : List MessageContent) (o : Outcome) → e.queues.transfer ≡ Some transfer → TakesFirstReady e transfer messages o → TakenWhere e (Some transfer) o
take_where e transfer [] o is turn =
    subst (TakenWhere e (Some transfer)) (sym turn) (subst (λ (t : Option Transfer). LeavesMessages e user_takes (Some transfer) t e.left) (sym is) (inl refl))
take_where e transfer (message ∷ messages) o is turn = subst (TakenWhere e (Some transfer)) (sym turn) (inl refl)

take_by : (e : Endpoint) (transfer : Option Transfer) (o : Outcome) → e.queues.transfer ≡ transfer → TakeTurn e transfer o → TakenWhere e transfer o
take_by e None o is turn = take_left e e.left o is refl turn
take_by e (Some transfer) o is turn = take_where e transfer transfer.reassembly.incoming.ready o is turn

pub take_leaves : (e : Endpoint) (o : Outcome) → TakeTurn e e.queues.transfer o → TakenWhere e e.queues.transfer o
take_leaves e o turn = take_by e e.queues.transfer o refl turn

-- ---- timers

pub delay_stays : (e : Endpoint) (transfer : Option Transfer) → e.queues.transfer ≡ transfer → StaysIn e (delay_outcome e transfer)
delay_stays e None is = unmoved e
delay_stays e (Some transfer) is = record { left = refl; there = sym (ap is_there is); last = refl }

pub loss_stays : (e : Endpoint) (transfer : Option Transfer) (o : Outcome) → e.queues.transfer ≡ transfer → LossTurn e transfer o → StaysIn e o
loss_stays e None o is turn = subst (StaysIn e) (sym turn) (unmoved e)
loss_stays e (Some transfer) o is turn = subst (StaysIn e) (sym turn) (record { left = refl; there = sym (ap is_there is); last = refl })
