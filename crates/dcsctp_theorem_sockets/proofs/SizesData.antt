-- The turns of data send no packet that is longer than a limit.
use Rattle.std.proofs.Common.{◌≡◌, ◌≤◌, ◌+◌, ℕ, Bool, true, false, cond, nat_le, Option, None, Some, List, [], ◌∷◌, ◌++◌, map, length, refl, sym, subst, arith, length-append, take}
use Rattle.std.proofs.lemmas.Bool.Decides.{nat_tests}
use Rattle.dcsctp_spec_lemmas.specs.wire.Content.{SackContent, no_user_data}
use Rattle.dcsctp_spec_lemmas.specs.wire.Spelling.{chunk_bytes}
use Rattle.dcsctp_spec_lemmas.specs.types.declared.association.Held.{Held}
use Rattle.dcsctp_spec_lemmas.specs.types.declared.arrivals.SkippedTo.{SkippedTo}
use Rattle.dcsctp_spec_lemmas.specs.types.Settings.{packet_size_limit}
use Rattle.dcsctp_spec_lemmas.specs.spec.Packet.{Plain, plain, plain_out, error_of, Content}
use Rattle.dcsctp_spec_lemmas.specs.spec.queues.Arrivals.{Arrival}
use Rattle.dcsctp_spec_lemmas.specs.spec.queues.Tracker.{TrackerState, after_packet_end, is_acknowledgement_due, tracker_after_sack}
use Rattle.dcsctp_spec_lemmas.specs.types.queues.Messages.{MessageContent}
use Rattle.dcsctp_spec_lemmas.specs.spec.queues.OwnResets.{prepared_all, prepare_all_events}
use Rattle.dcsctp_spec_lemmas.proofs.SendEventLemmas.{told_prepared}
use Rattle.dcsctp_spec_lemmas.specs.spec.queues.Transfer.{Transfer}
use Rattle.dcsctp_spec_lemmas.specs.spec.endpoint.Endpoint.{Endpoint, held_by_core}
use Rattle.dcsctp_spec_lemmas.specs.spec.endpoint.Outcome.{Outcome, contents_len, to_peer}
use Rattle.dcsctp_spec_lemmas.specs.spec.association.Choices.{plain_contents}
use Rattle.dcsctp_spec_lemmas.specs.spec.endpoint.FlushOutcomes.{own_sack, FillingEvent, amount_is_low, total_amount_is_low, message_is_sent, message_may_have_expired, message_has_expired, message_ends, filling_event, Answer, goes_out, draft_to, flush_of, room_of_draft}
use Rattle.dcsctp_spec_lemmas.specs.spec.endpoint.MessageOutcomes.{MessageRefusal, refusal_events, Sending, sending_refusal, lifecycle_name, queue_unless_refused, queue_one, queue_all, takes_any, SendAnswers, flush_if_queued, SendTurn}
use Rattle.dcsctp_spec_lemmas.specs.spec.endpoint.PreparedResets.{ResetRefusal, reset_refusal, endpoint_with_queue, PreparesUnlessRefused, OwnResetsTurn}
use Rattle.dcsctp_spec_lemmas.specs.spec.queues.Acknowledging.{ends_delivery, lifecycle_events_of, delivered_events}
use Rattle.dcsctp_spec_lemmas.specs.spec.queues.Items.{Item}
use Rattle.dcsctp_spec_lemmas.specs.spec.queues.Outstanding.{acknowledged_count}
use Rattle.dcsctp_spec_lemmas.specs.spec.queues.Retransmission.{has_fast_retransmit}
use Rattle.dcsctp_spec_lemmas.specs.spec.endpoint.DataOutcomes.{HandlesPayload, with_transfer, endpoint_with_tracker, flush_to_peer, AnswersTo, FlushTurn, no_user_data_outcome, ReceiveTurn, DataTurn, ForwardTurn, SendsLost, FastRetransmits, sack_taken, TakesSackAndFlushes, HandlesSackIfValid, HandlesSackIfConnected, SackTurn, acknowledging, AnswersPacketIfDue, AcknowledgesPacket, TakesFirstReady, TakeLeft, TakeTurn, delay_outcome, LossTurn}
use Rattle.dcsctp_spec_lemmas.specs.spec.queues.Acknowledging.{is_sack_valid}
use Rattle.dcsctp_theorem_sockets.proofs.Sizes.{AtLimit, IsShort, AllShort, TurnSizes, short_append, emits_sizes, flush_sizes}
use Rattle.dcsctp_theorem_sockets.proofs.SizesShutdown.{step_sizes}

-- ---- a flush by itself

-- an empty packet
draft_short : (limit : ℕ) (e : Endpoint) (held : Held) → AtLimit limit e → IsShort limit (draft_to held)
draft_short limit e held h = omega (arith, h.1)

to_sizes : (limit : ℕ) (e : Endpoint) (peer : Option Held) (answers : List Answer) → AnswersTo e peer answers → AtLimit limit e → TurnSizes limit (flush_to_peer e peer answers)
to_sizes limit e None answers allowed h = (h, tt)
to_sizes limit e (Some held) answers allowed h = flush_sizes limit e (draft_to held) answers allowed h (draft_short limit e held h)

pub flush_turn_sizes : (limit : ℕ) (e : Endpoint) (o : Outcome) → FlushTurn e o → AtLimit limit e → TurnSizes limit o
flush_turn_sizes limit e o turn h = subst (TurnSizes limit) (sym turn.2) (to_sizes limit e (held_by_core e.core) turn.0 turn.1 h)

-- ---- DATA and FORWARD-TSN

no_data_sizes : (limit : ℕ) (e : Endpoint) (peer : Option Held) (tsn : ℕ) → AtLimit limit e → TurnSizes limit (no_user_data_outcome e peer tsn)
no_data_sizes limit e None tsn h = (h, tt)
no_data_sizes limit e (Some held) tsn h = emits_sizes limit e [] (to_peer held (plain (error_of (no_user_data tsn ∷ [])))) h

receive_sizes : (limit : ℕ) (e : Endpoint) (transfer : Option Transfer) (arrived : Arrival) (o : Outcome) → ReceiveTurn e transfer arrived o → AtLimit limit e → TurnSizes limit o
receive_sizes limit e None arrived o turn h = subst (TurnSizes limit) (sym turn) (h, tt)
receive_sizes limit e (Some transfer) arrived o turn h = subst (TurnSizes limit) (sym turn.2) (h, tt)

data_where_sizes : (limit : ℕ) (e : Endpoint) (arrived : Arrival) (payload : List ℕ) (o : Outcome) → HandlesPayload e arrived payload o → AtLimit limit e → TurnSizes limit o
data_where_sizes limit e arrived [] o turn h = subst (TurnSizes limit) (sym turn) (no_data_sizes limit e (held_by_core e.core) arrived.tsn h)
data_where_sizes limit e arrived (byte ∷ bytes) o turn h = receive_sizes limit e e.queues.transfer arrived o turn h

pub data_sizes : (limit : ℕ) (e : Endpoint) (arrived : Arrival) (o : Outcome) → DataTurn e arrived o → AtLimit limit e → TurnSizes limit o
data_sizes limit e arrived o turn h = data_where_sizes limit e arrived arrived.chunk.payload o turn h

pub forward_sizes : (limit : ℕ) (e : Endpoint) (transfer : Option Transfer) (tsn : ℕ) (entries : List SkippedTo) (o : Outcome) → ForwardTurn e transfer tsn entries o → AtLimit limit e → TurnSizes limit o
forward_sizes limit e None tsn entries o turn h = subst (TurnSizes limit) (sym turn) (h, tt)
forward_sizes limit e (Some transfer) tsn entries o turn h = subst (TurnSizes limit) (sym turn.2) (h, tt)

-- ---- SACK

told_of_short : (limit : ℕ) (name : Option ℕ) (ends : Bool) → AllShort limit (lifecycle_events_of name ends)
told_of_short limit None ends = tt
told_of_short limit (Some id) true = tt
told_of_short limit (Some id) false = tt

delivered_short : (limit : ℕ) (items : List Item) → AllShort limit (delivered_events items)
delivered_short limit [] = tt
delivered_short limit (item ∷ items) =
    short_append limit (lifecycle_events_of item.fragment.lifecycle (ends_delivery item)) (delivered_events items) (told_of_short limit item.fragment.lifecycle (ends_delivery item)) (delivered_short limit items)

-- a packet, unless it is empty
out_sizes : (limit : ℕ) (e : Endpoint) (with_checksum : Bool) (tag : ℕ) (contents : List Content) → AtLimit limit e → 12 + contents_len contents ≤ limit
    → TurnSizes limit (goes_out e [] with_checksum tag contents)
out_sizes limit e with_checksum tag [] h short = (h, tt)
out_sizes limit e with_checksum tag (content ∷ contents) h short = (h, (short, tt))

at_once_sizes : (limit : ℕ) (e : Endpoint) (held : Held) (transfer : Transfer) (o : Outcome) → SendsLost e held transfer o → AtLimit limit e → TurnSizes limit o
at_once_sizes limit e held transfer o turn h =
    let within : 12 + contents_len (plain_contents turn.chunks) ≤ packet_size_limit e.options = turn.within (omega (arith, h.0, h.1)) in
    subst (TurnSizes limit) (sym turn.is)
    (out_sizes limit (with_transfer e (record transfer { retransmission = turn.left })) (draft_to held).with_checksum held.peer.tag (plain_contents turn.chunks) h (omega (arith, within, h.0)))

fast_sizes : (b : Bool) (limit : ℕ) (e : Endpoint) (held : Held) (transfer : Transfer) (o : Outcome) → FastRetransmits b e held transfer o → AtLimit limit e → TurnSizes limit o
fast_sizes false limit e held transfer o turn h = subst (TurnSizes limit) (sym turn) (h, tt)
fast_sizes true limit e held transfer o turn h = at_once_sizes limit e held transfer o turn h

pub acknowledges_sizes : (limit : ℕ) (e : Endpoint) (held : Held) (transfer : Transfer) (sack : SackContent) (o : Outcome) → TakesSackAndFlushes e held transfer sack o → AtLimit limit e → TurnSizes limit o
acknowledges_sizes limit e held transfer sack o turn h =
    let step : TurnSizes limit turn.stepped = subst (TurnSizes limit) (sym turn.steps) (step_sizes limit (sack_taken e transfer turn.left) e.core h) in
    let fast : TurnSizes limit turn.fast = fast_sizes (has_fast_retransmit turn.left.retransmission) limit turn.stepped.after held turn.left turn.fast turn.resends step.0 in
    let flushed : TurnSizes limit (flush_of turn.fast.after (draft_to held) turn.answers) =
    flush_sizes limit turn.fast.after (draft_to held) turn.answers turn.allowed fast.0 (draft_short limit turn.fast.after held fast.0) in
    let acknowledged : List Item = take (acknowledged_count transfer.retransmission.outstanding sack.cumulative_tsn_ack) transfer.retransmission.outstanding.items in
    subst (TurnSizes limit) (sym turn.is) (
      flushed.0,
      short_append limit (delivered_events acknowledged ++ (turn.stepped.events ++ turn.fast.events)) (flush_of turn.fast.after (draft_to held) turn.answers).events
          (short_append limit (delivered_events acknowledged) (turn.stepped.events ++ turn.fast.events) (delivered_short limit acknowledged)
          (short_append limit turn.stepped.events turn.fast.events step.1 fast.1)) flushed.1,
    )

sack_where_sizes : (b : Bool) (limit : ℕ) (e : Endpoint) (held : Held) (transfer : Transfer) (sack : SackContent) (o : Outcome) → HandlesSackIfValid b e held transfer sack o → AtLimit limit e → TurnSizes limit o
sack_where_sizes false limit e held transfer sack o turn h = subst (TurnSizes limit) (sym turn) (h, tt)
sack_where_sizes true limit e held transfer sack o turn h = acknowledges_sizes limit e held transfer sack o turn h

sack_by_sizes : (limit : ℕ) (e : Endpoint) (peer : Option Held) (transfer : Transfer) (sack : SackContent) (o : Outcome) → HandlesSackIfConnected e peer transfer sack o → AtLimit limit e → TurnSizes limit o
sack_by_sizes limit e None transfer sack o turn h = subst (TurnSizes limit) (sym turn) (h, tt)
sack_by_sizes limit e (Some held) transfer sack o turn h = sack_where_sizes (is_sack_valid transfer.retransmission sack.cumulative_tsn_ack) limit e held transfer sack o turn h

pub sack_sizes : (limit : ℕ) (e : Endpoint) (transfer : Option Transfer) (sack : SackContent) (o : Outcome) → SackTurn e transfer sack o → AtLimit limit e → TurnSizes limit o
sack_sizes limit e None sack o turn h = subst (TurnSizes limit) (sym turn) (h, tt)
sack_sizes limit e (Some transfer) sack o turn h = sack_by_sizes limit e (held_by_core e.core) transfer sack o turn h

-- ---- the end of a packet

-- the chunk, if it fits
taken_len : (b : Bool) (room : ℕ) (chunk : Plain) → nat_le (length (chunk_bytes (plain_out chunk))) room ≡ b → contents_len (plain_contents (cond b (chunk ∷ []) [])) ≤ room
taken_len true room chunk is =
    let small : length (chunk_bytes (plain_out chunk)) ≤ room = grind (arith, nat_tests, is) in
    let one = length-append (chunk_bytes (plain_out chunk)) [] in
    omega (arith, small, one)
taken_len false room chunk is = omega arith

acknowledging_short : (limit : ℕ) (e : Endpoint) (held : Held) (sack : Plain) → AtLimit limit e → IsShort limit (acknowledging e held sack)
acknowledging_short limit e held sack h =
    let room : ℕ = room_of_draft e (draft_to held) in
    let len = taken_len (nat_le (length (chunk_bytes (plain_out sack))) room) room sack refl in
    omega (arith, len, h.0, h.1)

end_where_sizes : (b : Bool) (limit : ℕ) (e : Endpoint) (peer : Option Held) (transfer : Transfer) (tracker : TrackerState) (o : Outcome) → AnswersPacketIfDue b e peer transfer tracker o → AtLimit limit e → TurnSizes limit o
end_where_sizes true limit e (Some held) transfer tracker o turn h =
    let sack : Plain = own_sack (room_of_draft e (draft_to held)) (record transfer { tracker = tracker }) in
    subst (TurnSizes limit) (sym turn.is)
    (flush_sizes limit (endpoint_with_tracker e transfer (tracker_after_sack tracker)) (acknowledging e held sack) turn.answers turn.allowed h (acknowledging_short limit e held sack h))
end_where_sizes true limit e None transfer tracker o turn h = subst (TurnSizes limit) (sym turn) (h, tt)
end_where_sizes false limit e peer transfer tracker o turn h = subst (TurnSizes limit) (sym turn) (h, tt)

pub end_sizes : (limit : ℕ) (e : Endpoint) (transfer : Option Transfer) (o : Outcome) → AcknowledgesPacket e transfer o → AtLimit limit e → TurnSizes limit o
end_sizes limit e None o turn h = subst (TurnSizes limit) (sym turn) (h, tt)
end_sizes limit e (Some transfer) o turn h =
    let tracker = after_packet_end e.moment transfer.tracker in end_where_sizes (is_acknowledgement_due tracker) limit e (held_by_core e.core) transfer tracker o turn h

-- ---- what the user takes and sends

take_where_sizes : (limit : ℕ) (e : Endpoint) (transfer : Transfer) (messages : List MessageContent) (o : Outcome) → TakesFirstReady e transfer messages o → AtLimit limit e → TurnSizes limit o
take_where_sizes limit e transfer [] o turn h = subst (TurnSizes limit) (sym turn) (h, tt)
take_where_sizes limit e transfer (message ∷ messages) o turn h = subst (TurnSizes limit) (sym turn) (h, tt)

take_left_sizes : (limit : ℕ) (e : Endpoint) (messages : List MessageContent) (o : Outcome) → TakeLeft e messages o → AtLimit limit e → TurnSizes limit o
take_left_sizes limit e [] o turn h = subst (TurnSizes limit) (sym turn) (h, tt)
take_left_sizes limit e (message ∷ messages) o turn h = subst (TurnSizes limit) (sym turn) (h, tt)

pub take_sizes : (limit : ℕ) (e : Endpoint) (transfer : Option Transfer) (o : Outcome) → TakeTurn e transfer o → AtLimit limit e → TurnSizes limit o
take_sizes limit e None o turn h = take_left_sizes limit e e.left o turn h
take_sizes limit e (Some transfer) o turn h = take_where_sizes limit e transfer transfer.reassembly.incoming.ready o turn h

refusal_short : (limit : ℕ) (refusal : MessageRefusal) (lifecycle : Option ℕ) → AllShort limit (refusal_events refusal lifecycle)
refusal_short limit refusal None = tt
refusal_short limit refusal (Some id) = tt

queued_sizes : (limit : ℕ) (e : Endpoint) (message : Sending) (refusal : Option MessageRefusal) → AtLimit limit e → TurnSizes limit (queue_unless_refused e message refusal)
queued_sizes limit e message None h = (h, tt)
queued_sizes limit e message (Some refusal) h = (h, refusal_short limit refusal (lifecycle_name message))

queue_sizes : (limit : ℕ) (e : Endpoint) (messages : List Sending) → AtLimit limit e → TurnSizes limit (queue_all e messages)
queue_sizes limit e [] h = (h, tt)
queue_sizes limit e (message ∷ messages) h =
    let first : TurnSizes limit (queue_one e message) = queued_sizes limit e message (sending_refusal e message) h in
    let rest : TurnSizes limit (queue_all (queue_one e message).after messages) = queue_sizes limit (queue_one e message).after messages first.0 in
    (rest.0, short_append limit (queue_one e message).events (queue_all (queue_one e message).after messages).events first.1 rest.1)

send_where_sizes : (b : Bool) (limit : ℕ) (e : Endpoint) (answers : List Answer) → SendAnswers b e answers → AtLimit limit e → TurnSizes limit (flush_if_queued b e answers)
send_where_sizes false limit e answers allowed h = (h, tt)
send_where_sizes true limit e answers allowed h = to_sizes limit e (held_by_core e.core) answers allowed h

pub send_sizes : (limit : ℕ) (e : Endpoint) (messages : List Sending) (o : Outcome) → SendTurn e messages o → AtLimit limit e → TurnSizes limit o
send_sizes limit e messages o turn h =
    let queued : Outcome = queue_all e messages in
    let first : TurnSizes limit queued = queue_sizes limit e messages h in
    let rest : TurnSizes limit (flush_if_queued (takes_any e messages) queued.after turn.0) = send_where_sizes (takes_any e messages) limit queued.after turn.0 turn.1 first.0 in
    subst (TurnSizes limit) (sym turn.2) (rest.0, short_append limit queued.events (flush_if_queued (takes_any e messages) queued.after turn.0).events first.1 rest.1)

-- ---- our streams that the user resets

told_short : (limit : ℕ) (told : List FillingEvent) → AllShort limit (map filling_event told)
told_short limit [] = tt
told_short limit (amount_is_low stream ∷ told) = told_short limit told
told_short limit (total_amount_is_low ∷ told) = told_short limit told
told_short limit (message_is_sent id ∷ told) = told_short limit told
told_short limit (message_may_have_expired id ∷ told) = told_short limit told
told_short limit (message_has_expired id ∷ told) = told_short limit told
told_short limit (message_ends id ∷ told) = told_short limit told

resets_where_sizes : (refusal : Option ResetRefusal) (limit : ℕ) (e : Endpoint) (ids : List ℕ) (o : Outcome) → PreparesUnlessRefused refusal e ids o → AtLimit limit e → TurnSizes limit o
resets_where_sizes None limit e ids o turn h =
    let told = told_prepared ids e.queues.queue in
    let flushed : TurnSizes limit turn.flushed = flush_turn_sizes limit (endpoint_with_queue e (prepared_all ids e.queues.queue)) turn.flushed turn.flushes h in
    subst (TurnSizes limit) (sym turn.is) (flushed.0, short_append limit (prepare_all_events ids e.queues.queue) turn.flushed.events (subst (AllShort limit) (sym told.is) (told_short limit told.told)) flushed.1)
resets_where_sizes (Some refusal) limit e ids o turn h = subst (TurnSizes limit) (sym turn) (h, tt)

pub resets_sizes : (limit : ℕ) (e : Endpoint) (ids : List ℕ) (o : Outcome) → OwnResetsTurn e ids o → AtLimit limit e → TurnSizes limit o
resets_sizes limit e ids o turn h = resets_where_sizes (reset_refusal e) limit e ids o turn h

-- ---- timers

pub delay_sizes : (limit : ℕ) (e : Endpoint) (transfer : Option Transfer) → AtLimit limit e → TurnSizes limit (delay_outcome e transfer)
delay_sizes limit e None h = (h, tt)
delay_sizes limit e (Some transfer) h = (h, tt)

pub loss_sizes : (limit : ℕ) (e : Endpoint) (transfer : Option Transfer) (o : Outcome) → LossTurn e transfer o → AtLimit limit e → TurnSizes limit o
loss_sizes limit e None o turn h = subst (TurnSizes limit) (sym turn) (h, tt)
loss_sizes limit e (Some transfer) o turn h = subst (TurnSizes limit) (sym turn) (h, tt)
