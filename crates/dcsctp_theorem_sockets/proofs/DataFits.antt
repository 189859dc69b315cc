-- The turns of data leave numbers that fit their fields, and send what is read as itself.
use Rattle.std.proofs.Common.{◌<◌, ◌^◌, ◌++◌, ℕ, Bool, true, false, cond, Option, None, Some, List, [], ◌∷◌, take, refl, sym, subst, arith}
use Rattle.dcsctp_spec_lemmas.specs.wire.Content.{SackContent, no_user_data}
use Rattle.dcsctp_spec_lemmas.specs.wire.Spelling.{parameters_len}
use Rattle.dcsctp_spec_lemmas.specs.types.declared.association.Held.{Held}
use Rattle.dcsctp_spec_lemmas.specs.types.declared.kinds.ErrorKind.TheVariants.{ProtocolViolation}
use Rattle.dcsctp_spec_lemmas.specs.spec.endpoint.Event.{error}
use Rattle.dcsctp_spec_lemmas.specs.spec.Packet.{Plain, plain, error_of, Content}
use Rattle.dcsctp_spec_lemmas.specs.spec.queues.Tracker.{TrackerState, after_packet_end, is_acknowledgement_due, tracker_after_sack, delay_over}
use Rattle.dcsctp_spec_lemmas.specs.spec.queues.Transfer.{EndpointQueues, Transfer}
use Rattle.dcsctp_spec_lemmas.specs.types.queues.Messages.{MessageContent}
use Rattle.dcsctp_spec_lemmas.specs.spec.endpoint.Endpoint.{Endpoint, held_by_core}
use Rattle.dcsctp_spec_lemmas.specs.spec.endpoint.Outcome.{Outcome, still, quiet, sends, behind, then_outcome, to_peer, fits as fits_mtu}
use Rattle.dcsctp_spec_lemmas.specs.spec.association.Choices.{plain_contents}
use Rattle.dcsctp_spec_lemmas.specs.spec.endpoint.FlushOutcomes.{own_sack, Answer, goes_out, draft_to, flush_of, room_of_draft}
use Rattle.dcsctp_spec_lemmas.specs.spec.queues.Acknowledging.{ends_delivery, lifecycle_events_of, delivered_events}
use Rattle.dcsctp_spec_lemmas.specs.spec.queues.Items.{Item}
use Rattle.dcsctp_spec_lemmas.specs.spec.queues.Outstanding.{acknowledged_count}
use Rattle.dcsctp_spec_lemmas.specs.spec.queues.Retransmission.{has_fast_retransmit}
use Rattle.dcsctp_spec_lemmas.specs.spec.queues.OwnResets.{prepared_all, prepare_all_events}
use Rattle.dcsctp_spec_lemmas.proofs.SendEventLemmas.{told_prepared}
use Rattle.dcsctp_spec_lemmas.specs.spec.endpoint.MessageOutcomes.{MessageRefusal, sending_refusal, lifecycle_name, refusal_events, Sending, queue_unless_refused, queue_one, queue_all, takes_any, SendAnswers, flush_if_queued, SendTurn}
use Rattle.dcsctp_spec_lemmas.specs.spec.endpoint.PreparedResets.{ResetRefusal, reset_refusal, endpoint_with_queue, PreparesResets, PreparesUnlessRefused, OwnResetsTurn}
use Rattle.dcsctp_spec_lemmas.specs.types.declared.arrivals.SkippedTo.{SkippedTo}
use Rattle.dcsctp_spec_lemmas.specs.spec.queues.Arrivals.{Arrival}
use Rattle.dcsctp_spec_lemmas.specs.spec.endpoint.DataOutcomes.{HandlesPayload, taken_to, TakesFirstReady, TakeLeft, TakeTurn, with_transfer, endpoint_with_tracker, flush_to_peer, AnswersTo, FlushTurn, no_user_data_text, no_user_data_outcome, ReceiveTurn, DataTurn, ForwardTurn, SendsLost, FastRetransmits, sack_taken, TakesSackAndFlushes, HandlesSackIfValid, HandlesSackIfConnected, SackTurn, acknowledging, AnswersPacket, AnswersPacketIfDue, AcknowledgesPacket, delay_outcome, LossTurn}
use Rattle.dcsctp_spec_lemmas.specs.spec.queues.Acknowledging.{is_sack_valid}
use Rattle.dcsctp_spec_runs.specs.Fitting.{AllSent, FitsHeld, FitsEndpoint, IsSendable, Sendable, TurnFits}
use Rattle.dcsctp_spec_runs.proofs.KindLemmas.{chunks_are_data}
use Rattle.dcsctp_spec_lemmas.proofs.FlushKeeps.{goes_out_keeps}
use Rattle.dcsctp_theorem_sockets.proofs.FlushFits.{kept_fits, still_fits, data_sendable, where_fits_sendable, own_sack_sendable, told_sends, goes_out_sends, draft_sendable, flush_fits, behind_fits}
use Rattle.dcsctp_theorem_sockets.proofs.Sent.{all_sent_append}
use Rattle.dcsctp_theorem_sockets.proofs.BegunSends.{FitsPeer, peer_fits}
use Rattle.dcsctp_theorem_sockets.proofs.ShutdownFits.{step_fits}

-- ---- turns that send nothing

-- What lies below is no part of it.
below_fits : (e : Endpoint) (below : EndpointQueues) → FitsEndpoint e → FitsEndpoint (record e { queues = below })
below_fits e below h = record { valid = h.valid; options = h.options; core = h.core; t1 = h.t1 }

transfer_fits : (e : Endpoint) (transfer : Transfer) → FitsEndpoint e → FitsEndpoint (with_transfer e transfer)
transfer_fits e transfer h = below_fits e (record e.queues { transfer = Some transfer }) h

moved_fits : (e : Endpoint) (transfer : Transfer) → FitsEndpoint e → TurnFits (still (with_transfer e transfer))
moved_fits e transfer h = still_fits (with_transfer e transfer) (transfer_fits e transfer h)

-- ---- a flush by itself

to_fits : (e : Endpoint) (peer : Option Held) (answers : List Answer) → FitsEndpoint e → FitsPeer peer → AnswersTo e peer answers → TurnFits (flush_to_peer e peer answers)
to_fits e None answers h fits allowed = still_fits e h
to_fits e (Some held) answers h fits allowed = flush_fits e (draft_to held) answers allowed h (draft_sendable held fits)

pub flush_turn_fits : (e : Endpoint) (o : Outcome) → FlushTurn e o → FitsEndpoint e → TurnFits o
flush_turn_fits e o turn h = subst TurnFits (sym turn.2) (to_fits e (held_by_core e.core) turn.0 h (peer_fits e.core h.core) turn.1)

-- ---- DATA and FORWARD-TSN

error_sendable : (tsn : ℕ) → tsn < 2 ^ 32 → Sendable (plain (error_of (no_user_data tsn ∷ [])))
unfolding parameters_len
error_sendable tsn fits = record { fits = record { len_fits = omega arith; causes_fit = (fits, tt) }; reads = refl; said = tt }

reported_fits : (b : Bool) (e : Endpoint) (held : Held) (tsn : ℕ) → FitsEndpoint e → FitsHeld held → tsn < 2 ^ 32
    → TurnFits (behind [] (error ProtocolViolation no_user_data_text ∷ []) (cond b (sends e [] [] (to_peer held (plain (error_of (no_user_data tsn ∷ []))))) (quiet e [] [])))
reported_fits true e held tsn h fits number =
    record {
      after = record { valid = h.valid; options = h.options; core = h.core; t1 = h.t1 };
      sends = (tt, (record { tag = fits.peer.tag; contents = (error_sendable tsn number, tt) }, tt));
    }
reported_fits false e held tsn h fits number = record { after = h; sends = (tt, tt) }

no_data_fits : (e : Endpoint) (peer : Option Held) (tsn : ℕ) → FitsEndpoint e → FitsPeer peer → tsn < 2 ^ 32 → TurnFits (no_user_data_outcome e peer tsn)
no_data_fits e None tsn h fits number = record { after = h; sends = (tt, tt) }
no_data_fits e (Some held) tsn h fits number = reported_fits (fits_mtu e (to_peer held (plain (error_of (no_user_data tsn ∷ []))))) e held tsn h fits number

receive_fits : (e : Endpoint) (transfer : Option Transfer) (arrived : Arrival) (o : Outcome) → ReceiveTurn e transfer arrived o → FitsEndpoint e → TurnFits o
receive_fits e None arrived o turn h = subst TurnFits (sym turn) (record { after = h; sends = (tt, tt) })
receive_fits e (Some transfer) arrived o turn h = subst TurnFits (sym turn.2) (moved_fits e turn.0 h)

data_where_fits : (e : Endpoint) (arrived : Arrival) (payload : List ℕ) (o : Outcome) → HandlesPayload e arrived payload o → FitsEndpoint e → arrived.tsn < 2 ^ 32 → TurnFits o
data_where_fits e arrived [] o turn h number = subst TurnFits (sym turn) (no_data_fits e (held_by_core e.core) arrived.tsn h (peer_fits e.core h.core) number)
data_where_fits e arrived (byte ∷ bytes) o turn h number = receive_fits e e.queues.transfer arrived o turn h

pub data_fits : (e : Endpoint) (arrived : Arrival) (o : Outcome) → DataTurn e arrived o → FitsEndpoint e → arrived.tsn < 2 ^ 32 → TurnFits o
data_fits e arrived o turn h number = data_where_fits e arrived arrived.chunk.payload o turn h number

pub forward_fits : (e : Endpoint) (transfer : Option Transfer) (tsn : ℕ) (entries : List SkippedTo) (o : Outcome) → ForwardTurn e transfer tsn entries o → FitsEndpoint e → TurnFits o
forward_fits e None tsn entries o turn h = subst TurnFits (sym turn) (still_fits e h)
forward_fits e (Some transfer) tsn entries o turn h = subst TurnFits (sym turn.2) (moved_fits e turn.0 h)

-- ---- SACK

told_send_nothing : (name : Option ℕ) (ends : Bool) → AllSent IsSendable (lifecycle_events_of name ends)
told_send_nothing None ends = tt
told_send_nothing (Some id) true = (tt, (tt, tt))
told_send_nothing (Some id) false = tt

delivered_send_nothing : (items : List Item) → AllSent IsSendable (delivered_events items)
delivered_send_nothing [] = tt
delivered_send_nothing (item ∷ items) =
    all_sent_append IsSendable (lifecycle_events_of item.fragment.lifecycle (ends_delivery item)) (delivered_events items) (told_send_nothing item.fragment.lifecycle (ends_delivery item)) (delivered_send_nothing items)

-- The packet of lost items holds data alone.
at_once_fits : (e : Endpoint) (held : Held) (transfer : Transfer) (o : Outcome) → SendsLost e held transfer o → FitsEndpoint e → FitsHeld held → TurnFits o
at_once_fits e held transfer o turn h fits =
    let left : Transfer = record transfer { retransmission = turn.left } in
    let base : Endpoint = with_transfer e left in
    let with_checksum : Bool = (draft_to held).with_checksum in
    let contents : List Content = plain_contents turn.chunks in
    subst TurnFits (sym turn.is)
    (record {
      after = kept_fits None base (goes_out base [] with_checksum held.peer.tag contents) (goes_out_keeps base [] with_checksum held.peer.tag contents) (transfer_fits e left h);
      sends = goes_out_sends base [] with_checksum held.peer.tag contents tt fits.peer.tag
          (data_sendable turn.left.outstanding.is_interleaved turn.chunks (chunks_are_data turn.left.outstanding turn.tsns turn.chunks turn.are) turn.fit);
    })

fast_fits : (b : Bool) (e : Endpoint) (held : Held) (transfer : Transfer) (o : Outcome) → FastRetransmits b e held transfer o → FitsEndpoint e → FitsHeld held → TurnFits o
fast_fits false e held transfer o turn h fits = subst TurnFits (sym turn) (still_fits e h)
fast_fits true e held transfer o turn h fits = at_once_fits e held transfer o turn h fits

taken_fits : (e : Endpoint) (old new : Transfer) → FitsEndpoint e → FitsEndpoint (sack_taken e old new)
taken_fits e old new h = record { valid = h.valid; options = h.options; core = h.core; t1 = h.t1 }

pub acknowledges_fits : (e : Endpoint) (held : Held) (transfer : Transfer) (sack : SackContent) (o : Outcome) → TakesSackAndFlushes e held transfer sack o → FitsEndpoint e → FitsHeld held → TurnFits o
acknowledges_fits e held transfer sack o turn h fits =
    let step : TurnFits turn.stepped = subst TurnFits (sym turn.steps) (step_fits (sack_taken e transfer turn.left) e.core (taken_fits e transfer turn.left h) h.core) in
    let fast : TurnFits turn.fast = fast_fits (has_fast_retransmit turn.left.retransmission) turn.stepped.after held turn.left turn.fast turn.resends step.after fits in
    let acknowledged : List Item = take (acknowledged_count transfer.retransmission.outstanding sack.cumulative_tsn_ack) transfer.retransmission.outstanding.items in
    subst TurnFits (sym turn.is)
    (behind_fits [] (delivered_events acknowledged ++ (turn.stepped.events ++ turn.fast.events)) (flush_of turn.fast.after (draft_to held) turn.answers)
    (all_sent_append IsSendable (delivered_events acknowledged) (turn.stepped.events ++ turn.fast.events) (delivered_send_nothing acknowledged)
    (all_sent_append IsSendable turn.stepped.events turn.fast.events step.sends fast.sends))
    (flush_fits turn.fast.after (draft_to held) turn.answers turn.allowed fast.after (draft_sendable held fits)))

sack_where_fits : (b : Bool) (e : Endpoint) (held : Held) (transfer : Transfer) (sack : SackContent) (o : Outcome) → HandlesSackIfValid b e held transfer sack o → FitsEndpoint e → FitsHeld held → TurnFits o
sack_where_fits false e held transfer sack o turn h fits = subst TurnFits (sym turn) (still_fits e h)
sack_where_fits true e held transfer sack o turn h fits = acknowledges_fits e held transfer sack o turn h fits

sack_by_fits : (e : Endpoint) (peer : Option Held) (transfer : Transfer) (sack : SackContent) (o : Outcome) → HandlesSackIfConnected e peer transfer sack o → FitsEndpoint e → FitsPeer peer → TurnFits o
sack_by_fits e None transfer sack o turn h fits = subst TurnFits (sym turn) (still_fits e h)
sack_by_fits e (Some held) transfer sack o turn h fits = sack_where_fits (is_sack_valid transfer.retransmission sack.cumulative_tsn_ack) e held transfer sack o turn h fits

pub sack_fits : (e : Endpoint) (transfer : Option Transfer) (sack : SackContent) (o : Outcome) → SackTurn e transfer sack o → FitsEndpoint e → TurnFits o
sack_fits e None sack o turn h = subst TurnFits (sym turn) (record { after = h; sends = (tt, tt) })
sack_fits e (Some transfer) sack o turn h = sack_by_fits e (held_by_core e.core) transfer sack o turn h (peer_fits e.core h.core)

-- ---- the end of a packet

answers_fit : (e : Endpoint) (held : Held) (transfer : Transfer) (tracker : TrackerState) (o : Outcome) → AnswersPacket e held transfer tracker o → FitsEndpoint e → FitsHeld held → TurnFits o
answers_fit e held transfer tracker o turn h fits =
    let sack : Plain = own_sack (room_of_draft e (draft_to held)) (record transfer { tracker = tracker }) in
    subst TurnFits (sym turn.is)
    (flush_fits (endpoint_with_tracker e transfer (tracker_after_sack tracker)) (acknowledging e held sack) turn.answers turn.allowed
    (transfer_fits e (record transfer { tracker = tracker_after_sack tracker }) h)
    (record { tag = fits.peer.tag; contents = where_fits_sendable (room_of_draft e (draft_to held)) sack (own_sack_sendable (room_of_draft e (draft_to held)) (record transfer { tracker = tracker })) }))

end_where_fits : (b : Bool) (e : Endpoint) (peer : Option Held) (transfer : Transfer) (tracker : TrackerState) (o : Outcome) → AnswersPacketIfDue b e peer transfer tracker o → FitsEndpoint e → FitsPeer peer → TurnFits o
end_where_fits true e (Some held) transfer tracker o turn h fits = answers_fit e held transfer tracker o turn h fits
end_where_fits true e None transfer tracker o turn h fits = subst TurnFits (sym turn) (moved_fits e (record transfer { tracker = tracker }) h)
end_where_fits false e peer transfer tracker o turn h fits = subst TurnFits (sym turn) (moved_fits e (record transfer { tracker = tracker }) h)

pub end_fits : (e : Endpoint) (transfer : Option Transfer) (o : Outcome) → AcknowledgesPacket e transfer o → FitsEndpoint e → TurnFits o
end_fits e None o turn h = subst TurnFits (sym turn) (still_fits e h)
end_fits e (Some transfer) o turn h =
    let tracker = after_packet_end e.moment transfer.tracker in end_where_fits (is_acknowledgement_due tracker) e (held_by_core e.core) transfer tracker o turn h (peer_fits e.core h.core)

-- ---- what the user takes and sends

take_where_fits : (e : Endpoint) (transfer : Transfer) (messages : List MessageContent) (o : Outcome) → TakesFirstReady e transfer messages o → FitsEndpoint e → TurnFits o
take_where_fits e transfer [] o turn h = subst TurnFits (sym turn) (still_fits e h)
take_where_fits e transfer (message ∷ messages) o turn h = subst TurnFits (sym turn) (moved_fits e (taken_to e.options e.moment messages transfer) h)

left_fits : (e : Endpoint) (left : List MessageContent) → FitsEndpoint e → FitsEndpoint (record e { left = left })
left_fits e left h = record { valid = h.valid; options = h.options; core = h.core; t1 = h.t1 }

take_left_fits : (e : Endpoint) (messages : List MessageContent) (o : Outcome) → TakeLeft e messages o → FitsEndpoint e → TurnFits o
take_left_fits e [] o turn h = subst TurnFits (sym turn) (still_fits e h)
take_left_fits e (message ∷ messages) o turn h = subst TurnFits (sym turn) (still_fits (record e { left = messages }) (left_fits e messages h))

pub take_fits : (e : Endpoint) (transfer : Option Transfer) (o : Outcome) → TakeTurn e transfer o → FitsEndpoint e → TurnFits o
take_fits e None o turn h = take_left_fits e e.left o turn h
take_fits e (Some transfer) o turn h = take_where_fits e transfer transfer.reassembly.incoming.ready o turn h

refused_sends_nothing : (refusal : MessageRefusal) (lifecycle : Option ℕ) → AllSent IsSendable (refusal_events refusal lifecycle)
refused_sends_nothing refusal None = (tt, tt)
refused_sends_nothing refusal (Some id) = (tt, (tt, tt))

queued_fits : (e : Endpoint) (message : Sending) (refusal : Option MessageRefusal) → FitsEndpoint e → TurnFits (queue_unless_refused e message refusal)
queued_fits e message None h = record { after = record { valid = h.valid; options = h.options; core = h.core; t1 = h.t1 }; sends = tt }
queued_fits e message (Some refusal) h = record { after = h; sends = refused_sends_nothing refusal (lifecycle_name message) }

then_fits : (first second : Outcome) → TurnFits first → TurnFits second → TurnFits (then_outcome first second)
then_fits first second h k = record { after = k.after; sends = all_sent_append IsSendable first.events second.events h.sends k.sends }

all_queued_fit : (e : Endpoint) (messages : List Sending) → FitsEndpoint e → TurnFits (queue_all e messages)
all_queued_fit e [] h = still_fits e h
all_queued_fit e (message ∷ messages) h =
    let one : Outcome = queue_one e message in
    let first : TurnFits one = queued_fits e message (sending_refusal e message) h in
    then_fits one (queue_all one.after messages) first (all_queued_fit one.after messages first.after)

send_where_fits : (b : Bool) (e : Endpoint) (answers : List Answer) → SendAnswers b e answers → FitsEndpoint e → TurnFits (flush_if_queued b e answers)
send_where_fits false e answers allowed h = still_fits e h
send_where_fits true e answers allowed h = to_fits e (held_by_core e.core) answers h (peer_fits e.core h.core) allowed

pub send_fits : (e : Endpoint) (messages : List Sending) (o : Outcome) → SendTurn e messages o → FitsEndpoint e → TurnFits o
send_fits e messages o turn h =
    let queued : Outcome = queue_all e messages in
    let all : TurnFits queued = all_queued_fit e messages h in
    subst TurnFits (sym turn.2)
    (then_fits queued (flush_if_queued (takes_any e messages) queued.after turn.0) all (send_where_fits (takes_any e messages) queued.after turn.0 turn.1 all.after))

-- ---- our streams that the user resets

prepares_fits : (e : Endpoint) (ids : List ℕ) (o : Outcome) → PreparesResets e ids o → FitsEndpoint e → TurnFits o
prepares_fits e ids o turn h =
    let base : Endpoint = endpoint_with_queue e (prepared_all ids e.queues.queue) in
    let told = told_prepared ids e.queues.queue in
    subst TurnFits (sym turn.is)
    (behind_fits [] (prepare_all_events ids e.queues.queue) turn.flushed (subst (AllSent IsSendable) (sym told.is) (told_sends told.told))
    (flush_turn_fits base turn.flushed turn.flushes (below_fits e base.queues h)))

resets_where_fits : (refusal : Option ResetRefusal) (e : Endpoint) (ids : List ℕ) (o : Outcome) → PreparesUnlessRefused refusal e ids o → FitsEndpoint e → TurnFits o
resets_where_fits None e ids o turn h = prepares_fits e ids o turn h
resets_where_fits (Some refusal) e ids o turn h = subst TurnFits (sym turn) (still_fits e h)

pub resets_fits : (e : Endpoint) (ids : List ℕ) (o : Outcome) → OwnResetsTurn e ids o → FitsEndpoint e → TurnFits o
resets_fits e ids o turn h = resets_where_fits (reset_refusal e) e ids o turn h

-- ---- timers

pub delay_fits : (e : Endpoint) (transfer : Option Transfer) → FitsEndpoint e → TurnFits (delay_outcome e transfer)
delay_fits e None h = still_fits e h
delay_fits e (Some transfer) h = moved_fits e (record transfer { tracker = delay_over transfer.tracker }) h

pub loss_fits : (e : Endpoint) (transfer : Option Transfer) (o : Outcome) → LossTurn e transfer o → FitsEndpoint e → TurnFits o
loss_fits e None o turn h = subst TurnFits (sym turn) (still_fits e h)
loss_fits e (Some transfer) o turn h = subst TurnFits (sym turn) (record { after = record { valid = h.valid; options = h.options; core = h.core; t1 = h.t1 }; sends = tt })
