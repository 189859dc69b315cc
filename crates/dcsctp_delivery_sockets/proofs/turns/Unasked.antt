-- The turns in which no RE-CONFIG is handled: no request of the peer is accepted or performed, and
-- what waits for one waits still.
use Rattle.std.proofs.Common.{◌≡◌, inl, ℕ, Bool, true, false, Option, None, Some, List, [], ◌∷◌, refl, sym, ◌∙◌, subst, ap}
use Rattle.dcsctp_spec_lemmas.specs.wire.Content.{SackContent, no_user_data}
use Rattle.dcsctp_spec_lemmas.specs.types.declared.arrivals.SkippedTo.{SkippedTo}
use Rattle.dcsctp_spec_lemmas.specs.types.declared.association.Held.{Held}
use Rattle.dcsctp_spec_lemmas.specs.spec.endpoint.Endpoint.{Endpoint, held_by_core}
use Rattle.dcsctp_spec_lemmas.specs.spec.endpoint.Outcome.{Outcome, still, to_peer}
use Rattle.dcsctp_spec_lemmas.specs.spec.Packet.{plain, error_of}
use Rattle.dcsctp_spec_lemmas.specs.spec.association.Choices.{plain_contents}
use Rattle.dcsctp_spec_lemmas.specs.spec.queues.Acknowledging.{is_sack_valid}
use Rattle.dcsctp_spec_lemmas.specs.spec.queues.Arrivals.{Arrival}
use Rattle.dcsctp_spec_lemmas.specs.types.queues.Messages.{MessageContent}
use Rattle.dcsctp_spec_lemmas.specs.spec.queues.OwnResets.{prepared_all}
use Rattle.dcsctp_spec_lemmas.specs.spec.queues.Reassembly.{ReassemblyState}
use Rattle.dcsctp_spec_lemmas.specs.spec.queues.Retransmission.{has_fast_retransmit}
use Rattle.dcsctp_spec_lemmas.specs.spec.queues.Tracker.{TrackerState, after_packet_end, is_acknowledgement_due, tracker_after_sack}
use Rattle.dcsctp_spec_lemmas.specs.spec.queues.Transfer.{Transfer, EndpointQueues}
use Rattle.dcsctp_spec_lemmas.specs.spec.endpoint.DataOutcomes.{with_transfer, endpoint_with_tracker, flush_to_peer, AnswersTo, FlushTurn, no_user_data_outcome, ReceiveTurn, HandlesPayload, ForwardTurn, FastRetransmits, sack_taken, TakesSackAndFlushes, HandlesSackIfValid, HandlesSackIfConnected, SackTurn, acknowledging, AnswersPacketIfDue, AcknowledgesPacket, opens_window, hastened_where_open, with_messages, taken_to, TakesFirstReady, TakeLeft, TakeTurn, delay_outcome, LossTurn}
use Rattle.dcsctp_spec_lemmas.specs.spec.endpoint.FlushOutcomes.{own_sack, Answer, draft_to, room_of_draft}
use Rattle.dcsctp_spec_lemmas.specs.spec.endpoint.MessageOutcomes.{MessageRefusal, Sending, sending_refusal, queue_unless_refused, queue_one, queue_all, takes_any, SendAnswers, flush_if_queued, SendTurn}
use Rattle.dcsctp_spec_lemmas.specs.spec.endpoint.PreparedResets.{ResetRefusal, reset_refusal, endpoint_with_queue, PreparesUnlessRefused, OwnResetsTurn}
use Rattle.dcsctp_delivery_directions.proofs.sending.Packets.{out_below}
use Rattle.dcsctp_delivery_sockets.specs.turns.PeerRequests.{SameWaits}
use Rattle.dcsctp_delivery_sockets.proofs.turns.Received.{timed_alike}
use Rattle.dcsctp_delivery_sockets.proofs.turns.Shutdown.{step_below, step_renewable}
use Rattle.dcsctp_delivery_sockets.proofs.turns.Waiting.{unasked_append, same_waits, waits_by, receives_wait, moves_wait, StillWaits, some_wait, all_wait, wait_then, stays_then, out_renewable, AsksNothing, as_this, rests, emitted, flushed}

-- ---- a flush by itself

to_asks : (e : Endpoint) (peer : Option Held) (answers : List Answer) → AnswersTo e peer answers → AsksNothing e.queues.transfer e.renewable (flush_to_peer e peer answers)
to_asks e None answers allowed = rests e
to_asks e (Some held) answers allowed = flushed e (draft_to held) answers allowed

pub flush_asks : (e : Endpoint) (o : Outcome) → FlushTurn e o → AsksNothing e.queues.transfer e.renewable o
flush_asks e o turn = as_this e.queues.transfer e.renewable o _ turn.2 (to_asks e (held_by_core e.core) turn.0 turn.1)

-- ---- data

-- this is below from here on
module _ (e : Endpoint) (transfer new : Transfer) (known : e.queues.transfer ≡ Some transfer) (waits : SameWaits transfer.reassembly.deferral new.reassembly.deferral) where
  turns_to : AsksNothing e.queues.transfer e.renewable (still (with_transfer e new))
  turns_to = record { none = tt; waits = some_wait e.queues.transfer transfer new known waits; renews = inl refl }

no_data_asks : (e : Endpoint) (peer : Option Held) (tsn : ℕ) → AsksNothing e.queues.transfer e.renewable (no_user_data_outcome e peer tsn)
no_data_asks e None tsn = record { none = tt; waits = all_wait e.queues.transfer; renews = inl refl }
no_data_asks e (Some held) tsn = (let sent = emitted e [] (to_peer held (plain (error_of (no_user_data tsn ∷ [])))) in record { none = sent.none; waits = sent.waits; renews = sent.renews })

receive_asks : (e : Endpoint) (transfer : Option Transfer) (arrival : Arrival) (o : Outcome) → e.queues.transfer ≡ transfer → ReceiveTurn e transfer arrival o → AsksNothing e.queues.transfer e.renewable o
receive_asks e None arrival o known turn = as_this e.queues.transfer e.renewable o _ turn (record { none = tt; waits = all_wait e.queues.transfer; renews = inl refl })
receive_asks e (Some transfer) arrival o known turn = as_this e.queues.transfer e.renewable o _ turn.2 (turns_to e transfer turn.0 known (receives_wait arrival transfer turn.0 turn.1))

pub data_asks : (e : Endpoint) (arrival : Arrival) (payload : List ℕ) (o : Outcome) → HandlesPayload e arrival payload o → AsksNothing e.queues.transfer e.renewable o
data_asks e arrival [] o turn = as_this e.queues.transfer e.renewable o _ turn (no_data_asks e (held_by_core e.core) arrival.tsn)
data_asks e arrival (byte ∷ bytes) o turn = receive_asks e e.queues.transfer arrival o refl turn

pub forward_asks : (e : Endpoint) (transfer : Option Transfer) (tsn : ℕ) (entries : List SkippedTo) (o : Outcome) → e.queues.transfer ≡ transfer → ForwardTurn e transfer tsn entries o → AsksNothing e.queues.transfer e.renewable o
forward_asks e None tsn entries o known turn = as_this e.queues.transfer e.renewable o _ turn (rests e)
forward_asks e (Some transfer) tsn entries o known turn = as_this e.queues.transfer e.renewable o _ turn.2 (turns_to e transfer turn.0 known (moves_wait tsn entries transfer turn.0 turn.1))

-- ---- SACK

fast_waits : (b : Bool) (e : Endpoint) (held : Held) (transfer : Transfer) (o : Outcome) → e.queues.transfer ≡ Some transfer → FastRetransmits b e held transfer o → StillWaits (Some transfer) o.after.queues.transfer
fast_waits false e held transfer o known turn =
    subst (λ (x : Outcome). StillWaits (Some transfer) x.after.queues.transfer) (sym turn) (subst (StillWaits (Some transfer)) (sym known) (all_wait (Some transfer)))
fast_waits true e held transfer o known turn =
    let base : Endpoint = with_transfer e (record transfer { retransmission = turn.left }) in
    subst (λ (x : Outcome). StillWaits (Some transfer) x.after.queues.transfer) (sym turn.is)
    (subst (λ (b : EndpointQueues). StillWaits (Some transfer) b.transfer) (sym (out_below base [] (draft_to held).with_checksum (draft_to held).packet.tag (plain_contents turn.chunks)))
    (some_wait (Some transfer) transfer (record transfer { retransmission = turn.left }) refl (same_waits transfer.reassembly.deferral)))

fast_renewable : (b : Bool) (e : Endpoint) (held : Held) (transfer : Transfer) (o : Outcome) → FastRetransmits b e held transfer o → o.after.renewable ≡ e.renewable
fast_renewable false e held transfer o turn = ap (λ (x : Outcome). x.after.renewable) turn
fast_renewable true e held transfer o turn =
    let base : Endpoint = with_transfer e (record transfer { retransmission = turn.left }) in
    ap (λ (x : Outcome). x.after.renewable) turn.is ∙ out_renewable base [] (draft_to held).with_checksum (draft_to held).packet.tag (plain_contents turn.chunks)

pub acknowledges_asks : (e : Endpoint) (held : Held) (transfer : Transfer) (sack : SackContent) (o : Outcome) → e.queues.transfer ≡ Some transfer → TakesSackAndFlushes e held transfer sack o → AsksNothing e.queues.transfer e.renewable o
acknowledges_asks e held transfer sack o known turn =
    let taken : Endpoint = sack_taken e transfer turn.left in
    let same : turn.stepped.after.queues ≡ taken.queues = ap (λ (x : Outcome). x.after.queues) turn.steps ∙ step_below taken e.core in
    let timed = timed_alike turn.takes.round_trip (record transfer { retransmission = turn.takes.left }) in
    let reassembly : turn.left.reassembly ≡ transfer.reassembly = ap (λ (t : Transfer). t.reassembly) turn.takes.is ∙ timed.reassembly in
    let first : StillWaits e.queues.transfer (Some turn.left) =
    some_wait e.queues.transfer transfer turn.left known (waits_by transfer.reassembly.deferral turn.left.reassembly.deferral (ap (λ (r : ReassemblyState). r.deferral) reassembly)) in
    let second : StillWaits (Some turn.left) turn.fast.after.queues.transfer =
    fast_waits (has_fast_retransmit turn.left.retransmission) turn.stepped.after held turn.left turn.fast (ap (λ (b : EndpointQueues). b.transfer) same) turn.resends in
    let last = flushed turn.fast.after (draft_to held) turn.answers turn.allowed in
    as_this e.queues.transfer e.renewable o _ turn.is
    (record {
      none = last.none;
      waits = wait_then e.queues.transfer turn.fast.after.queues.transfer _ (wait_then e.queues.transfer (Some turn.left) turn.fast.after.queues.transfer first second) last.waits;
      renews = stays_then e.renewable turn.fast.after.renewable _
          (inl (fast_renewable (has_fast_retransmit turn.left.retransmission) turn.stepped.after held turn.left turn.fast turn.resends ∙ ap (λ (x : Outcome). x.after.renewable) turn.steps ∙ step_renewable taken e.core)) last.renews;
    })

sack_where_asks : (b : Bool) (e : Endpoint) (held : Held) (transfer : Transfer) (sack : SackContent) (o : Outcome) → e.queues.transfer ≡ Some transfer → HandlesSackIfValid b e held transfer sack o → AsksNothing e.queues.transfer e.renewable o
sack_where_asks false e held transfer sack o known turn = as_this e.queues.transfer e.renewable o _ turn (rests e)
sack_where_asks true e held transfer sack o known turn = acknowledges_asks e held transfer sack o known turn

sack_by_asks : (e : Endpoint) (peer : Option Held) (transfer : Transfer) (sack : SackContent) (o : Outcome) → e.queues.transfer ≡ Some transfer → HandlesSackIfConnected e peer transfer sack o → AsksNothing e.queues.transfer e.renewable o
sack_by_asks e None transfer sack o known turn = as_this e.queues.transfer e.renewable o _ turn (rests e)
sack_by_asks e (Some held) transfer sack o known turn = sack_where_asks (is_sack_valid transfer.retransmission sack.cumulative_tsn_ack) e held transfer sack o known turn

pub sack_asks : (e : Endpoint) (transfer : Option Transfer) (sack : SackContent) (o : Outcome) → e.queues.transfer ≡ transfer → SackTurn e transfer sack o → AsksNothing e.queues.transfer e.renewable o
sack_asks e None sack o known turn = as_this e.queues.transfer e.renewable o _ turn (record { none = tt; waits = all_wait e.queues.transfer; renews = inl refl })
sack_asks e (Some transfer) sack o known turn = sack_by_asks e (held_by_core e.core) transfer sack o known turn

-- ---- the end of a packet, what the user takes, and the timers of both

end_where_asks : (b : Bool) (e : Endpoint) (peer : Option Held) (transfer : Transfer) (tracker : TrackerState) (o : Outcome) → e.queues.transfer ≡ Some transfer → AnswersPacketIfDue b e peer transfer tracker o → AsksNothing e.queues.transfer e.renewable o
end_where_asks true e (Some held) transfer tracker o known turn =
    let base : Endpoint = endpoint_with_tracker e transfer (tracker_after_sack tracker) in
    let last = flushed base (acknowledging e held (own_sack (room_of_draft e (draft_to held)) (record transfer { tracker = tracker }))) turn.answers turn.allowed in
    as_this e.queues.transfer e.renewable o _ turn.is
    (record {
      none = last.none;
      waits = wait_then e.queues.transfer base.queues.transfer _ (some_wait e.queues.transfer transfer (record transfer { tracker = tracker_after_sack tracker }) known (same_waits transfer.reassembly.deferral)) last.waits;
      renews = last.renews;
    })
end_where_asks true e None transfer tracker o known turn = as_this e.queues.transfer e.renewable o _ turn (turns_to e transfer (record transfer { tracker = tracker }) known (same_waits transfer.reassembly.deferral))
end_where_asks false e peer transfer tracker o known turn = as_this e.queues.transfer e.renewable o _ turn (turns_to e transfer (record transfer { tracker = tracker }) known (same_waits transfer.reassembly.deferral))

pub end_asks : (e : Endpoint) (transfer : Option Transfer) (o : Outcome) → e.queues.transfer ≡ transfer → AcknowledgesPacket e transfer o → AsksNothing e.queues.transfer e.renewable o
end_asks e None o known turn = as_this e.queues.transfer e.renewable o _ turn (rests e)
end_asks e (Some transfer) o known turn =
    let tracker = after_packet_end e.moment transfer.tracker in end_where_asks (is_acknowledgement_due tracker) e (held_by_core e.core) transfer tracker o known turn

-- An acknowledgement that is due leaves what waits.
told_waits : (b : Bool) (moment : ℕ) (transfer : Transfer) → SameWaits transfer.reassembly.deferral (hastened_where_open b moment transfer).reassembly.deferral
told_waits true moment transfer = same_waits transfer.reassembly.deferral
told_waits false moment transfer = same_waits transfer.reassembly.deferral

take_where_asks : (e : Endpoint) (transfer : Transfer) (messages : List MessageContent) (o : Outcome) → e.queues.transfer ≡ Some transfer → TakesFirstReady e transfer messages o → AsksNothing e.queues.transfer e.renewable o
take_where_asks e transfer [] o known turn = as_this e.queues.transfer e.renewable o _ turn (rests e)
take_where_asks e transfer (message ∷ messages) o known turn =
    let left : Transfer = with_messages messages transfer in
    as_this e.queues.transfer e.renewable o _ turn (turns_to e transfer (taken_to e.options e.moment messages transfer) known (told_waits (opens_window e.options transfer left) e.moment left))

take_left_asks : (e : Endpoint) (left : List MessageContent) (o : Outcome) → TakeLeft e left o → AsksNothing e.queues.transfer e.renewable o
take_left_asks e [] o turn = as_this e.queues.transfer e.renewable o _ turn (rests e)
take_left_asks e (message ∷ messages) o turn = as_this e.queues.transfer e.renewable o _ turn (record { none = tt; waits = all_wait e.queues.transfer; renews = inl refl })

pub take_asks : (e : Endpoint) (transfer : Option Transfer) (o : Outcome) → e.queues.transfer ≡ transfer → TakeTurn e transfer o → AsksNothing e.queues.transfer e.renewable o
take_asks e None o known turn = take_left_asks e e.left o turn
take_asks e (Some transfer) o known turn = take_where_asks e transfer transfer.reassembly.incoming.ready o known turn

pub delay_asks : (e : Endpoint) (transfer : Option Transfer) → e.queues.transfer ≡ transfer → AsksNothing e.queues.transfer e.renewable (delay_outcome e transfer)
delay_asks e None known = rests e
delay_asks e (Some transfer) known = turns_to e transfer _ known (same_waits transfer.reassembly.deferral)

pub loss_asks : (e : Endpoint) (transfer : Option Transfer) (o : Outcome) → e.queues.transfer ≡ transfer → LossTurn e transfer o → AsksNothing e.queues.transfer e.renewable o
loss_asks e None o known turn = as_this e.queues.transfer e.renewable o _ turn (rests e)
loss_asks e (Some transfer) o known turn =
    as_this e.queues.transfer e.renewable o _ turn (record { none = tt; waits = some_wait e.queues.transfer transfer _ known (same_waits transfer.reassembly.deferral); renews = inl refl })

-- ---- what the user sends and resets

queue_by_asks : (e : Endpoint) (sending : Sending) (refusal : Option MessageRefusal) → AsksNothing e.queues.transfer e.renewable (queue_unless_refused e sending refusal)
queue_by_asks e sending None = record { none = tt; waits = all_wait e.queues.transfer; renews = inl refl }
queue_by_asks e sending (Some refusal) = record { none = tt; waits = all_wait e.queues.transfer; renews = inl refl }

queue_all_asks : (e : Endpoint) (sendings : List Sending) → AsksNothing e.queues.transfer e.renewable (queue_all e sendings)
queue_all_asks e [] = rests e
queue_all_asks e (sending ∷ sendings) =
    let first : AsksNothing e.queues.transfer e.renewable (queue_one e sending) = queue_by_asks e sending (sending_refusal e sending) in
    let rest = queue_all_asks (queue_one e sending).after sendings in
    record {
      none = unasked_append (queue_one e sending).effects (queue_all (queue_one e sending).after sendings).effects first.none rest.none;
      waits = wait_then e.queues.transfer (queue_one e sending).after.queues.transfer _ first.waits rest.waits;
      renews = stays_then e.renewable (queue_one e sending).after.renewable _ first.renews rest.renews;
    }

send_by_asks : (b : Bool) (e : Endpoint) (answers : List Answer) → SendAnswers b e answers → AsksNothing e.queues.transfer e.renewable (flush_if_queued b e answers)
send_by_asks false e answers allowed = rests e
send_by_asks true e answers allowed = to_asks e (held_by_core e.core) answers allowed

pub send_asks : (e : Endpoint) (sendings : List Sending) (o : Outcome) → SendTurn e sendings o → AsksNothing e.queues.transfer e.renewable o
send_asks e sendings o turn =
    let all : Outcome = queue_all e sendings in
    let first = queue_all_asks e sendings in
    let last = send_by_asks (takes_any e sendings) all.after turn.0 turn.1 in
    as_this e.queues.transfer e.renewable o _ turn.2
    (record {
      none = unasked_append all.effects (flush_if_queued (takes_any e sendings) all.after turn.0).effects first.none last.none;
      waits = wait_then e.queues.transfer all.after.queues.transfer _ first.waits last.waits;
      renews = stays_then e.renewable all.after.renewable _ first.renews last.renews;
    })

resets_where_ask : (refusal : Option ResetRefusal) (e : Endpoint) (ids : List ℕ) (o : Outcome) → PreparesUnlessRefused refusal e ids o → AsksNothing e.queues.transfer e.renewable o
resets_where_ask None e ids o turn =
    let last = flush_asks (endpoint_with_queue e (prepared_all ids e.queues.queue)) turn.flushed turn.flushes in
    as_this e.queues.transfer e.renewable o _ turn.is (record { none = last.none; waits = last.waits; renews = last.renews })
resets_where_ask (Some refusal) e ids o turn = as_this e.queues.transfer e.renewable o _ turn (rests e)

pub own_resets_ask : (e : Endpoint) (ids : List ℕ) (o : Outcome) → OwnResetsTurn e ids o → AsksNothing e.queues.transfer e.renewable o
own_resets_ask e ids o turn = resets_where_ask (reset_refusal e) e ids o turn
