-- How many packets the turns of data send: after a SACK, at the end of a packet, and when the user
-- sends or resets.
use Rattle.std.proofs.Common.{◌≡◌, ◌≤◌, ◌+◌, ℕ, Bool, true, false, Option, None, Some, List, [], ◌∷◌, ◌++◌, map, length, refl, sym, subst, ap, ◌∙◌, append-nil, take, fold, arith}
use Rattle.std.proofs.lemmas.Bool.Decides.{nat_tests}
use Rattle.dcsctp_spec_lemmas.specs.wire.Content.{SackContent, no_user_data}
use Rattle.dcsctp_spec_lemmas.specs.types.declared.association.Held.{Held}
use Rattle.dcsctp_spec_lemmas.specs.types.declared.arrivals.SkippedTo.{SkippedTo}
use Rattle.dcsctp_spec_lemmas.specs.types.declared.progress.ItemState.{ItemState}
use Rattle.dcsctp_spec_lemmas.specs.types.declared.progress.ItemState.TheVariants.{InFlight, Marked, Acknowledged, Abandoned}
use Rattle.dcsctp_spec_lemmas.specs.spec.endpoint.Event.{Event}
use Rattle.dcsctp_spec_lemmas.specs.spec.Packet.{plain, error_of, Content, Emission}
use Rattle.dcsctp_spec_lemmas.specs.spec.endpoint.Endpoint.{Endpoint, Core, held_by_core}
use Rattle.dcsctp_spec_lemmas.specs.spec.endpoint.Outcome.{Outcome, to_peer}
use Rattle.dcsctp_spec_lemmas.specs.spec.association.Choices.{plain_contents}
use Rattle.dcsctp_spec_lemmas.specs.spec.queues.Acknowledging.{is_sack_valid, ends_delivery, lifecycle_events_of, delivered_events, delivered_up_to}
use Rattle.dcsctp_spec_lemmas.specs.spec.queues.Arrivals.{Arrival}
use Rattle.dcsctp_spec_lemmas.specs.spec.queues.Items.{Item, number_or_zero, marked_count, unacknowledged_count, marked_items, unacknowledged_items}
use Rattle.dcsctp_spec_lemmas.specs.types.queues.Progress.{is_marked, is_unacknowledged}
use Rattle.dcsctp_spec_lemmas.specs.types.queues.Messages.{MessageContent}
use Rattle.dcsctp_spec_lemmas.specs.spec.queues.Outstanding.{acknowledged_count}
use Rattle.dcsctp_spec_lemmas.specs.spec.queues.OwnResets.{prepared_all, prepare_all_events}
use Rattle.dcsctp_spec_lemmas.specs.spec.queues.Retransmission.{has_fast_retransmit}
use Rattle.dcsctp_spec_lemmas.specs.spec.queues.Tracker.{TrackerState, after_packet_end, is_acknowledgement_due}
use Rattle.dcsctp_spec_lemmas.specs.spec.queues.Transfer.{Transfer}
use Rattle.dcsctp_spec_lemmas.specs.spec.endpoint.DataOutcomes.{HandlesPayload, with_transfer, flush_to_peer, AnswersTo, FlushTurn, no_user_data_outcome, ReceiveTurn, DataTurn, ForwardTurn, FastRetransmits, sack_taken, TakesSackAndFlushes, HandlesSackIfValid, HandlesSackIfConnected, SackTurn, AnswersPacketIfDue, AcknowledgesPacket, TakesFirstReady, TakeLeft, TakeTurn, delay_outcome, LossTurn}
use Rattle.dcsctp_spec_lemmas.specs.spec.endpoint.FlushOutcomes.{Answer, filling_event, goes_out, draft_to, flush_of}
use Rattle.dcsctp_spec_lemmas.specs.spec.endpoint.MessageOutcomes.{MessageRefusal, refusal_events, Sending, sending_refusal, lifecycle_name, queue_unless_refused, queue_one, queue_all, takes_any, SendAnswers, flush_if_queued, SendTurn}
use Rattle.dcsctp_spec_lemmas.specs.spec.endpoint.PreparedResets.{ResetRefusal, reset_refusal, endpoint_with_queue, PreparesUnlessRefused, OwnResetsTurn}
use Rattle.dcsctp_spec_lemmas.specs.spec.endpoint.ShutdownOutcomes.{is_all_acknowledged, step_outcome}
use Rattle.dcsctp_spec_lemmas.proofs.SendEventLemmas.{told_prepared}
use Rattle.dcsctp_theorem_sockets.proofs.Bursts.{count, append_few, none_in_front, Few, none, one, emits_few, told_none, HasPeer, held_is_peer, allowed_after, IsBurst, flush_is_burst}
use Rattle.dcsctp_theorem_sockets.proofs.BurstShutdown.{step_few, step_waits, step_peer}

-- ---- a flush by itself

to_is_burst : (e : Endpoint) (peer : Option Held) (answers : List Answer) → held_by_core e.core ≡ peer → AnswersTo e peer answers → IsBurst (flush_to_peer e peer answers)
to_is_burst e None answers is allowed = omega arith
to_is_burst e (Some held) answers is allowed = flush_is_burst e (draft_to held) answers (held_is_peer e.core held is) allowed

pub flush_turn_is_burst : (e : Endpoint) (o : Outcome) → FlushTurn e o → IsBurst o
flush_turn_is_burst e o turn = subst IsBurst (sym turn.2) (to_is_burst e (held_by_core e.core) turn.0 refl turn.1)

-- ---- DATA and FORWARD-TSN

no_data_few : (e : Endpoint) (peer : Option Held) (tsn : ℕ) → Few 1 (no_user_data_outcome e peer tsn)
no_data_few e None tsn = none 1
no_data_few e (Some held) tsn = emits_few e [] (to_peer held (plain (error_of (no_user_data tsn ∷ []))))

receive_few : (e : Endpoint) (transfer : Option Transfer) (arrived : Arrival) (o : Outcome) → ReceiveTurn e transfer arrived o → Few 1 o
receive_few e None arrived o turn = subst (Few 1) (sym turn) (none 1)
receive_few e (Some transfer) arrived o turn = subst (Few 1) (sym turn.2) (none 1)

data_where_few : (e : Endpoint) (arrived : Arrival) (payload : List ℕ) (o : Outcome) → HandlesPayload e arrived payload o → Few 1 o
data_where_few e arrived [] o turn = subst (Few 1) (sym turn) (no_data_few e (held_by_core e.core) arrived.tsn)
data_where_few e arrived (byte ∷ bytes) o turn = receive_few e e.queues.transfer arrived o turn

pub data_few : (e : Endpoint) (arrived : Arrival) (o : Outcome) → DataTurn e arrived o → Few 1 o
data_few e arrived o turn = data_where_few e arrived arrived.chunk.payload o turn

pub forward_few : (e : Endpoint) (transfer : Option Transfer) (tsn : ℕ) (entries : List SkippedTo) (o : Outcome) → ForwardTurn e transfer tsn entries o → Few 1 o
forward_few e None tsn entries o turn = subst (Few 1) (sym turn) (none 1)
forward_few e (Some transfer) tsn entries o turn = subst (Few 1) (sym turn.2) (none 1)

-- ---- SACK

-- that many packets at most, and those of a flush
abbrev pub IsBehind : ℕ → Outcome → Type 0
IsBehind n o = count o.events ≤ n + allowed_after o

told_by_few : (name : Option ℕ) (ends : Bool) → count (lifecycle_events_of name ends) ≤ 0
told_by_few None ends = none 0
told_by_few (Some id) true = none 0
told_by_few (Some id) false = none 0

delivered_few : (items : List Item) → count (delivered_events items) ≤ 0
delivered_few [] = none 0
delivered_few (item ∷ items) =
    none_in_front 0 (lifecycle_events_of item.fragment.lifecycle (ends_delivery item)) (delivered_events items) (told_by_few item.fragment.lifecycle (ends_delivery item)) (delivered_few items)

out_few : (e : Endpoint) (with_checksum : Bool) (tag : ℕ) (contents : List Content) → Few 1 (goes_out e [] with_checksum tag contents)
out_few e with_checksum tag [] = none 1
out_few e with_checksum tag (content ∷ contents) = one 0

fast_few : (b : Bool) (e : Endpoint) (held : Held) (transfer : Transfer) (o : Outcome) → FastRetransmits b e held transfer o → Few 1 o
fast_few false e held transfer o turn = subst (Few 1) (sym turn) (none 1)
fast_few true e held transfer o turn =
    subst (Few 1) (sym turn.is) (out_few (with_transfer e (record transfer { retransmission = turn.left })) (draft_to held).with_checksum held.peer.tag (plain_contents turn.chunks))

-- An item that is to be sent at once isn't acknowledged. Then no step of a shutdown is made.
item_below : (m n : ℕ) (state : ItemState) → m ≤ n → m + number_or_zero (is_marked state) 1 ≤ n + number_or_zero (is_unacknowledged state) 1
item_below m n InFlight h = omega (arith, h)
item_below m n Marked h = omega (arith, h)
item_below m n Acknowledged h = omega (arith, h)
item_below m n Abandoned h = omega (arith, h)

items_below : (m n : ℕ) (items : List Item) → m ≤ n → fold (λ a x. a + marked_count x) m items ≤ fold (λ a x. a + unacknowledged_count x) n items
items_below m n [] h = h
items_below m n (item ∷ items) h = items_below (m + marked_count item) (n + unacknowledged_count item) items (item_below m n item.progress.state h)

not_all : (transfer : Transfer) → has_fast_retransmit transfer.retransmission ≡ true → is_all_acknowledged (Some transfer) ≡ false
not_all transfer due =
    let items : List Item = transfer.retransmission.outstanding.items in
    let below : marked_items items ≤ unacknowledged_items items = items_below 0 0 items (none 0) in
    grind (arith, nat_tests, below, due)

-- a step of a shutdown, or a fast retransmission
out_peer : (e : Endpoint) (with_checksum : Bool) (tag : ℕ) (contents : List Content) → HasPeer e.core → HasPeer (goes_out e [] with_checksum tag contents).after.core
out_peer e with_checksum tag [] peer = peer
out_peer e with_checksum tag (content ∷ contents) peer = peer

fast_peer : (b : Bool) (e : Endpoint) (held : Held) (transfer : Transfer) (o : Outcome) → FastRetransmits b e held transfer o → HasPeer e.core → HasPeer o.after.core
fast_peer false e held transfer o turn peer = subst (λ (x : Outcome). HasPeer x.after.core) (sym turn) peer
fast_peer true e held transfer o turn peer =
    subst (λ (x : Outcome). HasPeer x.after.core) (sym turn.is)
    (out_peer (with_transfer e (record transfer { retransmission = turn.left })) (draft_to held).with_checksum held.peer.tag (plain_contents turn.chunks) peer)

stepped_few : (b : Bool) (e : Endpoint) (core : Core) (held : Held) (left : Transfer) (stepped fast : Outcome) → has_fast_retransmit left.retransmission ≡ b → e.queues.transfer ≡ Some left
    → stepped ≡ step_outcome e core → FastRetransmits b stepped.after held left fast → count (stepped.events ++ fast.events) ≤ 1
stepped_few true e core held left stepped fast due is steps resends =
    let waits : is_all_acknowledged e.queues.transfer ≡ false = subst (λ (t : Option Transfer). is_all_acknowledged t ≡ false) (sym is) (not_all left due) in
    none_in_front 1 stepped.events fast.events (subst (Few 0) (sym steps) (step_waits e core waits)) (fast_few true stepped.after held left fast resends)
stepped_few false e core held left stepped fast due is steps resends =
    append_few 1 0 stepped.events fast.events (subst (Few 1) (sym steps) (step_few e core)) (subst (Few 0) (sym resends) (none 0))

pub acknowledges_behind : (e : Endpoint) (held : Held) (transfer : Transfer) (sack : SackContent) (o : Outcome) → HasPeer e.core → TakesSackAndFlushes e held transfer sack o → IsBehind 1 o
acknowledges_behind e held transfer sack o peer turn =
    let stepped : HasPeer turn.stepped.after.core = subst (λ (x : Outcome). HasPeer x.after.core) (sym turn.steps) (step_peer (sack_taken e transfer turn.left) e.core peer) in
    let here : HasPeer turn.fast.after.core = fast_peer (has_fast_retransmit turn.left.retransmission) turn.stepped.after held turn.left turn.fast turn.resends stepped in
    let flushed : Outcome = flush_of turn.fast.after (draft_to held) turn.answers in
    let told : List (Event Emission) = delivered_up_to sack.cumulative_tsn_ack transfer.retransmission in
    subst (IsBehind 1) (sym turn.is)
    (append_few 1 (allowed_after flushed) (told ++ (turn.stepped.events ++ turn.fast.events)) flushed.events
    (none_in_front 1 told (turn.stepped.events ++ turn.fast.events)
    (delivered_few (take (acknowledged_count transfer.retransmission.outstanding sack.cumulative_tsn_ack) transfer.retransmission.outstanding.items))
    (stepped_few (has_fast_retransmit turn.left.retransmission) (sack_taken e transfer turn.left) e.core held turn.left turn.stepped turn.fast refl refl turn.steps turn.resends))
    (flush_is_burst turn.fast.after (draft_to held) turn.answers here turn.allowed))

sack_where_behind : (b : Bool) (e : Endpoint) (held : Held) (transfer : Transfer) (sack : SackContent) (o : Outcome) → HasPeer e.core → HandlesSackIfValid b e held transfer sack o → IsBehind 1 o
sack_where_behind false e held transfer sack o peer turn = subst (IsBehind 1) (sym turn) (omega arith)
sack_where_behind true e held transfer sack o peer turn = acknowledges_behind e held transfer sack o peer turn

sack_by_behind : (e : Endpoint) (peer : Option Held) (transfer : Transfer) (sack : SackContent) (o : Outcome) → held_by_core e.core ≡ peer → HandlesSackIfConnected e peer transfer sack o → IsBehind 1 o
sack_by_behind e None transfer sack o is turn = subst (IsBehind 1) (sym turn) (omega arith)
sack_by_behind e (Some held) transfer sack o is turn =
    sack_where_behind (is_sack_valid transfer.retransmission sack.cumulative_tsn_ack) e held transfer sack o (held_is_peer e.core held is) turn

pub sack_behind : (e : Endpoint) (transfer : Option Transfer) (sack : SackContent) (o : Outcome) → SackTurn e transfer sack o → IsBehind 1 o
sack_behind e None sack o turn = subst (IsBehind 1) (sym turn) (omega arith)
sack_behind e (Some transfer) sack o turn = sack_by_behind e (held_by_core e.core) transfer sack o refl turn

-- ---- the end of a packet

end_where_is_burst : (b : Bool) (e : Endpoint) (peer : Option Held) (transfer : Transfer) (tracker : TrackerState) (o : Outcome) → held_by_core e.core ≡ peer → AnswersPacketIfDue b e peer transfer tracker o → IsBurst o
end_where_is_burst true e (Some held) transfer tracker o is turn = subst IsBurst (sym turn.is) (flush_is_burst _ _ turn.answers (held_is_peer e.core held is) turn.allowed)
end_where_is_burst true e None transfer tracker o is turn = subst IsBurst (sym turn) (omega arith)
end_where_is_burst false e peer transfer tracker o is turn = subst IsBurst (sym turn) (omega arith)

pub end_is_burst : (e : Endpoint) (transfer : Option Transfer) (o : Outcome) → AcknowledgesPacket e transfer o → IsBurst o
end_is_burst e None o turn = subst IsBurst (sym turn) (omega arith)
end_is_burst e (Some transfer) o turn =
    let tracker = after_packet_end e.moment transfer.tracker in end_where_is_burst (is_acknowledgement_due tracker) e (held_by_core e.core) transfer tracker o refl turn

-- ---- what the user takes and sends

take_where_few : (e : Endpoint) (transfer : Transfer) (messages : List MessageContent) (o : Outcome) → TakesFirstReady e transfer messages o → Few 0 o
take_where_few e transfer [] o turn = subst (Few 0) (sym turn) (none 0)
take_where_few e transfer (message ∷ messages) o turn = subst (Few 0) (sym turn) (none 0)

take_left_few : (e : Endpoint) (messages : List MessageContent) (o : Outcome) → TakeLeft e messages o → Few 0 o
take_left_few e [] o turn = subst (Few 0) (sym turn) (none 0)
take_left_few e (message ∷ messages) o turn = subst (Few 0) (sym turn) (none 0)

pub take_few : (e : Endpoint) (transfer : Option Transfer) (o : Outcome) → TakeTurn e transfer o → Few 0 o
take_few e None o turn = take_left_few e e.left o turn
take_few e (Some transfer) o turn = take_where_few e transfer transfer.reassembly.incoming.ready o turn

-- A message that waits or is refused is no packet.
refusal_few : (why : MessageRefusal) (name : Option ℕ) → count (refusal_events why name) ≤ 0
refusal_few why None = none 0
refusal_few why (Some id) = none 0

one_few : (e : Endpoint) (message : Sending) (why : Option MessageRefusal) → Few 0 (queue_unless_refused e message why)
one_few e message None = none 0
one_few e message (Some why) = refusal_few why (lifecycle_name message)

queue_few : (e : Endpoint) (messages : List Sending) → Few 0 (queue_all e messages)
queue_few e [] = none 0
queue_few e (message ∷ messages) =
    let first : Outcome = queue_one e message in
    none_in_front 0 first.events (queue_all first.after messages).events (one_few e message (sending_refusal e message)) (queue_few first.after messages)

send_where_is_burst : (b : Bool) (e : Endpoint) (answers : List Answer) → SendAnswers b e answers → IsBurst (flush_if_queued b e answers)
send_where_is_burst false e answers allowed = omega arith
send_where_is_burst true e answers allowed = to_is_burst e (held_by_core e.core) answers refl allowed

pub send_is_burst : (e : Endpoint) (messages : List Sending) (o : Outcome) → SendTurn e messages o → IsBurst o
send_is_burst e messages o turn =
    let queued : Outcome = queue_all e messages in
    let flushed : Outcome = flush_if_queued (takes_any e messages) queued.after turn.0 in
    subst IsBurst (sym turn.2)
    (none_in_front (allowed_after flushed) queued.events flushed.events (queue_few e messages) (send_where_is_burst (takes_any e messages) queued.after turn.0 turn.1))

-- ---- what the user resets

resets_where_is_burst : (why : Option ResetRefusal) (e : Endpoint) (ids : List ℕ) (o : Outcome) → PreparesUnlessRefused why e ids o → IsBurst o
resets_where_is_burst None e ids o turn =
    let told = told_prepared ids e.queues.queue in
    let is : count (prepare_all_events ids e.queues.queue) ≡ 0 =
    ap count told.is ∙ ap count (sym (append-nil (map filling_event told.told))) ∙ ap length (told_none told.told []) in
    subst IsBurst (sym turn.is)
    (none_in_front (allowed_after turn.flushed) (prepare_all_events ids e.queues.queue) turn.flushed.events (omega (arith, is))
    (flush_turn_is_burst (endpoint_with_queue e (prepared_all ids e.queues.queue)) turn.flushed turn.flushes))
resets_where_is_burst (Some why) e ids o turn = subst IsBurst (sym turn) (omega arith)

pub resets_is_burst : (e : Endpoint) (ids : List ℕ) (o : Outcome) → OwnResetsTurn e ids o → IsBurst o
resets_is_burst e ids o turn = resets_where_is_burst (reset_refusal e) e ids o turn

-- ---- timers

pub delay_few : (e : Endpoint) (transfer : Option Transfer) → Few 0 (delay_outcome e transfer)
delay_few e None = none 0
delay_few e (Some transfer) = none 0

pub loss_few : (e : Endpoint) (transfer : Option Transfer) (o : Outcome) → LossTurn e transfer o → Few 0 o
loss_few e None o turn = subst (Few 0) (sym turn) (none 0)
loss_few e (Some transfer) o turn = subst (Few 0) (sym turn) (none 0)
