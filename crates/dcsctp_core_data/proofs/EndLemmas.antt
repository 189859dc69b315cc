-- The end of a packet: what came with it is acknowledged.
use Rattle.std.proofs.Common.{◌≡◌, ◌==◌, if◌then◌else◌, ◌&&◌, ◌||◌, Bool, true, false, Option, None, Some, Result, Ok, Err, refl, sym, ap, subst, ◌∙◌}
use Rattle.rand_core.specs.Stream.{Stream}
use Rattle.dcsctp_core.specs.wire_build.Building.{Building}
use Rattle.dcsctp_core.specs.types.declared.association.Held.{Held}
use Rattle.dcsctp_core.specs.spec.queues.Tracker.{TrackerState, after_packet_end, is_acknowledgement_due, owes_acknowledgement, delayed_acknowledgement, delay_over, tracker_after_sack}
use Rattle.dcsctp_core.specs.spec.queues.Transfer.{Transfer}
use Rattle.dcsctp_core.specs.spec.endpoint.Endpoint.{Endpoint, held_by_core}
use Rattle.dcsctp_core.specs.spec.endpoint.Outcome.{Outcome, still}
use Rattle.dcsctp_core.specs.spec.endpoint.FlushOutcomes.{own_sack, room_of_draft, draft_to, flush_of, first_ask, packets_allowed}
use Rattle.dcsctp_core.specs.spec.endpoint.DataOutcomes.{with_transfer, endpoint_with_tracker, delay_outcome, acknowledging, AnswersPacket, AnswersPacketIfDue, AcknowledgesPacket}
use Rattle.dcsctp_core.proofs.spec_lemmas.AnswerLemmas.{any_answers}
use Rattle.dcsctp_core.specs.transfer.Filling.{is_sack_wanted, FillsRequestedSack}
use Rattle.dcsctp_core.specs.declared.context.Context.{Context}
use Rattle.dcsctp_core.specs.declared.state.State.{State}
use Rattle.dcsctp_core.specs.declared.transmission_control_block.TransmissionControlBlock.{TransmissionControlBlock}
use Rattle.dcsctp_core.specs.View.{View, core_of, tcb_of, held_of, transfer_of, endpoint_of, view_of, Moves}
use Rattle.dcsctp_core.specs.spec.endpoint.TimeTurns.{own_timer, has_come, delay_deadline}
use Rattle.dcsctp_core.specs.spec.endpoint.OwnTimers.{acknowledgement_delay}
use Rattle.dcsctp_core.specs.Timing.{ExpiryTurn, ExpiresAlways}
use Rattle.dcsctp_core.proofs.LendingLemmas.{found, nobody, lent, kept, left_with}
use Rattle.dcsctp_core.specs.Handling.{TakesPossibleTurn, CutsSomeTurn, TakesOne}
use Rattle.dcsctp_core.specs.Flushing.{packet_for, empty_packet, state_with, AcknowledgesInQueues, Flushes, FlushesOrFails}
use Rattle.dcsctp_core.specs.Below.{ChangesQueues, EndsPacketInQueues, is_peer_acknowledgement_due}
use Rattle.dcsctp_core.proofs.BelowLemmas.{below_view, below_moves, moves_from, same_view}
use Rattle.dcsctp_core.proofs.Composing.{cut_after}
use Rattle.dcsctp_core.proofs.FillLemmas.{sack_packet}
use Rattle.dcsctp_core.proofs.FirstLemmas.{transfer_is}
use Rattle.dcsctp_core.proofs.LoopLemmas.{held_by_tcb, packet_to}
use Rattle.dcsctp_core.proofs.Moving.{moves_still}
use Rattle.dcsctp_core_data.specs.Data.{EndsPacket, AnswersData, AcknowledgesData}
use Rattle.dcsctp_core_data.proofs.TakingLemmas.{cut_before}

-- ---- a SACK goes first

record Sacked (e : Endpoint) (held : Held) (transfer mid : Transfer) (filled : Building) : Type 0 where
  left : mid ≡ record transfer { tracker = tracker_after_sack transfer.tracker }
  packet : filled ≡ packet_for e.options (acknowledging e held (own_sack (room_of_draft e (draft_to held)) transfer))

sack_put : (e : Endpoint) (held : Held) (transfer mid : Transfer) (packet filled : Building) → packet ≡ packet_for e.options (draft_to held) → FillsRequestedSack true transfer packet mid filled
    → Sacked e held transfer mid filled
sack_put e held transfer mid packet filled is h =
    record { left = h.0; packet = h.1 ∙ sack_packet e (draft_to held) packet transfer is }

-- what the flush does, from the endpoint at which all is acknowledged
flushed : {R E : Type 0} (stream : R → Stream) (v : View R) (held : Held) (transfer : Transfer) (result : Result (Unit {0}) E) (new : Context R)
    → v.endpoint.queues.transfer ≡ Some transfer → held_by_core v.endpoint.core ≡ Some held
    → FlushesOrFails stream first_ask (packets_allowed v.endpoint.options.max_burst v.endpoint.core) (acknowledging v.endpoint held (own_sack (room_of_draft v.endpoint (draft_to held)) transfer))
    (record v { endpoint = endpoint_with_tracker v.endpoint transfer (tracker_after_sack transfer.tracker) }) result (view_of new)
    → (old : Context R) → view_of old ≡ v → TakesOne stream AcknowledgesData old result new
flushed {R = R} stream v held transfer (Ok done) new below holds f old is =
    let e : Endpoint = v.endpoint in
    let o : Outcome = flush_of (endpoint_with_tracker e transfer (tracker_after_sack transfer.tracker)) (acknowledging e held (own_sack (room_of_draft e (draft_to held)) transfer)) f.answers in
    let turn : AnswersPacket e held transfer transfer.tracker o = record { answers = f.answers; allowed = f.allowed; is = refl } in
    let here : TakesPossibleTurn stream AcknowledgesData v (view_of new) =
    record {
      outcome = o;
      turn = subst (λ (h : Option Held). AnswersData e h e.queues.transfer o) (sym holds) (subst (λ (t : Option Transfer). AnswersData e (Some held) t o) (sym below) turn);
      moves = moves_from stream v (endpoint_with_tracker e transfer (tracker_after_sack transfer.tracker)) o (view_of new) refl f.moves;
    } in
    subst (λ (x : View R). TakesPossibleTurn stream AcknowledgesData x (view_of new)) (sym is) here
flushed {R = R} stream v held transfer (Err error) new below holds f old is =
    let e : Endpoint = v.endpoint in
    let o : Outcome = flush_of (endpoint_with_tracker e transfer (tracker_after_sack transfer.tracker)) (acknowledging e held (own_sack (room_of_draft e (draft_to held)) transfer)) f.answers in
    let turn : AnswersPacket e held transfer transfer.tracker o = record { answers = f.answers; allowed = f.allowed; is = refl } in
    let here : CutsSomeTurn AcknowledgesData v (view_of new).events =
    record {
      outcome = o;
      turn = subst (λ (h : Option Held). AnswersData e h e.queues.transfer o) (sym holds) (subst (λ (t : Option Transfer). AnswersData e (Some held) t o) (sym below) turn);
      cut = cut_after v o (view_of new).events f.front f.rest f.parts f.added;
    } in
    subst (λ (x : View R). CutsSomeTurn AcknowledgesData x (view_of new).events) (sym is) here

acknowledged_by : {R E : Type 0} (stream : R → Stream) (old : Context R) (tcb : TransmissionControlBlock) (found : Option Transfer) (state : State) (packet filled : Building) (result : Result (Unit {0}) E) (new : Context R)
    → transfer_of old.state ≡ found → Some tcb ≡ tcb_of old.state → is_peer_acknowledgement_due found ≡ true
    → packet ≡ empty_packet old.options (tcb.capabilities.zero_checksum_method.0 == 0) tcb.peer.tag
    → AcknowledgesInQueues found false old.state packet state filled
    → Flushes stream filled (record old { state = state }) result new
    → TakesOne stream AcknowledgesData old result new
acknowledged_by stream old tcb None state packet filled result new found kept due built ack flushes = absurd (cc)
acknowledged_by {R = R} stream old tcb (Some transfer) state packet filled result new found kept due built ack flushes =
    let e : Endpoint = endpoint_of old in
    let held : Held = held_of tcb in
    let holds : held_by_core (core_of old.state) ≡ Some held = held_by_tcb old.state tcb kept in
    let wanted : is_sack_wanted false transfer ≡ true = ap (λ (b : Bool). b || (owes_acknowledgement transfer.tracker && false)) due in
    let put : Sacked e held transfer ack.0 filled =
    sack_put e held transfer ack.0 packet filled (packet_to old.options old.state tcb held packet kept holds built) (subst (λ (b : Bool). FillsRequestedSack b transfer packet ack.0 filled) wanted ack.2) in
    let left : Transfer = record transfer { tracker = tracker_after_sack transfer.tracker } in
    let view : view_of (record old { state = state }) ≡ record (view_of old) { endpoint = with_transfer e left } =
    below_view old state transfer left found (ack.1 ∙ ap (state_with old.state) put.left) in
    let f : FlushesOrFails stream first_ask (packets_allowed old.options.max_burst (core_of state)) (acknowledging e held (own_sack (room_of_draft e (draft_to held)) transfer)) (view_of (record old { state = state })) result (view_of new) =
    flushes (acknowledging e held (own_sack (room_of_draft e (draft_to held)) transfer)) put.packet held (ap (λ (v : View R). held_by_core v.endpoint.core) view ∙ holds) in
    flushed stream (view_of old) held transfer result new found holds
    (subst (λ (v : View R). FlushesOrFails stream first_ask (packets_allowed v.endpoint.options.max_burst v.endpoint.core) (acknowledging e held (own_sack (room_of_draft e (draft_to held)) transfer)) v result (view_of new)) view f)
    old refl

acknowledges : {R E : Type 0} (stream : R → Stream) (old : Context R) (tcb : TransmissionControlBlock) (state : State) (packet filled : Building) (result : Result (Unit {0}) E) (new : Context R)
    → Some tcb ≡ tcb_of old.state → is_peer_acknowledgement_due (transfer_of old.state) ≡ true
    → packet ≡ empty_packet old.options (tcb.capabilities.zero_checksum_method.0 == 0) tcb.peer.tag
    → AcknowledgesInQueues (transfer_of old.state) false old.state packet state filled
    → Flushes stream filled (record old { state = state }) result new
    → TakesOne stream AcknowledgesData old result new
acknowledges stream old tcb state packet filled result new kept due built ack flushes =
    acknowledged_by stream old tcb (transfer_of old.state) state packet filled result new refl kept due built ack flushes

pub acknowledges_done : {R : Type 0} (stream : R → Stream) (old : Context R) (tcb : TransmissionControlBlock) (state : State) (packet filled : Building) (new : Context R)
    → Some tcb ≡ tcb_of old.state → is_peer_acknowledgement_due (transfer_of old.state) ≡ true
    → packet ≡ empty_packet old.options (tcb.capabilities.zero_checksum_method.0 == 0) tcb.peer.tag
    → AcknowledgesInQueues (transfer_of old.state) false old.state packet state filled
    → Flushes {E = Unit {0}} stream filled (record old { state = state }) (Ok tt) new
    → TakesPossibleTurn stream AcknowledgesData (view_of old) (view_of new)
acknowledges_done stream old tcb state packet filled new kept due built ack flushes = acknowledges {E = Unit {0}} stream old tcb state packet filled (Ok tt) new kept due built ack flushes

pub acknowledges_cut : {R : Type 0} (stream : R → Stream) (old : Context R) (tcb : TransmissionControlBlock) (state : State) (packet filled : Building) (new : Context R)
    → Some tcb ≡ tcb_of old.state → is_peer_acknowledgement_due (transfer_of old.state) ≡ true
    → packet ≡ empty_packet old.options (tcb.capabilities.zero_checksum_method.0 == 0) tcb.peer.tag
    → AcknowledgesInQueues (transfer_of old.state) false old.state packet state filled
    → Flushes {E = Unit {0}} stream filled (record old { state = state }) (Err tt) new
    → CutsSomeTurn AcknowledgesData (view_of old) (view_of new).events
acknowledges_cut stream old tcb state packet filled new kept due built ack flushes = acknowledges {E = Unit {0}} stream old tcb state packet filled (Err tt) new kept due built ack flushes

-- ---- before its first event

any_answer : (e : Endpoint) (peer : Option Held) (found : Option Transfer) → (o : Outcome) × AnswersData e peer found o
any_answer e None found = (still e, refl)
any_answer e (Some held) None = (still e, refl)
any_answer e (Some held) (Some transfer) =
    let after : Endpoint = endpoint_with_tracker e transfer (tracker_after_sack transfer.tracker) in
    let some = any_answers first_ask (packets_allowed after.options.max_burst after.core) after (acknowledging e held (own_sack (room_of_draft e (draft_to held)) transfer)) in
    (flush_of after (acknowledging e held (own_sack (room_of_draft e (draft_to held)) transfer)) some.0, record { answers = some.0; allowed = some.1; is = refl })

pub answers_cut : {R : Type 0} (view : View R) → CutsSomeTurn AcknowledgesData view view.events
answers_cut view =
    let any = any_answer view.endpoint (held_by_core view.endpoint.core) view.endpoint.queues.transfer in
    cut_before AcknowledgesData view any.0 any.1

-- ---- the whole

end_later : {R : Type 0} (stream : R → Stream) (old : Context R) (state : State) (found : Option Transfer) → transfer_of old.state ≡ found → ChangesQueues (EndsPacketInQueues old.moment) found old.state state
    → is_peer_acknowledgement_due (transfer_of state) ≡ false → TakesPossibleTurn stream EndsPacket (view_of old) (view_of (record old { state = state }))
end_later {R = R} stream old state None holds changes waits =
    record {
      outcome = still (endpoint_of old);
      turn = subst (λ (f : Option Transfer). AcknowledgesPacket (endpoint_of old) f (still (endpoint_of old))) (sym holds) refl;
      moves = subst (λ (v : View R). Moves stream (view_of old) (still (endpoint_of old)) v) (sym (same_view old state changes)) (moves_still stream (view_of old));
    }
end_later stream old state (Some transfer) holds changes waits =
    let e : Endpoint = endpoint_of old in
    let tracker : TrackerState = after_packet_end old.moment transfer.tracker in
    let o : Outcome = still (endpoint_with_tracker e transfer tracker) in
    let after : state ≡ state_with old.state (record transfer { tracker = tracker }) = changes.1 ∙ ap (state_with old.state) changes.2 in
    let due : is_acknowledgement_due tracker ≡ false = sym (ap is_peer_acknowledgement_due (ap transfer_of after ∙ transfer_is old.state transfer (record transfer { tracker = tracker }) holds)) ∙ waits in
    record {
      outcome = o;
      turn = subst (λ (f : Option Transfer). AcknowledgesPacket e f o) (sym holds) (subst (λ (b : Bool). AnswersPacketIfDue b e (held_by_core e.core) transfer tracker o) (sym due) refl);
      moves = below_moves stream old state transfer (record transfer { tracker = tracker }) holds after;
    }

pub ends_later : {R : Type 0} (stream : R → Stream) (old : Context R) (state : State) → ChangesQueues (EndsPacketInQueues old.moment) (transfer_of old.state) old.state state
    → is_peer_acknowledgement_due (transfer_of state) ≡ false → TakesPossibleTurn stream EndsPacket (view_of old) (view_of (record old { state = state }))
ends_later stream old state changes waits = end_later stream old state (transfer_of old.state) refl changes waits

-- the answers after it are what the end of the packet brings
answered_by : (e : Endpoint) (peer : Option Held) (transfer : Transfer) (tracker : TrackerState) (o : Outcome)
    → AnswersData (endpoint_with_tracker e transfer tracker) peer (Some (record transfer { tracker = tracker })) o → AnswersPacketIfDue true e peer transfer tracker o
answered_by e None transfer tracker o h = h
answered_by e (Some held) transfer tracker o h = record { answers = h.answers; allowed = h.allowed; is = h.is }

end_now : {R E : Type 0} (stream : R → Stream) (v : View R) (transfer : Transfer) (tracker : TrackerState) (result : Result (Unit {0}) E) (old mid new : Context R)
    → view_of old ≡ v → v.endpoint.queues.transfer ≡ Some transfer → view_of mid ≡ record v { endpoint = endpoint_with_tracker v.endpoint transfer tracker }
    → ((o : Outcome) → AnswersPacketIfDue true v.endpoint (held_by_core v.endpoint.core) transfer tracker o → AcknowledgesPacket v.endpoint (Some transfer) o)
    → TakesOne stream AcknowledgesData mid result new → TakesOne stream EndsPacket old result new
end_now {R = R} stream v transfer tracker (Ok done) old mid new is below after ends h =
    let e : Endpoint = v.endpoint in
    let here : TakesPossibleTurn stream AcknowledgesData (record v { endpoint = endpoint_with_tracker e transfer tracker }) (view_of new) = subst (λ (x : View R). TakesPossibleTurn stream AcknowledgesData x (view_of new)) after h in
    let all : TakesPossibleTurn stream EndsPacket v (view_of new) =
    record {
      outcome = here.outcome;
      turn = subst (λ (f : Option Transfer). AcknowledgesPacket e f here.outcome) (sym below) (ends here.outcome (answered_by e (held_by_core e.core) transfer tracker here.outcome here.turn));
      moves = moves_from stream v (endpoint_with_tracker e transfer tracker) here.outcome (view_of new) refl here.moves;
    } in
    subst (λ (x : View R). TakesPossibleTurn stream EndsPacket x (view_of new)) (sym is) all
end_now {R = R} stream v transfer tracker (Err error) old mid new is below after ends h =
    let e : Endpoint = v.endpoint in
    let here : CutsSomeTurn AcknowledgesData (record v { endpoint = endpoint_with_tracker e transfer tracker }) (view_of new).events = subst (λ (x : View R). CutsSomeTurn AcknowledgesData x (view_of new).events) after h in
    let all : CutsSomeTurn EndsPacket v (view_of new).events =
    record {
      outcome = here.outcome;
      turn = subst (λ (f : Option Transfer). AcknowledgesPacket e f here.outcome) (sym below) (ends here.outcome (answered_by e (held_by_core e.core) transfer tracker here.outcome here.turn));
      cut = record { count = here.cut.count; added = here.cut.added };
    } in
    subst (λ (x : View R). CutsSomeTurn EndsPacket x (view_of new).events) (sym is) all

end_at_once : {R E : Type 0} (stream : R → Stream) (old : Context R) (state : State) (found : Option Transfer) (result : Result (Unit {0}) E) (new : Context R) → transfer_of old.state ≡ found
    → ChangesQueues (EndsPacketInQueues old.moment) found old.state state → is_peer_acknowledgement_due (transfer_of state) ≡ true → TakesOne stream AcknowledgesData (record old { state = state }) result new → TakesOne stream EndsPacket old result new
end_at_once stream old state None result new holds changes due h =
    let none : false ≡ true = sym (ap is_peer_acknowledgement_due (ap transfer_of changes ∙ holds)) ∙ due in
    absurd (cc)
end_at_once stream old state (Some transfer) result new holds changes due h =
    let e : Endpoint = endpoint_of old in
    let tracker : TrackerState = after_packet_end old.moment transfer.tracker in
    let after : state ≡ state_with old.state (record transfer { tracker = tracker }) = changes.1 ∙ ap (state_with old.state) changes.2 in
    let is_due : is_acknowledgement_due tracker ≡ true = sym (ap is_peer_acknowledgement_due (ap transfer_of after ∙ transfer_is old.state transfer (record transfer { tracker = tracker }) holds)) ∙ due in
    end_now stream (view_of old) transfer tracker result old (record old { state = state }) new refl holds
    (below_view old state transfer (record transfer { tracker = tracker }) holds after)
    (λ o answers. subst (λ (b : Bool). AnswersPacketIfDue b e (held_by_core e.core) transfer tracker o) (sym is_due) answers)
    h

ends_at_once : {R E : Type 0} (stream : R → Stream) (old : Context R) (state : State) (result : Result (Unit {0}) E) (new : Context R) → ChangesQueues (EndsPacketInQueues old.moment) (transfer_of old.state) old.state state
    → is_peer_acknowledgement_due (transfer_of state) ≡ true → TakesOne stream AcknowledgesData (record old { state = state }) result new → TakesOne stream EndsPacket old result new
ends_at_once stream old state result new changes due h = end_at_once stream old state (transfer_of old.state) result new refl changes due h

pub ended : {R : Type 0} (stream : R → Stream) (old : Context R) (state : State) (new : Context R) → ChangesQueues (EndsPacketInQueues old.moment) (transfer_of old.state) old.state state
    → is_peer_acknowledgement_due (transfer_of state) ≡ true → TakesPossibleTurn stream AcknowledgesData (view_of (record old { state = state })) (view_of new) → TakesPossibleTurn stream EndsPacket (view_of old) (view_of new)
ended stream old state new changes due h = ends_at_once {E = Unit {0}} stream old state (Ok tt) new changes due h

pub end_cut : {R : Type 0} (stream : R → Stream) (old : Context R) (state : State) (new : Context R) → ChangesQueues (EndsPacketInQueues old.moment) (transfer_of old.state) old.state state
    → is_peer_acknowledgement_due (transfer_of state) ≡ true → CutsSomeTurn AcknowledgesData (view_of (record old { state = state })) (view_of new).events → CutsSomeTurn EndsPacket (view_of old) (view_of new).events
end_cut stream old state new changes due h = ends_at_once {E = Unit {0}} stream old state (Err tt) new changes due h

-- Without an association nothing is acknowledged.
pub ends_unasked : {R : Type 0} (stream : R → Stream) (old : Context R) → None ≡ tcb_of old.state → TakesPossibleTurn stream EndsPacket (view_of old) (view_of old)
ends_unasked stream old none =
    let e : Endpoint = endpoint_of old in
    record { outcome = still e; turn = subst (λ (f : Option Transfer). AcknowledgesPacket e f (still e)) (sym (nobody old.state none)) refl; moves = moves_still stream (view_of old) }

-- ---- the delay of an acknowledgement

delay_ended : {R : Type 0} (stream : R → Stream) (old : Context R) (tcb : TransmissionControlBlock) (after : Transfer) → Some tcb ≡ tcb_of old.state
    → after ≡ record tcb.transfer { tracker = delay_over tcb.transfer.tracker }
    → TakesPossibleTurn stream (ExpiryTurn (own_timer acknowledgement_delay)) (view_of old) (view_of (record old { state = left_with old.state tcb after }))
delay_ended stream old tcb after holds is =
    let e : Endpoint = endpoint_of old in
    let o : Outcome = still (with_transfer e after) in
    record {
      outcome = o;
      turn = ap (λ (t : Transfer). still (with_transfer e t)) is ∙ ap (delay_outcome e) (sym (found old.state tcb holds));
      moves = below_moves stream old (left_with old.state tcb after) tcb.transfer after (found old.state tcb holds) (lent old.state tcb after holds);
    }

pub delay_told : {R : Type 0} (stream : R → Stream) (old new : Context R) (tcb : TransmissionControlBlock) (after : Transfer) (b : Bool)
    → view_of new ≡ view_of (record old { state = left_with old.state tcb after }) → Some tcb ≡ tcb_of old.state
    → b ≡ has_come old.moment (delayed_acknowledgement tcb.transfer.tracker)
    → after ≡ record tcb.transfer { tracker = if b then delay_over tcb.transfer.tracker else tcb.transfer.tracker }
    → ExpiresAlways stream (own_timer acknowledgement_delay) old b new
delay_told {R = R} stream old new tcb after true same holds due is = (
  ap (λ (f : Option Transfer). has_come old.moment (delay_deadline f)) (found old.state tcb holds) ∙ sym due,
  subst (λ (v : View R). TakesPossibleTurn stream (ExpiryTurn (own_timer acknowledgement_delay)) (view_of old) v) (sym same) (delay_ended stream old tcb after holds is),
)
delay_told stream old new tcb after false same holds due is = (
  ap (λ (f : Option Transfer). has_come old.moment (delay_deadline f)) (found old.state tcb holds) ∙ sym due,
  same ∙ same_view old (left_with old.state tcb after) (ap (left_with old.state tcb) is ∙ kept old.state tcb holds),
)

pub delay_unasked : {R : Type 0} (stream : R → Stream) (old : Context R) → None ≡ tcb_of old.state → ExpiresAlways stream (own_timer acknowledgement_delay) old false old
delay_unasked stream old none = (ap (λ (f : Option Transfer). has_come old.moment (delay_deadline f)) (nobody old.state none), refl)
