-- Where an association is open, nothing that was received is owed but by a timer, after each act of a run.
use Rattle.std.proofs.Common.{◌≡◌, ℕ, zero, suc, Bool, true, false, if◌then◌else◌, Option, None, Some, List, [], ◌∷◌, ◌++◌, ◌⊎◌, inl, inr, map, refl, sym, ap, ◌∙◌, subst}
use Rattle.std.specs.Prelude.{nat_le}
use Rattle.std.specs.List.{AllByRecursion}
use Rattle.dcsctp_spec_lemmas.specs.types.Schedule.{CallContent, connect_call, close_call, shutdown_call, advance_call, set_call, send_call, send_many_call, reset_call, take_call, hand_over_call, call_step, delivery_step, step_act, input_outside, handover_outside, restore_outside, outside_act, ActContent}
use Rattle.dcsctp_spec_lemmas.specs.types.Snapshot.{Snapshot, is_valid_snapshot}
use Rattle.dcsctp_spec_lemmas.specs.types.declared.ends.AbortReason.TheVariants.{CloseCalled, TooManyErrors}
use Rattle.dcsctp_spec_lemmas.specs.types.declared.options.Options.{Options}
use Rattle.dcsctp_spec_lemmas.specs.types.declared.schedule.Side.{Side}
use Rattle.dcsctp_spec_lemmas.specs.types.declared.schedule.Side.TheVariants as sides
use Rattle.dcsctp_spec_lemmas.specs.types.declared.snapshot.HandoverSocketState.{HandoverSocketState}
use Rattle.dcsctp_spec_lemmas.specs.types.declared.snapshot.HandoverSocketState.TheVariants as states
use Rattle.dcsctp_spec_lemmas.specs.types.declared.association.Held.{Held}
use Rattle.dcsctp_spec_lemmas.specs.spec.Handover.{readiness_of}
use Rattle.dcsctp_spec_lemmas.specs.spec.HandoverInputs.{inputs_of_handover, inputs_of_snapshot, inputs_of_restore}
use Rattle.dcsctp_spec_lemmas.specs.spec.SocketSnapshot.{snapshot_of}
use Rattle.dcsctp_spec_lemmas.specs.spec.association.Acts.{connect, abort_with, flushes, shut_down}
use Rattle.dcsctp_spec_lemmas.specs.spec.endpoint.CallTurns.{Transition, IsTurn, Turns, after_all}
use Rattle.dcsctp_spec_lemmas.specs.spec.endpoint.DataOutcomes.{AnswersTo, flush_to_peer}
use Rattle.dcsctp_spec_lemmas.specs.spec.endpoint.EndOutcomes.{aborting_outcome}
use Rattle.dcsctp_spec_lemmas.specs.spec.endpoint.Endpoint.{Endpoint, Core, closed, cookie_wait, cookie_echoed, open_in, held_by_core, fresh_endpoint}
use Rattle.dcsctp_spec_lemmas.specs.spec.endpoint.FlushOutcomes.{Answer, draft_to}
use Rattle.dcsctp_spec_lemmas.specs.spec.endpoint.HeartbeatOutcomes.{is_exhausted}
use Rattle.dcsctp_spec_lemmas.specs.spec.endpoint.MessageOutcomes.{sending_of}
use Rattle.dcsctp_spec_lemmas.specs.spec.endpoint.Outcome.{Outcome}
use Rattle.dcsctp_spec_lemmas.specs.spec.endpoint.OwnTimers.{OwnTimer, acknowledgement_delay, retransmission, heartbeat_interval, heartbeat_timeout, reconfiguration}
use Rattle.dcsctp_spec_lemmas.specs.spec.endpoint.TimeTurns.{Timer, t1_timer, own_timer, t2_timer, handled_timers, deadline, has_come, has_restart, t2_input, expiry_input, inputs_behind, after_expiries, ExpiryThen, ExpiryTurns, MomentTurns, TimeTurns}
use Rattle.dcsctp_spec_lemmas.specs.spec.endpoint.Turn.{Input, act_input, user_sets, user_sends, user_resets, user_takes, timer_expires, time_passes, restores}
use Rattle.dcsctp_spec_lemmas.specs.spec.endpoint.UserTurns.{UserTurns}
use Rattle.dcsctp_spec_laws.specs.TurnLaws.{ChunksAreControlled}
use Rattle.dcsctp_spec_runs.specs.Sockets.{inputs_where_valid, inputs_of_both, PerformedAct, Both, of_side, of_other, turns_after, endpoint_after, packets_shown, packet_at_number, side_of_act, side_turns_added, DeliveryTurns, TurnsOfAct, SocketRun}
use Rattle.dcsctp_theorem_transfer.specs.Deadlines.{IsOpen}
use Rattle.dcsctp_theorem_transfer.specs.Owing.{SocketsOweInTime}
use Rattle.dcsctp_theorem_transfer.proofs.Chunks.{IsMildTimer}
use Rattle.dcsctp_theorem_transfer.proofs.Delayed.{SettledLayer}
use Rattle.dcsctp_theorem_transfer.proofs.Layers.{EndpointIs, LeavesIt}
use Rattle.dcsctp_theorem_transfer.proofs.PacketEnds.{owes_by}
use Rattle.dcsctp_theorem_transfer.proofs.SettledCalls.{turns_stand, none_stand, input_stands}
use Rattle.dcsctp_theorem_transfer.proofs.SettledTurns.{SendsByRfc, Stands, IsStill, settled_stands, closed_stands, turn_options, turn_pending, still_stands, restored_stands}
use Rattle.dcsctp_theorem_transfer.proofs.Settling.{PendingLayer, flush_settles}
use Rattle.dcsctp_theorem_transfer.proofs.Turns.{MayBe}

-- ---- time

-- While timers expire: if one did, what is owed may be due.
record Expires (has_expired : Bool) (e : Endpoint) : Type 0 where
  sends : SendsByRfc e.options
  pending : EndpointIs PendingLayer e
  stands : has_expired ≡ false → Stands e

-- It is another one than the delay of an acknowledgement.
abbrev IsOther : Timer → Type 0
IsOther (own_timer timer) = IsMildTimer ⊥ timer
IsOther timer = Unit {0}

t2_still : (b : Bool) → IsStill (t2_input b)
t2_still true = tt
t2_still false = tt

t2_may : (b : Bool) → MayBe ⊥ (Unit {0}) (Unit {0}) (t2_input b)
t2_may true = tt
t2_may false = tt

own_may : (timer : OwnTimer) → MayBe ⊥ (Unit {0}) (Unit {0}) (timer_expires timer)
own_may acknowledgement_delay = tt
own_may retransmission = tt
own_may heartbeat_interval = tt
own_may heartbeat_timeout = tt
own_may reconfiguration = tt

expiry_may : (e : Endpoint) (timer : Timer) → MayBe ⊥ (Unit {0}) (Unit {0}) (expiry_input e timer)
expiry_may e t1_timer = tt
expiry_may e (own_timer timer) = own_may timer
expiry_may e t2_timer = t2_may (has_restart e.timers.t2)

expired_one : (e : Endpoint) (timer : Timer) (has_expired : Bool) (t : Transition) → IsTurn e (expiry_input e timer) t → Expires has_expired e → Expires true t.outcome.after
expired_one e timer has_expired t turn h =
    record {
      sends = turn_options e (expiry_input e timer) t.outcome turn.comes h.sends;
      pending = turn_pending e (expiry_input e timer) t (expiry_may e timer) turn h.pending;
      stands = λ not_yet. absurd (cc);
    }

closed_after : (e : Endpoint) (t : Transition) → IsTurn e (act_input (abort_with TooManyErrors)) t → IsOpen e.core → t.outcome.after.core ≡ closed
closed_after e t turn is = ap (λ (o : Outcome). o.after.core) turn.comes ∙ aborted e.core is
  where
    aborted : (core : Core) → IsOpen core → (aborting_outcome e core TooManyErrors).after.core ≡ closed
    aborted closed is = absurd is
    aborted (cookie_wait my) is = absurd is
    aborted (cookie_echoed my held cookie) is = absurd is
    aborted (open_in phase my held) is = refl

-- After the timers an open association is aborted, or what is owed goes out in a flush.
flush_by : (e : Endpoint) (peer : Option Held) (answers : List Answer) → held_by_core e.core ≡ peer → IsOpen e.core → SendsByRfc e.options → EndpointIs PendingLayer e → AnswersTo e peer answers
    → LeavesIt SettledLayer (flush_to_peer e peer answers)
flush_by e None answers known is sends h allowed = absurd (no_peer e.core known is)
  where
    no_peer : (core : Core) → held_by_core core ≡ None → IsOpen core → ⊥
    no_peer closed none is = is
    no_peer (cookie_wait my) none is = is
    no_peer (cookie_echoed my held cookie) none is = is
    no_peer (open_in phase my held) none is = absurd (cc)
flush_by e (Some held) answers known is sends h allowed = flush_settles e (draft_to held) answers sends.allows allowed h

flushed_stands : (e : Endpoint) (t : Transition) → IsTurn e (act_input flushes) t → IsOpen e.core → SendsByRfc e.options → EndpointIs PendingLayer e → Stands t.outcome.after
flushed_stands e t turn is sends h =
    settled_stands t.outcome.after (turn_options e (act_input flushes) t.outcome turn.comes sends)
    (subst (LeavesIt SettledLayer) (sym turn.comes.2) (flush_by e (held_by_core e.core) turn.comes.0 refl is sends h turn.comes.1))

aborted_stands : (e : Endpoint) (t : Transition) → IsTurn e (act_input (abort_with TooManyErrors)) t → IsOpen e.core → SendsByRfc e.options → EndpointIs PendingLayer e → Stands t.outcome.after
aborted_stands e t turn is sends h =
    closed_stands PendingLayer t.outcome.after (closed_after e t turn is) (turn_options e (act_input (abort_with TooManyErrors)) t.outcome turn.comes sends)
    (turn_pending e (act_input (abort_with TooManyErrors)) t tt turn h)

one_then : (e : Endpoint) (input : Input) (ts : List Transition) → Turns e (input ∷ []) ts → ((t : Transition) → IsTurn e input t → Stands t.outcome.after) → Stands (after_all e ts)
one_then e input [] turns stands = absurd turns
one_then e input (t ∷ ts) turns stands = turns_stand t.outcome.after [] ts tt turns.1 (stands t turns.0)

open_then : (b : Bool) (e : Endpoint) (ts : List Transition) → IsOpen e.core → SendsByRfc e.options → EndpointIs PendingLayer e
    → Turns e (if b then act_input (abort_with TooManyErrors) ∷ [] else act_input flushes ∷ []) ts → Stands (after_all e ts)
open_then true e ts is sends h turns = one_then e (act_input (abort_with TooManyErrors)) ts turns (λ t turn. aborted_stands e t turn is sends h)
open_then false e ts is sends h turns = one_then e (act_input flushes) ts turns (λ t turn. flushed_stands e t turn is sends h)

echoed_then : (b : Bool) (e : Endpoint) (ts : List Transition) → Turns e (if b then act_input (abort_with TooManyErrors) ∷ [] else []) ts → Stands e → Stands (after_all e ts)
echoed_then true e ts turns h = turns_stand e (act_input (abort_with TooManyErrors) ∷ []) ts (tt, tt) turns h
echoed_then false e ts turns h = turns_stand e [] ts tt turns h

-- One that isn't open owes nothing by then.
shut_stands : (e : Endpoint) → (IsOpen e.core → ⊥) → SendsByRfc e.options → EndpointIs PendingLayer e → Stands e
shut_stands e shut sends h = record { sends = sends; pending = h; settled = λ is. absurd (shut is) }

behind_stands : (e : Endpoint) (core : Core) (ts : List Transition) → e.core ≡ core → SendsByRfc e.options → EndpointIs PendingLayer e → Turns e (inputs_behind e core) ts → Stands (after_all e ts)
behind_stands e closed ts at sends h turns = turns_stand e [] ts tt turns (shut_stands e (λ is. subst IsOpen at is) sends h)
behind_stands e (cookie_wait my) ts at sends h turns = turns_stand e [] ts tt turns (shut_stands e (λ is. subst IsOpen at is) sends h)
behind_stands e (cookie_echoed my held cookie) ts at sends h turns =
    echoed_then (is_exhausted e.options.max_retransmissions e.error_count) e ts turns (shut_stands e (λ is. subst IsOpen at is) sends h)
behind_stands e (open_in phase my held) ts at sends h turns =
    open_then (is_exhausted e.options.max_retransmissions e.error_count) e ts (subst IsOpen (sym at) tt) sends h turns

after_stands : (has_expired : Bool) (e : Endpoint) (ts : List Transition) → Turns e (after_expiries e has_expired) ts → Expires has_expired e → Stands (after_all e ts)
after_stands false e ts turns h = turns_stand e [] ts tt turns (h.stands refl)
after_stands true e ts turns h = behind_stands e e.core ts refl h.sends h.pending turns

expiry_stands : (due : Bool) (Rest : Bool → Endpoint → List Transition → Type 0)
    → ((has_expired : Bool) (e : Endpoint) (ts : List Transition) → Rest has_expired e ts → Expires has_expired e → Stands (after_all e ts))
    → (e : Endpoint) (has_expired : Bool) (timer : Timer) (ts : List Transition) → ExpiryThen due Rest e has_expired timer ts → Expires has_expired e → Stands (after_all e ts)
expiry_stands true Rest rest e has_expired timer [] turns h = absurd turns
expiry_stands true Rest rest e has_expired timer (t ∷ ts) turns h = rest true t.outcome.after ts turns.1 (expired_one e timer has_expired t turns.0 h)
expiry_stands false Rest rest e has_expired timer ts turns h = rest has_expired e ts turns h

expiries_stand : (timers : List Timer) (has_expired : Bool) (e : Endpoint) (ts : List Transition) → ExpiryTurns timers has_expired e ts → Expires has_expired e → Stands (after_all e ts)
expiries_stand [] has_expired e ts turns h = after_stands has_expired e ts turns h
expiries_stand (timer ∷ timers) has_expired e ts turns h =
    expiry_stands (has_come e.moment (deadline e timer)) (ExpiryTurns timers) (expiries_stand timers) e has_expired timer ts turns h

moment_stands : (e : Endpoint) (moment : ℕ) (ts : List Transition) → MomentTurns e moment ts → Stands e → Stands (after_all e ts)
moment_stands e moment [] turns h = absurd turns
moment_stands e moment (t ∷ ts) turns h =
    let moved : Stands t.outcome.after = still_stands e (time_passes moment) t tt turns.0 h in
    expiries_stand (handled_timers t.outcome.after.core) false t.outcome.after ts turns.1 (record { sends = moved.sends; pending = moved.pending; stands = λ none. moved })

time_stands : (later : Bool) (e : Endpoint) (moment : ℕ) (ts : List Transition) → TimeTurns later e moment ts → Stands e → Stands (after_all e ts)
time_stands true e moment ts turns h = moment_stands e moment ts turns h
time_stands false e moment ts none h = none_stand e ts none h

-- ---- calls

handover_still : (readiness : ℕ) → AllByRecursion IsStill (inputs_of_handover readiness)
handover_still zero = (tt, tt)
handover_still (suc reasons) = tt

call_stands : (e : Endpoint) (call : CallContent) (ts : List Transition) → UserTurns e call ts → Stands e → Stands (after_all e ts)
call_stands e connect_call ts turns h = turns_stand e (act_input connect ∷ []) ts (tt, tt) turns h
call_stands e close_call ts turns h = turns_stand e (act_input (abort_with CloseCalled) ∷ []) ts (tt, tt) turns h
call_stands e shutdown_call ts turns h = turns_stand e (act_input shut_down ∷ []) ts (tt, tt) turns h
call_stands e (advance_call moment) ts turns h = time_stands (nat_le e.moment moment) e moment ts turns h
call_stands e (set_call setting) ts turns h = turns_stand e (user_sets setting ∷ []) ts (tt, tt) turns h
call_stands e (send_call message options) ts turns h = turns_stand e (user_sends (sending_of options message ∷ []) ∷ []) ts (tt, tt) turns h
call_stands e (send_many_call messages options) ts turns h = turns_stand e (user_sends (map (sending_of options) messages) ∷ []) ts (tt, tt) turns h
call_stands e (reset_call ids) ts turns h = turns_stand e (user_resets ids ∷ []) ts (tt, tt) turns h
call_stands e take_call ts turns h = turns_stand e (user_takes ∷ []) ts (tt, tt) turns h
call_stands e hand_over_call ts turns h = turns_stand e (inputs_of_handover (readiness_of e)) ts (handover_still (readiness_of e)) turns h

-- ---- acts from outside

abbrev Restores : Input → Type 0
Restores input = IsStill input ⊎ ((state : Snapshot) × (input ≡ restores state))

restores_stand : (e : Endpoint) (inputs : List Input) (ts : List Transition) → AllByRecursion Restores inputs → Turns e inputs ts → Stands e → Stands (after_all e ts)
restores_stand e [] [] may turns h = h
restores_stand e [] (t ∷ ts) may turns h = absurd turns
restores_stand e (input ∷ inputs) [] may turns h = absurd turns
restores_stand e (input ∷ inputs) (t ∷ ts) may turns h =
    let one : Stands t.outcome.after = elim may.0 [
      | inl still ↦ still_stands e input t still turns.0 h
      | inr is ↦ restored_stands e is.0 t (subst (λ (i : Input). IsTurn e i t) is.1 turns.0) h
    ] in
    restores_stand t.outcome.after inputs ts may.1 turns.1 one

snapshot_restores : (connection : HandoverSocketState) (state : Snapshot) → AllByRecursion Restores (inputs_of_snapshot connection state)
snapshot_restores states.Closed state = tt
snapshot_restores states.Connected state = (inr (state, refl), (inl tt, tt))

core_restores : (core : Core) (state : Snapshot) → AllByRecursion Restores (inputs_of_restore core state)
core_restores closed state = snapshot_restores state.socket_state state
core_restores (cookie_wait my) state = tt
core_restores (cookie_echoed my held cookie) state = tt
core_restores (open_in phase my held) state = tt

valid_restores : (valid : Bool) (core : Core) (state : Snapshot) → AllByRecursion Restores (inputs_where_valid valid core state)
valid_restores true core state = core_restores core state
valid_restores false core state = tt

both_restore : (readiness : ℕ) (state : Snapshot) → AllByRecursion Restores (inputs_of_both readiness state)
both_restore zero state = (inl tt, core_restores closed state)
both_restore (suc reasons) state = tt

-- ---- each act

delivery_stands : ChunksAreControlled → (e : Endpoint) (bytes : Option (List ℕ)) (ts : List Transition) → DeliveryTurns e bytes ts → Stands e → Stands (after_all e ts)
delivery_stands law e None ts none h = none_stand e ts none h
delivery_stands law e (Some bytes) ts turns h = input_stands law e bytes ts turns h

act_stands : ChunksAreControlled → (e : Endpoint) (packets : List (List ℕ)) (act : ActContent) (ts : List Transition) → TurnsOfAct e packets act ts → Stands e → Stands (after_all e ts)
act_stands law e packets (step_act (call_step side call)) ts turns h = call_stands e call ts turns h
act_stands law e packets (step_act (delivery_step side number)) ts turns h = delivery_stands law e (packet_at_number number packets) ts turns h
act_stands law e packets (outside_act (input_outside side bytes)) ts turns h = input_stands law e bytes ts turns h
act_stands law e packets (outside_act (handover_outside side)) ts turns h =
    restores_stand e (inputs_of_both (readiness_of e) (snapshot_of e)) ts (both_restore (readiness_of e) (snapshot_of e)) turns h
act_stands law e packets (outside_act (restore_outside side state)) ts turns h =
    restores_stand e (inputs_where_valid (is_valid_snapshot e.options state) e.core state) ts (valid_restores (is_valid_snapshot e.options state) e.core state) turns h

-- ---- a run

after_both : (e : Endpoint) (xs ys : List Transition) → after_all e (xs ++ ys) ≡ after_all (after_all e xs) ys
after_both e [] ys = refl
after_both e (x ∷ xs) ys = after_both x.outcome.after xs ys

abbrev SideStands : Both Options → Both (List Transition) → Side → Type 0
SideStands options turns side = SendsByRfc (of_side side options) → Stands (endpoint_after (of_side side options) (of_side side turns))

moved_stands : (options : Both Options) (turns : Both (List Transition)) (mover : Side) (more : List Transition)
    → (Stands (endpoint_after (of_side mover options) (of_side mover turns)) → Stands (after_all (endpoint_after (of_side mover options) (of_side mover turns)) more))
    → ((side : Side) → SideStands options turns side) → (side : Side) → SideStands options (side_turns_added mover more turns) side
moved_stands options turns sides.A more moves before sides.A = λ sends. subst Stands (sym (after_both (fresh_endpoint options.a) turns.a more)) (moves (before sides.A sends))
moved_stands options turns sides.A more moves before sides.B = before sides.B
moved_stands options turns sides.B more moves before sides.A = before sides.A
moved_stands options turns sides.B more moves before sides.B = λ sends. subst Stands (sym (after_both (fresh_endpoint options.b) turns.b more)) (moves (before sides.B sends))

run_stands : ChunksAreControlled → (options : Both Options) (run : List PerformedAct) → SocketRun options run → (side : Side) → SideStands options (turns_after run) side
run_stands law options [] runs sides.A = λ sends. settled_stands (fresh_endpoint options.a) sends tt
run_stands law options [] runs sides.B = λ sends. settled_stands (fresh_endpoint options.b) sends tt
run_stands law options (worked ∷ earlier) runs side =
    let before : Both (List Transition) = turns_after earlier in
    let mover : Side = side_of_act worked.act in
    moved_stands options before mover worked.turns
    (act_stands law (endpoint_after (of_side mover options) (of_side mover before)) (packets_shown (of_other mover options) (of_other mover before)) worked.act worked.turns runs.0)
    (λ (s : Side). run_stands law options earlier runs.1 s) side

pub sockets_owe_in_time : ChunksAreControlled → SocketsOweInTime
sockets_owe_in_time law options run runs side follows allows is =
    let e : Endpoint = endpoint_after (of_side side options) (of_side side (turns_after run)) in
    let stands : Stands e = run_stands law options run runs side (record { follows = follows; allows = allows }) in
    owes_by e.core e.options e.queues.transfer (stands.settled is)
