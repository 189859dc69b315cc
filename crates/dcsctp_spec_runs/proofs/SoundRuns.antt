-- Each socket of a run of two stays sound.
use Rattle.std.proofs.Common.{◌≡◌, ℕ, zero, suc, Bool, true, false, List, [], ◌∷◌, refl}
use Rattle.std.specs.List.{AllByRecursion}
use Rattle.dcsctp_spec_lemmas.specs.types.declared.options.Options.{Options}
use Rattle.dcsctp_spec_lemmas.specs.types.declared.schedule.Side.{Side}
use Rattle.dcsctp_spec_lemmas.specs.types.declared.schedule.Side.TheVariants as sides
use Rattle.dcsctp_spec_lemmas.specs.spec.endpoint.CallTurns.{Transition, AlongTurns}
use Rattle.dcsctp_spec_lemmas.specs.spec.endpoint.Endpoint.{Endpoint, Core, closed, cookie_wait, cookie_echoed, open_in, fresh_endpoint}
use Rattle.dcsctp_spec_lemmas.specs.spec.Handover.{readiness_of}
use Rattle.dcsctp_spec_lemmas.specs.types.Schedule.{OutsideContent, input_outside, handover_outside, restore_outside, ActContent, step_act, outside_act}
use Rattle.dcsctp_spec_lemmas.specs.types.Snapshot.{Snapshot, is_valid_snapshot}
use Rattle.dcsctp_spec_lemmas.specs.spec.SocketSnapshot.{snapshot_by_core, snapshot_of}
use Rattle.dcsctp_spec_lemmas.specs.spec.HandoverInputs.{inputs_of_snapshot}
use Rattle.dcsctp_spec_runs.specs.Sockets.{inputs_where_valid, inputs_of_both, OutsideTurns, TurnsOfAct, Both, of_side, of_other, PerformedAct, SocketRun, turns_after, endpoint_after, packets_shown, side_of_act}
use Rattle.dcsctp_spec_lemmas.specs.spec.Soundness.{IsSoundCore, IsSound}
use Rattle.dcsctp_spec_runs.specs.SoundRuns.{SocketsStaySound}
use Rattle.dcsctp_spec_laws.proofs.AlongLemmas.{turns_along, input_along_where}
use Rattle.dcsctp_spec_runs.proofs.RunsAlong.{step_along, GoodSide, next_along}
use Rattle.dcsctp_spec_laws.proofs.SoundTurns.{MaySound, KeepsSound, turn_sound, these_may_come, all_sound, restore_says}

-- ---- acts from outside

-- the tags of its own snapshot
own_says : (e : Endpoint) (core : Core) → IsSoundCore e.options core → AllByRecursion MaySound (inputs_of_snapshot (snapshot_by_core e core).socket_state (snapshot_by_core e core))
own_says e closed h = tt
own_says e (cookie_wait my) h = tt
own_says e (cookie_echoed my held cookie) h = tt
own_says e (open_in phase my held) h = ((h.0, h.1.tag_is_not_zero), (tt, tt))

both_says : (e : Endpoint) (readiness : ℕ) → IsSound e → AllByRecursion MaySound (inputs_of_both readiness (snapshot_of e))
both_says e zero h = (tt, own_says e e.core h)
both_says e (suc reasons) h = tt

valid_says : (is_valid : Bool) (p : Options) (core : Core) (state : Snapshot) → is_valid_snapshot p state ≡ is_valid → AllByRecursion MaySound (inputs_where_valid is_valid core state)
valid_says true p core state is = restore_says p core state is
valid_says false p core state is = tt

outside_along : (e : Endpoint) (outside : OutsideContent) (ts : List Transition) → IsSound e → OutsideTurns e outside ts → AlongTurns KeepsSound e ts
outside_along e (input_outside side bytes) ts h turns = input_along_where KeepsSound MaySound these_may_come turn_sound e bytes ts turns
outside_along e (handover_outside side) ts h turns =
    turns_along KeepsSound MaySound these_may_come turn_sound e (inputs_of_both (readiness_of e) (snapshot_of e)) ts (both_says e (readiness_of e) h) turns
outside_along e (restore_outside side state) ts h turns =
    turns_along KeepsSound MaySound these_may_come turn_sound e (inputs_where_valid (is_valid_snapshot e.options state) e.core state) ts
    (valid_says (is_valid_snapshot e.options state) e.options e.core state refl) turns

act_along : (e : Endpoint) (packets : List (List ℕ)) (act : ActContent) (ts : List Transition) → IsSound e → TurnsOfAct e packets act ts → AlongTurns KeepsSound e ts
act_along e packets (step_act step) ts h turns = step_along KeepsSound MaySound these_may_come turn_sound e packets step ts turns
act_along e packets (outside_act outside) ts h turns = outside_along e outside ts h turns

-- ---- a run

run_along : (options : Both Options) (run : List PerformedAct) → SocketRun options run → (side : Side) → GoodSide KeepsSound options (turns_after run) side
run_along options [] runs sides.A = tt
run_along options [] runs sides.B = tt
run_along options (worked ∷ earlier) runs side =
    let before : Both (List Transition) = turns_after earlier in
    let mover : Side = side_of_act worked.act in
    let start : Endpoint = fresh_endpoint (of_side mover options) in
    let sound : IsSound (endpoint_after (of_side mover options) (of_side mover before)) = all_sound start (of_side mover before) (run_along options earlier runs.1 mover) tt in
    next_along KeepsSound options before mover worked.turns
    (act_along (endpoint_after (of_side mover options) (of_side mover before)) (packets_shown (of_other mover options) (of_other mover before)) worked.act worked.turns sound runs.0)
    (λ (s : Side). run_along options earlier runs.1 s) side

pub sockets_stay_sound : SocketsStaySound
sockets_stay_sound options run runs side = all_sound (fresh_endpoint (of_side side options)) (of_side side (turns_after run)) (run_along options run runs side) tt
