-- What holds of each turn of a socket that may come, whatever goes in, holds along each step, each act and each run.
use Rattle.std.proofs.Common.{ℕ, zero, suc, Bool, true, false, Option, None, Some, List, [], ◌∷◌, sym, subst}
use Rattle.std.specs.List.{AllByRecursion}
use Rattle.dcsctp_spec_lemmas.specs.types.declared.options.Options.{Options}
use Rattle.dcsctp_spec_lemmas.specs.types.declared.schedule.Side.{Side}
use Rattle.dcsctp_spec_lemmas.specs.types.declared.schedule.Side.TheVariants as sides
use Rattle.dcsctp_spec_lemmas.specs.types.declared.snapshot.HandoverSocketState.{HandoverSocketState}
use Rattle.dcsctp_spec_lemmas.specs.types.declared.snapshot.HandoverSocketState.TheVariants as states
use Rattle.dcsctp_spec_lemmas.specs.types.Schedule.{StepContent, call_step, delivery_step, OutsideContent, input_outside, handover_outside, restore_outside, ActContent, step_act, outside_act}
use Rattle.dcsctp_spec_lemmas.specs.spec.endpoint.Endpoint.{Endpoint, Core, closed, cookie_wait, cookie_echoed, open_in, fresh_endpoint}
use Rattle.dcsctp_spec_lemmas.specs.spec.endpoint.Turn.{Input, restores}
use Rattle.dcsctp_spec_lemmas.specs.spec.endpoint.CallTurns.{Transition, IsTurn, AlongTurns}
use Rattle.dcsctp_spec_lemmas.specs.spec.Handover.{readiness_of}
use Rattle.dcsctp_spec_lemmas.specs.types.Snapshot.{Snapshot, is_valid_snapshot}
use Rattle.dcsctp_spec_lemmas.specs.spec.SocketSnapshot.{snapshot_of}
use Rattle.dcsctp_spec_lemmas.specs.spec.HandoverInputs.{inputs_of_snapshot, inputs_of_restore}
use Rattle.dcsctp_spec_runs.specs.Sockets.{inputs_where_valid, inputs_of_both, Both, of_side, of_other, StepTurns, DeliveryTurns, packet_at_number, side_turns_added, PerformedAct, SocketRun, turns_after, endpoint_after, packets_shown, side_of_act, OutsideTurns, TurnsOfAct}
use Rattle.dcsctp_spec_laws.proofs.AlongLemmas.{MayCome, Anything, anything_may_come, any_along, along_append, turns_along, input_along_where, call_along}

-- ---- what may come

-- whatever is restored
abbrev pub MayRestore : (Input → Type 0) → Type 0
MayRestore May = (state : Snapshot) → May (restores state)

snapshot_may : (May : Input → Type 0) → MayCome May → MayRestore May → (connection : HandoverSocketState) (state : Snapshot)
    → AllByRecursion May (inputs_of_snapshot connection state)
snapshot_may May come restored states.Closed state = tt
snapshot_may May come restored states.Connected state = (restored state, (come.flushed, tt))

restore_may : (May : Input → Type 0) → MayCome May → MayRestore May → (core : Core) (state : Snapshot) → AllByRecursion May (inputs_of_restore core state)
restore_may May come restored closed state = snapshot_may May come restored state.socket_state state
restore_may May come restored (cookie_wait my) state = tt
restore_may May come restored (cookie_echoed my held cookie) state = tt
restore_may May come restored (open_in phase my held) state = tt

valid_may : (May : Input → Type 0) → MayCome May → MayRestore May → (is_valid : Bool) (core : Core) (state : Snapshot)
    → AllByRecursion May (inputs_where_valid is_valid core state)
valid_may May come restored true core state = restore_may May come restored core state
valid_may May come restored false core state = tt

both_may : (May : Input → Type 0) → MayCome May → MayRestore May → (readiness : ℕ) (state : Snapshot) → AllByRecursion May (inputs_of_both readiness state)
both_may May come restored zero state = (come.hands_over, restore_may May come restored closed state)
both_may May come restored (suc reasons) state = tt

-- ---- each act

module _ (Good : Endpoint → Transition → Type 0) (May : Input → Type 0) (come : MayCome May)
    (each : (e : Endpoint) (input : Input) (t : Transition) → May input → IsTurn e input t → Good e t) where
  pub delivery_along : (e : Endpoint) (bytes : Option (List ℕ)) (ts : List Transition) → DeliveryTurns e bytes ts → AlongTurns Good e ts
  delivery_along e None ts none = subst (AlongTurns Good e) (sym none) tt
  delivery_along e (Some bytes) ts turns = input_along_where Good May come each e bytes ts turns

  pub step_along : (e : Endpoint) (packets : List (List ℕ)) (step : StepContent) (ts : List Transition) → StepTurns e packets step ts → AlongTurns Good e ts
  step_along e packets (call_step side call) ts turns = call_along Good May come each e call ts turns
  step_along e packets (delivery_step side number) ts turns = delivery_along e (packet_at_number number packets) ts turns

  outside_along : MayRestore May → (e : Endpoint) (outside : OutsideContent) (ts : List Transition) → OutsideTurns e outside ts → AlongTurns Good e ts
  outside_along restored e (input_outside side bytes) ts turns = input_along_where Good May come each e bytes ts turns
  outside_along restored e (handover_outside side) ts turns =
      turns_along Good May come each e (inputs_of_both (readiness_of e) (snapshot_of e)) ts (both_may May come restored (readiness_of e) (snapshot_of e)) turns
  outside_along restored e (restore_outside side state) ts turns =
      turns_along Good May come each e (inputs_where_valid (is_valid_snapshot e.options state) e.core state) ts (valid_may May come restored (is_valid_snapshot e.options state) e.core state) turns

  act_along_where : MayRestore May → (e : Endpoint) (packets : List (List ℕ)) (act : ActContent) (ts : List Transition) → TurnsOfAct e packets act ts → AlongTurns Good e ts
  act_along_where restored e packets (step_act step) ts turns = step_along e packets step ts turns
  act_along_where restored e packets (outside_act outside) ts turns = outside_along restored e outside ts turns

module _ (Good : Endpoint → Transition → Type 0) (each : (e : Endpoint) (input : Input) (t : Transition) → IsTurn e input t → Good e t) where
  pub act_along : (e : Endpoint) (packets : List (List ℕ)) (act : ActContent) (ts : List Transition) → TurnsOfAct e packets act ts → AlongTurns Good e ts
  act_along e packets act ts turns = act_along_where Good Anything anything_may_come (any_along Good each) (λ state. tt) e packets act ts turns

-- ---- a run

abbrev pub GoodSide : (Endpoint → Transition → Type 0) → Both Options → Both (List Transition) → Side → Type 0
GoodSide Good options turns side = AlongTurns Good (fresh_endpoint (of_side side options)) (of_side side turns)

pub next_along : (Good : Endpoint → Transition → Type 0) (options : Both Options) (turns : Both (List Transition)) (mover : Side) (more : List Transition)
    → AlongTurns Good (endpoint_after (of_side mover options) (of_side mover turns)) more
    → ((side : Side) → GoodSide Good options turns side) → (side : Side) → GoodSide Good options (side_turns_added mover more turns) side
next_along Good options turns sides.A more here before sides.A = along_append Good (fresh_endpoint options.a) turns.a more (before sides.A) here
next_along Good options turns sides.A more here before sides.B = before sides.B
next_along Good options turns sides.B more here before sides.A = before sides.A
next_along Good options turns sides.B more here before sides.B = along_append Good (fresh_endpoint options.b) turns.b more (before sides.B) here

pub run_along_where : (Good : Endpoint → Transition → Type 0) (May : Input → Type 0) → MayCome May → MayRestore May
    → ((e : Endpoint) (input : Input) (t : Transition) → May input → IsTurn e input t → Good e t)
    → (options : Both Options) (run : List PerformedAct) → SocketRun options run → (side : Side) → GoodSide Good options (turns_after run) side
run_along_where Good May come restored each options [] runs sides.A = tt
run_along_where Good May come restored each options [] runs sides.B = tt
run_along_where Good May come restored each options (worked ∷ earlier) runs side =
    let before : Both (List Transition) = turns_after earlier in
    let mover : Side = side_of_act worked.act in
    next_along Good options before mover worked.turns
    (act_along_where Good May come each restored (endpoint_after (of_side mover options) (of_side mover before)) (packets_shown (of_other mover options) (of_other mover before)) worked.act worked.turns runs.0)
    (λ (s : Side). run_along_where Good May come restored each options earlier runs.1 s) side

pub run_along : (Good : Endpoint → Transition → Type 0) → ((e : Endpoint) (input : Input) (t : Transition) → IsTurn e input t → Good e t)
    → (options : Both Options) (run : List PerformedAct) → SocketRun options run → (side : Side) → GoodSide Good options (turns_after run) side
run_along Good each options run runs side = run_along_where Good Anything anything_may_come (λ state. tt) (λ e input t may turn. each e input t turn) options run runs side
