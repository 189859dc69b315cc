-- The turns of the calls that hand a socket over and restore it.
use Rattle.std.proofs.Common.{◌≡◌, ◌≢◌, ◌⊎◌, ◌==◌, inl, inr, ℕ, zero, suc, Bool, true, false, Result, Ok, Err, List, [], ◌∷◌, ◌++◌, refl, sym, ap, subst, ◌∙◌, arith}
use Rattle.std.proofs.lemmas.Bool.Decides.{nat_tests}
use Rattle.rand_core.specs.Stream.{Stream}
use Rattle.dcsctp_core.specs.types.declared.snapshot.HandoverSocketState.{HandoverSocketState}
use Rattle.dcsctp_core.specs.types.declared.snapshot.HandoverSocketState.TheVariants as states
use Rattle.dcsctp_core.specs.types.declared.snapshot.SocketHandoverState.{SocketHandoverState}
use Rattle.dcsctp_core.specs.spec.endpoint.Endpoint.{Endpoint, Core, closed, cookie_wait, cookie_echoed, open_in}
use Rattle.dcsctp_core.specs.spec.endpoint.Event.{Event}
use Rattle.dcsctp_core.specs.spec.Handover.{readiness_of}
use Rattle.dcsctp_core.specs.spec.endpoint.Outcome.{Outcome}
use Rattle.dcsctp_core.specs.types.Settings.{Ports, ports_of}
use Rattle.dcsctp_core.specs.types.Snapshot.{Snapshot, snapshot, is_valid_snapshot}
use Rattle.dcsctp_core.specs.spec.SocketSnapshot.{snapshot_of}
use Rattle.dcsctp_core.specs.spec.Soundness.{IsSound, AreQueuesSound}
use Rattle.dcsctp_spec_laws.specs.SoundnessLaws.{SnapshotsAreValid}
use Rattle.dcsctp_core.specs.spec.endpoint.Turn.{act_input, restores}
use Rattle.dcsctp_core.specs.spec.association.Acts.{flushes, hands_over}
use Rattle.dcsctp_core.specs.spec.endpoint.DataOutcomes.{FlushTurn}
use Rattle.dcsctp_core.specs.spec.endpoint.RestoreOutcomes.{RestoreTurn}
use Rattle.dcsctp_core.specs.spec.endpoint.CallTurns.{Transition, transition, Turns}
use Rattle.dcsctp_core.specs.spec.HandoverInputs.{inputs_of_handover, inputs_of_snapshot, inputs_of_restore}
use Rattle.dcsctp_core.specs.api.declared.errors.HandoverError.TheVariants.{NotReady}
use Rattle.dcsctp_core.specs.api.declared.errors.RestoreError.TheVariants.{SocketNotClosed}
use Rattle.dcsctp_core.specs.api.Calls.{AddsFirstEvents, is_closed}
use Rattle.dcsctp_core.specs.api.Handover.{IsHandoverAnswer, RestoreTurns}
use Rattle.dcsctp_core.specs.View.{View, call_start, Moves, MovesAll, CallMoves}
use Rattle.dcsctp_core.specs.Handling.{TakesPossibleTurn, CutsSomeTurn, SendsQueued}
use Rattle.dcsctp_core.proofs.Moving.{moves_one, moves_then}
use Rattle.dcsctp_core_handover.specs.Handover.{hand_over_turn, restore_turn}
use Rattle.dcsctp_socket_calls.specs.Parts.{MovesByCall, CutsTurns, RestoringTurns, FirstOfRestore}
use Rattle.dcsctp_socket_calls.proofs.CallLemmas.{adds_none, adds_cut}
use Rattle.dcsctp_socket_calls.proofs.DispatchLemmas.{moves_none}

-- ---- a handover

-- the turns of a handover
abbrev HandoverTurns : Endpoint → List Transition → Type 0
HandoverTurns e turns = Turns e (inputs_of_handover (readiness_of e)) turns

no_turn_at : (e : Endpoint) (readiness : ℕ) → readiness ≢ 0 → Turns e (inputs_of_handover readiness) []
no_turn_at e zero some = absurd (some refl)
no_turn_at e (suc reasons) some = tt

-- It isn't ready.
pub handover_refused : {R : Type 0} (stream : R → Stream) (old start : View R) → start ≡ call_start old → readiness_of old.endpoint ≢ 0 → MovesByCall stream HandoverTurns old start
handover_refused {R} stream old start begins some =
    record {
      turns = [];
      are = no_turn_at old.endpoint (readiness_of old.endpoint) some;
      moves = subst (λ (v : View R). CallMoves stream old [] v) (sym begins) (moves_none stream (call_start old));
    }

pub handed_over : {R : Type 0} (stream : R → Stream) (old start new : View R) → start ≡ call_start old → readiness_of old.endpoint ≡ 0
    → Moves stream start (hand_over_turn start) new → MovesByCall stream HandoverTurns old new
handed_over {R} stream old start new begins ready moves =
    let one : Transition = transition (act_input hands_over) (hand_over_turn (call_start old)) in
    record {
      turns = one ∷ [];
      are = subst (λ (n : ℕ). Turns old.endpoint (inputs_of_handover n) (one ∷ [])) (sym ready) (record { is = refl; comes = refl }, tt);
      moves = moves_one stream (call_start old) new one (subst (λ (v : View R). Moves stream v (hand_over_turn v) new) begins moves);
    }

-- ---- a restore

no_turn_open : (e : Endpoint) (core : Core) (state : Snapshot) → is_closed core ≡ false → Turns e (inputs_of_restore core state) []
no_turn_open e closed state is_open = absurd (cc)
no_turn_open e (cookie_wait my) state is_open = tt
no_turn_open e (cookie_echoed my held cookie) state is_open = tt
no_turn_open e (open_in phase my held) state is_open = tt

no_turn_from_closed : (e : Endpoint) (core : Core) (connection : HandoverSocketState) (state : Snapshot) → connection ≡ states.Closed → state.socket_state ≡ connection → Turns e (inputs_of_restore core state) []
no_turn_from_closed e closed connection state none is = subst (λ (c : HandoverSocketState). Turns e (inputs_of_snapshot c state) []) (sym (is ∙ none)) tt
no_turn_from_closed e (cookie_wait my) connection state none is = tt
no_turn_from_closed e (cookie_echoed my held cookie) connection state none is = tt
no_turn_from_closed e (open_in phase my held) connection state none is = tt

unmoved : {R : Type 0} (stream : R → Stream) (old start : View R) (state : Snapshot) → start ≡ call_start old → Turns old.endpoint (inputs_of_restore old.endpoint.core state) []
    → MovesByCall stream (RestoringTurns state) old start
unmoved {R} stream old start state begins none =
    record { turns = []; are = none; moves = subst (λ (v : View R). CallMoves stream old [] v) (sym begins) (moves_none stream (call_start old)) }

pub restore_refused : {R : Type 0} (stream : R → Stream) (old start : View R) (state : Snapshot) → start ≡ call_start old → is_closed old.endpoint.core ≡ false
    → MovesByCall stream (RestoringTurns state) old start
restore_refused stream old start state begins is_open = unmoved stream old start state begins (no_turn_open old.endpoint old.endpoint.core state is_open)

pub nothing_restored : {R : Type 0} (stream : R → Stream) (old start : View R) (state : Snapshot) → start ≡ call_start old → state.socket_state ≡ states.Closed
    → MovesByCall stream (RestoringTurns state) old start
nothing_restored stream old start state begins none = unmoved stream old start state begins (no_turn_from_closed old.endpoint old.endpoint.core state.socket_state state none refl)

-- the turn of a restore, and that of the flush after it
both_at : (e : Endpoint) (core : Core) (state : Snapshot) (connection : HandoverSocketState) (first second : Transition) → core ≡ closed → connection ≡ states.Connected
    → Turns e (restores state ∷ act_input flushes ∷ []) (first ∷ second ∷ []) → (state.socket_state ≡ connection) → Turns e (inputs_of_restore core state) (first ∷ second ∷ [])
both_at e closed state connection first second none connected turns is =
    subst (λ (c : HandoverSocketState). Turns e (inputs_of_snapshot c state) (first ∷ second ∷ [])) (sym (is ∙ connected)) turns
both_at e (cookie_wait my) state connection first second none connected turns is = absurd (cc)
both_at e (cookie_echoed my held cookie) state connection first second none connected turns is = absurd (cc)
both_at e (open_in phase my held) state connection first second none connected turns is = absurd (cc)

options_stay : (e : Endpoint) (core : Core) (state : Snapshot) (o : Outcome) → RestoreTurn e core state o → ports_of o.after.options ≡ ports_of e.options
options_stay e closed state o turn = ap (λ (x : Outcome). ports_of x.after.options) turn.2
options_stay e (cookie_wait my) state o turn = ap (λ (x : Outcome). ports_of x.after.options) turn
options_stay e (cookie_echoed my held cookie) state o turn = ap (λ (x : Outcome). ports_of x.after.options) turn
options_stay e (open_in phase my held) state o turn = ap (λ (x : Outcome). ports_of x.after.options) turn

turns_of_both : {R : Type 0} (stream : R → Stream) (a b : View R) (state : Snapshot) (h : TakesPossibleTurn stream (restore_turn state) a b) (o : Outcome) → a.endpoint.core ≡ closed → state.socket_state ≡ states.Connected
    → SendsQueued b o → Turns a.endpoint (inputs_of_restore a.endpoint.core state) (transition (restores state) h.outcome ∷ transition (act_input flushes) o ∷ [])
turns_of_both stream a b state h o none connected flush =
    both_at a.endpoint a.endpoint.core state state.socket_state (transition (restores state) h.outcome) (transition (act_input flushes) o) none connected
    (record { is = refl; comes = h.turn }, (record { is = refl; comes = subst (λ (e : Endpoint). FlushTurn e o) h.moves.endpoint flush }, tt)) refl

both_moved : {R : Type 0} (stream : R → Stream) (a b c : View R) (state : Snapshot) (h : TakesPossibleTurn stream (restore_turn state) a b) (f : TakesPossibleTurn stream SendsQueued b c)
    → MovesAll stream a (transition (restores state) h.outcome ∷ transition (act_input flushes) f.outcome ∷ []) c
both_moved stream a b c state h f =
    moves_then stream a b c (transition (restores state) h.outcome ∷ []) (transition (act_input flushes) f.outcome ∷ []) (options_stay a.endpoint a.endpoint.core state h.outcome h.turn)
    (moves_one stream a b (transition (restores state) h.outcome) h.moves) (moves_one stream b c (transition (act_input flushes) f.outcome) f.moves)

pub restored : {R : Type 0} (stream : R → Stream) (old start mid new : View R) (state : Snapshot) → start ≡ call_start old → old.endpoint.core ≡ closed → state.socket_state ≡ states.Connected
    → TakesPossibleTurn stream (restore_turn state) start mid → TakesPossibleTurn stream SendsQueued mid new → MovesByCall stream (RestoringTurns state) old new
restored {R} stream old start mid new state begins none connected first f =
    let h : TakesPossibleTurn stream (restore_turn state) (call_start old) mid = subst (λ (v : View R). TakesPossibleTurn stream (restore_turn state) v mid) begins first in
    record {
      turns = transition (restores state) h.outcome ∷ transition (act_input flushes) f.outcome ∷ [];
      are = turns_of_both stream (call_start old) mid state h f.outcome none connected f.turn;
      moves = both_moved stream (call_start old) mid new state h f;
    }

-- ---- an allocation failed

pub restore_unmade : {R : Type 0} (old : View R) (state : Snapshot) (events : List (Event (List ℕ))) → events ≡ old.events
    → CutsTurns (FirstOfRestore state) old events
restore_unmade old state events same =
    record { turns = []; are = inl refl; adds = subst (λ (es : List (Event (List ℕ))). AddsFirstEvents (ports_of old.endpoint.options) [] old.events es) (sym same) (adds_none (ports_of old.endpoint.options) old.events) }

pub restore_cut : {R : Type 0} (stream : R → Stream) (old start mid : View R) (state : Snapshot) (events : List (Event (List ℕ))) → start ≡ call_start old → old.endpoint.core ≡ closed
    → state.socket_state ≡ states.Connected → TakesPossibleTurn stream (restore_turn state) start mid → CutsSomeTurn SendsQueued mid events
    → CutsTurns (FirstOfRestore state) old events
restore_cut {R} stream old start mid state events begins none connected first f =
    let h : TakesPossibleTurn stream (restore_turn state) (call_start old) mid = subst (λ (v : View R). TakesPossibleTurn stream (restore_turn state) v mid) begins first in
    let ports : ports_of mid.endpoint.options ≡ ports_of old.endpoint.options = ap (λ (e : Endpoint). ports_of e.options) h.moves.endpoint ∙ options_stay old.endpoint old.endpoint.core state h.outcome h.turn in
    record {
      turns = transition (restores state) h.outcome ∷ transition (act_input flushes) f.outcome ∷ [];
      are = inr (turns_of_both stream (call_start old) mid state h f.outcome none connected f.turn);
      adds = adds_cut stream (call_start old) mid (transition (restores state) h.outcome ∷ []) (transition (act_input flushes) f.outcome) events ports
          (moves_one stream (call_start old) mid (transition (restores state) h.outcome) h.moves) f.cut;
    }

-- ---- by what was asked

ready_by : (is_ready : Bool) (readiness : ℕ) → is_ready ≡ (readiness == 0) → is_ready ≡ true → readiness ≡ 0
ready_by is_ready readiness is test = let zero : (readiness == 0) ≡ true = sym is ∙ test in grind (arith, nat_tests)

refused_by : (is_ready : Bool) (readiness : ℕ) → is_ready ≡ (readiness == 0) → is_ready ≡ false → readiness ≢ 0
refused_by is_ready readiness is test none = let both : (0 == 0) ≡ false = ap (λ (n : ℕ). n == 0) (sym none) ∙ sym is ∙ test in absurd (cc)

closed_by : (is_closed_now : Bool) (core : Core) → is_closed_now ≡ is_closed core → is_closed_now ≡ true → core ≡ closed
closed_by is_closed_now closed is test = refl
closed_by is_closed_now (cookie_wait my) is test = absurd (cc)
closed_by is_closed_now (cookie_echoed my held cookie) is test = absurd (cc)
closed_by is_closed_now (open_in phase my held) is test = absurd (cc)

pub works_refused : {R : Type 0} (stream : R → Stream) (old start : View R) (is_ready : Bool) (readiness : ℕ) → start ≡ call_start old → readiness ≡ readiness_of start.endpoint
    → is_ready ≡ (readiness == 0) → is_ready ≡ false → ((readiness_of old.endpoint ≢ 0) × (readiness ≡ readiness_of old.endpoint)) × MovesByCall stream HandoverTurns old start
works_refused {R} stream old start is_ready readiness begins is ready test =
    let own : readiness ≡ readiness_of old.endpoint = is ∙ ap (λ (v : View R). readiness_of v.endpoint) begins in
    let some : readiness_of old.endpoint ≢ 0 = subst (λ (n : ℕ). n ≢ 0) own (refused_by is_ready readiness ready test) in
    ((some, own), handover_refused stream old start begins some)

pub works_handed_over : {R : Type 0} (stream : R → Stream) (old start new : View R) (is_ready : Bool) (readiness : ℕ) (state : Snapshot) → SnapshotsAreValid
    → IsSound old.endpoint → AreQueuesSound start.endpoint → start ≡ call_start old
    → readiness ≡ readiness_of start.endpoint → is_ready ≡ (readiness == 0) → is_ready ≡ true → state ≡ snapshot_of start.endpoint → Moves stream start (hand_over_turn start) new
    → ((readiness_of old.endpoint ≡ 0) × (state ≡ snapshot_of old.endpoint) × (is_valid_snapshot old.endpoint.options state ≡ true)) × MovesByCall stream HandoverTurns old new
works_handed_over {R} stream old start new is_ready readiness state law sound below begins is ready test same moves =
    let none : readiness_of old.endpoint ≡ 0 = sym (ap (λ (v : View R). readiness_of v.endpoint) begins) ∙ sym is ∙ ready_by is_ready readiness ready test in
    let own : state ≡ snapshot_of old.endpoint = same ∙ ap (λ (v : View R). snapshot_of v.endpoint) begins in
    let here : AreQueuesSound old.endpoint = subst (λ (v : View R). AreQueuesSound v.endpoint) begins below in
    let valid : is_valid_snapshot old.endpoint.options state ≡ true =
    subst (λ (s : Snapshot). is_valid_snapshot old.endpoint.options s ≡ true) (sym own) (law old.endpoint sound here none) in
    ((none, own, valid), handed_over stream old start new begins none moves)

pub works_restored : {R : Type 0} (stream : R → Stream) (old start mid new : View R) (is_closed_now : Bool) (state : Snapshot) → start ≡ call_start old
    → is_closed_now ≡ is_closed start.endpoint.core → is_closed_now ≡ true → state.socket_state ≡ states.Connected
    → TakesPossibleTurn stream (restore_turn state) start mid → TakesPossibleTurn stream SendsQueued mid new
    → (is_closed old.endpoint.core ≡ true) × MovesByCall stream (RestoringTurns state) old new
works_restored {R} stream old start mid new is_closed_now state begins is test connected first f =
    let none : old.endpoint.core ≡ closed = sym (ap (λ (v : View R). v.endpoint.core) begins) ∙ closed_by is_closed_now start.endpoint.core is test in
    (ap is_closed none, restored stream old start mid new state begins none connected first f)

pub works_restore_cut : {R : Type 0} (stream : R → Stream) (old start mid : View R) (is_closed_now : Bool) (state : Snapshot) (events : List (Event (List ℕ))) → start ≡ call_start old
    → is_closed_now ≡ is_closed start.endpoint.core → is_closed_now ≡ true → state.socket_state ≡ states.Connected
    → TakesPossibleTurn stream (restore_turn state) start mid → CutsSomeTurn SendsQueued mid events
    → CutsTurns (FirstOfRestore state) old events
works_restore_cut {R} stream old start mid is_closed_now state events begins is test connected first f =
    restore_cut stream old start mid state events begins (sym (ap (λ (v : View R). v.endpoint.core) begins) ∙ closed_by is_closed_now start.endpoint.core is test) connected first f
