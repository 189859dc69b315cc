-- Acts of one socket in turn, and a run of two sockets with such acts behind it.
use Rattle.std.proofs.Common.{◌≡◌, ℕ, List, [], ◌∷◌, ◌++◌, map, refl, sym, ap, subst, ◌∙◌, append_assoc}
use Rattle.std.proofs.lemmas.List.{append-nil, map-append}
use Rattle.dcsctp_spec_runs.specs.Laws.{SocketsKeepOptions}
use Rattle.dcsctp_spec_runs.specs.Sockets.{Both, of_side, of_other, side_of_act, TurnsOfAct, NextTurns, PerformedAct, SocketRun, side_turns_added, turns_after, endpoint_after, packets_shown, acts_of}
use Rattle.dcsctp_delivery_sockets.specs.sockets.Delivery.{FitsAct, AreInMemory}
use Rattle.dcsctp_delivery_sockets.specs.sockets.UserMessages.{messages_of_input, messages_of_turns, messages_read_of_input, read_of}
use Rattle.dcsctp_channel_calls.specs.api.types.declared.options.Options.{Options}
use Rattle.dcsctp_channel_calls.specs.api.types.declared.schedule.Side.{Side}
use Rattle.dcsctp_channel_calls.specs.api.types.declared.schedule.Side.TheVariants as sides
use Rattle.dcsctp_channel_calls.specs.api.types.Schedule.{StepContent, step_act, AreHonest}
use Rattle.dcsctp_channel_calls.specs.api.types.Settings.{Ports, ports_of}
use Rattle.dcsctp_channel_calls.specs.api.types.queues.Messages.{MessageContent}
use Rattle.dcsctp_channel_calls.specs.api.spec.Packet.{Emission}
use Rattle.dcsctp_channel_calls.specs.api.spec.endpoint.CallTurns.{Transition, after_all, events_of}
use Rattle.dcsctp_channel_calls.specs.api.spec.endpoint.Endpoint.{Endpoint, fresh_endpoint}
use Rattle.dcsctp_channel_calls.specs.api.spec.endpoint.Event.{Event, packets_of_events}
use Rattle.dcsctp_channel_calls.specs.api.Calls.{user_event}
use Rattle.dcsctp_theorem_sockets.proofs.Bursts.{packets_of_events-append}

-- ---- lists of turns

pub after-append : (e : Endpoint) (xs ys : List Transition) → after_all e (xs ++ ys) ≡ after_all (after_all e xs) ys
after-append e [] ys = refl
after-append e (x ∷ xs) ys = after-append x.outcome.after xs ys

pub events-append : (xs ys : List Transition) → events_of (xs ++ ys) ≡ events_of xs ++ events_of ys
events-append [] ys = refl
events-append (x ∷ xs) ys = ap (λ (l : List (Event Emission)). x.outcome.events ++ l) (events-append xs ys) ∙ sym (append_assoc x.outcome.events (events_of xs) (events_of ys))

pub sent-append : (e : Endpoint) (xs ys : List Transition) → messages_of_turns e (xs ++ ys) ≡ messages_of_turns e xs ++ messages_of_turns (after_all e xs) ys
sent-append e [] ys = refl
sent-append e (t ∷ xs) ys =
    ap (λ (l : List MessageContent). messages_of_input e t.input ++ l) (sent-append t.outcome.after xs ys)
    ∙ sym (append_assoc (messages_of_input e t.input) (messages_of_turns t.outcome.after xs) (messages_of_turns (after_all t.outcome.after xs) ys))

pub read-append : (e : Endpoint) (xs ys : List Transition) → read_of e (xs ++ ys) ≡ read_of e xs ++ read_of (after_all e xs) ys
read-append e [] ys = refl
read-append e (t ∷ xs) ys =
    ap (λ (l : List MessageContent). messages_read_of_input e t.input ++ l) (read-append t.outcome.after xs ys)
    ∙ sym (append_assoc (messages_read_of_input e t.input) (read_of t.outcome.after xs) (read_of (after_all t.outcome.after xs) ys))

-- ---- a path

-- a step at this side, where the other has emitted these packets
pub record IsStepAt (side : Side) (packets : List (List ℕ)) (e : Endpoint) (worked : PerformedAct) : Type 0 where
  pub step : StepContent
  pub is : worked.act ≡ step_act step
  pub here : side_of_act worked.act ≡ side
  pub turns : TurnsOfAct e packets worked.act worked.turns
  pub fits : FitsAct worked.act

-- such steps in turn, oldest first
abbrev pub IsPath : Side → List (List ℕ) → Endpoint → List PerformedAct → Type 0
IsPath side packets e [] = Unit {0}
IsPath side packets e (worked ∷ path) = IsStepAt side packets e worked × IsPath side packets (after_all e worked.turns) path

abbrev pub turns_on : List PerformedAct → List Transition
turns_on [] = []
turns_on (worked ∷ path) = worked.turns ++ turns_on path

pub turns_on-append : (xs ys : List PerformedAct) → turns_on (xs ++ ys) ≡ turns_on xs ++ turns_on ys
turns_on-append [] ys = refl
turns_on-append (x ∷ xs) ys = ap (λ (l : List Transition). x.turns ++ l) (turns_on-append xs ys) ∙ sym (append_assoc x.turns (turns_on xs) (turns_on ys))

pub path_then : (side : Side) (packets : List (List ℕ)) (e : Endpoint) (xs ys : List PerformedAct) → IsPath side packets e xs → IsPath side packets (after_all e (turns_on xs)) ys
    → IsPath side packets e (xs ++ ys)
path_then side packets e [] ys first second = second
path_then side packets e (x ∷ xs) ys (step, first) second =
    (step, path_then side packets (after_all e x.turns) xs ys first (subst (λ (f : Endpoint). IsPath side packets f ys) (after-append e x.turns (turns_on xs)) second))

-- ---- packets

-- what these turns emit, as a socket with these ports
abbrev pub packets_by : Ports → List Transition → List (List ℕ)
packets_by ports turns = packets_of_events (map (user_event ports) (events_of turns))

pub packets_by-append : (ports : Ports) (xs ys : List Transition) → packets_by ports (xs ++ ys) ≡ packets_by ports xs ++ packets_by ports ys
packets_by-append ports xs ys =
    ap (λ (l : List (Event Emission)). packets_of_events (map (user_event ports) l)) (events-append xs ys)
    ∙ ap packets_of_events (map-append (user_event ports) (events_of xs) (events_of ys))
    ∙ packets_of_events-append (map (user_event ports) (events_of xs)) (map (user_event ports) (events_of ys))

-- The ports stay along a path.
pub ports_stay : SocketsKeepOptions → (side : Side) (packets : List (List ℕ)) (e : Endpoint) (path : List PerformedAct) → IsPath side packets e path
    → ports_of (after_all e (turns_on path)).options ≡ ports_of e.options
ports_stay keep side packets e [] is = refl
ports_stay keep side packets e (worked ∷ path) (step, rest) =
    ap (λ (f : Endpoint). ports_of f.options) (after-append e worked.turns (turns_on path)) ∙ ports_stay keep side packets (after_all e worked.turns) path rest
    ∙ ap ports_of (keep.act e packets worked.act worked.turns step.turns)

-- ---- a run, and a path behind it

-- the run with these steps behind it: the newest comes first
abbrev pub run_with : List PerformedAct → List PerformedAct → List PerformedAct
run_with [] run = run
run_with (worked ∷ path) run = run_with path (worked ∷ run)

-- What a path at this side makes of a run.
pub record RunsOn (options : Both Options) (side : Side) (path run : List PerformedAct) : Type 0 where
  pub sockets : SocketRun options (run_with path run)
  pub in_memory : AreInMemory (acts_of run) → AreInMemory (acts_of (run_with path run))
  pub honest : AreHonest (acts_of run) → AreHonest (acts_of (run_with path run))
  pub mine : of_side side (turns_after (run_with path run)) ≡ of_side side (turns_after run) ++ turns_on path
  pub others : of_other side (turns_after (run_with path run)) ≡ of_other side (turns_after run)

turns_here : (act_side side : Side) (turns : List Transition) (before : Both (List Transition)) → act_side ≡ side → of_side side (side_turns_added act_side turns before) ≡ of_side side before ++ turns
turns_here sides.A sides.A turns before is = refl
turns_here sides.B sides.B turns before is = refl
turns_here sides.A sides.B turns before is = absurd cc
turns_here sides.B sides.A turns before is = absurd cc

turns_there : (act_side side : Side) (turns : List Transition) (before : Both (List Transition)) → act_side ≡ side → of_other side (side_turns_added act_side turns before) ≡ of_other side before
turns_there sides.A sides.A turns before is = refl
turns_there sides.B sides.B turns before is = refl
turns_there sides.A sides.B turns before is = absurd cc
turns_there sides.B sides.A turns before is = absurd cc

next_is : (options : Both Options) (before : Both (List Transition)) (side : Side) (packets : List (List ℕ)) (e : Endpoint) (worked : PerformedAct) → IsStepAt side packets e worked
    → e ≡ endpoint_after (of_side side options) (of_side side before) → packets ≡ packets_shown (of_other side options) (of_other side before)
    → NextTurns options before worked.act worked.turns
next_is options before side packets e worked step starts emitted =
    subst (λ (s : Side). TurnsOfAct (endpoint_after (of_side s options) (of_side s before)) (packets_shown (of_other s options) (of_other s before)) worked.act worked.turns) (sym step.here)
    (subst (λ (f : Endpoint). TurnsOfAct f (packets_shown (of_other side options) (of_other side before)) worked.act worked.turns) starts
    (subst (λ (p : List (List ℕ)). TurnsOfAct e p worked.act worked.turns) emitted step.turns))

honest_step : (worked : PerformedAct) (run : List PerformedAct) (step : StepContent) → worked.act ≡ step_act step → AreHonest (acts_of run) → AreHonest (acts_of (worked ∷ run))
honest_step worked run step is honest = subst (λ act. AreHonest (act ∷ acts_of run)) (sym is) (tt, honest)

pub runs_on : (options : Both Options) (side : Side) (packets : List (List ℕ)) (e : Endpoint) (path run : List PerformedAct) → IsPath side packets e path → SocketRun options run
    → e ≡ endpoint_after (of_side side options) (of_side side (turns_after run)) → packets ≡ packets_shown (of_other side options) (of_other side (turns_after run))
    → RunsOn options side path run
runs_on options side packets e [] run is sockets starts emitted =
    record { sockets = sockets; in_memory = λ h. h; honest = λ h. h; mine = sym (append-nil (of_side side (turns_after run))); others = refl }
runs_on options side packets e (worked ∷ path) run (step, is) sockets starts emitted =
    let mine = turns_here (side_of_act worked.act) side worked.turns (turns_after run) step.here in
    let others = turns_there (side_of_act worked.act) side worked.turns (turns_after run) step.here in
    let next = runs_on options side packets (after_all e worked.turns) path (worked ∷ run) is (next_is options (turns_after run) side packets e worked step starts emitted, sockets)
    (ap (λ (f : Endpoint). after_all f worked.turns) starts ∙ sym (after-append (fresh_endpoint (of_side side options)) (of_side side (turns_after run)) worked.turns)
    ∙ ap (λ (l : List Transition). endpoint_after (of_side side options) l) (sym mine))
    (emitted ∙ ap (λ (l : List Transition). packets_shown (of_other side options) l) (sym others)) in
    record {
      sockets = next.sockets;
      in_memory = λ h. next.in_memory (step.fits, h);
      honest = λ h. next.honest (honest_step worked run step.step step.is h);
      mine = next.mine ∙ ap (λ (l : List Transition). l ++ turns_on path) mine ∙ append_assoc (of_side side (turns_after run)) worked.turns (turns_on path);
      others = next.others ∙ others;
    }
