-- A round connects two sockets that can.
use Rattle.std.proofs.Common.{◌≡◌, ℕ, List, [], ◌∷◌, refl, sym, ap, subst, ◌∙◌}
use Rattle.rand_core.specs.Stream.{Stream}
use Rattle.dcsctp_core.specs.types.declared.options.Options.{Options}
use Rattle.dcsctp_core.specs.types.declared.schedule.Side.TheVariants as sides
use Rattle.dcsctp_core.specs.types.Settings.{ports_of}
use Rattle.dcsctp_core.specs.spec.Packet.{emission_bytes}
use Rattle.dcsctp_core.specs.spec.endpoint.Endpoint.{Endpoint}
use Rattle.dcsctp_core.specs.spec.endpoint.Event.{Event}
use Rattle.dcsctp_core.specs.spec.endpoint.CallTurns.{Transition, events_of}
use Rattle.dcsctp_spec_runs.specs.Sockets.{PerformedAct, Both, turns_after, endpoint_after}
use Rattle.dcsctp_theorem_sockets.specs.Handshake.{connections_of_events}
use Rattle.dcsctp_theorem_progress.specs.Connecting.{MayConnect, connections_once_open, HaveConnected}
use Rattle.dcsctp_theorem_progress.specs.Throughout.{RoundsConnect, ConnectOverRounds}
use Rattle.dcsctp_theorem_progress.specs.LostInits.{KeepsOptions}
use Rattle.dcsctp_theorem_progress.specs.Rounds.{counts_shown, QuietRound, QuietRounds}
use Rattle.dcsctp_world.specs.Acts.{Ran}
use Rattle.dcsctp_world.specs.Promises.{Promises}
use Rattle.dcsctp_world.specs.Recording.{Recording}
use Rattle.dcsctp_world.specs.Rounds.{emitted_counts, ShowsRounds, Settles, CanConnect, HaveConnectedSince, HasSettled}
use Rattle.dcsctp_world.specs.Run.{SideRuns, IsRun}
use Rattle.dcsctp_world.specs.Shown.{ShownSide, WorldView, options_of}
use Rattle.dcsctp_world.proofs.Agreeing.{connections_shown}
use Rattle.dcsctp_world.proofs.Following.{ran_none_is}
use Rattle.dcsctp_world.proofs.Settling.{counts_are}

-- at the end of the run
at_end : (options : Both Options) (run : List PerformedAct) → ConnectOverRounds options run → RoundsConnect options run
at_end options [] h = h
at_end options (worked ∷ earlier) h = h.0

one_round : (options : Both Options) (settled settled' : Both ℕ) (earlier run : List PerformedAct) → QuietRounds options 1 settled earlier settled' run → QuietRound options settled earlier settled' run
one_round options settled settled' earlier run h =
    subst (λ (s : Both ℕ). QuietRound options settled earlier s run) (sym h.3.0) (subst (λ (r : List PerformedAct). QuietRound options settled earlier h.0 r) (sym h.3.1) h.2)

-- how often a side has reported OnConnected
told : {R : Type 0} (options : Options) (turns : List Transition) (side : ShownSide R) → SideRuns options turns side → connections_of_events side.events ≡ connections_of_events (events_of turns)
told options turns side h = ap (λ (events : List (Event (List ℕ))). connections_of_events events) h.events ∙ connections_shown (emission_bytes (ports_of options)) (events_of turns)

-- as often as before, by the run and by what the world shows
once_open : {R : Type 0} (options : Options) (turns : List Transition) (side : ShownSide R) → SideRuns options turns side
    → connections_once_open (endpoint_after options turns).core (connections_of_events (events_of turns)) ≡ connections_once_open side.socket.view.endpoint.core (connections_of_events side.events)
once_open options turns side h =
    ap (λ (e : Endpoint). connections_once_open e.core (connections_of_events (events_of turns))) (sym h.endpoint)
    ∙ ap (connections_once_open side.socket.view.endpoint.core) (sym (told options turns side h))

-- by a run of each
shows_connected : {R : Type 0} (old new : WorldView R) (before : IsRun (options_of old) old) (after : IsRun (options_of old) new)
    → HaveConnected (options_of old) (turns_after before.steps) (turns_after after.steps) → HaveConnectedSince old new
shows_connected old new before after h =
    let options : Both Options = options_of old in
    record {
      a_pair = h.p;
      b_pair = h.q;
      linked = record {
        here = ap (λ (e : Endpoint). e.core) (after.sides sides.A).endpoint ∙ h.linked.here;
        there = ap (λ (e : Endpoint). e.core) (after.sides sides.B).endpoint ∙ h.linked.there;
      };
      told_a = told options.a (turns_after after.steps).a new.sides.a (after.sides sides.A) ∙ h.told_a
          ∙ once_open options.a (turns_after before.steps).a old.sides.a (before.sides sides.A);
      told_b = told options.b (turns_after after.steps).b new.sides.b (after.sides sides.B) ∙ h.told_b
          ∙ once_open options.b (turns_after before.steps).b old.sides.b (before.sides sides.B);
    }

pub round_connects : {R : Type 0} (old new : WorldView (Recording R)) (settled : Both ℕ) → Promises old → Promises new
    → ((options : Both Options) (earlier : IsRun options old) → ShowsRounds options 1 (emitted_counts old) earlier.steps settled new) → CanConnect old → HaveConnectedSince old new
round_connects old new settled before after quiet can =
    let options : Both Options = options_of old in
    let run : IsRun options old = before.run in
    let turns : Both (List Transition) = turns_after run.steps in
    let h : ShowsRounds options 1 (emitted_counts old) run.steps settled new = quiet options run in
    let a : old.sides.a.socket.view.endpoint ≡ endpoint_after options.a turns.a = (run.sides sides.A).endpoint in
    let b : old.sides.b.socket.view.endpoint ≡ endpoint_after options.b turns.b = (run.sides sides.B).endpoint in
    let round : QuietRound options (counts_shown options turns) run.steps settled h.shown.steps =
    subst (λ (s : Both ℕ). QuietRound options s run.steps settled h.shown.steps) (counts_are options old run) (one_round options (emitted_counts old) settled run.steps h.shown.steps h.quiet) in
    let trying : MayConnect 1 (endpoint_after options.a turns.a) (endpoint_after options.b turns.b) =
    subst (λ (e : Endpoint). MayConnect 1 (endpoint_after options.a turns.a) e) b (subst (λ (e : Endpoint). MayConnect 1 e old.sides.b.socket.view.endpoint) a can.trying) in
    let ends : RoundsConnect options h.shown.steps = at_end options h.shown.steps (after.connects options h.shown can.fit) in
    shows_connected old new run h.shown
    (ends.trying 0 settled run.steps run.steps (subst (KeepsOptions options.a) a can.keeps_a) (subst (KeepsOptions options.b) b can.keeps_b) trying refl round)

-- All that `settle` does.
pub settle_done : {R : Type 0} (stream : R → Stream) (count : ℕ) (settled : Both ℕ) (old start new : WorldView (Recording R)) → Ran stream [] old start → Settles stream count (emitted_counts old) settled old new
    → HasSettled stream count old new
settle_done {R = R} stream count settled old start new ran h =
    record {
      settled = settled;
      rounds = h;
      connects = λ one can.
          let before : Promises old = subst (λ (w : WorldView (Recording R)). Promises w) (ran_none_is stream old start ran) ran.keeps in
          let once : Settles stream 1 (emitted_counts old) settled old new = subst (λ (n : ℕ). Settles stream n (emitted_counts old) settled old new) one h in
          round_connects old new settled before once.ran.keeps once.continues can;
    }
