-- A lost COOKIE ECHO and a lost COOKIE ACK are made good (RFC 9260, sections 5.1 and 5.2.4, D).
use Rattle.std.specs.Prelude.{◌≡◌, ℕ, suc, List, ◌∷◌, ◌++◌}
use Rattle.dcsctp_spec_lemmas.specs.types.declared.association.Pair.{Pair}
use Rattle.dcsctp_spec_lemmas.specs.types.declared.options.Options.{Options}
use Rattle.dcsctp_spec_lemmas.specs.types.declared.schedule.Side.TheVariants as sides
use Rattle.dcsctp_spec_lemmas.specs.types.Schedule.{advance_call, call_step, delivery_step, step_act}
use Rattle.dcsctp_spec_lemmas.specs.spec.Cookie.{Cookie}
use Rattle.dcsctp_spec_lemmas.specs.spec.endpoint.Endpoint.{Endpoint}
use Rattle.dcsctp_spec_lemmas.specs.spec.endpoint.CallTurns.{Transition, after_all, events_of}
use Rattle.dcsctp_spec_runs.specs.Sockets.{PerformedAct, Both, endpoint_after, turns_after, SocketRun}
use Rattle.dcsctp_theorem_sockets.specs.Agreement.{AreUsable}
use Rattle.dcsctp_theorem_sockets.specs.Handshake.{AreFitting, connections_of_events}
use Rattle.dcsctp_theorem_progress.specs.Rounds.{counts_shown}
use Rattle.dcsctp_theorem_progress.specs.LostInits.{KeepsOptions, AreLinked}
use Rattle.dcsctp_theorem_progress.specs.Cookies.{AwaitsAck, MissedEcho, HadEcho}

-- After these turns of each both are linked. The one that waited told OnConnected once, and the other that often.
pub record ConnectLast (e f : Endpoint) (p q : Pair) (tells : ℕ) (here there : List Transition) : Type 0 where
  pub linked : AreLinked (after_all e here) (after_all f there) e.options f.options p q
  pub once_here : connections_of_events (events_of here) ≡ 1
  pub tells_there : connections_of_events (events_of there) ≡ tells

-- After the run A's clock goes to this moment, and then COOKIE ECHO and COOKIE ACK are delivered.
abbrev pub run_with_echo_again : ℕ → Both ℕ → List Transition → List Transition → List Transition → List PerformedAct → List PerformedAct
run_with_echo_again moment shown o1 o2 o3 earlier =
    record { act = step_act (delivery_step sides.A (suc shown.b)); turns = o3 }
    ∷ record { act = step_act (delivery_step sides.B (suc shown.a)); turns = o2 }
    ∷ record { act = step_act (call_step sides.A (advance_call moment)); turns = o1 }
    ∷ earlier

abbrev pub LostEchoesAreMadeGood : Type 0
LostEchoesAreMadeGood =
    (options : Both Options) (earlier : List PerformedAct) (cookie : Cookie) (bytes : List ℕ) (moment : ℕ) (o1 o2 o3 : List Transition) →
    AreUsable options → AreFitting options →
    let turns = turns_after earlier in
    let e = endpoint_after options.a turns.a in
    let f = endpoint_after options.b turns.b in
    KeepsOptions options.a e → KeepsOptions options.b f → AwaitsAck e f cookie bytes moment → MissedEcho f cookie
    → SocketRun options (run_with_echo_again moment (counts_shown options turns) o1 o2 o3 earlier)
    → ConnectLast e f cookie.addressee cookie.maker 1 (o1 ++ o3) o2

abbrev pub LostAcksAreMadeGood : Type 0
LostAcksAreMadeGood =
    (options : Both Options) (earlier : List PerformedAct) (cookie : Cookie) (bytes : List ℕ) (moment : ℕ) (o1 o2 o3 : List Transition) →
    AreUsable options → AreFitting options →
    let turns = turns_after earlier in
    let e = endpoint_after options.a turns.a in
    let f = endpoint_after options.b turns.b in
    KeepsOptions options.a e → KeepsOptions options.b f → AwaitsAck e f cookie bytes moment → HadEcho e f cookie
    → SocketRun options (run_with_echo_again moment (counts_shown options turns) o1 o2 o3 earlier)
    → ConnectLast e f cookie.addressee cookie.maker 0 (o1 ++ o3) o2
