-- What holds of one socket of a run, whatever bytes it is handed. It is about the numbers of
-- requests, by what they end, how its ends are reported, how long its packets are and how many a
-- turn sends, and what time does.
use Rattle.std.specs.Prelude.{◌≡◌, ◌≢◌, ◌≤◌, ◌<◌, ℕ, suc, List, [], ◌∷◌, length}
use Rattle.std.specs.List.{AllByRecursion}
use Rattle.dcsctp_spec_lemmas.specs.wire.declared.reconfiguration.ReconfigurationResponseResult.{ReconfigurationResponseResult}
use Rattle.dcsctp_spec_lemmas.specs.types.declared.association.Pair.{Pair}
use Rattle.dcsctp_spec_lemmas.specs.types.declared.options.Options.{Options}
use Rattle.dcsctp_spec_lemmas.specs.types.declared.schedule.Side.{Side}
use Rattle.dcsctp_spec_lemmas.specs.types.Settings.{packet_size_limit, IsValid}
use Rattle.dcsctp_spec_lemmas.specs.spec.association.Effect.{completes, fails}
use Rattle.dcsctp_spec_lemmas.specs.spec.endpoint.Event.{Event, closed, aborted, packets_of_events}
use Rattle.dcsctp_spec_lemmas.specs.spec.Packet.{Emission}
use Rattle.dcsctp_spec_lemmas.specs.spec.endpoint.Endpoint.{Endpoint, fresh_endpoint}
use Rattle.dcsctp_spec_lemmas.specs.spec.endpoint.Endpoint as machine
use Rattle.dcsctp_spec_lemmas.specs.spec.endpoint.Outcome.{Outcome}
use Rattle.dcsctp_spec_lemmas.specs.spec.endpoint.Turn.{Input, chunk_input}
use Rattle.dcsctp_spec_lemmas.specs.spec.endpoint.CallTurns.{Transition, AlongTurns}
use Rattle.dcsctp_spec_lemmas.specs.types.Schedule.{call_step, advance_call, ActContent, step_act}
use Rattle.dcsctp_spec_lemmas.specs.spec.endpoint.TimeTurns.{Waits, MoveClock}
use Rattle.dcsctp_spec_runs.specs.Past.{HasEffect, Each, InPlace}
use Rattle.dcsctp_spec_runs.specs.Sockets.{PerformedAct, Both, of_side, turns_after, endpoint_after, packets_shown, side_of_act, SocketRun}
use Rattle.dcsctp_theorem_association.specs.OneSide.{IsSuccess, IsRefusal, HasResponse, parameters_of_content}
use Rattle.dcsctp_theorem_sockets.specs.Agreement.{AreUsable, recorded_past}
use Rattle.dcsctp_theorem_sockets.specs.Bursts.{flush_limit, packets_of}

-- Each effect of a socket's turns is in its order (RFC 6525, section 4.1). In one lifetime an association connects at most once,
-- and its own requests go up by one, one at a time. So do the peer's accepted ones, and each of these is performed at most once.
abbrev pub SocketEffectsInPlace : Type 0
SocketEffectsInPlace =
    (options : Both Options) (run : List PerformedAct) → AreUsable options → SocketRun options run → (side : Side)
    → Each InPlace (recorded_past (of_side side (turns_after run)))

-- The input is a RE-CONFIG with an answer to this number of this kind.
abbrev pub BearsAnswer : (ReconfigurationResponseResult → Type 0) → ℕ → Input → Type 0
BearsAnswer Kind number (chunk_input tag content) = HasResponse Kind number (parameters_of_content content)
BearsAnswer Kind number input = ⊥

-- Its own request ends in a turn of such a chunk, and in no other (RFC 6525, section 5.2.7).
pub record EndsByAnswer (turn : Transition) : Type 0 where
  pub completed : (my : Pair) (number : ℕ) → HasEffect (completes my number) turn.outcome.effects → BearsAnswer IsSuccess number turn.input
  pub failed : (number : ℕ) → HasEffect (fails number) turn.outcome.effects → BearsAnswer IsRefusal number turn.input

abbrev pub SocketRequestsEndByAnswers : Type 0
SocketRequestsEndByAnswers =
    (options : Both Options) (run : List PerformedAct) → SocketRun options run → (side : Side)
    → AllByRecursion EndsByAnswer (of_side side (turns_after run))

-- ---- ends

-- how many of these events end an association
abbrev pub end_event_count : List (Event Emission) → ℕ
end_event_count [] = 0
end_event_count (closed ∷ events) = suc (end_event_count events)
end_event_count (aborted kind text ∷ events) = suc (end_event_count events)
end_event_count (event ∷ events) = end_event_count events

-- A turn that leads to Closed from another phase adds OnClosed or OnAborted once, and any other turn adds neither (RFC 9260,
-- section 9).
pub data ReportsEnd (e : Endpoint) (turn : Transition) : Type 0 where
  it_ends : e.core ≢ machine.closed → turn.outcome.after.core ≡ machine.closed → end_event_count turn.outcome.events ≡ 1 → ReportsEnd e turn
  it_stays : (turn.outcome.after.core ≡ machine.closed → e.core ≡ machine.closed) → end_event_count turn.outcome.events ≡ 0 → ReportsEnd e turn

abbrev pub SocketsReportEnds : Type 0
SocketsReportEnds =
    (options : Both Options) (run : List PerformedAct) → SocketRun options run → (side : Side)
    → AlongTurns ReportsEnd (fresh_endpoint (of_side side options)) (of_side side (turns_after run))

-- ---- sizes

-- The packet, with its common header of 12 bytes, is no longer than `mtu`, rounded down to a multiple of 4 (RFC 9260, section 3).
abbrev pub IsWithinLimit : Options → List ℕ → Type 0
IsWithinLimit options packet = length packet ≤ packet_size_limit options

-- No packet that a socket ever emits is longer, if its options are valid.
abbrev pub SocketsKeepSizes : Type 0
SocketsKeepSizes =
    (options : Both Options) (run : List PerformedAct) → SocketRun options run → (side : Side) → IsValid (of_side side options)
    → AllByRecursion (IsWithinLimit (of_side side options)) (packets_shown (of_side side options) (of_side side (turns_after run)))

-- ---- flushes

-- A turn sends no more packets than its input allows. How many of them a flush may send is a matter of `max_burst`, and of the
-- association that the turn leads to.
abbrev pub KeepsBurst : Endpoint → Input → Outcome → Type 0
KeepsBurst e input o = length (packets_of_events o.events) ≤ packets_of e.options e.core input (flush_limit e.options.max_burst o.after.core)

abbrev pub TurnKeepsBurst : Endpoint → Transition → Type 0
TurnKeepsBurst e turn = KeepsBurst e turn.input turn.outcome

abbrev pub SocketsKeepBursts : Type 0
SocketsKeepBursts =
    (options : Both Options) (run : List PerformedAct) → SocketRun options run → (side : Side)
    → AlongTurns TurnKeepsBurst (fresh_endpoint (of_side side options)) (of_side side (turns_after run))

-- ---- time

-- The user moves the time. Before the next deadline only the clock moves, but in CookieEchoed. An earlier moment changes nothing.
abbrev pub IsQuiet : Endpoint → ActContent → List Transition → Type 0
IsQuiet e (step_act (call_step side (advance_call moment))) turns = (Waits e moment → MoveClock e moment turns) × (moment < e.moment → turns ≡ [])
IsQuiet e act turns = Unit {0}

-- each act of a run, from what the acts before it left
abbrev pub TimeIsQuiet : Both Options → List PerformedAct → Type 0
TimeIsQuiet options [] = Unit {0}
TimeIsQuiet options (worked ∷ earlier) =
    IsQuiet (endpoint_after (of_side (side_of_act worked.act) options) (of_side (side_of_act worked.act) (turns_after earlier))) worked.act worked.turns
    × TimeIsQuiet options earlier

abbrev pub SocketsWaitQuietly : Type 0
SocketsWaitQuietly = (options : Both Options) (run : List PerformedAct) → SocketRun options run → TimeIsQuiet options run
