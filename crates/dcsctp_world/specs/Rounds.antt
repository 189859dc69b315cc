-- Quiet rounds of a world: what its two sockets do when nothing comes from outside, and no packet is lost.
use Rattle.std.specs.Prelude.{◌≡◌, ◌-◌, ℕ, zero, suc, min, Result, List, [], ◌∷◌, ◌++◌, length}
use Rattle.rand_core.specs.Stream.{Stream}
use Rattle.dcsctp_core.specs.types.declared.association.Pair.{Pair}
use Rattle.dcsctp_core.specs.types.declared.options.Options.{Options}
use Rattle.dcsctp_core.specs.types.declared.schedule.Side.{Side}
use Rattle.dcsctp_core.specs.types.declared.schedule.Side.TheVariants as sides
use Rattle.dcsctp_core.specs.types.Schedule.{advance_call, StepContent, call_step, delivery_step}
use Rattle.dcsctp_core.specs.spec.endpoint.TimeTurns.{next_moment}
use Rattle.dcsctp_core.specs.api.Calls.{ByFault}
use Rattle.dcsctp_core.specs.api.declared.errors.SocketFault.{SocketFault}
use Rattle.dcsctp_spec_runs.specs.Sockets.{PerformedAct, Both}
use Rattle.dcsctp_theorem_sockets.specs.Handshake.{AreFitting, connections_of_events}
use Rattle.dcsctp_theorem_progress.specs.Rounds.{QuietRounds}
use Rattle.dcsctp_theorem_progress.specs.LostInits.{KeepsOptions, AreLinked}
use Rattle.dcsctp_theorem_progress.specs.Connecting.{MayConnect, connections_once_open}
use Rattle.dcsctp_world.specs.declared.rounds.Counts.{Counts}
use Rattle.dcsctp_world.specs.Acts.{Ran, RanOutAmong, WorldStaysFailed}
use Rattle.dcsctp_world.specs.Recording.{Recording}
use Rattle.dcsctp_world.specs.Run.{IsRun}
use Rattle.dcsctp_world.specs.Shown.{WorldView, options_of}

-- ---- the steps of a round

-- how many packets each side has emitted
abbrev pub emitted_counts : {R : Type 0} → WorldView R → Both ℕ
emitted_counts world = record { a = length world.sides.a.packets; b = length world.sides.b.packets }

abbrev pub both_counts : Counts → Both ℕ
both_counts counts = record { a = counts.a; b = counts.b }

-- the earlier of the moments at which the two are due
abbrev pub earlier_moment : {R : Type 0} → WorldView R → ℕ
earlier_moment world = min (next_moment world.sides.a.socket.view.endpoint) (next_moment world.sides.b.socket.view.endpoint)

abbrev pub clock_steps : ℕ → List StepContent
clock_steps moment = call_step sides.A (advance_call moment) ∷ call_step sides.B (advance_call moment) ∷ []

-- The packets after the first ones are delivered to this side, each once, in order.
abbrev pub delivery_steps : Side → ℕ → ℕ → List StepContent
delivery_steps side first zero = []
delivery_steps side first (suc more) = delivery_step side (suc first) ∷ delivery_steps side (suc first) more

-- All packets between these counts are delivered, first to B, then to A.
abbrev pub exchange_steps : Both ℕ → Both ℕ → List StepContent
exchange_steps settled shown = delivery_steps sides.B settled.a (shown.a - settled.a) ++ delivery_steps sides.A settled.b (shown.b - settled.b)

-- ---- what the parts of `settle` do

-- An allocation failed at one of some steps. Those before it were applied, one after another.
pub record RanOutOnTheWay {R : Type 0} (stream : R → Stream) (old new : WorldView (Recording R)) : Type 0 where
  pub steps : List StepContent
  pub ran_out : RanOutAmong stream steps old new

-- It is done; or an allocation failed on the way; or the world had failed.
abbrev pub RunsOn : {R A : Type 0} → (R → Stream) → (A → Type 0) → WorldView (Recording R) → Result A SocketFault → WorldView (Recording R) → Type 0
RunsOn stream Done old result new = ByFault Done (RanOutOnTheWay stream old new) (WorldStaysFailed old new) result

-- All that was emitted since these counts was delivered. The counts from before it say what is settled then.
abbrev pub ExchangesOnce : {R : Type 0} → (R → Stream) → Both ℕ → WorldView (Recording R) → Result Counts SocketFault → WorldView (Recording R) → Type 0
ExchangesOnce stream settled old result new =
    RunsOn stream (λ shown. (both_counts shown ≡ emitted_counts old) × Ran stream (exchange_steps settled (emitted_counts old)) old new) old result new

-- The world shows a run that is this earlier one, and so many quiet rounds after it.
pub record ShowsRounds {R : Type 0} (options : Both Options) (count : ℕ) (settled : Both ℕ) (earlier : List PerformedAct) (settled' : Both ℕ) (world : WorldView R) : Type 0 where
  pub shown : IsRun options world
  pub quiet : QuietRounds options count settled earlier settled' shown.steps

-- Some steps were applied, by which each run that the old world shows continues by so many quiet rounds. What is settled before
-- and after them is delivered, or lost.
pub record Settles {R : Type 0} (stream : R → Stream) (count : ℕ) (settled settled' : Both ℕ) (old new : WorldView (Recording R)) : Type 0 where
  pub steps : List StepContent
  pub ran : Ran stream steps old new
  pub continues : (options : Both Options) (earlier : IsRun options old) → ShowsRounds options count settled earlier.steps settled' new

abbrev pub SettlesOnce : {R : Type 0} → (R → Stream) → Both ℕ → WorldView (Recording R) → Result Counts SocketFault → WorldView (Recording R) → Type 0
SettlesOnce stream settled old result new = RunsOn stream (λ shown. Settles stream 1 settled (both_counts shown) old new) old result new

-- ---- what `settle` does

-- The sockets can connect in one round: one awaits an INIT ACK and the other is closed, or both await one, or one awaits a COOKIE
-- ACK and the other takes its cookie, or is Established by it. T1 may restart, and no setting was changed.
pub record CanConnect {R : Type 0} (world : WorldView R) : Type 0 where
  pub fit : AreFitting (options_of world)
  pub keeps_a : KeepsOptions world.sides.a.options world.sides.a.socket.view.endpoint
  pub keeps_b : KeepsOptions world.sides.b.options world.sides.b.socket.view.endpoint
  pub trying : MayConnect 1 world.sides.a.socket.view.endpoint world.sides.b.socket.view.endpoint

-- Both are Established and crossed, and each that wasn't open has reported OnConnected once more.
pub record HaveConnectedSince {R : Type 0} (old new : WorldView R) : Type 0 where
  pub a_pair : Pair
  pub b_pair : Pair
  pub linked : AreLinked new.sides.a.socket.view.endpoint new.sides.b.socket.view.endpoint old.sides.a.options old.sides.b.options a_pair b_pair
  pub told_a : connections_of_events new.sides.a.events ≡ connections_once_open old.sides.a.socket.view.endpoint.core (connections_of_events old.sides.a.events)
  pub told_b : connections_of_events new.sides.b.events ≡ connections_once_open old.sides.b.socket.view.endpoint.core (connections_of_events old.sides.b.events)

-- So many quiet rounds were made, and all packets from before them are lost.
pub record HasSettled {R : Type 0} (stream : R → Stream) (count : ℕ) (old new : WorldView (Recording R)) : Type 0 where
  pub settled : Both ℕ
  pub rounds : Settles stream count (emitted_counts old) settled old new
  -- One connects two sockets that can.
  pub connects : count ≡ 1 → CanConnect old → HaveConnectedSince old new

abbrev pub SettlesOrFails : {R : Type 0} → (R → Stream) → ℕ → WorldView (Recording R) → Result (Unit {0}) SocketFault → WorldView (Recording R) → Type 0
SettlesOrFails stream count old result new = RunsOn stream (λ done. HasSettled stream count old new) old result new
