-- Two sockets and every list of acts. What is the outcome of each call, each delivery and each act from outside? What does a side
-- show?
use Rattle.std.specs.Prelude.{◌≡◌, ℕ, zero, suc, Bool, true, false, Option, None, Some, List, [], ◌∷◌, ◌++◌, map}
use Rattle.std.specs.List.{slice_get}
use Rattle.dcsctp_spec_lemmas.specs.types.declared.association.Association.{Association}
use Rattle.dcsctp_spec_lemmas.specs.types.declared.options.Options.{Options}
use Rattle.dcsctp_spec_lemmas.specs.types.declared.schedule.Side.{Side}
use Rattle.dcsctp_spec_lemmas.specs.types.declared.schedule.Side.TheVariants as sides
use Rattle.dcsctp_spec_lemmas.specs.types.Schedule.{StepContent, call_step, delivery_step, OutsideContent, input_outside, handover_outside, restore_outside, ActContent, step_act, outside_act}
use Rattle.dcsctp_spec_lemmas.specs.types.Settings.{ports_of}
use Rattle.dcsctp_spec_lemmas.specs.spec.endpoint.Event.{Event, event_map, packets_of_events}
use Rattle.dcsctp_spec_lemmas.specs.spec.Packet.{emission_bytes}
use Rattle.dcsctp_spec_lemmas.specs.spec.endpoint.Endpoint.{Endpoint, Core, closed, fresh_endpoint, association_of}
use Rattle.dcsctp_spec_lemmas.specs.spec.Handover.{readiness_of}
use Rattle.dcsctp_spec_lemmas.specs.types.Snapshot.{Snapshot, is_valid_snapshot}
use Rattle.dcsctp_spec_lemmas.specs.spec.SocketSnapshot.{snapshot_of}
use Rattle.dcsctp_spec_lemmas.specs.spec.endpoint.Turn.{Input, act_input}
use Rattle.dcsctp_spec_lemmas.specs.spec.association.Acts.{hands_over}
use Rattle.dcsctp_spec_lemmas.specs.spec.endpoint.CallTurns.{Transition, Turns, HandleInput, after_all, events_of}
use Rattle.dcsctp_spec_lemmas.specs.spec.endpoint.UserTurns.{UserTurns}
use Rattle.dcsctp_spec_lemmas.specs.spec.HandoverInputs.{inputs_of_restore}

-- ---- what a side shows

-- A socket that was made with these options, after these turns.
abbrev pub endpoint_after : Options → List Transition → Endpoint
endpoint_after options turns = after_all (fresh_endpoint options) turns

-- its events as its user sees them, each packet in bytes
abbrev pub events_shown : Options → List Transition → List (Event (List ℕ))
events_shown options turns = map (event_map (emission_bytes (ports_of options))) (events_of turns)

-- the bytes of all packets that it ever emitted
abbrev pub packets_shown : Options → List Transition → List (List ℕ)
packets_shown options turns = packets_of_events (events_shown options turns)

-- ---- steps

-- the packet of this number, counted from 1
abbrev pub packet_at_number : ℕ → List (List ℕ) → Option (List ℕ)
packet_at_number zero packets = None
packet_at_number (suc before) packets = slice_get packets before

-- the outcome of bytes that are handed in, if there are any
abbrev pub DeliveryTurns : Endpoint → Option (List ℕ) → List Transition → Type 0
DeliveryTurns e None turns = turns ≡ []
DeliveryTurns e (Some bytes) turns = HandleInput e bytes turns

abbrev pub side_of : StepContent → Side
side_of (call_step side call) = side
side_of (delivery_step side number) = side

-- the outcome of a step at its side, where the other has emitted these packets
abbrev pub StepTurns : Endpoint → List (List ℕ) → StepContent → List Transition → Type 0
StepTurns e packets (call_step side call) turns = UserTurns e call turns
StepTurns e packets (delivery_step side number) turns = DeliveryTurns e (packet_at_number number packets) turns

-- ---- acts from outside

-- None is restored from a snapshot that isn't valid.
abbrev pub inputs_where_valid : Bool → Core → Snapshot → List Input
inputs_where_valid true core state = inputs_of_restore core state
inputs_where_valid false core state = []

-- A socket that is ready is handed over, and restored from its snapshot.
abbrev pub inputs_of_both : ℕ → Snapshot → List Input
inputs_of_both zero state = act_input hands_over ∷ inputs_of_restore closed state
inputs_of_both (suc reasons) state = []

abbrev pub side_of_outside : OutsideContent → Side
side_of_outside (input_outside side bytes) = side
side_of_outside (handover_outside side) = side
side_of_outside (restore_outside side state) = side

-- its outcome at its side: whatever the bytes say, and whatever the snapshot has
abbrev pub OutsideTurns : Endpoint → OutsideContent → List Transition → Type 0
OutsideTurns e (input_outside side bytes) turns = HandleInput e bytes turns
OutsideTurns e (handover_outside side) turns = Turns e (inputs_of_both (readiness_of e) (snapshot_of e)) turns
OutsideTurns e (restore_outside side state) turns = Turns e (inputs_where_valid (is_valid_snapshot e.options state) e.core state) turns

-- ---- acts

-- the side at which it happens
abbrev pub side_of_act : ActContent → Side
side_of_act (step_act step) = side_of step
side_of_act (outside_act outside) = side_of_outside outside

-- its outcome at its side, where the other has emitted these packets
abbrev pub TurnsOfAct : Endpoint → List (List ℕ) → ActContent → List Transition → Type 0
TurnsOfAct e packets (step_act step) turns = StepTurns e packets step turns
TurnsOfAct e packets (outside_act outside) turns = OutsideTurns e outside turns

-- ---- runs

-- an act, and its turns: what went in, and what came of it
pub record PerformedAct : Type 0 where
  pub act : ActContent
  pub turns : List Transition

-- the options of two sockets, or what came of each
pub record Both (T : Type 0) : Type 0 where
  pub a : T
  pub b : T

abbrev pub of_side : {T : Type 0} → Side → Both T → T
of_side sides.A both = both.a
of_side sides.B both = both.b

abbrev pub of_other : {T : Type 0} → Side → Both T → T
of_other sides.A both = both.b
of_other sides.B both = both.a

-- these turns after those of one side
abbrev pub side_turns_added : Side → List Transition → Both (List Transition) → Both (List Transition)
side_turns_added sides.A more turns = record turns { a = turns.a ++ more }
side_turns_added sides.B more turns = record turns { b = turns.b ++ more }

-- all turns of each side after these steps, oldest first; the steps come newest first
abbrev pub turns_after : List PerformedAct → Both (List Transition)
turns_after [] = record { a = []; b = [] }
turns_after (worked ∷ earlier) = side_turns_added (side_of_act worked.act) worked.turns (turns_after earlier)

-- the outcome of an act after these turns
abbrev pub NextTurns : Both Options → Both (List Transition) → ActContent → List Transition → Type 0
NextTurns options turns act more =
    TurnsOfAct (endpoint_after (of_side (side_of_act act) options) (of_side (side_of_act act) turns))
    (packets_shown (of_other (side_of_act act) options) (of_other (side_of_act act) turns)) act more

-- A run of two sockets: each of these acts, newest first, follows from what the acts before it left. Whatever a step delivers was
-- emitted by the other socket before, byte for byte; what an act from outside hands in may be any bytes.
abbrev pub SocketRun : Both Options → List PerformedAct → Type 0
SocketRun options [] = Unit {0}
SocketRun options (worked ∷ earlier) = NextTurns options (turns_after earlier) worked.act worked.turns × SocketRun options earlier

-- the acts of a run, newest first
abbrev pub acts_of : List PerformedAct → List ActContent
acts_of [] = []
acts_of (worked ∷ earlier) = worked.act ∷ acts_of earlier

-- what a side's association was at the start and after each step of either side, newest first
abbrev pub associations_of : Side → Both Options → List PerformedAct → List (Option Association)
associations_of side options [] = association_of (fresh_endpoint (of_side side options)).core ∷ []
associations_of side options (worked ∷ earlier) =
    association_of (endpoint_after (of_side side options) (of_side side (turns_after (worked ∷ earlier)))).core ∷ associations_of side options earlier
