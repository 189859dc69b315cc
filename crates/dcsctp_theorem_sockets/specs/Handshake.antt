-- The four packets of the handshake, delivered in turn between two fresh sockets (RFC 9260, section
-- 5.1).
use Rattle.std.specs.Prelude.{◌≡◌, ◌≤◌, ℕ, suc, true, List, [], ◌∷◌, map, reverse}
use Rattle.dcsctp_spec_lemmas.specs.types.declared.association.Pair.{Pair}
use Rattle.dcsctp_spec_lemmas.specs.types.declared.options.Options.{Options}
use Rattle.dcsctp_spec_lemmas.specs.types.declared.schedule.Side.{Side}
use Rattle.dcsctp_spec_lemmas.specs.types.declared.schedule.Side.TheVariants as sides
use Rattle.dcsctp_spec_lemmas.specs.types.Schedule.{connect_call, StepContent, call_step, delivery_step, ActContent, step_act}
use Rattle.dcsctp_spec_lemmas.specs.types.Offer.{offer_of, negotiated_capabilities}
use Rattle.dcsctp_spec_lemmas.specs.spec.endpoint.Event.{Event, connected}
use Rattle.dcsctp_spec_lemmas.specs.spec.endpoint.Endpoint.{open_in, established}
use Rattle.dcsctp_spec_lemmas.specs.spec.endpoint.CallTurns.{Transition, events_of}
use Rattle.dcsctp_spec_lemmas.specs.spec.endpoint.FlushOutcomes.{allows_packet}
use Rattle.dcsctp_spec_lemmas.specs.spec.association.HandshakeChanges.{new_held}
use Rattle.dcsctp_spec_runs.specs.Sockets.{PerformedAct, Both, endpoint_after, turns_after, SocketRun, acts_of}
use Rattle.dcsctp_theorem_sockets.specs.Agreement.{AreUsable}

abbrev pub other_side : Side → Side
other_side sides.A = sides.B
other_side sides.B = sides.A

-- The one side connects; then INIT, INIT ACK, COOKIE ECHO and COOKIE ACK are delivered.
abbrev pub handshake : Side → List StepContent
handshake side =
    call_step side connect_call
    ∷ delivery_step (other_side side) 1
    ∷ delivery_step side 1
    ∷ delivery_step (other_side side) 2
    ∷ delivery_step side 2
    ∷ []

abbrev pub handshake_acts : Side → List ActContent
handshake_acts side = map step_act (handshake side)

-- Options with which a handshake's packets are sent and are taken. The longest is an INIT ACK of 112 bytes.
pub record AllowHandshake (options : Options) : Type 0 where
  pub mtu : 112 ≤ options.mtu
  pub burst : allows_packet options.max_burst ≡ true
  pub window : 1500 ≤ options.max_receiver_window_buffer_size
  pub inbound_streams : 1 ≤ options.announced_maximum_incoming_streams
  pub outbound_streams : 1 ≤ options.announced_maximum_outgoing_streams

-- Such options of both sides, with crossed ports.
pub record AreFitting (options : Both Options) : Type 0 where
  pub a : AllowHandshake options.a
  pub b : AllowHandshake options.b
  pub to_a : options.b.remote_port ≡ options.a.local_port
  pub to_b : options.a.remote_port ≡ options.b.local_port

-- how often OnConnected is among these events
abbrev pub connections_of_events : {P : Type 0} → List (Event P) → ℕ
connections_of_events [] = 0
connections_of_events (connected ∷ events) = suc (connections_of_events events)
connections_of_events (event ∷ events) = connections_of_events events

-- The side has connected once, and is Established with this pair and peer.
pub record IsConnected (mine theirs : Options) (turns : List Transition) (my peer : Pair) : Type 0 where
  pub core : (endpoint_after mine turns).core ≡ open_in established my (new_held my peer (negotiated_capabilities (offer_of mine) (offer_of theirs)))
  pub once : connections_of_events (events_of turns) ≡ 1

-- Both are, and crossed.
pub record AreConnected (options : Both Options) (turns : Both (List Transition)) : Type 0 where
  pub a_pair : Pair
  pub b_pair : Pair
  pub a : IsConnected options.a options.b turns.a a_pair b_pair
  pub b : IsConnected options.b options.a turns.b b_pair a_pair

-- At the end of each first part of the run whose acts are those of the handshake, both are connected. So they were connected
-- after the first five acts, whatever came later.
abbrev pub ConnectThroughout : Both Options → Side → List PerformedAct → Type 0
ConnectThroughout options side [] = Unit {0}
ConnectThroughout options side (worked ∷ earlier) =
    (acts_of (worked ∷ earlier) ≡ reverse (handshake_acts side) → AreConnected options (turns_after (worked ∷ earlier)))
    × ConnectThroughout options side earlier

abbrev pub FittingSocketsConnect : Type 0
FittingSocketsConnect =
    (options : Both Options) (side : Side) (run : List PerformedAct) → AreUsable options → AreFitting options → SocketRun options run
    → ConnectThroughout options side run
