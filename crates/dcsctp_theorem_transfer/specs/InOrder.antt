-- A socket that is handed the packets of the call at T3's deadline in order: those in front leave it as it was, and then comes what
-- was lost (RFC 9260, sections 6.2, 6.3.3 and 8.3).
use Rattle.std.specs.Prelude.{◌≡◌, ◌≤◌, ℕ, Bool, List, [], ◌∷◌, ◌++◌, length}
use Rattle.dcsctp_spec_lemmas.specs.wire.Content.{ParameterContent, SackContent, sack_chunk}
use Rattle.dcsctp_spec_lemmas.specs.types.Schedule.{advance_call}
use Rattle.dcsctp_spec_lemmas.specs.spec.Packet.{Content, plain, unworked, heartbeat, Packet, Emission}
use Rattle.dcsctp_spec_lemmas.specs.spec.endpoint.CallTurns.{Transition, WholeTurns, after_all, events_of}
use Rattle.dcsctp_spec_lemmas.specs.spec.endpoint.Endpoint.{Endpoint}
use Rattle.dcsctp_spec_lemmas.specs.spec.endpoint.Event.{packets_of_events}
use Rattle.dcsctp_spec_lemmas.specs.spec.endpoint.UserTurns.{UserTurns}
use Rattle.dcsctp_spec_lemmas.specs.spec.queues.Outstanding.{OutstandingState}
use Rattle.dcsctp_spec_lemmas.specs.spec.queues.Transfer.{Transfer}
use Rattle.dcsctp_theorem_transfer.specs.Expiring.{T3IsDue}
use Rattle.dcsctp_theorem_transfer.specs.Recovering.{IsLostBehind, AwaitsData, HasReceivedPart, ComesThrough}

-- The packet has one chunk: a HEARTBEAT or a SACK.
pub data BringsNoData : List Content → Type 0 where
  a_heartbeat : (parameters : List ParameterContent) → BringsNoData (plain (heartbeat parameters) ∷ [])
  a_sack : (sack : SackContent) → BringsNoData (plain (unworked (sack_chunk sack)) ∷ [])

-- It still awaits data, and has received what it had.
pub record StillAwaits (received : Transfer) (is_interleaved : Bool) (after : Endpoint) : Type 0 where
  pub left : Transfer
  pub awaits : AwaitsData after left is_interleaved
  pub part : (outstanding : OutstandingState) → HasReceivedPart outstanding received.tracker → HasReceivedPart outstanding left.tracker

-- So it is after such a packet, whatever is sent at its end.
abbrev pub SuchPacketsPass : Type 0
SuchPacketsPass =
    (e : Endpoint) (received : Transfer) (is_interleaved : Bool) (packet : Packet) (turns : List Transition) → AwaitsData e received is_interleaved
    → BringsNoData packet.contents → WholeTurns e packet turns → StillAwaits received is_interleaved (after_all e turns)

-- These packets are handled one after another, which leaves this.
abbrev pub HandlesPackets : Endpoint → List Emission → Endpoint → Type 0
HandlesPackets e [] after = after ≡ e
HandlesPackets e (packet ∷ packets) after = (turns : List Transition) × WholeTurns e packet.packet turns × HandlesPackets (after_all e turns) packets after

-- At most two packets are in front of the one that brings the lowest TSN. A socket that awaits data before it handles these answers
-- that one.
pub record ComesInOrder (e : Endpoint) (old : Transfer) (packets : List Emission) : Type 0 where
  pub front : List Emission
  pub packet : Emission
  pub others : List Emission
  pub are : packets ≡ front ++ (packet ∷ others)
  pub few : length front ≤ 2
  pub comes : (other now : Endpoint) (received : Transfer) → AwaitsData other received old.retransmission.outstanding.is_interleaved
      → HasReceivedPart old.retransmission.outstanding received.tracker → HandlesPackets other front now → (turns : List Transition) → WholeTurns now packet.packet turns
      → ComesThrough e old now turns

-- So it is of the packets of the call at T3's deadline.
abbrev pub CallComesInOrder : Type 0
CallComesInOrder =
    (e : Endpoint) (transfer : Transfer) (moment : ℕ) (turns : List Transition) → UserTurns e (advance_call moment) turns → T3IsDue e moment
    → IsLostBehind e transfer → ComesInOrder (after_all e turns) transfer (packets_of_events (events_of turns))
