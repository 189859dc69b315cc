-- What is lost comes through, at the end of each run of two sockets that allows delivery: once T3 has expired the lowest outstanding
-- TSN is sent again, the other socket takes it, and its SACK passes it (RFC 9260, sections 6.2, 6.2.1 and 6.3.3).
use Rattle.std.specs.Prelude.{◌≡◌, ◌≤◌, ℕ, true, false, Some, List, [], ◌∷◌}
use Rattle.std.specs.List.{AllByRecursion, slice_get}
use Rattle.dcsctp_spec_lemmas.specs.types.declared.options.Options.{Options}
use Rattle.dcsctp_spec_lemmas.specs.types.declared.schedule.Side.{Side}
use Rattle.dcsctp_spec_lemmas.specs.types.queues.Progress.{is_unacknowledged}
use Rattle.dcsctp_spec_lemmas.specs.spec.Packet.{Emission}
use Rattle.dcsctp_spec_lemmas.specs.spec.association.Acts.{flushes}
use Rattle.dcsctp_spec_lemmas.specs.spec.endpoint.CallTurns.{Transition, IsTurn, WholeTurns}
use Rattle.dcsctp_spec_lemmas.specs.spec.endpoint.Endpoint.{Endpoint}
use Rattle.dcsctp_spec_lemmas.specs.spec.endpoint.Event.{packets_of_events}
use Rattle.dcsctp_spec_lemmas.specs.spec.endpoint.FlushOutcomes.{allows_packet, packets_allowed}
use Rattle.dcsctp_spec_lemmas.specs.spec.endpoint.OwnTimers.{retransmission}
use Rattle.dcsctp_spec_lemmas.specs.spec.endpoint.Turn.{act_input, timer_expires, with_clock}
use Rattle.dcsctp_spec_lemmas.specs.spec.queues.Items.{Item}
use Rattle.dcsctp_spec_lemmas.specs.spec.queues.OwnResets.{ready_streams}
use Rattle.dcsctp_spec_lemmas.specs.spec.queues.Tracker.{owes_acknowledgement}
use Rattle.dcsctp_spec_lemmas.specs.spec.queues.Transfer.{Transfer}
use Rattle.dcsctp_spec_runs.specs.Sockets.{PerformedAct, Both, of_side, of_other, turns_after, endpoint_after}
use Rattle.dcsctp_theorem_transfer.specs.Recovering.{ComesThrough, IsAmongFirst}
use Rattle.dcsctp_theorem_transfer.specs.Resending.{IsLasting}
use Rattle.dcsctp_theorem_transfer.specs.Taking.{HasRoomForNext}
use Rattle.dcsctp_delivery_recovery.specs.Received.{RunAllowsDelivery, AreEstablished}

-- ---- the two sockets

abbrev pub FollowRfc : Both Options → Type 0
FollowRfc options = (side : Side) → (of_side side options).follow_rfc ≡ true

-- The first item that is outstanding isn't acknowledged. No message that is has a limit, or was abandoned. No stream waits to be
-- reset.
pub record AwaitsFirst (e : Endpoint) (transfer : Transfer) : Type 0 where
  pub has : e.queues.transfer ≡ Some transfer
  pub first : Item
  pub at : slice_get transfer.retransmission.outstanding.items 0 ≡ Some first
  pub awaited : is_unacknowledged first.progress.state ≡ true
  pub lasting : AllByRecursion IsLasting transfer.retransmission.outstanding.items
  pub resets : ready_streams e.queues.queue ≡ []

-- So it is, the sender may send a packet, and owes no acknowledgement.
pub record LosesAlone (e : Endpoint) (transfer : Transfer) : Type 0 where
  pub waits : AwaitsFirst e transfer
  pub allowed : allows_packet e.options.max_burst ≡ true
  pub settled : owes_acknowledgement transfer.tracker ≡ false

-- Or it may owe one, and a flush may send two packets.
pub record LosesBehind (e : Endpoint) (transfer : Transfer) : Type 0 where
  pub waits : AwaitsFirst e transfer
  pub burst : 2 ≤ packets_allowed e.options.max_burst e.core

-- The receiver may send a packet, and has room for the next TSN.
pub record HasRoomToTake (other : Endpoint) (received : Transfer) : Type 0 where
  pub has : other.queues.transfer ≡ Some received
  pub allowed : allows_packet other.options.max_burst ≡ true
  pub room : HasRoomForNext received

-- ---- what comes through

-- The receiver has received no more since, and its association is the same. Its clock, and what it has sent, may be others.
pub record HasReceivedNoMore (other : Endpoint) (received : Transfer) (later : Endpoint) (left : Transfer) : Type 0 where
  pub core : later.core ≡ other.core
  pub options : later.options ≡ other.options
  pub cumulative : left.tracker.cumulative ≡ received.tracker.cumulative
  pub ranges : left.tracker.ranges ≡ received.tracker.ranges
  pub follows : left.tracker.follows_rfc ≡ received.tracker.follows_rfc

-- At whatever moment it is handed this packet, and handles its chunks, with room for the next TSN.
abbrev pub ComesByPacket : Endpoint → Transfer → Endpoint → Transfer → Emission → Type 0
ComesByPacket e old other received packet =
    (later : Endpoint) (left : Transfer) → HasReceivedNoMore other received later left → HasRoomToTake later left → (turns : List Transition) → WholeTurns later packet.packet turns → ComesThrough e old later turns

-- T3 expires at this socket, at any moment, and a flush follows.
pub record T3HasExpired (e : Endpoint) : Type 0 where
  pub moment : ℕ
  pub lost : Transition
  pub expired : IsTurn (with_clock moment e) (timer_expires retransmission) lost
  pub flushed : Transition
  pub follows : IsTurn lost.outcome.after (act_input flushes) flushed

-- It sends a packet, and the first one brings the lowest outstanding TSN: the receiver's SACK passes it.
pub record FirstComesThrough (e : Endpoint) (transfer : Transfer) (other : Endpoint) (received : Transfer) (expires : T3HasExpired e) : Type 0 where
  pub first : Emission
  pub others : List Emission
  pub are : packets_of_events expires.flushed.outcome.events ≡ first ∷ others
  pub comes : ComesByPacket expires.flushed.outcome.after transfer other received first

-- The first packet does, or the second one.
pub record ComesInTwo (e : Endpoint) (transfer : Transfer) (other : Endpoint) (received : Transfer) (expires : T3HasExpired e) : Type 0 where
  pub packet : Emission
  pub there : IsAmongFirst packet (packets_of_events expires.flushed.outcome.events)
  pub comes : ComesByPacket expires.flushed.outcome.after transfer other received packet

-- So it is of the sender, whether it owes an acknowledgement or not, if T3 expires.
pub record RecoversLosses (e other : Endpoint) : Type 0 where
  pub alone : (transfer received : Transfer) → LosesAlone e transfer → other.queues.transfer ≡ Some received → (expires : T3HasExpired e) → FirstComesThrough e transfer other received expires
  pub behind : (transfer received : Transfer) → LosesBehind e transfer → other.queues.transfer ≡ Some received → (expires : T3HasExpired e) → ComesInTwo e transfer other received expires

-- It is so where the two are Established and crossed at the end of such a run, and both follow the RFCs.
abbrev pub SocketsRecoverLosses : Type 0
SocketsRecoverLosses =
    (options : Both Options) (run : List PerformedAct) → RunAllowsDelivery options run → FollowRfc options → (side : Side)
    → let e : Endpoint = endpoint_after (of_side side options) (of_side side (turns_after run)) in
    let other : Endpoint = endpoint_after (of_other side options) (of_other side (turns_after run)) in AreEstablished e other → RecoversLosses e other
