-- What a world promises of its two sockets, along the run that it shows.
use Rattle.std.specs.Prelude.{List}
use Rattle.std.specs.List.{AllByRecursion}
use Rattle.dcsctp_core.specs.types.declared.options.Options.{Options}
use Rattle.dcsctp_core.specs.types.declared.schedule.Side.{Side}
use Rattle.dcsctp_core.specs.types.Schedule.{AreHonest}
use Rattle.dcsctp_core.specs.spec.endpoint.Endpoint.{fresh_endpoint}
use Rattle.dcsctp_core.specs.spec.endpoint.CallTurns.{Transition, AlongTurns}
use Rattle.dcsctp_spec_runs.specs.Past.{Each, InPlace}
use Rattle.dcsctp_spec_runs.specs.Sockets.{of_side, of_other, turns_after, acts_of}
use Rattle.dcsctp_theorem_sockets.specs.Agreement.{AgreeThroughout, AreFresh, recorded_past}
use Rattle.dcsctp_theorem_sockets.specs.Deadlines.{RunsT1}
use Rattle.dcsctp_theorem_transfer.specs.Deadlines.{AsksInTime}
use Rattle.dcsctp_theorem_transfer.specs.Delaying.{AcknowledgesInTime}
use Rattle.dcsctp_theorem_transfer.specs.Owing.{OwesInTime}
use Rattle.dcsctp_theorem_transfer.specs.Packing.{FitsPackets}
use Rattle.dcsctp_theorem_transfer.specs.Retransmitting.{RunsT3}
use Rattle.dcsctp_theorem_transfer.specs.Windows.{AllowPacket, HoldsPacket}
use Rattle.dcsctp_theorem_sockets.specs.Handshake.{AreFitting, ConnectThroughout}
use Rattle.dcsctp_theorem_sockets.specs.OneSocket.{EndsByAnswer, ReportsEnd, IsWithinLimit, TurnKeepsBurst, TimeIsQuiet}
use Rattle.dcsctp_theorem_sockets.specs.Telling.{ReportsRecorded, HasRecordedAssociation, AreNewRecords}
use Rattle.dcsctp_theorem_sockets.specs.Ages.{AgeThroughout}
use Rattle.dcsctp_theorem_sockets.specs.Cookies.{GivesCookiesThroughout}
use Rattle.dcsctp_delivery_sockets.specs.sockets.ShownDelivery.{AllowsDelivery, DeliverThroughout}
use Rattle.dcsctp_delivery_recovery.specs.Flights.{HasSoundFlight}
use Rattle.dcsctp_delivery_recovery.specs.Received.{AreEstablished}
use Rattle.dcsctp_delivery_recovery.specs.Recovered.{FollowRfc, RecoversLosses}
use Rattle.dcsctp_world.specs.Connecting.{ShownRoundsConnect}
use Rattle.dcsctp_world.specs.Drawing.{AreWhole}
use Rattle.dcsctp_world.specs.Handshake.{ShownHandshakeConnects}
use Rattle.dcsctp_world.specs.Recording.{Recording}
use Rattle.dcsctp_world.specs.Run.{IsRun}
use Rattle.dcsctp_world.specs.Shown.{ShownSide, WorldView, options_of}

-- What each socket keeps, whatever bytes it was handed: by its options, the turns that it had, and what it shows.
pub record KeepsPromises {R : Type 0} (options : Options) (turns : List Transition) (side : ShownSide R) : Type 0 where
  -- An association connects at most once, and the numbers of requests to reset streams go up by one (RFC 6525, section 4.1).
  pub numbers : Each InPlace (recorded_past turns)
  -- Each turn's events report the connections, ends and resets that it recorded, in the same order.
  pub told : AllByRecursion ReportsRecorded turns
  -- The socket's association is the one that was recorded last.
  pub held : HasRecordedAssociation turns side.socket.view.endpoint
  -- An association of a handshake is recorded only if it differs from the one before.
  pub anew : AreNewRecords (fresh_endpoint options) turns
  -- A request to reset streams ends by an answer with its number.
  pub answers : AllByRecursion EndsByAnswer turns
  -- A turn that ends an association reports that once, and no other turn reports an end.
  pub ends : AlongTurns ReportsEnd (fresh_endpoint options) turns
  -- A socket that awaits an INIT ACK or a COOKIE ACK has T1 running.
  pub t1 : RunsT1 side.socket.view.endpoint
  -- A socket whose data isn't acknowledged has T3 running.
  pub t3 : RunsT3 side.socket.view.endpoint.queues.transfer
  -- What it received is acknowledged at the end of its packet, or a timer runs that brings that.
  pub acknowledges : AcknowledgesInTime options turns
  -- With `follow_rfc` an open association owes no acknowledgement but by this timer.
  pub owes : OwesInTime options side.socket.view.endpoint
  -- It asks to be called when the first of these timers expires at the latest.
  pub asks : AsksInTime side.socket.view.endpoint
  -- No packet is longer than the options allow.
  pub sizes : AllByRecursion (IsWithinLimit options) side.packets
  -- No turn sends more packets than its input allows, and what a flush may send.
  pub bursts : AlongTurns TurnKeepsBurst (fresh_endpoint options) turns

-- Where both sides are shown as Established and crossed, the one recovers what it lost.
abbrev pub ShownLossesComeThrough : {R : Type 0} → ShownSide R → ShownSide R → Type 0
ShownLossesComeThrough side other = AreEstablished side.socket.view.endpoint other.socket.view.endpoint → RecoversLosses side.socket.view.endpoint other.socket.view.endpoint

-- What holds of a world that has not failed. `agree` and `delivered` speak of each first part of the run that has no act from
-- outside, and in which no side drew a verification tag twice. `given` and `ages` have the first of these premises alone.
pub record Promises {R : Type 0} (world : WorldView (Recording R)) : Type 0 where
  -- All that the world shows is what a run of two sockets shows.
  pub run : IsRun (options_of world) world
  -- The words that it shows are all that its generators gave.
  pub whole : AreWhole world.sides
  -- If the acts shown are honest, so are those of the run.
  pub honest : AreHonest world.acts → AreHonest (acts_of run.steps)
  -- When one side reports OnConnected, its peer has, or had, the matching association. When one side's request to reset streams
  -- was performed, its peer performed one of that number, if it is one of the first 2^32 - 1 of a lifetime.
  pub agree : AgreeThroughout (options_of world) run.steps
  -- Each COOKIE ECHO that a side handles has a cookie that this side gave away in an earlier turn.
  pub given : GivesCookiesThroughout run.steps
  -- If it makes an association, that is at most the cookie's lifetime later.
  pub ages : AgeThroughout (options_of world) run.steps
  -- What a user reads is what the other user sent, and no message is read twice. This also needs that each tag serves one
  -- association, or with `follow_rfc` one takes the place of another that the other side never had, and that not too much goes to
  -- it. With interleaving no request to reset streams may fail. A stream's ordered messages come in order within one association,
  -- if the sender has `follow_rfc` or no other association, and if messages interleave, or no reset was requested and none may be
  -- abandoned or few are ordered. Messages that interleave come on each side of a reset of their stream as they were sent on each
  -- side of a call of `reset_streams`. Where the sender has one association, limits no message on any stream and never calls
  -- `reset_streams`, what is read of them is a prefix of what was sent.
  pub delivered : DeliverThroughout (options_of world) run.steps
  -- Wherever the first five acts are a handshake, they connect sockets that fit each other, whatever comes later.
  pub connect : AreFitting (options_of world) → (side : Side) → ConnectThroughout (options_of world) side run.steps
  -- A world whose acts are a handshake shows that both are connected.
  pub handshake : ShownHandshakeConnects (options_of world) world
  -- Where one side awaits an INIT ACK and the other is closed, or both await one, or one awaits a COOKIE ACK and the other takes its
  -- cookie or has it, and T1 may restart: however many rounds are lost, one that isn't connects sockets that fit each other, also with
  -- messages queued. One that is lost in part does too, or costs a restart, if none was. In an honest run the cookie is the other's.
  pub connects : ShownRoundsConnect world
  -- In a run without acts from outside the congestion window has room for a packet, if the options begin it so.
  pub windows : AreHonest (acts_of run.steps) → (side : Side) → AllowPacket (of_side side (options_of world))
      → HoldsPacket (of_side side (options_of world)) (of_side side world.sides).socket.view.endpoint.queues.transfer
  -- In such a run each item that is outstanding fits a packet, so it can be sent again.
  pub packing : AreHonest (acts_of run.steps) → (side : Side) → FitsPackets (of_side side (options_of world)) (of_side side world.sides).socket.view.endpoint.queues.transfer
  -- It has bytes, or was abandoned; and fewer than 2^31 items are outstanding.
  pub flights : AreHonest (acts_of run.steps) → (side : Side) → HasSoundFlight (of_side side world.sides).socket.view.endpoint.queues.transfer
  -- In a run that allows delivery, what was lost comes through once T3 expires, if both sockets have `follow_rfc` and are shown as
  -- Established and crossed, and the receiver has room.
  pub losses : AreHonest (acts_of run.steps) → AreFresh (turns_after run.steps) → AllowsDelivery (options_of world) run.steps → FollowRfc (options_of world) → (side : Side)
      → ShownLossesComeThrough (of_side side world.sides) (of_other side world.sides)
  -- Time before the next deadline moves the clock alone, but for a socket that awaits a COOKIE ACK.
  pub quiet : TimeIsQuiet (options_of world) run.steps
  -- What each socket keeps by itself.
  pub each : (side : Side) → KeepsPromises (of_side side (options_of world)) (of_side side (turns_after run.steps)) (of_side side world.sides)
