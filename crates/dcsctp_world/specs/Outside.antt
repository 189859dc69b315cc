-- What the acts from outside are to a socket, without their side.
use Rattle.std.specs.Prelude.{List}
use Rattle.dcsctp_core.specs.spec.endpoint.Endpoint.{Endpoint}
use Rattle.dcsctp_core.specs.spec.Handover.{readiness_of}
use Rattle.dcsctp_core.specs.types.Snapshot.{Snapshot, is_valid_snapshot}
use Rattle.dcsctp_core.specs.spec.SocketSnapshot.{snapshot_of}
use Rattle.dcsctp_spec_runs.specs.Sockets.{inputs_of_both, inputs_where_valid}
use Rattle.dcsctp_core.specs.spec.endpoint.CallTurns.{Transition, Turns}
use Rattle.dcsctp_world.specs.declared.act.Reply.{Reply}
use Rattle.dcsctp_world.specs.Growth.{IsHandedOn, IsRestoreReply}

-- ---- a socket that is handed over and restored

abbrev pub OutsideHandoverTurns : Endpoint → List Transition → Type 0
OutsideHandoverTurns e turns = Turns e (inputs_of_both (readiness_of e) (snapshot_of e)) turns

abbrev pub IsHandoverReply : Endpoint → Reply → Type 0
IsHandoverReply e reply = IsHandedOn (readiness_of e) e reply

-- ---- one that is restored from any snapshot

abbrev pub ValidTurns : Endpoint → Snapshot → List Transition → Type 0
ValidTurns e state turns = Turns e (inputs_where_valid (is_valid_snapshot e.options state) e.core state) turns

abbrev pub IsRestoredReply : Endpoint → Snapshot → Reply → Type 0
IsRestoredReply e state reply = IsRestoreReply (is_valid_snapshot e.options state) e.core reply
