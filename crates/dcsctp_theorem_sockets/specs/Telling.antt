-- The events that a socket reports about its association are the effects that its turns recorded, and
-- its association is the one that they recorded. So what holds of the records holds of what the user
-- sees.
use Rattle.std.specs.Prelude.{◌≡◌, ◌≢◌, Some, List, [], ◌∷◌}
use Rattle.std.specs.List.{AllByRecursion}
use Rattle.dcsctp_spec_lemmas.specs.types.declared.options.Options.{Options}
use Rattle.dcsctp_spec_lemmas.specs.types.declared.schedule.Side.{Side}
use Rattle.dcsctp_spec_lemmas.specs.spec.endpoint.Event.{Event, connected, closed, aborted, streams_reset_failed, streams_reset_performed, incoming_stream_reset}
use Rattle.dcsctp_spec_lemmas.specs.spec.endpoint.Endpoint.{Endpoint, fresh_endpoint}
use Rattle.dcsctp_spec_lemmas.specs.spec.association.Effect.{AssociationIdentity, Effect, holds, identity_of_core}
use Rattle.dcsctp_spec_lemmas.specs.spec.association.Controlled.{Observation, has_connected, has_ended, own_reset_performed, own_reset_failed, peer_reset_performed, observations_of_effects}
use Rattle.dcsctp_spec_lemmas.specs.spec.endpoint.CallTurns.{Transition, AlongTurns}
use Rattle.dcsctp_spec_runs.specs.Past.{HasEffect, Each, current}
use Rattle.dcsctp_spec_runs.specs.Sockets.{PerformedAct, Both, of_side, turns_after, endpoint_after, SocketRun}
use Rattle.dcsctp_theorem_association.specs.OneSide.{LeavesCore}
use Rattle.dcsctp_theorem_sockets.specs.Agreement.{AreUsable, recorded_past}

-- the connections, ends and resets that these events report
abbrev pub observations_of_ends : {P : Type 0} → List (Event P) → List Observation
observations_of_ends [] = []
observations_of_ends (connected ∷ events) = has_connected ∷ observations_of_ends events
observations_of_ends (closed ∷ events) = has_ended ∷ observations_of_ends events
observations_of_ends (aborted kind text ∷ events) = has_ended ∷ observations_of_ends events
observations_of_ends (streams_reset_performed streams ∷ events) = own_reset_performed ∷ observations_of_ends events
observations_of_ends (streams_reset_failed streams ∷ events) = own_reset_failed ∷ observations_of_ends events
observations_of_ends (incoming_stream_reset streams ∷ events) = peer_reset_performed ∷ observations_of_ends events
observations_of_ends (event ∷ events) = observations_of_ends events

-- The turn adds an event for each connection that it records, each end, and each reset that was performed or failed. The events
-- are in the order of the records, and there is no other event of these kinds.
abbrev pub ReportsRecorded : Transition → Type 0
ReportsRecorded turn = observations_of_ends turn.outcome.events ≡ observations_of_effects turn.outcome.effects

abbrev pub SocketsReportEffects : Type 0
SocketsReportEffects =
    (options : Both Options) (run : List PerformedAct) → AreUsable options → SocketRun options run → (side : Side)
    → AllByRecursion ReportsRecorded (of_side side (turns_after run))

-- The association of this socket, with its numbers of requests, is the one that these turns recorded last. There is none if
-- that one has ended, or if they recorded none.
abbrev pub HasRecordedAssociation : List Transition → Endpoint → Type 0
HasRecordedAssociation turns e = LeavesCore (recorded_past turns) e.core

abbrev pub SocketsHaveRecorded : Type 0
SocketsHaveRecorded =
    (options : Both Options) (run : List PerformedAct) → AreUsable options → SocketRun options run → (side : Side)
    → HasRecordedAssociation (of_side side (turns_after run)) (endpoint_after (of_side side options) (of_side side (turns_after run)))

-- If the turn records an association that a handshake made, the socket had none before the turn, or a different one.
abbrev pub RecordsOnlyNew : Endpoint → Transition → Type 0
RecordsOnlyNew e turn = (link : AssociationIdentity) → HasEffect (holds link) turn.outcome.effects → identity_of_core e.core ≢ Some link

-- An association that a handshake made differs from the one that the earlier records leave, those of the same turn included.
abbrev pub IsNewRecord : Effect → List Effect → Type 0
IsNewRecord (holds link) earlier = current earlier ≢ Some link
IsNewRecord effect earlier = Unit {0}

-- No association is recorded again while it exists. So no lifetime of an association begins within another one of it.
pub record AreNewRecords (e : Endpoint) (turns : List Transition) : Type 0 where
  pub by_turns : AlongTurns RecordsOnlyNew e turns
  pub by_notes : Each IsNewRecord (recorded_past turns)

abbrev pub SocketsRecordOnlyNew : Type 0
SocketsRecordOnlyNew =
    (options : Both Options) (run : List PerformedAct) → AreUsable options → SocketRun options run → (side : Side)
    → AreNewRecords (fresh_endpoint (of_side side options)) (of_side side (turns_after run))
