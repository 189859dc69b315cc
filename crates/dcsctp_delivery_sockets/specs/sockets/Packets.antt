-- A packet that a sender sent, handled by the receiver: what is handled in an association was sent
-- in it.
use Rattle.std.specs.Prelude.{◌<◌, ◌^◌, List, [], ◌∷◌, ◌++◌, length, ◌≡◌, ◌⊎◌, Some, true, ℕ, ◌≢◌}
use Rattle.dcsctp_spec_lemmas.specs.types.declared.options.Options.{Options}
use Rattle.dcsctp_spec_lemmas.specs.types.Settings.{SameOptions}
use Rattle.dcsctp_spec_lemmas.specs.spec.Admission.{admits}
use Rattle.dcsctp_spec_lemmas.specs.spec.endpoint.CallTurns.{Transition, AdmittedTurns, after_all, effects_of, events_of}
use Rattle.dcsctp_spec_lemmas.specs.spec.endpoint.Endpoint.{Endpoint, is_cookie_echoed}
use Rattle.dcsctp_spec_lemmas.specs.spec.endpoint.Event.{Event}
use Rattle.dcsctp_spec_runs.specs.Past.{HasEffect}
use Rattle.dcsctp_spec_lemmas.specs.spec.Packet.{Emission}
use Rattle.dcsctp_spec_runs.specs.World.{after_effects}
use Rattle.dcsctp_spec_lemmas.specs.spec.association.Effect.{AssociationIdentity, Effect, holds, identity_of, identity_of_core}
use Rattle.dcsctp_delivery_directions.specs.sending.Log.{Message}
use Rattle.dcsctp_delivery_directions.specs.sending.Places as places
use Rattle.dcsctp_delivery_sockets.specs.turns.Actions.{content_of_input, IsOpening, BeginsAssociation}
use Rattle.dcsctp_delivery_sockets.specs.turns.PeerRequests.{KnowsPeerOfCore}
use Rattle.dcsctp_delivery_sockets.specs.associations.Answered.{AreAnswered}
use Rattle.dcsctp_delivery_sockets.specs.associations.Ends.{Ends, NewTag, AreSeen, Between, PlaceWasTaken, sending_side, receiving_side}
use Rattle.dcsctp_delivery_sockets.specs.associations.Laws.{TellsPerformed, NewPeerTags, AsksLittle, AreEnds}
use Rattle.dcsctp_delivery_sockets.specs.associations.Reads.{Reading, reading_after}
use Rattle.dcsctp_delivery_sockets.specs.sockets.Echoes.{GoesToMaker}

-- what was read, with what these turns read
abbrev pub reading_through : Endpoint → List Transition → Reading → Reading
reading_through e [] reading = reading
reading_through e (turn ∷ turns) reading = reading_through turn.outcome.after turns (reading_after e turn.input turn.outcome reading)

-- Each association of the sender whose peer has this own tag crosses it.
abbrev pub IsCrossedByEach : List Effect → AssociationIdentity → Type 0
IsCrossedByEach past link = (other : AssociationIdentity) → HasEffect (holds other) past → other.peer.tag ≡ link.my.tag → other.my.tag ≡ link.peer.tag

-- It is none whose place another one took at the sender.
abbrev pub IsNoneBefore : List Effect → AssociationIdentity → Type 0
IsNoneBefore past link = (tag former latest : ℕ) → PlaceWasTaken past tag former latest → link.my.tag ≢ former

-- The association that is there is crossed so, or its COOKIE ACK is awaited as by the RFC.
abbrev pub CrossesOrWaits : List Effect → List Effect → Endpoint → Type 0
CrossesOrWaits their_past past e =
    (link : AssociationIdentity) → HasEffect (holds link) their_past → identity_of_core e.core ≡ Some link → (IsCrossedByEach past link × IsNoneBefore past link) ⊎ ((e.options.follow_rfc ≡ true) × (is_cookie_echoed e.core ≡ true))

-- Each turn starts with these options, and an association that begins in it has a peer of a new tag, and the one that is there is
-- crossed, or waits. The user is told of resets that are performed. The past knows the peer's requests, and each association that is recorded has a peer of a new tag.
abbrev pub AreNewTags : Options → List Effect → List Effect → Endpoint → List Transition → Type 0
AreNewTags options their_past past e [] = Unit {0}
AreNewTags options their_past past e (turn ∷ turns) =
    SameOptions options e.options × ((begun : BeginsAssociation e turn.outcome) → IsOpening (content_of_input turn.input) → identity_of_core turn.outcome.after.core ≡ Some (identity_of begun.my begun.held) → NewTag their_past past (identity_of begun.my begun.held))
    × KnowsPeerOfCore their_past e.core × (NewPeerTags their_past turn.outcome × CrossesOrWaits their_past past e × TellsPerformed turn.outcome)
    × AreNewTags options (after_effects turn.outcome.effects their_past) past turn.outcome.after turns

-- The chunks of a packet that the sender sent leave what is known of all associations.
abbrev pub PacketsKeepEnds : Type 0
PacketsKeepEnds =
    (seen : List (Event Emission)) (options : Options) (ends : Ends) (e : Endpoint) (queued : List Message) (past : List Effect) (packets : List Emission) (other : Endpoint) (their_past : List Effect) (reading : Reading) (emission : Emission)
    (turns : List Transition) → Between options ends (sending_side e queued past packets) (receiving_side other their_past reading) → AreAnswered ends e past other their_past → AreSeen ends other their_past seen → length queued < 2 ^ 64 → AsksLittle packets → places.HasEntry emission packets
    → GoesToMaker emission → AreNewTags options their_past past other turns → AdmittedTurns other emission.packet (admits other.core emission.packet) turns
    → AreEnds ends.calls (seen ++ events_of turns) options (sending_side e queued past packets) (receiving_side (after_all other turns) (after_effects (effects_of turns) their_past) (reading_through other turns reading))
