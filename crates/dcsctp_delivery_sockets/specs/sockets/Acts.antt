-- What two sockets do one after another, and all their associations.
use Rattle.std.specs.Prelude.{◌≡◌, ◌⊎◌, ◌<◌, ◌^◌, ℕ, Some, List, [], ◌∷◌, ◌++◌, length, Bool}
use Rattle.std.specs.List.{AllByRecursion}
use Rattle.dcsctp_spec_lemmas.specs.wire.Content.{PacketContent}
use Rattle.dcsctp_spec_lemmas.specs.wire.Format.{IsPacket}
use Rattle.dcsctp_spec_lemmas.specs.types.declared.options.Options.{Options}
use Rattle.dcsctp_spec_lemmas.specs.types.Schedule.{CallContent}
use Rattle.dcsctp_spec_lemmas.specs.types.Settings.{wire_options}
use Rattle.dcsctp_spec_lemmas.specs.spec.endpoint.CallTurns.{Transition, AlongTurns, HandleInput, after_all, effects_of, events_of}
use Rattle.dcsctp_spec_lemmas.specs.spec.endpoint.Endpoint.{Endpoint}
use Rattle.dcsctp_spec_lemmas.specs.spec.endpoint.Event.{Event, packets_of_events}
use Rattle.dcsctp_spec_lemmas.specs.spec.Packet.{packet_of_content, Emission}
use Rattle.dcsctp_spec_lemmas.specs.spec.endpoint.UserTurns.{UserTurns}
use Rattle.dcsctp_spec_lemmas.specs.spec.endpoint.Turn.{Turn}
use Rattle.dcsctp_spec_runs.specs.World.{after_effects}
use Rattle.dcsctp_spec_lemmas.specs.spec.association.Effect.{AssociationIdentity, Effect, identity_of, identity_of_core}
use Rattle.dcsctp_delivery_directions.specs.sending.Log.{Message}
use Rattle.dcsctp_delivery_directions.specs.directions.Directions.{PreparedReset}
use Rattle.dcsctp_delivery_directions.specs.sending.Places as places
use Rattle.dcsctp_delivery_sockets.specs.turns.Actions.{content_of_input, queued_after, IsOpening, BeginsAssociation, IsCall}
use Rattle.dcsctp_delivery_sockets.specs.associations.Answered.{AreAnswered}
use Rattle.dcsctp_delivery_sockets.specs.associations.Ends.{ResetCalls, Ends, NewPeer, TakesOver, AreSeen, CameBack, Between, sending_side, receiving_side}
use Rattle.dcsctp_delivery_sockets.specs.turns.Runs.{prepared_after, RefusesNone}
use Rattle.dcsctp_delivery_sockets.specs.associations.Laws.{CompletesPerformed, AsksLittle, ResetsAs, AreEnds}
use Rattle.dcsctp_delivery_sockets.specs.associations.Reads.{Reading}
use Rattle.dcsctp_delivery_sockets.specs.sockets.Echoes.{GoesToMaker}
use Rattle.dcsctp_delivery_sockets.specs.sockets.Packets.{reading_through, AreNewTags}

-- the messages that were queued, newest first, with those that these turns queue
abbrev pub queued_through : Endpoint → List Transition → List Message → List Message
queued_through e [] queued = queued
queued_through e (turn ∷ turns) queued = queued_through turn.outcome.after turns (queued_after e turn.input queued)

-- the calls by which the user resets streams in these turns, newest first, if so many messages were queued before, and these calls made
abbrev pub made_through : Endpoint → List Transition → List Message → List PreparedReset → List PreparedReset
made_through e [] queued made = made
made_through e (turn ∷ turns) queued made = made_through turn.outcome.after turns (queued_after e turn.input queued) (prepared_after e turn.input (length queued) made)

abbrev pub calls_through : Endpoint → List Transition → List Message → ResetCalls → ResetCalls
calls_through e turns queued calls = record calls { made = made_through e turns queued calls.made }

-- Each of these is a turn.
abbrev pub AreTurns : Endpoint → List Transition → Type 0
AreTurns e [] = Unit {0}
AreTurns e (turn ∷ turns) = Turn e turn.input turn.outcome × AreTurns turn.outcome.after turns

-- Each input is a call, a timer or a chunk; and an association that begins has a new own tag, or takes the place of the one that is there.
-- With interleaving, or in turn, no own request to reset streams fails. Each that ends as performed was performed at the other
-- side, or it is the 2^32nd of its association. `follow_rfc` stays.
abbrev pub AreNewPeers : Bool → List Effect → List Effect → Endpoint → List Transition → Type 0
AreNewPeers in_turn past their_past e [] = Unit {0}
AreNewPeers in_turn past their_past e (turn ∷ turns) =
    IsCall turn.input
    × ((begun : BeginsAssociation e turn.outcome) → IsOpening (content_of_input turn.input) → identity_of_core turn.outcome.after.core ≡ Some (identity_of begun.my begun.held) → NewPeer past their_past (identity_of begun.my begun.held) ⊎ TakesOver past their_past e turn.input (identity_of begun.my begun.held))
    × RefusesNone in_turn e turn.outcome
    × CompletesPerformed their_past turn.outcome
    × (turn.outcome.after.options.follow_rfc ≡ e.options.follow_rfc)
    × AreNewPeers in_turn (after_effects turn.outcome.effects past) their_past turn.outcome.after turns

-- The user resets streams by these turns as it does, if these messages were queued before.
abbrev pub ResetsThrough : ResetCalls → Endpoint → List Message → List Transition → Type 0
ResetsThrough calls e queued [] = Unit {0}
ResetsThrough calls e queued (turn ∷ turns) = ResetsAs calls (length queued) e turn.input × ResetsThrough calls turn.outcome.after (queued_after e turn.input queued) turns

-- In an association what is handled by this turn and acknowledges was in one of these packets, to our own tag.
abbrev pub HearsBack : List Emission → Endpoint → Transition → Type 0
HearsBack heard e turn = (link : AssociationIdentity) → identity_of_core e.core ≡ Some link → CameBack heard link.my.tag (content_of_input turn.input)

-- Turns of the sender leave what is known of all associations.
abbrev pub SendersAct : Type 0
SendersAct =
    (seen : List (Event Emission)) (options : Options) (ends : Ends) (e : Endpoint) (queued : List Message) (past : List Effect) (packets : List Emission) (other : Endpoint) (their_past : List Effect) (reading : Reading) (turns : List Transition)
    → Between options ends (sending_side e queued past packets) (receiving_side other their_past reading) → AreAnswered ends e past other their_past → AreSeen ends other their_past seen → AreTurns e turns
    → ResetsThrough ends.calls e queued turns → AlongTurns (HearsBack (packets_of_events seen)) e turns → AreNewPeers ends.calls.in_turn past their_past e turns → length (queued_through e turns queued) < 2 ^ 64
    → AsksLittle (packets ++ packets_of_events (events_of turns))
    → AreEnds (calls_through e turns queued ends.calls) seen options (sending_side (after_all e turns) (queued_through e turns queued) (after_effects (effects_of turns) past) (packets ++ packets_of_events (events_of turns))) (receiving_side other their_past reading)

-- So does a call at the receiver,
abbrev pub ReceiversCall : Type 0
ReceiversCall =
    (seen : List (Event Emission)) (options : Options) (ends : Ends) (e : Endpoint) (queued : List Message) (past : List Effect) (packets : List Emission) (other : Endpoint) (their_past : List Effect) (reading : Reading) (call : CallContent) (turns : List Transition)
    → Between options ends (sending_side e queued past packets) (receiving_side other their_past reading) → AreAnswered ends e past other their_past → AreSeen ends other their_past seen → length queued < 2 ^ 64 → AsksLittle packets → UserTurns other call turns → AreTurns other turns
    → AllByRecursion (λ turn. IsCall turn.input) turns → AreNewTags options their_past past other turns
    → AreEnds ends.calls (seen ++ events_of turns) options (sending_side e queued past packets) (receiving_side (after_all other turns) (after_effects (effects_of turns) their_past) (reading_through other turns reading))

-- and so do bytes that are handed to it, if they are those of a packet that was sent.
abbrev pub ReceiversHandle : Type 0
ReceiversHandle =
    (seen : List (Event Emission)) (options : Options) (ends : Ends) (e : Endpoint) (queued : List Message) (past : List Effect) (packets : List Emission) (other : Endpoint) (their_past : List Effect) (reading : Reading) (emission : Emission)
    (bytes : List ℕ) (turns : List Transition) → Between options ends (sending_side e queued past packets) (receiving_side other their_past reading) → AreAnswered ends e past other their_past → AreSeen ends other their_past seen → length queued < 2 ^ 64 → AsksLittle packets
    → places.HasEntry emission packets → GoesToMaker emission → ((packet : PacketContent) → IsPacket (wire_options other.options) packet bytes → packet_of_content packet ≡ emission.packet)
    → AreNewTags options their_past past other turns → HandleInput other bytes turns
    → AreEnds ends.calls (seen ++ events_of turns) options (sending_side e queued past packets) (receiving_side (after_all other turns) (after_effects (effects_of turns) their_past) (reading_through other turns reading))
