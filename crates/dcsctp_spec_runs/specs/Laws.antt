-- Laws of the definitions, in other words than theirs.
use Rattle.std.specs.Prelude.{◌≡◌, ◌⊎◌, ℕ, Bool, true, false, Option, None, Some, List, [], ◌∷◌, ◌++◌}
use Rattle.dcsctp_spec_lemmas.specs.types.declared.capabilities.Capabilities.{Capabilities}
use Rattle.dcsctp_spec_lemmas.specs.types.declared.kinds.ErrorKind.TheVariants.{ParseFailed}
use Rattle.dcsctp_spec_lemmas.specs.types.declared.options.Options.{Options}
use Rattle.dcsctp_spec_lemmas.specs.types.Settings.{SameOptions, wire_options}
use Rattle.dcsctp_spec_lemmas.specs.spec.Admission.{all_chunks, shutdown_acks_alone, refused, admits, shutdown_acks_of, is_single_init}
use Rattle.dcsctp_spec_lemmas.specs.types.declared.schedule.Side.{Side}
use Rattle.dcsctp_spec_lemmas.specs.types.Schedule.{ActContent}
use Rattle.dcsctp_spec_runs.specs.Sockets.{Both, of_side, TurnsOfAct, PerformedAct, SocketRun, turns_after, endpoint_after}
use Rattle.dcsctp_spec_lemmas.specs.spec.endpoint.CallTurns.{packet_tail, Transition, Turns, ChunkTurns, AdmittedTurns, HandleInput, after_all, words_of, effects_of, events_of}
use Rattle.dcsctp_spec_lemmas.specs.spec.endpoint.Event.{Event, sent, error}
use Rattle.dcsctp_spec_lemmas.specs.spec.endpoint.Turn.{Input, unreadable_text, refusal_outcome}
use Rattle.dcsctp_spec_lemmas.specs.spec.association.Controlled.{IsControlled}
use Rattle.dcsctp_spec_lemmas.specs.spec.association.Effect.{Change}
use Rattle.dcsctp_spec_lemmas.specs.wire.Content.{PacketContent}
use Rattle.dcsctp_spec_lemmas.specs.wire.Format.{IsPacket}
use Rattle.dcsctp_spec_lemmas.specs.types.Offer.{Offer, offer_of, offer_of_capabilities, offer_parameters, offer_announced, capabilities_offered, negotiated_capabilities, answering_offer}
use Rattle.dcsctp_spec_lemmas.specs.spec.Packet.{Introduction, Content, shutdown_ack, Packet, Emission, cookie_parameters, packet_of_content}
use Rattle.dcsctp_spec_lemmas.specs.spec.endpoint.Endpoint.{Endpoint, Core, closed}
use Rattle.dcsctp_spec_runs.specs.World.{MayBeHandled, ChunkChanges}
use Rattle.dcsctp_spec_lemmas.specs.spec.association.Acts.{chunk_change}
use Rattle.dcsctp_spec_lemmas.specs.spec.association.Choices.{Choices}
use Rattle.dcsctp_spec_lemmas.specs.spec.association.ShutdownChanges.{reflected_change}
use Rattle.dcsctp_spec_lemmas.specs.spec.endpoint.Outcome.{Outcome, count_up}
use Rattle.dcsctp_spec_lemmas.specs.spec.queues.Tracker.{is_acknowledgement_due}
use Rattle.dcsctp_spec_lemmas.specs.spec.queues.Transfer.{Transfer}
use Rattle.dcsctp_spec_lemmas.specs.spec.endpoint.BegunResets.{core_asking}
use Rattle.dcsctp_spec_lemmas.specs.spec.endpoint.HandshakeOutcomes.{InitTurn}
use Rattle.dcsctp_spec_lemmas.specs.spec.endpoint.FlushOutcomes.{Answer, FlushAnswers, flush_of, IsWithinMtu, KeepsLimits}
use Rattle.dcsctp_spec_laws.specs.TurnLaws.{FitsContent, StandsBefore}

-- Two ends agree: the features are equal, and the incoming streams of one are the outgoing ones of the other.
pub record IsMirrored (mine theirs : Capabilities) : Type 0 where
  pub partial_reliability : mine.partial_reliability ≡ theirs.partial_reliability
  pub message_interleaving : mine.message_interleaving ≡ theirs.message_interleaving
  pub reconfig : mine.reconfig ≡ theirs.reconfig
  pub zero_checksum_method : mine.zero_checksum_method ≡ theirs.zero_checksum_method
  pub incoming : mine.negotiated_maximum_incoming_streams ≡ theirs.negotiated_maximum_outgoing_streams
  pub outgoing : mine.negotiated_maximum_outgoing_streams ≡ theirs.negotiated_maximum_incoming_streams

abbrev pub NegotiationIsMutual : Type 0
NegotiationIsMutual = (a b : Offer) → IsMirrored (negotiated_capabilities a b) (negotiated_capabilities b a)

-- An answer may leave out a method that isn't common: what is agreed is the same.
abbrev pub AnswerKeepsAgreement : Type 0
AnswerKeepsAgreement = (mine theirs : Offer) → negotiated_capabilities mine (answering_offer mine theirs) ≡ negotiated_capabilities mine theirs

-- The secret stays. By the RFC's rules a closed socket that has none yet gets one.
abbrev pub SecretStays : Endpoint → Endpoint → Type 0
SecretStays old new = (new.secret ≡ old.secret) ⊎ ((old.options.follow_rfc ≡ true) × (old.secret ≡ 0) × (old.core ≡ closed))

-- Nothing but the count of packets sent differs, that a chunk of the packet was answered, and the first secret.
abbrev pub CountsSentOnly : Endpoint → Endpoint → Type 0
CountsSentOnly old new =
    ((new.has_answered ≡ old.has_answered) ⊎ (new.has_answered ≡ true))
    × SecretStays old new
    × (new ≡ record old {
      counts = record old.counts { packets_sent = new.counts.packets_sent };
      has_answered = new.has_answered;
      secret = new.secret;
    })

-- no event, or a packet
pub data AtMostOnePacket : List (Event Emission) → Type 0 where
  no_packet : AtMostOnePacket []
  one_packet : (emission : Emission) → AtMostOnePacket (sent emission ∷ [])

-- An INIT brings at most one event, a packet, and changes nothing but the count of packets sent, that it was answered, and the first
-- secret, in every phase (RFC 9260, sections 5.1 and 5.2).
abbrev pub InitBringsOnePacket : Type 0
InitBringsOnePacket = (e : Endpoint) (theirs : Introduction) (o : Outcome) → InitTurn e theirs o → CountsSentOnly e o.after × AtMostOnePacket o.events

-- Is an acknowledgement of data due that came earlier?
abbrev pub is_earlier_acknowledgement_due : Option Transfer → Bool
is_earlier_acknowledgement_due None = false
is_earlier_acknowledgement_due (Some transfer) = is_acknowledgement_due transfer.tracker

-- The association is as it was. If an acknowledgement was due, the flush that sends it may have begun an own request to reset
-- streams: then its number is outstanding, and nothing else of the association has changed (RFC 6525, section 5.1.2).
pub data StaysAs (is_due : Bool) (old new : Core) : Type 0 where
  unchanged_core : new ≡ old → StaysAs is_due old new
  asking_core : is_due ≡ true → new ≡ core_asking old → StaysAs is_due old new

-- Bytes that are a packet of one INIT, or no packet, leave the association as it is, in every phase. So they do where the packet
-- is refused (RFC 9260, sections 5.2 and 8.5.1).
abbrev pub InitPacketLeavesAssociation : Type 0
InitPacketLeavesAssociation =
    (e : Endpoint) (bytes : List ℕ) (turns : List Transition) → HandleInput e bytes turns
    → ((packet : PacketContent) → IsPacket (wire_options e.options) packet bytes → is_single_init (packet_of_content packet).contents ≡ true)
    → StaysAs (is_earlier_acknowledgement_due e.queues.transfer) e.core (after_all e turns).core

-- What a socket announces in an INIT or INIT ACK is read back from it, with a cookie after it or without.
abbrev pub OfferReadsBack : Type 0
OfferReadsBack = (options : Options) (method : ℕ) (cookie : Option (List ℕ)) →
    let offer = record (offer_of options) { zero_checksum_method = method } in
    offer_announced offer.outbound_streams offer.inbound_streams (offer_parameters offer ++ cookie_parameters cookie) ≡ offer

-- An offer is found again in its capabilities.
abbrev pub CapabilitiesHoldOffer : Type 0
CapabilitiesHoldOffer = (offer : Offer) → offer_of_capabilities (capabilities_offered offer) ≡ offer

-- A packet that can't be read, or that admission refuses, is counted, adds one error, and changes nothing else (RFC 9260, section
-- 8.5). That a chunk of the packet before was answered counts no longer.
pub record IsPacketRefused (e : Endpoint) (text : List ℕ) (turns : List Transition) : Type 0 where
  pub endpoint : after_all e turns ≡ record e { has_answered = false; counts = record e.counts { packets_received = count_up e.counts.packets_received } }
  pub events : events_of turns ≡ error ParseFailed text ∷ []
  pub words : words_of turns ≡ []
  pub effects : effects_of turns ≡ []

pub record RefusedPacketAddsOneError : Type 0 where
  pub unreadable : (e : Endpoint) (bytes : List ℕ) (turns : List Transition) → HandleInput e bytes turns
      → ((packet : PacketContent) → IsPacket (wire_options e.options) packet bytes → ⊥)
      → IsPacketRefused e unreadable_text turns
  pub refused : (e : Endpoint) (bytes text : List ℕ) (packet : PacketContent) (turns : List Transition) → HandleInput e bytes turns
      → IsPacket (wire_options e.options) packet bytes → admits e.core (packet_of_content packet) ≡ refused text
      → IsPacketRefused e text turns

-- Whatever admission lets in is let in by `World`, too: a whole packet, or only its SHUTDOWN ACK chunks. Each of these that is
-- handled is answered, and the association is unchanged (RFC 9260, sections 8.4 and 8.5.1).
pub record AdmittedPacketsMayBeHandled : Type 0 where
  pub whole : (core : Core) (packet : Packet) → admits core packet ≡ all_chunks → MayBeHandled core packet
  pub cut : (core : Core) (packet : Packet) → admits core packet ≡ shutdown_acks_alone
      → MayBeHandled core (record packet { contents = shutdown_acks_of packet.contents })
  pub answered : (options : Options) (core : Core) (packet : Packet) (choices : Choices) → admits core packet ≡ shutdown_acks_alone
      → chunk_change options core packet.tag shutdown_ack choices ≡ reflected_change core packet.tag choices.following

-- ---- the turns of an endpoint as turns of its association

-- where each of a packet's chunks fits at its turn
abbrev pub FitsTurns : Endpoint → List Content → List Transition → Type 0
FitsTurns e [] turns = Unit {0}
FitsTurns e (content ∷ contents) [] = Unit {0}
FitsTurns e (content ∷ contents) (turn ∷ turns) = FitsContent e content × FitsTurns turn.outcome.after contents turns

-- turn by turn
abbrev pub AllControlled : Endpoint → List Transition → List Change → Type 0
AllControlled e [] [] = Unit {0}
AllControlled e [] (change ∷ changes) = ⊥
AllControlled e (turn ∷ turns) [] = ⊥
AllControlled e (turn ∷ turns) (change ∷ changes) = IsControlled e turn.outcome change × AllControlled turn.outcome.after turns changes

-- what is left of a packet's turns: those of its end, or none
pub data IsRest (e : Endpoint) (ends : List Input) (turns : List Transition) : Type 0 where
  dropped : turns ≡ [] → IsRest e ends turns
  ended : Turns e ends turns → IsRest e ends turns

-- The turns of a packet's chunks are chunks that the association handles. After them comes what follows a packet's chunks, or
-- nothing.
pub record AreChunkTurns (e : Endpoint) (tag : ℕ) (contents : List Content) (ends : List Input) (turns : List Transition) : Type 0 where
  pub chunks : List Transition
  pub rest : List Transition
  pub parts : turns ≡ chunks ++ rest
  pub changes : List Change
  pub moves : ChunkChanges e.options e.core tag contents changes
  pub controlled : AllControlled e chunks changes
  pub is_rest : IsRest (after_all e chunks) ends rest

abbrev pub PacketsAreControlled : Type 0
PacketsAreControlled =
    (e : Endpoint) (tag : ℕ) (contents : List Content) (ends : List Input) (turns : List Transition) → ChunkTurns e tag contents ends turns
    → FitsTurns e contents turns → AreChunkTurns e tag contents ends turns

-- A packet's turns: what precedes its chunks; these, as they may be handled; and what comes after them.
pub record IsDelivery (e : Endpoint) (packet : Packet) (begun : Transition) (turns : List Transition) : Type 0 where
  pub before : StandsBefore e begun.outcome
  pub worked : AreChunkTurns begun.outcome.after packet.tag packet.contents (packet_tail begun.outcome.after) turns
  pub may : MayBeHandled begun.outcome.after.core packet

-- The outcome of a packet that was counted: a delivery to the association, of all its chunks or its SHUTDOWN ACK chunks; or one
-- error.
pub data DeliversPacket (e : Endpoint) (packet : Packet) : List Transition → Type 0 where
  whole : (begun : Transition) (turns : List Transition) → IsDelivery e packet begun turns → DeliversPacket e packet (begun ∷ turns)
  acks : (turns : List Transition) → AreChunkTurns e packet.tag (shutdown_acks_of packet.contents) [] turns → DeliversPacket e packet turns
  reported : (text : List ℕ) (turn : Transition) → turn.outcome ≡ refusal_outcome e text → DeliversPacket e packet (turn ∷ [])

-- where the chunks of a packet fit at their turns, after the turn that comes before them
abbrev pub FitsBehind : List Content → List Transition → Type 0
FitsBehind contents [] = Unit {0}
FitsBehind contents (begun ∷ turns) = FitsTurns begun.outcome.after contents turns

abbrev pub DeliveriesAreControlled : Type 0
DeliveriesAreControlled =
    (e : Endpoint) (packet : Packet) (turns : List Transition) → AdmittedTurns e packet (admits e.core packet) turns → FitsBehind packet.contents turns
    → DeliversPacket e packet turns

-- ---- a flush

-- Whatever answers a flush gets, it sends at most as many packets as `max_burst` allows (RFC 9260, section 6.1). While the COOKIE
-- ECHO isn't answered it sends at most one. None is longer than `mtu`. Its other events are only of amounts and messages.
abbrev pub FlushKeepsLimits : Type 0
FlushKeepsLimits =
    (e : Endpoint) (draft : Emission) (answers : List Answer) → FlushAnswers e draft answers → IsWithinMtu e draft
    → KeepsLimits e (flush_of e draft answers).events

-- ---- two sockets

-- The options of a socket never change, except for the longest message that it takes. That holds whatever the user calls and
-- whatever is delivered.
pub record SocketsKeepOptions : Type 0 where
  pub act : (e : Endpoint) (packets : List (List ℕ)) (act : ActContent) (turns : List Transition) → TurnsOfAct e packets act turns
      → SameOptions e.options (after_all e turns).options
  pub run : (options : Both Options) (steps : List PerformedAct) → SocketRun options steps
      → (side : Side) → SameOptions (of_side side options) (endpoint_after (of_side side options) (of_side side (turns_after steps))).options
