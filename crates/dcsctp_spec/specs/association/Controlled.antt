-- How a turn of an endpoint is one of its association. The association changes as the change says, and the effects are the
-- change's. The user sees its packets, connections, ends and resets in the change's order. Not said here: timers, counts, what
-- lies below, the words drawn, and whether packets have a checksum. Nor are the texts, streams and kinds of events, and events
-- that don't count here.
use Rattle.std.specs.Prelude.{◌≡◌, ℕ, List, [], ◌∷◌}
use Rattle.dcsctp_types.specs.Settings.{SameOptions}
use Rattle.dcsctp_spec.specs.Packet.{Content, Packet, Emission}
use Rattle.dcsctp_spec.specs.endpoint.Event.{Event, sent, connected, closed, aborted, streams_reset_failed, streams_reset_performed, incoming_stream_reset}
use Rattle.dcsctp_spec.specs.endpoint.Endpoint.{Endpoint}
use Rattle.dcsctp_spec.specs.endpoint.Outcome.{Outcome}
use Rattle.dcsctp_spec.specs.association.Effect.{Effect, draws, sends, holds, connects, ends, begins, gives_up, completes, fails, accepts, performs, renews, resumes, effects_without_packets, Change}
use Rattle.dcsctp_spec.specs.association.Choices.{Choices}
use Rattle.dcsctp_spec.specs.association.Acts.{Act, act_change, ChunkChange}

-- what the user sees of a turn and two sides must agree on
pub data Observation : Type 0 where
  packet_sent : Packet → Observation
  has_connected : Observation
  has_ended : Observation
  own_reset_performed : Observation
  own_reset_failed : Observation
  peer_reset_performed : Observation

abbrev pub observations_of_events : List (Event Emission) → List Observation
observations_of_events [] = []
observations_of_events (sent emission ∷ events) = packet_sent emission.packet ∷ observations_of_events events
observations_of_events (connected ∷ events) = has_connected ∷ observations_of_events events
observations_of_events (closed ∷ events) = has_ended ∷ observations_of_events events
observations_of_events (aborted kind text ∷ events) = has_ended ∷ observations_of_events events
observations_of_events (streams_reset_performed streams ∷ events) = own_reset_performed ∷ observations_of_events events
observations_of_events (streams_reset_failed streams ∷ events) = own_reset_failed ∷ observations_of_events events
observations_of_events (incoming_stream_reset streams ∷ events) = peer_reset_performed ∷ observations_of_events events
observations_of_events (event ∷ events) = observations_of_events events

abbrev pub observations_of_effects : List Effect → List Observation
observations_of_effects [] = []
observations_of_effects (sends packet ∷ effects) = packet_sent packet ∷ observations_of_effects effects
observations_of_effects (connects link ∷ effects) = has_connected ∷ observations_of_effects effects
observations_of_effects (ends ∷ effects) = has_ended ∷ observations_of_effects effects
observations_of_effects (completes my number ∷ effects) = own_reset_performed ∷ observations_of_effects effects
observations_of_effects (fails number ∷ effects) = own_reset_failed ∷ observations_of_effects effects
observations_of_effects (performs peer number ∷ effects) = peer_reset_performed ∷ observations_of_effects effects
observations_of_effects (renews peer number ∷ effects) = observations_of_effects effects
observations_of_effects (draws pair ∷ effects) = observations_of_effects effects
observations_of_effects (holds link ∷ effects) = observations_of_effects effects
observations_of_effects (begins number ∷ effects) = observations_of_effects effects
observations_of_effects (gives_up number ∷ effects) = observations_of_effects effects
observations_of_effects (accepts number ∷ effects) = observations_of_effects effects
observations_of_effects (resumes link own last ∷ effects) = observations_of_effects effects

pub record IsControlled (e : Endpoint) (o : Outcome) (change : Change) : Type 0 where
  pub core : o.after.core ≡ change.core
  pub options : SameOptions e.options o.after.options
  pub observations : observations_of_events o.events ≡ observations_of_effects change.effects
  pub effects : o.effects ≡ effects_without_packets change.effects
  pub following : o.following ≡ change.following

-- a chunk's turn, as far as the association goes
abbrev pub IsControlledChunk : Endpoint → ℕ → Content → Outcome → Type 0
IsControlledChunk e tag content o = (change : Change) × ChunkChange e.options e.core tag content change × IsControlled e o change

-- an act's turn, as far as the association goes
abbrev pub IsControlledAct : Endpoint → Act → Outcome → Type 0
IsControlledAct e act o = (choices : Choices) × IsControlled e o (act_change e.options e.core act choices)
