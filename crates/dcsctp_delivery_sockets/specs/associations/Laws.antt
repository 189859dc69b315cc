-- What is known of all associations of two sockets, in the direction from one to the other, turn by
-- turn, with interleaving or without.
use Rattle.std.specs.Prelude.{◌≡◌, ◌≢◌, ◌⊎◌, ◌<◌, ◌+◌, ◌-◌, ◌^◌, true, false, None, Some, List, [], ◌++◌, length, map, ℕ}
use Rattle.dcsctp_spec_lemmas.specs.types.declared.options.Options.{Options}
use Rattle.dcsctp_spec_lemmas.specs.types.Settings.{SameOptions}
use Rattle.dcsctp_spec_lemmas.specs.spec.endpoint.Endpoint.{Endpoint, fresh_endpoint}
use Rattle.dcsctp_spec_lemmas.specs.spec.endpoint.Event.{Event, incoming_stream_reset, streams_reset_performed, packets_of_events}
use Rattle.dcsctp_spec_lemmas.specs.spec.endpoint.Outcome.{Outcome}
use Rattle.dcsctp_spec_lemmas.specs.spec.Packet.{Emission}
use Rattle.dcsctp_spec_lemmas.specs.spec.endpoint.PreparedResets.{reset_refusal}
use Rattle.dcsctp_spec_lemmas.specs.spec.endpoint.ResetOutcomes.{has_reset}
use Rattle.dcsctp_spec_lemmas.specs.spec.endpoint.Turn.{Input, Turn}
use Rattle.dcsctp_spec_runs.specs.World.{after_effects}
use Rattle.dcsctp_spec_lemmas.specs.spec.association.Effect.{AssociationIdentity, Effect, identity_of, identity_of_core}
use Rattle.dcsctp_spec_lemmas.specs.spec.queues.Transfer.{Transfer}
use Rattle.dcsctp_spec_lemmas.specs.spec.endpoint.BegunResets.{stream_field}
use Rattle.dcsctp_delivery_directions.specs.sending.Log.{Message}
use Rattle.dcsctp_delivery_directions.specs.sending.Numbers.{stream_named}
use Rattle.dcsctp_delivery_directions.specs.sending.Places as places
use Rattle.dcsctp_delivery_directions.specs.sending.ChunkCounts.{chunks_to}
use Rattle.dcsctp_delivery_directions.specs.directions.Directions.{AreDelivered}
use Rattle.dcsctp_delivery_sockets.specs.turns.Actions.{IsOpening, content_of_input, queued_after, BeginsAssociation, resets_stream, IsCall}
use Rattle.dcsctp_delivery_sockets.specs.turns.Runs.{RefusesNone}
use Rattle.dcsctp_delivery_sockets.specs.turns.PeerRequests.{KnowsPeerOfCore}
use Rattle.dcsctp_spec_lemmas.specs.types.declared.association.Pair.{Pair}
use Rattle.dcsctp_spec_runs.specs.Past.{WasPerformed, HasEffect}
use Rattle.dcsctp_spec_lemmas.specs.spec.association.Effect.{holds, completes}
use Rattle.dcsctp_delivery_directions.specs.directions.Requests.{requests_to}
use Rattle.dcsctp_delivery_sockets.specs.associations.Answered.{request_numbered, AreAnswered}
use Rattle.dcsctp_delivery_sockets.specs.turns.Sides.{WasSent}
use Rattle.dcsctp_delivery_sockets.specs.associations.Ends.{ResetCalls, calls_after, Ends, NewPeer, TakesOver, NewTag, chunks_before, HadBoth, AreSeen, CameBack, Between, sending_side, receiving_side, SendingSide, ReceivingSide}
use Rattle.dcsctp_delivery_sockets.specs.associations.Reads.{Reading, nothing_read, reading_after, messages_of}

-- A request of ours that ends as performed was performed by the peer, or it is the 2^32nd of its association.
abbrev pub CompletesPerformed : List Effect → Outcome → Type 0
CompletesPerformed their_past o = (my : Pair) (number : ℕ) → HasEffect (completes my number) o.effects → WasPerformed my number their_past ⊎ (number ≡ request_numbered my.first_tsn (2 ^ 32 - 1))

-- Fewer than 2^32 - 1 requests to reset streams went to each tag.
abbrev pub AsksLittle : List Emission → Type 0
AsksLittle packets = (tag : ℕ) → requests_to tag packets < 2 ^ 32 - 1

-- The user resets streams by this call, when so many messages were queued, only as it does.
pub record ResetsAs (calls : ResetCalls) (count : ℕ) (e : Endpoint) (input : Input) : Type 0 where
  pub never : (id : ℕ) → calls.never id ≡ true → resets_stream id input ≡ false
  pub asks : reset_refusal e ≡ None → (id : ℕ) → resets_stream id input ≡ true → calls.asks id count ≡ true
  pub empty : reset_refusal e ≡ None → (id : ℕ) → resets_stream id input ≡ true → calls.empties id count ≡ true → (stream_named id e.queues.queue.streams).messages ≡ []

-- The user is told of a reset of the peer only where one is performed.
abbrev pub TellsPerformed : Outcome → Type 0
TellsPerformed o = (streams : List ℕ) → places.HasEntry (incoming_stream_reset streams) o.events → has_reset o.effects ≡ true

-- There are ends for what was done so far, and for what was read, where the sender's user resets streams so. What the
-- receiver's packets among these events report was reached, and its user was told of each reset that it has performed.
pub record AreEnds (calls : ResetCalls) (seen : List (Event Emission)) (options : Options) (from : SendingSide) (to : ReceivingSide) : Type 0 where
  pub ends : Ends
  pub is : ends.calls ≡ calls
  pub between : Between options ends from to
  pub answered : AreAnswered ends from.endpoint from.past to.endpoint to.past
  pub reported : AreSeen ends to.endpoint to.past seen

-- Of each reset of ours that ends as performed in this turn, the receiver's user was told in these events: it names the same streams,
-- each as a field of 16 bits has it.
abbrev pub ResetsWereSeen : List (Event Emission) → Outcome → Type 0
ResetsWereSeen seen o = (my : Pair) (number : ℕ) (streams : List ℕ) → HasEffect (completes my number) o.effects → places.HasEntry (streams_reset_performed streams) o.events → places.HasEntry (incoming_stream_reset (map stream_field streams)) seen

-- Two sockets that were just made have them; `options` are those of the receiver.
abbrev pub EndsBegin : Type 0
EndsBegin = (calls : ResetCalls) (mine options : Options) → calls.made ≡ [] → AreEnds calls [] options (sending_side (fresh_endpoint mine) [] [] []) (receiving_side (fresh_endpoint options) [] nothing_read)

-- Each association that is recorded has another peer's tag than those before.
abbrev pub NewPeerTags : List Effect → Outcome → Type 0
NewPeerTags past o = (link old : AssociationIdentity) → HasEffect (holds link) o.effects → HasEffect (holds old) past → old.peer.tag ≢ link.peer.tag

-- A turn of the sender leaves them, with `follow_rfc` as it is, if an association that begins is of a new tag, or takes the place of the
-- one that is there, few requests to reset streams went to each tag, with interleaving none fails, one that ends as performed was performed by the
-- receiver, and what acknowledges came in a packet of the receiver to our own tag.
abbrev pub SendersTurn : Type 0
SendersTurn =
    (seen : List (Event Emission)) (options : Options) (ends : Ends) (e : Endpoint) (queued : List Message) (past : List Effect) (packets : List Emission) (other : Endpoint) (their_past : List Effect) (reading : Reading) (input : Input) (o : Outcome)
    → Between options ends (sending_side e queued past packets) (receiving_side other their_past reading) → AreAnswered ends e past other their_past → AreSeen ends other their_past seen
    → ((link : AssociationIdentity) → identity_of_core e.core ≡ Some link → CameBack (packets_of_events seen) link.my.tag (content_of_input input)) → ((begun : BeginsAssociation e o) → IsOpening (content_of_input input) → identity_of_core o.after.core ≡ Some (identity_of begun.my begun.held) → NewPeer past their_past (identity_of begun.my begun.held) ⊎ TakesOver past their_past e input (identity_of begun.my begun.held)) → length (queued_after e input queued) < 2 ^ 64 → AsksLittle (packets ++ packets_of_events o.events)
    → RefusesNone ends.calls.in_turn e o → ResetsAs ends.calls (length queued) e input → CompletesPerformed their_past o → o.after.options.follow_rfc ≡ e.options.follow_rfc → IsCall input → Turn e input o → AreEnds (calls_after e input (length queued) ends.calls) seen options (sending_side o.after (queued_after e input queued) (after_effects o.effects past) (packets ++ packets_of_events o.events)) (receiving_side other their_past reading)

-- So does one of the receiver, if what is handled in its association was sent in it, the peer of each association that is recorded
-- has a new tag, the user is told of resets that are performed, and few requests went to each tag.
abbrev pub ReceiversTurn : Type 0
ReceiversTurn =
    (seen : List (Event Emission)) (options : Options) (ends : Ends) (e : Endpoint) (queued : List Message) (past : List Effect) (packets : List Emission) (other : Endpoint) (their_past : List Effect) (reading : Reading) (input : Input) (o : Outcome)
    → Between options ends (sending_side e queued past packets) (receiving_side other their_past reading) → AreAnswered ends e past other their_past → AreSeen ends other their_past seen → length queued < 2 ^ 64 → AsksLittle packets → SameOptions options other.options → KnowsPeerOfCore their_past other.core
    → NewPeerTags their_past o → TellsPerformed o → ((begun : BeginsAssociation other o) → IsOpening (content_of_input input) → identity_of_core o.after.core ≡ Some (identity_of begun.my begun.held) → NewTag their_past past (identity_of begun.my begun.held))
    → ((transfer : Transfer) (link : AssociationIdentity) → other.queues.transfer ≡ Some transfer → identity_of_core other.core ≡ Some link → WasSent (ends.sends link.peer.tag).sent (content_of_input input) × (HadBoth past link.peer.tag link.my.tag ⊎ WasSent [] (content_of_input input))) → IsCall input → Turn other input o
    → AreEnds ends.calls (seen ++ o.events) options (sending_side e queued past packets) (receiving_side o.after (after_effects o.effects their_past) (reading_after other input o reading))

-- A turn of the sender tells its user of no reset of which the receiver's wasn't told, if few requests went to each tag, and one that
-- ends as performed was performed by the receiver.
abbrev pub SendersResets : Type 0
SendersResets =
    (seen : List (Event Emission)) (options : Options) (ends : Ends) (e : Endpoint) (queued : List Message) (past : List Effect) (packets : List Emission) (other : Endpoint) (their_past : List Effect) (reading : Reading) (input : Input) (o : Outcome)
    → Between options ends (sending_side e queued past packets) (receiving_side other their_past reading) → AreAnswered ends e past other their_past → AreSeen ends other their_past seen → AsksLittle packets
    → CompletesPerformed their_past o → IsCall input → Turn e input o → ResetsWereSeen seen o

-- Each message that was read, in any association or after it, was queued, and none twice, if fewer than 2^30 chunks of data
-- went to the peers of each tag: none assigned 2^31 TSNs.
abbrev pub EndsDeliver : Type 0
EndsDeliver =
    (options : Options) (ends : Ends) (e : Endpoint) (queued : List Message) (past : List Effect) (packets : List Emission) (other : Endpoint) (their_past : List Effect) (reading : Reading)
    → Between options ends (sending_side e queued past packets) (receiving_side other their_past reading) → length queued < 2 ^ 64 → ((tag : ℕ) → chunks_before (ends.former tag) packets + chunks_to (ends.latest tag) packets < 2 ^ 30)
    → AreDelivered queued (messages_of reading.reads)
