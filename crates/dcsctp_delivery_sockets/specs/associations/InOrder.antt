-- What a user reads in one association comes in the order in which it was queued, stream by stream,
-- and without gaps where nothing may be left out (RFC 9260, section 6.6).
use Rattle.std.specs.Prelude.{◌≡◌, ◌⊎◌, ◌<◌, ◌+◌, ◌^◌, ℕ, Bool, true, false, Some, List, [], length, ◌&&◌, nat_le}
use Rattle.dcsctp_spec_lemmas.specs.types.declared.options.Options.{Options}
use Rattle.dcsctp_spec_lemmas.specs.spec.endpoint.Endpoint.{Endpoint}
use Rattle.dcsctp_spec_lemmas.specs.spec.Packet.{Emission}
use Rattle.dcsctp_spec_lemmas.specs.spec.association.Effect.{AssociationIdentity, Effect, holds, identity_of_core}
use Rattle.dcsctp_spec_lemmas.specs.spec.queues.Transfer.{Transfer}
use Rattle.dcsctp_spec_runs.specs.Past.{HasEffect}
use Rattle.dcsctp_delivery_directions.specs.sending.Log.{Message}
use Rattle.dcsctp_delivery_directions.specs.sending.ChunkCounts.{chunks_to}
use Rattle.dcsctp_delivery_directions.specs.sending.Losing.{AreUnlimited, AreUnlimitedOn}
use Rattle.dcsctp_delivery_directions.specs.directions.Requests.{requests_to}
use Rattle.dcsctp_delivery_directions.specs.order.PlainDirections.{FewOnEachStream}
use Rattle.dcsctp_delivery_directions.specs.order.Delivered.{AreDeliveredInOrder, AreDeliveredWithoutGaps}
use Rattle.dcsctp_delivery_directions.specs.order.Streams.{AreDeliveredByStream, AreDeliveredOnStreams}
use Rattle.dcsctp_delivery_directions.specs.order.Complete.{HasNothingLeft, AreAllDelivered}
use Rattle.dcsctp_delivery_directions.specs.epochs.Asked.{AreCutAsAsked}
use Rattle.dcsctp_delivery_directions.specs.epochs.Reports.{PerformBetween}
use Rattle.dcsctp_delivery_directions.specs.directions.Directions.{PerformedReset}
use Rattle.dcsctp_spec_lemmas.specs.types.queues.Messages.{MessageContent}
use Rattle.dcsctp_delivery_sockets.specs.associations.Ends.{ResetCalls, Ends, IsOnlyOwn, NumbersFromZero, chunks_before, Between, sending_side, receiving_side}
use Rattle.dcsctp_delivery_sockets.specs.associations.Reads.{Reading, with_key}

-- In the association of the sender whose peer has this tag messages interleave (RFC 8260).
abbrev pub Interleaves : List Effect → ℕ → Type 0
Interleaves past tag = (link : AssociationIdentity) → HasEffect (holds link) past → link.peer.tag ≡ tag → link.capabilities.message_interleaving ≡ true

-- So they do in one with this tag of the sender, and so in each such.
abbrev pub InterleavesUnder : List Effect → ℕ → Type 0
InterleavesUnder past tag = (link : AssociationIdentity) × HasEffect (holds link) past × (link.my.tag ≡ tag) × (link.capabilities.message_interleaving ≡ true)

-- Where messages interleave this holds if the numbers of each stream begin at 0, across resets of streams.
abbrev pub EndsDeliverInOrder : Type 0
EndsDeliverInOrder =
    (options : Options) (ends : Ends) (e : Endpoint) (queued : List Message) (past : List Effect) (packets : List Emission) (other : Endpoint) (their_past : List Effect) (reading : Reading)
    → Between options ends (sending_side e queued past packets) (receiving_side other their_past reading) → length queued < 2 ^ 64 → ((tag : ℕ) → chunks_before (ends.former tag) packets + chunks_to (ends.latest tag) packets < 2 ^ 30)
    → (tag : ℕ) → NumbersFromZero e past tag → InterleavesUnder past tag → AreDeliveredInOrder queued (with_key tag reading.reads)

-- when nothing of a stream waits as its reset is asked for, if the receive window is of 2^63 bytes or less
abbrev pub full_asks : (ℕ → ℕ → Bool) → ℕ → ℕ → ℕ → Bool
full_asks empties size id count = empties id count && nat_le size (2 ^ 63)

-- And each reset of streams that the receiver has performed was asked for by the sender's user: it separates what was queued before
-- from what was queued since.
abbrev pub EndsCutAsAsked : Type 0
EndsCutAsAsked =
    (options : Options) (ends : Ends) (e : Endpoint) (queued : List Message) (past : List Effect) (packets : List Emission) (other : Endpoint) (their_past : List Effect) (reading : Reading)
    → Between options ends (sending_side e queued past packets) (receiving_side other their_past reading) → length queued < 2 ^ 64 → ((tag : ℕ) → chunks_before (ends.former tag) packets + chunks_to (ends.latest tag) packets < 2 ^ 30)
    → (tag : ℕ) → NumbersFromZero e past tag → InterleavesUnder past tag → AreCutAsAsked false (nat_le options.max_receiver_window_buffer_size (2 ^ 63)) ends.calls.asks (full_asks ends.calls.empties options.max_receiver_window_buffer_size) (ends.gets tag).performed queued (with_key tag reading.reads)

-- So it is of the resets of one tag, where no message is left out of an epoch before another. And each reset that the sender's user
-- asked for when nothing of the stream waited is performed before what was queued since is read.
pub record AreCutByUser (calls : ResetCalls) (size : ℕ) (performed : List PerformedReset) (queued : List Message) (contents : List MessageContent) : Type 0 where
  pub cut : AreCutAsAsked true (nat_le size (2 ^ 63)) calls.asks (full_asks calls.empties size) performed queued contents
  pub between : PerformBetween calls.made calls.asks calls.empties performed queued cut.ordered.delivered.places

-- Where the sender has had no other own tag, no message without limits is left out of an epoch before another, if the receive window
-- is of 2^63 bytes or less.
abbrev pub EndsCutWithoutGaps : Type 0
EndsCutWithoutGaps =
    (options : Options) (ends : Ends) (e : Endpoint) (queued : List Message) (past : List Effect) (packets : List Emission) (other : Endpoint) (their_past : List Effect) (reading : Reading)
    → Between options ends (sending_side e queued past packets) (receiving_side other their_past reading) → length queued < 2 ^ 64 → ((tag : ℕ) → chunks_before (ends.former tag) packets + chunks_to (ends.latest tag) packets < 2 ^ 30)
    → (tag : ℕ) → IsOnlyOwn past tag → InterleavesUnder past tag → AreCutByUser ends.calls options.max_receiver_window_buffer_size (ends.gets tag).performed queued (with_key tag reading.reads)

-- Also where they don't it holds, if besides no message may be abandoned, or few ordered ones were queued on each stream; and no
-- request to reset streams was sent there.
abbrev pub EndsDeliverDataInOrder : Type 0
EndsDeliverDataInOrder =
    (options : Options) (ends : Ends) (e : Endpoint) (queued : List Message) (past : List Effect) (packets : List Emission) (other : Endpoint) (their_past : List Effect) (reading : Reading)
    → Between options ends (sending_side e queued past packets) (receiving_side other their_past reading) → length queued < 2 ^ 64 → ((tag : ℕ) → chunks_before (ends.former tag) packets + chunks_to (ends.latest tag) packets < 2 ^ 30) → options.max_receiver_window_buffer_size < 2 ^ 32
    → AreUnlimited queued ⊎ FewOnEachStream queued → (tag : ℕ) → NumbersFromZero e past tag → requests_to (ends.latest tag) packets ≡ 0 → AreDeliveredInOrder queued (with_key tag reading.reads)

-- Where messages interleave, and the sender has had no other own tag, what was read of a stream's ordered messages is a prefix of what
-- was queued, if the stream is never reset, and no message on it may be abandoned.
abbrev pub EndsDeliverByStream : Type 0
EndsDeliverByStream =
    (options : Options) (ends : Ends) (e : Endpoint) (queued : List Message) (past : List Effect) (packets : List Emission) (other : Endpoint) (their_past : List Effect) (reading : Reading)
    → Between options ends (sending_side e queued past packets) (receiving_side other their_past reading) → length queued < 2 ^ 64 → ((tag : ℕ) → chunks_before (ends.former tag) packets + chunks_to (ends.latest tag) packets < 2 ^ 30)
    → (tag : ℕ) → IsOnlyOwn past tag → InterleavesUnder past tag → AreDeliveredByStream ends.calls.never queued (with_key tag reading.reads)

-- The stream is never reset, and no message on it may be abandoned.
pub record IsReliableKept (never_resets : ℕ → Bool) (queued : List Message) (id : ℕ) : Type 0 where
  pub never : never_resets id ≡ true
  pub unlimited : AreUnlimitedOn id queued

-- Whether they interleave or not it is so of each of these streams, in the order of that stream, whatever happens on others.
abbrev pub EndsDeliverOnStreams : Type 0
EndsDeliverOnStreams =
    (these : ℕ → Bool) (options : Options) (ends : Ends) (e : Endpoint) (queued : List Message) (past : List Effect) (packets : List Emission) (other : Endpoint) (their_past : List Effect) (reading : Reading)
    → Between options ends (sending_side e queued past packets) (receiving_side other their_past reading) → length queued < 2 ^ 64 → ((tag : ℕ) → chunks_before (ends.former tag) packets + chunks_to (ends.latest tag) packets < 2 ^ 30) → options.max_receiver_window_buffer_size < 2 ^ 32
    → ((id : ℕ) → these id ≡ true → IsReliableKept ends.calls.never queued id) → (tag : ℕ) → IsOnlyOwn past tag → AreDeliveredOnStreams these queued (with_key tag reading.reads)

-- So it is of all, if no stream is reset.
abbrev pub EndsDeliverWithoutGaps : Type 0
EndsDeliverWithoutGaps =
    (options : Options) (ends : Ends) (e : Endpoint) (queued : List Message) (past : List Effect) (packets : List Emission) (other : Endpoint) (their_past : List Effect) (reading : Reading)
    → Between options ends (sending_side e queued past packets) (receiving_side other their_past reading) → length queued < 2 ^ 64 → ((tag : ℕ) → chunks_before (ends.former tag) packets + chunks_to (ends.latest tag) packets < 2 ^ 30) → options.max_receiver_window_buffer_size < 2 ^ 32
    → AreUnlimited queued → ((id : ℕ) → ends.calls.never id ≡ true) → (tag : ℕ) → IsOnlyOwn past tag → AreDeliveredWithoutGaps queued (with_key tag reading.reads)

-- ---- all of it

-- Both are in one association, where messages don't interleave. The sender has nothing left, and the receiver has no message ready.
pub record AreThrough (e other : Endpoint) : Type 0 where
  pub link : AssociationIdentity
  pub linked : identity_of_core e.core ≡ Some link
  pub theirs : AssociationIdentity
  pub theirs_linked : identity_of_core other.core ≡ Some theirs
  pub one : theirs.peer.tag ≡ link.my.tag
  pub crossing : theirs.my.tag ≡ link.peer.tag
  pub plain : link.capabilities.message_interleaving ≡ false
  pub left : HasNothingLeft e.queues
  pub transfer : Transfer
  pub there : other.queues.transfer ≡ Some transfer
  pub none_ready : transfer.reassembly.incoming.ready ≡ []

-- Then all ordered messages of each of these streams were read: what was acknowledged has arrived.
abbrev pub EndsArrive : Type 0
EndsArrive =
    (these : ℕ → Bool) (options : Options) (ends : Ends) (e : Endpoint) (queued : List Message) (past : List Effect) (packets : List Emission) (other : Endpoint) (their_past : List Effect) (reading : Reading)
    → Between options ends (sending_side e queued past packets) (receiving_side other their_past reading) → length queued < 2 ^ 64 → ((tag : ℕ) → chunks_before (ends.former tag) packets + chunks_to (ends.latest tag) packets < 2 ^ 30) → options.max_receiver_window_buffer_size < 2 ^ 32
    → ((id : ℕ) → these id ≡ true → IsReliableKept ends.calls.never queued id) → (through : AreThrough e other) → IsOnlyOwn past through.link.my.tag → AreAllDelivered these queued (with_key through.link.my.tag reading.reads)
