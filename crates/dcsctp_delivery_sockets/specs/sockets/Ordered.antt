-- What a user reads in one association comes in the order in which the other user sent it, stream by
-- stream, and without gaps where nothing may be left out (RFC 9260, section 6.6).
use Rattle.std.specs.Prelude.{◌≡◌, ◌⊎◌, ◌<◌, ℕ, true, false, Some, List, [], ◌∷◌, map, slice_get, ◌==◌, ◌&&◌, ◌^◌, not, suc, if◌then◌else◌}
use Rattle.dcsctp_spec_lemmas.specs.types.declared.options.Options.{Options}
use Rattle.dcsctp_spec_lemmas.specs.spec.endpoint.CallTurns.{Transition, events_of}
use Rattle.dcsctp_spec_lemmas.specs.spec.endpoint.Endpoint.{fresh_endpoint}
use Rattle.dcsctp_spec_lemmas.specs.spec.endpoint.MessageOutcomes.{Sending}
use Rattle.dcsctp_spec_lemmas.specs.types.queues.Messages.{MessageContent}
use Rattle.dcsctp_theorem_sockets.specs.Agreement.{recorded_past}
use Rattle.dcsctp_delivery_directions.specs.sending.Places.{HasEntry}
use Rattle.dcsctp_delivery_directions.specs.receiving.Ready.{AreDistinct}
use Rattle.dcsctp_delivery_sockets.specs.associations.Reads.{nothing_read, with_tag}
use Rattle.dcsctp_delivery_sockets.specs.associations.InOrder.{Interleaves}
use Rattle.dcsctp_delivery_directions.specs.sending.Queueing.{has_limits}
use Rattle.dcsctp_delivery_directions.specs.directions.Requests.{requests_to}
use Rattle.dcsctp_delivery_sockets.specs.turns.Actions.{resets_streams, resets_stream}
use Rattle.std.specs.List.{AllByRecursion}
use Rattle.dcsctp_spec_lemmas.specs.spec.association.Effect.{AssociationIdentity, Effect, holds}
use Rattle.dcsctp_spec_runs.specs.Past.{HasEffect}
use Rattle.dcsctp_spec_lemmas.specs.spec.endpoint.Event.{packets_of_events}
use Rattle.dcsctp_delivery_sockets.specs.sockets.Packets.{reading_through}
use Rattle.dcsctp_delivery_sockets.specs.sockets.UserMessages.{message_sent, sendings_of_turns, WereSent}

-- ---- what was sent, and what was read

-- An ordered message of the stream was sent at this place in the order of sending.
pub record IsOrderedMessage (sent : List Sending) (stream place : ℕ) : Type 0 where
  pub sending : Sending
  pub at : slice_get sent place ≡ Some sending
  pub on : sending.message.stream ≡ stream
  pub ordered : sending.options.unordered ≡ false

-- A message of the stream was sent at this place.
pub record IsStreamMessage (sent : List Sending) (stream place : ℕ) : Type 0 where
  pub sending : Sending
  pub at : slice_get sent place ≡ Some sending
  pub on : sending.message.stream ≡ stream

-- At these places ordered messages of the stream come in the order in which they were sent.
abbrev pub RiseOn : List Sending → ℕ → List ℕ → Type 0
RiseOn sent stream [] = Unit {0}
RiseOn sent stream (place ∷ places) =
    ((later : ℕ) → HasEntry later places → IsOrderedMessage sent stream place → IsOrderedMessage sent stream later → place < later) × RiseOn sent stream places

-- Each message that was read was sent, none was read twice, and the ordered messages of each stream were read in the order in
-- which they were sent.
pub record IsDeliveredInOrder (sent : List Sending) (read : List MessageContent) : Type 0 where
  pub places : List ℕ
  pub were_sent : WereSent (map message_sent sent) places read
  pub once : AreDistinct places
  pub in_order : (stream : ℕ) → RiseOn sent stream places

-- And none is missing before one that was read: what was read of a stream's ordered messages is a prefix of what was sent.
pub record IsDeliveredWithoutGaps (sent : List Sending) (read : List MessageContent) : Type 0 where
  pub delivered : IsDeliveredInOrder sent read
  pub no_gap : (stream earlier later : ℕ) → HasEntry later delivered.places → IsOrderedMessage sent stream later → IsOrderedMessage sent stream earlier → earlier < later → HasEntry earlier delivered.places

-- It is so of each of these streams.
pub record IsDeliveredByStream (reliable : ℕ → Type 0) (sent : List Sending) (read : List MessageContent) : Type 0 where
  pub delivered : IsDeliveredInOrder sent read
  pub no_gap : (stream : ℕ) → reliable stream → (earlier later : ℕ) → HasEntry later delivered.places → IsOrderedMessage sent stream later → IsOrderedMessage sent stream earlier → earlier < later
      → HasEntry earlier delivered.places

-- Each message that was read was sent, and none was read twice. What was read of the ordered messages of each of these streams is a
-- prefix of what was sent.
pub record IsDeliveredOn (streams : ℕ → Type 0) (sent : List Sending) (read : List MessageContent) : Type 0 where
  pub places : List ℕ
  pub were_sent : WereSent (map message_sent sent) places read
  pub once : AreDistinct places
  pub in_order : (stream : ℕ) → streams stream → RiseOn sent stream places
  pub no_gap : (stream : ℕ) → streams stream → (earlier later : ℕ) → HasEntry later places → IsOrderedMessage sent stream later → IsOrderedMessage sent stream earlier → earlier < later → HasEntry earlier places

-- And each ordered message that was sent on them was read.
pub record IsDeliveredAllOn (streams : ℕ → Type 0) (sent : List Sending) (read : List MessageContent) : Type 0 where
  pub on : IsDeliveredOn streams sent read
  pub all : (stream : ℕ) → streams stream → (place : ℕ) → IsOrderedMessage sent stream place → HasEntry place on.places

-- the messages that the user of this socket read in these turns in the association with this own tag, or after it had ended
abbrev pub read_under : ℕ → Options → List Transition → List MessageContent
read_under tag options turns = with_tag tag (reading_through (fresh_endpoint options) turns nothing_read).reads

-- ---- when it comes in order

-- No message that the user of this socket sent may be abandoned: none has a lifetime, or a limit on retransmissions (RFC 3758).
abbrev pub SetsNoLimits : Options → List Transition → Type 0
SetsNoLimits options turns = AllByRecursion (λ sending. has_limits sending.options ≡ false) (sendings_of_turns (fresh_endpoint options) turns)

-- how many of these are ordered messages of the stream
abbrev pub ordered_sent : ℕ → List Sending → ℕ
ordered_sent stream [] = 0
ordered_sent stream (sending ∷ sendings) =
    if (sending.message.stream == stream) && not sending.options.unordered then suc (ordered_sent stream sendings) else ordered_sent stream sendings

-- Fewer than 2^15 ordered messages were sent on each stream, so that a stream sequence number is never ambiguous.
abbrev pub SendsFew : Options → List Transition → Type 0
SendsFew options turns = (stream : ℕ) → ordered_sent stream (sendings_of_turns (fresh_endpoint options) turns) < 2 ^ 15

-- What order asks of DATA in the association whose peer has this tag. Either no message may be abandoned, or few ordered ones are
-- sent on each stream. And no request to reset streams was sent there (RFC 6525).
pub record AllowsDataOrder (options : Options) (turns : List Transition) (tag : ℕ) : Type 0 where
  pub unambiguous : SetsNoLimits options turns ⊎ SendsFew options turns
  pub no_requests : requests_to tag (packets_of_events (events_of turns)) ≡ 0

-- All associations of the sender have one own tag: it had one, or each later one took the place of the one before, where both ends
-- began at the same time (RFC 9260, section 5.2.4, action B).
abbrev pub HasOneTag : List Effect → Type 0
HasOneTag past = (one other : AssociationIdentity) → HasEffect (holds one) past → HasEffect (holds other) past → one.my.tag ≡ other.my.tag

-- The sender follows the RFC, or had no other own tag, so that the numbers of each stream begin at 0 (RFC 9260, section 6.5).
abbrev pub StartsAtZero : Options → List Transition → Type 0
StartsAtZero options turns = (options.follow_rfc ≡ true) ⊎ HasOneTag (recorded_past turns)

-- All that order asks of the sender and its association whose peer has this tag, beside what delivery asks. Either messages
-- interleave (RFC 8260), or what order asks of DATA is so (`AllowsDataOrder`).
pub record AllowsOrder (options : Options) (turns : List Transition) (tag : ℕ) : Type 0 where
  pub starts_at_zero : StartsAtZero options turns
  pub numbering : Interleaves (recorded_past turns) tag ⊎ AllowsDataOrder options turns tag

-- All that it takes for nothing to be missing: the sender had no other own tag, no message may be abandoned, and its user has never
-- called `reset_streams`. A call that is refused counts.
pub record AllowsNoGaps (options : Options) (turns : List Transition) : Type 0 where
  pub one_tag : HasOneTag (recorded_past turns)
  pub unlimited : SetsNoLimits options turns
  pub never_resets : AllByRecursion (λ turn. resets_streams turn.input ≡ false) turns

-- No message that the user of this socket sent on the stream may be abandoned.
abbrev pub SetsNoLimitsOn : ℕ → Options → List Transition → Type 0
SetsNoLimitsOn stream options turns =
    AllByRecursion (λ sending. sending.message.stream ≡ stream → has_limits sending.options ≡ false) (sendings_of_turns (fresh_endpoint options) turns)

-- The user has never called `reset_streams` for the stream. A call that is refused counts.
abbrev pub NeverResets : List Transition → ℕ → Type 0
NeverResets turns stream = AllByRecursion (λ turn. resets_stream stream turn.input ≡ false) turns

-- The stream is reliable: none of its messages may be abandoned, and the user has never called `reset_streams` for it. A call that
-- is refused counts. Messages of other streams may be abandoned, and those may be reset.
pub record IsReliable (options : Options) (turns : List Transition) (stream : ℕ) : Type 0 where
  pub unlimited : SetsNoLimitsOn stream options turns
  pub never_resets : NeverResets turns stream
