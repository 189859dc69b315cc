-- What a user reads of a stream before and after each reset of it (RFC 6525, sections 5.1.2 and 5.2.2), by
-- what two users see: the messages and the calls of `reset_streams` of the one, and what the other reads and
-- is told of.
use Rattle.std.specs.Prelude.{◌≡◌, ◌+◌, ◌<◌, ◌≤◌, ℕ, zero, suc, true, false, None, List, [], ◌∷◌, ◌++◌, length, take}
use Rattle.dcsctp_spec_lemmas.specs.types.declared.options.Options.{Options}
use Rattle.dcsctp_spec_lemmas.specs.spec.endpoint.CallTurns.{Transition}
use Rattle.dcsctp_spec_lemmas.specs.spec.endpoint.DataOutcomes.{ready_or_left}
use Rattle.dcsctp_spec_lemmas.specs.spec.endpoint.Endpoint.{Endpoint, fresh_endpoint}
use Rattle.dcsctp_spec_lemmas.specs.spec.endpoint.Event.{incoming_stream_reset}
use Rattle.dcsctp_spec_lemmas.specs.spec.endpoint.MessageOutcomes.{Sending}
use Rattle.dcsctp_spec_lemmas.specs.spec.endpoint.PreparedResets.{reset_refusal}
use Rattle.dcsctp_spec_lemmas.specs.spec.queues.Reassembly.{names_stream}
use Rattle.dcsctp_spec_lemmas.specs.types.queues.Messages.{MessageContent}
use Rattle.dcsctp_spec_runs.specs.Sockets.{endpoint_after}
use Rattle.dcsctp_delivery_directions.specs.sending.Numbers.{stream_named}
use Rattle.dcsctp_delivery_directions.specs.sending.Places.{HasEntry}
use Rattle.dcsctp_delivery_sockets.specs.turns.Actions.{resets_stream}
use Rattle.dcsctp_delivery_sockets.specs.associations.Reads.{nothing_read}
use Rattle.dcsctp_delivery_directions.specs.sending.Queueing.{has_limits}
use Rattle.dcsctp_delivery_sockets.specs.sockets.Ordered.{IsStreamMessage, IsOrderedMessage, IsDeliveredInOrder, read_under}
use Rattle.dcsctp_delivery_sockets.specs.sockets.Packets.{reading_through}
use Rattle.dcsctp_delivery_sockets.specs.sockets.UserMessages.{sendings_of_turns}

-- ---- a reset that is asked for

-- In one of these turns the user resets the stream by a call that isn't refused, once it has sent so many messages.
pub record HasReset (options : Options) (turns : List Transition) (stream sent : ℕ) : Type 0 where
  pub earlier : List Transition
  pub ask : Transition
  pub later : List Transition
  pub is : turns ≡ earlier ++ ask ∷ later
  pub resets : resets_stream stream ask.input ≡ true
  pub accepted : reset_refusal (endpoint_after options earlier) ≡ None
  pub sent_is : length (sendings_of_turns (fresh_endpoint options) earlier) ≡ sent

-- ---- a reset that is reported

-- how many messages the user can read now, with those that an association left when it ended
abbrev pub ready_count : Endpoint → ℕ
ready_count e = length (ready_or_left e.left e.queues.transfer)

-- In one of these turns the user is told that the peer has reset these streams. The association that is there, or was the last, has
-- this own tag. So many of its messages were read by then, or can be.
pub record ReportsPeerReset (options : Options) (turns : List Transition) (tag : ℕ) (streams : List ℕ) (index : ℕ) : Type 0 where
  pub earlier : List Transition
  pub turn : Transition
  pub later : List Transition
  pub is : turns ≡ earlier ++ turn ∷ later
  pub told : HasEntry (incoming_stream_reset streams) turn.outcome.events
  pub tag_is : (reading_through (fresh_endpoint options) earlier nothing_read).last.own ≡ tag
  pub index_is : index ≡ length (read_under tag options (earlier ++ turn ∷ [])) + ready_count turn.outcome.after

-- ---- both

-- Messages were read at these places in the order of sending. Of those of the stream the first ones, up to this index, are among the
-- first so many that were sent, and none of the others is.
abbrev pub AreSplit : List Sending → ℕ → ℕ → ℕ → List ℕ → Type 0
AreSplit sent stream index count [] = Unit {0}
AreSplit sent stream zero count (place ∷ places) = (IsStreamMessage sent stream place → count ≤ place) × AreSplit sent stream zero count places
AreSplit sent stream (suc index) count (place ∷ places) = (IsStreamMessage sent stream place → place < count) × AreSplit sent stream index count places

-- They are split so where the reset was asked for.
pub record AreSplitAsAsked (asked : ℕ → Type 0) (sent : List Sending) (stream index : ℕ) (places : List ℕ) : Type 0 where
  pub count : ℕ
  pub ask : asked count
  pub split : AreSplit sent stream index count places

-- Messages are delivered in order. And each reset that is reported was asked for: of the messages of a stream that it names, ordered
-- or not, those that were read before it was reported, or could be, were sent before the other user asked for it, and those that
-- are read later were sent since. A report without streams names all.
pub record IsDeliveredByEpoch (asked : ℕ → ℕ → Type 0) (told : List ℕ → ℕ → Type 0) (sent : List Sending) (read : List MessageContent) : Type 0 where
  pub delivered : IsDeliveredInOrder sent read
  pub epochs : (streams : List ℕ) (index : ℕ) → told streams index → (stream : ℕ) → names_stream streams stream ≡ true → AreSplitAsAsked (asked stream) sent stream index delivered.places

-- ---- without gaps

-- The user asked for no reset of the stream once it had sent the earlier message, and before it sent the later one.
abbrev pub AreSentInOneEpoch : (ℕ → Type 0) → ℕ → ℕ → Type 0
AreSentInOneEpoch asked earlier later = (count : ℕ) → asked count → earlier < count → count ≤ later → ⊥

-- Of the ordered messages of the stream that were sent before this place, none without a lifetime and without a limit on
-- retransmissions is missing before one of its epoch that was read, whatever limits the others have.
abbrev pub HaveNoGapBefore : (ℕ → Type 0) → List Sending → ℕ → ℕ → List ℕ → Type 0
HaveNoGapBefore asked sent stream end places =
    (earlier later : ℕ) → HasEntry later places → IsOrderedMessage sent stream later → (on : IsOrderedMessage sent stream earlier) → has_limits on.sending.options ≡ false
    → earlier < later → later < end → AreSentInOneEpoch asked earlier later → HasEntry earlier places

-- Of the ordered messages of the stream that were sent before the reset was asked for, and since one was before, each without limits
-- is among the first ones, up to this index, whatever limits the others have.
abbrev pub AreReadBefore : (ℕ → Type 0) → List Sending → ℕ → ℕ → ℕ → List ℕ → Type 0
AreReadBefore asked sent stream index count places =
    (place : ℕ) (on : IsOrderedMessage sent stream place) → has_limits on.sending.options ≡ false → place < count
    → ((other : ℕ) → asked other → place < other → other < count → ⊥) → HasEntry place (take index places)

-- At each call by which the user resets the stream, once it has sent so many messages, none of the stream waits.
abbrev pub ResetsWithNoneWaiting : Options → List Transition → ℕ → ℕ → Type 0
ResetsWithNoneWaiting options turns stream sent = (reset : HasReset options turns stream sent) → (stream_named stream (endpoint_after options reset.earlier).queues.queue.streams).messages ≡ []

-- The reset splits them where it was asked for, and before it no message without limits is missing in an epoch. If none waited then,
-- all those of its epoch are read before the report, or can be.
pub record IsSplitWithoutGaps (asked empty : ℕ → Type 0) (sent : List Sending) (stream index : ℕ) (places : List ℕ) : Type 0 where
  pub split : AreSplitAsAsked asked sent stream index places
  pub no_gap : HaveNoGapBefore asked sent stream split.count places
  pub all : empty split.count → index ≤ length places → AreReadBefore asked sent stream index split.count places

-- ---- what a reset that is asked for waits for

-- The message of the stream was read.
pub record IsReadMessage (sent : List Sending) (stream : ℕ) (places : List ℕ) (place : ℕ) : Type 0 where
  pub on : IsStreamMessage sent stream place
  pub has : HasEntry place places

-- A reset of the stream is reported for which the user asked once it had sent the earlier message, and when it had sent at most so many:
-- what was sent before is read before the report, or can be, and what was sent since is read after it.
pub record IsReportedBetween (asked : ℕ → Type 0) (told : List ℕ → ℕ → Type 0) (sent : List Sending) (stream earlier count : ℕ) (places : List ℕ) : Type 0 where
  pub streams : List ℕ
  pub index : ℕ
  pub report : told streams index
  pub names : names_stream streams stream ≡ true
  pub place : ℕ
  pub ask : asked place
  pub from : earlier < place
  pub to : place ≤ count
  pub split : AreSplit sent stream index place places

-- So it is between each two messages of the stream that are both read, ordered or not, with limits or without, if the user asked for a
-- reset between them, when none of the stream waited.
abbrev pub ReportsBetween : (ℕ → Type 0) → (ℕ → Type 0) → (List ℕ → ℕ → Type 0) → List Sending → ℕ → List ℕ → Type 0
ReportsBetween asked empty told sent stream places =
    (earlier later count : ℕ) → asked count → empty count → IsReadMessage sent stream places earlier → IsReadMessage sent stream places later → earlier < count → count ≤ later
    → IsReportedBetween asked told sent stream earlier count places

-- Each reset that is reported splits them so. And since the last one none is missing either: what is read of an epoch's ordered
-- messages without limits is a prefix of those that were sent in it. What is sent after a reset was asked for is read only once that was reported, if the other socket
-- tells of each that it performs.
pub record IsDeliveredInEpochs (tells_each : Type 0) (asked empty : ℕ → ℕ → Type 0) (told : List ℕ → ℕ → Type 0) (sent : List Sending) (read : List MessageContent) : Type 0 where
  pub delivered : IsDeliveredInOrder sent read
  pub epochs : (streams : List ℕ) (index : ℕ) → told streams index → (stream : ℕ) → names_stream streams stream ≡ true → IsSplitWithoutGaps (asked stream) (empty stream) sent stream index delivered.places
  pub no_gap : (stream : ℕ) → HaveNoGapBefore (asked stream) sent stream (length sent) delivered.places
  pub between : tells_each → (stream : ℕ) → ReportsBetween (asked stream) (empty stream) told sent stream delivered.places
