-- What a user reads is what its peer's user sent, over every list of honest acts of two sockets,
-- with interleaving or without.
use Rattle.dcsctp_delivery_sockets.specs.sockets.Split.{IsSplitByResets}
use Rattle.std.specs.Prelude.{◌≡◌, ◌≢◌, ◌⊎◌, ◌<◌, ◌-◌, ◌^◌, ℕ, List, length, map, true, Some, ◌+◌, false, Bool}
use Rattle.std.specs.List.{AllByRecursion}
use Rattle.dcsctp_spec_lemmas.specs.types.declared.options.Options.{Options}
use Rattle.dcsctp_spec_lemmas.specs.types.declared.schedule.Side.{Side}
use Rattle.dcsctp_spec_lemmas.specs.types.Schedule.{CallContent, set_call, send_call, send_many_call, reset_call, StepContent, call_step, ActContent, step_act, AreHonest}
use Rattle.dcsctp_spec_lemmas.specs.spec.endpoint.CallTurns.{Transition, AlongTurns, events_of}
use Rattle.dcsctp_spec_lemmas.specs.spec.endpoint.Endpoint.{Endpoint, fresh_endpoint}
use Rattle.dcsctp_spec_lemmas.specs.spec.endpoint.Event.{streams_reset_performed, incoming_stream_reset, packets_of_events}
use Rattle.dcsctp_spec_lemmas.specs.spec.endpoint.BegunResets.{stream_field}
use Rattle.dcsctp_delivery_directions.specs.sending.Places.{HasEntry}
use Rattle.dcsctp_spec_runs.specs.Past.{HasEffect, Each, current}
use Rattle.dcsctp_spec_runs.specs.Sockets.{PerformedAct, Both, of_side, of_other, turns_after, endpoint_after, SocketRun, acts_of}
use Rattle.dcsctp_spec_lemmas.specs.spec.association.Effect.{AssociationIdentity, Effect, holds}
use Rattle.dcsctp_spec_lemmas.specs.types.queues.Messages.{MessageContent}
use Rattle.dcsctp_theorem_sockets.specs.Agreement.{AreUsable, AreFresh, recorded_past}
use Rattle.dcsctp_delivery_directions.specs.sending.ChunkCounts.{chunks_to}
use Rattle.dcsctp_delivery_directions.specs.sending.Queueing.{SettingFits}
use Rattle.dcsctp_delivery_directions.specs.directions.Requests.{requests_to}
use Rattle.dcsctp_delivery_sockets.specs.turns.Runs.{RefusesNone}
use Rattle.dcsctp_delivery_sockets.specs.associations.InOrder.{Interleaves, AreThrough}
use Rattle.dcsctp_delivery_sockets.specs.sockets.Epochs.{HasReset, ReportsPeerReset, IsDeliveredByEpoch, IsDeliveredInEpochs, ResetsWithNoneWaiting}
use Rattle.dcsctp_delivery_sockets.specs.sockets.Ordered.{HasOneTag, StartsAtZero, IsDeliveredOn, AllowsOrder, AllowsNoGaps, IsDeliveredInOrder, IsDeliveredWithoutGaps, IsReliable, IsDeliveredByStream, IsDeliveredAllOn, read_under}
use Rattle.dcsctp_delivery_sockets.specs.sockets.UserMessages.{messages_of_turns, sendings_of_turns, read_of, IsDelivered}

-- ---- messages and streams in memory

-- The message fits the fields of a chunk, as one in memory does.
pub record FitsMessage (message : MessageContent) : Type 0 where
  pub stream : message.stream < 2 ^ 16
  pub ppid : message.ppid < 2 ^ 32
  pub payload : AllByRecursion (λ byte. byte < 2 ^ 8) message.payload
  pub size : length message.payload < 2 ^ 63

abbrev pub FitsCall : CallContent → Type 0
FitsCall (send_call message options) = FitsMessage message
FitsCall (send_many_call messages options) = AllByRecursion FitsMessage messages
FitsCall (set_call setting) = SettingFits setting
FitsCall (reset_call ids) = AllByRecursion (λ id. id < 2 ^ 16) ids
FitsCall call = Unit {0}

abbrev pub FitsStep : StepContent → Type 0
FitsStep (call_step side call) = FitsCall call
FitsStep step = Unit {0}

abbrev pub FitsAct : ActContent → Type 0
FitsAct (step_act step) = FitsStep step
FitsAct act = Unit {0}

abbrev pub AreInMemory : List ActContent → Type 0
AreInMemory acts = AllByRecursion FitsAct acts

-- ---- each verification tag serves one association

-- An association that begins at a side has another own tag, and another peer's tag, than each earlier one of this side.
abbrev pub IsOfNewTags : Effect → List Effect → Type 0
IsOfNewTags (holds link) earlier = (old : AssociationIdentity) → HasEffect (holds old) earlier → (old.my.tag ≢ link.my.tag) × (old.peer.tag ≢ link.peer.tag)
IsOfNewTags effect earlier = Unit {0}

-- If an association of the one side and one of the other have a tag in common, they match.
abbrev pub MatchByTags : List Effect → List Effect → Type 0
MatchByTags mine theirs =
    (link other : AssociationIdentity) → HasEffect (holds link) mine → HasEffect (holds other) theirs → (link.my.tag ≡ other.peer.tag) ⊎ (link.peer.tag ≡ other.my.tag)
    → (link.my ≡ other.peer) × (link.peer ≡ other.my)

pub record TagsServeOnce (turns : Both (List Transition)) : Type 0 where
  pub a : Each IsOfNewTags (recorded_past turns.a)
  pub b : Each IsOfNewTags (recorded_past turns.b)
  pub matched : MatchByTags (recorded_past turns.a) (recorded_past turns.b)

-- ---- or two, where both sides connect

-- The other side never has this association: none of its own tags is the peer's tag of it.
abbrev pub IsUnmatched : AssociationIdentity → List Effect → Type 0
IsUnmatched link theirs = (other : AssociationIdentity) → HasEffect (holds other) theirs → other.my.tag ≢ link.peer.tag

-- With `follow_rfc` the association takes the place of the old one, under the same own pair and with the same capabilities: both
-- sides connect (RFC 9260, section 5.2.4, action B). The old one is there when the new one begins.
pub record TakesPlace (options : Options) (theirs earlier : List Effect) (old link : AssociationIdentity) : Type 0 where
  pub follows : options.follow_rfc ≡ true
  pub my : old.my ≡ link.my
  pub capabilities : old.capabilities ≡ link.capabilities
  pub there : current earlier ≡ Some old
  pub unmatched : IsUnmatched old theirs

-- An association that begins at a side with these options has another peer's tag than each earlier one of this side. It has
-- another own tag, too, or takes its place.
abbrev pub IsOfNewTagsBut : Options → List Effect → Effect → List Effect → Type 0
IsOfNewTagsBut options theirs (holds link) earlier =
    (old : AssociationIdentity) → HasEffect (holds old) earlier → (old.peer.tag ≢ link.peer.tag) × ((old.my.tag ≢ link.my.tag) ⊎ TakesPlace options theirs earlier old link)
IsOfNewTagsBut options theirs effect earlier = Unit {0}

-- Another may take the place of this one.
abbrev pub MayBeReplaced : Options → AssociationIdentity → List Effect → Type 0
MayBeReplaced options link theirs = (options.follow_rfc ≡ true) × IsUnmatched link theirs

-- A tag that the two have in common is of one pair.
pub record ShareThePair (link other : AssociationIdentity) : Type 0 where
  pub my : link.my.tag ≡ other.peer.tag → link.my ≡ other.peer
  pub peer : link.peer.tag ≡ other.my.tag → link.peer ≡ other.my

-- If an association of the one side and one of the other have a tag in common, it is of one pair, and they match, or one of them
-- may be replaced.
abbrev pub MatchOrUnmatched : Options → Options → List Effect → List Effect → Type 0
MatchOrUnmatched my_options their_options mine theirs =
    (link other : AssociationIdentity) → HasEffect (holds link) mine → HasEffect (holds other) theirs → (link.my.tag ≡ other.peer.tag) ⊎ (link.peer.tag ≡ other.my.tag)
    → ShareThePair link other × (((link.my ≡ other.peer) × (link.peer ≡ other.my)) ⊎ (MayBeReplaced my_options link theirs ⊎ MayBeReplaced their_options other mine))

pub record TagsServeOnceBut (options : Both Options) (turns : Both (List Transition)) : Type 0 where
  pub a : Each (IsOfNewTagsBut options.a (recorded_past turns.b)) (recorded_past turns.a)
  pub b : Each (IsOfNewTagsBut options.b (recorded_past turns.a)) (recorded_past turns.b)
  pub matched : MatchOrUnmatched options.a options.b (recorded_past turns.a) (recorded_past turns.b)

-- ---- how much is sent

-- Fewer than 2^30 chunks of data, new or sent again, went to each verification tag: then an association assigns fewer than 2^31
-- TSNs, which can be distinguished (RFC 9260, section 1.6). Fewer than 2^32 - 1 requests to reset streams went to each, new or
-- sent again. And fewer than 2^64 messages were sent.
pub record SendsLittle (options : Options) (turns : List Transition) : Type 0 where
  pub messages : length (messages_of_turns (fresh_endpoint options) turns) < 2 ^ 64
  pub chunks : (tag : ℕ) → chunks_to tag (packets_of_events (events_of turns)) < 2 ^ 30
  pub requests : (tag : ℕ) → requests_to tag (packets_of_events (events_of turns)) < 2 ^ 32 - 1

-- So few went to the two tags of a peer whose association was replaced and of the one that took its place: what was in flight goes
-- on under the same TSNs.
abbrev pub SendsLittleTogether : List Transition → Type 0
SendsLittleTogether turns =
    (old link : AssociationIdentity) → HasEffect (holds old) (recorded_past turns) → HasEffect (holds link) (recorded_past turns) → old.my.tag ≡ link.my.tag → old.peer.tag ≢ link.peer.tag
    → chunks_to old.peer.tag (packets_of_events (events_of turns)) + chunks_to link.peer.tag (packets_of_events (events_of turns)) < 2 ^ 30

-- ---- with interleaving

-- In an association with interleaving no request of its own to reset streams fails in this turn (OnStreamsResetFailed); or in any
-- association.
abbrev pub IsUnrefused : Bool → Endpoint → Transition → Type 0
IsUnrefused in_turn e turn = RefusesNone in_turn e turn.outcome

-- This holds for each turn of both sides.
abbrev pub NoneRefused : Both Options → Both (List Transition) → Type 0
NoneRefused options turns = (side : Side) → AlongTurns (IsUnrefused false) (fresh_endpoint (of_side side options)) (of_side side turns)

-- And in none does one fail, with interleaving or without.
abbrev pub NoneFails : Both Options → Both (List Transition) → Type 0
NoneFails options turns = (side : Side) → AlongTurns (IsUnrefused true) (fresh_endpoint (of_side side options)) (of_side side turns)

-- ---- resets of streams

-- Of each reset of streams that the one user was told is performed, the other user was told: it names the same streams, each as a
-- field of 16 bits has it.
abbrev pub SharesResets : List Transition → List Transition → Type 0
SharesResets turns others = (streams : List ℕ) → HasEntry (streams_reset_performed streams) (events_of turns) → HasEntry (incoming_stream_reset (map stream_field streams)) (events_of others)

-- ---- the theorem

-- All that delivery asks of the turns of a run, beside what agreement asks.
pub record TurnsAllowDelivery (options : Both Options) (turns : Both (List Transition)) : Type 0 where
  pub tags : TagsServeOnceBut options turns
  pub little : (side : Side) → SendsLittle (of_side side options) (of_side side turns)
  pub together : (side : Side) → SendsLittleTogether (of_side side turns)
  pub refused : NoneRefused options turns

-- What this side's user read is what the other's user sent, and no message was read twice, in any association or after it has
-- ended. What it read in one association came in the order in which it was sent, stream by stream, where the other side allows
-- it, and is a prefix of that where the other side allows no gaps. Where the other side had no other own tag, it is a prefix on each
-- reliable stream, whatever happens on other streams; and it is all, without interleaving, once the other side has nothing left
-- that waits or isn't acknowledged, and this side no message ready. Where messages interleave, other streams come in order besides. And each
-- reset of streams that the other side's user was told is performed, this side's user was told of. With interleaving each reset that
-- this side's user was told of separates what the other side's user sent before it asked for that from what it sent since; where the
-- other side had no other own tag, what is read of each stretch between two resets is a prefix of it, if it has no limits. Where
-- no request to reset streams fails, on either side, each reset separates them without interleaving, too.
pub record Delivers (options : Both Options) (turns : Both (List Transition)) (side : Side) : Type 0 where
  pub once : IsDelivered (messages_of_turns (fresh_endpoint (of_other side options)) (of_other side turns)) (read_of (fresh_endpoint (of_side side options)) (of_side side turns))
  pub in_order : (tag : ℕ) → AllowsOrder (of_other side options) (of_other side turns) tag
      → IsDeliveredInOrder (sendings_of_turns (fresh_endpoint (of_other side options)) (of_other side turns)) (read_under tag (of_side side options) (of_side side turns))
  pub no_gaps : (tag : ℕ) → AllowsNoGaps (of_other side options) (of_other side turns)
      → IsDeliveredWithoutGaps (sendings_of_turns (fresh_endpoint (of_other side options)) (of_other side turns)) (read_under tag (of_side side options) (of_side side turns))
  pub by_stream : (tag : ℕ) → HasOneTag (recorded_past (of_other side turns)) → Interleaves (recorded_past (of_other side turns)) tag
      → IsDeliveredByStream (IsReliable (of_other side options) (of_other side turns)) (sendings_of_turns (fresh_endpoint (of_other side options)) (of_other side turns))
      (read_under tag (of_side side options) (of_side side turns))
  pub on_streams : (tag : ℕ) → HasOneTag (recorded_past (of_other side turns))
      → IsDeliveredOn (IsReliable (of_other side options) (of_other side turns)) (sendings_of_turns (fresh_endpoint (of_other side options)) (of_other side turns)) (read_under tag (of_side side options) (of_side side turns))
  pub complete : HasOneTag (recorded_past (of_other side turns))
      → (through : AreThrough (endpoint_after (of_other side options) (of_other side turns)) (endpoint_after (of_side side options) (of_side side turns)))
      → IsDeliveredAllOn (IsReliable (of_other side options) (of_other side turns)) (sendings_of_turns (fresh_endpoint (of_other side options)) (of_other side turns)) (read_under through.theirs.my.tag (of_side side options) (of_side side turns))
  pub shared_resets : SharesResets (of_other side turns) (of_side side turns)
  pub by_epoch : (tag : ℕ) → StartsAtZero (of_other side options) (of_other side turns) → Interleaves (recorded_past (of_other side turns)) tag
      → IsDeliveredByEpoch (HasReset (of_other side options) (of_other side turns)) (ReportsPeerReset (of_side side options) (of_side side turns) tag)
      (sendings_of_turns (fresh_endpoint (of_other side options)) (of_other side turns)) (read_under tag (of_side side options) (of_side side turns))
  pub split : NoneFails options turns → (tag : ℕ) → StartsAtZero (of_other side options) (of_other side turns)
      → IsSplitByResets (HasReset (of_other side options) (of_other side turns)) (ReportsPeerReset (of_side side options) (of_side side turns) tag)
      (sendings_of_turns (fresh_endpoint (of_other side options)) (of_other side turns)) (read_under tag (of_side side options) (of_side side turns))
  pub in_epochs : (tag : ℕ) → HasOneTag (recorded_past (of_other side turns)) → Interleaves (recorded_past (of_other side turns)) tag
      → IsDeliveredInEpochs ((of_side side options).follow_rfc ≡ false) (HasReset (of_other side options) (of_other side turns)) (ResetsWithNoneWaiting (of_other side options) (of_other side turns)) (ReportsPeerReset (of_side side options) (of_side side turns) tag)
      (sendings_of_turns (fresh_endpoint (of_other side options)) (of_other side turns)) (read_under tag (of_side side options) (of_side side turns))

-- So it is at the end of a run that is honest, in which no tag was drawn twice, each served one association or two of which the one
-- took the place of the other, little was sent, and with interleaving no request to reset streams failed.
abbrev pub SocketsDeliver : Type 0
SocketsDeliver =
    (options : Both Options) (run : List PerformedAct) → AreUsable options → AreInMemory (acts_of run) → SocketRun options run → AreHonest (acts_of run) → AreFresh (turns_after run) → TurnsAllowDelivery options (turns_after run)
    → (side : Side) → Delivers options (turns_after run) side
