-- All associations of two sockets, in the direction from one to the other: for each verification
-- tag of the sender, what it has sent under it and what the receiver has received from it. Of the
-- sender's associations two have one tag where both ends began at the same time (RFC 9260, section
-- 5.2.4, action B): what is sent in the one goes on in the other.
use Rattle.std.specs.Prelude.{◌≡◌, ◌≢◌, ◌<◌, ◌≤◌, ◌+◌, ◌^◌, ◌⊎◌, ℕ, Bool, true, false, Option, None, Some, List, [], ◌∷◌, length}
use Rattle.dcsctp_spec_lemmas.specs.types.declared.options.Options.{Options}
use Rattle.dcsctp_spec_lemmas.specs.spec.endpoint.Endpoint.{Endpoint, Core, closed, cookie_wait, cookie_echoed, open_in, is_cookie_echoed}
use Rattle.dcsctp_spec_lemmas.specs.wire.Content.{sack_chunk}
use Rattle.dcsctp_spec_lemmas.specs.spec.Packet.{Content, shutdown, unworked, plain, Emission}
use Rattle.dcsctp_spec_lemmas.specs.spec.endpoint.Event.{Event, incoming_stream_reset, packets_of_events}
use Rattle.dcsctp_spec_lemmas.specs.spec.endpoint.Turn.{Input}
use Rattle.dcsctp_spec_lemmas.specs.spec.endpoint.BegunResets.{BegunReset}
use Rattle.dcsctp_spec_lemmas.specs.spec.Reconfiguration.{NumberedReset}
use Rattle.dcsctp_spec_lemmas.specs.types.declared.association.Pair.{Pair}
use Rattle.dcsctp_spec_runs.specs.Past.{HasEffect, WasPerformed}
use Rattle.dcsctp_spec_lemmas.specs.spec.association.Effect.{AssociationIdentity, Effect, holds, identity_of_core}
use Rattle.dcsctp_spec_lemmas.specs.types.queues.Messages.{MessageContent}
use Rattle.dcsctp_spec_lemmas.specs.spec.queues.Reassembly.{ReassemblyState, new_reassembly}
use Rattle.dcsctp_spec_lemmas.specs.spec.queues.SendQueue.{empty_queue}
use Rattle.dcsctp_spec_lemmas.specs.spec.queues.Tracker.{TrackerState, new_tracker}
use Rattle.dcsctp_spec_lemmas.specs.spec.queues.Transfer.{Transfer, EndpointQueues, part_overhead}
use Rattle.dcsctp_delivery_directions.specs.sending.Places as places
use Rattle.dcsctp_delivery_directions.specs.sending.Places.{at_place}
use Rattle.dcsctp_delivery_directions.specs.sending.Log.{Message}
use Rattle.dcsctp_delivery_directions.specs.sending.Losing.{AllWaitOn}
use Rattle.dcsctp_delivery_directions.specs.sending.Flushes.{NoData}
use Rattle.dcsctp_delivery_directions.specs.sending.ChunkCounts.{chunks_among_packets, chunks_to}
use Rattle.dcsctp_delivery_directions.specs.sending.Marking.{WaitsNoLonger, FindsMarked, IsMarked}
use Rattle.dcsctp_delivery_directions.specs.directions.Directions.{PerformedReset, PreparedReset, Direction, Beginning, HasReached, BeginsAs, Asking, nothing_asked, DirectionRun}
use Rattle.dcsctp_delivery_directions.specs.directions.Requests.{requests_among_packets, requests_to}
use Rattle.dcsctp_delivery_sockets.specs.turns.Asking.{Own, own_of, AsksFit, SomeFit}
use Rattle.dcsctp_delivery_sockets.specs.turns.Actions.{NoEnd, peer_tag}
use Rattle.dcsctp_delivery_sockets.specs.turns.Reports.{AllReportSo, NoReports}
use Rattle.dcsctp_delivery_sockets.specs.turns.Unbegun.{IsAtZero}
use Rattle.dcsctp_delivery_sockets.specs.turns.Untouched.{IsTransferUntouched, EchoesMaker}
use Rattle.dcsctp_delivery_sockets.specs.turns.Runs.{prepared_after, TakesTurnsByOption}
use Rattle.dcsctp_delivery_sockets.specs.associations.Reads.{ReportedReset, Reading, tags_of, with_key, AreOfLink, AllOfLinks}

-- ---- the two ends of a direction

pub record SendingEnd : Type 0 where
  pub queued : List Message
  pub queues : EndpointQueues
  pub acknowledged : ℕ
  pub sent : List Emission
  pub asking : Asking
  pub prepared : List PreparedReset
  pub beginning : Beginning

pub record ReceivingEnd : Type 0 where
  pub first_tsn : ℕ
  pub tracker : TrackerState
  pub reassembly : ReassemblyState
  pub read : List MessageContent
  pub performed : List PerformedReset

abbrev pub direction_of_ends : SendingEnd → ReceivingEnd → Direction
direction_of_ends sends gets =
    record {
      queued = sends.queued;
      queues = sends.queues;
      acknowledged = sends.acknowledged;
      sent = sends.sent;
      first_tsn = gets.first_tsn;
      tracker = gets.tracker;
      reassembly = gets.reassembly;
      read = gets.read;
      performed = gets.performed;
      asking = sends.asking;
      prepared = sends.prepared;
      beginning = sends.beginning;
    }

-- one at which nothing was received yet
abbrev pub new_end : Options → ℕ → ReceivingEnd
new_end options first = record { first_tsn = first; tracker = new_tracker options first; reassembly = new_reassembly options.max_receiver_window_buffer_size (part_overhead options); read = []; performed = [] }

-- Which streams does the user of the sender never reset? And does it reset a stream when so many messages were queued, by a call that
-- isn't refused? Does nothing of the stream wait at each of these calls? And which calls were made so far, newest first?
pub record ResetCalls : Type 0 where
  pub never : ℕ → Bool
  pub asks : ℕ → ℕ → Bool
  pub empties : ℕ → ℕ → Bool
  pub made : List PreparedReset
  -- Does none of its requests fail, without interleaving either?
  pub in_turn : Bool

-- once this turn was taken, if so many messages were queued before it
abbrev pub calls_after : Endpoint → Input → ℕ → ResetCalls → ResetCalls
calls_after e input count calls = record calls { made = prepared_after e input count calls.made }

-- For each tag of the sender both ends, and its first TSN; the tag of its peer, and that of the peer before.
pub record Ends : Type 0 where
  pub sends : ℕ → SendingEnd
  pub gets : ℕ → ReceivingEnd
  pub firsts : ℕ → ℕ
  pub latest : ℕ → ℕ
  pub former : ℕ → Option ℕ
  pub calls : ResetCalls

abbrev pub EndsRun : Options → Ends → Type 0
EndsRun options ends = (tag : ℕ) → DirectionRun options (ends.firsts tag) options.max_receiver_window_buffer_size (direction_of_ends (ends.sends tag) (ends.gets tag))

-- ---- the sender

-- our own tag, 0 if there is no peer
abbrev pub sender_key : Core → ℕ
sender_key closed = 0
sender_key (cookie_wait my) = 0
sender_key (cookie_echoed my held cookie) = my.tag
sender_key (open_in phase my held) = my.tag

-- Each message of the one end that no longer waits there is marked as spent in the other list.
abbrev pub MarksLeft : SendingEnd → List Message → Type 0
MarksLeft sends queued = (place : ℕ) → place < length sends.queued → WaitsNoLonger place sends.queues.queue.streams → IsMarked place queued

-- The sender had an association with this tag of its own, which began with this TSN.
pub record HadPeer (past : List Effect) (tag first : ℕ) : Type 0 where
  pub link : AssociationIdentity
  pub held : HasEffect (holds link) past
  pub tag_is : link.my.tag ≡ tag
  pub first_is : link.my.first_tsn ≡ first

-- It had one with this tag, and in each such messages interleave, or don't.
pub record HadKind (past : List Effect) (tag : ℕ) (is_interleaved : Bool) : Type 0 where
  pub link : AssociationIdentity
  pub held : HasEffect (holds link) past
  pub tag_is : link.my.tag ≡ tag
  pub kind_is : (each : AssociationIdentity) → HasEffect (holds each) past → each.my.tag ≡ tag → each.capabilities.message_interleaving ≡ is_interleaved

-- It had one with this tag whose peer has that tag.
pub record HadBoth (past : List Effect) (tag peer : ℕ) : Type 0 where
  pub link : AssociationIdentity
  pub held : HasEffect (holds link) past
  pub tag_is : link.my.tag ≡ tag
  pub peer_is : link.peer.tag ≡ peer

-- The one association was held when the other began.
abbrev pub IsBefore : AssociationIdentity → AssociationIdentity → List Effect → Type 0
IsBefore old link [] = ⊥
IsBefore old link (effect ∷ earlier) = ((holds link ≡ effect) × HasEffect (holds old) earlier) ⊎ IsBefore old link earlier

-- Under this tag of the sender the association with the one peer took the place of that with the other.
pub record PlaceWasTaken (past : List Effect) (tag former latest : ℕ) : Type 0 where
  pub old : AssociationIdentity
  pub link : AssociationIdentity
  pub before : IsBefore old link past
  pub old_is : old.my.tag ≡ tag
  pub link_is : link.my.tag ≡ tag
  pub former_is : old.peer.tag ≡ former
  pub latest_is : link.peer.tag ≡ latest
  pub other : former ≢ latest

-- The sender had no association yet, and has numbered no message. All that was queued waits.
pub record IsUnbegun (calls : ResetCalls) (queued : List Message) (e : Endpoint) : Type 0 where
  pub unlinked : identity_of_core e.core ≡ None
  pub idle : e.queues.transfer ≡ None
  pub zero : IsAtZero e.queues.queue
  pub all : (id : ℕ) → AllWaitOn id queued e.queues.queue.streams

abbrev pub NeverHeld : List Effect → Type 0
NeverHeld past = (link : AssociationIdentity) → HasEffect (holds link) past → ⊥

-- Each of its associations has this tag of its own.
abbrev pub IsOnlyOwn : List Effect → ℕ → Type 0
IsOnlyOwn past tag = (link : AssociationIdentity) → HasEffect (holds link) past → link.my.tag ≡ tag

-- The numbers of each stream begin at 0 under this tag of the sender: it follows the RFC (RFC 9260, section 6.5), or it had no
-- other.
abbrev pub NumbersFromZero : Endpoint → List Effect → ℕ → Type 0
NumbersFromZero e past tag = (e.options.follow_rfc ≡ true) ⊎ IsOnlyOwn past tag

-- A sender that begins so has all that was queued, and keeps these streams,
pub record KeepsThese (calls : ResetCalls) (beginning : Beginning) : Type 0 where
  pub whole : beginning.has_all ≡ true
  pub keeps : (id : ℕ) → calls.never id ≡ true → beginning.keeps id ≡ true

-- and no other, where the user asks for resets as it does.
pub record KeepsOnlyThese (calls : ResetCalls) (beginning : Beginning) : Type 0 where
  pub dropped : (id : ℕ) → calls.never id ≡ false → beginning.keeps id ≡ false
  pub asks : beginning.asks ≡ calls.asks
  pub empties : beginning.empties ≡ calls.empties
  pub in_turn : beginning.in_turn ≡ calls.in_turn

-- Nothing was sent at this end yet.
pub record Awaits (sends : SendingEnd) : Type 0 where
  pub queued : sends.queued ≡ []
  pub sent : sends.sent ≡ []
  pub acknowledged : sends.acknowledged ≡ 0
  pub transfer : sends.queues.transfer ≡ None
  pub asking : sends.asking ≡ nothing_asked
  pub prepared : sends.prepared ≡ []
  pub begun : BeginsAs sends.beginning sends.queued sends.queues.queue

-- The packet was sent in an association whose peer has its tag.
pub record IsOfEnd (ends : Ends) (past : List Effect) (emission : Emission) : Type 0 where
  pub tag : ℕ
  pub both : HadBoth past tag emission.packet.tag
  pub has : places.HasEntry emission (ends.sends tag).sent

-- Or it went to a peer whose place another one took.
pub record WentBefore (ends : Ends) (emission : Emission) : Type 0 where
  pub tag : ℕ
  pub former_is : ends.former tag ≡ Some emission.packet.tag

-- So is each packet with data. No data is ever handled under the tag 0.
abbrev pub IsOfEnds : Ends → List Effect → Emission → Type 0
IsOfEnds ends past emission = NoData emission.packet.contents ⊎ (NoEnd emission.packet.contents × ((emission.packet.tag ≡ 0) ⊎ (WentBefore ends emission ⊎ IsOfEnd ends past emission)))

abbrev pub AreOfEnds : Ends → List Effect → List Emission → Type 0
AreOfEnds ends past [] = Unit {0}
AreOfEnds ends past (emission ∷ emissions) = IsOfEnds ends past emission × AreOfEnds ends past emissions

-- how many chunks of data went to the peer before, if there was one
abbrev pub chunks_before : Option ℕ → List Emission → ℕ
chunks_before None packets = 0
chunks_before (Some tag) packets = chunks_to tag packets

-- The sender, whose own tag is `key` now and whose peer's is `to`, with these queues, these messages queued, this past, and these
-- packets sent. Without an association its end is that of the tag 0.
pub record Sender (ends : Ends) (key to : ℕ) (sender_queues : EndpointQueues) (queued : List Message) (past : List Effect) (packets : List Emission) : Type 0 where
  pub queues_are : (ends.sends key).queues ≡ sender_queues
  pub long : length (ends.sends key).queued ≡ length queued
  pub marks : (tag place : ℕ) (mark : Message) → at_place place (ends.sends tag).queued ≡ Some mark → FindsMarked mark queued place
  pub short : (tag : ℕ) → length (ends.sends tag).queued ≤ length queued
  pub few : (tag : ℕ) → chunks_among_packets (ends.sends tag).sent ≤ chunks_before (ends.former tag) packets + chunks_to (ends.latest tag) packets
  pub few_requests : (tag : ℕ) → requests_among_packets (ends.sends tag).sent ≤ requests_to (ends.latest tag) packets
  pub last : (tag : ℕ) → tag ≢ key → MarksLeft (ends.sends tag) (ends.sends key).queued
  pub pairs : (one other : ℕ) → one ≢ other → MarksLeft (ends.sends one) (ends.sends other).queued ⊎ MarksLeft (ends.sends other) (ends.sends one).queued
  pub current : key ≢ 0 → HadPeer past key (ends.firsts key)
  pub kind : key ≢ 0 → HadKind past key sender_queues.queue.is_interleaved
  pub begun : (tag : ℕ) → tag ≢ 0 → Awaits (ends.sends tag) ⊎ HadPeer past tag (ends.firsts tag)
  pub kinds : (tag : ℕ) → tag ≢ 0 → Awaits (ends.sends tag) ⊎ HadKind past tag (ends.sends tag).queues.queue.is_interleaved
  pub all_sent : AreOfEnds ends past packets
  -- Data goes to the peer of each tag, and went to the one before.
  pub to_is : ends.latest key ≡ to
  pub went : (to ≡ 0) ⊎ HadBoth past key to
  pub replaced : (tag former : ℕ) → ends.former tag ≡ Some former → PlaceWasTaken past tag former (ends.latest tag)
  pub known : (link : AssociationIdentity) → HasEffect (holds link) past → (link.my.tag ≢ 0) × ((link.peer.tag ≡ ends.latest link.my.tag) ⊎ (ends.former link.my.tag ≡ Some link.peer.tag))

-- What must hold of an association that begins at the sender: its own tag is a new one, and the receiver's of this tag have its
-- pair.
pub record NewPeer (past their_past : List Effect) (link : AssociationIdentity) : Type 0 where
  pub some : link.my.tag ≢ 0
  pub some_peer : link.peer.tag ≢ 0
  pub small : link.my.first_tsn < 2 ^ 32
  pub other : (old : AssociationIdentity) → HasEffect (holds old) past → old.my.tag ≢ link.my.tag
  pub match : (theirs : AssociationIdentity) → HasEffect (holds theirs) their_past → theirs.peer.tag ≡ link.my.tag → theirs.peer ≡ link.my

-- Or it takes the place of the only one of this own tag, which is there and whose COOKIE ACK is awaited: both ends began at the same
-- time (RFC 9260, section 5.2.4, action B). It has the same own pair, another peer's tag, and the same capabilities. Nothing that was
-- sent was acknowledged, the sender began no request to reset streams, and the receiver has no association under the tag of the peer
-- before. So what was sent goes on.
pub record TakesOver (past their_past : List Effect) (e : Endpoint) (input : Input) (link : AssociationIdentity) : Type 0 where
  pub follows : e.options.follow_rfc ≡ true
  pub old : AssociationIdentity
  pub was : identity_of_core e.core ≡ Some old
  pub echoed : is_cookie_echoed e.core ≡ true
  pub untouched : IsTransferUntouched old.my.first_tsn old.capabilities e.queues.transfer
  pub maker : EchoesMaker input
  pub my : old.my ≡ link.my
  pub other : old.peer.tag ≢ link.peer.tag
  pub some_peer : link.peer.tag ≢ 0
  pub alike : old.capabilities ≡ link.capabilities
  pub only : (each : AssociationIdentity) → HasEffect (holds each) past → each.my.tag ≡ link.my.tag → each ≡ old
  pub unasked : (own : Own) → own_of e ≡ Some own → own.next ≡ old.my.first_tsn
  pub unmet : (theirs : AssociationIdentity) → HasEffect (holds theirs) their_past → theirs.my.tag ≢ old.peer.tag
  pub match : (theirs : AssociationIdentity) → HasEffect (holds theirs) their_past → theirs.peer.tag ≡ link.my.tag → theirs.peer ≡ link.my

-- ---- the receiver

-- The receiver had an association whose peer has this tag, and began with this TSN.
pub record HadTag (past : List Effect) (tag first : ℕ) : Type 0 where
  pub link : AssociationIdentity
  pub held : HasEffect (holds link) past
  pub tag_is : link.peer.tag ≡ tag
  pub first_is : link.peer.first_tsn ≡ first
  pub some : tag ≢ 0

-- Its association is there, and this end has what it has received.
pub record IsCurrentEnd (ends : Ends) (e : Endpoint) (past : List Effect) (transfer : Transfer) : Type 0 where
  pub link : AssociationIdentity
  pub linked : identity_of_core e.core ≡ Some link
  pub held : HasEffect (holds link) past
  pub own_some : link.my.tag ≢ 0
  pub had : HadTag past link.peer.tag (ends.firsts link.peer.tag)
  pub tracker : (ends.gets link.peer.tag).tracker ≡ transfer.tracker
  pub reassembly : (ends.gets link.peer.tag).reassembly ≡ transfer.reassembly

-- What can be taken without an association was received in the last one, whose peer had this tag, and in an association nothing
-- is left of the last one.
abbrev pub LeavesReady : (ℕ → ReceivingEnd) → ℕ → List MessageContent → Option Transfer → Type 0
LeavesReady gets last left None = (left ≡ []) ⊎ ((gets last).reassembly.incoming.ready ≡ left)
LeavesReady gets last left (Some transfer) = left ≡ []

-- The reset was performed in an association that was there.
pub record WasReset (gets : ℕ → ReceivingEnd) (past : List Effect) (report : ReportedReset) : Type 0 where
  pub performed : places.HasEntry report.reset (gets report.tags.peer).performed
  pub was_of : AreOfLink past report.tags

-- The user was told of the reset, in an association whose peer has this tag.
pub record WasReported (resets : List ReportedReset) (tag : ℕ) (reset : PerformedReset) : Type 0 where
  pub report : ReportedReset
  pub has : places.HasEntry report resets
  pub reset_is : report.reset ≡ reset
  pub tag_is : report.tags.peer ≡ tag

pub record Receiver (options : Options) (ends : Ends) (e : Endpoint) (past : List Effect) (reading : Reading) : Type 0 where
  pub fits : SomeFit (own_of e)
  pub current : (transfer : Transfer) → e.queues.transfer ≡ Some transfer → IsCurrentEnd ends e past transfer
  pub left : LeavesReady ends.gets reading.last.peer e.left e.queues.transfer
  pub last : (link : AssociationIdentity) → identity_of_core e.core ≡ Some link → reading.last ≡ tags_of link
  pub were_read : (tag : ℕ) → with_key tag reading.reads ≡ (ends.gets tag).read
  pub were_reset : (report : ReportedReset) → places.HasEntry report reading.resets → WasReset ends.gets past report
  -- A reset that comes again under the next number isn't reported again, with `follow_rfc`.
  pub were_told : options.follow_rfc ≡ false → (tag : ℕ) (reset : PerformedReset) → places.HasEntry reset (ends.gets tag).performed → WasReported reading.resets tag reset
  pub begun : (tag : ℕ) → (ends.gets tag ≡ new_end options (ends.firsts tag)) ⊎ HadTag past tag (ends.firsts tag)
  pub last_of : AreOfLink past reading.last
  pub reads_of : AllOfLinks past reading.reads

-- What must hold of an association that begins at the receiver: its peer's tag is a new one, and the sender's of this tag have the
-- peer's pair.
pub record NewTag (past their_past : List Effect) (link : AssociationIdentity) : Type 0 where
  pub some : link.peer.tag ≢ 0
  pub own_some : link.my.tag ≢ 0
  pub small : link.peer.first_tsn < 2 ^ 32
  pub own_small : link.my.first_tsn < 2 ^ 32
  pub other : (old : AssociationIdentity) → HasEffect (holds old) past → old.peer.tag ≢ link.peer.tag
  pub match : (theirs : AssociationIdentity) → HasEffect (holds theirs) their_past → theirs.my.tag ≡ link.peer.tag → theirs.my ≡ link.peer

-- ---- both

-- The receiver had an association whose peer has this tag, and the sender the one that crosses it.
pub record IsMet (past their_past : List Effect) (tag : ℕ) : Type 0 where
  pub link : AssociationIdentity
  pub held : HasEffect (holds link) their_past
  pub tag_is : link.peer.tag ≡ tag
  pub both : HadBoth past tag link.my.tag

-- a sender that hasn't begun
abbrev pub unbegun_end : Options → SendingEnd
unbegun_end options =
    record {
      queued = [];
      queues = record { queue = empty_queue options; transfer = None };
      acknowledged = 0;
      sent = [];
      asking = nothing_asked;
      prepared = [];
      beginning = record { from_zero = true; has_all = true; keeps = λ id. false; asks = λ id count. false; empties = λ id count. false; in_turn = false };
    }

-- What was received from a tag whose associations don't cross needs no sender.
abbrev pub MetOrAlone : Options → Ends → List Effect → List Effect → ℕ → Type 0
MetOrAlone options ends past their_past tag =
    IsMet past their_past tag ⊎ DirectionRun options (ends.firsts tag) options.max_receiver_window_buffer_size (direction_of_ends (unbegun_end options) (ends.gets tag))

-- ---- what the receiver reports

-- A packet of the receiver reports nothing. Or it goes to the tag 0, under which none is handled, or to a peer that it had, and each
-- TSN that it reports was reached there.
abbrev pub IsHeard : (ℕ → ReceivingEnd) → List Effect → Emission → Type 0
IsHeard gets past emission =
    NoReports emission.packet.contents
    ⊎ (NoEnd emission.packet.contents
    × ((emission.packet.tag ≡ 0)
    ⊎ (HadTag past emission.packet.tag (gets emission.packet.tag).first_tsn × AllReportSo (HasReached (gets emission.packet.tag).first_tsn (gets emission.packet.tag).tracker) emission.packet.contents)))

-- So is each.
abbrev pub AreHeard : (ℕ → ReceivingEnd) → List Effect → List Emission → Type 0
AreHeard gets past [] = Unit {0}
AreHeard gets past (emission ∷ emissions) = IsHeard gets past emission × AreHeard gets past emissions

-- The chunk was in a packet to this tag.
pub record CameInPacket (heard : List Emission) (tag : ℕ) (content : Content) : Type 0 where
  pub emission : Emission
  pub was : places.HasEntry emission heard
  pub holds : places.HasEntry content emission.packet.contents
  pub to : emission.packet.tag ≡ tag

-- So was the one that is handled, if it reports something.
abbrev pub CameBack : List Emission → ℕ → Option Content → Type 0
CameBack heard tag (Some (plain (unworked (sack_chunk sack)))) = CameInPacket heard tag (plain (unworked (sack_chunk sack)))
CameBack heard tag (Some (shutdown tsn)) = CameInPacket heard tag (shutdown tsn)
CameBack heard tag came = Unit {0}

-- ---- what the receiver's user is told

-- A request of the sender with this number, under this tag of its own: the receiver's user was told that it has reset its streams.
pub record WasNamed (sends : ℕ → SendingEnd) (seen : List (Event Emission)) (tag number : ℕ) : Type 0 where
  pub begun : BegunReset
  pub has : places.HasEntry begun (sends tag).asking.requests
  pub number_is : begun.number ≡ number
  pub told : places.HasEntry (incoming_stream_reset begun.reset.streams) seen

-- What the receiver has shown in these events: what its packets report, and that it has performed these requests, and the one that
-- may come again.
pub record AreSeen (ends : Ends) (e : Endpoint) (past : List Effect) (seen : List (Event Emission)) : Type 0 where
  pub heard : AreHeard ends.gets past (packets_of_events seen)
  pub named : (my : Pair) (number : ℕ) → WasPerformed my number past → WasNamed ends.sends seen my.tag number
  pub renewable : (old : NumberedReset) → e.renewable ≡ Some old → places.HasEntry (incoming_stream_reset old.reset.streams) seen

-- ---- all

-- what the side that sends has, what its user has sent, what it has done, and its packets
pub record SendingSide : Type 0 where
  pub endpoint : Endpoint
  pub queued : List Message
  pub past : List Effect
  pub packets : List Emission

abbrev pub sending_side : Endpoint → List Message → List Effect → List Emission → SendingSide
sending_side endpoint queued past packets = record { endpoint = endpoint; queued = queued; past = past; packets = packets }

-- what the side that receives has, what it has done, and what its user has read
pub record ReceivingSide : Type 0 where
  pub endpoint : Endpoint
  pub past : List Effect
  pub reading : Reading

abbrev pub receiving_side : Endpoint → List Effect → Reading → ReceivingSide
receiving_side endpoint past reading = record { endpoint = endpoint; past = past; reading = reading }

pub record Between (options : Options) (ends : Ends) (from : SendingSide) (to : ReceivingSide) : Type 0 where
  pub runs : EndsRun options ends
  pub small : (tag : ℕ) → ends.firsts tag < 2 ^ 32
  pub sender : Sender ends (sender_key from.endpoint.core) (peer_tag from.endpoint.core) from.endpoint.queues from.queued from.past from.packets
  pub mine : (link : AssociationIdentity) → identity_of_core from.endpoint.core ≡ Some link → HasEffect (holds link) from.past
  pub idle : identity_of_core from.endpoint.core ≡ None → from.endpoint.queues.transfer ≡ None
  pub asks : AsksFit (ends.firsts (sender_key from.endpoint.core)) (own_of from.endpoint) (ends.sends (sender_key from.endpoint.core)).asking
  pub numbered : (tag : ℕ) → tag ≢ 0 → NumbersFromZero from.endpoint from.past tag → (ends.sends tag).beginning.from_zero ≡ true
  pub kept : (tag : ℕ) → tag ≢ 0 → IsOnlyOwn from.past tag → KeepsThese ends.calls (ends.sends tag).beginning
  pub dropping : (tag : ℕ) → KeepsOnlyThese ends.calls (ends.sends tag).beginning
  pub made : (tag : ℕ) → tag ≢ 0 → IsOnlyOwn from.past tag → (call : PreparedReset) → places.HasEntry call ends.calls.made → places.HasEntry call (ends.sends tag).prepared
  pub unmade : NeverHeld from.past → ends.calls.made ≡ []
  pub rules : TakesTurnsByOption from.endpoint
  pub unbegun : NeverHeld from.past → IsUnbegun ends.calls (ends.sends (sender_key from.endpoint.core)).queued from.endpoint
  pub receiver : Receiver options ends to.endpoint to.past to.reading
  pub alone : (tag : ℕ) → MetOrAlone options ends from.past to.past tag
