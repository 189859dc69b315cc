-- One direction of an association, by the relations of the machine: what one side queues and sends,
-- and what the other side receives and its user reads (RFC 9260, section 6), with interleaving or
-- without (RFC 8260).
use Rattle.std.specs.Prelude.{◌≡◌, ◌≢◌, ◌<◌, ◌≤◌, ◌+◌, ◌-◌, ◌%◌, ◌^◌, ℕ, suc, Bool, true, false, not, Option, None, Some, is_some, List, [], ◌∷◌, ◌++◌, length, ◌||◌}
use Rattle.dcsctp_spec.specs.wire.Content.{DataContent, IDataContent, SackContent, data_chunk, i_data_chunk, forward_tsn_chunk, i_forward_tsn_chunk}
use Rattle.dcsctp_spec.specs.types.declared.options.Options.{Options}
use Rattle.dcsctp_spec.specs.types.queues.SendStreams.{Waiting, Stream, front_of, next_numbers}
use Rattle.dcsctp_spec.specs.queues.SendQueue.{SendQueueState}
use Rattle.dcsctp_spec.specs.endpoint.Endpoint.{Endpoint}
use Rattle.dcsctp_spec.specs.endpoint.Event.{packets_of_events}
use Rattle.dcsctp_spec.specs.Packet.{Plain, unworked, plain, Emission}
use Rattle.dcsctp_spec.specs.association.Choices.{plain_contents}
use Rattle.dcsctp_spec.specs.queues.AtOnce.{SendsAtOnce}
use Rattle.dcsctp_spec.specs.queues.Chunks.{AreChunksOfTsns}
use Rattle.dcsctp_spec.specs.queues.OwnResets.{is_open_pause, prepared_all, queue_committed, queue_rolled_back}
use Rattle.dcsctp_spec.specs.queues.Retransmission.{RetransmissionState}
use Rattle.dcsctp_spec.specs.types.Setting.{Setting}
use Rattle.dcsctp_spec.specs.endpoint.SettingOutcomes.{set_in_queue}
use Rattle.dcsctp_spec.specs.queues.Acknowledging.{is_sack_valid}
use Rattle.dcsctp_spec.specs.queues.Arrivals.{data_arrival, i_data_arrival, named_skips, skipped_messages}
use Rattle.dcsctp_spec.specs.types.queues.Messages.{MessageContent}
use Rattle.dcsctp_spec.specs.queues.Outstanding.{acknowledged_count}
use Rattle.dcsctp_spec.specs.queues.Reassembly.{ReassemblyState, new_reassembly, with_ready, deferring, EndsDeferral}
use Rattle.dcsctp_spec.specs.queues.Tracker.{TrackerState, new_tracker, cumulative_tsn}
use Rattle.dcsctp_spec.specs.queues.Transfer.{Transfer, EndpointQueues, part_overhead}
use Rattle.dcsctp_spec.specs.endpoint.FlushOutcomes.{Answer, FlushAnswers, flush_of}
use Rattle.dcsctp_spec.specs.endpoint.MessageOutcomes.{Sending, sending_queued}
use Rattle.dcsctp_spec.specs.endpoint.TransferMoves.{ReceivesData, MovesForward, TakesSack, lost_all}
use Rattle.dcsctp_delivery_directions.specs.sending.Numbers.{stream_named, next_mid}
use Rattle.dcsctp_delivery_directions.specs.sending.ChunkCounts.{going}
use Rattle.dcsctp_delivery_directions.specs.sending.Places.{HasEntry}
use Rattle.dcsctp_delivery_directions.specs.sending.Log.{Fits, Message}
use Rattle.dcsctp_delivery_directions.specs.sending.Losing.{AllWaitOn}
use Rattle.dcsctp_spec.specs.Reconfiguration.{RequestedReset, renewed_reset}
use Rattle.dcsctp_spec.specs.association.FlushChanges.{reset_request}
use Rattle.dcsctp_spec.specs.queues.Numbers.{is_tsn_beyond}
use Rattle.dcsctp_spec.specs.endpoint.BegunResets.{BegunReset}
use Rattle.dcsctp_delivery_directions.specs.sending.Flushes.{NoData, begun_reset_of}
use Rattle.dcsctp_delivery_directions.specs.sending.Queueing.{message_of, SettingFits, QueueWaits}
use Rattle.dcsctp_delivery_directions.specs.receiving.Clear.{IsOwn}
use Rattle.dcsctp_delivery_directions.specs.receiving.Ready.{AreDistinct, WereQueued}
use Rattle.std.specs.List.{AllByRecursion}

-- The resets of its streams that a sender asks for (RFC 6525, section 5.1.2).
pub record Asking : Type 0 where
  -- the requests that were begun, newest first
  pub requests : List BegunReset
  -- how many of them have no end yet, the newest ones
  pub out : ℕ
  -- has the receiver performed the newest?
  pub is_performed : Bool

abbrev pub nothing_asked : Asking
nothing_asked = record { requests = []; out = 0; is_performed = false }

-- How its sender began.
pub record Beginning : Type 0 where
  -- With number 0 on each stream (RFC 9260, section 6.5)?
  pub from_zero : Bool
  -- With all that was queued before, on each stream?
  pub has_all : Bool
  -- On which streams with all that was queued before, and does it never reset them?
  pub keeps : ℕ → Bool
  -- Does its user ask for a reset of the stream when so many messages were queued?
  pub asks : ℕ → ℕ → Bool
  -- Does nothing of the stream wait whenever it does?
  pub empties : ℕ → ℕ → Bool
  -- Do its requests to reset streams end in turn without interleaving, too?
  pub in_turn : Bool

-- It keeps each stream so.
abbrev pub KeepsAll : Beginning → Type 0
KeepsAll beginning = (id : ℕ) → beginning.keeps id ≡ true

-- The stream may be reset when so many messages were queued, and these streams wait.
pub record MayReset (beginning : Beginning) (count : ℕ) (streams : List Stream) (id : ℕ) : Type 0 where
  pub dropped : beginning.keeps id ≡ false
  pub asked : beginning.asks id count ≡ true
  pub empty : beginning.empties id count ≡ true → (stream_named id streams).messages ≡ []

-- A reset that the receiver has performed: which streams its request named, by fields of 16 bits, where an empty list names all;
-- and how many messages its user had read by then, or could read.
pub record PerformedReset : Type 0 where
  pub streams : List ℕ
  pub index : ℕ

abbrev pub reset_performed : List ℕ → List MessageContent → ReassemblyState → PerformedReset
reset_performed streams read reassembly = record { streams = streams; index = length read + length reassembly.incoming.ready }

-- A call by which the sender's user resets these streams, and how many messages were queued then.
pub record PreparedReset : Type 0 where
  pub ids : List ℕ
  pub count : ℕ

-- One direction of an association, as both of its ends have it.
pub record Direction : Type 0 where
  -- what was queued since the sending socket was made, newest first
  pub queued : List Message
  -- the queues of the sender
  pub queues : EndpointQueues
  -- how many TSNs were acknowledged cumulatively
  pub acknowledged : ℕ
  -- all packets that it sent in this association, oldest first
  pub sent : List Emission
  -- the TSN with which the sender begins, as the receiver knows it
  pub first_tsn : ℕ
  -- what the receiver has received
  pub tracker : TrackerState
  pub reassembly : ReassemblyState
  -- what its user read, oldest first
  pub read : List MessageContent
  -- the resets that it has performed, newest first
  pub performed : List PerformedReset
  pub asking : Asking
  -- the calls by which the sender's user resets streams, newest first
  pub prepared : List PreparedReset
  pub beginning : Beginning

-- Do its requests end in turn: each only once its reset was performed, and none fails? With interleaving they do.
abbrev pub is_in_turn : Direction → Bool
is_in_turn direction = direction.queues.queue.is_interleaved || direction.beginning.in_turn

-- A request that was begun names these streams.
pub record HasAsked (requests : List BegunReset) (streams : List ℕ) : Type 0 where
  pub begun : BegunReset
  pub has : HasEntry begun requests
  pub is : begun.reset.streams ≡ streams

-- One names them, and this last TSN.
pub record HasAskedUpTo (requests : List BegunReset) (last_tsn : ℕ) (streams : List ℕ) : Type 0 where
  pub asked : HasAsked requests streams
  pub last : asked.begun.reset.last_tsn ≡ last_tsn

-- once this reset was begun, if one was
abbrev pub asking_with : Option BegunReset → Asking → Asking
asking_with None asking = asking
asking_with (Some begun) asking = record { requests = begun ∷ asking.requests; out = suc asking.out; is_performed = false }

-- once the newest request continues under this number
abbrev pub asking_renewed : ℕ → BegunReset → Asking → Asking
asking_renewed number newest asking = record asking { requests = record { number = number; reset = renewed_reset newest.reset } ∷ asking.requests; is_performed = false }

-- once each request has ended
abbrev pub all_ended : Asking → Asking
all_ended asking = record asking { out = 0 }

-- Was everything received that was sent before the reset was begun (RFC 6525, section 5.2.2, E2)?
abbrev pub is_reset_reached : RequestedReset → TrackerState → Bool
is_reset_reached reset tracker = not (is_tsn_beyond reset.last_tsn (cumulative_tsn tracker))

-- how many TSNs wait to be acknowledged, and how many were assigned
abbrev pub tsns_in_flight : Option Transfer → ℕ
tsns_in_flight None = 0
tsns_in_flight (Some transfer) = length transfer.retransmission.outstanding.items

abbrev pub assigned_count : Direction → ℕ
assigned_count direction = direction.acknowledged + tsns_in_flight direction.queues.transfer

-- The tracker's cumulative TSN has been this, or was moved past it: that is one from the TSN before the first on, up to where it
-- is now.
pub record HasReached (first_tsn : ℕ) (tracker : TrackerState) (tsn : ℕ) : Type 0 where
  pub number : ℕ
  pub from : (first_tsn + (2 ^ 32 - 1)) % 2 ^ 32 ≤ number
  pub to : number ≤ tracker.cumulative
  pub is : tsn ≡ number % 2 ^ 32

-- The same is in flight, and a reset was begun after it, or none was, as before. Timers and windows may differ.
pub record SameFlight (old new : RetransmissionState) : Type 0 where
  pub outstanding : new.outstanding ≡ old.outstanding
  pub reset_begun : new.reset_begun ≡ old.reset_begun

-- One step of a direction.
pub data DirectionStep (old : Direction) : Direction → Type 0 where
  -- The user queues a message.
  queues : (now : ℕ) (sending : Sending) → Fits (message_of sending) → 0 < length sending.message.payload
      → DirectionStep old (record old { queued = message_of sending ∷ old.queued; queues = record old.queues { queue = sending_queued now sending old.queues.queue } })
  -- The user sets something, or streams are prepared to be reset, each by a number of 16 bits, for which what waits on them is
  -- dropped, and if that may be asked for now; or a reset was performed, or was not. In turn it is the only one that has no end, the receiver has performed it,
  -- and none fails.
  sets : (setting : Setting) → SettingFits setting → DirectionStep old (record old { queues = record old.queues { queue = set_in_queue setting old.queues.queue } })
  prepares : (ids : List ℕ) → AllByRecursion (λ id. id < 2 ^ 16) ids → AllByRecursion (MayReset old.beginning (length old.queued) old.queues.queue.streams) ids
      → DirectionStep old (record old { queues = record old.queues { queue = prepared_all ids old.queues.queue }; prepared = record { ids = ids; count = length old.queued } ∷ old.prepared })
  commits : (is_in_turn old ≡ true → (old.asking.out ≤ 1) × (old.asking.is_performed ≡ true))
      → DirectionStep old (record old { queues = record old.queues { queue = queue_committed old.queues.queue }; asking = all_ended old.asking })
  rolls_back : is_in_turn old ≡ false → DirectionStep old (record old { queues = record old.queues { queue = queue_rolled_back old.queues.queue }; asking = all_ended old.asking })
  -- A flush, whose first packet holds no data. It may begin a reset of streams.
  flushes : (e : Endpoint) (draft : Emission) (answers : List Answer) → e.queues ≡ old.queues → NoData draft.packet.contents → FlushAnswers e draft answers
      → DirectionStep old (record old {
        queues = (flush_of e draft answers).after.queues;
        sent = old.sent ++ packets_of_events (flush_of e draft answers).events;
        asking = asking_with (begun_reset_of answers) old.asking;
      })
  -- A fast retransmission.
  resends : (now room : ℕ) (transfer : Transfer) (left : RetransmissionState) (tsns : List ℕ) (chunks : List Plain) (emission : Emission) → old.queues.transfer ≡ Some transfer
      → SendsAtOnce now room old.queues.queue transfer.retransmission left tsns → AreChunksOfTsns left.outstanding tsns chunks → emission.packet.contents ≡ plain_contents chunks
      → DirectionStep old (record old { queues = record old.queues { transfer = Some (record transfer { retransmission = left }) }; sent = old.sent ++ emission ∷ [] })
  -- A fast retransmission in which nothing fits.
  resends_nothing : (now room : ℕ) (transfer : Transfer) (left : RetransmissionState) (tsns : List ℕ) → old.queues.transfer ≡ Some transfer
      → SendsAtOnce now room old.queues.queue transfer.retransmission left tsns
      → DirectionStep old (record old { queues = record old.queues { transfer = Some (record transfer { retransmission = left }) } })
  -- A packet without data, and without a request to reset streams.
  speaks : (emission : Emission) → NoData emission.packet.contents → DirectionStep old (record old { sent = old.sent ++ emission ∷ [] })
  -- A request that was begun is sent again.
  asks_again : (emission : Emission) (begun : BegunReset) → HasEntry begun old.asking.requests → emission.packet.contents ≡ reset_request begun.number begun.reset ∷ []
      → DirectionStep old (record old { sent = old.sent ++ emission ∷ [] })
  -- The newest request, which has no end, is sent again under another number, and takes its place.
  renews : (emission : Emission) (newest : BegunReset) (earlier : List BegunReset) (number : ℕ) → old.asking.requests ≡ newest ∷ earlier → old.asking.out ≡ 1
      → emission.packet.contents ≡ reset_request number (renewed_reset newest.reset) ∷ [] → DirectionStep old (record old { sent = old.sent ++ emission ∷ []; asking = asking_renewed number newest old.asking })
  -- The sender receives something itself, or measures a round trip.
  turns_aside : (transfer new : Transfer) → old.queues.transfer ≡ Some transfer → SameFlight transfer.retransmission new.retransmission
      → DirectionStep old (record old { queues = record old.queues { transfer = Some new } })
  -- A SACK whose cumulative TSN the receiver's tracker has reached, now or earlier. Its blocks may say anything.
  acknowledges : (now : ℕ) (sack : SackContent) (transfer new : Transfer) → old.queues.transfer ≡ Some transfer → is_sack_valid transfer.retransmission sack.cumulative_tsn_ack ≡ true
      → HasReached old.first_tsn old.tracker sack.cumulative_tsn_ack → TakesSack now sack transfer new
      → DirectionStep old (record old { queues = record old.queues { transfer = Some new }; acknowledged = old.acknowledged + acknowledged_count transfer.retransmission.outstanding sack.cumulative_tsn_ack })
  loses : (now : ℕ) (transfer : Transfer) → old.queues.transfer ≡ Some transfer → DirectionStep old (record old { queues = record old.queues { transfer = Some (lost_all now transfer) } })
  -- A DATA chunk of a packet that was sent is received, and so is a FORWARD-TSN. A chunk without a payload ends the association.
  receives : (emission : Emission) (chunk : DataContent) (theirs new : Transfer) → HasEntry emission old.sent → HasEntry (plain (unworked (data_chunk chunk))) emission.packet.contents → chunk.payload ≢ []
      → theirs.tracker ≡ old.tracker → theirs.reassembly ≡ old.reassembly → ReceivesData (data_arrival chunk) theirs new
      → DirectionStep old (record old { tracker = new.tracker; reassembly = new.reassembly })
  forwards : (emission : Emission) (tsn : ℕ) (streams : List ℕ) (theirs new : Transfer) → HasEntry emission old.sent → HasEntry (plain (unworked (forward_tsn_chunk tsn streams))) emission.packet.contents
      → theirs.tracker ≡ old.tracker → theirs.reassembly ≡ old.reassembly → MovesForward tsn (named_skips streams) theirs new
      → DirectionStep old (record old { tracker = new.tracker; reassembly = new.reassembly })
  -- So is an I-DATA chunk, and an I-FORWARD-TSN.
  receives_interleaved : (emission : Emission) (chunk : IDataContent) (theirs new : Transfer) → HasEntry emission old.sent → HasEntry (plain (unworked (i_data_chunk chunk))) emission.packet.contents → chunk.payload ≢ []
      → theirs.tracker ≡ old.tracker → theirs.reassembly ≡ old.reassembly → ReceivesData (i_data_arrival chunk) theirs new
      → DirectionStep old (record old { tracker = new.tracker; reassembly = new.reassembly })
  forwards_interleaved : (emission : Emission) (tsn : ℕ) (streams : List ℕ) (theirs new : Transfer) → HasEntry emission old.sent → HasEntry (plain (unworked (i_forward_tsn_chunk tsn streams))) emission.packet.contents
      → theirs.tracker ≡ old.tracker → theirs.reassembly ≡ old.reassembly → MovesForward tsn (skipped_messages streams) theirs new
      → DirectionStep old (record old { tracker = new.tracker; reassembly = new.reassembly })
  -- The receiver acknowledges, now or later.
  tracks : (new : TrackerState) → new.cumulative ≡ old.tracker.cumulative → new.ranges ≡ old.tracker.ranges → DirectionStep old (record old { tracker = new })
  -- The streams of a request that the sender has begun are to be reset once all up to its last TSN was received.
  defers : (last_tsn : ℕ) (streams : List ℕ) → HasAskedUpTo old.asking.requests last_tsn streams → DirectionStep old (record old { reassembly = deferring last_tsn streams old.reassembly })
  -- The newest reset is performed: all that was sent before it was received, and what waits, waits for it. In turn it
  -- wasn't performed before under its number.
  performs : (newest : BegunReset) (earlier : List BegunReset) (new : ReassemblyState) → old.asking.requests ≡ newest ∷ earlier
      → (is_in_turn old ≡ true → old.asking.is_performed ≡ false) → is_reset_reached newest.reset old.tracker ≡ true → IsOwn newest.reset old.reassembly.deferral
      → EndsDeferral newest.reset.streams old.reassembly new → DirectionStep old (record old { reassembly = new; performed = reset_performed newest.reset.streams old.read new ∷ old.performed; asking = record old.asking { is_performed = true } })
  -- An earlier request than the newest is performed, which wants the same: the newest is that one, sent again under another number,
  -- and in turn it wasn't performed under that yet.
  performs_earlier : (newest : BegunReset) (earlier : List BegunReset) (new : ReassemblyState) → old.asking.requests ≡ newest ∷ earlier
      → (is_in_turn old ≡ true → old.asking.is_performed ≡ false) → is_reset_reached newest.reset old.tracker ≡ true → IsOwn newest.reset old.reassembly.deferral
      → EndsDeferral newest.reset.streams old.reassembly new → DirectionStep old (record old { reassembly = new; performed = reset_performed newest.reset.streams old.read new ∷ old.performed })
  -- Not in turn the streams of any request that the sender has begun are reset.
  resets : (streams : List ℕ) (new : ReassemblyState) → is_in_turn old ≡ false → HasAsked old.asking.requests streams → EndsDeferral streams old.reassembly new
      → DirectionStep old (record old { reassembly = new; performed = reset_performed streams old.read new ∷ old.performed })
  -- Its user reads a message.
  takes : (message : MessageContent) (messages : List MessageContent) → old.reassembly.incoming.ready ≡ message ∷ messages
      → DirectionStep old (record old { reassembly = with_ready messages old.reassembly; read = old.read ++ message ∷ [] })

-- No TSN was assigned yet, and at most one message is under way; or there is no peer. What is in flight will be sent as the queue
-- numbers messages.
abbrev pub NoneInFlight : ℕ → SendQueueState → Option Transfer → Type 0
NoneInFlight first queue None = Unit {0}
NoneInFlight first queue (Some transfer) =
    (transfer.retransmission.outstanding.first_tsn ≡ first) × (transfer.retransmission.outstanding.items ≡ []) × (transfer.retransmission.outstanding.is_interleaved ≡ queue.is_interleaved) × (going queue.streams ≤ 1)

-- A message under way is unordered, if one is.
abbrev pub RestIsUnordered : List Stream → Type 0
RestIsUnordered streams =
    (id : ℕ) (waiting : Waiting) → is_some (stream_named id streams).under_way ≡ true → front_of (stream_named id streams).messages ≡ Some waiting
    → waiting.is_unordered ≡ true

-- No ordered message is under way, the next one of each stream has the number 0, with interleaving and without, and none is to be
-- reset.
pub record BeginsAtZero (queue : SendQueueState) : Type 0 where
  pub rest : RestIsUnordered queue.streams
  pub zero : (id : ℕ) → next_mid false (stream_named id queue.streams) % 2 ^ 32 ≡ 0
  pub ssn : (id : ℕ) → (next_numbers false (stream_named id queue.streams)).0 ≡ 0
  pub unpaused : (id : ℕ) → is_open_pause (stream_named id queue.streams).pause ≡ true

-- The sender begins so with this queue, once all this was queued.
pub record BeginsAs (beginning : Beginning) (queued : List Message) (queue : SendQueueState) : Type 0 where
  pub zero : beginning.from_zero ≡ true → BeginsAtZero queue
  pub whole : beginning.has_all ≡ true → (id : ℕ) → AllWaitOn id queued queue.streams
  pub all : (id : ℕ) → beginning.keeps id ≡ true → AllWaitOn id queued queue.streams

-- An association begins; what was queued before may wait.
pub record BeginsDirection (options : Options) (first size : ℕ) (direction : Direction) : Type 0 where
  pub fit : AllByRecursion Fits direction.queued
  pub queues : QueueWaits direction.queued direction.queues.queue
  pub flight : NoneInFlight first direction.queues.queue direction.queues.transfer
  pub acknowledged : direction.acknowledged ≡ 0
  pub sent : direction.sent ≡ []
  pub first_is : direction.first_tsn ≡ first
  pub tracker : direction.tracker ≡ new_tracker options first
  pub reassembly : direction.reassembly ≡ new_reassembly size (part_overhead options)
  pub read : direction.read ≡ []
  pub performed : direction.performed ≡ []
  pub asking : direction.asking ≡ nothing_asked
  pub prepared : direction.prepared ≡ []
  pub begun : BeginsAs direction.beginning direction.queued direction.queues.queue

-- Its sender has no association yet.
pub record IsAwaited (direction : Direction) : Type 0 where
  pub queued : direction.queued ≡ []
  pub sent : direction.sent ≡ []
  pub acknowledged : direction.acknowledged ≡ 0
  pub transfer : direction.queues.transfer ≡ None
  pub asking : direction.asking ≡ nothing_asked

-- Every schedule: whatever is received was sent before, once or more often, recently or long ago.
pub data DirectionRun (options : Options) (first size : ℕ) : Direction → Type 0 where
  begins : (direction : Direction) → BeginsDirection options first size direction → DirectionRun options first size direction
  goes_on : (old direction : Direction) → DirectionRun options first size old → DirectionStep old direction → DirectionRun options first size direction
  -- The sender begins after the receiver.
  starts : (old : Direction) (queued : List Message) (sender_queues : EndpointQueues) (beginning : Beginning) → DirectionRun options first size old → IsAwaited old → AllByRecursion Fits queued → QueueWaits queued sender_queues.queue → NoneInFlight first sender_queues.queue sender_queues.transfer
      → BeginsAs beginning queued sender_queues.queue → DirectionRun options first size (record old { queued = queued; queues = sender_queues; prepared = []; beginning = beginning })

-- Each message that was read was queued, and none twice.
pub record AreDelivered (queued : List Message) (read : List MessageContent) : Type 0 where
  pub places : List ℕ
  pub were_queued : WereQueued queued places read
  pub once : AreDistinct places

-- This holds for every run in which fewer than 2^31 TSNs were assigned.
abbrev pub DirectionsDeliver : Type 0
DirectionsDeliver =
    (options : Options) (first size : ℕ) (direction : Direction) → DirectionRun options first size direction → first < 2 ^ 32 → assigned_count direction < 2 ^ 31 → length direction.queued < 2 ^ 64
    → AreDelivered direction.queued direction.read
