-- A flush: what waits is sent under the peer's tag, at most `max_burst` packets of it (RFC 9260, section 6.1). The transfer layer
-- is asked to fill one packet after another, and the flush is what its answers make of it.
use Rattle.std.specs.Prelude.{◌≡◌, ◌⊎◌, ◌==◌, ◌≤◌, ◌+◌, ◌-◌, min, nat_le, nat_lt, ◌&&◌, ◌||◌, Option, None, Some, ℕ, ℤ, pos, negsuc, suc, zero, Bool, true, false, List, [], ◌∷◌, ◌++◌, map, length, if◌then◌else◌}
use Rattle.std.specs.List.{AllByRecursion}
use Rattle.dcsctp_types.specs.declared.association.Held.{Held}
use Rattle.dcsctp_types.specs.declared.word.Word.{Word}
use Rattle.dcsctp_types.specs.Settings.{packet_size_limit}
use Rattle.dcsctp_types.specs.Sizes.{common_header_size}
use Rattle.dcsctp_spec.specs.endpoint.Event.{Event, sent, packets_of_events, buffered_amount_low, total_buffered_amount_low, lifecycle_message_fully_sent, lifecycle_message_maybe_expired, lifecycle_message_expired, lifecycle_end}
use Rattle.dcsctp_spec.specs.Packet.{Plain, unworked, plain_out, Content, Emission}
use Rattle.dcsctp_spec.specs.queues.SendQueue.{SendQueueState, has_queued_data}
use Rattle.dcsctp_spec.specs.queues.Abandoning.{GivesUpAll}
use Rattle.dcsctp_spec.specs.queues.Chunks.{AreChunksOfTsns}
use Rattle.dcsctp_spec.specs.queues.Filling.{Stage, FillsPacket}
use Rattle.dcsctp_spec.specs.queues.Items.{is_first_abandoned}
use Rattle.dcsctp_spec.specs.queues.Retransmission.{RetransmissionState, outstanding_count, can_send}
use Rattle.dcsctp_spec.specs.queues.Skipping.{SaysForward}
use Rattle.dcsctp_spec.specs.queues.Transfer.{Transfer, advertised_window, may_give, is_idle}
use Rattle.dcsctp_spec.specs.queues.Tracker.{TrackerState, is_acknowledgement_due, owes_acknowledgement, sack_of, tracker_after_sack}
use Rattle.dcsctp_spec.specs.endpoint.BegunResets.{BegunReset, streams_within, last_assigned_tsn, begun_if_connected, request_contents, begun_effects, queue_requesting, retransmission_begun, after_begun}
use Rattle.dcsctp_spec.specs.endpoint.Endpoint.{Endpoint, Core, closed, cookie_wait, cookie_echoed, open_in, Timers, heartbeats_begun, held_by_core, own_tag}
use Rattle.dcsctp_spec.specs.endpoint.Timers.{moment_after}
use Rattle.dcsctp_spec.specs.endpoint.Outcome.{Outcome, contents_len, still, quiet, sends, behind, with_effects_first, then_outcome}
use Rattle.dcsctp_spec.specs.association.Choices.{plain_contents}
use Rattle.dcsctp_types.specs.wire.Content.{ChunkContent, sack_chunk}
use Rattle.dcsctp_types.specs.wire.ReadsBack.{FitsChunk}
use Rattle.dcsctp_types.specs.wire.Spelling.{chunk_bytes}

-- ---- one packet

-- The only events while a packet is filled: an amount that fell to its threshold, and what became of a message.
pub data FillingEvent : Type 0 where
  amount_is_low : ℕ → FillingEvent
  total_amount_is_low : FillingEvent
  message_is_sent : ℕ → FillingEvent
  message_may_have_expired : ℕ → FillingEvent
  message_has_expired : ℕ → FillingEvent
  message_ends : ℕ → FillingEvent

abbrev pub filling_event : FillingEvent → Event Emission
filling_event (amount_is_low stream) = buffered_amount_low stream
filling_event total_amount_is_low = total_buffered_amount_low
filling_event (message_is_sent id) = lifecycle_message_fully_sent id
filling_event (message_may_have_expired id) = lifecycle_message_maybe_expired id
filling_event (message_has_expired id) = lifecycle_message_expired id
filling_event (message_ends id) = lifecycle_end id

-- the same, where packets are bytes
abbrev pub filling_event_content : FillingEvent → Event (List ℕ)
filling_event_content (amount_is_low stream) = buffered_amount_low stream
filling_event_content total_amount_is_low = total_buffered_amount_low
filling_event_content (message_is_sent id) = lifecycle_message_fully_sent id
filling_event_content (message_may_have_expired id) = lifecycle_message_maybe_expired id
filling_event_content (message_has_expired id) = lifecycle_message_expired id
filling_event_content (message_ends id) = lifecycle_end id

-- The answer if a packet is to be filled: what goes after the chunks that it holds, the events, and the endpoint after that.
pub record Answer : Type 0 where
  -- in the first packet alone: SACK and FORWARD-TSN, and after them the request of a stream reset that is begun
  pub acknowledgements : List Plain
  pub begun : Option BegunReset
  pub data_chunks : List Plain
  pub told : List FillingEvent
  pub after : Endpoint

abbrev pub answer_contents : Answer → List Content
answer_contents answer = plain_contents answer.acknowledgements ++ (request_contents answer.begun ++ plain_contents answer.data_chunks)

-- the packet with these chunks after what it holds
abbrev pub filled_draft : Emission → List Content → Emission
filled_draft draft chunks = record draft { packet = record draft.packet { contents = draft.packet.contents ++ chunks } }

-- The packet is sent after these events, unless it is empty.
abbrev pub goes_out : Endpoint → List (Event Emission) → Bool → ℕ → List Content → Outcome
goes_out e told with_checksum tag [] = quiet e [] told
goes_out e told with_checksum tag (content ∷ contents) =
    sends e [] told (record { with_checksum = with_checksum; packet = record { tag = tag; contents = content ∷ contents } })

-- the outcome of one packet that is asked to be filled
abbrev pub asked_outcome : Endpoint → Emission → Answer → Outcome
asked_outcome e draft answer =
    with_effects_first (begun_effects answer.begun) (goes_out answer.after (map filling_event answer.told) draft.with_checksum draft.packet.tag (filled_draft draft (answer_contents answer)).packet.contents)

-- ---- a list of them

-- an empty packet to a peer
abbrev pub draft_to : Held → Emission
draft_to held = record { with_checksum = held.capabilities.zero_checksum_method.0 == 0; packet = record { tag = held.peer.tag; contents = [] } }

-- The packet after one that was sent goes to the same peer, without a checksum if zero checksum was negotiated.
abbrev pub next_draft : Core → Emission → Emission
next_draft closed draft = record draft { packet = record draft.packet { contents = [] } }
next_draft (cookie_wait my) draft = record draft { packet = record draft.packet { contents = [] } }
next_draft (cookie_echoed my held cookie) draft = draft_to held
next_draft (open_in phase my held) draft = draft_to held

-- A flush whose first packet is this, by the answers to its asks.
abbrev pub flush_of : Endpoint → Emission → List Answer → Outcome
flush_of e draft [] = still e
flush_of e draft (answer ∷ answers) =
    then_outcome (asked_outcome e draft answer) (flush_of (asked_outcome e draft answer).after (next_draft e.core draft) answers)

-- how many packets a flush may send: one at most while the COOKIE ECHO isn't answered (RFC 9260, section 5.1)
abbrev pub packets_allowed : ℤ → Core → ℕ
packets_allowed (pos zero) core = 0
packets_allowed (pos (suc more)) (cookie_echoed my held cookie) = 1
packets_allowed (pos (suc more)) core = suc more
packets_allowed (negsuc below) core = 0

-- ---- what an ask may be answered

-- no longer than `mtu`
abbrev pub IsWithinMtu : Endpoint → Emission → Type 0
IsWithinMtu e emission = common_header_size + contents_len emission.packet.contents ≤ packet_size_limit e.options

-- what is answered if nothing waits
abbrev pub nothing_waits : Endpoint → Answer
nothing_waits e = record { acknowledgements = []; begun = None; data_chunks = []; told = []; after = e }

-- Which packet of a flush is to be filled. A SACK, a FORWARD-TSN and the request of a stream reset go into the first alone.
pub data Ask : Type 0 where
  first_ask : Ask
  later_ask : Ask

-- how many bytes of chunks still fit into a packet
abbrev pub room_of_draft : Endpoint → Emission → ℕ
room_of_draft e draft = packet_size_limit e.options - common_header_size - contents_len draft.packet.contents

-- the chunk, if it fits into that many bytes
abbrev pub where_fits : ℕ → Plain → List Plain
where_fits room chunk = if nat_le (length (chunk_bytes (plain_out chunk))) room then chunk ∷ [] else []

-- Is a SACK asked for? A delayed one is sent along if data may follow (RFC 9260, section 6.1).
abbrev pub wants_sack : Ask → SendQueueState → Transfer → Bool
wants_sack later_ask queue transfer = false
wants_sack first_ask queue transfer =
    is_acknowledgement_due transfer.tracker
    || (owes_acknowledgement transfer.tracker && (has_queued_data queue || can_send transfer.retransmission))

-- the SACK of what was received, for that much room, with what is left of the receive window (RFC 9260, section 3.3.4)
abbrev pub own_sack : ℕ → Transfer → Plain
own_sack room transfer = unworked (sack_chunk (sack_of room transfer.tracker (advertised_window transfer)))

-- It is sent if it is asked for and fits. Then all received data counts as acknowledged.
abbrev pub Acknowledges : Bool → ℕ → Transfer → TrackerState → List Plain → Type 0
Acknowledges false room transfer after chunks = (after ≡ transfer.tracker) × (chunks ≡ [])
Acknowledges true room transfer after chunks = (after ≡ tracker_after_sack transfer.tracker) × (chunks ≡ where_fits room (own_sack room transfer))

-- Its numbers fit their fields.
abbrev pub FitsPlain : Plain → Type 0
FitsPlain chunk = FitsChunk (plain_out chunk)

-- ---- what the queues do while a packet is filled

-- what a packet with that much room begins with
abbrev pub stage_of : SendQueueState → RetransmissionState → List (Event (List ℕ)) → ℕ → Stage
stage_of waiting state told room = record { queue = state; waiting = waiting; told = told; tsns = []; room = room }

-- the longest pause between two FORWARD-TSNs, in nanoseconds: 200 milliseconds (RFC 3758, section 3.5)
abbrev pub forward_pause : ℕ
forward_pause = 200000000

-- the moment before which no FORWARD-TSN is sent, after one at this moment: that pause later, or the round trip
abbrev pub next_forward : ℕ → Transfer → ℕ
next_forward now transfer = moment_after now (min forward_pause transfer.timeout.srtt)

-- May messages be abandoned: was it negotiated, and is something outstanding?
abbrev pub may_abandon : RetransmissionState → Bool
may_abandon state = state.partial_reliability && nat_lt 0 (outstanding_count state)

-- May they be abandoned for a FORWARD-TSN in this packet? That is so in the first one, from the moment on from which the next may
-- be sent.
abbrev pub may_forward : Ask → Endpoint → RetransmissionState → Bool
may_forward later_ask e state = false
may_forward first_ask e state = nat_le e.no_forward_tsn_before e.moment && may_abandon state

-- A FORWARD-TSN is made if the first item was abandoned, and goes if it fits. Before that moment no other one is made, also if it
-- didn't fit.
abbrev pub ForwardsIfAbandoned : Bool → ℕ → Transfer → ℕ → RetransmissionState → Option ℕ → List Plain → Type 0
ForwardsIfAbandoned false now transfer room state next chunks = (next ≡ None) × (chunks ≡ [])
ForwardsIfAbandoned true now transfer room state next chunks =
    (next ≡ Some (next_forward now transfer)) × ((chunk : ChunkContent) × SaysForward state chunk × (chunks ≡ where_fits room (unworked chunk)))

-- what may be made for messages that were abandoned: a FORWARD-TSN, and then the moment before which no other one is sent
pub record ForwardMade : Type 0 where
  pub next : Option ℕ
  pub chunks : List Plain

abbrev pub forward_made : Option ℕ → List Plain → ForwardMade
forward_made next chunks = record { next = next; chunks = chunks }

-- Before it, messages are abandoned that may not be sent any more.
abbrev pub GivesUpThenForwards : Bool → ℕ → Transfer → ℕ → Stage → Stage → ForwardMade → Type 0
GivesUpThenForwards false now transfer room old new made = (new ≡ old) × (made.next ≡ None) × (made.chunks ≡ [])
GivesUpThenForwards true now transfer room old new made =
    GivesUpAll now old new × ForwardsIfAbandoned (is_first_abandoned new.queue.outstanding.items) now transfer room new.queue made.next made.chunks

-- the moment before which no FORWARD-TSN is sent, by whether one was made
abbrev pub forward_moment : Option ℕ → ℕ → ℕ
forward_moment None before = before
forward_moment (Some next) before = next

-- The packet is filled with data. If none may go, nothing changes but that the timer may be set as it is when a packet is full.
abbrev pub FillsIfAllowed : Bool → ℕ → Stage → Stage → Type 0
FillsIfAllowed false now old new = (new ≡ old) ⊎ FillsPacket now old new
FillsIfAllowed true now old new = FillsPacket now old new

-- is the list empty?
abbrev pub is_none : {A : Type 0} → List A → Bool
is_none [] = true
is_none (first ∷ rest) = false

-- Whom may a flush ask to reset streams? By the RFC nobody whose COOKIE ACK is awaited (RFC 9260, section 5.1, C).
abbrev pub may_be_asked : Core → Bool → Option Held
may_be_asked (cookie_echoed my held cookie) true = None
may_be_asked (cookie_echoed my held cookie) false = Some held
may_be_asked core follows_rfc = held_by_core core

abbrev pub begun_by_ask : Ask → Bool → Option Held → ℕ → ℕ → SendQueueState → Option BegunReset
begun_by_ask first_ask follows held room last_tsn queue = begun_if_connected follows held room last_tsn queue
begun_by_ask later_ask follows held room last_tsn queue = None

-- What the transfer layer of an association gives: what acknowledges, what abandons messages, a request to reset streams, and data
-- as far as it may go.
pub record Gives (ask : Ask) (e : Endpoint) (draft : Emission) (transfer : Transfer) (answer : Answer) : Type 0 where
  pub sacks : List Plain
  pub forwards : List Plain
  pub parts : answer.acknowledgements ≡ sacks ++ forwards
  pub tracker : TrackerState
  pub acknowledges : Acknowledges (wants_sack ask e.queues.queue transfer) (room_of_draft e draft) transfer tracker sacks
  -- once messages were abandoned
  pub gave_up : Stage
  pub next : Option ℕ
  pub gives_up : GivesUpThenForwards (may_forward ask e transfer.retransmission) e.moment transfer (room_of_draft e (filled_draft draft (plain_contents sacks)))
      (stage_of e.queues.queue transfer.retransmission [] 0) gave_up (forward_made next forwards)
  pub later : answer.after.no_forward_tsn_before ≡ forward_moment next e.no_forward_tsn_before
  pub begins : answer.begun
      ≡ begun_by_ask ask e.options.follow_rfc (may_be_asked e.core e.options.follow_rfc) (room_of_draft e (filled_draft draft (plain_contents answer.acknowledgements))) (last_assigned_tsn gave_up.queue) gave_up.waiting
  -- once the packet is full
  pub sent : Stage
  pub fills : let left : SendQueueState =
      queue_requesting (streams_within (room_of_draft e (filled_draft draft (plain_contents answer.acknowledgements)))) answer.begun gave_up.waiting in
      let begun : RetransmissionState = retransmission_begun answer.begun gave_up.queue in
      FillsIfAllowed (may_give left begun) e.moment
      (stage_of left begun gave_up.told (room_of_draft e (filled_draft draft (plain_contents answer.acknowledgements ++ request_contents answer.begun)))) sent
  pub chunks : AreChunksOfTsns sent.queue.outstanding sent.tsns answer.data_chunks
  pub forwards_fit : AllByRecursion FitsPlain forwards
  pub data_fit : AllByRecursion FitsPlain answer.data_chunks
  pub told : map filling_event_content answer.told ≡ sent.told
  pub below : answer.after.queues
      ≡ record { queue = sent.waiting; transfer = Some (record transfer { retransmission = sent.queue; tracker = tracker }) }

-- If the association is idle, nothing happens.
abbrev pub GivesUnlessIdle : Bool → Ask → Endpoint → Emission → Transfer → Answer → Type 0
GivesUnlessIdle true ask e draft transfer answer = answer ≡ nothing_waits e
GivesUnlessIdle false ask e draft transfer answer = Gives ask e draft transfer answer

abbrev pub IsAnswerOfQueues : Ask → Endpoint → Emission → Answer → Option Transfer → Type 0
IsAnswerOfQueues ask e draft answer None = answer ≡ nothing_waits e
IsAnswerOfQueues ask e draft answer (Some transfer) = GivesUnlessIdle (is_idle e.queues.queue transfer) ask e draft transfer answer

-- With data the heartbeat interval starts again.
abbrev pub timers_with : Endpoint → List Plain → Timers
timers_with e [] = e.timers
timers_with e (chunk ∷ chunks) = heartbeats_begun e (own_tag e.core) e.timers

-- The answers that are allowed to this ask.
pub record IsFlushAnswer (ask : Ask) (e : Endpoint) (draft : Emission) (answer : Answer) : Type 0 where
  pub kept : answer.after
      ≡ record (after_begun answer.begun e) {
        timers = timers_with (after_begun answer.begun e) answer.data_chunks;
        no_forward_tsn_before = answer.after.no_forward_tsn_before;
        queues = answer.after.queues;
      }
  pub within : IsWithinMtu e draft → IsWithinMtu e (filled_draft draft (answer_contents answer))
  pub by_transfer : IsAnswerOfQueues ask e draft answer e.queues.transfer

-- The lists of answers that end a flush of at most that many packets. It ends at its limit, or at a packet that is empty after
-- its ask.
pub data AreFlushAnswers : Ask → ℕ → Endpoint → Emission → List Answer → Type 0 where
  at_limit : (ask : Ask) (e : Endpoint) (draft : Emission) → AreFlushAnswers ask 0 e draft []
  at_empty : (ask : Ask) (more : ℕ) (e : Endpoint) (draft : Emission) (answer : Answer) → IsFlushAnswer ask e draft answer
      → (filled_draft draft (answer_contents answer)).packet.contents ≡ [] → AreFlushAnswers ask (suc more) e draft (answer ∷ [])
  after_packet : (ask : Ask) (more : ℕ) (e : Endpoint) (draft : Emission) (answer : Answer) (answers : List Answer)
      → IsFlushAnswer ask e draft answer
      → ((filled_draft draft (answer_contents answer)).packet.contents ≡ [] → ⊥)
      → AreFlushAnswers later_ask more (asked_outcome e draft answer).after (next_draft e.core draft) answers
      → AreFlushAnswers ask (suc more) e draft (answer ∷ answers)

-- the answers that a flush whose first packet is this may get
abbrev pub FlushAnswers : Endpoint → Emission → List Answer → Type 0
FlushAnswers e draft answers = AreFlushAnswers first_ask (packets_allowed e.options.max_burst e.core) e draft answers

-- ---- as a part of a turn

-- What a turn takes for its flush: after these words and events, a flush whose first packet holds these chunks.
abbrev pub FlushKind : Type 0
FlushKind = Endpoint → List Word → List (Event Emission) → Bool → ℕ → List Content → Outcome

-- by what its asks were answered
abbrev pub flush_answered : List Answer → FlushKind
flush_answered answers e words events with_checksum tag contents =
    behind words events (flush_of e (record { with_checksum = with_checksum; packet = record { tag = tag; contents = contents } }) answers)

-- Does this `max_burst` allow a packet?
abbrev pub allows_packet : ℤ → Bool
allows_packet (pos zero) = false
allows_packet (pos (suc more)) = true
allows_packet (negsuc below) = false

-- If nothing waits its first packet is sent, if it holds a chunk and a packet is allowed.
abbrev pub flush_outcome : FlushKind
flush_outcome e words events with_checksum tag [] = quiet e words events
flush_outcome e words events with_checksum tag (content ∷ contents) =
    if allows_packet e.options.max_burst
    then sends e words events (record { with_checksum = with_checksum; packet = record { tag = tag; contents = content ∷ contents } })
    else quiet e words events

-- ---- its limits

-- a packet, an amount that fell to its threshold, or what became of a message
abbrev pub IsFlushEvent : Event Emission → Type 0
IsFlushEvent (sent emission) = Unit {0}
IsFlushEvent (buffered_amount_low stream) = Unit {0}
IsFlushEvent total_buffered_amount_low = Unit {0}
IsFlushEvent (lifecycle_message_fully_sent id) = Unit {0}
IsFlushEvent (lifecycle_message_maybe_expired id) = Unit {0}
IsFlushEvent (lifecycle_message_expired id) = Unit {0}
IsFlushEvent (lifecycle_end id) = Unit {0}
IsFlushEvent event = ⊥

-- At most that many packets, none longer than `mtu`, and besides them only events of these kinds.
pub record KeepsLimits (e : Endpoint) (events : List (Event Emission)) : Type 0 where
  pub packets : length (packets_of_events events) ≤ packets_allowed e.options.max_burst e.core
  pub sizes : AllByRecursion (IsWithinMtu e) (packets_of_events events)
  pub others : AllByRecursion IsFlushEvent events

-- ---- if nothing waits

abbrev pub AreQueuesIdle : SendQueueState → Option Transfer → Type 0
AreQueuesIdle queue None = Unit {0}
AreQueuesIdle queue (Some transfer) = is_idle queue transfer ≡ true

-- Nothing waits, nothing is in flight, and nothing is to be acknowledged.
abbrev pub IsIdle : Endpoint → Type 0
IsIdle e = AreQueuesIdle e.queues.queue e.queues.transfer
