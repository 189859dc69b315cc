-- What is sent in a flush.
use Rattle.std.specs.Prelude.{◌≡◌, ◌⊎◌, ◌≤◌, ◌+◌, nat_le, ℕ, length, Bool, true, false, not, Option, None, Some, Result, List, [], ◌∷◌, ◌++◌, map}
use Rattle.std.specs.List.{flat_map}
use Rattle.rand_core.specs.Stream.{Stream}
use Rattle.dcsctp_transfer.specs.wire_build.Building.{Building, bytes_remaining}
use Rattle.dcsctp_transfer.specs.wire.Spelling.{chunk_bytes, header_bytes, packet_bytes_of}
use Rattle.dcsctp_transfer.specs.spec.queues.OwnResets.{ready_streams}
use Rattle.dcsctp_transfer.specs.types.declared.options.Options.{Options}
use Rattle.dcsctp_transfer.specs.types.ByResult.{ByResult}
use Rattle.dcsctp_transfer.specs.types.Settings.{ports_of, packet_size_limit}
use Rattle.dcsctp_transfer.specs.types.Sizes.{common_header_size}
use Rattle.dcsctp_transfer.specs.spec.endpoint.Event.{Event, sent}
use Rattle.dcsctp_transfer.specs.spec.Packet.{Content, chunk_out, Emission}
use Rattle.dcsctp_transfer.specs.spec.queues.SendQueue.{SendQueueState, has_queued_data}
use Rattle.dcsctp_transfer.specs.spec.queues.Transfer.{Transfer, is_none_ready, may_give}
use Rattle.dcsctp_transfer.specs.spec.queues.Items.{is_first_abandoned}
use Rattle.dcsctp_transfer.specs.spec.queues.Retransmission.{can_send, outstanding_count}
use Rattle.dcsctp_transfer.specs.spec.endpoint.Endpoint.{Endpoint, Timers, heartbeats_begun, held_by_core, own_tag}
use Rattle.dcsctp_transfer.specs.types.declared.association.Held.{Held}
use Rattle.dcsctp_transfer.specs.spec.endpoint.Outcome.{packet_counted}
use Rattle.dcsctp_transfer.specs.spec.endpoint.BegunResets.{BegunReset, last_assigned_tsn, begun_if_connected, request_contents, after_begun, streams_within, queue_requesting, transfer_reset_begun}
use Rattle.dcsctp_transfer.specs.spec.endpoint.FlushOutcomes.{may_be_asked, filling_event, Answer, answer_contents, filled_draft, asked_outcome, flush_of, packets_allowed, Ask, first_ask, wants_sack, IsAnswerOfQueues, timers_with, IsFlushAnswer, AreFlushAnswers, is_none, later_ask, draft_to, forward_moment}
use Rattle.dcsctp_transfer.specs.api.Calls.{user_event}
use Rattle.dcsctp_transfer.specs.Filling.{FillsDataPacket, AddsFirstOfFilling, FillsRequestedSack, is_sack_wanted, packet_stage, PacketStage}
use Rattle.dcsctp_transfer.specs.Forwarding.{MakesForwardTsn, AddsFirstOfAbandoning}
use Rattle.dcsctp_core.specs.declared.context.Context.{Context}
use Rattle.dcsctp_core.specs.declared.state.State.{State}
use Rattle.dcsctp_core.specs.Reconfiguring.{tcb_changed}
use Rattle.dcsctp_core.specs.View.{View, core_of, endpoint_of, view_of, transfer_of, Moves}

-- a packet of these chunks that is being built, under this tag
abbrev pub packet_being_built : Options → Bool → ℕ → List Content → Building
packet_being_built options with_checksum tag contents =
    record {
      source_port = options.local_port;
      destination_port = options.remote_port;
      verification_tag = tag;
      size = packet_size_limit options;
      with_checksum = with_checksum;
      body = flat_map chunk_bytes (map chunk_out contents);
    }

abbrev pub empty_packet : Options → Bool → ℕ → Building
empty_packet options with_checksum tag = packet_being_built options with_checksum tag []

-- the same for what is sent
abbrev pub packet_for : Options → Emission → Building
packet_for options draft = packet_being_built options draft.with_checksum draft.packet.tag draft.packet.contents

-- ---- below an association

-- the state with this below its association, if the peer is known
abbrev pub state_with : State → Transfer → State
state_with state transfer = tcb_changed (λ tcb. record tcb { transfer = transfer }) state

-- What was received is acknowledged, if that is asked for.
abbrev pub AcknowledgesInQueues : Option Transfer → Bool → State → Building → State → Building → Type 0
AcknowledgesInQueues None along old packet new filled_draft = (new ≡ old) × (filled_draft ≡ packet)
AcknowledgesInQueues (Some transfer) along old packet new filled_draft =
    (after : Transfer) × (new ≡ state_with old after) × FillsRequestedSack (is_sack_wanted along transfer) transfer packet after filled_draft

-- Messages may have been abandoned, if the peer is known; if a FORWARD-TSN was made, the result says when the next one may be.
abbrev pub ForwardsInQueues : ℕ → Option Transfer → PacketStage → State → State → PacketStage → Option ℕ → Type 0
ForwardsInQueues now None before old new after next =
    (new ≡ old) × (after.waiting ≡ before.waiting) × (after.events ≡ before.events) × (after.packet ≡ before.packet) × (next ≡ None)
ForwardsInQueues now (Some transfer) before old new after next =
    (left : Transfer) × (new ≡ state_with old left) × MakesForwardTsn now transfer before left after next

-- Without a peer, and where nothing waits and nothing is outstanding, there is no data.
abbrev pub HasNoData : SendQueueState → Option Transfer → Type 0
HasNoData queue None = Unit {0}
HasNoData queue (Some transfer) = (has_queued_data queue ≡ false) × (outstanding_count transfer.retransmission ≡ 0)

-- No stream is ready to be reset, if the peer is known.
abbrev pub HasNoReset : SendQueueState → Option Transfer → Type 0
HasNoReset queue None = Unit {0}
HasNoReset queue (Some transfer) = is_none_ready (ready_streams queue) ≡ true

-- Nothing must go into a packet to the peer: neither an acknowledgement nor data. Into the first one neither a request to reset
-- streams nor a FORWARD-TSN must go either.
abbrev pub NeedsNone : Ask → SendQueueState → Option Transfer → Type 0
NeedsNone ask queue None = Unit {0}
NeedsNone ask queue (Some transfer) =
    (wants_sack ask queue transfer ≡ false)
    × (ask ≡ first_ask → is_none_ready (ready_streams queue) ≡ true)
    × (ask ≡ first_ask → is_first_abandoned transfer.retransmission.outstanding.items ≡ false)
    × (may_give queue transfer.retransmission ≡ false)

-- No SACK is asked for.
abbrev pub WantsNone : Option Transfer → Bool → Type 0
WantsNone None along = Unit {0}
WantsNone (Some transfer) along = is_sack_wanted along transfer ≡ false

-- may data be sent to the peer, if it is known?
abbrev pub can_queues_send : Option Transfer → Bool
can_queues_send None = false
can_queues_send (Some transfer) = can_send transfer.retransmission

-- ---- one packet of it

-- the heartbeat interval starts again if data went in
abbrev pub timers_if_filled : Bool → Endpoint → Timers
timers_if_filled true e = heartbeats_begun e (own_tag e.core) e.timers
timers_if_filled false e = e.timers

-- What abandons messages was put into a packet, if that may go now, and nothing else has moved.
abbrev pub ForwardsNow : {R : Type 0} → Bool → Transfer → View R → Building → View R → Building → Type 0
ForwardsNow false transfer old packet new filled_draft = (new ≡ old) × (filled_draft ≡ packet)
ForwardsNow true transfer old packet new filled_draft =
    (next : Option ℕ) × (after : Transfer) × (left : SendQueueState)
    × MakesForwardTsn old.endpoint.moment transfer (packet_stage old.endpoint.queues.queue old.events packet) after (packet_stage left new.events filled_draft) next
    × (new ≡ record old {
      endpoint = record old.endpoint {
        no_forward_tsn_before = forward_moment next old.endpoint.no_forward_tsn_before;
        queues = record { queue = left; transfer = Some after };
      };
      events = new.events;
    })

-- may a FORWARD-TSN go at this moment?
abbrev pub is_in_time : Endpoint → Bool
is_in_time e = nat_le e.no_forward_tsn_before e.moment

-- What abandons messages was put into a packet, no sooner than it may.
abbrev pub ForwardsInTime : {R : Type 0} → Option Transfer → View R → Building → View R → Building → Type 0
ForwardsInTime None old packet new filled_draft = (new ≡ old) × (filled_draft ≡ packet)
ForwardsInTime (Some transfer) old packet new filled_draft = ForwardsNow (is_in_time old.endpoint) transfer old packet new filled_draft

-- A reset was begun if none is outstanding, one is ready and it fits. Its request is in the packet, and nothing else has changed.
abbrev pub FillsResetRequest : {R : Type 0} → Option Transfer → View R → Building → View R → Building → Type 0
FillsResetRequest None old packet new filled_draft = (new ≡ old) × (filled_draft ≡ packet)
FillsResetRequest (Some transfer) old packet new filled_draft =
    (begun : Option BegunReset) × (left : SendQueueState)
    × (begun ≡ begun_if_connected old.endpoint.options.follow_rfc (may_be_asked old.endpoint.core old.endpoint.options.follow_rfc) (bytes_remaining packet) (last_assigned_tsn transfer.retransmission) old.endpoint.queues.queue)
    × (left ≡ queue_requesting (streams_within (bytes_remaining packet)) begun old.endpoint.queues.queue)
    × (filled_draft ≡ record packet { body = packet.body ++ flat_map chunk_bytes (map chunk_out (request_contents begun)) })
    × (new ≡ record old {
      endpoint = record (after_begun begun old.endpoint) { queues = record { queue = left; transfer = Some (transfer_reset_begun begun transfer) } };
    })

-- A packet was filled with data, and nothing else has moved.
abbrev pub FillsPacketData : {R : Type 0} → Option Transfer → View R → Building → View R → Building → Type 0
FillsPacketData None old packet new filled_draft = (new ≡ old) × (filled_draft ≡ packet)
FillsPacketData (Some transfer) old packet new filled_draft =
    (any : Bool) × (after : Transfer) × (left : SendQueueState)
    × FillsDataPacket old.endpoint.moment transfer (packet_stage old.endpoint.queues.queue old.events packet) after (packet_stage left new.events filled_draft) any
    × (new ≡ record old {
      endpoint = record old.endpoint { timers = timers_if_filled any old.endpoint; queues = record { queue = left; transfer = Some after } };
      events = new.events;
    })

-- A packet that was asked to be filled: what it holds now, and what else has moved.
pub record FillsAskedPacket {R : Type 0} (ask : Ask) (old : View R) (draft : Emission) (new : View R) (filled_packet : Building) : Type 0 where
  pub answer : Answer
  pub kept : answer.after
      ≡ record (after_begun answer.begun old.endpoint) {
        timers = timers_with (after_begun answer.begun old.endpoint) answer.data_chunks;
        no_forward_tsn_before = answer.after.no_forward_tsn_before;
        queues = answer.after.queues;
      }
  pub by_transfer : IsAnswerOfQueues ask old.endpoint draft answer old.endpoint.queues.transfer
  pub endpoint : new.endpoint ≡ answer.after
  pub events : new.events ≡ old.events ++ map (user_event (ports_of old.endpoint.options)) (map filling_event answer.told)
  pub rest : new ≡ record old { endpoint = new.endpoint; events = new.events }
  pub packet : filled_packet ≡ packet_for old.endpoint.options (filled_draft draft (answer_contents answer))

-- The turn of a packet that is asked to be filled was cut.
pub record CutsAsk {R : Type 0} (ask : Ask) (old : View R) (draft : Emission) (events : List (Event (List ℕ))) : Type 0 where
  pub answer : Answer
  pub allowed : IsFlushAnswer ask old.endpoint draft answer
  -- what was added of it
  pub front : List (Event Emission)
  pub rest : List (Event Emission)
  pub parts : (asked_outcome old.endpoint draft answer).events ≡ front ++ rest
  pub added : events ≡ old.events ++ map (user_event (ports_of old.endpoint.options)) front

-- whatever the machine calls the chunks that the packet holds
abbrev pub FillsWith : {R E : Type 0} → Ask → Building → Context R → Result (Unit {0}) E → Context R → Building → Type 0
FillsWith ask packet old result new filled_packet =
    ByResult (λ done. (draft : Emission) → packet ≡ packet_for old.options draft → FillsAskedPacket ask (view_of old) draft (view_of new) filled_packet)
    ((draft : Emission) → packet ≡ packet_for old.options draft → CutsAsk ask (view_of old) draft (view_of new).events) result

-- Its turn took place; the result says whether the packet was sent.
pub record AsksFor {R : Type 0} (stream : R → Stream) (ask : Ask) (old : View R) (draft : Emission) (is_sent : Bool) (new : View R) : Type 0 where
  pub answer : Answer
  pub allowed : IsFlushAnswer ask old.endpoint draft answer
  pub goes : is_sent ≡ not (is_none (filled_draft draft (answer_contents answer)).packet.contents)
  pub moves : Moves stream old (asked_outcome old.endpoint draft answer) new

-- If an allocation failed for data, the first events of some such filling were added.
abbrev pub AddsFirstOfData : {R : Type 0} → Option Transfer → View R → Building → View R → Type 0
AddsFirstOfData None old packet new = new.events ≡ old.events
AddsFirstOfData (Some transfer) old packet new =
    AddsFirstOfFilling old.endpoint.moment (bytes_remaining packet) transfer old.endpoint.queues.queue old.events new.events

-- What fills a packet with data does, by whether an allocation failed.
abbrev pub TriesData : {R E : Type 0} → Building → Context R → Result (Unit {0}) E → Context R → Building → Type 0
TriesData packet old result new filled_draft =
    ByResult (λ done. FillsPacketData (transfer_of old.state) (view_of old) packet (view_of new) filled_draft)
    (AddsFirstOfData (transfer_of old.state) (view_of old) packet (view_of new)) result

-- If an allocation failed for a FORWARD-TSN, the first events about messages that are abandoned were added; the packet may be made
-- at this moment.
abbrev pub AddsFirstOfForward : {R : Type 0} → Option Transfer → View R → View R → Type 0
AddsFirstOfForward None old new = new.events ≡ old.events
AddsFirstOfForward (Some transfer) old new =
    (is_in_time old.endpoint ≡ true) × AddsFirstOfAbandoning old.endpoint.moment transfer old.endpoint.queues.queue old.events new.events

-- The FORWARD-TSN, by whether an allocation failed.
abbrev pub TriesForward : {R E : Type 0} → Building → Context R → Result (Unit {0}) E → Context R → Building → Type 0
TriesForward packet old result new filled_draft =
    ByResult (λ done. ForwardsInTime (transfer_of old.state) (view_of old) packet (view_of new) filled_draft)
    (AddsFirstOfForward (transfer_of old.state) (view_of old) (view_of new)) result

-- What begins a reset, by whether an allocation failed.
abbrev pub TriesReset : {R E : Type 0} → Building → Context R → Result (Unit {0}) E → Context R → Building → Type 0
TriesReset packet old result new filled_draft =
    ByResult (λ done. FillsResetRequest (transfer_of old.state) (view_of old) packet (view_of new) filled_draft)
    ((view_of new).events ≡ (view_of old).events) result

-- ---- as many as may be

-- A flush of at most that many packets took place, of which this is the first.
pub record FlushesFor {R : Type 0} (stream : R → Stream) (ask : Ask) (count : ℕ) (old : View R) (draft : Emission) (new : View R) : Type 0 where
  pub answers : List Answer
  pub allowed : AreFlushAnswers ask count old.endpoint draft answers
  pub moves : Moves stream old (flush_of old.endpoint draft answers) new

-- The same, cut.
pub record CutsFlush {R : Type 0} (ask : Ask) (count : ℕ) (old : View R) (draft : Emission) (events : List (Event (List ℕ))) : Type 0 where
  pub answers : List Answer
  pub allowed : AreFlushAnswers ask count old.endpoint draft answers
  pub front : List (Event Emission)
  pub rest : List (Event Emission)
  pub parts : (flush_of old.endpoint draft answers).events ≡ front ++ rest
  pub added : events ≡ old.events ++ map (user_event (ports_of old.endpoint.options)) front

-- by whether an allocation failed
abbrev pub FlushesOrFails : {R E : Type 0} → (R → Stream) → Ask → ℕ → Emission → View R → Result (Unit {0}) E → View R → Type 0
FlushesOrFails stream ask count draft old result new =
    ByResult (λ done. FlushesFor stream ask count old draft new) (CutsFlush ask count old draft new.events) result

-- Later packets of it, to the peer.
abbrev pub FlushesFurther : {R E : Type 0} → (R → Stream) → ℕ → Context R → Result (Unit {0}) E → Context R → Type 0
FlushesFurther stream count old result new =
    (held : Held) → held_by_core (core_of old.state) ≡ Some held → FlushesOrFails stream later_ask count (draft_to held) (view_of old) result (view_of new)

-- A flush to the peer, whose first packet is this one, however the machine names the chunks that it holds.
abbrev pub Flushes : {R E : Type 0} → (R → Stream) → Building → Context R → Result (Unit {0}) E → Context R → Type 0
Flushes stream packet old result new =
    (draft : Emission) → packet ≡ packet_for old.options draft → (held : Held) → held_by_core (core_of old.state) ≡ Some held
    → FlushesOrFails stream first_ask (packets_allowed old.options.max_burst (endpoint_of old).core) draft (view_of old) result (view_of new)

-- Its bytes are one more event, and it is counted.
abbrev pub sent_as_built : {R : Type 0} → Building → View R → View R
sent_as_built packet view =
    record view {
      endpoint = packet_counted view.endpoint;
      events = view.events
          ++ sent (packet_bytes_of packet.with_checksum (header_bytes packet.source_port packet.destination_port packet.verification_tag) packet.body) ∷ [];
    }

abbrev pub sent_if_filled : {R : Type 0} → Bool → Building → View R → View R
sent_if_filled true packet view = sent_as_built packet view
sent_if_filled false packet view = view

-- It is empty, or no longer than it may be.
abbrev pub KeepsSize : Building → Type 0
KeepsSize packet = (packet.body ≡ []) ⊎ (common_header_size + length packet.body ≤ packet.size)

-- A packet that isn't empty was sent; or an allocation failed, and nothing has changed.
abbrev pub SendsUnlessEmpty : {R E : Type 0} → Building → Context R → Result Bool E → Context R → Type 0
SendsUnlessEmpty packet old result new =
    ByResult (λ is_sent. (is_sent ≡ not (is_none packet.body)) × (view_of new ≡ sent_if_filled is_sent packet (view_of old)))
    (view_of new ≡ view_of old) result
