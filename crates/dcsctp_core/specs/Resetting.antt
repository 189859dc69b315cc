-- Our own reset of streams is begun (RFC 6525, section 5.1.2).
use Rattle.std.specs.Prelude.{◌≡◌, ◌≤◌, ◌<◌, ◌^◌, ℕ, false, Option, None, Some, List, ◌++◌, length, map}
use Rattle.std.specs.List.{flat_map, AllByRecursion}
use Rattle.dcsctp_transfer.specs.wire.Spelling.{chunk_bytes}
use Rattle.dcsctp_transfer.specs.wire_build.Building.{Building, bytes_remaining}
use Rattle.dcsctp_transfer.specs.types.Ids.{stream_numbers}
use Rattle.dcsctp_transfer.specs.spec.Packet.{chunk_out}
use Rattle.dcsctp_transfer.specs.spec.association.FlushChanges.{reset_request}
use Rattle.dcsctp_transfer.specs.spec.Reconfiguration.{RequestedReset}
use Rattle.dcsctp_transfer.specs.spec.queues.SendQueue.{SendQueueState}
use Rattle.dcsctp_transfer.specs.spec.queues.Transfer.{Transfer}
use Rattle.dcsctp_transfer.specs.spec.endpoint.Endpoint.{OutstandingRequest, held_by_core}
use Rattle.dcsctp_transfer.specs.spec.endpoint.Timers.{RunningTimer, started_timer}
use Rattle.dcsctp_transfer.specs.spec.endpoint.BegunResets.{BegunReset, streams_within, last_assigned_tsn, begun_if_connected, request_contents, queue_requesting, transfer_reset_begun, held_begun, reconfiguration_settings}
use Rattle.dcsctp_core.specs.declared.resetting.RequestStart.{RequestStart}
use Rattle.dcsctp_core.specs.declared.state.State.{State}
use Rattle.dcsctp_core.specs.declared.state.State.TheVariants.{Closed, CookieWait, CookieEchoed, Open}
use Rattle.dcsctp_core.specs.declared.transmission_control_block.ResetRequest.{ResetRequest}
use Rattle.dcsctp_core.specs.declared.transmission_control_block.TransmissionControlBlock.{TransmissionControlBlock}
use Rattle.dcsctp_core.specs.View.{held_of, request_of, timer_of, core_of}

-- It fits its field.
abbrev pub IsStream : ℕ → Type 0
IsStream stream = stream < 2 ^ 16

-- what a request wants
abbrev pub reset_of : ResetRequest → RequestedReset
reset_of request = record { last_tsn = request.last_tsn; streams = stream_numbers request.streams.items; is_new = request.is_new }

-- ---- in a packet

-- Its chunk fits into the packet, if there is one.
abbrev pub HasRoomForRequest : Option ResetRequest → Building → Type 0
HasRoomForRequest None packet = Unit {0}
HasRoomForRequest (Some request) packet = length (chunk_bytes (chunk_out (reset_request request.number (reset_of request)))) ≤ bytes_remaining packet

-- Its chunk was added, and its streams are numbers of 16 bits.
abbrev pub AddsRequest : Option ResetRequest → Building → Building → Type 0
AddsRequest None packet filled = filled ≡ packet
AddsRequest (Some request) packet filled =
    AllByRecursion IsStream (stream_numbers request.streams.items)
    × (filled ≡ record packet { body = packet.body ++ chunk_bytes (chunk_out (reset_request request.number (reset_of request))) })

-- ---- of an association

-- our outstanding request, and its timer, once this was begun
abbrev pub request_begun : Option BegunReset → Option OutstandingRequest → Option OutstandingRequest
request_begun None request = request
request_begun (Some begun) request = Some (record { last_tsn = begun.reset.last_tsn; streams = begun.reset.streams; is_new = begun.reset.is_new; waits_for_retry = false })

abbrev pub timer_begun : Option BegunReset → ℕ → Option Transfer → Option RunningTimer → Option RunningTimer
timer_begun None now transfer timer = timer
timer_begun (Some begun) now transfer timer = started_timer now (reconfiguration_settings transfer)

-- This was begun, and nothing else has moved.
pub record BeginsOwnReset (now : ℕ) (begun : Option BegunReset) (old new : TransmissionControlBlock) : Type 0 where
  pub held : held_of new ≡ held_begun begun (held_of old)
  pub request : request_of new.reset_request ≡ request_begun begun (request_of old.reset_request)
  pub timer : timer_of new.reset_request ≡ timer_begun begun now (Some old.transfer) (timer_of old.reset_request)
  pub my : new.my ≡ old.my
  pub tie_tag : new.tie_tag ≡ old.tie_tag
  pub transfer : new.transfer ≡ transfer_reset_begun begun old.transfer

-- the packet with its request
abbrev pub with_request : Option BegunReset → Building → Building
with_request begun packet = record packet { body = packet.body ++ flat_map chunk_bytes (map chunk_out (request_contents begun)) }

-- A reset of these streams was begun.
pub record StartsReset (start : RequestStart) (streams : List ℕ) (old : TransmissionControlBlock) (packet : Building) (new : TransmissionControlBlock) (filled : Building) : Type 0 where
  pub begun : BegunReset
  pub is : begun
      ≡ record { number = old.next_outgoing_reset_req_seq_nbr; reset = record { last_tsn = last_assigned_tsn old.transfer.retransmission; streams = streams; is_new = start.is_new } }
  pub fit : AllByRecursion IsStream streams
  pub begins : BeginsOwnReset start.now (Some begun) old new
  pub packet_is : filled ≡ with_request (Some begun) packet

-- A reset was begun, or none was.
pub record BeginsReset (start : RequestStart) (queue : SendQueueState) (old : TransmissionControlBlock) (packet : Building) (left : SendQueueState) (new : TransmissionControlBlock) (filled : Building) : Type 0 where
  pub begun : Option BegunReset
  pub is : begun ≡ begun_if_connected start.is_new (Some (held_of old)) (bytes_remaining packet) (last_assigned_tsn old.transfer.retransmission) queue
  pub begins : BeginsOwnReset start.now begun old new
  pub packet_is : filled ≡ with_request begun packet
  pub hands_out : left ≡ queue_requesting (streams_within (bytes_remaining packet)) begun queue

-- ---- of a state

abbrev pub BeginsInState : ℕ → Option BegunReset → State → State → Type 0
BeginsInState now begun Closed new = new ≡ Closed
BeginsInState now begun (CookieWait wait) new = new ≡ CookieWait wait
BeginsInState now begun (CookieEchoed echoed) new =
    (tcb : TransmissionControlBlock) × BeginsOwnReset now begun echoed.tcb tcb × (new ≡ CookieEchoed (record echoed { tcb = tcb }))
BeginsInState now begun (Open opened) new = (tcb : TransmissionControlBlock) × BeginsOwnReset now begun opened.tcb tcb × (new ≡ Open (record opened { tcb = tcb }))

-- what waits in the send queue, the state, and the packet
pub record ResetStage : Type 0 where
  pub queue : SendQueueState
  pub state : State
  pub packet : Building

abbrev pub reset_stage : SendQueueState → State → Building → ResetStage
reset_stage queue state packet = record { queue = queue; state = state; packet = packet }

pub record BeginsIfAllowed (start : RequestStart) (transfer : Transfer) (old new : ResetStage) : Type 0 where
  pub begun : Option BegunReset
  pub is : begun ≡ begun_if_connected start.is_new (held_by_core (core_of old.state)) (bytes_remaining old.packet) (last_assigned_tsn transfer.retransmission) old.queue
  pub begins : BeginsInState start.now begun old.state new.state
  pub packet_is : new.packet ≡ with_request begun old.packet
  pub hands_out : new.queue ≡ queue_requesting (streams_within (bytes_remaining old.packet)) begun old.queue

-- Nothing happens if the peer isn't known.
abbrev pub BeginsResetInQueues : RequestStart → Option Transfer → ResetStage → ResetStage → Type 0
BeginsResetInQueues start None old new = (new.state ≡ old.state) × (new.queue ≡ old.queue) × (new.packet ≡ old.packet)
BeginsResetInQueues start (Some transfer) old new = BeginsIfAllowed start transfer old new
