-- Why what waits, is in flight or was received can't be handed over to another process.
use Rattle.std.specs.Prelude.{ℕ, bit_or, Bool, not, ◌&&◌, ◌||◌, nat_lt, is_some, length}
use Rattle.std.specs.List.{list_any}
use Rattle.dcsctp_types.specs.Readiness.{reason_if_true, send_queue_not_empty, data_tracker_tsn_blocks_pending, pending_stream_reset, stream_reset_deferred, stream_has_unassembled_chunks, retransmission_queue_outstanding_data, retransmission_queue_fast_recovery, retransmission_queue_not_empty}
use Rattle.dcsctp_spec.specs.queues.Incoming.{IncomingModel}
use Rattle.dcsctp_spec.specs.queues.IncomingStreams.{StreamModel}
use Rattle.dcsctp_spec.specs.queues.Items.{marked_items}
use Rattle.dcsctp_spec.specs.queues.OwnResets.{is_open_pause}
use Rattle.dcsctp_spec.specs.queues.Reassembly.{ReassemblyState}
use Rattle.dcsctp_spec.specs.queues.Retransmission.{RetransmissionState, outstanding_count}
use Rattle.dcsctp_spec.specs.queues.SendQueue.{SendQueueState}
use Rattle.dcsctp_types.specs.queues.SendStreams.{Stream, front_of}
use Rattle.dcsctp_spec.specs.queues.Tracker.{TrackerState, has_ranges}
use Rattle.dcsctp_spec.specs.queues.Transfer.{Transfer}

-- ---- what is sent; `with_data`: what waits and what is in flight goes along

-- does a message wait on the stream, or is one under way?
abbrev pub has_messages : Stream → Bool
has_messages stream = is_some (front_of stream.messages)

-- is the stream to be reset, or was its reset requested?
abbrev pub is_paused : Stream → Bool
is_paused stream = not (is_open_pause stream.pause)

abbrev pub queue_readiness : Bool → SendQueueState → ℕ
queue_readiness with_data queue =
    bit_or (reason_if_true (not with_data && list_any has_messages queue.streams) send_queue_not_empty)
    (reason_if_true (list_any is_paused queue.streams) pending_stream_reset)

abbrev pub retransmission_readiness : Bool → RetransmissionState → ℕ
retransmission_readiness with_data state =
    bit_or (reason_if_true (not with_data && nat_lt 0 (outstanding_count state)) retransmission_queue_outstanding_data)
    (bit_or (reason_if_true (is_some state.congestion.recovery_exit) retransmission_queue_fast_recovery)
    (reason_if_true (not with_data && nat_lt 0 (marked_items state.outstanding.items)) retransmission_queue_not_empty))

-- ---- what was received

abbrev pub tracker_readiness : TrackerState → ℕ
tracker_readiness tracker = reason_if_true (has_ranges tracker.ranges) data_tracker_tsn_blocks_pending

-- does something of the stream wait for more: a message for an earlier one, or parts for the others?
abbrev pub holds_parts : StreamModel → Bool
holds_parts stream = nat_lt 0 (length stream.waiting) || nat_lt 0 (length stream.ordered) || nat_lt 0 (length stream.unordered)

-- the same of all that was received
abbrev pub is_unassembled : IncomingModel → Bool
is_unassembled incoming = list_any (λ entry. holds_parts entry.1) incoming.streams || nat_lt 0 (length incoming.unordered)

abbrev pub reassembly_readiness : ReassemblyState → ℕ
reassembly_readiness queue =
    bit_or (reason_if_true (is_some queue.deferral) stream_reset_deferred)
    (reason_if_true (is_unassembled queue.incoming) stream_has_unassembled_chunks)

-- ---- all of an association

abbrev pub transfer_readiness : Bool → Transfer → ℕ
transfer_readiness with_data transfer =
    bit_or (retransmission_readiness with_data transfer.retransmission)
    (bit_or (tracker_readiness transfer.tracker) (reassembly_readiness transfer.reassembly))
