-- The transfer layer: what an association has in flight and has received; and what waits to be sent.
use Rattle.std.specs.Prelude.{◌==◌, ℕ, nat_lt, not, ◌&&◌, ◌||◌, Bool, true, false, if◌then◌else◌, Option, None, Some, List, [], ◌∷◌}
use Rattle.dcsctp_types.specs.declared.capabilities.Capabilities.{Capabilities}
use Rattle.dcsctp_types.specs.declared.options.Options.{Options}
use Rattle.dcsctp_spec.specs.queues.Items.{marked_items}
use Rattle.dcsctp_spec.specs.queues.Outstanding.{next_tsn, is_untouched}
use Rattle.dcsctp_spec.specs.queues.OwnResets.{ready_streams}
use Rattle.dcsctp_spec.specs.queues.Reassembly.{ReassemblyState, new_reassembly, remaining_bytes, bytes_to_watermark}
use Rattle.dcsctp_spec.specs.queues.Retransmission.{RetransmissionState, new_retransmission, kept_for_peer, outstanding_count, can_send}
use Rattle.dcsctp_spec.specs.queues.SendQueue.{SendQueueState, empty_queue, has_queued_data, is_other}
use Rattle.dcsctp_spec.specs.queues.Timeout.{TimeoutState, new_timeout}
use Rattle.dcsctp_spec.specs.queues.Tracker.{TrackerState, new_tracker, owes_acknowledgement, is_acknowledgement_due}

pub record Transfer : Type 0 where
  pub retransmission : RetransmissionState
  pub timeout : TimeoutState
  pub tracker : TrackerState
  pub reassembly : ReassemblyState

-- What a part, or a whole message that waits, counts in the receive window beside its bytes. By the RFC's rules the window bounds
-- the memory that a peer can take by small parts (RFC 9260, section 6.2).
abbrev pub part_overhead : Options → ℕ
part_overhead options = if options.follow_rfc then 256 else 0

-- that of a new association: what was negotiated, its own first TSN, the peer's, and its window
abbrev pub new_transfer : Options → Capabilities → ℕ → ℕ → ℕ → Transfer
new_transfer options capabilities first_tsn peer_first_tsn window =
    record {
      retransmission = new_retransmission options first_tsn window capabilities.partial_reliability capabilities.message_interleaving;
      timeout = new_timeout options;
      tracker = new_tracker options peer_first_tsn;
      reassembly = new_reassembly options.max_receiver_window_buffer_size (part_overhead options);
    }

-- ---- another peer for what was sent

-- Can it go on with another peer as it is? Yes if nothing was acknowledged, the first TSN is the same, and so is how messages are
-- numbered and whether they may be abandoned.
abbrev pub outlasts_peer : ℕ → Capabilities → Transfer → Bool
outlasts_peer first_tsn capabilities transfer =
    is_untouched first_tsn transfer.retransmission.outstanding
    && not (is_other transfer.retransmission.outstanding.is_interleaved capabilities.message_interleaving)
    && not (is_other transfer.retransmission.partial_reliability capabilities.partial_reliability)

-- What was sent goes to it, and nothing was received from it.
abbrev pub transfer_kept : ℕ → Options → ℕ → ℕ → Transfer → Transfer
transfer_kept now options peer_first_tsn window transfer =
    record transfer {
      retransmission = kept_for_peer now options window transfer.retransmission;
      tracker = new_tracker options peer_first_tsn;
      reassembly = new_reassembly options.max_receiver_window_buffer_size (part_overhead options);
    }

-- What a SACK says is left of the receive window. By the RFC it is what is left for new data.
abbrev pub advertised_window : Transfer → ℕ
advertised_window transfer = if transfer.tracker.follows_rfc then bytes_to_watermark transfer.reassembly else remaining_bytes transfer.reassembly

-- the TSN that is sent next, if there is an association
abbrev pub next_tsn_of : Option Transfer → ℕ
next_tsn_of None = 0
next_tsn_of (Some transfer) = next_tsn transfer.retransmission.outstanding

-- ---- both

pub record EndpointQueues : Type 0 where
  pub queue : SendQueueState
  -- None: the peer isn't known
  pub transfer : Option Transfer

-- May data be sent: what waits to be sent again, or a message if the windows allow more?
abbrev pub may_give : SendQueueState → RetransmissionState → Bool
may_give queue state = nat_lt 0 (marked_items state.outstanding.items) || (has_queued_data queue && can_send state)

-- is no stream to be reset?
abbrev pub is_none_ready : List ℕ → Bool
is_none_ready [] = true
is_none_ready (stream ∷ streams) = false

-- Nothing waits, nothing is in flight, nothing is to be acknowledged, and no stream is to be reset.
abbrev pub is_idle : SendQueueState → Transfer → Bool
is_idle queue transfer =
    not (has_queued_data queue) && is_none_ready (ready_streams queue) && outstanding_count transfer.retransmission == 0
    && not (owes_acknowledgement transfer.tracker) && not (is_acknowledgement_due transfer.tracker)

-- as it is before any association or message
abbrev pub empty_queues : Options → EndpointQueues
empty_queues options = record { queue = empty_queue options; transfer = None }
