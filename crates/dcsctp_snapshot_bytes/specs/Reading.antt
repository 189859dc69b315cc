-- A snapshot, read from bytes.
use Rattle.std.specs.Prelude.{ℕ, Bool, true, false, ◌&&◌, ◌==◌, List, length, Option, Some, None, if◌then◌else◌}
use Rattle.std.specs.Int.{w16, w32, w64}
use Rattle.dcsctp_types.specs.declared.snapshot.HandoverSocketState.{HandoverSocketState}
use Rattle.dcsctp_types.specs.declared.snapshot.HandoverSocketState.TheVariants.{Closed, Connected}
use Rattle.dcsctp_types.specs.declared.snapshot.HandoverCapabilities.{HandoverCapabilities}
use Rattle.dcsctp_types.specs.Snapshot.{SendPart, ReceivePart, Snapshot}
use Rattle.dcsctp_snapshot_bytes.specs.declared.transmission.SendWindows.{SendWindows}
use Rattle.dcsctp_snapshot_bytes.specs.declared.transmission.SendProgress.{SendProgress}
use Rattle.dcsctp_snapshot_bytes.specs.declared.receive.ReceiveNumbers.{ReceiveNumbers}
use Rattle.dcsctp_snapshot_bytes.specs.declared.state.Tags.{Tags}
use Rattle.dcsctp_snapshot_bytes.specs.Fields.{◌>>=◌, number_of_width, leading_flag, leading_list}
use Rattle.dcsctp_snapshot_bytes.specs.Spelling.{snapshot_magic, version_of}
use Rattle.dcsctp_snapshot_bytes.specs.ReadingItems.{leading_queued_part, leading_outstanding_part, leading_outgoing_stream, leading_ordered_stream, leading_unordered_stream}

-- ---- sending

unfoldable pub leading_windows : List ℕ → Option (SendWindows × List ℕ)
leading_windows bytes = do
  next_tsn ← number_of_width w32 bytes
  next_reset_req_sn ← number_of_width w32 next_tsn.1
  cwnd ← number_of_width w32 next_reset_req_sn.1
  rwnd ← number_of_width w32 cwnd.1
  Some (record { next_tsn = next_tsn.0; next_reset_req_sn = next_reset_req_sn.0; cwnd = cwnd.0; rwnd = rwnd.0 }, rwnd.1)

unfoldable pub leading_send_progress : List ℕ → Option (SendProgress × List ℕ)
leading_send_progress bytes = do
  ssthresh ← number_of_width w32 bytes
  partial_bytes_acked ← number_of_width w32 ssthresh.1
  last_cumulative_tsn_ack ← number_of_width w32 partial_bytes_acked.1
  next_outgoing_message_id ← number_of_width w64 last_cumulative_tsn_ack.1
  Some (
    record {
      ssthresh = ssthresh.0;
      partial_bytes_acked = partial_bytes_acked.0;
      last_cumulative_tsn_ack = last_cumulative_tsn_ack.0;
      next_outgoing_message_id = next_outgoing_message_id.0;
    },
    next_outgoing_message_id.1,
  )

unfoldable pub leading_send_part : List ℕ → Option (SendPart × List ℕ)
leading_send_part bytes = do
  windows ← leading_windows bytes
  progress ← leading_send_progress windows.1
  streams ← leading_list leading_outgoing_stream progress.1
  queued_messages ← leading_list leading_queued_part streams.1
  outstanding_data ← leading_list leading_outstanding_part queued_messages.1
  Some (
    record {
      next_tsn = windows.0.next_tsn;
      next_reset_req_sn = windows.0.next_reset_req_sn;
      cwnd = windows.0.cwnd;
      rwnd = windows.0.rwnd;
      ssthresh = progress.0.ssthresh;
      partial_bytes_acked = progress.0.partial_bytes_acked;
      last_cumulative_tsn_ack = progress.0.last_cumulative_tsn_ack;
      next_outgoing_message_id = progress.0.next_outgoing_message_id;
      streams = streams.0;
      queued_messages = queued_messages.0;
      outstanding_data = outstanding_data.0;
    },
    outstanding_data.1,
  )

-- ---- receiving

unfoldable pub leading_receive_numbers : List ℕ → Option (ReceiveNumbers × List ℕ)
leading_receive_numbers bytes = do
  seen_packet ← leading_flag bytes
  last_cumulative_acked_tsn ← number_of_width w32 seen_packet.1
  last_assembled_tsn ← number_of_width w32 last_cumulative_acked_tsn.1
  last_completed_deferred_reset_req_sn ← number_of_width w32 last_assembled_tsn.1
  last_completed_reset_req_sn ← number_of_width w32 last_completed_deferred_reset_req_sn.1
  Some (
    record {
      seen_packet = seen_packet.0;
      last_cumulative_acked_tsn = last_cumulative_acked_tsn.0;
      last_assembled_tsn = last_assembled_tsn.0;
      last_completed_deferred_reset_req_sn = last_completed_deferred_reset_req_sn.0;
      last_completed_reset_req_sn = last_completed_reset_req_sn.0;
    },
    last_completed_reset_req_sn.1,
  )

unfoldable pub leading_receive_part : List ℕ → Option (ReceivePart × List ℕ)
leading_receive_part bytes = do
  numbers ← leading_receive_numbers bytes
  ordered_streams ← leading_list leading_ordered_stream numbers.1
  unordered_streams ← leading_list leading_unordered_stream ordered_streams.1
  Some (
    record {
      seen_packet = numbers.0.seen_packet;
      last_cumulative_acked_tsn = numbers.0.last_cumulative_acked_tsn;
      last_assembled_tsn = numbers.0.last_assembled_tsn;
      last_completed_deferred_reset_req_sn = numbers.0.last_completed_deferred_reset_req_sn;
      last_completed_reset_req_sn = numbers.0.last_completed_reset_req_sn;
      ordered_streams = ordered_streams.0;
      unordered_streams = unordered_streams.0;
    },
    unordered_streams.1,
  )

-- ---- the whole

unfoldable pub leading_capabilities : List ℕ → Option (HandoverCapabilities × List ℕ)
leading_capabilities bytes = do
  partial_reliability ← leading_flag bytes
  message_interleaving ← leading_flag partial_reliability.1
  reconfig ← leading_flag message_interleaving.1
  zero_checksum ← leading_flag reconfig.1
  incoming ← number_of_width w16 zero_checksum.1
  outgoing ← number_of_width w16 incoming.1
  Some (
    record {
      partial_reliability = partial_reliability.0;
      message_interleaving = message_interleaving.0;
      reconfig = reconfig.0;
      zero_checksum = zero_checksum.0;
      negotiated_maximum_incoming_streams = incoming.0;
      negotiated_maximum_outgoing_streams = outgoing.0;
    },
    outgoing.1,
  )

unfoldable pub leading_tags : List ℕ → Option (Tags × List ℕ)
leading_tags bytes = do
  my_verification_tag ← number_of_width w32 bytes
  my_initial_tsn ← number_of_width w32 my_verification_tag.1
  peer_verification_tag ← number_of_width w32 my_initial_tsn.1
  peer_initial_tsn ← number_of_width w32 peer_verification_tag.1
  tie_tag ← number_of_width w64 peer_initial_tsn.1
  Some (
    record {
      my_verification_tag = my_verification_tag.0;
      my_initial_tsn = my_initial_tsn.0;
      peer_verification_tag = peer_verification_tag.0;
      peer_initial_tsn = peer_initial_tsn.0;
      tie_tag = tie_tag.0;
    },
    tie_tag.1,
  )

abbrev pub state_of : Bool → HandoverSocketState
state_of false = Closed
state_of true = Connected

-- what follows the magic and the version
unfoldable pub leading_content : List ℕ → Option (Snapshot × List ℕ)
leading_content bytes = do
  connected ← leading_flag bytes
  tags ← leading_tags connected.1
  capabilities ← leading_capabilities tags.1
  tx ← leading_send_part capabilities.1
  rx ← leading_receive_part tx.1
  Some (
    record {
      socket_state = state_of connected.0;
      my_verification_tag = tags.0.my_verification_tag;
      my_initial_tsn = tags.0.my_initial_tsn;
      peer_verification_tag = tags.0.peer_verification_tag;
      peer_initial_tsn = tags.0.peer_initial_tsn;
      tie_tag = tags.0.tie_tag;
      capabilities = capabilities.0;
      tx = tx.0;
      rx = rx.0;
    },
    rx.1,
  )

-- the version that follows the magic, and what follows that
unfoldable pub after_magic : List ℕ → Option (ℕ × List ℕ)
after_magic bytes = do
  first ← number_of_width w32 bytes
  second ← number_of_width w16 first.1
  if first.0 == snapshot_magic then Some (second.0, second.1) else None

-- The snapshot that the bytes are, all of them, in its version.
unfoldable pub read_snapshot : List ℕ → Option Snapshot
read_snapshot bytes = do
  header ← after_magic bytes
  content ← leading_content header.1
  if length content.1 == 0 && header.0 == version_of content.0 then Some content.0 else None
