-- The elements of a snapshot's lists, read from the front of bytes, with what each leaves.
use Rattle.std.specs.Prelude.{ℕ, List, Option, Some}
use Rattle.std.specs.Int.{w16, w32, w64}
use Rattle.dcsctp_types.specs.declared.snapshot.HandoverOutgoingStream.{HandoverOutgoingStream}
use Rattle.dcsctp_types.specs.declared.snapshot.HandoverOrderedStream.{HandoverOrderedStream}
use Rattle.dcsctp_types.specs.declared.snapshot.HandoverUnorderedStream.{HandoverUnorderedStream}
use Rattle.dcsctp_types.specs.SnapshotItems.{QueuedPart, OutstandingPart}
use Rattle.dcsctp_snapshot_bytes.specs.declared.queued.QueuedLimits.{QueuedLimits}
use Rattle.dcsctp_snapshot_bytes.specs.declared.queued.QueuedProgress.{QueuedProgress}
use Rattle.dcsctp_snapshot_bytes.specs.declared.outstanding.FragmentNumbers.{FragmentNumbers}
use Rattle.dcsctp_snapshot_bytes.specs.declared.outstanding.FragmentFlags.{FragmentFlags}
use Rattle.dcsctp_snapshot_bytes.specs.declared.outstanding.FragmentLimits.{FragmentLimits}
use Rattle.dcsctp_snapshot_bytes.specs.declared.outstanding.FragmentFate.{FragmentFate}
use Rattle.dcsctp_snapshot_bytes.specs.Fields.{◌>>=◌, number_of_width, leading_signed, leading_flag, leading_payload, leading_optional}

-- ---- a message that waits, or of which a part was sent

unfoldable pub leading_limits : List ℕ → Option (QueuedLimits × List ℕ)
leading_limits bytes = do
  expires_in_ms ← leading_optional leading_signed bytes
  max_retransmissions ← number_of_width w16 expires_in_ms.1
  lifecycle_id ← number_of_width w64 max_retransmissions.1
  message_id ← number_of_width w64 lifecycle_id.1
  Some (
    record {
      expires_in_ms = expires_in_ms.0;
      max_retransmissions = max_retransmissions.0;
      lifecycle_id = lifecycle_id.0;
      message_id = message_id.0;
    },
    message_id.1,
  )

unfoldable pub leading_progress : List ℕ → Option (QueuedProgress × List ℕ)
leading_progress bytes = do
  remaining_offset ← number_of_width w64 bytes
  mid ← leading_optional (number_of_width w32) remaining_offset.1
  ssn ← leading_optional (number_of_width w16) mid.1
  fsn ← number_of_width w32 ssn.1
  Some (record { remaining_offset = remaining_offset.0; mid = mid.0; ssn = ssn.0; fsn = fsn.0 }, fsn.1)

unfoldable pub leading_queued_part : List ℕ → Option (QueuedPart × List ℕ)
leading_queued_part bytes = do
  stream_id ← number_of_width w16 bytes
  ppid ← number_of_width w32 stream_id.1
  payload ← leading_payload ppid.1
  unordered ← leading_flag payload.1
  limits ← leading_limits unordered.1
  progress ← leading_progress limits.1
  Some (
    record {
      stream_id = stream_id.0;
      ppid = ppid.0;
      payload = payload.0;
      unordered = unordered.0;
      expires_in_ms = limits.0.expires_in_ms;
      max_retransmissions = limits.0.max_retransmissions;
      lifecycle_id = limits.0.lifecycle_id;
      message_id = limits.0.message_id;
      remaining_offset = progress.0.remaining_offset;
      mid = progress.0.mid;
      ssn = progress.0.ssn;
      fsn = progress.0.fsn;
    },
    progress.1,
  )

-- ---- what was sent under one TSN

unfoldable pub leading_fragment_numbers : List ℕ → Option (FragmentNumbers × List ℕ)
leading_fragment_numbers bytes = do
  stream_id ← number_of_width w16 bytes
  ssn ← number_of_width w16 stream_id.1
  mid ← number_of_width w32 ssn.1
  fsn ← number_of_width w32 mid.1
  ppid ← number_of_width w32 fsn.1
  Some (record { stream_id = stream_id.0; ssn = ssn.0; mid = mid.0; fsn = fsn.0; ppid = ppid.0 }, ppid.1)

unfoldable pub leading_fragment_flags : List ℕ → Option (FragmentFlags × List ℕ)
leading_fragment_flags bytes = do
  is_beginning ← leading_flag bytes
  is_end ← leading_flag is_beginning.1
  is_unordered ← leading_flag is_end.1
  Some (record { is_beginning = is_beginning.0; is_end = is_end.0; is_unordered = is_unordered.0 }, is_unordered.1)

unfoldable pub leading_fragment_limits : List ℕ → Option (FragmentLimits × List ℕ)
leading_fragment_limits bytes = do
  message_id ← number_of_width w64 bytes
  lifecycle_id ← number_of_width w64 message_id.1
  expires_in_ms ← leading_optional leading_signed lifecycle_id.1
  max_retransmissions ← number_of_width w16 expires_in_ms.1
  Some (
    record {
      message_id = message_id.0;
      lifecycle_id = lifecycle_id.0;
      expires_in_ms = expires_in_ms.0;
      max_retransmissions = max_retransmissions.0;
    },
    max_retransmissions.1,
  )

unfoldable pub leading_fragment_fate : List ℕ → Option (FragmentFate × List ℕ)
leading_fragment_fate bytes = do
  acked ← leading_flag bytes
  is_abandoned ← leading_flag acked.1
  is_nacked ← leading_flag is_abandoned.1
  is_to_be_retransmitted ← leading_flag is_nacked.1
  Some (
    record {
      acked = acked.0;
      is_abandoned = is_abandoned.0;
      is_nacked = is_nacked.0;
      is_to_be_retransmitted = is_to_be_retransmitted.0;
    },
    is_to_be_retransmitted.1,
  )

unfoldable pub leading_outstanding_part : List ℕ → Option (OutstandingPart × List ℕ)
leading_outstanding_part bytes = do
  numbers ← leading_fragment_numbers bytes
  payload ← leading_payload numbers.1
  flags ← leading_fragment_flags payload.1
  limits ← leading_fragment_limits flags.1
  retransmission_count ← number_of_width w16 limits.1
  time_since_sent_ms ← leading_signed retransmission_count.1
  fate ← leading_fragment_fate time_since_sent_ms.1
  Some (
    record {
      stream_id = numbers.0.stream_id;
      ssn = numbers.0.ssn;
      mid = numbers.0.mid;
      fsn = numbers.0.fsn;
      ppid = numbers.0.ppid;
      payload = payload.0;
      is_beginning = flags.0.is_beginning;
      is_end = flags.0.is_end;
      is_unordered = flags.0.is_unordered;
      message_id = limits.0.message_id;
      lifecycle_id = limits.0.lifecycle_id;
      expires_in_ms = limits.0.expires_in_ms;
      max_retransmissions = limits.0.max_retransmissions;
      retransmission_count = retransmission_count.0;
      time_since_sent_ms = time_since_sent_ms.0;
      acked = fate.0.acked;
      is_abandoned = fate.0.is_abandoned;
      is_nacked = fate.0.is_nacked;
      is_to_be_retransmitted = fate.0.is_to_be_retransmitted;
    },
    fate.1,
  )

-- ---- streams

unfoldable pub leading_outgoing_stream : List ℕ → Option (HandoverOutgoingStream × List ℕ)
leading_outgoing_stream bytes = do
  id ← number_of_width w16 bytes
  next_ssn ← number_of_width w16 id.1
  next_unordered_mid ← number_of_width w32 next_ssn.1
  next_ordered_mid ← number_of_width w32 next_unordered_mid.1
  priority ← number_of_width w16 next_ordered_mid.1
  Some (
    record {
      id = id.0;
      next_ssn = next_ssn.0;
      next_unordered_mid = next_unordered_mid.0;
      next_ordered_mid = next_ordered_mid.0;
      priority = priority.0;
    },
    priority.1,
  )

unfoldable pub leading_ordered_stream : List ℕ → Option (HandoverOrderedStream × List ℕ)
leading_ordered_stream bytes = do
  id ← number_of_width w16 bytes
  next_ssn ← number_of_width w32 id.1
  Some (record { id = id.0; next_ssn = next_ssn.0 }, next_ssn.1)

unfoldable pub leading_unordered_stream : List ℕ → Option (HandoverUnorderedStream × List ℕ)
leading_unordered_stream bytes = do
  id ← number_of_width w16 bytes
  Some (record { id = id.0 }, id.1)
