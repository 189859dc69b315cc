-- The parts of a snapshot: what is read of each was written so, and what was written is read again.
use Rattle.std.proofs.Common.{◌≡◌, ℕ, ◌^◌, ◌<◌, ◌++◌, List, Some, refl, subst, append_assoc}
use Rattle.std.specs.Int.{w32, w64}
use Rattle.dcsctp_types.specs.declared.snapshot.HandoverCapabilities.{HandoverCapabilities}
use Rattle.dcsctp_types.specs.Snapshot.{SendPart, ReceivePart}
use Rattle.dcsctp_snapshot_bytes.specs.declared.transmission.SendWindows.{SendWindows}
use Rattle.dcsctp_snapshot_bytes.specs.declared.transmission.SendProgress.{SendProgress}
use Rattle.dcsctp_snapshot_bytes.specs.declared.receive.ReceiveNumbers.{ReceiveNumbers}
use Rattle.dcsctp_snapshot_bytes.specs.Fields.{number_bytes, flag_bytes}
use Rattle.dcsctp_snapshot_bytes.specs.Fits.{FitsSend, FitsReceived, FitsCapabilities}
use Rattle.dcsctp_snapshot_bytes.specs.Laws.{AreBytes}
use Rattle.dcsctp_snapshot_bytes.specs.Spelling.{send_bytes, received_bytes, capabilities_bytes}
use Rattle.dcsctp_snapshot_bytes.specs.Reading.{leading_windows, leading_send_progress, leading_send_part, leading_receive_numbers, leading_receive_part, leading_capabilities}
use Rattle.dcsctp_snapshot_bytes.proofs.FieldLaws.{Took, IsField, step, step_by, some_is, field16, field32, field64}
use Rattle.dcsctp_snapshot_bytes.proofs.ValueLaws.{flag_field, list_field}
use Rattle.dcsctp_snapshot_bytes.proofs.QueuedLaws.{queued_field}
use Rattle.dcsctp_snapshot_bytes.proofs.OutstandingLaws.{outstanding_field}
use Rattle.dcsctp_snapshot_bytes.proofs.StreamLaws.{outgoing_field, ordered_field, unordered_field}

-- ---- sending

send_again : (tx : SendPart) (rest : List ℕ) → FitsSend tx → leading_send_part (send_bytes tx ++ rest) ≡ Some (tx, rest)
unfolding leading_send_part leading_windows leading_send_progress send_bytes
send_again tx rest fits = simp append_assoc (rw (
  field32.again _ _ fits.next_tsn,
  field32.again _ _ fits.next_reset_req_sn,
  field32.again _ _ fits.cwnd,
  field32.again _ _ fits.rwnd,
  field32.again _ _ fits.ssthresh,
  field32.again _ _ fits.partial_bytes_acked,
  field32.again _ _ fits.last_cumulative_tsn_ack,
  field64.again _ _ fits.next_outgoing_message_id,
  (list_field outgoing_field).again _ _ fits.streams,
  (list_field queued_field).again _ _ fits.queued_messages,
  (list_field outstanding_field).again _ _ fits.outstanding_data,
) refl)

abbrev windows_bytes : SendWindows → List ℕ
windows_bytes windows = number_bytes w32 windows.next_tsn ++ number_bytes w32 windows.next_reset_req_sn ++ number_bytes w32 windows.cwnd ++ number_bytes w32 windows.rwnd

record FitsWindows (windows : SendWindows) : Type 0 where
  next_tsn : windows.next_tsn < 2 ^ 32
  next_reset_req_sn : windows.next_reset_req_sn < 2 ^ 32
  cwnd : windows.cwnd < 2 ^ 32
  rwnd : windows.rwnd < 2 ^ 32

windows_take : (bytes : List ℕ) (windows : SendWindows) (rest : List ℕ) → AreBytes bytes → leading_windows bytes ≡ Some (windows, rest) → Took windows_bytes FitsWindows bytes windows rest
unfolding leading_windows
windows_take bytes windows rest fits e =
    step field32 _ bytes _ fits e (λ next_tsn r1 p1 f1 b1 e1.
    step field32 _ r1 _ b1 e1 (λ next_reset_req_sn r2 p2 f2 b2 e2.
    step field32 _ r2 _ b2 e2 (λ cwnd r3 p3 f3 b3 e3.
    step field32 _ r3 _ b3 e3 (λ rwnd r4 p4 f4 b4 e4.
    subst (λ (x : SendWindows × List ℕ). Took windows_bytes FitsWindows bytes x.0 x.1) (some_is _ _ e4) (record {
      parts = rw (p1, p2, p3, p4) (simp append_assoc);
      fits = record { next_tsn = f1; next_reset_req_sn = f2; cwnd = f3; rwnd = f4 };
      rest_fits = b4;
    })))))

abbrev progress_bytes : SendProgress → List ℕ
progress_bytes progress =
    number_bytes w32 progress.ssthresh ++ number_bytes w32 progress.partial_bytes_acked ++ number_bytes w32 progress.last_cumulative_tsn_ack ++ number_bytes w64 progress.next_outgoing_message_id

record FitsProgress (progress : SendProgress) : Type 0 where
  ssthresh : progress.ssthresh < 2 ^ 32
  partial_bytes_acked : progress.partial_bytes_acked < 2 ^ 32
  last_cumulative_tsn_ack : progress.last_cumulative_tsn_ack < 2 ^ 32
  next_outgoing_message_id : progress.next_outgoing_message_id < 2 ^ 64

progress_takes : (bytes : List ℕ) (progress : SendProgress) (rest : List ℕ) → AreBytes bytes → leading_send_progress bytes ≡ Some (progress, rest) → Took progress_bytes FitsProgress bytes progress rest
unfolding leading_send_progress
progress_takes bytes progress rest fits e =
    step field32 _ bytes _ fits e (λ ssthresh r1 p1 f1 b1 e1.
    step field32 _ r1 _ b1 e1 (λ partial_bytes_acked r2 p2 f2 b2 e2.
    step field32 _ r2 _ b2 e2 (λ last_cumulative_tsn_ack r3 p3 f3 b3 e3.
    step field64 _ r3 _ b3 e3 (λ next_outgoing_message_id r4 p4 f4 b4 e4.
    subst (λ (x : SendProgress × List ℕ). Took progress_bytes FitsProgress bytes x.0 x.1) (some_is _ _ e4) (record {
      parts = rw (p1, p2, p3, p4) (simp append_assoc);
      fits = record { ssthresh = f1; partial_bytes_acked = f2; last_cumulative_tsn_ack = f3; next_outgoing_message_id = f4 };
      rest_fits = b4;
    })))))

send_takes : (bytes : List ℕ) (tx : SendPart) (rest : List ℕ) → AreBytes bytes → leading_send_part bytes ≡ Some (tx, rest) → Took send_bytes FitsSend bytes tx rest
unfolding leading_send_part send_bytes
send_takes bytes tx rest fits e =
    step_by windows_take _ bytes _ fits e (λ windows r1 p1 f1 b1 e1.
    step_by progress_takes _ r1 _ b1 e1 (λ progress r2 p2 f2 b2 e2.
    step (list_field outgoing_field) _ r2 _ b2 e2 (λ streams r3 p3 f3 b3 e3.
    step (list_field queued_field) _ r3 _ b3 e3 (λ queued_messages r4 p4 f4 b4 e4.
    step (list_field outstanding_field) _ r4 _ b4 e4 (λ outstanding_data r5 p5 f5 b5 e5.
    subst (λ (x : SendPart × List ℕ). Took send_bytes FitsSend bytes x.0 x.1) (some_is _ _ e5) (record {
      parts = rw (p1, p2, p3, p4, p5) (simp append_assoc);
      fits = record {
        next_tsn = f1.next_tsn;
        next_reset_req_sn = f1.next_reset_req_sn;
        cwnd = f1.cwnd;
        rwnd = f1.rwnd;
        ssthresh = f2.ssthresh;
        partial_bytes_acked = f2.partial_bytes_acked;
        last_cumulative_tsn_ack = f2.last_cumulative_tsn_ack;
        next_outgoing_message_id = f2.next_outgoing_message_id;
        streams = f3;
        queued_messages = f4;
        outstanding_data = f5;
      };
      rest_fits = b5;
    }))))))

pub send_field : IsField send_bytes leading_send_part FitsSend
send_field = record { again = send_again; takes = send_takes }

-- ---- receiving

received_again : (rx : ReceivePart) (rest : List ℕ) → FitsReceived rx → leading_receive_part (received_bytes rx ++ rest) ≡ Some (rx, rest)
unfolding leading_receive_part leading_receive_numbers received_bytes
received_again rx rest fits = simp append_assoc (rw (
  flag_field.again _ _ tt,
  field32.again _ _ fits.last_cumulative_acked_tsn,
  field32.again _ _ fits.last_assembled_tsn,
  field32.again _ _ fits.last_completed_deferred_reset_req_sn,
  field32.again _ _ fits.last_completed_reset_req_sn,
  (list_field ordered_field).again _ _ fits.ordered_streams,
  (list_field unordered_field).again _ _ fits.unordered_streams,
) refl)

abbrev numbers_bytes : ReceiveNumbers → List ℕ
numbers_bytes numbers =
    flag_bytes numbers.seen_packet ++ number_bytes w32 numbers.last_cumulative_acked_tsn ++ number_bytes w32 numbers.last_assembled_tsn
    ++ number_bytes w32 numbers.last_completed_deferred_reset_req_sn ++ number_bytes w32 numbers.last_completed_reset_req_sn

record FitsNumbers (numbers : ReceiveNumbers) : Type 0 where
  last_cumulative_acked_tsn : numbers.last_cumulative_acked_tsn < 2 ^ 32
  last_assembled_tsn : numbers.last_assembled_tsn < 2 ^ 32
  last_completed_deferred_reset_req_sn : numbers.last_completed_deferred_reset_req_sn < 2 ^ 32
  last_completed_reset_req_sn : numbers.last_completed_reset_req_sn < 2 ^ 32

numbers_take : (bytes : List ℕ) (numbers : ReceiveNumbers) (rest : List ℕ) → AreBytes bytes → leading_receive_numbers bytes ≡ Some (numbers, rest) → Took numbers_bytes FitsNumbers bytes numbers rest
unfolding leading_receive_numbers
numbers_take bytes numbers rest fits e =
    step flag_field _ bytes _ fits e (λ seen_packet r1 p1 f1 b1 e1.
    step field32 _ r1 _ b1 e1 (λ last_cumulative_acked_tsn r2 p2 f2 b2 e2.
    step field32 _ r2 _ b2 e2 (λ last_assembled_tsn r3 p3 f3 b3 e3.
    step field32 _ r3 _ b3 e3 (λ last_completed_deferred_reset_req_sn r4 p4 f4 b4 e4.
    step field32 _ r4 _ b4 e4 (λ last_completed_reset_req_sn r5 p5 f5 b5 e5.
    subst (λ (x : ReceiveNumbers × List ℕ). Took numbers_bytes FitsNumbers bytes x.0 x.1) (some_is _ _ e5) (record {
      parts = rw (p1, p2, p3, p4, p5) (simp append_assoc);
      fits = record {
        last_cumulative_acked_tsn = f2;
        last_assembled_tsn = f3;
        last_completed_deferred_reset_req_sn = f4;
        last_completed_reset_req_sn = f5;
      };
      rest_fits = b5;
    }))))))

received_takes : (bytes : List ℕ) (rx : ReceivePart) (rest : List ℕ) → AreBytes bytes → leading_receive_part bytes ≡ Some (rx, rest) → Took received_bytes FitsReceived bytes rx rest
unfolding leading_receive_part received_bytes
received_takes bytes rx rest fits e =
    step_by numbers_take _ bytes _ fits e (λ numbers r1 p1 f1 b1 e1.
    step (list_field ordered_field) _ r1 _ b1 e1 (λ ordered_streams r2 p2 f2 b2 e2.
    step (list_field unordered_field) _ r2 _ b2 e2 (λ unordered_streams r3 p3 f3 b3 e3.
    subst (λ (x : ReceivePart × List ℕ). Took received_bytes FitsReceived bytes x.0 x.1) (some_is _ _ e3) (record {
      parts = rw (p1, p2, p3) (simp append_assoc);
      fits = record {
        last_cumulative_acked_tsn = f1.last_cumulative_acked_tsn;
        last_assembled_tsn = f1.last_assembled_tsn;
        last_completed_deferred_reset_req_sn = f1.last_completed_deferred_reset_req_sn;
        last_completed_reset_req_sn = f1.last_completed_reset_req_sn;
        ordered_streams = f2;
        unordered_streams = f3;
      };
      rest_fits = b3;
    }))))

pub received_field : IsField received_bytes leading_receive_part FitsReceived
received_field = record { again = received_again; takes = received_takes }

-- ---- what both ends support

capabilities_again : (capabilities : HandoverCapabilities) (rest : List ℕ) → FitsCapabilities capabilities → leading_capabilities (capabilities_bytes capabilities ++ rest) ≡ Some (capabilities, rest)
unfolding leading_capabilities capabilities_bytes
capabilities_again capabilities rest fits = simp append_assoc (rw (
  flag_field.again capabilities.partial_reliability _ tt,
  flag_field.again capabilities.message_interleaving _ tt,
  flag_field.again capabilities.reconfig _ tt,
  flag_field.again capabilities.zero_checksum _ tt,
  field16.again _ _ fits.negotiated_maximum_incoming_streams,
  field16.again _ _ fits.negotiated_maximum_outgoing_streams,
) refl)

capabilities_take : (bytes : List ℕ) (capabilities : HandoverCapabilities) (rest : List ℕ) → AreBytes bytes → leading_capabilities bytes ≡ Some (capabilities, rest) → Took capabilities_bytes FitsCapabilities bytes capabilities rest
unfolding leading_capabilities capabilities_bytes
capabilities_take bytes capabilities rest fits e =
    step flag_field _ bytes _ fits e (λ partial_reliability r1 p1 f1 b1 e1.
    step flag_field _ r1 _ b1 e1 (λ message_interleaving r2 p2 f2 b2 e2.
    step flag_field _ r2 _ b2 e2 (λ reconfig r3 p3 f3 b3 e3.
    step flag_field _ r3 _ b3 e3 (λ zero_checksum r4 p4 f4 b4 e4.
    step field16 _ r4 _ b4 e4 (λ incoming r5 p5 f5 b5 e5.
    step field16 _ r5 _ b5 e5 (λ outgoing r6 p6 f6 b6 e6.
    subst (λ (x : HandoverCapabilities × List ℕ). Took capabilities_bytes FitsCapabilities bytes x.0 x.1) (some_is _ _ e6) (record {
      parts = rw (p1, p2, p3, p4, p5, p6) (simp append_assoc);
      fits = record { negotiated_maximum_incoming_streams = f5; negotiated_maximum_outgoing_streams = f6 };
      rest_fits = b6;
    })))))))

pub capabilities_field : IsField capabilities_bytes leading_capabilities FitsCapabilities
capabilities_field = record { again = capabilities_again; takes = capabilities_take }
