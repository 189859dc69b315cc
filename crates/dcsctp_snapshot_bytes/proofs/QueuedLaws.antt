-- A message that waits: what is read of it was written so, and what was written is read again.
use Rattle.std.proofs.Common.{◌≡◌, ℕ, ◌^◌, ◌<◌, ◌++◌, List, Some, refl, subst, append_assoc, FitsSigned}
use Rattle.std.specs.Prelude.{IfSome}
use Rattle.std.specs.Int.{w16, w32, w64}
use Rattle.dcsctp_types.specs.SnapshotItems.{QueuedPart}
use Rattle.dcsctp_snapshot_bytes.specs.declared.queued.QueuedLimits.{QueuedLimits}
use Rattle.dcsctp_snapshot_bytes.specs.declared.queued.QueuedProgress.{QueuedProgress}
use Rattle.dcsctp_snapshot_bytes.specs.Fields.{number_bytes, signed_bytes, optional_bytes}
use Rattle.dcsctp_snapshot_bytes.specs.Fits.{FitsQueued}
use Rattle.dcsctp_snapshot_bytes.specs.Laws.{AreBytes}
use Rattle.dcsctp_snapshot_bytes.specs.Spelling.{queued_part_bytes}
use Rattle.dcsctp_snapshot_bytes.specs.ReadingItems.{leading_queued_part, leading_limits, leading_progress}
use Rattle.dcsctp_snapshot_bytes.proofs.FieldLaws.{Took, IsField, step, step_by, some_is, field16, field32, field64}
use Rattle.dcsctp_snapshot_bytes.proofs.ValueLaws.{signed_field, flag_field, payload_field, optional_field}

queued_again : (message : QueuedPart) (rest : List ℕ) → FitsQueued message → leading_queued_part (queued_part_bytes message ++ rest) ≡ Some (message, rest)
unfolding leading_queued_part leading_limits leading_progress queued_part_bytes
queued_again message rest fits = simp append_assoc (rw (
  field16.again _ _ fits.stream_id,
  field32.again _ _ fits.ppid,
  payload_field.again _ _ fits.payload,
  flag_field.again _ _ tt,
  (optional_field signed_field).again _ _ fits.expires_in_ms,
  field16.again _ _ fits.max_retransmissions,
  field64.again _ _ fits.lifecycle_id,
  field64.again _ _ fits.message_id,
  field64.again _ _ fits.remaining_offset,
  (optional_field field32).again _ _ fits.mid,
  (optional_field field16).again _ _ fits.ssn,
  field32.again _ _ fits.fsn,
) refl)

abbrev limits_bytes : QueuedLimits → List ℕ
limits_bytes limits = optional_bytes signed_bytes limits.expires_in_ms ++ number_bytes w16 limits.max_retransmissions ++ number_bytes w64 limits.lifecycle_id ++ number_bytes w64 limits.message_id

record FitsLimits (limits : QueuedLimits) : Type 0 where
  expires_in_ms : IfSome limits.expires_in_ms (FitsSigned w32)
  max_retransmissions : limits.max_retransmissions < 2 ^ 16
  lifecycle_id : limits.lifecycle_id < 2 ^ 64
  message_id : limits.message_id < 2 ^ 64

limits_takes : (bytes : List ℕ) (limits : QueuedLimits) (rest : List ℕ) → AreBytes bytes → leading_limits bytes ≡ Some (limits, rest) → Took limits_bytes FitsLimits bytes limits rest
unfolding leading_limits
limits_takes bytes limits rest fits e =
    step (optional_field signed_field) _ bytes _ fits e (λ expires_in_ms r1 p1 f1 b1 e1.
    step field16 _ r1 _ b1 e1 (λ max_retransmissions r2 p2 f2 b2 e2.
    step field64 _ r2 _ b2 e2 (λ lifecycle_id r3 p3 f3 b3 e3.
    step field64 _ r3 _ b3 e3 (λ message_id r4 p4 f4 b4 e4.
    subst (λ (x : QueuedLimits × List ℕ). Took limits_bytes FitsLimits bytes x.0 x.1) (some_is _ _ e4) (record {
      parts = rw (p1, p2, p3, p4) (simp append_assoc);
      fits = record { expires_in_ms = f1; max_retransmissions = f2; lifecycle_id = f3; message_id = f4 };
      rest_fits = b4;
    })))))

abbrev progress_bytes : QueuedProgress → List ℕ
progress_bytes progress = number_bytes w64 progress.remaining_offset ++ optional_bytes (number_bytes w32) progress.mid ++ optional_bytes (number_bytes w16) progress.ssn ++ number_bytes w32 progress.fsn

record FitsProgress (progress : QueuedProgress) : Type 0 where
  remaining_offset : progress.remaining_offset < 2 ^ 64
  mid : IfSome progress.mid (λ number. number < 2 ^ 32)
  ssn : IfSome progress.ssn (λ number. number < 2 ^ 16)
  fsn : progress.fsn < 2 ^ 32

progress_takes : (bytes : List ℕ) (progress : QueuedProgress) (rest : List ℕ) → AreBytes bytes → leading_progress bytes ≡ Some (progress, rest) → Took progress_bytes FitsProgress bytes progress rest
unfolding leading_progress
progress_takes bytes progress rest fits e =
    step field64 _ bytes _ fits e (λ remaining_offset r1 p1 f1 b1 e1.
    step (optional_field field32) _ r1 _ b1 e1 (λ mid r2 p2 f2 b2 e2.
    step (optional_field field16) _ r2 _ b2 e2 (λ ssn r3 p3 f3 b3 e3.
    step field32 _ r3 _ b3 e3 (λ fsn r4 p4 f4 b4 e4.
    subst (λ (x : QueuedProgress × List ℕ). Took progress_bytes FitsProgress bytes x.0 x.1) (some_is _ _ e4) (record {
      parts = rw (p1, p2, p3, p4) (simp append_assoc);
      fits = record { remaining_offset = f1; mid = f2; ssn = f3; fsn = f4 };
      rest_fits = b4;
    })))))

queued_takes : (bytes : List ℕ) (message : QueuedPart) (rest : List ℕ) → AreBytes bytes → leading_queued_part bytes ≡ Some (message, rest) → Took queued_part_bytes FitsQueued bytes message rest
unfolding leading_queued_part queued_part_bytes
queued_takes bytes message rest fits e =
    step field16 _ bytes _ fits e (λ stream_id r1 p1 f1 b1 e1.
    step field32 _ r1 _ b1 e1 (λ ppid r2 p2 f2 b2 e2.
    step payload_field _ r2 _ b2 e2 (λ payload r3 p3 f3 b3 e3.
    step flag_field _ r3 _ b3 e3 (λ unordered r4 p4 f4 b4 e4.
    step_by limits_takes _ r4 _ b4 e4 (λ limits r5 p5 f5 b5 e5.
    step_by progress_takes _ r5 _ b5 e5 (λ progress r6 p6 f6 b6 e6.
    subst (λ (x : QueuedPart × List ℕ). Took queued_part_bytes FitsQueued bytes x.0 x.1) (some_is _ _ e6) (record {
      parts = rw (p1, p2, p3, p4, p5, p6) (simp append_assoc);
      fits = record {
        stream_id = f1;
        ppid = f2;
        payload = f3;
        expires_in_ms = f5.expires_in_ms;
        max_retransmissions = f5.max_retransmissions;
        lifecycle_id = f5.lifecycle_id;
        message_id = f5.message_id;
        remaining_offset = f6.remaining_offset;
        mid = f6.mid;
        ssn = f6.ssn;
        fsn = f6.fsn;
      };
      rest_fits = b6;
    })))))))

pub queued_field : IsField queued_part_bytes leading_queued_part FitsQueued
queued_field = record { again = queued_again; takes = queued_takes }
