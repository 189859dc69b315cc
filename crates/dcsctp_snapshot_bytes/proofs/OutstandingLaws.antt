-- What was sent under one TSN: what is read of it was written so, and what was written is read again.
use Rattle.std.proofs.Common.{◌≡◌, ℕ, ◌^◌, ◌<◌, ◌++◌, List, Some, refl, subst, append_assoc, FitsSigned}
use Rattle.std.specs.Prelude.{IfSome}
use Rattle.std.specs.Int.{w16, w32, w64}
use Rattle.dcsctp_types.specs.SnapshotItems.{OutstandingPart}
use Rattle.dcsctp_snapshot_bytes.specs.declared.outstanding.FragmentNumbers.{FragmentNumbers}
use Rattle.dcsctp_snapshot_bytes.specs.declared.outstanding.FragmentFlags.{FragmentFlags}
use Rattle.dcsctp_snapshot_bytes.specs.declared.outstanding.FragmentLimits.{FragmentLimits}
use Rattle.dcsctp_snapshot_bytes.specs.declared.outstanding.FragmentFate.{FragmentFate}
use Rattle.dcsctp_snapshot_bytes.specs.Fields.{number_bytes, signed_bytes, flag_bytes, optional_bytes}
use Rattle.dcsctp_snapshot_bytes.specs.Fits.{FitsOutstanding}
use Rattle.dcsctp_snapshot_bytes.specs.Laws.{AreBytes}
use Rattle.dcsctp_snapshot_bytes.specs.Spelling.{fragment_bytes, sending_bytes, outstanding_bytes}
use Rattle.dcsctp_snapshot_bytes.specs.ReadingItems.{leading_outstanding_part, leading_fragment_numbers, leading_fragment_flags, leading_fragment_limits, leading_fragment_fate}
use Rattle.dcsctp_snapshot_bytes.proofs.FieldLaws.{Took, IsField, step, step_by, some_is, field16, field32, field64}
use Rattle.dcsctp_snapshot_bytes.proofs.ValueLaws.{signed_field, flag_field, payload_field, optional_field}

outstanding_again : (sent : OutstandingPart) (rest : List ℕ) → FitsOutstanding sent → leading_outstanding_part (outstanding_bytes sent ++ rest) ≡ Some (sent, rest)
unfolding leading_outstanding_part leading_fragment_numbers leading_fragment_flags leading_fragment_limits leading_fragment_fate outstanding_bytes fragment_bytes sending_bytes
outstanding_again sent rest fits = simp append_assoc (rw (
  field16.again _ _ fits.fragment.stream_id,
  field16.again _ _ fits.fragment.ssn,
  field32.again _ _ fits.fragment.mid,
  field32.again _ _ fits.fragment.fsn,
  field32.again _ _ fits.fragment.ppid,
  payload_field.again _ _ fits.fragment.payload,
  flag_field.again sent.is_beginning _ tt,
  flag_field.again sent.is_end _ tt,
  flag_field.again sent.is_unordered _ tt,
  field64.again _ _ fits.sending.message_id,
  field64.again _ _ fits.sending.lifecycle_id,
  (optional_field signed_field).again _ _ fits.sending.expires_in_ms,
  field16.again _ _ fits.sending.max_retransmissions,
  field16.again _ _ fits.sending.retransmission_count,
  signed_field.again _ _ fits.sending.time_since_sent_ms,
  flag_field.again sent.acked _ tt,
  flag_field.again sent.is_abandoned _ tt,
  flag_field.again sent.is_nacked _ tt,
  flag_field.again sent.is_to_be_retransmitted _ tt,
) refl)

-- ---- its parts

abbrev numbers_bytes : FragmentNumbers → List ℕ
numbers_bytes numbers = number_bytes w16 numbers.stream_id ++ number_bytes w16 numbers.ssn ++ number_bytes w32 numbers.mid ++ number_bytes w32 numbers.fsn ++ number_bytes w32 numbers.ppid

record FitsNumbers (numbers : FragmentNumbers) : Type 0 where
  stream_id : numbers.stream_id < 2 ^ 16
  ssn : numbers.ssn < 2 ^ 16
  mid : numbers.mid < 2 ^ 32
  fsn : numbers.fsn < 2 ^ 32
  ppid : numbers.ppid < 2 ^ 32

numbers_take : (bytes : List ℕ) (numbers : FragmentNumbers) (rest : List ℕ) → AreBytes bytes → leading_fragment_numbers bytes ≡ Some (numbers, rest) → Took numbers_bytes FitsNumbers bytes numbers rest
unfolding leading_fragment_numbers
numbers_take bytes numbers rest fits e =
    step field16 _ bytes _ fits e (λ stream_id r1 p1 f1 b1 e1.
    step field16 _ r1 _ b1 e1 (λ ssn r2 p2 f2 b2 e2.
    step field32 _ r2 _ b2 e2 (λ mid r3 p3 f3 b3 e3.
    step field32 _ r3 _ b3 e3 (λ fsn r4 p4 f4 b4 e4.
    step field32 _ r4 _ b4 e4 (λ ppid r5 p5 f5 b5 e5.
    subst (λ (x : FragmentNumbers × List ℕ). Took numbers_bytes FitsNumbers bytes x.0 x.1) (some_is _ _ e5) (record {
      parts = rw (p1, p2, p3, p4, p5) (simp append_assoc);
      fits = record { stream_id = f1; ssn = f2; mid = f3; fsn = f4; ppid = f5 };
      rest_fits = b5;
    }))))))

abbrev flags_bytes : FragmentFlags → List ℕ
flags_bytes flags = flag_bytes flags.is_beginning ++ flag_bytes flags.is_end ++ flag_bytes flags.is_unordered

abbrev any_flags : FragmentFlags → Type 0
any_flags flags = Unit {0}

flags_take : (bytes : List ℕ) (flags : FragmentFlags) (rest : List ℕ) → AreBytes bytes → leading_fragment_flags bytes ≡ Some (flags, rest) → Took flags_bytes any_flags bytes flags rest
unfolding leading_fragment_flags
flags_take bytes flags rest fits e =
    step flag_field _ bytes _ fits e (λ is_beginning r1 p1 f1 b1 e1.
    step flag_field _ r1 _ b1 e1 (λ is_end r2 p2 f2 b2 e2.
    step flag_field _ r2 _ b2 e2 (λ is_unordered r3 p3 f3 b3 e3.
    subst (λ (x : FragmentFlags × List ℕ). Took flags_bytes any_flags bytes x.0 x.1) (some_is _ _ e3) (record {
      parts = rw (p1, p2, p3) (simp append_assoc);
      fits = tt;
      rest_fits = b3;
    }))))

abbrev limits_bytes : FragmentLimits → List ℕ
limits_bytes limits = number_bytes w64 limits.message_id ++ number_bytes w64 limits.lifecycle_id ++ optional_bytes signed_bytes limits.expires_in_ms ++ number_bytes w16 limits.max_retransmissions

record FitsLimits (limits : FragmentLimits) : Type 0 where
  message_id : limits.message_id < 2 ^ 64
  lifecycle_id : limits.lifecycle_id < 2 ^ 64
  expires_in_ms : IfSome limits.expires_in_ms (FitsSigned w32)
  max_retransmissions : limits.max_retransmissions < 2 ^ 16

limits_take : (bytes : List ℕ) (limits : FragmentLimits) (rest : List ℕ) → AreBytes bytes → leading_fragment_limits bytes ≡ Some (limits, rest) → Took limits_bytes FitsLimits bytes limits rest
unfolding leading_fragment_limits
limits_take bytes limits rest fits e =
    step field64 _ bytes _ fits e (λ message_id r1 p1 f1 b1 e1.
    step field64 _ r1 _ b1 e1 (λ lifecycle_id r2 p2 f2 b2 e2.
    step (optional_field signed_field) _ r2 _ b2 e2 (λ expires_in_ms r3 p3 f3 b3 e3.
    step field16 _ r3 _ b3 e3 (λ max_retransmissions r4 p4 f4 b4 e4.
    subst (λ (x : FragmentLimits × List ℕ). Took limits_bytes FitsLimits bytes x.0 x.1) (some_is _ _ e4) (record {
      parts = rw (p1, p2, p3, p4) (simp append_assoc);
      fits = record { message_id = f1; lifecycle_id = f2; expires_in_ms = f3; max_retransmissions = f4 };
      rest_fits = b4;
    })))))

abbrev fate_bytes : FragmentFate → List ℕ
fate_bytes fate = flag_bytes fate.acked ++ flag_bytes fate.is_abandoned ++ flag_bytes fate.is_nacked ++ flag_bytes fate.is_to_be_retransmitted

abbrev any_fate : FragmentFate → Type 0
any_fate fate = Unit {0}

fate_takes : (bytes : List ℕ) (fate : FragmentFate) (rest : List ℕ) → AreBytes bytes → leading_fragment_fate bytes ≡ Some (fate, rest) → Took fate_bytes any_fate bytes fate rest
unfolding leading_fragment_fate
fate_takes bytes fate rest fits e =
    step flag_field _ bytes _ fits e (λ acked r1 p1 f1 b1 e1.
    step flag_field _ r1 _ b1 e1 (λ is_abandoned r2 p2 f2 b2 e2.
    step flag_field _ r2 _ b2 e2 (λ is_nacked r3 p3 f3 b3 e3.
    step flag_field _ r3 _ b3 e3 (λ is_to_be_retransmitted r4 p4 f4 b4 e4.
    subst (λ (x : FragmentFate × List ℕ). Took fate_bytes any_fate bytes x.0 x.1) (some_is _ _ e4) (record {
      parts = rw (p1, p2, p3, p4) (simp append_assoc);
      fits = tt;
      rest_fits = b4;
    })))))

-- ---- the whole

outstanding_takes : (bytes : List ℕ) (sent : OutstandingPart) (rest : List ℕ) → AreBytes bytes → leading_outstanding_part bytes ≡ Some (sent, rest) → Took outstanding_bytes FitsOutstanding bytes sent rest
unfolding leading_outstanding_part outstanding_bytes fragment_bytes sending_bytes
outstanding_takes bytes sent rest fits e =
    step_by numbers_take _ bytes _ fits e (λ numbers r1 p1 f1 b1 e1.
    step payload_field _ r1 _ b1 e1 (λ payload r2 p2 f2 b2 e2.
    step_by flags_take _ r2 _ b2 e2 (λ flags r3 p3 f3 b3 e3.
    step_by limits_take _ r3 _ b3 e3 (λ limits r4 p4 f4 b4 e4.
    step field16 _ r4 _ b4 e4 (λ retransmission_count r5 p5 f5 b5 e5.
    step signed_field _ r5 _ b5 e5 (λ time_since_sent_ms r6 p6 f6 b6 e6.
    step_by fate_takes _ r6 _ b6 e6 (λ fate r7 p7 f7 b7 e7.
    subst (λ (x : OutstandingPart × List ℕ). Took outstanding_bytes FitsOutstanding bytes x.0 x.1) (some_is _ _ e7) (record {
      parts = rw (p1, p2, p3, p4, p5, p6, p7) (simp append_assoc);
      fits = record {
        fragment = record { stream_id = f1.stream_id; ssn = f1.ssn; mid = f1.mid; fsn = f1.fsn; ppid = f1.ppid; payload = f2 };
        sending = record {
          message_id = f4.message_id;
          lifecycle_id = f4.lifecycle_id;
          expires_in_ms = f4.expires_in_ms;
          max_retransmissions = f4.max_retransmissions;
          retransmission_count = f5;
          time_since_sent_ms = f6;
        };
      };
      rest_fits = b7;
    }))))))))

pub outstanding_field : IsField outstanding_bytes leading_outstanding_part FitsOutstanding
outstanding_field = record { again = outstanding_again; takes = outstanding_takes }
