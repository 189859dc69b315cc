-- Streams: what is read of each was written so, and what was written is read again.
use Rattle.std.proofs.Common.{◌≡◌, ℕ, ◌++◌, List, Some, refl, subst, append_assoc}
use Rattle.dcsctp_types.specs.declared.snapshot.HandoverOutgoingStream.{HandoverOutgoingStream}
use Rattle.dcsctp_types.specs.declared.snapshot.HandoverOrderedStream.{HandoverOrderedStream}
use Rattle.dcsctp_types.specs.declared.snapshot.HandoverUnorderedStream.{HandoverUnorderedStream}
use Rattle.dcsctp_snapshot_bytes.specs.Fits.{FitsOutgoing, FitsOrdered, FitsUnordered}
use Rattle.dcsctp_snapshot_bytes.specs.Laws.{AreBytes}
use Rattle.dcsctp_snapshot_bytes.specs.Spelling.{outgoing_bytes, ordered_bytes, unordered_bytes}
use Rattle.dcsctp_snapshot_bytes.specs.ReadingItems.{leading_outgoing_stream, leading_ordered_stream, leading_unordered_stream}
use Rattle.dcsctp_snapshot_bytes.proofs.FieldLaws.{Took, IsField, step, some_is, field16, field32}

-- ---- a stream that messages are sent by

outgoing_again : (stream : HandoverOutgoingStream) (rest : List ℕ) → FitsOutgoing stream → leading_outgoing_stream (outgoing_bytes stream ++ rest) ≡ Some (stream, rest)
unfolding leading_outgoing_stream outgoing_bytes
outgoing_again stream rest fits = simp append_assoc (rw (
  field16.again _ _ fits.id,
  field16.again _ _ fits.next_ssn,
  field32.again _ _ fits.next_unordered_mid,
  field32.again _ _ fits.next_ordered_mid,
  field16.again _ _ fits.priority,
) refl)

outgoing_takes : (bytes : List ℕ) (stream : HandoverOutgoingStream) (rest : List ℕ) → AreBytes bytes → leading_outgoing_stream bytes ≡ Some (stream, rest) → Took outgoing_bytes FitsOutgoing bytes stream rest
unfolding leading_outgoing_stream outgoing_bytes
outgoing_takes bytes stream rest fits e =
    step field16 _ bytes _ fits e (λ id r1 p1 f1 b1 e1.
    step field16 _ r1 _ b1 e1 (λ next_ssn r2 p2 f2 b2 e2.
    step field32 _ r2 _ b2 e2 (λ next_unordered_mid r3 p3 f3 b3 e3.
    step field32 _ r3 _ b3 e3 (λ next_ordered_mid r4 p4 f4 b4 e4.
    step field16 _ r4 _ b4 e4 (λ priority r5 p5 f5 b5 e5.
    subst (λ (x : HandoverOutgoingStream × List ℕ). Took outgoing_bytes FitsOutgoing bytes x.0 x.1) (some_is _ _ e5) (record {
      parts = rw (p1, p2, p3, p4, p5) (simp append_assoc);
      fits = record { id = f1; next_ssn = f2; next_unordered_mid = f3; next_ordered_mid = f4; priority = f5 };
      rest_fits = b5;
    }))))))

pub outgoing_field : IsField outgoing_bytes leading_outgoing_stream FitsOutgoing
outgoing_field = record { again = outgoing_again; takes = outgoing_takes }

-- ---- a stream that ordered messages are received by

ordered_again : (stream : HandoverOrderedStream) (rest : List ℕ) → FitsOrdered stream → leading_ordered_stream (ordered_bytes stream ++ rest) ≡ Some (stream, rest)
unfolding leading_ordered_stream ordered_bytes
ordered_again stream rest fits = simp append_assoc (rw (field16.again _ _ fits.id, field32.again _ _ fits.next_ssn) refl)

ordered_takes : (bytes : List ℕ) (stream : HandoverOrderedStream) (rest : List ℕ) → AreBytes bytes → leading_ordered_stream bytes ≡ Some (stream, rest) → Took ordered_bytes FitsOrdered bytes stream rest
unfolding leading_ordered_stream ordered_bytes
ordered_takes bytes stream rest fits e =
    step field16 _ bytes _ fits e (λ id r1 p1 f1 b1 e1.
    step field32 _ r1 _ b1 e1 (λ next_ssn r2 p2 f2 b2 e2.
    subst (λ (x : HandoverOrderedStream × List ℕ). Took ordered_bytes FitsOrdered bytes x.0 x.1) (some_is _ _ e2) (record {
      parts = rw (p1, p2) (simp append_assoc);
      fits = record { id = f1; next_ssn = f2 };
      rest_fits = b2;
    })))

pub ordered_field : IsField ordered_bytes leading_ordered_stream FitsOrdered
ordered_field = record { again = ordered_again; takes = ordered_takes }

-- ---- a stream that unordered messages are received by

unordered_again : (stream : HandoverUnorderedStream) (rest : List ℕ) → FitsUnordered stream → leading_unordered_stream (unordered_bytes stream ++ rest) ≡ Some (stream, rest)
unfolding leading_unordered_stream unordered_bytes
unordered_again stream rest fits = rw (field16.again _ _ fits.id) refl

unordered_takes : (bytes : List ℕ) (stream : HandoverUnorderedStream) (rest : List ℕ) → AreBytes bytes → leading_unordered_stream bytes ≡ Some (stream, rest) → Took unordered_bytes FitsUnordered bytes stream rest
unfolding leading_unordered_stream unordered_bytes
unordered_takes bytes stream rest fits e =
    step field16 _ bytes _ fits e (λ id r1 p1 f1 b1 e1.
    subst (λ (x : HandoverUnorderedStream × List ℕ). Took unordered_bytes FitsUnordered bytes x.0 x.1) (some_is _ _ e1) (record {
      parts = p1;
      fits = record { id = f1 };
      rest_fits = b1;
    }))

pub unordered_field : IsField unordered_bytes leading_unordered_stream FitsUnordered
unordered_field = record { again = unordered_again; takes = unordered_takes }
