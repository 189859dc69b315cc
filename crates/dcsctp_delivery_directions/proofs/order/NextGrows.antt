-- The next number of a stream only rises, whatever comes or is skipped.
use Rattle.std.proofs.Common.{◌≡◌, ◌==◌, ℕ, Bool, true, false, ◌<◌, ◌≤◌, ◌+◌, ◌^◌, List, refl, sym, ap, arith, subst, inl, inr}
use Rattle.std.specs.Prelude.{if◌then◌else◌}
use Rattle.std.proofs.lemmas.Bool.Decides.{leb_tells}
use Rattle.dcsctp_spec_lemmas.specs.types.queues.Messages.{MessageContent}
use Rattle.dcsctp_spec_lemmas.specs.types.declared.arrivals.SkippedTo.{SkippedTo}
use Rattle.dcsctp_spec_lemmas.specs.types.declared.arrivals.SkippedTo.TheVariants.{Ssn, Mid}
use Rattle.dcsctp_spec_lemmas.specs.types.declared.arrivals.Numbering.{Numbering}
use Rattle.dcsctp_spec_lemmas.specs.types.declared.arrivals.Numbering.TheVariants.{Ordered, Unordered, InterleavedOrdered, InterleavedUnordered}
use Rattle.dcsctp_spec_lemmas.specs.types.declared.arrivals.Taken.{Taken}
use Rattle.dcsctp_spec_lemmas.specs.spec.queues.Numbers.{number_near, short_number_near}
use Rattle.dcsctp_spec_lemmas.specs.spec.queues.Runs.{PartModel, WholeModel, Assembly, part_dropped, part_kept, message_whole}
use Rattle.dcsctp_spec_lemmas.specs.spec.queues.IncomingStreams.{StreamModel, ChunkModel, next_after, next_due, next_past, is_number_waiting, TakesOrdered, OrderedOutcome, TakesAhead, TakesInOrder, NumberedPart, numbered_ahead, numbered_apart, numbered_in_order, numbered_out_of_order, numbered_part, TakesNumberedPart, stream_after_skip}
use Rattle.dcsctp_spec_lemmas.specs.spec.queues.Incoming.{IncomingModel, stream_on, TakesStreamData, TakesChunk, TakesIncomingChunk}
use Rattle.dcsctp_delivery_directions.proofs.sending.Places.{decide}
use Rattle.dcsctp_delivery_directions.specs.order.Rising.{AscendFrom}
use Rattle.dcsctp_delivery_directions.proofs.order.SkippedParts.{due_up}

pub skip_grows : (entry : SkippedTo) (stream : StreamModel) → AscendFrom (stream.next + 1) stream.waiting → stream.next ≤ (stream_after_skip entry stream).next
skip_grows (Ssn on ssn) stream up = (let past = due_up (stream.next + 1) (next_past (short_number_near stream.next ssn) stream.next) stream.waiting up in omega (arith, past))
skip_grows (Mid on false mid) stream up = (let past = due_up (stream.next + 1) (next_past (number_near stream.next mid) stream.next) stream.waiting up in omega (arith, past))
skip_grows (Mid on true mid) stream up = omega arith

module _ (old new : StreamModel) (before after : List MessageContent) (taken : Taken) (up : AscendFrom (old.next + 1) old.waiting) (small : old.next + 1 < 2 ^ 64) where
  ordered_grows : (part : PartModel) → TakesOrdered part old before taken new after → old.next ≤ new.next
  ordered_grows part takes = go takes.outcome takes.does
    where
      after_whole : (whole : WholeModel) (b : Bool) → (whole.number == old.next) ≡ b → new.next ≡ (if b then next_due (next_after old.next whole) old.waiting else old.next) → old.next ≤ new.next
      after_whole whole true is same =
          let past = due_up (old.next + 1) (next_after old.next whole) old.waiting up in
          let first : next_after old.next whole ≡ old.next + 1 = rw is (omega (arith, small)) in
          omega (arith, past, first, same)
      after_whole whole false is same = omega (arith, same)

      go : (outcome : Assembly) → OrderedOutcome part old before outcome taken new after → old.next ≤ new.next
      go part_dropped does = (let same = ap (λ (s : StreamModel). s.next) does.0 in omega (arith, same))
      go part_kept does = (let same = does.0 in omega (arith, same))
      go (message_whole whole) does = after_whole whole (whole.number == old.next) refl does.next

  ahead_grows : (part : PartModel) → TakesAhead part old before taken new after → old.next ≤ new.next
  ahead_grows part takes = go (is_number_waiting part.number old.waiting) refl
    where
      go : (b : Bool) → is_number_waiting part.number old.waiting ≡ b → old.next ≤ new.next
      go true is = (let same = (takes.repeated is).others.1 in omega (arith, same))
      go false is = ordered_grows part (takes.fresh is)

  in_order_grows : (part : PartModel) → TakesInOrder part old before taken new after → old.next ≤ new.next
  in_order_grows part takes =
      elim (leb_tells old.next part.number) [
        | inl e ↦ ahead_grows part (takes.ahead e.1)
        | inr e ↦ (let same = ap (λ (s : StreamModel). s.next) (takes.past e.1).1 in omega (arith, same))
      ]

  part_grows : (part : NumberedPart) → TakesNumberedPart part old before taken new after → old.next ≤ new.next
  part_grows (numbered_ahead part) takes = ahead_grows part takes
  part_grows (numbered_apart part) takes = (let same = takes.others.1 in omega (arith, same))
  part_grows (numbered_in_order part) takes = in_order_grows part takes
  part_grows (numbered_out_of_order part) takes = (let same = takes.others.1 in omega (arith, same))

pub chunk_grows : (tsn id : ℕ) (chunk : ChunkModel) (old new : IncomingModel) → AscendFrom ((stream_on id old.streams).next + 1) (stream_on id old.streams).waiting → (stream_on id old.streams).next + 1 < 2 ^ 64 → TakesIncomingChunk tsn chunk old new
    → (stream_on id old.streams).next ≤ (stream_on id new.streams).next
chunk_grows tsn id chunk old new up small takes = go chunk.numbering takes.takes
  where
    on_stream : TakesStreamData (number_near old.last_tsn_number tsn) chunk old new → (stream_on id old.streams).next ≤ (stream_on id new.streams).next
    on_stream t = elim (decide id chunk.stream) [
      | inl same ↦
          subst (λ (k : ℕ). (stream_on k old.streams).next ≤ (stream_on k new.streams).next) (sym same)
          (part_grows (stream_on chunk.stream old.streams) (stream_on chunk.stream new.streams) old.ready new.ready t.taken (subst (λ (k : ℕ). AscendFrom ((stream_on k old.streams).next + 1) (stream_on k old.streams).waiting) same up)
          (subst (λ (k : ℕ). (stream_on k old.streams).next + 1 < 2 ^ 64) same small) (numbered_part (number_near old.last_tsn_number tsn) chunk chunk.numbering (stream_on chunk.stream old.streams)) t.does)
      | inr ne ↦ (let same = ap (λ (s : StreamModel). s.next) (t.others id ne) in omega (arith, same))
    ]

    go : (numbering : Numbering) → TakesChunk (number_near old.last_tsn_number tsn) numbering chunk old new → (stream_on id old.streams).next ≤ (stream_on id new.streams).next
    go (Ordered ssn) t = on_stream t
    go Unordered t = (let same = ap (λ (l : List (ℕ × StreamModel)). (stream_on id l).next) t.streams in omega (arith, same))
    go (InterleavedOrdered mid fsn) t = on_stream t
    go (InterleavedUnordered mid fsn) t = on_stream t
