-- Each fast retransmission has an outcome.
use Rattle.std.proofs.Common.{◌≡◌, ◌∙◌, ℕ, false, List, [], refl, sym, ap, subst, arith}
use Rattle.dcsctp_spec.specs.types.declared.association.Held.{Held}
use Rattle.dcsctp_spec.specs.endpoint.Endpoint.{Endpoint}
use Rattle.dcsctp_spec.specs.endpoint.Outcome.{Outcome}
use Rattle.dcsctp_spec.specs.association.Choices.{plain_contents}
use Rattle.dcsctp_spec.specs.queues.AtOnce.{empty_stage, SendsAtOnce}
use Rattle.dcsctp_spec.specs.queues.Chunks.{AreChunksOfTsns}
use Rattle.dcsctp_spec.specs.queues.Filling.{Stage}
use Rattle.dcsctp_spec.specs.queues.Outstanding.{OutstandingState}
use Rattle.dcsctp_spec.specs.queues.Retransmission.{RetransmissionState}
use Rattle.dcsctp_spec.specs.queues.Transfer.{Transfer}
use Rattle.dcsctp_spec.specs.endpoint.DataOutcomes.{with_transfer, SendsLost}
use Rattle.dcsctp_spec.specs.endpoint.FlushOutcomes.{draft_to, goes_out, room_of_draft}
use Rattle.dcsctp_spec_lemmas.proofs.ChunkOutcomes.{SomeChunks, some_chunks}
use Rattle.dcsctp_spec_lemmas.proofs.FilledAnswers.{small_room}
use Rattle.dcsctp_spec_lemmas.proofs.FilledOutcomes.{counts_alone}
use Rattle.dcsctp_spec_lemmas.proofs.PackingLemmas.{packed_none, packed_marked}
use Rattle.dcsctp_spec_lemmas.proofs.ResendingOutcomes.{some_at_once}

-- what is in flight then
same_outstanding : (now bytes : ℕ) (old new : RetransmissionState) (tsns : List ℕ) (e : Endpoint) → (sends : SendsAtOnce now bytes e.queues.queue old new tsns) → new.outstanding ≡ sends.resent.outstanding
same_outstanding now bytes old new tsns e sends =
    ap (λ (r : RetransmissionState). r.outstanding) sends.is ∙ (counts_alone _ sends.resent).outstanding

pub some_lost : (e : Endpoint) (held : Held) (transfer : Transfer) → (o : Outcome) × SendsLost e held transfer o
some_lost e held transfer =
    let room : ℕ = room_of_draft e (draft_to held) in
    let (left, tsns, sends) = some_at_once e.moment room e.queues.queue transfer.retransmission in
    let start : Stage = empty_stage (record transfer.retransmission { fast_retransmit_due = false }) e.queues.queue room in
    let resent : Stage = record (empty_stage sends.resent e.queues.queue sends.room) { tsns = tsns } in
    let some : SomeChunks room resent = some_chunks room resent (packed_marked e.moment room start resent sends.steps (packed_none start refl)) in
    let len = some.len (small_room e (draft_to held)) in (
      goes_out (with_transfer e (record transfer { retransmission = left })) [] (draft_to held).with_checksum (draft_to held).packet.tag (plain_contents some.chunks),
      record {
        left = left;
        tsns = tsns;
        sends = sends;
        chunks = some.chunks;
        are = subst (λ (o : OutstandingState). AreChunksOfTsns o tsns some.chunks) (sym (same_outstanding e.moment room transfer.retransmission left tsns e sends)) some.are;
        fit = some.fit (small_room e (draft_to held));
        within = λ within. omega (arith, len, within);
        is = refl;
      },
    )
