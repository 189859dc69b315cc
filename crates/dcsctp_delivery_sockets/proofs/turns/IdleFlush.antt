-- A flush without an association does nothing below.
use Rattle.std.proofs.Common.{◌≡◌, ℕ, Option, None, Some, List, refl, ◌∙◌, ap}
use Rattle.dcsctp_spec_lemmas.specs.spec.Packet.{Emission}
use Rattle.dcsctp_spec_lemmas.specs.spec.endpoint.Endpoint.{Endpoint}
use Rattle.dcsctp_spec_lemmas.specs.spec.endpoint.FlushOutcomes.{Answer, answer_contents, filled_draft, asked_outcome, next_draft, Ask, later_ask, IsFlushAnswer, IsAnswerOfQueues, AreFlushAnswers, at_limit, at_empty, after_packet, flush_of}
use Rattle.dcsctp_spec_lemmas.specs.spec.queues.Transfer.{Transfer, EndpointQueues}
use Rattle.dcsctp_delivery_directions.proofs.sending.Packets.{out_below}

answered_still : (ask : Ask) (e : Endpoint) (draft : Emission) (found : Option Transfer) (answer : Answer) → found ≡ None → IsAnswerOfQueues ask e draft answer found → answer.after.queues ≡ e.queues
answered_still ask e draft None answer none does = ap (λ (a : Answer). a.after.queues) does
answered_still ask e draft (Some transfer) answer none does = absurd (cc)

asked_still : (ask : Ask) (e : Endpoint) (draft : Emission) (answer : Answer) → e.queues.transfer ≡ None → IsFlushAnswer ask e draft answer → (asked_outcome e draft answer).after.queues ≡ e.queues
asked_still ask e draft answer none does =
    out_below answer.after _ draft.with_checksum draft.packet.tag (filled_draft draft (answer_contents answer)).packet.contents ∙ answered_still ask e draft e.queues.transfer answer none does.by_transfer

pub flush_still : (ask : Ask) (n : ℕ) (e : Endpoint) (draft : Emission) (answers : List Answer) → e.queues.transfer ≡ None → AreFlushAnswers ask n e draft answers → (flush_of e draft answers).after.queues ≡ e.queues
flush_still _ _ _ _ _ none (at_limit ask e draft) = refl
flush_still _ _ _ _ _ none (at_empty ask more e draft answer does empty) = asked_still ask e draft answer none does
flush_still _ _ _ _ _ none (after_packet ask more e draft answer answers does some rest) =
    let first = asked_still ask e draft answer none does in
    flush_still later_ask more (asked_outcome e draft answer).after (next_draft e.core draft) answers (ap (λ (b : EndpointQueues). b.transfer) first ∙ none) rest ∙ first
