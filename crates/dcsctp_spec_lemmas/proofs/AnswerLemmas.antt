-- An ask may be answered whichever packet its flush has reached, and whatever it reported already.
use Rattle.std.proofs.Common.{◌≡◌, ◌∙◌, ℕ, zero, suc, Bool, true, false, Option, None, Some, List, [], ◌∷◌, ◌++◌, refl, sym, ap, subst}
use Rattle.std.proofs.lemmas.List.{append-nil}
use Rattle.dcsctp_spec.specs.endpoint.Endpoint.{Endpoint}
use Rattle.dcsctp_spec.specs.Packet.{Plain, Content, Emission}
use Rattle.dcsctp_spec.specs.association.Choices.{plain_contents}
use Rattle.dcsctp_spec.specs.queues.Abandoning.{GivesUpAll}
use Rattle.dcsctp_spec.specs.queues.Filling.{Stage}
use Rattle.dcsctp_spec.specs.queues.Items.{is_first_abandoned}
use Rattle.dcsctp_spec.specs.queues.Retransmission.{RetransmissionState}
use Rattle.dcsctp_spec.specs.queues.SendQueue.{SendQueueState}
use Rattle.dcsctp_spec.specs.queues.Transfer.{Transfer, may_give, is_idle}
use Rattle.dcsctp_spec.specs.endpoint.BegunResets.{BegunReset, streams_within, last_assigned_tsn, request_contents, queue_requesting, retransmission_begun}
use Rattle.dcsctp_spec.specs.endpoint.FlushOutcomes.{may_be_asked, Answer, answer_contents, filled_draft, asked_outcome, next_draft, IsWithinMtu, nothing_waits, Ask, later_ask, room_of_draft, wants_sack, stage_of, may_forward, GivesUpThenForwards, begun_by_ask, GivesUnlessIdle, IsAnswerOfQueues, IsFlushAnswer, AreFlushAnswers, at_limit, at_empty, after_packet, forward_made}
use Rattle.dcsctp_spec_lemmas.proofs.AnswerParts.{sacks_where, tracker_where, acknowledges_where, some_forwarded, fills_where}
use Rattle.dcsctp_spec_lemmas.proofs.FilledAnswers.{Completes, completes_sooner, GivesUntilFull, answer_filling}
use Rattle.dcsctp_spec_lemmas.proofs.FilledOutcomes.{Filled, some_filled}
use Rattle.dcsctp_spec_lemmas.proofs.GivingUpOutcomes.{some_given_up}

-- ---- messages are abandoned

-- once messages were abandoned, which needs no further answer
answer_given_up : (ask : Ask) (e : Endpoint) (draft : Emission) (transfer : Transfer) (gave_up : Stage) (next : Option ℕ) (forwards : List Plain)
    → GivesUpThenForwards (may_forward ask e transfer.retransmission) e.moment transfer
    (room_of_draft e (filled_draft draft (plain_contents (sacks_where (wants_sack ask e.queues.queue transfer) (room_of_draft e draft) transfer)))) (stage_of e.queues.queue transfer.retransmission [] 0) gave_up (forward_made next forwards)
    → e.queues.transfer ≡ Some transfer → is_idle e.queues.queue transfer ≡ false → Completes ask e draft gave_up.told
answer_given_up ask e draft transfer gave_up next forwards gives_up holds busy =
    let wants : Bool = wants_sack ask e.queues.queue transfer in
    let sacks : List Plain = sacks_where wants (room_of_draft e draft) transfer in
    let room : ℕ = room_of_draft e (filled_draft draft (plain_contents (sacks ++ forwards))) in
    let begun : Option BegunReset = begun_by_ask ask e.options.follow_rfc (may_be_asked e.core e.options.follow_rfc) room (last_assigned_tsn gave_up.queue) gave_up.waiting in
    let left : SendQueueState = queue_requesting (streams_within room) begun gave_up.waiting in
    let queue : RetransmissionState = retransmission_begun begun gave_up.queue in
    let start : Stage = stage_of left queue gave_up.told (room_of_draft e (filled_draft draft (plain_contents (sacks ++ forwards) ++ request_contents begun))) in
    let full : Filled e.moment start gave_up.told = some_filled e.moment start in
    let u : GivesUntilFull ask e draft transfer = record {
      sacks = sacks;
      forwards = forwards;
      tracker = tracker_where wants transfer;
      acknowledges = acknowledges_where wants (room_of_draft e draft) transfer;
      gave_up = gave_up;
      next = next;
      gives_up = gives_up;
      begun = begun;
      begins = refl;
      sent = full.new;
      fills = fills_where (may_give left queue) e.moment start full.new full.fills;
    } in
    completes_sooner ask e draft gave_up.told full.new.told full.rest full.told (answer_filling ask e draft transfer u holds busy)

-- a flush that stops while messages are abandoned
pub answer_giving_up : (ask : Ask) (e : Endpoint) (draft : Emission) (transfer : Transfer) (gave_up : Stage) → e.queues.transfer ≡ Some transfer → is_idle e.queues.queue transfer ≡ false
    → may_forward ask e transfer.retransmission ≡ true → GivesUpAll e.moment (stage_of e.queues.queue transfer.retransmission [] 0) gave_up → Completes ask e draft gave_up.told
answer_giving_up ask e draft transfer gave_up holds busy may gives_up =
    let room : ℕ = room_of_draft e (filled_draft draft (plain_contents (sacks_where (wants_sack ask e.queues.queue transfer) (room_of_draft e draft) transfer))) in
    let start : Stage = stage_of e.queues.queue transfer.retransmission [] 0 in
    let some = some_forwarded (is_first_abandoned gave_up.queue.outstanding.items) e.moment transfer room gave_up.queue in
    answer_given_up ask e draft transfer gave_up some.next some.chunks
    (subst (λ (b : Bool). GivesUpThenForwards b e.moment transfer room start gave_up (forward_made some.next some.chunks)) (sym may) (gives_up, some.is)) holds busy

-- ---- each ask

nothing_behind : (e : Endpoint) (draft : Emission) → filled_draft draft (answer_contents (nothing_waits e)) ≡ draft
nothing_behind e draft = ap (λ (contents : List Content). record draft { packet = record draft.packet { contents = contents } }) (append-nil draft.packet.contents)

nothing_answered : (ask : Ask) (e : Endpoint) (draft : Emission) → IsAnswerOfQueues ask e draft (nothing_waits e) e.queues.transfer → Completes ask e draft []
nothing_answered ask e draft h =
    record {
      answer = nothing_waits e;
      allowed = record { kept = refl; within = λ within. subst (IsWithinMtu e) (sym (nothing_behind e draft)) within; by_transfer = h };
      rest = [];
      told = refl;
    }

busy_answer : (ask : Ask) (e : Endpoint) (draft : Emission) (transfer : Transfer) (may : Bool) → may_forward ask e transfer.retransmission ≡ may → e.queues.transfer ≡ Some transfer
    → is_idle e.queues.queue transfer ≡ false → Completes ask e draft []
busy_answer ask e draft transfer true may holds busy =
    let (gave_up, gives_up) = some_given_up e.moment (stage_of e.queues.queue transfer.retransmission [] 0) in
    completes_sooner ask e draft [] gave_up.told gave_up.told refl (answer_giving_up ask e draft transfer gave_up holds busy may gives_up)
busy_answer ask e draft transfer false may holds busy =
    let room : ℕ = room_of_draft e (filled_draft draft (plain_contents (sacks_where (wants_sack ask e.queues.queue transfer) (room_of_draft e draft) transfer))) in
    let start : Stage = stage_of e.queues.queue transfer.retransmission [] 0 in
    answer_given_up ask e draft transfer start None [] (subst (λ (b : Bool). GivesUpThenForwards b e.moment transfer room start start (forward_made None [])) (sym may) (refl, refl, refl)) holds busy

answer_by : (ask : Ask) (e : Endpoint) (draft : Emission) (transfer : Transfer) (idle : Bool) → e.queues.transfer ≡ Some transfer → is_idle e.queues.queue transfer ≡ idle
    → Completes ask e draft []
answer_by ask e draft transfer true holds idle =
    nothing_answered ask e draft (subst (IsAnswerOfQueues ask e draft (nothing_waits e)) (sym holds) (subst (λ (b : Bool). GivesUnlessIdle b ask e draft transfer (nothing_waits e)) (sym idle) refl))
answer_by ask e draft transfer false holds busy = busy_answer ask e draft transfer (may_forward ask e transfer.retransmission) refl holds busy

answer_at : (ask : Ask) (e : Endpoint) (draft : Emission) (transfer : Option Transfer) → e.queues.transfer ≡ transfer → Completes ask e draft []
answer_at ask e draft None holds = nothing_answered ask e draft (subst (IsAnswerOfQueues ask e draft (nothing_waits e)) (sym holds) refl)
answer_at ask e draft (Some transfer) holds = answer_by ask e draft transfer (is_idle e.queues.queue transfer) holds refl

pub some_answer : (ask : Ask) (e : Endpoint) (draft : Emission) → Completes ask e draft []
some_answer ask e draft = answer_at ask e draft e.queues.transfer refl

-- ---- the answers of a flush, whichever packet it has reached

-- the answers that continue from this one
goes_on : (ask : Ask) (n : ℕ) (e : Endpoint) (draft : Emission) (answer : Answer) (contents : List Content) → (filled_draft draft (answer_contents answer)).packet.contents ≡ contents → IsFlushAnswer ask e draft answer
    → ((answers : List Answer) × AreFlushAnswers later_ask n (asked_outcome e draft answer).after (next_draft e.core draft) answers) → (answers : List Answer) × AreFlushAnswers ask (suc n) e draft (answer ∷ answers)
goes_on ask n e draft answer [] is h rest = ([], at_empty ask n e draft answer h is)
goes_on ask n e draft answer (content ∷ contents) is h rest =
    (rest.0, after_packet ask n e draft answer rest.0 h (λ none. let clash : content ∷ contents ≡ [] = sym is ∙ none in absurd (cc)) rest.1)

pub any_answers : (ask : Ask) (n : ℕ) (e : Endpoint) (draft : Emission) → (answers : List Answer) × AreFlushAnswers ask n e draft answers
any_answers ask zero e draft = ([], at_limit ask e draft)
any_answers ask (suc n) e draft =
    let first = some_answer ask e draft in
    let all : (answers : List Answer) × AreFlushAnswers ask (suc n) e draft (first.answer ∷ answers) =
    goes_on ask n e draft first.answer (filled_draft draft (answer_contents first.answer)).packet.contents refl first.allowed
    (any_answers later_ask n (asked_outcome e draft first.answer).after (next_draft e.core draft)) in
    (first.answer ∷ all.0, all.1)

-- those that begin with this one
pub answers_from : (ask : Ask) (n : ℕ) (e : Endpoint) (draft : Emission) (answer : Answer) → IsFlushAnswer ask e draft answer
    → (answers : List Answer) × AreFlushAnswers ask (suc n) e draft (answer ∷ answers)
answers_from ask n e draft answer h =
    goes_on ask n e draft answer (filled_draft draft (answer_contents answer)).packet.contents refl h
    (any_answers later_ask n (asked_outcome e draft answer).after (next_draft e.core draft))
