-- Which streams are handed out to be reset, while a flush is under way: the request in its first
-- packet alone hands streams out.
use Rattle.std.proofs.Common.{◌≡◌, ℕ, Bool, true, false, List, map, refl, ◌∙◌, ap}
use Rattle.std.specs.Prelude.{Option, None, Some}
use Rattle.dcsctp_spec.specs.Packet.{Emission}
use Rattle.dcsctp_spec.specs.endpoint.Endpoint.{Endpoint}
use Rattle.dcsctp_spec.specs.queues.SendQueue.{SendQueueState}
use Rattle.dcsctp_spec.specs.queues.Transfer.{Transfer, EndpointQueues, is_idle}
use Rattle.dcsctp_spec.specs.association.Choices.{plain_contents}
use Rattle.dcsctp_spec.specs.endpoint.BegunResets.{BegunReset, streams_within, queue_requesting}
use Rattle.dcsctp_spec.specs.endpoint.FlushOutcomes.{Ask, Gives, room_of_draft, filling_event, Answer, answer_contents, filled_draft, asked_outcome, next_draft, flush_of, later_ask, GivesUnlessIdle, IsAnswerOfQueues, IsFlushAnswer, AreFlushAnswers, at_limit, at_empty, after_packet}
use Rattle.dcsctp_delivery_directions.specs.sending.Numbers.{stream_named, is_handed_out}
use Rattle.dcsctp_delivery_directions.specs.sending.Flushes.{begun_reset_of}
use Rattle.dcsctp_delivery_directions.proofs.sending.Pauses.{PausesStay, pauses_follow}
use Rattle.dcsctp_delivery_directions.proofs.sending.KeptPauses.{before_request, after_request}
use Rattle.dcsctp_delivery_directions.proofs.sending.Packets.{out_below}

-- this holds for one packet, before the request and after it
pub gave_up_paused : (ask : Ask) (e : Endpoint) (draft : Emission) (transfer : Transfer) (answer : Answer) (gives : Gives ask e draft transfer answer) → PausesStay e.queues.queue.streams gives.gave_up.waiting.streams
gave_up_paused ask e draft transfer answer gives = before_request PausesStay pauses_follow ask e draft transfer answer gives

pub sent_paused : (ask : Ask) (e : Endpoint) (draft : Emission) (transfer : Transfer) (answer : Answer) (gives : Gives ask e draft transfer answer)
    → PausesStay (queue_requesting (streams_within (room_of_draft e (filled_draft draft (plain_contents answer.acknowledgements)))) answer.begun gives.gave_up.waiting).streams gives.sent.waiting.streams
sent_paused ask e draft transfer answer gives = after_request PausesStay pauses_follow ask e draft transfer answer gives

pub requesting_none : (count : ℕ) (begun : Option BegunReset) (queue : SendQueueState) → begun ≡ None → queue_requesting count begun queue ≡ queue
requesting_none count None queue is = refl
requesting_none count (Some begun) queue is = absurd (cc)

-- a later packet has no request
later_unrequested : (b : Bool) (e : Endpoint) (draft : Emission) (transfer : Transfer) (answer : Answer) → GivesUnlessIdle b later_ask e draft transfer answer → answer.begun ≡ None
later_unrequested true e draft transfer answer gives = ap (λ (a : Answer). a.begun) gives
later_unrequested false e draft transfer answer gives = gives.begins

later_none : (e : Endpoint) (draft : Emission) (transfer : Option Transfer) (answer : Answer) → IsAnswerOfQueues later_ask e draft answer transfer → answer.begun ≡ None
later_none e draft None answer answered = ap (λ (a : Answer). a.begun) answered
later_none e draft (Some transfer) answer answered = later_unrequested (is_idle e.queues.queue transfer) e draft transfer answer answered

pub later_begun : (n : ℕ) (e : Endpoint) (draft : Emission) (answers : List Answer) → AreFlushAnswers later_ask n e draft answers → begun_reset_of answers ≡ None
later_begun _ _ _ _ (at_limit ask e draft) = refl
later_begun _ _ _ _ (at_empty ask more e draft answer is empty) = later_none e draft e.queues.transfer answer is.by_transfer
later_begun _ _ _ _ (after_packet ask more e draft answer answers is some rest) = later_none e draft e.queues.transfer answer is.by_transfer

-- so the same streams are handed out after it
abbrev BelowPaused : EndpointQueues → EndpointQueues → Type 0
BelowPaused old new = PausesStay old.queue.streams new.queue.streams

later_given : (b : Bool) (e : Endpoint) (draft : Emission) (transfer : Transfer) (answer : Answer) → GivesUnlessIdle b later_ask e draft transfer answer → BelowPaused e.queues answer.after.queues
later_given true e draft transfer answer gives id = ap (λ (a : Answer). is_handed_out (stream_named id a.after.queues.queue.streams).pause) gives
later_given false e draft transfer answer gives id =
    ap (λ (b : EndpointQueues). is_handed_out (stream_named id b.queue.streams).pause) gives.below ∙ sent_paused later_ask e draft transfer answer gives id
    ∙ ap (λ (q : SendQueueState). is_handed_out (stream_named id q.streams).pause)
    (requesting_none (streams_within (room_of_draft e (filled_draft draft (plain_contents answer.acknowledgements)))) answer.begun gives.gave_up.waiting gives.begins)
    ∙ gave_up_paused later_ask e draft transfer answer gives id

later_answered : (e : Endpoint) (draft : Emission) (transfer : Option Transfer) (answer : Answer) → IsAnswerOfQueues later_ask e draft answer transfer → BelowPaused e.queues answer.after.queues
later_answered e draft None answer answered id = ap (λ (a : Answer). is_handed_out (stream_named id a.after.queues.queue.streams).pause) answered
later_answered e draft (Some transfer) answer answered id = later_given (is_idle e.queues.queue transfer) e draft transfer answer answered id

later_asked : (e : Endpoint) (draft : Emission) (answer : Answer) → IsFlushAnswer later_ask e draft answer → BelowPaused e.queues (asked_outcome e draft answer).after.queues
later_asked e draft answer answered id =
    ap (λ (b : EndpointQueues). is_handed_out (stream_named id b.queue.streams).pause) (out_below answer.after (map filling_event answer.told) draft.with_checksum draft.packet.tag (filled_draft draft (answer_contents answer)).packet.contents)
    ∙ later_answered e draft e.queues.transfer answer answered.by_transfer id

pub later_paused : (n : ℕ) (e : Endpoint) (draft : Emission) (answers : List Answer) → AreFlushAnswers later_ask n e draft answers → BelowPaused e.queues (flush_of e draft answers).after.queues
later_paused _ _ _ _ (at_limit ask e draft) id = refl
later_paused _ _ _ _ (at_empty ask more e draft answer is empty) id = later_asked e draft answer is id
later_paused _ _ _ _ (after_packet ask more e draft answer answers is some rest) id =
    later_paused more (asked_outcome e draft answer).after (next_draft e.core draft) answers rest id ∙ later_asked e draft answer is id
