-- A flush leaves the next identifier of a message, and how messages are numbered.
use Rattle.std.proofs.Common.{◌≡◌, ◌==◌, ℕ, Bool, true, false, ◌-◌, List, length, map, refl, ◌∙◌, ap, inl, inr}
use Rattle.std.specs.Prelude.{Option, None, Some, if◌then◌else◌}
use Rattle.dcsctp_spec.specs.endpoint.Event.{Event}
use Rattle.dcsctp_spec.specs.Packet.{Plain, Emission}
use Rattle.dcsctp_spec.specs.endpoint.Endpoint.{Endpoint}
use Rattle.dcsctp_spec.specs.types.declared.sending.UnderWay.{UnderWay}
use Rattle.dcsctp_spec.specs.queues.Filling.{Stage, ClosesMessage, GivesUpItem, payload_room, StepAgain, StepNew, StageSteps, none as steps_none, more as steps_more, resent_packet_counted, FillsPacket}
use Rattle.dcsctp_spec.specs.queues.Abandoning.{GivesUpFirst}
use Rattle.dcsctp_spec.specs.queues.Items.{Item}
use Rattle.dcsctp_spec.specs.queues.Outstanding.{header}
use Rattle.dcsctp_spec.specs.queues.SendQueue.{SendQueueState, queue_interleaves}
use Rattle.dcsctp_spec.specs.queues.Sending.{Fragment, Drops, none as drops_none, more as drops_more, reduced_queue, queue_numbered, queue_served, queue_with_turn_bytes, turn_counted, fragment_counted, after_part, after_last, queue_after_producing, is_last, TakesFragment, DiscardsNamed}
use Rattle.dcsctp_spec.specs.types.queues.SendStreams.{Waiting, fills_turn, stream_at}
use Rattle.dcsctp_spec.specs.queues.Transfer.{Transfer, EndpointQueues, is_idle}
use Rattle.dcsctp_spec.specs.endpoint.BegunResets.{BegunReset, queue_requesting}
use Rattle.dcsctp_spec.specs.endpoint.FlushOutcomes.{filling_event, Answer, answer_contents, filled_draft, asked_outcome, next_draft, flush_of, Ask, later_ask, GivesUpThenForwards, FillsIfAllowed, GivesUnlessIdle, IsAnswerOfQueues, IsFlushAnswer, AreFlushAnswers, at_limit, at_empty, after_packet, forward_made}
use Rattle.dcsctp_delivery_directions.proofs.sending.Packets.{out_below}

-- ---- both stay

-- what no fragment changes
record Fixed : Type 0 where
  next : ℕ
  kind : Bool
  turns : Bool

abbrev fixed : SendQueueState → Fixed
fixed queue = record { next = queue.next_message_id; kind = queue.is_interleaved; turns = queue.takes_turns }

numbering_next : (place : ℕ) (begins is_unordered : Bool) (queue : SendQueueState) → fixed (queue_numbered place begins is_unordered queue) ≡ fixed queue
numbering_next place true is_unordered queue = refl
numbering_next place false is_unordered queue = refl

serving_next : (place : ℕ) (is_over : Bool) (queue : SendQueueState) → fixed (queue_served place is_over queue) ≡ fixed queue
serving_next place true queue = refl
serving_next place false queue = refl

turn_next : (place : ℕ) (begins : Bool) (size : ℕ) (queue : SendQueueState) → fixed (turn_counted place begins size queue) ≡ fixed queue
turn_next place begins size queue = go (queue_interleaves queue)
  where
    go : (b : Bool) → fixed (if b then queue_served place (fills_turn queue.turn_size size (stream_at queue.streams place)) (queue_with_turn_bytes place size queue) else queue_served place begins queue) ≡ fixed queue
    go true = serving_next place (fills_turn queue.turn_size size (stream_at queue.streams place)) (queue_with_turn_bytes place size queue)
    go false = serving_next place begins queue

counted_next : (place size : ℕ) (message : Waiting) (under_way : UnderWay) (queue : SendQueueState) → fixed (fragment_counted place size message under_way queue) ≡ fixed queue
counted_next place size message under_way queue =
    turn_next place (under_way.sent == 0) size (queue_numbered place (under_way.sent == 0) message.is_unordered queue) ∙ numbering_next place (under_way.sent == 0) message.is_unordered queue

-- the fields that a stream's progress leaves
part_next : (place max : ℕ) (message : Waiting) (under_way : UnderWay) (queue : SendQueueState) → fixed (after_part place max message under_way queue) ≡ fixed queue
part_next place max message under_way queue = counted_next place max message under_way (reduced_queue place max queue)

last_next : (place : ℕ) (message : Waiting) (under_way : UnderWay) (queue : SendQueueState) → fixed (after_last place message under_way queue) ≡ fixed queue
last_next place message under_way queue =
    let size : ℕ = length message.payload - under_way.sent in
    counted_next place size message under_way (reduced_queue place size queue)

produced_next : (place max : ℕ) (message : Waiting) (under_way : UnderWay) (queue : SendQueueState) → fixed (queue_after_producing place max message under_way queue) ≡ fixed queue
produced_next place max message under_way queue = go (is_last max message under_way)
  where
    go : (b : Bool) → fixed (if b then after_last place message under_way queue else after_part place max message under_way queue) ≡ fixed queue
    go true = last_next place message under_way queue
    go false = part_next place max message under_way queue

drops_next : {P : Type 0} (now : ℕ) (old : SendQueueState) (events : List (Event P)) (new : SendQueueState) → Drops now old events new → fixed new ≡ fixed old
drops_next now old events new drops_none = refl
drops_next now old events new (drops_more events' queue place message drops next front expired) = drops_next now old events' queue drops

takes_next : {P : Type 0} (now max : ℕ) (old new : SendQueueState) (before after : List (Event P)) (part : Fragment) → TakesFragment now max old before part new after → fixed new ≡ fixed old
takes_next now max old new before after part takes =
    ap fixed takes.left ∙ produced_next takes.place max takes.message takes.under_way takes.queue ∙ drops_next now old takes.drops.events takes.queue takes.drops.drops

-- the stage's queue has the next identifier that it had
Next : Stage → Stage → Type 0
Next old new = fixed new.waiting ≡ fixed old.waiting

discards_next : {P : Type 0} (old new : SendQueueState) (stream message_id : ℕ) (before after : List (Event P)) (dropped : Bool) → DiscardsNamed old stream message_id before dropped new after → fixed new ≡ fixed old
discards_next old new stream message_id before after true discards = ap fixed discards.left
discards_next old new stream message_id before after false discards = ap fixed discards.1

closes_next : (now : ℕ) (last : Item) (old new : Stage) (is_end : Bool) → ClosesMessage now last old new is_end → Next old new
unfolding Next
closes_next now last old new true closes = ap (λ (s : Stage). fixed s.waiting) closes
closes_next now last old new false closes =
    elim closes [
      | inl e ↦ discards_next old.waiting new.waiting last.fragment.stream last.fragment.message_id old.told new.told e.1.drops.is_dropped e.1.drops.drops
      | inr e ↦ ap (λ (s : Stage). fixed s.waiting) e.1
    ]

gives_next : (now place : ℕ) (old new : Stage) → GivesUpItem now place old new → Next old new
unfolding Next
gives_next now place old new gives = ap (λ (s : Stage). fixed s.waiting) gives.is ∙ closes_next now gives.last old gives.closed gives.last.fragment.is_end gives.closes

again_next : (now : ℕ) (old new : Stage) → StepAgain now old new → Next old new
unfolding Next
again_next now old new step = elim step [ inl e ↦ ap (λ (s : Stage). fixed s.waiting) e.1.is | inr e ↦ gives_next now e.place old new e.gives_up ]

anew_next : (now : ℕ) (old new : Stage) → StepNew now old new → Next old new
unfolding Next
anew_next now old new step =
    elim step.1 [
      | inl e ↦ takes_next now (payload_room (header old.queue.outstanding) old.room) old.waiting new.waiting old.told new.told e.item.fragment e.takes
      | inr e ↦ drops_next now old.waiting e.takes.drops.events new.waiting e.takes.drops.drops
    ]

steps_next : (OneStep : Stage → Stage → Type 0) → ((old new : Stage) → OneStep old new → Next old new) → (old new : Stage) → StageSteps OneStep old new → Next old new
unfolding Next
steps_next OneStep each old new steps_none = refl
steps_next OneStep each old new (steps_more between _ steps step) = each between new step ∙ steps_next OneStep each old between steps

fills_next : (now : ℕ) (old new : Stage) → FillsPacket now old new → Next old new
unfolding Next
fills_next now old new fills =
    ap (λ (s : Stage). fixed s.waiting) fills.is ∙ steps_next (StepNew now) (anew_next now) (resent_packet_counted old.room fills.fills.resent) fills.sent fills.fills.anew
    ∙ steps_next (StepAgain now) (again_next now) old fills.fills.resent fills.fills.again

fills_where_next : (now : ℕ) (b : Bool) (old new : Stage) → FillsIfAllowed b now old new → Next old new
unfolding Next
fills_where_next now true old new fills = fills_next now old new fills
fills_where_next now false old new fills = elim fills [ inl e ↦ ap (λ (s : Stage). fixed s.waiting) e | inr e ↦ fills_next now old new e ]

gives_where_next : (b : Bool) (now room : ℕ) (transfer : Transfer) (old new : Stage) (next : Option ℕ) (chunks : List Plain) → GivesUpThenForwards b now transfer room old new (forward_made next chunks) → Next old new
unfolding Next
gives_where_next true now room transfer old new next chunks gives = steps_next (GivesUpFirst now) (λ o n s. gives_next now s.place o n s.gives_up) old new gives.0.steps
gives_where_next false now room transfer old new next chunks gives = ap (λ (s : Stage). fixed s.waiting) gives.0

requesting_next : (count : ℕ) (begun : Option BegunReset) (queue : SendQueueState) → fixed (queue_requesting count begun queue) ≡ fixed queue
requesting_next count None queue = refl
requesting_next count (Some begun) queue = refl

-- the queue below
BelowNext : EndpointQueues → EndpointQueues → Type 0
BelowNext old new = fixed new.queue ≡ fixed old.queue

given_next : (b : Bool) (ask : Ask) (e : Endpoint) (draft : Emission) (transfer : Transfer) (answer : Answer) → GivesUnlessIdle b ask e draft transfer answer → BelowNext e.queues answer.after.queues
unfolding BelowNext Next
given_next true ask e draft transfer answer gives = ap (λ (a : Answer). fixed a.after.queues.queue) gives
given_next false ask e draft transfer answer gives =
    ap (λ (b : EndpointQueues). fixed b.queue) gives.below ∙ fills_where_next e.moment _ _ gives.sent gives.fills ∙ requesting_next _ answer.begun gives.gave_up.waiting
    ∙ gives_where_next _ e.moment _ transfer _ gives.gave_up gives.next gives.forwards gives.gives_up

answered_next : (ask : Ask) (e : Endpoint) (draft : Emission) (transfer : Option Transfer) (answer : Answer) → IsAnswerOfQueues ask e draft answer transfer → BelowNext e.queues answer.after.queues
unfolding BelowNext
answered_next ask e draft None answer answered = ap (λ (a : Answer). fixed a.after.queues.queue) answered
answered_next ask e draft (Some transfer) answer answered = given_next (is_idle e.queues.queue transfer) ask e draft transfer answer answered

asked_next : (ask : Ask) (e : Endpoint) (draft : Emission) (answer : Answer) → IsFlushAnswer ask e draft answer → BelowNext e.queues (asked_outcome e draft answer).after.queues
unfolding BelowNext
asked_next ask e draft answer answered =
    ap (λ (b : EndpointQueues). fixed b.queue) (out_below answer.after (map filling_event answer.told) draft.with_checksum draft.packet.tag (filled_draft draft (answer_contents answer)).packet.contents)
    ∙ answered_next ask e draft e.queues.transfer answer answered.by_transfer

flush_fixed : (ask : Ask) (n : ℕ) (e : Endpoint) (draft : Emission) (answers : List Answer) → AreFlushAnswers ask n e draft answers → fixed (flush_of e draft answers).after.queues.queue ≡ fixed e.queues.queue
unfolding BelowNext
flush_fixed _ _ _ _ _ (at_limit ask e draft) = refl
flush_fixed _ _ _ _ _ (at_empty ask more e draft answer is empty) = asked_next ask e draft answer is
flush_fixed _ _ _ _ _ (after_packet ask more e draft answer answers is some rest) = flush_fixed later_ask more (asked_outcome e draft answer).after (next_draft e.core draft) answers rest ∙ asked_next ask e draft answer is

pub flush_next : (ask : Ask) (n : ℕ) (e : Endpoint) (draft : Emission) (answers : List Answer) → AreFlushAnswers ask n e draft answers → (flush_of e draft answers).after.queues.queue.next_message_id ≡ e.queues.queue.next_message_id
flush_next ask n e draft answers allowed = ap (λ (f : Fixed). f.next) (flush_fixed ask n e draft answers allowed)

pub flush_kind : (ask : Ask) (n : ℕ) (e : Endpoint) (draft : Emission) (answers : List Answer) → AreFlushAnswers ask n e draft answers → (flush_of e draft answers).after.queues.queue.is_interleaved ≡ e.queues.queue.is_interleaved
flush_kind ask n e draft answers allowed = ap (λ (f : Fixed). f.kind) (flush_fixed ask n e draft answers allowed)

pub flush_turns : (ask : Ask) (n : ℕ) (e : Endpoint) (draft : Emission) (answers : List Answer) → AreFlushAnswers ask n e draft answers → (flush_of e draft answers).after.queues.queue.takes_turns ≡ e.queues.queue.takes_turns
flush_turns ask n e draft answers allowed = ap (λ (f : Fixed). f.turns) (flush_fixed ask n e draft answers allowed)
