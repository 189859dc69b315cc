-- What relates streams before and after, while messages leave the send queue: each stream that
-- changes is paused as it was.
use Rattle.std.proofs.Common.{◌≡◌, ℕ, Bool, true, false, ◌-◌, List, [], ◌++◌, length, refl, sym, ap, subst, inl, inr}
use Rattle.std.specs.Prelude.{Option, slice_set, if◌then◌else◌}
use Rattle.dcsctp_spec.specs.Packet.{Plain, Emission}
use Rattle.dcsctp_spec.specs.association.Choices.{plain_contents}
use Rattle.dcsctp_spec.specs.endpoint.BegunResets.{streams_within, request_contents, queue_requesting, retransmission_begun}
use Rattle.dcsctp_spec.specs.endpoint.Endpoint.{Endpoint}
use Rattle.dcsctp_spec.specs.endpoint.Event.{Event}
use Rattle.dcsctp_spec.specs.endpoint.FlushOutcomes.{Ask, Gives, room_of_draft, stage_of, may_forward, Answer, filled_draft, GivesUpThenForwards, FillsIfAllowed, forward_made}
use Rattle.dcsctp_spec.specs.types.declared.sending.UnderWay.{UnderWay}
use Rattle.dcsctp_spec.specs.types.queues.SendStreams.{Waiting, Stream, without_front, stream_with_progress, stream_at}
use Rattle.dcsctp_spec.specs.queues.Abandoning.{GivesUpFirst}
use Rattle.dcsctp_spec.specs.queues.SendQueue.{SendQueueState}
use Rattle.dcsctp_spec.specs.queues.Sending.{Fragment, Drops, none as drops_none, more as drops_more, reduced_queue, fragment_counted, progress_after, without_rest, after_part, after_last, queue_after_producing, is_last, TakesFragment, DiscardsNamed}
use Rattle.dcsctp_spec.specs.queues.Filling.{Stage, ClosesMessage, GivesUpItem, payload_room, StepAgain, StepNew, StageSteps, none as steps_none, more as steps_more, resent_packet_counted, FillsPacket}
use Rattle.dcsctp_spec.specs.queues.Items.{Item}
use Rattle.dcsctp_spec.specs.queues.Outstanding.{header}
use Rattle.dcsctp_spec.specs.queues.Retransmission.{RetransmissionState}
use Rattle.dcsctp_spec.specs.queues.Transfer.{Transfer, may_give}
use Rattle.dcsctp_delivery_directions.proofs.sending.CountedFragments.{FollowsCounts, by_leaving}

-- It relates streams of which one at most has changed, and is paused as it was.
pub record FollowsPauses (Relates : List Stream → List Stream → Type 0) : Type 0 where
  pub same : (streams : List Stream) → Relates streams streams
  pub both : (old between new : List Stream) → Relates old between → Relates between new → Relates old new
  pub set : (place : ℕ) (new : Stream) (streams : List Stream) → new.id ≡ (stream_at streams place).id → new.pause ≡ (stream_at streams place).pause → Relates streams (slice_set streams place new)

module _ (Relates : List Stream → List Stream → Type 0) (follows : FollowsPauses Relates) where
  -- ---- one message

  by_reduced : (place size : ℕ) (queue : SendQueueState) → Relates queue.streams (reduced_queue place size queue).streams
  by_reduced place size queue = follows.set place (record (stream_at queue.streams place) { amount = (stream_at queue.streams place).amount - size }) queue.streams refl refl

  by_without : (place : ℕ) (streams : List Stream) → Relates streams (slice_set streams place (without_front (stream_at streams place)))
  by_without place streams = follows.set place (without_front (stream_at streams place)) streams refl refl

  by_rest : (place sent : ℕ) (message : Waiting) (queue : SendQueueState) → Relates queue.streams (without_rest place sent message queue).streams
  by_rest place sent message queue =
      follows.both queue.streams (reduced_queue place (length message.payload - sent) queue).streams (without_rest place sent message queue).streams
      (by_reduced place (length message.payload - sent) queue) (by_without place (reduced_queue place (length message.payload - sent) queue).streams)

  pub by_dropped : {P : Type 0} (now : ℕ) (old : SendQueueState) (events : List (Event P)) (new : SendQueueState) → Drops now old events new → Relates old.streams new.streams
  by_dropped now old events new drops_none = follows.same old.streams
  by_dropped now old events new (drops_more events' queue place message drops next front expired) =
      follows.both old.streams queue.streams (without_rest place 0 message queue).streams (by_dropped now old events' queue drops) (by_rest place 0 message queue)

  by_counts : FollowsCounts Relates
  by_counts = record { same = follows.same; both = follows.both; set = λ place new streams is. follows.set place new streams is.id is.pause }

  pub by_part : (place max : ℕ) (message : Waiting) (under_way : UnderWay) (queue : SendQueueState) → Relates queue.streams (after_part place max message under_way queue).streams
  by_part place max message under_way queue =
      let counted : SendQueueState = fragment_counted place max message under_way (reduced_queue place max queue) in
      follows.both queue.streams counted.streams (after_part place max message under_way queue).streams (by_leaving Relates by_counts place max message under_way queue)
      (follows.set place (stream_with_progress (progress_after max under_way) (stream_at counted.streams place)) counted.streams refl refl)

  by_last : (place : ℕ) (message : Waiting) (under_way : UnderWay) (queue : SendQueueState) → Relates queue.streams (after_last place message under_way queue).streams
  by_last place message under_way queue =
      let size : ℕ = length message.payload - under_way.sent in
      let counted : SendQueueState = fragment_counted place size message under_way (reduced_queue place size queue) in
      follows.both queue.streams counted.streams (after_last place message under_way queue).streams (by_leaving Relates by_counts place size message under_way queue) (by_without place counted.streams)

  pub by_produced : (place max : ℕ) (message : Waiting) (under_way : UnderWay) (queue : SendQueueState) → Relates queue.streams (queue_after_producing place max message under_way queue).streams
  by_produced place max message under_way queue = go (is_last max message under_way)
    where
      go : (b : Bool) → Relates queue.streams (if b then after_last place message under_way queue else after_part place max message under_way queue).streams
      go true = by_last place message under_way queue
      go false = by_part place max message under_way queue

  pub by_taken : {P : Type 0} (now max : ℕ) (old new : SendQueueState) (before after : List (Event P)) (part : Fragment) → TakesFragment now max old before part new after → Relates old.streams new.streams
  by_taken now max old new before after part takes =
      subst (λ (q : SendQueueState). Relates old.streams q.streams) (sym takes.left)
      (follows.both old.streams takes.queue.streams (queue_after_producing takes.place max takes.message takes.under_way takes.queue).streams (by_dropped now old takes.drops.events takes.queue takes.drops.drops)
      (by_produced takes.place max takes.message takes.under_way takes.queue))

  pub by_discarded : {P : Type 0} (old new : SendQueueState) (stream message_id : ℕ) (before after : List (Event P)) (dropped : Bool) → DiscardsNamed old stream message_id before dropped new after
      → Relates old.streams new.streams
  by_discarded old new stream message_id before after true discards =
      subst (λ (q : SendQueueState). Relates old.streams q.streams) (sym discards.left) (by_rest discards.named.place discards.named.under_way.sent discards.named.message old)
  by_discarded old new stream message_id before after false discards = subst (λ (q : SendQueueState). Relates old.streams q.streams) (sym discards.1) (follows.same old.streams)

  -- ---- while a packet is filled

  abbrev pub StagesRelate : Stage → Stage → Type 0
  StagesRelate old new = Relates old.waiting.streams new.waiting.streams

  stages_then : (old between new : Stage) → StagesRelate old between → StagesRelate between new → StagesRelate old new
  stages_then old between new one two = follows.both old.waiting.streams between.waiting.streams new.waiting.streams one two

  same_stage : (old new : Stage) → new.waiting ≡ old.waiting → StagesRelate old new
  same_stage old new same = subst (λ (q : SendQueueState). Relates old.waiting.streams q.streams) (sym same) (follows.same old.waiting.streams)

  by_closing : (now : ℕ) (last : Item) (old new : Stage) (is_end : Bool) → ClosesMessage now last old new is_end → StagesRelate old new
  by_closing now last old new true closes = same_stage old new (ap (λ (s : Stage). s.waiting) closes)
  by_closing now last old new false closes =
      elim closes [
        | inl e ↦ by_discarded old.waiting new.waiting last.fragment.stream last.fragment.message_id old.told new.told e.1.drops.is_dropped e.1.drops.drops
        | inr e ↦ same_stage old new (ap (λ (s : Stage). s.waiting) e.1)
      ]

  pub by_giving_up : (now place : ℕ) (old new : Stage) → GivesUpItem now place old new → StagesRelate old new
  by_giving_up now place old new gives =
      stages_then old gives.closed new (by_closing now gives.last old gives.closed gives.last.fragment.is_end gives.closes) (same_stage gives.closed new (ap (λ (s : Stage). s.waiting) gives.is))

  pub by_step_again : (now : ℕ) (old new : Stage) → StepAgain now old new → StagesRelate old new
  by_step_again now old new step =
      elim step [
        | inl e ↦ same_stage old new (ap (λ (s : Stage). s.waiting) e.1.is)
        | inr e ↦ by_giving_up now e.place old new e.gives_up
      ]

  pub by_step_new : (now : ℕ) (old new : Stage) → StepNew now old new → StagesRelate old new
  by_step_new now old new step =
      elim step.1 [
        | inl e ↦ by_taken now (payload_room (header old.queue.outstanding) old.room) old.waiting new.waiting old.told new.told e.item.fragment e.takes
        | inr e ↦ by_dropped now old.waiting e.takes.drops.events new.waiting e.takes.drops.drops
      ]

  pub by_steps : (OneStep : Stage → Stage → Type 0) → ((old new : Stage) → OneStep old new → StagesRelate old new) → (old new : Stage) → StageSteps OneStep old new → StagesRelate old new
  by_steps OneStep each old new steps_none = follows.same old.waiting.streams
  by_steps OneStep each old new (steps_more between _ steps step) = stages_then old between new (by_steps OneStep each old between steps) (each between new step)

  pub by_filling : (now : ℕ) (old new : Stage) → FillsPacket now old new → StagesRelate old new
  by_filling now old new fills =
      stages_then old fills.sent new
      (stages_then old fills.fills.resent fills.sent (by_steps (StepAgain now) (by_step_again now) old fills.fills.resent fills.fills.again)
      (by_steps (StepNew now) (by_step_new now) (resent_packet_counted old.room fills.fills.resent) fills.sent fills.fills.anew))
      (same_stage fills.sent new (ap (λ (s : Stage). s.waiting) fills.is))

  -- ---- one packet, before the request and after it

  by_giving_up_where : (b : Bool) (now room : ℕ) (transfer : Transfer) (old new : Stage) (next : Option ℕ) (chunks : List Plain) → GivesUpThenForwards b now transfer room old new (forward_made next chunks) → StagesRelate old new
  by_giving_up_where true now room transfer old new next chunks gives = by_steps (GivesUpFirst now) (λ o n s. by_giving_up now s.place o n s.gives_up) old new gives.0.steps
  by_giving_up_where false now room transfer old new next chunks gives = same_stage old new (ap (λ (s : Stage). s.waiting) gives.0)

  by_filling_where : (now : ℕ) (b : Bool) (old new : Stage) → FillsIfAllowed b now old new → StagesRelate old new
  by_filling_where now true old new fills = by_filling now old new fills
  by_filling_where now false old new fills = elim fills [ inl e ↦ same_stage old new (ap (λ (s : Stage). s.waiting) e) | inr e ↦ by_filling now old new e ]

  pub before_request : (ask : Ask) (e : Endpoint) (draft : Emission) (transfer : Transfer) (answer : Answer) (gives : Gives ask e draft transfer answer) → Relates e.queues.queue.streams gives.gave_up.waiting.streams
  before_request ask e draft transfer answer gives =
      by_giving_up_where (may_forward ask e transfer.retransmission) e.moment (room_of_draft e (filled_draft draft (plain_contents gives.sacks))) transfer (stage_of e.queues.queue transfer.retransmission [] 0) gives.gave_up gives.next
      gives.forwards gives.gives_up

  pub after_request : (ask : Ask) (e : Endpoint) (draft : Emission) (transfer : Transfer) (answer : Answer) (gives : Gives ask e draft transfer answer)
      → Relates (queue_requesting (streams_within (room_of_draft e (filled_draft draft (plain_contents answer.acknowledgements)))) answer.begun gives.gave_up.waiting).streams gives.sent.waiting.streams
  after_request ask e draft transfer answer gives =
      let left : SendQueueState = queue_requesting (streams_within (room_of_draft e (filled_draft draft (plain_contents answer.acknowledgements)))) answer.begun gives.gave_up.waiting in
      let begun : RetransmissionState = retransmission_begun answer.begun gives.gave_up.queue in
      by_filling_where e.moment (may_give left begun) (stage_of left begun gives.gave_up.told (room_of_draft e (filled_draft draft (plain_contents answer.acknowledgements ++ request_contents answer.begun)))) gives.sent gives.fills
