-- What is in flight stays as it was sent first while no SACK and no SHUTDOWN is handled: nothing of
-- it is acknowledged.
use Rattle.std.proofs.Common.{◌≡◌, ℕ, zero, suc, Bool, true, false, Option, None, Some, List, [], ◌∷◌, ◌++◌, length, refl, sym, ap, subst, inl, inr, arith, ◌+◌}
use Rattle.std.specs.Prelude.{if◌then◌else◌, nat_lt, not, ◌⊎◌, ◌-◌}
use Rattle.std.proofs.lemmas.Bool.{eq-eqb}
use Rattle.std.proofs.lemmas.List.Sums.{sum_by-cons}
use Rattle.dcsctp_spec_lemmas.specs.types.declared.capabilities.Capabilities.{Capabilities}
use Rattle.dcsctp_spec_lemmas.specs.types.declared.progress.Change.{Change}
use Rattle.dcsctp_spec_lemmas.specs.types.declared.progress.Change.TheVariants.{SendAgain, Mark, Abandon}
use Rattle.dcsctp_spec_lemmas.specs.types.declared.progress.ItemState.{ItemState}
use Rattle.dcsctp_spec_lemmas.specs.types.declared.progress.ItemState.TheVariants.{InFlight, Marked, Acknowledged, Abandoned}
use Rattle.dcsctp_spec_lemmas.specs.types.declared.progress.Progress.{Progress}
use Rattle.dcsctp_spec_lemmas.specs.types.queues.Progress.{marked_lost, progress_changed}
use Rattle.dcsctp_spec_lemmas.specs.spec.Packet.{Content, Emission}
use Rattle.dcsctp_spec_lemmas.specs.spec.association.Choices.{plain_contents}
use Rattle.dcsctp_spec_lemmas.specs.spec.endpoint.Endpoint.{Endpoint}
use Rattle.dcsctp_spec_lemmas.specs.spec.endpoint.BegunResets.{BegunReset, streams_within, request_contents, queue_requesting, retransmission_begun}
use Rattle.dcsctp_spec_lemmas.specs.spec.endpoint.FlushOutcomes.{Answer, answer_contents, filled_draft, asked_outcome, next_draft, flush_of, Ask, first_ask, later_ask, packets_allowed, room_of_draft, stage_of, may_forward, GivesUpThenForwards, FillsIfAllowed, Gives, GivesUnlessIdle, IsAnswerOfQueues, IsFlushAnswer, AreFlushAnswers, at_limit, at_empty, after_packet, forward_made}
use Rattle.dcsctp_spec_lemmas.specs.spec.endpoint.TransferMoves.{timed_transfer}
use Rattle.dcsctp_spec_lemmas.specs.spec.queues.Abandoning.{GivesUpFirst, GivesUpAll}
use Rattle.dcsctp_spec_lemmas.specs.spec.queues.AtOnce.{empty_stage, SendsAtOnce}
use Rattle.dcsctp_spec_lemmas.specs.spec.queues.Filling.{Stage, DropsRestOfMessage, ClosesMessage, GivesUpItem, SendsMarked, SendsNew, FindsNone, StepAgain, StepNew, StageSteps, none, more, resent_packet_counted, FillsPacket}
use Rattle.dcsctp_spec_lemmas.specs.spec.queues.ItemMessages.{EndsDropped}
use Rattle.dcsctp_spec_lemmas.specs.spec.queues.Items.{Item, number_or_zero, never_acknowledged_count, never_acknowledged_items, changed_between}
use Rattle.dcsctp_spec_lemmas.specs.spec.queues.Outstanding.{OutstandingState, is_untouched}
use Rattle.dcsctp_spec_lemmas.specs.spec.queues.Retransmission.{RetransmissionState, outstanding_count, counted_again, after_expiry}
use Rattle.dcsctp_spec_lemmas.specs.spec.queues.SendQueue.{SendQueueState}
use Rattle.dcsctp_spec_lemmas.specs.spec.queues.Transfer.{Transfer, EndpointQueues, may_give, is_idle}
use Rattle.dcsctp_delivery_directions.proofs.sending.Packets.{out_below}
use Rattle.dcsctp_delivery_sockets.specs.turns.Actions.{Ledger, AcknowledgesNothing, Action, Actions, nothing, further}
use Rattle.dcsctp_delivery_sockets.specs.turns.Actions as actions
use Rattle.dcsctp_delivery_sockets.specs.turns.Untouched.{NoneAcknowledged, AreFirst, IsUntouched, IsTransferUntouched}
use Rattle.dcsctp_delivery_sockets.proofs.turns.Received.{data_where, forward_where}

-- ---- items

none_append : (items others : List Item) → NoneAcknowledged items → NoneAcknowledged others → NoneAcknowledged (items ++ others)
none_append [] others are they_are = they_are
none_append (item ∷ items) others are they_are = (are.0, none_append items others are.1 they_are)

-- The change acknowledges nothing.
abbrev Keeps : Change → Type 0
Keeps change = (progress : Progress) → progress.was_acknowledged ≡ false → (progress_changed change progress).was_acknowledged ≡ false

marking_keeps : Keeps Mark
marking_keeps progress is = go progress.state
  where
    go : (state : ItemState) → (marked_lost state progress).was_acknowledged ≡ false
    go InFlight = is
    go Marked = is
    go Acknowledged = is
    go Abandoned = is

changed_none : (change : Change) → Keeps change → (start end : ℕ) (items : List Item) → NoneAcknowledged items → NoneAcknowledged (changed_between change start end items)
changed_none change keeps zero zero items are = are
changed_none change keeps zero (suc end) [] are = are
changed_none change keeps zero (suc end) (item ∷ items) are = (keeps item.progress are.0, changed_none change keeps zero end items are.1)
changed_none change keeps (suc start) zero items are = are
changed_none change keeps (suc start) (suc end) [] are = are
changed_none change keeps (suc start) (suc end) (item ∷ items) are = (are.0, changed_none change keeps start end items are.1)

never_counts : (items : List Item) → NoneAcknowledged items → never_acknowledged_items items ≡ length items
never_counts [] are = refl
never_counts (item ∷ items) are = (let rest = never_counts items are.1 in let one : never_acknowledged_count item ≡ 1 = ap (λ (b : Bool). number_or_zero (not b) 1) are.0 in omega (arith, sum_by-cons never_acknowledged_count item items, one, rest))

pub untouched_is : (first : ℕ) (kinds : Capabilities) (state : RetransmissionState) → IsUntouched first kinds state → is_untouched first state.outstanding ≡ true
untouched_is first kinds state h =
    rw (eq-eqb state.outstanding.first_tsn first h.0.0) (rw (eq-eqb (never_acknowledged_items state.outstanding.items) (length state.outstanding.items) (never_counts state.outstanding.items h.0.2)) refl)

module _ (first : ℕ) (kinds : Capabilities) where
  abbrev StageIs : Stage → Type 0
  StageIs stage = IsUntouched first kinds stage.queue

  -- ---- what is abandoned

  dropped_out : (now : ℕ) (begins : Bool) (last : Item) (old new : OutstandingState) (b : Bool) → AreFirst first kinds.message_interleaving old → EndsDropped now begins last old new b → AreFirst first kinds.message_interleaving new
  dropped_out now begins last old new true h does =
      subst (AreFirst first kinds.message_interleaving) (sym does.grows) (h.0, h.1, none_append old.items (does.item ∷ []) h.2 (ap (λ (p : Progress). p.was_acknowledged) does.is_end.progress, tt))
  dropped_out now begins last old new false h does = subst (AreFirst first kinds.message_interleaving) (sym does) h

  drops_is : (now : ℕ) (last : Item) (old new : Stage) → StageIs old → DropsRestOfMessage now last old new → StageIs new
  drops_is now last old new h does =
      subst StageIs (sym does.is) (dropped_out now old.queue.reset_begun last old.queue.outstanding does.outstanding does.drops.is_dropped h.0 does.drops.ends, h.1)

  closes_is : (now : ℕ) (last : Item) (old new : Stage) (b : Bool) → StageIs old → ClosesMessage now last old new b → StageIs new
  closes_is now last old new true h does = subst StageIs (sym does) h
  closes_is now last old new false h (inl does) = drops_is now last old new h does.1
  closes_is now last old new false h (inr does) = subst StageIs (sym does.1) h

  gives_up_is : (now place : ℕ) (old new : Stage) → StageIs old → GivesUpItem now place old new → StageIs new
  gives_up_is now place old new h does =
      let closed : StageIs does.closed = closes_is now does.last old does.closed does.last.fragment.is_end h does.closes in
      subst StageIs (sym does.is) ((closed.0.0, closed.0.1, changed_none Abandon (λ progress is. is) does.start (does.last_place + 1) does.closed.queue.outstanding.items closed.0.2), closed.1)

  -- ---- steps

  sends_marked_is : (now : ℕ) (old new : Stage) → StageIs old → SendsMarked now old new → StageIs new
  sends_marked_is now old new h does =
      subst StageIs (sym does.is) ((h.0.0, h.0.1, changed_none (SendAgain _) (λ progress is. is) does.place (does.place + 1) old.queue.outstanding.items h.0.2), h.1)

  again_is : (now : ℕ) (old new : Stage) → StageIs old → StepAgain now old new → StageIs new
  again_is now old new h (inl does) = sends_marked_is now old new h does.1
  again_is now old new h (inr does) = gives_up_is now does.place old new h does.gives_up

  anew_is : (now : ℕ) (old new : Stage) → StageIs old → SendsNew now old new ⊎ FindsNone now old new → StageIs new
  anew_is now old new h (inl does) =
      subst StageIs (sym does.is) ((h.0.0, h.0.1, none_append old.queue.outstanding.items (does.item ∷ []) h.0.2 (ap (λ (p : Progress). p.was_acknowledged) does.is_fresh.progress, tt)), h.1)
  anew_is now old new h (inr does) = subst StageIs (sym does.is) h

  steps_are : (Step : Stage → Stage → Type 0) → ((old new : Stage) → StageIs old → Step old new → StageIs new) → (old new : Stage) → StageIs old → StageSteps Step old new → StageIs new
  steps_are Step step old _ h none = h
  steps_are Step step old new h (more between _ steps last) = step between new (steps_are Step step old between h steps) last

  counted_is : (size : ℕ) (state : RetransmissionState) → IsUntouched first kinds state → IsUntouched first kinds (counted_again size state)
  counted_is size state h = go (nat_lt 0 size) _ h
    where
      go : (b : Bool) (one : RetransmissionState) → IsUntouched first kinds one → IsUntouched first kinds (if b then one else state)
      go true one is = is
      go false one is = h

  -- ---- a packet

  fills_is : (now : ℕ) (old new : Stage) → StageIs old → FillsPacket now old new → StageIs new
  fills_is now old new h does =
      let resent : StageIs does.fills.resent = steps_are (StepAgain now) (again_is now) old does.fills.resent h does.fills.again in
      let counted : StageIs (resent_packet_counted old.room does.fills.resent) = counted_is (old.room - does.fills.resent.room) does.fills.resent.queue resent in
      subst StageIs (sym does.is) (steps_are (StepNew now) (λ o n k step. anew_is now o n k step.1) (resent_packet_counted old.room does.fills.resent) does.sent counted does.fills.anew)

  fills_where_is : (b : Bool) (now : ℕ) (old new : Stage) → StageIs old → FillsIfAllowed b now old new → StageIs new
  fills_where_is true now old new h does = fills_is now old new h does
  fills_where_is false now old new h (inl same) = subst StageIs (sym same) h
  fills_where_is false now old new h (inr does) = fills_is now old new h does

  gives_all_is : (now : ℕ) (old new : Stage) → StageIs old → GivesUpAll now old new → StageIs new
  gives_all_is now old new h does = steps_are (GivesUpFirst now) (λ o n k step. gives_up_is now step.place o n k step.gives_up) old new h does.steps

  begun_is : (begun : Option BegunReset) (state : RetransmissionState) → IsUntouched first kinds state → IsUntouched first kinds (retransmission_begun begun state)
  begun_is None state h = h
  begun_is (Some begun) state h = h

  at_once_is : (now bytes : ℕ) (waiting : SendQueueState) (old new : RetransmissionState) (tsns : List ℕ) → IsUntouched first kinds old → SendsAtOnce now bytes waiting old new tsns → IsUntouched first kinds new
  at_once_is now bytes waiting old new tsns h does =
      let resent : IsUntouched first kinds does.resent =
      steps_are (SendsMarked now) (sends_marked_is now) (empty_stage (record old { fast_retransmit_due = false }) waiting bytes) (record (empty_stage does.resent waiting does.room) { tsns = tsns }) h does.steps in
      subst (IsUntouched first kinds) (sym does.is) (counted_is (bytes - does.room) does.resent resent)

  lost_is : (now : ℕ) (state : RetransmissionState) → IsUntouched first kinds state → IsUntouched first kinds (after_expiry now state)
  lost_is now state h = ((h.0.0, h.0.1, changed_none Mark marking_keeps 0 (outstanding_count state) state.outstanding.items h.0.2), h.1)

  timed_is : (round_trip : Option ℕ) (transfer : Transfer) → IsUntouched first kinds transfer.retransmission → IsUntouched first kinds (timed_transfer round_trip transfer).retransmission
  timed_is None transfer h = h
  timed_is (Some round_trip) transfer h = h

  -- ---- a flush

  pub of_known : (transfer : Transfer) (below : Option Transfer) → below ≡ Some transfer → IsTransferUntouched first kinds below → IsUntouched first kinds transfer.retransmission
  of_known transfer below known is = subst (IsTransferUntouched first kinds) known is

  given_up : (b : Bool) (now : ℕ) (transfer : Transfer) (room : ℕ) (old new : Stage) (next : _) (forwards : _) → StageIs old → GivesUpThenForwards b now transfer room old new (forward_made next forwards) → StageIs new
  given_up false now transfer room old new next forwards h does = subst StageIs (sym does.0) h
  given_up true now transfer room old new next forwards h does = gives_all_is now old new h does.0

  gives_is : (ask : Ask) (e : Endpoint) (draft : Emission) (transfer : Transfer) (answer : Answer) → IsUntouched first kinds transfer.retransmission → Gives ask e draft transfer answer → IsTransferUntouched first kinds answer.after.queues.transfer
  gives_is ask e draft transfer answer is gives =
      let gave : StageIs gives.gave_up =
      given_up (may_forward ask e transfer.retransmission) e.moment transfer (room_of_draft e (filled_draft draft (plain_contents gives.sacks))) (stage_of e.queues.queue transfer.retransmission [] 0) gives.gave_up gives.next gives.forwards is gives.gives_up in
      let left : SendQueueState = queue_requesting (streams_within (room_of_draft e (filled_draft draft (plain_contents answer.acknowledgements)))) answer.begun gives.gave_up.waiting in
      let begun : RetransmissionState = retransmission_begun answer.begun gives.gave_up.queue in
      subst (λ (b : EndpointQueues). IsTransferUntouched first kinds b.transfer) (sym gives.below)
      (fills_where_is (may_give left begun) e.moment
      (stage_of left begun gives.gave_up.told (room_of_draft e (filled_draft draft (plain_contents answer.acknowledgements ++ request_contents answer.begun)))) gives.sent
      (begun_is answer.begun gives.gave_up.queue gave) gives.fills)

  gives_where_is : (b : Bool) (ask : Ask) (e : Endpoint) (draft : Emission) (transfer : Transfer) (answer : Answer) → e.queues.transfer ≡ Some transfer → IsTransferUntouched first kinds e.queues.transfer → GivesUnlessIdle b ask e draft transfer answer → IsTransferUntouched first kinds answer.after.queues.transfer
  gives_where_is true ask e draft transfer answer known is gives = subst (λ (a : Answer). IsTransferUntouched first kinds a.after.queues.transfer) (sym gives) is
  gives_where_is false ask e draft transfer answer known is gives = gives_is ask e draft transfer answer (subst (IsTransferUntouched first kinds) known is) gives

  answered_is : (ask : Ask) (e : Endpoint) (draft : Emission) (transfer : Option Transfer) (answer : Answer) → e.queues.transfer ≡ transfer → IsTransferUntouched first kinds e.queues.transfer → IsAnswerOfQueues ask e draft answer transfer → IsTransferUntouched first kinds answer.after.queues.transfer
  answered_is ask e draft None answer known is answered = subst (λ (a : Answer). IsTransferUntouched first kinds a.after.queues.transfer) (sym answered) is
  answered_is ask e draft (Some transfer) answer known is answered = gives_where_is (is_idle e.queues.queue transfer) ask e draft transfer answer known is answered

  asked_is : (ask : Ask) (e : Endpoint) (draft : Emission) (answer : Answer) → IsTransferUntouched first kinds e.queues.transfer → IsFlushAnswer ask e draft answer → IsTransferUntouched first kinds (asked_outcome e draft answer).after.queues.transfer
  asked_is ask e draft answer is answered =
      subst (λ (b : EndpointQueues). IsTransferUntouched first kinds b.transfer) (sym (out_below answer.after _ draft.with_checksum draft.packet.tag (filled_draft draft (answer_contents answer)).packet.contents))
      (answered_is ask e draft e.queues.transfer answer refl is answered.by_transfer)

  answers_are : (ask : Ask) (n : ℕ) (e : Endpoint) (draft : Emission) (answers : List Answer) → IsTransferUntouched first kinds e.queues.transfer → AreFlushAnswers ask n e draft answers → IsTransferUntouched first kinds (flush_of e draft answers).after.queues.transfer
  answers_are _ _ _ _ _ is (at_limit ask e draft) = is
  answers_are _ _ _ _ _ is (at_empty ask left e draft answer answered empty) = asked_is ask e draft answer is answered
  answers_are _ _ _ _ _ is (after_packet ask left e draft answer answers answered some rest) =
      answers_are later_ask left (asked_outcome e draft answer).after (next_draft e.core draft) answers (asked_is ask e draft answer is answered) rest

  -- ---- each action

  action_is : (came : Option Content) (to : ℕ) (old new : Ledger) → AcknowledgesNothing came → IsTransferUntouched first kinds old.queues.transfer → Action came to old new → IsTransferUntouched first kinds new.queues.transfer
  action_is came to old _ calm h (actions.queues now sending fits some) = h
  action_is came to old _ calm h (actions.sets setting small) = h
  action_is came to old _ calm h (actions.flushes e draft answers below at same no_data no_end stale says allowed) =
      answers_are first_ask (packets_allowed e.options.max_burst e.core) e draft answers (subst (λ (b : EndpointQueues). IsTransferUntouched first kinds b.transfer) (sym below) h) allowed
  action_is came to old _ calm h (actions.resends now room transfer left tsns chunks emission tag known sends are contents) =
      at_once_is now room old.queues.queue transfer.retransmission left tsns (of_known transfer old.queues.transfer known h) sends
  action_is came to old _ calm h (actions.resends_nothing now room transfer left tsns known sends) = at_once_is now room old.queues.queue transfer.retransmission left tsns (of_known transfer old.queues.transfer known h) sends
  action_is came to old _ calm h (actions.speaks emission no_data stale says) = h
  action_is came to old _ calm h (actions.asks_again emission begun tag has contents) = h
  action_is came to old _ calm h (actions.acknowledges now sack transfer new may known valid takes) = absurd (calm sack.cumulative_tsn_ack may)
  action_is came to old _ calm h (actions.loses now transfer known) = lost_is now transfer.retransmission (of_known transfer old.queues.transfer known h)
  action_is came to old _ calm h (actions.receives chunk transfer new is some known does) =
      subst (IsUntouched first kinds) (sym (data_where _ _ transfer new does)) (of_known transfer old.queues.transfer known h)
  action_is came to old _ calm h (actions.receives_interleaved chunk transfer new is some known does) =
      subst (IsUntouched first kinds) (sym (data_where _ _ transfer new does)) (of_known transfer old.queues.transfer known h)
  action_is came to old _ calm h (actions.forwards tsn streams transfer new is known does) =
      subst (IsUntouched first kinds) (sym (forward_where _ tsn _ transfer new does)) (of_known transfer old.queues.transfer known h)
  action_is came to old _ calm h (actions.forwards_interleaved tsn streams transfer new is known does) =
      subst (IsUntouched first kinds) (sym (forward_where _ tsn _ transfer new does)) (of_known transfer old.queues.transfer known h)
  action_is came to old _ calm h (actions.tracks transfer tracker known same_tsn same_ranges) = of_known transfer old.queues.transfer known h
  action_is came to old _ calm h (actions.times round_trip transfer known) = timed_is round_trip transfer (of_known transfer old.queues.transfer known h)
  action_is came to old _ calm h (actions.takes transfer message messages known ready) = of_known transfer old.queues.transfer known h

  pub actions_are : (came : Option Content) (to : ℕ) (old new : Ledger) → AcknowledgesNothing came → IsTransferUntouched first kinds old.queues.transfer → Actions came to old new → IsTransferUntouched first kinds new.queues.transfer
  actions_are came to old _ calm h nothing = h
  actions_are came to old new calm h (further between _ before last) = action_is came to between new calm (actions_are came to old between calm h before) last
