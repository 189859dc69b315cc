-- If an allocation fails while a packet is filled, the events so far are the first part of those of some whole filling.
use Rattle.std.proofs.Common.{◌≡◌, ◌∙◌, ◌⊎◌, inl, inr, ℕ, ◌+◌, ◌-◌, ◌^◌, min, nat_lt, Bool, true, false, if◌then◌else◌, List, ◌++◌, refl, ap, sym, subst, arith}
use Rattle.dcsctp_send_retransmission.specs.types.declared.progress.Change.TheVariants.{Abandon}
use Rattle.dcsctp_send_retransmission.specs.spec.endpoint.Event.{Event}
use Rattle.dcsctp_send_retransmission.specs.spec.queues.Filling.{Stage, payload_room, StepAgain, MayAdd, StepNew, StageSteps, none, more, resent_packet_counted}
use Rattle.dcsctp_send_retransmission.specs.spec.queues.Items.{Item, marked_items}
use Rattle.dcsctp_send_retransmission.specs.spec.queues.NextItem.{IsNextMarked}
use Rattle.dcsctp_send_retransmission.specs.spec.queues.Outstanding.{header}
use Rattle.dcsctp_send_retransmission.specs.spec.queues.SendQueue.{SendQueueState}
use Rattle.dcsctp_send_retransmission.proofs.spec_lemmas.FilledOutcomes.{filled_from_again, filled_from_new}
use Rattle.dcsctp_send_retransmission.proofs.spec_lemmas.MarkedItemLemmas.{fewer_marked}
use Rattle.dcsctp_send_retransmission.proofs.spec_lemmas.SendingOutcomes.{none_marked}
use Rattle.dcsctp_send_retransmission.proofs.spec_lemmas.ToldLemmas.{behind_events, may_before, before_again, before_anew, before_steps}
use Rattle.dcsctp_send_retransmission.specs.send_queue.Calls.{StopsTaking}
use Rattle.dcsctp_send_retransmission.specs.States.{RefusesUp, RefusesStep, StopsFilling}
use Rattle.dcsctp_send_retransmission.proofs.SendingLemmas.{counted_outstanding}
use Rattle.dcsctp_transfer.proofs.StoppedTakingLemmas.{FillsTelling, told_less, fills_same, taking_front}
use Rattle.dcsctp_transfer.proofs.StoppedUpLemmas.{gives_up_telling}

abbrev Events : Type 0
Events = List (Event (List ℕ))

-- ---- nothing waits to be sent again once a new chunk was sent

unmarked_after : (now : ℕ) (old new : Stage) → StepNew now old new → marked_items new.queue.outstanding.items ≡ 0
unmarked_after now old new (may, inl sends) =
    ap (λ (s : Stage). marked_items s.queue.outstanding.items) sends.is ∙ none_marked old.queue.outstanding.items sends.item sends.is_fresh.progress may.none_marked
unmarked_after now old new (may, inr finds) = ap (λ (s : Stage). marked_items s.queue.outstanding.items) finds.is ∙ may.none_marked

none_or_unmarked : (now : ℕ) (old new : Stage) → StageSteps (StepNew now) old new → (new ≡ old) ⊎ (marked_items new.queue.outstanding.items ≡ 0)
none_or_unmarked now old _ none = inl refl
none_or_unmarked now old _ (more between new steps step) = inr (unmarked_after now between new step)

no_next : (place : ℕ) (items : List Item) → IsNextMarked place items → marked_items items ≡ 0 → ⊥
no_next place items next unmarked =
    let fewer = fewer_marked Abandon (λ progress. refl) place (place + 1) place items next.marked.item (omega arith) (omega arith) next.marked.at next.marked.is in
    omega (arith, fewer, unmarked)

-- ---- a packet that is counted

abbrev counted_if : Bool → ℕ → Stage → Stage
counted_if counts size s = record s {
  queue = if counts
      then record s.queue {
        packets_retransmitted = min (s.queue.packets_retransmitted + 1) (2 ^ 64 - 1);
        bytes_retransmitted = min (s.queue.bytes_retransmitted + size) (2 ^ 64 - 1);
      }
      else s.queue;
}

may_counted : (counts : Bool) (size : ℕ) (s : Stage) → MayAdd s → MayAdd (counted_if counts size s)
may_counted true size s may = record { allowed = may.allowed; none_marked = may.none_marked; fits = may.fits; comparable = may.comparable }
may_counted false size s may = may

up_uncounted : (counts : Bool) (size : ℕ) (front : Events) (now : ℕ) (s : Stage) (left : SendQueueState) (telling : Events) → RefusesUp now (behind_events front (counted_if counts size s)) left telling
    → RefusesUp now (behind_events front s) left telling
up_uncounted true size front now s left telling up = record { place = up.place; next = up.next; due = up.due; refused = up.refused; stays = up.stays }
up_uncounted false size front now s left telling up = up

-- ---- a further step

-- An allocation fails for a message that is to be abandoned.
up_front : (front : Events) (now : ℕ) (old mid : Stage) (left : SendQueueState) (telling : Events) → StageSteps (StepAgain now) old mid → RefusesUp now (behind_events front mid) left telling → FillsTelling front now old telling
up_front front now old mid left telling again up =
    let gives = gives_up_telling front now up.place mid up.next.marked.item telling up.next.marked.at up.refused in
    let step : StepAgain now mid gives.new = inr (record { place = up.place; next = up.next; due = up.due; gives_up = gives.up }) in
    record {
      first = gives.first;
      filled = told_less now old gives.first gives.rest gives.new.told gives.told (filled_from_again now old gives.new (more mid gives.new again step));
      tells = gives.tells;
    }

again_refused : (front : Events) (now : ℕ) (old resent : Stage) (left : SendQueueState) (telling : Events) → StageSteps (StepAgain now) old resent → RefusesStep now (behind_events front resent) left telling
    → FillsTelling front now old telling
again_refused front now old resent left telling again (inl same) = fills_same front now old resent telling (filled_from_again now old resent again) same.1
again_refused front now old resent left telling again (inr (inl up)) = up_front front now old resent left telling again up
again_refused front now old resent left telling again (inr (inr (may, stops))) =
    let size : ℕ = old.room - resent.room in
    let header_is = ap header (counted_outstanding size resent.queue) in
    let there = subst (λ (h : ℕ). StopsTaking now (payload_room h resent.room) resent.waiting (front ++ resent.told) left telling) (sym header_is) stops in
    taking_front front now old resent (resent_packet_counted old.room resent) left telling again none (may_counted (nat_lt 0 size) size resent (may_before front resent may)) there

anew_refused : (front : Events) (now : ℕ) (old resent mid : Stage) (left : SendQueueState) (telling : Events) → StageSteps (StepAgain now) old resent → StageSteps (StepNew now) (resent_packet_counted old.room resent) mid
    → RefusesStep now (behind_events front mid) left telling → FillsTelling front now old telling
anew_refused front now old resent mid left telling again anew (inl same) = elim (none_or_unmarked now (resent_packet_counted old.room resent) mid anew) [
  | inl is ↦ fills_same front now old resent telling (filled_from_again now old resent again) (same.1 ∙ ap (λ (s : Stage). front ++ s.told) is)
  | inr unmarked ↦ fills_same front now old mid telling (filled_from_new now old resent mid again anew unmarked) same.1
]
anew_refused front now old resent mid left telling again anew (inr (inl up)) = elim (none_or_unmarked now (resent_packet_counted old.room resent) mid anew) [
  | inl is ↦
      let size : ℕ = old.room - resent.room in
      let here = subst (λ (s : Stage). RefusesUp now (behind_events front s) left telling) is up in
      up_front front now old resent left telling again (up_uncounted (nat_lt 0 size) size front now resent left telling here)
  | inr unmarked ↦ absurd (no_next up.place mid.queue.outstanding.items up.next unmarked)
]
anew_refused front now old resent mid left telling again anew (inr (inr (may, stops))) = taking_front front now old resent mid left telling again anew (may_before front mid may) stops

pub stops_filling : (front : List (Event (List ℕ))) (now : ℕ) (old new : Stage) → StopsFilling now (behind_events front old) new → FillsTelling front now old new.told
stops_filling front now old new (inl stops) =
    let resent = before_steps (StepAgain now) front (before_again front now) old stops.at stops.steps in
    again_refused front now old resent.stripped new.waiting new.told resent.step (subst (λ (s : Stage). RefusesStep now s new.waiting new.told) resent.is stops.refused)
stops_filling front now old new (inr later) =
    let resent = before_steps (StepAgain now) front (before_again front now) old later.resent later.again in
    let counted : StageSteps (StepNew now) (behind_events front (resent_packet_counted old.room resent.stripped)) later.stops.at =
    subst (λ (s : Stage). StageSteps (StepNew now) (resent_packet_counted old.room s) later.stops.at) resent.is later.stops.steps in
    let anew = before_steps (StepNew now) front (before_anew front now) (resent_packet_counted old.room resent.stripped) later.stops.at counted in
    anew_refused front now old resent.stripped anew.stripped new.waiting new.told resent.step anew.step (subst (λ (s : Stage). RefusesStep now s new.waiting new.told) anew.is later.stops.refused)
