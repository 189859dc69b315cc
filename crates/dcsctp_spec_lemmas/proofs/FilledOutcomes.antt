-- Each packet can be filled, and each filling that was begun can be completed.
use Rattle.std.proofs.Common.{◌≡◌, ◌∙◌, ◌⊎◌, inl, inr, ℕ, ◌+◌, ◌-◌, ◌^◌, min, nat_lt, Bool, true, false, if◌then◌else◌, None, List, [], ◌++◌, append_assoc, refl, ap, sym, subst}
use Rattle.std.proofs.lemmas.List.{append-nil}
use Rattle.dcsctp_spec.specs.endpoint.Event.{Event}
use Rattle.dcsctp_spec.specs.queues.Filling.{Stage, StepAgain, MayAdd, StepNew, StageSteps, none, resent_packet_counted, FillsPacket}
use Rattle.dcsctp_spec.specs.queues.Items.{marked_items}
use Rattle.dcsctp_spec.specs.queues.NextItem.{IsNextMarked, is_abandonment_due, FirstStays, WaitsForRoom, HaltsAgain, Halts}
use Rattle.dcsctp_spec.specs.queues.Outstanding.{OutstandingState}
use Rattle.dcsctp_spec.specs.queues.Retransmission.{RetransmissionState, can_send, timer_with, counted_again}
use Rattle.dcsctp_spec.specs.queues.SendQueue.{SendQueueState}
use Rattle.dcsctp_spec.specs.queues.Sending.{Drops}
use Rattle.dcsctp_spec_lemmas.proofs.ResendingOutcomes.{resent_from}
use Rattle.dcsctp_spec_lemmas.proofs.SendingOutcomes.{sent_from, sent_from_dropped}

-- A packet is full, with these events and then some more.
pub record Filled (now : ℕ) (old : Stage) (before : List (Event (List ℕ))) : Type 0 where
  pub new : Stage
  pub fills : FillsPacket now old new
  pub rest : List (Event (List ℕ))
  pub told : new.told ≡ before ++ rest

told_before : (now : ℕ) (old : Stage) (a b more : List (Event (List ℕ))) → b ≡ a ++ more → Filled now old b → Filled now old a
told_before now old a b more is f =
    record {
      new = f.new;
      fills = f.fills;
      rest = more ++ f.rest;
      told = f.told ∙ (ap (λ (es : List (Event (List ℕ))). es ++ f.rest) is ∙ append_assoc a more f.rest);
    }

-- A packet that is counted leaves all else.
pub record CountsAlone (old new : RetransmissionState) : Type 0 where
  pub outstanding : new.outstanding ≡ old.outstanding
  pub can : can_send new ≡ can_send old
  pub partial_reliability : new.partial_reliability ≡ old.partial_reliability

pub counts_alone : (size : ℕ) (state : RetransmissionState) → CountsAlone state (counted_again size state)
counts_alone size state = go (nat_lt 0 size)
  where
    go : (b : Bool) → CountsAlone state (if b then record state { packets_retransmitted = min (state.packets_retransmitted + 1) (2 ^ 64 - 1); bytes_retransmitted = min (state.bytes_retransmitted + size) (2 ^ 64 - 1) } else state)
    go true = record { outstanding = refl; can = refl; partial_reliability = refl }
    go false = record { outstanding = refl; can = refl; partial_reliability = refl }

-- the timer runs then
full : (now : ℕ) (old resent sent : Stage) → StageSteps (StepAgain now) old resent → StageSteps (StepNew now) (resent_packet_counted old.room resent) sent
    → Halts now sent.room sent.queue sent.waiting → Filled now old sent.told
full now old resent sent again anew halts =
    record {
      new = record sent { queue = record sent.queue { timer = timer_with now sent.queue.outstanding.items sent.queue.timer } };
      fills = record { sent = sent; fills = record { resent = resent; again = again; anew = anew }; halts = halts; is = refl };
      rest = [];
      told = sym (append-nil sent.told);
    }

pub filled_from_new : (now : ℕ) (old resent mid : Stage) → StageSteps (StepAgain now) old resent → StageSteps (StepNew now) (resent_packet_counted old.room resent) mid → marked_items mid.queue.outstanding.items ≡ 0
    → Filled now old mid.told
filled_from_new now old resent mid again anew unmarked =
    let (sent, steps, still, halts, (rest, told)) = sent_from now (resent_packet_counted old.room resent) mid anew unmarked in
    told_before now old mid.told sent.told rest told (full now old resent sent again steps (inr (still, halts)))

-- Messages were dropped that are too old: their events come first.
pub filled_from_dropped : (now : ℕ) (old resent mid : Stage) (events : List (Event (List ℕ))) (left : SendQueueState) → StageSteps (StepAgain now) old resent → StageSteps (StepNew now) (resent_packet_counted old.room resent) mid → MayAdd mid
    → mid.waiting.held ≡ None → Drops now mid.waiting events left → Filled now old (mid.told ++ events)
filled_from_dropped now old resent mid events left again anew may idle drops =
    let (sent, steps, still, halts, (rest, told)) = sent_from_dropped now (resent_packet_counted old.room resent) mid events left anew may idle drops in
    told_before now old (mid.told ++ events) sent.told rest (told ∙ sym (append_assoc mid.told events rest)) (full now old resent sent again steps (inr (still, halts)))

-- The first item stays as long as it is the same.
pub stays_kept : (now : ℕ) (old new : RetransmissionState) → new.outstanding ≡ old.outstanding → new.partial_reliability ≡ old.partial_reliability → FirstStays now old → FirstStays now new
stays_kept now old new same negotiated stays =
    let (place, (next, is)) = subst (λ (b : Bool). StaysOf b new.outstanding) (sym negotiated)
    (subst (StaysOf old.partial_reliability) (sym same) (stays.place, (stays.next, stays.stays))) in
    record { place = place; next = next; stays = is }
  where
    StaysOf : Bool → OutstandingState → Type 0
    StaysOf b outstanding = (place : ℕ) × ((next : IsNextMarked place outstanding.items) × (is_abandonment_due now b next.marked.item ≡ false))

-- by why nothing more is sent again
after_again : (now : ℕ) (old resent : Stage) → StageSteps (StepAgain now) old resent → HaltsAgain now resent.room resent.queue → Filled now old resent.told
after_again now old resent again (inl unmarked) =
    let counts : CountsAlone resent.queue (counted_again (old.room - resent.room) resent.queue) = counts_alone (old.room - resent.room) resent.queue in
    filled_from_new now old resent (resent_packet_counted old.room resent) again none (ap (λ (o : OutstandingState). marked_items o.items) counts.outstanding ∙ unmarked)
after_again now old resent again (inr (stays, why)) =
    let counts : CountsAlone resent.queue (counted_again (old.room - resent.room) resent.queue) = counts_alone (old.room - resent.room) resent.queue in
    full now old resent (resent_packet_counted old.room resent) again none (inl (stays_kept now resent.queue (resent_packet_counted old.room resent).queue counts.outstanding counts.partial_reliability stays, held_back why counts))
  where
    held_back : (can_send resent.queue ≡ false) ⊎ WaitsForRoom resent.room resent.queue.outstanding → CountsAlone resent.queue (resent_packet_counted old.room resent).queue
        → (can_send (resent_packet_counted old.room resent).queue ≡ false) ⊎ WaitsForRoom resent.room (resent_packet_counted old.room resent).queue.outstanding
    held_back (inl shut) counts = inl (counts.can ∙ shut)
    held_back (inr waits) counts = inr (subst (WaitsForRoom resent.room) (sym counts.outstanding) waits)

pub filled_from_again : (now : ℕ) (old mid : Stage) → StageSteps (StepAgain now) old mid → Filled now old mid.told
filled_from_again now old mid again =
    let (resent, steps, halts, (rest, told)) = resent_from now old mid again in
    told_before now old mid.told resent.told rest told (after_again now old resent steps halts)

pub some_filled : (now : ℕ) (old : Stage) → Filled now old old.told
some_filled now old = filled_from_again now old old none
