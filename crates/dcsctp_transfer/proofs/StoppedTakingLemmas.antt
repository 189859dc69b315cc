-- If an allocation fails for what the send queue gives, the events so far are the first part of those of some whole filling.
use Rattle.std.proofs.Common.{◌≡◌, ◌∙◌, inl, inr, ℕ, ◌-◌, false, List, [], ◌∷◌, ◌++◌, append_assoc, refl, ap, sym, subst}
use Rattle.dcsctp_send_retransmission.specs.spec.endpoint.Event.{Event}
use Rattle.dcsctp_send_retransmission.specs.spec.queues.Filling.{Stage, payload_room, SendsNew, StepAgain, MayAdd, StepNew, StageSteps, more, resent_packet_counted}
use Rattle.dcsctp_send_retransmission.specs.spec.queues.Items.{Item, item_size}
use Rattle.dcsctp_send_retransmission.specs.spec.queues.Outstanding.{header, next_tsn}
use Rattle.dcsctp_send_retransmission.specs.types.queues.Progress.{just_sent}
use Rattle.dcsctp_send_retransmission.specs.spec.queues.SendQueue.{SendQueueState}
use Rattle.dcsctp_send_retransmission.specs.spec.queues.Sending.{Drops, more as one_more_dropped, fragment, size_produced, queue_after_producing, produced_events}
use Rattle.dcsctp_send_retransmission.proofs.spec_lemmas.FilledOutcomes.{Filled, filled_from_new, filled_from_dropped}
use Rattle.dcsctp_send_retransmission.proofs.spec_lemmas.SendingOutcomes.{none_marked}
use Rattle.dcsctp_send_retransmission.proofs.spec_lemmas.TakingOutcomes.{drops_idle}
use Rattle.dcsctp_send_retransmission.specs.send_queue.Telling.{AddsFront}
use Rattle.dcsctp_send_retransmission.specs.send_queue.Calls.{DropsNext, PartNext, StopsTaking}

abbrev Events : Type 0
Events = List (Event (List ℕ))

-- The packet is filled, and the events after those in `front` are the first part of what the filling adds.
pub record FillsTelling (front : Events) (now : ℕ) (old : Stage) (telling : Events) : Type 0 where
  pub first : Events
  pub filled : Filled now old first
  pub tells : telling ≡ front ++ first

-- Fewer events were added than that.
pub told_less : (now : ℕ) (old : Stage) (first after whole : Events) → whole ≡ first ++ after → Filled now old whole → Filled now old first
told_less now old first after whole is filled =
    record {
      new = filled.new;
      fills = filled.fills;
      rest = after ++ filled.rest;
      told = filled.told ∙ (ap (λ (es : Events). es ++ filled.rest) is ∙ append_assoc first after filled.rest);
    }

-- A further step has added no event.
pub fills_same : (front : Events) (now : ℕ) (old mid : Stage) (telling : Events) → Filled now old mid.told → telling ≡ front ++ mid.told → FillsTelling front now old telling
fills_same front now old mid telling filled same = record { first = mid.told; filled = filled; tells = same }

-- A further step has added the first part of its events.
fills_front : (front : Events) (now : ℕ) (old : Stage) (before whole telling : Events) → Filled now old (before ++ whole) → AddsFront (front ++ before) whole telling → FillsTelling front now old telling
fills_front front now old before whole telling filled tells =
    record {
      first = before ++ tells.front;
      filled = told_less now old (before ++ tells.front) tells.rest (before ++ whole)
          (ap (λ (es : Events). before ++ es) tells.parts ∙ sym (append_assoc before tells.front tells.rest)) filled;
      tells = tells.told ∙ append_assoc front before tells.front;
    }

-- ---- what the send queue gives next

drops_front : (front : Events) (now : ℕ) (old resent mid : Stage) (left : SendQueueState) (telling : Events) → StageSteps (StepAgain now) old resent → StageSteps (StepNew now) (resent_packet_counted old.room resent) mid → MayAdd mid
    → (events : Events) → Drops now mid.waiting events left → (coming : Events) → DropsNext now left coming → AddsFront (front ++ (mid.told ++ events)) coming telling → FillsTelling front now old telling
drops_front front now old resent mid left telling again anew may events drops coming next tells =
    let idle = sym (drops_idle now mid.waiting left events drops) ∙ next.idle in
    let all = filled_from_dropped now old resent mid _ _ again anew may idle (one_more_dropped events left next.place next.message drops next.next next.front next.expired) in
    fills_front front now old (mid.told ++ events) coming telling
    (subst (Filled now old) (ap (λ (es : Events). mid.told ++ (events ++ es)) (sym next.is) ∙ sym (append_assoc mid.told events coming)) all) tells

-- the item with the fragment that is taken next
abbrev next_item : (now : ℕ) → (mid : Stage) → (left : SendQueueState) → (coming : Events) → PartNext now (payload_room (header mid.queue.outstanding) mid.room) mid.waiting left coming → Item
next_item now mid left coming next =
    record {
      fragment = fragment next.under_way next.message (size_produced (payload_room (header mid.queue.outstanding) mid.room) next.message next.under_way);
      progress = just_sent;
      sent_at = now;
      begins_after_reset = mid.queue.reset_begun;
    }

-- the stage once it is
abbrev next_stage : (now : ℕ) → (mid : Stage) → (left : SendQueueState) → (events : Events) → (coming : Events) → PartNext now (payload_room (header mid.queue.outstanding) mid.room) mid.waiting left coming → Stage
next_stage now mid left events coming next = record mid {
  queue = record mid.queue { outstanding = record mid.queue.outstanding { items = mid.queue.outstanding.items ++ next_item now mid left coming next ∷ [] }; reset_begun = false };
  waiting = queue_after_producing next.place (payload_room (header mid.queue.outstanding) mid.room) next.message next.under_way left;
  told = (mid.told ++ events) ++ produced_events next.place (payload_room (header mid.queue.outstanding) mid.room) next.message next.under_way left;
  tsns = mid.tsns ++ next_tsn mid.queue.outstanding ∷ [];
  room = mid.room - item_size (header mid.queue.outstanding) (next_item now mid left coming next);
}

sends_next : (now : ℕ) (mid : Stage) (left : SendQueueState) (events : Events) → Drops now mid.waiting events left → (coming : Events) (next : PartNext now (payload_room (header mid.queue.outstanding) mid.room) mid.waiting left coming)
    → SendsNew now mid (next_stage now mid left events coming next)
sends_next now mid left events drops coming next =
    record {
      item = next_item now mid left coming next;
      is_fresh = record { progress = refl; sent_at = refl };
      begins = refl;
      takes = record {
        queue = left;
        told = mid.told ++ events;
        drops = record { events = events; drops = drops; told = refl };
        place = next.place;
        message = next.message;
        under_way = next.under_way;
        front = next.front;
        chosen = next.chosen;
        come = next.come;
        is = refl;
        left = refl;
        events = refl;
      };
      is = refl;
    }

sends_front : (front : Events) (now : ℕ) (old resent mid : Stage) (left : SendQueueState) (telling : Events) → StageSteps (StepAgain now) old resent → StageSteps (StepNew now) (resent_packet_counted old.room resent) mid → MayAdd mid
    → (events : Events) → Drops now mid.waiting events left → (coming : Events) → PartNext now (payload_room (header mid.queue.outstanding) mid.room) mid.waiting left coming → AddsFront (front ++ (mid.told ++ events)) coming telling
    → FillsTelling front now old telling
sends_front front now old resent mid left telling again anew may events drops coming next tells =
    let sent : Stage = next_stage now mid left events coming next in
    let step : StepNew now mid sent = (may, inl (sends_next now mid left events drops coming next)) in
    let all = filled_from_new now old resent sent again (more mid sent anew step) (none_marked mid.queue.outstanding.items (next_item now mid left coming next) refl may.none_marked) in
    fills_front front now old (mid.told ++ events) coming telling (subst (Filled now old) (ap (λ (es : Events). (mid.told ++ events) ++ es) (sym next.is)) all) tells

-- An allocation fails for what the send queue gives.
pub taking_front : (front : Events) (now : ℕ) (old resent mid : Stage) (left : SendQueueState) (telling : Events) → StageSteps (StepAgain now) old resent → StageSteps (StepNew now) (resent_packet_counted old.room resent) mid → MayAdd mid
    → StopsTaking now (payload_room (header mid.queue.outstanding) mid.room) mid.waiting (front ++ mid.told) left telling → FillsTelling front now old telling
taking_front front now old resent mid left telling again anew may stops =
    let tells = subst (λ (es : Events). AddsFront es stops.coming telling) (append_assoc front mid.told stops.events) stops.tells in
    elim stops.next [
      | inl next ↦ drops_front front now old resent mid left telling again anew may stops.events stops.drops stops.coming next tells
      | inr next ↦ sends_front front now old resent mid left telling again anew may stops.events stops.drops stops.coming next tells
    ]
