-- If an allocation fails while a message is abandoned, the events so far are the first part of those of some whole abandoning.
-- The same holds if it fails after other messages were abandoned.
use Rattle.std.proofs.Common.{◌≡◌, ◌∙◌, inl, inr, ℕ, ◌+◌, Bool, true, false, Some, List, ◌++◌, append_assoc, refl, ap, sym, subst}
use Rattle.std.specs.List.{slice_get}
use Rattle.dcsctp_send_retransmission.specs.types.declared.progress.Change.TheVariants.{Abandon}
use Rattle.dcsctp_send_retransmission.specs.spec.endpoint.Event.{Event}
use Rattle.dcsctp_send_retransmission.specs.spec.queues.Abandoning.{IsDueForAbandoning, GivesUpFirst, GivesUpAll}
use Rattle.dcsctp_send_retransmission.specs.spec.queues.Filling.{Stage, maybe_expired, ClosesMessage, GivesUpItem, more}
use Rattle.dcsctp_send_retransmission.specs.spec.queues.Items.{Item, changed_between}
use Rattle.dcsctp_send_retransmission.specs.spec.queues.Retransmission.{with_items}
use Rattle.dcsctp_send_retransmission.proofs.spec_lemmas.GivingUpOutcomes.{dropped_at, drops_named, given_up_at, given_up_from}
use Rattle.dcsctp_send_retransmission.proofs.spec_lemmas.ItemMessageLemmas.{some_row}
use Rattle.dcsctp_send_retransmission.proofs.spec_lemmas.ToldLemmas.{behind_events, before_first, before_steps}
use Rattle.dcsctp_send_retransmission.specs.send_queue.Telling.{AddsFront}
use Rattle.dcsctp_send_retransmission.specs.GivingUp.{StopsGivingUp}
use Rattle.dcsctp_send_retransmission.specs.States.{RefusesClosing, RefusesAbandoningItem}

abbrev Events : Type 0
Events = List (Event (List ℕ))

-- The message is abandoned, and the events so far are the first part of the events then.
pub record GivesUpTelling (front : Events) (now place : ℕ) (at : Stage) (telling : Events) : Type 0 where
  pub new : Stage
  pub up : GivesUpItem now place at new
  pub first : Events
  pub rest : Events
  pub told : new.told ≡ first ++ rest
  pub tells : telling ≡ front ++ first

-- the same until its items are changed
record ClosesTelling (front : Events) (now : ℕ) (last : Item) (at : Stage) (telling : Events) (is_end : Bool) : Type 0 where
  closed : Stage
  closes : ClosesMessage now last at closed is_end
  first : Events
  rest : Events
  told : closed.told ≡ first ++ rest
  tells : telling ≡ front ++ first

closes_front : (front : Events) (now : ℕ) (last : Item) (at closed : Stage) (whole telling : Events) (is_end : Bool) → ClosesMessage now last at closed is_end → closed.told ≡ at.told ++ whole
    → AddsFront (front ++ at.told) whole telling → ClosesTelling front now last at telling is_end
closes_front front now last at closed whole telling is_end closes told tells =
    record {
      closed = closed;
      closes = closes;
      first = at.told ++ tells.front;
      rest = tells.rest;
      told = told ∙ (ap (λ (es : Events). at.told ++ es) tells.parts ∙ sym (append_assoc at.told tells.front tells.rest));
      tells = tells.told ∙ append_assoc front at.told tells.front;
    }

pub gives_up_telling : (front : Events) (now place : ℕ) (at : Stage) (item : Item) (telling : Events) → slice_get at.queue.outstanding.items place ≡ Some item
    → RefusesAbandoningItem place at.queue.outstanding.items at.waiting (front ++ at.told) telling → GivesUpTelling front now place at telling
gives_up_telling front now place at item telling is refused = by_end refused.last.fragment.is_end refl refused.tells
  where
    -- no event so far
    nothing : telling ≡ front ++ at.told → GivesUpTelling front now place at telling
    nothing same =
        let (new, up, keeps) = given_up_at now place at item is in record { new = new; up = up; first = at.told; rest = keeps.rest; told = keeps.told; tells = same }

    closing : (is_end : Bool) → refused.last.fragment.is_end ≡ is_end → ClosesTelling front now refused.last at telling is_end → GivesUpTelling front now place at telling
    closing is_end ends c =
        let row = some_row place at.queue.outstanding.items item is in
        record {
          new = record c.closed { queue = with_items (changed_between Abandon row.start (refused.last_place + 1) c.closed.queue.outstanding.items) c.closed.queue };
          up = record {
            start = row.start;
            last_place = refused.last_place;
            message = (row.message.0, refused.message);
            last = refused.last;
            at = refused.at;
            closed = c.closed;
            closes = subst (λ (b : Bool). ClosesMessage now refused.last at c.closed b) (sym ends) c.closes;
            is = refl;
          };
          first = c.first;
          rest = c.rest;
          told = c.told;
          tells = c.tells;
        }

    by_end : (is_end : Bool) → refused.last.fragment.is_end ≡ is_end → RefusesClosing at.queue.outstanding.items refused.last at.waiting (front ++ at.told) telling is_end
        → GivesUpTelling front now place at telling
    by_end true ends tells =
        closing true ends (closes_front front now refused.last at (record at { told = at.told ++ maybe_expired refused.last.fragment.lifecycle }) (maybe_expired refused.last.fragment.lifecycle) telling true refl refl tells)
    by_end false ends (inl same) = nothing same
    by_end false ends (inr (few, stops)) =
        closing false ends
        (closes_front front now refused.last at (dropped_at now refused.last at stops.named) _ telling false (inl (few, drops_named now refused.last at stops.named)) refl stops.tells)

-- ---- once some were

-- There is a place that is due, and an allocation fails there.
record RefusesDue (now : ℕ) (at : Stage) (telling : Events) : Type 0 where
  place : ℕ
  is_due : IsDueForAbandoning now place at.queue
  refused : RefusesAbandoningItem place at.queue.outstanding.items at.waiting at.told telling

-- the first part of some events, of which there are more
front_of_more : (front first rest after telling whole told : Events) → whole ≡ told ++ after → told ≡ first ++ rest → telling ≡ front ++ first → AddsFront front whole telling
front_of_more front first rest after telling whole told grows parts tells =
    record { front = first; rest = rest ++ after; parts = grows ∙ (ap (λ (es : Events). es ++ after) parts ∙ append_assoc first rest after); told = tells }

pub stops_giving_up : (front : Events) (now : ℕ) (old new : Stage) → StopsGivingUp now (behind_events front old) new → (gave_up : Stage) × GivesUpAll now old gave_up × AddsFront front gave_up.told new.told
stops_giving_up front now old new stops =
    let sooner = before_steps (GivesUpFirst now) front (before_first front now) old stops.at stops.steps in
    let due : RefusesDue now stops.at new.told = record { place = stops.place; is_due = stops.is_due; refused = stops.refuses.refused } in
    let here = subst (λ (s : Stage). RefusesDue now s new.told) sooner.is due in
    let at : Stage = sooner.stripped in
    let up = gives_up_telling front now here.place at here.is_due.item new.told here.is_due.at here.refused in
    let step : GivesUpFirst now at up.new = record { place = here.place; is_due = record { none_awaited = here.is_due.none_awaited; item = here.is_due.item; at = here.is_due.at; due = here.is_due.due }; gives_up = up.up } in
    let (gave_up, all, (rest, told)) = given_up_from now old up.new (more at up.new sooner.step step) in (
      gave_up,
      all,
      front_of_more front up.first up.rest rest new.told gave_up.told up.new.told told up.told up.tells,
    )
