-- No step of a filling looks at earlier events. So events can be put in front, or removed there.
use Rattle.std.proofs.Common.{◌≡◌, ◌∙◌, inl, inr, ℕ, ◌+◌, ◌-◌, Bool, true, false, List, [], ◌∷◌, ◌++◌, append_assoc, refl, ap, sym, subst}
use Rattle.dcsctp_spec.specs.types.declared.progress.Change.TheVariants.{Abandon}
use Rattle.dcsctp_spec.specs.endpoint.Event.{Event}
use Rattle.dcsctp_spec.specs.queues.Abandoning.{NoneDue, GivesUpFirst, GivesUpAll}
use Rattle.dcsctp_spec.specs.queues.Filling.{Stage, maybe_expired, ClosesMessage, GivesUpItem, StepAgain, MayAdd, StepNew, StageSteps, none, more, resent_packet_counted, FillsPacket}
use Rattle.dcsctp_spec.specs.queues.Items.{Item, item_size, changed_between}
use Rattle.dcsctp_spec.specs.queues.NextItem.{Halts}
use Rattle.dcsctp_spec.specs.queues.Outstanding.{header, next_tsn}
use Rattle.dcsctp_spec.specs.queues.Retransmission.{timer_with, with_items}
use Rattle.dcsctp_spec.specs.endpoint.FlushOutcomes.{FillsIfAllowed}
use Rattle.dcsctp_spec_lemmas.proofs.ToldLeavingLemmas.{behind_taken, behind_none, behind_discarded, before_taken, before_none, before_discarded}

abbrev Events : Type 0
Events = List (Event (List ℕ))

-- the stage, with these events before its own
abbrev pub behind_events : List (Event (List ℕ)) → Stage → Stage
behind_events front s = record s { told = front ++ s.told }

-- ---- events in front: each step

behind_closed : (front : Events) (now : ℕ) (last : Item) (old new : Stage) (is_end : Bool) → ClosesMessage now last old new is_end
    → ClosesMessage now last (behind_events front old) (behind_events front new) is_end
behind_closed front now last old new true is =
    ap (behind_events front) is
    ∙ ap (λ (es : Events). record old { told = es }) (sym (append_assoc front old.told (maybe_expired last.fragment.lifecycle)))
behind_closed front now last old new false (inl (few, at)) =
    inl (
      few,
      record {
        outstanding = at.outstanding;
        drops = record {
          is_dropped = at.drops.is_dropped;
          drops = behind_discarded front old.waiting new.waiting last.fragment.stream last.fragment.message_id old.told new.told at.drops.is_dropped at.drops.drops;
          ends = at.drops.ends;
        };
        is = ap (behind_events front) at.is;
      },
    )
behind_closed front now last old new false (inr (many, is)) = inr (many, ap (behind_events front) is)

behind_given_up : (front : Events) (now place : ℕ) (old new : Stage) → GivesUpItem now place old new → GivesUpItem now place (behind_events front old) (behind_events front new)
behind_given_up front now place old new up =
    record {
      start = up.start;
      last_place = up.last_place;
      message = up.message;
      last = up.last;
      at = up.at;
      closed = behind_events front up.closed;
      closes = behind_closed front now up.last old up.closed up.last.fragment.is_end up.closes;
      is = ap (behind_events front) up.is;
    }

behind_first : (front : Events) (now : ℕ) (old new : Stage) → GivesUpFirst now old new → GivesUpFirst now (behind_events front old) (behind_events front new)
behind_first front now old new step =
    record { place = step.place; is_due = step.is_due; gives_up = behind_given_up front now step.place old new step.gives_up }

behind_again : (front : Events) (now : ℕ) (old new : Stage) → StepAgain now old new → StepAgain now (behind_events front old) (behind_events front new)
behind_again front now old new (inl (allowed, sends)) =
    inl (allowed, record { place = sends.place; next = sends.next; stays = sends.stays; fits = sends.fits; is = ap (behind_events front) sends.is })
behind_again front now old new (inr up) =
    inr (record { place = up.place; next = up.next; due = up.due; gives_up = behind_given_up front now up.place old new up.gives_up })

behind_may : (front : Events) (stage : Stage) → MayAdd stage → MayAdd (behind_events front stage)
behind_may front stage may = record { allowed = may.allowed; none_marked = may.none_marked; fits = may.fits; comparable = may.comparable }

behind_anew : (front : Events) (now : ℕ) (old new : Stage) → StepNew now old new → StepNew now (behind_events front old) (behind_events front new)
behind_anew front now old new (may, inl sends) = (
  behind_may front old may,
  inl (record {
    item = sends.item;
    is_fresh = sends.is_fresh;
    begins = sends.begins;
    takes = behind_taken front now _ old.waiting new.waiting sends.item.fragment old.told new.told sends.takes;
    is = ap (behind_events front) sends.is;
  }),
)
behind_anew front now old new (may, inr finds) = (
  behind_may front old may,
  inr (record { takes = behind_none front now old.waiting new.waiting old.told new.told finds.takes; is = ap (behind_events front) finds.is }),
)

behind_steps : (Step : Stage → Stage → Type 0) (front : Events) → ((old new : Stage) → Step old new → Step (behind_events front old) (behind_events front new))
    → (old new : Stage) → StageSteps Step old new → StageSteps Step (behind_events front old) (behind_events front new)
behind_steps Step front each old _ none = none
behind_steps Step front each old _ (more between new steps step) =
    more (behind_events front between) (behind_events front new) (behind_steps Step front each old between steps) (each between new step)

-- ---- events in front: the whole

pub filled_behind : (front : List (Event (List ℕ))) (now : ℕ) (old new : Stage) → FillsPacket now old new → FillsPacket now (behind_events front old) (behind_events front new)
filled_behind front now old new fills =
    record {
      sent = behind_events front fills.sent;
      fills = record {
        resent = behind_events front fills.fills.resent;
        again = behind_steps (StepAgain now) front (behind_again front now) old fills.fills.resent fills.fills.again;
        anew = behind_steps (StepNew now) front (behind_anew front now) (resent_packet_counted old.room fills.fills.resent) fills.sent fills.fills.anew;
      };
      halts = fills.halts;
      is = ap (behind_events front) fills.is;
    }

pub told_behind : (front : List (Event (List ℕ))) (b : Bool) (now : ℕ) (old new : Stage) → FillsIfAllowed b now old new → FillsIfAllowed b now (behind_events front old) (behind_events front new)
told_behind front true now old new fills = filled_behind front now old new fills
told_behind front false now old new (inl same) = inl (ap (behind_events front) same)
told_behind front false now old new (inr fills) = inr (filled_behind front now old new fills)

pub given_up_behind : (front : List (Event (List ℕ))) (now : ℕ) (old new : Stage) → GivesUpAll now old new → GivesUpAll now (behind_events front old) (behind_events front new)
given_up_behind front now old new up =
    record { steps = behind_steps (GivesUpFirst now) front (behind_first front now) old new up.steps; none_left = up.none_left }

-- ---- events taken away: each step

-- The same from a stage without these events.
pub record Before (front : Events) (Step : Stage → Stage → Type 0) (old new : Stage) : Type 0 where
  pub stripped : Stage
  pub step : Step old stripped
  pub is : new ≡ behind_events front stripped

before_closed : (front : Events) (now : ℕ) (last : Item) (old new : Stage) (is_end : Bool) → ClosesMessage now last (behind_events front old) new is_end
    → Before front (λ a b. ClosesMessage now last a b is_end) old new
before_closed front now last old new true is =
    let events : Events = maybe_expired last.fragment.lifecycle in
    record {
      stripped = record old { told = old.told ++ events };
      step = refl;
      is = is ∙ ap (λ (es : Events). record old { told = es }) (append_assoc front old.told events);
    }
before_closed front now last old new false (inl (few, at)) =
    let rest = before_discarded front old.waiting new.waiting last.fragment.stream last.fragment.message_id old.told new.told at.drops.is_dropped at.drops.drops in
    let stage : Events → Stage = λ es. record old { queue = record old.queue { outstanding = at.outstanding }; waiting = new.waiting; told = es } in
    record {
      stripped = stage rest.told;
      step = inl (few, record { outstanding = at.outstanding; drops = record { is_dropped = at.drops.is_dropped; drops = rest.holds; ends = at.drops.ends }; is = refl });
      is = at.is ∙ ap stage rest.is;
    }
before_closed front now last old new false (inr (many, is)) = record { stripped = old; step = inr (many, refl); is = is }

before_given_up : (front : Events) (now place : ℕ) (old new : Stage) → GivesUpItem now place (behind_events front old) new → Before front (GivesUpItem now place) old new
before_given_up front now place old new up =
    let closing = before_closed front now up.last old up.closed up.last.fragment.is_end up.closes in
    let after : Stage → Stage = λ s. record s { queue = with_items (changed_between Abandon up.start (up.last_place + 1) s.queue.outstanding.items) s.queue } in
    record {
      stripped = after closing.stripped;
      step = record {
        start = up.start;
        last_place = up.last_place;
        message = up.message;
        last = up.last;
        at = up.at;
        closed = closing.stripped;
        closes = closing.step;
        is = refl;
      };
      is = up.is ∙ ap after closing.is;
    }

pub before_first : (front : Events) (now : ℕ) (old new : Stage) → GivesUpFirst now (behind_events front old) new → Before front (GivesUpFirst now) old new
before_first front now old new step =
    let up = before_given_up front now step.place old new step.gives_up in
    record { stripped = up.stripped; step = record { place = step.place; is_due = step.is_due; gives_up = up.step }; is = up.is }

pub before_again : (front : Events) (now : ℕ) (old new : Stage) → StepAgain now (behind_events front old) new → Before front (StepAgain now) old new
before_again front now old new (inl (allowed, sends)) =
    record { stripped = _; step = inl (allowed, record { place = sends.place; next = sends.next; stays = sends.stays; fits = sends.fits; is = refl }); is = sends.is }
before_again front now old new (inr up) =
    let given = before_given_up front now up.place old new up.gives_up in
    record { stripped = given.stripped; step = inr (record { place = up.place; next = up.next; due = up.due; gives_up = given.step }); is = given.is }

pub may_before : (front : Events) (stage : Stage) → MayAdd (behind_events front stage) → MayAdd stage
may_before front stage may = record { allowed = may.allowed; none_marked = may.none_marked; fits = may.fits; comparable = may.comparable }

pub before_anew : (front : Events) (now : ℕ) (old new : Stage) → StepNew now (behind_events front old) new → Before front (StepNew now) old new
before_anew front now old new (may, inl sends) =
    let takes = before_taken front now _ old.waiting new.waiting sends.item.fragment old.told new.told sends.takes in
    let stage : Events → Stage =
    λ es. record old {
      queue = record old.queue { outstanding = record old.queue.outstanding { items = old.queue.outstanding.items ++ sends.item ∷ [] }; reset_begun = false };
      waiting = new.waiting;
      told = es;
      tsns = old.tsns ++ next_tsn old.queue.outstanding ∷ [];
      room = old.room - item_size (header old.queue.outstanding) sends.item;
    } in
    record {
      stripped = stage takes.told;
      step = (may_before front old may, inl (record { item = sends.item; is_fresh = sends.is_fresh; begins = sends.begins; takes = takes.holds; is = refl }));
      is = sends.is ∙ ap stage takes.is;
    }
before_anew front now old new (may, inr finds) =
    let takes = before_none front now old.waiting new.waiting old.told new.told finds.takes in
    let stage : Events → Stage = λ es. record old { waiting = new.waiting; told = es } in
    record {
      stripped = stage takes.told;
      step = (may_before front old may, inr (record { takes = takes.holds; is = refl }));
      is = finds.is ∙ ap stage takes.is;
    }

pub before_steps : (Step : Stage → Stage → Type 0) (front : Events) → ((old new : Stage) → Step (behind_events front old) new → Before front Step old new)
    → (old new : Stage) → StageSteps Step (behind_events front old) new → Before front (StageSteps Step) old new
before_steps Step front each old _ none = record { stripped = old; step = none; is = refl }
before_steps Step front each old _ (more between new steps step) =
    let sooner = before_steps Step front each old between steps in
    let last = each sooner.stripped new (subst (λ (s : Stage). Step s new) sooner.is step) in
    record { stripped = last.stripped; step = more sooner.stripped last.stripped sooner.step last.step; is = last.is }

-- ---- events taken away: the whole

abbrev CanNoMore : ℕ → Stage → Type 0
CanNoMore now s = Halts now s.room s.queue s.waiting

filled_before_by : (front : Events) (now : ℕ) (old new : Stage) → FillsPacket now (behind_events front old) new → Before front (FillsPacket now) old new
filled_before_by front now old new fills =
    let again = before_steps (StepAgain now) front (before_again front now) old fills.fills.resent fills.fills.again in
    let counted : StageSteps (StepNew now) (behind_events front (resent_packet_counted old.room again.stripped)) fills.sent = subst (λ (s : Stage). StageSteps (StepNew now) (resent_packet_counted old.room s) fills.sent) again.is fills.fills.anew in
    let anew = before_steps (StepNew now) front (before_anew front now) (resent_packet_counted old.room again.stripped) fills.sent counted in
    let timed : Stage → Stage = λ s. record s { queue = record s.queue { timer = timer_with now s.queue.outstanding.items s.queue.timer } } in
    record {
      stripped = timed anew.stripped;
      step = record {
        sent = anew.stripped;
        fills = record { resent = again.stripped; again = again.step; anew = anew.step };
        halts = subst (CanNoMore now) anew.is fills.halts;
        is = refl;
      };
      is = fills.is ∙ ap timed anew.is;
    }

pub filled_before : (front : List (Event (List ℕ))) (now : ℕ) (old new : Stage) → FillsPacket now (behind_events front old) new
    → (stripped : Stage) × FillsPacket now old stripped × (new ≡ behind_events front stripped)
filled_before front now old new fills = let s = filled_before_by front now old new fills in (s.stripped, s.step, s.is)

pub told_before : (front : List (Event (List ℕ))) (b : Bool) (now : ℕ) (old new : Stage) → FillsIfAllowed b now (behind_events front old) new
    → (stripped : Stage) × FillsIfAllowed b now old stripped × (new ≡ behind_events front stripped)
told_before front true now old new fills = filled_before front now old new fills
told_before front false now old new (inl same) = (old, inl refl, same)
told_before front false now old new (inr fills) = let (stripped, filled, is) = filled_before front now old new fills in (stripped, inr filled, is)

pub given_up_before : (front : List (Event (List ℕ))) (now : ℕ) (old new : Stage) → GivesUpAll now (behind_events front old) new
    → (stripped : Stage) × GivesUpAll now old stripped × (new ≡ behind_events front stripped)
given_up_before front now old new up =
    let steps = before_steps (GivesUpFirst now) front (before_first front now) old new up.steps in (
      steps.stripped,
      record { steps = steps.step; none_left = subst (λ (s : Stage). NoneDue now s.queue) steps.is up.none_left },
      steps.is,
    )
