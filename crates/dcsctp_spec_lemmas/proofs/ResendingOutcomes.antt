-- What waits to be sent again can be sent or abandoned until no more goes into the packet: from each stage, and also once some of
-- it was. So it is where it is sent at once.
use Rattle.std.proofs.Common.{◌≡◌, ◌⊎◌, inl, inr, ℕ, zero, suc, ◌+◌, ◌-◌, Bool, true, false, List, [], ◌∷◌, ◌++◌, refl, ap, sym, subst, ◌∙◌, arith}
use Rattle.std.proofs.lemmas.List.{append-nil}
use Rattle.dcsctp_spec.specs.types.declared.progress.Change.TheVariants.{SendAgain}
use Rattle.dcsctp_spec.specs.endpoint.Event.{Event}
use Rattle.dcsctp_spec.specs.queues.AtOnce.{HaltsAtOnce, is_first_marked, SendsFirst, empty_stage, SendsAtOnce}
use Rattle.dcsctp_spec.specs.queues.Filling.{Stage, SendsMarked, StepAgain, StageSteps, none, more}
use Rattle.dcsctp_spec.specs.queues.NextItem.{is_abandonment_due, IsNextMarked, WaitsForRoom, HaltsAgain}
use Rattle.dcsctp_spec.specs.queues.Items.{Item, item_size, marked_items, changed_between}
use Rattle.dcsctp_spec.specs.queues.Outstanding.{header, tsn_at, next_tsn}
use Rattle.dcsctp_spec.specs.queues.Retransmission.{RetransmissionState, can_send, with_items}
use Rattle.dcsctp_spec.specs.queues.SendQueue.{SendQueueState}
use Rattle.dcsctp_spec_lemmas.proofs.GivingUpOutcomes.{fewer_by_giving_up}
use Rattle.dcsctp_spec_lemmas.proofs.MarkedItemLemmas.{le_or_lt, fewer_marked, first_marked, FewerBy, completed}

-- ---- the first item that waits is sent, if it fits

-- its stage after that
abbrev sent_again : (place : ℕ) (old : Stage) → IsNextMarked place old.queue.outstanding.items → Stage
sent_again place old next =
    record old {
      queue = with_items (changed_between (SendAgain (next_tsn old.queue.outstanding)) place (place + 1) old.queue.outstanding.items) old.queue;
      tsns = old.tsns ++ tsn_at old.queue.outstanding place ∷ [];
      room = old.room - item_size (header old.queue.outstanding) next.marked.item;
    }

fewer_by_sending : (Step : Stage → Stage → Type 0) (place : ℕ) (old : Stage) (next : IsNextMarked place old.queue.outstanding.items) → Step old (sent_again place old next) → FewerBy Step old
fewer_by_sending Step place old next step =
    record {
      new = sent_again place old next;
      step = step;
      rest = [];
      told = sym (append-nil old.told);
      fewer = fewer_marked (SendAgain (next_tsn old.queue.outstanding)) (λ progress. refl) place (place + 1) place old.queue.outstanding.items next.marked.item (omega arith) (omega arith) next.marked.at next.marked.is;
    }

sends_or_waits : (Step : Stage → Stage → Type 0) (now place : ℕ) (old : Stage) (next : IsNextMarked place old.queue.outstanding.items) → is_abandonment_due now old.queue.partial_reliability next.marked.item ≡ false
    → ((new : Stage) → SendsMarked now old new → Step old new) → WaitsForRoom old.room old.queue.outstanding ⊎ FewerBy Step old
sends_or_waits Step now place old next stays step = elim (le_or_lt (item_size (header old.queue.outstanding) next.marked.item) old.room) [
  | inl fits ↦ inr (fewer_by_sending Step place old next (step (sent_again place old next) (record { place = place; next = next; stays = stays; fits = fits; is = refl })))
  | inr longer ↦ inl (record { place = place; next = next; item = next.marked.item; at = next.marked.at; longer = longer })
]

-- ---- until no more goes into the packet

again_next : (now : ℕ) (stage : Stage) → HaltsAgain now stage.room stage.queue ⊎ FewerBy (StepAgain now) stage
again_next now stage = elim (first_marked stage.queue.outstanding.items) [
  | inl none_left ↦ inl (inl none_left)
  | inr first ↦ go first.place first.next (is_abandonment_due now stage.queue.partial_reliability first.next.marked.item) refl (can_send stage.queue) refl
]
  where
    go : (place : ℕ) (next : IsNextMarked place stage.queue.outstanding.items) (due : Bool) → is_abandonment_due now stage.queue.partial_reliability next.marked.item ≡ due
        → (may : Bool) → can_send stage.queue ≡ may → HaltsAgain now stage.room stage.queue ⊎ FewerBy (StepAgain now) stage
    go place next true is may allowed =
        inr (fewer_by_giving_up (StepAgain now) now place stage next.marked.item next.marked.at next.marked.is (λ new up. inr (record { place = place; next = next; due = is; gives_up = up })))
    go place next false is false allowed = inl (inr (record { place = place; next = next; stays = is }, inl allowed))
    go place next false is true allowed = elim (sends_or_waits (StepAgain now) now place stage next is (λ new sends. inl (allowed, sends))) [
      | inl waits ↦ inl (inr (record { place = place; next = next; stays = is }, inr waits))
      | inr by ↦ inr by
    ]

pub resent_from : (now : ℕ) (old mid : Stage) → StageSteps (StepAgain now) old mid
    → (resent : Stage) × StageSteps (StepAgain now) old resent × HaltsAgain now resent.room resent.queue × ((rest : List (Event (List ℕ))) × (resent.told ≡ mid.told ++ rest))
resent_from now old mid steps =
    let all = completed (StepAgain now) (λ s. HaltsAgain now s.room s.queue) (again_next now) (marked_items mid.queue.outstanding.items) old mid (omega arith) steps in
    (all.new, all.steps, all.is_over, (all.rest, all.told))

-- ---- at once

at_once_next : (now : ℕ) (stage : Stage) → HaltsAtOnce now stage.room stage.queue ⊎ FewerBy (SendsMarked now) stage
at_once_next now stage = elim (first_marked stage.queue.outstanding.items) [
  | inl none_left ↦ inl (inl none_left)
  | inr first ↦ go first.place first.next (is_abandonment_due now stage.queue.partial_reliability first.next.marked.item) refl
]
  where
    go : (place : ℕ) (next : IsNextMarked place stage.queue.outstanding.items) (due : Bool) → is_abandonment_due now stage.queue.partial_reliability next.marked.item ≡ due
        → HaltsAtOnce now stage.room stage.queue ⊎ FewerBy (SendsMarked now) stage
    go place next true is = inl (inr (inl (record { place = place; next = next; due = is })))
    go place next false is = elim (sends_or_waits (SendsMarked now) now place stage next is (λ new sends. sends)) [
      | inl waits ↦ inl (inr (inr waits))
      | inr by ↦ inr by
    ]

-- What waits in the send queue stays, there is no event, and the first item waits to be sent again only if it did before.
record SendingKeeps (old new : Stage) : Type 0 where
  pub waiting : new.waiting ≡ old.waiting
  pub told : new.told ≡ old.told
  pub first : is_first_marked new.queue.outstanding.items ≡ true → is_first_marked old.queue.outstanding.items ≡ true

marked_before : (tsn start end : ℕ) (items : List Item) → is_first_marked (changed_between (SendAgain tsn) start end items) ≡ true → is_first_marked items ≡ true
marked_before tsn zero zero items is = is
marked_before tsn zero (suc end) [] is = is
marked_before tsn zero (suc end) (x ∷ xs) is = absurd (cc)
marked_before tsn (suc start) zero items is = is
marked_before tsn (suc start) (suc end) [] is = is
marked_before tsn (suc start) (suc end) (x ∷ xs) is = is

sending_keeps : (now : ℕ) (old new : Stage) → StageSteps (SendsMarked now) old new → SendingKeeps old new
sending_keeps now old _ none = record { waiting = refl; told = refl; first = λ is. is }
sending_keeps now old _ (more between new steps step) =
    let before = sending_keeps now old between steps in
    let first = ap (λ (s : Stage). is_first_marked s.queue.outstanding.items) step.is in
    record {
      waiting = ap (λ (s : Stage). s.waiting) step.is ∙ before.waiting;
      told = ap (λ (s : Stage). s.told) step.is ∙ before.told;
      first = λ is. before.first (marked_before (next_tsn between.queue.outstanding) step.place (step.place + 1) between.queue.outstanding.items (sym first ∙ is));
    }

first_sent_or_not : (old new : List Item) → (is_first_marked new ≡ true → is_first_marked old ≡ true) → (sends_first : Bool) × SendsFirst old new sends_first
first_sent_or_not old new before = go (is_first_marked old) refl (is_first_marked new) refl
  where
    go : (was : Bool) → is_first_marked old ≡ was → (waits : Bool) → is_first_marked new ≡ waits → (sends_first : Bool) × SendsFirst old new sends_first
    go true is true still_is = (false, still_is ∙ sym is)
    go true is false still_is = (true, (is, still_is))
    go false is true still_is = let both : false ≡ true = sym is ∙ before still_is in absurd (cc)
    go false is false still_is = (false, still_is ∙ sym is)

pub some_at_once : (now bytes : ℕ) (waiting : SendQueueState) (old : RetransmissionState) → (new : RetransmissionState) × (tsns : List ℕ) × SendsAtOnce now bytes waiting old new tsns
some_at_once now bytes waiting old =
    let start : Stage = empty_stage (record old { fast_retransmit_due = false }) waiting bytes in
    let all = completed (SendsMarked now) (λ s. HaltsAtOnce now s.room s.queue) (at_once_next now) (marked_items old.outstanding.items) start start (omega arith) none in
    let keeps = sending_keeps now start all.new all.steps in
    let (sends_first, first) = first_sent_or_not old.outstanding.items all.new.queue.outstanding.items keeps.first in
    let told : StageSteps (SendsMarked now) start (record all.new { told = [] }) = subst (λ (es : List (Event (List ℕ))). StageSteps (SendsMarked now) start (record all.new { told = es })) keeps.told all.steps in (
      _,
      all.new.tsns,
      record {
        resent = all.new.queue;
        room = all.new.room;
        steps = subst (λ (w : SendQueueState). StageSteps (SendsMarked now) start (record all.new { told = []; waiting = w })) keeps.waiting told;
        halts = all.is_over;
        sends_first = sends_first;
        first = first;
        is = refl;
      },
    )
