-- A message can be abandoned at each item, and messages that are due can be abandoned until none is: from each stage, and also
-- once some of them were.
use Rattle.std.proofs.Common.{◌≡◌, ◌⊎◌, inl, inr, ℕ, zero, suc, ◌+◌, ◌%◌, ◌^◌, ◌<◌, ◌≤◌, Bool, true, false, None, Some, List, [], ◌∷◌, ◌++◌, length, refl, ap, sym, ◌∙◌, arith}
use Rattle.std.specs.List.{slice_get}
use Rattle.std.proofs.lemmas.List.{append-nil}
use Rattle.std.proofs.lemmas.List.Sums.{sum_by_push}
use Rattle.dcsctp_spec.specs.types.declared.progress.Change.TheVariants.{Abandon}
use Rattle.dcsctp_spec.specs.types.declared.progress.Progress.{Progress}
use Rattle.dcsctp_spec.specs.types.declared.progress.ItemState.TheVariants.{Abandoned}
use Rattle.dcsctp_spec.specs.endpoint.Event.{Event}
use Rattle.dcsctp_spec.specs.queues.Abandoning.{NoneDue, GivesUpFirst, GivesUpAll}
use Rattle.dcsctp_spec.specs.queues.Filling.{Stage, maybe_expired, DropsRestOfMessage, ClosesMessage, GivesUpItem, StageSteps, none, more}
use Rattle.dcsctp_spec.specs.queues.ItemMessages.{EndsDropped}
use Rattle.dcsctp_spec.specs.queues.Items.{Item, number_or_zero, marked_count, marked_items, changed_between}
use Rattle.dcsctp_spec.specs.queues.Outstanding.{OutstandingState}
use Rattle.dcsctp_spec.specs.types.queues.Progress.{is_marked, just_sent}
use Rattle.dcsctp_spec.specs.queues.Retransmission.{with_items}
use Rattle.dcsctp_spec.specs.queues.SendQueue.{SendQueueState}
use Rattle.dcsctp_spec.specs.queues.Sending.{without_rest, reserve_begun, released_queue, drop_events, DiscardsNamed, IsMessageUnderWay}
use Rattle.dcsctp_spec_lemmas.proofs.DueItemLemmas.{due_marked, due_or_not}
use Rattle.dcsctp_spec_lemmas.proofs.ItemMessageLemmas.{some_row, named_decided}
use Rattle.dcsctp_spec_lemmas.proofs.MarkedItemLemmas.{le_or_lt, marked_at_most, fewer_marked, FewerBy, completed}

-- ---- what it changes to abandon a message

record TellsMore (old new : List (Event (List ℕ))) : Type 0 where
  pub rest : List (Event (List ℕ))
  pub told : new ≡ old ++ rest

-- The items stay, and what may follow them doesn't wait to be sent again.
record KeepsItems (old new : OutstandingState) : Type 0 where
  pub stays : (place : ℕ) (item : Item) → slice_get old.items place ≡ Some item → slice_get new.items place ≡ Some item
  pub marked : marked_items new.items ≡ marked_items old.items

record ClosingKeeps (old new : Stage) : Type 0 where
  pub more : TellsMore old.told new.told
  pub tsns : new.tsns ≡ old.tsns
  pub room : new.room ≡ old.room
  pub items : KeepsItems old.queue.outstanding new.queue.outstanding

slice_get_stays : (items : List Item) (new : Item) (k : ℕ) (item : Item) → slice_get items k ≡ Some item → slice_get (items ++ new ∷ []) k ≡ Some item
slice_get_stays [] new k item at = absurd (cc)
slice_get_stays (x ∷ xs) new zero item at = at
slice_get_stays (x ∷ xs) new (suc k) item at = slice_get_stays xs new k item at

ending_keeps : (now : ℕ) (begins : Bool) (last : Item) (old new : OutstandingState) (is_dropped : Bool) → EndsDropped now begins last old new is_dropped → KeepsItems old new
ending_keeps now begins last old new true ends =
    let items = ap (λ (m : OutstandingState). marked_items m.items) ends.grows in
    let all = sum_by_push marked_count old.items ends.item in
    let zero_more = ap (λ (p : Progress). number_or_zero (is_marked p.state) 1) ends.is_end.progress in
    record {
      stays = λ k item at. ap (λ (m : OutstandingState). slice_get m.items k) ends.grows ∙ slice_get_stays old.items ends.item k item at;
      marked = omega arith;
    }
ending_keeps now begins last old new false same =
    record { stays = λ k item at. ap (λ (m : OutstandingState). slice_get m.items k) same ∙ at; marked = ap (λ (m : OutstandingState). marked_items m.items) same }

discarding_tells : (old new : SendQueueState) (stream message_id : ℕ) (told telling : List (Event (List ℕ))) (is_dropped : Bool) → DiscardsNamed old stream message_id told is_dropped new telling → TellsMore told telling
discarding_tells old new stream message_id told telling true drops =
    record { rest = drop_events drops.named.place drops.named.under_way.sent drops.named.message old; told = drops.events }
discarding_tells old new stream message_id told telling false stays = record { rest = []; told = stays.2 ∙ sym (append-nil told) }

closing_keeps : (now : ℕ) (last : Item) (old new : Stage) (is_end : Bool) → ClosesMessage now last old new is_end → ClosingKeeps old new
closing_keeps now last old new true is =
    record {
      more = record { rest = maybe_expired last.fragment.lifecycle; told = ap (λ (s : Stage). s.told) is };
      tsns = ap (λ (s : Stage). s.tsns) is;
      room = ap (λ (s : Stage). s.room) is;
      items = rw is (record { stays = λ k item at. at; marked = refl });
    }
closing_keeps now last old new false (inl drops) =
    let rest = drops.1.drops in
    let items = ending_keeps now old.queue.reset_begun last old.queue.outstanding drops.1.outstanding rest.is_dropped rest.ends in
    record {
      more = discarding_tells old.waiting new.waiting last.fragment.stream last.fragment.message_id old.told new.told rest.is_dropped rest.drops;
      tsns = ap (λ (s : Stage). s.tsns) drops.1.is;
      room = ap (λ (s : Stage). s.room) drops.1.is;
      items = record {
        stays = λ k item at. ap (λ (s : Stage). slice_get s.queue.outstanding.items k) drops.1.is ∙ items.stays k item at;
        marked = ap (λ (s : Stage). marked_items s.queue.outstanding.items) drops.1.is ∙ items.marked;
      };
    }
closing_keeps now last old new false (inr stays) =
    rw stays.1 (record { more = record { rest = []; told = sym (append-nil old.told) }; tsns = refl; room = refl; items = record { stays = λ k item at. at; marked = refl } })

-- What the packet holds stays, events may be added, and no more items wait to be sent again than before.
pub record GivingUpKeeps (place : ℕ) (old new : Stage) : Type 0 where
  pub rest : List (Event (List ℕ))
  pub told : new.told ≡ old.told ++ rest
  pub tsns : new.tsns ≡ old.tsns
  pub room : new.room ≡ old.room
  pub no_more : marked_items new.queue.outstanding.items ≤ marked_items old.queue.outstanding.items
  -- fewer do if the item did
  pub fewer : (item : Item) → slice_get old.queue.outstanding.items place ≡ Some item → is_marked item.progress.state ≡ true
      → marked_items new.queue.outstanding.items < marked_items old.queue.outstanding.items

pub giving_up_keeps : (now place : ℕ) (old new : Stage) → GivesUpItem now place old new → GivingUpKeeps place old new
giving_up_keeps now place old new up =
    let closing = closing_keeps now up.last old up.closed up.last.fragment.is_end up.closes in
    let before = closing.items.marked in
    let after = ap (λ (s : Stage). marked_items s.queue.outstanding.items) up.is in
    record {
      rest = closing.more.rest;
      told = ap (λ (s : Stage). s.told) up.is ∙ closing.more.told;
      tsns = ap (λ (s : Stage). s.tsns) up.is ∙ closing.tsns;
      room = ap (λ (s : Stage). s.room) up.is ∙ closing.room;
      no_more = let most = marked_at_most Abandon (λ progress. refl) up.start (up.last_place + 1) up.closed.queue.outstanding.items in omega arith;
      fewer = λ item at is.
          let less = fewer_marked Abandon (λ progress. refl) up.start (up.last_place + 1) place up.closed.queue.outstanding.items item up.message.0.from up.message.1.to (closing.items.stays place item at) is in
          omega arith;
    }

-- ---- each message can be abandoned

record Closed (now : ℕ) (last : Item) (old : Stage) (is_end : Bool) : Type 0 where
  pub closed : Stage
  pub closes : ClosesMessage now last old closed is_end

-- the end that is added for a message whose rest is dropped
abbrev end_of : ℕ → Bool → Item → Item
end_of now begins last =
    record {
      fragment = record last.fragment { fsn = (last.fragment.fsn + 1) % 2 ^ 32; is_beginning = false; is_end = true; payload = []; lifecycle = None };
      progress = record just_sent { state = Abandoned };
      sent_at = now;
      begins_after_reset = begins;
    }

abbrev with_end : ℕ → Item → Stage → OutstandingState
with_end now last old = record old.queue.outstanding { items = old.queue.outstanding.items ++ end_of now old.queue.reset_begun last ∷ [] }

-- what is left once the message under way is dropped, which is this item's
abbrev pub dropped_at : (now : ℕ) → (last : Item) → (old : Stage) → IsMessageUnderWay old.waiting last.fragment.stream last.fragment.message_id → Stage
dropped_at now last old named = record old {
  queue = record old.queue { outstanding = with_end now last old };
  waiting = released_queue last.fragment.stream (reserve_begun (length named.message.payload) named.under_way) (without_rest named.place named.under_way.sent named.message old.waiting);
  told = old.told ++ drop_events named.place named.under_way.sent named.message old.waiting;
}

pub drops_named : (now : ℕ) (last : Item) (old : Stage) (named : IsMessageUnderWay old.waiting last.fragment.stream last.fragment.message_id) → DropsRestOfMessage now last old (dropped_at now last old named)
drops_named now last old named =
    record {
      outstanding = with_end now last old;
      drops = record {
        is_dropped = true;
        drops = record { named = named; left = refl; events = refl };
        ends = record { item = end_of now old.queue.reset_begun last; is_end = record { progress = refl; sent_at = refl; begins_after_reset = refl; is = refl }; grows = refl };
      };
      is = refl;
    }

drops_none : (now : ℕ) (last : Item) (old : Stage) → (IsMessageUnderWay old.waiting last.fragment.stream last.fragment.message_id → ⊥) → DropsRestOfMessage now last old old
drops_none now last old unnamed = record { outstanding = old.queue.outstanding; drops = record { is_dropped = false; drops = (unnamed, refl, refl); ends = refl }; is = refl }

some_closed : (now : ℕ) (last : Item) (old : Stage) (is_end : Bool) → Closed now last old is_end
some_closed now last old true = record { closed = _; closes = refl }
some_closed now last old false = elim (le_or_lt (2 ^ 31) (length old.queue.outstanding.items + 1)) [
  | inl full ↦ record { closed = old; closes = inr (full, refl) }
  | inr free ↦ elim (named_decided old.waiting last.fragment.stream last.fragment.message_id) [
    | inl named ↦ record { closed = dropped_at now last old named; closes = inl (free, drops_named now last old named) }
    | inr unnamed ↦ record { closed = old; closes = inl (free, drops_none now last old unnamed) }
  ]
]

pub given_up_at : (now place : ℕ) (old : Stage) (item : Item) → slice_get old.queue.outstanding.items place ≡ Some item → (new : Stage) × GivesUpItem now place old new × GivingUpKeeps place old new
given_up_at now place old item at =
    let row = some_row place old.queue.outstanding.items item at in
    let some = some_closed now row.last old row.last.fragment.is_end in
    let new : Stage = record some.closed { queue = with_items (changed_between Abandon row.start (row.last_place + 1) some.closed.queue.outstanding.items) some.closed.queue } in
    let up : GivesUpItem now place old new =
    record { start = row.start; last_place = row.last_place; message = row.message; last = row.last; at = row.at; closed = some.closed; closes = some.closes; is = refl } in
    (new, up, giving_up_keeps now place old new up)

-- Where the item waits to be sent again, fewer do after a step that abandons its message.
pub fewer_by_giving_up : (Step : Stage → Stage → Type 0) (now place : ℕ) (old : Stage) (item : Item) → slice_get old.queue.outstanding.items place ≡ Some item → is_marked item.progress.state ≡ true
    → ((new : Stage) → GivesUpItem now place old new → Step old new) → FewerBy Step old
fewer_by_giving_up Step now place old item at is step =
    let (new, up, keeps) = given_up_at now place old item at in
    record { new = new; step = step new up; rest = keeps.rest; told = keeps.told; fewer = keeps.fewer item at is }

-- ---- until none is

gives_up_next : (now : ℕ) (stage : Stage) → NoneDue now stage.queue ⊎ FewerBy (GivesUpFirst now) stage
gives_up_next now stage = elim (due_or_not now stage.queue.partial_reliability stage.queue.outstanding.items) [
  | inl first ↦
      inr (fewer_by_giving_up (GivesUpFirst now) now first.place stage first.item first.at (due_marked now stage.queue.partial_reliability first.item first.due)
      (λ new up. record {
        place = first.place;
        is_due = record { none_awaited = first.none_awaited; item = first.item; at = first.at; due = first.due };
        gives_up = up;
      }))
  | inr none_left ↦ inl (λ place due. none_left (record { place = place; none_awaited = due.none_awaited; item = due.item; at = due.at; due = due.due }))
]

pub given_up_from : (now : ℕ) (old mid : Stage) → StageSteps (GivesUpFirst now) old mid → (new : Stage) × GivesUpAll now old new × ((rest : List (Event (List ℕ))) × (new.told ≡ mid.told ++ rest))
given_up_from now old mid steps =
    let all = completed (GivesUpFirst now) (λ s. NoneDue now s.queue) (gives_up_next now) (marked_items mid.queue.outstanding.items) old mid (omega arith) steps in
    (all.new, record { steps = all.steps; none_left = all.is_over }, (all.rest, all.told))

pub some_given_up : (now : ℕ) (old : Stage) → (new : Stage) × GivesUpAll now old new
some_given_up now old = let (new, gives_up, more_told) = given_up_from now old old none in (new, gives_up)

-- What the packet holds stays.
pub packet_kept_by_steps : (now : ℕ) (old new : Stage) → StageSteps (GivesUpFirst now) old new → (new.tsns ≡ old.tsns) × (new.room ≡ old.room)
packet_kept_by_steps now old _ none = (refl, refl)
packet_kept_by_steps now old _ (more between new steps step) =
    let before = packet_kept_by_steps now old between steps in
    let keeps = giving_up_keeps now step.place between new step.gives_up in
    (keeps.tsns ∙ before.0, keeps.room ∙ before.1)

pub packet_of_given_up : (now : ℕ) (old new : Stage) → GivesUpAll now old new → (new.tsns ≡ old.tsns) × (new.room ≡ old.room)
packet_of_given_up now old new gives_up = packet_kept_by_steps now old new gives_up.steps
