-- The first item that waits to be sent again goes into a packet first.
use Rattle.std.proofs.Common.{◌≡◌, ◌≤◌, ◌<◌, ◌+◌, ◌-◌, ℕ, nat_lt, Bool, true, false, if◌then◌else◌, Some, List, [], ◌∷◌, ◌++◌, inl, inr, append_assoc, append-nil, refl, sym, ap, ◌∙◌, subst, slice_get, arith}
use Rattle.std.proofs.lemmas.Bool.Decides.{nat_tests}
use Rattle.dcsctp_spec_lemmas.specs.types.queues.Progress.{is_marked}
use Rattle.dcsctp_spec_lemmas.specs.types.declared.progress.Change.TheVariants.{Abandon}
use Rattle.dcsctp_spec_lemmas.specs.spec.queues.Filling.{Stage, ClosesMessage, GivesUpItem, StepAgain, StepNew, StageSteps, none, more, resent_packet_counted, FillsPacket}
use Rattle.dcsctp_spec_lemmas.specs.spec.queues.Items.{Item, item_size, marked_items}
use Rattle.dcsctp_spec_lemmas.specs.spec.queues.NextItem.{IsMarkedItem, IsNextMarked, is_abandonment_due, Halts}
use Rattle.dcsctp_spec_lemmas.specs.spec.queues.Outstanding.{OutstandingState, header, tsn_at}
use Rattle.dcsctp_spec_lemmas.specs.spec.queues.Retransmission.{RetransmissionState, can_send, counted_again}
use Rattle.dcsctp_spec_lemmas.proofs.MarkedItemLemmas.{fewer_marked}

-- ---- one place

-- There is one first item that waits.
pub one_place : (p q : ℕ) (items : List Item) → IsNextMarked p items → IsNextMarked q items → p ≡ q
one_place p q items a b = go (nat_lt p q) (nat_lt q p) refl refl
  where
    go : (x y : Bool) → nat_lt p q ≡ x → nat_lt q p ≡ y → p ≡ q
    go true y before after =
        absurd (let nothing : is_marked a.marked.item.progress.state ≡ false = b.first p a.marked.item (grind (arith, nat_tests, before)) a.marked.at in
        let both : true ≡ false = sym a.marked.is ∙ nothing in cc)
    go false true before after =
        absurd (let nothing : is_marked b.marked.item.progress.state ≡ false = a.first q b.marked.item (grind (arith, nat_tests, after)) b.marked.at in
        let both : true ≡ false = sym b.marked.is ∙ nothing in cc)
    go false false before after = grind (arith, nat_tests, before, after)

pub same_item : (p q : ℕ) (items : List Item) (one other : Item) → p ≡ q → slice_get items p ≡ Some one → slice_get items q ≡ Some other → one ≡ other
same_item p q items one other same at there =
    let both : Some one ≡ Some other = sym at ∙ ap (λ (n : ℕ). slice_get items n) same ∙ there in cc

pub some_marked : (place : ℕ) (items : List Item) → IsMarkedItem place items → marked_items items ≡ 0 → ⊥
some_marked place items marked nothing =
    let fewer = fewer_marked Abandon (λ progress. refl) place (place + 1) place items marked.item (omega arith) (omega arith) marked.at marked.is in omega (arith, fewer, nothing)

-- ---- steps

-- Where there are some there is a first one.
pub data FirstStep (Step : Stage → Stage → Type 0) (old new : Stage) : Type 0 where
  no_step : new ≡ old → FirstStep Step old new
  one_step : (mid : Stage) → Step old mid → StageSteps Step mid new → FirstStep Step old new

pub first_step : (Step : Stage → Stage → Type 0) (old new : Stage) → StageSteps Step old new → FirstStep Step old new
first_step Step old _ none = no_step refl
first_step Step old new (more between _ steps last) = go (first_step Step old between steps)
  where
    go : FirstStep Step old between → FirstStep Step old new
    go (no_step same) = one_step new (subst (λ (s : Stage). Step s new) same last) none
    go (one_step mid step rest) = one_step mid step (more between new rest last)

-- Only further TSNs are added.
record Adds (old new : Stage) : Type 0 where
  added : List ℕ
  is : new.tsns ≡ old.tsns ++ added

adds_none : (old new : Stage) → new.tsns ≡ old.tsns → Adds old new
adds_none old new same = record { added = []; is = same ∙ sym (append-nil old.tsns) }

adds_both : (a b c : Stage) → Adds a b → Adds b c → Adds a c
adds_both a b c one other =
    record { added = one.added ++ other.added; is = other.is ∙ ap (λ (l : List ℕ). l ++ other.added) one.is ∙ append_assoc a.tsns one.added other.added }

closes_same : (now : ℕ) (last : Item) (old new : Stage) (b : Bool) → ClosesMessage now last old new b → new.tsns ≡ old.tsns
closes_same now last old new true does = ap (λ (s : Stage). s.tsns) does
closes_same now last old new false (inl does) = ap (λ (s : Stage). s.tsns) does.1.is
closes_same now last old new false (inr does) = ap (λ (s : Stage). s.tsns) does.1

gives_up_same : (now place : ℕ) (old new : Stage) → GivesUpItem now place old new → new.tsns ≡ old.tsns
gives_up_same now place old new does = ap (λ (s : Stage). s.tsns) does.is ∙ closes_same now does.last old does.closed does.last.fragment.is_end does.closes

again_adds : (now : ℕ) (old new : Stage) → StepAgain now old new → Adds old new
again_adds now old new (inl does) = record { added = _; is = ap (λ (s : Stage). s.tsns) does.1.is }
again_adds now old new (inr does) = adds_none old new (gives_up_same now does.place old new does.gives_up)

anew_adds : (now : ℕ) (old new : Stage) → StepNew now old new → Adds old new
anew_adds now old new (may, inl does) = record { added = _; is = ap (λ (s : Stage). s.tsns) does.is }
anew_adds now old new (may, inr does) = adds_none old new (ap (λ (s : Stage). s.tsns) does.is)

steps_add : (Step : Stage → Stage → Type 0) → ((old new : Stage) → Step old new → Adds old new) → (old new : Stage) → StageSteps Step old new → Adds old new
steps_add Step adds old _ none = adds_none old old refl
steps_add Step adds old new (more between _ steps last) = adds_both old between new (steps_add Step adds old between steps) (adds between new last)

-- ---- what is counted

pub record Alike (old new : RetransmissionState) : Type 0 where
  pub outstanding : new.outstanding ≡ old.outstanding
  pub sends : can_send new ≡ can_send old

pub counted_alike : (size : ℕ) (state : RetransmissionState) → Alike state (counted_again size state)
counted_alike size state = go (nat_lt 0 size) _ (record { outstanding = refl; sends = refl })
  where
    go : (b : Bool) (one : RetransmissionState) → Alike state one → Alike state (if b then one else state)
    go true one is = is
    go false one is = record { outstanding = refl; sends = refl }

-- ---- a packet

-- The TSN at this place is the first of those that are added.
pub record AddsFirst (tsn : ℕ) (old new : Stage) : Type 0 where
  pub later : List ℕ
  pub is : new.tsns ≡ old.tsns ++ (tsn ∷ later)

module _ (now : ℕ) (old : Stage) (place : ℕ) (next : IsNextMarked place old.queue.outstanding.items) (stays : is_abandonment_due now old.queue.partial_reliability next.marked.item ≡ false)
    (fits : item_size (header old.queue.outstanding) next.marked.item ≤ old.room) (may : can_send old.queue ≡ true) where
  -- It halts for none of the reasons that there are, as long as nothing was sent.
  goes : (sent : Stage) → sent.queue.outstanding ≡ old.queue.outstanding → sent.room ≡ old.room → can_send sent.queue ≡ true → Halts now sent.room sent.queue sent.waiting → ⊥
  goes sent same room sends (inl (first, inl cannot)) = let both : true ≡ false = sym sends ∙ cannot in absurd (cc)
  goes sent same room sends (inl (first, inr waits)) =
      let there : IsNextMarked waits.place old.queue.outstanding.items = subst (λ (o : OutstandingState). IsNextMarked waits.place o.items) same waits.next in
      let at : slice_get old.queue.outstanding.items waits.place ≡ Some waits.item = subst (λ (o : OutstandingState). slice_get o.items waits.place ≡ Some waits.item) same waits.at in
      let item : next.marked.item ≡ waits.item =
      same_item place waits.place old.queue.outstanding.items next.marked.item waits.item (one_place place waits.place old.queue.outstanding.items next there) next.marked.at at in
      let longer : sent.room < item_size (header old.queue.outstanding) waits.item = subst (λ (o : OutstandingState). sent.room < item_size (header o) waits.item) same waits.longer in
      let size : item_size (header old.queue.outstanding) next.marked.item ≡ item_size (header old.queue.outstanding) waits.item = ap (item_size (header old.queue.outstanding)) item in
      omega (arith, longer, size, fits, room)
  goes sent same room sends (inr (none_left, reason)) =
      some_marked place old.queue.outstanding.items next.marked (subst (λ (o : OutstandingState). marked_items o.items ≡ 0) same none_left)

  then_adds : (mid end : Stage) → mid.tsns ≡ old.tsns ++ tsn_at old.queue.outstanding place ∷ [] → Adds mid end → AddsFirst (tsn_at old.queue.outstanding place) old end
  then_adds mid end is adds =
      record {
        later = adds.added;
        is = adds.is ∙ ap (λ (l : List ℕ). l ++ adds.added) is ∙ append_assoc old.tsns (tsn_at old.queue.outstanding place ∷ []) adds.added;
      }

  pub resends_first : (new : Stage) → FillsPacket now old new → AddsFirst (tsn_at old.queue.outstanding place) old new
  resends_first new does = by_again (first_step (StepAgain now) old resent does.fills.again)
    where
      resent : Stage
      resent = does.fills.resent

      counted : Stage
      counted = resent_packet_counted old.room does.fills.resent

      alike : Alike does.fills.resent.queue (resent_packet_counted old.room does.fills.resent).queue
      alike = counted_alike (old.room - does.fills.resent.room) does.fills.resent.queue

      later : Adds (resent_packet_counted old.room does.fills.resent) new
      later =
          adds_both (resent_packet_counted old.room does.fills.resent) does.sent new
          (steps_add (StepNew now) (anew_adds now) (resent_packet_counted old.room does.fills.resent) does.sent does.fills.anew)
          (adds_none does.sent new (ap (λ (s : Stage). s.tsns) does.is))

      by_anew : does.fills.resent ≡ old → FirstStep (StepNew now) (resent_packet_counted old.room does.fills.resent) does.sent → ⊥
      by_anew same (one_step mid step rest) =
          some_marked place old.queue.outstanding.items next.marked
          (subst (λ (s : Stage). marked_items s.queue.outstanding.items ≡ 0) same (subst (λ (o : OutstandingState). marked_items o.items ≡ 0) alike.outstanding step.0.none_marked))
      by_anew same (no_step still) =
          goes does.sent
          (ap (λ (s : Stage). s.queue.outstanding) still ∙ alike.outstanding ∙ ap (λ (s : Stage). s.queue.outstanding) same)
          (ap (λ (s : Stage). s.room) still ∙ ap (λ (s : Stage). s.room) same)
          (ap (λ (s : Stage). can_send s.queue) still ∙ alike.sends ∙ ap (λ (s : Stage). can_send s.queue) same ∙ may) does.halts

      by_again : FirstStep (StepAgain now) old does.fills.resent → AddsFirst (tsn_at old.queue.outstanding place) old new
      by_again (no_step same) = absurd (by_anew same (first_step (StepNew now) (resent_packet_counted old.room does.fills.resent) does.sent does.fills.anew))
      by_again (one_step mid (inl sends) rest) =
          let there : sends.1.place ≡ place = one_place sends.1.place place old.queue.outstanding.items sends.1.next next in
          let first : mid.tsns ≡ old.tsns ++ tsn_at old.queue.outstanding place ∷ [] =
          ap (λ (s : Stage). s.tsns) sends.1.is ∙ ap (λ (n : ℕ). old.tsns ++ tsn_at old.queue.outstanding n ∷ []) there in
          let further : Adds mid does.fills.resent = steps_add (StepAgain now) (again_adds now) mid does.fills.resent rest in
          then_adds mid new first (adds_both mid (resent_packet_counted old.room does.fills.resent) new (record { added = further.added; is = further.is }) later)
      by_again (one_step mid (inr up) rest) =
          let item : up.next.marked.item ≡ next.marked.item =
          same_item up.place place old.queue.outstanding.items up.next.marked.item next.marked.item (one_place up.place place old.queue.outstanding.items up.next next) up.next.marked.at next.marked.at in
          let due : is_abandonment_due now old.queue.partial_reliability next.marked.item ≡ true =
          subst (λ (x : Item). is_abandonment_due now old.queue.partial_reliability x ≡ true) item up.due in
          absurd (let both : true ≡ false = sym due ∙ stays in cc)
