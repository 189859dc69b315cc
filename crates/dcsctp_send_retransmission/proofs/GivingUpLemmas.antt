-- Lemmas on which messages are abandoned.
use Rattle.std.proofs.Common.{◌≡◌, ◌∙◌, ◌⊎◌, inl, inr, Ok, Err, ℕ, zero, suc, ◌+◌, ◌<◌, ◌≤◌, ◌&&◌, Bool, true, false, Some, List, [], ◌∷◌, ◌++◌, length, refl, ap, sym, subst, arith}
use Rattle.std.specs.List.{slice_get}
use Rattle.std.specs.declared.alloc.AllocError.{AllocError}
use Rattle.std.proofs.lemmas.Option.{slice_get_within}
use Rattle.dcsctp_api.specs.spec.queues.Items.{Item, changed_item, changed_between}
use Rattle.dcsctp_api.specs.types.declared.progress.Progress.{Progress}
use Rattle.dcsctp_api.specs.types.declared.progress.ItemState.{ItemState}
use Rattle.dcsctp_api.specs.types.declared.progress.ItemState.TheVariants.{InFlight, Marked, Acknowledged, Abandoned}
use Rattle.dcsctp_api.specs.types.declared.progress.Change.TheVariants.{Abandon}
use Rattle.dcsctp_api.specs.types.queues.Progress.{is_marked, is_unacknowledged}
use Rattle.dcsctp_send_retransmission.specs.Outstanding.{MayAddEnd}
use Rattle.dcsctp_api.specs.spec.queues.Outstanding.{OutstandingState}
use Rattle.dcsctp_api.specs.spec.queues.ItemMessages.{EndsDropped}
use Rattle.dcsctp_send_retransmission.proofs.ItemsLemmas.{le_or_lt, slice_get_pushed}
use Rattle.dcsctp_send_retransmission.specs.Queue.{MayGrow, AbandonsItems}
use Rattle.dcsctp_api.specs.spec.queues.Retransmission.{RetransmissionState}
use Rattle.dcsctp_api.specs.spec.queues.Filling.{Stage, ClosesMessage, GivesUpItem, StageSteps, none, more}
use Rattle.dcsctp_api.specs.spec.queues.NextItem.{is_abandonment_due}
use Rattle.dcsctp_send_retransmission.specs.GivingUp.{StopsGivingUp, GivesUpIf}
use Rattle.dcsctp_api.specs.spec.queues.Abandoning.{NoneAwaitedBefore, NoneDue, GivesUpFirst}
use Rattle.dcsctp_send_retransmission.proofs.QueueLemmas.{gives_up_grows}

-- ---- items that aren't awaited

-- such an item isn't due
pub not_due : (now : ℕ) (negotiated : Bool) (item : Item) → is_unacknowledged item.progress.state ≡ false → is_abandonment_due now negotiated item ≡ false
not_due now false item e = refl
not_due now true item e = go item.progress.state _ e
  where
    go : (state : ItemState) (test : Bool) → is_unacknowledged state ≡ false → (is_marked state && test) ≡ false
    go InFlight test e = absurd (cc)
    go Marked test e = absurd (cc)
    go Acknowledged test e = refl
    go Abandoned test e = refl

gone : (x y : Item) → changed_item Abandon x ≡ y → is_unacknowledged y.progress.state ≡ false
gone x y e = ap (λ (z : Item). is_unacknowledged z.progress.state) (sym e)

-- it stays so
stays : (start end : ℕ) (items : List Item) (k : ℕ) (x : Item) → slice_get (changed_between Abandon start end items) k ≡ Some x → ((y : Item) → slice_get items k ≡ Some y → is_unacknowledged y.progress.state ≡ false) → is_unacknowledged x.progress.state ≡ false
stays zero zero items k x at before = before x at
stays zero (suc end) [] k x at before = absurd (cc)
stays zero (suc end) (y ∷ ys) zero x at before = gone y x (cc)
stays zero (suc end) (y ∷ ys) (suc k) x at before = stays zero end ys k x at before
stays (suc start) zero items k x at before = before x at
stays (suc start) (suc end) [] k x at before = absurd (cc)
stays (suc start) (suc end) (y ∷ ys) zero x at before = before x at
stays (suc start) (suc end) (y ∷ ys) (suc k) x at before = stays start end ys k x at before

-- one that is abandoned isn't awaited
given_up : (start end : ℕ) (items : List Item) (k : ℕ) (x : Item) → start ≤ k → k < end → slice_get (changed_between Abandon start end items) k ≡ Some x → is_unacknowledged x.progress.state ≡ false
given_up zero zero items k x from to at = absurd (omega arith)
given_up zero (suc end) [] k x from to at = absurd (cc)
given_up zero (suc end) (y ∷ ys) zero x from to at = gone y x (cc)
given_up zero (suc end) (y ∷ ys) (suc k) x from to at = given_up zero end ys k x (omega arith) (omega arith) at
given_up (suc start) zero items k x from to at = absurd (omega arith)
given_up (suc start) (suc end) [] k x from to at = absurd (cc)
given_up (suc start) (suc end) (y ∷ ys) zero x from to at = absurd (omega arith)
given_up (suc start) (suc end) (y ∷ ys) (suc k) x from to at = given_up start end ys k x (omega arith) (omega arith) at

-- an end that is added isn't
added_end : (old new : OutstandingState) → MayAddEnd old new → (k : ℕ) (x : Item) → slice_get new.items k ≡ Some x → (slice_get old.items k ≡ Some x) ⊎ (is_unacknowledged x.progress.state ≡ false)
added_end old new (inl same) k x at = inl (ap (λ (m : OutstandingState). slice_get m.items k) (sym same) ∙ at)
added_end old new (inr ends) k x at =
    let pushed : slice_get (old.items ++ ends.item ∷ []) k ≡ Some x = ap (λ (m : OutstandingState). slice_get m.items k) (sym ends.grows) ∙ at in
    elim (slice_get_pushed old.items k ends.item x pushed) [
      | inl is ↦ inr (ap (λ (z : Item). is_unacknowledged z.progress.state) is ∙ ap is_unacknowledged ends.is_abandoned)
      | inr was ↦ inl was
    ]

gives_up_stays : (place : ℕ) (old new : RetransmissionState) → AbandonsItems place old new → (k : ℕ) (x : Item) → slice_get new.outstanding.items k ≡ Some x → ((y : Item) → slice_get old.outstanding.items k ≡ Some y → is_unacknowledged y.progress.state ≡ false) → is_unacknowledged x.progress.state ≡ false
gives_up_stays place old new up k x at before =
    let here : slice_get (changed_between Abandon up.start up.end up.grown.outstanding.items) k ≡ Some x = ap (λ (q : RetransmissionState). slice_get q.outstanding.items k) (sym up.is) ∙ at in
    stays up.start up.end up.grown.outstanding.items k x here (λ y is. elim (added_end old.outstanding up.grown.outstanding up.grows.ends k y is) [ inl was ↦ before y was | inr e ↦ e ])

-- ---- one message

ends_adds : (now : ℕ) (begins : Bool) (last : Item) (old new : OutstandingState) (is_dropped : Bool) → EndsDropped now begins last old new is_dropped → MayAddEnd old new
ends_adds now begins last old new true ends = inr (record { item = ends.item; is_abandoned = ap (λ (p : Progress). p.state) ends.is_end.progress; grows = ends.grows })
ends_adds now begins last old new false same = inl same

-- what is done for a message beside its items
closes_grows : (now : ℕ) (last : Item) (old new : Stage) (is_end : Bool) → ClosesMessage now last old new is_end → MayGrow old.queue new.queue
closes_grows now last old new true is = rw is (record { ends = inl refl; rest = refl })
closes_grows now last old new false (inl drops) =
    rw drops.1.is (record { ends = ends_adds now old.queue.reset_begun last old.queue.outstanding drops.1.outstanding drops.1.drops.is_dropped drops.1.drops.ends; rest = refl })
closes_grows now last old new false (inr same) = rw same.1 (record { ends = inl refl; rest = refl })

-- the same in the words of the queue alone
pub gives_up_at : (now place : ℕ) (old new : Stage) → GivesUpItem now place old new → AbandonsItems place old.queue new.queue
gives_up_at now place old new up =
    record {
      grown = up.closed.queue;
      grows = closes_grows now up.last old up.closed up.last.fragment.is_end up.closes;
      start = up.start;
      end = up.last_place + 1;
      from = up.message.0.from;
      to = up.message.1.to;
      is = ap (λ (s : Stage). s.queue) up.is;
    }

-- no item is lost
pub if_grows : {A : Type 0} (done : A) (now place : ℕ) (old new : Stage) (due : Bool) → GivesUpIf now place old new due (Ok done) → length old.queue.outstanding.items ≤ length new.queue.outstanding.items
if_grows done now place old new true gives = gives_up_grows place old.queue new.queue (gives_up_at now place old new gives)
if_grows done now place old new false same = let e = ap (λ (s : Stage). length s.queue.outstanding.items) same in omega arith

-- nothing is due where partial reliability wasn't negotiated
pub none_due_without : (now : ℕ) (queue : RetransmissionState) → queue.partial_reliability ≡ false → NoneDue now queue
none_due_without now queue off place is =
    let due : true ≡ false = sym is.due ∙ ap (λ (b : Bool). is_abandonment_due now b is.item) off in
    absurd (cc)

-- ---- one after the other

-- How far the items were looked at: none before the place is awaited.
pub record Scans (now place : ℕ) (initial at : Stage) : Type 0 where
  pub steps : StageSteps (GivesUpFirst now) initial at
  pub passed : NoneAwaitedBefore place at.queue.outstanding.items
  pub added : (k : ℕ) (item : Item) → length initial.queue.outstanding.items ≤ k → slice_get at.queue.outstanding.items k ≡ Some item → is_unacknowledged item.progress.state ≡ false
  pub grown : length initial.queue.outstanding.items ≤ length at.queue.outstanding.items

pub scans_none : (now : ℕ) (stage : Stage) → Scans now 0 stage stage
scans_none now stage =
    record {
      steps = none;
      passed = λ k item below at. absurd (omega arith);
      added = λ k item past at. let within = slice_get_within stage.queue.outstanding.items k item at in absurd (omega arith);
      grown = omega arith;
    }

-- the item at the place isn't due
abbrev pub NotDueAt : ℕ → ℕ → RetransmissionState → Type 0
NotDueAt now place queue = (x : Item) → slice_get queue.outstanding.items place ≡ Some x → is_abandonment_due now queue.partial_reliability x ≡ false

-- the item at the place is abandoned if it is due
pub scans_at : {A : Type 0} (done : A) (now place : ℕ) (initial old new : Stage) (item : Item) → Scans now place initial old → slice_get old.queue.outstanding.items place ≡ Some item → (due : Bool) → is_abandonment_due now old.queue.partial_reliability item ≡ due → GivesUpIf now place old new due (Ok done) → Scans now place initial new × NotDueAt now place new.queue
scans_at done now place initial old new item scans at true is gives =
    let up = gives_up_at now place old new gives in (
      record {
        steps = more old new scans.steps (record { place = place; is_due = record { none_awaited = scans.passed; item = item; at = at; due = is }; gives_up = gives });
        passed = λ k x below here. gives_up_stays place old.queue new.queue up k x here (λ y was. scans.passed k y below was);
        added = λ k x past here. gives_up_stays place old.queue new.queue up k x here (λ y was. scans.added k y past was);
        grown = let more_items = gives_up_grows place old.queue new.queue up in let before = scans.grown in omega arith;
      },
      λ x here.
          let inside : slice_get (changed_between Abandon up.start up.end up.grown.outstanding.items) place ≡ Some x = ap (λ (q : RetransmissionState). slice_get q.outstanding.items place) (sym up.is) ∙ here in
          not_due now new.queue.partial_reliability x (given_up up.start up.end up.grown.outstanding.items place x up.from up.to inside),
    )
scans_at done now place initial old new item scans at false is same =
    let P : Stage → Type 0 = λ s. Scans now place initial s × NotDueAt now place s.queue in
    subst P (sym same) (scans, λ x here. let e : item ≡ x = cc in ap (is_abandonment_due now old.queue.partial_reliability) (sym e) ∙ is)

-- memory is refused for the item at the place
pub scans_stop : (A : Type 0) (error : AllocError) (now place : ℕ) (initial old new : Stage) (item : Item) → Scans now place initial old → slice_get old.queue.outstanding.items place ≡ Some item → (due : Bool) → is_abandonment_due now old.queue.partial_reliability item ≡ due → GivesUpIf {A = A} now place old new due (Err error) → StopsGivingUp now initial new
scans_stop A error now place initial old new item scans at true is refuses =
    record {
      at = old;
      steps = scans.steps;
      place = place;
      is_due = record { none_awaited = scans.passed; item = item; at = at; due = is };
      refuses = refuses;
    }
scans_stop A error now place initial old new item scans at false is refuses = absurd refuses

-- it isn't awaited, and the next one is looked at
pub scans_on : (now place : ℕ) (initial at : Stage) → Scans now place initial at → ((x : Item) → slice_get at.queue.outstanding.items place ≡ Some x → is_unacknowledged x.progress.state ≡ false) → Scans now (place + 1) initial at
scans_on now place initial at scans here =
    record {
      steps = scans.steps;
      passed = λ k x below is. elim (le_or_lt place k) [
        | inl from ↦ let e : k ≡ place = omega arith in here x (subst (λ n. slice_get at.queue.outstanding.items n ≡ Some x) e is)
        | inr before ↦ scans.passed k x before is
      ];
      added = scans.added;
      grown = scans.grown;
    }

-- it is awaited: all after it stay
pub scanned_to : (now place : ℕ) (initial at : Stage) (item : Item) → Scans now place initial at → NotDueAt now place at.queue → slice_get at.queue.outstanding.items place ≡ Some item → is_unacknowledged item.progress.state ≡ true → NoneDue now at.queue
scanned_to now place initial at item scans settled here awaited k is =
    let due : true ≡ false = sym is.due ∙ not_due_there k is.item is.at is.none_awaited in
    absurd (cc)
  where
    not_due_there : (k : ℕ) (x : Item) → slice_get at.queue.outstanding.items k ≡ Some x → NoneAwaitedBefore k at.queue.outstanding.items → is_abandonment_due now at.queue.partial_reliability x ≡ false
    not_due_there k x there before =
        elim (le_or_lt k place) [
          | inl up_to ↦ elim (le_or_lt place k) [
            | inl from ↦ let e : k ≡ place = omega arith in settled x (subst (λ n. slice_get at.queue.outstanding.items n ≡ Some x) e there)
            | inr earlier ↦ not_due now at.queue.partial_reliability x (scans.passed k x earlier there)
          ]
          | inr behind ↦ let e : true ≡ false = sym awaited ∙ before place item behind here in absurd (cc)
        ]
