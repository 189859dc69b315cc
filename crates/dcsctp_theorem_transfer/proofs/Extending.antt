-- While packets are filled, what is outstanding keeps its TSNs, its chunks and what a SACK has acknowledged of it.
use Rattle.std.proofs.Common.{◌≡◌, ◌≤◌, ◌<◌, ◌+◌, ◌-◌, ◌^◌, ℕ, zero, suc, nat_lt, Bool, true, false, if◌then◌else◌, Option, None, Some, List, [], ◌∷◌, ◌++◌, length, slice_get, inl, inr, refl, sym, ap, ◌∙◌, subst, arith}
use Rattle.std.proofs.lemmas.List.{length-append}
use Rattle.dcsctp_spec_lemmas.specs.types.declared.progress.Change.{Change}
use Rattle.dcsctp_spec_lemmas.specs.types.declared.progress.Change.TheVariants.{SendAgain, Miss, Mark, Acknowledge, Abandon}
use Rattle.dcsctp_spec_lemmas.specs.types.declared.progress.ItemState.{ItemState}
use Rattle.dcsctp_spec_lemmas.specs.types.declared.progress.ItemState.TheVariants.{InFlight, Marked, Acknowledged, Abandoned}
use Rattle.dcsctp_spec_lemmas.specs.types.declared.progress.Progress.{Progress}
use Rattle.dcsctp_spec_lemmas.specs.types.queues.Progress.{marked_lost}
use Rattle.dcsctp_spec_lemmas.specs.spec.Packet.{Emission}
use Rattle.dcsctp_spec_lemmas.specs.spec.endpoint.BegunResets.{BegunReset, retransmission_begun}
use Rattle.dcsctp_spec_lemmas.specs.spec.endpoint.Endpoint.{Endpoint}
use Rattle.dcsctp_spec_lemmas.specs.spec.endpoint.FlushOutcomes.{Ask, Answer, Gives, FillsIfAllowed, GivesUpThenForwards, ForwardMade, stage_of}
use Rattle.dcsctp_spec_lemmas.specs.spec.endpoint.TransferMoves.{timed_transfer}
use Rattle.dcsctp_spec_lemmas.specs.spec.queues.Abandoning.{GivesUpFirst}
use Rattle.dcsctp_spec_lemmas.specs.spec.queues.AtOnce.{empty_stage, SendsAtOnce}
use Rattle.dcsctp_spec_lemmas.specs.spec.queues.Filling.{Stage, ClosesMessage, GivesUpItem, SendsMarked, StepAgain, StepNew, StageSteps, none, more, resent_packet_counted, FillsPacket}
use Rattle.dcsctp_spec_lemmas.specs.spec.queues.ItemMessages.{EndsDropped}
use Rattle.dcsctp_spec_lemmas.specs.spec.queues.Items.{Item, changed_item, changed_between}
use Rattle.dcsctp_spec_lemmas.specs.spec.queues.Outstanding.{OutstandingState}
use Rattle.dcsctp_spec_lemmas.specs.spec.queues.Retransmission.{RetransmissionState, counted_again, after_expiry}
use Rattle.dcsctp_spec_lemmas.specs.spec.queues.SendQueue.{SendQueueState}
use Rattle.dcsctp_spec_lemmas.specs.spec.queues.Transfer.{Transfer}
use Rattle.dcsctp_theorem_transfer.proofs.Leaving.{changed_length}

-- ---- one item

-- An item has the same chunk, and is as much acknowledged.
pub record SameItem (old new : Item) : Type 0 where
  pub fragment : new.fragment ≡ old.fragment
  pub acknowledged : new.progress.was_acknowledged ≡ old.progress.was_acknowledged

-- The item is still there at this place.
pub record StaysThere (items : List Item) (place : ℕ) (old : Item) : Type 0 where
  pub item : Item
  pub at : slice_get items place ≡ Some item
  pub same : SameItem old item

-- Each is, at its place.
abbrev pub KeepsItems : List Item → List Item → Type 0
KeepsItems old new = (place : ℕ) (item : Item) → slice_get old place ≡ Some item → StaysThere new place item

pub same_items : (items : List Item) → KeepsItems items items
same_items items place item at = record { item = item; at = at; same = record { fragment = refl; acknowledged = refl } }

pub items_then : (a b c : List Item) → KeepsItems a b → KeepsItems b c → KeepsItems a c
items_then a b c one other place item at =
    let first : StaysThere b place item = one place item at in
    let second : StaysThere c place first.item = other place first.item first.at in
    record {
      item = second.item;
      at = second.at;
      same = record { fragment = second.same.fragment ∙ first.same.fragment; acknowledged = second.same.acknowledged ∙ first.same.acknowledged };
    }

-- a change that acknowledges none
abbrev pub IsSilent : Change → Type 0
IsSilent (SendAgain next) = Unit {0}
IsSilent (Miss newest) = ⊥
IsSilent Mark = Unit {0}
IsSilent Acknowledge = ⊥
IsSilent Abandon = Unit {0}

lost_silently : (state : ItemState) (progress : Progress) → (marked_lost state progress).was_acknowledged ≡ progress.was_acknowledged
lost_silently InFlight progress = refl
lost_silently Marked progress = refl
lost_silently Acknowledged progress = refl
lost_silently Abandoned progress = refl

one_silent : (change : Change) (item : Item) → IsSilent change → SameItem item (changed_item change item)
one_silent (SendAgain next) item silent = record { fragment = refl; acknowledged = refl }
one_silent (Miss newest) item silent = absurd silent
one_silent Mark item silent = record { fragment = refl; acknowledged = lost_silently item.progress.state item.progress }
one_silent Acknowledge item silent = absurd silent
one_silent Abandon item silent = record { fragment = refl; acknowledged = refl }

changed_here : (change : Change) (x item : Item) (rest : List Item) → IsSilent change → x ≡ item → StaysThere (changed_item change x ∷ rest) zero item
changed_here change x item rest silent same = record { item = changed_item change x; at = refl; same = subst (λ (i : Item). SameItem i (changed_item change x)) same (one_silent change x silent) }

pub changed_kept : (change : Change) (start end : ℕ) (items : List Item) → IsSilent change → KeepsItems items (changed_between change start end items)
changed_kept change zero zero items silent place item at = same_items items place item at
changed_kept change zero (suc end) [] silent place item at = absurd (cc)
changed_kept change zero (suc end) (x ∷ items) silent zero item at = changed_here change x item (changed_between change zero end items) silent (let same : x ≡ item = cc in same)
changed_kept change zero (suc end) (x ∷ items) silent (suc place) item at =
    let rest : StaysThere (changed_between change zero end items) place item = changed_kept change zero end items silent place item at in
    record { item = rest.item; at = rest.at; same = rest.same }
changed_kept change (suc start) zero items silent place item at = same_items items place item at
changed_kept change (suc start) (suc end) [] silent place item at = absurd (cc)
changed_kept change (suc start) (suc end) (x ∷ items) silent zero item at = record { item = item; at = at; same = record { fragment = refl; acknowledged = refl } }
changed_kept change (suc start) (suc end) (x ∷ items) silent (suc place) item at =
    let rest : StaysThere (changed_between change start end items) place item = changed_kept change start end items silent place item at in
    record { item = rest.item; at = rest.at; same = rest.same }

added_kept : (items : List Item) (last : Item) → KeepsItems items (items ++ last ∷ [])
added_kept [] last place item at = absurd (cc)
added_kept (x ∷ items) last zero item at = record { item = item; at = at; same = record { fragment = refl; acknowledged = refl } }
added_kept (x ∷ items) last (suc place) item at =
    let rest : StaysThere (items ++ last ∷ []) place item = added_kept items last place item at in record { item = rest.item; at = rest.at; same = rest.same }

-- ---- what is outstanding

-- The TSNs and the form stay, each item is still there, and there may be more. TSNs can still be compared (RFC 9260, section 1.6).
pub record Extends (old new : OutstandingState) : Type 0 where
  pub first : new.first_tsn ≡ old.first_tsn
  pub kind : new.is_interleaved ≡ old.is_interleaved
  pub items : KeepsItems old.items new.items
  pub more : length old.items ≤ length new.items
  pub few : length old.items < 2 ^ 31 → length new.items < 2 ^ 31

pub extends_itself : (state : OutstandingState) → Extends state state
extends_itself state = record { first = refl; kind = refl; items = same_items state.items; more = omega arith; few = λ few. few }

pub extends_then : (a b c : OutstandingState) → Extends a b → Extends b c → Extends a c
extends_then a b c one other =
    record {
      first = other.first ∙ one.first;
      kind = other.kind ∙ one.kind;
      items = items_then a.items b.items c.items one.items other.items;
      more = (let first = one.more in let second = other.more in omega (arith, first, second));
      few = λ few. other.few (one.few few);
    }

pub extends_by : (old new : OutstandingState) → new ≡ old → Extends old new
extends_by old new is = subst (Extends old) (sym is) (extends_itself old)

pub extends_to : (old made new : OutstandingState) → new ≡ made → Extends old made → Extends old new
extends_to old made new is extends = subst (Extends old) (sym is) extends

-- One item more, with a TSN that can be compared.
extends_by_one : (old : OutstandingState) (last : Item) → length old.items + 1 < 2 ^ 31 → Extends old (record old { items = old.items ++ last ∷ [] })
extends_by_one old last comparable =
    let longer : length (old.items ++ last ∷ []) ≡ length old.items + 1 = length-append old.items (last ∷ []) in
    record { first = refl; kind = refl; items = added_kept old.items last; more = omega (arith, longer); few = λ few. omega (arith, longer, comparable) }

-- A change of some items that acknowledges none.
extends_changed : (old : OutstandingState) (change : Change) (start end : ℕ) → IsSilent change → Extends old (record old { items = changed_between change start end old.items })
extends_changed old change start end silent =
    let same : length (changed_between change start end old.items) ≡ length old.items = changed_length change start end old.items in
    record { first = refl; kind = refl; items = changed_kept change start end old.items silent; more = omega (arith, same); few = λ few. omega (arith, same, few) }

-- ---- while packets are filled

abbrev ExtendsStage : Stage → Stage → Type 0
ExtendsStage old new = Extends old.queue.outstanding new.queue.outstanding

dropped_extends : (now : ℕ) (begins : Bool) (last : Item) (old new : OutstandingState) (b : Bool) → length old.items + 1 < 2 ^ 31 → EndsDropped now begins last old new b → Extends old new
dropped_extends now begins last old new true comparable does = extends_to old (record old { items = old.items ++ does.item ∷ [] }) new does.grows (extends_by_one old does.item comparable)
dropped_extends now begins last old new false comparable does = extends_by old new does

closes_extends : (now : ℕ) (last : Item) (old new : Stage) (b : Bool) → ClosesMessage now last old new b → ExtendsStage old new
closes_extends now last old new true does = extends_by old.queue.outstanding new.queue.outstanding (ap (λ (s : Stage). s.queue.outstanding) does)
closes_extends now last old new false (inl does) =
    extends_to old.queue.outstanding does.1.outstanding new.queue.outstanding (ap (λ (s : Stage). s.queue.outstanding) does.1.is)
    (dropped_extends now old.queue.reset_begun last old.queue.outstanding does.1.outstanding does.1.drops.is_dropped does.0 does.1.drops.ends)
closes_extends now last old new false (inr does) = extends_by old.queue.outstanding new.queue.outstanding (ap (λ (s : Stage). s.queue.outstanding) does.1)

gives_up_extends : (now place : ℕ) (old new : Stage) → GivesUpItem now place old new → ExtendsStage old new
gives_up_extends now place old new does =
    let closed : OutstandingState = does.closed.queue.outstanding in
    extends_then old.queue.outstanding closed new.queue.outstanding (closes_extends now does.last old does.closed does.last.fragment.is_end does.closes)
    (extends_to closed (record closed { items = changed_between Abandon does.start (does.last_place + 1) closed.items }) new.queue.outstanding (ap (λ (s : Stage). s.queue.outstanding) does.is)
    (extends_changed closed Abandon does.start (does.last_place + 1) tt))

steps_extend : (Step : Stage → Stage → Type 0) → ((old new : Stage) → Step old new → ExtendsStage old new) → (old new : Stage) → StageSteps Step old new → ExtendsStage old new
steps_extend Step step old _ none = extends_itself old.queue.outstanding
steps_extend Step step old new (more between _ steps last) =
    extends_then old.queue.outstanding between.queue.outstanding new.queue.outstanding (steps_extend Step step old between steps) (step between new last)

given_up_extends : (b : Bool) (now : ℕ) (transfer : Transfer) (room : ℕ) (old new : Stage) (made : ForwardMade) → GivesUpThenForwards b now transfer room old new made → ExtendsStage old new
given_up_extends false now transfer room old new made does = extends_by old.queue.outstanding new.queue.outstanding (ap (λ (s : Stage). s.queue.outstanding) does.0)
given_up_extends true now transfer room old new made does =
    steps_extend (GivesUpFirst now) (λ from to step. gives_up_extends now step.place from to step.gives_up) old new does.0.steps

marked_extends : (now : ℕ) (old new : Stage) → SendsMarked now old new → ExtendsStage old new
marked_extends now old new does =
    let held : OutstandingState = old.queue.outstanding in
    extends_to held _ new.queue.outstanding (ap (λ (s : Stage). s.queue.outstanding) does.is)
    (extends_changed held (SendAgain _) does.place (does.place + 1) tt)

again_extends : (now : ℕ) (old new : Stage) → StepAgain now old new → ExtendsStage old new
again_extends now old new (inl does) = marked_extends now old new does.1
again_extends now old new (inr does) = gives_up_extends now does.place old new does.gives_up

anew_extends : (now : ℕ) (old new : Stage) → StepNew now old new → ExtendsStage old new
anew_extends now old new (may, inl does) =
    extends_to old.queue.outstanding _ new.queue.outstanding (ap (λ (s : Stage). s.queue.outstanding) does.is)
    (extends_by_one old.queue.outstanding does.item may.comparable)
anew_extends now old new (may, inr does) = extends_by old.queue.outstanding new.queue.outstanding (ap (λ (s : Stage). s.queue.outstanding) does.is)

pub counted_same : (size : ℕ) (state : RetransmissionState) → (counted_again size state).outstanding ≡ state.outstanding
counted_same size state = go (nat_lt 0 size) _ refl
  where
    go : (b : Bool) (one : RetransmissionState) → one.outstanding ≡ state.outstanding → (if b then one else state).outstanding ≡ state.outstanding
    go true one is = is
    go false one is = refl

pub fills_extends : (now : ℕ) (old new : Stage) → FillsPacket now old new → ExtendsStage old new
fills_extends now old new does =
    let resent : Stage = does.fills.resent in
    let counted : Stage = resent_packet_counted old.room resent in
    let again : ExtendsStage old resent = steps_extend (StepAgain now) (again_extends now) old resent does.fills.again in
    let anew : ExtendsStage counted does.sent = steps_extend (StepNew now) (anew_extends now) counted does.sent does.fills.anew in
    let between : Extends resent.queue.outstanding counted.queue.outstanding =
    extends_by resent.queue.outstanding counted.queue.outstanding (counted_same (old.room - resent.room) resent.queue) in
    extends_then old.queue.outstanding resent.queue.outstanding new.queue.outstanding again
    (extends_then resent.queue.outstanding counted.queue.outstanding new.queue.outstanding between
    (extends_to counted.queue.outstanding does.sent.queue.outstanding new.queue.outstanding (ap (λ (s : Stage). s.queue.outstanding) does.is) anew))

allowed_extends : (b : Bool) (now : ℕ) (old new : Stage) → FillsIfAllowed b now old new → ExtendsStage old new
allowed_extends true now old new does = fills_extends now old new does
allowed_extends false now old new (inl same) = extends_by old.queue.outstanding new.queue.outstanding (ap (λ (s : Stage). s.queue.outstanding) same)
allowed_extends false now old new (inr does) = fills_extends now old new does

pub begun_same : (begun : Option BegunReset) (state : RetransmissionState) → (retransmission_begun begun state).outstanding ≡ state.outstanding
begun_same None state = refl
begun_same (Some begun) state = refl

pub gave_extends : (ask : Ask) (e : Endpoint) (draft : Emission) (t : Transfer) (answer : Answer) (gave : Gives ask e draft t answer)
    → Extends t.retransmission.outstanding gave.sent.queue.outstanding
gave_extends ask e draft t answer gave =
    let given : Extends t.retransmission.outstanding gave.gave_up.queue.outstanding =
    given_up_extends _ e.moment t _ (stage_of e.queues.queue t.retransmission [] 0) gave.gave_up _ gave.gives_up in
    let begun : RetransmissionState = retransmission_begun answer.begun gave.gave_up.queue in
    extends_then t.retransmission.outstanding gave.gave_up.queue.outstanding gave.sent.queue.outstanding given
    (extends_then gave.gave_up.queue.outstanding begun.outstanding gave.sent.queue.outstanding
    (extends_by gave.gave_up.queue.outstanding begun.outstanding (begun_same answer.begun gave.gave_up.queue)) (allowed_extends _ e.moment _ gave.sent gave.fills))

pub resent_extends : (now bytes : ℕ) (waiting : SendQueueState) (old new : RetransmissionState) (tsns : List ℕ) → SendsAtOnce now bytes waiting old new tsns → Extends old.outstanding new.outstanding
resent_extends now bytes waiting old new tsns does =
    let begun : Stage = empty_stage (record old { fast_retransmit_due = false }) waiting bytes in
    let ended : Stage = record (empty_stage does.resent waiting does.room) { tsns = tsns } in
    extends_to old.outstanding does.resent.outstanding new.outstanding (ap (λ (r : RetransmissionState). r.outstanding) does.is ∙ counted_same (bytes - does.room) does.resent)
    (steps_extend (SendsMarked now) (marked_extends now) begun ended does.steps)

-- All that was in flight is lost.
pub lost_extends : (now : ℕ) (state : RetransmissionState) → Extends state.outstanding (after_expiry now state).outstanding
lost_extends now state = extends_changed state.outstanding Mark 0 (length state.outstanding.items) tt

-- A round trip that is taken into account changes none of it.
pub timed_same : (round_trip : Option ℕ) (t : Transfer) → (timed_transfer round_trip t).retransmission.outstanding ≡ t.retransmission.outstanding
timed_same None t = refl
timed_same (Some round_trip) t = refl
