-- Lemmas on how a packet is filled.
use Rattle.std.proofs.Common.{◌≡◌, ◌⊎◌, ◌∙◌, ◌+◌, ◌-◌, ◌*◌, ◌/◌, min, Bool, ◌<◌, true, false, ◌^◌, ℕ, zero, suc, Option, Some, Result, Ok, Err, OnOk, OnErr, IfOk, IfSome, ◌++◌, subst, inl, inr, List, [], ◌∷◌, length, refl, ap, sym, arith}
use Rattle.std.specs.List.{slice_get}
use Rattle.std.specs.declared.alloc.AllocError.{AllocError}
use Rattle.dcsctp_api.specs.declared.events.SocketEvent.{SocketEvent}
use Rattle.dcsctp_api.specs.spec.queues.SendQueue.{SendQueueState}
use Rattle.dcsctp_api.specs.spec.queues.Sending.{TakesFragment}
use Rattle.dcsctp_send_queue.specs.Calls.{StopsDiscarding}
use Rattle.dcsctp_api.specs.spec.endpoint.Event.{Event}
use Rattle.dcsctp_send_queue.specs.Telling.{contents}
use Rattle.dcsctp_api.specs.spec.queues.Items.{Item, item_size, marked_items, changed_between}
use Rattle.dcsctp_send_retransmission.specs.declared.packet.Packet.{Packet}
use Rattle.dcsctp_api.specs.types.declared.progress.Change.{Change}
use Rattle.dcsctp_api.specs.types.declared.progress.Change.TheVariants.{SendAgain}
use Rattle.dcsctp_api.specs.types.queues.Progress.{is_marked}
use Rattle.dcsctp_api.specs.spec.queues.Outstanding.{OutstandingState, header}
use Rattle.dcsctp_api.specs.spec.queues.NextItem.{IsNextMarked, is_abandonment_due}
use Rattle.dcsctp_api.specs.spec.queues.Retransmission.{RetransmissionState, can_send}
use Rattle.dcsctp_send_retransmission.proofs.SendingLemmas.{last_pushed, with_outstanding}
use Rattle.dcsctp_send_retransmission.specs.States.{stage, RefusesClosing, GoesFilling, StopsFilling, StopsBetweenSteps, Goes, SendsItemAgain}
use Rattle.dcsctp_api.specs.spec.queues.Filling.{Stage, DropsRestOfMessage, ClosesMessage, payload_room, SendsNew, StepAgain, MayAdd, StepNew, resent_packet_counted, StageSteps, none, more, SendsMarked}
use Rattle.dcsctp_api.specs.spec.queues.AtOnce.{SendsFirst, is_first_marked}
use Rattle.dcsctp_send_retransmission.specs.Handing.{SendsItem}
use Rattle.dcsctp_api.specs.spec.queues.ItemMessages.{item_stage}

-- there is one item at a place
pub same_at : (items : List Item) (place : ℕ) (a b : Item) → slice_get items place ≡ Some a → slice_get items place ≡ Some b → a ≡ b
same_at items place a b first second = let both : Some a ≡ Some b = sym first ∙ second in cc

pub record Found (items : List Item) (place : ℕ) : Type 0 where
  pub item : Item
  pub at : slice_get items place ≡ Some item

pub found : (items : List Item) (place : ℕ) → place < length items → Found items place
found [] place within = absurd (omega arith)
found (x ∷ xs) zero within = record { item = x; at = refl }
found (x ∷ xs) (suc place) within = let later = found xs place (omega arith) in record { item = later.item; at = later.at }

pub on_ok_map : {A E : Type 0} {P Q : Type 0} (r : Result A E) → (P → Q) → OnOk r P → OnOk r Q
on_ok_map (Ok done) f p = f p
on_ok_map (Err error) f p = tt

pub closes_rest : (now : ℕ) (last : Item) (old new : Stage) (is_end : Bool) → is_end ≡ false → length old.queue.outstanding.items + 1 < 2 ^ 31 → DropsRestOfMessage now last old new → ClosesMessage now last old new is_end
closes_rest now last old new true is_false room drops = absurd (cc)
closes_rest now last old new false is_false room drops = inl (room, drops)

-- ---- steps

pub steps_trans : (Step : Stage → Stage → Type 0) (a b c : Stage) → StageSteps Step a b → StageSteps Step b c → StageSteps Step a c
steps_trans Step a b c first none = first
steps_trans Step a b c first (more between new steps step) = more between new (steps_trans Step a b between first steps) step

pub stops_trans : (now : ℕ) (Step : Stage → Stage → Type 0) (a b c : Stage) → StageSteps Step a b → StopsBetweenSteps now Step b c → StopsBetweenSteps now Step a c
stops_trans now Step a b c first stops =
    record { at = stops.at; steps = steps_trans Step a b stops.at first stops.steps; queue = stops.queue; refused = stops.refused }

-- the first item that waits is sent again, where it fits
pub goes_at : (r : Result Bool AllocError) (now place : ℕ) (Step : Stage → Stage → Type 0) (start : Stage) (old new : RetransmissionState) (waiting : SendQueueState) (events : List SocketEvent) (before after : Packet) (next : IsNextMarked place old.outstanding.items)
    → ((m n : Stage) → m.queue ≡ old → SendsMarked now m n → Step m n)
    → StageSteps Step start (stage old waiting events before.tsns.items before.room)
    → is_abandonment_due now old.partial_reliability next.marked.item ≡ false
    → IfOk r (SendsItemAgain place next.marked.item old before new after) → OnErr r (new ≡ old)
    → Goes now Step start (stage new waiting events after.tsns.items after.room) r
goes_at (Ok true) now place Step start old new waiting events before after next embed steps stays sends err =
    more (stage old waiting events before.tsns.items before.room) (stage new waiting events after.tsns.items after.room) steps
    (embed (stage old waiting events before.tsns.items before.room) (stage new waiting events after.tsns.items after.room) refl
    (record { place = place; next = next; stays = stays; fits = sends.0; is = rw (sends.1, sends.2, sends.3) refl }))
goes_at (Ok false) now place Step start old new waiting events before after next embed steps stays sends err = rw (sends.0, sends.1, sends.2) steps
goes_at (Err error) now place Step start old new waiting events before after next embed steps stays sends err =
    record { at = stage old waiting events before.tsns.items before.room; steps = steps; queue = err; refused = inl (refl, refl) }

-- a change after the first item
first_stays : (change : Change) (start end : ℕ) (items : List Item) → is_first_marked (changed_between change (suc start) end items) ≡ is_first_marked items
first_stays change start zero items = refl
first_stays change start (suc end) [] = refl
first_stays change start (suc end) (x ∷ xs) = refl

first_sent : (next : ℕ) (items : List Item) → is_first_marked (changed_between (SendAgain next) 0 1 items) ≡ false
first_sent next [] = refl
first_sent next (x ∷ xs) = refl

first_waits : (items : List Item) (item : Item) → slice_get items 0 ≡ Some item → is_marked item.progress.state ≡ true → is_first_marked items ≡ true
first_waits [] item at is = absurd (cc)
first_waits (x ∷ xs) item at is = let same : x ≡ item = cc in ap (λ (y : Item). is_marked y.progress.state) same ∙ is

-- the first item is sent again
pub sends_first_here : (restarts : Bool) (tsn place : ℕ) (old items new : List Item) → place ≡ 0 → IsNextMarked place items → new ≡ changed_between (SendAgain tsn) place (place + 1) items → SendsFirst old items restarts → SendsFirst old new true
sends_first_here true tsn place old items new here next is first = (first.0, ap is_first_marked is ∙ (ap (λ (p : ℕ). is_first_marked (changed_between (SendAgain tsn) p (p + 1) items)) here ∙ first_sent tsn items))
sends_first_here false tsn place old items new here next is first =
    let at : slice_get items 0 ≡ Some next.marked.item = ap (slice_get items) (sym here) ∙ next.marked.at in
    (sym first ∙ first_waits items next.marked.item at next.marked.is, ap is_first_marked is ∙ (ap (λ (p : ℕ). is_first_marked (changed_between (SendAgain tsn) p (p + 1) items)) here ∙ first_sent tsn items))

-- a later item is
pub sends_first_later : (restarts : Bool) (tsn place : ℕ) (old items new : List Item) → (place ≡ 0 → ⊥) → new ≡ changed_between (SendAgain tsn) place (place + 1) items → SendsFirst old items restarts → SendsFirst old new restarts
sends_first_later restarts tsn zero old items new later is first = absurd (later refl)
sends_first_later true tsn (suc place) old items new later is first = (first.0, ap is_first_marked is ∙ (first_stays (SendAgain tsn) place (suc place + 1) items ∙ first.1))
sends_first_later false tsn (suc place) old items new later is first = ap is_first_marked is ∙ (first_stays (SendAgain tsn) place (suc place + 1) items ∙ first)

-- a new item is sent
pub sends_new : (now max : ℕ) (old : RetransmissionState) (before after : Packet) (place size tsn : ℕ) (new : OutstandingState) (waiting left : SendQueueState) (events telling : List SocketEvent)
    → SendsItem now max old.reset_begun (item_stage old.outstanding waiting (contents events)) (item_stage new left (contents telling)) tsn → place ≡ length old.outstanding.items
    → IfSome (slice_get new.items place) (λ item. size ≡ item_size (header new) item) → max ≡ payload_room (header old.outstanding) before.room
    → after.tsns.items ≡ before.tsns.items ++ tsn ∷ [] → after.room ≡ before.room - size
    → SendsNew now (stage old waiting events before.tsns.items before.room) (stage (with_outstanding new false old) left telling after.tsns.items after.room)
sends_new now max old before after place size tsn new waiting left events telling sends place_is sized max_is tsns room =
    let items = ap (λ (m : OutstandingState). m.items) sends.grows in
    let sizes = ap header sends.grows in
    let at : slice_get new.items place ≡ Some sends.item = rw (items, place_is) (last_pushed old.outstanding.items sends.item) in
    let P : Option Item → Type 0 = λ x. IfSome x (λ item. size ≡ item_size (header new) item) in
    let size_is : size ≡ item_size (header old.outstanding) sends.item = subst P at sized ∙ ap (λ (h : ℕ). item_size h sends.item) sizes in
    let T : ℕ → Type 0 = λ m. TakesFragment now m waiting (contents events) sends.item.fragment left (contents telling) in
    record {
      item = sends.item;
      is_fresh = sends.is_fresh;
      begins = sends.begins;
      takes = subst T max_is sends.takes;
      is = rw (sends.grows, tsns, room, size_is, sends.tsn_is) refl;
    }

pub goes_filling : {A : Type 0} (r : Result A AllocError) (now : ℕ) (old resent new : Stage) → StageSteps (StepAgain now) old resent → Goes now (StepNew now) (resent_packet_counted old.room resent) new r → GoesFilling now old new r
goes_filling (Ok done) now old resent new again anew = record { resent = resent; again = again; anew = anew }
goes_filling (Err error) now old resent new again stops = inr (record { resent = resent; again = again; stops = stops })

-- what is in a packet that isn't handed out
pub stops_any : (now : ℕ) (Step : Stage → Stage → Type 0) (old : Stage) (queue : RetransmissionState) (waiting : SendQueueState) (events : List SocketEvent) (tsns other : List ℕ) (room more_room : ℕ)
    → StopsBetweenSteps now Step old (stage queue waiting events tsns room) → StopsBetweenSteps now Step old (stage queue waiting events other more_room)
stops_any now Step old queue waiting events tsns other room more_room stops =
    record { at = stops.at; steps = stops.steps; queue = stops.queue; refused = stops.refused }

pub stops_filling_any : (now : ℕ) (old : Stage) (queue : RetransmissionState) (waiting : SendQueueState) (events : List SocketEvent) (tsns other : List ℕ) (room more_room : ℕ)
    → StopsFilling now old (stage queue waiting events tsns room) → StopsFilling now old (stage queue waiting events other more_room)
stops_filling_any now old queue waiting events tsns other room more_room (inl stops) = inl (stops_any now (StepAgain now) old queue waiting events tsns other room more_room stops)
stops_filling_any now old queue waiting events tsns other room more_room (inr later) =
    inr (record {
      resent = later.resent;
      again = later.again;
      stops = stops_any now (StepNew now) (resent_packet_counted old.room later.resent) queue waiting events tsns other room more_room later.stops;
    })

pub on_err_map : {A E : Type 0} {P Q : Type 0} (r : Result A E) → (P → Q) → OnErr r P → OnErr r Q
on_err_map (Ok done) f p = tt
on_err_map (Err error) f p = f p

pub refuses_rest : (items : List Item) (last : Item) (waiting : SendQueueState) (told telling : List (Event (List ℕ))) (is_end : Bool) → is_end ≡ false → length items + 1 < 2 ^ 31
    → (telling ≡ told) ⊎ StopsDiscarding waiting last.fragment.stream last.fragment.message_id told telling → RefusesClosing items last waiting told telling is_end
refuses_rest items last waiting told telling true is_false room refused = absurd (cc)
refuses_rest items last waiting told telling false is_false room (inl nothing) = inl nothing
refuses_rest items last waiting told telling false is_false room (inr stops) = inr (room, stops)

-- Room for a payload is room for four bytes of it.
pub may_add : (max : ℕ) (old : RetransmissionState) (waiting : SendQueueState) (events : List SocketEvent) (tsns : List ℕ) (room : ℕ) → can_send old ≡ true → marked_items old.outstanding.items ≡ 0
    → length old.outstanding.items + 1 < 2 ^ 31 → 0 < max → max ≡ (min room 65532 - header old.outstanding) / 4 * 4 → MayAdd (stage old waiting events tsns room)
may_add max old waiting events tsns room allowed none_marked few some is =
    record { allowed = allowed; none_marked = none_marked; fits = omega (arith, some, is); comparable = few }
