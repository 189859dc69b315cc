-- Lemmas on why no more chunks go into a packet.
use Rattle.std.proofs.Common.{◌≡◌, ◌∙◌, inl, inr, nat_lt, ℕ, zero, suc, ◌+◌, ◌-◌, ◌^◌, ◌<◌, ◌≤◌, min, Bool, true, false, if◌then◌else◌, Some, Result, Ok, Err, IfOk, OnOk, List, [], ◌∷◌, ◌++◌, refl, sym, subst, ap, Vec, arith}
use Rattle.std.specs.List.{slice_get}
use Rattle.std.specs.declared.alloc.Global.{Global}
use Rattle.std.specs.declared.alloc.AllocError.{AllocError}
use Rattle.std.proofs.lemmas.List.Sums.{sum_by-cons, sum_by_push}
use Rattle.dcsctp_api.specs.spec.endpoint.Timers.{TimerModel}
use Rattle.dcsctp_api.specs.spec.queues.SendQueue.{SendQueueState}
use Rattle.dcsctp_api.specs.spec.queues.Items.{Item, number_or_zero, marked_count, marked_items, changed_item, changed_between}
use Rattle.dcsctp_api.specs.types.declared.progress.ItemState.{ItemState}
use Rattle.dcsctp_api.specs.types.declared.progress.Progress.{Progress}
use Rattle.dcsctp_api.specs.types.declared.progress.Change.{Change}
use Rattle.dcsctp_api.specs.types.declared.progress.Change.TheVariants.{SendAgain, Abandon}
use Rattle.dcsctp_api.specs.types.queues.Progress.{is_marked, progress_changed}
use Rattle.dcsctp_send_retransmission.specs.Outstanding.{MayAddEnd}
use Rattle.dcsctp_api.specs.spec.queues.NextItem.{IsMarkedItem, IsNextMarked, FirstStays, is_abandonment_due, WaitsForRoom, HaltsAgain, HaltsNew, Halts}
use Rattle.dcsctp_api.specs.spec.queues.Outstanding.{OutstandingState, next_tsn}
use Rattle.dcsctp_send_retransmission.specs.Queue.{AbandonsItems}
use Rattle.dcsctp_api.specs.spec.queues.Retransmission.{RetransmissionState, counted_again}
use Rattle.dcsctp_send_retransmission.specs.declared.packet.Packet.{Packet}
use Rattle.dcsctp_send_retransmission.specs.Sending.{IsFilledPacket, ContinuesPacket, none as none_packed}
use Rattle.dcsctp_send_retransmission.specs.Halting.{SendsAgain, GoesAgain, FillsUp}
use Rattle.dcsctp_send_retransmission.specs.States.{SendsItemAgain}

-- the change leaves no item marked
abbrev pub Unmarks : Change → Type 0
Unmarks change = (progress : Progress) → is_marked (progress_changed change progress).state ≡ false

marked_at_most : (change : Change) → Unmarks change → (start end : ℕ) (items : List Item) → marked_items (changed_between change start end items) ≤ marked_items items
marked_at_most change unmarks zero zero items = omega arith
marked_at_most change unmarks zero (suc end) [] = omega arith
marked_at_most change unmarks zero (suc end) (x ∷ xs) =
    let later = marked_at_most change unmarks zero end xs in
    let here = ap (λ (b : Bool). number_or_zero b 1) (unmarks x.progress) in
    let old = sum_by-cons marked_count x xs in
    let new = sum_by-cons marked_count (changed_item change x) (changed_between change zero end xs) in
    omega arith
marked_at_most change unmarks (suc start) zero items = omega arith
marked_at_most change unmarks (suc start) (suc end) [] = omega arith
marked_at_most change unmarks (suc start) (suc end) (x ∷ xs) =
    let later = marked_at_most change unmarks start end xs in
    let old = sum_by-cons marked_count x xs in
    let new = sum_by-cons marked_count x (changed_between change start end xs) in
    omega arith

-- such a change of a marked item leaves fewer
pub fewer_marked : (change : Change) → Unmarks change → (start end place : ℕ) (items : List Item) (item : Item) → start ≤ place → place < end → slice_get items place ≡ Some item → is_marked item.progress.state ≡ true → marked_items (changed_between change start end items) < marked_items items
fewer_marked change unmarks zero zero place items item from to at is = absurd (omega arith)
fewer_marked change unmarks zero (suc end) place [] item from to at is = absurd (cc)
fewer_marked change unmarks zero (suc end) zero (x ∷ xs) item from to at is =
    let same : x ≡ item = cc in
    let was = ap (λ (y : Item). marked_count y) same ∙ ap (λ (b : Bool). number_or_zero b 1) is in
    let later = marked_at_most change unmarks zero end xs in
    let here = ap (λ (b : Bool). number_or_zero b 1) (unmarks x.progress) in
    let old = sum_by-cons marked_count x xs in
    let new = sum_by-cons marked_count (changed_item change x) (changed_between change zero end xs) in
    omega arith
fewer_marked change unmarks zero (suc end) (suc place) (x ∷ xs) item from to at is =
    let later = fewer_marked change unmarks zero end place xs item (omega arith) (omega arith) at is in
    let here = ap (λ (b : Bool). number_or_zero b 1) (unmarks x.progress) in
    let old = sum_by-cons marked_count x xs in
    let new = sum_by-cons marked_count (changed_item change x) (changed_between change zero end xs) in
    omega arith
fewer_marked change unmarks (suc start) zero place items item from to at is = absurd (omega arith)
fewer_marked change unmarks (suc start) (suc end) place [] item from to at is = absurd (cc)
fewer_marked change unmarks (suc start) (suc end) zero (x ∷ xs) item from to at is = absurd (omega arith)
fewer_marked change unmarks (suc start) (suc end) (suc place) (x ∷ xs) item from to at is =
    let later = fewer_marked change unmarks start end place xs item (omega arith) (omega arith) at is in
    let old = sum_by-cons marked_count x xs in
    let new = sum_by-cons marked_count x (changed_between change start end xs) in
    omega arith

-- an item stays at its place where one is pushed
slice_get_stays : (items : List Item) (new : Item) (k : ℕ) (item : Item) → slice_get items k ≡ Some item → slice_get (items ++ new ∷ []) k ≡ Some item
slice_get_stays [] new k item at = absurd (cc)
slice_get_stays (x ∷ xs) new zero item at = at
slice_get_stays (x ∷ xs) new (suc k) item at = slice_get_stays xs new k item at

-- the end of a message doesn't wait to be sent again
end_marked : (old new : OutstandingState) → MayAddEnd old new → marked_items new.items ≡ marked_items old.items
end_marked old new (inl same) = ap (λ (m : OutstandingState). marked_items m.items) same
end_marked old new (inr ends) =
    let items = ap (λ (m : OutstandingState). marked_items m.items) ends.grows in
    let all = sum_by_push marked_count old.items ends.item in
    let zero_more = ap (λ (s : ItemState). number_or_zero (is_marked s) 1) ends.is_abandoned in
    omega arith

end_stays : (old new : OutstandingState) (place : ℕ) (item : Item) → MayAddEnd old new → slice_get old.items place ≡ Some item → slice_get new.items place ≡ Some item
end_stays old new place item (inl same) at = ap (λ (m : OutstandingState). slice_get m.items place) same ∙ at
end_stays old new place item (inr ends) at = ap (λ (m : OutstandingState). slice_get m.items place) ends.grows ∙ slice_get_stays old.items ends.item place item at

-- when a lost message is abandoned, fewer wait to be sent again
pub gives_up_fewer : (place : ℕ) (old new : RetransmissionState) → AbandonsItems place old new → IsMarkedItem place old.outstanding.items → marked_items new.outstanding.items < marked_items old.outstanding.items
gives_up_fewer place old new up at =
    let items = ap (λ (q : RetransmissionState). marked_items q.outstanding.items) up.is in
    let grown = end_marked old.outstanding up.grown.outstanding up.grows.ends in
    let fewer = fewer_marked Abandon (λ progress. refl) up.start up.end place up.grown.outstanding.items at.item up.from up.to (end_stays old.outstanding up.grown.outstanding place at.item up.grows.ends at.at) at.is in
    omega arith

-- The first marked item didn't fit.
pub waits_for_room : (place : ℕ) (old new : OutstandingState) (room left : ℕ) → IsNextMarked place old.items → SendsAgain place old room new left false → WaitsForRoom left new
waits_for_room place old new room left next again =
    rw (again.0, again.1) (record { place = place; next = next; item = next.marked.item; at = next.marked.at; longer = again.2 next.marked.item next.marked.at })

-- what a try to send the first marked item again leaves
pub goes_again : (r : Result Bool AllocError) (now place : ℕ) (old between new : RetransmissionState) (before after : Packet) → marked_items between.outstanding.items ≤ marked_items old.outstanding.items
    → (next : IsNextMarked place between.outstanding.items) → is_abandonment_due now between.partial_reliability next.marked.item ≡ false
    → IfOk r (SendsAgain place between.outstanding before.room new.outstanding after.room) → IfOk r (SendsItemAgain place next.marked.item between before new after) → IfOk r (GoesAgain now old new after.room)
goes_again (Ok true) now place old between new before after fewer next stays again sends =
    let items = ap (λ (m : OutstandingState). marked_items m.items) again in
    let one = fewer_marked (SendAgain (next_tsn between.outstanding)) (λ progress. refl) place (place + 1) place between.outstanding.items next.marked.item (omega arith) (omega arith) next.marked.at next.marked.is in
    omega arith
goes_again (Ok false) now place old between new before after fewer next stays again sends =
    let items = ap (λ (m : OutstandingState). marked_items m.items) again.0 in
    let here : FirstStays now between = record { place = place; next = next; stays = stays } in (
      omega arith,
      inr (subst (FirstStays now) (sym sends.0) here, inr (waits_for_room place between.outstanding new.outstanding before.room after.room next again)),
    )
goes_again (Err error) now place old between new before after fewer next stays again sends = tt

-- counting changes no reason
pub halts_counted : (now size room : ℕ) (queue : RetransmissionState) → HaltsAgain now room queue → HaltsAgain now room (counted_again size queue)
halts_counted now size room queue halts = go (nat_lt 0 size) halts
  where
    go : (b : Bool) → HaltsAgain now room queue → HaltsAgain now room (if b then record queue { packets_retransmitted = min (queue.packets_retransmitted + 1) (2 ^ 64 - 1); bytes_retransmitted = min (queue.bytes_retransmitted + size) (2 ^ 64 - 1) } else queue)
    go true (inl none_left) = inl none_left
    go true (inr (stays, why)) = inr (record { place = stays.place; next = stays.next; stays = stays.stays }, why)
    go false halts = halts

-- some wait to be sent again
pub halts_marked : (now room : ℕ) (queue : RetransmissionState) (waiting : SendQueueState) → HaltsAgain now room queue → (marked_items queue.outstanding.items ≡ 0 → ⊥) → Halts now room queue waiting
halts_marked now room queue waiting (inl none_left) some = absurd (some none_left)
halts_marked now room queue waiting (inr reason) some = inl reason

-- none waits to be sent again
pub halts_new : {E : Type 0} (r : Result Unit E) (now room : ℕ) (old queue : RetransmissionState) (waiting : SendQueueState) → marked_items old.outstanding.items ≡ 0 → marked_items queue.outstanding.items ≡ marked_items old.outstanding.items → OnOk r (HaltsNew room queue waiting) → OnOk r (Halts now room queue waiting)
halts_new (Ok done) now room old queue waiting none_left same halts = inr (same ∙ none_left, halts)
halts_new (Err error) now room old queue waiting none_left same halts = tt

-- the timer is no reason
pub fills_up_timed : {E : Type 0} (r : Result (Vec ℕ Global) E) (now bytes : ℕ) (queue : RetransmissionState) (timer : TimerModel) (waiting : SendQueueState) → IfOk r (λ tsns. FillsUp now bytes queue waiting tsns.items) → IfOk r (λ tsns. FillsUp now bytes (record queue { timer = timer }) waiting tsns.items)
fills_up_timed (Ok tsns) now bytes queue timer waiting fills =
    record { used = fills.used; packed = fills.packed; room = fills.room; sum = fills.sum; halts = timed fills.halts }
  where
    timed : Halts now fills.room queue waiting → Halts now fills.room (record queue { timer = timer }) waiting
    timed (inl (stays, why)) = inl (record { place = stays.place; next = stays.next; stays = stays.stays }, why)
    timed (inr anew) = inr anew
fills_up_timed (Err error) now bytes queue timer waiting fills = tt

-- a packet that was empty is filled up
pub fills_up : (now bytes : ℕ) (old new : RetransmissionState) (before after : Packet) (waiting : SendQueueState) → before.tsns.items ≡ [] → before.room ≡ bytes → ContinuesPacket old before new after → Halts now after.room new waiting → FillsUp now bytes new waiting after.tsns.items
fills_up now bytes old new before after waiting empty room fills halts =
    let start : IsFilledPacket bytes old before = record { used = 0; packed = rw empty none_packed; sum = omega arith } in
    let filled = fills.filling bytes start in
    record { used = filled.used; packed = filled.packed; room = after.room; sum = filled.sum; halts = halts }
