-- Lemmas on queues.
use Rattle.std.proofs.Common.{Option, ◌≡◌, inl, inr, length-append, zero, suc, [], ◌∷◌, ◌++◌, take, Some, append_assoc, ℕ, ◌+◌, ◌-◌, ◌<◌, ◌≤◌, drop, refl, Bool, true, false, List, length, nat_lt, if◌then◌else◌, ap, sym, ◌∙◌, arith}
use Rattle.std.specs.List.{slice_get}
use Rattle.std.proofs.lemmas.List.{append-nil}
use Rattle.dcsctp_api.specs.spec.endpoint.Event.{Event}
use Rattle.dcsctp_api.specs.spec.queues.Items.{Item, marked_items, changed_between}
use Rattle.dcsctp_send_queue.specs.Telling.{AddsFront}
use Rattle.std.proofs.Math.Seq.{take-add}
use Rattle.dcsctp_api.specs.spec.queues.Acknowledging.{ends_delivery, lifecycle_events_of, delivered_events, covered_items, lossy, missed_until, without_first_items, congestion_acknowledgement, grown_window, acknowledged_until}
use Rattle.dcsctp_api.specs.wire.declared.chunk.sack.GapAckBlock.{GapAckBlock}
use Rattle.dcsctp_api.specs.types.declared.congestion.Acknowledged.{Acknowledged}
use Rattle.dcsctp_api.specs.types.declared.progress.Change.TheVariants.{Miss, Abandon}
use Rattle.dcsctp_send_retransmission.specs.Queue.{AbandonsItems}
use Rattle.dcsctp_api.specs.spec.queues.Retransmission.{RetransmissionState, with_items}
use Rattle.dcsctp_send_retransmission.specs.Outstanding.{MayAddEnd}
use Rattle.dcsctp_api.specs.spec.queues.Outstanding.{OutstandingState}
use Rattle.dcsctp_send_retransmission.proofs.ItemsLemmas.{length-changed_between}

-- misses leave the items in number
pub length-missed_until : (count limit : ℕ) (newest : Option ℕ) (queue : RetransmissionState) → length (missed_until count limit newest queue).outstanding.items ≡ length queue.outstanding.items
length-missed_until count limit newest queue =
    go (nat_lt (marked_items queue.outstanding.items) (marked_items (changed_between (Miss newest) count limit queue.outstanding.items)))
  where
    go : (b : Bool) → length (if b then lossy (with_items (changed_between (Miss newest) count limit queue.outstanding.items) queue) else with_items (changed_between (Miss newest) count limit queue.outstanding.items) queue).outstanding.items ≡ length queue.outstanding.items
    go true = length-changed_between (Miss newest) count limit queue.outstanding.items
    go false = length-changed_between (Miss newest) count limit queue.outstanding.items

-- a SACK, step by step
pub acknowledged_is : (count : ℕ) (blocks : List GapAckBlock) (limit : ℕ) (newest : Option ℕ) (old mid left new : RetransmissionState) (ack : Acknowledged) → mid ≡ missed_until count limit newest (with_items (covered_items count blocks old.outstanding.items) old) → left ≡ without_first_items count mid → ack ≡ congestion_acknowledgement count old left → new ≡ grown_window ack left → new ≡ acknowledged_until count blocks limit newest old
acknowledged_is count blocks limit newest old mid left new ack is_mid is_left is_ack is_new =
    let left_is : left ≡ without_first_items count (missed_until count limit newest (with_items (covered_items count blocks old.outstanding.items) old)) = is_left ∙ ap (without_first_items count) is_mid in
    is_new ∙ ap (λ (a : Acknowledged). grown_window a left) is_ack ∙ ap (λ (q : RetransmissionState). grown_window (congestion_acknowledgement count old q) q) left_is

-- the events for one item
abbrev pub told_of : Item → List (Event (List ℕ))
told_of item = lifecycle_events_of item.fragment.lifecycle (ends_delivery item)

-- the events for one more item
pub delivered_further : (items : List Item) (k : ℕ) (item : Item) → slice_get items k ≡ Some item → delivered_events {P = List ℕ} (take (suc k) items) ≡ delivered_events (take k items) ++ told_of item
delivered_further [] k item is = absurd (cc)
delivered_further (x ∷ xs) zero item is = ap (λ (y : Item). told_of y ++ []) (let e : x ≡ item = cc in e) ∙ append-nil (told_of item)
delivered_further (x ∷ xs) (suc k) item is =
    ap (λ (ys : List (Event (List ℕ))). told_of x ++ ys) (delivered_further xs k item is) ∙ sym (append_assoc (told_of x) (delivered_events (take k xs)) (told_of item))

-- the events for the first part of the items come first
delivered_append : (front rest : List Item) → delivered_events {P = List ℕ} (front ++ rest) ≡ delivered_events front ++ delivered_events rest
delivered_append [] rest = refl
delivered_append (x ∷ xs) rest = ap (λ (ys : List (Event (List ℕ))). told_of x ++ ys) (delivered_append xs rest) ∙ sym (append_assoc (told_of x) (delivered_events xs) (delivered_events rest))

-- The first part of an item's events were added, after all events for the items before it.
pub front_further : (items : List Item) (k count : ℕ) (item : Item) (start told telling : List (Event (List ℕ))) → k < count → slice_get items k ≡ Some item → told ≡ start ++ delivered_events (take k items) → AddsFront told (told_of item) telling
    → AddsFront start (delivered_events (take count items)) telling
front_further items k count item start told telling within at is tells =
    let before : List (Event (List ℕ)) = delivered_events (take k items) in
    let behind : List (Event (List ℕ)) = delivered_events (take (count - suc k) (drop (suc k) items)) in
    let whole : delivered_events (take count items) ≡ (before ++ told_of item) ++ behind =
    ap delivered_events (take_parts items (suc k) count (omega arith)) ∙ (delivered_append (take (suc k) items) (take (count - suc k) (drop (suc k) items)) ∙ ap (λ (xs : List (Event (List ℕ))). xs ++ behind) (delivered_further items k item at)) in
    record {
      front = before ++ tells.front;
      rest = tells.rest ++ behind;
      parts = whole ∙ simp (tells.parts, append_assoc);
      told = tells.told ∙ simp (is, append_assoc);
    }
  where
    take_parts : (xs : List Item) (k n : ℕ) → k ≤ n → take n xs ≡ take k xs ++ take (n - k) (drop k xs)
    take_parts xs k n le = let e : n ≡ k + (n - k) = omega arith in ap (λ (m : ℕ). take m xs) e ∙ take-add k (n - k) xs

-- no item is lost when a message is abandoned
pub gives_up_grows : (place : ℕ) (old new : RetransmissionState) → AbandonsItems place old new → length old.outstanding.items ≤ length new.outstanding.items
gives_up_grows place old new up =
    let same = ap (λ (q : RetransmissionState). length q.outstanding.items) up.is in
    let kept = length-changed_between Abandon up.start up.end up.grown.outstanding.items in
    let grown = grows (old.outstanding) (up.grown.outstanding) up.grows.ends in
    omega arith
  where
    grows : (a b : OutstandingState) → MayAddEnd a b → length a.items ≤ length b.items
    grows a b (inl e) = let same = ap (λ (m : OutstandingState). length m.items) e in omega arith
    grows a b (inr ends) = let same = ap (λ (m : OutstandingState). length m.items) ends.grows in omega (arith, length-append a.items (ends.item ∷ []))
