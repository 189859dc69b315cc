-- Each item belongs to a row of items with its message, and a message is the one under way or isn't.
use Rattle.std.proofs.Common.{◌≡◌, ◌⊎◌, inl, inr, ℕ, zero, suc, ◌+◌, ◌<◌, ◌≤◌, Option, None, Some, List, [], ◌∷◌, length, refl, ap, sym, ◌∙◌, arith}
use Rattle.std.specs.List.{slice_get}
use Rattle.std.proofs.lemmas.Option.{slice_get_within}
use Rattle.dcsctp_spec.specs.types.declared.sending.UnderWay.{UnderWay}
use Rattle.dcsctp_spec.specs.queues.ItemMessages.{StartsMessage, EndsMessage, AreMessageItems}
use Rattle.dcsctp_spec.specs.queues.Items.{Item}
use Rattle.dcsctp_spec.specs.queues.SendQueue.{SendQueueState}
use Rattle.dcsctp_spec.specs.types.queues.SendStreams.{Waiting, Stream, front_of, stream_at}
use Rattle.dcsctp_spec.specs.queues.Sending.{IsMessageUnderWay}

-- It holds, or it doesn't.
abbrev pub Decided : Type 0 → Type 0
Decided Holds = Holds ⊎ (Holds → ⊥)

same_decided : (a b : ℕ) → Decided (a ≡ b)
same_decided a b = grind arith

-- ---- which items bear a message

-- all items from this place on and before that one bear the message
abbrev AllBear : ℕ → ℕ → ℕ → List Item → Type 0
AllBear message_id start end items = (k : ℕ) (item : Item) → start ≤ k → k < end → slice_get items k ≡ Some item → item.fragment.message_id ≡ message_id

-- no item at this place does
abbrev NoneBears : ℕ → ℕ → List Item → Type 0
NoneBears message_id place items = (k : ℕ) (item : Item) → k ≡ place → slice_get items k ≡ Some item → item.fragment.message_id ≡ message_id → ⊥

bear_both : (message_id start between end : ℕ) (items : List Item) → AllBear message_id start between items → AllBear message_id between end items → AllBear message_id start end items
bear_both message_id start between end items first later k item from to at = grind (arith, first k item from, later k item)

-- there is one item at a place
same_there : (items : List Item) (place k : ℕ) (one item : Item) → slice_get items place ≡ Some one → k ≡ place → slice_get items k ≡ Some item → item ≡ one
same_there items place k one item at here there = let both : Some item ≡ Some one = sym there ∙ (ap (slice_get items) here ∙ at) in cc

-- The item at the place bears the message; or it doesn't, or there is none.
bears_or_not : (message_id place : ℕ) (items : List Item) → ((place < length items) × AllBear message_id place (place + 1) items) ⊎ NoneBears message_id place items
bears_or_not message_id place items = go (slice_get items place) refl
  where
    go : (found : Option Item) → slice_get items place ≡ found → ((place < length items) × AllBear message_id place (place + 1) items) ⊎ NoneBears message_id place items
    go None at = inr (λ k item here there same. let both : None ≡ Some item = sym at ∙ (ap (slice_get items) (sym here) ∙ there) in absurd (cc))
    go (Some one) at = elim (same_decided one.fragment.message_id message_id) [
      | inl is ↦ inl (
        slice_get_within items place one at,
        λ k item from to there. ap (λ (x : Item). x.fragment.message_id) (same_there items place k one item at (omega arith) there) ∙ is,
      )
      | inr is_not ↦ inr (λ k item here there same. is_not (ap (λ (x : Item). x.fragment.message_id) (sym (same_there items place k one item at here there)) ∙ same))
    ]

-- ---- the row of a message

starts_message : (message_id place start : ℕ) (items : List Item) → start ≤ place → AllBear message_id start (place + 1) items
    → ((k : ℕ) (item : Item) → k + 1 ≡ start → slice_get items k ≡ Some item → item.fragment.message_id ≡ message_id → ⊥) → StartsMessage place start items
starts_message message_id place start items from bear others =
    record {
      from = from;
      same = λ k item own from_k to_k at at_own. bear k item from_k (omega arith) at ∙ sym (bear place own from (omega arith) at_own);
      other = λ k item own before at at_own is. others k item before at (is ∙ bear place own from (omega arith) at_own);
    }

ends_message : (message_id place end : ℕ) (items : List Item) → place < end → end ≤ length items → AllBear message_id place end items → NoneBears message_id end items → EndsMessage place end items
ends_message message_id place end items to within bear others =
    record {
      to = to;
      within = within;
      same = λ k item own from_k to_k at at_own. bear k item from_k to_k at ∙ sym (bear place own (omega arith) to at_own);
      other = λ item own at at_own is. others end item refl at (is ∙ bear place own (omega arith) to at_own);
    }

record Start (place : ℕ) (items : List Item) : Type 0 where
  pub start : ℕ
  pub starts : StartsMessage place start items

-- Its start is found by going back.
start_from : (message_id place start : ℕ) (items : List Item) → start ≤ place → AllBear message_id start (place + 1) items → Start place items
start_from message_id place zero items from bear =
    record { start = 0; starts = starts_message message_id place 0 items from bear (λ k item before at same. absurd (omega arith)) }
start_from message_id place (suc back) items from bear = elim (bears_or_not message_id back items) [
  | inl bears ↦ start_from message_id place back items (omega arith) (bear_both message_id back (suc back) (place + 1) items (λ k item from_k to_k at. bears.1 k item from_k (omega arith) at) bear)
  | inr other ↦ record { start = suc back; starts = starts_message message_id place (suc back) items from bear (λ k item before at. other k item (omega arith) at) }
]

record End (place : ℕ) (items : List Item) : Type 0 where
  pub last_place : ℕ
  pub ends : EndsMessage place (last_place + 1) items

-- Its end is found by going forward, at most as far as the items go.
end_from : (message_id place last_place most : ℕ) (items : List Item) → place ≤ last_place → last_place < length items → length items ≤ last_place + 1 + most → AllBear message_id place (last_place + 1) items → End place items
end_from message_id place last_place zero items from within few bear =
    record {
      last_place = last_place;
      ends = ends_message message_id place (last_place + 1) items (omega arith) (omega arith) bear (λ k item behind at same. let inside = slice_get_within items k item at in omega arith);
    }
end_from message_id place last_place (suc most) items from within few bear = elim (bears_or_not message_id (last_place + 1) items) [
  | inl bears ↦ end_from message_id place (last_place + 1) most items (omega arith) bears.0 (omega arith) (bear_both message_id place (last_place + 1) (last_place + 1 + 1) items bear bears.1)
  | inr other ↦ record { last_place = last_place; ends = ends_message message_id place (last_place + 1) items (omega arith) (omega arith) bear other }
]

-- the items of the message of the item at the place, and the last of them
pub record Row (place : ℕ) (items : List Item) : Type 0 where
  pub start : ℕ
  pub last_place : ℕ
  pub message : AreMessageItems place start (last_place + 1) items
  pub last : Item
  pub at : slice_get items last_place ≡ Some last

record Found (items : List Item) (place : ℕ) : Type 0 where
  pub item : Item
  pub at : slice_get items place ≡ Some item

found : (items : List Item) (place : ℕ) → place < length items → Found items place
found [] place within = absurd (omega arith)
found (x ∷ xs) zero within = record { item = x; at = refl }
found (x ∷ xs) (suc place) within = let later = found xs place (omega arith) in record { item = later.item; at = later.at }

pub some_row : (place : ℕ) (items : List Item) (item : Item) → slice_get items place ≡ Some item → Row place items
some_row place items item at =
    let within = slice_get_within items place item at in
    let bear : AllBear item.fragment.message_id place (place + 1) items =
    λ k x from to there. ap (λ (y : Item). y.fragment.message_id) (same_there items place k item x at (omega arith) there) in
    let first = start_from item.fragment.message_id place place items (omega arith) bear in
    let last = end_from item.fragment.message_id place place (length items) items (omega arith) within (omega arith) bear in
    let inside = last.ends.within in
    let there = found items last.last_place (omega arith) in
    record { start = first.start; last_place = last.last_place; message = (first.starts, last.ends); last = there.item; at = there.at }

-- ---- the message under way

-- The stream has this number, and the message is under way on it.
record IsHere (stream message_id : ℕ) (x : Stream) : Type 0 where
  pub is : x.id ≡ stream
  pub under_way : UnderWay
  pub goes_on : x.under_way ≡ Some under_way
  pub message : Waiting
  pub front : front_of x.messages ≡ Some message
  pub named : message.message_id ≡ message_id

-- One of the streams is so.
record HasFront (stream message_id : ℕ) (streams : List Stream) : Type 0 where
  pub place : ℕ
  pub within : place < length streams
  pub here : IsHere stream message_id (stream_at streams place)

front_behind : (stream message_id : ℕ) (x : Stream) (xs : List Stream) → HasFront stream message_id xs → HasFront stream message_id (x ∷ xs)
front_behind stream message_id x xs later =
    let within = later.within in
    record { place = suc later.place; within = omega arith; here = later.here }

no_front : (stream message_id : ℕ) (x : Stream) (xs : List Stream) → (IsHere stream message_id x → ⊥) → (HasFront stream message_id xs → ⊥) → HasFront stream message_id (x ∷ xs) → ⊥
no_front stream message_id x xs other none has = go has.place has.within has.here
  where
    go : (place : ℕ) → place < length (x ∷ xs) → IsHere stream message_id (stream_at (x ∷ xs) place) → ⊥
    go zero within here = other here
    go (suc place) within here = none (record { place = place; within = omega arith; here = here })

here_by_front : (stream message_id : ℕ) (x : Stream) (u : UnderWay) (front : Option Waiting) → x.id ≡ stream → x.under_way ≡ Some u → front_of x.messages ≡ front → Decided (IsHere stream message_id x)
here_by_front stream message_id x u None is goes_on front = inr (λ here. let both : None ≡ Some here.message = sym front ∙ here.front in absurd (cc))
here_by_front stream message_id x u (Some message) is goes_on front = elim (same_decided message.message_id message_id) [
  | inl named ↦ inl (record { is = is; under_way = u; goes_on = goes_on; message = message; front = front; named = named })
  | inr other ↦ inr (λ here.
      let both : Some message ≡ Some here.message = sym front ∙ here.front in
      let e : message ≡ here.message = cc in
      other (ap (λ (w : Waiting). w.message_id) e ∙ here.named))
]

here_by_progress : (stream message_id : ℕ) (x : Stream) (u : Option UnderWay) → x.id ≡ stream → x.under_way ≡ u → Decided (IsHere stream message_id x)
here_by_progress stream message_id x None is goes_on = inr (λ here. let both : None ≡ Some here.under_way = sym goes_on ∙ here.goes_on in absurd (cc))
here_by_progress stream message_id x (Some u) is goes_on = here_by_front stream message_id x u (front_of x.messages) is goes_on refl

here_decided : (stream message_id : ℕ) (x : Stream) → Decided (IsHere stream message_id x)
here_decided stream message_id x = elim (same_decided x.id stream) [
  | inl is ↦ here_by_progress stream message_id x x.under_way is refl
  | inr is_not ↦ inr (λ here. is_not here.is)
]

front_decided : (stream message_id : ℕ) (streams : List Stream) → Decided (HasFront stream message_id streams)
front_decided stream message_id [] = inr (λ has. let within = has.within in omega arith)
front_decided stream message_id (x ∷ xs) = elim (front_decided stream message_id xs) [
  | inl later ↦ inl (front_behind stream message_id x xs later)
  | inr none ↦ elim (here_decided stream message_id x) [
    | inl here ↦ inl (record { place = 0; within = omega arith; here = here })
    | inr other ↦ inr (no_front stream message_id x xs other none)
  ]
]

pub named_decided : (queue : SendQueueState) (stream message_id : ℕ) → Decided (IsMessageUnderWay queue stream message_id)
named_decided queue stream message_id = elim (front_decided stream message_id queue.streams) [
  | inl has ↦ inl (record {
    place = has.place;
    within = has.within;
    is = has.here.is;
    under_way = has.here.under_way;
    goes_on = has.here.goes_on;
    message = has.here.message;
    front = has.here.front;
    named = has.here.named;
  })
  | inr none ↦ inr (λ named. none (record {
    place = named.place;
    within = named.within;
    here = record { is = named.is; under_way = named.under_way; goes_on = named.goes_on; message = named.message; front = named.front; named = named.named };
  }))
]
