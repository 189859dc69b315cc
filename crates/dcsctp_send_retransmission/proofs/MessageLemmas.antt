-- Rows of items that bear one message.
use Rattle.std.proofs.Common.{◌≡◌, ◌∙◌, ◌+◌, Bool, ◌<◌, ◌≤◌, ◌==◌, true, false, ℕ, zero, suc, Some, List, [], ◌∷◌, length, ap, sym, arith}
use Rattle.std.specs.List.{slice_get, slice_index_or}
use Rattle.std.proofs.lemmas.Bool.Decides.{nat_tests}
use Rattle.dcsctp_api.specs.spec.queues.Items.{Item}
use Rattle.dcsctp_api.specs.spec.queues.ItemMessages.{AtPlace, StartsMessage, EndsMessage}

-- all items from this place on and before that one bear the message
abbrev pub AllBear : ℕ → ℕ → ℕ → List Item → Type 0
AllBear message_id start end items = (k : ℕ) (item : Item) → start ≤ k → k < end → slice_get items k ≡ Some item → item.fragment.message_id ≡ message_id

-- rows that meet
pub bear_both : (message_id start between end : ℕ) (items : List Item) → AllBear message_id start between items → AllBear message_id between end items → AllBear message_id start end items
bear_both message_id start between end items first later k item from to at = grind (arith, first k item from, later k item)

pub starts_message : (message_id place start : ℕ) (items : List Item) → start ≤ place → AllBear message_id start (place + 1) items
    → ((k : ℕ) (item : Item) → k + 1 ≡ start → slice_get items k ≡ Some item → item.fragment.message_id ≡ message_id → ⊥) → StartsMessage place start items
starts_message message_id place start items from bear others =
    record {
      from = from;
      same = λ k item own from_k to_k at at_own. bear k item from_k (omega arith) at ∙ sym (bear place own from (omega arith) at_own);
      other = λ k item own before at at_own is. others k item before at (is ∙ bear place own from (omega arith) at_own);
    }

pub ends_message : (message_id place end : ℕ) (items : List Item) → place < end → end ≤ length items → AllBear message_id place end items
    → ((item : Item) → slice_get items end ≡ Some item → item.fragment.message_id ≡ message_id → ⊥) → EndsMessage place end items
ends_message message_id place end items to within bear others =
    record {
      to = to;
      within = within;
      same = λ k item own from_k to_k at at_own. bear k item from_k to_k at ∙ sym (bear place own (omega arith) to at_own);
      other = λ item own at at_own is. others item at (is ∙ bear place own (omega arith) to at_own);
    }

same_by : (a b : ℕ) → (a == b) ≡ true → a ≡ b
same_by a b is = grind (arith, nat_tests)

test_same : (a b : ℕ) → a ≡ b → (a == b) ≡ true
test_same a b is = grind (arith, nat_tests)

-- an item that bears another message
pub not_borne : (test : Bool) (message_id place : ℕ) (items : List Item) → test ≡ false → AtPlace items place (λ item. test ≡ (item.fragment.message_id == message_id))
    → (k : ℕ) (item : Item) → k ≡ place → slice_get items k ≡ Some item → item.fragment.message_id ≡ message_id → ⊥
not_borne test message_id place items fails tested k item here at is =
    let found = tested item (ap (slice_get items) (sym here) ∙ at) in
    let both = test_same item.fragment.message_id message_id is in
    cc

-- an item that bears the message
pub borne : (test : Bool) (message_id place : ℕ) (items : List Item) → test ≡ true → AtPlace items place (λ item. test ≡ (item.fragment.message_id == message_id)) → AllBear message_id place (place + 1) items
borne test message_id place items holds tested k item from to at =
    let here : k ≡ place = omega arith in
    let found = tested item (ap (slice_get items) (sym here) ∙ at) in
    same_by item.fragment.message_id message_id (sym found ∙ holds)

-- no item is after the last
pub none_behind : (items : List Item) (place : ℕ) (item : Item) → length items ≤ place → slice_get items place ≡ Some item → ⊥
none_behind [] place item few at = cc
none_behind (x ∷ xs) zero item few at = omega arith
none_behind (x ∷ xs) (suc place) item few at = none_behind xs place item (omega arith) at

pub index_at : (items : List Item) (place : ℕ) (a b : Item) → a ≡ slice_index_or items place a → slice_get items place ≡ Some b → a ≡ b
index_at [] place a b first second = cc
index_at (x ∷ xs) zero a b first second = let both : x ≡ b = cc in first ∙ both
index_at (x ∷ xs) (suc place) a b first second = index_at xs place a b first second
