-- Of a list of messages some are picked, by the places of what was sent.
use Rattle.std.proofs.Common.{◌≡◌, ◌<◌, ℕ, zero, suc, Some, List, [], ◌∷◌, refl, sym, ap, subst, inl, inr, arith}
use Rattle.std.specs.Prelude.{slice_get}
use Rattle.dcsctp_delivery_directions.specs.receiving.Ready.{AreDistinct}
use Rattle.dcsctp_delivery_directions.specs.sending.Places.{HasEntry}
use Rattle.dcsctp_delivery_sockets.specs.sockets.UserMessages.{WereSent, IsDelivered}
use Rattle.dcsctp_channel_calls.specs.api.types.queues.Messages.{MessageContent}
use Rattle.dcsctp_channel_runs.specs.Opened.{EachToLater, IsSaidApart}

-- ---- some messages of a list are picked

-- Each message brings an item, or isn't of this kind.
pub data Picks {A : Type 0} (P : MessageContent → A → Type 0) (No : MessageContent → Type 0) : List MessageContent → List A → Type 0 where
  none_picked : Picks P No [] []
  passed : (m : MessageContent) (messages : List MessageContent) (items : List A) → No m → Picks P No messages items → Picks P No (m ∷ messages) items
  picked : (m : MessageContent) (item : A) (messages : List MessageContent) (items : List A) → P m item → Picks P No messages items → Picks P No (m ∷ messages) (item ∷ items)

-- how many are picked before this place
unfoldable pub picked_before : {A : Type 0} {P : MessageContent → A → Type 0} {No : MessageContent → Type 0} (messages : List MessageContent) (items : List A) → Picks P No messages items → ℕ → ℕ
picked_before _ _ none_picked place = 0
picked_before _ _ (passed m messages items skips rest) zero = 0
picked_before _ _ (passed m messages items skips rest) (suc place) = picked_before messages items rest place
picked_before _ _ (picked m item messages items is rest) zero = 0
picked_before _ _ (picked m item messages items is rest) (suc place) = suc (picked_before messages items rest place)

-- The message at this place was picked.
pub record IsPicked {A : Type 0} (P : MessageContent → A → Type 0) (items : List A) (m : MessageContent) (index : ℕ) : Type 0 where
  pub item : A
  pub at : slice_get items index ≡ Some item
  pub of : P m item

pub picked_there : {A : Type 0} {P : MessageContent → A → Type 0} {No : MessageContent → Type 0} (messages : List MessageContent) (items : List A) (picks : Picks P No messages items) (place : ℕ) (m : MessageContent)
    → slice_get messages place ≡ Some m → (No m → ⊥) → IsPicked P items m (picked_before messages items picks place)
unfolding picked_before
picked_there _ _ none_picked place m at kind = absurd cc
picked_there {No = No} _ _ (passed n messages items skips rest) zero m at kind = let same : n ≡ m = cc in absurd (kind (subst No same skips))
picked_there _ _ (passed n messages items skips rest) (suc place) m at kind = picked_there messages items rest place m at kind
picked_there {P = P} _ _ (picked n item messages items is rest) zero m at kind =
    let same : n ≡ m = cc in record { item = item; at = refl; of = subst (λ x. P x item) same is }
picked_there _ _ (picked n item messages items is rest) (suc place) m at kind =
    let later = picked_there messages items rest place m at kind in record { item = later.item; at = later.at; of = later.of }

-- Two places of picked messages with equally many before them are one.
pub picked_apart : {A : Type 0} {P : MessageContent → A → Type 0} {No : MessageContent → Type 0} (messages : List MessageContent) (items : List A) (picks : Picks P No messages items) (place other : ℕ)
    (m n : MessageContent) → slice_get messages place ≡ Some m → (No m → ⊥) → slice_get messages other ≡ Some n → (No n → ⊥)
    → picked_before messages items picks place ≡ picked_before messages items picks other → place ≡ other
unfolding picked_before
picked_apart _ _ none_picked place other m n at kind here other_kind same = absurd cc
picked_apart _ _ (passed x messages items skips rest) zero zero m n at kind here other_kind same = refl
picked_apart {No = No} _ _ (passed x messages items skips rest) zero (suc other) m n at kind here other_kind same = let is : x ≡ m = cc in absurd (kind (subst No is skips))
picked_apart {No = No} _ _ (passed x messages items skips rest) (suc place) zero m n at kind here other_kind same = let is : x ≡ n = cc in absurd (other_kind (subst No is skips))
picked_apart _ _ (passed x messages items skips rest) (suc place) (suc other) m n at kind here other_kind same =
    ap suc (picked_apart messages items rest place other m n at kind here other_kind same)
picked_apart _ _ (picked x item messages items is rest) zero zero m n at kind here other_kind same = refl
picked_apart _ _ (picked x item messages items is rest) zero (suc other) m n at kind here other_kind same = absurd (omega arith)
picked_apart _ _ (picked x item messages items is rest) (suc place) zero m n at kind here other_kind same = absurd (omega arith)
picked_apart _ _ (picked x item messages items is rest) (suc place) (suc other) m n at kind here other_kind same =
    ap suc (picked_apart messages items rest place other m n at kind here other_kind (omega arith))

-- More are picked before a later place.
pub picked_rises : {A : Type 0} {P : MessageContent → A → Type 0} {No : MessageContent → Type 0} (messages : List MessageContent) (items : List A) (picks : Picks P No messages items) (place other : ℕ)
    (m : MessageContent) → slice_get messages place ≡ Some m → (No m → ⊥) → place < other → (n : MessageContent) → slice_get messages other ≡ Some n
    → picked_before messages items picks place < picked_before messages items picks other
unfolding picked_before
picked_rises _ _ none_picked place other m at kind less n there = absurd cc
picked_rises _ _ (passed x messages items skips rest) zero zero m at kind less n there = absurd (omega arith)
picked_rises {No = No} _ _ (passed x messages items skips rest) zero (suc other) m at kind less n there = let is : x ≡ m = cc in absurd (kind (subst No is skips))
picked_rises _ _ (passed x messages items skips rest) (suc place) zero m at kind less n there = absurd (omega arith)
picked_rises _ _ (passed x messages items skips rest) (suc place) (suc other) m at kind less n there = picked_rises messages items rest place other m at kind (omega arith) n there
picked_rises _ _ (picked x item messages items is rest) zero zero m at kind less n there = absurd (omega arith)
picked_rises _ _ (picked x item messages items is rest) zero (suc other) m at kind less n there = omega arith
picked_rises _ _ (picked x item messages items is rest) (suc place) zero m at kind less n there = absurd (omega arith)
picked_rises _ _ (picked x item messages items is rest) (suc place) (suc other) m at kind less n there =
    let more : picked_before messages items rest place < picked_before messages items rest other = picked_rises messages items rest place other m at kind (omega arith) n there in omega arith

-- Each item that was picked is of a message, at its place.
pub record IsPickedFrom {A : Type 0} (P : MessageContent → A → Type 0) (messages : List MessageContent) (item : A) (index : ℕ) (before : ℕ → ℕ) : Type 0 where
  pub place : ℕ
  pub m : MessageContent
  pub at : slice_get messages place ≡ Some m
  pub of : P m item
  pub is : before place ≡ index

pub picked_from : {A : Type 0} {P : MessageContent → A → Type 0} {No : MessageContent → Type 0} (messages : List MessageContent) (items : List A) (picks : Picks P No messages items) (index : ℕ) (item : A)
    → slice_get items index ≡ Some item → IsPickedFrom P messages item index (picked_before messages items picks)
unfolding picked_before
picked_from _ _ none_picked index item at = absurd cc
picked_from _ _ (passed m messages items skips rest) index item at =
    let found = picked_from messages items rest index item at in record { place = suc found.place; m = found.m; at = found.at; of = found.of; is = found.is }
picked_from {P = P} _ _ (picked m first messages items is rest) zero item at = let same : first ≡ item = cc in record { place = 0; m = m; at = refl; of = subst (λ x. P m x) same is; is = refl }
picked_from _ _ (picked m first messages items is rest) (suc index) item at =
    let found = picked_from messages items rest index item at in record { place = suc found.place; m = found.m; at = found.at; of = found.of; is = ap suc found.is }

-- ---- what was read, by the places of what was sent

-- Each item is of a message that was sent at this place.
abbrev pub AreOf : {A : Type 0} → (MessageContent → A → Type 0) → List MessageContent → List ℕ → List A → Type 0
AreOf Says sent [] [] = Unit {0}
AreOf Says sent [] (item ∷ items) = ⊥
AreOf Says sent (place ∷ places) [] = ⊥
AreOf Says sent (place ∷ places) (item ∷ items) = ((m : MessageContent) × (slice_get sent place ≡ Some m) × Says m item) × AreOf Says sent places items

abbrev pub Any : MessageContent → Type 0
Any m = Unit {0}

-- The places of those that were picked, which stand to one another as all do.
pub record ChosenFrom {A : Type 0} (Stand : ℕ → ℕ → Type 0) (Says : MessageContent → A → Type 0) (sent : List MessageContent) (places : List ℕ) (items : List A) : Type 0 where
  pub chosen : List ℕ
  pub of : AreOf Says sent chosen items
  pub among : (place : ℕ) → HasEntry place chosen → HasEntry place places
  pub stand : EachToLater Stand places → EachToLater Stand chosen

pub among_both : (place : ℕ) (chosen places : List ℕ) (p : ℕ) → ((q : ℕ) → HasEntry q chosen → HasEntry q places) → HasEntry p (place ∷ chosen) → HasEntry p (place ∷ places)
among_both place chosen places p others (inl is) = inl is
among_both place chosen places p others (inr has) = inr (others p has)

pub chosen_from : {A : Type 0} {Says : MessageContent → A → Type 0} (Stand : ℕ → ℕ → Type 0) (sent : List MessageContent) (places : List ℕ) (read : List MessageContent) (items : List A) → WereSent sent places read → Picks Says Any read items
    → ChosenFrom Stand Says sent places items
chosen_from Stand sent [] _ _ were none_picked = record { chosen = []; of = tt; among = λ place has. has; stand = λ all. tt }
chosen_from Stand sent (place ∷ places) _ _ were none_picked = absurd were
chosen_from Stand sent [] _ _ were (passed m read items skips rest) = absurd were
chosen_from Stand sent (place ∷ places) _ _ were (passed m read items skips rest) =
    let others = chosen_from Stand sent places read items were.1 rest in
    record { chosen = others.chosen; of = others.of; among = λ p has. inr (others.among p has); stand = λ all. others.stand all.1 }
chosen_from Stand sent [] _ _ were (picked m item read items is rest) = absurd were
chosen_from Stand sent (place ∷ places) _ _ were (picked m item read items is rest) =
    let others = chosen_from Stand sent places read items were.1 rest in
    record {
      chosen = place ∷ others.chosen;
      of = ((m, were.0, is), others.of);
      among = λ p has. among_both place others.chosen places p others.among has;
      stand = λ all. ((λ later has. all.0 later (others.among later has)), others.stand all.1);
    }

-- ---- keys of places

abbrev pub AreKeys : (ℕ → ℕ → Type 0) → List ℕ → List ℕ → Type 0
AreKeys Key [] [] = Unit {0}
AreKeys Key [] (key ∷ keys) = ⊥
AreKeys Key (place ∷ places) [] = ⊥
AreKeys Key (place ∷ places) (key ∷ keys) = Key place key × AreKeys Key places keys

pub place_of_key : (Key : ℕ → ℕ → Type 0) (places keys : List ℕ) (key : ℕ) → AreKeys Key places keys → HasEntry key keys → (place : ℕ) × HasEntry place places × Key place key
place_of_key Key [] [] key are has = absurd has
place_of_key Key [] (first ∷ keys) key are has = absurd are
place_of_key Key (place ∷ places) [] key are has = absurd has
place_of_key Key (place ∷ places) (first ∷ keys) key are (inl is) = (place, inl refl, subst (λ k. Key place k) (sym is) are.0)
place_of_key Key (place ∷ places) (first ∷ keys) key are (inr has) = let later = place_of_key Key places keys key are.1 has in (later.0, inr later.1, later.2)

pub key_of_place : (Key : ℕ → ℕ → Type 0) (places keys : List ℕ) (place : ℕ) → AreKeys Key places keys → HasEntry place places → (key : ℕ) × HasEntry key keys × Key place key
key_of_place Key [] [] place are has = absurd has
key_of_place Key [] (key ∷ keys) place are has = absurd has
key_of_place Key (first ∷ places) [] place are has = absurd are
key_of_place Key (first ∷ places) (key ∷ keys) place are (inl is) = (key, inl refl, subst (λ p. Key p key) (sym is) are.0)
key_of_place Key (first ∷ places) (key ∷ keys) place are (inr has) = let later = key_of_place Key places keys place are.1 has in (later.0, inr later.1, later.2)

pub item_at : {A : Type 0} (Says : MessageContent → A → Type 0) (sent : List MessageContent) (places : List ℕ) (items : List A) (place : ℕ) → AreOf Says sent places items → HasEntry place places
    → (m : MessageContent) × (item : A) × (slice_get sent place ≡ Some m) × Says m item
item_at Says sent [] items place are has = absurd has
item_at Says sent (first ∷ places) [] place are has = absurd are
item_at Says sent (first ∷ places) (item ∷ items) place are (inl is) = (are.0.0, item, subst (λ p. slice_get sent p ≡ Some are.0.0) (sym is) are.0.1, are.0.2)
item_at Says sent (first ∷ places) (item ∷ items) place are (inr has) = item_at Says sent places items place are.1 has

-- Keys stand to one another as their places do.
pub keys_stand : (Key : ℕ → ℕ → Type 0) (Stand Then : ℕ → ℕ → Type 0) → ((place other key more : ℕ) → Key place key → Key other more → Stand place other → Then key more) → (places keys : List ℕ) → AreKeys Key places keys
    → EachToLater Stand places → EachToLater Then keys
keys_stand Key Stand Then so [] [] are stand = tt
keys_stand Key Stand Then so [] (key ∷ keys) are stand = absurd are
keys_stand Key Stand Then so (place ∷ places) [] are stand = absurd are
keys_stand Key Stand Then so (place ∷ places) (key ∷ keys) are stand = (
  (λ more has. let later = place_of_key Key places keys more are.1 has in so place later.0 key more are.0 later.2 (stand.0 later.0 later.1)),
  keys_stand Key Stand Then so places keys are.1 stand.1,
)

-- ---- each once

pub each_other : (places : List ℕ) → AreDistinct places → EachToLater IsSaidApart places
each_other [] distinct = tt
each_other (place ∷ places) distinct = ((λ later has same. distinct.0 (subst (λ p. HasEntry p places) (sym same) has)), each_other places distinct.1)

pub are_distinct : (places : List ℕ) → EachToLater IsSaidApart places → AreDistinct places
are_distinct [] each = tt
are_distinct (place ∷ places) each = ((λ has. each.0 place has refl), are_distinct places each.1)

-- What was read was sent, at places that stand so.
pub record DeliveredSo (Stand : ℕ → ℕ → Type 0) (sent read : List MessageContent) : Type 0 where
  pub places : List ℕ
  pub were_sent : WereSent sent places read
  pub stand : EachToLater Stand places
  pub apart : EachToLater IsSaidApart places

pub delivered_once : (sent read : List MessageContent) → IsDelivered sent read → DeliveredSo IsSaidApart sent read
delivered_once sent read delivered = record { places = delivered.places; were_sent = delivered.were_sent; stand = each_other delivered.places delivered.once; apart = each_other delivered.places delivered.once }
