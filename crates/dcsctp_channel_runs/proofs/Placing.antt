-- Places in lists, and which comes first.
use Rattle.std.proofs.Common.{◌≡◌, ◌⊎◌, ◌<◌, ℕ, zero, suc, Some, List, [], ◌∷◌, ◌++◌, length, map, refl, sym, ap, subst, inl, inr, arith}
use Rattle.std.specs.Prelude.{slice_get}
use Rattle.std.specs.List.{AllByRecursion}
use Rattle.dcsctp_delivery_directions.specs.sending.Places.{HasEntry}
use Rattle.dcsctp_delivery_sockets.specs.sockets.UserMessages.{message_sent}
use Rattle.dcsctp_channel_calls.specs.api.spec.endpoint.MessageOutcomes.{Sending}
use Rattle.dcsctp_channel_runs.specs.Opened.{EachToLater}
use Rattle.dcsctp_channel_runs.proofs.Picking.{Picks, picked_before, picked_rises}
use Rattle.dcsctp_channel_calls.specs.api.types.queues.Messages.{MessageContent}

-- ---- lists

pub order : (a b : ℕ) → (a < b) ⊎ ((a ≡ b) ⊎ (b < a))
order zero zero = inr (inl refl)
order zero (suc b) = inl (omega arith)
order (suc a) zero = inr (inr (omega arith))
order (suc a) (suc b) = by (order a b)
  where
    by : (a < b) ⊎ ((a ≡ b) ⊎ (b < a)) → (suc a < suc b) ⊎ ((suc a ≡ suc b) ⊎ (suc b < suc a))
    by (inl less) = inl (omega arith)
    by (inr (inl same)) = inr (inl (ap suc same))
    by (inr (inr more)) = inr (inr (omega arith))

pub all_from : {A : Type 0} (P : A → Type 0) (xs : List A) → ((place : ℕ) (x : A) → slice_get xs place ≡ Some x → P x) → AllByRecursion P xs
all_from P [] each = tt
all_from P (x ∷ xs) each = (each 0 x refl, all_from P xs (λ place y at. each (suc place) y at))

pub within : {A : Type 0} (xs : List A) (place : ℕ) (x : A) → slice_get xs place ≡ Some x → place < length xs
within [] place x at = absurd cc
within (first ∷ xs) zero x at = omega arith
within (first ∷ xs) (suc place) x at = let less : place < length xs = within xs place x at in omega arith

pub map_at : (sent : List Sending) (place : ℕ) (one : Sending) → slice_get sent place ≡ Some one → slice_get (map message_sent sent) place ≡ Some one.message
map_at [] place one at = absurd cc
map_at (first ∷ sent) zero one at = let same : first ≡ one = cc in ap (λ (s : Sending). Some s.message) same
map_at (first ∷ sent) (suc place) one at = map_at sent place one at

pub split_entry : (p x : ℕ) (front rest : List ℕ) → HasEntry p (front ++ x ∷ rest) → HasEntry p front ⊎ ((p ≡ x) ⊎ HasEntry p rest)
split_entry p x [] rest (inl is) = inr (inl is)
split_entry p x [] rest (inr has) = inr (inr has)
split_entry p x (first ∷ front) rest (inl is) = inl (inl is)
split_entry p x (first ∷ front) rest (inr has) = by (split_entry p x front rest has)
  where
    by : HasEntry p front ⊎ ((p ≡ x) ⊎ HasEntry p rest) → HasEntry p (first ∷ front) ⊎ ((p ≡ x) ⊎ HasEntry p rest)
    by (inl there) = inl (inr there)
    by (inr other) = inr other

pub entry_in_rest : (p x : ℕ) (front rest : List ℕ) → HasEntry p rest → HasEntry p (front ++ x ∷ rest)
entry_in_rest p x [] rest has = inr has
entry_in_rest p x (first ∷ front) rest has = inr (entry_in_rest p x front rest has)

entry_there : (x : ℕ) (front rest : List ℕ) → HasEntry x (front ++ x ∷ rest)
entry_there x [] rest = inl refl
entry_there x (first ∷ front) rest = inr (entry_there x front rest)

pub stands_before : (Stand : ℕ → ℕ → Type 0) (p x : ℕ) (front rest : List ℕ) → EachToLater Stand (front ++ x ∷ rest) → HasEntry p front → Stand p x
stands_before Stand p x [] rest stand has = absurd has
stands_before Stand p x (first ∷ front) rest stand (inl is) = subst (λ (q : ℕ). Stand q x) (sym is) (stand.0 x (entry_there x front rest))
stands_before Stand p x (first ∷ front) rest stand (inr has) = stands_before Stand p x front rest stand.1 has

-- Of two places the one with fewer picked before is the earlier.
pub picked_back : {A : Type 0} {P : MessageContent → A → Type 0} {No : MessageContent → Type 0} (messages : List MessageContent) (items : List A) (picks : Picks P No messages items) (place other : ℕ) (m n : MessageContent)
    → slice_get messages place ≡ Some m → slice_get messages other ≡ Some n → (No n → ⊥) → picked_before messages items picks place < picked_before messages items picks other → place < other
picked_back messages items picks place other m n at there kind less = by (order place other)
  where
    by : (place < other) ⊎ ((place ≡ other) ⊎ (other < place)) → place < other
    by (inl below) = below
    by (inr (inl same)) = let both : picked_before messages items picks place ≡ picked_before messages items picks other = ap (picked_before messages items picks) same in absurd (omega arith)
    by (inr (inr above)) =
        let more : picked_before messages items picks other < picked_before messages items picks place = picked_rises messages items picks other place n there kind above m at in
        let so : picked_before messages items picks place < picked_before messages items picks other = less in absurd (omega arith)
