-- Streams that are held, where streams change.
use Rattle.std.proofs.Common.{◌≡◌, ◌≢◌, ◌==◌, ℕ, zero, suc, ◌<◌, ◌≤◌, Bool, true, false, if◌then◌else◌, Option, None, Some, is_some, Ok, Err, ◌⊎◌, inl, inr, List, [], ◌∷◌, length, set, map, refl, sym, ap, ◌∙◌, arith}
use Rattle.std.specs.List.{insert}
use Rattle.dcsctp_api.specs.types.declared.ids.StreamId.{StreamId}
use Rattle.dcsctp_api.specs.types.queues.SendStreams.{Stream, handed_out, stream_at, IsAscending}
use Rattle.dcsctp_send_queue.specs.Ranking.{IsFound}
use Rattle.dcsctp_api.specs.spec.queues.SendQueue.{SendQueueState, stream_changed, IsGoingOn, IsHeld}
use Rattle.dcsctp_api.specs.spec.queues.Sending.{released_queue}
use Rattle.dcsctp_api.specs.spec.queues.OwnResets.{handing_out}
use Rattle.dcsctp_send_queue.proofs.StreamLemmas.{length-set_at}
use Rattle.dcsctp_send_queue.proofs.NextLemmas.{same_place, absent_at}
use Rattle.dcsctp_send_queue.proofs.QueueLemmas.{same_test, stream_at-either}

-- ---- one stream changes

abbrev KeepsGoing : Stream → Stream → Type 0
KeepsGoing old new = is_some old.under_way ≡ true → is_some new.under_way ≡ true

going_set : (streams : List Stream) (p k : ℕ) (s : Stream) (held : StreamId) → IsGoingOn streams held k → s.id ≡ (stream_at streams p).id → KeepsGoing (stream_at streams p) s
    → ((k ≡ p) × (stream_at (set streams p s) k ≡ s)) ⊎ (stream_at (set streams p s) k ≡ stream_at streams k) → IsGoingOn (set streams p s) held k
going_set streams p k s held is same goes (inl h) =
    let len = length-set_at streams p s in
    let within = is.within in
    record {
      within = omega (arith, len, within);
      is = ap (λ x. x.id) h.1 ∙ (same ∙ (ap (λ j. (stream_at streams j).id) (sym h.0) ∙ is.is));
      goes_on = ap (λ x. is_some x.under_way) h.1 ∙ goes (ap (λ j. is_some (stream_at streams j).under_way) (sym h.0) ∙ is.goes_on);
    }
going_set streams p k s held is same goes (inr h) =
    let len = length-set_at streams p s in
    let within = is.within in
    record {
      within = omega (arith, len, within);
      is = ap (λ x. x.id) h ∙ is.is;
      goes_on = ap (λ x. is_some x.under_way) h ∙ is.goes_on;
    }

-- a change of a stream that keeps its number, and a message under way
pub held-set : (streams : List Stream) (p : ℕ) (s : Stream) (held : Option StreamId) → IsHeld held streams → s.id ≡ (stream_at streams p).id → KeepsGoing (stream_at streams p) s
    → IsHeld held (set streams p s)
held-set streams p s None is same goes = tt
held-set streams p s (Some held) is same goes = (is.0, going_set streams p is.0 s held is.1 same goes (stream_at-either streams p is.0 s is.1.within))

other_place : (streams : List Stream) (p k id : ℕ) (s : Stream) → (stream_at streams p).id ≡ id → (stream_at streams k).id ≢ id
    → ((k ≡ p) × (stream_at (set streams p s) k ≡ s)) ⊎ (stream_at (set streams p s) k ≡ stream_at streams k) → stream_at (set streams p s) k ≡ stream_at streams k
other_place streams p k id s is other (inl h) = absurd (other (ap (λ j. (stream_at streams j).id) h.0 ∙ is))
other_place streams p k id s is other (inr h) = h

-- another stream than one that changes
other_going : (streams : List Stream) (p id : ℕ) (s : Stream) (held : StreamId) → IsHeld (Some held) streams → (stream_at streams p).id ≡ id → held.0 ≢ id → IsHeld (Some held) (set streams p s)
other_going streams p id s held is number other =
    let len = length-set_at streams p s in
    let within = is.1.within in
    let at = other_place streams p is.0 id s number (λ e. other (sym is.1.is ∙ e)) (stream_at-either streams p is.0 s within) in
    (is.0, record { within = omega (arith, len, within); is = ap (λ x. x.id) at ∙ is.1.is; goes_on = ap (λ x. is_some x.under_way) at ∙ is.1.goes_on })

released_by : (b : Bool) (streams : List Stream) (p id : ℕ) (s : Stream) (held : StreamId) → (held.0 == id) ≡ b → IsHeld (Some held) streams → (stream_at streams p).id ≡ id
    → IsHeld (if b then None else Some held) (set streams p s)
released_by true streams p id s held e is number = tt
released_by false streams p id s held e is number = other_going streams p id s held is number (λ same. let t = same_test held.0 id same in cc)

released_if : (queue : SendQueueState) (streams : List Stream) (p id reserve : ℕ) (s : Stream) (held : Option StreamId) → queue.held ≡ held → IsHeld held streams → (stream_at streams p).id ≡ id
    → IsHeld (released_queue id reserve queue).held (set streams p s)
released_if queue streams p id reserve s None e is number = rw e tt
released_if queue streams p id reserve s (Some held) e is number = rw e (released_by (held.0 == id) streams p id s held refl is number)

-- a change of a stream that is held no longer
pub held-released : (queue : SendQueueState) (streams : List Stream) (p id reserve : ℕ) (s : Stream) → IsHeld queue.held streams → (stream_at streams p).id ≡ id
    → IsHeld (released_queue id reserve queue).held (set streams p s)
held-released queue streams p id reserve s is number = released_if queue streams p id reserve s queue.held refl is number

-- ---- one stream more

-- where a stream is after another was inserted
record MovedTo (streams more : List Stream) (k : ℕ) : Type 0 where
  pub to : ℕ
  pub within : to < length more
  pub same : stream_at more to ≡ stream_at streams k

moved_to : (streams : List Stream) (p k : ℕ) (s : Stream) → p ≤ length streams → k < length streams → MovedTo streams (insert streams p s) k
moved_to [] p k s le lt = absurd (omega arith)
moved_to (x ∷ xs) zero k s le lt = record { to = suc k; within = omega arith; same = refl }
moved_to (x ∷ xs) (suc p) zero s le lt = record { to = zero; within = omega arith; same = refl }
moved_to (x ∷ xs) (suc p) (suc k) s le lt =
    let m = moved_to xs p k s (omega arith) (omega arith) in
    let w = m.within in
    record { to = suc m.to; within = omega (arith, w); same = m.same }

-- a stream that is put in
pub held-insert : (streams : List Stream) (p : ℕ) (s : Stream) (held : Option StreamId) → IsHeld held streams → p ≤ length streams → IsHeld held (insert streams p s)
held-insert streams p s None is le = tt
held-insert streams p s (Some held) is le =
    let m = moved_to streams p is.0 s le is.1.within in
    (m.to, record { within = m.within; is = ap (λ x. x.id) m.same ∙ is.1.is; goes_on = ap (λ x. is_some x.under_way) m.same ∙ is.1.goes_on })

-- ---- all streams change

pub map_at : (f : Stream → Stream) (streams : List Stream) (k : ℕ) → k < length streams → stream_at (map f streams) k ≡ f (stream_at streams k)
map_at f [] k lt = absurd (omega arith)
map_at f (x ∷ xs) zero lt = refl
map_at f (x ∷ xs) (suc k) lt = map_at f xs k (omega arith)

map_length : (f : Stream → Stream) (streams : List Stream) → length (map f streams) ≡ length streams
map_length f [] = refl
map_length f (x ∷ xs) = let e = map_length f xs in omega (arith, e)

-- a change of all streams that keeps their numbers, and messages under way
pub held-map : (f : Stream → Stream) (streams : List Stream) (held : Option StreamId) → ((s : Stream) → (f s).id ≡ s.id) → ((s : Stream) → KeepsGoing s (f s)) → IsHeld held streams
    → IsHeld held (map f streams)
held-map f streams None same goes is = tt
held-map f streams (Some held) same goes is =
    let at = map_at f streams is.0 is.1.within in
    let len = map_length f streams in
    let lt = is.1.within in (
      is.0,
      record {
        within = omega (arith, len, lt);
        is = ap (λ s. s.id) at ∙ (same (stream_at streams is.0) ∙ is.1.is);
        goes_on = ap (λ s. is_some s.under_way) at ∙ goes (stream_at streams is.0) is.1.goes_on;
      },
    )

handed_number : (b : Bool) (s : Stream) → (if b then handed_out s else s).id ≡ s.id
handed_number true s = refl
handed_number false s = refl

handed_going : (b : Bool) (s : Stream) → KeepsGoing s (if b then handed_out s else s)
handed_going true s goes = goes
handed_going false s goes = goes

-- streams are handed out
pub held-handing_out : (ids : List ℕ) (streams : List Stream) (held : Option StreamId) → IsHeld held streams → IsHeld held (handing_out ids streams)
held-handing_out [] streams held is = is
held-handing_out (id ∷ ids) streams held is =
    held-handing_out ids (stream_changed id handed_out streams) held
    (held-map (λ s. if s.id == id then handed_out s else s) streams held (λ s. handed_number (s.id == id) s) (λ s. handed_going (s.id == id) s) is)

-- ---- the place of the stream

-- it was found
pub held-found : (streams : List Stream) (held : StreamId) (p : ℕ) → IsAscending streams → IsHeld (Some held) streams → IsFound streams held.0 (Ok p) → IsGoingOn streams held p
held-found streams held p ascending is found =
    let same = same_place streams is.0 p ascending is.1.within found.0 (is.1.is ∙ sym found.1) in
    record {
      within = found.0;
      is = found.1;
      goes_on = ap (λ k. is_some (stream_at streams k).under_way) (sym same) ∙ is.1.goes_on;
    }

pub held-not_lost : (streams : List Stream) (held : StreamId) (p : ℕ) → IsHeld (Some held) streams → IsFound streams held.0 (Err p) → ⊥
held-not_lost streams held p is lost = absent_at streams held.0 p is.0 lost is.1.within is.1.is
