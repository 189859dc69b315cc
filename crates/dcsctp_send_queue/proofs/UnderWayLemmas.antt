-- The first stream with a message under way, and which stream sends.
use Rattle.std.proofs.Common.{◌≡◌, ℕ, zero, suc, ◌<◌, Bool, true, false, if◌then◌else◌, is_some, Option, None, Some, IfNone, Ok, Err, List, [], ◌∷◌, length, get_or, refl, sym, ap, subst, ◌∙◌, arith}
use Rattle.dcsctp_api.specs.types.declared.ids.StreamId.{StreamId}
use Rattle.dcsctp_api.specs.types.queues.SendStreams.{Waiting, Stream, front_of, stream_at, IsAscending}
use Rattle.dcsctp_api.specs.spec.queues.SendQueue.{SendQueueState, CanGoOn}
use Rattle.std.specs.List.{AllByRecursion}
use Rattle.dcsctp_api.specs.spec.queues.Sending.{may_send_part, has_begun, IsFirstUnderWay, AreNoneUnderWay, PassesTurn, IsChosen}
use Rattle.dcsctp_api.proofs.spec_lemmas.ChoosingLemmas.{SendsBy, own_turn, under_way, chosen_by, begun_front}
use Rattle.dcsctp_send_queue.specs.Leaving.{MayBegin}
use Rattle.dcsctp_send_queue.specs.Ranking.{IsFound}
use Rattle.dcsctp_send_queue.specs.Pausing.{under_way_ids}
use Rattle.dcsctp_send_queue.proofs.GoingOnLemmas.{going_front}
use Rattle.dcsctp_send_queue.proofs.NextLemmas.{same_place, absent_at}
use Rattle.dcsctp_send_queue.proofs.PauseLemmas.{id_of}

-- the first of them has this number
pub record IsFirstNumbered (streams : List Stream) (id : StreamId) : Type 0 where
  pub place : ℕ
  pub first : IsFirstUnderWay streams place
  pub is : (stream_at streams place).id ≡ id.0

-- A stream that can continue has begun its oldest message if one is under way.
begun_if : (x : Stream) → is_some x.under_way ≡ true → CanGoOn x → has_begun x ≡ true
begun_if x goes can =
    let front = going_front x goes can in
    let there = front.1 in
    rw (goes, there) refl

later_first : (x : Stream) (xs : List Stream) (id : StreamId) → has_begun x ≡ false → IsFirstNumbered xs id → IsFirstNumbered (x ∷ xs) id
later_first x xs id idle h = record {
  place = suc h.place;
  first = record { within = let w = h.first.within in omega (arith, w); goes_on = h.first.goes_on; first = before };
  is = h.is;
}
  where
    before : (k : ℕ) → k < suc h.place → has_begun (stream_at (x ∷ xs) k) ≡ false
    before zero lt = idle
    before (suc k) lt = h.first.first k (omega (arith, lt))

first_by : (x : Stream) (xs : List Stream) (id : StreamId) (b : Bool) → is_some x.under_way ≡ b → CanGoOn x
    → (0 < length (under_way_ids xs) → id ≡ get_or (under_way_ids xs) 0 id → IsFirstNumbered xs id)
    → 0 < length (if b then id_of x ∷ under_way_ids xs else under_way_ids xs) → id ≡ get_or (if b then id_of x ∷ under_way_ids xs else under_way_ids xs) 0 id → IsFirstNumbered (x ∷ xs) id
first_by x xs id true e can ih some is = record {
  place = 0;
  first = record { within = omega arith; goes_on = begun_if x e can; first = λ k lt. absurd (omega (arith, lt)) };
  is = ap (λ (it : StreamId). it.0) (sym is);
}
first_by x xs id false e can ih some is = later_first x xs id (rw e refl) (ih some is)

-- the first of the numbers is that of the first such stream
pub first_numbered : (streams : List Stream) (id : StreamId) → AllByRecursion CanGoOn streams → 0 < length (under_way_ids streams) → id ≡ get_or (under_way_ids streams) 0 id → IsFirstNumbered streams id
first_numbered [] id can some is = absurd (omega arith)
first_numbered (x ∷ xs) id can some is = first_by x xs id (is_some x.under_way) refl can.0 (first_numbered xs id can.1) some is

-- the stream that is found by the first of the numbers
pub found_going : (streams : List Stream) (p : ℕ) (id : StreamId) → IsAscending streams → AllByRecursion CanGoOn streams → 0 < length (under_way_ids streams) → id ≡ get_or (under_way_ids streams) 0 id
    → IsFound streams id.0 (Ok p) → IsFirstUnderWay streams p
found_going streams p id ascending can some is found =
    let going = first_numbered streams id can some is in
    let same = same_place streams going.place p ascending going.first.within found.0 (going.is ∙ sym found.1) in
    subst (λ (k : ℕ). IsFirstUnderWay streams k) same going.first

pub not_lost_going : (streams : List Stream) (p : ℕ) (id : StreamId) → AllByRecursion CanGoOn streams → 0 < length (under_way_ids streams) → id ≡ get_or (under_way_ids streams) 0 id → IsFound streams id.0 (Err p) → ⊥
not_lost_going streams p id can some is lost =
    let going = first_numbered streams id can some is in
    absent_at streams id.0 p going.place lost going.first.within going.is

idle_by : (x : Stream) (xs : List Stream) (b : Bool) → is_some x.under_way ≡ b → (under_way_ids xs ≡ [] → AreNoneUnderWay xs)
    → (if b then id_of x ∷ under_way_ids xs else under_way_ids xs) ≡ [] → AreNoneUnderWay (x ∷ xs)
idle_by x xs true e ih none = absurd (cc)
idle_by x xs false e ih none = let idle : has_begun x ≡ false = rw e refl in rw idle (ih none)

-- Without such numbers no message is under way.
pub none_going : (streams : List Stream) → under_way_ids streams ≡ [] → AreNoneUnderWay streams
none_going [] none = refl
none_going (x ∷ xs) none = idle_by x xs (is_some x.under_way) refl (none_going xs) none

pub none_found : (found : Option ℕ) (streams : List Stream) → under_way_ids streams ≡ [] → IfNone found (AreNoneUnderWay streams)
none_found None streams none = none_going streams none
none_found (Some place) streams none = tt

-- ---- the stream that is chosen

-- it has a message
pub chosen_front : (now max : ℕ) (queue : SendQueueState) (place : ℕ) → IsChosen now max queue place → CanGoOn (stream_at queue.streams place)
    → (m : Waiting) × (front_of (stream_at queue.streams place).messages ≡ Some m)
chosen_front now max queue place chosen can = go (chosen_by now max queue place chosen)
  where
    go : SendsBy queue.streams chosen.turn place → (m : Waiting) × (front_of (stream_at queue.streams place).messages ≡ Some m)
    go (own_turn same) = (chosen.message, ap (λ (k : ℕ). front_of (stream_at queue.streams k).messages) same ∙ chosen.front)
    go (under_way first) = begun_front (stream_at queue.streams place) first.goes_on

-- The stream is chosen whose turn it is, or another in its place.
pub chosen_if : (b : Bool) (now max : ℕ) (queue : SendQueueState) (turn place : ℕ) → (may : MayBegin now queue.streams turn)
    → may_send_part max may.message (stream_at queue.streams turn) queue ≡ b → PassesTurn b queue.streams turn place → IsChosen now max queue place
chosen_if b now max queue turn place may e sends = record {
  turn = turn;
  next = may.next;
  message = may.message;
  front = may.front;
  fresh = may.fresh;
  sends = rw e sends;
}
