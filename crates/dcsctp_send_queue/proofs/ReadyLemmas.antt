-- Streams that are handed out.
use Rattle.std.proofs.Common.{◌≡◌, ℕ, zero, suc, ◌+◌, ◌<◌, ◌≤◌, nat_lt, min, not, Bool, true, false, Err, List, [], ◌∷◌, ◌++◌, is_some, length, get_or, filter, map, take, refl, sym, ap, ◌∙◌, arith}
use Rattle.dcsctp_api.specs.types.Ids.{stream_numbers}
use Rattle.dcsctp_api.specs.types.declared.ids.StreamId.{StreamId}
use Rattle.dcsctp_api.specs.types.declared.sending.Pause.{Pause}
use Rattle.dcsctp_api.specs.types.declared.sending.Pause.TheVariants.{Open, Pausing, HandedOut}
use Rattle.dcsctp_api.specs.types.queues.SendStreams.{Stream, is_pausing, handed_out}
use Rattle.dcsctp_send_queue.specs.Ranking.{IsFound}
use Rattle.dcsctp_api.specs.spec.queues.SendQueue.{stream_changed}
use Rattle.dcsctp_api.specs.spec.queues.OwnResets.{is_ready, handing_out}
use Rattle.dcsctp_send_queue.specs.Pausing.{pause_in_order, ready_ids}
use Rattle.dcsctp_send_queue.proofs.NextLemmas.{absent_at}
use Rattle.dcsctp_api.specs.spec.queues.Transfer.{is_none_ready}
use Rattle.dcsctp_send_queue.proofs.QueueLemmas.{less_test}
use Rattle.dcsctp_send_queue.proofs.ResetLemmas.{changed_absent}

-- no stream has this number
pub changed_lost : (streams : List Stream) (p id : ℕ) (f : Stream → Stream) → IsFound streams id (Err p) → stream_changed id f streams ≡ streams
changed_lost streams p id f lost = changed_absent id f streams (λ k lt e. absent_at streams id p k lost lt e)

pub handing_out-suc : (ids : List StreamId) (k : ℕ) (d : StreamId) (streams : List Stream) → k < length ids
    → stream_changed (get_or ids k d).0 handed_out (handing_out (stream_numbers (take k ids)) streams) ≡ handing_out (stream_numbers (take (suc k) ids)) streams
handing_out-suc [] k d streams lt = absurd (omega arith)
handing_out-suc (id ∷ ids) zero d streams lt = refl
handing_out-suc (id ∷ ids) (suc k) d streams lt = handing_out-suc ids k d (stream_changed id.0 handed_out streams) (omega arith)

-- one more is handed out
pub handing_out-step : (ids : List StreamId) (k j : ℕ) (d : StreamId) (streams : List Stream) → j ≡ k + 1 → k < length ids
    → stream_changed (get_or ids k d).0 handed_out (handing_out (stream_numbers (take k ids)) streams) ≡ handing_out (stream_numbers (take j ids)) streams
handing_out-step ids k j d streams e lt = let is : suc k ≡ j = omega arith in handing_out-suc ids k d streams lt ∙ ap (λ n. handing_out (stream_numbers (take n ids)) streams) is

pub all_taken : (ids : List StreamId) (k : ℕ) → length ids ≤ k → take k ids ≡ ids
all_taken [] zero le = refl
all_taken [] (suc k) le = refl
all_taken (id ∷ ids) zero le = absurd (omega arith)
all_taken (id ∷ ids) (suc k) le = ap (λ ts. id ∷ ts) (all_taken ids k (omega arith))

-- all are handed out
pub handing_out-all : (ids : List StreamId) (k : ℕ) (streams : List Stream) → length ids ≤ k → handing_out (stream_numbers (take k ids)) streams ≡ handing_out (stream_numbers ids) streams
handing_out-all ids k streams le = ap (λ ts. handing_out (stream_numbers ts) streams) (all_taken ids k le)

-- one test for both
same_test_if : (x : Stream) (p : Pause) (b : Bool) → x.pause ≡ p → is_some x.under_way ≡ b → is_ready x ≡ is_pausing (pause_in_order x)
same_test_if x Open b e f = rw e refl
same_test_if x Pausing false e f = rw (e, f) refl
same_test_if x Pausing true e f = rw (e, f) refl
same_test_if x HandedOut b e f = rw e refl

ready_test : (x : Stream) → is_ready x ≡ is_pausing (pause_in_order x)
ready_test x = same_test_if x x.pause (is_some x.under_way) refl refl

ready_by : (x : Stream) (xs : List Stream) (b : Bool) → is_ready x ≡ b → is_pausing (pause_in_order x) ≡ b → map (λ stream. stream.id) (filter is_ready xs) ≡ stream_numbers (ready_ids xs)
    → map (λ stream. stream.id) (filter is_ready (x ∷ xs)) ≡ stream_numbers (ready_ids (x ∷ xs))
ready_by x xs true e f rest = rw (e, f) (ap (λ ids. x.id ∷ ids) rest)
ready_by x xs false e f rest = rw (e, f) rest

-- The streams that are ready are those that are kept beside the streams.
pub ready_is : (streams : List Stream) → map (λ stream. stream.id) (filter is_ready streams) ≡ stream_numbers (ready_ids streams)
ready_is [] = refl
ready_is (x ∷ xs) = ready_by x xs (is_ready x) refl (sym (ready_test x)) (ready_is xs)

pub numbers-take : (ids : List StreamId) (k : ℕ) → stream_numbers (take k ids) ≡ take k (stream_numbers ids)
numbers-take [] zero = refl
numbers-take [] (suc k) = refl
numbers-take (id ∷ ids) zero = refl
numbers-take (id ∷ ids) (suc k) = ap (λ ts. id.0 ∷ ts) (numbers-take ids k)

-- one more of them
pub take_next : (ids : List StreamId) (k : ℕ) (d : StreamId) → k < length ids → take k ids ++ get_or ids k d ∷ [] ≡ take (suc k) ids
take_next [] k d lt = absurd (omega arith)
take_next (id ∷ ids) zero d lt = refl
take_next (id ∷ ids) (suc k) d lt = ap (λ ts. id ∷ ts) (take_next ids k d (omega arith))

pub numbers-push : (ids : List StreamId) (id : StreamId) → stream_numbers (ids ++ id ∷ []) ≡ stream_numbers ids ++ id.0 ∷ []
numbers-push [] id = refl
numbers-push (x ∷ xs) id = ap (λ ts. x.0 ∷ ts) (numbers-push xs id)

pub numbers-length : (ids : List StreamId) → length (stream_numbers ids) ≡ length ids
numbers-length [] = refl
numbers-length (x ∷ xs) = let e = numbers-length xs in omega (arith, e)

pub nothing_more : (ids : List ℕ) → ids ++ [] ≡ ids
nothing_more [] = refl
nothing_more (x ∷ xs) = ap (λ ts. x ∷ ts) (nothing_more xs)

take_least : (ids : List StreamId) (n max : ℕ) → n ≡ min (length ids) max → take n ids ≡ take max ids
take_least [] zero zero e = refl
take_least [] zero (suc max) e = refl
take_least [] (suc n) max e = absurd (omega (arith, e))
take_least (id ∷ ids) zero zero e = refl
take_least (id ∷ ids) zero (suc max) e = absurd (omega (arith, e))
take_least (id ∷ ids) (suc n) zero e = absurd (omega (arith, e))
take_least (id ∷ ids) (suc n) (suc max) e = ap (λ ts. id ∷ ts) (take_least ids n max (omega (arith, e)))

-- so many of those that are ready
pub ready_taken : (streams : List Stream) (ids : List StreamId) (place max : ℕ) → place ≡ min (length (ready_ids streams)) max → ids ≡ take place (ready_ids streams)
    → stream_numbers ids ≡ take max (map (λ stream. stream.id) (filter is_ready streams))
ready_taken streams ids place max is are =
    let first : ids ≡ take max (ready_ids streams) = are ∙ take_least (ready_ids streams) place max is in
    ap (λ (xs : List StreamId). stream_numbers xs) first ∙ (numbers-take (ready_ids streams) max ∙ ap (λ (xs : List ℕ). take max xs) (sym (ready_is streams)))

some_ready : (ids : List StreamId) → nat_lt 0 (length ids) ≡ not (is_none_ready (stream_numbers ids))
some_ready [] = refl
some_ready (id ∷ ids) = less_test 0 (length (id ∷ ids)) (omega arith)

pub has_ready_is : (streams : List Stream) (count : ℕ) → count ≡ length (ready_ids streams) → nat_lt 0 count ≡ not (is_none_ready (map (λ stream. stream.id) (filter is_ready streams)))
has_ready_is streams count is = ap (λ (n : ℕ). nat_lt 0 n) is ∙ (some_ready (ready_ids streams) ∙ ap (λ (xs : List ℕ). not (is_none_ready xs)) (sym (ready_is streams)))
