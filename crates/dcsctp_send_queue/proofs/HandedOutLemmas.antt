-- The streams that are handed out, one after another.
use Rattle.std.proofs.Common.{◌≡◌, ℕ, zero, suc, ◌<◌, Bool, true, false, if◌then◌else◌, is_some, Ok, Err, List, [], ◌∷◌, length, get_or, set, map, refl, sym, ap, ◌∙◌, arith}
use Rattle.dcsctp_api.specs.types.declared.ids.StreamId.{StreamId}
use Rattle.dcsctp_api.specs.types.declared.sending.Pause.{Pause}
use Rattle.dcsctp_api.specs.types.declared.sending.Pause.TheVariants.{Open, Pausing, HandedOut}
use Rattle.dcsctp_api.specs.types.queues.SendStreams.{Stream, committed_stream, rolled_back, stream_at, IsAscending}
use Rattle.dcsctp_send_queue.specs.Ranking.{IsFound}
use Rattle.dcsctp_send_queue.specs.Pausing.{is_pause_handed_out, pause_in_order, handed_out_ids}
use Rattle.dcsctp_send_queue.proofs.NextLemmas.{same_place, absent_at}
use Rattle.dcsctp_send_queue.proofs.PauseLemmas.{id_of}

in_order_by : (s : Stream) (pause : Pause) (b : Bool) → s.pause ≡ pause → is_some s.under_way ≡ b → is_pause_handed_out (pause_in_order s) ≡ is_pause_handed_out s.pause
in_order_by s Open b e f = rw e refl
in_order_by s Pausing false e f = rw (e, f) refl
in_order_by s Pausing true e f = rw (e, f) refl
in_order_by s HandedOut b e f = rw e refl

-- a message under way makes no difference to it
in_order : (s : Stream) → is_pause_handed_out (pause_in_order s) ≡ is_pause_handed_out s.pause
in_order s = in_order_by s s.pause (is_some s.under_way) refl refl

-- a stream of this number is handed out
pub record IsHandedOut (streams : List Stream) (id : StreamId) : Type 0 where
  pub place : ℕ
  pub within : place < length streams
  pub is : (stream_at streams place).id ≡ id.0
  pub out : is_pause_handed_out (stream_at streams place).pause ≡ true

later_out : (x : Stream) (xs : List Stream) (id : StreamId) → IsHandedOut xs id → IsHandedOut (x ∷ xs) id
later_out x xs id h = record { place = suc h.place; within = let w = h.within in omega (arith, w); is = h.is; out = h.out }

first_out_by : (x : Stream) (xs : List Stream) (id : StreamId) (b : Bool) → is_pause_handed_out (pause_in_order x) ≡ b
    → (0 < length (handed_out_ids xs) → id ≡ get_or (handed_out_ids xs) 0 id → IsHandedOut xs id)
    → 0 < length (if b then id_of x ∷ handed_out_ids xs else handed_out_ids xs) → id ≡ get_or (if b then id_of x ∷ handed_out_ids xs else handed_out_ids xs) 0 id → IsHandedOut (x ∷ xs) id
first_out_by x xs id true e ih some is = record { place = 0; within = omega arith; is = ap (λ (it : StreamId). it.0) (sym is); out = sym (in_order x) ∙ e }
first_out_by x xs id false e ih some is = later_out x xs id (ih some is)

-- the first of the numbers is one of a stream
pub first_out : (streams : List Stream) (id : StreamId) → 0 < length (handed_out_ids streams) → id ≡ get_or (handed_out_ids streams) 0 id → IsHandedOut streams id
first_out [] id some is = absurd (omega arith)
first_out (x ∷ xs) id some is = first_out_by x xs id (is_pause_handed_out (pause_in_order x)) refl (first_out xs id) some is

fewer_by : (x : StreamId) (ids less : List StreamId) (b : Bool) → length less < length ids → length (if b then x ∷ less else less) < length (if b then x ∷ ids else ids)
fewer_by x ids less true lt = omega (arith, lt)
fewer_by x ids less false lt = lt

-- one of them is handed out no longer
pub fewer_out : (streams : List Stream) (p : ℕ) (s : Stream) → p < length streams → is_pause_handed_out (stream_at streams p).pause ≡ true → is_pause_handed_out s.pause ≡ false
    → length (handed_out_ids (set streams p s)) < length (handed_out_ids streams)
fewer_out [] p s lt was is = absurd (omega arith)
fewer_out (x ∷ xs) zero s lt was is = rw (in_order x, in_order s, was, is) (omega arith)
fewer_out (x ∷ xs) (suc p) s lt was is = fewer_by (id_of x) (handed_out_ids xs) (handed_out_ids (set xs p s)) (is_pause_handed_out (pause_in_order x)) (fewer_out xs p s (omega arith) was is)

-- A change that makes none if it is made again.
pub map_set : (f : Stream → Stream) (streams : List Stream) (p : ℕ) → ((s : Stream) → f (f s) ≡ f s) → map f (set streams p (f (stream_at streams p))) ≡ map f streams
map_set f [] p again = refl
map_set f (x ∷ xs) zero again = ap (λ y. y ∷ map f xs) (again x)
map_set f (x ∷ xs) (suc p) again = ap (λ ts. f x ∷ ts) (map_set f xs p again)

none_out_by : (f : Stream → Stream) (x : Stream) (xs : List Stream) (b : Bool) → is_pause_handed_out (pause_in_order x) ≡ b → ((s : Stream) → is_pause_handed_out s.pause ≡ false → f s ≡ s)
    → (handed_out_ids xs ≡ [] → map f xs ≡ xs) → (if b then id_of x ∷ handed_out_ids xs else handed_out_ids xs) ≡ [] → map f (x ∷ xs) ≡ x ∷ xs
none_out_by f x xs true e kept ih none = absurd (cc)
none_out_by f x xs false e kept ih none = ap (λ y. y ∷ map f xs) (kept x (sym (in_order x) ∙ e)) ∙ ap (λ ts. x ∷ ts) (ih none)

-- where none is handed out, a change of such streams makes none
pub none_out : (f : Stream → Stream) (streams : List Stream) → ((s : Stream) → is_pause_handed_out s.pause ≡ false → f s ≡ s) → handed_out_ids streams ≡ [] → map f streams ≡ streams
none_out f [] kept none = refl
none_out f (x ∷ xs) kept none = none_out_by f x xs (is_pause_handed_out (pause_in_order x)) refl kept (none_out f xs kept) none

committed_again_if : (pause : Pause) (s : Stream) → s.pause ≡ pause → committed_stream (committed_stream s) ≡ committed_stream s
committed_again_if Open s e = rw e refl
committed_again_if Pausing s e = rw e refl
committed_again_if HandedOut s e = rw e refl

pub committed_stream-again : (s : Stream) → committed_stream (committed_stream s) ≡ committed_stream s
committed_stream-again s = committed_again_if s.pause s refl

committed_kept_if : (pause : Pause) (s : Stream) → s.pause ≡ pause → is_pause_handed_out pause ≡ false → committed_stream s ≡ s
committed_kept_if Open s e not = rw e refl
committed_kept_if Pausing s e not = rw e refl
committed_kept_if HandedOut s e not = absurd (cc)

pub committed_stream-kept : (s : Stream) → is_pause_handed_out s.pause ≡ false → committed_stream s ≡ s
committed_stream-kept s not = committed_kept_if s.pause s refl not

committed_out_if : (pause : Pause) (s : Stream) → s.pause ≡ pause → is_pause_handed_out (committed_stream s).pause ≡ false
committed_out_if Open s e = rw e refl
committed_out_if Pausing s e = rw e refl
committed_out_if HandedOut s e = rw e refl

pub committed_stream-out : (s : Stream) → is_pause_handed_out (committed_stream s).pause ≡ false
committed_stream-out s = committed_out_if s.pause s refl

rolled_again_if : (pause : Pause) (s : Stream) → s.pause ≡ pause → rolled_back (rolled_back s) ≡ rolled_back s
rolled_again_if Open s e = rw e refl
rolled_again_if Pausing s e = rw e refl
rolled_again_if HandedOut s e = rw e refl

pub rolled_back-again : (s : Stream) → rolled_back (rolled_back s) ≡ rolled_back s
rolled_back-again s = rolled_again_if s.pause s refl

rolled_kept_if : (pause : Pause) (s : Stream) → s.pause ≡ pause → is_pause_handed_out pause ≡ false → rolled_back s ≡ s
rolled_kept_if Open s e not = rw e refl
rolled_kept_if Pausing s e not = rw e refl
rolled_kept_if HandedOut s e not = absurd (cc)

pub rolled_back-kept : (s : Stream) → is_pause_handed_out s.pause ≡ false → rolled_back s ≡ s
rolled_back-kept s not = rolled_kept_if s.pause s refl not

rolled_out_if : (pause : Pause) (s : Stream) → s.pause ≡ pause → is_pause_handed_out (rolled_back s).pause ≡ false
rolled_out_if Open s e = rw e refl
rolled_out_if Pausing s e = rw e refl
rolled_out_if HandedOut s e = rw e refl

pub rolled_back-out : (s : Stream) → is_pause_handed_out (rolled_back s).pause ≡ false
rolled_back-out s = rolled_out_if s.pause s refl

-- the stream that is found by the first of the numbers
pub found_out : (streams : List Stream) (p : ℕ) (id : StreamId) → IsAscending streams → 0 < length (handed_out_ids streams) → id ≡ get_or (handed_out_ids streams) 0 id → IsFound streams id.0 (Ok p)
    → is_pause_handed_out (stream_at streams p).pause ≡ true
found_out streams p id ascending some is found =
    let out = first_out streams id some is in
    let same = same_place streams out.place p ascending out.within found.0 (out.is ∙ sym found.1) in
    ap (λ k. is_pause_handed_out (stream_at streams k).pause) (sym same) ∙ out.out

pub not_lost_out : (streams : List Stream) (p : ℕ) (id : StreamId) → 0 < length (handed_out_ids streams) → id ≡ get_or (handed_out_ids streams) 0 id → IsFound streams id.0 (Err p) → ⊥
not_lost_out streams p id some is lost =
    let out = first_out streams id some is in
    absent_at streams id.0 p out.place lost out.within out.is
