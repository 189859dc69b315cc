-- Streams in blocks of their own.
use Rattle.std.proofs.Common.{◌≡◌, ℕ, zero, suc, ◌<◌, Bool, ◌||◌, List, [], ◌∷◌, length, get_or, set, refl, ap, ◌∙◌, arith}
use Rattle.std.proofs.lemmas.List.{map-set}
use Rattle.std.specs.List.{insert, list_any}
use Rattle.std.specs.declared.boxed.Box.{Box}
use Rattle.std.specs.declared.alloc.Global.{Global}
use Rattle.dcsctp_api.specs.types.queues.SendStreams.{Stream}
use Rattle.dcsctp_send_queue.specs.Boxes.{in_boxes}

abbrev pub Boxed : Type 0
Boxed = Box Stream Global

-- a stream changes
pub boxes-set : (boxes : List Boxed) (p : ℕ) (b : Boxed) → in_boxes (set boxes p b) ≡ set (in_boxes boxes) p b.value
boxes-set boxes p b = map-set (λ (it : Boxed). it.value) boxes p b

-- a stream that is read
boxes-at : (boxes : List Boxed) (p : ℕ) (b : Boxed) → p < length (in_boxes boxes) → b ≡ get_or boxes p b → b.value ≡ get_or (in_boxes boxes) p b.value
boxes-at [] p b lt is = absurd (omega arith)
boxes-at (x ∷ xs) zero b lt is = ap (λ (it : Boxed). it.value) is
boxes-at (x ∷ xs) (suc p) b lt is = boxes-at xs p b (omega arith) is

-- a stream that is lent
pub lent_at : (boxes : List Boxed) (streams : List Stream) (p : ℕ) (b : Boxed) (s : Stream) → in_boxes boxes ≡ streams → p < length streams → b ≡ get_or boxes p b → s ≡ b.value
    → s ≡ get_or streams p s
lent_at boxes streams p b s are lt is value =
    let inside : p < length (in_boxes boxes) = rw are lt in
    rw (value, ← are) (boxes-at boxes p b inside is)

-- a block is put in
boxes-insert : (boxes : List Boxed) (p : ℕ) (b : Boxed) → in_boxes (insert boxes p b) ≡ insert (in_boxes boxes) p b.value
boxes-insert [] zero b = refl
boxes-insert [] (suc p) b = refl
boxes-insert (x ∷ xs) zero b = refl
boxes-insert (x ∷ xs) (suc p) b = ap (λ streams. x.value ∷ streams) (boxes-insert xs p b)

-- a stream is put in, in its block
pub put_in : (boxes after : List Boxed) (streams : List Stream) (p : ℕ) (b : Boxed) (s : Stream) → in_boxes boxes ≡ streams → after ≡ insert boxes p b → b.value ≡ s
    → in_boxes after ≡ insert streams p s
put_in boxes after streams p b s are is value = rw is (boxes-insert boxes p b ∙ rw (are, value) refl)

-- a test of all
boxes-any : (test : Stream → Bool) (boxes : List Boxed) → list_any (λ (it : Boxed). test it.value) boxes ≡ list_any test (in_boxes boxes)
boxes-any test [] = refl
boxes-any test (x ∷ xs) = ap (λ b. test x.value || b) (boxes-any test xs)

-- a test of all that is made block by block
pub any_in_boxes : (test : Stream → Bool) (boxes : List Boxed) (streams : List Stream) (found : Bool) → in_boxes boxes ≡ streams → found ≡ list_any (λ (it : Boxed). test it.value) boxes
    → found ≡ list_any test streams
any_in_boxes test boxes streams found are is = is ∙ boxes-any test boxes ∙ ap (list_any test) are
