-- What is true of each stream, where one stream changes: its messages have bytes, and the one under way can continue.
use Rattle.std.proofs.Common.{◌≡◌, ℕ, zero, suc, ◌<◌, ◌≤◌, List, [], ◌∷◌, length, get_or, set, subst, sym, arith}
use Rattle.std.specs.List.{insert, AllByRecursion}
use Rattle.dcsctp_api.specs.types.queues.SendStreams.{Waiting, Stream}
use Rattle.dcsctp_api.specs.spec.queues.SendQueue.{HaveBytes, CanGoOn}

-- a stream is put in the place of another
all_set : (P : Stream → Type 0) (streams : List Stream) (p : ℕ) (s : Stream) → AllByRecursion P streams → P s → AllByRecursion P (set streams p s)
all_set P [] p s all one = tt
all_set P (x ∷ xs) zero s all one = (one, all.1)
all_set P (x ∷ xs) (suc p) s all one = (all.0, all_set P xs p s all.1 one)

pub bytes_set : (streams : List Stream) (p : ℕ) (s : Stream) → AllByRecursion HaveBytes streams → HaveBytes s → AllByRecursion HaveBytes (set streams p s)
bytes_set streams p s all one = all_set HaveBytes streams p s all one

pub can_set : (streams : List Stream) (p : ℕ) (s : Stream) → AllByRecursion CanGoOn streams → CanGoOn s → AllByRecursion CanGoOn (set streams p s)
can_set streams p s all one = all_set CanGoOn streams p s all one

all_at : (P : Stream → Type 0) (streams : List Stream) (p : ℕ) (x : Stream) → AllByRecursion P streams → p < length streams → x ≡ get_or streams p x → P x
all_at P [] p x all lt is = absurd (omega arith)
all_at P (y ∷ ys) zero x all lt is = subst P (sym is) all.0
all_at P (y ∷ ys) (suc p) x all lt is = all_at P ys p x all.1 (omega arith) is

-- a stream that was read changes, and keeps its messages
pub bytes_same : (streams : List Stream) (p : ℕ) (x s : Stream) → AllByRecursion HaveBytes streams → p < length streams → x ≡ get_or streams p x → s.messages ≡ x.messages
    → AllByRecursion HaveBytes (set streams p s)
bytes_same streams p x s all lt is same =
    let P : List Waiting → Type 0 = λ messages. AllByRecursion (λ (message : Waiting). 0 < length message.payload) messages in
    bytes_set streams p s all (subst P (sym same) (all_at HaveBytes streams p x all lt is))

can_kept : (x s : Stream) → s.id ≡ x.id → s.messages ≡ x.messages → s.under_way ≡ x.under_way → CanGoOn x → CanGoOn s
can_kept x s id messages under_way can = rw (id, messages, under_way) can

-- a stream that was read changes, and keeps its number, its messages and how far the oldest has come
pub can_same : (streams : List Stream) (p : ℕ) (x s : Stream) → AllByRecursion CanGoOn streams → p < length streams → x ≡ get_or streams p x → s.id ≡ x.id → s.messages ≡ x.messages
    → s.under_way ≡ x.under_way → AllByRecursion CanGoOn (set streams p s)
can_same streams p x s all lt is id messages under_way = can_set streams p s all (can_kept x s id messages under_way (all_at CanGoOn streams p x all lt is))

-- a stream is put in
all_insert : (P : Stream → Type 0) (streams : List Stream) (p : ℕ) (s : Stream) → AllByRecursion P streams → P s → p ≤ length streams → AllByRecursion P (insert streams p s)
all_insert P [] zero s all one le = (one, tt)
all_insert P [] (suc p) s all one le = absurd (omega arith)
all_insert P (x ∷ xs) zero s all one le = (one, all)
all_insert P (x ∷ xs) (suc p) s all one le = (all.0, all_insert P xs p s all.1 one (omega arith))

pub bytes_insert : (streams : List Stream) (p : ℕ) (s : Stream) → AllByRecursion HaveBytes streams → HaveBytes s → p ≤ length streams → AllByRecursion HaveBytes (insert streams p s)
bytes_insert streams p s all one le = all_insert HaveBytes streams p s all one le

pub can_insert : (streams : List Stream) (p : ℕ) (s : Stream) → AllByRecursion CanGoOn streams → CanGoOn s → p ≤ length streams → AllByRecursion CanGoOn (insert streams p s)
can_insert streams p s all one le = all_insert CanGoOn streams p s all one le
