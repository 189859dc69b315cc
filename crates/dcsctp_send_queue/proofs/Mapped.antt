-- Streams that are changed one after another.
use Rattle.std.proofs.Common.{◌≡◌, ℕ, zero, suc, ◌+◌, ◌<◌, ◌≤◌, List, [], ◌∷◌, length, set, map, refl, ap, ◌∙◌, arith}
use Rattle.dcsctp_api.specs.types.queues.SendStreams.{Stream, stream_at}

-- so many of the streams are changed
abbrev pub mapped_to : ℕ → (Stream → Stream) → List Stream → List Stream
mapped_to k f [] = []
mapped_to zero f (x ∷ xs) = x ∷ xs
mapped_to (suc k) f (x ∷ xs) = f x ∷ mapped_to k f xs

pub length-mapped_to : (k : ℕ) (f : Stream → Stream) (streams : List Stream) → length (mapped_to k f streams) ≡ length streams
length-mapped_to k f [] = refl
length-mapped_to zero f (x ∷ xs) = refl
length-mapped_to (suc k) f (x ∷ xs) = let e = length-mapped_to k f xs in omega (arith, e)

-- one more is changed
pub mapped_to-set : (k : ℕ) (f : Stream → Stream) (streams : List Stream) → k < length streams → set (mapped_to k f streams) k (f (stream_at (mapped_to k f streams) k)) ≡ mapped_to (suc k) f streams
mapped_to-set k f [] lt = absurd (omega arith)
mapped_to-set zero f (x ∷ []) lt = refl
mapped_to-set zero f (x ∷ (y ∷ ys)) lt = refl
mapped_to-set (suc k) f (x ∷ xs) lt = ap (λ ts. f x ∷ ts) (mapped_to-set k f xs (omega arith))

-- all are changed
pub mapped_to-all : (k : ℕ) (f : Stream → Stream) (streams : List Stream) → length streams ≤ k → mapped_to k f streams ≡ map f streams
mapped_to-all k f [] le = refl
mapped_to-all zero f (x ∷ xs) le = absurd (omega arith)
mapped_to-all (suc k) f (x ∷ xs) le = ap (λ ts. f x ∷ ts) (mapped_to-all k f xs (omega arith))

pub mapped_to-none : (f : Stream → Stream) (streams : List Stream) → mapped_to 0 f streams ≡ streams
mapped_to-none f [] = refl
mapped_to-none f (x ∷ xs) = refl

-- the same, by a number that is one more
pub mapped_to-step : (k j : ℕ) (f : Stream → Stream) (streams : List Stream) → j ≡ k + 1 → k < length streams → set (mapped_to k f streams) k (f (stream_at (mapped_to k f streams) k)) ≡ mapped_to j f streams
mapped_to-step k j f streams e lt = let is : suc k ≡ j = omega arith in mapped_to-set k f streams lt ∙ ap (λ n. mapped_to n f streams) is
