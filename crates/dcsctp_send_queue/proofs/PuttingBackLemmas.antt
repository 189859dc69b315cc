-- Messages under way that are put back, one after another.
use Rattle.std.proofs.Common.{◌≡◌, ◌∙◌, ◌<◌, ◌≤◌, ◌+◌, ◌-◌, ◌^◌, ℕ, zero, suc, min, None, List, [], ◌∷◌, length, set, take, refl, sym, ap, arith}
use Rattle.std.proofs.lemmas.List.Sums.{sum_by-cons}
use Rattle.dcsctp_api.specs.spec.queues.SendQueue.{SendQueueState, under_way_size, put_back}
use Rattle.dcsctp_api.specs.types.queues.SendStreams.{Stream, progress_size, stream_put_back, stream_at}
use Rattle.dcsctp_send_queue.proofs.Mapped.{mapped_to, mapped_to-none, mapped_to-all, mapped_to-step}

abbrev size_of : Stream → ℕ
size_of stream = progress_size stream.under_way

size_suc : (k : ℕ) (streams : List Stream) → k < length streams → under_way_size (take (suc k) streams) ≡ under_way_size (take k streams) + size_of (stream_at streams k)
size_suc k [] lt = absurd (omega arith)
size_suc zero (x ∷ xs) lt = let e = sum_by-cons size_of x [] in omega (arith, e)
size_suc (suc k) (x ∷ xs) lt =
    let more = sum_by-cons size_of x (take (suc k) xs) in
    let less = sum_by-cons size_of x (take k xs) in
    let ih = size_suc k xs (omega arith) in
    omega (arith, more, less, ih)

-- how many bytes were sent of so many of the streams
abbrev pub size_to : ℕ → List Stream → ℕ
size_to k streams = under_way_size (take k streams)

-- of none
pub size_none : (streams : List Stream) → 0 ≡ min (size_to 0 streams) (2 ^ 64 - 1)
size_none [] = refl
size_none (x ∷ xs) = refl

size_step : (k j : ℕ) (streams : List Stream) → j ≡ k + 1 → k < length streams → size_to j streams ≡ size_to k streams + size_of (stream_at streams k)
size_step k j streams e lt = let is : suc k ≡ j = omega arith in ap (λ n. size_to n streams) (sym is) ∙ size_suc k streams lt

unchanged_at : (k : ℕ) (f : Stream → Stream) (streams : List Stream) → k < length streams → stream_at (mapped_to k f streams) k ≡ stream_at streams k
unchanged_at k f [] lt = absurd (omega arith)
unchanged_at zero f (x ∷ xs) lt = refl
unchanged_at (suc k) f (x ∷ xs) lt = unchanged_at k f xs (omega arith)

-- the queue once so many of the streams are done, but for the total amount
abbrev pub put_back_to : ℕ → SendQueueState → SendQueueState
put_back_to k queue = record queue { streams = mapped_to k stream_put_back queue.streams }

pub put_back_none : (queue : SendQueueState) → queue ≡ put_back_to 0 queue
put_back_none queue = ap {A = List Stream} (λ (s : List Stream). record queue { streams = s }) (sym (mapped_to-none stream_put_back queue.streams))

-- one more
pub put_back_step : (old now : SendQueueState) (k j : ℕ) (streams : List Stream) → now ≡ put_back_to k old → streams ≡ set now.streams k (stream_put_back (stream_at now.streams k)) → j ≡ k + 1
    → k < length old.streams → record now { streams = streams } ≡ put_back_to j old
put_back_step old now k j streams is they e lt =
    let same = they ∙ (ap (λ (q : SendQueueState). set q.streams k (stream_put_back (stream_at q.streams k))) is ∙ mapped_to-step k j stream_put_back old.streams e lt) in
    ap {A = List Stream} (λ (s : List Stream). record now { streams = s }) same ∙ ap {A = SendQueueState} (λ (q : SendQueueState). record q { streams = mapped_to j stream_put_back old.streams }) is

-- how many bytes were sent of them
pub sent_step : (old now : SendQueueState) (k j more sent after : ℕ) → now ≡ put_back_to k old → more ≡ progress_size (stream_at now.streams k).under_way
    → sent ≡ min (size_to k old.streams) (2 ^ 64 - 1) → after ≡ min (sent + more) (2 ^ 64 - 1) → j ≡ k + 1 → k < length old.streams
    → after ≡ min (size_to j old.streams) (2 ^ 64 - 1)
sent_step old now k j more sent after is was before sum e lt =
    let at = ap (λ (q : SendQueueState). size_of (stream_at q.streams k)) is ∙ ap (λ (s : Stream). size_of s) (unchanged_at k stream_put_back old.streams lt) in
    let one = size_step k j old.streams e lt in
    omega (arith, at, before, one, was, sum)

all_taken : (k : ℕ) (streams : List Stream) → length streams ≤ k → take k streams ≡ streams
all_taken zero [] le = refl
all_taken (suc k) [] le = refl
all_taken zero (x ∷ xs) le = absurd (omega arith)
all_taken (suc k) (x ∷ xs) le = ap (λ ts. x ∷ ts) (all_taken k xs (omega arith))

-- all
pub put_back_all : (queue now : SendQueueState) (k sent total : ℕ) → now ≡ put_back_to k queue → sent ≡ min (size_to k queue.streams) (2 ^ 64 - 1) → total ≡ min (now.total_amount + sent) (2 ^ 64 - 1)
    → length queue.streams ≤ k → record now { total_amount = total; held = None; reserved = 0 } ≡ put_back queue
put_back_all queue now k sent total is were sum le =
    let taken = ap under_way_size (all_taken k queue.streams le) in
    let mapped = mapped_to-all k stream_put_back queue.streams le in
    let before = ap (λ (q : SendQueueState). q.total_amount) is in
    let all : total ≡ min (queue.total_amount + under_way_size queue.streams) (2 ^ 64 - 1) = omega (arith, taken, before, were, sum) in
    ap {A = ℕ} (λ (n : ℕ). record now { total_amount = n; held = None; reserved = 0 }) all
    ∙ (ap {A = SendQueueState} (λ (q : SendQueueState). record q { total_amount = min (queue.total_amount + under_way_size queue.streams) (2 ^ 64 - 1); held = None; reserved = 0 }) is
    ∙ ap {A = List Stream} (λ (s : List Stream). record queue { streams = s; total_amount = min (queue.total_amount + under_way_size queue.streams) (2 ^ 64 - 1); held = None; reserved = 0 }) mapped)
