-- How much waits.
use Rattle.std.proofs.Common.{◌≡◌, ◌≢◌, ◌==◌, ℕ, zero, suc, Bool, true, false, ◌<◌, ◌+◌, ◌≤◌, List, [], ◌∷◌, ◌++◌, length, take, drop, refl, sym, ◌∙◌, ap, arith, inl, inr}
use Rattle.std.specs.Prelude.{◌⊎◌, Some, nat_lt, slice_set, sum_by, if◌then◌else◌}
use Rattle.std.proofs.lemmas.Bool.Decides.{eqb_tells}
use Rattle.std.proofs.lemmas.List.Sums.{sum_by-cons}
use Rattle.dcsctp_spec.specs.types.queues.SendStreams.{Waiting, Stream, front_of, without_front, stream_at, with_message}
use Rattle.dcsctp_spec.specs.queues.OwnResets.{prepared_stream}
use Rattle.dcsctp_spec.specs.queues.SendQueue.{stream_changed, with_stream}
use Rattle.dcsctp_delivery_directions.specs.sending.Weights.{weigh, weight}

pub weight_same : (old new : List Stream) → length new ≡ length old → ((q : ℕ) → (stream_at new q).messages ≡ (stream_at old q).messages) → weight new ≡ weight old
weight_same [] [] sizes same = refl
weight_same [] (t ∷ new) sizes same = absurd (omega arith)
weight_same (s ∷ old) [] sizes same = absurd (omega arith)
weight_same (s ∷ old) (t ∷ new) sizes same =
    let first : weigh t.messages ≡ weigh s.messages = ap weigh (same 0) in
    let rest : weight new ≡ weight old = weight_same old new (omega (arith, sizes)) (λ q. same (suc q)) in
    omega (arith, first, rest)

pub weigh_drop : (messages : List Waiting) → weigh (drop 1 messages) ≤ weigh messages
weigh_drop [] = omega arith
weigh_drop (w ∷ messages) = omega arith

weigh_less : (old new : List Waiting) → (new ≡ old) ⊎ (new ≡ drop 1 old) → weigh new ≤ weigh old
weigh_less old new is =
    elim is [
      | inl e ↦ (let same : weigh new ≡ weigh old = ap weigh e in omega (arith, same))
      | inr e ↦ (let same : weigh new ≡ weigh (drop 1 old) = ap weigh e in omega (arith, same, weigh_drop old))
    ]

pub weight_less : (old new : List Stream) → length new ≡ length old → ((q : ℕ) → ((stream_at new q).messages ≡ (stream_at old q).messages) ⊎ ((stream_at new q).messages ≡ drop 1 (stream_at old q).messages))
    → weight new ≤ weight old
weight_less [] [] sizes less = omega arith
weight_less [] (t ∷ new) sizes less = absurd (omega arith)
weight_less (s ∷ old) [] sizes less = absurd (omega arith)
weight_less (s ∷ old) (t ∷ new) sizes less =
    let first : weigh t.messages ≤ weigh s.messages = weigh_less s.messages t.messages (less 0) in
    let rest : weight new ≤ weight old = weight_less old new (omega (arith, sizes)) (λ q. less (suc q)) in
    omega (arith, first, rest)

-- the oldest message leaves
pub front_weighs : (messages : List Waiting) (w : Waiting) → front_of messages ≡ Some w → weigh (drop 1 messages) + suc (length w.payload) ≡ weigh messages
front_weighs [] w e = absurd (cc)
front_weighs (v ∷ messages) w e =
    let same : v ≡ w = cc in
    let long : length v.payload ≡ length w.payload = ap (λ (x : Waiting). length x.payload) same in
    omega (arith, long)

pub weight_front : (streams : List Stream) (place : ℕ) (w : Waiting) → front_of (stream_at streams place).messages ≡ Some w
    → weight (slice_set streams place (without_front (stream_at streams place))) + suc (length w.payload) ≡ weight streams
weight_front [] zero w e = absurd (cc)
weight_front [] (suc place) w e = absurd (cc)
weight_front (s ∷ streams) zero w e = let first = front_weighs s.messages w e in omega (arith, first)
weight_front (s ∷ streams) (suc place) w e = let rest = weight_front streams place w e in omega (arith, rest)

-- a stream without messages
pub weight_inserted : (s : Stream) (streams : List Stream) → s.messages ≡ [] → weight (with_stream s streams) ≡ weight streams
weight_inserted s [] none = (let light : weigh s.messages ≡ 0 = ap weigh none in omega (arith, light))
weight_inserted s (first ∷ streams) none = go (nat_lt first.id s.id) (weight_inserted s streams none)
  where
    go : (b : Bool) → weight (with_stream s streams) ≡ weight streams → weight (if b then first ∷ with_stream s streams else s ∷ first ∷ streams) ≡ weight (first ∷ streams)
    go true rest = omega (arith, rest)
    go false rest = (let light : weigh s.messages ≡ 0 = ap weigh none in omega (arith, light))

-- one message more
weigh_append : (messages : List Waiting) (m : Waiting) → weigh (messages ++ m ∷ []) ≡ weigh messages + suc (length m.payload)
weigh_append [] m = omega arith
weigh_append (w ∷ messages) m = (let rest = weigh_append messages m in omega (arith, rest))

none_changed : (id : ℕ) (m : Waiting) (l : List Stream) → ((q : ℕ) → q < length l → (stream_at l q).id ≢ id) → weight (stream_changed id (with_message m) l) ≡ weight l
none_changed id m [] none = refl
none_changed id m (s ∷ l) none = go (s.id == id) (elim (eqb_tells s.id id) [ inl e ↦ absurd (none 0 (omega arith) e.1) | inr e ↦ e.0 ]) (none_changed id m l (λ q below. none (suc q) (omega (arith, below))))
  where
    go : (b : Bool) → b ≡ false → weight (stream_changed id (with_message m) l) ≡ weight l → weigh (if b then with_message m s else s).messages + weight (stream_changed id (with_message m) l) ≡ weigh s.messages + weight l
    go true e rest = absurd (cc)
    go false e rest = omega (arith, rest)

pub weight_added : (id : ℕ) (m : Waiting) (l : List Stream) → ((p q : ℕ) → p < length l → q < length l → (stream_at l p).id ≡ (stream_at l q).id → p ≡ q)
    → weight (stream_changed id (with_message m) l) ≤ weight l + suc (length m.payload)
weight_added id m [] distinct = omega arith
weight_added id m (s ∷ l) distinct =
    elim (eqb_tells s.id id) [
      | inl e ↦ here (s.id == id) e.1
      | inr e ↦
          there (s.id == id) e.0
          (weight_added id m l (λ p q below below' same. (let up : suc p ≡ suc q = distinct (suc p) (suc q) (omega (arith, below)) (omega (arith, below')) same in omega (arith, up))))
    ]
  where
    here : (b : Bool) → s.id ≡ id → weigh (if b then with_message m s else s).messages + weight (stream_changed id (with_message m) l) ≤ weigh s.messages + weight l + suc (length m.payload)
    here b is =
        let rest : weight (stream_changed id (with_message m) l) ≡ weight l =
        none_changed id m l (λ q below same. (let clash : 0 ≡ suc q = distinct 0 (suc q) (omega arith) (omega (arith, below)) (is ∙ sym same) in absurd (omega (arith, clash)))) in
        first b rest
      where
        first : (b : Bool) → weight (stream_changed id (with_message m) l) ≡ weight l → weigh (if b then with_message m s else s).messages + weight (stream_changed id (with_message m) l) ≤ weigh s.messages + weight l + suc (length m.payload)
        first true rest = (let one = weigh_append s.messages m in omega (arith, one, rest))
        first false rest = omega (arith, rest)

    there : (b : Bool) → b ≡ false → weight (stream_changed id (with_message m) l) ≤ weight l + suc (length m.payload) → weigh (if b then with_message m s else s).messages + weight (stream_changed id (with_message m) l) ≤ weigh s.messages + weight l + suc (length m.payload)
    there true e rest = absurd (cc)
    there false e rest = omega (arith, rest)

-- some messages fewer
weigh_take : (k : ℕ) (messages : List Waiting) → weigh (take k messages) ≤ weigh messages
weigh_take zero messages = omega arith
weigh_take (suc k) [] = omega arith
weigh_take (suc k) (w ∷ messages) = (let rest = weigh_take k messages in omega (arith, rest))

pub weight_prepared : (id size kept : ℕ) (l : List Stream) → weight (stream_changed id (prepared_stream size kept) l) ≤ weight l
weight_prepared id size kept [] = omega arith
weight_prepared id size kept (s ∷ l) = go (s.id == id) (weight_prepared id size kept l)
  where
    go : (b : Bool) → weight (stream_changed id (prepared_stream size kept) l) ≤ weight l → weigh (if b then prepared_stream size kept s else s).messages + weight (stream_changed id (prepared_stream size kept) l) ≤ weigh s.messages + weight l
    go true rest = (let first = weigh_take kept s.messages in omega (arith, rest, first))
    go false rest = omega (arith, rest)

-- ---- one stream changes

sum_same : (f : Stream → ℕ) (old new : List Stream) → length new ≡ length old → ((q : ℕ) → stream_at new q ≡ stream_at old q) → sum_by f new ≡ sum_by f old
sum_same f [] [] sizes same = refl
sum_same f [] (t ∷ new) sizes same = absurd (omega arith)
sum_same f (s ∷ old) [] sizes same = absurd (omega arith)
sum_same f (s ∷ old) (t ∷ new) sizes same =
    let first : f t ≡ f s = ap f (same 0) in
    let rest : sum_by f new ≡ sum_by f old = sum_same f old new (omega (arith, sizes)) (λ q. same (suc q)) in
    sum_by-cons f t new ∙ ap (λ (k : ℕ). k + sum_by f new) first ∙ ap (λ (k : ℕ). f s + k) rest ∙ sym (sum_by-cons f s old)

pub sum_changed : (f : Stream → ℕ) (place : ℕ) (old new : List Stream) → length new ≡ length old → place < length old → ((q : ℕ) → q ≢ place → stream_at new q ≡ stream_at old q)
    → sum_by f new + f (stream_at old place) ≡ sum_by f old + f (stream_at new place)
sum_changed f place [] new sizes within others = absurd (omega arith)
sum_changed f place (s ∷ old) [] sizes within others = absurd (omega arith)
sum_changed f zero (s ∷ old) (t ∷ new) sizes within others =
    let rest : sum_by f new ≡ sum_by f old = sum_same f old new (omega (arith, sizes)) (λ q. others (suc q) (λ is. absurd (omega (arith, is)))) in
    let a = sum_by-cons f t new in
    let b = sum_by-cons f s old in
    omega (arith, a, b, rest)
sum_changed f (suc place) (s ∷ old) (t ∷ new) sizes within others =
    let first : f t ≡ f s = ap f (others 0 (λ is. absurd (omega (arith, is)))) in
    let rest = sum_changed f place old new (omega (arith, sizes)) (omega (arith, within)) (λ q other. others (suc q) (λ is. other (omega (arith, is)))) in
    let a = sum_by-cons f t new in
    let b = sum_by-cons f s old in
    omega (arith, a, b, first, rest)

weight_sum : (l : List Stream) → weight l ≡ sum_by (λ (s : Stream). weigh s.messages) l
weight_sum [] = refl
weight_sum (s ∷ l) = ap (λ (k : ℕ). weigh s.messages + k) (weight_sum l) ∙ sym (sum_by-cons (λ (t : Stream). weigh t.messages) s l)

pub weight_changed : (place : ℕ) (old new : List Stream) → length new ≡ length old → place < length old → ((q : ℕ) → q ≢ place → stream_at new q ≡ stream_at old q)
    → weight new + weigh (stream_at old place).messages ≡ weight old + weigh (stream_at new place).messages
weight_changed place old new sizes within others =
    ap (λ (k : ℕ). k + weigh (stream_at old place).messages) (weight_sum new) ∙ sum_changed (λ (s : Stream). weigh s.messages) place old new sizes within others
    ∙ ap (λ (k : ℕ). k + weigh (stream_at new place).messages) (sym (weight_sum old))
