-- How the MIDs of an association are counted.
use Rattle.std.proofs.Common.{◌≡◌, ◌==◌, ℕ, zero, Bool, true, false, ◌<◌, ◌≤◌, ◌+◌, ◌%◌, ◌^◌, List, [], ◌∷◌, length, refl, sym, ◌∙◌, ap, arith, subst, inl, inr, suc, ◌*◌, ◌-◌}
use Rattle.std.specs.Prelude.{◌⊎◌, Option, None, Some, is_some, if◌then◌else◌}
use Rattle.std.proofs.lemmas.Bool.Decides.{eqb_tells}
use Rattle.dcsctp_spec.specs.types.declared.ids.StreamId.{StreamId}
use Rattle.dcsctp_spec.specs.types.declared.sending.UnderWay.{UnderWay}
use Rattle.dcsctp_spec.specs.types.queues.SendStreams.{Waiting, Stream, front_of}
use Rattle.dcsctp_spec.specs.queues.SendQueue.{SendQueueState}
use Rattle.dcsctp_delivery_directions.specs.sending.Log.{History, new_history}
use Rattle.dcsctp_delivery_directions.specs.sending.Numbers.{stream_named, next_mid, IsLastBegun, LastIs, CountsMessages, CountsTurns, CountsByKind, AreOfKind, NumbersMessages, IsUnambiguous, plain, interleaved, IsBegunUnder}

-- ---- tables

-- a table with another entry for a stream's messages of one kind
set_kind : Bool → ℕ → (Bool → ℕ) → Bool → ℕ
set_kind true number table true = number
set_kind true number table false = table false
set_kind false number table true = table true
set_kind false number table false = number

pub set_both : ℕ → Bool → ℕ → (ℕ → Bool → ℕ) → ℕ → Bool → ℕ
set_both id kind number table other b = if other == id then set_kind kind number (table other) b else table other b

abbrev pub Other : ℕ → Bool → ℕ → Bool → Type 0
Other id kind other b = other ≡ id → b ≡ kind → ⊥

pub set_here : (id : ℕ) (kind : Bool) (number : ℕ) (table : ℕ → Bool → ℕ) → set_both id kind number table id kind ≡ number
unfolding set_both set_kind
set_here id kind number table = elim (eqb_tells id id) [ inl e ↦ rw e.0 (go kind) | inr e ↦ absurd (e.1 refl) ]
  where
    go : (b : Bool) → set_kind b number (table id) b ≡ number
    go true = refl
    go false = refl

pub set_elsewhere : (id : ℕ) (kind : Bool) (number : ℕ) (table : ℕ → Bool → ℕ) (other : ℕ) (b : Bool) → Other id kind other b → set_both id kind number table other b ≡ table other b
unfolding set_both set_kind
set_elsewhere id kind number table other b apart = elim (eqb_tells other id) [ inl e ↦ rw e.0 (go kind b (apart e.1)) | inr e ↦ rw e.0 refl ]
  where
    go : (k c : Bool) → (c ≡ k → ⊥) → set_kind k number (table other) c ≡ table other c
    go true true ne = absurd (ne refl)
    go true false ne = refl
    go false true ne = refl
    go false false ne = absurd (ne refl)

pub is_or_other : (id : ℕ) (kind : Bool) (other : ℕ) (b : Bool) → ((other ≡ id) × (b ≡ kind)) ⊎ Other id kind other b
is_or_other id kind other b = elim (eqb_tells other id) [ inl e ↦ go kind b e.1 | inr e ↦ inr (λ same same'. e.1 same) ]
  where
    go : (k c : Bool) → other ≡ id → ((other ≡ id) × (c ≡ k)) ⊎ (other ≡ id → c ≡ k → ⊥)
    go true true same = inl (same, refl)
    go false false same = inl (same, refl)
    go true false same = inr (λ x y. absurd (cc))
    go false true same = inr (λ x y. absurd (cc))

-- ---- an association begins

-- The messages of these streams are counted, from some floors.
pub record Begins (is_interleaved : Bool) (streams : List Stream) (held : Option StreamId) : Type 0 where
  pub floors : ℕ → Bool → ℕ
  pub counts : CountsByKind is_interleaved (new_history floors) streams held

-- The message under way on the stream has the last number of its kind.
pub record HasLastNumber (streams : List Stream) (id : ℕ) (under_way : UnderWay) : Type 0 where
  pub waiting : Waiting
  pub front : front_of (stream_named id streams).messages ≡ Some waiting
  pub next : next_mid waiting.is_unordered (stream_named id streams) % 2 ^ 32 ≡ (under_way.mid + 1) % 2 ^ 32

is_same : Bool → Bool → Bool
is_same true other = other
is_same false true = false
is_same false false = true

-- the floor of a stream's messages of one kind: the number of the message under way, if it is of this kind
floor_of : Option UnderWay → List Waiting → Bool → ℕ → ℕ
floor_of None messages kind next = next
floor_of (Some u) [] kind next = next
floor_of (Some u) (w ∷ messages) kind next = if is_same w.is_unordered kind then u.mid % 2 ^ 32 else next

-- how many have a number from there on
count_of : Option UnderWay → List Waiting → Bool → ℕ
count_of None messages kind = 0
count_of (Some u) [] kind = 0
count_of (Some u) (w ∷ messages) kind = if is_same w.is_unordered kind then 1 else 0

count_few : (u : Option UnderWay) (messages : List Waiting) (kind : Bool) → count_of u messages kind ≤ 1
unfolding count_of
count_few None messages kind = omega arith
count_few (Some u) [] kind = omega arith
count_few (Some u) (w ∷ messages) kind = go (is_same w.is_unordered kind)
  where
    go : (b : Bool) → (if b then 1 else 0) ≤ 1
    go true = omega arith
    go false = omega arith

-- a message that waits is the oldest
same_kind : (kind : Bool) → is_same kind kind ≡ true
unfolding is_same
same_kind true = refl
same_kind false = refl

floor_here : (u : UnderWay) (messages : List Waiting) (w : Waiting) (next : ℕ) → front_of messages ≡ Some w → floor_of (Some u) messages w.is_unordered next ≡ u.mid % 2 ^ 32
unfolding floor_of
floor_here u [] w next front = absurd (cc)
floor_here u (v ∷ messages) w next front =
    let same : v ≡ w = cc in
    subst (λ (x : Waiting). (if is_same v.is_unordered x.is_unordered then u.mid % 2 ^ 32 else next) ≡ u.mid % 2 ^ 32) same (rw (same_kind v.is_unordered) refl)

count_here : (u : UnderWay) (messages : List Waiting) (w : Waiting) → front_of messages ≡ Some w → count_of (Some u) messages w.is_unordered ≡ 1
unfolding count_of
count_here u [] w front = absurd (cc)
count_here u (v ∷ messages) w front =
    let same : v ≡ w = cc in
    subst (λ (x : Waiting). ◌≡◌ {A = ℕ} (if is_same v.is_unordered x.is_unordered then 1 else 0) 1) same (rw (same_kind v.is_unordered) refl)

-- the next number is the first after those that are counted
next_of : (u : UnderWay) (messages : List Waiting) (w : Waiting) (kind : Bool) (next : Bool → ℕ) → front_of messages ≡ Some w → next w.is_unordered % 2 ^ 32 ≡ (u.mid + 1) % 2 ^ 32
    → next kind % 2 ^ 32 ≡ (floor_of (Some u) messages kind (next kind % 2 ^ 32) + count_of (Some u) messages kind) % 2 ^ 32
unfolding floor_of count_of is_same
next_of u [] w kind next front is = absurd (cc)
next_of u (v ∷ messages) w kind next front is =
    let same : v ≡ w = cc in
    go v.is_unordered kind (subst (λ (x : Waiting). next x.is_unordered % 2 ^ 32 ≡ (u.mid + 1) % 2 ^ 32) (sym same) is)
  where
    go : (its kind : Bool) → next its % 2 ^ 32 ≡ (u.mid + 1) % 2 ^ 32 → next kind % 2 ^ 32 ≡ ((if is_same its kind then u.mid % 2 ^ 32 else next kind % 2 ^ 32) + (if is_same its kind then 1 else 0)) % 2 ^ 32
    go true true e = e ∙ omega arith
    go true false e = omega arith
    go false true e = omega arith
    go false false e = e ∙ omega arith

-- by how much the floor of unordered messages lies higher where an ordered one is under way
lift_of : Bool → ℕ → ℕ → ℕ
lift_of true zero floor = 0
lift_of true (suc count) floor = 2 ^ 32 * (floor + 1)
lift_of false count floor = 0

lift_whole : (b : Bool) (count floor : ℕ) → lift_of b count floor % 2 ^ 32 ≡ 0
unfolding lift_of
lift_whole true zero floor = omega arith
lift_whole true (suc count) floor = omega arith
lift_whole false count floor = omega arith

lift_none : (b : Bool) (count floor : ℕ) → (b ≡ true → count ≡ 0) → lift_of b count floor ≡ 0
unfolding lift_of
lift_none true zero floor none = refl
lift_none true (suc count) floor none = absurd (let no = none refl in omega (arith, no))
lift_none false count floor none = refl

below_lift : (count high low k : ℕ) → high + lift_of true count low < 2 ^ 32 * (low + lift_of false count low + 1) → k < count → ⊥
unfolding lift_of
below_lift zero high low k anew less = omega (arith, less)
below_lift (suc count) high low k anew less = omega (arith, anew)

-- an ordered message isn't counted where an unordered one is under way
count_apart : (u : UnderWay) (messages : List Waiting) (w : Waiting) → front_of messages ≡ Some w → w.is_unordered ≡ true → count_of (Some u) messages false ≡ 0
unfolding count_of is_same
count_apart u [] w front is = absurd (cc)
count_apart u (v ∷ messages) w front is = (let same : v ≡ w = cc in rw (ap (λ (x : Waiting). x.is_unordered) same ∙ is) refl)

-- each stream's message under way, if it has one, has the last number
pub counts_rest : (streams : List Stream) (held : Option StreamId) → ((id : ℕ) (u : UnderWay) → (stream_named id streams).under_way ≡ Some u → HasLastNumber streams id u) → Begins true streams held
unfolding floor_of count_of
counts_rest streams held each =
    record {
      floors = floors;
      counts = record {
        counts = counts;
        few = λ id b. (let few = count_few (stream_named id streams).under_way (stream_named id streams).messages b in omega (arith, few));
        next = λ id b. next id b (stream_named id streams).under_way refl;
        below = λ n f at. absurd (cc);
        apart = λ m n f g at at'. absurd (cc);
        going = λ id. going id (stream_named id streams).under_way refl;
        dense = λ id anew k less. absurd (below_lift (counts id false) (first id true) (first id false) k anew less);
      };
    }
  where
    first : ℕ → Bool → ℕ
    first id b = floor_of (stream_named id streams).under_way (stream_named id streams).messages b (next_mid b (stream_named id streams) % 2 ^ 32)

    floors : ℕ → Bool → ℕ
    floors id b = first id b + lift_of b (count_of (stream_named id streams).under_way (stream_named id streams).messages false) (first id false)

    counts : ℕ → Bool → ℕ
    counts id b = count_of (stream_named id streams).under_way (stream_named id streams).messages b

    next_from : (id : ℕ) (b : Bool) (u : Option UnderWay) → (stream_named id streams).under_way ≡ u → next_mid b (stream_named id streams) % 2 ^ 32 ≡ (first id b + counts id b) % 2 ^ 32
    next_from id b u is =
        subst (λ (v : Option UnderWay). next_mid b (stream_named id streams) % 2 ^ 32
        ≡ (floor_of v (stream_named id streams).messages b (next_mid b (stream_named id streams) % 2 ^ 32) + count_of v (stream_named id streams).messages b) % 2 ^ 32) (sym is) (go u is)
      where
        go : (v : Option UnderWay) → (stream_named id streams).under_way ≡ v
            → next_mid b (stream_named id streams) % 2 ^ 32 ≡ (floor_of v (stream_named id streams).messages b (next_mid b (stream_named id streams) % 2 ^ 32) + count_of v (stream_named id streams).messages b) % 2 ^ 32
        go None e = omega arith
        go (Some v) e = (let last = each id v e in next_of v (stream_named id streams).messages last.waiting b (λ kind. next_mid kind (stream_named id streams)) last.front last.next)

    next : (id : ℕ) (b : Bool) (u : Option UnderWay) → (stream_named id streams).under_way ≡ u → next_mid b (stream_named id streams) % 2 ^ 32 ≡ (floors id b + counts id b) % 2 ^ 32
    next id b u is = (let base = next_from id b u is in let lift = lift_whole b (counts id false) (first id false) in omega (arith, base, lift))

    going : (id : ℕ) (u : Option UnderWay) → (stream_named id streams).under_way ≡ u → LastIs (new_history floors) streams counts id u
    going id None is = tt
    going id (Some v) is =
        let last = each id v is in
        let lift : lift_of last.waiting.is_unordered (counts id false) (first id false) ≡ 0 =
        lift_none last.waiting.is_unordered (counts id false) (first id false)
        (λ unordered. ap (λ (u : Option UnderWay). count_of u (stream_named id streams).messages false) is ∙ count_apart v (stream_named id streams).messages last.waiting last.front unordered) in
        let at_first : first id last.waiting.is_unordered ≡ v.mid % 2 ^ 32 =
        ap (λ (u : Option UnderWay). floor_of u (stream_named id streams).messages last.waiting.is_unordered (next_mid last.waiting.is_unordered (stream_named id streams) % 2 ^ 32)) is
        ∙ floor_here v (stream_named id streams).messages last.waiting (next_mid last.waiting.is_unordered (stream_named id streams) % 2 ^ 32) last.front in
        let floor : floors id last.waiting.is_unordered ≡ v.mid % 2 ^ 32 = omega (arith, at_first, lift) in
        let count : counts id last.waiting.is_unordered ≡ 1 =
        ap (λ (u : Option UnderWay). count_of u (stream_named id streams).messages last.waiting.is_unordered) is ∙ count_here v (stream_named id streams).messages last.waiting last.front in
        record {
          waiting = last.waiting;
          front = last.front;
          mid = v.mid % 2 ^ 32;
          is = omega arith;
          from = omega (arith, floor);
          last = omega (arith, floor, count);
          came = λ f e. absurd (cc);
        }

-- this holds for what waits, and for what an earlier association left under way
pub counts_anew : (history : History) (streams : List Stream) (held : Option StreamId) → CountsMessages history streams → Begins true streams held
counts_anew history streams held counts =
    counts_rest streams held
    (λ id u is. (
    let last : IsLastBegun history streams counts.counts id u = subst (λ (v : Option UnderWay). LastIs history streams counts.counts id v) is (counts.going id) in
    let next = counts.next id last.waiting.is_unordered in
    let ends = last.last in
    let number = last.is in
    record { waiting = last.waiting; front = last.front; next = omega (arith, next, ends, number) }
    ))

-- no message is under way
pub counts_idle : (streams : List Stream) (held : Option StreamId) → ((id : ℕ) → (stream_named id streams).under_way ≡ None) → Begins true streams held
counts_idle streams held idle = counts_rest streams held (λ id u is. absurd (let clash : None ≡ Some u = sym (idle id) ∙ is in cc))

-- without interleaving the SSNs continue; the rest of a message, if one is under way, isn't counted
pub ssns_anew : (streams : List Stream) (held : Option StreamId) → Begins false streams held
ssns_anew streams held =
    record {
      floors = λ id b. if is_some (stream_named id streams).under_way then 1 else (stream_named id streams).next_ssn;
      counts = record {
        turns = λ id start. turns id (is_some (stream_named id streams).under_way) refl start.floor;
        closes = λ n f g at. absurd (cc);
        rests = λ idle f at. absurd (cc);
      };
    }
  where
    turns : (id : ℕ) (b : Bool) → is_some (stream_named id streams).under_way ≡ b → (if b then 1 else (stream_named id streams).next_ssn) ≡ 0 → CountsTurns id [] streams
    turns id true some floor = absurd (omega (arith, floor))
    turns id false none floor =
        record {
          next = ap (λ (k : ℕ). k % 2 ^ 16) floor;
          sent = λ n f at. absurd (cc);
          going = λ v is. absurd (let clash : true ≡ false = sym (ap is_some is) ∙ none in cc);
        }

-- what a receiver knows of the log
pub told : (history : History) (queue : SendQueueState) → NumbersMessages history queue → length history.log < 2 ^ 31 → IsUnambiguous history
told history queue numbers small = go queue.is_interleaved numbers.kinds numbers.counts
  where
    go : (b : Bool) → AreOfKind b history.log → CountsByKind b history queue.streams queue.held → IsUnambiguous history
    go false kinds counts = plain kinds
    go true kinds c =
        interleaved kinds small
        (λ n f at. (let below = c.below n f at in let few = c.few f.message.stream f.message.is_unordered in omega (arith, below, few, small))) c.apart
        (λ id anew n f at on ordered mid from up. (
        let below = c.below n f at in
        let same : history.floors f.message.stream f.message.is_unordered + c.counts f.message.stream f.message.is_unordered ≡ history.floors id false + c.counts id false =
        ap (λ (k : ℕ). history.floors k f.message.is_unordered + c.counts k f.message.is_unordered) on ∙ ap (λ (b : Bool). history.floors id b + c.counts id b) ordered in
        let again : history.floors id false + (mid - history.floors id false) ≡ mid = omega (arith, from) in
        subst (λ (k : ℕ). IsBegunUnder history.log id k) again (c.dense id anew (mid - history.floors id false) (omega (arith, below, same, from, up)))
        ))
