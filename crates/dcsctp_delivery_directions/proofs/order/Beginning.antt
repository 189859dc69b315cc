-- Where an association begins whose numbers are 0, the floors of ordered messages are those of 0.
use Rattle.std.proofs.Common.{◌≡◌, ℕ, Bool, true, false, ◌≤◌, ◌+◌, ◌%◌, ◌^◌, List, [], ◌∷◌, refl, sym, ◌∙◌, ap, arith, subst, ◌-◌, ◌<◌, ◌*◌}
use Rattle.std.specs.Prelude.{not, Option, None, Some, is_some, if◌then◌else◌}
use Rattle.dcsctp_spec_lemmas.specs.types.declared.ids.StreamId.{StreamId}
use Rattle.dcsctp_spec_lemmas.specs.types.declared.sending.UnderWay.{UnderWay}
use Rattle.dcsctp_spec_lemmas.specs.types.queues.SendStreams.{Waiting, Stream, front_of, stream_at}
use Rattle.dcsctp_spec_lemmas.specs.spec.queues.SendQueue.{SendQueueState}
use Rattle.dcsctp_delivery_directions.specs.sending.Log.{Message, new_history}
use Rattle.dcsctp_delivery_directions.specs.sending.Numbers.{stream_named, next_mid, LastIs, CountsMessages, CountsTurns, CountsSsns, CountsByKind, IsFromStart, AreFloorsClose, AreFloorsAtZero, IsBegunUnder}
use Rattle.dcsctp_delivery_directions.specs.sending.Pieces.{Going, IsGoing, HoldsQueued}
use Rattle.dcsctp_delivery_directions.specs.sending.Queueing.{QueueWaits}
use Rattle.dcsctp_delivery_directions.proofs.sending.StreamsNamed.{named_place}
use Rattle.dcsctp_delivery_directions.specs.directions.Directions.{RestIsUnordered, BeginsAtZero}

-- is the message under way ordered, if one is?
ordered_rest : Option UnderWay → List Waiting → Bool
ordered_rest None messages = false
ordered_rest (Some u) [] = false
ordered_rest (Some u) (w ∷ messages) = not w.is_unordered

has_ordered_rest : Stream → Bool
has_ordered_rest stream = ordered_rest stream.under_way stream.messages

rest_of : (u : UnderWay) (messages : List Waiting) (w : Waiting) → front_of messages ≡ Some w → ordered_rest (Some u) messages ≡ not w.is_unordered
unfolding ordered_rest
rest_of u [] w front = absurd (cc)
rest_of u (v ∷ messages) w front = (let same : v ≡ w = cc in ap (λ (x : Waiting). not x.is_unordered) same)

-- one that is, is so on its stream
rest_named : (stream : Stream) (u : UnderWay) (w : Waiting) → stream.under_way ≡ Some u → front_of stream.messages ≡ Some w → w.is_unordered ≡ false → has_ordered_rest stream ≡ true
unfolding has_ordered_rest
rest_named stream u w is front ordered = ap (λ (o : Option UnderWay). ordered_rest o stream.messages) is ∙ rest_of u stream.messages w front ∙ ap not ordered

none_ordered : (streams : List Stream) → RestIsUnordered streams → (id : ℕ) → has_ordered_rest (stream_named id streams) ≡ false
unfolding has_ordered_rest ordered_rest
none_ordered streams rest id = go (stream_named id streams).under_way refl (stream_named id streams).messages refl
  where
    go : (u : Option UnderWay) → (stream_named id streams).under_way ≡ u → (messages : List Waiting) → (stream_named id streams).messages ≡ messages → ordered_rest u messages ≡ false
    go None is messages same = refl
    go (Some u) is [] same = refl
    go (Some u) is (w ∷ messages) same = ap not (rest id w (ap is_some is) (ap front_of same))

-- ---- with interleaving

module _ (streams : List Stream) (floors : ℕ → Bool → ℕ) (c : CountsMessages (new_history floors) streams) where
  -- ordered messages are counted from the next one, if none is under way
  floors_of : ℕ → Bool → ℕ
  floors_of id true = if has_ordered_rest (stream_named id streams) then floors id true else floors id true % 2 ^ 32
  floors_of id false = if has_ordered_rest (stream_named id streams) then floors id false else next_mid false (stream_named id streams)

  counts_of : ℕ → Bool → ℕ
  counts_of id true = c.counts id true
  counts_of id false = if has_ordered_rest (stream_named id streams) then c.counts id false else 0

  counts_few : (id : ℕ) (is_unordered : Bool) → counts_of id is_unordered ≤ 1
  unfolding counts_of
  counts_few id true = c.few id true
  counts_few id false = go (has_ordered_rest (stream_named id streams))
    where
      go : (b : Bool) → (if b then c.counts id false else 0) ≤ 1
      go true = c.few id false
      go false = omega arith

  counts_next : (id : ℕ) (is_unordered : Bool) → next_mid is_unordered (stream_named id streams) % 2 ^ 32 ≡ (floors_of id is_unordered + counts_of id is_unordered) % 2 ^ 32
  unfolding floors_of counts_of
  counts_next id true = go (has_ordered_rest (stream_named id streams))
    where
      go : (b : Bool) → next_mid true (stream_named id streams) % 2 ^ 32 ≡ ((if b then floors id true else floors id true % 2 ^ 32) + c.counts id true) % 2 ^ 32
      go true = c.next id true
      go false = (let next = c.next id true in omega (arith, next))
  counts_next id false = go (has_ordered_rest (stream_named id streams))
    where
      go : (b : Bool) → next_mid false (stream_named id streams) % 2 ^ 32 ≡ ((if b then floors id false else next_mid false (stream_named id streams)) + (if b then c.counts id false else 0)) % 2 ^ 32
      go true = c.next id false
      go false = omega arith

  -- the message under way is counted as before
  last_of : (id : ℕ) (u : Option UnderWay) → (stream_named id streams).under_way ≡ u → LastIs (new_history floors) streams c.counts id u → LastIs (new_history floors_of) streams counts_of id u
  unfolding floors_of counts_of
  last_of id None is last = tt
  last_of id (Some u) is last =
      let same = kept last.waiting.is_unordered refl in
      let (less, floor, whole) = same.0 in
      let count = same.1 in
      let low = last.from in
      record {
        waiting = last.waiting;
        front = last.front;
        mid = last.mid - less;
        is = (let at = last.is in omega (arith, at, floor, whole, low));
        from = omega (arith, low, floor);
        last = (let at = last.last in omega (arith, at, floor, count, low));
        came = λ f e. absurd (cc);
      }
    where
      kept : (b : Bool) → last.waiting.is_unordered ≡ b → ((less : ℕ) × (floors_of id b + less ≡ floors id b) × (less % 2 ^ 32 ≡ 0)) × (counts_of id b ≡ c.counts id b)
      kept true unordered = (go (has_ordered_rest (stream_named id streams)), refl)
        where
          go : (b : Bool) → (less : ℕ) × ((if b then floors id true else floors id true % 2 ^ 32) + less ≡ floors id true) × (less % 2 ^ 32 ≡ 0)
          go true = (0, omega arith, refl)
          go false = (floors id true - floors id true % 2 ^ 32, omega arith, omega arith)
      kept false ordered =
          let rest = rest_named (stream_named id streams) u last.waiting is last.front ordered in (
            (0, omega (arith, ap (λ (b : Bool). if b then floors id false else next_mid false (stream_named id streams)) rest), refl),
            ap (λ (b : Bool). if b then c.counts id false else 0) rest,
          )

  dense_of : (id : ℕ) → AreFloorsClose floors_of id → (k : ℕ) → k < counts_of id false → IsBegunUnder [] id (floors_of id false + k)
  unfolding floors_of counts_of
  dense_of id = go (has_ordered_rest (stream_named id streams))
    where
      go : (b : Bool) → (if b then floors id true else floors id true % 2 ^ 32) < 2 ^ 32 * ((if b then floors id false else next_mid false (stream_named id streams)) + 1) → (k : ℕ) → k < (if b then c.counts id false else 0)
          → IsBegunUnder [] id ((if b then floors id false else next_mid false (stream_named id streams)) + k)
      go true anew k less = c.dense id anew k less
      go false anew k less = absurd (omega (arith, less))

  mids_from : CountsMessages (new_history floors_of) streams
  mids_from =
      record {
        counts = counts_of;
        few = counts_few;
        next = counts_next;
        below = λ n f at. absurd (cc);
        apart = λ m n f g at at'. absurd (cc);
        going = λ id. last_of id (stream_named id streams).under_way refl (c.going id);
        dense = dense_of;
      }

-- ---- without it

-- the next SSNs are the floors
ssn_of : List Stream → ℕ → Bool → ℕ
ssn_of streams id is_unordered = if has_ordered_rest (stream_named id streams) then 1 else (stream_named id streams).next_ssn

-- the message under way is the oldest of its stream
front_there : (queued : List Message) (streams : List Stream) → HoldsQueued queued [] streams → (id : ℕ) (u : UnderWay) → (stream_named id streams).under_way ≡ Some u → (w : Waiting) × (front_of (stream_named id streams).messages ≡ Some w)
front_there queued streams holds id u is =
    let (q, within, named, same) = named_place id streams (ap is_some is) in
    let going : IsGoing queued [] (stream_at streams q) u = subst (λ (o : Option UnderWay). Going queued [] (stream_at streams q) o) (ap (λ (s : Stream). s.under_way) (sym same) ∙ is) (holds.going q) in
    (going.waiting, ap (λ (s : Stream). front_of s.messages) same ∙ going.front)

module _ (queued : List Message) (streams : List Stream) (held : Option StreamId) (holds : HoldsQueued queued [] streams) where
  turns_from : (id : ℕ) → IsFromStart (new_history (ssn_of streams)) id → CountsTurns id [] streams
  unfolding ssn_of
  turns_from id start = go (has_ordered_rest (stream_named id streams)) refl start.floor
    where
      go : (b : Bool) → has_ordered_rest (stream_named id streams) ≡ b → (if b then 1 else (stream_named id streams).next_ssn) ≡ 0 → CountsTurns id [] streams
      go true is zero = absurd (omega (arith, zero))
      go false is zero =
          record {
            next = ap (λ (k : ℕ). k % 2 ^ 16) zero;
            sent = λ n f at. absurd (cc);
            going = λ u under. (
                let (w, front) = front_there queued streams holds id u under in
                record { waiting = w; front = front; last = λ ordered. absurd (let clash : true ≡ false = sym (rest_named (stream_named id streams) u w under front ordered) ∙ is in cc) }
                );
          }

  ssns_from : CountsSsns (new_history (ssn_of streams)) streams held
  ssns_from = record { turns = turns_from; closes = λ n f g at. absurd (cc); rests = λ idle f at. absurd (cc) }

-- ---- whichever it is

-- The floors of these streams, and the counts from there.
record NumbersFrom (b : Bool) (streams : List Stream) (held : Option StreamId) : Type 0 where
  floors : ℕ → Bool → ℕ
  counts : CountsByKind b (new_history floors) streams held
  zero : RestIsUnordered streams → ((id : ℕ) → next_mid false (stream_named id streams) % 2 ^ 32 ≡ 0) → ((id : ℕ) → (stream_named id streams).next_ssn ≡ 0) → (id : ℕ) → AreFloorsAtZero floors id
  plain : b ≡ false → RestIsUnordered streams → ((id : ℕ) → (stream_named id streams).next_ssn ≡ 0) → (id : ℕ) → floors id false ≡ 0

numbers_from : (b : Bool) (queued : List Message) (streams : List Stream) (held : Option StreamId) (floors : ℕ → Bool → ℕ) → HoldsQueued queued [] streams → CountsByKind b (new_history floors) streams held → NumbersFrom b streams held
unfolding floors_of ssn_of
numbers_from true queued streams held floors holds c =
    record {
      floors = floors_of streams floors c;
      counts = mids_from streams floors c;
      zero = λ rest zero ssn id. (
        ap (λ (b : Bool). (if b then floors id false else next_mid false (stream_named id streams)) % 2 ^ 32) (none_ordered streams rest id) ∙ zero id,
        (let high = ap (λ (b : Bool). if b then floors id true else floors id true % 2 ^ 32) (none_ordered streams rest id) in omega (arith, high)),
      );
      plain = λ is. absurd (cc);
    }
numbers_from false queued streams held floors holds c =
    record {
      floors = ssn_of streams;
      counts = ssns_from queued streams held holds;
      zero = λ rest zero ssn id. (let low = first rest ssn id false in let high = first rest ssn id true in (omega (arith, low), omega (arith, low, high)));
      plain = λ is rest ssn id. first rest ssn id false;
    }
  where
    first : RestIsUnordered streams → ((id : ℕ) → (stream_named id streams).next_ssn ≡ 0) → (id : ℕ) (b : Bool) → ssn_of streams id b ≡ 0
    first rest ssn id b = ap (λ (b : Bool). if b then 1 else (stream_named id streams).next_ssn) (none_ordered streams rest id) ∙ ssn id

-- What waits, waits from these floors.
pub record WaitsFrom (queued : List Message) (queue : SendQueueState) : Type 0 where
  pub waits : QueueWaits queued queue
  pub zero : BeginsAtZero queue → (id : ℕ) → AreFloorsAtZero waits.floors id
  pub plain : queue.is_interleaved ≡ false → BeginsAtZero queue → (id : ℕ) → waits.floors id false ≡ 0

pub waits_from : (queued : List Message) (queue : SendQueueState) → QueueWaits queued queue → WaitsFrom queued queue
waits_from queued queue w =
    let n = numbers_from queue.is_interleaved queued queue.streams queue.held w.floors w.holds.queue_holds w.holds.numbers.counts in
    record {
      waits = record {
        floors = n.floors;
        holds = record {
          queue_holds = w.holds.queue_holds;
          next = w.holds.next;
          numbers = record { kinds = λ n f at. absurd (cc); counts = n.counts; kept = w.holds.numbers.kept; whole = w.holds.numbers.whole; rests = λ id none f at. absurd (cc) };
        };
      };
      zero = λ b. n.zero b.rest b.zero b.ssn;
      plain = λ is b. n.plain is b.rest b.ssn;
    }
