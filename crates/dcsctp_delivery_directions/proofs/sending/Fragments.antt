-- What becomes of the streams as a fragment is counted: one changes, and the others stay.
use Rattle.std.proofs.Common.{◌≡◌, ◌≢◌, ◌==◌, ℕ, Bool, true, false, ◌<◌, ◌+◌, ◌-◌, ◌%◌, ◌^◌, List, length, refl, sym, ◌∙◌, ap, arith, subst, inl, inr}
use Rattle.std.specs.Prelude.{slice_set, if◌then◌else◌}
use Rattle.std.proofs.lemmas.Bool.Decides.{eqb_tells}
use Rattle.std.proofs.lemmas.List.{length-set, get_or-set_same, get_or-set_other}
use Rattle.dcsctp_spec.specs.types.declared.sending.UnderWay.{UnderWay}
use Rattle.dcsctp_spec.specs.types.queues.SendStreams.{Waiting, Stream, stream_counted, served_stream, fills_turn, stream_with_turn_bytes, unused_stream, stream_at}
use Rattle.dcsctp_spec.specs.queues.SendQueue.{SendQueueState, queue_interleaves}
use Rattle.dcsctp_spec.specs.queues.Sending.{reduced_queue, next_turn, queue_numbered, queue_served, queue_with_turn_bytes, turn_counted, fragment_counted}
use Rattle.dcsctp_delivery_directions.specs.sending.Numbers.{stream_named}
use Rattle.dcsctp_delivery_directions.proofs.sending.StreamsNamed.{found_at, found_set}
use Rattle.dcsctp_delivery_directions.proofs.sending.Numbers.{SameMids, same_mids, mids_then}

-- The stream at the place may have changed, but for its number. The others are as they were.
pub record ChangesOne (place : ℕ) (old new : List Stream) : Type 0 where
  pub sizes : length new ≡ length old
  pub id : (stream_at new place).id ≡ (stream_at old place).id
  pub others : (q : ℕ) → q ≢ place → stream_at new q ≡ stream_at old q
  pub named : (other : ℕ) → other ≢ (stream_at old place).id → stream_named other new ≡ stream_named other old

SameStream : Stream → Stream → Type 0
SameStream old new = new ≡ old

pub changes_set : (place : ℕ) (streams : List Stream) (new : Stream) → place < length streams → new.id ≡ (stream_at streams place).id → ChangesOne place streams (slice_set streams place new)
unfolding SameStream
changes_set place streams new within same =
    record {
      sizes = length-set streams place new;
      id = ap (λ (s : Stream). s.id) (get_or-set_same streams place new (unused_stream 0 0 0) within) ∙ same;
      others = λ q other. get_or-set_other streams place q new (unused_stream 0 0 0) other;
      named = λ other apart. found_set SameStream other (unused_stream 0 0 0) new (λ s. refl) place streams same (λ here. absurd (apart (sym here ∙ same)));
    }

changes_none : (place : ℕ) (streams : List Stream) → ChangesOne place streams streams
changes_none place streams = record { sizes = refl; id = refl; others = λ q other. refl; named = λ other apart. refl }

pub changes_twice : (place : ℕ) (a b c : List Stream) → ChangesOne place a b → ChangesOne place b c → ChangesOne place a c
changes_twice place a b c x y =
    record {
      sizes = y.sizes ∙ x.sizes;
      id = y.id ∙ x.id;
      others = λ q other. y.others q other ∙ x.others q other;
      named = λ other apart. y.named other (λ same. apart (same ∙ x.id)) ∙ x.named other apart;
    }

-- what holds of each stream
pub each_changed : (P : Stream → Type 0) (place : ℕ) (old new : List Stream) → ChangesOne place old new → P (stream_at new place) → ((q : ℕ) → P (stream_at old q)) → (q : ℕ) → P (stream_at new q)
each_changed P place old new one here all q =
    elim (eqb_tells q place) [
      | inl e ↦ subst (λ (k : ℕ). P (stream_at new k)) (sym e.1) here
      | inr e ↦ subst P (sym (one.others q e.1)) (all q)
    ]

-- so the numbers are distinct again
pub changes_ids : (place : ℕ) (old new : List Stream) → ChangesOne place old new → (q : ℕ) → (stream_at new q).id ≡ (stream_at old q).id
changes_ids place old new one q =
    elim (eqb_tells q place) [
      | inl e ↦ ap (λ (k : ℕ). (stream_at new k).id) e.1 ∙ one.id ∙ ap (λ (k : ℕ). (stream_at old k).id) (sym e.1)
      | inr e ↦ ap (λ (s : Stream). s.id) (one.others q e.1)
    ]

pub changes_distinct : (place : ℕ) (old new : List Stream) → ChangesOne place old new
    → ((p q : ℕ) → p < length old → q < length old → (stream_at old p).id ≡ (stream_at old q).id → p ≡ q)
    → (p q : ℕ) → p < length new → q < length new → (stream_at new p).id ≡ (stream_at new q).id → p ≡ q
changes_distinct place old new one distinct p q below below' same =
    let size : length new ≡ length old = one.sizes in
    distinct p q (omega arith) (omega arith) (sym (changes_ids place old new one p) ∙ same ∙ changes_ids place old new one q)

-- the stream that changed, by its number
pub changes_named : (place : ℕ) (old new : List Stream) → ChangesOne place old new → place < length old
    → ((p q : ℕ) → p < length old → q < length old → (stream_at old p).id ≡ (stream_at old q).id → p ≡ q)
    → stream_named (stream_at old place).id new ≡ stream_at new place
changes_named place old new one within distinct =
    let size : length new ≡ length old = one.sizes in
    subst (λ (k : ℕ). stream_named k new ≡ stream_at new place) one.id (found_at (unused_stream 0 0 0) place new (omega arith) (changes_distinct place old new one distinct))

-- ---- a message that is counted

-- The stream has other amounts and turns, and other numbers if one of its messages begins.
pub record CountsOne (is_interleaved begins is_unordered : Bool) (old new : Stream) : Type 0 where
  pub id : new.id ≡ old.id
  pub messages : new.messages ≡ old.messages
  pub pause : new.pause ≡ old.pause
  pub under_way : new.under_way ≡ old.under_way
  pub mids : SameMids (if begins then stream_counted is_interleaved is_unordered old else old) new

counts_same : (b c : Bool) (s : Stream) → CountsOne b false c s s
counts_same b c s = record { id = refl; messages = refl; pause = refl; under_way = refl; mids = same_mids s }

counted_mids : (b c : Bool) (s t : Stream) → SameMids s t → SameMids (stream_counted b c s) (stream_counted b c t)
counted_mids true true s t same = record { ordered = same.ordered; unordered = ap (λ (k : ℕ). (k + 1) % 2 ^ 32) same.unordered; ssn = same.ssn }
counted_mids true false s t same = record { ordered = ap (λ (k : ℕ). (k + 1) % 2 ^ 32) same.ordered; unordered = same.unordered; ssn = same.ssn }
counted_mids false true s t same = same
counted_mids false false s t same = record { ordered = same.ordered; unordered = same.unordered; ssn = ap (λ (k : ℕ). (k + 1) % 2 ^ 16) same.ssn }

-- first something that doesn't count, or last
counts_after : (b begins c : Bool) (r s t : Stream) → CountsOne b false c r s → CountsOne b begins c s t → CountsOne b begins c r t
counts_after b begins c r s t x y =
    record {
      id = y.id ∙ x.id;
      messages = y.messages ∙ x.messages;
      pause = y.pause ∙ x.pause;
      under_way = y.under_way ∙ x.under_way;
      mids = go begins y.mids;
    }
  where
    go : (d : Bool) → SameMids (if d then stream_counted b c s else s) t → SameMids (if d then stream_counted b c r else r) t
    go true same = mids_then (stream_counted b c r) (stream_counted b c s) t (counted_mids b c r s x.mids) same
    go false same = mids_then r s t x.mids same

counts_before : (b begins c : Bool) (r s t : Stream) → CountsOne b begins c r s → CountsOne b false c s t → CountsOne b begins c r t
counts_before b begins c r s t x y =
    record {
      id = y.id ∙ x.id;
      messages = y.messages ∙ x.messages;
      pause = y.pause ∙ x.pause;
      under_way = y.under_way ∙ x.under_way;
      mids = mids_then (if begins then stream_counted b c r else r) s t x.mids y.mids;
    }

counts_it : (b c : Bool) (s : Stream) → CountsOne b true c s (stream_counted b c s)
counts_it true true s = record { id = refl; messages = refl; pause = refl; under_way = refl; mids = same_mids (stream_counted true true s) }
counts_it true false s = record { id = refl; messages = refl; pause = refl; under_way = refl; mids = same_mids (stream_counted true false s) }
counts_it false true s = record { id = refl; messages = refl; pause = refl; under_way = refl; mids = same_mids (stream_counted false true s) }
counts_it false false s = record { id = refl; messages = refl; pause = refl; under_way = refl; mids = same_mids (stream_counted false false s) }

-- The stream at the place is the one that counts. The queue is the same otherwise.
pub record CountsThere (place : ℕ) (begins is_unordered : Bool) (old new : SendQueueState) : Type 0 where
  pub one : ChangesOne place old.streams new.streams
  pub counts : CountsOne old.is_interleaved begins is_unordered (stream_at old.streams place) (stream_at new.streams place)
  pub kind : new.is_interleaved ≡ old.is_interleaved
  pub turns : new.takes_turns ≡ old.takes_turns
  pub held : new.held ≡ old.held

there_same : (place : ℕ) (c : Bool) (queue : SendQueueState) → CountsThere place false c queue queue
there_same place c queue = record { one = changes_none place queue.streams; counts = counts_same queue.is_interleaved c (stream_at queue.streams place); kind = refl; turns = refl; held = refl }

-- the streams with one that was set
there_set : (place : ℕ) (begins c : Bool) (queue new : SendQueueState) (s : Stream) → place < length queue.streams → new.streams ≡ slice_set queue.streams place s → new.is_interleaved ≡ queue.is_interleaved → new.takes_turns ≡ queue.takes_turns → new.held ≡ queue.held
    → CountsOne queue.is_interleaved begins c (stream_at queue.streams place) s → CountsThere place begins c queue new
there_set place begins c queue new s within is kind turns held counts =
    record {
      one = subst (λ (l : List Stream). ChangesOne place queue.streams l) (sym is) (changes_set place queue.streams s within counts.id);
      counts = subst (λ (t : Stream). CountsOne queue.is_interleaved begins c (stream_at queue.streams place) t)
          (sym (ap (λ (l : List Stream). stream_at l place) is ∙ get_or-set_same queue.streams place s (unused_stream 0 0 0) within)) counts;
      kind = kind;
      turns = turns;
      held = held;
    }

there_after : (place : ℕ) (begins c : Bool) (a b d : SendQueueState) → CountsThere place false c a b → CountsThere place begins c b d → CountsThere place begins c a d
there_after place begins c a b d x y =
    record {
      one = changes_twice place a.streams b.streams d.streams x.one y.one;
      counts = counts_after a.is_interleaved begins c (stream_at a.streams place) (stream_at b.streams place) (stream_at d.streams place) x.counts
          (subst (λ (k : Bool). CountsOne k begins c (stream_at b.streams place) (stream_at d.streams place)) x.kind y.counts);
      kind = y.kind ∙ x.kind;
      turns = y.turns ∙ x.turns;
      held = y.held ∙ x.held;
    }

there_before : (place : ℕ) (begins c : Bool) (a b d : SendQueueState) → CountsThere place begins c a b → CountsThere place false c b d → CountsThere place begins c a d
there_before place begins c a b d x y =
    record {
      one = changes_twice place a.streams b.streams d.streams x.one y.one;
      counts = counts_before a.is_interleaved begins c (stream_at a.streams place) (stream_at b.streams place) (stream_at d.streams place) x.counts
          (subst (λ (k : Bool). CountsOne k false c (stream_at b.streams place) (stream_at d.streams place)) x.kind y.counts);
      kind = y.kind ∙ x.kind;
      turns = y.turns ∙ x.turns;
      held = y.held ∙ x.held;
    }

pub still_within : (place : ℕ) (begins c : Bool) (old new : SendQueueState) → CountsThere place begins c old new → place < length old.streams → place < length new.streams
still_within place begins c old new t within = let size : length new.streams ≡ length old.streams = t.one.sizes in omega arith

-- ---- the steps

pub reduced_there : (place size : ℕ) (c : Bool) (queue : SendQueueState) → place < length queue.streams → CountsThere place false c queue (reduced_queue place size queue)
reduced_there place size c queue within =
    there_set place false c queue (reduced_queue place size queue) (record (stream_at queue.streams place) { amount = (stream_at queue.streams place).amount - size }) within refl refl refl refl
    (record { id = refl; messages = refl; pause = refl; under_way = refl; mids = record { ordered = refl; unordered = refl; ssn = refl } })

numbered_there : (place : ℕ) (begins c : Bool) (queue : SendQueueState) → place < length queue.streams → CountsThere place begins c queue (queue_numbered place begins c queue)
numbered_there place true c queue within =
    there_set place true c queue (queue_numbered place true c queue) (stream_counted queue.is_interleaved c (stream_at queue.streams place)) within refl refl refl refl (counts_it queue.is_interleaved c (stream_at queue.streams place))
numbered_there place false c queue within = there_same place c queue

served_there : (place : ℕ) (over c : Bool) (queue : SendQueueState) → place < length queue.streams → CountsThere place false c queue (queue_served place over queue)
served_there place true c queue within =
    there_set place false c queue (queue_served place true queue) (served_stream (next_turn queue) (stream_at queue.streams place)) within refl refl refl refl
    (record { id = refl; messages = refl; pause = refl; under_way = refl; mids = record { ordered = refl; unordered = refl; ssn = refl } })
served_there place false c queue within = there_same place c queue

bytes_there : (place size : ℕ) (c : Bool) (queue : SendQueueState) → place < length queue.streams → CountsThere place false c queue (queue_with_turn_bytes place size queue)
bytes_there place size c queue within =
    there_set place false c queue (queue_with_turn_bytes place size queue) (stream_with_turn_bytes queue.turn_size size (stream_at queue.streams place)) within refl refl refl refl
    (record { id = refl; messages = refl; pause = refl; under_way = refl; mids = record { ordered = refl; unordered = refl; ssn = refl } })

turn_there : (place : ℕ) (begins : Bool) (size : ℕ) (c : Bool) (queue : SendQueueState) → place < length queue.streams → CountsThere place false c queue (turn_counted place begins size queue)
turn_there place begins size c queue within = go (queue_interleaves queue)
  where
    go : (b : Bool)
        → CountsThere place false c queue (if b then queue_served place (fills_turn queue.turn_size size (stream_at queue.streams place)) (queue_with_turn_bytes place size queue) else queue_served place begins queue)
    go true =
        let first = bytes_there place size c queue within in
        there_after place false c queue (queue_with_turn_bytes place size queue) (queue_served place (fills_turn queue.turn_size size (stream_at queue.streams place)) (queue_with_turn_bytes place size queue)) first
        (served_there place (fills_turn queue.turn_size size (stream_at queue.streams place)) c (queue_with_turn_bytes place size queue) (still_within place false c queue (queue_with_turn_bytes place size queue) first within))
    go false = served_there place begins c queue within

-- a fragment of that many bytes
pub fragment_there : (place size : ℕ) (message : Waiting) (under_way : UnderWay) (queue : SendQueueState) → place < length queue.streams
    → CountsThere place (under_way.sent == 0) message.is_unordered queue (fragment_counted place size message under_way (reduced_queue place size queue))
fragment_there place size message under_way queue within =
    let begins : Bool = under_way.sent == 0 in
    let reduced : SendQueueState = reduced_queue place size queue in
    let numbered : SendQueueState = queue_numbered place (under_way.sent == 0) message.is_unordered (reduced_queue place size queue) in
    let first = reduced_there place size message.is_unordered queue within in
    let within' = still_within place false message.is_unordered queue (reduced_queue place size queue) first within in
    let second = numbered_there place (under_way.sent == 0) message.is_unordered (reduced_queue place size queue) within' in
    let within'' = still_within place (under_way.sent == 0) message.is_unordered (reduced_queue place size queue) (queue_numbered place (under_way.sent == 0) message.is_unordered (reduced_queue place size queue)) second within' in
    there_after place (under_way.sent == 0) message.is_unordered queue (reduced_queue place size queue) (fragment_counted place size message under_way (reduced_queue place size queue)) first
    (there_before place (under_way.sent == 0) message.is_unordered (reduced_queue place size queue) (queue_numbered place (under_way.sent == 0) message.is_unordered (reduced_queue place size queue)) (fragment_counted place size message under_way (reduced_queue place size queue)) second
    (turn_there place (under_way.sent == 0) size message.is_unordered (queue_numbered place (under_way.sent == 0) message.is_unordered (reduced_queue place size queue)) within''))
