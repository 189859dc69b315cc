-- The MIDs of the messages of a stream.
use Rattle.std.proofs.Common.{◌≡◌, ◌==◌, ℕ, Bool, true, false, ◌-◌, List, length, map, refl, sym, ◌∙◌, ap, subst, inl, inr}
use Rattle.std.specs.Prelude.{◌&&◌, not, Option, None, Some, is_some, slice_set, if◌then◌else◌}
use Rattle.std.proofs.lemmas.Bool.{eqb-true}
use Rattle.std.proofs.lemmas.Bool.Decides.{eqb_tells}
use Rattle.dcsctp_spec.specs.types.declared.sending.UnderWay.{UnderWay}
use Rattle.dcsctp_spec.specs.types.queues.SendStreams.{Waiting, Stream, front_of, is_expired, without_front, stream_at, unused_stream}
use Rattle.dcsctp_spec.specs.queues.SendQueue.{SendQueueState, stream_changed, used_streams}
use Rattle.dcsctp_spec.specs.endpoint.Event.{Event}
use Rattle.dcsctp_spec.specs.queues.Sending.{Drops, none as drops_none, more as drops_more, reduced_queue, without_rest, is_too_old}
use Rattle.dcsctp_delivery_directions.specs.sending.Numbers.{stream_named, next_mid, is_handed_out}
use Rattle.dcsctp_delivery_directions.proofs.sending.Places.{decide}
use Rattle.dcsctp_delivery_directions.proofs.sending.Streams.{reduced_alike}
use Rattle.dcsctp_delivery_directions.proofs.sending.StreamsNamed.{AreUnused, found_mapped, found_set, found_used}

-- ---- what becomes of a stream

-- its messages are numbered as before
pub record SameMids (old new : Stream) : Type 0 where
  pub ordered : new.next_mid ≡ old.next_mid
  pub unordered : new.next_unordered_mid ≡ old.next_unordered_mid
  pub ssn : new.next_ssn ≡ old.next_ssn

-- Its message under way is kept. If it has one, it isn't handed out if it wasn't.
pub record KeepsFront (old new : Stream) : Type 0 where
  pub under_way : new.under_way ≡ old.under_way
  pub front : is_some old.under_way ≡ true → front_of new.messages ≡ front_of old.messages
  pub kept : is_some old.under_way ≡ true → is_handed_out old.pause ≡ false → is_handed_out new.pause ≡ false

pub front_kept : (old new : Stream) → new.under_way ≡ old.under_way → new.messages ≡ old.messages → (is_handed_out old.pause ≡ false → is_handed_out new.pause ≡ false) → KeepsFront old new
front_kept old new under_way same kept = record { under_way = under_way; front = λ some. ap front_of same; kept = λ some e. kept e }

pub same_front : (s : Stream) → KeepsFront s s
same_front s = record { under_way = refl; front = λ some. refl; kept = λ some e. e }

pub fronts_then : (a b c : Stream) → KeepsFront a b → KeepsFront b c → KeepsFront a c
fronts_then a b c one two =
    record {
      under_way = two.under_way ∙ one.under_way;
      front = λ some. two.front (ap is_some one.under_way ∙ some) ∙ one.front some;
      kept = λ some e. two.kept (ap is_some one.under_way ∙ some) (one.kept some e);
    }

-- These streams are numbered as those, and each keeps its message under way.
pub record NumbersStay (old new : List Stream) : Type 0 where
  pub mids : (id : ℕ) → SameMids (stream_named id old) (stream_named id new)
  pub fronts : (id : ℕ) → KeepsFront (stream_named id old) (stream_named id new)

-- Some message under way may have ended.
pub record NumbersLeft (old new : List Stream) : Type 0 where
  pub mids : (id : ℕ) → SameMids (stream_named id old) (stream_named id new)
  pub fronts : (id : ℕ) → is_some (stream_named id new).under_way ≡ true → KeepsFront (stream_named id old) (stream_named id new)

pub stay_left : (old new : List Stream) → NumbersStay old new → NumbersLeft old new
stay_left old new stay = record { mids = stay.mids; fronts = λ id some. stay.fronts id }

pub mid_stays : (is_unordered : Bool) (old new : Stream) → SameMids old new → next_mid is_unordered new ≡ next_mid is_unordered old
mid_stays true old new same = same.unordered
mid_stays false old new same = same.ordered

pub same_mids : (s : Stream) → SameMids s s
same_mids s = record { ordered = refl; unordered = refl; ssn = refl }

pub mids_then : (a b c : Stream) → SameMids a b → SameMids b c → SameMids a c
mids_then a b c one two = record { ordered = two.ordered ∙ one.ordered; unordered = two.unordered ∙ one.unordered; ssn = two.ssn ∙ one.ssn }

pub numbers_same : (streams : List Stream) → NumbersStay streams streams
numbers_same streams = record { mids = λ id. same_mids (stream_named id streams); fronts = λ id. same_front (stream_named id streams) }

pub numbers_then : (old between new : List Stream) → NumbersStay old between → NumbersStay between new → NumbersStay old new
numbers_then old between new one two =
    record {
      mids = λ id. mids_then (stream_named id old) (stream_named id between) (stream_named id new) (one.mids id) (two.mids id);
      fronts = λ id. fronts_then (stream_named id old) (stream_named id between) (stream_named id new) (one.fronts id) (two.fronts id);
    }

pub left_then : (old between new : List Stream) → NumbersStay old between → NumbersLeft between new → NumbersLeft old new
left_then old between new one two =
    record {
      mids = λ id. mids_then (stream_named id old) (stream_named id between) (stream_named id new) (one.mids id) (two.mids id);
      fronts = λ id some. fronts_then (stream_named id old) (stream_named id between) (stream_named id new) (one.fronts id) (two.fronts id some);
    }

-- each stream is changed so
pub numbers_mapped : (f : Stream → Stream) → ((s : Stream) → (f s).id ≡ s.id) → ((s : Stream) → SameMids s (f s)) → ((s : Stream) → KeepsFront s (f s)) → (streams : List Stream) → NumbersStay streams (map f streams)
numbers_mapped f same_id mids fronts streams =
    record {
      mids = λ id. found_mapped SameMids id (unused_stream 0 0 0) f same_id (same_mids (unused_stream 0 0 0)) (λ s is. mids s) streams;
      fronts = λ id. found_mapped KeepsFront id (unused_stream 0 0 0) f same_id (same_front (unused_stream 0 0 0)) (λ s is. fronts s) streams;
    }

-- one stream is changed so
pub numbers_changed : (id : ℕ) (f : Stream → Stream) → ((s : Stream) → (f s).id ≡ s.id) → ((s : Stream) → SameMids s (f s)) → ((s : Stream) → s.id ≡ id → KeepsFront s (f s)) → (streams : List Stream)
    → NumbersStay streams (stream_changed id f streams)
numbers_changed id f same_id mids fronts streams =
    numbers_mapped (λ s. if s.id == id then f s else s) (λ s. one_id (s.id == id) s) (λ s. one_mids (s.id == id) s) (λ s. one_front (s.id == id) s refl) streams
  where
    one_id : (b : Bool) (s : Stream) → (if b then f s else s).id ≡ s.id
    one_id true s = same_id s
    one_id false s = refl

    one_mids : (b : Bool) (s : Stream) → SameMids s (if b then f s else s)
    one_mids true s = mids s
    one_mids false s = same_mids s

    one_front : (b : Bool) (s : Stream) → (s.id == id) ≡ b → KeepsFront s (if b then f s else s)
    one_front true s same = fronts s (eqb-true s.id id same)
    one_front false s same = same_front s

-- one is, of which this holds
pub numbers_if : (Is : Stream → Type 0) (id : ℕ) (f : Stream → Stream) → ((s : Stream) → (f s).id ≡ s.id) → ((s : Stream) → SameMids s (f s)) → ((s : Stream) → Is s → KeepsFront s (f s)) → (streams : List Stream)
    → Is (stream_named id streams) → NumbersStay streams (stream_changed id f streams)
numbers_if Is id f same_id mids fronts streams is =
    record {
      mids = λ other. found_mapped SameMids other (unused_stream 0 0 0) (λ s. if s.id == id then f s else s) (λ s. one_id (s.id == id) s) (same_mids (unused_stream 0 0 0)) (λ s at. one_mids (s.id == id) s) streams;
      fronts = λ other. elim (decide other id) [
        | inl same ↦
            found_mapped (λ old new. Is old → KeepsFront old new) other (unused_stream 0 0 0) (λ s. if s.id == id then f s else s) (λ s. one_id (s.id == id) s) (λ is'. same_front (unused_stream 0 0 0))
            (λ s at is'. one_front (s.id == id) s is') streams (subst (λ (k : ℕ). Is (stream_named k streams)) (sym same) is)
        | inr apart ↦
            found_mapped KeepsFront other (unused_stream 0 0 0) (λ s. if s.id == id then f s else s) (λ s. one_id (s.id == id) s) (same_front (unused_stream 0 0 0))
            (λ s at. elim (eqb_tells s.id id) [
              | inl e ↦ absurd (apart (sym at ∙ e.1))
              | inr e ↦ rw e.0 (same_front s)
            ]) streams
      ];
    }
  where
    one_id : (b : Bool) (s : Stream) → (if b then f s else s).id ≡ s.id
    one_id true s = same_id s
    one_id false s = refl

    one_mids : (b : Bool) (s : Stream) → SameMids s (if b then f s else s)
    one_mids true s = mids s
    one_mids false s = same_mids s

    one_front : (b : Bool) (s : Stream) → Is s → KeepsFront s (if b then f s else s)
    one_front true s its = fronts s its
    one_front false s its = same_front s

-- one at a place is
pub numbers_set : (place : ℕ) (new : Stream) (streams : List Stream) → new.id ≡ (stream_at streams place).id → SameMids (stream_at streams place) new → KeepsFront (stream_at streams place) new
    → NumbersStay streams (slice_set streams place new)
numbers_set place new streams is mids front =
    record {
      mids = λ id. found_set SameMids id (unused_stream 0 0 0) new same_mids place streams is (λ here. mids);
      fronts = λ id. found_set KeepsFront id (unused_stream 0 0 0) new same_front place streams is (λ here. front);
    }

-- or is left by its message under way
abbrev pub LeavesFront : Stream → Stream → Type 0
LeavesFront old new = is_some new.under_way ≡ true → KeepsFront old new

pub numbers_left : (place : ℕ) (new : Stream) (streams : List Stream) → new.id ≡ (stream_at streams place).id → SameMids (stream_at streams place) new → new.under_way ≡ None → NumbersLeft streams (slice_set streams place new)
numbers_left place new streams is mids idle =
    record {
      mids = λ id. found_set SameMids id (unused_stream 0 0 0) new same_mids place streams is (λ here. mids);
      fronts = λ id. found_set LeavesFront id (unused_stream 0 0 0) new (λ s some. same_front s) place streams is (λ here some. absurd (let clash : false ≡ true = sym (ap is_some idle) ∙ some in cc));
    }

unused_mids : (s t : Stream) → AreUnused s t → SameMids s t
unused_mids s t are = record { ordered = sym (ap (λ (p : ℕ × ℕ). p.1) are.ordered); unordered = sym (ap (λ (p : ℕ × ℕ). p.1) are.unordered); ssn = sym (ap (λ (p : ℕ × ℕ). p.0) are.ordered) }

unused_front : (s t : Stream) → AreUnused s t → KeepsFront s t
unused_front s t are = record { under_way = are.idle_then ∙ sym are.idle; front = λ some. ap front_of (are.none_then ∙ sym are.none); kept = λ some e. ap is_handed_out are.pause ∙ e }

-- one is used for the first time
pub numbers_used : (queue : SendQueueState) (id : ℕ) → NumbersStay queue.streams (used_streams queue id)
numbers_used queue id =
    record {
      mids = λ other. found_used SameMids other queue id same_mids unused_mids;
      fronts = λ other. found_used KeepsFront other queue id same_front unused_front;
    }

-- that much leaves a stream
pub numbers_reduced : (place size : ℕ) (queue : SendQueueState) → NumbersStay queue.streams (reduced_queue place size queue).streams
numbers_reduced place size queue =
    numbers_set place (record (stream_at queue.streams place) { amount = (stream_at queue.streams place).amount - size }) queue.streams refl (record { ordered = refl; unordered = refl; ssn = refl })
    (front_kept (stream_at queue.streams place) (record (stream_at queue.streams place) { amount = (stream_at queue.streams place).amount - size }) refl refl (λ e. e))

-- its oldest message does, which isn't under way,
pub numbers_without : (place : ℕ) (streams : List Stream) → (stream_at streams place).under_way ≡ None → NumbersStay streams (slice_set streams place (without_front (stream_at streams place)))
numbers_without place streams idle =
    numbers_set place (without_front (stream_at streams place)) streams refl (record { ordered = refl; unordered = refl; ssn = refl })
    (record {
      under_way = sym idle;
      front = λ some. absurd (let clash : false ≡ true = sym (ap is_some idle) ∙ some in cc);
      kept = λ some e. e;
    })

-- or is
pub numbers_ended : (place : ℕ) (streams : List Stream) → NumbersLeft streams (slice_set streams place (without_front (stream_at streams place)))
numbers_ended place streams = numbers_left place (without_front (stream_at streams place)) streams refl (record { ordered = refl; unordered = refl; ssn = refl }) refl

-- what is left of a message leaves
pub numbers_rest : (place sent : ℕ) (message : Waiting) (queue : SendQueueState) → NumbersLeft queue.streams (without_rest place sent message queue).streams
numbers_rest place sent message queue =
    let reduced : SendQueueState = reduced_queue place (length message.payload - sent) queue in
    left_then queue.streams reduced.streams (without_rest place sent message queue).streams (numbers_reduced place (length message.payload - sent) queue) (numbers_ended place reduced.streams)

-- a message that is too old isn't under way
pub old_idle : (now : ℕ) (message : Waiting) (s : Stream) → is_too_old now message s ≡ true → s.under_way ≡ None
old_idle now message s is = go s.under_way is
  where
    go : (u : Option UnderWay) → (not (is_some u) && is_expired now message) ≡ true → u ≡ None
    go None e = refl
    go (Some u) e = absurd (cc)

-- the stream at a place, once something else of one was changed
reduced_idle : (place size : ℕ) (queue : SendQueueState) → (stream_at queue.streams place).under_way ≡ None → (stream_at (reduced_queue place size queue).streams place).under_way ≡ None
reduced_idle place size queue idle = (reduced_alike place size queue).under_ways place ∙ idle

-- messages are dropped
pub numbers_dropped : {P : Type 0} (now : ℕ) (old : SendQueueState) (events : List (Event P)) (new : SendQueueState) → Drops now old events new → NumbersStay old.streams new.streams
numbers_dropped now old events new drops_none = numbers_same old.streams
numbers_dropped now old events new (drops_more events' queue place message drops next front expired) =
    let reduced : SendQueueState = reduced_queue place (length message.payload - 0) queue in
    numbers_then old.streams queue.streams (without_rest place 0 message queue).streams (numbers_dropped now old events' queue drops)
    (numbers_then queue.streams reduced.streams (without_rest place 0 message queue).streams (numbers_reduced place (length message.payload - 0) queue)
    (numbers_without place reduced.streams (reduced_idle place (length message.payload - 0) queue (old_idle now message (stream_at queue.streams place) expired))))

-- what isn't of the streams
pub record IsAsBefore (old new : SendQueueState) : Type 0 where
  pub kind : new.is_interleaved ≡ old.is_interleaved
  pub turns : new.takes_turns ≡ old.takes_turns
  pub held : new.held ≡ old.held

pub as_dropped : {P : Type 0} (now : ℕ) (old : SendQueueState) (events : List (Event P)) (new : SendQueueState) → Drops now old events new → IsAsBefore old new
as_dropped now old events new drops_none = record { kind = refl; turns = refl; held = refl }
as_dropped now old events new (drops_more events' queue place message drops next front expired) =
    let before = as_dropped now old events' queue drops in
    record { kind = before.kind; turns = before.turns; held = before.held }

pub kind_dropped : {P : Type 0} (now : ℕ) (old : SendQueueState) (events : List (Event P)) (new : SendQueueState) → Drops now old events new → new.is_interleaved ≡ old.is_interleaved
kind_dropped now old events new drops = (as_dropped now old events new drops).kind
