-- A reset of our streams that a flush begins.
use Rattle.std.proofs.Common.{Bool, ◌≡◌, ℕ, zero, suc, true, false, ◌<◌, ◌+◌, ◌-◌, ◌%◌, ◌^◌, List, [], ◌∷◌, length, map, take, refl, sym, ◌∙◌, ap, arith, subst, inl, inr}
use Rattle.std.specs.Prelude.{Option, None, Some, is_some, slice_get}
use Rattle.dcsctp_spec.specs.types.declared.association.Held.{Held}
use Rattle.dcsctp_spec.specs.types.queues.SendStreams.{Stream}
use Rattle.dcsctp_spec.specs.queues.Items.{Item}
use Rattle.dcsctp_spec.specs.queues.OwnResets.{ready_streams}
use Rattle.dcsctp_spec.specs.queues.Retransmission.{RetransmissionState}
use Rattle.dcsctp_spec.specs.queues.SendQueue.{SendQueueState}
use Rattle.dcsctp_spec.specs.queues.Sending.{Fragment}
use Rattle.dcsctp_spec.specs.endpoint.BegunResets.{BegunReset, streams_within, last_assigned_tsn, stream_field, begun_if_ready, queue_requesting, retransmission_begun}
use Rattle.dcsctp_spec.specs.endpoint.FlushOutcomes.{Ask, first_ask, later_ask, begun_by_ask}
use Rattle.dcsctp_delivery_directions.specs.sending.Log.{Message, Slot, Mark, History, with_mark}
use Rattle.dcsctp_delivery_directions.specs.sending.Pieces.{HoldsQueued}
use Rattle.dcsctp_delivery_directions.specs.sending.Stages.{IsNamedFragment, Bears, Pends, IsMark, AreMarks}
use Rattle.dcsctp_delivery_directions.proofs.sending.Places.{at_below}
use Rattle.dcsctp_delivery_directions.proofs.sending.Handing.{AreIdle, none_handed, requesting_stay}
use Rattle.dcsctp_delivery_directions.proofs.sending.Numbers.{NumbersStay}

-- ---- what is in flight lies before it

place_below : (items : List Item) (k : ℕ) (item : Item) → slice_get items k ≡ Some item → k < length items
place_below [] zero item at = absurd (cc)
place_below [] (suc k) item at = absurd (cc)
place_below (i ∷ items) zero item at = omega arith
place_below (i ∷ items) (suc k) item at = omega (arith, place_below items k item at)

named_marked : (history : History) (begun : BegunReset) (ids : List ℕ) (own : ℕ) (part : Fragment) → own < length history.log → IsNamedFragment history own part → IsNamedFragment (with_mark (Some begun) ids (length history.log) history) own part
named_marked history begun ids own part below n =
    record {
      number = n.number;
      piece = n.piece;
      at = n.at;
      of = n.of;
      whole = λ mark has names less. elim has [
        | inl e ↦ (let bound : mark.bound ≡ length history.log = ap (λ (m : Mark). m.bound) e in omega (arith, below))
        | inr old ↦ n.whole mark old names less
      ];
      stream = n.stream;
      unordered = n.unordered;
      mid = n.mid;
      ssn = n.ssn;
      up_to = n.up_to;
      tail = n.tail;
      limits = n.limits;
    }

pub bears_marked : (history : History) (first acknowledged : ℕ) (begun : Option BegunReset) (ids : List ℕ) (state : RetransmissionState) → Bears history first acknowledged state.outstanding
    → Bears (with_mark begun ids (length history.log) history) first acknowledged (retransmission_begun begun state).outstanding
bears_marked history first acknowledged None ids state b = b
bears_marked history first acknowledged (Some begun) ids state b =
    record {
      tsn = b.tsn;
      count = b.count;
      items = b.items;
      named = λ k item at. named_marked history begun ids (acknowledged + k) item.fragment (omega (arith, b.count, place_below state.outstanding.items k item at)) (b.named k item at);
      splits = λ mark has k item at is. elim has [
        | inl e ↦
            (let bound : mark.bound ≡ length history.log = ap (λ (m : Mark). m.bound) e in
            let below : k < length state.outstanding.items = place_below state.outstanding.items k item at in
            absurd (omega (arith, is, b.count)))
        | inr old ↦ b.splits mark old k item at is
      ];
      abandoned = b.abandoned;
      whole = λ kind none. absurd (cc);
    }

-- What is sent next says so.
pub pends_marked : (history : History) (begun : Option BegunReset) (ids : List ℕ) (state : RetransmissionState) → Pends history state.reset_begun → Pends (with_mark begun ids (length history.log) history) (retransmission_begun begun state).reset_begun
pends_marked history None ids state pends = pends
pends_marked history (Some begun) ids state pends = record { next = λ mark has is. refl; none = λ is none. absurd (cc) }

-- ---- the new mark

-- The reset of these streams is begun with this last TSN.
pub record IsBegun (last_tsn : ℕ) (streams : List Stream) (begun : BegunReset) (ids : List ℕ) : Type 0 where
  pub last : begun.reset.last_tsn ≡ last_tsn
  pub fields : begun.reset.streams ≡ map stream_field ids
  pub other : AreIdle streams ids

where_begun : (follows : Bool) (outstanding : Option ℕ) (number last_tsn : ℕ) (streams : List ℕ) (begun : BegunReset) → Some begun ≡ begun_if_ready follows outstanding number last_tsn streams
    → (begun.reset.last_tsn ≡ last_tsn) × (begun.reset.streams ≡ streams)
where_begun follows (Some n) number last_tsn streams begun is = absurd (cc)
where_begun follows None number last_tsn [] begun is = absurd (cc)
where_begun follows None number last_tsn (s ∷ streams) begun is =
    let same : begun ≡ record { number = number; reset = record { last_tsn = last_tsn; streams = s ∷ streams; is_new = follows } } = cc in
    (ap (λ (b : BegunReset). b.reset.last_tsn) same, ap (λ (b : BegunReset). b.reset.streams) same)

-- A stream with a message under way isn't ready.
pub is_begun : (queued : List Message) (log : List Slot) (ask : Ask) (follows : Bool) (held : Option Held) (room last_tsn : ℕ) (queue : SendQueueState) (begun : BegunReset) → Some begun ≡ begun_by_ask ask follows held room last_tsn queue
    → HoldsQueued queued log queue.streams → IsBegun last_tsn queue.streams begun (take (streams_within room) (ready_streams queue))
is_begun queued log later_ask follows held room last_tsn queue begun is queue_holds = absurd (cc)
is_begun queued log first_ask follows None room last_tsn queue begun is queue_holds = absurd (cc)
is_begun queued log first_ask follows (Some held) room last_tsn queue begun is queue_holds =
    let ids : List ℕ = take (streams_within room) (ready_streams queue) in
    let names = where_begun follows held.own_outstanding held.own_next last_tsn (map stream_field ids) begun is in
    record {
      last = names.0;
      fields = names.1;
      other = none_handed queued log (streams_within room) queue queue_holds;
    }

last_assigned : (history : History) (first acknowledged : ℕ) (state : RetransmissionState) → Bears history first acknowledged state.outstanding → last_assigned_tsn state ≡ (first + length history.log + (2 ^ 32 - 1)) % 2 ^ 32
last_assigned history first acknowledged state b = (let tsn = b.tsn in let count = b.count in grind (arith, tsn, count))

mark_more : (history : History) (first : ℕ) (streams : List Stream) (begun : BegunReset) (ids : List ℕ) → IsBegun ((first + length history.log + (2 ^ 32 - 1)) % 2 ^ 32) streams begun ids → AreMarks history first streams
    → AreMarks (with_mark (Some begun) ids (length history.log) history) first streams
mark_more history first streams begun ids is marks mark (inl e) =
    subst (λ (m : Mark). IsMark (with_mark (Some begun) ids (length history.log) history) first streams m) (sym e)
    (record {
      within = omega arith;
      last = is.last;
      fields = is.fields;
      sides = λ m n f g at at' same names less. at_below n (Some g) history.log at';
      going = λ id some names. absurd (let clash : false ≡ true = sym (ap is_some (is.other id names)) ∙ some in cc);
    })
mark_more history first streams begun ids is marks mark (inr has) =
    let old = marks mark has in
    record { within = old.within; last = old.last; fields = old.fields; sides = old.sides; going = old.going }

-- what is under way on streams that are handed out is as it was
marks_requested : (history : History) (first : ℕ) (old new : List Stream) → NumbersStay old new → AreMarks history first old → AreMarks history first new
marks_requested history first old new stay marks mark has =
    let m = marks mark has in
    record { within = m.within; last = m.last; fields = m.fields; sides = m.sides; going = λ id some. m.going id (sym (ap is_some (stay.fronts id).under_way) ∙ some) }

pub marks_marked : (queued : List Message) (ask : Ask) (follows : Bool) (held : Option Held) (room : ℕ) (history : History) (first acknowledged : ℕ) (begun : Option BegunReset) (queue : SendQueueState) (state : RetransmissionState)
    → HoldsQueued queued history.log queue.streams → Bears history first acknowledged state.outstanding → begun ≡ begun_by_ask ask follows held room (last_assigned_tsn state) queue → AreMarks history first queue.streams
    → AreMarks (with_mark begun (take (streams_within room) (ready_streams queue)) (length history.log) history) first (queue_requesting (streams_within room) begun queue).streams
marks_marked queued ask follows held room history first acknowledged None queue state queue_holds b is marks = marks
marks_marked queued ask follows held room history first acknowledged (Some begun) queue state queue_holds b is marks =
    marks_requested (with_mark (Some begun) (take (streams_within room) (ready_streams queue)) (length history.log) history) first queue.streams (queue_requesting (streams_within room) (Some begun) queue).streams
    (requesting_stay queued history.log (streams_within room) (Some begun) queue queue_holds)
    (mark_more history first queue.streams begun (take (streams_within room) (ready_streams queue))
    (subst (λ (tsn : ℕ). IsBegun tsn queue.streams begun (take (streams_within room) (ready_streams queue))) (last_assigned history first acknowledged state b)
    (is_begun queued history.log ask follows held room (last_assigned_tsn state) queue begun is queue_holds)) marks)
