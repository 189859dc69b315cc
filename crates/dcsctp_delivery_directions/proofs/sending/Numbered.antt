-- How messages are counted, while those under way stay or end.
use Rattle.std.proofs.Common.{◌≡◌, ℕ, Bool, true, false, ◌+◌, ◌%◌, ◌^◌, List, refl, sym, ◌∙◌, ap, arith, subst, ◌∷◌}
use Rattle.std.specs.Prelude.{◌&&◌, ◌||◌, not, Option, None, Some, is_some}
use Rattle.dcsctp_spec.specs.types.declared.ids.StreamId.{StreamId}
use Rattle.dcsctp_spec.specs.types.declared.sending.UnderWay.{UnderWay}
use Rattle.dcsctp_spec.specs.types.queues.SendStreams.{Waiting, Stream}
use Rattle.dcsctp_spec.specs.queues.SendQueue.{SendQueueState}
use Rattle.dcsctp_spec.specs.endpoint.Event.{Event}
use Rattle.dcsctp_spec.specs.queues.Sending.{Drops, may_be_abandoned}
use Rattle.dcsctp_delivery_directions.specs.sending.Log.{Slot, History, with_slot}
use Rattle.dcsctp_delivery_directions.specs.sending.Turns.{IsSsnOfTurn}
use Rattle.dcsctp_delivery_directions.specs.sending.Numbers.{stream_named, IsUnderWayKept, IsLastBegun, LastIs, CountsMessages, CountsTurns, CountsByKind, HoldsWhole, NumbersMessages, is_always_whole, RestAtEnds}
use Rattle.dcsctp_delivery_directions.proofs.sending.Places.{at_below}
use Rattle.dcsctp_delivery_directions.proofs.sending.Turns.{turn_old}
use Rattle.dcsctp_delivery_directions.proofs.sending.Stages.{with_none}
use Rattle.dcsctp_delivery_directions.proofs.sending.Numbers.{KeepsFront, NumbersStay, NumbersLeft, stay_left, mid_stays, IsAsBefore, as_dropped, numbers_dropped}
use Rattle.dcsctp_delivery_directions.proofs.sending.Counted.{begun_more}

pub counts_left : (history : History) (old new : List Stream) → NumbersLeft old new → CountsMessages history old → CountsMessages history new
counts_left history old new left counts =
    record {
      counts = counts.counts;
      few = counts.few;
      next = λ id b. ap (λ (k : ℕ). k % 2 ^ 32) (mid_stays b (stream_named id old) (stream_named id new) (left.mids id)) ∙ counts.next id b;
      below = counts.below;
      apart = counts.apart;
      going = λ id. go id (stream_named id new).under_way refl;
      dense = counts.dense;
    }
  where
    go : (id : ℕ) (u : Option UnderWay) → (stream_named id new).under_way ≡ u → LastIs history new counts.counts id u
    go id None is = tt
    go id (Some v) is =
        let keeps = left.fronts id (ap is_some is) in
        let was : (stream_named id old).under_way ≡ Some v = sym keeps.under_way ∙ is in
        let last : IsLastBegun history old counts.counts id v = subst (λ (u : Option UnderWay). LastIs history old counts.counts id u) was (counts.going id) in
        record { waiting = last.waiting; front = keeps.front (ap is_some was) ∙ last.front; mid = last.mid; is = last.is; from = last.from; last = last.last; came = last.came }

pub turns_left : (id : ℕ) (log : List Slot) (old new : List Stream) → NumbersLeft old new → CountsTurns id log old → CountsTurns id log new
turns_left id log old new left c =
    record {
      next = ap (λ (k : ℕ). k % 2 ^ 16) (left.mids id).ssn ∙ c.next;
      sent = c.sent;
      going = λ v is. (
          let keeps = left.fronts id (ap is_some is) in
          let was : (stream_named id old).under_way ≡ Some v = sym keeps.under_way ∙ is in
          let g = c.going v was in
          record { waiting = g.waiting; front = keeps.front (ap is_some was) ∙ g.front; last = g.last }
          );
    }

pub where_left : (b : Bool) (history : History) (old new : List Stream) (held held' : Option StreamId) → NumbersLeft old new → (held' ≡ None → held ≡ None) → CountsByKind b history old held → CountsByKind b history new held'
where_left false history old new held held' left free counts =
    record { turns = λ id start. turns_left id history.log old new left (counts.turns id start); closes = counts.closes; rests = λ none. counts.rests (free none) }
where_left true history old new held held' left free counts = counts_left history old new left counts

pub where_stay : (b : Bool) (history : History) (old new : List Stream) (held : Option StreamId) → NumbersStay old new → CountsByKind b history old held → CountsByKind b history new held
where_stay b history old new held stay counts = where_left b history old new held held (stay_left old new stay) (λ none. none) counts

pub kept_left : (old new : List Stream) → NumbersLeft old new → IsUnderWayKept old → IsUnderWayKept new
kept_left old new left kept id some =
    let keeps = left.fronts id some in
    let was : is_some (stream_named id old).under_way ≡ true = sym (ap is_some keeps.under_way) ∙ some in
    keeps.kept was (kept id was)

pub kept_stays : (old new : List Stream) → NumbersStay old new → IsUnderWayKept old → IsUnderWayKept new
kept_stays old new stay kept = kept_left old new (stay_left old new stay) kept

pub rests_stay : (log : List Slot) (old new : List Stream) → ((id : ℕ) → (stream_named id new).under_way ≡ (stream_named id old).under_way) → RestAtEnds log old → RestAtEnds log new
rests_stay log old new same rests id none = rests id (sym (same id) ∙ none)

-- which messages are kept whole depends on how the queue numbers
pub whole_as : (w : Waiting) (old new : SendQueueState) → new.is_interleaved ≡ old.is_interleaved → new.takes_turns ≡ old.takes_turns → is_always_whole w new ≡ is_always_whole w old
whole_as w old new kind turns =
    ap (λ (b : Bool). may_be_abandoned w || not (b && new.takes_turns)) kind ∙ ap (λ (b : Bool). may_be_abandoned w || not (old.is_interleaved && b)) turns

pub whole_stays : (log : List Slot) (old new : SendQueueState) → IsAsBefore old new → ((id : ℕ) → KeepsFront (stream_named id old.streams) (stream_named id new.streams)) → HoldsWhole log old → HoldsWhole log new
whole_stays log old new alike fronts whole =
    record {
      each = λ id w some front kept. (
          let keeps = fronts id in
          let was : is_some (stream_named id old.streams).under_way ≡ true = sym (ap is_some keeps.under_way) ∙ some in
          alike.held ∙ whole.each id w was (sym (keeps.front was) ∙ front) (sym (whole_as w old new alike.kind alike.turns) ∙ kept)
          );
      held = λ id is. ap is_some (fronts id).under_way ∙ whole.held id (sym alike.held ∙ is);
      newest = λ id is. whole.newest id (sym alike.held ∙ is);
    }

-- a queue that is numbered as another
pub numbered_as : (history : History) (old new : SendQueueState) → IsAsBefore old new → NumbersStay old.streams new.streams → NumbersMessages history old → NumbersMessages history new
numbered_as history old new alike stay numbers =
    record {
      kinds = λ n f at. numbers.kinds n f at ∙ sym alike.kind;
      counts = subst (λ (b : Bool). CountsByKind b history new.streams new.held) (sym alike.kind)
          (subst (λ (h : Option StreamId). CountsByKind old.is_interleaved history new.streams h) (sym alike.held) (where_stay old.is_interleaved history old.streams new.streams old.held stay numbers.counts));
      kept = kept_stays old.streams new.streams stay numbers.kept;
      whole = whole_stays history.log old new alike stay.fronts numbers.whole;
      rests = rests_stay history.log old.streams new.streams (λ id. (stay.fronts id).under_way) numbers.rests;
    }

pub numbered_stay : (history : History) (old new : SendQueueState) → new.is_interleaved ≡ old.is_interleaved → new.takes_turns ≡ old.takes_turns → new.held ≡ old.held → NumbersStay old.streams new.streams → NumbersMessages history old
    → NumbersMessages history new
numbered_stay history old new kind turns held stay numbers = numbered_as history old new (record { kind = kind; turns = turns; held = held }) stay numbers

-- messages are dropped that aren't under way
pub numbered_dropped : {P : Type 0} (history : History) (now : ℕ) (old : SendQueueState) (events : List (Event P)) (new : SendQueueState) → Drops now old events new → NumbersMessages history old → NumbersMessages history new
numbered_dropped history now old events new drops numbers = numbered_as history old new (as_dropped now old events new drops) (numbers_dropped now old events new drops) numbers

-- a message under way ends, and its end takes a TSN
counts_ended : (history : History) (streams : List Stream) → CountsMessages history streams → CountsMessages (with_slot None history) streams
counts_ended history streams counts =
    record {
      counts = counts.counts;
      few = λ id b. (let few = counts.few id b in omega (arith, few));
      next = counts.next;
      below = λ n f at. counts.below n f (with_none history.log n f at);
      apart = λ m n f g at at'. counts.apart m n f g (with_none history.log m f at) (with_none history.log n g at');
      going = λ id. go id (stream_named id streams).under_way (counts.going id);
      dense = λ id anew k less. begun_more None history.log id (history.floors id false + k) (counts.dense id anew k less);
    }
  where
    go : (id : ℕ) (u : Option UnderWay) → LastIs history streams counts.counts id u → LastIs (with_slot None history) streams counts.counts id u
    go id None last = tt
    go id (Some v) last = record { waiting = last.waiting; front = last.front; mid = last.mid; is = last.is; from = last.from; last = last.last; came = last.came }

where_ended : (b : Bool) (history : History) (held held' : Option StreamId) (streams : List Stream) → CountsByKind b history streams held → CountsByKind b (with_slot None history) streams held'
where_ended false history held held' streams counts =
    record {
      turns = λ id start. (
          let c = counts.turns id (record { floor = start.floor; none = start.none }) in
          record {
            next = c.next;
            sent = λ n f at on ordered. (
                let at' = with_none history.log n f at in
                subst (λ (k : ℕ). IsSsnOfTurn f.ssn k) (sym (turn_old id n None history.log (at_below n (Some f) history.log at'))) (c.sent n f at' on ordered)
                );
            going = λ v is. (let g = c.going v is in record { waiting = g.waiting; front = g.front; last = g.last });
          }
          );
      closes = λ n f g at at'. counts.closes n f g (with_none history.log n f at) (with_none history.log (n + 1) g at');
      rests = λ idle f at. absurd (cc);
    }
where_ended true history held held' streams counts = counts_ended history streams counts

pub numbered_ended : (history : History) (old new : SendQueueState) → new.is_interleaved ≡ old.is_interleaved → NumbersLeft old.streams new.streams → HoldsWhole (None ∷ history.log) new → RestAtEnds (None ∷ history.log) new.streams → NumbersMessages history old
    → NumbersMessages (with_slot None history) new
numbered_ended history old new kind left whole rests numbers =
    record {
      kinds = λ n f at. numbers.kinds n f (with_none history.log n f at) ∙ sym kind;
      counts = subst (λ (b : Bool). CountsByKind b (with_slot None history) new.streams new.held) (sym kind)
          (where_left old.is_interleaved (with_slot None history) old.streams new.streams new.held new.held left (λ none. none)
          (where_ended old.is_interleaved history old.held new.held old.streams numbers.counts));
      kept = kept_left old.streams new.streams left numbers.kept;
      whole = whole;
      rests = rests;
    }
