-- What waits, once messages are interleaved otherwise than before.
use Rattle.std.proofs.Common.{◌≡◌, ℕ, Bool, true, false, ◌+◌, ◌%◌, ◌^◌, List, [], ◌∷◌, map, refl, sym, ◌∙◌, ap, arith, subst, inl}
use Rattle.std.specs.Prelude.{◌&&◌, ◌||◌, not, Option, None, Some, is_some, if◌then◌else◌}
use Rattle.dcsctp_spec.specs.types.declared.sending.UnderWay.{UnderWay}
use Rattle.dcsctp_spec.specs.types.queues.SendStreams.{stream_counted, Waiting, Stream, front_of, unused_stream}
use Rattle.dcsctp_spec.specs.queues.SendQueue.{message_renumbered, numbered_for, renumbered_under_way, is_other, is_front_unordered, SendQueueState}
use Rattle.dcsctp_spec.specs.queues.Sending.{may_be_abandoned}
use Rattle.dcsctp_delivery_directions.specs.sending.Log.{Message, new_history}
use Rattle.dcsctp_delivery_directions.specs.sending.Pieces.{IsGoing, Going, HoldsQueued}
use Rattle.dcsctp_delivery_directions.specs.sending.Queueing.{QueueWaits}
use Rattle.dcsctp_delivery_directions.specs.sending.Numbers.{stream_named, next_mid, is_handed_out, IsUnderWayKept, CountsByKind, HoldsWhole, NumbersMessages, is_always_whole}
use Rattle.dcsctp_delivery_directions.proofs.sending.StreamsNamed.{found_map, named_place}
use Rattle.dcsctp_delivery_directions.proofs.sending.Counting.{Begins, HasLastNumber, counts_rest, ssns_anew}
use Rattle.dcsctp_delivery_directions.proofs.sending.KeptQueues.{numbered_new, mapped_hold}

are_same : (a b : Bool) → is_other a b ≡ false → a ≡ b
are_same true true e = refl
are_same true false e = absurd (cc)
are_same false true e = absurd (cc)
are_same false false e = refl

-- ---- a stream that is numbered again

module _ (enabled : Bool) where
  -- What isn't its numbers is as before.
  record OthersStay (old new : Stream) : Type 0 where
    id : new.id ≡ old.id
    messages : new.messages ≡ old.messages
    pause : new.pause ≡ old.pause
    goes : is_some new.under_way ≡ is_some old.under_way

  counted : (kind : Bool) (s : Stream) (u : Option UnderWay) → is_some u ≡ is_some s.under_way → OthersStay s (record (stream_counted enabled kind s) { under_way = u })
  counted kind s u goes = go enabled kind
    where
      go : (a b : Bool) → OthersStay s (record (stream_counted a b s) { under_way = u })
      go true true = record { id = refl; messages = refl; pause = refl; goes = goes }
      go true false = record { id = refl; messages = refl; pause = refl; goes = goes }
      go false true = record { id = refl; messages = refl; pause = refl; goes = goes }
      go false false = record { id = refl; messages = refl; pause = refl; goes = goes }

  renumbered_others : (s : Stream) → OthersStay s (renumbered_under_way enabled s)
  renumbered_others s = go s.under_way
    where
      go : (u : Option UnderWay) → OthersStay (record s { under_way = u }) (renumbered_under_way enabled (record s { under_way = u }))
      go None = record { id = refl; messages = refl; pause = refl; goes = refl }
      go (Some u) = counted (is_front_unordered s.messages) (record s { under_way = Some u }) (Some (message_renumbered u (record s { under_way = Some u }))) refl

  renumbered_goes : (s : Stream) (u : UnderWay) → s.under_way ≡ Some u → (renumbered_under_way enabled s).under_way ≡ Some (message_renumbered u s)
  renumbered_goes s u is = rw is refl

  renumbered_idle : (s : Stream) → s.under_way ≡ None → (renumbered_under_way enabled s).under_way ≡ None
  renumbered_idle s is = rw is refl

  renumbered_going : (queued : List Message) (s : Stream) → Going queued [] s s.under_way → Going queued [] (renumbered_under_way enabled s) (renumbered_under_way enabled s).under_way
  renumbered_going queued s going = go s.under_way refl going
    where
      others : OthersStay s (renumbered_under_way enabled s)
      others = renumbered_others s

      go : (u : Option UnderWay) → s.under_way ≡ u → Going queued [] s u → Going queued [] (renumbered_under_way enabled s) (renumbered_under_way enabled s).under_way
      go None is g = subst (λ (v : Option UnderWay). Going queued [] (renumbered_under_way enabled s) v) (sym (renumbered_idle s is)) tt
      go (Some u) is g =
          subst (λ (v : Option UnderWay). Going queued [] (renumbered_under_way enabled s) v) (sym (renumbered_goes s u is))
          (record {
            place = g.place;
            message = g.message;
            at = g.at;
            unfinished = g.unfinished;
            begun = g.begun;
            is = others.id ∙ g.is;
            waiting = g.waiting;
            front = ap front_of others.messages ∙ g.front;
            named = g.named;
            came = inl refl;
          })

-- a message that takes the next number of its stream has the last one
unordered_front : (l : List Waiting) (w : Waiting) → front_of l ≡ Some w → is_front_unordered l ≡ w.is_unordered
unordered_front [] w e = absurd (cc)
unordered_front (v ∷ l) w e = (let same : v ≡ w = cc in ap (λ (x : Waiting). x.is_unordered) same)

counts_up : (b : Bool) (s : Stream) (u : Option UnderWay) → next_mid b (record (stream_counted true b s) { under_way = u }) ≡ (next_mid b s + 1) % 2 ^ 32
counts_up true s u = refl
counts_up false s u = refl

next_counted : (s : Stream) (u : UnderWay) (kind : Bool) → s.under_way ≡ Some u → is_front_unordered s.messages ≡ kind → next_mid kind (renumbered_under_way true s) ≡ (next_mid kind s + 1) % 2 ^ 32
next_counted s u kind is same =
    subst (λ (v : Option UnderWay). next_mid kind (renumbered_under_way true (record s { under_way = v })) ≡ (next_mid kind (record s { under_way = v }) + 1) % 2 ^ 32) (sym is)
    (ap (λ (b : Bool). next_mid kind (record (stream_counted true b t) { under_way = Some (message_renumbered u t) })) same ∙ counts_up kind t (Some (message_renumbered u t)))
  where
    t : Stream
    t = record s { under_way = Some u }

next_renumbered : (s : Stream) (u v : UnderWay) (w : Waiting) → s.under_way ≡ Some u → (renumbered_under_way true s).under_way ≡ Some v → front_of s.messages ≡ Some w
    → next_mid w.is_unordered (renumbered_under_way true s) % 2 ^ 32 ≡ (v.mid + 1) % 2 ^ 32
next_renumbered s u v w is is' front =
    let both : Some (message_renumbered u s) ≡ Some v = sym (renumbered_goes true s u is) ∙ is' in
    let same : message_renumbered u s ≡ v = cc in
    let kind : is_front_unordered s.messages ≡ w.is_unordered = unordered_front s.messages w front in
    let mid : v.mid ≡ next_mid w.is_unordered s = ap (λ (x : UnderWay). x.mid) (sym same) ∙ ap (λ (b : Bool). next_mid b s) kind in
    let next : next_mid w.is_unordered (renumbered_under_way true s) ≡ (next_mid w.is_unordered s + 1) % 2 ^ 32 = next_counted s u w.is_unordered is kind in
    omega (arith, mid, next)

-- ---- the queue

pub numbered_kind : (enabled : Bool) (window : ℕ) (queue : SendQueueState) → (numbered_for enabled window queue).is_interleaved ≡ enabled
numbered_kind enabled window queue = refl

-- where streams take no turns each message is kept whole
whole_always : (w : Waiting) (queue : SendQueueState) → queue.takes_turns ≡ false → is_always_whole w queue ≡ true
whole_always w queue off = ap (λ (b : Bool). may_be_abandoned w || not (queue.is_interleaved && b)) off ∙ go (may_be_abandoned w) queue.is_interleaved
  where
    go : (a b : Bool) → (a || not (b && false)) ≡ true
    go true b = refl
    go false true = refl
    go false false = refl

-- No message is under way, or streams take no turns.
abbrev pub MayRenumber : SendQueueState → Type 0
MayRenumber queue = (id : ℕ) → is_some (stream_named id queue.streams).under_way ≡ true → queue.takes_turns ≡ false

pub numbered_hold : (queued : List Message) (enabled : Bool) (window : ℕ) (queue : SendQueueState) → MayRenumber queue → QueueWaits queued queue → QueueWaits queued (numbered_for enabled window queue)
numbered_hold queued enabled window queue may waits = go (is_other queue.is_interleaved enabled) refl
  where
    queue_holds : HoldsQueued queued [] queue.streams
    queue_holds = waits.holds.queue_holds

    numbers : NumbersMessages (new_history waits.floors) queue
    numbers = waits.holds.numbers

    anew : SendQueueState
    anew = record queue { is_interleaved = enabled; window = window; streams = map (renumbered_under_way enabled) queue.streams }

    -- the stream of a number
    named : (id : ℕ) → stream_named id anew.streams ≡ renumbered_under_way enabled (stream_named id queue.streams)
    named id = found_map (unused_stream 0 0 0) (renumbered_under_way enabled) (λ s. (renumbered_others enabled s).id) refl id queue.streams

    others : (id : ℕ) → OthersStay enabled (stream_named id queue.streams) (stream_named id anew.streams)
    others id = subst (λ (t : Stream). OthersStay enabled (stream_named id queue.streams) t) (sym (named id)) (renumbered_others enabled (stream_named id queue.streams))

    was : (id : ℕ) → is_some (stream_named id anew.streams).under_way ≡ true → is_some (stream_named id queue.streams).under_way ≡ true
    was id some = sym (others id).goes ∙ some

    kept : IsUnderWayKept anew.streams
    kept id some = ap is_handed_out (others id).pause ∙ numbers.kept id (was id some)

    whole : HoldsWhole [] anew
    whole =
        record {
          each = λ id w some front keeps. numbers.whole.each id w (was id some) (ap front_of (sym (others id).messages) ∙ front) (whole_always w queue (may id (was id some)));
          held = λ id is. (others id).goes ∙ numbers.whole.held id is;
          newest = λ id is. tt;
        }

    begins : (b : Bool) → enabled ≡ b → Begins b anew.streams queue.held
    begins false is = ssns_anew anew.streams queue.held
    begins true is = counts_rest anew.streams queue.held (λ id v goes. last id v goes (was id (ap is_some goes)))
      where
        last : (id : ℕ) (v : UnderWay) → (stream_named id anew.streams).under_way ≡ Some v → is_some (stream_named id queue.streams).under_way ≡ true → HasLastNumber anew.streams id v
        last id v goes some =
            let (q, within, at, same) = named_place id queue.streams some in
            by_going (stream_named id queue.streams).under_way refl (subst (λ (s : Stream). Going queued [] s s.under_way) (sym same) (queue_holds.going q)) some
          where
            by_going : (u : Option UnderWay) → (stream_named id queue.streams).under_way ≡ u → Going queued [] (stream_named id queue.streams) (stream_named id queue.streams).under_way → is_some (stream_named id queue.streams).under_way ≡ true → HasLastNumber anew.streams id v
            by_going None e going some = absurd (let clash : false ≡ true = sym (ap is_some e) ∙ some in cc)
            by_going (Some u) e going some =
                let g : IsGoing queued [] (stream_named id queue.streams) u = subst (λ (x : Option UnderWay). Going queued [] (stream_named id queue.streams) x) e going in
                let so : renumbered_under_way enabled (stream_named id queue.streams) ≡ renumbered_under_way true (stream_named id queue.streams) = ap (λ (b : Bool). renumbered_under_way b (stream_named id queue.streams)) is in
                record {
                  waiting = g.waiting;
                  front = ap front_of (others id).messages ∙ g.front;
                  next = ap (λ (s : Stream). next_mid g.waiting.is_unordered s % 2 ^ 32) (named id ∙ so)
                      ∙ next_renumbered (stream_named id queue.streams) u v g.waiting e (ap (λ (s : Stream). s.under_way) (sym (named id ∙ so)) ∙ goes) g.front;
                }

    go : (b : Bool) → is_other queue.is_interleaved enabled ≡ b → QueueWaits queued (record queue { is_interleaved = enabled; window = window; streams = if b then map (renumbered_under_way enabled) queue.streams else queue.streams })
    go true other =
        let begun = begins enabled refl in
        record {
          floors = begun.floors;
          holds = record {
            queue_holds = mapped_hold queued (renumbered_under_way enabled) (λ s. (renumbered_others enabled s).id) (λ s. (renumbered_others enabled s).messages) (renumbered_going enabled queued) queue.streams queue_holds;
            next = waits.holds.next;
            numbers = numbered_new anew begun kept whole;
          };
        }
    go false other =
        let same = are_same queue.is_interleaved enabled other in
        record {
          floors = waits.floors;
          holds = record {
            queue_holds = queue_holds;
            next = waits.holds.next;
            numbers = record {
              kinds = λ n f at. absurd (cc);
              counts = subst (λ (b : Bool). CountsByKind b (new_history waits.floors) queue.streams queue.held) same numbers.counts;
              kept = numbers.kept;
              whole = record {
                each = λ id w some front keeps. numbers.whole.each id w some front (whole_always w queue (may id some));
                held = numbers.whole.held;
                newest = λ id is. tt;
              };
              rests = λ id none f at. absurd (cc);
            };
          };
        }
