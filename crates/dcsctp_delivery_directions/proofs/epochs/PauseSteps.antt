-- The steps in which a user resets streams, a reset is performed, and one ends.
use Rattle.std.proofs.Common.{◌≡◌, ℕ, zero, suc, Bool, true, false, ◌<◌, ◌≤◌, ◌^◌, List, [], ◌∷◌, length, map, take, refl, sym, ◌∙◌, ap, arith, subst, inl, inr}
use Rattle.std.specs.Prelude.{◌&&◌, Option, None, Some, if◌then◌else◌}
use Rattle.std.specs.List.{AllByRecursion}
use Rattle.dcsctp_spec.specs.types.queues.SendStreams.{Waiting, Stream}
use Rattle.dcsctp_spec.specs.queues.Incoming.{is_named}
use Rattle.dcsctp_spec.specs.queues.OwnResets.{is_open_pause, count_under_way, prepared_all, queue_committed}
use Rattle.dcsctp_spec.specs.queues.Reassembly.{names_stream}
use Rattle.dcsctp_delivery_directions.specs.sending.Log.{Piece, Mark}
use Rattle.dcsctp_delivery_directions.specs.sending.Numbers.{is_handed_out, stream_named}
use Rattle.dcsctp_delivery_directions.specs.sending.Places.{HasEntry, at_place}
use Rattle.dcsctp_delivery_directions.proofs.receiving.Arriving.{fits_at}
use Rattle.dcsctp_delivery_directions.specs.directions.Directions.{MayReset, all_ended, Direction}
use Rattle.dcsctp_delivery_directions.proofs.directions.Performing.{named_field}
use Rattle.dcsctp_delivery_directions.proofs.directions.Queued.{newest_out}
use Rattle.dcsctp_delivery_directions.proofs.directions.Standing.{Stands}
use Rattle.dcsctp_delivery_directions.specs.order.Queue.{Cut}
use Rattle.dcsctp_delivery_directions.specs.epochs.Cuts.{cut_added, cuts_ended}
use Rattle.dcsctp_delivery_directions.specs.epochs.Sending.{AllFrom, EpochBounds, asked_with, asked_ended, is_open, HaltsIfAsked, SendsByEpoch, IsKnown}
use Rattle.dcsctp_delivery_directions.proofs.epochs.AskedBounds.{AreAsked, may_named}
use Rattle.dcsctp_delivery_directions.proofs.epochs.Ending.{IsEndedAs, ended, still, committing_named}
use Rattle.dcsctp_delivery_directions.proofs.epochs.Pauses.{IsReported, PauseStands, NewestIsReported, MoreReported, reported_later}
use Rattle.dcsctp_delivery_directions.proofs.epochs.Preparing.{IsPreparedAs, paused, left, preparing_named}
use Rattle.dcsctp_delivery_directions.proofs.epochs.SentBefore.{empty_named}
use Rattle.dcsctp_delivery_directions.proofs.epochs.Waits.{first_from}

-- ---- the user resets a stream

both_of : (b c : Bool) → (b && c) ≡ true → (b ≡ true) × (c ≡ true)
both_of true true is = (refl, refl)
both_of true false is = absurd (cc)
both_of false c is = absurd (cc)

module _ (id first : ℕ) (old : Direction) (s : Stands first old) (asked : ℕ → EpochBounds) (cuts : ℕ → List Cut) (e : SendsByEpoch (length old.queued) s.history old.queues.queue id (asked id)) (known : is_open id old.queues.queue.streams ≡ false → IsKnown (asked id))
    (are : AreAsked old.beginning asked) (ids : List ℕ) (may : AllByRecursion (MayReset old.beginning (length old.queued) old.queues.queue.streams) ids) (named : is_named ids id ≡ true) (empty : old.beginning.empties id (length old.queued) ≡ true) where
  abbrev prepared_direction : Direction
  prepared_direction = record old { queues = record old.queues { queue = prepared_all ids old.queues.queue }; prepared = record { ids = ids; count = length old.queued } ∷ old.prepared }

  abbrev asked_now : ℕ → EpochBounds
  asked_now = asked_with ids old.queues.queue.streams (length old.queued) asked

  nothing : (stream_named id old.queues.queue.streams).messages ≡ []
  nothing = empty_named old.beginning (length old.queued) old.queues.queue.streams id ids may named empty

  pub pause_made : PauseStands prepared_direction s.history.log asked_now cuts id (length old.queued)
  pause_made = go (preparing_named ids old.queues.queue id)
    where
      new : Stream
      new = stream_named id (prepared_all ids old.queues.queue).streams

      from_nothing : (k : ℕ) → AllFrom (length old.queued) (take k (stream_named id old.queues.queue.streams).messages)
      from_nothing k = first_from k (length old.queued) (stream_named id old.queues.queue.streams).messages (subst (λ (l : List Waiting). AllFrom (length old.queued) l) (sym nothing) tt)

      halted : (o : Option ℕ) (place : ℕ) → o ≡ Some place → HaltsIfAsked o s.history old.queues.queue id → is_open id old.queues.queue.streams ≡ false → (n : ℕ) (f : Piece) → at_place n s.history.log ≡ Some (Some f) → f.message.stream ≡ id → f.place < place
      halted None place is stops shut n f at on = absurd (cc)
      halted (Some other) place is stops shut n f at on = (let below = (stops shut).sent n f at on in let same : other ≡ place = cc in omega (arith, below, same))

      go : IsPreparedAs (is_named ids id) (stream_named id old.queues.queue.streams) (stream_named id (prepared_all ids old.queues.queue).streams) → PauseStands prepared_direction s.history.log asked_now cuts id (length old.queued)
      go (paused is messages way pause) =
          record {
            waits = subst (λ (l : List Waiting). AllFrom (length old.queued) l) (sym messages) (from_nothing (count_under_way (stream_named id old.queues.queue.streams)));
            before = omega arith;
            each = λ n f at on low. record {
              place = length old.queued;
              was_asked = may_named old.beginning (length old.queued) old.queues.queue.streams id ids may named;
              from = low;
              to = omega arith;
              so = inr (record { newest = rw is refl; shut = ap is_open_pause pause });
            };
          }
      go (left is unmoves) =
          let shut : is_open id old.queues.queue.streams ≡ false = rw named at is in
          let k = known shut in
          record {
            waits = subst (λ (l : List Waiting). AllFrom (length old.queued) l) (sym (unmoves.messages ∙ nothing)) tt;
            before = omega arith;
            each = λ n f at on low. record {
              place = k.place;
              was_asked = are id k.place k.is;
              from = halted (asked id).newest k.place k.is e.stops shut n f at on;
              to = (e.newest k.place k.is).1;
              so = inr (record { newest = rw is k.is; shut = ap is_open_pause unmoves.pause ∙ shut });
            };
          }

-- ---- a reset ends

named_names : (streams : List ℕ) (id : ℕ) → is_named streams id ≡ true → names_stream streams id ≡ true
named_names [] id named = refl
named_names (one ∷ streams) id named = named

some_out : (out : ℕ) (marks : List Mark) (mark : Mark) → HasEntry mark (take out marks) → 0 < out
some_out zero marks mark has = absurd has
some_out (suc out) marks mark has = omega arith

first_mark : (out : ℕ) (marks : List Mark) (mark : Mark) → out ≤ 1 → HasEntry mark (take out marks) → (earlier : List Mark) × (marks ≡ mark ∷ earlier)
first_mark zero marks mark one has = absurd has
first_mark (suc out) [] mark one has = absurd has
first_mark (suc out) (other ∷ marks) mark one has = (let is = newest_out (suc out) (other ∷ marks) marks mark other one refl has in (marks, ap (λ (m : Mark). m ∷ marks) (sym is)))

pub ended_more : (streams : List Stream) (index : ℕ) (wholes : ℕ → ℕ → Bool) (asked : ℕ → EpochBounds) (cuts : ℕ → List Cut) (id : ℕ) (cut : Cut) → HasEntry cut (cuts id) → HasEntry cut (cuts_ended streams index wholes asked cuts id)
ended_more streams index wholes asked cuts id cut has = go (is_handed_out (stream_named id streams).pause) (asked id).newest
  where
    go : (b : Bool) (o : Option ℕ) → HasEntry cut (if b then cut_added index (wholes id) o (cuts id) else cuts id)
    go true None = has
    go true (Some place) = inr has
    go false o = has

module _ (id first : ℕ) (old : Direction) (s : Stands first old) (asked : ℕ → EpochBounds) (cuts : ℕ → List Cut) (one : old.asking.out ≤ 1) (performed : old.asking.is_performed ≡ true) (newest : NewestIsReported old asked cuts) (index : ℕ) (wholes : ℕ → ℕ → Bool) where
  -- the newest request of a stream that is handed out was performed
  handed_reported : is_handed_out (stream_named id old.queues.queue.streams).pause ≡ true → (n : ℕ) (f : Piece) → at_place n s.history.log ≡ Some (Some f) → f.message.stream ≡ id → (place : ℕ) → (asked id).newest ≡ Some place
      → IsReported old.performed (cuts id) id place
  handed_reported handed n f at on place is =
      elim (s.quiet id handed) [
        | inl none ↦ absurd (none n f at on)
        | inr b ↦
            (let (earlier, marks) = first_mark old.asking.out s.history.marks b.mark one b.has in
            let small : id < 2 ^ 16 = subst (λ (k : ℕ). k < 2 ^ 16) on (fits_at old.queued f.place f.message s.fit (s.queues.cut.pieces n f at).at).stream in
            let mark = s.queues.marks b.mark (subst (λ (l : List Mark). HasEntry b.mark l) (sym marks) (inl refl)) in
            newest b.mark.begun (map (λ (m : Mark). m.begun) earlier) (s.asked ∙ ap (λ (l : List Mark). map (λ (m : Mark). m.begun) l) marks) performed (some_out old.asking.out s.history.marks b.mark b.has) id place
            (named_names b.mark.begun.reset.streams id (subst (λ (l : List ℕ). is_named l id ≡ true) (sym mark.fields) (named_field b.mark.ids id small b.names))) is)
      ]

  abbrev ended_direction : Direction
  ended_direction = record old { queues = record old.queues { queue = queue_committed old.queues.queue }; asking = all_ended old.asking }

  pub pause_ends : (count : ℕ) → PauseStands old s.history.log asked cuts id count → PauseStands ended_direction s.history.log (asked_ended old.queues.queue.streams asked) (cuts_ended old.queues.queue.streams index wholes asked cuts) id count
  pause_ends count p = go (committing_named old.queues.queue id)
    where
      more : MoreReported old.performed old.performed (cuts id) (cuts_ended old.queues.queue.streams index wholes asked cuts id)
      more = record { performed = λ reset has. has; cuts_more = ended_more old.queues.queue.streams index wholes asked cuts id }

      reported : (place : ℕ) → IsReported old.performed (cuts id) id place → IsReported old.performed (cuts_ended old.queues.queue.streams index wholes asked cuts id) id place
      reported place r = reported_later old.performed old.performed (cuts id) (cuts_ended old.queues.queue.streams index wholes asked cuts id) id place more r

      go : IsEndedAs (stream_named id old.queues.queue.streams) (stream_named id (queue_committed old.queues.queue).streams)
          → PauseStands ended_direction s.history.log (asked_ended old.queues.queue.streams asked) (cuts_ended old.queues.queue.streams index wholes asked cuts) id count
      go (ended handed messages pause) =
          record {
            waits = subst (λ (l : List Waiting). AllFrom count l) (sym messages) p.waits;
            before = p.before;
            each = λ n f at on low. (
                let e = p.each n f at on low in
                record {
                  place = e.place;
                  was_asked = e.was_asked;
                  from = e.from;
                  to = e.to;
                  so = elim e.so [
                    | inl r ↦ inl (reported e.place r)
                    | inr k ↦ inl (reported e.place (handed_reported handed n f at on e.place k.newest))
                  ];
                }
                );
          }
      go (still kept unmoves) =
          record {
            waits = subst (λ (l : List Waiting). AllFrom count l) (sym unmoves.messages) p.waits;
            before = p.before;
            each = λ n f at on low. (
                let e = p.each n f at on low in
                record {
                  place = e.place;
                  was_asked = e.was_asked;
                  from = e.from;
                  to = e.to;
                  so = elim e.so [
                    | inl r ↦ inl (reported e.place r)
                    | inr k ↦ inr (record { newest = rw kept k.newest; shut = ap is_open_pause unmoves.pause ∙ k.shut })
                  ];
                }
                );
          }
