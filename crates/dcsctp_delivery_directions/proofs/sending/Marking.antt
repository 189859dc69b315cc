-- Messages that are marked as spent.
use Rattle.std.proofs.Common.{◌≡◌, ◌≢◌, ◌==◌, ℕ, suc, Bool, true, false, List, [], ◌∷◌, length, refl, sym, ◌∙◌, ap, arith, subst, inl, inr}
use Rattle.std.specs.Prelude.{Option, None, Some, if◌then◌else◌}
use Rattle.std.proofs.lemmas.Bool.Decides.{eqb_tells}
use Rattle.dcsctp_spec.specs.types.declared.sending.UnderWay.{UnderWay}
use Rattle.dcsctp_spec.specs.types.queues.SendStreams.{Waiting, Stream, front_of, stream_at}
use Rattle.dcsctp_spec.specs.queues.SendQueue.{SendQueueState}
use Rattle.dcsctp_delivery_directions.specs.sending.Places.{at_place}
use Rattle.dcsctp_delivery_directions.specs.sending.Log.{Message, Fits}
use Rattle.dcsctp_delivery_directions.specs.sending.Pieces.{AllQueued, Going}
use Rattle.dcsctp_delivery_directions.specs.sending.Marking.{NoneNamed, WaitsNoLonger, message_marked_spent}
use Rattle.dcsctp_delivery_directions.specs.sending.Queueing.{QueueWaits}
use Rattle.dcsctp_delivery_directions.specs.sending.Weights.{total}
use Rattle.std.specs.List.{AllByRecursion}

-- ---- messages that are marked

pub marked_length : (place : ℕ) (queued : List Message) → length (message_marked_spent place queued) ≡ length queued
marked_length place [] = refl
marked_length place (m ∷ queued) = go (place == length queued) (marked_length place queued)
  where
    go : (b : Bool) → length (message_marked_spent place queued) ≡ length queued → length (if b then record m { is_spent = true } ∷ queued else m ∷ message_marked_spent place queued) ≡ suc (length queued)
    go true rest = refl
    go false rest = ap suc rest

pub marked_total : (place : ℕ) (queued : List Message) → total (message_marked_spent place queued) ≡ total queued
marked_total place [] = refl
marked_total place (m ∷ queued) = go (place == length queued) (marked_total place queued)
  where
    go : (b : Bool) → total (message_marked_spent place queued) ≡ total queued → total (if b then record m { is_spent = true } ∷ queued else m ∷ message_marked_spent place queued) ≡ total (m ∷ queued)
    go true rest = refl
    go false rest = omega (arith, rest)

marked_other : (place k : ℕ) (queued : List Message) → k ≢ place → at_place k (message_marked_spent place queued) ≡ at_place k queued
marked_other place k [] other = refl
marked_other place k (m ∷ queued) other =
    elim (eqb_tells place (length queued)) [
      | inl e ↦ here (place == length queued) e.0 (elim (eqb_tells k (length queued)) [ inl t ↦ absurd (other (t.1 ∙ sym e.1)) | inr t ↦ t.0 ])
      | inr e ↦ there (place == length queued) e.0 (marked_other place k queued other) (marked_length place queued)
    ]
  where
    here : (b : Bool) → b ≡ true → (k == length queued) ≡ false → at_place k (if b then record m { is_spent = true } ∷ queued else m ∷ message_marked_spent place queued) ≡ at_place k (m ∷ queued)
    here true is none = rw none refl
    here false is none = absurd (cc)

    there : (b : Bool) → b ≡ false → at_place k (message_marked_spent place queued) ≡ at_place k queued → length (message_marked_spent place queued) ≡ length queued
        → at_place k (if b then record m { is_spent = true } ∷ queued else m ∷ message_marked_spent place queued) ≡ at_place k (m ∷ queued)
    there true is rest long = absurd (cc)
    there false is rest long =
        ap (λ (n : ℕ). if k == n then Some m else at_place k (message_marked_spent place queued)) long ∙ ap (λ (x : Option Message). if k == length queued then Some m else x) rest

pub marked_spent : (place : ℕ) (queued : List Message) (m : Message) → at_place place (message_marked_spent place queued) ≡ Some m → m.is_spent ≡ true
marked_spent place [] m at = absurd (cc)
marked_spent place (first ∷ queued) m at =
    elim (eqb_tells place (length queued)) [
      | inl e ↦ here (place == length queued) e.0 e.1 at
      | inr e ↦ there (place == length queued) e.0 e.1 (marked_length place queued) (λ at'. marked_spent place queued m at') at
    ]
  where
    here : (b : Bool) → b ≡ true → place ≡ length queued → at_place place (if b then record first { is_spent = true } ∷ queued else first ∷ message_marked_spent place queued) ≡ Some m → m.is_spent ≡ true
    here true is same at = elim (eqb_tells place (length queued)) [
      | inl e ↦ (let found : Some (record first { is_spent = true }) ≡ Some m = sym (rw e.0 refl) ∙ at in let one : record first { is_spent = true } ≡ m = cc in ap (λ (x : Message). x.is_spent) (sym one))
      | inr e ↦ absurd (e.1 same)
    ]
    here false is same at = absurd (cc)

    there : (b : Bool) → b ≡ false → place ≢ length queued → length (message_marked_spent place queued) ≡ length queued → (at_place place (message_marked_spent place queued) ≡ Some m → m.is_spent ≡ true)
        → at_place place (if b then record first { is_spent = true } ∷ queued else first ∷ message_marked_spent place queued) ≡ Some m → m.is_spent ≡ true
    there true is other long rest at = absurd (cc)
    there false is other long rest at =
        elim (eqb_tells place (length (message_marked_spent place queued))) [
          | inl e ↦ absurd (other (e.1 ∙ long))
          | inr e ↦ rest (sym (rw e.0 refl) ∙ at)
        ]

-- What doesn't wait may be marked.
wait_marked : (queued : List Message) (place id : ℕ) (messages : List Waiting) → NoneNamed place messages → AllQueued queued id messages → AllQueued (message_marked_spent place queued) id messages
wait_marked queued place id [] others are = tt
wait_marked queued place id (w ∷ messages) others are = (
  record { message = are.0.message; at = marked_other place w.message_id queued others.0 ∙ are.0.at; is = are.0.is; fresh = are.0.fresh; some = are.0.some },
  wait_marked queued place id messages others.1 are.1,
)

front_other : (place : ℕ) (messages : List Waiting) (w : Waiting) → NoneNamed place messages → front_of messages ≡ Some w → w.message_id ≢ place
front_other place [] w others is = absurd (cc)
front_other place (v ∷ messages) w others is = let same : v ≡ w = cc in subst (λ (x : Waiting). x.message_id ≢ place) same others.0

going_marked : (queued : List Message) (place : ℕ) (stream : Stream) (u : Option UnderWay) → NoneNamed place stream.messages → Going queued [] stream u → Going (message_marked_spent place queued) [] stream u
going_marked queued place stream None others g = tt
going_marked queued place stream (Some u) others g =
    let other = front_other place stream.messages g.waiting others g.front in
    record {
      place = g.place;
      message = g.message;
      at = marked_other place g.place queued (λ is. other (g.named ∙ is)) ∙ g.at;
      unfinished = g.unfinished;
      begun = g.begun;
      is = g.is;
      waiting = g.waiting;
      front = g.front;
      named = g.named;
      came = inl refl;
    }

pub marking_hold : (queued : List Message) (place : ℕ) (queue : SendQueueState) → WaitsNoLonger place queue.streams → QueueWaits queued queue → QueueWaits (message_marked_spent place queued) queue
marking_hold queued place queue others waits =
    let queues = waits.holds in
    record {
      floors = waits.floors;
      holds = record {
        queue_holds = record {
          wait = λ q. wait_marked queued place (stream_at queue.streams q).id (stream_at queue.streams q).messages (others q) (queues.queue_holds.wait q);
          ascend = queues.queue_holds.ascend;
          beyond = λ q n f at of. absurd (cc);
          distinct = queues.queue_holds.distinct;
          small = queues.queue_holds.small;
          going = λ q. going_marked queued place (stream_at queue.streams q) (stream_at queue.streams q).under_way (others q) (queues.queue_holds.going q);
          room = (let room = queues.queue_holds.room in let same = marked_total place queued in record { whole = omega (arith, room.whole, same); count = omega (arith, room.count, same) });
        };
        next = queues.next ∙ sym (marked_length place queued);
        numbers = queues.numbers;
      };
    }

pub marking_fits : (place : ℕ) (queued : List Message) → AllByRecursion Fits queued → AllByRecursion Fits (message_marked_spent place queued)
marking_fits place [] fit = tt
marking_fits place (message ∷ queued) fit = go (place == length queued) (marking_fits place queued fit.1)
  where
    go : (b : Bool) → AllByRecursion Fits (message_marked_spent place queued) → AllByRecursion Fits (if b then record message { is_spent = true } ∷ queued else message ∷ message_marked_spent place queued)
    go true rest = (record { stream = fit.0.stream; ppid = fit.0.ppid; payload = fit.0.payload; size = fit.0.size }, fit.1)
    go false rest = (fit.0, rest)
