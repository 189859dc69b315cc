-- What leaves a send queue whose streams wait well has bytes, and the rest waits well.
use Rattle.std.proofs.Common.{◌≡◌, ℕ, Bool, true, false, ◌<◌, ◌+◌, ◌-◌, List, [], ◌∷◌, length, take, drop, min, refl, sym, ◌∙◌, ap, arith, subst, inl, inr}
use Rattle.std.specs.Prelude.{Option, None, Some, slice_set, if◌then◌else◌}
use Rattle.std.specs.List.{AllByRecursion}
use Rattle.std.proofs.lemmas.Bool.Decides.{leb_tells}
use Rattle.std.proofs.lemmas.List.{length-take, length-drop}
use Rattle.dcsctp_spec_lemmas.specs.types.declared.sending.UnderWay.{UnderWay}
use Rattle.dcsctp_spec_lemmas.specs.types.queues.SendStreams.{Waiting, Stream, front_of, stream_at, without_front, stream_with_progress}
use Rattle.dcsctp_spec_lemmas.specs.spec.endpoint.Event.{Event}
use Rattle.dcsctp_spec_lemmas.specs.spec.queues.SendQueue.{SendQueueState}
use Rattle.dcsctp_spec_lemmas.specs.spec.queues.Sending.{Fragment, next_progress, is_last, progress_after, queue_after_producing, after_part, after_last, fragment_counted, reduced_queue, without_rest, Drops, none, more, TakesFragment, TakesNone, DiscardsNamed}
use Rattle.dcsctp_delivery_directions.proofs.sending.CountedFragments.{by_amount, by_leaving}
use Rattle.dcsctp_delivery_directions.proofs.sending.Pieces.{progress_none, progress_some}
use Rattle.dcsctp_delivery_directions.proofs.sending.Streams.{numbered_reduced}
use Rattle.dcsctp_delivery_recovery.proofs.WaitingStreams.{IsUnfinished, WaitsWell, AllWaitWell, each_at, well_set, counts_well, KeepsWell}

abbrev QueueWaitsWell : SendQueueState → Type 0
QueueWaitsWell queue = AllWaitWell queue.streams

abbrev HasBytesLeft : Waiting → Type 0
HasBytesLeft message = 0 < length message.payload

-- ---- messages that leave

dropped_bytes : (messages : List Waiting) → AllByRecursion HasBytesLeft messages → AllByRecursion HasBytesLeft (drop 1 messages)
dropped_bytes [] h = tt
dropped_bytes (message ∷ messages) h = h.1

front_gone : (streams : List Stream) (place : ℕ) → AllWaitWell streams → AllWaitWell (slice_set streams place (without_front (stream_at streams place)))
front_gone streams place h =
    well_set streams place (without_front (stream_at streams place)) refl
    (record { bytes = dropped_bytes (stream_at streams place).messages (each_at streams place h.each).bytes; unfinished = tt }) h

rest_gone : (place sent : ℕ) (message : Waiting) (queue : SendQueueState) → AllWaitWell queue.streams → AllWaitWell (without_rest place sent message queue).streams
rest_gone place sent message queue h =
    let size : ℕ = length message.payload - sent in
    front_gone (reduced_queue place size queue).streams place (by_amount KeepsWell counts_well place size queue h)

drops_well : {P : Type 0} (now : ℕ) (old : SendQueueState) (events : List (Event P)) (new : SendQueueState) → Drops now old events new → AllWaitWell old.streams → AllWaitWell new.streams
drops_well now old _ _ none h = h
drops_well now old _ _ (more events queue place message drops next front late) h = rest_gone place 0 message queue (drops_well now old events queue drops h)

pub none_well : {P : Type 0} (now : ℕ) (old new : SendQueueState) (before after : List (Event P)) → TakesNone now old before new after → AllWaitWell old.streams → AllWaitWell new.streams
none_well now old new before after takes h = drops_well now old takes.drops.events new takes.drops.drops h

pub discards_well : {P : Type 0} (old new : SendQueueState) (stream message_id : ℕ) (before after : List (Event P)) (is_dropped : Bool) → DiscardsNamed old stream message_id before is_dropped new after
    → AllWaitWell old.streams → AllWaitWell new.streams
discards_well old new stream message_id before after true discards h =
    subst QueueWaitsWell (sym discards.left) (rest_gone discards.named.place discards.named.under_way.sent discards.named.message old h)
discards_well old new stream message_id before after false discards h = subst QueueWaitsWell (sym discards.1) h

-- ---- a fragment

-- The oldest message has come less far than it is long.
next_unfinished : (s : Stream) (message : Waiting) → front_of s.messages ≡ Some message → WaitsWell s → (next_progress message s).sent < length message.payload
next_unfinished s message front well = go s.under_way refl
  where
    begun : (messages : List Waiting) → front_of messages ≡ Some message → AllByRecursion HasBytesLeft messages → 0 < length message.payload
    begun [] is h = absurd (cc)
    begun (first ∷ messages) is h = (let same : first ≡ message = cc in subst HasBytesLeft same h.0)

    continued : (u : UnderWay) (messages : List Waiting) → front_of messages ≡ Some message → IsUnfinished (Some u) messages → u.sent < length message.payload
    continued u [] is h = absurd h
    continued u (first ∷ messages) is h = (let same : first ≡ message = cc in subst (λ (w : Waiting). u.sent < length w.payload) same h)

    go : (u : Option UnderWay) → s.under_way ≡ u → (next_progress message s).sent < length message.payload
    go None is = subst (λ (u : UnderWay). u.sent < length message.payload) (sym (progress_none message s is)) (begun s.messages front well.bytes)
    go (Some u) is =
        subst (λ (x : UnderWay). x.sent < length message.payload) (sym (progress_some message s u is))
        (continued u s.messages front (subst (λ (x : Option UnderWay). IsUnfinished x s.messages) is well.unfinished))

part_well : (place max : ℕ) (message : Waiting) (under_way : UnderWay) (queue : SendQueueState) → front_of (stream_at queue.streams place).messages ≡ Some message → under_way.sent < length message.payload
    → AllWaitWell queue.streams → AllWaitWell (queue_after_producing place max message under_way queue).streams
part_well place max message under_way queue front less h = go (is_last max message under_way) refl
  where
    counted : SendQueueState
    counted = fragment_counted place max message under_way (reduced_queue place max queue)

    -- It goes on.
    goes_on : (messages : List Waiting) → front_of messages ≡ Some message → under_way.sent + max < length message.payload → IsUnfinished (Some (progress_after max under_way)) messages
    goes_on [] is rest = absurd (cc)
    goes_on (first ∷ messages) is rest = (let same : first ≡ message = cc in subst (λ (w : Waiting). under_way.sent + max < length w.payload) (sym same) rest)

    go : (b : Bool) → is_last max message under_way ≡ b → AllWaitWell (if b then after_last place message under_way queue else after_part place max message under_way queue).streams
    go true last =
        let size : ℕ = length message.payload - under_way.sent in
        front_gone (fragment_counted place size message under_way (reduced_queue place size queue)).streams place (by_leaving KeepsWell counts_well place size message under_way queue h)
    go false unended =
        let before : AllWaitWell counted.streams = by_leaving KeepsWell counts_well place max message under_way queue h in
        let there : front_of (stream_at counted.streams place).messages ≡ Some message =
        ap front_of ((numbered_reduced place max message under_way queue).messages place) ∙ front in
        let rest : under_way.sent + max < length message.payload =
        (elim (leb_tells (length message.payload - under_way.sent) max) [
          | inl e ↦ absurd (let clash : true ≡ false = sym e.0 ∙ unended in cc)
          | inr e ↦ (let past = e.1 in omega (arith, past, less))
        ]) in
        well_set counted.streams place (stream_with_progress (progress_after max under_way) (stream_at counted.streams place)) refl
        (record { bytes = (each_at counted.streams place before.each).bytes; unfinished = goes_on (stream_at counted.streams place).messages there rest }) before

-- What is handed out has bytes, and the rest waits well.
pub record HandsOutBytes (part : Fragment) (new : SendQueueState) : Type 0 where
  pub some : 0 < length part.payload
  pub waits : AllWaitWell new.streams

some_taken : (max sent : ℕ) (payload : List ℕ) → 0 < max → sent < length payload → 0 < length (take (min max (length payload - sent)) (drop sent payload))
some_taken max sent payload room less = omega (arith, room, less, length-take (min max (length payload - sent)) (drop sent payload), length-drop sent payload)

pub takes_well : {P : Type 0} (now max : ℕ) (old new : SendQueueState) (before after : List (Event P)) (part : Fragment) → 0 < max → TakesFragment now max old before part new after → AllWaitWell old.streams
    → HandsOutBytes part new
takes_well now max old new before after part room takes h =
    let left : AllWaitWell takes.queue.streams = drops_well now old takes.drops.events takes.queue takes.drops.drops h in
    let less : takes.under_way.sent < length takes.message.payload =
    subst (λ (u : UnderWay). u.sent < length takes.message.payload) (sym takes.come)
    (next_unfinished (stream_at takes.queue.streams takes.place) takes.message takes.front (each_at takes.queue.streams takes.place left.each)) in
    record {
      some = subst (λ (f : Fragment). 0 < length f.payload) (sym takes.is) (some_taken max takes.under_way.sent takes.message.payload room less);
      waits = subst QueueWaitsWell (sym takes.left) (part_well takes.place max takes.message takes.under_way takes.queue takes.front less left);
    }
