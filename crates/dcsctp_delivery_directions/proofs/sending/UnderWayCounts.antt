-- How many messages are under way, while fragments leave the send queue.
use Rattle.std.proofs.Common.{◌≡◌, ℕ, zero, suc, Bool, true, false, ◌<◌, ◌≤◌, ◌+◌, ◌-◌, List, [], ◌∷◌, length, refl, sym, ◌∙◌, ap, arith, subst}
use Rattle.std.specs.Prelude.{Option, None, Some, is_some, slice_set, if◌then◌else◌}
use Rattle.std.proofs.lemmas.List.Sums.{sum_by-cons}
use Rattle.dcsctp_spec.specs.types.declared.sending.UnderWay.{UnderWay}
use Rattle.dcsctp_spec.specs.endpoint.Event.{Event}
use Rattle.dcsctp_spec.specs.queues.SendQueue.{SendQueueState}
use Rattle.dcsctp_spec.specs.queues.Sending.{Fragment, Drops, none as drops_none, more as drops_more, reduced_queue, fragment_counted, progress_after, without_rest, after_part, after_last, queue_after_producing, is_last, TakesFragment, Discards}
use Rattle.dcsctp_spec.specs.queues.OwnResets.{count_under_way}
use Rattle.dcsctp_spec.specs.types.queues.SendStreams.{Waiting, Stream, without_front, stream_with_progress, stream_at}
use Rattle.dcsctp_delivery_directions.specs.sending.ChunkCounts.{going}
use Rattle.dcsctp_delivery_directions.proofs.sending.Streams.{Alike, reduced_alike, numbered_reduced}

going_first : (s : Stream) (streams : List Stream) → going (s ∷ streams) ≡ count_under_way s + going streams
going_first s streams = sum_by-cons count_under_way s streams

pub going_same : (old new : List Stream) → length new ≡ length old → ((q : ℕ) → (stream_at new q).under_way ≡ (stream_at old q).under_way) → going new ≡ going old
going_same [] [] sizes same = refl
going_same [] (t ∷ new) sizes same = absurd (omega arith)
going_same (s ∷ old) [] sizes same = absurd (omega arith)
going_same (s ∷ old) (t ∷ new) sizes same =
    let first : count_under_way t ≡ count_under_way s = ap (λ (u : Option UnderWay). if is_some u then 1 else 0) (same 0) in
    let rest = going_same old new (omega (arith, sizes)) (λ q. same (suc q)) in
    let before = going_first s old in
    let after = going_first t new in
    omega (arith, first, rest, before, after)

one_at_most : (s : Stream) → count_under_way s ≤ 1
one_at_most s = go (is_some s.under_way)
  where
    go : (b : Bool) → (if b then 1 else 0) ≤ 1
    go true = omega arith
    go false = omega arith

-- one more at most, where one stream is set
going_set : (streams : List Stream) (place : ℕ) (new : Stream) → going (slice_set streams place new) ≤ going streams + 1
going_set [] zero new = omega arith
going_set [] (suc place) new = omega arith
going_set (s ∷ streams) zero new = (let before = going_first s streams in let after = going_first new streams in let one = one_at_most new in omega (arith, before, after, one))
going_set (s ∷ streams) (suc place) new =
    let before = going_first s streams in
    let after = going_first s (slice_set streams place new) in
    let rest = going_set streams place new in
    omega (arith, before, after, rest)

-- none more, where it has none then,
going_idle : (streams : List Stream) (place : ℕ) (new : Stream) → new.under_way ≡ None → going (slice_set streams place new) ≤ going streams
going_idle [] zero new idle = omega arith
going_idle [] (suc place) new idle = omega arith
going_idle (s ∷ streams) zero new idle =
    let before = going_first s streams in
    let after = going_first new streams in
    let none_now : count_under_way new ≡ 0 = ap (λ (u : Option UnderWay). if is_some u then 1 else 0) idle in
    omega (arith, before, after, none_now)
going_idle (s ∷ streams) (suc place) new idle =
    let before = going_first s streams in
    let after = going_first s (slice_set streams place new) in
    let rest = going_idle streams place new idle in
    omega (arith, before, after, rest)

-- and one less, if it had one
going_ended : (streams : List Stream) (place : ℕ) (new : Stream) (u : UnderWay) → place < length streams → (stream_at streams place).under_way ≡ Some u → new.under_way ≡ None → going (slice_set streams place new) + 1 ≡ going streams
going_ended [] place new u within goes idle = absurd (omega (arith, within))
going_ended (s ∷ streams) zero new u within goes idle =
    let before = going_first s streams in
    let after = going_first new streams in
    let none_now : count_under_way new ≡ 0 = ap (λ (v : Option UnderWay). if is_some v then 1 else 0) idle in
    let one : count_under_way s ≡ 1 = ap (λ (v : Option UnderWay). if is_some v then 1 else 0) goes in
    omega (arith, before, after, none_now, one)
going_ended (s ∷ streams) (suc place) new u within goes idle =
    let before = going_first s streams in
    let after = going_first s (slice_set streams place new) in
    let rest = going_ended streams place new u (omega (arith, within)) goes idle in
    omega (arith, before, after, rest)

pub alike_going : (old new : List Stream) → Alike old new → going new ≡ going old
alike_going old new alike = going_same old new alike.sizes alike.under_ways

-- a message is dropped,
rest_going : (place already : ℕ) (message : Waiting) (queue : SendQueueState) → going (without_rest place already message queue).streams ≤ going queue.streams
rest_going place already message queue =
    let reduced : SendQueueState = reduced_queue place (length message.payload - already) queue in
    let same = alike_going queue.streams reduced.streams (reduced_alike place (length message.payload - already) queue) in
    let less = going_idle reduced.streams place (without_front (stream_at reduced.streams place)) refl in
    omega (arith, same, less)

pub drops_going : {P : Type 0} (now : ℕ) (old : SendQueueState) (events : List (Event P)) (new : SendQueueState) → Drops now old events new → going new.streams ≤ going old.streams
drops_going now old events new drops_none = omega arith
drops_going now old events new (drops_more events' queue place message drops next front expired) =
    (let before = drops_going now old events' queue drops in let less = rest_going place 0 message queue in omega (arith, before, less))

-- the rest of one under way is,
pub discards_going : {P : Type 0} (old new : SendQueueState) (stream id : ℕ) (before after : List (Event P)) → Discards old stream id before new after → going new.streams + 1 ≤ going old.streams
discards_going old new stream id before after discards =
    let n = discards.named in
    let size : ℕ = length n.message.payload - n.under_way.sent in
    let reduced : SendQueueState = reduced_queue n.place size old in
    let alike = reduced_alike n.place size old in
    let sizes = alike.sizes in
    let within = n.within in
    let same = alike_going old.streams reduced.streams alike in
    let less = going_ended reduced.streams n.place (without_front (stream_at reduced.streams n.place)) n.under_way (omega (arith, within, sizes)) (alike.under_ways n.place ∙ n.goes_on) refl in
    subst (λ (q : SendQueueState). going q.streams + 1 ≤ going old.streams) (sym discards.left) (omega (arith, same, less))

-- or a fragment leaves
produced_going : (place max : ℕ) (message : Waiting) (under_way : UnderWay) (queue : SendQueueState) → going (queue_after_producing place max message under_way queue).streams ≤ going queue.streams + 1
produced_going place max message under_way queue = go (is_last max message under_way)
  where
    part : going (after_part place max message under_way queue).streams ≤ going queue.streams + 1
    part =
        let counted : SendQueueState = fragment_counted place max message under_way (reduced_queue place max queue) in
        let same = alike_going queue.streams counted.streams (numbered_reduced place max message under_way queue) in
        let most = going_set counted.streams place (stream_with_progress (progress_after max under_way) (stream_at counted.streams place)) in
        omega (arith, same, most)

    last : going (after_last place message under_way queue).streams ≤ going queue.streams + 1
    last =
        let size : ℕ = length message.payload - under_way.sent in
        let counted : SendQueueState = fragment_counted place size message under_way (reduced_queue place size queue) in
        let same = alike_going queue.streams counted.streams (numbered_reduced place size message under_way queue) in
        let most = going_set counted.streams place (without_front (stream_at counted.streams place)) in
        omega (arith, same, most)

    go : (b : Bool) → going (if b then after_last place message under_way queue else after_part place max message under_way queue).streams ≤ going queue.streams + 1
    go true = last
    go false = part

pub takes_going : {P : Type 0} (now max : ℕ) (old new : SendQueueState) (before after : List (Event P)) (part : Fragment) → TakesFragment now max old before part new after → going new.streams ≤ going old.streams + 1
takes_going now max old new before after part takes =
    subst (λ (q : SendQueueState). going q.streams ≤ going old.streams + 1) (sym takes.left)
    (let dropped = drops_going now old takes.drops.events takes.queue takes.drops.drops in
    let more = produced_going takes.place max takes.message takes.under_way takes.queue in
    omega (arith, dropped, more))
