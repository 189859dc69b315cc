-- At most one message is under way where an association begins: with `follow_rfc` all are put back, and
-- without it each goes to its end before the next.
use Rattle.std.proofs.Common.{◌≡◌, ℕ, suc, Bool, true, false, ◌<◌, ◌≤◌, ◌+◌, Option, None, Some, List, [], ◌∷◌, length, map, refl, sym, ◌∙◌, ap, arith, inl, inr}
use Rattle.std.specs.Prelude.{◌||◌, ◌&&◌, not, is_some, if◌then◌else◌}
use Rattle.std.specs.List.{AllByRecursion}
use Rattle.std.proofs.lemmas.List.Sums.{sum_by-cons}
use Rattle.std.proofs.lemmas.Bool.Decides.{eqb_tells}
use Rattle.dcsctp_spec_lemmas.specs.types.declared.ids.StreamId.{StreamId}
use Rattle.dcsctp_spec_lemmas.specs.types.declared.sending.UnderWay.{UnderWay}
use Rattle.dcsctp_spec_lemmas.specs.types.queues.SendStreams.{Waiting, Stream, front_of, stream_at, unused_stream, stream_put_back, renumbered_stream}
use Rattle.dcsctp_spec_lemmas.specs.spec.endpoint.Endpoint.{Endpoint}
use Rattle.dcsctp_spec_lemmas.specs.spec.endpoint.Outcome.{Outcome}
use Rattle.dcsctp_spec_lemmas.specs.spec.queues.OwnResets.{count_under_way}
use Rattle.dcsctp_spec_lemmas.specs.spec.queues.SendQueue.{SendQueueState, queue_restarted, renumbered_under_way, is_other, numbered_for}
use Rattle.dcsctp_spec_lemmas.specs.spec.queues.Sending.{may_be_abandoned}
use Rattle.dcsctp_delivery_directions.specs.sending.ChunkCounts.{going}
use Rattle.dcsctp_delivery_directions.specs.sending.Log.{Message, History, new_history}
use Rattle.dcsctp_delivery_directions.specs.sending.Numbers.{stream_named, is_always_whole}
use Rattle.dcsctp_delivery_directions.specs.sending.Pieces.{Going}
use Rattle.dcsctp_delivery_directions.specs.sending.Queueing.{QueueHolds, QueueWaits}
use Rattle.dcsctp_delivery_directions.proofs.sending.StreamsNamed.{found_at}
use Rattle.dcsctp_delivery_directions.proofs.directions.UnderWays.{going_mapped}
use Rattle.dcsctp_delivery_sockets.specs.turns.Actions.{BeginsAssociation}
use Rattle.dcsctp_delivery_sockets.specs.turns.Runs.{TakesTurnsByOption}

-- ---- counts

going_first : (s : Stream) (streams : List Stream) → going (s ∷ streams) ≡ count_under_way s + going streams
going_first s streams = sum_by-cons count_under_way s streams

-- No message is under way on any of these.
abbrev pub AreIdle : List Stream → Type 0
AreIdle streams = AllByRecursion (λ (stream : Stream). stream.under_way ≡ None) streams

pub none_going : (streams : List Stream) → AreIdle streams → going streams ≡ 0
none_going [] idle = refl
none_going (s ∷ streams) idle =
    let here : count_under_way s ≡ 0 = ap (λ (u : Option UnderWay). if is_some u then 1 else 0) idle.0 in
    let all = going_first s streams in
    let rest = none_going streams idle.1 in
    omega (arith, here, all, rest)

none_at : (streams : List Stream) → ((q : ℕ) → q < length streams → is_some (stream_at streams q).under_way ≡ false) → going streams ≡ 0
none_at [] none = refl
none_at (s ∷ streams) none =
    let here : count_under_way s ≡ 0 = ap (λ (b : Bool). if b then 1 else 0) (none 0 (omega arith)) in
    let all = going_first s streams in
    let rest = none_at streams (λ q low. none (suc q) (omega (arith, low))) in
    omega (arith, here, all, rest)

-- one at most, if all that are have one number
one_going : (id : ℕ) (streams : List Stream) → ((p q : ℕ) → p < length streams → q < length streams → (stream_at streams p).id ≡ (stream_at streams q).id → p ≡ q)
    → ((q : ℕ) → q < length streams → is_some (stream_at streams q).under_way ≡ true → (stream_at streams q).id ≡ id) → going streams ≤ 1
one_going id [] distinct ours = omega arith
one_going id (s ∷ streams) distinct ours = go (is_some s.under_way) refl (one_going id streams)
  where
    later : (p q : ℕ) → p < length streams → q < length streams → (stream_at streams p).id ≡ (stream_at streams q).id → p ≡ q
    later p q low low' same = (let is = distinct (suc p) (suc q) (omega (arith, low)) (omega (arith, low')) same in omega (arith, is))

    go : (b : Bool) → is_some s.under_way ≡ b
        → (((p q : ℕ) → p < length streams → q < length streams → (stream_at streams p).id ≡ (stream_at streams q).id → p ≡ q)
        → ((q : ℕ) → q < length streams → is_some (stream_at streams q).under_way ≡ true → (stream_at streams q).id ≡ id) → going streams ≤ 1) → going (s ∷ streams) ≤ 1
    go true is rest =
        let here : count_under_way s ≡ 1 = ap (λ (b : Bool). if b then 1 else 0) is in
        let all = going_first s streams in
        let none = none_at streams (λ q low. other q low (is_some (stream_at streams q).under_way) refl) in
        omega (arith, here, all, none)
      where
        other : (q : ℕ) → q < length streams → (b : Bool) → is_some (stream_at streams q).under_way ≡ b → is_some (stream_at streams q).under_way ≡ false
        other q low true some = absurd (let same = distinct 0 (suc q) (omega arith) (omega (arith, low)) (ours 0 (omega arith) is ∙ sym (ours (suc q) (omega (arith, low)) some)) in omega (arith, same))
        other q low false none = none
    go false is rest =
        let here : count_under_way s ≡ 0 = ap (λ (b : Bool). if b then 1 else 0) is in
        let all = going_first s streams in
        let few = rest later (λ q low some. ours (suc q) (omega (arith, low)) some) in
        omega (arith, here, all, few)

-- ---- where streams take no turns

all_whole : (queue : SendQueueState) (w : Waiting) → queue.takes_turns ≡ false → is_always_whole w queue ≡ true
all_whole queue w none = ap (λ (b : Bool). may_be_abandoned w || not (queue.is_interleaved && b)) none ∙ go queue.is_interleaved (may_be_abandoned w)
  where
    go : (a b : Bool) → (b || not (a && false)) ≡ true
    go true true = refl
    go true false = refl
    go false true = refl
    go false false = refl

number : Option StreamId → ℕ
number None = 0
number (Some id) = id.0

-- only the stream that is held has a message under way
rests_held : (queued : List Message) (history : History) (queue : SendQueueState) → queue.takes_turns ≡ false → QueueHolds queued history queue → going queue.streams ≤ 1
unfolding number
rests_held queued history queue none holds =
    one_going (number queue.held) queue.streams holds.queue_holds.distinct (λ q low some. ours q low some (stream_at queue.streams q).under_way refl (holds.queue_holds.going q))
  where
    ours : (q : ℕ) → q < length queue.streams → is_some (stream_at queue.streams q).under_way ≡ true → (u : Option UnderWay) → (stream_at queue.streams q).under_way ≡ u → Going queued history.log (stream_at queue.streams q) u
        → (stream_at queue.streams q).id ≡ number queue.held
    ours q low some None is going = (let clash : false ≡ true = sym (ap is_some is) ∙ some in absurd (cc))
    ours q low some (Some u) is going =
        let named = found_at (unused_stream 0 0 0) q queue.streams low holds.queue_holds.distinct in
        let held = holds.numbers.whole.each (stream_at queue.streams q).id going.waiting (ap (λ (s : Stream). is_some s.under_way) named ∙ some) (ap (λ (s : Stream). front_of s.messages) named ∙ going.front) (all_whole queue going.waiting none) in
        sym (ap number held)

-- ---- where all are put back

renumbered_idle : (streams : List Stream) → AreIdle (map renumbered_stream (map stream_put_back streams))
renumbered_idle [] = tt
renumbered_idle (s ∷ streams) = (refl, renumbered_idle streams)

pub restarted_idle : (queue : SendQueueState) → AreIdle (queue_restarted queue).streams
restarted_idle queue = renumbered_idle queue.streams

pub named_idle : (id : ℕ) (streams : List Stream) → AreIdle streams → (stream_named id streams).under_way ≡ None
named_idle id [] idle = refl
named_idle id (s ∷ streams) idle =
    elim (eqb_tells s.id id) [
      | inl e ↦ rw e.0 idle.0
      | inr e ↦ rw e.0 (named_idle id streams idle.1)
    ]

-- ---- whichever numbers count

numbered_going : (enabled : Bool) (window : ℕ) (queue : SendQueueState) → going (numbered_for enabled window queue).streams ≡ going queue.streams
numbered_going enabled window queue = go (is_other queue.is_interleaved enabled)
  where
    one : (s : Stream) (u : Option UnderWay) → s.under_way ≡ u → is_some (renumbered_under_way enabled s).under_way ≡ is_some s.under_way
    one s None is = rw is refl
    one s (Some u) is = rw is refl

    go : (b : Bool) → going (if b then map (renumbered_under_way enabled) queue.streams else queue.streams) ≡ going queue.streams
    go true = going_mapped (renumbered_under_way enabled) (λ s. one s s.under_way refl) queue.streams
    go false = refl

-- nothing is numbered anew where none is under way
renumbered_same : (enabled : Bool) (streams : List Stream) → AreIdle streams → map (renumbered_under_way enabled) streams ≡ streams
renumbered_same enabled [] idle = refl
renumbered_same enabled (s ∷ streams) idle = ap (λ (x : Stream). x ∷ map (renumbered_under_way enabled) streams) (one s idle.0) ∙ ap (λ (l : List Stream). s ∷ l) (renumbered_same enabled streams idle.1)
  where
    one : (x : Stream) → x.under_way ≡ None → renumbered_under_way enabled x ≡ x
    one x is = rw is refl

pub numbered_idle : (enabled : Bool) (window : ℕ) (queue : SendQueueState) → AreIdle queue.streams → numbered_for enabled window queue ≡ record queue { is_interleaved = enabled; window = window }
numbered_idle enabled window queue idle = ap (λ (l : List Stream). record queue { is_interleaved = enabled; window = window; streams = l }) (go (is_other queue.is_interleaved enabled))
  where
    go : (b : Bool) → (if b then map (renumbered_under_way enabled) queue.streams else queue.streams) ≡ queue.streams
    go true = renumbered_same enabled queue.streams idle
    go false = refl

pub begun_rests : (e : Endpoint) (o : Outcome) (begun : BeginsAssociation e o) (queued : List Message) → TakesTurnsByOption e → QueueWaits queued e.queues.queue → going begun.queue.streams ≤ 1
begun_rests e o begun queued rules waits =
    elim begun.keeps [
      | inl is ↦
          (let same : going begun.queue.streams ≡ going e.queues.queue.streams = ap (λ (q : SendQueueState). going q.streams) is.0 ∙ numbered_going begun.held.capabilities.message_interleaving begun.window e.queues.queue in
          let one = rests_held queued (new_history waits.floors) e.queues.queue (rules ∙ is.1) waits.holds in
          omega (arith, same, one))
      | inr is ↦
          (let same : going begun.queue.streams ≡ going (queue_restarted e.queues.queue).streams =
          ap (λ (q : SendQueueState). going q.streams) is ∙ numbered_going begun.held.capabilities.message_interleaving begun.window (queue_restarted e.queues.queue) in
          let none = none_going (queue_restarted e.queues.queue).streams (restarted_idle e.queues.queue) in
          omega (arith, same, none))
    ]
