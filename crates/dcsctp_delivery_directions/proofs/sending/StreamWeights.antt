-- How much waits, where messages leave.
use Rattle.std.proofs.Common.{◌≡◌, ℕ, suc, ◌+◌, ◌≤◌, List, [], ◌∷◌, length, drop, refl, sym, ◌∙◌, ap, arith, subst, inl, inr}
use Rattle.std.specs.Prelude.{◌⊎◌, Option, None, Some}
use Rattle.std.proofs.lemmas.List.Sums.{sum_by-cons}
use Rattle.dcsctp_spec.specs.types.declared.sending.UnderWay.{UnderWay}
use Rattle.dcsctp_spec.specs.types.queues.SendStreams.{Waiting, Stream, front_of, progress_size, stream_at}
use Rattle.dcsctp_spec.specs.queues.SendQueue.{under_way_size}
use Rattle.dcsctp_delivery_directions.specs.sending.Places.{at_place}
use Rattle.dcsctp_delivery_directions.specs.sending.Log.{Message, Slot}
use Rattle.dcsctp_delivery_directions.specs.sending.Pieces.{WaitingWasQueued, AllQueued, IsGoing, Going}
use Rattle.dcsctp_delivery_directions.specs.sending.Weights.{weigh, weight}
use Rattle.dcsctp_delivery_directions.proofs.sending.Weights.{weigh_drop, front_weighs}

-- the same messages, and the same one under way
abbrev pub HasSame : Stream → Stream → Type 0
HasSame old new = (new.messages ≡ old.messages) × (new.under_way ≡ old.under_way)

-- the oldest message is gone
abbrev pub LosesFront : Stream → Stream → Type 0
LosesFront old new = (new.messages ≡ drop 1 old.messages) × (new.under_way ≡ None)

-- ---- the message under way

pub front_queued : (queued : List Message) (id : ℕ) (messages : List Waiting) (w : Waiting) → AllQueued queued id messages → front_of messages ≡ Some w → WaitingWasQueued queued id w
front_queued queued id [] w are e = absurd (cc)
front_queued queued id (v ∷ messages) w are e = let same : v ≡ w = cc in subst (λ (x : Waiting). WaitingWasQueued queued id x) same are.0

-- it is the message that was queued at its place
pub going_payload : (queued : List Message) (log : List Slot) (s : Stream) (u : UnderWay) → AllQueued queued s.id s.messages → (g : IsGoing queued log s u) → length g.waiting.payload ≡ length g.message.payload
going_payload queued log s u wait g =
    let was = front_queued queued s.id s.messages g.waiting wait g.front in
    let both : Some was.message ≡ Some g.message = sym was.at ∙ ap (λ (k : ℕ). at_place k queued) g.named ∙ g.at in
    let same : was.message ≡ g.message = cc in
    ap (λ (l : List ℕ). length l) was.is.payload ∙ ap (λ (m : Message). length m.payload) same

-- ---- how much waits

-- What was sent of the message under way weighs less than the message.
pub going_weight : (queued : List Message) (log : List Slot) (s : Stream) → AllQueued queued s.id s.messages → Going queued log s s.under_way → weigh (drop 1 s.messages) + progress_size s.under_way ≤ weigh s.messages
going_weight queued log s wait going = go s.under_way going
  where
    go : (u : Option UnderWay) → Going queued log s u → weigh (drop 1 s.messages) + progress_size u ≤ weigh s.messages
    go None g = (let rest = weigh_drop s.messages in omega (arith, rest))
    go (Some u) g =
        let long = going_payload queued log s u wait g in
        let rest = front_weighs s.messages g.waiting g.front in
        let unfinished = g.unfinished in
        omega (arith, long, rest, unfinished)

first_weight : (old new : Stream) → HasSame old new ⊎ LosesFront old new → weigh (drop 1 old.messages) + progress_size old.under_way ≤ weigh old.messages → weigh new.messages + progress_size old.under_way ≤ weigh old.messages + progress_size new.under_way
first_weight old new (inl e) room =
    let same : weigh new.messages ≡ weigh old.messages = ap weigh e.0 in
    let sent : progress_size new.under_way ≡ progress_size old.under_way = ap progress_size e.1 in
    omega (arith, same, sent)
first_weight old new (inr e) room = (let same : weigh new.messages ≡ weigh (drop 1 old.messages) = ap weigh e.0 in omega (arith, same, room))

pub size_first : (s : Stream) (streams : List Stream) → under_way_size (s ∷ streams) ≡ progress_size s.under_way + under_way_size streams
size_first s streams = sum_by-cons (λ (x : Stream). progress_size x.under_way) s streams

-- Where messages leave, what was sent of them leaves too.
pub shorter_weight : (old new : List Stream) → length new ≡ length old → ((q : ℕ) → HasSame (stream_at old q) (stream_at new q) ⊎ LosesFront (stream_at old q) (stream_at new q))
    → ((q : ℕ) → weigh (drop 1 (stream_at old q).messages) + progress_size (stream_at old q).under_way ≤ weigh (stream_at old q).messages) → weight new + under_way_size old ≤ weight old + under_way_size new
shorter_weight [] [] sizes less room = omega arith
shorter_weight [] (t ∷ new) sizes less room = absurd (omega arith)
shorter_weight (s ∷ old) [] sizes less room = absurd (omega arith)
shorter_weight (s ∷ old) (t ∷ new) sizes less room =
    let first = first_weight s t (less 0) (room 0) in
    let rest = shorter_weight old new (omega (arith, sizes)) (λ q. less (suc q)) (λ q. room (suc q)) in
    let before = size_first s old in
    let after = size_first t new in
    omega (arith, first, rest, before, after)

pub same_size : (old new : List Stream) → length new ≡ length old → ((q : ℕ) → (stream_at new q).under_way ≡ (stream_at old q).under_way) → under_way_size new ≡ under_way_size old
same_size [] [] sizes same = refl
same_size [] (t ∷ new) sizes same = absurd (omega arith)
same_size (s ∷ old) [] sizes same = absurd (omega arith)
same_size (s ∷ old) (t ∷ new) sizes same =
    let first : progress_size t.under_way ≡ progress_size s.under_way = ap progress_size (same 0) in
    let rest = same_size old new (omega (arith, sizes)) (λ q. same (suc q)) in
    let before = size_first s old in
    let after = size_first t new in
    omega (arith, first, rest, before, after)

pub only_messages : (old new : Stream) → HasSame old new ⊎ LosesFront old new → (new.messages ≡ old.messages) ⊎ (new.messages ≡ drop 1 old.messages)
only_messages old new (inl e) = inl e.0
only_messages old new (inr e) = inr e.0
