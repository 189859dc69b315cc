-- What the send queue hands out.
use Rattle.std.proofs.Common.{◌≡◌, ℕ, true, false, ◌<◌, List, refl, sym, ◌∙◌, ap, subst, inl, inr}
use Rattle.std.specs.Prelude.{Option, None, Some, is_some}
use Rattle.dcsctp_spec.specs.endpoint.Event.{Event}
use Rattle.dcsctp_spec.specs.types.declared.ids.StreamId.{StreamId}
use Rattle.dcsctp_spec.specs.types.declared.sending.UnderWay.{UnderWay}
use Rattle.dcsctp_spec.specs.types.queues.SendStreams.{Waiting, Stream, front_of, stream_at, unused_stream}
use Rattle.dcsctp_spec.specs.queues.SendQueue.{SendQueueState}
use Rattle.dcsctp_spec.specs.queues.Sending.{Fragment, fragment, begun_under_way, next_progress, queue_after_producing, size_produced, TakesFragment, Chooses}
use Rattle.dcsctp_delivery_directions.specs.sending.Log.{Message, History}
use Rattle.dcsctp_delivery_directions.specs.sending.Pieces.{HoldsQueued, HandsOutPiece}
use Rattle.dcsctp_delivery_directions.specs.sending.Numbers.{stream_named, is_handed_out, NumbersMessages}
use Rattle.dcsctp_delivery_directions.proofs.sending.Streams.{drops_hold, within_streams}
use Rattle.dcsctp_delivery_directions.proofs.sending.StreamsNamed.{found_at}
use Rattle.dcsctp_delivery_directions.proofs.sending.Numbered.{numbered_dropped}
use Rattle.dcsctp_delivery_directions.proofs.sending.Numbers.{as_dropped}
use Rattle.dcsctp_delivery_directions.proofs.sending.ProducedHeld.{held_on, IsFreeFor}
use Rattle.dcsctp_delivery_directions.proofs.sending.Pauses.{turn_open}
use Rattle.dcsctp_delivery_directions.proofs.sending.Begun.{begins}
use Rattle.dcsctp_delivery_directions.proofs.sending.Continued.{goes_on}
use Rattle.dcsctp_spec_lemmas.proofs.ChoosingLemmas.{chosen_turn}

pub progress_none : (message : Waiting) (s : Stream) → s.under_way ≡ None → next_progress message s ≡ begun_under_way message s
progress_none message s is =
    let same : s ≡ record s { under_way = None } = ap (λ (u : Option UnderWay). record s { under_way = u }) is in
    ap (next_progress message) same ∙ ap (begun_under_way message) (sym same)

pub progress_some : (message : Waiting) (s : Stream) (u : UnderWay) → s.under_way ≡ Some u → next_progress message s ≡ u
progress_some message s u is =
    let same : s ≡ record s { under_way = Some u } = ap (λ (v : Option UnderWay). record s { under_way = v }) is in
    ap (next_progress message) same

-- the oldest message of a stream that is held, or that no other holds up
hands_next : (queued : List Message) (history : History) (max place : ℕ) (queue : SendQueueState) (message : Waiting) (under_way : UnderWay) → 0 < max → HoldsQueued queued history.log queue.streams → NumbersMessages history queue
    → front_of (stream_at queue.streams place).messages ≡ Some message → under_way ≡ next_progress message (stream_at queue.streams place) → IsFreeFor (stream_at queue.streams place).id queue
    → (queue.held ≡ None → (stream_at queue.streams place).under_way ≡ None → is_handed_out (stream_at queue.streams place).pause ≡ false)
    → HandsOutPiece queued history (fragment under_way message (size_produced max message under_way)) (queue_after_producing place max message under_way queue)
hands_next queued history max place queue message under_way room holds numbers front come ours opens = go (stream_at queue.streams place).under_way refl
  where
    here : ℕ
    here = (stream_at queue.streams place).id

    Hands : UnderWay → Type 0
    Hands u = HandsOutPiece queued history (fragment u message (size_produced max message u)) (queue_after_producing place max message u queue)

    -- what is held has a message under way
    free : (stream_at queue.streams place).under_way ≡ None → queue.held ≡ None
    free idle =
        elim ours [
          | inl none ↦ none
          | inr held ↦
              (let named : stream_named (stream_at queue.streams place).id queue.streams ≡ stream_at queue.streams place =
              found_at (unused_stream 0 0 0) place queue.streams (within_streams queue.streams place message front) holds.distinct in
              absurd (let clash : false ≡ true = ap is_some (sym idle) ∙ ap (λ (s : Stream). is_some s.under_way) (sym named) ∙ numbers.whole.held (stream_at queue.streams place).id held in cc))
        ]

    go : (u : Option UnderWay) → (stream_at queue.streams place).under_way ≡ u → HandsOutPiece queued history (fragment under_way message (size_produced max message under_way)) (queue_after_producing place max message under_way queue)
    go None is =
        subst Hands (sym (come ∙ progress_none message (stream_at queue.streams place) is))
        (begins queued history max place queue message room holds numbers front is (free is) (opens (free is) is))
    go (Some u) is =
        subst Hands (sym (come ∙ progress_some message (stream_at queue.streams place) u is))
        (goes_on queued history max place queue message u room holds numbers front is ours)

pub hands_out : {P : Type 0} (queued : List Message) (history : History) (now max : ℕ) (old new : SendQueueState) (told_before told_after : List (Event P)) (part : Fragment)
    → 0 < max → HoldsQueued queued history.log old.streams → NumbersMessages history old → TakesFragment now max old told_before part new told_after
    → HandsOutPiece queued history part new
hands_out queued history now max old next told_before told_after part room holds numbers taken =
    subst (λ (b : SendQueueState). HandsOutPiece queued history part b) (sym taken.left)
    (subst (λ (s : Fragment). HandsOutPiece queued history s (queue_after_producing taken.place max taken.message taken.under_way taken.queue)) (sym taken.is) (go old.held refl taken.chosen))
  where
    Handed : Type 0
    Handed =
        HandsOutPiece queued history (fragment taken.under_way taken.message (size_produced max taken.message taken.under_way))
        (queue_after_producing taken.place max taken.message taken.under_way taken.queue)

    go : (held : Option StreamId) → old.held ≡ held → Chooses now max old held taken.queue taken.place → Handed
    go None is chosen =
        let free : taken.queue.held ≡ None = (as_dropped now old taken.drops.events taken.queue taken.drops.drops).held ∙ is in
        hands_next queued history max taken.place taken.queue taken.message taken.under_way room (drops_hold queued history.log now old taken.drops.events taken.queue taken.drops.drops holds)
        (numbered_dropped history now old taken.drops.events taken.queue taken.drops.drops numbers) taken.front taken.come (inl free)
        (λ none idle. (let turn = chosen_turn now max taken.queue taken.place taken.message chosen taken.front in turn_open (stream_at taken.queue.streams taken.place) turn.0 turn.1 idle))
    go (Some id) is chosen =
        let held : taken.queue.held ≡ held_on (stream_at taken.queue.streams taken.place).id = ap (λ (q : SendQueueState). q.held) chosen.0 ∙ is ∙ ap held_on (sym chosen.1) in
        hands_next queued history max taken.place taken.queue taken.message taken.under_way room (subst (λ (q : SendQueueState). HoldsQueued queued history.log q.streams) (sym chosen.0) holds)
        (subst (λ (q : SendQueueState). NumbersMessages history q) (sym chosen.0) numbers) taken.front taken.come (inr held)
        (λ none idle. absurd (let clash : None ≡ held_on (stream_at taken.queue.streams taken.place).id = sym none ∙ held in cc))
