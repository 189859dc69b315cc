-- What is sent next on a stream was queued after each reset of it was asked for that was performed.
use Rattle.std.proofs.Common.{◌≡◌, ℕ, Bool, true, false, ◌≤◌, List, length, refl, ◌∙◌, ap, arith, inl, inr}
use Rattle.std.specs.Prelude.{◌⊎◌, ◌&&◌, Some, if◌then◌else◌}
use Rattle.dcsctp_spec.specs.types.declared.sending.Pause.{Pause}
use Rattle.dcsctp_spec.specs.types.declared.sending.Pause.TheVariants.{Open, Pausing, HandedOut}
use Rattle.dcsctp_spec.specs.types.queues.SendStreams.{Stream}
use Rattle.dcsctp_spec.specs.queues.Incoming.{is_named}
use Rattle.dcsctp_spec.specs.queues.OwnResets.{is_open_pause}
use Rattle.dcsctp_delivery_directions.specs.sending.Numbers.{is_handed_out, stream_named}
use Rattle.dcsctp_delivery_directions.specs.sending.Places.{HasEntry}
use Rattle.dcsctp_delivery_directions.specs.directions.Directions.{Direction, DirectionStep, queues, sets, prepares, commits, rolls_back, flushes, resends, resends_nothing, speaks, asks_again, renews, turns_aside, acknowledges, loses, receives, forwards, receives_interleaved, forwards_interleaved, tracks, defers, performs, performs_earlier, resets, takes}
use Rattle.dcsctp_delivery_directions.proofs.directions.Continuing.{EndsNone}
use Rattle.dcsctp_delivery_directions.specs.order.Queue.{Cut}
use Rattle.dcsctp_delivery_directions.specs.order.Reading.{Watch}
use Rattle.dcsctp_delivery_directions.specs.epochs.Sending.{EpochBounds, asked_with}
use Rattle.dcsctp_delivery_directions.specs.epochs.Directions.{asked_after}

-- All resets that were performed are watched, with when they are asked for; and all that is received, if the window is small.
abbrev pub watch_of : Bool → (ℕ → ℕ → Bool) → (ℕ → List Cut) → ℕ → Watch
watch_of sized asks cuts id = record { asks = asks id; cuts = cuts id; knows_all = sized }

-- The reset was asked for by the newest request of a stream that is handed out, or earlier. It is performed, and has no end yet.
pub record IsPending (streams : List Stream) (id : ℕ) (asked : EpochBounds) (cut : Cut) : Type 0 where
  pub handed : is_handed_out (stream_named id streams).pause ≡ true
  pub place : ℕ
  pub newest : asked.newest ≡ Some place
  pub below : cut.place ≤ place

-- What is sent next was queued after each reset that was performed was asked for.
abbrev pub AreBehind : List Stream → (ℕ → EpochBounds) → (ℕ → List Cut) → Type 0
AreBehind streams asked cuts = (id : ℕ) (cut : Cut) → HasEntry cut (cuts id) → (cut.place ≤ (asked id).ended) ⊎ IsPending streams id (asked id) cut

-- ---- what is asked for

-- What is asked for leaves streams that are handed out as they are.
pub handed_shut : (p : Pause) → is_handed_out p ≡ true → is_open_pause p ≡ false
handed_shut Open is = absurd (cc)
handed_shut Pausing is = absurd (cc)
handed_shut HandedOut is = refl

and_false : (b : Bool) → (b && false) ≡ false
and_false true = refl
and_false false = refl

same_ended : (ids : List ℕ) (streams : List Stream) (count : ℕ) (asked : ℕ → EpochBounds) (id : ℕ) → (asked_with ids streams count asked id).ended ≡ (asked id).ended
same_ended ids streams count asked id = go (is_named ids id && is_open_pause (stream_named id streams).pause)
  where
    go : (b : Bool) → (if b then record (asked id) { newest = Some count } else asked id).ended ≡ (asked id).ended
    go true = refl
    go false = refl

same_newest : (ids : List ℕ) (streams : List Stream) (count : ℕ) (asked : ℕ → EpochBounds) (id : ℕ) → is_handed_out (stream_named id streams).pause ≡ true → (asked_with ids streams count asked id).newest ≡ (asked id).newest
same_newest ids streams count asked id handed =
    rw (ap (λ (b : Bool). is_named ids id && b) (handed_shut (stream_named id streams).pause handed) ∙ and_false (is_named ids id)) refl

-- The step asks for nothing new on a stream that is handed out, and ends nothing.
pub record KeepsAsked (streams : List Stream) (old new : ℕ → EpochBounds) : Type 0 where
  pub ended : (id : ℕ) → (new id).ended ≡ (old id).ended
  pub newest : (id : ℕ) → is_handed_out (stream_named id streams).pause ≡ true → (new id).newest ≡ (old id).newest

asked_same : (streams : List Stream) (asked : ℕ → EpochBounds) → KeepsAsked streams asked asked
asked_same streams asked = record { ended = λ id. refl; newest = λ id handed. refl }

pub asked_keeps : (old direction : Direction) (step : DirectionStep old direction) (asked : ℕ → EpochBounds) → EndsNone old direction step → KeepsAsked old.queues.queue.streams asked (asked_after old direction step asked)
asked_keeps old _ (queues now sending fits some) asked ends = asked_same old.queues.queue.streams asked
asked_keeps old _ (sets setting fits) asked ends = asked_same old.queues.queue.streams asked
asked_keeps old _ (prepares ids fit kept) asked ends =
    record { ended = same_ended ids old.queues.queue.streams (length old.queued) asked; newest = same_newest ids old.queues.queue.streams (length old.queued) asked }
asked_keeps old _ (commits go_on) asked ends = absurd ends
asked_keeps old _ (rolls_back unmixed) asked ends = absurd ends
asked_keeps old _ (flushes e draft answers same no_data allowed) asked ends = asked_same old.queues.queue.streams asked
asked_keeps old _ (resends now room transfer left tsns chunks emission known sends are contents) asked ends = asked_same old.queues.queue.streams asked
asked_keeps old _ (resends_nothing now room transfer left tsns known sends) asked ends = asked_same old.queues.queue.streams asked
asked_keeps old _ (speaks emission no_data) asked ends = asked_same old.queues.queue.streams asked
asked_keeps old _ (asks_again emission begun was contents) asked ends = asked_same old.queues.queue.streams asked
asked_keeps old _ (renews emission newest earlier number asks out contents) asked ends = asked_same old.queues.queue.streams asked
asked_keeps old _ (turns_aside transfer new known same) asked ends = asked_same old.queues.queue.streams asked
asked_keeps old _ (acknowledges now sack transfer new known valid reached does) asked ends = asked_same old.queues.queue.streams asked
asked_keeps old _ (loses now transfer known) asked ends = asked_same old.queues.queue.streams asked
asked_keeps old _ (receives emission chunk theirs new was holds some same same' does) asked ends = asked_same old.queues.queue.streams asked
asked_keeps old _ (forwards emission tsn streams theirs new was holds same same' does) asked ends = asked_same old.queues.queue.streams asked
asked_keeps old _ (receives_interleaved emission chunk theirs new was holds some same same' does) asked ends = asked_same old.queues.queue.streams asked
asked_keeps old _ (forwards_interleaved emission tsn streams theirs new was holds same same' does) asked ends = asked_same old.queues.queue.streams asked
asked_keeps old _ (tracks new cumulative ranges) asked ends = asked_same old.queues.queue.streams asked
asked_keeps old _ (defers last_tsn streams some) asked ends = asked_same old.queues.queue.streams asked
asked_keeps old _ (performs newest earlier new asks unknown reached own leaves) asked ends = asked_same old.queues.queue.streams asked
asked_keeps old _ (resets streams new unmixed some leaves) asked ends = asked_same old.queues.queue.streams asked
asked_keeps old _ (performs_earlier newest earlier new asks unknown reached own leaves) asked ends = asked_same old.queues.queue.streams asked
asked_keeps old _ (takes message messages ready) asked ends = asked_same old.queues.queue.streams asked

-- What is sent is still behind.
pub behind_later : (before after : List Stream) (old new : ℕ → EpochBounds) (cuts : ℕ → List Cut) → ((id : ℕ) → is_handed_out (stream_named id before).pause ≡ true → is_handed_out (stream_named id after).pause ≡ true) → KeepsAsked before old new
    → AreBehind before old cuts → AreBehind after new cuts
behind_later before after old new cuts stay keeps behind id cut has =
    elim (behind id cut has) [
      | inl low ↦ inl (let same = keeps.ended id in omega (arith, low, same))
      | inr p ↦ inr (record { handed = stay id p.handed; place = p.place; newest = keeps.newest id p.handed ∙ p.newest; below = p.below })
    ]
