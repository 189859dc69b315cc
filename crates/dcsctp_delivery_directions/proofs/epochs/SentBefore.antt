-- What was queued on a stream before a reset of it was asked for was sent, if nothing of the stream waited then.
use Rattle.dcsctp_delivery_directions.proofs.directions.InTurn.{turns_of}
use Rattle.std.proofs.Common.{◌≡◌, ℕ, Bool, true, false, ◌<◌, ◌≤◌, ◌^◌, List, [], ◌∷◌, length, refl, sym, ◌∙◌, ap, arith, subst, inl, inr}
use Rattle.std.specs.Prelude.{◌&&◌, Option, None, Some, if◌then◌else◌}
use Rattle.std.proofs.lemmas.Bool.Decides.{eqb_tells}
use Rattle.std.specs.List.{AllByRecursion}
use Rattle.dcsctp_spec.specs.types.queues.SendStreams.{Waiting, Stream}
use Rattle.dcsctp_spec.specs.queues.Incoming.{is_named}
use Rattle.dcsctp_spec.specs.queues.OwnResets.{is_open_pause}
use Rattle.dcsctp_delivery_directions.specs.sending.Places.{HasEntry, at_place}
use Rattle.dcsctp_delivery_directions.specs.sending.Log.{Message, Slot, History}
use Rattle.dcsctp_delivery_directions.specs.sending.Losing.{WasSentOf}
use Rattle.dcsctp_delivery_directions.specs.sending.Numbers.{stream_named, is_handed_out}
use Rattle.dcsctp_delivery_directions.specs.sending.Queueing.{message_of}
use Rattle.dcsctp_delivery_directions.proofs.sending.Losing.{sent_more}
use Rattle.dcsctp_delivery_directions.specs.directions.Directions.{Beginning, MayReset, Direction, DirectionStep, queues, sets, prepares, commits, rolls_back, flushes, resends, resends_nothing, speaks, asks_again, renews, turns_aside, acknowledges, loses, receives, forwards, receives_interleaved, forwards_interleaved, tracks, defers, performs, performs_earlier, resets, takes}
use Rattle.dcsctp_delivery_directions.proofs.directions.Continuing.{EndsNone, Continues, step_continues, ended_raises}
use Rattle.dcsctp_delivery_directions.proofs.directions.Queued.{stepped_queue, stepped_prepares}
use Rattle.dcsctp_delivery_directions.proofs.sending.Places.{at_cases}
use Rattle.dcsctp_delivery_directions.proofs.directions.Standing.{Stands}
use Rattle.dcsctp_delivery_directions.proofs.directions.Steps.{stepped}
use Rattle.dcsctp_delivery_directions.specs.epochs.Sending.{EpochBounds, newest_ended, asked_with, asked_ended, SendsByEpoch}
use Rattle.dcsctp_delivery_directions.specs.epochs.Directions.{asked_after}
use Rattle.dcsctp_delivery_directions.proofs.epochs.KeptEpochs.{KeepsEpoch, waits_on}

-- Each message of the stream without limits was sent that was queued before its newest reset was asked for, and since the one
-- before, if nothing of the stream waited.
abbrev pub SendsBefore : List Message → List Slot → (ℕ → Bool) → ℕ → EpochBounds → Type 0
SendsBefore queued log empties id asked =
    (count : ℕ) → asked.newest ≡ Some count → empties count ≡ true
    → (place : ℕ) (message : Message) → at_place place queued ≡ Some message → message.stream ≡ id → message.is_limited ≡ false → asked.ended ≤ place → place < count → WasSentOf log place

-- nothing of a named stream waits
pub empty_named : (beginning : Beginning) (count : ℕ) (streams : List Stream) (id : ℕ) (ids : List ℕ) → AllByRecursion (MayReset beginning count streams) ids → is_named ids id ≡ true → beginning.empties id count ≡ true → (stream_named id streams).messages ≡ []
empty_named beginning count streams id [] may named empties = absurd (cc)
empty_named beginning count streams id (other ∷ ids) may named empties =
    elim (eqb_tells other id) [
      | inl e ↦ ap (λ (k : ℕ). (stream_named k streams).messages) (sym e.1) ∙ may.0.empty (ap (λ (k : ℕ). beginning.empties k count) e.1 ∙ empties)
      | inr e ↦ empty_named beginning count streams id ids may.1 (rw e.0 at named) empties
    ]

both_of : (b c : Bool) → (b && c) ≡ true → (b ≡ true) × (c ≡ true)
both_of true true is = (refl, refl)
both_of true false is = absurd (cc)
both_of false c is = absurd (cc)

-- a message that was queued before
queued_before : (old direction : Direction) (step : DirectionStep old direction) → (place : ℕ) (message : Message) → at_place place direction.queued ≡ Some message → place < length old.queued → at_place place old.queued ≡ Some message
queued_before old _ (queues now sending fits some) place message at low =
    elim (at_cases place (message_of sending) message old.queued at) [ inl e ↦ absurd (let here = e.0 in omega (arith, here, low)) | inr before ↦ before ]
queued_before old _ (sets setting fits) place message at low = at
queued_before old _ (prepares ids fit dropped) place message at low = at
queued_before old _ (commits go_on) place message at low = at
queued_before old _ (rolls_back unmixed) place message at low = at
queued_before old _ (flushes e draft answers same no_data allowed) place message at low = at
queued_before old _ (resends now room transfer left tsns chunks emission known sends are' contents) place message at low = at
queued_before old _ (resends_nothing now room transfer left tsns known sends) place message at low = at
queued_before old _ (speaks emission no_data) place message at low = at
queued_before old _ (asks_again emission begun was contents) place message at low = at
queued_before old _ (renews emission newest earlier number asks out contents) place message at low = at
queued_before old _ (turns_aside transfer next known same) place message at low = at
queued_before old _ (acknowledges now sack transfer next known valid reached does) place message at low = at
queued_before old _ (loses now transfer known) place message at low = at
queued_before old _ (receives emission chunk theirs next was holds some same same' does) place message at low = at
queued_before old _ (forwards emission tsn streams theirs next was holds same same' does) place message at low = at
queued_before old _ (receives_interleaved emission chunk theirs next was holds some same same' does) place message at low = at
queued_before old _ (forwards_interleaved emission tsn streams theirs next was holds same same' does) place message at low = at
queued_before old _ (tracks next cumulative ranges) place message at low = at
queued_before old _ (defers last_tsn streams some) place message at low = at
queued_before old _ (performs newest earlier next asks unknown reached own leaves) place message at low = at
queued_before old _ (resets streams next unmixed some leaves) place message at low = at
queued_before old _ (performs_earlier newest earlier next asks unknown reached own leaves) place message at low = at
queued_before old _ (takes taken messages ready) place message at low = at

module _ (id first : ℕ) (old : Direction) (small : first < 2 ^ 32) (s : Stands first old) (asked : ℕ → EpochBounds) (e : SendsByEpoch (length old.queued) s.history old.queues.queue id (asked id))
    (k : KeepsEpoch old.queued s.history old.queues.queue id (asked id)) (sends : SendsBefore old.queued s.history.log (old.beginning.empties id) id (asked id)) where
  -- a request for it is made
  preparing_sends : (ids : List ℕ) → AllByRecursion (MayReset old.beginning (length old.queued) old.queues.queue.streams) ids
      → SendsBefore old.queued s.history.log (old.beginning.empties id) id (asked_with ids old.queues.queue.streams (length old.queued) asked id)
  preparing_sends ids may = go (is_named ids id && is_open_pause (stream_named id old.queues.queue.streams).pause) refl
    where
      all_sent : is_named ids id ≡ true → is_open_pause (stream_named id old.queues.queue.streams).pause ≡ true → old.beginning.empties id (length old.queued) ≡ true
          → (place : ℕ) (message : Message) → at_place place old.queued ≡ Some message → message.stream ≡ id → message.is_limited ≡ false → (asked id).ended ≤ place → WasSentOf s.history.log place
      all_sent named opens empties place message at on free low =
          elim (k place message at on free low) [
            | inr d ↦ absurd (let clash : true ≡ false = sym opens ∙ d.shut in cc)
            | inl kept ↦ elim kept [
              | inl was ↦ was
              | inr waits ↦ absurd
                  (subst (λ (l : List Waiting). HasEntry waits.waiting l) (empty_named old.beginning (length old.queued) old.queues.queue.streams id ids may named empties)
                  (waits_on old.queued s.history old.queues.queue id place message s.queues.queue_holds at on waits))
            ]
          ]

      go : (b : Bool) → (is_named ids id && is_open_pause (stream_named id old.queues.queue.streams).pause) ≡ b
          → SendsBefore old.queued s.history.log (old.beginning.empties id) id (if b then record (asked id) { newest = Some (length old.queued) } else asked id)
      go true is count newest empties place message at on free low below =
          let two = both_of (is_named ids id) (is_open_pause (stream_named id old.queues.queue.streams).pause) is in
          let same : length old.queued ≡ count = cc in
          all_sent two.0 two.1 (ap (old.beginning.empties id) same ∙ empties) place message at on free low
      go false is count newest empties place message at on free low below = sends count newest empties place message at on free low below

  -- a reset ends
  committing_sends : SendsBefore old.queued s.history.log (old.beginning.empties id) id (asked_ended old.queues.queue.streams asked id)
  committing_sends = go (is_handed_out (stream_named id old.queues.queue.streams).pause)
    where
      by_newest : (o : Option ℕ) → (asked id).newest ≡ o → SendsBefore old.queued s.history.log (old.beginning.empties id) id (newest_ended (record (asked id) { newest = o }))
      by_newest None is count newest empties place message at on free low below = absurd (cc)
      by_newest (Some place') is count newest empties place message at on free low below = absurd (let same : place' ≡ count = cc in omega (arith, same, low, below))

      go : (b : Bool) → SendsBefore old.queued s.history.log (old.beginning.empties id) id (if b then newest_ended (asked id) else asked id)
      go true = by_newest (asked id).newest refl
      go false = sends

  -- more is queued and sent
  plain_sends : (direction : Direction) (few : length direction.queued < 2 ^ 64) (step : DirectionStep old direction) → EndsNone old direction step → direction.beginning ≡ old.beginning → asked_after old direction step asked id ≡ asked id
      → SendsBefore direction.queued (stepped first old small s direction few step).history.log (direction.beginning.empties id) id (asked_after old direction step asked id)
  plain_sends direction few step ends start same =
      subst (λ (b : Beginning). SendsBefore direction.queued after.history.log (b.empties id) id (asked_after old direction step asked id)) (sym start)
      (subst (λ (b : EpochBounds). SendsBefore direction.queued after.history.log (old.beginning.empties id) id b) (sym same) now)
    where
      after : Stands first direction
      after = stepped first old small s direction few step

      c : Continues s.history after.history old.queues.queue.streams direction.queues.queue.streams old.asking.out direction.asking.out
      c = step_continues first old small s direction few step ends

      now : SendsBefore direction.queued after.history.log (old.beginning.empties id) id (asked id)
      now count newest empties place message at on free low below =
          let before = queued_before old direction step place message at (let up = (e.newest count newest).1 in omega (arith, up, below)) in
          subst (λ (l : List Slot). WasSentOf l place) (sym c.log) (sent_more c.more s.history.log place (sends count newest empties place message before on free low below))

  pub stepped_sends : (direction : Direction) (few : length direction.queued < 2 ^ 64) (step : DirectionStep old direction) → direction.queues.queue.is_interleaved ≡ true
      → SendsBefore direction.queued (stepped first old small s direction few step).history.log (direction.beginning.empties id) id (asked_after old direction step asked id)
  unfolding stepped stepped_queue stepped_prepares
  stepped_sends _ few (prepares ids fit dropped) interleaved = preparing_sends ids dropped
  stepped_sends _ few (commits go_on) interleaved =
      subst (λ (h : History). SendsBefore old.queued h.log (old.beginning.empties id) id (asked_ended old.queues.queue.streams asked id)) (sym (ended_raises first old small s few go_on interleaved)) committing_sends
  stepped_sends _ few (rolls_back unmixed) interleaved = absurd (let clash : true ≡ false = sym (turns_of old interleaved) ∙ unmixed in cc)
  stepped_sends _ few (queues now sending fits some) interleaved = plain_sends _ few (queues now sending fits some) tt refl refl
  stepped_sends _ few (sets setting fits) interleaved = plain_sends _ few (sets setting fits) tt refl refl
  stepped_sends _ few (flushes e draft answers same no_data allowed) interleaved = plain_sends _ few (flushes e draft answers same no_data allowed) tt refl refl
  stepped_sends _ few (resends now room transfer left tsns chunks emission known sends are' contents) interleaved = plain_sends _ few (resends now room transfer left tsns chunks emission known sends are' contents) tt refl refl
  stepped_sends _ few (resends_nothing now room transfer left tsns known sends) interleaved = plain_sends _ few (resends_nothing now room transfer left tsns known sends) tt refl refl
  stepped_sends _ few (speaks emission no_data) interleaved = plain_sends _ few (speaks emission no_data) tt refl refl
  stepped_sends _ few (asks_again emission begun was contents) interleaved = plain_sends _ few (asks_again emission begun was contents) tt refl refl
  stepped_sends _ few (renews emission newest earlier number asks out contents) interleaved = plain_sends _ few (renews emission newest earlier number asks out contents) tt refl refl
  stepped_sends _ few (turns_aside transfer next known same) interleaved = plain_sends _ few (turns_aside transfer next known same) tt refl refl
  stepped_sends _ few (acknowledges now sack transfer next known valid reached does) interleaved = plain_sends _ few (acknowledges now sack transfer next known valid reached does) tt refl refl
  stepped_sends _ few (loses now transfer known) interleaved = plain_sends _ few (loses now transfer known) tt refl refl
  stepped_sends _ few (receives emission chunk theirs next was holds some same same' does) interleaved = plain_sends _ few (receives emission chunk theirs next was holds some same same' does) tt refl refl
  stepped_sends _ few (forwards emission tsn streams theirs next was holds same same' does) interleaved = plain_sends _ few (forwards emission tsn streams theirs next was holds same same' does) tt refl refl
  stepped_sends _ few (receives_interleaved emission chunk theirs next was holds some same same' does) interleaved = plain_sends _ few (receives_interleaved emission chunk theirs next was holds some same same' does) tt refl refl
  stepped_sends _ few (forwards_interleaved emission tsn streams theirs next was holds same same' does) interleaved = plain_sends _ few (forwards_interleaved emission tsn streams theirs next was holds same same' does) tt refl refl
  stepped_sends _ few (tracks next cumulative ranges) interleaved = plain_sends _ few (tracks next cumulative ranges) tt refl refl
  stepped_sends _ few (defers last_tsn streams some) interleaved = plain_sends _ few (defers last_tsn streams some) tt refl refl
  stepped_sends _ few (performs newest earlier next asks unknown reached own leaves) interleaved = plain_sends _ few (performs newest earlier next asks unknown reached own leaves) tt refl refl
  stepped_sends _ few (resets streams next unmixed some leaves) interleaved = plain_sends _ few (resets streams next unmixed some leaves) tt refl refl
  stepped_sends _ few (performs_earlier newest earlier next asks unknown reached own leaves) interleaved = plain_sends _ few (performs_earlier newest earlier next asks unknown reached own leaves) tt refl refl
  stepped_sends _ few (takes taken messages ready) interleaved = plain_sends _ few (takes taken messages ready) tt refl refl
