-- What a step leaves of the messages that were queued between two resets of a stream.
use Rattle.dcsctp_delivery_directions.proofs.directions.InTurn.{turns_of}
use Rattle.std.proofs.Common.{◌≡◌, ℕ, Bool, true, false, ◌<◌, ◌≤◌, ◌+◌, ◌*◌, ◌^◌, List, ◌++◌, length, refl, sym, ◌∙◌, ap, arith, subst, inl, inr}
use Rattle.std.specs.Prelude.{Option, None, Some, if◌then◌else◌}
use Rattle.dcsctp_spec.specs.types.queues.SendStreams.{Stream}
use Rattle.dcsctp_spec.specs.endpoint.FlushOutcomes.{first_ask, packets_allowed, flush_of}
use Rattle.dcsctp_spec.specs.endpoint.MessageOutcomes.{sending_queued}
use Rattle.dcsctp_spec.specs.endpoint.SettingOutcomes.{set_in_queue}
use Rattle.dcsctp_spec.specs.queues.OwnResets.{is_open_pause, queue_committed}
use Rattle.dcsctp_spec.specs.queues.Transfer.{EndpointQueues}
use Rattle.dcsctp_delivery_directions.specs.sending.Places.{at_place}
use Rattle.dcsctp_delivery_directions.specs.sending.Log.{Message, Piece, Slot, History}
use Rattle.dcsctp_delivery_directions.specs.sending.Flushes.{InFlight}
use Rattle.dcsctp_delivery_directions.specs.sending.Losing.{StillWaits, IsKept}
use Rattle.dcsctp_delivery_directions.specs.sending.Numbers.{stream_named, is_handed_out, AreOfKind, CountsByKind, CountsMessages}
use Rattle.dcsctp_delivery_directions.specs.sending.Queueing.{floors_raised}
use Rattle.dcsctp_delivery_directions.proofs.sending.Chunks.{kinds_of}
use Rattle.dcsctp_delivery_directions.proofs.sending.HeldOn.{FreeQueuesOn, HoldsQueues, flush_held, kept_held}
use Rattle.dcsctp_delivery_directions.proofs.sending.Losing.{kept_more}
use Rattle.dcsctp_delivery_directions.proofs.sending.Places.{at_either}
use Rattle.dcsctp_delivery_directions.proofs.sending.StillWaiting.{queueing_waits, setting_waits, committing_waits}
use Rattle.dcsctp_delivery_directions.specs.directions.Directions.{Direction, DirectionStep, queues, sets, prepares, commits, rolls_back, flushes, resends, resends_nothing, speaks, asks_again, renews, turns_aside, acknowledges, loses, receives, forwards, receives_interleaved, forwards_interleaved, tracks, defers, performs, performs_earlier, resets, takes}
use Rattle.dcsctp_delivery_directions.proofs.directions.Continuing.{EndsNone, Continues, step_continues, ended_raises}
use Rattle.dcsctp_delivery_directions.proofs.directions.Losing.{was_before}
use Rattle.dcsctp_delivery_directions.proofs.directions.Queued.{stepped_queue, stepped_prepares}
use Rattle.dcsctp_delivery_directions.proofs.directions.Standing.{Stands}
use Rattle.dcsctp_delivery_directions.proofs.directions.Steps.{stepped}
use Rattle.dcsctp_delivery_directions.specs.epochs.Sending.{EpochBounds, newest_ended, asked_ended, is_open, HaltsIfAsked, SendsByEpoch, IsKnown}
use Rattle.dcsctp_delivery_directions.specs.epochs.Directions.{asked_after}
use Rattle.dcsctp_delivery_directions.proofs.epochs.Behind.{asked_keeps, handed_shut}
use Rattle.dcsctp_delivery_directions.proofs.epochs.Ending.{IsEndedAs, ended, still, committing_named, committing_by_epoch}
use Rattle.dcsctp_delivery_directions.proofs.epochs.KeptEpochs.{IsWithoutLimits, free_without, halting_at, IsKeptOrDropped, KeepsEpoch, preparing_keeps}
use Rattle.dcsctp_delivery_directions.proofs.epochs.Queueing.{queueing_open, setting_open}
use Rattle.dcsctp_delivery_directions.proofs.epochs.SendingRuns.{stepped_by_epoch}
use Rattle.dcsctp_delivery_directions.proofs.epochs.Shut.{flush_shut}

-- ---- a step that asks for no reset and ends none

abbrev AsksNothing : (old direction : Direction) → DirectionStep old direction → Type 0
AsksNothing old _ (prepares ids fit dropped) = ⊥
AsksNothing old _ (commits go_on) = ⊥
AsksNothing old _ (rolls_back unmixed) = ⊥
AsksNothing old _ step = Unit {0}

-- What it leaves of a stream, and of a message.
record LeavesEpochs (id place : ℕ) (log later : List Slot) (old direction : Direction) (step : DirectionStep old direction) : Type 0 where
  bounds : (asked : ℕ → EpochBounds) → asked_after old direction step asked id ≡ asked id
  shuts : is_open id old.queues.queue.streams ≡ false → is_open id direction.queues.queue.streams ≡ false
  keeps : IsKept log old.queues.queue.streams place → IsKept later direction.queues.queue.streams place

module _ (id first : ℕ) (old : Direction) (s : Stands first old) (new : History) (more : List Slot) (grows : new.log ≡ more ++ s.history.log) (place : ℕ) (message : Message) (at : at_place place old.queued ≡ Some message) (free : message.is_limited ≡ false) where
  same_kept : IsKept s.history.log old.queues.queue.streams place → IsKept new.log old.queues.queue.streams place
  same_kept kept = kept_more s.history new more old.queues.queue.streams place grows kept

  kept_waits : (others : List Stream) → (StillWaits old.queues.queue.streams place → StillWaits others place) → IsKept s.history.log old.queues.queue.streams place → IsKept new.log others place
  kept_waits others waits kept =
      elim (same_kept kept) [
        | inl was ↦ inl was
        | inr waits' ↦ inr (waits waits')
      ]

  leaves_epochs : (direction : Direction) (step : DirectionStep old direction) → AsksNothing old direction step → InFlight new first direction.acknowledged direction.queues.transfer → LeavesEpochs id place s.history.log new.log old direction step
  leaves_epochs _ (queues now sending fits some) none flight =
      record { bounds = λ asked. refl; shuts = λ is. queueing_open now sending old.queues.queue id ∙ is; keeps = kept_waits (sending_queued now sending old.queues.queue).streams (queueing_waits now sending old.queues.queue place) }
  leaves_epochs _ (sets setting fits) none flight =
      record { bounds = λ asked. refl; shuts = λ is. setting_open setting old.queues.queue id ∙ is; keeps = kept_waits (set_in_queue setting old.queues.queue).streams (setting_waits setting old.queues.queue place) }
  leaves_epochs _ (prepares ids fit dropped) none flight = absurd none
  leaves_epochs _ (commits go_on) none flight = absurd none
  leaves_epochs _ (rolls_back unmixed) none flight = absurd none
  leaves_epochs _ (flushes e draft answers same no_data allowed) none flight =
      let after : EndpointQueues = (flush_of e draft answers).after.queues in
      let frees : FreeQueuesOn (IsWithoutLimits old.queued) e.queues =
      subst (λ (b : EndpointQueues). FreeQueuesOn (IsWithoutLimits old.queued) b) (sym same) (free_without old.queued s.history first old.acknowledged old.queues s.queues) in
      let held : HoldsQueues (IsWithoutLimits old.queued) old.queues after =
      subst (λ (b : EndpointQueues). HoldsQueues (IsWithoutLimits old.queued) b after) same (flush_held (IsWithoutLimits old.queued) first_ask (packets_allowed e.options.max_burst e.core) e draft answers allowed frees) in
      record {
        bounds = λ asked. refl;
        shuts = λ is. flush_shut id first_ask (packets_allowed e.options.max_burst e.core) e draft answers allowed (ap (λ (b : EndpointQueues). is_open id b.queue.streams) same ∙ is);
        keeps = λ kept. kept_held (IsWithoutLimits old.queued) s.history new more first old.acknowledged place old.queues after (record { message = message; at = at; free = free }) grows held flight kept;
      }
  leaves_epochs _ (resends now room transfer left tsns chunks emission known sends fill contents) none flight = record { bounds = λ asked. refl; shuts = λ is. is; keeps = same_kept }
  leaves_epochs _ (resends_nothing now room transfer left tsns known sends) none flight = record { bounds = λ asked. refl; shuts = λ is. is; keeps = same_kept }
  leaves_epochs _ (speaks emission no_data) none flight = record { bounds = λ asked. refl; shuts = λ is. is; keeps = same_kept }
  leaves_epochs _ (asks_again emission begun was contents) none flight = record { bounds = λ asked. refl; shuts = λ is. is; keeps = same_kept }
  leaves_epochs _ (renews emission newest earlier number asks out contents) none flight = record { bounds = λ asked. refl; shuts = λ is. is; keeps = same_kept }
  leaves_epochs _ (turns_aside transfer new known same) none flight = record { bounds = λ asked. refl; shuts = λ is. is; keeps = same_kept }
  leaves_epochs _ (acknowledges now sack transfer new known valid reached does) none flight = record { bounds = λ asked. refl; shuts = λ is. is; keeps = same_kept }
  leaves_epochs _ (loses now transfer known) none flight = record { bounds = λ asked. refl; shuts = λ is. is; keeps = same_kept }
  leaves_epochs _ (receives emission chunk theirs new was holds some same same' does) none flight = record { bounds = λ asked. refl; shuts = λ is. is; keeps = same_kept }
  leaves_epochs _ (forwards emission tsn streams theirs new was holds same same' does) none flight = record { bounds = λ asked. refl; shuts = λ is. is; keeps = same_kept }
  leaves_epochs _ (receives_interleaved emission chunk theirs new was holds some same same' does) none flight = record { bounds = λ asked. refl; shuts = λ is. is; keeps = same_kept }
  leaves_epochs _ (forwards_interleaved emission tsn streams theirs new was holds same same' does) none flight = record { bounds = λ asked. refl; shuts = λ is. is; keeps = same_kept }
  leaves_epochs _ (tracks new cumulative ranges) none flight = record { bounds = λ asked. refl; shuts = λ is. is; keeps = same_kept }
  leaves_epochs _ (defers last_tsn streams some) none flight = record { bounds = λ asked. refl; shuts = λ is. is; keeps = same_kept }
  leaves_epochs _ (performs newest earlier new asks unknown reached own leaves) none flight = record { bounds = λ asked. refl; shuts = λ is. is; keeps = same_kept }
  leaves_epochs _ (performs_earlier newest earlier new asks unknown reached own leaves) none flight = record { bounds = λ asked. refl; shuts = λ is. is; keeps = same_kept }
  leaves_epochs _ (resets streams new unmixed some leaves) none flight = record { bounds = λ asked. refl; shuts = λ is. is; keeps = same_kept }
  leaves_epochs _ (takes message messages ready) none flight = record { bounds = λ asked. refl; shuts = λ is. is; keeps = same_kept }

module _ (id first : ℕ) (old : Direction) (small : first < 2 ^ 32) (s : Stands first old) (asked : ℕ → EpochBounds) (e : SendsByEpoch (length old.queued) s.history old.queues.queue id (asked id)) (k : KeepsEpoch old.queued s.history old.queues.queue id (asked id)) where
  plain_keeps : (direction : Direction) (few : length direction.queued < 2 ^ 64) (step : DirectionStep old direction) → direction.queues.queue.is_interleaved ≡ true → EndsNone old direction step → AsksNothing old direction step
      → KeepsEpoch direction.queued (stepped first old small s direction few step).history direction.queues.queue id (asked_after old direction step asked id)
  plain_keeps direction few step interleaved ends none place message at on free low =
      let after = stepped first old small s direction few step in
      let c : Continues s.history after.history old.queues.queue.streams direction.queues.queue.streams old.asking.out direction.asking.out = step_continues first old small s direction few step ends in
      elim (was_before first old s direction step place message at) [
        | inr waits ↦ inl (inr waits)
        | inl before ↦
            (let l = leaves_epochs id first old s after.history c.more c.log place message before free direction step none after.queues.flight in
            let same = l.bounds asked in
            elim (k place message before on free (subst (λ (b : EpochBounds). b.ended ≤ place) same low)) [
              | inl kept ↦ inl (l.keeps kept)
              | inr d ↦ inr (record {
                newest = d.newest;
                newest_is = ap (λ (b : EpochBounds). b.newest) same ∙ d.newest_is;
                before = d.before;
                shut = l.shuts d.shut;
                halts = subst (λ (b : EpochBounds). SendsByEpoch (length direction.queued) after.history direction.queues.queue id b) (l.bounds (λ other. halting_at place))
                    (stepped_by_epoch first old small s (λ other. halting_at place) id (λ was. d.halts) direction few step interleaved);
              })
            ])
      ]

  -- ---- a reset ends

  abbrev IsKeptAfter : ℕ → EpochBounds → Type 0
  IsKeptAfter place b = b.ended ≤ place → IsKeptOrDropped old.queued (floors_raised old.queues.queue.streams s.history) (queue_committed old.queues.queue) id b place

  committing_keeps : CountsMessages s.history old.queues.queue.streams
      → KeepsEpoch old.queued (floors_raised old.queues.queue.streams s.history) (queue_committed old.queues.queue) id (asked_ended old.queues.queue.streams asked id)
  committing_keeps counts place message at on free = go (committing_named old.queues.queue id)
    where
      kept_so : IsKept s.history.log old.queues.queue.streams place → IsKept s.history.log (queue_committed old.queues.queue).streams place
      kept_so kept = elim kept [ inl was ↦ inl was | inr waits ↦ inr (committing_waits old.queues.queue place waits) ]

      by_newest : (o : Option ℕ) → (asked id).newest ≡ o → IsKeptAfter place (newest_ended (record (asked id) { newest = o }))
      by_newest None is low =
          elim (k place message at on free low) [
            | inl kept ↦ inl (kept_so kept)
            | inr d ↦ absurd (let no : None ≡ Some d.newest = sym is ∙ d.newest_is in cc)
          ]
      by_newest (Some n) is low =
          elim (k place message at on free (let first' = (e.newest n is).0 in omega (arith, first', low))) [
            | inl kept ↦ inl (kept_so kept)
            | inr d ↦ absurd (let both : Some n ≡ Some d.newest = sym is ∙ d.newest_is in let same : n ≡ d.newest = cc in let before = d.before in omega (arith, before, same, low))
          ]

      go : IsEndedAs (stream_named id old.queues.queue.streams) (stream_named id (queue_committed old.queues.queue).streams) → IsKeptAfter place (asked_ended old.queues.queue.streams asked id)
      go (ended handed messages pause) = subst (λ (b : Bool). IsKeptAfter place (if b then newest_ended (asked id) else asked id)) (sym handed) (by_newest (asked id).newest refl)
      go (still kept' unmoves) = subst (λ (b : Bool). IsKeptAfter place (if b then newest_ended (asked id) else asked id)) (sym kept') (λ low. (
          elim (k place message at on free low) [
            | inl kept ↦ inl (kept_so kept)
            | inr d ↦ inr (record {
              newest = d.newest;
              newest_is = d.newest_is;
              before = d.before;
              shut = ap is_open_pause unmoves.pause ∙ d.shut;
              halts = subst (λ (b : Bool). SendsByEpoch (length old.queued) (floors_raised old.queues.queue.streams s.history) (queue_committed old.queues.queue) id (if b then newest_ended (halting_at place) else halting_at place)) kept'
                  (committing_by_epoch old.queues.queue s.history (length old.queued) id (λ other. halting_at place) counts s.queues.numbers.kept d.halts);
            })
          ]
          ))

  -- ---- each step

  pub stepped_keeps : (direction : Direction) (few : length direction.queued < 2 ^ 64) (step : DirectionStep old direction) → direction.queues.queue.is_interleaved ≡ true
      → KeepsEpoch direction.queued (stepped first old small s direction few step).history direction.queues.queue id (asked_after old direction step asked id)
  unfolding stepped stepped_queue stepped_prepares
  stepped_keeps _ few (prepares ids fit dropped) interleaved = preparing_keeps ids old.queued old.queues.queue s.history id asked s.queues.cut s.queues.queue_holds k
  stepped_keeps _ few (commits go_on) interleaved =
      subst (λ (h : History). KeepsEpoch old.queued h (queue_committed old.queues.queue) id (asked_ended old.queues.queue.streams asked id)) (sym (ended_raises first old small s few go_on interleaved))
      (committing_keeps (subst (λ (b : Bool). CountsByKind b s.history old.queues.queue.streams old.queues.queue.held) interleaved s.queues.numbers.counts))
  stepped_keeps _ few (rolls_back unmixed) interleaved = absurd (let clash : true ≡ false = sym (turns_of old interleaved) ∙ unmixed in cc)
  stepped_keeps _ few (queues now sending fits some) interleaved = plain_keeps _ few (queues now sending fits some) interleaved tt tt
  stepped_keeps _ few (sets setting fits) interleaved = plain_keeps _ few (sets setting fits) interleaved tt tt
  stepped_keeps _ few (flushes e draft answers same no_data allowed) interleaved = plain_keeps _ few (flushes e draft answers same no_data allowed) interleaved tt tt
  stepped_keeps _ few (resends now room transfer left tsns chunks emission known sends fill contents) interleaved = plain_keeps _ few (resends now room transfer left tsns chunks emission known sends fill contents) interleaved tt tt
  stepped_keeps _ few (resends_nothing now room transfer left tsns known sends) interleaved = plain_keeps _ few (resends_nothing now room transfer left tsns known sends) interleaved tt tt
  stepped_keeps _ few (speaks emission no_data) interleaved = plain_keeps _ few (speaks emission no_data) interleaved tt tt
  stepped_keeps _ few (asks_again emission begun was contents) interleaved = plain_keeps _ few (asks_again emission begun was contents) interleaved tt tt
  stepped_keeps _ few (renews emission newest earlier number asks out contents) interleaved = plain_keeps _ few (renews emission newest earlier number asks out contents) interleaved tt tt
  stepped_keeps _ few (turns_aside transfer new known same) interleaved = plain_keeps _ few (turns_aside transfer new known same) interleaved tt tt
  stepped_keeps _ few (acknowledges now sack transfer new known valid reached does) interleaved = plain_keeps _ few (acknowledges now sack transfer new known valid reached does) interleaved tt tt
  stepped_keeps _ few (loses now transfer known) interleaved = plain_keeps _ few (loses now transfer known) interleaved tt tt
  stepped_keeps _ few (receives emission chunk theirs new was holds some same same' does) interleaved = plain_keeps _ few (receives emission chunk theirs new was holds some same same' does) interleaved tt tt
  stepped_keeps _ few (forwards emission tsn streams theirs new was holds same same' does) interleaved = plain_keeps _ few (forwards emission tsn streams theirs new was holds same same' does) interleaved tt tt
  stepped_keeps _ few (receives_interleaved emission chunk theirs new was holds some same same' does) interleaved = plain_keeps _ few (receives_interleaved emission chunk theirs new was holds some same same' does) interleaved tt tt
  stepped_keeps _ few (forwards_interleaved emission tsn streams theirs new was holds same same' does) interleaved = plain_keeps _ few (forwards_interleaved emission tsn streams theirs new was holds same same' does) interleaved tt tt
  stepped_keeps _ few (tracks new cumulative ranges) interleaved = plain_keeps _ few (tracks new cumulative ranges) interleaved tt tt
  stepped_keeps _ few (defers last_tsn streams some) interleaved = plain_keeps _ few (defers last_tsn streams some) interleaved tt tt
  stepped_keeps _ few (performs newest earlier new asks unknown reached own leaves) interleaved = plain_keeps _ few (performs newest earlier new asks unknown reached own leaves) interleaved tt tt
  stepped_keeps _ few (performs_earlier newest earlier new asks unknown reached own leaves) interleaved = plain_keeps _ few (performs_earlier newest earlier new asks unknown reached own leaves) interleaved tt tt
  stepped_keeps _ few (resets streams new unmixed some leaves) interleaved = plain_keeps _ few (resets streams new unmixed some leaves) interleaved tt tt
  stepped_keeps _ few (takes message messages ready) interleaved = plain_keeps _ few (takes message messages ready) interleaved tt tt

-- ---- what was sent before the last reset

-- Each piece of the stream that was sent before its last reset was queued before that was asked for.
abbrev pub ArePast : History → ℕ → EpochBounds → Type 0
ArePast history id asked = (n : ℕ) (f : Piece) → at_place n history.log ≡ Some (Some f) → f.message.stream ≡ id → f.mid < history.floors f.message.stream f.message.is_unordered → f.place < asked.ended

module _ (id first : ℕ) (old : Direction) (small : first < 2 ^ 32) (s : Stands first old) (asked : ℕ → EpochBounds) (past : ArePast s.history id (asked id)) where
  plain_past : (direction : Direction) (few : length direction.queued < 2 ^ 64) (step : DirectionStep old direction) → direction.queues.queue.is_interleaved ≡ true → EndsNone old direction step
      → ArePast (stepped first old small s direction few step).history id (asked_after old direction step asked id)
  plain_past direction few step interleaved ends n f at on below =
      let after = stepped first old small s direction few step in
      let c : Continues s.history after.history old.queues.queue.streams direction.queues.queue.streams old.asking.out direction.asking.out = step_continues first old small s direction few step ends in
      let under : f.mid < s.history.floors f.message.stream f.message.is_unordered = subst (λ (floors : ℕ → Bool → ℕ). f.mid < floors f.message.stream f.message.is_unordered) c.floors below in
      let same = (asked_keeps old direction step asked ends).ended id in
      let kinds : AreOfKind true after.history.log = kinds_of after.queues.numbers (sym interleaved) in
      elim (at_either c.more s.history.log n (Some f) (ap (λ (l : List Slot). at_place n l) (sym c.log) ∙ at)) [
        | inl e ↦ absurd (let current = c.current e.0 f e.1 (kinds n f at) in omega (arith, current, under))
        | inr e ↦ (let place = past n f e on under in omega (arith, place, same))
      ]

  committing_past : (is_open id old.queues.queue.streams ≡ false → IsKnown (asked id)) → SendsByEpoch (length old.queued) s.history old.queues.queue id (asked id) → ArePast (floors_raised old.queues.queue.streams s.history) id (asked_ended old.queues.queue.streams asked id)
  committing_past known e n f at on below = go (is_handed_out (stream_named id old.queues.queue.streams).pause) refl
    where
      raised : (b : Bool) → is_handed_out (stream_named id old.queues.queue.streams).pause ≡ b → f.mid < (if b then 2 ^ 32 * (s.history.floors f.message.stream f.message.is_unordered + length s.history.log + 1) else s.history.floors f.message.stream f.message.is_unordered)
      raised b is = subst (λ (c : Bool). f.mid < (if c then 2 ^ 32 * (s.history.floors f.message.stream f.message.is_unordered + length s.history.log + 1) else s.history.floors f.message.stream f.message.is_unordered))
          (ap (λ (j : ℕ). is_handed_out (stream_named j old.queues.queue.streams).pause) on ∙ is) below

      by_newest : (o : Option ℕ) → (asked id).newest ≡ o → IsKnown (asked id) → HaltsIfAsked o s.history old.queues.queue id → is_open id old.queues.queue.streams ≡ false → f.place < (newest_ended (record (asked id) { newest = o })).ended
      by_newest None is its stops shut = absurd (let no : None ≡ Some its.place = sym is ∙ its.is in cc)
      by_newest (Some place) is its stops shut = (stops shut).sent n f at on

      go : (b : Bool) → is_handed_out (stream_named id old.queues.queue.streams).pause ≡ b → f.place < (if b then newest_ended (asked id) else asked id).ended
      go false is = past n f at on (raised false is)
      go true is =
          let shut = handed_shut (stream_named id old.queues.queue.streams).pause is in
          by_newest (asked id).newest refl (known shut) e.stops shut

  pub stepped_past : (is_open id old.queues.queue.streams ≡ false → IsKnown (asked id)) → SendsByEpoch (length old.queued) s.history old.queues.queue id (asked id) → (direction : Direction) (few : length direction.queued < 2 ^ 64) (step : DirectionStep old direction)
      → direction.queues.queue.is_interleaved ≡ true → ArePast (stepped first old small s direction few step).history id (asked_after old direction step asked id)
  stepped_past is_known by_it _ few (commits go_on) interleaved =
      subst (λ (h : History). ArePast h id (asked_ended old.queues.queue.streams asked id)) (sym (ended_raises first old small s few go_on interleaved)) (committing_past is_known by_it)
  stepped_past is_known by_it _ few (rolls_back unmixed) interleaved = absurd (let clash : true ≡ false = sym (turns_of old interleaved) ∙ unmixed in cc)
  stepped_past is_known by_it _ few (queues now sending fits some) interleaved = plain_past _ few (queues now sending fits some) interleaved tt
  stepped_past is_known by_it _ few (sets setting fits) interleaved = plain_past _ few (sets setting fits) interleaved tt
  stepped_past is_known by_it _ few (prepares ids fit kept) interleaved = plain_past _ few (prepares ids fit kept) interleaved tt
  stepped_past is_known by_it _ few (flushes e draft answers same no_data allowed) interleaved = plain_past _ few (flushes e draft answers same no_data allowed) interleaved tt
  stepped_past is_known by_it _ few (resends now room transfer left tsns chunks emission known sends fill contents) interleaved = plain_past _ few (resends now room transfer left tsns chunks emission known sends fill contents) interleaved tt
  stepped_past is_known by_it _ few (resends_nothing now room transfer left tsns known sends) interleaved = plain_past _ few (resends_nothing now room transfer left tsns known sends) interleaved tt
  stepped_past is_known by_it _ few (speaks emission no_data) interleaved = plain_past _ few (speaks emission no_data) interleaved tt
  stepped_past is_known by_it _ few (asks_again emission begun was contents) interleaved = plain_past _ few (asks_again emission begun was contents) interleaved tt
  stepped_past is_known by_it _ few (renews emission newest earlier number asks out contents) interleaved = plain_past _ few (renews emission newest earlier number asks out contents) interleaved tt
  stepped_past is_known by_it _ few (turns_aside transfer new known same) interleaved = plain_past _ few (turns_aside transfer new known same) interleaved tt
  stepped_past is_known by_it _ few (acknowledges now sack transfer new known valid reached does) interleaved = plain_past _ few (acknowledges now sack transfer new known valid reached does) interleaved tt
  stepped_past is_known by_it _ few (loses now transfer known) interleaved = plain_past _ few (loses now transfer known) interleaved tt
  stepped_past is_known by_it _ few (receives emission chunk theirs new was holds some same same' does) interleaved = plain_past _ few (receives emission chunk theirs new was holds some same same' does) interleaved tt
  stepped_past is_known by_it _ few (forwards emission tsn streams theirs new was holds same same' does) interleaved = plain_past _ few (forwards emission tsn streams theirs new was holds same same' does) interleaved tt
  stepped_past is_known by_it _ few (receives_interleaved emission chunk theirs new was holds some same same' does) interleaved = plain_past _ few (receives_interleaved emission chunk theirs new was holds some same same' does) interleaved tt
  stepped_past is_known by_it _ few (forwards_interleaved emission tsn streams theirs new was holds same same' does) interleaved = plain_past _ few (forwards_interleaved emission tsn streams theirs new was holds same same' does) interleaved tt
  stepped_past is_known by_it _ few (tracks new cumulative ranges) interleaved = plain_past _ few (tracks new cumulative ranges) interleaved tt
  stepped_past is_known by_it _ few (defers last_tsn streams some) interleaved = plain_past _ few (defers last_tsn streams some) interleaved tt
  stepped_past is_known by_it _ few (performs newest earlier new asks unknown reached own leaves) interleaved = plain_past _ few (performs newest earlier new asks unknown reached own leaves) interleaved tt
  stepped_past is_known by_it _ few (performs_earlier newest earlier new asks unknown reached own leaves) interleaved = plain_past _ few (performs_earlier newest earlier new asks unknown reached own leaves) interleaved tt
  stepped_past is_known by_it _ few (resets streams new unmixed some leaves) interleaved = plain_past _ few (resets streams new unmixed some leaves) interleaved tt
  stepped_past is_known by_it _ few (takes message messages ready) interleaved = plain_past _ few (takes message messages ready) interleaved tt
