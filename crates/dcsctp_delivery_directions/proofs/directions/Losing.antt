-- Where no message has limits, none is left out in a run of a direction.
use Rattle.std.proofs.Common.{◌≡◌, ℕ, false, ◌<◌, ◌^◌, List, [], ◌++◌, length, refl, sym, ◌∙◌, ap, arith, subst, inl, inr}
use Rattle.std.specs.Prelude.{◌⊎◌, Some}
use Rattle.dcsctp_spec.specs.types.declared.options.Options.{Options}
use Rattle.dcsctp_spec.specs.endpoint.FlushOutcomes.{first_ask, packets_allowed, flush_of}
use Rattle.dcsctp_spec.specs.endpoint.MessageOutcomes.{sending_queued}
use Rattle.dcsctp_spec.specs.endpoint.SettingOutcomes.{set_in_queue}
use Rattle.dcsctp_spec.specs.queues.OwnResets.{queue_committed, queue_rolled_back}
use Rattle.dcsctp_spec.specs.types.queues.SendStreams.{Stream}
use Rattle.dcsctp_spec.specs.queues.SendQueue.{SendQueueState}
use Rattle.dcsctp_spec.specs.queues.Transfer.{EndpointQueues}
use Rattle.dcsctp_delivery_directions.specs.sending.Places.{at_place}
use Rattle.dcsctp_delivery_directions.specs.sending.Log.{Message, Slot, History}
use Rattle.dcsctp_delivery_directions.specs.sending.Flushes.{InFlight}
use Rattle.dcsctp_delivery_directions.specs.sending.Losing.{AreUnlimited, AllWaitOn, StillWaits, IsKept, NoneLost}
use Rattle.dcsctp_delivery_directions.specs.sending.Queueing.{message_of}
use Rattle.dcsctp_delivery_directions.proofs.sending.Losing.{KeepsQueues, FreeQueues, flush_keeps, free_below, kept_more, kept_on}
use Rattle.dcsctp_delivery_directions.proofs.sending.Places.{at_cases}
use Rattle.dcsctp_delivery_directions.proofs.sending.StillWaiting.{queued_waits, queueing_waits, setting_waits, committing_waits, rolling_back_waits}
use Rattle.dcsctp_delivery_directions.specs.directions.Directions.{Direction, Beginning, KeepsAll, Asking, DirectionRun, begins, goes_on, starts, DirectionStep, queues, sets, prepares, commits, rolls_back, flushes, resends, resends_nothing, speaks, asks_again, renews, turns_aside, acknowledges, loses, receives, forwards, receives_interleaved, forwards_interleaved, tracks, defers, performs, performs_earlier, resets, takes}
use Rattle.dcsctp_delivery_directions.specs.directions.Losing.{LeavesOutNone, KeptAskNothing}
use Rattle.dcsctp_delivery_directions.proofs.directions.Calm.{Continues, calm_continues, stays_unperformed, none_asked, unasked_calm}
use Rattle.dcsctp_delivery_directions.proofs.directions.Continuing.{begun_history, started_history}
use Rattle.dcsctp_delivery_directions.proofs.directions.Directions.{begun_stands, started_stands, run_stands}
use Rattle.dcsctp_delivery_directions.proofs.directions.Standing.{Stands}
use Rattle.dcsctp_delivery_directions.proofs.directions.Steps.{stepped, more_queued}
use Rattle.dcsctp_delivery_directions.proofs.directions.Unpaused.{IsUnpaused, none_prepared, all_open, stays_unpaused}

-- ---- one step

kept_waits : (old new : History) (more : List Slot) (streams others : List Stream) (place : ℕ) → new.log ≡ more ++ old.log → (StillWaits streams place → StillWaits others place) → IsKept old.log streams place → IsKept new.log others place
kept_waits old new more streams others place grows waits kept =
    elim (kept_more old new more streams place grows kept) [
      | inl was ↦ inl was
      | inr still ↦ inr (waits still)
    ]

-- A message that was sent or waits still does, if none has limits.
module _ (first : ℕ) (old : Direction) (s : Stands first old) (are : AreUnlimited old.queued) (new : History) (more : List Slot) (grows : new.log ≡ more ++ s.history.log) (place : ℕ) (kept : IsKept s.history.log old.queues.queue.streams place) where
  same_waits : IsKept new.log old.queues.queue.streams place
  same_waits = kept_more s.history new more old.queues.queue.streams place grows kept

  pub step_keeps : (direction : Direction) (step : DirectionStep old direction) → KeepsAll old.beginning → InFlight new first direction.acknowledged direction.queues.transfer → IsKept new.log direction.queues.queue.streams place
  step_keeps _ (queues now sending fits some) keeps flight = kept_waits s.history new more old.queues.queue.streams (sending_queued now sending old.queues.queue).streams place grows (queueing_waits now sending old.queues.queue place) kept
  step_keeps _ (sets setting fits) keeps flight = kept_waits s.history new more old.queues.queue.streams (set_in_queue setting old.queues.queue).streams place grows (setting_waits setting old.queues.queue place) kept
  step_keeps _ (prepares ids fit dropped) keeps flight = subst (λ (q : SendQueueState). IsKept new.log q.streams place) (sym (none_prepared old.beginning (length old.queued) old.queues.queue.streams ids old.queues.queue keeps dropped)) same_waits
  step_keeps _ (commits go_on) keeps flight = kept_waits s.history new more old.queues.queue.streams (queue_committed old.queues.queue).streams place grows (committing_waits old.queues.queue place) kept
  step_keeps _ (rolls_back unmixed) keeps flight = kept_waits s.history new more old.queues.queue.streams (queue_rolled_back old.queues.queue).streams place grows (rolling_back_waits old.queues.queue place) kept
  step_keeps _ (flushes e draft answers same no_data allowed) keeps flight =
      let after : EndpointQueues = (flush_of e draft answers).after.queues in
      let free : FreeQueues e.queues = subst (λ (b : EndpointQueues). FreeQueues b) (sym same) (free_below old.queued s.history first old.acknowledged old.queues are s.queues) in
      let held : KeepsQueues old.queues after = subst (λ (b : EndpointQueues). KeepsQueues b after) same (flush_keeps first_ask (packets_allowed e.options.max_burst e.core) e draft answers allowed free) in
      kept_on s.history new more first old.acknowledged place old.queues after grows held flight kept
  step_keeps _ (resends now room transfer left tsns chunks emission known sends are' contents) keeps flight = same_waits
  step_keeps _ (resends_nothing now room transfer left tsns known sends) keeps flight = same_waits
  step_keeps _ (speaks emission no_data) keeps flight = same_waits
  step_keeps _ (asks_again emission begun was contents) keeps flight = same_waits
  step_keeps _ (renews emission newest earlier number asks out contents) keeps flight = same_waits
  step_keeps _ (turns_aside transfer next known same) keeps flight = same_waits
  step_keeps _ (acknowledges now sack transfer next known valid reached does) keeps flight = same_waits
  step_keeps _ (loses now transfer known) keeps flight = same_waits
  step_keeps _ (receives emission chunk theirs next was holds some same same' does) keeps flight = same_waits
  step_keeps _ (forwards emission tsn streams theirs next was holds same same' does) keeps flight = same_waits
  step_keeps _ (receives_interleaved emission chunk theirs next was holds some same same' does) keeps flight = same_waits
  step_keeps _ (forwards_interleaved emission tsn streams theirs next was holds same same' does) keeps flight = same_waits
  step_keeps _ (tracks next cumulative ranges) keeps flight = same_waits
  step_keeps _ (defers last_tsn streams some) keeps flight = same_waits
  step_keeps _ (performs newest earlier next asks unknown reached own leaves) keeps flight = same_waits
  step_keeps _ (resets streams next unmixed some leaves) keeps flight = same_waits
  step_keeps _ (performs_earlier newest earlier next asks unknown reached own leaves) keeps flight = same_waits
  step_keeps _ (takes message messages ready) keeps flight = same_waits

-- ---- what a step queues

-- It was queued before, or is queued now, and waits.
abbrev pub WasBefore : Direction → Direction → ℕ → Message → Type 0
WasBefore old direction place message = (at_place place old.queued ≡ Some message) ⊎ StillWaits direction.queues.queue.streams place

-- Where no message of the later queue has limits, none of the earlier one has.
pub unlimited_before : (old direction : Direction) → DirectionStep old direction → AreUnlimited direction.queued → AreUnlimited old.queued
unlimited_before old _ (queues now sending fits some) are = are.1
unlimited_before old _ (sets setting fits) are = are
unlimited_before old _ (prepares ids fit dropped) are = are
unlimited_before old _ (commits go_on) are = are
unlimited_before old _ (rolls_back unmixed) are = are
unlimited_before old _ (flushes e draft answers same no_data allowed) are = are
unlimited_before old _ (resends now room transfer left tsns chunks emission known sends are' contents) are = are
unlimited_before old _ (resends_nothing now room transfer left tsns known sends) are = are
unlimited_before old _ (speaks emission no_data) are = are
unlimited_before old _ (asks_again emission begun was contents) are = are
unlimited_before old _ (renews emission newest earlier number asks out contents) are = are
unlimited_before old _ (turns_aside transfer next known same) are = are
unlimited_before old _ (acknowledges now sack transfer next known valid reached does) are = are
unlimited_before old _ (loses now transfer known) are = are
unlimited_before old _ (receives emission chunk theirs next was holds some same same' does) are = are
unlimited_before old _ (forwards emission tsn streams theirs next was holds same same' does) are = are
unlimited_before old _ (receives_interleaved emission chunk theirs next was holds some same same' does) are = are
unlimited_before old _ (forwards_interleaved emission tsn streams theirs next was holds same same' does) are = are
unlimited_before old _ (tracks next cumulative ranges) are = are
unlimited_before old _ (defers last_tsn streams some) are = are
unlimited_before old _ (performs newest earlier next asks unknown reached own leaves) are = are
unlimited_before old _ (resets streams next unmixed some leaves) are = are
unlimited_before old _ (performs_earlier newest earlier next asks unknown reached own leaves) are = are
unlimited_before old _ (takes message messages ready) are = are

pub was_before : (first : ℕ) (old : Direction) → Stands first old → (direction : Direction) → DirectionStep old direction → (place : ℕ) (message : Message) → at_place place direction.queued ≡ Some message → WasBefore old direction place message
was_before first old s _ (queues now sending fits some) place message at =
    elim (at_cases place (message_of sending) message old.queued at) [
      | inl e ↦
          inr (subst (λ (k : ℕ). StillWaits (sending_queued now sending old.queues.queue).streams k) (s.next ∙ sym e.0) (queued_waits now sending old.queues.queue))
      | inr before ↦ inl before
    ]
was_before first old s _ (sets setting fits) place message at = inl at
was_before first old s _ (prepares ids fit dropped) place message at = inl at
was_before first old s _ (commits go_on) place message at = inl at
was_before first old s _ (rolls_back unmixed) place message at = inl at
was_before first old s _ (flushes e draft answers same no_data allowed) place message at = inl at
was_before first old s _ (resends now room transfer left tsns chunks emission known sends are' contents) place message at = inl at
was_before first old s _ (resends_nothing now room transfer left tsns known sends) place message at = inl at
was_before first old s _ (speaks emission no_data) place message at = inl at
was_before first old s _ (asks_again emission begun was contents) place message at = inl at
was_before first old s _ (renews emission newest earlier number asks out contents) place message at = inl at
was_before first old s _ (turns_aside transfer next known same) place message at = inl at
was_before first old s _ (acknowledges now sack transfer next known valid reached does) place message at = inl at
was_before first old s _ (loses now transfer known) place message at = inl at
was_before first old s _ (receives emission chunk theirs next was holds some same same' does) place message at = inl at
was_before first old s _ (forwards emission tsn streams theirs next was holds same same' does) place message at = inl at
was_before first old s _ (receives_interleaved emission chunk theirs next was holds some same same' does) place message at = inl at
was_before first old s _ (forwards_interleaved emission tsn streams theirs next was holds same same' does) place message at = inl at
was_before first old s _ (tracks next cumulative ranges) place message at = inl at
was_before first old s _ (defers last_tsn streams some) place message at = inl at
was_before first old s _ (performs newest earlier next asks unknown reached own leaves) place message at = inl at
was_before first old s _ (resets streams next unmixed some leaves) place message at = inl at
was_before first old s _ (performs_earlier newest earlier next asks unknown reached own leaves) place message at = inl at
was_before first old s _ (takes taken messages ready) place message at = inl at

-- Each step leaves out none.
pub step_loses_none : (first : ℕ) (old : Direction) (s : Stands first old) (direction : Direction) (step : DirectionStep old direction) → KeepsAll old.beginning → AreUnlimited direction.queued
    → (after : Stands first direction) (more : List Slot) → after.history.log ≡ more ++ s.history.log → NoneLost old.queued s.history.log old.queues.queue.streams → NoneLost direction.queued after.history.log direction.queues.queue.streams
step_loses_none first old s direction step keeps are after more grows none place message at =
    elim (was_before first old s direction step place message at) [
      | inl before ↦
          step_keeps first old s (unlimited_before old direction step are) after.history more grows place (none place message before) direction step keeps after.queues.flight
      | inr waits ↦ inr waits
    ]

-- no step changes how the sender began
pub same_beginning : (old direction : Direction) → DirectionStep old direction → direction.beginning ≡ old.beginning
same_beginning old _ (queues now sending fits some) = refl
same_beginning old _ (sets setting fits) = refl
same_beginning old _ (prepares ids fit kept) = refl
same_beginning old _ (commits go_on) = refl
same_beginning old _ (rolls_back unmixed) = refl
same_beginning old _ (flushes e draft answers same no_data allowed) = refl
same_beginning old _ (resends now room transfer left tsns chunks emission known sends are contents) = refl
same_beginning old _ (resends_nothing now room transfer left tsns known sends) = refl
same_beginning old _ (speaks emission no_data) = refl
same_beginning old _ (asks_again emission begun was contents) = refl
same_beginning old _ (renews emission newest earlier number asks out contents) = refl
same_beginning old _ (turns_aside transfer new known same) = refl
same_beginning old _ (acknowledges now sack transfer new known valid reached does) = refl
same_beginning old _ (loses now transfer known) = refl
same_beginning old _ (receives emission chunk theirs new was holds some same same' does) = refl
same_beginning old _ (forwards emission tsn streams theirs new was holds same same' does) = refl
same_beginning old _ (receives_interleaved emission chunk theirs new was holds some same same' does) = refl
same_beginning old _ (forwards_interleaved emission tsn streams theirs new was holds same same' does) = refl
same_beginning old _ (tracks new cumulative ranges) = refl
same_beginning old _ (defers last_tsn streams some) = refl
same_beginning old _ (performs newest earlier new asks unknown reached own leaves) = refl
same_beginning old _ (resets streams new unmixed some leaves) = refl
same_beginning old _ (performs_earlier newest earlier new asks unknown reached own leaves) = refl
same_beginning old _ (takes message messages ready) = refl

-- So it kept each stream before, if it does afterwards.
pub keeps_before : (old direction : Direction) → DirectionStep old direction → KeepsAll direction.beginning → KeepsAll old.beginning
keeps_before old direction step keeps id = sym (ap (λ (b : Beginning). b.keeps id) (same_beginning old direction step)) ∙ keeps id

-- ---- a run

-- Where the sender keeps all, it pauses no stream.
run_unpaused : (options : Options) (first size : ℕ) (direction : Direction) → DirectionRun options first size direction → KeepsAll direction.beginning → IsUnpaused direction
run_unpaused options first size _ (begins direction b) keeps = record { unpaused = all_open direction.queues.queue.streams (λ id. (b.begun.all id (keeps id)).unpaused); unasked = ap (λ (a : Asking). a.requests) b.asking }
run_unpaused options first size _ (goes_on old direction run step) keeps =
    let kept : KeepsAll old.beginning = keeps_before old direction step keeps in
    stays_unpaused old direction step kept (run_unpaused options first size old run kept)
run_unpaused options first size _ (starts old queued below beginning run awaited fit waits idle begun) keeps =
    record { unpaused = all_open below.queue.streams (λ id. (begun.all id (keeps id)).unpaused); unasked = ap (λ (a : Asking). a.requests) awaited.asking }

pub kept_ask_nothing : KeptAskNothing
kept_ask_nothing options first size direction run keeps = (run_unpaused options first size direction run keeps).unasked

-- All that was queued waits where nothing was sent yet.
pub none_lost_yet : (queued : List Message) (streams : List Stream) → ((id : ℕ) → AllWaitOn id queued streams) → NoneLost queued [] streams
none_lost_yet queued streams all place message at = inr ((all message.stream).waits place message at refl)

-- what holds throughout it
record LosesNone (first : ℕ) (direction : Direction) : Type 0 where
  stands : Stands first direction
  unperformed : direction.asking.is_performed ≡ false
  none : NoneLost direction.queued stands.history.log direction.queues.queue.streams

run_loses_none : (options : Options) (first size : ℕ) (direction : Direction) → first < 2 ^ 32 → length direction.queued < 2 ^ 64 → AreUnlimited direction.queued → DirectionRun options first size direction
    → KeepsAll direction.beginning → direction.asking.requests ≡ [] → LosesNone first direction
run_loses_none options first size _ small few are (begins direction b) keeps unasked =
    let is = begun_history options first size direction small b in
    record {
      stands = begun_stands options first size direction small b;
      unperformed = ap (λ (a : Asking). a.is_performed) b.asking;
      none = subst (λ (h : History). NoneLost direction.queued h.log direction.queues.queue.streams) (sym is) (none_lost_yet direction.queued direction.queues.queue.streams (λ id. b.begun.all id (keeps id)));
    }
run_loses_none options first size _ small few are (goes_on old direction run step) keeps unasked =
    let before = none_asked old direction step unasked in
    let calm = unasked_calm old direction step before in
    let kept : KeepsAll old.beginning = keeps_before old direction step keeps in
    let earlier = run_loses_none options first size old small (omega (arith, few, more_queued old direction step)) (unlimited_before old direction step are) run kept before in
    let s = stepped first old small earlier.stands direction few step in
    let c : Continues earlier.stands.history s.history = calm_continues first old small earlier.stands direction few step (λ interleaved. earlier.unperformed) in
    record {
      stands = s;
      unperformed = stays_unperformed old direction step calm earlier.unperformed;
      none = step_loses_none first old earlier.stands direction step kept are s c.more c.log earlier.none;
    }
run_loses_none options first size _ small few are (starts old queued below beginning run awaited fit waits idle begun) keeps unasked =
    let none_queued : length old.queued ≡ 0 = ap (λ (l : List Message). length l) awaited.queued in
    let before : Stands first old = run_stands options first size old small (omega (arith, none_queued)) run in
    let is = started_history first old queued below beginning before awaited small fit waits idle in
    record {
      stands = started_stands first old queued below beginning before awaited small fit waits idle;
      unperformed = ap (λ (a : Asking). a.is_performed) awaited.asking;
      none = subst (λ (h : History). NoneLost queued h.log below.queue.streams) (sym is) (none_lost_yet queued below.queue.streams (λ id. begun.all id (keeps id)));
    }

pub unlimited_leave_out_none : (options : Options) (first size : ℕ) (direction : Direction) → DirectionRun options first size direction → first < 2 ^ 32 → length direction.queued < 2 ^ 64 → AreUnlimited direction.queued
    → KeepsAll direction.beginning → LeavesOutNone first direction
unlimited_leave_out_none options first size direction run small few are keeps =
    let l = run_loses_none options first size direction small few are run keeps (kept_ask_nothing options first size direction run keeps) in
    record { history = l.stands.history; queues = l.stands.queues; packets = l.stands.packets; none = l.none }
