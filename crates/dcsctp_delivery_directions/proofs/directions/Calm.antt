-- Steps in which the receiver resets no stream: the history continues.
use Rattle.dcsctp_delivery_directions.specs.directions.Directions.{is_in_turn}
use Rattle.dcsctp_delivery_directions.proofs.directions.InTurn.{turns_of}
use Rattle.std.proofs.Common.{◌≡◌, ℕ, Bool, true, false, ◌<◌, ◌≤◌, ◌^◌, Some, List, [], ◌∷◌, ◌++◌, length, refl, sym, ◌∙◌, subst, inl}
use Rattle.std.specs.Prelude.{◌⊎◌, Option, None}
use Rattle.dcsctp_spec.specs.endpoint.Event.{Event}
use Rattle.dcsctp_spec.specs.Packet.{Emission}
use Rattle.dcsctp_spec.specs.endpoint.BegunResets.{BegunReset}
use Rattle.dcsctp_spec.specs.queues.Transfer.{EndpointQueues}
use Rattle.dcsctp_delivery_directions.specs.sending.Places.{HasEntry}
use Rattle.dcsctp_delivery_directions.specs.sending.Log.{Slot, Mark, History, sent_messages}
use Rattle.dcsctp_delivery_directions.specs.sending.Flushes.{SendsLogged, begun_reset_of}
use Rattle.dcsctp_delivery_directions.specs.sending.Numbers.{AreCurrent}
use Rattle.dcsctp_delivery_directions.specs.directions.Calm.{ResetsNothing}
use Rattle.dcsctp_delivery_directions.specs.directions.Directions.{Direction, Asking, HasAsked, asking_with, DirectionStep, queues, sets, prepares, commits, rolls_back, flushes, resends, resends_nothing, speaks, asks_again, renews, turns_aside, acknowledges, loses, receives, forwards, receives_interleaved, forwards_interleaved, tracks, defers, performs, performs_earlier, resets, takes}
use Rattle.dcsctp_delivery_directions.proofs.sending.Extended.{IsAsOne, as_itself, extends_grown, extends_noted, extends_renewed}
use Rattle.dcsctp_delivery_directions.proofs.directions.Queued.{commits_by, commits_plain, stepped_commits, stepped_rolls_back, stepped_queues, stepped_sets, stepped_queue, stepped_prepares}
use Rattle.dcsctp_delivery_directions.proofs.directions.Receiving.{stepped_defers, stepped_receives, stepped_receives_interleaved, stepped_forwards, stepped_forwards_interleaved, stepped_tracks, stepped_takes, takes_data, stepped_arrived, skips, stepped_resets}
use Rattle.dcsctp_delivery_directions.proofs.directions.Sending.{stepped_resends, stepped_resends_nothing, stepped_speaks, stepped_asks_again, stepped_turns_aside, stepped_acknowledges, stepped_loses, stepped_sent, stepped_stays, stepped_transfer, at_once}
use Rattle.dcsctp_delivery_directions.proofs.directions.Flushing.{flushed, stepped_flushes}
use Rattle.dcsctp_delivery_directions.proofs.directions.Performing.{newest_of, stepped_performs}
use Rattle.dcsctp_delivery_directions.proofs.directions.Renewing.{stepped_renews}
use Rattle.dcsctp_delivery_directions.proofs.directions.Standing.{Stands}
use Rattle.dcsctp_delivery_directions.proofs.directions.Steps.{stepped}

-- More TSNs may have been assigned, to pieces that were sent since the last reset of their stream, and a reset may have begun.
-- No floor was raised.
pub record Continues (old new : History) : Type 0 where
  pub more : List Slot
  pub log : new.log ≡ more ++ old.log
  pub floors : new.floors ≡ old.floors
  pub current : AreCurrent old more
  pub marks : (mark : Mark) → HasEntry mark new.marks → IsAsOne old mark ⊎ (length old.log ≤ mark.bound)

pub continues_same : (history : History) → Continues history history
continues_same history = record { more = []; log = refl; floors = refl; current = λ n f at kind. absurd (cc); marks = λ mark has. inl (as_itself history mark has) }

module _ (first : ℕ) (old : Direction) (s : Stands first old) (below : EndpointQueues) (events : List (Event Emission)) (next : below.queue.next_message_id ≡ old.queues.queue.next_message_id)
    (kind : below.queue.is_interleaved ≡ old.queues.queue.is_interleaved) where
  flushed_continues : (begun : Option BegunReset) (sends : SendsLogged (sent_messages old.queued s.history) first old.acknowledged old.queues.queue begun below events) → Continues s.history (flushed first old s below events next kind begun sends).history
  unfolding flushed
  flushed_continues None sends = record { more = sends.more; log = refl; floors = refl; current = sends.current; marks = (extends_grown sends.more s.history).later }
  flushed_continues (Some begun) sends =
      record { more = sends.more; log = refl; floors = refl; current = sends.current; marks = (extends_noted (Some begun) sends.ids sends.bound sends.more s.history sends.low).later }

-- The sender ends a reset. With interleaving the receiver has performed it.
ended_continues : (first : ℕ) (old : Direction) (s : Stands first old) (b : Bool) (is : old.queues.queue.is_interleaved ≡ b) (go_on : is_in_turn old ≡ true → (old.asking.out ≤ 1) × (old.asking.is_performed ≡ true))
    → (old.queues.queue.is_interleaved ≡ true → old.asking.is_performed ≡ false) → Continues s.history (commits_by first old s b is go_on).history
unfolding commits_by commits_plain stepped_queue
ended_continues first old s true is go_on unperformed = absurd (let clash : true ≡ false = sym (go_on (turns_of old is)).1 ∙ unperformed is in cc)
ended_continues first old s false is go_on unperformed = continues_same s.history

pub calm_continues : (first : ℕ) (old : Direction) (small : first < 2 ^ 32) (s : Stands first old) (direction : Direction) (few : length direction.queued < 2 ^ 64) (step : DirectionStep old direction)
    → (old.queues.queue.is_interleaved ≡ true → old.asking.is_performed ≡ false) → Continues s.history (stepped first old small s direction few step).history
unfolding stepped stepped_commits stepped_rolls_back stepped_defers stepped_queues stepped_sets stepped_queue stepped_prepares stepped_receives stepped_receives_interleaved stepped_forwards stepped_forwards_interleaved stepped_tracks stepped_takes takes_data stepped_arrived skips stepped_resets stepped_performs stepped_resends stepped_resends_nothing stepped_speaks stepped_asks_again stepped_turns_aside stepped_acknowledges stepped_loses stepped_sent stepped_stays stepped_transfer stepped_flushes stepped_renews
calm_continues first old small s _ few (queues now sending fits some) unperformed = continues_same s.history
calm_continues first old small s _ few (sets setting fits) unperformed = continues_same s.history
calm_continues first old small s _ few (prepares ids fit kept) unperformed = continues_same s.history
calm_continues first old small s _ few (commits go_on) unperformed = ended_continues first old s old.queues.queue.is_interleaved refl go_on unperformed
calm_continues first old small s _ few (rolls_back unmixed) unperformed = continues_same s.history
calm_continues first old small s _ few (flushes e draft answers same no_data allowed) unperformed = flushed_continues first old s _ _ _ _ _ _
calm_continues first old small s _ few (resends now room transfer left tsns chunks emission known sends are contents) unperformed =
    let stays = at_once first old s now room transfer left tsns known sends in
    record { more = stays.more; log = refl; floors = refl; current = stays.current; marks = (extends_grown stays.more s.history).later }
calm_continues first old small s _ few (resends_nothing now room transfer left tsns known sends) unperformed =
    let stays = at_once first old s now room transfer left tsns known sends in
    record { more = stays.more; log = refl; floors = refl; current = stays.current; marks = (extends_grown stays.more s.history).later }
calm_continues first old small s _ few (speaks emission no_data) unperformed = continues_same s.history
calm_continues first old small s _ few (asks_again emission begun was contents) unperformed = continues_same s.history
calm_continues first old small s _ few (renews emission newest earlier number asks out contents) unperformed =
    let m = newest_of s.history.marks newest earlier (sym s.asked ∙ asks) in
    record {
      more = [];
      log = refl;
      floors = refl;
      current = λ n f at kind. absurd (cc);
      marks = (extends_renewed number m.mark s.history (subst (λ (l : List Mark). HasEntry m.mark l) (sym m.is) (inl refl))).later;
    }
calm_continues first old small s _ few (turns_aside transfer new known same) unperformed = continues_same s.history
calm_continues first old small s _ few (acknowledges now sack transfer new known valid reached does) unperformed = continues_same s.history
calm_continues first old small s _ few (loses now transfer known) unperformed = continues_same s.history
calm_continues first old small s _ few (receives emission chunk theirs new was holds some same same' does) unperformed = continues_same s.history
calm_continues first old small s _ few (forwards emission tsn streams theirs new was holds same same' does) unperformed = continues_same s.history
calm_continues first old small s _ few (receives_interleaved emission chunk theirs new was holds some same same' does) unperformed = continues_same s.history
calm_continues first old small s _ few (forwards_interleaved emission tsn streams theirs new was holds same same' does) unperformed = continues_same s.history
calm_continues first old small s _ few (tracks new cumulative ranges) unperformed = continues_same s.history
calm_continues first old small s _ few (defers last_tsn streams some) unperformed = continues_same s.history
calm_continues first old small s _ few (performs newest earlier new asks unknown reached own leaves) unperformed = continues_same s.history
calm_continues first old small s _ few (resets streams new unmixed some leaves) unperformed = continues_same s.history
calm_continues first old small s _ few (performs_earlier newest earlier new asks unknown reached own leaves) unperformed = continues_same s.history
calm_continues first old small s _ few (takes message messages is) unperformed = continues_same s.history

-- ---- the receiver has performed no reset

begun_unperformed : (begun : Option BegunReset) (asking : Asking) → asking.is_performed ≡ false → (asking_with begun asking).is_performed ≡ false
begun_unperformed None asking unperformed = unperformed
begun_unperformed (Some begun) asking unperformed = refl

pub stays_unperformed : (old direction : Direction) (step : DirectionStep old direction) → ResetsNothing old direction step → old.asking.is_performed ≡ false → direction.asking.is_performed ≡ false
stays_unperformed old _ (queues now sending fits some) calm unperformed = unperformed
stays_unperformed old _ (sets setting fits) calm unperformed = unperformed
stays_unperformed old _ (prepares ids fit kept) calm unperformed = unperformed
stays_unperformed old _ (commits go_on) calm unperformed = unperformed
stays_unperformed old _ (rolls_back unmixed) calm unperformed = unperformed
stays_unperformed old _ (flushes e draft answers same no_data allowed) calm unperformed = begun_unperformed (begun_reset_of answers) old.asking unperformed
stays_unperformed old _ (resends now room transfer left tsns chunks emission known sends are contents) calm unperformed = unperformed
stays_unperformed old _ (resends_nothing now room transfer left tsns known sends) calm unperformed = unperformed
stays_unperformed old _ (speaks emission no_data) calm unperformed = unperformed
stays_unperformed old _ (asks_again emission begun was contents) calm unperformed = unperformed
stays_unperformed old _ (renews emission newest earlier number asks out contents) calm unperformed = refl
stays_unperformed old _ (turns_aside transfer new known same) calm unperformed = unperformed
stays_unperformed old _ (acknowledges now sack transfer new known valid reached does) calm unperformed = unperformed
stays_unperformed old _ (loses now transfer known) calm unperformed = unperformed
stays_unperformed old _ (receives emission chunk theirs new was holds some same same' does) calm unperformed = unperformed
stays_unperformed old _ (forwards emission tsn streams theirs new was holds same same' does) calm unperformed = unperformed
stays_unperformed old _ (receives_interleaved emission chunk theirs new was holds some same same' does) calm unperformed = unperformed
stays_unperformed old _ (forwards_interleaved emission tsn streams theirs new was holds same same' does) calm unperformed = unperformed
stays_unperformed old _ (tracks new cumulative ranges) calm unperformed = unperformed
stays_unperformed old _ (defers last_tsn streams some) calm unperformed = unperformed
stays_unperformed old _ (performs newest earlier new asks unknown reached own leaves) calm unperformed = absurd calm
stays_unperformed old _ (resets streams new unmixed some leaves) calm unperformed = absurd calm
stays_unperformed old _ (performs_earlier newest earlier new asks unknown reached own leaves) calm unperformed = absurd calm
stays_unperformed old _ (takes message messages is) calm unperformed = unperformed

-- ---- the sender has begun no request to reset streams

-- None was begun before a step after which there is none.
pub none_asked : (old direction : Direction) → DirectionStep old direction → direction.asking.requests ≡ [] → old.asking.requests ≡ []
none_asked old _ (queues now sending fits some) none = none
none_asked old _ (sets setting fits) none = none
none_asked old _ (prepares ids fit kept) none = none
none_asked old _ (commits go_on) none = none
none_asked old _ (rolls_back unmixed) none = none
none_asked old _ (flushes e draft answers same no_data allowed) none = before (begun_reset_of answers) none
  where
    before : (begun : Option BegunReset) → (asking_with begun old.asking).requests ≡ [] → old.asking.requests ≡ []
    before None is = is
    before (Some begun) is = absurd (cc)
none_asked old _ (resends now room transfer left tsns chunks emission known sends are contents) none = none
none_asked old _ (resends_nothing now room transfer left tsns known sends) none = none
none_asked old _ (speaks emission no_data) none = none
none_asked old _ (asks_again emission begun was contents) none = none
none_asked old _ (renews emission newest earlier number asks out contents) none = absurd (cc)
none_asked old _ (turns_aside transfer new known same) none = none
none_asked old _ (acknowledges now sack transfer new known valid reached does) none = none
none_asked old _ (loses now transfer known) none = none
none_asked old _ (receives emission chunk theirs new was holds some same same' does) none = none
none_asked old _ (forwards emission tsn streams theirs new was holds same same' does) none = none
none_asked old _ (receives_interleaved emission chunk theirs new was holds some same same' does) none = none
none_asked old _ (forwards_interleaved emission tsn streams theirs new was holds same same' does) none = none
none_asked old _ (tracks new cumulative ranges) none = none
none_asked old _ (defers last_tsn streams some) none = none
none_asked old _ (performs newest earlier new asks unknown reached own leaves) none = none
none_asked old _ (resets streams new unmixed some leaves) none = none
none_asked old _ (performs_earlier newest earlier new asks unknown reached own leaves) none = none
none_asked old _ (takes message messages is) none = none

-- Where none was begun, there are no streams of one.
pub none_has : (requests : List BegunReset) (streams : List ℕ) → HasAsked requests streams → requests ≡ [] → ⊥
none_has requests streams asked none = subst (λ (l : List BegunReset). HasEntry asked.begun l) none asked.has

-- So its receiver resets nothing.
pub unasked_calm : (old direction : Direction) (step : DirectionStep old direction) → old.asking.requests ≡ [] → ResetsNothing old direction step
unasked_calm old _ (queues now sending fits some) none = tt
unasked_calm old _ (sets setting fits) none = tt
unasked_calm old _ (prepares ids fit kept) none = tt
unasked_calm old _ (commits go_on) none = tt
unasked_calm old _ (rolls_back unmixed) none = tt
unasked_calm old _ (flushes e draft answers same no_data allowed) none = tt
unasked_calm old _ (resends now room transfer left tsns chunks emission known sends are contents) none = tt
unasked_calm old _ (resends_nothing now room transfer left tsns known sends) none = tt
unasked_calm old _ (speaks emission no_data) none = tt
unasked_calm old _ (asks_again emission begun was contents) none = tt
unasked_calm old _ (renews emission newest earlier number asks out contents) none = tt
unasked_calm old _ (turns_aside transfer new known same) none = tt
unasked_calm old _ (acknowledges now sack transfer new known valid reached does) none = tt
unasked_calm old _ (loses now transfer known) none = tt
unasked_calm old _ (receives emission chunk theirs new was holds some same same' does) none = tt
unasked_calm old _ (forwards emission tsn streams theirs new was holds same same' does) none = tt
unasked_calm old _ (receives_interleaved emission chunk theirs new was holds some same same' does) none = tt
unasked_calm old _ (forwards_interleaved emission tsn streams theirs new was holds same same' does) none = tt
unasked_calm old _ (tracks new cumulative ranges) none = tt
unasked_calm old _ (defers last_tsn streams some) none = tt
unasked_calm old _ (performs newest earlier new asks unknown reached own leaves) none = absurd (let clash : newest ∷ earlier ≡ [] = sym asks ∙ none in cc)
unasked_calm old _ (resets streams new unmixed some leaves) none = absurd (none_has old.asking.requests streams some none)
unasked_calm old _ (performs_earlier newest earlier new asks unknown reached own leaves) none = absurd (let clash : newest ∷ earlier ≡ [] = sym asks ∙ none in cc)
unasked_calm old _ (takes message messages is) none = tt
