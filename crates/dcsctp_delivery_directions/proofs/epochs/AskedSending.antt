-- Each stream of a direction is sent as its user asked for resets, with interleaving or without, also where a request fails.
use Rattle.dcsctp_delivery_directions.specs.directions.Directions.{is_in_turn}
use Rattle.std.proofs.Common.{◌≡◌, ℕ, suc, Bool, true, false, ◌<◌, ◌≤◌, ◌+◌, ◌^◌, List, [], length, refl, sym, ◌∙◌, ap, arith, subst, inl, inr}
use Rattle.std.proofs.lemmas.Bool.Decides.{leb_tells}
use Rattle.dcsctp_spec.specs.types.declared.options.Options.{Options}
use Rattle.dcsctp_spec.specs.endpoint.FlushOutcomes.{first_ask, packets_allowed}
use Rattle.dcsctp_spec.specs.endpoint.MessageOutcomes.{sending_queued}
use Rattle.dcsctp_spec.specs.queues.SendQueue.{SendQueueState}
use Rattle.dcsctp_spec.specs.queues.Transfer.{EndpointQueues}
use Rattle.dcsctp_delivery_directions.specs.sending.Log.{Message, History, new_history}
use Rattle.dcsctp_delivery_directions.specs.sending.Numbers.{stream_named}
use Rattle.dcsctp_delivery_directions.specs.sending.Flushes.{QueuesFollowLog}
use Rattle.dcsctp_delivery_directions.specs.directions.Directions.{Direction, tsns_in_flight, DirectionRun, begins, goes_on, starts, DirectionStep, queues, sets, prepares, commits, rolls_back, flushes, resends, resends_nothing, speaks, asks_again, renews, turns_aside, acknowledges, loses, receives, forwards, receives_interleaved, forwards_interleaved, tracks, defers, performs, performs_earlier, resets, takes}
use Rattle.dcsctp_delivery_directions.proofs.directions.Continuing.{step_continues, begun_history, started_history}
use Rattle.dcsctp_delivery_directions.proofs.directions.Directions.{begun_stands, started_stands}
use Rattle.dcsctp_delivery_directions.proofs.directions.Standing.{Stands}
use Rattle.dcsctp_delivery_directions.proofs.directions.Steps.{stepped, more_queued}
use Rattle.dcsctp_delivery_directions.proofs.directions.Queued.{commits_by, commits_interleaved, commits_plain, stepped_commits, stepped_rolls_back, stepped_queues, stepped_sets, stepped_queue, stepped_prepares}
use Rattle.dcsctp_delivery_directions.proofs.directions.Receiving.{stepped_defers, stepped_receives, stepped_receives_interleaved, stepped_forwards, stepped_forwards_interleaved, stepped_tracks, stepped_takes, takes_data, stepped_arrived, skips, stepped_resets}
use Rattle.dcsctp_delivery_directions.proofs.directions.Sending.{stepped_speaks, stepped_asks_again, stepped_turns_aside, stepped_acknowledges, stepped_loses, stepped_sent, stepped_transfer}
use Rattle.dcsctp_delivery_directions.proofs.directions.Performing.{stepped_performs}
use Rattle.dcsctp_delivery_directions.specs.epochs.Sending.{EpochBounds, never_asked, is_open, IsKnown}
use Rattle.dcsctp_delivery_directions.specs.epochs.Directions.{asked_after, asked_of, opened_of}
use Rattle.dcsctp_delivery_directions.specs.epochs.InTurn.{SendsAsAsked, SendsAllAsAsked, starts_after, starts_of}
use Rattle.dcsctp_delivery_directions.proofs.epochs.Alike.{IsAlike}
use Rattle.dcsctp_delivery_directions.proofs.epochs.AskedSends.{none_since, to_epoch, of_epoch, still_asked, going_front, committing_asked, rolling_asked, rolling_known}
use Rattle.dcsctp_delivery_directions.proofs.epochs.Behind.{asked_keeps}
use Rattle.dcsctp_delivery_directions.proofs.epochs.Ending.{committing_known}
use Rattle.dcsctp_delivery_directions.proofs.epochs.FlushSteps.{was_sent, flush_stops, flush_waits, paused_before}
use Rattle.dcsctp_delivery_directions.proofs.epochs.Named.{AreApart, from_each}
use Rattle.dcsctp_delivery_directions.proofs.epochs.Preparing.{preparing_by_epoch, preparing_known}
use Rattle.dcsctp_delivery_directions.proofs.epochs.Queueing.{queueing_by_epoch, setting_by_epoch, queueing_open, setting_open}
use Rattle.dcsctp_delivery_directions.proofs.epochs.SendingRuns.{at_once_size, grown_none}

-- The end of a reset assigns no TSN.
committed_log : (first : ℕ) (old : Direction) (s : Stands first old) (b : Bool) (is : old.queues.queue.is_interleaved ≡ b) (go_on : is_in_turn old ≡ true → (old.asking.out ≤ 1) × (old.asking.is_performed ≡ true))
    → (commits_by first old s b is go_on).history.log ≡ s.history.log
unfolding commits_by commits_interleaved commits_plain stepped_queue
committed_log first old s true is go_on = refl
committed_log first old s false is go_on = refl

pub ended_log : (first : ℕ) (old : Direction) (small : first < 2 ^ 32) (s : Stands first old) (few : length old.queued < 2 ^ 64) (go_on : is_in_turn old ≡ true → (old.asking.out ≤ 1) × (old.asking.is_performed ≡ true))
    → (stepped first old small s _ few (commits go_on)).history.log ≡ s.history.log
unfolding stepped stepped_commits
ended_log first old small s few go_on = committed_log first old s old.queues.queue.is_interleaved refl go_on

module _ (first : ℕ) (old : Direction) (small : first < 2 ^ 32) (s : Stands first old) (begun : ℕ → ℕ) (asked : ℕ → EpochBounds) (id : ℕ)
    (e : SendsAsAsked (length old.queued) s.history old.queues.queue id (begun id) (asked id)) where
  -- none is assigned when something is sent again
  again_asked : (direction : Direction) (after : Stands first direction) → direction.queues.queue ≡ old.queues.queue → direction.queued ≡ old.queued → IsAlike s.history after.history
      → SendsAsAsked (length direction.queued) after.history direction.queues.queue id (begun id) (asked id)
  again_asked direction after same same' alike =
      subst (λ (q : SendQueueState). SendsAsAsked (length direction.queued) after.history q id (begun id) (asked id)) (sym same)
      (subst (λ (l : List Message). SendsAsAsked (length l) after.history old.queues.queue id (begun id) (asked id)) (sym same')
      (still_asked s.history after.history alike.log old.queues.queue id (length old.queued) (begun id) (asked id) e))

  pub stepped_asked : (direction : Direction) (few : length direction.queued < 2 ^ 64) (step : DirectionStep old direction)
      → SendsAsAsked (length direction.queued) (stepped first old small s direction few step).history direction.queues.queue id (starts_after old direction step begun id) (asked_after old direction step asked id)
  unfolding stepped stepped_defers stepped_queues stepped_sets stepped_queue stepped_prepares stepped_rolls_back stepped_receives stepped_receives_interleaved stepped_forwards stepped_forwards_interleaved stepped_tracks stepped_takes takes_data stepped_arrived skips stepped_resets stepped_performs stepped_speaks stepped_asks_again stepped_turns_aside stepped_acknowledges stepped_loses stepped_sent stepped_transfer
  stepped_asked _ few (queues now sending fits some) =
      subst (λ (k : ℕ). SendsAsAsked (suc k) s.history (sending_queued now sending old.queues.queue) id (begun id) (asked id)) s.next
      (of_epoch (suc old.queues.queue.next_message_id) s.history (sending_queued now sending old.queues.queue) id (begun id) (asked id) e.from
      (queueing_by_epoch now sending old.queues.queue (none_since s.history) id (asked id) (going_front old.queued s.history.log old.queues.queue id s.queues.queue_holds)
      (to_epoch old.queues.queue.next_message_id s.history old.queues.queue id (begun id) (asked id)
      (subst (λ (k : ℕ). SendsAsAsked k s.history old.queues.queue id (begun id) (asked id)) (sym s.next) e))))
  stepped_asked _ few (sets setting fits) =
      of_epoch (length old.queued) s.history _ id (begun id) (asked id) e.from
      (setting_by_epoch setting old.queues.queue (none_since s.history) id (length old.queued) (asked id) (to_epoch (length old.queued) s.history old.queues.queue id (begun id) (asked id) e))
  stepped_asked _ few (prepares ids fit dropped) =
      of_epoch (length old.queued) s.history _ id (begun id) (asked_after old _ (prepares ids fit dropped) asked id) (λ n f low at on. subst (λ (k : ℕ). k ≤ f.place) (sym ((asked_keeps old _ (prepares ids fit dropped) asked tt).ended id)) (e.from n f low at on))
      (preparing_by_epoch ids old.queued old.queues.queue (none_since s.history) id asked s.queues.cut s.queues.queue_holds (to_epoch (length old.queued) s.history old.queues.queue id (begun id) (asked id) e))
  stepped_asked _ few (commits go_on) =
      committing_asked s.history (stepped first old small s _ few (commits go_on)).history (ended_log first old small s few go_on) old.queues.queue (length old.queued) id _ begun asked (sym s.count) s.queues.numbers.kept e
  stepped_asked _ few (rolls_back unmixed) = rolling_asked s.history old.queues.queue (length old.queued) id (begun id) (asked id) e
  stepped_asked _ few (flushes endpoint draft answers same no_data allowed) =
      let after = stepped first old small s _ few (flushes endpoint draft answers same no_data allowed) in
      let c = step_continues first old small s _ few (flushes endpoint draft answers same no_data allowed) tt in
      let before : QueuesFollowLog old.queued s.history first old.acknowledged endpoint.queues = subst (λ (b : EndpointQueues). QueuesFollowLog old.queued s.history first old.acknowledged b) (sym same) s.queues in
      let was : SendsAsAsked (length old.queued) s.history endpoint.queues.queue id (begun id) (asked id) = subst (λ (b : EndpointQueues). SendsAsAsked (length old.queued) s.history b.queue id (begun id) (asked id)) (sym same) e in
      let waits = flush_waits old.queued s.history after.history first old.acknowledged c.more c.log c.floors first_ask (packets_allowed endpoint.options.max_burst endpoint.core) endpoint draft answers allowed before after.queues id (asked id).ended was.waits in
      record {
        from = λ n f low at on. elim (leb_tells (suc n) (length s.history.log)) [
          | inl early ↦
              was.from n f low (was_sent old.queued s.history after.history first old.acknowledged c.more c.log c.floors first_ask (packets_allowed endpoint.options.max_burst endpoint.core) endpoint draft answers allowed before after.queues id n f (let less = early.1 in omega (arith, less)) at) on
          | inr late ↦ waits.1 n f (let less = late.1 in omega (arith, less)) at on
        ];
        waits = waits.0;
        stops = flush_stops old.queued s.history after.history first old.acknowledged c.more c.log c.floors first_ask (packets_allowed endpoint.options.max_burst endpoint.core) endpoint draft answers allowed before after.queues id (asked id).newest was.stops;
        newest = e.newest;
        ended = e.ended;
      }
  stepped_asked _ few (resends now room transfer left tsns chunks emission known sends are contents) =
      let after = stepped first old small s _ few (resends now room transfer left tsns chunks emission known sends are contents) in
      let c = step_continues first old small s _ few (resends now room transfer left tsns chunks emission known sends are contents) tt in
      again_asked _ after refl refl
      (grown_none first old _ s after c.more c.log c.floors (ap (λ (k : ℕ). old.acknowledged + k) (at_once_size now room old.queues.queue transfer.retransmission left tsns sends ∙ sym (ap tsns_in_flight known))))
  stepped_asked _ few (resends_nothing now room transfer left tsns known sends) =
      let after = stepped first old small s _ few (resends_nothing now room transfer left tsns known sends) in
      let c = step_continues first old small s _ few (resends_nothing now room transfer left tsns known sends) tt in
      again_asked _ after refl refl
      (grown_none first old _ s after c.more c.log c.floors (ap (λ (k : ℕ). old.acknowledged + k) (at_once_size now room old.queues.queue transfer.retransmission left tsns sends ∙ sym (ap tsns_in_flight known))))
  stepped_asked _ few (renews emission newest earlier number asks out contents) =
      let after = stepped first old small s _ few (renews emission newest earlier number asks out contents) in
      let c = step_continues first old small s _ few (renews emission newest earlier number asks out contents) tt in
      again_asked _ after refl refl (grown_none first old _ s after c.more c.log c.floors refl)
  stepped_asked _ few (speaks emission no_data) = e
  stepped_asked _ few (asks_again emission was has contents) = e
  stepped_asked _ few (turns_aside transfer new known same) = e
  stepped_asked _ few (acknowledges now sack transfer new known valid reached does) = e
  stepped_asked _ few (loses now transfer known) = e
  stepped_asked _ few (receives emission chunk theirs new was holds some same same' does) = e
  stepped_asked _ few (forwards emission tsn streams theirs new was holds same same' does) = e
  stepped_asked _ few (receives_interleaved emission chunk theirs new was holds some same same' does) = e
  stepped_asked _ few (forwards_interleaved emission tsn streams theirs new was holds same same' does) = e
  stepped_asked _ few (tracks new cumulative ranges) = e
  stepped_asked _ few (defers last_tsn streams some) = e
  stepped_asked _ few (performs newest earlier new asks unknown reached own leaves) = e
  stepped_asked _ few (performs_earlier newest earlier new asks unknown reached own leaves) = e
  stepped_asked _ few (resets streams new unmixed some leaves) = e
  stepped_asked _ few (takes message messages ready) = e

  -- A stream that is paused, and was open first, was asked for.
  pub stepped_known : (opened : Bool) → (opened ≡ true → is_open id old.queues.queue.streams ≡ false → IsKnown (asked id)) → (direction : Direction) (step : DirectionStep old direction)
      → opened ≡ true → is_open id direction.queues.queue.streams ≡ false → IsKnown (asked_after old direction step asked id)
  stepped_known opened known _ (queues now sending fits some) first' shut = known first' (sym (queueing_open now sending old.queues.queue id) ∙ shut)
  stepped_known opened known _ (sets setting fits) first' shut = known first' (sym (setting_open setting old.queues.queue id) ∙ shut)
  stepped_known opened known _ (prepares ids fit dropped) first' shut = preparing_known ids old.queues.queue (length old.queued) id asked (known first') shut
  stepped_known opened known _ (commits go_on) first' shut = committing_known old.queues.queue id asked (known first') shut
  stepped_known opened known _ (rolls_back unmixed) first' shut = rolling_known old.queues.queue id (asked id) (known first') shut
  stepped_known opened known _ (flushes endpoint draft answers same no_data allowed) first' shut =
      known first'
      (ap (λ (b : EndpointQueues). is_open id b.queue.streams) (sym same)
      ∙ paused_before first_ask (packets_allowed endpoint.options.max_burst endpoint.core) endpoint draft answers allowed (subst (λ (b : EndpointQueues). AreApart b.queue.streams) (sym same) s.queues.queue_holds.distinct) id shut)
  stepped_known opened known _ (resends now room transfer left tsns chunks emission known' sends are contents) first' shut = known first' shut
  stepped_known opened known _ (resends_nothing now room transfer left tsns known' sends) first' shut = known first' shut
  stepped_known opened known _ (renews emission newest earlier number asks out contents) first' shut = known first' shut
  stepped_known opened known _ (speaks emission no_data) first' shut = known first' shut
  stepped_known opened known _ (asks_again emission was has contents) first' shut = known first' shut
  stepped_known opened known _ (turns_aside transfer new known' same) first' shut = known first' shut
  stepped_known opened known _ (acknowledges now sack transfer new known' valid reached does) first' shut = known first' shut
  stepped_known opened known _ (loses now transfer known') first' shut = known first' shut
  stepped_known opened known _ (receives emission chunk theirs new was holds some same same' does) first' shut = known first' shut
  stepped_known opened known _ (forwards emission tsn streams theirs new was holds same same' does) first' shut = known first' shut
  stepped_known opened known _ (receives_interleaved emission chunk theirs new was holds some same same' does) first' shut = known first' shut
  stepped_known opened known _ (forwards_interleaved emission tsn streams theirs new was holds same same' does) first' shut = known first' shut
  stepped_known opened known _ (tracks new cumulative ranges) first' shut = known first' shut
  stepped_known opened known _ (defers last_tsn streams some) first' shut = known first' shut
  stepped_known opened known _ (performs newest earlier new asks unknown reached own leaves) first' shut = known first' shut
  stepped_known opened known _ (performs_earlier newest earlier new asks unknown reached own leaves) first' shut = known first' shut
  stepped_known opened known _ (resets streams new unmixed some leaves) first' shut = known first' shut
  stepped_known opened known _ (takes message messages ready) first' shut = known first' shut

-- ---- a run

-- What holds throughout: the history, and that each stream is sent so.
pub record GoesAsAsked (first : ℕ) (direction : Direction) (opened : ℕ → Bool) (begun : ℕ → ℕ) (asked : ℕ → EpochBounds) : Type 0 where
  pub stands : Stands first direction
  pub each : (id : ℕ) → SendsAsAsked (length direction.queued) stands.history direction.queues.queue id (begun id) (asked id)
  pub known : (id : ℕ) → opened id ≡ true → is_open id direction.queues.queue.streams ≡ false → IsKnown (asked id)

unfoldable pub new_asked : (first : ℕ) (direction : Direction) (s : Stands first direction) (floors : ℕ → Bool → ℕ) → s.history ≡ new_history floors → GoesAsAsked first direction (λ id. is_open id direction.queues.queue.streams) (λ id. 0) (λ id. never_asked)
new_asked first direction s floors is =
    record {
      stands = s;
      each = λ id. subst (λ (h : History). SendsAsAsked (length direction.queued) h direction.queues.queue id 0 never_asked) (sym is)
          (record { from = λ n f low at. absurd (cc); waits = from_each 0 (stream_named id direction.queues.queue.streams).messages (λ w has. omega arith); stops = tt; newest = λ place none. absurd (cc); ended = omega arith });
      known = λ id open_first shut. absurd (let no : true ≡ false = sym open_first ∙ shut in cc);
    }

unfoldable pub goes_asked : (first : ℕ) (old : Direction) → first < 2 ^ 32 → (opened : ℕ → Bool) (begun : ℕ → ℕ) (asked : ℕ → EpochBounds) → GoesAsAsked first old opened begun asked → (direction : Direction) → length direction.queued < 2 ^ 64 → (step : DirectionStep old direction)
    → GoesAsAsked first direction opened (starts_after old direction step begun) (asked_after old direction step asked)
goes_asked first old small opened begun asked g direction few step =
    record {
      stands = stepped first old small g.stands direction few step;
      each = λ id. stepped_asked first old small g.stands begun asked id (g.each id) direction few step;
      known = λ id. stepped_known first old small g.stands begun asked id (g.each id) (opened id) (g.known id) direction step;
    }

pub run_asked : (options : Options) (first size : ℕ) (direction : Direction) → first < 2 ^ 32 → length direction.queued < 2 ^ 64 → (run : DirectionRun options first size direction)
    → GoesAsAsked first direction (opened_of options first size direction run) (starts_of options first size direction run) (asked_of options first size direction run)
run_asked options first size _ small few (begins direction b) = new_asked first direction (begun_stands options first size direction small b) b.queues.floors (begun_history options first size direction small b)
run_asked options first size _ small few (goes_on old direction run step) =
    goes_asked first old small (opened_of options first size old run) (starts_of options first size old run) (asked_of options first size old run) (run_asked options first size old small (omega (arith, few, more_queued old direction step)) run) direction few step
run_asked options first size _ small few (starts old queued below beginning run awaited fit waits none begun) =
    let none_queued : length old.queued ≡ 0 = ap (λ (l : List Message). length l) awaited.queued in
    let g = run_asked options first size old small (omega (arith, none_queued)) run in
    new_asked first (record old { queued = queued; queues = below; prepared = []; beginning = beginning }) (started_stands first old queued below beginning g.stands awaited small fit waits none) waits.floors
    (started_history first old queued below beginning g.stands awaited small fit waits none)

pub directions_send_as_asked : (options : Options) (first size : ℕ) (direction : Direction) (run : DirectionRun options first size direction) → first < 2 ^ 32 → length direction.queued < 2 ^ 64
    → SendsAllAsAsked first direction (opened_of options first size direction run) (starts_of options first size direction run) (asked_of options first size direction run)
directions_send_as_asked options first size direction run small few =
    let g = run_asked options first size direction small few run in
    record { history = g.stands.history; queues = g.stands.queues; packets = g.stands.packets; each = g.each; known = g.known }
