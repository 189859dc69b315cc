-- With interleaving each stream of a direction is sent by epochs.
use Rattle.dcsctp_delivery_directions.specs.directions.Directions.{is_in_turn}
use Rattle.dcsctp_delivery_directions.proofs.directions.InTurn.{turns_of}
use Rattle.std.proofs.Common.{◌≡◌, ℕ, suc, Bool, true, false, ◌<◌, ◌≤◌, ◌+◌, ◌-◌, ◌^◌, List, [], ◌∷◌, ◌++◌, length, length-append, refl, sym, ◌∙◌, ap, arith, subst}
use Rattle.std.specs.Prelude.{Option, None, Some, is_some}
use Rattle.dcsctp_spec.specs.types.declared.options.Options.{Options}
use Rattle.dcsctp_spec.specs.types.declared.sending.UnderWay.{UnderWay}
use Rattle.dcsctp_spec.specs.types.queues.SendStreams.{Waiting, front_of}
use Rattle.dcsctp_spec.specs.queues.AtOnce.{SendsAtOnce}
use Rattle.dcsctp_spec.specs.queues.Filling.{Stage, SendsMarked, StageSteps, none as no_steps, more as more_steps}
use Rattle.dcsctp_spec.specs.queues.Outstanding.{OutstandingState, next_tsn}
use Rattle.dcsctp_spec.specs.types.declared.progress.Change.TheVariants.{SendAgain}
use Rattle.dcsctp_spec.specs.queues.Retransmission.{RetransmissionState}
use Rattle.dcsctp_spec.specs.queues.SendQueue.{SendQueueState}
use Rattle.dcsctp_spec.specs.queues.Transfer.{EndpointQueues}
use Rattle.dcsctp_spec.specs.endpoint.FlushOutcomes.{first_ask, packets_allowed}
use Rattle.dcsctp_delivery_directions.specs.sending.Log.{Message, Slot, History, new_history}
use Rattle.dcsctp_delivery_directions.specs.sending.Numbers.{stream_named, LastIs, NumbersMessages, CountsByKind, CountsMessages}
use Rattle.dcsctp_delivery_directions.specs.sending.Queueing.{floors_raised}
use Rattle.dcsctp_delivery_directions.specs.sending.Flushes.{QueuesFollowLog}
use Rattle.dcsctp_delivery_directions.proofs.sending.Filling.{counted_outstanding}
use Rattle.dcsctp_delivery_directions.proofs.sending.Stages.{changed_length}
use Rattle.dcsctp_delivery_directions.specs.directions.Directions.{Direction, tsns_in_flight, all_ended, assigned_count, DirectionRun, begins, goes_on, starts, DirectionStep, queues, sets, prepares, commits, rolls_back, flushes, resends, resends_nothing, speaks, asks_again, renews, turns_aside, acknowledges, loses, receives, forwards, receives_interleaved, forwards_interleaved, tracks, defers, performs, performs_earlier, resets, takes}
use Rattle.dcsctp_delivery_directions.proofs.directions.Continuing.{EndsNone, Continues, step_continues, ended_raises, begun_history, started_history}
use Rattle.dcsctp_delivery_directions.proofs.directions.Directions.{begun_stands, started_stands}
use Rattle.dcsctp_delivery_directions.proofs.directions.Standing.{Stands}
use Rattle.dcsctp_delivery_directions.proofs.directions.Steps.{stepped, more_queued}
use Rattle.dcsctp_delivery_directions.proofs.directions.Queued.{stepped_queues, stepped_sets, stepped_queue, stepped_prepares}
use Rattle.dcsctp_delivery_directions.proofs.directions.Receiving.{stepped_defers, stepped_receives, stepped_receives_interleaved, stepped_forwards, stepped_forwards_interleaved, stepped_tracks, stepped_takes, takes_data, stepped_arrived, skips, stepped_resets}
use Rattle.dcsctp_delivery_directions.proofs.directions.Sending.{stepped_speaks, stepped_asks_again, stepped_turns_aside, stepped_acknowledges, stepped_loses, stepped_sent, stepped_transfer}
use Rattle.dcsctp_delivery_directions.proofs.directions.Performing.{stepped_performs}
use Rattle.dcsctp_delivery_directions.specs.epochs.Sending.{EpochBounds, never_asked, asked_ended, is_open, SendsByEpoch, IsKnown}
use Rattle.dcsctp_delivery_directions.specs.epochs.Directions.{asked_after, asked_of, opened_of, SendsAllByEpoch}
use Rattle.dcsctp_delivery_directions.proofs.epochs.FlushSteps.{flush_by_epoch, paused_before}
use Rattle.dcsctp_delivery_directions.proofs.sending.NextIdentifiers.{flush_kind}
use Rattle.dcsctp_delivery_directions.proofs.sending.Prepared.{preparing_kind}
use Rattle.dcsctp_delivery_directions.proofs.sending.Settings.{setting_kind}
use Rattle.dcsctp_spec.specs.queues.OwnResets.{queue_committed}
use Rattle.dcsctp_spec.specs.endpoint.MessageOutcomes.{sending_queued}
use Rattle.dcsctp_delivery_directions.proofs.epochs.Named.{AreApart, from_each, unmoved}
use Rattle.dcsctp_delivery_directions.proofs.epochs.Alike.{IsAlike, stays_by_epoch}
use Rattle.dcsctp_delivery_directions.proofs.epochs.Queueing.{HasGoing, queueing_by_epoch, setting_by_epoch, queueing_open, setting_open}
use Rattle.dcsctp_delivery_directions.proofs.epochs.Preparing.{preparing_by_epoch, preparing_known}
use Rattle.dcsctp_delivery_directions.proofs.epochs.Ending.{committing_by_epoch, committing_known}

-- ---- what each step leaves of the log

-- The message under way is the oldest of its stream.
has_going : (history : History) (queue : SendQueueState) (id : ℕ) → queue.is_interleaved ≡ true → NumbersMessages history queue → HasGoing queue id
has_going history queue id interleaved numbers is = (let counts = subst (λ (b : Bool). CountsByKind b history queue.streams queue.held) interleaved numbers.counts in go counts (stream_named id queue.streams).under_way is (counts.going id))
  where
    go : (c : CountsMessages history queue.streams) (u : Option UnderWay) → is_some u ≡ true → LastIs history queue.streams c.counts id u → (w : Waiting) × (front_of (stream_named id queue.streams).messages ≡ Some w)
    go c None on last = absurd (cc)
    go c (Some u) on last = (last.waiting, last.front)

-- As many items are in flight when some are sent again at once.
again_size : (now : ℕ) (old new : Stage) → StageSteps (SendsMarked now) old new → length new.queue.outstanding.items ≡ length old.queue.outstanding.items
again_size now old new no_steps = refl
again_size now old new (more_steps between _ steps sends) =
    subst (λ (s : Stage). length s.queue.outstanding.items ≡ length old.queue.outstanding.items) (sym sends.is) (changed_length (SendAgain (next_tsn between.queue.outstanding)) sends.place (sends.place + 1) between.queue.outstanding.items ∙ again_size now old between steps)

pub at_once_size : (now room : ℕ) (waiting : SendQueueState) (old new : RetransmissionState) (tsns : List ℕ) → SendsAtOnce now room waiting old new tsns → length new.outstanding.items ≡ length old.outstanding.items
at_once_size now room waiting old new tsns sends = subst (λ (s : RetransmissionState). length s.outstanding.items ≡ length old.outstanding.items) (sym sends.is) (ap (λ (o : OutstandingState). length o.items) (counted_outstanding (room - sends.room) sends.resent) ∙ again_size now _ _ sends.steps)

none_more : (more log : List Slot) → length (more ++ log) ≡ length log → more ≡ []
none_more [] log same = refl
none_more (slot ∷ more) log same = absurd (omega (arith, same, length-append more log))

-- ---- one step

-- the log after a step in which no TSN is assigned
pub grown_none : (first : ℕ) (old direction : Direction) (s : Stands first old) (after : Stands first direction) (more : List Slot) → after.history.log ≡ more ++ s.history.log → after.history.floors ≡ s.history.floors
    → assigned_count direction ≡ assigned_count old → IsAlike s.history after.history
grown_none first old direction s after more log floors same =
    let count = after.count in
    let counted = s.count in
    let sizes : length after.history.log ≡ length (more ++ s.history.log) = ap (λ (l : List Slot). length l) log in
    let none : more ≡ [] = none_more more s.history.log (omega (arith, count, counted, sizes, same)) in
    record { log = log ∙ ap (λ (l : List Slot). l ++ s.history.log) none; floors = floors }

module _ (first : ℕ) (old : Direction) (small : first < 2 ^ 32) (s : Stands first old) (asked : ℕ → EpochBounds) (id : ℕ)
    (e : old.queues.queue.is_interleaved ≡ true → SendsByEpoch (length old.queued) s.history old.queues.queue id (asked id)) where
  -- the queue stays, and no TSN is assigned
  still_by_epoch : (direction : Direction) (after : Stands first direction) → direction.queues.queue ≡ old.queues.queue → direction.queued ≡ old.queued → (more : List Slot) → after.history.log ≡ more ++ s.history.log → after.history.floors ≡ s.history.floors
      → assigned_count direction ≡ assigned_count old → old.queues.queue.is_interleaved ≡ true → SendsByEpoch (length direction.queued) after.history direction.queues.queue id (asked id)
  still_by_epoch direction after same same' more log floors counts interleaved =
      subst (λ (q : SendQueueState). SendsByEpoch (length direction.queued) after.history q id (asked id)) (sym same)
      (subst (λ (l : List Message). SendsByEpoch (length l) after.history old.queues.queue id (asked id)) (sym same')
      (stays_by_epoch s.history after.history (grown_none first old direction s after more log floors counts) old.queues.queue old.queues.queue id (unmoved (stream_named id old.queues.queue.streams)) (length old.queued) (length old.queued) (asked id)
      (omega arith) (e interleaved)))

  pub stepped_by_epoch : (direction : Direction) (few : length direction.queued < 2 ^ 64) (step : DirectionStep old direction) → direction.queues.queue.is_interleaved ≡ true
      → SendsByEpoch (length direction.queued) (stepped first old small s direction few step).history direction.queues.queue id (asked_after old direction step asked id)
  unfolding stepped stepped_defers stepped_queues stepped_sets stepped_queue stepped_prepares stepped_receives stepped_receives_interleaved stepped_forwards stepped_forwards_interleaved stepped_tracks stepped_takes takes_data stepped_arrived skips stepped_resets stepped_performs stepped_speaks stepped_asks_again stepped_turns_aside stepped_acknowledges stepped_loses stepped_sent stepped_transfer
  stepped_by_epoch _ few (queues now sending fits some) interleaved =
      subst (λ (k : ℕ). SendsByEpoch (suc k) s.history (sending_queued now sending old.queues.queue) id (asked id)) s.next
      (queueing_by_epoch now sending old.queues.queue s.history id (asked id) (has_going s.history old.queues.queue id interleaved s.queues.numbers)
      (subst (λ (k : ℕ). SendsByEpoch k s.history old.queues.queue id (asked id)) (sym s.next) (e interleaved)))
  stepped_by_epoch _ few (sets setting fits) interleaved = setting_by_epoch setting old.queues.queue s.history id (length old.queued) (asked id) (e (sym (setting_kind setting old.queues.queue) ∙ interleaved))
  stepped_by_epoch _ few (prepares ids fit dropped) interleaved =
      preparing_by_epoch ids old.queued old.queues.queue s.history id asked s.queues.cut s.queues.queue_holds (e (sym (preparing_kind ids old.queues.queue) ∙ interleaved))
  stepped_by_epoch _ few (commits go_on) interleaved =
      subst (λ (h : History). SendsByEpoch (length old.queued) h (queue_committed old.queues.queue) id (asked_ended old.queues.queue.streams asked id)) (sym (ended_raises first old small s few go_on interleaved))
      (committing_by_epoch old.queues.queue s.history (length old.queued) id asked (subst (λ (b : Bool). CountsByKind b s.history old.queues.queue.streams old.queues.queue.held) interleaved s.queues.numbers.counts)
      s.queues.numbers.kept (e interleaved))
  stepped_by_epoch _ few (rolls_back unmixed) interleaved = absurd (let clash : true ≡ false = sym (turns_of old interleaved) ∙ unmixed in cc)
  stepped_by_epoch _ few (flushes endpoint draft answers same no_data allowed) interleaved =
      let after = stepped first old small s _ few (flushes endpoint draft answers same no_data allowed) in
      let c = step_continues first old small s _ few (flushes endpoint draft answers same no_data allowed) tt in
      let kind = flush_kind first_ask (packets_allowed endpoint.options.max_burst endpoint.core) endpoint draft answers allowed ∙ ap (λ (b : EndpointQueues). b.queue.is_interleaved) same in
      flush_by_epoch old.queued s.history after.history first old.acknowledged c.more c.log c.floors first_ask (packets_allowed endpoint.options.max_burst endpoint.core) endpoint draft answers allowed
      (subst (λ (b : EndpointQueues). QueuesFollowLog old.queued s.history first old.acknowledged b) (sym same) s.queues) after.queues id (length old.queued) (asked id)
      (subst (λ (b : EndpointQueues). SendsByEpoch (length old.queued) s.history b.queue id (asked id)) (sym same) (e (sym kind ∙ interleaved)))
  stepped_by_epoch _ few (resends now room transfer left tsns chunks emission known sends are contents) interleaved =
      let after = stepped first old small s _ few (resends now room transfer left tsns chunks emission known sends are contents) in
      let c = step_continues first old small s _ few (resends now room transfer left tsns chunks emission known sends are contents) tt in
      still_by_epoch _ after refl refl c.more c.log c.floors
      (ap (λ (k : ℕ). old.acknowledged + k) (at_once_size now room old.queues.queue transfer.retransmission left tsns sends ∙ sym (ap tsns_in_flight known))) interleaved
  stepped_by_epoch _ few (resends_nothing now room transfer left tsns known sends) interleaved =
      let after = stepped first old small s _ few (resends_nothing now room transfer left tsns known sends) in
      let c = step_continues first old small s _ few (resends_nothing now room transfer left tsns known sends) tt in
      still_by_epoch _ after refl refl c.more c.log c.floors
      (ap (λ (k : ℕ). old.acknowledged + k) (at_once_size now room old.queues.queue transfer.retransmission left tsns sends ∙ sym (ap tsns_in_flight known))) interleaved
  stepped_by_epoch _ few (renews emission newest earlier number asks out contents) interleaved =
      let after = stepped first old small s _ few (renews emission newest earlier number asks out contents) in
      let c = step_continues first old small s _ few (renews emission newest earlier number asks out contents) tt in
      still_by_epoch _ after refl refl c.more c.log c.floors refl interleaved
  stepped_by_epoch _ few (speaks emission no_data) interleaved = e interleaved
  stepped_by_epoch _ few (asks_again emission begun was contents) interleaved = e interleaved
  stepped_by_epoch _ few (turns_aside transfer new known same) interleaved = e interleaved
  stepped_by_epoch _ few (acknowledges now sack transfer new known valid reached does) interleaved = e interleaved
  stepped_by_epoch _ few (loses now transfer known) interleaved = e interleaved
  stepped_by_epoch _ few (receives emission chunk theirs new was holds some same same' does) interleaved = e interleaved
  stepped_by_epoch _ few (forwards emission tsn streams theirs new was holds same same' does) interleaved = e interleaved
  stepped_by_epoch _ few (receives_interleaved emission chunk theirs new was holds some same same' does) interleaved = e interleaved
  stepped_by_epoch _ few (forwards_interleaved emission tsn streams theirs new was holds same same' does) interleaved = e interleaved
  stepped_by_epoch _ few (tracks new cumulative ranges) interleaved = e interleaved
  stepped_by_epoch _ few (defers last_tsn streams some) interleaved = e interleaved
  stepped_by_epoch _ few (performs newest earlier new asks unknown reached own leaves) interleaved = e interleaved
  stepped_by_epoch _ few (performs_earlier newest earlier new asks unknown reached own leaves) interleaved = e interleaved
  stepped_by_epoch _ few (resets streams new unmixed some leaves) interleaved = e interleaved
  stepped_by_epoch _ few (takes message messages is) interleaved = e interleaved

  -- A stream that is paused, and was open first, was asked for.
  pub stepped_known : (opened : Bool) → (old.queues.queue.is_interleaved ≡ true → opened ≡ true → is_open id old.queues.queue.streams ≡ false → IsKnown (asked id)) → (direction : Direction) (step : DirectionStep old direction) → direction.queues.queue.is_interleaved ≡ true
      → opened ≡ true → is_open id direction.queues.queue.streams ≡ false → IsKnown (asked_after old direction step asked id)
  stepped_known opened known _ (queues now sending fits some) interleaved first' shut = known interleaved first' (sym (queueing_open now sending old.queues.queue id) ∙ shut)
  stepped_known opened known _ (sets setting fits) interleaved first' shut = known (sym (setting_kind setting old.queues.queue) ∙ interleaved) first' (sym (setting_open setting old.queues.queue id) ∙ shut)
  stepped_known opened known _ (prepares ids fit dropped) interleaved first' shut = preparing_known ids old.queues.queue (length old.queued) id asked (known (sym (preparing_kind ids old.queues.queue) ∙ interleaved) first') shut
  stepped_known opened known _ (commits go_on) interleaved first' shut = committing_known old.queues.queue id asked (known interleaved first') shut
  stepped_known opened known _ (rolls_back unmixed) interleaved first' shut = absurd (let clash : true ≡ false = sym (turns_of old interleaved) ∙ unmixed in cc)
  stepped_known opened known _ (flushes endpoint draft answers same no_data allowed) interleaved first' shut =
      let kind = flush_kind first_ask (packets_allowed endpoint.options.max_burst endpoint.core) endpoint draft answers allowed ∙ ap (λ (b : EndpointQueues). b.queue.is_interleaved) same in
      known (sym kind ∙ interleaved) first'
      (ap (λ (b : EndpointQueues). is_open id b.queue.streams) (sym same)
      ∙ paused_before first_ask (packets_allowed endpoint.options.max_burst endpoint.core) endpoint draft answers allowed (subst (λ (b : EndpointQueues). AreApart b.queue.streams) (sym same) s.queues.queue_holds.distinct) id shut)
  stepped_known opened known _ (resends now room transfer left tsns chunks emission known' sends are contents) interleaved first' shut = known interleaved first' shut
  stepped_known opened known _ (resends_nothing now room transfer left tsns known' sends) interleaved first' shut = known interleaved first' shut
  stepped_known opened known _ (renews emission newest earlier number asks out contents) interleaved first' shut = known interleaved first' shut
  stepped_known opened known _ (speaks emission no_data) interleaved first' shut = known interleaved first' shut
  stepped_known opened known _ (asks_again emission begun was contents) interleaved first' shut = known interleaved first' shut
  stepped_known opened known _ (turns_aside transfer new known' same) interleaved first' shut = known interleaved first' shut
  stepped_known opened known _ (acknowledges now sack transfer new known' valid reached does) interleaved first' shut = known interleaved first' shut
  stepped_known opened known _ (loses now transfer known') interleaved first' shut = known interleaved first' shut
  stepped_known opened known _ (receives emission chunk theirs new was holds some same same' does) interleaved first' shut = known interleaved first' shut
  stepped_known opened known _ (forwards emission tsn streams theirs new was holds same same' does) interleaved first' shut = known interleaved first' shut
  stepped_known opened known _ (receives_interleaved emission chunk theirs new was holds some same same' does) interleaved first' shut = known interleaved first' shut
  stepped_known opened known _ (forwards_interleaved emission tsn streams theirs new was holds same same' does) interleaved first' shut = known interleaved first' shut
  stepped_known opened known _ (tracks new cumulative ranges) interleaved first' shut = known interleaved first' shut
  stepped_known opened known _ (defers last_tsn streams some) interleaved first' shut = known interleaved first' shut
  stepped_known opened known _ (performs newest earlier new asks unknown reached own leaves) interleaved first' shut = known interleaved first' shut
  stepped_known opened known _ (performs_earlier newest earlier new asks unknown reached own leaves) interleaved first' shut = known interleaved first' shut
  stepped_known opened known _ (resets streams new unmixed some leaves) interleaved first' shut = known interleaved first' shut
  stepped_known opened known _ (takes message messages is) interleaved first' shut = known interleaved first' shut

-- ---- a run

-- Nothing was sent, and nothing is known of what was asked for.
new_by_epoch : (queued : List Message) (floors : ℕ → Bool → ℕ) (queue : SendQueueState) (id : ℕ) → SendsByEpoch (length queued) (new_history floors) queue id never_asked
new_by_epoch queued floors queue id =
    record {
      from = record { sent = λ n f at. absurd (cc); waits = from_each 0 (stream_named id queue.streams).messages (λ w has. omega arith) };
      stops = tt;
      newest = λ place is. absurd (cc);
      ended = omega arith;
    }

-- What holds throughout: the history, and that each stream is sent by epochs if messages interleave.
pub record GoesByEpoch (first : ℕ) (direction : Direction) (opened : ℕ → Bool) (asked : ℕ → EpochBounds) : Type 0 where
  pub stands : Stands first direction
  pub by_epoch : direction.queues.queue.is_interleaved ≡ true → (id : ℕ) → SendsByEpoch (length direction.queued) stands.history direction.queues.queue id (asked id)
  pub known : direction.queues.queue.is_interleaved ≡ true → (id : ℕ) → opened id ≡ true → is_open id direction.queues.queue.streams ≡ false → IsKnown (asked id)

pub begins_by_epoch : (first : ℕ) (direction : Direction) (s : Stands first direction) (floors : ℕ → Bool → ℕ) → s.history ≡ new_history floors → (id : ℕ) → SendsByEpoch (length direction.queued) s.history direction.queues.queue id never_asked
begins_by_epoch first direction s floors is id = subst (λ (h : History). SendsByEpoch (length direction.queued) h direction.queues.queue id never_asked) (sym is) (new_by_epoch direction.queued floors direction.queues.queue id)

pub begins_known : (direction : Direction) (id : ℕ) → is_open id direction.queues.queue.streams ≡ true → is_open id direction.queues.queue.streams ≡ false → IsKnown never_asked
begins_known direction id opened shut = absurd (let no : true ≡ false = sym opened ∙ shut in cc)

goes_new : (first : ℕ) (direction : Direction) (s : Stands first direction) (floors : ℕ → Bool → ℕ) → s.history ≡ new_history floors → GoesByEpoch first direction (λ id. is_open id direction.queues.queue.streams) (λ id. never_asked)
goes_new first direction s floors is =
    record {
      stands = s;
      by_epoch = λ interleaved. begins_by_epoch first direction s floors is;
      known = λ interleaved. begins_known direction;
    }

pub goes_further : (first : ℕ) (old : Direction) → first < 2 ^ 32 → (opened : ℕ → Bool) (asked : ℕ → EpochBounds) → GoesByEpoch first old opened asked → (direction : Direction) → length direction.queued < 2 ^ 64 → (step : DirectionStep old direction)
    → GoesByEpoch first direction opened (asked_after old direction step asked)
goes_further first old small opened asked g direction few step =
    record {
      stands = stepped first old small g.stands direction few step;
      by_epoch = λ interleaved id. stepped_by_epoch first old small g.stands asked id (λ was. g.by_epoch was id) direction few step interleaved;
      known = λ interleaved id. stepped_known first old small g.stands asked id (λ was. g.by_epoch was id) (opened id) (λ was. g.known was id) direction step interleaved;
    }

pub goes_stands : (first : ℕ) (old : Direction) (small : first < 2 ^ 32) (opened : ℕ → Bool) (asked : ℕ → EpochBounds) (g : GoesByEpoch first old opened asked) (direction : Direction) (few : length direction.queued < 2 ^ 64) (step : DirectionStep old direction)
    → (goes_further first old small opened asked g direction few step).stands ≡ stepped first old small g.stands direction few step
unfolding goes_further
goes_stands first old small opened asked g direction few step = refl

-- the history of it
pub goes_continues : (first : ℕ) (old : Direction) (small : first < 2 ^ 32) (opened : ℕ → Bool) (asked : ℕ → EpochBounds) (g : GoesByEpoch first old opened asked) (direction : Direction) (few : length direction.queued < 2 ^ 64) (step : DirectionStep old direction) → EndsNone old direction step
    → Continues g.stands.history (goes_further first old small opened asked g direction few step).stands.history old.queues.queue.streams direction.queues.queue.streams old.asking.out direction.asking.out
unfolding goes_further
goes_continues first old small opened asked g direction few step ends = step_continues first old small g.stands direction few step ends

pub goes_ends : (first : ℕ) (old : Direction) (small : first < 2 ^ 32) (opened : ℕ → Bool) (asked : ℕ → EpochBounds) (g : GoesByEpoch first old opened asked) (few : length old.queued < 2 ^ 64) (go_on : is_in_turn old ≡ true → (old.asking.out ≤ 1) × (old.asking.is_performed ≡ true))
    → old.queues.queue.is_interleaved ≡ true
    → (goes_further first old small opened asked g (record old { queues = record old.queues { queue = queue_committed old.queues.queue }; asking = all_ended old.asking }) few (commits go_on)).stands.history ≡ floors_raised old.queues.queue.streams g.stands.history
unfolding goes_further
goes_ends first old small opened asked g few go_on interleaved = ended_raises first old small g.stands few go_on interleaved

run_by_epoch : (options : Options) (first size : ℕ) (direction : Direction) → first < 2 ^ 32 → length direction.queued < 2 ^ 64 → (run : DirectionRun options first size direction) → GoesByEpoch first direction (opened_of options first size direction run) (asked_of options first size direction run)
run_by_epoch options first size _ small few (begins direction b) = goes_new first direction (begun_stands options first size direction small b) b.queues.floors (begun_history options first size direction small b)
run_by_epoch options first size _ small few (goes_on old direction run step) =
    goes_further first old small (opened_of options first size old run) (asked_of options first size old run) (run_by_epoch options first size old small (omega (arith, few, more_queued old direction step)) run) direction few step
run_by_epoch options first size _ small few (starts old queued below beginning run awaited fit waits none begun) =
    let none_queued : length old.queued ≡ 0 = ap (λ (l : List Message). length l) awaited.queued in
    let g = run_by_epoch options first size old small (omega (arith, none_queued)) run in
    goes_new first (record old { queued = queued; queues = below; prepared = []; beginning = beginning }) (started_stands first old queued below beginning g.stands awaited small fit waits none) waits.floors
    (started_history first old queued below beginning g.stands awaited small fit waits none)

pub directions_send_by_epoch : (options : Options) (first size : ℕ) (direction : Direction) (run : DirectionRun options first size direction) → first < 2 ^ 32 → length direction.queued < 2 ^ 64 → direction.queues.queue.is_interleaved ≡ true
    → SendsAllByEpoch first direction (opened_of options first size direction run) (asked_of options first size direction run)
directions_send_by_epoch options first size direction run small few interleaved =
    let g = run_by_epoch options first size direction small few run in
    record { history = g.stands.history; queues = g.stands.queues; packets = g.stands.packets; by_epoch = g.by_epoch interleaved; known = g.known interleaved }
