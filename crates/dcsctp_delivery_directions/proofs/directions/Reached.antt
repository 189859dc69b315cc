-- The cumulative TSNs that a receiver reports cover what its sender knows as acknowledged.
use Rattle.std.proofs.Common.{◌≡◌, ℕ, true, ◌<◌, ◌≤◌, ◌+◌, ◌-◌, ◌%◌, ◌^◌, List, ◌++◌, length, refl, sym, ◌∙◌, ap, arith, subst}
use Rattle.std.specs.Prelude.{Option, None, Some}
use Rattle.std.proofs.lemmas.Bool.Decides.{nat_tests}
use Rattle.std.proofs.lemmas.List.{length-append}
use Rattle.dcsctp_spec.specs.wire.Content.{SackContent}
use Rattle.dcsctp_spec.specs.types.declared.options.Options.{Options}
use Rattle.dcsctp_spec.specs.Packet.{Emission}
use Rattle.dcsctp_spec.specs.endpoint.BegunResets.{BegunReset}
use Rattle.dcsctp_spec.specs.endpoint.Endpoint.{Endpoint}
use Rattle.dcsctp_spec.specs.endpoint.FlushOutcomes.{Answer, FlushAnswers, flush_of}
use Rattle.dcsctp_spec.specs.endpoint.TransferMoves.{TakesSack, lost_all}
use Rattle.dcsctp_spec.specs.queues.Acknowledging.{is_sack_valid}
use Rattle.dcsctp_spec.specs.queues.Arrivals.{data_arrival, i_data_arrival, named_skips, skipped_messages}
use Rattle.dcsctp_spec.specs.queues.AtOnce.{SendsAtOnce}
use Rattle.dcsctp_spec.specs.queues.Outstanding.{OutstandingState, acknowledged_count}
use Rattle.dcsctp_spec.specs.queues.Retransmission.{RetransmissionState}
use Rattle.dcsctp_spec.specs.queues.Tracker.{TrackerState, cumulative_tsn}
use Rattle.dcsctp_spec.specs.queues.Transfer.{Transfer, EndpointQueues}
use Rattle.dcsctp_delivery_directions.specs.sending.Log.{Message, Slot, log_extended, with_mark}
use Rattle.dcsctp_delivery_directions.specs.sending.Flushes.{NoData, QueuesFollowLog, begun_reset_of}
use Rattle.dcsctp_delivery_directions.proofs.sending.Acknowledged.{acknowledged_bear, lost_bear}
use Rattle.dcsctp_delivery_directions.proofs.sending.Flushes.{flush_sends}
use Rattle.dcsctp_delivery_directions.proofs.sending.Packets.{none_said}
use Rattle.dcsctp_delivery_directions.proofs.receiving.Upward.{received_grows, forward_grows}
use Rattle.dcsctp_delivery_directions.specs.directions.Directions.{Direction, SameFlight, tsns_in_flight, assigned_count, HasReached, DirectionRun, begins, goes_on, starts, DirectionStep, queues, sets, prepares, commits, rolls_back, flushes, resends, resends_nothing, speaks, asks_again, renews, turns_aside, acknowledges, loses, receives, forwards, receives_interleaved, forwards_interleaved, tracks, defers, performs, resets, performs_earlier, takes}
use Rattle.dcsctp_delivery_directions.proofs.directions.Directions.{run_stands}
use Rattle.dcsctp_delivery_directions.proofs.directions.Sending.{known_flight, at_once}
use Rattle.dcsctp_delivery_directions.proofs.directions.Standing.{Stands, counted_flight, timed_outstanding}
use Rattle.dcsctp_delivery_directions.proofs.directions.Steps.{more_queued}

-- ---- what a receiver has reached

-- What it has reached it has reached later too.
pub reached_more : (first_tsn : ℕ) (old new : TrackerState) (tsn : ℕ) → old.cumulative ≤ new.cumulative → HasReached first_tsn old tsn → HasReached first_tsn new tsn
reached_more first_tsn old new tsn up r = record { number = r.number; from = r.from; to = (let to = r.to in omega (arith, to, up)); is = r.is }

theirs_grow : (old : TrackerState) (theirs new : Transfer) → theirs.tracker ≡ old → theirs.tracker.cumulative ≤ new.tracker.cumulative → old.cumulative ≤ new.tracker.cumulative
theirs_grow old theirs new same up = subst (λ (t : TrackerState). t.cumulative ≤ new.tracker.cumulative) same up

-- No step changes where the sender began, and none takes the receiver back.
pub record Goes (old direction : Direction) : Type 0 where
  pub first_is : direction.first_tsn ≡ old.first_tsn
  pub up : old.tracker.cumulative ≤ direction.tracker.cumulative

pub step_goes : (old direction : Direction) → DirectionStep old direction → Goes old direction
step_goes old _ (queues now sending fits some) = record { first_is = refl; up = omega arith }
step_goes old _ (sets setting fits) = record { first_is = refl; up = omega arith }
step_goes old _ (prepares ids fit kept) = record { first_is = refl; up = omega arith }
step_goes old _ (commits go_on) = record { first_is = refl; up = omega arith }
step_goes old _ (rolls_back unmixed) = record { first_is = refl; up = omega arith }
step_goes old _ (flushes e draft answers same no_data allowed) = record { first_is = refl; up = omega arith }
step_goes old _ (resends now room transfer left tsns chunks emission known sends are contents) = record { first_is = refl; up = omega arith }
step_goes old _ (resends_nothing now room transfer left tsns known sends) = record { first_is = refl; up = omega arith }
step_goes old _ (speaks emission no_data) = record { first_is = refl; up = omega arith }
step_goes old _ (asks_again emission begun was contents) = record { first_is = refl; up = omega arith }
step_goes old _ (renews emission newest earlier number asks out contents) = record { first_is = refl; up = omega arith }
step_goes old _ (turns_aside transfer new known same) = record { first_is = refl; up = omega arith }
step_goes old _ (acknowledges now sack transfer new known valid reached does) = record { first_is = refl; up = omega arith }
step_goes old _ (loses now transfer known) = record { first_is = refl; up = omega arith }
step_goes old _ (receives emission chunk theirs new was holds some same same' does) = record { first_is = refl; up = theirs_grow old.tracker theirs new same (received_grows (data_arrival chunk) theirs new does) }
step_goes old _ (forwards emission tsn streams theirs new was holds same same' does) = record { first_is = refl; up = theirs_grow old.tracker theirs new same (forward_grows tsn (named_skips streams) theirs new does) }
step_goes old _ (receives_interleaved emission chunk theirs new was holds some same same' does) = record { first_is = refl; up = theirs_grow old.tracker theirs new same (received_grows (i_data_arrival chunk) theirs new does) }
step_goes old _ (forwards_interleaved emission tsn streams theirs new was holds same same' does) = record { first_is = refl; up = theirs_grow old.tracker theirs new same (forward_grows tsn (skipped_messages streams) theirs new does) }
step_goes old _ (tracks new cumulative ranges) = record { first_is = refl; up = omega (arith, cumulative) }
step_goes old _ (defers last_tsn streams some) = record { first_is = refl; up = omega arith }
step_goes old _ (performs newest earlier new asks unknown reached own leaves) = record { first_is = refl; up = omega arith }
step_goes old _ (resets streams new unmixed some leaves) = record { first_is = refl; up = omega arith }
step_goes old _ (performs_earlier newest earlier new asks unknown reached own leaves) = record { first_is = refl; up = omega arith }
step_goes old _ (takes message messages ready) = record { first_is = refl; up = omega arith }

-- ---- what is assigned, and what is acknowledged

-- A SACK with the TSN of so many acknowledges those that weren't before, if few were assigned.
counted_back : (first acknowledged k items : ℕ) → first < 2 ^ 32 → acknowledged + items < 2 ^ 31 → k < 2 ^ 31
    → ((((first + (2 ^ 32 - 1)) % 2 ^ 32 + k) % 2 ^ 32 + 1) % 2 ^ 32 + (2 ^ 32 - (first + acknowledged) % 2 ^ 32)) % 2 ^ 32 ≤ items
    → ((((first + (2 ^ 32 - 1)) % 2 ^ 32 + k) % 2 ^ 32 + 1) % 2 ^ 32 + (2 ^ 32 - (first + acknowledged) % 2 ^ 32)) % 2 ^ 32 + acknowledged ≡ k
counted_back first acknowledged k items small few near valid = omega (arith, small, few, near, valid)

-- Where few TSNs were assigned, all that the sender knows as acknowledged was reached.
pub record Covers (first : ℕ) (direction : Direction) : Type 0 where
  pub first_is : direction.first_tsn ≡ first
  pub from : (first + (2 ^ 32 - 1)) % 2 ^ 32 ≤ direction.tracker.cumulative
  pub covered : assigned_count direction < 2 ^ 31 → (first + (2 ^ 32 - 1)) % 2 ^ 32 + direction.acknowledged ≤ direction.tracker.cumulative

module _ (first : ℕ) (old : Direction) (small : first < 2 ^ 32) (s : Stands first old) (c : Covers first old) where
  at_known : (transfer : Transfer) → old.queues.transfer ≡ Some transfer → tsns_in_flight old.queues.transfer ≡ length transfer.retransmission.outstanding.items
  at_known transfer known = ap tsns_in_flight known

  flush_more : (e : Endpoint) (draft : Emission) (answers : List Answer) → e.queues ≡ old.queues → NoData draft.packet.contents → FlushAnswers e draft answers
      → assigned_count old ≤ old.acknowledged + tsns_in_flight (flush_of e draft answers).after.queues.transfer
  flush_more e draft answers same no_data allowed =
      let sends =
      flush_sends old.queued s.history first old.acknowledged e draft answers (subst (λ (b : EndpointQueues). QueuesFollowLog old.queued s.history first old.acknowledged b) (sym same) s.queues) (none_said s.history first old.acknowledged draft.packet.contents no_data) allowed in
      let count = counted_flight _ first old.acknowledged (flush_of e draft answers).after.queues.transfer sends.stands.flight in
      let before = s.count in
      omega (arith, count, marked_length answers sends.ids sends.bound sends.more, before, length-append sends.more s.history.log)
    where
      marked_length : (answers : List Answer) (ids : List ℕ) (bound : ℕ) (more : List Slot) → length (with_mark (begun_reset_of answers) ids bound (log_extended more s.history)).log ≡ length (more ++ s.history.log)
      marked_length answers ids bound more = go (begun_reset_of answers)
        where
          go : (begun : Option BegunReset) → length (with_mark begun ids bound (log_extended more s.history)).log ≡ length (more ++ s.history.log)
          go None = refl
          go (Some begun) = refl

  resend_more : (now room : ℕ) (transfer : Transfer) (left : RetransmissionState) (tsns : List ℕ) → old.queues.transfer ≡ Some transfer → SendsAtOnce now room old.queues.queue transfer.retransmission left tsns
      → assigned_count old ≤ old.acknowledged + length left.outstanding.items
  resend_more now room transfer left tsns known sends =
      let stays = at_once first old s now room transfer left tsns known sends in
      let count = stays.stands.bears.count in
      let before = s.count in
      omega (arith, count, before, length-append stays.more s.history.log)

  aside_more : (transfer new : Transfer) → old.queues.transfer ≡ Some transfer → SameFlight transfer.retransmission new.retransmission → assigned_count old ≤ old.acknowledged + length new.retransmission.outstanding.items
  aside_more transfer new known same =
      let size : length new.retransmission.outstanding.items ≡ length transfer.retransmission.outstanding.items = ap (λ (o : OutstandingState). length o.items) same.outstanding in
      let before = at_known transfer known in
      omega (arith, size, before)

  loss_more : (now : ℕ) (transfer : Transfer) → old.queues.transfer ≡ Some transfer → assigned_count old ≤ old.acknowledged + length (lost_all now transfer).retransmission.outstanding.items
  loss_more now transfer known =
      let flight = known_flight first old s transfer known in
      let count = flight.count in
      let count' = (lost_bear s.history first old.acknowledged now transfer.retransmission flight).count in
      let before = at_known transfer known in
      omega (arith, before, count, count')

  -- no more is acknowledged
  on : (direction : Direction) → Goes old direction → assigned_count old ≤ assigned_count direction → direction.acknowledged ≡ old.acknowledged → Covers first direction
  on direction goes more same =
      record {
        first_is = goes.first_is ∙ c.first_is;
        from = (let up = goes.up in let from = c.from in omega (arith, up, from));
        covered = λ few. (let up = goes.up in let was = c.covered (omega (arith, few, more)) in omega (arith, up, was, same));
      }

  -- a SACK
  taken : (now : ℕ) (sack : SackContent) (transfer new : Transfer) → old.queues.transfer ≡ Some transfer → is_sack_valid transfer.retransmission sack.cumulative_tsn_ack ≡ true → HasReached old.first_tsn old.tracker sack.cumulative_tsn_ack
      → TakesSack now sack transfer new
      → Covers first (record old { queues = record old.queues { transfer = Some new }; acknowledged = old.acknowledged + acknowledged_count transfer.retransmission.outstanding sack.cumulative_tsn_ack })
  taken now sack transfer new known valid reached does =
      let flight = known_flight first old s transfer known in
      let bears = acknowledged_bear s.history first old.acknowledged now sack.cumulative_tsn_ack sack.a_rwnd does.blocks transfer.retransmission does.left valid flight does.acknowledges in
      let same : new.retransmission.outstanding ≡ does.left.outstanding = ap (λ (t : Transfer). t.retransmission.outstanding) does.is ∙ timed_outstanding does.round_trip (record transfer { retransmission = does.left }) in
      let size : length new.retransmission.outstanding.items ≡ length does.left.outstanding.items = ap (λ (o : OutstandingState). length o.items) same in
      let count = flight.count in
      let count' = bears.count in
      record {
        first_is = c.first_is;
        from = c.from;
        covered = λ few. acknowledged_so (omega (arith, few, size, count'));
      }
    where
      within : acknowledged_count transfer.retransmission.outstanding sack.cumulative_tsn_ack ≤ length transfer.retransmission.outstanding.items
      within = grind (arith, nat_tests, valid)

      acknowledged_so : length s.history.log < 2 ^ 31 → (first + (2 ^ 32 - 1)) % 2 ^ 32 + (old.acknowledged + acknowledged_count transfer.retransmission.outstanding sack.cumulative_tsn_ack) ≤ old.tracker.cumulative
      acknowledged_so few =
          let from : (first + (2 ^ 32 - 1)) % 2 ^ 32 ≤ reached.number = subst (λ (n : ℕ). (n + (2 ^ 32 - 1)) % 2 ^ 32 ≤ reached.number) c.first_is reached.from in
          let to = reached.to in
          let flight = known_flight first old s transfer known in
          let tsn = flight.tsn in
          let count = flight.count in
          let top = (s.arrived few).received.tracks.reached in
          let number : (first + (2 ^ 32 - 1)) % 2 ^ 32 + (reached.number - (first + (2 ^ 32 - 1)) % 2 ^ 32) ≡ reached.number = omega (arith, from) in
          let is : sack.cumulative_tsn_ack ≡ ((first + (2 ^ 32 - 1)) % 2 ^ 32 + (reached.number - (first + (2 ^ 32 - 1)) % 2 ^ 32)) % 2 ^ 32 = reached.is ∙ ap (λ (n : ℕ). n % 2 ^ 32) (sym number) in
          let counted : acknowledged_count transfer.retransmission.outstanding sack.cumulative_tsn_ack
          ≡ ((((first + (2 ^ 32 - 1)) % 2 ^ 32 + (reached.number - (first + (2 ^ 32 - 1)) % 2 ^ 32)) % 2 ^ 32 + 1) % 2 ^ 32 + (2 ^ 32 - (first + old.acknowledged) % 2 ^ 32)) % 2 ^ 32 =
          ap (λ (n : ℕ). ((n + 1) % 2 ^ 32 + (2 ^ 32 - transfer.retransmission.outstanding.first_tsn)) % 2 ^ 32) is
          ∙ ap (λ (n : ℕ). ((((first + (2 ^ 32 - 1)) % 2 ^ 32 + (reached.number - (first + (2 ^ 32 - 1)) % 2 ^ 32)) % 2 ^ 32 + 1) % 2 ^ 32 + (2 ^ 32 - n)) % 2 ^ 32) tsn in
          let back = counted_back first old.acknowledged (reached.number - (first + (2 ^ 32 - 1)) % 2 ^ 32) (length transfer.retransmission.outstanding.items) small (omega (arith, few, count)) (omega (arith, few, top, to))
          (omega (arith, counted, within)) in
          omega (arith, back, counted, number, to)

  pub step_covers : (direction : Direction) → DirectionStep old direction → Covers first direction
  step_covers _ (queues now sending fits some) = on _ (step_goes old _ (queues now sending fits some)) (omega arith) refl
  step_covers _ (sets setting fits) = on _ (step_goes old _ (sets setting fits)) (omega arith) refl
  step_covers _ (prepares ids fit kept) = on _ (step_goes old _ (prepares ids fit kept)) (omega arith) refl
  step_covers _ (commits go_on) = on _ (step_goes old _ (commits go_on)) (omega arith) refl
  step_covers _ (rolls_back unmixed) = on _ (step_goes old _ (rolls_back unmixed)) (omega arith) refl
  step_covers _ (flushes e draft answers same no_data allowed) = on _ (step_goes old _ (flushes e draft answers same no_data allowed)) (flush_more e draft answers same no_data allowed) refl
  step_covers _ (resends now room transfer left tsns chunks emission known sends are contents) = on _ (step_goes old _ (resends now room transfer left tsns chunks emission known sends are contents)) (resend_more now room transfer left tsns known sends) refl
  step_covers _ (resends_nothing now room transfer left tsns known sends) = on _ (step_goes old _ (resends_nothing now room transfer left tsns known sends)) (resend_more now room transfer left tsns known sends) refl
  step_covers _ (speaks emission no_data) = on _ (step_goes old _ (speaks emission no_data)) (omega arith) refl
  step_covers _ (asks_again emission begun was contents) = on _ (step_goes old _ (asks_again emission begun was contents)) (omega arith) refl
  step_covers _ (renews emission newest earlier number asks out contents) = on _ (step_goes old _ (renews emission newest earlier number asks out contents)) (omega arith) refl
  step_covers _ (turns_aside transfer new known same) = on _ (step_goes old _ (turns_aside transfer new known same)) (aside_more transfer new known same) refl
  step_covers _ (acknowledges now sack transfer new known valid reached does) = taken now sack transfer new known valid reached does
  step_covers _ (loses now transfer known) = on _ (step_goes old _ (loses now transfer known)) (loss_more now transfer known) refl
  step_covers _ (receives emission chunk theirs new was holds some same same' does) = on _ (step_goes old _ (receives emission chunk theirs new was holds some same same' does)) (omega arith) refl
  step_covers _ (forwards emission tsn streams theirs new was holds same same' does) = on _ (step_goes old _ (forwards emission tsn streams theirs new was holds same same' does)) (omega arith) refl
  step_covers _ (receives_interleaved emission chunk theirs new was holds some same same' does) = on _ (step_goes old _ (receives_interleaved emission chunk theirs new was holds some same same' does)) (omega arith) refl
  step_covers _ (forwards_interleaved emission tsn streams theirs new was holds same same' does) = on _ (step_goes old _ (forwards_interleaved emission tsn streams theirs new was holds same same' does)) (omega arith) refl
  step_covers _ (tracks new cumulative ranges) = on _ (step_goes old _ (tracks new cumulative ranges)) (omega arith) refl
  step_covers _ (defers last_tsn streams some) = on _ (step_goes old _ (defers last_tsn streams some)) (omega arith) refl
  step_covers _ (performs newest earlier new asks unknown reached own leaves) = on _ (step_goes old _ (performs newest earlier new asks unknown reached own leaves)) (omega arith) refl
  step_covers _ (resets streams new unmixed some leaves) = on _ (step_goes old _ (resets streams new unmixed some leaves)) (omega arith) refl
  step_covers _ (performs_earlier newest earlier new asks unknown reached own leaves) = on _ (step_goes old _ (performs_earlier newest earlier new asks unknown reached own leaves)) (omega arith) refl
  step_covers _ (takes message messages ready) = on _ (step_goes old _ (takes message messages ready)) (omega arith) refl

-- ---- a run

pub run_covers : (options : Options) (first size : ℕ) (direction : Direction) → first < 2 ^ 32 → length direction.queued < 2 ^ 64 → DirectionRun options first size direction → Covers first direction
run_covers options first size _ small few (begins direction b) =
    let start : direction.tracker.cumulative ≡ (first + (2 ^ 32 - 1)) % 2 ^ 32 = ap (λ (t : TrackerState). t.cumulative) b.tracker in
    let none = b.acknowledged in
    record { first_is = b.first_is; from = omega (arith, start); covered = λ little. omega (arith, start, none) }
run_covers options first size _ small few (goes_on old direction run step) =
    let before : length old.queued < 2 ^ 64 = omega (arith, few, more_queued old direction step) in
    step_covers first old small (run_stands options first size old small before run) (run_covers options first size old small before run) direction step
run_covers options first size _ small few (starts old queued below beginning run awaited fit waits none numbered) =
    let none_queued : length old.queued ≡ 0 = ap (λ (l : List Message). length l) awaited.queued in
    let c = run_covers options first size old small (omega (arith, none_queued)) run in
    let none_acknowledged = awaited.acknowledged in
    let from = c.from in
    record { first_is = c.first_is; from = c.from; covered = λ little. omega (arith, from, none_acknowledged) }

-- A receiver never falls behind the TSN before the first.
pub run_starts : (options : Options) (first size : ℕ) (direction : Direction) → DirectionRun options first size direction → (direction.first_tsn ≡ first) × ((first + (2 ^ 32 - 1)) % 2 ^ 32 ≤ direction.tracker.cumulative)
run_starts options first size _ (begins direction b) = (b.first_is, (let start : direction.tracker.cumulative ≡ (first + (2 ^ 32 - 1)) % 2 ^ 32 = ap (λ (t : TrackerState). t.cumulative) b.tracker in omega (arith, start)))
run_starts options first size _ (goes_on old direction run step) =
    let (first_is, from) = run_starts options first size old run in
    let goes = step_goes old direction step in
    let up = goes.up in
    (goes.first_is ∙ first_is, omega (arith, up, from))
run_starts options first size _ (starts old queued below beginning run awaited fit waits none numbered) = run_starts options first size old run

-- What a receiver reports now it has reached.
pub reached_now : (options : Options) (first size : ℕ) (direction : Direction) → DirectionRun options first size direction → HasReached direction.first_tsn direction.tracker (cumulative_tsn direction.tracker)
reached_now options first size direction run =
    let (first_is, from) = run_starts options first size direction run in
    record { number = direction.tracker.cumulative; from = subst (λ (n : ℕ). (n + (2 ^ 32 - 1)) % 2 ^ 32 ≤ direction.tracker.cumulative) (sym first_is) from; to = omega arith; is = refl }

pub acknowledgements_are_true : (options : Options) (first size : ℕ) (direction : Direction) → DirectionRun options first size direction → first < 2 ^ 32 → assigned_count direction < 2 ^ 31 → length direction.queued < 2 ^ 64
    → (first + (2 ^ 32 - 1)) % 2 ^ 32 + direction.acknowledged ≤ direction.tracker.cumulative
acknowledgements_are_true options first size direction run small little few = (run_covers options first size direction small few run).covered little
