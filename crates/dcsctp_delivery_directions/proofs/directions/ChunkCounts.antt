-- How many TSNs an association assigns, by the chunks of data that its sender has sent.
use Rattle.std.proofs.Common.{◌≡◌, ℕ, ◌<◌, ◌≤◌, ◌+◌, ◌*◌, ◌^◌, List, [], ◌∷◌, ◌++◌, length, refl, ◌∙◌, ap, arith}
use Rattle.std.specs.Prelude.{Option, None, Some}
use Rattle.dcsctp_spec.specs.types.declared.options.Options.{Options}
use Rattle.dcsctp_spec.specs.endpoint.Event.{packets_of_events}
use Rattle.dcsctp_spec.specs.Packet.{Emission}
use Rattle.dcsctp_spec.specs.queues.Items.{Item}
use Rattle.dcsctp_spec.specs.queues.Outstanding.{OutstandingState}
use Rattle.dcsctp_spec.specs.queues.OwnResets.{prepared_all, queue_committed, queue_rolled_back}
use Rattle.dcsctp_spec.specs.queues.SendQueue.{SendQueueState}
use Rattle.dcsctp_spec.specs.queues.Transfer.{Transfer}
use Rattle.dcsctp_spec.specs.endpoint.FlushOutcomes.{flush_of}
use Rattle.dcsctp_spec.specs.endpoint.MessageOutcomes.{sending_queued}
use Rattle.dcsctp_spec.specs.endpoint.SettingOutcomes.{set_in_queue}
use Rattle.dcsctp_delivery_directions.specs.sending.ChunkCounts.{chunks_among_packets, going, tsns_of, tsns_if_connected, tsns_of_queues}
use Rattle.dcsctp_delivery_directions.specs.sending.Stages.{Bears}
use Rattle.dcsctp_delivery_directions.specs.directions.Directions.{Direction, tsns_in_flight, assigned_count, DirectionStep, queues, sets, prepares, commits, rolls_back, resends, resends_nothing, speaks, asks_again, renews, turns_aside, tracks, defers, flushes, acknowledges, loses, receives, forwards, receives_interleaved, forwards_interleaved, performs, performs_earlier, resets, takes, NoneInFlight, DirectionRun, begins, goes_on, starts}
use Rattle.dcsctp_delivery_directions.proofs.sending.Acknowledged.{acknowledged_bear, lost_bear}
use Rattle.dcsctp_delivery_directions.proofs.sending.ChunkCounts.{flushes_assign_few, at_once_same}
use Rattle.dcsctp_delivery_directions.proofs.directions.Directions.{run_stands}
use Rattle.dcsctp_delivery_directions.proofs.directions.UnderWays.{KeepWays, queueing_ways, setting_ways, preparing_ways, committed_ways, rolled_back_ways}
use Rattle.dcsctp_delivery_directions.proofs.directions.Steps.{more_queued}
use Rattle.dcsctp_delivery_directions.proofs.directions.Standing.{Stands, same_flight, timed_outstanding}

abbrev FewSent : Direction → Type 0
FewSent direction = direction.acknowledged + tsns_of_queues direction.queues ≤ 1 + 2 * chunks_among_packets direction.sent

-- ---- what changes the queue alone

ways_counted : (old new : SendQueueState) (transfer : Option Transfer) → going new.streams ≡ going old.streams → tsns_if_connected new transfer ≡ tsns_if_connected old transfer
ways_counted old new None same = refl
ways_counted old new (Some transfer) same = omega (arith, same)

-- ---- what is sent

pub chunks_more : (sent more : List Emission) → chunks_among_packets (sent ++ more) ≡ chunks_among_packets sent + chunks_among_packets more
chunks_more [] more = omega arith
chunks_more (emission ∷ sent) more = (let rest = chunks_more sent more in omega (arith, rest))

-- ---- each step

module _ (options : Options) (first size : ℕ) (small : first < 2 ^ 32) (old : Direction) (run : DirectionRun options first size old) (few : length old.queued < 2 ^ 64) (h : FewSent old) where
  standing : Stands first old
  standing = run_stands options first size old small few run

  at_known : (transfer : Transfer) → old.queues.transfer ≡ Some transfer → tsns_of_queues old.queues ≡ tsns_of old.queues.queue transfer.retransmission.outstanding.items
  at_known transfer known = ap (λ (t : Option Transfer). tsns_if_connected old.queues.queue t) known

  by_queue : (queue : SendQueueState) → KeepWays old.queues.queue.streams queue.streams → old.acknowledged + tsns_if_connected queue old.queues.transfer ≤ 1 + 2 * chunks_among_packets old.sent
  by_queue queue ways = (let same = ways_counted old.queues.queue queue old.queues.transfer ways.count in omega (arith, same, h))

  stepped_few : (new : Direction) → DirectionStep old new → FewSent new
  unfolding standing
  stepped_few _ (queues now sending fits some) = by_queue (sending_queued now sending old.queues.queue) (queueing_ways now sending old.queues.queue)
  stepped_few _ (sets setting fits) = by_queue (set_in_queue setting old.queues.queue) (setting_ways setting old.queues.queue)
  stepped_few _ (prepares ids fit kept) = by_queue (prepared_all ids old.queues.queue) (preparing_ways ids old.queues.queue)
  stepped_few _ (commits go_on) = by_queue (queue_committed old.queues.queue) (committed_ways old.queues.queue)
  stepped_few _ (rolls_back unmixed) = by_queue (queue_rolled_back old.queues.queue) (rolled_back_ways old.queues.queue)
  stepped_few _ (flushes e draft answers same no_data allowed) =
      let assigns = flushes_assign_few e draft answers allowed in
      let before : tsns_of_queues e.queues ≡ tsns_of_queues old.queues = ap tsns_of_queues same in
      let sent = chunks_more old.sent (packets_of_events (flush_of e draft answers).events) in
      omega (arith, assigns, before, sent, h)
  stepped_few _ (resends now room transfer left tsns chunks emission known sends are contents) =
      let size = at_once_same now room old.queues.queue transfer.retransmission left tsns sends in
      let before = at_known transfer known in
      let sent = chunks_more old.sent (emission ∷ []) in
      omega (arith, size, before, sent, h)
  stepped_few _ (resends_nothing now room transfer left tsns known sends) =
      let size = at_once_same now room old.queues.queue transfer.retransmission left tsns sends in
      let before = at_known transfer known in
      omega (arith, size, before, h)
  stepped_few _ (speaks emission no_data) = (let sent = chunks_more old.sent (emission ∷ []) in omega (arith, sent, h))
  stepped_few _ (asks_again emission begun was contents) = (let sent = chunks_more old.sent (emission ∷ []) in omega (arith, sent, h))
  stepped_few _ (renews emission newest earlier number asks out contents) = (let sent = chunks_more old.sent (emission ∷ []) in omega (arith, sent, h))
  stepped_few _ (turns_aside transfer new known same) =
      let size : length new.retransmission.outstanding.items ≡ length transfer.retransmission.outstanding.items = ap (λ (o : OutstandingState). length o.items) same.outstanding in
      let before = at_known transfer known in
      omega (arith, size, before, h)
  stepped_few _ (acknowledges now sack transfer new known valid reached does) =
      let flight : Bears standing.history first old.acknowledged transfer.retransmission.outstanding = same_flight standing.history first old.acknowledged old.queues.transfer standing.queues.flight transfer known in
      let bears = acknowledged_bear standing.history first old.acknowledged now sack.cumulative_tsn_ack sack.a_rwnd does.blocks transfer.retransmission does.left valid flight does.acknowledges in
      let same : new.retransmission.outstanding ≡ does.left.outstanding = ap (λ (t : Transfer). t.retransmission.outstanding) does.is ∙ timed_outstanding does.round_trip (record transfer { retransmission = does.left }) in
      let size : length new.retransmission.outstanding.items ≡ length does.left.outstanding.items = ap (λ (o : OutstandingState). length o.items) same in
      let before = at_known transfer known in
      let count = flight.count in
      let count' = bears.count in
      omega (arith, size, before, h, count, count')
  stepped_few _ (loses now transfer known) =
      let flight : Bears standing.history first old.acknowledged transfer.retransmission.outstanding = same_flight standing.history first old.acknowledged old.queues.transfer standing.queues.flight transfer known in
      let count = flight.count in
      let count' = (lost_bear standing.history first old.acknowledged now transfer.retransmission flight).count in
      let before = at_known transfer known in
      omega (arith, before, h, count, count')
  stepped_few _ (receives emission chunk theirs new was holds some same same' does) = h
  stepped_few _ (forwards emission tsn streams theirs new was holds same same' does) = h
  stepped_few _ (receives_interleaved emission chunk theirs new was holds some same same' does) = h
  stepped_few _ (forwards_interleaved emission tsn streams theirs new was holds same same' does) = h
  stepped_few _ (tracks new cumulative ranges) = h
  stepped_few _ (defers last_tsn streams some) = h
  stepped_few _ (performs newest earlier new asks unknown reached own leaves) = h
  stepped_few _ (resets streams new unmixed some leaves) = h
  stepped_few _ (performs_earlier newest earlier new asks unknown reached own leaves) = h
  stepped_few _ (takes message messages is) = h

-- ---- a run

none_sent : (first acknowledged : ℕ) (queue : SendQueueState) (transfer : Option Transfer) → NoneInFlight first queue transfer → acknowledged ≡ 0 → acknowledged + tsns_if_connected queue transfer ≤ 1
none_sent first acknowledged queue None none zero = omega (arith, zero)
none_sent first acknowledged queue (Some transfer) none zero =
    let size : length transfer.retransmission.outstanding.items ≡ 0 = ap (λ (l : List Item). length l) none.1 in
    let rests = none.3 in
    omega (arith, rests, size, zero)

few_sent : (options : Options) (first size : ℕ) (direction : Direction) → first < 2 ^ 32 → length direction.queued < 2 ^ 64 → DirectionRun options first size direction → FewSent direction
few_sent options first size _ small few (begins direction b) =
    (let none = none_sent first direction.acknowledged direction.queues.queue direction.queues.transfer b.flight b.acknowledged in omega (arith, none))
few_sent options first size _ small few (goes_on old direction run step) =
    let before : length old.queued < 2 ^ 64 = omega (arith, few, more_queued old direction step) in
    stepped_few options first size small old run before (few_sent options first size old small before run) direction step
few_sent options first size _ small few (starts old queued below beginning run awaited fit waits none numbered) =
    (let nothing = none_sent first old.acknowledged below.queue below.transfer none awaited.acknowledged in omega (arith, nothing))

assigned_below : (queue : SendQueueState) (transfer : Option Transfer) → tsns_in_flight transfer ≤ tsns_if_connected queue transfer
assigned_below queue None = omega arith
assigned_below queue (Some transfer) = omega arith

pub few_for_chunks : (options : Options) (first size : ℕ) (direction : Direction) → DirectionRun options first size direction → first < 2 ^ 32 → length direction.queued < 2 ^ 64 → assigned_count direction ≤ 1 + 2 * chunks_among_packets direction.sent
few_for_chunks options first size direction run small few =
    let sent = few_sent options first size direction small few run in
    let below = assigned_below direction.queues.queue direction.queues.transfer in
    omega (arith, sent, below)
