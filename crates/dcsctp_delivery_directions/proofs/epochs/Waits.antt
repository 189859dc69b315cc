-- What waits of a stream since a place: what is sent next was queued there or later.
use Rattle.std.proofs.Common.{◌≡◌, ℕ, ◌<◌, ◌≤◌, ◌+◌, ◌^◌, List, length, take, refl, sym, ◌∙◌, ap, arith, subst, inl, inr}
use Rattle.std.specs.Prelude.{None, Some}
use Rattle.dcsctp_spec.specs.types.queues.SendStreams.{Waiting}
use Rattle.dcsctp_spec.specs.queues.Incoming.{is_named}
use Rattle.dcsctp_spec.specs.queues.OwnResets.{count_under_way, prepared_all}
use Rattle.dcsctp_spec.specs.queues.SendQueue.{queued_message as waiting_as}
use Rattle.dcsctp_spec.specs.queues.Transfer.{EndpointQueues}
use Rattle.dcsctp_spec.specs.endpoint.FlushOutcomes.{first_ask, packets_allowed}
use Rattle.dcsctp_delivery_directions.specs.sending.Flushes.{QueuesFollowLog}
use Rattle.dcsctp_delivery_directions.specs.sending.Log.{Piece, Slot, new_history}
use Rattle.dcsctp_delivery_directions.specs.sending.Numbers.{stream_named}
use Rattle.dcsctp_delivery_directions.specs.sending.Places.{at_place}
use Rattle.dcsctp_delivery_directions.proofs.sending.Places.{at_below}
use Rattle.dcsctp_delivery_directions.specs.directions.Directions.{Direction, tsns_in_flight, assigned_count, DirectionStep, queues, sets, prepares, commits, rolls_back, flushes, resends, resends_nothing, speaks, asks_again, renews, turns_aside, acknowledges, loses, receives, forwards, receives_interleaved, forwards_interleaved, tracks, defers, performs, performs_earlier, resets, takes}
use Rattle.dcsctp_delivery_directions.proofs.directions.Continuing.{EndsNone, step_continues}
use Rattle.dcsctp_delivery_directions.proofs.directions.Standing.{Stands}
use Rattle.dcsctp_delivery_directions.proofs.directions.Steps.{stepped}
use Rattle.dcsctp_delivery_directions.proofs.directions.Queued.{stepped_queues, stepped_sets, stepped_queue, stepped_prepares}
use Rattle.dcsctp_delivery_directions.proofs.directions.Receiving.{stepped_defers, stepped_receives, stepped_receives_interleaved, stepped_forwards, stepped_forwards_interleaved, stepped_tracks, stepped_takes, takes_data, stepped_arrived, skips, stepped_resets}
use Rattle.dcsctp_delivery_directions.proofs.directions.Sending.{stepped_speaks, stepped_asks_again, stepped_turns_aside, stepped_acknowledges, stepped_loses, stepped_sent, stepped_transfer}
use Rattle.dcsctp_delivery_directions.proofs.directions.Performing.{stepped_performs}
use Rattle.dcsctp_delivery_directions.specs.epochs.Sending.{AllFrom, SendsByEpoch}
use Rattle.dcsctp_delivery_directions.proofs.epochs.FlushSteps.{flush_waits}
use Rattle.dcsctp_delivery_directions.proofs.epochs.Named.{from_has, from_each}
use Rattle.dcsctp_delivery_directions.proofs.epochs.Preparing.{IsPreparedAs, paused, left, preparing_named, take_has}
use Rattle.dcsctp_delivery_directions.proofs.epochs.Queueing.{queueing_grows, from_one_more, setting_by_epoch}
use Rattle.dcsctp_delivery_directions.proofs.epochs.SendingRuns.{at_once_size}

-- All that waits on the stream was queued at this place or later, and so was all that was sent on it besides the first so many TSNs.
pub record WaitsSince (id place : ℕ) (log later : List Slot) (direction : Direction) : Type 0 where
  pub waits : AllFrom place (stream_named id direction.queues.queue.streams).messages
  pub sent : (n : ℕ) (f : Piece) → length log ≤ n → at_place n later ≡ Some (Some f) → f.message.stream ≡ id → place ≤ f.place

-- the first ones of what waits
pub first_from : (k place : ℕ) (l : List Waiting) → AllFrom place l → AllFrom place (take k l)
first_from k place l are = from_each place (take k l) (λ w has. from_has place l w are (take_has k l w has))

module _ (id place first : ℕ) (old : Direction) (small : first < 2 ^ 32) (s : Stands first old) (low : place ≤ length old.queued) (are : AllFrom place (stream_named id old.queues.queue.streams).messages) where
  -- the log stays
  same_log : (direction : Direction) → AllFrom place (stream_named id direction.queues.queue.streams).messages → WaitsSince id place s.history.log s.history.log direction
  same_log direction waits = record { waits = waits; sent = λ n f far at on. absurd (let below = at_below n (Some f) s.history.log at in omega (arith, far, below)) }

  -- no TSN is assigned
  same_count : (direction : Direction) (after : Stands first direction) → assigned_count direction ≡ assigned_count old → AllFrom place (stream_named id direction.queues.queue.streams).messages → WaitsSince id place s.history.log after.history.log direction
  same_count direction after same waits =
      record {
        waits = waits;
        sent = λ n f far at on. absurd
            (let below = at_below n (Some f) after.history.log at in
            let count = after.count in
            let counted = s.count in
            omega (arith, far, below, count, counted, same));
      }

  prepared_from : (ids : List ℕ) → AllFrom place (stream_named id (prepared_all ids old.queues.queue).streams).messages
  prepared_from ids = go (preparing_named ids old.queues.queue id)
    where
      go : IsPreparedAs (is_named ids id) (stream_named id old.queues.queue.streams) (stream_named id (prepared_all ids old.queues.queue).streams) → AllFrom place (stream_named id (prepared_all ids old.queues.queue).streams).messages
      go (paused is messages way pause) =
          subst (λ (l : List Waiting). AllFrom place l) (sym messages) (first_from (count_under_way (stream_named id old.queues.queue.streams)) place (stream_named id old.queues.queue.streams).messages are)
      go (left is unmoves) = subst (λ (l : List Waiting). AllFrom place l) (sym unmoves.messages) are

  pub stepped_waits : (direction : Direction) (few : length direction.queued < 2 ^ 64) (step : DirectionStep old direction) → EndsNone old direction step
      → WaitsSince id place s.history.log (stepped first old small s direction few step).history.log direction
  unfolding stepped stepped_defers stepped_queues stepped_sets stepped_queue stepped_prepares stepped_receives stepped_receives_interleaved stepped_forwards stepped_forwards_interleaved stepped_tracks stepped_takes takes_data stepped_arrived skips stepped_resets stepped_performs stepped_speaks stepped_asks_again stepped_turns_aside stepped_acknowledges stepped_loses stepped_sent stepped_transfer
  stepped_waits _ few (queues now sending fits some) ends =
      let w : Waiting = waiting_as now sending.message sending.options old.queues.queue in
      let next = s.next in
      same_log _
      (elim (queueing_grows now sending old.queues.queue id).messages [
        | inl same ↦ subst (λ (l : List Waiting). AllFrom place l) (sym same) are
        | inr more ↦ subst (λ (l : List Waiting). AllFrom place l) (sym more) (from_one_more place (stream_named id old.queues.queue.streams).messages w (omega (arith, low, next)) are)
      ])
  stepped_waits _ few (sets setting fits) ends =
      let nothing : SendsByEpoch place (new_history (λ stream is_unordered. 0)) old.queues.queue id (record { newest = None; ended = place }) =
      record { from = record { sent = λ n f at. absurd (cc); waits = are }; stops = tt; newest = λ other is. absurd (cc); ended = omega arith } in
      same_log _ (setting_by_epoch setting old.queues.queue (new_history (λ stream is_unordered. 0)) id place (record { newest = None; ended = place }) nothing).from.waits
  stepped_waits _ few (prepares ids fit dropped) ends = same_log _ (prepared_from ids)
  stepped_waits _ few (commits go_on) ends = absurd ends
  stepped_waits _ few (rolls_back unmixed) ends = absurd ends
  stepped_waits _ few (flushes endpoint draft answers same no_data allowed) ends =
      let after = stepped first old small s _ few (flushes endpoint draft answers same no_data allowed) in
      let c = step_continues first old small s _ few (flushes endpoint draft answers same no_data allowed) tt in
      let w = flush_waits old.queued s.history after.history first old.acknowledged c.more c.log c.floors first_ask (packets_allowed endpoint.options.max_burst endpoint.core) endpoint draft answers allowed
      (subst (λ (b : EndpointQueues). QueuesFollowLog old.queued s.history first old.acknowledged b) (sym same) s.queues) after.queues id place
      (subst (λ (b : EndpointQueues). AllFrom place (stream_named id b.queue.streams).messages) (sym same) are) in
      record { waits = w.0; sent = w.1 }
  stepped_waits _ few (resends now room transfer rest tsns chunks emission known sends fill contents) ends =
      same_count _ (stepped first old small s _ few (resends now room transfer rest tsns chunks emission known sends fill contents))
      (ap (λ (k : ℕ). old.acknowledged + k) (at_once_size now room old.queues.queue transfer.retransmission rest tsns sends ∙ sym (ap tsns_in_flight known))) are
  stepped_waits _ few (resends_nothing now room transfer rest tsns known sends) ends =
      same_count _ (stepped first old small s _ few (resends_nothing now room transfer rest tsns known sends))
      (ap (λ (k : ℕ). old.acknowledged + k) (at_once_size now room old.queues.queue transfer.retransmission rest tsns sends ∙ sym (ap tsns_in_flight known))) are
  stepped_waits _ few (renews emission newest earlier number asks out contents) ends = same_count _ (stepped first old small s _ few (renews emission newest earlier number asks out contents)) refl are
  stepped_waits _ few (speaks emission no_data) ends = same_log _ are
  stepped_waits _ few (asks_again emission begun was contents) ends = same_log _ are
  stepped_waits _ few (turns_aside transfer new known same) ends = same_log _ are
  stepped_waits _ few (acknowledges now sack transfer new known valid reached does) ends = same_log _ are
  stepped_waits _ few (loses now transfer known) ends = same_log _ are
  stepped_waits _ few (receives emission chunk theirs new was holds some same same' does) ends = same_log _ are
  stepped_waits _ few (forwards emission tsn streams theirs new was holds same same' does) ends = same_log _ are
  stepped_waits _ few (receives_interleaved emission chunk theirs new was holds some same same' does) ends = same_log _ are
  stepped_waits _ few (forwards_interleaved emission tsn streams theirs new was holds same same' does) ends = same_log _ are
  stepped_waits _ few (tracks new cumulative ranges) ends = same_log _ are
  stepped_waits _ few (defers last_tsn streams some) ends = same_log _ are
  stepped_waits _ few (performs newest earlier new asks unknown reached own leaves) ends = same_log _ are
  stepped_waits _ few (performs_earlier newest earlier new asks unknown reached own leaves) ends = same_log _ are
  stepped_waits _ few (resets streams new unmixed some leaves) ends = same_log _ are
  stepped_waits _ few (takes message messages ready) ends = same_log _ are
