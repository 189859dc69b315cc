-- A sender that keeps all that was queued pauses no stream, and begins no reset.
use Rattle.std.proofs.Common.{◌≡◌, ℕ, true, false, List, [], ◌∷◌, length, refl, sym, ◌∙◌, ap, subst}
use Rattle.std.specs.Prelude.{Option, None}
use Rattle.std.specs.List.{AllByRecursion}
use Rattle.dcsctp_spec.specs.endpoint.BegunResets.{BegunReset}
use Rattle.dcsctp_spec.specs.endpoint.FlushOutcomes.{first_ask, packets_allowed}
use Rattle.dcsctp_spec.specs.queues.OwnResets.{prepared_all}
use Rattle.dcsctp_spec.specs.queues.SendQueue.{SendQueueState}
use Rattle.dcsctp_spec.specs.queues.Transfer.{EndpointQueues}
use Rattle.dcsctp_spec.specs.types.queues.SendStreams.{Stream}
use Rattle.dcsctp_delivery_directions.specs.sending.Flushes.{begun_reset_of}
use Rattle.dcsctp_delivery_directions.specs.sending.Losing.{AreOpen, IsOpenOn}
use Rattle.dcsctp_delivery_directions.proofs.sending.OpenStreams.{queueing_open, setting_open, committing_open, rolling_back_open, flush_open, flush_asks_none}
use Rattle.dcsctp_delivery_directions.specs.directions.Directions.{Beginning, KeepsAll, MayReset, Direction, asking_with, DirectionStep, queues, sets, prepares, commits, rolls_back, flushes, resends, resends_nothing, speaks, asks_again, renews, turns_aside, acknowledges, loses, receives, forwards, receives_interleaved, forwards_interleaved, tracks, defers, performs, performs_earlier, resets, takes}

-- No stream is to be reset, and none ever was.
pub record IsUnpaused (direction : Direction) : Type 0 where
  pub unpaused : AreOpen direction.queues.queue.streams
  pub unasked : direction.asking.requests ≡ []

-- Each stream is open.
pub all_open : (streams : List Stream) → ((id : ℕ) → IsOpenOn id streams) → AreOpen streams
all_open [] each = tt
all_open (stream ∷ streams) each = ((each stream.id).0 refl, all_open streams (λ id. (each id).1))

-- Where the sender keeps all, it prepares no stream to be reset.
pub none_prepared : (beginning : Beginning) (count : ℕ) (streams : List Stream) (ids : List ℕ) (queue : SendQueueState) → KeepsAll beginning
    → AllByRecursion (MayReset beginning count streams) ids → prepared_all ids queue ≡ queue
none_prepared beginning count streams [] queue keeps may = refl
none_prepared beginning count streams (id ∷ ids) queue keeps may = absurd (let no : true ≡ false = sym (keeps id) ∙ may.0.dropped in cc)

-- This stays so, where the sender keeps all.
pub stays_unpaused : (old direction : Direction) → DirectionStep old direction → KeepsAll old.beginning → IsUnpaused old → IsUnpaused direction
stays_unpaused old _ (queues now sending fits some) keeps u = record { unpaused = queueing_open now sending old.queues.queue u.unpaused; unasked = u.unasked }
stays_unpaused old _ (sets setting fits) keeps u = record { unpaused = setting_open setting old.queues.queue u.unpaused; unasked = u.unasked }
stays_unpaused old _ (prepares ids fit dropped) keeps u =
    record {
      unpaused = subst (λ (q : SendQueueState). AreOpen q.streams) (sym (none_prepared old.beginning (length old.queued) old.queues.queue.streams ids old.queues.queue keeps dropped)) u.unpaused;
      unasked = u.unasked;
    }
stays_unpaused old _ (commits go_on) keeps u = record { unpaused = committing_open old.queues.queue u.unpaused; unasked = u.unasked }
stays_unpaused old _ (rolls_back unmixed) keeps u = record { unpaused = rolling_back_open old.queues.queue u.unpaused; unasked = u.unasked }
stays_unpaused old _ (flushes e draft answers same no_data allowed) keeps u =
    let before : AreOpen e.queues.queue.streams = subst (λ (b : EndpointQueues). AreOpen b.queue.streams) (sym same) u.unpaused in
    let none : begun_reset_of answers ≡ None = flush_asks_none first_ask (packets_allowed e.options.max_burst e.core) e draft answers allowed before in
    record {
      unpaused = flush_open first_ask (packets_allowed e.options.max_burst e.core) e draft answers allowed before;
      unasked = ap (λ (begun : Option BegunReset). (asking_with begun old.asking).requests) none ∙ u.unasked;
    }
stays_unpaused old _ (resends now room transfer left tsns chunks emission known sends are contents) keeps u = record { unpaused = u.unpaused; unasked = u.unasked }
stays_unpaused old _ (resends_nothing now room transfer left tsns known sends) keeps u = record { unpaused = u.unpaused; unasked = u.unasked }
stays_unpaused old _ (speaks emission no_data) keeps u = record { unpaused = u.unpaused; unasked = u.unasked }
stays_unpaused old _ (asks_again emission begun was contents) keeps u = record { unpaused = u.unpaused; unasked = u.unasked }
stays_unpaused old _ (renews emission newest earlier number asks out contents) keeps u = absurd (let some : newest ∷ earlier ≡ [] = sym asks ∙ u.unasked in cc)
stays_unpaused old _ (turns_aside transfer new known same) keeps u = record { unpaused = u.unpaused; unasked = u.unasked }
stays_unpaused old _ (acknowledges now sack transfer new known valid reached does) keeps u = record { unpaused = u.unpaused; unasked = u.unasked }
stays_unpaused old _ (loses now transfer known) keeps u = record { unpaused = u.unpaused; unasked = u.unasked }
stays_unpaused old _ (receives emission chunk theirs new was holds some same same' does) keeps u = record { unpaused = u.unpaused; unasked = u.unasked }
stays_unpaused old _ (forwards emission tsn streams theirs new was holds same same' does) keeps u = record { unpaused = u.unpaused; unasked = u.unasked }
stays_unpaused old _ (receives_interleaved emission chunk theirs new was holds some same same' does) keeps u = record { unpaused = u.unpaused; unasked = u.unasked }
stays_unpaused old _ (forwards_interleaved emission tsn streams theirs new was holds same same' does) keeps u = record { unpaused = u.unpaused; unasked = u.unasked }
stays_unpaused old _ (tracks new cumulative ranges) keeps u = record { unpaused = u.unpaused; unasked = u.unasked }
stays_unpaused old _ (defers last_tsn streams some) keeps u = record { unpaused = u.unpaused; unasked = u.unasked }
stays_unpaused old _ (performs newest earlier new asks unknown reached own leaves) keeps u = record { unpaused = u.unpaused; unasked = u.unasked }
stays_unpaused old _ (resets streams new unmixed some leaves) keeps u = record { unpaused = u.unpaused; unasked = u.unasked }
stays_unpaused old _ (performs_earlier newest earlier new asks unknown reached own leaves) keeps u = record { unpaused = u.unpaused; unasked = u.unasked }
stays_unpaused old _ (takes message messages ready) keeps u = record { unpaused = u.unpaused; unasked = u.unasked }
