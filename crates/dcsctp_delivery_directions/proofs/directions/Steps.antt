-- Each step of a direction keeps what holds.
use Rattle.std.proofs.Common.{ℕ, ◌<◌, ◌≤◌, ◌^◌, length, arith}
use Rattle.dcsctp_delivery_directions.specs.directions.Directions.{Direction, DirectionStep, queues, sets, prepares, commits, rolls_back, flushes, resends, resends_nothing, speaks, asks_again, renews, turns_aside, acknowledges, loses, receives, forwards, receives_interleaved, forwards_interleaved, tracks, defers, performs, performs_earlier, resets, takes}
use Rattle.dcsctp_delivery_directions.proofs.directions.Flushing.{stepped_flushes}
use Rattle.dcsctp_delivery_directions.proofs.directions.Performing.{stepped_performs}
use Rattle.dcsctp_delivery_directions.proofs.directions.Queued.{stepped_queues, stepped_sets, stepped_prepares, stepped_commits, stepped_rolls_back}
use Rattle.dcsctp_delivery_directions.proofs.directions.Receiving.{stepped_receives, stepped_receives_interleaved, stepped_forwards, stepped_forwards_interleaved, stepped_tracks, stepped_defers, stepped_resets, stepped_takes}
use Rattle.dcsctp_delivery_directions.proofs.directions.Renewing.{stepped_renews}
use Rattle.dcsctp_delivery_directions.proofs.directions.Sending.{stepped_resends, stepped_resends_nothing, stepped_speaks, stepped_asks_again, stepped_turns_aside, stepped_acknowledges, stepped_loses}
use Rattle.dcsctp_delivery_directions.proofs.directions.Standing.{Stands}

pub more_queued : (old direction : Direction) → DirectionStep old direction → length old.queued ≤ length direction.queued
more_queued old _ (queues now sending fits some) = omega arith
more_queued old _ (sets setting fits) = omega arith
more_queued old _ (prepares ids fit kept) = omega arith
more_queued old _ (commits go_on) = omega arith
more_queued old _ (rolls_back unmixed) = omega arith
more_queued old _ (flushes e draft answers same no_data allowed) = omega arith
more_queued old _ (resends now room transfer left tsns chunks emission known sends are contents) = omega arith
more_queued old _ (resends_nothing now room transfer left tsns known sends) = omega arith
more_queued old _ (speaks emission no_data) = omega arith
more_queued old _ (asks_again emission begun was contents) = omega arith
more_queued old _ (renews emission newest earlier number asks out contents) = omega arith
more_queued old _ (turns_aside transfer new known same) = omega arith
more_queued old _ (acknowledges now sack transfer new known valid reached does) = omega arith
more_queued old _ (loses now transfer known) = omega arith
more_queued old _ (receives emission chunk theirs new was holds some same same' does) = omega arith
more_queued old _ (forwards emission tsn streams theirs new was holds same same' does) = omega arith
more_queued old _ (receives_interleaved emission chunk theirs new was holds some same same' does) = omega arith
more_queued old _ (forwards_interleaved emission tsn streams theirs new was holds same same' does) = omega arith
more_queued old _ (tracks new cumulative ranges) = omega arith
more_queued old _ (defers last_tsn streams some) = omega arith
more_queued old _ (performs newest earlier new asks unknown reached own leaves) = omega arith
more_queued old _ (resets streams new unmixed some leaves) = omega arith
more_queued old _ (performs_earlier newest earlier new asks unknown reached own leaves) = omega arith
more_queued old _ (takes message messages is) = omega arith

unfoldable pub stepped : (first : ℕ) (old : Direction) → first < 2 ^ 32 → Stands first old → (direction : Direction) → length direction.queued < 2 ^ 64 → DirectionStep old direction → Stands first direction
stepped first old small s _ few (queues now sending fits some) = stepped_queues first old s now sending fits some (omega (arith, few))
stepped first old small s _ few (sets setting fits) = stepped_sets first old s setting fits
stepped first old small s _ few (prepares ids fit kept) = stepped_prepares first old s ids fit
stepped first old small s _ few (commits go_on) = stepped_commits first old s go_on
stepped first old small s _ few (rolls_back unmixed) = stepped_rolls_back first old s
stepped first old small s _ few (flushes e draft answers same no_data allowed) = stepped_flushes first old s e draft answers same no_data allowed
stepped first old small s _ few (resends now room transfer left tsns chunks emission known sends are contents) = stepped_resends first old s now room transfer left tsns chunks emission known sends are contents
stepped first old small s _ few (resends_nothing now room transfer left tsns known sends) = stepped_resends_nothing first old s now room transfer left tsns known sends
stepped first old small s _ few (speaks emission no_data) = stepped_speaks first old s emission no_data
stepped first old small s _ few (asks_again emission begun was contents) = stepped_asks_again first old s emission begun was contents
stepped first old small s _ few (renews emission newest earlier number asks out contents) = stepped_renews first old s emission newest earlier number asks out contents
stepped first old small s _ few (turns_aside transfer new known same) = stepped_turns_aside first old s transfer new known same
stepped first old small s _ few (acknowledges now sack transfer new known valid reached does) = stepped_acknowledges first old s now sack transfer new known valid does
stepped first old small s _ few (loses now transfer known) = stepped_loses first old s now transfer known
stepped first old small s _ few (receives emission chunk theirs new was holds some same same' does) = stepped_receives first old small s theirs new same same' emission chunk was holds some does
stepped first old small s _ few (forwards emission tsn streams theirs new was holds same same' does) = stepped_forwards first old small s theirs new same same' emission tsn streams was holds does
stepped first old small s _ few (receives_interleaved emission chunk theirs new was holds some same same' does) = stepped_receives_interleaved first old small s theirs new same same' emission chunk was holds some does
stepped first old small s _ few (forwards_interleaved emission tsn streams theirs new was holds same same' does) = stepped_forwards_interleaved first old small s theirs new same same' emission tsn streams was holds does
stepped first old small s _ few (tracks new cumulative ranges) = stepped_tracks first old small s new cumulative ranges
stepped first old small s _ few (defers last_tsn streams some) = stepped_defers first old small s last_tsn streams
stepped first old small s _ few (performs newest earlier new asks unknown reached own leaves) = stepped_performs first old small s newest earlier new asks reached own leaves
stepped first old small s _ few (resets streams new unmixed some leaves) = stepped_resets first old small s streams new leaves
stepped first old small s _ few (performs_earlier newest earlier new asks unknown reached own leaves) = stepped_resets first old small s newest.reset.streams new leaves
stepped first old small s _ few (takes message messages is) = stepped_takes first old small s message messages is
