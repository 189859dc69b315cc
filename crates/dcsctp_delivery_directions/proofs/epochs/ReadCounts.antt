-- What was read or is ready grows, and so does what was received.
use Rattle.std.proofs.Common.{◌≡◌, ℕ, ◌≤◌, ◌+◌, List, [], ◌∷◌, ◌++◌, length, length-append, ap, arith}
use Rattle.dcsctp_spec.specs.types.queues.Messages.{MessageContent}
use Rattle.dcsctp_spec.specs.queues.Arrivals.{data_arrival, i_data_arrival, named_skips, skipped_messages}
use Rattle.dcsctp_spec.specs.queues.Reassembly.{ReassemblyState, waiting_of, skips_of, EndsDeferral}
use Rattle.dcsctp_spec.specs.queues.Tracker.{TrackerState}
use Rattle.dcsctp_spec.specs.queues.Transfer.{Transfer}
use Rattle.dcsctp_delivery_directions.specs.directions.Directions.{Direction, DirectionStep, queues, sets, prepares, commits, rolls_back, flushes, resends, resends_nothing, speaks, asks_again, renews, turns_aside, acknowledges, loses, receives, forwards, receives_interleaved, forwards_interleaved, tracks, defers, performs, performs_earlier, resets, takes}
use Rattle.dcsctp_delivery_directions.proofs.receiving.Upward.{received_grows, forward_grows}
use Rattle.dcsctp_delivery_directions.proofs.epochs.OtherReady.{resets_more, all_more, skips_more}
use Rattle.dcsctp_delivery_directions.proofs.epochs.OtherMoves.{received_moved, forwarded_moved}

more_than : (after before more : List MessageContent) → after ≡ before ++ more → length before ≤ length after
more_than after before more is = (let sizes : length after ≡ length (before ++ more) = ap (λ (l : List MessageContent). length l) is in omega (arith, sizes, length-append before more))

pub ready_grows : (streams : List ℕ) (old new : ReassemblyState) → EndsDeferral streams old new → length old.incoming.ready ≤ length new.incoming.ready
ready_grows streams old new leaves =
    let r = resets_more streams old.incoming leaves.between leaves.resets in
    let m = all_more (waiting_of old.deferral) leaves.between leaves.handled leaves.works in
    let n = skips_more (skips_of old.deferral) leaves.handled new.incoming leaves.skips in
    let one = more_than leaves.between.ready old.incoming.ready r.more r.is in
    let two = more_than leaves.handled.ready leaves.between.ready m.more m.is in
    let three = more_than new.incoming.ready leaves.handled.ready n.more n.is in
    omega (arith, one, two, three)

-- how many messages were read, or are ready
abbrev pub count_reached : Direction → ℕ
count_reached direction = length direction.read + length direction.reassembly.incoming.ready

from_theirs : (old : Direction) (theirs new : Transfer) (more : List MessageContent) → theirs.reassembly ≡ old.reassembly → new.reassembly.incoming.ready ≡ theirs.reassembly.incoming.ready ++ more
    → length old.read + length old.reassembly.incoming.ready ≤ length old.read + length new.reassembly.incoming.ready
from_theirs old theirs new more same is =
    let up = more_than new.reassembly.incoming.ready theirs.reassembly.incoming.ready more is in
    let sizes : length theirs.reassembly.incoming.ready ≡ length old.reassembly.incoming.ready = ap (λ (r : ReassemblyState). length r.incoming.ready) same in
    omega (arith, up, sizes)

pub reached_grows : (old direction : Direction) → DirectionStep old direction → count_reached old ≤ count_reached direction
reached_grows old _ (receives emission chunk theirs new was holds some same same' does) = (let m = received_moved (data_arrival chunk) theirs new does in from_theirs old theirs new m.more same' m.is)
reached_grows old _ (receives_interleaved emission chunk theirs new was holds some same same' does) = (let m = received_moved (i_data_arrival chunk) theirs new does in from_theirs old theirs new m.more same' m.is)
reached_grows old _ (forwards emission tsn streams theirs new was holds same same' does) = (let m = forwarded_moved tsn (named_skips streams) theirs new does in from_theirs old theirs new m.more same' m.is)
reached_grows old _ (forwards_interleaved emission tsn streams theirs new was holds same same' does) = (let m = forwarded_moved tsn (skipped_messages streams) theirs new does in from_theirs old theirs new m.more same' m.is)
reached_grows old _ (performs newest earlier new asks unknown reached own leaves) = (let up = ready_grows newest.reset.streams old.reassembly new leaves in omega (arith, up))
reached_grows old _ (performs_earlier newest earlier new asks unknown reached own leaves) = (let up = ready_grows newest.reset.streams old.reassembly new leaves in omega (arith, up))
reached_grows old _ (resets streams new unmixed some leaves) = (let up = ready_grows streams old.reassembly new leaves in omega (arith, up))
reached_grows old _ (takes message messages ready) =
    let one = length-append old.read (message ∷ []) in
    let two : length old.reassembly.incoming.ready ≡ length (message ∷ messages) = ap (λ (l : List MessageContent). length l) ready in
    omega (arith, one, two)
reached_grows old _ (queues now sending fits some) = omega arith
reached_grows old _ (sets setting fits) = omega arith
reached_grows old _ (prepares ids fit dropped) = omega arith
reached_grows old _ (commits go_on) = omega arith
reached_grows old _ (rolls_back unmixed) = omega arith
reached_grows old _ (flushes e draft answers same no_data allowed) = omega arith
reached_grows old _ (resends now room transfer left tsns chunks emission known sends are contents) = omega arith
reached_grows old _ (resends_nothing now room transfer left tsns known sends) = omega arith
reached_grows old _ (speaks emission no_data) = omega arith
reached_grows old _ (asks_again emission begun was contents) = omega arith
reached_grows old _ (renews emission newest earlier number asks out contents) = omega arith
reached_grows old _ (turns_aside transfer new known same) = omega arith
reached_grows old _ (acknowledges now sack transfer new known valid reached does) = omega arith
reached_grows old _ (loses now transfer known) = omega arith
reached_grows old _ (tracks new cumulative ranges) = omega arith
reached_grows old _ (defers last_tsn streams some) = omega arith

from_tracker : (old : Direction) (theirs new : Transfer) → theirs.tracker ≡ old.tracker → theirs.tracker.cumulative ≤ new.tracker.cumulative → old.tracker.cumulative ≤ new.tracker.cumulative
from_tracker old theirs new same up = (let is : theirs.tracker.cumulative ≡ old.tracker.cumulative = ap (λ (t : TrackerState). t.cumulative) same in omega (arith, is, up))

pub cumulative_grows : (old direction : Direction) → DirectionStep old direction → old.tracker.cumulative ≤ direction.tracker.cumulative
cumulative_grows old _ (receives emission chunk theirs new was holds some same same' does) = from_tracker old theirs new same (received_grows (data_arrival chunk) theirs new does)
cumulative_grows old _ (receives_interleaved emission chunk theirs new was holds some same same' does) = from_tracker old theirs new same (received_grows (i_data_arrival chunk) theirs new does)
cumulative_grows old _ (forwards emission tsn streams theirs new was holds same same' does) = from_tracker old theirs new same (forward_grows tsn (named_skips streams) theirs new does)
cumulative_grows old _ (forwards_interleaved emission tsn streams theirs new was holds same same' does) = from_tracker old theirs new same (forward_grows tsn (skipped_messages streams) theirs new does)
cumulative_grows old _ (tracks new cumulative ranges) = omega (arith, cumulative)
cumulative_grows old _ (performs newest earlier new asks unknown reached own leaves) = omega arith
cumulative_grows old _ (performs_earlier newest earlier new asks unknown reached own leaves) = omega arith
cumulative_grows old _ (resets streams new unmixed some leaves) = omega arith
cumulative_grows old _ (takes message messages ready) = omega arith
cumulative_grows old _ (queues now sending fits some) = omega arith
cumulative_grows old _ (sets setting fits) = omega arith
cumulative_grows old _ (prepares ids fit dropped) = omega arith
cumulative_grows old _ (commits go_on) = omega arith
cumulative_grows old _ (rolls_back unmixed) = omega arith
cumulative_grows old _ (flushes e draft answers same no_data allowed) = omega arith
cumulative_grows old _ (resends now room transfer left tsns chunks emission known sends are contents) = omega arith
cumulative_grows old _ (resends_nothing now room transfer left tsns known sends) = omega arith
cumulative_grows old _ (speaks emission no_data) = omega arith
cumulative_grows old _ (asks_again emission begun was contents) = omega arith
cumulative_grows old _ (renews emission newest earlier number asks out contents) = omega arith
cumulative_grows old _ (turns_aside transfer new known same) = omega arith
cumulative_grows old _ (acknowledges now sack transfer new known valid reached does) = omega arith
cumulative_grows old _ (loses now transfer known) = omega arith
cumulative_grows old _ (defers last_tsn streams some) = omega arith
