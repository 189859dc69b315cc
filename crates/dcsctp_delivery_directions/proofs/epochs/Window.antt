-- The receive window of a direction keeps its size.
use Rattle.std.proofs.Common.{◌≡◌, ℕ, Bool, true, false, List, refl, ◌∙◌, ap, length}
use Rattle.std.specs.Prelude.{◌&&◌}
use Rattle.dcsctp_spec.specs.types.declared.arrivals.SkippedTo.{SkippedTo}
use Rattle.dcsctp_spec.specs.types.declared.options.Options.{Options}
use Rattle.dcsctp_spec.specs.queues.Arrivals.{Arrival, data_arrival, i_data_arrival, named_skips, skipped_messages}
use Rattle.dcsctp_spec.specs.queues.Reassembly.{ReassemblyState, AddsData, SkipsData, can_count, is_data_deferred, is_forward_deferred}
use Rattle.dcsctp_spec.specs.queues.Tracker.{is_valid_tsn, is_new_tsn, is_forward}
use Rattle.dcsctp_spec.specs.queues.Transfer.{Transfer}
use Rattle.dcsctp_spec.specs.endpoint.TransferMoves.{AddsIfNew, has_room, dropping, ReceivesIfRoom, ReceivesData, SkipsIfMoved, MovesIfForward, MovesForward}
use Rattle.dcsctp_delivery_directions.specs.directions.Directions.{Direction, DirectionStep, queues, sets, prepares, commits, rolls_back, flushes, resends, resends_nothing, speaks, asks_again, renews, turns_aside, acknowledges, loses, receives, forwards, receives_interleaved, forwards_interleaved, tracks, defers, performs, performs_earlier, resets, takes, DirectionRun, begins, goes_on, starts}
use Rattle.dcsctp_delivery_directions.proofs.receiving.Kept.{deferred_by}

received_window : (arrival : Arrival) (old new : Transfer) → ReceivesData arrival old new → new.reassembly.max_size ≡ old.reassembly.max_size
received_window arrival old new does = go (has_room arrival.tsn old && is_valid_tsn old.tracker.cumulative arrival.tsn) does
  where
    added : AddsData arrival.tsn arrival.chunk old.reassembly new.reassembly → (b : Bool) → can_count (length arrival.chunk.payload) old.reassembly ≡ b → (c : Bool) → is_data_deferred arrival.tsn arrival.chunk.stream old.reassembly.deferral ≡ c → new.reassembly.max_size ≡ old.reassembly.max_size
    added adds false counts c deferred = ap (λ (s : ReassemblyState). s.max_size) (adds.too_much counts)
    added adds true counts true deferred = ap (λ (s : ReassemblyState). s.max_size) (adds.deferred counts deferred)
    added adds true counts false deferred = (adds.taken counts deferred).window

    by_new : (b : Bool) → AddsIfNew b arrival.tsn arrival.chunk old.reassembly new.reassembly → new.reassembly.max_size ≡ old.reassembly.max_size
    by_new true adds = added adds (can_count (length arrival.chunk.payload) old.reassembly) refl (is_data_deferred arrival.tsn arrival.chunk.stream old.reassembly.deferral) refl
    by_new false same = ap (λ (s : ReassemblyState). s.max_size) same

    dropped : (b : Bool) → new ≡ dropping b old → new.reassembly.max_size ≡ old.reassembly.max_size
    dropped true same = ap (λ (t : Transfer). t.reassembly.max_size) same
    dropped false same = ap (λ (t : Transfer). t.reassembly.max_size) same

    go : (b : Bool) → ReceivesIfRoom b arrival old new → new.reassembly.max_size ≡ old.reassembly.max_size
    go true taken = by_new (is_new_tsn arrival.tsn old.tracker) taken.reassembly
    go false same = dropped (old.tracker.follows_rfc && is_valid_tsn old.tracker.cumulative arrival.tsn) same

forwarded_window : (tsn : ℕ) (entries : List SkippedTo) (old new : Transfer) → MovesForward tsn entries old new → new.reassembly.max_size ≡ old.reassembly.max_size
forwarded_window tsn entries old new moves = go (is_valid_tsn old.tracker.cumulative tsn) moves
  where
    skipped : SkipsData tsn entries old.reassembly new.reassembly → (b : Bool) → is_forward_deferred tsn old.reassembly.deferral ≡ b → new.reassembly.max_size ≡ old.reassembly.max_size
    skipped skips true is = (let (waits, same, far) = deferred_by tsn old.reassembly.deferral is in (skips.deferred is waits same).window)
    skipped skips false is = (skips.moved is).window

    moved : (b : Bool) → SkipsIfMoved b tsn entries old.reassembly new.reassembly → new.reassembly.max_size ≡ old.reassembly.max_size
    moved true skips = skipped skips (is_forward_deferred tsn old.reassembly.deferral) refl
    moved false same = ap (λ (s : ReassemblyState). s.max_size) same

    go : (b : Bool) → MovesIfForward b tsn entries old new → new.reassembly.max_size ≡ old.reassembly.max_size
    go true goes = moved (is_forward old.tracker.cumulative tsn) goes.reassembly
    go false same = ap (λ (t : Transfer). t.reassembly.max_size) same

same_before : (old : Direction) (theirs : Transfer) → theirs.reassembly ≡ old.reassembly → theirs.reassembly.max_size ≡ old.reassembly.max_size
same_before old theirs same = ap (λ (s : ReassemblyState). s.max_size) same

step_window : (old direction : Direction) → DirectionStep old direction → direction.reassembly.max_size ≡ old.reassembly.max_size
step_window old _ (receives emission chunk theirs new was holds some same same' does) = received_window (data_arrival chunk) theirs new does ∙ same_before old theirs same'
step_window old _ (forwards emission tsn streams theirs new was holds same same' does) = forwarded_window tsn (named_skips streams) theirs new does ∙ same_before old theirs same'
step_window old _ (receives_interleaved emission chunk theirs new was holds some same same' does) = received_window (i_data_arrival chunk) theirs new does ∙ same_before old theirs same'
step_window old _ (forwards_interleaved emission tsn streams theirs new was holds same same' does) = forwarded_window tsn (skipped_messages streams) theirs new does ∙ same_before old theirs same'
step_window old _ (performs newest earlier new asks unknown reached own leaves) = leaves.window
step_window old _ (performs_earlier newest earlier new asks unknown reached own leaves) = leaves.window
step_window old _ (resets streams new unmixed some leaves) = leaves.window
step_window old _ (queues now sending fits some) = refl
step_window old _ (sets setting fits) = refl
step_window old _ (prepares ids fit dropped) = refl
step_window old _ (commits go_on) = refl
step_window old _ (rolls_back unmixed) = refl
step_window old _ (flushes e draft answers same no_data allowed) = refl
step_window old _ (resends now room transfer left tsns chunks emission known sends are' contents) = refl
step_window old _ (resends_nothing now room transfer left tsns known sends) = refl
step_window old _ (speaks emission no_data) = refl
step_window old _ (asks_again emission begun was contents) = refl
step_window old _ (renews emission newest earlier number asks out contents) = refl
step_window old _ (turns_aside transfer next known same) = refl
step_window old _ (acknowledges now sack transfer next known valid reached does) = refl
step_window old _ (loses now transfer known) = refl
step_window old _ (tracks next cumulative ranges) = refl
step_window old _ (defers last_tsn streams some) = refl
step_window old _ (takes taken messages ready) = refl

pub window_of : (options : Options) (first size : ℕ) (direction : Direction) → DirectionRun options first size direction → direction.reassembly.max_size ≡ size
window_of options first size _ (begins direction begun) = ap (λ (s : ReassemblyState). s.max_size) begun.reassembly
window_of options first size _ (goes_on old direction run step) = step_window old direction step ∙ window_of options first size old run
window_of options first size _ (starts old queued sender_queues beginning run awaited fit waits none begun) = window_of options first size old run
