-- Where a sender began so, its requests to reset streams end in turn.
use Rattle.std.proofs.Common.{◌≡◌, ℕ, Bool, true, false, ◌<◌, ◌^◌, length, refl, sym, ◌∙◌, ap}
use Rattle.std.specs.Prelude.{◌||◌}
use Rattle.dcsctp_spec.specs.types.declared.options.Options.{Options}
use Rattle.dcsctp_delivery_directions.specs.directions.Directions.{Beginning, Direction, is_in_turn, assigned_count, DirectionRun, begins, goes_on, starts, DirectionStep, queues, sets, prepares, commits, rolls_back, flushes, resends, resends_nothing, speaks, asks_again, renews, turns_aside, acknowledges, loses, receives, forwards, receives_interleaved, forwards_interleaved, tracks, defers, performs, performs_earlier, resets, takes}
use Rattle.dcsctp_delivery_directions.proofs.directions.Losing.{same_beginning}
use Rattle.dcsctp_delivery_directions.specs.epochs.InTurn.{EndsInTurn, RunsInTurn, AreSplitInTurn}
use Rattle.dcsctp_delivery_directions.proofs.epochs.SplitRuns.{directions_split_as_asked}

turned : (direction : Direction) → direction.beginning.in_turn ≡ true → is_in_turn direction ≡ true
turned direction is = ap (λ (b : Bool). direction.queues.queue.is_interleaved || b) is ∙ or_true direction.queues.queue.is_interleaved
  where
    or_true : (b : Bool) → (b || true) ≡ true
    or_true true = refl
    or_true false = refl

step_turns : (old direction : Direction) (step : DirectionStep old direction) → is_in_turn old ≡ true → EndsInTurn old direction step
step_turns old _ (commits go_on) turn = go_on turn
step_turns old _ (rolls_back unmixed) turn = absurd (let clash : true ≡ false = sym turn ∙ unmixed in cc)
step_turns old _ (performs newest earlier new asks unknown reached own leaves) turn = unknown turn
step_turns old _ (performs_earlier newest earlier new asks unknown reached own leaves) turn = unknown turn
step_turns old _ (resets streams new unmixed some leaves) turn = absurd (let clash : true ≡ false = sym turn ∙ unmixed in cc)
step_turns old _ (queues now sending fits some) turn = tt
step_turns old _ (sets setting fits) turn = tt
step_turns old _ (prepares ids fit dropped) turn = tt
step_turns old _ (flushes e draft answers same no_data allowed) turn = tt
step_turns old _ (resends now room transfer left tsns chunks emission known sends are contents) turn = tt
step_turns old _ (resends_nothing now room transfer left tsns known sends) turn = tt
step_turns old _ (speaks emission no_data) turn = tt
step_turns old _ (asks_again emission begun was contents) turn = tt
step_turns old _ (renews emission newest earlier number asks out contents) turn = tt
step_turns old _ (turns_aside transfer new known same) turn = tt
step_turns old _ (acknowledges now sack transfer new known valid reached does) turn = tt
step_turns old _ (loses now transfer known) turn = tt
step_turns old _ (receives emission chunk theirs new was holds some same same' does) turn = tt
step_turns old _ (forwards emission tsn streams theirs new was holds same same' does) turn = tt
step_turns old _ (receives_interleaved emission chunk theirs new was holds some same same' does) turn = tt
step_turns old _ (forwards_interleaved emission tsn streams theirs new was holds same same' does) turn = tt
step_turns old _ (tracks new cumulative ranges) turn = tt
step_turns old _ (defers last_tsn streams some) turn = tt
step_turns old _ (takes message messages ready) turn = tt

-- An association that hasn't begun asks for nothing.
pub run_turns : (options : Options) (first size : ℕ) (direction : Direction) (run : DirectionRun options first size direction) → direction.beginning.in_turn ≡ true → RunsInTurn options first size direction run
run_turns options first size _ (begins direction begun) turn = tt
run_turns options first size _ (goes_on old direction run step) turn =
    let was : old.beginning.in_turn ≡ true = ap (λ (b : Beginning). b.in_turn) (sym (same_beginning old direction step)) ∙ turn in
    (run_turns options first size old run was, step_turns old direction step (turned old was))
run_turns options first size _ (starts old queued below beginning run awaited fit waits none begun) turn = tt

pub directions_split_in_turn : (options : Options) (first size : ℕ) (direction : Direction) → DirectionRun options first size direction → first < 2 ^ 32 → assigned_count direction < 2 ^ 31 → length direction.queued < 2 ^ 64
    → direction.queues.queue.is_interleaved ≡ false → direction.beginning.from_zero ≡ true → direction.beginning.in_turn ≡ true → AreSplitInTurn direction.beginning.asks direction.performed direction.queued direction.read
directions_split_in_turn options first size direction run small little few unmixed from turn = directions_split_as_asked options first size direction run (run_turns options first size direction run turn) small little few unmixed from
