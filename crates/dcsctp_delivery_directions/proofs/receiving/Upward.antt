-- The cumulative TSN of a receiver never goes back, and a FORWARD-TSN that passes nothing leaves
-- what was received.
use Rattle.std.proofs.Common.{◌≡◌, ◌==◌, ℕ, nat_le, nat_lt, Bool, true, false, ◌≤◌, ◌+◌, ◌-◌, ◌%◌, ◌^◌, cond, List, [], ◌∷◌, sym, ap, arith, subst, length}
use Rattle.std.specs.Prelude.{◌&&◌, if◌then◌else◌}
use Rattle.std.proofs.lemmas.Bool.{cond_both, eqb-true}
use Rattle.std.proofs.lemmas.Bool.Decides.{nat_tests}
use Rattle.dcsctp_spec_lemmas.specs.types.declared.tracking.TsnRange.{TsnRange}
use Rattle.dcsctp_spec_lemmas.specs.spec.queues.Ranges.{is_received, ReceivedTsns, all_to, put_among, reaching, ranges_with_number, forwarded_ranges}
use Rattle.dcsctp_spec_lemmas.specs.types.declared.arrivals.SkippedTo.{SkippedTo}
use Rattle.dcsctp_spec_lemmas.specs.spec.queues.Arrivals.{Arrival}
use Rattle.dcsctp_spec_lemmas.specs.spec.queues.Tracker.{TrackerState, nearest_number, is_forward, is_valid_tsn, moved_forward, delay_over}
use Rattle.dcsctp_spec_lemmas.specs.spec.queues.Transfer.{Transfer}
use Rattle.dcsctp_spec_lemmas.specs.spec.endpoint.TransferMoves.{has_room, dropping, ReceivesIfRoom, SkipsIfMoved, MovesIfForward, ReceivesData, MovesForward}
use Rattle.dcsctp_delivery_directions.specs.sending.Log.{Message, History}
use Rattle.dcsctp_delivery_directions.specs.receiving.Received.{HasReceived, Few}
use Rattle.dcsctp_delivery_directions.proofs.receiving.Taking.{nothing_passed}

-- ---- numbers that are received

abbrev Reaches : ℕ → ReceivedTsns → Type 0
Reaches number left = number ≤ left.cumulative

reaching_up : (number : ℕ) (ranges : List TsnRange) → number ≤ (reaching number ranges).cumulative
reaching_up number [] = omega arith
reaching_up number (range ∷ ranges) =
    cond_both (nat_lt (number + 1) range.first) (all_to number (range ∷ ranges)) (cond (nat_le number range.last) (all_to range.last ranges) (reaching number ranges)) (Reaches number) (λ gap. omega arith)
    (λ no_gap. cond_both (nat_le number range.last) (all_to range.last ranges) (reaching number ranges) (Reaches number) (λ below. grind (arith, nat_tests, below)) (λ above. reaching_up number ranges))

number_up : (number cumulative : ℕ) (ranges : List TsnRange) → cumulative ≤ (ranges_with_number number cumulative ranges).cumulative
number_up number cumulative ranges =
    cond_both (is_received cumulative number ranges) (all_to cumulative ranges) (cond (number == cumulative + 1) (reaching number ranges) (all_to cumulative (put_among number ranges))) (Reaches cumulative) (λ known. omega arith)
    (λ unknown. cond_both (number == cumulative + 1) (reaching number ranges) (all_to cumulative (put_among number ranges)) (Reaches cumulative)
    (λ next. (let up = reaching_up number ranges in let is : number ≡ cumulative + 1 = eqb-true number (cumulative + 1) next in omega (arith, up, is))) (λ later. omega arith))

passed_up : (number cumulative : ℕ) (ranges : List TsnRange) → cumulative ≤ (forwarded_ranges number cumulative ranges).cumulative
passed_up number cumulative ranges =
    cond_both (nat_le number cumulative) (all_to cumulative ranges) (reaching number ranges) (Reaches cumulative) (λ behind. omega arith)
    (λ ahead. (let up = reaching_up number ranges in grind (arith, nat_tests, ahead, up)))

moved_up : (b : Bool) (tsn : ℕ) (tracker : TrackerState) → tracker.cumulative ≤ (if b then moved_forward tsn tracker else delay_over tracker).cumulative
moved_up true tsn tracker = passed_up (nearest_number tracker.cumulative tsn) tracker.cumulative tracker.ranges
moved_up false tsn tracker = omega arith

-- ---- what is received

same_up : (old new : Transfer) → new ≡ old → old.tracker.cumulative ≤ new.tracker.cumulative
same_up old new same = subst (λ (t : Transfer). old.tracker.cumulative ≤ t.tracker.cumulative) (sym same) (omega arith)

dropped_up : (b : Bool) (old new : Transfer) → new ≡ dropping b old → old.tracker.cumulative ≤ new.tracker.cumulative
dropped_up true old new same = same_up (dropping true old) new same
dropped_up false old new same = same_up old new same

pub received_grows : (arrival : Arrival) (old new : Transfer) → ReceivesData arrival old new → old.tracker.cumulative ≤ new.tracker.cumulative
received_grows arrival old new receives = go (has_room arrival.tsn old && is_valid_tsn old.tracker.cumulative arrival.tsn) receives
  where
    go : (b : Bool) → ReceivesIfRoom b arrival old new → old.tracker.cumulative ≤ new.tracker.cumulative
    go true takes =
        subst (λ (t : TrackerState). old.tracker.cumulative ≤ t.cumulative) (sym (ap (λ (t : Transfer). t.tracker) takes.rest))
        (number_up (nearest_number old.tracker.cumulative arrival.tsn) old.tracker.cumulative old.tracker.ranges)
    go false same = dropped_up (old.tracker.follows_rfc && is_valid_tsn old.tracker.cumulative arrival.tsn) old new same

pub forward_grows : (tsn : ℕ) (entries : List SkippedTo) (old new : Transfer) → MovesForward tsn entries old new → old.tracker.cumulative ≤ new.tracker.cumulative
forward_grows tsn entries old new moves = go (is_valid_tsn old.tracker.cumulative tsn) moves
  where
    go : (b : Bool) → MovesIfForward b tsn entries old new → old.tracker.cumulative ≤ new.tracker.cumulative
    go true goes = subst (λ (t : TrackerState). old.tracker.cumulative ≤ t.cumulative) (sym (ap (λ (t : Transfer). t.tracker) goes.rest)) (moved_up (is_forward old.tracker.cumulative tsn) tsn old.tracker)
    go false same = same_up old new same

pub passing_nothing_leaves : (queued : List Message) (history : History) (first : ℕ) → Few history first → (read : List ℕ) (tsn : ℕ) (entries : List SkippedTo) (old new : Transfer) → tsn ≡ (first + 0 + (2 ^ 32 - 1)) % 2 ^ 32
    → HasReceived queued history first read old.tracker old.reassembly → MovesForward tsn entries old new → new.reassembly ≡ old.reassembly
passing_nothing_leaves queued history first f read tsn entries old new is r moves = go (is_valid_tsn old.tracker.cumulative tsn) moves
  where
    none : is_forward old.tracker.cumulative tsn ≡ false
    none = nothing_passed first (length history.log) old.tracker.cumulative tsn f.small f.few r.tracks.reached r.tracks.started is

    go : (b : Bool) → MovesIfForward b tsn entries old new → new.reassembly ≡ old.reassembly
    go true goes = subst (λ (b : Bool). SkipsIfMoved b tsn entries old.reassembly new.reassembly) none goes.reassembly
    go false same = ap (λ (t : Transfer). t.reassembly) same
