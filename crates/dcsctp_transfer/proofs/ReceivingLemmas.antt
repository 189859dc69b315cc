-- What comes in, by what the tracker and the reassembly queue do with it.
use Rattle.std.proofs.Common.{◌≡◌, ◌&&◌, not, ℕ, Bool, true, false, List, refl, ap, ◌∙◌, subst}
use Rattle.dcsctp_send_retransmission.specs.types.declared.arrivals.SkippedTo.{SkippedTo}
use Rattle.dcsctp_send_retransmission.specs.spec.queues.Arrivals.{Arrival}
use Rattle.dcsctp_send_retransmission.specs.spec.queues.Reassembly.{ReassemblyState, AddsData, SkipsData}
use Rattle.dcsctp_send_retransmission.specs.spec.queues.Tracker.{TrackerState, is_valid_tsn, is_new_tsn, tracker_after_data, is_forward, after_forward}
use Rattle.dcsctp_send_retransmission.specs.spec.queues.Transfer.{Transfer}
use Rattle.dcsctp_send_retransmission.specs.spec.queues.Retransmission.{RetransmissionState}
use Rattle.dcsctp_send_retransmission.specs.spec.queues.Timeout.{TimeoutState}
use Rattle.dcsctp_send_retransmission.specs.spec.endpoint.TransferMoves.{has_room, AddsIfNew, TakesData, ReceivesIfRoom, ReceivesData, SkipsIfMoved, GoesForward, MovesIfForward, MovesForward}

-- what is shown of a tracker and a queue beside what is sent
abbrev shown : RetransmissionState → TimeoutState → TrackerState → ReassemblyState → Transfer
shown retransmission timeout tracker queue = record { retransmission = retransmission; timeout = timeout; tracker = tracker; reassembly = queue }

receives_where : (b : Bool) (arrived : Arrival) (old new : Transfer) → b ≡ true → TakesData arrived old new → ReceivesIfRoom b arrived old new
receives_where true arrived old new is takes = takes
receives_where false arrived old new is takes = absurd (cc)

moves_where : (b : Bool) (tsn : ℕ) (entries : List SkippedTo) (old new : Transfer) → b ≡ true → GoesForward tsn entries old new → MovesIfForward b tsn entries old new
moves_where true tsn entries old new is goes = goes
moves_where false tsn entries old new is goes = absurd (cc)

adds_where : (b : Bool) (arrived : Arrival) (old new : ReassemblyState) → (b ≡ true → AddsData arrived.tsn arrived.chunk old new) → (b ≡ false → new ≡ old) → AddsIfNew b arrived.tsn arrived.chunk old new
adds_where true arrived old new adds same = adds refl
adds_where false arrived old new adds same = same refl

skips_where : (b : Bool) (tsn : ℕ) (entries : List SkippedTo) (old new : ReassemblyState) → (b ≡ true → SkipsData tsn entries old new) → (b ≡ false → new ≡ old) → SkipsIfMoved b tsn entries old new
skips_where true tsn entries old new skips same = skips refl
skips_where false tsn entries old new skips same = same refl

pub data_received : (retransmission : RetransmissionState) (timeout : TimeoutState) (arrived : Arrival) (is_new : Bool) (old_tracker new_tracker : TrackerState) (old new : ReassemblyState)
    → has_room arrived.tsn (shown retransmission timeout old_tracker old) ≡ true → is_valid_tsn old_tracker.cumulative arrived.tsn ≡ true
    → is_new ≡ is_new_tsn arrived.tsn old_tracker → new_tracker ≡ tracker_after_data arrived.tsn arrived.immediate_ack old_tracker
    → (is_new ≡ true → AddsData arrived.tsn arrived.chunk old new) → (is_new ≡ false → new ≡ old)
    → ReceivesData arrived (shown retransmission timeout old_tracker old) (shown retransmission timeout new_tracker new)
data_received retransmission timeout arrived is_new old_tracker new_tracker old new room valid fresh left adds same =
    let both : (has_room arrived.tsn (shown retransmission timeout old_tracker old) && is_valid_tsn old_tracker.cumulative arrived.tsn) ≡ true =
    ap (λ (b : Bool). b && is_valid_tsn old_tracker.cumulative arrived.tsn) room ∙ valid in
    receives_where _ arrived _ _ both (record {
      reassembly = subst (λ (b : Bool). AddsIfNew b arrived.tsn arrived.chunk old new) fresh (adds_where is_new arrived old new adds same);
      rest = ap (λ (t : TrackerState). shown retransmission timeout t new) left;
    })

pub moved_forward : (retransmission : RetransmissionState) (timeout : TimeoutState) (tsn : ℕ) (entries : List SkippedTo) (goes_on : Bool) (old_tracker new_tracker : TrackerState) (old new : ReassemblyState)
    → is_valid_tsn old_tracker.cumulative tsn ≡ true → goes_on ≡ is_forward old_tracker.cumulative tsn → new_tracker ≡ after_forward tsn old_tracker
    → (goes_on ≡ true → SkipsData tsn entries old new) → (goes_on ≡ false → new ≡ old)
    → MovesForward tsn entries (shown retransmission timeout old_tracker old) (shown retransmission timeout new_tracker new)
moved_forward retransmission timeout tsn entries goes_on old_tracker new_tracker old new valid goes left skips same =
    moves_where _ tsn entries _ _ valid (record {
      reassembly = subst (λ (b : Bool). SkipsIfMoved b tsn entries old new) goes (skips_where goes_on tsn entries old new skips same);
      rest = ap (λ (t : TrackerState). shown retransmission timeout t new) left;
    })
