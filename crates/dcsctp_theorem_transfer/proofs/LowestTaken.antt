-- The chunk of the lowest outstanding TSN is taken, or came before.
use Rattle.std.proofs.Common.{◌≡◌, ◌≤◌, ◌<◌, ◌+◌, ◌%◌, ◌^◌, ℕ, nat_le, Bool, true, false, Option, Some, List, [], ◌∷◌, length, map, refl, sym, ap, ◌∙◌, subst, arith}
use Rattle.std.proofs.lemmas.Bool.Decides.{nat_tests}
use Rattle.dcsctp_spec_lemmas.specs.spec.Packet.{plain, unworked}
use Rattle.dcsctp_spec_lemmas.specs.spec.endpoint.CallTurns.{Transition, IsTurn}
use Rattle.dcsctp_spec_lemmas.specs.spec.endpoint.Endpoint.{Endpoint, Core}
use Rattle.dcsctp_spec_lemmas.specs.spec.endpoint.PlainOutcomes.{violation_by_core}
use Rattle.dcsctp_spec_lemmas.specs.spec.endpoint.Turn.{chunk_input}
use Rattle.dcsctp_spec_lemmas.specs.spec.queues.Arrivals.{Arrival}
use Rattle.dcsctp_spec_lemmas.specs.spec.queues.Chunks.{byte_field, chunk_said}
use Rattle.dcsctp_spec_lemmas.specs.spec.queues.Outstanding.{OutstandingState}
use Rattle.dcsctp_spec_lemmas.specs.spec.queues.Sending.{Fragment}
use Rattle.dcsctp_spec_lemmas.specs.spec.queues.Tracker.{TrackerState, nearest_number, has_numbers_left, greatest_distance}
use Rattle.dcsctp_spec_lemmas.specs.spec.queues.Transfer.{Transfer}
use Rattle.dcsctp_theorem_transfer.specs.Deadlines.{IsOpen}
use Rattle.dcsctp_theorem_transfer.specs.Recovering.{AwaitsData}
use Rattle.dcsctp_theorem_transfer.specs.Taking.{HasPayload, BringsData, HasTakenNext}
use Rattle.dcsctp_theorem_transfer.proofs.Observing.{HasJustCome, HasReceivedBelow}
use Rattle.dcsctp_theorem_transfer.proofs.Arriving.{said_arrival, said_brings, said_tsn, said_payload, form_allowed, IsReceiving, HasCome}
use Rattle.dcsctp_theorem_transfer.proofs.Taking.{valid_near, data_is_taken}

-- ---- the receiver

-- What is outstanding at the sender once its flush is over, and what the receiver has of it.
pub record Meets (outstanding : OutstandingState) (t : Transfer) : Type 0 where
  pub number : ℕ
  pub is : number % 2 ^ 32 ≡ outstanding.first_tsn
  pub before : number ≤ t.tracker.cumulative + 1
  pub below : HasReceivedBelow (number + length outstanding.items) t.tracker
  pub few : length outstanding.items < 2 ^ 31
  pub left : has_numbers_left t.tracker.cumulative ≡ true

bytes_said : (kind : Bool) (tsn : ℕ) (part : Fragment) → HasPayload part.payload → HasPayload (said_arrival kind tsn part).chunk.payload
bytes_said kind tsn part bytes = subst HasPayload (sym (said_payload kind tsn part)) (go part.payload bytes)
  where
    go : (payload : List ℕ) → HasPayload payload → HasPayload (map byte_field payload)
    go [] some = some
    go (byte ∷ payload) some = tt

-- The chunk of the lowest TSN has come.
pub record LowestCame (number : ℕ) (tracker : TrackerState) : Type 0 where
  pub reached : number ≤ tracker.cumulative
  pub comes : HasJustCome tracker.acknowledgement

pub receiving : (outstanding : OutstandingState) (b : Endpoint) (t : Transfer) → AwaitsData b t outstanding.is_interleaved → (meets : Meets outstanding t)
    → IsReceiving outstanding.is_interleaved (meets.number + length outstanding.items) b t
receiving outstanding b t awaits meets =
    record {
      my = awaits.my;
      held = awaits.held;
      phase = awaits.phase;
      form = awaits.form;
      has = awaits.has;
      follows = awaits.follows;
      tracked = awaits.tracked;
      below = meets.below;
    }

-- what data of the lowest TSN brings
brings_lowest : (outstanding : OutstandingState) (b : Endpoint) (t : Transfer) (tsn : ℕ) (part : Fragment) → AwaitsData b t outstanding.is_interleaved → Meets outstanding t → HasPayload part.payload
    → BringsData b t (unworked (chunk_said outstanding.is_interleaved tsn part)) (said_arrival outstanding.is_interleaved tsn part)
brings_lowest outstanding b t tsn part awaits meets bytes =
    record {
      is_open = subst IsOpen (sym awaits.phase) tt;
      has = awaits.has;
      follows = awaits.follows;
      tracked = awaits.tracked;
      left = meets.left;
      brings = said_brings outstanding.is_interleaved tsn part;
      negotiated = ap (λ (c : Core). violation_by_core c (unworked (chunk_said outstanding.is_interleaved tsn part))) awaits.phase
          ∙ form_allowed outstanding.is_interleaved tsn part awaits.my awaits.held awaits.form;
      payload = bytes_said outstanding.is_interleaved tsn part bytes;
    }

same_left : (found : Option Transfer) (one other : Transfer) → found ≡ Some one → found ≡ Some other → one ≡ other
same_left found one other a b = let both : Some one ≡ Some other = sym a ∙ b in cc

-- It is the next one, and is taken, or it came before.
lowest_reached : (outstanding : OutstandingState) (b : Endpoint) (t : Transfer) (tag tsn : ℕ) (part : Fragment) (turn : Transition) (awaits : AwaitsData b t outstanding.is_interleaved) (meets : Meets outstanding t)
    → HasPayload part.payload → nearest_number t.tracker.cumulative (tsn % 2 ^ 32) ≡ meets.number → IsTurn b (chunk_input tag (plain (unworked (chunk_said outstanding.is_interleaved tsn part)))) turn
    → (come : HasCome (meets.number + length outstanding.items) (said_arrival outstanding.is_interleaved tsn part) b t turn.outcome) → meets.number ≤ come.left.tracker.cumulative
lowest_reached outstanding b t tag tsn part turn awaits meets bytes here is come = go (nat_le meets.number t.tracker.cumulative) refl
  where
    near : nearest_number t.tracker.cumulative (said_arrival outstanding.is_interleaved tsn part).tsn ≡ meets.number
    near = ap (nearest_number t.tracker.cumulative) (said_tsn outstanding.is_interleaved tsn part) ∙ here

    go : (known : Bool) → nat_le meets.number t.tracker.cumulative ≡ known → meets.number ≤ come.left.tracker.cumulative
    go true up = let le : meets.number ≤ t.tracker.cumulative = grind (arith, nat_tests, up) in let on = come.follows.on in omega (arith, le, on)
    go false above =
        let lt : t.tracker.cumulative < meets.number = grind (arith, nat_tests, above) in
        let before = meets.before in
        let next : meets.number ≡ t.tracker.cumulative + 1 = omega (arith, lt, before) in
        let taken : HasTakenNext t turn.outcome.after =
        data_is_taken.next b t tag (unworked (chunk_said outstanding.is_interleaved tsn part)) (said_arrival outstanding.is_interleaved tsn part) turn is (brings_lowest outstanding b t tsn part awaits meets bytes)
        (near ∙ next) awaits.room in
        let moved : t.tracker.cumulative + 1 ≤ come.left.tracker.cumulative =
        subst (λ (x : Transfer). t.tracker.cumulative + 1 ≤ x.tracker.cumulative) (same_left turn.outcome.after.queues.transfer taken.left come.left taken.has come.has) taken.moved in
        omega (arith, next, moved)

pub lowest_came : (outstanding : OutstandingState) (b : Endpoint) (t : Transfer) (tag tsn : ℕ) (part : Fragment) (turn : Transition) (awaits : AwaitsData b t outstanding.is_interleaved) (meets : Meets outstanding t)
    → HasPayload part.payload → nearest_number t.tracker.cumulative (tsn % 2 ^ 32) ≡ meets.number → IsTurn b (chunk_input tag (plain (unworked (chunk_said outstanding.is_interleaved tsn part)))) turn
    → (come : HasCome (meets.number + length outstanding.items) (said_arrival outstanding.is_interleaved tsn part) b t turn.outcome) → LowestCame meets.number come.left.tracker
lowest_came outstanding b t tag tsn part turn awaits meets bytes here is come =
    let arrival : Arrival = said_arrival outstanding.is_interleaved tsn part in
    let near : nearest_number t.tracker.cumulative arrival.tsn ≡ meets.number = ap (nearest_number t.tracker.cumulative) (said_tsn outstanding.is_interleaved tsn part) ∙ here in
    let before = meets.before in
    let close : nearest_number t.tracker.cumulative arrival.tsn ≤ t.tracker.cumulative + greatest_distance = omega (arith, near, before) in
    record {
      reached = lowest_reached outstanding b t tag tsn part turn awaits meets bytes here is come;
      comes = come.comes (valid_near t.tracker.cumulative arrival.tsn meets.left close) (bytes_said outstanding.is_interleaved tsn part bytes);
    }
