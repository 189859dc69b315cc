-- Data that is the next one expected is taken, and data that came before is acknowledged again.
use Rattle.std.proofs.Common.{◌≡◌, ◌≤◌, ◌<◌, ◌+◌, ℕ, nat_lt, nat_le, Bool, true, false, not, ◌&&◌, ◌||◌, Option, None, Some, List, [], ◌∷◌, inl, inr, refl, sym, ap, ◌∙◌, subst, arith, eq-eqb}
use Rattle.std.proofs.lemmas.Bool.Decides.{nat_tests}
use Rattle.dcsctp_spec_lemmas.specs.wire.Content.{data_chunk, i_data_chunk}
use Rattle.dcsctp_spec_lemmas.specs.types.declared.tracking.AckState.{AckState}
use Rattle.dcsctp_spec_lemmas.specs.types.declared.tracking.AckState.TheVariants.{Idle, BecomingDelayed, Delayed, Immediate}
use Rattle.dcsctp_spec_lemmas.specs.types.declared.tracking.TsnRange.{TsnRange}
use Rattle.dcsctp_spec_lemmas.specs.types.declared.ends.Violation.{Violation}
use Rattle.dcsctp_spec_lemmas.specs.spec.Packet.{Plain, plain, unworked}
use Rattle.dcsctp_spec_lemmas.specs.spec.endpoint.DataOutcomes.{HandlesPayload, with_transfer, DataTurn, ReceiveTurn}
use Rattle.dcsctp_spec_lemmas.specs.spec.endpoint.Endpoint.{Endpoint, Core, closed, cookie_wait, cookie_echoed, open_in, is_cookie_echoed}
use Rattle.dcsctp_spec_lemmas.specs.spec.endpoint.Outcome.{Outcome}
use Rattle.dcsctp_spec_lemmas.specs.spec.endpoint.PlainOutcomes.{PlainTurn, PlainTurnUnlessViolating}
use Rattle.dcsctp_spec_lemmas.specs.spec.endpoint.TransferMoves.{fills_gap, has_room, dropping, ReceivesIfRoom, ReceivesData}
use Rattle.dcsctp_spec_lemmas.specs.spec.endpoint.Turn.{comes_early, needs_connection, HandlesUnlessEarly, ContentTurn}
use Rattle.dcsctp_spec_lemmas.specs.spec.queues.Arrivals.{Arrival, data_arrival, i_data_arrival}
use Rattle.dcsctp_spec_lemmas.specs.spec.queues.Ranges.{IsBeyond, is_number_covered, is_received, ranges_with_number}
use Rattle.dcsctp_spec_lemmas.specs.spec.queues.Reassembly.{is_above_watermark, is_below_double, remaining_bytes}
use Rattle.dcsctp_spec_lemmas.specs.spec.queues.Tracker.{TrackerState, highest, nearest_number, greatest_distance, has_numbers_left, is_valid_tsn, has_ranges, has_received, is_urgent, is_new_tsn, after_arrival, is_sack_due, is_first_missing, is_below_highest, tracker_after_data, owes_acknowledgement, is_acknowledgement_due}
use Rattle.dcsctp_spec_lemmas.specs.spec.queues.Transfer.{Transfer}
use Rattle.dcsctp_theorem_transfer.specs.Deadlines.{IsOpen}
use Rattle.dcsctp_theorem_transfer.specs.Taking.{arrival_of_chunk, HasPayload, BringsData, HasRoomForNext, DataIsTaken}
use Rattle.dcsctp_theorem_transfer.proofs.Leaving.{next_reached}

-- ---- the way to the queues

pub open_not_echoed : (core : Core) → IsOpen core → is_cookie_echoed core ≡ false
open_not_echoed closed is = absurd is
open_not_echoed (cookie_wait my) is = absurd is
open_not_echoed (cookie_echoed my held cookie) is = absurd is
open_not_echoed (open_in phase my held) is = refl

never_both : (a b : Bool) → (a && (b && false)) ≡ false
never_both true true = refl
never_both true false = refl
never_both false b = refl

-- No chunk comes early where the association is open.
pub plain_turn : (e : Endpoint) (tag : ℕ) (chunk : Plain) (o : Outcome) → IsOpen e.core → ContentTurn e tag (plain chunk) o → PlainTurn e chunk o
plain_turn e tag chunk o is turn = subst (λ (b : Bool). HandlesUnlessEarly b e tag (plain chunk) o) early turn
  where
    early : comes_early e (plain chunk) ≡ false
    early =
        ap (λ (b : Bool). needs_connection (plain chunk) && (e.options.follow_rfc && b)) (open_not_echoed e.core is)
        ∙ never_both (needs_connection (plain chunk)) e.options.follow_rfc

pub data_turn : (e : Endpoint) (chunk : Plain) (arrival : Arrival) (o : Outcome) → arrival_of_chunk chunk ≡ Some arrival → PlainTurnUnlessViolating e chunk None o → DataTurn e arrival o
data_turn e (unworked (data_chunk chunk)) arrival o brings turn = subst (λ (a : Arrival). DataTurn e a o) (let same : data_arrival chunk ≡ arrival = cc in same) turn
data_turn e (unworked (i_data_chunk chunk)) arrival o brings turn = subst (λ (a : Arrival). DataTurn e a o) (let same : i_data_arrival chunk ≡ arrival = cc in same) turn
data_turn e chunk arrival o brings turn = absurd (cc)

-- what the turn leaves of the queues
pub record Receives (e : Endpoint) (transfer : Transfer) (arrival : Arrival) (after : Endpoint) : Type 0 where
  pub left : Transfer
  pub does : ReceivesData arrival transfer left
  pub is : after ≡ with_transfer e left

received_by : (e : Endpoint) (found : Option Transfer) (transfer : Transfer) (arrival : Arrival) (o : Outcome) → found ≡ Some transfer → ReceiveTurn e found arrival o
    → Receives e transfer arrival o.after
received_by e None transfer arrival o has turn = absurd (cc)
received_by e (Some other) transfer arrival o has turn =
    record {
      left = turn.0;
      does = subst (λ (t : Transfer). ReceivesData arrival t turn.0) (let same : other ≡ transfer = cc in same) turn.1;
      is = ap (λ (x : Outcome). x.after) turn.2;
    }

by_payload : (e : Endpoint) (transfer : Transfer) (arrival : Arrival) (payload : List ℕ) (o : Outcome) → HasPayload payload → e.queues.transfer ≡ Some transfer → HandlesPayload e arrival payload o
    → Receives e transfer arrival o.after
by_payload e transfer arrival [] o bytes has turn = absurd bytes
by_payload e transfer arrival (byte ∷ rest) o bytes has turn = received_by e e.queues.transfer transfer arrival o has turn

pub receives : (e : Endpoint) (transfer : Transfer) (tag : ℕ) (chunk : Plain) (arrival : Arrival) (o : Outcome) → BringsData e transfer chunk arrival → ContentTurn e tag (plain chunk) o
    → Receives e transfer arrival o.after
receives e transfer tag chunk arrival o brings turn =
    by_payload e transfer arrival arrival.chunk.payload o brings.payload brings.has
    (data_turn e chunk arrival o brings.brings
    (subst (λ (violation : Option Violation). PlainTurnUnlessViolating e chunk violation o) brings.negotiated (plain_turn e tag chunk o brings.is_open turn)))

-- ---- room

highest_beyond : (number : ℕ) (ranges : List TsnRange) → IsBeyond number ranges → number ≤ highest number ranges
highest_beyond number [] beyond = omega arith
highest_beyond number (range ∷ ranges) beyond =
    let rest : range.last ≤ highest range.last ranges = highest_beyond range.last ranges beyond.2 in omega (arith, rest, beyond.0, beyond.1)

-- A later TSN was received than the first that is missing.
next_below : (cumulative : ℕ) (ranges : List TsnRange) → has_ranges ranges ≡ true → IsBeyond cumulative ranges → cumulative + 1 < highest cumulative ranges
next_below cumulative [] some beyond = absurd (cc)
next_below cumulative (range ∷ ranges) some beyond =
    let rest : range.last ≤ highest range.last ranges = highest_beyond range.last ranges beyond.2 in omega (arith, rest, beyond.0, beyond.1)

or_true : (a : Bool) → (a || true) ≡ true
or_true true = refl
or_true false = refl

room_for_next : (tsn : ℕ) (transfer : Transfer) → transfer.tracker.follows_rfc ≡ true → IsBeyond transfer.tracker.cumulative transfer.tracker.ranges
    → nearest_number transfer.tracker.cumulative tsn ≡ transfer.tracker.cumulative + 1 → HasRoomForNext transfer → has_room tsn transfer ≡ true
room_for_next tsn transfer follows beyond next (inl below) = ap (λ (b : Bool). not b || (transfer.tracker.follows_rfc && fills_gap tsn transfer)) below
room_for_next tsn transfer follows beyond next (inr (some, double)) =
    let cumulative : ℕ = transfer.tracker.cumulative in
    let later : cumulative + 1 < highest cumulative transfer.tracker.ranges = next_below cumulative transfer.tracker.ranges some beyond in
    let below : is_below_highest tsn transfer.tracker ≡ true =
    ap (λ (n : ℕ). nat_lt n (highest cumulative transfer.tracker.ranges)) next ∙ (let is : nat_lt (cumulative + 1) (highest cumulative transfer.tracker.ranges) ≡ true = grind (arith, nat_tests, later) in is) in
    let first : is_first_missing tsn transfer.tracker ≡ true = eq-eqb (nearest_number cumulative tsn) (cumulative + 1) next in
    let fills : fills_gap tsn transfer ≡ true =
    ap (λ (b : Bool). b && (nat_lt 0 (remaining_bytes transfer.reassembly) || (is_first_missing tsn transfer.tracker && is_below_double transfer.reassembly))) below
    ∙ ap (λ (b : Bool). nat_lt 0 (remaining_bytes transfer.reassembly) || (b && is_below_double transfer.reassembly)) first
    ∙ ap (λ (b : Bool). nat_lt 0 (remaining_bytes transfer.reassembly) || b) double ∙ or_true (nat_lt 0 (remaining_bytes transfer.reassembly)) in
    ap (λ (b : Bool). not (is_above_watermark transfer.reassembly) || (b && fills_gap tsn transfer)) follows
    ∙ ap (λ (b : Bool). not (is_above_watermark transfer.reassembly) || b) fills ∙ or_true (not (is_above_watermark transfer.reassembly))

pub valid_near : (cumulative tsn : ℕ) → has_numbers_left cumulative ≡ true → nearest_number cumulative tsn ≤ cumulative + greatest_distance → is_valid_tsn cumulative tsn ≡ true
valid_near cumulative tsn left near =
    let is : nat_le (nearest_number cumulative tsn) (cumulative + greatest_distance) ≡ true = grind (arith, nat_tests, near) in
    ap (λ (b : Bool). b && nat_le (nearest_number cumulative tsn) (cumulative + greatest_distance)) left ∙ is

-- What was received isn't too far ahead.
received_near : (tracker : TrackerState) (number : ℕ) → ((n : ℕ) → is_number_covered n tracker.ranges ≡ true → n ≤ tracker.cumulative + greatest_distance) → has_received tracker number ≡ true
    → number ≤ tracker.cumulative + greatest_distance
received_near tracker number near received = go (nat_le number tracker.cumulative) refl received
  where
    go : (b : Bool) → nat_le number tracker.cumulative ≡ b → (b || is_number_covered number tracker.ranges) ≡ true → number ≤ tracker.cumulative + greatest_distance
    go true below some = let le : number ≤ tracker.cumulative = grind (arith, nat_tests, below) in omega (arith, le)
    go false above some = near number some

-- ---- what is owed then

arrival_owes : (state : AckState) (urgent : Bool) → is_sack_due (after_arrival state urgent) true ≡ true
arrival_owes Idle true = refl
arrival_owes BecomingDelayed true = refl
arrival_owes Delayed true = refl
arrival_owes Immediate true = refl
arrival_owes Idle false = refl
arrival_owes BecomingDelayed false = refl
arrival_owes Delayed false = refl
arrival_owes Immediate false = refl

urgent_due : (state : AckState) (urgent : Bool) → urgent ≡ true → is_sack_due (after_arrival state urgent) false ≡ true
urgent_due Idle true is = refl
urgent_due BecomingDelayed true is = refl
urgent_due Delayed true is = refl
urgent_due Immediate true is = refl
urgent_due state false is = absurd (cc)

-- ---- the turns

next_is_taken : (arrival : Arrival) (old new : Transfer) → IsBeyond old.tracker.cumulative old.tracker.ranges → nearest_number old.tracker.cumulative arrival.tsn ≡ old.tracker.cumulative + 1
    → (b : Bool) → b ≡ true → ReceivesIfRoom b arrival old new
    → (old.tracker.cumulative + 1 ≤ new.tracker.cumulative) × (owes_acknowledgement new.tracker ≡ true)
next_is_taken arrival old new beyond next false room does = absurd (cc)
next_is_taken arrival old new beyond next true room does =
    let tracker : new.tracker ≡ tracker_after_data arrival.tsn arrival.immediate_ack old.tracker = ap (λ (t : Transfer). t.tracker) does.rest in (
      subst (λ (t : TrackerState). old.tracker.cumulative + 1 ≤ t.cumulative) (sym tracker)
          (next_reached (nearest_number old.tracker.cumulative arrival.tsn) old.tracker.cumulative old.tracker.ranges beyond next),
      ap owes_acknowledgement tracker ∙ arrival_owes old.tracker.acknowledgement _,
    )

-- What came before changes nothing but that it is urgent.
again_stays : (number cumulative : ℕ) (ranges : List TsnRange) → is_received cumulative number ranges ≡ true → (ranges_with_number number cumulative ranges).cumulative ≡ cumulative
again_stays number cumulative ranges received = rw received refl

again_is_urgent : (arrival : Arrival) (old new : Transfer) → old.tracker.follows_rfc ≡ true → is_valid_tsn old.tracker.cumulative arrival.tsn ≡ true
    → has_received old.tracker (nearest_number old.tracker.cumulative arrival.tsn) ≡ true → (b : Bool) → ReceivesIfRoom b arrival old new
    → (new.tracker.cumulative ≡ old.tracker.cumulative) × (is_acknowledgement_due new.tracker ≡ true)
again_is_urgent arrival old new follows valid received true does =
    let tracker : new.tracker ≡ tracker_after_data arrival.tsn arrival.immediate_ack old.tracker = ap (λ (t : Transfer). t.tracker) does.rest in
    let known : is_new_tsn arrival.tsn old.tracker ≡ false = ap not received in
    let ranges : List TsnRange = (ranges_with_number (nearest_number old.tracker.cumulative arrival.tsn) old.tracker.cumulative old.tracker.ranges).ranges in
    let urgent : is_urgent (is_new_tsn arrival.tsn old.tracker) arrival.immediate_ack old.tracker ranges ≡ true = ap (λ (b : Bool). is_urgent b arrival.immediate_ack old.tracker ranges) known in (
      ap (λ (t : TrackerState). t.cumulative) tracker ∙ again_stays (nearest_number old.tracker.cumulative arrival.tsn) old.tracker.cumulative old.tracker.ranges received,
      ap is_acknowledgement_due tracker ∙ urgent_due old.tracker.acknowledgement _ urgent,
    )
again_is_urgent arrival old new follows valid received false does =
    let both : (old.tracker.follows_rfc && is_valid_tsn old.tracker.cumulative arrival.tsn) ≡ true = ap (λ (b : Bool). b && is_valid_tsn old.tracker.cumulative arrival.tsn) follows ∙ valid in
    let is : new ≡ dropping true old = does ∙ ap (λ (b : Bool). dropping b old) both in
    (ap (λ (t : Transfer). t.tracker.cumulative) is, ap (λ (t : Transfer). is_acknowledgement_due t.tracker) is)

pub data_is_taken : DataIsTaken
data_is_taken =
    record {
      next = λ e transfer tag chunk arrival turn is brings number room.
          let got : Receives e transfer arrival turn.outcome.after = receives e transfer tag chunk arrival turn.outcome brings is.comes in
          let near : nearest_number transfer.tracker.cumulative arrival.tsn ≤ transfer.tracker.cumulative + greatest_distance = omega (arith, number) in
          let valid : is_valid_tsn transfer.tracker.cumulative arrival.tsn ≡ true = valid_near transfer.tracker.cumulative arrival.tsn brings.left near in
          let may : (has_room arrival.tsn transfer && is_valid_tsn transfer.tracker.cumulative arrival.tsn) ≡ true =
          ap (λ (b : Bool). b && is_valid_tsn transfer.tracker.cumulative arrival.tsn) (room_for_next arrival.tsn transfer brings.follows brings.tracked.beyond number room) ∙ valid in
          let taken = next_is_taken arrival transfer got.left brings.tracked.beyond number _ may got.does in
          record { left = got.left; has = ap (λ (x : Endpoint). x.queues.transfer) got.is; moved = taken.0; owes = taken.1 };
      again = λ e transfer tag chunk arrival turn is brings received.
          let got : Receives e transfer arrival turn.outcome.after = receives e transfer tag chunk arrival turn.outcome brings is.comes in
          let valid : is_valid_tsn transfer.tracker.cumulative arrival.tsn ≡ true =
          valid_near transfer.tracker.cumulative arrival.tsn brings.left (received_near transfer.tracker _ brings.tracked.near received) in
          let asked = again_is_urgent arrival transfer got.left brings.follows valid received _ got.does in
          record { left = got.left; has = ap (λ (x : Endpoint). x.queues.transfer) got.is; stays = asked.0; due = asked.1 };
    }
