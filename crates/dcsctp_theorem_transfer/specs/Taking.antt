-- Data that is the next one expected is taken, and data that came before is acknowledged again (RFC 9260, section 6.2).
use Rattle.std.specs.Prelude.{◌≡◌, ◌≤◌, ◌+◌, ◌⊎◌, ℕ, true, false, Option, None, Some, List, [], ◌∷◌}
use Rattle.dcsctp_spec_lemmas.specs.wire.Content.{data_chunk, i_data_chunk}
use Rattle.dcsctp_spec_lemmas.specs.spec.Packet.{Plain, plain, unworked}
use Rattle.dcsctp_spec_lemmas.specs.spec.endpoint.CallTurns.{Transition, IsTurn}
use Rattle.dcsctp_spec_lemmas.specs.spec.endpoint.Endpoint.{Endpoint}
use Rattle.dcsctp_spec_lemmas.specs.spec.endpoint.PlainOutcomes.{violation_by_core}
use Rattle.dcsctp_spec_lemmas.specs.spec.endpoint.Turn.{chunk_input}
use Rattle.dcsctp_spec_lemmas.specs.spec.queues.Arrivals.{Arrival, data_arrival, i_data_arrival}
use Rattle.dcsctp_spec_lemmas.specs.spec.queues.Reassembly.{is_above_watermark, is_below_double}
use Rattle.dcsctp_spec_lemmas.specs.spec.queues.Tracker.{nearest_number, has_numbers_left, has_ranges, has_received, owes_acknowledgement, is_acknowledgement_due}
use Rattle.dcsctp_spec_lemmas.specs.spec.queues.Transfer.{Transfer}
use Rattle.dcsctp_spec_laws.specs.SackLaws.{IsTracked}
use Rattle.dcsctp_theorem_transfer.specs.Deadlines.{IsOpen}

-- what DATA or I-DATA brings
abbrev pub arrival_of_chunk : Plain → Option Arrival
arrival_of_chunk (unworked (data_chunk chunk)) = Some (data_arrival chunk)
arrival_of_chunk (unworked (i_data_chunk chunk)) = Some (i_data_arrival chunk)
arrival_of_chunk chunk = None

abbrev pub HasPayload : List ℕ → Type 0
HasPayload [] = ⊥
HasPayload (byte ∷ bytes) = Unit {0}

-- The chunk brings this data, with a payload and in the form that was negotiated, to an open association that follows the RFCs. What
-- that received is a set of TSNs, and it has numbers left.
pub record BringsData (e : Endpoint) (transfer : Transfer) (chunk : Plain) (arrival : Arrival) : Type 0 where
  pub is_open : IsOpen e.core
  pub has : e.queues.transfer ≡ Some transfer
  pub follows : transfer.tracker.follows_rfc ≡ true
  pub tracked : IsTracked transfer.tracker
  pub left : has_numbers_left transfer.tracker.cumulative ≡ true
  pub brings : arrival_of_chunk chunk ≡ Some arrival
  pub negotiated : violation_by_core e.core chunk ≡ None
  pub payload : HasPayload arrival.chunk.payload

-- There is room for the first TSN that is missing: less than nine tenths of the receive window is in use. Or a later TSN was
-- received, and less than twice the window is in use.
abbrev pub HasRoomForNext : Transfer → Type 0
HasRoomForNext transfer =
    (is_above_watermark transfer.reassembly ≡ false) ⊎ (has_ranges transfer.tracker.ranges ≡ true) × (is_below_double transfer.reassembly ≡ true)

-- The cumulative TSN has come to the first one that was missing, and an acknowledgement is owed.
pub record HasTakenNext (old : Transfer) (after : Endpoint) : Type 0 where
  pub left : Transfer
  pub has : after.queues.transfer ≡ Some left
  pub moved : old.tracker.cumulative + 1 ≤ left.tracker.cumulative
  pub owes : owes_acknowledgement left.tracker ≡ true

-- The cumulative TSN stays, and a SACK is due at once.
pub record IsAskedAgain (old : Transfer) (after : Endpoint) : Type 0 where
  pub left : Transfer
  pub has : after.queues.transfer ≡ Some left
  pub stays : left.tracker.cumulative ≡ old.tracker.cumulative
  pub due : is_acknowledgement_due left.tracker ≡ true

-- So it is of each turn that brings data: of the next TSN, where there is room; and of one that came before, in any case.
pub record DataIsTaken : Type 0 where
  pub next : (e : Endpoint) (transfer : Transfer) (tag : ℕ) (chunk : Plain) (arrival : Arrival) (turn : Transition) → IsTurn e (chunk_input tag (plain chunk)) turn
      → BringsData e transfer chunk arrival → nearest_number transfer.tracker.cumulative arrival.tsn ≡ transfer.tracker.cumulative + 1 → HasRoomForNext transfer
      → HasTakenNext transfer turn.outcome.after
  pub again : (e : Endpoint) (transfer : Transfer) (tag : ℕ) (chunk : Plain) (arrival : Arrival) (turn : Transition) → IsTurn e (chunk_input tag (plain chunk)) turn
      → BringsData e transfer chunk arrival → has_received transfer.tracker (nearest_number transfer.tracker.cumulative arrival.tsn) ≡ true
      → IsAskedAgain transfer turn.outcome.after
