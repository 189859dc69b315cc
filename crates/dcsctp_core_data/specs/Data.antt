-- What the handlers of data do, as turns of a socket's view (RFC 9260, section 6; RFC 3758; RFC 8260).
use Rattle.std.specs.Prelude.{◌≡◌, ℕ, true, Option, Some, Result, List, [], ◌∷◌}
use Rattle.rand_core.specs.Stream.{Stream}
use Rattle.dcsctp_core.specs.wire.Content.{no_user_data}
use Rattle.dcsctp_core.specs.types.declared.association.Held.{Held}
use Rattle.dcsctp_core.specs.spec.Packet.{error_of, plain}
use Rattle.dcsctp_core.specs.spec.queues.Transfer.{Transfer}
use Rattle.dcsctp_core.specs.spec.endpoint.Endpoint.{Endpoint, held_by_core}
use Rattle.dcsctp_core.specs.spec.endpoint.Outcome.{Outcome, still}
use Rattle.dcsctp_core.specs.spec.endpoint.DataOutcomes.{DataTurn, no_user_data_outcome, ForwardTurn, AnswersPacket, AcknowledgesPacket}
use Rattle.dcsctp_core.specs.types.declared.arrivals.SkippedTo.{SkippedTo}
use Rattle.dcsctp_core.specs.spec.queues.Arrivals.{Arrival}
use Rattle.dcsctp_core_data.specs.declared.arrival.DataPart.{DataPart}
use Rattle.dcsctp_core.specs.declared.context.Context.{Context}
use Rattle.dcsctp_core.specs.View.{View, transfer_of}
use Rattle.dcsctp_core.specs.Handling.{TakesOne, sent_to_peer}
use Rattle.dcsctp_core.specs.Below.{is_peer_acknowledgement_due}

-- what a DATA or I-DATA chunk carries, as the machine has it
abbrev pub part_arrival : DataPart → Arrival
part_arrival part =
    record {
      tsn = part.tsn;
      immediate_ack = part.immediate_ack;
      chunk = record {
        stream = part.stream_id.0;
        numbering = part.numbering;
        ppid = part.ppid.0;
        payload = part.payload.now;
        is_beginning = part.is_beginning;
        is_end = part.is_end;
      };
    }

-- This data was received.
abbrev pub ReceivesDataChunk : {R : Type 0} → Arrival → View R → Outcome → Type 0
ReceivesDataChunk arrived view o = DataTurn view.endpoint arrived o

-- If there is a peer, an ERROR is sent to it: its data has no payload.
abbrev pub empty_data_outcome : Endpoint → Option Held → ℕ → Outcome
empty_data_outcome e peer tsn = sent_to_peer e peer (plain (error_of (no_user_data tsn ∷ [])))

abbrev pub empty_data_turn : {R : Type 0} → ℕ → View R → Outcome
empty_data_turn tsn view = empty_data_outcome view.endpoint (held_by_core view.endpoint.core) tsn

-- The error is reported to the user, and then sent to the peer, if it is known.
abbrev pub no_user_data_turn : {R : Type 0} → ℕ → View R → Outcome
no_user_data_turn tsn view = no_user_data_outcome view.endpoint (held_by_core view.endpoint.core) tsn

-- A FORWARD-TSN or I-FORWARD-TSN with this new cumulative TSN was received, which names these messages.
abbrev pub ReceivesForwardTsn : {R : Type 0} → ℕ → List SkippedTo → View R → Outcome → Type 0
ReceivesForwardTsn tsn entries view o = ForwardTurn view.endpoint view.endpoint.queues.transfer tsn entries o

-- All of a packet was handled.
abbrev pub EndsPacket : {R : Type 0} → View R → Outcome → Type 0
EndsPacket view o = AcknowledgesPacket view.endpoint view.endpoint.queues.transfer o

-- What was received is acknowledged at once, if the peer is known.
abbrev pub AnswersData : Endpoint → Option Held → Option Transfer → Outcome → Type 0
AnswersData e (Some held) (Some transfer) o = AnswersPacket e held transfer transfer.tracker o
AnswersData e held transfer o = o ≡ still e

abbrev pub AcknowledgesData : {R : Type 0} → View R → Outcome → Type 0
AcknowledgesData view o = AnswersData view.endpoint (held_by_core view.endpoint.core) view.endpoint.queues.transfer o

-- That is so if an acknowledgement is due.
abbrev pub AcknowledgesIfDue : {R E : Type 0} → (R → Stream) → Context R → Result (Unit {0}) E → Context R → Type 0
AcknowledgesIfDue stream old result new = is_peer_acknowledgement_due (transfer_of old.state) ≡ true → TakesOne stream AcknowledgesData old result new
