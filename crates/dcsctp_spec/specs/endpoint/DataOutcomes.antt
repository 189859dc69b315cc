-- The turns of data: what is received, what acknowledges it, and what is sent (RFC 9260, section 6; RFC 3758; RFC 8260).
use Rattle.std.specs.Prelude.{◌≡◌, ℕ, ◌/◌, min, nat_le, nat_lt, Bool, true, false, ◌&&◌, ◌||◌, Option, None, Some, List, [], ◌∷◌, ◌++◌, codes, if◌then◌else◌}
use Rattle.std.specs.List.{AllByRecursion}
use Rattle.dcsctp_types.specs.wire.Content.{SackContent, no_user_data}
use Rattle.dcsctp_types.specs.declared.association.Held.{Held}
use Rattle.dcsctp_types.specs.declared.options.Options.{Options}
use Rattle.dcsctp_types.specs.Settings.{packet_size_limit}
use Rattle.dcsctp_types.specs.declared.kinds.ErrorKind.TheVariants.{ProtocolViolation, NotConnected}
use Rattle.dcsctp_spec.specs.endpoint.Event.{error}
use Rattle.dcsctp_spec.specs.Packet.{Plain, error_of, plain, Emission}
use Rattle.dcsctp_types.specs.queues.Messages.{MessageContent}
use Rattle.dcsctp_types.specs.declared.arrivals.SkippedTo.{SkippedTo}
use Rattle.dcsctp_spec.specs.queues.Arrivals.{Arrival}
use Rattle.dcsctp_spec.specs.queues.Reassembly.{with_ready}
use Rattle.dcsctp_spec.specs.queues.Acknowledging.{is_sack_valid, has_acknowledged, delivered_up_to}
use Rattle.dcsctp_spec.specs.queues.AtOnce.{SendsAtOnce}
use Rattle.dcsctp_spec.specs.queues.Chunks.{AreChunksOfTsns}
use Rattle.dcsctp_spec.specs.queues.Retransmission.{RetransmissionState, has_fast_retransmit}
use Rattle.dcsctp_spec.specs.queues.Transfer.{Transfer, advertised_window}
use Rattle.dcsctp_spec.specs.queues.Tracker.{TrackerState, after_packet_end, is_acknowledgement_due, tracker_after_sack, delay_over, hastened_tracker}
use Rattle.dcsctp_spec.specs.endpoint.Endpoint.{Endpoint, held_by_core}
use Rattle.dcsctp_spec.specs.endpoint.Outcome.{Outcome, still, reports, emits, behind, to_peer}
use Rattle.dcsctp_spec.specs.association.Choices.{plain_contents}
use Rattle.dcsctp_spec.specs.endpoint.FlushOutcomes.{Answer, goes_out, draft_to, flush_of, room_of_draft, where_fits, IsWithinMtu, own_sack, FitsPlain, filled_draft, FlushAnswers}
use Rattle.dcsctp_spec.specs.endpoint.HeartbeatOutcomes.{error_counted}
use Rattle.dcsctp_spec.specs.endpoint.ShutdownOutcomes.{step_outcome}
use Rattle.dcsctp_spec.specs.endpoint.TransferMoves.{ReceivesData, MovesForward, TakesSack, lost_all}

-- with this below its association
abbrev pub with_transfer : Endpoint → Transfer → Endpoint
with_transfer e transfer = record e { queues = record e.queues { transfer = Some transfer } }

abbrev pub endpoint_with_tracker : Endpoint → Transfer → TrackerState → Endpoint
endpoint_with_tracker e transfer tracker = with_transfer e (record transfer { tracker = tracker })

-- ---- a flush by itself

-- What waits is sent to the peer.
abbrev pub flush_to_peer : Endpoint → Option Held → List Answer → Outcome
flush_to_peer e None answers = still e
flush_to_peer e (Some held) answers = flush_of e (draft_to held) answers

abbrev pub AnswersTo : Endpoint → Option Held → List Answer → Type 0
AnswersTo e None answers = answers ≡ []
AnswersTo e (Some held) answers = FlushAnswers e (draft_to held) answers

abbrev pub FlushTurn : Endpoint → Outcome → Type 0
FlushTurn e o = (answers : List Answer) × AnswersTo e (held_by_core e.core) answers × (o ≡ flush_to_peer e (held_by_core e.core) answers)

-- ---- DATA and I-DATA

abbrev pub no_user_data_text : List ℕ
no_user_data_text = codes "Received DATA chunk with no user data"

abbrev pub not_connected_text : List ℕ
not_connected_text = codes "Received unexpected commands on socket that is not connected"

-- Data without a payload is reported to the user, and to the peer, if it is known, with the cause No User Data (RFC 9260, section
-- 3.3.10.9).
abbrev pub no_user_data_outcome : Endpoint → Option Held → ℕ → Outcome
no_user_data_outcome e None tsn = reports e ProtocolViolation no_user_data_text
no_user_data_outcome e (Some held) tsn =
    behind [] (error ProtocolViolation no_user_data_text ∷ []) (emits e [] (to_peer held (plain (error_of (no_user_data tsn ∷ [])))))

abbrev pub ReceiveTurn : Endpoint → Option Transfer → Arrival → Outcome → Type 0
ReceiveTurn e None arrival o = o ≡ reports e NotConnected not_connected_text
ReceiveTurn e (Some transfer) arrival o = (left : Transfer) × ReceivesData arrival transfer left × (o ≡ still (with_transfer e left))

-- by its payload
abbrev pub HandlesPayload : Endpoint → Arrival → List ℕ → Outcome → Type 0
HandlesPayload e arrival [] o = o ≡ no_user_data_outcome e (held_by_core e.core) arrival.tsn
HandlesPayload e arrival (byte ∷ bytes) o = ReceiveTurn e e.queues.transfer arrival o

-- DATA or I-DATA is received.
abbrev pub DataTurn : Endpoint → Arrival → Outcome → Type 0
DataTurn e arrival o = HandlesPayload e arrival arrival.chunk.payload o

-- ---- FORWARD-TSN and I-FORWARD-TSN

abbrev pub ForwardTurn : Endpoint → Option Transfer → ℕ → List SkippedTo → Outcome → Type 0
ForwardTurn e None tsn entries o = o ≡ still e
ForwardTurn e (Some transfer) tsn entries o = (left : Transfer) × MovesForward tsn entries transfer left × (o ≡ still (with_transfer e left))

-- ---- SACK

abbrev pub no_tcb_text : List ℕ
no_tcb_text = codes "No TCB"

-- A packet of lost items, whatever the congestion window is: as many as fit (RFC 9260, section 7.2.4).
pub record SendsLost (e : Endpoint) (held : Held) (transfer : Transfer) (o : Outcome) : Type 0 where
  pub left : RetransmissionState
  pub tsns : List ℕ
  pub sends : SendsAtOnce e.moment (room_of_draft e (draft_to held)) e.queues.queue transfer.retransmission left tsns
  pub chunks : List Plain
  pub are : AreChunksOfTsns left.outstanding tsns chunks
  pub fit : AllByRecursion FitsPlain chunks
  pub within : IsWithinMtu e (draft_to held) → IsWithinMtu e (filled_draft (draft_to held) (plain_contents chunks))
  pub is : o
      ≡ goes_out (with_transfer e (record transfer { retransmission = left })) [] (draft_to held).with_checksum (draft_to held).packet.tag (plain_contents chunks)

-- One is sent if it waits.
abbrev pub FastRetransmits : Bool → Endpoint → Held → Transfer → Outcome → Type 0
FastRetransmits false e held transfer o = o ≡ still e
FastRetransmits true e held transfer o = SendsLost e held transfer o

-- By the RFC an answer to a probe of a closed window counts too (RFC 9260, section 6.1, rule A): a window smaller than a packet.
abbrev pub counts_as_probe_answer : Options → ℕ → Bool
counts_as_probe_answer options window = options.follow_rfc && nat_lt window (packet_size_limit options)

-- Does a SACK show that the peer is there? It does if it acknowledges something, or answers a probe.
abbrev pub shows_peer : Options → Transfer → Transfer → Bool
shows_peer options old new = has_acknowledged old.retransmission new.retransmission || counts_as_probe_answer options new.retransmission.peer_window

-- the endpoint once a SACK was taken into account: if it shows that the peer is there, no error counts
abbrev pub sack_taken : Endpoint → Transfer → Transfer → Endpoint
sack_taken e old new =
    record (with_transfer e new) { error_count = if shows_peer e.options old new then 0 else e.error_count }

-- A SACK is taken into account. A shutdown under way may continue then, a fast retransmission may follow, and then a flush.
pub record TakesSackAndFlushes (e : Endpoint) (held : Held) (transfer : Transfer) (sack : SackContent) (o : Outcome) : Type 0 where
  pub left : Transfer
  pub takes : TakesSack e.moment sack transfer left
  pub stepped : Outcome
  pub steps : stepped ≡ step_outcome (sack_taken e transfer left) e.core
  pub fast : Outcome
  pub resends : FastRetransmits (has_fast_retransmit left.retransmission) stepped.after held left fast
  pub answers : List Answer
  pub allowed : FlushAnswers fast.after (draft_to held) answers
  pub is : o ≡ behind [] (delivered_up_to sack.cumulative_tsn_ack transfer.retransmission ++ (stepped.events ++ fast.events)) (flush_of fast.after (draft_to held) answers)

abbrev pub HandlesSackIfValid : Bool → Endpoint → Held → Transfer → SackContent → Outcome → Type 0
HandlesSackIfValid false e held transfer sack o = o ≡ still e
HandlesSackIfValid true e held transfer sack o = TakesSackAndFlushes e held transfer sack o

abbrev pub HandlesSackIfConnected : Endpoint → Option Held → Transfer → SackContent → Outcome → Type 0
HandlesSackIfConnected e None transfer sack o = o ≡ still e
HandlesSackIfConnected e (Some held) transfer sack o = HandlesSackIfValid (is_sack_valid transfer.retransmission sack.cumulative_tsn_ack) e held transfer sack o

-- A SACK is received.
abbrev pub SackTurn : Endpoint → Option Transfer → SackContent → Outcome → Type 0
SackTurn e None sack o = o ≡ reports e NotConnected no_tcb_text
SackTurn e (Some transfer) sack o = HandlesSackIfConnected e (held_by_core e.core) transfer sack o

-- ---- the end of a packet

-- a packet to the peer that begins with this SACK, if it fits
abbrev pub acknowledging : Endpoint → Held → Plain → Emission
acknowledging e held sack = filled_draft (draft_to held) (plain_contents (where_fits (room_of_draft e (draft_to held)) sack))

-- Its data is acknowledged at once: a flush that begins with a SACK, if that fits.
pub record AnswersPacket (e : Endpoint) (held : Held) (transfer : Transfer) (tracker : TrackerState) (o : Outcome) : Type 0 where
  pub answers : List Answer
  pub allowed : FlushAnswers (endpoint_with_tracker e transfer (tracker_after_sack tracker)) (acknowledging e held (own_sack (room_of_draft e (draft_to held)) (record transfer { tracker = tracker }))) answers
  pub is : o ≡ flush_of (endpoint_with_tracker e transfer (tracker_after_sack tracker)) (acknowledging e held (own_sack (room_of_draft e (draft_to held)) (record transfer { tracker = tracker }))) answers

abbrev pub AnswersPacketIfDue : Bool → Endpoint → Option Held → Transfer → TrackerState → Outcome → Type 0
AnswersPacketIfDue true e (Some held) transfer tracker o = AnswersPacket e held transfer tracker o
AnswersPacketIfDue true e None transfer tracker o = o ≡ still (endpoint_with_tracker e transfer tracker)
AnswersPacketIfDue false e held transfer tracker o = o ≡ still (endpoint_with_tracker e transfer tracker)

-- All of a packet was handled: its data is acknowledged now or after a delay (RFC 9260, section 6.2).
abbrev pub AcknowledgesPacket : Endpoint → Option Transfer → Outcome → Type 0
AcknowledgesPacket e None o = o ≡ still e
AcknowledgesPacket e (Some transfer) o =
    let tracker = after_packet_end e.moment transfer.tracker in AnswersPacketIfDue (is_acknowledgement_due tracker) e (held_by_core e.core) transfer tracker o

-- ---- what the user takes

-- The messages that can be taken: those that are ready in the association. If there is none, those that the last one left.
abbrev pub ready_or_left : List MessageContent → Option Transfer → List MessageContent
ready_or_left left None = left
ready_or_left left (Some transfer) = transfer.reassembly.incoming.ready

-- the window that is worth a report: a packet, or half of all if that is less
abbrev pub open_window : Options → ℕ
open_window options = min (packet_size_limit options) (options.max_receiver_window_buffer_size / 2)

-- Does the window that a SACK reports open? By the RFC the peer is informed then (RFC 9260, section 6.2).
abbrev pub opens_window : Options → Transfer → Transfer → Bool
opens_window options old new =
    old.tracker.follows_rfc && (nat_lt (advertised_window old) (open_window options) && nat_le (open_window options) (advertised_window new))

-- An acknowledgement is due at this moment if the window opens.
abbrev pub hastened_where_open : Bool → ℕ → Transfer → Transfer
hastened_where_open true moment transfer = record transfer { tracker = hastened_tracker moment transfer.tracker }
hastened_where_open false moment transfer = transfer

-- with these messages ready
abbrev pub with_messages : List MessageContent → Transfer → Transfer
with_messages messages transfer = record transfer { reassembly = with_ready messages transfer.reassembly }

-- once a message was taken, and these are left
abbrev pub taken_to : Options → ℕ → List MessageContent → Transfer → Transfer
taken_to options moment messages transfer = hastened_where_open (opens_window options transfer (with_messages messages transfer)) moment (with_messages messages transfer)

-- The first message that is ready is taken. Its bytes count no more.
abbrev pub TakesFirstReady : Endpoint → Transfer → List MessageContent → Outcome → Type 0
TakesFirstReady e transfer [] o = o ≡ still e
TakesFirstReady e transfer (message ∷ messages) o = o ≡ still (with_transfer e (taken_to e.options e.moment messages transfer))

-- It is the first of those that the last association left.
abbrev pub TakeLeft : Endpoint → List MessageContent → Outcome → Type 0
TakeLeft e [] o = o ≡ still e
TakeLeft e (message ∷ messages) o = o ≡ still (record e { left = messages })

-- The first message that can be taken is taken.
abbrev pub TakeTurn : Endpoint → Option Transfer → Outcome → Type 0
TakeTurn e None o = TakeLeft e e.left o
TakeTurn e (Some transfer) o = TakesFirstReady e transfer transfer.reassembly.incoming.ready o

-- ---- timers

-- The delay of an acknowledgement is over: it is due.
abbrev pub delay_outcome : Endpoint → Option Transfer → Outcome
delay_outcome e None = still e
delay_outcome e (Some transfer) = still (endpoint_with_tracker e transfer (delay_over transfer.tracker))

-- What is in flight is lost: an error is counted, and it is sent again in the flush after the timers (RFC 9260, section 6.3.3).
abbrev pub LossTurn : Endpoint → Option Transfer → Outcome → Type 0
LossTurn e None o = o ≡ still e
LossTurn e (Some transfer) o =
    o ≡ still (record (with_transfer e (lost_all e.moment transfer)) { error_count = error_counted e.options.max_retransmissions e.error_count })
