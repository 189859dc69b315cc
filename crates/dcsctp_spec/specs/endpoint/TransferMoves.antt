-- What the transfer layer does with its inputs.
use Rattle.std.specs.Prelude.{◌≡◌, ℕ, nat_lt, Bool, true, false, not, ◌&&◌, ◌||◌, Option, None, Some, is_some, List}
use Rattle.dcsctp_types.specs.wire.CleanBlocks.{blocks_of_bytes, AreCleaned}
use Rattle.dcsctp_types.specs.wire.Content.{SackContent}
use Rattle.dcsctp_types.specs.wire.declared.chunk.sack.GapAckBlock.{GapAckBlock}
use Rattle.dcsctp_types.specs.declared.arrivals.SkippedTo.{SkippedTo}
use Rattle.dcsctp_spec.specs.queues.Acknowledging.{AcknowledgesItems}
use Rattle.dcsctp_spec.specs.queues.Arrivals.{Arrival}
use Rattle.dcsctp_spec.specs.queues.IncomingStreams.{ChunkModel}
use Rattle.dcsctp_spec.specs.queues.Reassembly.{ReassemblyState, is_above_watermark, is_below_double, remaining_bytes, AddsData, SkipsData}
use Rattle.dcsctp_spec.specs.queues.Outstanding.{acknowledged_count}
use Rattle.dcsctp_spec.specs.queues.Retransmission.{RetransmissionState, with_duration, after_expiry}
use Rattle.dcsctp_spec.specs.queues.RoundTrip.{MeasuresRoundTrip}
use Rattle.dcsctp_spec.specs.queues.Timeout.{TimeoutState, timeout_after}
use Rattle.dcsctp_spec.specs.queues.Transfer.{Transfer}
use Rattle.dcsctp_spec.specs.queues.Tracker.{is_new_tsn, tracker_after_data, is_below_highest, is_first_missing, delay_over, is_forward, after_forward, is_valid_tsn, with_timeout}

-- ---- data that is received

-- Data goes to the reassembly queue if its TSN is new.
abbrev pub AddsIfNew : Bool → ℕ → ChunkModel → ReassemblyState → ReassemblyState → Type 0
AddsIfNew true tsn chunk old new = AddsData tsn chunk old new
AddsIfNew false tsn chunk old new = new ≡ old

-- Data was accepted: the tracker observes its TSN, and if that is new, the reassembly queue gets the data as it came.
pub record TakesData (arrival : Arrival) (old new : Transfer) : Type 0 where
  pub reassembly : AddsIfNew (is_new_tsn arrival.tsn old.tracker) arrival.tsn arrival.chunk old.reassembly new.reassembly
  pub rest : new ≡ record old { tracker = tracker_after_data arrival.tsn arrival.immediate_ack old.tracker; reassembly = new.reassembly }

-- Is there room for data of this TSN: is the window not nearly used up? By the RFC data that fills a gap is taken while some of the
-- window is left, and the first that is missing while less than twice the window is held (RFC 9260, section 6.2).
abbrev pub fills_gap : ℕ → Transfer → Bool
fills_gap tsn transfer =
    is_below_highest tsn transfer.tracker
    && (nat_lt 0 (remaining_bytes transfer.reassembly) || (is_first_missing tsn transfer.tracker && is_below_double transfer.reassembly))

abbrev pub has_room : ℕ → Transfer → Bool
has_room tsn transfer = not (is_above_watermark transfer.reassembly) || (transfer.tracker.follows_rfc && fills_gap tsn transfer)

-- Data is dropped. By the RFC it is answered at once if there was no room for it.
abbrev pub dropping : Bool → Transfer → Transfer
dropping true transfer = record transfer { tracker = delay_over transfer.tracker }
dropping false transfer = transfer

-- DATA or I-DATA was received. It is dropped if there is no room for it, or if its TSN is too far ahead (RFC 9260, sections 6.2 and
-- 6.5).
abbrev pub ReceivesIfRoom : Bool → Arrival → Transfer → Transfer → Type 0
ReceivesIfRoom true arrival old new = TakesData arrival old new
ReceivesIfRoom false arrival old new = new ≡ dropping (old.tracker.follows_rfc && is_valid_tsn old.tracker.cumulative arrival.tsn) old

abbrev pub ReceivesData : Arrival → Transfer → Transfer → Type 0
ReceivesData arrival old new = ReceivesIfRoom (has_room arrival.tsn old && is_valid_tsn old.tracker.cumulative arrival.tsn) arrival old new

-- The reassembly queue skips messages if the cumulative TSN moves.
abbrev pub SkipsIfMoved : Bool → ℕ → List SkippedTo → ReassemblyState → ReassemblyState → Type 0
SkipsIfMoved true tsn entries old new = SkipsData tsn entries old new
SkipsIfMoved false tsn entries old new = new ≡ old

-- A FORWARD-TSN was accepted.
pub record GoesForward (tsn : ℕ) (entries : List SkippedTo) (old new : Transfer) : Type 0 where
  pub reassembly : SkipsIfMoved (is_forward old.tracker.cumulative tsn) tsn entries old.reassembly new.reassembly
  pub rest : new ≡ record old { tracker = after_forward tsn old.tracker; reassembly = new.reassembly }

-- FORWARD-TSN or I-FORWARD-TSN with this new cumulative TSN was received, which names these messages (RFC 3758, section 3.6).
abbrev pub MovesIfForward : Bool → ℕ → List SkippedTo → Transfer → Transfer → Type 0
MovesIfForward true tsn entries old new = GoesForward tsn entries old new
MovesIfForward false tsn entries old new = new ≡ old

abbrev pub MovesForward : ℕ → List SkippedTo → Transfer → Transfer → Type 0
MovesForward tsn entries old new = MovesIfForward (is_valid_tsn old.tracker.cumulative tsn) tsn entries old new

-- ---- what is acknowledged

-- A round trip is taken into account, if one was measured: the timeout moves, and so do the retransmission timer's duration and
-- the tracker's timeout (RFC 9260, sections 6.2 and 6.3.1).
abbrev pub timed_transfer : Option ℕ → Transfer → Transfer
timed_transfer None transfer = transfer
timed_transfer (Some round_trip) transfer =
    let timeout : TimeoutState = timeout_after round_trip transfer.timeout in
    record transfer {
      retransmission = with_duration timeout.rto (is_some timeout.variance) transfer.retransmission;
      timeout = timeout;
      tracker = with_timeout timeout.rto transfer.tracker;
    }

-- A SACK was taken into account at this moment (RFC 9260, section 6.2.1).
pub record TakesSack (now : ℕ) (sack : SackContent) (old new : Transfer) : Type 0 where
  -- its blocks in order
  pub blocks : List GapAckBlock
  pub cleaned : AreCleaned (blocks_of_bytes sack.gap_ack_blocks) blocks
  pub left : RetransmissionState
  pub acknowledges : AcknowledgesItems now sack.cumulative_tsn_ack sack.a_rwnd blocks old.retransmission left
  pub round_trip : Option ℕ
  pub measures : MeasuresRoundTrip now (acknowledged_count old.retransmission.outstanding sack.cumulative_tsn_ack) blocks old.retransmission.outstanding.items round_trip
  pub is : new ≡ timed_transfer round_trip (record old { retransmission = left })

-- ---- what is lost

-- The retransmission timer has expired: all that is in flight waits to be sent again (RFC 9260, section 6.3.3).
abbrev pub lost_all : ℕ → Transfer → Transfer
lost_all now transfer = record transfer { retransmission = after_expiry now transfer.retransmission }
