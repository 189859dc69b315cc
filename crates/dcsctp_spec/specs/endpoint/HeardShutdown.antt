-- A SHUTDOWN that is received. By the RFC its cumulative TSN ack acknowledges, as that of a SACK does (RFC 9260, section 9.2).
use Rattle.std.specs.Prelude.{◌≡◌, ℕ, ◌-◌, ◌^◌, min, Bool, true, false, ◌&&◌, Option, None, Some, []}
use Rattle.dcsctp_types.specs.wire.Content.{SackContent}
use Rattle.dcsctp_types.specs.declared.association.Pair.{Pair}
use Rattle.dcsctp_types.specs.declared.association.Held.{Held}
use Rattle.dcsctp_types.specs.declared.options.Options.{Options}
use Rattle.dcsctp_spec.specs.queues.Acknowledging.{is_sack_valid}
use Rattle.dcsctp_spec.specs.queues.Retransmission.{RetransmissionState}
use Rattle.dcsctp_spec.specs.queues.Transfer.{Transfer}
use Rattle.dcsctp_spec.specs.endpoint.Endpoint.{Endpoint, Core, open_in, OpenPhase, established, shutdown_pending, shutdown_sent, shutdown_received, shutdown_ack_sent}
use Rattle.dcsctp_spec.specs.endpoint.Outcome.{Outcome}
use Rattle.dcsctp_spec.specs.endpoint.DataOutcomes.{TakesSackAndFlushes}
use Rattle.dcsctp_spec.specs.endpoint.ShutdownOutcomes.{endpoint_in_phase, shutdown_outcome_by_phase, shutdown_outcome}

-- What it says as a SACK: its cumulative TSN ack, no gap, and the window that was last reported, as the field of a SACK holds it.
abbrev pub said_by_shutdown : ℕ → RetransmissionState → SackContent
said_by_shutdown tsn state = record { cumulative_tsn_ack = tsn; a_rwnd = min state.peer_window (2 ^ 32 - 1); gap_ack_blocks = []; duplicate_tsns = [] }

-- Does the TSN of a SHUTDOWN count in this phase? Once SHUTDOWN or SHUTDOWN ACK was sent, SACKs alone acknowledge.
abbrev pub may_have_sent : OpenPhase → Bool
may_have_sent established = true
may_have_sent shutdown_pending = true
may_have_sent shutdown_sent = false
may_have_sent shutdown_received = true
may_have_sent shutdown_ack_sent = false

-- Does the TSN acknowledge? It doesn't if it is old, or was never sent.
abbrev pub acknowledges_by_shutdown : Options → OpenPhase → Transfer → ℕ → Bool
acknowledges_by_shutdown options phase transfer tsn = options.follow_rfc && (may_have_sent phase && is_sack_valid transfer.retransmission tsn)

-- what a socket knows of an association that it has: its phase, its own pair, and the peer
pub record OpenAssociation : Type 0 where
  pub phase : OpenPhase
  pub my : Pair
  pub held : Held

abbrev pub open_association : OpenPhase → Pair → Held → OpenAssociation
open_association phase my held = record { phase = phase; my = my; held = held }

-- The association is in ShutdownReceived, and what the TSN acknowledges is taken into account there.
abbrev pub HearsValidShutdown : Bool → Endpoint → OpenAssociation → Transfer → ℕ → Outcome → Type 0
HearsValidShutdown true e association transfer tsn o =
    TakesSackAndFlushes (endpoint_in_phase e shutdown_received association.my association.held) association.held transfer
    (said_by_shutdown tsn transfer.retransmission) o
HearsValidShutdown false e association transfer tsn o = o ≡ shutdown_outcome_by_phase e association.phase association.my association.held

abbrev pub HearsShutdown : Endpoint → OpenPhase → Pair → Held → Option Transfer → ℕ → Outcome → Type 0
HearsShutdown e phase my held None tsn o = o ≡ shutdown_outcome_by_phase e phase my held
HearsShutdown e phase my held (Some transfer) tsn o = HearsValidShutdown (acknowledges_by_shutdown e.options phase transfer tsn) e (open_association phase my held) transfer tsn o

-- A SHUTDOWN with this cumulative TSN ack is received.
abbrev pub ShutdownTurn : Endpoint → Core → ℕ → Outcome → Type 0
ShutdownTurn e (open_in phase my held) tsn o = HearsShutdown e phase my held e.queues.transfer tsn o
ShutdownTurn e core tsn o = o ≡ shutdown_outcome e core
