-- What the handler of SHUTDOWN does, as turns of a socket's view (RFC 9260, section 9.2).
use Rattle.std.specs.Prelude.{ℕ, ◌-◌, ◌^◌, min, Bool, false, Option, None, Some}
use Rattle.dcsctp_core.specs.spec.queues.Transfer.{Transfer}
use Rattle.dcsctp_core.specs.spec.endpoint.Endpoint.{Endpoint, Core, open_in}
use Rattle.dcsctp_core.specs.spec.endpoint.Outcome.{Outcome}
use Rattle.dcsctp_core.specs.spec.endpoint.HeardShutdown.{may_have_sent, acknowledges_by_shutdown, ShutdownTurn}
use Rattle.dcsctp_core.specs.View.{View}

-- A SHUTDOWN with this cumulative TSN ack was received.
abbrev pub ReceivesShutdown : {R : Type 0} → ℕ → View R → Outcome → Type 0
ReceivesShutdown tsn view o = ShutdownTurn view.endpoint view.endpoint.core tsn o

-- May something be in flight?
abbrev pub may_core_have_sent : Core → Bool
may_core_have_sent (open_in phase my held) = may_have_sent phase
may_core_have_sent core = false

-- Does the TSN acknowledge?
abbrev pub takes_shutdown_tsn : Endpoint → Core → Option Transfer → ℕ → Bool
takes_shutdown_tsn e (open_in phase my held) (Some transfer) tsn = acknowledges_by_shutdown e.options phase transfer tsn
takes_shutdown_tsn e core transfer tsn = false

-- the last window that the peer reported, as the field of a SACK holds it
abbrev pub window_of : Option Transfer → ℕ
window_of None = 0
window_of (Some transfer) = min transfer.retransmission.peer_window (2 ^ 32 - 1)
