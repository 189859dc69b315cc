-- A SHUTDOWN that is received acknowledges, or does what it did before its TSN was used.
use Rattle.std.proofs.Common.{◌≡◌, ℕ, Bool, true, false, ◌&&◌, Option, None, Some, ◌⊎◌, inl, inr, refl}
use Rattle.dcsctp_spec.specs.types.declared.association.Pair.{Pair}
use Rattle.dcsctp_spec.specs.types.declared.association.Held.{Held}
use Rattle.dcsctp_spec.specs.queues.Acknowledging.{is_sack_valid}
use Rattle.dcsctp_spec.specs.queues.Transfer.{Transfer}
use Rattle.dcsctp_spec.specs.endpoint.Endpoint.{Endpoint, Core, closed, cookie_wait, cookie_echoed, open_in, OpenPhase, shutdown_received}
use Rattle.dcsctp_spec.specs.endpoint.Outcome.{Outcome}
use Rattle.dcsctp_spec.specs.endpoint.DataOutcomes.{TakesSackAndFlushes}
use Rattle.dcsctp_spec.specs.endpoint.ShutdownOutcomes.{endpoint_in_phase, shutdown_outcome_by_phase, shutdown_outcome}
use Rattle.dcsctp_spec.specs.endpoint.HeardShutdown.{said_by_shutdown, may_have_sent, acknowledges_by_shutdown, HearsValidShutdown, HearsShutdown, ShutdownTurn, open_association}

-- one that acknowledges
pub record Heeds (e : Endpoint) (core : Core) (tsn : ℕ) (o : Outcome) : Type 0 where
  pub phase : OpenPhase
  pub my : Pair
  pub held : Held
  pub transfer : Transfer
  pub is : core ≡ open_in phase my held
  pub stands : e.queues.transfer ≡ Some transfer
  pub follows : e.options.follow_rfc ≡ true
  pub may : may_have_sent phase ≡ true
  pub valid : is_sack_valid transfer.retransmission tsn ≡ true
  pub acknowledges : TakesSackAndFlushes (endpoint_in_phase e shutdown_received my held) held transfer (said_by_shutdown tsn transfer.retransmission) o

all_three : (a b c : Bool) → a && (b && c) ≡ true → (a ≡ true) × (b ≡ true) × (c ≡ true)
all_three true true true is = (refl, refl, refl)
all_three true true false is = absurd (cc)
all_three true false c is = absurd (cc)
all_three false b c is = absurd (cc)

heard_where : (b : Bool) (e : Endpoint) (phase : OpenPhase) (my : Pair) (held : Held) (transfer : Transfer) (tsn : ℕ) (o : Outcome) → e.queues.transfer ≡ Some transfer
    → acknowledges_by_shutdown e.options phase transfer tsn ≡ b → HearsValidShutdown b e (open_association phase my held) transfer tsn o → (o ≡ shutdown_outcome_by_phase e phase my held) ⊎ Heeds e (open_in phase my held) tsn o
heard_where false e phase my held transfer tsn o stands heeds turn = inl turn
heard_where true e phase my held transfer tsn o stands heeds turn =
    let each = all_three e.options.follow_rfc (may_have_sent phase) (is_sack_valid transfer.retransmission tsn) heeds in
    inr (record { phase = phase; my = my; held = held; transfer = transfer; is = refl; stands = stands; follows = each.0; may = each.1; valid = each.2; acknowledges = turn })

heard_by : (e : Endpoint) (phase : OpenPhase) (my : Pair) (held : Held) (transfer : Option Transfer) (tsn : ℕ) (o : Outcome) → e.queues.transfer ≡ transfer
    → HearsShutdown e phase my held transfer tsn o → (o ≡ shutdown_outcome_by_phase e phase my held) ⊎ Heeds e (open_in phase my held) tsn o
heard_by e phase my held None tsn o stands turn = inl turn
heard_by e phase my held (Some transfer) tsn o stands turn = heard_where (acknowledges_by_shutdown e.options phase transfer tsn) e phase my held transfer tsn o stands refl turn

pub heard : (e : Endpoint) (core : Core) (tsn : ℕ) (o : Outcome) → ShutdownTurn e core tsn o → (o ≡ shutdown_outcome e core) ⊎ Heeds e core tsn o
heard e closed tsn o turn = inl turn
heard e (cookie_wait my) tsn o turn = inl turn
heard e (cookie_echoed my held cookie) tsn o turn = inl turn
heard e (open_in phase my held) tsn o turn = heard_by e phase my held e.queues.transfer tsn o refl turn
