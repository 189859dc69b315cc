-- A SHUTDOWN that acknowledges does all that a SACK does (RFC 9260, section 9.2). So what is true
-- of the turn of a SACK is true of its turn: numbers that fit, sizes, how many packets, and T1.
use Rattle.std.proofs.Common.{◌≤◌, ◌+◌, ℕ, Bool, true, false, cond, inl, inr, sym, subst, arith}
use Rattle.dcsctp_spec_lemmas.specs.types.declared.association.Pair.{Pair}
use Rattle.dcsctp_spec_lemmas.specs.types.declared.association.Held.{Held}
use Rattle.dcsctp_spec_lemmas.specs.spec.Packet.{shutdown}
use Rattle.dcsctp_spec_lemmas.specs.spec.endpoint.Endpoint.{Endpoint, open_in, shutdown_received}
use Rattle.dcsctp_spec_lemmas.specs.spec.endpoint.Outcome.{Outcome}
use Rattle.dcsctp_spec_lemmas.specs.spec.endpoint.HeardShutdown.{said_by_shutdown, ShutdownTurn}
use Rattle.dcsctp_spec_lemmas.specs.spec.endpoint.ShutdownOutcomes.{endpoint_in_phase}
use Rattle.dcsctp_spec_lemmas.proofs.HeardShutdowns.{Heeds, heard}
use Rattle.dcsctp_spec_lemmas.specs.spec.CookieFits.{FitsPair}
use Rattle.dcsctp_spec_runs.specs.Fitting.{FitsHeld, FitsCore, FitsEndpoint, TurnFits}
use Rattle.dcsctp_theorem_sockets.specs.Bursts.{packets_of_chunk}
use Rattle.dcsctp_theorem_sockets.proofs.BurstData.{IsBehind, acknowledges_behind}
use Rattle.dcsctp_theorem_sockets.proofs.Bursts.{count, Few, allowed_after}
use Rattle.dcsctp_theorem_sockets.proofs.BurstShutdown.{shutdown_few}
use Rattle.dcsctp_theorem_sockets.proofs.DataFits.{acknowledges_fits}
use Rattle.dcsctp_theorem_sockets.proofs.ShutdownFits.{shutdown_fits}
use Rattle.dcsctp_theorem_sockets.proofs.Sizes.{AtLimit, TurnSizes}
use Rattle.dcsctp_theorem_sockets.proofs.SizesData.{acknowledges_sizes}
use Rattle.dcsctp_theorem_sockets.proofs.SizesShutdown.{shutdown_sizes}
use Rattle.dcsctp_theorem_sockets.proofs.T1Data.{acknowledges_up}
use Rattle.dcsctp_theorem_sockets.proofs.T1Shutdown.{shutdown_up}
use Rattle.dcsctp_theorem_sockets.proofs.T1Turns.{Up, UpAfter}

-- ---- numbers that fit their fields

moved_fits : (e : Endpoint) (my : Pair) (held : Held) → FitsEndpoint e → FitsPair my → FitsHeld held → FitsEndpoint (endpoint_in_phase e shutdown_received my held)
moved_fits e my held h own fits = record { valid = h.valid; options = h.options; core = (own, fits); t1 = tt }

heeds_fits : (e : Endpoint) (tsn : ℕ) (o : Outcome) → Heeds e e.core tsn o → FitsEndpoint e → TurnFits o
heeds_fits e tsn o heeds h =
    let own : FitsCore (open_in heeds.phase heeds.my heeds.held) = subst FitsCore heeds.is h.core in
    acknowledges_fits (endpoint_in_phase e shutdown_received heeds.my heeds.held) heeds.held heeds.transfer (said_by_shutdown tsn heeds.transfer.retransmission) o heeds.acknowledges
    (moved_fits e heeds.my heeds.held h own.0 own.1) own.1

pub heard_fits : (e : Endpoint) (tsn : ℕ) (o : Outcome) → ShutdownTurn e e.core tsn o → FitsEndpoint e → TurnFits o
heard_fits e tsn o turn h =
    elim (heard e e.core tsn o turn) [ inl rests ↦ subst TurnFits (sym rests) (shutdown_fits e e.core h h.core) | inr heeds ↦ heeds_fits e tsn o heeds h ]

-- ---- sizes

pub heard_sizes : (limit : ℕ) (e : Endpoint) (tsn : ℕ) (o : Outcome) → ShutdownTurn e e.core tsn o → AtLimit limit e → TurnSizes limit o
heard_sizes limit e tsn o turn h =
    elim (heard e e.core tsn o turn) [
      | inl rests ↦ subst (TurnSizes limit) (sym rests) (shutdown_sizes limit e e.core h)
      | inr heeds ↦ acknowledges_sizes limit (endpoint_in_phase e shutdown_received heeds.my heeds.held) heeds.held heeds.transfer (said_by_shutdown tsn heeds.transfer.retransmission) o heeds.acknowledges h
    ]

-- ---- how many packets

-- One is always allowed.
one_of : (follows : Bool) (flushed : ℕ) → 1 ≤ cond follows (1 + flushed) 1
one_of true flushed = omega arith
one_of false flushed = omega arith

heeds_counts : (e : Endpoint) (tsn : ℕ) (o : Outcome) → Heeds e e.core tsn o → count o.events ≤ packets_of_chunk e.options (shutdown tsn) (allowed_after o)
heeds_counts e tsn o heeds =
    let behind : IsBehind 1 o =
    acknowledges_behind (endpoint_in_phase e shutdown_received heeds.my heeds.held) heeds.held heeds.transfer (said_by_shutdown tsn heeds.transfer.retransmission) o tt heeds.acknowledges in
    subst (λ (follows : Bool). count o.events ≤ cond follows (1 + allowed_after o) 1) (sym heeds.follows) behind

rests_counts : (e : Endpoint) (tsn : ℕ) (o : Outcome) → Few 1 o → count o.events ≤ packets_of_chunk e.options (shutdown tsn) (allowed_after o)
rests_counts e tsn o few =
    let least : 1 ≤ packets_of_chunk e.options (shutdown tsn) (allowed_after o) = one_of e.options.follow_rfc (allowed_after o) in omega (arith, few, least)

pub heard_counts : (e : Endpoint) (tsn : ℕ) (o : Outcome) → ShutdownTurn e e.core tsn o → count o.events ≤ packets_of_chunk e.options (shutdown tsn) (allowed_after o)
heard_counts e tsn o turn =
    elim (heard e e.core tsn o turn) [ inl rests ↦ rests_counts e tsn o (subst (Few 1) (sym rests) (shutdown_few e e.core)) | inr heeds ↦ heeds_counts e tsn o heeds ]

-- ---- T1

pub heard_up : (e : Endpoint) (tsn : ℕ) (o : Outcome) → ShutdownTurn e e.core tsn o → Up e → UpAfter o
heard_up e tsn o turn h =
    elim (heard e e.core tsn o turn) [
      | inl rests ↦ subst UpAfter (sym rests) (shutdown_up e e.core h)
      | inr heeds ↦ acknowledges_up (endpoint_in_phase e shutdown_received heeds.my heeds.held) heeds.held heeds.transfer (said_by_shutdown tsn heeds.transfer.retransmission) o heeds.acknowledges tt
    ]
