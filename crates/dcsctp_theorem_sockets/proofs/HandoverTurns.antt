-- After a handover numbers fit their fields, no packet is sent, and T1 runs if it must.
use Rattle.std.proofs.Common.{ℕ, [], sym, subst}
use Rattle.dcsctp_spec_lemmas.specs.spec.endpoint.Event as events
use Rattle.dcsctp_spec_lemmas.specs.spec.endpoint.Endpoint.{Endpoint, Core, closed, cookie_wait, cookie_echoed, open_in, established, shutdown_pending, shutdown_sent, shutdown_received, shutdown_ack_sent}
use Rattle.dcsctp_spec_runs.specs.Fitting.{FitsEndpoint, TurnFits}
use Rattle.dcsctp_spec_lemmas.specs.spec.endpoint.Outcome.{Outcome, still, quiet}
use Rattle.dcsctp_spec_lemmas.specs.spec.endpoint.Turn.{ActTurn}
use Rattle.dcsctp_spec_lemmas.specs.spec.association.Acts.{hands_over}
use Rattle.dcsctp_spec_lemmas.specs.spec.endpoint.EndOutcomes.{ended_outcome}
use Rattle.dcsctp_spec_lemmas.specs.spec.endpoint.HandoverOutcomes.{hand_over_outcome}
use Rattle.dcsctp_theorem_sockets.proofs.Bursts.{Few, none}
use Rattle.dcsctp_theorem_sockets.proofs.Sizes.{AtLimit, TurnSizes}
use Rattle.dcsctp_theorem_sockets.proofs.T1Turns.{Up, UpAfter}

-- what holds where nothing happens, and of an end
by_core : (Good : Outcome → Type 0) (e : Endpoint) (core : Core) → Good (still e) → Good (ended_outcome (quiet e [] []) events.closed) → Good (hand_over_outcome e core)
by_core Good e closed rests ends = rests
by_core Good e (cookie_wait my) rests ends = rests
by_core Good e (cookie_echoed my held cookie) rests ends = rests
by_core Good e (open_in established my held) rests ends = ends
by_core Good e (open_in shutdown_pending my held) rests ends = rests
by_core Good e (open_in shutdown_sent my held) rests ends = rests
by_core Good e (open_in shutdown_received my held) rests ends = rests
by_core Good e (open_in shutdown_ack_sent my held) rests ends = rests

of_turn : (Good : Outcome → Type 0) (e : Endpoint) (o : Outcome) → ActTurn e hands_over o → Good (still e) → Good (ended_outcome (quiet e [] []) events.closed) → Good o
of_turn Good e o turn rests ends = subst Good (sym turn) (by_core Good e e.core rests ends)

pub hand_over_up : (e : Endpoint) (o : Outcome) → ActTurn e hands_over o → Up e → UpAfter o
hand_over_up e o turn h = of_turn UpAfter e o turn h tt

pub hand_over_sizes : (limit : ℕ) (e : Endpoint) (o : Outcome) → ActTurn e hands_over o → AtLimit limit e → TurnSizes limit o
hand_over_sizes limit e o turn h = of_turn (TurnSizes limit) e o turn (h, tt) (h, tt)

pub hand_over_few : (e : Endpoint) (o : Outcome) → ActTurn e hands_over o → Few 0 o
hand_over_few e o turn = of_turn (Few 0) e o turn (none 0) (none 0)

pub hand_over_fits : (e : Endpoint) (o : Outcome) → ActTurn e hands_over o → FitsEndpoint e → TurnFits o
hand_over_fits e o turn h =
    of_turn TurnFits e o turn (record { after = h; sends = tt })
    (record { after = record { valid = h.valid; options = h.options; core = tt; t1 = tt }; sends = (tt, tt) })
