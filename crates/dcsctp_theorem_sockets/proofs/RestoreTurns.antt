-- A restore is a turn of one side; it sends no packet, and T1 needn't run after it.
use Rattle.std.proofs.Common.{ℕ, inl, inr, refl, sym, subst}
use Rattle.dcsctp_spec_lemmas.specs.spec.endpoint.Endpoint.{Endpoint}
use Rattle.dcsctp_spec_lemmas.specs.spec.endpoint.Outcome.{Outcome}
use Rattle.dcsctp_spec_lemmas.specs.types.Snapshot.{Snapshot}
use Rattle.dcsctp_spec_runs.specs.World.{ControlTurn, resumed}
use Rattle.dcsctp_spec_lemmas.specs.spec.endpoint.RestoreOutcomes.{own_pair, peer_pair, capabilities_restored, RestoreTurn}
use Rattle.dcsctp_spec_laws.proofs.ControlRestores.{resumed_by, Resumes, restore_stands}
use Rattle.dcsctp_theorem_sockets.proofs.Bursts.{Few, none}
use Rattle.dcsctp_theorem_sockets.proofs.Sizes.{AtLimit, TurnSizes}
use Rattle.dcsctp_theorem_sockets.proofs.T1Turns.{Up, UpAfter}

pub resumed_turn : (e : Endpoint) (state : Snapshot) (o : Outcome) → Resumes e state o → ControlTurn e.options e.core (resumed_by e state)
resumed_turn e state o h =
    resumed (own_pair state) (peer_pair state) (capabilities_restored e.options state.capabilities) state.tx.next_reset_req_sn state.rx.last_completed_reset_req_sn h.core refl

pub restore_up : (e : Endpoint) (state : Snapshot) (o : Outcome) → RestoreTurn e e.core state o → Up e → UpAfter o
restore_up e state o turn h = elim (restore_stands e state o turn) [ inl rests ↦ subst UpAfter (sym rests) h | inr restored ↦ subst UpAfter (sym restored.is) tt ]

pub restore_sizes : (limit : ℕ) (e : Endpoint) (state : Snapshot) (o : Outcome) → RestoreTurn e e.core state o → AtLimit limit e → TurnSizes limit o
restore_sizes limit e state o turn h =
    elim (restore_stands e state o turn) [ inl rests ↦ subst (TurnSizes limit) (sym rests) (h, tt) | inr restored ↦ subst (TurnSizes limit) (sym restored.is) (h, tt) ]

pub restore_few : (e : Endpoint) (state : Snapshot) (o : Outcome) → RestoreTurn e e.core state o → Few 0 o
restore_few e state o turn = elim (restore_stands e state o turn) [ inl rests ↦ subst (Few 0) (sym rests) (none 0) | inr restored ↦ subst (Few 0) (sym restored.is) (none 0) ]
