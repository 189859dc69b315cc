-- The turns of a shutdown keep what the moves of a transfer layer keep: they leave the layer as it is, or end the association.
use Rattle.std.proofs.Common.{◌≡◌, ℕ, Bool, true, false, Option, refl, sym, subst}
use Rattle.dcsctp_spec_lemmas.specs.types.declared.association.Held.{Held}
use Rattle.dcsctp_spec_lemmas.specs.types.declared.association.Pair.{Pair}
use Rattle.dcsctp_spec_lemmas.specs.types.declared.options.Options.{Options}
use Rattle.dcsctp_spec_lemmas.specs.spec.endpoint.Endpoint.{Endpoint, Core, closed, cookie_wait, cookie_echoed, open_in, OpenPhase, established, shutdown_pending, shutdown_sent, shutdown_received, shutdown_ack_sent}
use Rattle.dcsctp_spec_lemmas.specs.spec.endpoint.Outcome.{Outcome}
use Rattle.dcsctp_spec_lemmas.specs.spec.endpoint.ShutdownOutcomes.{shut_down_echoed, endpoint_in_phase, may_continue_shutdown, step_if_acknowledged, step_outcome, t1_stopped, shut_down_outcome, shutdown_outcome, shutdown_ack_outcome, shutdown_complete_outcome, endpoint_with_t2_continued, shutdown_sent_again, t2_again_outcome}
use Rattle.dcsctp_spec_lemmas.specs.spec.endpoint.Turn.{BeginTurn}
use Rattle.dcsctp_spec_lemmas.specs.spec.queues.Transfer.{Transfer, EndpointQueues}
use Rattle.dcsctp_theorem_transfer.proofs.Layers.{LayerIs, EndpointIs, LeavesIt, with_peer}

module _ (Good : Options → Transfer → Type 0) where
  -- The queues stay, and so does what holds of a layer.
  pub record Stays (e : Endpoint) (t : Option Transfer) (o : Outcome) : Type 0 where
    pub layer : LayerIs Good o.after.core o.after.options t
    pub queues : o.after.queues ≡ e.queues

  pub left_by : (e : Endpoint) (o : Outcome) → Stays e e.queues.transfer o → LeavesIt Good o
  left_by e o stays = subst (λ (q : EndpointQueues). LayerIs Good o.after.core o.after.options q.transfer) (sym stays.queues) stays.layer

  moved : (e : Endpoint) (phase : OpenPhase) (my : Pair) (held : Held) (t : Option Transfer) → LayerIs Good e.core e.options t → LayerIs Good (open_in phase my held) e.options t
  moved e phase my held t h = with_peer Good e.core (open_in phase my held) e.options t (λ has. tt) h

  -- ---- a step of it

  step_by : (b : Bool) (e : Endpoint) (phase : OpenPhase) (my : Pair) (held : Held) (t : Option Transfer) → LayerIs Good e.core e.options t
      → Stays e t (step_if_acknowledged b e phase my held)
  step_by false e phase my held t h = record { layer = h; queues = refl }
  step_by true e established my held t h = record { layer = h; queues = refl }
  step_by true e shutdown_pending my held t h = record { layer = moved e shutdown_sent my held t h; queues = refl }
  step_by true e shutdown_sent my held t h = record { layer = h; queues = refl }
  step_by true e shutdown_received my held t h = record { layer = moved e shutdown_ack_sent my held t h; queues = refl }
  step_by true e shutdown_ack_sent my held t h = record { layer = h; queues = refl }

  pub step_stays : (e : Endpoint) (core : Core) (t : Option Transfer) → LayerIs Good e.core e.options t → Stays e t (step_outcome e core)
  step_stays e closed t h = record { layer = h; queues = refl }
  step_stays e (cookie_wait my) t h = record { layer = h; queues = refl }
  step_stays e (cookie_echoed my held cookie) t h = record { layer = h; queues = refl }
  step_stays e (open_in phase my held) t h = step_by (may_continue_shutdown e) e phase my held t h

  pub step_is : (e : Endpoint) (core : Core) → EndpointIs Good e → LeavesIt Good (step_outcome e core)
  step_is e core h = left_by e (step_outcome e core) (step_stays e core e.queues.transfer h)

  -- from another phase
  from_is : (e : Endpoint) (phase : OpenPhase) (my : Pair) (held : Held) → EndpointIs Good e
      → LeavesIt Good (step_if_acknowledged (may_continue_shutdown e) (endpoint_in_phase e phase my held) phase my held)
  from_is e phase my held h =
      left_by (endpoint_in_phase e phase my held) (step_if_acknowledged (may_continue_shutdown e) (endpoint_in_phase e phase my held) phase my held)
      (step_by (may_continue_shutdown e) (endpoint_in_phase e phase my held) phase my held e.queues.transfer (moved e phase my held e.queues.transfer h))

  -- ---- the user's call

  echoed_is : (follows : Bool) (e : Endpoint) (my : Pair) (held : Held) → EndpointIs Good e → LeavesIt Good (shut_down_echoed follows e my held)
  echoed_is true e my held h = h
  echoed_is false e my held h = from_is (t1_stopped e) shutdown_pending my held h

  pub shut_down_is : (e : Endpoint) (core : Core) → EndpointIs Good e → LeavesIt Good (shut_down_outcome e core)
  shut_down_is e closed h = h
  shut_down_is e (cookie_wait my) h = tt
  shut_down_is e (cookie_echoed my held cookie) h = echoed_is e.options.follow_rfc e my held h
  shut_down_is e (open_in established my held) h = from_is e shutdown_pending my held h
  shut_down_is e (open_in shutdown_pending my held) h = h
  shut_down_is e (open_in shutdown_sent my held) h = h
  shut_down_is e (open_in shutdown_received my held) h = h
  shut_down_is e (open_in shutdown_ack_sent my held) h = h

  -- ---- chunks

  pub shutdown_is : (e : Endpoint) (core : Core) → EndpointIs Good e → LeavesIt Good (shutdown_outcome e core)
  shutdown_is e closed h = h
  shutdown_is e (cookie_wait my) h = h
  shutdown_is e (cookie_echoed my held cookie) h = h
  shutdown_is e (open_in established my held) h = from_is e shutdown_received my held h
  shutdown_is e (open_in shutdown_pending my held) h = from_is e shutdown_received my held h
  shutdown_is e (open_in shutdown_sent my held) h = moved e shutdown_ack_sent my held e.queues.transfer h
  shutdown_is e (open_in shutdown_received my held) h = h
  shutdown_is e (open_in shutdown_ack_sent my held) h = moved e shutdown_ack_sent my held e.queues.transfer h

  pub shutdown_ack_is : (e : Endpoint) (core : Core) (tag : ℕ) → EndpointIs Good e → LeavesIt Good (shutdown_ack_outcome e core tag)
  shutdown_ack_is e closed tag h = h
  shutdown_ack_is e (cookie_wait my) tag h = h
  shutdown_ack_is e (cookie_echoed my held cookie) tag h = h
  shutdown_ack_is e (open_in established my held) tag h = h
  shutdown_ack_is e (open_in shutdown_pending my held) tag h = h
  shutdown_ack_is e (open_in shutdown_sent my held) tag h = tt
  shutdown_ack_is e (open_in shutdown_received my held) tag h = h
  shutdown_ack_is e (open_in shutdown_ack_sent my held) tag h = tt

  pub shutdown_complete_is : (e : Endpoint) (core : Core) → EndpointIs Good e → LeavesIt Good (shutdown_complete_outcome e core)
  shutdown_complete_is e closed h = h
  shutdown_complete_is e (cookie_wait my) h = h
  shutdown_complete_is e (cookie_echoed my held cookie) h = h
  shutdown_complete_is e (open_in established my held) h = h
  shutdown_complete_is e (open_in shutdown_pending my held) h = h
  shutdown_complete_is e (open_in shutdown_sent my held) h = h
  shutdown_complete_is e (open_in shutdown_received my held) h = h
  shutdown_complete_is e (open_in shutdown_ack_sent my held) h = tt

  -- ---- T2, and data while a SHUTDOWN waits for its answer

  again_is : (e : Endpoint) (core : Core) → EndpointIs Good e → LeavesIt Good (shutdown_sent_again e core)
  again_is e closed h = h
  again_is e (cookie_wait my) h = h
  again_is e (cookie_echoed my held cookie) h = h
  again_is e (open_in established my held) h = h
  again_is e (open_in shutdown_pending my held) h = h
  again_is e (open_in shutdown_sent my held) h = h
  again_is e (open_in shutdown_received my held) h = h
  again_is e (open_in shutdown_ack_sent my held) h = h

  pub t2_again_is : (e : Endpoint) → EndpointIs Good e → LeavesIt Good (t2_again_outcome e)
  t2_again_is e h = again_is (endpoint_with_t2_continued e) e.core h

  pub begin_is : (e : Endpoint) (core : Core) (has : Bool) (o : Outcome) → BeginTurn e core has o → EndpointIs Good e → LeavesIt Good o
  begin_is e closed has o turn h = subst (LeavesIt Good) (sym turn) h
  begin_is e (cookie_wait my) has o turn h = subst (LeavesIt Good) (sym turn) h
  begin_is e (cookie_echoed my held cookie) has o turn h = subst (LeavesIt Good) (sym turn) h
  begin_is e (open_in established my held) has o turn h = subst (LeavesIt Good) (sym turn) h
  begin_is e (open_in shutdown_pending my held) has o turn h = subst (LeavesIt Good) (sym turn) h
  begin_is e (open_in shutdown_sent my held) true o turn h = subst (LeavesIt Good) (sym turn) h
  begin_is e (open_in shutdown_sent my held) false o turn h = subst (LeavesIt Good) (sym turn) h
  begin_is e (open_in shutdown_received my held) has o turn h = subst (LeavesIt Good) (sym turn) h
  begin_is e (open_in shutdown_ack_sent my held) has o turn h = subst (LeavesIt Good) (sym turn) h
