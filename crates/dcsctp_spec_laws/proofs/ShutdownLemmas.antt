-- The turns of shutdown at an endpoint are turns of its association (RFC 9260, section 9.2).
use Rattle.std.proofs.Common.{List, ◌≡◌, ℕ, Bool, true, false, refl, sym, subst}
use Rattle.dcsctp_spec_lemmas.specs.types.declared.association.Pair.{Pair}
use Rattle.dcsctp_spec_lemmas.specs.types.declared.association.Held.{Held}
use Rattle.dcsctp_spec_lemmas.specs.types.Settings.{SameOptions}
use Rattle.dcsctp_spec_lemmas.specs.spec.Packet.{shutdown_ack, shutdown_complete}
use Rattle.dcsctp_spec_lemmas.specs.spec.endpoint.Endpoint.{Endpoint, Core, closed, cookie_wait, cookie_echoed, open_in, OpenPhase, established, shutdown_pending, shutdown_sent, shutdown_received, shutdown_ack_sent}
use Rattle.dcsctp_spec_lemmas.specs.spec.endpoint.Outcome.{Outcome}
use Rattle.dcsctp_spec_lemmas.specs.spec.endpoint.EndOutcomes.{after_reflected, reflected_outcome}
use Rattle.dcsctp_spec_lemmas.specs.spec.endpoint.ShutdownOutcomes.{shut_down_echoed, received_tsn, endpoint_in_phase, may_continue_shutdown, step_if_acknowledged, step_outcome, t1_stopped, shut_down_outcome, shutdown_ack_outcome, shutdown_complete_outcome, endpoint_with_t2_continued, shutdown_sent_again, t2_again_outcome, shutdown_repeated}
use Rattle.dcsctp_spec_lemmas.specs.spec.association.Choices.{Choices}
use Rattle.dcsctp_spec_lemmas.specs.spec.association.ShutdownChanges.{shutdown_call_change_echoed, shutdown_step_change_by_phase, shutdown_step_change, shutdown_call_change, shutdown_again_change, reflected_change, shutdown_ack_change, shutdown_complete_change}
use Rattle.dcsctp_spec_lemmas.specs.spec.association.Acts.{shut_down, step_of_shutdown, shutdown_repeats}
use Rattle.dcsctp_spec_lemmas.specs.spec.association.Controlled.{IsControlled, IsControlledChunk, IsControlledAct}
use Rattle.dcsctp_spec_lemmas.proofs.ControlHandshake.{no_choices, still_controlled}

-- what such a turn chooses: whether the shutdown may continue, and what a SHUTDOWN reports
abbrev pub stepping : Endpoint → Choices
stepping e = record (no_choices e true) { is_acknowledged = may_continue_shutdown e; tsn = received_tsn e.queues.transfer }

-- what the turn of a SHUTDOWN ACK chooses: what follows one that isn't awaited
abbrev reflecting : Endpoint → Choices
reflecting e = record (no_choices e true) { following = after_reflected e.options }

-- ---- a step of it

-- from any endpoint that is in the phase
step_by_at : (b : Bool) (e base : Endpoint) (phase : OpenPhase) (my : Pair) (held : Held) → base.core ≡ open_in phase my held → SameOptions e.options base.options
    → IsControlled e (step_if_acknowledged b base phase my held) (shutdown_step_change_by_phase phase my held (received_tsn base.queues.transfer) b)
step_by_at true e base established my held is same = record { core = is; options = same; observations = refl; effects = refl; following = refl }
step_by_at true e base shutdown_pending my held is same = record { core = refl; options = same; observations = refl; effects = refl; following = refl }
step_by_at true e base shutdown_sent my held is same = record { core = is; options = same; observations = refl; effects = refl; following = refl }
step_by_at true e base shutdown_received my held is same = record { core = refl; options = same; observations = refl; effects = refl; following = refl }
step_by_at true e base shutdown_ack_sent my held is same = record { core = is; options = same; observations = refl; effects = refl; following = refl }
step_by_at false e base established my held is same = record { core = is; options = same; observations = refl; effects = refl; following = refl }
step_by_at false e base shutdown_pending my held is same = record { core = is; options = same; observations = refl; effects = refl; following = refl }
step_by_at false e base shutdown_sent my held is same = record { core = is; options = same; observations = refl; effects = refl; following = refl }
step_by_at false e base shutdown_received my held is same = record { core = is; options = same; observations = refl; effects = refl; following = refl }
step_by_at false e base shutdown_ack_sent my held is same = record { core = is; options = same; observations = refl; effects = refl; following = refl }

pub step_at : (e base : Endpoint) (core : Core) → base.core ≡ core → SameOptions e.options base.options
    → IsControlled e (step_outcome base core) (shutdown_step_change core (received_tsn base.queues.transfer) (may_continue_shutdown base))
step_at e base closed is same = record { core = is; options = same; observations = refl; effects = refl; following = refl }
step_at e base (cookie_wait my) is same = record { core = is; options = same; observations = refl; effects = refl; following = refl }
step_at e base (cookie_echoed my held cookie) is same = record { core = is; options = same; observations = refl; effects = refl; following = refl }
step_at e base (open_in phase my held) is same = step_by_at (may_continue_shutdown base) e base phase my held is same

pub step_controlled : (e : Endpoint) (o : Outcome) → o ≡ step_outcome e e.core → IsControlledAct e step_of_shutdown o
step_controlled e o turn = subst (IsControlledAct e step_of_shutdown) (sym turn) (stepping e, step_at e e e.core refl refl)

-- the association in another phase, and a step from there
step_from_at : (e base : Endpoint) (phase : OpenPhase) (my : Pair) (held : Held) → SameOptions e.options base.options
    → IsControlled e (step_if_acknowledged (may_continue_shutdown base) (endpoint_in_phase base phase my held) phase my held)
    (shutdown_step_change_by_phase phase my held (received_tsn base.queues.transfer) (may_continue_shutdown base))
step_from_at e base phase my held same = step_by_at (may_continue_shutdown base) e (endpoint_in_phase base phase my held) phase my held refl same

-- ---- the user's call

echoed_at : (follows : Bool) (e : Endpoint) (my : Pair) (held : Held) (cookie : List ℕ) → e.core ≡ cookie_echoed my held cookie
    → IsControlled e (shut_down_echoed follows e my held) (shutdown_call_change_echoed follows my held cookie (received_tsn e.queues.transfer) (may_continue_shutdown e))
echoed_at true e my held cookie is = record { core = is; options = refl; observations = refl; effects = refl; following = refl }
echoed_at false e my held cookie is = step_from_at e (t1_stopped e) shutdown_pending my held refl

call_at : (e : Endpoint) (core : Core) → e.core ≡ core
    → IsControlled e (shut_down_outcome e core) (shutdown_call_change e.options core (received_tsn e.queues.transfer) (may_continue_shutdown e))
call_at e closed is = still_controlled e closed is
call_at e (cookie_wait my) is = record { core = refl; options = refl; observations = refl; effects = refl; following = refl }
call_at e (cookie_echoed my held cookie) is = echoed_at e.options.follow_rfc e my held cookie is
call_at e (open_in established my held) is = step_from_at e e shutdown_pending my held refl
call_at e (open_in shutdown_pending my held) is = still_controlled e (open_in shutdown_pending my held) is
call_at e (open_in shutdown_sent my held) is = still_controlled e (open_in shutdown_sent my held) is
call_at e (open_in shutdown_received my held) is = still_controlled e (open_in shutdown_received my held) is
call_at e (open_in shutdown_ack_sent my held) is = still_controlled e (open_in shutdown_ack_sent my held) is

pub shut_down_controlled : (e : Endpoint) (o : Outcome) → o ≡ shut_down_outcome e e.core → IsControlledAct e shut_down o
shut_down_controlled e o turn = subst (IsControlledAct e shut_down) (sym turn) (stepping e, call_at e e.core refl)

-- ---- chunks

reflects : (e : Endpoint) (core : Core) (tag : ℕ) → e.core ≡ core → IsControlled e (reflected_outcome e tag) (reflected_change core tag (after_reflected e.options))
reflects e core tag is = record { core = is; options = refl; observations = refl; effects = refl; following = refl }

shutdown_ack_at : (e : Endpoint) (core : Core) (tag : ℕ) → e.core ≡ core → IsControlled e (shutdown_ack_outcome e core tag) (shutdown_ack_change core tag (after_reflected e.options))
shutdown_ack_at e closed tag is = reflects e closed tag is
shutdown_ack_at e (cookie_wait my) tag is = reflects e (cookie_wait my) tag is
shutdown_ack_at e (cookie_echoed my held cookie) tag is = reflects e (cookie_echoed my held cookie) tag is
shutdown_ack_at e (open_in established my held) tag is = reflects e (open_in established my held) tag is
shutdown_ack_at e (open_in shutdown_pending my held) tag is = reflects e (open_in shutdown_pending my held) tag is
shutdown_ack_at e (open_in shutdown_sent my held) tag is = record { core = refl; options = refl; observations = refl; effects = refl; following = refl }
shutdown_ack_at e (open_in shutdown_received my held) tag is = reflects e (open_in shutdown_received my held) tag is
shutdown_ack_at e (open_in shutdown_ack_sent my held) tag is = record { core = refl; options = refl; observations = refl; effects = refl; following = refl }

pub shutdown_ack_controlled : (e : Endpoint) (tag : ℕ) (o : Outcome) → o ≡ shutdown_ack_outcome e e.core tag → IsControlledChunk e tag shutdown_ack o
shutdown_ack_controlled e tag o turn = subst (IsControlledChunk e tag shutdown_ack) (sym turn) (_, (reflecting e, tt, refl), shutdown_ack_at e e.core tag refl)

shutdown_complete_at : (e : Endpoint) (core : Core) → e.core ≡ core → IsControlled e (shutdown_complete_outcome e core) (shutdown_complete_change core)
shutdown_complete_at e closed is = still_controlled e closed is
shutdown_complete_at e (cookie_wait my) is = still_controlled e (cookie_wait my) is
shutdown_complete_at e (cookie_echoed my held cookie) is = still_controlled e (cookie_echoed my held cookie) is
shutdown_complete_at e (open_in established my held) is = still_controlled e (open_in established my held) is
shutdown_complete_at e (open_in shutdown_pending my held) is = still_controlled e (open_in shutdown_pending my held) is
shutdown_complete_at e (open_in shutdown_sent my held) is = still_controlled e (open_in shutdown_sent my held) is
shutdown_complete_at e (open_in shutdown_received my held) is = still_controlled e (open_in shutdown_received my held) is
shutdown_complete_at e (open_in shutdown_ack_sent my held) is = record { core = refl; options = refl; observations = refl; effects = refl; following = refl }

pub shutdown_complete_controlled : (e : Endpoint) (tag : ℕ) (reflected : Bool) (o : Outcome) → o ≡ shutdown_complete_outcome e e.core → IsControlledChunk e tag (shutdown_complete reflected) o
shutdown_complete_controlled e tag reflected o turn =
    subst (IsControlledChunk e tag (shutdown_complete reflected)) (sym turn) (_, (no_choices e true, tt, refl), shutdown_complete_at e e.core refl)

-- ---- T2, and data while a SHUTDOWN waits for its answer

again_at : (e : Endpoint) (core : Core) → e.core ≡ core → IsControlled e (shutdown_sent_again (endpoint_with_t2_continued e) core) (shutdown_again_change core (received_tsn e.queues.transfer))
again_at e closed is = record { core = is; options = refl; observations = refl; effects = refl; following = refl }
again_at e (cookie_wait my) is = record { core = is; options = refl; observations = refl; effects = refl; following = refl }
again_at e (cookie_echoed my held cookie) is = record { core = is; options = refl; observations = refl; effects = refl; following = refl }
again_at e (open_in established my held) is = record { core = is; options = refl; observations = refl; effects = refl; following = refl }
again_at e (open_in shutdown_pending my held) is = record { core = is; options = refl; observations = refl; effects = refl; following = refl }
again_at e (open_in shutdown_sent my held) is = record { core = is; options = refl; observations = refl; effects = refl; following = refl }
again_at e (open_in shutdown_received my held) is = record { core = is; options = refl; observations = refl; effects = refl; following = refl }
again_at e (open_in shutdown_ack_sent my held) is = record { core = is; options = refl; observations = refl; effects = refl; following = refl }

pub t2_again_controlled : (e : Endpoint) (o : Outcome) → o ≡ t2_again_outcome e → IsControlledAct e shutdown_repeats o
t2_again_controlled e o turn = subst (IsControlledAct e shutdown_repeats) (sym turn) (stepping e, again_at e e.core refl)

-- Another SHUTDOWN goes out.
pub repeated_controlled : (e : Endpoint) (my : Pair) (held : Held) (o : Outcome) → e.core ≡ open_in shutdown_sent my held → o ≡ shutdown_repeated e held → IsControlledAct e shutdown_repeats o
repeated_controlled e my held o is turn =
    subst (IsControlledAct e shutdown_repeats) (sym turn) (
      stepping e,
      subst (λ (core : Core). IsControlled e (shutdown_repeated e held) (shutdown_again_change core (received_tsn e.queues.transfer))) (sym is)
          (record { core = is; options = refl; observations = refl; effects = refl; following = refl }),
    )
