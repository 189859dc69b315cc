-- The turn of a SHUTDOWN is a turn of the association: it moves the phase, and may do all that a SACK does (RFC 9260, section 9.2).
use Rattle.std.proofs.Common.{◌≡◌, ℕ, Bool, true, false, [], inl, inr, refl, sym, subst}
use Rattle.dcsctp_spec_lemmas.specs.types.declared.association.Pair.{Pair}
use Rattle.dcsctp_spec_lemmas.specs.types.declared.association.Held.{Held}
use Rattle.dcsctp_spec_lemmas.specs.spec.Packet.{shutdown}
use Rattle.dcsctp_spec_lemmas.specs.spec.endpoint.Endpoint.{Endpoint, Core, closed, cookie_wait, cookie_echoed, open_in, OpenPhase, established, shutdown_pending, shutdown_sent, shutdown_received, shutdown_ack_sent}
use Rattle.dcsctp_spec_lemmas.specs.spec.endpoint.Outcome.{Outcome}
use Rattle.dcsctp_spec_lemmas.specs.spec.endpoint.ShutdownOutcomes.{received_tsn, endpoint_in_phase, may_continue_shutdown, step_if_acknowledged, shutdown_outcome}
use Rattle.dcsctp_spec_lemmas.specs.spec.endpoint.HeardShutdown.{said_by_shutdown, may_have_sent, ShutdownTurn}
use Rattle.dcsctp_spec_lemmas.specs.spec.association.Acts.{shutdown_chunk_change}
use Rattle.dcsctp_spec_lemmas.specs.spec.association.Controlled.{IsControlled, IsControlledChunk}
use Rattle.dcsctp_spec_lemmas.proofs.ControlHandshake.{ControlledAt, still_controlled}
use Rattle.dcsctp_spec_lemmas.proofs.HeardShutdowns.{Heeds, heard}
use Rattle.dcsctp_spec_laws.proofs.SackLemmas.{SteppedAt, stepped, acknowledges_at}

-- ---- one that doesn't acknowledge

-- the association in ShutdownReceived, and a step from there
received_at : (b : Bool) (e : Endpoint) (my : Pair) (held : Held)
    → IsControlled e (step_if_acknowledged b (endpoint_in_phase e shutdown_received my held) shutdown_received my held)
    (shutdown_chunk_change (open_in established my held) (stepped e (received_tsn e.queues.transfer) b [] []))
received_at true e my held = record { core = refl; options = refl; observations = refl; effects = refl; following = refl }
received_at false e my held = record { core = refl; options = refl; observations = refl; effects = refl; following = refl }

-- Nothing is sent beside it.
shutdown_at : (e : Endpoint) (core : Core) (tag tsn : ℕ) → e.core ≡ core → ControlledAt e core tag (shutdown tsn) (shutdown_outcome e core)
shutdown_at e closed tag tsn is = (_, (stepped e 0 false [] [], tt, refl), still_controlled e closed is)
shutdown_at e (cookie_wait my) tag tsn is = (_, (stepped e 0 false [] [], tt, refl), still_controlled e (cookie_wait my) is)
shutdown_at e (cookie_echoed my held cookie) tag tsn is = (_, (stepped e 0 false [] [], tt, refl), still_controlled e (cookie_echoed my held cookie) is)
shutdown_at e (open_in established my held) tag tsn is = (_, (stepped e (received_tsn e.queues.transfer) (may_continue_shutdown e) [] [], tt, refl), received_at (may_continue_shutdown e) e my held)
shutdown_at e (open_in shutdown_pending my held) tag tsn is = (_, (stepped e (received_tsn e.queues.transfer) (may_continue_shutdown e) [] [], tt, refl), received_at (may_continue_shutdown e) e my held)
shutdown_at e (open_in shutdown_sent my held) tag tsn is = (_, (stepped e 0 false [] [], tt, refl), record { core = refl; options = refl; observations = refl; effects = refl; following = refl })
shutdown_at e (open_in shutdown_received my held) tag tsn is = (_, (stepped e 0 false [] [], tt, refl), still_controlled e (open_in shutdown_received my held) is)
shutdown_at e (open_in shutdown_ack_sent my held) tag tsn is = (_, (stepped e 0 false [] [], tt, refl), record { core = refl; options = refl; observations = refl; effects = refl; following = refl })

-- ---- one that does

-- What is done from ShutdownReceived is done from each phase in which something may be in flight.
heeded_at : (e : Endpoint) (phase : OpenPhase) (my : Pair) (held : Held) (tag tsn : ℕ) (o : Outcome) → may_have_sent phase ≡ true → SteppedAt e (open_in shutdown_received my held) o
    → ControlledAt e (open_in phase my held) tag (shutdown tsn) o
heeded_at e established my held tag tsn o may h = (_, (stepped e h.0 h.1 h.2 h.3, tt, refl), h.4)
heeded_at e shutdown_pending my held tag tsn o may h = (_, (stepped e h.0 h.1 h.2 h.3, tt, refl), h.4)
heeded_at e shutdown_sent my held tag tsn o may h = absurd (cc)
heeded_at e shutdown_received my held tag tsn o may h = (_, (stepped e h.0 h.1 h.2 h.3, tt, refl), h.4)
heeded_at e shutdown_ack_sent my held tag tsn o may h = absurd (cc)

heeds_at : (e : Endpoint) (tag tsn : ℕ) (o : Outcome) → Heeds e e.core tsn o → IsControlledChunk e tag (shutdown tsn) o
heeds_at e tag tsn o h =
    subst (λ (core : Core). ControlledAt e core tag (shutdown tsn) o) (sym h.is)
    (heeded_at e h.phase h.my h.held tag tsn o h.may
    (acknowledges_at e (endpoint_in_phase e shutdown_received h.my h.held) h.held h.transfer (said_by_shutdown tsn h.transfer.retransmission) o refl refl h.acknowledges))

pub shutdown_controlled : (e : Endpoint) (tag tsn : ℕ) (o : Outcome) → ShutdownTurn e e.core tsn o → IsControlledChunk e tag (shutdown tsn) o
shutdown_controlled e tag tsn o turn =
    elim (heard e e.core tsn o turn) [
      | inl rests ↦ subst (IsControlledChunk e tag (shutdown tsn)) (sym rests) (shutdown_at e e.core tag tsn refl)
      | inr heeds ↦ heeds_at e tag tsn o heeds
    ]
