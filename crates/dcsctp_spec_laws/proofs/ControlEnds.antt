-- The own abort at an endpoint is a turn of its association, and so is a handover.
use Rattle.std.proofs.Common.{◌≡◌, Bool, true, false, List, [], ◌∷◌, refl, sym, subst, ap}
use Rattle.std.specs.Prelude.{if◌then◌else◌}
use Rattle.dcsctp_spec_lemmas.specs.types.declared.association.Held.{Held}
use Rattle.dcsctp_spec_lemmas.specs.types.declared.ends.AbortReason.{AbortReason}
use Rattle.dcsctp_spec_lemmas.specs.types.declared.ends.AbortReason.TheVariants as reasons
use Rattle.dcsctp_spec_lemmas.specs.spec.endpoint.Cause.{causes_of}
use Rattle.dcsctp_spec_lemmas.specs.spec.Packet.{abort}
use Rattle.dcsctp_spec_lemmas.specs.spec.endpoint.Endpoint.{Endpoint, Core, closed, cookie_wait, cookie_echoed, open_in, established, shutdown_pending, shutdown_sent, shutdown_received, shutdown_ack_sent}
use Rattle.dcsctp_spec_lemmas.specs.spec.endpoint.Outcome.{Outcome, quiet, sends, fits}
use Rattle.dcsctp_spec_lemmas.specs.spec.endpoint.EndOutcomes.{ended_outcome, end_of, abort_to, aborting_outcome}
use Rattle.dcsctp_spec_lemmas.specs.spec.endpoint.HandoverOutcomes.{hand_over_outcome}
use Rattle.dcsctp_spec_lemmas.specs.spec.association.Effect.{ending_change, emitted_alone}
use Rattle.dcsctp_spec_lemmas.specs.spec.association.Choices.{Choices}
use Rattle.dcsctp_spec_lemmas.specs.spec.association.Acts.{abort_with, hands_over, act_change}
use Rattle.dcsctp_spec_lemmas.specs.spec.association.Controlled.{Observation, packet_sent, has_ended, observations_of_events, IsControlled, IsControlledAct}
use Rattle.dcsctp_spec_lemmas.proofs.ControlHandshake.{no_choices, still_controlled}

-- ---- our abort

told_end : (reason : AbortReason) → observations_of_events (end_of reason ∷ []) ≡ has_ended ∷ []
told_end reasons.CloseCalled = refl
told_end (reasons.Violation violation) = refl
told_end reasons.TooManyErrors = refl

pub aborts_where : (b : Bool) (e : Endpoint) (held : Held) (reason : AbortReason)
    → IsControlled e (ended_outcome (if b then sends e [] [] (abort_to held reason) else quiet e [] []) (end_of reason))
    (ending_change (emitted_alone b held.peer.tag (abort false (causes_of reason))))
aborts_where true e held reason =
    record { core = refl; options = refl; observations = ap (λ (observations : List Observation). packet_sent (abort_to held reason).packet ∷ observations) (told_end reason); effects = refl; following = refl }
aborts_where false e held reason = record { core = refl; options = refl; observations = told_end reason; effects = refl; following = refl }

aborting_at : (e : Endpoint) (core : Core) (reason : AbortReason) → e.core ≡ core
    → (choices : Choices) × IsControlled e (aborting_outcome e core reason) (act_change e.options core (abort_with reason) choices)
aborting_at e closed reason is = (no_choices e true, still_controlled e closed is)
aborting_at e (cookie_wait my) reason is = (no_choices e true, record { core = refl; options = refl; observations = told_end reason; effects = refl; following = refl })
aborting_at e (cookie_echoed my held cookie) reason is = (no_choices e (fits e (abort_to held reason)), aborts_where (fits e (abort_to held reason)) e held reason)
aborting_at e (open_in phase my held) reason is = (no_choices e (fits e (abort_to held reason)), aborts_where (fits e (abort_to held reason)) e held reason)

pub aborting_controlled : (e : Endpoint) (o : Outcome) (reason : AbortReason) → o ≡ aborting_outcome e e.core reason → IsControlledAct e (abort_with reason) o
aborting_controlled e o reason turn = subst (IsControlledAct e (abort_with reason)) (sym turn) (aborting_at e e.core reason refl)

-- ---- a handover

hand_over_at : (e : Endpoint) (core : Core) → e.core ≡ core
    → (choices : Choices) × IsControlled e (hand_over_outcome e core) (act_change e.options core hands_over choices)
hand_over_at e closed is = (no_choices e true, still_controlled e closed is)
hand_over_at e (cookie_wait my) is = (no_choices e true, still_controlled e (cookie_wait my) is)
hand_over_at e (cookie_echoed my held cookie) is = (no_choices e true, still_controlled e (cookie_echoed my held cookie) is)
hand_over_at e (open_in established my held) is = (no_choices e true, record { core = refl; options = refl; observations = refl; effects = refl; following = refl })
hand_over_at e (open_in shutdown_pending my held) is = (no_choices e true, still_controlled e (open_in shutdown_pending my held) is)
hand_over_at e (open_in shutdown_sent my held) is = (no_choices e true, still_controlled e (open_in shutdown_sent my held) is)
hand_over_at e (open_in shutdown_received my held) is = (no_choices e true, still_controlled e (open_in shutdown_received my held) is)
hand_over_at e (open_in shutdown_ack_sent my held) is = (no_choices e true, still_controlled e (open_in shutdown_ack_sent my held) is)

pub hand_over_controlled : (e : Endpoint) (o : Outcome) → o ≡ hand_over_outcome e e.core → IsControlledAct e hands_over o
hand_over_controlled e o turn = subst (IsControlledAct e hands_over) (sym turn) (hand_over_at e e.core refl)
