-- The effects of shutdown, abort and handover say truly what the association is after them.
use Rattle.std.proofs.Common.{◌≡◌, ℕ, Bool, true, false, Some, List, refl, ◌∙◌}
use Rattle.dcsctp_spec_lemmas.specs.types.declared.association.Pair.{Pair}
use Rattle.dcsctp_spec_lemmas.specs.types.declared.association.Held.{Held}
use Rattle.dcsctp_spec_lemmas.specs.spec.endpoint.Cause.{Cause}
use Rattle.dcsctp_spec_lemmas.specs.spec.Packet.{abort}
use Rattle.dcsctp_spec_lemmas.specs.spec.endpoint.Endpoint.{Core, cookie_wait, cookie_echoed, open_in, OpenPhase, established, shutdown_pending, shutdown_sent, shutdown_received, shutdown_ack_sent}
use Rattle.dcsctp_spec_lemmas.specs.spec.endpoint.Following.{Following}
use Rattle.dcsctp_spec_lemmas.specs.types.declared.options.Options.{Options}
use Rattle.dcsctp_spec_lemmas.specs.spec.association.Effect.{Change, identity_of, identity_of_core}
use Rattle.dcsctp_spec_lemmas.specs.spec.association.ShutdownChanges.{shutdown_call_change_echoed, shutdown_step_change_by_phase, shutdown_step_change, shutdown_call_change, abort_call_change, shutdown_again_change, abort_change, shutdown_change, shutdown_ack_change, shutdown_complete_change}
use Rattle.dcsctp_spec_lemmas.specs.spec.association.Acts.{hand_over_change}
use Rattle.dcsctp_spec_lemmas.proofs.AbortLemmas.{by_abort}
use Rattle.dcsctp_theorem_association.proofs.Meaning.{AllSay, Meant, same_meant, ended_meant, end_says-alone}

step_link_in : (phase : OpenPhase) (my : Pair) (held : Held) (tsn : ℕ) (is_acknowledged : Bool)
    → identity_of_core (shutdown_step_change_by_phase phase my held tsn is_acknowledged).core ≡ Some (identity_of my held)
step_link_in shutdown_pending my held tsn false = refl
step_link_in shutdown_pending my held tsn true = refl
step_link_in shutdown_received my held tsn false = refl
step_link_in shutdown_received my held tsn true = refl
step_link_in phase my held tsn is_acknowledged = refl

step_says_in : (after : Core) (phase : OpenPhase) (my : Pair) (held : Held) (tsn : ℕ) (is_acknowledged : Bool)
    → AllSay after (shutdown_step_change_by_phase phase my held tsn is_acknowledged).effects
step_says_in after shutdown_pending my held tsn false = tt
step_says_in after shutdown_pending my held tsn true = (tt, tt)
step_says_in after shutdown_received my held tsn false = tt
step_says_in after shutdown_received my held tsn true = (tt, tt)
step_says_in after phase my held tsn is_acknowledged = tt

-- a step after which the phase is another
step_meant_in : (core : Core) (phase : OpenPhase) (my : Pair) (held : Held) (tsn : ℕ) (is_acknowledged : Bool) → Some (identity_of my held) ≡ identity_of_core core
    → Meant core (shutdown_step_change_by_phase phase my held tsn is_acknowledged)
step_meant_in core phase my held tsn is_acknowledged same =
    let stepped : Change = shutdown_step_change_by_phase phase my held tsn is_acknowledged in
    same_meant (step_link_in phase my held tsn is_acknowledged ∙ same) (step_says_in stepped.core phase my held tsn is_acknowledged)

pub step_link : (core : Core) (tsn : ℕ) (is_acknowledged : Bool) → identity_of_core (shutdown_step_change core tsn is_acknowledged).core ≡ identity_of_core core
step_link (open_in phase my held) tsn is_acknowledged = step_link_in phase my held tsn is_acknowledged
step_link core tsn is_acknowledged = refl

pub step_says : (after core : Core) (tsn : ℕ) (is_acknowledged : Bool) → AllSay after (shutdown_step_change core tsn is_acknowledged).effects
step_says after (open_in phase my held) tsn is_acknowledged = step_says_in after phase my held tsn is_acknowledged
step_says after core tsn is_acknowledged = tt

pub step_meant : (core : Core) (tsn : ℕ) (is_acknowledged : Bool) → Meant core (shutdown_step_change core tsn is_acknowledged)
step_meant core tsn is_acknowledged = same_meant (step_link core tsn is_acknowledged) (step_says (shutdown_step_change core tsn is_acknowledged).core core tsn is_acknowledged)

echoed_meant : (follows : Bool) (my : Pair) (held : Held) (cookie : List ℕ) (tsn : ℕ) (is_acknowledged : Bool)
    → Meant (cookie_echoed my held cookie) (shutdown_call_change_echoed follows my held cookie tsn is_acknowledged)
echoed_meant true my held cookie tsn is_acknowledged = same_meant refl tt
echoed_meant false my held cookie tsn is_acknowledged = step_meant_in (cookie_echoed my held cookie) shutdown_pending my held tsn is_acknowledged refl

pub call_meant : (options : Options) (core : Core) (tsn : ℕ) (is_acknowledged : Bool) → Meant core (shutdown_call_change options core tsn is_acknowledged)
call_meant options (cookie_wait my) tsn is_acknowledged = ended_meant (refl, tt)
call_meant options (cookie_echoed my held cookie) tsn is_acknowledged = echoed_meant options.follow_rfc my held cookie tsn is_acknowledged
call_meant options (open_in established my held) tsn is_acknowledged = step_meant_in (open_in established my held) shutdown_pending my held tsn is_acknowledged refl
call_meant options core tsn is_acknowledged = same_meant refl tt

pub aborts_meant : (core : Core) (causes : List Cause) (fits : Bool) → Meant core (abort_call_change core causes fits)
aborts_meant (cookie_wait my) causes fits = ended_meant (refl, tt)
aborts_meant (cookie_echoed my held cookie) causes fits = ended_meant (end_says-alone fits held.peer.tag (abort false causes))
aborts_meant (open_in phase my held) causes fits = ended_meant (end_says-alone fits held.peer.tag (abort false causes))
aborts_meant core causes fits = same_meant refl tt

pub again_meant : (core : Core) (tsn : ℕ) → Meant core (shutdown_again_change core tsn)
again_meant (open_in shutdown_sent my held) tsn = same_meant refl (tt, tt)
again_meant (open_in shutdown_ack_sent my held) tsn = same_meant refl (tt, tt)
again_meant core tsn = same_meant refl tt

pub abort_meant : (options : Options) (core : Core) → Meant core (abort_change options core)
abort_meant options core = by_abort (Meant core) options core (ended_meant (refl, tt)) (same_meant refl tt)

pub shutdown_link : (core : Core) (tsn : ℕ) (is_acknowledged : Bool) → identity_of_core (shutdown_change core tsn is_acknowledged).core ≡ identity_of_core core
shutdown_link (open_in established my held) tsn is_acknowledged = step_link_in shutdown_received my held tsn is_acknowledged
shutdown_link (open_in shutdown_pending my held) tsn is_acknowledged = step_link_in shutdown_received my held tsn is_acknowledged
shutdown_link (open_in shutdown_received my held) tsn is_acknowledged = step_link_in shutdown_received my held tsn is_acknowledged
shutdown_link core tsn is_acknowledged = refl

pub shutdown_says : (after core : Core) (tsn : ℕ) (is_acknowledged : Bool) → AllSay after (shutdown_change core tsn is_acknowledged).effects
shutdown_says after (open_in established my held) tsn is_acknowledged = step_says_in after shutdown_received my held tsn is_acknowledged
shutdown_says after (open_in shutdown_pending my held) tsn is_acknowledged = step_says_in after shutdown_received my held tsn is_acknowledged
shutdown_says after (open_in shutdown_sent my held) tsn is_acknowledged = (tt, tt)
shutdown_says after (open_in shutdown_received my held) tsn is_acknowledged = step_says_in after shutdown_received my held tsn is_acknowledged
shutdown_says after (open_in shutdown_ack_sent my held) tsn is_acknowledged = (tt, tt)
shutdown_says after core tsn is_acknowledged = tt

pub shutdown_ack_meant : (core : Core) (header : ℕ) (following : Following) → Meant core (shutdown_ack_change core header following)
shutdown_ack_meant (open_in shutdown_sent my held) header following = ended_meant (tt, (refl, tt))
shutdown_ack_meant (open_in shutdown_ack_sent my held) header following = ended_meant (tt, (refl, tt))
shutdown_ack_meant core header following = same_meant refl (tt, tt)

pub shutdown_complete_meant : (core : Core) → Meant core (shutdown_complete_change core)
shutdown_complete_meant (open_in shutdown_ack_sent my held) = ended_meant (refl, tt)
shutdown_complete_meant core = same_meant refl tt

pub hand_over_meant : (core : Core) → Meant core (hand_over_change core)
hand_over_meant (open_in established my held) = ended_meant (refl, tt)
hand_over_meant core = same_meant refl tt
