-- Shutdown, ends and a handover keep tags and the method.
use Rattle.std.proofs.Common.{ℕ, Bool, true, false, List}
use Rattle.dcsctp_spec_lemmas.specs.types.declared.association.Pair.{Pair}
use Rattle.dcsctp_spec_lemmas.specs.types.declared.association.Held.{Held}
use Rattle.dcsctp_spec_lemmas.specs.types.declared.options.Options.{Options}
use Rattle.dcsctp_spec_lemmas.specs.spec.endpoint.Cause.{Cause}
use Rattle.dcsctp_spec_lemmas.specs.spec.endpoint.Endpoint.{Core, closed, cookie_wait, cookie_echoed, open_in, OpenPhase, established, shutdown_pending, shutdown_sent, shutdown_received, shutdown_ack_sent}
use Rattle.dcsctp_spec_lemmas.specs.spec.endpoint.Following.{Following}
use Rattle.dcsctp_spec_lemmas.specs.spec.Soundness.{IsSoundCore}
use Rattle.dcsctp_spec_lemmas.specs.spec.association.Acts.{hand_over_change}
use Rattle.dcsctp_spec_lemmas.specs.spec.association.ShutdownChanges.{shutdown_call_change_echoed, shutdown_step_change, shutdown_step_change_by_phase, shutdown_call_change, abort_call_change, shutdown_again_change, abort_change, shutdown_change, shutdown_ack_change, shutdown_complete_change}
use Rattle.dcsctp_spec_lemmas.proofs.AbortLemmas.{by_abort}

module _ (p : Options) where
  step_in_sound : (phase : OpenPhase) (my : Pair) (held : Held) (tsn : ℕ) (is_acknowledged : Bool) → IsSoundCore p (open_in phase my held)
      → IsSoundCore p (shutdown_step_change_by_phase phase my held tsn is_acknowledged).core
  step_in_sound established my held tsn is_acknowledged h = h
  step_in_sound shutdown_pending my held tsn true h = h
  step_in_sound shutdown_pending my held tsn false h = h
  step_in_sound shutdown_sent my held tsn is_acknowledged h = h
  step_in_sound shutdown_received my held tsn true h = h
  step_in_sound shutdown_received my held tsn false h = h
  step_in_sound shutdown_ack_sent my held tsn is_acknowledged h = h

  pub step_sound : (core : Core) (tsn : ℕ) (is_acknowledged : Bool) → IsSoundCore p core → IsSoundCore p (shutdown_step_change core tsn is_acknowledged).core
  step_sound closed tsn is_acknowledged h = h
  step_sound (cookie_wait my) tsn is_acknowledged h = h
  step_sound (cookie_echoed my held cookie) tsn is_acknowledged h = h
  step_sound (open_in phase my held) tsn is_acknowledged h = step_in_sound phase my held tsn is_acknowledged h

  call_echoed_sound : (follows : Bool) (my : Pair) (held : Held) (cookie : List ℕ) (tsn : ℕ) (is_acknowledged : Bool) → IsSoundCore p (cookie_echoed my held cookie)
      → IsSoundCore p (shutdown_call_change_echoed follows my held cookie tsn is_acknowledged).core
  call_echoed_sound true my held cookie tsn is_acknowledged h = h
  call_echoed_sound false my held cookie tsn is_acknowledged h = step_in_sound shutdown_pending my held tsn is_acknowledged h

  pub shutdown_call_sound : (core : Core) (tsn : ℕ) (is_acknowledged : Bool) → IsSoundCore p core → IsSoundCore p (shutdown_call_change p core tsn is_acknowledged).core
  shutdown_call_sound closed tsn is_acknowledged h = h
  shutdown_call_sound (cookie_wait my) tsn is_acknowledged h = tt
  shutdown_call_sound (cookie_echoed my held cookie) tsn is_acknowledged h = call_echoed_sound p.follow_rfc my held cookie tsn is_acknowledged h
  shutdown_call_sound (open_in established my held) tsn is_acknowledged h = step_in_sound shutdown_pending my held tsn is_acknowledged h
  shutdown_call_sound (open_in shutdown_pending my held) tsn is_acknowledged h = h
  shutdown_call_sound (open_in shutdown_sent my held) tsn is_acknowledged h = h
  shutdown_call_sound (open_in shutdown_received my held) tsn is_acknowledged h = h
  shutdown_call_sound (open_in shutdown_ack_sent my held) tsn is_acknowledged h = h

  pub abort_call_sound : (core : Core) (causes : List Cause) (fits : Bool) → IsSoundCore p core → IsSoundCore p (abort_call_change core causes fits).core
  abort_call_sound closed causes fits h = h
  abort_call_sound (cookie_wait my) causes fits h = tt
  abort_call_sound (cookie_echoed my held cookie) causes fits h = tt
  abort_call_sound (open_in phase my held) causes fits h = tt

  pub shutdown_again_sound : (core : Core) (tsn : ℕ) → IsSoundCore p core → IsSoundCore p (shutdown_again_change core tsn).core
  shutdown_again_sound closed tsn h = h
  shutdown_again_sound (cookie_wait my) tsn h = h
  shutdown_again_sound (cookie_echoed my held cookie) tsn h = h
  shutdown_again_sound (open_in established my held) tsn h = h
  shutdown_again_sound (open_in shutdown_pending my held) tsn h = h
  shutdown_again_sound (open_in shutdown_sent my held) tsn h = h
  shutdown_again_sound (open_in shutdown_received my held) tsn h = h
  shutdown_again_sound (open_in shutdown_ack_sent my held) tsn h = h

  pub abort_sound : (core : Core) → IsSoundCore p core → IsSoundCore p (abort_change p core).core
  abort_sound core h = by_abort (λ change. IsSoundCore p change.core) p core tt h

  pub shutdown_sound : (core : Core) (tsn : ℕ) (is_acknowledged : Bool) → IsSoundCore p core → IsSoundCore p (shutdown_change core tsn is_acknowledged).core
  shutdown_sound closed tsn is_acknowledged h = h
  shutdown_sound (cookie_wait my) tsn is_acknowledged h = h
  shutdown_sound (cookie_echoed my held cookie) tsn is_acknowledged h = h
  shutdown_sound (open_in established my held) tsn is_acknowledged h = step_in_sound shutdown_received my held tsn is_acknowledged h
  shutdown_sound (open_in shutdown_pending my held) tsn is_acknowledged h = step_in_sound shutdown_received my held tsn is_acknowledged h
  shutdown_sound (open_in shutdown_sent my held) tsn is_acknowledged h = h
  shutdown_sound (open_in shutdown_received my held) tsn is_acknowledged h = step_in_sound shutdown_received my held tsn is_acknowledged h
  shutdown_sound (open_in shutdown_ack_sent my held) tsn is_acknowledged h = h

  pub shutdown_ack_sound : (core : Core) (header : ℕ) (following : Following) → IsSoundCore p core → IsSoundCore p (shutdown_ack_change core header following).core
  shutdown_ack_sound closed header following h = h
  shutdown_ack_sound (cookie_wait my) header following h = h
  shutdown_ack_sound (cookie_echoed my held cookie) header following h = h
  shutdown_ack_sound (open_in established my held) header following h = h
  shutdown_ack_sound (open_in shutdown_pending my held) header following h = h
  shutdown_ack_sound (open_in shutdown_sent my held) header following h = tt
  shutdown_ack_sound (open_in shutdown_received my held) header following h = h
  shutdown_ack_sound (open_in shutdown_ack_sent my held) header following h = tt

  pub shutdown_complete_sound : (core : Core) → IsSoundCore p core → IsSoundCore p (shutdown_complete_change core).core
  shutdown_complete_sound closed h = h
  shutdown_complete_sound (cookie_wait my) h = h
  shutdown_complete_sound (cookie_echoed my held cookie) h = h
  shutdown_complete_sound (open_in established my held) h = h
  shutdown_complete_sound (open_in shutdown_pending my held) h = h
  shutdown_complete_sound (open_in shutdown_sent my held) h = h
  shutdown_complete_sound (open_in shutdown_received my held) h = h
  shutdown_complete_sound (open_in shutdown_ack_sent my held) h = tt

  pub hand_over_sound : (core : Core) → IsSoundCore p core → IsSoundCore p (hand_over_change core).core
  hand_over_sound closed h = h
  hand_over_sound (cookie_wait my) h = h
  hand_over_sound (cookie_echoed my held cookie) h = h
  hand_over_sound (open_in established my held) h = tt
  hand_over_sound (open_in shutdown_pending my held) h = h
  hand_over_sound (open_in shutdown_sent my held) h = h
  hand_over_sound (open_in shutdown_received my held) h = h
  hand_over_sound (open_in shutdown_ack_sent my held) h = h
