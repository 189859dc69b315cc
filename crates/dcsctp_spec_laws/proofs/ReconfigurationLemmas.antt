-- The turn of the reconfiguration timer is a turn of the association: the request that is outstanding again, under its number or
-- under the next one.
use Rattle.std.proofs.Common.{◌≡◌, ℕ, Bool, true, false, cond, Option, None, Some, List, [], refl, ap, ◌∙◌}
use Rattle.dcsctp_spec_lemmas.specs.types.declared.association.Pair.{Pair}
use Rattle.dcsctp_spec_lemmas.specs.types.declared.association.Held.{Held}
use Rattle.dcsctp_spec_lemmas.specs.spec.Reconfiguration.{RequestedReset, renewed_reset}
use Rattle.dcsctp_spec_lemmas.specs.types.Settings.{SameOptions}
use Rattle.dcsctp_spec_lemmas.specs.spec.endpoint.Endpoint.{Endpoint, Core, closed, cookie_wait, cookie_echoed, open_in, OpenPhase, OutstandingRequest, held_by_core}
use Rattle.dcsctp_spec_lemmas.specs.spec.endpoint.Following.{next_chunk}
use Rattle.dcsctp_spec_lemmas.specs.spec.endpoint.BegunResets.{core_asking}
use Rattle.dcsctp_spec_lemmas.specs.spec.endpoint.Outcome.{Outcome, still, quiet, sends, fits, to_peer}
use Rattle.dcsctp_spec_lemmas.specs.spec.association.Acts.{request_sent, renewed_if_fitting, act_change}
use Rattle.dcsctp_spec_lemmas.specs.spec.association.Choices.{Choices}
use Rattle.dcsctp_spec_lemmas.specs.spec.association.FlushChanges.{FlushResult, reset_request}
use Rattle.dcsctp_spec_lemmas.specs.spec.association.Controlled.{IsControlled}
use Rattle.dcsctp_spec_lemmas.specs.spec.endpoint.HeartbeatOutcomes.{is_exhausted}
use Rattle.dcsctp_spec_lemmas.specs.spec.endpoint.OwnTimers.{repeating_act}
use Rattle.dcsctp_spec_lemmas.specs.spec.endpoint.ReconfigurationOutcomes.{reset_again, request_emitted, renewed_request_if_fitting, request_renewed, request_unless, is_renewed, reconfiguration_expired, request_errors, request_expired, reconfiguration_outcome}
use Rattle.dcsctp_spec_lemmas.proofs.FlushKeeps.{Rebuilds, rebuilds_open, rebuilds_echoed}
use Rattle.dcsctp_spec_lemmas.proofs.ControlHandshake.{no_choices}

-- what of the peer is held once the request went out again, if it fits, and its effects
abbrev repeated_by : Bool → Held → Option ℕ → RequestedReset → Bool → FlushResult
repeated_by false held number reset fits = record { held = held; effects = request_sent held number reset fits }
repeated_by true held number reset fits = renewed_if_fitting held number reset fits

-- the request, where it goes out: under the next number or under its own
abbrev Repeats : Bool → Endpoint → (Held → Core) → Held → Option ℕ → RequestedReset → Outcome → Type 0
Repeats is_new e rebuilt held number reset o =
    (b : Bool) × IsControlled e o (record { core = rebuilt (repeated_by is_new held number reset b).held; effects = (repeated_by is_new held number reset b).effects; following = next_chunk })

module _ (e : Endpoint) (rebuilt : Held → Core) (held : Held) (builds : Rebuilds rebuilt held) (is : e.core ≡ rebuilt held) (reset : RequestedReset) where
  -- its packet, where it fits
  packet_at : (b : Bool) (request : OutstandingRequest) (number : ℕ)
      → Repeats false e rebuilt held (Some number) reset (cond b (sends (request_expired e request) [] [] (to_peer held (reset_request number reset))) (quiet (request_expired e request) [] []))
  packet_at true request number = (true, record { core = is; options = refl; observations = refl; effects = refl; following = refl })
  packet_at false request number = (false, record { core = is; options = refl; observations = refl; effects = refl; following = refl })

  emitted_at : (request : OutstandingRequest) (number : Option ℕ) → Repeats false e rebuilt held number reset (request_emitted (request_expired e request) held number reset)
  emitted_at request None = (false, record { core = is; options = refl; observations = refl; effects = refl; following = refl })
  emitted_at request (Some number) = packet_at (fits (request_expired e request) (to_peer held (reset_request number reset))) request number

  renewed_at : (b : Bool) (request : OutstandingRequest) (number : ℕ)
      → Repeats true e rebuilt held (Some number) reset (renewed_request_if_fitting b (request_expired e request) held number (reset_request held.own_next (renewed_reset reset)))
  renewed_at true request number = (true, record { core = ap core_asking is ∙ builds.asks; options = refl; observations = refl; effects = refl; following = refl })
  renewed_at false request number = (false, record { core = is; options = refl; observations = refl; effects = refl; following = refl })

  anew_at : (request : OutstandingRequest) (number : Option ℕ) → Repeats true e rebuilt held number reset (request_renewed (request_expired e request) held number reset)
  anew_at request None = (false, record { core = is; options = refl; observations = refl; effects = refl; following = refl })
  anew_at request (Some number) = renewed_at (fits (request_expired e request) (to_peer held (reset_request held.own_next (renewed_reset reset)))) request number

  -- Nothing goes out.
  idle_at : (is_new : Bool) (after : Endpoint) (number : Option ℕ) → after.core ≡ rebuilt held → SameOptions e.options after.options → Repeats is_new e rebuilt held number reset (still after)
  idle_at false after None stays same = (false, record { core = stays; options = same; observations = refl; effects = refl; following = refl })
  idle_at false after (Some number) stays same = (false, record { core = stays; options = same; observations = refl; effects = refl; following = refl })
  idle_at true after None stays same = (false, record { core = stays; options = same; observations = refl; effects = refl; following = refl })
  idle_at true after (Some number) stays same = (false, record { core = stays; options = same; observations = refl; effects = refl; following = refl })

  unless_at : (b is_new : Bool) (request : OutstandingRequest) → Repeats is_new e rebuilt held held.own_outstanding reset (request_unless b is_new (request_expired e request) held reset)
  unless_at true is_new request = idle_at is_new (request_expired e request) held.own_outstanding is refl
  unless_at false false request = emitted_at request held.own_outstanding
  unless_at false true request = anew_at request held.own_outstanding

repeats_at : (e : Endpoint) (rebuilt : Held → Core) (held : Held) (request : Option OutstandingRequest) → Rebuilds rebuilt held → e.core ≡ rebuilt held
    → Repeats (is_renewed e request) e rebuilt held held.own_outstanding (reset_again request) (reconfiguration_outcome e (Some held) request)
repeats_at e rebuilt held None builds is = idle_at e rebuilt held builds is (reset_again None) false (reconfiguration_expired e) held.own_outstanding is refl
repeats_at e rebuilt held (Some request) builds is =
    unless_at e rebuilt held builds is (reset_again (Some request)) (is_exhausted e.options.max_retransmissions (request_errors e request)) (is_renewed e (Some request)) request

-- as the turn of that act
abbrev RepeatsAct : Bool → Endpoint → Core → RequestedReset → Outcome → Type 0
RepeatsAct is_new e core reset o = (choices : Choices) × IsControlled e o (act_change e.options core (repeating_act is_new reset) choices)

echoed_act : (is_new : Bool) (e : Endpoint) (my : Pair) (held : Held) (cookie : List ℕ) (reset : RequestedReset) (o : Outcome)
    → Repeats is_new e (λ h. cookie_echoed my h cookie) held held.own_outstanding reset o → RepeatsAct is_new e (cookie_echoed my held cookie) reset o
echoed_act false e my held cookie reset o repeats = (no_choices e repeats.0, repeats.1)
echoed_act true e my held cookie reset o repeats = (no_choices e repeats.0, repeats.1)

open_act : (is_new : Bool) (e : Endpoint) (phase : OpenPhase) (my : Pair) (held : Held) (reset : RequestedReset) (o : Outcome)
    → Repeats is_new e (λ h. open_in phase my h) held held.own_outstanding reset o → RepeatsAct is_new e (open_in phase my held) reset o
open_act false e phase my held reset o repeats = (no_choices e repeats.0, repeats.1)
open_act true e phase my held reset o repeats = (no_choices e repeats.0, repeats.1)

-- Without a peer nothing goes out.
closed_act : (is_new : Bool) (e : Endpoint) (request : Option OutstandingRequest) (reset : RequestedReset) → e.core ≡ closed → RepeatsAct is_new e closed reset (reconfiguration_outcome e None request)
closed_act false e request reset is = (no_choices e false, record { core = is; options = refl; observations = refl; effects = refl; following = refl })
closed_act true e request reset is = (no_choices e false, record { core = is; options = refl; observations = refl; effects = refl; following = refl })

waiting_act : (is_new : Bool) (e : Endpoint) (my : Pair) (request : Option OutstandingRequest) (reset : RequestedReset) → e.core ≡ cookie_wait my
    → RepeatsAct is_new e (cookie_wait my) reset (reconfiguration_outcome e None request)
waiting_act false e my request reset is = (no_choices e false, record { core = is; options = refl; observations = refl; effects = refl; following = refl })
waiting_act true e my request reset is = (no_choices e false, record { core = is; options = refl; observations = refl; effects = refl; following = refl })

pub reconfiguration_at : (e : Endpoint) (core : Core) (request : Option OutstandingRequest) → e.core ≡ core
    → RepeatsAct (is_renewed e request) e core (reset_again request) (reconfiguration_outcome e (held_by_core core) request)
reconfiguration_at e closed request is = closed_act (is_renewed e request) e request (reset_again request) is
reconfiguration_at e (cookie_wait my) request is = waiting_act (is_renewed e request) e my request (reset_again request) is
reconfiguration_at e (cookie_echoed my held cookie) request is =
    echoed_act (is_renewed e request) e my held cookie (reset_again request) (reconfiguration_outcome e (Some held) request)
    (repeats_at e (λ h. cookie_echoed my h cookie) held request (rebuilds_echoed my cookie held) is)
reconfiguration_at e (open_in phase my held) request is =
    open_act (is_renewed e request) e phase my held (reset_again request) (reconfiguration_outcome e (Some held) request)
    (repeats_at e (λ h. open_in phase my h) held request (rebuilds_open phase my held) is)
