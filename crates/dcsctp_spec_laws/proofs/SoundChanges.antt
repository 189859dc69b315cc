-- What each change of an association makes of its tags and its zero checksum method: but for connect and INIT ACK they stay sound.
use Rattle.std.proofs.Common.{◌≤◌, ℕ, Bool, true, false, Option, None, Some, [], refl}
use Rattle.dcsctp_spec_lemmas.specs.types.declared.association.Held.{Held}
use Rattle.dcsctp_spec_lemmas.specs.types.declared.options.Options.{Options}
use Rattle.dcsctp_spec_lemmas.specs.spec.Cookie.{cookie_of_bytes}
use Rattle.dcsctp_spec_lemmas.specs.spec.endpoint.Endpoint.{Core, closed, cookie_wait, cookie_echoed, open_in}
use Rattle.dcsctp_spec_lemmas.specs.spec.Packet.{Introduction, Content, init, init_ack, cookie_echo, cookie_ack, re_config, abort, shutdown, shutdown_ack, shutdown_complete, plain}
use Rattle.dcsctp_spec_lemmas.specs.spec.Reconfiguration.{RequestedReset}
use Rattle.dcsctp_spec_lemmas.specs.spec.Soundness.{IsSoundHeld, IsSoundCore}
use Rattle.dcsctp_spec_lemmas.specs.spec.association.Acts.{Act, connect, t1_expires, shut_down, step_of_shutdown, shutdown_repeats, abort_with, hands_over, flushes, request_again, request_renewed, act_change, chunk_change, flush_change, request_again_change, renewed_if_fitting, request_renewed_change, violation_change, plain_change}
use Rattle.dcsctp_spec_lemmas.specs.spec.association.Choices.{Choices}
use Rattle.dcsctp_spec_lemmas.specs.spec.association.Effect.{Change}
use Rattle.dcsctp_spec_lemmas.specs.spec.association.HandshakeChanges.{answered_init_change}
use Rattle.dcsctp_spec_lemmas.specs.spec.association.ShutdownChanges.{shutdown_step_change, shutdown_change}
use Rattle.dcsctp_spec_laws.proofs.SoundHandshakes.{flush_sound, init_sound, init_ack_sound, cookie_ack_sound, t1_again_sound, gives_up_sound, read_echo_sound}
use Rattle.dcsctp_spec_laws.proofs.SoundResets.{re_config_sound}
use Rattle.dcsctp_spec_laws.proofs.SoundEnds.{step_sound, shutdown_call_sound, abort_call_sound, shutdown_again_sound, abort_sound, shutdown_sound, shutdown_ack_sound, shutdown_complete_sound, hand_over_sound}

-- ---- what may come

-- but for connect
abbrev pub IsOtherAct : Act → Type 0
IsOtherAct connect = ⊥
IsOtherAct act = Unit {0}

-- The tag that an INIT ACK announces isn't 0.
abbrev pub SaysTag : Content → Type 0
SaysTag (init_ack theirs cookie) = 1 ≤ theirs.pair.tag
SaysTag content = Unit {0}

-- ---- each change

module _ (p : Options) where
  flush_change_sound : (core : Core) (choices : Choices) → IsSoundCore p core → IsSoundCore p (flush_change core choices).core
  flush_change_sound closed choices h = h
  flush_change_sound (cookie_wait my) choices h = h
  flush_change_sound (cookie_echoed my held cookie) choices h = (h.0, flush_sound p held.peer.tag held [] choices.filling h.1)
  flush_change_sound (open_in phase my held) choices h = (h.0, flush_sound p held.peer.tag held [] choices.filling h.1)

  request_again_sound : (core : Core) (reset : RequestedReset) (fits : Bool) → IsSoundCore p core → IsSoundCore p (request_again_change core reset fits).core
  request_again_sound closed reset fits h = h
  request_again_sound (cookie_wait my) reset fits h = h
  request_again_sound (cookie_echoed my held cookie) reset fits h = h
  request_again_sound (open_in phase my held) reset fits h = h

  renewed_held_sound : (held : Held) (number : Option ℕ) (reset : RequestedReset) (fits : Bool) → IsSoundHeld p held → IsSoundHeld p (renewed_if_fitting held number reset fits).held
  renewed_held_sound held None reset fits h = h
  renewed_held_sound held (Some number) reset false h = h
  renewed_held_sound held (Some number) reset true h = record { tag_is_not_zero = h.tag_is_not_zero; method = h.method }

  request_renewed_sound : (core : Core) (reset : RequestedReset) (fits : Bool) → IsSoundCore p core → IsSoundCore p (request_renewed_change core reset fits).core
  request_renewed_sound closed reset fits h = h
  request_renewed_sound (cookie_wait my) reset fits h = h
  request_renewed_sound (cookie_echoed my held cookie) reset fits h = (h.0, renewed_held_sound held held.own_outstanding reset fits h.1)
  request_renewed_sound (open_in phase my held) reset fits h = (h.0, renewed_held_sound held held.own_outstanding reset fits h.1)

  violation_sound : (core : Core) (choices : Choices) → IsSoundCore p core → IsSoundCore p (violation_change core choices).core
  violation_sound closed choices h = h
  violation_sound (cookie_wait my) choices h = h
  violation_sound (cookie_echoed my held cookie) choices h = tt
  violation_sound (open_in phase my held) choices h = tt

  plain_sound : (core : Core) (is_violation : Bool) (choices : Choices) → IsSoundCore p core → IsSoundCore p (plain_change core is_violation choices).core
  plain_sound core true choices h = violation_sound core choices h
  plain_sound core false choices h =
      let stepped : Change = shutdown_step_change core choices.tsn choices.is_acknowledged in
      flush_change_sound stepped.core choices (step_sound p core choices.tsn choices.is_acknowledged h)

  -- ---- every act and every chunk

  pub act_sound : (core : Core) (act : Act) (choices : Choices) → IsOtherAct act → IsSoundCore p core → IsSoundCore p (act_change p core act choices).core
  act_sound core connect choices other h = absurd other
  act_sound core (t1_expires true) choices other h = t1_again_sound p core choices h
  act_sound core (t1_expires false) choices other h = gives_up_sound p core h
  act_sound core shut_down choices other h = shutdown_call_sound p core choices.tsn choices.is_acknowledged h
  act_sound core step_of_shutdown choices other h = step_sound p core choices.tsn choices.is_acknowledged h
  act_sound core shutdown_repeats choices other h = shutdown_again_sound p core choices.tsn h
  act_sound core (abort_with reason) choices other h = abort_call_sound p core _ choices.fits h
  act_sound core hands_over choices other h = hand_over_sound p core h
  act_sound core flushes choices other h = flush_change_sound core choices h
  act_sound core (request_again reset) choices other h = request_again_sound core reset choices.fits h
  act_sound core (request_renewed reset) choices other h = request_renewed_sound core reset choices.fits h

  answered_init_sound : (may : Bool) (core : Core) (theirs : Introduction) (choices : Choices) → IsSoundCore p core → IsSoundCore p (answered_init_change may p core theirs choices).core
  answered_init_sound false core theirs choices h = h
  answered_init_sound true core theirs choices h = init_sound p core theirs choices h

  pub chunk_sound : (core : Core) (header : ℕ) (content : Content) (choices : Choices) → SaysTag content → IsSoundCore p core → IsSoundCore p (chunk_change p core header content choices).core
  chunk_sound core header (init theirs) choices said h = answered_init_sound choices.may_answer core theirs choices h
  chunk_sound core header (init_ack theirs cookie) choices said h = init_ack_sound p core theirs cookie choices said h
  chunk_sound core header (cookie_echo cookie) choices said h = read_echo_sound p core header cookie (cookie_of_bytes cookie) choices refl h
  chunk_sound core header cookie_ack choices said h = cookie_ack_sound p core choices h
  chunk_sound core header (re_config parameters) choices said h = re_config_sound p p.follow_rfc core parameters choices h
  chunk_sound core header (abort reflected causes) choices said h = abort_sound p core h
  chunk_sound core header (shutdown tsn) choices said h =
      let stepped : Change = shutdown_change core choices.tsn choices.is_acknowledged in
      flush_change_sound stepped.core choices (shutdown_sound p core choices.tsn choices.is_acknowledged h)
  chunk_sound core header shutdown_ack choices said h = shutdown_ack_sound p core header choices.following h
  chunk_sound core header (shutdown_complete reflected) choices said h = shutdown_complete_sound p core h
  chunk_sound core header (plain chunk) choices said h = plain_sound core choices.is_violation choices h
