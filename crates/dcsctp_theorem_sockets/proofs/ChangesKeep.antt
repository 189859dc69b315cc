-- If rules on cookies hold of what is received, they hold of what is sent, and of the
-- association after it: the only cookie that an association echoes is that of an INIT ACK.
use Rattle.std.proofs.Common.{ℕ, ◌&&◌, Bool, true, false, Option, None, Some, List, [], ◌∷◌, Result, Ok, Err}
use Rattle.dcsctp_spec_lemmas.specs.types.declared.association.Pair.{Pair}
use Rattle.dcsctp_spec_lemmas.specs.types.declared.association.Held.{Held}
use Rattle.dcsctp_spec_lemmas.specs.types.declared.options.Options.{Options}
use Rattle.dcsctp_spec_lemmas.specs.spec.endpoint.Cause.{Cause, causes_of}
use Rattle.dcsctp_spec_lemmas.specs.spec.Cookie.{Cookie, cookie_of_bytes}
use Rattle.dcsctp_spec_lemmas.specs.spec.Packet.{Introduction, Content, init, init_ack, cookie_echo, cookie_ack, re_config, abort, shutdown, shutdown_ack, shutdown_complete, plain}
use Rattle.dcsctp_spec_lemmas.specs.spec.endpoint.Endpoint.{Core, closed, cookie_wait, cookie_echoed, open_in, OpenPhase, established, shutdown_pending, shutdown_sent, shutdown_received, shutdown_ack_sent}
use Rattle.dcsctp_spec_lemmas.specs.spec.endpoint.Following.{Following}
use Rattle.dcsctp_spec_lemmas.specs.spec.association.Effect.{Effect, ends, Change, ending_change}
use Rattle.dcsctp_spec_lemmas.specs.spec.association.Choices.{Filling, Choices}
use Rattle.dcsctp_spec_lemmas.specs.spec.association.HandshakeChanges.{introduction_of, answering_introduction, connect_change, sends_init_ack, init_change, echo_change, held_by_init_ack, init_ack_change, cookie_ack_change, t1_again_change, t1_gives_up_change}
use Rattle.dcsctp_spec_lemmas.specs.spec.association.CookieEchoChanges.{stale_error, Resolution, establish_new, restart, simultaneous_init, discard, maintain_existing, invalid_tag, stale, aged_resolution, resolve, held_by_cookie, new_association_change, restart_change, maintain_change, resolved_change, read_echo_change}
use Rattle.dcsctp_spec_lemmas.specs.spec.association.ShutdownChanges.{shutdown_call_change_echoed, shutdown_step_change_by_phase, shutdown_step_change, shutdown_call_change, abort_call_change, shutdown_again_change, abort_change, shutdown_change, shutdown_ack_change, shutdown_complete_change}
use Rattle.dcsctp_spec_lemmas.specs.spec.association.Acts.{Act, connect, t1_expires, shut_down, step_of_shutdown, shutdown_repeats, abort_with, hands_over, flushes, request_again, request_renewed, flush_change, hand_over_change, act_change, violation_change, plain_change, shutdown_chunk_change, chunk_change}
use Rattle.dcsctp_spec_lemmas.proofs.AbortLemmas.{by_abort}
use Rattle.dcsctp_spec_lemmas.proofs.OneAnswerLemmas.{change_by}
use Rattle.dcsctp_theorem_sockets.proofs.CookieRules.{Rules, EffectsKeep, CoreKeeps, ChangeKeeps, TakenKeeps, AnswerKeeps, unchanged_keeps, effects_append, alone_keeps, flush_keeps, sent_keeps}
use Rattle.dcsctp_theorem_sockets.proofs.ResetsKeep.{re_config_keeps, request_again_keeps, request_renewed_keeps}

module _ (rules : Rules) where
  -- the association ends, after these effects
  ended_keeps : (before : List Effect) → EffectsKeep rules before → ChangeKeeps rules (ending_change before)
  ended_keeps before h = record { effects = effects_append rules before (ends ∷ []) h (tt, tt); core = tt }

  -- ---- the handshake

  connect_keeps : (options : Options) (core : Core) (choices : Choices) → CoreKeeps rules core → ChangeKeeps rules (connect_change options core choices)
  connect_keeps options closed choices h = record { effects = (tt, alone_keeps rules choices.fits 0 (init (introduction_of options choices.drawn)) tt); core = tt }
  connect_keeps options core choices h = unchanged_keeps rules core h

  answer_keeps : (options : Options) (theirs : Introduction) (mine : Pair) (choices : Choices) → rules.given choices.cookie → EffectsKeep rules (sends_init_ack options theirs mine choices)
  answer_keeps options theirs mine choices made = alone_keeps rules choices.fits theirs.pair.tag (init_ack (answering_introduction options theirs mine) (Some choices.cookie)) made

  init_keeps : (options : Options) (core : Core) (theirs : Introduction) (choices : Choices) → CoreKeeps rules core → rules.given choices.cookie → ChangeKeeps rules (init_change options core theirs choices)
  init_keeps options (cookie_wait my) theirs choices h made = record { effects = answer_keeps options theirs my choices made; core = h }
  init_keeps options (cookie_echoed my held bytes) theirs choices h made = record { effects = answer_keeps options theirs my choices made; core = h }
  init_keeps options (open_in shutdown_ack_sent my held) theirs choices h made = record { effects = ((tt, tt), tt); core = h }
  init_keeps options core theirs choices h made = record { effects = (tt, answer_keeps options theirs choices.drawn choices made); core = h }

  echo_keeps : (my : Pair) (held : Held) (bytes : List ℕ) (fits : Bool) (filling : Filling) → rules.echoed bytes → ChangeKeeps rules (echo_change my held bytes fits filling)
  echo_keeps my held bytes false filling h = record { effects = tt; core = h }
  echo_keeps my held bytes true filling h = record { effects = flush_keeps rules held.peer.tag held (cookie_echo bytes ∷ []) filling (h, tt); core = h }

  init_ack_keeps : (options : Options) (core : Core) (theirs : Introduction) (cookie : Option (List ℕ)) (choices : Choices)
      → CoreKeeps rules core → TakenKeeps rules (init_ack theirs cookie) → ChangeKeeps rules (init_ack_change options core theirs cookie choices)
  init_ack_keeps options (cookie_wait my) theirs None choices h k = ended_keeps _ (alone_keeps rules choices.fits theirs.pair.tag _ tt)
  init_ack_keeps options (cookie_wait my) theirs (Some bytes) choices h k =
      let echoed : ChangeKeeps rules (echo_change my (held_by_init_ack options my theirs) bytes choices.fits choices.filling) =
      echo_keeps my (held_by_init_ack options my theirs) bytes choices.fits choices.filling k in
      record { effects = (tt, echoed.effects); core = echoed.core }
  init_ack_keeps options core theirs cookie choices h k = unchanged_keeps rules core h

  cookie_ack_keeps : (core : Core) (choices : Choices) → CoreKeeps rules core → ChangeKeeps rules (cookie_ack_change core choices)
  cookie_ack_keeps (cookie_echoed my held bytes) choices h = record { effects = (tt, flush_keeps rules held.peer.tag held [] choices.filling tt); core = tt }
  cookie_ack_keeps core choices h = unchanged_keeps rules core h

  t1_again_keeps : (options : Options) (core : Core) (choices : Choices) → CoreKeeps rules core → ChangeKeeps rules (t1_again_change options core choices)
  t1_again_keeps options (cookie_wait my) choices h = record { effects = alone_keeps rules choices.fits 0 (init (introduction_of options my)) tt; core = h }
  t1_again_keeps options (cookie_echoed my held bytes) choices h = echo_keeps my held bytes choices.fits choices.filling h
  t1_again_keeps options core choices h = unchanged_keeps rules core h

  t1_gives_up_keeps : (core : Core) → CoreKeeps rules core → ChangeKeeps rules (t1_gives_up_change core)
  t1_gives_up_keeps (cookie_wait my) h = ended_keeps [] tt
  t1_gives_up_keeps (cookie_echoed my held bytes) h = ended_keeps [] tt
  t1_gives_up_keeps core h = unchanged_keeps rules core h

  -- ---- COOKIE ECHO

  new_keeps : (options : Options) (cookie : Cookie) (choices : Choices) → ChangeKeeps rules (new_association_change options cookie choices)
  new_keeps options cookie choices =
      record { effects = (tt, (tt, flush_keeps rules cookie.addressee.tag (held_by_cookie options cookie) (cookie_ack ∷ []) choices.filling (tt, tt))); core = tt }

  restart_keeps : (options : Options) (core : Core) (cookie : Cookie) (choices : Choices) → ChangeKeeps rules (restart_change options core cookie choices)
  restart_keeps options (open_in shutdown_ack_sent my held) cookie choices = record { effects = ((tt, (tt, tt)), tt); core = tt }
  restart_keeps options core cookie choices = new_keeps options cookie choices

  maintain_keeps : (core : Core) (cookie : Cookie) (choices : Choices) → CoreKeeps rules core → ChangeKeeps rules (maintain_change core cookie choices)
  maintain_keeps (cookie_echoed my held bytes) cookie choices h =
      record { effects = (tt, flush_keeps rules cookie.addressee.tag held (cookie_ack ∷ []) choices.filling (tt, tt)); core = tt }
  maintain_keeps (open_in phase my held) cookie choices h = record { effects = flush_keeps rules cookie.addressee.tag held (cookie_ack ∷ []) choices.filling (tt, tt); core = tt }
  maintain_keeps core cookie choices h = unchanged_keeps rules core h

  resolved_keeps : (options : Options) (core : Core) (cookie : Cookie) (choices : Choices) (resolution : Resolution) → CoreKeeps rules core
      → ChangeKeeps rules (resolved_change options core cookie choices resolution)
  resolved_keeps options core cookie choices establish_new h = new_keeps options cookie choices
  resolved_keeps options core cookie choices restart h = restart_keeps options core cookie choices
  resolved_keeps options core cookie choices simultaneous_init h = new_keeps options cookie choices
  resolved_keeps options core cookie choices discard h = record { effects = tt; core = h }
  resolved_keeps options core cookie choices maintain_existing h = maintain_keeps core cookie choices h
  resolved_keeps options core cookie choices invalid_tag h = record { effects = tt; core = h }
  resolved_keeps options core cookie choices stale h = record { effects = alone_keeps rules (options.follow_rfc && choices.fits) cookie.addressee.tag stale_error tt; core = h }

  cookie_echo_keeps : (options : Options) (core : Core) (header : ℕ) (read : Result Cookie (List ℕ)) (choices : Choices) → CoreKeeps rules core
      → ChangeKeeps rules (read_echo_change options core header read choices)
  cookie_echo_keeps options core header (Err text) choices h = record { effects = tt; core = h }
  cookie_echo_keeps options core header (Ok cookie) choices h = resolved_keeps options core cookie choices (aged_resolution choices.is_stale (resolve core choices.tie choices.secret header cookie)) h

  -- ---- shutdown and ends

  step_keeps_in : (phase : OpenPhase) (my : Pair) (held : Held) (tsn : ℕ) (is_acknowledged : Bool) → ChangeKeeps rules (shutdown_step_change_by_phase phase my held tsn is_acknowledged)
  step_keeps_in shutdown_pending my held tsn true = record { effects = ((tt, tt), tt); core = tt }
  step_keeps_in shutdown_received my held tsn true = record { effects = ((tt, tt), tt); core = tt }
  step_keeps_in phase my held tsn is_acknowledged = record { effects = tt; core = tt }

  step_keeps : (core : Core) (tsn : ℕ) (is_acknowledged : Bool) → CoreKeeps rules core → ChangeKeeps rules (shutdown_step_change core tsn is_acknowledged)
  step_keeps (open_in phase my held) tsn is_acknowledged h = step_keeps_in phase my held tsn is_acknowledged
  step_keeps core tsn is_acknowledged h = unchanged_keeps rules core h

  echoed_keeps : (follows : Bool) (my : Pair) (held : Held) (bytes : List ℕ) (tsn : ℕ) (is_acknowledged : Bool) → CoreKeeps rules (cookie_echoed my held bytes)
      → ChangeKeeps rules (shutdown_call_change_echoed follows my held bytes tsn is_acknowledged)
  echoed_keeps true my held bytes tsn is_acknowledged h = unchanged_keeps rules (cookie_echoed my held bytes) h
  echoed_keeps false my held bytes tsn is_acknowledged h = step_keeps_in shutdown_pending my held tsn is_acknowledged

  call_keeps : (options : Options) (core : Core) (tsn : ℕ) (is_acknowledged : Bool) → CoreKeeps rules core → ChangeKeeps rules (shutdown_call_change options core tsn is_acknowledged)
  call_keeps options (cookie_wait my) tsn is_acknowledged h = ended_keeps [] tt
  call_keeps options (cookie_echoed my held bytes) tsn is_acknowledged h = echoed_keeps options.follow_rfc my held bytes tsn is_acknowledged h
  call_keeps options (open_in established my held) tsn is_acknowledged h = step_keeps_in shutdown_pending my held tsn is_acknowledged
  call_keeps options core tsn is_acknowledged h = unchanged_keeps rules core h

  aborting_keeps : (core : Core) (causes : List Cause) (fits : Bool) → CoreKeeps rules core → ChangeKeeps rules (abort_call_change core causes fits)
  aborting_keeps closed causes fits h = unchanged_keeps rules closed h
  aborting_keeps (cookie_wait my) causes fits h = ended_keeps [] tt
  aborting_keeps (cookie_echoed my held bytes) causes fits h = ended_keeps _ (alone_keeps rules fits held.peer.tag (abort false causes) tt)
  aborting_keeps (open_in phase my held) causes fits h = ended_keeps _ (alone_keeps rules fits held.peer.tag (abort false causes) tt)

  again_keeps : (core : Core) (tsn : ℕ) → CoreKeeps rules core → ChangeKeeps rules (shutdown_again_change core tsn)
  again_keeps (open_in shutdown_sent my held) tsn h = record { effects = ((tt, tt), tt); core = tt }
  again_keeps (open_in shutdown_ack_sent my held) tsn h = record { effects = ((tt, tt), tt); core = tt }
  again_keeps core tsn h = unchanged_keeps rules core h

  abort_keeps : (options : Options) (core : Core) → CoreKeeps rules core → ChangeKeeps rules (abort_change options core)
  abort_keeps options core h = by_abort (ChangeKeeps rules) options core (ended_keeps [] tt) (unchanged_keeps rules core h)

  shutdown_keeps : (core : Core) (tsn : ℕ) (is_acknowledged : Bool) → CoreKeeps rules core → ChangeKeeps rules (shutdown_change core tsn is_acknowledged)
  shutdown_keeps (open_in established my held) tsn is_acknowledged h = step_keeps_in shutdown_received my held tsn is_acknowledged
  shutdown_keeps (open_in shutdown_pending my held) tsn is_acknowledged h = step_keeps_in shutdown_received my held tsn is_acknowledged
  shutdown_keeps (open_in shutdown_sent my held) tsn is_acknowledged h = record { effects = ((tt, tt), tt); core = tt }
  shutdown_keeps (open_in shutdown_received my held) tsn is_acknowledged h = step_keeps_in shutdown_received my held tsn is_acknowledged
  shutdown_keeps (open_in shutdown_ack_sent my held) tsn is_acknowledged h = record { effects = ((tt, tt), tt); core = tt }
  shutdown_keeps core tsn is_acknowledged h = unchanged_keeps rules core h

  shutdown_ack_keeps : (core : Core) (header : ℕ) (following : Following) → CoreKeeps rules core → ChangeKeeps rules (shutdown_ack_change core header following)
  shutdown_ack_keeps (open_in shutdown_sent my held) header following h = record { effects = ((tt, tt), (tt, tt)); core = tt }
  shutdown_ack_keeps (open_in shutdown_ack_sent my held) header following h = record { effects = ((tt, tt), (tt, tt)); core = tt }
  shutdown_ack_keeps core header following h = record { effects = ((tt, tt), tt); core = h }

  shutdown_complete_keeps : (core : Core) → CoreKeeps rules core → ChangeKeeps rules (shutdown_complete_change core)
  shutdown_complete_keeps (open_in shutdown_ack_sent my held) h = ended_keeps [] tt
  shutdown_complete_keeps core h = unchanged_keeps rules core h

  hand_over_keeps : (core : Core) → CoreKeeps rules core → ChangeKeeps rules (hand_over_change core)
  hand_over_keeps (open_in established my held) h = ended_keeps [] tt
  hand_over_keeps core h = unchanged_keeps rules core h

  -- ---- flushes, and chunks that don't concern the association

  flush_change_keeps : (core : Core) (choices : Choices) → CoreKeeps rules core → ChangeKeeps rules (flush_change core choices)
  flush_change_keeps (cookie_echoed my held bytes) choices h = record { effects = sent_keeps rules held choices; core = h }
  flush_change_keeps (open_in phase my held) choices h = record { effects = sent_keeps rules held choices; core = h }
  flush_change_keeps core choices h = unchanged_keeps rules core h

  violation_keeps : (core : Core) (choices : Choices) → CoreKeeps rules core → ChangeKeeps rules (violation_change core choices)
  violation_keeps (cookie_echoed my held bytes) choices h = aborting_keeps (cookie_echoed my held bytes) choices.causes choices.fits h
  violation_keeps (open_in phase my held) choices h = aborting_keeps (open_in phase my held) choices.causes choices.fits h
  violation_keeps core choices h = unchanged_keeps rules core h

  plain_change_keeps : (core : Core) (is_violation : Bool) (choices : Choices) → CoreKeeps rules core → ChangeKeeps rules (plain_change core is_violation choices)
  plain_change_keeps core true choices h = violation_keeps core choices h
  plain_change_keeps core false choices h =
      let stepped : Change = shutdown_step_change core choices.tsn choices.is_acknowledged in
      let first : ChangeKeeps rules stepped = step_keeps core choices.tsn choices.is_acknowledged h in
      let second : ChangeKeeps rules (flush_change stepped.core choices) = flush_change_keeps stepped.core choices first.core in
      record { effects = effects_append rules stepped.effects (flush_change stepped.core choices).effects first.effects second.effects; core = second.core }

  heard_keeps : (core : Core) (choices : Choices) → CoreKeeps rules core → ChangeKeeps rules (shutdown_chunk_change core choices)
  heard_keeps core choices h =
      let stepped : Change = shutdown_change core choices.tsn choices.is_acknowledged in
      let first : ChangeKeeps rules stepped = shutdown_keeps core choices.tsn choices.is_acknowledged h in
      let second : ChangeKeeps rules (flush_change stepped.core choices) = flush_change_keeps stepped.core choices first.core in
      record { effects = effects_append rules stepped.effects (flush_change stepped.core choices).effects first.effects second.effects; core = second.core }

  -- ---- each act and each chunk

  pub act_keeps : (options : Options) (core : Core) (act : Act) (choices : Choices) → CoreKeeps rules core → ChangeKeeps rules (act_change options core act choices)
  act_keeps options core connect choices h = connect_keeps options core choices h
  act_keeps options core (t1_expires true) choices h = t1_again_keeps options core choices h
  act_keeps options core (t1_expires false) choices h = t1_gives_up_keeps core h
  act_keeps options core shut_down choices h = call_keeps options core choices.tsn choices.is_acknowledged h
  act_keeps options core step_of_shutdown choices h = step_keeps core choices.tsn choices.is_acknowledged h
  act_keeps options core shutdown_repeats choices h = again_keeps core choices.tsn h
  act_keeps options core (abort_with reason) choices h = aborting_keeps core (causes_of reason) choices.fits h
  act_keeps options core hands_over choices h = hand_over_keeps core h
  act_keeps options core flushes choices h = flush_change_keeps core choices h
  act_keeps options core (request_again reset) choices h = request_again_keeps rules core reset choices.fits h
  act_keeps options core (request_renewed reset) choices h = request_renewed_keeps rules core reset choices.fits h

  pub chunk_keeps : (options : Options) (core : Core) (header : ℕ) (content : Content) (choices : Choices) → CoreKeeps rules core → TakenKeeps rules content
      → AnswerKeeps rules content choices → ChangeKeeps rules (chunk_change options core header content choices)
  chunk_keeps options core header (init theirs) choices h k made =
      change_by (ChangeKeeps rules) options core theirs choices (unchanged_keeps rules core h) (init_keeps options core theirs choices h made)
  chunk_keeps options core header (init_ack theirs cookie) choices h k made = init_ack_keeps options core theirs cookie choices h k
  chunk_keeps options core header (cookie_echo bytes) choices h k made = cookie_echo_keeps options core header (cookie_of_bytes bytes) choices h
  chunk_keeps options core header cookie_ack choices h k made = cookie_ack_keeps core choices h
  chunk_keeps options core header (re_config parameters) choices h k made = re_config_keeps rules options.follow_rfc core parameters choices h
  chunk_keeps options core header (abort reflected causes) choices h k made = abort_keeps options core h
  chunk_keeps options core header (shutdown tsn) choices h k made = heard_keeps core choices h
  chunk_keeps options core header shutdown_ack choices h k made = shutdown_ack_keeps core header choices.following h
  chunk_keeps options core header (shutdown_complete reflected) choices h k made = shutdown_complete_keeps core h
  chunk_keeps options core header (plain chunk) choices h k made = plain_change_keeps core choices.is_violation choices h
