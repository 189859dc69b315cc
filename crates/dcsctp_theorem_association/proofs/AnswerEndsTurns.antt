-- Own requests end in a turn of RE-CONFIG alone, by the responses that it carries.
use Rattle.std.proofs.Common.{◌&&◌, ℕ, Bool, true, false, Option, None, Some, Result, Ok, Err, List, [], ◌∷◌}
use Rattle.dcsctp_spec_lemmas.specs.types.declared.association.Pair.{Pair}
use Rattle.dcsctp_spec_lemmas.specs.types.declared.association.Held.{Held}
use Rattle.dcsctp_spec_lemmas.specs.types.declared.options.Options.{Options}
use Rattle.dcsctp_spec_lemmas.specs.wire.Numbers.{state_cookie_type}
use Rattle.dcsctp_spec_lemmas.specs.spec.Cookie.{Cookie, cookie_of_bytes}
use Rattle.dcsctp_spec_lemmas.specs.spec.endpoint.Cause.{Cause, missing_mandatory_parameter, causes_of}
use Rattle.dcsctp_spec_lemmas.specs.spec.Reconfiguration.{ResetParameter, RequestedReset}
use Rattle.dcsctp_spec_lemmas.specs.spec.Packet.{Introduction, Content, init, init_ack, cookie_echo, cookie_ack, re_config, abort, shutdown, shutdown_ack, shutdown_complete, plain}
use Rattle.dcsctp_spec_lemmas.specs.spec.endpoint.Endpoint.{Core, closed, cookie_wait, cookie_echoed, open_in, OpenPhase, established, shutdown_pending, shutdown_sent, shutdown_received, shutdown_ack_sent}
use Rattle.dcsctp_spec_lemmas.specs.spec.endpoint.Following.{Following}
use Rattle.dcsctp_spec_lemmas.specs.spec.association.Effect.{Effect, completes, fails, Change}
use Rattle.dcsctp_spec_lemmas.specs.spec.association.Choices.{Filling, Choices}
use Rattle.dcsctp_spec_lemmas.specs.spec.association.FlushChanges.{further_packets, reset_request, flush}
use Rattle.dcsctp_spec_lemmas.specs.spec.association.HandshakeChanges.{introduction_of, connect_change, init_change, echo_change, held_by_init_ack, init_ack_change, cookie_ack_change, t1_again_change, t1_gives_up_change}
use Rattle.dcsctp_spec_lemmas.specs.spec.association.CookieEchoChanges.{stale_error, Resolution, establish_new, restart, simultaneous_init, discard, maintain_existing, invalid_tag, stale, aged_resolution, resolve, held_by_cookie, new_association_change, restart_change, maintain_change, resolved_change, read_echo_change}
use Rattle.dcsctp_spec_lemmas.specs.spec.association.ResetChanges.{re_config_change}
use Rattle.dcsctp_spec_lemmas.specs.spec.association.ShutdownChanges.{shutdown_call_change_echoed, shutdown_step_change_by_phase, shutdown_step_change, shutdown_call_change, abort_call_change, shutdown_again_change, abort_change, shutdown_change, shutdown_ack_change, shutdown_complete_change}
use Rattle.dcsctp_spec_lemmas.specs.spec.association.Acts.{Act, connect, t1_expires, shut_down, step_of_shutdown, shutdown_repeats, abort_with, hands_over, flushes, request_again, request_renewed, sent_then_flushed, flush_change, hand_over_change, request_sent, request_again_change, renewed_if_fitting, request_renewed_change, act_change, violation_change, plain_change, chunk_change}
use Rattle.dcsctp_theorem_association.specs.OneSide.{parameters_of_content, AnswersEndRequests}
use Rattle.dcsctp_spec_lemmas.proofs.AbortLemmas.{by_abort}
use Rattle.dcsctp_spec_lemmas.proofs.OneAnswerLemmas.{change_by}
use Rattle.dcsctp_theorem_association.proofs.AnswerEnds.{AllAnswer, answer_of, all_answer-append, alone_answers, end_answers-alone, further_answer, flush_answers, reset_answers}

-- Without responses no request of ours ends.
abbrev EndsNone : List Effect → Type 0
EndsNone effects = AllAnswer [] effects

-- ---- the handshake

connect_ends : (options : Options) (core : Core) (choices : Choices) → EndsNone (connect_change options core choices).effects
connect_ends options closed choices = (tt, alone_answers [] choices.fits 0 (init (introduction_of options choices.drawn)))
connect_ends options core choices = tt

init_ends : (options : Options) (core : Core) (theirs : Introduction) (choices : Choices) → EndsNone (init_change options core theirs choices).effects
init_ends options (cookie_wait my) theirs choices = alone_answers [] choices.fits _ _
init_ends options (cookie_echoed my held cookie) theirs choices = alone_answers [] choices.fits _ _
init_ends options (open_in shutdown_ack_sent my held) theirs choices = (tt, tt)
init_ends options core theirs choices = (tt, alone_answers [] choices.fits _ _)

echoes_end : (my : Pair) (held : Held) (cookie : List ℕ) (fits : Bool) (filling : Filling) → EndsNone (echo_change my held cookie fits filling).effects
echoes_end my held cookie false filling = tt
echoes_end my held cookie true filling = flush_answers [] held.peer.tag held (cookie_echo cookie ∷ []) filling

init_ack_ends : (options : Options) (core : Core) (theirs : Introduction) (cookie : Option (List ℕ)) (choices : Choices) → EndsNone (init_ack_change options core theirs cookie choices).effects
init_ack_ends options (cookie_wait my) theirs None choices =
    end_answers-alone [] choices.fits theirs.pair.tag (abort false (missing_mandatory_parameter (state_cookie_type ∷ []) ∷ []))
init_ack_ends options (cookie_wait my) theirs (Some cookie) choices = (tt, echoes_end my (held_by_init_ack options my theirs) cookie choices.fits choices.filling)
init_ack_ends options core theirs cookie choices = tt

cookie_ack_ends : (core : Core) (choices : Choices) → EndsNone (cookie_ack_change core choices).effects
cookie_ack_ends (cookie_echoed my held cookie) choices = (tt, flush_answers [] held.peer.tag held [] choices.filling)
cookie_ack_ends core choices = tt

t1_again_ends : (options : Options) (core : Core) (choices : Choices) → EndsNone (t1_again_change options core choices).effects
t1_again_ends options (cookie_wait my) choices = alone_answers [] choices.fits 0 (init (introduction_of options my))
t1_again_ends options (cookie_echoed my held cookie) choices = echoes_end my held cookie choices.fits choices.filling
t1_again_ends options core choices = tt

t1_gives_up_ends : (core : Core) → EndsNone (t1_gives_up_change core).effects
t1_gives_up_ends (cookie_wait my) = (tt, tt)
t1_gives_up_ends (cookie_echoed my held cookie) = (tt, tt)
t1_gives_up_ends core = tt

-- ---- COOKIE ECHO

new_ends : (options : Options) (cookie : Cookie) (choices : Choices) → EndsNone (new_association_change options cookie choices).effects
new_ends options cookie choices = (tt, (tt, flush_answers [] cookie.addressee.tag (held_by_cookie options cookie) (cookie_ack ∷ []) choices.filling))

restarts_ends : (options : Options) (core : Core) (cookie : Cookie) (choices : Choices) → EndsNone (restart_change options core cookie choices).effects
restarts_ends options (open_in shutdown_ack_sent my held) cookie choices = (tt, tt)
restarts_ends options core cookie choices = new_ends options cookie choices

maintains_ends : (core : Core) (cookie : Cookie) (choices : Choices) → EndsNone (maintain_change core cookie choices).effects
maintains_ends (cookie_echoed my held echoed) cookie choices = (tt, flush_answers [] cookie.addressee.tag held (cookie_ack ∷ []) choices.filling)
maintains_ends (open_in phase my held) cookie choices = flush_answers [] cookie.addressee.tag held (cookie_ack ∷ []) choices.filling
maintains_ends core cookie choices = tt

resolved_ends : (options : Options) (core : Core) (cookie : Cookie) (choices : Choices) (resolution : Resolution) → EndsNone (resolved_change options core cookie choices resolution).effects
resolved_ends options core cookie choices establish_new = new_ends options cookie choices
resolved_ends options core cookie choices restart = restarts_ends options core cookie choices
resolved_ends options core cookie choices simultaneous_init = new_ends options cookie choices
resolved_ends options core cookie choices discard = tt
resolved_ends options core cookie choices maintain_existing = maintains_ends core cookie choices
resolved_ends options core cookie choices invalid_tag = tt
resolved_ends options core cookie choices stale = alone_answers [] (options.follow_rfc && choices.fits) cookie.addressee.tag stale_error

echo_ends : (options : Options) (core : Core) (header : ℕ) (read : Result Cookie (List ℕ)) (choices : Choices) → EndsNone (read_echo_change options core header read choices).effects
echo_ends options core header (Err text) choices = tt
echo_ends options core header (Ok cookie) choices = resolved_ends options core cookie choices (aged_resolution choices.is_stale (resolve core choices.tie choices.secret header cookie))

-- ---- flushes and resets

sent_ends : (held : Held) (choices : Choices) → EndsNone (sent_then_flushed held choices).effects
sent_ends held choices =
    all_answer-append [] (further_packets held.peer.tag choices.plain) (flush held.peer.tag held [] choices.filling).effects (further_answer [] held.peer.tag choices.plain)
    (flush_answers [] held.peer.tag held [] choices.filling)

flush_ends : (core : Core) (choices : Choices) → EndsNone (flush_change core choices).effects
flush_ends (cookie_echoed my held cookie) choices = sent_ends held choices
flush_ends (open_in phase my held) choices = sent_ends held choices
flush_ends core choices = tt

re_config_answers : (follows : Bool) (core : Core) (parameters : List ResetParameter) (choices : Choices) → AllAnswer parameters (re_config_change follows core parameters choices).effects
re_config_answers true (cookie_echoed my held cookie) parameters choices = tt
re_config_answers false (cookie_echoed my held cookie) parameters choices = reset_answers my held parameters choices
re_config_answers follows (open_in phase my held) parameters choices = reset_answers my held parameters choices
re_config_answers follows core parameters choices = tt

request_sent_ends : (held : Held) (request : Option ℕ) (reset : RequestedReset) (fits : Bool) → EndsNone (request_sent held request reset fits)
request_sent_ends held None reset fits = tt
request_sent_ends held (Some number) reset fits = alone_answers [] fits held.peer.tag (reset_request number reset)

request_again_ends : (core : Core) (reset : RequestedReset) (fits : Bool) → EndsNone (request_again_change core reset fits).effects
request_again_ends (cookie_echoed my held cookie) reset fits = request_sent_ends held held.own_outstanding reset fits
request_again_ends (open_in phase my held) reset fits = request_sent_ends held held.own_outstanding reset fits
request_again_ends core reset fits = tt

renewed_ends : (held : Held) (request : Option ℕ) (reset : RequestedReset) (fits : Bool) → EndsNone (renewed_if_fitting held request reset fits).effects
renewed_ends held None reset fits = tt
renewed_ends held (Some number) reset false = tt
renewed_ends held (Some number) reset true = (tt, (tt, (tt, tt)))

request_renewed_ends : (core : Core) (reset : RequestedReset) (fits : Bool) → EndsNone (request_renewed_change core reset fits).effects
request_renewed_ends (cookie_echoed my held cookie) reset fits = renewed_ends held held.own_outstanding reset fits
request_renewed_ends (open_in phase my held) reset fits = renewed_ends held held.own_outstanding reset fits
request_renewed_ends core reset fits = tt

-- ---- shutdown

step_ends_in : (phase : OpenPhase) (my : Pair) (held : Held) (tsn : ℕ) (is_acknowledged : Bool) → EndsNone (shutdown_step_change_by_phase phase my held tsn is_acknowledged).effects
step_ends_in shutdown_pending my held tsn false = tt
step_ends_in shutdown_pending my held tsn true = (tt, tt)
step_ends_in shutdown_received my held tsn false = tt
step_ends_in shutdown_received my held tsn true = (tt, tt)
step_ends_in phase my held tsn is_acknowledged = tt

step_ends : (core : Core) (tsn : ℕ) (is_acknowledged : Bool) → EndsNone (shutdown_step_change core tsn is_acknowledged).effects
step_ends (open_in phase my held) tsn is_acknowledged = step_ends_in phase my held tsn is_acknowledged
step_ends core tsn is_acknowledged = tt

echoed_ends : (follows : Bool) (my : Pair) (held : Held) (cookie : List ℕ) (tsn : ℕ) (is_acknowledged : Bool) → EndsNone (shutdown_call_change_echoed follows my held cookie tsn is_acknowledged).effects
echoed_ends true my held cookie tsn is_acknowledged = tt
echoed_ends false my held cookie tsn is_acknowledged = step_ends_in shutdown_pending my held tsn is_acknowledged

call_ends : (options : Options) (core : Core) (tsn : ℕ) (is_acknowledged : Bool) → EndsNone (shutdown_call_change options core tsn is_acknowledged).effects
call_ends options (cookie_wait my) tsn is_acknowledged = (tt, tt)
call_ends options (cookie_echoed my held cookie) tsn is_acknowledged = echoed_ends options.follow_rfc my held cookie tsn is_acknowledged
call_ends options (open_in established my held) tsn is_acknowledged = step_ends_in shutdown_pending my held tsn is_acknowledged
call_ends options core tsn is_acknowledged = tt

aborts_end : (core : Core) (causes : List Cause) (fits : Bool) → EndsNone (abort_call_change core causes fits).effects
aborts_end (cookie_wait my) causes fits = (tt, tt)
aborts_end (cookie_echoed my held cookie) causes fits = end_answers-alone [] fits held.peer.tag (abort false causes)
aborts_end (open_in phase my held) causes fits = end_answers-alone [] fits held.peer.tag (abort false causes)
aborts_end core causes fits = tt

again_ends : (core : Core) (tsn : ℕ) → EndsNone (shutdown_again_change core tsn).effects
again_ends (open_in shutdown_sent my held) tsn = (tt, tt)
again_ends (open_in shutdown_ack_sent my held) tsn = (tt, tt)
again_ends core tsn = tt

abort_ends : (options : Options) (core : Core) → EndsNone (abort_change options core).effects
abort_ends options core = by_abort (λ change. EndsNone change.effects) options core (tt, tt) tt

shutdown_ends : (core : Core) (tsn : ℕ) (is_acknowledged : Bool) → EndsNone (shutdown_change core tsn is_acknowledged).effects
shutdown_ends (open_in established my held) tsn is_acknowledged = step_ends_in shutdown_received my held tsn is_acknowledged
shutdown_ends (open_in shutdown_pending my held) tsn is_acknowledged = step_ends_in shutdown_received my held tsn is_acknowledged
shutdown_ends (open_in shutdown_sent my held) tsn is_acknowledged = (tt, tt)
shutdown_ends (open_in shutdown_received my held) tsn is_acknowledged = step_ends_in shutdown_received my held tsn is_acknowledged
shutdown_ends (open_in shutdown_ack_sent my held) tsn is_acknowledged = (tt, tt)
shutdown_ends core tsn is_acknowledged = tt

shutdown_ack_ends : (core : Core) (header : ℕ) (following : Following) → EndsNone (shutdown_ack_change core header following).effects
shutdown_ack_ends (open_in shutdown_sent my held) header following = (tt, (tt, tt))
shutdown_ack_ends (open_in shutdown_ack_sent my held) header following = (tt, (tt, tt))
shutdown_ack_ends core header following = (tt, tt)

shutdown_complete_ends : (core : Core) → EndsNone (shutdown_complete_change core).effects
shutdown_complete_ends (open_in shutdown_ack_sent my held) = (tt, tt)
shutdown_complete_ends core = tt

hand_over_ends : (core : Core) → EndsNone (hand_over_change core).effects
hand_over_ends (open_in established my held) = (tt, tt)
hand_over_ends core = tt

-- ---- every turn

act_ends : (options : Options) (core : Core) (act : Act) (choices : Choices) → EndsNone (act_change options core act choices).effects
act_ends options core connect choices = connect_ends options core choices
act_ends options core (t1_expires true) choices = t1_again_ends options core choices
act_ends options core (t1_expires false) choices = t1_gives_up_ends core
act_ends options core shut_down choices = call_ends options core choices.tsn choices.is_acknowledged
act_ends options core step_of_shutdown choices = step_ends core choices.tsn choices.is_acknowledged
act_ends options core shutdown_repeats choices = again_ends core choices.tsn
act_ends options core (abort_with reason) choices = aborts_end core (causes_of reason) choices.fits
act_ends options core hands_over choices = hand_over_ends core
act_ends options core flushes choices = flush_ends core choices
act_ends options core (request_again reset) choices = request_again_ends core reset choices.fits
act_ends options core (request_renewed reset) choices = request_renewed_ends core reset choices.fits

violation_ends : (core : Core) (choices : Choices) → EndsNone (violation_change core choices).effects
violation_ends (cookie_echoed my held cookie) choices = aborts_end (cookie_echoed my held cookie) choices.causes choices.fits
violation_ends (open_in phase my held) choices = aborts_end (open_in phase my held) choices.causes choices.fits
violation_ends core choices = tt

other_ends : (core : Core) (is_violation : Bool) (choices : Choices) → EndsNone (plain_change core is_violation choices).effects
other_ends core true choices = violation_ends core choices
other_ends core false choices =
    let stepped : Change = shutdown_step_change core choices.tsn choices.is_acknowledged in
    all_answer-append [] stepped.effects (flush_change stepped.core choices).effects (step_ends core choices.tsn choices.is_acknowledged) (flush_ends stepped.core choices)

chunk_answers : (options : Options) (core : Core) (header : ℕ) (content : Content) (choices : Choices)
    → AllAnswer (parameters_of_content content) (chunk_change options core header content choices).effects
chunk_answers options core header (init theirs) choices = change_by (λ change. EndsNone change.effects) options core theirs choices tt (init_ends options core theirs choices)
chunk_answers options core header (init_ack theirs cookie) choices = init_ack_ends options core theirs cookie choices
chunk_answers options core header (cookie_echo cookie) choices = echo_ends options core header (cookie_of_bytes cookie) choices
chunk_answers options core header cookie_ack choices = cookie_ack_ends core choices
chunk_answers options core header (re_config parameters) choices = re_config_answers options.follow_rfc core parameters choices
chunk_answers options core header (abort reflected causes) choices = abort_ends options core
chunk_answers options core header (shutdown cumulative_tsn) choices =
    let stepped : Change = shutdown_change core choices.tsn choices.is_acknowledged in
    all_answer-append [] stepped.effects (flush_change stepped.core choices).effects (shutdown_ends core choices.tsn choices.is_acknowledged) (flush_ends stepped.core choices)
chunk_answers options core header shutdown_ack choices = shutdown_ack_ends core header choices.following
chunk_answers options core header (shutdown_complete reflected) choices = shutdown_complete_ends core
chunk_answers options core header (plain chunk) choices = other_ends core choices.is_violation choices

pub answers_end_requests : AnswersEndRequests
answers_end_requests = record {
  completed = λ options core header content choices my number h.
      answer_of (parameters_of_content content) (completes my number) (chunk_change options core header content choices).effects (chunk_answers options core header content choices) h;
  failed = λ options core header content choices number h.
      answer_of (parameters_of_content content) (fails number) (chunk_change options core header content choices).effects (chunk_answers options core header content choices) h;
  none_completed = λ options core act choices my number h. answer_of [] (completes my number) (act_change options core act choices).effects (act_ends options core act choices) h;
  none_failed = λ options core act choices number h. answer_of [] (fails number) (act_change options core act choices).effects (act_ends options core act choices) h;
}
