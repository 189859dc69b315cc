-- A turn ends the association with one end event, or doesn't end it and adds none.
use Rattle.std.proofs.Common.{◌&&◌, ◌≡◌, ℕ, Bool, true, false, Option, None, Some, Result, Ok, Err, List, [], ◌∷◌, refl, sym, subst}
use Rattle.dcsctp_spec_lemmas.specs.types.declared.association.Pair.{Pair}
use Rattle.dcsctp_spec_lemmas.specs.types.declared.association.Held.{Held}
use Rattle.dcsctp_spec_lemmas.specs.types.declared.options.Options.{Options}
use Rattle.dcsctp_spec_lemmas.specs.spec.Cookie.{Cookie, cookie_of_bytes}
use Rattle.dcsctp_spec_lemmas.specs.spec.endpoint.Cause.{Cause, causes_of}
use Rattle.dcsctp_spec_lemmas.specs.spec.Reconfiguration.{ResetParameter, RequestedReset}
use Rattle.dcsctp_spec_lemmas.specs.spec.Packet.{Introduction, Content, init, init_ack, cookie_echo, cookie_ack, re_config, abort, shutdown, shutdown_ack, shutdown_complete, plain}
use Rattle.dcsctp_spec_lemmas.specs.spec.endpoint.Endpoint.{Core, closed, cookie_wait, cookie_echoed, open_in, OpenPhase, established, shutdown_pending, shutdown_sent, shutdown_received, shutdown_ack_sent}
use Rattle.dcsctp_spec_lemmas.specs.spec.endpoint.Following.{Following, next_chunk}
use Rattle.dcsctp_spec_lemmas.specs.spec.association.Effect.{AssociationIdentity, Effect, holds, Change, identity_of}
use Rattle.dcsctp_spec_lemmas.specs.spec.association.Choices.{Filling, Choices}
use Rattle.dcsctp_spec_lemmas.specs.spec.association.FlushChanges.{reset_request}
use Rattle.dcsctp_spec_lemmas.specs.spec.association.HandshakeChanges.{connect_change, init_change, echo_change, held_by_init_ack, init_ack_change, cookie_ack_change, t1_again_change, t1_gives_up_change}
use Rattle.dcsctp_spec_lemmas.specs.spec.association.CookieEchoChanges.{stale_error, Resolution, establish_new, restart, simultaneous_init, discard, maintain_existing, invalid_tag, stale, aged_resolution, resolve, held_by_cookie, new_association_change, restart_change, maintain_change, resolved_change, read_echo_change}
use Rattle.dcsctp_spec_lemmas.specs.spec.association.ResetChanges.{re_config_change}
use Rattle.dcsctp_spec_lemmas.specs.spec.association.ShutdownChanges.{shutdown_call_change_echoed, shutdown_step_change_by_phase, shutdown_step_change, shutdown_call_change, abort_call_change, shutdown_again_change, abort_change, shutdown_ack_change, shutdown_complete_change}
use Rattle.dcsctp_spec_lemmas.specs.spec.association.Acts.{Act, connect, t1_expires, shut_down, step_of_shutdown, shutdown_repeats, abort_with, hands_over, flushes, request_again, request_renewed, flush_change, hand_over_change, request_sent, request_again_change, renewed_if_fitting, request_renewed_change, act_change, then_changes, violation_change, plain_change, chunk_change, shutdown_chunk_change}
use Rattle.dcsctp_spec_runs.specs.World.{acted, worked, resumed}
use Rattle.dcsctp_theorem_association.specs.OneSide.{count_of_ends, OneEnd, it_ends, it_stays, EndsOnce}
use Rattle.dcsctp_spec_lemmas.proofs.AbortLemmas.{by_abort}
use Rattle.dcsctp_spec_lemmas.proofs.OneAnswerLemmas.{change_by}
use Rattle.dcsctp_theorem_association.proofs.OneSideNoEnds.{no_ends-alone, one_end-alone, no_ends-flush, no_ends-sent, no_ends-reset}

-- ---- how a turn may go

-- The association stays as it is.
stays : {core : Core} {effects : List Effect} {following : Following} → count_of_ends effects ≡ 0 → OneEnd core (record { core = core; effects = effects; following = following })
stays none = it_stays (λ e. e) none

-- One with a peer is there afterwards.
stays_open : {core : Core} {phase : OpenPhase} {my : Pair} {held : Held} {effects : List Effect} {following : Following} → count_of_ends effects ≡ 0
    → OneEnd core (record { core = open_in phase my held; effects = effects; following = following })
stays_open none = it_stays (λ e. absurd (cc)) none

stays_echoed : {core : Core} {my : Pair} {held : Held} {cookie : List ℕ} {effects : List Effect} {following : Following} → count_of_ends effects ≡ 0
    → OneEnd core (record { core = cookie_echoed my held cookie; effects = effects; following = following })
stays_echoed none = it_stays (λ e. absurd (cc)) none

-- It ends.
ends_wait : {my : Pair} {effects : List Effect} {following : Following} → count_of_ends effects ≡ 1 → OneEnd (cookie_wait my) (record { core = closed; effects = effects; following = following })
ends_wait one = it_ends (λ e. absurd (cc)) refl one

ends_echoed : {my : Pair} {held : Held} {cookie : List ℕ} {effects : List Effect} {following : Following} → count_of_ends effects ≡ 1
    → OneEnd (cookie_echoed my held cookie) (record { core = closed; effects = effects; following = following })
ends_echoed one = it_ends (λ e. absurd (cc)) refl one

ends_open : {phase : OpenPhase} {my : Pair} {held : Held} {effects : List Effect} {following : Following} → count_of_ends effects ≡ 1
    → OneEnd (open_in phase my held) (record { core = closed; effects = effects; following = following })
ends_open one = it_ends (λ e. absurd (cc)) refl one

-- ---- the handshake

connect_ends_once : (options : Options) (core : Core) (choices : Choices) → OneEnd core (connect_change options core choices)
connect_ends_once options closed choices = it_stays (λ e. refl) (no_ends-alone choices.fits _ _)
connect_ends_once options core choices = stays refl

init_ends_once : (options : Options) (core : Core) (theirs : Introduction) (choices : Choices) → OneEnd core (init_change options core theirs choices)
init_ends_once options (open_in shutdown_ack_sent my held) theirs choices = stays refl
init_ends_once options core theirs choices = stays (no_ends-alone choices.fits _ _)

echoes_ends_once : (core : Core) (my : Pair) (held : Held) (cookie : List ℕ) (fits : Bool) (filling : Filling) → OneEnd core (echo_change my held cookie fits filling)
echoes_ends_once core my held cookie false filling = stays_echoed refl
echoes_ends_once core my held cookie true filling = stays_echoed (no_ends-flush held.peer.tag held (cookie_echo cookie ∷ []) filling)

-- with an effect in front that is no end
holds_ends_once : (link : AssociationIdentity) (core : Core) (change : Change) → OneEnd core change → OneEnd core (record change { effects = holds link ∷ change.effects })
holds_ends_once link core change (it_ends a b c) = it_ends a b c
holds_ends_once link core change (it_stays a b) = it_stays a b

init_ack_ends_once : (options : Options) (core : Core) (theirs : Introduction) (cookie : Option (List ℕ)) (choices : Choices) → OneEnd core (init_ack_change options core theirs cookie choices)
init_ack_ends_once options (cookie_wait my) theirs None choices = ends_wait (one_end-alone choices.fits _ _)
init_ack_ends_once options (cookie_wait my) theirs (Some cookie) choices =
    let held : Held = held_by_init_ack options my theirs in
    holds_ends_once (identity_of my held) (cookie_wait my) (echo_change my held cookie choices.fits choices.filling) (echoes_ends_once (cookie_wait my) my held cookie choices.fits choices.filling)
init_ack_ends_once options core theirs cookie choices = stays refl

cookie_ack_ends_once : (core : Core) (choices : Choices) → OneEnd core (cookie_ack_change core choices)
cookie_ack_ends_once (cookie_echoed my held cookie) choices = stays_open (no_ends-flush held.peer.tag held [] choices.filling)
cookie_ack_ends_once core choices = stays refl

t1_again_ends_once : (options : Options) (core : Core) (choices : Choices) → OneEnd core (t1_again_change options core choices)
t1_again_ends_once options (cookie_wait my) choices = stays (no_ends-alone choices.fits _ _)
t1_again_ends_once options (cookie_echoed my held cookie) choices = echoes_ends_once (cookie_echoed my held cookie) my held cookie choices.fits choices.filling
t1_again_ends_once options core choices = stays refl

t1_gives_up_ends_once : (core : Core) → OneEnd core (t1_gives_up_change core)
t1_gives_up_ends_once (cookie_wait my) = ends_wait refl
t1_gives_up_ends_once (cookie_echoed my held cookie) = ends_echoed refl
t1_gives_up_ends_once core = stays refl

-- ---- COOKIE ECHO

new_ends_once : (options : Options) (core : Core) (cookie : Cookie) (choices : Choices) → OneEnd core (new_association_change options cookie choices)
new_ends_once options core cookie choices = stays_open (no_ends-flush cookie.addressee.tag (held_by_cookie options cookie) (cookie_ack ∷ []) choices.filling)

restarts_ends_once : (options : Options) (core : Core) (cookie : Cookie) (choices : Choices) → OneEnd core (restart_change options core cookie choices)
restarts_ends_once options (open_in shutdown_ack_sent my held) cookie choices = stays refl
restarts_ends_once options core cookie choices = new_ends_once options core cookie choices

maintains_ends_once : (core : Core) (cookie : Cookie) (choices : Choices) → OneEnd core (maintain_change core cookie choices)
maintains_ends_once (cookie_echoed my held echoed) cookie choices = stays_open (no_ends-flush cookie.addressee.tag held (cookie_ack ∷ []) choices.filling)
maintains_ends_once (open_in phase my held) cookie choices = stays_open (no_ends-flush cookie.addressee.tag held (cookie_ack ∷ []) choices.filling)
maintains_ends_once core cookie choices = stays refl

resolved_ends_once : (options : Options) (core : Core) (cookie : Cookie) (choices : Choices) (resolution : Resolution) → OneEnd core (resolved_change options core cookie choices resolution)
resolved_ends_once options core cookie choices establish_new = new_ends_once options core cookie choices
resolved_ends_once options core cookie choices restart = restarts_ends_once options core cookie choices
resolved_ends_once options core cookie choices simultaneous_init = new_ends_once options core cookie choices
resolved_ends_once options core cookie choices discard = stays refl
resolved_ends_once options core cookie choices maintain_existing = maintains_ends_once core cookie choices
resolved_ends_once options core cookie choices invalid_tag = stays refl
resolved_ends_once options core cookie choices stale = stays (no_ends-alone (options.follow_rfc && choices.fits) cookie.addressee.tag stale_error)

echo_ends_once : (options : Options) (core : Core) (header : ℕ) (read : Result Cookie (List ℕ)) (choices : Choices) → OneEnd core (read_echo_change options core header read choices)
echo_ends_once options core header (Err text) choices = stays refl
echo_ends_once options core header (Ok cookie) choices = resolved_ends_once options core cookie choices (aged_resolution choices.is_stale (resolve core choices.tie choices.secret header cookie))

-- ---- flushes and resets

flush_ends_once : (core : Core) (choices : Choices) → OneEnd core (flush_change core choices)
flush_ends_once (cookie_echoed my held cookie) choices = stays_echoed (no_ends-sent held choices)
flush_ends_once (open_in phase my held) choices = stays_open (no_ends-sent held choices)
flush_ends_once core choices = stays refl

re_config_ends_once : (follows : Bool) (core : Core) (parameters : List ResetParameter) (choices : Choices) → OneEnd core (re_config_change follows core parameters choices)
re_config_ends_once true (cookie_echoed my held cookie) parameters choices = stays refl
re_config_ends_once false (cookie_echoed my held cookie) parameters choices = stays_echoed (no_ends-reset my held parameters choices)
re_config_ends_once follows (open_in phase my held) parameters choices = stays_open (no_ends-reset my held parameters choices)
re_config_ends_once follows core parameters choices = stays refl

no_ends-request : (held : Held) (request : Option ℕ) (reset : RequestedReset) (fits : Bool) → count_of_ends (request_sent held request reset fits) ≡ 0
no_ends-request held None reset fits = refl
no_ends-request held (Some number) reset fits = no_ends-alone fits held.peer.tag (reset_request number reset)

request_again_ends_once : (core : Core) (reset : RequestedReset) (fits : Bool) → OneEnd core (request_again_change core reset fits)
request_again_ends_once (cookie_echoed my held cookie) reset fits = stays (no_ends-request held held.own_outstanding reset fits)
request_again_ends_once (open_in phase my held) reset fits = stays (no_ends-request held held.own_outstanding reset fits)
request_again_ends_once core reset fits = stays refl

no_ends-renewed : (held : Held) (request : Option ℕ) (reset : RequestedReset) (fits : Bool) → count_of_ends (renewed_if_fitting held request reset fits).effects ≡ 0
no_ends-renewed held None reset fits = refl
no_ends-renewed held (Some number) reset false = refl
no_ends-renewed held (Some number) reset true = refl

request_renewed_ends_once : (core : Core) (reset : RequestedReset) (fits : Bool) → OneEnd core (request_renewed_change core reset fits)
request_renewed_ends_once (cookie_echoed my held cookie) reset fits = stays_echoed (no_ends-renewed held held.own_outstanding reset fits)
request_renewed_ends_once (open_in phase my held) reset fits = stays_open (no_ends-renewed held held.own_outstanding reset fits)
request_renewed_ends_once core reset fits = stays refl

-- ---- shutdown

step_ends_once_in : (core : Core) (phase : OpenPhase) (my : Pair) (held : Held) (tsn : ℕ) (is_acknowledged : Bool) → OneEnd core (shutdown_step_change_by_phase phase my held tsn is_acknowledged)
step_ends_once_in core shutdown_pending my held tsn false = stays_open refl
step_ends_once_in core shutdown_received my held tsn false = stays_open refl
step_ends_once_in core phase my held tsn is_acknowledged = stays_open refl

step_ends_once : (core : Core) (tsn : ℕ) (is_acknowledged : Bool) → OneEnd core (shutdown_step_change core tsn is_acknowledged)
step_ends_once (open_in phase my held) tsn is_acknowledged = step_ends_once_in (open_in phase my held) phase my held tsn is_acknowledged
step_ends_once core tsn is_acknowledged = stays refl

echoed_ends_once : (follows : Bool) (my : Pair) (held : Held) (cookie : List ℕ) (tsn : ℕ) (is_acknowledged : Bool)
    → OneEnd (cookie_echoed my held cookie) (shutdown_call_change_echoed follows my held cookie tsn is_acknowledged)
echoed_ends_once true my held cookie tsn is_acknowledged = stays refl
echoed_ends_once false my held cookie tsn is_acknowledged = step_ends_once_in (cookie_echoed my held cookie) shutdown_pending my held tsn is_acknowledged

call_ends_once : (options : Options) (core : Core) (tsn : ℕ) (is_acknowledged : Bool) → OneEnd core (shutdown_call_change options core tsn is_acknowledged)
call_ends_once options (cookie_wait my) tsn is_acknowledged = ends_wait refl
call_ends_once options (cookie_echoed my held cookie) tsn is_acknowledged = echoed_ends_once options.follow_rfc my held cookie tsn is_acknowledged
call_ends_once options (open_in established my held) tsn is_acknowledged = step_ends_once_in (open_in established my held) shutdown_pending my held tsn is_acknowledged
call_ends_once options core tsn is_acknowledged = stays refl

aborts_ends_once : (core : Core) (causes : List Cause) (fits : Bool) → OneEnd core (abort_call_change core causes fits)
aborts_ends_once (cookie_wait my) causes fits = ends_wait refl
aborts_ends_once (cookie_echoed my held cookie) causes fits = ends_echoed (one_end-alone fits held.peer.tag (abort false causes))
aborts_ends_once (open_in phase my held) causes fits = ends_open (one_end-alone fits held.peer.tag (abort false causes))
aborts_ends_once core causes fits = stays refl

again_ends_once : (core : Core) (tsn : ℕ) → OneEnd core (shutdown_again_change core tsn)
again_ends_once (open_in shutdown_sent my held) tsn = stays refl
again_ends_once core tsn = stays refl

abort_ends_once : (options : Options) (core : Core) → OneEnd core (abort_change options core)
abort_ends_once options closed = stays refl
abort_ends_once options (cookie_wait my) = by_abort (OneEnd (cookie_wait my)) options (cookie_wait my) (ends_wait refl) (stays refl)
abort_ends_once options (cookie_echoed my held cookie) = ends_echoed refl
abort_ends_once options (open_in phase my held) = ends_open refl

shutdown_ack_ends_once : (core : Core) (header : ℕ) (following : Following) → OneEnd core (shutdown_ack_change core header following)
shutdown_ack_ends_once (open_in shutdown_sent my held) header following = ends_open refl
shutdown_ack_ends_once (open_in shutdown_ack_sent my held) header following = ends_open refl
shutdown_ack_ends_once core header following = stays refl

shutdown_complete_ends_once : (core : Core) → OneEnd core (shutdown_complete_change core)
shutdown_complete_ends_once (open_in shutdown_ack_sent my held) = ends_open refl
shutdown_complete_ends_once core = stays refl

hand_over_ends_once : (core : Core) → OneEnd core (hand_over_change core)
hand_over_ends_once (open_in established my held) = ends_open refl
hand_over_ends_once core = stays refl

-- ---- every turn

act_ends_once : (options : Options) (core : Core) (act : Act) (choices : Choices) → OneEnd core (act_change options core act choices)
act_ends_once options core connect choices = connect_ends_once options core choices
act_ends_once options core (t1_expires true) choices = t1_again_ends_once options core choices
act_ends_once options core (t1_expires false) choices = t1_gives_up_ends_once core
act_ends_once options core shut_down choices = call_ends_once options core choices.tsn choices.is_acknowledged
act_ends_once options core step_of_shutdown choices = step_ends_once core choices.tsn choices.is_acknowledged
act_ends_once options core shutdown_repeats choices = again_ends_once core choices.tsn
act_ends_once options core (abort_with reason) choices = aborts_ends_once core (causes_of reason) choices.fits
act_ends_once options core hands_over choices = hand_over_ends_once core
act_ends_once options core flushes choices = flush_ends_once core choices
act_ends_once options core (request_again reset) choices = request_again_ends_once core reset choices.fits
act_ends_once options core (request_renewed reset) choices = request_renewed_ends_once core reset choices.fits

violation_ends_once : (core : Core) (choices : Choices) → OneEnd core (violation_change core choices)
violation_ends_once (cookie_echoed my held cookie) choices = aborts_ends_once (cookie_echoed my held cookie) choices.causes choices.fits
violation_ends_once (open_in phase my held) choices = aborts_ends_once (open_in phase my held) choices.causes choices.fits
violation_ends_once core choices = stays refl

-- a step of shutdown, and a flush
stepped_ends_once : (phase : OpenPhase) (my : Pair) (held : Held) (choices : Choices) (is_acknowledged : Bool)
    → OneEnd (open_in phase my held) (then_changes (shutdown_step_change_by_phase phase my held choices.tsn is_acknowledged) (flush_change (shutdown_step_change_by_phase phase my held choices.tsn is_acknowledged).core choices) choices.following)
stepped_ends_once shutdown_pending my held choices false = stays_open (no_ends-sent held choices)
stepped_ends_once shutdown_received my held choices false = stays_open (no_ends-sent held choices)
stepped_ends_once phase my held choices is_acknowledged = stays_open (no_ends-sent held choices)

other_ends_once : (core : Core) (is_violation : Bool) (choices : Choices) → OneEnd core (plain_change core is_violation choices)
other_ends_once core true choices = violation_ends_once core choices
other_ends_once (cookie_echoed my held cookie) false choices = stays_echoed (no_ends-sent held choices)
other_ends_once (open_in phase my held) false choices = stepped_ends_once phase my held choices choices.is_acknowledged
other_ends_once core false choices = stays refl

-- a SHUTDOWN, a step from ShutdownReceived, and a flush
received_ends_once : (core : Core) (my : Pair) (held : Held) (choices : Choices) (is_acknowledged : Bool)
    → OneEnd core (then_changes (shutdown_step_change_by_phase shutdown_received my held choices.tsn is_acknowledged) (flush_change (shutdown_step_change_by_phase shutdown_received my held choices.tsn is_acknowledged).core choices) next_chunk)
received_ends_once core my held choices true = stays_open (no_ends-sent held choices)
received_ends_once core my held choices false = stays_open (no_ends-sent held choices)

heard_ends_once : (core : Core) (choices : Choices) → OneEnd core (shutdown_chunk_change core choices)
heard_ends_once (cookie_echoed my held cookie) choices = stays_echoed (no_ends-sent held choices)
heard_ends_once (open_in established my held) choices = received_ends_once (open_in established my held) my held choices choices.is_acknowledged
heard_ends_once (open_in shutdown_pending my held) choices = received_ends_once (open_in shutdown_pending my held) my held choices choices.is_acknowledged
heard_ends_once (open_in shutdown_received my held) choices = received_ends_once (open_in shutdown_received my held) my held choices choices.is_acknowledged
heard_ends_once (open_in phase my held) choices = stays_open (no_ends-sent held choices)
heard_ends_once core choices = stays refl

chunk_ends_once : (options : Options) (core : Core) (header : ℕ) (content : Content) (choices : Choices) → OneEnd core (chunk_change options core header content choices)
chunk_ends_once options core header (init theirs) choices = change_by (OneEnd core) options core theirs choices (stays refl) (init_ends_once options core theirs choices)
chunk_ends_once options core header (init_ack theirs cookie) choices = init_ack_ends_once options core theirs cookie choices
chunk_ends_once options core header (cookie_echo cookie) choices = echo_ends_once options core header (cookie_of_bytes cookie) choices
chunk_ends_once options core header cookie_ack choices = cookie_ack_ends_once core choices
chunk_ends_once options core header (re_config parameters) choices = re_config_ends_once options.follow_rfc core parameters choices
chunk_ends_once options core header (abort reflected causes) choices = abort_ends_once options core
chunk_ends_once options core header (shutdown cumulative_tsn) choices = heard_ends_once core choices
chunk_ends_once options core header shutdown_ack choices = shutdown_ack_ends_once core header choices.following
chunk_ends_once options core header (shutdown_complete reflected) choices = shutdown_complete_ends_once core
chunk_ends_once options core header (plain chunk) choices = other_ends_once core choices.is_violation choices

pub ends_once : EndsOnce
ends_once options core change (acted act choices is) = subst (OneEnd core) (sym is) (act_ends_once options core act choices)
ends_once options core change (worked header content choices is) = subst (OneEnd core) (sym is) (chunk_ends_once options core header content choices)
ends_once options core change (resumed my peer capabilities own last none is) = subst (OneEnd core) (sym is) (stays_open refl)
