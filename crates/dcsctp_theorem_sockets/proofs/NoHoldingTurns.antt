-- No act makes an association, and of the chunks none but INIT ACK and COOKIE ECHO.
use Rattle.std.proofs.Common.{ℕ, Bool, true, false, List, [], ◌∷◌, ◌++◌}
use Rattle.dcsctp_spec_lemmas.specs.types.declared.association.Pair.{Pair}
use Rattle.dcsctp_spec_lemmas.specs.types.declared.association.Held.{Held}
use Rattle.dcsctp_spec_lemmas.specs.types.declared.options.Options.{Options}
use Rattle.dcsctp_spec_lemmas.specs.spec.endpoint.Cause.{Cause, causes_of}
use Rattle.dcsctp_spec_lemmas.specs.spec.Packet.{Introduction, cookie_echo, abort}
use Rattle.dcsctp_spec_lemmas.specs.spec.endpoint.Endpoint.{Core, closed, cookie_wait, cookie_echoed, open_in, OpenPhase, established, shutdown_pending, shutdown_sent, shutdown_received, shutdown_ack_sent}
use Rattle.dcsctp_spec_lemmas.specs.spec.endpoint.Following.{Following}
use Rattle.dcsctp_spec_lemmas.specs.spec.association.Effect.{Effect, ends, Change, emitted_alone}
use Rattle.dcsctp_spec_lemmas.specs.spec.association.Choices.{Filling, Choices}
use Rattle.dcsctp_spec_lemmas.specs.spec.association.HandshakeChanges.{init_change_where_open, echo_change}
use Rattle.dcsctp_spec_lemmas.specs.spec.association.ShutdownChanges.{shutdown_call_change_echoed, shutdown_step_change_by_phase, shutdown_call_change_by_phase, shutdown_again_change_by_phase, shutdown_change_by_phase, shutdown_ack_change_by_phase, shutdown_complete_change_by_phase}
use Rattle.dcsctp_spec_lemmas.specs.spec.association.Acts.{Act, connect, t1_expires, shut_down, step_of_shutdown, shutdown_repeats, abort_with, hands_over, flushes, request_again, request_renewed, hand_over_change_by_phase, flush_change, act_change, plain_change, shutdown_chunk_change}
use Rattle.dcsctp_theorem_sockets.proofs.NoHolding.{HoldsNone, none-append, none-alone, none-flush, none-sent, none-request, none-renewed}

pub ended_none : (effects : List Effect) → HoldsNone effects → HoldsNone (effects ++ ends ∷ [])
ended_none effects none = none-append effects (ends ∷ []) none (tt, tt)

step_none : (phase : OpenPhase) (my : Pair) (held : Held) (tsn : ℕ) (is_acknowledged : Bool) → HoldsNone (shutdown_step_change_by_phase phase my held tsn is_acknowledged).effects
step_none shutdown_pending my held tsn true = (tt, tt)
step_none shutdown_received my held tsn true = (tt, tt)
step_none phase my held tsn is_acknowledged = tt

call_echoed_none : (follows : Bool) (my : Pair) (held : Held) (cookie : List ℕ) (tsn : ℕ) (is_acknowledged : Bool)
    → HoldsNone (shutdown_call_change_echoed follows my held cookie tsn is_acknowledged).effects
call_echoed_none true my held cookie tsn is_acknowledged = tt
call_echoed_none false my held cookie tsn is_acknowledged = step_none shutdown_pending my held tsn is_acknowledged

call_none : (phase : OpenPhase) (my : Pair) (held : Held) (tsn : ℕ) (is_acknowledged : Bool) → HoldsNone (shutdown_call_change_by_phase phase my held tsn is_acknowledged).effects
call_none established my held tsn is_acknowledged = step_none shutdown_pending my held tsn is_acknowledged
call_none phase my held tsn is_acknowledged = tt

again_none : (phase : OpenPhase) (my : Pair) (held : Held) (tsn : ℕ) → HoldsNone (shutdown_again_change_by_phase phase my held tsn).effects
again_none shutdown_sent my held tsn = (tt, tt)
again_none shutdown_ack_sent my held tsn = (tt, tt)
again_none phase my held tsn = tt

hand_over_none : (phase : OpenPhase) (my : Pair) (held : Held) → HoldsNone (hand_over_change_by_phase phase my held).effects
hand_over_none established my held = (tt, tt)
hand_over_none phase my held = tt

pub again_echo_none : (my : Pair) (held : Held) (cookie : List ℕ) (fits : Bool) (filling : Filling) → HoldsNone (echo_change my held cookie fits filling).effects
again_echo_none my held cookie false filling = tt
again_echo_none my held cookie true filling = none-flush held.peer.tag held (cookie_echo cookie ∷ []) filling

aborts_none : (held : Held) (causes : List Cause) (fits : Bool) → HoldsNone (emitted_alone fits held.peer.tag (abort false causes) ++ ends ∷ [])
aborts_none held causes fits = ended_none (emitted_alone fits held.peer.tag (abort false causes)) (none-alone fits held.peer.tag (abort false causes))

echoed_act_none : (options : Options) (my : Pair) (held : Held) (cookie : List ℕ) (act : Act) (choices : Choices) → HoldsNone (act_change options (cookie_echoed my held cookie) act choices).effects
echoed_act_none options my held cookie connect choices = tt
echoed_act_none options my held cookie (t1_expires true) choices = again_echo_none my held cookie choices.fits choices.filling
echoed_act_none options my held cookie (t1_expires false) choices = (tt, tt)
echoed_act_none options my held cookie shut_down choices = call_echoed_none options.follow_rfc my held cookie choices.tsn choices.is_acknowledged
echoed_act_none options my held cookie step_of_shutdown choices = tt
echoed_act_none options my held cookie shutdown_repeats choices = tt
echoed_act_none options my held cookie (abort_with reason) choices = aborts_none held (causes_of reason) choices.fits
echoed_act_none options my held cookie hands_over choices = tt
echoed_act_none options my held cookie flushes choices = none-sent held choices
echoed_act_none options my held cookie (request_again reset) choices = none-request held held.own_outstanding reset choices.fits
echoed_act_none options my held cookie (request_renewed reset) choices = none-renewed held held.own_outstanding reset choices.fits

open_act_none : (options : Options) (phase : OpenPhase) (my : Pair) (held : Held) (act : Act) (choices : Choices) → HoldsNone (act_change options (open_in phase my held) act choices).effects
open_act_none options phase my held connect choices = tt
open_act_none options phase my held (t1_expires true) choices = tt
open_act_none options phase my held (t1_expires false) choices = tt
open_act_none options phase my held shut_down choices = call_none phase my held choices.tsn choices.is_acknowledged
open_act_none options phase my held step_of_shutdown choices = step_none phase my held choices.tsn choices.is_acknowledged
open_act_none options phase my held shutdown_repeats choices = again_none phase my held choices.tsn
open_act_none options phase my held (abort_with reason) choices = aborts_none held (causes_of reason) choices.fits
open_act_none options phase my held hands_over choices = hand_over_none phase my held
open_act_none options phase my held flushes choices = none-sent held choices
open_act_none options phase my held (request_again reset) choices = none-request held held.own_outstanding reset choices.fits
open_act_none options phase my held (request_renewed reset) choices = none-renewed held held.own_outstanding reset choices.fits

pub init_none : (options : Options) (core : Core) (theirs : Introduction) (phase : OpenPhase) (held : Held) (choices : Choices) → HoldsNone (init_change_where_open options core theirs phase held choices).effects
init_none options core theirs shutdown_ack_sent held choices = (tt, tt)
init_none options core theirs phase held choices = (tt, none-alone choices.fits _ _)

shutdown_none : (phase : OpenPhase) (my : Pair) (held : Held) (tsn : ℕ) (is_acknowledged : Bool) → HoldsNone (shutdown_change_by_phase phase my held tsn is_acknowledged).effects
shutdown_none established my held tsn is_acknowledged = step_none shutdown_received my held tsn is_acknowledged
shutdown_none shutdown_pending my held tsn is_acknowledged = step_none shutdown_received my held tsn is_acknowledged
shutdown_none shutdown_received my held tsn is_acknowledged = step_none shutdown_received my held tsn is_acknowledged
shutdown_none phase my held tsn is_acknowledged = (tt, tt)

pub shutdown_ack_none : (phase : OpenPhase) (my : Pair) (held : Held) (header : ℕ) (following : Following) → HoldsNone (shutdown_ack_change_by_phase phase my held header following).effects
shutdown_ack_none shutdown_sent my held header following = (tt, (tt, tt))
shutdown_ack_none shutdown_ack_sent my held header following = (tt, (tt, tt))
shutdown_ack_none phase my held header following = (tt, tt)

pub complete_none : (phase : OpenPhase) (my : Pair) (held : Held) → HoldsNone (shutdown_complete_change_by_phase phase my held).effects
complete_none shutdown_ack_sent my held = (tt, tt)
complete_none phase my held = tt

flush_none : (core : Core) (choices : Choices) → HoldsNone (flush_change core choices).effects
flush_none (cookie_echoed my held cookie) choices = none-sent held choices
flush_none (open_in phase my held) choices = none-sent held choices
flush_none core choices = tt

pub heard_none : (phase : OpenPhase) (my : Pair) (held : Held) (choices : Choices) → HoldsNone (shutdown_chunk_change (open_in phase my held) choices).effects
heard_none phase my held choices =
    let stepped : Change = shutdown_change_by_phase phase my held choices.tsn choices.is_acknowledged in
    none-append stepped.effects (flush_change stepped.core choices).effects (shutdown_none phase my held choices.tsn choices.is_acknowledged) (flush_none stepped.core choices)

pub plain_none : (phase : OpenPhase) (my : Pair) (held : Held) (is_violation : Bool) (choices : Choices) → HoldsNone (plain_change (open_in phase my held) is_violation choices).effects
plain_none phase my held true choices = aborts_none held choices.causes choices.fits
plain_none phase my held false choices =
    let stepped : Change = shutdown_step_change_by_phase phase my held choices.tsn choices.is_acknowledged in
    none-append stepped.effects (flush_change stepped.core choices).effects (step_none phase my held choices.tsn choices.is_acknowledged) (flush_none stepped.core choices)

pub echoed_plain_none : (my : Pair) (held : Held) (cookie : List ℕ) (is_violation : Bool) (choices : Choices) → HoldsNone (plain_change (cookie_echoed my held cookie) is_violation choices).effects
echoed_plain_none my held cookie true choices = aborts_none held choices.causes choices.fits
echoed_plain_none my held cookie false choices = none-sent held choices

pub closed_plain_none : (is_violation : Bool) (choices : Choices) → HoldsNone (plain_change closed is_violation choices).effects
closed_plain_none true choices = tt
closed_plain_none false choices = tt

pub waiting_plain_none : (my : Pair) (is_violation : Bool) (choices : Choices) → HoldsNone (plain_change (cookie_wait my) is_violation choices).effects
waiting_plain_none my true choices = tt
waiting_plain_none my false choices = tt

-- ---- acts

closed_act_none : (options : Options) (act : Act) (choices : Choices) → HoldsNone (act_change options closed act choices).effects
closed_act_none options connect choices = (tt, none-alone choices.fits _ _)
closed_act_none options (t1_expires true) choices = tt
closed_act_none options (t1_expires false) choices = tt
closed_act_none options act choices = tt

waiting_act_none : (options : Options) (my : Pair) (act : Act) (choices : Choices) → HoldsNone (act_change options (cookie_wait my) act choices).effects
waiting_act_none options my (t1_expires true) choices = none-alone choices.fits _ _
waiting_act_none options my (t1_expires false) choices = (tt, tt)
waiting_act_none options my shut_down choices = (tt, tt)
waiting_act_none options my (abort_with reason) choices = (tt, tt)
waiting_act_none options my act choices = tt

pub act_none : (options : Options) (core : Core) (act : Act) (choices : Choices) → HoldsNone (act_change options core act choices).effects
act_none options closed act choices = closed_act_none options act choices
act_none options (cookie_wait my) act choices = waiting_act_none options my act choices
act_none options (cookie_echoed my held cookie) act choices = echoed_act_none options my held cookie act choices
act_none options (open_in phase my held) act choices = open_act_none options phase my held act choices
