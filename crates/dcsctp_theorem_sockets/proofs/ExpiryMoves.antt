-- What the timers of an open association bring is moves of its side in the machine that agreement
-- is proved on.
use Rattle.std.proofs.Common.{ℕ, Bool, true, false, List, [], ◌∷◌, ◌++◌, refl, sym, subst, arith}
use Rattle.std.specs.Prelude.{if◌then◌else◌}
use Rattle.std.specs.Int.{w32, to_be_bytes}
use Rattle.dcsctp_spec_lemmas.specs.wire.Content.{heartbeat_info}
use Rattle.dcsctp_spec_lemmas.specs.wire.Spelling.{parameters_len}
use Rattle.dcsctp_spec_lemmas.specs.types.declared.options.Options.{Options}
use Rattle.dcsctp_spec_lemmas.specs.types.declared.association.Held.{Held}
use Rattle.dcsctp_spec_lemmas.specs.types.declared.ends.AbortReason.TheVariants.{TooManyErrors}
use Rattle.dcsctp_spec_lemmas.specs.spec.Packet.{heartbeat, plain}
use Rattle.dcsctp_spec_lemmas.specs.spec.endpoint.Endpoint.{Endpoint, Core, closed, cookie_wait, cookie_echoed, open_in, established, held_by_core}
use Rattle.dcsctp_spec_lemmas.specs.spec.endpoint.Outcome.{Outcome}
use Rattle.dcsctp_spec_lemmas.specs.spec.endpoint.Turn.{Input, ActTurn, act_input, timer_expires}
use Rattle.dcsctp_spec_lemmas.specs.spec.endpoint.TimeTurns.{Timer, t1_timer, own_timer, t2_timer, deadline, has_come, has_restart, t2_input, expiry_input, inputs_behind, after_expiries, ExpiryThen, ExpiryTurns}
use Rattle.dcsctp_spec_lemmas.specs.spec.endpoint.CallTurns.{Transition, IsTurn, Turns}
use Rattle.dcsctp_spec_lemmas.specs.spec.endpoint.HeartbeatOutcomes.{is_exhausted, interval_expired, beating, heartbeat_emission, interval_outcome}
use Rattle.dcsctp_spec_lemmas.specs.spec.endpoint.OwnTimers.{OwnTimer, acknowledgement_delay, retransmission, heartbeat_interval, heartbeat_timeout, reconfiguration, TimerTurn, repeating_act, timer_act}
use Rattle.dcsctp_spec_lemmas.specs.spec.endpoint.ReconfigurationOutcomes.{reset_again, is_renewed}
use Rattle.dcsctp_spec_lemmas.specs.spec.Reconfiguration.{RequestedReset}
use Rattle.dcsctp_spec_lemmas.specs.spec.association.Effect.{Effect, Change}
use Rattle.dcsctp_spec_lemmas.specs.spec.association.Acts.{flushes, shutdown_repeats, abort_with, t1_expires, act_change}
use Rattle.dcsctp_spec_runs.specs.Fitting.{FitsHeld, FitsCore, FitsEndpoint, Sendable, TurnFits}
use Rattle.dcsctp_spec_runs.specs.World.{SideState, after_changes, does}
use Rattle.dcsctp_spec_runs.specs.Sockets.{endpoint_after}
use Rattle.dcsctp_spec_laws.proofs.HeartbeatLemmas.{timer_controlled}
use Rattle.dcsctp_theorem_sockets.proofs.Aborting.{aborting_fits}
use Rattle.dcsctp_theorem_sockets.proofs.BegunSends.{peer_fits}
use Rattle.dcsctp_theorem_sockets.proofs.Bytes.{in_four}
use Rattle.dcsctp_theorem_sockets.proofs.DataFits.{flush_turn_fits, delay_fits, loss_fits}
use Rattle.dcsctp_theorem_sockets.proofs.ActMoves.{IgnoresMessageSize}
use Rattle.dcsctp_theorem_sockets.proofs.RequestAgain.{reconfiguration_fits}
use Rattle.dcsctp_theorem_sockets.proofs.ShutdownFits.{t2_again_fits}
use Rattle.dcsctp_theorem_sockets.proofs.TurnsFit.{emits_fit}
use Rattle.dcsctp_theorem_sockets.proofs.Follow.{Followed, after_last}
use Rattle.dcsctp_theorem_sockets.proofs.TimeMoves.{T1Follows, t1_follows}
use Rattle.dcsctp_theorem_sockets.proofs.Moves.{Below, SideMoves, moves_then, none_rests, act_then, act_moves}

-- ---- what is sent fits

heartbeat_sendable : (counter : ℕ) → Sendable (plain (heartbeat (heartbeat_info (to_be_bytes w32 counter) ∷ [])))
unfolding parameters_len
heartbeat_sendable counter = record { fits = record { len_fits = omega arith; parameters_fit = (in_four counter, tt) }; reads = refl; said = tt }

beats_fit : (e : Endpoint) (held : Held) → FitsEndpoint e → FitsHeld held → TurnFits (interval_outcome e (open_in established (record { tag = 0; first_tsn = 0 }) held))
beats_fit e held h fits =
    emits_fit (beating (interval_expired e)) [] (heartbeat_emission held (beating (interval_expired e)).heartbeat_counter)
    (record { valid = h.valid; options = h.options; core = h.core; t1 = h.t1 })
    (record { tag = fits.peer.tag; contents = (heartbeat_sendable (beating (interval_expired e)).heartbeat_counter, tt) })

interval_fits : (e : Endpoint) (core : Core) → FitsEndpoint e → FitsCore core → TurnFits (interval_outcome e core)
interval_fits e closed h own = record { after = record { valid = h.valid; options = h.options; core = h.core; t1 = h.t1 }; sends = tt }
interval_fits e (cookie_wait my) h own = record { after = record { valid = h.valid; options = h.options; core = h.core; t1 = h.t1 }; sends = tt }
interval_fits e (cookie_echoed my held cookie) h own = beats_fit e held h own.1
interval_fits e (open_in phase my held) h own = beats_fit e held h own.1

timer_fits : (e : Endpoint) (timer : OwnTimer) (o : Outcome) → TimerTurn e timer o → FitsEndpoint e → TurnFits o
timer_fits e acknowledgement_delay o turn h = subst TurnFits (sym turn) (delay_fits e e.queues.transfer h)
timer_fits e retransmission o turn h = loss_fits e e.queues.transfer o turn h
timer_fits e heartbeat_interval o turn h = subst TurnFits (sym turn) (interval_fits e e.core h h.core)
timer_fits e heartbeat_timeout o turn h = subst TurnFits (sym turn) (record { after = record { valid = h.valid; options = h.options; core = h.core; t1 = h.t1 }; sends = tt })
timer_fits e reconfiguration o turn h = subst TurnFits (sym turn) (reconfiguration_fits e (held_by_core e.core) e.outstanding h (peer_fits e.core h.core))

-- ---- one expiry, and what follows it

repeats_ignore : (is_new : Bool) (reset : RequestedReset) → IgnoresMessageSize (repeating_act is_new reset)
repeats_ignore false reset p q core choices same = refl
repeats_ignore true reset p q core choices same = refl

timers_ignore : (e : Endpoint) (timer : OwnTimer) → IgnoresMessageSize (timer_act e timer)
timers_ignore e acknowledgement_delay p q core choices same = refl
timers_ignore e retransmission p q core choices same = refl
timers_ignore e heartbeat_interval p q core choices same = refl
timers_ignore e heartbeat_timeout p q core choices same = refl
timers_ignore e reconfiguration p q core choices same = repeats_ignore (is_renewed e e.outstanding) (reset_again e.outstanding) p q core choices same

-- `more` may follow `turns`, whatever state of the side these leave
abbrev MovesBehind : Options → List Transition → List Effect → List Transition → Type 0
MovesBehind options turns theirs more = (side : SideState) → Followed options turns side → SideMoves options turns side theirs more

own_moves : Below → (options : Options) (turns : List Transition) (side : SideState) (theirs : List Effect) (timer : OwnTimer) (t : Transition) (more : List Transition) → Followed options turns side
    → IsTurn (endpoint_after options turns) (timer_expires timer) t → MovesBehind options (turns ++ t ∷ []) theirs more → SideMoves options turns side theirs (t ∷ more)
own_moves law options turns side theirs timer t more h turn rest =
    let e : Endpoint = endpoint_after options turns in
    act_then law options turns side theirs (timer_act e timer) t more (timers_ignore e timer) h (timer_controlled e timer t.outcome turn.comes) (timer_fits e timer t.outcome turn.comes h.fits)
    (λ choices follows. rest _ follows)

t1_moves : Below → (options : Options) (turns : List Transition) (side : SideState) (theirs : List Effect) (again : Bool) (t : Transition) (more : List Transition) → Followed options turns side
    → IsTurn (endpoint_after options turns) (act_input (t1_expires again)) t → MovesBehind options (turns ++ t ∷ []) theirs more → SideMoves options turns side theirs (t ∷ more)
t1_moves law options turns side theirs again t more h turn rest =
    let followed : T1Follows options turns side again t = t1_follows law.effects_mean law.acts law.offers options turns side again t h turn.comes in
    let change : Change = act_change side.options side.core (t1_expires again) followed.choices in
    moves_then options turns side theirs (t ∷ []) more (does (t1_expires again)) (change ∷ []) (followed.choices, refl)
    (rest (after_changes side (change ∷ [])) followed.follows)

aborts_fit : (e : Endpoint) (o : Outcome) → FitsEndpoint e → ActTurn e (abort_with TooManyErrors) o → TurnFits o
aborts_fit e o h turn = subst TurnFits (sym turn) (aborting_fits e e.core TooManyErrors h h.core)

t2_moves : Below → (options : Options) (turns : List Transition) (side : SideState) (theirs : List Effect) (again : Bool) (t : Transition) (more : List Transition) → Followed options turns side
    → IsTurn (endpoint_after options turns) (t2_input again) t → MovesBehind options (turns ++ t ∷ []) theirs more → SideMoves options turns side theirs (t ∷ more)
t2_moves law options turns side theirs true t more h turn rest =
    let e : Endpoint = endpoint_after options turns in
    act_then law options turns side theirs shutdown_repeats t more (λ p q core choices same. refl) h (law.acts e shutdown_repeats t.outcome turn.comes) (subst TurnFits (sym turn.comes) (t2_again_fits e h.fits))
    (λ choices follows. rest _ follows)
t2_moves law options turns side theirs false t more h turn rest =
    let e : Endpoint = endpoint_after options turns in
    act_then law options turns side theirs (abort_with TooManyErrors) t more (λ p q core choices same. refl) h (law.acts e (abort_with TooManyErrors) t.outcome turn.comes) (aborts_fit e t.outcome h.fits turn.comes)
    (λ choices follows. rest _ follows)

expiry_moves : Below → (options : Options) (turns : List Transition) (side : SideState) (theirs : List Effect) (timer : Timer) (t : Transition) (more : List Transition) → Followed options turns side
    → IsTurn (endpoint_after options turns) (expiry_input (endpoint_after options turns) timer) t → MovesBehind options (turns ++ t ∷ []) theirs more → SideMoves options turns side theirs (t ∷ more)
expiry_moves law options turns side theirs t1_timer t more h turn rest = t1_moves law options turns side theirs (has_restart (endpoint_after options turns).timers.t1) t more h turn rest
expiry_moves law options turns side theirs (own_timer timer) t more h turn rest = own_moves law options turns side theirs timer t more h turn rest
expiry_moves law options turns side theirs t2_timer t more h turn rest = t2_moves law options turns side theirs (has_restart (endpoint_after options turns).timers.t2) t more h turn rest

-- ---- all that are due

-- These inputs, unless too many errors were counted: then this side aborts.
many_moves : Below → (options : Options) (turns : List Transition) (side : SideState) (theirs : List Effect) (many : Bool) (inputs : List Input) (more : List Transition)
    → Followed options turns side → (Turns (endpoint_after options turns) inputs more → SideMoves options turns side theirs more)
    → Turns (endpoint_after options turns) (if many then act_input (abort_with TooManyErrors) ∷ [] else inputs) more → SideMoves options turns side theirs more
many_moves law options turns side theirs true inputs more h others taken =
    act_moves law options turns side theirs (abort_with TooManyErrors) more (λ p q core choices same. refl) h (λ o turn. aborts_fit (endpoint_after options turns) o h.fits turn) taken
many_moves law options turns side theirs false inputs more h others taken = others taken

behind_moves : Below → (options : Options) (turns : List Transition) (side : SideState) (theirs : List Effect) (core : Core) (more : List Transition) → Followed options turns side
    → Turns (endpoint_after options turns) (inputs_behind (endpoint_after options turns) core) more → SideMoves options turns side theirs more
behind_moves law options turns side theirs closed more h taken = none_rests options turns side theirs more h taken
behind_moves law options turns side theirs (cookie_wait my) more h taken = none_rests options turns side theirs more h taken
behind_moves law options turns side theirs (cookie_echoed my held cookie) more h taken =
    let e : Endpoint = endpoint_after options turns in
    many_moves law options turns side theirs (is_exhausted e.options.max_retransmissions e.error_count) [] more h (none_rests options turns side theirs more h) taken
behind_moves law options turns side theirs (open_in phase my held) more h taken =
    let e : Endpoint = endpoint_after options turns in
    many_moves law options turns side theirs (is_exhausted e.options.max_retransmissions e.error_count) (act_input flushes ∷ []) more h
    (act_moves law options turns side theirs flushes more (λ p q core choices same. refl) h (λ o turn. flush_turn_fits e o turn h.fits)) taken

after_moves_of : Below → (options : Options) (turns : List Transition) (side : SideState) (theirs : List Effect) (has_expired : Bool) (more : List Transition) → Followed options turns side
    → Turns (endpoint_after options turns) (after_expiries (endpoint_after options turns) has_expired) more → SideMoves options turns side theirs more
after_moves_of law options turns side theirs false more h taken = none_rests options turns side theirs more h taken
after_moves_of law options turns side theirs true more h taken = behind_moves law options turns side theirs (endpoint_after options turns).core more h taken

-- what comes of the timers that are left
abbrev ExpiriesMove : Options → List Effect → List Timer → Type 0
ExpiriesMove options theirs timers =
    (turns : List Transition) (side : SideState) (has_expired : Bool) (more : List Transition) → Followed options turns side
    → ExpiryTurns timers has_expired (endpoint_after options turns) more → SideMoves options turns side theirs more

next_moves : Below → (options : Options) (theirs : List Effect) (timer : Timer) (timers : List Timer) → ExpiriesMove options theirs timers
    → (due : Bool) (turns : List Transition) (side : SideState) (has_expired : Bool) (more : List Transition) → Followed options turns side
    → ExpiryThen due (ExpiryTurns timers) (endpoint_after options turns) has_expired timer more → SideMoves options turns side theirs more
next_moves law options theirs timer timers rest true turns side has_expired [] h taken = absurd taken
next_moves law options theirs timer timers rest true turns side has_expired (t ∷ more) h taken =
    expiry_moves law options turns side theirs timer t more h taken.0
    (λ (after : SideState) (follows : Followed options (turns ++ t ∷ []) after).
    rest (turns ++ t ∷ []) after true more follows (subst (λ (x : Endpoint). ExpiryTurns timers true x more) (sym (after_last _ turns t)) taken.1))
next_moves law options theirs timer timers rest false turns side has_expired more h taken = rest turns side has_expired more h taken

pub expiries_move : Below → (options : Options) (theirs : List Effect) (timers : List Timer) → ExpiriesMove options theirs timers
expiries_move law options theirs [] turns side has_expired more h taken = after_moves_of law options turns side theirs has_expired more h taken
expiries_move law options theirs (timer ∷ timers) turns side has_expired more h taken =
    let e : Endpoint = endpoint_after options turns in
    next_moves law options theirs timer timers (expiries_move law options theirs timers) (has_come e.moment (deadline e timer)) turns side has_expired more h taken
