-- Over every list of turns each effect of a side is in its place, and the association is the one that
-- the past leaves.
use Rattle.std.proofs.Common.{ℕ, Bool, true, false, Option, None, Some, List, [], ◌∷◌, refl, sym, subst}
use Rattle.dcsctp_spec_lemmas.specs.types.declared.association.Pair.{Pair}
use Rattle.dcsctp_spec_lemmas.specs.types.declared.association.Held.{Held}
use Rattle.dcsctp_spec_lemmas.specs.types.declared.capabilities.Capabilities.{Capabilities}
use Rattle.dcsctp_spec_lemmas.specs.types.declared.options.Options.{Options}
use Rattle.dcsctp_spec_lemmas.specs.spec.Cookie.{cookie_of_bytes}
use Rattle.dcsctp_spec_lemmas.specs.spec.endpoint.Cause.{Cause, causes_of}
use Rattle.dcsctp_spec_lemmas.specs.spec.Reconfiguration.{ResetParameter, RequestedReset}
use Rattle.dcsctp_spec_lemmas.specs.spec.Packet.{Content, init, init_ack, cookie_echo, cookie_ack, re_config, abort, shutdown, shutdown_ack, shutdown_complete, plain}
use Rattle.dcsctp_spec_lemmas.specs.spec.endpoint.Endpoint.{Core, closed, cookie_wait, cookie_echoed, open_in, OpenPhase, established, shutdown_pending, shutdown_sent, shutdown_received, shutdown_ack_sent}
use Rattle.dcsctp_spec_lemmas.specs.spec.endpoint.Following.{Following, next_chunk}
use Rattle.dcsctp_spec_lemmas.specs.spec.association.Effect.{Effect, Change, identity_of}
use Rattle.dcsctp_spec_lemmas.specs.spec.association.Choices.{Choices}
use Rattle.dcsctp_spec_lemmas.specs.spec.association.FlushChanges.{reset_request}
use Rattle.dcsctp_spec_lemmas.specs.spec.association.ResetChanges.{re_config_change}
use Rattle.dcsctp_spec_lemmas.specs.spec.association.ShutdownChanges.{shutdown_call_change_echoed, shutdown_step_change_by_phase, shutdown_step_change, shutdown_call_change, abort_call_change, shutdown_again_change, abort_change, shutdown_change, shutdown_ack_change, shutdown_complete_change}
use Rattle.dcsctp_spec_lemmas.specs.spec.association.Acts.{Act, connect, t1_expires, shut_down, step_of_shutdown, shutdown_repeats, abort_with, hands_over, flushes, request_again, request_renewed, flush_change, hand_over_change, request_sent, request_again_change, request_renewed_change, act_change, then_changes, violation_change, plain_change, chunk_change}
use Rattle.dcsctp_spec_lemmas.specs.spec.association.ResumeChanges.{resumed_held, resume_change}
use Rattle.dcsctp_spec_runs.specs.World.{SideState, after_effects, after_change, after_changes, ControlTurn, acted, worked, resumed, ControlTurns, SideRun, side_after}
use Rattle.dcsctp_theorem_association.specs.OneSide.{EffectsInPlace, LeavesCore, PastIsState}
use Rattle.dcsctp_spec_lemmas.proofs.AbortLemmas.{by_abort}
use Rattle.dcsctp_spec_lemmas.proofs.OneAnswerLemmas.{change_by}
use Rattle.dcsctp_theorem_association.proofs.OneSideLemmas.{Stands, after_effects-append, stands-connects, stands-resumed, sent_leads, renewed_leads}
use Rattle.dcsctp_theorem_association.proofs.OneSideResets.{reset_leads}
use Rattle.dcsctp_theorem_association.proofs.OneSideHandshake.{Good, Keeps, good_in_place, good-sends, good-emitted, good-emitted_alone, good-ends, good-ended_alone, stands_open, stands_echoed, connect_keeps, init_keeps, init_ack_keeps, cookie_ack_keeps, t1_again_keeps, t1_gives_up_keeps, echo_keeps}

-- ---- flushes and resets

flush_keeps : (core : Core) (choices : Choices) → Keeps core (flush_change core choices)
flush_keeps (cookie_echoed my held cookie) choices past good =
    stands_echoed cookie (sent_leads (identity_of my held) (Some (identity_of my held)) held choices past good)
flush_keeps (open_in phase my held) choices past good = stands_open phase (sent_leads (identity_of my held) good.0 held choices past good.1)
flush_keeps core choices past good = good

re_config_keeps : (follows : Bool) (core : Core) (parameters : List ResetParameter) (choices : Choices) → Keeps core (re_config_change follows core parameters choices)
re_config_keeps true (cookie_echoed my held cookie) parameters choices past good = good
re_config_keeps false (cookie_echoed my held cookie) parameters choices past good =
    stands_echoed cookie (reset_leads (identity_of my held) (Some (identity_of my held)) held parameters choices past good)
re_config_keeps follows (open_in phase my held) parameters choices past good = stands_open phase (reset_leads (identity_of my held) good.0 held parameters choices past good.1)
re_config_keeps follows core parameters choices past good = good

request_keeps : (core : Core) (held : Held) (request : Option ℕ) (reset : RequestedReset) (fits : Bool) (past : List Effect) → Good core past → Good core (after_effects (request_sent held request reset fits) past)
request_keeps core held None reset fits past good = good
request_keeps core held (Some number) reset fits past good = good-emitted_alone core fits held.peer.tag (reset_request number reset) past good

request_again_keeps : (core : Core) (reset : RequestedReset) (fits : Bool) → Keeps core (request_again_change core reset fits)
request_again_keeps (cookie_echoed my held cookie) reset fits past good = request_keeps (cookie_echoed my held cookie) held held.own_outstanding reset fits past good
request_again_keeps (open_in phase my held) reset fits past good = request_keeps (open_in phase my held) held held.own_outstanding reset fits past good
request_again_keeps core reset fits past good = good

request_renewed_keeps : (core : Core) (reset : RequestedReset) (fits : Bool) → Keeps core (request_renewed_change core reset fits)
request_renewed_keeps (cookie_echoed my held cookie) reset fits past good =
    stands_echoed cookie (renewed_leads (identity_of my held) (Some (identity_of my held)) held held.own_outstanding reset fits refl past good)
request_renewed_keeps (open_in phase my held) reset fits past good =
    stands_open phase (renewed_leads (identity_of my held) good.0 held held.own_outstanding reset fits refl past good.1)
request_renewed_keeps core reset fits past good = good

-- ---- shutdown

step_keeps_open : (phase : OpenPhase) (my : Pair) (held : Held) (tsn : ℕ) (is_acknowledged : Bool) → Keeps (open_in phase my held) (shutdown_step_change_by_phase phase my held tsn is_acknowledged)
step_keeps_open shutdown_pending my held tsn true past good = good-sends (open_in shutdown_sent my held) _ past good
step_keeps_open shutdown_received my held tsn true past good = good-sends (open_in shutdown_ack_sent my held) _ past good
step_keeps_open phase my held tsn is_acknowledged past good = good

step_keeps : (core : Core) (tsn : ℕ) (is_acknowledged : Bool) → Keeps core (shutdown_step_change core tsn is_acknowledged)
step_keeps (open_in phase my held) tsn is_acknowledged past good = step_keeps_open phase my held tsn is_acknowledged past good
step_keeps core tsn is_acknowledged past good = good

echoed_keeps : (follows : Bool) (my : Pair) (held : Held) (cookie : List ℕ) (tsn : ℕ) (is_acknowledged : Bool)
    → Keeps (cookie_echoed my held cookie) (shutdown_call_change_echoed follows my held cookie tsn is_acknowledged)
echoed_keeps true my held cookie tsn is_acknowledged past good = good
echoed_keeps false my held cookie tsn is_acknowledged past good = step_keeps_open shutdown_pending my held tsn is_acknowledged past (Some (identity_of my held), good)

call_keeps : (options : Options) (core : Core) (tsn : ℕ) (is_acknowledged : Bool) → Keeps core (shutdown_call_change options core tsn is_acknowledged)
call_keeps options (cookie_wait my) tsn is_acknowledged past good = good-ends (cookie_wait my) past good
call_keeps options (cookie_echoed my held cookie) tsn is_acknowledged past good = echoed_keeps options.follow_rfc my held cookie tsn is_acknowledged past good
call_keeps options (open_in established my held) tsn is_acknowledged past good = step_keeps_open shutdown_pending my held tsn is_acknowledged past good
call_keeps options core tsn is_acknowledged past good = good

aborts_keeps : (core : Core) (causes : List Cause) (fits : Bool) → Keeps core (abort_call_change core causes fits)
aborts_keeps closed causes fits past good = good
aborts_keeps (cookie_wait my) causes fits past good = good-ends (cookie_wait my) past good
aborts_keeps (cookie_echoed my held cookie) causes fits past good = good-ended_alone (cookie_echoed my held cookie) fits held.peer.tag (abort false causes) past good
aborts_keeps (open_in phase my held) causes fits past good = good-ended_alone (open_in phase my held) fits held.peer.tag (abort false causes) past good

again_keeps : (core : Core) (tsn : ℕ) → Keeps core (shutdown_again_change core tsn)
again_keeps (open_in shutdown_sent my held) tsn past good = good-sends (open_in shutdown_sent my held) _ past good
again_keeps (open_in shutdown_ack_sent my held) tsn past good = good-sends (open_in shutdown_ack_sent my held) _ past good
again_keeps core tsn past good = good

abort_keeps : (options : Options) (core : Core) → Keeps core (abort_change options core)
abort_keeps options core = by_abort (Keeps core) options core (λ past good. good-ends core past good) (λ past good. good)

shutdown_keeps : (core : Core) (tsn : ℕ) (is_acknowledged : Bool) → Keeps core (shutdown_change core tsn is_acknowledged)
shutdown_keeps (open_in established my held) tsn is_acknowledged past good = step_keeps_open shutdown_received my held tsn is_acknowledged past good
shutdown_keeps (open_in shutdown_pending my held) tsn is_acknowledged past good = step_keeps_open shutdown_received my held tsn is_acknowledged past good
shutdown_keeps (open_in shutdown_sent my held) tsn is_acknowledged past good = good-sends (open_in shutdown_ack_sent my held) _ past good
shutdown_keeps (open_in shutdown_received my held) tsn is_acknowledged past good = step_keeps_open shutdown_received my held tsn is_acknowledged past good
shutdown_keeps (open_in shutdown_ack_sent my held) tsn is_acknowledged past good = good-sends (open_in shutdown_ack_sent my held) _ past good
shutdown_keeps core tsn is_acknowledged past good = good

shutdown_ack_keeps : (core : Core) (header : ℕ) (following : Following) → Keeps core (shutdown_ack_change core header following)
shutdown_ack_keeps (open_in shutdown_sent my held) header following past good = good-ended_alone (open_in shutdown_sent my held) true held.peer.tag (shutdown_complete false) past good
shutdown_ack_keeps (open_in shutdown_ack_sent my held) header following past good = good-ended_alone (open_in shutdown_ack_sent my held) true held.peer.tag (shutdown_complete false) past good
shutdown_ack_keeps core header following past good = good-emitted core header (shutdown_complete true ∷ []) past good

shutdown_complete_keeps : (core : Core) → Keeps core (shutdown_complete_change core)
shutdown_complete_keeps (open_in shutdown_ack_sent my held) past good = good-ends (open_in shutdown_ack_sent my held) past good
shutdown_complete_keeps core past good = good

hand_over_keeps : (core : Core) → Keeps core (hand_over_change core)
hand_over_keeps (open_in established my held) past good = good-ends (open_in established my held) past good
hand_over_keeps core past good = good

-- ---- every turn

act_keeps : (options : Options) (core : Core) (act : Act) (choices : Choices) → Keeps core (act_change options core act choices)
act_keeps options core connect choices past good = connect_keeps options core choices past good
act_keeps options core (t1_expires true) choices past good = t1_again_keeps options core choices past good
act_keeps options core (t1_expires false) choices past good = t1_gives_up_keeps core past good
act_keeps options core shut_down choices past good = call_keeps options core choices.tsn choices.is_acknowledged past good
act_keeps options core step_of_shutdown choices past good = step_keeps core choices.tsn choices.is_acknowledged past good
act_keeps options core shutdown_repeats choices past good = again_keeps core choices.tsn past good
act_keeps options core (abort_with reason) choices past good = aborts_keeps core (causes_of reason) choices.fits past good
act_keeps options core hands_over choices past good = hand_over_keeps core past good
act_keeps options core flushes choices past good = flush_keeps core choices past good
act_keeps options core (request_again reset) choices past good = request_again_keeps core reset choices.fits past good
act_keeps options core (request_renewed reset) choices past good = request_renewed_keeps core reset choices.fits past good

-- one change after another
then_keeps : (core : Core) (first second : Change) (following : Following) → Keeps core first → Keeps first.core second → Keeps core (then_changes first second following)
then_keeps core first second following a b past good = subst (Good second.core) (sym (after_effects-append first.effects second.effects past)) (b (after_effects first.effects past) (a past good))

violation_keeps : (core : Core) (choices : Choices) → Keeps core (violation_change core choices)
violation_keeps (cookie_echoed my held cookie) choices past good = aborts_keeps (cookie_echoed my held cookie) choices.causes choices.fits past good
violation_keeps (open_in phase my held) choices past good = aborts_keeps (open_in phase my held) choices.causes choices.fits past good
violation_keeps core choices past good = good

other_keeps : (core : Core) (is_violation : Bool) (choices : Choices) → Keeps core (plain_change core is_violation choices)
other_keeps core true choices past good = violation_keeps core choices past good
other_keeps core false choices past good =
    let stepped : Change = shutdown_step_change core choices.tsn choices.is_acknowledged in
    then_keeps core stepped (flush_change stepped.core choices) choices.following (step_keeps core choices.tsn choices.is_acknowledged) (flush_keeps stepped.core choices) past good

chunk_keeps : (options : Options) (core : Core) (header : ℕ) (content : Content) (choices : Choices) → Keeps core (chunk_change options core header content choices)
chunk_keeps options core header (init theirs) choices past good = change_by (Keeps core) options core theirs choices (λ before h. h) (init_keeps options core theirs choices) past good
chunk_keeps options core header (init_ack theirs cookie) choices past good = init_ack_keeps options core theirs cookie choices past good
chunk_keeps options core header (cookie_echo cookie) choices past good = echo_keeps options core header (cookie_of_bytes cookie) choices past good
chunk_keeps options core header cookie_ack choices past good = cookie_ack_keeps core choices past good
chunk_keeps options core header (re_config parameters) choices past good = re_config_keeps options.follow_rfc core parameters choices past good
chunk_keeps options core header (abort reflected causes) choices past good = abort_keeps options core past good
chunk_keeps options core header (shutdown cumulative_tsn) choices past good =
    let stepped : Change = shutdown_change core choices.tsn choices.is_acknowledged in
    then_keeps core stepped (flush_change stepped.core choices) next_chunk (shutdown_keeps core choices.tsn choices.is_acknowledged) (flush_keeps stepped.core choices) past good
chunk_keeps options core header shutdown_ack choices past good = shutdown_ack_keeps core header choices.following past good
chunk_keeps options core header (shutdown_complete reflected) choices past good = shutdown_complete_keeps core past good
chunk_keeps options core header (plain chunk) choices past good = other_keeps core choices.is_violation choices past good

-- where none was
resume_keeps : (my peer : Pair) (capabilities : Capabilities) (own last : ℕ) → Keeps closed (resume_change my (resumed_held peer capabilities own last))
resume_keeps my peer capabilities own last past good = stands_open established (stands-connects (stands-resumed my peer capabilities own last past good.none good.in_place))

turn_keeps : (options : Options) (core : Core) (change : Change) → ControlTurn options core change → Keeps core change
turn_keeps options core change (acted act choices is) = subst (Keeps core) (sym is) (act_keeps options core act choices)
turn_keeps options core change (worked header content choices is) = subst (Keeps core) (sym is) (chunk_keeps options core header content choices)
turn_keeps options core change (resumed my peer capabilities own last none is) =
    subst (Keeps core) (sym is) (subst (λ (c : Core). Keeps c (resume_change my (resumed_held peer capabilities own last))) (sym none) (resume_keeps my peer capabilities own last))

-- ---- every run

turns_keep : (options : Options) (changes : List Change) (side : SideState) → ControlTurns options side.core changes → Good side.core side.past
    → Good (after_changes side changes).core (after_changes side changes).past
turns_keep options [] side turns good = good
turns_keep options (change ∷ changes) side turns good =
    turns_keep options changes (after_change side change) turns.1 (turn_keeps options side.core change turns.0 side.past good)

run_good : (options : Options) (steps : List (List Change)) → SideRun options steps → Good (side_after options steps).core (side_after options steps).past
run_good options [] run = record { none = refl; in_place = tt }
run_good options (changes ∷ earlier) run = turns_keep options changes (side_after options earlier) run.0 (run_good options earlier run.1)

pub effects_in_place : EffectsInPlace
effects_in_place options steps run = good_in_place (side_after options steps).core (side_after options steps).past (run_good options steps run)

-- ---- what the past leaves

good_leaves : (core : Core) (past : List Effect) → Good core past → LeavesCore past core
good_leaves closed past good = good.none
good_leaves (cookie_wait my) past good = good.none
good_leaves (cookie_echoed my held cookie) past good =
    record { link = good.is_current; own_next = good.begins_next; own_outstanding = good.is_outstanding; peer_next = good.accepts_next }
good_leaves (open_in phase my held) past good =
    let stands : Stands (identity_of my held) good.0 held past = good.1 in
    record { link = stands.is_current; own_next = stands.begins_next; own_outstanding = stands.is_outstanding; peer_next = stands.accepts_next }

pub past_is_state : PastIsState
past_is_state options steps run = good_leaves (side_after options steps).core (side_after options steps).past (run_good options steps run)
