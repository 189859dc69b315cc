-- The effects of a turn say truly what the association is after it.
use Rattle.std.proofs.Common.{◌&&◌, ◌≡◌, ℕ, Bool, true, false, Option, None, Some, Result, Ok, Err, List, [], ◌∷◌, inl, inr, refl, sym, subst, ap, ◌∙◌}
use Rattle.dcsctp_spec_lemmas.specs.types.declared.association.Pair.{Pair}
use Rattle.dcsctp_spec_lemmas.specs.types.declared.association.Held.{Held}
use Rattle.dcsctp_spec_lemmas.specs.types.declared.options.Options.{Options}
use Rattle.dcsctp_spec_lemmas.specs.wire.Numbers.{state_cookie_type}
use Rattle.dcsctp_spec_lemmas.specs.spec.Cookie.{Cookie, cookie_of_bytes}
use Rattle.dcsctp_spec_lemmas.specs.spec.endpoint.Cause.{missing_mandatory_parameter, causes_of}
use Rattle.dcsctp_spec_lemmas.specs.spec.Reconfiguration.{ResetParameter, RequestedReset}
use Rattle.dcsctp_spec_lemmas.specs.spec.Packet.{Introduction, Content, init, init_ack, cookie_echo, cookie_ack, re_config, abort, shutdown, shutdown_ack, shutdown_complete, plain}
use Rattle.dcsctp_spec_lemmas.specs.spec.endpoint.Endpoint.{Core, closed, cookie_wait, cookie_echoed, open_in, OpenPhase, established, shutdown_ack_sent}
use Rattle.dcsctp_spec_lemmas.specs.spec.endpoint.Following.{next_chunk}
use Rattle.dcsctp_spec_lemmas.specs.spec.association.Effect.{AssociationIdentity, holds, connects, Change, identity_of, identity_of_core}
use Rattle.dcsctp_spec_lemmas.specs.spec.association.ResumeChanges.{resumed_held}
use Rattle.dcsctp_spec_lemmas.specs.spec.association.Choices.{Filling, Choices}
use Rattle.dcsctp_spec_lemmas.specs.spec.association.FlushChanges.{reset_request, FlushResult, flush}
use Rattle.dcsctp_spec_lemmas.specs.spec.association.HandshakeChanges.{introduction_of, connect_change, init_change, echo_change, held_by_init_ack, init_ack_change, cookie_ack_change, t1_again_change, t1_gives_up_change}
use Rattle.dcsctp_spec_lemmas.specs.spec.association.CookieEchoChanges.{stale_error, Resolution, establish_new, restart, simultaneous_init, discard, maintain_existing, invalid_tag, stale, aged_resolution, resolve, held_by_cookie, new_association_change, restart_change, maintain_change, resolved_change, read_echo_change}
use Rattle.dcsctp_spec_lemmas.specs.spec.association.ResetChanges.{re_config_change, peer_part_handled}
use Rattle.dcsctp_spec_lemmas.specs.spec.association.ShutdownChanges.{shutdown_step_change, shutdown_change}
use Rattle.dcsctp_spec_lemmas.specs.spec.association.Acts.{Act, connect, t1_expires, shut_down, step_of_shutdown, shutdown_repeats, abort_with, hands_over, flushes, request_again, request_renewed, sent_then_flushed, flush_change, request_sent, request_again_change, renewed_if_fitting, request_renewed_change, act_change, violation_change, plain_change, chunk_change, shutdown_chunk_change}
use Rattle.dcsctp_spec_lemmas.proofs.OneAnswerLemmas.{change_by}
use Rattle.dcsctp_spec_runs.specs.World.{acted, worked, resumed}
use Rattle.dcsctp_theorem_association.specs.OneSide.{Means, EffectsMean}
use Rattle.dcsctp_theorem_association.proofs.Meaning.{AllSay, all_say-append, Meant, means_by, resume_means, same_meant, drawn_meant, ended_meant, alone_says, end_says-alone, flush_link, flush_says, sent_says, renewed_link, renewed_says, connects_says}
use Rattle.dcsctp_theorem_association.proofs.MeaningResets.{reset_link, reset_says}
use Rattle.dcsctp_theorem_association.proofs.MeaningShutdown.{step_link, step_says, step_meant, call_meant, aborts_meant, again_meant, abort_meant, shutdown_link, shutdown_says, shutdown_ack_meant, shutdown_complete_meant, hand_over_meant}

-- ---- what is held

some_link : {one two : AssociationIdentity} → one ≡ two → Some one ≡ Some two
some_link e = ap (λ (l : AssociationIdentity). Some l) e

-- An association with a peer is newly held, and is shown as that in front of these effects.
shown_meant : (core : Core) (my : Pair) (held : Held) (change : Change) → identity_of_core change.core ≡ Some (identity_of my held) → AllSay change.core change.effects
    → Meant core (record change { effects = holds (identity_of my held) ∷ change.effects })
shown_meant core my held change same all = record { says = (same, all); newly_held = λ link e. inr (inl (cc)) }

-- An open association stays, after a flush.
flushed_open_meant : (phase : OpenPhase) (my : Pair) (tag : ℕ) (held : Held) (front : List Content) (filling : Filling)
    → Meant (open_in phase my held) (record { core = open_in phase my (flush tag held front filling).held; effects = (flush tag held front filling).effects; following = next_chunk })
flushed_open_meant phase my tag held front filling =
    same_meant (some_link (flush_link my tag held front filling)) (flush_says (open_in phase my (flush tag held front filling).held) tag held front filling refl)

-- ---- the handshake

connect_meant : (options : Options) (core : Core) (choices : Choices) → Meant core (connect_change options core choices)
connect_meant options closed choices = drawn_meant tt refl (alone_says (cookie_wait choices.drawn) choices.fits 0 (init (introduction_of options choices.drawn)))
connect_meant options core choices = same_meant refl tt

init_meant : (options : Options) (core : Core) (theirs : Introduction) (choices : Choices) → Meant core (init_change options core theirs choices)
init_meant options (cookie_wait my) theirs choices = same_meant refl (alone_says (cookie_wait my) choices.fits _ _)
init_meant options (cookie_echoed my held cookie) theirs choices = same_meant refl (alone_says (cookie_echoed my held cookie) choices.fits _ _)
init_meant options (open_in shutdown_ack_sent my held) theirs choices = same_meant refl (tt, tt)
init_meant options closed theirs choices = drawn_meant tt refl (alone_says closed choices.fits _ _)
init_meant options (open_in phase my held) theirs choices = drawn_meant tt refl (alone_says (open_in phase my held) choices.fits _ _)

echoes_link : (my : Pair) (held : Held) (cookie : List ℕ) (fits : Bool) (filling : Filling) → identity_of_core (echo_change my held cookie fits filling).core ≡ Some (identity_of my held)
echoes_link my held cookie false filling = refl
echoes_link my held cookie true filling = some_link (flush_link my held.peer.tag held (cookie_echo cookie ∷ []) filling)

echoes_say : (my : Pair) (held : Held) (cookie : List ℕ) (fits : Bool) (filling : Filling)
    → AllSay (echo_change my held cookie fits filling).core (echo_change my held cookie fits filling).effects
echoes_say my held cookie false filling = tt
echoes_say my held cookie true filling =
    let after : FlushResult = flush held.peer.tag held (cookie_echo cookie ∷ []) filling in
    flush_says (cookie_echoed my after.held cookie) held.peer.tag held (cookie_echo cookie ∷ []) filling refl

init_ack_meant : (options : Options) (core : Core) (theirs : Introduction) (cookie : Option (List ℕ)) (choices : Choices) → Meant core (init_ack_change options core theirs cookie choices)
init_ack_meant options (cookie_wait my) theirs None choices =
    ended_meant (end_says-alone choices.fits theirs.pair.tag (abort false (missing_mandatory_parameter (state_cookie_type ∷ []) ∷ [])))
init_ack_meant options (cookie_wait my) theirs (Some cookie) choices =
    let held : Held = held_by_init_ack options my theirs in
    shown_meant (cookie_wait my) my held (echo_change my held cookie choices.fits choices.filling) (echoes_link my held cookie choices.fits choices.filling)
    (echoes_say my held cookie choices.fits choices.filling)
init_ack_meant options core theirs cookie choices = same_meant refl tt

cookie_ack_meant : (core : Core) (choices : Choices) → Meant core (cookie_ack_change core choices)
cookie_ack_meant (cookie_echoed my held cookie) choices =
    same_meant (some_link (flush_link my held.peer.tag held [] choices.filling)) (connects_says my held.peer.tag held [] choices.filling)
cookie_ack_meant core choices = same_meant refl tt

t1_again_meant : (options : Options) (core : Core) (choices : Choices) → Meant core (t1_again_change options core choices)
t1_again_meant options (cookie_wait my) choices = same_meant refl (alone_says (cookie_wait my) choices.fits 0 (init (introduction_of options my)))
t1_again_meant options (cookie_echoed my held cookie) choices =
    same_meant (echoes_link my held cookie choices.fits choices.filling) (echoes_say my held cookie choices.fits choices.filling)
t1_again_meant options core choices = same_meant refl tt

t1_gives_up_meant : (core : Core) → Meant core (t1_gives_up_change core)
t1_gives_up_meant (cookie_wait my) = ended_meant (refl, tt)
t1_gives_up_meant (cookie_echoed my held cookie) = ended_meant (refl, tt)
t1_gives_up_meant core = same_meant refl tt

-- ---- COOKIE ECHO

new_meant : (options : Options) (core : Core) (cookie : Cookie) (choices : Choices) → Meant core (new_association_change options cookie choices)
new_meant options core cookie choices =
    let my : Pair = cookie.maker in
    let tag : ℕ = cookie.addressee.tag in
    let held : Held = held_by_cookie options cookie in
    let after : FlushResult = flush tag held (cookie_ack ∷ []) choices.filling in
    shown_meant core my held
    (record { core = open_in established my after.held; effects = connects (identity_of my held) ∷ after.effects; following = next_chunk })
    (some_link (flush_link my tag held (cookie_ack ∷ []) choices.filling))
    (connects_says my tag held (cookie_ack ∷ []) choices.filling)

restarts_meant : (options : Options) (core : Core) (cookie : Cookie) (choices : Choices) → Meant core (restart_change options core cookie choices)
restarts_meant options (open_in shutdown_ack_sent my held) cookie choices = same_meant refl (tt, tt)
restarts_meant options core cookie choices = new_meant options core cookie choices

maintains_meant : (core : Core) (cookie : Cookie) (choices : Choices) → Meant core (maintain_change core cookie choices)
maintains_meant (cookie_echoed my held echoed) cookie choices =
    same_meant (some_link (flush_link my cookie.addressee.tag held (cookie_ack ∷ []) choices.filling)) (connects_says my cookie.addressee.tag held (cookie_ack ∷ []) choices.filling)
maintains_meant (open_in phase my held) cookie choices = flushed_open_meant phase my cookie.addressee.tag held (cookie_ack ∷ []) choices.filling
maintains_meant core cookie choices = same_meant refl tt

resolved_meant : (options : Options) (core : Core) (cookie : Cookie) (choices : Choices) (resolution : Resolution) → Meant core (resolved_change options core cookie choices resolution)
resolved_meant options core cookie choices establish_new = new_meant options core cookie choices
resolved_meant options core cookie choices restart = restarts_meant options core cookie choices
resolved_meant options core cookie choices simultaneous_init = new_meant options core cookie choices
resolved_meant options core cookie choices discard = same_meant refl tt
resolved_meant options core cookie choices maintain_existing = maintains_meant core cookie choices
resolved_meant options core cookie choices invalid_tag = same_meant refl tt
resolved_meant options core cookie choices stale = same_meant refl (alone_says core (options.follow_rfc && choices.fits) cookie.addressee.tag stale_error)

echo_meant : (options : Options) (core : Core) (header : ℕ) (read : Result Cookie (List ℕ)) (choices : Choices) → Meant core (read_echo_change options core header read choices)
echo_meant options core header (Err text) choices = same_meant refl tt
echo_meant options core header (Ok cookie) choices = resolved_meant options core cookie choices (aged_resolution choices.is_stale (resolve core choices.tie choices.secret header cookie))

-- ---- flushes and resets

flush_change_link : (core : Core) (choices : Choices) → identity_of_core (flush_change core choices).core ≡ identity_of_core core
flush_change_link (cookie_echoed my held cookie) choices = some_link (flush_link my held.peer.tag held [] choices.filling)
flush_change_link (open_in phase my held) choices = some_link (flush_link my held.peer.tag held [] choices.filling)
flush_change_link core choices = refl

flush_change_says : (core : Core) (choices : Choices) → AllSay (flush_change core choices).core (flush_change core choices).effects
flush_change_says (cookie_echoed my held cookie) choices = sent_says (cookie_echoed my (sent_then_flushed held choices).held cookie) held choices refl
flush_change_says (open_in phase my held) choices = sent_says (open_in phase my (sent_then_flushed held choices).held) held choices refl
flush_change_says core choices = tt

flush_meant : (core : Core) (choices : Choices) → Meant core (flush_change core choices)
flush_meant core choices = same_meant (flush_change_link core choices) (flush_change_says core choices)

re_config_meant : (follows : Bool) (core : Core) (parameters : List ResetParameter) (choices : Choices) → Meant core (re_config_change follows core parameters choices)
re_config_meant true (cookie_echoed my held cookie) parameters choices = same_meant refl tt
re_config_meant false (cookie_echoed my held cookie) parameters choices =
    same_meant (some_link (reset_link my held parameters choices))
    (reset_says (cookie_echoed my (peer_part_handled my held parameters choices).held cookie) my held parameters choices refl refl)
re_config_meant follows (open_in phase my held) parameters choices =
    same_meant (some_link (reset_link my held parameters choices))
    (reset_says (open_in phase my (peer_part_handled my held parameters choices).held) my held parameters choices refl refl)
re_config_meant follows core parameters choices = same_meant refl tt

request_says : (core : Core) (held : Held) (request : Option ℕ) (reset : RequestedReset) (fits : Bool) → AllSay core (request_sent held request reset fits)
request_says core held None reset fits = tt
request_says core held (Some number) reset fits = alone_says core fits held.peer.tag (reset_request number reset)

request_again_meant : (core : Core) (reset : RequestedReset) (fits : Bool) → Meant core (request_again_change core reset fits)
request_again_meant (cookie_echoed my held cookie) reset fits = same_meant refl (request_says (cookie_echoed my held cookie) held held.own_outstanding reset fits)
request_again_meant (open_in phase my held) reset fits = same_meant refl (request_says (open_in phase my held) held held.own_outstanding reset fits)
request_again_meant core reset fits = same_meant refl tt

request_renewed_meant : (core : Core) (reset : RequestedReset) (fits : Bool) → Meant core (request_renewed_change core reset fits)
request_renewed_meant (cookie_echoed my held cookie) reset fits =
    let after : Held = (renewed_if_fitting held held.own_outstanding reset fits).held in
    same_meant (some_link (renewed_link my held held.own_outstanding reset fits)) (renewed_says (cookie_echoed my after cookie) held held.own_outstanding reset fits refl)
request_renewed_meant (open_in phase my held) reset fits =
    let after : Held = (renewed_if_fitting held held.own_outstanding reset fits).held in
    same_meant (some_link (renewed_link my held held.own_outstanding reset fits)) (renewed_says (open_in phase my after) held held.own_outstanding reset fits refl)
request_renewed_meant core reset fits = same_meant refl tt

-- ---- every turn

act_meant : (options : Options) (core : Core) (act : Act) (choices : Choices) → Meant core (act_change options core act choices)
act_meant options core connect choices = connect_meant options core choices
act_meant options core (t1_expires true) choices = t1_again_meant options core choices
act_meant options core (t1_expires false) choices = t1_gives_up_meant core
act_meant options core shut_down choices = call_meant options core choices.tsn choices.is_acknowledged
act_meant options core step_of_shutdown choices = step_meant core choices.tsn choices.is_acknowledged
act_meant options core shutdown_repeats choices = again_meant core choices.tsn
act_meant options core (abort_with reason) choices = aborts_meant core (causes_of reason) choices.fits
act_meant options core hands_over choices = hand_over_meant core
act_meant options core flushes choices = flush_meant core choices
act_meant options core (request_again reset) choices = request_again_meant core reset choices.fits
act_meant options core (request_renewed reset) choices = request_renewed_meant core reset choices.fits

violation_meant : (core : Core) (choices : Choices) → Meant core (violation_change core choices)
violation_meant (cookie_echoed my held cookie) choices = aborts_meant (cookie_echoed my held cookie) choices.causes choices.fits
violation_meant (open_in phase my held) choices = aborts_meant (open_in phase my held) choices.causes choices.fits
violation_meant core choices = same_meant refl tt

other_meant : (core : Core) (is_violation : Bool) (choices : Choices) → Meant core (plain_change core is_violation choices)
other_meant core true choices = violation_meant core choices
other_meant core false choices =
    let stepped : Change = shutdown_step_change core choices.tsn choices.is_acknowledged in
    let after : Change = flush_change stepped.core choices in
    same_meant (flush_change_link stepped.core choices ∙ step_link core choices.tsn choices.is_acknowledged)
    (all_say-append after.core stepped.effects after.effects (step_says after.core core choices.tsn choices.is_acknowledged) (flush_change_says stepped.core choices))

heard_meant : (core : Core) (choices : Choices) → Meant core (shutdown_chunk_change core choices)
heard_meant core choices =
    let stepped : Change = shutdown_change core choices.tsn choices.is_acknowledged in
    let after : Change = flush_change stepped.core choices in
    same_meant (flush_change_link stepped.core choices ∙ shutdown_link core choices.tsn choices.is_acknowledged)
    (all_say-append after.core stepped.effects after.effects (shutdown_says after.core core choices.tsn choices.is_acknowledged) (flush_change_says stepped.core choices))

chunk_meant : (options : Options) (core : Core) (header : ℕ) (content : Content) (choices : Choices) → Meant core (chunk_change options core header content choices)
chunk_meant options core header (init theirs) choices = change_by (Meant core) options core theirs choices (same_meant refl tt) (init_meant options core theirs choices)
chunk_meant options core header (init_ack theirs cookie) choices = init_ack_meant options core theirs cookie choices
chunk_meant options core header (cookie_echo cookie) choices = echo_meant options core header (cookie_of_bytes cookie) choices
chunk_meant options core header cookie_ack choices = cookie_ack_meant core choices
chunk_meant options core header (re_config parameters) choices = re_config_meant options.follow_rfc core parameters choices
chunk_meant options core header (abort reflected causes) choices = abort_meant options core
chunk_meant options core header (shutdown cumulative_tsn) choices = heard_meant core choices
chunk_meant options core header shutdown_ack choices = shutdown_ack_meant core header choices.following
chunk_meant options core header (shutdown_complete reflected) choices = shutdown_complete_meant core
chunk_meant options core header (plain chunk) choices = other_meant core choices.is_violation choices

pub effects_mean : EffectsMean
effects_mean options core change (acted act choices is) = means_by core change (subst (Meant core) (sym is) (act_meant options core act choices))
effects_mean options core change (worked header content choices is) = means_by core change (subst (Meant core) (sym is) (chunk_meant options core header content choices))
effects_mean options core change (resumed my peer capabilities own last closes is) = subst (Means core) (sym is) (resume_means core my (resumed_held peer capabilities own last))
