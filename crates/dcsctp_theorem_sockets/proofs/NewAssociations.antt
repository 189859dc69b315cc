-- An association that a turn makes differs from the one before it, and is what the turn records first.
use Rattle.std.proofs.Common.{◌≡◌, ◌≢◌, ◌==◌, ◌&&◌, ℕ, Bool, true, false, Option, None, Some, Result, Ok, Err, List, [], ◌∷◌, inl, inr, refl, sym, subst, ap, ◌∙◌, arith}
use Rattle.std.proofs.lemmas.Bool.Decides.{nat_tests}
use Rattle.dcsctp_spec_lemmas.specs.types.declared.association.Pair.{Pair}
use Rattle.dcsctp_spec_lemmas.specs.types.declared.association.Held.{Held}
use Rattle.dcsctp_spec_lemmas.specs.types.declared.options.Options.{Options}
use Rattle.dcsctp_spec_lemmas.specs.spec.Cookie.{Cookie, cookie_of_bytes}
use Rattle.dcsctp_spec_lemmas.specs.spec.Packet.{Introduction, Content, init, init_ack, cookie_echo, cookie_ack, re_config, abort, shutdown, shutdown_ack, shutdown_complete, plain}
use Rattle.dcsctp_spec_lemmas.specs.spec.endpoint.Endpoint.{Core, closed, cookie_wait, cookie_echoed, open_in, OpenPhase, shutdown_ack_sent}
use Rattle.dcsctp_spec_lemmas.specs.spec.association.Effect.{AssociationIdentity, Effect, holds, ends, Change, emission_effects, emitted_alone, identity_of, identity_of_core}
use Rattle.dcsctp_spec_lemmas.specs.spec.association.Choices.{Choices}
use Rattle.dcsctp_spec_lemmas.specs.spec.association.FlushChanges.{flush}
use Rattle.dcsctp_spec_lemmas.specs.spec.association.HandshakeChanges.{init_change, held_by_init_ack, init_ack_change, cookie_ack_change}
use Rattle.dcsctp_spec_lemmas.specs.spec.association.CookieEchoChanges.{stale_error, stale_change, Resolution, establish_new, restart, simultaneous_init, discard, maintain_existing, invalid_tag, stale, aged_resolution, resolve, case_by_answers, case_without_peer, held_by_cookie, new_association_change, shutting_down_error, restart_change, maintain_change, resolved_change, read_echo_change}
use Rattle.dcsctp_spec_lemmas.specs.spec.association.ResumeChanges.{resumed_held, resume_change}
use Rattle.dcsctp_spec_lemmas.specs.spec.association.Acts.{chunk_change}
use Rattle.dcsctp_spec_runs.specs.Past.{HasEffect}
use Rattle.dcsctp_spec_runs.specs.World.{ControlTurn, acted, worked, resumed}
use Rattle.dcsctp_spec_lemmas.proofs.AbortLemmas.{by_abort}
use Rattle.dcsctp_spec_lemmas.proofs.OneAnswerLemmas.{change_by}
use Rattle.dcsctp_theorem_sockets.proofs.NoHolding.{IsNoHolding, HoldsNone, none-alone, none-flush, none-sent, none-reset}
use Rattle.dcsctp_theorem_sockets.proofs.NoHoldingTurns.{ended_none, again_echo_none, init_none, heard_none, shutdown_ack_none, complete_none, plain_none, closed_plain_none, waiting_plain_none, echoed_plain_none, act_none}
use Rattle.dcsctp_spec_lemmas.specs.spec.Reconfiguration.{ResetParameter}
use Rattle.dcsctp_spec_lemmas.specs.spec.association.ResetChanges.{echoed_re_config_change}

-- An association that is there from here on isn't the one that was there.
abbrev pub Anew : Core → List Effect → Type 0
Anew core effects = (link : AssociationIdentity) → HasEffect (holds link) effects → identity_of_core core ≢ Some link

-- At most the first of these effects is that an association is there.
abbrev pub FirstAlone : List Effect → Type 0
FirstAlone [] = Unit {0}
FirstAlone (effect ∷ effects) = HoldsNone effects

-- what a turn says of associations
pub record New (core : Core) (effects : List Effect) : Type 0 where
  pub anew : Anew core effects
  pub first : FirstAlone effects

not_among : (link : AssociationIdentity) (effects : List Effect) → HoldsNone effects → HasEffect (holds link) effects → ⊥
not_among link [] none has = has
not_among link (effect ∷ effects) none (inl is) = subst IsNoHolding (sym is) none.0
not_among link (effect ∷ effects) none (inr has) = not_among link effects none.1 has

first_of : (effects : List Effect) → HoldsNone effects → FirstAlone effects
first_of [] none = tt
first_of (effect ∷ effects) none = none.1

none_anew : (core : Core) (effects : List Effect) → HoldsNone effects → New core effects
none_anew core effects none = record { anew = λ link has same. not_among link effects none has; first = first_of effects none }

-- There was none.
first_anew : (core : Core) (effects : List Effect) → identity_of_core core ≡ None → FirstAlone effects → New core effects
first_anew core effects none first = record { anew = λ link has same. absurd (cc); first = first }

-- ---- COOKIE ECHO

-- of another peer than the one that was there
another_anew : (options : Options) (core : Core) (my : Pair) (held : Held) (cookie : Cookie) (choices : Choices) → identity_of_core core ≡ Some (identity_of my held)
    → (cookie.addressee.tag == held.peer.tag) ≡ false → Anew core (new_association_change options cookie choices).effects
another_anew options core my held cookie choices is other link (inl new) same =
    let was : identity_of my held ≡ link = cc in
    let made : link ≡ identity_of cookie.maker (held_by_cookie options cookie) = cc in
    let tags : held.peer.tag ≡ cookie.addressee.tag = ap (λ (l : AssociationIdentity). l.peer.tag) (was ∙ made) in
    absurd (grind (arith, nat_tests, tags, other))
another_anew options core my held cookie choices is other link (inr (inl connects)) same = absurd (cc)
another_anew options core my held cookie choices is other link (inr (inr has)) same =
    absurd (not_among link (flush cookie.addressee.tag (held_by_cookie options cookie) (cookie_ack ∷ []) choices.filling).effects
    (none-flush cookie.addressee.tag (held_by_cookie options cookie) (cookie_ack ∷ []) choices.filling) has)

-- First the new association is recorded, then that it connects.
new_first : (options : Options) (cookie : Cookie) (choices : Choices) → FirstAlone (new_association_change options cookie choices).effects
new_first options cookie choices = (tt, none-flush cookie.addressee.tag (held_by_cookie options cookie) (cookie_ack ∷ []) choices.filling)

new_anew : (options : Options) (core : Core) (my : Pair) (held : Held) (cookie : Cookie) (choices : Choices) → identity_of_core core ≡ Some (identity_of my held)
    → (cookie.addressee.tag == held.peer.tag) ≡ false → New core (new_association_change options cookie choices).effects
new_anew options core my held cookie choices is other =
    record { anew = another_anew options core my held cookie choices is other; first = new_first options cookie choices }

restart_anew : (options : Options) (core : Core) (my : Pair) (held : Held) (cookie : Cookie) (choices : Choices) → identity_of_core core ≡ Some (identity_of my held)
    → (cookie.addressee.tag == held.peer.tag) ≡ false → New core (restart_change options core cookie choices).effects
restart_anew options (open_in shutdown_ack_sent mine has) my held cookie choices is other = none_anew (open_in shutdown_ack_sent mine has) (emission_effects has.peer.tag (shutdown_ack ∷ shutting_down_error ∷ [])) (tt, tt)
restart_anew options core my held cookie choices is other = new_anew options core my held cookie choices is other

pub maintain_none : (core : Core) (cookie : Cookie) (choices : Choices) → HoldsNone (maintain_change core cookie choices).effects
maintain_none (cookie_echoed my held echoed) cookie choices = (tt, none-flush cookie.addressee.tag held (cookie_ack ∷ []) choices.filling)
maintain_none (open_in phase my held) cookie choices = none-flush cookie.addressee.tag held (cookie_ack ∷ []) choices.filling
maintain_none core cookie choices = tt

-- the table of RFC 9260, section 5.2.4
case_anew : (options : Options) (core : Core) (my : Pair) (held : Held) (cookie : Cookie) (choices : Choices) (is_own is_peer is_tie is_zero : Bool)
    → identity_of_core core ≡ Some (identity_of my held) → (cookie.addressee.tag == held.peer.tag) ≡ is_peer
    → New core (resolved_change options core cookie choices (case_by_answers is_own is_peer is_tie is_zero)).effects
case_anew options core my held cookie choices false false true is_zero is peer = restart_anew options core my held cookie choices is peer
case_anew options core my held cookie choices false false false is_zero is peer = none_anew core [] tt
case_anew options core my held cookie choices true false is_tie is_zero is peer = new_anew options core my held cookie choices is peer
case_anew options core my held cookie choices false true is_tie true is peer = none_anew core [] tt
case_anew options core my held cookie choices false true is_tie false is peer = none_anew core [] tt
case_anew options core my held cookie choices true true is_tie is_zero is peer = none_anew core _ (maintain_none core cookie choices)

-- where no peer is known
unknown_first : (options : Options) (core : Core) (cookie : Cookie) (choices : Choices) (is_own : Bool)
    → FirstAlone (resolved_change options core cookie choices (case_without_peer is_own)).effects
unknown_first options core cookie choices true = new_first options cookie choices
unknown_first options core cookie choices false = tt

stale_anew : (options : Options) (core : Core) (cookie : Cookie) (choices : Choices) → New core (stale_change options core cookie choices).effects
stale_anew options core cookie choices =
    let tells : Bool = options.follow_rfc && choices.fits in
    none_anew core (emitted_alone tells cookie.addressee.tag stale_error) (none-alone tells cookie.addressee.tag stale_error)

-- whatever the cookie's age
aged_anew : (options : Options) (core : Core) (cookie : Cookie) (choices : Choices) (old : Bool) (resolution : Resolution)
    → New core (resolved_change options core cookie choices resolution).effects → New core (resolved_change options core cookie choices (aged_resolution old resolution)).effects
aged_anew options core cookie choices true establish_new h = stale_anew options core cookie choices
aged_anew options core cookie choices true restart h = stale_anew options core cookie choices
aged_anew options core cookie choices true simultaneous_init h = stale_anew options core cookie choices
aged_anew options core cookie choices true discard h = h
aged_anew options core cookie choices true maintain_existing h = h
aged_anew options core cookie choices true invalid_tag h = h
aged_anew options core cookie choices true stale h = h
aged_anew options core cookie choices false resolution h = h

table_anew : (options : Options) (core : Core) (header : ℕ) (cookie : Cookie) (choices : Choices) → New core (resolved_change options core cookie choices (resolve core choices.tie choices.secret header cookie)).effects
table_anew options closed header cookie choices =
    first_anew closed (resolved_change options closed cookie choices (case_without_peer (header == cookie.maker.tag))).effects refl
    (unknown_first options closed cookie choices (header == cookie.maker.tag))
table_anew options (cookie_wait my) header cookie choices =
    first_anew (cookie_wait my) (resolved_change options (cookie_wait my) cookie choices (case_without_peer (header == cookie.maker.tag))).effects refl
    (unknown_first options (cookie_wait my) cookie choices (header == cookie.maker.tag))
table_anew options (cookie_echoed my held echoed) header cookie choices =
    case_anew options (cookie_echoed my held echoed) my held cookie choices (header == my.tag) (cookie.addressee.tag == held.peer.tag) (cookie.tie == choices.tie) (cookie.tie == choices.secret)
    refl refl
table_anew options (open_in phase my held) header cookie choices =
    case_anew options (open_in phase my held) my held cookie choices (header == my.tag) (cookie.addressee.tag == held.peer.tag) (cookie.tie == choices.tie) (cookie.tie == choices.secret) refl refl

echo_anew : (options : Options) (core : Core) (header : ℕ) (read : Result Cookie (List ℕ)) (choices : Choices) → New core (read_echo_change options core header read choices).effects
echo_anew options core header (Err text) choices = none_anew core [] tt
echo_anew options core header (Ok cookie) choices =
    aged_anew options core cookie choices choices.is_stale (resolve core choices.tie choices.secret header cookie) (table_anew options core header cookie choices)

-- ---- every other chunk

reset_anew : (follows : Bool) (my : Pair) (held : Held) (echoed : List ℕ) (parameters : List ResetParameter) (choices : Choices)
    → New (cookie_echoed my held echoed) (echoed_re_config_change follows my held echoed parameters choices).effects
reset_anew true my held echoed parameters choices = none_anew (cookie_echoed my held echoed) [] tt
reset_anew false my held echoed parameters choices = none_anew (cookie_echoed my held echoed) _ (none-reset my held parameters choices)

echoed_chunk_anew : (options : Options) (my : Pair) (held : Held) (echoed : List ℕ) (header : ℕ) (content : Content) (choices : Choices)
    → New (cookie_echoed my held echoed) (chunk_change options (cookie_echoed my held echoed) header content choices).effects
echoed_chunk_anew options my held echoed header (init theirs) choices =
    change_by (λ change. New (cookie_echoed my held echoed) change.effects) options (cookie_echoed my held echoed) theirs choices (none_anew (cookie_echoed my held echoed) [] tt) (none_anew (cookie_echoed my held echoed) _ (none-alone choices.fits _ _))
echoed_chunk_anew options my held echoed header (init_ack theirs cookie) choices = none_anew (cookie_echoed my held echoed) [] tt
echoed_chunk_anew options my held echoed header (cookie_echo cookie) choices = echo_anew options (cookie_echoed my held echoed) header (cookie_of_bytes cookie) choices
echoed_chunk_anew options my held echoed header cookie_ack choices = none_anew (cookie_echoed my held echoed) (cookie_ack_change (cookie_echoed my held echoed) choices).effects (tt, none-flush held.peer.tag held [] choices.filling)
echoed_chunk_anew options my held echoed header (re_config parameters) choices = reset_anew options.follow_rfc my held echoed parameters choices
echoed_chunk_anew options my held echoed header (abort reflected causes) choices = none_anew (cookie_echoed my held echoed) (ends ∷ []) (tt, tt)
echoed_chunk_anew options my held echoed header (shutdown tsn) choices = none_anew (cookie_echoed my held echoed) _ (none-sent held choices)
echoed_chunk_anew options my held echoed header shutdown_ack choices = none_anew (cookie_echoed my held echoed) (emission_effects header (shutdown_complete true ∷ [])) (tt, tt)
echoed_chunk_anew options my held echoed header (shutdown_complete reflected) choices = none_anew (cookie_echoed my held echoed) [] tt
echoed_chunk_anew options my held echoed header (plain chunk) choices = none_anew (cookie_echoed my held echoed) _ (echoed_plain_none my held echoed choices.is_violation choices)

open_chunk_anew : (options : Options) (phase : OpenPhase) (my : Pair) (held : Held) (header : ℕ) (content : Content) (choices : Choices)
    → New (open_in phase my held) (chunk_change options (open_in phase my held) header content choices).effects
open_chunk_anew options phase my held header (init theirs) choices =
    change_by (λ change. New (open_in phase my held) change.effects) options (open_in phase my held) theirs choices (none_anew (open_in phase my held) [] tt) (none_anew (open_in phase my held) _ (init_none options (open_in phase my held) theirs phase held choices))
open_chunk_anew options phase my held header (init_ack theirs cookie) choices = none_anew (open_in phase my held) [] tt
open_chunk_anew options phase my held header (cookie_echo cookie) choices = echo_anew options (open_in phase my held) header (cookie_of_bytes cookie) choices
open_chunk_anew options phase my held header cookie_ack choices = none_anew (open_in phase my held) [] tt
open_chunk_anew options phase my held header (re_config parameters) choices = none_anew (open_in phase my held) _ (none-reset my held parameters choices)
open_chunk_anew options phase my held header (abort reflected causes) choices = none_anew (open_in phase my held) (ends ∷ []) (tt, tt)
open_chunk_anew options phase my held header (shutdown tsn) choices = none_anew (open_in phase my held) _ (heard_none phase my held choices)
open_chunk_anew options phase my held header shutdown_ack choices = none_anew (open_in phase my held) _ (shutdown_ack_none phase my held header choices.following)
open_chunk_anew options phase my held header (shutdown_complete reflected) choices = none_anew (open_in phase my held) _ (complete_none phase my held)
open_chunk_anew options phase my held header (plain chunk) choices = none_anew (open_in phase my held) _ (plain_none phase my held choices.is_violation choices)

closed_chunk_anew : (options : Options) (header : ℕ) (content : Content) (choices : Choices) → New closed (chunk_change options closed header content choices).effects
closed_chunk_anew options header (init theirs) choices =
    change_by (λ change. New (closed) change.effects) options (closed) theirs choices (none_anew (closed) [] tt) (none_anew closed (init_change options closed theirs choices).effects (tt, none-alone choices.fits _ _))
closed_chunk_anew options header (init_ack theirs cookie) choices = none_anew closed [] tt
closed_chunk_anew options header (cookie_echo cookie) choices = echo_anew options closed header (cookie_of_bytes cookie) choices
closed_chunk_anew options header cookie_ack choices = none_anew closed [] tt
closed_chunk_anew options header (re_config parameters) choices = none_anew closed [] tt
closed_chunk_anew options header (abort reflected causes) choices = none_anew closed [] tt
closed_chunk_anew options header (shutdown tsn) choices = none_anew closed [] tt
closed_chunk_anew options header shutdown_ack choices = none_anew closed (emission_effects header (shutdown_complete true ∷ [])) (tt, tt)
closed_chunk_anew options header (shutdown_complete reflected) choices = none_anew closed [] tt
closed_chunk_anew options header (plain chunk) choices = none_anew closed _ (closed_plain_none choices.is_violation choices)

init_ack_anew : (options : Options) (my : Pair) (theirs : Introduction) (cookie : Option (List ℕ)) (choices : Choices)
    → New (cookie_wait my) (init_ack_change options (cookie_wait my) theirs cookie choices).effects
init_ack_anew options my theirs None choices = none_anew (cookie_wait my) _ (ended_none _ (none-alone choices.fits _ _))
init_ack_anew options my theirs (Some cookie) choices =
    first_anew (cookie_wait my) (init_ack_change options (cookie_wait my) theirs (Some cookie) choices).effects refl
    (again_echo_none my (held_by_init_ack options my theirs) cookie choices.fits choices.filling)

waiting_chunk_anew : (options : Options) (my : Pair) (header : ℕ) (content : Content) (choices : Choices)
    → New (cookie_wait my) (chunk_change options (cookie_wait my) header content choices).effects
waiting_chunk_anew options my header (init theirs) choices =
    change_by (λ change. New (cookie_wait my) change.effects) options (cookie_wait my) theirs choices (none_anew (cookie_wait my) [] tt) (none_anew (cookie_wait my) _ (none-alone choices.fits _ _))
waiting_chunk_anew options my header (init_ack theirs cookie) choices = init_ack_anew options my theirs cookie choices
waiting_chunk_anew options my header (cookie_echo cookie) choices = echo_anew options (cookie_wait my) header (cookie_of_bytes cookie) choices
waiting_chunk_anew options my header cookie_ack choices = none_anew (cookie_wait my) [] tt
waiting_chunk_anew options my header (re_config parameters) choices = none_anew (cookie_wait my) [] tt
waiting_chunk_anew options my header (abort reflected causes) choices =
    by_abort (λ change. New (cookie_wait my) change.effects) options (cookie_wait my) (none_anew (cookie_wait my) _ (ended_none [] tt)) (none_anew (cookie_wait my) [] tt)
waiting_chunk_anew options my header (shutdown tsn) choices = none_anew (cookie_wait my) [] tt
waiting_chunk_anew options my header shutdown_ack choices = none_anew (cookie_wait my) (emission_effects header (shutdown_complete true ∷ [])) (tt, tt)
waiting_chunk_anew options my header (shutdown_complete reflected) choices = none_anew (cookie_wait my) [] tt
waiting_chunk_anew options my header (plain chunk) choices = none_anew (cookie_wait my) _ (waiting_plain_none my choices.is_violation choices)

chunk_anew : (options : Options) (core : Core) (header : ℕ) (content : Content) (choices : Choices) → New core (chunk_change options core header content choices).effects
chunk_anew options closed header content choices = closed_chunk_anew options header content choices
chunk_anew options (cookie_wait my) header content choices = waiting_chunk_anew options my header content choices
chunk_anew options (cookie_echoed my held cookie) header content choices = echoed_chunk_anew options my held cookie header content choices
chunk_anew options (open_in phase my held) header content choices = open_chunk_anew options phase my held header content choices

-- ---- every turn

pub change_anew : (options : Options) (core : Core) (change : Change) → ControlTurn options core change → New core change.effects
change_anew options core change (acted act choices is) = subst (λ (c : Change). New core c.effects) (sym is) (none_anew core _ (act_none options core act choices))
change_anew options core change (worked header content choices is) = subst (λ (c : Change). New core c.effects) (sym is) (chunk_anew options core header content choices)
change_anew options core change (resumed my peer capabilities own last none is) =
    subst (λ (c : Change). New core c.effects) (sym is) (none_anew core (resume_change my (resumed_held peer capabilities own last)).effects (tt, (tt, tt)))
