-- By the RFC an association that is open has connected: its COOKIE ACK or COOKIE ECHO came.
use Rattle.std.proofs.Common.{◌≡◌, ℕ, Bool, true, false, None, Some, List, [], ◌∷◌, refl, sym, ◌∙◌, ap, subst, inl, inr}
use Rattle.std.specs.Prelude.{◌⊎◌, Option, Result, Ok, Err}
use Rattle.dcsctp_spec_lemmas.specs.types.declared.association.Held.{Held}
use Rattle.dcsctp_spec_lemmas.specs.types.declared.association.Pair.{Pair}
use Rattle.dcsctp_spec_lemmas.specs.types.declared.options.Options.{Options}
use Rattle.dcsctp_spec_lemmas.specs.spec.Cookie.{Cookie, cookie_of_bytes}
use Rattle.dcsctp_spec_lemmas.specs.spec.Packet.{Introduction, Content, init, init_ack, cookie_echo, cookie_ack, re_config, abort, shutdown, shutdown_ack, shutdown_complete, plain}
use Rattle.dcsctp_spec_lemmas.specs.spec.Reconfiguration.{ResetParameter}
use Rattle.dcsctp_spec_lemmas.specs.spec.endpoint.CallTurns.{Transition}
use Rattle.dcsctp_spec_lemmas.specs.spec.endpoint.Endpoint.{Endpoint, Core, closed, cookie_wait, cookie_echoed, open_in}
use Rattle.dcsctp_spec_lemmas.specs.spec.endpoint.Outcome.{Outcome}
use Rattle.dcsctp_spec_lemmas.specs.spec.endpoint.Turn.{Input, chunk_input, Turn}
use Rattle.dcsctp_spec_lemmas.specs.spec.association.Acts.{Act, connect, t1_expires, shut_down, step_of_shutdown, shutdown_repeats, abort_with, hands_over, flushes, request_again, request_renewed, act_change, chunk_change, plain_change}
use Rattle.dcsctp_spec_lemmas.specs.spec.association.Choices.{Choices, Filling}
use Rattle.dcsctp_spec_lemmas.specs.spec.association.CookieEchoChanges as resolutions
use Rattle.dcsctp_spec_lemmas.specs.spec.association.CookieEchoChanges.{Resolution, resolved_change, read_echo_change, aged_resolution, resolve}
use Rattle.dcsctp_spec_lemmas.specs.spec.association.Effect.{AssociationIdentity, Effect, draws, sends, holds, connects, ends, begins, gives_up, completes, fails, accepts, performs, renews, resumes, effects_without_packets, Change, identity_of, identity_of_core}
use Rattle.dcsctp_spec_lemmas.specs.spec.association.HandshakeChanges.{answered_init_change, init_ack_change, echo_change}
use Rattle.dcsctp_spec_lemmas.specs.spec.association.ResetChanges.{echoed_re_config_change}
use Rattle.dcsctp_spec_lemmas.specs.spec.association.ShutdownChanges.{shutdown_call_change_echoed, abort_change}
use Rattle.dcsctp_spec_runs.specs.Past.{HasEffect}
use Rattle.dcsctp_spec_runs.specs.World.{ControlTurn, acted, worked, resumed, after_effects}
use Rattle.dcsctp_spec_lemmas.specs.spec.endpoint.FlushOutcomes.{flush_answered}
use Rattle.dcsctp_spec_lemmas.specs.spec.endpoint.HandshakeOutcomes.{init_ack_with_flush}
use Rattle.dcsctp_spec_lemmas.proofs.AbortLemmas.{by_abort}
use Rattle.dcsctp_theorem_association.proofs.MeaningTurns.{effects_mean}
use Rattle.dcsctp_theorem_association.proofs.Growth.{after_within}
use Rattle.dcsctp_theorem_sockets.proofs.SocketsAlone.{Moves, it_rests, it_moves}
use Rattle.dcsctp_delivery_sockets.specs.turns.Actions as becomes
use Rattle.dcsctp_spec_lemmas.specs.spec.endpoint.Turn as inputs
use Rattle.dcsctp_delivery_sockets.specs.turns.Actions.{IsOpening, content_of_input, IsCall, Becomes}
use Rattle.dcsctp_delivery_sockets.proofs.turns.Connecting.{echo_connects}
use Rattle.dcsctp_delivery_sockets.proofs.turns.Turns.{turns_are_actions}
use Rattle.dcsctp_delivery_sockets.proofs.associations.AnsweringRests.{after_new}
use Rattle.dcsctp_spec_lemmas.specs.spec.association.ResumeChanges.{resumed_held}

abbrev pub is_open : Core → Bool
is_open closed = false
is_open (cookie_wait my) = false
is_open (cookie_echoed my held cookie) = false
is_open (open_in phase my held) = true

abbrev pub Connects : List Effect → Type 0
Connects effects = (link : AssociationIdentity) × HasEffect (connects link) effects

-- It was open before, or connects.
abbrev Opens : Core → Change → Type 0
Opens core change = is_open change.core ≡ true → (is_open core ≡ true) ⊎ Connects change.effects

never : (core : Core) (change : Change) → is_open change.core ≡ false → Opens core change
never core change none opens = absurd (let clash : false ≡ true = sym none ∙ opens in cc)

-- ---- acts

call_opens : (core : Core) (follows : Bool) (my : Pair) (held : Held) (cookie : List ℕ) (tsn : ℕ) (acknowledged : Bool) → follows ≡ true → Opens core (shutdown_call_change_echoed follows my held cookie tsn acknowledged)
call_opens core true my held cookie tsn acknowledged is opens = absurd (cc)
call_opens core false my held cookie tsn acknowledged is opens = absurd (cc)

echo_opens : (core : Core) (my : Pair) (held : Held) (cookie : List ℕ) (fits : Bool) (filling : Filling) → is_open (echo_change my held cookie fits filling).core ≡ false
echo_opens core my held cookie false filling = refl
echo_opens core my held cookie true filling = refl

act_opens : (options : Options) (core : Core) (act : Act) (choices : Choices) → options.follow_rfc ≡ true → Opens core (act_change options core act choices)
act_opens options (open_in phase my held) act choices follows opens = inl refl
act_opens options closed connect choices follows opens = absurd (cc)
act_opens options closed (t1_expires true) choices follows opens = absurd (cc)
act_opens options closed (t1_expires false) choices follows opens = absurd (cc)
act_opens options closed shut_down choices follows opens = absurd (cc)
act_opens options closed step_of_shutdown choices follows opens = absurd (cc)
act_opens options closed shutdown_repeats choices follows opens = absurd (cc)
act_opens options closed (abort_with reason) choices follows opens = absurd (cc)
act_opens options closed hands_over choices follows opens = absurd (cc)
act_opens options closed flushes choices follows opens = absurd (cc)
act_opens options closed (request_again reset) choices follows opens = absurd (cc)
act_opens options closed (request_renewed reset) choices follows opens = absurd (cc)
act_opens options (cookie_wait own) connect choices follows opens = absurd (cc)
act_opens options (cookie_wait own) (t1_expires true) choices follows opens = absurd (cc)
act_opens options (cookie_wait own) (t1_expires false) choices follows opens = absurd (cc)
act_opens options (cookie_wait own) shut_down choices follows opens = absurd (cc)
act_opens options (cookie_wait own) step_of_shutdown choices follows opens = absurd (cc)
act_opens options (cookie_wait own) shutdown_repeats choices follows opens = absurd (cc)
act_opens options (cookie_wait own) (abort_with reason) choices follows opens = absurd (cc)
act_opens options (cookie_wait own) hands_over choices follows opens = absurd (cc)
act_opens options (cookie_wait own) flushes choices follows opens = absurd (cc)
act_opens options (cookie_wait own) (request_again reset) choices follows opens = absurd (cc)
act_opens options (cookie_wait own) (request_renewed reset) choices follows opens = absurd (cc)
act_opens options (cookie_echoed own peer echoed) connect choices follows opens = absurd (cc)
act_opens options (cookie_echoed own peer echoed) (t1_expires true) choices follows opens =
    never (cookie_echoed own peer echoed) (echo_change own peer echoed choices.fits choices.filling) (echo_opens (cookie_echoed own peer echoed) own peer echoed choices.fits choices.filling) opens
act_opens options (cookie_echoed own peer echoed) (t1_expires false) choices follows opens = absurd (cc)
act_opens options (cookie_echoed own peer echoed) shut_down choices follows opens =
    call_opens (cookie_echoed own peer echoed) options.follow_rfc own peer echoed choices.tsn choices.is_acknowledged follows opens
act_opens options (cookie_echoed own peer echoed) step_of_shutdown choices follows opens = absurd (cc)
act_opens options (cookie_echoed own peer echoed) shutdown_repeats choices follows opens = absurd (cc)
act_opens options (cookie_echoed own peer echoed) (abort_with reason) choices follows opens = absurd (cc)
act_opens options (cookie_echoed own peer echoed) hands_over choices follows opens = absurd (cc)
act_opens options (cookie_echoed own peer echoed) flushes choices follows opens = absurd (cc)
act_opens options (cookie_echoed own peer echoed) (request_again reset) choices follows opens = absurd (cc)
act_opens options (cookie_echoed own peer echoed) (request_renewed reset) choices follows opens = absurd (cc)

-- ---- chunks

-- In each phase but those that are open nothing but these opens one.
abbrev Shut : Core → Type 0
Shut core = is_open core ≡ false

init_opens : (answers : Bool) (options : Options) (core : Core) (theirs : Introduction) (choices : Choices) → Shut core → Opens core (answered_init_change answers options core theirs choices)
init_opens false options core theirs choices shut opens = absurd (let clash : false ≡ true = sym shut ∙ opens in cc)
init_opens true options closed theirs choices shut opens = absurd (cc)
init_opens true options (cookie_wait my) theirs choices shut opens = absurd (cc)
init_opens true options (cookie_echoed my held cookie) theirs choices shut opens = absurd (cc)
init_opens true options (open_in phase my held) theirs choices shut opens = absurd (cc)

init_ack_opens : (options : Options) (core : Core) (theirs : Introduction) (cookie : Option (List ℕ)) (choices : Choices) → Shut core → Opens core (init_ack_change options core theirs cookie choices)
init_ack_opens options closed theirs cookie choices shut opens = absurd (cc)
init_ack_opens options (cookie_wait my) theirs None choices shut opens = absurd (cc)
init_ack_opens options (cookie_wait my) theirs (Some cookie) choices shut opens =
    absurd (let clash = sym (echo_opens (cookie_wait my) my _ cookie choices.fits choices.filling) ∙ opens in cc)
init_ack_opens options (cookie_echoed my held echoed) theirs cookie choices shut opens = absurd (cc)
init_ack_opens options (open_in phase my held) theirs cookie choices shut opens = absurd (cc)

resolved_opens : (options : Options) (core : Core) (cookie : Cookie) (choices : Choices) (resolution : Resolution) → Shut core → Opens core (resolved_change options core cookie choices resolution)
resolved_opens options core cookie choices resolutions.establish_new shut opens = inr (_, inr (inl refl))
resolved_opens options closed cookie choices resolutions.restart shut opens = inr (_, inr (inl refl))
resolved_opens options (cookie_wait my) cookie choices resolutions.restart shut opens = inr (_, inr (inl refl))
resolved_opens options (cookie_echoed my held echoed) cookie choices resolutions.restart shut opens = inr (_, inr (inl refl))
resolved_opens options (open_in phase my held) cookie choices resolutions.restart shut opens = absurd (cc)
resolved_opens options core cookie choices resolutions.simultaneous_init shut opens = inr (_, inr (inl refl))
resolved_opens options core cookie choices resolutions.discard shut opens = absurd (let clash : false ≡ true = sym shut ∙ opens in cc)
resolved_opens options closed cookie choices resolutions.maintain_existing shut opens = absurd (cc)
resolved_opens options (cookie_wait my) cookie choices resolutions.maintain_existing shut opens = absurd (cc)
resolved_opens options (cookie_echoed my held echoed) cookie choices resolutions.maintain_existing shut opens = inr (_, inl refl)
resolved_opens options (open_in phase my held) cookie choices resolutions.maintain_existing shut opens = absurd (cc)
resolved_opens options core cookie choices resolutions.invalid_tag shut opens = absurd (let clash : false ≡ true = sym shut ∙ opens in cc)
resolved_opens options core cookie choices resolutions.stale shut opens = absurd (let clash : false ≡ true = sym shut ∙ opens in cc)

read_opens : (options : Options) (core : Core) (header : ℕ) (found : Result Cookie (List ℕ)) (choices : Choices) → Shut core → Opens core (read_echo_change options core header found choices)
read_opens options core header (Err text) choices shut opens = absurd (let clash : false ≡ true = sym shut ∙ opens in cc)
read_opens options core header (Ok cookie) choices shut opens = resolved_opens options core cookie choices (aged_resolution choices.is_stale (resolve core choices.tie choices.secret header cookie)) shut opens

re_config_opens : (core : Core) (follows : Bool) (my : Pair) (held : Held) (cookie : List ℕ) (parameters : List ResetParameter) (choices : Choices) → Opens core (echoed_re_config_change follows my held cookie parameters choices)
re_config_opens core true my held cookie parameters choices opens = absurd (cc)
re_config_opens core false my held cookie parameters choices opens = absurd (cc)

abort_opens : (options : Options) (core : Core) → Shut core → Opens core (abort_change options core)
abort_opens options core shut = by_abort (Opens core) options core (λ opens. absurd (cc)) (λ opens. absurd (let clash : false ≡ true = sym shut ∙ opens in cc))

plain_opens : (violates : Bool) (core : Core) (choices : Choices) → Shut core → Opens core (plain_change core violates choices)
plain_opens true closed choices shut opens = absurd (cc)
plain_opens true (cookie_wait my) choices shut opens = absurd (cc)
plain_opens true (cookie_echoed my held cookie) choices shut opens = absurd (cc)
plain_opens true (open_in phase my held) choices shut opens = absurd (cc)
plain_opens false closed choices shut opens = absurd (cc)
plain_opens false (cookie_wait my) choices shut opens = absurd (cc)
plain_opens false (cookie_echoed my held cookie) choices shut opens = absurd (cc)
plain_opens false (open_in phase my held) choices shut opens = absurd (cc)

chunk_opens : (options : Options) (core : Core) (header : ℕ) (content : Content) (choices : Choices) → Opens core (chunk_change options core header content choices)
chunk_opens options (open_in phase my held) header content choices opens = inl refl
chunk_opens options closed header (init theirs) choices opens = init_opens choices.may_answer options closed theirs choices refl opens
chunk_opens options closed header (init_ack theirs cookie) choices opens = init_ack_opens options closed theirs cookie choices refl opens
chunk_opens options closed header (cookie_echo bytes) choices opens = read_opens options closed header (cookie_of_bytes bytes) choices refl opens
chunk_opens options closed header cookie_ack choices opens = absurd (cc)
chunk_opens options closed header (re_config parameters) choices opens = absurd (cc)
chunk_opens options closed header (abort reflected causes) choices opens = abort_opens options closed refl opens
chunk_opens options closed header (shutdown tsn) choices opens = absurd (cc)
chunk_opens options closed header shutdown_ack choices opens = absurd (cc)
chunk_opens options closed header (shutdown_complete reflected) choices opens = absurd (cc)
chunk_opens options closed header (plain chunk) choices opens = plain_opens choices.is_violation closed choices refl opens
chunk_opens options (cookie_wait own) header (init theirs) choices opens = init_opens choices.may_answer options (cookie_wait own) theirs choices refl opens
chunk_opens options (cookie_wait own) header (init_ack theirs cookie) choices opens = init_ack_opens options (cookie_wait own) theirs cookie choices refl opens
chunk_opens options (cookie_wait own) header (cookie_echo bytes) choices opens = read_opens options (cookie_wait own) header (cookie_of_bytes bytes) choices refl opens
chunk_opens options (cookie_wait own) header cookie_ack choices opens = absurd (cc)
chunk_opens options (cookie_wait own) header (re_config parameters) choices opens = absurd (cc)
chunk_opens options (cookie_wait own) header (abort reflected causes) choices opens = abort_opens options (cookie_wait own) refl opens
chunk_opens options (cookie_wait own) header (shutdown tsn) choices opens = absurd (cc)
chunk_opens options (cookie_wait own) header shutdown_ack choices opens = absurd (cc)
chunk_opens options (cookie_wait own) header (shutdown_complete reflected) choices opens = absurd (cc)
chunk_opens options (cookie_wait own) header (plain chunk) choices opens = plain_opens choices.is_violation (cookie_wait own) choices refl opens
chunk_opens options (cookie_echoed own peer echoed) header (init theirs) choices opens = init_opens choices.may_answer options (cookie_echoed own peer echoed) theirs choices refl opens
chunk_opens options (cookie_echoed own peer echoed) header (init_ack theirs cookie) choices opens = init_ack_opens options (cookie_echoed own peer echoed) theirs cookie choices refl opens
chunk_opens options (cookie_echoed own peer echoed) header (cookie_echo bytes) choices opens = read_opens options (cookie_echoed own peer echoed) header (cookie_of_bytes bytes) choices refl opens
chunk_opens options (cookie_echoed own peer echoed) header cookie_ack choices opens = inr (_, inl refl)
chunk_opens options (cookie_echoed own peer echoed) header (re_config parameters) choices opens =
    re_config_opens (cookie_echoed own peer echoed) options.follow_rfc own peer echoed parameters choices opens
chunk_opens options (cookie_echoed own peer echoed) header (abort reflected causes) choices opens = abort_opens options (cookie_echoed own peer echoed) refl opens
chunk_opens options (cookie_echoed own peer echoed) header (shutdown tsn) choices opens = absurd (cc)
chunk_opens options (cookie_echoed own peer echoed) header shutdown_ack choices opens = absurd (cc)
chunk_opens options (cookie_echoed own peer echoed) header (shutdown_complete reflected) choices opens = absurd (cc)
chunk_opens options (cookie_echoed own peer echoed) header (plain chunk) choices opens = plain_opens choices.is_violation (cookie_echoed own peer echoed) choices refl opens

-- ---- every change

control_opens : (options : Options) (core : Core) (change : Change) → options.follow_rfc ≡ true → ControlTurn options core change → ((link : AssociationIdentity) (own last : ℕ) → HasEffect (resumes link own last) change.effects → ⊥)
    → Opens core change
control_opens options core change follows (acted act choices is) none = subst (Opens core) (sym is) (act_opens options core act choices follows)
control_opens options core change follows (worked header content choices is) none = subst (Opens core) (sym is) (chunk_opens options core header content choices)
control_opens options core change follows (resumed my peer capabilities own last was is) none =
    let link : AssociationIdentity = identity_of my (resumed_held peer capabilities own last) in
    absurd (none link own last (subst (λ (c : Change). HasEffect (resumes link own last) c.effects) (sym is) (inl refl)))

-- ---- one that begins connects too, where one was open

content_connects : (e : Endpoint) (core : Core) → e.core ≡ core → is_open core ≡ true → (tag : ℕ) (content : Content) (o : Outcome) (link : AssociationIdentity) (later : List Effect) → IsOpening (Some content) → Turn e (chunk_input tag content) o
    → o.effects ≡ holds link ∷ later → HasEffect (connects link) o.effects
content_connects e closed at opens tag content o link later opening turn so = absurd (cc)
content_connects e (cookie_wait my) at opens tag content o link later opening turn so = absurd (cc)
content_connects e (cookie_echoed my held cookie) at opens tag content o link later opening turn so = absurd (cc)
content_connects e (open_in phase my held) at opens tag (init_ack theirs cookie) o link later opening turn so =
    absurd (let none : o.effects ≡ [] = ap (λ (x : Outcome). x.effects) (turn.3 ∙ ap (λ (c : Core). init_ack_with_flush (flush_answered turn.1) e theirs cookie c turn.0) at) in cc)
content_connects e (open_in phase my held) at opens tag (cookie_echo bytes) o link later opening turn so =
    subst (λ (x : Outcome). HasEffect (connects link) x.effects) (sym turn.3) (echo_connects e e.core tag (cookie_of_bytes bytes) turn.0 turn.1 link later turn.2 (ap (λ (x : Outcome). x.effects) (sym turn.3) ∙ so))
content_connects e (open_in phase my held) at opens tag (init introduction) o link later opening turn so = absurd opening
content_connects e (open_in phase my held) at opens tag cookie_ack o link later opening turn so = absurd opening
content_connects e (open_in phase my held) at opens tag (re_config parameters) o link later opening turn so = absurd opening
content_connects e (open_in phase my held) at opens tag (abort reflected causes) o link later opening turn so = absurd opening
content_connects e (open_in phase my held) at opens tag (shutdown tsn) o link later opening turn so = absurd opening
content_connects e (open_in phase my held) at opens tag shutdown_ack o link later opening turn so = absurd opening
content_connects e (open_in phase my held) at opens tag (shutdown_complete reflected) o link later opening turn so = absurd opening
content_connects e (open_in phase my held) at opens tag (plain chunk) o link later opening turn so = absurd opening

opening_connects : (e : Endpoint) → is_open e.core ≡ true → (input : Input) (o : Outcome) (link : AssociationIdentity) (later : List Effect) → IsOpening (content_of_input input) → Turn e input o → o.effects ≡ holds link ∷ later → HasEffect (connects link) o.effects
opening_connects e opens (chunk_input tag content) o link later opening turn so = content_connects e e.core refl opens tag content o link later opening turn so
opening_connects e opens inputs.arrival o link later opening turn so = absurd opening
opening_connects e opens (inputs.refusal text) o link later opening turn so = absurd opening
opening_connects e opens (inputs.packet_begins contents) o link later opening turn so = absurd opening
opening_connects e opens inputs.packet_ends o link later opening turn so = absurd opening
opening_connects e opens (inputs.act_input act) o link later opening turn so = absurd opening
opening_connects e opens (inputs.user_sets setting) o link later opening turn so = absurd opening
opening_connects e opens (inputs.user_sends messages) o link later opening turn so = absurd opening
opening_connects e opens (inputs.user_resets ids) o link later opening turn so = absurd opening
opening_connects e opens inputs.user_takes o link later opening turn so = absurd opening
opening_connects e opens (inputs.timer_expires timer) o link later opening turn so = absurd opening
opening_connects e opens (inputs.time_passes moment) o link later opening turn so = absurd opening
opening_connects e opens (inputs.restores state) o link later opening turn so = absurd opening

-- ---- turn by turn

-- The open association, if it is that, has connected.
abbrev pub HasConnected : Endpoint → List Effect → Type 0
HasConnected e past = is_open e.core ≡ true → (link : AssociationIdentity) → identity_of_core e.core ≡ Some link → HasEffect (connects link) past

connects_noted : (link : AssociationIdentity) (effects : List Effect) → HasEffect (connects link) effects → HasEffect (connects link) (effects_without_packets effects)
connects_noted link [] has = has
connects_noted link (sends packet ∷ effects) (inl is) = absurd (cc)
connects_noted link (sends packet ∷ effects) (inr has) = connects_noted link effects has
connects_noted link (connects one ∷ effects) (inl is) = inl is
connects_noted link (connects one ∷ effects) (inr has) = inr (connects_noted link effects has)
connects_noted link (draws pair ∷ effects) (inl is) = absurd (cc)
connects_noted link (draws pair ∷ effects) (inr has) = inr (connects_noted link effects has)
connects_noted link (holds one ∷ effects) (inl is) = absurd (cc)
connects_noted link (holds one ∷ effects) (inr has) = inr (connects_noted link effects has)
connects_noted link (ends ∷ effects) (inl is) = absurd (cc)
connects_noted link (ends ∷ effects) (inr has) = inr (connects_noted link effects has)
connects_noted link (begins number ∷ effects) (inl is) = absurd (cc)
connects_noted link (begins number ∷ effects) (inr has) = inr (connects_noted link effects has)
connects_noted link (gives_up number ∷ effects) (inl is) = absurd (cc)
connects_noted link (gives_up number ∷ effects) (inr has) = inr (connects_noted link effects has)
connects_noted link (completes my number ∷ effects) (inl is) = absurd (cc)
connects_noted link (completes my number ∷ effects) (inr has) = inr (connects_noted link effects has)
connects_noted link (fails number ∷ effects) (inl is) = absurd (cc)
connects_noted link (fails number ∷ effects) (inr has) = inr (connects_noted link effects has)
connects_noted link (accepts number ∷ effects) (inl is) = absurd (cc)
connects_noted link (accepts number ∷ effects) (inr has) = inr (connects_noted link effects has)
connects_noted link (performs peer number ∷ effects) (inl is) = absurd (cc)
connects_noted link (performs peer number ∷ effects) (inr has) = inr (connects_noted link effects has)
connects_noted link (renews peer number ∷ effects) (inl is) = absurd (cc)
connects_noted link (renews peer number ∷ effects) (inr has) = inr (connects_noted link effects has)
connects_noted link (resumes one own last ∷ effects) (inl is) = absurd (cc)
connects_noted link (resumes one own last ∷ effects) (inr has) = inr (connects_noted link effects has)

resumes_noted : (link : AssociationIdentity) (own last : ℕ) (effects : List Effect) → HasEffect (resumes link own last) effects → HasEffect (resumes link own last) (effects_without_packets effects)
resumes_noted link own last [] has = has
resumes_noted link own last (sends packet ∷ effects) (inl is) = absurd (cc)
resumes_noted link own last (sends packet ∷ effects) (inr has) = resumes_noted link own last effects has
resumes_noted link own last (resumes one own' last' ∷ effects) (inl is) = inl is
resumes_noted link own last (resumes one own' last' ∷ effects) (inr has) = inr (resumes_noted link own last effects has)
resumes_noted link own last (connects one ∷ effects) (inl is) = absurd (cc)
resumes_noted link own last (connects one ∷ effects) (inr has) = inr (resumes_noted link own last effects has)
resumes_noted link own last (draws pair ∷ effects) (inl is) = absurd (cc)
resumes_noted link own last (draws pair ∷ effects) (inr has) = inr (resumes_noted link own last effects has)
resumes_noted link own last (holds one ∷ effects) (inl is) = absurd (cc)
resumes_noted link own last (holds one ∷ effects) (inr has) = inr (resumes_noted link own last effects has)
resumes_noted link own last (ends ∷ effects) (inl is) = absurd (cc)
resumes_noted link own last (ends ∷ effects) (inr has) = inr (resumes_noted link own last effects has)
resumes_noted link own last (begins number ∷ effects) (inl is) = absurd (cc)
resumes_noted link own last (begins number ∷ effects) (inr has) = inr (resumes_noted link own last effects has)
resumes_noted link own last (gives_up number ∷ effects) (inl is) = absurd (cc)
resumes_noted link own last (gives_up number ∷ effects) (inr has) = inr (resumes_noted link own last effects has)
resumes_noted link own last (completes my number ∷ effects) (inl is) = absurd (cc)
resumes_noted link own last (completes my number ∷ effects) (inr has) = inr (resumes_noted link own last effects has)
resumes_noted link own last (fails number ∷ effects) (inl is) = absurd (cc)
resumes_noted link own last (fails number ∷ effects) (inr has) = inr (resumes_noted link own last effects has)
resumes_noted link own last (accepts number ∷ effects) (inl is) = absurd (cc)
resumes_noted link own last (accepts number ∷ effects) (inr has) = inr (resumes_noted link own last effects has)
resumes_noted link own last (performs peer number ∷ effects) (inl is) = absurd (cc)
resumes_noted link own last (performs peer number ∷ effects) (inr has) = inr (resumes_noted link own last effects has)
resumes_noted link own last (renews peer number ∷ effects) (inl is) = absurd (cc)
resumes_noted link own last (renews peer number ∷ effects) (inr has) = inr (resumes_noted link own last effects has)

module _ (e : Endpoint) (past : List Effect) (t : Transition) (follows : e.options.follow_rfc ≡ true) (before : HasConnected e past) (may : IsCall t.input) (turn : Turn e t.input t.outcome)
    (moves : Moves e t.outcome) (none : (link : AssociationIdentity) (own last : ℕ) → HasEffect (resumes link own last) t.outcome.effects → ⊥) where
  abbrev After : Type 0
  After = HasConnected t.outcome.after (after_effects t.outcome.effects past)

  one_link : {found : Option AssociationIdentity} {one two : AssociationIdentity} → found ≡ Some one → found ≡ Some two → one ≡ two
  one_link first second = cc

  -- It was open, or this turn connects it.
  opens_or_connects : is_open t.outcome.after.core ≡ true → (link : AssociationIdentity) → identity_of_core t.outcome.after.core ≡ Some link → (is_open e.core ≡ true) ⊎ HasEffect (connects link) t.outcome.effects
  opens_or_connects opens link linked = go moves
    where
      go : Moves e t.outcome → (is_open e.core ≡ true) ⊎ HasEffect (connects link) t.outcome.effects
      go (it_rests core options effects told) = inl (ap is_open (sym core) ∙ opens)
      go (it_moves change control is) =
          elim (control_opens e.options e.core change follows control (λ one own last has. none one own last (subst (HasEffect (resumes one own last)) (sym is.effects) (resumes_noted one own last change.effects has))) (ap is_open (sym is.core) ∙ opens)) [
            | inl was ↦ inl was
            | inr some ↦
                (let established = (effects_mean e.options e.core change control).connected some.0 some.1 in
                let one : some.0 ≡ link = one_link (ap identity_of_core established.phase ∙ ap Some established.linked) (ap identity_of_core (sym is.core) ∙ linked) in
                inr (subst (λ (l : AssociationIdentity). HasEffect (connects l) t.outcome.effects) one (subst (HasEffect (connects some.0)) (sym is.effects) (connects_noted some.0 change.effects some.1))))
          ]

  abbrev Later : AssociationIdentity → Type 0
  Later link = HasEffect (connects link) (after_effects t.outcome.effects past)

  now : (link : AssociationIdentity) → HasEffect (connects link) t.outcome.effects → Later link
  now link has = after_new (connects link) t.outcome.effects past has

  stays : identity_of_core t.outcome.after.core ≡ identity_of_core e.core → After
  stays same opens link linked = elim (opens_or_connects opens link linked) [
    | inl was ↦ after_within t.outcome.effects past (connects link) (before was link (sym same ∙ linked))
    | inr has ↦ now link has
  ]

  anew : (link : AssociationIdentity) (later : List Effect) → IsOpening (content_of_input t.input) → identity_of_core t.outcome.after.core ≡ Some link → t.outcome.effects ≡ holds link ∷ later → After
  anew link later opening linked so opens other there = elim (opens_or_connects opens other there) [
    | inl was ↦ now other (subst (λ (l : AssociationIdentity). HasEffect (connects l) t.outcome.effects) (one_link linked there) (opening_connects e was t.input t.outcome link later opening turn so))
    | inr has ↦ now other has
  ]

  by_becomes : {resets : Option (List ℕ)} {to : ℕ} {adds : _} {taken : _} → Becomes resets (content_of_input t.input) to adds taken e t.outcome → After
  by_becomes (becomes.goes_on calm linked makes) = stays linked
  by_becomes (becomes.pauses ids resets calm accepted linked small makes) = stays linked
  by_becomes (becomes.works_resets linked between inside ended peer makes) = stays linked
  by_becomes (becomes.renews calm linked alike unread own number emission kept out after packets goes contents) = stays linked
  by_becomes (becomes.ends gone unread silent last own makes below) = λ opens link linked. (let clash : ◌≡◌ {A = Option AssociationIdentity} None (Some link) = sym gone ∙ linked in absurd (cc))
  by_becomes (becomes.begins begun opening linked alike unread again makes) = anew (identity_of begun.my begun.held) begun.later opening linked begun.noted
  by_becomes (becomes.collides collision alike unread again makes) = anew collision.opened.link collision.opened.later collision.opened.opening collision.opened.linked collision.opened.noted

  pub still_connected : HasConnected t.outcome.after (after_effects t.outcome.effects past)
  still_connected = by_becomes (turns_are_actions e t.input t.outcome may turn)
