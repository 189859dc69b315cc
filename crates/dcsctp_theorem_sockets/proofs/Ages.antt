-- A cookie carries the moment of the turn that gave it away, and one that makes an association
-- isn't stale: so an association is made within the lifetime of its cookie.
use Rattle.std.proofs.Common.{◌≡◌, ◌≤◌, ◌<◌, ◌^◌, ◌+◌, ◌-◌, ℕ, Bool, true, false, cond, not, eqb, None, Some, Result, Ok, Err, List, [], ◌∷◌, ◌++◌, length, inl, inr, refl, sym, subst, ap, ◌∙◌, arith, ◌||◌}
use Rattle.std.specs.Prelude.{nat_le, ◌⊎◌}
use Rattle.std.specs.Duration.{as_nanos}
use Rattle.std.proofs.lemmas.List.{append-nil}
use Rattle.std.proofs.lemmas.Nat.{from_be_bytes-to_be_bytes_8}
use Rattle.std.proofs.lemmas.Bool.Decides.{nat_tests}
use Rattle.dcsctp_spec_lemmas.proofs.RefusalLemmas.{by_stale_outcome}
use Rattle.dcsctp_spec_lemmas.specs.types.declared.options.Options.{Options}
use Rattle.dcsctp_spec_lemmas.specs.types.Settings.{SameOptions}
use Rattle.dcsctp_spec_lemmas.specs.spec.Cookie.{Cookie, cookie_bytes, cookie_of_bytes, cookie_fields, u64_at, has_magic, has_zero_tag, size_text, magic_text, tag_text, cookie_moment, is_stale}
use Rattle.dcsctp_spec_lemmas.specs.spec.endpoint.Event.{Event, sent}
use Rattle.dcsctp_spec_lemmas.specs.spec.Packet.{Content, init, init_ack, cookie_echo, cookie_ack, re_config, abort, shutdown, shutdown_ack, shutdown_complete, plain, Emission}
use Rattle.dcsctp_spec_lemmas.specs.spec.endpoint.Endpoint.{Endpoint, Core, cookie_wait, cookie_echoed, open_in, fresh_endpoint}
use Rattle.dcsctp_spec_lemmas.specs.spec.endpoint.Endpoint as machine
use Rattle.dcsctp_spec_lemmas.specs.spec.endpoint.Outcome.{Outcome}
use Rattle.dcsctp_spec_lemmas.specs.spec.endpoint.Turn.{Input, chunk_input, Turn}
use Rattle.dcsctp_spec_lemmas.specs.spec.endpoint.CallTurns.{Transition, IsTurn, AlongTurns, events_of}
use Rattle.dcsctp_spec_lemmas.specs.spec.association.Choices.{Choices}
use Rattle.dcsctp_spec_lemmas.specs.spec.association.CookieEchoChanges.{Resolution, establish_new, restart, simultaneous_init, discard, maintain_existing, invalid_tag, stale, aged_resolution, resolve, maintain_change}
use Rattle.dcsctp_spec_lemmas.specs.spec.association.Effect.{AssociationIdentity, Effect, draws, sends, holds, connects, ends, begins, gives_up, completes, fails, accepts, performs, renews, resumes, effects_without_packets}
use Rattle.dcsctp_spec_lemmas.specs.spec.association.Controlled.{IsControlled}
use Rattle.dcsctp_spec_laws.specs.TurnLaws.{ChunksAreControlled, ActsAreControlled}
use Rattle.dcsctp_spec_runs.specs.Past.{HasEffect}
use Rattle.dcsctp_spec_runs.specs.Fitting.{AllSent}
use Rattle.dcsctp_spec_runs.specs.Sockets.{PerformedAct, Both, of_side, turns_after, endpoint_after, SocketRun}
use Rattle.dcsctp_spec_lemmas.specs.spec.endpoint.FlushOutcomes.{Answer, flush_answered}
use Rattle.dcsctp_spec_lemmas.specs.spec.endpoint.HandshakeOutcomes.{cookie_for}
use Rattle.dcsctp_spec_lemmas.specs.spec.endpoint.CookieEchoOutcomes.{stale_outcome, is_tag_over, is_foreign, is_spent, resolve_with_flush, resolved_now, cookie_echo_with_flush, ResolvedAnswers, EchoedAnswers, CookieEchoTurn, maintain_with_flush}
use Rattle.dcsctp_spec_laws.proofs.AlongLemmas.{along_append}
use Rattle.dcsctp_spec_runs.proofs.RunsAlong.{run_along}
use Rattle.dcsctp_spec_lemmas.proofs.ControlEcho.{judging, maintain_at}
use Rattle.dcsctp_spec_laws.proofs.TurnLemmas.{same_after}
use Rattle.dcsctp_spec_lemmas.proofs.TurnLists.{events_of-append}
use Rattle.dcsctp_theorem_sockets.specs.Agreement.{AreUsable}
use Rattle.dcsctp_theorem_sockets.proofs.Follow.{after_last}
use Rattle.dcsctp_theorem_sockets.proofs.NewAssociations.{maintain_none}
use Rattle.dcsctp_theorem_sockets.proofs.NoHolding.{HoldsNone}
use Rattle.dcsctp_theorem_sockets.proofs.SocketsAlone.{MoveLaws, Moves, it_rests, it_moves, of_moves}
use Rattle.dcsctp_theorem_sockets.specs.Cookies.{BearCookie, GaveCookie, EchoesGivenCookie, AllEchoGiven, CookiesWereGiven, GivesCookiesThroughout}
use Rattle.dcsctp_theorem_sockets.specs.Ages.{GaveInTime, AllInTime, AgeThroughout, CookiesAge}
use Rattle.dcsctp_theorem_sockets.proofs.CookieRules.{Rules, ContentsKeep, CoreKeeps, TakenKeeps}
use Rattle.dcsctp_theorem_sockets.proofs.TurnsKeep.{EmissionKeeps, InputKeeps, input_keeps}

-- ---- the moment in a cookie

cut_fits : (moment : ℕ) → cookie_moment moment < 2 ^ 64
cut_fits moment = grind arith

moment_written : (cookie : Cookie) → cookie.moment < 2 ^ 64 → u64_at 48 (cookie_bytes cookie) ≡ cookie.moment
unfolding cookie_bytes
moment_written cookie fits = from_be_bytes-to_be_bytes_8 cookie.moment fits

-- each cookie that is given away carries this moment
abbrev bearing : ℕ → Rules
bearing now = record { echoed = λ bytes. Unit {0}; given = λ bytes. u64_at 48 bytes ≡ cookie_moment now }

any_core : (now : ℕ) (core : Core) → CoreKeeps (bearing now) core
any_core now machine.closed = tt
any_core now (cookie_wait my) = tt
any_core now (cookie_echoed my held bytes) = tt
any_core now (open_in phase my held) = tt

any_taken : (now : ℕ) (content : Content) → TakenKeeps (bearing now) content
any_taken now (init_ack theirs None) = tt
any_taken now (init_ack theirs (Some bytes)) = tt
any_taken now (init theirs) = tt
any_taken now (cookie_echo bytes) = tt
any_taken now cookie_ack = tt
any_taken now (re_config parameters) = tt
any_taken now (abort reflected causes) = tt
any_taken now (shutdown tsn) = tt
any_taken now shutdown_ack = tt
any_taken now (shutdown_complete reflected) = tt
any_taken now (plain chunk) = tt

any_input : (now : ℕ) (input : Input) → InputKeeps (bearing now) input
any_input now (chunk_input tag content) = any_taken now content
any_input now input = tt

-- Each cookie that a turn gives away carries its moment.
abbrev BearsMoment : Endpoint → Transition → Type 0
BearsMoment e turn = AllSent (EmissionKeeps (bearing e.moment)) turn.outcome.events

bears : ChunksAreControlled → ActsAreControlled → (e : Endpoint) (input : Input) (t : Transition) → IsTurn e input t → BearsMoment e t
bears chunks acts e input t turn =
    (input_keeps (bearing e.moment) chunks acts e (λ theirs mine tie. moment_written (cookie_for e.moment theirs mine tie) (cut_fits e.moment)) input t turn
    (any_core e.moment e.core) (any_input e.moment input)).sent

borne_moment : (now : ℕ) (bytes : List ℕ) (contents : List Content) → ContentsKeep (bearing now) contents → BearCookie contents bytes → u64_at 48 bytes ≡ cookie_moment now
borne_moment now bytes [] h given = absurd given
borne_moment now bytes (init_ack theirs None ∷ contents) h given = borne_moment now bytes contents h.1 given
borne_moment now bytes (init_ack theirs (Some cookie) ∷ contents) h (inl is) = ap (u64_at 48) is ∙ h.0
borne_moment now bytes (init_ack theirs (Some cookie) ∷ contents) h (inr given) = borne_moment now bytes contents h.1 given
borne_moment now bytes (content ∷ contents) h given = borne_moment now bytes contents h.1 given

given_moment : (now : ℕ) (bytes : List ℕ) (events : List (Event Emission)) → AllSent (EmissionKeeps (bearing now)) events → GaveCookie events bytes → u64_at 48 bytes ≡ cookie_moment now
given_moment now bytes [] h given = absurd given
given_moment now bytes (sent emission ∷ events) h (inl given) = borne_moment now bytes emission.packet.contents h.0 given
given_moment now bytes (sent emission ∷ events) h (inr given) = given_moment now bytes events h.1 given
given_moment now bytes (event ∷ events) h given = given_moment now bytes events h.1 given

-- ---- what is read of it

abbrev read : Cookie → Result Cookie (List ℕ)
read cookie = Ok cookie

abbrev unread : List ℕ → Result Cookie (List ℕ)
unread text = Err text

ok_is : (x y : Cookie) → read x ≡ read y → x ≡ y
ok_is x y same = cc

no_error : (text : List ℕ) (cookie : Cookie) → unread text ≡ read cookie → ⊥
no_error text cookie same = cc

by_tags : (zero_tag : Bool) (bytes : List ℕ) (cookie : Cookie) → cond zero_tag (unread tag_text) (read (cookie_fields bytes)) ≡ read cookie → cookie_fields bytes ≡ cookie
by_tags true bytes cookie found = absurd (no_error tag_text cookie found)
by_tags false bytes cookie found = ok_is (cookie_fields bytes) cookie found

by_magic : (not_magic zero_tag : Bool) (bytes : List ℕ) (cookie : Cookie) → cond not_magic (unread magic_text) (cond zero_tag (unread tag_text) (read (cookie_fields bytes))) ≡ read cookie
    → cookie_fields bytes ≡ cookie
by_magic true zero_tag bytes cookie found = absurd (no_error magic_text cookie found)
by_magic false zero_tag bytes cookie found = by_tags zero_tag bytes cookie found

by_size : (not_size not_magic zero_tag : Bool) (bytes : List ℕ) (cookie : Cookie)
    → cond not_size (unread size_text) (cond not_magic (unread magic_text) (cond zero_tag (unread tag_text) (read (cookie_fields bytes)))) ≡ read cookie → cookie_fields bytes ≡ cookie
by_size true not_magic zero_tag bytes cookie found = absurd (no_error size_text cookie found)
by_size false not_magic zero_tag bytes cookie found = by_magic not_magic zero_tag bytes cookie found

moment_read : (bytes : List ℕ) (cookie : Cookie) → cookie_of_bytes bytes ≡ Ok cookie → u64_at 48 bytes ≡ cookie.moment
unfolding cookie_of_bytes
moment_read bytes cookie found =
    ap (λ (c : Cookie). c.moment) (by_size (not (eqb (length bytes) 56)) (not (has_magic bytes)) (has_zero_tag bytes) bytes cookie found)

-- ---- one that makes an association

not_noted : (effects : List Effect) (link : AssociationIdentity) → HoldsNone effects → HasEffect (holds link) (effects_without_packets effects) → ⊥
not_noted [] link none has = has
not_noted (holds other ∷ effects) link none has = none.0
not_noted (sends packet ∷ effects) link none has = not_noted effects link none.1 has
not_noted (draws pair ∷ effects) link none (inl is) = absurd (cc)
not_noted (draws pair ∷ effects) link none (inr has) = not_noted effects link none.1 has
not_noted (connects other ∷ effects) link none (inl is) = absurd (cc)
not_noted (connects other ∷ effects) link none (inr has) = not_noted effects link none.1 has
not_noted (ends ∷ effects) link none (inl is) = absurd (cc)
not_noted (ends ∷ effects) link none (inr has) = not_noted effects link none.1 has
not_noted (begins number ∷ effects) link none (inl is) = absurd (cc)
not_noted (gives_up number ∷ effects) link none (inl is) = absurd (cc)
not_noted (begins number ∷ effects) link none (inr has) = not_noted effects link none.1 has
not_noted (gives_up number ∷ effects) link none (inr has) = not_noted effects link none.1 has
not_noted (completes my number ∷ effects) link none (inl is) = absurd (cc)
not_noted (completes my number ∷ effects) link none (inr has) = not_noted effects link none.1 has
not_noted (fails number ∷ effects) link none (inl is) = absurd (cc)
not_noted (fails number ∷ effects) link none (inr has) = not_noted effects link none.1 has
not_noted (accepts number ∷ effects) link none (inl is) = absurd (cc)
not_noted (accepts number ∷ effects) link none (inr has) = not_noted effects link none.1 has
not_noted (performs peer number ∷ effects) link none (inl is) = absurd (cc)
not_noted (performs peer number ∷ effects) link none (inr has) = not_noted effects link none.1 has
not_noted (renews peer number ∷ effects) link none (inl is) = absurd (cc)
not_noted (renews peer number ∷ effects) link none (inr has) = not_noted effects link none.1 has
not_noted (resumes other own last ∷ effects) link none (inl is) = absurd (cc)
not_noted (resumes other own last ∷ effects) link none (inr has) = not_noted effects link none.1 has

-- the existing association is no new one
kept_is_none : (e : Endpoint) (cookie : Cookie) (header word : ℕ) (answers : List Answer) (link : AssociationIdentity) → resolved_now e e.core header cookie ≡ maintain_existing
    → ResolvedAnswers e cookie e.core word maintain_existing answers → HasEffect (holds link) (maintain_with_flush (flush_answered answers) e cookie e.core).effects → ⊥
kept_is_none e cookie header word answers link case h has =
    let choices : Choices = judging e cookie false answers in
    let controlled : IsControlled e (maintain_with_flush (flush_answered answers) e cookie e.core) (maintain_change e.core cookie choices) = maintain_at e cookie e.core header false answers refl case h in
    not_noted (maintain_change e.core cookie choices).effects link (maintain_none e.core cookie choices) (subst (HasEffect (holds link)) controlled.effects has)

-- A stale one makes none.
stale_none : (e : Endpoint) (cookie : Cookie) (link : AssociationIdentity) → HasEffect (holds link) (stale_outcome e cookie).effects → ⊥
stale_none e cookie link has = by_stale_outcome (λ o. HasEffect (holds link) o.effects → ⊥) e cookie (λ none. none) (λ none. none) has

-- where its case isn't that of a stale one
abbrev IsFresh : Bool → Resolution → Type 0
IsFresh old resolution = (old ≡ false) × (aged_resolution old resolution ≡ resolution)

made_fresh : (e : Endpoint) (cookie : Cookie) (header word : ℕ) (answers : List Answer) (link : AssociationIdentity) (old : Bool) (resolution : Resolution) → resolved_now e e.core header cookie ≡ aged_resolution old resolution
    → ResolvedAnswers e cookie e.core word (aged_resolution old resolution) answers → HasEffect (holds link) (resolve_with_flush (flush_answered answers) e cookie e.core word (aged_resolution old resolution)).effects → old ≡ false
made_fresh e cookie header word answers link false resolution case h has = refl
made_fresh e cookie header word answers link true establish_new case h has = absurd (stale_none e cookie link has)
made_fresh e cookie header word answers link true restart case h has = absurd (stale_none e cookie link has)
made_fresh e cookie header word answers link true simultaneous_init case h has = absurd (stale_none e cookie link has)
made_fresh e cookie header word answers link true discard case h has = absurd has
made_fresh e cookie header word answers link true maintain_existing case h has = absurd (kept_is_none e cookie header word answers link case h has)
made_fresh e cookie header word answers link true invalid_tag case h has = absurd has
made_fresh e cookie header word answers link true stale case h has = absurd (stale_none e cookie link has)

neither : (a b : Bool) → (a || b) ≡ false → b ≡ false
neither false b is = is
neither true b is = absurd (cc)

in_lifetime : (lifetime now moment : ℕ) → not (nat_le (cookie_moment now - moment) lifetime) ≡ false → cookie_moment now ≤ moment + lifetime
in_lifetime lifetime now moment is = grind (arith, nat_tests)

-- It isn't older than its lifetime.
young_at : (e : Endpoint) (header : ℕ) (bytes : List ℕ) (found : Result Cookie (List ℕ)) (word : ℕ) (answers : List Answer) (link : AssociationIdentity) → cookie_of_bytes bytes ≡ found
    → EchoedAnswers e e.core header found word answers → HasEffect (holds link) (cookie_echo_with_flush (flush_answered answers) e e.core header found word).effects
    → cookie_moment e.moment ≤ u64_at 48 bytes + as_nanos e.options.cookie_lifetime
young_at e header bytes (Err text) word answers link reads h has = absurd has
young_at e header bytes (Ok cookie) word answers link reads h has =
    let fresh : is_stale (as_nanos e.options.cookie_lifetime) e.moment cookie ≡ false =
    let stale : Bool = is_stale (as_nanos e.options.cookie_lifetime) e.moment cookie in
    neither (is_foreign e e.core cookie.tie) stale
    (neither (is_tag_over e e.core header) (is_foreign e e.core cookie.tie || stale)
    (made_fresh e cookie header word answers link (is_spent e e.core header cookie) (resolve e.core e.tie e.secret header cookie) refl h has)) in
    subst (λ (moment : ℕ). cookie_moment e.moment ≤ moment + as_nanos e.options.cookie_lifetime) (sym (moment_read bytes cookie reads)) (in_lifetime (as_nanos e.options.cookie_lifetime) e.moment cookie.moment fresh)

abbrev Young : Endpoint → Transition → Type 0
Young e turn =
    (tag : ℕ) (bytes : List ℕ) (link : AssociationIdentity) → turn.input ≡ chunk_input tag (cookie_echo bytes) → HasEffect (holds link) turn.outcome.effects → cookie_moment e.moment ≤ u64_at 48 bytes + as_nanos e.options.cookie_lifetime

young : (e : Endpoint) (input : Input) (t : Transition) → IsTurn e input t → Young e t
young e input t turn tag bytes link is has =
    let comes : CookieEchoTurn e tag bytes t.outcome = subst (λ (i : Input). Turn e i t.outcome) (sym turn.is ∙ is) turn.comes in
    young_at e tag bytes (cookie_of_bytes bytes) comes.0 comes.1 link refl comes.2 (subst (λ (o : Outcome). HasEffect (holds link) o.effects) comes.3 has)

-- ---- its lifetime is that of the socket's options

abbrev KeepsOptions : Endpoint → Transition → Type 0
KeepsOptions e turn = SameOptions e.options turn.outcome.after.options

keeps_options : (e : Endpoint) (t : Transition) → Moves e t.outcome → KeepsOptions e t
keeps_options e t (it_rests core options effects told) = options
keeps_options e t (it_moves change turn is) = is.options

-- ---- over a run

-- A cookie that several turns gave away, one of them did.
given_parts : (bytes : List ℕ) (events more : List (Event Emission)) → GaveCookie (events ++ more) bytes → GaveCookie events bytes ⊎ GaveCookie more bytes
given_parts bytes [] more h = inr h
given_parts bytes (sent emission ∷ events) more (inl h) = inl (inl h)
given_parts bytes (sent emission ∷ events) more (inr h) = elim (given_parts bytes events more h) [
  | inl given ↦ inl (inr given)
  | inr given ↦ inr given
]
given_parts bytes (event ∷ events) more h = given_parts bytes events more h

gave_in_time : (lifetime now : ℕ) (bytes : List ℕ) (e : Endpoint) (turns : List Transition) → AlongTurns BearsMoment e turns → cookie_moment now ≤ u64_at 48 bytes + lifetime → GaveCookie (events_of turns) bytes
    → GaveInTime lifetime now bytes e turns
gave_in_time lifetime now bytes e [] along h given = absurd given
gave_in_time lifetime now bytes e (t ∷ turns) along h given = elim (given_parts bytes t.outcome.events (events_of turns) given) [
  | inl here ↦ inl (here, subst (λ (moment : ℕ). cookie_moment now ≤ moment + lifetime) (given_moment e.moment bytes t.outcome.events along.0 here) h)
  | inr later ↦ inr (gave_in_time lifetime now bytes t.outcome.after turns along.1 h later)
]

-- The cookie of this turn's COOKIE ECHO was given away before.
echoed_given : (events : List (Event Emission)) (input : Input) (tag : ℕ) (bytes : List ℕ) → input ≡ chunk_input tag (cookie_echo bytes) → EchoesGivenCookie events input → GaveCookie events bytes
echoed_given events input tag bytes is h = subst (EchoesGivenCookie events) is h

all_in_time : (options : Options) (before turns : List Transition) → SameOptions options (endpoint_after options before).options → AlongTurns BearsMoment (fresh_endpoint options) before
    → AlongTurns BearsMoment (endpoint_after options before) turns → AlongTurns Young (endpoint_after options before) turns → AlongTurns KeepsOptions (endpoint_after options before) turns
    → AllEchoGiven (events_of before) turns → AllInTime options before turns
all_in_time options before [] own bore bearing_on young_on keeping given = tt
all_in_time options before (t ∷ turns) own bore bearing_on young_on keeping given =
    let e : Endpoint = endpoint_after options before in
    let next : List Transition = before ++ t ∷ [] in
    let last : endpoint_after options next ≡ t.outcome.after = after_last (fresh_endpoint options) before t in
    let behind : events_of before ++ t.outcome.events ≡ events_of next =
    ap (λ (es : List (Event Emission)). events_of before ++ es) (sym (append-nil t.outcome.events)) ∙ sym (events_of-append before (t ∷ [])) in (
      (λ bytes made. gave_in_time (as_nanos options.cookie_lifetime) e.moment bytes (fresh_endpoint options) before bore
          (subst (λ (lifetime : ℕ). cookie_moment e.moment ≤ u64_at 48 bytes + lifetime) (ap (λ (p : Options). as_nanos p.cookie_lifetime) own) (young_on.0 made.tag bytes made.link made.input made.made))
          (echoed_given (events_of before) t.input made.tag bytes made.input given.0)),
      all_in_time options next turns (subst (λ (x : Endpoint). SameOptions options x.options) (sym last) (same_after options e.options t.outcome.after.options own keeping.0))
          (along_append BearsMoment (fresh_endpoint options) before (t ∷ []) bore (bearing_on.0, tt))
          (subst (λ (x : Endpoint). AlongTurns BearsMoment x turns) (sym last) bearing_on.1) (subst (λ (x : Endpoint). AlongTurns Young x turns) (sym last) young_on.1)
          (subst (λ (x : Endpoint). AlongTurns KeepsOptions x turns) (sym last) keeping.1)
          (subst (λ (es : List (Event Emission)). AllEchoGiven es turns) behind given.1),
    )

throughout : MoveLaws → ChunksAreControlled → (options : Both Options) (run : List PerformedAct) → AreUsable options → SocketRun options run → GivesCookiesThroughout run → AgeThroughout options run
throughout law chunks options [] are runs given = tt
throughout law chunks options (worked ∷ earlier) are runs given = (
  (λ honest side. all_in_time (of_side side options) [] (of_side side (turns_after (worked ∷ earlier))) refl tt
      (run_along BearsMoment (bears chunks law.acts) options (worked ∷ earlier) runs side) (run_along Young young options (worked ∷ earlier) runs side)
      (of_moves law KeepsOptions keeps_options options (worked ∷ earlier) are runs side) (given.0 honest side)),
  throughout law chunks options earlier are runs.1 given.1,
)

pub cookies_age : MoveLaws → ChunksAreControlled → CookiesWereGiven → CookiesAge
cookies_age law chunks given options run are runs = throughout law chunks options run are runs (given options run are runs)
