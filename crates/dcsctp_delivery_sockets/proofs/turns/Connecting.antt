-- An association that begins by a COOKIE ECHO connects in the same turn. One that begins by an INIT ACK
-- awaits its COOKIE ACK, and by the RFC no request of ours was begun in it.
use Rattle.std.proofs.Common.{◌≡◌, ◌⊎◌, ℕ, Bool, true, false, cond, Option, None, Some, Result, Ok, Err, List, [], ◌∷◌, ◌++◌, refl, sym, ◌∙◌, ap, subst, inl, inr}
use Rattle.dcsctp_spec_lemmas.specs.types.declared.association.Held.{Held}
use Rattle.dcsctp_spec_lemmas.specs.types.declared.association.Pair.{Pair}
use Rattle.dcsctp_spec_lemmas.specs.types.declared.word.Word.{Word}
use Rattle.dcsctp_spec_lemmas.specs.types.declared.word.Word.TheVariants.{U64}
use Rattle.dcsctp_spec_lemmas.specs.spec.Cookie.{Cookie, cookie_of_bytes}
use Rattle.dcsctp_spec_lemmas.specs.spec.Packet.{Introduction, init, init_ack, cookie_echo, cookie_ack, re_config, abort, shutdown, shutdown_ack, shutdown_complete, plain, Emission}
use Rattle.dcsctp_spec_lemmas.specs.spec.association.CookieEchoChanges.{Resolution, establish_new, restart, simultaneous_init, discard, maintain_existing, invalid_tag, stale}
use Rattle.dcsctp_spec_lemmas.specs.spec.association.Effect.{AssociationIdentity, Effect, holds, connects, ends}
use Rattle.dcsctp_spec_lemmas.specs.spec.association.HandshakeChanges.{held_by_init_ack}
use Rattle.dcsctp_spec_lemmas.specs.spec.endpoint.BegunResets.{BegunReset, begun_effects}
use Rattle.dcsctp_spec_lemmas.specs.spec.endpoint.CookieEchoOutcomes.{restart_with_flush_by_phase, restart_with_flush_by_core, ResolvedAnswers, resolve_with_flush, EchoedAnswers, cookie_echo_with_flush, resolved_now, cookie_ack_emission}
use Rattle.dcsctp_spec_lemmas.specs.spec.endpoint.Endpoint.{Endpoint, Core, closed, cookie_wait, cookie_echoed, open_in, OpenPhase, OutstandingRequest, established, shutdown_pending, shutdown_sent, shutdown_received, shutdown_ack_sent, is_cookie_echoed}
use Rattle.dcsctp_spec_lemmas.specs.spec.endpoint.FlushOutcomes.{Answer, flush_answered, first_ask, packets_allowed}
use Rattle.dcsctp_spec_lemmas.specs.spec.endpoint.HandshakeOutcomes.{awaits_cookie_ack, echo_emission, EchoAnswers, InitAckAnswers, init_ack_with_flush, abort_emission}
use Rattle.dcsctp_spec_lemmas.specs.spec.endpoint.Outcome.{Outcome, quiet, sends, fits}
use Rattle.dcsctp_spec_lemmas.specs.spec.endpoint.Turn.{Input, arrival, refusal, packet_begins, chunk_input, packet_ends, act_input, user_sets, user_sends, user_resets, user_takes, timer_expires, time_passes, restores, Turn}
use Rattle.dcsctp_spec_lemmas.proofs.FlushKeeps.{begun_by, flush_keeps}
use Rattle.dcsctp_spec_lemmas.proofs.RefusalLemmas.{by_stale_outcome}
use Rattle.dcsctp_spec_runs.specs.Past.{HasEffect}
use Rattle.dcsctp_delivery_sockets.specs.turns.Actions.{IsOpening, content_of_input}
use Rattle.dcsctp_delivery_sockets.specs.turns.Asking.{Own, own_with, own_of_core, own_of}
use Rattle.dcsctp_delivery_sockets.proofs.turns.EchoedStays.{flush_stays}

-- ---- a COOKIE ECHO

pub established_connects : (link one : AssociationIdentity) (later effects rest : List Effect) → effects ≡ holds one ∷ connects one ∷ rest → effects ≡ holds link ∷ later → HasEffect (connects link) effects
established_connects link one later effects rest is so =
    let same : one ≡ link = heads (sym is ∙ so) in
    subst (HasEffect (connects link)) (sym is) (inr (inl (ap connects (sym same))))
  where
    heads : {first second : AssociationIdentity} {others more : List Effect} → holds first ∷ others ≡ holds second ∷ more → first ≡ second
    heads is = cc

flush_begins_none : (link : AssociationIdentity) (later : List Effect) (begun : Option BegunReset) → begun_effects begun ≡ holds link ∷ later → ⊥
flush_begins_none link later None is = absurd (cc)
flush_begins_none link later (Some reset) is = absurd (cc)

module _ (e : Endpoint) (cookie : Cookie) (word : ℕ) (answers : List Answer) (link : AssociationIdentity) (later : List Effect) where
  -- An association that this outcome records first connects in it.
  abbrev Connects : Outcome → Type 0
  Connects o = o.effects ≡ holds link ∷ later → HasEffect (connects link) o.effects

  restart_connects : (phase : OpenPhase) (held : Held) → Connects (restart_with_flush_by_phase (flush_answered answers) e cookie word phase held)
  restart_connects established held so = established_connects link _ later _ _ refl so
  restart_connects shutdown_pending held so = established_connects link _ later _ _ refl so
  restart_connects shutdown_sent held so = established_connects link _ later _ _ refl so
  restart_connects shutdown_received held so = established_connects link _ later _ _ refl so
  restart_connects shutdown_ack_sent held so = absurd (cc)

  restarted_connects : (core : Core) → Connects (restart_with_flush_by_core (flush_answered answers) e cookie word core)
  restarted_connects closed so = established_connects link _ later _ _ refl so
  restarted_connects (cookie_wait my) so = established_connects link _ later _ _ refl so
  restarted_connects (cookie_echoed my held echoed) so = established_connects link _ later _ _ refl so
  restarted_connects (open_in phase my held) so = restart_connects phase held so

  resolved_connects : (core : Core) (resolution : Resolution) → ResolvedAnswers e cookie core word resolution answers → Connects (resolve_with_flush (flush_answered answers) e cookie core word resolution)
  resolved_connects core establish_new allowed so = established_connects link _ later _ _ refl so
  resolved_connects core restart allowed so = restarted_connects core so
  resolved_connects core simultaneous_init allowed so = established_connects link _ later _ _ refl so
  resolved_connects core discard allowed so = absurd (cc)
  resolved_connects closed maintain_existing allowed so = absurd (cc)
  resolved_connects (cookie_wait my) maintain_existing allowed so = absurd (cc)
  resolved_connects (cookie_echoed my held echoed) maintain_existing allowed so = absurd (cc)
  resolved_connects (open_in phase my held) maintain_existing allowed so =
      absurd (flush_begins_none link later (begun_by answers) (sym (flush_keeps first_ask (packets_allowed e.options.max_burst e.core) e (cookie_ack_emission held cookie) answers allowed).effects ∙ so))
  resolved_connects core invalid_tag allowed so = absurd (cc)
  resolved_connects core stale allowed so = by_stale_outcome Connects e cookie (λ same. absurd (cc)) (λ same. absurd (cc)) so

pub echo_connects : (e : Endpoint) (core : Core) (header : ℕ) (found : Result Cookie (List ℕ)) (word : ℕ) (answers : List Answer) (link : AssociationIdentity) (later : List Effect) → EchoedAnswers e core header found word answers
    → (cookie_echo_with_flush (flush_answered answers) e core header found word).effects ≡ holds link ∷ later → HasEffect (connects link) (cookie_echo_with_flush (flush_answered answers) e core header found word).effects
echo_connects e core header (Err text) word answers link later allowed so = absurd (cc)
echo_connects e core header (Ok cookie) word answers link later allowed so = resolved_connects e cookie word answers link later core (resolved_now e core header cookie) allowed so

-- ---- an INIT ACK

-- No request of ours was begun: the next one would be the first.
abbrev pub NoneBegun : ℕ → Option Own → Type 0
NoneBegun first found = (own : Own) → found ≡ Some own → (own.next ≡ first) × (own.number ≡ None)

pub none_by : (first : ℕ) (core : Core) (my : Pair) (held : Held) (cookie : List ℕ) (request : Option OutstandingRequest) → core ≡ cookie_echoed my held cookie → held.own_next ≡ first → held.own_outstanding ≡ None → NoneBegun first (own_of_core core request)
none_by first core my held cookie request at next none own there =
    let same : Some (own_with held request) ≡ Some own = sym (ap (λ (c : Core). own_of_core c request) at) ∙ there in
    let one : own_with held request ≡ own = cc in
    subst (λ (o : Own). (o.next ≡ first) × (o.number ≡ None)) one (next, none)

emits_effects : (b : Bool) (e : Endpoint) (words : List Word) (emission : Emission) → (cond b (sends e words [] emission) (quiet e words [])).effects ≡ []
emits_effects true e words emission = refl
emits_effects false e words emission = refl

awaiting_core : (b : Bool) (base : Endpoint) (my : Pair) (held : Held) (waiting : List ℕ) (words : List Word) (tag : ℕ) (cookie : List ℕ) (answers : List Answer) → base.options.follow_rfc ≡ true → base.core ≡ cookie_echoed my held waiting → EchoAnswers b base tag cookie answers
    → (cond b (flush_answered answers base words [] true tag (cookie_echo cookie ∷ [])) (quiet base words [])).after.core ≡ cookie_echoed my held waiting
awaiting_core true base my held waiting words tag cookie answers follows at allowed =
    flush_stays base (echo_emission tag cookie) answers (record { follows = follows; echoed = ap is_cookie_echoed at }) allowed ∙ at
awaiting_core false base my held waiting words tag cookie answers follows at allowed = at

first_link : {one other : AssociationIdentity} {effects later : List Effect} → holds one ∷ effects ≡ holds other ∷ later → one ≡ other
first_link is = cc

init_ack_unasked : (e : Endpoint) (theirs : Introduction) (cookie : Option (List ℕ)) (core : Core) (word : ℕ) (answers : List Answer) (link : AssociationIdentity) (later : List Effect) → e.options.follow_rfc ≡ true → InitAckAnswers e theirs cookie core word answers
    → (init_ack_with_flush (flush_answered answers) e theirs cookie core word).effects ≡ holds link ∷ later → NoneBegun link.my.first_tsn (own_of (init_ack_with_flush (flush_answered answers) e theirs cookie core word).after)
init_ack_unasked e theirs cookie closed word answers link later follows allowed so = absurd (cc)
init_ack_unasked e theirs cookie (cookie_echoed my held echoed) word answers link later follows allowed so = absurd (cc)
init_ack_unasked e theirs cookie (open_in phase my held) word answers link later follows allowed so = absurd (cc)
init_ack_unasked e theirs None (cookie_wait my) word answers link later follows allowed so =
    absurd (let none : ends ∷ [] ≡ holds link ∷ later = sym (ap (λ (l : List Effect). l ++ ends ∷ []) (emits_effects (fits e (abort_emission theirs.pair.tag)) e [] (abort_emission theirs.pair.tag))) ∙ so in cc)
init_ack_unasked e theirs (Some cookie) (cookie_wait my) word answers link later follows allowed so =
    let held : Held = held_by_init_ack e.options my theirs in
    let awaiting : Endpoint = awaits_cookie_ack e my theirs cookie word in
    let is_short : Bool = fits awaiting (echo_emission theirs.pair.tag cookie) in
    let at = awaiting_core is_short awaiting my held cookie (U64 word ∷ []) theirs.pair.tag cookie answers follows refl allowed in
    subst (λ (l : AssociationIdentity). NoneBegun l.my.first_tsn (own_of (init_ack_with_flush (flush_answered answers) e theirs (Some cookie) (cookie_wait my) word).after)) (first_link so)
    (none_by my.first_tsn _ my held cookie _ at refl refl)

-- ---- each turn

pub opens_unasked : (e : Endpoint) (input : Input) (o : Outcome) (link : AssociationIdentity) (later : List Effect) → e.options.follow_rfc ≡ true → IsOpening (content_of_input input) → Turn e input o → o.effects ≡ holds link ∷ later
    → NoneBegun link.my.first_tsn (own_of o.after) ⊎ HasEffect (connects link) o.effects
opens_unasked e (chunk_input tag (init_ack theirs cookie)) o link later follows opening turn so =
    inl (subst (λ (x : Outcome). NoneBegun link.my.first_tsn (own_of x.after)) (sym turn.3) (init_ack_unasked e theirs cookie e.core turn.0 turn.1 link later follows turn.2 (ap (λ (x : Outcome). x.effects) (sym turn.3) ∙ so)))
opens_unasked e (chunk_input tag (cookie_echo bytes)) o link later follows opening turn so =
    inr (subst (λ (x : Outcome). HasEffect (connects link) x.effects) (sym turn.3) (echo_connects e e.core tag (cookie_of_bytes bytes) turn.0 turn.1 link later turn.2 (ap (λ (x : Outcome). x.effects) (sym turn.3) ∙ so)))
opens_unasked e (chunk_input tag (init c)) o link later follows opening turn so = absurd opening
opens_unasked e (chunk_input tag cookie_ack) o link later follows opening turn so = absurd opening
opens_unasked e (chunk_input tag (re_config c)) o link later follows opening turn so = absurd opening
opens_unasked e (chunk_input tag (abort t c)) o link later follows opening turn so = absurd opening
opens_unasked e (chunk_input tag (shutdown c)) o link later follows opening turn so = absurd opening
opens_unasked e (chunk_input tag shutdown_ack) o link later follows opening turn so = absurd opening
opens_unasked e (chunk_input tag (shutdown_complete t)) o link later follows opening turn so = absurd opening
opens_unasked e (chunk_input tag (plain chunk)) o link later follows opening turn so = absurd opening
opens_unasked e arrival o link later follows opening turn so = absurd opening
opens_unasked e (refusal text) o link later follows opening turn so = absurd opening
opens_unasked e (packet_begins contents) o link later follows opening turn so = absurd opening
opens_unasked e packet_ends o link later follows opening turn so = absurd opening
opens_unasked e (act_input act) o link later follows opening turn so = absurd opening
opens_unasked e (user_sets setting) o link later follows opening turn so = absurd opening
opens_unasked e (user_sends messages) o link later follows opening turn so = absurd opening
opens_unasked e (user_resets ids) o link later follows opening turn so = absurd opening
opens_unasked e user_takes o link later follows opening turn so = absurd opening
opens_unasked e (timer_expires timer) o link later follows opening turn so = absurd opening
opens_unasked e (time_passes moment) o link later follows opening turn so = absurd opening
opens_unasked e (restores state) o link later follows opening turn so = absurd opening
