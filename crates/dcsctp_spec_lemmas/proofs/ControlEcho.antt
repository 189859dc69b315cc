-- The turn of a COOKIE ECHO at an endpoint is one of its association.
use Rattle.std.proofs.Common.{◌≡◌, ◌==◌, ℕ, Bool, true, false, List, [], ◌∷◌, refl, sym, subst, arith}
use Rattle.std.specs.Prelude.{◌&&◌, if◌then◌else◌, Result, Ok, Err}
use Rattle.std.proofs.lemmas.Bool.Decides.{nat_tests}
use Rattle.dcsctp_spec.specs.types.declared.association.Pair.{Pair}
use Rattle.dcsctp_spec.specs.types.declared.association.Held.{Held}
use Rattle.dcsctp_spec.specs.types.declared.word.Word.TheVariants.{U64}
use Rattle.dcsctp_spec.specs.Cookie.{Cookie, cookie_of_bytes}
use Rattle.dcsctp_spec.specs.endpoint.Event.{Event, connected, connection_restarted, error}
use Rattle.dcsctp_spec.specs.Packet.{cookie_echo, Emission}
use Rattle.dcsctp_spec.specs.queues.Transfer.{EndpointQueues}
use Rattle.dcsctp_spec.specs.endpoint.Endpoint.{Endpoint, Core, closed, cookie_wait, cookie_echoed, open_in, OpenPhase, established, shutdown_pending, shutdown_sent, shutdown_received, shutdown_ack_sent}
use Rattle.dcsctp_spec.specs.endpoint.Outcome.{Outcome, sends, quiet, fits, behind}
use Rattle.dcsctp_spec.specs.endpoint.FlushOutcomes.{Answer, flush_answered}
use Rattle.dcsctp_spec.specs.endpoint.HandshakeOutcomes.{connected_after}
use Rattle.dcsctp_spec.specs.endpoint.CookieEchoOutcomes.{is_spent, endpoint_established, cookie_ack_emission, establish_with_flush, queues_kept, queues_begun, queues_collided, stale_text, stale_emission, refused_echo_outcome, restart_with_flush_by_phase, restart_with_flush_by_core, maintain_with_flush, resolve_with_flush, resolved_now, cookie_echo_with_flush, EstablishAnswers, RestartAnswersByPhase, RestartAnswers, MaintainAnswers, ResolvedAnswers, EchoedAnswers, CookieEchoTurn}
use Rattle.dcsctp_spec.specs.endpoint.Following.{dropped_rest}
use Rattle.dcsctp_spec.specs.types.declared.kinds.ErrorKind.TheVariants.{ParseFailed}
use Rattle.dcsctp_spec.specs.association.Effect.{holds, connects, emitted_alone, identity_of}
use Rattle.dcsctp_spec.specs.association.CookieEchoChanges.{Resolution, establish_new, restart, simultaneous_init, discard, maintain_existing, invalid_tag, stale, aged_resolution, case_by_answers, case_with_peer, held_by_cookie, new_association_change, restart_change_where_open, restart_change, maintain_change, resolved_change, stale_error, read_echo_change}
use Rattle.dcsctp_spec.specs.association.Choices.{Choices}
use Rattle.dcsctp_spec.specs.association.Controlled.{has_connected, observations_of_events, IsControlled, IsControlledChunk}
use Rattle.dcsctp_spec_lemmas.proofs.FlushKeeps.{IsPeerTag, rebuilds_open, flush_controlled}
use Rattle.dcsctp_spec_lemmas.proofs.ControlHandshake.{choosing, still_controlled}

-- ---- one that makes an association

made : (e : Endpoint) (cookie : Cookie) (queues : EndpointQueues) (tie : ℕ) (events : List (Event Emission)) (answers : List Answer) → observations_of_events events ≡ has_connected ∷ []
    → EstablishAnswers e cookie queues tie answers → IsControlled e (establish_with_flush (flush_answered answers) e cookie queues tie events) (new_association_change e.options cookie (choosing e true answers))
made e cookie queues tie events answers told h =
    let held : Held = held_by_cookie e.options cookie in
    flush_controlled e (endpoint_established e cookie queues tie) (U64 tie ∷ []) events (cookie_ack_emission held cookie) answers (λ x. open_in established cookie.maker x) held
    (holds (identity_of cookie.maker held) ∷ connects (identity_of cookie.maker held) ∷ []) (holds (identity_of cookie.maker held) ∷ connects (identity_of cookie.maker held) ∷ [])
    (rebuilds_open established cookie.maker held) refl refl refl h told refl refl

-- the choices of an endpoint that judges whether the cookie is spent, and may have to say so
abbrev pub judging : Endpoint → Cookie → Bool → List Answer → Choices
judging e cookie spent answers = record (choosing e (fits e (stale_emission cookie)) answers) { is_stale = spent }

-- ---- a restart

restart_in : (e : Endpoint) (cookie : Cookie) (tie : ℕ) (phase : OpenPhase) (mine : Pair) (held : Held) (spent : Bool) (answers : List Answer) → e.core ≡ open_in phase mine held → RestartAnswersByPhase e cookie tie phase answers
    → IsControlled e (restart_with_flush_by_phase (flush_answered answers) e cookie tie phase held) (restart_change_where_open e.options phase mine held cookie (judging e cookie spent answers))
restart_in e cookie tie established mine held spent answers is h = made e cookie (queues_begun e cookie) tie (connection_restarted ∷ connected ∷ []) answers refl h
restart_in e cookie tie shutdown_pending mine held spent answers is h = made e cookie (queues_begun e cookie) tie (connection_restarted ∷ connected ∷ []) answers refl h
restart_in e cookie tie shutdown_sent mine held spent answers is h = made e cookie (queues_begun e cookie) tie (connection_restarted ∷ connected ∷ []) answers refl h
restart_in e cookie tie shutdown_received mine held spent answers is h = made e cookie (queues_begun e cookie) tie (connection_restarted ∷ connected ∷ []) answers refl h
restart_in e cookie tie shutdown_ack_sent mine held spent answers is h = record { core = is; options = refl; observations = refl; effects = refl; following = refl }

restart_at : (e : Endpoint) (cookie : Cookie) (tie : ℕ) (core : Core) (spent : Bool) (answers : List Answer) → e.core ≡ core → RestartAnswers e cookie tie core answers
    → IsControlled e (restart_with_flush_by_core (flush_answered answers) e cookie tie core) (restart_change e.options core cookie (judging e cookie spent answers))
restart_at e cookie tie closed spent answers is h = made e cookie (queues_begun e cookie) tie (connection_restarted ∷ connected ∷ []) answers refl h
restart_at e cookie tie (cookie_wait mine) spent answers is h = made e cookie (queues_begun e cookie) tie (connection_restarted ∷ connected ∷ []) answers refl h
restart_at e cookie tie (cookie_echoed mine held echoed) spent answers is h = made e cookie (queues_begun e cookie) tie (connection_restarted ∷ connected ∷ []) answers refl h
restart_at e cookie tie (open_in phase mine held) spent answers is h = restart_in e cookie tie phase mine held spent answers is h

-- ---- the association that is held

-- The cookie's addressee is the peer.
is_of_peer : (a b c d : Bool) → case_by_answers a b c d ≡ maintain_existing → b ≡ true
is_of_peer false false true zero is = absurd (cc)
is_of_peer false false false zero is = absurd (cc)
is_of_peer true false tie zero is = absurd (cc)
is_of_peer false true tie true is = absurd (cc)
is_of_peer false true tie false is = absurd (cc)
is_of_peer true true tie zero is = refl

same_of : (a b : ℕ) → (a == b) ≡ true → a ≡ b
same_of a b is = grind (arith, nat_tests)

peer_of : (my : Pair) (held : Held) (tie secret header : ℕ) (cookie : Cookie) → case_with_peer my held tie secret header cookie ≡ maintain_existing → held.peer.tag ≡ cookie.addressee.tag
peer_of my held tie secret header cookie is =
    sym (same_of cookie.addressee.tag held.peer.tag (is_of_peer (header == my.tag) (cookie.addressee.tag == held.peer.tag) (cookie.tie == tie) (cookie.tie == secret) is))

-- The case of the existing association is that of the table, whatever the age of the cookie.
pub kept_by_age : (old : Bool) (resolution : Resolution) → aged_resolution old resolution ≡ maintain_existing → resolution ≡ maintain_existing
kept_by_age true establish_new is = absurd (cc)
kept_by_age true restart is = absurd (cc)
kept_by_age true simultaneous_init is = absurd (cc)
kept_by_age true discard is = is
kept_by_age true maintain_existing is = is
kept_by_age true invalid_tag is = is
kept_by_age true stale is = is
kept_by_age false resolution is = is

pub maintain_at : (e : Endpoint) (cookie : Cookie) (core : Core) (header : ℕ) (spent : Bool) (answers : List Answer) → e.core ≡ core → resolved_now e core header cookie ≡ maintain_existing → MaintainAnswers e cookie core answers
    → IsControlled e (maintain_with_flush (flush_answered answers) e cookie core) (maintain_change core cookie (judging e cookie spent answers))
maintain_at e cookie closed header spent answers is case h = still_controlled e closed is
maintain_at e cookie (cookie_wait mine) header spent answers is case h = still_controlled e (cookie_wait mine) is
maintain_at e cookie (cookie_echoed mine held echoed) header spent answers is case h =
    flush_controlled e (connected_after e mine held) [] (connected ∷ []) (cookie_ack_emission held cookie) answers (λ x. open_in established mine x) held (connects (identity_of mine held) ∷ []) (connects (identity_of mine held) ∷ [])
    (rebuilds_open established mine held) refl refl (peer_of mine held e.tie e.secret header cookie (kept_by_age _ _ case)) h refl refl refl
maintain_at e cookie (open_in phase mine held) header spent answers is case h =
    flush_controlled e e [] [] (cookie_ack_emission held cookie) answers (λ x. open_in phase mine x) held [] [] (rebuilds_open phase mine held)
    is refl (subst (λ (core : Core). IsPeerTag core cookie.addressee.tag) (sym is) (peer_of mine held e.tie e.secret header cookie (kept_by_age _ _ case))) h refl refl refl

-- ---- one that is stale

stale_where : (by_rfc b : Bool) (e : Endpoint) (core : Core) (cookie : Cookie) → e.core ≡ core
    → IsControlled e
    (if by_rfc
    then record (behind [] (error ParseFailed stale_text ∷ []) (if b then sends e [] [] (stale_emission cookie) else quiet e [] [])) { following = dropped_rest }
    else refused_echo_outcome e stale_text)
    (record { core = core; effects = emitted_alone (by_rfc && b) cookie.addressee.tag stale_error; following = dropped_rest })
stale_where true true e core cookie is = record { core = is; options = refl; observations = refl; effects = refl; following = refl }
stale_where true false e core cookie is = record { core = is; options = refl; observations = refl; effects = refl; following = refl }
stale_where false b e core cookie is = record { core = is; options = refl; observations = refl; effects = refl; following = refl }

-- ---- every case

resolved_at : (e : Endpoint) (cookie : Cookie) (core : Core) (word header : ℕ) (resolution : Resolution) (spent : Bool) (answers : List Answer) → e.core ≡ core → resolved_now e core header cookie ≡ resolution
    → ResolvedAnswers e cookie core word resolution answers
    → IsControlled e (resolve_with_flush (flush_answered answers) e cookie core word resolution) (resolved_change e.options core cookie (judging e cookie spent answers) resolution)
resolved_at e cookie core word header establish_new spent answers is case h = made e cookie (queues_kept e cookie) word (connected ∷ []) answers refl h
resolved_at e cookie core word header restart spent answers is case h = restart_at e cookie word core spent answers is h
resolved_at e cookie core word header simultaneous_init spent answers is case h = made e cookie (queues_collided e core cookie) word (connected ∷ []) answers refl h
resolved_at e cookie core word header discard spent answers is case h = record { core = is; options = refl; observations = refl; effects = refl; following = refl }
resolved_at e cookie core word header maintain_existing spent answers is case h = maintain_at e cookie core header spent answers is case h
resolved_at e cookie core word header invalid_tag spent answers is case h = record { core = is; options = refl; observations = refl; effects = refl; following = refl }
resolved_at e cookie core word header stale spent answers is case h = stale_where e.options.follow_rfc (fits e (stale_emission cookie)) e core cookie is

echo_at : (e : Endpoint) (core : Core) (header : ℕ) (read : Result Cookie (List ℕ)) (word : ℕ) (answers : List Answer) → e.core ≡ core → EchoedAnswers e core header read word answers
    → (choices : Choices) × IsControlled e (cookie_echo_with_flush (flush_answered answers) e core header read word) (read_echo_change e.options core header read choices)
echo_at e core header (Err text) word answers is h = (choosing e true answers, record { core = is; options = refl; observations = refl; effects = refl; following = refl })
echo_at e core header (Ok cookie) word answers is h = (
  judging e cookie (is_spent e core header cookie) answers,
  resolved_at e cookie core word header (resolved_now e core header cookie) (is_spent e core header cookie) answers is refl h,
)

pub cookie_echo_controlled : (e : Endpoint) (tag : ℕ) (bytes : List ℕ) (o : Outcome) → CookieEchoTurn e tag bytes o → IsControlledChunk e tag (cookie_echo bytes) o
cookie_echo_controlled e tag bytes o turn =
    let controlled = echo_at e e.core tag (cookie_of_bytes bytes) turn.0 turn.1 refl turn.2 in
    subst (IsControlledChunk e tag (cookie_echo bytes)) (sym turn.3) (_, (controlled.0, tt, refl), controlled.1)
