-- The turns of the handshake, and ends, as actions.
use Rattle.std.proofs.Common.{subst, ap, sym, ◌≡◌, ◌⊎◌, ℕ, Bool, true, false, cond, Option, None, Some, Result, Ok, Err, List, [], ◌∷◌, refl, inl, inr, ◌==◌, ◌&&◌, ◌∙◌}
use Rattle.dcsctp_spec_lemmas.proofs.AbortLemmas.{by_abort_outcome}
use Rattle.dcsctp_spec_lemmas.proofs.ControlEcho.{kept_by_age}
use Rattle.dcsctp_spec_lemmas.proofs.RefusalLemmas.{by_stale_outcome}
use Rattle.dcsctp_spec_lemmas.specs.types.declared.association.Pair.{Pair}
use Rattle.dcsctp_spec_lemmas.specs.types.declared.association.Held.{Held}
use Rattle.dcsctp_spec_lemmas.specs.types.declared.word.Word.{Word}
use Rattle.dcsctp_spec_lemmas.specs.types.declared.word.Word.TheVariants.{U32, U64}
use Rattle.dcsctp_spec_lemmas.specs.types.declared.ends.AbortReason.{AbortReason}
use Rattle.dcsctp_spec_lemmas.specs.spec.endpoint.Cause.{Cause}
use Rattle.dcsctp_spec_lemmas.specs.spec.Cookie.{Cookie}
use Rattle.dcsctp_spec_lemmas.specs.spec.endpoint.Event.{Event, packets_of_events, connected, connection_restarted, aborted}
use Rattle.dcsctp_spec_lemmas.specs.spec.queues.SendQueue.{queue_restarted, numbered_for}
use Rattle.dcsctp_spec_lemmas.specs.spec.Packet.{Introduction, Content, cookie_echo, shutdown_ack, Emission}
use Rattle.dcsctp_spec_lemmas.specs.spec.endpoint.Endpoint.{Endpoint, Core, closed, cookie_wait, cookie_echoed, open_in, established, shutdown_pending, shutdown_sent, shutdown_received, shutdown_ack_sent, may_answer, with_secret, secret_with, OutstandingRequest}
use Rattle.dcsctp_spec_lemmas.specs.spec.endpoint.Outcome.{Outcome, quiet, emits, fits, to_peer}
use Rattle.dcsctp_spec_lemmas.specs.spec.endpoint.FlushOutcomes.{Answer, draft_to, flush_of, flush_answered}
use Rattle.dcsctp_spec_lemmas.specs.spec.endpoint.EndOutcomes.{abort_outcome, aborting_outcome, abort_to, end_of}
use Rattle.dcsctp_spec_lemmas.specs.spec.endpoint.HandoverOutcomes.{hand_over_outcome}
use Rattle.dcsctp_spec_lemmas.specs.spec.endpoint.HandshakeOutcomes.{pair_from, renewed_pair, init_ack_emission, init_outcome, init_answered, init_emission, awaits_init_ack, connect_outcome, awaits_cookie_ack, echo_emission, EchoAnswers, InitAckAnswers, accept_init_ack_with_flush, init_ack_with_flush, connected_after, CookieAckAnswers, cookie_ack_with_flush, abort_emission, no_cookie_text}
use Rattle.dcsctp_spec_lemmas.specs.spec.endpoint.TimerOutcomes.{AgainAnswers, send_again_with_flush, t1_gives_up_outcome}
use Rattle.dcsctp_spec_lemmas.specs.spec.endpoint.CookieEchoOutcomes.{is_spent, endpoint_established, cookie_ack_emission, EstablishAnswers, establish_with_flush, interleaves, queue_if_kept, queues_kept, queues_begun, queues_if_kept, queues_for_other, queues_collided, outlasts, collide_with_flush, stale_emission, RestartAnswers, restart_with_flush_by_core, MaintainAnswers, maintain_with_flush, ResolvedAnswers, resolve_with_flush, EchoedAnswers, cookie_echo_with_flush, resolved_now, shutting_down_emission, window_by_cookie}
use Rattle.dcsctp_spec_lemmas.specs.spec.association.CookieEchoChanges.{held_by_cookie, Resolution, establish_new, restart, simultaneous_init, discard, maintain_existing, invalid_tag, stale, aged_resolution, resolve, case_by_answers}
use Rattle.dcsctp_spec_lemmas.specs.spec.association.HandshakeChanges.{held_by_init_ack}
use Rattle.std.proofs.lemmas.Bool.{eqb-true}
use Rattle.dcsctp_delivery_sockets.specs.turns.Tags.{IsPeerTag}
use Rattle.dcsctp_spec_lemmas.specs.spec.association.Effect.{identity_of, identity_of_core}
use Rattle.dcsctp_delivery_sockets.specs.turns.Actions.{IsOpening, IsCalm, Inside, inside, kept_inside, MakesPackets, Collides, goes_on, ends, begins, collides}
use Rattle.dcsctp_spec_lemmas.specs.spec.Reconfiguration.{RequestedReset}
use Rattle.dcsctp_delivery_sockets.specs.turns.Asking.{Own, own_with, own_of_core, own_of}
use Rattle.dcsctp_spec_lemmas.specs.spec.queues.Transfer.{Transfer, EndpointQueues, transfer_kept}
use Rattle.dcsctp_spec_lemmas.specs.spec.endpoint.ReconfigurationOutcomes.{reset_again}
use Rattle.dcsctp_spec_lemmas.proofs.OneAnswerLemmas.{init_by}
use Rattle.dcsctp_delivery_sockets.proofs.turns.Tags.{flush_link}
use Rattle.dcsctp_delivery_sockets.proofs.turns.Actions.{Goes, MakesTo, emits_link, emits_own, rests, spoken, emitted, flushed, silent_if, makes_behind, ended, end_silent}

-- A cookie of the existing association has the peer's tag.
is_the_peer : (own peer tie zero : Bool) → case_by_answers own peer tie zero ≡ maintain_existing → peer ≡ true
is_the_peer true true tie zero e = refl
is_the_peer true false tie zero e = absurd (cc)
is_the_peer false true tie true e = absurd (cc)
is_the_peer false true tie false e = absurd (cc)
is_the_peer false false true zero e = absurd (cc)
is_the_peer false false false zero e = absurd (cc)

pub second_holds : (a b c : Bool) → ((a && b) && c) ≡ true → b ≡ true
second_holds true true c is = refl
second_holds true false c is = absurd (cc)
second_holds false b c is = absurd (cc)

third_holds : (a b c d f : Bool) → ((a && b) && ((c && d) && f)) ≡ true → c ≡ true
third_holds true true true d f is = refl
third_holds true true false d f is = absurd (cc)
third_holds true false c d f is = absurd (cc)
third_holds false b c d f is = absurd (cc)

own_next_is : (core : Core) (request : Option OutstandingRequest) (mine : Pair) (held : Held) (echoed : List ℕ) (own : Own) → core ≡ cookie_echoed mine held echoed → own_of_core core request ≡ Some own → own.next ≡ held.own_next
own_next_is core request mine held echoed own is there =
    let same : Some (own_with held request) ≡ Some own = sym (ap (λ (c : Core). own_of_core c request) is) ∙ there in
    ap (λ (o : Option Own). next_in o) (sym same)
  where
    next_in : Option Own → ℕ
    next_in None = 0
    next_in (Some own) = own.next

-- Where what was sent goes to another peer no request to reset streams was begun.
pub unasked_by : (e : Endpoint) (mine : Pair) (held : Held) (echoed : List ℕ) (cookie : Cookie) (transfer : Transfer) → e.core ≡ cookie_echoed mine held echoed → outlasts e mine held cookie transfer ≡ true
    → (own : Own) → own_of e ≡ Some own → own.next ≡ mine.first_tsn
unasked_by e mine held echoed cookie transfer is lasts own there =
    own_next_is e.core e.outstanding mine held echoed own is there ∙ eqb-true held.own_next mine.first_tsn (third_holds e.options.follow_rfc _ _ _ _ lasts)

-- What waits to be sent is kept, or starts again.
pub kept_or_anew : (b : Bool) (e : Endpoint) (cookie : Cookie)
    → ((queue_if_kept b e cookie ≡ numbered_for (interleaves e cookie) (window_by_cookie e.options cookie) e.queues.queue) × (b ≡ false))
    ⊎ (queue_if_kept b e cookie ≡ numbered_for (interleaves e cookie) (window_by_cookie e.options cookie) (queue_restarted e.queues.queue))
kept_or_anew true e cookie = inr refl
kept_or_anew false e cookie = inl (refl, refl)

-- Both ends began at the same time, and what was sent goes on.
pub record GoesThere (came : Option Content) (e : Endpoint) (o : Outcome) : Type 0 where
  pub collision : Collides came e o
  pub again : RequestedReset
  pub makes : MakesPackets came collision.opened.link.peer.tag (kept_inside collision again) (packets_of_events o.events) (inside o.after)

module _ (came : Option Content) (calm : IsCalm came) (to : ℕ) where
  -- ---- the handshake

  -- the same from another endpoint that has the same inside
  from_own : (e base : Endpoint) (o : Outcome) → base.queues ≡ e.queues → own_of e ≡ own_of base → MakesTo came to (inside base) o → MakesTo came to (inside e) o
  from_own e base o same is makes =
      subst (λ (i : Inside). MakesTo came to i o)
      (ap (λ (b : EndpointQueues). record { queues = b; own = own_of base }) same ∙ ap (λ (own : Option Own). record { queues = e.queues; own = own }) (sym is)) makes

  init_link : (e : Endpoint) (theirs : Introduction) (core : Core) (word next : ℕ) → identity_of_core (init_outcome e theirs core word next).after.core ≡ identity_of_core e.core
  init_link e theirs closed word next = emits_link (with_secret e (pair_from word next)) (U32 word ∷ U32 next ∷ []) (init_ack_emission (with_secret e (pair_from word next)) theirs (pair_from word next) (secret_with e (pair_from word next)))
  init_link e theirs (cookie_wait my) word next = emits_link e [] (init_ack_emission e theirs my e.secret)
  init_link e theirs (cookie_echoed my held cookie) word next = emits_link e [] (init_ack_emission e theirs my e.secret)
  init_link e theirs (open_in established my held) word next = emits_link e (U32 word ∷ []) (init_ack_emission e theirs (renewed_pair e word) e.tie)
  init_link e theirs (open_in shutdown_pending my held) word next = emits_link e (U32 word ∷ []) (init_ack_emission e theirs (renewed_pair e word) e.tie)
  init_link e theirs (open_in shutdown_sent my held) word next = emits_link e (U32 word ∷ []) (init_ack_emission e theirs (renewed_pair e word) e.tie)
  init_link e theirs (open_in shutdown_received my held) word next = emits_link e (U32 word ∷ []) (init_ack_emission e theirs (renewed_pair e word) e.tie)
  init_link e theirs (open_in shutdown_ack_sent my held) word next = emits_link e [] (to_peer held shutdown_ack)

  init_makes : (e : Endpoint) (theirs : Introduction) (core : Core) (word next : ℕ) → MakesTo came to (inside e) (init_outcome e theirs core word next)
  init_makes e theirs closed word next = emitted came to (with_secret e (pair_from word next)) (U32 word ∷ U32 next ∷ []) (init_ack_emission (with_secret e (pair_from word next)) theirs (pair_from word next) (secret_with e (pair_from word next))) (tt, tt) tt (tt, tt)
  init_makes e theirs (cookie_wait my) word next = emitted came to e [] (init_ack_emission e theirs my e.secret) (tt, tt) tt (tt, tt)
  init_makes e theirs (cookie_echoed my held cookie) word next = emitted came to e [] (init_ack_emission e theirs my e.secret) (tt, tt) tt (tt, tt)
  init_makes e theirs (open_in established my held) word next = emitted came to e (U32 word ∷ []) (init_ack_emission e theirs (renewed_pair e word) e.tie) (tt, tt) tt (tt, tt)
  init_makes e theirs (open_in shutdown_pending my held) word next = emitted came to e (U32 word ∷ []) (init_ack_emission e theirs (renewed_pair e word) e.tie) (tt, tt) tt (tt, tt)
  init_makes e theirs (open_in shutdown_sent my held) word next = emitted came to e (U32 word ∷ []) (init_ack_emission e theirs (renewed_pair e word) e.tie) (tt, tt) tt (tt, tt)
  init_makes e theirs (open_in shutdown_received my held) word next = emitted came to e (U32 word ∷ []) (init_ack_emission e theirs (renewed_pair e word) e.tie) (tt, tt) tt (tt, tt)
  init_makes e theirs (open_in shutdown_ack_sent my held) word next = emitted came to e [] (to_peer held shutdown_ack) (tt, tt) tt (tt, tt)

  pub init_goes : (e : Endpoint) (theirs : Introduction) (word next : ℕ) → Goes came to e (init_answered (may_answer e) e theirs word next)
  init_goes e theirs word next =
      init_by (Goes came to e) e theirs word next (goes_on calm refl (rests came to (inside e)))
      (goes_on calm (init_link e theirs e.core word next) (init_makes e theirs e.core word next))

  pub connect_goes : (e : Endpoint) (core : Core) (word next : ℕ) → e.core ≡ core → Goes came to e (connect_outcome e core word next)
  connect_goes e closed word next at =
      let awaiting : Endpoint = awaits_init_ack e (pair_from word next) in
      goes_on calm (emits_link awaiting (U32 word ∷ U32 next ∷ []) (init_emission e (pair_from word next)) ∙ sym (ap identity_of_core at))
      (from_own e awaiting (emits awaiting (U32 word ∷ U32 next ∷ []) (init_emission e (pair_from word next))) refl (ap (λ (c : Core). own_of_core c e.outstanding) at)
      (emitted came to awaiting (U32 word ∷ U32 next ∷ []) (init_emission e (pair_from word next)) (tt, tt) tt (tt, tt)))
  connect_goes e (cookie_wait my) word next at = goes_on calm refl (rests came to (inside e))
  connect_goes e (cookie_echoed my held cookie) word next at = goes_on calm refl (rests came to (inside e))
  connect_goes e (open_in phase my held) word next at = goes_on calm refl (rests came to (inside e))

  echoed_makes : (b : Bool) (e : Endpoint) (words : List Word) (tag : ℕ) (cookie : List ℕ) (answers : List Answer) → IsPeerTag e.core tag → EchoAnswers b e tag cookie answers
      → MakesTo came tag (inside e) (cond b (flush_answered answers e words [] true tag (cookie_echo cookie ∷ [])) (quiet e words []))
  echoed_makes true e words tag cookie answers at allowed = flushed came tag e (echo_emission tag cookie) answers at refl (tt, tt) tt (tt, tt) (tt, tt) allowed
  echoed_makes false e words tag cookie answers at allowed = rests came tag (inside e)

  echoed_link : (b : Bool) (e : Endpoint) (words : List Word) (tag : ℕ) (cookie : List ℕ) (answers : List Answer) → EchoAnswers b e tag cookie answers
      → identity_of_core (cond b (flush_answered answers e words [] true tag (cookie_echo cookie ∷ [])) (quiet e words [])).after.core ≡ identity_of_core e.core
  echoed_link true e words tag cookie answers allowed = flush_link e (echo_emission tag cookie) answers allowed
  echoed_link false e words tag cookie answers allowed = refl

  accepted_goes : IsOpening came → (e : Endpoint) (my : Pair) (theirs : Introduction) (cookie : Option (List ℕ)) (word : ℕ) (answers : List Answer) → InitAckAnswers e theirs cookie (cookie_wait my) word answers
      → Goes came to e (accept_init_ack_with_flush (flush_answered answers) e my theirs cookie word)
  accepted_goes opening e my theirs None word answers allowed = ended came to e (emits e [] (abort_emission theirs.pair.tag)) (aborted _ no_cookie_text) refl (emits_own e [] (abort_emission theirs.pair.tag))
      (silent_if came to (fits e (abort_emission theirs.pair.tag)) e [] (abort_emission theirs.pair.tag) (tt, tt)) (emitted came to e [] (abort_emission theirs.pair.tag) (tt, tt) tt (tt, tt))
  accepted_goes opening e my theirs (Some cookie) word answers allowed =
      let awaiting : Endpoint = awaits_cookie_ack e my theirs cookie word in
      begins (record {
        my = my;
        held = held_by_init_ack e.options my theirs;
        window = theirs.window;
        later = _;
        noted = refl;
        queue = numbered_for (held_by_init_ack e.options my theirs).capabilities.message_interleaving theirs.window (queue_restarted e.queues.queue);
        keeps = inr refl;
      }) opening (echoed_link (fits awaiting (echo_emission theirs.pair.tag cookie)) awaiting (U64 word ∷ []) theirs.pair.tag cookie answers allowed) (λ queued. refl) (λ read. refl) (reset_again None) (echoed_makes (fits awaiting (echo_emission theirs.pair.tag cookie)) awaiting (U64 word ∷ []) theirs.pair.tag cookie answers refl allowed)

  pub init_ack_goes : IsOpening came → (e : Endpoint) (theirs : Introduction) (cookie : Option (List ℕ)) (core : Core) (word : ℕ) (answers : List Answer) → InitAckAnswers e theirs cookie core word answers
      → Goes came to e (init_ack_with_flush (flush_answered answers) e theirs cookie core word)
  init_ack_goes opening e theirs cookie closed word answers allowed = goes_on calm refl (rests came to (inside e))
  init_ack_goes opening e theirs cookie (cookie_wait my) word answers allowed = accepted_goes opening e my theirs cookie word answers allowed
  init_ack_goes opening e theirs cookie (cookie_echoed my held echoed) word answers allowed = goes_on calm refl (rests came to (inside e))
  init_ack_goes opening e theirs cookie (open_in phase my held) word answers allowed = goes_on calm refl (rests came to (inside e))

  pub cookie_ack_goes : (e : Endpoint) (core : Core) (answers : List Answer) → e.core ≡ core → IsPeerTag core to → CookieAckAnswers e core answers → Goes came to e (cookie_ack_with_flush (flush_answered answers) e core)
  cookie_ack_goes e closed answers same is allowed = goes_on calm refl (rests came to (inside e))
  cookie_ack_goes e (cookie_wait my) answers same is allowed = goes_on calm refl (rests came to (inside e))
  cookie_ack_goes e (cookie_echoed my held cookie) answers same is allowed = goes_on calm (flush_link (connected_after e my held) (draft_to held) answers allowed ∙ sym (ap identity_of_core same))
      (from_own e (connected_after e my held) (flush_of (connected_after e my held) (draft_to held) answers) refl (ap (λ (c : Core). own_of_core c e.outstanding) same)
      (flushed came to (connected_after e my held) (draft_to held) answers is is tt tt tt tt allowed))
  cookie_ack_goes e (open_in phase my held) answers same is allowed = goes_on calm refl (rests came to (inside e))

  -- ---- COOKIE ECHO

  kept_goes : IsOpening came → (e : Endpoint) (cookie : Cookie) (tie : ℕ) (answers : List Answer) → EstablishAnswers e cookie (queues_kept e cookie) tie answers
      → Goes came to e (establish_with_flush (flush_answered answers) e cookie (queues_kept e cookie) tie (connected ∷ []))
  kept_goes opening e cookie tie answers allowed =
      begins (record {
        my = cookie.maker;
        held = held_by_cookie e.options cookie;
        window = window_by_cookie e.options cookie;
        later = _;
        noted = refl;
        queue = queue_if_kept e.options.follow_rfc e cookie;
        keeps = kept_or_anew e.options.follow_rfc e cookie;
      }) opening (flush_link (endpoint_established e cookie (queues_kept e cookie) tie) (cookie_ack_emission (held_by_cookie e.options cookie) cookie) answers allowed) (λ queued. refl) (λ read. refl) (reset_again None) (flushed came cookie.addressee.tag (endpoint_established e cookie (queues_kept e cookie) tie) (cookie_ack_emission (held_by_cookie e.options cookie) cookie) answers refl refl (tt, tt) tt (tt, tt) (tt, tt) allowed)

  anew_goes : IsOpening came → (e : Endpoint) (cookie : Cookie) (tie : ℕ) (told : List (Event Emission)) (answers : List Answer) → packets_of_events told ≡ [] → EstablishAnswers e cookie (queues_begun e cookie) tie answers
      → Goes came to e (establish_with_flush (flush_answered answers) e cookie (queues_begun e cookie) tie told)
  anew_goes opening e cookie tie told answers none allowed =
      begins (record {
        my = cookie.maker;
        held = held_by_cookie e.options cookie;
        window = window_by_cookie e.options cookie;
        later = _;
        noted = refl;
        queue = numbered_for (interleaves e cookie) (window_by_cookie e.options cookie) (queue_restarted e.queues.queue);
        keeps = inr refl;
      }) opening (flush_link (endpoint_established e cookie (queues_begun e cookie) tie) (cookie_ack_emission (held_by_cookie e.options cookie) cookie) answers allowed) (λ queued. refl) (λ read. refl) (reset_again None) (makes_behind came cookie.addressee.tag (inside (endpoint_established e cookie (queues_begun e cookie) tie)) (U64 tie ∷ []) told (flush_of (endpoint_established e cookie (queues_begun e cookie) tie) (cookie_ack_emission (held_by_cookie e.options cookie) cookie) answers) none
      (flushed came cookie.addressee.tag (endpoint_established e cookie (queues_begun e cookie) tie) (cookie_ack_emission (held_by_cookie e.options cookie) cookie) answers refl refl (tt, tt) tt (tt, tt) (tt, tt) allowed))

  -- What was sent in the one association goes on in the other.
  pub other_there : IsOpening came → (e : Endpoint) (mine : Pair) (held : Held) (echoed : List ℕ) (cookie : Cookie) (tie : ℕ) (transfer : Transfer) (answers : List Answer) → e.core ≡ cookie_echoed mine held echoed → e.queues.transfer ≡ Some transfer
      → outlasts e mine held cookie transfer ≡ true → EstablishAnswers e cookie (queues_if_kept true e cookie transfer) tie answers
      → GoesThere came e (establish_with_flush (flush_answered answers) e cookie (queues_if_kept true e cookie transfer) tie (connected ∷ []))
  other_there opening e mine held echoed cookie tie transfer answers same there lasts allowed =
      let queues : EndpointQueues = queues_if_kept true e cookie transfer in
      let after : Held = held_by_cookie e.options cookie in
      let window : ℕ = window_by_cookie e.options cookie in
      record {
        collision = record {
          opened = record {
            opening = opening;
            link = identity_of cookie.maker after;
            linked = flush_link (endpoint_established e cookie queues tie) (cookie_ack_emission after cookie) answers allowed;
            later = _;
            noted = refl;
          };
          connected = inr (inl refl);
          old = identity_of mine held;
          was = ap identity_of_core same;
          tag = sym (eqb-true mine.tag cookie.maker.tag (second_holds e.options.follow_rfc _ _ lasts));
          unasked = unasked_by e mine held echoed cookie transfer same lasts;
          transfer = transfer;
          there = there;
          kept = transfer_kept e.moment e.options cookie.addressee.first_tsn window transfer;
          kept_is = (e.moment, window, refl);
        };
        again = reset_again None;
        makes = flushed came cookie.addressee.tag (endpoint_established e cookie queues tie) (cookie_ack_emission after cookie) answers refl refl (tt, tt) tt (tt, tt) (tt, tt) allowed;
      }

  there_goes : (e : Endpoint) (o : Outcome) → GoesThere came e o → Goes came to e o
  there_goes e o there = collides there.collision (λ queued. refl) (λ read. refl) there.again there.makes

  by_goes : IsOpening came → (b : Bool) (e : Endpoint) (mine : Pair) (held : Held) (echoed : List ℕ) (cookie : Cookie) (tie : ℕ) (transfer : Transfer) (answers : List Answer) → e.core ≡ cookie_echoed mine held echoed → e.queues.transfer ≡ Some transfer
      → outlasts e mine held cookie transfer ≡ b → EstablishAnswers e cookie (queues_if_kept b e cookie transfer) tie answers
      → Goes came to e (establish_with_flush (flush_answered answers) e cookie (queues_if_kept b e cookie transfer) tie (connected ∷ []))
  by_goes opening true e mine held echoed cookie tie transfer answers same there is allowed =
      there_goes e _ (other_there opening e mine held echoed cookie tie transfer answers same there is allowed)
  by_goes opening false e mine held echoed cookie tie transfer answers same there is allowed = anew_goes opening e cookie tie (connected ∷ []) answers refl allowed

  by_transfer_goes : IsOpening came → (e : Endpoint) (mine : Pair) (held : Held) (echoed : List ℕ) (cookie : Cookie) (tie : ℕ) (transfer : Option Transfer) (answers : List Answer) → e.core ≡ cookie_echoed mine held echoed → e.queues.transfer ≡ transfer
      → EstablishAnswers e cookie (queues_for_other e mine held cookie transfer) tie answers
      → Goes came to e (establish_with_flush (flush_answered answers) e cookie (queues_for_other e mine held cookie transfer) tie (connected ∷ []))
  by_transfer_goes opening e mine held echoed cookie tie None answers same there allowed = anew_goes opening e cookie tie (connected ∷ []) answers refl allowed
  by_transfer_goes opening e mine held echoed cookie tie (Some transfer) answers same there allowed =
      by_goes opening (outlasts e mine held cookie transfer) e mine held echoed cookie tie transfer answers same there refl allowed

  collided_goes : IsOpening came → (e : Endpoint) (core : Core) (cookie : Cookie) (tie : ℕ) (answers : List Answer) → e.core ≡ core → EstablishAnswers e cookie (queues_collided e core cookie) tie answers
      → Goes came to e (collide_with_flush (flush_answered answers) e core cookie tie)
  collided_goes opening e closed cookie tie answers same allowed = anew_goes opening e cookie tie (connected ∷ []) answers refl allowed
  collided_goes opening e (cookie_wait my) cookie tie answers same allowed = anew_goes opening e cookie tie (connected ∷ []) answers refl allowed
  collided_goes opening e (cookie_echoed mine held echoed) cookie tie answers same allowed = by_transfer_goes opening e mine held echoed cookie tie e.queues.transfer answers same refl allowed
  collided_goes opening e (open_in phase my held) cookie tie answers same allowed = anew_goes opening e cookie tie (connected ∷ []) answers refl allowed

  restarted_goes : IsOpening came → (e : Endpoint) (cookie : Cookie) (tie : ℕ) (core : Core) (answers : List Answer) → RestartAnswers e cookie tie core answers
      → Goes came to e (restart_with_flush_by_core (flush_answered answers) e cookie tie core)
  restarted_goes opening e cookie tie closed answers allowed = anew_goes opening e cookie tie (connection_restarted ∷ connected ∷ []) answers refl allowed
  restarted_goes opening e cookie tie (cookie_wait my) answers allowed = anew_goes opening e cookie tie (connection_restarted ∷ connected ∷ []) answers refl allowed
  restarted_goes opening e cookie tie (cookie_echoed my held echoed) answers allowed = anew_goes opening e cookie tie (connection_restarted ∷ connected ∷ []) answers refl allowed
  restarted_goes opening e cookie tie (open_in established my held) answers allowed = anew_goes opening e cookie tie (connection_restarted ∷ connected ∷ []) answers refl allowed
  restarted_goes opening e cookie tie (open_in shutdown_pending my held) answers allowed = anew_goes opening e cookie tie (connection_restarted ∷ connected ∷ []) answers refl allowed
  restarted_goes opening e cookie tie (open_in shutdown_sent my held) answers allowed = anew_goes opening e cookie tie (connection_restarted ∷ connected ∷ []) answers refl allowed
  restarted_goes opening e cookie tie (open_in shutdown_received my held) answers allowed = anew_goes opening e cookie tie (connection_restarted ∷ connected ∷ []) answers refl allowed
  restarted_goes opening e cookie tie (open_in shutdown_ack_sent my held) answers allowed = goes_on calm refl (spoken came to (inside e) (shutting_down_emission held) (tt, (tt, tt)) (refl, tt) (inl (tt, (tt, tt))))

  maintained_goes : (e : Endpoint) (cookie : Cookie) (header : ℕ) (core : Core) (answers : List Answer) → e.core ≡ core → IsPeerTag e.core to → IsPeerTag core to → resolve core e.tie e.secret header cookie ≡ maintain_existing → MaintainAnswers e cookie core answers → Goes came to e (maintain_with_flush (flush_answered answers) e cookie core)
  maintained_goes e cookie header closed answers same at is resolved allowed = goes_on calm refl (rests came to (inside e))
  maintained_goes e cookie header (cookie_wait my) answers same at is resolved allowed = goes_on calm refl (rests came to (inside e))
  maintained_goes e cookie header (cookie_echoed my held echoed) answers same at is resolved allowed = goes_on calm (flush_link (connected_after e my held) (cookie_ack_emission held cookie) answers allowed ∙ sym (ap identity_of_core same))
      (from_own e (connected_after e my held) (flush_of (connected_after e my held) (cookie_ack_emission held cookie) answers) refl (ap (λ (c : Core). own_of_core c e.outstanding) same)
      (flushed came to (connected_after e my held) (cookie_ack_emission held cookie) answers is (eqb-true cookie.addressee.tag held.peer.tag (is_the_peer (header == my.tag) (cookie.addressee.tag == held.peer.tag) (cookie.tie == e.tie) (cookie.tie == e.secret) resolved) ∙ is) (tt, tt) tt (tt, tt) (tt, tt) allowed))
  maintained_goes e cookie header (open_in phase my held) answers same at is resolved allowed = goes_on calm (flush_link e (cookie_ack_emission held cookie) answers allowed) (flushed came to e (cookie_ack_emission held cookie) answers at (eqb-true cookie.addressee.tag held.peer.tag (is_the_peer (header == my.tag) (cookie.addressee.tag == held.peer.tag) (cookie.tie == e.tie) (cookie.tie == e.secret) resolved) ∙ is) (tt, tt) tt (tt, tt) (tt, tt) allowed)

  resolved_goes : IsOpening came → (e : Endpoint) (cookie : Cookie) (header : ℕ) (core : Core) (word : ℕ) (old : Bool) (resolution : Resolution) (answers : List Answer) → e.core ≡ core → IsPeerTag e.core to → IsPeerTag core to → aged_resolution old (resolve core e.tie e.secret header cookie) ≡ resolution → ResolvedAnswers e cookie core word resolution answers
      → Goes came to e (resolve_with_flush (flush_answered answers) e cookie core word resolution)
  resolved_goes opening e cookie header core word old establish_new answers same at is resolved allowed = kept_goes opening e cookie word answers allowed
  resolved_goes opening e cookie header core word old restart answers same at is resolved allowed = restarted_goes opening e cookie word core answers allowed
  resolved_goes opening e cookie header core word old simultaneous_init answers same at is resolved allowed = collided_goes opening e core cookie word answers same allowed
  resolved_goes opening e cookie header core word old discard answers same at is resolved allowed = goes_on calm refl (rests came to (inside e))
  resolved_goes opening e cookie header core word old maintain_existing answers same at is resolved allowed = maintained_goes e cookie header core answers same at is (kept_by_age old (resolve core e.tie e.secret header cookie) resolved) allowed
  resolved_goes opening e cookie header core word old invalid_tag answers same at is resolved allowed = goes_on calm refl (rests came to (inside e))
  resolved_goes opening e cookie header core word old stale answers same at is resolved allowed =
      by_stale_outcome (Goes came to e) e cookie (goes_on calm refl (spoken came to (inside e) (stale_emission cookie) (tt, tt) tt (inl (tt, tt)))) (goes_on calm refl (rests came to (inside e)))

  pub echo_goes : IsOpening came → (e : Endpoint) (core : Core) (header : ℕ) (found : Result Cookie (List ℕ)) (word : ℕ) (answers : List Answer) → e.core ≡ core → IsPeerTag e.core to → IsPeerTag core to → EchoedAnswers e core header found word answers
      → Goes came to e (cookie_echo_with_flush (flush_answered answers) e core header found word)
  echo_goes opening e core header (Err text) word answers same at is allowed = goes_on calm refl (rests came to (inside e))
  echo_goes opening e core header (Ok cookie) word answers same at is allowed = resolved_goes opening e cookie header core word (is_spent e core header cookie) (resolved_now e core header cookie) answers same at is refl allowed

  -- ---- ends, and T1

  pub abort_goes : (e : Endpoint) (causes : List Cause) (core : Core) → Goes came to e (abort_outcome e causes core)
  abort_goes e causes core =
      by_abort_outcome (Goes came to e) e causes core (ends refl (λ read. refl) tt (inside e) refl (rests came to (inside e)) refl)
      (goes_on calm refl (rests came to (inside e)))

  pub aborting_goes : (e : Endpoint) (core : Core) (reason : AbortReason) → Goes came to e (aborting_outcome e core reason)
  aborting_goes e closed reason = goes_on calm refl (rests came to (inside e))
  aborting_goes e (cookie_wait my) reason = ended came to e (quiet e [] []) (end_of reason) (end_silent came to reason) refl tt (rests came to (inside e))
  aborting_goes e (cookie_echoed my held cookie) reason = ended came to e (emits e [] (abort_to held reason)) (end_of reason) (end_silent came to reason) (emits_own e [] (abort_to held reason))
      (silent_if came to (fits e (abort_to held reason)) e [] (abort_to held reason) (tt, tt)) (emitted came to e [] (abort_to held reason) (tt, tt) tt (tt, tt))
  aborting_goes e (open_in phase my held) reason = ended came to e (emits e [] (abort_to held reason)) (end_of reason) (end_silent came to reason) (emits_own e [] (abort_to held reason))
      (silent_if came to (fits e (abort_to held reason)) e [] (abort_to held reason) (tt, tt)) (emitted came to e [] (abort_to held reason) (tt, tt) tt (tt, tt))

  pub again_goes : (e : Endpoint) (core : Core) (answers : List Answer) → IsPeerTag e.core to → IsPeerTag core to → AgainAnswers e core answers → MakesTo came to (inside e) (send_again_with_flush (flush_answered answers) e core)
  again_goes e closed answers at is allowed = rests came to (inside e)
  again_goes e (cookie_wait my) answers at is allowed = emitted came to e [] (init_emission e my) (tt, tt) tt (tt, tt)
  again_goes e (cookie_echoed my held cookie) answers at is allowed =
      subst (λ (t : ℕ). MakesTo came t (inside e) (send_again_with_flush (flush_answered answers) e (cookie_echoed my held cookie))) is
      (echoed_makes (fits e (echo_emission held.peer.tag cookie)) e [] held.peer.tag cookie answers (subst (λ (t : ℕ). IsPeerTag e.core t) (sym is) at) allowed)
  again_goes e (open_in phase my held) answers at is allowed = rests came to (inside e)

  pub again_link : (e : Endpoint) (core : Core) (answers : List Answer) → AgainAnswers e core answers → identity_of_core (send_again_with_flush (flush_answered answers) e core).after.core ≡ identity_of_core e.core
  again_link e closed answers allowed = refl
  again_link e (cookie_wait my) answers allowed = emits_link e [] (init_emission e my)
  again_link e (cookie_echoed my held cookie) answers allowed = echoed_link (fits e (echo_emission held.peer.tag cookie)) e [] held.peer.tag cookie answers allowed
  again_link e (open_in phase my held) answers allowed = refl

  pub gives_up_goes : (e : Endpoint) (core : Core) → Goes came to e (t1_gives_up_outcome e core)
  gives_up_goes e closed = goes_on calm refl (rests came to (inside e))
  gives_up_goes e (cookie_wait my) = ends refl (λ read. refl) tt (inside e) refl (rests came to (inside e)) refl
  gives_up_goes e (cookie_echoed my held cookie) = ends refl (λ read. refl) tt (inside e) refl (rests came to (inside e)) refl
  gives_up_goes e (open_in phase my held) = goes_on calm refl (rests came to (inside e))

  pub hand_over_goes : (e : Endpoint) (core : Core) → Goes came to e (hand_over_outcome e core)
  hand_over_goes e closed = goes_on calm refl (rests came to (inside e))
  hand_over_goes e (cookie_wait my) = goes_on calm refl (rests came to (inside e))
  hand_over_goes e (cookie_echoed my held cookie) = goes_on calm refl (rests came to (inside e))
  hand_over_goes e (open_in established my held) = ends refl (λ read. refl) tt (inside e) refl (rests came to (inside e)) refl
  hand_over_goes e (open_in shutdown_pending my held) = goes_on calm refl (rests came to (inside e))
  hand_over_goes e (open_in shutdown_sent my held) = goes_on calm refl (rests came to (inside e))
  hand_over_goes e (open_in shutdown_received my held) = goes_on calm refl (rests came to (inside e))
  hand_over_goes e (open_in shutdown_ack_sent my held) = goes_on calm refl (rests came to (inside e))
