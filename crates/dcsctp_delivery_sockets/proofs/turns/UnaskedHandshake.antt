-- The turns of the handshake: no request of the peer is accepted or performed.
use Rattle.std.proofs.Common.{◌≡◌, ◌⊎◌, ℕ, Bool, true, false, cond, Option, None, Some, Result, Ok, Err, List, [], ◌∷◌, refl, sym, ap, inl, inr}
use Rattle.dcsctp_spec_lemmas.specs.spec.Cookie.{Cookie}
use Rattle.dcsctp_spec_lemmas.specs.types.declared.association.Pair.{Pair}
use Rattle.dcsctp_spec_lemmas.specs.types.declared.word.Word.{Word}
use Rattle.dcsctp_spec_lemmas.specs.types.declared.word.Word.TheVariants.{U32, U64}
use Rattle.dcsctp_spec_lemmas.specs.spec.endpoint.Endpoint.{Endpoint, Core, closed, cookie_wait, cookie_echoed, open_in, established, shutdown_pending, shutdown_sent, shutdown_received, shutdown_ack_sent, with_secret, secret_with}
use Rattle.dcsctp_spec_lemmas.specs.spec.endpoint.Event.{Event, connected, connection_restarted, aborted}
use Rattle.dcsctp_spec_lemmas.specs.spec.endpoint.Outcome.{Outcome, quiet, emits, fits, drawing, to_peer}
use Rattle.dcsctp_spec_lemmas.specs.spec.Packet.{Introduction, Content, cookie_echo, shutdown_ack, Emission}
use Rattle.dcsctp_spec_lemmas.specs.spec.association.CookieEchoChanges.{held_by_cookie, Resolution, establish_new, restart, simultaneous_init, discard, maintain_existing, invalid_tag, stale}
use Rattle.dcsctp_spec_lemmas.specs.spec.association.Effect.{identity_of, identity_of_core}
use Rattle.dcsctp_spec_lemmas.specs.spec.association.HandshakeChanges.{held_by_init_ack}
use Rattle.dcsctp_spec_lemmas.specs.spec.queues.SendQueue.{SendQueueState, queue_restarted, numbered_for}
use Rattle.dcsctp_spec_lemmas.specs.spec.endpoint.CookieEchoOutcomes.{cookie_ack_emission, EstablishAnswers, establish_with_flush, endpoint_established, interleaves, queue_if_kept, queues_with, queues_begun, queues_if_kept, queues_for_other, queues_collided, outlasts, collide_with_flush, RestartAnswers, restart_with_flush_by_core, MaintainAnswers, maintain_with_flush, ResolvedAnswers, resolve_with_flush, EchoedAnswers, cookie_echo_with_flush, resolved_now, window_by_cookie}
use Rattle.dcsctp_spec_lemmas.specs.spec.endpoint.FlushOutcomes.{Answer, draft_to, flush_answered}
use Rattle.dcsctp_spec_lemmas.specs.spec.endpoint.HandshakeOutcomes.{pair_from, renewed_pair, init_ack_emission, init_outcome, init_emission, awaits_init_ack, connect_outcome, awaits_cookie_ack, echo_emission, EchoAnswers, InitAckAnswers, accept_init_ack_with_flush, init_ack_with_flush, connected_after, CookieAckAnswers, cookie_ack_with_flush, abort_emission, no_cookie_text}
use Rattle.dcsctp_spec_lemmas.specs.spec.endpoint.TimerOutcomes.{AgainAnswers, send_again_with_flush}
use Rattle.dcsctp_delivery_sockets.specs.turns.Actions.{BeginsAssociation, Collides, begun_transfer, IsOpening}
use Rattle.dcsctp_delivery_sockets.proofs.turns.Handshake.{second_holds, unasked_by, kept_or_anew}
use Rattle.dcsctp_spec_lemmas.proofs.RefusalLemmas.{by_stale_outcome}
use Rattle.std.proofs.lemmas.Bool.{eqb-true}
use Rattle.dcsctp_spec_lemmas.specs.types.declared.association.Held.{Held}
use Rattle.dcsctp_spec_lemmas.specs.spec.queues.Transfer.{Transfer, transfer_kept}
use Rattle.dcsctp_delivery_sockets.proofs.turns.Tags.{flush_link}
use Rattle.dcsctp_delivery_sockets.proofs.turns.Waiting.{stays_then, AsksNothing, rests, said, emitted, flushed, flushed_behind, ended}

-- No request of the peer is accepted or performed, and the association continues or ends; or another one begins.
pub data CalmTurns (came : Option Content) (e : Endpoint) (o : Outcome) : Type 0 where
  goes_on : AsksNothing e.queues.transfer e.renewable o → CalmTurns came e o
  begins : (begun : BeginsAssociation e o) → IsOpening came → identity_of_core o.after.core ≡ Some (identity_of begun.my begun.held) → AsksNothing (Some (begun_transfer e o begun)) e.renewable o → CalmTurns came e o
  collides : (collision : Collides came e o) → AsksNothing (Some collision.kept) e.renewable o → CalmTurns came e o

-- ---- the handshake

-- a pair is drawn before
drawn_asks : (e : Endpoint) (words : List Word) (pair : Pair) (emission : Emission) → AsksNothing e.queues.transfer e.renewable (drawing pair (emits e words emission))
drawn_asks e words pair emission = (let sent = emitted e words emission in record { none = sent.none; waits = sent.waits; renews = sent.renews })

pub init_asks : (e : Endpoint) (theirs : Introduction) (core : Core) (word next : ℕ) → AsksNothing e.queues.transfer e.renewable (init_outcome e theirs core word next)
init_asks e theirs closed word next = drawn_asks (with_secret e (pair_from word next)) (U32 word ∷ U32 next ∷ []) (pair_from word next) (init_ack_emission (with_secret e (pair_from word next)) theirs (pair_from word next) (secret_with e (pair_from word next)))
init_asks e theirs (cookie_wait my) word next = emitted e [] (init_ack_emission e theirs my e.secret)
init_asks e theirs (cookie_echoed my held cookie) word next = emitted e [] (init_ack_emission e theirs my e.secret)
init_asks e theirs (open_in established my held) word next = drawn_asks e (U32 word ∷ []) (renewed_pair e word) (init_ack_emission e theirs (renewed_pair e word) e.tie)
init_asks e theirs (open_in shutdown_pending my held) word next = drawn_asks e (U32 word ∷ []) (renewed_pair e word) (init_ack_emission e theirs (renewed_pair e word) e.tie)
init_asks e theirs (open_in shutdown_sent my held) word next = drawn_asks e (U32 word ∷ []) (renewed_pair e word) (init_ack_emission e theirs (renewed_pair e word) e.tie)
init_asks e theirs (open_in shutdown_received my held) word next = drawn_asks e (U32 word ∷ []) (renewed_pair e word) (init_ack_emission e theirs (renewed_pair e word) e.tie)
init_asks e theirs (open_in shutdown_ack_sent my held) word next = emitted e [] (to_peer held shutdown_ack)

pub connect_asks : (e : Endpoint) (core : Core) (word next : ℕ) → AsksNothing e.queues.transfer e.renewable (connect_outcome e core word next)
connect_asks e closed word next = drawn_asks (awaits_init_ack e (pair_from word next)) (U32 word ∷ U32 next ∷ []) (pair_from word next) (init_emission e (pair_from word next))
connect_asks e (cookie_wait my) word next = rests e
connect_asks e (cookie_echoed my held cookie) word next = rests e
connect_asks e (open_in phase my held) word next = rests e

echoed_asks : (b : Bool) (e : Endpoint) (words : List Word) (tag : ℕ) (cookie : List ℕ) (answers : List Answer) → EchoAnswers b e tag cookie answers
    → AsksNothing e.queues.transfer e.renewable (cond b (flush_answered answers e words [] true tag (cookie_echo cookie ∷ [])) (quiet e words []))
echoed_asks true e words tag cookie answers allowed = flushed_behind e words [] (echo_emission tag cookie) answers allowed
echoed_asks false e words tag cookie answers allowed = said e _ tt refl refl

echoed_link : (b : Bool) (e : Endpoint) (words : List Word) (tag : ℕ) (cookie : List ℕ) (answers : List Answer) → EchoAnswers b e tag cookie answers
    → identity_of_core (cond b (flush_answered answers e words [] true tag (cookie_echo cookie ∷ [])) (quiet e words [])).after.core ≡ identity_of_core e.core
echoed_link true e words tag cookie answers allowed = flush_link e (echo_emission tag cookie) answers allowed
echoed_link false e words tag cookie answers allowed = refl

pub again_asks : (e : Endpoint) (core : Core) (answers : List Answer) → AgainAnswers e core answers → AsksNothing e.queues.transfer e.renewable (send_again_with_flush (flush_answered answers) e core)
again_asks e closed answers allowed = rests e
again_asks e (cookie_wait my) answers allowed = emitted e [] (init_emission e my)
again_asks e (cookie_echoed my held cookie) answers allowed = echoed_asks (fits e (echo_emission held.peer.tag cookie)) e [] held.peer.tag cookie answers allowed
again_asks e (open_in phase my held) answers allowed = rests e

pub cookie_ack_asks : (e : Endpoint) (core : Core) (answers : List Answer) → CookieAckAnswers e core answers → AsksNothing e.queues.transfer e.renewable (cookie_ack_with_flush (flush_answered answers) e core)
cookie_ack_asks e closed answers allowed = rests e
cookie_ack_asks e (cookie_wait my) answers allowed = rests e
cookie_ack_asks e (cookie_echoed my held cookie) answers allowed = (let last = flushed (connected_after e my held) (draft_to held) answers allowed in record { none = last.none; waits = last.waits; renews = last.renews })
cookie_ack_asks e (open_in phase my held) answers allowed = rests e

module _ (came : Option Content) (opening : IsOpening came) (e : Endpoint) where
  accepted_calm : (my : Pair) (theirs : Introduction) (cookie : Option (List ℕ)) (word : ℕ) (answers : List Answer) → InitAckAnswers e theirs cookie (cookie_wait my) word answers
      → CalmTurns came e (accept_init_ack_with_flush (flush_answered answers) e my theirs cookie word)
  accepted_calm my theirs None word answers allowed =
      goes_on (ended e.queues.transfer e.renewable (emits e [] (abort_emission theirs.pair.tag)) (aborted _ no_cookie_text) (emitted e [] (abort_emission theirs.pair.tag)).none)
  accepted_calm my theirs (Some cookie) word answers allowed =
      let awaiting : Endpoint = awaits_cookie_ack e my theirs cookie word in
      let is_short : Bool = fits awaiting (echo_emission theirs.pair.tag cookie) in
      let last = echoed_asks is_short awaiting (U64 word ∷ []) theirs.pair.tag cookie answers allowed in
      begins (record {
        my = my;
        held = held_by_init_ack e.options my theirs;
        window = theirs.window;
        later = _;
        noted = refl;
        queue = numbered_for (held_by_init_ack e.options my theirs).capabilities.message_interleaving theirs.window (queue_restarted e.queues.queue);
        keeps = inr refl;
      }) opening (echoed_link is_short awaiting (U64 word ∷ []) theirs.pair.tag cookie answers allowed) (record { none = last.none; waits = last.waits; renews = last.renews })

  pub init_ack_calm : (theirs : Introduction) (cookie : Option (List ℕ)) (core : Core) (word : ℕ) (answers : List Answer) → InitAckAnswers e theirs cookie core word answers
      → CalmTurns came e (init_ack_with_flush (flush_answered answers) e theirs cookie core word)
  init_ack_calm theirs cookie closed word answers allowed = goes_on (rests e)
  init_ack_calm theirs cookie (cookie_wait my) word answers allowed = accepted_calm my theirs cookie word answers allowed
  init_ack_calm theirs cookie (cookie_echoed my held echoed) word answers allowed = goes_on (rests e)
  init_ack_calm theirs cookie (open_in phase my held) word answers allowed = goes_on (rests e)

  -- ---- COOKIE ECHO

  established_calm : (cookie : Cookie) (queue : SendQueueState) (tie : ℕ) (told : List (Event Emission)) (answers : List Answer)
      → ((queue ≡ numbered_for (interleaves e cookie) (window_by_cookie e.options cookie) e.queues.queue) × (e.options.follow_rfc ≡ false))
      ⊎ (queue ≡ numbered_for (interleaves e cookie) (window_by_cookie e.options cookie) (queue_restarted e.queues.queue)) → EstablishAnswers e cookie (queues_with e cookie queue) tie answers
      → CalmTurns came e (establish_with_flush (flush_answered answers) e cookie (queues_with e cookie queue) tie told)
  established_calm cookie queue tie told answers keeps allowed =
      let base : Endpoint = endpoint_established e cookie (queues_with e cookie queue) tie in
      let last = flushed base (cookie_ack_emission (held_by_cookie e.options cookie) cookie) answers allowed in
      begins (record {
        my = cookie.maker;
        held = held_by_cookie e.options cookie;
        window = window_by_cookie e.options cookie;
        later = _;
        noted = refl;
        queue = queue;
        keeps = keeps;
      }) opening (flush_link base (cookie_ack_emission (held_by_cookie e.options cookie) cookie) answers allowed) (record { none = last.none; waits = last.waits; renews = stays_then e.renewable base.renewable _ (inr refl) last.renews })

  anew_calm : (cookie : Cookie) (tie : ℕ) (told : List (Event Emission)) (answers : List Answer) → EstablishAnswers e cookie (queues_begun e cookie) tie answers
      → CalmTurns came e (establish_with_flush (flush_answered answers) e cookie (queues_begun e cookie) tie told)
  anew_calm cookie tie told answers allowed = established_calm cookie (numbered_for (interleaves e cookie) (window_by_cookie e.options cookie) (queue_restarted e.queues.queue)) tie told answers (inr refl) allowed

  -- What was sent in the one association goes on in the other.
  other_calm : (mine : Pair) (held : Held) (echoed : List ℕ) (cookie : Cookie) (tie : ℕ) (transfer : Transfer) (answers : List Answer) → e.core ≡ cookie_echoed mine held echoed → e.queues.transfer ≡ Some transfer → outlasts e mine held cookie transfer ≡ true
      → EstablishAnswers e cookie (queues_if_kept true e cookie transfer) tie answers → CalmTurns came e (establish_with_flush (flush_answered answers) e cookie (queues_if_kept true e cookie transfer) tie (connected ∷ []))
  other_calm mine held echoed cookie tie transfer answers same there lasts allowed =
      let base : Endpoint = endpoint_established e cookie (queues_if_kept true e cookie transfer) tie in
      let last = flushed base (cookie_ack_emission (held_by_cookie e.options cookie) cookie) answers allowed in
      collides (record {
        opened = record {
          opening = opening;
          link = identity_of cookie.maker (held_by_cookie e.options cookie);
          linked = flush_link base (cookie_ack_emission (held_by_cookie e.options cookie) cookie) answers allowed;
          later = _;
          noted = refl;
        };
        connected = inr (inl refl);
        old = identity_of mine held;
        was = ap identity_of_core same;
        tag = sym (eqb-true mine.tag cookie.maker.tag (second_holds e.options.follow_rfc _ _ lasts));
        unasked = unasked_by e mine held echoed cookie transfer same lasts;
        transfer = transfer;
        there = there;
        kept = transfer_kept e.moment e.options cookie.addressee.first_tsn (window_by_cookie e.options cookie) transfer;
        kept_is = (e.moment, window_by_cookie e.options cookie, refl);
      }) (record { none = last.none; waits = last.waits; renews = stays_then e.renewable base.renewable _ (inr refl) last.renews })

  by_calm : (b : Bool) (mine : Pair) (held : Held) (echoed : List ℕ) (cookie : Cookie) (tie : ℕ) (transfer : Transfer) (answers : List Answer) → e.core ≡ cookie_echoed mine held echoed → e.queues.transfer ≡ Some transfer → outlasts e mine held cookie transfer ≡ b
      → EstablishAnswers e cookie (queues_if_kept b e cookie transfer) tie answers → CalmTurns came e (establish_with_flush (flush_answered answers) e cookie (queues_if_kept b e cookie transfer) tie (connected ∷ []))
  by_calm true mine held echoed cookie tie transfer answers same there is allowed =
      other_calm mine held echoed cookie tie transfer answers same there is allowed
  by_calm false mine held echoed cookie tie transfer answers same there is allowed = anew_calm cookie tie (connected ∷ []) answers allowed

  by_transfer_calm : (mine : Pair) (held : Held) (echoed : List ℕ) (cookie : Cookie) (tie : ℕ) (transfer : Option Transfer) (answers : List Answer) → e.core ≡ cookie_echoed mine held echoed → e.queues.transfer ≡ transfer
      → EstablishAnswers e cookie (queues_for_other e mine held cookie transfer) tie answers → CalmTurns came e (establish_with_flush (flush_answered answers) e cookie (queues_for_other e mine held cookie transfer) tie (connected ∷ []))
  by_transfer_calm mine held echoed cookie tie None answers same there allowed = anew_calm cookie tie (connected ∷ []) answers allowed
  by_transfer_calm mine held echoed cookie tie (Some transfer) answers same there allowed =
      by_calm (outlasts e mine held cookie transfer) mine held echoed cookie tie transfer answers same there refl allowed

  collided_calm : (core : Core) (cookie : Cookie) (tie : ℕ) (answers : List Answer) → e.core ≡ core → EstablishAnswers e cookie (queues_collided e core cookie) tie answers
      → CalmTurns came e (collide_with_flush (flush_answered answers) e core cookie tie)
  collided_calm closed cookie tie answers same allowed = anew_calm cookie tie (connected ∷ []) answers allowed
  collided_calm (cookie_wait my) cookie tie answers same allowed = anew_calm cookie tie (connected ∷ []) answers allowed
  collided_calm (cookie_echoed mine held echoed) cookie tie answers same allowed = by_transfer_calm mine held echoed cookie tie e.queues.transfer answers same refl allowed
  collided_calm (open_in phase my held) cookie tie answers same allowed = anew_calm cookie tie (connected ∷ []) answers allowed

  restarted_calm : (cookie : Cookie) (tie : ℕ) (core : Core) (answers : List Answer) → RestartAnswers e cookie tie core answers → CalmTurns came e (restart_with_flush_by_core (flush_answered answers) e cookie tie core)
  restarted_calm cookie tie closed answers allowed = anew_calm cookie tie (connection_restarted ∷ connected ∷ []) answers allowed
  restarted_calm cookie tie (cookie_wait my) answers allowed = anew_calm cookie tie (connection_restarted ∷ connected ∷ []) answers allowed
  restarted_calm cookie tie (cookie_echoed my held echoed) answers allowed = anew_calm cookie tie (connection_restarted ∷ connected ∷ []) answers allowed
  restarted_calm cookie tie (open_in established my held) answers allowed = anew_calm cookie tie (connection_restarted ∷ connected ∷ []) answers allowed
  restarted_calm cookie tie (open_in shutdown_pending my held) answers allowed = anew_calm cookie tie (connection_restarted ∷ connected ∷ []) answers allowed
  restarted_calm cookie tie (open_in shutdown_sent my held) answers allowed = anew_calm cookie tie (connection_restarted ∷ connected ∷ []) answers allowed
  restarted_calm cookie tie (open_in shutdown_received my held) answers allowed = anew_calm cookie tie (connection_restarted ∷ connected ∷ []) answers allowed
  restarted_calm cookie tie (open_in shutdown_ack_sent my held) answers allowed = goes_on (said e _ tt refl refl)

  maintained_asks : (cookie : Cookie) (core : Core) (answers : List Answer) → MaintainAnswers e cookie core answers → AsksNothing e.queues.transfer e.renewable (maintain_with_flush (flush_answered answers) e cookie core)
  maintained_asks cookie closed answers allowed = rests e
  maintained_asks cookie (cookie_wait my) answers allowed = rests e
  maintained_asks cookie (cookie_echoed my held echoed) answers allowed =
      (let last = flushed (connected_after e my held) (cookie_ack_emission held cookie) answers allowed in record { none = last.none; waits = last.waits; renews = last.renews })
  maintained_asks cookie (open_in phase my held) answers allowed = flushed_behind e [] [] (cookie_ack_emission held cookie) answers allowed

  resolved_calm : (cookie : Cookie) (core : Core) (word : ℕ) (resolution : Resolution) (answers : List Answer) → e.core ≡ core → ResolvedAnswers e cookie core word resolution answers
      → CalmTurns came e (resolve_with_flush (flush_answered answers) e cookie core word resolution)
  resolved_calm cookie core word establish_new answers same allowed = established_calm cookie (queue_if_kept e.options.follow_rfc e cookie) word (connected ∷ []) answers (kept_or_anew e.options.follow_rfc e cookie) allowed
  resolved_calm cookie core word restart answers same allowed = restarted_calm cookie word core answers allowed
  resolved_calm cookie core word simultaneous_init answers same allowed = collided_calm core cookie word answers same allowed
  resolved_calm cookie core word discard answers same allowed = goes_on (said e _ tt refl refl)
  resolved_calm cookie core word maintain_existing answers same allowed = goes_on (maintained_asks cookie core answers allowed)
  resolved_calm cookie core word invalid_tag answers same allowed = goes_on (said e _ tt refl refl)
  resolved_calm cookie core word stale answers same allowed = by_stale_outcome (CalmTurns came e) e cookie (goes_on (said e _ tt refl refl)) (goes_on (said e _ tt refl refl))

  pub echo_calm : (core : Core) (header : ℕ) (found : Result Cookie (List ℕ)) (word : ℕ) (answers : List Answer) → e.core ≡ core → EchoedAnswers e core header found word answers
      → CalmTurns came e (cookie_echo_with_flush (flush_answered answers) e core header found word)
  echo_calm core header (Err text) word answers same allowed = goes_on (said e _ tt refl refl)
  echo_calm core header (Ok cookie) word answers same allowed = resolved_calm cookie core word (resolved_now e core header cookie) answers same allowed
