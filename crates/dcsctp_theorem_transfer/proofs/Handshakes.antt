-- The turns of the handshake, and ends, keep what the moves of a transfer layer keep.
use Rattle.std.proofs.Common.{ℕ, Bool, true, false, cond, Option, None, Some, Result, Ok, Err, List, [], ◌∷◌}
use Rattle.dcsctp_spec_lemmas.specs.types.declared.association.Held.{Held}
use Rattle.dcsctp_spec_lemmas.specs.types.declared.association.Pair.{Pair}
use Rattle.dcsctp_spec_lemmas.specs.types.declared.ends.AbortReason.{AbortReason}
use Rattle.dcsctp_spec_lemmas.specs.types.declared.options.Options.{Options}
use Rattle.dcsctp_spec_lemmas.specs.types.declared.word.Word.{Word}
use Rattle.dcsctp_spec_lemmas.specs.types.declared.word.Word.TheVariants.{U32, U64}
use Rattle.dcsctp_spec_lemmas.specs.spec.Cookie.{Cookie}
use Rattle.dcsctp_spec_lemmas.specs.spec.Packet.{Introduction, cookie_echo, shutdown_ack, Emission}
use Rattle.dcsctp_spec_lemmas.specs.spec.association.CookieEchoChanges.{held_by_cookie, Resolution, establish_new, restart, simultaneous_init, discard, maintain_existing, invalid_tag, stale}
use Rattle.dcsctp_spec_lemmas.specs.spec.association.HandshakeChanges.{held_by_init_ack}
use Rattle.dcsctp_spec_lemmas.specs.spec.endpoint.Cause.{Cause}
use Rattle.dcsctp_spec_lemmas.specs.spec.endpoint.CookieEchoOutcomes.{resolved_now, endpoint_established, cookie_ack_emission, EstablishAnswers, establish_with_flush, window_by_cookie, queues_kept, queues_begun, queues_collided, queues_if_kept, queues_for_other, outlasts, RestartAnswers, restart_with_flush_by_core, MaintainAnswers, maintain_with_flush, ResolvedAnswers, resolve_with_flush, EchoedAnswers, cookie_echo_with_flush}
use Rattle.dcsctp_spec_lemmas.specs.spec.endpoint.EndOutcomes.{abort_outcome, aborting_outcome}
use Rattle.dcsctp_spec_lemmas.specs.spec.endpoint.Endpoint.{Endpoint, Core, closed, cookie_wait, cookie_echoed, open_in, established, shutdown_pending, shutdown_sent, shutdown_received, shutdown_ack_sent, with_secret, secret_with}
use Rattle.dcsctp_spec_lemmas.specs.spec.endpoint.Event.{Event, connected, connection_restarted}
use Rattle.dcsctp_spec_lemmas.specs.spec.endpoint.FlushOutcomes.{Answer, draft_to, flush_answered}
use Rattle.dcsctp_spec_lemmas.specs.spec.endpoint.HandshakeOutcomes.{pair_from, renewed_pair, init_ack_emission, init_outcome, init_emission, awaits_init_ack, connect_outcome, awaits_cookie_ack, echo_emission, EchoAnswers, InitAckAnswers, accept_init_ack_with_flush, init_ack_with_flush, connected_after, CookieAckAnswers, cookie_ack_with_flush}
use Rattle.dcsctp_spec_lemmas.specs.spec.endpoint.Outcome.{quiet, sends, emits, fits, to_peer}
use Rattle.dcsctp_spec_lemmas.specs.spec.endpoint.TimerOutcomes.{AgainAnswers, send_again_with_flush, t1_gives_up_outcome}
use Rattle.dcsctp_spec_lemmas.specs.spec.queues.Transfer.{Transfer, EndpointQueues}
use Rattle.dcsctp_spec_lemmas.proofs.AbortLemmas.{by_abort_outcome}
use Rattle.dcsctp_spec_lemmas.proofs.RefusalLemmas.{by_stale_outcome}
use Rattle.dcsctp_theorem_transfer.proofs.Layers.{Keeps, LayerIs, EndpointIs, LeavesIt, MadeIs, made_is, layer_made, with_peer, flush_is}

module _ (Receives Delays Restores : Type 0) (Before Good : Options → Transfer → Type 0) (keeps : Keeps Receives Delays Restores Before Good) where
  -- ---- packets

  packet_is : (b : Bool) (e : Endpoint) (words : List Word) (events : List (Event Emission)) (emission : Emission) → EndpointIs Good e
      → LeavesIt Good (cond b (sends e words events emission) (quiet e words events))
  packet_is true e words events emission h = h
  packet_is false e words events emission h = h

  pub emits_is : (e : Endpoint) (words : List Word) (emission : Emission) → EndpointIs Good e → LeavesIt Good (emits e words emission)
  emits_is e words emission h = packet_is (fits e emission) e words [] emission h

  echoed_is : (b : Bool) (e : Endpoint) (words : List Word) (tag : ℕ) (cookie : List ℕ) (answers : List Answer) → EchoAnswers b e tag cookie answers → EndpointIs Good e
      → LeavesIt Good (cond b (flush_answered answers e words [] true tag (cookie_echo cookie ∷ [])) (quiet e words []))
  echoed_is true e words tag cookie answers allowed h = flush_is Receives Delays Restores Before Good keeps e (echo_emission tag cookie) answers allowed h
  echoed_is false e words tag cookie answers allowed h = h

  -- ---- the handshake

  pub init_is : (e : Endpoint) (theirs : Introduction) (core : Core) (word next : ℕ) → EndpointIs Good e → LeavesIt Good (init_outcome e theirs core word next)
  init_is e theirs closed word next h =
      emits_is (with_secret e (pair_from word next)) (U32 word ∷ U32 next ∷ [])
      (init_ack_emission (with_secret e (pair_from word next)) theirs (pair_from word next) (secret_with e (pair_from word next))) h
  init_is e theirs (cookie_wait my) word next h = emits_is e [] (init_ack_emission e theirs my e.secret) h
  init_is e theirs (cookie_echoed my held cookie) word next h = emits_is e [] (init_ack_emission e theirs my e.secret) h
  init_is e theirs (open_in established my held) word next h = emits_is e (U32 word ∷ []) (init_ack_emission e theirs (renewed_pair e word) e.tie) h
  init_is e theirs (open_in shutdown_pending my held) word next h = emits_is e (U32 word ∷ []) (init_ack_emission e theirs (renewed_pair e word) e.tie) h
  init_is e theirs (open_in shutdown_sent my held) word next h = emits_is e (U32 word ∷ []) (init_ack_emission e theirs (renewed_pair e word) e.tie) h
  init_is e theirs (open_in shutdown_received my held) word next h = emits_is e (U32 word ∷ []) (init_ack_emission e theirs (renewed_pair e word) e.tie) h
  init_is e theirs (open_in shutdown_ack_sent my held) word next h = emits_is e [] (to_peer held shutdown_ack) h

  pub connect_is : (e : Endpoint) (core : Core) (word next : ℕ) → LayerIs Good core e.options e.queues.transfer → EndpointIs Good e → LeavesIt Good (connect_outcome e core word next)
  connect_is e closed word next none h =
      emits_is (awaits_init_ack e (pair_from word next)) (U32 word ∷ U32 next ∷ []) (init_emission e (pair_from word next))
      (with_peer Good closed (cookie_wait (pair_from word next)) e.options e.queues.transfer (λ has. absurd has) none)
  connect_is e (cookie_wait my) word next same h = h
  connect_is e (cookie_echoed my held cookie) word next same h = h
  connect_is e (open_in phase my held) word next same h = h

  accepted_is : (e : Endpoint) (my : Pair) (theirs : Introduction) (cookie : Option (List ℕ)) (word : ℕ) (answers : List Answer)
      → InitAckAnswers e theirs cookie (cookie_wait my) word answers → LeavesIt Good (accept_init_ack_with_flush (flush_answered answers) e my theirs cookie word)
  accepted_is e my theirs None word answers allowed = tt
  accepted_is e my theirs (Some cookie) word answers allowed =
      let awaiting : Endpoint = awaits_cookie_ack e my theirs cookie word in
      echoed_is (fits awaiting (echo_emission theirs.pair.tag cookie)) awaiting (U64 word ∷ []) theirs.pair.tag cookie answers allowed
      (tt, keeps.begins e.options (held_by_init_ack e.options my theirs).capabilities my.first_tsn theirs.pair.first_tsn theirs.window)

  pub init_ack_is : (e : Endpoint) (theirs : Introduction) (cookie : Option (List ℕ)) (core : Core) (word : ℕ) (answers : List Answer)
      → InitAckAnswers e theirs cookie core word answers → EndpointIs Good e → LeavesIt Good (init_ack_with_flush (flush_answered answers) e theirs cookie core word)
  init_ack_is e theirs cookie closed word answers allowed h = h
  init_ack_is e theirs cookie (cookie_wait my) word answers allowed h = accepted_is e my theirs cookie word answers allowed
  init_ack_is e theirs cookie (cookie_echoed my held echoed) word answers allowed h = h
  init_ack_is e theirs cookie (open_in phase my held) word answers allowed h = h

  -- where a COOKIE ACK is awaited no longer
  opened : (e : Endpoint) (my : Pair) (held : Held) → EndpointIs Good e → EndpointIs Good (connected_after e my held)
  opened e my held h = with_peer Good e.core (open_in established my held) e.options e.queues.transfer (λ has. tt) h

  pub cookie_ack_is : (e : Endpoint) (core : Core) (answers : List Answer) → CookieAckAnswers e core answers → EndpointIs Good e
      → LeavesIt Good (cookie_ack_with_flush (flush_answered answers) e core)
  cookie_ack_is e closed answers allowed h = h
  cookie_ack_is e (cookie_wait my) answers allowed h = h
  cookie_ack_is e (cookie_echoed my held cookie) answers allowed h =
      flush_is Receives Delays Restores Before Good keeps (connected_after e my held) (draft_to held) answers allowed (opened e my held h)
  cookie_ack_is e (open_in phase my held) answers allowed h = h

  -- ---- COOKIE ECHO

  established_is : (e : Endpoint) (cookie : Cookie) (queues : EndpointQueues) (tie : ℕ) (events : List (Event Emission)) (answers : List Answer)
      → EstablishAnswers e cookie queues tie answers → MadeIs Good e.options queues.transfer → LeavesIt Good (establish_with_flush (flush_answered answers) e cookie queues tie events)
  established_is e cookie queues tie events answers allowed made =
      flush_is Receives Delays Restores Before Good keeps (endpoint_established e cookie queues tie) (cookie_ack_emission (held_by_cookie e.options cookie) cookie) answers allowed
      (made_is Good (open_in established cookie.maker (held_by_cookie e.options cookie)) e.options queues.transfer tt made)

  -- a new layer
  begun_is : (e : Endpoint) (cookie : Cookie) → MadeIs Good e.options (queues_begun e cookie).transfer
  begun_is e cookie = keeps.begins e.options (held_by_cookie e.options cookie).capabilities cookie.maker.first_tsn cookie.addressee.first_tsn (window_by_cookie e.options cookie)

  -- a restart that isn't refused
  renewed_is : (e : Endpoint) (cookie : Cookie) (tie : ℕ) (answers : List Answer) → EstablishAnswers e cookie (queues_begun e cookie) tie answers
      → LeavesIt Good (establish_with_flush (flush_answered answers) e cookie (queues_begun e cookie) tie (connection_restarted ∷ connected ∷ []))
  renewed_is e cookie tie answers allowed = established_is e cookie (queues_begun e cookie) tie (connection_restarted ∷ connected ∷ []) answers allowed (begun_is e cookie)

  restarted_is : (e : Endpoint) (cookie : Cookie) (tie : ℕ) (core : Core) (answers : List Answer) → RestartAnswers e cookie tie core answers → EndpointIs Good e
      → LeavesIt Good (restart_with_flush_by_core (flush_answered answers) e cookie tie core)
  restarted_is e cookie tie closed answers allowed h = renewed_is e cookie tie answers allowed
  restarted_is e cookie tie (cookie_wait my) answers allowed h = renewed_is e cookie tie answers allowed
  restarted_is e cookie tie (cookie_echoed my held echoed) answers allowed h = renewed_is e cookie tie answers allowed
  restarted_is e cookie tie (open_in established my held) answers allowed h = renewed_is e cookie tie answers allowed
  restarted_is e cookie tie (open_in shutdown_pending my held) answers allowed h = renewed_is e cookie tie answers allowed
  restarted_is e cookie tie (open_in shutdown_sent my held) answers allowed h = renewed_is e cookie tie answers allowed
  restarted_is e cookie tie (open_in shutdown_received my held) answers allowed h = renewed_is e cookie tie answers allowed
  restarted_is e cookie tie (open_in shutdown_ack_sent my held) answers allowed h = h

  maintained_is : (e : Endpoint) (cookie : Cookie) (core : Core) (answers : List Answer) → MaintainAnswers e cookie core answers → EndpointIs Good e
      → LeavesIt Good (maintain_with_flush (flush_answered answers) e cookie core)
  maintained_is e cookie closed answers allowed h = h
  maintained_is e cookie (cookie_wait my) answers allowed h = h
  maintained_is e cookie (cookie_echoed my held echoed) answers allowed h =
      flush_is Receives Delays Restores Before Good keeps (connected_after e my held) (cookie_ack_emission held cookie) answers allowed (opened e my held h)
  maintained_is e cookie (open_in phase my held) answers allowed h = flush_is Receives Delays Restores Before Good keeps e (cookie_ack_emission held cookie) answers allowed h

  -- what was sent to the one peer may go to the other
  kept_is : (b : Bool) (e : Endpoint) (cookie : Cookie) (t : Transfer) → Good e.options t → MadeIs Good e.options (queues_if_kept b e cookie t).transfer
  kept_is true e cookie t h = keeps.changes_peer e.options e.moment cookie.addressee.first_tsn (window_by_cookie e.options cookie) t h
  kept_is false e cookie t h = begun_is e cookie

  other_is : (e : Endpoint) (my : Pair) (held : Held) (cookie : Cookie) (t : Option Transfer) → MadeIs Good e.options t → MadeIs Good e.options (queues_for_other e my held cookie t).transfer
  other_is e my held cookie None h = begun_is e cookie
  other_is e my held cookie (Some t) h = kept_is (outlasts e my held cookie t) e cookie t h

  collided_is : (e : Endpoint) (core : Core) (cookie : Cookie) → EndpointIs Good e → MadeIs Good e.options (queues_collided e core cookie).transfer
  collided_is e closed cookie h = begun_is e cookie
  collided_is e (cookie_wait my) cookie h = begun_is e cookie
  collided_is e (cookie_echoed my held echoed) cookie h = other_is e my held cookie e.queues.transfer (layer_made Good e.core e.options e.queues.transfer h)
  collided_is e (open_in phase my held) cookie h = begun_is e cookie

  resolved_is : (e : Endpoint) (cookie : Cookie) (core : Core) (word : ℕ) (resolution : Resolution) (answers : List Answer)
      → ResolvedAnswers e cookie core word resolution answers → EndpointIs Good e → LeavesIt Good (resolve_with_flush (flush_answered answers) e cookie core word resolution)
  resolved_is e cookie core word establish_new answers allowed h = established_is e cookie (queues_kept e cookie) word (connected ∷ []) answers allowed (begun_is e cookie)
  resolved_is e cookie core word restart answers allowed h = restarted_is e cookie word core answers allowed h
  resolved_is e cookie core word simultaneous_init answers allowed h =
      established_is e cookie (queues_collided e core cookie) word (connected ∷ []) answers allowed (collided_is e core cookie h)
  resolved_is e cookie core word discard answers allowed h = h
  resolved_is e cookie core word maintain_existing answers allowed h = maintained_is e cookie core answers allowed h
  resolved_is e cookie core word invalid_tag answers allowed h = h
  resolved_is e cookie core word stale answers allowed h = by_stale_outcome (LeavesIt Good) e cookie h h

  pub echo_is : (e : Endpoint) (core : Core) (header : ℕ) (found : Result Cookie (List ℕ)) (word : ℕ) (answers : List Answer)
      → EchoedAnswers e core header found word answers → EndpointIs Good e → LeavesIt Good (cookie_echo_with_flush (flush_answered answers) e core header found word)
  echo_is e core header (Err text) word answers allowed h = h
  echo_is e core header (Ok cookie) word answers allowed h = resolved_is e cookie core word (resolved_now e core header cookie) answers allowed h

  -- ---- ends, and T1

  pub abort_is : (e : Endpoint) (causes : List Cause) (core : Core) → EndpointIs Good e → LeavesIt Good (abort_outcome e causes core)
  abort_is e causes core h = by_abort_outcome (LeavesIt Good) e causes core tt h

  pub aborting_is : (e : Endpoint) (core : Core) (reason : AbortReason) → EndpointIs Good e → LeavesIt Good (aborting_outcome e core reason)
  aborting_is e closed reason h = h
  aborting_is e (cookie_wait my) reason h = tt
  aborting_is e (cookie_echoed my held cookie) reason h = tt
  aborting_is e (open_in phase my held) reason h = tt

  pub again_is : (e : Endpoint) (core : Core) (answers : List Answer) → AgainAnswers e core answers → EndpointIs Good e
      → LeavesIt Good (send_again_with_flush (flush_answered answers) e core)
  again_is e closed answers allowed h = h
  again_is e (cookie_wait my) answers allowed h = emits_is e [] (init_emission e my) h
  again_is e (cookie_echoed my held cookie) answers allowed h = echoed_is (fits e (echo_emission held.peer.tag cookie)) e [] held.peer.tag cookie answers allowed h
  again_is e (open_in phase my held) answers allowed h = h

  pub gives_up_is : (e : Endpoint) (core : Core) → EndpointIs Good e → LeavesIt Good (t1_gives_up_outcome e core)
  gives_up_is e closed h = h
  gives_up_is e (cookie_wait my) h = tt
  gives_up_is e (cookie_echoed my held cookie) h = tt
  gives_up_is e (open_in phase my held) h = h
