-- The COOKIE ECHO and the COOKIE ACK of a handshake, and how it ends.
use Rattle.std.specs.Prelude.{◌==◌, ◌<◌, ◌^◌, ◌&&◌, if◌then◌else◌}
use Rattle.std.proofs.Common.{◌≡◌, ◌≤◌, ℕ, Bool, true, false, cond, eqb, None, Some, List, [], ◌∷◌, ◌++◌, inl, Result, Ok, refl, sym, subst, ap, ◌∙◌, arith}
use Rattle.dcsctp_spec_lemmas.specs.types.declared.association.Pair.{Pair}
use Rattle.dcsctp_spec_lemmas.specs.types.declared.association.Held.{Held}
use Rattle.dcsctp_spec_lemmas.specs.types.declared.capabilities.Capabilities.{Capabilities}
use Rattle.dcsctp_spec_lemmas.specs.types.declared.options.Options.{Options}
use Rattle.dcsctp_spec_lemmas.specs.types.declared.word.Word.TheVariants.{U64}
use Rattle.dcsctp_spec_lemmas.specs.types.Settings.{ports_of}
use Rattle.dcsctp_spec_lemmas.specs.types.Offer.{offer_of, negotiated_capabilities}
use Rattle.dcsctp_spec_lemmas.specs.spec.Cookie.{Cookie, cookie_bytes, cookie_of_bytes}
use Rattle.dcsctp_spec_lemmas.specs.spec.endpoint.Event.{connected}
use Rattle.dcsctp_spec_lemmas.specs.spec.Packet.{init, init_ack, cookie_echo, cookie_ack, Packet, Emission, emission_bytes}
use Rattle.dcsctp_spec_lemmas.specs.spec.endpoint.Endpoint.{Endpoint, Core, closed, cookie_echoed, open_in, established, fresh_endpoint, own_tag, number_of_pair}
use Rattle.dcsctp_spec_lemmas.specs.spec.endpoint.Outcome.{Outcome, with_effects_first, quiet, sends, packet_counted}
use Rattle.dcsctp_spec_lemmas.specs.spec.endpoint.Turn.{act_input}
use Rattle.dcsctp_spec_lemmas.specs.spec.endpoint.HandshakeOutcomes.{pair_from, echo_emission, connected_after}
use Rattle.dcsctp_spec_lemmas.specs.spec.endpoint.CookieEchoOutcomes.{endpoint_established, interleaves, queue_if_kept, queues_with, queues_kept, EstablishAnswers, ResolvedAnswers, EchoedAnswers, resolve_with_flush, cookie_echo_with_flush, establish_outcome, window_by_cookie}
use Rattle.dcsctp_spec_lemmas.specs.spec.endpoint.FlushOutcomes.{FlushKind, flush_answered, IsIdle}
use Rattle.dcsctp_spec_lemmas.specs.spec.queues.SendQueue.{SendQueueState, queue_restarted}
use Rattle.dcsctp_spec_lemmas.specs.spec.queues.Transfer.{EndpointQueues}
use Rattle.dcsctp_spec_lemmas.specs.spec.association.CookieEchoChanges.{Resolution, held_by_cookie}
use Rattle.dcsctp_spec_lemmas.specs.spec.association.HandshakeChanges.{introduction_of, new_held, held_by_init_ack}
use Rattle.dcsctp_spec_lemmas.specs.spec.association.Acts.{connect}
use Rattle.dcsctp_spec_lemmas.specs.spec.association.Effect.{Effect, holds, connects, identity_of}
use Rattle.dcsctp_spec_lemmas.specs.spec.endpoint.CallTurns.{Transition, transition, Turns, HandleInput}
use Rattle.dcsctp_spec_lemmas.specs.spec.Admission.{all_chunks, admits, all_chunks_or_none, admission_by_answers, wrong_tag_text}
use Rattle.dcsctp_spec_lemmas.specs.spec.CookieFits.{FitsPair}
use Rattle.dcsctp_spec_runs.specs.Sockets.{endpoint_after, packets_shown, packet_at_number, DeliveryTurns}
use Rattle.dcsctp_spec_runs.proofs.FlushLemmas.{establish_now, cookie_ack_turn_now}
use Rattle.dcsctp_theorem_sockets.specs.Handshake.{IsConnected}
use Rattle.dcsctp_theorem_sockets.proofs.Bytes.{length_of_cookie, in_cookie}
use Rattle.dcsctp_theorem_sockets.proofs.HandshakeReads.{counted_at, delivered, IsTaken, Taken, taken}
use Rattle.dcsctp_theorem_sockets.proofs.HandshakeTurns.{HandshakeLaws, Good, same_tag, not_zero, method_checked, Begins, begins, connecting, taken_as, Answers, answers, answering, waiting, made_cookie, case_at_start, answer_to, awaiting, Echoes, echoes, echoing, sealed}
use Rattle.dcsctp_theorem_sockets.proofs.NumberedQueues.{numbered_without_streams, idle_once_numbered}
use Rattle.dcsctp_theorem_sockets.proofs.Sendable.{echo_sendable, ack_sendable}
use Rattle.dcsctp_theorem_sockets.proofs.TurnsFit.{drawn_fits}

-- ---- COOKIE ECHO

-- the socket that answered, once its INIT ACK went out, and once the COOKIE ECHO was counted
abbrev pub answered : Options → Pair → Endpoint
answered b q = record (packet_counted (sealed b q)) { has_answered = true }

abbrev pub echoed : Options → Pair → Endpoint
echoed b q = counted_at (answered b q)

abbrev pub acknowledgement : Options → Options → Pair → Pair → Emission
acknowledgement a b p q =
    record { with_checksum = (held_by_cookie b (made_cookie a b p q)).capabilities.zero_checksum_method.0 == 0; packet = record { tag = p.tag; contents = cookie_ack ∷ [] } }

abbrev pub established_effects : Options → Options → Pair → Pair → List Effect
established_effects a b p q =
    let held : Held = held_by_cookie b (made_cookie a b p q) in
    holds (identity_of q held) ∷ connects (identity_of q held) ∷ []

-- the send queue, in which nothing waits, and nothing is in flight
abbrev queues_there : Options → Options → Pair → Pair → EndpointQueues
queues_there a b p q =
    queues_with (echoed b q) (made_cookie a b p q)
    (record (echoed b q).queues.queue { is_interleaved = interleaves (echoed b q) (made_cookie a b p q); window = window_by_cookie b (made_cookie a b p q) })

abbrev pub establishing : Options → Options → Pair → Pair → ℕ → Outcome
establishing a b p q tie =
    with_effects_first (established_effects a b p q)
    (sends (endpoint_established (echoed b q) (made_cookie a b p q) (queues_there a b p q) tie) (U64 tie ∷ []) (connected ∷ []) (acknowledgement a b p q))

-- The socket is established, and answers COOKIE ACK.
pub record Establishes (a b : Options) (p q : Pair) (turns : List Transition) : Type 0 where
  pub tie : ℕ
  pub only : turns ≡ delivered (answered b q) q.tag (cookie_echo (cookie_bytes (made_cookie a b p q))) (establishing a b p q tie)

secret_fits : (follows : Bool) (q : Pair) → FitsPair q → (if follows && true then number_of_pair q else 0) < 2 ^ 64
secret_fits true q fits = omega (arith, fits.tag, fits.first_tsn)
secret_fits false q fits = omega arith

pub cookie_reads : HandshakeLaws → (a b : Options) (p q : Pair) → Good a → FitsPair p → FitsPair q → cookie_of_bytes (cookie_bytes (made_cookie a b p q)) ≡ Ok (made_cookie a b p q)
cookie_reads law a b p q good mine own =
    law.cookies (made_cookie a b p q)
    (record {
      names = record {
        maker = own;
        addressee = mine;
        offer = record { zero_checksum_method = good.fits.zero_checksum_method; inbound_streams = good.fits.inbound_streams; outbound_streams = good.fits.outbound_streams };
      };
      window = good.valid.receive_window;
      tie = secret_fits b.follow_rfc q own;
      moment = omega arith;
    })

-- It is this queue whether or not its numbers start again.
queue_there_where : (follows : Bool) (a b : Options) (p q : Pair) → queues_with (echoed b q) (made_cookie a b p q) (queue_if_kept follows (echoed b q) (made_cookie a b p q)) ≡ queues_there a b p q
queue_there_where true a b p q =
    ap (λ (queue : SendQueueState). queues_with (echoed b q) (made_cookie a b p q) queue)
    (numbered_without_streams (interleaves (echoed b q) (made_cookie a b p q)) (window_by_cookie b (made_cookie a b p q)) (queue_restarted (echoed b q).queues.queue) refl)
queue_there_where false a b p q =
    ap (λ (queue : SendQueueState). queues_with (echoed b q) (made_cookie a b p q) queue)
    (numbered_without_streams (interleaves (echoed b q) (made_cookie a b p q)) (window_by_cookie b (made_cookie a b p q)) (echoed b q).queues.queue refl)

queue_is : (a b : Options) (p q : Pair) → queues_kept (echoed b q) (made_cookie a b p q) ≡ queues_there a b p q
queue_is a b p q = queue_there_where b.follow_rfc a b p q

pub established_idle : (a b : Options) (p q : Pair) (tie : ℕ) → IsIdle (endpoint_established (echoed b q) (made_cookie a b p q) (queues_kept (echoed b q) (made_cookie a b p q)) tie)
established_idle a b p q tie = subst (λ (queues : EndpointQueues). IsIdle (endpoint_established (echoed b q) (made_cookie a b p q) queues tie)) (sym (queue_is a b p q)) refl

-- its COOKIE ACK is sent
pub established_sends : (a b : Options) (p q : Pair) (tie : ℕ) → Good b
    → establish_outcome (echoed b q) (made_cookie a b p q) (queues_kept (echoed b q) (made_cookie a b p q)) tie (connected ∷ []) ≡ establishing a b p q tie
established_sends a b p q tie good =
    let after : Endpoint = endpoint_established (echoed b q) (made_cookie a b p q) (queues_there a b p q) tie in
    ap (λ (queues : EndpointQueues). establish_outcome (echoed b q) (made_cookie a b p q) queues tie (connected ∷ [])) (queue_is a b p q)
    ∙ ap (λ (x : Bool). with_effects_first (established_effects a b p q) (cond x (sends after (U64 tie ∷ []) (connected ∷ []) (acknowledgement a b p q)) (quiet after (U64 tie ∷ []) (connected ∷ [])))) good.allow.burst

establishes_by : HandshakeLaws → (a b : Options) (p q : Pair) (turns : List Transition) → Good a → Good b → FitsPair p → FitsPair q
    → Taken (answered b q) q.tag (cookie_echo (cookie_bytes (made_cookie a b p q))) turns → Establishes a b p q turns
establishes_by law a b p q turns good_a good_b mine own h =
    let e : Endpoint = echoed b q in
    let cookie : Cookie = made_cookie a b p q in
    let bytes : List ℕ = cookie_bytes cookie in
    let word : ℕ = h.comes.0 in
    let flush : FlushKind = flush_answered h.comes.1 in
    let reads : cookie_of_bytes bytes ≡ Ok cookie = cookie_reads law a b p q good_a mine own in
    let allowed : EstablishAnswers e cookie (queues_kept e cookie) word h.comes.1 =
    subst (λ (case : Resolution). ResolvedAnswers e cookie closed word case h.comes.1) (case_at_start e a b p q refl refl refl refl own.tag_is_not_zero)
    (subst (λ (found : Result Cookie (List ℕ)). EchoedAnswers e closed q.tag found word h.comes.1) reads h.comes.2) in
    let is : h.outcome ≡ establish_outcome e cookie (queues_kept e cookie) word (connected ∷ []) =
    h.comes.3
    ∙ ap (λ (found : Result Cookie (List ℕ)). cookie_echo_with_flush flush e closed q.tag found word) reads
    ∙ ap (λ (case : Resolution). resolve_with_flush flush e cookie closed word case) (case_at_start e a b p q refl refl refl refl own.tag_is_not_zero)
    ∙ establish_now e cookie (queues_kept e cookie) word (connected ∷ []) h.comes.1 (established_idle a b p q word) allowed in
    record { tie = word; only = taken_as (answered b q) q.tag (cookie_echo bytes) turns h _ (is ∙ established_sends a b p q word good_b) refl (refl, refl) }

pub echo_is_taken : (a b : Options) (p q : Pair) → Good a → FitsPair q → a.remote_port ≡ b.local_port → IsTaken b a true q.tag (cookie_echo (cookie_bytes (made_cookie a b p q)))
echo_is_taken a b p q good own port =
    record {
      fits = good.fits;
      sendable = record { tag = own.tag; contents = (echo_sendable (cookie_bytes (made_cookie a b p q)) (record { len_fits = omega (arith, length_of_cookie (made_cookie a b p q)); cookie_in_bytes = in_cookie (made_cookie a b p q) }), tt) };
      minima = tt;
      to_this_port = sym port;
      checked = inl refl;
    }

pub establishes : HandshakeLaws → (a b : Options) (p q : Pair) (turns : List Transition) → Good a → Good b → FitsPair p → FitsPair q → a.remote_port ≡ b.local_port
    → HandleInput (answered b q) (emission_bytes (ports_of a) (echo_emission q.tag (cookie_bytes (made_cookie a b p q)))) turns → Establishes a b p q turns
establishes law a b p q turns good_a good_b mine own port input =
    establishes_by law a b p q turns good_a good_b mine own
    (taken law.wire (answered b q) a true q.tag (cookie_echo (cookie_bytes (made_cookie a b p q))) turns (echo_is_taken a b p q good_a own port) refl refl (λ e o rests. rests) input)

-- ---- COOKIE ACK

-- the socket that connects, once its COOKIE ECHO went out
abbrev pub awaited : Options → Options → Pair → Pair → ℕ → Endpoint
awaited a b p q tie = packet_counted (awaiting a b p q tie)

abbrev pub held_here : Options → Options → Pair → Pair → Held
held_here a b p q = held_by_init_ack a p (answer_to a b p q)

abbrev pub connecting_last : Options → Options → Pair → Pair → ℕ → Outcome
connecting_last a b p q tie =
    with_effects_first (connects (identity_of p (held_here a b p q)) ∷ []) (quiet (connected_after (counted_at (awaited a b p q tie)) p (held_here a b p q)) [] (connected ∷ []))

-- No shutdown waits, whatever the options say.
pub none_is_asked : (follows : Bool) → (follows && false) ≡ false
none_is_asked true = refl
none_is_asked false = refl

pub ack_admitted : (core : Core) (tag : ℕ) → own_tag core ≡ tag → 1 ≤ tag → admits core (record { tag = tag; contents = cookie_ack ∷ [] }) ≡ all_chunks
ack_admitted core tag own some =
    let packet : Packet = record { tag = tag; contents = cookie_ack ∷ [] } in
    ap (λ (zero_tag : Bool). admission_by_answers core packet None None false false zero_tag) (not_zero tag some)
    ∙ ap (λ (is_own : Bool). all_chunks_or_none is_own (wrong_tag_text tag (own_tag core))) (ap (eqb tag) own ∙ same_tag tag)

pub ack_is_taken : (a b : Options) (p q : Pair) → Good b → FitsPair p → b.remote_port ≡ a.local_port → IsTaken a b (acknowledgement a b p q).with_checksum p.tag cookie_ack
ack_is_taken a b p q good mine port =
    record {
      fits = good.fits;
      sendable = record { tag = mine.tag; contents = (ack_sendable, tt) };
      minima = tt;
      to_this_port = sym port;
      checked = method_checked b.zero_checksum_alternate_error_detection_method.0 a.zero_checksum_alternate_error_detection_method.0;
    }

-- nothing waits then
pub connected_idle : (a b : Options) (p q : Pair) (tie : ℕ) → IsIdle (connected_after (counted_at (awaited a b p q tie)) p (held_here a b p q))
connected_idle a b p q tie =
    idle_once_numbered (awaiting a b p q tie).queues.queue.is_interleaved (awaiting a b p q tie).queues.queue.window (queue_restarted (waiting a p).queues.queue) (awaiting a b p q tie).queues.transfer refl refl

pub connects_last : HandshakeLaws → (a b : Options) (p q : Pair) (tie : ℕ) (turns : List Transition) → Good b → FitsPair p → b.remote_port ≡ a.local_port
    → HandleInput (awaited a b p q tie) (emission_bytes (ports_of b) (acknowledgement a b p q)) turns
    → turns ≡ delivered (awaited a b p q tie) p.tag cookie_ack (connecting_last a b p q tie)
connects_last law a b p q tie turns good mine port input =
    let h : Taken (awaited a b p q tie) p.tag cookie_ack turns =
    taken law.wire (awaited a b p q tie) b (acknowledgement a b p q).with_checksum p.tag cookie_ack turns (ack_is_taken a b p q good mine port)
    (ack_admitted (cookie_echoed p (held_here a b p q) (cookie_bytes (made_cookie a b p q))) p.tag refl mine.tag_is_not_zero) (none_is_asked a.follow_rfc) (λ e o rests. rests) input in
    taken_as (awaited a b p q tie) p.tag cookie_ack turns h _
    (cookie_ack_turn_now (counted_at (awaited a b p q tie)) p (held_here a b p q) (cookie_bytes (made_cookie a b p q)) h.outcome refl (connected_idle a b p q tie) h.comes) refl (refl, refl)

-- ---- in turn

-- the turns of each call
abbrev pub begun_by : Options → ℕ → ℕ → List Transition
begun_by a word next = transition (act_input connect) (connecting a word next) ∷ []

abbrev pub answered_by : Options → Options → Pair → ℕ → ℕ → List Transition
answered_by a b p word next = delivered (fresh_endpoint b) 0 (init (introduction_of a p)) (answering a b p word next)

abbrev pub echoed_by : Options → Options → Pair → Pair → ℕ → List Transition
echoed_by a b p q tie = delivered (waiting a p) p.tag (init_ack (answer_to a b p q) (Some (cookie_bytes (made_cookie a b p q)))) (echoing a b p q tie)

abbrev pub acknowledged_by : Options → Options → Pair → Pair → ℕ → List Transition
acknowledged_by a b p q tie = delivered (answered b q) q.tag (cookie_echo (cookie_bytes (made_cookie a b p q))) (establishing a b p q tie)

abbrev pub connected_by : Options → Options → Pair → Pair → ℕ → List Transition
connected_by a b p q tie = delivered (awaited a b p q tie) p.tag cookie_ack (connecting_last a b p q tie)

-- The five calls end with both connected.
pub record Ended (a b : Options) (here there : List Transition) : Type 0 where
  pub p : Pair
  pub q : Pair
  pub mine : IsConnected a b here p q
  pub theirs : IsConnected b a there q p

same_capabilities : HandshakeLaws → (a b : Options) (p q : Pair)
    → open_in established p (held_here a b p q) ≡ open_in established p (new_held p q (negotiated_capabilities (offer_of a) (offer_of b)))
same_capabilities law a b p q = ap (λ (c : Capabilities). open_in established p (new_held p q c)) (law.answers (offer_of a) (offer_of b))

ended_so : HandshakeLaws → (a b : Options) (word next word' next' tie tie' : ℕ) →
    let p = pair_from word next in
    let q = pair_from word' next' in
    Ended a b (begun_by a word next ++ (echoed_by a b p q tie ++ connected_by a b p q tie))
    (answered_by a b p word' next' ++ acknowledged_by a b p q tie')
ended_so law a b word next word' next' tie tie' =
    record {
      p = pair_from word next;
      q = pair_from word' next';
      mine = record { core = same_capabilities law a b (pair_from word next) (pair_from word' next'); once = refl };
      theirs = record { core = refl; once = refl };
    }

-- ---- each call, where the calls before it are known

fifth : HandshakeLaws → (a b : Options) (word next word' next' tie tie' : ℕ) (o5 : List Transition) → Good b → b.remote_port ≡ a.local_port →
    let p = pair_from word next in
    let q = pair_from word' next' in
    let here = begun_by a word next ++ echoed_by a b p q tie in
    let there = answered_by a b p word' next' ++ acknowledged_by a b p q tie' in
    DeliveryTurns (endpoint_after a here) (packet_at_number 2 (packets_shown b there)) o5 → Ended a b (here ++ o5) there
fifth law a b word next word' next' tie tie' o5 good port input =
    let p : Pair = pair_from word next in
    let q : Pair = pair_from word' next' in
    let here : List Transition = begun_by a word next ++ echoed_by a b p q tie in
    let there : List Transition = answered_by a b p word' next' ++ acknowledged_by a b p q tie' in
    subst (λ (os : List Transition). Ended a b (here ++ os) there) (sym (connects_last law a b p q tie o5 good (drawn_fits word next) port input)) (ended_so law a b word next word' next' tie tie')

fourth : HandshakeLaws → (a b : Options) (word next word' next' tie : ℕ) (o4 o5 : List Transition) → Good a → Good b → a.remote_port ≡ b.local_port → b.remote_port ≡ a.local_port →
    let p = pair_from word next in
    let q = pair_from word' next' in
    let here = begun_by a word next ++ echoed_by a b p q tie in
    let there = answered_by a b p word' next' in
    DeliveryTurns (endpoint_after b there) (packet_at_number 2 (packets_shown a here)) o4 → DeliveryTurns (endpoint_after a here) (packet_at_number 2 (packets_shown b (there ++ o4))) o5
    → Ended a b (here ++ o5) (there ++ o4)
fourth law a b word next word' next' tie o4 o5 good_a good_b to_b to_a input last =
    let p : Pair = pair_from word next in
    let q : Pair = pair_from word' next' in
    let here : List Transition = begun_by a word next ++ echoed_by a b p q tie in
    let there : List Transition = answered_by a b p word' next' in
    let h : Establishes a b p q o4 = establishes law a b p q o4 good_a good_b (drawn_fits word next) (drawn_fits word' next') to_b input in
    subst (λ (os : List Transition). Ended a b (here ++ o5) (there ++ os)) (sym h.only)
    (fifth law a b word next word' next' tie h.tie o5 good_b to_a (subst (λ (os : List Transition). DeliveryTurns (endpoint_after a here) (packet_at_number 2 (packets_shown b (there ++ os))) o5) h.only last))

third : HandshakeLaws → (a b : Options) (word next word' next' : ℕ) (o3 o4 o5 : List Transition) → Good a → Good b → a.remote_port ≡ b.local_port → b.remote_port ≡ a.local_port →
    let p = pair_from word next in
    let here = begun_by a word next in
    let there = answered_by a b p word' next' in
    DeliveryTurns (endpoint_after a here) (packet_at_number 1 (packets_shown b there)) o3
    → DeliveryTurns (endpoint_after b there) (packet_at_number 2 (packets_shown a (here ++ o3))) o4
    → DeliveryTurns (endpoint_after a (here ++ o3)) (packet_at_number 2 (packets_shown b (there ++ o4))) o5
    → Ended a b ((here ++ o3) ++ o5) (there ++ o4)
third law a b word next word' next' o3 o4 o5 good_a good_b to_b to_a input later last =
    let p : Pair = pair_from word next in
    let q : Pair = pair_from word' next' in
    let here : List Transition = begun_by a word next in
    let there : List Transition = answered_by a b p word' next' in
    let h : Echoes a b p q o3 = echoes law a b p q o3 good_a good_b (drawn_fits word next) (drawn_fits word' next') to_a input in
    subst (λ (os : List Transition). Ended a b ((here ++ os) ++ o5) (there ++ o4)) (sym h.only)
    (fourth law a b word next word' next' h.tie o4 o5 good_a good_b to_b to_a
    (subst (λ (os : List Transition). DeliveryTurns (endpoint_after b there) (packet_at_number 2 (packets_shown a (here ++ os))) o4) h.only later)
    (subst (λ (os : List Transition). DeliveryTurns (endpoint_after a (here ++ os)) (packet_at_number 2 (packets_shown b (there ++ o4))) o5) h.only last))

second : HandshakeLaws → (a b : Options) (word next : ℕ) (o2 o3 o4 o5 : List Transition) → Good a → Good b → a.remote_port ≡ b.local_port → b.remote_port ≡ a.local_port →
    let here = begun_by a word next in
    DeliveryTurns (fresh_endpoint b) (packet_at_number 1 (packets_shown a here)) o2
    → DeliveryTurns (endpoint_after a here) (packet_at_number 1 (packets_shown b o2)) o3
    → DeliveryTurns (endpoint_after b o2) (packet_at_number 2 (packets_shown a (here ++ o3))) o4
    → DeliveryTurns (endpoint_after a (here ++ o3)) (packet_at_number 2 (packets_shown b (o2 ++ o4))) o5
    → Ended a b ((here ++ o3) ++ o5) (o2 ++ o4)
second law a b word next o2 o3 o4 o5 good_a good_b to_b to_a input answer later last =
    let p : Pair = pair_from word next in
    let here : List Transition = begun_by a word next in
    let h : Answers a b p o2 = answers law a b p o2 good_a good_b (drawn_fits word next) to_b input in
    subst (λ (os : List Transition). Ended a b ((here ++ o3) ++ o5) (os ++ o4)) (sym h.only)
    (third law a b word next h.word h.next o3 o4 o5 good_a good_b to_b to_a
    (subst (λ (os : List Transition). DeliveryTurns (endpoint_after a here) (packet_at_number 1 (packets_shown b os)) o3) h.only answer)
    (subst (λ (os : List Transition). DeliveryTurns (endpoint_after b os) (packet_at_number 2 (packets_shown a (here ++ o3))) o4) h.only later)
    (subst (λ (os : List Transition). DeliveryTurns (endpoint_after a (here ++ o3)) (packet_at_number 2 (packets_shown b (os ++ o4))) o5) h.only last))

pub in_turn : HandshakeLaws → (a b : Options) (o1 o2 o3 o4 o5 : List Transition) → Good a → Good b → a.remote_port ≡ b.local_port → b.remote_port ≡ a.local_port
    → Turns (fresh_endpoint a) (act_input connect ∷ []) o1
    → DeliveryTurns (fresh_endpoint b) (packet_at_number 1 (packets_shown a o1)) o2
    → DeliveryTurns (endpoint_after a o1) (packet_at_number 1 (packets_shown b o2)) o3
    → DeliveryTurns (endpoint_after b o2) (packet_at_number 2 (packets_shown a (o1 ++ o3))) o4
    → DeliveryTurns (endpoint_after a (o1 ++ o3)) (packet_at_number 2 (packets_shown b (o2 ++ o4))) o5
    → Ended a b ((o1 ++ o3) ++ o5) (o2 ++ o4)
in_turn law a b o1 o2 o3 o4 o5 good_a good_b to_b to_a first input answer later last =
    let h : Begins a o1 = begins a o1 good_a first in
    subst (λ (os : List Transition). Ended a b ((os ++ o3) ++ o5) (o2 ++ o4)) (sym h.only)
    (second law a b h.word h.next o2 o3 o4 o5 good_a good_b to_b to_a
    (subst (λ (os : List Transition). DeliveryTurns (fresh_endpoint b) (packet_at_number 1 (packets_shown a os)) o2) h.only input)
    (subst (λ (os : List Transition). DeliveryTurns (endpoint_after a os) (packet_at_number 1 (packets_shown b o2)) o3) h.only answer)
    (subst (λ (os : List Transition). DeliveryTurns (endpoint_after b o2) (packet_at_number 2 (packets_shown a (os ++ o3))) o4) h.only later)
    (subst (λ (os : List Transition). DeliveryTurns (endpoint_after a (os ++ o3)) (packet_at_number 2 (packets_shown b (o2 ++ o4))) o5) h.only last))
