-- What a flush is where nothing waits.
use Rattle.std.proofs.Common.{◌≡◌, ℕ, Bool, true, false, Option, None, Some, List, [], ◌∷◌, ◌++◌, refl, sym, subst, ap, ◌∙◌}
use Rattle.std.specs.Prelude.{ℤ, pos, negsuc, suc, zero, ◌==◌, if◌then◌else◌}
use Rattle.std.proofs.lemmas.List.{append-nil}
use Rattle.dcsctp_spec_lemmas.specs.types.declared.association.Pair.{Pair}
use Rattle.dcsctp_spec_lemmas.specs.types.declared.association.Held.{Held}
use Rattle.dcsctp_spec_lemmas.specs.types.declared.word.Word.{Word}
use Rattle.dcsctp_spec_lemmas.specs.types.declared.word.Word.TheVariants.{U64}
use Rattle.dcsctp_spec_lemmas.specs.spec.Cookie.{Cookie}
use Rattle.dcsctp_spec_lemmas.specs.spec.endpoint.Event.{Event, connected}
use Rattle.dcsctp_spec_lemmas.specs.spec.Packet.{Introduction, Content, cookie_ack, Emission}
use Rattle.dcsctp_spec_lemmas.specs.spec.queues.Transfer.{EndpointQueues}
use Rattle.dcsctp_spec_lemmas.specs.spec.queues.Transfer.{Transfer}
use Rattle.dcsctp_spec_lemmas.specs.spec.endpoint.Endpoint.{Endpoint, Core, closed, cookie_wait, cookie_echoed, open_in}
use Rattle.dcsctp_spec_lemmas.specs.spec.endpoint.Outcome.{Outcome, still, quiet, sends, behind, then_outcome, with_effects_first, fits}
use Rattle.dcsctp_spec_lemmas.specs.spec.association.Effect.{AssociationIdentity, identity_of, holds, connects}
use Rattle.dcsctp_spec_lemmas.specs.spec.association.HandshakeChanges.{held_by_init_ack}
use Rattle.dcsctp_spec_lemmas.specs.spec.association.CookieEchoChanges.{held_by_cookie}
use Rattle.dcsctp_spec_lemmas.specs.spec.endpoint.FlushOutcomes.{Answer, answer_contents, filled_draft, goes_out, asked_outcome, next_draft, flush_of, packets_allowed, nothing_waits, Ask, first_ask, later_ask, GivesUnlessIdle, IsAnswerOfQueues, IsFlushAnswer, AreFlushAnswers, at_limit, at_empty, after_packet, FlushAnswers, flush_answered, flush_outcome, allows_packet, AreQueuesIdle, IsIdle}
use Rattle.dcsctp_spec_lemmas.specs.spec.endpoint.HandshakeOutcomes.{echo_emission, awaits_cookie_ack, connected_after, EchoAnswers, InitAckAnswers, InitAckTurn, init_ack_with_flush, init_ack_outcome, CookieAckAnswers, CookieAckTurn, cookie_ack_with_flush, cookie_ack_outcome}
use Rattle.dcsctp_spec_lemmas.specs.spec.endpoint.CookieEchoOutcomes.{endpoint_established, EstablishAnswers, establish_with_flush, establish_outcome}

-- ---- where nothing waits

abbrev draft_of : Bool → ℕ → List Content → Emission
draft_of with_checksum tag contents = record { with_checksum = with_checksum; packet = record { tag = tag; contents = contents } }

-- nothing follows what the packet holds
asked_nothing : (e : Endpoint) (draft : Emission) → asked_outcome e draft (nothing_waits e) ≡ goes_out e [] draft.with_checksum draft.packet.tag draft.packet.contents
asked_nothing e draft = ap (goes_out e [] draft.with_checksum draft.packet.tag) (append-nil draft.packet.contents)

behind_quiet : (e : Endpoint) (words : List Word) (events : List (Event Emission)) → behind words events (quiet e [] []) ≡ quiet e words events
behind_quiet e words events =
    ap (λ (ws : List Word). quiet e ws (events ++ [])) (append-nil words) ∙ ap (quiet e words) (append-nil events)

-- an empty packet isn't sent
one_empty : (e : Endpoint) (draft : Emission) → draft.packet.contents ≡ [] → flush_of e draft (nothing_waits e ∷ []) ≡ still e
one_empty e draft none = ap (λ (o : Outcome). then_outcome o (still o.after)) (asked_nothing e draft ∙ ap (goes_out e [] draft.with_checksum draft.packet.tag) none)

idle_below : (ask : Ask) (e : Endpoint) (draft : Emission) (answer : Answer) (transfer : Option Transfer) → AreQueuesIdle e.queues.queue transfer → IsAnswerOfQueues ask e draft answer transfer → answer ≡ nothing_waits e
idle_below ask e draft answer None idle h = h
idle_below ask e draft answer (Some transfer) idle h = subst (λ (b : Bool). GivesUnlessIdle b ask e draft transfer answer) idle h

-- There is one answer.
answered_idle : (ask : Ask) (e : Endpoint) (draft : Emission) (answer : Answer) → IsIdle e → IsFlushAnswer ask e draft answer → answer ≡ nothing_waits e
answered_idle ask e draft answer idle h = idle_below ask e draft answer e.queues.transfer idle h.by_transfer

-- what the packet holds, with nothing after it
filled_with_nothing : (e : Endpoint) (draft : Emission) (answer : Answer) → answer ≡ nothing_waits e → (filled_draft draft (answer_contents answer)).packet.contents ≡ draft.packet.contents
filled_with_nothing e draft answer is = ap (λ (a : Answer). (filled_draft draft (answer_contents a)).packet.contents) is ∙ append-nil draft.packet.contents

-- a flush whose first packet is empty brings nothing
ends_still : (ask : Ask) (n : ℕ) (e : Endpoint) (draft : Emission) (answers : List Answer) → IsIdle e → draft.packet.contents ≡ [] → AreFlushAnswers ask n e draft answers → flush_of e draft answers ≡ still e
ends_still _ _ _ _ _ idle none (at_limit _ e draft) = refl
ends_still ask _ _ _ _ idle none (at_empty _ more e draft answer is empty) = ap (λ (a : Answer). flush_of e draft (a ∷ [])) (answered_idle ask e draft answer idle is) ∙ one_empty e draft none
ends_still ask _ _ _ _ idle none (after_packet _ more e draft answer answers is some rest) = absurd (some (filled_with_nothing e draft answer (answered_idle ask e draft answer idle is) ∙ none))

next_is_empty : (core : Core) (draft : Emission) → (next_draft core draft).packet.contents ≡ []
next_is_empty closed draft = refl
next_is_empty (cookie_wait my) draft = refl
next_is_empty (cookie_echoed my held cookie) draft = refl
next_is_empty (open_in phase my held) draft = refl

-- nothing waits once a packet has gone out
asked_idle : (e : Endpoint) (draft : Emission) (contents : List Content) → draft.packet.contents ≡ contents → IsIdle e → IsIdle (asked_outcome e draft (nothing_waits e)).after
asked_idle e draft [] is idle = subst (λ (o : Outcome). IsIdle o.after) (sym (asked_nothing e draft ∙ ap (goes_out e [] draft.with_checksum draft.packet.tag) is)) idle
asked_idle e draft (content ∷ contents) is idle = subst (λ (o : Outcome). IsIdle o.after) (sym (asked_nothing e draft ∙ ap (goes_out e [] draft.with_checksum draft.packet.tag) is)) idle

-- a packet that holds a chunk goes out alone
alone : (e : Endpoint) (draft : Emission) (content : Content) (contents : List Content) (answers : List Answer) (n : ℕ) → IsIdle e → draft.packet.contents ≡ content ∷ contents
    → AreFlushAnswers later_ask n (asked_outcome e draft (nothing_waits e)).after (next_draft e.core draft) answers
    → flush_of e draft (nothing_waits e ∷ answers) ≡ sends e [] [] draft
alone e draft content contents answers n idle some rest =
    ap (then_outcome (asked_outcome e draft (nothing_waits e))) (ends_still later_ask n _ (next_draft e.core draft) answers (asked_idle e draft (content ∷ contents) some idle) (next_is_empty e.core draft) rest)
    ∙ ap (λ (o : Outcome). then_outcome o (still o.after)) (asked_nothing e draft ∙ ap (goes_out e [] draft.with_checksum draft.packet.tag) some)
    ∙ ap (λ (cs : List Content). sends e [] [] (record draft { packet = record draft.packet { contents = cs } })) (sym some)

one_packet : (ask : Ask) (n : ℕ) (e : Endpoint) (draft : Emission) (content : Content) (contents : List Content) (answers : List Answer) → IsIdle e → draft.packet.contents ≡ content ∷ contents
    → AreFlushAnswers ask (suc n) e draft answers → flush_of e draft answers ≡ sends e [] [] draft
one_packet ask n e draft content contents _ idle some (at_empty _ _ _ _ answer is empty) =
    let none : content ∷ contents ≡ [] = sym some ∙ sym (filled_with_nothing e draft answer (answered_idle ask e draft answer idle is)) ∙ empty in absurd (cc)
one_packet ask n e draft content contents _ idle some (after_packet _ _ _ _ answer answers is not_empty rest) =
    let same : answer ≡ nothing_waits e = answered_idle ask e draft answer idle is in
    ap (λ (a : Answer). flush_of e draft (a ∷ answers)) same
    ∙ alone e draft content contents answers n idle some (subst (λ (a : Answer). AreFlushAnswers later_ask n (asked_outcome e draft a).after (next_draft e.core draft) answers) same rest)

none_allowed : (ask : Ask) (e : Endpoint) (draft : Emission) (answers : List Answer) → AreFlushAnswers ask zero e draft answers → flush_of e draft answers ≡ still e
none_allowed _ _ _ _ (at_limit _ e draft) = refl

-- by what `max_burst` and the association allow
by_burst : (ask : Ask) (z : ℤ) (core : Core) (e : Endpoint) (draft : Emission) (content : Content) (contents : List Content) (answers : List Answer) → IsIdle e → draft.packet.contents ≡ content ∷ contents
    → AreFlushAnswers ask (packets_allowed z core) e draft answers → flush_of e draft answers ≡ (if allows_packet z then sends e [] [] draft else still e)
by_burst ask (pos zero) core e draft content contents answers idle some h = none_allowed ask e draft answers h
by_burst ask (pos (suc n)) closed e draft content contents answers idle some h = one_packet ask n e draft content contents answers idle some h
by_burst ask (pos (suc n)) (cookie_wait my) e draft content contents answers idle some h = one_packet ask n e draft content contents answers idle some h
by_burst ask (pos (suc n)) (cookie_echoed my held cookie) e draft content contents answers idle some h = one_packet ask zero e draft content contents answers idle some h
by_burst ask (pos (suc n)) (open_in phase my held) e draft content contents answers idle some h = one_packet ask n e draft content contents answers idle some h
by_burst ask (negsuc n) core e draft content contents answers idle some h = none_allowed ask e draft answers h

behind_where : (b : Bool) (e : Endpoint) (words : List Word) (events : List (Event Emission)) (draft : Emission)
    → behind words events (if b then sends e [] [] draft else still e) ≡ (if b then sends e words events draft else quiet e words events)
behind_where true e words events draft = ap (λ (ws : List Word). sends e ws events draft) (append-nil words)
behind_where false e words events draft = behind_quiet e words events

-- Whatever answers it gets, it is what its first packet makes of it.
pub flush_is_now : (e : Endpoint) (words : List Word) (events : List (Event Emission)) (with_checksum : Bool) (tag : ℕ) (contents : List Content) (answers : List Answer) → IsIdle e
    → FlushAnswers e (draft_of with_checksum tag contents) answers → flush_answered answers e words events with_checksum tag contents ≡ flush_outcome e words events with_checksum tag contents
flush_is_now e words events with_checksum tag [] answers idle h =
    ap (behind words events) (ends_still first_ask (packets_allowed e.options.max_burst e.core) e (draft_of with_checksum tag []) answers idle refl h) ∙ behind_quiet e words events
flush_is_now e words events with_checksum tag (content ∷ contents) answers idle h =
    ap (behind words events) (by_burst first_ask e.options.max_burst e.core e (draft_of with_checksum tag (content ∷ contents)) content contents answers idle refl h)
    ∙ behind_where (allows_packet e.options.max_burst) e words events (draft_of with_checksum tag (content ∷ contents))

-- ---- INIT ACK

pub echo_now : (b : Bool) (e : Endpoint) (words : List Word) (tag : ℕ) (cookie : List ℕ) (answers : List Answer) → IsIdle e → EchoAnswers b e tag cookie answers
    → (if b then flush_answered answers e words [] true tag (echo_emission tag cookie).packet.contents else quiet e words [])
    ≡ (if b then flush_outcome e words [] true tag (echo_emission tag cookie).packet.contents else quiet e words [])
echo_now true e words tag cookie answers idle h = flush_is_now e words [] true tag (echo_emission tag cookie).packet.contents answers idle h
echo_now false e words tag cookie answers idle h = refl

pub init_ack_turn_now : (e : Endpoint) (theirs : Introduction) (cookie : List ℕ) (mine : Pair) (o : Outcome) → e.core ≡ cookie_wait mine
    → ((word : ℕ) → IsIdle (awaits_cookie_ack e mine theirs cookie word)) → InitAckTurn e theirs (Some cookie) o
    → (word : ℕ) × (o ≡ init_ack_outcome e theirs (Some cookie) (cookie_wait mine) word)
init_ack_turn_now e theirs cookie mine o is idle turn =
    let after : Endpoint = awaits_cookie_ack e mine theirs cookie turn.0 in
    let answers : InitAckAnswers e theirs (Some cookie) (cookie_wait mine) turn.0 turn.1 = subst (λ (core : Core). InitAckAnswers e theirs (Some cookie) core turn.0 turn.1) is turn.2 in (
      turn.0,
      turn.3
          ∙ ap (λ (core : Core). init_ack_with_flush (flush_answered turn.1) e theirs (Some cookie) core turn.0) is
          ∙ ap (with_effects_first (holds (identity_of mine (held_by_init_ack e.options mine theirs)) ∷ []))
          (echo_now (fits after (echo_emission theirs.pair.tag cookie)) after (U64 turn.0 ∷ []) theirs.pair.tag cookie turn.1 (idle turn.0) answers),
    )

-- ---- COOKIE ACK

pub cookie_ack_turn_now : (e : Endpoint) (mine : Pair) (held : Held) (cookie : List ℕ) (o : Outcome) → e.core ≡ cookie_echoed mine held cookie
    → IsIdle (connected_after e mine held) → CookieAckTurn e o → o ≡ cookie_ack_outcome e (cookie_echoed mine held cookie)
cookie_ack_turn_now e mine held cookie o is idle turn =
    let answers : CookieAckAnswers e (cookie_echoed mine held cookie) turn.0 = subst (λ (core : Core). CookieAckAnswers e core turn.0) is turn.1 in
    turn.2
    ∙ ap (cookie_ack_with_flush (flush_answered turn.0) e) is
    ∙ ap (with_effects_first (connects (identity_of mine held) ∷ [])) (flush_is_now (connected_after e mine held) [] (connected ∷ []) (held.capabilities.zero_checksum_method.0 == 0) held.peer.tag [] turn.0 idle answers)

-- ---- COOKIE ECHO

pub establish_now : (e : Endpoint) (cookie : Cookie) (queues : EndpointQueues) (tie : ℕ) (events : List (Event Emission)) (answers : List Answer) → IsIdle (endpoint_established e cookie queues tie)
    → EstablishAnswers e cookie queues tie answers → establish_with_flush (flush_answered answers) e cookie queues tie events ≡ establish_outcome e cookie queues tie events
establish_now e cookie queues tie events answers idle h =
    let link : AssociationIdentity = identity_of cookie.maker (held_by_cookie e.options cookie) in
    ap (with_effects_first (holds link ∷ connects link ∷ [])) (flush_is_now (endpoint_established e cookie queues tie) (U64 tie ∷ []) events _ cookie.addressee.tag (cookie_ack ∷ []) answers idle h)
