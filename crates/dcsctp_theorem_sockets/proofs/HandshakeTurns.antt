-- The five calls of a handshake between two fitting sockets, one after another. The one that
-- connects has the options a and the pair p, the other the options b and the pair q.
use Rattle.std.proofs.Common.{◌≡◌, ◌≢◌, ◌≤◌, ℕ, Bool, true, false, cond, not, eqb, None, Some, List, [], ◌∷◌, ◌⊎◌, inl, inr, refl, sym, subst, ap, ◌∙◌, arith, ◌&&◌, ◌||◌, Option}
use Rattle.std.specs.Prelude.{◌==◌, nat_le, if◌then◌else◌}
use Rattle.std.specs.Duration.{as_nanos}
use Rattle.std.proofs.lemmas.Bool.Decides.{nat_tests}
use Rattle.dcsctp_spec_lemmas.specs.types.declared.association.Pair.{Pair}
use Rattle.dcsctp_spec_lemmas.specs.types.declared.options.Options.{Options}
use Rattle.dcsctp_spec_lemmas.specs.types.declared.word.Word.{Word}
use Rattle.dcsctp_spec_lemmas.specs.types.declared.word.Word.TheVariants.{U32, U64}
use Rattle.dcsctp_spec_lemmas.specs.types.Settings.{IsValid, FitsOptions, ports_of}
use Rattle.dcsctp_spec_lemmas.specs.types.Offer.{offer_of, agreed_method}
use Rattle.dcsctp_spec_lemmas.specs.spec.Cookie.{Cookie, cookie_bytes, is_stale}
use Rattle.dcsctp_spec_lemmas.specs.spec.Packet.{Introduction, Content, init, init_ack, Packet, Emission, emission_bytes}
use Rattle.dcsctp_spec_lemmas.specs.spec.endpoint.Endpoint.{Endpoint, Core, closed, cookie_wait, fresh_endpoint, own_tag, may_answer, number_of_pair, with_secret, secret_with}
use Rattle.dcsctp_spec_lemmas.specs.spec.endpoint.Outcome.{Outcome, with_effects_first, quiet, sends, packet_counted, answering as counted, drawing}
use Rattle.dcsctp_spec_lemmas.specs.spec.endpoint.Turn.{act_input}
use Rattle.dcsctp_spec_lemmas.specs.spec.endpoint.FlushOutcomes.{allows_packet, IsIdle}
use Rattle.dcsctp_spec_lemmas.specs.spec.queues.SendQueue.{queue_restarted}
use Rattle.dcsctp_spec_lemmas.specs.spec.association.CookieEchoChanges.{Resolution, establish_new, aged_resolution, case_without_peer}
use Rattle.dcsctp_spec_lemmas.specs.spec.endpoint.CookieEchoOutcomes.{is_last_tag, resolved_now, is_foreign}
use Rattle.dcsctp_spec_lemmas.specs.spec.endpoint.HandshakeOutcomes.{pair_from, init_emission, awaits_init_ack, init_ack_emission, cookie_for, awaits_cookie_ack, echo_emission, init_outcome, init_answered, init_ack_outcome, connect_outcome}
use Rattle.dcsctp_spec_lemmas.specs.spec.association.HandshakeChanges.{introduction_of, answering_introduction, held_by_init_ack}
use Rattle.dcsctp_spec_lemmas.specs.spec.association.Acts.{connect}
use Rattle.dcsctp_spec_lemmas.specs.spec.endpoint.Following.{next_chunk}
use Rattle.dcsctp_spec_lemmas.specs.spec.association.Effect.{Effect, holds, identity_of}
use Rattle.dcsctp_spec_lemmas.specs.spec.endpoint.CallTurns.{Transition, transition, Turns, HandleInput}
use Rattle.dcsctp_spec_lemmas.specs.spec.Admission.{all_chunks, admits, all_chunks_or_none, admission_by_answers, wrong_tag_text}
use Rattle.dcsctp_spec_lemmas.specs.spec.CookieFits.{FitsPair, CookieReadsBack}
use Rattle.dcsctp_spec_runs.specs.Laws.{AnswerKeepsAgreement, OfferReadsBack}
use Rattle.dcsctp_spec_runs.proofs.FlushLemmas.{init_ack_turn_now}
use Rattle.dcsctp_theorem_sockets.specs.Handshake.{AllowHandshake}
use Rattle.dcsctp_theorem_sockets.proofs.HandshakeReads.{counted_at, delivered, turned_as, Wire, IsTaken, Taken, taken}
use Rattle.dcsctp_theorem_sockets.proofs.Idle.{OwesNothing}
use Rattle.dcsctp_theorem_sockets.proofs.NumberedQueues.{idle_once_numbered}
use Rattle.dcsctp_theorem_sockets.proofs.HandshakeSizes.{init_fits, init_ack_fits, echo_fits}
use Rattle.dcsctp_theorem_sockets.proofs.Sendable.{init_sendable, init_ack_sendable}

-- the laws below that the handshake rests on
pub record HandshakeLaws : Type 0 where
  pub wire : Wire
  pub offers : OfferReadsBack
  pub answers : AnswerKeepsAgreement
  pub cookies : CookieReadsBack

-- options with which the handshake goes through
pub record Good (options : Options) : Type 0 where
  pub valid : IsValid options
  pub fits : FitsOptions options
  pub allow : AllowHandshake options

-- ---- small facts

pub same_tag : (n : ℕ) → eqb n n ≡ true
same_tag n = grind (arith, nat_tests)

pub not_zero : (n : ℕ) → 1 ≤ n → eqb n 0 ≡ false
not_zero n some = grind (arith, nat_tests)

-- where a packet is written without a checksum, its reader has a method
no_method : (mine : ℕ) → eqb (cond (eqb mine 0) mine 0) 0 ≡ true
no_method mine = grind (arith, nat_tests)

checked_by : (mine theirs : ℕ) (zero_method : Bool) → eqb theirs 0 ≡ zero_method → (eqb (cond (eqb mine theirs) mine 0) 0 ≡ true) ⊎ (theirs ≢ 0)
checked_by mine theirs true is = inl (grind (arith, nat_tests))
checked_by mine theirs false is = inr (λ none. absurd (grind (arith, nat_tests)))

pub method_checked : (mine theirs : ℕ) → (eqb (cond (eqb mine theirs) mine 0) 0 ≡ true) ⊎ (theirs ≢ 0)
method_checked mine theirs = checked_by mine theirs (eqb theirs 0) refl

-- ---- connect

abbrev pub connecting : Options → ℕ → ℕ → Outcome
connecting a word next =
    drawing (pair_from word next)
    (sends (awaits_init_ack (fresh_endpoint a) (pair_from word next)) (U32 word ∷ U32 next ∷ []) [] (init_emission (fresh_endpoint a) (pair_from word next)))

-- The socket connects with a pair.
pub record Begins (a : Options) (turns : List Transition) : Type 0 where
  pub word : ℕ
  pub next : ℕ
  pub only : turns ≡ transition (act_input connect) (connecting a word next) ∷ []

pub connect_sends : (a : Options) (word next : ℕ) → 112 ≤ a.mtu → connect_outcome (fresh_endpoint a) closed word next ≡ connecting a word next
connect_sends a word next large =
    let e : Endpoint = awaits_init_ack (fresh_endpoint a) (pair_from word next) in
    let emission : Emission = init_emission (fresh_endpoint a) (pair_from word next) in
    let words : List Word = U32 word ∷ U32 next ∷ [] in
    ap (λ (b : Bool). drawing (pair_from word next) (cond b (sends e words [] emission) (quiet e words []))) (init_fits e (pair_from word next) large)

pub begins : (a : Options) (turns : List Transition) → Good a → Turns (fresh_endpoint a) (act_input connect ∷ []) turns → Begins a turns
begins a [] good turns = absurd turns
begins a (t ∷ []) good turns =
    record {
      word = turns.0.comes.0;
      next = turns.0.comes.1;
      only = ap (λ (x : Transition). x ∷ []) (turned_as t (act_input connect) _ turns.0.is (turns.0.comes.2 ∙ connect_sends a turns.0.comes.0 turns.0.comes.1 good.allow.mtu));
    }
begins a (t ∷ other ∷ ts) good turns = absurd turns.1

-- ---- INIT

-- the closed socket once the INIT was counted
abbrev pub asked : Options → Endpoint
asked b = counted_at (fresh_endpoint b)

-- the same with the secret, if this pair is the first that it draws
abbrev pub sealed : Options → Pair → Endpoint
sealed b q = with_secret (asked b) q

-- the secret
abbrev pub seal : Options → Pair → ℕ
seal b q = secret_with (asked b) q

abbrev pub answering : Options → Options → Pair → ℕ → ℕ → Outcome
answering a b p word next =
    let q : Pair = pair_from word next in
    counted (drawing q (sends (sealed b q) (U32 word ∷ U32 next ∷ []) [] (init_ack_emission (sealed b q) (introduction_of a p) q (seal b q))))

-- The socket answers the INIT of this pair with a pair of its own.
pub record Answers (a b : Options) (p : Pair) (turns : List Transition) : Type 0 where
  pub word : ℕ
  pub next : ℕ
  pub only : turns ≡ delivered (fresh_endpoint b) 0 (init (introduction_of a p)) (answering a b p word next)

-- The first INIT of a packet is answered.
answers_first : (follows : Bool) (e : Endpoint) (theirs : Introduction) (word next : ℕ) → init_answered (not (follows && false)) e theirs word next ≡ counted (init_outcome e theirs e.core word next)
answers_first true e theirs word next = refl
answers_first false e theirs word next = refl

pub answer_sends : (a b : Options) (p : Pair) (word next : ℕ) → 112 ≤ b.mtu
    → init_answered (may_answer (asked b)) (asked b) (introduction_of a p) word next ≡ answering a b p word next
answer_sends a b p word next large =
    let q : Pair = pair_from word next in
    let emission : Emission = init_ack_emission (sealed b q) (introduction_of a p) q (seal b q) in
    let words : List Word = U32 word ∷ U32 next ∷ [] in
    answers_first b.follow_rfc (asked b) (introduction_of a p) word next
    ∙ ap (λ (x : Bool). counted (drawing q (cond x (sends (sealed b q) words [] emission) (quiet (sealed b q) words [])))) (init_ack_fits (sealed b q) (introduction_of a p) q (seal b q) large)

-- where the chunk's outcome is known
pub taken_as : (e : Endpoint) (tag : ℕ) (content : Content) (turns : List Transition) (h : Taken e tag content turns) (o : Outcome) → h.outcome ≡ o → o.following ≡ next_chunk
    → OwesNothing o.after.queues.transfer → turns ≡ delivered e tag content o
taken_as e tag content turns h o is goes_on owes =
    h.only (ap (λ (x : Outcome). x.following) is ∙ goes_on) (subst (λ (x : Outcome). OwesNothing x.after.queues.transfer) (sym is) owes) ∙ ap (λ (x : Outcome). delivered e tag content x) is

answers_by : (a b : Options) (p : Pair) (turns : List Transition) → Good b → Taken (fresh_endpoint b) 0 (init (introduction_of a p)) turns → Answers a b p turns
answers_by a b p turns good h =
    record {
      word = h.comes.0;
      next = h.comes.1;
      only = taken_as (fresh_endpoint b) 0 (init (introduction_of a p)) turns h _ (h.comes.2 ∙ answer_sends a b p h.comes.0 h.comes.1 good.allow.mtu) refl tt;
    }

pub init_is_taken : HandshakeLaws → (a b : Options) (p : Pair) → Good a → FitsPair p → a.remote_port ≡ b.local_port → IsTaken b a true 0 (init (introduction_of a p))
init_is_taken law a b p good own port =
    record {
      fits = good.fits;
      sendable = record { tag = omega arith; contents = (init_sendable law.offers a p good.valid good.fits own, tt) };
      minima = record { tag_is_not_zero = own.tag_is_not_zero; window_is_large_enough = good.allow.window; sends_on_a_stream = good.allow.outbound_streams; receives_on_a_stream = good.allow.inbound_streams };
      to_this_port = sym port;
      checked = inl refl;
    }

pub answers : HandshakeLaws → (a b : Options) (p : Pair) (turns : List Transition) → Good a → Good b → FitsPair p → a.remote_port ≡ b.local_port
    → HandleInput (fresh_endpoint b) (emission_bytes (ports_of a) (init_emission (fresh_endpoint a) p)) turns → Answers a b p turns
answers law a b p turns good_a good_b own port input =
    answers_by a b p turns good_b (taken law.wire (fresh_endpoint b) a true 0 (init (introduction_of a p)) turns (init_is_taken law a b p good_a own port) refl refl (λ e o rests. rests) input)

-- ---- INIT ACK

-- the socket that connects, once its INIT went out, and once the INIT ACK was counted
abbrev pub waiting : Options → Pair → Endpoint
waiting a p = packet_counted (awaits_init_ack (fresh_endpoint a) p)

abbrev pub made_cookie : Options → Options → Pair → Pair → Cookie
made_cookie a b p q = cookie_for 0 (introduction_of a p) q (seal b q)

-- At the start of the clocks a cookie isn't stale, whatever its lifetime.
zero_age : (lifetime : ℕ) → not (nat_le 0 lifetime) ≡ false
zero_age lifetime = grind (arith, nat_tests)

and_never : (b : Bool) → (b && false) ≡ false
and_never true = refl
and_never false = refl

-- A cookie that bears the secret isn't forged.
own_where : (follows : Bool) (q : Pair) → 1 ≤ q.tag → let secret = if follows && true then number_of_pair q else 0 in
    (follows && (secret == 0 || not (secret == secret))) ≡ false
own_where true q some = grind (arith, nat_tests)
own_where false q some = refl

-- A socket that had no association yet makes one of it.
pub case_at_start : (e : Endpoint) (a b : Options) (p q : Pair) → e.moment ≡ 0 → e.last_tag ≡ None → e.options.follow_rfc ≡ b.follow_rfc → e.secret ≡ seal b q → 1 ≤ q.tag
    → resolved_now e closed q.tag (made_cookie a b p q) ≡ establish_new
case_at_start e a b p q at none follows bears some =
    let lifetime : ℕ = as_nanos e.options.cookie_lifetime in
    let cookie : Cookie = made_cookie a b p q in
    let old : Bool = is_stale lifetime e.moment cookie in
    let case : Resolution = case_without_peer (eqb q.tag q.tag) in
    ap (λ (last : Option ℕ). aged_resolution ((e.options.follow_rfc && is_last_tag last q.tag) || (is_foreign e closed cookie.tie || old)) case) none
    ∙ ap (λ (over : Bool). aged_resolution (over || (is_foreign e closed cookie.tie || old)) case) (and_never e.options.follow_rfc)
    ∙ ap (λ (secret : ℕ). aged_resolution ((e.options.follow_rfc && (secret == 0 || not (cookie.tie == secret))) || old) case) bears
    ∙ ap (λ (by_rfc : Bool). aged_resolution ((by_rfc && (seal b q == 0 || not (cookie.tie == seal b q))) || old) case) follows
    ∙ ap (λ (foreign : Bool). aged_resolution (foreign || old) case) (own_where b.follow_rfc q some)
    ∙ ap (λ (now : ℕ). aged_resolution (is_stale lifetime now cookie) case) at
    ∙ ap (λ (old : Bool). aged_resolution old case) (zero_age lifetime)
    ∙ ap case_without_peer (same_tag q.tag)

abbrev pub answer_to : Options → Options → Pair → Pair → Introduction
answer_to a b p q = answering_introduction b (introduction_of a p) q

abbrev pub awaiting : Options → Options → Pair → Pair → ℕ → Endpoint
awaiting a b p q tie = awaits_cookie_ack (counted_at (waiting a p)) p (answer_to a b p q) (cookie_bytes (made_cookie a b p q)) tie

abbrev pub echoing : Options → Options → Pair → Pair → ℕ → Outcome
echoing a b p q tie =
    with_effects_first (holds (identity_of p (held_by_init_ack a p (answer_to a b p q))) ∷ [])
    (sends (awaiting a b p q tie) (U64 tie ∷ []) [] (echo_emission q.tag (cookie_bytes (made_cookie a b p q))))

-- The socket echoes the cookie.
pub record Echoes (a b : Options) (p q : Pair) (turns : List Transition) : Type 0 where
  pub tie : ℕ
  pub only : turns ≡ delivered (waiting a p) p.tag (init_ack (answer_to a b p q) (Some (cookie_bytes (made_cookie a b p q)))) (echoing a b p q tie)

pub echo_sends : (a b : Options) (p q : Pair) (tie : ℕ) → Good a
    → init_ack_outcome (counted_at (waiting a p)) (answer_to a b p q) (Some (cookie_bytes (made_cookie a b p q))) (cookie_wait p) tie ≡ echoing a b p q tie
echo_sends a b p q tie good =
    let e : Endpoint = awaiting a b p q tie in
    let emission : Emission = echo_emission q.tag (cookie_bytes (made_cookie a b p q)) in
    let words : List Word = U64 tie ∷ [] in
    let holding : List Effect = holds (identity_of p (held_by_init_ack a p (answer_to a b p q))) ∷ [] in
    ap (λ (x : Bool). with_effects_first holding (cond x (cond (allows_packet a.max_burst) (sends e words [] emission) (quiet e words [])) (quiet e words []))) (echo_fits e q.tag (made_cookie a b p q) good.allow.mtu)
    ∙ ap (λ (x : Bool). with_effects_first holding (cond x (sends e words [] emission) (quiet e words []))) good.allow.burst

-- nothing waits then
pub awaiting_idle : (a b : Options) (p q : Pair) (tie : ℕ) → IsIdle (awaiting a b p q tie)
awaiting_idle a b p q tie =
    idle_once_numbered (awaiting a b p q tie).queues.queue.is_interleaved (awaiting a b p q tie).queues.queue.window (queue_restarted (waiting a p).queues.queue) (awaiting a b p q tie).queues.transfer refl refl

echoes_by : (a b : Options) (p q : Pair) (turns : List Transition) → Good a
    → Taken (waiting a p) p.tag (init_ack (answer_to a b p q) (Some (cookie_bytes (made_cookie a b p q)))) turns → Echoes a b p q turns
echoes_by a b p q turns good h =
    let e : Endpoint = counted_at (waiting a p) in
    let cookie : List ℕ = cookie_bytes (made_cookie a b p q) in
    let now : (word : ℕ) × (h.outcome ≡ init_ack_outcome e (answer_to a b p q) (Some cookie) (cookie_wait p) word) =
    init_ack_turn_now e (answer_to a b p q) cookie p h.outcome refl (λ word. awaiting_idle a b p q word) h.comes in
    record { tie = now.0; only = taken_as (waiting a p) p.tag (init_ack (answer_to a b p q) (Some cookie)) turns h _ (now.1 ∙ echo_sends a b p q now.0 good) refl (refl, refl) }

pub answer_is_taken : HandshakeLaws → (a b : Options) (p q : Pair) → Good b → FitsPair p → FitsPair q → b.remote_port ≡ a.local_port
    → IsTaken a b (eqb (agreed_method (offer_of b) (offer_of a)) 0) p.tag (init_ack (answer_to a b p q) (Some (cookie_bytes (made_cookie a b p q))))
answer_is_taken law a b p q good mine own port =
    record {
      fits = good.fits;
      sendable = record { tag = mine.tag; contents = (init_ack_sendable law.offers b (introduction_of a p) q (made_cookie a b p q) good.valid good.fits own, tt) };
      minima = record { tag_is_not_zero = own.tag_is_not_zero; window_is_large_enough = good.allow.window; sends_on_a_stream = good.allow.outbound_streams; receives_on_a_stream = good.allow.inbound_streams };
      to_this_port = sym port;
      checked = method_checked b.zero_checksum_alternate_error_detection_method.0 a.zero_checksum_alternate_error_detection_method.0;
    }

-- a packet under our own tag is admitted
pub ack_admitted : (core : Core) (theirs : Introduction) (cookie : List ℕ) (tag : ℕ) → own_tag core ≡ tag → 1 ≤ tag
    → admits core (record { tag = tag; contents = init_ack theirs (Some cookie) ∷ [] }) ≡ all_chunks
ack_admitted core theirs cookie tag own some =
    let packet : Packet = record { tag = tag; contents = init_ack theirs (Some cookie) ∷ [] } in
    ap (λ (zero_tag : Bool). admission_by_answers core packet None None false false zero_tag) (not_zero tag some)
    ∙ ap (λ (is_own : Bool). all_chunks_or_none is_own (wrong_tag_text tag (own_tag core))) (ap (eqb tag) own ∙ same_tag tag)

pub echoes : HandshakeLaws → (a b : Options) (p q : Pair) (turns : List Transition) → Good a → Good b → FitsPair p → FitsPair q → b.remote_port ≡ a.local_port
    → HandleInput (waiting a p) (emission_bytes (ports_of b) (init_ack_emission (sealed b q) (introduction_of a p) q (seal b q))) turns → Echoes a b p q turns
echoes law a b p q turns good_a good_b mine own port input =
    let content : Content = init_ack (answer_to a b p q) (Some (cookie_bytes (made_cookie a b p q))) in
    echoes_by a b p q turns good_a
    (taken law.wire (waiting a p) b (eqb (agreed_method (offer_of b) (offer_of a)) 0) p.tag content turns (answer_is_taken law a b p q good_b mine own port)
    (ack_admitted (cookie_wait p) (answer_to a b p q) (cookie_bytes (made_cookie a b p q)) p.tag refl mine.tag_is_not_zero) refl (λ e o rests. rests) input)
