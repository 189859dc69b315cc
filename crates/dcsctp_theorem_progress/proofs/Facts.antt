-- Facts on sockets in which nothing waits, and what each is after its part of a handshake.
use Rattle.std.specs.Prelude.{nat_le, ◌==◌, if◌then◌else◌}
use Rattle.std.proofs.Common.{◌≡◌, ◌≤◌, ◌<◌, ◌^◌, ◌&&◌, ◌||◌, ℕ, ◌-◌, suc, Bool, true, false, not, Option, None, Some, List, [], ◌∷◌, ◌++◌, length, refl, sym, subst, ap, ◌∙◌, arith}
use Rattle.std.proofs.lemmas.Bool.Decides.{nat_tests}
use Rattle.dcsctp_spec_lemmas.specs.types.declared.association.Pair.{Pair}
use Rattle.dcsctp_spec_lemmas.specs.types.declared.association.Held.{Held}
use Rattle.dcsctp_spec_lemmas.specs.types.declared.capabilities.Capabilities.{Capabilities}
use Rattle.dcsctp_spec_lemmas.specs.types.declared.options.Options.{Options}
use Rattle.dcsctp_spec_lemmas.specs.types.Offer.{offer_of, negotiated_capabilities}
use Rattle.dcsctp_spec_lemmas.specs.spec.Cookie.{Cookie, cookie_bytes, is_stale, cookie_moment}
use Rattle.dcsctp_spec_lemmas.specs.spec.Packet.{Introduction, init, init_ack, cookie_echo, cookie_ack}
use Rattle.dcsctp_spec_lemmas.specs.spec.queues.SendQueue.{empty_queue, queue_restarted}
use Rattle.dcsctp_spec_lemmas.specs.spec.queues.Transfer.{EndpointQueues, Transfer, empty_queues}
use Rattle.dcsctp_spec_lemmas.specs.spec.endpoint.Endpoint.{Endpoint, closed, open_in, established, number_of_pair, secret_with, with_secret}
use Rattle.dcsctp_spec_lemmas.specs.spec.endpoint.FlushOutcomes.{IsIdle}
use Rattle.dcsctp_spec_lemmas.specs.spec.endpoint.HandshakeOutcomes.{pair_from, cookie_for, awaits_cookie_ack}
use Rattle.dcsctp_spec_lemmas.specs.spec.endpoint.CookieEchoOutcomes.{endpoint_established, interleaves, queues_with, queue_if_kept, queues_kept, is_foreign, window_by_cookie}
use Rattle.dcsctp_spec_lemmas.specs.spec.association.HandshakeChanges.{introduction_of, held_by_init_ack, new_held}
use Rattle.dcsctp_spec_lemmas.specs.spec.endpoint.CallTurns.{Transition, after_all}
use Rattle.dcsctp_spec_lemmas.specs.spec.CookieFits.{FitsPair, FitsCookie}
use Rattle.dcsctp_spec_runs.specs.Laws.{AnswerKeepsAgreement}
use Rattle.dcsctp_spec_runs.specs.Sockets.{packet_at_number}
use Rattle.dcsctp_theorem_sockets.proofs.HandshakeReads.{counted_at, delivered}
use Rattle.dcsctp_theorem_sockets.proofs.Idle.{OwesNothing}
use Rattle.dcsctp_theorem_sockets.proofs.HandshakeTurns.{Good, answer_to}
use Rattle.dcsctp_theorem_sockets.proofs.NumberedQueues.{idle_once_numbered}
use Rattle.dcsctp_theorem_progress.proofs.Turns.{init_repeated, answering}
use Rattle.dcsctp_theorem_progress.proofs.Echoes.{echoing, establishing, connecting_last}

-- ---- premises

pub record Fit (a b : Options) : Type 0 where
  pub good_a : Good a
  pub good_b : Good b
  pub to_b : a.remote_port ≡ b.local_port
  pub to_a : b.remote_port ≡ a.local_port

-- ---- small facts

pub fits_drawn : (word next : ℕ) → FitsPair (pair_from word next)
fits_drawn word next = record { tag_is_not_zero = omega arith; tag = omega arith; first_tsn = omega arith }

-- A cookie that was made just now isn't stale, whatever its lifetime.
young_by : (lifetime n : ℕ) → not (nat_le (n - n) lifetime) ≡ false
young_by lifetime n = grind (arith, nat_tests)

pub is_young : (lifetime now : ℕ) (theirs : Introduction) (q : Pair) (tie : ℕ) → is_stale lifetime now (cookie_for now theirs q tie) ≡ false
is_young lifetime now theirs q tie = young_by lifetime (cookie_moment now)

pub fits_cookie : (a : Options) (now : ℕ) (p q : Pair) (tie : ℕ) → Good a → FitsPair p → FitsPair q → tie < 2 ^ 64 → FitsCookie (cookie_for now (introduction_of a p) q tie)
fits_cookie a now p q tie good mine own bears =
    record {
      names = record {
        maker = own;
        addressee = mine;
        offer = record { zero_checksum_method = good.fits.zero_checksum_method; inbound_streams = good.fits.inbound_streams; outbound_streams = good.fits.outbound_streams };
      };
      window = good.valid.receive_window;
      tie = bears;
      moment = omega arith;
    }

-- ---- the secret

secret_where : (draws : Bool) (secret : ℕ) (q : Pair) → FitsPair q → secret < 2 ^ 64 → (if draws then number_of_pair q else secret) < 2 ^ 64
secret_where true secret q pair fits = omega (arith, pair.tag, pair.first_tsn)
secret_where false secret q pair fits = fits

pub secret_fits : (e : Endpoint) (q : Pair) → FitsPair q → e.secret < 2 ^ 64 → secret_with e q < 2 ^ 64
secret_fits e q pair fits = secret_where (e.options.follow_rfc && e.secret == 0) e.secret q pair fits

own_drawn : (q : Pair) → 1 ≤ q.tag → (number_of_pair q == 0 || not (number_of_pair q == number_of_pair q)) ≡ false
own_drawn q some = grind (arith, nat_tests)

own_kept : (follows : Bool) (secret : ℕ) → (follows && secret == 0) ≡ false → (follows && (secret == 0 || not (secret == secret))) ≡ false
own_kept true secret has = grind (arith, nat_tests, has)
own_kept false secret has = refl

own_now : (draws : Bool) (secret : ℕ) (q : Pair) → 1 ≤ q.tag → (secret == 0) ≡ draws → let s = if draws then number_of_pair q else secret in (s == 0 || not (s == s)) ≡ false
own_now true secret q some is = own_drawn q some
own_now false secret q some is = own_kept true secret is

own_by : (follows : Bool) (secret : ℕ) (q : Pair) → 1 ≤ q.tag → let s = if follows && secret == 0 then number_of_pair q else secret in (follows && (s == 0 || not (s == s))) ≡ false
own_by true secret q some = own_now (secret == 0) secret q some refl
own_by false secret q some = refl

-- A cookie that bears the secret isn't forged.
pub own_after : (e : Endpoint) (q : Pair) → 1 ≤ q.tag → is_foreign (with_secret e q) closed (secret_with e q) ≡ false
own_after e q some = own_by e.options.follow_rfc e.secret q some

pub own_before : (e : Endpoint) → (e.options.follow_rfc && e.secret == 0) ≡ false → is_foreign e closed e.secret ≡ false
own_before e has = own_kept e.options.follow_rfc e.secret has

-- None of the three holds.
pub unspent : (over foreign old : Bool) → over ≡ false → foreign ≡ false → old ≡ false → (over || (foreign || old)) ≡ false
unspent over foreign old a b c = ap (λ (x : Bool). x || (foreign || old)) a ∙ ap (λ (x : Bool). x || old) b ∙ c

-- the next packet
pub last_of : (xs : List (List ℕ)) (x : List ℕ) → packet_at_number (suc (length xs)) (xs ++ x ∷ []) ≡ Some x
last_of [] x = refl
last_of (y ∷ xs) x = last_of xs x

-- the one after it
pub second_of : (xs : List (List ℕ)) (x y : List ℕ) → packet_at_number (suc (suc (length xs))) (xs ++ x ∷ y ∷ []) ≡ Some y
second_of [] x y = refl
second_of (z ∷ xs) x y = second_of xs x y

pub owes_none : (e : Endpoint) → e.queues ≡ empty_queues e.options → OwesNothing e.queues.transfer
owes_none e empty = subst (λ (queues : EndpointQueues). OwesNothing queues.transfer) (sym empty) tt

pub owes_unheld : (e : Endpoint) → e.queues.transfer ≡ None → OwesNothing e.queues.transfer
owes_unheld e none = subst (λ (t : Option Transfer). OwesNothing t) (sym none) tt

pub idle_waiting : (e : Endpoint) (p : Pair) (theirs : Introduction) (cookie : List ℕ) (word : ℕ) → e.queues ≡ empty_queues e.options → IsIdle (awaits_cookie_ack e p theirs cookie word)
idle_waiting e p theirs cookie word empty =
    subst (λ (queues : EndpointQueues). IsIdle (awaits_cookie_ack (record e { queues = queues }) p theirs cookie word)) (sym empty)
    (idle_once_numbered (e.options.enable_message_interleaving && theirs.offer.message_interleaving) theirs.window (queue_restarted (empty_queue e.options)) (awaits_cookie_ack e p theirs cookie word).queues.transfer refl refl)

queue_idle : (follows : Bool) (e : Endpoint) (cookie : Cookie) (word : ℕ) → IsIdle (endpoint_established e cookie (queues_with e cookie (queue_if_kept follows (record e { queues = empty_queues e.options }) cookie)) word)
queue_idle true e cookie word =
    idle_once_numbered (interleaves e cookie) (window_by_cookie e.options cookie) (queue_restarted (empty_queue e.options)) (queues_with e cookie (empty_queue e.options)).transfer refl refl
queue_idle false e cookie word =
    idle_once_numbered (interleaves e cookie) (window_by_cookie e.options cookie) (empty_queue e.options) (queues_with e cookie (empty_queue e.options)).transfer refl refl

pub idle_established : (e : Endpoint) (cookie : Cookie) (word : ℕ) → e.queues ≡ empty_queues e.options → IsIdle (endpoint_established e cookie (queues_kept e cookie) word)
idle_established e cookie word empty =
    subst (λ (queues : EndpointQueues). IsIdle (endpoint_established e cookie (queues_with e cookie (queue_if_kept e.options.follow_rfc (record e { queues = queues }) cookie)) word)) (sym empty)
    (queue_idle e.options.follow_rfc e cookie word)

-- ---- the endpoints in turn

-- once its INIT went out again
abbrev pub waiting : Endpoint → Pair → ℕ → Endpoint
waiting e p moment = after_all e (init_repeated e p moment)

abbrev pub answered_turns : Endpoint → Options → Pair → ℕ → ℕ → List Transition
answered_turns f a p word next = delivered f 0 (init (introduction_of a p)) (answering (counted_at f) (introduction_of a p) word next)

abbrev pub answered : Endpoint → Options → Pair → ℕ → ℕ → Endpoint
answered f a p word next = after_all f (answered_turns f a p word next)

abbrev pub cookie_of : Endpoint → Options → Pair → Pair → Cookie
cookie_of f a p q = cookie_for f.moment (introduction_of a p) q (secret_with f q)

abbrev pub echoed_turns : Endpoint → Options → Pair → Pair → Cookie → ℕ → List Transition
echoed_turns e b p q cookie tie =
    delivered e p.tag (init_ack (answer_to e.options b p q) (Some (cookie_bytes cookie))) (echoing (counted_at e) p (answer_to e.options b p q) cookie tie)

abbrev pub established_turns : Endpoint → Cookie → ℕ → List Transition
established_turns f cookie tie = delivered f cookie.maker.tag (cookie_echo (cookie_bytes cookie)) (establishing (counted_at f) cookie tie)

abbrev pub connected_turns : Endpoint → Pair → Held → List Transition
connected_turns e p held = delivered e p.tag cookie_ack (connecting_last (counted_at e) p held)

pub same_capabilities : AnswerKeepsAgreement → (a b : Options) (p q : Pair)
    → open_in established p (held_by_init_ack a p (answer_to a b p q)) ≡ open_in established p (new_held p q (negotiated_capabilities (offer_of a) (offer_of b)))
same_capabilities law a b p q = ap (λ (c : Capabilities). open_in established p (new_held p q c)) (law (offer_of a) (offer_of b))
