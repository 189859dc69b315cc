-- The same where the other awaits an INIT ACK too, and its INIT was lost.
use Rattle.std.specs.Duration.{as_nanos}
use Rattle.std.proofs.Common.{◌≡◌, ℕ, suc, Option, Some, List, ◌++◌, length, refl, sym, subst}
use Rattle.dcsctp_spec_lemmas.specs.types.declared.association.Pair.{Pair}
use Rattle.dcsctp_spec_lemmas.specs.types.declared.association.Held.{Held}
use Rattle.dcsctp_spec_lemmas.specs.types.declared.options.Options.{Options}
use Rattle.dcsctp_spec_lemmas.specs.spec.Cookie.{Cookie, cookie_bytes, is_stale}
use Rattle.dcsctp_spec_lemmas.specs.spec.Packet.{init}
use Rattle.dcsctp_spec_lemmas.specs.spec.endpoint.Endpoint.{Endpoint, closed}
use Rattle.dcsctp_spec_lemmas.specs.spec.endpoint.HandshakeOutcomes.{cookie_for}
use Rattle.dcsctp_spec_lemmas.specs.spec.endpoint.CookieEchoOutcomes.{is_tag_over, is_foreign}
use Rattle.dcsctp_spec_lemmas.specs.spec.association.HandshakeChanges.{introduction_of, held_by_init_ack}
use Rattle.dcsctp_spec_lemmas.specs.spec.endpoint.CallTurns.{Transition, after_all}
use Rattle.dcsctp_spec_lemmas.specs.spec.endpoint.TimeTurns.{AdvanceTurns}
use Rattle.dcsctp_spec_runs.specs.Sockets.{packets_shown, packet_at_number, DeliveryTurns}
use Rattle.dcsctp_theorem_progress.specs.LostInits.{NothingWaits, AwaitsInitAck, AwaitsToo, Connect}
use Rattle.dcsctp_theorem_sockets.proofs.HandshakeReads.{counted_at, delivered}
use Rattle.dcsctp_theorem_sockets.proofs.HandshakeTurns.{HandshakeLaws, answer_to}
use Rattle.dcsctp_theorem_progress.proofs.Turns.{init_repeated, t1_sends_init, answers_own, answering_own, init_packet}
use Rattle.dcsctp_theorem_progress.proofs.Echoes.{answer_packet, Echoes, echoes, echo_packet, Establishes, establishes_waiting, acknowledgement_packet, connects_last}
use Rattle.dcsctp_theorem_progress.proofs.Facts.{Fit, is_young, fits_cookie, last_of, second_of, owes_none, idle_waiting, idle_established, waiting, echoed_turns, established_turns, connected_turns, same_capabilities, unspent, own_before}

-- The cookie in its answer bears its secret.
abbrev pub cookie_own : Endpoint → Options → Pair → Pair → Cookie
cookie_own f a p q = cookie_for f.moment (introduction_of a p) q f.secret

abbrev pub own_turns : Endpoint → Options → Pair → Pair → List Transition
own_turns f a p q = delivered f 0 (init (introduction_of a p)) (answering_own (counted_at f) (introduction_of a p) q)

abbrev pub own : Endpoint → Options → Pair → Pair → Endpoint
own f a p q = after_all f (own_turns f a p q)

fifth : HandshakeLaws → (e f : Endpoint) (p q : Pair) (moment tie tie' : ℕ) (shown_b : List (List ℕ)) (o5 : List Transition) → NothingWaits e f → AwaitsInitAck e p moment → AwaitsToo f q → Fit e.options f.options →
    let cookie = cookie_own f e.options p q in
    let o1 = init_repeated e p moment in
    let o2 = own_turns f e.options p q in
    let e1 = waiting e p moment in
    let f2 = own f e.options p q in
    let o3 = echoed_turns e1 f.options p q cookie tie in
    let o4 = established_turns f2 cookie tie' in
    DeliveryTurns (after_all e1 o3) (packet_at_number (suc (suc (length shown_b))) (shown_b ++ packets_shown f.options (o2 ++ o4))) o5
    → Connect e f p (o1 ++ (o3 ++ o5)) (o2 ++ o4)
fifth law e f p q moment tie tie' shown_b o5 nothing at rests fit input =
    let cookie : Cookie = cookie_own f e.options p q in
    let o1 : List Transition = init_repeated e p moment in
    let o2 : List Transition = own_turns f e.options p q in
    let e1 : Endpoint = waiting e p moment in
    let f2 : Endpoint = own f e.options p q in
    let o3 : List Transition = echoed_turns e1 f.options p q cookie tie in
    let o4 : List Transition = established_turns f2 cookie tie' in
    let e3 : Endpoint = after_all e1 o3 in
    let held : Held = held_by_init_ack e.options p (answer_to e.options f.options p q) in
    let here : DeliveryTurns e3 (Some (acknowledgement_packet f.options cookie)) o5 =
    subst (λ (found : Option (List ℕ)). DeliveryTurns e3 found o5) (second_of shown_b (answer_packet e.options f.options p q cookie) (acknowledgement_packet f.options cookie)) input in
    let is : o5 ≡ connected_turns e3 p held =
    connects_last law e3 f.options cookie p held (cookie_bytes cookie) o5 refl at.asks (idle_waiting e1 p (answer_to e.options f.options p q) (cookie_bytes cookie) tie nothing.here) (refl, refl) refl refl fit.good_b at.pair fit.to_a here in
    subst (λ (os : List Transition). Connect e f p (o1 ++ (o3 ++ os)) (o2 ++ o4)) (sym is)
    (record { q = q; linked = record { here = same_capabilities law.answers e.options f.options p q; there = refl }; once_here = refl; once_there = refl })

fourth : HandshakeLaws → (e f : Endpoint) (p q : Pair) (moment tie : ℕ) (shown_a shown_b : List (List ℕ)) (o4 o5 : List Transition) → NothingWaits e f → AwaitsInitAck e p moment → AwaitsToo f q → Fit e.options f.options →
    let cookie = cookie_own f e.options p q in
    let o1 = init_repeated e p moment in
    let o2 = own_turns f e.options p q in
    let e1 = waiting e p moment in
    let f2 = own f e.options p q in
    let o3 = echoed_turns e1 f.options p q cookie tie in
    DeliveryTurns f2 (packet_at_number (suc (suc (length shown_a))) (shown_a ++ packets_shown e.options (o1 ++ o3))) o4
    → DeliveryTurns (after_all e1 o3) (packet_at_number (suc (suc (length shown_b))) (shown_b ++ packets_shown f.options (o2 ++ o4))) o5
    → Connect e f p (o1 ++ (o3 ++ o5)) (o2 ++ o4)
fourth law e f p q moment tie shown_a shown_b o4 o5 nothing at rests fit input last =
    let cookie : Cookie = cookie_own f e.options p q in
    let o1 : List Transition = init_repeated e p moment in
    let o2 : List Transition = own_turns f e.options p q in
    let e1 : Endpoint = waiting e p moment in
    let f2 : Endpoint = own f e.options p q in
    let o3 : List Transition = echoed_turns e1 f.options p q cookie tie in
    let here : DeliveryTurns f2 (Some (echo_packet e.options cookie)) o4 =
    subst (λ (found : Option (List ℕ)). DeliveryTurns f2 found o4) (second_of shown_a (init_packet e.options p) (echo_packet e.options cookie)) input in
    let h : Establishes f2 cookie o4 =
    establishes_waiting law f2 q e.options cookie o4 rests.core
    (unspent (is_tag_over f closed q.tag) (is_foreign f closed f.secret) (is_stale (as_nanos f.options.cookie_lifetime) f.moment cookie) rests.anew (own_before f rests.has_secret)
    (is_young (as_nanos f.options.cookie_lifetime) f.moment (introduction_of e.options p) q f.secret))
    (fits_cookie e.options f.moment p q f.secret fit.good_a at.pair rests.pair rests.secret) (λ w. idle_established (counted_at f2) cookie w nothing.there) fit.good_a fit.good_b fit.to_b here in
    subst (λ (os : List Transition). Connect e f p (o1 ++ (o3 ++ o5)) (o2 ++ os)) (sym h.only)
    (fifth law e f p q moment tie h.tie shown_b o5 nothing at rests fit
    (subst (λ (os : List Transition). DeliveryTurns (after_all e1 o3) (packet_at_number (suc (suc (length shown_b))) (shown_b ++ packets_shown f.options (o2 ++ os))) o5) h.only last))

third : HandshakeLaws → (e f : Endpoint) (p q : Pair) (moment : ℕ) (shown_a shown_b : List (List ℕ)) (o3 o4 o5 : List Transition) → NothingWaits e f → AwaitsInitAck e p moment → AwaitsToo f q → Fit e.options f.options →
    let o1 = init_repeated e p moment in
    let o2 = own_turns f e.options p q in
    let e1 = waiting e p moment in
    let f2 = own f e.options p q in
    DeliveryTurns e1 (packet_at_number (suc (length shown_b)) (shown_b ++ packets_shown f.options o2)) o3
    → DeliveryTurns f2 (packet_at_number (suc (suc (length shown_a))) (shown_a ++ packets_shown e.options (o1 ++ o3))) o4
    → DeliveryTurns (after_all e1 o3) (packet_at_number (suc (suc (length shown_b))) (shown_b ++ packets_shown f.options (o2 ++ o4))) o5
    → Connect e f p (o1 ++ (o3 ++ o5)) (o2 ++ o4)
third law e f p q moment shown_a shown_b o3 o4 o5 nothing at rests fit input later last =
    let cookie : Cookie = cookie_own f e.options p q in
    let o1 : List Transition = init_repeated e p moment in
    let o2 : List Transition = own_turns f e.options p q in
    let e1 : Endpoint = waiting e p moment in
    let f2 : Endpoint = own f e.options p q in
    let here : DeliveryTurns e1 (Some (answer_packet e.options f.options p q cookie)) o3 =
    subst (λ (found : Option (List ℕ)). DeliveryTurns e1 found o3) (last_of shown_b (answer_packet e.options f.options p q cookie)) input in
    let h : Echoes e1 p (answer_to e.options f.options p q) cookie o3 =
    echoes law e1 f.options p q cookie o3 at.core (λ w. idle_waiting (counted_at e1) p (answer_to e.options f.options p q) (cookie_bytes cookie) w nothing.here)
    fit.good_a fit.good_b at.pair rests.pair fit.to_a here in
    subst (λ (os : List Transition). Connect e f p (o1 ++ (os ++ o5)) (o2 ++ o4)) (sym h.only)
    (fourth law e f p q moment h.tie shown_a shown_b o4 o5 nothing at rests fit
    (subst (λ (os : List Transition). DeliveryTurns f2 (packet_at_number (suc (suc (length shown_a))) (shown_a ++ packets_shown e.options (o1 ++ os))) o4) h.only later)
    (subst (λ (os : List Transition). DeliveryTurns (after_all e1 os) (packet_at_number (suc (suc (length shown_b))) (shown_b ++ packets_shown f.options (o2 ++ o4))) o5) h.only last))

second : HandshakeLaws → (e f : Endpoint) (p q : Pair) (moment : ℕ) (shown_a shown_b : List (List ℕ)) (o2 o3 o4 o5 : List Transition) → NothingWaits e f → AwaitsInitAck e p moment → AwaitsToo f q → Fit e.options f.options →
    let o1 = init_repeated e p moment in
    let e1 = waiting e p moment in
    DeliveryTurns f (packet_at_number (suc (length shown_a)) (shown_a ++ packets_shown e.options o1)) o2
    → DeliveryTurns e1 (packet_at_number (suc (length shown_b)) (shown_b ++ packets_shown f.options o2)) o3
    → DeliveryTurns (after_all f o2) (packet_at_number (suc (suc (length shown_a))) (shown_a ++ packets_shown e.options (o1 ++ o3))) o4
    → DeliveryTurns (after_all e1 o3) (packet_at_number (suc (suc (length shown_b))) (shown_b ++ packets_shown f.options (o2 ++ o4))) o5
    → Connect e f p (o1 ++ (o3 ++ o5)) (o2 ++ o4)
second law e f p q moment shown_a shown_b o2 o3 o4 o5 nothing at rests fit input answer later last =
    let o1 : List Transition = init_repeated e p moment in
    let e1 : Endpoint = waiting e p moment in
    let here : DeliveryTurns f (Some (init_packet e.options p)) o2 =
    subst (λ (found : Option (List ℕ)). DeliveryTurns f found o2) (last_of shown_a (init_packet e.options p)) input in
    let h : o2 ≡ own_turns f e.options p q =
    answers_own law f e.options p q o2 rests.core (owes_none f nothing.there) fit.good_a fit.good_b at.pair fit.to_b here in
    subst (λ (os : List Transition). Connect e f p (o1 ++ (o3 ++ o5)) (os ++ o4)) (sym h)
    (third law e f p q moment shown_a shown_b o3 o4 o5 nothing at rests fit
    (subst (λ (os : List Transition). DeliveryTurns e1 (packet_at_number (suc (length shown_b)) (shown_b ++ packets_shown f.options os)) o3) h answer)
    (subst (λ (os : List Transition). DeliveryTurns (after_all f os) (packet_at_number (suc (suc (length shown_a))) (shown_a ++ packets_shown e.options (o1 ++ o3))) o4) h later)
    (subst (λ (os : List Transition). DeliveryTurns (after_all e1 o3) (packet_at_number (suc (suc (length shown_b))) (shown_b ++ packets_shown f.options (os ++ o4))) o5) h last))

-- The clock of the one goes to its next moment; then INIT, INIT ACK, COOKIE ECHO and COOKIE ACK are delivered in turn. Whatever
-- each had shown before, both are connected then.
pub connect_too : HandshakeLaws → (e f : Endpoint) (p q : Pair) (moment : ℕ) (shown_a shown_b : List (List ℕ)) (o1 o2 o3 o4 o5 : List Transition) → NothingWaits e f → AwaitsInitAck e p moment → AwaitsToo f q → Fit e.options f.options
    → AdvanceTurns e moment o1
    → DeliveryTurns f (packet_at_number (suc (length shown_a)) (shown_a ++ packets_shown e.options o1)) o2
    → DeliveryTurns (after_all e o1) (packet_at_number (suc (length shown_b)) (shown_b ++ packets_shown f.options o2)) o3
    → DeliveryTurns (after_all f o2) (packet_at_number (suc (suc (length shown_a))) (shown_a ++ packets_shown e.options (o1 ++ o3))) o4
    → DeliveryTurns (after_all (after_all e o1) o3) (packet_at_number (suc (suc (length shown_b))) (shown_b ++ packets_shown f.options (o2 ++ o4))) o5
    → Connect e f p (o1 ++ (o3 ++ o5)) (o2 ++ o4)
connect_too law e f p q moment shown_a shown_b o1 o2 o3 o4 o5 nothing at rests fit first input answer later last =
    let is : o1 ≡ init_repeated e p moment = t1_sends_init e p moment o1 at.core fit.good_a.allow.mtu at.t1 first in
    subst (λ (os : List Transition). Connect e f p (os ++ (o3 ++ o5)) (o2 ++ o4)) (sym is)
    (second law e f p q moment shown_a shown_b o2 o3 o4 o5 nothing at rests fit
    (subst (λ (os : List Transition). DeliveryTurns f (packet_at_number (suc (length shown_a)) (shown_a ++ packets_shown e.options os)) o2) is input)
    (subst (λ (os : List Transition). DeliveryTurns (after_all e os) (packet_at_number (suc (length shown_b)) (shown_b ++ packets_shown f.options o2)) o3) is answer)
    (subst (λ (os : List Transition). DeliveryTurns (after_all f o2) (packet_at_number (suc (suc (length shown_a))) (shown_a ++ packets_shown e.options (os ++ o3))) o4) is later)
    (subst (λ (os : List Transition). DeliveryTurns (after_all (after_all e os) o3) (packet_at_number (suc (suc (length shown_b))) (shown_b ++ packets_shown f.options (o2 ++ o4))) o5) is last))
