-- A lost COOKIE ECHO and a lost COOKIE ACK are made good in every run.
use Rattle.std.proofs.Common.{◌≡◌, ℕ, suc, Option, None, Some, List, [], ◌∷◌, ◌++◌, length, refl, sym, subst, ap, ◌∙◌}
use Rattle.dcsctp_spec_lemmas.specs.types.declared.association.Pair.{Pair}
use Rattle.dcsctp_spec_lemmas.specs.types.declared.association.Held.{Held}
use Rattle.dcsctp_spec_lemmas.specs.types.declared.options.Options.{Options}
use Rattle.dcsctp_spec_lemmas.specs.types.Offer.{Offer, offer_of, negotiated_capabilities}
use Rattle.dcsctp_spec_lemmas.specs.spec.Cookie.{Cookie}
use Rattle.dcsctp_spec_lemmas.specs.spec.Packet.{cookie_echo}
use Rattle.dcsctp_spec_lemmas.specs.spec.queues.Transfer.{Transfer}
use Rattle.dcsctp_spec_lemmas.specs.spec.endpoint.Endpoint.{Endpoint, Core, open_in, established, fresh_endpoint}
use Rattle.dcsctp_spec_lemmas.specs.spec.endpoint.CallTurns.{Transition, after_all, HandleInput}
use Rattle.dcsctp_spec_lemmas.specs.spec.endpoint.TimeTurns.{AdvanceTurns}
use Rattle.dcsctp_spec_lemmas.specs.spec.association.CookieEchoChanges.{held_by_cookie}
use Rattle.dcsctp_spec_lemmas.specs.spec.association.HandshakeChanges.{new_held}
use Rattle.dcsctp_spec_lemmas.specs.spec.CookieFits.{FitsPair}
use Rattle.dcsctp_spec_lemmas.proofs.TurnLists.{after_all-append}
use Rattle.dcsctp_spec_runs.specs.Sockets.{Both, endpoint_after, packets_shown, packet_at_number, turns_after, DeliveryTurns}
use Rattle.dcsctp_theorem_sockets.specs.Agreement.{AreUsable}
use Rattle.dcsctp_theorem_sockets.specs.Handshake.{AreFitting}
use Rattle.dcsctp_theorem_progress.specs.LostInits.{KeepsOptions}
use Rattle.dcsctp_theorem_progress.specs.Cookies.{HasEchoed, AwaitsAck, MissedEcho, HadEcho, OwesNothing as OwesNone}
use Rattle.dcsctp_theorem_progress.specs.Echoes.{ConnectLast, LostEchoesAreMadeGood, LostAcksAreMadeGood}
use Rattle.dcsctp_theorem_sockets.proofs.Bytes.{ReadPairs, read_pairs_fit}
use Rattle.dcsctp_theorem_sockets.proofs.HandshakeReads.{counted_at, delivered}
use Rattle.dcsctp_theorem_sockets.proofs.Idle.{OwesNothing}
use Rattle.dcsctp_theorem_sockets.proofs.HandshakeTurns.{HandshakeLaws, Good}
use Rattle.dcsctp_theorem_progress.proofs.Echoes.{bytes_packet, Spells, EstablishesBy, establishes_by, acknowledgement_packet, connects_last}
use Rattle.dcsctp_theorem_progress.proofs.Facts.{Fit, last_of, idle_established, connected_turns}
use Rattle.dcsctp_theorem_progress.proofs.Runs.{shown_then, moved, good_by}
use Rattle.dcsctp_theorem_progress.proofs.Cookies.{size_of, t1_sends_echo, echo_repeated, acknowledging, maintains}

pub owes_same : (transfer : Option Transfer) → OwesNone transfer → OwesNothing transfer
owes_same None h = tt
owes_same (Some transfer) h = h

-- what this side holds
abbrev pub held_here : Endpoint → Endpoint → Cookie → Held
held_here e f cookie = new_held cookie.addressee cookie.maker (negotiated_capabilities (offer_of e.options) (offer_of f.options))

-- The bytes that it echoes spell the cookie, and the pairs fit.
pub record Pairs (cookie : Cookie) (bytes : List ℕ) : Type 0 where
  pub spells : Spells bytes cookie
  pub here : FitsPair cookie.addressee

pub pairs_fit : (e f : Endpoint) (cookie : Cookie) (bytes : List ℕ) → HasEchoed e f cookie bytes → Pairs cookie bytes
pairs_fit e f cookie bytes h =
    let read : ReadPairs cookie = read_pairs_fit bytes cookie h.fits.cookie_in_bytes h.reads in
    record { spells = record { reads = h.reads; fits = h.fits; own = read.maker }; here = read.addressee }

abbrev pub repeated : Endpoint → Endpoint → Cookie → List ℕ → ℕ → List Transition
repeated e f cookie bytes moment = echo_repeated e (held_here e f cookie) bytes moment

pub repeats : (e f : Endpoint) (cookie : Cookie) (bytes : List ℕ) (moment : ℕ) (o1 : List Transition) → AwaitsAck e f cookie bytes moment → Good e.options → AdvanceTurns e moment o1
    → o1 ≡ repeated e f cookie bytes moment
repeats e f cookie bytes moment o1 at good first =
    t1_sends_echo e cookie.addressee (held_here e f cookie) bytes moment o1
    (record { core = at.echoed.core; size = size_of bytes cookie at.echoed.reads; idle = at.echoed.idle; delay = at.echoed.delay; errors = at.echoed.errors }) good at.t1 first

-- With what the cookie says of the other's offer it holds what was negotiated.
abbrev linked_by : Endpoint → Cookie → Offer → Core
linked_by f cookie offer = open_in established cookie.maker (new_held cookie.maker cookie.addressee (negotiated_capabilities (offer_of f.options) offer))

pub offered : (e f : Endpoint) (cookie : Cookie) → cookie.offer ≡ offer_of e.options
    → open_in established cookie.maker (held_by_cookie f.options cookie) ≡ open_in established cookie.maker (new_held cookie.maker cookie.addressee (negotiated_capabilities (offer_of f.options) (offer_of e.options)))
offered e f cookie is = ap (linked_by f cookie) is

-- the COOKIE ACK, and the end
ends : HandshakeLaws → (e f : Endpoint) (cookie : Cookie) (bytes : List ℕ) (moment : ℕ) (shown_b : List (List ℕ)) (o2 o3 : List Transition) → AwaitsAck e f cookie bytes moment → Fit e.options f.options
    → packets_shown f.options o2 ≡ acknowledgement_packet f.options cookie ∷ []
    → DeliveryTurns (after_all e (repeated e f cookie bytes moment)) (packet_at_number (suc (length shown_b)) (shown_b ++ packets_shown f.options o2)) o3
    → o3 ≡ connected_turns (after_all e (repeated e f cookie bytes moment)) cookie.addressee (held_here e f cookie)
ends law e f cookie bytes moment shown_b o2 o3 at fit shows input =
    let e1 : Endpoint = after_all e (repeated e f cookie bytes moment) in
    let here : DeliveryTurns e1 (packet_at_number (suc (length shown_b)) (shown_b ++ acknowledgement_packet f.options cookie ∷ [])) o3 =
    subst (λ (ps : List (List ℕ)). DeliveryTurns e1 (packet_at_number (suc (length shown_b)) (shown_b ++ ps)) o3) shows input in
    let found : DeliveryTurns e1 (Some (acknowledgement_packet f.options cookie)) o3 =
    subst (λ (x : Option (List ℕ)). DeliveryTurns e1 x o3) (last_of shown_b (acknowledgement_packet f.options cookie)) here in
    connects_last law e1 f.options cookie cookie.addressee (held_here e f cookie) bytes o3 at.echoed.core at.echoed.asks at.echoed.idle (owes_same e.queues.transfer at.echoed.owes) refl at.echoed.offer fit.good_b
    (pairs_fit e f cookie bytes at.echoed).here fit.to_a found

-- the COOKIE ECHO that comes first
echo_comes : (e f : Endpoint) (cookie : Cookie) (bytes : List ℕ) (moment : ℕ) (shown_a : List (List ℕ)) (o1 o2 : List Transition) → o1 ≡ repeated e f cookie bytes moment
    → DeliveryTurns f (packet_at_number (suc (length shown_a)) (shown_a ++ packets_shown e.options o1)) o2 → HandleInput f (bytes_packet e.options cookie bytes) o2
echo_comes e f cookie bytes moment shown_a o1 o2 is input =
    subst (λ (x : Option (List ℕ)). DeliveryTurns f x o2) (last_of shown_a (bytes_packet e.options cookie bytes))
    (subst (λ (os : List Transition). DeliveryTurns f (packet_at_number (suc (length shown_a)) (shown_a ++ packets_shown e.options os)) o2) is input)

missed : HandshakeLaws → (e f : Endpoint) (cookie : Cookie) (bytes : List ℕ) (moment : ℕ) (shown_a shown_b : List (List ℕ)) (o1 o2 o3 : List Transition) → AwaitsAck e f cookie bytes moment → MissedEcho f cookie → Fit e.options f.options
    → AdvanceTurns e moment o1
    → DeliveryTurns f (packet_at_number (suc (length shown_a)) (shown_a ++ packets_shown e.options o1)) o2
    → DeliveryTurns (after_all e o1) (packet_at_number (suc (length shown_b)) (shown_b ++ packets_shown f.options o2)) o3
    → ConnectLast e f cookie.addressee cookie.maker 1 (o1 ++ o3) o2
missed law e f cookie bytes moment shown_a shown_b o1 o2 o3 at had fit first input last =
    let p : Pair = cookie.addressee in
    let q : Pair = cookie.maker in
    let is1 : o1 ≡ repeated e f cookie bytes moment = repeats e f cookie bytes moment o1 at fit.good_a first in
    let come = echo_comes e f cookie bytes moment shown_a o1 o2 is1 input in
    let h : EstablishesBy f cookie bytes o2 =
    establishes_by law f e.options cookie bytes o2 had.core had.taken (pairs_fit e f cookie bytes at.echoed).spells (λ w. idle_established (counted_at f) cookie w had.empty) fit.good_a fit.good_b fit.to_b come in
    let is3 : o3 ≡ connected_turns (after_all e (repeated e f cookie bytes moment)) p (held_here e f cookie) =
    ends law e f cookie bytes moment shown_b o2 o3 at fit (ap (packets_shown f.options) h.only)
    (subst (λ (os : List Transition). DeliveryTurns (after_all e os) (packet_at_number (suc (length shown_b)) (shown_b ++ packets_shown f.options o2)) o3) is1 last) in
    subst (λ (os : List Transition). ConnectLast e f p q 1 (os ++ o3) o2) (sym is1)
    (subst (λ (os : List Transition). ConnectLast e f p q 1 (repeated e f cookie bytes moment ++ os) o2) (sym is3)
    (subst (λ (os : List Transition). ConnectLast e f p q 1 (repeated e f cookie bytes moment ++ connected_turns (after_all e (repeated e f cookie bytes moment)) p (held_here e f cookie)) os) (sym h.only)
    (record { linked = record { here = refl; there = offered e f cookie at.echoed.offer }; once_here = refl; tells_there = refl })))

had_it : HandshakeLaws → (e f : Endpoint) (cookie : Cookie) (bytes : List ℕ) (moment : ℕ) (shown_a shown_b : List (List ℕ)) (o1 o2 o3 : List Transition) → AwaitsAck e f cookie bytes moment → HadEcho e f cookie → Fit e.options f.options
    → AdvanceTurns e moment o1
    → DeliveryTurns f (packet_at_number (suc (length shown_a)) (shown_a ++ packets_shown e.options o1)) o2
    → DeliveryTurns (after_all e o1) (packet_at_number (suc (length shown_b)) (shown_b ++ packets_shown f.options o2)) o3
    → ConnectLast e f cookie.addressee cookie.maker 0 (o1 ++ o3) o2
had_it law e f cookie bytes moment shown_a shown_b o1 o2 o3 at had fit first input last =
    let p : Pair = cookie.addressee in
    let q : Pair = cookie.maker in
    let is1 : o1 ≡ repeated e f cookie bytes moment = repeats e f cookie bytes moment o1 at fit.good_a first in
    let come = echo_comes e f cookie bytes moment shown_a o1 o2 is1 input in
    let is2 : o2 ≡ delivered f q.tag (cookie_echo bytes) (acknowledging (counted_at f) cookie) =
    maintains law f e.options cookie bytes o2 (had.core ∙ sym (offered e f cookie at.echoed.offer)) had.idle (owes_same f.queues.transfer had.owes) (pairs_fit e f cookie bytes at.echoed).spells fit.good_a fit.good_b fit.to_b come in
    let is3 : o3 ≡ connected_turns (after_all e (repeated e f cookie bytes moment)) p (held_here e f cookie) =
    ends law e f cookie bytes moment shown_b o2 o3 at fit (ap (packets_shown f.options) is2)
    (subst (λ (os : List Transition). DeliveryTurns (after_all e os) (packet_at_number (suc (length shown_b)) (shown_b ++ packets_shown f.options o2)) o3) is1 last) in
    subst (λ (os : List Transition). ConnectLast e f p q 0 (os ++ o3) o2) (sym is1)
    (subst (λ (os : List Transition). ConnectLast e f p q 0 (repeated e f cookie bytes moment ++ os) o2) (sym is3)
    (subst (λ (os : List Transition). ConnectLast e f p q 0 (repeated e f cookie bytes moment ++ connected_turns (after_all e (repeated e f cookie bytes moment)) p (held_here e f cookie)) os) (sym is2)
    (record { linked = record { here = refl; there = had.core }; once_here = refl; tells_there = refl })))

-- ---- in a run

pub fitting : (options : Both Options) (e f : Endpoint) → AreUsable options → AreFitting options → KeepsOptions options.a e → KeepsOptions options.b f → Fit e.options f.options
fitting options e f are fit keeps_a keeps_b =
    let good = good_by options are fit in
    record {
      good_a = subst Good (sym keeps_a.same) good.0;
      good_b = subst Good (sym keeps_b.same) good.1;
      to_b = ap (λ (o : Options). o.remote_port) keeps_a.same ∙ fit.to_b ∙ sym (ap (λ (o : Options). o.local_port) keeps_b.same);
      to_a = ap (λ (o : Options). o.remote_port) keeps_b.same ∙ fit.to_a ∙ sym (ap (λ (o : Options). o.local_port) keeps_a.same);
    }

pub lost_echoes_are_made_good : HandshakeLaws → LostEchoesAreMadeGood
lost_echoes_are_made_good law options earlier cookie bytes moment o1 o2 o3 are fit keeps_a keeps_b at missing runs =
    let turns : Both (List Transition) = turns_after earlier in
    let e : Endpoint = endpoint_after options.a turns.a in
    let f : Endpoint = endpoint_after options.b turns.b in
    let shown_a : List (List ℕ) = packets_shown options.a turns.a in
    let shown_b : List (List ℕ) = packets_shown options.b turns.b in
    missed law e f cookie bytes moment shown_a shown_b o1 o2 o3 at missing (fitting options e f are fit keeps_a keeps_b) runs.1.1.0
    (moved (suc (length shown_a)) f f _ _ o2 refl (shown_then options.a e.options turns.a o1 keeps_a.same) runs.1.0)
    (moved (suc (length shown_b)) _ _ _ _ o3 (after_all-append (fresh_endpoint options.a) turns.a o1) (shown_then options.b f.options turns.b o2 keeps_b.same) runs.0)

pub lost_acks_are_made_good : HandshakeLaws → LostAcksAreMadeGood
lost_acks_are_made_good law options earlier cookie bytes moment o1 o2 o3 are fit keeps_a keeps_b at had runs =
    let turns : Both (List Transition) = turns_after earlier in
    let e : Endpoint = endpoint_after options.a turns.a in
    let f : Endpoint = endpoint_after options.b turns.b in
    let shown_a : List (List ℕ) = packets_shown options.a turns.a in
    let shown_b : List (List ℕ) = packets_shown options.b turns.b in
    had_it law e f cookie bytes moment shown_a shown_b o1 o2 o3 at had (fitting options e f are fit keeps_a keeps_b) runs.1.1.0
    (moved (suc (length shown_a)) f f _ _ o2 refl (shown_then options.a e.options turns.a o1 keeps_a.same) runs.1.0)
    (moved (suc (length shown_b)) _ _ _ _ o3 (after_all-append (fresh_endpoint options.a) turns.a o1) (shown_then options.b f.options turns.b o2 keeps_b.same) runs.0)
