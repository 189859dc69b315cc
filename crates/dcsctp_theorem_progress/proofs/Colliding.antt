-- COOKIE ECHO at a socket that echoes a cookie too, and COOKIE ACK at one that is Established, with data behind them (RFC 9260, section 5.2.4, D).
use Rattle.std.proofs.Common.{◌≡◌, ◌≢◌, ◌⊎◌, ℕ, suc, Bool, true, false, eqb, List, [], ◌∷◌, ◌++◌, inl, Result, Ok, refl, sym, subst, ap, ◌∙◌}
use Rattle.std.specs.Prelude.{◌==◌}
use Rattle.dcsctp_spec_lemmas.specs.types.declared.association.Pair.{Pair}
use Rattle.dcsctp_spec_lemmas.specs.types.declared.association.Held.{Held}
use Rattle.dcsctp_spec_lemmas.specs.types.declared.options.Options.{Options}
use Rattle.dcsctp_spec_lemmas.specs.types.Settings.{FitsOptions, ports_of}
use Rattle.dcsctp_spec_lemmas.specs.spec.Cookie.{Cookie, cookie_of_bytes}
use Rattle.dcsctp_spec_lemmas.specs.spec.CookieFits.{FitsPair}
use Rattle.dcsctp_spec_lemmas.specs.spec.Packet.{Content, cookie_echo, cookie_ack, Emission, emission_bytes}
use Rattle.dcsctp_spec_lemmas.specs.spec.association.Effect.{connects, identity_of}
use Rattle.dcsctp_spec_lemmas.specs.spec.association.CookieEchoChanges.{Resolution, maintain_existing, aged_resolution, held_by_cookie}
use Rattle.dcsctp_spec_lemmas.specs.spec.endpoint.Endpoint.{Endpoint, Core, cookie_echoed, open_in, established, own_tag}
use Rattle.dcsctp_spec_lemmas.specs.spec.endpoint.Event.{connected, packets_of_events}
use Rattle.dcsctp_spec_lemmas.specs.spec.endpoint.Outcome.{Outcome, still, behind, with_effects_first}
use Rattle.dcsctp_spec_lemmas.specs.spec.endpoint.FlushOutcomes.{Answer, flush_answered, flush_of, allows_packet}
use Rattle.dcsctp_spec_lemmas.specs.spec.endpoint.HandshakeOutcomes.{connected_after, cookie_ack_with_flush}
use Rattle.dcsctp_spec_lemmas.specs.spec.endpoint.CookieEchoOutcomes.{is_spent, resolved_now, MaintainAnswers, ResolvedAnswers, EchoedAnswers, resolve_with_flush, cookie_echo_with_flush, CookieEchoTurn}
use Rattle.dcsctp_spec_lemmas.specs.spec.endpoint.MessageOutcomes.{awaits_opening}
use Rattle.dcsctp_spec_lemmas.specs.spec.endpoint.CallTurns.{Transition, transition, ChunkTurns, HandleInput, events_of}
use Rattle.dcsctp_spec_lemmas.specs.spec.endpoint.Turn.{BeginTurn, packet_ends, packet_begins, arrival, arrival_outcome, has_data_chunk}
use Rattle.dcsctp_spec_lemmas.specs.spec.Admission.{first_abort, first_shutdown_complete, has_shutdown_ack, is_echo_in_front}
use Rattle.dcsctp_theorem_sockets.proofs.HandshakeReads.{Wire, counted_at}
use Rattle.dcsctp_theorem_sockets.proofs.HandshakeTurns.{Good, same_tag}
use Rattle.dcsctp_theorem_sockets.proofs.Sendable.{echo_sendable, ack_sendable}
use Rattle.dcsctp_theorem_progress.proofs.Views.{told_then}
use Rattle.dcsctp_theorem_progress.proofs.Carried.{all_both}
use Rattle.dcsctp_theorem_progress.proofs.Flows.{Flows, AreCarriedFor, told-append}
use Rattle.dcsctp_theorem_progress.proofs.Flushes.{Stays, Fronts, front_draft, flush_fronts}
use Rattle.dcsctp_theorem_progress.proofs.Received.{still_stays}
use Rattle.dcsctp_theorem_progress.proofs.Walks.{StayAlong, stays_then, walked, WholeTaken, whole_taken, AreOrdinary, are_ordinary, carried_sendable}
use Rattle.dcsctp_theorem_progress.proofs.Carrying.{sent_then}
use Rattle.dcsctp_theorem_progress.proofs.Establishing.{EstablishesAlong, Established, echo_admitted, own_admitted, goes_on, echo_then}
use Rattle.dcsctp_theorem_progress.proofs.Acknowledged.{ack_with, counted_flows}
use Rattle.dcsctp_theorem_progress.proofs.Echoes.{Spells}
use Rattle.dcsctp_theorem_progress.proofs.Cookies.{same_case, whatever_age}

-- ---- COOKIE ECHO

kept : (f : Endpoint) (cookie : Cookie) (held : Held) (echoed : List ℕ) → cookie.addressee ≡ held.peer → resolved_now f (cookie_echoed cookie.maker held echoed) cookie.maker.tag cookie ≡ maintain_existing
kept f cookie held echoed peer =
    let spent : Bool = is_spent f (cookie_echoed cookie.maker held echoed) cookie.maker.tag cookie in
    ap (aged_resolution spent) (same_case (eqb cookie.maker.tag cookie.maker.tag) (eqb cookie.addressee.tag held.peer.tag) (eqb cookie.tie f.tie) (eqb cookie.tie f.secret)
    (same_tag cookie.maker.tag) (ap (λ (p : Pair). eqb p.tag held.peer.tag) peer ∙ same_tag held.peer.tag))
    ∙ whatever_age spent

opened_by : (e : Endpoint) (cookie : Cookie) (bytes echoed : List ℕ) (o : Outcome) → e.core ≡ cookie_echoed cookie.maker (held_by_cookie e.options cookie) echoed → Flows (held_by_cookie e.options cookie) e
    → cookie_of_bytes bytes ≡ Ok cookie → allows_packet e.options.max_burst ≡ true → CookieEchoTurn e cookie.maker.tag bytes o → Established e cookie o
opened_by e cookie bytes echoed o is flows reads may turn =
    let word : ℕ = turn.0 in
    let answers : List Answer = turn.1 in
    let held : Held = held_by_cookie e.options cookie in
    let at : Core = cookie_echoed cookie.maker held echoed in
    let after : Endpoint = connected_after e cookie.maker held in
    let draft : Emission = front_draft (held.capabilities.zero_checksum_method.0 == 0) cookie.addressee.tag cookie_ack in
    let at_core : EchoedAnswers e at cookie.maker.tag (cookie_of_bytes bytes) word answers = subst (λ (core : Core). EchoedAnswers e core cookie.maker.tag (cookie_of_bytes bytes) word answers) is turn.2 in
    let allowed : MaintainAnswers e cookie at answers =
    subst (λ (case : Resolution). ResolvedAnswers e cookie at word case answers) (kept e cookie held echoed refl)
    (subst (λ (found : Result Cookie (List ℕ)). EchoedAnswers e at cookie.maker.tag found word answers) reads at_core) in
    let opened : Flows held after = record {
      kind = record { peer = refl; transfer = flows.kind.transfer; known = flows.kind.known; interleaves = flows.kind.interleaves; abandons = flows.kind.abandons };
      unpaused = flows.unpaused;
    } in
    let f : Fronts held after draft.with_checksum cookie.addressee.tag cookie_ack (flush_of after draft answers) = flush_fronts held after draft.with_checksum cookie.addressee.tag cookie_ack answers may opened allowed in
    let so : o ≡ with_effects_first (connects (identity_of cookie.maker held) ∷ []) (behind [] (connected ∷ []) (flush_of after draft answers)) =
    turn.3
    ∙ ap (λ (core : Core). cookie_echo_with_flush (flush_answered answers) e core cookie.maker.tag (cookie_of_bytes bytes) word) is
    ∙ ap (λ (found : Result Cookie (List ℕ)). cookie_echo_with_flush (flush_answered answers) e at cookie.maker.tag found word) reads
    ∙ ap (λ (case : Resolution). resolve_with_flush (flush_answered answers) e cookie at word case) (kept e cookie held echoed refl) in
    subst (Established e cookie) (sym so)
    (record {
      core = f.core;
      options = f.options;
      flows = f.flows;
      following = f.following;
      told = λ n. ap suc (f.told n);
      more = f.more;
      carried = f.carried;
      rest = f.rest;
      others = f.others;
      packets = f.packets;
    })

opens_chunks : (e : Endpoint) (cookie : Cookie) (bytes echoed : List ℕ) (contents more : List Content) (turns rest : List Transition) → e.core ≡ cookie_echoed cookie.maker (held_by_cookie e.options cookie) echoed
    → Flows (held_by_cookie e.options cookie) e → cookie_of_bytes bytes ≡ Ok cookie → allows_packet e.options.max_burst ≡ true
    → AreCarriedFor (held_by_cookie e.options cookie) more → turns ≡ transition arrival (arrival_outcome e) ∷ transition (packet_begins contents) (still (counted_at e)) ∷ rest
    → ChunkTurns (counted_at e) cookie.maker.tag (cookie_echo bytes ∷ more) (packet_ends ∷ []) rest → EstablishesAlong e cookie turns
opens_chunks e cookie bytes echoed contents more turns [] is flows reads may each parts h = absurd h
opens_chunks e cookie bytes echoed contents more turns (t ∷ ts) is flows reads may each parts h =
    let held : Held = held_by_cookie e.options cookie in
    let f : Established (counted_at e) cookie t.outcome = opened_by (counted_at e) cookie bytes echoed t.outcome is (counted_flows held e flows) reads may h.0.comes in
    let last : StayAlong held t.outcome.after ts =
    walked held cookie.maker t.outcome.after cookie.maker.tag more ts f.core f.flows each (goes_on t cookie.maker.tag more ts f.following h.1) in
    subst (EstablishesAlong e cookie) (sym parts)
    (record {
      core = last.core ∙ f.core;
      options = last.options ∙ f.options;
      flows = last.flows;
      told = λ n. told-append t.outcome.events (events_of ts) n ∙ last.tells.told (told_then t.outcome.events n) ∙ f.told n;
      more = f.more;
      carried = f.carried;
      rest = f.rest ++ packets_of_events (events_of ts);
      others = all_both _ f.rest (packets_of_events (events_of ts)) f.others last.tells.sent;
      packets = sent_then _ f.rest t.outcome.events (events_of ts) f.packets;
    })

-- A socket that echoes a cookie of the same pairs is established by its own.
pub opens_along : Wire → (e : Endpoint) (a : Options) (cookie : Cookie) (bytes echoed : List ℕ) (more : List Content) (turns : List Transition)
    → e.core ≡ cookie_echoed cookie.maker (held_by_cookie e.options cookie) echoed → awaits_opening e e.core ≡ false → Flows (held_by_cookie e.options cookie) e → Spells bytes cookie
    → Good a → Good e.options → a.remote_port ≡ e.options.local_port → AreCarriedFor (held_by_cookie e.options cookie) more
    → HandleInput e (emission_bytes (ports_of a) (echo_then cookie bytes more)) turns → EstablishesAlong e cookie turns
opens_along law e a cookie bytes echoed more turns is asks flows spells good_a good_b port each input =
    let held : Held = held_by_cookie e.options cookie in
    let ordinary : AreOrdinary more = are_ordinary held.capabilities.message_interleaving held.capabilities.partial_reliability more each in
    let emission : Emission = echo_then cookie bytes more in
    let h : WholeTaken e emission.packet turns =
    whole_taken law e a emission turns
    (record {
      fits = good_a.fits;
      sendable = record { tag = spells.own.tag; contents = (echo_sendable bytes spells.fits, carried_sendable held.capabilities.message_interleaving held.capabilities.partial_reliability more each) };
      minima = (tt, ordinary.minima);
      echo_in_front = ordinary.no_echo;
      to_this_port = sym port;
      checked = inl refl;
    })
    (echo_admitted e.core emission.packet (first_abort emission.packet.contents) (first_shutdown_complete emission.packet.contents) (has_shutdown_ack emission.packet.contents) (emission.packet.tag == 0)
    ordinary.no_abort ordinary.no_complete ordinary.no_ack) asks
    (λ o rests. subst (λ (core : Core). BeginTurn (counted_at e) core (has_data_chunk e.options.follow_rfc emission.packet.contents) o) is rests) input in
    opens_chunks e cookie bytes echoed emission.packet.contents more turns h.rest is flows spells.reads good_b.allow.burst each h.parts h.chunks

-- ---- COOKIE ACK

ignores_chunks : (e : Endpoint) (p : Pair) (held : Held) (tag : ℕ) (contents more : List Content) (turns rest : List Transition) → e.core ≡ open_in established p held → Flows held e
    → AreCarriedFor held more → turns ≡ transition arrival (arrival_outcome e) ∷ transition (packet_begins contents) (still (counted_at e)) ∷ rest
    → ChunkTurns (counted_at e) tag (cookie_ack ∷ more) (packet_ends ∷ []) rest → StayAlong held e turns
ignores_chunks e p held tag contents more turns [] is f each parts h = absurd h
ignores_chunks e p held tag contents more turns (t ∷ ts) is f each parts h =
    let counted : Flows held (counted_at e) = counted_flows held e f in
    let ignored : t.outcome ≡ still (counted_at e) = h.0.comes.2 ∙ ap (λ (core : Core). cookie_ack_with_flush (flush_answered h.0.comes.0) (counted_at e) core) is in
    let first = subst (λ (o : Outcome). Stays held (counted_at e) o) (sym ignored) (still_stays held (counted_at e) counted) in
    let last : StayAlong held t.outcome.after ts = walked held p t.outcome.after tag more ts (first.core ∙ is) first.flows each (goes_on t tag more ts first.following h.1) in
    let both : StayAlong held (counted_at e) (t ∷ ts) = stays_then held (counted_at e) t ts first last in
    subst (StayAlong held e) (sym parts) (record { core = both.core; options = both.options; asked = both.asked; flows = both.flows; tells = both.tells; trying = record { moment = both.trying.moment; t1 = both.trying.t1; errors = both.trying.errors } })

-- An Established socket ignores it, and takes what is behind it.
pub ignores_along : Wire → (e : Endpoint) (b : Options) (p : Pair) (held : Held) (with_checksum : Bool) (more : List Content) (turns : List Transition) → e.core ≡ open_in established p held
    → Flows held e → FitsOptions b → FitsPair p → b.remote_port ≡ e.options.local_port
    → (with_checksum ≡ true) ⊎ (e.options.zero_checksum_alternate_error_detection_method.0 ≢ 0) → AreCarriedFor held more
    → HandleInput e (emission_bytes (ports_of b) (ack_with with_checksum p.tag more)) turns → StayAlong held e turns
ignores_along law e b p held with_checksum more turns is f good mine port checked each input =
    let m : Bool = held.capabilities.message_interleaving in
    let n : Bool = held.capabilities.partial_reliability in
    let ordinary : AreOrdinary more = are_ordinary m n more each in
    let emission : Emission = ack_with with_checksum p.tag more in
    let h : WholeTaken e emission.packet turns =
    whole_taken law e b emission turns
    (record {
      fits = good;
      sendable = record { tag = mine.tag; contents = (ack_sendable, carried_sendable m n more each) };
      minima = (tt, ordinary.minima);
      echo_in_front = ordinary.no_echo;
      to_this_port = sym port;
      checked = checked;
    })
    (own_admitted e.core emission.packet (first_abort emission.packet.contents) (first_shutdown_complete emission.packet.contents) (has_shutdown_ack emission.packet.contents) (is_echo_in_front emission.packet.contents)
    ordinary.no_abort ordinary.no_complete ordinary.no_ack refl (ap own_tag is) mine.tag_is_not_zero) (ap (awaits_opening e) is)
    (λ o rests. subst (λ (core : Core). BeginTurn (counted_at e) core (has_data_chunk e.options.follow_rfc emission.packet.contents) o) is rests) input in
    ignores_chunks e p held p.tag emission.packet.contents more turns h.rest is f each h.parts h.chunks
