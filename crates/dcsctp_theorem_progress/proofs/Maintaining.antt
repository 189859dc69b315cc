-- COOKIE ECHO at a socket that is Established by its cookie, with data behind it and data that waits (RFC 9260, section 5.2.4, D).
use Rattle.std.proofs.Common.{◌≡◌, ℕ, Bool, true, List, [], ◌∷◌, ◌++◌, inl, Result, Ok, refl, sym, subst, ap, ◌∙◌}
use Rattle.std.specs.Prelude.{◌==◌}
use Rattle.dcsctp_spec_lemmas.specs.types.declared.association.Held.{Held}
use Rattle.dcsctp_spec_lemmas.specs.types.declared.options.Options.{Options}
use Rattle.dcsctp_spec_lemmas.specs.types.Settings.{ports_of}
use Rattle.dcsctp_spec_lemmas.specs.spec.Cookie.{Cookie, cookie_of_bytes}
use Rattle.dcsctp_spec_lemmas.specs.spec.Packet.{Content, cookie_echo, cookie_ack, Emission, emission_bytes}
use Rattle.dcsctp_spec_lemmas.specs.spec.association.CookieEchoChanges.{Resolution, held_by_cookie}
use Rattle.dcsctp_spec_lemmas.specs.spec.endpoint.Endpoint.{Endpoint, Core, open_in, established}
use Rattle.dcsctp_spec_lemmas.specs.spec.endpoint.Event.{packets_of_events}
use Rattle.dcsctp_spec_lemmas.specs.spec.endpoint.Outcome.{Outcome, still, behind}
use Rattle.dcsctp_spec_lemmas.specs.spec.endpoint.FlushOutcomes.{Answer, FlushKind, flush_answered, flush_of, allows_packet}
use Rattle.dcsctp_spec_lemmas.specs.spec.endpoint.CookieEchoOutcomes.{ResolvedAnswers, EchoedAnswers, MaintainAnswers, resolve_with_flush, cookie_echo_with_flush, CookieEchoTurn}
use Rattle.dcsctp_spec_lemmas.specs.spec.endpoint.MessageOutcomes.{awaits_opening}
use Rattle.dcsctp_spec_lemmas.specs.spec.endpoint.CallTurns.{Transition, transition, ChunkTurns, HandleInput, events_of}
use Rattle.dcsctp_spec_lemmas.specs.spec.endpoint.Turn.{BeginTurn, packet_ends, packet_begins, arrival, arrival_outcome, has_data_chunk}
use Rattle.dcsctp_spec_lemmas.specs.spec.Admission.{first_abort, first_shutdown_complete, has_shutdown_ack}
use Rattle.dcsctp_theorem_sockets.proofs.HandshakeReads.{counted_at}
use Rattle.dcsctp_theorem_sockets.proofs.HandshakeTurns.{HandshakeLaws, Good}
use Rattle.dcsctp_theorem_sockets.proofs.Sendable.{echo_sendable}
use Rattle.dcsctp_theorem_progress.proofs.Views.{told_then}
use Rattle.dcsctp_theorem_progress.proofs.Carried.{all_both}
use Rattle.dcsctp_theorem_progress.proofs.Flows.{Flows, AreCarriedFor, told-append}
use Rattle.dcsctp_theorem_progress.proofs.Flushes.{Fronts, front_draft, flush_fronts}
use Rattle.dcsctp_theorem_progress.proofs.Walks.{StayAlong, walked, WholeTaken, whole_taken, AreOrdinary, are_ordinary, carried_sendable}
use Rattle.dcsctp_theorem_progress.proofs.Carrying.{sent_then}
use Rattle.dcsctp_theorem_progress.proofs.Cookies.{maintained}
use Rattle.dcsctp_theorem_progress.proofs.Echoes.{Spells}
use Rattle.dcsctp_theorem_progress.proofs.Establishing.{AcknowledgesAlong, AcknowledgesOnce, echo_admitted, goes_on, echo_then}
use Rattle.dcsctp_theorem_progress.proofs.Acknowledged.{counted_flows}

-- OnConnected is told as often as before.
abbrev pub none_more : ℕ → ℕ
none_more n = n

-- It is Established by the cookie.
abbrev pub established_core : Options → Cookie → Core
established_core options cookie = open_in established cookie.maker (held_by_cookie options cookie)

acknowledged_by : (e : Endpoint) (cookie : Cookie) (bytes : List ℕ) (o : Outcome) → e.core ≡ established_core e.options cookie → cookie_of_bytes bytes ≡ Ok cookie
    → allows_packet e.options.max_burst ≡ true → Flows (held_by_cookie e.options cookie) e → CookieEchoTurn e cookie.maker.tag bytes o → AcknowledgesOnce none_more e cookie o
acknowledged_by e cookie bytes o is reads may flows turn =
    let word : ℕ = turn.0 in
    let answers : List Answer = turn.1 in
    let flush : FlushKind = flush_answered answers in
    let held : Held = held_by_cookie e.options cookie in
    let core : Core = established_core e.options cookie in
    let draft : Emission = front_draft (held.capabilities.zero_checksum_method.0 == 0) cookie.addressee.tag cookie_ack in
    let at_core : EchoedAnswers e core cookie.maker.tag (cookie_of_bytes bytes) word answers = subst (λ (x : Core). EchoedAnswers e x cookie.maker.tag (cookie_of_bytes bytes) word answers) is turn.2 in
    let allowed : MaintainAnswers e cookie core answers =
    subst (λ (case : Resolution). ResolvedAnswers e cookie core word case answers) (maintained e cookie)
    (subst (λ (found : Result Cookie (List ℕ)). EchoedAnswers e core cookie.maker.tag found word answers) reads at_core) in
    let f : Fronts held e draft.with_checksum cookie.addressee.tag cookie_ack (flush_of e draft answers) = flush_fronts held e draft.with_checksum cookie.addressee.tag cookie_ack answers may flows allowed in
    let so : o ≡ behind [] [] (flush_of e draft answers) =
    turn.3
    ∙ ap (λ (x : Core). cookie_echo_with_flush flush e x cookie.maker.tag (cookie_of_bytes bytes) word) is
    ∙ ap (λ (found : Result Cookie (List ℕ)). cookie_echo_with_flush flush e core cookie.maker.tag found word) reads
    ∙ ap (λ (case : Resolution). resolve_with_flush flush e cookie core word case) (maintained e cookie) in
    subst (AcknowledgesOnce none_more e cookie) (sym so)
    (record {
      core = f.core ∙ is;
      options = f.options;
      flows = f.flows;
      following = f.following;
      told = f.told;
      more = f.more;
      carried = f.carried;
      rest = f.rest;
      others = f.others;
      packets = f.packets;
    })

maintains_chunks : (e : Endpoint) (cookie : Cookie) (bytes : List ℕ) (contents more : List Content) (turns rest : List Transition) → e.core ≡ established_core e.options cookie
    → cookie_of_bytes bytes ≡ Ok cookie → allows_packet e.options.max_burst ≡ true → Flows (held_by_cookie e.options cookie) e
    → AreCarriedFor (held_by_cookie e.options cookie) more → turns ≡ transition arrival (arrival_outcome e) ∷ transition (packet_begins contents) (still (counted_at e)) ∷ rest
    → ChunkTurns (counted_at e) cookie.maker.tag (cookie_echo bytes ∷ more) (packet_ends ∷ []) rest → AcknowledgesAlong none_more e cookie turns
maintains_chunks e cookie bytes contents more turns [] is reads may flows each parts h = absurd h
maintains_chunks e cookie bytes contents more turns (t ∷ ts) is reads may flows each parts h =
    let held : Held = held_by_cookie e.options cookie in
    let f : AcknowledgesOnce none_more (counted_at e) cookie t.outcome = acknowledged_by (counted_at e) cookie bytes t.outcome is reads may (counted_flows held e flows) h.0.comes in
    let last : StayAlong held t.outcome.after ts =
    walked held cookie.maker t.outcome.after cookie.maker.tag more ts f.core f.flows each (goes_on t cookie.maker.tag more ts f.following h.1) in
    subst (AcknowledgesAlong none_more e cookie) (sym parts)
    (record {
      core = last.core ∙ f.core;
      options = last.options ∙ f.options;
      flows = last.flows;
      told = λ n. told-append t.outcome.events (events_of ts) n ∙ last.tells.told (told_then t.outcome.events n) ∙ f.told n;
      more = f.more;
      carried = f.carried;
      rest = f.rest ++ packets_of_events (events_of ts);
      others = all_both _ f.rest (packets_of_events (events_of ts)) f.others last.tells.sent;
      packets = sent_then _ f.rest t.outcome.events (events_of ts) f.packets;
    })

-- It acknowledges the cookie again, however old that is, and takes what is behind it.
pub maintains_along : HandshakeLaws → (e : Endpoint) (a : Options) (cookie : Cookie) (bytes : List ℕ) (more : List Content) (turns : List Transition) → e.core ≡ established_core e.options cookie
    → Flows (held_by_cookie e.options cookie) e → Spells bytes cookie → Good a → Good e.options → a.remote_port ≡ e.options.local_port → AreCarriedFor (held_by_cookie e.options cookie) more
    → HandleInput e (emission_bytes (ports_of a) (echo_then cookie bytes more)) turns → AcknowledgesAlong none_more e cookie turns
maintains_along law e a cookie bytes more turns is flows spells good_a good_b port each input =
    let held : Held = held_by_cookie e.options cookie in
    let m : Bool = held.capabilities.message_interleaving in
    let n : Bool = held.capabilities.partial_reliability in
    let ordinary : AreOrdinary more = are_ordinary m n more each in
    let emission : Emission = echo_then cookie bytes more in
    let contents : List Content = emission.packet.contents in
    let h : WholeTaken e emission.packet turns =
    whole_taken law.wire e a emission turns
    (record {
      fits = good_a.fits;
      sendable = record { tag = spells.own.tag; contents = (echo_sendable bytes spells.fits, carried_sendable m n more each) };
      minima = (tt, ordinary.minima);
      echo_in_front = ordinary.no_echo;
      to_this_port = sym port;
      checked = inl refl;
    })
    (echo_admitted e.core emission.packet (first_abort contents) (first_shutdown_complete contents) (has_shutdown_ack contents) (emission.packet.tag == 0) ordinary.no_abort ordinary.no_complete ordinary.no_ack)
    (ap (awaits_opening e) is)
    (λ o rests. subst (λ (core : Core). BeginTurn (counted_at e) core (has_data_chunk e.options.follow_rfc contents) o) is rests) input in
    maintains_chunks e cookie bytes contents more turns h.rest is spells.reads good_b.allow.burst flows each h.parts h.chunks
