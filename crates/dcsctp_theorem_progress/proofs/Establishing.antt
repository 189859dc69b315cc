-- COOKIE ECHO, COOKIE ACK and other packets of an association, with data behind them, at any socket with data that waits.
use Rattle.std.proofs.Common.{◌≡◌, ◌≤◌, ℕ, suc, Bool, true, false, eqb, Option, None, List, [], ◌∷◌, ◌++◌, inl, Result, Ok, refl, sym, subst, ap, ◌∙◌}
use Rattle.std.specs.Prelude.{◌==◌}
use Rattle.dcsctp_spec_lemmas.specs.types.declared.association.Held.{Held}
use Rattle.dcsctp_spec_lemmas.specs.types.declared.options.Options.{Options}
use Rattle.dcsctp_spec_lemmas.specs.types.declared.word.Word.TheVariants.{U64}
use Rattle.dcsctp_spec_lemmas.specs.types.Settings.{ports_of}
use Rattle.dcsctp_spec_lemmas.specs.spec.Cookie.{Cookie, cookie_of_bytes}
use Rattle.dcsctp_spec_lemmas.specs.spec.Packet.{Content, cookie_echo, cookie_ack, Packet, Emission, emission_bytes}
use Rattle.dcsctp_spec_lemmas.specs.spec.association.Effect.{holds, connects, identity_of}
use Rattle.dcsctp_spec_lemmas.specs.spec.association.CookieEchoChanges.{Resolution, establish_new, held_by_cookie}
use Rattle.dcsctp_spec_lemmas.specs.spec.endpoint.Endpoint.{Endpoint, Core, open_in, established, own_tag}
use Rattle.dcsctp_spec_lemmas.specs.spec.endpoint.Event.{connected, packets_of_events}
use Rattle.dcsctp_spec_lemmas.specs.spec.endpoint.Following.{Following, next_chunk}
use Rattle.dcsctp_spec_lemmas.specs.spec.endpoint.Outcome.{Outcome, still, behind, with_effects_first}
use Rattle.dcsctp_spec_lemmas.specs.spec.endpoint.FlushOutcomes.{Answer, flush_answered, flush_of, allows_packet}
use Rattle.dcsctp_spec_lemmas.specs.spec.endpoint.CookieEchoOutcomes.{endpoint_established, queues_kept, resolved_now, EstablishAnswers, ResolvedAnswers, EchoedAnswers, resolve_with_flush, cookie_echo_with_flush, CookieEchoTurn}
use Rattle.dcsctp_spec_lemmas.specs.spec.endpoint.MessageOutcomes.{awaits_opening}
use Rattle.dcsctp_spec_lemmas.specs.spec.endpoint.CallTurns.{Transition, transition, Turns, AfterChunk, ChunkTurns, HandleInput, after_all, events_of}
use Rattle.dcsctp_spec_lemmas.specs.spec.endpoint.Turn.{BeginTurn, packet_ends, packet_begins, arrival, arrival_outcome, has_data_chunk}
use Rattle.dcsctp_spec_lemmas.specs.spec.Admission.{all_chunks, admission_by_answers, all_chunks_or_none, wrong_tag_text, first_abort, first_shutdown_complete, has_shutdown_ack}
use Rattle.dcsctp_theorem_sockets.proofs.HandshakeReads.{counted_at}
use Rattle.dcsctp_theorem_sockets.proofs.HandshakeTurns.{HandshakeLaws, Good, same_tag, not_zero}
use Rattle.dcsctp_theorem_sockets.proofs.Sendable.{echo_sendable}
use Rattle.dcsctp_delivery_directions.specs.sending.Losing.{AreOpen}
use Rattle.dcsctp_theorem_progress.proofs.Views.{told_then}
use Rattle.dcsctp_theorem_progress.proofs.Carried.{all_both}
use Rattle.dcsctp_theorem_progress.proofs.Flows.{Flows, AreCarriedFor, AllCarryTo, told-append}
use Rattle.dcsctp_theorem_progress.proofs.Flushes.{Fronts, front_draft, flush_fronts}
use Rattle.dcsctp_theorem_progress.proofs.Walks.{StayAlong, walked, WholeTaken, whole_taken, AreOrdinary, are_ordinary, carried_sendable}
use Rattle.dcsctp_theorem_progress.proofs.Carrying.{kept_open, sent_then}
use Rattle.dcsctp_theorem_progress.proofs.Echoes.{Spells}

-- ---- what is admitted

pub echo_admitted : (core : Core) (packet : Packet) (aborts completes : Option Bool) (acks zero : Bool) → aborts ≡ None → completes ≡ None → acks ≡ false → admission_by_answers core packet aborts completes acks true zero ≡ all_chunks
echo_admitted core packet aborts completes acks zero a b c =
    ap (λ (x : Option Bool). admission_by_answers core packet x completes acks true zero) a
    ∙ ap (λ (x : Option Bool). admission_by_answers core packet None x acks true zero) b
    ∙ ap (λ (x : Bool). admission_by_answers core packet None None x true zero) c

pub own_admitted : (core : Core) (packet : Packet) (aborts completes : Option Bool) (acks echo : Bool) → aborts ≡ None → completes ≡ None → acks ≡ false → echo ≡ false → own_tag core ≡ packet.tag → 1 ≤ packet.tag
    → admission_by_answers core packet aborts completes acks echo (packet.tag == 0) ≡ all_chunks
own_admitted core packet aborts completes acks echo a b c d own some =
    ap (λ (x : Option Bool). admission_by_answers core packet x completes acks echo (packet.tag == 0)) a
    ∙ ap (λ (x : Option Bool). admission_by_answers core packet None x acks echo (packet.tag == 0)) b
    ∙ ap (λ (x : Bool). admission_by_answers core packet None None x echo (packet.tag == 0)) c
    ∙ ap (λ (x : Bool). admission_by_answers core packet None None false x (packet.tag == 0)) d
    ∙ ap (λ (x : Bool). admission_by_answers core packet None None false false x) (not_zero packet.tag some)
    ∙ ap (λ (x : Bool). all_chunks_or_none x (wrong_tag_text packet.tag (own_tag core))) (ap (eqb packet.tag) own ∙ same_tag packet.tag)

pub goes_on : (t : Transition) (tag : ℕ) (contents : List Content) (turns : List Transition) → t.outcome.following ≡ next_chunk
    → AfterChunk t.outcome.following (ChunkTurns t.outcome.after tag contents (packet_ends ∷ []) turns) (Turns t.outcome.after (packet_ends ∷ []) turns) (turns ≡ []) → ChunkTurns t.outcome.after tag contents (packet_ends ∷ []) turns
goes_on t tag contents turns next rest =
    subst (λ (f : Following). AfterChunk f (ChunkTurns t.outcome.after tag contents (packet_ends ∷ []) turns) (Turns t.outcome.after (packet_ends ∷ []) turns) (turns ≡ [])) next rest

-- ---- COOKIE ECHO

abbrev pub ack_then : Held → ℕ → List Content → Emission
ack_then held tag more = record { with_checksum = held.capabilities.zero_checksum_method.0 == 0; packet = record { tag = tag; contents = cookie_ack ∷ more } }

-- The association is established, and the COOKIE ACK goes first. OnConnected is told so often after that.
pub record AcknowledgesAlong (tells : ℕ → ℕ) (e : Endpoint) (cookie : Cookie) (turns : List Transition) : Type 0 where
  pub core : (after_all e turns).core ≡ open_in established cookie.maker (held_by_cookie e.options cookie)
  pub options : (after_all e turns).options ≡ e.options
  pub flows : Flows (held_by_cookie e.options cookie) (after_all e turns)
  pub told : (n : ℕ) → told_then (events_of turns) n ≡ tells n
  pub more : List Content
  pub carried : AreCarriedFor (held_by_cookie e.options cookie) more
  pub rest : List Emission
  pub others : AllCarryTo (held_by_cookie e.options cookie) rest
  pub packets : packets_of_events (events_of turns) ≡ ack_then (held_by_cookie e.options cookie) cookie.addressee.tag more ∷ rest

-- once more, where there was none
abbrev pub EstablishesAlong : Endpoint → Cookie → List Transition → Type 0
EstablishesAlong e cookie turns = AcknowledgesAlong suc e cookie turns

-- so far as the one chunk goes
pub record AcknowledgesOnce (tells : ℕ → ℕ) (e : Endpoint) (cookie : Cookie) (o : Outcome) : Type 0 where
  pub core : o.after.core ≡ open_in established cookie.maker (held_by_cookie e.options cookie)
  pub options : o.after.options ≡ e.options
  pub flows : Flows (held_by_cookie e.options cookie) o.after
  pub following : o.following ≡ next_chunk
  pub told : (n : ℕ) → told_then o.events n ≡ tells n
  pub more : List Content
  pub carried : AreCarriedFor (held_by_cookie e.options cookie) more
  pub rest : List Emission
  pub others : AllCarryTo (held_by_cookie e.options cookie) rest
  pub packets : packets_of_events o.events ≡ ack_then (held_by_cookie e.options cookie) cookie.addressee.tag more ∷ rest

abbrev pub Established : Endpoint → Cookie → Outcome → Type 0
Established e cookie o = AcknowledgesOnce suc e cookie o

established_by : (e : Endpoint) (at : Core) (cookie : Cookie) (bytes : List ℕ) (o : Outcome) → e.core ≡ at → resolved_now e at cookie.maker.tag cookie ≡ establish_new → cookie_of_bytes bytes ≡ Ok cookie
    → allows_packet e.options.max_burst ≡ true → AreOpen e.queues.queue.streams → CookieEchoTurn e cookie.maker.tag bytes o → Established e cookie o
established_by e at cookie bytes o is case_is reads may are turn =
    let word : ℕ = turn.0 in
    let answers : List Answer = turn.1 in
    let held : Held = held_by_cookie e.options cookie in
    let after : Endpoint = endpoint_established e cookie (queues_kept e cookie) word in
    let draft : Emission = front_draft (held.capabilities.zero_checksum_method.0 == 0) cookie.addressee.tag cookie_ack in
    let at_core : EchoedAnswers e at cookie.maker.tag (cookie_of_bytes bytes) word answers = subst (λ (core : Core). EchoedAnswers e core cookie.maker.tag (cookie_of_bytes bytes) word answers) is turn.2 in
    let allowed : EstablishAnswers e cookie (queues_kept e cookie) word answers =
    subst (λ (case : Resolution). ResolvedAnswers e cookie at word case answers) case_is
    (subst (λ (found : Result Cookie (List ℕ)). EchoedAnswers e at cookie.maker.tag found word answers) reads at_core) in
    let flows : Flows held after = record {
      kind = record { peer = refl; transfer = _; known = refl; interleaves = refl; abandons = refl };
      unpaused = kept_open e.options.follow_rfc e cookie are;
    } in
    let f : Fronts held after draft.with_checksum cookie.addressee.tag cookie_ack (flush_of after draft answers) = flush_fronts held after draft.with_checksum cookie.addressee.tag cookie_ack answers may flows allowed in
    let so : o ≡ with_effects_first (holds (identity_of cookie.maker held) ∷ connects (identity_of cookie.maker held) ∷ []) (behind (U64 word ∷ []) (connected ∷ []) (flush_of after draft answers)) =
    turn.3
    ∙ ap (λ (core : Core). cookie_echo_with_flush (flush_answered answers) e core cookie.maker.tag (cookie_of_bytes bytes) word) is
    ∙ ap (λ (found : Result Cookie (List ℕ)). cookie_echo_with_flush (flush_answered answers) e at cookie.maker.tag found word) reads
    ∙ ap (λ (case : Resolution). resolve_with_flush (flush_answered answers) e cookie at word case) case_is in
    subst (Established e cookie) (sym so)
    (record {
      core = f.core;
      options = f.options;
      flows = f.flows;
      following = f.following;
      told = λ n. ap suc (f.told n);
      more = f.more;
      carried = f.carried;
      rest = f.rest;
      others = f.others;
      packets = f.packets;
    })

begun_chunks : (e : Endpoint) (cookie : Cookie) (bytes : List ℕ) (contents more : List Content) (turns rest : List Transition)
    → ((o : Outcome) → CookieEchoTurn (counted_at e) cookie.maker.tag bytes o → Established (counted_at e) cookie o)
    → AreCarriedFor (held_by_cookie e.options cookie) more → turns ≡ transition arrival (arrival_outcome e) ∷ transition (packet_begins contents) (still (counted_at e)) ∷ rest
    → ChunkTurns (counted_at e) cookie.maker.tag (cookie_echo bytes ∷ more) (packet_ends ∷ []) rest → EstablishesAlong e cookie turns
begun_chunks e cookie bytes contents more turns [] begins each parts h = absurd h
begun_chunks e cookie bytes contents more turns (t ∷ ts) begins each parts h =
    let held : Held = held_by_cookie e.options cookie in
    let f : Established (counted_at e) cookie t.outcome = begins t.outcome h.0.comes in
    let last : StayAlong held t.outcome.after ts =
    walked held cookie.maker t.outcome.after cookie.maker.tag more ts f.core f.flows each (goes_on t cookie.maker.tag more ts f.following h.1) in
    subst (EstablishesAlong e cookie) (sym parts)
    (record {
      core = last.core ∙ f.core;
      options = last.options ∙ f.options;
      flows = last.flows;
      told = λ n. told-append t.outcome.events (events_of ts) n ∙ last.tells.told (told_then t.outcome.events n) ∙ f.told n;
      more = f.more;
      carried = f.carried;
      rest = f.rest ++ packets_of_events (events_of ts);
      others = all_both _ f.rest (packets_of_events (events_of ts)) f.others last.tells.sent;
      packets = sent_then _ f.rest t.outcome.events (events_of ts) f.packets;
    })

-- the packet of the COOKIE ECHO, with these bytes and this behind it
abbrev pub echo_then : Cookie → List ℕ → List Content → Emission
echo_then cookie bytes more = record { with_checksum = true; packet = record { tag = cookie.maker.tag; contents = cookie_echo bytes ∷ more } }

-- A socket at which the one chunk makes an association is established.
pub begun_along : HandshakeLaws → (e : Endpoint) (at : Core) (a : Options) (cookie : Cookie) (bytes : List ℕ) (more : List Content) (turns : List Transition) → e.core ≡ at → awaits_opening e e.core ≡ false
    → ((o : Outcome) → CookieEchoTurn (counted_at e) cookie.maker.tag bytes o → Established (counted_at e) cookie o)
    → ((has : Bool) (f : Endpoint) (o : Outcome) → BeginTurn f at has o → o ≡ still f) → Spells bytes cookie
    → Good a → a.remote_port ≡ e.options.local_port → AreCarriedFor (held_by_cookie e.options cookie) more
    → HandleInput e (emission_bytes (ports_of a) (echo_then cookie bytes more)) turns → EstablishesAlong e cookie turns
begun_along law e at a cookie bytes more turns is asks takes begins spells good port each input =
    let held : Held = held_by_cookie e.options cookie in
    let ordinary : AreOrdinary more = are_ordinary held.capabilities.message_interleaving held.capabilities.partial_reliability more each in
    let emission : Emission = echo_then cookie bytes more in
    let h : WholeTaken e emission.packet turns =
    whole_taken law.wire e a emission turns
    (record {
      fits = good.fits;
      sendable = record { tag = spells.own.tag; contents = (echo_sendable bytes spells.fits, carried_sendable held.capabilities.message_interleaving held.capabilities.partial_reliability more each) };
      minima = (tt, ordinary.minima);
      echo_in_front = ordinary.no_echo;
      to_this_port = sym port;
      checked = inl refl;
    })
    (echo_admitted e.core emission.packet (first_abort emission.packet.contents) (first_shutdown_complete emission.packet.contents) (has_shutdown_ack emission.packet.contents) (emission.packet.tag == 0)
    ordinary.no_abort ordinary.no_complete ordinary.no_ack) asks
    (λ o rests. begins (has_data_chunk e.options.follow_rfc emission.packet.contents) (counted_at e) o (subst (λ (core : Core). BeginTurn (counted_at e) core (has_data_chunk e.options.follow_rfc emission.packet.contents) o) is rests)) input in
    begun_chunks e cookie bytes emission.packet.contents more turns h.rest takes each h.parts h.chunks

-- A socket that knows no peer is established by its own cookie.
pub establishes_along : HandshakeLaws → (e : Endpoint) (at : Core) (a : Options) (cookie : Cookie) (bytes : List ℕ) (more : List Content) (turns : List Transition) → e.core ≡ at → awaits_opening e e.core ≡ false
    → resolved_now (counted_at e) at cookie.maker.tag cookie ≡ establish_new → ((has : Bool) (f : Endpoint) (o : Outcome) → BeginTurn f at has o → o ≡ still f) → Spells bytes cookie
    → AreOpen e.queues.queue.streams → Good a → Good e.options → a.remote_port ≡ e.options.local_port → AreCarriedFor (held_by_cookie e.options cookie) more
    → HandleInput e (emission_bytes (ports_of a) (echo_then cookie bytes more)) turns → EstablishesAlong e cookie turns
establishes_along law e at a cookie bytes more turns is asks case_is begins spells are good_a good_b port each input =
    begun_along law e at a cookie bytes more turns is asks (λ o turn. established_by (counted_at e) at cookie bytes o is case_is spells.reads good_b.allow.burst are turn)
    begins spells good_a port each input
