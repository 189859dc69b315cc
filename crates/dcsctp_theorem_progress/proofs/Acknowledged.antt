-- COOKIE ACK, and other packets of an Established association, with data in them.
use Rattle.std.proofs.Common.{◌≡◌, ◌≢◌, ◌≤◌, ◌<◌, ◌^◌, ◌⊎◌, ℕ, suc, Bool, true, false, List, [], ◌∷◌, refl, sym, subst, ap, ◌∙◌}
use Rattle.dcsctp_spec_lemmas.specs.types.declared.association.Pair.{Pair}
use Rattle.dcsctp_spec_lemmas.specs.types.declared.association.Held.{Held}
use Rattle.dcsctp_spec_lemmas.specs.types.declared.options.Options.{Options}
use Rattle.dcsctp_spec_lemmas.specs.types.Settings.{FitsOptions, ports_of}
use Rattle.dcsctp_spec_lemmas.specs.spec.CookieFits.{FitsPair}
use Rattle.dcsctp_spec_lemmas.specs.spec.Packet.{Content, cookie_ack, Emission, emission_bytes}
use Rattle.dcsctp_spec_lemmas.specs.spec.association.Effect.{connects, identity_of}
use Rattle.dcsctp_spec_lemmas.specs.spec.endpoint.Endpoint.{Endpoint, Core, cookie_echoed, open_in, established, own_tag}
use Rattle.dcsctp_spec_lemmas.specs.spec.endpoint.Event.{connected, packets_of_events}
use Rattle.dcsctp_spec_lemmas.specs.spec.endpoint.Following.{next_chunk}
use Rattle.dcsctp_spec_lemmas.specs.spec.endpoint.Outcome.{Outcome, still, behind, with_effects_first}
use Rattle.dcsctp_spec_lemmas.specs.spec.endpoint.FlushOutcomes.{Answer, flush_answered, flush_of, draft_to}
use Rattle.dcsctp_spec_lemmas.specs.spec.endpoint.HandshakeOutcomes.{connected_after, CookieAckAnswers, CookieAckTurn, cookie_ack_with_flush}
use Rattle.dcsctp_spec_lemmas.specs.spec.endpoint.MessageOutcomes.{awaits_opening}
use Rattle.dcsctp_spec_lemmas.specs.spec.endpoint.CallTurns.{Transition, transition, ChunkTurns, HandleInput, after_all, events_of}
use Rattle.dcsctp_spec_lemmas.specs.spec.endpoint.Turn.{BeginTurn, packet_ends, packet_begins, arrival, arrival_outcome, has_data_chunk}
use Rattle.dcsctp_spec_lemmas.specs.spec.Admission.{first_abort, first_shutdown_complete, has_shutdown_ack, is_echo_in_front}
use Rattle.dcsctp_theorem_sockets.proofs.Bursts.{packets_of_events-append}
use Rattle.dcsctp_theorem_sockets.proofs.HandshakeReads.{Wire, counted_at}
use Rattle.dcsctp_theorem_sockets.proofs.Sendable.{ack_sendable}
use Rattle.dcsctp_theorem_progress.proofs.Views.{told_then}
use Rattle.dcsctp_theorem_progress.proofs.Carried.{Carries, CarriesTo, AreCarried, all_both}
use Rattle.dcsctp_theorem_progress.proofs.Flows.{HasPeer, is_open, is_echoing, Flows, AllCarryTo, AreCarriedFor, told-append}
use Rattle.dcsctp_theorem_progress.proofs.Flushes.{Stays, flush_stays}
use Rattle.dcsctp_theorem_progress.proofs.Walks.{StayAlong, walked_on, walked, WholeTaken, whole_taken, AreOrdinary, are_ordinary, carried_sendable, no_front, tail_no_echo}
use Rattle.dcsctp_theorem_progress.proofs.Establishing.{own_admitted, goes_on}

-- ---- COOKIE ACK

-- The association is established.
pub record ConnectsAlong (e : Endpoint) (p : Pair) (held : Held) (turns : List Transition) : Type 0 where
  pub core : (after_all e turns).core ≡ open_in established p held
  pub options : (after_all e turns).options ≡ e.options
  pub flows : Flows held (after_all e turns)
  pub told : (n : ℕ) → told_then (events_of turns) n ≡ suc n
  pub sent : AllCarryTo held (packets_of_events (events_of turns))

record Connects (e : Endpoint) (p : Pair) (held : Held) (o : Outcome) : Type 0 where
  core : o.after.core ≡ open_in established p held
  options : o.after.options ≡ e.options
  flows : Flows held o.after
  following : o.following ≡ next_chunk
  told : (n : ℕ) → told_then o.events n ≡ suc n
  sent : AllCarryTo held (packets_of_events o.events)

connected_by : (e : Endpoint) (p : Pair) (held : Held) (bytes : List ℕ) (o : Outcome) → e.core ≡ cookie_echoed p held bytes → Flows held e → CookieAckTurn e o → Connects e p held o
connected_by e p held bytes o is f turn =
    let answers : List Answer = turn.0 in
    let after : Endpoint = connected_after e p held in
    let allowed : CookieAckAnswers e (cookie_echoed p held bytes) answers = subst (λ (core : Core). CookieAckAnswers e core answers) is turn.1 in
    let flows : Flows held after = record {
      kind = record { peer = refl; transfer = f.kind.transfer; known = f.kind.known; interleaves = f.kind.interleaves; abandons = f.kind.abandons };
      unpaused = f.unpaused;
    } in
    let last : Stays held after (flush_of after (draft_to held) answers) = flush_stays held after (draft_to held) answers flows (record { checked = refl; header = refl; contents = tt }) allowed in
    let so : o ≡ with_effects_first (connects (identity_of p held) ∷ []) (behind [] (connected ∷ []) (flush_of after (draft_to held) answers)) =
    turn.2 ∙ ap (cookie_ack_with_flush (flush_answered answers) e) is in
    subst (Connects e p held) (sym so)
    (record { core = last.core; options = last.options; flows = last.flows; following = last.following; told = λ n. ap suc (last.tells.told n); sent = last.tells.sent })

pub counted_flows : (held : Held) (e : Endpoint) → Flows held e → Flows held (counted_at e)
counted_flows held e f =
    record {
      kind = record { peer = f.kind.peer; transfer = f.kind.transfer; known = f.kind.known; interleaves = f.kind.interleaves; abandons = f.kind.abandons };
      unpaused = f.unpaused;
    }

connects_chunks : (e : Endpoint) (p : Pair) (held : Held) (bytes : List ℕ) (tag : ℕ) (contents more : List Content) (turns rest : List Transition) → e.core ≡ cookie_echoed p held bytes → Flows held e
    → AreCarriedFor held more → turns ≡ transition arrival (arrival_outcome e) ∷ transition (packet_begins contents) (still (counted_at e)) ∷ rest
    → ChunkTurns (counted_at e) tag (cookie_ack ∷ more) (packet_ends ∷ []) rest → ConnectsAlong e p held turns
connects_chunks e p held bytes tag contents more turns [] is f each parts h = absurd h
connects_chunks e p held bytes tag contents more turns (t ∷ ts) is f each parts h =
    let first : Connects (counted_at e) p held t.outcome = connected_by (counted_at e) p held bytes t.outcome is (counted_flows held e f) h.0.comes in
    let last : StayAlong held t.outcome.after ts = walked held p t.outcome.after tag more ts first.core first.flows each (goes_on t tag more ts first.following h.1) in
    subst (ConnectsAlong e p held) (sym parts)
    (record {
      core = last.core ∙ first.core;
      options = last.options ∙ first.options;
      flows = last.flows;
      told = λ n. told-append t.outcome.events (events_of ts) n ∙ last.tells.told (told_then t.outcome.events n) ∙ first.told n;
      sent = subst (AllCarryTo held) (sym (packets_of_events-append t.outcome.events (events_of ts)))
          (all_both (CarriesTo held) (packets_of_events t.outcome.events) (packets_of_events (events_of ts)) first.sent last.tells.sent);
    })

-- a packet that begins with COOKIE ACK
abbrev pub ack_with : Bool → ℕ → List Content → Emission
ack_with with_checksum tag more = record { with_checksum = with_checksum; packet = record { tag = tag; contents = cookie_ack ∷ more } }

-- The socket that awaits it is established.
pub connects_along : Wire → (e : Endpoint) (b : Options) (p : Pair) (held : Held) (bytes : List ℕ) (with_checksum : Bool) (more : List Content) (turns : List Transition) → e.core ≡ cookie_echoed p held bytes
    → awaits_opening e e.core ≡ false → Flows held e → FitsOptions b → FitsPair p → b.remote_port ≡ e.options.local_port
    → (with_checksum ≡ true) ⊎ (e.options.zero_checksum_alternate_error_detection_method.0 ≢ 0) → AreCarriedFor held more
    → HandleInput e (emission_bytes (ports_of b) (ack_with with_checksum p.tag more)) turns → ConnectsAlong e p held turns
connects_along law e b p held bytes with_checksum more turns is asks f good mine port checked each input =
    let m : Bool = held.capabilities.message_interleaving in
    let n : Bool = held.capabilities.partial_reliability in
    let ordinary : AreOrdinary more = are_ordinary m n more each in
    let emission : Emission = ack_with with_checksum p.tag more in
    let h : WholeTaken e emission.packet turns =
    whole_taken law e b emission turns
    (record {
      fits = good;
      sendable = record { tag = mine.tag; contents = (ack_sendable, carried_sendable m n more each) };
      minima = (tt, ordinary.minima);
      echo_in_front = ordinary.no_echo;
      to_this_port = sym port;
      checked = checked;
    })
    (own_admitted e.core emission.packet (first_abort emission.packet.contents) (first_shutdown_complete emission.packet.contents) (has_shutdown_ack emission.packet.contents) (is_echo_in_front emission.packet.contents)
    ordinary.no_abort ordinary.no_complete ordinary.no_ack refl (ap own_tag is) mine.tag_is_not_zero) asks
    (λ o rests. subst (λ (core : Core). BeginTurn (counted_at e) core (has_data_chunk e.options.follow_rfc emission.packet.contents) o) is rests) input in
    connects_chunks e p held bytes p.tag emission.packet.contents more turns h.rest is f each h.parts h.chunks

-- ---- an Established socket

own_of : (my : Pair) (held : Held) (core : Core) → HasPeer my held core → own_tag core ≡ my.tag
own_of my held core (is_open is) = ap own_tag is
own_of my held core (is_echoing bytes is) = ap own_tag is

begins_still : (my : Pair) (held : Held) (core : Core) (has : Bool) (e : Endpoint) (o : Outcome) → HasPeer my held core → BeginTurn e core has o → o ≡ still e
begins_still my held core has e o (is_open is) rests = subst (λ (c : Core). BeginTurn e c has o) is rests
begins_still my held core has e o (is_echoing bytes is) rests = subst (λ (c : Core). BeginTurn e c has o) is rests

-- It stays so, and its peer takes what it sends. So it is while it awaits the COOKIE ACK.
pub peer_along : Wire → (e : Endpoint) (theirs : Options) (my : Pair) (held : Held) (m n with_checksum : Bool) (emission : Emission) (turns : List Transition) → HasPeer my held e.core → awaits_opening e e.core ≡ false → Flows held e
    → FitsOptions theirs → FitsPair my → theirs.remote_port ≡ e.options.local_port → m ≡ held.capabilities.message_interleaving → n ≡ held.capabilities.partial_reliability
    → (with_checksum ≡ true) ⊎ (e.options.zero_checksum_alternate_error_detection_method.0 ≢ 0) → Carries m n with_checksum my.tag emission
    → HandleInput e (emission_bytes (ports_of theirs) emission) turns → StayAlong held e turns
peer_along law e theirs my held m n with_checksum emission turns is asks f good mine port interleaves abandons checked carries input =
    let contents : List Content = emission.packet.contents in
    let ordinary : AreOrdinary contents = are_ordinary m n contents carries.contents in
    let h : WholeTaken e emission.packet turns =
    whole_taken law e theirs emission turns
    (record {
      fits = good;
      sendable = record { tag = subst (λ (tag : ℕ). tag < 2 ^ 32) (sym carries.header) mine.tag; contents = carried_sendable m n contents carries.contents };
      minima = ordinary.minima;
      echo_in_front = tail_no_echo _ ordinary.no_echo;
      to_this_port = sym port;
      checked = subst (λ (b : Bool). (b ≡ true) ⊎ (e.options.zero_checksum_alternate_error_detection_method.0 ≢ 0)) (sym carries.checked) checked;
    })
    (own_admitted e.core emission.packet (first_abort contents) (first_shutdown_complete contents) (has_shutdown_ack contents) (is_echo_in_front contents)
    ordinary.no_abort ordinary.no_complete ordinary.no_ack (no_front m n contents carries.contents) (own_of my held e.core is ∙ sym carries.header) (subst (λ (tag : ℕ). 1 ≤ tag) (sym carries.header) mine.tag_is_not_zero))
    asks (λ o rests. begins_still my held e.core (has_data_chunk e.options.follow_rfc contents) (counted_at e) o is rests) input in
    let each : AreCarriedFor held contents =
    subst (λ (b : Bool). AreCarried held.capabilities.message_interleaving b contents) abandons (subst (λ (b : Bool). AreCarried b n contents) interleaves carries.contents) in
    let counted : Flows held (counted_at e) = record {
      kind = record { peer = f.kind.peer; transfer = f.kind.transfer; known = f.kind.known; interleaves = f.kind.interleaves; abandons = f.kind.abandons };
      unpaused = f.unpaused;
    } in
    let last : StayAlong held (counted_at e) h.rest = walked_on held my (counted_at e) emission.packet.tag contents h.rest is counted each h.chunks in
    subst (StayAlong held e) (sym h.parts) (record { core = last.core; options = last.options; asked = last.asked; flows = last.flows; tells = last.tells; trying = record { moment = last.trying.moment; t1 = last.trying.t1; errors = last.trying.errors } })

pub opened_along : Wire → (e : Endpoint) (theirs : Options) (my : Pair) (held : Held) (m n with_checksum : Bool) (emission : Emission) (turns : List Transition) → e.core ≡ open_in established my held → Flows held e
    → FitsOptions theirs → FitsPair my → theirs.remote_port ≡ e.options.local_port → m ≡ held.capabilities.message_interleaving → n ≡ held.capabilities.partial_reliability
    → (with_checksum ≡ true) ⊎ (e.options.zero_checksum_alternate_error_detection_method.0 ≢ 0) → Carries m n with_checksum my.tag emission
    → HandleInput e (emission_bytes (ports_of theirs) emission) turns → StayAlong held e turns
opened_along law e theirs my held m n with_checksum emission turns is f good mine port interleaves abandons checked carries input =
    peer_along law e theirs my held m n with_checksum emission turns (is_open is) (ap (awaits_opening e) is) f good mine port interleaves abandons checked carries input
