-- Runs of two sockets with their inputs and numbers, written by hand and computed by the definitions:
-- a wrong rule in specs/ would not check here.
use Rattle.std.proofs.Common.{false, ◌≡◌, ℕ, Bool, true, eqb, None, Some, List, [], ◌∷◌, ◌++◌, map, inl, inr, refl, sym, subst}
use Rattle.dcsctp_spec_lemmas.specs.wire.declared.reconfiguration.ReconfigurationResponseResult.TheVariants.{SuccessPerformed, InProgress}
use Rattle.dcsctp_spec_lemmas.specs.types.declared.association.Pair.{Pair}
use Rattle.dcsctp_spec_lemmas.specs.types.declared.options.Options.{Options}
use Rattle.dcsctp_spec_lemmas.specs.types.declared.schedule.Side.TheVariants as sides
use Rattle.dcsctp_spec_lemmas.specs.types.Schedule.{connect_call, call_step, step_act}
use Rattle.dcsctp_spec_lemmas.specs.types.Settings.{ports_of}
use Rattle.dcsctp_spec_lemmas.specs.spec.Cookie.{cookie_bytes}
use Rattle.dcsctp_spec_lemmas.specs.spec.Reconfiguration.{reconfiguration_response}
use Rattle.dcsctp_spec_lemmas.specs.spec.Packet.{Content, init, init_ack, cookie_echo, cookie_ack, re_config, Packet, emission_bytes}
use Rattle.dcsctp_spec_lemmas.specs.spec.endpoint.Endpoint.{Endpoint, cookie_wait, cookie_echoed, fresh_endpoint}
use Rattle.dcsctp_spec_lemmas.specs.types.Offer.{offer_of, agreed_method}
use Rattle.dcsctp_spec_lemmas.specs.spec.CookieFits.{FitsPair}
use Rattle.dcsctp_spec_lemmas.specs.spec.endpoint.HandshakeOutcomes.{pair_from}
use Rattle.dcsctp_spec_lemmas.specs.spec.association.HandshakeChanges.{introduction_of}
use Rattle.dcsctp_spec_lemmas.specs.spec.endpoint.Outcome.{Outcome, still}
use Rattle.dcsctp_spec_lemmas.specs.spec.endpoint.Following.{Following, next_chunk}
use Rattle.dcsctp_spec_lemmas.specs.spec.endpoint.Turn.{Input, arrival, packet_begins, chunk_input, packet_ends, act_input, has_data_chunk, BeginTurn, ContentTurn, arrival_outcome}
use Rattle.dcsctp_spec_lemmas.specs.spec.endpoint.MessageOutcomes.{awaits_opening}
use Rattle.dcsctp_spec_lemmas.specs.spec.endpoint.CallTurns.{packet_tail, asked_again, Transition, transition, Turns, AfterChunk, ChunkTurns, WholeTurns, AdmittedTurns, HandleInput, readable}
use Rattle.dcsctp_spec_lemmas.specs.spec.association.Effect.{AssociationIdentity, identity_of, Effect, draws, holds, connects, begins, gives_up, completes, accepts, performs}
use Rattle.dcsctp_spec_lemmas.specs.spec.association.Acts.{connect}
use Rattle.dcsctp_spec_lemmas.specs.spec.Admission.{Admission, all_chunks, admits}
use Rattle.dcsctp_spec_runs.specs.Past.{Each, InPlace}
use Rattle.dcsctp_spec_runs.specs.Sockets.{PerformedAct, Both, SocketRun, turns_after, endpoint_after}
use Rattle.dcsctp_theorem_sockets.specs.Agreement.{IsUsable, AreUsable, recorded_past}
use Rattle.dcsctp_theorem_sockets.specs.OneSocket.{EndsByAnswer}
use Rattle.dcsctp_theorem_sockets.specs.Handshake.{AreFitting, AreConnected}
use Rattle.dcsctp_theorem_sockets.proofs.Deliver.{built, built_reads}
use Rattle.dcsctp_theorem_sockets.proofs.HandshakeReads.{Wire, IsTaken, alone, counted_at, delivered, is_read}
use Rattle.dcsctp_theorem_sockets.proofs.HandshakeTurns.{HandshakeLaws, Good, awaiting_idle, connect_sends, answering, answer_sends, init_is_taken, waiting, made_cookie, case_at_start, answer_to, echoing, echo_sends, answer_is_taken, ack_admitted}
use Rattle.dcsctp_theorem_sockets.proofs.HandshakeEnds.{connected_idle, none_is_asked, begun_by, answered_by, echoed_by, acknowledged_by, connected_by, answered as answered_once, acknowledgement, establishing, cookie_reads, established_idle, established_sends, echo_is_taken, awaited, held_here, connecting_last, ack_admitted as cookie_ack_admitted, ack_is_taken}
use Rattle.dcsctp_theorem_sockets.proofs.HandshakeRuns.{run_of, fitting_sockets_connect}
use Rattle.dcsctp_theorem_sockets.proofs.Idle.{OwesNothing, still_ends}
use Rattle.dcsctp_theorem_sockets.proofs.IdleTurns.{init_ack_turn_of, cookie_echo_turn_of, cookie_ack_turn_of}
use Rattle.dcsctp_theorem_sockets.proofs.TurnsFit.{drawn_fits}

-- ---- numbers

abbrev mine : Pair
mine = record { tag = 7; first_tsn = 1 }

abbrev theirs : Pair
theirs = record { tag = 9; first_tsn = 5 }

-- a turn that recorded this
abbrev noted_by : Endpoint → Input → List Effect → Transition
noted_by e input effects = transition input (record (still e) { effects = effects })

-- a RE-CONFIG with an answer to this number, under our own tag
abbrev answered : ℕ → Input
answered number = chunk_input 7 (re_config (reconfiguration_response number SuccessPerformed ∷ []))

abbrev connected_with : AssociationIdentity → Endpoint → List Transition
connected_with link e =
    noted_by e (act_input connect) (draws mine ∷ []) ∷ noted_by e (chunk_input 7 cookie_ack) (holds link ∷ connects link ∷ begins 1 ∷ []) ∷ []

-- Our numbers begin at our first TSN and go up by one, and each request ends before the next begins.
two_requests : (e : Endpoint) (link : AssociationIdentity) → Each InPlace (recorded_past (connected_with (record link { my = mine }) e
    ++ noted_by e (answered 1) (completes mine 1 ∷ begins 2 ∷ []) ∷ noted_by e (answered 2) (completes mine 2 ∷ []) ∷ []))
two_requests e link = ((refl, refl), ((refl, refl), ((refl, refl), ((refl, refl), (refl, (tt, (tt, tt)))))))

-- A number that is left out is refused,
left_out : (e : Endpoint) (link : AssociationIdentity) → Each InPlace (recorded_past (connected_with (record link { my = mine }) e ++ noted_by e (answered 1) (completes mine 1 ∷ begins 3 ∷ []) ∷ [])) → ⊥
left_out e link each = let same : Some 2 ≡ Some 3 = each.0.0 in absurd (cc)

-- and so is one that begins while another is outstanding.
while_outstanding : (e : Endpoint) (link : AssociationIdentity) → Each InPlace (recorded_past (connected_with (record link { my = mine }) e ++ noted_by e (act_input connect) (begins 2 ∷ []) ∷ [])) → ⊥
while_outstanding e link each = let same : Some 1 ≡ None = each.0.1 in absurd (cc)

-- The next number takes the place of one that is given up,
given_up : (e : Endpoint) (link : AssociationIdentity) → Each InPlace (recorded_past (connected_with (record link { my = mine }) e
    ++ noted_by e (act_input connect) (gives_up 1 ∷ begins 2 ∷ []) ∷ noted_by e (answered 2) (completes mine 2 ∷ []) ∷ []))
given_up e link = ((refl, refl), ((refl, refl), (refl, ((refl, refl), (refl, (tt, (tt, tt)))))))

-- which has no end then.
ended_given_up : (e : Endpoint) (link : AssociationIdentity) → Each InPlace (recorded_past (connected_with (record link { my = mine }) e
    ++ noted_by e (act_input connect) (gives_up 1 ∷ begins 2 ∷ []) ∷ noted_by e (answered 1) (completes mine 1 ∷ []) ∷ [])) → ⊥
ended_given_up e link each = let same : Some 2 ≡ Some 1 = each.0.0 in absurd (cc)

-- One that has ended isn't given up.
given_up_late : (e : Endpoint) (link : AssociationIdentity) → Each InPlace (recorded_past (connected_with (record link { my = mine }) e
    ++ noted_by e (answered 1) (completes mine 1 ∷ []) ∷ noted_by e (act_input connect) (gives_up 1 ∷ begins 2 ∷ []) ∷ [])) → ⊥
given_up_late e link each = let same : None ≡ Some 1 = each.1.0 in absurd (cc)

-- The peer's request 5 is accepted and performed,
one_performance : (e : Endpoint) (link : AssociationIdentity)
    → Each InPlace (recorded_past (connected_with (record link { my = mine; peer = theirs }) e ++ noted_by e (act_input connect) (accepts 5 ∷ performs theirs 5 ∷ []) ∷ []))
one_performance e link = ((refl, refl), (refl, ((refl, refl), (refl, (tt, (tt, tt))))))

-- and not again.
performed_again : (e : Endpoint) (link : AssociationIdentity)
    → Each InPlace (recorded_past (connected_with (record link { peer = theirs }) e ++ noted_by e (act_input connect) (accepts 5 ∷ performs theirs 5 ∷ performs theirs 5 ∷ []) ∷ [])) → ⊥
performed_again e link each = let same : None ≡ Some 5 = each.0.0 in absurd (cc)

-- A request ends in the turn of its answer,
ended_by_answer : (e : Endpoint) → EndsByAnswer (noted_by e (answered 1) (completes mine 1 ∷ []))
ended_by_answer e =
    record {
      completed = λ my number has. elim has [ inl is ↦ inl (cc, tt) | inr none ↦ absurd none ];
      failed = λ number has. elim has [ inl is ↦ absurd (cc) | inr none ↦ absurd none ];
    }

-- and not in that of another number, nor in one that is in progress.
ended_by_another : (e : Endpoint) → EndsByAnswer (noted_by e (answered 2) (completes mine 1 ∷ [])) → ⊥
ended_by_another e h = elim (h.completed mine 1 (inl refl)) [ inl is ↦ let same : 1 ≡ 2 = is.0 in absurd (cc) | inr none ↦ none ]

ended_in_progress : (e : Endpoint) → EndsByAnswer (noted_by e (chunk_input 7 (re_config (reconfiguration_response 1 InProgress ∷ []))) (completes mine 1 ∷ [])) → ⊥
ended_in_progress e h = elim (h.completed mine 1 (inl refl)) [ inl is ↦ is.1 | inr none ↦ none ]

-- ---- a packet of one chunk that is handed in

-- It is a call of its turns.
gives : Wire → (e : Endpoint) (other : Options) (with_checksum : Bool) (tag : ℕ) (content : Content) (o : Outcome) → IsTaken e.options other with_checksum tag content
    → admits e.core (record { tag = tag; contents = content ∷ [] }) ≡ all_chunks → BeginTurn (counted_at e) e.core (has_data_chunk e.options.follow_rfc (content ∷ [])) (still (counted_at e))
    → ContentTurn (counted_at e) tag content o → o.following ≡ next_chunk → OwesNothing o.after.queues.transfer → awaits_opening e e.core ≡ false → HandleInput e (emission_bytes (ports_of other) (alone with_checksum tag content)) (delivered e tag content o)
gives law e other with_checksum tag content o h admitted begun comes goes_on owes none_asked =
    let packet : Packet = record { tag = tag; contents = content ∷ [] } in
    let last : List Transition = transition packet_ends (still o.after) ∷ [] in
    let rest : List Transition = transition (packet_begins (content ∷ [])) (still (counted_at e)) ∷ transition (chunk_input tag content) o ∷ last in
    let behind : AfterChunk o.following (ChunkTurns o.after tag [] (packet_ends ∷ []) last) (Turns o.after (packet_ends ∷ []) last) (last ≡ []) =
    subst (λ (f : Following). AfterChunk f (ChunkTurns o.after tag [] (packet_ends ∷ []) last) (Turns o.after (packet_ends ∷ []) last) (last ≡ [])) (sym goes_on)
    (record { is = refl; comes = still_ends o.after owes }, tt) in
    let chunk : ChunkTurns (counted_at e) tag (content ∷ []) (packet_ends ∷ []) (transition (chunk_input tag content) o ∷ last) = (record { is = refl; comes = comes }, behind) in
    let tail : ChunkTurns (counted_at e) tag (content ∷ []) (packet_tail (counted_at e)) (transition (chunk_input tag content) o ∷ last) =
    subst (λ (asks : Bool). ChunkTurns (counted_at e) tag (content ∷ []) (packet_ends ∷ asked_again asks) (transition (chunk_input tag content) o ∷ last)) (sym none_asked) chunk in
    let whole : WholeTurns (counted_at e) packet rest = (record { is = refl; comes = begun }, tail) in
    readable (built (ports_of other) packet) (transition arrival (arrival_outcome e)) rest (is_read law e.options other with_checksum tag content h) (record { is = refl; comes = refl })
    (subst (λ (p : Packet). AdmittedTurns (counted_at e) p (admits e.core p) rest) (sym (built_reads (ports_of other) packet h.sendable))
    (subst (λ (a : Admission). AdmittedTurns (counted_at e) packet a rest) (sym admitted) whole))

-- ---- the handshake, with an act after it

-- The words that the two draw, their tie tags too.
record Words : Type 0 where
  word : ℕ
  next : ℕ
  word' : ℕ
  next' : ℕ
  tie : ℕ
  tie' : ℕ

abbrev pair_a : Words → Pair
pair_a w = pair_from w.word w.next

abbrev pair_b : Words → Pair
pair_b w = pair_from w.word' w.next'

-- A connects, the four packets are delivered in turn, and A connects once more, which changes nothing.
abbrev five_acts : Options → Options → Words → List PerformedAct
five_acts a b w =
    run_of sides.A (begun_by a w.word w.next) (answered_by a b (pair_a w) w.word' w.next') (echoed_by a b (pair_a w) (pair_b w) w.tie)
    (acknowledged_by a b (pair_a w) (pair_b w) w.tie') (connected_by a b (pair_a w) (pair_b w) w.tie)

abbrev six_acts : Options → Options → Words → List PerformedAct
six_acts a b w =
    record { act = step_act (call_step sides.A connect_call); turns = transition (act_input connect) (still (endpoint_after a (turns_after (five_acts a b w)).a)) ∷ [] } ∷ five_acts a b w

handshake_runs : HandshakeLaws → (a b : Options) (w : Words) → Good a → Good b → a.remote_port ≡ b.local_port → b.remote_port ≡ a.local_port → SocketRun (record { a = a; b = b }) (five_acts a b w)
handshake_runs law a b w good_a good_b to_b to_a =
    let p : Pair = pair_a w in
    let q : Pair = pair_b w in
    let own : FitsPair p = drawn_fits w.word w.next in
    let other : FitsPair q = drawn_fits w.word' w.next' in
    let bytes : List ℕ = cookie_bytes (made_cookie a b p q) in
    let first : Turns (fresh_endpoint a) (act_input connect ∷ []) (begun_by a w.word w.next) =
    (record { is = refl; comes = (w.word, w.next, sym (connect_sends a w.word w.next good_a.allow.mtu)) }, tt) in
    let second = gives law.wire (fresh_endpoint b) a true 0 (init (introduction_of a p)) (answering a b p w.word' w.next') (init_is_taken law a b p good_a own to_b) refl refl
    (w.word', w.next', sym (answer_sends a b p w.word' w.next' good_b.allow.mtu)) refl tt refl in
    let third = gives law.wire (waiting a p) b (eqb (agreed_method (offer_of b) (offer_of a)) 0) p.tag (init_ack (answer_to a b p q) (Some bytes)) (echoing a b p q w.tie)
    (answer_is_taken law a b p q good_b own other to_a) (ack_admitted (cookie_wait p) (answer_to a b p q) bytes p.tag refl own.tag_is_not_zero) refl
    (init_ack_turn_of (counted_at (waiting a p)) (answer_to a b p q) bytes p w.tie (echoing a b p q w.tie) refl (awaiting_idle a b p q w.tie) (sym (echo_sends a b p q w.tie good_a))) refl (refl, refl) refl in
    let fourth = gives law.wire (answered_once b q) a true q.tag (cookie_echo bytes) (establishing a b p q w.tie') (echo_is_taken a b p q good_a other to_b) refl refl
    (cookie_echo_turn_of (counted_at (answered_once b q)) q.tag bytes (made_cookie a b p q) w.tie' (establishing a b p q w.tie') refl (cookie_reads law a b p q good_a own other)
    (case_at_start (counted_at (answered_once b q)) a b p q refl refl refl refl other.tag_is_not_zero) (established_idle a b p q w.tie') (sym (established_sends a b p q w.tie' good_b))) refl (refl, refl) refl in
    let fifth = gives law.wire (awaited a b p q w.tie) b (acknowledgement a b p q).with_checksum p.tag cookie_ack (connecting_last a b p q w.tie) (ack_is_taken a b p q good_b own to_a)
    (cookie_ack_admitted (cookie_echoed p (held_here a b p q) bytes) p.tag refl own.tag_is_not_zero) refl
    (cookie_ack_turn_of (counted_at (awaited a b p q w.tie)) p (held_here a b p q) bytes (connecting_last a b p q w.tie) refl (connected_idle a b p q w.tie) refl) refl (refl, refl) (none_is_asked a.follow_rfc) in
    (fifth, (fourth, (third, (second, (first, tt)))))

six_run : HandshakeLaws → (a b : Options) (w : Words) → Good a → Good b → a.remote_port ≡ b.local_port → b.remote_port ≡ a.local_port → SocketRun (record { a = a; b = b }) (six_acts a b w)
six_run law a b w good_a good_b to_b to_a = ((record { is = refl; comes = (0, 0, refl) }, tt), handshake_runs law a b w good_a good_b to_b to_a)

-- ---- what it keeps

by_side : (options : Both Options) → IsUsable options.a → IsUsable options.b → AreUsable options
by_side options a b sides.A = a
by_side options a b sides.B = b

abbrev inputs_of : List Transition → List Input
inputs_of turns = map (λ (turn : Transition). turn.input) turns

inputs_of_a : (a b : Options) (w : Words) → let cookie = cookie_bytes (made_cookie a b (pair_a w) (pair_b w)) in
    let answer = init_ack (answer_to a b (pair_a w) (pair_b w)) (Some cookie) in
    inputs_of (turns_after (six_acts a b w)).a
    ≡ act_input connect
    ∷ arrival ∷ packet_begins (answer ∷ []) ∷ chunk_input (pair_a w).tag answer ∷ packet_ends
    ∷ arrival ∷ packet_begins (cookie_ack ∷ []) ∷ chunk_input (pair_a w).tag cookie_ack ∷ packet_ends
    ∷ act_input connect ∷ []
inputs_of_a a b w = refl

-- one pair was drawn, one association held, and it was connected once
noted_by_a : (a b : Options) (w : Words) → let link = identity_of (pair_a w) (held_here a b (pair_a w) (pair_b w)) in
    recorded_past (turns_after (six_acts a b w)).a ≡ connects link ∷ holds link ∷ draws (pair_a w) ∷ []
noted_by_a a b w = refl

-- In the run of six acts, the two are connected after the first five.
connected_before_it : HandshakeLaws → (a b : Options) (w : Words) → Good a → Good b → AreFitting (record { a = a; b = b })
    → AreConnected (record { a = a; b = b }) (turns_after (five_acts a b w))
connected_before_it law a b w good_a good_b fit =
    let options : Both Options = record { a = a; b = b } in
    let are : AreUsable options = by_side options (record { valid = good_a.valid; fits = good_a.fits }) (record { valid = good_b.valid; fits = good_b.fits }) in
    (fitting_sockets_connect law options sides.A (six_acts a b w) are fit (six_run law a b w good_a good_b fit.to_b fit.to_a)).1.0 refl
