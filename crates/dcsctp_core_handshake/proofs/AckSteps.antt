-- The steps of a COOKIE ECHO's turns: COOKIE ACK in front of a flush.
use Rattle.std.proofs.Common.{◌≡◌, ◌==◌, ◌≤◌, ℕ, Bool, Option, None, Some, List, [], ◌++◌, length, refl, sym, ap, subst, ◌∙◌, arith}
use Rattle.std.proofs.lemmas.List.{append-nil}
use Rattle.rand_core.specs.Stream.{Stream}
use Rattle.dcsctp_core.specs.wire.Content.{cookie_ack_chunk}
use Rattle.dcsctp_core.specs.wire.Spelling.{chunk_bytes, other_bytes}
use Rattle.dcsctp_core.specs.wire_build.Building.{Building, bytes_remaining}
use Rattle.dcsctp_core.specs.types.declared.options.Options.{Options}
use Rattle.dcsctp_core.specs.types.declared.association.Held.{Held}
use Rattle.dcsctp_core.specs.types.Settings.{IsValid}
use Rattle.dcsctp_core.specs.spec.endpoint.Event.{Event}
use Rattle.dcsctp_core.specs.spec.endpoint.Endpoint.{Endpoint, held_by_core}
use Rattle.dcsctp_core.specs.spec.endpoint.Outcome.{Outcome, still}
use Rattle.dcsctp_core.specs.spec.endpoint.FlushOutcomes.{Answer, first_ask, flush_of, flush_answered, packets_allowed}
use Rattle.dcsctp_core.proofs.spec_lemmas.AnswerLemmas.{any_answers}
use Rattle.dcsctp_core.specs.declared.context.Context.{Context}
use Rattle.dcsctp_core.specs.declared.state.CookieEchoState.{CookieEchoState}
use Rattle.dcsctp_core.specs.declared.state.State.{State}
use Rattle.dcsctp_core.specs.declared.state.State.TheVariants.{Closed, CookieWait, CookieEchoed, Open}
use Rattle.dcsctp_core.specs.declared.transmission_control_block.TransmissionControlBlock.{TransmissionControlBlock}
use Rattle.dcsctp_core.specs.View.{View, core_of, tcb_of, held_of, view_of, endpoint_of}
use Rattle.dcsctp_core.specs.Handling.{TakesPossibleTurn, CutsSomeTurn}
use Rattle.dcsctp_core.specs.Flushing.{empty_packet, packet_for, FlushesFor, CutsFlush}
use Rattle.dcsctp_core.proofs.Moving.{moves_still}
use Rattle.dcsctp_core.proofs.Composing.{cut_first, cut_after}
use Rattle.dcsctp_core_handshake.specs.Echoes.{cookie_ack_to, acknowledgement_with_flush, peer_acknowledged, AcknowledgedAnswers, AcknowledgesEcho}
use Rattle.dcsctp_core_handshake.proofs.FlushSteps.{moves_flushed}

-- ---- COOKIE ACK

-- There is room for it in every packet.
pub ack_fits : (options : Options) (with_checksum : Bool) (tag : ℕ) (packet : Building) → IsValid options → packet ≡ empty_packet options with_checksum tag
    → length (chunk_bytes cookie_ack_chunk) ≤ bytes_remaining packet
unfolding other_bytes
ack_fits options with_checksum tag packet valid is = subst (λ (p : Building). length (chunk_bytes cookie_ack_chunk) ≤ bytes_remaining p) (sym is) (omega (arith, valid.least_size))

-- a packet that holds COOKIE ACK alone
pub ack_packet : (options : Options) (held : Held) (empty packet : Building)
    → empty ≡ empty_packet options (held.capabilities.zero_checksum_method.0 == 0) held.peer.tag
    → packet ≡ record empty { body = empty.body ++ chunk_bytes cookie_ack_chunk }
    → packet ≡ packet_for options (cookie_ack_to held)
ack_packet options held empty packet was added =
    added
    ∙ ap (λ (b : Building). record b { body = b.body ++ chunk_bytes cookie_ack_chunk }) was
    ∙ ap (λ (body : List ℕ). record (empty_packet options (held.capabilities.zero_checksum_method.0 == 0) held.peer.tag) { body = body }) (sym (append-nil (chunk_bytes cookie_ack_chunk)))

-- the peer of an association
pub held_by_tcb : (state : State) (tcb : TransmissionControlBlock) → Some tcb ≡ tcb_of state → held_by_core (core_of state) ≡ Some (held_of tcb)
held_by_tcb Closed tcb kept = absurd (cc)
held_by_tcb (CookieWait wait) tcb kept = absurd (cc)
held_by_tcb (CookieEchoed echoed) tcb kept =
    let same : echoed.tcb ≡ tcb = cc in ap (λ (t : TransmissionControlBlock). Some (held_of t)) same
held_by_tcb (Open opened) tcb kept =
    let same : opened.tcb ≡ tcb = cc in ap (λ (t : TransmissionControlBlock). Some (held_of t)) same

pub none_by_tcb : (state : State) → None ≡ tcb_of state → held_by_core (core_of state) ≡ None
none_by_tcb Closed kept = refl
none_by_tcb (CookieWait wait) kept = refl
none_by_tcb (CookieEchoed echoed) kept = absurd (cc)
none_by_tcb (Open opened) kept = absurd (cc)

-- any answers to the peer, if there is one
any_acknowledged : (e : Endpoint) (peer : Option Held) → (answers : List Answer) × AcknowledgedAnswers e peer answers
any_acknowledged e None = ([], refl)
any_acknowledged e (Some held) = any_answers first_ask (packets_allowed e.options.max_burst e.core) e (cookie_ack_to held)

pub ack_unmade : {R : Type 0} (old : Context R) → CutsSomeTurn AcknowledgesEcho (view_of old) (view_of old).events
ack_unmade old =
    let e : Endpoint = endpoint_of old in
    let some = any_acknowledged e (held_by_core e.core) in
    let o : Outcome = peer_acknowledged (flush_answered some.0) e (held_by_core e.core) in
    record { outcome = o; turn = (some.0, some.1, refl); cut = cut_first (view_of old) o (view_of old).events refl }

pub ack_no_peer : {R : Type 0} (stream : R → Stream) (old : Context R) → None ≡ tcb_of old.state → TakesPossibleTurn stream AcknowledgesEcho (view_of old) (view_of old)
ack_no_peer stream old none =
    let e : Endpoint = endpoint_of old in
    let nobody : held_by_core e.core ≡ None = none_by_tcb old.state none in
    record {
      outcome = still e;
      turn = ([], subst (λ (peer : Option Held). AcknowledgedAnswers e peer []) (sym nobody) refl, sym (ap (λ (peer : Option Held). peer_acknowledged (flush_answered []) e peer) nobody));
      moves = moves_still stream (view_of old);
    }

pub ack_done : {R : Type 0} (stream : R → Stream) (old : Context R) (tcb : TransmissionControlBlock) (new : View R) → Some tcb ≡ tcb_of old.state
    → FlushesFor stream first_ask (packets_allowed old.options.max_burst (core_of old.state)) (view_of old) (cookie_ack_to (held_of tcb)) new
    → TakesPossibleTurn stream AcknowledgesEcho (view_of old) new
ack_done stream old tcb new kept f =
    let e : Endpoint = endpoint_of old in
    let holds : held_by_core (core_of old.state) ≡ Some (held_of tcb) = held_by_tcb old.state tcb kept in
    record {
      outcome = acknowledgement_with_flush (flush_answered f.answers) e (held_of tcb) [];
      turn = (f.answers, subst (λ (peer : Option Held). AcknowledgedAnswers e peer f.answers) (sym holds) f.allowed, sym (ap (λ (peer : Option Held). peer_acknowledged (flush_answered f.answers) e peer) holds));
      moves = moves_flushed stream (view_of old) new (flush_of e (cookie_ack_to (held_of tcb)) f.answers) f.moves;
    }

pub ack_cut : {R : Type 0} (old : Context R) (tcb : TransmissionControlBlock) (events : List (Event (List ℕ))) → Some tcb ≡ tcb_of old.state
    → CutsFlush first_ask (packets_allowed old.options.max_burst (core_of old.state)) (view_of old) (cookie_ack_to (held_of tcb)) events
    → CutsSomeTurn AcknowledgesEcho (view_of old) events
ack_cut old tcb events kept f =
    let e : Endpoint = endpoint_of old in
    let holds : held_by_core (core_of old.state) ≡ Some (held_of tcb) = held_by_tcb old.state tcb kept in
    record {
      outcome = acknowledgement_with_flush (flush_answered f.answers) e (held_of tcb) [];
      turn = (f.answers, subst (λ (peer : Option Held). AcknowledgedAnswers e peer f.answers) (sym holds) f.allowed, sym (ap (λ (peer : Option Held). peer_acknowledged (flush_answered f.answers) e peer) holds));
      cut = cut_after (view_of old) (acknowledgement_with_flush (flush_answered f.answers) e (held_of tcb) []) events f.front f.rest f.parts f.added;
    }

-- the peer whose COOKIE ACK is awaited
pub held_is_echoed : (state : State) (echoed : CookieEchoState) → state ≡ CookieEchoed echoed → held_by_core (core_of state) ≡ Some (held_of echoed.tcb)
held_is_echoed state echoed is = ap (λ (s : State). held_by_core (core_of s)) is
