-- A HEARTBEAT and its answer are sent to the peer.
use Rattle.std.proofs.Common.{◌≡◌, ℕ, List, [], ◌∷◌, Some, refl, ap, ◌∙◌}
use Rattle.std.specs.Int.{w32, to_be_bytes}
use Rattle.rand_core.specs.Stream.{Stream}
use Rattle.dcsctp_core.specs.wire.Content.{ParameterContent, heartbeat_chunk, heartbeat_ack_chunk, heartbeat_info}
use Rattle.dcsctp_core.specs.spec.Packet.{Content, heartbeat, heartbeat_ack, plain}
use Rattle.dcsctp_core.specs.spec.endpoint.Endpoint.{Endpoint, Core, closed, cookie_wait, cookie_echoed, open_in, held_by_core, may_answer}
use Rattle.dcsctp_core.specs.spec.endpoint.HeartbeatOutcomes.{heartbeat_outcome, beating}
use Rattle.dcsctp_core.specs.declared.context.Context.{Context}
use Rattle.dcsctp_core.specs.declared.state.State.{State}
use Rattle.dcsctp_core.specs.declared.state.State.TheVariants.{Closed, CookieWait, CookieEchoed, Open}
use Rattle.dcsctp_core.specs.declared.transmission_control_block.TransmissionControlBlock.{TransmissionControlBlock}
use Rattle.dcsctp_core.specs.View.{View, core_of, tcb_of, endpoint_of, view_of, Moves}
use Rattle.dcsctp_core.specs.Handling.{emitted_to, sent_to_peer, answered_to_peer, answered_to}
use Rattle.dcsctp_core.proofs.BelowLemmas.{moves_from}
use Rattle.dcsctp_core.proofs.Composing.{moves_as}
use Rattle.dcsctp_core.proofs.SentLemmas.{told_moves, answered_moves}
use Rattle.dcsctp_core_heartbeat.specs.Heartbeats.{heartbeat_turn, beat_outcome, beat_turn}

answer_is : (e : Endpoint) (core : Core) (parameters : List ParameterContent)
    → heartbeat_outcome e core parameters ≡ answered_to_peer e (held_by_core core) (plain (heartbeat_ack parameters))
answer_is e closed parameters = refl
answer_is e (cookie_wait my) parameters = refl
answer_is e (cookie_echoed my held cookie) parameters = refl
answer_is e (open_in phase my held) parameters = refl

pub answer_moves : {R : Type 0} (stream : R → Stream) (a b : View R) (parameters : List ParameterContent)
    → b ≡ answered_to (may_answer a.endpoint) (held_by_core a.endpoint.core) (heartbeat_ack_chunk parameters) a → Moves stream a (heartbeat_turn parameters a) b
answer_moves stream a b parameters here =
    moves_as stream a b _ _ (answer_is a.endpoint a.endpoint.core parameters)
    (answered_moves stream a b (plain (heartbeat_ack parameters)) (held_by_core a.endpoint.core) here)

-- a HEARTBEAT with this counter
abbrev beat_of : ℕ → Content
beat_of counter = plain (heartbeat (heartbeat_info (to_be_bytes w32 counter) ∷ []))

beat_is : (e : Endpoint) (s : State) (tcb : TransmissionControlBlock) → tcb_of s ≡ Some tcb
    → beat_outcome e (core_of s) ≡ sent_to_peer (beating e) (held_by_core (core_of s)) (beat_of (beating e).heartbeat_counter)
beat_is e Closed tcb is = absurd (cc)
beat_is e (CookieWait wait) tcb is = absurd (cc)
beat_is e (CookieEchoed echoed) tcb is = refl
beat_is e (Open opened) tcb is = refl

pub beat_moves : {R : Type 0} (stream : R → Stream) (old mid : Context R) (new : View R) (tcb : TransmissionControlBlock) (counter : ℕ)
    → tcb_of old.state ≡ Some tcb
    → view_of mid ≡ record (view_of old) { endpoint = beating (endpoint_of old) } → counter ≡ (beating (endpoint_of old)).heartbeat_counter
    → new ≡ emitted_to (held_by_core (core_of mid.state)) (heartbeat_chunk (heartbeat_info (to_be_bytes w32 counter) ∷ [])) (view_of mid)
    → Moves stream (view_of old) (beat_turn (view_of old)) new
beat_moves {R = R} stream old mid new tcb counter holds is counts here =
    let e : Endpoint = endpoint_of old in
    let over : View R = record (view_of old) { endpoint = beating e } in
    let chunk : ℕ → View R → View R = λ n v. emitted_to (held_by_core v.endpoint.core) (heartbeat_chunk (heartbeat_info (to_be_bytes w32 n) ∷ [])) v in
    moves_as stream (view_of old) new _ _ (beat_is e old.state tcb holds)
    (moves_from stream (view_of old) (beating e) _ new refl
    (told_moves stream over new (beat_of (beating e).heartbeat_counter) (held_by_core e.core)
    (here ∙ ap (chunk counter) is ∙ ap (λ (n : ℕ). chunk n over) counts)))
