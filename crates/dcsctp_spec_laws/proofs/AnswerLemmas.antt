-- A packet of which a chunk was answered brings no further answer.
use Rattle.std.proofs.Common.{◌≡◌, Bool, false, List, [], ◌∷◌, refl, ap, ◌∙◌}
use Rattle.dcsctp_spec_lemmas.specs.wire.Content.{ParameterContent}
use Rattle.dcsctp_spec_lemmas.specs.types.declared.association.Held.{Held}
use Rattle.dcsctp_spec_lemmas.specs.spec.Packet.{Emission, heartbeat_ack, plain, re_config}
use Rattle.dcsctp_spec_lemmas.specs.spec.Reconfiguration.{ResetParameter}
use Rattle.dcsctp_spec_lemmas.specs.spec.endpoint.Endpoint.{Endpoint, Core, closed, cookie_wait, cookie_echoed, open_in, may_answer}
use Rattle.dcsctp_spec_lemmas.specs.spec.endpoint.HandshakeOutcomes.{init_answered}
use Rattle.dcsctp_spec_lemmas.specs.spec.endpoint.HeartbeatOutcomes.{heartbeat_outcome}
use Rattle.dcsctp_spec_lemmas.specs.spec.endpoint.Outcome.{still, to_peer, answered_if_allowed, answers_with}
use Rattle.dcsctp_spec_lemmas.specs.spec.endpoint.ResetOutcomes.{responses_outcome}
use Rattle.dcsctp_spec_laws.specs.AnswerLaws.{OneIsAnswered}

answer_rests : (e : Endpoint) (emission : Emission) → may_answer e ≡ false → answers_with e emission ≡ still e
answer_rests e emission is = ap (λ (b : Bool). answered_if_allowed b e emission) is

heartbeat_rests : (e : Endpoint) (core : Core) (parameters : List ParameterContent) → may_answer e ≡ false → heartbeat_outcome e core parameters ≡ still e
heartbeat_rests e closed parameters is = refl
heartbeat_rests e (cookie_wait my) parameters is = refl
heartbeat_rests e (cookie_echoed my held cookie) parameters is = answer_rests e (to_peer held (plain (heartbeat_ack parameters))) is
heartbeat_rests e (open_in phase my held) parameters is = answer_rests e (to_peer held (plain (heartbeat_ack parameters))) is

request_rests : (e : Endpoint) (held : Held) (responses : List ResetParameter) → may_answer e ≡ false → responses_outcome e held responses ≡ still e
request_rests e held [] is = refl
request_rests e held (response ∷ responses) is = answer_rests e (to_peer held (re_config (response ∷ responses))) is

pub one_is_answered : OneIsAnswered
one_is_answered e is =
    record {
      inits = λ theirs o turn. turn.2 ∙ ap (λ (b : Bool). init_answered b e theirs turn.0 turn.1) is;
      heartbeats = λ core parameters. heartbeat_rests e core parameters is;
      requests = λ held responses. request_rests e held responses is;
    }
