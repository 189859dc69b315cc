-- Behind the turns of data, SHUTDOWN, COOKIE ACK and RE-CONFIG the next chunk follows.
use Rattle.std.proofs.Common.{◌≡◌, ℕ, Bool, true, false, cond, Option, None, Some, List, [], ◌∷◌, refl, ap, ◌∙◌}
use Rattle.dcsctp_core.specs.wire.Content.{SackContent}
use Rattle.dcsctp_core.specs.types.declared.association.Pair.{Pair}
use Rattle.dcsctp_core.specs.types.declared.association.Held.{Held}
use Rattle.dcsctp_core.specs.spec.endpoint.Event.{Event}
use Rattle.dcsctp_core.specs.spec.Packet.{Emission}
use Rattle.dcsctp_core.specs.spec.Reconfiguration.{ResetParameter}
use Rattle.dcsctp_core.specs.types.declared.arrivals.SkippedTo.{SkippedTo}
use Rattle.dcsctp_core.specs.spec.queues.Arrivals.{Arrival}
use Rattle.dcsctp_core.specs.spec.queues.Transfer.{Transfer}
use Rattle.dcsctp_core.specs.spec.endpoint.Endpoint.{Endpoint, Core, closed, cookie_wait, cookie_echoed, open_in, OpenPhase, established, shutdown_pending, shutdown_sent, shutdown_received, shutdown_ack_sent, held_by_core}
use Rattle.dcsctp_core.specs.spec.endpoint.Following.{next_chunk}
use Rattle.dcsctp_core.specs.spec.endpoint.Outcome.{Outcome, quiet, sends}
use Rattle.dcsctp_core.specs.spec.endpoint.DataOutcomes.{no_user_data_outcome, ReceiveTurn, HandlesPayload, DataTurn, ForwardTurn, HandlesSackIfValid, HandlesSackIfConnected, SackTurn}
use Rattle.dcsctp_core.specs.spec.queues.Acknowledging.{is_sack_valid}
use Rattle.dcsctp_core.specs.spec.endpoint.FlushOutcomes.{Answer, first_ask, packets_allowed, draft_to, flush_answered}
use Rattle.dcsctp_core.specs.spec.endpoint.HandshakeOutcomes.{connected_after, cookie_ack_with_flush, CookieAckAnswers, CookieAckTurn}
use Rattle.dcsctp_core.specs.spec.endpoint.HeardShutdown.{said_by_shutdown, acknowledges_by_shutdown, HearsValidShutdown, HearsShutdown, ShutdownTurn, open_association}
use Rattle.dcsctp_core.specs.spec.endpoint.ShutdownOutcomes.{may_continue_shutdown, step_if_acknowledged, endpoint_in_phase, shutdown_outcome_by_phase}
use Rattle.dcsctp_core.specs.spec.endpoint.ResetOutcomes.{responses_outcome, responses_unless_refused, ResponseAnswers, handled_parameters_of, answer_to_own, resets_handled, renewable_left, reset_events_of, HandlesResets, ResetTurn}
use Rattle.dcsctp_core.proofs.spec_lemmas.FlushKeeps.{flush_keeps}

-- The next chunk follows.
abbrev pub GoesOn : Outcome → Type 0
GoesOn o = o.following ≡ next_chunk

goes_as : (o p : Outcome) → o ≡ p → GoesOn p → GoesOn o
goes_as o p is goes = ap (λ (x : Outcome). x.following) is ∙ goes

sent_goes : (b : Bool) (e : Endpoint) (emission : Emission) → GoesOn (cond b (sends e [] [] emission) (quiet e [] []))
sent_goes true e emission = refl
sent_goes false e emission = refl

no_data_goes : (e : Endpoint) (held : Option Held) (tsn : ℕ) → GoesOn (no_user_data_outcome e held tsn)
no_data_goes e None tsn = refl
no_data_goes e (Some held) tsn = sent_goes _ e _

received_goes : (e : Endpoint) (transfer : Option Transfer) (arrived : Arrival) (o : Outcome) → ReceiveTurn e transfer arrived o → GoesOn o
received_goes e None arrived o is = goes_as o _ is refl
received_goes e (Some transfer) arrived o turn = goes_as o _ turn.2 refl

data_where : (e : Endpoint) (arrived : Arrival) (payload : List ℕ) (o : Outcome) → HandlesPayload e arrived payload o → GoesOn o
data_where e arrived [] o is = goes_as o _ is (no_data_goes e (held_by_core e.core) arrived.tsn)
data_where e arrived (byte ∷ bytes) o turn = received_goes e e.queues.transfer arrived o turn

pub data_goes : (e : Endpoint) (arrived : Arrival) (o : Outcome) → DataTurn e arrived o → GoesOn o
data_goes e arrived o turn = data_where e arrived arrived.chunk.payload o turn

pub forward_goes : (e : Endpoint) (transfer : Option Transfer) (tsn : ℕ) (entries : List SkippedTo) (o : Outcome) → ForwardTurn e transfer tsn entries o → GoesOn o
forward_goes e None tsn entries o is = goes_as o _ is refl
forward_goes e (Some transfer) tsn entries o turn = goes_as o _ turn.2 refl

sack_where : (valid : Bool) (e : Endpoint) (held : Held) (transfer : Transfer) (sack : SackContent) (o : Outcome) → HandlesSackIfValid valid e held transfer sack o → GoesOn o
sack_where false e held transfer sack o is = goes_as o _ is refl
sack_where true e held transfer sack o h =
    goes_as o _ h.is (flush_keeps first_ask (packets_allowed h.fast.after.options.max_burst h.fast.after.core) h.fast.after (draft_to held) h.answers h.allowed).following

sack_by : (e : Endpoint) (held : Option Held) (transfer : Transfer) (sack : SackContent) (o : Outcome) → HandlesSackIfConnected e held transfer sack o → GoesOn o
sack_by e None transfer sack o is = goes_as o _ is refl
sack_by e (Some held) transfer sack o turn = sack_where (is_sack_valid transfer.retransmission sack.cumulative_tsn_ack) e held transfer sack o turn

pub sack_goes : (e : Endpoint) (transfer : Option Transfer) (sack : SackContent) (o : Outcome) → SackTurn e transfer sack o → GoesOn o
sack_goes e None sack o is = goes_as o _ is refl
sack_goes e (Some transfer) sack o turn = sack_by e (held_by_core e.core) transfer sack o turn

-- ---- SHUTDOWN

step_goes : (b : Bool) (e : Endpoint) (phase : OpenPhase) (my : Pair) (held : Held) → GoesOn (step_if_acknowledged b e phase my held)
step_goes false e phase my held = refl
step_goes true e established my held = refl
step_goes true e shutdown_pending my held = refl
step_goes true e shutdown_sent my held = refl
step_goes true e shutdown_received my held = refl
step_goes true e shutdown_ack_sent my held = refl

shutdown_in_goes : (e : Endpoint) (phase : OpenPhase) (my : Pair) (held : Held) → GoesOn (shutdown_outcome_by_phase e phase my held)
shutdown_in_goes e established my held = step_goes (may_continue_shutdown e) (endpoint_in_phase e shutdown_received my held) shutdown_received my held
shutdown_in_goes e shutdown_pending my held = step_goes (may_continue_shutdown e) (endpoint_in_phase e shutdown_received my held) shutdown_received my held
shutdown_in_goes e shutdown_sent my held = refl
shutdown_in_goes e shutdown_received my held = refl
shutdown_in_goes e shutdown_ack_sent my held = refl

shutdown_where : (heeds : Bool) (e : Endpoint) (phase : OpenPhase) (my : Pair) (held : Held) (transfer : Transfer) (tsn : ℕ) (o : Outcome) → HearsValidShutdown heeds e (open_association phase my held) transfer tsn o → GoesOn o
shutdown_where false e phase my held transfer tsn o is = goes_as o _ is (shutdown_in_goes e phase my held)
shutdown_where true e phase my held transfer tsn o h =
    sack_where true (endpoint_in_phase e shutdown_received my held) held transfer (said_by_shutdown tsn transfer.retransmission) o h

shutdown_by : (e : Endpoint) (phase : OpenPhase) (my : Pair) (held : Held) (transfer : Option Transfer) (tsn : ℕ) (o : Outcome) → HearsShutdown e phase my held transfer tsn o → GoesOn o
shutdown_by e phase my held None tsn o is = goes_as o _ is (shutdown_in_goes e phase my held)
shutdown_by e phase my held (Some transfer) tsn o turn = shutdown_where (acknowledges_by_shutdown e.options phase transfer tsn) e phase my held transfer tsn o turn

pub shutdown_goes : (e : Endpoint) (core : Core) (tsn : ℕ) (o : Outcome) → ShutdownTurn e core tsn o → GoesOn o
shutdown_goes e closed tsn o is = goes_as o _ is refl
shutdown_goes e (cookie_wait my) tsn o is = goes_as o _ is refl
shutdown_goes e (cookie_echoed my held cookie) tsn o is = goes_as o _ is refl
shutdown_goes e (open_in phase my held) tsn o turn = shutdown_by e phase my held e.queues.transfer tsn o turn

-- ---- COOKIE ACK

cookie_ack_by_goes : (e : Endpoint) (core : Core) (answers : List Answer) → CookieAckAnswers e core answers → GoesOn (cookie_ack_with_flush (flush_answered answers) e core)
cookie_ack_by_goes e closed answers allowed = refl
cookie_ack_by_goes e (cookie_wait mine) answers allowed = refl
cookie_ack_by_goes e (cookie_echoed mine held cookie) answers allowed =
    let after : Endpoint = connected_after e mine held in
    (flush_keeps first_ask (packets_allowed after.options.max_burst after.core) after (draft_to held) answers allowed).following
cookie_ack_by_goes e (open_in phase mine held) answers allowed = refl

pub cookie_ack_goes : (e : Endpoint) (o : Outcome) → CookieAckTurn e o → GoesOn o
cookie_ack_goes e o turn = goes_as o _ turn.2 (cookie_ack_by_goes e e.core turn.0 turn.1)

-- ---- RE-CONFIG

responses_go : (refused : Bool) (e : Endpoint) (told : List (Event Emission)) (held : Held) (parameters responses : List ResetParameter) (answers : List Answer)
    → ResponseAnswers refused e held responses answers → GoesOn (responses_unless_refused refused e told held parameters responses answers)
responses_go true e told held parameters responses answers none = refl
responses_go false e told held parameters responses answers allowed =
    let after : Endpoint = (responses_outcome e held responses).after in
    (flush_keeps first_ask (packets_allowed after.options.max_burst after.core) after (draft_to held) answers allowed).following

works_go : (e : Endpoint) (my : Pair) (held : Held) (parameters : List ResetParameter) (o : Outcome) → HandlesResets e my held parameters o → GoesOn o
works_go e my held parameters o h =
    let worked = handled_parameters_of e my held parameters in
    goes_as o _ h.is
    (responses_go worked.is_refused (resets_handled e (answer_to_own held worked parameters) worked.held h.left (renewable_left e held worked parameters))
    (reset_events_of e parameters worked.effects) worked.held parameters worked.answers h.answers h.allowed)

reset_by_goes : (e : Endpoint) (core : Core) (parameters : List ResetParameter) (o : Outcome) → ResetTurn e core parameters o → GoesOn o
reset_by_goes e closed parameters o is = goes_as o _ is refl
reset_by_goes e (cookie_wait my) parameters o is = goes_as o _ is refl
reset_by_goes e (cookie_echoed my held cookie) parameters o turn = works_go e my held parameters o turn
reset_by_goes e (open_in phase my held) parameters o turn = works_go e my held parameters o turn

pub reset_goes : (e : Endpoint) (parameters : List ResetParameter) (o : Outcome) → ResetTurn e e.core parameters o → GoesOn o
reset_goes e parameters o turn = reset_by_goes e e.core parameters o turn
