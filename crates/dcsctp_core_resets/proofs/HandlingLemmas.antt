-- A RE-CONFIG comes in: its streams, its answers, and all of its turn.
use Rattle.std.proofs.Common.{◌≡◌, ◌==◌, ◌+◌, ℕ, length, Bool, true, false, Option, None, Some, Result, Ok, Err, List, [], ◌∷◌, ◌++◌, map, take, refl, sym, ap, subst, ◌∙◌, append_assoc}
use Rattle.std.specs.Prelude.{is_some, OnOk, OnErr}
use Rattle.std.specs.Option.{option_map}
use Rattle.std.proofs.lemmas.List.{append-nil, map-append}
use Rattle.rand_core.specs.Stream.{Stream}
use Rattle.dcsctp_core.specs.wire.declared.parameter.Parameter.{Parameter}
use Rattle.dcsctp_core.specs.wire.Content.{re_config_chunk}
use Rattle.dcsctp_core.specs.types.declared.association.Pair.{Pair}
use Rattle.dcsctp_core.specs.types.declared.association.Held.{Held}
use Rattle.dcsctp_core.specs.types.declared.kinds.ErrorKind.TheVariants.{ProtocolViolation}
use Rattle.dcsctp_core.specs.wire.declared.reconfiguration.ReconfigurationResponseResult.{ReconfigurationResponseResult}
use Rattle.dcsctp_core.specs.wire.declared.reconfiguration.ReconfigurationResponseResult.TheVariants.{SuccessNothingToDo, SuccessPerformed, Denied, ErrorWrongSSN, ErrorRequestAlreadyInProgress, ErrorBadSequenceNumber, InProgress}
use Rattle.dcsctp_core.specs.types.Settings.{Ports, ports_of}
use Rattle.dcsctp_core.specs.spec.endpoint.Event.{Event, sent, incoming_stream_reset}
use Rattle.dcsctp_core.specs.spec.Packet.{re_config, Emission}
use Rattle.dcsctp_core.specs.spec.Reconfiguration.{RequestState, NumberedReset, RequestedReset, ResetParameter, outgoing_reset_request, incoming_reset_request, reconfiguration_response, other_reset_parameter, reset_parameter_content}
use Rattle.dcsctp_core.specs.spec.queues.Transfer.{Transfer}
use Rattle.dcsctp_core.specs.spec.endpoint.Endpoint.{Endpoint, Core, cookie_echoed, open_in, OpenPhase, held_by_core, may_answer}
use Rattle.std.specs.Prelude.{if◌then◌else◌}
use Rattle.dcsctp_core.specs.spec.endpoint.Outcome.{Outcome, still, quiet, sends, fits, emits, answering, with_effects_first, to_peer}
use Rattle.dcsctp_core.specs.spec.association.Effect.{Effect, drawn_pairs}
use Rattle.dcsctp_core.specs.spec.association.ResetChanges.{RequestPlace, again, next, astray, request_place, RequestOutcome, incoming_by_place, AnswerResult, result_of_answer, is_outstanding, result_if_outstanding, HandledParameters, parameters_outcome, reset_chunk_outcome}
use Rattle.dcsctp_core.specs.spec.endpoint.FlushOutcomes.{is_none, Answer, draft_to, flush_of, first_ask, packets_allowed}
use Rattle.dcsctp_core.specs.spec.endpoint.DataOutcomes.{flush_to_peer, AnswersTo, FlushTurn}
use Rattle.dcsctp_core.specs.spec.endpoint.ResetOutcomes.{first_reset_request, first_request_number, request_state, renewable_after, renewable_left, handled_parameters_of, OwnAnswer, unanswered, retried, was_performed, has_failed, own_moved, own_answer, in_progress_among, answer_to_own, handled_part, own_streams, has_reset, answers_in_progress, ResetsInQueues, ResetsTransferStreams, defers_reset, their_streams, reset_events_of, core_with, resets_handled, reset_refusal_text, responses_outcome, responses_unless_refused, ResponseAnswers, resets_after_handling, HandlesResets, ResetTurn}
use Rattle.dcsctp_core.proofs.spec_lemmas.AnswerLemmas.{any_answers}
use Rattle.dcsctp_core.proofs.spec_lemmas.OneAnswerLemmas.{answered_by}
use Rattle.dcsctp_core.proofs.spec_lemmas.ReassemblyLemmas.{any_left}
use Rattle.dcsctp_core.proofs.spec_lemmas.TurnLists.{drawn_pairs-append}
use Rattle.dcsctp_core.specs.api.Calls.{user_event, DrawsWords}
use Rattle.dcsctp_core.specs.declared.context.Context.{Context}
use Rattle.dcsctp_core.specs.declared.state.State.{State}
use Rattle.dcsctp_core.specs.declared.transmission_control_block.PerformedReset.{PerformedReset}
use Rattle.dcsctp_core.specs.wire.declared.reconfiguration.OutgoingSsnResetRequestParameter.{OutgoingSsnResetRequestParameter}
use Rattle.dcsctp_core.specs.declared.transmission_control_block.TransmissionControlBlock.{TransmissionControlBlock}
use Rattle.dcsctp_core.specs.declared.state.State.TheVariants.{Closed, CookieWait, CookieEchoed, Open}
use Rattle.dcsctp_core.specs.Reconfiguring.{request_of_state}
use Rattle.dcsctp_core.specs.View.{View, request_number, tcb_of, held_of, phase_of_open, core_of, outstanding_of, performed_reset, transfer_of, endpoint_of, view_of, Moves}
use Rattle.dcsctp_core.specs.Handling.{Tries, emitted_to, EmitsToPeer, report_turn, SendsQueued, TakesPossibleTurn, CutsSomeTurn, TakesOne, answered_to, AnswersPeer}
use Rattle.dcsctp_core.specs.Below.{ChangesQueues}
use Rattle.dcsctp_core.proofs.BelowLemmas.{below_view, same_view}
use Rattle.dcsctp_core.proofs.Moving.{moves_still}
use Rattle.dcsctp_core.proofs.SentLemmas.{answered_moves}
use Rattle.dcsctp_core.proofs.Composing.{behind, Adds, Draws, moves_behind, moves_as, cut_behind, cut_first, cut_longer, moves_noting, cut_noting}
use Rattle.dcsctp_core_resets.specs.declared.requests.LastRequest.{LastRequest}
use Rattle.dcsctp_core_resets.specs.declared.requests.Treatment.{Treatment}
use Rattle.dcsctp_core_resets.specs.declared.requests.Treatment.TheVariants.{Nothing, Deferred, Performed, Renewed}
use Rattle.dcsctp_core_resets.specs.declared.requests.HandledRequests.{HandledRequests}
use Rattle.dcsctp_core_resets.specs.declared.requests.OwnAnswer.TheVariants as own
use Rattle.dcsctp_core_resets.specs.declared.requests.OwnAnswer as requests
use Rattle.dcsctp_core_resets.specs.Requests.{is_completed, reset_parameters, held_with, held_out, held_now, is_performed, is_treatment_deferred, treated_events, left_out, own_kind, own_events, both_answer_events}
use Rattle.dcsctp_core_resets.proofs.RequestLemmas.{completed_is, resets_of, has_both}
use Rattle.dcsctp_core_resets.specs.Resets.{kept_after, asked_number, reset_of_request, ReceivesReConfig, last_of, last_request_of, HandlesForConnection, core_asked, view_asked, view_left, incoming_reset_events, DefersReset, DefersTo, TreatsReset, TreatsInQueues, core_settled, view_settled, own_reset_events, both_reset_events, handled_reset_events, responses_to, responses_turn, SendsResponses}
use Rattle.dcsctp_core_resets.proofs.SettlingLemmas.{none_numbered}

-- ---- the answers, and what waits after them

-- An error in place of both.
told_of_error : {R E : Type 0} (stream : R → Stream) (old : Context R) (result : Result (Unit {0}) E) (new : Context R) (held : Held) (parameters responses : List ResetParameter)
    → Tries stream (report_turn ProtocolViolation (reset_refusal_text parameters)) old result new → TakesOne stream (SendsResponses held true parameters responses) old result new
told_of_error stream old (Ok done) new held parameters responses h =
    record { outcome = report_turn ProtocolViolation (reset_refusal_text parameters) (view_of old); turn = ([], refl, refl); moves = h }
told_of_error {R = R} stream old (Err fault) new held parameters responses h =
    record {
      outcome = report_turn ProtocolViolation (reset_refusal_text parameters) (view_of old);
      turn = ([], refl, refl);
      cut = cut_first (view_of old) (report_turn ProtocolViolation (reset_refusal_text parameters) (view_of old)) (view_of new).events (ap (λ (v : View R). v.events) h);
    }

pub refused_finish : {R E : Type 0} (stream : R → Stream) (old : Context R) (result : Result (Unit {0}) E) (new : Context R) (held : Held) (b : Bool) (parameters responses : List ResetParameter) → b ≡ true
    → Tries stream (report_turn ProtocolViolation (reset_refusal_text parameters)) old result new → TakesOne stream (SendsResponses held b parameters responses) old result new
refused_finish stream old result new held b parameters responses is h =
    subst (λ (x : Bool). TakesOne stream (SendsResponses held x parameters responses) old result new) (sym is) (told_of_error stream old result new held parameters responses h)

-- the flush with a peer
held_flush : (e : Endpoint) (peer : Option Held) (held : Held) (o : Outcome) → peer ≡ Some held → (answers : List Answer) × AnswersTo e peer answers × (o ≡ flush_to_peer e peer answers)
    → (answers : List Answer) × AnswersTo e (Some held) answers × (o ≡ flush_to_peer e (Some held) answers)
held_flush e peer held o is turn = subst (λ (p : Option Held). (answers : List Answer) × AnswersTo e p answers × (o ≡ flush_to_peer e p answers)) is turn

-- What is sent as an answer leaves the peer as it was, and draws nothing.
record Answers (e : Endpoint) (o : Outcome) : Type 0 where
  held : held_by_core o.after.core ≡ held_by_core e.core
  ports : ports_of o.after.options ≡ ports_of e.options
  words : o.words ≡ []
  effects : o.effects ≡ []

emitted_answers : (b : Bool) (e : Endpoint) (emission : Emission) → Answers e (if b then sends e [] [] emission else quiet e [] [])
emitted_answers true e emission = record { held = refl; ports = refl; words = refl; effects = refl }
emitted_answers false e emission = record { held = refl; ports = refl; words = refl; effects = refl }

counted_answers : (e : Endpoint) (o : Outcome) → Answers e o → Answers e (answering o)
counted_answers e o a = record { held = a.held; ports = a.ports; words = a.words; effects = a.effects }

answers_of : (e : Endpoint) (held : Held) (responses : List ResetParameter) → Answers e (responses_outcome e held responses)
answers_of e held [] = record { held = refl; ports = refl; words = refl; effects = refl }
answers_of e held (response ∷ responses) =
    let emission : Emission = to_peer held (re_config (response ∷ responses)) in
    answered_by (Answers e) e emission (record { held = refl; ports = refl; words = refl; effects = refl })
    (counted_answers e (emits e [] emission) (emitted_answers (fits e emission) e emission))

-- the same of the turn that the handler takes
turn_is : {R : Type 0} (old : Context R) (held : Held) (responses : List ResetParameter) → held_by_core (core_of old.state) ≡ Some held → responses_turn responses (view_of old) ≡ responses_outcome (endpoint_of old) held responses
turn_is old held responses holds = ap (λ (p : Option Held). responses_to (endpoint_of old) p responses) holds

-- These events were added, and nothing was drawn.
sent_adds : {R : Type 0} (stream : R → Stream) (old mid : View R) (o : Outcome) → Answers old.endpoint o → Moves stream old o mid → Adds old o.events mid
sent_adds stream old mid o a moves = record { ports = ap (λ (e : Endpoint). ports_of e.options) moves.endpoint ∙ a.ports; events = moves.events }

sent_draws : {R : Type 0} (stream : R → Stream) (old mid : View R) (o : Outcome) → Answers old.endpoint o → Moves stream old o mid → Draws stream old [] mid
sent_draws stream old mid o a moves =
    record {
      words = moves.words ∙ ap (λ ws. old.words ++ ws) a.words;
      pairs = moves.pairs ∙ ap (λ (es : List Effect). old.pairs ++ drawn_pairs es) a.effects ∙ append-nil old.pairs;
      drawn = subst (λ ws. DrawsWords (stream old.generator) ws (stream mid.generator)) a.words moves.drawn;
    }

-- where the flush begins
flush_here : {R : Type 0} (stream : R → Stream) (old : Context R) (mid : View R) (held : Held) (responses : List ResetParameter) (o : Outcome) → held_by_core (core_of old.state) ≡ Some held
    → Moves stream (view_of old) (responses_outcome (endpoint_of old) held responses) mid → SendsQueued mid o
    → (answers : List Answer) × AnswersTo (responses_outcome (endpoint_of old) held responses).after (Some held) answers × (o ≡ flush_to_peer (responses_outcome (endpoint_of old) held responses).after (Some held) answers)
flush_here stream old mid held responses o holds moves turn =
    let sent : Outcome = responses_outcome (endpoint_of old) held responses in
    held_flush sent.after (held_by_core sent.after.core) held o ((answers_of (endpoint_of old) held responses).held ∙ holds)
    (subst (λ (e : Endpoint). FlushTurn e o) moves.endpoint turn)

pub finished : {R : Type 0} (stream : R → Stream) (old : Context R) (mid new : View R) (held : Held) (b : Bool) (parameters responses : List ResetParameter) → b ≡ false → held_by_core (core_of old.state) ≡ Some held
    → Moves stream (view_of old) (responses_turn responses (view_of old)) mid → TakesPossibleTurn stream SendsQueued mid new → TakesPossibleTurn stream (SendsResponses held b parameters responses) (view_of old) new
finished stream old mid new held true parameters responses is holds first second = absurd (cc)
finished stream old mid new held false parameters responses is holds first second =
    let e : Endpoint = endpoint_of old in
    let sent : Outcome = responses_outcome e held responses in
    let a : Answers e sent = answers_of e held responses in
    let moves : Moves stream (view_of old) sent mid = moves_as stream (view_of old) mid _ sent (sym (turn_is old held responses holds)) first in
    let flush = flush_here stream old mid held responses second.outcome holds moves second.turn in
    record {
      outcome = behind [] sent.events second.outcome;
      turn = (flush.0, flush.1, ap (behind [] sent.events) flush.2);
      moves = moves_behind stream (view_of old) mid new [] sent.events second.outcome (sent_adds stream (view_of old) mid sent a moves) (sent_draws stream (view_of old) mid sent a moves) second.moves;
    }

pub finish_cut : {R : Type 0} (stream : R → Stream) (old : Context R) (mid : View R) (events : List (Event (List ℕ))) (held : Held) (b : Bool) (parameters responses : List ResetParameter) → b ≡ false
    → held_by_core (core_of old.state) ≡ Some held → Moves stream (view_of old) (responses_turn responses (view_of old)) mid → CutsSomeTurn SendsQueued mid events → CutsSomeTurn (SendsResponses held b parameters responses) (view_of old) events
finish_cut stream old mid events held true parameters responses is holds first second = absurd (cc)
finish_cut stream old mid events held false parameters responses is holds first second =
    let e : Endpoint = endpoint_of old in
    let sent : Outcome = responses_outcome e held responses in
    let a : Answers e sent = answers_of e held responses in
    let moves : Moves stream (view_of old) sent mid = moves_as stream (view_of old) mid _ sent (sym (turn_is old held responses holds)) first in
    let flush = flush_here stream old mid held responses second.outcome holds moves second.turn in
    record {
      outcome = behind [] sent.events second.outcome;
      turn = (flush.0, flush.1, ap (behind [] sent.events) flush.2);
      cut = cut_behind (view_of old) mid [] sent.events second.outcome events (sent_adds stream (view_of old) mid sent a moves) second.cut;
    }

-- what the flush may be answered
some_answers : (refused : Bool) (e : Endpoint) (held : Held) (responses : List ResetParameter) → (answers : List Answer) × ResponseAnswers refused e held responses answers
some_answers true e held responses = ([], refl)
some_answers false e held responses =
    let after : Endpoint = (responses_outcome e held responses).after in
    any_answers first_ask (packets_allowed after.options.max_burst after.core) after (draft_to held)

-- Nothing of it has happened.
pub finish_refused : {R : Type 0} (old : Context R) (new : View R) (held : Held) (b : Bool) (parameters responses : List ResetParameter) → new ≡ view_of old → CutsSomeTurn (SendsResponses held b parameters responses) (view_of old) new.events
finish_refused {R = R} old new held b parameters responses same =
    let e : Endpoint = endpoint_of old in
    let some = some_answers b e held responses in
    let o : Outcome = responses_unless_refused b e [] held parameters responses some.0 in
    record { outcome = o; turn = (some.0, some.1, refl); cut = cut_first (view_of old) o new.events (ap (λ (v : View R). v.events) same) }

-- ---- the streams

-- Without a request nothing below changes.
none_below : (is_performed in_progress : Bool) (found : Option Transfer) → ResetsInQueues is_performed in_progress None found found
none_below true in_progress found = refl
none_below false true found = refl
none_below false false found = refl

-- Nothing below has changed, and there is no event.
pub untreated : {R : Type 0} (view : View R) → view ≡ view_left view view.endpoint.queues.transfer []
untreated view = ap (λ (es : List (Event (List ℕ))). let v : View _ = record view { events = es } in v) (sym (append-nil view.events))

pub nothing_treated : {R : Type 0} (treatment : Treatment) (reset : Option RequestedReset) (old : Context R) (new : View R) → TreatsInQueues treatment reset (transfer_of old.state) (transfer_of old.state)
    → incoming_reset_events treatment reset ≡ [] → new ≡ view_of old
    → (left : Option Transfer) × TreatsInQueues treatment reset (transfer_of old.state) left × (new ≡ view_left (view_of old) left (incoming_reset_events treatment reset))
nothing_treated treatment reset old new none told same = (
  transfer_of old.state,
  none,
  same ∙ untreated (view_of old) ∙ ap (view_left (view_of old) (transfer_of old.state)) (sym told),
)

-- the view with this below its association
abbrev leaving : {R : Type 0} → Context R → Option Transfer → View R
leaving old left = record (view_of old) { endpoint = record (endpoint_of old) { queues = record (endpoint_of old).queues { transfer = left } } }

unheld_view : {R : Type 0} (old : Context R) (state : State) → transfer_of old.state ≡ None → state ≡ old.state → view_of (record old { state = state }) ≡ leaving old None
unheld_view old state holds same = same_view old state same ∙ ap (leaving old) holds

-- Streams were reset below an association.
performed_by : {R : Type 0} (old : Context R) (state : State) (reset : RequestedReset) (found : Option Transfer) → transfer_of old.state ≡ found → ChangesQueues (ResetsTransferStreams reset.streams) found old.state state
    → (left : Option Transfer) × ResetsInQueues true false (Some reset) found left × (view_of (record old { state = state }) ≡ leaving old left)
performed_by old state reset None holds changes = (None, refl, unheld_view old state holds changes)
performed_by old state reset (Some transfer) holds changes = (Some changes.0, (changes.0, refl, changes.2), below_view old state transfer changes.0 holds changes.1)

pub performed : {R : Type 0} (old : Context R) (state : State) (events : List (Event (List ℕ))) (streams : List ℕ) (reset : RequestedReset) → streams ≡ reset.streams
    → ChangesQueues (ResetsTransferStreams streams) (transfer_of old.state) old.state state → events ≡ (view_of old).events ++ incoming_stream_reset reset.streams ∷ []
    → (left : Option Transfer) × ResetsInQueues true false (Some reset) (transfer_of old.state) left
    × (record (view_of (record old { state = state })) { events = events } ≡ view_left (view_of old) left (incoming_stream_reset reset.streams ∷ []))
performed {R = R} old state events streams reset names changes told =
    let h = performed_by old state reset (transfer_of old.state) refl (subst (λ (xs : List ℕ). ChangesQueues (ResetsTransferStreams xs) (transfer_of old.state) old.state state) names changes) in (
      h.0,
      h.1,
      ap (λ (v : View R). let w : View R = record v { events = events } in w) h.2
          ∙ ap (λ (es : List (Event (List ℕ))). let w : View R = record (view_of old) { endpoint = record (endpoint_of old) { queues = record (endpoint_of old).queues { transfer = h.0 } }; events = es } in w) told,
    )

-- They were reset once more, and nothing is reported.
pub renewed_silently : {R : Type 0} (old : Context R) (state : State) (streams : List ℕ) (reset : RequestedReset) → streams ≡ reset.streams
    → ChangesQueues (ResetsTransferStreams streams) (transfer_of old.state) old.state state
    → (left : Option Transfer) × ResetsInQueues true false (Some reset) (transfer_of old.state) left × (view_of (record old { state = state }) ≡ view_left (view_of old) left [])
renewed_silently {R = R} old state streams reset names changes =
    let h = performed_by old state reset (transfer_of old.state) refl (subst (λ (xs : List ℕ). ChangesQueues (ResetsTransferStreams xs) (transfer_of old.state) old.state state) names changes) in (
      h.0,
      h.1,
      h.2 ∙ ap (λ (es : List (Event (List ℕ))). let w : View R = record (view_of old) { endpoint = record (endpoint_of old) { queues = record (endpoint_of old).queues { transfer = h.0 } }; events = es } in w) (sym (append-nil (view_of old).events)),
    )

-- Their reset was deferred.
deferred_below : {R : Type 0} (old : Context R) (state : State) (reset : RequestedReset) (found : Option Transfer) → transfer_of old.state ≡ found → ChangesQueues (DefersTo reset) found old.state state
    → (left : Option Transfer) × ResetsInQueues false true (Some reset) found left × (view_of (record old { state = state }) ≡ leaving old left)
deferred_below old state reset None holds changes = (None, refl, unheld_view old state holds changes)
deferred_below old state reset (Some transfer) holds changes = (Some changes.0, ap (λ (t : Transfer). Some t) changes.2, below_view old state transfer changes.0 holds changes.1)

pub deferred : {R E : Type 0} (old : Context R) (state : State) (streams : List ℕ) (reset : RequestedReset) (result : Result (Unit {0}) E) (new : Context R) → view_of new ≡ view_of (record old { state = state })
    → streams ≡ reset.streams → OnOk result (ChangesQueues (DefersTo (record reset { streams = streams })) (transfer_of old.state) old.state state) → OnErr result (state ≡ old.state)
    → DefersReset reset old result new
deferred {R = R} old state streams reset (Ok done) new here names changes same =
    let h = deferred_below old state reset (transfer_of old.state) refl
    (subst (λ (xs : List ℕ). ChangesQueues (DefersTo (record reset { streams = xs })) (transfer_of old.state) old.state state) names changes) in (
      h.0,
      h.1,
      here ∙ h.2 ∙ ap (λ (es : List (Event (List ℕ))). let v : View R = record (leaving old h.0) { events = es } in v) (sym (append-nil (view_of old).events)),
    )
deferred old state streams reset (Err fault) new here names changes same = here ∙ same_view old state same

-- ---- one packet of them

pub tcb_holds : (s : State) (tcb : TransmissionControlBlock) → tcb_of s ≡ Some tcb → held_by_core (core_of s) ≡ Some (held_of tcb)
tcb_holds Closed tcb is = absurd (cc)
tcb_holds (CookieWait wait) tcb is = absurd (cc)
tcb_holds (CookieEchoed echoed) tcb is = ap (λ (t : Option TransmissionControlBlock). option_map held_of t) is
tcb_holds (Open opened) tcb is = ap (λ (t : Option TransmissionControlBlock). option_map held_of t) is

-- The answers are sent to the peer, if it is known.
sent_to : {R : Type 0} (stream : R → Stream) (v : View R) (peer : Option Held) (responses : List ResetParameter) → is_none responses ≡ false
    → Moves stream v (responses_to v.endpoint peer responses) (answered_to (may_answer v.endpoint) peer (re_config_chunk (map reset_parameter_content responses)) v)
sent_to stream v peer [] some = absurd (cc)
sent_to stream v None (response ∷ responses) some = moves_still stream v
sent_to stream v (Some held) (response ∷ responses) some = answered_moves stream v _ (re_config (response ∷ responses)) (Some held) refl

-- That is so, or an allocation failed.
pub responses_sent : {R E : Type 0} (stream : R → Stream) (old : Context R) (result : Result (Unit {0}) E) (new : Context R) (responses : List ResetParameter)
    → is_none responses ≡ false
    → AnswersPeer (re_config_chunk (map reset_parameter_content responses)) old result new → Tries stream (responses_turn responses) old result new
responses_sent stream old (Ok done) new responses some h =
    subst (λ (v : View _). Moves stream (view_of old) (responses_turn responses (view_of old)) v) (sym h)
    (sent_to stream (view_of old) (held_by_core (core_of old.state)) responses some)
responses_sent stream old (Err fault) new responses some h = h

-- the answers of a flush that took place or was cut
pub finish_by : {R E : Type 0} (stream : R → Stream) (old mid : Context R) (result : Result (Unit {0}) E) (new : Context R) (held : Held) (b : Bool) (parameters responses : List ResetParameter) → b ≡ false
    → held_by_core (core_of old.state) ≡ Some held → Moves stream (view_of old) (responses_turn responses (view_of old)) (view_of mid) → TakesOne stream SendsQueued mid result new
    → TakesOne stream (SendsResponses held b parameters responses) old result new
finish_by stream old mid (Ok done) new held b parameters responses is holds first second = finished stream old (view_of mid) (view_of new) held b parameters responses is holds first second
finish_by stream old mid (Err fault) new held b parameters responses is holds first second = finish_cut stream old (view_of mid) (view_of new).events held b parameters responses is holds first second

-- ---- what was decided of the streams

abbrev CarriedAs : {R : Type 0} → HandledRequests → Option RequestedReset → Context R → View R → Type 0
CarriedAs w reset old new =
    (left : Option Transfer) × TreatsInQueues w.treatment reset (transfer_of old.state) left
    × (new ≡ view_left (view_settled (own_kind w.own) (view_of old)) left (handled_reset_events w reset old))

abbrev TreatsAs : {R : Type 0} → Treatment → Option RequestedReset → Context R → View R → Type 0
TreatsAs treatment reset old new =
    (left : Option Transfer) × TreatsInQueues treatment reset (transfer_of old.state) left × (new ≡ view_left (view_of old) left (incoming_reset_events treatment reset))

pub treated_none : {R : Type 0} (treatment : Treatment) (old : Context R) → TreatsAs treatment None old (view_of old)
treated_none treatment old = nothing_treated treatment None old (view_of old) (none_below (is_performed treatment) (is_treatment_deferred treatment) (transfer_of old.state)) (none_told treatment) refl
  where
    none_told : (treatment : Treatment) → incoming_reset_events treatment None ≡ []
    none_told Nothing = refl
    none_told Deferred = refl
    none_told Performed = refl
    none_told Renewed = refl

pub untouched : {R : Type 0} (old : Context R) (reset : RequestedReset) → TreatsAs Nothing (Some reset) old (view_of old)
untouched old reset = nothing_treated Nothing (Some reset) old (view_of old) refl refl refl

pub deferred_by : {R E : Type 0} (old : Context R) (result : Result (Unit {0}) E) (new : Context R) (reset : RequestedReset) → DefersReset reset old result new → TreatsReset Deferred (Some reset) old result new
deferred_by old (Ok done) new reset h = h
deferred_by {R = R} old (Err fault) new reset same = ap (λ (v : View R). v.events) same

-- ---- all of it

-- a peer that is known, with our own request
pub record Peer (state : State) : Type 0 where
  pub my : Pair
  pub held : Held
  pub holds : held_by_core (core_of state) ≡ Some held
  pub own : request_number (request_of_state state) ≡ held.own_outstanding
  pub last : held_out (request_number (request_of_state state)) (held_with held (last_request_of state)) ≡ held
  pub settled : (answer : OwnAnswer) (last : LastRequest) → core_settled answer (core_asked last (core_of state)) ≡ core_with (core_of state) (held_out (left_out answer held.own_outstanding) (held_with held last))
  pub keeps : (held : Held) → held_by_core (core_with (core_of state) held) ≡ Some held
  pub turn : (e : Endpoint) (parameters : List ResetParameter) (o : Outcome) → HandlesResets e my held parameters o → ResetTurn e (core_of state) parameters o

echoed_settled : (my : Pair) (held : Held) (cookie : List ℕ) (answer : OwnAnswer) (last : LastRequest)
    → core_settled answer (core_asked last (cookie_echoed my held cookie)) ≡ core_with (cookie_echoed my held cookie) (held_out (left_out answer held.own_outstanding) (held_with held last))
echoed_settled my held cookie unanswered last = refl
echoed_settled my held cookie retried last = refl
echoed_settled my held cookie was_performed last = refl
echoed_settled my held cookie has_failed last = refl

open_settled : (phase : OpenPhase) (my : Pair) (held : Held) (answer : OwnAnswer) (last : LastRequest)
    → core_settled answer (core_asked last (open_in phase my held)) ≡ core_with (open_in phase my held) (held_out (left_out answer held.own_outstanding) (held_with held last))
open_settled phase my held unanswered last = refl
open_settled phase my held retried last = refl
open_settled phase my held was_performed last = refl
open_settled phase my held has_failed last = refl

pub peer_of : (state : State) → is_some (transfer_of state) ≡ true → Peer state
peer_of Closed some = absurd (cc)
peer_of (CookieWait wait) some = absurd (cc)
peer_of (CookieEchoed echoed) some =
    record {
      my = echoed.tcb.my;
      held = held_of echoed.tcb;
      holds = refl;
      own = refl;
      last = refl;
      settled = echoed_settled echoed.tcb.my (held_of echoed.tcb) echoed.cookie.items;
      keeps = λ held. refl;
      turn = λ e parameters o h. h;
    }
peer_of (Open opened) some =
    record {
      my = opened.tcb.my;
      held = held_of opened.tcb;
      holds = refl;
      own = refl;
      last = refl;
      settled = open_settled (phase_of_open opened.phase) opened.tcb.my (held_of opened.tcb);
      keeps = λ held. refl;
      turn = λ e parameters o h. h;
    }

-- Without one nothing happens.
pub unheld : (e : Endpoint) (state : State) (parameters : List ResetParameter) → is_some (transfer_of state) ≡ false → ResetTurn e (core_of state) parameters (still e)
unheld e Closed parameters none = refl
unheld e (CookieWait wait) parameters none = refl
unheld e (CookieEchoed echoed) parameters none = absurd (cc)
unheld e (Open opened) parameters none = absurd (cc)

pub rests : {R : Type 0} (stream : R → Stream) (old : Context R) (parameters : List ResetParameter) → is_some (transfer_of old.state) ≡ false → TakesPossibleTurn stream (ReceivesReConfig parameters) (view_of old) (view_of old)
rests stream old parameters none = record { outcome = still (endpoint_of old); turn = unheld (endpoint_of old) old.state parameters none; moves = moves_still stream (view_of old) }

-- ---- where its turn was cut before its first event

-- Whatever becomes of the streams, there is something that may lie below the association then.
any_below : (is_performed in_progress : Bool) (reset : Option RequestedReset) (found : Option Transfer) → (left : Option Transfer) × ResetsInQueues is_performed in_progress reset found left
any_below true in_progress None found = (found, refl)
any_below true in_progress (Some reset) None = (None, refl)
any_below true in_progress (Some reset) (Some transfer) =
    let after = any_left reset.streams transfer.reassembly in
    let new : Transfer = record transfer { reassembly = after.0 } in (Some new, (new, refl, record { reassembly = after.1; rest = refl }))
any_below false true None found = (found, refl)
any_below false true (Some reset) None = (None, refl)
any_below false true (Some reset) (Some transfer) = (Some (defers_reset reset transfer), refl)
any_below false false reset found = (found, refl)

any_turn : (e : Endpoint) (my : Pair) (held : Held) (parameters : List ResetParameter) → (o : Outcome) × HandlesResets e my held parameters o
any_turn e my held parameters =
    let w : HandledParameters = handled_parameters_of e my held parameters in
    let left = any_below (has_reset w.effects) (answers_in_progress w.answers) (first_reset_request parameters) e.queues.transfer in
    let some = some_answers w.is_refused (resets_handled e (answer_to_own held w parameters) w.held left.0 (renewable_left e held w parameters)) w.held w.answers in (
      resets_after_handling e held w parameters left.0 some.0,
      record { left = left.0; below = left.1; answers = some.0; allowed = some.1; is = refl },
    )

pub reset_refused : {R : Type 0} (old : Context R) (p : Peer old.state) (parameters : List ResetParameter) (events : List (Event (List ℕ))) → events ≡ (view_of old).events → CutsSomeTurn (ReceivesReConfig parameters) (view_of old) events
reset_refused old p parameters events same =
    let any = any_turn (endpoint_of old) p.my p.held parameters in
    record { outcome = any.0; turn = p.turn (endpoint_of old) parameters any.0 any.1; cut = cut_first (view_of old) any.0 events same }

-- ---- what the definitions make of it

-- Without an outgoing request no stream is reset.
incoming_resets : (held : Held) (number : ℕ) (place : RequestPlace) → has_reset (incoming_by_place held number place).effects ≡ false
incoming_resets held number again = refl
incoming_resets held number next = refl
incoming_resets held number astray = refl

answer_resets : (my : Pair) (held : Held) (number : ℕ) (result : ReconfigurationResponseResult) → has_reset (result_of_answer my held number result).effects ≡ false
answer_resets my held number SuccessNothingToDo = refl
answer_resets my held number SuccessPerformed = refl
answer_resets my held number Denied = refl
answer_resets my held number ErrorWrongSSN = refl
answer_resets my held number ErrorRequestAlreadyInProgress = refl
answer_resets my held number ErrorBadSequenceNumber = refl
answer_resets my held number InProgress = refl

informed_resets : (b : Bool) (my : Pair) (held : Held) (number : ℕ) (result : ReconfigurationResponseResult) → has_reset (result_if_outstanding my held number result b).effects ≡ false
informed_resets true my held number result = answer_resets my held number result
informed_resets false my held number result = refl

unrequested : (my : Pair) (state : RequestState) (has : Bool) (held : Held) (parameters : List ResetParameter) → first_reset_request parameters ≡ None → has_reset (parameters_outcome my state has held parameters).effects ≡ false
unrequested my state has held [] none = refl
unrequested my state has held (outgoing_reset_request number answered reset ∷ parameters) none = absurd (cc)
unrequested my state has held (incoming_reset_request number streams ∷ parameters) none =
    let first : RequestOutcome = incoming_by_place held number (request_place held.peer_last number) in
    has_both first.effects (parameters_outcome my state has first.held parameters).effects
    ∙ ap (λ (b : Bool). resets_of b (has_reset (parameters_outcome my state has first.held parameters).effects)) (incoming_resets held number (request_place held.peer_last number))
    ∙ unrequested my state has first.held parameters none
unrequested my state has held (reconfiguration_response number result ∷ parameters) none =
    let first : AnswerResult = result_if_outstanding my held number result (is_outstanding number held.own_outstanding) in
    has_both first.effects (parameters_outcome my state has first.held parameters).effects
    ∙ ap (λ (b : Bool). resets_of b (has_reset (parameters_outcome my state has first.held parameters).effects)) (informed_resets (is_outstanding number held.own_outstanding) my held number result)
    ∙ unrequested my state has first.held parameters none
unrequested my state has held (other_reset_parameter parameter ∷ parameters) none = unrequested my state has held parameters none

chunk_unrequested : (my : Pair) (state : RequestState) (held : Held) (parameters : List ResetParameter) → first_reset_request parameters ≡ None → has_reset (reset_chunk_outcome my state held parameters).effects ≡ false
chunk_unrequested my state held [] none = refl
chunk_unrequested my state held (parameter ∷ parameters) none = unrequested my state false held (parameter ∷ parameters) none

-- The treatment's events by the definitions are those that are added.
abbrev Wanted : Treatment → Option RequestedReset → Type 0
Wanted treatment reset = (ports : Ports) → map (user_event ports) (treated_events treatment (their_streams reset)) ≡ incoming_reset_events treatment reset

wanted : (treatment : Treatment) (reset : Option RequestedReset) → (reset ≡ None → is_performed treatment ≡ false) → Wanted treatment reset
wanted Performed None none = let never : true ≡ false = none refl in absurd (cc)
wanted Performed (Some reset) none = λ ports. refl
wanted Renewed None none = let never : true ≡ false = none refl in absurd (cc)
wanted Renewed (Some reset) none = λ ports. refl
wanted Deferred None none = λ ports. refl
wanted Deferred (Some reset) none = λ ports. refl
wanted Nothing None none = λ ports. refl
wanted Nothing (Some reset) none = λ ports. refl

-- the events of our own request, and of both
own_user : (ports : Ports) (answer : requests.OwnAnswer) (streams : List ℕ) → map (user_event ports) (own_events answer streams) ≡ own_reset_events answer streams
own_user ports own.Unanswered streams = refl
own_user ports own.InProgress streams = refl
own_user ports own.Performed streams = refl
own_user ports own.Failed streams = refl

both_user : (ports : Ports) (first : Bool) (answer : requests.OwnAnswer) (treatment : Treatment) (reset : Option RequestedReset) (streams : List ℕ) → Wanted treatment reset
    → map (user_event ports) (both_answer_events first answer treatment (their_streams reset) streams) ≡ both_reset_events first answer treatment reset streams
both_user ports true answer treatment reset streams w =
    map-append (user_event ports) (own_events answer streams) (treated_events treatment (their_streams reset))
    ∙ ap (λ (es : List (Event (List ℕ))). es ++ map (user_event ports) (treated_events treatment (their_streams reset))) (own_user ports answer streams)
    ∙ ap (λ (es : List (Event (List ℕ))). own_reset_events answer streams ++ es) (w ports)
both_user ports false answer treatment reset streams w =
    map-append (user_event ports) (treated_events treatment (their_streams reset)) (own_events answer streams)
    ∙ ap (λ (es : List (Event (List ℕ))). es ++ map (user_event ports) (own_events answer streams)) (w ports)
    ∙ ap (λ (es : List (Event (List ℕ))). incoming_reset_events treatment reset ++ es) (own_user ports answer streams)

-- after the user's events
responses_behind : (refused : Bool) (e : Endpoint) (told : List (Event Emission)) (held : Held) (parameters responses : List ResetParameter) (answers : List Answer)
    → responses_unless_refused refused e told held parameters responses answers ≡ behind [] told (responses_unless_refused refused e [] held parameters responses answers)
responses_behind true e told held parameters responses answers = refl
responses_behind false e told held parameters responses answers =
    let sent : Outcome = responses_outcome e held responses in
    let flush : Outcome = flush_of sent.after (draft_to held) answers in
    ap (λ (events : List (Event Emission)). let o : Outcome = record flush { events = events } in o) (append_assoc told sent.events flush.events)

-- what the parameters make of the numbers, as the code keeps it
abbrev kept_by : Held → List Effect → HandledRequests → HandledParameters
kept_by held effects w = record { held = held_now held w; effects = effects; answers = reset_parameters w.responses.items; is_refused = w.is_refused }

abbrev WorksBy : Endpoint → Held → List ResetParameter → Outcome → HandledParameters → Type 0
WorksBy e held parameters o worked =
    (left : Option Transfer) × ResetsInQueues (has_reset worked.effects) (answers_in_progress worked.answers) (first_reset_request parameters) e.queues.transfer left × (answers : List Answer)
    × ResponseAnswers worked.is_refused (resets_handled e (answer_to_own held worked parameters) worked.held left (renewable_left e held worked parameters)) worked.held worked.answers answers
    × (o ≡ resets_after_handling e held worked parameters left answers)

works_resets : (e : Endpoint) (my : Pair) (held : Held) (parameters : List ResetParameter) (o : Outcome) → WorksBy e held parameters o (handled_parameters_of e my held parameters) → HandlesResets e my held parameters o
works_resets e my held parameters o h = record { left = h.0; below = h.1; answers = h.2; allowed = h.3; is = h.4 }

-- what was made of the parameters of a chunk that came in
abbrev WorkedAt : {R : Type 0} → Context R → List ResetParameter → HandledRequests → Type 0
WorkedAt old parameters w = HandlesForConnection old.options.follow_rfc (performed_reset old.renewable) (tcb_of old.state) parameters w

-- What the code keeps is what the definitions make of the parameters.
kept_is : {R : Type 0} (old : Context R) (p : Peer old.state) (parameters : List ResetParameter) (w : HandledRequests) (h : WorkedAt old parameters w)
    → handled_parameters_of (endpoint_of old) p.my p.held parameters ≡ kept_by p.held (h.effects p.my p.held) w
kept_is old p parameters w h =
    ap (work_all (endpoint_of old) p.my parameters) (sym p.last) ∙ h.whole p.my p.held
  where
    work_all : Endpoint → Pair → List ResetParameter → Held → HandledParameters
    work_all e my ps held = reset_chunk_outcome my (request_state e held ps) held ps

wanted_of : {R : Type 0} (old : Context R) (p : Peer old.state) (parameters : List ResetParameter) (w : HandledRequests) (h : WorkedAt old parameters w) → Wanted w.treatment (first_reset_request parameters)
wanted_of old p parameters w h =
    wanted w.treatment (first_reset_request parameters)
    (λ none. sym (h.treats p.my p.held).has ∙ ap (λ (x : HandledParameters). has_reset x.effects) (sym (kept_is old p parameters w h))
    ∙ chunk_unrequested p.my (request_state (endpoint_of old) p.held parameters) p.held parameters none)

-- The only answer of the kind `unanswered` is `Unanswered`.
kind_none : (answer : requests.OwnAnswer) → own_kind answer ≡ unanswered → answer ≡ own.Unanswered
kind_none own.Unanswered is = refl
kind_none own.InProgress is = absurd (cc)
kind_none own.Performed is = absurd (cc)
kind_none own.Failed is = absurd (cc)

pub nobody_asked : {R : Type 0} (old asked : Context R) (kept : Option PerformedReset) (w : HandledRequests) (parameters : List ResetParameter) → WorkedAt old parameters w
    → view_of asked ≡ view_asked w.last (view_of (record old { renewable = kept })) → outstanding_of asked.state ≡ None → w.own ≡ own.Unanswered
nobody_asked {R = R} old asked kept w parameters h here none =
    let before : outstanding_of old.state ≡ None = sym (ap (λ (v : View R). v.endpoint.outstanding) here) ∙ none in
    kind_none w.own (h.own ∙ ap (λ (n : Option ℕ). own_answer n w.outstanding (in_progress_among n (handled_part false parameters)) (is_completed w.own)) (none_numbered old.state before))

-- the view once both requests were treated
abbrev pub carried_view : {R : Type 0} → Context R → Option PerformedReset → HandledRequests → List ResetParameter → Option Transfer → View R
carried_view old kept w parameters left =
    view_left (view_settled (own_kind w.own) (view_asked w.last (view_of (record old { renewable = kept })))) left (both_reset_events w.is_own_first w.own w.treatment (first_reset_request parameters) (own_streams (outstanding_of old.state)))

-- the events that were added by then
abbrev told_by : {R : Type 0} → Context R → HandledRequests → List ResetParameter → List (Event Emission)
told_by old w parameters = both_answer_events w.is_own_first w.own w.treatment (their_streams (first_reset_request parameters)) (own_streams (outstanding_of old.state))

-- its outcome, from that of what comes after
abbrev all_of : List Effect → List (Event Emission) → Outcome → Outcome
all_of effects told later = with_effects_first effects (behind [] told later)

-- where what comes after begins
begins_there : (answer : OwnAnswer) (e : Endpoint) (asked core : Core) (left : Option Transfer) (renewable : Option NumberedReset) (held : Held) → core_settled answer asked ≡ core_with e.core held
    → (let moved : Endpoint = own_moved answer (record e { core = asked; renewable = renewable }) in record moved { core = core_settled answer asked; queues = record moved.queues { transfer = left } })
    ≡ resets_handled e answer held left renewable
begins_there unanswered e asked core left renewable held is =
    let moved : Endpoint = own_moved unanswered e in ap (λ (c : Core). let x : Endpoint = record moved { core = c; renewable = renewable; queues = record moved.queues { transfer = left } } in x) is
begins_there retried e asked core left renewable held is =
    let moved : Endpoint = own_moved retried e in ap (λ (c : Core). let x : Endpoint = record moved { core = c; renewable = renewable; queues = record moved.queues { transfer = left } } in x) is
begins_there was_performed e asked core left renewable held is =
    let moved : Endpoint = own_moved was_performed e in ap (λ (c : Core). let x : Endpoint = record moved { core = c; renewable = renewable; queues = record moved.queues { transfer = left } } in x) is
begins_there has_failed e asked core left renewable held is =
    let moved : Endpoint = own_moved has_failed e in ap (λ (c : Core). let x : Endpoint = record moved { core = c; renewable = renewable; queues = record moved.queues { transfer = left } } in x) is

-- What is kept of the request is what the code found of it.
abbrev pub KeptSo : {R : Type 0} → Context R → Option PerformedReset → List ResetParameter → HandledRequests → Type 0
KeptSo old kept parameters w =
    performed_reset kept ≡ kept_after (endpoint_of old) (last_request_of old.state).number (first_request_number parameters) (first_reset_request parameters) (is_performed w.treatment)

after_is : (e : Endpoint) (last : ℕ) (parameters : List ResetParameter) (b : Bool) → kept_after e last (first_request_number parameters) (first_reset_request parameters) b ≡ renewable_after e last parameters b
after_is e last parameters true = refl
after_is e last parameters false = refl

renewal_by : {R : Type 0} (old : Context R) (p : Peer old.state) (kept : Option PerformedReset) (parameters : List ResetParameter) (w : HandledRequests) (h : WorkedAt old parameters w) → KeptSo old kept parameters w
    → performed_reset kept ≡ renewable_left (endpoint_of old) p.held (kept_by p.held (h.effects p.my p.held) w) parameters
renewal_by old p kept parameters w h is =
    is
    ∙ after_is (endpoint_of old) (last_request_of old.state).number parameters (is_performed w.treatment)
    ∙ ap (λ (held : Held). renewable_after (endpoint_of old) held.peer_last parameters (is_performed w.treatment)) p.last
    ∙ ap (renewable_after (endpoint_of old) p.held.peer_last parameters) (sym (h.treats p.my p.held).has)

-- what is known of the association by then
core_by : {R : Type 0} (old : Context R) (p : Peer old.state) (parameters : List ResetParameter) (w : HandledRequests) → WorkedAt old parameters w
    → core_settled (own_kind w.own) (core_asked w.last (core_of old.state)) ≡ core_with (core_of old.state) (held_now p.held w)
core_by old p parameters w h =
    p.settled (own_kind w.own) w.last
    ∙ ap (λ (n : Option ℕ). core_with (core_of old.state) (held_out n (held_with p.held w.last))) (ap (left_out (own_kind w.own)) (sym p.own) ∙ sym h.left)

-- what becomes of our own request
kind_by : {R : Type 0} (old : Context R) (p : Peer old.state) (parameters : List ResetParameter) (w : HandledRequests) (h : WorkedAt old parameters w)
    → own_kind w.own ≡ answer_to_own p.held (kept_by p.held (h.effects p.my p.held) w) parameters
kind_by old p parameters w h =
    let effects : List Effect = h.effects p.my p.held in
    h.own
    ∙ (ap (λ (n : Option ℕ). own_answer n w.outstanding (in_progress_among n (handled_part false parameters)) (is_completed w.own)) p.own
    ∙ ap (own_answer p.held.own_outstanding w.outstanding (in_progress_among p.held.own_outstanding (handled_part false parameters)))
    (sym (completed_is w effects (reset_parameters w.responses.items) (h.treats p.my p.held))))

endpoint_by : {R : Type 0} (old : Context R) (p : Peer old.state) (kept : Option PerformedReset) (parameters : List ResetParameter) (w : HandledRequests) (h : WorkedAt old parameters w) (left : Option Transfer)
    → KeptSo old kept parameters w → (carried_view old kept w parameters left).endpoint
    ≡ resets_handled (endpoint_of old) (answer_to_own p.held (kept_by p.held (h.effects p.my p.held) w) parameters) (held_now p.held w) left
    (renewable_left (endpoint_of old) p.held (kept_by p.held (h.effects p.my p.held) w) parameters)
endpoint_by old p kept parameters w h left so =
    begins_there (own_kind w.own) (endpoint_of old) (core_asked w.last (core_of old.state)) (core_of old.state) left (performed_reset kept) (held_now p.held w) (core_by old p parameters w h)
    ∙ ap (λ (a : OwnAnswer). resets_handled (endpoint_of old) a (held_now p.held w) left (performed_reset kept)) (kind_by old p parameters w h)
    ∙ ap (resets_handled (endpoint_of old) (answer_to_own p.held (kept_by p.held (h.effects p.my p.held) w) parameters) (held_now p.held w) left) (renewal_by old p kept parameters w h so)

works_by : {R : Type 0} (old : Context R) (p : Peer old.state) (kept : Option PerformedReset) (parameters : List ResetParameter) (w : HandledRequests) (h : WorkedAt old parameters w) (left : Option Transfer) (later : Outcome) → KeptSo old kept parameters w
    → TreatsInQueues w.treatment (first_reset_request parameters) (transfer_of old.state) left
    → SendsResponses (held_now p.held w) w.is_refused parameters (reset_parameters w.responses.items) (carried_view old kept w parameters left) later
    → WorksBy (endpoint_of old) p.held parameters (all_of (h.effects p.my p.held) (told_by old w parameters) later) (kept_by p.held (h.effects p.my p.held) w)
works_by old p kept parameters w h left later so below turn =
    let e : Endpoint = endpoint_of old in
    let held : Held = held_now p.held w in
    let responses : List ResetParameter = reset_parameters w.responses.items in
    let effects : List Effect = h.effects p.my p.held in
    let after : HandledParameters = kept_by p.held effects w in
    let here : Endpoint = (carried_view old kept w parameters left).endpoint in
    let there : here ≡ resets_handled e (answer_to_own p.held after parameters) held left (renewable_left e p.held after parameters) = endpoint_by old p kept parameters w h left so in
    let told : reset_events_of e parameters after.effects ≡ told_by old w parameters = (h.treats p.my p.held).told (their_streams (first_reset_request parameters)) (own_streams e.outstanding) in (
      left,
      subst (λ (b : Bool). ResetsInQueues b (answers_in_progress responses) (first_reset_request parameters) e.queues.transfer left) (sym (h.treats p.my p.held).has)
          (subst (λ (b : Bool). ResetsInQueues (is_performed w.treatment) b (first_reset_request parameters) e.queues.transfer left) (sym (h.treats p.my p.held).waits) below),
      turn.0,
      subst (λ (x : Endpoint). ResponseAnswers w.is_refused x held responses turn.0) there turn.1,
      ap (all_of effects (told_by old w parameters)) turn.2
          ∙ ap (λ (o : Outcome). let x : Outcome = with_effects_first effects o in x) (sym (responses_behind w.is_refused here (told_by old w parameters) held parameters responses turn.0))
          ∙ ap (λ (x : Endpoint). let o : Outcome = with_effects_first effects (responses_unless_refused w.is_refused x (told_by old w parameters) held parameters responses turn.0) in o) there
          ∙ ap (λ (events : List (Event Emission)). let o : Outcome = with_effects_first effects (responses_unless_refused w.is_refused (resets_handled e (answer_to_own p.held after parameters) held left (renewable_left e p.held after parameters)) events held parameters responses turn.0) in o) (sym told),
    )

turn_by : {R : Type 0} (old : Context R) (p : Peer old.state) (kept : Option PerformedReset) (parameters : List ResetParameter) (w : HandledRequests) (h : WorkedAt old parameters w) (left : Option Transfer) (later : Outcome) → KeptSo old kept parameters w
    → TreatsInQueues w.treatment (first_reset_request parameters) (transfer_of old.state) left
    → SendsResponses (held_now p.held w) w.is_refused parameters (reset_parameters w.responses.items) (carried_view old kept w parameters left) later
    → ReceivesReConfig parameters (view_of old) (all_of (h.effects p.my p.held) (told_by old w parameters) later)
turn_by old p kept parameters w h left later so below turn =
    let o : Outcome = all_of (h.effects p.my p.held) (told_by old w parameters) later in
    p.turn (endpoint_of old) parameters o
    (works_resets (endpoint_of old) p.my p.held parameters o
    (subst (WorksBy (endpoint_of old) p.held parameters o) (sym (kept_is old p parameters w h)) (works_by old p kept parameters w h left later so below turn)))

-- Its ports stay.
settled_ports : (answer : OwnAnswer) (e : Endpoint) → ports_of (own_moved answer e).options ≡ ports_of e.options
settled_ports unanswered e = refl
settled_ports retried e = refl
settled_ports was_performed e = refl
settled_ports has_failed e = refl

adds_told : {R : Type 0} (old : Context R) (p : Peer old.state) (kept : Option PerformedReset) (parameters : List ResetParameter) (w : HandledRequests) (h : WorkedAt old parameters w) (left : Option Transfer)
    → Adds (view_of old) (told_by old w parameters) (carried_view old kept w parameters left)
adds_told old p kept parameters w h left =
    record {
      ports = settled_ports (own_kind w.own) (record (endpoint_of old) { core = core_asked w.last (core_of old.state); renewable = performed_reset kept });
      events = ap (λ (es : List (Event (List ℕ))). (view_of old).events ++ es)
          (sym (both_user (ports_of old.options) w.is_own_first w.own w.treatment (first_reset_request parameters) (own_streams (outstanding_of old.state)) (wanted_of old p parameters w h)));
    }

drawn_behind : (front rest : List Effect) → drawn_pairs front ≡ [] → drawn_pairs rest ≡ drawn_pairs (front ++ rest)
drawn_behind front rest none = ap (λ (ps : List Pair). ps ++ drawn_pairs rest) (sym none) ∙ sym (drawn_pairs-append front rest)

pub reset_done : {R : Type 0} (stream : R → Stream) (old : Context R) (p : Peer old.state) (kept : Option PerformedReset) (parameters : List ResetParameter) (w : HandledRequests) → WorkedAt old parameters w → KeptSo old kept parameters w → (left : Option Transfer)
    → TreatsInQueues w.treatment (first_reset_request parameters) (transfer_of old.state) left
    → (new : View R) → TakesPossibleTurn stream (SendsResponses (held_now p.held w) w.is_refused parameters (reset_parameters w.responses.items)) (carried_view old kept w parameters left) new → TakesPossibleTurn stream (ReceivesReConfig parameters) (view_of old) new
reset_done stream old p kept parameters w h so left below new second =
    let told : List (Event Emission) = told_by old w parameters in
    record {
      outcome = all_of (h.effects p.my p.held) told second.outcome;
      turn = turn_by old p kept parameters w h left second.outcome so below second.turn;
      moves = moves_noting stream (view_of old) new (h.effects p.my p.held) (behind [] told second.outcome) (drawn_behind (h.effects p.my p.held) second.outcome.effects (h.treats p.my p.held).drawn)
          (moves_behind stream (view_of old) (carried_view old kept w parameters left) new [] told second.outcome (adds_told old p kept parameters w h left)
          (record { words = sym (append-nil (view_of old).words); pairs = refl; drawn = refl }) second.moves);
    }

pub reset_cut : {R : Type 0} (old : Context R) (p : Peer old.state) (kept : Option PerformedReset) (parameters : List ResetParameter) (w : HandledRequests) → WorkedAt old parameters w → KeptSo old kept parameters w → (left : Option Transfer)
    → TreatsInQueues w.treatment (first_reset_request parameters) (transfer_of old.state) left
    → (events : List (Event (List ℕ))) → CutsSomeTurn (SendsResponses (held_now p.held w) w.is_refused parameters (reset_parameters w.responses.items)) (carried_view old kept w parameters left) events
    → CutsSomeTurn (ReceivesReConfig parameters) (view_of old) events
reset_cut old p kept parameters w h so left below events second =
    let told : List (Event Emission) = told_by old w parameters in
    record {
      outcome = all_of (h.effects p.my p.held) told second.outcome;
      turn = turn_by old p kept parameters w h left second.outcome so below second.turn;
      cut = cut_noting (view_of old) (h.effects p.my p.held) (behind [] told second.outcome) events
          (cut_behind (view_of old) (carried_view old kept w parameters left) [] told second.outcome events (adds_told old p kept parameters w h left) second.cut);
    }

-- by whether an allocation failed
pub reset_by : {R E : Type 0} (stream : R → Stream) (old mid : Context R) (p : Peer old.state) (kept : Option PerformedReset) (parameters : List ResetParameter) (w : HandledRequests) → WorkedAt old parameters w → KeptSo old kept parameters w → (left : Option Transfer)
    → TreatsInQueues w.treatment (first_reset_request parameters) (transfer_of old.state) left → view_of mid ≡ carried_view old kept w parameters left → (result : Result (Unit {0}) E) (new : Context R)
    → TakesOne stream (SendsResponses (held_now p.held w) w.is_refused parameters (reset_parameters w.responses.items)) mid result new → TakesOne stream (ReceivesReConfig parameters) old result new
reset_by {R = R} stream old mid p kept parameters w h so left below here (Ok done) new second =
    reset_done stream old p kept parameters w h so left below (view_of new)
    (subst (λ (v : View R). TakesPossibleTurn stream (SendsResponses (held_now p.held w) w.is_refused parameters (reset_parameters w.responses.items)) v (view_of new)) here second)
reset_by {R = R} stream old mid p kept parameters w h so left below here (Err fault) new second =
    reset_cut old p kept parameters w h so left below (view_of new).events
    (subst (λ (v : View R). CutsSomeTurn (SendsResponses (held_now p.held w) w.is_refused parameters (reset_parameters w.responses.items)) v (view_of new).events) here second)

-- the view with the last request, from the context with what may be renewed
pub asked_from : {R : Type 0} (old mid asked : Context R) (kept : Option PerformedReset) (last : LastRequest) → view_of mid ≡ view_of (record old { renewable = kept }) → view_of asked ≡ view_asked last (view_of mid)
    → view_of asked ≡ view_asked last (view_of (record old { renewable = kept }))
asked_from {R = R} old mid asked kept last is here = here ∙ ap (λ (v : View R). view_asked last v) is

-- what the code has found of the request
pub kept_so : {R : Type 0} (old : Context R) (kept : Option PerformedReset) (tcb : TransmissionControlBlock) (parameters : List ResetParameter) (w : HandledRequests) (request : Option OutgoingSsnResetRequestParameter) → Some tcb ≡ tcb_of old.state
    → option_map asked_number request ≡ first_request_number parameters → option_map reset_of_request request ≡ first_reset_request parameters
    → performed_reset kept ≡ kept_after (endpoint_of old) tcb.last_processed_req_seq_nbr (option_map asked_number request) (option_map reset_of_request request) (is_performed w.treatment) → KeptSo old kept parameters w
kept_so old kept tcb parameters w request holds number wanted is =
    is
    ∙ ap (λ (n : Option ℕ). kept_after (endpoint_of old) tcb.last_processed_req_seq_nbr n (option_map reset_of_request request) (is_performed w.treatment)) number
    ∙ ap (λ (r : Option RequestedReset). kept_after (endpoint_of old) tcb.last_processed_req_seq_nbr (first_request_number parameters) r (is_performed w.treatment)) wanted
    ∙ ap (λ (found : Option TransmissionControlBlock). kept_after (endpoint_of old) (last_of found).number (first_request_number parameters) (first_reset_request parameters) (is_performed w.treatment)) holds

-- nothing is performed
pub as_was : {R : Type 0} (old : Context R) (last : ℕ) (request : Option OutgoingSsnResetRequestParameter) (treatment : Treatment) → is_performed treatment ≡ false
    → (kept : Option PerformedReset) × (performed_reset kept ≡ kept_after (endpoint_of old) last (option_map asked_number request) (option_map reset_of_request request) (is_performed treatment))
    × (view_of old ≡ view_of (record old { renewable = kept }))
as_was old last request Nothing none = (old.renewable, refl, refl)
as_was old last request Deferred none = (old.renewable, refl, refl)
as_was old last request Performed none = absurd (cc)
as_was old last request Renewed none = absurd (cc)

-- There still is a peer.
pub still_held : {R : Type 0} (old mid : Context R) (p : Peer old.state) (kept : Option PerformedReset) (w : HandledRequests) (parameters : List ResetParameter) (left : Option Transfer) → WorkedAt old parameters w
    → view_of mid ≡ carried_view old kept w parameters left → held_by_core (core_of mid.state) ≡ Some (held_now p.held w)
still_held {R = R} old mid p kept w parameters left h here =
    ap (λ (v : View R). held_by_core v.endpoint.core) here ∙ ap held_by_core (core_by old p parameters w h) ∙ p.keeps (held_now p.held w)

-- answers in memory, where there are some
pub some_said : (responses : List Parameter) → (length responses == 0) ≡ false → is_none (reset_parameters responses) ≡ false
some_said [] some = absurd (cc)
some_said (response ∷ responses) some = refl

-- both requests were treated, after the numbers
pub carried_so : {R : Type 0} (old asked mid : Context R) (kept : Option PerformedReset) (w : HandledRequests) (reset : Option RequestedReset) (parameters : List ResetParameter) → view_of asked ≡ view_asked w.last (view_of (record old { renewable = kept }))
    → reset ≡ first_reset_request parameters → CarriedAs w reset asked (view_of mid)
    → (left : Option Transfer) × TreatsInQueues w.treatment (first_reset_request parameters) (transfer_of old.state) left × (view_of mid ≡ carried_view old kept w parameters left)
carried_so {R = R} old asked mid kept w reset parameters here wanted h =
    let below : transfer_of asked.state ≡ transfer_of old.state = ap (λ (v : View R). v.endpoint.queues.transfer) here in
    let told : Option RequestedReset → List (Event (List ℕ)) = λ r. both_reset_events w.is_own_first w.own w.treatment r (own_streams (outstanding_of old.state)) in (
      h.0,
      subst (λ (r : Option RequestedReset). TreatsInQueues w.treatment r (transfer_of old.state) h.0) wanted
          (subst (λ (f : Option Transfer). TreatsInQueues w.treatment reset f h.0) below h.1),
      h.2
          ∙ ap (λ (v : View R). view_left (view_settled (own_kind w.own) v) h.0 (both_reset_events w.is_own_first w.own w.treatment reset (own_streams v.endpoint.outstanding))) here
          ∙ ap (λ (r : Option RequestedReset). view_left (view_settled (own_kind w.own) (view_asked w.last (view_of (record old { renewable = kept })))) h.0 (told r)) wanted,
    )

-- The user's events of both come first.
told_first : (e : Endpoint) (my : Pair) (held : Held) (parameters : List ResetParameter) (o : Outcome) → HandlesResets e my held parameters o
    → (more : List (Event Emission)) × (o.events ≡ reset_events_of e parameters (handled_parameters_of e my held parameters).effects ++ more)
told_first e my held parameters o h =
    let w : HandledParameters = handled_parameters_of e my held parameters in
    let there : Endpoint = resets_handled e (answer_to_own held w parameters) w.held h.left (renewable_left e held w parameters) in (
      (responses_unless_refused w.is_refused there [] w.held parameters w.answers h.answers).events,
      ap (λ (x : Outcome). x.events) h.is ∙ ap (λ (x : Outcome). x.events) (responses_behind w.is_refused there (reset_events_of e parameters w.effects) w.held parameters w.answers h.answers),
    )

-- If it was cut before both were reported, the first part of their events was added.
pub carried_cut : {R : Type 0} (old asked mid : Context R) (p : Peer old.state) (kept : Option PerformedReset) (w : HandledRequests) (reset : Option RequestedReset) (parameters : List ResetParameter) → WorkedAt old parameters w
    → view_of asked ≡ view_asked w.last (view_of (record old { renewable = kept })) → reset ≡ first_reset_request parameters → (count : ℕ) × ((view_of mid).events ≡ (view_of asked).events ++ take count (handled_reset_events w reset asked))
    → CutsSomeTurn (ReceivesReConfig parameters) (view_of old) (view_of mid).events
carried_cut {R = R} old asked mid p kept w reset parameters h here wanted cut =
    let e : Endpoint = endpoint_of old in
    let worked : HandledParameters = handled_parameters_of e p.my p.held parameters in
    let any = any_turn e p.my p.held parameters in
    let first = told_first e p.my p.held parameters any.0 any.1 in
    let before : Outcome = record any.0 { events = reset_events_of e parameters worked.effects } in
    let streams : List ℕ = own_streams (outstanding_of old.state) in
    let told : handled_reset_events w reset asked ≡ map (user_event (ports_of old.options)) (reset_events_of e parameters worked.effects) =
    ap (λ (r : Option RequestedReset). both_reset_events w.is_own_first w.own w.treatment r (own_streams (outstanding_of asked.state))) wanted
    ∙ ap (λ (v : View R). both_reset_events w.is_own_first w.own w.treatment (first_reset_request parameters) (own_streams v.endpoint.outstanding)) here
    ∙ sym (both_user (ports_of old.options) w.is_own_first w.own w.treatment (first_reset_request parameters) streams (wanted_of old p parameters w h))
    ∙ ap (map (user_event (ports_of old.options)))
    (sym ((h.treats p.my p.held).told (their_streams (first_reset_request parameters)) streams) ∙ ap (λ (x : HandledParameters). reset_events_of e parameters x.effects) (sym (kept_is old p parameters w h))) in
    record {
      outcome = any.0;
      turn = p.turn e parameters any.0 any.1;
      cut = cut_longer (view_of old) before any.0 first.0 (view_of mid).events first.1
          (record {
            count = cut.0;
            added = cut.1 ∙ ap (λ (v : View R). v.events ++ take cut.0 (handled_reset_events w reset asked)) here ∙ ap (λ (es : List (Event (List ℕ))). (view_of old).events ++ take cut.0 es) told;
          });
    }
