-- The turn of RE-CONFIG leaves T1 running where the association connects, leaves numbers that fit
-- their fields, and sends what is read as itself.
use Rattle.std.proofs.Common.{◌≡◌, ◌<◌, ◌≤◌, ◌+◌, ◌^◌, ℕ, Bool, true, false, cond, Option, None, List, [], ◌∷◌, ◌++◌, map, length, ◌⊎◌, inl, inr, refl, sym, subst, ap, arith}
use Rattle.std.specs.List.{AllByRecursion}
use Rattle.std.proofs.lemmas.List.{append-nil}
use Rattle.std.proofs.lemmas.Bool.Decides.{nat_tests}
use Rattle.dcsctp_spec_lemmas.specs.wire.declared.reconfiguration.ReconfigurationResponseResult.{ReconfigurationResponseResult}
use Rattle.dcsctp_spec_lemmas.specs.wire.declared.reconfiguration.ReconfigurationResponseResult.TheVariants.{SuccessNothingToDo, SuccessPerformed, Denied, ErrorWrongSSN, ErrorRequestAlreadyInProgress, ErrorBadSequenceNumber, InProgress}
use Rattle.dcsctp_spec_lemmas.specs.wire.Content.{re_config_chunk}
use Rattle.dcsctp_spec_lemmas.specs.wire.ReadsBack.{FitsParameter}
use Rattle.dcsctp_spec_lemmas.specs.wire.Spelling.{chunk_bytes}
use Rattle.dcsctp_spec_lemmas.proofs.wire_lemmas.Lengths.{length-chunk_bytes}
use Rattle.dcsctp_spec_lemmas.specs.types.declared.association.Pair.{Pair}
use Rattle.dcsctp_spec_lemmas.specs.types.declared.association.Held.{Held}
use Rattle.dcsctp_spec_lemmas.specs.types.Settings.{packet_size_limit, IsValid, FitsOptions}
use Rattle.dcsctp_spec_lemmas.specs.spec.endpoint.Event.{Event}
use Rattle.dcsctp_spec_lemmas.specs.spec.Packet.{re_config, Emission}
use Rattle.dcsctp_spec_lemmas.specs.spec.Reconfiguration.{NumberedReset, RequestState, early, due, renewed, ResetParameter, outgoing_reset_request, incoming_reset_request, reconfiguration_response, other_reset_parameter, reset_parameter_content, reset_parameter_of}
use Rattle.dcsctp_spec_lemmas.specs.spec.queues.Transfer.{Transfer}
use Rattle.dcsctp_spec_runs.specs.Deadlines.{T1Runs}
use Rattle.dcsctp_spec_lemmas.specs.spec.endpoint.Endpoint.{Endpoint, Core, closed, cookie_wait, cookie_echoed, open_in}
use Rattle.dcsctp_spec_lemmas.specs.spec.endpoint.Timers.{RunningTimer}
use Rattle.dcsctp_spec_lemmas.specs.spec.endpoint.Outcome.{Outcome, quiet, sends, emits, to_peer}
use Rattle.dcsctp_spec_lemmas.specs.spec.endpoint.Outcome.{fits as fits_mtu}
use Rattle.dcsctp_spec_lemmas.specs.spec.association.Effect.{Effect}
use Rattle.dcsctp_spec_lemmas.specs.spec.association.ResetChanges.{RequestPlace, again, next, astray, request_place, repeated_request_outcome, is_due, outgoing_by_place, incoming_by_place, result_of_answer, is_outstanding, result_if_outstanding, HandledParameters, parameters_outcome, reset_chunk_outcome}
use Rattle.dcsctp_spec_lemmas.specs.spec.endpoint.FlushOutcomes.{Answer, draft_to, flush_of}
use Rattle.dcsctp_spec_lemmas.specs.spec.endpoint.ResetOutcomes.{request_state, renewable_left, handled_parameters_of, OwnAnswer, answer_to_own, reset_events, reset_events_of, core_with, resets_handled, responses_outcome, responses_unless_refused, ResponseAnswers, HandlesResets, ResetTurn}
use Rattle.dcsctp_spec_lemmas.specs.spec.CookieFits.{FitsPair}
use Rattle.dcsctp_spec_lemmas.proofs.OneAnswerLemmas.{answered_by}
use Rattle.dcsctp_spec_runs.specs.Fitting.{AllSent, FitsNumber, FitsHeld, FitsCore, FitsEndpoint, IsSendable, Sendable, TurnFits}
use Rattle.dcsctp_spec_laws.proofs.ResetLemmas.{AreResets, nothing, acceptance, performance, renewal, completion, failure, KeepsPeer, chunk_brings, worked_keeps}
use Rattle.dcsctp_theorem_sockets.proofs.FlushFits.{still_fits, draft_sendable, flush_fits, behind_fits, answering_fits}
use Rattle.dcsctp_theorem_sockets.proofs.Sent.{all_sent_append}
use Rattle.dcsctp_theorem_sockets.proofs.T1Turns.{Up, UpAfter, flush_up}

-- ---- T1

with_runs : (core : Core) (held : Held) (t1 : Option RunningTimer) → T1Runs core t1 → T1Runs (core_with core held) t1
with_runs closed held t1 h = h
with_runs (cookie_wait my) held t1 h = h
with_runs (cookie_echoed my old cookie) held t1 h = h
with_runs (open_in phase my old) held t1 h = h

worked_up : (e : Endpoint) (answer : OwnAnswer) (held : Held) (left : Option Transfer) (renewable : Option NumberedReset) → Up e → Up (resets_handled e answer held left renewable)
worked_up e answer held left renewable h =
    let kept = worked_keeps e answer held left renewable in
    subst (λ (core : Core). T1Runs core (resets_handled e answer held left renewable).timers.t1) (sym kept.core)
    (subst (T1Runs (core_with e.core held)) (sym kept.t1) (with_runs e.core held e.timers.t1 h))

emitted_up : (b : Bool) (e : Endpoint) (emission : Emission) → Up e → UpAfter (cond b (sends e [] [] emission) (quiet e [] []))
emitted_up true e emission h = h
emitted_up false e emission h = h

responses_up : (e : Endpoint) (held : Held) (responses : List ResetParameter) → Up e → UpAfter (responses_outcome e held responses)
responses_up e held [] h = h
responses_up e held (response ∷ responses) h =
    let emission : Emission = to_peer held (re_config (response ∷ responses)) in
    answered_by UpAfter e emission h (emitted_up (fits_mtu e emission) e emission h)

sent_up : (refused : Bool) (e : Endpoint) (told : List (Event Emission)) (held : Held) (parameters responses : List ResetParameter) (answers : List Answer)
    → ResponseAnswers refused e held responses answers → Up e → UpAfter (responses_unless_refused refused e told held parameters responses answers)
sent_up true e told held parameters responses answers allowed h = h
sent_up false e told held parameters responses answers allowed h =
    flush_up (responses_outcome e held responses).after (draft_to held) answers allowed (responses_up e held responses h)

resets_up : (e : Endpoint) (my : Pair) (held : Held) (parameters : List ResetParameter) (o : Outcome) → HandlesResets e my held parameters o → Up e → UpAfter o
resets_up e my held parameters o turn h =
    let w : HandledParameters = handled_parameters_of e my held parameters in
    let base : Endpoint = resets_handled e (answer_to_own held w parameters) w.held turn.left (renewable_left e held w parameters) in
    subst UpAfter (sym turn.is)
    (sent_up w.is_refused base (reset_events_of e parameters w.effects) w.held parameters w.answers turn.answers turn.allowed (worked_up e (answer_to_own held w parameters) w.held turn.left (renewable_left e held w parameters) h))

pub reset_up : (e : Endpoint) (core : Core) (parameters : List ResetParameter) (o : Outcome) → ResetTurn e core parameters o → Up e → UpAfter o
reset_up e closed parameters o turn h = subst UpAfter (sym turn) h
reset_up e (cookie_wait my) parameters o turn h = subst UpAfter (sym turn) h
reset_up e (cookie_echoed my held cookie) parameters o turn h = resets_up e my held parameters o turn h
reset_up e (open_in phase my held) parameters o turn h = resets_up e my held parameters o turn h

-- ---- the numbers that are kept and answered

-- An answer is a response whose number fits its field.
abbrev FitsResponse : ResetParameter → Type 0
FitsResponse (reconfiguration_response number result) = number < 2 ^ 32
FitsResponse parameter = ⊥

record FitsWorked (w : HandledParameters) : Type 0 where
  last : w.held.peer_last < 2 ^ 32
  answers : AllByRecursion FitsResponse w.answers

repeated_last : (held : Held) (result : ReconfigurationResponseResult) (reached : Bool) → held.peer_last < 2 ^ 32 → (repeated_request_outcome held result reached).held.peer_last < 2 ^ 32
repeated_last held SuccessNothingToDo reached h = h
repeated_last held SuccessPerformed reached h = h
repeated_last held Denied reached h = h
repeated_last held ErrorWrongSSN reached h = h
repeated_last held ErrorRequestAlreadyInProgress reached h = h
repeated_last held ErrorBadSequenceNumber reached h = h
repeated_last held InProgress true h = h
repeated_last held InProgress false h = h

outgoing_last : (held : Held) (number : ℕ) (state : RequestState) (place : RequestPlace) → held.peer_last < 2 ^ 32 → number < 2 ^ 32 → (outgoing_by_place held number state place).held.peer_last < 2 ^ 32
outgoing_last held number state again h fits = repeated_last held held.peer_result (is_due state) h
outgoing_last held number early next h fits = fits
outgoing_last held number due next h fits = fits
outgoing_last held number renewed next h fits = fits
outgoing_last held number state astray h fits = h

incoming_last : (held : Held) (number : ℕ) (place : RequestPlace) → held.peer_last < 2 ^ 32 → number < 2 ^ 32 → (incoming_by_place held number place).held.peer_last < 2 ^ 32
incoming_last held number again h fits = fits
incoming_last held number next h fits = fits
incoming_last held number astray h fits = h

told_last : (my : Pair) (held : Held) (number : ℕ) (result : ReconfigurationResponseResult) → held.peer_last < 2 ^ 32 → (result_of_answer my held number result).held.peer_last < 2 ^ 32
told_last my held number SuccessNothingToDo h = h
told_last my held number SuccessPerformed h = h
told_last my held number Denied h = h
told_last my held number ErrorWrongSSN h = h
told_last my held number ErrorRequestAlreadyInProgress h = h
told_last my held number ErrorBadSequenceNumber h = h
told_last my held number InProgress h = h

informed_last : (b : Bool) (my : Pair) (held : Held) (number : ℕ) (result : ReconfigurationResponseResult) → held.peer_last < 2 ^ 32 → (result_if_outstanding my held number result b).held.peer_last < 2 ^ 32
informed_last true my held number result h = told_last my held number result h
informed_last false my held number result h = h

-- The parameters fit their fields.
abbrev FitParameters : List ResetParameter → Type 0
FitParameters parameters = AllByRecursion FitsParameter (map reset_parameter_content parameters)

parameters_fit : (my : Pair) (state : RequestState) (has_worked : Bool) (held : Held) (parameters : List ResetParameter) → held.peer_last < 2 ^ 32 → FitParameters parameters
    → FitsWorked (parameters_outcome my state has_worked held parameters)
parameters_fit my state has_worked held [] h fit = record { last = h; answers = tt }
parameters_fit my state true held (outgoing_reset_request number answered reset ∷ parameters) h fit = record { last = h; answers = tt }
parameters_fit my state false held (outgoing_reset_request number answered reset ∷ parameters) h fit =
    let rest = parameters_fit my state true (outgoing_by_place held number state (request_place held.peer_last number)).held parameters
    (outgoing_last held number state (request_place held.peer_last number) h fit.0.number_fits) fit.1 in
    record { last = rest.last; answers = (fit.0.number_fits, rest.answers) }
parameters_fit my state has_worked held (incoming_reset_request number streams ∷ parameters) h fit =
    let rest = parameters_fit my state has_worked (incoming_by_place held number (request_place held.peer_last number)).held parameters
    (incoming_last held number (request_place held.peer_last number) h fit.0.0) fit.1 in
    record { last = rest.last; answers = (fit.0.0, rest.answers) }
parameters_fit my state has_worked held (reconfiguration_response number result ∷ parameters) h fit =
    let rest = parameters_fit my state has_worked (result_if_outstanding my held number result (is_outstanding number held.own_outstanding)).held parameters
    (informed_last (is_outstanding number held.own_outstanding) my held number result h) fit.1 in
    record { last = rest.last; answers = rest.answers }
parameters_fit my state has_worked held (other_reset_parameter parameter ∷ parameters) h fit = parameters_fit my state has_worked held parameters h fit.1

chunk_fits : (my : Pair) (state : RequestState) (held : Held) (parameters : List ResetParameter) → held.peer_last < 2 ^ 32 → FitParameters parameters → FitsWorked (reset_chunk_outcome my state held parameters)
chunk_fits my state held [] h fit = record { last = h; answers = tt }
chunk_fits my state held (parameter ∷ parameters) h fit = parameters_fit my state false held (parameter ∷ parameters) h fit

number_fits : (new old : Option ℕ) → (new ≡ old) ⊎ (new ≡ None) → FitsNumber old → FitsNumber new
number_fits new old (inl same) fits = subst FitsNumber (sym same) fits
number_fits new old (inr none) fits = subst FitsNumber (sym none) tt

held_fits : (old new : Held) → KeepsPeer old new → FitsHeld old → new.peer_last < 2 ^ 32 → FitsHeld new
held_fits old new keeps fits last =
    record {
      peer = subst FitsPair (sym keeps.peer) fits.peer;
      own_next = subst (λ (n : ℕ). n < 2 ^ 32) (sym keeps.own_next) fits.own_next;
      own_outstanding = number_fits new.own_outstanding old.own_outstanding keeps.own_outstanding fits.own_outstanding;
      peer_last = last;
    }

-- ---- the packet of the answers

responses_read : (responses : List ResetParameter) → AllByRecursion FitsResponse responses → map reset_parameter_of (map reset_parameter_content responses) ≡ responses
responses_read [] fit = refl
responses_read (reconfiguration_response number result ∷ responses) fit = ap (λ (rest : List ResetParameter). reconfiguration_response number result ∷ rest) (responses_read responses fit.1)
responses_read (outgoing_reset_request number answered reset ∷ responses) fit = absurd fit.0
responses_read (incoming_reset_request number streams ∷ responses) fit = absurd fit.0
responses_read (other_reset_parameter parameter ∷ responses) fit = absurd fit.0

responses_fit : (responses : List ResetParameter) → AllByRecursion FitsResponse responses → FitParameters responses
responses_fit [] fit = tt
responses_fit (reconfiguration_response number result ∷ responses) fit = ((fit.0, tt), responses_fit responses fit.1)
responses_fit (outgoing_reset_request number answered reset ∷ responses) fit = absurd fit.0
responses_fit (incoming_reset_request number streams ∷ responses) fit = absurd fit.0
responses_fit (other_reset_parameter parameter ∷ responses) fit = absurd fit.0

-- A packet of one chunk that fits `mtu` leaves room for its length.
short_enough : (e : Endpoint) (responses : List ResetParameter) (held : Held) → IsValid e.options → fits_mtu e (to_peer held (re_config responses)) ≡ true
    → length (chunk_bytes (re_config_chunk (map reset_parameter_content responses))) < 2 ^ 16
short_enough e responses held valid fits =
    let limit : packet_size_limit e.options ≤ 65535 = omega (arith, valid.greatest_size) in
    let bytes : List ℕ = chunk_bytes (re_config_chunk (map reset_parameter_content responses)) in
    let whole : length (bytes ++ []) ≡ length bytes = ap length (append-nil bytes) in
    let within : 12 + length (bytes ++ []) ≤ packet_size_limit e.options = grind (arith, nat_tests, fits) in
    omega (arith, limit, whole, within)

responses_sendable : (e : Endpoint) (responses : List ResetParameter) (held : Held) → IsValid e.options → fits_mtu e (to_peer held (re_config responses)) ≡ true → AllByRecursion FitsResponse responses
    → Sendable (re_config responses)
responses_sendable e responses held valid fits each =
    record {
      fits = record {
        len_fits = omega (arith, short_enough e responses held valid fits, length-chunk_bytes (re_config_chunk (map reset_parameter_content responses)));
        parameters_fit = responses_fit responses each;
      };
      reads = ap re_config (responses_read responses each);
      said = tt;
    }

emitted_fits : (b : Bool) (e : Endpoint) (held : Held) (responses : List ResetParameter) → fits_mtu e (to_peer held (re_config responses)) ≡ b → FitsEndpoint e → FitsHeld held → AllByRecursion FitsResponse responses
    → TurnFits (cond b (sends e [] [] (to_peer held (re_config responses))) (quiet e [] []))
emitted_fits true e held responses is h fits each =
    record {
      after = record { valid = h.valid; options = h.options; core = h.core; t1 = h.t1 };
      sends = (record { tag = fits.peer.tag; contents = (responses_sendable e responses held h.valid is each, tt) }, tt);
    }
emitted_fits false e held responses is h fits each = record { after = h; sends = tt }

response_fits : (e : Endpoint) (held : Held) (responses : List ResetParameter) → FitsEndpoint e → FitsHeld held → AllByRecursion FitsResponse responses → TurnFits (responses_outcome e held responses)
response_fits e held [] h fits each = still_fits e h
response_fits e held (response ∷ responses) h fits each =
    let emission : Emission = to_peer held (re_config (response ∷ responses)) in
    answered_by TurnFits e emission (still_fits e h)
    (answering_fits (emits e [] emission) (emitted_fits (fits_mtu e emission) e held (response ∷ responses) refl h fits each))

-- ---- the turn

-- No event of a reset is a packet.
told_sends : (theirs own : List ℕ) (es : List Effect) → AreResets es → AllSent IsSendable (reset_events theirs own es)
told_sends theirs own _ nothing = tt
told_sends theirs own _ (acceptance number es are) = told_sends theirs own es are
told_sends theirs own _ (performance peer number es are) = (tt, told_sends theirs own es are)
told_sends theirs own _ (renewal peer number es are) = told_sends theirs own es are
told_sends theirs own _ (completion my number es are) = (tt, told_sends theirs own es are)
told_sends theirs own _ (failure number es are) = (tt, told_sends theirs own es are)

sent_fits : (refused : Bool) (e : Endpoint) (told : List (Event Emission)) (held : Held) (parameters responses : List ResetParameter) (answers : List Answer)
    → ResponseAnswers refused e held responses answers → FitsEndpoint e → FitsHeld held → AllByRecursion FitsResponse responses → AllSent IsSendable told
    → TurnFits (responses_unless_refused refused e told held parameters responses answers)
sent_fits true e told held parameters responses answers allowed h fits each before = record { after = h; sends = all_sent_append IsSendable told _ before (tt, tt) }
sent_fits false e told held parameters responses answers allowed h fits each before =
    let sent : Outcome = responses_outcome e held responses in
    let first : TurnFits sent = response_fits e held responses h fits each in
    behind_fits [] (told ++ sent.events) (flush_of sent.after (draft_to held) answers) (all_sent_append IsSendable told sent.events before first.sends)
    (flush_fits sent.after (draft_to held) answers allowed first.after (draft_sendable held fits))

-- the association with this known of its peer
with_fits : (core : Core) (held : Held) → FitsCore core → FitsHeld held → FitsCore (core_with core held)
with_fits closed held own fits = own
with_fits (cookie_wait my) held own fits = own
with_fits (cookie_echoed my old cookie) held own fits = (own.0, fits, own.2)
with_fits (open_in phase my old) held own fits = (own.0, fits)

worked_fits : (e : Endpoint) (answer : OwnAnswer) (held : Held) (left : Option Transfer) (renewable : Option NumberedReset) → FitsEndpoint e → FitsHeld held → FitsEndpoint (resets_handled e answer held left renewable)
worked_fits e answer held left renewable h fits =
    let kept = worked_keeps e answer held left renewable in
    record {
      valid = subst IsValid (sym kept.options) h.valid;
      options = subst FitsOptions (sym kept.options) h.options;
      core = subst FitsCore (sym kept.core) (with_fits e.core held h.core fits);
      t1 = subst (λ (core : Core). T1Runs core (resets_handled e answer held left renewable).timers.t1) (sym kept.core)
          (subst (T1Runs (core_with e.core held)) (sym kept.t1) (with_runs e.core held e.timers.t1 h.t1));
    }

resets_fit : (e : Endpoint) (my : Pair) (held : Held) (parameters : List ResetParameter) (o : Outcome) → HandlesResets e my held parameters o → FitsEndpoint e → FitsHeld held → FitParameters parameters → TurnFits o
resets_fit e my held parameters o turn h fits fit =
    let state : RequestState = request_state e held parameters in
    let w : HandledParameters = handled_parameters_of e my held parameters in
    let brought = chunk_brings my state held parameters in
    let numbers : FitsWorked w = chunk_fits my state held parameters fits.peer_last fit in
    let after : FitsHeld w.held = held_fits held w.held brought.keeps fits numbers.last in
    let base : Endpoint = resets_handled e (answer_to_own held w parameters) w.held turn.left (renewable_left e held w parameters) in
    let sent = sent_fits w.is_refused base (reset_events_of e parameters w.effects) w.held parameters w.answers turn.answers turn.allowed
    (worked_fits e (answer_to_own held w parameters) w.held turn.left (renewable_left e held w parameters) h after) after numbers.answers (told_sends _ _ w.effects brought.are) in
    subst TurnFits (sym turn.is) (record { after = sent.after; sends = sent.sends })

pub reset_fits : (e : Endpoint) (core : Core) (parameters : List ResetParameter) (o : Outcome) → ResetTurn e core parameters o → FitsEndpoint e → FitsCore core → Sendable (re_config parameters) → TurnFits o
reset_fits e closed parameters o turn h own good = subst TurnFits (sym turn) (still_fits e h)
reset_fits e (cookie_wait my) parameters o turn h own good = subst TurnFits (sym turn) (still_fits e h)
reset_fits e (cookie_echoed my held cookie) parameters o turn h own good = resets_fit e my held parameters o turn h own.1 good.fits.parameters_fit
reset_fits e (open_in phase my held) parameters o turn h own good = resets_fit e my held parameters o turn h own.1 good.fits.parameters_fit
