-- What the code makes of the peer's requests, parameter by parameter, is what the definitions make of them.
use Rattle.std.proofs.Common.{◌≡◌, ◌&&◌, ◌⊎◌, inl, inr, ℕ, ◌+◌, ◌<◌, nat_eq, Bool, true, false, Option, None, List, [], ◌∷◌, ◌++◌, map, length, take, drop, get_or, refl, sym, subst, ap, ◌∙◌, append_assoc, arith, ◌==◌, ◌||◌, not, Some}
use Rattle.std.proofs.lemmas.List.{append-nil, map-append, take_more, take-append-drop}
use Rattle.std.proofs.lemmas.Bool.Decides.{nat_tests}
use Rattle.dcsctp_core.specs.wire.declared.parameter.Parameter.{Parameter}
use Rattle.dcsctp_core.specs.wire.declared.parameter.Parameter.TheVariants as parameters
use Rattle.dcsctp_core.specs.wire.declared.reconfiguration.OutgoingSsnResetRequestParameter.{OutgoingSsnResetRequestParameter}
use Rattle.dcsctp_core.specs.wire.declared.reconfiguration.ReconfigurationResponseResult.{ReconfigurationResponseResult}
use Rattle.dcsctp_core.specs.wire.Content.{ParameterContent, parameter_content}
use Rattle.dcsctp_core.specs.types.declared.association.Pair.{Pair}
use Rattle.dcsctp_core.specs.types.declared.association.Held.{Held}
use Rattle.dcsctp_core.specs.spec.endpoint.Event.{Event, streams_reset_performed}
use Rattle.dcsctp_core.specs.spec.Packet.{Emission}
use Rattle.dcsctp_core.specs.spec.Reconfiguration.{RequestState, RequestedReset, ResetParameter, outgoing_reset_request, incoming_reset_request, reconfiguration_response, other_reset_parameter, reset_parameter_content, reset_parameter_of}
use Rattle.dcsctp_core.specs.spec.association.Effect.{Effect, draws, sends, holds, connects, ends, begins, gives_up, completes, fails, accepts, performs, renews, resumes, drawn_pairs}
use Rattle.dcsctp_core.specs.spec.association.ResetChanges.{RequestPlace, again, next, astray, request_place, RequestOutcome, accepted_request, outgoing_by_place, incoming_by_place, AnswerResult, is_outstanding, result_if_outstanding, HandledParameters, after_request, after_answer, parameters_outcome, reset_chunk_outcome, result_of_answer}
use Rattle.dcsctp_core.specs.spec.endpoint.FlushOutcomes.{is_none}
use Rattle.dcsctp_core.specs.spec.endpoint.ResetOutcomes.{has_reset, answers_in_progress, reset_events, handled_part, is_in_progress, own_answer, in_progress_among, has_completed}
use Rattle.dcsctp_core_resets.specs.declared.requests.Treatment.{Treatment}
use Rattle.dcsctp_core_resets.specs.declared.requests.Treatment.TheVariants.{Nothing, Deferred, Performed, Renewed}
use Rattle.dcsctp_core_resets.specs.declared.requests.LastRequest.{LastRequest}
use Rattle.dcsctp_core_resets.specs.declared.requests.AnsweredRequest.{AnsweredRequest}
use Rattle.dcsctp_core_resets.specs.declared.requests.HandledRequests.{HandledRequests}
use Rattle.dcsctp_core_resets.specs.Requests.{parameter_said, reset_parameters, is_outgoing, held_with, is_performed, is_treatment_deferred, treated_events, IsTreatment, AnswersAs, Responds, behind_these, AreResponses, HandlesParameter, HandlesParameters, held_out, own_events, own_kind, is_completed, own_answer_ended, with_result, with_response, left_out, SameOwn, held_now, both_answer_events, TreatsBoth, Brings, brings_nothing, brings_request, brings_answer}
use Rattle.std.specs.List.{list_any}
use Rattle.std.proofs.lemmas.List.Folds.{list_any-append}
use Rattle.dcsctp_core.specs.wire.declared.reconfiguration.ReconfigurationResponseResult.TheVariants.{SuccessNothingToDo, SuccessPerformed, Denied, ErrorWrongSSN, ErrorRequestAlreadyInProgress, ErrorBadSequenceNumber, InProgress}
use Rattle.dcsctp_core_resets.specs.declared.requests.OwnAnswer.{OwnAnswer}
use Rattle.dcsctp_core_resets.specs.declared.requests.OwnAnswer.TheVariants as own
use Rattle.dcsctp_core.specs.spec.endpoint.ResetOutcomes as outcomes

-- ---- effects

pub nothing_treats : IsTreatment Nothing [] []
nothing_treats = record { has = refl; waits = refl; told = λ theirs own. refl; drawn = refl }

-- what two lists of effects amount to, one after the other
abbrev pub resets_of : Bool → Bool → Bool
resets_of true second = true
resets_of false second = second

pub has_both : (front rest : List Effect) → has_reset (front ++ rest) ≡ resets_of (has_reset front) (has_reset rest)
has_both [] rest = refl
has_both (performs peer number ∷ front) rest = refl
has_both (renews peer number ∷ front) rest = refl
has_both (accepts number ∷ front) rest = has_both front rest
has_both (draws pair ∷ front) rest = has_both front rest
has_both (sends packet ∷ front) rest = has_both front rest
has_both (holds link ∷ front) rest = has_both front rest
has_both (connects link ∷ front) rest = has_both front rest
has_both (ends ∷ front) rest = has_both front rest
has_both (begins number ∷ front) rest = has_both front rest
has_both (gives_up number ∷ front) rest = has_both front rest
has_both (resumes link first last ∷ front) rest = has_both front rest
has_both (completes my number ∷ front) rest = has_both front rest
has_both (fails number ∷ front) rest = has_both front rest

-- the same of answers
pub waits_both : (front rest : List ResetParameter) → answers_in_progress (front ++ rest) ≡ resets_of (answers_in_progress front) (answers_in_progress rest)
waits_both [] rest = refl
waits_both (outgoing_reset_request number answered reset ∷ front) rest = waits_both front rest
waits_both (incoming_reset_request number streams ∷ front) rest = waits_both front rest
waits_both (other_reset_parameter parameter ∷ front) rest = waits_both front rest
waits_both (reconfiguration_response number SuccessNothingToDo ∷ front) rest = waits_both front rest
waits_both (reconfiguration_response number SuccessPerformed ∷ front) rest = waits_both front rest
waits_both (reconfiguration_response number Denied ∷ front) rest = waits_both front rest
waits_both (reconfiguration_response number ErrorWrongSSN ∷ front) rest = waits_both front rest
waits_both (reconfiguration_response number ErrorRequestAlreadyInProgress ∷ front) rest = waits_both front rest
waits_both (reconfiguration_response number ErrorBadSequenceNumber ∷ front) rest = waits_both front rest
waits_both (reconfiguration_response number InProgress ∷ front) rest = refl

told_both : (theirs own : List ℕ) (front rest : List Effect) → reset_events theirs own (front ++ rest) ≡ reset_events theirs own front ++ reset_events theirs own rest
told_both theirs own [] rest = refl
told_both theirs own (performs peer number ∷ front) rest = ap (λ (es : List (Event Emission)). reset_events theirs own (performs peer number ∷ []) ++ es) (told_both theirs own front rest)
told_both theirs own (completes my number ∷ front) rest = ap (λ (es : List (Event Emission)). reset_events theirs own (completes my number ∷ []) ++ es) (told_both theirs own front rest)
told_both theirs own (fails number ∷ front) rest = ap (λ (es : List (Event Emission)). reset_events theirs own (fails number ∷ []) ++ es) (told_both theirs own front rest)
told_both theirs own (renews peer number ∷ front) rest = told_both theirs own front rest
told_both theirs own (accepts number ∷ front) rest = told_both theirs own front rest
told_both theirs own (draws pair ∷ front) rest = told_both theirs own front rest
told_both theirs own (sends packet ∷ front) rest = told_both theirs own front rest
told_both theirs own (holds link ∷ front) rest = told_both theirs own front rest
told_both theirs own (connects link ∷ front) rest = told_both theirs own front rest
told_both theirs own (ends ∷ front) rest = told_both theirs own front rest
told_both theirs own (begins number ∷ front) rest = told_both theirs own front rest
told_both theirs own (gives_up number ∷ front) rest = told_both theirs own front rest
told_both theirs own (resumes link first last ∷ front) rest = told_both theirs own front rest

drawn_both : (front rest : List Effect) → drawn_pairs front ≡ [] → drawn_pairs rest ≡ [] → drawn_pairs (front ++ rest) ≡ []
drawn_both [] rest none more = more
drawn_both (draws pair ∷ front) rest none more = absurd (cc)
drawn_both (performs peer number ∷ front) rest none more = drawn_both front rest none more
drawn_both (renews peer number ∷ front) rest none more = drawn_both front rest none more
drawn_both (accepts number ∷ front) rest none more = drawn_both front rest none more
drawn_both (sends packet ∷ front) rest none more = drawn_both front rest none more
drawn_both (holds link ∷ front) rest none more = drawn_both front rest none more
drawn_both (connects link ∷ front) rest none more = drawn_both front rest none more
drawn_both (ends ∷ front) rest none more = drawn_both front rest none more
drawn_both (begins number ∷ front) rest none more = drawn_both front rest none more
drawn_both (gives_up number ∷ front) rest none more = drawn_both front rest none more
drawn_both (resumes link first last ∷ front) rest none more = drawn_both front rest none more
drawn_both (completes my number ∷ front) rest none more = drawn_both front rest none more
drawn_both (fails number ∷ front) rest none more = drawn_both front rest none more

-- nothing after them
resets_alone : (b : Bool) → resets_of b false ≡ b
resets_alone true = refl
resets_alone false = refl

-- ---- one request

-- that of the peer which is in progress
pub again_as : (base : Held) (last : LastRequest) (a : AnsweredRequest) (b : RequestOutcome) → AnswersAs (held_with base last) a b → AnswersAs base a b
again_as base last a b h = record { held = h.held; result = h.result; treats = h.treats }

-- one that is accepted
pub accepted_as : (base : Held) (last : LastRequest) (number : ℕ) (a : AnsweredRequest) (b : RequestOutcome) → AnswersAs (held_with base last) a b → AnswersAs base a (accepted_request number b)
accepted_as base last number a b h =
    record { held = h.held; result = h.result; treats = λ n. let t = h.treats n in record { has = t.has; waits = t.waits; told = t.told; drawn = t.drawn } }

-- ---- one parameter

-- no answer to our own request
same_own : (w : HandledRequests) → SameOwn w w
same_own w = record { outstanding = refl; own = refl; first = refl }

own_then : (a b c : HandledRequests) → SameOwn a b → SameOwn b c → SameOwn a c
own_then a b c one two = record { outstanding = two.outstanding ∙ one.outstanding; own = two.own ∙ one.own; first = two.first ∙ one.first }

-- whether an outgoing request was handled so far
or_not : (b c : Bool) → c ≡ false → b ≡ (b || c)
or_not true c is = refl
or_not false c is = sym is

or_one : (b : Bool) → (b || true) ≡ true
or_one true = refl
or_one false = refl

-- one that brings nothing
rests_one : (state : RequestState) (parameter : ResetParameter) (w : HandledRequests)
    → in_progress_among w.outstanding (parameter ∷ []) ≡ false → is_outgoing parameter ≡ false
    → ((my : Pair) (base : Held) (rest : List ResetParameter)
    → parameters_outcome my state w.has_worked (held_now base w) (parameter ∷ rest) ≡ parameters_outcome my state w.has_worked (held_now base w) rest)
    → HandlesParameter state parameter w w
rests_one state parameter w other requests whole =
    record {
      effects = λ my base. [];
      responses = [];
      are = refl;
      added = sym (append-nil w.responses.items);
      refused = refl;
      has = or_not w.has_worked (is_outgoing parameter) requests;
      brings = brings_nothing refl refl (same_own w) (λ my base. nothing_treats) other;
      whole = whole;
    }

other_answers : (outstanding : Option ℕ) (parameter : ParameterContent) → in_progress_among outstanding (other_reset_parameter parameter ∷ []) ≡ false
other_answers None parameter = refl
other_answers (Some number) parameter = refl

outgoing_answers : (outstanding : Option ℕ) (number answered : ℕ) (reset : RequestedReset) → in_progress_among outstanding (outgoing_reset_request number answered reset ∷ []) ≡ false
outgoing_answers None number answered reset = refl
outgoing_answers (Some own) number answered reset = refl

incoming_answers : (outstanding : Option ℕ) (number : ℕ) (streams : List ℕ) → in_progress_among outstanding (incoming_reset_request number streams ∷ []) ≡ false
incoming_answers None number streams = refl
incoming_answers (Some own) number streams = refl

pub other_one : (state : RequestState) (parameter : ParameterContent) (w : HandledRequests) → HandlesParameter state (other_reset_parameter parameter) w w
other_one state parameter w = rests_one state (other_reset_parameter parameter) w (other_answers w.outstanding parameter) refl (λ my base rest. refl)

-- A response to another request says nothing.
or_false : (b : Bool) → b ≡ false → (b || false) ≡ false
or_false false is = refl
or_false true is = absurd (cc)

another_by : (own number : ℕ) (result : ReconfigurationResponseResult) → (number == own) ≡ false → in_progress_among (Some own) (reconfiguration_response number result ∷ []) ≡ false
another_by own number SuccessNothingToDo is = refl
another_by own number SuccessPerformed is = refl
another_by own number Denied is = refl
another_by own number ErrorWrongSSN is = refl
another_by own number ErrorRequestAlreadyInProgress is = refl
another_by own number ErrorBadSequenceNumber is = refl
another_by own number InProgress is = or_false (number == own) is

another_answers : (outstanding : Option ℕ) (number : ℕ) (result : ReconfigurationResponseResult) → is_outstanding number outstanding ≡ false
    → in_progress_among outstanding (reconfiguration_response number result ∷ []) ≡ false
another_answers None number result is = refl
another_answers (Some own) number result is = another_by own number result is

-- one to our own request
own_is : (outstanding : Option ℕ) (number : ℕ) → is_outstanding number outstanding ≡ true → outstanding ≡ Some number
own_is None number is = absurd (cc)
own_is (Some own) number is = ap (λ (n : ℕ). Some n) (let same : own ≡ number = grind (arith, nat_tests) in same)

response_whole : (result : ReconfigurationResponseResult) (my : Pair) (state : RequestState) (number : ℕ) (w : HandledRequests) (base : Held) (rest : List ResetParameter)
    → after_answer (result_of_answer my (held_now base w) number result) (parameters_outcome my state w.has_worked (result_of_answer my (held_now base w) number result).held rest)
    ≡ behind_these (result_of_answer my (held_now base w) number result).effects [] (parameters_outcome my state (with_result result w).has_worked (held_now base (with_result result w)) rest)
response_whole SuccessNothingToDo my state number w base rest = refl
response_whole SuccessPerformed my state number w base rest = refl
response_whole Denied my state number w base rest = refl
response_whole ErrorWrongSSN my state number w base rest = refl
response_whole ErrorRequestAlreadyInProgress my state number w base rest = refl
response_whole ErrorBadSequenceNumber my state number w base rest = refl
response_whole InProgress my state number w base rest = refl

result_keeps : (result : ReconfigurationResponseResult) (w : HandledRequests) → ((with_result result w).responses ≡ w.responses) × ((with_result result w).is_refused ≡ w.is_refused)
result_keeps SuccessNothingToDo w = (refl, refl)
result_keeps SuccessPerformed w = (refl, refl)
result_keeps Denied w = (refl, refl)
result_keeps ErrorWrongSSN w = (refl, refl)
result_keeps ErrorRequestAlreadyInProgress w = (refl, refl)
result_keeps ErrorBadSequenceNumber w = (refl, refl)
result_keeps InProgress w = (refl, refl)

result_has : (result : ReconfigurationResponseResult) (w : HandledRequests) → (with_result result w).has_worked ≡ w.has_worked
result_has SuccessNothingToDo w = refl
result_has SuccessPerformed w = refl
result_has Denied w = refl
result_has ErrorWrongSSN w = refl
result_has ErrorRequestAlreadyInProgress w = refl
result_has ErrorBadSequenceNumber w = refl
result_has InProgress w = refl

response_by : (b : Bool) (state : RequestState) (number : ℕ) (result : ReconfigurationResponseResult) (w : HandledRequests) → is_outstanding number w.outstanding ≡ b
    → HandlesParameter state (reconfiguration_response number result) w (with_response b result w)
response_by false state number result w is =
    rests_one state (reconfiguration_response number result) w (another_answers w.outstanding number result is) refl
    (λ my base rest. ap (λ (b : Bool). let first : AnswerResult = result_if_outstanding my (held_now base w) number result b in after_answer first (parameters_outcome my state w.has_worked first.held rest)) is)
response_by true state number result w is =
    record {
      effects = λ my base. (result_of_answer my (held_now base w) number result).effects;
      responses = [];
      are = refl;
      added = ap (λ rs. rs.items) (result_keeps result w).0 ∙ sym (append-nil w.responses.items);
      refused = (result_keeps result w).1;
      has = result_has result w ∙ or_not w.has_worked false refl;
      brings = brings_answer number result refl (own_is w.outstanding number is) refl (λ my base. refl) refl;
      whole = λ my base rest.
          ap (λ (b : Bool). let first : AnswerResult = result_if_outstanding my (held_now base w) number result b in after_answer first (parameters_outcome my state w.has_worked first.held rest)) is
          ∙ response_whole result my state number w base rest;
    }

pub response_one : (state : RequestState) (number : ℕ) (result : ReconfigurationResponseResult) (w new : HandledRequests) → new ≡ with_response (is_outstanding number w.outstanding) result w
    → HandlesParameter state (reconfiguration_response number result) w new
response_one state number result w new is =
    subst (HandlesParameter state (reconfiguration_response number result) w) (sym is) (response_by (is_outstanding number w.outstanding) state number result w refl)

one_response : (number : ℕ) (answer : ReconfigurationResponseResult) (old new : HandledRequests) (h : Responds number answer old new) → AreResponses (h.response ∷ [])
one_response number answer old new h =
    ap (λ (c : ParameterContent). reset_parameter_content (reset_parameter_of c) ∷ []) h.says ∙ ap (λ (c : ParameterContent). c ∷ []) (sym h.says)

-- it says this
response_says : (number : ℕ) (answer : ReconfigurationResponseResult) (old new : HandledRequests) (h : Responds number answer old new)
    → reset_parameters (h.response ∷ []) ≡ reconfiguration_response number answer ∷ []
response_says number answer old new h = ap (λ (c : ParameterContent). reset_parameter_of c ∷ []) h.says

-- a request that was answered, and what comes after it
answered_then : (my : Pair) (state : RequestState) (has : Bool) (base : Held) (number : ℕ) (a : AnsweredRequest) (first : RequestOutcome) (responses : List ResetParameter) (rest : List ResetParameter)
    → AnswersAs base a first → responses ≡ reconfiguration_response number a.result ∷ []
    → after_request number first (parameters_outcome my state has first.held rest) ≡ behind_these first.effects responses (parameters_outcome my state has (held_with base a.last) rest)
answered_then my state has base number a first responses rest h says =
    ap (λ (held : Held). after_request number first (parameters_outcome my state has held rest)) h.held
    ∙ ap (λ (result : ReconfigurationResponseResult). behind_these first.effects (reconfiguration_response number result ∷ []) (parameters_outcome my state has (held_with base a.last) rest)) h.result
    ∙ ap (λ (rs : List ResetParameter). behind_these first.effects rs (parameters_outcome my state has (held_with base a.last) rest)) (sym says)

pub outgoing_one : (state : RequestState) (number answered : ℕ) (reset : RequestedReset) (old between new : HandledRequests) (a : AnsweredRequest) → old.has_worked ≡ false
    → ((base : Held) → AnswersAs base a (outgoing_by_place (held_with base old.last) number state (request_place old.last.number number)))
    → Responds number a.result old between → new.responses ≡ between.responses → new.last ≡ a.last → new.treatment ≡ a.treatment → new.has_worked ≡ true → SameOwn between new → new.is_refused ≡ between.is_refused
    → HandlesParameter state (outgoing_reset_request number answered reset) old new
outgoing_one state number answered reset old between new a fresh answers h responses last treatment has own refused =
    let after : Held → Held = held_out old.outstanding in
    let first : Held → RequestOutcome = λ base. outgoing_by_place (held_with (after base) old.last) number state (request_place old.last.number number) in
    let same : SameOwn old new = own_then old between new h.own own in
    record {
      effects = λ my base. (first base).effects;
      responses = h.response ∷ [];
      are = one_response number a.result old between h;
      added = ap (λ rs. rs.items) responses ∙ h.added;
      refused = refused ∙ h.is_refused;
      has = has ∙ sym (or_one old.has_worked);
      brings = brings_request fresh has same
          (λ my base. subst (λ (t : Treatment). IsTreatment t (first base).effects (reset_parameters (h.response ∷ []))) (sym treatment)
          (subst (IsTreatment a.treatment (first base).effects) (sym (response_says number a.result old between h)) ((answers (after base)).treats number)))
          (outgoing_answers old.outstanding number answered reset);
      whole = λ my base rest.
          ap (λ (b : Bool). parameters_outcome my state b (held_with (after base) old.last) (outgoing_reset_request number answered reset ∷ rest)) fresh
          ∙ answered_then my state true (after base) number a (first base) (reset_parameters (h.response ∷ [])) rest (answers (after base)) (response_says number a.result old between h)
          ∙ ap (λ (b : Bool). behind_these (first base).effects (reset_parameters (h.response ∷ [])) (parameters_outcome my state b (held_with (after base) a.last) rest)) (sym has)
          ∙ ap (λ (l : LastRequest). behind_these (first base).effects (reset_parameters (h.response ∷ [])) (parameters_outcome my state new.has_worked (held_with (after base) l) rest)) (sym last)
          ∙ ap (λ (o : Option ℕ). behind_these (first base).effects (reset_parameters (h.response ∷ [])) (parameters_outcome my state new.has_worked (held_out o (held_with base new.last)) rest)) (sym same.outstanding);
    }

-- No stream is reset for an incoming request, and none is in progress.
incoming_treats : (held : Held) (number : ℕ) (place : RequestPlace)
    → IsTreatment Nothing (incoming_by_place held number place).effects (reconfiguration_response number (incoming_by_place held number place).result ∷ [])
incoming_treats held number again = record { has = refl; waits = refl; told = λ theirs own. refl; drawn = refl }
incoming_treats held number next = record { has = refl; waits = refl; told = λ theirs own. refl; drawn = refl }
incoming_treats held number astray = record { has = refl; waits = refl; told = λ theirs own. refl; drawn = refl }

pub incoming_one : (state : RequestState) (number : ℕ) (streams : List ℕ) (old between new : HandledRequests) (a : AnsweredRequest)
    → ((base : Held) → AnswersAs base a (incoming_by_place (held_with base old.last) number (request_place old.last.number number)))
    → Responds number a.result old between → new.responses ≡ between.responses → new.last ≡ a.last → new.treatment ≡ between.treatment → new.has_worked ≡ between.has_worked → SameOwn between new
    → new.is_refused ≡ between.is_refused → HandlesParameter state (incoming_reset_request number streams) old new
incoming_one state number streams old between new a answers h responses last treatment has own refused =
    let after : Held → Held = held_out old.outstanding in
    let first : Held → RequestOutcome = λ base. incoming_by_place (held_with (after base) old.last) number (request_place old.last.number number) in
    let same : SameOwn old new = own_then old between new h.own own in
    record {
      effects = λ my base. (first base).effects;
      responses = h.response ∷ [];
      are = one_response number a.result old between h;
      added = ap (λ rs. rs.items) responses ∙ h.added;
      refused = refused ∙ h.is_refused;
      has = has ∙ h.has_worked ∙ or_not old.has_worked false refl;
      brings = brings_nothing (treatment ∙ h.treatment) (has ∙ h.has_worked) same
          (λ my base. subst (IsTreatment Nothing (first base).effects)
          (ap (λ (result : ReconfigurationResponseResult). reconfiguration_response number result ∷ []) (answers (after base)).result ∙ sym (response_says number a.result old between h))
          (incoming_treats (held_with (after base) old.last) number (request_place old.last.number number)))
          (incoming_answers old.outstanding number streams);
      whole = λ my base rest.
          answered_then my state old.has_worked (after base) number a (first base) (reset_parameters (h.response ∷ [])) rest (answers (after base)) (response_says number a.result old between h)
          ∙ ap (λ (b : Bool). behind_these (first base).effects (reset_parameters (h.response ∷ [])) (parameters_outcome my state b (held_with (after base) a.last) rest)) (sym (has ∙ h.has_worked))
          ∙ ap (λ (l : LastRequest). behind_these (first base).effects (reset_parameters (h.response ∷ [])) (parameters_outcome my state new.has_worked (held_with (after base) l) rest)) (sym last)
          ∙ ap (λ (o : Option ℕ). behind_these (first base).effects (reset_parameters (h.response ∷ [])) (parameters_outcome my state new.has_worked (held_out o (held_with base new.last)) rest)) (sym same.outstanding);
    }

-- The first outgoing request is handled.
second_by : (has : Bool) (parameter : ResetParameter) → is_outgoing parameter ≡ true → (has && is_outgoing parameter) ≡ false → has ≡ false
second_by true parameter outgoing first = absurd (cc)
second_by false parameter outgoing first = refl

pub not_second : (has : Bool) (parameter : Parameter) (request : OutgoingSsnResetRequestParameter) → parameter ≡ parameters.OutgoingSsnResetRequest request → (has && is_outgoing (parameter_said parameter)) ≡ false → has ≡ false
not_second has parameter request is first = second_by has (parameter_said parameter) (ap (λ (p : Parameter). is_outgoing (parameter_said p)) is) first

-- ---- the parameters so far

-- has our own request ended?
abbrev pub has_ended : OwnAnswer → Bool
has_ended own.Unanswered = false
has_ended own.InProgress = false
has_ended own.Performed = true
has_ended own.Failed = true

-- How far our own request is: as before, perhaps answered as in progress; or at its end, which is reported to the user first, or
-- after what became of the peer's request.
pub data OwnStands (start : Option ℕ) (front : List ResetParameter) (w : HandledRequests) : Type 0 where
  awaited : w.outstanding ≡ start → own_kind w.own ≡ own_answer start start (in_progress_among start front) false → ((streams : List ℕ) → own_events w.own streams ≡ []) → OwnStands start front w
  ended : (number : ℕ) → start ≡ Some number → w.outstanding ≡ None → has_ended w.own ≡ true → (w.is_own_first ≡ true) ⊎ (w.has_worked ≡ true) → OwnStands start front w

-- What was made of these, whatever comes after them.
pub record Progress (state : RequestState) (last : LastRequest) (start : Option ℕ) (front : List ResetParameter) (w : HandledRequests) : Type 0 where
  pub effects : Pair → Held → List Effect
  pub are : AreResponses w.responses.items
  pub treats : (my : Pair) (base : Held) → TreatsBoth w (effects my base) (reset_parameters w.responses.items)
  pub fresh : w.has_worked ≡ false → w.treatment ≡ Nothing
  pub own : OwnStands start front w
  pub part : (rest : List ResetParameter) → handled_part false (front ++ rest) ≡ front ++ handled_part w.has_worked rest
  pub whole : (my : Pair) (base : Held) (rest : List ResetParameter)
      → parameters_outcome my state false (held_out start (held_with base last)) (front ++ rest)
      ≡ behind_these (effects my base) (reset_parameters w.responses.items) (parameters_outcome my state w.has_worked (held_now base w) rest)

nothing_asked : (start : Option ℕ) → own_answer start start (in_progress_among start []) false ≡ outcomes.unanswered
nothing_asked None = refl
nothing_asked (Some number) = refl

-- before any parameter
abbrev pub begun : LastRequest → Option ℕ → Bool → HandledRequests → HandledRequests
begun last start refused w =
    record w { last = last; treatment = Nothing; has_worked = false; outstanding = start; own = own.Unanswered; is_own_first = false; is_refused = refused }

pub none_so_far : (state : RequestState) (last : LastRequest) (start : Option ℕ) (refused : Bool) (w : HandledRequests) → w.responses.items ≡ [] → w ≡ begun last start refused w → Progress state last start [] w
none_so_far state last start refused w none is =
    subst (Progress state last start []) (sym is)
    (record {
      effects = λ my base. [];
      are = ap (λ (ps : List Parameter). map reset_parameter_content (reset_parameters ps)) none ∙ ap (λ (ps : List Parameter). map parameter_content ps) (sym none);
      treats = λ my base. record { has = refl; waits = ap (λ (ps : List Parameter). answers_in_progress (reset_parameters ps)) none; told = λ theirs streams. refl; drawn = refl };
      fresh = λ h. refl;
      own = awaited refl (sym (nothing_asked start)) (λ streams. refl);
      part = λ rest. refl;
      whole = λ my base rest.
          ap (λ (ps : List Parameter). behind_these [] (reset_parameters ps) (parameters_outcome my state false (held_out start (held_with base last)) rest)) (sym none);
    })

said_append : (xs ys : List Parameter) → reset_parameters (xs ++ ys) ≡ reset_parameters xs ++ reset_parameters ys
said_append xs ys = ap (λ (cs : List ParameterContent). map reset_parameter_of cs) (map-append parameter_content xs ys) ∙ map-append reset_parameter_of (map parameter_content xs) (map parameter_content ys)

both_responses : (xs ys : List Parameter) → AreResponses xs → AreResponses ys → AreResponses (xs ++ ys)
both_responses xs ys first second =
    ap (λ (ps : List ResetParameter). map reset_parameter_content ps) (said_append xs ys)
    ∙ map-append reset_parameter_content (reset_parameters xs) (reset_parameters ys)
    ∙ ap (λ (cs : List ParameterContent). cs ++ map reset_parameter_content (reset_parameters ys)) first
    ∙ ap (λ (cs : List ParameterContent). map parameter_content xs ++ cs) second
    ∙ sym (map-append parameter_content xs ys)

-- what both bring
behind_both : (es fs : List Effect) (xs ys : List ResetParameter) (rest : HandledParameters) → behind_these es xs (behind_these fs ys rest) ≡ behind_these (es ++ fs) (xs ++ ys) rest
behind_both es fs xs ys rest =
    ap (λ (all : List Effect). record rest { effects = all; answers = xs ++ (ys ++ rest.answers) }) (sym (append_assoc es fs rest.effects))
    ∙ ap (λ (all : List ResetParameter). record rest { effects = (es ++ fs) ++ rest.effects; answers = all }) (sym (append_assoc xs ys rest.answers))

-- the user's events so far, and then no more
told_same : (old new : HandledRequests) (theirs streams : List ℕ) → SameOwn old new → new.treatment ≡ old.treatment
    → both_answer_events new.is_own_first new.own new.treatment theirs streams ≡ both_answer_events old.is_own_first old.own old.treatment theirs streams
told_same old new theirs streams same is =
    ap (λ (b : Bool). both_answer_events b new.own new.treatment theirs streams) same.first
    ∙ ap (λ (a : OwnAnswer). both_answer_events old.is_own_first a new.treatment theirs streams) same.own
    ∙ ap (λ (t : Treatment). both_answer_events old.is_own_first old.own t theirs streams) is

then_nothing : (old new : HandledRequests) (es fs : List Effect) (xs ys : List ResetParameter) → TreatsBoth old es xs → IsTreatment Nothing fs ys → SameOwn old new → new.treatment ≡ old.treatment
    → TreatsBoth new (es ++ fs) (xs ++ ys)
then_nothing old new es fs xs ys first second same is =
    record {
      has = has_both es fs ∙ ap (λ (b : Bool). resets_of (has_reset es) b) second.has ∙ resets_alone (has_reset es) ∙ first.has ∙ sym (ap is_performed is);
      waits = waits_both xs ys ∙ ap (λ (b : Bool). resets_of (answers_in_progress xs) b) second.waits ∙ resets_alone (answers_in_progress xs) ∙ first.waits ∙ sym (ap is_treatment_deferred is);
      told = λ theirs streams. told_both theirs streams es fs ∙ ap (λ (xs : List (Event Emission)). reset_events theirs streams es ++ xs) (second.told theirs streams)
          ∙ append-nil (reset_events theirs streams es) ∙ first.told theirs streams ∙ sym (told_same old new theirs streams same is);
      drawn = drawn_both es fs first.drawn second.drawn;
    }

-- .. then of the peer's request
joins : (b : Bool) (a : OwnAnswer) (t : Treatment) (theirs streams : List ℕ) → (own_events a streams ≡ []) ⊎ (b ≡ true) → both_answer_events b a Nothing theirs streams ++ treated_events t theirs ≡ both_answer_events b a t theirs streams
joins true own.Unanswered t theirs streams early = refl
joins false own.Unanswered t theirs streams early = sym (append-nil (treated_events t theirs))
joins true own.InProgress t theirs streams early = refl
joins false own.InProgress t theirs streams early = sym (append-nil (treated_events t theirs))
joins true own.Performed t theirs streams early = refl
joins false own.Performed t theirs streams (inl silent) = absurd (cc)
joins false own.Performed t theirs streams (inr first) = absurd (cc)
joins true own.Failed t theirs streams early = refl
joins false own.Failed t theirs streams (inl silent) = absurd (cc)
joins false own.Failed t theirs streams (inr first) = absurd (cc)

-- There is no event of our own request, or it comes first.
early : (start : Option ℕ) (front : List ResetParameter) (w : HandledRequests) (streams : List ℕ) → OwnStands start front w → w.has_worked ≡ false → (own_events w.own streams ≡ []) ⊎ (w.is_own_first ≡ true)
early start front w streams (awaited same kind silent) fresh = inl (silent streams)
early start front w streams (ended number is none kind (inl first)) fresh = inr first
early start front w streams (ended number is none kind (inr worked)) fresh = absurd (cc)

then_request : (old new : HandledRequests) (es fs : List Effect) (xs ys : List ResetParameter) → TreatsBoth old es xs → old.treatment ≡ Nothing
    → ((streams : List ℕ) → (own_events old.own streams ≡ []) ⊎ (old.is_own_first ≡ true)) → IsTreatment new.treatment fs ys → SameOwn old new → TreatsBoth new (es ++ fs) (xs ++ ys)
then_request old new es fs xs ys first nothing before second same =
    record {
      has = has_both es fs ∙ ap (λ (b : Bool). resets_of b (has_reset fs)) (first.has ∙ ap is_performed nothing) ∙ second.has;
      waits = waits_both xs ys ∙ ap (λ (b : Bool). resets_of b (answers_in_progress ys)) (first.waits ∙ ap is_treatment_deferred nothing) ∙ second.waits;
      told = λ theirs streams.
          told_both theirs streams es fs
          ∙ ap (λ (xs : List (Event Emission)). xs ++ reset_events theirs streams fs) (first.told theirs streams ∙ ap (λ (t : Treatment). both_answer_events old.is_own_first old.own t theirs streams) nothing)
          ∙ ap (λ (xs : List (Event Emission)). both_answer_events old.is_own_first old.own Nothing theirs streams ++ xs) (second.told theirs streams)
          ∙ joins old.is_own_first old.own new.treatment theirs streams (before streams)
          ∙ ap (λ (b : Bool). both_answer_events b old.own new.treatment theirs streams) (sym same.first)
          ∙ ap (λ (a : OwnAnswer). both_answer_events new.is_own_first a new.treatment theirs streams) (sym same.own);
      drawn = drawn_both es fs first.drawn second.drawn;
    }

-- .. then of our own request
quietly : (b : Bool) (a : OwnAnswer) (t : Treatment) (theirs streams : List ℕ) → own_events a streams ≡ [] → both_answer_events b a t theirs streams ≡ treated_events t theirs
quietly true a t theirs streams silent = ap (λ (xs : List (Event Emission)). xs ++ treated_events t theirs) silent
quietly false a t theirs streams silent = ap (λ (xs : List (Event Emission)). treated_events t theirs ++ xs) silent ∙ append-nil (treated_events t theirs)

closes : (b worked : Bool) (a answer : OwnAnswer) (t : Treatment) (theirs streams : List ℕ) → own_events a streams ≡ [] → (worked ≡ false → t ≡ Nothing)
    → both_answer_events b a t theirs streams ++ own_events answer streams ≡ both_answer_events (not worked) answer t theirs streams
closes b true a answer t theirs streams silent fresh = ap (λ (xs : List (Event Emission)). xs ++ own_events answer streams) (quietly b a t theirs streams silent)
closes b false a answer t theirs streams silent fresh =
    ap (λ (xs : List (Event Emission)). xs ++ own_events answer streams) (quietly b a t theirs streams silent)
    ∙ ap (λ (u : Treatment). treated_events u theirs ++ own_events answer streams) (fresh refl)
    ∙ sym (append-nil (own_events answer streams))
    ∙ ap (λ (u : Treatment). own_events answer streams ++ treated_events u theirs) (sym (fresh refl))

-- what these effects amount to for our own request alone
record Tells (answer : OwnAnswer) (effects : List Effect) : Type 0 where
  has : has_reset effects ≡ false
  told : (theirs streams : List ℕ) → reset_events theirs streams effects ≡ own_events answer streams
  drawn : drawn_pairs effects ≡ []

then_ended : (old : HandledRequests) (answer : OwnAnswer) (es fs : List Effect) (xs : List ResetParameter) → TreatsBoth old es xs → ((streams : List ℕ) → own_events old.own streams ≡ [])
    → (old.has_worked ≡ false → old.treatment ≡ Nothing) → Tells answer fs → TreatsBoth (own_answer_ended answer old) (es ++ fs) xs
then_ended old answer es fs xs first silent fresh tells =
    record {
      has = has_both es fs ∙ ap (λ (b : Bool). resets_of (has_reset es) b) tells.has ∙ resets_alone (has_reset es) ∙ first.has;
      waits = first.waits;
      told = λ theirs streams.
          told_both theirs streams es fs
          ∙ ap (λ (xs : List (Event Emission)). xs ++ reset_events theirs streams fs) (first.told theirs streams)
          ∙ ap (λ (xs : List (Event Emission)). both_answer_events old.is_own_first old.own old.treatment theirs streams ++ xs) (tells.told theirs streams)
          ∙ closes old.is_own_first old.has_worked old.own answer old.treatment theirs streams (silent streams) fresh;
      drawn = drawn_both es fs first.drawn tells.drawn;
    }

then_awaited : (old : HandledRequests) (es : List Effect) (xs : List ResetParameter) → TreatsBoth old es xs → ((streams : List ℕ) → own_events old.own streams ≡ [])
    → TreatsBoth (record old { own = own.InProgress }) (es ++ []) xs
then_awaited old es xs first silent =
    record {
      has = ap has_reset (append-nil es) ∙ first.has;
      waits = first.waits;
      told = λ theirs streams. ap (reset_events theirs streams) (append-nil es) ∙ first.told theirs streams
          ∙ quietly old.is_own_first old.own old.treatment theirs streams (silent streams) ∙ sym (quietly old.is_own_first own.InProgress old.treatment theirs streams refl);
      drawn = ap drawn_pairs (append-nil es) ∙ first.drawn;
    }

then_result : (result : ReconfigurationResponseResult) (my : Pair) (held : Held) (number : ℕ) (old : HandledRequests) (es : List Effect) (xs : List ResetParameter) → TreatsBoth old es xs
    → ((streams : List ℕ) → own_events old.own streams ≡ []) → (old.has_worked ≡ false → old.treatment ≡ Nothing) → TreatsBoth (with_result result old) (es ++ (result_of_answer my held number result).effects) xs
then_result SuccessNothingToDo my held number old es xs first silent fresh = then_ended old own.Performed es _ xs first silent fresh (record { has = refl; told = λ theirs streams. refl; drawn = refl })
then_result SuccessPerformed my held number old es xs first silent fresh = then_ended old own.Performed es _ xs first silent fresh (record { has = refl; told = λ theirs streams. refl; drawn = refl })
then_result Denied my held number old es xs first silent fresh = then_ended old own.Failed es _ xs first silent fresh (record { has = refl; told = λ theirs streams. refl; drawn = refl })
then_result ErrorWrongSSN my held number old es xs first silent fresh = then_ended old own.Failed es _ xs first silent fresh (record { has = refl; told = λ theirs streams. refl; drawn = refl })
then_result ErrorRequestAlreadyInProgress my held number old es xs first silent fresh = then_ended old own.Failed es _ xs first silent fresh (record { has = refl; told = λ theirs streams. refl; drawn = refl })
then_result ErrorBadSequenceNumber my held number old es xs first silent fresh = then_ended old own.Failed es _ xs first silent fresh (record { has = refl; told = λ theirs streams. refl; drawn = refl })
then_result InProgress my held number old es xs first silent fresh = then_awaited old es xs first silent

-- ---- one more parameter

-- While our own request is outstanding, there is no event of it.
silent_of : (start : Option ℕ) (front : List ResetParameter) (w : HandledRequests) (number : ℕ) → OwnStands start front w → w.outstanding ≡ Some number → (streams : List ℕ) → own_events w.own streams ≡ []
silent_of start front w number (awaited same kind silent) is streams = silent streams
silent_of start front w number (ended other was none kind first) is streams = absurd (cc)

treats_more : (start : Option ℕ) (front : List ResetParameter) (parameter : ResetParameter) (old new : HandledRequests) (effects : Pair → Held → List Effect) (my : Pair) (base : Held) (es : List Effect)
    (xs ys : List ResetParameter) → TreatsBoth old es xs → (old.has_worked ≡ false → old.treatment ≡ Nothing) → OwnStands start front old → Brings parameter old new effects ys
    → TreatsBoth new (es ++ effects my base) (xs ++ ys)
treats_more start front parameter old new effects my base es xs ys first fresh own (brings_nothing treatment has same treats other) =
    then_nothing old new es (effects my base) xs ys first (treats my base) same treatment
treats_more start front parameter old new effects my base es xs ys first fresh own (brings_request not_yet has same treats other) =
    then_request old new es (effects my base) xs ys first (fresh not_yet) (λ streams. early start front old streams own not_yet) (treats my base) same
treats_more start front parameter old new effects my base es xs ys first fresh own (brings_answer number result is awaits now brings none) =
    subst (λ (w : HandledRequests). TreatsBoth w (es ++ effects my base) (xs ++ ys)) (sym now)
    (subst (λ (fs : List Effect). TreatsBoth (with_result result old) (es ++ fs) (xs ++ ys)) (sym (brings my base))
    (subst (TreatsBoth (with_result result old) (es ++ (result_of_answer my (held_now base old) number result).effects)) (sym (append-nil xs) ∙ ap (λ (more : List ResetParameter). xs ++ more) (sym none))
    (then_result result my (held_now base old) number old es xs first (silent_of start front old number own awaits) fresh)))

result_worked : (result : ReconfigurationResponseResult) (w : HandledRequests) → ((with_result result w).has_worked ≡ w.has_worked) × ((with_result result w).treatment ≡ w.treatment)
result_worked SuccessNothingToDo w = (refl, refl)
result_worked SuccessPerformed w = (refl, refl)
result_worked Denied w = (refl, refl)
result_worked ErrorWrongSSN w = (refl, refl)
result_worked ErrorRequestAlreadyInProgress w = (refl, refl)
result_worked ErrorBadSequenceNumber w = (refl, refl)
result_worked InProgress w = (refl, refl)

fresh_more : (parameter : ResetParameter) (old new : HandledRequests) (effects : Pair → Held → List Effect) (answers : List ResetParameter) → (old.has_worked ≡ false → old.treatment ≡ Nothing)
    → Brings parameter old new effects answers → new.has_worked ≡ false → new.treatment ≡ Nothing
fresh_more parameter old new effects answers fresh (brings_nothing treatment has same treats other) is = treatment ∙ fresh (sym has ∙ is)
fresh_more parameter old new effects answers fresh (brings_request not_yet has same treats other) is = absurd (cc)
fresh_more parameter old new effects answers fresh (brings_answer number result was awaits now brings none) is =
    ap (λ (w : HandledRequests). w.treatment) now ∙ (result_worked result old).1 ∙ fresh (sym (result_worked result old).0 ∙ sym (ap (λ (w : HandledRequests). w.has_worked) now) ∙ is)

-- whether it was answered as in progress, with one more
among_more : (start : Option ℕ) (front : List ResetParameter) (parameter : ResetParameter) → in_progress_among start (parameter ∷ []) ≡ false → in_progress_among start (front ++ parameter ∷ []) ≡ in_progress_among start front
among_more None front parameter other = refl
among_more (Some number) front parameter other =
    list_any-append (is_in_progress number) front (parameter ∷ []) ∙ ap (λ (b : Bool). list_any (is_in_progress number) front || b) other ∙ or_right (list_any (is_in_progress number) front)
  where
    or_right : (b : Bool) → (b || false) ≡ b
    or_right true = refl
    or_right false = refl

stays_more : (start : Option ℕ) (front : List ResetParameter) (parameter : ResetParameter) (old new : HandledRequests) → OwnStands start front old → SameOwn old new → (old.has_worked ≡ true → new.has_worked ≡ true)
    → in_progress_among old.outstanding (parameter ∷ []) ≡ false → OwnStands start (front ++ parameter ∷ []) new
stays_more start front parameter old new (awaited is kind silent) same worked other =
    awaited (same.outstanding ∙ is)
    (ap own_kind same.own ∙ kind ∙ ap (λ (b : Bool). own_answer start start b false) (sym (among_more start front parameter (subst (λ (o : Option ℕ). in_progress_among o (parameter ∷ []) ≡ false) is other))))
    (λ streams. ap (λ (a : OwnAnswer). own_events a streams) same.own ∙ silent streams)
stays_more start front parameter old new (ended number is none kind (inl first)) same worked other = ended number is (same.outstanding ∙ none) (ap has_ended same.own ∙ kind) (inl (same.first ∙ first))
stays_more start front parameter old new (ended number is none kind (inr has)) same worked other = ended number is (same.outstanding ∙ none) (ap has_ended same.own ∙ kind) (inr (worked has))

first_or_worked : (b : Bool) → (not b ≡ true) ⊎ (b ≡ true)
first_or_worked true = inr refl
first_or_worked false = inl refl

answered_now : (number : ℕ) (front : List ResetParameter) → in_progress_among (Some number) (front ++ reconfiguration_response number InProgress ∷ []) ≡ true
answered_now number front =
    list_any-append (is_in_progress number) front (reconfiguration_response number InProgress ∷ []) ∙ ap (λ (b : Bool). list_any (is_in_progress number) front || (b || false)) (same_number number) ∙ or_true (list_any (is_in_progress number) front)
  where
    same_number : (n : ℕ) → (n == n) ≡ true
    same_number n = grind (arith, nat_tests)

    or_true : (b : Bool) → (b || true) ≡ true
    or_true true = refl
    or_true false = refl

by_result : (result : ReconfigurationResponseResult) (number : ℕ) (front : List ResetParameter) (old : HandledRequests) → old.outstanding ≡ Some number
    → OwnStands (Some number) (front ++ reconfiguration_response number result ∷ []) (with_result result old)
by_result SuccessNothingToDo number front old is = ended number refl refl refl (first_or_worked old.has_worked)
by_result SuccessPerformed number front old is = ended number refl refl refl (first_or_worked old.has_worked)
by_result Denied number front old is = ended number refl refl refl (first_or_worked old.has_worked)
by_result ErrorWrongSSN number front old is = ended number refl refl refl (first_or_worked old.has_worked)
by_result ErrorRequestAlreadyInProgress number front old is = ended number refl refl refl (first_or_worked old.has_worked)
by_result ErrorBadSequenceNumber number front old is = ended number refl refl refl (first_or_worked old.has_worked)
by_result InProgress number front old is = awaited is (ap (λ (b : Bool). own_answer (Some number) (Some number) b false) (sym (answered_now number front))) (λ streams. refl)

-- what our own request was before
start_of : (start : Option ℕ) (front : List ResetParameter) (w : HandledRequests) (number : ℕ) → OwnStands start front w → w.outstanding ≡ Some number → start ≡ Some number
start_of start front w number (awaited same kind silent) is = sym same ∙ is
start_of start front w number (ended other was none kind first) is = absurd (cc)

own_more : (start : Option ℕ) (front : List ResetParameter) (parameter : ResetParameter) (old new : HandledRequests) (effects : Pair → Held → List Effect) (answers : List ResetParameter) → OwnStands start front old
    → Brings parameter old new effects answers → OwnStands start (front ++ parameter ∷ []) new
own_more start front parameter old new effects answers own (brings_nothing treatment has same treats other) = stays_more start front parameter old new own same (λ is. has ∙ is) other
own_more start front parameter old new effects answers own (brings_request not_yet has same treats other) = stays_more start front parameter old new own same (λ is. has) other
own_more start front parameter old new effects answers own (brings_answer number result is awaits now brings none) =
    subst (OwnStands start (front ++ parameter ∷ [])) (sym now)
    (subst (λ (p : ResetParameter). OwnStands start (front ++ p ∷ []) (with_result result old)) (sym is)
    (subst (λ (o : Option ℕ). OwnStands o (front ++ reconfiguration_response number result ∷ []) (with_result result old)) (sym (start_of start front old number own awaits)) (by_result result number front old awaits)))

-- which parameters are handled
part_one : (has : Bool) (parameter : ResetParameter) (after : Bool) (rest : List ResetParameter) → (has && is_outgoing parameter) ≡ false → after ≡ (has || is_outgoing parameter)
    → handled_part has (parameter ∷ rest) ≡ parameter ∷ handled_part after rest
part_one true (outgoing_reset_request number answered reset) after rest first is = absurd (cc)
part_one false (outgoing_reset_request number answered reset) after rest first is = ap (λ (b : Bool). outgoing_reset_request number answered reset ∷ handled_part b rest) (sym is)
part_one true (incoming_reset_request number streams) after rest first is = ap (λ (b : Bool). incoming_reset_request number streams ∷ handled_part b rest) (sym is)
part_one false (incoming_reset_request number streams) after rest first is = ap (λ (b : Bool). incoming_reset_request number streams ∷ handled_part b rest) (sym is)
part_one true (reconfiguration_response number result) after rest first is = ap (λ (b : Bool). reconfiguration_response number result ∷ handled_part b rest) (sym is)
part_one false (reconfiguration_response number result) after rest first is = ap (λ (b : Bool). reconfiguration_response number result ∷ handled_part b rest) (sym is)
part_one true (other_reset_parameter parameter) after rest first is = ap (λ (b : Bool). other_reset_parameter parameter ∷ handled_part b rest) (sym is)
part_one false (other_reset_parameter parameter) after rest first is = ap (λ (b : Bool). other_reset_parameter parameter ∷ handled_part b rest) (sym is)

-- It isn't the second outgoing request.
pub none_if : (has outgoing : Bool) → outgoing ≡ false → (has && outgoing) ≡ false
none_if true outgoing is = is
none_if false outgoing is = refl

pub none_yet : (has outgoing : Bool) → has ≡ false → (has && outgoing) ≡ false
none_yet true outgoing is = absurd (cc)
none_yet false outgoing is = refl

-- One more was handled.
pub one_more : (state : RequestState) (last : LastRequest) (start : Option ℕ) (front : List ResetParameter) (parameter : ResetParameter) (old new : HandledRequests)
    → (old.has_worked && is_outgoing parameter) ≡ false → Progress state last start front old → HandlesParameter state parameter old new
    → Progress state last start (front ++ parameter ∷ []) new
one_more state last start front parameter old new first done step =
    record {
      effects = λ my base. done.effects my base ++ step.effects my base;
      are = subst AreResponses (sym step.added) (both_responses old.responses.items step.responses done.are step.are);
      treats = λ my base.
          let responses : List ResetParameter = reset_parameters step.responses in
          subst (TreatsBoth new (done.effects my base ++ step.effects my base)) (sym (said_append old.responses.items step.responses) ∙ ap (λ (ps : List Parameter). reset_parameters ps) (sym step.added))
          (treats_more start front parameter old new step.effects my base (done.effects my base) (reset_parameters old.responses.items) responses (done.treats my base) done.fresh done.own step.brings);
      fresh = fresh_more parameter old new step.effects (reset_parameters step.responses) done.fresh step.brings;
      own = own_more start front parameter old new step.effects (reset_parameters step.responses) done.own step.brings;
      part = λ rest.
          ap (handled_part false) (append_assoc front (parameter ∷ []) rest) ∙ done.part (parameter ∷ rest)
          ∙ ap (λ (ps : List ResetParameter). front ++ ps) (part_one old.has_worked parameter new.has_worked rest first step.has)
          ∙ sym (append_assoc front (parameter ∷ []) (handled_part new.has_worked rest));
      whole = λ my base rest.
          ap (λ (ps : List ResetParameter). parameters_outcome my state false (held_out start (held_with base last)) ps) (append_assoc front (parameter ∷ []) rest)
          ∙ done.whole my base (parameter ∷ rest)
          ∙ ap (λ (w : HandledParameters). behind_these (done.effects my base) (reset_parameters old.responses.items) w) (step.whole my base rest)
          ∙ behind_both (done.effects my base) (step.effects my base) (reset_parameters old.responses.items) (reset_parameters step.responses) (parameters_outcome my state new.has_worked (held_now base new) rest)
          ∙ ap (λ (ps : List ResetParameter). behind_these (done.effects my base ++ step.effects my base) ps (parameters_outcome my state new.has_worked (held_now base new) rest))
          (sym (said_append old.responses.items step.responses) ∙ ap (λ (ps : List Parameter). reset_parameters ps) (sym step.added));
    }

-- While it is outstanding, it is neither performed nor failed.
still_out : (start : Option ℕ) (b c : Bool) → own_answer start start b false ≡ own_answer start start b c
still_out None b c = refl
still_out (Some number) true c = refl
still_out (Some number) false c = refl

ended_kind : (answer : OwnAnswer) (number : ℕ) (b : Bool) → has_ended answer ≡ true → own_kind answer ≡ own_answer (Some number) None b (is_completed answer)
ended_kind own.Unanswered number b is = absurd (cc)
ended_kind own.InProgress number b is = absurd (cc)
ended_kind own.Performed number b is = refl
ended_kind own.Failed number b is = refl

-- what became of our own request in the end
own_at_end : (start : Option ℕ) (front : List ResetParameter) (w : HandledRequests) → OwnStands start front w → own_kind w.own ≡ own_answer start w.outstanding (in_progress_among start front) (is_completed w.own)
own_at_end start front w (awaited is kind silent) =
    kind ∙ (still_out start (in_progress_among start front) (is_completed w.own) ∙ ap (λ (o : Option ℕ). own_answer start o (in_progress_among start front) (is_completed w.own)) (sym is))
own_at_end start front w (ended number is none kind first) =
    ended_kind w.own number (in_progress_among (Some number) front) kind
    ∙ ap (λ (o : Option ℕ). own_answer o None (in_progress_among o front) (is_completed w.own)) (sym is)
    ∙ ap (λ (o : Option ℕ). own_answer start o (in_progress_among start front) (is_completed w.own)) (sym none)

-- and which is outstanding still
kind_left : (kind : outcomes.OwnAnswer) (start : Option ℕ) (b : Bool) → kind ≡ own_answer start start b false → left_out kind start ≡ start
kind_left outcomes.unanswered start b is = refl
kind_left outcomes.retried start b is = refl
kind_left outcomes.was_performed None b is = refl
kind_left outcomes.was_performed (Some number) true is = absurd (cc)
kind_left outcomes.was_performed (Some number) false is = absurd (cc)
kind_left outcomes.has_failed None b is = refl
kind_left outcomes.has_failed (Some number) true is = absurd (cc)
kind_left outcomes.has_failed (Some number) false is = absurd (cc)

ended_left : (answer : OwnAnswer) (start : Option ℕ) → has_ended answer ≡ true → None ≡ left_out (own_kind answer) start
ended_left own.Unanswered start is = absurd (cc)
ended_left own.InProgress start is = absurd (cc)
ended_left own.Performed start is = refl
ended_left own.Failed start is = refl

left_at_end : (start : Option ℕ) (front : List ResetParameter) (w : HandledRequests) → OwnStands start front w → w.outstanding ≡ left_out (own_kind w.own) start
left_at_end start front w (awaited is kind silent) = is ∙ sym (kind_left (own_kind w.own) start (in_progress_among start front) kind)
left_at_end start front w (ended number is none kind first) = none ∙ ended_left w.own start kind

-- ---- a chunk

-- a chunk that has a parameter
chunk_of : (my : Pair) (state : RequestState) (held : Held) (parameters : List ResetParameter) → is_none parameters ≡ false → reset_chunk_outcome my state held parameters ≡ parameters_outcome my state false held parameters
chunk_of my state held [] some = absurd (cc)
chunk_of my state held (parameter ∷ parameters) some = refl

-- its end
bring_all : (es : List Effect) (rs : List ResetParameter) (held : Held) → behind_these es rs (record { held = held; effects = []; answers = []; is_refused = false }) ≡ record { held = held; effects = es; answers = rs; is_refused = false }
bring_all es rs held =
    ap (λ (all : List Effect). record { held = held; effects = all; answers = rs ++ []; is_refused = false }) (append-nil es)
    ∙ ap (λ (all : List ResetParameter). record { held = held; effects = es; answers = all; is_refused = false }) (append-nil rs)

bring_refused : (es : List Effect) (rs : List ResetParameter) (held : Held) → behind_these es rs (record { held = held; effects = []; answers = []; is_refused = true }) ≡ record { held = held; effects = es; answers = rs; is_refused = true }
bring_refused es rs held =
    ap (λ (all : List Effect). record { held = held; effects = all; answers = rs ++ []; is_refused = true }) (append-nil es)
    ∙ ap (λ (all : List ResetParameter). record { held = held; effects = es; answers = all; is_refused = true }) (append-nil rs)

pub all_worked : (state : RequestState) (last : LastRequest) (start : Option ℕ) (parameters : List ResetParameter) (w : HandledRequests) → Progress state last start parameters w → is_none parameters ≡ false → w.is_refused ≡ false
    → HandlesParameters state last start parameters w
all_worked state last start parameters w done some taken =
    record {
      effects = done.effects;
      are = done.are;
      treats = done.treats;
      own = own_at_end start parameters w done.own ∙ ap (λ (ps : List ResetParameter). own_answer start w.outstanding (in_progress_among start ps) (is_completed w.own)) (sym (whole_part w.has_worked parameters (done.part [])));
      left = left_at_end start parameters w done.own;
      whole = λ my base.
          chunk_of my state (held_out start (held_with base last)) parameters some
          ∙ ap (λ (ps : List ResetParameter). parameters_outcome my state false (held_out start (held_with base last)) ps) (sym (append-nil parameters))
          ∙ done.whole my base []
          ∙ bring_all (done.effects my base) (reset_parameters w.responses.items) (held_now base w)
          ∙ ap (λ (b : Bool). record { held = held_now base w; effects = done.effects my base; answers = reset_parameters w.responses.items; is_refused = b }) (sym taken);
    }
  where
    whole_part : (has : Bool) (ps : List ResetParameter) → handled_part false (ps ++ []) ≡ ps ++ handled_part has [] → handled_part false ps ≡ ps
    whole_part true ps is = ap (handled_part false) (sym (append-nil ps)) ∙ is ∙ append-nil ps
    whole_part false ps is = ap (handled_part false) (sym (append-nil ps)) ∙ is ∙ append-nil ps

-- A second outgoing request is an error.
second_outgoing : (my : Pair) (state : RequestState) (has : Bool) (held : Held) (parameter : ResetParameter) (rest : List ResetParameter) → has ≡ true → is_outgoing parameter ≡ true
    → parameters_outcome my state has held (parameter ∷ rest) ≡ record { held = held; effects = []; answers = []; is_refused = true }
second_outgoing my state true held (outgoing_reset_request number answered reset) rest has is = refl
second_outgoing my state false held (outgoing_reset_request number answered reset) rest has is = absurd (cc)
second_outgoing my state has held (incoming_reset_request number streams) rest worked is = absurd (cc)
second_outgoing my state has held (reconfiguration_response number result) rest worked is = absurd (cc)
second_outgoing my state has held (other_reset_parameter parameter) rest worked is = absurd (cc)

not_none : (front rest : List ResetParameter) (parameter : ResetParameter) → is_none (front ++ parameter ∷ rest) ≡ false
not_none [] rest parameter = refl
not_none (first ∷ front) rest parameter = refl

second_part : (has : Bool) (parameter : ResetParameter) (rest : List ResetParameter) → has ≡ true → is_outgoing parameter ≡ true → handled_part has (parameter ∷ rest) ≡ []
second_part true (outgoing_reset_request number answered reset) rest has is = refl
second_part false (outgoing_reset_request number answered reset) rest has is = absurd (cc)
second_part has (incoming_reset_request number streams) rest worked is = absurd (cc)
second_part has (reconfiguration_response number result) rest worked is = absurd (cc)
second_part has (other_reset_parameter parameter) rest worked is = absurd (cc)

pub second_worked : (state : RequestState) (last : LastRequest) (start : Option ℕ) (front rest : List ResetParameter) (parameter : ResetParameter) (w v : HandledRequests) → Progress state last start front w → w.has_worked ≡ true
    → is_outgoing parameter ≡ true → v ≡ record w { is_refused = true } → HandlesParameters state last start (front ++ parameter ∷ rest) v
second_worked state last start front rest parameter w v done has is here =
    subst (HandlesParameters state last start (front ++ parameter ∷ rest)) (sym here)
    (record {
      effects = done.effects;
      are = done.are;
      treats = λ my base. let t = done.treats my base in record { has = t.has; waits = t.waits; told = t.told; drawn = t.drawn };
      own = own_at_end start front w done.own
          ∙ ap (λ (ps : List ResetParameter). own_answer start w.outstanding (in_progress_among start ps) (is_completed w.own))
          (sym (done.part (parameter ∷ rest) ∙ ap (λ (ps : List ResetParameter). front ++ ps) (second_part w.has_worked parameter rest has is) ∙ append-nil front));
      left = left_at_end start front w done.own;
      whole = λ my base.
          chunk_of my state (held_out start (held_with base last)) (front ++ parameter ∷ rest) (not_none front rest parameter)
          ∙ done.whole my base (parameter ∷ rest)
          ∙ ap (λ (after : HandledParameters). behind_these (done.effects my base) (reset_parameters w.responses.items) after) (second_outgoing my state w.has_worked (held_now base w) parameter rest has is)
          ∙ bring_refused (done.effects my base) (reset_parameters w.responses.items) (held_now base w);
    })

-- A chunk without parameters is an error too.
pub none_worked : (state : RequestState) (last : LastRequest) (start : Option ℕ) (w : HandledRequests) → Progress state last start [] w → w.is_refused ≡ true → HandlesParameters state last start [] w
none_worked state last start w done refused =
    record {
      effects = done.effects;
      are = done.are;
      treats = done.treats;
      own = own_at_end start [] w done.own;
      left = left_at_end start [] w done.own;
      whole = λ my base.
          ap (λ (after : HandledParameters). record after { is_refused = true }) (done.whole my base [])
          ∙ bring_refused (done.effects my base) (reset_parameters w.responses.items) (held_now base w)
          ∙ ap (λ (b : Bool). record { held = held_now base w; effects = done.effects my base; answers = reset_parameters w.responses.items; is_refused = b }) (sym refused);
    }

-- ---- whether our own request was performed

-- is that reported to the user?
abbrev performed_among : List (Event Emission) → Bool
performed_among [] = false
performed_among (streams_reset_performed streams ∷ events) = true
performed_among (event ∷ events) = performed_among events

completed_told : (theirs own : List ℕ) (es : List Effect) → has_completed es ≡ performed_among (reset_events theirs own es)
completed_told theirs own [] = refl
completed_told theirs own (completes my number ∷ es) = refl
completed_told theirs own (fails number ∷ es) = completed_told theirs own es
completed_told theirs own (performs peer number ∷ es) = completed_told theirs own es
completed_told theirs own (renews peer number ∷ es) = completed_told theirs own es
completed_told theirs own (accepts number ∷ es) = completed_told theirs own es
completed_told theirs own (draws pair ∷ es) = completed_told theirs own es
completed_told theirs own (sends packet ∷ es) = completed_told theirs own es
completed_told theirs own (holds link ∷ es) = completed_told theirs own es
completed_told theirs own (connects link ∷ es) = completed_told theirs own es
completed_told theirs own (ends ∷ es) = completed_told theirs own es
completed_told theirs own (begins number ∷ es) = completed_told theirs own es
completed_told theirs own (gives_up number ∷ es) = completed_told theirs own es
completed_told theirs own (resumes link first last ∷ es) = completed_told theirs own es

own_performed : (answer : OwnAnswer) (streams : List ℕ) → performed_among (own_events answer streams) ≡ is_completed answer
own_performed own.Unanswered streams = refl
own_performed own.InProgress streams = refl
own_performed own.Performed streams = refl
own_performed own.Failed streams = refl

none_performed : (t : Treatment) (theirs : List ℕ) → performed_among (treated_events t theirs) ≡ false
none_performed Performed theirs = refl
none_performed Deferred theirs = refl
none_performed Renewed theirs = refl
none_performed Nothing theirs = refl

so_performed : (b : Bool) (answer : OwnAnswer) (t : Treatment) (theirs streams : List ℕ) → performed_among (both_answer_events b answer t theirs streams) ≡ is_completed answer
so_performed true own.Unanswered t theirs streams = none_performed t theirs
so_performed true own.InProgress t theirs streams = none_performed t theirs
so_performed true own.Performed t theirs streams = refl
so_performed true own.Failed t theirs streams = none_performed t theirs
so_performed false answer Performed theirs streams = own_performed answer streams
so_performed false answer Deferred theirs streams = own_performed answer streams
so_performed false answer Renewed theirs streams = own_performed answer streams
so_performed false answer Nothing theirs streams = own_performed answer streams

pub completed_is : (w : HandledRequests) (effects : List Effect) (answers : List ResetParameter) → TreatsBoth w effects answers → has_completed effects ≡ is_completed w.own
completed_is w effects answers treats =
    completed_told [] [] effects ∙ (ap performed_among (treats.told [] []) ∙ so_performed w.is_own_first w.own w.treatment [] [])

-- ---- the loop

pub parameters_more : (parameters : List Parameter) (i : ℕ) (d : Parameter) → i < length parameters
    → reset_parameters (take (i + 1) parameters) ≡ reset_parameters (take i parameters) ++ parameter_said (get_or parameters i d) ∷ []
parameters_more parameters i d lt = ap (λ (ps : List Parameter). reset_parameters ps) (take_more parameters i d lt) ∙ said_append (take i parameters) (get_or parameters i d ∷ [])

pub parameters_split : (parameters : List Parameter) (i : ℕ) (d : Parameter) → i < length parameters
    → reset_parameters parameters ≡ reset_parameters (take i parameters) ++ parameter_said (get_or parameters i d) ∷ reset_parameters (drop (i + 1) parameters)
parameters_split parameters i d lt =
    let after : List ResetParameter = reset_parameters (drop (i + 1) parameters) in
    ap (λ (ps : List Parameter). reset_parameters ps) (sym (take-append-drop (i + 1) parameters))
    ∙ said_append (take (i + 1) parameters) (drop (i + 1) parameters)
    ∙ ap (λ (ps : List ResetParameter). ps ++ after) (parameters_more parameters i d lt)
    ∙ append_assoc (reset_parameters (take i parameters)) (parameter_said (get_or parameters i d) ∷ []) after

pub ends_worked : (state : RequestState) (last : LastRequest) (start : Option ℕ) (parameters : List Parameter) (w : HandledRequests) → Progress state last start (reset_parameters parameters) w → w.is_refused ≡ nat_eq (length parameters) 0
    → HandlesParameters state last start (reset_parameters parameters) w
ends_worked state last start [] w done refused = none_worked state last start w done refused
ends_worked state last start (parameter ∷ parameters) w done refused = all_worked state last start (reset_parameters (parameter ∷ parameters)) w done refl (refused ∙ grind (arith, nat_tests))
