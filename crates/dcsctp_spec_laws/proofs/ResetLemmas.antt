-- The turn of RE-CONFIG is a turn of the association.
use Rattle.std.proofs.Common.{◌≡◌, ◌&&◌, ◌⊎◌, inl, inr, ℕ, Bool, true, false, cond, Option, None, List, [], ◌∷◌, ◌++◌, refl, sym, subst, ap, ◌∙◌, append_assoc}
use Rattle.std.proofs.lemmas.List.{append-nil}
use Rattle.dcsctp_spec_lemmas.specs.wire.declared.reconfiguration.ReconfigurationResponseResult.{ReconfigurationResponseResult}
use Rattle.dcsctp_spec_lemmas.specs.wire.declared.reconfiguration.ReconfigurationResponseResult.TheVariants.{SuccessNothingToDo, SuccessPerformed, Denied, ErrorWrongSSN, ErrorRequestAlreadyInProgress, ErrorBadSequenceNumber, InProgress}
use Rattle.dcsctp_spec_lemmas.specs.types.declared.association.Pair.{Pair}
use Rattle.dcsctp_spec_lemmas.specs.types.declared.association.Held.{Held}
use Rattle.dcsctp_spec_lemmas.specs.types.declared.kinds.ErrorKind.TheVariants.{ProtocolViolation}
use Rattle.dcsctp_spec_lemmas.specs.types.Settings.{SameOptions}
use Rattle.dcsctp_spec_lemmas.specs.spec.endpoint.Event.{Event, sent, error}
use Rattle.dcsctp_spec_lemmas.specs.spec.Packet.{re_config, Packet, Emission}
use Rattle.dcsctp_spec_lemmas.specs.spec.Reconfiguration.{NumberedReset, RequestState, early, due, renewed, ResetParameter, outgoing_reset_request, incoming_reset_request, reconfiguration_response, other_reset_parameter}
use Rattle.dcsctp_spec_lemmas.specs.spec.queues.Transfer.{Transfer}
use Rattle.dcsctp_spec_lemmas.specs.spec.endpoint.Endpoint.{Endpoint, Core, closed, cookie_wait, cookie_echoed, open_in, is_cookie_echoed, may_answer}
use Rattle.dcsctp_spec_lemmas.specs.spec.endpoint.Outcome.{Outcome, quiet, answering as counted, answered_if_allowed, packet_counted, behind, with_effects_first, to_peer, fits as fits_mtu, sends as sends_out, still}
use Rattle.dcsctp_spec_lemmas.specs.spec.endpoint.Following.{next_chunk}
use Rattle.dcsctp_spec_lemmas.specs.spec.association.Effect.{Effect, accepts, performs, renews, completes, fails, sends, effects_without_packets, no_change}
use Rattle.dcsctp_spec_lemmas.specs.spec.association.Choices.{Choices}
use Rattle.dcsctp_spec_lemmas.specs.spec.association.FlushChanges.{FlushResult, flush}
use Rattle.dcsctp_spec_lemmas.specs.spec.association.ResetChanges.{RequestPlace, again, next, astray, request_place, RequestOutcome, performed_request, repeated_request_outcome, next_request, is_due, outgoing_by_place, incoming_by_place, AnswerResult, result_of_answer, is_outstanding, result_if_outstanding, HandledParameters, parameters_outcome, reset_chunk_outcome, reset_sent, peer_part_handled, echoed_re_config_change, re_config_change}
use Rattle.dcsctp_spec_lemmas.specs.spec.association.Controlled.{Observation, packet_sent, peer_reset_performed, own_reset_performed, own_reset_failed, observations_of_events, observations_of_effects, IsControlled, IsControlledChunk}
use Rattle.dcsctp_spec_lemmas.specs.spec.endpoint.FlushOutcomes.{Answer, draft_to, flush_of, FlushAnswers}
use Rattle.dcsctp_spec_lemmas.specs.spec.endpoint.ResetOutcomes.{request_state, renewable_left, handled_parameters_of, OwnAnswer, unanswered, retried, was_performed, has_failed, answer_to_own, reset_events, reset_events_of, core_with, resets_handled, reset_refusal_text, responses_unless_refused, ResponseAnswers, HandlesResets, ResetTurn}
use Rattle.dcsctp_spec_lemmas.proofs.ControlHandshake.{no_choices, ControlledAt, still_controlled}
use Rattle.dcsctp_spec_lemmas.proofs.FlushKeeps.{IsPeerTag, filling_of, flush_effects, Rebuilds, rebuilds_open, rebuilds_echoed, FlushesTo, flush_controlled, signs_append}
use Rattle.dcsctp_spec_lemmas.specs.spec.endpoint.Turn.{ContentTurn}
use Rattle.dcsctp_spec_lemmas.proofs.EarlyLemmas.{content_where}

-- ---- what the parameters bring

-- requests of the peer that were accepted and performed, and own ones that have ended
pub data AreResets : List Effect → Type 0 where
  nothing : AreResets []
  acceptance : (number : ℕ) (es : List Effect) → AreResets es → AreResets (accepts number ∷ es)
  performance : (peer : Pair) (number : ℕ) (es : List Effect) → AreResets es → AreResets (performs peer number ∷ es)
  renewal : (peer : Pair) (number : ℕ) (es : List Effect) → AreResets es → AreResets (renews peer number ∷ es)
  completion : (my : Pair) (number : ℕ) (es : List Effect) → AreResets es → AreResets (completes my number ∷ es)
  failure : (number : ℕ) (es : List Effect) → AreResets es → AreResets (fails number ∷ es)

-- Such effects in front of others.
pub record InFront (front rest : List Effect) : Type 0 where
  pub observations : observations_of_effects (front ++ rest) ≡ observations_of_effects front ++ observations_of_effects rest
  pub notes : effects_without_packets (front ++ rest) ≡ front ++ effects_without_packets rest

pub in_front : (front rest : List Effect) → AreResets front → InFront front rest
in_front _ rest nothing = record { observations = refl; notes = refl }
in_front _ rest (acceptance number front are) =
    let h : InFront front rest = in_front front rest are in
    record { observations = h.observations; notes = ap (λ (es : List Effect). accepts number ∷ es) h.notes }
in_front _ rest (performance peer number front are) =
    let h : InFront front rest = in_front front rest are in
    record { observations = ap (λ (ss : List Observation). peer_reset_performed ∷ ss) h.observations; notes = ap (λ (es : List Effect). performs peer number ∷ es) h.notes }
in_front _ rest (renewal peer number front are) =
    let h : InFront front rest = in_front front rest are in
    record { observations = h.observations; notes = ap (λ (es : List Effect). renews peer number ∷ es) h.notes }
in_front _ rest (completion my number front are) =
    let h : InFront front rest = in_front front rest are in
    record { observations = ap (λ (ss : List Observation). own_reset_performed ∷ ss) h.observations; notes = ap (λ (es : List Effect). completes my number ∷ es) h.notes }
in_front _ rest (failure number front are) =
    let h : InFront front rest = in_front front rest are in
    record { observations = ap (λ (ss : List Observation). own_reset_failed ∷ ss) h.observations; notes = ap (λ (es : List Effect). fails number ∷ es) h.notes }

both_are : (front rest : List Effect) → AreResets front → AreResets rest → AreResets (front ++ rest)
both_are _ rest nothing more = more
both_are _ rest (acceptance number front are) more = acceptance number (front ++ rest) (both_are front rest are more)
both_are _ rest (performance peer number front are) more = performance peer number (front ++ rest) (both_are front rest are more)
both_are _ rest (renewal peer number front are) more = renewal peer number (front ++ rest) (both_are front rest are more)
both_are _ rest (completion my number front are) more = completion my number (front ++ rest) (both_are front rest are more)
both_are _ rest (failure number front are) more = failure number (front ++ rest) (both_are front rest are more)

-- The events show the same as the effects.
told_signs : (theirs own : List ℕ) (es : List Effect) → AreResets es → observations_of_events (reset_events theirs own es) ≡ observations_of_effects es
told_signs theirs own _ nothing = refl
told_signs theirs own _ (acceptance number es are) = told_signs theirs own es are
told_signs theirs own _ (performance peer number es are) = ap (λ (ss : List Observation). peer_reset_performed ∷ ss) (told_signs theirs own es are)
told_signs theirs own _ (renewal peer number es are) = told_signs theirs own es are
told_signs theirs own _ (completion my number es are) = ap (λ (ss : List Observation). own_reset_performed ∷ ss) (told_signs theirs own es are)
told_signs theirs own _ (failure number es are) = ap (λ (ss : List Observation). own_reset_failed ∷ ss) (told_signs theirs own es are)

-- What is known of the association stays but for the last number of the peer and its answer, and our request may have ended.
pub record KeepsPeer (old new : Held) : Type 0 where
  pub peer : new.peer ≡ old.peer
  pub capabilities : new.capabilities ≡ old.capabilities
  pub own_next : new.own_next ≡ old.own_next
  pub own_outstanding : (new.own_outstanding ≡ old.own_outstanding) ⊎ (new.own_outstanding ≡ None)

kept : (held : Held) → KeepsPeer held held
kept held = record { peer = refl; capabilities = refl; own_next = refl; own_outstanding = inl refl }

kept_then : (a b c : Held) → KeepsPeer a b → KeepsPeer b c → KeepsPeer a c
kept_then a b c h k =
    record {
      peer = k.peer ∙ h.peer;
      capabilities = k.capabilities ∙ h.capabilities;
      own_next = k.own_next ∙ h.own_next;
      own_outstanding = elim k.own_outstanding [
        | inl same ↦ elim h.own_outstanding [
          | inl first ↦ inl (same ∙ first)
          | inr none ↦ inr (same ∙ none)
        ]
        | inr none ↦ inr none
      ];
    }

-- What a part of them brings.
pub record Brings (held after : Held) (es : List Effect) : Type 0 where
  pub keeps : KeepsPeer held after
  pub are : AreResets es

worked_brings : (held : Held) (number : ℕ) (reached : Bool) → Brings held (performed_request held number reached).held (performed_request held number reached).effects
worked_brings held number true = record { keeps = record { peer = refl; capabilities = refl; own_next = refl; own_outstanding = inl refl }; are = performance held.peer number [] nothing }
worked_brings held number false = record { keeps = record { peer = refl; capabilities = refl; own_next = refl; own_outstanding = inl refl }; are = nothing }

repeated_brings : (held : Held) (result : ReconfigurationResponseResult) (reached : Bool) → Brings held (repeated_request_outcome held result reached).held (repeated_request_outcome held result reached).effects
repeated_brings held SuccessNothingToDo reached = record { keeps = kept held; are = nothing }
repeated_brings held SuccessPerformed reached = record { keeps = kept held; are = nothing }
repeated_brings held Denied reached = record { keeps = kept held; are = nothing }
repeated_brings held ErrorWrongSSN reached = record { keeps = kept held; are = nothing }
repeated_brings held ErrorRequestAlreadyInProgress reached = record { keeps = kept held; are = nothing }
repeated_brings held ErrorBadSequenceNumber reached = record { keeps = kept held; are = nothing }
repeated_brings held InProgress reached = worked_brings held held.peer_last reached

next_brings : (held : Held) (number : ℕ) (state : RequestState) → Brings held (next_request held number state).held (next_request held number state).effects
next_brings held number early = worked_brings held number false
next_brings held number due = worked_brings held number true
next_brings held number renewed = record { keeps = record { peer = refl; capabilities = refl; own_next = refl; own_outstanding = inl refl }; are = renewal held.peer number [] nothing }

outgoing_brings : (held : Held) (number : ℕ) (state : RequestState) (place : RequestPlace) → Brings held (outgoing_by_place held number state place).held (outgoing_by_place held number state place).effects
outgoing_brings held number state again = repeated_brings held held.peer_result (is_due state)
outgoing_brings held number state next =
    let h = next_brings held number state in
    record { keeps = h.keeps; are = acceptance number (next_request held number state).effects h.are }
outgoing_brings held number state astray = record { keeps = kept held; are = nothing }

incoming_brings : (held : Held) (number : ℕ) (place : RequestPlace) → Brings held (incoming_by_place held number place).held (incoming_by_place held number place).effects
incoming_brings held number again = record { keeps = record { peer = refl; capabilities = refl; own_next = refl; own_outstanding = inl refl }; are = nothing }
incoming_brings held number next = record { keeps = record { peer = refl; capabilities = refl; own_next = refl; own_outstanding = inl refl }; are = acceptance number [] nothing }
incoming_brings held number astray = record { keeps = kept held; are = nothing }

answer_brings : (my : Pair) (held : Held) (number : ℕ) (result : ReconfigurationResponseResult) → Brings held (result_of_answer my held number result).held (result_of_answer my held number result).effects
answer_brings my held number SuccessNothingToDo = record { keeps = record { peer = refl; capabilities = refl; own_next = refl; own_outstanding = inr refl }; are = completion my number [] nothing }
answer_brings my held number SuccessPerformed = record { keeps = record { peer = refl; capabilities = refl; own_next = refl; own_outstanding = inr refl }; are = completion my number [] nothing }
answer_brings my held number Denied = record { keeps = record { peer = refl; capabilities = refl; own_next = refl; own_outstanding = inr refl }; are = failure number [] nothing }
answer_brings my held number ErrorWrongSSN = record { keeps = record { peer = refl; capabilities = refl; own_next = refl; own_outstanding = inr refl }; are = failure number [] nothing }
answer_brings my held number ErrorRequestAlreadyInProgress = record { keeps = record { peer = refl; capabilities = refl; own_next = refl; own_outstanding = inr refl }; are = failure number [] nothing }
answer_brings my held number ErrorBadSequenceNumber = record { keeps = record { peer = refl; capabilities = refl; own_next = refl; own_outstanding = inr refl }; are = failure number [] nothing }
answer_brings my held number InProgress = record { keeps = kept held; are = nothing }

informed_brings : (b : Bool) (my : Pair) (held : Held) (number : ℕ) (result : ReconfigurationResponseResult)
    → Brings held (result_if_outstanding my held number result b).held (result_if_outstanding my held number result b).effects
informed_brings true my held number result = answer_brings my held number result
informed_brings false my held number result = record { keeps = kept held; are = nothing }

-- What they bring one after another.
brings_then : (held first last : Held) (front rest : List Effect) → Brings held first front → Brings first last rest → Brings held last (front ++ rest)
brings_then held first last front rest h k = record { keeps = kept_then held first last h.keeps k.keeps; are = both_are front rest h.are k.are }

parameters_bring : (my : Pair) (state : RequestState) (has_worked : Bool) (held : Held) (parameters : List ResetParameter)
    → Brings held (parameters_outcome my state has_worked held parameters).held (parameters_outcome my state has_worked held parameters).effects
parameters_bring my state has_worked held [] = record { keeps = kept held; are = nothing }
parameters_bring my state true held (outgoing_reset_request number answered reset ∷ parameters) = record { keeps = kept held; are = nothing }
parameters_bring my state false held (outgoing_reset_request number answered reset ∷ parameters) =
    let first : RequestOutcome = outgoing_by_place held number state (request_place held.peer_last number) in
    let rest : HandledParameters = parameters_outcome my state true first.held parameters in
    brings_then held first.held rest.held first.effects rest.effects (outgoing_brings held number state (request_place held.peer_last number)) (parameters_bring my state true first.held parameters)
parameters_bring my state has_worked held (incoming_reset_request number streams ∷ parameters) =
    let first : RequestOutcome = incoming_by_place held number (request_place held.peer_last number) in
    let rest : HandledParameters = parameters_outcome my state has_worked first.held parameters in
    brings_then held first.held rest.held first.effects rest.effects (incoming_brings held number (request_place held.peer_last number)) (parameters_bring my state has_worked first.held parameters)
parameters_bring my state has_worked held (reconfiguration_response number result ∷ parameters) =
    let first : AnswerResult = result_if_outstanding my held number result (is_outstanding number held.own_outstanding) in
    let rest : HandledParameters = parameters_outcome my state has_worked first.held parameters in
    brings_then held first.held rest.held first.effects rest.effects (informed_brings (is_outstanding number held.own_outstanding) my held number result) (parameters_bring my state has_worked first.held parameters)
parameters_bring my state has_worked held (other_reset_parameter parameter ∷ parameters) = parameters_bring my state has_worked held parameters

pub chunk_brings : (my : Pair) (state : RequestState) (held : Held) (parameters : List ResetParameter) → Brings held (reset_chunk_outcome my state held parameters).held (reset_chunk_outcome my state held parameters).effects
chunk_brings my state held [] = record { keeps = kept held; are = nothing }
chunk_brings my state held (parameter ∷ parameters) = parameters_bring my state false held (parameter ∷ parameters)

-- ---- answers, and a flush

-- Such effects, with packets after them or without.
pub record Shows (before es : List Effect) : Type 0 where
  pub observations : (rest : List Effect) → observations_of_effects (before ++ rest) ≡ observations_of_effects before ++ observations_of_effects rest
  pub notes : (rest : List Effect) → effects_without_packets (before ++ rest) ≡ es ++ effects_without_packets rest

shows : (es : List Effect) → AreResets es → Shows es es
shows es are = record { observations = λ rest. (in_front es rest are).observations; notes = λ rest. (in_front es rest are).notes }

shows_packet : (es : List Effect) (packet : Packet) → AreResets es → Shows (es ++ sends packet ∷ []) es
shows_packet es packet are =
    record {
      observations = λ rest. ap observations_of_effects (append_assoc es (sends packet ∷ []) rest) ∙ (in_front es (sends packet ∷ rest) are).observations
          ∙ sym (append_assoc (observations_of_effects es) (packet_sent packet ∷ []) (observations_of_effects rest))
          ∙ ap (λ (ss : List Observation). ss ++ observations_of_effects rest) (sym (in_front es (sends packet ∷ []) are).observations);
      notes = λ rest. ap effects_without_packets (append_assoc es (sends packet ∷ []) rest) ∙ (in_front es (sends packet ∷ rest) are).notes;
    }

-- a turn by what is held of its peer and its effects
abbrev MovesTo : Endpoint → (Held → Core) → List Effect → Outcome → FlushResult → Type 0
MovesTo e rebuilt es o after = IsControlled e o (record { core = rebuilt after.held; effects = es ++ after.effects; following = next_chunk })

-- a flush after effects
flushes_behind : (e base : Endpoint) (rebuilt : Held → Core) (held : Held) (before es : List Effect) (events : List (Event Emission)) (answers : List Answer) → Rebuilds rebuilt held
    → base.core ≡ rebuilt held → SameOptions e.options base.options → IsPeerTag (rebuilt held) held.peer.tag → FlushAnswers base (draft_to held) answers
    → Shows before es → observations_of_events events ≡ observations_of_effects before
    → FlushesTo e (with_effects_first es (behind [] events (flush_of base (draft_to held) answers))) rebuilt before (flush held.peer.tag held [] (filling_of answers))
flushes_behind e base rebuilt held before es events answers builds is same peer h shown told =
    let more : List Effect = flush_effects held.peer.tag [] answers in
    flush_controlled e base [] events (draft_to held) answers rebuilt held before es builds is same
    (subst (λ (c : Core). IsPeerTag c held.peer.tag) (sym is) peer) h told (shown.observations more) (shown.notes more)

-- the flush of the association, after its answers
abbrev pub sent_then : List Effect → Held → List Answer → FlushResult
sent_then front held answers =
    let after : FlushResult = flush held.peer.tag held [] (filling_of answers) in
    record after { effects = front ++ after.effects }

-- without answers, or where they don't fit
silently : (e base : Endpoint) (rebuilt : Held → Core) (held : Held) (es : List Effect) (told : List (Event Emission)) (answers : List Answer) → Rebuilds rebuilt held
    → base.core ≡ rebuilt held → SameOptions e.options base.options → IsPeerTag (rebuilt held) held.peer.tag → FlushAnswers base (draft_to held) answers → AreResets es
    → observations_of_events told ≡ observations_of_effects es
    → MovesTo e rebuilt es (with_effects_first es (behind [] (told ++ []) (flush_of base (draft_to held) answers))) (sent_then [] held answers)
silently e base rebuilt held es told answers builds is same peer h are shown =
    flushes_behind e base rebuilt held es es (told ++ []) answers builds is same peer h (shows es are) (ap observations_of_events (append-nil told) ∙ shown)

-- with answers that fit
answering : (e base : Endpoint) (rebuilt : Held → Core) (held : Held) (es : List Effect) (told : List (Event Emission)) (emission : Emission) (answers : List Answer) → Rebuilds rebuilt held
    → base.core ≡ rebuilt held → SameOptions e.options base.options → IsPeerTag (rebuilt held) held.peer.tag → FlushAnswers base (draft_to held) answers → AreResets es
    → observations_of_events told ≡ observations_of_effects es
    → MovesTo e rebuilt es (with_effects_first es (behind [] (told ++ sent emission ∷ []) (flush_of base (draft_to held) answers))) (sent_then (sends emission.packet ∷ []) held answers)
answering e base rebuilt held es told emission answers builds is same peer h are shown =
    let after : FlushResult = flush held.peer.tag held [] (filling_of answers) in
    let o : Outcome = with_effects_first es (behind [] (told ++ sent emission ∷ []) (flush_of base (draft_to held) answers)) in
    subst (λ (all : List Effect). IsControlled e o (record { core = rebuilt after.held; effects = all; following = next_chunk })) (append_assoc es (sends emission.packet ∷ []) after.effects)
    (flushes_behind e base rebuilt held (es ++ sends emission.packet ∷ []) es (told ++ sent emission ∷ []) answers builds is same peer h (shows_packet es emission.packet are)
    (signs_append told (sent emission ∷ []) ∙ ap (λ (ss : List Observation). ss ++ packet_sent emission.packet ∷ []) shown ∙ sym (in_front es (sends emission.packet ∷ []) are).observations))

-- An error after these events shows nothing more.
refusing : (e base : Endpoint) (core : Core) (es : List Effect) (told : List (Event Emission)) (text : List ℕ) → base.core ≡ core → SameOptions e.options base.options → AreResets es
    → observations_of_events told ≡ observations_of_effects es
    → IsControlled e (with_effects_first es (quiet base [] (told ++ error ProtocolViolation text ∷ []))) (record { core = core; effects = es ++ []; following = next_chunk })
refusing e base core es told text is same are shown =
    record {
      core = is;
      options = same;
      observations = signs_append told (error ProtocolViolation text ∷ []) ∙ ap (λ (ss : List Observation). ss ++ []) shown ∙ sym (in_front es [] are).observations;
      effects = sym (in_front es [] are).notes;
      following = refl;
    }

-- what a turn chooses: whether all has come, whether the answers fit, and what the flush is answered
abbrev choosing : Endpoint → RequestState → Bool → List Answer → Choices
choosing e state fits answers = record (no_choices e fits) { state = state; filling = filling_of answers }

-- where the packet may be answered, and the answers fit or not
fitting : (b : Bool) (e base : Endpoint) (state : RequestState) (rebuilt : Held → Core) (held : Held) (es : List Effect) (told : List (Event Emission)) (response : ResetParameter) (responses : List ResetParameter) (answers : List Answer)
    → Rebuilds rebuilt held → base.core ≡ rebuilt held → SameOptions e.options base.options → IsPeerTag (rebuilt held) held.peer.tag → AreResets es → observations_of_events told ≡ observations_of_effects es
    → let o : Outcome = counted (cond b (sends_out base [] [] (to_peer held (re_config (response ∷ responses)))) (quiet base [] [])) in
    FlushAnswers o.after (draft_to held) answers
    → MovesTo e rebuilt es (with_effects_first es (behind [] (told ++ o.events) (flush_of o.after (draft_to held) answers))) (reset_sent false held (response ∷ responses) (choosing e state b answers))
fitting true e base state rebuilt held es told response responses answers builds is same peer are shown h =
    answering e (record (packet_counted base) { has_answered = true }) rebuilt held es told (to_peer held (re_config (response ∷ responses))) answers builds is same peer h are shown
fitting false e base state rebuilt held es told response responses answers builds is same peer are shown h =
    silently e (record base { has_answered = true }) rebuilt held es told answers builds is same peer h are shown

-- where it may be answered or not
responding : (may : Bool) (e base : Endpoint) (state : RequestState) (rebuilt : Held → Core) (held : Held) (es : List Effect) (told : List (Event Emission)) (response : ResetParameter) (responses : List ResetParameter) (answers : List Answer)
    → Rebuilds rebuilt held → base.core ≡ rebuilt held → SameOptions e.options base.options → IsPeerTag (rebuilt held) held.peer.tag → AreResets es → observations_of_events told ≡ observations_of_effects es
    → let emission : Emission = to_peer held (re_config (response ∷ responses)) in
    let o : Outcome = answered_if_allowed may base emission in
    FlushAnswers o.after (draft_to held) answers
    → MovesTo e rebuilt es (with_effects_first es (behind [] (told ++ o.events) (flush_of o.after (draft_to held) answers))) (reset_sent false held (response ∷ responses) (choosing e state (may && fits_mtu base emission) answers))
responding true e base state rebuilt held es told response responses answers builds is same peer are shown h =
    fitting (fits_mtu base (to_peer held (re_config (response ∷ responses)))) e base state rebuilt held es told response responses answers builds is same peer are shown h
responding false e base state rebuilt held es told response responses answers builds is same peer are shown h = silently e base rebuilt held es told answers builds is same peer h are shown

-- are the answers sent, if there are some?
abbrev responses_fit : Endpoint → Held → List ResetParameter → Bool
responses_fit base held responses = may_answer base && fits_mtu base (to_peer held (re_config responses))

sent_at : (refused : Bool) (e base : Endpoint) (state : RequestState) (rebuilt : Held → Core) (held : Held) (es : List Effect) (told : List (Event Emission)) (parameters responses : List ResetParameter) (answers : List Answer)
    → Rebuilds rebuilt held → base.core ≡ rebuilt held → SameOptions e.options base.options → IsPeerTag (rebuilt held) held.peer.tag → AreResets es → observations_of_events told ≡ observations_of_effects es
    → ResponseAnswers refused base held responses answers
    → MovesTo e rebuilt es (with_effects_first es (responses_unless_refused refused base told held parameters responses answers)) (reset_sent refused held responses (choosing e state (responses_fit base held responses) answers))
sent_at true e base state rebuilt held es told parameters responses answers builds is same peer are shown h =
    refusing e base (rebuilt held) es told (reset_refusal_text parameters) is same are shown
sent_at false e base state rebuilt held es told parameters [] answers builds is same peer are shown h = silently e base rebuilt held es told answers builds is same peer h are shown
sent_at false e base state rebuilt held es told parameters (response ∷ responses) answers builds is same peer are shown h =
    responding (may_answer base) e base state rebuilt held es told response responses answers builds is same peer are shown h

-- ---- the turn

-- Only the association's own parts move.
pub record KeepsRest (e after : Endpoint) (left : Core) : Type 0 where
  pub core : after.core ≡ left
  pub options : after.options ≡ e.options
  pub t1 : after.timers.t1 ≡ e.timers.t1

pub worked_keeps : (e : Endpoint) (answer : OwnAnswer) (held : Held) (left : Option Transfer) (renewable : Option NumberedReset) → KeepsRest e (resets_handled e answer held left renewable) (core_with e.core held)
worked_keeps e unanswered held left renewable = record { core = refl; options = refl; t1 = refl }
worked_keeps e retried held left renewable = record { core = refl; options = refl; t1 = refl }
worked_keeps e was_performed held left renewable = record { core = refl; options = refl; t1 = refl }
worked_keeps e has_failed held left renewable = record { core = refl; options = refl; t1 = refl }

-- by what is held of the peer
abbrev ResetBy : Endpoint → (Held → Core) → Pair → Held → List ResetParameter → Outcome → Choices → Type 0
ResetBy e rebuilt my held parameters o choices =
    IsControlled e o (record { core = rebuilt (peer_part_handled my held parameters choices).held; effects = (peer_part_handled my held parameters choices).effects; following = next_chunk })

resets_at : (e : Endpoint) (rebuilt : Held → Core) (my : Pair) (held : Held) (parameters : List ResetParameter) (o : Outcome) → e.core ≡ rebuilt held
    → ((h : Held) → core_with (rebuilt held) h ≡ rebuilt h) → ((h : Held) → IsPeerTag (rebuilt h) h.peer.tag) → ((h : Held) → Rebuilds rebuilt h)
    → HandlesResets e my held parameters o → (choices : Choices) × ResetBy e rebuilt my held parameters o choices
resets_at e rebuilt my held parameters o is with peer builds turn =
    let state : RequestState = request_state e held parameters in
    let w : HandledParameters = handled_parameters_of e my held parameters in
    let brought = chunk_brings my state held parameters in
    let base : Endpoint = resets_handled e (answer_to_own held w parameters) w.held turn.left (renewable_left e held w parameters) in
    let kept = worked_keeps e (answer_to_own held w parameters) w.held turn.left (renewable_left e held w parameters) in
    let choices : Choices = choosing e state (responses_fit base w.held w.answers) turn.answers in (
      choices,
      subst (λ (x : Outcome). ResetBy e rebuilt my held parameters x choices) (sym turn.is)
          (sent_at w.is_refused e base state rebuilt w.held w.effects (reset_events_of e parameters w.effects) parameters w.answers turn.answers
          (builds w.held) (kept.core ∙ ap (λ (c : Core). core_with c w.held) is ∙ with w.held) (subst (SameOptions e.options) (sym kept.options) refl) (peer w.held) brought.are
          (told_signs _ _ w.effects brought.are) turn.allowed),
    )

-- as a turn of the association that is held
held_at : (e : Endpoint) (core : Core) (rebuilt : Held → Core) (tag : ℕ) (my : Pair) (held : Held) (parameters : List ResetParameter) (o : Outcome)
    → e.core ≡ core → core ≡ rebuilt held → ((h : Held) → core_with (rebuilt held) h ≡ rebuilt h) → ((h : Held) → IsPeerTag (rebuilt h) h.peer.tag) → ((h : Held) → Rebuilds rebuilt h)
    → ((choices : Choices) → re_config_change e.options.follow_rfc core parameters choices ≡ record { core = rebuilt (peer_part_handled my held parameters choices).held; effects = (peer_part_handled my held parameters choices).effects; following = next_chunk })
    → HandlesResets e my held parameters o → ControlledAt e core tag (re_config parameters) o
held_at e core rebuilt tag my held parameters o is here with peer builds change turn =
    let at = resets_at e rebuilt my held parameters o (is ∙ here) with peer builds turn in
    (re_config_change e.options.follow_rfc core parameters at.0, (at.0, tt, refl), subst (IsControlled e o) (sym (change at.0)) at.1)

-- the change of a chunk while the COOKIE ACK is awaited, by the option
dropped_change : (follows : Bool) (my : Pair) (held : Held) (cookie : List ℕ) (parameters : List ResetParameter) (choices : Choices) → (follows && true) ≡ true
    → no_change (cookie_echoed my held cookie) ≡ echoed_re_config_change follows my held cookie parameters choices
dropped_change true my held cookie parameters choices is_early = refl
dropped_change false my held cookie parameters choices is_early = absurd (cc)

handled_change : (follows : Bool) (my : Pair) (held : Held) (cookie : List ℕ) (parameters : List ResetParameter) (choices : Choices) → (follows && true) ≡ false
    → echoed_re_config_change follows my held cookie parameters choices ≡ echoed_re_config_change false my held cookie parameters choices
handled_change true my held cookie parameters choices is_late = absurd (cc)
handled_change false my held cookie parameters choices is_late = refl

reset_at : (e : Endpoint) (core : Core) (tag : ℕ) (parameters : List ResetParameter) (o : Outcome) → e.core ≡ core → (e.options.follow_rfc && is_cookie_echoed core) ≡ false → ResetTurn e core parameters o
    → ControlledAt e core tag (re_config parameters) o
reset_at e closed tag parameters o is is_late turn = subst (ControlledAt e closed tag (re_config parameters)) (sym turn) (no_change closed, (no_choices e false, tt, refl), still_controlled e closed is)
reset_at e (cookie_wait my) tag parameters o is is_late turn =
    subst (ControlledAt e (cookie_wait my) tag (re_config parameters)) (sym turn) (no_change (cookie_wait my), (no_choices e false, tt, refl), still_controlled e (cookie_wait my) is)
reset_at e (cookie_echoed my held cookie) tag parameters o is is_late turn =
    held_at e (cookie_echoed my held cookie) (λ h. cookie_echoed my h cookie) tag my held parameters o is refl (λ h. refl) (λ h. refl) (rebuilds_echoed my cookie)
    (λ choices. handled_change e.options.follow_rfc my held cookie parameters choices is_late) turn
reset_at e (open_in phase my held) tag parameters o is is_late turn =
    held_at e (open_in phase my held) (λ h. open_in phase my h) tag my held parameters o is refl (λ h. refl) (λ h. refl) (rebuilds_open phase my) (λ choices. refl) turn

never_early : (follows : Bool) → (follows && false) ≡ true → ⊥
never_early true is_early = absurd (cc)
never_early false is_early = absurd (cc)

-- one that is dropped
dropped_at : (e : Endpoint) (core : Core) (tag : ℕ) (parameters : List ResetParameter) → e.core ≡ core → (e.options.follow_rfc && is_cookie_echoed core) ≡ true
    → ControlledAt e core tag (re_config parameters) (still e)
dropped_at e closed tag parameters is is_early = absurd (never_early e.options.follow_rfc is_early)
dropped_at e (cookie_wait my) tag parameters is is_early = absurd (never_early e.options.follow_rfc is_early)
dropped_at e (cookie_echoed my held cookie) tag parameters is is_early = (
  no_change (cookie_echoed my held cookie),
  (no_choices e false, tt, dropped_change e.options.follow_rfc my held cookie parameters (no_choices e false) is_early),
  still_controlled e (cookie_echoed my held cookie) is,
)
dropped_at e (open_in phase my held) tag parameters is is_early = absurd (never_early e.options.follow_rfc is_early)

pub reset_controlled : (e : Endpoint) (tag : ℕ) (parameters : List ResetParameter) (o : Outcome) → ContentTurn e tag (re_config parameters) o → IsControlledChunk e tag (re_config parameters) o
reset_controlled e tag parameters o turn =
    content_where e tag (re_config parameters) o
    (λ is_early rests. subst (IsControlledChunk e tag (re_config parameters)) (sym rests) (dropped_at e e.core tag parameters refl is_early))
    (λ is_late handled. reset_at e e.core tag parameters o refl is_late handled) turn
