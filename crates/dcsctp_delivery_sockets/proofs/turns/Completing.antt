-- Which request of ours ends as performed in a turn.
use Rattle.dcsctp_spec_lemmas.specs.spec.association.Effect as effects
use Rattle.std.proofs.Common.{◌≡◌, ◌⊎◌, inl, inr, ℕ, Bool, true, false, cond, Option, None, Some, List, [], ◌∷◌, ◌++◌, map, refl, sym, ◌∙◌, ap, subst}
use Rattle.std.proofs.lemmas.Bool.{eqb-true}
use Rattle.dcsctp_spec_lemmas.specs.wire.declared.reconfiguration.ReconfigurationResponseResult.{ReconfigurationResponseResult}
use Rattle.dcsctp_spec_lemmas.specs.wire.declared.reconfiguration.ReconfigurationResponseResult.TheVariants.{SuccessNothingToDo, SuccessPerformed, Denied, ErrorWrongSSN, ErrorRequestAlreadyInProgress, ErrorBadSequenceNumber, InProgress}
use Rattle.dcsctp_spec_lemmas.specs.types.declared.association.Pair.{Pair}
use Rattle.dcsctp_spec_lemmas.specs.types.declared.association.Held.{Held}
use Rattle.dcsctp_spec_lemmas.specs.types.declared.word.Word.{Word}
use Rattle.dcsctp_spec_lemmas.specs.types.declared.word.Word.TheVariants.{U32}
use Rattle.dcsctp_spec_lemmas.specs.spec.Reconfiguration.{RequestState, early, due, renewed, ResetParameter, outgoing_reset_request, incoming_reset_request, reconfiguration_response, other_reset_parameter}
use Rattle.dcsctp_spec_lemmas.specs.spec.Packet.{Introduction, Content, init, init_ack, cookie_echo, cookie_ack, re_config, abort, shutdown, shutdown_ack, shutdown_complete, plain, Emission}
use Rattle.dcsctp_spec_lemmas.specs.spec.endpoint.Endpoint.{Endpoint, Core, OutstandingRequest, closed, cookie_wait, cookie_echoed, open_in, established, shutdown_pending, shutdown_sent, shutdown_received, shutdown_ack_sent, with_secret, secret_with}
use Rattle.dcsctp_spec_lemmas.specs.spec.endpoint.Event.{Event, streams_reset_performed}
use Rattle.dcsctp_spec_lemmas.specs.spec.endpoint.Outcome.{Outcome, quiet, sends, fits, emits, to_peer}
use Rattle.dcsctp_spec_runs.specs.Past.{HasEffect}
use Rattle.dcsctp_spec_lemmas.specs.spec.association.Controlled.{IsControlledChunk, IsControlledAct}
use Rattle.dcsctp_spec_lemmas.specs.spec.endpoint.Turn.{Input, arrival, refusal, packet_begins, chunk_input, packet_ends, act_input, user_sets, user_sends, user_resets, user_takes, timer_expires, time_passes, restores, has_data_chunk, ContentTurn, Turn}
use Rattle.dcsctp_spec_lemmas.specs.spec.association.Acts.{Act, shutdown_repeats, flushes}
use Rattle.dcsctp_spec_lemmas.specs.spec.association.Effect.{Effect, Change, identity_of, identity_of_core}
use Rattle.dcsctp_spec_lemmas.specs.spec.association.ResetChanges.{RequestPlace, again, next, astray, request_place, performed_request, repeated_request_outcome, next_request, is_due, outgoing_by_place, incoming_by_place, result_if_outstanding, is_outstanding, HandledParameters, parameters_outcome, reset_chunk_outcome}
use Rattle.dcsctp_spec_lemmas.specs.spec.endpoint.BegunResets.{BegunReset, begun_effects, stream_field}
use Rattle.dcsctp_spec_lemmas.specs.spec.endpoint.FlushOutcomes.{Answer, draft_to, first_ask, packets_allowed}
use Rattle.dcsctp_spec_lemmas.specs.spec.endpoint.HandshakeOutcomes.{pair_from, renewed_pair, renewed_pair_outcome, init_ack_emission, init_outcome}
use Rattle.dcsctp_spec_lemmas.specs.spec.endpoint.OwnTimers.{timer_act}
use Rattle.dcsctp_spec_lemmas.specs.spec.endpoint.ReconfigurationOutcomes.{reset_again}
use Rattle.dcsctp_spec_lemmas.specs.spec.endpoint.ResetOutcomes.{first_reset_request, their_streams, own_streams, request_state, renewable_left, handled_parameters_of, answer_to_own, reset_events_of, resets_handled, responses_outcome, responses_unless_refused, ResponseAnswers, HandlesResets, ResetTurn}
use Rattle.dcsctp_spec_lemmas.proofs.ControlEcho.{cookie_echo_controlled}
use Rattle.dcsctp_spec_lemmas.proofs.ControlHandshake.{init_ack_controlled, cookie_ack_controlled, abort_controlled}
use Rattle.dcsctp_spec_laws.proofs.ControlLemmas.{begin_stands, acts_are_controlled}
use Rattle.dcsctp_spec_laws.proofs.DataLemmas.{flushed_act, end_at, send_at, resets_at, take_at}
use Rattle.dcsctp_spec_lemmas.proofs.FlushKeeps.{begun_by, flush_keeps}
use Rattle.dcsctp_spec_lemmas.proofs.OneAnswerLemmas.{init_by}
use Rattle.dcsctp_spec_laws.proofs.HeartbeatLemmas.{timer_controlled}
use Rattle.dcsctp_spec_laws.proofs.PlainLemmas.{plain_controlled}
use Rattle.dcsctp_spec_laws.proofs.HeardShutdownLemmas.{shutdown_controlled}
use Rattle.dcsctp_spec_laws.proofs.ShutdownLemmas.{shutdown_ack_controlled, shutdown_complete_controlled}
use Rattle.dcsctp_theorem_association.proofs.AnswerEndsTurns.{answers_end_requests}
use Rattle.dcsctp_theorem_association.specs.OneSide.{parameters_of_content, IsSuccess, HasResponse}
use Rattle.dcsctp_theorem_sockets.proofs.OneSocket.{noted_happened}
use Rattle.dcsctp_delivery_sockets.specs.turns.Actions.{IsCall}
use Rattle.dcsctp_delivery_sockets.specs.turns.Asking.{own_with, own_of, own_of_core}
use Rattle.dcsctp_delivery_sockets.specs.turns.Completing.{EndsOwn, CompletesOwn}
use Rattle.dcsctp_delivery_directions.specs.sending.Places.{HasEntry}
use Rattle.dcsctp_delivery_sockets.proofs.turns.Telling.{own_told, sent_tell}
use Rattle.dcsctp_delivery_sockets.proofs.turns.Performed.{outgoing_out, incoming_out}
use Rattle.dcsctp_spec_lemmas.proofs.EarlyLemmas.{content_by}

-- ---- effects one after another

has_either : (effect : Effect) (first later : List Effect) → HasEffect effect (first ++ later) → HasEffect effect first ⊎ HasEffect effect later
has_either effect [] later has = inr has
has_either effect (newest ∷ first) later (inl is) = inl (inl is)
has_either effect (newest ∷ first) later (inr has) =
    elim (has_either effect first later has) [
      | inl front ↦ inl (inr front)
      | inr behind ↦ inr behind
    ]

module _ (my : Pair) (number : ℕ) where
  abbrev Completed : List Effect → Type 0
  Completed happened = HasEffect (effects.completes my number) happened

  one_none : (effect : Effect) → (effects.completes my number ≡ effect → ⊥) → Completed (effect ∷ []) → ⊥
  one_none effect other (inl is) = other is
  one_none effect other (inr has) = has

  begun_none : (begun : Option BegunReset) → Completed (begun_effects begun) → ⊥
  begun_none None has = has
  begun_none (Some begun) has = one_none (effects.begins begun.number) (λ is. absurd (cc)) has

  -- ---- the peer's requests

  worked_none : (held : Held) (asked : ℕ) (reached : Bool) → Completed (performed_request held asked reached).effects → ⊥
  worked_none held asked true has = one_none (effects.performs held.peer asked) (λ is. absurd (cc)) has
  worked_none held asked false has = has

  repeated_none : (held : Held) (result : ReconfigurationResponseResult) (reached : Bool) → Completed (repeated_request_outcome held result reached).effects → ⊥
  repeated_none held SuccessNothingToDo reached has = has
  repeated_none held SuccessPerformed reached has = has
  repeated_none held Denied reached has = has
  repeated_none held ErrorWrongSSN reached has = has
  repeated_none held ErrorRequestAlreadyInProgress reached has = has
  repeated_none held ErrorBadSequenceNumber reached has = has
  repeated_none held InProgress reached has = worked_none held held.peer_last reached has

  next_none : (held : Held) (asked : ℕ) (state : RequestState) → Completed (next_request held asked state).effects → ⊥
  next_none held asked early has = has
  next_none held asked due has = worked_none held asked true has
  next_none held asked renewed has = one_none (effects.renews held.peer asked) (λ is. absurd (cc)) has

  outgoing_none : (held : Held) (asked : ℕ) (state : RequestState) (place : RequestPlace) → Completed (outgoing_by_place held asked state place).effects → ⊥
  outgoing_none held asked state again has = repeated_none held held.peer_result (is_due state) has
  outgoing_none held asked state next (inl is) = absurd (cc)
  outgoing_none held asked state next (inr has) = next_none held asked state has
  outgoing_none held asked state astray has = has

  incoming_none : (held : Held) (asked : ℕ) (place : RequestPlace) → Completed (incoming_by_place held asked place).effects → ⊥
  incoming_none held asked again has = has
  incoming_none held asked next has = one_none (effects.accepts asked) (λ is. absurd (cc)) has
  incoming_none held asked astray has = has

  -- ---- the peer's answers

  -- The request that ends is under this own pair, and was this one.
  abbrev Ends : Pair → Option ℕ → Type 0
  Ends own out = (own ≡ my) × (out ≡ Some number)

  out_is : (answered : ℕ) (out : Option ℕ) → is_outstanding answered out ≡ true → out ≡ Some answered
  out_is answered None is = absurd (cc)
  out_is answered (Some own) is = ap (λ (n : ℕ). Some n) (sym (eqb-true answered own is))

  said_ends : (own : Pair) (answered : ℕ) (out : Option ℕ) → out ≡ Some answered → Completed (effects.completes own answered ∷ []) → Ends own out
  said_ends own answered out is (inl same) =
      let pairs : own ≡ my = cc in
      let numbers : answered ≡ number = cc in
      (pairs, is ∙ ap (λ (n : ℕ). Some n) numbers)
  said_ends own answered out is (inr has) = absurd has

  informed_ends : (own : Pair) (held : Held) (answered : ℕ) (result : ReconfigurationResponseResult) (b : Bool) → is_outstanding answered held.own_outstanding ≡ b
      → Completed (result_if_outstanding own held answered result b).effects → Ends own held.own_outstanding
  informed_ends own held answered result false is has = absurd has
  informed_ends own held answered SuccessNothingToDo true is has = said_ends own answered held.own_outstanding (out_is answered held.own_outstanding is) has
  informed_ends own held answered SuccessPerformed true is has = said_ends own answered held.own_outstanding (out_is answered held.own_outstanding is) has
  informed_ends own held answered Denied true is has = absurd (one_none (effects.fails answered) (λ same. absurd (cc)) has)
  informed_ends own held answered ErrorWrongSSN true is has = absurd (one_none (effects.fails answered) (λ same. absurd (cc)) has)
  informed_ends own held answered ErrorRequestAlreadyInProgress true is has = absurd (one_none (effects.fails answered) (λ same. absurd (cc)) has)
  informed_ends own held answered ErrorBadSequenceNumber true is has = absurd (one_none (effects.fails answered) (λ same. absurd (cc)) has)
  informed_ends own held answered InProgress true is has = absurd has

  -- What has no end after an answer had none before it.
  informed_out : (own : Pair) (held : Held) (answered : ℕ) (result : ReconfigurationResponseResult) (b : Bool) → (result_if_outstanding own held answered result b).held.own_outstanding ≡ Some number
      → held.own_outstanding ≡ Some number
  informed_out own held answered result false is = is
  informed_out own held answered SuccessNothingToDo true is = absurd (cc)
  informed_out own held answered SuccessPerformed true is = absurd (cc)
  informed_out own held answered Denied true is = absurd (cc)
  informed_out own held answered ErrorWrongSSN true is = absurd (cc)
  informed_out own held answered ErrorRequestAlreadyInProgress true is = absurd (cc)
  informed_out own held answered ErrorBadSequenceNumber true is = absurd (cc)
  informed_out own held answered InProgress true is = is

  parameters_end : (own : Pair) (state : RequestState) (has_worked : Bool) (held : Held) (parameters : List ResetParameter) → Completed (parameters_outcome own state has_worked held parameters).effects
      → Ends own held.own_outstanding
  parameters_end own state has_worked held [] has = absurd has
  parameters_end own state true held (outgoing_reset_request asked answered reset ∷ parameters) has = absurd has
  parameters_end own state false held (outgoing_reset_request asked answered reset ∷ parameters) has =
      let first = outgoing_by_place held asked state (request_place held.peer_last asked) in
      elim (has_either (effects.completes my number) first.effects (parameters_outcome own state true first.held parameters).effects has) [
        | inl front ↦ absurd (outgoing_none held asked state (request_place held.peer_last asked) front)
        | inr behind ↦
            (let later : Ends own first.held.own_outstanding = parameters_end own state true first.held parameters behind in
            (later.0, sym (outgoing_out held asked state (request_place held.peer_last asked)) ∙ later.1))
      ]
  parameters_end own state has_worked held (incoming_reset_request asked streams ∷ parameters) has =
      let first = incoming_by_place held asked (request_place held.peer_last asked) in
      elim (has_either (effects.completes my number) first.effects (parameters_outcome own state has_worked first.held parameters).effects has) [
        | inl front ↦ absurd (incoming_none held asked (request_place held.peer_last asked) front)
        | inr behind ↦
            (let later : Ends own first.held.own_outstanding = parameters_end own state has_worked first.held parameters behind in
            (later.0, sym (incoming_out held asked (request_place held.peer_last asked)) ∙ later.1))
      ]
  parameters_end own state has_worked held (reconfiguration_response answered result ∷ parameters) has =
      let first = result_if_outstanding own held answered result (is_outstanding answered held.own_outstanding) in
      elim (has_either (effects.completes my number) first.effects (parameters_outcome own state has_worked first.held parameters).effects has) [
        | inl front ↦ informed_ends own held answered result (is_outstanding answered held.own_outstanding) refl front
        | inr behind ↦
            (let later : Ends own first.held.own_outstanding = parameters_end own state has_worked first.held parameters behind in
            (later.0, informed_out own held answered result (is_outstanding answered held.own_outstanding) later.1))
      ]
  parameters_end own state has_worked held (other_reset_parameter parameter ∷ parameters) has = parameters_end own state has_worked held parameters has

  chunk_ends : (own : Pair) (state : RequestState) (held : Held) (parameters : List ResetParameter) → Completed (reset_chunk_outcome own state held parameters).effects → Ends own held.own_outstanding
  chunk_ends own state held [] has = absurd has
  chunk_ends own state held (parameter ∷ parameters) has = parameters_end own state false held (parameter ∷ parameters) has

  -- ---- the turn of RE-CONFIG

  -- The flush after it ends none.
  sent_none : (refused : Bool) (e : Endpoint) (told : List (Event Emission)) (held : Held) (parameters responses : List ResetParameter) (answers : List Answer) → ResponseAnswers refused e held responses answers
      → Completed (responses_unless_refused refused e told held parameters responses answers).effects → ⊥
  sent_none true e told held parameters responses answers allowed has = has
  sent_none false e told held parameters responses answers allowed has =
      let base : Endpoint = (responses_outcome e held responses).after in
      begun_none (begun_by answers) (subst Completed (flush_keeps first_ask (packets_allowed base.options.max_burst base.core) base (draft_to held) answers allowed).effects has)

  -- Its streams are our request's.
  told_are : (request : Option OutstandingRequest) (streams : List ℕ) → streams ≡ own_streams request → (reset_again request).streams ≡ map stream_field streams
  told_are None streams is = ap (map stream_field) (sym is)
  told_are (Some request) streams is = ap (map stream_field) (sym is)

  works_ends : (e : Endpoint) (own : Pair) (held : Held) (parameters : List ResetParameter) (o : Outcome) → identity_of_core e.core ≡ Some (identity_of own held) → own_of e ≡ Some (own_with held e.outstanding)
      → HandlesResets e own held parameters o → Completed o.effects → EndsOwn e o my number
  works_ends e own held parameters o linked kept turn has =
      let w : HandledParameters = handled_parameters_of e own held parameters in
      let state : RequestState = request_state e held parameters in
      let base : Endpoint = resets_handled e (answer_to_own held w parameters) w.held turn.left (renewable_left e held w parameters) in
      let last : Outcome = responses_unless_refused w.is_refused base (reset_events_of e parameters w.effects) w.held parameters w.answers turn.answers in
      let happened : Completed (w.effects ++ last.effects) = subst (λ (x : Outcome). Completed x.effects) turn.is has in
      let ends : Ends own held.own_outstanding =
      elim (has_either (effects.completes my number) w.effects last.effects happened) [
        | inl front ↦ chunk_ends own state held parameters front
        | inr behind ↦ absurd (sent_none w.is_refused base (reset_events_of e parameters w.effects) w.held parameters w.answers turn.answers turn.allowed behind)
      ] in
      record {
        link = identity_of own held;
        linked = linked;
        mine = ends.0;
        own = own_with held e.outstanding;
        kept = kept;
        outstanding = ends.1;
        told = λ streams shown. told_are e.outstanding streams
            (own_told streams (their_streams (first_reset_request parameters)) (own_streams e.outstanding) w.effects
            (sent_tell (streams_reset_performed streams) refl w.is_refused base (reset_events_of e parameters w.effects) w.held parameters w.answers turn.answers (subst (λ (x : Outcome). HasEntry (streams_reset_performed streams) x.events) turn.is shown)));
      }

  reset_ends : (e : Endpoint) (core : Core) (parameters : List ResetParameter) (o : Outcome) → e.core ≡ core → ResetTurn e core parameters o → Completed o.effects → EndsOwn e o my number
  reset_ends e closed parameters o same turn has = absurd (subst (λ (x : Outcome). Completed x.effects) turn has)
  reset_ends e (cookie_wait own) parameters o same turn has = absurd (subst (λ (x : Outcome). Completed x.effects) turn has)
  reset_ends e (cookie_echoed own held cookie) parameters o same turn has =
      works_ends e own held parameters o (ap identity_of_core same) (ap (λ (c : Core). own_of_core c e.outstanding) same) turn has
  reset_ends e (open_in phase own held) parameters o same turn has =
      works_ends e own held parameters o (ap identity_of_core same) (ap (λ (c : Core). own_of_core c e.outstanding) same) turn has

  -- ---- the other turns

  by_chunk : (e : Endpoint) (tag : ℕ) (content : Content) (o : Outcome) → IsControlledChunk e tag content o → Completed o.effects → HasResponse IsSuccess number (parameters_of_content content)
  by_chunk e tag content o turn has =
      answers_end_requests.completed e.options e.core tag content turn.1.0 my number
      (subst (λ (c : Change). Completed c.effects) turn.1.2 (noted_happened (effects.completes my number) turn.0.effects (subst Completed turn.2.effects has)))

  by_act : (e : Endpoint) (act : Act) (o : Outcome) → IsControlledAct e act o → Completed o.effects → ⊥
  by_act e act o turn has = answers_end_requests.none_completed e.options e.core act turn.0 my number (noted_happened (effects.completes my number) _ (subst Completed turn.1.effects has))

  same_none : (o other : Outcome) → o ≡ other → (Completed other.effects → ⊥) → Completed o.effects → ⊥
  same_none o other is none has = none (subst (λ (x : Outcome). Completed x.effects) is has)

  drawn_before : (pair : Pair) (happened : List Effect) → (Completed happened → ⊥) → Completed (effects.draws pair ∷ happened) → ⊥
  drawn_before pair happened none (inl is) = absurd (cc)
  drawn_before pair happened none (inr has) = none has

  packet_none : (b : Bool) (e : Endpoint) (words : List Word) (emission : Emission) → Completed (cond b (sends e words [] emission) (quiet e words [])).effects → ⊥
  packet_none true e words emission has = has
  packet_none false e words emission has = has

  emits_none : (e : Endpoint) (words : List Word) (emission : Emission) → Completed (emits e words emission).effects → ⊥
  emits_none e words emission has = packet_none (fits e emission) e words emission has

  renewed_none : (e : Endpoint) (theirs : Introduction) (word : ℕ) → Completed (renewed_pair_outcome e theirs word).effects → ⊥
  renewed_none e theirs word has = drawn_before _ _ (emits_none e (U32 word ∷ []) (init_ack_emission e theirs (renewed_pair e word) e.tie)) has

  init_none : (e : Endpoint) (theirs : Introduction) (core : Core) (word later : ℕ) → Completed (init_outcome e theirs core word later).effects → ⊥
  init_none e theirs closed word later has = drawn_before _ _ (emits_none (with_secret e (pair_from word later)) (U32 word ∷ U32 later ∷ []) (init_ack_emission (with_secret e (pair_from word later)) theirs (pair_from word later) (secret_with e (pair_from word later)))) has
  init_none e theirs (cookie_wait own) word later has = emits_none e [] (init_ack_emission e theirs own e.secret) has
  init_none e theirs (cookie_echoed own held cookie) word later has = emits_none e [] (init_ack_emission e theirs own e.secret) has
  init_none e theirs (open_in established own held) word later has = renewed_none e theirs word has
  init_none e theirs (open_in shutdown_pending own held) word later has = renewed_none e theirs word has
  init_none e theirs (open_in shutdown_sent own held) word later has = renewed_none e theirs word has
  init_none e theirs (open_in shutdown_received own held) word later has = renewed_none e theirs word has
  init_none e theirs (open_in shutdown_ack_sent own held) word later has = emits_none e [] (to_peer held shutdown_ack) has

  content_ends : (e : Endpoint) (tag : ℕ) (content : Content) (o : Outcome) → ContentTurn e tag content o → Completed o.effects → EndsOwn e o my number
  content_ends e tag (init theirs) o turn has =
      absurd (same_none o _ turn.2
      (init_by (λ (x : Outcome). Completed x.effects → ⊥) e theirs turn.0 turn.1 (λ none. none) (init_none e theirs e.core turn.0 turn.1)) has)
  content_ends e tag (init_ack theirs cookie) o turn has = absurd (by_chunk e tag (init_ack theirs cookie) o (init_ack_controlled e tag theirs cookie o turn) has)
  content_ends e tag (cookie_echo cookie) o turn has = absurd (by_chunk e tag (cookie_echo cookie) o (cookie_echo_controlled e tag cookie o turn) has)
  content_ends e tag cookie_ack o turn has = absurd (by_chunk e tag cookie_ack o (cookie_ack_controlled e tag o turn) has)
  content_ends e tag (re_config parameters) o turn has =
      content_by e tag (re_config parameters) o (λ dropped. absurd (same_none o _ dropped (λ h. h) has)) (λ handled. reset_ends e e.core parameters o refl handled has) turn
  content_ends e tag (abort reflected causes) o turn has = absurd (by_chunk e tag (abort reflected causes) o (abort_controlled e tag reflected causes o turn) has)
  content_ends e tag (shutdown tsn) o turn has = absurd (by_chunk e tag (shutdown tsn) o (shutdown_controlled e tag tsn o turn) has)
  content_ends e tag shutdown_ack o turn has = absurd (by_chunk e tag shutdown_ack o (shutdown_ack_controlled e tag o turn) has)
  content_ends e tag (shutdown_complete reflected) o turn has = absurd (by_chunk e tag (shutdown_complete reflected) o (shutdown_complete_controlled e tag reflected o turn) has)
  content_ends e tag (plain chunk) o turn has = absurd (by_chunk e tag (plain chunk) o (plain_controlled e tag chunk o turn) has)

  turn_ends : (e : Endpoint) (input : Input) (o : Outcome) → IsCall input → Turn e input o → Completed o.effects → EndsOwn e o my number
  turn_ends e arrival o may turn has = absurd (same_none o _ turn (λ h. h) has)
  turn_ends e (refusal text) o may turn has = absurd (same_none o _ turn (λ h. h) has)
  turn_ends e (packet_begins contents) o may turn has =
      elim (begin_stands e e.core (has_data_chunk e.options.follow_rfc contents) o refl turn) [
        | inl stays ↦ absurd (same_none o _ stays (λ h. h) has)
        | inr acts ↦ absurd (by_act e shutdown_repeats o acts has)
      ]
  turn_ends e (chunk_input tag content) o may turn has = content_ends e tag content o turn has
  turn_ends e packet_ends o may turn has = absurd (by_act e flushes o (flushed_act e o (end_at e e.queues.transfer o turn)) has)
  turn_ends e (act_input act) o may turn has = absurd (by_act e act o (acts_are_controlled e act o turn) has)
  turn_ends e (user_sets setting) o may turn has = absurd (same_none o _ turn (λ h. h) has)
  turn_ends e (user_sends messages) o may turn has = absurd (by_act e flushes o (flushed_act e o (send_at e messages o turn)) has)
  turn_ends e (user_resets ids) o may turn has = absurd (by_act e flushes o (flushed_act e o (resets_at e ids o turn)) has)
  turn_ends e user_takes o may turn has = absurd (by_act e flushes o (flushed_act e o (take_at e e.queues.transfer o turn)) has)
  turn_ends e (timer_expires timer) o may turn has = absurd (by_act e (timer_act e timer) o (timer_controlled e timer o turn) has)
  turn_ends e (time_passes moment) o may turn has = absurd (same_none o _ turn (λ h. h) has)
  turn_ends e (restores state) o may turn has = absurd may

pub completes_own : CompletesOwn
completes_own e input o my number may turn has = turn_ends my number e input o may turn has
