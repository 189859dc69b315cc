-- Each turn tells the user of the resets that it performs, or told it of them before.
use Rattle.dcsctp_spec_lemmas.specs.spec.association.Effect as effects
use Rattle.std.proofs.Common.{◌≡◌, ◌==◌, ◌⊎◌, inl, inr, ℕ, Bool, true, false, if◌then◌else◌, Option, None, Some, List, [], ◌∷◌, ◌++◌, length, take, refl, sym, ◌∙◌, ap, subst, arith}
use Rattle.std.specs.Prelude.{◌&&◌, not}
use Rattle.std.specs.Str.{bytes_eq}
use Rattle.std.proofs.lemmas.Bool.Decides.{Decides-eqb}
use Rattle.std.proofs.lemmas.Slice.Eq.{bytes_eq-Decides}
use Rattle.std.proofs.lemmas.List.{take_all}
use Rattle.dcsctp_spec_lemmas.specs.wire.declared.reconfiguration.ReconfigurationResponseResult.{ReconfigurationResponseResult}
use Rattle.dcsctp_spec_lemmas.specs.wire.declared.reconfiguration.ReconfigurationResponseResult.TheVariants.{SuccessNothingToDo, SuccessPerformed, Denied, ErrorWrongSSN, ErrorRequestAlreadyInProgress, ErrorBadSequenceNumber, InProgress}
use Rattle.dcsctp_spec_lemmas.specs.types.declared.association.Held.{Held}
use Rattle.dcsctp_spec_lemmas.specs.types.declared.association.Pair.{Pair}
use Rattle.dcsctp_spec_lemmas.specs.spec.Packet.{Content, re_config}
use Rattle.dcsctp_spec_lemmas.specs.spec.Reconfiguration.{RequestedReset, renewed_reset, NumberedReset, RequestState, early, due, renewed, ResetParameter, outgoing_reset_request, number_answered}
use Rattle.dcsctp_spec_lemmas.specs.spec.association.Effect.{AssociationIdentity, Effect, identity_of, identity_of_core}
use Rattle.dcsctp_spec_lemmas.specs.spec.association.FlushChanges.{next_number}
use Rattle.dcsctp_spec_lemmas.specs.spec.association.ResetChanges.{RequestPlace, again, next, astray, request_place, repeated_request_outcome, is_due, outgoing_by_place, HandledParameters}
use Rattle.dcsctp_spec_lemmas.specs.spec.endpoint.BegunResets.{BegunReset, begun_effects}
use Rattle.dcsctp_spec_lemmas.specs.spec.endpoint.Endpoint.{Endpoint, Core, closed, cookie_wait, cookie_echoed, open_in}
use Rattle.dcsctp_spec_lemmas.specs.spec.endpoint.Event.{incoming_stream_reset}
use Rattle.dcsctp_spec_lemmas.specs.spec.endpoint.Outcome.{Outcome}
use Rattle.dcsctp_spec_lemmas.specs.spec.endpoint.ResetOutcomes.{first_reset_request, is_request_reached, is_same_list, is_same_reset, is_renewal, state_if_renewed, request_state, renewable_after, renewable_left, has_reset, handled_parameters_of, answer_to_own, own_streams, reset_events_of, resets_handled, HandlesResets, ResetTurn}
use Rattle.dcsctp_spec_lemmas.specs.spec.endpoint.Turn.{Input, chunk_input, Turn}
use Rattle.dcsctp_spec_lemmas.proofs.EarlyLemmas.{content_by}
use Rattle.dcsctp_spec_runs.specs.Past.{HasEffect, WasPerformed}
use Rattle.dcsctp_delivery_directions.specs.sending.Places.{HasEntry}
use Rattle.dcsctp_delivery_sockets.specs.turns.Actions.{content_of_input, IsCall}
use Rattle.dcsctp_delivery_sockets.specs.turns.PeerRequests.{NoneAsked, IsPlainRequest}
use Rattle.dcsctp_delivery_sockets.specs.turns.ToldResets.{IsReportedReset, ReportsResets, TurnsReportResets}
use Rattle.dcsctp_delivery_sockets.proofs.turns.PeerRequests.{answers_ask, works_of, works_renewable}
use Rattle.dcsctp_delivery_sockets.proofs.turns.PeersTurns.{Handles, calmly, handles, input_handles}
use Rattle.dcsctp_delivery_sockets.proofs.turns.Telling.{entry_either, their_told, told_first}
use Rattle.dcsctp_delivery_sockets.proofs.turns.UnaskedHandshake.{CalmTurns, goes_on, begins, collides}
use Rattle.dcsctp_delivery_sockets.proofs.turns.UnaskedTurns.{calm_turns}
use Rattle.dcsctp_delivery_sockets.proofs.turns.Waiting.{StaysOrNone, as_this, rests}

-- ---- a turn that performs none

none_performed : (happened : List Effect) (peer : Pair) (number : ℕ) → NoneAsked happened → WasPerformed peer number happened → ⊥
none_performed [] peer number none (inl has) = has
none_performed [] peer number none (inr has) = has
none_performed (effects.performs its other ∷ happened) peer number none has = none
none_performed (effects.renews its other ∷ happened) peer number none has = none
none_performed (effects.accepts other ∷ happened) peer number none has = none
none_performed (effects.resumes link own last ∷ happened) peer number none has = none
none_performed (effect ∷ happened) peer number none (inl (inl is)) = absurd (cc)
none_performed (effect ∷ happened) peer number none (inl (inr has)) = none_performed happened peer number none (inl has)
none_performed (effect ∷ happened) peer number none (inr (inl is)) = absurd (cc)
none_performed (effect ∷ happened) peer number none (inr (inr has)) = none_performed happened peer number none (inr has)

still_renewable : (e : Endpoint) (o : Outcome) (old : NumberedReset) → StaysOrNone e.renewable o.after.renewable → o.after.renewable ≡ Some old → IsReportedReset e o old.reset.streams
still_renewable e o old (inl same) is = inr (old, sym same ∙ is, refl)
still_renewable e o old (inr none) is = absurd (cc)

told_nothing : (e : Endpoint) (input : Input) (o : Outcome) → NoneAsked o.effects → StaysOrNone e.renewable o.after.renewable → ReportsResets e input o
told_nothing e input o none stays =
    record { performed = λ peer number has. absurd (none_performed o.effects peer number none has); each_told = λ plainly peer number has. absurd (none_performed o.effects peer number none has); renewable = λ old is. still_renewable e o old stays is }

calm_tells : (e : Endpoint) (input : Input) (o : Outcome) → CalmTurns (content_of_input input) e o → ReportsResets e input o
calm_tells e input o (goes_on asks) = told_nothing e input o asks.none asks.renews
calm_tells e input o (begins begun opening linked asks) = told_nothing e input o asks.none asks.renews
calm_tells e input o (collides collision asks) = told_nothing e input o asks.none asks.renews

-- ---- a request that comes again

second_is : (b c : Bool) → (b && c) ≡ true → c ≡ true
second_is true c is = is
second_is false c is = absurd (cc)

first_is : (b c : Bool) → (b && c) ≡ true → b ≡ true
first_is true c is = refl
first_is false c is = absurd (cc)

same_list : (xs ys : List ℕ) → is_same_list xs ys ≡ true → xs ≡ ys
same_list xs ys is =
    let long : length xs ≡ length ys = (Decides-eqb (length xs) (length ys)).0 (first_is (length xs == length ys) (bytes_eq ys (take (length ys) xs)) is) in
    let same : ys ≡ take (length ys) xs = (bytes_eq-Decides ys (take (length ys) xs)).0 (second_is (length xs == length ys) (bytes_eq ys (take (length ys) xs)) is) in
    sym (same ∙ take_all (length ys) xs (omega (arith, long)))

module _ (last number : ℕ) (reset : RequestedReset) where
  renewal_is : (found : Option NumberedReset) → is_renewal found last (Some number) (Some reset) ≡ true → (old : NumberedReset) × (found ≡ Some old) × (old.reset.streams ≡ reset.streams)
  renewal_is None is = absurd (cc)
  renewal_is (Some old) is =
      let same : is_same_reset old.reset reset ≡ true =
      second_is (not reset.is_new) _ (second_is (number == next_number last) _ (second_is (old.number == last) _ is)) in
      (old, refl, same_list old.reset.streams reset.streams (second_is (old.reset.last_tsn == reset.last_tsn) _ same))

state_where : (reached is_same : Bool) → (if reached then state_if_renewed is_same else early) ≡ renewed → is_same ≡ true
state_where true true is = refl
state_where true false is = absurd (cc)
state_where false is_same is = absurd (cc)

-- ---- one request

module _ (e : Endpoint) (my : Pair) (held : Held) (number : ℕ) (reset : RequestedReset) (o : Outcome) where
  abbrev the_request : List ResetParameter
  the_request = outgoing_reset_request number (number_answered number reset.is_new) reset ∷ []

  -- That needs the option.
  follows_then : request_state e held the_request ≡ renewed → e.options.follow_rfc ≡ true
  follows_then is = first_is e.options.follow_rfc _ (state_where (is_request_reached e.queues.transfer (Some reset)) (e.options.follow_rfc && is_renewal e.renewable held.peer_last (Some number) (Some reset)) is)

  came_again : request_state e held the_request ≡ renewed → IsReportedReset e o reset.streams
  came_again is =
      let found = state_where (is_request_reached e.queues.transfer (Some reset)) (e.options.follow_rfc && is_renewal e.renewable held.peer_last (Some number) (Some reset)) is in
      inr (renewal_is held.peer_last number reset e.renewable (second_is e.options.follow_rfc _ found))

  -- A request is found to be the one before only where it is.
  none_again : (peer : Pair) (its : ℕ) (result : ReconfigurationResponseResult) (reached : Bool) → HasEffect (effects.renews peer its) ((repeated_request_outcome held result reached).effects ++ []) → ⊥
  none_again peer its SuccessNothingToDo reached has = has
  none_again peer its SuccessPerformed reached has = has
  none_again peer its Denied reached has = has
  none_again peer its ErrorWrongSSN reached has = has
  none_again peer its ErrorRequestAlreadyInProgress reached has = has
  none_again peer its ErrorBadSequenceNumber reached has = has
  none_again peer its InProgress true (inl is) = absurd (cc)
  none_again peer its InProgress true (inr has) = has
  none_again peer its InProgress false has = has

  renews_where : (peer : Pair) (its : ℕ) (place : RequestPlace) (state : RequestState) → HasEffect (effects.renews peer its) ((outgoing_by_place held number state place).effects ++ []) → state ≡ renewed
  renews_where peer its again state has = absurd (none_again peer its held.peer_result (is_due state) has)
  renews_where peer its next renewed has = refl
  renews_where peer its next due (inl is) = absurd (cc)
  renews_where peer its next due (inr (inl is)) = absurd (cc)
  renews_where peer its next due (inr (inr has)) = absurd has
  renews_where peer its next early (inl is) = absurd (cc)
  renews_where peer its next early (inr has) = absurd has
  renews_where peer its astray state has = absurd has

  begun_none : (begun : Option BegunReset) (peer : Pair) (its : ℕ) → WasPerformed peer its (begun_effects begun) → ⊥
  begun_none None peer its (inl has) = has
  begun_none None peer its (inr has) = has
  begun_none (Some begun) peer its (inl (inl is)) = absurd (cc)
  begun_none (Some begun) peer its (inl (inr has)) = has
  begun_none (Some begun) peer its (inr (inl is)) = absurd (cc)
  begun_none (Some begun) peer its (inr (inr has)) = has

  module _ (turn : HandlesResets e my held the_request o) where
    abbrev worked : HandledParameters
    worked = handled_parameters_of e my held the_request

    event_told : HasEntry (incoming_stream_reset reset.streams) (reset_events_of e the_request worked.effects) → HasEntry (incoming_stream_reset reset.streams) o.events
    event_told has =
        subst (λ (x : Outcome). HasEntry (incoming_stream_reset reset.streams) x.events) (sym turn.is)
        (told_first (incoming_stream_reset reset.streams) worked.is_refused (resets_handled e (answer_to_own held worked the_request) worked.held turn.left (renewable_left e held worked the_request)) (reset_events_of e the_request worked.effects)
        worked.held the_request worked.answers turn.answers has)

    worked_told : (peer : Pair) (its : ℕ) → WasPerformed peer its worked.effects → IsReportedReset e o reset.streams
    worked_told peer its (inl has) = inl (event_told (their_told reset.streams (own_streams e.outstanding) peer its worked.effects has))
    worked_told peer its (inr has) = came_again (renews_where peer its (request_place held.peer_last number) (request_state e held the_request) has)

    performed_told : (peer : Pair) (its : ℕ) → WasPerformed peer its o.effects → IsReportedReset e o reset.streams
    performed_told peer its (inl has) =
        let works = works_of e my held the_request o turn in
        elim (entry_either (effects.performs peer its) worked.effects (begun_effects works.begun) (subst (HasEffect (effects.performs peer its)) works.is has)) [
          | inl front ↦ worked_told peer its (inl front)
          | inr behind ↦ absurd (begun_none works.begun peer its (inl behind))
        ]
    performed_told peer its (inr has) =
        let works = works_of e my held the_request o turn in
        elim (entry_either (effects.renews peer its) worked.effects (begun_effects works.begun) (subst (HasEffect (effects.renews peer its)) works.is has)) [
          | inl front ↦ worked_told peer its (inr front)
          | inr behind ↦ absurd (begun_none works.begun peer its (inr behind))
        ]

    worked_plain : e.options.follow_rfc ≡ false → (peer : Pair) (its : ℕ) → WasPerformed peer its worked.effects → HasEntry (incoming_stream_reset reset.streams) o.events
    worked_plain plainly peer its (inl has) = event_told (their_told reset.streams (own_streams e.outstanding) peer its worked.effects has)
    worked_plain plainly peer its (inr has) =
        absurd (let clash : true ≡ false = sym (follows_then (renews_where peer its (request_place held.peer_last number) (request_state e held the_request) has)) ∙ plainly in cc)

    performed_plain : e.options.follow_rfc ≡ false → (peer : Pair) (its : ℕ) → WasPerformed peer its o.effects → HasEntry (incoming_stream_reset reset.streams) o.events
    performed_plain plainly peer its (inl has) =
        let works = works_of e my held the_request o turn in
        elim (entry_either (effects.performs peer its) worked.effects (begun_effects works.begun) (subst (HasEffect (effects.performs peer its)) works.is has)) [
          | inl front ↦ worked_plain plainly peer its (inl front)
          | inr behind ↦ absurd (begun_none works.begun peer its (inl behind))
        ]
    performed_plain plainly peer its (inr has) =
        let works = works_of e my held the_request o turn in
        elim (entry_either (effects.renews peer its) worked.effects (begun_effects works.begun) (subst (HasEffect (effects.renews peer its)) works.is has)) [
          | inl front ↦ worked_plain plainly peer its (inr front)
          | inr behind ↦ absurd (begun_none works.begun peer its (inr behind))
        ]

    -- Where streams were reset, a request was performed.
    some_performed : (happened : List Effect) → has_reset happened ≡ true → (peer : Pair) × (its : ℕ) × WasPerformed peer its happened
    some_performed [] is = absurd (cc)
    some_performed (effects.performs peer its ∷ happened) is = (peer, its, inl (inl refl))
    some_performed (effects.renews peer its ∷ happened) is = (peer, its, inr (inl refl))
    some_performed (effect ∷ happened) is =
        let rest = some_performed happened is in (rest.0, rest.1, elim rest.2 [ inl has ↦ inl (inr has) | inr has ↦ inr (inr has) ])

    left_told : (may : Bool) (old : NumberedReset) → IsReportedReset e o reset.streams → (if may then Some (record { number = number; reset = renewed_reset reset }) else None) ≡ Some old → IsReportedReset e o old.reset.streams
    left_told true old told is = subst (IsReportedReset e o) (ap (λ (r : NumberedReset). r.reset.streams) (some_same (record { number = number; reset = renewed_reset reset }) old is)) told
      where
        some_same : (one other : NumberedReset) → ◌≡◌ {A = Option NumberedReset} (Some one) (Some other) → one ≡ other
        some_same one other same = cc
    left_told false old told is = absurd (cc)

    renewable_told : (was_reset : Bool) → has_reset worked.effects ≡ was_reset → (old : NumberedReset) → renewable_after e held.peer_last the_request was_reset ≡ Some old → IsReportedReset e o old.reset.streams
    renewable_told true was old is =
        let some = some_performed worked.effects was in left_told (e.options.follow_rfc && number == held.peer_last) old (worked_told some.0 some.1 some.2) is
    renewable_told false was old is = inr (old, is, refl)

    request_tells : (input : Input) → content_of_input input ≡ Some (re_config the_request) → ReportsResets e input o
    request_tells input came =
        record {
          performed = λ peer its has others other came' asked. subst (λ (r : RequestedReset). IsReportedReset e o r.streams) (same_request others other (same_parameters others (sym came ∙ came')) asked) (performed_told peer its has);
          each_told = λ plainly peer its has others other came' asked. subst (λ (r : RequestedReset). HasEntry (incoming_stream_reset r.streams) o.events) (same_request others other (same_parameters others (sym came ∙ came')) asked) (performed_plain plainly peer its has);
          renewable = λ old is. renewable_told (has_reset worked.effects) refl old (sym (works_renewable e my held the_request o turn) ∙ is);
        }
      where
        same_parameters : (others : List ResetParameter) → Some (re_config the_request) ≡ Some (re_config others) → the_request ≡ others
        same_parameters others same = cc

        same_request : (others : List ResetParameter) (other : RequestedReset) → the_request ≡ others → first_reset_request others ≡ Some other → reset ≡ other
        same_request others other same asked = (let found : first_reset_request the_request ≡ Some other = ap first_reset_request same ∙ asked in cc)

-- ---- each turn

works_tell : (e : Endpoint) (my : Pair) (held : Held) (tag : ℕ) (parameters : List ResetParameter) (o : Outcome) → IsPlainRequest (Some (re_config parameters)) → HandlesResets e my held parameters o
    → ReportsResets e (chunk_input tag (re_config parameters)) o
works_tell e my held tag parameters o (inl none) turn =
    let asks = answers_ask e my held parameters o none turn in told_nothing e (chunk_input tag (re_config parameters)) o asks.none asks.renews
works_tell e my held tag parameters o (inr asked) turn =
    request_tells e my held asked.0 asked.1 o (subst (λ (p : List ResetParameter). HandlesResets e my held p o) asked.2 turn) (chunk_input tag (re_config parameters))
    (ap (λ (p : List ResetParameter). Some (re_config p)) asked.2)

plainly_by : (found : Option AssociationIdentity) (link : AssociationIdentity) (came : Option Content) → found ≡ Some link → (found ≡ None) ⊎ IsPlainRequest came → IsPlainRequest came
plainly_by found link came linked (inl none) = (let clash : ◌≡◌ {A = Option AssociationIdentity} None (Some link) = sym none ∙ linked in absurd (cc))
plainly_by found link came linked (inr plainly) = plainly

reset_tells : (e : Endpoint) (core : Core) (tag : ℕ) (parameters : List ResetParameter) (o : Outcome) → (identity_of_core core ≡ None) ⊎ IsPlainRequest (Some (re_config parameters)) → ResetTurn e core parameters o
    → ReportsResets e (chunk_input tag (re_config parameters)) o
reset_tells e closed tag parameters o plainly turn = (let asks = as_this e.queues.transfer e.renewable o _ turn (rests e) in told_nothing e _ o asks.none asks.renews)
reset_tells e (cookie_wait my) tag parameters o plainly turn = (let asks = as_this e.queues.transfer e.renewable o _ turn (rests e) in told_nothing e _ o asks.none asks.renews)
reset_tells e (cookie_echoed my held cookie) tag parameters o plainly turn = works_tell e my held tag parameters o (plainly_by (Some (identity_of my held)) (identity_of my held) (Some (re_config parameters)) refl plainly) turn
reset_tells e (open_in phase my held) tag parameters o plainly turn = works_tell e my held tag parameters o (plainly_by (Some (identity_of my held)) (identity_of my held) (Some (re_config parameters)) refl plainly) turn

tell_by : (input : Input) → Handles input → (e : Endpoint) (o : Outcome) → (identity_of_core e.core ≡ None) ⊎ IsPlainRequest (content_of_input input) → IsCall input → Turn e input o → ReportsResets e input o
tell_by input (calmly calm) e o plainly may turn = calm_tells e input o (calm_turns e input o calm may turn)
tell_by input (handles tag parameters is) e o plainly may turn =
    subst (λ (i : Input). ReportsResets e i o) (sym is)
    (content_by e tag (re_config parameters) o
    (λ dropped. let asks = as_this e.queues.transfer e.renewable o _ dropped (rests e) in told_nothing e (chunk_input tag (re_config parameters)) o asks.none asks.renews)
    (λ handled. reset_tells e e.core tag parameters o (subst (λ (i : Input). (identity_of_core e.core ≡ None) ⊎ IsPlainRequest (content_of_input i)) is plainly) handled)
    (subst (λ (i : Input). Turn e i o) is turn))

pub turns_tell_resets : TurnsReportResets
turns_tell_resets e input o plainly may turn = tell_by input (input_handles input) e o plainly may turn
