-- The association that a side holds is the one that its past leaves: RE-CONFIG keeps that.
use Rattle.std.proofs.Common.{◌≡◌, ◌==◌, ℕ, Bool, true, false, cond, Option, None, Some, List, [], ◌∷◌, refl, sym, ap, ◌∙◌}
use Rattle.std.proofs.lemmas.Bool.Decides.{Decides-eqb}
use Rattle.dcsctp_spec_lemmas.specs.types.declared.association.Held.{Held}
use Rattle.dcsctp_spec_lemmas.specs.wire.declared.reconfiguration.ReconfigurationResponseResult.{ReconfigurationResponseResult}
use Rattle.dcsctp_spec_lemmas.specs.wire.declared.reconfiguration.ReconfigurationResponseResult.TheVariants.{SuccessNothingToDo, SuccessPerformed, InProgress}
use Rattle.dcsctp_spec_lemmas.specs.spec.Reconfiguration.{RequestState, early, due, renewed, ResetParameter, outgoing_reset_request, incoming_reset_request, reconfiguration_response, other_reset_parameter}
use Rattle.dcsctp_spec_lemmas.specs.spec.association.Effect.{AssociationIdentity, Effect, completes, fails, accepts, performs, renews}
use Rattle.dcsctp_spec_lemmas.specs.spec.association.Choices.{Choices}
use Rattle.dcsctp_spec_lemmas.specs.spec.association.FlushChanges.{FlushResult, next_number, flush}
use Rattle.dcsctp_spec_lemmas.specs.spec.association.ResetChanges.{RequestPlace, again, next, astray, request_place, RequestOutcome, with_last, performed_request, repeated_request_outcome, next_request, is_due, outgoing_by_place, incoming_by_place, without_outstanding, result_of_answer, result_if_outstanding, is_outstanding, AnswerResult, HandledParameters, parameters_outcome, reset_chunk_outcome, answers_emitted, reset_sent, peer_part_handled}
use Rattle.dcsctp_spec_runs.specs.Past.{my_of, peer_of}
use Rattle.dcsctp_theorem_association.proofs.OneSideLemmas.{Stands, Leads, stands-sends, leads-append, flush_leads}

-- ---- which number

-- what a place says of the last number and this one
abbrev Placed : RequestPlace → ℕ → ℕ → Type 0
Placed again last number = number ≡ last
Placed next last number = number ≡ next_number last
Placed astray last number = Unit {0}

placed_by : (last number : ℕ) (is_last is_next : Bool) → (number == last) ≡ is_last → (number == next_number last) ≡ is_next
    → Placed (cond is_last again (cond is_next next astray)) last number
placed_by last number true is_next a b = (Decides-eqb number last).0 a
placed_by last number false true a b = (Decides-eqb number (next_number last)).0 b
placed_by last number false false a b = tt

placed : (last number : ℕ) → Placed (request_place last number) last number
placed last number = placed_by last number (number == last) (number == next_number last) refl refl

-- ---- one effect

-- The next request is accepted.
stands-accepts : {link : AssociationIdentity} {waiting : Option AssociationIdentity} {held : Held} {past : List Effect} (number : ℕ) (result : ReconfigurationResponseResult) → number ≡ next_number held.peer_last
    → Stands link waiting held past → Stands link waiting (with_last held number result) (accepts number ∷ past)
stands-accepts number result e s = record {
  same_peer = s.same_peer;
  same_capabilities = s.same_capabilities;
  is_current = s.is_current;
  is_waiting = s.is_waiting;
  begins_next = s.begins_next;
  is_outstanding = s.is_outstanding;
  accepts_next = refl;
  performs_last = λ i. refl;
  in_place = (cc (s.accepts_next, e), s.in_place);
}

-- The last request is performed, if it is in progress.
stands-performs : {link : AssociationIdentity} {waiting : Option AssociationIdentity} {held : Held} {past : List Effect} → held.peer_result ≡ InProgress
    → Stands link waiting held past → Stands link waiting (with_last held held.peer_last SuccessPerformed) (performs held.peer held.peer_last ∷ past)
stands-performs {held = held} e s = record {
  same_peer = s.same_peer;
  same_capabilities = s.same_capabilities;
  is_current = s.is_current;
  is_waiting = s.is_waiting;
  begins_next = s.begins_next;
  is_outstanding = s.is_outstanding;
  accepts_next = s.accepts_next;
  performs_last = λ i. absurd (cc);
  in_place = ((s.performs_last e, ap peer_of s.is_current ∙ ap (λ p. Some p) (sym s.same_peer)), s.in_place);
}

-- The last request is one that was performed under the number before.
stands-renews : {link : AssociationIdentity} {waiting : Option AssociationIdentity} {held : Held} {past : List Effect} → held.peer_result ≡ InProgress
    → Stands link waiting held past → Stands link waiting (with_last held held.peer_last SuccessPerformed) (renews held.peer held.peer_last ∷ past)
stands-renews {held = held} e s = record {
  same_peer = s.same_peer;
  same_capabilities = s.same_capabilities;
  is_current = s.is_current;
  is_waiting = s.is_waiting;
  begins_next = s.begins_next;
  is_outstanding = s.is_outstanding;
  accepts_next = s.accepts_next;
  performs_last = λ i. absurd (cc);
  in_place = ((s.performs_last e, ap peer_of s.is_current ∙ ap (λ p. Some p) (sym s.same_peer)), s.in_place);
}

-- The last request is answered once more, as in progress only if it was.
stands-answers : {link : AssociationIdentity} {waiting : Option AssociationIdentity} {held : Held} {past : List Effect} (number : ℕ) (result : ReconfigurationResponseResult) → number ≡ held.peer_last → (result ≡ InProgress → held.peer_result ≡ InProgress)
    → Stands link waiting held past → Stands link waiting (with_last held number result) past
stands-answers number result e f s = record {
  same_peer = s.same_peer;
  same_capabilities = s.same_capabilities;
  is_current = s.is_current;
  is_waiting = s.is_waiting;
  begins_next = s.begins_next;
  is_outstanding = s.is_outstanding;
  accepts_next = s.accepts_next ∙ ap (λ (n : ℕ). Some (next_number n)) (sym e);
  performs_last = λ i. s.performs_last (f i) ∙ ap (λ (n : ℕ). Some n) (sym e);
  in_place = s.in_place;
}

-- The outstanding request ends.
stands-completes : {link : AssociationIdentity} {waiting : Option AssociationIdentity} {held : Held} {past : List Effect} (number : ℕ) → held.own_outstanding ≡ Some number
    → Stands link waiting held past → Stands link waiting (without_outstanding held) (completes link.my number ∷ past)
stands-completes number e s = record {
  same_peer = s.same_peer;
  same_capabilities = s.same_capabilities;
  is_current = s.is_current;
  is_waiting = s.is_waiting;
  begins_next = s.begins_next;
  is_outstanding = refl;
  accepts_next = s.accepts_next;
  performs_last = s.performs_last;
  in_place = ((s.is_outstanding ∙ e, ap my_of s.is_current), s.in_place);
}

stands-fails : {link : AssociationIdentity} {waiting : Option AssociationIdentity} {held : Held} {past : List Effect} (number : ℕ) → held.own_outstanding ≡ Some number
    → Stands link waiting held past → Stands link waiting (without_outstanding held) (fails number ∷ past)
stands-fails number e s = record {
  same_peer = s.same_peer;
  same_capabilities = s.same_capabilities;
  is_current = s.is_current;
  is_waiting = s.is_waiting;
  begins_next = s.begins_next;
  is_outstanding = refl;
  accepts_next = s.accepts_next;
  performs_last = s.performs_last;
  in_place = (s.is_outstanding ∙ e, s.in_place);
}

-- It is the outstanding one.
is_outstanding_means : (number : ℕ) (request : Option ℕ) → is_outstanding number request ≡ true → request ≡ Some number
is_outstanding_means number None e = absurd (cc)
is_outstanding_means number (Some other) e = ap (λ (n : ℕ). Some n) (sym ((Decides-eqb number other).0 e))

module _ (link : AssociationIdentity) (waiting : Option AssociationIdentity) where
  -- ---- a request of the peer

  worked_leads : (held : Held) (is_reached : Bool) → held.peer_result ≡ InProgress → Leads link waiting held (performed_request held held.peer_last is_reached).effects (performed_request held held.peer_last is_reached).held
  worked_leads held true e past s = stands-performs e s
  worked_leads held false e past s = stands-answers held.peer_last InProgress refl (λ i. e) s

  repeated_leads : (held : Held) (result : ReconfigurationResponseResult) (is_reached : Bool) → held.peer_result ≡ result → Leads link waiting held (repeated_request_outcome held result is_reached).effects (repeated_request_outcome held result is_reached).held
  repeated_leads held InProgress is_reached e past s = worked_leads held is_reached e past s
  repeated_leads held result is_reached e past s = s

  accepted_leads : (held : Held) (number : ℕ) (state : RequestState) → number ≡ next_number held.peer_last
      → Leads link waiting held (accepts number ∷ (next_request held number state).effects) (next_request held number state).held
  accepted_leads held number early e past s = stands-accepts number InProgress e s
  accepted_leads held number due e past s = stands-performs refl (stands-accepts number InProgress e s)
  accepted_leads held number renewed e past s = stands-renews refl (stands-accepts number InProgress e s)

  outgoing_leads : (held : Held) (number : ℕ) (state : RequestState) (place : RequestPlace) → Placed place held.peer_last number
      → Leads link waiting held (outgoing_by_place held number state place).effects (outgoing_by_place held number state place).held
  outgoing_leads held number state again e past s = repeated_leads held held.peer_result (is_due state) refl past s
  outgoing_leads held number state next e past s = accepted_leads held number state e past s
  outgoing_leads held number state astray e past s = s

  incoming_leads : (held : Held) (number : ℕ) (place : RequestPlace) → Placed place held.peer_last number
      → Leads link waiting held (incoming_by_place held number place).effects (incoming_by_place held number place).held
  incoming_leads held number again e past s = stands-answers number SuccessNothingToDo e (λ i. absurd (cc)) s
  incoming_leads held number next e past s = stands-accepts number SuccessNothingToDo e s
  incoming_leads held number astray e past s = s

  -- ---- an answer of the peer

  informed_leads : (held : Held) (number : ℕ) (result : ReconfigurationResponseResult) → held.own_outstanding ≡ Some number
      → Leads link waiting held (result_of_answer link.my held number result).effects (result_of_answer link.my held number result).held
  informed_leads held number SuccessNothingToDo e past s = stands-completes number e s
  informed_leads held number SuccessPerformed e past s = stands-completes number e s
  informed_leads held number InProgress e past s = s
  informed_leads held number result e past s = stands-fails number e s

  informed_leads_where : (held : Held) (number : ℕ) (result : ReconfigurationResponseResult) (is_it : Bool) → (is_it ≡ true → held.own_outstanding ≡ Some number)
      → Leads link waiting held (result_if_outstanding link.my held number result is_it).effects (result_if_outstanding link.my held number result is_it).held
  informed_leads_where held number result true e past s = informed_leads held number result (e refl) past s
  informed_leads_where held number result false e past s = s

  -- ---- the parameters

  parameters_lead : (state : RequestState) (has_worked : Bool) (held : Held) (parameters : List ResetParameter)
      → Leads link waiting held (parameters_outcome link.my state has_worked held parameters).effects (parameters_outcome link.my state has_worked held parameters).held
  parameters_lead state has_worked held [] past s = s
  parameters_lead state true held (outgoing_reset_request number answered reset ∷ parameters) past s = s
  parameters_lead state false held (outgoing_reset_request number answered reset ∷ parameters) past s =
      let first : RequestOutcome = outgoing_by_place held number state (request_place held.peer_last number) in
      let rest : HandledParameters = parameters_outcome link.my state true first.held parameters in
      leads-append link waiting held first.held rest.held first.effects rest.effects
      (outgoing_leads held number state (request_place held.peer_last number) (placed held.peer_last number))
      (parameters_lead state true first.held parameters) past s
  parameters_lead state has_worked held (incoming_reset_request number streams ∷ parameters) past s =
      let first : RequestOutcome = incoming_by_place held number (request_place held.peer_last number) in
      let rest : HandledParameters = parameters_outcome link.my state has_worked first.held parameters in
      leads-append link waiting held first.held rest.held first.effects rest.effects
      (incoming_leads held number (request_place held.peer_last number) (placed held.peer_last number))
      (parameters_lead state has_worked first.held parameters) past s
  parameters_lead state has_worked held (reconfiguration_response number result ∷ parameters) past s =
      let first : AnswerResult = result_if_outstanding link.my held number result (is_outstanding number held.own_outstanding) in
      let rest : HandledParameters = parameters_outcome link.my state has_worked first.held parameters in
      leads-append link waiting held first.held rest.held first.effects rest.effects
      (informed_leads_where held number result (is_outstanding number held.own_outstanding) (is_outstanding_means number held.own_outstanding))
      (parameters_lead state has_worked first.held parameters) past s
  parameters_lead state has_worked held (other_reset_parameter parameter ∷ parameters) past s = parameters_lead state has_worked held parameters past s

  -- ---- the chunk

  chunk_leads : (state : RequestState) (held : Held) (parameters : List ResetParameter)
      → Leads link waiting held (reset_chunk_outcome link.my state held parameters).effects (reset_chunk_outcome link.my state held parameters).held
  chunk_leads state held [] past s = s
  chunk_leads state held (parameter ∷ parameters) past s = parameters_lead state false held (parameter ∷ parameters) past s

  answers_lead : (held : Held) (fits : Bool) (tag : ℕ) (answers : List ResetParameter) → Leads link waiting held (answers_emitted fits tag answers) held
  answers_lead held fits tag [] past s = s
  answers_lead held true tag (answer ∷ answers) past s = stands-sends _ s
  answers_lead held false tag (answer ∷ answers) past s = s

  sent_lead : (is_refused : Bool) (held : Held) (answers : List ResetParameter) (choices : Choices)
      → Leads link waiting held (reset_sent is_refused held answers choices).effects (reset_sent is_refused held answers choices).held
  sent_lead true held answers choices past s = s
  sent_lead false held answers choices past s =
      let after : FlushResult = flush held.peer.tag held [] choices.filling in
      leads-append link waiting held held after.held (answers_emitted choices.fits held.peer.tag answers) after.effects
      (answers_lead held choices.fits held.peer.tag answers)
      (flush_leads link waiting held.peer.tag held [] choices.filling) past s

  pub reset_leads : (held : Held) (parameters : List ResetParameter) (choices : Choices)
      → Leads link waiting held (peer_part_handled link.my held parameters choices).effects (peer_part_handled link.my held parameters choices).held
  reset_leads held parameters choices =
      let performed_request : HandledParameters = reset_chunk_outcome link.my choices.state held parameters in
      let after : FlushResult = reset_sent performed_request.is_refused performed_request.held performed_request.answers choices in
      leads-append link waiting held performed_request.held after.held performed_request.effects after.effects
      (chunk_leads choices.state held parameters)
      (sent_lead performed_request.is_refused performed_request.held performed_request.answers choices)
