-- The turns of heartbeats and of the other chunks and timers, as actions.
use Rattle.dcsctp_spec_lemmas.specs.types.declared.ends.AbortReason.TheVariants as reasons
use Rattle.dcsctp_delivery_sockets.specs.turns.Actions as actions
use Rattle.std.proofs.Common.{◌≡◌, ◌==◌, ℕ, Bool, true, false, cond, Option, None, Some, List, [], refl, sym, ◌∙◌, subst, ap, inl}
use Rattle.std.specs.Option.{option_map}
use Rattle.dcsctp_spec_lemmas.specs.types.declared.association.Held.{Held}
use Rattle.dcsctp_spec_lemmas.specs.types.declared.ends.Violation.{Violation}
use Rattle.dcsctp_spec_lemmas.specs.spec.endpoint.Cause.{Cause}
use Rattle.dcsctp_spec_lemmas.specs.spec.Packet.{Content, Plain, plain, unknown, heartbeat, heartbeat_ack, unworked, Emission}
use Rattle.dcsctp_spec_lemmas.specs.spec.Reconfiguration.{RequestedReset, renewed_reset}
use Rattle.dcsctp_spec_lemmas.specs.spec.endpoint.Endpoint.{Endpoint, Core, closed, cookie_wait, cookie_echoed, open_in, OutstandingRequest, held_by_core}
use Rattle.dcsctp_spec_lemmas.specs.spec.endpoint.Outcome.{Outcome, still, to_peer, fits, answers_with}
use Rattle.dcsctp_spec_lemmas.specs.spec.association.FlushChanges.{reset_request, held_asking}
use Rattle.dcsctp_spec_lemmas.specs.spec.endpoint.HeartbeatOutcomes.{heartbeat_outcome, first_heartbeat_info, counter_of, endpoint_answered, heartbeat_round_trip, heartbeat_ack_outcome, interval_expired, beating, heartbeat_emission, interval_outcome, is_exhausted}
use Rattle.dcsctp_spec_lemmas.specs.spec.queues.Transfer.{Transfer}
use Rattle.dcsctp_spec_lemmas.specs.spec.endpoint.TransferMoves.{timed_transfer}
use Rattle.dcsctp_spec_lemmas.specs.spec.endpoint.OwnTimers.{OwnTimer, acknowledgement_delay, retransmission, heartbeat_interval, heartbeat_timeout, reconfiguration, TimerTurn}
use Rattle.dcsctp_spec_lemmas.specs.spec.endpoint.PlainOutcomes.{PlainTurn, PlainTurnUnlessViolating, violation_by_core, is_reported, after_unknown, unknown_bytes, unknown_chunk_outcome, unknown_report, error_outcome}
use Rattle.dcsctp_spec_lemmas.specs.spec.endpoint.ReconfigurationOutcomes.{reset_again, request_emitted, renewed_request_if_fitting, request_renewed, is_renewed, request_repeated, request_unless, request_errors, request_expired, reconfiguration_outcome, as_renewed}
use Rattle.dcsctp_spec_lemmas.specs.wire.Content.{ParameterContent, data_chunk, sack_chunk, error_chunk, i_data_chunk, forward_tsn_chunk, i_forward_tsn_chunk}
use Rattle.dcsctp_delivery_sockets.specs.turns.Actions.{IsCalm, Inside, inside, MakesPackets, goes_on, renews, ends, IsStaleFirst}
use Rattle.dcsctp_delivery_sockets.specs.turns.Asking.{own_with, own_of_core, own_of, renewed_own, IsAsking, AsksFit, IsOut, OutIs, Own}
use Rattle.dcsctp_delivery_directions.specs.sending.Places.{HasEntry}
use Rattle.dcsctp_spec_lemmas.specs.spec.endpoint.BegunResets.{BegunReset, core_asking}
use Rattle.dcsctp_spec_lemmas.specs.spec.association.Effect.{identity_of_core}
use Rattle.dcsctp_spec_lemmas.proofs.AbortLemmas.{by_error_outcome}
use Rattle.dcsctp_spec_lemmas.proofs.OneAnswerLemmas.{answered_by}
use Rattle.dcsctp_delivery_sockets.specs.turns.Reports.{NoReports}
use Rattle.dcsctp_delivery_sockets.specs.turns.Tags.{IsPeerTag}
use Rattle.dcsctp_delivery_sockets.proofs.turns.Actions.{action_of, with_inside, emits_link, Goes, MakesTo, rests, spoken, emitted, emission_of, packet_if}
use Rattle.dcsctp_delivery_sockets.proofs.turns.Fixed.{held_tag}
use Rattle.dcsctp_delivery_sockets.proofs.turns.Tags.{asking_link}
use Rattle.dcsctp_delivery_sockets.proofs.turns.Handshake.{aborting_goes}
use Rattle.dcsctp_delivery_sockets.proofs.turns.Data.{data_goes, i_data_goes, sack_goes, forward_goes, i_forward_goes, delay_goes, loss_goes}
use Rattle.dcsctp_delivery_directions.specs.sending.Flushes.{NoData}

module _ (came : Option Content) (calm : IsCalm came) (to : ℕ) where
  -- ---- chunks that concern no association

  unknown_goes : (e : Endpoint) (core : Core) (type : ℕ) (chunk : List ℕ) (reported : Bool)
      → Goes came to e (record (cond reported (unknown_chunk_outcome e core type chunk) (still e)) { following = after_unknown type })
  unknown_goes e core type chunk false = goes_on calm refl (rests came to (inside e))
  unknown_goes e closed type chunk true = goes_on calm refl (rests came to (inside e))
  unknown_goes e (cookie_wait my) type chunk true = goes_on calm refl (rests came to (inside e))
  unknown_goes e (cookie_echoed my held cookie) type chunk true = goes_on calm refl (spoken came to (inside e) (unknown_report e held chunk) (tt, tt) tt (inl (tt, tt)))
  unknown_goes e (open_in phase my held) type chunk true = goes_on calm refl (spoken came to (inside e) (unknown_report e held chunk) (tt, tt) tt (inl (tt, tt)))

  error_goes : (e : Endpoint) (core : Core) (causes : List Cause) → Goes came to e (error_outcome e core causes)
  error_goes e core causes =
      by_error_outcome (Goes came to e) e core causes (ends refl (λ read. refl) tt (inside e) refl (rests came to (inside e)) refl)
      (goes_on calm refl (rests came to (inside e))) (goes_on calm refl (rests came to (inside e)))

  answer_goes : (e : Endpoint) (emission : Emission) → NoData emission.packet.contents → IsStaleFirst emission.packet.contents → NoReports emission.packet.contents → Goes came to e (answers_with e emission)
  answer_goes e emission no_data stale silent =
      answered_by (Goes came to e) e emission (goes_on calm refl (rests came to (inside e)))
      (goes_on calm (emits_link e [] emission) (emitted came to e [] emission no_data stale silent))

  heartbeat_goes : (e : Endpoint) (core : Core) (parameters : List ParameterContent) → Goes came to e (heartbeat_outcome e core parameters)
  heartbeat_goes e closed parameters = goes_on calm refl (rests came to (inside e))
  heartbeat_goes e (cookie_wait my) parameters = goes_on calm refl (rests came to (inside e))
  heartbeat_goes e (cookie_echoed my held cookie) parameters = answer_goes e (to_peer held (plain (heartbeat_ack parameters))) (tt, tt) tt (tt, tt)
  heartbeat_goes e (open_in phase my held) parameters = answer_goes e (to_peer held (plain (heartbeat_ack parameters))) (tt, tt) tt (tt, tt)

  -- The answer to a HEARTBEAT may measure a round trip.
  measured_makes : (e : Endpoint) (round_trip : Option ℕ) (transfer : Option Transfer) → e.queues.transfer ≡ transfer
      → MakesPackets came to (inside e) [] (with_inside (record e.queues { transfer = option_map (timed_transfer round_trip) transfer }) (inside e))
  measured_makes e round_trip None known =
      subst (λ (t : Option Transfer). MakesPackets came to (inside e) [] (with_inside (record e.queues { transfer = t }) (inside e))) known (rests came to (inside e))
  measured_makes e round_trip (Some transfer) known = action_of came to (inside e) _ (λ queued sent read asking. actions.times round_trip transfer known)

  counted_goes : (b : Bool) (e : Endpoint) → Goes came to e (cond b (still (endpoint_answered e)) (still e))
  counted_goes true e = goes_on calm refl (measured_makes e (heartbeat_round_trip e) e.queues.transfer refl)
  counted_goes false e = goes_on calm refl (rests came to (inside e))

  heartbeat_ack_goes : (e : Endpoint) (counter : Option ℕ) → Goes came to e (heartbeat_ack_outcome e counter)
  heartbeat_ack_goes e None = goes_on calm refl (rests came to (inside e))
  heartbeat_ack_goes e (Some counter) = counted_goes (counter == e.heartbeat_counter) e

  interval_goes : (e : Endpoint) (core : Core) → Goes came to e (interval_outcome e core)
  interval_goes e closed = goes_on calm refl (rests came to (inside e))
  interval_goes e (cookie_wait my) = goes_on calm refl (rests came to (inside e))
  interval_goes e (cookie_echoed my held cookie) =
      let base : Endpoint = beating (interval_expired e) in goes_on calm (emits_link base [] (heartbeat_emission held base.heartbeat_counter)) (emitted came to base [] (heartbeat_emission held base.heartbeat_counter) (tt, tt) tt (tt, tt))
  interval_goes e (open_in phase my held) =
      let base : Endpoint = beating (interval_expired e) in goes_on calm (emits_link base [] (heartbeat_emission held base.heartbeat_counter)) (emitted came to base [] (heartbeat_emission held base.heartbeat_counter) (tt, tt) tt (tt, tt))

  -- The request that has no end is sent again.
  request_makes : (e : Endpoint) (held : Held) (number : Option ℕ) → held.peer.tag ≡ to → own_of e ≡ Some (own_with held e.outstanding) → held.own_outstanding ≡ number
      → MakesTo came to (inside e) (request_emitted e held number (reset_again e.outstanding))
  request_makes e held None tag own is = rests came to (inside e)
  request_makes e held (Some number) tag own is =
      let begun : BegunReset = record { number = number; reset = reset_again e.outstanding } in
      let emission : Emission = to_peer held (reset_request number (reset_again e.outstanding)) in
      packet_if came to (fits e emission) e [] emission
      (emission_of came to (inside e) e.queues emission (λ queued sent read tsn asking fit.
      let asks : IsAsking tsn (own_with held e.outstanding) asking = subst (λ (o : Option Own). AsksFit tsn o asking) own fit in
      let out : IsOut number (reset_again e.outstanding) asking = subst (λ (n : Option ℕ). OutIs n (reset_again e.outstanding) asking) is asks.out in
      actions.asks_again emission begun tag (subst (HasEntry begun) (sym out.is) (inl refl)) refl))

  request_link : (e : Endpoint) (held : Held) (number : Option ℕ) (reset : RequestedReset) → identity_of_core (request_emitted e held number reset).after.core ≡ identity_of_core e.core
  request_link e held None reset = refl
  request_link e held (Some number) reset = emits_link e [] (to_peer held (reset_request number reset))

  own_waits : (core : Core) (request : OutstandingRequest) → own_of_core core (Some (record request { waits_for_retry = false })) ≡ own_of_core core (Some request)
  own_waits closed request = refl
  own_waits (cookie_wait my) request = refl
  own_waits (cookie_echoed my held cookie) request = refl
  own_waits (open_in phase my held) request = refl

  own_held : (core : Core) (request : Option OutstandingRequest) (held : Held) → held_by_core core ≡ Some held → own_of_core core request ≡ Some (own_with held request)
  own_held closed request held is = absurd (cc)
  own_held (cookie_wait my) request held is = absurd (cc)
  own_held (cookie_echoed my own cookie) request held is = (let same : own ≡ held = cc in ap (λ (h : Held). Some (own_with h request)) same)
  own_held (open_in phase my own) request held is = (let same : own ≡ held = cc in ap (λ (h : Held). Some (own_with h request)) same)

  -- The request continues under the next number.
  own_renewed : (held : Held) (request : Option OutstandingRequest) → own_with (held_asking held) (option_map as_renewed request) ≡ renewed_own (own_with held request)
  own_renewed held None = refl
  own_renewed held (Some request) = refl

  asking_own : (core : Core) (request : Option OutstandingRequest) (own : Own) → own_of_core core request ≡ Some own → own_of_core (core_asking core) (option_map as_renewed request) ≡ Some (renewed_own own)
  asking_own closed request own is = absurd (cc)
  asking_own (cookie_wait my) request own is = absurd (cc)
  asking_own (cookie_echoed my held cookie) request own is =
      let same : own_with held request ≡ own = cc in ap (λ (o : Own). Some o) (own_renewed held request) ∙ ap (λ (o : Own). Some (renewed_own o)) same
  asking_own (open_in phase my held) request own is =
      let same : own_with held request ≡ own = cc in ap (λ (o : Own). Some o) (own_renewed held request) ∙ ap (λ (o : Own). Some (renewed_own o)) same

  -- An endpoint at which the timer has expired has the same below it, and keeps the same of its request.
  module _ (e base : Endpoint) (held : Held) (same : inside base ≡ inside e) (linked : identity_of_core base.core ≡ identity_of_core e.core) (tag : held.peer.tag ≡ to) (own : own_of base ≡ Some (own_with held base.outstanding)) where
    makes_goes : (o : Outcome) → identity_of_core o.after.core ≡ identity_of_core base.core → MakesTo came to (inside base) o → Goes came to e o
    makes_goes o kept makes = goes_on calm (kept ∙ linked) (subst (λ (i : Inside). MakesTo came to i o) same makes)

    renewed_goes : (b : Bool) (number : ℕ) → held.own_outstanding ≡ Some number → Goes came to e (renewed_request_if_fitting b base held number (reset_request held.own_next (renewed_reset (reset_again base.outstanding))))
    renewed_goes false number out = makes_goes (still base) refl (rests came to (inside base))
    renewed_goes true number out =
        let kept : Own = own_with held base.outstanding in
        renews calm (asking_link base.core ∙ linked) (λ queued. refl) (λ read. refl) kept number (to_peer held (reset_request held.own_next (renewed_reset (reset_again base.outstanding)))) (sym (ap (λ (i : Inside). i.own) same) ∙ own) out
        (ap (λ (k : Option Own). record { queues = base.queues; own = k }) (asking_own base.core base.outstanding kept own)
        ∙ ap (λ (i : Inside). record { queues = i.queues; own = Some (renewed_own kept) }) same) refl tag refl

    renewing_goes : (number : Option ℕ) → held.own_outstanding ≡ number → Goes came to e (request_renewed base held number (reset_again base.outstanding))
    renewing_goes None out = makes_goes (still base) refl (rests came to (inside base))
    renewing_goes (Some number) out = renewed_goes (fits base (to_peer held (reset_request held.own_next (renewed_reset (reset_again base.outstanding))))) number out

    repeated_goes : (is_new : Bool) → Goes came to e (request_repeated is_new base held (reset_again base.outstanding))
    repeated_goes false =
        makes_goes (request_emitted base held held.own_outstanding (reset_again base.outstanding)) (request_link base held held.own_outstanding (reset_again base.outstanding))
        (request_makes base held held.own_outstanding tag own refl)
    repeated_goes true = renewing_goes held.own_outstanding refl

    unless_goes : (over is_new : Bool) → Goes came to e (request_unless over is_new base held (reset_again base.outstanding))
    unless_goes true is_new = makes_goes (still base) refl (rests came to (inside base))
    unless_goes false is_new = repeated_goes is_new

  reconfiguration_goes : (e : Endpoint) (peer : Option Held) (request : Option OutstandingRequest) → IsPeerTag e.core to → held_by_core e.core ≡ peer → e.outstanding ≡ request → Goes came to e (reconfiguration_outcome e peer request)
  reconfiguration_goes e None request at holds is = goes_on calm refl (rests came to (inside e))
  reconfiguration_goes e (Some held) None at holds is = goes_on calm refl (rests came to (inside e))
  reconfiguration_goes e (Some held) (Some request) at holds is =
      let base : Endpoint = request_expired e request in
      let same : inside base ≡ inside e = ap (λ (own : Option Own). record { queues = e.queues; own = own }) (own_waits e.core request ∙ sym (ap (λ (r : Option OutstandingRequest). own_of_core e.core r) is)) in
      unless_goes e base held same refl (held_tag e.core held to holds at) (own_held e.core base.outstanding held holds) (is_exhausted e.options.max_retransmissions (request_errors e request)) (is_renewed e (Some request))

  -- ---- each timer, and each chunk

  pub timer_goes : (e : Endpoint) (timer : OwnTimer) (o : Outcome) → IsPeerTag e.core to → TimerTurn e timer o → Goes came to e o
  timer_goes e acknowledgement_delay o at turn = subst (Goes came to e) (sym turn) (delay_goes came calm to e e.queues.transfer refl)
  timer_goes e retransmission o at turn = loss_goes came calm to e e.queues.transfer o refl turn
  timer_goes e heartbeat_interval o at turn = subst (Goes came to e) (sym turn) (interval_goes e e.core)
  timer_goes e heartbeat_timeout o at turn = subst (Goes came to e) (sym turn) (goes_on calm refl (rests came to (inside e)))
  timer_goes e reconfiguration o at turn = subst (Goes came to e) (sym turn) (reconfiguration_goes e (held_by_core e.core) e.outstanding at refl refl)

-- Such a chunk is no RE-CONFIG.
plain_calm : (chunk : Plain) → IsCalm (Some (plain chunk))
plain_calm chunk = λ parameters is. absurd (cc)

plain_by_goes : (to : ℕ) (e : Endpoint) (chunk : Plain) (violation : Option Violation) (o : Outcome) → IsPeerTag e.core to → PlainTurnUnlessViolating e chunk violation o → Goes (Some (plain chunk)) to e o
plain_by_goes to e chunk (Some violation) o at turn = subst (Goes (Some (plain chunk)) to e) (sym turn) (aborting_goes (Some (plain chunk)) (plain_calm chunk) to e e.core (reasons.Violation violation))
plain_by_goes to e (unknown type flags value) None o at turn = subst (Goes _ to e) (sym turn) (unknown_goes _ (plain_calm _) to e e.core type (unknown_bytes type flags value) (is_reported type))
plain_by_goes to e (heartbeat parameters) None o at turn = subst (Goes _ to e) (sym turn) (heartbeat_goes _ (plain_calm _) to e e.core parameters)
plain_by_goes to e (heartbeat_ack parameters) None o at turn = subst (Goes _ to e) (sym turn) (heartbeat_ack_goes _ (plain_calm _) to e (counter_of (first_heartbeat_info parameters)))
plain_by_goes to e (unworked (data_chunk chunk)) None o at turn = data_goes _ (plain_calm _) to e chunk o refl turn
plain_by_goes to e (unworked (i_data_chunk chunk)) None o at turn = i_data_goes _ (plain_calm _) to e chunk o refl turn
plain_by_goes to e (unworked (sack_chunk chunk)) None o at turn = sack_goes _ (plain_calm _) to e e.queues.transfer chunk o at refl refl turn
plain_by_goes to e (unworked (forward_tsn_chunk tsn streams)) None o at turn = forward_goes _ (plain_calm _) to e tsn streams o refl turn
plain_by_goes to e (unworked (i_forward_tsn_chunk tsn streams)) None o at turn = i_forward_goes _ (plain_calm _) to e tsn streams o refl turn
plain_by_goes to e (unworked (error_chunk causes)) None o at turn = subst (Goes _ to e) (sym turn) (error_goes _ (plain_calm _) to e e.core causes)
plain_by_goes to e (unworked chunk) None o at turn = subst (Goes _ to e) (sym turn) (goes_on (plain_calm _) refl (rests _ to (inside e)))

pub plain_goes : (to : ℕ) (e : Endpoint) (chunk : Plain) (o : Outcome) → IsPeerTag e.core to → PlainTurn e chunk o → Goes (Some (plain chunk)) to e o
plain_goes to e chunk o at turn = plain_by_goes to e chunk (violation_by_core e.core chunk) o at turn
