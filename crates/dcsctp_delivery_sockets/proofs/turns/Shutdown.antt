-- The turns of a shutdown, as actions.
use Rattle.dcsctp_spec_lemmas.specs.spec.endpoint.Event as events
use Rattle.std.proofs.Common.{◌≡◌, ℕ, Bool, true, false, Option, [], ◌∷◌, refl, sym, subst, Some, None, ap, ◌∙◌, inl, inr}
use Rattle.dcsctp_spec_lemmas.specs.types.declared.association.Pair.{Pair}
use Rattle.dcsctp_spec_lemmas.specs.types.declared.association.Held.{Held}
use Rattle.dcsctp_spec_lemmas.specs.spec.Packet.{Content, shutdown, shutdown_ack, shutdown_complete}
use Rattle.dcsctp_spec_lemmas.specs.spec.endpoint.Endpoint.{Endpoint, Core, closed, cookie_wait, cookie_echoed, open_in, OpenPhase, established, shutdown_pending, shutdown_sent, shutdown_received, shutdown_ack_sent}
use Rattle.dcsctp_spec_lemmas.specs.spec.endpoint.Outcome.{Outcome, sends, to_peer}
use Rattle.dcsctp_spec_lemmas.specs.spec.endpoint.Turn.{BeginTurn}
use Rattle.dcsctp_spec_lemmas.specs.spec.endpoint.EndOutcomes.{reflected_outcome}
use Rattle.dcsctp_spec_lemmas.specs.spec.endpoint.ShutdownOutcomes.{shut_down_echoed, endpoint_in_phase, received_tsn, may_continue_shutdown, step_if_acknowledged, step_outcome, t1_stopped, shut_down_outcome, shutdown_outcome, shutdown_ack_outcome, completed_outcome, shutdown_complete_outcome, endpoint_with_t2_continued, shutdown_sent_again, t2_again_outcome}
use Rattle.dcsctp_spec_lemmas.specs.spec.association.Effect.{identity_of, identity_of_core}
use Rattle.dcsctp_delivery_sockets.specs.turns.Reports.{IsCumulative}
use Rattle.dcsctp_delivery_sockets.specs.turns.Tags.{IsPeerTag}
use Rattle.dcsctp_delivery_sockets.specs.turns.Actions.{IsCalm, Inside, inside, MakesPackets, goes_on, ends}
use Rattle.dcsctp_delivery_sockets.specs.turns.Asking.{Own, own_with, own_of_core, own_of}
use Rattle.dcsctp_spec_lemmas.specs.spec.queues.Transfer.{Transfer, EndpointQueues}
use Rattle.dcsctp_spec_lemmas.specs.spec.Packet.{Emission}
use Rattle.std.proofs.Common.{List}
use Rattle.dcsctp_delivery_sockets.proofs.turns.Actions.{Goes, MakesTo, rests, spoken, ended}

-- a step changes nothing below
step_by_below : (b : Bool) (e : Endpoint) (phase : OpenPhase) (my : Pair) (held : Held) → (step_if_acknowledged b e phase my held).after.queues ≡ e.queues
step_by_below false e phase my held = refl
step_by_below true e established my held = refl
step_by_below true e shutdown_pending my held = refl
step_by_below true e shutdown_sent my held = refl
step_by_below true e shutdown_received my held = refl
step_by_below true e shutdown_ack_sent my held = refl

pub step_below : (e : Endpoint) (core : Core) → (step_outcome e core).after.queues ≡ e.queues
step_below e closed = refl
step_below e (cookie_wait my) = refl
step_below e (cookie_echoed my held cookie) = refl
step_below e (open_in phase my held) = step_by_below (may_continue_shutdown e) e phase my held

-- nor what is renewable
step_by_renewable : (b : Bool) (e : Endpoint) (phase : OpenPhase) (my : Pair) (held : Held) → (step_if_acknowledged b e phase my held).after.renewable ≡ e.renewable
step_by_renewable false e phase my held = refl
step_by_renewable true e established my held = refl
step_by_renewable true e shutdown_pending my held = refl
step_by_renewable true e shutdown_sent my held = refl
step_by_renewable true e shutdown_received my held = refl
step_by_renewable true e shutdown_ack_sent my held = refl

pub step_renewable : (e : Endpoint) (core : Core) → (step_outcome e core).after.renewable ≡ e.renewable
step_renewable e closed = refl
step_renewable e (cookie_wait my) = refl
step_renewable e (cookie_echoed my held cookie) = refl
step_renewable e (open_in phase my held) = step_by_renewable (may_continue_shutdown e) e phase my held

-- and the peer stays
step_by_peer : (b : Bool) (e : Endpoint) (phase : OpenPhase) (my : Pair) (held : Held) (to : ℕ) → IsPeerTag e.core to → held.peer.tag ≡ to → IsPeerTag (step_if_acknowledged b e phase my held).after.core to
step_by_peer false e phase my held to at is = at
step_by_peer true e established my held to at is = at
step_by_peer true e shutdown_pending my held to at is = is
step_by_peer true e shutdown_sent my held to at is = at
step_by_peer true e shutdown_received my held to at is = is
step_by_peer true e shutdown_ack_sent my held to at is = at

pub step_peer : (e : Endpoint) (core : Core) (to : ℕ) → IsPeerTag e.core to → IsPeerTag core to → IsPeerTag (step_outcome e core).after.core to
step_peer e closed to at is = at
step_peer e (cookie_wait my) to at is = at
step_peer e (cookie_echoed my held cookie) to at is = at
step_peer e (open_in phase my held) to at is = step_by_peer (may_continue_shutdown e) e phase my held to at is

-- and so does the association
pub step_by_link : (b : Bool) (e : Endpoint) (phase : OpenPhase) (my : Pair) (held : Held) → identity_of_core e.core ≡ Some (identity_of my held) → identity_of_core (step_if_acknowledged b e phase my held).after.core ≡ Some (identity_of my held)
step_by_link false e phase my held is = is
step_by_link true e established my held is = is
step_by_link true e shutdown_pending my held is = refl
step_by_link true e shutdown_sent my held is = is
step_by_link true e shutdown_received my held is = refl
step_by_link true e shutdown_ack_sent my held is = is

pub step_link : (e : Endpoint) (core : Core) → e.core ≡ core → identity_of_core (step_outcome e core).after.core ≡ identity_of_core e.core
step_link e closed at = refl
step_link e (cookie_wait my) at = refl
step_link e (cookie_echoed my held cookie) at = refl
step_link e (open_in phase my held) at = step_by_link (may_continue_shutdown e) e phase my held (ap identity_of_core at) ∙ sym (ap identity_of_core at)

module _ (came : Option Content) (calm : IsCalm came) (to : ℕ) where
  is_received : (transfer : Option Transfer) → IsCumulative transfer (received_tsn transfer)
  is_received None = tt
  is_received (Some transfer) = refl

  says_shutdown : (old : Inside) (held : Held) → held.peer.tag ≡ to → MakesPackets came to old (to_peer held (shutdown (received_tsn old.queues.transfer)) ∷ []) old
  says_shutdown old held tag = spoken came to old (to_peer held (shutdown (received_tsn old.queues.transfer))) (tt, tt) tt (inr (tag, tt, (is_received old.queues.transfer, tt)))

  says_ack : (old : Inside) (held : Held) → MakesPackets came to old (to_peer held shutdown_ack ∷ []) old
  says_ack old held = spoken came to old (to_peer held shutdown_ack) (tt, tt) tt (inl (tt, tt))

  -- ---- a step of it

  -- once another phase has begun
  phase_makes : (e : Endpoint) (packets : List Emission) (own : Option Own) → own_of e ≡ own → MakesPackets came to (inside e) packets (inside e) → MakesPackets came to (inside e) packets (record { queues = e.queues; own = own })
  phase_makes e packets own is makes = subst (λ (o : Option Own). MakesPackets came to (inside e) packets (record { queues = e.queues; own = o })) is makes

  step_by_makes : (b : Bool) (e : Endpoint) (phase : OpenPhase) (my : Pair) (held : Held) → held.peer.tag ≡ to → own_of e ≡ Some (own_with held e.outstanding) → MakesTo came to (inside e) (step_if_acknowledged b e phase my held)
  step_by_makes false e phase my held tag is = rests came to (inside e)
  step_by_makes true e established my held tag is = rests came to (inside e)
  step_by_makes true e shutdown_pending my held tag is = phase_makes e _ _ is (says_shutdown (inside e) held tag)
  step_by_makes true e shutdown_sent my held tag is = rests came to (inside e)
  step_by_makes true e shutdown_received my held tag is = phase_makes e _ _ is (says_ack (inside e) held)
  step_by_makes true e shutdown_ack_sent my held tag is = rests came to (inside e)

  pub step_makes : (e : Endpoint) (core : Core) → e.core ≡ core → IsPeerTag core to → MakesTo came to (inside e) (step_outcome e core)
  step_makes e closed at tag = rests came to (inside e)
  step_makes e (cookie_wait my) at tag = rests came to (inside e)
  step_makes e (cookie_echoed my held cookie) at tag = rests came to (inside e)
  step_makes e (open_in phase my held) at tag = step_by_makes (may_continue_shutdown e) e phase my held tag (ap (λ (c : Core). own_of_core c e.outstanding) at)

  -- ---- the user's call

  step_from_makes : (e base : Endpoint) (phase : OpenPhase) (my : Pair) (held : Held) → held.peer.tag ≡ to → base.queues ≡ e.queues → own_of e ≡ Some (own_with held base.outstanding)
      → MakesPackets came to (inside e) (events.packets_of_events (step_if_acknowledged (may_continue_shutdown base) (endpoint_in_phase base phase my held) phase my held).events) (inside (step_if_acknowledged (may_continue_shutdown base) (endpoint_in_phase base phase my held) phase my held).after)
  step_from_makes e base phase my held tag same is =
      let at : Endpoint = endpoint_in_phase base phase my held in
      let o : Outcome = step_if_acknowledged (may_continue_shutdown base) at phase my held in
      subst (λ (i : Inside). MakesPackets came to i (events.packets_of_events o.events) (inside o.after))
      (ap (λ (b : EndpointQueues). record { queues = b; own = Some (own_with held base.outstanding) }) same ∙ ap (λ (o : Option Own). record { queues = e.queues; own = o }) (sym is))
      (step_by_makes (may_continue_shutdown base) at phase my held tag refl)

  from_link : (base : Endpoint) (phase : OpenPhase) (my : Pair) (held : Held)
      → identity_of_core (step_if_acknowledged (may_continue_shutdown base) (endpoint_in_phase base phase my held) phase my held).after.core ≡ Some (identity_of my held)
  from_link base phase my held = step_by_link (may_continue_shutdown base) (endpoint_in_phase base phase my held) phase my held refl

  echoed_goes : (follows : Bool) (e : Endpoint) (my : Pair) (held : Held) (cookie : List ℕ) → e.core ≡ cookie_echoed my held cookie → held.peer.tag ≡ to → Goes came to e (shut_down_echoed follows e my held)
  echoed_goes true e my held cookie at tag = goes_on calm refl (rests came to (inside e))
  echoed_goes false e my held cookie at tag = goes_on calm (from_link (t1_stopped e) shutdown_pending my held ∙ sym (ap identity_of_core at)) (step_from_makes e (t1_stopped e) shutdown_pending my held tag refl (ap (λ (c : Core). own_of_core c e.outstanding) at))

  pub shut_down_goes : (e : Endpoint) (core : Core) → e.core ≡ core → IsPeerTag core to → Goes came to e (shut_down_outcome e core)
  shut_down_goes e closed at tag = goes_on calm refl (rests came to (inside e))
  shut_down_goes e (cookie_wait my) at tag = ends refl (λ read. refl) tt (inside e) refl (rests came to (inside e)) refl
  shut_down_goes e (cookie_echoed my held cookie) at tag = echoed_goes e.options.follow_rfc e my held cookie at tag
  shut_down_goes e (open_in established my held) at tag = goes_on calm (from_link e shutdown_pending my held ∙ sym (ap identity_of_core at)) (step_from_makes e e shutdown_pending my held tag refl (ap (λ (c : Core). own_of_core c e.outstanding) at))
  shut_down_goes e (open_in shutdown_pending my held) at tag = goes_on calm refl (rests came to (inside e))
  shut_down_goes e (open_in shutdown_sent my held) at tag = goes_on calm refl (rests came to (inside e))
  shut_down_goes e (open_in shutdown_received my held) at tag = goes_on calm refl (rests came to (inside e))
  shut_down_goes e (open_in shutdown_ack_sent my held) at tag = goes_on calm refl (rests came to (inside e))

  -- ---- chunks

  pub shutdown_goes : (e : Endpoint) (core : Core) → e.core ≡ core → IsPeerTag core to → Goes came to e (shutdown_outcome e core)
  shutdown_goes e closed at tag = goes_on calm refl (rests came to (inside e))
  shutdown_goes e (cookie_wait my) at tag = goes_on calm refl (rests came to (inside e))
  shutdown_goes e (cookie_echoed my held cookie) at tag = goes_on calm refl (rests came to (inside e))
  shutdown_goes e (open_in established my held) at tag = goes_on calm (from_link e shutdown_received my held ∙ sym (ap identity_of_core at)) (step_from_makes e e shutdown_received my held tag refl (ap (λ (c : Core). own_of_core c e.outstanding) at))
  shutdown_goes e (open_in shutdown_pending my held) at tag = goes_on calm (from_link e shutdown_received my held ∙ sym (ap identity_of_core at)) (step_from_makes e e shutdown_received my held tag refl (ap (λ (c : Core). own_of_core c e.outstanding) at))
  shutdown_goes e (open_in shutdown_sent my held) at tag = goes_on calm (sym (ap identity_of_core at)) (phase_makes e _ _ (ap (λ (c : Core). own_of_core c e.outstanding) at) (says_ack (inside e) held))
  shutdown_goes e (open_in shutdown_received my held) at tag = goes_on calm refl (rests came to (inside e))
  shutdown_goes e (open_in shutdown_ack_sent my held) at tag = goes_on calm (sym (ap identity_of_core at)) (phase_makes e _ _ (ap (λ (c : Core). own_of_core c e.outstanding) at) (says_ack (inside e) held))

  completed_goes : (e : Endpoint) (held : Held) → Goes came to e (completed_outcome e held)
  completed_goes e held = ended came to e (sends e [] [] (to_peer held (shutdown_complete false))) events.closed refl refl (inl (tt, tt), tt) (spoken came to (inside e) (to_peer held (shutdown_complete false)) (tt, tt) tt (inl (tt, tt)))

  reflected_goes : (e : Endpoint) (tag : ℕ) → Goes came to e (reflected_outcome e tag)
  reflected_goes e tag = goes_on calm refl (spoken came to (inside e) (record { with_checksum = true; packet = record { tag = tag; contents = shutdown_complete true ∷ [] } }) (tt, tt) tt (inl (tt, tt)))

  pub shutdown_ack_goes : (e : Endpoint) (core : Core) (tag : ℕ) → Goes came to e (shutdown_ack_outcome e core tag)
  shutdown_ack_goes e closed tag = reflected_goes e tag
  shutdown_ack_goes e (cookie_wait my) tag = reflected_goes e tag
  shutdown_ack_goes e (cookie_echoed my held cookie) tag = reflected_goes e tag
  shutdown_ack_goes e (open_in established my held) tag = reflected_goes e tag
  shutdown_ack_goes e (open_in shutdown_pending my held) tag = reflected_goes e tag
  shutdown_ack_goes e (open_in shutdown_sent my held) tag = completed_goes e held
  shutdown_ack_goes e (open_in shutdown_received my held) tag = reflected_goes e tag
  shutdown_ack_goes e (open_in shutdown_ack_sent my held) tag = completed_goes e held

  pub shutdown_complete_goes : (e : Endpoint) (core : Core) → Goes came to e (shutdown_complete_outcome e core)
  shutdown_complete_goes e closed = goes_on calm refl (rests came to (inside e))
  shutdown_complete_goes e (cookie_wait my) = goes_on calm refl (rests came to (inside e))
  shutdown_complete_goes e (cookie_echoed my held cookie) = goes_on calm refl (rests came to (inside e))
  shutdown_complete_goes e (open_in established my held) = goes_on calm refl (rests came to (inside e))
  shutdown_complete_goes e (open_in shutdown_pending my held) = goes_on calm refl (rests came to (inside e))
  shutdown_complete_goes e (open_in shutdown_sent my held) = goes_on calm refl (rests came to (inside e))
  shutdown_complete_goes e (open_in shutdown_received my held) = goes_on calm refl (rests came to (inside e))
  shutdown_complete_goes e (open_in shutdown_ack_sent my held) = ends refl (λ read. refl) tt (inside e) refl (rests came to (inside e)) refl

  -- ---- T2, and data while a SHUTDOWN waits for its answer

  again_makes : (e : Endpoint) (core : Core) → IsPeerTag core to → MakesTo came to (inside e) (shutdown_sent_again e core)
  again_makes e closed tag = rests came to (inside e)
  again_makes e (cookie_wait my) tag = rests came to (inside e)
  again_makes e (cookie_echoed my held cookie) tag = rests came to (inside e)
  again_makes e (open_in established my held) tag = rests came to (inside e)
  again_makes e (open_in shutdown_pending my held) tag = rests came to (inside e)
  again_makes e (open_in shutdown_sent my held) tag = says_shutdown (inside e) held tag
  again_makes e (open_in shutdown_received my held) tag = rests came to (inside e)
  again_makes e (open_in shutdown_ack_sent my held) tag = says_ack (inside e) held

  again_link : (e : Endpoint) (core : Core) → identity_of_core (shutdown_sent_again e core).after.core ≡ identity_of_core e.core
  again_link e closed = refl
  again_link e (cookie_wait my) = refl
  again_link e (cookie_echoed my held cookie) = refl
  again_link e (open_in established my held) = refl
  again_link e (open_in shutdown_pending my held) = refl
  again_link e (open_in shutdown_sent my held) = refl
  again_link e (open_in shutdown_received my held) = refl
  again_link e (open_in shutdown_ack_sent my held) = refl

  pub t2_again_goes : (e : Endpoint) → IsPeerTag e.core to → Goes came to e (t2_again_outcome e)
  t2_again_goes e tag = goes_on calm (again_link (endpoint_with_t2_continued e) e.core) (again_makes (endpoint_with_t2_continued e) e.core tag)

  pub begin_goes : (e : Endpoint) (core : Core) (has : Bool) (o : Outcome) → IsPeerTag core to → BeginTurn e core has o → Goes came to e o
  begin_goes e closed has o tag turn = subst (Goes came to e) (sym turn) (goes_on calm refl (rests came to (inside e)))
  begin_goes e (cookie_wait my) has o tag turn = subst (Goes came to e) (sym turn) (goes_on calm refl (rests came to (inside e)))
  begin_goes e (cookie_echoed my held cookie) has o tag turn = subst (Goes came to e) (sym turn) (goes_on calm refl (rests came to (inside e)))
  begin_goes e (open_in established my held) has o tag turn = subst (Goes came to e) (sym turn) (goes_on calm refl (rests came to (inside e)))
  begin_goes e (open_in shutdown_pending my held) has o tag turn = subst (Goes came to e) (sym turn) (goes_on calm refl (rests came to (inside e)))
  begin_goes e (open_in shutdown_sent my held) true o tag turn = subst (Goes came to e) (sym turn) (goes_on calm refl (says_shutdown (inside e) held tag))
  begin_goes e (open_in shutdown_sent my held) false o tag turn = subst (Goes came to e) (sym turn) (goes_on calm refl (rests came to (inside e)))
  begin_goes e (open_in shutdown_received my held) has o tag turn = subst (Goes came to e) (sym turn) (goes_on calm refl (rests came to (inside e)))
  begin_goes e (open_in shutdown_ack_sent my held) has o tag turn = subst (Goes came to e) (sym turn) (goes_on calm refl (rests came to (inside e)))
