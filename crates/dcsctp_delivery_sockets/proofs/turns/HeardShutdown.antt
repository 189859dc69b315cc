-- A SHUTDOWN that is received, as actions: it may acknowledge, as a SACK does.
use Rattle.std.proofs.Common.{◌≡◌, ℕ, Bool, true, false, ◌&&◌, Option, None, Some, refl, sym, ◌∙◌, subst, ap}
use Rattle.dcsctp_spec_lemmas.specs.types.declared.association.Held.{Held}
use Rattle.dcsctp_spec_lemmas.specs.types.declared.association.Pair.{Pair}
use Rattle.dcsctp_spec_lemmas.specs.types.declared.options.Options.{Options}
use Rattle.dcsctp_spec_lemmas.specs.spec.Packet.{Content}
use Rattle.dcsctp_spec_lemmas.specs.spec.association.Effect.{identity_of_core}
use Rattle.dcsctp_spec_lemmas.specs.spec.endpoint.Endpoint.{Endpoint, Core, closed, cookie_wait, cookie_echoed, open_in, OpenPhase, shutdown_received}
use Rattle.dcsctp_spec_lemmas.specs.spec.endpoint.HeardShutdown.{said_by_shutdown, may_have_sent, acknowledges_by_shutdown, HearsValidShutdown, HearsShutdown, ShutdownTurn, open_association}
use Rattle.dcsctp_spec_lemmas.specs.spec.endpoint.Outcome.{Outcome}
use Rattle.dcsctp_spec_lemmas.specs.spec.endpoint.ShutdownOutcomes.{endpoint_in_phase}
use Rattle.dcsctp_spec_lemmas.specs.spec.queues.Acknowledging.{is_sack_valid}
use Rattle.dcsctp_spec_lemmas.specs.spec.queues.Transfer.{Transfer}
use Rattle.dcsctp_delivery_sockets.specs.turns.Actions.{MayAcknowledge, IsCalm, Inside, goes_on}
use Rattle.dcsctp_delivery_sockets.specs.turns.Asking.{own_of_core}
use Rattle.dcsctp_delivery_sockets.specs.turns.Tags.{IsPeerTag}
use Rattle.dcsctp_delivery_sockets.proofs.turns.Actions.{Goes, MakesTo}
use Rattle.dcsctp_delivery_sockets.proofs.turns.Data.{Continues, acknowledged}
use Rattle.dcsctp_delivery_sockets.proofs.turns.Shutdown.{shutdown_goes}

heeded_is_valid : (options : Options) (phase : OpenPhase) (transfer : Transfer) (tsn : ℕ) → acknowledges_by_shutdown options phase transfer tsn ≡ true → is_sack_valid transfer.retransmission tsn ≡ true
heeded_is_valid options phase transfer tsn heeds = go options.follow_rfc (may_have_sent phase) (is_sack_valid transfer.retransmission tsn) heeds
  where
    go : (a b c : Bool) → (a && (b && c)) ≡ true → c ≡ true
    go true true c is = is
    go true false c is = absurd (cc)
    go false b c is = absurd (cc)

inside_with : Endpoint → Core → Inside
inside_with e core = record { queues = e.queues; own = own_of_core core e.outstanding }

module _ (came : Option Content) (calm : IsCalm came) (tsn : ℕ) (may : MayAcknowledge came tsn) (to : ℕ) where
  where_goes : (b : Bool) (e : Endpoint) (phase : OpenPhase) (my : Pair) (held : Held) (transfer : Transfer) (o : Outcome) → e.core ≡ open_in phase my held → held.peer.tag ≡ to → e.queues.transfer ≡ Some transfer
      → acknowledges_by_shutdown e.options phase transfer tsn ≡ b → HearsValidShutdown b e (open_association phase my held) transfer tsn o → Goes came to e o
  unfolding inside_with
  where_goes true e phase my held transfer o at peer known heeds turn =
      let base : Endpoint = endpoint_in_phase e shutdown_received my held in
      let on : Continues came calm to base o =
      acknowledged came calm to base held transfer (said_by_shutdown tsn transfer.retransmission) o peer refl known (heeded_is_valid e.options phase transfer tsn heeds) may turn in
      goes_on calm (on.linked ∙ sym (ap identity_of_core at)) (subst (λ (i : Inside). MakesTo came to i o) (sym (ap (inside_with e) at)) on.makes)
  where_goes false e phase my held transfer o at peer known heeds turn = subst (Goes came to e) (sym turn) (shutdown_goes came calm to e (open_in phase my held) at peer)

  by_goes : (e : Endpoint) (phase : OpenPhase) (my : Pair) (held : Held) (found : Option Transfer) (o : Outcome) → e.core ≡ open_in phase my held → held.peer.tag ≡ to → e.queues.transfer ≡ found
      → HearsShutdown e phase my held found tsn o → Goes came to e o
  by_goes e phase my held None o at peer known turn = subst (Goes came to e) (sym turn) (shutdown_goes came calm to e (open_in phase my held) at peer)
  by_goes e phase my held (Some transfer) o at peer known turn = where_goes (acknowledges_by_shutdown e.options phase transfer tsn) e phase my held transfer o at peer known refl turn

  pub heard_goes : (e : Endpoint) (core : Core) (o : Outcome) → e.core ≡ core → IsPeerTag core to → ShutdownTurn e core tsn o → Goes came to e o
  heard_goes e closed o at peer turn = subst (Goes came to e) (sym turn) (shutdown_goes came calm to e closed at peer)
  heard_goes e (cookie_wait my) o at peer turn = subst (Goes came to e) (sym turn) (shutdown_goes came calm to e (cookie_wait my) at peer)
  heard_goes e (cookie_echoed my held cookie) o at peer turn = subst (Goes came to e) (sym turn) (shutdown_goes came calm to e (cookie_echoed my held cookie) at peer)
  heard_goes e (open_in phase my held) o at peer turn = by_goes e phase my held e.queues.transfer o at peer refl turn
