-- What is outstanding stays sound in each turn of a socket.
use Rattle.std.proofs.Common.{ℕ, Option, None, Some, List, [], ◌∷◌, length, inl, inr, refl, sym, subst, arith}
use Rattle.dcsctp_spec_lemmas.specs.types.declared.progress.Change.TheVariants.{Mark}
use Rattle.dcsctp_spec_lemmas.specs.types.queues.Messages.{MessageContent}
use Rattle.dcsctp_spec_lemmas.specs.spec.Packet.{Content, Emission}
use Rattle.dcsctp_spec_lemmas.specs.spec.association.Effect.{identity_of, Effect}
use Rattle.dcsctp_spec_lemmas.specs.spec.endpoint.CallTurns.{Transition, after_all}
use Rattle.dcsctp_spec_lemmas.specs.spec.endpoint.Endpoint.{Endpoint}
use Rattle.dcsctp_spec_lemmas.specs.spec.endpoint.Outcome.{Outcome}
use Rattle.dcsctp_spec_lemmas.specs.spec.endpoint.Turn.{Input, Turn}
use Rattle.dcsctp_spec_lemmas.specs.spec.queues.SendQueue.{SendQueueState, queue_restarted}
use Rattle.dcsctp_spec_lemmas.specs.spec.queues.Transfer.{Transfer}
use Rattle.dcsctp_delivery_directions.specs.directions.Directions.{nothing_asked}
use Rattle.dcsctp_delivery_directions.specs.sending.Log.{Message}
use Rattle.dcsctp_delivery_sockets.specs.sockets.Acts.{AreTurns}
use Rattle.dcsctp_delivery_sockets.specs.turns.Actions.{Inside, inside, MakesAlso, OwnEnds, unended, committed, rolled_back, PeerResets, unreset, absent, deferred, reset_now, BeginsAssociation, kept_inside, opening_queues, prepared_inside, Becomes, goes_on, pauses, works_resets, renews, ends, begins, collides, content_of_input, IsCall}
use Rattle.dcsctp_delivery_sockets.specs.turns.Asking.{own_of, SomeFit}
use Rattle.dcsctp_delivery_sockets.proofs.sockets.Calls.{AreCalls}
use Rattle.dcsctp_delivery_sockets.proofs.sockets.OpenFitting.{OpensFitting, AllOpenFitting, link_fits}
use Rattle.dcsctp_delivery_sockets.proofs.turns.Beginnings.{nothing_fits, worked_fits}
use Rattle.dcsctp_delivery_sockets.proofs.turns.Keeping.{Leaves, link_stays, link_ends, link_begins, link_connects, turn_leaves}
use Rattle.dcsctp_delivery_sockets.proofs.turns.Turns.{turns_are_actions}
use Rattle.dcsctp_delivery_recovery.specs.Flights.{IsSoundFlight}
use Rattle.dcsctp_delivery_recovery.proofs.WaitingStreams.{AllWaitWell}
use Rattle.dcsctp_delivery_recovery.proofs.WaitingQueues.{preparing_well, committed_well, rolled_back_well, numbered_well, restarted_well}
use Rattle.dcsctp_delivery_recovery.proofs.SoundItems.{changed_flight}
use Rattle.dcsctp_delivery_recovery.proofs.SoundActions.{AreQueuesSound, known_flight, actions_sound}

-- ---- resets of streams

own_ends_sound : (happened : List Effect) (old new : Inside) → OwnEnds happened old new → AreQueuesSound old.queues → AreQueuesSound new.queues
own_ends_sound happened old _ unended h = h
own_ends_sound happened old _ (committed has own is) h = record { waits = committed_well old.queues.queue h.waits; flight = h.flight }
own_ends_sound happened old _ (rolled_back has own is) h = record { waits = rolled_back_well old.queues.queue h.waits; flight = h.flight }

peer_resets_sound : (came : Option Content) (happened : List Effect) (old new : Inside) → PeerResets came happened old new → AreQueuesSound old.queues → AreQueuesSound new.queues
peer_resets_sound came happened old _ (unreset is) h = h
peer_resets_sound came happened old _ (absent is) h = h
peer_resets_sound came happened old _ (deferred has parameters reset is first transfer known) h = record { waits = h.waits; flight = known_flight old.queues transfer known h }
peer_resets_sound came happened old _ (reset_now has parameters reset is first transfer reassembly known reached leaves) h = record { waits = h.waits; flight = known_flight old.queues transfer known h }

-- ---- another association

begun_waits : (e : Endpoint) (o : Outcome) (begun : BeginsAssociation e o) → AllWaitWell e.queues.queue.streams → AllWaitWell begun.queue.streams
begun_waits e o begun h =
    elim begun.keeps [
      | inl kept ↦ subst (λ (q : SendQueueState). AllWaitWell q.streams) (sym kept.0) (numbered_well begun.held.capabilities.message_interleaving begun.window e.queues.queue h)
      | inr anew ↦
          subst (λ (q : SendQueueState). AllWaitWell q.streams) (sym anew)
          (numbered_well begun.held.capabilities.message_interleaving begun.window (queue_restarted e.queues.queue) (restarted_well e.queues.queue h))
    ]

-- ---- a turn

makes_sound : {came : Option Content} {to : ℕ} {adds : List Message → List Message} {taken : List MessageContent → List MessageContent} {packets : List Emission} (old new : Inside) → SomeFit old.own
    → MakesAlso came to adds taken old packets new → AreQueuesSound old.queues → AreQueuesSound new.queues
makes_sound {came} {to} old new fits makes h = actions_sound came to _ _ (makes [] [] [] fits.first fits.asking fits.fits).actions h

module _ (e : Endpoint) (input : Input) (o : Outcome) (opens : OpensFitting (record { input = input; outcome = o })) (fits : SomeFit (own_of e)) (h : AreQueuesSound e.queues) where
  becomes_sound : {resets : Option (List ℕ)} {to : ℕ} {adds : List Message → List Message} {taken : List MessageContent → List MessageContent} → Becomes resets (content_of_input input) to adds taken e o
      → AreQueuesSound o.after.queues
  becomes_sound (goes_on calm linked makes) = makes_sound (inside e) (inside o.after) fits makes h
  becomes_sound (pauses ids resets calm accepted linked small makes) =
      makes_sound (prepared_inside ids (inside e)) (inside o.after) fits makes (record { waits = preparing_well ids e.queues.queue h.waits; flight = h.flight })
  becomes_sound (works_resets linked between worked ended peer makes) =
      makes_sound worked (inside o.after) (worked_fits (content_of_input input) o (inside e) between worked ended peer fits) makes
      (peer_resets_sound (content_of_input input) o.effects between worked peer (own_ends_sound o.effects (inside e) between ended h))
  becomes_sound (renews calm linked alike unread own number emission kept out is packets tag contents) = subst (λ (i : Inside). AreQueuesSound i.queues) (sym is) h
  becomes_sound (ends none unread silent last own makes is) =
      let after : AreQueuesSound last.queues = makes_sound (inside e) last fits makes h in
      subst AreQueuesSound (sym is) (record { waits = after.waits; flight = tt })
  becomes_sound (begins begun opening linked unqueued unread again makes) =
      let small = (link_fits o.after.core (identity_of begun.my begun.held) (opens opening) linked).my.first_tsn in
      let start : Inside = record { queues = opening_queues e o begun; own = Some (record { number = None; next = begun.my.first_tsn; again = again }) } in
      makes_sound {adds = λ queued. queued} {taken = λ read. read} start (inside o.after) (record { first = begun.my.first_tsn; asking = nothing_asked; fits = nothing_fits begun.my.first_tsn again small }) makes
      (record { waits = begun_waits e o begun h.waits; flight = record { items = tt; few = omega arith } })
  becomes_sound (collides collision unqueued unread again makes) =
      let small = (link_fits o.after.core collision.opened.link (opens collision.opened.opening) collision.opened.linked).my.first_tsn in
      let before : IsSoundFlight collision.transfer.retransmission.outstanding = known_flight e.queues collision.transfer collision.there h in
      makes_sound {adds = λ queued. queued} {taken = λ read. read} (kept_inside collision again) (inside o.after)
      (record { first = collision.opened.link.my.first_tsn; asking = nothing_asked; fits = nothing_fits collision.opened.link.my.first_tsn again small }) makes
      (record {
        waits = h.waits;
        flight = subst (λ (t : Transfer). IsSoundFlight t.retransmission.outstanding) (sym collision.kept_is.2)
            (changed_flight Mark 0 (length collision.transfer.retransmission.outstanding.items) collision.transfer.retransmission.outstanding _ tt refl before);
      })

-- ---- turns

-- What is kept of our own requests is of some that were begun.
pub record SideSound (e : Endpoint) : Type 0 where
  pub asks : SomeFit (own_of e)
  pub sound : AreQueuesSound e.queues

left_fit : (e : Endpoint) (o : Outcome) → Leaves e o → SomeFit (own_of o.after)
left_fit e o (link_stays linked fit leads asks) = fit
left_fit e o (link_ends none fit) = fit
left_fit e o (link_begins link linked fit left fresh) = fit
left_fit e o (link_connects link linked fit has) = fit

turn_sound : (e : Endpoint) (t : Transition) → Turn e t.input t.outcome → IsCall t.input → OpensFitting t → SideSound e → SideSound t.outcome.after
turn_sound e t turn may opens h =
    record {
      asks = left_fit e t.outcome
          (turn_leaves e t.input t.outcome (λ begun opening linked. (link_fits t.outcome.after.core (identity_of begun.my begun.held) (opens opening) linked).my.first_tsn) h.asks may turn);
      sound = becomes_sound e t.input t.outcome opens h.asks h.sound (turns_are_actions e t.input t.outcome may turn);
    }

pub turns_sound : (e : Endpoint) (turns : List Transition) → AreTurns e turns → AreCalls turns → AllOpenFitting turns → SideSound e → SideSound (after_all e turns)
turns_sound e [] taken calls opens h = h
turns_sound e (t ∷ turns) taken calls opens h = turns_sound t.outcome.after turns taken.1 calls.1 opens.1 (turn_sound e t taken.0 calls.0 opens.0 h)
