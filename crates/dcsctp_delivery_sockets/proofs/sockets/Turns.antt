-- What a turn does to the association of a socket, to the kinds of what is in flight, and what it sends.
use Rattle.std.proofs.Common.{◌≡◌, ℕ, ◌<◌, ◌^◌, Bool, true, false, Option, None, Some, List, [], ◌∷◌, ◌++◌, refl, sym, ap, ◌∙◌, subst}
use Rattle.dcsctp_spec_lemmas.specs.types.declared.capabilities.Capabilities.{Capabilities}
use Rattle.dcsctp_spec_lemmas.specs.spec.endpoint.Endpoint.{Endpoint}
use Rattle.dcsctp_spec_lemmas.specs.spec.endpoint.Event.{packets_of_events}
use Rattle.dcsctp_spec_lemmas.specs.spec.endpoint.Outcome.{behind, Outcome, then_outcome}
use Rattle.dcsctp_spec_lemmas.specs.spec.Packet.{Content, init_ack, cookie_echo, Emission}
use Rattle.dcsctp_spec_lemmas.specs.spec.endpoint.Turn.{Input, chunk_input, act_input, user_sets, user_sends, user_resets, restores, Turn}
use Rattle.dcsctp_spec_lemmas.specs.spec.association.Acts.{flushes, request_again, request_renewed}
use Rattle.dcsctp_spec_lemmas.specs.spec.association.Effect.{Effect, AssociationIdentity, identity_of, identity_of_core}
use Rattle.dcsctp_spec_lemmas.specs.types.queues.Messages.{MessageContent}
use Rattle.dcsctp_spec_lemmas.specs.spec.queues.Transfer.{Transfer, EndpointQueues}
use Rattle.dcsctp_spec_lemmas.specs.spec.endpoint.FlushOutcomes.{Answer}
use Rattle.dcsctp_spec_lemmas.specs.spec.endpoint.MessageOutcomes.{MessageRefusal, Sending, sending_refusal, lifecycle_name, queue_unless_refused, queue_one, queue_all, takes_any, SendAnswers, flush_if_queued, SendTurn}
use Rattle.dcsctp_theorem_sockets.proofs.Bursts.{packets_of_events-append}
use Rattle.dcsctp_delivery_directions.specs.sending.Log.{Message}
use Rattle.dcsctp_delivery_directions.specs.directions.Directions.{nothing_asked}
use Rattle.dcsctp_delivery_sockets.specs.turns.Asking.{own_of, SomeFit}
use Rattle.dcsctp_delivery_sockets.specs.turns.Actions.{ledger_of, content_of_input, RecordsOpening, opening_queues, kept_inside, IsOpening, Inside, inside, LeadsToLedger, MakesAlso, OwnEnds, unended, committed, rolled_back, PeerResets, unreset, absent, deferred, reset_now, Becomes, goes_on, pauses, prepared_inside, works_resets, renews, ends, begins, collides, IsCall, peer_tag, queued_after, read_after, exchange_of}
use Rattle.dcsctp_delivery_sockets.proofs.turns.Fixed.{queue_all_core, refusal_none, prepared_none}
use Rattle.dcsctp_delivery_sockets.proofs.turns.Fronts.{renewed_fit, own_ends_fit}
use Rattle.dcsctp_delivery_sockets.proofs.turns.Beginnings.{nothing_fits, unlinked_fits}
use Rattle.dcsctp_delivery_sockets.proofs.turns.Turns.{own_peer, none_calm, turns_are_actions}
use Rattle.dcsctp_delivery_sockets.proofs.turns.Data.{turn_link, flush_makes}
use Rattle.dcsctp_spec_lemmas.specs.spec.endpoint.PreparedResets.{ResetRefusal, endpoint_with_queue, reset_refusal, PreparesUnlessRefused}
use Rattle.dcsctp_spec_lemmas.specs.spec.queues.OwnResets.{prepared_all, prepare_all_events}
use Rattle.dcsctp_delivery_sockets.proofs.sockets.Allowed.{ContentsAllowed, AreAllowed}
use Rattle.dcsctp_delivery_sockets.proofs.sockets.Actions.{TransferIs, events_both, LedgerIs, of_known, actions_are}

-- ---- an endpoint

-- Two ends agree on what both of these say.
abbrev pub SameKinds : Capabilities → Capabilities → Type 0
SameKinds own kinds = (own.message_interleaving ≡ kinds.message_interleaving) × (own.partial_reliability ≡ kinds.partial_reliability)

abbrev pub LinkIs : Capabilities → Option AssociationIdentity → Type 0
LinkIs kinds None = Unit {0}
LinkIs kinds (Some link) = SameKinds link.capabilities kinds

-- Its association, if there is one, is of these kinds, and so is what is in flight; what it keeps of its own requests to reset
-- streams is of some that were begun.
pub record EndpointIs (kinds : Capabilities) (e : Endpoint) : Type 0 where
  pub linked : LinkIs kinds (identity_of_core e.core)
  pub left : TransferIs kinds e.queues.transfer
  pub asks : SomeFit (own_of e)

-- ---- inputs

-- No snapshot is restored, and a request to reset streams is sent again by its timer alone, under its number or the next one.
abbrev pub IsStep : Input → Type 0
IsStep (act_input (request_again reset)) = ⊥
IsStep (act_input (request_renewed reset)) = ⊥
IsStep (restores state) = ⊥
IsStep input = Unit {0}

-- No association begins by it.
abbrev pub IsCalm : Input → Type 0
IsCalm (chunk_input tag (init_ack theirs cookie)) = ⊥
IsCalm (chunk_input tag (cookie_echo cookie)) = ⊥
IsCalm (act_input (request_again reset)) = ⊥
IsCalm (act_input (request_renewed reset)) = ⊥
IsCalm (restores state) = ⊥
IsCalm input = Unit {0}

pub calm_step : (input : Input) → IsCalm input → IsStep input
calm_step (act_input (request_again reset)) calm = absurd calm
calm_step (act_input (request_renewed reset)) calm = absurd calm
calm_step (restores state) calm = absurd calm
calm_step input calm = tt

pub calm_opens : (input : Input) → IsCalm input → IsOpening (content_of_input input) → ⊥
calm_opens (chunk_input tag (init_ack theirs cookie)) calm opening = calm
calm_opens (chunk_input tag (cookie_echo cookie)) calm opening = calm
calm_opens (chunk_input tag content) calm opening = opening
calm_opens input calm opening = opening

-- ---- the association

-- The association stays, or ends, or another one begins.
pub data MovesLink (came : Option Content) (e : Endpoint) (o : Outcome) : Type 0 where
  link_stays : identity_of_core o.after.core ≡ identity_of_core e.core → MovesLink came e o
  link_ends : identity_of_core o.after.core ≡ None → MovesLink came e o
  link_begins : RecordsOpening came o → MovesLink came e o

-- Streams and messages that a user names are of no concern here: they may be of any size.
abbrev pub NamesNothing : Input → Type 0
NamesNothing (user_sends sendings) = ⊥
NamesNothing (user_sets setting) = ⊥
NamesNothing (user_resets ids) = ⊥
NamesNothing input = Unit {0}

is_call : (input : Input) → IsStep input → NamesNothing input → IsCall input
is_call (user_sends sendings) step none = absurd none
is_call (user_sets setting) step none = absurd none
is_call (user_resets ids) step none = absurd none
is_call (act_input (request_again reset)) step none = absurd step
is_call (act_input (request_renewed reset)) step none = absurd step
is_call (restores state) step none = absurd step
is_call input step none = tt

module _ (kinds : Capabilities) where
  queue_all_silent : (e : Endpoint) (sendings : List Sending) → packets_of_events (queue_all e sendings).events ≡ []
  queue_all_silent e [] = refl
  queue_all_silent e (sending ∷ sendings) =
      packets_of_events-append (queue_one e sending).events (queue_all (queue_one e sending).after sendings).events
      ∙ ap (λ (l : List Emission). l ++ packets_of_events (queue_all (queue_one e sending).after sendings).events) (go (sending_refusal e sending)) ∙ queue_all_silent (queue_one e sending).after sendings
    where
      go : (why : Option MessageRefusal) → packets_of_events (queue_unless_refused e sending why).events ≡ []
      go None = refl
      go (Some why) = refusal_none why (lifecycle_name sending)

  -- ---- what a turn makes

  -- What is in flight, and what is kept of our requests.
  record InsideIs (i : Inside) : Type 0 where
    left : TransferIs kinds i.queues.transfer
    asks : SomeFit i.own

  -- What is kept fits what was begun, once our request has ended.
  ends_fit : (happened : List Effect) (old new : Inside) → OwnEnds happened old new → SomeFit old.own → SomeFit new.own
  ends_fit happened old new ended h =
      let after = own_ends_fit happened old new h.first h.asking ended h.fits in
      record { first = h.first; asking = after.0; fits = after.1 }

  own_ends : (happened : List Effect) (old new : Inside) → InsideIs old → OwnEnds happened old new → InsideIs new
  own_ends happened old _ h unended = h
  own_ends happened old new h (committed done own is) = record { left = h.left; asks = ends_fit happened old new (committed done own is) h.asks }
  own_ends happened old new h (rolled_back done own is) = record { left = h.left; asks = ends_fit happened old new (rolled_back done own is) h.asks }

  peer_resets : (came : Option Content) (happened : List Effect) (old new : Inside) → InsideIs old → PeerResets came happened old new → InsideIs new
  peer_resets came happened old _ h (unreset none) = h
  peer_resets came happened old _ h (absent gone) = h
  peer_resets came happened old _ h (deferred none parameters reset came_is wants transfer known) = record { left = of_known kinds transfer old.queues.transfer known h.left; asks = h.asks }
  peer_resets came happened old _ h (reset_now done parameters reset handled asked transfer reassembly known reached leaves) =
      record { left = of_known kinds transfer old.queues.transfer known h.left; asks = h.asks }

  -- what is in flight after actions, what is kept of our requests, and what was sent
  record MadeIs (new : Inside) (packets : List Emission) : Type 0 where
    inside_is : InsideIs new
    says : AreAllowed kinds packets

  makes_is : (came : Option Content) (to : ℕ) (adds : List Message → List Message) (taken : List MessageContent → List MessageContent) (old new : Inside) (packets : List Emission) → InsideIs old
      → MakesAlso came to adds taken old packets new → MadeIs new packets
  makes_is came to adds taken old new packets h makes =
      let made : LeadsToLedger came to (ledger_of [] old.queues [] [] h.asks.asking) h.asks.first new (exchange_of (adds []) packets (taken [])) = makes [] [] [] h.asks.first h.asks.asking h.asks.fits in
      let is : LedgerIs kinds (ledger_of (adds []) new.queues packets (taken []) made.asking) =
      actions_are kinds came to (ledger_of [] old.queues [] [] h.asks.asking) (ledger_of (adds []) new.queues packets (taken []) made.asking) (record { left = h.left; says = tt }) made.actions in
      record { inside_is = record { left = is.left; asks = record { first = h.asks.first; asking = made.asking; fits = made.fits } }; says = is.says }

  -- ---- each turn

  -- what it leaves, and what it sent
  pub record TurnIs (e : Endpoint) (came : Option Content) (o : Outcome) : Type 0 where
    pub moves : MovesLink came e o
    pub after : EndpointIs kinds o.after
    pub says : AreAllowed kinds (packets_of_events o.events)

  -- the association that a turn begins, if it begins one, is of these kinds, and its first TSN fits its field
  abbrev pub BeginsSo : Endpoint → Option Content → Outcome → Type 0
  BeginsSo e came o =
      (opened : RecordsOpening came o) → SameKinds opened.link.capabilities kinds × (opened.link.my.first_tsn < 2 ^ 32)

  stays_is : (came : Option Content) (e : Endpoint) (o : Outcome) → EndpointIs kinds e → identity_of_core o.after.core ≡ identity_of_core e.core → MadeIs (inside o.after) (packets_of_events o.events) → TurnIs e came o
  stays_is came e o h linked made =
      record { moves = link_stays linked; after = record { linked = subst (LinkIs kinds) (sym linked) h.linked; left = made.inside_is.left; asks = made.inside_is.asks }; says = made.says }

  becomes_is : {resets : Option (List ℕ)} (came : Option Content) (to : ℕ) (adds : List Message → List Message) (taken : List MessageContent → List MessageContent) (e : Endpoint) (o : Outcome) → EndpointIs kinds e → BeginsSo e came o
      → Becomes resets came to adds taken e o → TurnIs e came o
  becomes_is came to adds taken e o h so (goes_on calm linked makes) =
      stays_is came e o h linked (makes_is came to adds taken (inside e) (inside o.after) (packets_of_events o.events) (record { left = h.left; asks = h.asks }) makes)
  becomes_is came to adds taken e o h so (pauses ids resets calm accepted linked small makes) =
      stays_is came e o h linked (makes_is came to adds taken (prepared_inside ids (inside e)) (inside o.after) (packets_of_events o.events) (record { left = h.left; asks = h.asks }) makes)
  becomes_is came to adds taken e o h so (works_resets linked between worked ended peer makes) =
      let worked_is : InsideIs worked = peer_resets came o.effects between worked (own_ends o.effects (inside e) between (record { left = h.left; asks = h.asks }) ended) peer in
      stays_is came e o h linked (makes_is came to adds taken worked (inside o.after) (packets_of_events o.events) worked_is makes)
  becomes_is came to adds taken e o h so (renews calm linked alike unread own number emission kept out is packets tag contents) =
      stays_is came e o h linked
      (record {
        inside_is = record {
          left = subst (λ (i : Inside). TransferIs kinds i.queues.transfer) (sym is) h.left;
          asks = renewed_fit (own_of e) (own_of o.after) own number kept out (ap (λ (i : Inside). i.own) is) h.asks;
        };
        says = subst (AreAllowed kinds) (sym packets) (subst (ContentsAllowed kinds) (sym contents) tt, tt);
      })
  becomes_is came to adds taken e o h so (ends none unread reported last own makes is) =
      let made : MadeIs last (packets_of_events o.events) = makes_is came to adds taken (inside e) last (packets_of_events o.events) (record { left = h.left; asks = h.asks }) makes in
      record {
        moves = link_ends none;
        after = record {
          linked = subst (LinkIs kinds) (sym none) tt;
          left = subst (λ (b : EndpointQueues). TransferIs kinds b.transfer) (sym is) tt;
          asks = unlinked_fits o.after.core o.after.outstanding none;
        };
        says = made.says;
      }
  becomes_is came to adds taken e o h so (begins begun opening linked unqueued unread again makes) =
      let opened : RecordsOpening came o = record { opening = opening; link = identity_of begun.my begun.held; linked = linked; later = begun.later; noted = begun.noted } in
      let start : SameKinds begun.held.capabilities kinds × (begun.my.first_tsn < 2 ^ 32) = so opened in
      let made : MadeIs (inside o.after) (packets_of_events o.events) =
      makes_is came begun.held.peer.tag (λ queued. queued) (λ read. read) (record { queues = opening_queues e o begun; own = Some (record { number = None; next = begun.my.first_tsn; again = again }) }) (inside o.after) (packets_of_events o.events)
      (record { left = start.0; asks = (record { first = begun.my.first_tsn; asking = nothing_asked; fits = nothing_fits begun.my.first_tsn again start.1 }) }) makes in
      record {
        moves = link_begins opened;
        after = record { linked = subst (LinkIs kinds) (sym linked) start.0; left = made.inside_is.left; asks = made.inside_is.asks };
        says = made.says;
      }
  becomes_is came to adds taken e o h so (collides collision unqueued unread again makes) =
      let opened : RecordsOpening came o = collision.opened in
      let start : SameKinds opened.link.capabilities kinds × (opened.link.my.first_tsn < 2 ^ 32) = so opened in
      let left : TransferIs kinds (Some collision.transfer) = subst (TransferIs kinds) collision.there h.left in
      let made : MadeIs (inside o.after) (packets_of_events o.events) =
      makes_is came opened.link.peer.tag (λ queued. queued) (λ read. read) (kept_inside collision again) (inside o.after) (packets_of_events o.events)
      (record {
        left = (let same = collision.kept_is.2 in subst (λ (t : Transfer). TransferIs kinds (Some t)) (sym same) left);
        asks = record { first = opened.link.my.first_tsn; asking = nothing_asked; fits = nothing_fits opened.link.my.first_tsn again start.1 };
      }) makes in
      record {
        moves = link_begins opened;
        after = record { linked = subst (LinkIs kinds) (sym opened.linked) start.0; left = made.inside_is.left; asks = made.inside_is.asks };
        says = made.says;
      }

  -- ---- a call that sends messages

  one_queued : (e : Endpoint) (sending : Sending) (why : Option MessageRefusal) → EndpointIs kinds e → EndpointIs kinds (queue_unless_refused e sending why).after
  one_queued e sending None h = record { linked = h.linked; left = h.left; asks = h.asks }
  one_queued e sending (Some why) h = record { linked = h.linked; left = h.left; asks = h.asks }

  all_queued : (e : Endpoint) (sendings : List Sending) → EndpointIs kinds e → EndpointIs kinds (queue_all e sendings).after
  all_queued e [] h = h
  all_queued e (sending ∷ sendings) h = all_queued (queue_one e sending).after sendings (one_queued e sending (sending_refusal e sending) h)

  -- What follows is a flush, like that of an act.
  sends_is : (b : Bool) (e : Endpoint) (answers : List Answer) → EndpointIs kinds e → SendAnswers b e answers → TurnIs e None (flush_if_queued b e answers)
  sends_is false e answers h allowed = record { moves = link_stays refl; after = h; says = tt }
  sends_is true e answers h allowed =
      becomes_is None (peer_tag e.core) (queued_after e (act_input flushes)) (read_after e (act_input flushes)) e (flush_if_queued true e answers) h (λ opened. absurd opened.opening)
      (turns_are_actions e (act_input flushes) (flush_if_queued true e answers) tt (answers, allowed, refl))

  later_moves : (e d : Endpoint) (o whole : Outcome) → identity_of_core d.core ≡ identity_of_core e.core → whole.after ≡ o.after → MovesLink None d o → MovesLink None e whole
  later_moves e d o whole same after (link_stays is) = link_stays (ap (λ (x : Endpoint). identity_of_core x.core) after ∙ is ∙ same)
  later_moves e d o whole same after (link_ends none) = link_ends (ap (λ (x : Endpoint). identity_of_core x.core) after ∙ none)
  later_moves e d o whole same after (link_begins opened) = absurd opened.opening

  send_is : (e : Endpoint) (sendings : List Sending) (o : Outcome) → EndpointIs kinds e → SendTurn e sendings o → TurnIs e None o
  send_is e sendings o h turn =
      let all : Outcome = queue_all e sendings in
      let last : Outcome = flush_if_queued (takes_any e sendings) all.after turn.0 in
      let is : TurnIs all.after None last = sends_is (takes_any e sendings) all.after turn.0 (all_queued e sendings h) turn.1 in
      subst (TurnIs e None) (sym turn.2)
      (record {
        moves = later_moves e all.after last (then_outcome all last) (ap identity_of_core (queue_all_core e sendings)) refl is.moves;
        after = is.after;
        says = events_both kinds all.events last.events (subst (AreAllowed kinds) (sym (queue_all_silent e sendings)) tt) is.says;
      })

  -- ---- a call that resets streams

  resets_is : (why : Option ResetRefusal) (e : Endpoint) (ids : List ℕ) (o : Outcome) → EndpointIs kinds e → PreparesUnlessRefused why e ids o → TurnIs e None o
  resets_is (Some why) e ids o h turn = subst (TurnIs e None) (sym turn) (record { moves = link_stays refl; after = h; says = tt })
  resets_is None e ids o h turn =
      let base : Endpoint = endpoint_with_queue e (prepared_all ids e.queues.queue) in
      let made : MadeIs (inside turn.flushed.after) (packets_of_events turn.flushed.events) =
      makes_is None (peer_tag base.core) (λ queued. queued) (λ read. read) (inside base) (inside turn.flushed.after) (packets_of_events turn.flushed.events) (record { left = h.left; asks = h.asks })
      (flush_makes None none_calm (peer_tag base.core) base turn.flushed (own_peer base.core) turn.flushes) in
      let is : TurnIs e None turn.flushed = stays_is None e turn.flushed h (turn_link base turn.flushed turn.flushes) made in
      subst (TurnIs e None) (sym turn.is)
      (record {
        moves = later_moves e e turn.flushed (behind [] (prepare_all_events ids e.queues.queue) turn.flushed) refl refl is.moves;
        after = is.after;
        says = events_both kinds (prepare_all_events ids e.queues.queue) turn.flushed.events (subst (AreAllowed kinds) (sym (prepared_none ids e.queues.queue)) tt) is.says;
      })

  pub turn_is : (e : Endpoint) (input : Input) (o : Outcome) → EndpointIs kinds e → IsStep input → BeginsSo e (content_of_input input) o → Turn e input o → TurnIs e (content_of_input input) o
  turn_is e (user_sends sendings) o h step so turn = send_is e sendings o h turn
  turn_is e (user_sets setting) o h step so turn = subst (TurnIs e None) (sym turn) (record { moves = link_stays refl; after = record { linked = h.linked; left = h.left; asks = h.asks }; says = tt })
  turn_is e (user_resets ids) o h step so turn = resets_is (reset_refusal e) e ids o h turn
  turn_is e input o h step so turn = becomes_is (content_of_input input) (peer_tag e.core) (queued_after e input) (read_after e input) e o h so (turns_are_actions e input o (is_call input step tt) turn)
