-- Turns of a socket whose association isn't connected: what is in flight stays untouched. So where both
-- ends began at the same time it goes on in the other association.
use Rattle.std.proofs.Common.{◌≡◌, ◌⊎◌, ℕ, Bool, true, false, ◌&&◌, ◌==◌, not, Option, None, Some, Result, Ok, List, [], ◌∷◌, refl, sym, ◌∙◌, ap, subst, inl, inr}
use Rattle.std.proofs.lemmas.Bool.{eq-eqb}
use Rattle.dcsctp_spec_lemmas.specs.wire.Content.{data_chunk, init_chunk, init_ack_chunk, sack_chunk, heartbeat_chunk, heartbeat_ack_chunk, abort_chunk, shutdown_chunk, shutdown_ack_chunk, error_chunk, cookie_echo_chunk, cookie_ack_chunk, shutdown_complete_chunk, i_data_chunk, re_config_chunk, forward_tsn_chunk, i_forward_tsn_chunk, unknown_chunk}
use Rattle.dcsctp_spec_lemmas.specs.types.declared.association.Held.{Held}
use Rattle.dcsctp_spec_lemmas.specs.types.declared.association.Pair.{Pair}
use Rattle.dcsctp_spec_lemmas.specs.types.declared.capabilities.Capabilities.{Capabilities}
use Rattle.dcsctp_spec_lemmas.specs.types.queues.Messages.{MessageContent}
use Rattle.dcsctp_spec_lemmas.specs.spec.Cookie.{Cookie}
use Rattle.dcsctp_spec_lemmas.specs.spec.Packet.{Content, init, init_ack, cookie_echo, cookie_ack, re_config, abort, shutdown, shutdown_ack, shutdown_complete, unknown, heartbeat, heartbeat_ack, unworked, plain, Emission}
use Rattle.dcsctp_spec_lemmas.specs.spec.association.CookieEchoChanges.{held_by_cookie, Resolution, establish_new, restart, simultaneous_init, discard, maintain_existing, invalid_tag, stale, aged_resolution, case_by_answers}
use Rattle.dcsctp_spec_lemmas.specs.spec.association.Effect.{AssociationIdentity, Effect, holds, connects, identity_of, identity_of_core}
use Rattle.dcsctp_spec_lemmas.specs.spec.endpoint.CookieEchoOutcomes.{is_spent, EstablishAnswers, establish_with_flush, queues_if_kept, queues_for_other, queues_collided, outlasts, ResolvedAnswers, resolve_with_flush, EchoedAnswers, cookie_echo_with_flush, resolved_now}
use Rattle.dcsctp_spec_lemmas.specs.spec.endpoint.Endpoint.{Endpoint, Core, closed, cookie_wait, cookie_echoed, open_in, is_cookie_echoed}
use Rattle.dcsctp_spec_lemmas.specs.spec.endpoint.Event.{connected}
use Rattle.dcsctp_spec_lemmas.specs.spec.endpoint.FlushOutcomes.{Answer, flush_answered}
use Rattle.dcsctp_spec_lemmas.specs.spec.endpoint.HandshakeOutcomes.{init_ack_with_flush}
use Rattle.dcsctp_spec_lemmas.specs.spec.endpoint.Outcome.{Outcome, still}
use Rattle.dcsctp_spec_lemmas.specs.spec.endpoint.HeardShutdown.{ShutdownTurn}
use Rattle.dcsctp_spec_lemmas.specs.spec.endpoint.Turn.{Input, arrival, refusal, packet_begins, chunk_input, packet_ends, act_input, user_sets, user_sends, user_resets, user_takes, timer_expires, time_passes, restores, ContentTurn, Turn}
use Rattle.dcsctp_spec_lemmas.specs.spec.queues.Outstanding.{is_untouched}
use Rattle.dcsctp_spec_lemmas.specs.spec.queues.SendQueue.{is_other}
use Rattle.dcsctp_spec_lemmas.specs.spec.queues.Transfer.{Transfer, EndpointQueues}
use Rattle.dcsctp_spec_lemmas.proofs.EarlyLemmas.{content_where}
use Rattle.dcsctp_spec_lemmas.proofs.RefusalLemmas.{by_stale_outcome}
use Rattle.dcsctp_spec_runs.specs.Past.{HasEffect}
use Rattle.dcsctp_delivery_directions.specs.sending.Log.{Message}
use Rattle.dcsctp_delivery_directions.specs.directions.Directions.{nothing_asked}
use Rattle.dcsctp_delivery_sockets.specs.turns.Asking.{own_with, own_of_core, own_of, SomeFit}
use Rattle.dcsctp_delivery_sockets.specs.turns.Actions.{ledger_of, content_of_input, IsOpening, opening_queues, kept_inside, Inside, inside, LeadsToLedger, MakesAlso, OwnEnds, unended, committed, rolled_back, PeerResets, unreset, absent, deferred, reset_now, Becomes, goes_on, pauses, prepared_inside, works_resets, renews, ends, begins, collides, IsCall, AcknowledgesNothing, exchange_of}
use Rattle.dcsctp_delivery_sockets.specs.turns.Runs.{OpensSmall}
use Rattle.dcsctp_delivery_sockets.specs.turns.Untouched.{IsUntouched, IsTransferUntouched, IsOfMaker, EchoesMaker}
use Rattle.dcsctp_delivery_sockets.proofs.turns.Fronts.{renewed_fit, own_ends_fit}
use Rattle.dcsctp_delivery_sockets.proofs.turns.Beginnings.{nothing_fits, unlinked_fits}
use Rattle.dcsctp_delivery_sockets.proofs.turns.Handshake.{GoesThere, other_there}
use Rattle.dcsctp_delivery_sockets.proofs.turns.EchoedStays.{echoed_stays}
use Rattle.dcsctp_delivery_sockets.proofs.turns.Connecting.{NoneBegun, none_by, opens_unasked}
use Rattle.dcsctp_delivery_sockets.proofs.turns.Outlasts.{other_begun}
use Rattle.dcsctp_delivery_sockets.proofs.turns.Turns.{turns_are_actions}
use Rattle.dcsctp_delivery_sockets.proofs.turns.Untouched.{untouched_is, of_known, actions_are}

-- ---- what acknowledges

-- A socket that awaits the COOKIE ACK does nothing by a SACK or a SHUTDOWN.
abbrev IsQuiet : Endpoint → Option Content → Outcome → Type 0
IsQuiet e came o = (inside o.after ≡ inside e) ⊎ AcknowledgesNothing came

early_sack : (e : Endpoint) (tag : ℕ) (sack : _) (o : Outcome) → e.options.follow_rfc ≡ true → is_cookie_echoed e.core ≡ true → ContentTurn e tag (plain (unworked (sack_chunk sack))) o → IsQuiet e (Some (plain (unworked (sack_chunk sack)))) o
early_sack e tag sack o follows echoed turn =
    content_where e tag (plain (unworked (sack_chunk sack))) o (λ early dropped. inl (ap (λ (x : Outcome). inside x.after) dropped))
    (λ late handled. absurd (let clash : true ≡ false = sym (ap (λ (b : Bool). b && is_cookie_echoed e.core) follows ∙ echoed) ∙ late in cc)) turn

early_shutdown : (e : Endpoint) (core : Core) (tsn : ℕ) (o : Outcome) → is_cookie_echoed core ≡ true → ShutdownTurn e core tsn o → IsQuiet e (Some (shutdown tsn)) o
early_shutdown e closed tsn o echoed turn = absurd (cc)
early_shutdown e (cookie_wait my) tsn o echoed turn = absurd (cc)
early_shutdown e (cookie_echoed my held cookie) tsn o echoed turn = inl (ap (λ (x : Outcome). inside x.after) turn)
early_shutdown e (open_in phase my held) tsn o echoed turn = absurd (cc)

early_content : (e : Endpoint) (tag : ℕ) (content : Content) (o : Outcome) → e.options.follow_rfc ≡ true → is_cookie_echoed e.core ≡ true → ContentTurn e tag content o → IsQuiet e (Some content) o
early_content e tag (plain (unworked (sack_chunk c))) o follows echoed turn = early_sack e tag c o follows echoed turn
early_content e tag (shutdown tsn) o follows echoed turn = early_shutdown e e.core tsn o echoed turn
early_content e tag (plain (unworked (data_chunk c))) o follows echoed turn = inr (λ tsn may. may)
early_content e tag (plain (unworked (i_data_chunk c))) o follows echoed turn = inr (λ tsn may. may)
early_content e tag (plain (unworked (forward_tsn_chunk t s))) o follows echoed turn = inr (λ tsn may. may)
early_content e tag (plain (unworked (i_forward_tsn_chunk t s))) o follows echoed turn = inr (λ tsn may. may)
early_content e tag (plain (unworked (init_chunk c))) o follows echoed turn = inr (λ tsn may. may)
early_content e tag (plain (unworked (init_ack_chunk c))) o follows echoed turn = inr (λ tsn may. may)
early_content e tag (plain (unworked (heartbeat_chunk c))) o follows echoed turn = inr (λ tsn may. may)
early_content e tag (plain (unworked (heartbeat_ack_chunk c))) o follows echoed turn = inr (λ tsn may. may)
early_content e tag (plain (unworked (abort_chunk t c))) o follows echoed turn = inr (λ tsn may. may)
early_content e tag (plain (unworked (shutdown_chunk c))) o follows echoed turn = inr (λ tsn may. may)
early_content e tag (plain (unworked shutdown_ack_chunk)) o follows echoed turn = inr (λ tsn may. may)
early_content e tag (plain (unworked (error_chunk c))) o follows echoed turn = inr (λ tsn may. may)
early_content e tag (plain (unworked (cookie_echo_chunk c))) o follows echoed turn = inr (λ tsn may. may)
early_content e tag (plain (unworked cookie_ack_chunk)) o follows echoed turn = inr (λ tsn may. may)
early_content e tag (plain (unworked (shutdown_complete_chunk c))) o follows echoed turn = inr (λ tsn may. may)
early_content e tag (plain (unworked (re_config_chunk c))) o follows echoed turn = inr (λ tsn may. may)
early_content e tag (plain (unworked (unknown_chunk t f v))) o follows echoed turn = inr (λ tsn may. may)
early_content e tag (plain (unknown t f v)) o follows echoed turn = inr (λ tsn may. may)
early_content e tag (plain (heartbeat c)) o follows echoed turn = inr (λ tsn may. may)
early_content e tag (plain (heartbeat_ack c)) o follows echoed turn = inr (λ tsn may. may)
early_content e tag (init c) o follows echoed turn = inr (λ tsn may. may)
early_content e tag (init_ack c k) o follows echoed turn = inr (λ tsn may. may)
early_content e tag (cookie_echo c) o follows echoed turn = inr (λ tsn may. may)
early_content e tag cookie_ack o follows echoed turn = inr (λ tsn may. may)
early_content e tag (re_config c) o follows echoed turn = inr (λ tsn may. may)
early_content e tag (abort t c) o follows echoed turn = inr (λ tsn may. may)
early_content e tag shutdown_ack o follows echoed turn = inr (λ tsn may. may)
early_content e tag (shutdown_complete t) o follows echoed turn = inr (λ tsn may. may)

early_input : (e : Endpoint) (input : Input) (o : Outcome) → e.options.follow_rfc ≡ true → is_cookie_echoed e.core ≡ true → Turn e input o → IsQuiet e (content_of_input input) o
early_input e (chunk_input tag content) o follows echoed turn = early_content e tag content o follows echoed turn
early_input e arrival o follows echoed turn = inr (λ tsn may. may)
early_input e (refusal text) o follows echoed turn = inr (λ tsn may. may)
early_input e (packet_begins contents) o follows echoed turn = inr (λ tsn may. may)
early_input e packet_ends o follows echoed turn = inr (λ tsn may. may)
early_input e (act_input act) o follows echoed turn = inr (λ tsn may. may)
early_input e (user_sets setting) o follows echoed turn = inr (λ tsn may. may)
early_input e (user_sends messages) o follows echoed turn = inr (λ tsn may. may)
early_input e (user_resets ids) o follows echoed turn = inr (λ tsn may. may)
early_input e user_takes o follows echoed turn = inr (λ tsn may. may)
early_input e (timer_expires timer) o follows echoed turn = inr (λ tsn may. may)
early_input e (time_passes moment) o follows echoed turn = inr (λ tsn may. may)
early_input e (restores state) o follows echoed turn = inr (λ tsn may. may)

-- What opens an association acknowledges nothing.
opening_quiet : (came : Option Content) → IsOpening came → AcknowledgesNothing came
opening_quiet (Some (init_ack theirs cookie)) opening tsn may = may
opening_quiet (Some (cookie_echo cookie)) opening tsn may = may
opening_quiet None opening tsn may = opening
opening_quiet (Some (init c)) opening tsn may = opening
opening_quiet (Some cookie_ack) opening tsn may = opening
opening_quiet (Some (re_config c)) opening tsn may = opening
opening_quiet (Some (abort t c)) opening tsn may = opening
opening_quiet (Some (shutdown c)) opening tsn may = opening
opening_quiet (Some shutdown_ack) opening tsn may = opening
opening_quiet (Some (shutdown_complete t)) opening tsn may = opening
opening_quiet (Some (plain chunk)) opening tsn may = opening

-- ---- each turn

-- What is kept of our requests fits, once one has ended.
ends_fit : (happened : List Effect) (old new : Inside) → OwnEnds happened old new → SomeFit old.own → SomeFit new.own
ends_fit happened old new ended h =
    let after = own_ends_fit happened old new h.first h.asking ended h.fits in
    record { first = h.first; asking = after.0; fits = after.1 }

-- What is in flight, and what is kept of our requests.
record InsideIs (first : ℕ) (kinds : Capabilities) (i : Inside) : Type 0 where
  left : IsTransferUntouched first kinds i.queues.transfer
  asks : SomeFit i.own

makes_fit : {came : Option Content} {to : ℕ} {adds : List Message → List Message} {taken : List MessageContent → List MessageContent} {packets : List Emission} (old new : Inside) → SomeFit old.own → MakesAlso came to adds taken old packets new → SomeFit new.own
makes_fit {adds = adds} {taken = taken} old new h makes =
    let made = makes [] [] [] h.first h.asking h.fits in record { first = h.first; asking = made.asking; fits = made.fits }

makes_left : (came : Option Content) (to : ℕ) (adds : List Message → List Message) (taken : List MessageContent → List MessageContent) (packets : List Emission) (first : ℕ) (kinds : Capabilities) (old new : Inside) → AcknowledgesNothing came → SomeFit old.own
    → IsTransferUntouched first kinds old.queues.transfer → MakesAlso came to adds taken old packets new → IsTransferUntouched first kinds new.queues.transfer
makes_left came to adds taken packets first kinds old new quiet h left makes =
    let made : LeadsToLedger came to (ledger_of [] old.queues [] [] h.asking) h.first new (exchange_of (adds []) packets (taken [])) = makes [] [] [] h.first h.asking h.fits in
    actions_are first kinds came to (ledger_of [] old.queues [] [] h.asking) (ledger_of (adds []) new.queues packets (taken []) made.asking) quiet left made.actions

-- What a RE-CONFIG does before leaves it.
own_left : (first : ℕ) (kinds : Capabilities) (happened : List Effect) (old new : Inside) → OwnEnds happened old new → IsTransferUntouched first kinds old.queues.transfer → IsTransferUntouched first kinds new.queues.transfer
own_left first kinds happened old _ unended h = h
own_left first kinds happened old new (committed done own is) h = h
own_left first kinds happened old new (rolled_back done own is) h = h

peer_left : (first : ℕ) (kinds : Capabilities) (came : Option Content) (happened : List Effect) (old new : Inside) → PeerResets came happened old new → IsTransferUntouched first kinds old.queues.transfer → IsTransferUntouched first kinds new.queues.transfer
peer_left first kinds came happened old _ (unreset none) h = h
peer_left first kinds came happened old _ (absent gone) h = h
peer_left first kinds came happened old _ (deferred none parameters reset came_is wants transfer known) h = of_known first kinds transfer old.queues.transfer known h
peer_left first kinds came happened old _ (reset_now done parameters reset handled asked transfer reassembly known reached leaves) h = of_known first kinds transfer old.queues.transfer known h

peer_fit : (came : Option Content) (happened : List Effect) (old new : Inside) → PeerResets came happened old new → SomeFit old.own → SomeFit new.own
peer_fit came happened old _ (unreset none) h = h
peer_fit came happened old _ (absent gone) h = h
peer_fit came happened old _ (deferred none parameters reset came_is wants transfer known) h = h
peer_fit came happened old _ (reset_now done parameters reset handled asked transfer reassembly known reached leaves) h = h

-- What a turn leaves: the association stays, and what is in flight stays untouched; or it ends; or another one begins, of which
-- nothing was acknowledged, or which has connected.
pub data Leaves (e : Endpoint) (o : Outcome) : Type 0 where
  link_stays : identity_of_core o.after.core ≡ identity_of_core e.core → SomeFit (own_of o.after)
      → ((first : ℕ) (kinds : Capabilities) → e.options.follow_rfc ≡ true → is_cookie_echoed e.core ≡ true → IsTransferUntouched first kinds e.queues.transfer → IsTransferUntouched first kinds o.after.queues.transfer)
      → ((first : ℕ) → e.options.follow_rfc ≡ true → is_cookie_echoed e.core ≡ true → is_cookie_echoed o.after.core ≡ true → NoneBegun first (own_of e) → NoneBegun first (own_of o.after)) → Leaves e o
  link_ends : identity_of_core o.after.core ≡ None → SomeFit (own_of o.after) → Leaves e o
  link_begins : (link : AssociationIdentity) → identity_of_core o.after.core ≡ Some link → SomeFit (own_of o.after) → IsTransferUntouched link.my.first_tsn link.capabilities o.after.queues.transfer
      → (e.options.follow_rfc ≡ true → NoneBegun link.my.first_tsn (own_of o.after) ⊎ HasEffect (connects link) o.effects) → Leaves e o
  link_connects : (link : AssociationIdentity) → identity_of_core o.after.core ≡ Some link → SomeFit (own_of o.after) → HasEffect (connects link) o.effects → Leaves e o

-- Where the association stays, no request of ours was begun.
none_then : (e : Endpoint) (input : Input) (o : Outcome) → IsCall input → Turn e input o → (first : ℕ) → e.options.follow_rfc ≡ true → is_cookie_echoed e.core ≡ true → is_cookie_echoed o.after.core ≡ true → NoneBegun first (own_of e) → NoneBegun first (own_of o.after)
none_then e input o may turn first follows echoed still none = by_core e.core refl echoed
  where
    by_core : (core : Core) → e.core ≡ core → is_cookie_echoed core ≡ true → NoneBegun first (own_of o.after)
    by_core closed at is = absurd (cc)
    by_core (cookie_wait my) at is = absurd (cc)
    by_core (cookie_echoed my held cookie) at is =
        let was = none (own_with held e.outstanding) (ap (λ (c : Core). own_of_core c e.outstanding) at) in
        elim (echoed_stays e (record { follows = follows; echoed = echoed }) my held cookie at was.1 input o may turn) [
          | inl same ↦ none_by first o.after.core my held cookie o.after.outstanding (same ∙ at) was.0 was.1
          | inr gone ↦ absurd (let clash : true ≡ false = sym still ∙ gone in cc)
        ]
    by_core (open_in phase my held) at is = absurd (cc)

module _ (e : Endpoint) (input : Input) (o : Outcome) (small : OpensSmall e input o) (fits : SomeFit (own_of e)) (quiet : e.options.follow_rfc ≡ true → is_cookie_echoed e.core ≡ true → IsQuiet e (content_of_input input) o)
    (may : IsCall input) (turn : Turn e input o) where
  -- It is as before, or actions lead there.
  stays : identity_of_core o.after.core ≡ identity_of_core e.core → SomeFit (own_of o.after)
      → ((first : ℕ) (kinds : Capabilities) → AcknowledgesNothing (content_of_input input) → IsTransferUntouched first kinds e.queues.transfer → IsTransferUntouched first kinds o.after.queues.transfer) → Leaves e o
  stays linked fit leads =
      link_stays linked fit (λ first kinds follows echoed h. elim (quiet follows echoed) [
        | inl same ↦ subst (λ (i : Inside). IsTransferUntouched first kinds i.queues.transfer) (sym same) h
        | inr none ↦ leads first kinds none h
      ]) (none_then e input o may turn)

  leaves_so : {resets : Option (List ℕ)} {to : ℕ} {adds : List Message → List Message} {taken : List MessageContent → List MessageContent} → Becomes resets (content_of_input input) to adds taken e o → Leaves e o
  leaves_so (goes_on calm linked makes) = stays linked (makes_fit (inside e) (inside o.after) fits makes) (λ first kinds none h. makes_left _ _ _ _ _ first kinds (inside e) (inside o.after) none fits h makes)
  leaves_so (pauses ids resets calm accepted linked small' makes) =
      stays linked (makes_fit (prepared_inside ids (inside e)) (inside o.after) fits makes) (λ first kinds none h. makes_left _ _ _ _ _ first kinds (prepared_inside ids (inside e)) (inside o.after) none fits h makes)
  leaves_so (works_resets linked between worked ended peer makes) =
      let fit : SomeFit worked.own = peer_fit (content_of_input input) o.effects between worked peer (ends_fit o.effects (inside e) between ended fits) in
      stays linked (makes_fit worked (inside o.after) fit makes)
      (λ first kinds none h. makes_left _ _ _ _ _ first kinds worked (inside o.after) none fit (peer_left first kinds (content_of_input input) o.effects between worked peer (own_left first kinds o.effects (inside e) between ended h)) makes)
  leaves_so (renews calm linked alike unread own number emission kept out is packets tag contents) =
      stays linked (renewed_fit (own_of e) (own_of o.after) own number kept out (ap (λ (i : Inside). i.own) is) fits)
      (λ first kinds none h. subst (λ (i : Inside). IsTransferUntouched first kinds i.queues.transfer) (sym is) h)
  leaves_so (ends none unread silent last own makes is) = link_ends none (unlinked_fits o.after.core o.after.outstanding none)
  leaves_so (begins begun opening linked unqueued unread again makes) =
      let start : Inside = record { queues = opening_queues e o begun; own = Some (record { number = None; next = begun.my.first_tsn; again = again }) } in
      let fit : SomeFit start.own = record { first = begun.my.first_tsn; asking = nothing_asked; fits = nothing_fits begun.my.first_tsn again (small begun opening linked) } in
      link_begins (identity_of begun.my begun.held) linked (makes_fit {adds = λ queued. queued} {taken = λ read. read} start (inside o.after) fit makes)
      (makes_left (content_of_input input) _ (λ queued. queued) (λ read. read) _ begun.my.first_tsn begun.held.capabilities start (inside o.after) (opening_quiet (content_of_input input) opening) fit ((refl, refl, tt), refl) makes)
      (λ follows. opens_unasked e input o (identity_of begun.my begun.held) begun.later follows opening turn begun.noted)
  leaves_so (collides collision unqueued unread again makes) =
      let fit : SomeFit (kept_inside collision again).own =
      record { first = collision.opened.link.my.first_tsn; asking = nothing_asked; fits = nothing_fits collision.opened.link.my.first_tsn again (small (other_begun e input o collision) collision.opened.opening collision.opened.linked) } in
      link_connects collision.opened.link collision.opened.linked (makes_fit {adds = λ queued. queued} {taken = λ read. read} (kept_inside collision again) (inside o.after) fit makes) collision.connected

pub turn_leaves : (e : Endpoint) (input : Input) (o : Outcome) → OpensSmall e input o → SomeFit (own_of e) → IsCall input → Turn e input o → Leaves e o
turn_leaves e input o small fits may turn = leaves_so e input o small fits (λ follows echoed. early_input e input o follows echoed turn) may turn (turns_are_actions e input o may turn)

-- ---- the collision

not_other : (one other : Bool) → one ≡ other → not (is_other one other) ≡ true
not_other true other is = subst (λ (b : Bool). not (is_other true b) ≡ true) is refl
not_other false other is = subst (λ (b : Bool). not (is_other false b) ≡ true) is refl

all_so : (f t a r u i p : Bool) → f ≡ true → t ≡ true → a ≡ true → r ≡ true → u ≡ true → i ≡ true → p ≡ true → ((f && t) && ((a && r) && (u && i && p))) ≡ true
all_so false t a r u i p is_f is_t is_a is_r is_u is_i is_p = absurd (cc)
all_so true false a r u i p is_f is_t is_a is_r is_u is_i is_p = absurd (cc)
all_so true true false r u i p is_f is_t is_a is_r is_u is_i is_p = absurd (cc)
all_so true true true false u i p is_f is_t is_a is_r is_u is_i is_p = absurd (cc)
all_so true true true true false i p is_f is_t is_a is_r is_u is_i is_p = absurd (cc)
all_so true true true true true false p is_f is_t is_a is_r is_u is_i is_p = absurd (cc)
all_so true true true true true true false is_f is_t is_a is_r is_u is_i is_p = absurd (cc)
all_so true true true true true true true is_f is_t is_a is_r is_u is_i is_p = refl

-- By the table an association that exists isn't set up as one where there is none, and restarts only where the header has another tag.
not_new : (old own peer tie zero : Bool) → aged_resolution old (case_by_answers own peer tie zero) ≡ establish_new → ⊥
not_new true true true tie zero e = cc
not_new true true false tie zero e = cc
not_new true false true tie true e = cc
not_new true false true tie false e = cc
not_new true false false true zero e = cc
not_new true false false false zero e = cc
not_new false true true tie zero e = cc
not_new false true false tie zero e = cc
not_new false false true tie true e = cc
not_new false false true tie false e = cc
not_new false false false true zero e = cc
not_new false false false false zero e = cc

restarts_other : (old own peer tie zero : Bool) → aged_resolution old (case_by_answers own peer tie zero) ≡ restart → own ≡ false
restarts_other old false peer tie zero e = refl
restarts_other true true true tie zero e = absurd (cc)
restarts_other true true false tie zero e = absurd (cc)
restarts_other false true true tie zero e = absurd (cc)
restarts_other false true false tie zero e = absurd (cc)

first_held : {one other : AssociationIdentity} {effects later : List Effect} → holds one ∷ effects ≡ holds other ∷ later → one ≡ other
first_held is = cc

module _ (e : Endpoint) (mine : Pair) (held : Held) (echoed : List ℕ) (same : e.core ≡ cookie_echoed mine held echoed) (follows : e.options.follow_rfc ≡ true) (transfer : Transfer) (there : e.queues.transfer ≡ Some transfer)
    (untouched : IsUntouched mine.first_tsn held.capabilities transfer.retransmission) (unasked : held.own_next ≡ mine.first_tsn) (link : AssociationIdentity) (later : List Effect) (mine_is : link.my ≡ mine) (alike : held.capabilities ≡ link.capabilities) where
  lasts : (cookie : Cookie) → identity_of cookie.maker (held_by_cookie e.options cookie) ≡ link → outlasts e mine held cookie transfer ≡ true
  lasts cookie is =
      let maker : mine ≡ cookie.maker = sym mine_is ∙ ap (λ (l : AssociationIdentity). l.my) (sym is) in
      let kinds : held.capabilities ≡ (held_by_cookie e.options cookie).capabilities = alike ∙ ap (λ (l : AssociationIdentity). l.capabilities) (sym is) in
      all_so e.options.follow_rfc (mine.tag == cookie.maker.tag) (held.own_next == mine.first_tsn) _ _ _ _ follows
      (eq-eqb mine.tag cookie.maker.tag (ap (λ (p : Pair). p.tag) maker)) (eq-eqb held.own_next mine.first_tsn unasked)
      (not_other held.capabilities.reconfig (held_by_cookie e.options cookie).capabilities.reconfig (ap (λ (c : Capabilities). c.reconfig) kinds))
      (subst (λ (p : Pair). is_untouched p.first_tsn transfer.retransmission.outstanding ≡ true) maker (untouched_is mine.first_tsn held.capabilities transfer.retransmission untouched))
      (not_other transfer.retransmission.outstanding.is_interleaved (held_by_cookie e.options cookie).capabilities.message_interleaving (untouched.0.1 ∙ ap (λ (c : Capabilities). c.message_interleaving) kinds))
      (not_other transfer.retransmission.partial_reliability (held_by_cookie e.options cookie).capabilities.partial_reliability (untouched.1 ∙ ap (λ (c : Capabilities). c.partial_reliability) kinds))

  module _ (bytes : List ℕ) (header : ℕ) (cookie : Cookie) (under : header ≡ cookie.maker.tag) (word : ℕ) (answers : List Answer) where
    abbrev There : Outcome → Type 0
    There o = o.effects ≡ holds link ∷ later → GoesThere (Some (cookie_echo bytes)) e o

    collides_so : identity_of cookie.maker (held_by_cookie e.options cookie) ≡ link → EstablishAnswers e cookie (queues_collided e (cookie_echoed mine held echoed) cookie) word answers
        → GoesThere (Some (cookie_echo bytes)) e (establish_with_flush (flush_answered answers) e cookie (queues_collided e (cookie_echoed mine held echoed) cookie) word (connected ∷ []))
    collides_so is allowed =
        let queues_are : queues_collided e (cookie_echoed mine held echoed) cookie ≡ queues_if_kept true e cookie transfer =
        ap (queues_for_other e mine held cookie) there ∙ ap (λ (b : Bool). queues_if_kept b e cookie transfer) (lasts cookie is) in
        subst (λ (q : EndpointQueues). GoesThere (Some (cookie_echo bytes)) e (establish_with_flush (flush_answered answers) e cookie q word (connected ∷ []))) (sym queues_are)
        (other_there (Some (cookie_echo bytes)) (λ parameters is'. absurd (cc)) 0 tt e mine held echoed cookie word transfer answers same there (lasts cookie is)
        (subst (λ (q : EndpointQueues). EstablishAnswers e cookie q word answers) queues_are allowed))

    own_header : identity_of cookie.maker (held_by_cookie e.options cookie) ≡ link → (header == mine.tag) ≡ true
    own_header is = eq-eqb header mine.tag (under ∙ ap (λ (l : AssociationIdentity). l.my.tag) is ∙ ap (λ (p : Pair). p.tag) mine_is)

    resolved_there : (old : Bool) (resolution : Resolution) → aged_resolution old (case_by_answers (header == mine.tag) (cookie.addressee.tag == held.peer.tag) (cookie.tie == e.tie) (cookie.tie == e.secret)) ≡ resolution
        → ResolvedAnswers e cookie (cookie_echoed mine held echoed) word resolution answers → There (resolve_with_flush (flush_answered answers) e cookie (cookie_echoed mine held echoed) word resolution)
    resolved_there old establish_new resolved allowed noted = absurd (not_new old (header == mine.tag) (cookie.addressee.tag == held.peer.tag) (cookie.tie == e.tie) (cookie.tie == e.secret) resolved)
    resolved_there old restart resolved allowed noted =
        absurd (let clash : true ≡ false = sym (own_header (first_held noted)) ∙ restarts_other old (header == mine.tag) (cookie.addressee.tag == held.peer.tag) (cookie.tie == e.tie) (cookie.tie == e.secret) resolved in cc)
    resolved_there old simultaneous_init resolved allowed noted = collides_so (first_held noted) allowed
    resolved_there old discard resolved allowed noted = absurd (cc)
    resolved_there old maintain_existing resolved allowed noted = absurd (cc)
    resolved_there old invalid_tag resolved allowed noted = absurd (cc)
    resolved_there old stale resolved allowed noted =
        by_stale_outcome (λ (x : Outcome). x.effects ≡ holds link ∷ later → GoesThere (Some (cookie_echo bytes)) e x) e cookie (λ none. absurd (cc)) (λ none. absurd (cc)) noted

  echo_there : (header : ℕ) (bytes : List ℕ) (o : Outcome) → IsOfMaker header bytes → ContentTurn e header (cookie_echo bytes) o → o.effects ≡ holds link ∷ later → GoesThere (Some (cookie_echo bytes)) e o
  echo_there header bytes o maker (word, answers, allowed, is) noted =
      let allowed' : EchoedAnswers e (cookie_echoed mine held echoed) header (Ok maker.cookie) word answers =
      subst (λ (c : Core). EchoedAnswers e c header (Ok maker.cookie) word answers) same (subst (λ (r : Result Cookie (List ℕ)). EchoedAnswers e e.core header r word answers) maker.reads allowed) in
      let is' : o ≡ cookie_echo_with_flush (flush_answered answers) e (cookie_echoed mine held echoed) header (Ok maker.cookie) word =
      is ∙ ap (λ (r : Result Cookie (List ℕ)). cookie_echo_with_flush (flush_answered answers) e e.core header r word) maker.reads ∙ ap (λ (c : Core). cookie_echo_with_flush (flush_answered answers) e c header (Ok maker.cookie) word) same in
      subst (GoesThere (Some (cookie_echo bytes)) e) (sym is')
      (resolved_there bytes header maker.cookie maker.under word answers (is_spent e (cookie_echoed mine held echoed) header maker.cookie) (resolved_now e (cookie_echoed mine held echoed) header maker.cookie) refl allowed' (ap (λ (x : Outcome). x.effects) (sym is') ∙ noted))

  -- An association with the same own pair takes the place of the one that is there, and what was sent goes on.
  pub goes_there : (input : Input) (o : Outcome) → EchoesMaker input → IsOpening (content_of_input input) → Turn e input o → o.effects ≡ holds link ∷ later → GoesThere (content_of_input input) e o
  goes_there (chunk_input tag (cookie_echo bytes)) o maker opening turn noted = echo_there tag bytes o maker turn noted
  goes_there (chunk_input tag (init_ack theirs cookie)) o maker opening turn noted =
      absurd (let none : o.effects ≡ [] = ap (λ (x : Outcome). x.effects) (turn.3 ∙ ap (λ (c : Core). init_ack_with_flush (flush_answered turn.1) e theirs cookie c turn.0) same) in let clash : ◌≡◌ {A = List Effect} [] (holds link ∷ later) = sym none ∙ noted in cc)
  goes_there (chunk_input tag (init c)) o maker opening turn noted = absurd opening
  goes_there (chunk_input tag cookie_ack) o maker opening turn noted = absurd opening
  goes_there (chunk_input tag (re_config c)) o maker opening turn noted = absurd opening
  goes_there (chunk_input tag (abort t c)) o maker opening turn noted = absurd opening
  goes_there (chunk_input tag (shutdown c)) o maker opening turn noted = absurd opening
  goes_there (chunk_input tag shutdown_ack) o maker opening turn noted = absurd opening
  goes_there (chunk_input tag (shutdown_complete t)) o maker opening turn noted = absurd opening
  goes_there (chunk_input tag (plain chunk)) o maker opening turn noted = absurd opening
  goes_there arrival o maker opening turn noted = absurd opening
  goes_there (refusal text) o maker opening turn noted = absurd opening
  goes_there (packet_begins contents) o maker opening turn noted = absurd opening
  goes_there packet_ends o maker opening turn noted = absurd opening
  goes_there (act_input act) o maker opening turn noted = absurd opening
  goes_there (user_sets setting) o maker opening turn noted = absurd opening
  goes_there (user_sends messages) o maker opening turn noted = absurd opening
  goes_there (user_resets ids) o maker opening turn noted = absurd opening
  goes_there user_takes o maker opening turn noted = absurd opening
  goes_there (timer_expires timer) o maker opening turn noted = absurd opening
  goes_there (time_passes moment) o maker opening turn noted = absurd opening
  goes_there (restores state) o maker opening turn noted = absurd opening
