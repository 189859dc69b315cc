-- The turn of RE-CONFIG, as actions (RFC 6525, section 5.2).
use Rattle.dcsctp_spec_lemmas.specs.spec.association.Effect as effects
use Rattle.std.proofs.Common.{◌≡◌, ℕ, Bool, true, false, cond, Option, None, Some, List, [], ◌∷◌, ◌++◌, refl, sym, ◌∙◌, subst, ap}
use Rattle.std.specs.Prelude.{◌&&◌}
use Rattle.dcsctp_spec_lemmas.specs.types.declared.association.Pair.{Pair}
use Rattle.dcsctp_spec_lemmas.specs.types.declared.association.Held.{Held}
use Rattle.dcsctp_spec_lemmas.specs.types.declared.kinds.ErrorKind.TheVariants.{ProtocolViolation}
use Rattle.dcsctp_spec_lemmas.specs.spec.endpoint.Event.{Event, error, packets_of_events}
use Rattle.dcsctp_spec_lemmas.specs.spec.Packet.{Content, re_config, Emission}
use Rattle.dcsctp_spec_lemmas.specs.spec.Reconfiguration.{RequestState, early, RequestedReset, ResetParameter}
use Rattle.dcsctp_spec_lemmas.specs.spec.endpoint.Endpoint.{Endpoint, Core, closed, cookie_wait, cookie_echoed, open_in, OutstandingRequest}
use Rattle.dcsctp_spec_lemmas.specs.spec.endpoint.Outcome.{Outcome, still, to_peer}
use Rattle.dcsctp_spec_lemmas.specs.spec.association.Effect.{Effect}
use Rattle.dcsctp_spec_lemmas.specs.spec.association.ResetChanges.{is_due, HandledParameters}
use Rattle.dcsctp_spec_lemmas.specs.spec.queues.Transfer.{Transfer, EndpointQueues}
use Rattle.dcsctp_spec_lemmas.specs.spec.endpoint.FlushOutcomes.{Answer, draft_to, flush_of, first_ask, packets_allowed}
use Rattle.dcsctp_spec_lemmas.specs.spec.endpoint.ReconfigurationOutcomes.{reset_again}
use Rattle.dcsctp_spec_lemmas.specs.spec.endpoint.ResetOutcomes.{own_moved, waiting, has_completed, first_reset_request, is_renewal, first_request_number, state_if_renewed, request_state, renewable_left, handled_parameters_of, has_reset, answers_in_progress, ResetsInQueues, OwnAnswer, unanswered, retried, was_performed, has_failed, answer_to_own, own_streams, their_streams, reset_events, reset_events_of, resets_handled, reset_refusal_text, responses_outcome, responses_unless_refused, ResponseAnswers, HandlesResets, ResetTurn, is_request_reached, core_with}
use Rattle.dcsctp_theorem_sockets.proofs.Bursts.{packets_of_events-append, emits_core}
use Rattle.dcsctp_delivery_sockets.specs.turns.Actions.{Inside, inside, MakesPackets, has_refused, OwnEnds, unended, committed, rolled_back, PeerResets, unreset, absent, deferred, reset_now, works_resets}
use Rattle.dcsctp_delivery_sockets.specs.turns.Asking.{Own, own_with, own_of_core, own_of}
use Rattle.std.specs.Option.{option_map}
use Rattle.dcsctp_spec_lemmas.proofs.FlushKeeps.{begun_by, flush_keeps}
use Rattle.dcsctp_delivery_directions.specs.sending.Flushes.{NoRequests}
use Rattle.dcsctp_spec_laws.proofs.ResetLemmas.{KeepsPeer, chunk_brings, worked_keeps}
use Rattle.dcsctp_spec_lemmas.specs.types.declared.capabilities.Capabilities.{Capabilities}
use Rattle.dcsctp_spec_lemmas.specs.spec.association.Effect.{AssociationIdentity, identity_of, identity_of_core}
use Rattle.dcsctp_spec_lemmas.proofs.OneAnswerLemmas.{answered_by}
use Rattle.dcsctp_delivery_sockets.proofs.turns.Tags.{flush_link}
use Rattle.dcsctp_delivery_sockets.specs.turns.Tags.{IsPeerTag}
use Rattle.dcsctp_delivery_sockets.proofs.turns.Actions.{emits_link, Goes, MakesTo, both, rests, silent, emitted, flushed}
use Rattle.dcsctp_delivery_sockets.proofs.turns.Performed.{completed_among, refused_among, chunk_says, reset_in_front, begun_none, chunk_performs, chunk_answers, Stays, own_stays}

events_none : (theirs own : List ℕ) (happened : List Effect) → packets_of_events (reset_events theirs own happened) ≡ []
events_none theirs own [] = refl
events_none theirs own (effects.draws pair ∷ happened) = events_none theirs own happened
events_none theirs own (effects.sends packet ∷ happened) = events_none theirs own happened
events_none theirs own (effects.holds link ∷ happened) = events_none theirs own happened
events_none theirs own (effects.connects link ∷ happened) = events_none theirs own happened
events_none theirs own (effects.ends ∷ happened) = events_none theirs own happened
events_none theirs own (effects.begins number ∷ happened) = events_none theirs own happened
events_none theirs own (effects.gives_up number ∷ happened) = events_none theirs own happened
events_none theirs own (effects.completes my number ∷ happened) = events_none theirs own happened
events_none theirs own (effects.fails number ∷ happened) = events_none theirs own happened
events_none theirs own (effects.accepts number ∷ happened) = events_none theirs own happened
events_none theirs own (effects.performs peer number ∷ happened) = events_none theirs own happened
events_none theirs own (effects.renews peer number ∷ happened) = events_none theirs own happened
events_none theirs own (effects.resumes link first last ∷ happened) = events_none theirs own happened

abbrev the_link : AssociationIdentity → Option AssociationIdentity
the_link link = Some link

with_peer_link : (own my : Pair) (before old held : Held) → the_link (identity_of own before) ≡ Some (identity_of my old) → KeepsPeer old held → the_link (identity_of own held) ≡ Some (identity_of my old)
with_peer_link own my before old held is keeps =
    let same : identity_of own before ≡ identity_of my old = cc in
    let mine : own ≡ my = ap (λ (l : AssociationIdentity). l.my) same in
    ap (λ (p : Pair). the_link (record { my = p; peer = held.peer; capabilities = held.capabilities })) mine
    ∙ ap (λ (p : Pair). the_link (record { my = my; peer = p; capabilities = held.capabilities })) keeps.peer
    ∙ ap (λ (c : Capabilities). the_link (record { my = my; peer = old.peer; capabilities = c })) keeps.capabilities

-- ---- what the peer answers

-- the inside of an endpoint once its own request got this answer, with this known of the peer
abbrev moved_inside : OwnAnswer → Endpoint → Held → Inside
moved_inside answer e held = record { queues = (own_moved answer e).queues; own = Some (own_with held (own_moved answer e).outstanding) }

waits_same : (request : Option OutstandingRequest) → reset_again (option_map waiting request) ≡ reset_again request
waits_same None = refl
waits_same (Some request) = refl

-- a request of ours with these three
abbrev some_own : Option ℕ → ℕ → RequestedReset → Option Own
some_own number next again = Some (record { number = number; next = next; again = again })

own_same : (old new : Held) (again other : RequestedReset) → new.own_outstanding ≡ old.own_outstanding → new.own_next ≡ old.own_next → again ≡ other
    → some_own old.own_outstanding old.own_next other ≡ some_own new.own_outstanding new.own_next again
own_same old new again other number next same =
    sym (ap (λ (n : Option ℕ). some_own n new.own_next again) number ∙ ap (λ (n : ℕ). some_own old.own_outstanding n again) next ∙ ap (some_own old.own_outstanding old.own_next) same)

own_ended : (old new : Held) → new.own_outstanding ≡ None → new.own_next ≡ old.own_next → some_own None old.own_next (reset_again None) ≡ some_own new.own_outstanding new.own_next (reset_again None)
own_ended old new none next =
    sym (ap (λ (n : Option ℕ). some_own n new.own_next (reset_again None)) none ∙ ap (λ (n : ℕ). some_own None n (reset_again None)) next)

ends_to : (happened : List Effect) (old : Inside) (below : EndpointQueues) (own other : Option Own) → own ≡ other → OwnEnds happened old (record { queues = below; own = own }) → OwnEnds happened old (record { queues = below; own = other })
ends_to happened old below own other is ends = subst (λ (o : Option Own). OwnEnds happened old (record { queues = below; own = o })) is ends

own_ends : (answer : OwnAnswer) (e : Endpoint) (old new : Held) (performed refused : Bool) (happened : List Effect) → Stays answer old.own_outstanding new.own_outstanding performed refused → new.own_next ≡ old.own_next
    → own_of e ≡ Some (own_with old e.outstanding) → (performed ≡ true → has_completed happened ≡ true) → (refused ≡ true → has_refused happened ≡ true) → OwnEnds happened (inside e) (moved_inside answer e new)
own_ends unanswered e old new performed refused happened stays next is completes refuses =
    ends_to happened (inside e) e.queues _ _ (is ∙ own_same old new (reset_again e.outstanding) (reset_again e.outstanding) stays next refl) unended
own_ends retried e old new performed refused happened stays next is completes refuses =
    ends_to happened (inside e) e.queues _ _ (is ∙ own_same old new (reset_again (option_map waiting e.outstanding)) (reset_again e.outstanding) stays next (waits_same e.outstanding)) unended
own_ends was_performed e old new performed refused happened stays next is completes refuses =
    ends_to happened (inside e) _ _ _ (own_ended old new stays.0 next) (committed (completes stays.1) (own_with old e.outstanding) is)
own_ends has_failed e old new performed refused happened stays next is completes refuses =
    ends_to happened (inside e) _ _ _ (own_ended old new stays.0 next) (rolled_back (refuses stays.1) (own_with old e.outstanding) is)

moved_transfer : (answer : OwnAnswer) (e : Endpoint) → (own_moved answer e).queues.transfer ≡ e.queues.transfer
moved_transfer unanswered e = refl
moved_transfer retried e = refl
moved_transfer was_performed e = refl
moved_transfer has_failed e = refl

-- ---- what the peer asks

-- with that in flight and received
abbrev with_left : Option Transfer → Inside → Inside
with_left left old = record old { queues = record old.queues { transfer = left } }

same_left : (came : Option Content) (happened : List Effect) (old : Inside) (left : Option Transfer) → left ≡ old.queues.transfer → PeerResets came happened old old → PeerResets came happened old (with_left left old)
same_left came happened old left is resets = subst (λ (l : Option Transfer). PeerResets came happened old (with_left l old)) (sym is) resets

no_reset : (came : Option Content) (happened : List Effect) (old : Inside) (transfer left : Option Transfer) → has_reset happened ≡ false → old.queues.transfer ≡ transfer → left ≡ transfer
    → PeerResets came happened old (with_left left old)
no_reset came happened old transfer left none known same = same_left came happened old left (same ∙ sym known) (unreset none)

peer_resets : (parameters : List ResetParameter) (happened : List Effect) (performed in_progress : Bool) (reset : Option RequestedReset) (transfer left : Option Transfer) (old : Inside) → has_reset happened ≡ performed → first_reset_request parameters ≡ reset
    → old.queues.transfer ≡ transfer → (performed ≡ true → (is_request_reached transfer reset ≡ true) × ((one : RequestedReset) × (reset ≡ Some one)))
    → ResetsInQueues performed in_progress reset transfer left → PeerResets (Some (re_config parameters)) happened old (with_left left old)
peer_resets parameters happened true in_progress (Some reset) (Some transfer) left old has asked known reached below =
    subst (λ (l : Option Transfer). PeerResets (Some (re_config parameters)) happened old (with_left l old)) (sym (below.1 ∙ ap (λ (t : Transfer). Some t) below.2.rest))
    (reset_now has parameters reset refl asked transfer below.0.reassembly known (reached refl).0 below.2.reassembly)
peer_resets parameters happened true in_progress (Some reset) None left old has asked known reached below = same_left _ happened old left (below ∙ sym known) (absent known)
peer_resets parameters happened true in_progress None transfer left old has asked known reached below = (let none : None ≡ Some (reached refl).1.0 = (reached refl).1.1 in absurd (cc))
peer_resets parameters happened false true (Some reset) (Some transfer) left old has asked known reached below =
    subst (λ (l : Option Transfer). PeerResets (Some (re_config parameters)) happened old (with_left l old)) (sym below) (deferred has parameters reset refl asked transfer known)
peer_resets parameters happened false true (Some reset) None left old has asked known reached below = no_reset _ happened old None left has known below
peer_resets parameters happened false true None (Some transfer) left old has asked known reached below = no_reset _ happened old (Some transfer) left has known below
peer_resets parameters happened false true None None left old has asked known reached below = no_reset _ happened old None left has known below
peer_resets parameters happened false false (Some reset) (Some transfer) left old has asked known reached below = no_reset _ happened old (Some transfer) left has known below
peer_resets parameters happened false false (Some reset) None left old has asked known reached below = no_reset _ happened old None left has known below
peer_resets parameters happened false false None (Some transfer) left old has asked known reached below = no_reset _ happened old (Some transfer) left has known below
peer_resets parameters happened false false None None left old has asked known reached below = no_reset _ happened old None left has known below

-- ---- how it is answered

module _ (came : Option Content) (to : ℕ) where
  responses_make : (e : Endpoint) (held : Held) (responses : List ResetParameter) → NoRequests responses → MakesTo came to (inside e) (responses_outcome e held responses)
  responses_make e held [] none = rests came to (inside e)
  responses_make e held (response ∷ responses) none =
      let emission : Emission = to_peer held (re_config (response ∷ responses)) in
      answered_by (MakesTo came to (inside e)) e emission (rests came to (inside e)) (emitted came to e [] emission (none, tt) tt (tt, tt))

  responses_peer : (e : Endpoint) (held : Held) (responses : List ResetParameter) → IsPeerTag e.core to → IsPeerTag (responses_outcome e held responses).after.core to
  responses_peer e held [] at = at
  responses_peer e held (response ∷ responses) at =
      let emission : Emission = to_peer held (re_config (response ∷ responses)) in
      answered_by (λ (o : Outcome). IsPeerTag o.after.core to) e emission at (subst (λ (c : Core). IsPeerTag c to) (sym (emits_core e [] emission)) at)

  with_peer : (core : Core) (held : Held) → IsPeerTag core to → held.peer.tag ≡ to → IsPeerTag (core_with core held) to
  with_peer closed held at is = tt
  with_peer (cookie_wait my) held at is = tt
  with_peer (cookie_echoed my old cookie) held at is = is
  with_peer (open_in phase my old) held at is = is

  sent_makes : (refused : Bool) (e : Endpoint) (told : List (Event Emission)) (held : Held) (parameters responses : List ResetParameter) (answers : List Answer) → IsPeerTag e.core to → held.peer.tag ≡ to → packets_of_events told ≡ [] → NoRequests responses
      → ResponseAnswers refused e held responses answers → MakesTo came to (inside e) (responses_unless_refused refused e told held parameters responses answers)
  sent_makes true e told held parameters responses answers at tag none no_request allowed =
      silent came to (inside e) (packets_of_events (told ++ error ProtocolViolation (reset_refusal_text parameters) ∷ [])) (packets_of_events-append told (error ProtocolViolation (reset_refusal_text parameters) ∷ []) ∙ ap (λ (l : List Emission). l ++ []) none)
  sent_makes false e told held parameters responses answers at tag none no_request allowed =
      let first : Outcome = responses_outcome e held responses in
      let last : Outcome = flush_of first.after (draft_to held) answers in
      let fronts : packets_of_events (told ++ first.events) ≡ packets_of_events first.events = packets_of_events-append told first.events ∙ ap (λ (l : List Emission). l ++ packets_of_events first.events) none in
      subst (λ (l : List Emission). MakesPackets came to (inside e) l (inside last.after))
      (sym (packets_of_events-append (told ++ first.events) last.events ∙ ap (λ (l : List Emission). l ++ packets_of_events last.events) fronts))
      (both came to (inside e) (inside first.after) (inside last.after) (packets_of_events first.events) (packets_of_events last.events) (responses_make e held responses no_request) (flushed came to first.after (draft_to held) answers (responses_peer e held responses at) tag tt tt tt tt allowed))

  responses_link : (e : Endpoint) (held : Held) (responses : List ResetParameter) → identity_of_core (responses_outcome e held responses).after.core ≡ identity_of_core e.core
  responses_link e held [] = refl
  responses_link e held (response ∷ responses) =
      let emission : Emission = to_peer held (re_config (response ∷ responses)) in
      answered_by (λ (o : Outcome). identity_of_core o.after.core ≡ identity_of_core e.core) e emission refl (emits_link e [] emission)

  sent_link : (refused : Bool) (e : Endpoint) (told : List (Event Emission)) (held : Held) (parameters responses : List ResetParameter) (answers : List Answer) → ResponseAnswers refused e held responses answers
      → identity_of_core (responses_unless_refused refused e told held parameters responses answers).after.core ≡ identity_of_core e.core
  sent_link true e told held parameters responses answers allowed = refl
  sent_link false e told held parameters responses answers allowed =
      flush_link (responses_outcome e held responses).after (draft_to held) answers allowed ∙ responses_link e held responses

  -- What is known of the peer changes, but not the association.
  with_link : (core : Core) (my : Pair) (old held : Held) → identity_of_core core ≡ Some (identity_of my old) → KeepsPeer old held → identity_of_core (core_with core held) ≡ Some (identity_of my old)
  with_link closed my old held is keeps = absurd (cc)
  with_link (cookie_wait own) my old held is keeps = absurd (cc)
  with_link (cookie_echoed own before cookie) my old held is keeps = with_peer_link own my before old held is keeps
  with_link (open_in phase own before) my old held is keeps = with_peer_link own my before old held is keeps

  -- The flush resets none of the peer's streams.
  sent_none : (refused : Bool) (e : Endpoint) (told : List (Event Emission)) (held : Held) (parameters responses : List ResetParameter) (answers : List Answer) → ResponseAnswers refused e held responses answers
      → has_reset (responses_unless_refused refused e told held parameters responses answers).effects ≡ false
  sent_none true e told held parameters responses answers allowed = refl
  sent_none false e told held parameters responses answers allowed =
      let base : Endpoint = (responses_outcome e held responses).after in
      ap has_reset (flush_keeps first_ask (packets_allowed base.options.max_burst base.core) base (draft_to held) answers allowed).effects ∙ begun_none (begun_by answers)

-- ---- what is performed was reached

reached_by : (reached is_renewed : Bool) → is_due (cond reached (state_if_renewed is_renewed) early) ≡ true → reached ≡ true
reached_by true is_renewed is = refl
reached_by false is_renewed is = absurd (cc)

due_reached : (e : Endpoint) (held : Held) (parameters : List ResetParameter) → is_due (request_state e held parameters) ≡ true → is_request_reached e.queues.transfer (first_reset_request parameters) ≡ true
due_reached e held parameters is =
    reached_by (is_request_reached e.queues.transfer (first_reset_request parameters)) (e.options.follow_rfc && is_renewal e.renewable held.peer_last (first_request_number parameters) (first_reset_request parameters)) is

-- ---- the turn

module _ (to : ℕ) where
  works_goes : (e : Endpoint) (my : Pair) (held : Held) (parameters : List ResetParameter) (o : Outcome) → identity_of_core e.core ≡ Some (identity_of my held) → IsPeerTag e.core to → held.peer.tag ≡ to → own_of e ≡ Some (own_with held e.outstanding)
      → ((new : Held) (request : Option OutstandingRequest) → own_of_core (core_with e.core new) request ≡ Some (own_with new request)) → HandlesResets e my held parameters o → Goes (Some (re_config parameters)) to e o
  works_goes e my held parameters o linked at is own own_later turn =
      let w : HandledParameters = handled_parameters_of e my held parameters in
      let state : RequestState = request_state e held parameters in
      let brought = chunk_brings my state held parameters in
      let answer : OwnAnswer = answer_to_own held w parameters in
      let tag : w.held.peer.tag ≡ to = ap (λ (p : Pair). p.tag) brought.keeps.peer ∙ is in
      let base : Endpoint = resets_handled e answer w.held turn.left (renewable_left e held w parameters) in
      let kept = (worked_keeps e answer w.held turn.left (renewable_left e held w parameters)).core in
      let told : List (Event Emission) = reset_events_of e parameters w.effects in
      let last : Outcome = responses_unless_refused w.is_refused base told w.held parameters w.answers turn.answers in
      let between : Inside = moved_inside answer e w.held in
      let silent_end : has_reset (w.effects ++ last.effects) ≡ has_reset w.effects = reset_in_front w.effects last.effects (sent_none (Some (re_config parameters)) to w.is_refused base told w.held parameters w.answers turn.answers turn.allowed) in
      let ends : OwnEnds (w.effects ++ last.effects) (inside e) between =
      own_ends answer e held w.held (has_completed w.effects) (has_refused w.effects) (w.effects ++ last.effects)
      (own_stays held.own_outstanding w.held.own_outstanding _ w.effects brought.keeps.own_outstanding (chunk_says my state held parameters)) brought.keeps.own_next own
      (completed_among w.effects last.effects) (refused_among w.effects last.effects) in
      let asks : PeerResets (Some (re_config parameters)) (w.effects ++ last.effects) between (with_left turn.left between) =
      peer_resets parameters (w.effects ++ last.effects) (has_reset w.effects) (answers_in_progress w.answers) (first_reset_request parameters) e.queues.transfer turn.left between silent_end refl
      (moved_transfer answer e)
      (λ performed. (due_reached e held parameters (chunk_performs my state held parameters performed).all, ((chunk_performs my state held parameters performed).reset, (chunk_performs my state held parameters performed).asked))) turn.below in
      let later : inside base ≡ with_left turn.left between = ap (λ (i : Option Own). record { queues = base.queues; own = i }) (own_later w.held (own_moved answer e).outstanding) in
      subst (Goes (Some (re_config parameters)) to e) (sym turn.is)
      (works_resets
      (sent_link (Some (re_config parameters)) to w.is_refused base told w.held parameters w.answers turn.answers turn.allowed
      ∙ ap identity_of_core kept ∙ with_link (Some (re_config parameters)) to e.core my held w.held linked brought.keeps ∙ sym linked)
      between (with_left turn.left between) ends asks
      (subst (λ (i : Inside). MakesPackets (Some (re_config parameters)) to i (packets_of_events last.events) (inside last.after)) later
      (sent_makes (Some (re_config parameters)) to w.is_refused base told w.held parameters w.answers turn.answers
      (subst (λ (c : Core). IsPeerTag c to) (sym kept) (with_peer (Some (re_config parameters)) to e.core w.held at tag)) tag
      (events_none (their_streams (first_reset_request parameters)) (own_streams e.outstanding) w.effects) (chunk_answers my state held parameters) turn.allowed)))

  pub idle_goes : (e : Endpoint) (parameters : List ResetParameter) → Goes (Some (re_config parameters)) to e (still e)
  idle_goes e parameters = works_resets refl (inside e) (inside e) unended (unreset refl) (rests (Some (re_config parameters)) to (inside e))

  pub reset_goes : (e : Endpoint) (core : Core) (parameters : List ResetParameter) (o : Outcome) → e.core ≡ core → IsPeerTag e.core to → IsPeerTag core to → ResetTurn e core parameters o → Goes (Some (re_config parameters)) to e o
  reset_goes e closed parameters o same at is turn = subst (Goes (Some (re_config parameters)) to e) (sym turn) (idle_goes e parameters)
  reset_goes e (cookie_wait my) parameters o same at is turn = subst (Goes (Some (re_config parameters)) to e) (sym turn) (idle_goes e parameters)
  reset_goes e (cookie_echoed my held cookie) parameters o same at is turn =
      works_goes e my held parameters o (ap identity_of_core same) at is (ap (λ (c : Core). own_of_core c e.outstanding) same) (λ new request. ap (λ (c : Core). own_of_core (core_with c new) request) same) turn
  reset_goes e (open_in phase my held) parameters o same at is turn =
      works_goes e my held parameters o (ap identity_of_core same) at is (ap (λ (c : Core). own_of_core c e.outstanding) same) (λ new request. ap (λ (c : Core). own_of_core (core_with c new) request) same) turn
