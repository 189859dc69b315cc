-- Each turn of the sender.
use Rattle.std.proofs.Common.{Bool, true, false, None, Some, ◌≡◌, ◌≢◌, ◌<◌, ◌-◌, ◌^◌, ℕ, Option, List, [], ◌∷◌, ◌++◌, length, refl, sym, ◌∙◌, ap, arith, subst, inl, inr, Bool, false}
use Rattle.std.specs.Prelude.{◌==◌, ◌||◌, ◌⊎◌, Bool}
use Rattle.std.specs.List.{AllByRecursion}
use Rattle.std.proofs.lemmas.Bool.{eq-eqb}
use Rattle.std.proofs.lemmas.List.{length-append}
use Rattle.dcsctp_spec_lemmas.specs.types.declared.options.Options.{Options}
use Rattle.dcsctp_spec_lemmas.specs.types.declared.association.Pair.{Pair}
use Rattle.dcsctp_spec_lemmas.specs.spec.endpoint.Endpoint.{Endpoint, Core, closed, cookie_wait, cookie_echoed, open_in, OutstandingRequest, is_cookie_echoed}
use Rattle.dcsctp_spec_lemmas.specs.spec.endpoint.Event.{Event, packets_of_events}
use Rattle.dcsctp_spec_lemmas.specs.spec.endpoint.Outcome.{Outcome}
use Rattle.dcsctp_spec_lemmas.specs.spec.Packet.{Emission}
use Rattle.dcsctp_spec_lemmas.specs.spec.endpoint.Turn.{Input, Turn}
use Rattle.dcsctp_spec_runs.specs.World.{after_effects}
use Rattle.dcsctp_spec_lemmas.specs.spec.association.Effect.{AssociationIdentity, identity_of_core, Effect, holds, identity_of}
use Rattle.dcsctp_spec_lemmas.specs.spec.queues.Incoming.{is_named}
use Rattle.dcsctp_theorem_association.proofs.Growth.{after_within}
use Rattle.dcsctp_delivery_directions.specs.sending.Places.{table_with}
use Rattle.dcsctp_delivery_directions.specs.sending.Log.{Message}
use Rattle.dcsctp_delivery_directions.specs.sending.Queueing.{QueueWaits}
use Rattle.dcsctp_delivery_directions.specs.directions.Directions.{MayReset, PreparedReset, Direction, HasReached, Asking, DirectionRun, nothing_asked}
use Rattle.dcsctp_delivery_directions.proofs.directions.Directions.{direction_queues}
use Rattle.dcsctp_delivery_directions.proofs.directions.RequestCounts.{requests_more, requests_more_to, requests_are_sent}
use Rattle.dcsctp_delivery_sockets.specs.turns.Actions.{IsOpening, content_of_input, peer_tag, queued_after, resets_stream, BeginsAssociation, IsCall, Collides}
use Rattle.dcsctp_delivery_sockets.specs.turns.Addressed.{AreAddressed}
use Rattle.dcsctp_delivery_sockets.specs.turns.Asking.{own_with, own_of_core, own_of, AsksFit, AskingGrows}
use Rattle.dcsctp_delivery_sockets.specs.turns.Runs.{accepted_resets, prepared_with, prepared_after, TakesTurnsByOption, direction_with_sender, IsBetween, EndsPerformed, RefusesNone, SenderTurns, run_goes_on, run_ends, run_begins, run_outlasts, MayDrop, IsTrueAcknowledgement, Outlasts, IdleTurns, idle_stays, idle_begins, taken_turn}
use Rattle.dcsctp_delivery_sockets.proofs.turns.Completing.{completes_own}
use Rattle.dcsctp_delivery_sockets.proofs.turns.ResetInputs.{named_by}
use Rattle.dcsctp_delivery_sockets.proofs.turns.Rules.{turns_stay_by_option}
use Rattle.dcsctp_delivery_sockets.proofs.turns.Runs.{senders_go_on, receivers_begin}
use Rattle.dcsctp_delivery_sockets.specs.turns.Unbegun.{UnbegunTurns, stays_unbegun, begins_first}
use Rattle.dcsctp_delivery_sockets.proofs.turns.Unbegun.{stays_at_zero}
use Rattle.dcsctp_spec_runs.specs.Past.{HasEffect}
use Rattle.dcsctp_delivery_sockets.specs.associations.Ends.{calls_after, SendingEnd, direction_of_ends, Ends, sender_key, TakesOver, IsUnbegun, NeverHeld, NewPeer, AreSeen, CameBack, Between, sending_side, receiving_side}
use Rattle.dcsctp_delivery_sockets.specs.associations.Answered.{AnswersRequests, requests_of, waiting_deferral, AreAnswered}
use Rattle.dcsctp_delivery_sockets.specs.associations.Laws.{CompletesPerformed, AsksLittle, AreEnds, ResetsAs}
use Rattle.dcsctp_delivery_sockets.proofs.associations.Seen.{between_stays, grows_stays}
use Rattle.dcsctp_delivery_sockets.specs.associations.Reads.{Reading}
use Rattle.dcsctp_delivery_sockets.proofs.associations.AskedOn as asked
use Rattle.dcsctp_delivery_sockets.proofs.associations.AskedOn.{MayBegin}
use Rattle.dcsctp_delivery_sockets.proofs.associations.Renewed.{MayGo, ends_so}
use Rattle.dcsctp_delivery_sockets.proofs.associations.Counting.{addressed_requests}
use Rattle.dcsctp_delivery_sockets.proofs.associations.Growing.{input_adds}
use Rattle.dcsctp_delivery_sockets.proofs.associations.Heard.{came_back}
use Rattle.dcsctp_delivery_sockets.specs.turns.Reports.{ComesReported}
use Rattle.dcsctp_delivery_sockets.proofs.associations.SenderAnswers.{some_completed, ends_performed, may_go, may_begin, goes_answers, closes_answers, idle_answers}
use Rattle.dcsctp_delivery_sockets.proofs.associations.Senders.{link_tag, grown_end, grown_ends}
use Rattle.dcsctp_delivery_sockets.proofs.associations.SenderStays.{goes_on, ended_ends, ended}
use Rattle.dcsctp_delivery_sockets.proofs.associations.SenderBegins.{begins}
use Rattle.dcsctp_delivery_sockets.proofs.associations.SenderOutlasts.{outlasts_goes_on, GoesOn}
use Rattle.dcsctp_delivery_sockets.proofs.associations.AnsweringRests.{after_split}
use Rattle.dcsctp_delivery_sockets.proofs.turns.Holding.{holds_mean}
use Rattle.dcsctp_delivery_sockets.proofs.turns.Outlasts.{other_begun, outlasts_goes}
use Rattle.dcsctp_delivery_sockets.proofs.turns.Handshake.{GoesThere}
use Rattle.dcsctp_delivery_sockets.proofs.turns.Keeping.{goes_there}
use Rattle.dcsctp_delivery_sockets.specs.turns.Untouched.{IsUntouched, IsTransferUntouched}
use Rattle.dcsctp_spec_lemmas.specs.types.declared.association.Held.{Held}
use Rattle.dcsctp_spec_lemmas.specs.types.declared.capabilities.Capabilities.{Capabilities}
use Rattle.dcsctp_spec_lemmas.specs.spec.queues.Transfer.{Transfer, EndpointQueues}

no_message : (l : List Message) → length l ≡ 0 → l ≡ []
no_message [] none = refl
no_message (m ∷ l) none = absurd (omega arith)

-- a call that queues nothing
queues_none : (more queued : List Message) → more ++ queued ≡ queued → more ≡ []
queues_none more queued same = no_message more (let long = length-append more queued in let one : length (more ++ queued) ≡ length queued = ap (λ (l : List Message). length l) same in omega (arith, long, one))

-- ---- each turn

module _ (options : Options) (ends : Ends) (e : Endpoint) (queued : List Message) (past : List Effect) (packets : List Emission) (d : Endpoint) (their_past : List Effect) (reading : Reading)
    (h : Between options ends (sending_side e queued past packets) (receiving_side d their_past reading)) (input : Input) (o : Outcome) (new : (begun : BeginsAssociation e o) → IsOpening (content_of_input input) → identity_of_core o.after.core ≡ Some (identity_of begun.my begun.held) → NewPeer past their_past (identity_of begun.my begun.held) ⊎ TakesOver past their_past e input (identity_of begun.my begun.held))
    (w : AreAnswered ends e past d their_past) (little : AsksLittle (packets ++ packets_of_events o.events)) (seen : List (Event Emission)) (reported : AreSeen ends d their_past seen) where
  abbrev key : ℕ
  key = sender_key e.core

  -- the direction of the current association
  abbrev now : Direction
  now = direction_of_ends (ends.sends (sender_key e.core)) (ends.gets (sender_key e.core))

  -- What was begun is little,
  few_now : length (ends.sends (sender_key e.core)).asking.requests < 2 ^ 32 - 1
  few_now =
      let sent = requests_are_sent options (ends.firsts key) options.max_receiver_window_buffer_size now (h.runs key) in
      let went = h.sender.few_requests key in
      let all = requests_more_to (ends.latest key) packets (packets_of_events o.events) in
      let few = little (ends.latest key) in
      omega (arith, sent, went, all, few)

  -- and so is what is begun in this turn.
  few_then : AreAddressed (peer_tag e.core) (packets_of_events o.events) → (below : EndpointQueues) (acknowledged : ℕ) (asking : Asking) (prepared : List PreparedReset)
      → DirectionRun options (ends.firsts (sender_key e.core)) options.max_receiver_window_buffer_size
      (record (direction_with_sender (direction_of_ends (ends.sends (sender_key e.core)) (ends.gets (sender_key e.core))) (queued_after e input (ends.sends (sender_key e.core)).queued) below acknowledged ((ends.sends (sender_key e.core)).sent ++ packets_of_events o.events) asking) { prepared = prepared })
      → length asking.requests < 2 ^ 32 - 1
  few_then addressed below acknowledged asking prepared run =
      let sent =
      requests_are_sent options (ends.firsts key) options.max_receiver_window_buffer_size
      (record (direction_with_sender now (queued_after e input (ends.sends key).queued) below acknowledged ((ends.sends key).sent ++ packets_of_events o.events) asking) { prepared = prepared }) run in
      let more = requests_more (ends.sends key).sent (packets_of_events o.events) in
      let went = h.sender.few_requests key in
      let goes = addressed_requests (ends.latest key) (packets_of_events o.events) (subst (λ (n : ℕ). AreAddressed n (packets_of_events o.events)) (sym h.sender.to_is) addressed) in
      let all = requests_more_to (ends.latest key) packets (packets_of_events o.events) in
      let few = little (ends.latest key) in
      omega (arith, sent, more, went, goes, all, few)

  -- ---- in an association

  module _ (link : AssociationIdentity) (linked : identity_of_core e.core ≡ Some link) (may : IsCall input) (turn : Turn e input o) (completes_so : CompletesPerformed their_past o) where
    key_is : sender_key e.core ≡ link.my.tag
    key_is = link_tag e.core link linked

    answers : AnswersRequests (requests_of ends w.pairs) (Some link) past (identity_of_core d.core) their_past (waiting_deferral d.queues.transfer)
    answers = subst (λ (l : Option AssociationIdentity). AnswersRequests (requests_of ends w.pairs) l past (identity_of_core d.core) their_past (waiting_deferral d.queues.transfer)) linked w.answers

    some : link.my.tag ≢ 0
    some = (answers.mine_held link refl).0.some

    kind : (ends.sends link.my.tag).queues.queue.is_interleaved ≡ e.queues.queue.is_interleaved
    kind = sym (ap (λ (t : ℕ). (ends.sends t).queues.queue.is_interleaved) key_is) ∙ ap (λ (b : EndpointQueues). b.queue.is_interleaved) h.sender.queues_are

    turned : (requests_of ends w.pairs link.my.tag).in_turn ≡ (e.queues.queue.is_interleaved || ends.calls.in_turn)
    turned = ap (λ (b : Bool). b || ends.calls.in_turn) kind

    fits : AsksFit (ends.firsts link.my.tag) (own_of e) (ends.sends link.my.tag).asking
    fits = subst (λ (t : ℕ). AsksFit (ends.firsts t) (own_of e) (ends.sends t).asking) key_is h.asks

    few : length (ends.sends link.my.tag).asking.requests < 2 ^ 32 - 1
    few = subst (λ (t : ℕ). length (ends.sends t).asking.requests < 2 ^ 32 - 1) key_is few_now

    performed : EndsPerformed ends.calls.in_turn e o (ends.sends (sender_key e.core)).asking
    performed =
        subst (λ (t : ℕ). EndsPerformed ends.calls.in_turn e o (ends.sends t).asking) (sym key_is)
        (ends_performed (requests_of ends w.pairs) link past (identity_of_core d.core) their_past (waiting_deferral d.queues.transfer) answers e input o linked ends.calls.in_turn turned fits few completes_so may turn)

    may_be : RefusesNone ends.calls.in_turn e o → (between : Asking) → IsBetween o.effects (ends.sends (sender_key e.core)).asking between → MayGo (requests_of ends w.pairs link.my.tag) their_past between
    may_be refuses between is =
        may_go (requests_of ends w.pairs) link past (identity_of_core d.core) their_past (waiting_deferral d.queues.transfer) answers e input o linked ends.calls.in_turn turned fits few completes_so may turn refuses between
        (subst (λ (t : ℕ). IsBetween o.effects (ends.sends t).asking between) key_is is)

    begins_so : (core : Core) (request : Option OutstandingRequest) (between asking : Asking) → identity_of_core core ≡ Some link → AskingGrows between asking → AsksFit (ends.firsts (sender_key e.core)) (own_of_core core request) asking
        → length asking.requests < 2 ^ 32 - 1 → MayBegin (ends.firsts link.my.tag) between asking
    begins_so core request between asking there grows fit little' =
        may_begin (ends.firsts link.my.tag) core request between asking link there grows (subst (λ (t : ℕ). AsksFit (ends.firsts t) (own_of_core core request) asking) key_is fit) little'

    -- what becomes of the requests by this end of the turn
    goes : (after : Endpoint) (end : SendingEnd) → end.queues.queue.is_interleaved ≡ e.queues.queue.is_interleaved → (between : Asking) → MayGo (requests_of ends w.pairs link.my.tag) their_past between
        → MayBegin (ends.firsts link.my.tag) between end.asking
        → AnswersRequests (requests_of (record ends { sends = table_with (sender_key e.core) end ends.sends }) w.pairs) (Some link) (after_effects o.effects past) (identity_of_core d.core) their_past (waiting_deferral d.queues.transfer)
    goes after end same between ended_so begun_so = goes_answers ends e past d their_past w h.sender.queues_are after o.effects end same link linked some between end.asking refl few ended_so begun_so

  -- ---- in any turn

  -- Without an association no request ends.
  idle_performed : identity_of_core e.core ≡ None → IsCall input → Turn e input o → EndsPerformed ends.calls.in_turn e o (ends.sends (sender_key e.core)).asking
  idle_performed none may turn done interleaved =
      let found = some_completed o.effects done in
      let own = completes_own e input o found.0 found.1 may turn found.2 in
      let clash : ◌≡◌ {A = Option AssociationIdentity} None (Some own.link) = sym none ∙ own.linked in
      absurd (cc)

  performed_by : (found : Option AssociationIdentity) → identity_of_core e.core ≡ found → IsCall input → Turn e input o → CompletesPerformed their_past o → EndsPerformed ends.calls.in_turn e o (ends.sends (sender_key e.core)).asking
  performed_by None none may turn completes_so = idle_performed none may turn
  performed_by (Some link) linked may turn completes_so = performed link linked may turn completes_so

  -- the calls by which its user has reset streams, with that of the turn
  abbrev calls_now : List PreparedReset
  calls_now = prepared_after e input (length (ends.sends (sender_key e.core)).queued) (ends.sends (sender_key e.core)).prepared

  -- the end of the sender after the turn, with this below
  abbrev grown_to : EndpointQueues → ℕ → Asking → SendingEnd
  grown_to below acknowledged asking = grown_end ends (sender_key e.core) (peer_tag e.core) e.queues queued past packets h.sender o.effects (queued_after e input []) below acknowledged (packets_of_events o.events) asking calls_now (calls_after e input (length queued) ends.calls)

  goes_answered : (found : Option AssociationIdentity) → identity_of_core e.core ≡ found → IsCall input → Turn e input o → RefusesNone ends.calls.in_turn e o → CompletesPerformed their_past o → identity_of_core o.after.core ≡ identity_of_core e.core
      → AreAddressed (peer_tag e.core) (packets_of_events o.events) → o.after.queues.queue.is_interleaved ≡ e.queues.queue.is_interleaved → (acknowledged : ℕ) (between asking : Asking)
      → IsBetween o.effects (ends.sends (sender_key e.core)).asking between → AskingGrows between asking → AsksFit (ends.firsts (sender_key e.core)) (own_of o.after) asking → length asking.requests < 2 ^ 32 - 1
      → AreAnswered (grown_ends ends (sender_key e.core) (peer_tag e.core) e.queues queued past packets h.sender o.effects (queued_after e input []) o.after.queues acknowledged (packets_of_events o.events) asking calls_now (calls_after e input (length queued) ends.calls)) o.after (after_effects o.effects past) d their_past
  goes_answered None none may turn refuses completes_so linked addressed kind' acknowledged between asking is grows fit little' =
      record {
        pairs = w.pairs;
        answers = subst (λ (l : Option AssociationIdentity). AnswersRequests (requests_of (record ends { sends = table_with (sender_key e.core) (grown_to o.after.queues acknowledged asking) ends.sends }) w.pairs) l (after_effects o.effects past) (identity_of_core d.core) their_past (waiting_deferral d.queues.transfer))
            (sym (linked ∙ none)) (idle_answers ends e past d their_past w h.sender.queues_are o.after o.effects (grown_to o.after.queues acknowledged asking) kind' none (after_effects o.effects past) (after_within o.effects past));
        unlinked = w.unlinked;
      }
  goes_answered (Some link) there may turn refuses completes_so linked addressed kind' acknowledged between asking is grows fit little' =
      record {
        pairs = w.pairs;
        answers = subst (λ (l : Option AssociationIdentity). AnswersRequests (requests_of (record ends { sends = table_with (sender_key e.core) (grown_to o.after.queues acknowledged asking) ends.sends }) w.pairs) l (after_effects o.effects past) (identity_of_core d.core) their_past (waiting_deferral d.queues.transfer))
            (sym (linked ∙ there))
            (goes link there may turn completes_so o.after (grown_to o.after.queues acknowledged asking) kind' between (may_be link there may turn completes_so refuses between is)
            (begins_so link there may turn completes_so o.after.core o.after.outstanding between asking (linked ∙ there) grows fit little'));
        unlinked = w.unlinked;
      }

  -- and where it ends in the turn
  abbrev ended_to : EndpointQueues → ℕ → Asking → SendingEnd
  ended_to below acknowledged asking =
      grown_end ends (sender_key e.core) (peer_tag e.core) e.queues queued past packets h.sender o.effects (queued_after e input []) below acknowledged (packets_of_events o.events) asking (ends.sends (sender_key e.core)).prepared ends.calls

  -- the ends once the association has ended
  abbrev over : ((each : AssociationIdentity) → HasEffect (holds each) (after_effects o.effects past) → HasEffect (holds each) past) → (last : EndpointQueues) → ℕ → Asking → AreAddressed (peer_tag e.core) (packets_of_events o.events) → last.queue.is_interleaved ≡ e.queues.queue.is_interleaved → Ends
  over none_began last acknowledged asking addressed kind = ended_ends options ends e queued past packets d their_past reading h input o none_began last acknowledged asking addressed kind

  ends_answered : (found : Option AssociationIdentity) → identity_of_core e.core ≡ found → IsCall input → Turn e input o → CompletesPerformed their_past o → identity_of_core o.after.core ≡ None → (none_began : (each : AssociationIdentity) → HasEffect (holds each) (after_effects o.effects past) → HasEffect (holds each) past)
      → (addressed : AreAddressed (peer_tag e.core) (packets_of_events o.events)) (last : EndpointQueues) → (kind : last.queue.is_interleaved ≡ e.queues.queue.is_interleaved) → (acknowledged : ℕ) (asking : Asking)
      → AskingGrows (ends.sends (sender_key e.core)).asking asking → AsksFit (ends.firsts (sender_key e.core)) (own_of e) asking → length asking.requests < 2 ^ 32 - 1
      → AreAnswered (over none_began last acknowledged asking addressed kind) o.after (after_effects o.effects past) d their_past
  ends_answered None there may turn completes_so none none_began addressed last kind' acknowledged asking grows fit little' =
      record {
        pairs = w.pairs;
        answers = subst (λ (l : Option AssociationIdentity). AnswersRequests (requests_of (over none_began last acknowledged asking addressed kind') w.pairs) l (after_effects o.effects past) (identity_of_core d.core) their_past (waiting_deferral d.queues.transfer)) (sym none)
            (closes_answers ends e past d their_past w h.sender.queues_are o.after o.effects (ended_to last acknowledged asking) kind' None (after_effects o.effects past) _
            (idle_answers ends e past d their_past w h.sender.queues_are o.after o.effects (ended_to last acknowledged asking) kind' there (after_effects o.effects past) (after_within o.effects past)));
        unlinked = w.unlinked;
      }
  ends_answered (Some link) there may turn completes_so none none_began addressed last kind' acknowledged asking grows fit little' =
      record {
        pairs = w.pairs;
        answers = subst (λ (l : Option AssociationIdentity). AnswersRequests (requests_of (over none_began last acknowledged asking addressed kind') w.pairs) l (after_effects o.effects past) (identity_of_core d.core) their_past (waiting_deferral d.queues.transfer)) (sym none)
            (closes_answers ends e past d their_past w h.sender.queues_are o.after o.effects (ended_to last acknowledged asking) kind' (Some link) (after_effects o.effects past) _
            (goes link there may turn completes_so o.after (ended_to last acknowledged asking) kind' (ends.sends link.my.tag).asking as_it_was_asked
            (begins_so link there may turn completes_so e.core e.outstanding (ends.sends link.my.tag).asking asking there (subst (λ (t : ℕ). AskingGrows (ends.sends t).asking asking) (link_tag e.core link there) grows) fit little')));
        unlinked = w.unlinked;
      }
    where
      as_it_was_asked : MayGo (requests_of ends w.pairs link.my.tag) their_past (ends.sends link.my.tag).asking
      as_it_was_asked = ends_so _ asked.as_it_was

  -- Few messages were queued at this end,
  few_queued : length (queued_after e input queued) < 2 ^ 64 → length (queued_after e input (ends.sends key).queued) < 2 ^ 64
  few_queued few =
      let long = ap (λ (l : List Message). length l) (input_adds e input (ends.sends key).queued) ∙ length-append (queued_after e input []) (ends.sends key).queued in
      let same = ap (λ (l : List Message). length l) (input_adds e input queued) ∙ length-append (queued_after e input []) queued in
      let size = h.sender.long in
      omega (arith, few, long, same, size)

  -- and what waits was queued there.
  waits_before : length (queued_after e input queued) < 2 ^ 64 → QueueWaits (ends.sends key).queued e.queues.queue
  waits_before few =
      let long = ap (λ (l : List Message). length l) (input_adds e input (ends.sends key).queued) ∙ length-append (queued_after e input []) (ends.sends key).queued in
      let later = few_queued few in
      subst (λ (b : EndpointQueues). QueueWaits (ends.sends key).queued b.queue) h.sender.queues_are
      (direction_queues options (ends.firsts key) options.max_receiver_window_buffer_size now (h.runs key) (h.small key) (omega (arith, later, long))).0

  -- A sender that had no association has none after the turn, or one begins.
  unbegun_after : length (queued_after e input queued) < 2 ^ 64 → ResetsAs ends.calls (length queued) e input → IsCall input → Turn e input o → NeverHeld (after_effects o.effects past)
      → IsUnbegun ends.calls (queued_after e input (ends.sends key).queued) o.after
  unbegun_after few resets may turn never =
      let before = h.unbegun (λ link held. never link (after_within o.effects past (holds link) held)) in
      go before (stays_at_zero e input o before.unlinked before.idle before.zero may turn)
    where
      go : IsUnbegun ends.calls (ends.sends key).queued e → UnbegunTurns e input o → IsUnbegun ends.calls (queued_after e input (ends.sends key).queued) o.after
      go before (stays_unbegun unlinked idle at waits) =
          record {
            unlinked = unlinked;
            idle = idle;
            zero = at;
            all = λ id. waits id (ends.sends key).queued (waits_before few) (few_queued few) (before.all id);
          }
      go before (begins_first begun opening linked) =
          absurd (never (identity_of begun.my begun.held) (subst (λ (l : List Effect). HasEffect (holds (identity_of begun.my begun.held)) (after_effects l past)) (sym begun.noted)
          (after_within begun.later (holds (identity_of begun.my begun.held) ∷ past) (holds (identity_of begun.my begun.held)) (inl refl))))

  -- Where the association continues none begins.
  none_then : IsCall input → Turn e input o → ((link : AssociationIdentity) → identity_of_core e.core ≡ Some link → HasEffect (holds link) past) × (identity_of_core o.after.core ≡ identity_of_core e.core)
      → (each : AssociationIdentity) → HasEffect (holds each) (after_effects o.effects past) → HasEffect (holds each) past
  none_then may turn (mine, linked) each has =
      elim (after_split (holds each) o.effects past has) [ inl here ↦ mine each (sym linked ∙ holds_mean e input o each may turn here) | inr before ↦ before ]

  none_ended : IsCall input → Turn e input o → identity_of_core o.after.core ≡ None → (each : AssociationIdentity) → HasEffect (holds each) (after_effects o.effects past) → HasEffect (holds each) past
  none_ended may turn none each has =
      elim (after_split (holds each) o.effects past has) [
        | inl here ↦ (let clash : ◌≡◌ {A = Option AssociationIdentity} None (Some each) = sym none ∙ holds_mean e input o each may turn here in absurd (cc))
        | inr before ↦ before
      ]

  -- The first TSN of one that begins has 32 bits.
  small_so : (begun : BeginsAssociation e o) → IsOpening (content_of_input input) → identity_of_core o.after.core ≡ Some (identity_of begun.my begun.held) → begun.my.first_tsn < 2 ^ 32
  small_so begun opening linked =
      elim (new begun opening linked) [
        | inl is ↦ is.small
        | inr takes ↦
            (let own : sender_key e.core ≡ takes.old.my.tag = link_tag e.core takes.old takes.was in
            let had = h.sender.current (λ zero. (h.sender.known takes.old (h.mine takes.old takes.was)).0 (sym own ∙ zero)) in
            let one : had.link ≡ takes.old = takes.only had.link had.held (had.tag_is ∙ own ∙ ap (λ (p : Pair). p.tag) takes.my) in
            let first : ends.firsts (sender_key e.core) ≡ begun.my.first_tsn = sym had.first_is ∙ ap (λ (l : AssociationIdentity). l.my.first_tsn) one ∙ ap (λ (p : Pair). p.first_tsn) takes.my in
            subst (λ (n : ℕ). n < 2 ^ 32) first (h.small (sender_key e.core)))
      ]

  -- Streams of equal priority take turns by the option, as before.
  rules_then : o.after.options.follow_rfc ≡ e.options.follow_rfc → IsCall input → Turn e input o → TakesTurnsByOption o.after
  rules_then follows may turn =
      turns_stay_by_option e input o (record { first = ends.firsts key; asking = (ends.sends key).asking; fits = h.asks }) (λ begun opening linked. small_so begun opening linked) follows may turn h.rules

  -- Another one takes its place, and goes on.
  goes_so : (collision : Collides (content_of_input input) e o) → TakesOver past their_past e input (identity_of (other_begun e input o collision).my (other_begun e input o collision).held) → GoesOn past e input o
  goes_so collision takes =
      let one : takes.old ≡ collision.old = one_link takes.was collision.was in
      record {
        collision = collision;
        my = subst (λ (l : AssociationIdentity). l.my ≡ collision.opened.link.my) one takes.my;
        other = subst (λ (l : AssociationIdentity). l.peer.tag ≢ collision.opened.link.peer.tag) one takes.other;
        alike = subst (λ (l : AssociationIdentity). l.capabilities.message_interleaving ≡ collision.opened.link.capabilities.message_interleaving) one (ap (λ (c : Capabilities). c.message_interleaving) takes.alike);
        only = λ each has same. takes.only each has same ∙ one;
      }
    where
      one_link : {found : Option AssociationIdentity} {one two : AssociationIdentity} → found ≡ Some one → found ≡ Some two → one ≡ two
      one_link first second = cc

  replaces : o.after.options.follow_rfc ≡ e.options.follow_rfc → IsCall input → Turn e input o → queued_after e input (ends.sends (sender_key e.core)).queued ≡ (ends.sends (sender_key e.core)).queued → (collision : Collides (content_of_input input) e o)
      → TakesOver past their_past e input (identity_of (other_begun e input o collision).my (other_begun e input o collision).held)
      → (ends.firsts (sender_key e.core) ≡ collision.opened.link.my.first_tsn → (ends.sends (sender_key e.core)).asking ≡ nothing_asked
      → Outlasts options (ends.firsts (sender_key e.core)) options.max_receiver_window_buffer_size (direction_of_ends (ends.sends (sender_key e.core)) (ends.gets (sender_key e.core))) (taken_turn e input o) collision)
      → AreEnds ends.calls seen options (sending_side o.after (queued_after e input queued) (after_effects o.effects past) (packets ++ packets_of_events o.events)) (receiving_side d their_past reading)
  unfolding goes_so
  replaces follows may turn same collision takes later =
      let none : queued_after e input [] ≡ [] = queues_none (queued_after e input []) (ends.sends (sender_key e.core)).queued (sym (input_adds e input (ends.sends (sender_key e.core)).queued) ∙ same) in
      let stays : queued_after e input queued ≡ queued = input_adds e input queued ∙ ap (λ (l : List Message). l ++ queued) none in
      subst (λ (l : List Message). AreEnds ends.calls seen options (sending_side o.after l (after_effects o.effects past) (packets ++ packets_of_events o.events)) (receiving_side d their_past reading)) (sym stays)
      (outlasts_goes_on options ends e queued past packets d their_past reading h input o w little (goes_so collision takes) later (λ each has. holds_mean e input o each may turn has) seen reported follows (rules_then follows may turn))

  -- Where it takes the place of the one that is there, what was sent goes on.
  collided : (begun : BeginsAssociation e o) → IsOpening (content_of_input input) → TakesOver past their_past e input (identity_of begun.my begun.held) → Turn e input o → GoesThere (content_of_input input) e o
  collided begun opening takes turn = by_core e.core refl takes.echoed
    where
      by_transfer : (mine : Pair) (held : Held) (echoed : List ℕ) → e.core ≡ cookie_echoed mine held echoed → takes.old ≡ identity_of mine held → (found : Option Transfer) → e.queues.transfer ≡ found → IsTransferUntouched takes.old.my.first_tsn takes.old.capabilities found
          → GoesThere (content_of_input input) e o
      by_transfer mine held echoed at is None there untouched = absurd untouched
      by_transfer mine held echoed at is (Some transfer) there untouched =
          goes_there e mine held echoed at takes.follows transfer there (subst (λ (l : AssociationIdentity). IsUntouched l.my.first_tsn l.capabilities transfer.retransmission) is untouched)
          (takes.unasked (own_with held e.outstanding) (ap (λ (c : Core). own_of_core c e.outstanding) at) ∙ ap (λ (l : AssociationIdentity). l.my.first_tsn) is) (identity_of begun.my begun.held) begun.later
          (sym takes.my ∙ ap (λ (l : AssociationIdentity). l.my) is) (ap (λ (l : AssociationIdentity). l.capabilities) (sym is) ∙ takes.alike) input o takes.maker opening turn begun.noted

      same_link : (one other : AssociationIdentity) → identity_of_core e.core ≡ Some one → identity_of_core e.core ≡ Some other → one ≡ other
      same_link one other first second = cc

      by_core : (core : Core) → e.core ≡ core → is_cookie_echoed core ≡ true → GoesThere (content_of_input input) e o
      by_core closed at echoed = absurd (cc)
      by_core (cookie_wait my) at echoed = absurd (cc)
      by_core (cookie_echoed mine held cookie) at echoed =
          by_transfer mine held cookie at (same_link takes.old (identity_of mine held) takes.was (ap identity_of_core at)) e.queues.transfer refl takes.untouched
      by_core (open_in phase my held) at echoed = absurd (cc)

  replaced : o.after.options.follow_rfc ≡ e.options.follow_rfc → IsCall input → Turn e input o → queued_after e input (ends.sends (sender_key e.core)).queued ≡ (ends.sends (sender_key e.core)).queued → (begun : BeginsAssociation e o) → IsOpening (content_of_input input)
      → identity_of_core o.after.core ≡ Some (identity_of begun.my begun.held) → TakesOver past their_past e input (identity_of begun.my begun.held)
      → AreEnds ends.calls seen options (sending_side o.after (queued_after e input queued) (after_effects o.effects past) (packets ++ packets_of_events o.events)) (receiving_side d their_past reading)
  replaced follows may turn same begun opening linked takes =
      let there : GoesThere (content_of_input input) e o = collided begun opening takes turn in
      let one : identity_of begun.my begun.held ≡ there.collision.opened.link = one_link (identity_of begun.my begun.held) there.collision.opened.link linked there.collision.opened.linked in
      replaces follows may turn same there.collision (subst (TakesOver past their_past e input) one takes)
      (λ first_is asked. outlasts_goes options (ends.firsts key) options.max_receiver_window_buffer_size now e input o (h.runs key) (h.small key) h.sender.queues_are there.collision first_is asked there.again there.makes)
    where
      one_link : (one other : AssociationIdentity) → identity_of_core o.after.core ≡ Some one → identity_of_core o.after.core ≡ Some other → one ≡ other
      one_link one other first second = cc

  -- Without an association there are no queues of one, and none comes by a turn that begins none.
  idle_then : identity_of_core o.after.core ≡ identity_of_core e.core → IsCall input → Turn e input o → identity_of_core o.after.core ≡ None → o.after.queues.transfer ≡ None
  idle_then linked may turn unlinked =
      go
      (receivers_begin e input o (h.idle (sym linked ∙ unlinked)) (record { first = ends.firsts key; asking = (ends.sends key).asking; fits = h.asks }) (λ begun opening linked'. small_so begun opening linked') may turn)
    where
      go : IdleTurns e input o → o.after.queues.transfer ≡ None
      go (idle_stays which none fits unread) = none
      go (idle_begins opens) =
          (let clash : ◌≡◌ {A = Option AssociationIdentity} None (Some (identity_of opens.begun.my opens.begun.held)) = sym unlinked ∙ opens.linked in absurd (cc))

  -- What acknowledges was reached.
  told : ((link : AssociationIdentity) → identity_of_core e.core ≡ Some link → CameBack (packets_of_events seen) link.my.tag (content_of_input input)) → IsTrueAcknowledgement (direction_of_ends (ends.sends (sender_key e.core)) (ends.gets (sender_key e.core))) e input
  told back transfer there = go (identity_of_core e.core) refl
    where
      go : (found : Option AssociationIdentity) → identity_of_core e.core ≡ found → ComesReported (HasReached (ends.gets (sender_key e.core)).first_tsn (ends.gets (sender_key e.core)).tracker) (content_of_input input)
      go None unlinked = (let clash : ◌≡◌ {A = Option Transfer} None (Some transfer) = sym (h.idle unlinked) ∙ there in absurd (cc))
      go (Some link) linked =
          subst (λ (t : ℕ). ComesReported (HasReached (ends.gets t).first_tsn (ends.gets t).tracker) (content_of_input input)) (sym (link_tag e.core link linked))
          (came_back ends.gets their_past (packets_of_events seen) link.my.tag (content_of_input input) (h.sender.known link (h.mine link linked)).0 reported.heard (back link linked))

  -- Where its user resets no streams in the turn, no call is made.
  with_none : accepted_resets e input ≡ None → AreEnds ends.calls seen options (sending_side o.after (queued_after e input queued) (after_effects o.effects past) (packets ++ packets_of_events o.events)) (receiving_side d their_past reading)
      → AreEnds (calls_after e input (length queued) ends.calls) seen options (sending_side o.after (queued_after e input queued) (after_effects o.effects past) (packets ++ packets_of_events o.events)) (receiving_side d their_past reading)
  with_none none =
      subst (λ (accepted : Option (List ℕ)). AreEnds (record ends.calls { made = prepared_with accepted (length queued) ends.calls.made }) seen options (sending_side o.after (queued_after e input queued) (after_effects o.effects past) (packets ++ packets_of_events o.events)) (receiving_side d their_past reading)) (sym none)

  by_turn : length (queued_after e input queued) < 2 ^ 64 → o.after.options.follow_rfc ≡ e.options.follow_rfc → ResetsAs ends.calls (length queued) e input → IsCall input → Turn e input o → RefusesNone ends.calls.in_turn e o → CompletesPerformed their_past o
      → SenderTurns options (ends.firsts (sender_key e.core)) options.max_receiver_window_buffer_size (direction_of_ends (ends.sends (sender_key e.core)) (ends.gets (sender_key e.core))) e input o
      → AreEnds (calls_after e input (length queued) ends.calls) seen options (sending_side o.after (queued_after e input queued) (after_effects o.effects past) (packets ++ packets_of_events o.events)) (receiving_side d their_past reading)
  by_turn few follows resets may turn refuses completes_so (run_goes_on linked addressed kind' acknowledged between asking is grows fit run) =
      goes_on options ends e queued past packets d their_past reading h input o seen reported w (none_then may turn (h.mine, linked)) follows (rules_then follows may turn) (unbegun_after few resets may turn) linked kind' addressed acknowledged asking
      (λ begun has. grows_stays between asking grows begun (between_stays o.effects (ends.sends (sender_key e.core)).asking between is begun has)) fit
      (goes_answered (identity_of_core e.core) refl may turn refuses completes_so linked addressed kind' acknowledged between asking is grows fit (few_then addressed o.after.queues acknowledged asking calls_now run)) run
      (idle_then linked may turn)
  by_turn few follows resets may turn refuses completes_so (run_ends unpaused none addressed last kind' acknowledged asking grows fit run is shown fit') =
      let none_began = none_ended may turn none in
      with_none unpaused
      (ended options ends e queued past packets d their_past reading h input o seen reported w none_began follows (rules_then follows may turn) (unbegun_after few resets may turn) none addressed last kind' is shown fit' acknowledged asking
      (grows_stays (ends.sends (sender_key e.core)).asking asking grows)
      (ends_answered (identity_of_core e.core) refl may turn completes_so none none_began addressed last kind' acknowledged asking grows fit (few_then addressed last acknowledged asking (ends.sends (sender_key e.core)).prepared run)) run)
  by_turn few follows resets may turn refuses completes_so (run_begins unpaused begun opening linked addressed kind' same shown fit later) =
      let none : queued_after e input [] ≡ [] = queues_none (queued_after e input []) (ends.sends (sender_key e.core)).queued (sym (input_adds e input (ends.sends (sender_key e.core)).queued) ∙ same) in
      let stays : queued_after e input queued ≡ queued = input_adds e input queued ∙ ap (λ (l : List Message). l ++ queued) none in
      with_none unpaused (elim (new begun opening linked) [
        | inl is ↦
            subst (λ (l : List Message). AreEnds ends.calls seen options (sending_side o.after l (after_effects o.effects past) (packets ++ packets_of_events o.events)) (receiving_side d their_past reading)) (sym stays)
            (begins options ends e queued past packets d their_past reading h input o w little begun (λ each has. holds_mean e input o each may turn has) follows (rules_then follows may turn) kind' seen reported is linked addressed shown fit later)
        | inr takes ↦ replaced follows may turn same begun opening linked takes
      ])
  by_turn few follows resets may turn refuses completes_so (run_outlasts unpaused collision same later) =
      elim (new (other_begun e input o collision) collision.opened.opening collision.opened.linked) [
        | inl is ↦ absurd (is.other collision.old (h.mine collision.old collision.was) (sym collision.tag))
        | inr takes ↦ with_none unpaused (replaces follows may turn same collision takes later)
      ]

  -- The streams that its user resets may be reset.
  may_drop : ResetsAs ends.calls (length queued) e input → MayDrop e input (length (ends.sends (sender_key e.core)).queued) (ends.sends (sender_key e.core)).beginning
  may_drop resets accepted ids is =
      among_resets ids
      (λ id named. (
      let does : resets_stream id input ≡ true = named_by input ids id is ∙ named in
      record {
        dropped = (h.dropping key).dropped id (resets_some id does (ends.calls.never id) refl);
        empty = λ is. resets.empty accepted id does (sym (ap (λ (empties : ℕ → ℕ → Bool). empties id (length (ends.sends key).queued)) (h.dropping key).empties ∙ ap (ends.calls.empties id) h.sender.long) ∙ is);
        asked = ap (λ (asks : ℕ → ℕ → Bool). asks id (length (ends.sends key).queued)) (h.dropping key).asks ∙ ap (ends.calls.asks id) h.sender.long ∙ resets.asks accepted id does;
      }
      ))
    where
      resets_some : (id : ℕ) → resets_stream id input ≡ true → (b : Bool) → ends.calls.never id ≡ b → ends.calls.never id ≡ false
      resets_some id does true never = absurd (let clash : true ≡ false = sym does ∙ resets.never id never in cc)
      resets_some id does false not_never = not_never

      or_true : (b : Bool) → (b || true) ≡ true
      or_true true = refl
      or_true false = refl

      among_resets : (some : List ℕ) → ((id : ℕ) → is_named some id ≡ true → MayReset (ends.sends key).beginning (length (ends.sends key).queued) e.queues.queue.streams id) → AllByRecursion (MayReset (ends.sends key).beginning (length (ends.sends key).queued) e.queues.queue.streams) some
      among_resets [] each = tt
      among_resets (id ∷ some) each = (each id (rw (eq-eqb id id refl) refl), among_resets some (λ other named. each other (rw named (or_true (id == other)))))

  pub sender_turns : ((link : AssociationIdentity) → identity_of_core e.core ≡ Some link → CameBack (packets_of_events seen) link.my.tag (content_of_input input)) → length (queued_after e input queued) < 2 ^ 64 → RefusesNone ends.calls.in_turn e o → ResetsAs ends.calls (length queued) e input → CompletesPerformed their_past o → o.after.options.follow_rfc ≡ e.options.follow_rfc → IsCall input → Turn e input o
      → AreEnds (calls_after e input (length queued) ends.calls) seen options (sending_side o.after (queued_after e input queued) (after_effects o.effects past) (packets ++ packets_of_events o.events)) (receiving_side d their_past reading)
  sender_turns back few refuses resets completes_so follows may turn =
      by_turn few follows resets may turn refuses completes_so
      (senders_go_on options (ends.firsts key) options.max_receiver_window_buffer_size now e input o (h.runs key) (h.small key) h.sender.queues_are h.rules h.asks
      (subst (λ (b : Bool). EndsPerformed b e o now.asking) (sym (h.dropping key).in_turn) (performed_by (identity_of_core e.core) refl may turn completes_so)) (subst (λ (b : Bool). RefusesNone b e o) (sym (h.dropping key).in_turn) refuses) (may_drop resets) (λ begun opening linked. small_so begun opening linked)
      (told back) (few_queued few) may turn)
