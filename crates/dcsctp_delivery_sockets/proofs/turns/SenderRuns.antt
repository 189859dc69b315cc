-- A turn, as what it does to runs of the direction on which the socket sends.
use Rattle.dcsctp_delivery_directions.specs.directions.Directions as directions
use Rattle.std.proofs.Common.{◌≡◌, ◌<◌, ◌^◌, ℕ, Option, None, Some, List, [], ◌∷◌, ◌++◌, length, refl, sym, ◌∙◌, ap, subst, inr, arith}
use Rattle.std.specs.List.{AllByRecursion}
use Rattle.dcsctp_spec_lemmas.specs.types.declared.options.Options.{Options}
use Rattle.dcsctp_spec_lemmas.specs.spec.endpoint.Endpoint.{Endpoint}
use Rattle.dcsctp_spec_lemmas.specs.spec.endpoint.Event.{packets_of_events}
use Rattle.dcsctp_spec_lemmas.specs.spec.endpoint.Outcome.{Outcome}
use Rattle.dcsctp_spec_lemmas.specs.spec.Packet.{Emission}
use Rattle.dcsctp_spec_lemmas.specs.spec.endpoint.Turn.{Input}
use Rattle.dcsctp_spec_lemmas.specs.spec.queues.Transfer.{Transfer, EndpointQueues}
use Rattle.dcsctp_delivery_directions.specs.sending.Log.{Fits, Message}
use Rattle.dcsctp_delivery_sockets.specs.turns.Actions.{ledger_of, Inside, inside, LeadsToLedger, MakesAlso, content_of_input, queued_after, read_after, peer_tag, opening_queues, Becomes, streams_user_resets, goes_on, pauses, prepared_inside, works_resets, renews, ends, begins, collides, NoEnd, exchange_of}
use Rattle.dcsctp_delivery_directions.specs.sending.Queueing.{QueueWaits}
use Rattle.dcsctp_delivery_sockets.specs.turns.Addressed.{AreAddressed}
use Rattle.dcsctp_delivery_sockets.specs.turns.Reports.{ComesReported}
use Rattle.dcsctp_delivery_sockets.proofs.turns.Idle.{opening_reports}
use Rattle.dcsctp_spec_lemmas.specs.spec.association.Effect.{identity_of_core}
use Rattle.dcsctp_spec_lemmas.specs.types.queues.Messages.{MessageContent}
use Rattle.dcsctp_delivery_sockets.specs.turns.Runs.{direction_with_sender, accepted_resets, prepared_with, prepared_after, IsBetween, as_it_was, once_renewed, TakesTurnsByOption, OpensSmall, EndsPerformed, RefusesNone, MayDrop, IsTrueAcknowledgement, SenderTurns, run_goes_on, run_ends, run_begins, run_outlasts}
use Rattle.dcsctp_delivery_directions.specs.directions.Directions.{Asking, PreparedReset, nothing_asked, asking_renewed, Direction, Beginning, HasReached, BeginsAs, DirectionRun, IsAwaited}
use Rattle.dcsctp_delivery_sockets.proofs.turns.Sides.{one_step, steps_go_on, actions_send}
use Rattle.dcsctp_spec_lemmas.specs.spec.Reconfiguration.{RequestedReset, renewed_reset}
use Rattle.dcsctp_spec_lemmas.specs.spec.association.FlushChanges.{reset_request}
use Rattle.dcsctp_delivery_sockets.specs.turns.Asking.{Own, own_of, AsksFit, AskingGrows}
use Rattle.dcsctp_delivery_directions.proofs.sending.Prepared.{preparing_kind}
use Rattle.dcsctp_delivery_sockets.proofs.turns.Numbering.{actions_kind}
use Rattle.dcsctp_delivery_sockets.proofs.turns.Fronts.{is_asking, own_renews, sending_by, front_sends, front_none}
use Rattle.dcsctp_delivery_directions.proofs.directions.Directions.{direction_queues}
use Rattle.dcsctp_delivery_sockets.proofs.turns.Addressed.{data_goes_to_peer}
use Rattle.dcsctp_delivery_sockets.proofs.turns.Outlasts.{outlasts_goes}
use Rattle.dcsctp_delivery_sockets.specs.turns.Sides.{received_so_far}
use Rattle.dcsctp_delivery_sockets.proofs.turns.Begun.{grows_not}
use Rattle.dcsctp_delivery_sockets.proofs.turns.Beginnings.{input_more, nothing_fits, begun_queues, begun_kind}
use Rattle.dcsctp_delivery_sockets.proofs.turns.Rests.{begun_rests}
use Rattle.dcsctp_delivery_sockets.proofs.turns.Turns.{Prepares, accepted_is}

module _ (options : Options) (first size : ℕ) (direction : Direction) (e : Endpoint) (input : Input) (o : Outcome) (run : DirectionRun options first size direction) (small : first < 2 ^ 32) (same : direction.queues ≡ e.queues) (rules : TakesTurnsByOption e)
    (fits : AsksFit first (own_of e) direction.asking) (performed : EndsPerformed direction.beginning.in_turn e o direction.asking) (refuses : RefusesNone direction.beginning.in_turn e o) (drops : MayDrop e input (length direction.queued) direction.beginning) (opens : OpensSmall e input o) (told : IsTrueAcknowledgement direction e input) (few : length (queued_after e input direction.queued) < 2 ^ 64) where
  both : QueueWaits direction.queued direction.queues.queue × AllByRecursion Fits direction.queued
  both = direction_queues options first size direction run small (let more = input_more e input direction.queued in omega (arith, few, more))

  -- the direction after the turn
  abbrev after_turn : EndpointQueues → ℕ → Asking → Direction
  after_turn last acknowledged asking = direction_with_sender direction (queued_after e input direction.queued) last acknowledged (direction.sent ++ packets_of_events o.events) asking

  -- What acknowledges may be heard from here, too: there is an association if there was one before.
  told_here : (old : Inside) → (e.queues.transfer ≡ None → old.queues.transfer ≡ None) → (transfer : Transfer) → old.queues.transfer ≡ Some transfer → ComesReported (HasReached direction.first_tsn direction.tracker) (content_of_input input)
  told_here old nowhere transfer there = go e.queues.transfer refl
    where
      go : (found : Option Transfer) → e.queues.transfer ≡ found → ComesReported (HasReached direction.first_tsn direction.tracker) (content_of_input input)
      go None none = (let clash : ◌≡◌ {A = Option Transfer} None (Some transfer) = sym (nowhere none) ∙ there in absurd (cc))
      go (Some other) known = told other known

  -- Actions lead on from where a run is.
  moved : (prepared : List PreparedReset) (old : Inside) (asking : Asking) → (e.queues.transfer ≡ None → old.queues.transfer ≡ None) → DirectionRun options first size (record (sending_by direction old asking) { prepared = prepared }) → (last : Inside)
      → (made : LeadsToLedger (content_of_input input) (peer_tag e.core) (ledger_of direction.queued old.queues direction.sent [] asking) first last (exchange_of (queued_after e input direction.queued) (direction.sent ++ packets_of_events o.events) (read_after e input [])))
      → (acknowledged : ℕ) × DirectionRun options first size (record (after_turn last.queues acknowledged made.asking) { prepared = prepared })
  moved prepared old asking nowhere start last made =
      let sends = actions_send (content_of_input input) (peer_tag e.core) (ledger_of direction.queued old.queues direction.sent [] asking)
      (ledger_of (queued_after e input direction.queued) last.queues (direction.sent ++ packets_of_events o.events) (read_after e input []) made.asking) direction.acknowledged direction.first_tsn (record (received_so_far direction) { prepared = prepared }) direction.beginning
      (told_here old nowhere) made.actions in
      (sends.later, steps_go_on options first size (record (sending_by direction old asking) { prepared = prepared }) (record (after_turn last.queues sends.later made.asking) { prepared = prepared }) start sends.steps)

  starts : DirectionRun options first size (sending_by direction (inside e) direction.asking)
  starts = subst (λ (b : EndpointQueues). DirectionRun options first size (record direction { queues = b })) same run

  -- the calls by which its user has reset streams
  abbrev calls_then : List PreparedReset
  calls_then = prepared_after e input (length direction.queued) direction.prepared

  -- Where it resets none they are as before.
  spared : accepted_resets e input ≡ None → (between : Direction) → DirectionRun options first size (record between { prepared = direction.prepared }) → DirectionRun options first size (record between { prepared = calls_then })
  spared none between = subst (λ (accepted : Option (List ℕ)). DirectionRun options first size (record between { prepared = prepared_with accepted (length direction.queued) direction.prepared })) (sym none)

  addressed : (to : ℕ) (old : Inside) (asking : Asking) (start : ℕ) (last : Inside) (queued : List Message) (read : List MessageContent)
      → LeadsToLedger (content_of_input input) to (ledger_of direction.queued old.queues [] [] asking) start last (exchange_of queued ([] ++ packets_of_events o.events) read) → AreAddressed to (packets_of_events o.events)
  addressed to old asking start last queued read made = data_goes_to_peer (content_of_input input) to _ _ tt made.actions

  -- The turn continues after these steps.
  goes_further : identity_of_core o.after.core ≡ identity_of_core e.core → (worked : Inside) (asking : Asking) → (e.queues.transfer ≡ None → worked.queues.transfer ≡ None) → IsBetween o.effects direction.asking asking → worked.queues.queue.is_interleaved ≡ e.queues.queue.is_interleaved
      → AsksFit first worked.own asking → DirectionRun options first size (record (sending_by direction worked asking) { prepared = calls_then })
      → MakesAlso (content_of_input input) (peer_tag e.core) (queued_after e input) (read_after e input) worked (packets_of_events o.events) (inside o.after) → SenderTurns options first size direction e input o
  goes_further linked worked asking nowhere between kind fit start makes =
      let made = makes direction.queued direction.sent [] first asking fit in
      let after = moved calls_then worked asking nowhere start (inside o.after) made in
      run_goes_on linked (addressed (peer_tag e.core) worked asking first (inside o.after) _ _ (makes direction.queued [] [] first asking fit))
      (actions_kind (content_of_input input) (peer_tag e.core) _ _ made.actions ∙ kind) after.0 asking made.asking between made.grows made.fits after.1

  -- Its user resets streams.
  pub sender_prepares : (ids : List ℕ) → accepted_resets e input ≡ Some ids → Prepares e input o ids → SenderTurns options first size direction e input o
  sender_prepares ids is p =
      goes_further p.linked (prepared_inside ids (inside e)) direction.asking (λ none. none) as_it_was (preparing_kind ids e.queues.queue) fits
      (subst (λ (accepted : Option (List ℕ)). DirectionRun options first size (record (sending_by direction (prepared_inside ids (inside e)) direction.asking) { prepared = prepared_with accepted (length direction.queued) direction.prepared })) (sym is)
      (steps_go_on options first size (sending_by direction (inside e) direction.asking) (record (sending_by direction (prepared_inside ids (inside e)) direction.asking) { prepared = record { ids = ids; count = length direction.queued } ∷ direction.prepared }) starts
      (one_step (sending_by direction (inside e) direction.asking) _ (directions.prepares ids p.small (drops p.accepted ids p.resets))))) p.makes

  pub sender_becomes : accepted_resets e input ≡ None → Becomes (streams_user_resets input) (content_of_input input) (peer_tag e.core) (queued_after e input) (read_after e input) e o → SenderTurns options first size direction e input o
  sender_becomes unpaused (goes_on calm linked makes) = goes_further linked (inside e) direction.asking (λ none. none) as_it_was refl fits (spared unpaused (sending_by direction (inside e) direction.asking) starts) makes
  sender_becomes unpaused (pauses ids resets calm accepted linked small' makes) = absurd (let clash : None ≡ Some ids = sym unpaused ∙ accepted_is e input ids resets accepted in cc)
  sender_becomes unpaused (works_resets linked between worked own peer makes) =
      let front = front_sends (content_of_input input) first direction o.effects (inside e) between worked own peer fits performed refuses in
      goes_further linked worked front.asking (λ none. front_none (content_of_input input) o.effects (inside e) between worked own peer none) front.between front.kind front.fits
      (spared unpaused (sending_by direction worked front.asking) (steps_go_on options first size (sending_by direction (inside e) direction.asking) (sending_by direction worked front.asking) starts front.steps)) makes
  sender_becomes unpaused (renews calm linked alike unread own number emission kept out is packets tag contents) =
      let r = own_renews first own number direction.asking out (is_asking first (own_of e) own direction.asking kept fits) in
      let asking : Asking = asking_renewed own.next r.newest direction.asking in
      let sends : DirectionRun options first size (direction_with_sender direction direction.queued direction.queues direction.acknowledged (direction.sent ++ emission ∷ []) asking) =
      directions.goes_on direction _ run
      (directions.renews emission r.newest r.earlier own.next r.is r.one (contents ∙ ap (λ (reset : RequestedReset). reset_request own.next (renewed_reset reset) ∷ []) (sym r.again))) in
      let queues : DirectionRun options first size (direction_with_sender direction (queued_after e input direction.queued) direction.queues direction.acknowledged (direction.sent ++ emission ∷ []) asking) =
      subst (λ (l : List Message). DirectionRun options first size (direction_with_sender direction l direction.queues direction.acknowledged (direction.sent ++ emission ∷ []) asking)) (sym (alike direction.queued)) sends in
      let holds : DirectionRun options first size (direction_with_sender direction (queued_after e input direction.queued) o.after.queues direction.acknowledged (direction.sent ++ emission ∷ []) asking) =
      subst (λ (b : EndpointQueues). DirectionRun options first size (direction_with_sender direction (queued_after e input direction.queued) b direction.acknowledged (direction.sent ++ emission ∷ []) asking))
      (same ∙ ap (λ (i : Inside). i.queues) (sym is)) queues in
      run_goes_on linked (subst (AreAddressed (peer_tag e.core)) (sym packets) (inr (tag, subst NoEnd (sym contents) tt), tt)) (ap (λ (i : Inside). i.queues.queue.is_interleaved) is)
      direction.acknowledged asking asking (once_renewed r.newest r.earlier own.next r.is r.one r.next) (grows_not asking)
      (subst (λ (k : Option Own). AsksFit first k asking) (sym (ap (λ (i : Inside). i.own) is)) r.fits)
      (spared unpaused (direction_with_sender direction (queued_after e input direction.queued) o.after.queues direction.acknowledged (direction.sent ++ packets_of_events o.events) asking)
      (subst (λ (l : List Emission). DirectionRun options first size (direction_with_sender direction (queued_after e input direction.queued) o.after.queues direction.acknowledged (direction.sent ++ l) asking)) (sym packets) holds))
  sender_becomes unpaused (ends none unread silent last kept makes is) =
      let made = makes direction.queued direction.sent [] first direction.asking fits in
      let after = moved direction.prepared (inside e) direction.asking (λ none. none) starts last made in
      let left = direction_queues options first size (after_turn last.queues after.0 made.asking) after.1 small few in
      run_ends unpaused none (addressed (peer_tag e.core) (inside e) direction.asking first last _ _ (makes direction.queued [] [] first direction.asking fits)) last.queues
      (actions_kind (content_of_input input) (peer_tag e.core) _ _ made.actions) after.0 made.asking made.grows (subst (λ (o : Option Own). AsksFit first o made.asking) kept made.fits) after.1 is left.0 left.1
  sender_becomes unpaused (collides collision alike unread again makes) =
      run_outlasts unpaused collision (alike direction.queued) (λ first_is asked. outlasts_goes options first size direction e input o run small same collision first_is asked again makes)
  sender_becomes unpaused (begins begun opening linked alike unread again makes) =
      let waits = subst (λ (b : EndpointQueues). QueueWaits direction.queued b.queue) same both.0 in
      run_begins unpaused begun opening linked
      (addressed begun.held.peer.tag (started again) nothing_asked begun.my.first_tsn (inside o.after) _ _
      (makes direction.queued [] [] begun.my.first_tsn nothing_asked (nothing_fits begun.my.first_tsn again (opens begun opening linked))))
      (actions_kind (content_of_input input) begun.held.peer.tag _ _ (makes direction.queued [] [] begun.my.first_tsn nothing_asked (nothing_fits begun.my.first_tsn again (opens begun opening linked))).actions ∙ begun_kind e o begun)
      (alike direction.queued) waits both.1 later
    where
      started : RequestedReset → Inside
      started reset = record { queues = opening_queues e o begun; own = Some (record { number = None; next = begun.my.first_tsn; again = reset }) }

      later : (other : Options) (room : ℕ) (awaiting : Direction) (queued : List Message) (beginning : Beginning) → QueueWaits queued e.queues.queue → AllByRecursion Fits queued → DirectionRun other begun.my.first_tsn room awaiting → IsAwaited awaiting
          → BeginsAs beginning queued begun.queue → (acknowledged : ℕ) × (asking : Asking) × AskingGrows nothing_asked asking × AsksFit begun.my.first_tsn (own_of o.after) asking
          × DirectionRun other begun.my.first_tsn room (record (direction_with_sender awaiting queued o.after.queues acknowledged (packets_of_events o.events) asking) { prepared = []; beginning = beginning })
      later other room awaiting queued beginning shown fit waits awaited zeros =
          let there : Direction = record awaiting { prepared = []; beginning = beginning } in
          let start : DirectionRun other begun.my.first_tsn room (direction_with_sender there queued (opening_queues e o begun) there.acknowledged there.sent there.asking) =
          directions.starts awaiting queued (opening_queues e o begun) beginning waits awaited fit (begun_queues e o begun queued rules shown) (refl, refl, sym (begun_kind e o begun), begun_rests e o begun queued rules shown) zeros in
          let numbered : DirectionRun other begun.my.first_tsn room (direction_with_sender there queued (opening_queues e o begun) 0 there.sent there.asking) =
          subst (λ (g : ℕ). DirectionRun other begun.my.first_tsn room (direction_with_sender there queued (opening_queues e o begun) g there.sent there.asking)) awaited.acknowledged start in
          let unsent : DirectionRun other begun.my.first_tsn room (direction_with_sender there queued (opening_queues e o begun) 0 [] there.asking) =
          subst (λ (l : List Emission). DirectionRun other begun.my.first_tsn room (direction_with_sender there queued (opening_queues e o begun) 0 l there.asking)) awaited.sent numbered in
          let here : DirectionRun other begun.my.first_tsn room (direction_with_sender there queued (opening_queues e o begun) 0 [] nothing_asked) =
          subst (λ (a : Asking). DirectionRun other begun.my.first_tsn room (direction_with_sender there queued (opening_queues e o begun) 0 [] a)) awaited.asking unsent in
          let made = makes queued [] [] begun.my.first_tsn nothing_asked (nothing_fits begun.my.first_tsn again (opens begun opening linked)) in
          let sends = actions_send (content_of_input input) begun.held.peer.tag (ledger_of queued (opening_queues e o begun) [] [] nothing_asked) (ledger_of queued o.after.queues (packets_of_events o.events) [] made.asking) 0
          awaiting.first_tsn (record (received_so_far awaiting) { prepared = [] }) beginning
          (λ transfer known. opening_reports (HasReached awaiting.first_tsn awaiting.tracker) (content_of_input input) opening) made.actions in (
            sends.later,
            made.asking,
            made.grows,
            made.fits,
            steps_go_on other begun.my.first_tsn room (direction_with_sender there queued (opening_queues e o begun) 0 [] nothing_asked)
                (direction_with_sender there queued o.after.queues sends.later (packets_of_events o.events) made.asking) here sends.steps,
          )
