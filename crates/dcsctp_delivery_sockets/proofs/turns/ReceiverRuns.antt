-- A turn, as what it does to runs of the direction on which the socket receives.
use Rattle.std.proofs.Common.{◌≡◌, ℕ, Bool, true, false, None, Some, List, [], ◌∷◌, ◌++◌, refl, sym, ◌∙◌, ◌⊎◌, ap, subst, inl, inr}
use Rattle.dcsctp_spec_lemmas.specs.types.declared.options.Options.{Options}
use Rattle.dcsctp_spec_lemmas.specs.spec.endpoint.Endpoint.{Endpoint}
use Rattle.dcsctp_spec_lemmas.specs.spec.endpoint.Event.{packets_of_events}
use Rattle.dcsctp_spec_lemmas.specs.spec.endpoint.Outcome.{Outcome}
use Rattle.dcsctp_spec_lemmas.specs.spec.endpoint.Turn.{Input}
use Rattle.dcsctp_spec_lemmas.specs.spec.queues.SendQueue.{empty_queue}
use Rattle.dcsctp_spec_lemmas.specs.spec.queues.Transfer.{Transfer, EndpointQueues}
use Rattle.dcsctp_delivery_sockets.specs.turns.Actions.{Actions, ledger_of, Inside, inside, LeadsToLedger, MakesPackets, MakesAlso, IsOpening, begun_transfer, content_of_input, queued_after, read_after, peer_tag, BeginsAssociation, opening_queues, Becomes, streams_user_resets, goes_on, pauses, prepared_inside, works_resets, renews, ends, begins, collides, IsCalm, exchange_of}
use Rattle.dcsctp_delivery_sockets.specs.turns.Sides.{WasAsked, WasSent, receiving, ReceivingSteps}
use Rattle.dcsctp_spec_lemmas.specs.spec.association.Effect.{identity_of, identity_of_core}
use Rattle.dcsctp_spec_lemmas.specs.types.queues.Messages.{MessageContent}
use Rattle.dcsctp_delivery_sockets.specs.turns.Runs.{new_direction, OpensSmall, KnowsRequest, performed_if_reset, RecordsByTurn, records_none, records_one, reached_count, ReceiverTurns, receiver_goes_on, receiver_ends, receiver_begins, OpensAssociation, IdleTurns, idle_stays, idle_begins, taken_turn}
use Rattle.dcsctp_delivery_directions.specs.directions.Directions.{PerformedReset, Asking, HasAskedUpTo, nothing_asked, Direction, DirectionRun}
use Rattle.dcsctp_spec_lemmas.specs.spec.association.FlushChanges.{reset_request}
use Rattle.dcsctp_spec_lemmas.specs.spec.endpoint.BegunResets.{BegunReset}
use Rattle.dcsctp_delivery_sockets.proofs.turns.Sides.{steps_go_on, actions_receive}
use Rattle.dcsctp_delivery_sockets.proofs.turns.Idle.{actions_none, read_none, opening_sent}
use Rattle.dcsctp_spec_lemmas.specs.spec.Reconfiguration.{RequestedReset, outgoing_reset_request, number_answered}
use Rattle.dcsctp_spec_lemmas.specs.spec.endpoint.ResetOutcomes.{has_reset, first_reset_request}
use Rattle.dcsctp_delivery_sockets.specs.turns.Asking.{own_of, SomeFit}
use Rattle.dcsctp_delivery_sockets.proofs.turns.Counted.{counts_same}
use Rattle.dcsctp_delivery_sockets.proofs.turns.Fronts.{RecordsFront, front_none_new, front_one_new, AsksSome, renewed_fit, front_none, resetting, unperformed, front_receives}
use Rattle.dcsctp_spec_lemmas.specs.spec.Packet.{re_config, Emission}
use Rattle.dcsctp_delivery_directions.specs.sending.Log.{Message}
use Rattle.dcsctp_delivery_directions.specs.sending.Flushes.{NoRequests}
use Rattle.dcsctp_delivery_directions.specs.directions.Requests.{IsOfBegun}
use Rattle.dcsctp_delivery_directions.proofs.directions.Requests.{requests_were_begun}
use Rattle.dcsctp_delivery_sockets.proofs.turns.PeerRequests.{none_requested}
use Rattle.dcsctp_delivery_sockets.proofs.turns.Beginnings.{nothing_fits, unlinked_fits, worked_fits}
use Rattle.dcsctp_delivery_sockets.proofs.turns.Outlasts.{collided_opens}

abbrev empty_direction : Options → Direction
empty_direction options = new_direction options 0 0 [] (record { queue = empty_queue options; transfer = None }) 0 [] (record { from_zero = false; has_all = false; keeps = λ id. false; asks = λ id count. false; empties = λ id count. false; in_turn = false })

module _ (e : Endpoint) (input : Input) (o : Outcome) (small : OpensSmall e input o) where
  -- An association that begins, with nothing begun to be reset.
  abbrev started : BeginsAssociation e o → RequestedReset → Inside
  started begun again = record { queues = opening_queues e o begun; own = Some (record { number = None; next = begun.my.first_tsn; again = again }) }

  opens : (begun : BeginsAssociation e o) → IsOpening (content_of_input input) → identity_of_core o.after.core ≡ Some (identity_of begun.my begun.held) → ((read : List MessageContent) → read_after e input read ≡ read)
      → (again : RequestedReset) → MakesPackets (content_of_input input) begun.held.peer.tag (started begun again) (packets_of_events o.events) (inside o.after) → OpensAssociation e input o
  opens begun opening linked unread again makes =
      record {
        begun = begun;
        opening = opening;
        linked = linked;
        unread = unread;
        left = got.left;
        is = got.is;
        runs = λ options first size direction run. subst (λ (t : Transfer). DirectionRun options first size (receiving direction t direction.read)) (same_left (received direction).left got.left (received direction).is got.is)
            (steps_go_on options first size (receiving direction (begun_transfer e o begun) direction.read) (receiving direction (received direction).left direction.read) run (received direction).steps);
        fits = record { first = begun.my.first_tsn; asking = (made []).asking; fits = (made []).fits };
        empty = got.waits;
      }
    where
      made : (read : List MessageContent) → LeadsToLedger (content_of_input input) begun.held.peer.tag (ledger_of [] (opening_queues e o begun) [] read nothing_asked) begun.my.first_tsn (inside o.after) (exchange_of [] ([] ++ packets_of_events o.events) read)
      made read = makes [] [] read begun.my.first_tsn nothing_asked (nothing_fits begun.my.first_tsn again (small begun opening linked))

      received : (direction : Direction) → ReceivingSteps direction (begun_transfer e o begun) (ledger_of [] (opening_queues e o begun) [] direction.read nothing_asked)
          (ledger_of [] o.after.queues ([] ++ packets_of_events o.events) direction.read (made direction.read).asking)
      received direction =
          actions_receive (content_of_input input) begun.held.peer.tag (ledger_of [] (opening_queues e o begun) [] direction.read nothing_asked)
          (ledger_of [] o.after.queues ([] ++ packets_of_events o.events) direction.read (made direction.read).asking) direction (begun_transfer e o begun)
          (opening_sent direction.sent (content_of_input input) opening) refl (made direction.read).actions

      got : ReceivingSteps (empty_direction e.options) (begun_transfer e o begun) (ledger_of [] (opening_queues e o begun) [] [] nothing_asked) (ledger_of [] o.after.queues ([] ++ packets_of_events o.events) [] (made []).asking)
      got = received (empty_direction e.options)

      same_left : (one other : Transfer) → o.after.queues.transfer ≡ Some one → o.after.queues.transfer ≡ Some other → one ≡ other
      same_left one other first second = cc

  idle_goes : identity_of_core o.after.core ≡ identity_of_core e.core → (worked : Inside) → SomeFit worked.own → worked.queues.transfer ≡ None
      → MakesAlso (content_of_input input) (peer_tag e.core) (queued_after e input) (read_after e input) worked (packets_of_events o.events) (inside o.after) → ((read : List MessageContent) → read_after e input read ≡ read) → IdleTurns e input o
  idle_goes linked worked fits none makes unread =
      let made = makes [] [] [] fits.first fits.asking fits.fits in
      idle_stays (inr linked) (actions_none (content_of_input input) (peer_tag e.core) _ _ made.actions none) (record { first = fits.first; asking = made.asking; fits = made.fits }) unread

  pub idle_becomes : e.queues.transfer ≡ None → SomeFit (own_of e) → Becomes (streams_user_resets input) (content_of_input input) (peer_tag e.core) (queued_after e input) (read_after e input) e o → IdleTurns e input o
  idle_becomes none fits (goes_on calm linked makes) = idle_goes linked (inside e) fits none makes (λ read. read_none e input read none)
  idle_becomes none fits (pauses ids resets calm accepted linked small' makes) = idle_goes linked (prepared_inside ids (inside e)) fits none makes (λ read. read_none e input read none)
  idle_becomes none fits (works_resets linked between worked own peer makes) =
      idle_goes linked worked (worked_fits (content_of_input input) o (inside e) between worked own peer fits) (front_none (content_of_input input) o.effects (inside e) between worked own peer none) makes
      (λ read. read_none e input read none)
  idle_becomes none fits (renews calm linked alike unread own number emission kept out is packets tag contents) =
      idle_stays (inr linked) (ap (λ (i : Inside). i.queues.transfer) is ∙ none) (renewed_fit (own_of e) (own_of o.after) own number kept out (ap (λ (i : Inside). i.own) is) fits) (λ read. read_none e input read none)
  idle_becomes none fits (ends gone unread silent last kept makes is) = idle_stays (inl gone) (ap (λ (b : EndpointQueues). b.transfer) is) (unlinked_fits o.after.core o.after.outstanding gone) (λ read. read_none e input read none)
  idle_becomes none fits (begins begun opening linked alike unread again makes) = idle_begins (opens begun opening linked unread again makes)
  idle_becomes none fits (collides collision alike unread again makes) = absurd (let both : Some collision.transfer ≡ None = sym collision.there ∙ none in cc)

module _ (is_known : Bool) (options : Options) (first size : ℕ) (direction : Direction) (transfer : Transfer) (e : Endpoint) (input : Input) (o : Outcome) (run : DirectionRun options first size (receiving direction transfer direction.read))
    (known : e.queues.transfer ≡ Some transfer) (was : WasSent direction.sent (content_of_input input)) (newest : KnowsRequest is_known direction transfer (content_of_input input) o.effects) (fits : SomeFit (own_of e)) (small : OpensSmall e input o) where
  -- the direction, once a request was performed in this turn or not
  abbrev worked_direction : Bool → List PerformedReset → Direction
  worked_direction is_reset performed = record direction { performed = performed; asking = performed_if_reset is_known is_reset direction.asking }

  -- A request that is handled was sent, so it was begun.
  asks_some : AsksSome direction (content_of_input input)
  asks_some parameters reset is wants = go (subst (WasSent direction.sent) is was)
    where
      not_wanted : NoRequests parameters → ⊥
      not_wanted unasked = (let clash : None ≡ Some reset = sym (none_requested parameters unasked) ∙ wants in cc)

      same_reset : (begun : BegunReset) → re_config parameters ≡ reset_request begun.number begun.reset → begun.reset ≡ reset
      same_reset begun same =
          let parts : outgoing_reset_request begun.number (number_answered begun.number begun.reset.is_new) begun.reset ∷ [] ≡ parameters = cc in
          let both : Some begun.reset ≡ Some reset = ap first_reset_request parts ∙ wants in
          cc

      of_begun : IsOfBegun direction.asking.requests (re_config parameters) → HasAskedUpTo direction.asking.requests reset.last_tsn reset.streams
      of_begun (inl unasked) = absurd (not_wanted unasked)
      of_begun (inr (begun, has, same)) =
          record { asked = record { begun = begun; has = has; is = ap (λ (r : RequestedReset). r.streams) (same_reset begun same) }; last = ap (λ (r : RequestedReset). r.last_tsn) (same_reset begun same) }

      go : NoRequests parameters ⊎ WasAsked direction.sent parameters → HasAskedUpTo direction.asking.requests reset.last_tsn reset.streams
      go (inl unasked) = absurd (not_wanted unasked)
      go (inr asked) = of_begun (requests_were_begun options first size (receiving direction transfer direction.read) run asked.emission parameters asked.was asked.holds)

  goes_further : identity_of_core o.after.core ≡ identity_of_core e.core → (is_reset : Bool) → (is_reset ≡ false → (has_reset o.effects ≡ false) ⊎ IsCalm (content_of_input input)) → (is_reset ≡ true → has_reset o.effects ≡ true) → (worked : Inside) (between : Transfer)
      → worked.queues.transfer ≡ Some between → (asked : SomeFit worked.own) → (performed : List PerformedReset) → RecordsFront (content_of_input input) o.effects direction between performed ⊎ (IsCalm (content_of_input input) × (performed ≡ direction.performed))
      → DirectionRun options first size (resetting is_known direction between is_reset performed)
      → MakesAlso (content_of_input input) (peer_tag e.core) (queued_after e input) (read_after e input) worked (packets_of_events o.events) (inside o.after) → ReceiverTurns is_known options first size direction transfer (taken_turn e input o)
  goes_further linked is_reset none some worked between there asked performed records start makes =
      let made = makes [] [] direction.read asked.first asked.asking asked.fits in
      let got = actions_receive (content_of_input input) (peer_tag e.core) (ledger_of [] worked.queues [] direction.read asked.asking)
      (ledger_of (queued_after e input []) o.after.queues ([] ++ packets_of_events o.events) (read_after e input direction.read) made.asking) (worked_direction is_reset performed) between was there made.actions in
      receiver_goes_on linked got.left got.is (record { first = asked.first; asking = made.asking; fits = made.fits }) (performed_if_reset is_known is_reset direction.asking) (is_reset, none, some, refl)
      performed (recorded between got.left performed there got.is made.actions records)
      (steps_go_on options first size (receiving (worked_direction is_reset performed) between direction.read) (receiving (worked_direction is_reset performed) got.left (read_after e input direction.read)) start got.steps)
    where
      recorded : (between left : Transfer) (performed : List PerformedReset) → worked.queues.transfer ≡ Some between → o.after.queues.transfer ≡ Some left
          → {queued queued' : List Message} {sent sent' : List Emission} {asking asking' : Asking} → Actions (content_of_input input) (peer_tag e.core) (ledger_of queued worked.queues sent direction.read asking) (ledger_of queued' o.after.queues sent' (read_after e input direction.read) asking')
          → RecordsFront (content_of_input input) o.effects direction between performed ⊎ (IsCalm (content_of_input input) × (performed ≡ direction.performed))
          → RecordsByTurn input o (reached_count (read_after e input direction.read) left) direction.performed performed
      recorded between left _ there is actions (inl (front_none_new none')) = records_none (inl none')
      recorded between left _ there is actions (inl (front_one_new some' parameters reset came wants)) =
          subst (λ (n : ℕ). RecordsByTurn input o (reached_count (read_after e input direction.read) left) direction.performed (record { streams = reset.streams; index = n } ∷ direction.performed))
          (counts_same (content_of_input input) (peer_tag e.core) parameters came _ _ between left there is actions) (records_one some' parameters reset came wants)
      recorded between left performed there is actions (inr (calm, same)) = subst (RecordsByTurn input o (reached_count (read_after e input direction.read) left) direction.performed) (sym same) (records_none (inr calm))

  pub receiver_becomes : Becomes (streams_user_resets input) (content_of_input input) (peer_tag e.core) (queued_after e input) (read_after e input) e o → ReceiverTurns is_known options first size direction transfer (taken_turn e input o)
  receiver_becomes (goes_on calm linked makes) =
      goes_further linked false (λ no. inr calm) (λ is. absurd (cc)) (inside e) transfer known fits direction.performed (inr (calm, refl))
      (subst (λ (a : Asking). DirectionRun options first size (record (receiving direction transfer direction.read) { asking = a })) (sym (unperformed is_known direction.asking)) run) makes
  receiver_becomes (pauses ids resets calm accepted linked small' makes) =
      goes_further linked false (λ no. inr calm) (λ is. absurd (cc)) (prepared_inside ids (inside e)) transfer known fits direction.performed (inr (calm, refl))
      (subst (λ (a : Asking). DirectionRun options first size (record (receiving direction transfer direction.read) { asking = a })) (sym (unperformed is_known direction.asking)) run) makes
  receiver_becomes (works_resets linked between worked own peer makes) =
      let front = front_receives is_known (content_of_input input) o.effects direction transfer (inside e) between worked newest asks_some known own peer in
      goes_further linked front.is_reset (λ no. inl (front.none no)) front.some worked front.left front.is (worked_fits (content_of_input input) o (inside e) between worked own peer fits) front.performed (inl front.records)
      (steps_go_on options first size (receiving direction transfer direction.read) (resetting is_known direction front.left front.is_reset front.performed) run front.steps) makes
  receiver_becomes (renews calm linked alike unread own number emission kept out is packets tag contents) =
      let asking : Asking = performed_if_reset is_known false direction.asking in
      let stays : DirectionRun options first size (record (receiving direction transfer direction.read) { asking = asking }) =
      subst (λ (a : Asking). DirectionRun options first size (record (receiving direction transfer direction.read) { asking = a })) (sym (unperformed is_known direction.asking)) run in
      receiver_goes_on linked transfer (ap (λ (i : Inside). i.queues.transfer) is ∙ known) (renewed_fit (own_of e) (own_of o.after) own number kept out (ap (λ (i : Inside). i.own) is) fits) asking
      (false, λ no. inr calm, λ some. absurd (cc), refl) direction.performed (records_none (inr calm))
      (subst (λ (l : List MessageContent). DirectionRun options first size (record (receiving direction transfer l) { asking = asking })) (sym (unread direction.read)) stays)
  receiver_becomes (ends none unread silent last kept makes is) = receiver_ends none (ap (λ (b : EndpointQueues). b.transfer) is) unread
  receiver_becomes (begins begun opening linked alike unread again makes) = receiver_begins (opens e input o small begun opening linked unread again makes)
  receiver_becomes (collides collision alike unread again makes) = receiver_begins (collided_opens e input o small collision unread again makes)
