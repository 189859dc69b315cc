-- Both ends began at the same time: what was sent to the one peer goes on with the other (RFC 9260,
-- section 5.2.4, action B). The run of the direction continues.
use Rattle.std.proofs.Common.{◌≡◌, ◌<◌, ◌^◌, ℕ, false, None, Some, List, [], ◌++◌, refl, sym, ◌∙◌, ap, subst, inr}
use Rattle.std.specs.Prelude.{Option}
use Rattle.dcsctp_spec_lemmas.specs.wire.declared.reconfiguration.ReconfigurationResponseResult.TheVariants.{InProgress}
use Rattle.dcsctp_spec_lemmas.specs.types.declared.association.Held.{Held}
use Rattle.dcsctp_spec_lemmas.specs.types.declared.options.Options.{Options}
use Rattle.dcsctp_spec_lemmas.specs.spec.Packet.{Content}
use Rattle.dcsctp_spec_lemmas.specs.spec.Reconfiguration.{RequestedReset}
use Rattle.dcsctp_spec_lemmas.specs.spec.endpoint.Endpoint.{Endpoint}
use Rattle.dcsctp_spec_lemmas.specs.spec.endpoint.Event.{packets_of_events}
use Rattle.dcsctp_spec_lemmas.specs.spec.endpoint.Outcome.{Outcome}
use Rattle.dcsctp_spec_lemmas.specs.spec.endpoint.Turn.{Input}
use Rattle.dcsctp_spec_lemmas.specs.types.queues.Messages.{MessageContent}
use Rattle.dcsctp_spec_lemmas.specs.spec.queues.Reassembly.{DeferralModel, ReassemblyState, new_reassembly}
use Rattle.dcsctp_spec_lemmas.specs.spec.queues.SendQueue.{empty_queue, queue_restarted, numbered_for}
use Rattle.dcsctp_spec_lemmas.specs.spec.queues.Tracker.{TrackerState, new_tracker}
use Rattle.dcsctp_spec_lemmas.specs.spec.queues.Transfer.{Transfer, EndpointQueues, part_overhead}
use Rattle.dcsctp_delivery_directions.specs.directions.Directions.{Asking, nothing_asked, Direction, HasReached, DirectionRun}
use Rattle.dcsctp_delivery_directions.proofs.directions.Awaited.{kept_goes}
use Rattle.dcsctp_delivery_sockets.specs.turns.Actions.{ledger_of, inside, LeadsToLedger, MakesPackets, content_of_input, read_after, BeginsAssociation, Collides, kept_inside, exchange_of}
use Rattle.dcsctp_delivery_sockets.specs.turns.Asking.{SomeFit, own_of, AsksFit}
use Rattle.dcsctp_delivery_sockets.specs.turns.PeerRequests.{SameWaits}
use Rattle.dcsctp_delivery_sockets.specs.turns.Runs.{direction_with_sender, new_direction, OpensSmall, OpensAssociation, Outlasts, taken_turn}
use Rattle.dcsctp_delivery_sockets.specs.turns.Sides.{received_so_far, receiving, ReceivingSteps}
use Rattle.dcsctp_delivery_sockets.proofs.turns.Addressed.{data_goes_to_peer}
use Rattle.dcsctp_delivery_sockets.proofs.turns.Beginnings.{nothing_fits}
use Rattle.dcsctp_delivery_sockets.proofs.turns.Fronts.{sending_by}
use Rattle.dcsctp_delivery_sockets.proofs.turns.Numbering.{actions_kind}
use Rattle.dcsctp_delivery_sockets.proofs.turns.Idle.{opening_sent, opening_reports}
use Rattle.dcsctp_delivery_sockets.proofs.turns.Sides.{steps_go_on, actions_send, actions_receive}

module _ (options : Options) (first size : ℕ) (direction : Direction) (e : Endpoint) (input : Input) (o : Outcome) (run : DirectionRun options first size direction) (small : first < 2 ^ 32) (same : direction.queues ≡ e.queues)
    (collision : Collides (content_of_input input) e o) (first_is : first ≡ collision.opened.link.my.first_tsn) (asked : direction.asking ≡ nothing_asked) (again : RequestedReset)
    (makes : MakesPackets (content_of_input input) collision.opened.link.peer.tag (kept_inside collision again) (packets_of_events o.events) (inside o.after)) where
  to : ℕ
  to = collision.opened.link.peer.tag

  -- What is in flight is kept.
  kept : DirectionRun options first size (sending_by direction (kept_inside collision again) nothing_asked)
  kept =
      let is = collision.kept_is in
      let there : direction.queues.transfer ≡ Some collision.transfer = ap (λ (b : EndpointQueues). b.transfer) same ∙ collision.there in
      let goes = kept_goes options e.options first size is.0 collision.opened.link.peer.first_tsn is.1 direction collision.transfer there run in
      subst (λ (a : Asking). DirectionRun options first size (sending_by direction (kept_inside collision again) a)) asked
      (subst (λ (b : EndpointQueues). DirectionRun options first size (record direction { queues = record b { transfer = Some collision.kept } })) same
      (subst (λ (t : Transfer). DirectionRun options first size (record direction { queues = record direction.queues { transfer = Some t } })) (sym is.2) goes))

  fits_kept : AsksFit first (kept_inside collision again).own nothing_asked
  fits_kept = subst (λ (n : ℕ). AsksFit first (Some (record { number = None; next = n; again = again })) nothing_asked) first_is (nothing_fits first again small)

  pub outlasts_goes : Outlasts options first size direction (taken_turn e input o) collision
  unfolding to
  outlasts_goes =
      let made = makes direction.queued direction.sent [] first nothing_asked fits_kept in
      let alone = makes direction.queued [] [] first nothing_asked fits_kept in
      let sends = actions_send (content_of_input input) to (ledger_of direction.queued (kept_inside collision again).queues direction.sent [] nothing_asked)
      (ledger_of direction.queued o.after.queues (direction.sent ++ packets_of_events o.events) [] made.asking) direction.acknowledged direction.first_tsn (received_so_far direction) direction.beginning
      (λ transfer there. opening_reports (HasReached direction.first_tsn direction.tracker) (content_of_input input) collision.opened.opening) made.actions in
      record {
        acknowledged = sends.later;
        asking = made.asking;
        grows = made.grows;
        fits = made.fits;
        addressed = data_goes_to_peer (content_of_input input) to _ _ tt alone.actions;
        kind = actions_kind (content_of_input input) to _ _ made.actions;
        run = steps_go_on options first size (sending_by direction (kept_inside collision again) nothing_asked)
            (direction_with_sender direction direction.queued o.after.queues sends.later (direction.sent ++ packets_of_events o.events) made.asking) kept sends.steps;
      }

-- ---- what its receiver does in the same turn

-- Nothing was received from the other peer yet, and the receiver goes on from there. It waits for no reset.
pub record OpensKept (e : Endpoint) (input : Input) (o : Outcome) (collision : Collides (content_of_input input) e o) : Type 0 where
  pub left : Transfer
  pub is : o.after.queues.transfer ≡ Some left
  pub runs : (options : Options) (first size : ℕ) (direction : Direction) → DirectionRun options first size (receiving direction collision.kept direction.read) → DirectionRun options first size (receiving direction left direction.read)
  pub fits : SomeFit (own_of o.after)
  pub empty : left.reassembly.deferral ≡ None
  pub tracker : collision.kept.tracker ≡ new_tracker e.options collision.opened.link.peer.first_tsn
  pub reassembly : collision.kept.reassembly ≡ new_reassembly e.options.max_receiver_window_buffer_size (part_overhead e.options)

module _ (e : Endpoint) (input : Input) (o : Outcome) (collision : Collides (content_of_input input) e o) (small : collision.opened.link.my.first_tsn < 2 ^ 32) (again : RequestedReset)
    (makes : MakesPackets (content_of_input input) collision.opened.link.peer.tag (kept_inside collision again) (packets_of_events o.events) (inside o.after)) where
  abbrev nothing_sent : Direction
  nothing_sent = new_direction e.options 0 0 [] (record { queue = empty_queue e.options; transfer = None }) 0 [] (record { from_zero = false; has_all = false; keeps = λ id. false; asks = λ id count. false; empties = λ id count. false; in_turn = false })

  made : (read : List MessageContent) → LeadsToLedger (content_of_input input) collision.opened.link.peer.tag (ledger_of [] (kept_inside collision again).queues [] read nothing_asked) collision.opened.link.my.first_tsn (inside o.after) (exchange_of [] ([] ++ packets_of_events o.events) read)
  made read = makes [] [] read collision.opened.link.my.first_tsn nothing_asked (nothing_fits collision.opened.link.my.first_tsn again small)

  received : (direction : Direction) → ReceivingSteps direction collision.kept (ledger_of [] (kept_inside collision again).queues [] direction.read nothing_asked)
      (ledger_of [] o.after.queues ([] ++ packets_of_events o.events) direction.read (made direction.read).asking)
  received direction =
      actions_receive (content_of_input input) collision.opened.link.peer.tag (ledger_of [] (kept_inside collision again).queues [] direction.read nothing_asked)
      (ledger_of [] o.after.queues ([] ++ packets_of_events o.events) direction.read (made direction.read).asking) direction collision.kept
      (opening_sent direction.sent (content_of_input input) collision.opened.opening) refl (made direction.read).actions

  same_left : (one other : Transfer) → o.after.queues.transfer ≡ Some one → o.after.queues.transfer ≡ Some other → one ≡ other
  same_left one other first second = cc

  none_waits : collision.kept.reassembly.deferral ≡ None
  none_waits = ap (λ (t : Transfer). t.reassembly.deferral) collision.kept_is.2

  pub kept_opens : OpensKept e input o collision
  kept_opens =
      let got = received nothing_sent in
      record {
        left = got.left;
        is = got.is;
        runs = λ options first size direction run. subst (λ (t : Transfer). DirectionRun options first size (receiving direction t direction.read)) (same_left (received direction).left got.left (received direction).is got.is)
            (steps_go_on options first size (receiving direction collision.kept direction.read) (receiving direction (received direction).left direction.read) run (received direction).steps);
        fits = record { first = collision.opened.link.my.first_tsn; asking = (made []).asking; fits = (made []).fits };
        empty = subst (λ (w : Option DeferralModel). SameWaits w got.left.reassembly.deferral) none_waits got.waits;
        tracker = ap (λ (t : Transfer). t.tracker) collision.kept_is.2;
        reassembly = ap (λ (t : Transfer). t.reassembly) collision.kept_is.2;
      }

-- ---- for its receiver it is an association as any other

-- It is one with these numbers, whatever was kept to be sent.
abbrev other_held : {came : Option Content} {e : Endpoint} {o : Outcome} → Collides came e o → Held
other_held collision =
    record {
      peer = collision.opened.link.peer;
      capabilities = collision.opened.link.capabilities;
      own_next = 0;
      own_outstanding = None;
      peer_last = 0;
      peer_result = InProgress;
    }

abbrev pub other_begun : (e : Endpoint) (input : Input) (o : Outcome) → Collides (content_of_input input) e o → BeginsAssociation e o
other_begun e input o collision =
    record {
      my = collision.opened.link.my;
      held = other_held collision;
      window = 0;
      later = collision.opened.later;
      noted = collision.opened.noted;
      queue = numbered_for collision.opened.link.capabilities.message_interleaving 0 (queue_restarted e.queues.queue);
      keeps = inr refl;
    }

module _ (e : Endpoint) (input : Input) (o : Outcome) (small : OpensSmall e input o) (collision : Collides (content_of_input input) e o) where
  pub collided_opens : ((read : List MessageContent) → read_after e input read ≡ read) → (again : RequestedReset)
      → MakesPackets (content_of_input input) collision.opened.link.peer.tag (kept_inside collision again) (packets_of_events o.events) (inside o.after) → OpensAssociation e input o
  collided_opens unread again makes =
      let begun : BeginsAssociation e o = other_begun e input o collision in
      let opens = kept_opens e input o collision (small begun collision.opened.opening collision.opened.linked) again makes in
      record {
        begun = begun;
        opening = collision.opened.opening;
        linked = collision.opened.linked;
        unread = unread;
        left = opens.left;
        is = opens.is;
        runs = λ options first size direction run. opens.runs options first size direction
            (subst (λ (t : TrackerState). DirectionRun options first size (record direction { tracker = t; reassembly = collision.kept.reassembly; read = direction.read })) (sym opens.tracker)
            (subst (λ (r : ReassemblyState). DirectionRun options first size (record direction { tracker = new_tracker e.options collision.opened.link.peer.first_tsn; reassembly = r; read = direction.read })) (sym opens.reassembly) run));
        fits = opens.fits;
        empty = opens.empty;
      }
