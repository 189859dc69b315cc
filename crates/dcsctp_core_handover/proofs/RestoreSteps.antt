-- A socket that is restored has the turn of a restore.
use Rattle.std.proofs.Common.{◌≡◌, ℕ, None, Some, List, [], ◌∷◌, ◌++◌, map, refl, sym, subst}
use Rattle.std.proofs.lemmas.List.{append-nil}
use Rattle.rand_core.specs.Stream.{Stream}
use Rattle.dcsctp_core.specs.spec.endpoint.Endpoint.{Endpoint, Core, closed, open_in, established}
use Rattle.dcsctp_core.specs.spec.endpoint.Event as events
use Rattle.dcsctp_core.specs.spec.endpoint.Outcome.{Outcome}
use Rattle.dcsctp_core.specs.types.Snapshot.{Snapshot}
use Rattle.dcsctp_core.specs.spec.queues.QueuedParts.{queue_restored}
use Rattle.dcsctp_core.specs.spec.queues.SendQueue.{SendQueueState, numbered_for}
use Rattle.dcsctp_core.specs.spec.endpoint.RestoreOutcomes.{restored_endpoint, restored_outcome, RestoreTurn}
use Rattle.dcsctp_core.specs.api.declared.events.SocketEvent.{SocketEvent}
use Rattle.dcsctp_core.specs.api.Events.{event_content}
use Rattle.dcsctp_core.specs.declared.context.Context.{Context}
use Rattle.dcsctp_core.specs.declared.state.OpenPhase.TheVariants as phases
use Rattle.dcsctp_core.specs.declared.state.State.{State}
use Rattle.dcsctp_core.specs.declared.state.State.TheVariants.{Closed, CookieWait, CookieEchoed, Open}
use Rattle.dcsctp_core.specs.declared.transmission_control_block.TransmissionControlBlock.{TransmissionControlBlock}
use Rattle.dcsctp_core.specs.Handling.{TakesPossibleTurn}
use Rattle.dcsctp_core.specs.View.{View, core_of, endpoint_of, resumed_heartbeats, view_of}
use Rattle.dcsctp_core_handover.specs.Handover.{IsRestoredAssociation, restore_turn}

state_is_closed : (state : State) → core_of state ≡ closed → state ≡ Closed
state_is_closed Closed is = refl
state_is_closed (CookieWait wait) is = absurd (cc)
state_is_closed (CookieEchoed echoed) is = absurd (cc)
state_is_closed (Open opened) is = absurd (cc)

-- with this association, these events and this queue, and with what the other one has left
abbrev with_association : {R : Type 0} → Context R → Context R → TransmissionControlBlock → List SocketEvent → SendQueueState → Context R
with_association other context tcb added queue =
    record context { state = Open (record { phase = phases.Established; tcb = tcb }); events = added; send_queue = queue; left = other.left }

-- what is seen of it once its heartbeats are resumed
abbrev pub resumed : {R : Type 0} → Context R → View R
resumed context = record (view_of context) { endpoint = resumed_heartbeats (endpoint_of context) }

-- the queue with what the snapshot has
abbrev queue_by : {R : Type 0} → Context R → Snapshot → SendQueueState
queue_by context state = queue_restored context.moment state.tx (numbered_for state.capabilities.message_interleaving state.tx.rwnd context.send_queue)

endpoint_is : {R : Type 0} (other old : Context R) (state : Snapshot) (tcb : TransmissionControlBlock) (added : List SocketEvent) (queue : SendQueueState)
    → other.left.items ≡ [] → IsRestoredAssociation old.options old.moment state tcb → queue ≡ queue_by old state
    → resumed_heartbeats (endpoint_of (with_association other old tcb added queue)) ≡ restored_endpoint (endpoint_of (record old { state = Closed })) state tcb.transfer
endpoint_is other old state tcb added queue none h waits = simp (none, h.my, h.held, h.outstanding, h.reconfiguration, h.tie_tag, waits) refl

from_closed : {R : Type 0} (stream : R → Stream) (other old : Context R) (state : Snapshot) (tcb : TransmissionControlBlock) (added : List SocketEvent) (queue : SendQueueState)
    → other.left.items ≡ [] → IsRestoredAssociation old.options old.moment state tcb → queue ≡ queue_by old state → map event_content added ≡ map event_content old.events ++ events.connected ∷ []
    → TakesPossibleTurn stream (restore_turn state) (view_of (record old { state = Closed })) (resumed (with_association other old tcb added queue))
from_closed stream other old state tcb added queue none h waits told =
    record {
      outcome = restored_outcome (endpoint_of (record old { state = Closed })) state tcb.transfer;
      turn = (tcb.transfer, h.transfer, refl);
      moves = record {
        endpoint = endpoint_is other old state tcb added queue none h waits;
        events = told;
        words = sym (append-nil old.words.items);
        pairs = sym (append-nil old.pairs.items);
        drawn = refl;
      };
    }

pub restores : {R : Type 0} (stream : R → Stream) (other old : Context R) (state : Snapshot) (tcb : TransmissionControlBlock) (added : List SocketEvent) (queue : SendQueueState)
    → core_of old.state ≡ closed → other.left.items ≡ [] → IsRestoredAssociation old.options old.moment state tcb → queue ≡ queue_by old state → map event_content added ≡ map event_content old.events ++ events.connected ∷ []
    → TakesPossibleTurn stream (restore_turn state) (view_of old) (resumed (with_association other old tcb added queue))
restores {R} stream other old state tcb added queue holds none h waits told =
    subst (λ (s : State). TakesPossibleTurn stream (restore_turn state) (view_of (record old { state = s })) (resumed (with_association other old tcb added queue))) (sym (state_is_closed old.state holds))
    (from_closed stream other old state tcb added queue none h waits told)
