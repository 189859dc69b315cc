-- What changes below an association.
use Rattle.std.specs.Prelude.{◌≡◌, ℕ, Bool, true, false, Option, None, Some, Result, List, [], ◌∷◌}
use Rattle.std.specs.declared.alloc.AllocError.{AllocError}
use Rattle.dcsctp_transfer.specs.wire.Content.{SackContent}
use Rattle.dcsctp_transfer.specs.wire_build.Building.{Building}
use Rattle.dcsctp_transfer.specs.types.declared.association.Held.{Held}
use Rattle.dcsctp_transfer.specs.types.declared.options.Options.{Options}
use Rattle.dcsctp_transfer.specs.types.declared.message.Message.{Message}
use Rattle.dcsctp_transfer.specs.spec.endpoint.Event.{Event}
use Rattle.dcsctp_transfer.specs.spec.endpoint.Endpoint.{Endpoint, held_by_core}
use Rattle.dcsctp_transfer.specs.spec.endpoint.Outcome.{Outcome, still}
use Rattle.dcsctp_transfer.specs.spec.endpoint.DataOutcomes.{FastRetransmits, taken_to}
use Rattle.dcsctp_transfer.specs.spec.endpoint.TransferMoves.{lost_all}
use Rattle.dcsctp_transfer.specs.Sacks.{HandlesSack, FillsAtOnce}
use Rattle.dcsctp_transfer.specs.declared.sacks.HandledSack.{HandledSack}
use Rattle.dcsctp_transfer.specs.spec.queues.Transfer.{Transfer}
use Rattle.dcsctp_transfer.specs.types.queues.Messages.{message_content}
use Rattle.dcsctp_transfer.specs.spec.queues.Retransmission.{has_fast_retransmit}
use Rattle.dcsctp_transfer.specs.spec.queues.Tracker.{after_packet_end, is_acknowledgement_due}
use Rattle.dcsctp_core.specs.declared.state.State.{State}
use Rattle.dcsctp_core.specs.View.{View}
use Rattle.dcsctp_core.specs.Flushing.{state_with}

-- What lies below the association has changed in this way; without one nothing has changed.
abbrev pub ChangesQueues : (Transfer → Transfer → Type 0) → Option Transfer → State → State → Type 0
ChangesQueues Changes None old new = new ≡ old
ChangesQueues Changes (Some transfer) old new = (after : Transfer) × (new ≡ state_with old after) × Changes transfer after

-- That is so, or nothing has changed.
abbrev pub ChangesOrKeeps : Bool → (Transfer → Transfer → Type 0) → Option Transfer → State → State → Type 0
ChangesOrKeeps true Changes found old new = ChangesQueues Changes found old new
ChangesOrKeeps false Changes found old new = new ≡ old

-- The first of the messages that are ready is taken at this moment, if one is ready.
abbrev pub TakesFirst : Options → ℕ → Option Message → Transfer → Transfer → Type 0
TakesFirst options moment None old new = (old.reassembly.incoming.ready ≡ []) × (new ≡ old)
TakesFirst options moment (Some message) old new =
    (old.reassembly.incoming.ready ≡ message_content message ∷ new.reassembly.incoming.ready)
    × (new ≡ taken_to options moment new.reassembly.incoming.ready old)

abbrev pub TakesReady : Options → ℕ → Transfer → State → Option Message → State → Type 0
TakesReady options moment transfer old result new =
    (after : Transfer) × (new ≡ state_with old after) × TakesFirst options moment result transfer after

-- All that is in flight is lost, at this moment.
abbrev pub LosesAllInFlight : ℕ → Transfer → Transfer → Type 0
LosesAllInFlight now old new = new ≡ lost_all now old

-- All of a packet was handled, at this moment.
abbrev pub EndsPacketInQueues : ℕ → Transfer → Transfer → Type 0
EndsPacketInQueues now old new = new ≡ record old { tracker = after_packet_end now old.tracker }

-- the state, and the events so far
pub record StateAndEvents : Type 0 where
  pub state : State
  pub events : List (Event (List ℕ))

abbrev pub state_and_events : State → List (Event (List ℕ)) → StateAndEvents
state_and_events state events = record { state = state; events = events }

-- A SACK was taken into account at this moment, if the peer is known.
abbrev pub HandlesSackInTransfer : ℕ → SackContent → Option Transfer → StateAndEvents → StateAndEvents → Result HandledSack AllocError → Type 0
HandlesSackInTransfer now sack None old new result = (new.state ≡ old.state) × (new.events ≡ old.events)
HandlesSackInTransfer now sack (Some transfer) old new result =
    (after : Transfer) × (new.state ≡ state_with old.state after) × HandlesSack now sack transfer old.events after new.events result

-- What was lost was put into a packet.
abbrev pub FillsLostAtOnce : ℕ → Option Transfer → State → Building → State → Building → Type 0
FillsLostAtOnce now None old packet new filled = (new ≡ old) × (filled ≡ packet)
FillsLostAtOnce now (Some transfer) old packet new filled = (after : Transfer) × (new ≡ state_with old after) × FillsAtOnce now transfer packet after filled

-- does something wait that was lost, and is to be sent at once?
abbrev pub has_lost_data : Option Transfer → Bool
has_lost_data None = false
has_lost_data (Some transfer) = has_fast_retransmit transfer.retransmission

-- A packet of it is sent to the peer.
abbrev pub GoesAtOnce : Endpoint → Option Held → Option Transfer → Outcome → Type 0
GoesAtOnce e (Some held) (Some transfer) o = FastRetransmits (has_fast_retransmit transfer.retransmission) e held transfer o
GoesAtOnce e held transfer o = o ≡ still e

abbrev pub FlushesAtOnce : {R : Type 0} → View R → Outcome → Type 0
FlushesAtOnce view o = GoesAtOnce view.endpoint (held_by_core view.endpoint.core) view.endpoint.queues.transfer o

-- is an acknowledgement due to the peer, if it is known?
abbrev pub is_peer_acknowledgement_due : Option Transfer → Bool
is_peer_acknowledgement_due None = false
is_peer_acknowledgement_due (Some transfer) = is_acknowledgement_due transfer.tracker
