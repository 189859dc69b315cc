-- A turn of a socket, as what it does to runs of the two directions of its association.
use Rattle.std.specs.Prelude.{◌≡◌, ◌⊎◌, ◌<◌, ◌+◌, ◌^◌, ℕ, Bool, true, false, Option, None, Some, List, [], ◌∷◌, ◌++◌, length, ◌||◌}
use Rattle.dcsctp_spec_lemmas.specs.types.declared.options.Options.{Options}
use Rattle.dcsctp_spec_lemmas.specs.spec.endpoint.Endpoint.{Endpoint}
use Rattle.dcsctp_spec_lemmas.specs.spec.endpoint.Event.{packets_of_events}
use Rattle.dcsctp_spec_lemmas.specs.spec.endpoint.Outcome.{Outcome}
use Rattle.dcsctp_spec_lemmas.specs.spec.Packet.{Emission}
use Rattle.dcsctp_spec_lemmas.specs.spec.endpoint.Turn.{Input, user_resets, Turn}
use Rattle.dcsctp_spec_lemmas.specs.spec.association.Effect.{identity_of, identity_of_core}
use Rattle.dcsctp_spec_lemmas.specs.types.queues.Messages.{MessageContent}
use Rattle.dcsctp_spec_lemmas.specs.spec.queues.Reassembly.{new_reassembly}
use Rattle.dcsctp_spec_lemmas.specs.spec.queues.SendQueue.{empty_queue}
use Rattle.dcsctp_spec_lemmas.specs.spec.queues.Tracker.{new_tracker}
use Rattle.dcsctp_spec_lemmas.specs.spec.queues.Transfer.{Transfer, EndpointQueues, part_overhead}
use Rattle.std.specs.List.{AllByRecursion}
use Rattle.dcsctp_delivery_directions.specs.sending.Log.{Fits, Message}
use Rattle.dcsctp_delivery_sockets.specs.turns.Actions.{peer_tag, content_of_input, queued_after, read_after, BeginsAssociation, Collides, begun_transfer, IsOpening, streams_user_resets, IsCall, IsCalm, has_refused}
use Rattle.dcsctp_spec_lemmas.specs.spec.Packet.{Content, re_config}
use Rattle.dcsctp_spec_lemmas.specs.spec.Reconfiguration.{RequestedReset, ResetParameter, renewed_reset}
use Rattle.dcsctp_spec_lemmas.specs.spec.association.Effect.{Effect}
use Rattle.dcsctp_spec_lemmas.specs.spec.association.FlushChanges.{next_number}
use Rattle.dcsctp_spec_lemmas.specs.spec.endpoint.BegunResets.{BegunReset}
use Rattle.dcsctp_spec_lemmas.specs.spec.endpoint.PreparedResets.{ResetRefusal, reset_refusal}
use Rattle.dcsctp_spec_lemmas.specs.spec.endpoint.ResetOutcomes.{has_completed, has_reset, first_reset_request}
use Rattle.dcsctp_delivery_directions.specs.receiving.Clear.{IsOwn}
use Rattle.dcsctp_delivery_sockets.specs.turns.Asking.{own_of, AsksFit, SomeFit, AskingGrows}
use Rattle.dcsctp_delivery_sockets.specs.turns.Addressed.{AreAddressed}
use Rattle.dcsctp_delivery_sockets.specs.turns.Reports.{ComesReported}
use Rattle.dcsctp_delivery_directions.specs.sending.Queueing.{QueueWaits}
use Rattle.dcsctp_delivery_sockets.specs.turns.Sides.{WasSent, receiving}
use Rattle.dcsctp_delivery_directions.specs.directions.Directions.{MayReset, PerformedReset, PreparedReset, Direction, Beginning, HasReached, BeginsAs, Asking, nothing_asked, asking_renewed, all_ended, DirectionRun, IsAwaited, is_in_turn}

-- the direction, with this at its sender
abbrev pub direction_with_sender : Direction → List Message → EndpointQueues → ℕ → List Emission → Asking → Direction
direction_with_sender direction queued sender_queues acknowledged sent asking = record direction { queued = queued; queues = sender_queues; acknowledged = acknowledged; sent = sent; asking = asking }

-- a direction on which nothing was received yet
abbrev pub new_direction : Options → ℕ → ℕ → List Message → EndpointQueues → ℕ → List Emission → Beginning → Direction
new_direction options first size queued sender_queues acknowledged sent beginning =
    record {
      queued = queued;
      queues = sender_queues;
      acknowledged = acknowledged;
      sent = sent;
      first_tsn = first;
      tracker = new_tracker options first;
      reassembly = new_reassembly size (part_overhead options);
      read = [];
      performed = [];
      asking = nothing_asked;
      prepared = [];
      beginning = beginning;
    }

-- the streams that the user resets by a call, if it isn't refused
abbrev pub accepted_streams : Option ResetRefusal → List ℕ → Option (List ℕ)
accepted_streams None ids = Some ids
accepted_streams (Some refusal) ids = None

abbrev pub accepted_resets : Endpoint → Input → Option (List ℕ)
accepted_resets e (user_resets ids) = accepted_streams (reset_refusal e) ids
accepted_resets e input = None

-- the calls by which the user has reset streams, newest first, with this one, when so many messages were queued
abbrev pub prepared_with : Option (List ℕ) → ℕ → List PreparedReset → List PreparedReset
prepared_with None count prepared = prepared
prepared_with (Some ids) count prepared = record { ids = ids; count = count } ∷ prepared

abbrev pub prepared_after : Endpoint → Input → ℕ → List PreparedReset → List PreparedReset
prepared_after e input count prepared = prepared_with (accepted_resets e input) count prepared

-- What was begun: as it was, or once our request has ended or continues under the next number.
pub data IsBetween (happened : List Effect) (old : Asking) : Asking → Type 0 where
  as_it_was : IsBetween happened old old
  once_performed : has_completed happened ≡ true → IsBetween happened old (all_ended old)
  once_refused : has_refused happened ≡ true → IsBetween happened old (all_ended old)
  once_renewed : (newest : BegunReset) (earlier : List BegunReset) (number : ℕ) → old.requests ≡ newest ∷ earlier → old.out ≡ 1 → number ≡ next_number newest.number → IsBetween happened old (asking_renewed number newest old)

-- a turn: what the endpoint was before it, and what it does
pub record TakenTurn : Type 0 where
  pub before : Endpoint
  pub input : Input
  pub outcome : Outcome

abbrev pub taken_turn : Endpoint → Input → Outcome → TakenTurn
taken_turn before input outcome = record { before = before; input = input; outcome = outcome }

-- Both ends began at the same time (RFC 9260, section 5.2.4, action B). All data goes to the other peer's tag, and the run
-- continues.
pub record Outlasts (options : Options) (first size : ℕ) (direction : Direction) (turn : TakenTurn) (collision : Collides (content_of_input turn.input) turn.before turn.outcome) : Type 0 where
  pub acknowledged : ℕ
  pub asking : Asking
  pub grows : AskingGrows nothing_asked asking
  pub fits : AsksFit first (own_of turn.outcome.after) asking
  pub addressed : AreAddressed collision.opened.link.peer.tag (packets_of_events turn.outcome.events)
  pub kind : turn.outcome.after.queues.queue.is_interleaved ≡ turn.before.queues.queue.is_interleaved
  pub run : DirectionRun options first size (direction_with_sender direction direction.queued turn.outcome.after.queues acknowledged (direction.sent ++ packets_of_events turn.outcome.events) asking)

-- A turn of the sender continues the run; or the association ends after its last packets, and there is none; or another one
-- begins, whoever receives, and whatever that side has done before. All data goes to the peer's tag. When an association ends or
-- begins, what no longer waits may be marked as spent. Or another one takes its place, and the run continues if the numbers of
-- the one are those of the other.
pub data SenderTurns (options : Options) (first size : ℕ) (direction : Direction) (e : Endpoint) (input : Input) (o : Outcome) : Type 0 where
  run_goes_on : identity_of_core o.after.core ≡ identity_of_core e.core → AreAddressed (peer_tag e.core) (packets_of_events o.events) → o.after.queues.queue.is_interleaved ≡ e.queues.queue.is_interleaved
      → (acknowledged : ℕ) (between asking : Asking) → IsBetween o.effects direction.asking between → AskingGrows between asking → AsksFit first (own_of o.after) asking
      → DirectionRun options first size (record (direction_with_sender direction (queued_after e input direction.queued) o.after.queues acknowledged (direction.sent ++ packets_of_events o.events) asking) { prepared = prepared_after e input (length direction.queued) direction.prepared })
      → SenderTurns options first size direction e input o
  run_ends : accepted_resets e input ≡ None → identity_of_core o.after.core ≡ None → AreAddressed (peer_tag e.core) (packets_of_events o.events) → (last : EndpointQueues) → last.queue.is_interleaved ≡ e.queues.queue.is_interleaved
      → (acknowledged : ℕ) (asking : Asking) → AskingGrows direction.asking asking → AsksFit first (own_of e) asking
      → DirectionRun options first size (direction_with_sender direction (queued_after e input direction.queued) last acknowledged (direction.sent ++ packets_of_events o.events) asking)
      → o.after.queues ≡ record last { transfer = None } → QueueWaits (queued_after e input direction.queued) last.queue → AllByRecursion Fits (queued_after e input direction.queued)
      → SenderTurns options first size direction e input o
  run_begins : accepted_resets e input ≡ None → (begun : BeginsAssociation e o) → IsOpening (content_of_input input) → identity_of_core o.after.core ≡ Some (identity_of begun.my begun.held) → AreAddressed begun.held.peer.tag (packets_of_events o.events) → o.after.queues.queue.is_interleaved ≡ begun.held.capabilities.message_interleaving
      → queued_after e input direction.queued ≡ direction.queued
      → QueueWaits direction.queued e.queues.queue → AllByRecursion Fits direction.queued
      → ((other : Options) (room : ℕ) (awaiting : Direction) (queued : List Message) (beginning : Beginning) → QueueWaits queued e.queues.queue → AllByRecursion Fits queued → DirectionRun other begun.my.first_tsn room awaiting → IsAwaited awaiting
      → BeginsAs beginning queued begun.queue → (acknowledged : ℕ) × (asking : Asking) × AskingGrows nothing_asked asking × AsksFit begun.my.first_tsn (own_of o.after) asking
      × DirectionRun other begun.my.first_tsn room (record (direction_with_sender awaiting queued o.after.queues acknowledged (packets_of_events o.events) asking) { prepared = []; beginning = beginning }))
      → SenderTurns options first size direction e input o
  run_outlasts : accepted_resets e input ≡ None → (collision : Collides (content_of_input input) e o) → queued_after e input direction.queued ≡ direction.queued
      → (first ≡ collision.opened.link.my.first_tsn → direction.asking ≡ nothing_asked → Outlasts options first size direction (taken_turn e input o) collision) → SenderTurns options first size direction e input o

-- Where the turn ends a request as performed, the receiver has performed the newest one, with interleaving or in turn.
abbrev pub EndsPerformed : Bool → Endpoint → Outcome → Asking → Type 0
EndsPerformed in_turn e o asking = has_completed o.effects ≡ true → (e.queues.queue.is_interleaved || in_turn) ≡ true → asking.is_performed ≡ true

-- In an association with interleaving, or in turn, no request of ours to reset streams fails.
abbrev pub RefusesNone : Bool → Endpoint → Outcome → Type 0
RefusesNone in_turn e o = (e.queues.queue.is_interleaved || in_turn) ≡ true → has_refused o.effects ≡ false

-- The streams that the user resets by it, if it isn't refused, may be reset when so many messages were queued.
abbrev pub MayDrop : Endpoint → Input → ℕ → Beginning → Type 0
MayDrop e input count beginning = reset_refusal e ≡ None → (ids : List ℕ) → streams_user_resets input ≡ Some ids → AllByRecursion (MayReset beginning count e.queues.queue.streams) ids

-- If an association begins in this turn, its own first TSN has 32 bits.
abbrev pub OpensSmall : Endpoint → Input → Outcome → Type 0
OpensSmall e input o = (begun : BeginsAssociation e o) → IsOpening (content_of_input input) → identity_of_core o.after.core ≡ Some (identity_of begun.my begun.held) → begun.my.first_tsn < 2 ^ 32

-- In an association what acknowledges reports a TSN that the receiver has reached.
abbrev pub IsTrueAcknowledgement : Direction → Endpoint → Input → Type 0
IsTrueAcknowledgement direction e input = (transfer : Transfer) → e.queues.transfer ≡ Some transfer → ComesReported (HasReached direction.first_tsn direction.tracker) (content_of_input input)

-- Streams of equal priority take turns by the option.
abbrev pub TakesTurnsByOption : Endpoint → Type 0
TakesTurnsByOption e = e.queues.queue.takes_turns ≡ e.options.follow_rfc

-- This holds for each turn, also of a closed socket, with a direction on which nothing is in flight.
abbrev pub SendersGoOn : Type 0
SendersGoOn =
    (options : Options) (first size : ℕ) (direction : Direction) (e : Endpoint) (input : Input) (o : Outcome) → DirectionRun options first size direction → first < 2 ^ 32 → direction.queues ≡ e.queues → TakesTurnsByOption e
    → AsksFit first (own_of e) direction.asking → EndsPerformed direction.beginning.in_turn e o direction.asking → RefusesNone direction.beginning.in_turn e o → MayDrop e input (length direction.queued) direction.beginning → OpensSmall e input o → IsTrueAcknowledgement direction e input
    → length (queued_after e input direction.queued) < 2 ^ 64 → IsCall input → Turn e input o → SenderTurns options first size direction e input o

-- A run begins where the socket was just made, with number 0 on each stream and nothing queued,
abbrev pub SendersBegin : Type 0
SendersBegin =
    (mine options : Options) (first size : ℕ) (keeps : ℕ → Bool) (asks empties : ℕ → ℕ → Bool) (in_turn : Bool)
    → DirectionRun options first size (new_direction options first size [] (record { queue = empty_queue mine; transfer = None }) 0 [] (record { from_zero = true; has_all = true; keeps = keeps; asks = asks; empties = empties; in_turn = in_turn }))

-- and where its association has ended.
abbrev pub SendersBeginAgain : Type 0
SendersBeginAgain =
    (options : Options) (first size : ℕ) (asks empties : ℕ → ℕ → Bool) (in_turn : Bool) (queued : List Message) (sender_queues : EndpointQueues) → AllByRecursion Fits queued → QueueWaits queued sender_queues.queue → sender_queues.transfer ≡ None
    → DirectionRun options first size (new_direction options first size queued sender_queues 0 [] (record { from_zero = false; has_all = false; keeps = λ id. false; asks = asks; empties = empties; in_turn = in_turn }))

-- An association begins, and what its receiver does in the same turn are steps of a run. It waits for no reset.
pub record OpensAssociation (e : Endpoint) (input : Input) (o : Outcome) : Type 0 where
  pub begun : BeginsAssociation e o
  pub opening : IsOpening (content_of_input input)
  pub linked : identity_of_core o.after.core ≡ Some (identity_of begun.my begun.held)
  pub unread : (read : List MessageContent) → read_after e input read ≡ read
  pub left : Transfer
  pub is : o.after.queues.transfer ≡ Some left
  pub runs : (options : Options) (first size : ℕ) (direction : Direction) → DirectionRun options first size (receiving direction (begun_transfer e o begun) direction.read)
      → DirectionRun options first size (receiving direction left direction.read)
  pub fits : SomeFit (own_of o.after)
  pub empty : left.reassembly.deferral ≡ None

-- The request that is handled wants what the newest one wants that the sender has begun, which isn't known to be performed, and
-- what waits, waits for it.
pub record IsNewest (direction : Direction) (transfer : Transfer) (reset : RequestedReset) : Type 0 where
  pub newest : BegunReset
  pub earlier : List BegunReset
  pub is : direction.asking.requests ≡ newest ∷ earlier
  pub asks : renewed_reset newest.reset ≡ renewed_reset reset
  pub own : IsOwn reset transfer.reassembly.deferral
  pub unknown : direction.asking.is_performed ≡ false

-- This holds for a request that is performed in this turn.
abbrev pub PerformsNewest : Direction → Transfer → Option Content → List Effect → Type 0
PerformsNewest direction transfer came happened =
    has_reset happened ≡ true → (parameters : List ResetParameter) (reset : RequestedReset) → came ≡ Some (re_config parameters) → first_reset_request parameters ≡ Some reset
    → IsNewest direction transfer reset

-- So it is; or it wants what the newest wants, or requests don't end in turn.
abbrev pub KnowsRequest : Bool → Direction → Transfer → Option Content → List Effect → Type 0
KnowsRequest true direction transfer came happened = PerformsNewest direction transfer came happened
KnowsRequest false direction transfer came happened = (is_in_turn direction ≡ false) ⊎ PerformsNewest direction transfer came happened

-- once a request was performed, if it is known to be the newest
abbrev pub performed_if_reset : Bool → Bool → Asking → Asking
performed_if_reset true true asking = record asking { is_performed = true }
performed_if_reset true false asking = asking
performed_if_reset false is_reset asking = asking

-- So it is after the turn, if it performs a request, and it does so only if the effects say so.
abbrev pub PerformsByTurn : Bool → Input → Outcome → Direction → Asking → Type 0
PerformsByTurn is_known input o direction asking =
    (is_reset : Bool) × (is_reset ≡ false → has_reset o.effects ≡ false ⊎ IsCalm (content_of_input input)) × (is_reset ≡ true → has_reset o.effects ≡ true)
    × (asking ≡ performed_if_reset is_known is_reset direction.asking)

-- What it has performed then, if so many messages were read or are ready after the turn: the request that is handled, too, if it is
-- performed in the turn.
pub data RecordsByTurn (input : Input) (o : Outcome) (count : ℕ) (old : List PerformedReset) : List PerformedReset → Type 0 where
  records_none : (has_reset o.effects ≡ false) ⊎ IsCalm (content_of_input input) → RecordsByTurn input o count old old
  records_one : has_reset o.effects ≡ true → (parameters : List ResetParameter) (reset : RequestedReset) → content_of_input input ≡ Some (re_config parameters) → first_reset_request parameters ≡ Some reset
      → RecordsByTurn input o count old (record { streams = reset.streams; index = count } ∷ old)

-- how many messages were read of these, or are ready
abbrev pub reached_count : List MessageContent → Transfer → ℕ
reached_count read transfer = length read + length transfer.reassembly.incoming.ready

-- A turn of the receiver continues the run, if what it handles was sent; or the association ends, maybe after it has received
-- more; or another one begins.
pub data ReceiverTurns (is_known : Bool) (options : Options) (first size : ℕ) (direction : Direction) (transfer : Transfer) (turn : TakenTurn) : Type 0 where
  receiver_goes_on : identity_of_core turn.outcome.after.core ≡ identity_of_core turn.before.core → (left : Transfer) → turn.outcome.after.queues.transfer ≡ Some left → SomeFit (own_of turn.outcome.after) → (asking : Asking) → PerformsByTurn is_known turn.input turn.outcome direction asking
      → (performed : List PerformedReset) → RecordsByTurn turn.input turn.outcome (reached_count (read_after turn.before turn.input direction.read) left) direction.performed performed
      → DirectionRun options first size (record (receiving direction left (read_after turn.before turn.input direction.read)) { performed = performed; asking = asking }) → ReceiverTurns is_known options first size direction transfer turn
  receiver_ends : identity_of_core turn.outcome.after.core ≡ None → turn.outcome.after.queues.transfer ≡ None → ((read : List MessageContent) → read_after turn.before turn.input read ≡ read) → ReceiverTurns is_known options first size direction transfer turn
  receiver_begins : OpensAssociation turn.before turn.input turn.outcome → ReceiverTurns is_known options first size direction transfer turn

-- This holds for each turn.
abbrev pub ReceiversGoOn : Type 0
ReceiversGoOn =
    (is_known : Bool) (options : Options) (first size : ℕ) (direction : Direction) (transfer : Transfer) (e : Endpoint) (input : Input) (o : Outcome) → DirectionRun options first size (receiving direction transfer direction.read)
    → e.queues.transfer ≡ Some transfer → WasSent direction.sent (content_of_input input) → KnowsRequest is_known direction transfer (content_of_input input) o.effects → SomeFit (own_of e) → OpensSmall e input o → IsCall input → Turn e input o → ReceiverTurns is_known options first size direction transfer (taken_turn e input o)

-- Where there is no association, none is there after the turn, and nothing is read in one; or one begins.
pub data IdleTurns (e : Endpoint) (input : Input) (o : Outcome) : Type 0 where
  idle_stays : (identity_of_core o.after.core ≡ None) ⊎ (identity_of_core o.after.core ≡ identity_of_core e.core) → o.after.queues.transfer ≡ None → SomeFit (own_of o.after) → ((read : List MessageContent) → read_after e input read ≡ read) → IdleTurns e input o
  idle_begins : OpensAssociation e input o → IdleTurns e input o

abbrev pub ReceiversBegin : Type 0
ReceiversBegin = (e : Endpoint) (input : Input) (o : Outcome) → e.queues.transfer ≡ None → SomeFit (own_of e) → OpensSmall e input o → IsCall input → Turn e input o → IdleTurns e input o
