-- The actions of a socket (specs/Actions) as steps of two directions: the one on which it sends,
-- and the one on which it receives.
use Rattle.std.specs.Prelude.{◌≡◌, ◌⊎◌, ℕ, Option, Some, List}
use Rattle.dcsctp_spec_lemmas.specs.wire.Content.{ChunkContent, data_chunk, i_data_chunk, forward_tsn_chunk, i_forward_tsn_chunk}
use Rattle.dcsctp_spec_lemmas.specs.types.declared.options.Options.{Options}
use Rattle.dcsctp_spec_lemmas.specs.spec.Packet.{Content, re_config, unworked, plain, Emission}
use Rattle.dcsctp_spec_lemmas.specs.spec.Reconfiguration.{ResetParameter}
use Rattle.dcsctp_spec_lemmas.specs.types.queues.Messages.{MessageContent}
use Rattle.dcsctp_spec_lemmas.specs.spec.queues.Reassembly.{ReassemblyState}
use Rattle.dcsctp_spec_lemmas.specs.spec.queues.Tracker.{TrackerState}
use Rattle.dcsctp_spec_lemmas.specs.spec.queues.Transfer.{Transfer}
use Rattle.dcsctp_delivery_directions.specs.sending.Flushes.{NoRequests}
use Rattle.dcsctp_delivery_sockets.specs.turns.Actions.{Ledger, Actions}
use Rattle.dcsctp_delivery_sockets.specs.turns.PeerRequests.{SameWaits}
use Rattle.dcsctp_delivery_sockets.specs.turns.Reports.{ComesReported}
use Rattle.dcsctp_delivery_directions.specs.sending.Places.{HasEntry}
use Rattle.dcsctp_delivery_directions.specs.directions.Directions.{PerformedReset, PreparedReset, Direction, Beginning, HasReached, DirectionStep, DirectionRun}

-- one step after another
pub data DirectionSteps (old : Direction) : Direction → Type 0 where
  stays : DirectionSteps old old
  moves : (between new : Direction) → DirectionSteps old between → DirectionStep between new → DirectionSteps old new

-- Steps continue a run.
abbrev pub StepsGoOn : Type 0
StepsGoOn = (options : Options) (first size : ℕ) (old new : Direction) → DirectionRun options first size old → DirectionSteps old new → DirectionRun options first size new

-- ---- the direction on which it sends

-- what the other side has received, what its user has read, which resets it has performed, and by which calls the own user has reset streams
pub record ReceivedSoFar : Type 0 where
  pub tracker : TrackerState
  pub reassembly : ReassemblyState
  pub read : List MessageContent
  pub performed : List PerformedReset
  pub prepared : List PreparedReset

abbrev pub received_so_far : Direction → ReceivedSoFar
received_so_far direction = record { tracker = direction.tracker; reassembly = direction.reassembly; read = direction.read; performed = direction.performed; prepared = direction.prepared }

-- the direction, with what the other side has received, and how the socket began
abbrev pub sending : Ledger → ℕ → ℕ → ReceivedSoFar → Beginning → Direction
sending own acknowledged first_tsn received beginning =
    record {
      queued = own.queued;
      queues = own.queues;
      acknowledged = acknowledged;
      sent = own.sent;
      first_tsn = first_tsn;
      tracker = received.tracker;
      reassembly = received.reassembly;
      read = received.read;
      performed = received.performed;
      asking = own.asking;
      prepared = received.prepared;
      beginning = beginning;
    }

-- The socket comes there by steps; more TSNs may have been acknowledged.
pub record SendingSteps (old new : Ledger) (acknowledged first_tsn : ℕ) (received : ReceivedSoFar) (beginning : Beginning) : Type 0 where
  pub later : ℕ
  pub steps : DirectionSteps (sending old acknowledged first_tsn received beginning) (sending new later first_tsn received beginning)

-- Whatever is received, the actions of a socket are steps of the direction on which it sends, where what acknowledges reports a TSN
-- that the other side has reached.
abbrev pub ActionsSend : Type 0
ActionsSend =
    (came : Option Content) (to : ℕ) (old new : Ledger) (acknowledged first_tsn : ℕ) (received : ReceivedSoFar) (beginning : Beginning)
    → ((transfer : Transfer) → old.queues.transfer ≡ Some transfer → ComesReported (HasReached first_tsn received.tracker) came) → Actions came to old new → SendingSteps old new acknowledged first_tsn received beginning

-- ---- the direction on which it receives

-- The chunk was in a packet that the other side sent.
pub record WasInSentPacket (sent : List Emission) (chunk : ChunkContent) : Type 0 where
  pub emission : Emission
  pub was : HasEntry emission sent
  pub holds : HasEntry (plain (unworked chunk)) emission.packet.contents

-- So was a RE-CONFIG.
pub record WasAsked (sent : List Emission) (parameters : List ResetParameter) : Type 0 where
  pub emission : Emission
  pub was : HasEntry emission sent
  pub holds : HasEntry (re_config parameters) emission.packet.contents

-- The chunk that is handled, if it has data, passes TSNs or asks for a reset of streams, was sent by the other side.
abbrev pub WasSent : List Emission → Option Content → Type 0
WasSent sent (Some (plain (unworked (data_chunk chunk)))) = WasInSentPacket sent (data_chunk chunk)
WasSent sent (Some (plain (unworked (forward_tsn_chunk tsn streams)))) = WasInSentPacket sent (forward_tsn_chunk tsn streams)
WasSent sent (Some (plain (unworked (i_data_chunk chunk)))) = WasInSentPacket sent (i_data_chunk chunk)
WasSent sent (Some (plain (unworked (i_forward_tsn_chunk tsn streams)))) = WasInSentPacket sent (i_forward_tsn_chunk tsn streams)
WasSent sent (Some (re_config parameters)) = NoRequests parameters ⊎ WasAsked sent parameters
WasSent sent came = Unit {0}

-- the direction, with what its receiver has received and read
abbrev pub receiving : Direction → Transfer → List MessageContent → Direction
receiving direction transfer read = record direction { tracker = transfer.tracker; reassembly = transfer.reassembly; read = read }

-- The socket comes there by steps. What waits for a reset waits for it still.
pub record ReceivingSteps (direction : Direction) (transfer : Transfer) (old new : Ledger) : Type 0 where
  pub left : Transfer
  pub is : new.queues.transfer ≡ Some left
  pub steps : DirectionSteps (receiving direction transfer old.read) (receiving direction left new.read)
  pub waits : SameWaits transfer.reassembly.deferral left.reassembly.deferral

-- The actions of a socket in an association are steps of the direction on which it receives, where what is handled was sent.
abbrev pub ActionsReceive : Type 0
ActionsReceive =
    (came : Option Content) (to : ℕ) (old new : Ledger) (direction : Direction) (transfer : Transfer) → WasSent direction.sent came → old.queues.transfer ≡ Some transfer → Actions came to old new
    → ReceivingSteps direction transfer old new
