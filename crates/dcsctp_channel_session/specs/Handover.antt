-- What the calls do that hand a socket over with its channels and restore it.
use Rattle.std.specs.Prelude.{◌≡◌, ◌⊎◌, ℕ, List, Option, Some, None, Result, Ok, Err}
use Rattle.dcsctp_session.specs.Copying.{Copies}
use Rattle.dcsctp_session.specs.Status.{answer_status, handover_error_status}
use Rattle.dcsctp_session.specs.declared.status.Status.{Status}
use Rattle.dcsctp_session.specs.declared.status.Status.TheVariants as statuses
use Rattle.dcsctp_channel_bytes.specs.Channels.{bytes_with_channels, read_with_channels}
use Rattle.dcsctp_snapshot_bytes.specs.Seal.{sealed_snapshot, IsBroken, IsOfOthers}
use Rattle.dcsctp_channel_calls.specs.Calls.{Answers}
use Rattle.dcsctp_channel_calls.specs.Handover.{ChannelsPart, HandsOverChannels, RestoresChannels, channels_part}
use Rattle.dcsctp_channel_calls.specs.api.declared.errors.HandoverError.{HandoverError}
use Rattle.dcsctp_channel_calls.specs.api.declared.errors.SocketFault.{SocketFault}
use Rattle.dcsctp_channel_calls.specs.api.types.Snapshot.{Snapshot, snapshot}
use Rattle.dcsctp_channel_calls.specs.api.types.declared.options.Options.{Options}
use Rattle.dcsctp_channel_calls.specs.declared.handover.ChannelsHandoverState.{ChannelsHandoverState}
use Rattle.dcsctp_channel_calls.specs.declared.handover.RestoreChannelsError.{RestoreChannelsError}
use Rattle.dcsctp_channel_calls.specs.declared.handover.RestoreChannelsError.TheVariants as errors
use Rattle.dcsctp_channel_session.specs.Calls.{CallsLayer}
use Rattle.dcsctp_channel_session.specs.Views.{channels_view}
use Rattle.dcsctp_channel_session.specs.declared.session.ChannelSession.{ChannelSession}

-- ---- handed over

-- The snapshot that was answered is kept in the place of an earlier one.
abbrev pub snapshot_after : Result (Result ChannelsHandoverState HandoverError) SocketFault → Option ChannelsHandoverState → Option ChannelsHandoverState
snapshot_after (Ok (Ok state)) before = Some state
snapshot_after (Ok (Err error)) before = before
snapshot_after (Err fault) before = before

-- The socket is handed over with its channels, and the status says the outcome.
pub record ChannelsHandedOver (old : ChannelSession) (status : Status) (new : ChannelSession) : Type 0 where
  pub outcome : Result (Result ChannelsHandoverState HandoverError) SocketFault
  pub call : Answers HandsOverChannels (channels_view old) outcome (channels_view new)
  pub told : status ≡ answer_status handover_error_status outcome
  pub snapshot_is : new.snapshot ≡ snapshot_after outcome old.snapshot
  pub event : new.event ≡ old.event

-- ---- the bytes of a snapshot

-- with their seal, by the options of the socket
abbrev pub channels_sealed : Options → ChannelsHandoverState → List ℕ
channels_sealed options state = sealed_snapshot options (bytes_with_channels (snapshot state.socket) (channels_part state.channels))

-- They are read as that snapshot.
abbrev pub AreReadBack : ChannelsHandoverState → Type 0
AreReadBack state =
    read_with_channels (bytes_with_channels (snapshot state.socket) (channels_part state.channels)) ≡ Some (snapshot state.socket, channels_part state.channels)

-- The bytes of the snapshot that was taken are copied; or an allocation failed, and nothing has changed.
abbrev pub CopiesChannels : Options → Option ChannelsHandoverState → List ℕ → ℕ → Status → List ℕ → ℕ → Type 0
CopiesChannels options None old before status new told = (status ≡ statuses.NothingToCopy) × (told ≡ 0) × (new ≡ old)
CopiesChannels options (Some state) old before status new told =
    Copies (channels_sealed options state) old status new told × AreReadBack state
    ⊎ (status ≡ statuses.OutOfMemory) × (told ≡ before) × (new ≡ old)

-- ---- restored

abbrev pub restore_channels_status : RestoreChannelsError → Status
restore_channels_status errors.NotNew = statuses.NotClosed
restore_channels_status errors.InvalidSnapshot = statuses.InvalidSnapshot

-- The bytes are refused for this reason, and nothing has changed.
pub record RefusesBytes (why : Status) (old : ChannelSession) (status : Status) (new : ChannelSession) : Type 0 where
  pub told : status ≡ why
  pub same : new ≡ old

abbrev pub RestoresRead : Option (Snapshot × ChannelsPart) → ChannelSession → Status → ChannelSession → Type 0
RestoresRead None old status new = RefusesBytes statuses.InvalidSnapshot old status new
RestoresRead (Some read) old status new = CallsLayer (answer_status restore_channels_status) (RestoresChannels read.0 read.1) old status new

-- The socket is restored from what the bytes say, without their seal; or there was no memory to read them.
abbrev pub RestoresChannelsBody : List ℕ → ChannelSession → Status → ChannelSession → Type 0
RestoresChannelsBody body old status new = RefusesBytes statuses.OutOfMemory old status new ⊎ RestoresRead (read_with_channels body) old status new

-- The bytes have a seal by the options of this socket.
pub record ChannelsSealFits (bytes : List ℕ) (old : ChannelSession) (status : Status) (new : ChannelSession) : Type 0 where
  pub body : List ℕ
  pub whole : bytes ≡ sealed_snapshot (channels_view old).below.endpoint.options body
  pub restored : RestoresChannelsBody body old status new

-- They have none, or one byte of them is another.
pub record ChannelsSealBroken (bytes : List ℕ) (old : ChannelSession) (status : Status) (new : ChannelSession) : Type 0 where
  pub broken : IsBroken bytes
  pub refused : RefusesBytes statuses.InvalidSnapshot old status new

-- They have one by other options.
pub record ChannelsSealOfOthers (bytes : List ℕ) (old : ChannelSession) (status : Status) (new : ChannelSession) : Type 0 where
  pub others : IsOfOthers (channels_view old).below.endpoint.options bytes
  pub refused : RefusesBytes statuses.OtherOptions old status new

-- The socket is restored with its channels from the bytes, by their seal.
abbrev pub ChannelsRestored : List ℕ → ChannelSession → Status → ChannelSession → Type 0
ChannelsRestored bytes old status new = ChannelsSealFits bytes old status new ⊎ ChannelsSealBroken bytes old status new ⊎ ChannelsSealOfOthers bytes old status new
