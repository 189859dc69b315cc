-- A new socket gets channels.
use Rattle.std.specs.Prelude.{◌≡◌, ◌==◌, ◌&&◌, Bool, true, false, if◌then◌else◌, Option, Some, None}
use Rattle.dcsctp_session.specs.Views.{view}
use Rattle.dcsctp_session.specs.declared.session.Session.{Session}
use Rattle.dcsctp_session.specs.declared.status.Status.{Status}
use Rattle.dcsctp_session.specs.declared.status.Status.TheVariants as statuses
use Rattle.dcsctp_channels.specs.Layer.{fresh_layer}
use Rattle.dcsctp_channel_calls.specs.api.Calls.{UserView, socket_state_of}
use Rattle.dcsctp_channel_calls.specs.api.declared.state.SocketState.{SocketState}
use Rattle.dcsctp_channel_calls.specs.api.declared.state.SocketState.TheVariants as states
use Rattle.dcsctp_channel_calls.specs.declared.channel.Limits.{Limits}
use Rattle.dcsctp_channel_session.specs.Options.{has_limits_size, limits_said}
use Rattle.dcsctp_channel_session.specs.Views.{channels_view}
use Rattle.dcsctp_channel_session.specs.declared.held.Held.{Held}
use Rattle.dcsctp_channel_session.specs.declared.held.Held.TheVariants as helds
use Rattle.dcsctp_channel_session.specs.declared.options.LimitsRecord.{LimitsRecord}
use Rattle.dcsctp_channel_session.specs.declared.session.ChannelSession.{ChannelSession}

abbrev pub is_closed_state : SocketState → Bool
is_closed_state states.Closed = true
is_closed_state states.Connecting = false
is_closed_state states.Connected = false
is_closed_state states.ShuttingDown = false

-- Is it closed, and was no packet or message on it yet?
abbrev pub is_new : UserView → Bool
is_new shown =
    is_closed_state (socket_state_of shown.endpoint.core) && (shown.endpoint.counts.packets_received == 0)
    && (shown.endpoint.counts.packets_sent == 0) && (shown.endpoint.counts.messages_queued == 0)

-- why a socket gets no channels, by the first of these reasons
abbrev pub begin_refused : Session → Option Status
begin_refused session =
    if (view session).failed then Some statuses.Failed
    else (if session.checksum_offload then Some statuses.InvalidOptions
    else (if is_new (view session) then None else Some statuses.NotClosed))

-- The same socket has channels, and none is open.
pub record HasFreshChannels (limits : Limits) (session : Session) (channels : ChannelSession) : Type 0 where
  pub shown : channels_view channels ≡ record { below = view session; layer = fresh_layer limits }
  pub nothing : channels.event ≡ None
  pub no_snapshot : channels.snapshot ≡ None

abbrev pub BeginsUnless : Option Status → Limits → Session → Status → Held → Type 0
BeginsUnless (Some refusal) limits session status new = (status ≡ refusal) × (new ≡ helds.Socket session)
BeginsUnless None limits session status new = (status ≡ statuses.Done) × (channels : ChannelSession) × HasFreshChannels limits session channels × (new ≡ helds.Channels channels)

abbrev pub Begins : Limits → Held → Status → Held → Type 0
Begins limits (helds.Socket session) status new = BeginsUnless (begin_refused session) limits session status new
Begins limits (helds.Channels channels) status new = (status ≡ statuses.HasChannels) × (new ≡ helds.Channels channels)

abbrev pub BeginsIfSized : Bool → Limits → Held → Status → Held → Type 0
BeginsIfSized false limits old status new = (status ≡ statuses.WrongSize) × (new ≡ old)
BeginsIfSized true limits old status new = Begins limits old status new

-- Channels begin, if the record has the size of the library's.
abbrev pub ChannelsBegin : LimitsRecord → Held → Status → Held → Type 0
ChannelsBegin numbers old status new = BeginsIfSized (has_limits_size numbers) (limits_said numbers) old status new
