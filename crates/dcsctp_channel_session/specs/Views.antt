-- What a socket with channels shows to a caller who has numbers for them.
use Rattle.std.specs.Prelude.{◌==◌, ℕ, zero, suc, ◌+◌, ◌-◌, ◌^◌, min, Bool, true, false, Option, Some, None, ℤ, pos, option_map}
use Rattle.dcsctp_socket.specs.SocketView.{user_view_of}
use Rattle.dcsctp_session.specs.Views.{words_ahead}
use Rattle.dcsctp_channel_calls.specs.api.spec.endpoint.TimeTurns.{next_moment}
use Rattle.dcsctp_channel_calls.specs.Polls.{deadline_with}
use Rattle.dcsctp_channel_calls.specs.Queries.{channel_state, amount_on, traffic_on}
use Rattle.dcsctp_channel_calls.specs.Sending.{stream_of_name}
use Rattle.dcsctp_channel_calls.specs.View.{ChannelsView, LayerView}
use Rattle.dcsctp_channel_calls.specs.declared.channel.ChannelState.{ChannelState}
use Rattle.dcsctp_channel_calls.specs.declared.channel.ChannelState.TheVariants as states
use Rattle.dcsctp_channel_calls.specs.declared.channel.ChannelTraffic.{ChannelTraffic}
use Rattle.dcsctp_channel_calls.specs.Handover.{readiness_with_channels}
use Rattle.dcsctp_channels.specs.Shown.{channels_shown}
use Rattle.dcsctp_channel_session.specs.declared.session.ChannelSession.{ChannelSession}

-- what the socket of a session and its channels are to their user
abbrev pub channels_view : ChannelSession → ChannelsView
channels_view session = channels_shown (user_view_of words_ahead) session.channels

-- when the next `advance_time` is due
abbrev pub channels_deadline : ChannelsView → ℕ
channels_deadline shown = deadline_with shown.below shown.layer.streams (next_moment shown.below.endpoint)

-- why the socket and its channels can't be handed over
abbrev pub channels_readiness : ChannelsView → ℕ
channels_readiness shown = readiness_with_channels shown

-- ---- numbers of channels

-- the number of a channel; 0 is none
abbrev pub channel_number : ℕ → ℕ
channel_number name = min (name + 1) (2 ^ 64 - 1)

-- the name of the channel with a number
abbrev pub name_of : ℕ → Option ℕ
name_of zero = None
name_of (suc name) = Some name

-- ---- what is asked of a channel by its number

abbrev pub state_named : LayerView → Option ℕ → ChannelState
state_named layer None = states.Closed
state_named layer (Some name) = channel_state layer name

abbrev pub channel_state_number : ChannelState → ℤ
channel_state_number states.Connecting = pos 0
channel_state_number states.Open = pos 1
channel_state_number states.Closing = pos 2
channel_state_number states.Closed = pos 3

abbrev pub stream_of_named : LayerView → Option ℕ → Option ℕ
stream_of_named layer None = None
stream_of_named layer (Some name) = stream_of_name layer name

-- what waits on a stream, if there is one
abbrev pub amount_if_stream : ChannelsView → Option ℕ → Option ℕ
amount_if_stream shown None = None
amount_if_stream shown (Some stream) = Some (amount_on shown.below (Some stream))

abbrev pub traffic_named : LayerView → Option ℕ → Option ChannelTraffic
traffic_named layer name = traffic_on (stream_of_named layer name) layer
