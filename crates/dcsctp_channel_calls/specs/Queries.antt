-- What a socket with channels shows of them.
use Rattle.std.specs.Prelude.{◌==◌, ℕ, Bool, true, false, Option, Some, None, List, [], ◌∷◌, if◌then◌else◌}
use Rattle.dcsctp_api.specs.Calls.{UserView, stream_shown}
use Rattle.dcsctp_channel_calls.specs.declared.channel.ChannelState.{ChannelState}
use Rattle.dcsctp_channel_calls.specs.declared.channel.ChannelState.TheVariants as states
use Rattle.dcsctp_channel_calls.specs.declared.channel.ChannelTraffic.{ChannelTraffic}
use Rattle.dcsctp_channel_calls.specs.declared.channel.HeldStream.{HeldStream}
use Rattle.dcsctp_channel_calls.specs.View.{WaitingChannel, LayerView, held_stream_numbered}
use Rattle.dcsctp_channel_calls.specs.Sending.{stream_of_name}

abbrev pub is_waiting : ℕ → List WaitingChannel → Bool
is_waiting name [] = false
is_waiting name (waits ∷ rest) = if waits.name == name then true else is_waiting name rest

-- a channel without a stream waits, or is over
abbrev pub state_without : Bool → ChannelState
state_without true = states.Connecting
state_without false = states.Closed

abbrev pub closing_or_open : Bool → ChannelState
closing_or_open true = states.Closing
closing_or_open false = states.Open

abbrev pub state_held : Option HeldStream → ChannelState
state_held None = states.Closed
state_held (Some held) = closing_or_open held.stream.closing

abbrev pub state_on : Option ℕ → ℕ → LayerView → ChannelState
state_on None name layer = state_without (is_waiting name layer.waiting)
state_on (Some number) name layer = state_held (held_stream_numbered layer number)

abbrev pub channel_state : LayerView → ℕ → ChannelState
channel_state layer name = state_on (stream_of_name layer name) name layer

abbrev pub amount_on : UserView → Option ℕ → ℕ
amount_on below None = 0
amount_on below (Some number) = (stream_shown below number).amount

abbrev pub threshold_on : UserView → Option ℕ → ℕ
threshold_on below None = 0
threshold_on below (Some number) = (stream_shown below number).threshold

abbrev pub traffic_held : Option HeldStream → Option ChannelTraffic
traffic_held None = None
traffic_held (Some held) = Some held.traffic

abbrev pub traffic_on : Option ℕ → LayerView → Option ChannelTraffic
traffic_on None layer = None
traffic_on (Some number) layer = traffic_held (held_stream_numbered layer number)
