-- What a socket with channels is to its user.
use Rattle.dcsctp_channel_calls.specs.api.Calls.{UserView}
use Rattle.dcsctp_channel_calls.specs.View.{ChannelsView}
use Rattle.dcsctp_channels.specs.declared.channels.Channels.{Channels}
use Rattle.dcsctp_channels.specs.Layer.{whole_view}

-- by what its socket is to the user
abbrev pub channels_shown : {S : Type 0} → (S → UserView) → Channels S → ChannelsView
channels_shown user_view channels = whole_view (user_view channels.socket) channels.layer
