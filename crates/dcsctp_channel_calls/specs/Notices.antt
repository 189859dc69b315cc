-- What an event says to the user of channels, apart from where in memory it lies.
use Rattle.std.specs.Prelude.{Option, Result, Ok, Err, option_map}
use Rattle.dcsctp_api.specs.declared.errors.SocketFault.{SocketFault}
use Rattle.dcsctp_channel_messages.specs.channel_spec.Slots.{Opening, opened, incoming, message, ended}
use Rattle.dcsctp_channel_calls.specs.declared.channel.ChannelEvent.{ChannelEvent}
use Rattle.dcsctp_channel_calls.specs.declared.channel.ChannelEvent.TheVariants.{SendPacket, Connected, Opened, Incoming, Message, BufferedAmountLow, Closed, Ended}
use Rattle.dcsctp_channel_calls.specs.declared.channel.ChannelOptions.{ChannelOptions}
use Rattle.dcsctp_channel_calls.specs.View.{ChannelNotice, packet_out, association_made, of_channel, amount_low, association_over}

abbrev pub opening_of : ChannelOptions → Opening
opening_of options = record { label = options.label.items; protocol = options.protocol.items; delivery = options.delivery }

abbrev pub notice_of : ChannelEvent → ChannelNotice
notice_of (SendPacket packet) = packet_out packet.items
notice_of Connected = association_made
notice_of (Opened id) = of_channel (opened id.0)
notice_of (Incoming id options) = of_channel (incoming id.0 (opening_of options))
notice_of (Message id is_text bytes) = of_channel (message id.0 (record { is_text = is_text; bytes = bytes.items }))
notice_of (BufferedAmountLow id) = amount_low id.0
notice_of (Closed id why) = of_channel (ended id.0 why)
notice_of Ended = association_over

-- what a poll returns
abbrev pub polled_notice : Result (Option ChannelEvent) SocketFault → Result (Option ChannelNotice) SocketFault
polled_notice (Ok event) = Ok (option_map notice_of event)
polled_notice (Err fault) = Err fault
