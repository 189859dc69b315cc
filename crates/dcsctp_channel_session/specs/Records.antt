-- The numbers by which C reads events of channels, options of a peer's channel, and what was counted.
use Rattle.std.specs.Prelude.{◌==◌, ℕ, Bool, true, false, not, Option, Some, None, List, length}
use Rattle.std.specs.Global.{Vec}
use Rattle.dcsctp_session.specs.Options.{flag_number}
use Rattle.dcsctp_channel_calls.specs.View.{ChannelNotice, packet_out, association_made, of_channel, amount_low, association_over}
use Rattle.dcsctp_channel_calls.specs.declared.channel.ChannelEvent.{ChannelEvent}
use Rattle.dcsctp_channel_calls.specs.declared.channel.ChannelEvent.TheVariants as events
use Rattle.dcsctp_channel_calls.specs.declared.channel.ChannelOptions.{ChannelOptions}
use Rattle.dcsctp_channel_calls.specs.declared.channel.ChannelTraffic.{ChannelTraffic}
use Rattle.dcsctp_channel_calls.specs.messages.channel_spec.Slots.{opened, incoming, message, ended}
use Rattle.dcsctp_channel_calls.specs.messages.channel_spec.declared.types.ChannelEnd.{ChannelEnd}
use Rattle.dcsctp_channel_calls.specs.messages.channel_spec.declared.types.ChannelEnd.TheVariants as ends
use Rattle.dcsctp_channel_calls.specs.messages.channel_spec.declared.types.Reliability.{Reliability}
use Rattle.dcsctp_channel_calls.specs.messages.channel_spec.declared.types.Reliability.TheVariants.{Reliable, Retransmissions, Lifetime}
use Rattle.dcsctp_channel_session.specs.Options.{channel_options_size}
use Rattle.dcsctp_channel_session.specs.Views.{channel_number}
use Rattle.dcsctp_channel_session.specs.declared.records.ChannelEventRecord.{ChannelEventRecord}
use Rattle.dcsctp_channel_session.specs.declared.records.ShownOptions.{ShownOptions}
use Rattle.dcsctp_channel_session.specs.declared.records.TrafficRecord.{TrafficRecord}

-- ---- events

abbrev pub end_number : ChannelEnd → ℕ
end_number ends.Closed = 0
end_number ends.Refused = 1
end_number ends.ResetRefused = 2
end_number ends.Lost = 3
end_number ends.NoStream = 4

-- the number of what a message is
abbrev pub kind_number : Bool → ℕ
kind_number true = 1
kind_number false = 2

-- an event that is nothing but its kind; 0 is no event
abbrev pub plain_event : ℕ → ChannelEventRecord
plain_event kind = record { channel = 0; length = 0; kind = kind; detail = 0 }

-- an event of a channel
abbrev pub event_on : ℕ → ℕ → ℕ → ChannelEventRecord
event_on kind name detail = record (plain_event kind) { channel = channel_number name; detail = detail }

abbrev pub notice_record : ChannelNotice → ChannelEventRecord
notice_record (packet_out packet) = record (plain_event 1) { length = length packet }
notice_record association_made = plain_event 2
notice_record (of_channel (opened name)) = event_on 3 name 0
notice_record (of_channel (incoming name opening)) = event_on 4 name 0
notice_record (of_channel (message name content)) = record (event_on 5 name (kind_number content.is_text)) { length = length content.bytes }
notice_record (amount_low name) = event_on 6 name 0
notice_record (of_channel (ended name why)) = event_on 7 name (end_number why)
notice_record association_over = plain_event 8

-- ---- what an event holds, as it lies in memory

abbrev pub memory_of_event : ChannelEvent → Option (Vec ℕ)
memory_of_event (events.SendPacket packet) = Some packet
memory_of_event (events.Message id is_text bytes) = Some bytes
memory_of_event event = None

abbrev pub memory_of_taken : Option ChannelEvent → Option (Vec ℕ)
memory_of_taken None = None
memory_of_taken (Some event) = memory_of_event event

abbrev pub items_of_memory : Option (Vec ℕ) → Option (List ℕ)
items_of_memory None = None
items_of_memory (Some bytes) = Some bytes.items

-- ---- options of a peer's channel

abbrev pub reliability_number : Reliability → ℕ
reliability_number Reliable = 0
reliability_number (Retransmissions limit) = 1
reliability_number (Lifetime millis) = 2

abbrev pub limit_of : Reliability → ℕ
limit_of Reliable = 0
limit_of (Retransmissions limit) = limit
limit_of (Lifetime millis) = millis

-- The texts are where they lie: a `Vec` owns its items where its pointer is.
abbrev pub shown_options : ChannelOptions → ShownOptions
shown_options options =
    record {
      size = channel_options_size;
      label = options.label.ptr;
      label_length = length options.label.items;
      protocol = options.protocol.ptr;
      protocol_length = length options.protocol.items;
      limit = limit_of options.delivery.reliability;
      priority = options.delivery.priority;
      reliability = reliability_number options.delivery.reliability;
      is_unordered = flag_number (not options.delivery.ordered);
      is_negotiated = 0;
      stream = 0;
      reserved = 0;
    }

abbrev pub has_shown_size : ShownOptions → Bool
has_shown_size numbers = numbers.size == channel_options_size

abbrev pub options_of_event : ChannelEvent → Option ShownOptions
options_of_event (events.Incoming id options) = Some (shown_options options)
options_of_event event = None

abbrev pub options_of_taken : Option ChannelEvent → Option ShownOptions
options_of_taken None = None
options_of_taken (Some event) = options_of_event event

-- ---- what was counted

-- the bytes of a record of what was counted of a channel
abbrev pub traffic_size : ℕ
traffic_size = 40

abbrev pub has_traffic_size : TrafficRecord → Bool
has_traffic_size numbers = numbers.size == traffic_size

abbrev pub traffic_record : ChannelTraffic → TrafficRecord
traffic_record traffic =
    record {
      size = traffic_size;
      messages_sent = traffic.messages_sent;
      bytes_sent = traffic.bytes_sent;
      messages_received = traffic.messages_received;
      bytes_received = traffic.bytes_received;
    }
