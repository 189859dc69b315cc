-- What the numbers that C writes say of a channel, and of what a peer may take.
use Rattle.std.specs.Prelude.{◌==◌, ◌&&◌, ◌||◌, nat_lt, ℕ, Bool, true, false, not, if◌then◌else◌, Option, Some, None, length}
use Rattle.dcsctp_session.specs.Options.{flag}
use Rattle.dcsctp_channel_calls.specs.Opening.{most_text}
use Rattle.dcsctp_channel_calls.specs.declared.channel.Limits.{Limits}
use Rattle.dcsctp_channel_calls.specs.messages.channel_spec.Slots.{Opening}
use Rattle.dcsctp_channel_calls.specs.messages.channel_spec.declared.types.Reliability.{Reliability}
use Rattle.dcsctp_channel_calls.specs.messages.channel_spec.declared.types.Reliability.TheVariants.{Reliable, Retransmissions, Lifetime}
use Rattle.dcsctp_channel_session.specs.declared.options.ChannelOptionsRecord.{ChannelOptionsRecord}
use Rattle.dcsctp_channel_session.specs.declared.options.LimitsRecord.{LimitsRecord}

-- ---- limits

-- the bytes of a record of limits
abbrev pub limits_size : ℕ
limits_size = 32

-- Does the record have that size? A caller may have that of another version.
abbrev pub has_limits_size : LimitsRecord → Bool
has_limits_size numbers = numbers.size == limits_size

-- a limit, or what it is by default
abbrev pub limit_or : ℕ → ℕ → ℕ
limit_or limit standard = if limit == 0 then standard else limit

abbrev pub limits_said : LimitsRecord → Limits
limits_said numbers =
    record { channels = limit_or numbers.max_channels 1024; text = limit_or numbers.max_text 1024; message = limit_or numbers.max_message_size 262144 }

-- ---- options of a channel

-- the bytes of a record of options
abbrev pub channel_options_size : ℕ
channel_options_size = 56

abbrev pub has_channel_options_size : ChannelOptionsRecord → Bool
has_channel_options_size numbers = numbers.size == channel_options_size

abbrev pub says_channel : ChannelOptionsRecord → Bool
says_channel numbers = nat_lt numbers.reliability 3 && (numbers.reserved == 0)

-- Is a text longer than an OPEN can say?
abbrev pub has_long_text : ChannelOptionsRecord → Bool
has_long_text numbers = nat_lt most_text (length numbers.label.now) || nat_lt most_text (length numbers.protocol.now)

-- how long messages are sent again, by the kind and its limit
abbrev pub reliability_said : ℕ → ℕ → Reliability
reliability_said kind limit = if kind == 1 then Retransmissions limit else (if kind == 2 then Lifetime limit else Reliable)

abbrev pub opening_of_numbers : ChannelOptionsRecord → Opening
opening_of_numbers numbers =
    record {
      label = numbers.label.now;
      protocol = numbers.protocol.now;
      delivery = record { ordered = not (flag numbers.is_unordered); reliability = reliability_said numbers.reliability numbers.limit; priority = numbers.priority };
    }

-- the stream, if both ends agreed on it
abbrev pub stream_said : ChannelOptionsRecord → Option ℕ
stream_said numbers = if numbers.is_negotiated == 0 then None else Some numbers.stream
