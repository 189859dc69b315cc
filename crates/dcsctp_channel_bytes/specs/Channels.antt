-- A snapshot with channels as bytes: a mark, the snapshot of the socket, and its channels. A comment after each field says how
-- many bytes it has.
use Rattle.std.specs.Prelude.{◌≡◌, ℕ, ◌<◌, ◌^◌, ◌==◌, Bool, true, false, List, ◌++◌, length, Option, Some, None, option_map, if◌then◌else◌}
use Rattle.std.specs.Borrow.{Bor}
use Rattle.std.specs.Int.{w16, w32, w64}
use Rattle.dcsctp_channel_calls.specs.api.types.Snapshot.{Snapshot, snapshot}
use Rattle.dcsctp_channel_calls.specs.api.types.declared.snapshot.SocketHandoverState.{SocketHandoverState}
use Rattle.dcsctp_channel_calls.specs.Handover.{ChannelsPart, channels_part}
use Rattle.dcsctp_channel_calls.specs.declared.handover.HandoverChannel.{HandoverChannel}
use Rattle.dcsctp_channel_calls.specs.declared.handover.HandoverChannels.{HandoverChannels}
use Rattle.dcsctp_channel_calls.specs.messages.channel_spec.declared.types.Delivery.{Delivery}
use Rattle.dcsctp_channel_calls.specs.messages.channel_spec.declared.types.Reliability.{Reliability}
use Rattle.dcsctp_channel_calls.specs.messages.channel_spec.declared.types.Reliability.TheVariants.{Reliable, Retransmissions, Lifetime}
use Rattle.dcsctp_channel_calls.specs.messages.channel_spec.declared.types.Role.{Role}
use Rattle.dcsctp_channel_calls.specs.messages.channel_spec.declared.types.Role.TheVariants.{Client, Server}
use Rattle.dcsctp_snapshot_bytes.specs.Fields.{◌>>=◌, number_bytes, flag_bytes, payload_bytes, optional_bytes, element_list_bytes, number_of_width, leading_flag, leading_payload, leading_optional, leading_list}
use Rattle.dcsctp_snapshot_bytes.specs.Fits.{FitsElements}
use Rattle.dcsctp_snapshot_bytes.specs.Reading.{read_snapshot}
use Rattle.dcsctp_snapshot_bytes.specs.Spelling.{snapshot_bytes}
use Rattle.dcsctp_channel_bytes.specs.declared.channel.ChannelCounts.{ChannelCounts}

-- "dcCh", for the channels of dcsctp
abbrev pub channels_magic : ℕ
channels_magic = 0x64634368

-- ---- how long a message is sent again, as two numbers of which one at most is there

abbrev pub retransmissions_said : Reliability → Option ℕ
retransmissions_said Reliable = None
retransmissions_said (Retransmissions limit) = Some limit
retransmissions_said (Lifetime millis) = None

abbrev pub lifetime_said : Reliability → Option ℕ
lifetime_said Reliable = None
lifetime_said (Retransmissions limit) = None
lifetime_said (Lifetime millis) = Some millis

abbrev pub reliability_by_limits : Option ℕ → Option ℕ → Option Reliability
reliability_by_limits None None = Some Reliable
reliability_by_limits (Some limit) None = Some (Retransmissions limit)
reliability_by_limits None (Some millis) = Some (Lifetime millis)
reliability_by_limits (Some limit) (Some millis) = None

-- ---- written

unfoldable pub delivery_bytes : Delivery → List ℕ
delivery_bytes delivery =
    flag_bytes delivery.ordered  -- 1
    ++ optional_bytes (number_bytes w32) (retransmissions_said delivery.reliability)  -- 1, or 1 + 4
    ++ optional_bytes (number_bytes w32) (lifetime_said delivery.reliability)  -- 1, or 1 + 4
    ++ number_bytes w16 delivery.priority  -- 2

-- a channel that lasts
unfoldable pub channel_bytes : HandoverChannel → List ℕ
channel_bytes channel =
    number_bytes w16 channel.stream  -- 2
    ++ number_bytes w64 channel.name  -- 8
    ++ flag_bytes channel.heard  -- 1
    ++ delivery_bytes channel.delivery
    ++ number_bytes w64 channel.messages_sent  -- 8
    ++ number_bytes w64 channel.bytes_sent  -- 8
    ++ number_bytes w64 channel.messages_received  -- 8
    ++ number_bytes w64 channel.bytes_received  -- 8

abbrev pub is_client : Role → Bool
is_client Client = true
is_client Server = false

unfoldable pub channels_bytes : ChannelsPart → List ℕ
channels_bytes part =
    optional_bytes flag_bytes (option_map is_client part.role)  -- 1, or 1 + 1
    ++ number_bytes w64 part.named  -- 8
    ++ element_list_bytes channel_bytes part.channels  -- 8, and each

unfoldable pub bytes_with_channels : Snapshot → ChannelsPart → List ℕ
bytes_with_channels state part =
    number_bytes w32 channels_magic  -- 4
    ++ payload_bytes (snapshot_bytes state)  -- 8, and the snapshot
    ++ channels_bytes part

-- ---- read

abbrev pub delivery_by_limits : Bool → ℕ → List ℕ → Option Reliability → Option (Delivery × List ℕ)
delivery_by_limits ordered priority rest None = None
delivery_by_limits ordered priority rest (Some reliability) = Some (record { ordered = ordered; reliability = reliability; priority = priority }, rest)

-- one with both limits is refused
unfoldable pub leading_delivery : List ℕ → Option (Delivery × List ℕ)
leading_delivery bytes = do
  ordered ← leading_flag bytes
  retransmissions ← leading_optional (number_of_width w32) ordered.1
  lifetime ← leading_optional (number_of_width w32) retransmissions.1
  priority ← number_of_width w16 lifetime.1
  delivery_by_limits ordered.0 priority.0 priority.1 (reliability_by_limits retransmissions.0 lifetime.0)

unfoldable pub leading_counts : List ℕ → Option (ChannelCounts × List ℕ)
leading_counts bytes = do
  messages_sent ← number_of_width w64 bytes
  bytes_sent ← number_of_width w64 messages_sent.1
  messages_received ← number_of_width w64 bytes_sent.1
  bytes_received ← number_of_width w64 messages_received.1
  Some (
    record {
      messages_sent = messages_sent.0;
      bytes_sent = bytes_sent.0;
      messages_received = messages_received.0;
      bytes_received = bytes_received.0;
    },
    bytes_received.1,
  )

unfoldable pub leading_channel : List ℕ → Option (HandoverChannel × List ℕ)
leading_channel bytes = do
  stream ← number_of_width w16 bytes
  name ← number_of_width w64 stream.1
  heard ← leading_flag name.1
  delivery ← leading_delivery heard.1
  counts ← leading_counts delivery.1
  Some (
    record {
      stream = stream.0;
      name = name.0;
      heard = heard.0;
      delivery = delivery.0;
      messages_sent = counts.0.messages_sent;
      bytes_sent = counts.0.bytes_sent;
      messages_received = counts.0.messages_received;
      bytes_received = counts.0.bytes_received;
    },
    counts.1,
  )

abbrev pub role_of : Bool → Role
role_of true = Client
role_of false = Server

unfoldable pub leading_role : List ℕ → Option (Option Role × List ℕ)
leading_role bytes = do
  role ← leading_optional leading_flag bytes
  Some (option_map role_of role.0, role.1)

unfoldable pub leading_channels : List ℕ → Option (ChannelsPart × List ℕ)
leading_channels bytes = do
  role ← leading_role bytes
  named ← number_of_width w64 role.1
  channels ← leading_list leading_channel named.1
  Some (record { role = role.0; named = named.0; channels = channels.0 }, channels.1)

-- The bytes of the snapshot, and the channels, which are all that follows the magic.
unfoldable pub read_behind_magic : List ℕ → Option (List ℕ × ChannelsPart)
read_behind_magic bytes = do
  state ← leading_payload bytes
  part ← leading_channels state.1
  if length part.1 == 0 then Some (state.0, part.0) else None

unfoldable pub read_parts : List ℕ → Option (List ℕ × ChannelsPart)
read_parts bytes = do
  magic ← number_of_width w32 bytes
  if magic.0 == channels_magic then read_behind_magic magic.1 else None

-- the snapshot and its channels
unfoldable pub read_with_channels : List ℕ → Option (Snapshot × ChannelsPart)
read_with_channels bytes = do
  parts ← read_parts bytes
  state ← read_snapshot parts.0
  Some (state, parts.1)

-- what was read, apart from where in memory it lies
abbrev pub parts_said : Bor (List ℕ) × HandoverChannels → List ℕ × ChannelsPart
parts_said (bytes, channels) = (bytes.now, channels_part channels)

abbrev pub both_said : SocketHandoverState × HandoverChannels → Snapshot × ChannelsPart
both_said (state, channels) = (snapshot state, channels_part channels)

-- ---- each number fits its field

abbrev pub limit_fits : Reliability → Type 0
limit_fits Reliable = Unit {0}
limit_fits (Retransmissions limit) = limit < 2 ^ 32
limit_fits (Lifetime millis) = millis < 2 ^ 32

pub record FitsDelivery (delivery : Delivery) : Type 0 where
  pub reliability : limit_fits delivery.reliability
  pub priority : delivery.priority < 2 ^ 16

pub record FitsChannel (channel : HandoverChannel) : Type 0 where
  pub stream : channel.stream < 2 ^ 16
  pub name : channel.name < 2 ^ 64
  pub delivery : FitsDelivery channel.delivery
  pub messages_sent : channel.messages_sent < 2 ^ 64
  pub bytes_sent : channel.bytes_sent < 2 ^ 64
  pub messages_received : channel.messages_received < 2 ^ 64
  pub bytes_received : channel.bytes_received < 2 ^ 64

pub record FitsPart (part : ChannelsPart) : Type 0 where
  pub named : part.named < 2 ^ 64
  pub channels : FitsElements FitsChannel part.channels

-- the count of the snapshot's bytes, too
pub record FitsBoth (state : Snapshot) (part : ChannelsPart) : Type 0 where
  pub count : length (snapshot_bytes state) < 2 ^ 64
  pub back : read_snapshot (snapshot_bytes state) ≡ Some state
  pub channels : FitsPart part
