-- A socket is handed over with its channels: when it can be, what is carried of them, and what a restore makes of that.
use Rattle.std.specs.Prelude.{◌≡◌, ◌≢◌, ◌==◌, ℕ, min, Bool, true, false, not, ◌&&◌, ◌||◌, Option, Some, None, is_some, Result, Ok, Err, List, [], ◌∷◌, ◌++◌, length, map, nat_lt, bit_or, if◌then◌else◌}
use Rattle.std.specs.List.{list_all}
use Rattle.dcsctp_channel_calls.specs.api.types.Readiness.{reason_if_true, wrong_connection_state}
use Rattle.dcsctp_channel_calls.specs.api.types.Snapshot.{Snapshot, snapshot, is_valid_snapshot}
use Rattle.dcsctp_channel_calls.specs.api.types.declared.snapshot.HandoverCapabilities.{HandoverCapabilities}
use Rattle.dcsctp_channel_calls.specs.api.types.declared.snapshot.HandoverSocketState.{HandoverSocketState}
use Rattle.dcsctp_channel_calls.specs.api.types.declared.snapshot.HandoverSocketState.TheVariants as snapshots
use Rattle.dcsctp_channel_calls.specs.api.spec.Handover.{readiness_of}
use Rattle.dcsctp_channel_calls.specs.api.declared.errors.HandoverError.{HandoverError}
use Rattle.dcsctp_channel_calls.specs.api.declared.errors.HandoverError.TheVariants.{NotReady}
use Rattle.dcsctp_channel_calls.specs.api.Calls.{UserView, is_closed}
use Rattle.dcsctp_channel_calls.specs.api.Handover.{HandsOver, RestoresSocket}
use Rattle.dcsctp_channel_calls.specs.messages.channel_spec.Slots.{opened_use}
use Rattle.dcsctp_channel_calls.specs.declared.handover.HandoverChannel.{HandoverChannel}
use Rattle.dcsctp_channel_calls.specs.declared.handover.HandoverChannels.{HandoverChannels}
use Rattle.dcsctp_channel_calls.specs.messages.channel_spec.declared.types.Role.{Role}
use Rattle.dcsctp_channel_calls.specs.messages.channel_spec.declared.types.StreamUse.{StreamUse}
use Rattle.dcsctp_channel_calls.specs.declared.channel.HeldStream.{HeldStream}
use Rattle.dcsctp_channel_calls.specs.declared.handover.ChannelsHandoverState.{ChannelsHandoverState}
use Rattle.dcsctp_channel_calls.specs.declared.handover.RestoreChannelsError.{RestoreChannelsError}
use Rattle.dcsctp_channel_calls.specs.declared.handover.RestoreChannelsError.TheVariants as errors
use Rattle.dcsctp_channel_calls.specs.View.{association_over, LayerView, ChannelsView, entry_numbered, entry_put, stream_count, ready_below, view_with_events}
use Rattle.dcsctp_channel_calls.specs.Late.{not_asked}

-- ---- when channels can be handed over

abbrev pub channels_unsettled : ℕ
channels_unsettled = 4096

abbrev pub events_not_taken : ℕ
events_not_taken = 8192

-- It has a channel that isn't closing, and owes and awaits nothing.
abbrev pub is_plain : StreamUse → Bool
is_plain stream =
    is_some stream.name && not stream.owes_ack && not stream.closing && not_asked stream.own && not stream.peer_reset && not stream.awaits_answer && (stream.refusals == 0)

-- so is the use of a stream that both ends have
abbrev pub has_settled : ℕ → ℕ × HeldStream → Bool
has_settled count entry = is_plain entry.1.stream && nat_lt entry.0 count

abbrev pub is_empty : {A : Type 0} → List A → Bool
is_empty entries = length entries == 0

-- Each channel has a stream, and all is settled.
abbrev pub are_settled : ChannelsView → Bool
are_settled view = is_empty view.layer.waiting && list_all (has_settled (stream_count view.below)) view.layer.streams

-- A poll has nothing to return, and no event or message to handle.
abbrev pub is_all_taken : ChannelsView → Bool
is_all_taken view = is_empty view.layer.told && is_empty view.layer.packets && is_empty view.layer.notices && (ready_below view.below == 0)

abbrev pub has_association : ChannelsView → Bool
has_association view = view.layer.connected && not (is_closed view.below.endpoint.core)

-- The reasons of the socket; and an association is needed, channels that are settled, and that all is taken.
abbrev pub readiness_with_channels : ChannelsView → ℕ
readiness_with_channels view =
    bit_or (bit_or (bit_or (readiness_of view.below.endpoint)
    (reason_if_true (not (has_association view)) wrong_connection_state))
    (reason_if_true (not (are_settled view)) channels_unsettled))
    (reason_if_true (not (is_all_taken view)) events_not_taken)

-- ---- what is carried

-- the channels of a snapshot, apart from where in memory they lie
pub record ChannelsPart : Type 0 where
  pub role : Option Role
  pub named : ℕ
  pub channels : List HandoverChannel

abbrev pub channels_part : HandoverChannels → ChannelsPart
channels_part state = record { role = state.role; named = state.named; channels = state.channels.items }

abbrev pub name_or_zero : Option ℕ → ℕ
name_or_zero None = 0
name_or_zero (Some name) = name

abbrev pub carried_channel : ℕ × HeldStream → HandoverChannel
carried_channel (number, held) =
    record {
      stream = number;
      name = name_or_zero held.stream.name;
      heard = held.stream.heard;
      delivery = held.delivery;
      messages_sent = held.traffic.messages_sent;
      bytes_sent = held.traffic.bytes_sent;
      messages_received = held.traffic.messages_received;
      bytes_received = held.traffic.bytes_received;
    }

abbrev pub carried_channels : LayerView → ChannelsPart
carried_channels layer = record { role = layer.role; named = layer.named; channels = map carried_channel layer.streams }

-- ---- what is left where they were

-- No channel is there any more, and none is said to have ended: they go on elsewhere. The association is over.
abbrev pub layer_handed_over : LayerView → LayerView
layer_handed_over layer = record layer { connected = false; over = true; streams = []; names = []; notices = layer.notices ++ association_over ∷ [] }

pub record HandsOverAll (state : ChannelsHandoverState) (old new : ChannelsView) : Type 0 where
  pub below : UserView
  pub socket : HandsOver old.below (Ok (Ok state.socket)) below
  pub channels : channels_part state.channels ≡ carried_channels old.layer
  pub is : new ≡ record { below = below; layer = layer_handed_over old.layer }

-- A socket that is ready is handed over with its channels. Else nothing changes.
abbrev pub HandsOverNow : Result ChannelsHandoverState HandoverError → ChannelsView → ChannelsView → Type 0
HandsOverNow (Ok state) old new = (readiness_with_channels old ≡ 0) × HandsOverAll state old new
HandsOverNow (Err (NotReady readiness)) old new =
    (readiness.0 ≡ readiness_with_channels old) × (readiness_with_channels old ≢ 0) × (new ≡ old)

-- The socket's events are taken over before, so that none is lost.
abbrev pub HandsOverChannels : Result ChannelsHandoverState HandoverError → ChannelsView → ChannelsView → Type 0
HandsOverChannels answer old new = HandsOverNow answer (view_with_events old) new

-- ---- what a restore makes of it

-- the streams in use, and the stream of each channel
pub record ChannelPlaces : Type 0 where
  pub streams : List (ℕ × HeldStream)
  pub names : List (ℕ × ℕ)

abbrev pub no_places : ChannelPlaces
no_places = record { streams = []; names = [] }

-- a channel that lasts
abbrev pub lasting_use : ℕ → Bool → StreamUse
lasting_use name heard = record (opened_use name) { heard = heard }

-- a stream whose channel is restored at this moment
abbrev pub stream_handed_over : ℕ → HandoverChannel → HeldStream
stream_handed_over moment channel =
    record {
      stream = lasting_use channel.name channel.heard;
      delivery = channel.delivery;
      closing_since = moment;
      traffic = record {
        messages_sent = channel.messages_sent;
        bytes_sent = channel.bytes_sent;
        messages_received = channel.messages_received;
        bytes_received = channel.bytes_received;
      };
    }

-- The association has its stream, its name was given, and neither is another channel's.
abbrev pub has_own_place : ℕ → ℕ → HandoverChannel → ChannelPlaces → Bool
has_own_place count named channel places =
    nat_lt channel.stream count && nat_lt channel.name named && not (is_some (entry_numbered channel.stream places.streams))
    && not (is_some (entry_numbered channel.name places.names))

abbrev pub places_with_channel : ℕ → HandoverChannel → ChannelPlaces → ChannelPlaces
places_with_channel moment channel places =
    record {
      streams = entry_put channel.stream (stream_handed_over moment channel) places.streams;
      names = entry_put channel.name channel.stream places.names;
    }

-- The places of these channels beside others, if each has its own.
abbrev pub places_beside : ℕ → ℕ → ℕ → List HandoverChannel → ChannelPlaces → Option ChannelPlaces
places_beside moment count named [] places = Some places
places_beside moment count named (channel ∷ channels) places =
    if has_own_place count named channel places then places_beside moment count named channels (places_with_channel moment channel places) else None

-- how many streams go both ways
abbrev pub streams_of_snapshot : HandoverCapabilities → ℕ
streams_of_snapshot capabilities = min capabilities.negotiated_maximum_outgoing_streams capabilities.negotiated_maximum_incoming_streams

abbrev pub is_of_association : HandoverSocketState → Bool
is_of_association snapshots.Closed = false
is_of_association snapshots.Connected = true

-- The socket can be restored, and has an association.
abbrev pub is_valid_below : Snapshot → ChannelsView → Bool
is_valid_below state view = is_of_association state.socket_state && is_valid_snapshot view.below.endpoint.options state

abbrev pub places_restored : Snapshot → ChannelsPart → ChannelsView → Option ChannelPlaces
places_restored state part view =
    if is_valid_below state view
    then places_beside view.layer.moment (streams_of_snapshot state.capabilities) part.named part.channels no_places
    else None

-- Nothing was done with it but that its clock, its role or a limit was set.
abbrev pub is_unused : ChannelsView → Bool
is_unused view =
    is_closed view.below.endpoint.core && not view.layer.connected && not view.layer.over && (view.layer.named == 0)
    && is_empty view.layer.streams && is_empty view.layer.names && is_empty view.layer.waiting && is_empty view.layer.told

abbrev pub layer_restored : ChannelsPart → ChannelPlaces → LayerView → LayerView
layer_restored part places layer = record layer { role = part.role; streams = places.streams; names = places.names; named = part.named }

-- The association continues, and so does each channel under its name.
pub record RestoresAll (state : Snapshot) (part : ChannelsPart) (places : ChannelPlaces) (old new : ChannelsView) : Type 0 where
  pub below : UserView
  pub socket : RestoresSocket state old.below (Ok (Ok tt)) below
  pub is : new ≡ record { below = below; layer = layer_restored part places old.layer }

abbrev pub RestoresIfPlaced : Snapshot → ChannelsPart → Option ChannelPlaces → Result (Unit {0}) RestoreChannelsError → ChannelsView → ChannelsView → Type 0
RestoresIfPlaced state part None answer old new = (answer ≡ Err errors.InvalidSnapshot) × (new ≡ old)
RestoresIfPlaced state part (Some places) answer old new = (answer ≡ Ok tt) × RestoresAll state part places old new

abbrev pub RestoresIfUnused : Bool → Snapshot → ChannelsPart → Result (Unit {0}) RestoreChannelsError → ChannelsView → ChannelsView → Type 0
RestoresIfUnused false state part answer old new = (answer ≡ Err errors.NotNew) × (new ≡ old)
RestoresIfUnused true state part answer old new = RestoresIfPlaced state part (places_restored state part old) answer old new

-- Only a new socket is restored, and only from a snapshot that is valid. Else nothing changes.
abbrev pub RestoresChannels : Snapshot → ChannelsPart → Result (Unit {0}) RestoreChannelsError → ChannelsView → ChannelsView → Type 0
RestoresChannels state part answer old new = RestoresIfUnused (is_unused old) state part answer old new
