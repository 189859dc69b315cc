-- What a socket with channels is to its user, and what a row of the table makes of it.
use Rattle.std.specs.Prelude.{◌==◌, ℕ, ◌+◌, ◌-◌, ◌^◌, Bool, true, false, not, ◌&&◌, ◌||◌, Option, Some, None, List, [], ◌∷◌, ◌++◌, map, length, min, nat_lt, if◌then◌else◌}
use Rattle.std.specs.BTreeMap.{insert_entry, is_at}
use Rattle.std.specs.Map.{lookup, remove_entry}
use Rattle.std.specs.Ordering.{nat_cmp}
use Rattle.dcsctp_api.specs.spec.endpoint.Event.{Event, sent}
use Rattle.dcsctp_api.specs.spec.endpoint.Endpoint.{held_by_core}
use Rattle.dcsctp_api.specs.spec.queues.SendQueue.{SendQueueState}
use Rattle.dcsctp_api.specs.spec.queues.Transfer.{Transfer}
use Rattle.dcsctp_api.specs.types.declared.association.Held.{Held}
use Rattle.dcsctp_api.specs.Calls.{UserView}
use Rattle.dcsctp_api.specs.Metrics.{unacknowledged_data}
use Rattle.dcsctp_api.specs.Messages.{ready_messages}
use Rattle.dcsctp_channel_messages.specs.channel_spec.declared.types.Delivery.{Delivery}
use Rattle.dcsctp_channel_messages.specs.channel_spec.declared.types.OwnReset.{OwnReset}
use Rattle.dcsctp_channel_messages.specs.channel_spec.declared.types.OwnReset.TheVariants.{NotAsked, Asked, Performed, GivenUp}
use Rattle.dcsctp_channel_messages.specs.channel_spec.declared.types.Role.{Role}
use Rattle.dcsctp_channel_messages.specs.channel_spec.declared.types.StreamUse.{StreamUse}
use Rattle.dcsctp_channel_messages.specs.channel_spec.Slots.{StreamSlot, free, used, name_of_slot, Report, SlotOutcome, SlotInput, hears_open, hears_message}
use Rattle.dcsctp_channel_messages.specs.channel_spec.Table.{outcome_of}
use Rattle.dcsctp_channel_calls.specs.declared.channel.ChannelTraffic.{ChannelTraffic}
use Rattle.dcsctp_channel_calls.specs.declared.channel.HeldStream.{HeldStream}
use Rattle.dcsctp_channel_calls.specs.declared.channel.Limits.{Limits}

-- ---- what is kept

-- a channel that has no stream yet
pub record WaitingChannel : Type 0 where
  pub name : ℕ
  -- its OPEN
  pub payload : List ℕ
  pub delivery : Delivery
  -- the stream that both ends agreed on
  pub negotiated : Option ℕ

-- an event of the socket, and how many messages had become ready before it
pub record ReportedEvent : Type 0 where
  pub after : ℕ
  pub event : Event (List ℕ)

-- what the user takes
pub data ChannelNotice : Type 0 where
  packet_out : List ℕ → ChannelNotice
  association_made : ChannelNotice
  of_channel : Report → ChannelNotice
  -- what waits on the channel has fallen to its threshold
  amount_low : ℕ → ChannelNotice
  association_over : ChannelNotice

-- all that the layer keeps beside its socket
pub record LayerView : Type 0 where
  pub role : Option Role
  pub limits : Limits
  -- an allocation failed
  pub failed : Bool
  pub connected : Bool
  pub over : Bool
  -- the socket has refused no control message since the last packet or moment
  pub has_room : Bool
  pub moment : ℕ
  -- the streams in use, in ascending order
  pub streams : List (ℕ × HeldStream)
  -- the stream of each channel that has one, in ascending order of names
  pub names : List (ℕ × ℕ)
  -- oldest first, as all lists below
  pub waiting : List WaitingChannel
  -- how many channels were named
  pub named : ℕ
  pub told : List ReportedEvent
  -- how many messages were taken
  pub taken : ℕ
  pub packets : List (List ℕ)
  pub notices : List ChannelNotice

pub record ChannelsView : Type 0 where
  pub below : UserView
  pub layer : LayerView

-- ---- streams

abbrev pub entry_numbered : {A : Type 0} → ℕ → List (ℕ × A) → Option A
entry_numbered number entries = lookup (is_at (nat_cmp number)) entries

abbrev pub entry_put : {A : Type 0} → ℕ → A → List (ℕ × A) → List (ℕ × A)
entry_put number value entries = insert_entry nat_cmp entries number value

abbrev pub without_entry : {A : Type 0} → ℕ → List (ℕ × A) → List (ℕ × A)
without_entry number entries = remove_entry (is_at (nat_cmp number)) entries

abbrev pub held_stream_numbered : LayerView → ℕ → Option HeldStream
held_stream_numbered layer number = entry_numbered number layer.streams

abbrev pub slot_of : Option HeldStream → StreamSlot
slot_of None = free
slot_of (Some held) = used held.stream

abbrev pub slot_numbered : LayerView → ℕ → StreamSlot
slot_numbered layer number = slot_of (held_stream_numbered layer number)

-- ---- a row of the table

abbrev pub no_traffic : ChannelTraffic
no_traffic = record { messages_sent = 0; bytes_sent = 0; messages_received = 0; bytes_received = 0 }

-- a stream that comes into use
abbrev pub held_from : ℕ → Delivery → StreamUse → HeldStream
held_from moment delivery stream = record { stream = stream; delivery = delivery; closing_since = moment; traffic = no_traffic }

-- a stream that stays in use; its close is timed
abbrev pub went_on : ℕ → HeldStream → StreamUse → HeldStream
went_on moment held stream =
    record held { stream = stream; closing_since = if stream.closing && not held.stream.closing then moment else held.closing_since }

abbrev pub was_asked : OwnReset → Bool
was_asked NotAsked = false
was_asked Asked = true
was_asked Performed = false
was_asked GivenUp = false

-- The peer has reset the stream, and has been asked for its reset: its OPEN gives it again.
abbrev pub may_reopen : StreamUse → Bool
may_reopen stream = stream.peer_reset && was_asked stream.own

-- is a stream in use given again by this input?
abbrev pub gives_again : SlotInput → StreamUse → Bool
gives_again (hears_open accepted name opening) stream = may_reopen stream
gives_again input stream = false

abbrev pub held_or_begun : Bool → ℕ → Delivery → HeldStream → StreamUse → HeldStream
held_or_begun true moment delivery held stream = held_from moment delivery stream
held_or_begun false moment delivery held stream = went_on moment held stream

abbrev pub most_counted : ℕ → ℕ
most_counted count = min count (2 ^ 64 - 1)

abbrev pub received_on : ℕ → HeldStream → HeldStream
received_on bytes held =
    record held { traffic = record held.traffic { messages_received = most_counted (held.traffic.messages_received + 1); bytes_received = most_counted (held.traffic.bytes_received + bytes) } }

-- a message is counted, unless it is dropped
abbrev pub counted_with : SlotInput → HeldStream → HeldStream
counted_with (hears_message content) held = if held.stream.closing then held else received_on (length content.bytes) held
counted_with input held = held

abbrev pub held_after : ℕ → Delivery → SlotInput → Option HeldStream → StreamUse → HeldStream
held_after moment delivery input None stream = held_from moment delivery stream
held_after moment delivery input (Some held) stream = held_or_begun (gives_again input held.stream) moment delivery (counted_with input held) stream

abbrev pub streams_with : ℕ → Option HeldStream → StreamSlot → (StreamUse → HeldStream) → List (ℕ × HeldStream) → List (ℕ × HeldStream)
streams_with number None free held streams = streams
streams_with number (Some old) free held streams = without_entry number streams
streams_with number old (used stream) held streams = entry_put number (held stream) streams

-- the streams of channels, where this stream's channel changes from the one name to the other
abbrev pub names_with : ℕ → Option ℕ → Option ℕ → List (ℕ × ℕ) → List (ℕ × ℕ)
names_with number None None names = names
names_with number (Some old) None names = without_entry old names
names_with number None (Some new) names = entry_put new number names
names_with number (Some old) (Some new) names = if old == new then names else entry_put new number (without_entry old names)

-- A row of the table is taken: its slot is left, and its reports are added. The delivery is that of a stream that comes into use.
abbrev pub taken_as : ℕ → Delivery → SlotInput → SlotOutcome → LayerView → LayerView
taken_as number delivery input outcome layer =
    record layer {
      streams = streams_with number (held_stream_numbered layer number) outcome.after (held_after layer.moment delivery input (held_stream_numbered layer number)) layer.streams;
      names = names_with number (name_of_slot (slot_numbered layer number)) (name_of_slot outcome.after) layer.names;
      notices = layer.notices ++ map of_channel outcome.reports;
    }

abbrev pub row_taken : ℕ → Delivery → SlotInput → LayerView → LayerView
row_taken number delivery input layer = taken_as number delivery input (outcome_of input (slot_numbered layer number)) layer

-- ---- the socket's events

abbrev pub packet_of_layer_event : Event (List ℕ) → List (List ℕ)
packet_of_layer_event (sent packet) = packet ∷ []
packet_of_layer_event event = []

abbrev pub packets_of_layer_events : List (Event (List ℕ)) → List (List ℕ)
packets_of_layer_events [] = []
packets_of_layer_events (event ∷ events) = packet_of_layer_event event ++ packets_of_layer_events events

abbrev pub reports_of_event : ℕ → Event (List ℕ) → List ReportedEvent
reports_of_event after (sent packet) = []
reports_of_event after event = record { after = after; event = event } ∷ []

-- Each other event waits until the messages that were ready before it are taken.
abbrev pub reported_events : ℕ → List (Event (List ℕ)) → List ReportedEvent
reported_events after [] = []
reported_events after (event ∷ events) = reports_of_event after event ++ reported_events after events

abbrev pub ready_below : UserView → ℕ
ready_below below = length (ready_messages below.endpoint)

abbrev pub layer_after_events : List (Event (List ℕ)) → ℕ → LayerView → LayerView
layer_after_events events ready layer =
    record layer { packets = layer.packets ++ packets_of_layer_events events; told = layer.told ++ reported_events (layer.taken + ready) events }

-- all events of the socket are taken over
abbrev pub view_with_events : ChannelsView → ChannelsView
view_with_events view =
    record { below = record view.below { events = [] }; layer = layer_after_events view.below.events (ready_below view.below) view.layer }

-- ---- which streams there are

-- none while the peer isn't known
abbrev pub streams_if_connected : Option Held → Option Transfer → ℕ
streams_if_connected (Some held) (Some transfer) = min held.capabilities.negotiated_maximum_outgoing_streams held.capabilities.negotiated_maximum_incoming_streams
streams_if_connected held transfer = 0

-- how many streams go both ways
abbrev pub stream_count : UserView → ℕ
stream_count below = streams_if_connected (held_by_core below.endpoint.core) below.endpoint.queues.transfer

-- Do both ends have this stream? Where the association has ended, what came before was on streams that both had.
abbrev pub has_stream : UserView → ℕ → Bool
has_stream below number = stream_count below == 0 || nat_lt number (stream_count below)

-- how many chunks aren't acknowledged
abbrev pub unacknowledged_if_connected : ℕ → SendQueueState → Option Held → Option Transfer → Option ℕ
unacknowledged_if_connected mtu queue (Some held) (Some transfer) = Some (unacknowledged_data mtu queue transfer.retransmission)
unacknowledged_if_connected mtu queue held transfer = None

abbrev pub unacknowledged_below : UserView → Option ℕ
unacknowledged_below below =
    unacknowledged_if_connected below.endpoint.options.mtu below.endpoint.queues.queue (held_by_core below.endpoint.core) below.endpoint.queues.transfer
