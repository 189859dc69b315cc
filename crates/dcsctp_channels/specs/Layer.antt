-- What the layer keeps, as the definitions have it.
use Rattle.std.specs.Prelude.{◌≡◌, ◌==◌, ℕ, ◌+◌, Bool, true, false, Option, Some, None, Result, OnOk, List, [], ◌∷◌, map, if◌then◌else◌}
use Rattle.dcsctp_channel_calls.specs.api.Calls.{UserView}
use Rattle.dcsctp_channel_calls.specs.api.Events.{event_content}
use Rattle.dcsctp_channel_calls.specs.messages.channel_spec.declared.types.Delivery.{Delivery}
use Rattle.dcsctp_channel_calls.specs.messages.channel_spec.declared.types.StreamUse.{StreamUse}
use Rattle.dcsctp_channel_calls.specs.messages.channel_spec.Contents.{ChannelContent}
use Rattle.dcsctp_channel_calls.specs.messages.channel_spec.Slots.{name_of_slot, accepted_use}
use Rattle.dcsctp_channel_calls.specs.messages.channel_spec.Table.{end_if_heard, ends_as}
use Rattle.dcsctp_channel_calls.specs.declared.channel.HeldStream.{HeldStream}
use Rattle.dcsctp_channel_calls.specs.Notices.{notice_of}
use Rattle.dcsctp_channel_calls.specs.View.{WaitingChannel, ReportedEvent, of_channel, LayerView, ChannelsView, entry_put, held_stream_numbered, held_from, went_on, streams_with, names_with}
use Rattle.dcsctp_channel_calls.specs.declared.channel.Limits.{Limits}
use Rattle.dcsctp_channel_calls.specs.Calls.{KeepsTaking, on_layer}
use Rattle.dcsctp_channel_calls.specs.Events.{with_notices, HandlesEventUnlessEnded}
use Rattle.dcsctp_channel_calls.specs.Handover.{ChannelPlaces}
use Rattle.dcsctp_channel_calls.specs.Late.{DoesLate, NothingIsLate}
use Rattle.dcsctp_channel_calls.specs.Polls.{HandlesNext, NothingToDo}
use Rattle.dcsctp_channels.specs.declared.arrivals.Kind.{Kind}
use Rattle.dcsctp_channels.specs.Rows.{slot_of_use}
use Rattle.dcsctp_channels.specs.declared.layer.Layer.{Layer}
use Rattle.dcsctp_channels.specs.declared.layer.Told.{Told}
use Rattle.dcsctp_channels.specs.declared.layer.Waiting.{Waiting}
use Rattle.dcsctp_channels.specs.declared.table.Table.{Table}

abbrev pub waiting_said : Waiting → WaitingChannel
waiting_said waiting = record { name = waiting.id.0; payload = waiting.payload.items; delivery = waiting.delivery; negotiated = waiting.negotiated }

abbrev pub reported_event : Told → ReportedEvent
reported_event told = record { after = told.after; event = event_content told.event }

abbrev pub layer_view : Layer → LayerView
layer_view layer =
    record {
      role = layer.role;
      limits = layer.limits;
      failed = layer.failed;
      connected = layer.is_connected;
      over = layer.has_ended;
      has_room = layer.has_room;
      moment = layer.moment;
      streams = layer.table.channels.entries;
      names = layer.table.names.entries;
      waiting = map waiting_said layer.waiting.items;
      named = layer.named;
      told = map reported_event layer.told.items;
      taken = layer.taken;
      packets = map (λ packet. packet.items) layer.packets.items;
      notices = map notice_of layer.ready.items;
    }

abbrev pub whole_view : UserView → Layer → ChannelsView
whole_view below layer = record { below = below; layer = layer_view layer }

-- ---- what a part of a call leaves of the layer

-- It becomes this; or no memory is left. Nothing is taken.
abbrev pub Leaves : {A E : Type 0} → LayerView → LayerView → Result A E → LayerView → Type 0
Leaves becomes old result new = KeepsTaking old new × OnOk result (new ≡ becomes)

-- the stream has this use, and its channel this name
abbrev pub layer_with_stream : ℕ → Option ℕ → HeldStream → LayerView → LayerView
layer_with_stream number old held layer =
    record layer { streams = entry_put number held layer.streams; names = names_with number old held.stream.name layer.names }

-- the stream is left so by a row
abbrev pub stream_left : ℕ → HeldStream → Option StreamUse → LayerView → LayerView
stream_left number held after layer =
    record layer {
      streams = streams_with number (Some held) (slot_of_use after) (went_on layer.moment held) layer.streams;
      names = names_with number held.stream.name (name_of_slot (slot_of_use after)) layer.names;
    }

-- a layer of which nothing is known yet
abbrev pub fresh_layer : Limits → LayerView
fresh_layer limits =
    record {
      role = None;
      limits = limits;
      failed = false;
      connected = false;
      over = false;
      has_room = true;
      moment = 0;
      streams = [];
      names = [];
      waiting = [];
      named = 0;
      told = [];
      taken = 0;
      packets = [];
      notices = [];
    }

-- the stream has the peer's channel, and one that it had before is over
abbrev pub accepted_before : Option HeldStream → ℕ → ℕ → Delivery → LayerView → LayerView
accepted_before None number name delivery layer = layer_with_stream number None (held_from layer.moment delivery (accepted_use name false)) layer
accepted_before (Some held) number name delivery layer =
    layer_with_stream number held.stream.name (held_from layer.moment delivery (accepted_use name true)) (with_notices (map of_channel (ends_as (end_if_heard held.stream.heard) held.stream)) layer)

abbrev pub layer_after_accepting : ℕ → ℕ → Delivery → LayerView → LayerView
layer_after_accepting number name delivery layer = accepted_before (held_stream_numbered layer number) number name delivery layer

-- ---- what a user's message is by its identifier

abbrev pub bytes_unless_empty : Bool → List ℕ → List ℕ
bytes_unless_empty true payload = []
bytes_unless_empty false payload = payload

abbrev pub kind_content : List ℕ → Kind → ChannelContent
kind_content payload kind = record { is_text = kind.is_text; bytes = bytes_unless_empty kind.is_empty payload }

-- ---- what is done next

-- Was something done that had been put off?
abbrev pub DoesLateUnlessNone : Bool → ChannelsView → ChannelsView → Type 0
DoesLateUnlessNone true old new = DoesLate old new
DoesLateUnlessNone false old new = (new ≡ old) × NothingIsLate old

abbrev pub HandlesNextUnlessNone : Bool → ChannelsView → ChannelsView → Type 0
HandlesNextUnlessNone true old new = HandlesNext old new
HandlesNextUnlessNone false old new = (new ≡ old) × NothingToDo old

-- The first event was handled; there is always one.
abbrev pub HandlesFirstReported : Bool → ChannelsView → ChannelsView → Type 0
HandlesFirstReported true old new = (first : ReportedEvent) × (rest : List ReportedEvent) × (old.layer.told ≡ first ∷ rest) × HandlesEventUnlessEnded old.layer.over first.event (on_layer (λ layer. record layer { told = rest }) old) new
HandlesFirstReported false old new = old.layer.told ≡ []

abbrev pub place_from : ℕ → ℕ → List WaitingChannel → Option ℕ
place_from place name [] = None
place_from place name (waits ∷ rest) = if waits.name == name then Some place else place_from (place + 1) name rest

-- the place of a channel among those that wait
abbrev pub place_waiting : ℕ → List WaitingChannel → Option ℕ
place_waiting name waiting = place_from 0 name waiting

-- ---- a restore

-- the places of all channels in a table
abbrev pub places_of : Table → ChannelPlaces
places_of table = record { streams = table.channels.entries; names = table.names.entries }

-- There is a table with these places; or there is none.
abbrev pub PlacesAre : Option ChannelPlaces → Option Table → Type 0
PlacesAre None None = Unit {0}
PlacesAre (Some places) (Some table) = places ≡ places_of table
PlacesAre None (Some table) = ⊥
PlacesAre (Some places) None = ⊥
