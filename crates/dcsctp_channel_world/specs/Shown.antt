-- What a world shows of its two ends.
use Rattle.std.specs.Prelude.{ℕ, Bool, false, Option, Result, Ok, Err, List, [], ◌∷◌, map, Vec}
use Rattle.std.specs.declared.alloc.Global.{Global}
use Rattle.dcsctp_spec_runs.specs.Sockets.{Both, of_side}
use Rattle.dcsctp_channel_calls.specs.api.Calls.{UserView}
use Rattle.dcsctp_channel_calls.specs.api.types.declared.schedule.Side.{Side}
use Rattle.dcsctp_channel_calls.specs.messages.channel_spec.Slots.{Opening}
use Rattle.dcsctp_channel_calls.specs.declared.channel.ChannelError.{ChannelError}
use Rattle.dcsctp_channel_calls.specs.declared.channel.ChannelId.{ChannelId}
use Rattle.dcsctp_channel_calls.specs.declared.channel.Limits.{Limits}
use Rattle.dcsctp_channel_calls.specs.Notices.{opening_of}
use Rattle.dcsctp_channel_calls.specs.View.{LayerView, ChannelsView}
use Rattle.dcsctp_channels.specs.Layer.{layer_view, fresh_layer}
use Rattle.dcsctp_channel_laws.specs.Names.{opens_channel}
use Rattle.dcsctp_channel_runs.specs.Acts.{calls, OpenedChannel, channels_of_act, NamedContent}
use Rattle.dcsctp_channel_world.specs.declared.watched_end.ChannelMessage.{ChannelMessage}
use Rattle.dcsctp_channel_world.specs.declared.watched_end.EndedChannel.{EndedChannel}
use Rattle.dcsctp_channel_world.specs.declared.watched_end.NamedChannel.{NamedChannel}
use Rattle.dcsctp_channel_world.specs.declared.watched_end.WatchedEnd.{WatchedEnd}
use Rattle.dcsctp_channel_world.specs.Seen.{NamedEnd}

-- An end, and all that it ever showed, oldest first: the packets that polls gave; the channels that its user opened with an OPEN,
-- and those that came in; the messages that its user sent, and those that it read; the channels that are over.
pub record EndShown : Type 0 where
  pub view : ChannelsView
  pub packets : List (List ℕ)
  pub opened : List OpenedChannel
  pub incoming : List OpenedChannel
  pub sent : List NamedContent
  pub read : List NamedContent
  pub ended : List NamedEnd

-- two of these, and whether an allocation failed
pub record WorldShown : Type 0 where
  pub ends : Both EndShown
  pub failed : Bool

-- ---- what the code keeps

abbrev pub bytes_of : List (Vec ℕ Global) → List (List ℕ)
bytes_of packets = map (λ (packet : Vec ℕ Global). packet.items) packets

abbrev pub named_channel : NamedChannel → OpenedChannel
named_channel channel = record { name = channel.id.0; opening = opening_of channel.options }

abbrev pub named_content : ChannelMessage → NamedContent
named_content message = record { name = message.id.0; content = record { is_text = message.is_text; bytes = message.bytes.items } }

abbrev pub named_end : EndedChannel → NamedEnd
named_end channel = record { name = channel.id.0; why = channel.why }

-- an end by its parts: its socket, what the layer keeps beside it, and the lists
pub record EndParts (S : Type 0) : Type 0 where
  pub socket : S
  pub layer : LayerView
  pub packets : List (List ℕ)
  pub opened : List OpenedChannel
  pub incoming : List OpenedChannel
  pub sent : List NamedContent
  pub read : List NamedContent
  pub ended : List NamedEnd

abbrev pub parts_of_end : {S : Type 0} → WatchedEnd S → EndParts S
parts_of_end end =
    record {
      socket = end.channels.socket;
      layer = layer_view end.channels.layer;
      packets = bytes_of end.packets.items;
      opened = map named_channel end.opened.items;
      incoming = map named_channel end.incoming.items;
      sent = map named_content end.sent.items;
      read = map named_content end.read.items;
      ended = map named_end end.ended.items;
    }

abbrev pub parts_shown : {S : Type 0} → (S → UserView) → EndParts S → EndShown
parts_shown user_view parts =
    record {
      view = record { below = user_view parts.socket; layer = parts.layer };
      packets = parts.packets;
      opened = parts.opened;
      incoming = parts.incoming;
      sent = parts.sent;
      read = parts.read;
      ended = parts.ended;
    }

abbrev pub end_shown : {S : Type 0} → (S → UserView) → WatchedEnd S → EndShown
end_shown user_view end = parts_shown user_view (parts_of_end end)

abbrev pub both_shown : {S : Type 0} → (S → UserView) → WatchedEnd S → WatchedEnd S → Both EndShown
both_shown user_view a b = record { a = end_shown user_view a; b = end_shown user_view b }

-- what a world consists of
pub record WorldParts (S : Type 0) : Type 0 where
  pub a : EndParts S
  pub b : EndParts S
  pub failed : Bool

abbrev pub parts_of_world : {S : Type 0} → WatchedEnd S → WatchedEnd S → Bool → WorldParts S
parts_of_world a b failed = record { a = parts_of_end a; b = parts_of_end b; failed = failed }

abbrev pub world_shown : {S : Type 0} → (S → UserView) → WorldParts S → WorldShown
world_shown user_view world = record { ends = record { a = parts_shown user_view world.a; b = parts_shown user_view world.b }; failed = world.failed }

abbrev pub side_shown : {S : Type 0} → (S → UserView) → Side → WorldParts S → EndShown
side_shown user_view side world = of_side side (world_shown user_view world).ends

-- ---- what it is at first

-- an end over a socket that was just made
abbrev pub fresh_end : UserView → Limits → EndShown
fresh_end below limits =
    record { view = record { below = below; layer = fresh_layer limits }; packets = []; opened = []; incoming = []; sent = []; read = []; ended = [] }

abbrev pub fresh_channel_world : UserView → UserView → Limits → WorldShown
fresh_channel_world a b limits = record { ends = record { a = fresh_end a limits; b = fresh_end b limits }; failed = false }

-- ---- what an answer adds

-- what an answer of `open` adds
abbrev pub channels_opened : Opening → Option ℕ → Result ChannelId ChannelError → List OpenedChannel
channels_opened opening negotiated answer = channels_of_act (calls (opens_channel opening negotiated answer))

-- what an answer of `send` adds
abbrev pub messages_sent : Result (Unit {0}) ChannelError → NamedContent → List NamedContent
messages_sent (Ok done) message = message ∷ []
messages_sent (Err error) message = []
