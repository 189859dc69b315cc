-- What a handover keeps of channels.
use Rattle.std.specs.Prelude.{◌≡◌, ℕ, true, Some, Ok}
use Rattle.dcsctp_channel_laws.specs.Lives.{IsOrderly, life_of_channel}
use Rattle.dcsctp_channel_calls.specs.api.types.Snapshot.{Snapshot, snapshot}
use Rattle.dcsctp_channel_calls.specs.Queries.{channel_state}
use Rattle.dcsctp_channel_calls.specs.View.{LayerView, ChannelsView}
use Rattle.dcsctp_channel_calls.specs.declared.channel.ChannelState.TheVariants.{Closed}
use Rattle.dcsctp_channel_calls.specs.declared.handover.ChannelsHandoverState.{ChannelsHandoverState}
use Rattle.dcsctp_channel_calls.specs.Handover.{ChannelsPart, channels_part, ChannelPlaces, HandsOverChannels, is_valid_below, is_unused, places_restored, layer_restored, RestoresChannels}

-- Each channel is in one place, and its name was given; as many names were given as the snapshot says.
abbrev pub RestoredAreOrderly : Type 0
RestoredAreOrderly =
    (state : Snapshot) (part : ChannelsPart) (old new : ChannelsView) → RestoresChannels state part (Ok tt) old new → IsOrderly new.layer × (new.layer.named ≡ part.named)

-- Where they were no channel is there any more.
abbrev pub HandedOverAreGone : Type 0
HandedOverAreGone =
    (state : ChannelsHandoverState) (old new : ChannelsView) → HandsOverChannels (Ok state) old new → IsOrderly new.layer × ((name : ℕ) → channel_state new.layer name ≡ Closed)

-- The snapshot has places for its channels, and each has the life that it had: it lasts, is over, or isn't named yet.
pub record GoesOn (state : ChannelsHandoverState) (old : LayerView) (other : ChannelsView) : Type 0 where
  pub places : ChannelPlaces
  pub are : places_restored (snapshot state.socket) (channels_part state.channels) other ≡ Some places
  pub lives : (name : ℕ) → life_of_channel (layer_restored (channels_part state.channels) places other.layer) name ≡ life_of_channel old name

abbrev pub HandedOverGoOn : Type 0
HandedOverGoOn =
    (state : ChannelsHandoverState) (old new other : ChannelsView) → HandsOverChannels (Ok state) old new → IsOrderly old.layer → is_unused other ≡ true
    → is_valid_below (snapshot state.socket) other ≡ true → GoesOn state old.layer other
