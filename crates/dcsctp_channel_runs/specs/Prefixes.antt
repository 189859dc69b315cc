-- What was read on an ordered and reliable channel is a prefix of what was sent on it.
use Rattle.std.specs.Prelude.{◌≡◌, ◌≢◌, ◌⊎◌, ◌<◌, ◌==◌, ◌||◌, ◌++◌, ℕ, Bool, true, nat_lt, Option, Some, None, List, slice_get}
use Rattle.std.specs.List.{AllByRecursion}
use Rattle.dcsctp_delivery_directions.specs.sending.Places.{HasEntry}
use Rattle.dcsctp_channel_calls.specs.declared.channel.ChannelState.TheVariants.{Closed}
use Rattle.dcsctp_channel_calls.specs.declared.channel.HeldStream.{HeldStream}
use Rattle.dcsctp_channel_calls.specs.messages.channel_spec.Contents.{ChannelContent}
use Rattle.dcsctp_channel_calls.specs.messages.channel_spec.declared.types.Delivery.{Delivery}
use Rattle.dcsctp_channel_calls.specs.messages.channel_spec.declared.types.Reliability.TheVariants.{Reliable}
use Rattle.dcsctp_channel_calls.specs.Queries.{channel_state}
use Rattle.dcsctp_channel_calls.specs.Sending.{stream_of_name}
use Rattle.dcsctp_channel_calls.specs.View.{LayerView, held_stream_numbered, streams_if_connected}
use Rattle.dcsctp_channel_calls.specs.api.types.declared.options.Options.{Options}
use Rattle.dcsctp_channel_calls.specs.api.spec.endpoint.CallTurns.{Transition}
use Rattle.dcsctp_channel_calls.specs.api.spec.endpoint.Endpoint.{Endpoint, held_by_core}
use Rattle.dcsctp_spec_runs.specs.Sockets.{endpoint_after}
use Rattle.dcsctp_channel_runs.specs.Acts.{OpenedChannel, notices_of, channels_reported, channels_of, SaidContent}
use Rattle.dcsctp_channel_runs.specs.Opened.{WereSaid, WereHeard, EachToLater, IsSaidBefore, IsSentOn, EndSoFar, heard_on, WereOpened}

-- ---- rules

-- how messages go on this stream, if it is in use
abbrev pub rules_held : Option HeldStream → Option Delivery
rules_held None = None
rules_held (Some held) = Some held.delivery

abbrev pub rules_on : LayerView → ℕ → Option Delivery
rules_on layer number = rules_held (held_stream_numbered layer number)

-- Messages go in order, and each is sent again until it has arrived.
pub record IsOrderedAndReliable (rules : Delivery) : Type 0 where
  pub ordered : rules.ordered ≡ true
  pub reliable : rules.reliability ≡ Reliable

-- If the message was sent on this stream, it was sent on this channel, or on another that is ordered and had the stream before.
abbrev pub IsSentInOrder : ℕ → ℕ → SaidContent → Type 0
IsSentInOrder number name one =
    stream_of_name one.after one.message.name ≡ Some number → (one.message.name ≡ name) ⊎ ((rules : Delivery) → rules_on one.after number ≡ Some rules → rules.ordered ≡ true)

-- ---- streams of a socket

-- how many streams go both ways
abbrev pub streams_both_ways : Endpoint → ℕ
streams_both_ways e = streams_if_connected (held_by_core e.core) e.queues.transfer

-- Do both ends have the stream, or is there no association?
abbrev pub knows_stream : Endpoint → ℕ → Bool
knows_stream e number = streams_both_ways e == 0 || nat_lt number (streams_both_ways e)

-- Whenever the socket had an association in these turns, both ends had the stream.
abbrev pub AlwaysKnowsStream : Options → List Transition → ℕ → Type 0
AlwaysKnowsStream options turns number = (earlier later : List Transition) → turns ≡ earlier ++ later → knows_stream (endpoint_after options earlier) number ≡ true

-- ---- prefixes

-- A message was sent on this channel, at this place in the order of sending.
pub record IsSaidOnChannel (name : ℕ) (said : List SaidContent) (place : ℕ) : Type 0 where
  pub one : SaidContent
  pub at : slice_get said place ≡ Some one
  pub on : one.message.name ≡ name

-- What was read was sent on this channel, in this order. And none that was sent on it is missing before one that was read.
pub record IsPrefixOfSaid (name : ℕ) (said : List SaidContent) (heard : List ChannelContent) : Type 0 where
  pub places : List ℕ
  pub were_said : WereSaid (IsSentOn name) said places heard
  pub in_order : EachToLater IsSaidBefore places
  pub no_gap : (earlier later : ℕ) → HasEntry later places → IsSaidOnChannel name said earlier → earlier < later → HasEntry earlier places

-- What is read on an ordered and reliable channel is a prefix of what was sent on it, while the channel isn't closed at the end that
-- opened it, if the reading end always knew its stream, and no channel was unordered that had the stream before.
pub record IsReadWhole (Knows : ℕ → Type 0) (ours theirs : EndSoFar) (channel : OpenedChannel) (there : ℕ) : Type 0 where
  pub prefix : IsOrderedAndReliable channel.opening.delivery → channel_state theirs.layer there ≢ Closed
      → ((number : ℕ) → stream_of_name theirs.layer there ≡ Some number → Knows number × AllByRecursion (IsSentInOrder number there) theirs.said)
      → IsPrefixOfSaid there theirs.said (heard_on channel.name ours.acts)

-- So it is of the channels that come in.
abbrev pub AreReadWhole : (ℕ → Type 0) → EndSoFar → EndSoFar → Type 0
AreReadWhole Knows ours theirs = WereOpened (IsReadWhole Knows ours theirs) (channels_of theirs.acts) (channels_reported (notices_of ours.acts))

-- ---- order by channel

-- What is read on an ordered channel was sent on it, in this order, while the channel isn't closed at the end that opened it, if no
-- channel was unordered that had its stream before. Other channels may be unordered.
pub record IsReadByRules (ours theirs : EndSoFar) (channel : OpenedChannel) (there : ℕ) : Type 0 where
  pub in_order : channel.opening.delivery.ordered ≡ true → channel_state theirs.layer there ≢ Closed
      → ((number : ℕ) → stream_of_name theirs.layer there ≡ Some number → AllByRecursion (IsSentInOrder number there) theirs.said)
      → WereHeard IsSaidBefore (IsSentOn there) theirs.said (heard_on channel.name ours.acts)

abbrev pub AreReadByRules : EndSoFar → EndSoFar → Type 0
AreReadByRules ours theirs = WereOpened (IsReadByRules ours theirs) (channels_of theirs.acts) (channels_reported (notices_of ours.acts))
