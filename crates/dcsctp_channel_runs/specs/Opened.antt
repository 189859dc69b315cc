-- A channel that comes in was opened by the other end, and what is read was sent: on the same channel.
use Rattle.std.specs.Prelude.{◌≡◌, ◌≢◌, ◌⊎◌, ◌<◌, ℕ, Some, List, [], ◌∷◌, slice_get}
use Rattle.dcsctp_delivery_directions.specs.receiving.Ready.{AreDistinct}
use Rattle.dcsctp_delivery_directions.specs.sending.Places.{HasEntry}
use Rattle.dcsctp_spec_runs.specs.Sockets.{Both}
use Rattle.dcsctp_channel_calls.specs.declared.channel.ChannelState.TheVariants.{Connecting, Closed}
use Rattle.dcsctp_channel_calls.specs.messages.channel_spec.Contents.{ChannelContent}
use Rattle.dcsctp_channel_calls.specs.Queries.{channel_state}
use Rattle.dcsctp_channel_calls.specs.View.{LayerView, ChannelsView}
use Rattle.dcsctp_channel_runs.specs.Acts.{EndAct, MadeAct, acts_of_ends, notices_of, OpenedChannel, channels_reported, contents_named, contents_on, messages_reported, channels_of, SaidContent, said_at_ends}

-- ---- what is read was sent

-- Each was sent, at its place in the order of sending, as this says.
abbrev pub WereSaid : (SaidContent → ChannelContent → Type 0) → List SaidContent → List ℕ → List ChannelContent → Type 0
WereSaid IsFrom said [] [] = Unit {0}
WereSaid IsFrom said [] (content ∷ contents) = ⊥
WereSaid IsFrom said (place ∷ places) [] = ⊥
WereSaid IsFrom said (place ∷ places) (content ∷ contents) =
    ((one : SaidContent) × (slice_get said place ≡ Some one) × IsFrom one content) × WereSaid IsFrom said places contents

-- Each of these places stands so to each later one.
abbrev pub EachToLater : (ℕ → ℕ → Type 0) → List ℕ → Type 0
EachToLater Stand [] = Unit {0}
EachToLater Stand (place ∷ places) = ((later : ℕ) → HasEntry later places → Stand place later) × EachToLater Stand places

-- it is another,
abbrev pub IsSaidApart : ℕ → ℕ → Type 0
IsSaidApart place later = place ≢ later

-- or it comes before in the order of sending
abbrev pub IsSaidBefore : ℕ → ℕ → Type 0
IsSaidBefore place later = place < later

-- What was read was sent, and its places in the order of sending stand so: none of it was read twice, or it was read in this order.
pub record WereHeard (Stand : ℕ → ℕ → Type 0) (IsFrom : SaidContent → ChannelContent → Type 0) (said : List SaidContent) (heard : List ChannelContent) : Type 0 where
  pub places : List ℕ
  pub were_said : WereSaid IsFrom said places heard
  pub stand : EachToLater Stand places

-- on whatever channel
abbrev pub HasContent : SaidContent → ChannelContent → Type 0
HasContent one content = one.message.content ≡ content

-- on this channel
pub record IsSentOn (name : ℕ) (one : SaidContent) (content : ChannelContent) : Type 0 where
  pub content_is : one.message.content ≡ content
  pub on : one.message.name ≡ name

-- The channel waits for its stream, or is closed, or wasn't opened yet.
abbrev pub HasNoStream : LayerView → ℕ → Type 0
HasNoStream layer name = (channel_state layer name ≡ Connecting) ⊎ (channel_state layer name ≡ Closed)

-- on another channel while this one had no stream, and one of the two is closed now
pub record IsSentApart (now : LayerView) (name : ℕ) (one : SaidContent) : Type 0 where
  pub no_stream : HasNoStream one.after name
  pub closed : (channel_state now name ≡ Closed) ⊎ (channel_state now one.message.name ≡ Closed)

-- on this channel, or so
pub record IsSentOnOrApart (now : LayerView) (name : ℕ) (one : SaidContent) (content : ChannelContent) : Type 0 where
  pub content_is : one.message.content ≡ content
  pub on : (one.message.name ≡ name) ⊎ IsSentApart now name one

-- ---- on one channel

-- what the user of an end did, sent and was told, and what the end is then
pub record EndSoFar : Type 0 where
  pub acts : List EndAct
  pub said : List SaidContent
  pub layer : LayerView

-- what was read on a channel
abbrev pub heard_on : ℕ → List EndAct → List ChannelContent
heard_on name acts = contents_on name (messages_reported (notices_of acts))

-- No channel of this end is closed: each that was named waits for its stream, is open, or is closing.
abbrev pub NoneIsClosed : LayerView → Type 0
NoneIsClosed layer = (name : ℕ) → name < layer.named → channel_state layer name ≢ Closed

-- The sender calls a channel by the first name, and the reader by the second. What was read on it was sent, once or in order: on this
-- channel, or while this one had no stream on another, and then one of the two is closed. While no channel of the sender is
-- closed, so that no stream was given to two, it was sent on this channel.
pub record CarriesContents (Stand : ℕ → ℕ → Type 0) (sender : EndSoFar) (there : ℕ) (reader : EndSoFar) (here : ℕ) : Type 0 where
  pub known : WereHeard Stand (IsSentOnOrApart sender.layer there) sender.said (heard_on here reader.acts)
  pub alone : NoneIsClosed sender.layer → WereHeard Stand (IsSentOn there) sender.said (heard_on here reader.acts)

-- Each way.
pub record IsOneChannel (Stand : ℕ → ℕ → Type 0) (ours theirs : EndSoFar) (here there : ℕ) : Type 0 where
  pub from_other : CarriesContents Stand theirs there ours here
  pub to_other : CarriesContents Stand ours here theirs there

-- ---- channels that come in

-- Each of the channels that came in is one that was opened under this name at the other end, with the same label, protocol and
-- rules.
abbrev pub HaveOpeners : (OpenedChannel → ℕ → Type 0) → List OpenedChannel → List ℕ → List OpenedChannel → Type 0
HaveOpeners IsOne opened [] [] = Unit {0}
HaveOpeners IsOne opened [] (channel ∷ incoming) = ⊥
HaveOpeners IsOne opened (name ∷ names) [] = ⊥
HaveOpeners IsOne opened (name ∷ names) (channel ∷ incoming) =
    HasEntry (record { name = name; opening = channel.opening }) opened × IsOne channel name × HaveOpeners IsOne opened names incoming

-- Each was opened, and no two of them are one at the other end.
pub record WereOpened (IsOne : OpenedChannel → ℕ → Type 0) (opened incoming : List OpenedChannel) : Type 0 where
  pub names : List ℕ
  pub openers : HaveOpeners IsOne opened names incoming
  pub once : AreDistinct names

-- ---- both

abbrev pub so_far : List MadeAct → Both ChannelsView → Both EndSoFar
so_far run views =
    record {
      a = record { acts = (acts_of_ends run).a; said = (said_at_ends run).a; layer = views.a.layer };
      b = record { acts = (acts_of_ends run).b; said = (said_at_ends run).b; layer = views.b.layer };
    }

-- What an end is told of the other: the channels that come in were opened by the other user, each once, and such a channel carries
-- what is sent on it, each message once. What is read on channels, also on those that were agreed on, was sent on channels by the
-- other user, once.
pub record HearsOther (ours theirs : EndSoFar) : Type 0 where
  pub incoming : WereOpened (λ channel there. IsOneChannel IsSaidApart ours theirs channel.name there) (channels_of theirs.acts) (channels_reported (notices_of ours.acts))
  pub contents : WereHeard IsSaidApart HasContent theirs.said (contents_named (messages_reported (notices_of ours.acts)))

-- What a channel carries is read in order, each way. And while the channel isn't closed at the end that opened it, what the other end
-- has read on it was sent on it, also where its stream had other channels.
pub record IsReadInOrder (ours theirs : EndSoFar) (here there : ℕ) : Type 0 where
  pub channel : IsOneChannel IsSaidBefore ours theirs here there
  pub since : channel_state theirs.layer there ≢ Closed → WereHeard IsSaidBefore (IsSentOn there) theirs.said (heard_on here ours.acts)

-- So it is of the channels that come in.
abbrev pub AreReadInOrder : EndSoFar → EndSoFar → Type 0
AreReadInOrder ours theirs = WereOpened (λ channel there. IsReadInOrder ours theirs channel.name there) (channels_of theirs.acts) (channels_reported (notices_of ours.acts))
