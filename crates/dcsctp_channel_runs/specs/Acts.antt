-- What users of channels do at two ends, and what they see.
use Rattle.std.specs.Prelude.{◌==◌, ◌<◌, ◌^◌, ℕ, Option, Some, None, Ok, List, [], ◌∷◌, ◌++◌, length, map, if◌then◌else◌}
use Rattle.std.specs.List.{AllByRecursion}
use Rattle.dcsctp_spec_runs.specs.Sockets.{Both}
use Rattle.dcsctp_channel_calls.specs.api.types.declared.schedule.Side.{Side}
use Rattle.dcsctp_channel_calls.specs.api.types.declared.schedule.Side.TheVariants as sides
use Rattle.dcsctp_channel_calls.specs.messages.channel_spec.Contents.{ChannelContent}
use Rattle.dcsctp_channel_calls.specs.messages.channel_spec.Slots.{Opening, incoming, message}
use Rattle.dcsctp_channel_calls.specs.messages.Format.{reliability_parameter}
use Rattle.dcsctp_channel_calls.specs.View.{ChannelNotice, packet_out, of_channel, LayerView, ChannelsView}
use Rattle.dcsctp_channel_laws.specs.Names.{ChannelsCall, opens_channel, sends_content}

-- ---- acts

-- a call of the user with its answer, or a poll with what it gave
pub data EndAct : Type 0 where
  calls : ChannelsCall → EndAct
  polls : Option ChannelNotice → EndAct

-- an act, the end at which it happened, and what it left there
pub record MadeAct : Type 0 where
  pub side : Side
  pub act : EndAct
  pub after : ChannelsView

-- what is the case at both ends, with this in place of one end's
abbrev pub with_end : {T : Type 0} → Side → T → Both T → Both T
with_end sides.A new both = record both { a = new }
with_end sides.B new both = record both { b = new }

abbrev pub acts_with : Side → EndAct → Both (List EndAct) → Both (List EndAct)
acts_with sides.A act acts = record acts { a = acts.a ++ act ∷ [] }
acts_with sides.B act acts = record acts { b = acts.b ++ act ∷ [] }

-- the acts of each end, oldest first; those of a run come newest first
abbrev pub acts_of_ends : List MadeAct → Both (List EndAct)
acts_of_ends [] = record { a = []; b = [] }
acts_of_ends (made ∷ earlier) = acts_with made.side made.act (acts_of_ends earlier)

-- ---- what a user was given

abbrev pub notices_of_act : EndAct → List ChannelNotice
notices_of_act (polls (Some notice)) = notice ∷ []
notices_of_act act = []

abbrev pub notices_of : List EndAct → List ChannelNotice
notices_of [] = []
notices_of (act ∷ acts) = notices_of_act act ++ notices_of acts

abbrev pub packets_given : List ChannelNotice → List (List ℕ)
packets_given [] = []
packets_given (packet_out packet ∷ notices) = packet ∷ packets_given notices
packets_given (notice ∷ notices) = packets_given notices

-- a channel by its name at one end, and what its OPEN says
pub record OpenedChannel : Type 0 where
  pub name : ℕ
  pub opening : Opening

-- the channels that the peer has opened
abbrev pub channels_reported : List ChannelNotice → List OpenedChannel
channels_reported [] = []
channels_reported (of_channel (incoming name opening) ∷ notices) = record { name = name; opening = opening } ∷ channels_reported notices
channels_reported (notice ∷ notices) = channels_reported notices

-- a message of a user, with the name of its channel at this end
pub record NamedContent : Type 0 where
  pub name : ℕ
  pub content : ChannelContent

abbrev pub contents_named : List NamedContent → List ChannelContent
contents_named messages = map (λ (named : NamedContent). named.content) messages

-- those on this channel
abbrev pub contents_on : ℕ → List NamedContent → List ChannelContent
contents_on name [] = []
contents_on name (first ∷ messages) = if first.name == name then first.content ∷ contents_on name messages else contents_on name messages

-- what was read
abbrev pub messages_reported : List ChannelNotice → List NamedContent
messages_reported [] = []
messages_reported (of_channel (message name content) ∷ notices) = record { name = name; content = content } ∷ messages_reported notices
messages_reported (notice ∷ notices) = messages_reported notices

-- ---- what a user did

-- The user opened a channel with an OPEN: not on a stream that both ends agreed on.
abbrev pub channels_of_act : EndAct → List OpenedChannel
channels_of_act (calls (opens_channel opening None (Ok id))) = record { name = id.0; opening = opening } ∷ []
channels_of_act act = []

abbrev pub channels_of : List EndAct → List OpenedChannel
channels_of [] = []
channels_of (act ∷ acts) = channels_of_act act ++ channels_of acts

-- a message that `send` accepted, and what the end was right after
pub record SaidContent : Type 0 where
  pub message : NamedContent
  pub after : LayerView

abbrev pub said_contents : EndAct → LayerView → List SaidContent
said_contents (calls (sends_content name content (Ok done))) after = record { message = record { name = name; content = content }; after = after } ∷ []
said_contents act after = []

abbrev pub said_with : Side → List SaidContent → Both (List SaidContent) → Both (List SaidContent)
said_with sides.A more said = record said { a = said.a ++ more }
said_with sides.B more said = record said { b = said.b ++ more }

-- what the users sent on channels, oldest first; the acts of a run come newest first
abbrev pub said_at_ends : List MadeAct → Both (List SaidContent)
said_at_ends [] = record { a = []; b = [] }
said_at_ends (made ∷ earlier) = said_with made.side (said_contents made.act made.after.layer) (said_at_ends earlier)

-- ---- what has its type

abbrev pub AreByteValues : List ℕ → Type 0
AreByteValues bytes = AllByRecursion (λ byte. byte < 2 ^ 8) bytes

-- Each byte is one, and each number has its type.
pub record IsInMemory (opening : Opening) : Type 0 where
  pub label : AreByteValues opening.label
  pub protocol : AreByteValues opening.protocol
  pub priority : opening.delivery.priority < 2 ^ 16
  pub parameter : reliability_parameter opening.delivery.reliability < 2 ^ 32

-- No object in memory has 2^63 bytes.
pub record FitsChannelContent (content : ChannelContent) : Type 0 where
  pub bytes : AreByteValues content.bytes
  pub size : length content.bytes < 2 ^ 63

abbrev pub FitsEndCall : ChannelsCall → Type 0
FitsEndCall (opens_channel opening negotiated answer) = IsInMemory opening
FitsEndCall (sends_content name content answer) = FitsChannelContent content
FitsEndCall call = Unit {0}

abbrev pub FitsEndAct : EndAct → Type 0
FitsEndAct (calls call) = FitsEndCall call
FitsEndAct (polls notice) = Unit {0}

-- What users hand over is in memory.
abbrev pub AllInMemory : List MadeAct → Type 0
AllInMemory run = AllByRecursion (λ made. FitsEndAct made.act) run
