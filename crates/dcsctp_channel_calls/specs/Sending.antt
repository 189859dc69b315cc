-- What is sent, and how (RFC 8831, section 6.6; RFC 8832, section 6); closes and thresholds.
use Rattle.std.specs.Prelude.{◌≡◌, ◌==◌, ◌<◌, ℕ, ◌+◌, ◌*◌, ◌^◌, min, Bool, true, false, not, ◌&&◌, Option, Some, None, Result, Ok, Err, List, [], ◌∷◌, ◌++◌, length, if◌then◌else◌}
use Rattle.std.specs.Duration.{as_nanos}
use Rattle.std.specs.declared.time.Duration.{Duration}
use Rattle.dcsctp_api.specs.types.Setting.{stream_low_threshold}
use Rattle.dcsctp_api.specs.types.queues.Messages.{MessageContent}
use Rattle.dcsctp_api.specs.types.declared.message.SendOptions.{SendOptions}
use Rattle.dcsctp_api.specs.declared.errors.SendError.{SendError}
use Rattle.dcsctp_api.specs.Calls.{UserView, Sets}
use Rattle.dcsctp_api.specs.Messages.{SendsMessage}
use Rattle.dcsctp_channel_messages.specs.channel_spec.declared.types.ChannelEnd.TheVariants.{Closed}
use Rattle.dcsctp_channel_messages.specs.channel_spec.declared.types.Reliability.{Reliability}
use Rattle.dcsctp_channel_messages.specs.channel_spec.declared.types.Reliability.TheVariants.{Reliable, Retransmissions, Lifetime}
use Rattle.dcsctp_channel_messages.specs.channel_spec.Contents.{ChannelContent, content_ppid, payload_of, control_ppid}
use Rattle.dcsctp_channel_messages.specs.channel_spec.Slots.{ended, SlotInput, is_closed}
use Rattle.dcsctp_channel_calls.specs.declared.channel.ChannelError.{ChannelError}
use Rattle.dcsctp_channel_calls.specs.declared.channel.HeldStream.{HeldStream}
use Rattle.dcsctp_channel_calls.specs.View.{WaitingChannel, ChannelNotice, of_channel, LayerView, ChannelsView, entry_numbered, entry_put, most_counted, held_stream_numbered, row_taken}
use Rattle.dcsctp_channel_calls.specs.declared.channel.ChannelError.TheVariants as errors

-- ---- how messages go out

-- more retransmissions than a socket counts are its most
abbrev pub retransmissions_of : Reliability → Option ℕ
retransmissions_of Reliable = None
retransmissions_of (Retransmissions limit) = Some (min limit 65535)
retransmissions_of (Lifetime millis) = None

-- a lifetime in milliseconds
abbrev pub IsLifetimeOf : Reliability → Option Duration → Type 0
IsLifetimeOf (Lifetime millis) (Some lifetime) = as_nanos lifetime ≡ millis * 1000000
IsLifetimeOf (Lifetime millis) None = ⊥
IsLifetimeOf reliability (Some lifetime) = ⊥
IsLifetimeOf reliability None = Unit {0}

-- Messages go in order until the peer knows the channel (RFC 8832, section 6), and are sent again as its OPEN says (RFC 8832,
-- section 5.1).
pub record IsSendingOn (held : HeldStream) (how : SendOptions) : Type 0 where
  pub unordered : how.unordered ≡ (held.stream.heard && not held.delivery.ordered)
  pub lifetime : IsLifetimeOf held.delivery.reliability how.lifetime
  pub limit : how.max_retransmissions ≡ retransmissions_of held.delivery.reliability
  pub unnamed : how.lifecycle_id ≡ None

-- Control messages are ordered and reliable (RFC 8832, section 6).
abbrev pub plainly : SendOptions
plainly = record { unordered = false; lifetime = None; max_retransmissions = None; lifecycle_id = None }

abbrev pub control_message : ℕ → List ℕ → MessageContent
control_message number payload = record { stream = number; ppid = control_ppid; payload = payload }

-- ---- a message is sent

abbrev pub stream_of_name : LayerView → ℕ → Option ℕ
stream_of_name layer name = entry_numbered name layer.names

abbrev pub stream_unless_closing : Bool → ℕ → HeldStream → Option (ℕ × HeldStream)
stream_unless_closing true number held = None
stream_unless_closing false number held = Some (number, held)

abbrev pub open_held : ℕ → Option HeldStream → Option (ℕ × HeldStream)
open_held number None = None
open_held number (Some held) = stream_unless_closing held.stream.closing number held

abbrev pub open_on : Option ℕ → LayerView → Option (ℕ × HeldStream)
open_on None layer = None
open_on (Some number) layer = open_held number (held_stream_numbered layer number)

-- the stream of a channel that is open
abbrev pub open_stream : LayerView → ℕ → Option (ℕ × HeldStream)
open_stream layer name = open_on (stream_of_name layer name) layer

abbrev pub counts_sent : ℕ → HeldStream → HeldStream
counts_sent bytes held =
    record held { traffic = record held.traffic { messages_sent = most_counted (held.traffic.messages_sent + 1); bytes_sent = most_counted (held.traffic.bytes_sent + bytes) } }

abbrev pub view_after_send : Result (Unit {0}) SendError → ℕ → ℕ → HeldStream → UserView → LayerView → ChannelsView
view_after_send (Ok done) number bytes held below layer = record { below = below; layer = record layer { streams = entry_put number (counts_sent bytes held) layer.streams } }
view_after_send (Err refusal) number bytes held below layer = record { below = below; layer = layer }

abbrev pub refusal_as : Result (Unit {0}) SendError → Result (Unit {0}) ChannelError
refusal_as (Ok done) = Ok done
refusal_as (Err refusal) = Err (errors.Refused refusal)

-- The socket takes the message on the channel's stream, and it is counted; or the socket refuses it.
pub record SendsOn (number : ℕ) (held : HeldStream) (content : ChannelContent) (answer : Result (Unit {0}) ChannelError) (old new : ChannelsView) : Type 0 where
  pub fits : number < 2 ^ 16
  pub how : SendOptions
  pub sending : IsSendingOn held how
  pub taken : Result (Unit {0}) SendError
  pub below : UserView
  pub sends : SendsMessage (record { stream = number; ppid = content_ppid content; payload = payload_of content }) how old.below (Ok taken) below
  pub answer_is : answer ≡ refusal_as taken
  pub is : new ≡ view_after_send taken number (length content.bytes) held below old.layer

abbrev pub SendsIfOpen : Option (ℕ × HeldStream) → ChannelContent → Result (Unit {0}) ChannelError → ChannelsView → ChannelsView → Type 0
SendsIfOpen None content answer old new = (answer ≡ Err errors.NotOpen) × (new ≡ old)
SendsIfOpen (Some found) content answer old new = SendsOn found.0 found.1 content answer old new

abbrev pub SendsContent : ℕ → ChannelContent → Result (Unit {0}) ChannelError → ChannelsView → ChannelsView → Type 0
SendsContent name content answer old new = SendsIfOpen (open_stream old.layer name) content answer old new

-- ---- close

abbrev pub without_waiting : ℕ → List WaitingChannel → List WaitingChannel
without_waiting name [] = []
without_waiting name (waits ∷ rest) = if waits.name == name then rest else waits ∷ without_waiting name rest

abbrev pub ends_waiting : ℕ → List WaitingChannel → List ChannelNotice
ends_waiting name [] = []
ends_waiting name (waits ∷ rest) = if waits.name == name then of_channel (ended name Closed) ∷ [] else ends_waiting name rest

abbrev pub row_taken_if_held : Option HeldStream → ℕ → SlotInput → LayerView → LayerView
row_taken_if_held None number input layer = layer
row_taken_if_held (Some held) number input layer = row_taken number held.delivery input layer

-- the row of a close on the channel's stream; one that waits has its end
abbrev pub layer_after_close : Option ℕ → ℕ → LayerView → LayerView
layer_after_close (Some number) name layer = row_taken_if_held (held_stream_numbered layer number) number is_closed layer
layer_after_close None name layer = record layer { waiting = without_waiting name layer.waiting; notices = layer.notices ++ ends_waiting name layer.waiting }

abbrev pub channel_closed : ℕ → LayerView → LayerView
channel_closed name layer = layer_after_close (stream_of_name layer name) name layer

-- ---- the threshold of a channel

pub record SetsThreshold (number bytes : ℕ) (old new : ChannelsView) : Type 0 where
  pub fits : number < 2 ^ 16
  pub below : UserView
  pub sets : Sets (stream_low_threshold number bytes) old.below (Ok tt) below
  pub is : new ≡ record old { below = below }

abbrev pub SetsThresholdIfOpen : Option ℕ → ℕ → Result (Unit {0}) ChannelError → ChannelsView → ChannelsView → Type 0
SetsThresholdIfOpen None bytes answer old new = (answer ≡ Err errors.NotOpen) × (new ≡ old)
SetsThresholdIfOpen (Some number) bytes answer old new = (answer ≡ Ok tt) × SetsThreshold number bytes old new

abbrev pub SetsChannelThreshold : ℕ → ℕ → Result (Unit {0}) ChannelError → ChannelsView → ChannelsView → Type 0
SetsChannelThreshold name bytes answer old new = SetsThresholdIfOpen (stream_of_name old.layer name) bytes answer old new
