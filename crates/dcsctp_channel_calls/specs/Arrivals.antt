-- What is done with a message of the peer (RFC 8831, section 6.6; RFC 8832, section 6).
use Rattle.std.specs.Prelude.{◌≡◌, ◌==◌, ◌<◌, ℕ, ◌+◌, ◌^◌, Bool, true, false, not, ◌&&◌, Option, Some, None, Result, Ok, Err, length, nat_lt, if◌then◌else◌}
use Rattle.dcsctp_api.specs.types.queues.Messages.{MessageContent}
use Rattle.dcsctp_api.specs.declared.errors.SendError.{SendError}
use Rattle.dcsctp_api.specs.Calls.{UserView, socket_state_of}
use Rattle.dcsctp_api.specs.Messages.{SendsMessage}
use Rattle.dcsctp_channel_messages.specs.channel_spec.declared.types.Reliability.TheVariants.{Reliable}
use Rattle.dcsctp_channel_messages.specs.channel_spec.declared.types.Role.{Role}
use Rattle.dcsctp_channel_messages.specs.channel_spec.Contents.{ChannelContent, control_ppid, content_from}
use Rattle.dcsctp_channel_messages.specs.channel_spec.Streams.{is_own}
use Rattle.dcsctp_channel_messages.specs.channel_spec.Slots.{Opening, SlotInput, StreamSlot, free, used, hears_open, hears_ack, hears_message, hears_bad_message, may_acknowledge}
use Rattle.dcsctp_channel_messages.specs.declared.control.ControlError.{ControlError}
use Rattle.dcsctp_channel_messages.specs.Format.{Control, open_message, control_of_bytes, acknowledgement, ack_bytes}
use Rattle.dcsctp_api.specs.spec.endpoint.Endpoint.{Core}
use Rattle.dcsctp_api.specs.declared.state.SocketState.{SocketState}
use Rattle.dcsctp_channel_messages.specs.channel_spec.declared.types.Delivery.{Delivery}
use Rattle.dcsctp_channel_messages.specs.channel_spec.declared.types.StreamUse.{StreamUse}
use Rattle.dcsctp_api.specs.declared.state.SocketState.TheVariants as states
use Rattle.dcsctp_channel_calls.specs.declared.channel.HeldStream.{HeldStream}
use Rattle.dcsctp_channel_calls.specs.View.{LayerView, ChannelsView, held_stream_numbered, row_taken, slot_numbered, may_reopen, has_stream}
use Rattle.dcsctp_channel_calls.specs.Calls.{on_layer}
use Rattle.dcsctp_channel_calls.specs.Sending.{plainly, control_message}
use Rattle.dcsctp_channel_calls.specs.Opening.{ReadiesStream}

-- ---- a message of the peer

abbrev pub is_peers : Option Role → ℕ → Bool
is_peers None number = false
is_peers (Some role) number = not (is_own role number)

-- is the stream free, and is there room for one more; or is it given again?
abbrev pub has_place : StreamSlot → LayerView → Bool
has_place free layer = nat_lt (length layer.streams) layer.limits.channels
has_place (used stream) layer = may_reopen stream

-- An OPEN is accepted where there is room, its text isn't too long, and the stream is the peer's to give.
abbrev pub accepts_open : LayerView → ℕ → Opening → Bool
accepts_open layer number opening =
    has_place (slot_numbered layer number) layer
    && not (nat_lt layer.limits.text (length opening.label + length opening.protocol))
    && is_peers layer.role number

abbrev pub input_of_control : LayerView → ℕ → Result Control ControlError → SlotInput
input_of_control layer number (Ok acknowledgement) = hears_ack
input_of_control layer number (Ok (open_message opening)) = hears_open (accepts_open layer number opening) layer.named opening
input_of_control layer number (Err error) = hears_bad_message

abbrev pub input_of_content : Bool → Option ChannelContent → SlotInput
input_of_content true content = hears_bad_message
input_of_content false None = hears_bad_message
input_of_content false (Some content) = hears_message content

-- what a message is to its stream
abbrev pub input_of : LayerView → MessageContent → SlotInput
input_of layer message =
    if message.ppid == control_ppid then input_of_control layer message.stream (control_of_bytes message.payload)
    else input_of_content (nat_lt layer.limits.message (length message.payload)) (content_from message.ppid message.payload)

-- Its stream gets its priority, and the channel its name.
pub record AcceptsOpen (number : ℕ) (opening : Opening) (old new : ChannelsView) : Type 0 where
  pub prepared : UserView
  pub prepares : ReadiesStream number opening.delivery.priority old.below prepared
  pub is : new ≡ record { below = prepared; layer = record (row_taken number opening.delivery (hears_open true old.layer.named opening) old.layer) { named = old.layer.named + 1 } }

-- how messages go where a stream comes into use only to be refused
abbrev pub plain_delivery : Delivery
plain_delivery = record { ordered = true; reliability = Reliable; priority = 256 }

abbrev pub delivery_of_input : SlotInput → Delivery
delivery_of_input (hears_open accepted name opening) = opening.delivery
delivery_of_input input = plain_delivery

abbrev pub message_taken : ℕ → SlotInput → LayerView → LayerView
message_taken number input layer = row_taken number (delivery_of_input input) input layer

abbrev pub TakesRow : ℕ → SlotInput → ChannelsView → ChannelsView → Type 0
TakesRow number (hears_open true name opening) old new = AcceptsOpen number opening old new
TakesRow number input old new = new ≡ on_layer (message_taken number input) old

-- ---- ACKs

abbrev pub is_open_now : Core → Bool
is_open_now core = is_open_state (socket_state_of core)
  where
    is_open_state : SocketState → Bool
    is_open_state states.Connected = true
    is_open_state state = false

abbrev pub owes_now : StreamUse → Bool
owes_now stream = stream.owes_ack && not stream.closing

abbrev pub ack_is_due : ChannelsView → HeldStream → Bool
ack_is_due view held = view.layer.has_room && is_open_now view.below.endpoint.core && owes_now held.stream

abbrev pub view_after_ack : Result (Unit {0}) SendError → ℕ → HeldStream → UserView → LayerView → ChannelsView
view_after_ack (Ok done) number held below layer = record { below = below; layer = row_taken number held.delivery may_acknowledge layer }
view_after_ack (Err refusal) number held below layer = record { below = below; layer = record layer { has_room = false } }

-- The ACK that a stream owes goes out; or the socket refuses it.
pub record SendsAck (number : ℕ) (held : HeldStream) (old new : ChannelsView) : Type 0 where
  pub fits : number < 2 ^ 16
  pub answer : Result (Unit {0}) SendError
  pub below : UserView
  pub sends : SendsMessage (control_message number ack_bytes) plainly old.below (Ok answer) below
  pub is : new ≡ view_after_ack answer number held below old.layer

abbrev pub AcksIfDue : Bool → ℕ → HeldStream → ChannelsView → ChannelsView → Type 0
AcksIfDue true number held old new = SendsAck number held old new
AcksIfDue false number held old new = new ≡ old

abbrev pub AcksHeld : Option HeldStream → ℕ → ChannelsView → ChannelsView → Type 0
AcksHeld None number old new = new ≡ old
AcksHeld (Some held) number old new = AcksIfDue (ack_is_due old held) number held old new

-- an ACK that this stream owes goes out at once, if there is room
abbrev pub AcksNow : ℕ → ChannelsView → ChannelsView → Type 0
AcksNow number old new = AcksHeld (held_stream_numbered old.layer number) number old new

-- A message is handled on a stream that both ends have. After the association's end none is: it is of another association.
abbrev pub is_handled : ChannelsView → ℕ → Bool
is_handled view number = not view.layer.over && has_stream view.below number

-- One that is handled takes its row, and an ACK goes out. Any other is dropped.
abbrev pub HandlesOrDropsMessage : Bool → MessageContent → ChannelsView → ChannelsView → Type 0
HandlesOrDropsMessage false message old new = new ≡ old
HandlesOrDropsMessage true message old new = (between : ChannelsView) × TakesRow message.stream (input_of old.layer message) old between × AcksNow message.stream between new

abbrev pub HandlesMessage : MessageContent → ChannelsView → ChannelsView → Type 0
HandlesMessage message old new = HandlesOrDropsMessage (is_handled old message.stream) message old new
