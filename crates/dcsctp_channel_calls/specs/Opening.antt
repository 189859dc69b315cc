-- How channels are opened, and get their streams (RFC 8832, section 6).
use Rattle.std.specs.Prelude.{◌≡◌, ◌≢◌, ◌<◌, ℕ, zero, suc, ◌+◌, ◌^◌, Bool, true, false, ◌&&◌, ◌||◌, Option, Some, None, is_some, Result, Ok, Err, List, [], ◌∷◌, ◌++◌, length, nat_lt, if◌then◌else◌}
use Rattle.dcsctp_api.specs.types.Setting.{stream_priority, stream_low_threshold}
use Rattle.dcsctp_api.specs.declared.errors.SendError.{SendError}
use Rattle.dcsctp_api.specs.Calls.{UserView, Sets}
use Rattle.dcsctp_api.specs.Messages.{SendsMessage}
use Rattle.dcsctp_channel_messages.specs.channel_spec.declared.types.ChannelEnd.TheVariants.{NoStream}
use Rattle.dcsctp_channel_messages.specs.channel_spec.declared.types.Reliability.TheVariants.{Reliable}
use Rattle.dcsctp_channel_messages.specs.channel_spec.declared.types.Role.{Role}
use Rattle.dcsctp_channel_messages.specs.channel_spec.Streams.{is_own}
use Rattle.dcsctp_channel_messages.specs.channel_spec.Slots.{Opening, ended, opens, agrees}
use Rattle.dcsctp_channel_messages.specs.declared.control.ControlError.{ControlError}
use Rattle.dcsctp_channel_messages.specs.Format.{Control, open_message, open_bytes, control_of_bytes}
use Rattle.dcsctp_channel_calls.specs.declared.channel.ChannelError.{ChannelError}
use Rattle.dcsctp_channel_calls.specs.declared.channel.ChannelId.{ChannelId}
use Rattle.dcsctp_channel_calls.specs.View.{WaitingChannel, of_channel, LayerView, ChannelsView, held_stream_numbered, row_taken, stream_count}
use Rattle.dcsctp_channel_calls.specs.declared.channel.ChannelError.TheVariants as errors
use Rattle.dcsctp_channel_calls.specs.Calls.{on_layer}
use Rattle.dcsctp_channel_calls.specs.Sending.{plainly, control_message}

-- ---- channels get their streams

-- a stream of this end's that both ends have, and that is free
pub record IsFreeStream (role : Role) (view : ChannelsView) (number : ℕ) : Type 0 where
  pub own : is_own role number ≡ true
  pub there : number < stream_count view.below
  pub is_free : held_stream_numbered view.layer number ≡ None

-- the stream that a channel gets, if there is one: the one that was agreed on, or the least that is free
abbrev pub GetsStream : Role → ChannelsView → Option ℕ → Option ℕ → Type 0
GetsStream role view (Some agreed) None = (agreed < stream_count view.below → held_stream_numbered view.layer agreed ≢ None)
GetsStream role view (Some agreed) (Some number) = (number ≡ agreed) × (agreed < stream_count view.below) × (held_stream_numbered view.layer agreed ≡ None)
GetsStream role view None None = (other : ℕ) → IsFreeStream role view other → ⊥
GetsStream role view None (Some number) = IsFreeStream role view number × ((other : ℕ) → other < number → IsFreeStream role view other → ⊥)

-- some peers say priority 0
abbrev pub priority_of : ℕ → ℕ
priority_of zero = 256
priority_of (suc priority) = suc priority

-- A stream gets its channel's priority, and the threshold 0.
pub record ReadiesStream (number priority : ℕ) (old new : UserView) : Type 0 where
  pub fits : number < 2 ^ 16
  pub between : UserView
  pub priority_set : Sets (stream_priority number (priority_of priority)) old (Ok tt) between
  pub threshold_set : Sets (stream_low_threshold number 0) between (Ok tt) new

-- what an OPEN says; any other message, that the channel is reliable and has no label
abbrev pub opening_in_result : Result Control ControlError → Opening
opening_in_result (Ok (open_message opening)) = opening
opening_in_result other = record { label = []; protocol = []; delivery = record { ordered = true; reliability = Reliable; priority = 256 } }

abbrev pub opening_said : List ℕ → Opening
opening_said payload = opening_in_result (control_of_bytes payload)

-- The channel has its stream, once its OPEN is sent. If the socket refuses that, it waits on.
abbrev pub view_after_open : Result (Unit {0}) SendError → ℕ → WaitingChannel → UserView → LayerView → ChannelsView
view_after_open (Ok done) number waits below layer = record { below = below; layer = row_taken number waits.delivery (opens waits.name (opening_said waits.payload)) layer }
view_after_open (Err refusal) number waits below layer = record { below = below; layer = record layer { has_room = false } }

abbrev pub is_taken : Result (Unit {0}) SendError → Bool
is_taken (Ok done) = true
is_taken (Err refusal) = false

-- did the channel begin?
pub record SendsOpen (number : ℕ) (waits : WaitingChannel) (begun : Bool) (old new : ChannelsView) : Type 0 where
  pub prepared : UserView
  pub prepares : ReadiesStream number waits.delivery.priority old.below prepared
  pub answer : Result (Unit {0}) SendError
  pub below : UserView
  pub sends : SendsMessage (control_message number waits.payload) plainly prepared (Ok answer) below
  pub begins : begun ≡ is_taken answer
  pub is : new ≡ view_after_open answer number waits below old.layer

pub record Agrees (number : ℕ) (waits : WaitingChannel) (old new : ChannelsView) : Type 0 where
  pub prepared : UserView
  pub prepares : ReadiesStream number waits.delivery.priority old.below prepared
  pub is : new ≡ record { below = prepared; layer = row_taken number waits.delivery (agrees waits.name) old.layer }

abbrev pub without_stream : ℕ → LayerView → LayerView
without_stream name layer = record layer { notices = layer.notices ++ of_channel (ended name NoStream) ∷ [] }

-- A channel gets this stream, or its end if there is none. Nothing is sent for one that both ends agreed on.
abbrev pub BeginsOn : WaitingChannel → Option ℕ → Option ℕ → Bool → ChannelsView → ChannelsView → Type 0
BeginsOn waits negotiated None begun old new = (begun ≡ true) × (new ≡ on_layer (without_stream waits.name) old)
BeginsOn waits (Some agreed) (Some number) begun old new = (begun ≡ true) × Agrees number waits old new
BeginsOn waits None (Some number) begun old new = SendsOpen number waits begun old new

pub record FirstBegins (role : Role) (waits : WaitingChannel) (begun : Bool) (old new : ChannelsView) : Type 0 where
  pub stream : Option ℕ
  pub gets : GetsStream role old waits.negotiated stream
  pub begins : BeginsOn waits waits.negotiated stream begun old new

abbrev pub channels_waiting : List WaitingChannel → LayerView → LayerView
channels_waiting waiting layer = record layer { waiting = waiting }

-- All that wait begin, oldest first, up to one whose OPEN the socket refuses.
pub data BeginsInTurn (role : Role) (new : ChannelsView) : ChannelsView → Type 0 where
  none_waits : (old : ChannelsView) → old.layer.waiting ≡ [] → new ≡ old → BeginsInTurn role new old
  begins : (old between : ChannelsView) (waits : WaitingChannel) (rest : List WaitingChannel) → old.layer.waiting ≡ waits ∷ rest
      → FirstBegins role waits true (on_layer (channels_waiting rest) old) between → BeginsInTurn role new between → BeginsInTurn role new old
  waits_on : (old between : ChannelsView) (waits : WaitingChannel) (rest : List WaitingChannel) → old.layer.waiting ≡ waits ∷ rest
      → FirstBegins role waits false (on_layer (channels_waiting rest) old) between → new ≡ on_layer (channels_waiting (waits ∷ rest)) between → BeginsInTurn role new old

abbrev pub BeginsAll : Role → ChannelsView → ChannelsView → Type 0
BeginsAll role old new = BeginsInTurn role new old

-- Nothing begins before the association and the role are known, nor while there is no room for an OPEN.
abbrev pub BeginsWhereKnown : Bool → Option Role → ChannelsView → ChannelsView → Type 0
BeginsWhereKnown true (Some role) old new = BeginsAll role old new
BeginsWhereKnown true None old new = new ≡ old
BeginsWhereKnown false role old new = new ≡ old

abbrev pub may_begin : LayerView → Bool
may_begin layer = layer.connected && layer.has_room

abbrev pub BeginsWaiting : ChannelsView → ChannelsView → Type 0
BeginsWaiting old new = BeginsWhereKnown (may_begin old.layer) old.layer.role old new

-- Channels that were opened before get their streams.
abbrev pub SetsRole : Role → ChannelsView → ChannelsView → Type 0
SetsRole role old new = BeginsWaiting (on_layer (λ layer. record layer { role = Some role }) old) new

-- ---- a channel is opened

abbrev pub most_text : ℕ
most_text = 65535

-- neither text is longer than its field can say, and the OPEN isn't longer than a message may be
abbrev pub is_too_long : UserView → Opening → Bool
is_too_long below opening =
    nat_lt most_text (length opening.label) || nat_lt most_text (length opening.protocol)
    || nat_lt below.endpoint.options.max_message_size (12 + length opening.label + length opening.protocol)

abbrev pub is_in_use : Option ℕ → LayerView → Bool
is_in_use None layer = false
is_in_use (Some number) layer = is_some (held_stream_numbered layer number)

-- the first of these reasons
abbrev pub open_refusal : Opening → Option ℕ → ChannelsView → Option ChannelError
open_refusal opening negotiated view =
    if view.layer.over then Some errors.Ended
    else (if is_too_long view.below opening then Some errors.TooLong
    else (if is_in_use negotiated view.layer then Some errors.StreamInUse
    else None))

-- the name is the next one, and the channel waits behind the others
abbrev pub named_next : Opening → Option ℕ → LayerView → LayerView
named_next opening negotiated layer =
    record layer { named = layer.named + 1; waiting = layer.waiting ++ record { name = layer.named; payload = open_bytes opening; delivery = opening.delivery; negotiated = negotiated } ∷ [] }

abbrev pub OpensOrRefuses : Opening → Option ℕ → Option ChannelError → Result ChannelId ChannelError → ChannelsView → ChannelsView → Type 0
OpensOrRefuses opening negotiated None (Ok id) old new = (id.0 ≡ old.layer.named) × BeginsWaiting (on_layer (named_next opening negotiated) old) new
OpensOrRefuses opening negotiated (Some refusal) (Err error) old new = (error ≡ refusal) × (new ≡ old)
OpensOrRefuses opening negotiated refusal answer old new = ⊥

abbrev pub OpensChannel : Opening → Option ℕ → Result ChannelId ChannelError → ChannelsView → ChannelsView → Type 0
OpensChannel opening negotiated answer old new = OpensOrRefuses opening negotiated (open_refusal opening negotiated old) answer old new
