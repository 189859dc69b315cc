-- Which names the calls of a socket with channels give, and what they report with them.
use Rattle.std.specs.Prelude.{◌≡◌, ◌⊎◌, ◌<◌, ◌≤◌, ℕ, ◌+◌, true, Option, Some, None, is_some, Result, Ok, List, [], ◌∷◌, ◌++◌, length}
use Rattle.dcsctp_channel_calls.specs.messages.channel_spec.declared.types.Role.{Role}
use Rattle.dcsctp_channel_calls.specs.messages.channel_spec.Contents.{ChannelContent}
use Rattle.dcsctp_channel_calls.specs.messages.channel_spec.Slots.{Opening, incoming, message}
use Rattle.dcsctp_channel_calls.specs.declared.channel.ChannelError.{ChannelError}
use Rattle.dcsctp_channel_calls.specs.declared.channel.ChannelId.{ChannelId}
use Rattle.dcsctp_channel_calls.specs.declared.channel.Limits.{Limits}
use Rattle.dcsctp_channel_calls.specs.View.{ChannelNotice, packet_out, of_channel, LayerView, ChannelsView, held_stream_numbered}
use Rattle.dcsctp_channel_calls.specs.Arrivals.{accepts_open}
use Rattle.dcsctp_channel_calls.specs.Calls.{on_layer, SocketConnects, SocketHandlesInput, SocketAdvances, SocketCloses, SocketShutsDown}
use Rattle.dcsctp_channel_calls.specs.Sending.{SendsContent, channel_closed, SetsChannelThreshold}
use Rattle.dcsctp_channel_calls.specs.Opening.{SetsRole, OpensChannel}
use Rattle.dcsctp_channel_calls.specs.Polls.{PollsAs}

-- ---- names

-- the names of channels that the peer has opened
abbrev pub names_given : List ChannelNotice → List ℕ
names_given [] = []
names_given (of_channel (incoming name opening) ∷ notices) = name ∷ names_given notices
names_given (notice ∷ notices) = names_given notices

-- Each is new where so many were given before, and so many have been given after all of them.
abbrev pub AreNew : ℕ → List ℕ → ℕ → Type 0
AreNew before [] after = before ≤ after
AreNew before (name ∷ names) after = (before ≤ name) × AreNew (name + 1) names after

-- None of these channels has longer texts than the limits allow, and no message more bytes.
abbrev pub AreWithin : Limits → List ChannelNotice → Type 0
AreWithin limits [] = Unit {0}
AreWithin limits (of_channel (incoming name opening) ∷ notices) = (length opening.label + length opening.protocol ≤ limits.text) × AreWithin limits notices
AreWithin limits (of_channel (message name content) ∷ notices) = (length content.bytes ≤ limits.message) × AreWithin limits notices
AreWithin limits (notice ∷ notices) = AreWithin limits notices

-- More is reported behind what there was. This is what there was and is now, and what was taken.
pub record Reports (old : LayerView) (taken : List ChannelNotice) (new : LayerView) : Type 0 where
  pub more : List ChannelNotice
  pub behind : taken ++ new.notices ≡ old.notices ++ more
  pub are_new : AreNew old.named (names_given more) new.named
  pub are_within : AreWithin old.limits more
  pub limits_stay : new.limits ≡ old.limits

-- ---- calls

pub data ChannelsCall : Type 0 where
  sets_role : Role → ChannelsCall
  connects : ChannelsCall
  handles_input : List ℕ → ChannelsCall
  advances : ℕ → ChannelsCall
  aborts : ChannelsCall
  shuts_down : ChannelsCall
  opens_channel : Opening → Option ℕ → Result ChannelId ChannelError → ChannelsCall
  sends_content : ℕ → ChannelContent → Result (Unit {0}) ChannelError → ChannelsCall
  closes_channel : ℕ → ChannelsCall
  sets_threshold : ℕ → ℕ → Result (Unit {0}) ChannelError → ChannelsCall

-- what such a call does, with such an answer
abbrev pub IsCallMade : ChannelsCall → ChannelsView → ChannelsView → Type 0
IsCallMade (sets_role role) old new = SetsRole role old new
IsCallMade connects old new = SocketConnects old new
IsCallMade (handles_input packet) old new = SocketHandlesInput packet old new
IsCallMade (advances moment) old new = SocketAdvances moment old new
IsCallMade aborts old new = SocketCloses old new
IsCallMade shuts_down old new = SocketShutsDown old new
IsCallMade (opens_channel opening negotiated answer) old new = OpensChannel opening negotiated answer old new
IsCallMade (sends_content name content answer) old new = SendsContent name content answer old new
IsCallMade (closes_channel name) old new = new ≡ on_layer (channel_closed name) old
IsCallMade (sets_threshold name bytes answer) old new = SetsChannelThreshold name bytes answer old new

abbrev pub WasPacket : ChannelNotice → Type 0
WasPacket (packet_out packet) = Unit {0}
WasPacket notice = ⊥

-- What a poll has taken of what is reported: a packet isn't of it.
abbrev pub WasTaken : Option ChannelNotice → List ChannelNotice → Type 0
WasTaken None taken = taken ≡ []
WasTaken (Some notice) taken = (taken ≡ notice ∷ []) ⊎ ((taken ≡ []) × WasPacket notice)

abbrev pub CallsGiveNewNames : Type 0
CallsGiveNewNames = (call : ChannelsCall) (old new : ChannelsView) → IsCallMade call old new → Reports old.layer [] new.layer

-- The name of an own channel is the next, and those that are given later are greater.
abbrev pub OpensGiveNewNames : Type 0
OpensGiveNewNames =
    (opening : Opening) (negotiated : Option ℕ) (id : ChannelId) (old new : ChannelsView) → OpensChannel opening negotiated (Ok id) old new
    → (id.0 ≡ old.layer.named) × (id.0 + 1 ≤ new.layer.named)

pub record PollReports (result : Option ChannelNotice) (old new : LayerView) : Type 0 where
  pub taken : List ChannelNotice
  pub was_taken : WasTaken result taken
  pub reports : Reports old taken new

abbrev pub PollsGiveNewNames : Type 0
PollsGiveNewNames = (result : Option ChannelNotice) (old new : ChannelsView) → PollsAs old result new → PollReports result old.layer new.layer

-- A channel of the peer is accepted where fewer streams are in use than the limits allow, or where its stream was in use.
abbrev pub OpensHaveRoom : Type 0
OpensHaveRoom =
    (layer : LayerView) (number : ℕ) (opening : Opening) → accepts_open layer number opening ≡ true → (length layer.streams < layer.limits.channels) ⊎ (is_some (held_stream_numbered layer number) ≡ true)
