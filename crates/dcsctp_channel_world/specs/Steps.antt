-- What a step does to an end.
use Rattle.std.specs.Prelude.{◌≡◌, ℕ, Option, None, Some, is_some, Result, IfOk, OnErr, List, [], ◌∷◌, ◌++◌}
use Rattle.dcsctp_spec_runs.specs.Sockets.{Both, of_side, of_other, packet_at_number}
use Rattle.dcsctp_channel_calls.specs.api.declared.errors.SocketFault.{SocketFault}
use Rattle.dcsctp_channel_calls.specs.api.types.declared.schedule.Side.{Side}
use Rattle.dcsctp_channel_calls.specs.declared.channel.ChannelError.{ChannelError}
use Rattle.dcsctp_channel_calls.specs.declared.channel.ChannelId.{ChannelId}
use Rattle.dcsctp_channel_calls.specs.Notices.{opening_of}
use Rattle.dcsctp_channel_calls.specs.Polls.{PollsAs}
use Rattle.dcsctp_channel_calls.specs.View.{ChannelNotice, ChannelsView}
use Rattle.dcsctp_channel_laws.specs.Names.{ChannelsCall, sets_role, connects, handles_input, advances, aborts, shuts_down, opens_channel, sends_content, closes_channel, sets_threshold, IsCallMade}
use Rattle.dcsctp_channel_runs.specs.Acts.{EndAct, calls, polls, notices_of_act, packets_given, channels_reported, channels_of_act, messages_reported}
use Rattle.dcsctp_channel_world.specs.declared.step.EndCall.{EndCall}
use Rattle.dcsctp_channel_world.specs.declared.step.EndCall.TheVariants.{SetRole, Connect, AdvanceTime, Abort, Shutdown, Open, Send, Close, SetThreshold}
use Rattle.dcsctp_channel_world.specs.declared.step.EndReply.{EndReply}
use Rattle.dcsctp_channel_world.specs.declared.step.EndReply.TheVariants.{NoCall, Done, Opened, Answered, Polled}
use Rattle.dcsctp_channel_world.specs.declared.step.ChannelStep.{ChannelStep}
use Rattle.dcsctp_channel_world.specs.declared.step.ChannelStep.TheVariants.{Call, Deliver, Poll}
use Rattle.dcsctp_channel_world.specs.Seen.{messages_of_act, ends_reported}
use Rattle.dcsctp_channel_world.specs.Shown.{EndShown}

-- ---- one end

abbrev pub IsActMade : EndAct → ChannelsView → ChannelsView → Type 0
IsActMade (calls call) old new = IsCallMade call old new
IsActMade (polls notice) old new = PollsAs old notice new

-- An act was made, and what it shows was kept.
pub record DoesAct (act : EndAct) (old new : EndShown) : Type 0 where
  pub made : IsActMade act old.view new.view
  pub packets : new.packets ≡ old.packets ++ packets_given (notices_of_act act)
  pub opened : new.opened ≡ old.opened ++ channels_of_act act
  pub incoming : new.incoming ≡ old.incoming ++ channels_reported (notices_of_act act)
  pub sent : new.sent ≡ old.sent ++ messages_of_act act
  pub read : new.read ≡ old.read ++ messages_reported (notices_of_act act)
  pub ended : new.ended ≡ old.ended ++ ends_reported (notices_of_act act)

abbrev pub DoesCall : ChannelsCall → EndShown → EndShown → Type 0
DoesCall call old new = DoesAct (calls call) old new

-- A call of the user was made, and this was answered.
abbrev pub DoesCallOf : EndCall → EndReply → EndShown → EndShown → Type 0
DoesCallOf (SetRole role) reply old new = (reply ≡ Done) × DoesCall (sets_role role) old new
DoesCallOf Connect reply old new = (reply ≡ Done) × DoesCall connects old new
DoesCallOf (AdvanceTime now) reply old new = (reply ≡ Done) × DoesCall (advances now) old new
DoesCallOf Abort reply old new = (reply ≡ Done) × DoesCall aborts old new
DoesCallOf Shutdown reply old new = (reply ≡ Done) × DoesCall shuts_down old new
DoesCallOf (Open options) reply old new =
    (answer : Result ChannelId ChannelError) × (reply ≡ Opened answer) × DoesCall (opens_channel (opening_of options) options.negotiated answer) old new
DoesCallOf (Send id is_text bytes) reply old new =
    (answer : Result (Unit {0}) ChannelError) × (reply ≡ Answered answer) × DoesCall (sends_content id.0 (record { is_text = is_text; bytes = bytes.items }) answer) old new
DoesCallOf (Close id) reply old new = (reply ≡ Done) × DoesCall (closes_channel id.0) old new
DoesCallOf (SetThreshold id bytes) reply old new = (answer : Result (Unit {0}) ChannelError) × (reply ≡ Answered answer) × DoesCall (sets_threshold id.0 bytes answer) old new

-- This packet, if there is one, was handed in.
abbrev pub HandsInPacket : Option (List ℕ) → EndReply → EndShown → EndShown → Type 0
HandsInPacket None reply old new = (reply ≡ NoCall) × (new ≡ old)
HandsInPacket (Some packet) reply old new = (reply ≡ Done) × DoesCall (handles_input packet) old new

-- A notice was kept.
pub record KeepsNotice (notice : ChannelNotice) (old new : EndShown) : Type 0 where
  pub view : new.view ≡ old.view
  pub packets : new.packets ≡ old.packets ++ packets_given (notice ∷ [])
  pub opened : new.opened ≡ old.opened
  pub incoming : new.incoming ≡ old.incoming ++ channels_reported (notice ∷ [])
  pub sent : new.sent ≡ old.sent
  pub read : new.read ≡ old.read ++ messages_reported (notice ∷ [])
  pub ended : new.ended ≡ old.ended ++ ends_reported (notice ∷ [])

-- The user took what happened first, if there is something, and it was kept.
pub record TakesNext (reply : EndReply) (old new : EndShown) : Type 0 where
  pub notice : Option ChannelNotice
  pub answer : reply ≡ Polled (is_some notice)
  pub takes : DoesAct (polls notice) old new

-- A step was performed at its end, where polls of the other gave these packets.
abbrev pub PerformsStep : List (List ℕ) → ChannelStep → EndReply → EndShown → EndShown → Type 0
PerformsStep packets (Call side call) reply old new = DoesCallOf call reply old new
PerformsStep packets (Deliver side number) reply old new = HandsInPacket (packet_at_number number packets) reply old new
PerformsStep packets (Poll side) reply old new = TakesNext reply old new

-- No memory was left: what the end showed before it still shows.
abbrev pub KeepsLists : EndShown → EndShown → Type 0
KeepsLists old new = new ≡ record old { view = new.view }

-- ---- both

abbrev pub side_of_step : ChannelStep → Side
side_of_step (Call side call) = side
side_of_step (Deliver side number) = side
side_of_step (Poll side) = side

-- A step moved its own end, or an allocation failed there. The other is unchanged.
pub record MovesEnd (step : ChannelStep) (result : Result EndReply SocketFault) (old new : Both EndShown) : Type 0 where
  pub performs : IfOk result (λ reply. PerformsStep (of_other (side_of_step step) old).packets step reply (of_side (side_of_step step) old) (of_side (side_of_step step) new))
  pub keeps : OnErr result (KeepsLists (of_side (side_of_step step) old) (of_side (side_of_step step) new))
  pub other_stays : of_other (side_of_step step) new ≡ of_other (side_of_step step) old
