-- What the calls of a socket with channels do: the call of its layer takes place, what was taken is kept, and the status
-- says how it ended.
use Rattle.std.specs.Prelude.{◌≡◌, ◌==◌, ◌⊎◌, ◌||◌, ℕ, zero, suc, ℤ, pos, negsuc, Bool, true, false, if◌then◌else◌, Option, Some, None, Result, Ok, Err, List}
use Rattle.dcsctp_session.specs.Status.{fault_status, done_status, send_error_status, answer_status}
use Rattle.dcsctp_session.specs.declared.status.Status.{Status}
use Rattle.dcsctp_session.specs.declared.status.Status.TheVariants as statuses
use Rattle.dcsctp_channel_calls.specs.Calls.{Answers, SocketConnects, SocketHandlesInput, SocketAdvances, SocketCloses, SocketShutsDown, on_layer}
use Rattle.dcsctp_channel_calls.specs.Opening.{SetsRole, OpensChannel}
use Rattle.dcsctp_channel_calls.specs.Sending.{SendsContent, channel_closed, SetsChannelThreshold}
use Rattle.dcsctp_channel_calls.specs.View.{ChannelsView}
use Rattle.dcsctp_channel_calls.specs.api.Calls.{with_setting}
use Rattle.dcsctp_channel_calls.specs.api.declared.errors.SocketFault.{SocketFault}
use Rattle.dcsctp_channel_calls.specs.api.types.Setting.{longest_message}
use Rattle.dcsctp_channel_calls.specs.declared.channel.ChannelError.{ChannelError}
use Rattle.dcsctp_channel_calls.specs.declared.channel.ChannelError.TheVariants as errors
use Rattle.dcsctp_channel_calls.specs.declared.channel.ChannelId.{ChannelId}
use Rattle.dcsctp_channel_calls.specs.messages.channel_spec.declared.types.Role.{Role}
use Rattle.dcsctp_channel_calls.specs.messages.channel_spec.declared.types.Role.TheVariants.{Client, Server}
use Rattle.dcsctp_channel_session.specs.Options.{has_channel_options_size, says_channel, has_long_text, opening_of_numbers, stream_said}
use Rattle.dcsctp_channel_session.specs.Views.{channels_view, channel_number, name_of}
use Rattle.dcsctp_channel_session.specs.declared.options.ChannelOptionsRecord.{ChannelOptionsRecord}
use Rattle.dcsctp_channel_session.specs.declared.session.ChannelSession.{ChannelSession}

-- ---- what each call returns

abbrev pub channel_error_status : ChannelError → Status
channel_error_status errors.NotOpen = statuses.NoChannel
channel_error_status errors.Ended = statuses.Ended
channel_error_status errors.TooLong = statuses.MessageTooLarge
channel_error_status errors.StreamInUse = statuses.StreamInUse
channel_error_status (errors.Refused error) = send_error_status error

abbrev pub channel_status : {A : Type 0} → Result (Result A ChannelError) SocketFault → Status
channel_status = answer_status channel_error_status

-- ---- calls

-- The layer's call takes place, and the status says its outcome.
pub record CallsLayer {A : Type 0} (status_of : Result A SocketFault → Status) (Done : A → ChannelsView → ChannelsView → Type 0)
    (old : ChannelSession) (status : Status) (new : ChannelSession) : Type 0 where
  pub outcome : Result A SocketFault
  pub call : Answers Done (channels_view old) outcome (channels_view new)
  pub told : status ≡ status_of outcome
  pub event : new.event ≡ old.event
  pub snapshot : new.snapshot ≡ old.snapshot

-- The same of a call that nothing but memory refuses.
abbrev pub Makes : (ChannelsView → ChannelsView → Type 0) → ChannelSession → Status → ChannelSession → Type 0
Makes Done = CallsLayer {A = Unit {0}} done_status (λ done. Done)

abbrev pub ChannelsConnect : ChannelSession → Status → ChannelSession → Type 0
ChannelsConnect = Makes SocketConnects

abbrev pub ChannelsShutDown : ChannelSession → Status → ChannelSession → Type 0
ChannelsShutDown = Makes SocketShutsDown

abbrev pub ChannelsAbort : ChannelSession → Status → ChannelSession → Type 0
ChannelsAbort = Makes SocketCloses

abbrev pub ChannelsHandle : List ℕ → ChannelSession → Status → ChannelSession → Type 0
ChannelsHandle packet = Makes (SocketHandlesInput packet)

abbrev pub ChannelsAdvance : ℕ → ChannelSession → Status → ChannelSession → Type 0
ChannelsAdvance moment = Makes (SocketAdvances moment)

-- A message may have so many bytes from now on.
pub record ChannelsLimit (bytes : ℕ) (old : ChannelSession) (status : Status) (new : ChannelSession) : Type 0 where
  pub told : status ≡ statuses.Done
  pub call : channels_view new ≡ record (channels_view old) { below = with_setting (longest_message bytes) (channels_view old).below }
  pub event : new.event ≡ old.event
  pub snapshot : new.snapshot ≡ old.snapshot

-- Zero says server, and all else client.
abbrev pub role_said : ℤ → Role
role_said (pos zero) = Server
role_said (pos (suc number)) = Client
role_said (negsuc number) = Client

abbrev pub SetsRoleByNumber : ℤ → ChannelSession → Status → ChannelSession → Type 0
SetsRoleByNumber is_dtls_client = Makes (SetsRole (role_said is_dtls_client))

-- ---- a channel is opened

-- why the numbers are refused before anything is done, by the first of these reasons
abbrev pub numbers_refused : ChannelOptionsRecord → Option Status
numbers_refused numbers =
    if has_channel_options_size numbers
    then (if says_channel numbers then (if has_long_text numbers then Some statuses.MessageTooLarge else None) else Some statuses.InvalidOptions)
    else Some statuses.WrongSize

-- the number of a channel that was opened; else what was there before
abbrev pub number_after : ℕ → Result (Result ChannelId ChannelError) SocketFault → ℕ
number_after before (Ok (Ok id)) = channel_number id.0
number_after before (Ok (Err error)) = before
number_after before (Err fault) = before

-- The layer's call takes place, and the number of its channel is written.
pub record Opens (numbers : ChannelOptionsRecord) (old : ChannelSession) (before : ℕ) (status : Status) (after : ℕ) (new : ChannelSession) : Type 0 where
  pub outcome : Result (Result ChannelId ChannelError) SocketFault
  pub call : Answers (OpensChannel (opening_of_numbers numbers) (stream_said numbers)) (channels_view old) outcome (channels_view new)
  pub told : status ≡ channel_status outcome
  pub number : after ≡ number_after before outcome
  pub event : new.event ≡ old.event
  pub snapshot : new.snapshot ≡ old.snapshot

-- Nothing has changed, and nothing is written.
pub record RefusesOpen (refusal : Status) (old : ChannelSession) (before : ℕ) (status : Status) (after : ℕ) (new : ChannelSession) : Type 0 where
  pub told : status ≡ refusal
  pub number : after ≡ before
  pub same : new ≡ old

abbrev pub OpensUnless : Option Status → ChannelOptionsRecord → ChannelSession → ℕ → Status → ℕ → ChannelSession → Type 0
OpensUnless (Some refusal) numbers old before status after new = RefusesOpen refusal old before status after new
OpensUnless None numbers old before status after new =
    RefusesOpen statuses.OutOfMemory old before status after new ⊎ Opens numbers old before status after new

-- The channel is opened, unless the numbers are refused, or there was no memory for the texts.
abbrev pub OpensIfValid : ChannelOptionsRecord → ChannelSession → ℕ → Status → ℕ → ChannelSession → Type 0
OpensIfValid numbers old before status after new = OpensUnless (numbers_refused numbers) numbers old before status after new

-- ---- calls of a channel

-- The call takes place on the channel of a number; without one this is returned, and nothing has changed.
abbrev pub CallsNamed : Option ℕ → Status → (ℕ → ChannelSession → Status → ChannelSession → Type 0) → ChannelSession → Status → ChannelSession → Type 0
CallsNamed None missing Call old status new = (status ≡ missing) × (new ≡ old)
CallsNamed (Some name) missing Call old status new = Call name old status new

abbrev pub is_kind : ℕ → Bool
is_kind kind = (kind == 1) || (kind == 2)

abbrev pub SendsIfKind : Bool → ℕ → ℕ → List ℕ → ChannelSession → Status → ChannelSession → Type 0
SendsIfKind false channel kind bytes old status new = (status ≡ statuses.InvalidSendOptions) × (new ≡ old)
SendsIfKind true channel kind bytes old status new =
    CallsNamed (name_of channel) statuses.NoChannel (λ name. CallsLayer channel_status (SendsContent name (record { is_text = kind == 1; bytes = bytes }))) old status new

-- The message is sent, if there is such a kind.
abbrev pub SendsOnNumber : ℕ → ℕ → List ℕ → ChannelSession → Status → ChannelSession → Type 0
SendsOnNumber channel kind bytes old status new = SendsIfKind (is_kind kind) channel kind bytes old status new

abbrev pub ClosesNumber : ℕ → ChannelSession → Status → ChannelSession → Type 0
ClosesNumber channel = CallsNamed (name_of channel) statuses.Done (λ name. Makes (λ old new. new ≡ on_layer (channel_closed name) old))

abbrev pub SetsNumberThreshold : ℕ → ℕ → ChannelSession → Status → ChannelSession → Type 0
SetsNumberThreshold channel bytes = CallsNamed (name_of channel) statuses.NoChannel (λ name. CallsLayer channel_status (SetsChannelThreshold name bytes))
