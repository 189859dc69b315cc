-- What the calls of a session do: the call of its socket takes place, what was taken is kept, and
-- the status says how it ended.
use Rattle.std.specs.Prelude.{◌≡◌, ◌==◌, ◌⊎◌, ◌<◌, ℕ, Bool, true, false, IsOk, List, Option, Some, None, Result, Ok, Err, option_map}
use Rattle.std.specs.List.{list_all}
use Rattle.rand_chacha.specs.ChaCha.{of_seed}
use Rattle.dcsctp_core.specs.types.Settings.{IsValid}
use Rattle.dcsctp_core.specs.types.declared.options.Options.{Options}
use Rattle.dcsctp_core.specs.types.declared.message.SendOptions.{SendOptions}
use Rattle.dcsctp_core.specs.types.queues.Messages.{MessageContent}
use Rattle.dcsctp_core.specs.types.Setting.{Setting, longest_message}
use Rattle.dcsctp_core.specs.api.declared.errors.SocketFault.{SocketFault}
use Rattle.dcsctp_core.specs.api.declared.events.SocketEvent.{SocketEvent}
use Rattle.dcsctp_core.specs.api.declared.metrics.Metrics.{Metrics}
use Rattle.dcsctp_core.specs.api.Calls.{UserView, Connects, ClosesSocket, ShutsDown, HandlesInput, PollsEvent, PollsCleared, Sets, with_setting, is_closed, takes_shutdown}
use Rattle.dcsctp_core.specs.api.Messages.{SendsMessage, TakesNextMessage}
use Rattle.dcsctp_core.specs.api.Metrics.{ShowsMetrics}
use Rattle.dcsctp_core.specs.api.Resets.{ResetsOwn}
use Rattle.dcsctp_core.specs.api.Time.{AdvancesClock, OnlyMovesClock}
use Rattle.dcsctp_core.specs.spec.endpoint.TimeTurns.{Waits}
use Rattle.dcsctp_socket.specs.SocketView.{user_view_of, fresh_socket}
use Rattle.dcsctp_session.specs.declared.session.Session.{Session}
use Rattle.dcsctp_session.specs.declared.status.Status.{Status}
use Rattle.dcsctp_session.specs.declared.status.Status.TheVariants as statuses
use Rattle.dcsctp_session.specs.declared.options.OptionsRecord.{OptionsRecord}
use Rattle.dcsctp_session.specs.declared.options.SendOptionsRecord.{SendOptionsRecord}
use Rattle.dcsctp_session.specs.declared.records.CountsRecord.{CountsRecord}
use Rattle.dcsctp_session.specs.declared.records.EventRecord.{EventRecord}
use Rattle.dcsctp_session.specs.declared.records.MessageRecord.{MessageRecord}
use Rattle.dcsctp_session.specs.declared.records.MetricsRecord.{MetricsRecord}
use Rattle.dcsctp_session.specs.Options.{SaysOptions, SaysSendOptions, has_options_size, is_valid_sending, flag}
use Rattle.dcsctp_session.specs.Records.{event_record, message_record, SaysMetrics, counts_size}
use Rattle.dcsctp_session.specs.Status.{done_status, send_status, reset_status}
use Rattle.dcsctp_session.specs.Views.{view, words_ahead, nothing_taken}

-- ---- the first call

-- Are all bytes of a seed 0, as before it is filled?
abbrev pub is_zero_seed : List ℕ → Bool
is_zero_seed seed = list_all (λ byte. byte == 0) seed

-- A closed socket with these options, whose random words come from the seed. Its clock was set to a moment, and nothing was
-- taken.
pub record IsCreated (numbers : OptionsRecord) (seed : List ℕ) (moment : ℕ) (session : Session) : Type 0 where
  pub sized : has_options_size numbers ≡ true
  pub filled : is_zero_seed seed ≡ false
  pub options : Options
  pub says : SaysOptions numbers options
  pub moves : AdvancesClock (user_view_of words_ahead (fresh_socket options (of_seed seed))) moment (Ok tt) (view session)
  pub taken : session.taken ≡ nothing_taken
  pub offload : session.checksum_offload ≡ flag numbers.checksum_offload

-- No socket can be made with these options.
pub record AreOptionsRefused (numbers : OptionsRecord) : Type 0 where
  pub sized : has_options_size numbers ≡ true
  pub options : Options
  pub says : SaysOptions numbers options
  pub refused : IsValid options → ⊥

-- No socket is made with a seed that wasn't filled.
pub record IsSeedRefused (numbers : OptionsRecord) (seed : List ℕ) : Type 0 where
  pub sized : has_options_size numbers ≡ true
  pub zero : is_zero_seed seed ≡ true

-- A session is made; or the record has another size; or the options are refused, or the seed; or an allocation failed.
abbrev pub Creates : OptionsRecord → List ℕ → ℕ → Result Session Status → Type 0
Creates numbers seed moment (Ok session) = IsCreated numbers seed moment session
Creates numbers seed moment (Err status) =
    (status ≡ statuses.WrongSize) × (has_options_size numbers ≡ false)
    ⊎ (status ≡ statuses.InvalidOptions) × AreOptionsRefused numbers
    ⊎ (status ≡ statuses.InvalidOptions) × IsSeedRefused numbers seed
    ⊎ (status ≡ statuses.OutOfMemory) × (has_options_size numbers ≡ true)

-- ---- calls that the socket may refuse

-- The socket's call takes place, and the status says its outcome.
pub record CallsSocket {A : Type 0} (status_of : Result A SocketFault → Status) (Call : UserView → Result A SocketFault → UserView → Type 0)
    (old : Session) (status : Status) (new : Session) : Type 0 where
  pub outcome : Result A SocketFault
  pub call : Call (view old) outcome (view new)
  pub told : status ≡ status_of outcome
  pub taken : new.taken ≡ old.taken
  pub offload : new.checksum_offload ≡ old.checksum_offload

-- The clauses of `connect`: on a socket that isn't closed it succeeds.
abbrev pub ConnectCall : UserView → Result (Unit {0}) SocketFault → UserView → Type 0
ConnectCall old outcome new = Connects old outcome new × (old.failed ≡ false → is_closed old.endpoint.core ≡ false → IsOk outcome)

abbrev pub ConnectsSession : Session → Status → Session → Type 0
ConnectsSession = CallsSocket done_status ConnectCall

-- Those of `shutdown`: where there is nothing to shut down it succeeds.
abbrev pub ShutdownCall : UserView → Result (Unit {0}) SocketFault → UserView → Type 0
ShutdownCall old outcome new = ShutsDown old outcome new × (old.failed ≡ false → takes_shutdown old.endpoint.core ≡ false → IsOk outcome)

abbrev pub ShutDown : Session → Status → Session → Type 0
ShutDown = CallsSocket done_status ShutdownCall

-- Those of `close`: on a closed socket it succeeds.
abbrev pub CloseCall : UserView → Result (Unit {0}) SocketFault → UserView → Type 0
CloseCall old outcome new = ClosesSocket old outcome new × (old.failed ≡ false → is_closed old.endpoint.core ≡ true → IsOk outcome)

abbrev pub ClosesSession : Session → Status → Session → Type 0
ClosesSession = CallsSocket done_status CloseCall

abbrev pub HandlesPacket : List ℕ → Session → Status → Session → Type 0
HandlesPacket packet = CallsSocket done_status (λ old outcome new. HandlesInput old packet outcome new)

-- Those of `advance_time`: an earlier moment succeeds, and one before the next deadline only moves the clock.
pub record AdvanceCall (moment : ℕ) (old : UserView) (outcome : Result (Unit {0}) SocketFault) (new : UserView) : Type 0 where
  pub call : AdvancesClock old moment outcome new
  pub earlier : old.failed ≡ false → moment < old.endpoint.moment → IsOk outcome
  pub waits : old.failed ≡ false → Waits old.endpoint moment → OnlyMovesClock old moment outcome new

abbrev pub AdvancesSession : ℕ → Session → Status → Session → Type 0
AdvancesSession moment = CallsSocket done_status (AdvanceCall moment)

abbrev pub MakesSetting : Setting → Session → Status → Session → Type 0
MakesSetting setting = CallsSocket done_status (Sets setting)

-- A copy of what the caller gave found no memory. Nothing has changed, so the socket hasn't failed by it.
pub record FailsToCopy (old : Session) (status : Status) (new : Session) : Type 0 where
  pub told : status ≡ statuses.OutOfMemory
  pub same : new ≡ old

-- A bit of the options has no meaning. Nothing has changed.
pub record RefusesSendOptions (old : Session) (status : Status) (new : Session) : Type 0 where
  pub told : status ≡ statuses.InvalidSendOptions
  pub same : new ≡ old

-- By whether the options are valid: the message is sent by what they say, unless there was no memory for its copy.
abbrev pub SendsIfValid : Bool → MessageContent → SendOptionsRecord → Session → Status → Session → Type 0
SendsIfValid false message numbers old status new = RefusesSendOptions old status new
SendsIfValid true message numbers old status new =
    FailsToCopy old status new
    ⊎ (options : SendOptions) × SaysSendOptions numbers options × CallsSocket send_status (SendsMessage message options) old status new

-- The message is sent by the options that the numbers say, if they are valid.
abbrev pub SendsOneMessage : MessageContent → SendOptionsRecord → Session → Status → Session → Type 0
SendsOneMessage message numbers old status new = SendsIfValid (is_valid_sending numbers) message numbers old status new

abbrev pub StreamsReset : List ℕ → Session → Status → Session → Type 0
StreamsReset ids old status new = FailsToCopy old status new ⊎ CallsSocket reset_status (ResetsOwn ids) old status new

-- ---- calls that the socket never refuses

-- A message may have so many bytes from now on.
pub record LimitsSize (bytes : ℕ) (old : Session) (status : Status) (new : Session) : Type 0 where
  pub told : status ≡ statuses.Done
  pub call : view new ≡ with_setting (longest_message bytes) (view old)
  pub taken : new.taken ≡ old.taken
  pub offload : new.checksum_offload ≡ old.checksum_offload

-- The next event is taken, by whether the caller makes checksums.
abbrev pub PollsByOffload : Bool → UserView → Option SocketEvent → UserView → Type 0
PollsByOffload false old event new = PollsEvent old event new
PollsByOffload true old event new = PollsCleared old event new

-- The next event is taken and kept, and the record says it.
pub record GetsNextEvent (old : Session) (told : Option EventRecord) (new : Session) : Type 0 where
  pub call : PollsByOffload old.checksum_offload (view old) new.taken.event (view new)
  pub says : told ≡ option_map event_record new.taken.event
  pub message : new.taken.message ≡ old.taken.message
  pub snapshot : new.taken.snapshot ≡ old.taken.snapshot
  pub offload : new.checksum_offload ≡ old.checksum_offload

-- The next message is taken and kept, and the record says it.
pub record GetsNextMessage (old : Session) (told : Option MessageRecord) (new : Session) : Type 0 where
  pub call : TakesNextMessage (view old) new.taken.message (view new)
  pub says : told ≡ option_map message_record new.taken.message
  pub event : new.taken.event ≡ old.taken.event
  pub snapshot : new.taken.snapshot ≡ old.taken.snapshot
  pub offload : new.checksum_offload ≡ old.checksum_offload

-- The record says the metrics of the socket, if there are any.
abbrev pub SaysShown : Option Metrics → Option MetricsRecord → Type 0
SaysShown None told = told ≡ None
SaysShown (Some metrics) told = (numbers : MetricsRecord) × SaysMetrics numbers metrics × (told ≡ Some numbers)

abbrev pub ShowsMetricsRecord : UserView → Option MetricsRecord → Type 0
ShowsMetricsRecord shown told = (metrics : Option Metrics) × ShowsMetrics shown.endpoint metrics × SaysShown metrics told

-- The record says what was counted over the socket's life.
pub record ShowsCountsRecord (shown : UserView) (told : CountsRecord) : Type 0 where
  pub size : told.size ≡ counts_size
  pub received : told.rx_packets_count ≡ shown.endpoint.counts.packets_received
  pub sent : told.tx_packets_count ≡ shown.endpoint.counts.packets_sent
  pub queued : told.tx_messages_count ≡ shown.endpoint.counts.messages_queued
