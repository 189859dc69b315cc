-- What a query does: it reads what a handle has, and its status is returned as a number. Each contract says besides that the
-- handle stays as it is.
use Rattle.std.specs.Prelude.{◌≡◌, ℕ, ℤ, min, pos, Bool, true, false, List, Option, Some, None}
use denote.RawPtr.{Ptr}
use Rattle.std.specs.Global.{Vec}
use Rattle.dcsctp_api.specs.spec.Handover.{readiness_of}
use Rattle.dcsctp_api.specs.spec.endpoint.Endpoint.{own_tag}
use Rattle.dcsctp_api.specs.spec.endpoint.TimeTurns.{next_moment}
use Rattle.dcsctp_api.specs.spec.queues.Incoming.{AreInOrder}
use Rattle.dcsctp_api.specs.spec.queues.SendQueue.{IsWellFormed}
use Rattle.dcsctp_api.specs.Calls.{UserView, socket_state_of, stream_shown}
use Rattle.dcsctp_api.specs.Messages.{incoming_streams}
use Rattle.dcsctp_session.specs.declared.session.Session.{Session}
use Rattle.dcsctp_session.specs.declared.status.Status.{Status}
use Rattle.dcsctp_session.specs.declared.status.Status.TheVariants as statuses
use Rattle.dcsctp_session.specs.declared.options.OptionsRecord.{OptionsRecord}
use Rattle.dcsctp_session.specs.declared.records.MetricsRecord.{MetricsRecord}
use Rattle.dcsctp_session.specs.declared.records.CountsRecord.{CountsRecord}
use Rattle.dcsctp_session.specs.Calls.{ShowsMetricsRecord, ShowsCountsRecord}
use Rattle.dcsctp_session.specs.Copying.{CopiesIfTaken, ShowsPlace}
use Rattle.dcsctp_session.specs.Handover.{CopiesSnapshot}
use Rattle.dcsctp_session.specs.Options.{ShowsOptions, has_options_size, never}
use Rattle.dcsctp_session.specs.Records.{has_metrics_size, has_counts_size}
use Rattle.dcsctp_session.specs.Status.{status_number, state_number, taken_status}
use Rattle.dcsctp_session.specs.Views.{view}
use Rattle.dcsctp_channel_session.specs.Handover.{CopiesChannels}
use Rattle.dcsctp_channel_session.specs.Views.{channels_view, channels_deadline, channels_readiness}
use Rattle.dcsctp_channel_session.specs.declared.held.Held.{Held}
use Rattle.dcsctp_channel_session.specs.declared.held.Held.TheVariants as helds
use Rattle.dcsctp_channel_session.specs.declared.session.ChannelSession.{ChannelSession}
use Rattle.dcsctp_c.specs.Exports.{taken_or}

-- The one query is made of a session, and the other of one with channels. It may write to a place of the caller's: before, and
-- after.
abbrev pub QueriesSession : {T : Type 0} → (Session → T → Status → T → Type 0) → (ChannelSession → T → Status → T → Type 0) → Option Held → T → ℤ → T → Type 0
QueriesSession Plain Channelled None before result after = (result ≡ status_number statuses.NoSocket) × (after ≡ before)
QueriesSession Plain Channelled (Some (helds.Socket session)) before result after = (status : Status) × Plain session before status after × (result ≡ status_number status)
QueriesSession Plain Channelled (Some (helds.Channels session)) before result after =
    (status : Status) × Channelled session before status after × (result ≡ status_number status)

-- The same where the place is a record: one that hasn't the size of the library's is refused, and nothing is written.
abbrev pub QueriesIfSized : {T : Type 0} → Bool → (Session → T → Status → T → Type 0) → (ChannelSession → T → Status → T → Type 0)
    → Option Held → T → ℤ → T → Type 0
QueriesIfSized false Plain Channelled held before result after = (result ≡ status_number statuses.WrongSize) × (after ≡ before)
QueriesIfSized true Plain Channelled held before result after = QueriesSession Plain Channelled held before result after

-- This is returned, and nothing is written.
abbrev pub KeepsOutput : {S T : Type 0} → Status → S → T → Status → T → Type 0
KeepsOutput refusal session before status after = (status ≡ refusal) × (after ≡ before)

-- The query is made of a session. One with channels refuses what is below them.
abbrev pub QueriesBelowChannels : {T : Type 0} → (Session → T → Status → T → Type 0) → Option Held → T → ℤ → T → Type 0
QueriesBelowChannels Plain held before result after = QueriesSession Plain (KeepsOutput statuses.HasChannels) held before result after

-- ---- what is written

-- What is said of the session is written.
abbrev pub WritesAnswer : {S T : Type 0} → (S → T → Type 0) → S → T → Status → T → Type 0
WritesAnswer Says session before status after = Says session after × (status ≡ statuses.Done)

-- what the socket is to its user, whether it has channels or not
abbrev pub socket_below : ChannelSession → UserView
socket_below session = (channels_view session).below

-- What is said of the socket is written, whether it has channels or not.
abbrev pub QueriesSocket : {T : Type 0} → (UserView → T → Type 0) → Option Held → T → ℤ → T → Type 0
QueriesSocket Says held before result after =
    QueriesSession (WritesAnswer (λ session told. Says (view session) told)) (WritesAnswer (λ session told. Says (socket_below session) told)) held before result after

abbrev pub QueriesTag : Option Held → ℕ → ℤ → ℕ → Type 0
QueriesTag = QueriesSocket (λ shown told. told ≡ own_tag shown.endpoint.core)

-- when the next call is due
abbrev pub QueriesDeadline : Option Held → ℕ → ℤ → ℕ → Type 0
QueriesDeadline =
    QueriesSession (WritesAnswer (λ session told. told ≡ min (next_moment (view session).endpoint) never)) (WritesAnswer (λ session told. told ≡ min (channels_deadline (channels_view session)) never))

abbrev pub WritesOptions : Session → OptionsRecord → Status → OptionsRecord → Type 0
WritesOptions = WritesAnswer (λ session told. ShowsOptions told (view session).endpoint.options session.checksum_offload)

-- a socket with channels makes its checksums
abbrev pub ChannelsWriteOptions : ChannelSession → OptionsRecord → Status → OptionsRecord → Type 0
ChannelsWriteOptions = WritesAnswer (λ session told. ShowsOptions told (socket_below session).endpoint.options false)

abbrev pub GivesOptions : Option Held → OptionsRecord → ℤ → OptionsRecord → Type 0
GivesOptions held before result after = QueriesIfSized (has_options_size before) WritesOptions ChannelsWriteOptions held before result after

-- the payload bytes that wait on a stream; each stream is in the queue once
abbrev pub AmountIs : ℕ → Session → ℕ → Type 0
AmountIs stream session told = (told ≡ (stream_shown (view session) stream).amount) × IsWellFormed (view session).endpoint.queues.queue

-- why the socket can't be handed over; each stream on which something was received is listed once
abbrev pub ReadinessIs : Session → ℕ → Type 0
ReadinessIs session told = (told ≡ readiness_of (view session).endpoint) × AreInOrder (incoming_streams (view session).endpoint)

-- the reasons; of a socket with channels, those of its channels too
abbrev pub ReadinessAsked : Option Held → ℕ → ℤ → ℕ → Type 0
ReadinessAsked = QueriesSession (WritesAnswer ReadinessIs) (WritesAnswer (λ session told. told ≡ channels_readiness (channels_view session)))

-- The metrics of the socket are written, if there are any.
abbrev pub WritesMetrics : {S : Type 0} → (S → UserView) → S → MetricsRecord → Status → MetricsRecord → Type 0
WritesMetrics shown session before status after =
    (metrics : Option MetricsRecord) × ShowsMetricsRecord (shown session) metrics × (status ≡ taken_status metrics) × (after ≡ taken_or before metrics)

abbrev pub QueriesMetrics : Option Held → MetricsRecord → ℤ → MetricsRecord → Type 0
QueriesMetrics = QueriesSession (WritesMetrics view) (WritesMetrics socket_below)

abbrev pub GivesMetrics : Option Held → MetricsRecord → ℤ → MetricsRecord → Type 0
GivesMetrics held before result after = QueriesIfSized (has_metrics_size before) (WritesMetrics view) (WritesMetrics socket_below) held before result after

-- The counts are written.
abbrev pub WritesCounts : {S : Type 0} → (S → UserView) → S → CountsRecord → Status → CountsRecord → Type 0
WritesCounts shown = WritesAnswer (λ session told. ShowsCountsRecord (shown session) told)

abbrev pub QueriesCounts : Option Held → CountsRecord → ℤ → CountsRecord → Type 0
QueriesCounts = QueriesSession (WritesCounts view) (WritesCounts socket_below)

abbrev pub GivesCounts : Option Held → CountsRecord → ℤ → CountsRecord → Type 0
GivesCounts held before result after = QueriesIfSized (has_counts_size before) (WritesCounts view) (WritesCounts socket_below) held before result after

-- ---- what is copied or shown

-- a buffer of the caller's, and a place for a length
pub record Buffer : Type 0 where
  pub numbers : List ℕ
  pub told : ℕ

abbrev pub buffer_of : List ℕ → ℕ → Buffer
buffer_of numbers told = record { numbers = numbers; told = told }

-- What the session has is copied to the buffer.
abbrev pub CopiesFrom : {S : Type 0} → (S → Option (List ℕ)) → S → Buffer → Status → Buffer → Type 0
CopiesFrom numbers_in session before status after = CopiesIfTaken (numbers_in session) before.numbers status after.numbers after.told

-- The same of the bytes of a snapshot.
abbrev pub CopiesSnapshotFrom : Session → Buffer → Status → Buffer → Type 0
CopiesSnapshotFrom session before status after =
    CopiesSnapshot (view session).endpoint.options session.taken.snapshot before.numbers before.told status after.numbers after.told

-- The same where it has channels.
abbrev pub CopiesChannelsFrom : ChannelSession → Buffer → Status → Buffer → Type 0
CopiesChannelsFrom session before status after =
    CopiesChannels (socket_below session).endpoint.options session.snapshot before.numbers before.told status after.numbers after.told

-- a place for a pointer, and one for a length
pub record OutputPlace : Type 0 where
  pub at : Ptr
  pub told : ℕ

abbrev pub output_place : Ptr → ℕ → OutputPlace
output_place at told = record { at = at; told = told }

-- Where the session has bytes is written.
abbrev pub ShowsFrom : {S : Type 0} → (S → Option (Vec ℕ)) → S → OutputPlace → Status → OutputPlace → Type 0
ShowsFrom bytes_of session before status after = ShowsPlace (bytes_of session) before.at status after.at after.told

-- ---- what is returned by number

abbrev pub ReturnsState : Option Held → ℤ → Type 0
ReturnsState None result = result ≡ status_number statuses.NoSocket
ReturnsState (Some (helds.Socket session)) result = result ≡ state_number (socket_state_of (view session).endpoint.core)
ReturnsState (Some (helds.Channels session)) result = result ≡ state_number (socket_state_of (socket_below session).endpoint.core)

abbrev pub failed_number : Bool → ℤ
failed_number false = pos 0
failed_number true = pos 1

-- 1 is returned if an allocation failed in an earlier call, and else 0.
abbrev pub ReturnsFailed : Option Held → ℤ → Type 0
ReturnsFailed None result = result ≡ status_number statuses.NoSocket
ReturnsFailed (Some (helds.Socket session)) result = result ≡ failed_number (view session).failed
ReturnsFailed (Some (helds.Channels session)) result = result ≡ failed_number (channels_view session).layer.failed
