-- The exports of data channels. A session without channels refuses each but the first.
use Rattle.std.specs.Prelude.{◌≡◌, ℕ, ℤ, List, Option, Some, None, length, option_map}
use Rattle.dcsctp_session.specs.Status.{status_number}
use Rattle.dcsctp_session.specs.declared.status.Status.{Status}
use Rattle.dcsctp_session.specs.declared.status.Status.TheVariants as statuses
use Rattle.dcsctp_channel_session.specs.Begin.{ChannelsBegin}
use Rattle.dcsctp_channel_session.specs.Records.{memory_of_taken, items_of_memory, options_of_taken, has_shown_size, has_traffic_size, traffic_record}
use Rattle.dcsctp_channel_session.specs.Taking.{PollsNextEvent}
use Rattle.dcsctp_channel_session.specs.Views.{channels_view, name_of, state_named, channel_state_number, stream_of_named, amount_if_stream, traffic_named}
use Rattle.dcsctp_channel_session.specs.declared.held.Held.{Held}
use Rattle.dcsctp_channel_session.specs.declared.held.Held.TheVariants as helds
use Rattle.dcsctp_channel_session.specs.declared.options.LimitsRecord.{LimitsRecord}
use Rattle.dcsctp_channel_session.specs.declared.records.ChannelEventRecord.{ChannelEventRecord}
use Rattle.dcsctp_channel_session.specs.declared.records.ShownOptions.{ShownOptions}
use Rattle.dcsctp_channel_session.specs.declared.records.TrafficRecord.{TrafficRecord}
use Rattle.dcsctp_channel_session.specs.declared.session.ChannelSession.{ChannelSession}
use Rattle.dcsctp_c.specs.Exports.{CallsSession, CallsAndWrites, Refuses, WritesNothing, taken_or}
use Rattle.dcsctp_c.specs.Queries.{QueriesSession, QueriesIfSized, KeepsOutput, WritesAnswer, Buffer, CopiesFrom, OutputPlace, ShowsFrom}

-- ---- calls

-- What a handle has gets channels, if it can have them.
abbrev pub BeginsChannels : LimitsRecord → Option Held → ℤ → Option Held → Type 0
BeginsChannels limits None result new = (result ≡ status_number statuses.NoSocket) × (new ≡ None)
BeginsChannels limits (Some old) result new = (status : Status) × (held : Held) × ChannelsBegin limits old status held × (result ≡ status_number status) × (new ≡ Some held)

-- The call takes place on a session with channels.
abbrev pub OnChannels : (ChannelSession → Status → ChannelSession → Type 0) → Option Held → ℤ → Option Held → Type 0
OnChannels Call held result new = CallsSession (Refuses statuses.NoChannel) Call held result new

abbrev pub WritesOnChannels : {T : Type 0} → (ChannelSession → T → Status → T → ChannelSession → Type 0) → Option Held → T → ℤ → T → Option Held → Type 0
WritesOnChannels Call held before result after new = CallsAndWrites (WritesNothing statuses.NoChannel) Call held before result after new

-- The next event is taken, and written.
abbrev pub WritesNextEvent : ChannelSession → ChannelEventRecord → Status → ChannelEventRecord → ChannelSession → Type 0
WritesNextEvent old before status after new = PollsNextEvent old status after new

-- ---- queries

abbrev pub QueriesChannels : {T : Type 0} → (ChannelSession → T → Status → T → Type 0) → Option Held → T → ℤ → T → Type 0
QueriesChannels Query held before result after = QueriesSession (KeepsOutput statuses.NoChannel) Query held before result after

abbrev pub CopiesEvent : Option Held → Buffer → ℤ → Buffer → Type 0
CopiesEvent = QueriesChannels (CopiesFrom (λ session. items_of_memory (memory_of_taken session.event)))

abbrev pub ShowsEvent : Option Held → OutputPlace → ℤ → OutputPlace → Type 0
ShowsEvent = QueriesChannels (ShowsFrom (λ session. memory_of_taken session.event))

-- by whether it was found
abbrev pub found_status : {T : Type 0} → Status → Option T → Status
found_status missing None = missing
found_status missing (Some told) = statuses.Done

-- What is found is written; else this is returned, and nothing is written.
abbrev pub WritesFound : {T : Type 0} → Status → (ChannelSession → Option T) → ChannelSession → T → Status → T → Type 0
WritesFound missing find session before status after = (status ≡ found_status missing (find session)) × (after ≡ taken_or before (find session))

abbrev pub QueriesFound : {T : Type 0} → Status → (ChannelSession → Option T) → Option Held → T → ℤ → T → Type 0
QueriesFound missing find = QueriesChannels (WritesFound missing find)

abbrev pub options_taken : ChannelSession → Option ShownOptions
options_taken session = options_of_taken session.event

abbrev pub GivesOpening : Option Held → ShownOptions → ℤ → ShownOptions → Type 0
GivesOpening held before result after =
    QueriesIfSized (has_shown_size before) (KeepsOutput statuses.NoChannel) (WritesFound statuses.NothingToCopy options_taken) held before result after

abbrev pub stream_numbered : ℕ → ChannelSession → Option ℕ
stream_numbered channel session = stream_of_named (channels_view session).layer (name_of channel)

abbrev pub amount_numbered : ℕ → ChannelSession → Option ℕ
amount_numbered channel session = amount_if_stream (channels_view session) (stream_numbered channel session)

abbrev pub traffic_numbered : ℕ → ChannelSession → Option TrafficRecord
traffic_numbered channel session = option_map traffic_record (traffic_named (channels_view session).layer (name_of channel))

abbrev pub GivesTraffic : ℕ → Option Held → TrafficRecord → ℤ → TrafficRecord → Type 0
GivesTraffic channel held before result after =
    QueriesIfSized (has_traffic_size before) (KeepsOutput statuses.NoChannel) (WritesFound statuses.NoChannel (traffic_numbered channel)) held before result after

abbrev pub CountsStreams : Option Held → ℕ → ℤ → ℕ → Type 0
CountsStreams = QueriesChannels (WritesAnswer (λ session told. told ≡ length (channels_view session).layer.streams))

abbrev pub ReturnsChannelState : ℕ → Option Held → ℤ → Type 0
ReturnsChannelState channel None result = result ≡ status_number statuses.NoSocket
ReturnsChannelState channel (Some (helds.Socket session)) result = result ≡ status_number statuses.NoChannel
ReturnsChannelState channel (Some (helds.Channels session)) result = result ≡ channel_state_number (state_named (channels_view session).layer (name_of channel))
