-- What is taken from a socket with channels.
use Rattle.std.specs.Prelude.{◌≡◌, Option, Some, None, Result, Ok, Err}
use Rattle.dcsctp_session.specs.Status.{fault_status, taken_status}
use Rattle.dcsctp_session.specs.declared.status.Status.{Status}
use Rattle.dcsctp_channel_calls.specs.Notices.{notice_of, polled_notice}
use Rattle.dcsctp_channel_calls.specs.Polls.{PollsChannels}
use Rattle.dcsctp_channel_calls.specs.api.declared.errors.SocketFault.{SocketFault}
use Rattle.dcsctp_channel_calls.specs.declared.channel.ChannelEvent.{ChannelEvent}
use Rattle.dcsctp_channel_session.specs.Records.{plain_event, notice_record}
use Rattle.dcsctp_channel_session.specs.Views.{channels_view}
use Rattle.dcsctp_channel_session.specs.declared.records.ChannelEventRecord.{ChannelEventRecord}
use Rattle.dcsctp_channel_session.specs.declared.session.ChannelSession.{ChannelSession}

abbrev pub polled_status : Result (Option ChannelEvent) SocketFault → Status
polled_status (Ok event) = taken_status event
polled_status (Err fault) = fault_status fault

-- the event that was taken, if there was one
abbrev pub event_polled : Result (Option ChannelEvent) SocketFault → Option ChannelEvent
event_polled (Ok event) = event
event_polled (Err fault) = None

abbrev pub record_of_polled : Option ChannelEvent → ChannelEventRecord
record_of_polled None = plain_event 0
record_of_polled (Some event) = notice_record (notice_of event)

-- The next event is taken and kept, and the record says it; without one it says none.
pub record PollsNextEvent (old : ChannelSession) (status : Status) (told : ChannelEventRecord) (new : ChannelSession) : Type 0 where
  pub outcome : Result (Option ChannelEvent) SocketFault
  pub call : PollsChannels (channels_view old) (polled_notice outcome) (channels_view new)
  pub status_is : status ≡ polled_status outcome
  pub kept : new.event ≡ event_polled outcome
  pub says : told ≡ record_of_polled new.event
  pub snapshot : new.snapshot ≡ old.snapshot
