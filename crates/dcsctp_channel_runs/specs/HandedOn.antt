-- What an end reports on a channel that is open is what it has read on the channel's stream since its OPEN.
use Rattle.std.specs.Prelude.{◌≡◌, ◌==◌, ℕ, false, Option, Some, None, Ok, List, [], ◌∷◌, ◌++◌, if◌then◌else◌}
use Rattle.std.specs.List.{AllByRecursion}
use Rattle.dcsctp_channel_calls.specs.api.types.queues.Messages.{MessageContent}
use Rattle.dcsctp_channel_calls.specs.declared.channel.ChannelState.TheVariants.{Open}
use Rattle.dcsctp_channel_calls.specs.messages.channel_spec.Contents.{ChannelContent, control_ppid, content_from}
use Rattle.dcsctp_channel_calls.specs.messages.Format.{open_message, control_of_bytes}
use Rattle.dcsctp_channel_calls.specs.Queries.{channel_state}
use Rattle.dcsctp_channel_calls.specs.View.{ChannelNotice, LayerView}
use Rattle.dcsctp_channel_runs.specs.Acts.{OpenedChannel, contents_on, messages_reported, channels_reported}

-- a message of a user, if it is one
abbrev pub content_and : Option ChannelContent → List ChannelContent → List ChannelContent
content_and None contents = contents
content_and (Some content) contents = content ∷ contents

-- the messages of users that were read on this stream; those of the protocol are none
abbrev pub contents_read : ℕ → List MessageContent → List ChannelContent
contents_read number [] = []
contents_read number (message ∷ messages) =
    if message.stream == number then content_and (content_from message.ppid message.payload) (contents_read number messages) else contents_read number messages

-- The channel was opened by this message, and what was reported on it is what was read on the stream since.
pub record ReachesChannel (read : List MessageContent) (channel : OpenedChannel) (heard : List ChannelContent) : Type 0 where
  pub front : List MessageContent
  pub opener : MessageContent
  pub rest : List MessageContent
  pub is : read ≡ front ++ opener ∷ rest
  pub ppid : opener.ppid ≡ control_ppid
  pub opens : control_of_bytes opener.payload ≡ Ok (open_message channel.opening)
  pub whole : heard ≡ contents_read opener.stream rest

-- Each channel that came in and is open is handed on what is read, if the association isn't over and the socket always knew the stream of
-- what it read. These notices were given, or wait to be taken.
abbrev pub HandsOn : (ℕ → Type 0) → LayerView → List MessageContent → List ChannelNotice → Type 0
HandsOn Knows layer read notices =
    layer.over ≡ false → AllByRecursion (λ (message : MessageContent). Knows message.stream) read
    → AllByRecursion (λ (channel : OpenedChannel). channel_state layer channel.name ≡ Open → ReachesChannel read channel (contents_on channel.name (messages_reported notices))) (channels_reported notices)
