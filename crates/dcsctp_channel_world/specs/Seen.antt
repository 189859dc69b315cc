-- What users of channels do and are told, with the channel by its name at their end.
use Rattle.std.specs.Prelude.{ℕ, Ok, List, [], ◌∷◌, ◌++◌}
use Rattle.dcsctp_channel_calls.specs.messages.channel_spec.declared.types.ChannelEnd.{ChannelEnd}
use Rattle.dcsctp_channel_calls.specs.messages.channel_spec.Slots.{ended}
use Rattle.dcsctp_channel_calls.specs.View.{ChannelNotice, of_channel}
use Rattle.dcsctp_channel_laws.specs.Names.{sends_content}
use Rattle.dcsctp_channel_runs.specs.Acts.{EndAct, calls, NamedContent}

-- a channel that is over, and why
pub record NamedEnd : Type 0 where
  pub name : ℕ
  pub why : ChannelEnd

-- the message that `send` accepted
abbrev pub messages_of_act : EndAct → List NamedContent
messages_of_act (calls (sends_content name content (Ok done))) = record { name = name; content = content } ∷ []
messages_of_act act = []

abbrev pub messages_of_acts : List EndAct → List NamedContent
messages_of_acts [] = []
messages_of_acts (act ∷ acts) = messages_of_act act ++ messages_of_acts acts

-- the channels that are over
abbrev pub ends_reported : List ChannelNotice → List NamedEnd
ends_reported [] = []
ends_reported (of_channel (ended name why) ∷ notices) = record { name = name; why = why } ∷ ends_reported notices
ends_reported (notice ∷ notices) = ends_reported notices
