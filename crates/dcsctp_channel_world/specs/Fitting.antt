-- What a step hands over is in memory.
use Rattle.dcsctp_channel_calls.specs.Notices.{opening_of}
use Rattle.dcsctp_channel_runs.specs.Acts.{IsInMemory, FitsChannelContent}
use Rattle.dcsctp_channel_world.specs.declared.step.EndCall.{EndCall}
use Rattle.dcsctp_channel_world.specs.declared.step.EndCall.TheVariants.{Open, Send}
use Rattle.dcsctp_channel_world.specs.declared.step.ChannelStep.{ChannelStep}
use Rattle.dcsctp_channel_world.specs.declared.step.ChannelStep.TheVariants.{Call}

abbrev pub FitsUserCall : EndCall → Type 0
FitsUserCall (Open options) = IsInMemory (opening_of options)
FitsUserCall (Send id is_text bytes) = FitsChannelContent (record { is_text = is_text; bytes = bytes.items })
FitsUserCall call = Unit {0}

abbrev pub FitsChannelStep : ChannelStep → Type 0
FitsChannelStep (Call side call) = FitsUserCall call
FitsChannelStep step = Unit {0}
