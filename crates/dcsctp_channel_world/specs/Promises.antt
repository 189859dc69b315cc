-- What a world of two ends with channels promises.
use Rattle.std.specs.Prelude.{◌≡◌, true, false, Result, Ok, List, [], ◌∷◌, ◌++◌}
use Rattle.dcsctp_spec_runs.specs.Sockets.{Both, of_side, of_other}
use Rattle.dcsctp_theorem_sockets.specs.Agreement.{IsUsable, AreUsable}
use Rattle.dcsctp_channel_calls.specs.api.Calls.{UserView, ByFault}
use Rattle.dcsctp_channel_calls.specs.api.declared.errors.SocketFault.{SocketFault}
use Rattle.dcsctp_channel_calls.specs.api.types.declared.options.Options.{Options}
use Rattle.dcsctp_channel_calls.specs.api.types.declared.schedule.Side.{Side}
use Rattle.dcsctp_channel_calls.specs.api.spec.endpoint.Endpoint.{fresh_endpoint}
use Rattle.dcsctp_channel_calls.specs.View.{ChannelsView}
use Rattle.dcsctp_channel_runs.specs.Acts.{EndAct, MadeAct, acts_of_ends, AllInMemory, notices_of, packets_given, channels_reported, channels_of, messages_reported}
use Rattle.dcsctp_channel_runs.specs.Runs.{views_after, ChannelsRun, AreNewEnds, IsSocketRun}
use Rattle.dcsctp_channel_world.specs.declared.step.ChannelStep.{ChannelStep}
use Rattle.dcsctp_channel_world.specs.declared.step.EndReply.{EndReply}
use Rattle.dcsctp_channel_world.specs.Seen.{messages_of_acts, ends_reported}
use Rattle.dcsctp_channel_world.specs.Shown.{EndShown, WorldShown}
use Rattle.dcsctp_channel_world.specs.Steps.{side_of_step, KeepsLists, MovesEnd}

-- a socket that was just made
pub record IsNewSocket (below : UserView) : Type 0 where
  pub options : Options
  pub usable : IsUsable options
  pub endpoint : below.endpoint ≡ fresh_endpoint options
  pub events : below.events ≡ []

-- ---- what holds

-- An end is as its last act left it, and shows what its acts brought.
pub record EndShows (acts : List EndAct) (view : ChannelsView) (shown : EndShown) : Type 0 where
  pub view_is : shown.view ≡ view
  pub packets : shown.packets ≡ packets_given (notices_of acts)
  pub opened : shown.opened ≡ channels_of acts
  pub incoming : shown.incoming ≡ channels_reported (notices_of acts)
  pub sent : shown.sent ≡ messages_of_acts acts
  pub read : shown.read ≡ messages_reported (notices_of acts)
  pub ended : shown.ended ≡ ends_reported (notices_of acts)

-- All that the world shows is what this run of two new ends with channels shows. Its acts come newest first.
pub record ShowsRun (options : Both Options) (starts : Both ChannelsView) (run : List MadeAct) (world : WorldShown) : Type 0 where
  pub usable : AreUsable options
  pub begins : AreNewEnds options starts
  pub in_memory : AllInMemory run
  pub made : ChannelsRun starts run
  pub ends : (side : Side) → EndShows (of_side side (acts_of_ends run)) (of_side side (views_after starts run)) (of_side side world.ends)

-- There is such a run.
pub record ShowsSomeRun (world : WorldShown) : Type 0 where
  pub options : Both Options
  pub starts : Both ChannelsView
  pub run : List MadeAct
  pub shown : ShowsRun options starts run world

-- What holds of a world that has not failed.
pub record KeepsChannelPromises (world : WorldShown) : Type 0 where
  pub shows : ShowsSomeRun world
  -- That run is one of two sockets. By `hears` what each end shows of the other is so.
  pub sockets : IsSocketRun shows.options shows.starts shows.run

-- So it is with a world, unless it has failed.
abbrev pub ShowsUnlessFailed : WorldShown → Type 0
ShowsUnlessFailed world = world.failed ≡ false → ShowsSomeRun world

-- Each run that the old world shows goes on, by these acts, to one that the new world shows.
pub record ContinuesRuns (old new : WorldShown) : Type 0 where
  pub more : List MadeAct
  pub goes_on : (options : Both Options) (starts : Both ChannelsView) (run : List MadeAct) → ShowsRun options starts run old → ShowsRun options starts (more ++ run) new

-- ---- one step

-- A step was applied, and the world keeps its promises.
pub record AppliesStep (step : ChannelStep) (reply : EndReply) (old new : WorldShown) : Type 0 where
  pub runs : old.failed ≡ false
  pub goes_on : new.failed ≡ false
  pub moves : MovesEnd step (Ok reply) old.ends new.ends
  pub continues : ContinuesRuns old new
  pub keeps : KeepsChannelPromises new

-- An allocation failed in a step, and the world has failed. Its end still shows what it showed, and the other end is unchanged.
pub record StepRanOutOfMemory (step : ChannelStep) (old new : WorldShown) : Type 0 where
  pub runs : old.failed ≡ false
  pub fails : new.failed ≡ true
  pub keeps : KeepsLists (of_side (side_of_step step) old.ends) (of_side (side_of_step step) new.ends)
  pub other_stays : of_other (side_of_step step) new.ends ≡ of_other (side_of_step step) old.ends

-- The world had failed, and nothing changes.
pub record ChannelWorldStaysFailed (old new : WorldShown) : Type 0 where
  pub had_failed : old.failed ≡ true
  pub same : new ≡ old

abbrev pub AppliesStepOrFails : ChannelStep → WorldShown → Result EndReply SocketFault → WorldShown → Type 0
AppliesStepOrFails step old result new = ByFault (λ reply. AppliesStep step reply old new) (StepRanOutOfMemory step old new) (ChannelWorldStaysFailed old new) result

-- ---- several

-- A step was applied, and the others to what it left.
pub record AppliesFirstOf (step : ChannelStep) (Others : WorldShown → Type 0) (old : WorldShown) : Type 0 where
  pub reply : EndReply
  pub between : WorldShown
  pub applied : AppliesStep step reply old between
  pub others : Others between

-- Each step was applied to what the one before it left.
unfoldable pub AppliesEach : List ChannelStep → WorldShown → WorldShown → Type 0
AppliesEach [] old new = new ≡ old
AppliesEach (step ∷ steps) old new = AppliesFirstOf step (λ between. AppliesEach steps between new) old

-- These steps were applied, one after another, and the world keeps its promises.
pub record RunsChannelSteps (steps : List ChannelStep) (old new : WorldShown) : Type 0 where
  pub runs : old.failed ≡ false
  pub goes_on : new.failed ≡ false
  pub applied : AppliesEach steps old new
  pub continues : ContinuesRuns old new
  pub keeps : KeepsChannelPromises new

-- An allocation failed at one of these steps: those before it were applied, and the world kept its promises. It has failed at
-- this one, and those after it weren't tried.
pub record RanOutAmongSteps (steps : List ChannelStep) (old new : WorldShown) : Type 0 where
  pub done : List ChannelStep
  pub refused : ChannelStep
  pub rest : List ChannelStep
  pub all : steps ≡ done ++ refused ∷ rest
  pub before : WorldShown
  pub ran : RunsChannelSteps done old before
  pub ran_out : StepRanOutOfMemory refused before new

-- These steps were applied; or an allocation failed at one of them; or the world had failed.
abbrev pub RunsStepsOrFails : List ChannelStep → WorldShown → Result (Unit {0}) SocketFault → WorldShown → Type 0
RunsStepsOrFails steps old result new = ByFault (λ done. RunsChannelSteps steps old new) (RanOutAmongSteps steps old new) (ChannelWorldStaysFailed old new) result
