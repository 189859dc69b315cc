-- How the runs that a world shows continue.
use Rattle.std.specs.Prelude.{List}
use Rattle.dcsctp_core.specs.types.declared.options.Options.{Options}
use Rattle.dcsctp_core.specs.types.Schedule.{ActContent}
use Rattle.dcsctp_spec_runs.specs.Sockets.{PerformedAct, Both}
use Rattle.dcsctp_theorem_progress.specs.Rounds.{ActsFollow}
use Rattle.dcsctp_world.specs.Run.{IsRun}
use Rattle.dcsctp_world.specs.Shown.{WorldView}

-- The world shows a run that is this earlier one, and these acts after it, oldest first.
pub record ShowsAfter {R : Type 0} (options : Both Options) (earlier : List PerformedAct) (acts : List ActContent) (world : WorldView R) : Type 0 where
  pub shown : IsRun options world
  pub follows : ActsFollow earlier acts shown.steps

-- Each run that the old world shows continues by these acts, and the new one shows it. So nothing that was shown is taken back.
abbrev pub Continues : {R : Type 0} → List ActContent → WorldView R → WorldView R → Type 0
Continues acts old new = (options : Both Options) (earlier : IsRun options old) → ShowsAfter options earlier.steps acts new
