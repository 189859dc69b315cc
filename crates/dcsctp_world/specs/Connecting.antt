-- Two sockets of a world connect, once the network lets a repeated INIT and what follows it through (RFC 9260, section 5.1).
use Rattle.dcsctp_core.specs.types.declared.options.Options.{Options}
use Rattle.dcsctp_spec_runs.specs.Sockets.{Both}
use Rattle.dcsctp_theorem_sockets.specs.Handshake.{AreFitting}
use Rattle.dcsctp_theorem_progress.specs.Throughout.{ConnectOverRounds}
use Rattle.dcsctp_world.specs.Run.{IsRun}
use Rattle.dcsctp_world.specs.Shown.{WorldView}

-- Over every run that the world shows, whatever options it is a run of: wherever it has had rounds whose packets were all lost, each
-- of which used at most a restart of T1, and then a quiet one, that one connected two sockets that fit each other.
abbrev pub ShownRoundsConnect : {R : Type 0} → WorldView R → Type 0
ShownRoundsConnect world = (options : Both Options) (shown : IsRun options world) → AreFitting options → ConnectOverRounds options shown.steps
