-- What a world shows is what a run of two sockets shows.
use Rattle.std.specs.Prelude.{◌≡◌, false, List, [], reverse}
use Rattle.dcsctp_core.specs.types.declared.options.Options.{Options}
use Rattle.dcsctp_core.specs.types.declared.schedule.Side.{Side}
use Rattle.dcsctp_core.specs.spec.endpoint.CallTurns.{Transition, words_of, pairs_of}
use Rattle.dcsctp_core.specs.spec.endpoint.Endpoint.{fresh_endpoint}
use Rattle.dcsctp_spec_runs.specs.Sockets.{Both, of_side, PerformedAct, SocketRun, turns_after, endpoint_after, events_shown, packets_shown, acts_of, associations_of}
use Rattle.dcsctp_theorem_sockets.specs.Agreement.{AreUsable}
use Rattle.dcsctp_delivery_sockets.specs.sockets.Delivery.{AreInMemory}
use Rattle.dcsctp_delivery_sockets.specs.sockets.UserMessages.{messages_of_turns, read_of}
use Rattle.dcsctp_world.specs.Shown.{ShownSide, WorldView, options_of}
use Rattle.dcsctp_world.specs.Recording.{Recording}
use Rattle.dcsctp_world.specs.Drawing.{AreWhole}

-- A side after these turns: it has not failed, no event waits in it, and it shows what they brought.
pub record SideRuns {R : Type 0} (options : Options) (turns : List Transition) (side : ShownSide R) : Type 0 where
  pub made_with : side.options ≡ options
  pub goes_on : side.socket.failed ≡ false
  pub endpoint : side.socket.view.endpoint ≡ endpoint_after options turns
  pub waiting : side.socket.view.events ≡ []
  pub events : side.events ≡ events_shown options turns
  pub packets : side.packets ≡ packets_shown options turns
  pub words : side.words ≡ words_of turns
  pub pairs : side.pairs ≡ pairs_of turns
  pub sent : side.sent ≡ messages_of_turns (fresh_endpoint options) turns
  pub read : side.read ≡ read_of (fresh_endpoint options) turns

-- All that the world shows is what two sockets with these options show, along one run of what was applied. Each message that a
-- call handed over fits the fields of a chunk, as its types say.
pub record IsRun {R : Type 0} (options : Both Options) (world : WorldView R) : Type 0 where
  pub usable : AreUsable options
  pub steps : List PerformedAct
  pub run : SocketRun options steps
  pub in_memory : AreInMemory (acts_of steps)
  pub acts : world.acts ≡ reverse (acts_of steps)
  pub sides : (side : Side) → SideRuns (of_side side options) (of_side side (turns_after steps)) (of_side side world.sides)
  pub associations : (side : Side) → (of_side side world.sides).associations ≡ reverse (associations_of side options steps)

-- What holds of a world that has not failed: it shows a run of sockets with the options that they were made with, and their
-- generators have kept all that they gave.
pub record GoesWell {R : Type 0} (world : WorldView (Recording R)) : Type 0 where
  pub is_run : IsRun (options_of world) world
  pub whole : AreWhole world.sides
