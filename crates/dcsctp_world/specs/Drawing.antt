-- Where the words of a world come from.
use Rattle.std.specs.Prelude.{◌≡◌, true}
use Rattle.rand_core.specs.Stream.{Stream}
use Rattle.dcsctp_core.specs.types.declared.schedule.Side.{Side}
use Rattle.dcsctp_spec_runs.specs.Sockets.{Both, of_side}
use Rattle.dcsctp_core.specs.api.Calls.{DrawsWords}
use Rattle.dcsctp_world.specs.Recording.{Recording}
use Rattle.dcsctp_world.specs.Shown.{ShownSide}

-- From this start all that a side shows of words was drawn, in order, and its generator gives what comes next.
abbrev pub DrewFrom : {R : Type 0} → (R → Stream) → Stream → ShownSide R → Type 0
DrewFrom stream start side = DrawsWords start side.words (stream side.socket.view.generator)

-- Each side drew on: from where it drew before, it did so now. A new world shows no words, and has the generators that it is
-- made with. So over the whole life of the world, the words that a side shows are what its generator gives first.
abbrev pub DrawOn : {R : Type 0} → (R → Stream) → Both (ShownSide R) → Both (ShownSide R) → Type 0
DrawOn stream old new = (side : Side) (start : Stream) → DrewFrom stream start (of_side side old) → DrewFrom stream start (of_side side new)

-- Each side's generator has kept all that it gave.
abbrev pub AreWhole : {R : Type 0} → Both (ShownSide (Recording R)) → Type 0
AreWhole sides = (side : Side) → (of_side side sides).socket.view.generator.is_whole ≡ true
