-- What a user reads is what its peer's user sent, throughout each run of two sockets, by what the
-- sockets show.
use Rattle.std.specs.Prelude.{◌⊎◌, List, [], ◌∷◌}
use Rattle.dcsctp_spec_lemmas.specs.types.declared.options.Options.{Options}
use Rattle.dcsctp_spec_lemmas.specs.types.declared.schedule.Side.{Side}
use Rattle.dcsctp_spec_lemmas.specs.types.Schedule.{AreHonest}
use Rattle.dcsctp_spec_runs.specs.Sockets.{PerformedAct, Both, of_side, turns_after, SocketRun, acts_of}
use Rattle.dcsctp_theorem_sockets.specs.Agreement.{AreUsable, AreFresh}
use Rattle.dcsctp_delivery_sockets.specs.sockets.Delivery.{AreInMemory, SendsLittle, NoneRefused, Delivers}
use Rattle.dcsctp_delivery_sockets.specs.sockets.Shown.{ShownTagsServeOnce, OneTakesThePlace}

-- All that delivery asks of a run, beside what agreement asks: each verification tag serves one association, or one takes the place
-- of another, not too much is sent to it, and with interleaving no own request to reset streams fails.
pub record AllowsDelivery (options : Both Options) (run : List PerformedAct) : Type 0 where
  pub tags : ShownTagsServeOnce options run ⊎ OneTakesThePlace options run
  pub little : (side : Side) → SendsLittle (of_side side options) (of_side side (turns_after run))
  pub refused : NoneRefused options (turns_after run)

-- At the end of each first part of the run that is honest and allows it, with no tag drawn twice, what each user read is what
-- the other sent.
abbrev pub DeliverThroughout : Both Options → List PerformedAct → Type 0
DeliverThroughout options [] = Unit {0}
DeliverThroughout options (worked ∷ earlier) =
    (AreHonest (acts_of (worked ∷ earlier)) → AreFresh (turns_after (worked ∷ earlier)) → AllowsDelivery options (worked ∷ earlier) → (side : Side) → Delivers options (turns_after (worked ∷ earlier)) side)
    × DeliverThroughout options earlier

abbrev pub UsersReadWhatWasSent : Type 0
UsersReadWhatWasSent = (options : Both Options) (run : List PerformedAct) → AreUsable options → AreInMemory (acts_of run) → SocketRun options run → DeliverThroughout options run
