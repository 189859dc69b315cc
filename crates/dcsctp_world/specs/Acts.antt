-- What the calls of a world do.
use Rattle.std.specs.Prelude.{◌≡◌, true, false, Result, List, [], ◌∷◌, ◌++◌, map}
use Rattle.rand_core.specs.Stream.{Stream}
use Rattle.dcsctp_core.specs.types.Schedule.{StepContent, ActContent, step_act}
use Rattle.dcsctp_spec_runs.specs.Sockets.{Both, of_side, of_other, side_of_act, TurnsOfAct}
use Rattle.dcsctp_core.specs.api.Calls.{ByFault}
use Rattle.dcsctp_core.specs.api.declared.errors.SocketFault.{SocketFault}
use Rattle.dcsctp_world.specs.declared.act.Reply.{Reply}
use Rattle.dcsctp_world.specs.Shown.{ShownSide, WorldView, options_of}
use Rattle.dcsctp_world.specs.Growth.{Extends, Grows, ShowsFront, StopsKeeping, SideExtends, HandlesAct, with_association, IsReply}
use Rattle.dcsctp_world.specs.Promises.{Promises}
use Rattle.dcsctp_world.specs.Continuing.{Continues}
use Rattle.dcsctp_world.specs.Drawing.{DrawOn}
use Rattle.dcsctp_world.specs.Recording.{Recording, recorded_stream}
use Rattle.dcsctp_world.specs.Returning.{BringsBack}

-- ---- one act

-- An act moved its own side, and left the other. No association was recorded yet.
pub record ActMoves {R : Type 0} (stream : R → Stream) (act : ActContent) (answer : Reply) (old new : Both (ShownSide R)) : Type 0 where
  pub grows : Grows stream (TurnsOfAct (of_side (side_of_act act) old).socket.view.endpoint (of_other (side_of_act act) old).packets act) answer
      (of_side (side_of_act act) old) (of_side (side_of_act act) new)
  pub other_stays : of_other (side_of_act act) new ≡ of_other (side_of_act act) old
  pub reply : IsReply (of_side (side_of_act act) old).socket.view.endpoint (of_other (side_of_act act) old).packets act answer

-- An act was handled at its side, or it failed there. The other is unchanged.
pub record MovesSide {R : Type 0} (stream : R → Stream) (act : ActContent) (old : Both (ShownSide R)) (result : Result Reply SocketFault)
    (new : Both (ShownSide R)) : Type 0 where
  pub works : HandlesAct stream (TurnsOfAct (of_side (side_of_act act) old).socket.view.endpoint (of_other (side_of_act act) old).packets act)
      (IsReply (of_side (side_of_act act) old).socket.view.endpoint (of_other (side_of_act act) old).packets act)
      (of_side (side_of_act act) old) result (of_side (side_of_act act) new)
  pub other_stays : of_other (side_of_act act) new ≡ of_other (side_of_act act) old

-- both sides with their associations as they are now
abbrev pub with_associations : {R : Type 0} → Both (ShownSide R) → Both (ShownSide R)
with_associations sides = record { a = with_association sides.a; b = with_association sides.b }

-- An act moved its own side, both associations were recorded, and the act was kept.
pub record AppliesAct {R : Type 0} (stream : R → Stream) (act : ActContent) (reply : Reply) (old new : WorldView R) : Type 0 where
  pub runs : old.failed ≡ false
  pub goes_on : new.failed ≡ false
  pub moved : Both (ShownSide R)
  pub moves : ActMoves stream act reply old.sides moved
  pub sides : new.sides ≡ with_associations moved
  pub acts : new.acts ≡ old.acts ++ act ∷ []

-- An allocation failed in an act. What its own side shows grew at most by the first part of what the act's turns bring. The
-- other's socket is unchanged, and at most its association was recorded once more.
pub record ActStops {R : Type 0} (act : ActContent) (old new : Both (ShownSide R)) : Type 0 where
  pub mover : StopsKeeping (TurnsOfAct (of_side (side_of_act act) old).socket.view.endpoint (of_other (side_of_act act) old).packets act)
      (of_side (side_of_act act) old) (of_side (side_of_act act) new)
  pub other : ShowsFront [] (of_other (side_of_act act) old) (of_other (side_of_act act) new)
  pub other_socket : (of_other (side_of_act act) new).socket ≡ (of_other (side_of_act act) old).socket

-- An act was applied. Or an allocation failed in it, and it isn't among the acts. Or the socket at its side had failed.
abbrev pub AppliesOrFails : {R : Type 0} → (R → Stream) → ActContent → WorldView R → Result Reply SocketFault → WorldView R → Type 0
AppliesOrFails stream act old result new =
    ByFault (λ reply. AppliesAct stream act reply old new) (ActStops act old.sides new.sides × (new.acts ≡ old.acts))
    ((of_side (side_of_act act) old.sides).socket.failed ≡ true) result

-- ---- what `apply` and `outside` do

-- An act was applied, and the world keeps its promises. `stream` is what a generator gives.
pub record AppliesWithPromises {R : Type 0} (stream : R → Stream) (act : ActContent) (reply : Reply) (old new : WorldView (Recording R)) : Type 0 where
  pub applied : AppliesAct (recorded_stream stream) act reply old new
  -- Each side drew on what its generator gave.
  pub drawn : DrawOn (recorded_stream stream) old.sides new.sides
  pub options : options_of new ≡ options_of old
  -- A restore brings back what the snapshot has of the association.
  pub restores : BringsBack act reply (of_side (side_of_act act) old.sides).socket.view.endpoint
      (of_side (side_of_act act) new.sides).socket.view.endpoint
  -- The runs that the old world shows continue by this act.
  pub continues : Continues (act ∷ []) old new
  pub keeps : Promises new

-- An allocation failed in an act, and the world has failed. The act isn't among its acts.
pub record ActRanOutOfMemory {R : Type 0} (act : ActContent) (old new : WorldView R) : Type 0 where
  pub runs : old.failed ≡ false
  pub fails : new.failed ≡ true
  pub stops : ActStops act old.sides new.sides
  pub acts : new.acts ≡ old.acts

-- The world had failed, and nothing changes.
pub record WorldStaysFailed {R : Type 0} (old new : WorldView R) : Type 0 where
  pub had_failed : old.failed ≡ true
  pub same : new ≡ old

-- An act was applied; or an allocation failed in it; or the world had failed.
abbrev pub Applies : {R : Type 0} → (R → Stream) → ActContent → WorldView (Recording R) → Result Reply SocketFault → WorldView (Recording R) → Type 0
Applies stream act old result new = ByFault (λ reply. AppliesWithPromises stream act reply old new) (ActRanOutOfMemory act old new) (WorldStaysFailed old new) result

-- ---- what `run` does

-- Each list begins with what it held.
pub record BothExtend {R : Type 0} (old new : Both (ShownSide R)) : Type 0 where
  pub a : SideExtends old.a new.a
  pub b : SideExtends old.b new.b

pub record WorldExtends {R : Type 0} (old new : WorldView R) : Type 0 where
  pub sides : BothExtend old.sides new.sides
  pub acts : Extends old.acts new.acts

-- A step was applied, and the others to what it left.
pub record AppliesFirstStep {R : Type 0} (stream : R → Stream) (step : StepContent) (Others : WorldView (Recording R) → Type 0)
    (old : WorldView (Recording R)) : Type 0 where
  pub reply : Reply
  pub between : WorldView (Recording R)
  pub applied : AppliesWithPromises stream (step_act step) reply old between
  pub others : Others between

-- Each step was applied to what the one before it left.
unfoldable pub AppliesSteps : {R : Type 0} → (R → Stream) → List StepContent → WorldView (Recording R) → WorldView (Recording R) → Type 0
AppliesSteps stream [] old new = new ≡ old
AppliesSteps stream (step ∷ steps) old new = AppliesFirstStep stream step (λ between. AppliesSteps stream steps between new) old

-- These steps were applied, one after another, and the world keeps its promises.
pub record Ran {R : Type 0} (stream : R → Stream) (steps : List StepContent) (old new : WorldView (Recording R)) : Type 0 where
  pub runs : old.failed ≡ false
  pub goes_on : new.failed ≡ false
  pub applied : AppliesSteps stream steps old new
  pub acts : new.acts ≡ old.acts ++ map step_act steps
  pub extends : WorldExtends old new
  pub options : options_of new ≡ options_of old
  pub drawn : DrawOn (recorded_stream stream) old.sides new.sides
  pub continues : Continues (map step_act steps) old new
  pub keeps : Promises new

-- An allocation failed at one of these steps: those before it were applied, one after another, and the world kept its promises.
-- It has failed at this one, and those after it weren't tried.
pub record RanOutAmong {R : Type 0} (stream : R → Stream) (steps : List StepContent) (old new : WorldView (Recording R)) : Type 0 where
  pub done : List StepContent
  pub refused : StepContent
  pub rest : List StepContent
  pub all : steps ≡ done ++ refused ∷ rest
  pub before : WorldView (Recording R)
  pub ran : Ran stream done old before
  pub ran_out : ActRanOutOfMemory (step_act refused) before new

-- These steps were applied; or an allocation failed at one of them; or the world had failed.
abbrev pub RunsSteps : {R : Type 0} → (R → Stream) → List StepContent → WorldView (Recording R) → Result (Unit {0}) SocketFault
    → WorldView (Recording R) → Type 0
RunsSteps stream steps old result new = ByFault (λ done. Ran stream steps old new) (RanOutAmong stream steps old new) (WorldStaysFailed old new) result
