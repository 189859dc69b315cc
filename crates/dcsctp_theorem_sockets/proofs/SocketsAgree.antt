-- Two sockets agree, along an honest run.
use Rattle.std.proofs.Common.{◌≡◌, List, [], ◌∷◌, ◌++◌, refl, sym, subst, ap, ◌∙◌}
use Rattle.dcsctp_spec_lemmas.specs.types.Schedule.{StepContent, ActContent, step_act, outside_act, IsHonestAct, AreHonest}
use Rattle.dcsctp_spec_lemmas.specs.types.declared.options.Options.{Options}
use Rattle.dcsctp_spec_lemmas.specs.types.declared.schedule.Side.{Side}
use Rattle.dcsctp_spec_lemmas.specs.types.declared.schedule.Side.TheVariants as sides
use Rattle.dcsctp_spec_lemmas.specs.types.Settings.{IsValid, FitsOptions}
use Rattle.dcsctp_spec_lemmas.specs.types.Offer.{offer_of, negotiated_capabilities}
use Rattle.dcsctp_spec_lemmas.specs.spec.endpoint.CallTurns.{Transition}
use Rattle.dcsctp_spec_lemmas.specs.spec.association.Effect.{AssociationIdentity, Effect, effects_without_packets}
use Rattle.dcsctp_spec_runs.specs.Past.{Each}
use Rattle.dcsctp_spec_runs.specs.World as machine
use Rattle.dcsctp_spec_runs.specs.World.{SideState, fresh_side_state, at_a, at_b, world_after, WorldRun, MoveResult, MakesMoves, after_moves, with_moves}
use Rattle.dcsctp_spec_runs.specs.Sockets.{PerformedAct, Both, side_of, of_side, of_other, side_turns_added, turns_after, endpoint_after, packets_shown, StepTurns, SocketRun, side_of_act, NextTurns, acts_of}
use Rattle.dcsctp_theorem_association.specs.Agreement.{FindsCrossed, FindsPerformed, BothAgree, SidesAgree}
use Rattle.dcsctp_theorem_sockets.specs.Agreement.{recorded_past, FindsHeld, Agree, AreUsable, AreFresh, SocketsAgree}
use Rattle.dcsctp_theorem_sockets.proofs.Follow.{Followed, each_connected_map}
use Rattle.dcsctp_theorem_sockets.proofs.NotedLemmas.{performed-noted}
use Rattle.dcsctp_theorem_sockets.proofs.Moves.{Below, SideMoves}
use Rattle.dcsctp_theorem_sockets.proofs.StepMoves.{step_moves}

-- The run of sockets is followed by a run of the machine.
pub record Joined (options : Both Options) (turns : Both (List Transition)) : Type 0 where
  pub steps : List machine.WorldStep
  pub is_run : WorldRun options.a options.b steps
  pub a : Followed options.a turns.a (world_after options.a options.b steps).a
  pub b : Followed options.b turns.b (world_after options.a options.b steps).b

fresh : (options : Options) → IsValid options → FitsOptions options → Followed options [] (fresh_side_state options)
fresh options valid fits =
    record {
      fits = record { valid = valid; options = fits; core = tt; t1 = tt };
      own_options = refl;
      side_options = refl;
      core = refl;
      past = refl;
      went = tt;
      held = λ link none. absurd none;
      connected = tt;
      drawn = λ pair none. absurd none;
      fresh = λ distinct. tt;
    }

-- a run that is followed by these moves of one side
record WithMovesA (options : Both Options) (steps : List machine.WorldStep) (moves : List MoveResult) : Type 0 where
  is_run : WorldRun options.a options.b (with_moves at_a moves steps)
  a : (world_after options.a options.b (with_moves at_a moves steps)).a ≡ after_moves (world_after options.a options.b steps).a moves
  b : (world_after options.a options.b (with_moves at_a moves steps)).b ≡ (world_after options.a options.b steps).b

record WithMovesB (options : Both Options) (steps : List machine.WorldStep) (moves : List MoveResult) : Type 0 where
  is_run : WorldRun options.a options.b (with_moves at_b moves steps)
  b : (world_after options.a options.b (with_moves at_b moves steps)).b ≡ after_moves (world_after options.a options.b steps).b moves
  a : (world_after options.a options.b (with_moves at_b moves steps)).a ≡ (world_after options.a options.b steps).a

with_moves_a : (options : Both Options) (steps : List machine.WorldStep) (moves : List MoveResult) → WorldRun options.a options.b steps
    → MakesMoves (world_after options.a options.b steps).a (world_after options.a options.b steps).b.past moves → WithMovesA options steps moves
with_moves_a options steps [] run made = record { is_run = run; a = refl; b = refl }
with_moves_a options steps (moved ∷ moves) run made =
    let h : WithMovesA options (record { side = at_a; move = moved.move; changes = moved.changes } ∷ steps) moves =
    with_moves_a options (record { side = at_a; move = moved.move; changes = moved.changes } ∷ steps) moves (made.0, run) made.1 in
    record { is_run = h.is_run; a = h.a; b = h.b }

with_moves_b : (options : Both Options) (steps : List machine.WorldStep) (moves : List MoveResult) → WorldRun options.a options.b steps
    → MakesMoves (world_after options.a options.b steps).b (world_after options.a options.b steps).a.past moves → WithMovesB options steps moves
with_moves_b options steps [] run made = record { is_run = run; b = refl; a = refl }
with_moves_b options steps (moved ∷ moves) run made =
    let h : WithMovesB options (record { side = at_b; move = moved.move; changes = moved.changes } ∷ steps) moves =
    with_moves_b options (record { side = at_b; move = moved.move; changes = moved.changes } ∷ steps) moves (made.0, run) made.1 in
    record { is_run = h.is_run; b = h.b; a = h.a }

moved_a : (options : Both Options) (turns : Both (List Transition)) (more : List Transition) (h : Joined options turns)
    → SideMoves options.a turns.a (world_after options.a options.b h.steps).a (world_after options.a options.b h.steps).b.past more
    → Joined options (side_turns_added sides.A more turns)
moved_a options turns more h m =
    let w : WithMovesA options h.steps m.moves = with_moves_a options h.steps m.moves h.is_run m.made in
    record { steps = with_moves at_a m.moves h.steps; is_run = w.is_run; a = subst (Followed options.a (turns.a ++ more)) (sym w.a) m.follows; b = subst (Followed options.b turns.b) (sym w.b) h.b }

moved_b : (options : Both Options) (turns : Both (List Transition)) (more : List Transition) (h : Joined options turns)
    → SideMoves options.b turns.b (world_after options.a options.b h.steps).b (world_after options.a options.b h.steps).a.past more
    → Joined options (side_turns_added sides.B more turns)
moved_b options turns more h m =
    let w : WithMovesB options h.steps m.moves = with_moves_b options h.steps m.moves h.is_run m.made in
    record { steps = with_moves at_b m.moves h.steps; is_run = w.is_run; a = subst (Followed options.a turns.a) (sym w.a) h.a; b = subst (Followed options.b (turns.b ++ more)) (sym w.b) m.follows }

-- what comes of a step at this side
abbrev TurnsAt : Side → Both Options → Both (List Transition) → StepContent → List Transition → Type 0
TurnsAt side options turns step more =
    StepTurns (endpoint_after (of_side side options) (of_side side turns)) (packets_shown (of_other side options) (of_other side turns)) step more

stepped : Below → (options : Both Options) (turns : Both (List Transition)) (step : StepContent) (more : List Transition) (side : Side) → AreUsable options → Joined options turns
    → TurnsAt side options turns step more → Joined options (side_turns_added side more turns)
stepped law options turns step more sides.A are h done =
    let world : machine.World = world_after options.a options.b h.steps in
    moved_a options turns more h (step_moves law options.a options.b turns.a turns.b world.a world.b step more h.a h.b (are sides.B).fits done)
stepped law options turns step more sides.B are h done =
    let world : machine.World = world_after options.a options.b h.steps in
    moved_b options turns more h (step_moves law options.b options.a turns.b turns.a world.b world.a step more h.b h.a (are sides.A).fits done)

acted : Below → (options : Both Options) (turns : Both (List Transition)) (act : ActContent) (more : List Transition) → AreUsable options → IsHonestAct act → Joined options turns
    → NextTurns options turns act more → Joined options (side_turns_added (side_of_act act) more turns)
acted law options turns (step_act step) more are honest h done = stepped law options turns step more (side_of step) are h done
acted law options turns (outside_act outside) more are honest h done = absurd honest

pub joined : Below → (options : Both Options) (run : List PerformedAct) → AreUsable options → SocketRun options run → AreHonest (acts_of run) → Joined options (turns_after run)
joined law options [] are runs honest = record { steps = []; is_run = tt; a = fresh options.a (are sides.A).valid (are sides.A).fits; b = fresh options.b (are sides.B).valid (are sides.B).fits }
joined law options (worked ∷ earlier) are runs honest =
    acted law options (turns_after earlier) worked.act worked.turns are honest.0 (joined law options earlier are runs.1 honest.1) runs.0

-- What a side finds in the machine, a socket finds.
finds : (mine theirs : Options) (my_side their_side : SideState) (turns : List Transition) (link : AssociationIdentity) → my_side.options ≡ mine → Followed theirs turns their_side
    → FindsCrossed my_side their_side link → FindsHeld mine theirs turns link
finds mine theirs my_side their_side turns link is h found =
    record {
      other = found.other;
      held = h.held found.other found.held;
      crossed = found.crossed;
      capabilities = found.capabilities ∙ ap (λ (p : Options). negotiated_capabilities (offer_of p) (offer_of their_side.options)) is ∙ ap (λ (p : Options). negotiated_capabilities (offer_of mine) (offer_of p)) h.side_options;
      other_capabilities = found.other_capabilities ∙ ap (λ (p : Options). negotiated_capabilities (offer_of their_side.options) (offer_of p)) is ∙ ap (λ (p : Options). negotiated_capabilities (offer_of p) (offer_of mine)) h.side_options;
    }

-- What a side's past says of performed requests, a socket's turns say.
resets : (mine theirs : Options) (my_side their_side : SideState) (turns others : List Transition) → Followed mine turns my_side → Followed theirs others their_side
    → Each (FindsPerformed their_side.past) my_side.past → Each (FindsPerformed (recorded_past others)) (recorded_past turns)
resets mine theirs my_side their_side turns others h k each =
    subst (λ (past : List Effect). Each (FindsPerformed (recorded_past others)) past) h.past
    (subst (λ (past : List Effect). Each (FindsPerformed past) (effects_without_packets my_side.past)) k.past (performed-noted their_side.past my_side.past each))

agree_now : Below → SidesAgree → (options : Both Options) (run : List PerformedAct) → AreUsable options → SocketRun options run → AreFresh (turns_after run) → AreHonest (acts_of run)
    → Agree options (turns_after run)
agree_now law agree options run are runs tags honest =
    let h : Joined options (turns_after run) = joined law options run are runs honest in
    let world : machine.World = world_after options.a options.b h.steps in
    let both : BothAgree world = agree options.a options.b h.steps h.is_run (h.a.fresh tags.a) (h.b.fresh tags.b) in
    record {
      a = each_connected_map (λ link has. finds options.a options.b world.a world.b (turns_after run).b link h.a.side_options h.b (both.a.connected link has)) (turns_after run).a h.a.connected;
      b = each_connected_map (λ link has. finds options.b options.a world.b world.a (turns_after run).a link h.b.side_options h.a (both.b.connected link has)) (turns_after run).b h.b.connected;
      a_performed = resets options.a options.b world.a world.b (turns_after run).a (turns_after run).b h.a h.b both.a.performed;
      b_performed = resets options.b options.a world.b world.a (turns_after run).b (turns_after run).a h.b h.a both.b.performed;
    }

pub sockets_agree : Below → SidesAgree → SocketsAgree
sockets_agree law agree options [] are runs = agree_now law agree options [] are runs (record { a = tt; b = tt }) tt
sockets_agree law agree options (worked ∷ earlier) are runs = (
  (λ honest fresh. agree_now law agree options (worked ∷ earlier) are runs fresh honest),
  sockets_agree law agree options earlier are runs.1,
)
