-- Each side of a run is a run of that side alone.
use Rattle.std.proofs.Common.{◌≡◌, ℕ, List, [], ◌∷◌, refl, sym, subst, ap, ◌∙◌}
use Rattle.dcsctp_spec_lemmas.specs.types.declared.options.Options.{Options}
use Rattle.dcsctp_spec_lemmas.specs.spec.Packet.{Content, Packet}
use Rattle.dcsctp_spec_lemmas.specs.spec.Admission.{shutdown_acks_of}
use Rattle.dcsctp_spec_lemmas.specs.spec.endpoint.Endpoint.{Core}
use Rattle.dcsctp_spec_lemmas.specs.spec.association.Effect.{Effect, Change}
use Rattle.dcsctp_spec_runs.specs.World.{SideState, after_change, after_changes, acted, worked, ControlTurns, SideRun, side_after, ChunkChanges, PacketChanges, worked_whole, worked_acks, Move, does, receives, MoveChanges, Which, at_a, at_b, World, step_after, world_after, WorldStep, StepChanges, WorldRun, steps_with, steps_of}
use Rattle.dcsctp_theorem_association.specs.Agreement.{SidesRunAlone}

chunk_turns : (options : Options) (core : Core) (header : ℕ) (contents : List Content) (changes : List Change)
    → ChunkChanges options core header contents changes → ControlTurns options core changes
chunk_turns options core header contents [] turns = tt
chunk_turns options core header [] (change ∷ changes) turns = absurd turns
chunk_turns options core header (content ∷ contents) (change ∷ changes) turns =
    (worked header content turns.0.0 turns.0.2, chunk_turns options change.core header contents changes turns.1)

pub packet_turns : (options : Options) (core : Core) (packet : Packet) (changes : List Change) → PacketChanges options core packet changes → ControlTurns options core changes
packet_turns options core packet changes (worked_whole may turns) = chunk_turns options core packet.tag packet.contents changes turns
packet_turns options core packet changes (worked_acks turns) = chunk_turns options core packet.tag (shutdown_acks_of packet.contents) changes turns

pub move_turns : (side : SideState) (sent : List Effect) (move : Move) (changes : List Change) → MoveChanges side sent move changes → ControlTurns side.options side.core changes
move_turns side sent (does act) changes turns =
    subst (ControlTurns side.options side.core) (sym turns.1) (acted act turns.0 refl, tt)
move_turns side sent (receives packet) changes turns = packet_turns side.options side.core packet changes turns.1

options_stay : (side : SideState) (changes : List Change) → (after_changes side changes).options ≡ side.options
options_stay side [] = refl
options_stay side (change ∷ changes) = options_stay (after_change side change) changes

own_options : (options : Options) (steps : List (List Change)) → (side_after options steps).options ≡ options
own_options options [] = refl
own_options options (changes ∷ earlier) = options_stay (side_after options earlier) changes ∙ own_options options earlier

-- the side that a run of its own leads to
pub record Alone (options : Options) (steps : List (List Change)) (side : SideState) : Type 0 where
  pub is_run : SideRun options steps
  pub is : side ≡ side_after options steps

one_more : (options : Options) (steps : List (List Change)) (side : SideState) (sent : List Effect) (move : Move) (changes : List Change)
    → Alone options steps side → MoveChanges side sent move changes → Alone options (changes ∷ steps) (after_changes side changes)
one_more options steps side sent move changes h turns =
    let own : ControlTurns (side_after options steps).options (side_after options steps).core changes =
    subst (λ (s : SideState). ControlTurns s.options s.core changes) h.is (move_turns side sent move changes turns) in
    record {
      is_run = (subst (λ (o : Options). ControlTurns o (side_after options steps).core changes) (own_options options steps) own, h.is_run);
      is = ap (λ (s : SideState). after_changes s changes) h.is;
    }

a_alone : (options : Options) (steps : List (List Change)) (world : World) (which : Which) (move : Move) (changes : List Change)
    → Alone options steps world.a → StepChanges world which move changes → Alone options (steps_with at_a which changes steps) (step_after world which changes).a
a_alone options steps world at_a move changes h turns = one_more options steps world.a world.b.past move changes h turns
a_alone options steps world at_b move changes h turns = h

b_alone : (options : Options) (steps : List (List Change)) (world : World) (which : Which) (move : Move) (changes : List Change)
    → Alone options steps world.b → StepChanges world which move changes → Alone options (steps_with at_b which changes steps) (step_after world which changes).b
b_alone options steps world at_a move changes h turns = h
b_alone options steps world at_b move changes h turns = one_more options steps world.b world.a.past move changes h turns

both_alone : (options_a options_b : Options) (steps : List WorldStep) → WorldRun options_a options_b steps
    → Alone options_a (steps_of at_a steps) (world_after options_a options_b steps).a × Alone options_b (steps_of at_b steps) (world_after options_a options_b steps).b
both_alone options_a options_b [] run = (record { is_run = tt; is = refl }, record { is_run = tt; is = refl })
both_alone options_a options_b (step ∷ earlier) run =
    let h : Alone options_a (steps_of at_a earlier) (world_after options_a options_b earlier).a × Alone options_b (steps_of at_b earlier) (world_after options_a options_b earlier).b =
    both_alone options_a options_b earlier run.1 in (
      a_alone options_a (steps_of at_a earlier) (world_after options_a options_b earlier) step.side step.move step.changes h.0 run.0,
      b_alone options_b (steps_of at_b earlier) (world_after options_a options_b earlier) step.side step.move step.changes h.1 run.0,
    )

pub sides_run_alone : SidesRunAlone
sides_run_alone options_a options_b steps run =
    let h : Alone options_a (steps_of at_a steps) (world_after options_a options_b steps).a × Alone options_b (steps_of at_b steps) (world_after options_a options_b steps).b =
    both_alone options_a options_b steps run in
    record { a_is_run = h.0.is_run; a = h.0.is; b_is_run = h.1.is_run; b = h.1.is }
