use Rattle.std.proofs.Common.{ap, map, subst, sym, [], ◌∷◌, ◌∙◌}
use Rattle.std.proofs.lemmas.List.{map-append}
use Rattle.dcsctp_core.specs.types.Snapshot.{snapshot}
use Rattle.dcsctp_core.specs.spec.queues.QueuedParts.{queue_restored}
use Rattle.dcsctp_core.specs.spec.queues.SendQueue.{SendQueueState}
use Rattle.dcsctp_core.specs.api.Events.{event_content}
use Rattle.dcsctp_core.specs.View.{view_of}
use Rattle.dcsctp_core.specs.Handling.{TakesPossibleTurn}
use Rattle.dcsctp_core_handover.specs.Handover.{restore_turn}
use Rattle.dcsctp_core_handover.proofs.RestoreSteps.{restores}
use Rattle.dcsctp_core_handover.proofs.restoring.restore.Goals as goal

pub returns : goal.returns
returns g c =
    subst (TakesPossibleTurn g.R.Rng.stream (restore_turn (snapshot c.args.state.now)) (view_of c.args.context.now)) (sym c.resume_heartbeats.ensures)
    (restores g.R.Rng.stream (record c.args.context.now { left = c.new.result }) c.args.context.now (snapshot c.args.state.now) c.in_ok-tcb.tcb c.add.new.self c.restore_from_state.new.self
    c.requires.closed c.new.ensures.items c.in_ok-tcb.ensures
    (c.in_ok-restore_from_state.ensures
    ∙ ap (λ (queue : SendQueueState). queue_restored c.args.context.now.moment (snapshot c.args.state.now).tx queue) c.enable_message_interleaving.ensures)
    (ap (map event_content) c.in_ok-add.ensures.ok ∙ map-append event_content c.args.context.now.events (_ ∷ [])))
