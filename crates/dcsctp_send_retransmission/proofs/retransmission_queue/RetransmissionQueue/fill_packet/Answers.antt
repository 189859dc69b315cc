use Rattle.std.proofs.Common.{ℕ, List, [], subst, refl}
use Rattle.std.proofs.lemmas.Result.{err_from_is_err_and}
use Rattle.dcsctp_send_retransmission.specs.States.{stage, StopsFilling}
use Rattle.dcsctp_api.specs.spec.queues.Filling.{FillsStage}
use Rattle.dcsctp_send_retransmission.proofs.StatesLemmas.{stops_filling_any}
use Rattle.dcsctp_send_retransmission.proofs.HaltingLemmas.{fills_up}
use Rattle.dcsctp_send_retransmission.proofs.retransmission_queue.RetransmissionQueue.fill_packet.Goals as goal

pub returns-clause-fills : goal.returns-clause-fills
returns-clause-fills c =
    fills_up c.args.now c.args.packet.room c.args.self.now c.fill.new.self c.args.packet c.fill.new.packet c.fill.new.queue c.requires refl c.fill.ensures.fills c.in_ok-fill.ensures.halts

pub returns-clause-fresh : goal.returns-clause-fresh
returns-clause-fresh c = c.in_ok-fill.ensures.fresh c.requires

pub returns-in_err-fill-clause-steps : goal.returns-in_err-fill-clause-steps
returns-in_err-fill-clause-steps c =
    let P : List ℕ → Type 0 = λ tsns. StopsFilling c.args.now (stage c.args.self.now c.args.queue.now c.args.events.now tsns c.args.packet.room) (stage c.fill.new.self c.fill.new.queue c.fill.new.events [] c.args.packet.room) in
    rw (err_from_is_err_and c.from_residual.result c.from_residual.ensures.1).1
    (subst P c.requires
    (stops_filling_any c.args.now (stage c.args.self.now c.args.queue.now c.args.events.now c.args.packet.tsns.items c.args.packet.room) c.fill.new.self c.fill.new.queue c.fill.new.events c.fill.new.packet.tsns.items [] c.fill.new.packet.room c.args.packet.room c.in_err-fill.ensures.steps))

pub returns-clause-steps : goal.returns-clause-steps
returns-clause-steps c =
    let P : List ℕ → Type 0 = λ tsns. FillsStage c.args.now (stage c.args.self.now c.args.queue.now c.args.events.now tsns c.args.packet.room) (stage c.fill.new.self c.fill.new.queue c.fill.new.events c.fill.new.packet.tsns.items c.fill.new.packet.room) in
    record { room = c.fill.new.packet.room; fills = subst P c.requires c.in_ok-fill.ensures.steps }
