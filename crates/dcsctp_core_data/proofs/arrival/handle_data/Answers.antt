use Rattle.std.proofs.Common.{◌∙◌, ℕ, List, OnOk, sym, refl, ap, subst}
use Rattle.dcsctp_core.specs.spec.queues.IncomingStreams.{ChunkModel}
use Rattle.dcsctp_core.specs.spec.endpoint.TransferMoves.{ReceivesData}
use Rattle.std.proofs.lemmas.Result.{err_from_is_err_and}
use Rattle.dcsctp_core.specs.declared.context.Context.{Context}
use Rattle.dcsctp_core.specs.View.{view_of}
use Rattle.dcsctp_core.proofs.LendingLemmas.{left_with}
use Rattle.dcsctp_core_data.specs.Data.{part_arrival}
use Rattle.dcsctp_core_data.proofs.ArrivalLemmas.{empty_refused, not_connected, data_cut, data_worked}
use Rattle.dcsctp_core_data.proofs.arrival.handle_data.Goals as goal

pub returns-then-is_empty : goal.returns-then-is_empty
returns-then-is_empty g c =
    empty_refused g.R.Rng.stream c.args.context.now c.refuse_empty.result c.refuse_empty.new.context (part_arrival c.args.part)
    (sym c.is_empty.ensures ∙ c.if-is_empty.true) c.refuse_empty.ensures

pub returns-in_default : goal.returns-in_default
returns-in_default g c =
    not_connected g.R.Rng.stream c.args.context.now c.report_not_connected.result c.report_not_connected.new.context (part_arrival c.args.part)
    (sym c.is_empty.ensures ∙ c.if-is_empty.false) c.in_default.ensures.tcb c.report_not_connected.ensures

pub returns-in_err-payload : goal.returns-in_err-payload
returns-in_err-payload g c =
    rw (err_from_is_err_and c.from_residual.result c.from_residual.ensures.1).1
    (data_cut (view_of c.args.context.now) (part_arrival c.args.part))

pub returns : goal.returns
returns g c =
    let old = c.args.context.now in
    let new : Context g.row.R.Denot = record old { state = left_with old.state c.in-Some.tcb.now c.receive_data.new.self } in
    data_worked g.R.Rng.stream old new c.in-Some.tcb.now c.receive_data.new.self c.receive_data.result (part_arrival c.args.part) refl
    (sym c.is_empty.ensures ∙ c.if-is_empty.false) c.in-Some.ensures.tcb
    (subst (λ (chunk : ChunkModel). OnOk c.receive_data.result (ReceivesData (record (part_arrival c.args.part) { chunk = chunk }) c.in-Some.tcb.now.transfer c.receive_data.new.self)) (ap (λ (payload : List ℕ). record (part_arrival c.args.part).chunk { payload = payload }) c.in_ok-payload.ensures.items) c.receive_data.ensures.ok)
