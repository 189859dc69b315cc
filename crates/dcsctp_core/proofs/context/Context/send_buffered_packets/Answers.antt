use Rattle.std.proofs.Common.{Option, ◌||◌, ◌∙◌, ap, sym, subst}
use Rattle.std.proofs.lemmas.Result.{err_from_is_err_and}
use Rattle.dcsctp_transfer.specs.spec.queues.Transfer.{Transfer}
use Rattle.dcsctp_transfer.specs.spec.endpoint.FlushOutcomes.{first_ask}
use Rattle.dcsctp_transfer.specs.spec.queues.SendQueue.{has_queued_data}
use Rattle.dcsctp_core.specs.View.{view_of}
use Rattle.dcsctp_core.specs.Flushing.{NeedsNone, can_queues_send}
use Rattle.dcsctp_core.proofs.LendingLemmas.{found}
use Rattle.dcsctp_core.proofs.LoopLemmas.{flush_unmade, flush_no_peer, flush_done, flush_cut_in}
use Rattle.dcsctp_core.proofs.RestLemmas.{flush_rests, needs_none}
use Rattle.dcsctp_core.proofs.context.Context.send_buffered_packets.Goals as goal

pub returns-in_err-packet : goal.returns-in_err-packet
returns-in_err-packet g c =
    rw (err_from_is_err_and c.from_residual.result c.from_residual.ensures.1).1
    (flush_unmade c.args.self.now)

pub returns-in_err-send_buffered_packets_with : goal.returns-in_err-send_buffered_packets_with
returns-in_err-send_buffered_packets_with g c =
    rw (err_from_is_err_and c.from_residual-in_err-send_buffered_packets_with.result c.from_residual-in_err-send_buffered_packets_with.ensures.1).1
    (flush_cut_in c.args.self.now c.in-Some.tcb.now (view_of c.send_buffered_packets_with.new.self).events c.in-Some.ensures
    (λ held holds draft is. c.in_err-send_buffered_packets_with.ensures draft (c.in_ok-packet.ensures ∙ is) held holds))

pub returns-in_default : goal.returns-in_default
returns-in_default g c = flush_no_peer g.R.Rng.stream c.args.self.now c.in_default.ensures

pub returns : goal.returns
returns g c =
    flush_done g.R.Rng.stream c.args.self.now c.in-Some.tcb.now (view_of c.send_buffered_packets_with.new.self) c.in-Some.ensures
    (λ held holds draft is. c.in_ok-send_buffered_packets_with.ensures draft (c.in_ok-packet.ensures ∙ is) held holds)

pub returns-then-not-has_streams_ready_to_be_reset : goal.returns-then-not-has_streams_ready_to_be_reset
returns-then-not-has_streams_ready_to_be_reset g c =
    let old = c.args.self.now in
    let below = found old.state c.in-Some.tcb.now c.in-Some.ensures in
    let needs = needs_none old.send_queue c.in-Some.tcb.now.transfer c.may_send_data-may_follow.result c.has_streams_ready_to_be_reset.result
    (c.may_send_data-may_follow.ensures ∙ ap (λ (f : Option Transfer). has_queued_data old.send_queue || can_queues_send f) below)
    (c.may_fill_first.ensures c.if-not-may_fill_first.true) c.has_streams_ready_to_be_reset.ensures c.if-not-has_streams_ready_to_be_reset.true in
    flush_rests g.R.Rng.stream old
    (subst (λ (f : Option Transfer). NeedsNone first_ask old.send_queue f) (sym below) needs)
