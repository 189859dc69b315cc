use Rattle.std.proofs.Common.{sym, ◌∙◌}
use Rattle.dcsctp_channels.specs.Layer.{whole_view}
use Rattle.dcsctp_channels.proofs.Weighing.{no_acks}
use Rattle.dcsctp_channels.proofs.Looking.{looks_begin, looks_next, looks_at}
use Rattle.dcsctp_channels.proofs.closing.due_ack.Goals as goal

pub loop-stream-init : goal.loop-stream-init
loop-stream-init g c = looks_begin _ c.args.layer.now.table.channels _ (cc) c.iter-stream-items.ensures.ordered

pub returns-then-ack_is_due-clause-some : goal.returns-then-ack_is_due-clause-some
returns-then-ack_is_due-clause-some g c = (
  c.in-Some.held.now,
  looks_at _ _ _ c.next.new.self (c.in-Some.stream.now, c.in-Some.held.now) c.loop-stream.invariant c.in-Some.ensures.steps,
  sym c.ack_is_due.ensures ∙ c.if-ack_is_due.true,
)

pub loop-stream-preserved : goal.loop-stream-preserved
loop-stream-preserved g c =
    looks_next _ _ _ c.next.new.self (c.in-Some.stream.now, c.in-Some.held.now) c.loop-stream.invariant c.in-Some.ensures.steps
    (sym c.ack_is_due.ensures ∙ c.if-ack_is_due.false)

pub returns-then-layer-eq0-clause-none : goal.returns-then-layer-eq0-clause-none
returns-then-layer-eq0-clause-none g c =
    no_acks (whole_view (g.S.DcSctpSocket.user_view c.args.socket.now) c.args.layer.now)
    (sym c.args.layer.now.table.counted ∙ c.if-layer-eq0.true)
