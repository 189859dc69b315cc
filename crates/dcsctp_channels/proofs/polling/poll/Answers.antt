use Rattle.std.proofs.Common.{refl}
use Rattle.dcsctp_channel_calls.specs.Notices.{notice_of}
use Rattle.dcsctp_channels.specs.Layer.{layer_view, whole_view}
use Rattle.dcsctp_channels.proofs.Loops.{polls_next_from, polls_takes_from, polls_idle_from}
use Rattle.dcsctp_channels.proofs.polling.poll.Goals as goal

pub loop-turn-preserved : goal.loop-turn-preserved
loop-turn-preserved g c =
    polls_next_from _ _ (whole_view (g.S.DcSctpSocket.user_view c.gather.new.socket) c.gather.new.layer) (layer_view c.take_first.new.self) _ c.in_ok-handle_next.field-0
    c.loop-turn.invariant c.in_ok-gather.ensures.1 c.in_ok-gather.ensures.0 c.in_default.ensures.none.0 c.in_default.ensures.none.1 c.in_ok-handle_next.ensures.1 c.if-not-branch.false c.in_ok-handle_next.ensures.0

pub returns-in-Some : goal.returns-in-Some
returns-in-Some g c =
    polls_takes_from _ _ (whole_view (g.S.DcSctpSocket.user_view c.gather.new.socket) c.gather.new.layer) _ (notice_of c.in-Some.event) c.loop-turn.invariant c.in_ok-gather.ensures.1 c.in_ok-gather.ensures.0
    c.in-Some.ensures.some refl c.take_first.ensures.runs

pub returns-then-not-branch : goal.returns-then-not-branch
returns-then-not-branch g c =
    polls_idle_from _ _ (whole_view (g.S.DcSctpSocket.user_view c.gather.new.socket) c.gather.new.layer) (layer_view c.take_first.new.self) _ c.in_ok-handle_next.field-0
    c.loop-turn.invariant c.in_ok-gather.ensures.1 c.in_ok-gather.ensures.0 c.in_default.ensures.none.0 c.in_default.ensures.none.1 c.in_ok-handle_next.ensures.1 c.if-not-branch.true
