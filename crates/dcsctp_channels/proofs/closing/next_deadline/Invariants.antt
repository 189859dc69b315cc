use Rattle.std.proofs.Common.{◌≡◌}
use Rattle.dcsctp_channel_calls.specs.api.spec.endpoint.TimeTurns.{next_moment}
use Rattle.dcsctp_channel_calls.specs.Polls.{deadline_with}
use Rattle.dcsctp_channels.proofs.closing.next_deadline.Given as goal

-- what is due, with the streams that are left, is what is due with all
abbrev pub invariant-loop-stream : goal.invariant-loop-stream
invariant-loop-stream g l =
    record {
      due : deadline_with (g.S.DcSctpSocket.user_view l.socket) l.stream-iterator l.due
          ≡ deadline_with (g.S.DcSctpSocket.user_view l.socket) l.layer.table.channels.entries (next_moment (g.S.DcSctpSocket.user_view l.socket).endpoint);
    }
