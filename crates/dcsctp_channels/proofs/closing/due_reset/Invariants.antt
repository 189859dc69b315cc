use Rattle.std.proofs.Common.{◌≡◌, ℕ, false}
use Rattle.dcsctp_channel_calls.specs.declared.channel.HeldStream.{HeldStream}
use Rattle.dcsctp_channel_calls.specs.Late.{reset_is_due}
use Rattle.dcsctp_channels.specs.Layer.{whole_view}
use Rattle.dcsctp_channels.proofs.Looking.{LooksFurther}
use Rattle.dcsctp_channels.proofs.closing.due_reset.Given as goal

abbrev pub invariant-loop-stream : goal.invariant-loop-stream
invariant-loop-stream g l =
    LooksFurther (λ (entry : ℕ × HeldStream). reset_is_due (whole_view (g.S.DcSctpSocket.user_view l.socket) l.layer) entry.0 entry.1 ≡ false) l.layer.table.channels.entries l.stream-iterator
