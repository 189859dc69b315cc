use Rattle.std.proofs.Common.{◌≡◌, []}
use Rattle.dcsctp_example.proofs.drive.Given as goal

-- no event waits
abbrev pub invariant-loop-packet : goal.invariant-loop-packet
invariant-loop-packet g l = (g.S.DcSctpSocket.user_view l.socket).events ≡ []
