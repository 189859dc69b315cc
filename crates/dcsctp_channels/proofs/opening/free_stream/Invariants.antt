use Rattle.std.proofs.Common.{◌<◌, ℕ}
use Rattle.dcsctp_channel_calls.specs.Opening.{IsFreeStream}
use Rattle.dcsctp_channels.specs.Layer.{whole_view}
use Rattle.dcsctp_channels.proofs.opening.free_stream.Given as goal

-- none of the streams so far is free
abbrev pub invariant-loop-stream : goal.invariant-loop-stream
invariant-loop-stream g l = (other : ℕ) → other < l.stream → IsFreeStream l.role (whole_view (g.S.DcSctpSocket.user_view l.socket) l.layer) other → ⊥
