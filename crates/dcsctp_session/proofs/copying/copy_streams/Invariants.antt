use Rattle.std.proofs.Common.{◌≡◌, ◌++◌, take, drop}
use Rattle.dcsctp_core.specs.types.Ids.{stream_numbers}
use Rattle.dcsctp_session.proofs.copying.copy_streams.Given as goal

-- The first numbers are written, and the rest of the buffer is as it was.
abbrev pub invariant-loop-i : goal.invariant-loop-i
invariant-loop-i l = l.buffer ≡ stream_numbers (take l.i l.ids) ++ drop l.i l.initial.buffer
