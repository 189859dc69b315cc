use Rattle.std.proofs.Common.{◌≡◌, drop, map}
use Rattle.dcsctp_channels.specs.Layer.{waiting_said, place_from}
use Rattle.dcsctp_channels.proofs.closing.place_of.Given as goal

-- its place is the one among those that are left
abbrev pub invariant-loop-place : goal.invariant-loop-place
invariant-loop-place l =
    record { rest : place_from l.place l.id.0 (map waiting_said (drop l.place l.layer.waiting.items)) ≡ place_from 0 l.id.0 (map waiting_said l.layer.waiting.items) }
