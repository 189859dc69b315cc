use Rattle.std.proofs.Common.{◌≡◌, drop}
use Rattle.dcsctp_core.specs.api.Messages.{refused_messages}
use Rattle.dcsctp_world.specs.Messages.{is_place_refused}
use Rattle.dcsctp_world.proofs.user_messages.is_among.Given as goal

-- what is left says what all say
abbrev pub invariant-loop-index : goal.invariant-loop-index
invariant-loop-index l = is_place_refused l.place (refused_messages (drop l.index-index l.refused)) ≡ is_place_refused l.place (refused_messages l.refused)
