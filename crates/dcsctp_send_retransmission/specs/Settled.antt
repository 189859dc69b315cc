-- Items that no later SACK must acknowledge again (RFC 9260, section 6.2.1), and which changes leave them so.
use Rattle.std.specs.Prelude.{not, Bool, true, false, nat_lt, if◌then◌else◌}
use Rattle.dcsctp_api.specs.types.declared.progress.Progress.{Progress}
use Rattle.dcsctp_api.specs.types.declared.progress.Change.{Change}
use Rattle.dcsctp_api.specs.types.declared.progress.Change.TheVariants.{SendAgain, Miss, Mark, Acknowledge, Abandon}
use Rattle.dcsctp_api.specs.types.queues.Progress.{is_in_flight, is_unacknowledged}

-- A SACK has acknowledged it, and it doesn't wait to be acknowledged again.
abbrev pub is_settled : Progress → Bool
is_settled progress = if is_unacknowledged progress.state then false else progress.was_acknowledged

-- the changes that leave what is settled as it is
abbrev pub leaves_settled : Change → Bool
leaves_settled (SendAgain next) = false
leaves_settled (Miss newest) = true
leaves_settled Mark = true
leaves_settled Acknowledge = true
leaves_settled Abandon = false

-- The change is known to leave it as it is.
abbrev pub is_left_unchanged : Change → Progress → Bool
is_left_unchanged (SendAgain next) progress = false
is_left_unchanged (Miss newest) progress = if is_in_flight progress.state then not (nat_lt progress.misses 3) else true
is_left_unchanged Mark progress = not (is_in_flight progress.state)
is_left_unchanged Acknowledge progress = is_settled progress
is_left_unchanged Abandon progress = false

-- what is settled is so no more after the change
abbrev pub is_unsettled : Change → Progress → Bool
is_unsettled (SendAgain next) progress = is_settled progress
is_unsettled (Miss newest) progress = false
is_unsettled Mark progress = false
is_unsettled Acknowledge progress = false
is_unsettled Abandon progress = false
