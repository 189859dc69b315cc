-- How far an item is, and what changes that (RFC 9260, section 7.2.4; RFC 3758, section 3.5).
use Rattle.std.specs.Prelude.{ℕ, ◌+◌, ◌-◌, ◌%◌, ◌^◌, ◌==◌, min, Bool, true, false, Option, None, Some, nat_lt, if◌then◌else◌}
use Rattle.dcsctp_types.specs.declared.progress.ItemState.{ItemState}
use Rattle.dcsctp_types.specs.declared.progress.ItemState.TheVariants.{InFlight, Marked, Acknowledged, Abandoned}
use Rattle.dcsctp_types.specs.declared.progress.Progress.{Progress}
use Rattle.dcsctp_types.specs.declared.progress.Change.{Change}
use Rattle.dcsctp_types.specs.declared.progress.Change.TheVariants.{SendAgain, Miss, Mark, Acknowledge, Abandon}

abbrev pub is_in_flight : ItemState → Bool
is_in_flight InFlight = true
is_in_flight Marked = false
is_in_flight Acknowledged = false
is_in_flight Abandoned = false

-- It waits to be sent again.
abbrev pub is_marked : ItemState → Bool
is_marked InFlight = false
is_marked Marked = true
is_marked Acknowledged = false
is_marked Abandoned = false

-- It was neither acknowledged nor abandoned.
abbrev pub is_unacknowledged : ItemState → Bool
is_unacknowledged InFlight = true
is_unacknowledged Marked = true
is_unacknowledged Acknowledged = false
is_unacknowledged Abandoned = false

abbrev pub is_abandoned : ItemState → Bool
is_abandoned InFlight = false
is_abandoned Marked = false
is_abandoned Acknowledged = false
is_abandoned Abandoned = true

-- the most that is counted of how often an item was sent again: the greatest number of 16 bits
abbrev pub most_times : ℕ
most_times = 65535

-- in flight, once more, before the TSN that is sent next for the first time; its misses count from 0 again
abbrev pub item_sent_again : ℕ → Progress → Progress
item_sent_again next progress =
    record progress {
      state = InFlight;
      times_sent_again = min (progress.times_sent_again + 1) most_times;
      sent_before = Some next;
      misses = 0;
    }

-- Has the TSN reached the other one? It has if it is at most 2^31 - 1 ahead of it (RFC 9260, section 1.6).
abbrev pub has_come_to : ℕ → ℕ → Bool
has_come_to newest tsn = nat_lt ((newest + (2 ^ 32 - tsn)) % 2 ^ 32) (2 ^ 31)

-- Does a SACK tell whether an item is missing? It depends on the TSN before which the item was sent again, and on the newest TSN
-- that the SACK newly acknowledges. For an item that was sent once each SACK tells. For one that was sent again, only a SACK
-- tells that acknowledges what was sent after it. Others may have left before it could arrive.
abbrev pub tells_whether_missing : Option ℕ → Option ℕ → Bool
tells_whether_missing None newest = true
tells_whether_missing (Some next) None = false
tells_whether_missing (Some next) (Some newest) = has_come_to newest next

-- one more miss of an item in flight; the third marks it, and later ones don't count
abbrev pub missed_progress : ItemState → Progress → Progress
missed_progress InFlight progress =
    if progress.misses == 2 then record progress { state = Marked; misses = 3 }
    else if nat_lt progress.misses 2 then record progress { misses = progress.misses + 1 }
    else progress
missed_progress Marked progress = progress
missed_progress Acknowledged progress = progress
missed_progress Abandoned progress = progress

-- one more miss, if the SACK tells of the item
abbrev pub missed_if_told : Bool → Progress → Progress
missed_if_told true progress = missed_progress progress.state progress
missed_if_told false progress = progress

-- what was in flight is lost
abbrev pub marked_lost : ItemState → Progress → Progress
marked_lost InFlight progress = record progress { state = Marked }
marked_lost Marked progress = progress
marked_lost Acknowledged progress = progress
marked_lost Abandoned progress = progress

-- A SACK has acknowledged it. What was abandoned stays so.
abbrev pub acknowledged_progress : ItemState → Progress → Progress
acknowledged_progress InFlight progress = record progress { state = Acknowledged; was_acknowledged = true }
acknowledged_progress Marked progress = record progress { state = Acknowledged; was_acknowledged = true }
acknowledged_progress Acknowledged progress = record progress { was_acknowledged = true }
acknowledged_progress Abandoned progress = record progress { was_acknowledged = true }

abbrev pub progress_changed : Change → Progress → Progress
progress_changed (SendAgain next) progress = item_sent_again next progress
progress_changed (Miss newest) progress = missed_if_told (tells_whether_missing progress.sent_before newest) progress
progress_changed Mark progress = marked_lost progress.state progress
progress_changed Acknowledge progress = acknowledged_progress progress.state progress
progress_changed Abandon progress = record progress { state = Abandoned }

-- that of an item that was just sent
abbrev pub just_sent : Progress
just_sent = record { state = InFlight; was_acknowledged = false; times_sent_again = 0; sent_before = None; misses = 0 }
