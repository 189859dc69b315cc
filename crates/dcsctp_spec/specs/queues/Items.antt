-- Items that were sent, one under each TSN, and sums over them.
use Rattle.std.specs.Prelude.{false, not, ℕ, zero, suc, ◌+◌, ◌*◌, ◌/◌, min, Bool, List, [], ◌∷◌, length, sum_by, if◌then◌else◌}
use Rattle.dcsctp_types.specs.declared.progress.Change.{Change}
use Rattle.dcsctp_types.specs.declared.progress.Progress.{Progress}
use Rattle.dcsctp_spec.specs.queues.Sending.{Fragment}
use Rattle.dcsctp_types.specs.Sizes.{greatest_length}
use Rattle.dcsctp_types.specs.queues.Progress.{is_in_flight, is_marked, is_unacknowledged, is_abandoned, progress_changed}

-- what was sent under one TSN
pub record Item : Type 0 where
  -- what its chunk says; without a payload it marks the end of an abandoned message
  pub fragment : Fragment
  -- how far it is
  pub progress : Progress
  -- when it was sent first, in nanoseconds
  pub sent_at : ℕ
  -- Were streams reset before it was sent? No FORWARD-TSN reaches across that.
  pub begins_after_reset : Bool

-- the number if the test holds, else nothing
abbrev pub number_or_zero : Bool → ℕ → ℕ
number_or_zero test number = if test then number else 0

-- A payload with its chunk's header and padding (RFC 9260, section 3.2). A chunk's length has 16 bits, so no payload is
-- above 65,535 bytes.
abbrev pub chunk_size : ℕ → ℕ → ℕ
chunk_size header len = header + (min len greatest_length + 3) / 4 * 4

-- how long the item's chunk is
abbrev pub item_size : ℕ → Item → ℕ
item_size header item = chunk_size header (length item.fragment.payload)

-- what an item adds to each sum
abbrev pub in_flight_size : ℕ → Item → ℕ
in_flight_size header item = number_or_zero (is_in_flight item.progress.state) (item_size header item)

abbrev pub unacknowledged_size : ℕ → Item → ℕ
unacknowledged_size header item = number_or_zero (is_unacknowledged item.progress.state) (item_size header item)

abbrev pub unacknowledged_count : Item → ℕ
unacknowledged_count item = number_or_zero (is_unacknowledged item.progress.state) 1

abbrev pub never_acknowledged_count : Item → ℕ
never_acknowledged_count item = number_or_zero (not item.progress.was_acknowledged) 1

abbrev pub marked_count : Item → ℕ
marked_count item = number_or_zero (is_marked item.progress.state) 1

-- the bytes in flight, chunk headers and padding included
abbrev pub bytes_in_flight : ℕ → List Item → ℕ
bytes_in_flight header items = sum_by (in_flight_size header) items

-- the bytes that are neither acknowledged nor abandoned
abbrev pub unacknowledged_bytes : ℕ → List Item → ℕ
unacknowledged_bytes header items = sum_by (unacknowledged_size header) items

-- how many items are neither acknowledged nor abandoned
abbrev pub unacknowledged_items : List Item → ℕ
unacknowledged_items items = sum_by unacknowledged_count items

-- how many items no SACK has acknowledged, abandoned or not
abbrev pub never_acknowledged_items : List Item → ℕ
never_acknowledged_items items = sum_by never_acknowledged_count items

-- how many items wait to be sent again
abbrev pub marked_items : List Item → ℕ
marked_items items = sum_by marked_count items

-- the item after the change
abbrev pub changed_item : Change → Item → Item
changed_item change item = record item { progress = progress_changed change item.progress }

-- the items, with the change made to those from place `start` to before place `end`
abbrev pub changed_between : Change → ℕ → ℕ → List Item → List Item
changed_between change zero zero items = items
changed_between change zero (suc end) [] = []
changed_between change zero (suc end) (item ∷ items) = changed_item change item ∷ changed_between change zero end items
changed_between change (suc start) zero items = items
changed_between change (suc start) (suc end) [] = []
changed_between change (suc start) (suc end) (item ∷ items) = item ∷ changed_between change start end items

-- Was the message of the first item abandoned?
abbrev pub is_first_abandoned : List Item → Bool
is_first_abandoned [] = false
is_first_abandoned (item ∷ items) = is_abandoned item.progress.state
