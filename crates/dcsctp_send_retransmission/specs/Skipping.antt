-- How the entries of a FORWARD-TSN are collected, item by item.
use Rattle.std.specs.Prelude.{◌≡◌, ℕ, ◌+◌, ◌≤◌, Bool, true, false, Some, List, length, take, slice_get}
use Rattle.std.specs.Option.{option_map}
use Rattle.dcsctp_api.specs.spec.queues.Items.{Item}
use Rattle.dcsctp_send_retransmission.specs.declared.retransmission_queue.forwarding.LastNumbers.{LastNumbers}
use Rattle.dcsctp_api.specs.spec.queues.Retransmission.{RetransmissionState}
use Rattle.dcsctp_api.specs.spec.queues.Skipping.{entry_limit, last_listed, entry_for, LacksRoom, IsSkippedRow}

-- the numbers of an item's message
abbrev pub numbers_of : Item → LastNumbers
numbers_of item = record { ssn = item.fragment.ssn; mid = item.fragment.mid }

-- the entries of a chunk, of what was collected
abbrev pub ssn_entry : (ℕ × Bool) × LastNumbers → (ℕ × Bool) × ℕ
ssn_entry entry = ((entry.0.0, false), entry.1.ssn)

abbrev pub mid_entry : (ℕ × Bool) × LastNumbers → (ℕ × Bool) × ℕ
mid_entry entry = ((entry.0.0, entry.0.1), entry.1.mid)

-- how many entries fit
abbrev pub skipped_entry_limit : RetransmissionState → ℕ
skipped_entry_limit queue = entry_limit queue.outstanding.is_interleaved queue.congestion.mtu

-- the numbers of the last items of a row, by their streams
pub record CollectsLastNumbers (queue : RetransmissionState) (row : List Item) (entries : List ((ℕ × Bool) × LastNumbers)) : Type 0 where
  pub numbers : (stream : ℕ) (unordered : Bool) → entry_for stream unordered entries ≡ option_map numbers_of (last_listed queue.outstanding.is_interleaved stream unordered row)
  pub fits : length entries ≤ skipped_entry_limit queue

-- those of the row that is skipped
pub record SkipsRow (queue : RetransmissionState) (count : ℕ) (entries : List ((ℕ × Bool) × LastNumbers)) : Type 0 where
  pub row : IsSkippedRow queue.outstanding.is_interleaved (skipped_entry_limit queue) (length entries) count queue.outstanding.items
  pub collects : CollectsLastNumbers queue (take count queue.outstanding.items) entries

-- What a try to take one more item in does: it is collected, or there is no room for it.
abbrev pub TakesItem : RetransmissionState → ℕ → List ((ℕ × Bool) × LastNumbers) → List ((ℕ × Bool) × LastNumbers) → Bool → Type 0
TakesItem queue place old new true = CollectsLastNumbers queue (take (place + 1) queue.outstanding.items) new
TakesItem queue place old new false =
    (new ≡ old)
    × ((item : Item) → slice_get queue.outstanding.items place ≡ Some item → LacksRoom queue.outstanding.is_interleaved (skipped_entry_limit queue) (length old) (take place queue.outstanding.items) item)
