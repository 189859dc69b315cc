-- What is kept of the sums over all items, as items come and go.
use Rattle.std.specs.Prelude.{not, ℕ, ◌+◌, ◌-◌, ◌<◌, ◌≤◌, ◌^◌}
use Rattle.dcsctp_api.specs.types.declared.progress.Progress.{Progress}
use Rattle.dcsctp_send_retransmission.specs.declared.totals.Totals.{Totals}
use Rattle.dcsctp_api.specs.types.queues.Progress.{is_in_flight, is_marked, is_unacknowledged}
use Rattle.dcsctp_api.specs.spec.queues.Items.{number_or_zero}

-- those of no items
abbrev pub no_totals : Totals
no_totals = record { in_flight_bytes = 0; unacknowledged_bytes = 0; unacknowledged_items = 0; never_acknowledged_items = 0; marked_items = 0 }

-- with one more item, so far and of this size
abbrev pub total_with : Progress → ℕ → Totals → Totals
total_with progress size totals =
    record {
      in_flight_bytes = totals.in_flight_bytes + number_or_zero (is_in_flight progress.state) size;
      unacknowledged_bytes = totals.unacknowledged_bytes + number_or_zero (is_unacknowledged progress.state) size;
      unacknowledged_items = totals.unacknowledged_items + number_or_zero (is_unacknowledged progress.state) 1;
      never_acknowledged_items = totals.never_acknowledged_items + number_or_zero (not progress.was_acknowledged) 1;
      marked_items = totals.marked_items + number_or_zero (is_marked progress.state) 1;
    }

-- without one such item
abbrev pub total_without : Progress → ℕ → Totals → Totals
total_without progress size totals =
    record {
      in_flight_bytes = totals.in_flight_bytes - number_or_zero (is_in_flight progress.state) size;
      unacknowledged_bytes = totals.unacknowledged_bytes - number_or_zero (is_unacknowledged progress.state) size;
      unacknowledged_items = totals.unacknowledged_items - number_or_zero (is_unacknowledged progress.state) 1;
      never_acknowledged_items = totals.never_acknowledged_items - number_or_zero (not progress.was_acknowledged) 1;
      marked_items = totals.marked_items - number_or_zero (is_marked progress.state) 1;
    }

-- there is such an item among them
pub record HasOne (progress : Progress) (size : ℕ) (totals : Totals) : Type 0 where
  pub in_flight_bytes : number_or_zero (is_in_flight progress.state) size ≤ totals.in_flight_bytes
  pub unacknowledged_bytes : number_or_zero (is_unacknowledged progress.state) size ≤ totals.unacknowledged_bytes
  pub unacknowledged_items : number_or_zero (is_unacknowledged progress.state) 1 ≤ totals.unacknowledged_items
  pub never_acknowledged_items : number_or_zero (not progress.was_acknowledged) 1 ≤ totals.never_acknowledged_items
  pub marked_items : number_or_zero (is_marked progress.state) 1 ≤ totals.marked_items

-- there is room for one more of this size in each number of 64 bits
pub record HasRoomInTotals (size : ℕ) (totals : Totals) : Type 0 where
  pub in_flight_bytes : totals.in_flight_bytes + size < 2 ^ 64
  pub unacknowledged_bytes : totals.unacknowledged_bytes + size < 2 ^ 64
  pub unacknowledged_items : totals.unacknowledged_items + 1 < 2 ^ 64
  pub never_acknowledged_items : totals.never_acknowledged_items + 1 < 2 ^ 64
  pub marked_items : totals.marked_items + 1 < 2 ^ 64
