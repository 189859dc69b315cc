-- What a SACK acknowledges (RFC 9260, sections 6.2.1 and 7.2), and which events this causes.
use Rattle.std.specs.Prelude.{◌≡◌, ℕ, ◌+◌, ◌-◌, ◌%◌, ◌^◌, ◌==◌, ◌&&◌, not, Bool, true, false, Option, None, Some, List, [], ◌∷◌, ◌++◌, take, drop, nat_lt, nat_le, is_some, if◌then◌else◌}
use Rattle.std.specs.Option.{option_map}
use Rattle.dcsctp_types.specs.wire.declared.chunk.sack.GapAckBlock.{GapAckBlock}
use Rattle.dcsctp_types.specs.declared.congestion.Acknowledged.{Acknowledged}
use Rattle.dcsctp_types.specs.declared.progress.Change.TheVariants.{Miss, Acknowledge}
use Rattle.dcsctp_spec.specs.endpoint.Event.{Event, lifecycle_message_delivered, lifecycle_end}
use Rattle.dcsctp_spec.specs.endpoint.Timers.{TimerModel, has_expired}
use Rattle.dcsctp_types.specs.queues.Congestion.{after_loss, after_acknowledgement, exit_after}
use Rattle.dcsctp_spec.specs.queues.Items.{Item, unacknowledged_bytes, unacknowledged_items, never_acknowledged_items, marked_items, changed_between}
use Rattle.dcsctp_spec.specs.queues.Outstanding.{header, tsn_at, next_tsn, acknowledged_count, reported_items}
use Rattle.dcsctp_types.specs.queues.Progress.{is_abandoned}
use Rattle.dcsctp_spec.specs.queues.Reports.{IsNewlyAcknowledged, IsLastPlace, MissesUntil}
use Rattle.dcsctp_spec.specs.queues.Retransmission.{RetransmissionState, outstanding_count, chunk_bytes_in_flight, with_items, timer_with, is_window_closed, all_lost}

-- Is its cumulative TSN ack neither old nor of a TSN that was never sent (RFC 9260, section 6.2.1)?
abbrev pub is_sack_valid : RetransmissionState → ℕ → Bool
is_sack_valid state cumulative = nat_le (acknowledged_count state.outstanding cumulative) (outstanding_count state)

-- the items with those acknowledged that the SACK covers: that many first ones and those that its blocks name
abbrev pub covered_items : ℕ → List GapAckBlock → List Item → List Item
covered_items count blocks items = reported_items count blocks (changed_between Acknowledge 0 count items)

-- More items are lost than before: fast recovery begins with a fast retransmission, unless it is under way.
abbrev pub lossy : RetransmissionState → RetransmissionState
lossy state =
    record state {
      congestion = after_loss state.congestion.recovery_exit ((next_tsn state.outstanding + (2 ^ 32 - 1)) % 2 ^ 32) state.congestion;
      fast_retransmit_due = if is_some state.congestion.recovery_exit then state.fast_retransmit_due else true;
    }

-- the items from the place `count` to before the place `limit` with one more miss; this TSN is the last that the SACK newly
-- acknowledges
abbrev pub missed_until : ℕ → ℕ → Option ℕ → RetransmissionState → RetransmissionState
missed_until count limit newest state =
    let items = changed_between (Miss newest) count limit state.outstanding.items in
    if nat_lt (marked_items state.outstanding.items) (marked_items items) then lossy (with_items items state) else with_items items state

-- what the SACK says for the congestion window: of what was in flight before it, and of the same with what it covers removed
abbrev pub congestion_acknowledgement : ℕ → RetransmissionState → RetransmissionState → Acknowledged
congestion_acknowledgement count old new =
    record {
      bytes = unacknowledged_bytes (header old.outstanding) old.outstanding.items - unacknowledged_bytes (header new.outstanding) new.outstanding.items;
      advances = nat_lt 0 count;
      was_full = nat_le old.congestion.cwnd (chunk_bytes_in_flight old);
      is_last = unacknowledged_items new.outstanding.items == 0;
    }

-- without that many first items
abbrev pub without_first_items : ℕ → RetransmissionState → RetransmissionState
without_first_items count state =
    record state {
      outstanding = record {
        first_tsn = (state.outstanding.first_tsn + count) % 2 ^ 32;
        is_interleaved = state.outstanding.is_interleaved;
        items = drop count state.outstanding.items;
      };
    }

-- The congestion window grows with what was acknowledged.
abbrev pub grown_window : Acknowledged → RetransmissionState → RetransmissionState
grown_window ack state = record state { congestion = after_acknowledgement ack state.congestion.recovery_exit state.congestion }

-- The SACK's items are acknowledged; misses count before the place `limit`.
abbrev pub acknowledged_until : ℕ → List GapAckBlock → ℕ → Option ℕ → RetransmissionState → RetransmissionState
acknowledged_until count blocks limit newest old =
    let left = without_first_items count (missed_until count limit newest (with_items (covered_items count blocks old.outstanding.items) old)) in
    grown_window (congestion_acknowledgement count old left) left

-- fast recovery may end with this cumulative TSN
abbrev pub exiting : ℕ → RetransmissionState → RetransmissionState
exiting cumulative state =
    record state { congestion = record state.congestion { recovery_exit = exit_after cumulative state.congestion.recovery_exit } }

-- The timer once the cumulative TSN has passed that many items: if there were some, it is stopped, so that it starts again.
abbrev pub rewound : ℕ → TimerModel → TimerModel
rewound count timer = if nat_lt 0 count then record timer { running = None } else timer

-- Does the peer's window open, by the RFC, after probes of it have found no room?
abbrev pub opens : RetransmissionState → RetransmissionState → Bool
opens old new = old.follows_rfc && is_window_closed old && not (is_window_closed new) && has_expired old.timer.running

-- Then what is in flight is sent again at once, and the timer starts anew (RFC 9260, section 6.1, rule A).
abbrev pub probes_lost : Bool → RetransmissionState → RetransmissionState
probes_lost true state = record (all_lost state) { timer = record state.timer { running = None } }
probes_lost false state = state

-- The peer's window is this now, and the timer runs while something is outstanding.
abbrev pub window_after_settling : ℕ → ℕ → ℕ → RetransmissionState → RetransmissionState
window_after_settling now window count state =
    let told : RetransmissionState = record state { peer_window = window } in
    let left : RetransmissionState = probes_lost (opens state told) told in
    record left { timer = timer_with now left.outstanding.items (rewound count left.timer) }

-- Is fast recovery under way, and does the cumulative TSN move?
abbrev pub is_recovering : ℕ → RetransmissionState → Bool
is_recovering count state = is_some state.congestion.recovery_exit && nat_lt 0 count

-- A SACK with this cumulative TSN, window and blocks, which are apart, is taken into account.
pub record AcknowledgesItems (now cumulative window : ℕ) (blocks : List GapAckBlock) (old new : RetransmissionState) : Type 0 where
  -- up to where misses count
  pub limit : ℕ
  pub missing : let count = acknowledged_count old.outstanding cumulative in
      MissesUntil (is_recovering count (exiting cumulative old)) count blocks old.outstanding.items limit
  -- the place of the last item that it acknowledges and none before did
  pub newest : Option ℕ
  pub is_newest : let count = acknowledged_count old.outstanding cumulative in
      IsLastPlace (IsNewlyAcknowledged count blocks) old.outstanding.items newest
  pub is : let count = acknowledged_count old.outstanding cumulative in
      new ≡ window_after_settling now window count (acknowledged_until count blocks limit (option_map (tsn_at old.outstanding) newest) (exiting cumulative old))

-- Does it acknowledge an item that no SACK has acknowledged before? One that was abandoned counts, too: whoever acknowledges a
-- FORWARD-TSN is there (RFC 9260, section 8.1).
abbrev pub has_acknowledged : RetransmissionState → RetransmissionState → Bool
has_acknowledged old new = nat_lt (never_acknowledged_items new.outstanding.items) (never_acknowledged_items old.outstanding.items)

-- ---- the events

-- It is the last of its message, which wasn't abandoned.
abbrev pub ends_delivery : Item → Bool
ends_delivery item = item.fragment.is_end && not (is_abandoned item.progress.state)

abbrev pub lifecycle_events_of : {P : Type 0} → Option ℕ → Bool → List (Event P)
lifecycle_events_of None ends = []
lifecycle_events_of (Some id) true = lifecycle_message_delivered id ∷ lifecycle_end id ∷ []
lifecycle_events_of (Some id) false = []

-- the events once the cumulative TSN passes these
abbrev pub delivered_events : {P : Type 0} → List Item → List (Event P)
delivered_events [] = []
delivered_events (item ∷ items) = lifecycle_events_of item.fragment.lifecycle (ends_delivery item) ++ delivered_events items

-- the events once the cumulative TSN is this
abbrev pub delivered_up_to : {P : Type 0} → ℕ → RetransmissionState → List (Event P)
delivered_up_to cumulative state = delivered_events (take (acknowledged_count state.outstanding cumulative) state.outstanding.items)
