-- What a snapshot has of what is in flight, and what is restored from it.
use Rattle.std.specs.Prelude.{ℕ, ◌+◌, ◌-◌, ◌%◌, ◌^◌, ◌||◌, min, Bool, true, false, if◌then◌else◌, None, List, [], take, map}
use Rattle.std.specs.Option.{option_map, unwrap_or}
use Rattle.dcsctp_types.specs.declared.progress.ItemState.{ItemState}
use Rattle.dcsctp_types.specs.declared.progress.ItemState.TheVariants.{InFlight, Marked, Acknowledged, Abandoned}
use Rattle.dcsctp_types.specs.Lifetimes.{millis_ahead, moment_ahead, millis_since, moment_before}
use Rattle.dcsctp_types.specs.Snapshot.{SendPart}
use Rattle.dcsctp_types.specs.SnapshotItems.{OutstandingPart}
use Rattle.dcsctp_spec.specs.queues.Items.{Item}
use Rattle.dcsctp_spec.specs.queues.Outstanding.{next_tsn}
use Rattle.dcsctp_types.specs.queues.Progress.{is_marked, is_abandoned}
use Rattle.dcsctp_spec.specs.queues.QueuedParts.{no_part_limit, limit_in_part, name_in_part}
use Rattle.dcsctp_spec.specs.queues.Retransmission.{RetransmissionState, timer_with}
use Rattle.dcsctp_spec.specs.queues.Sending.{Fragment}

-- ---- what is given

abbrev pub outstanding_given : ℕ → Item → OutstandingPart
outstanding_given now item =
    record {
      stream_id = item.fragment.stream;
      ssn = item.fragment.ssn;
      mid = item.fragment.mid;
      fsn = item.fragment.fsn;
      ppid = item.fragment.ppid;
      payload = item.fragment.payload;
      is_beginning = item.fragment.is_beginning;
      is_end = item.fragment.is_end;
      is_unordered = item.fragment.is_unordered;
      message_id = item.fragment.message_id;
      lifecycle_id = unwrap_or item.fragment.lifecycle 0;
      expires_in_ms = option_map (millis_ahead now) item.fragment.expires_at;
      max_retransmissions = unwrap_or item.fragment.max_retransmissions no_part_limit;
      retransmission_count = item.progress.times_sent_again;
      time_since_sent_ms = millis_since now item.sent_at;
      acked = item.progress.was_acknowledged;
      is_abandoned = is_abandoned item.progress.state;
      is_nacked = is_marked item.progress.state;
      is_to_be_retransmitted = is_marked item.progress.state;
    }

-- no greater than a number of 32 bits can be
abbrev pub in_32_bits : ℕ → ℕ
in_32_bits size = min size (2 ^ 32 - 1)

-- The part with the numbers of TSNs and the windows, and what is outstanding if it is to go along.
abbrev pub with_retransmission : ℕ → Bool → RetransmissionState → SendPart → SendPart
with_retransmission now with_data state tx =
    record tx {
      next_tsn = next_tsn state.outstanding;
      cwnd = in_32_bits state.congestion.cwnd;
      rwnd = in_32_bits state.peer_window;
      ssthresh = in_32_bits state.congestion.ssthresh;
      partial_bytes_acked = in_32_bits state.congestion.partial_bytes_acked;
      last_cumulative_tsn_ack = (state.outstanding.first_tsn + (2 ^ 32 - 1)) % 2 ^ 32;
      outstanding_data = if with_data then map (outstanding_given now) state.outstanding.items else [];
    }

-- ---- what is restored

-- how far it is: was its message abandoned, was it acknowledged, or does it wait to be sent again?
abbrev pub state_again : Bool → Bool → Bool → ItemState
state_again true acknowledged lost = Abandoned
state_again false true lost = Acknowledged
state_again false false true = Marked
state_again false false false = InFlight

abbrev pub fragment_again : ℕ → OutstandingPart → Fragment
fragment_again now part =
    record {
      message_id = part.message_id;
      stream = part.stream_id;
      ssn = part.ssn;
      mid = part.mid;
      fsn = part.fsn;
      ppid = part.ppid;
      is_unordered = part.is_unordered;
      is_beginning = part.is_beginning;
      is_end = part.is_end;
      payload = part.payload;
      max_retransmissions = limit_in_part part.max_retransmissions;
      expires_at = option_map (moment_ahead now) part.expires_in_ms;
      lifecycle = name_in_part part.lifecycle_id;
    }

-- Its misses are counted from zero, and each SACK can show it missing. `was_reset`: streams were reset before. Which items were
-- sent before that isn't kept, so no FORWARD-TSN reaches across any.
abbrev pub item_again : ℕ → Bool → OutstandingPart → Item
item_again now was_reset part =
    record {
      fragment = fragment_again now part;
      progress = record {
        state = state_again part.is_abandoned part.acked (part.is_to_be_retransmitted || part.is_nacked);
        was_acknowledged = part.acked;
        times_sent_again = part.retransmission_count;
        sent_before = None;
        misses = 0;
      };
      sent_at = moment_before now part.time_since_sent_ms;
      begins_after_reset = was_reset;
    }

-- Items whose TSNs can be compared; no snapshot of a socket has more.
abbrev pub items_again : ℕ → Bool → List OutstandingPart → List Item
items_again now was_reset parts = map (item_again now was_reset) (take (2 ^ 31 - 1) parts)

-- A queue that was just made continues after the last TSN that was acknowledged. The timer starts if something is outstanding.
abbrev pub retransmission_restored : ℕ → Bool → SendPart → RetransmissionState → RetransmissionState
retransmission_restored now was_reset tx state =
    record state {
      outstanding = record state.outstanding {
        first_tsn = (tx.last_cumulative_tsn_ack + 1) % 2 ^ 32;
        items = items_again now was_reset tx.outstanding_data;
      };
      congestion = record state.congestion { cwnd = tx.cwnd; ssthresh = tx.ssthresh; partial_bytes_acked = tx.partial_bytes_acked };
      peer_window = tx.rwnd;
      timer = timer_with now (items_again now was_reset tx.outstanding_data) state.timer;
      reset_begun = was_reset;
    }
