-- Outside examples of specs/queues/OutstandingParts: four TSNs are outstanding, one in each state that an item has.
use Rattle.std.proofs.Common.{◌≡◌, ℕ, true, false, None, Some, List, [], ◌∷◌, map, refl}
use Rattle.dcsctp_types.specs.declared.congestion.CongestionControl.{CongestionControl}
use Rattle.dcsctp_types.specs.declared.kinds.BackoffAlgorithm.TheVariants.{Exponential}
use Rattle.dcsctp_types.specs.declared.progress.ItemState.{ItemState}
use Rattle.dcsctp_types.specs.declared.progress.ItemState.TheVariants.{InFlight, Marked, Acknowledged, Abandoned}
use Rattle.dcsctp_types.specs.declared.progress.Progress.{Progress}
use Rattle.dcsctp_types.specs.Snapshot.{empty_send_part}
use Rattle.dcsctp_spec.specs.endpoint.Timers.{TimerModel}
use Rattle.dcsctp_spec.specs.queues.Items.{Item}
use Rattle.dcsctp_spec.specs.queues.OutstandingParts.{outstanding_given, with_retransmission, items_again, retransmission_restored}
use Rattle.dcsctp_spec.specs.queues.Retransmission.{RetransmissionState}
use Rattle.dcsctp_spec.specs.queues.Sending.{Fragment}

-- ---- a queue

abbrev whole : Fragment
whole =
    record { message_id = 7; stream = 1; ssn = 5; mid = 0; fsn = 0; ppid = 51; is_unordered = false; is_beginning = true; is_end = true; payload = 1 ∷ 2 ∷ []; max_retransmissions = None; expires_at = None; lifecycle = None }

abbrev begun : Fragment
begun =
    record { message_id = 8; stream = 2; ssn = 0; mid = 3; fsn = 0; ppid = 53; is_unordered = true; is_beginning = true; is_end = false; payload = 3 ∷ []; max_retransmissions = Some 3; expires_at = Some 4000000; lifecycle = Some 9 }

abbrev far : ItemState → ℕ → Progress
far state times = record { state = state; was_acknowledged = false; times_sent_again = times; sent_before = None; misses = 0 }

abbrev sent : Fragment → Progress → ℕ → Item
sent fragment progress moment = record { fragment = fragment; progress = progress; sent_at = moment; begins_after_reset = false }

abbrev items : List Item
items =
    sent whole (far InFlight 0) 1000000
    ∷ sent begun (far Marked 2) 2000000
    ∷ sent whole (record (far Acknowledged 0) { was_acknowledged = true }) 2000000
    ∷ sent begun (record (far Abandoned 1) { was_acknowledged = true }) 3000000
    ∷ []

abbrev windows : CongestionControl
windows = record { cwnd = 5000; ssthresh = 8000; partial_bytes_acked = 300; recovery_exit = None; mtu = 1000; least_ssthresh = 4000 }

-- It expires a second from the moment 3,000,000 on.
abbrev timer : TimerModel
timer =
    record {
      running = Some (record { deadline = 1003000000; wait = 1000000000; expiries = 0; terms = record { backoff = Exponential; max_restarts = None; max_backoff = None } });
      settings = record { duration = 1000000000; terms = record { backoff = Exponential; max_restarts = None; max_backoff = None } };
    }

-- The first TSN is the least one, and the last that was acknowledged the greatest.
abbrev state : RetransmissionState
state =
    record {
      outstanding = record { first_tsn = 0; is_interleaved = false; items = items };
      congestion = windows;
      timer = timer;
      peer_window = 70000;
      partial_reliability = true;
      fast_retransmit_due = false;
      reset_begun = false;
      follows_rfc = false;
      has_measured = false;
      packets_retransmitted = 0;
      bytes_retransmitted = 0;
    }

-- the queue of another socket
abbrev other : RetransmissionState
other =
    record state {
      outstanding = record { first_tsn = 77; is_interleaved = false; items = [] };
      congestion = record windows { cwnd = 1000; ssthresh = 1000; partial_bytes_acked = 0 };
      timer = record timer { running = None };
      peer_window = 1000;
    }

-- ---- what comes of it

-- It comes back whole, at the moment at which it was given.
comes_back : retransmission_restored 3000000 false (with_retransmission 3000000 true state empty_send_part) other ≡ state
comes_back = refl

-- The last TSN that was acknowledged, and the next one.
last_acknowledged : (with_retransmission 3000000 true state empty_send_part).last_cumulative_tsn_ack ≡ 4294967295
last_acknowledged = refl

next_is : (with_retransmission 3000000 true state empty_send_part).next_tsn ≡ 4
next_is = refl

-- Without the data nothing is outstanding, and no timer runs.
numbers_come_back : retransmission_restored 3000000 false (with_retransmission 3000000 false state empty_send_part) other
    ≡ record state { outstanding = record state.outstanding { items = [] }; timer = record timer { running = None } }
numbers_come_back = refl

-- Where streams were reset, no FORWARD-TSN reaches across an item, nor from these to what is sent next.
each_ends_a_forward_tsn : map (λ (item : Item). item.begins_after_reset) (items_again 3000000 true (map (outstanding_given 3000000) items)) ≡ true ∷ true ∷ true ∷ true ∷ []
each_ends_a_forward_tsn = refl

next_begins_after_it : (retransmission_restored 3000000 true (with_retransmission 3000000 true state empty_send_part) other).reset_begun ≡ true
next_begins_after_it = refl
