-- What is in flight, and how much more may be sent (RFC 9260, sections 6 and 7).
use Rattle.std.specs.Prelude.{ℕ, ◌+◌, ◌-◌, ◌%◌, ◌^◌, ◌==◌, ◌&&◌, ◌||◌, min, Bool, true, false, not, Option, None, List, [], ◌∷◌, length, nat_lt, is_some, if◌then◌else◌}
use Rattle.std.specs.Duration.{as_nanos}
use Rattle.dcsctp_types.specs.declared.congestion.CongestionControl.{CongestionControl}
use Rattle.dcsctp_types.specs.declared.kinds.BackoffAlgorithm.TheVariants.{Exponential}
use Rattle.dcsctp_types.specs.declared.options.Options.{Options}
use Rattle.dcsctp_types.specs.declared.progress.Change.TheVariants.{Mark}
use Rattle.dcsctp_spec.specs.endpoint.Timers.{TimerModel, started_timer, running_deadline, running_after, longest_backoff, backed_off}
use Rattle.dcsctp_types.specs.queues.Congestion.{new_congestion, after_timeout}
use Rattle.dcsctp_spec.specs.queues.Items.{Item, bytes_in_flight, marked_items, changed_between}
use Rattle.dcsctp_spec.specs.queues.Outstanding.{OutstandingState, header}

pub record RetransmissionState : Type 0 where
  pub outstanding : OutstandingState
  pub congestion : CongestionControl
  pub timer : TimerModel
  -- the receive window that the peer announced last, in bytes
  pub peer_window : ℕ
  -- May messages be abandoned (RFC 3758)?
  pub partial_reliability : Bool
  -- Do lost items wait for a fast retransmission?
  pub fast_retransmit_due : Bool
  -- Were streams reset since the last item was sent?
  pub reset_begun : Bool
  -- Is the RFC followed where the port doesn't (`Options::follow_rfc`)?
  pub follows_rfc : Bool
  -- Was a round trip measured?
  pub has_measured : Bool
  pub packets_retransmitted : ℕ
  -- chunk headers and padding included
  pub bytes_retransmitted : ℕ

-- The retransmission timer: it backs off without end.
abbrev pub new_timer : Options → TimerModel
new_timer options =
    record {
      running = None;
      settings = record {
        duration = as_nanos options.rto_initial;
        terms = record {
          backoff = Exponential;
          max_restarts = None;
          max_backoff = longest_backoff options;
        };
      };
    }

-- nothing was sent yet
abbrev pub new_retransmission : Options → ℕ → ℕ → Bool → Bool → RetransmissionState
new_retransmission options first_tsn window partial_reliability is_interleaved =
    record {
      outstanding = record { first_tsn = first_tsn; is_interleaved = is_interleaved; items = [] };
      congestion = new_congestion options window;
      timer = new_timer options;
      peer_window = window;
      partial_reliability = partial_reliability;
      fast_retransmit_due = false;
      reset_begun = false;
      follows_rfc = options.follow_rfc;
      has_measured = false;
      packets_retransmitted = 0;
      bytes_retransmitted = 0;
    }

-- ---- what is read off it

-- how many items were sent that the cumulative TSN ack hasn't passed
abbrev pub outstanding_count : RetransmissionState → ℕ
outstanding_count state = length state.outstanding.items

-- what is in flight, chunk headers and padding included
abbrev pub chunk_bytes_in_flight : RetransmissionState → ℕ
chunk_bytes_in_flight state = bytes_in_flight (header state.outstanding) state.outstanding.items

-- what is left of the peer's window
abbrev pub window_left : RetransmissionState → ℕ
window_left state = state.peer_window - chunk_bytes_in_flight state

-- Do lost items wait that are to be sent at once (RFC 9260, section 7.2.4)?
abbrev pub has_fast_retransmit : RetransmissionState → Bool
has_fast_retransmit state = state.fast_retransmit_due && nat_lt 0 (marked_items state.outstanding.items)

-- when the retransmission timer expires, if it runs
abbrev pub retransmission_deadline : RetransmissionState → Option ℕ
retransmission_deadline state = running_deadline state.timer.running

-- May data be sent? Yes if less than both windows is in flight. Yes if nothing is: a probe may always go (RFC 9260, section 6.1).
abbrev pub can_send : RetransmissionState → Bool
can_send state =
    (chunk_bytes_in_flight state == 0) || (nat_lt (chunk_bytes_in_flight state) state.congestion.cwnd && nat_lt (chunk_bytes_in_flight state) state.peer_window)

-- ---- moves

-- with these items
abbrev pub with_items : List Item → RetransmissionState → RetransmissionState
with_items items state = record state { outstanding = record state.outstanding { items = items } }

-- The timer with something outstanding, at this moment: it is started if it doesn't run.
abbrev pub kept_running : ℕ → TimerModel → TimerModel
kept_running now timer = if is_some timer.running then timer else record timer { running = started_timer now timer.settings }

-- The timer once these items are outstanding (RFC 9260, section 6.3.2).
abbrev pub timer_with : ℕ → List Item → TimerModel → TimerModel
timer_with now [] timer = record timer { running = None }
timer_with now (item ∷ items) timer = kept_running now timer

-- Is the peer's window smaller than a packet? Then what is sent is a probe of it (RFC 9260, section 6.1, rule A).
abbrev pub is_window_closed : RetransmissionState → Bool
is_window_closed state = nat_lt state.peer_window (state.congestion.mtu - state.congestion.mtu % 4)

-- All that was in flight is lost.
abbrev pub all_lost : RetransmissionState → RetransmissionState
all_lost state = with_items (changed_between Mark 0 (outstanding_count state) state.outstanding.items) state

-- The timer that has expired. By the RFC the timeout stays doubled until a round trip is measured (RFC 9260, section 6.3.3): here
-- until the first one is, and not by probes of a closed window, which aren't lost.
abbrev pub expired_timer : ℕ → RetransmissionState → TimerModel
expired_timer now state =
    let timer : TimerModel = record state.timer { running = running_after now state.timer.running } in
    if state.follows_rfc && not state.has_measured && not (is_window_closed state) then backed_off timer else timer

-- The retransmission timer has expired (RFC 9260, section 6.3.3): all that was in flight is lost.
abbrev pub after_expiry : ℕ → RetransmissionState → RetransmissionState
after_expiry now state = record (all_lost state) { congestion = after_timeout state.congestion; timer = expired_timer now state }

-- how long an acknowledgement is awaited when the timer is started next (RFC 9260, section 6.3.2)
abbrev pub with_duration : ℕ → Bool → RetransmissionState → RetransmissionState
with_duration rto measured state =
    record state {
      has_measured = state.has_measured || measured;
      timer = record state.timer { settings = record state.timer.settings { duration = if measured then rto else state.timer.settings.duration } };
    }

-- Outgoing streams are reset: numbers start again after the last assigned TSN (RFC 6525, section 5.1.2).
abbrev pub with_reset_begun : RetransmissionState → RetransmissionState
with_reset_begun state = record state { reset_begun = true }

-- What was sent goes to another peer, with this window: all of it is lost, and nothing is known of the path.
abbrev pub kept_for_peer : ℕ → Options → ℕ → RetransmissionState → RetransmissionState
kept_for_peer now options window state =
    record (all_lost state) {
      congestion = new_congestion options window;
      timer = timer_with now state.outstanding.items (record state.timer { running = None });
      peer_window = window;
      fast_retransmit_due = false;
    }

-- one more packet with that many bytes of chunks that were sent again, if there are any
abbrev pub counted_again : ℕ → RetransmissionState → RetransmissionState
counted_again size state =
    if nat_lt 0 size
    then record state {
      packets_retransmitted = min (state.packets_retransmitted + 1) (2 ^ 64 - 1);
      bytes_retransmitted = min (state.bytes_retransmitted + size) (2 ^ 64 - 1);
    }
    else state
