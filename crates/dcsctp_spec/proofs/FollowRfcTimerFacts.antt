-- Outside examples of what `follow_rfc` changes of timers, worked out by hand and computed by the definitions: a wrong rule in
-- specs/ would not check here. Durations and moments are nanoseconds.
use Rattle.std.proofs.Common.{◌≡◌, ℕ, Bool, true, false, Option, None, Some, refl}
use Rattle.dcsctp_types.specs.declared.kinds.BackoffAlgorithm.TheVariants.{Exponential}
use Rattle.dcsctp_types.specs.declared.options.Options.{Options}
use Rattle.dcsctp_spec.specs.endpoint.BegunResets.{reconfiguration_settings}
use Rattle.dcsctp_spec.specs.endpoint.Endpoint.{Endpoint, heartbeat_wait}
use Rattle.dcsctp_spec.specs.endpoint.HeartbeatOutcomes.{endpoint_answered, beating, heartbeat_round_trip}
use Rattle.dcsctp_spec.specs.endpoint.ShutdownOutcomes.{t2_terms}
use Rattle.dcsctp_spec.specs.endpoint.Timers.{RunningTimer, TimerModel, backed_off, longest_backoff}
use Rattle.dcsctp_spec.specs.queues.Acknowledging.{opens}
use Rattle.dcsctp_spec.specs.queues.Retransmission.{RetransmissionState, expired_timer}
use Rattle.dcsctp_spec.specs.queues.Timeout.{new_timeout}
use Rattle.dcsctp_spec.specs.queues.Transfer.{Transfer}

-- ---- the heartbeat interval, of 30 s, where the first retransmission timeout is 500 ms

abbrev beating_at : Bool → Options → Options
beating_at follows options =
    record options {
      follow_rfc = follows;
      heartbeat_interval = record { secs = 30; nanos = 0 };
      rto_initial = record { secs = 0; nanos = 500_000_000 };
    }

-- half the timeout more at the least, and less than three halves: by the last 16 bits of the tag
shortest_wait : (options : Options) → heartbeat_wait (beating_at true options) 0x7_0000 ≡ 30_250_000_000
shortest_wait options = refl

-- 7,629 ns a step
next_wait_of_tag : (options : Options) → heartbeat_wait (beating_at true options) 0x7_0001 ≡ 30_250_007_629
next_wait_of_tag options = refl

longest_wait_of_tag : (options : Options) → heartbeat_wait (beating_at true options) 0xffff_ffff ≡ 30_749_966_515
longest_wait_of_tag options = refl

wait_by_port : (options : Options) → heartbeat_wait (beating_at false options) 0xffff_ffff ≡ 30_000_000_000
wait_by_port options = refl

-- ---- the longest backoff

-- the greatest timeout is 60 s
abbrev limited : Bool → ℕ → Options → Options
limited follows seconds options =
    record options {
      follow_rfc = follows;
      max_retransmissions = Some 2;
      rto_max = record { secs = 60; nanos = 0 };
      max_timer_backoff_duration = Some (record { secs = seconds; nanos = 0 });
    }

unlimited : Bool → Options → Options
unlimited follows options = record (limited follows 0 options) { max_timer_backoff_duration = None }

timeout_bounds : (options : Options) → longest_backoff (unlimited true options) ≡ Some 60_000_000_000
unfolding unlimited
timeout_bounds options = refl

less_bounds : (options : Options) → longest_backoff (limited true 3 options) ≡ Some 3_000_000_000
less_bounds options = refl

more_does_not : (options : Options) → longest_backoff (limited true 61 options) ≡ Some 60_000_000_000
more_does_not options = refl

unbounded_by_port : (options : Options) → longest_backoff (unlimited false options) ≡ None
unfolding unlimited
unbounded_by_port options = refl

more_by_port : (options : Options) → longest_backoff (limited false 61 options) ≡ Some 61_000_000_000
more_by_port options = refl

-- T2 has that bound, too, and by the port none.
t2_is_bounded : (options : Options) → t2_terms (limited true 3 options) ≡ record { backoff = Exponential; max_restarts = Some 2; max_backoff = Some 3_000_000_000 }
t2_is_bounded options = refl

t2_by_port : (options : Options) → t2_terms (limited false 3 options) ≡ record { backoff = Exponential; max_restarts = Some 2; max_backoff = None }
t2_by_port options = refl

-- So has the timer of a request to reset streams.
abbrev begun : Bool → Options → Transfer → Transfer
begun follows options transfer = record transfer { timeout = new_timeout (limited follows 3 options) }

request_is_bounded : (options : Options) (transfer : Transfer) → (reconfiguration_settings (Some (begun true options transfer))).terms.max_backoff ≡ Some 3_000_000_000
request_is_bounded options transfer = refl

request_by_port : (options : Options) (transfer : Transfer) → (reconfiguration_settings (Some (begun false options transfer))).terms.max_backoff ≡ None
request_by_port options transfer = refl

-- ---- a timeout that is doubled

-- a timer of a second, or of another wait, with a bound of 1.5 s
abbrev waits : ℕ → Option RunningTimer → TimerModel
waits duration running =
    record { running = running; settings = record { duration = duration; terms = record { backoff = Exponential; max_restarts = None; max_backoff = Some 1_500_000_000 } } }

doubled : backed_off (waits 700_000_000 None) ≡ waits 1_400_000_000 None
doubled = refl

up_to_its_bound : backed_off (waits 1_000_000_000 None) ≡ waits 1_500_000_000 None
up_to_its_bound = refl

-- A timeout above the bound stays.
never_shorter : backed_off (waits 2_000_000_000 None) ≡ waits 2_000_000_000 None
never_shorter = refl

-- it doesn't run; the peer's window has so many bytes, and a packet 1,000
abbrev expiring : Bool → Bool → ℕ → RetransmissionState → RetransmissionState
expiring follows measured window state =
    record state {
      congestion = record state.congestion { mtu = 1000 };
      timer = waits 700_000_000 None;
      peer_window = window;
      follows_rfc = follows;
      has_measured = measured;
    }

doubles_unmeasured : (state : RetransmissionState) → expired_timer 5 (expiring true false 1000 state) ≡ waits 1_400_000_000 None
doubles_unmeasured state = refl

stays_once_measured : (state : RetransmissionState) → expired_timer 5 (expiring true true 1000 state) ≡ waits 700_000_000 None
stays_once_measured state = refl

-- What finds no room isn't lost.
stays_while_closed : (state : RetransmissionState) → expired_timer 5 (expiring true false 999 state) ≡ waits 700_000_000 None
stays_while_closed state = refl

stays_by_port : (state : RetransmissionState) → expired_timer 5 (expiring false false 1000 state) ≡ waits 700_000_000 None
stays_by_port state = refl

-- ---- a window that opens

-- it runs, and has expired so often
abbrev probing : Bool → ℕ → ℕ → RetransmissionState → RetransmissionState
probing follows window expiries state =
    record (expiring follows true window state) {
      timer = waits 700_000_000 (Some (record { deadline = 9; wait = 1; expiries = expiries; terms = (waits 0 None).settings.terms }));
    }

opens_after_a_probe : (state : RetransmissionState) → opens (probing true 999 1 state) (probing true 1000 1 state) ≡ true
opens_after_a_probe state = refl

nothing_was_probed : (state : RetransmissionState) → opens (probing true 999 0 state) (probing true 1000 0 state) ≡ false
nothing_was_probed state = refl

stays_closed : (state : RetransmissionState) → opens (probing true 0 1 state) (probing true 999 1 state) ≡ false
stays_closed state = refl

was_open : (state : RetransmissionState) → opens (probing true 1000 1 state) (probing true 5000 1 state) ≡ false
was_open state = refl

stays_lost_by_port : (state : RetransmissionState) → opens (probing false 999 1 state) (probing false 1000 1 state) ≡ false
stays_lost_by_port state = refl

-- ---- the answer to a HEARTBEAT

-- It was sent at 100 and is answered at 350.
abbrev beaten : Bool → Endpoint → Endpoint
beaten follows e = record e { moment = 350; options = record e.options { follow_rfc = follows }; heartbeat_sent = Some 100 }

measured : (e : Endpoint) → heartbeat_round_trip (beaten true e) ≡ Some 250
measured e = refl

unmeasured_by_port : (e : Endpoint) → heartbeat_round_trip (beaten false e) ≡ None
unmeasured_by_port e = refl

-- Another answer measures nothing, until the next HEARTBEAT.
measured_once : (e : Endpoint) → heartbeat_round_trip (endpoint_answered (beaten true e)) ≡ None
measured_once e = refl

measured_anew : (e : Endpoint) → heartbeat_round_trip (beating (endpoint_answered (beaten true e))) ≡ Some 0
measured_anew e = refl
