use Rattle.dcsctp_script_lines.specs.Settings.{rtt_max_is, rto_initial_is, rto_max_is, rto_min_is, t1_init_timeout_is, t1_cookie_timeout_is, cookie_lifetime_is, t2_shutdown_timeout_is, heartbeat_interval_is, delayed_ack_max_timeout_is, min_rtt_variance_is}
use Rattle.dcsctp_script_lines.proofs.settings.set_named_time.Goals as goal

pub returns-in-rtt_max : goal.returns-in-rtt_max
returns-in-rtt_max c = rw (c.in-rtt_max.is) rtt_max_is

pub returns-in-rto_initial : goal.returns-in-rto_initial
returns-in-rto_initial c = rw (c.in-rto_initial.is) rto_initial_is

pub returns-in-rto_max : goal.returns-in-rto_max
returns-in-rto_max c = rw (c.in-rto_max.is) rto_max_is

pub returns-in-rto_min : goal.returns-in-rto_min
returns-in-rto_min c = rw (c.in-rto_min.is) rto_min_is

pub returns-in-t1_init_timeout : goal.returns-in-t1_init_timeout
returns-in-t1_init_timeout c = rw (c.in-t1_init_timeout.is) t1_init_timeout_is

pub returns-in-t1_cookie_timeout : goal.returns-in-t1_cookie_timeout
returns-in-t1_cookie_timeout c = rw (c.in-t1_cookie_timeout.is) t1_cookie_timeout_is

pub returns-in-cookie_lifetime : goal.returns-in-cookie_lifetime
returns-in-cookie_lifetime c = rw (c.in-cookie_lifetime.is) cookie_lifetime_is

pub returns-in-t2_shutdown_timeout : goal.returns-in-t2_shutdown_timeout
returns-in-t2_shutdown_timeout c = rw (c.in-t2_shutdown_timeout.is) t2_shutdown_timeout_is

pub returns-in-heartbeat_interval : goal.returns-in-heartbeat_interval
returns-in-heartbeat_interval c = rw (c.in-heartbeat_interval.is) heartbeat_interval_is

pub returns-in-delayed_ack_max_timeout : goal.returns-in-delayed_ack_max_timeout
returns-in-delayed_ack_max_timeout c = rw (c.in-delayed_ack_max_timeout.is) delayed_ack_max_timeout_is

pub returns-in-min_rtt_variance : goal.returns-in-min_rtt_variance
returns-in-min_rtt_variance c = rw (c.in-min_rtt_variance.is) min_rtt_variance_is
