use Rattle.dcsctp_script_lines.specs.Settings.{mtu_is, max_message_size_is, max_receiver_window_buffer_size_is, max_send_buffer_size_is, per_stream_send_queue_limit_is, total_buffered_amount_low_threshold_is, default_stream_buffered_amount_low_threshold_is, cwnd_mtus_initial_is, cwnd_mtus_min_is, avoid_fragmentation_cwnd_mtus_is, immediate_sack_under_cwnd_mtus_is}
use Rattle.dcsctp_script_lines.proofs.settings.set_named_size.Goals as goal

pub returns-in-mtu : goal.returns-in-mtu
returns-in-mtu c = rw (c.in-mtu.is) mtu_is

pub returns-in-max_message_size : goal.returns-in-max_message_size
returns-in-max_message_size c = rw (c.in-max_message_size.is) max_message_size_is

pub returns-in-max_receiver_window_buffer_size : goal.returns-in-max_receiver_window_buffer_size
returns-in-max_receiver_window_buffer_size c = rw (c.in-max_receiver_window_buffer_size.is) max_receiver_window_buffer_size_is

pub returns-in-max_send_buffer_size : goal.returns-in-max_send_buffer_size
returns-in-max_send_buffer_size c = rw (c.in-max_send_buffer_size.is) max_send_buffer_size_is

pub returns-in-per_stream_send_queue_limit : goal.returns-in-per_stream_send_queue_limit
returns-in-per_stream_send_queue_limit c = rw (c.in-per_stream_send_queue_limit.is) per_stream_send_queue_limit_is

pub returns-in-total_buffered_amount_low_threshold : goal.returns-in-total_buffered_amount_low_threshold
returns-in-total_buffered_amount_low_threshold c = rw (c.in-total_buffered_amount_low_threshold.is) total_buffered_amount_low_threshold_is

pub returns-in-default_stream_buffered_amount_low_threshold : goal.returns-in-default_stream_buffered_amount_low_threshold
returns-in-default_stream_buffered_amount_low_threshold c = rw (c.in-default_stream_buffered_amount_low_threshold.is) default_stream_buffered_amount_low_threshold_is

pub returns-in-cwnd_mtus_initial : goal.returns-in-cwnd_mtus_initial
returns-in-cwnd_mtus_initial c = rw (c.in-cwnd_mtus_initial.is) cwnd_mtus_initial_is

pub returns-in-cwnd_mtus_min : goal.returns-in-cwnd_mtus_min
returns-in-cwnd_mtus_min c = rw (c.in-cwnd_mtus_min.is) cwnd_mtus_min_is

pub returns-in-avoid_fragmentation_cwnd_mtus : goal.returns-in-avoid_fragmentation_cwnd_mtus
returns-in-avoid_fragmentation_cwnd_mtus c = rw (c.in-avoid_fragmentation_cwnd_mtus.is) avoid_fragmentation_cwnd_mtus_is

pub returns-in-immediate_sack_under_cwnd_mtus : goal.returns-in-immediate_sack_under_cwnd_mtus
returns-in-immediate_sack_under_cwnd_mtus c = rw (c.in-immediate_sack_under_cwnd_mtus.is) immediate_sack_under_cwnd_mtus_is
