use Rattle.dcsctp_script_lines.specs.Settings.{enable_partial_reliability_is, enable_message_interleaving_is, heartbeat_interval_include_rtt_is, disable_checksum_verification_is, enable_handover_with_outstanding_data_is, follow_rfc_is}
use Rattle.dcsctp_script_lines.proofs.settings.set_named_flag.Goals as goal

pub returns-in-enable_partial_reliability : goal.returns-in-enable_partial_reliability
returns-in-enable_partial_reliability c = rw (c.in-enable_partial_reliability.is) enable_partial_reliability_is

pub returns-in-enable_message_interleaving : goal.returns-in-enable_message_interleaving
returns-in-enable_message_interleaving c = rw (c.in-enable_message_interleaving.is) enable_message_interleaving_is

pub returns-in-heartbeat_interval_include_rtt : goal.returns-in-heartbeat_interval_include_rtt
returns-in-heartbeat_interval_include_rtt c = rw (c.in-heartbeat_interval_include_rtt.is) heartbeat_interval_include_rtt_is

pub returns-in-disable_checksum_verification : goal.returns-in-disable_checksum_verification
returns-in-disable_checksum_verification c = rw (c.in-disable_checksum_verification.is) disable_checksum_verification_is

pub returns-in-enable_handover_with_outstanding_data : goal.returns-in-enable_handover_with_outstanding_data
returns-in-enable_handover_with_outstanding_data c = rw (c.in-enable_handover_with_outstanding_data.is) enable_handover_with_outstanding_data_is

pub returns-in-follow_rfc : goal.returns-in-follow_rfc
returns-in-follow_rfc c = rw (c.in-follow_rfc.is) follow_rfc_is
