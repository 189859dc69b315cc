use Rattle.dcsctp_script_lines.specs.Settings.{local_port_is, remote_port_is, announced_maximum_incoming_streams_is, announced_maximum_outgoing_streams_is, default_stream_priority_is}
use Rattle.dcsctp_script_lines.proofs.settings.set_named_count.Goals as goal

pub returns-in-local_port : goal.returns-in-local_port
returns-in-local_port c = rw (c.in-local_port.is) local_port_is

pub returns-in-remote_port : goal.returns-in-remote_port
returns-in-remote_port c = rw (c.in-remote_port.is) remote_port_is

pub returns-in-announced_maximum_incoming_streams : goal.returns-in-announced_maximum_incoming_streams
returns-in-announced_maximum_incoming_streams c = rw (c.in-announced_maximum_incoming_streams.is) announced_maximum_incoming_streams_is

pub returns-in-announced_maximum_outgoing_streams : goal.returns-in-announced_maximum_outgoing_streams
returns-in-announced_maximum_outgoing_streams c = rw (c.in-announced_maximum_outgoing_streams.is) announced_maximum_outgoing_streams_is

pub returns-in-default_stream_priority : goal.returns-in-default_stream_priority
returns-in-default_stream_priority c = rw (c.in-default_stream_priority.is) default_stream_priority_is
