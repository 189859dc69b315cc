-- What the reader of a packet keeps between two steps.
use Rattle.dcsctp_wire.specs.declared.bytes.Frame as frames
use Rattle.dcsctp_wire.specs.Format.{Frame}

-- a frame, apart from where it lies in memory
abbrev pub frame_content : frames.Frame → Frame
frame_content frame = record { value = frame.value.now; rest = frame.rest.now }
