use Rattle.std.proofs.Common.{◌≡◌, ◌+◌, ◌-◌, ◌^◌, ◌<◌, min, drop}
use Rattle.dcsctp_api.specs.types.queues.SendStreams.{payload_size}
use Rattle.dcsctp_send_queue.proofs.stream.OutgoingStream.size_from.Given as goal

abbrev pub invariant-loop-place : goal.invariant-loop-place
invariant-loop-place l = record {
  total : min (l.size + payload_size (drop l.place l.self-inside.messages.items)) (2 ^ 64 - 1) ≡ min (payload_size (drop l.kept l.self-inside.messages.items)) (2 ^ 64 - 1);
  fits : l.size < 2 ^ 64;
}
