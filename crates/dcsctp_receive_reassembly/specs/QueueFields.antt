-- What is true of the fields of a queue at all times.
use Rattle.std.specs.Prelude.{◌≡◌, ◌+◌}
use Rattle.std.specs.Option.{option_map}
use Rattle.dcsctp_receive_reassembly.specs.declared.reassembly_queue.ReassemblyQueue.TheInside.{Inside}
use Rattle.dcsctp_receive_reassembly.specs.Reassembly.{incoming_of}
use Rattle.dcsctp_api.specs.spec.queues.Incoming.{held_used}
use Rattle.dcsctp_receive_reassembly.specs.Queue.{deferral_of}
use Rattle.dcsctp_api.specs.spec.queues.Reassembly.{deferred_used}

-- what is counted is what is in use of the receive window
abbrev pub IsCounted : Inside → Type 0
IsCounted queue =
    queue.incoming.used ≡ held_used queue.overhead (incoming_of queue.incoming) + deferred_used queue.overhead (option_map deferral_of queue.deferral)
