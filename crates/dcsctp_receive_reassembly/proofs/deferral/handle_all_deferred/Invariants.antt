use Rattle.std.proofs.Common.{◌≡◌, ◌+◌, ◌++◌, List, map}
use Rattle.std.specs.List.{sum_by}
use Rattle.std.specs.VecDeque.{deque_len}
use Rattle.dcsctp_receive_reassembly.specs.Reassembly.{incoming_of}
use Rattle.dcsctp_api.specs.spec.queues.Incoming.{held_used}
use Rattle.dcsctp_api.specs.spec.queues.Reassembly.{WaitingModel, waiting_used, HandlesAll}
use Rattle.dcsctp_receive_reassembly.specs.Queue.{waiting_model}
use Rattle.dcsctp_receive_reassembly.proofs.deferral.handle_all_deferred.Given as goal

-- What was handled so far came before what still waits.
abbrev pub invariant-loop-incoming : goal.invariant-loop-incoming
invariant-loop-incoming l =
    record {
      done : List WaitingModel;
      all : map waiting_model l.initial.waiting.items ≡ done ++ map waiting_model l.waiting.items;
      works : HandlesAll done (incoming_of l.initial.incoming) (incoming_of l.incoming);
      used : l.incoming.used ≡ held_used l.overhead (incoming_of l.incoming) + sum_by (waiting_used l.overhead) (map waiting_model l.waiting.items);
    }

abbrev pub decreases-loop-incoming : goal.decreases-loop-incoming
decreases-loop-incoming l = deque_len l.waiting
