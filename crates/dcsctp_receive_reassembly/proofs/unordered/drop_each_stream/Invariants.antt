use Rattle.std.proofs.Common.{◌≡◌, map, drop}
use Rattle.std.specs.Ordering.{nat_cmp}
use Rattle.std.specs.BTreeMap.{IsOrdered}
use Rattle.dcsctp_api.specs.types.Ids.{stream_numbers}
use Rattle.dcsctp_api.specs.spec.queues.Incoming.{parts_left}
use Rattle.dcsctp_receive_reassembly.specs.Runs.{run_model, Frees}
use Rattle.dcsctp_receive_reassembly.specs.Unordered.{IsIndexed}
use Rattle.dcsctp_receive_reassembly.proofs.unordered.drop_each_stream.Given as goal

-- What the other streams leave from here on, all leave from the beginning.
abbrev pub invariant-loop-id : goal.invariant-loop-id
invariant-loop-id l =
    record {
      kept : parts_left (stream_numbers (drop l.id-index l.ids)) (map run_model l.runs.entries) ≡ parts_left (stream_numbers l.ids) (map run_model l.initial.runs.entries);
      frees : Frees l.overhead (map run_model l.initial.runs.entries) l.dropped (map run_model l.runs.entries);
      ordered : IsOrdered nat_cmp l.runs;
      indexed : IsIndexed l.firsts (map run_model l.runs.entries);
    }
