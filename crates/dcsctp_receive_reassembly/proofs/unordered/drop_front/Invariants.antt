use Rattle.std.proofs.Common.{◌≡◌, map}
use Rattle.std.specs.Ordering.{nat_cmp}
use Rattle.std.specs.BTreeMap.{IsOrdered, btree_map_len}
use Rattle.dcsctp_api.specs.spec.queues.Runs.{behind_place}
use Rattle.dcsctp_receive_reassembly.specs.Runs.{run_model, Frees}
use Rattle.dcsctp_receive_reassembly.specs.Unordered.{IsIndexed}
use Rattle.dcsctp_receive_reassembly.proofs.unordered.drop_front.Given as goal

-- What is kept from here on is what is kept from the beginning.
abbrev pub invariant-loop-runs : goal.invariant-loop-runs
invariant-loop-runs l =
    record {
      kept : behind_place l.tsn (map run_model l.runs.entries) ≡ behind_place l.tsn (map run_model l.initial.runs.entries);
      frees : Frees l.overhead (map run_model l.initial.runs.entries) l.dropped (map run_model l.runs.entries);
      ordered : IsOrdered nat_cmp l.runs;
      indexed : IsIndexed l.firsts (map run_model l.runs.entries);
    }

abbrev pub decreases-loop-runs : goal.decreases-loop-runs
decreases-loop-runs l = btree_map_len l.runs
