use Rattle.std.proofs.Common.{◌≡◌, ◌==◌, not, map}
use Rattle.std.specs.List.{filter}
use Rattle.std.specs.Ordering.{nat_cmp}
use Rattle.std.specs.BTreeMap.{IsOrdered, btree_map_len}
use Rattle.dcsctp_receive_reassembly.specs.Runs.{run_model, Frees}
use Rattle.dcsctp_receive_reassembly.specs.Unordered.{IsIndexed}
use Rattle.dcsctp_receive_reassembly.proofs.unordered.drop_stream.Given as goal

-- What is kept from here on is what is kept from the beginning.
abbrev pub invariant-loop-place : goal.invariant-loop-place
invariant-loop-place l =
    record {
      kept : filter (λ run. not (l.id.0 == run.number)) (map run_model l.runs.entries) ≡ filter (λ run. not (l.id.0 == run.number)) (map run_model l.initial.runs.entries);
      frees : Frees l.overhead (map run_model l.initial.runs.entries) l.dropped (map run_model l.runs.entries);
      ordered : IsOrdered nat_cmp l.runs;
      indexed : IsIndexed l.firsts (map run_model l.runs.entries);
    }

abbrev pub decreases-loop-place : goal.decreases-loop-place
decreases-loop-place l = btree_map_len l.runs
