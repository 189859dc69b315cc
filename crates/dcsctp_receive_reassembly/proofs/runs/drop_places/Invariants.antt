use Rattle.std.proofs.Common.{◌≡◌, ◌+◌, map}
use Rattle.std.specs.BTreeMap.{btree_map_len}
use Rattle.dcsctp_receive_reassembly.specs.Runs.{run_model, up_to_place}
use Rattle.dcsctp_api.specs.spec.queues.Runs.{behind_place}
use Rattle.dcsctp_receive_reassembly.specs.Held.{capped_u128}
use Rattle.dcsctp_api.specs.spec.queues.Runs.{runs_used}
use Rattle.dcsctp_receive_reassembly.proofs.runs.drop_places.Given as goal

-- What is dropped from here on, with what was, is what is dropped from the beginning.
abbrev pub invariant-loop-runs : goal.invariant-loop-runs
invariant-loop-runs l =
    record {
      kept : behind_place l.place (map run_model l.runs.entries) ≡ behind_place l.place (map run_model l.initial.runs.entries);
      size : capped_u128 (l.dropped + runs_used l.overhead (up_to_place l.place (map run_model l.runs.entries))) ≡ capped_u128 (runs_used l.overhead (up_to_place l.place (map run_model l.initial.runs.entries)));
      bound : l.dropped ≡ capped_u128 l.dropped;
    }

abbrev pub decreases-loop-runs : goal.decreases-loop-runs
decreases-loop-runs l = btree_map_len l.runs
