use Rattle.std.proofs.Common.{◌≡◌, ◌≤◌, ◌/◌, length}
use Rattle.dcsctp_core.specs.spec.queues.Arrivals.{first_skipped}
use Rattle.dcsctp_core_data.proofs.forward.skipped_in.Given as goal

abbrev pub invariant-loop-index : goal.invariant-loop-index
invariant-loop-index l = record {
  made : l.skipped.items ≡ first_skipped l.index l.chunk.skipped_streams.now;
  end : l.index-end ≡ length l.chunk.skipped_streams.now / 4;
  within : l.index ≤ l.index-end;
}
