use Rattle.std.proofs.Common.{◌≡◌, ℕ, ◌<◌, true, Some, take}
use Rattle.std.specs.List.{slice_get}
use Rattle.dcsctp_api.specs.spec.queues.Items.{Item}
use Rattle.dcsctp_api.specs.spec.queues.Skipping.{is_row_continued}
use Rattle.dcsctp_send_retransmission.specs.Skipping.{CollectsLastNumbers}
use Rattle.dcsctp_send_retransmission.proofs.retransmission_queue.RetransmissionQueue.skip.Given as goal

abbrev pub invariant-loop-place : goal.invariant-loop-place
invariant-loop-place l = record {
  each : (k : ℕ) (item : Item) → k < l.place → slice_get l.self.outstanding.items k ≡ Some item → is_row_continued k item ≡ true;
  collects : CollectsLastNumbers l.self (take l.place l.self.outstanding.items) l.numbers.entries;
}
