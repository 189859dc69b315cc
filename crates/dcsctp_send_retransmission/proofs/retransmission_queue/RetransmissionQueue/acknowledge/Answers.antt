use Rattle.std.proofs.Common.{◌≡◌, ◌∙◌, ◌==◌, nat_lt, nat_le, length, ap, refl, arith}
use Rattle.dcsctp_api.specs.types.declared.progress.Change.TheVariants.{Acknowledge}
use Rattle.dcsctp_api.specs.spec.queues.Outstanding.{OutstandingState}
use Rattle.dcsctp_api.specs.types.declared.congestion.Acknowledged.{Acknowledged}
use Rattle.dcsctp_api.specs.spec.queues.Retransmission.{RetransmissionState, with_items}
use Rattle.dcsctp_api.specs.spec.queues.Acknowledging.{covered_items, missed_until, without_first_items, congestion_acknowledgement}
use Rattle.dcsctp_send_retransmission.proofs.ItemsLemmas.{length-changed_between, length-reported}
use Rattle.dcsctp_send_retransmission.proofs.QueueLemmas.{length-missed_until, acknowledged_is}
use Rattle.dcsctp_send_retransmission.proofs.retransmission_queue.RetransmissionQueue.acknowledge.Goals as goal

pub acknowledge_blocks-requires : goal.acknowledge_blocks-requires
acknowledge_blocks-requires c =
    let kept = length-changed_between Acknowledge 0 c.args.count c.self.inside.outstanding.items in
    omega (arith, c.requires, ap (λ (m : RetransmissionState). length m.outstanding.items) c.self.view_is, ap (λ (m : OutstandingState). length m.items) c.change_between.ensures)

pub remove_first-requires : goal.remove_first-requires
remove_first-requires c =
    let stage : RetransmissionState = record {
      outstanding = c.acknowledge_blocks.new.self;
      congestion = c.self.inside.congestion;
      timer = c.self.inside.timer;
      peer_window = c.self.inside.peer_window;
      partial_reliability = c.self.inside.partial_reliability;
      fast_retransmit_due = c.self.inside.fast_retransmit_due;
      reset_begun = c.self.inside.reset_begun;
      follows_rfc = c.self.inside.follows_rfc;
      has_measured = c.self.inside.has_measured;
      packets_retransmitted = c.self.inside.packets_retransmitted;
      bytes_retransmitted = c.self.inside.bytes_retransmitted;
    } in
    let kept = length-changed_between Acknowledge 0 c.args.count c.self.inside.outstanding.items in
    let told = length-reported c.args.count c.args.blocks.now c.change_between.new.self.items in
    let count = ap (λ (m : RetransmissionState). length m.outstanding.items) c.count_misses.ensures in
    let missed = length-missed_until c.args.count c.args.limit c.args.newest stage in
    let same = ap (λ (m : RetransmissionState). length m.outstanding.items) c.self-2.view_is in
    let first = ap (λ (m : RetransmissionState). length m.outstanding.items) c.self.view_is in
    let a = ap (λ (m : OutstandingState). length m.items) c.change_between.ensures in
    let b = ap (λ (m : OutstandingState). length m.items) c.acknowledge_blocks.ensures in
    omega (arith, c.requires, count, missed)

pub returns : goal.returns
returns c =
    let stage : RetransmissionState = record {
      outstanding = c.acknowledge_blocks.new.self;
      congestion = c.self.inside.congestion;
      timer = c.self.inside.timer;
      peer_window = c.self.inside.peer_window;
      partial_reliability = c.self.inside.partial_reliability;
      fast_retransmit_due = c.self.inside.fast_retransmit_due;
      reset_begun = c.self.inside.reset_begun;
      follows_rfc = c.self.inside.follows_rfc;
      has_measured = c.self.inside.has_measured;
      packets_retransmitted = c.self.inside.packets_retransmitted;
      bytes_retransmitted = c.self.inside.bytes_retransmitted;
    } in
    let mid : RetransmissionState = record {
      outstanding = c.self-2.inside.outstanding;
      congestion = c.self-2.inside.congestion;
      timer = c.self-2.inside.timer;
      peer_window = c.self-2.inside.peer_window;
      partial_reliability = c.self-2.inside.partial_reliability;
      fast_retransmit_due = c.self-2.inside.fast_retransmit_due;
      reset_begun = c.self-2.inside.reset_begun;
      follows_rfc = c.self-2.inside.follows_rfc;
      has_measured = c.self-2.inside.has_measured;
      packets_retransmitted = c.self-2.inside.packets_retransmitted;
      bytes_retransmitted = c.self-2.inside.bytes_retransmitted;
    } in
    let left : RetransmissionState = record {
      outstanding = c.remove_first.new.self;
      congestion = c.self-2.inside.congestion;
      timer = c.self-2.inside.timer;
      peer_window = c.self-2.inside.peer_window;
      partial_reliability = c.self-2.inside.partial_reliability;
      fast_retransmit_due = c.self-2.inside.fast_retransmit_due;
      reset_begun = c.self-2.inside.reset_begun;
      follows_rfc = c.self-2.inside.follows_rfc;
      has_measured = c.self-2.inside.has_measured;
      packets_retransmitted = c.self-2.inside.packets_retransmitted;
      bytes_retransmitted = c.self-2.inside.bytes_retransmitted;
    } in
    let ack : Acknowledged = record {
      bytes = c.saturating_sub.result;
      advances = nat_lt 0 c.args.count;
      was_full = nat_le c.self.inside.congestion.cwnd c.in_flight_bytes.result;
      is_last = c.unacknowledged_items.result == 0;
    } in
    let is_stage : stage ≡ with_items (covered_items c.args.count c.args.blocks.now c.args.self.now.outstanding.items) c.args.self.now =
    rw (c.acknowledge_blocks.ensures, c.change_between.ensures, ← c.self.view_is) refl in
    let is_mid : mid ≡ missed_until c.args.count c.args.limit c.args.newest (with_items (covered_items c.args.count c.args.blocks.now c.args.self.now.outstanding.items) c.args.self.now) =
    c.self-2.view_is ∙ c.count_misses.ensures ∙ ap (missed_until c.args.count c.args.limit c.args.newest) is_stage in
    let is_left : left ≡ without_first_items c.args.count mid = rw c.remove_first.ensures refl in
    let is_ack : ack ≡ congestion_acknowledgement c.args.count c.args.self.now left =
    rw (c.saturating_sub.ensures, c.unacknowledged_bytes-bytes.ensures, c.unacknowledged_bytes-left.ensures, c.in_flight_bytes.ensures, c.unacknowledged_items.ensures, ← c.self.view_is) refl in
    acknowledged_is c.args.count c.args.blocks.now c.args.limit c.args.newest c.args.self.now mid left _ ack is_mid is_left is_ack (rw c.handle_acknowledgement.ensures refl)
