use Rattle.std.specs.Prelude.{Option, ℕ}
use Rattle.std.specs.Option.{option_map}
use Rattle.std.proofs.Common.{subst, ◌≡◌, ◌≤◌, nat_lt, ◌∙◌, length, ap, refl, arith}
use Rattle.dcsctp_api.specs.spec.queues.Outstanding.{acknowledged_count, tsn_at}
use Rattle.dcsctp_api.specs.spec.queues.Reports.{MissesUntil}
use Rattle.dcsctp_api.specs.spec.queues.Acknowledging.{is_recovering, AcknowledgesItems, has_acknowledged, exiting, acknowledged_until, window_after_settling}
use Rattle.dcsctp_api.specs.spec.queues.Retransmission.{RetransmissionState}
use Rattle.dcsctp_send_retransmission.proofs.AnswerLemmas.{sack_answers}
use Rattle.dcsctp_send_retransmission.proofs.retransmission_queue.RetransmissionQueue.handle_sack.Goals as goal

pub returns-clause-turn : goal.returns-clause-turn
returns-clause-turn c =
    let stage : RetransmissionState = record {
      outstanding = c.self.inside.outstanding;
      congestion = c.leave_recovery.new.self;
      timer = c.self.inside.timer;
      peer_window = c.self.inside.peer_window;
      partial_reliability = c.self.inside.partial_reliability;
      fast_retransmit_due = c.self.inside.fast_retransmit_due;
      reset_begun = c.self.inside.reset_begun;
      follows_rfc = c.self.inside.follows_rfc;
      has_measured = c.self.inside.has_measured;
      packets_retransmitted = c.self.inside.packets_retransmitted;
      bytes_retransmitted = c.self.inside.bytes_retransmitted;
    } in
    let is_stage : stage ≡ exiting c.args.cumulative_tsn_ack c.args.self.now = rw (c.leave_recovery.ensures, ← c.self.view_is) refl in
    let count_is : c.distance_to-count.result ≡ acknowledged_count c.args.self.now.outstanding c.args.cumulative_tsn_ack = rw (← c.self.view_is) c.distance_to-count.ensures.value in
    let few : c.distance_to-count.result ≤ length c.args.self.now.outstanding.items = rw (← c.self.view_is) (omega (arith, c.if-len-count.false, c.len.ensures.value)) in
    let Misses : RetransmissionState → Type 0 = λ q. MissesUntil (is_recovering c.distance_to-count.result q) c.distance_to-count.result c.args.blocks.now q.outstanding.items c.miss_limit-limit.result in
    let newest_is : c.newest_tsn-newest_tsn.result ≡ option_map (tsn_at c.args.self.now.outstanding) c.newest_reported-newest.result = rw (← c.self.view_is) c.newest_tsn-newest_tsn.ensures in
    let takes : AcknowledgesItems c.args.now c.args.cumulative_tsn_ack c.args.a_rwnd c.args.blocks.now c.args.self.now c.settle.new.self = record {
      limit = c.miss_limit-limit.result;
      missing = rw (← count_is) (subst Misses is_stage (let at_stage : Misses stage = c.miss_limit-limit.ensures in at_stage));
      newest = c.newest_reported-newest.result;
      is_newest = rw (← count_is, ← c.self.view_is) c.newest_reported-newest.ensures;
      is = rw (← count_is) (c.settle.ensures ∙ ap (window_after_settling c.args.now c.args.a_rwnd c.distance_to-count.result) (c.acknowledge.ensures ∙ (ap (λ (n : Option ℕ). acknowledged_until c.distance_to-count.result c.args.blocks.now c.miss_limit-limit.result n stage) newest_is ∙ ap (acknowledged_until c.distance_to-count.result c.args.blocks.now c.miss_limit-limit.result (option_map (tsn_at c.args.self.now.outstanding) c.newest_reported-newest.result)) is_stage)));
    } in
    let counts : nat_lt c.never_acknowledged_items.result c.never_acknowledged_items-before.result ≡ has_acknowledged c.args.self.now c.settle.new.self =
    rw (c.never_acknowledged_items.ensures, c.never_acknowledged_items-before.ensures, ← c.self.view_is, ← c.self-2.view_is) refl in (
      rw (← count_is) few,
      takes,
      rw (← count_is) c.in_ok-tell_delivered.ensures.ok,
      record {
        newest = c.newest_reported-newest.result;
        is_newest = rw (← count_is, ← c.self.view_is) c.newest_reported-newest.ensures;
        is = c.round_trip-rtt.ensures;
      },
      counts,
      sack_answers c.args.now c.args.cumulative_tsn_ack c.args.a_rwnd c.args.blocks.now c.args.self.now c.settle.new.self _ takes counts,
    )
