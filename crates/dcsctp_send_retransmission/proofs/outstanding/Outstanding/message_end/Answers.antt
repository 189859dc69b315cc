use Rattle.std.proofs.Common.{◌+◌, refl, arith}
use Rattle.dcsctp_send_retransmission.proofs.MessageLemmas.{bear_both, borne, not_borne, none_behind, ends_message}
use Rattle.dcsctp_send_retransmission.proofs.outstanding.Outstanding.message_end.Goals as goal

pub returns-then-not-bears : goal.returns-then-not-bears
returns-then-not-bears c =
    ends_message c.item-2.inside.0.0.message_id c.args.place c.loop-end.end c.args.self.now.items c.loop-end.invariant.0 c.loop-end.invariant.1 c.loop-end.invariant.2
    (λ item at is. not_borne c.bears.result c.item-2.inside.0.0.message_id c.loop-end.end c.args.self.now.items c.if-not-bears.true c.bears.ensures c.loop-end.end item refl at is)

pub loop-end-preserved : goal.loop-end-preserved
loop-end-preserved c =
    let within = c.loop-end-test.true in
    let is = c.len-len.ensures.value in
    let to = c.loop-end.invariant.0 in (
      omega arith,
      omega arith,
      bear_both c.item-2.inside.0.0.message_id c.args.place c.loop-end.end (c.loop-end.end + 1) c.args.self.now.items c.loop-end.invariant.2
          (borne c.bears.result c.item-2.inside.0.0.message_id c.loop-end.end c.args.self.now.items c.if-not-bears.false c.bears.ensures),
    )

pub returns : goal.returns
returns c =
    let done = c.loop-end-test.false in
    let is = c.len-len.ensures.value in
    let to = c.loop-end.invariant.0 in
    let within = c.loop-end.invariant.1 in
    ends_message c.item-2.inside.0.0.message_id c.args.place c.len-len.result c.args.self.now.items (omega arith) (omega arith)
    (λ k item from to_k at. c.loop-end.invariant.2 k item from (omega arith) at)
    (λ item at own. none_behind c.args.self.now.items c.len-len.result item (omega arith) at)
