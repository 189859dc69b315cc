use Rattle.std.proofs.Common.{◌∙◌, ap, sym, subst, List}
use Rattle.std.specs.Option.{option_map}
use Rattle.std.specs.Duration.{as_nanos}
use Rattle.std.proofs.lemmas.Result.{err_from_is_err_and}
use Rattle.dcsctp_send_retransmission.specs.wire.CleanBlocks.{blocks_of_bytes, AreCleaned}
use Rattle.dcsctp_send_retransmission.specs.wire.declared.chunk.sack.GapAckBlock.{GapAckBlock}
use Rattle.dcsctp_send_retransmission.specs.spec.queues.Acknowledging.{has_acknowledged}
use Rattle.dcsctp_send_retransmission.specs.spec.queues.Retransmission.{RetransmissionState}
use Rattle.dcsctp_send_retransmission.specs.spec.queues.Transfer.{Transfer}
use Rattle.dcsctp_transfer.proofs.SacksLemmas.{is_valid, is_invalid, told_if_valid, timed_acknowledges}
use Rattle.dcsctp_transfer.proofs.transfer.Transfer.handle_sack.Goals as goal

pub returns-in_err-handled : goal.returns-in_err-handled
returns-in_err-handled c =
    let inside = c.self.inside in
    let does = c.in_err-handled.ensures.turn in
    let valid = is_valid inside.retransmission_queue c.args.sack.now.cumulative_tsn_ack does.0 in
    rw (err_from_is_err_and c.from_residual-in_err-handled.result c.from_residual-in_err-handled.ensures.1).1
    (rw (← c.self.view_is) (
      ap (λ (queue : RetransmissionState). let t : Transfer = record { retransmission = queue; timeout = inside.rto; tracker = inside.data_tracker; reassembly = inside.reassembly_queue } in t) does.1,
      does.2,
      λ isnt. told_if_valid _ valid isnt,
    ))

pub returns-in-Invalid : goal.returns-in-Invalid
returns-in-Invalid c =
    let inside = c.self.inside in
    let does = rw c.in-Invalid.is at c.in_ok-handled.ensures.turn in
    rw (← c.self.view_is) (
      is_invalid inside.retransmission_queue c.args.sack.now.cumulative_tsn_ack does.0,
      ap (λ (queue : RetransmissionState). let t : Transfer = record { retransmission = queue; timeout = inside.rto; tracker = inside.data_tracker; reassembly = inside.reassembly_queue } in t) does.1,
      does.2,
    )

pub returns : goal.returns
returns c =
    let inside = c.self.inside in
    let does = rw c.in-Valid.is at c.in_ok-handled.ensures.turn in
    let trip = option_map as_nanos c.in-Valid.rtt in
    rw (← c.self.view_is) (
      is_valid inside.retransmission_queue c.args.sack.now.cumulative_tsn_ack does.0,
      record {
        blocks = c.deref.result.now;
        cleaned = subst (λ (blocks : List GapAckBlock). AreCleaned (blocks_of_bytes c.args.sack.now.gap_ack_blocks.now) blocks) (sym c.deref.ensures.value) c.in_ok-blocks.ensures;
        left = c.handle_sack.new.self;
        acknowledges = does.1;
        round_trip = trip;
        measures = does.3;
        is = c.observe_round_trip.ensures;
      },
      does.2,
      does.4
          ∙ (sym (timed_acknowledges trip inside.retransmission_queue _)
          ∙ ap (λ (t : Transfer). has_acknowledged inside.retransmission_queue t.retransmission) (sym c.observe_round_trip.ensures)),
    )
