use Rattle.dcsctp_send_retransmission.proofs.SettledLemmas.{block_is_settled}
use Rattle.dcsctp_send_retransmission.proofs.outstanding.Outstanding.keep_named.Goals as goal

pub add_named-requires : goal.add_named-requires
add_named-requires c =
    rw (c.places_of-start.ensures.0, c.places_of-start.ensures.1, c.loop-block.invariant, c.forget_named.ensures)
    (block_is_settled c.args.count c.args.blocks.now c.loop-block.block-index (record { start = 0; end = 0 }) c.args.self.now.items c.loop-block-test.true c.requires.settled)
