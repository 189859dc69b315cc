use Rattle.dcsctp_send_retransmission.specs.wire.Content.{chunk_content}
use Rattle.dcsctp_transfer.proofs.AddingLemmas.{no_chunk, adds_chunk}
use Rattle.dcsctp_transfer.proofs.sending.add_chunk.Goals as goal

pub returns-in_default-clause-adds : goal.returns-in_default-clause-adds
returns-in_default-clause-adds c size has =
    absurd (no_chunk c.args.queue.now.outstanding c.args.tsn size c.chunk.ensures.places c.in_default.ensures.none has)

pub returns-in-Some-clause-adds : goal.returns-in-Some-clause-adds
returns-in-Some-clause-adds c =
    adds_chunk c.args.queue.now.outstanding c.is_interleaving.result c.args.tsn c.in-Some.fragment.now (chunk_content c.make_data_chunk.result) c.args.packet.now c.add.new.self
    c.is_interleaving.ensures c.chunk.ensures.places c.in-Some.ensures.found c.make_data_chunk.ensures.says c.make_data_chunk.ensures.fits c.make_data_chunk.ensures.size c.add.ensures
