use Rattle.std.proofs.Common.{add-one, arith}
use Rattle.dcsctp_transfer.proofs.AddingLemmas.{adds_none, rest_of_all, next_within, rest_after, adds_next}
use Rattle.dcsctp_transfer.proofs.sending.add_chunks.Goals as goal

pub loop-tsn-init : goal.loop-tsn-init
loop-tsn-init c =
    record {
      adds = adds_none c.args.queue.now.outstanding c.args.packet.now;
      rest = rest_of_all c.args.queue.now.outstanding c.args.tsns.now c.args.packet.now c.requires.room;
      places = λ some. absurd (omega arith);
    }

pub add_chunk-requires-clause-room : goal.add_chunk-requires-clause-room
add_chunk-requires-clause-room c =
    next_within c.args.queue.now.outstanding c.loop-tsn.tsn-index 0 c.args.tsns.now c.loop-tsn.packet c.loop-tsn-test.true c.loop-tsn.invariant.rest

pub loop-tsn-preserved : goal.loop-tsn-preserved
loop-tsn-preserved c =
    rw add-one (record {
      adds = adds_next c.args.queue.now.outstanding c.loop-tsn.tsn-index 0 c.args.tsns.now c.args.packet.now c.loop-tsn.packet c.add_chunk.new.packet c.loop-tsn-test.true c.loop-tsn.invariant.rest c.loop-tsn.invariant.adds c.add_chunk.ensures.adds;
      rest = rest_after c.args.queue.now.outstanding c.loop-tsn.tsn-index 0 c.args.tsns.now c.loop-tsn.packet c.add_chunk.new.packet c.loop-tsn-test.true c.loop-tsn.invariant.rest c.add_chunk.ensures.adds;
      places = λ some. c.add_chunk.ensures.places;
    })
