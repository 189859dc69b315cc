use Rattle.std.specs.Prelude.{◌<◌, take}
use Rattle.dcsctp_send_retransmission.specs.Outstanding.{FindsPlaces}
use Rattle.dcsctp_transfer.specs.Adding.{AddsChunks, HasRoomForRest}
use Rattle.dcsctp_transfer.proofs.sending.add_chunks.Given as goal

abbrev pub invariant-loop-tsn : goal.invariant-loop-tsn
invariant-loop-tsn l =
    record {
      adds : AddsChunks l.queue.outstanding (take l.tsn-index l.tsns) l.fn.packet l.packet;
      rest : HasRoomForRest l.queue.outstanding l.tsn-index l.tsns l.packet;
      places : 0 < l.tsn-index → FindsPlaces l.queue.outstanding;
    }
