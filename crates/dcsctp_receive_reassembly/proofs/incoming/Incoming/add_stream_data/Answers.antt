-- The stream that the map lends is the one at the identifier, before and after; the others stay.
use Rattle.dcsctp_api.specs.types.queues.Messages.{message_content}
use Rattle.std.proofs.Common.{◌≡◌, Some, map, length, refl, sym}
use Rattle.std.specs.BTreeMap.{get}
use Rattle.std.specs.Ordering.{nat_cmp}
use Rattle.dcsctp_receive_reassembly.specs.Streams.{chunk_of}
use Rattle.dcsctp_receive_reassembly.specs.Reassembly.{incoming_of}
use Rattle.dcsctp_receive_reassembly.proofs.ResultFacts.{on_err}
use Rattle.dcsctp_receive_reassembly.proofs.StreamSums.{Written, stream_written}
use Rattle.dcsctp_receive_reassembly.proofs.TakingLemmas.{taken_on_stream, balanced_on_stream, same_on_stream, balanced_unchanged}
use Rattle.dcsctp_receive_reassembly.proofs.incoming.Incoming.add_stream_data.Goals as goal

pub returns-in_ok-counted-in-Some-clause-ok : goal.returns-in_ok-counted-in-Some-clause-ok
returns-in_ok-counted-in-Some-clause-ok c =
    let id = c.args.chunk.stream_id.0 in
    let streams = c.get_mut.follows.lender c.route_part.new.self in
    let found : get nat_cmp c.args.self.now.streams id ≡ Some c.in-Some.stream.now = sym c.in-Some.ensures.value in
    let written : Written id c.args.self.now.streams streams c.in-Some.stream.now c.route_part.new.self = stream_written id c.args.self.now.streams streams c.in-Some.stream.now c.route_part.new.self found (c.get_mut.follows.holds c.route_part.new.self) in
    taken_on_stream (chunk_of c.args.chunk) c.args.self.now streams c.in-Some.stream.now c.route_part.new.self written c.args.tsn_number c.in_ok-counted-in-Some.counted.taken (map message_content c.route_part.new.ready.items) (incoming_of c.count.new.self) c.in_ok-counted-in-Some.ensures.ok c.count.ensures.incoming

pub returns-in_ok-counted-in-Some-clause-used : goal.returns-in_ok-counted-in-Some-clause-used
returns-in_ok-counted-in-Some-clause-used c =
    let id = c.args.chunk.stream_id.0 in
    let streams = c.get_mut.follows.lender c.route_part.new.self in
    let found : get nat_cmp c.args.self.now.streams id ≡ Some c.in-Some.stream.now = sym c.in-Some.ensures.value in
    let written : Written id c.args.self.now.streams streams c.in-Some.stream.now c.route_part.new.self = stream_written id c.args.self.now.streams streams c.in-Some.stream.now c.route_part.new.self found (c.get_mut.follows.holds c.route_part.new.self) in
    balanced_on_stream (chunk_of c.args.chunk) c.args.self.now streams c.in-Some.stream.now c.route_part.new.self written c.args.overhead (length c.args.chunk.payload.items) c.args.tsn_number c.in_ok-counted-in-Some.counted (map message_content c.route_part.new.ready.items) c.count.new.self c.in_ok-counted-in-Some.ensures.used c.requires c.count.ensures.incoming c.count.ensures.used

pub returns-in_err-counted-in-Some-clause-err : goal.returns-in_err-counted-in-Some-clause-err
returns-in_err-counted-in-Some-clause-err c =
    let id = c.args.chunk.stream_id.0 in
    let streams = c.get_mut.follows.lender c.route_part.new.self in
    let found : get nat_cmp c.args.self.now.streams id ≡ Some c.in-Some.stream.now = sym c.in-Some.ensures.value in
    let written : Written id c.args.self.now.streams streams c.in-Some.stream.now c.route_part.new.self = stream_written id c.args.self.now.streams streams c.in-Some.stream.now c.route_part.new.self found (c.get_mut.follows.holds c.route_part.new.self) in
    on_err c.from_residual.result (same_on_stream (chunk_of c.args.chunk) c.args.self.now streams c.in-Some.stream.now c.route_part.new.self written (map message_content c.route_part.new.ready.items) c.in_err-counted-in-Some.ensures.err.0 c.in_err-counted-in-Some.ensures.err.1)

pub returns-in_err-counted-in-Some-clause-used : goal.returns-in_err-counted-in-Some-clause-used
returns-in_err-counted-in-Some-clause-used c =
    let id = c.args.chunk.stream_id.0 in
    let streams = c.get_mut.follows.lender c.route_part.new.self in
    let found : get nat_cmp c.args.self.now.streams id ≡ Some c.in-Some.stream.now = sym c.in-Some.ensures.value in
    let written : Written id c.args.self.now.streams streams c.in-Some.stream.now c.route_part.new.self = stream_written id c.args.self.now.streams streams c.in-Some.stream.now c.route_part.new.self found (c.get_mut.follows.holds c.route_part.new.self) in
    balanced_unchanged (chunk_of c.args.chunk) c.args.self.now streams c.in-Some.stream.now c.route_part.new.self written c.args.overhead (record c.args.self.now { streams = streams; ready = c.route_part.new.ready }) c.in_err-counted-in-Some.ensures.err.0 c.in_err-counted-in-Some.ensures.err.1 refl refl
