use Rattle.dcsctp_receive_reassembly.proofs.HandoverLemmas.{put_restored, put_used}
use Rattle.dcsctp_receive_reassembly.proofs.handover.put_stream.Goals as goal

pub returns-clause-streams : goal.returns-clause-streams
returns-clause-streams c =
    put_restored c.args.state.now c.args.streams.now c.insert.new.self c.restored_stream.result c.in_ok-insert.ensures.updates c.restored_stream.ensures

pub returns-clause-used : goal.returns-clause-used
returns-clause-used c =
    λ overhead. put_used overhead c.args.state.now c.args.streams.now c.insert.new.self c.restored_stream.result c.in_ok-insert.ensures.entries c.insert.ensures.was_ordered c.restored_stream.ensures
