use Rattle.std.proofs.Common.{◌<◌, List, length, map, ap, sym, ◌∙◌}
use Rattle.dcsctp_api.specs.types.queues.SendStreams.{Stream, committed_stream, stream_at}
use Rattle.dcsctp_send_queue.specs.Pausing.{handed_out_ids}
use Rattle.dcsctp_send_queue.proofs.HandedOutLemmas.{fewer_out, map_set, none_out, committed_stream-again, committed_stream-kept, committed_stream-out}
use Rattle.dcsctp_send_queue.proofs.streams.Streams.commit_all.Goals as goal

pub loop-place-smaller : goal.loop-place-smaller
loop-place-smaller c =
    let at : Stream = stream_at c.loop-place.self c.in-Some.place in
    let less : length (handed_out_ids c.commit.new.self) < length (handed_out_ids c.loop-place.self) =
    rw c.commit.ensures (fewer_out c.loop-place.self c.in-Some.place (committed_stream at) c.in-Some.ensures.some.0 c.in-Some.ensures.some.1 (committed_stream-out at)) in
    less

pub loop-place-preserved : goal.loop-place-preserved
loop-place-preserved c =
    ap (λ (streams : List Stream). map committed_stream streams) c.commit.ensures ∙ (map_set committed_stream c.loop-place.self c.in-Some.place committed_stream-again ∙ c.loop-place.invariant)

pub returns : goal.returns
returns c = sym (none_out committed_stream c.loop-place.self committed_stream-kept c.in_default.ensures.none) ∙ c.loop-place.invariant
