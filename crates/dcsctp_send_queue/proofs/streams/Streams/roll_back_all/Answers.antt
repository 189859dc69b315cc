use Rattle.std.proofs.Common.{◌<◌, List, length, map, ap, sym, ◌∙◌}
use Rattle.dcsctp_api.specs.types.queues.SendStreams.{Stream, rolled_back, stream_at}
use Rattle.dcsctp_send_queue.specs.Pausing.{handed_out_ids}
use Rattle.dcsctp_send_queue.proofs.HandedOutLemmas.{fewer_out, map_set, none_out, rolled_back-again, rolled_back-kept, rolled_back-out}
use Rattle.dcsctp_send_queue.proofs.streams.Streams.roll_back_all.Goals as goal

pub loop-place-smaller : goal.loop-place-smaller
loop-place-smaller c =
    let at : Stream = stream_at c.loop-place.self c.in-Some.place in
    let less : length (handed_out_ids c.roll_back.new.self) < length (handed_out_ids c.loop-place.self) =
    rw c.roll_back.ensures (fewer_out c.loop-place.self c.in-Some.place (rolled_back at) c.in-Some.ensures.some.0 c.in-Some.ensures.some.1 (rolled_back-out at)) in
    less

pub loop-place-preserved : goal.loop-place-preserved
loop-place-preserved c =
    ap (λ (streams : List Stream). map rolled_back streams) c.roll_back.ensures ∙ (map_set rolled_back c.loop-place.self c.in-Some.place rolled_back-again ∙ c.loop-place.invariant)

pub returns : goal.returns
returns c = sym (none_out rolled_back c.loop-place.self rolled_back-kept c.in_default.ensures.none) ∙ c.loop-place.invariant
