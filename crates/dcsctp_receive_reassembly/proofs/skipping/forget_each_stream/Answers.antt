-- The stream is forgotten, and then the others.
use Rattle.std.proofs.Common.{◌≡◌, ◌+◌, ◌∷◌, List, map, drop, get_or, if◌then◌else◌, arith, sym, ap, ◌∙◌}
use Rattle.std.proofs.lemmas.List.{drop_more}
use Rattle.dcsctp_api.specs.types.declared.ids.StreamId.{StreamId}
use Rattle.dcsctp_api.specs.types.Ids.{stream_numbers}
use Rattle.dcsctp_api.specs.spec.queues.Incoming.{is_named, stream_on}
use Rattle.dcsctp_receive_reassembly.specs.Reassembly.{entry_of}
use Rattle.dcsctp_api.specs.spec.queues.IncomingStreams.{new_stream}
use Rattle.dcsctp_receive_reassembly.proofs.SkippingLemmas.{forgotten_step}
use Rattle.dcsctp_receive_reassembly.proofs.skipping.forget_each_stream.Goals as goal

pub loop-id-preserved : goal.loop-id-preserved
loop-id-preserved c =
    let id : StreamId = get_or c.args.ids.now c.loop-id.id-index (record { 0 = 0 }) in
    let rest : List StreamId = drop (c.loop-id.id-index + 1) c.args.ids.now in
    let next : drop c.loop-id.id-index c.args.ids.now ≡ get_or c.args.ids.now c.loop-id.id-index (record { 0 = 0 }) ∷ drop (c.loop-id.id-index + 1) c.args.ids.now = drop_more c.args.ids.now c.loop-id.id-index (record { 0 = 0 }) (omega arith) in
    record {
      streams = λ other.
          forgotten_step id.0 (stream_numbers rest) other (stream_on other (map entry_of c.loop-id.streams.entries)) (stream_on other (map entry_of c.forget_stream.new.streams.entries)) (c.forget_stream.ensures.streams other)
          ∙ ap (λ (all : List StreamId). if is_named (stream_numbers all) other then new_stream other else stream_on other (map entry_of c.loop-id.streams.entries)) (sym next)
          ∙ c.loop-id.invariant.streams other;
      less = omega (arith, c.loop-id.invariant.less, c.forget_stream.ensures.used);
      size = omega (arith, c.loop-id.invariant.less, c.loop-id.invariant.size, c.forget_stream.ensures.used, c.forget_stream.ensures.size, c.saturating_add-used.ensures);
    }
