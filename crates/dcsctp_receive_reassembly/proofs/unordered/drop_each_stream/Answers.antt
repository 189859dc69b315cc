-- The runs of the stream are dropped, and then those of the others.
use Rattle.std.proofs.Common.{◌≡◌, ◌+◌, ◌∷◌, List, map, drop, get_or, arith, sym, ap, ◌∙◌}
use Rattle.std.proofs.lemmas.List.{drop_more, drop_all}
use Rattle.dcsctp_api.specs.types.declared.ids.StreamId.{StreamId}
use Rattle.dcsctp_api.specs.types.Ids.{stream_numbers}
use Rattle.dcsctp_api.specs.spec.queues.Incoming.{parts_left}
use Rattle.dcsctp_api.specs.spec.queues.Runs.{RunModel}
use Rattle.dcsctp_receive_reassembly.specs.Runs.{run_model}
use Rattle.dcsctp_receive_reassembly.proofs.UnorderedLemmas.{left_more, left_all, frees_then}
use Rattle.dcsctp_receive_reassembly.proofs.unordered.drop_each_stream.Goals as goal

pub loop-id-preserved : goal.loop-id-preserved
loop-id-preserved c =
    let id : StreamId = get_or c.args.ids.now c.loop-id.id-index (record { 0 = 0 }) in
    let rest : List StreamId = drop (c.loop-id.id-index + 1) c.args.ids.now in
    let next : drop c.loop-id.id-index c.args.ids.now ≡ get_or c.args.ids.now c.loop-id.id-index (record { 0 = 0 }) ∷ drop (c.loop-id.id-index + 1) c.args.ids.now = drop_more c.args.ids.now c.loop-id.id-index (record { 0 = 0 }) (omega arith) in
    record {
      kept =
          ap (λ (runs : List RunModel). parts_left (stream_numbers rest) runs) c.drop_stream.ensures.kept
          ∙ left_more id.0 (stream_numbers rest) (map run_model c.loop-id.runs.entries)
          ∙ ap (λ (all : List StreamId). parts_left (stream_numbers all) (map run_model c.loop-id.runs.entries)) (sym next)
          ∙ c.loop-id.invariant.kept;
      frees = frees_then c.args.overhead c.loop-id.dropped c.drop_stream.result c.saturating_add-dropped.result (map run_model c.args.runs.now.entries) (map run_model c.loop-id.runs.entries) (map run_model c.drop_stream.new.runs.entries) c.loop-id.invariant.frees c.drop_stream.ensures.size c.saturating_add-dropped.ensures;
      ordered = c.drop_stream.ensures.ordered;
      indexed = c.drop_stream.ensures.indexed;
    }

pub returns-clause-kept : goal.returns-clause-kept
returns-clause-kept c =
    sym (left_all (map run_model c.loop-id.runs.entries))
    ∙ ap (λ (all : List StreamId). parts_left (stream_numbers all) (map run_model c.loop-id.runs.entries)) (sym (drop_all c.loop-id.id-index c.args.ids.now (omega arith)))
    ∙ c.loop-id.invariant.kept
