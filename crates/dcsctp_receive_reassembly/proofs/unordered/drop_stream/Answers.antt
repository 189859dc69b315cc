-- Each run that is dropped is of the stream, and in the end none is left of it.
use Rattle.std.proofs.Common.{◌==◌, ◌+◌, not, List, map, ap, sym, ◌∙◌}
use Rattle.std.specs.List.{filter}
use Rattle.dcsctp_api.specs.spec.queues.Runs.{RunModel, run_used, runs_used}
use Rattle.dcsctp_receive_reassembly.specs.Runs.{run_model}
use Rattle.dcsctp_receive_reassembly.specs.Unordered.{DropsRun}
use Rattle.dcsctp_receive_reassembly.proofs.UnorderedLemmas.{filter_out, not_kept, stream_of, none_left, used_out, frees_more}
use Rattle.dcsctp_receive_reassembly.proofs.unordered.drop_stream.Goals as goal

pub loop-place-preserved : goal.loop-place-preserved
loop-place-preserved c =
    let old : List RunModel = map run_model c.loop-place.runs.entries in
    let drops : DropsRun c.args.overhead c.in-Some.place (map run_model c.loop-place.runs.entries) c.drop_run-used.result (map run_model c.drop_run-used.new.runs.entries) = c.drop_run-used.ensures.drops in
    record {
      kept =
          ap (λ (runs : List RunModel). filter (λ run. not (c.args.id.0 == run.number)) runs) drops.left
          ∙ filter_out (λ run. not (c.args.id.0 == run.number)) drops.at drops.run old drops.there (not_kept c.args.id.0 drops.run.number (sym c.in-Some.ensures.stream ∙ stream_of c.in-Some.place drops.run drops.begins))
          ∙ c.loop-place.invariant.kept;
      frees = frees_more c.args.overhead c.loop-place.dropped c.drop_run-used.result c.saturating_add-dropped.result (run_used c.args.overhead drops.run) (map run_model c.args.runs.now.entries) old (map run_model c.drop_run-used.new.runs.entries) c.loop-place.invariant.frees
          (ap (λ (runs : List RunModel). runs_used c.args.overhead runs + run_used c.args.overhead drops.run) drops.left ∙ used_out c.args.overhead drops.at drops.run old drops.there) drops.frees c.saturating_add-dropped.ensures;
      ordered = c.drop_run-used.ensures.ordered;
      indexed = c.drop_run-used.ensures.indexed;
    }

pub returns-clause-kept : goal.returns-clause-kept
returns-clause-kept c =
    sym (none_left c.args.id.0 (map run_model c.loop-place.runs.entries) (λ place at. sym (c.loop-place.invariant.indexed.each place) ∙ c.in_default.ensures.none place at))
    ∙ c.loop-place.invariant.kept
