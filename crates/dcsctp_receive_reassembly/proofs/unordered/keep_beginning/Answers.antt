-- The place of the run is in the index, or it is taken back.
use Rattle.std.proofs.Common.{◌∙◌, map, ap, subst, sym, List}
use Rattle.dcsctp_receive_ordered_map.specs.Entries.{count_up_to}
use Rattle.dcsctp_api.specs.spec.queues.Runs.{RunModel}
use Rattle.dcsctp_receive_reassembly.specs.Runs.{run_model, part_of}
use Rattle.dcsctp_receive_reassembly.specs.Unordered.{IsIndexed, has_run_from}
use Rattle.dcsctp_receive_reassembly.proofs.UnorderedLemmas.{begun_index, left_index, absent_place, models_ascend}
use Rattle.dcsctp_receive_reassembly.proofs.unordered.keep_beginning.Goals as goal

pub returns-in-Ok-clause-indexed : goal.returns-in-Ok-clause-indexed
returns-in-Ok-clause-indexed c =
    begun_index (count_up_to c.args.part.place c.args.runs.now.entries) c.index_place-place.result (part_of c.args.part) (map run_model c.args.runs.now.entries) (map run_model c.keep.new.runs.entries) c.args.joins c.args.firsts.now c.insert.new.self c.forget.new.firsts
    c.requires.place (models_ascend c.args.runs.now.entries c.requires.ordered) c.requires.indexed c.requires.joins c.in-Ok.ensures.adds c.in-Ok.ensures.kept c.requires.begins c.index_place-place.ensures c.in_ok-insert.ensures.updates c.forget.ensures

pub returns-in-Err-clause-indexed : goal.returns-in-Err-clause-indexed
returns-in-Err-clause-indexed c =
    subst (λ (runs : List RunModel). IsIndexed c.remove.new.self runs) (sym c.in-Err.ensures.err)
    (left_index c.index_place-place.result (map run_model c.args.runs.now.entries) c.args.firsts.now c.insert.new.self c.remove.new.self c.requires.indexed
    (ap (λ place. has_run_from place (map run_model c.args.runs.now.entries)) c.index_place-place.ensures ∙ absent_place c.args.part.number c.args.part.place c.args.runs.now.entries c.requires.place c.requires.ordered c.requires.indexed.within c.requires.joins.absent)
    c.in_ok-insert.ensures.updates c.remove.ensures.updates)
