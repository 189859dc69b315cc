-- No run begins at the place, and afterwards the run of the part alone is there.
use Rattle.std.proofs.Common.{◌++◌, ◌∷◌, map, take, drop, ap, ◌∙◌}
use Rattle.dcsctp_receive_ordered_map.specs.Entries.{count_up_to}
use Rattle.dcsctp_api.specs.spec.queues.Runs.{RunModel}
use Rattle.dcsctp_receive_reassembly.specs.Runs.{run_model}
use Rattle.dcsctp_receive_reassembly.proofs.ResultFacts.{ok_then}
use Rattle.dcsctp_receive_reassembly.proofs.RunMapLemmas.{absent, put_run}
use Rattle.dcsctp_receive_reassembly.proofs.joining.keep_alone.Goals as goal

pub put_entry-requires : goal.put_entry-requires
put_entry-requires c =
    record { absent = absent c.args.part.place c.args.runs.now.entries c.requires.ordered c.requires.absent }

pub returns-clause-ok : goal.returns-clause-ok
returns-clause-ok c =
    ok_then c.put_entry.result c.put_entry.ensures.ok (λ put.
    put_run (count_up_to c.args.part.place c.args.runs.now.entries) c.args.part.place c.single.result c.args.runs.now.entries c.put_entry.new.entries.entries put
    ∙ ap (λ (run : RunModel). take (count_up_to c.args.part.place c.args.runs.now.entries) (map run_model c.args.runs.now.entries) ++ run ∷ drop (count_up_to c.args.part.place c.args.runs.now.entries) (map run_model c.args.runs.now.entries)) c.single.ensures)
