-- A part that is there already is dropped.
use Rattle.std.proofs.Common.{map}
use Rattle.dcsctp_receive_ordered_map.specs.Entries.{count_up_to}
use Rattle.dcsctp_receive_reassembly.specs.Runs.{run_model, part_of}
use Rattle.dcsctp_receive_reassembly.proofs.RunsLemmas.{AddsPart-dropped}
use Rattle.dcsctp_receive_reassembly.proofs.RunMapLemmas.{placed}
use Rattle.dcsctp_receive_reassembly.proofs.joining.add_part.Goals as goal

pub returns-in_default-clause-ok : goal.returns-in_default-clause-ok
returns-in_default-clause-ok c =
    AddsPart-dropped (count_up_to c.args.part.place c.args.runs.now.entries) (part_of c.args.part) (map run_model c.args.runs.now.entries) (placed c.args.part.place c.args.runs.now.entries c.joins_of.ensures.ordered) c.in_default.ensures.held
