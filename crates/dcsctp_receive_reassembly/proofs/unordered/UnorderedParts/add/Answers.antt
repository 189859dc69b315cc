-- A part that is there already is dropped.
use Rattle.std.proofs.Common.{map, List, subst}
use Rattle.dcsctp_receive_ordered_map.specs.Entries.{count_up_to}
use Rattle.dcsctp_api.specs.spec.queues.Runs.{RunModel, AddsPart, part_dropped}
use Rattle.dcsctp_receive_reassembly.specs.Runs.{run_model, part_of}
use Rattle.dcsctp_receive_reassembly.proofs.RunsLemmas.{AddsPart-dropped}
use Rattle.dcsctp_receive_reassembly.proofs.RunMapLemmas.{placed}
use Rattle.dcsctp_receive_reassembly.proofs.unordered.UnorderedParts.add.Goals as goal

pub returns-in_default-clause-ok : goal.returns-in_default-clause-ok
returns-in_default-clause-ok c =
    subst (λ (runs : List RunModel). AddsPart (part_of c.args.part) runs part_dropped runs) c.self.view_is
    (AddsPart-dropped (count_up_to c.args.part.place c.self.inside.runs.entries) (part_of c.args.part) (map run_model c.self.inside.runs.entries) (placed c.args.part.place c.self.inside.runs.entries c.joins_of.ensures.ordered) c.in_default.ensures.held)
