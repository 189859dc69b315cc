-- A message of one part leaves the runs as they are.
use Rattle.std.proofs.Common.{map, refl, sym, ap, ◌∙◌}
use Rattle.dcsctp_receive_ordered_map.specs.Entries.{count_up_to}
use Rattle.dcsctp_api.specs.spec.queues.Runs.{holds_some}
use Rattle.dcsctp_receive_reassembly.specs.Runs.{run_model, part_of}
use Rattle.dcsctp_receive_reassembly.proofs.JoinsLemmas.{adds_alone}
use Rattle.dcsctp_receive_reassembly.proofs.RunsLemmas.{AddsPart-dropped}
use Rattle.dcsctp_receive_reassembly.proofs.RunMapLemmas.{placed}
use Rattle.dcsctp_receive_reassembly.proofs.joining.add_alone.Goals as goal

pub returns-then-is_held_by-clause-adds : goal.returns-then-is_held_by-clause-adds
returns-then-is_held_by-clause-adds c =
    AddsPart-dropped (count_up_to c.args.part.place c.args.runs.now.entries) (part_of c.args.part) (map run_model c.args.runs.now.entries) (placed c.args.part.place c.args.runs.now.entries c.run_up_to-nearest.ensures.ordered)
    (ap (λ o. holds_some o c.args.part.place) (sym c.run_up_to-nearest.ensures.run) ∙ sym c.is_held_by.ensures ∙ c.if-is_held_by.true)

pub returns-clause-adds : goal.returns-clause-adds
returns-clause-adds c =
    adds_alone (count_up_to c.args.part.place c.args.runs.now.entries) (part_of c.args.part) (map run_model c.args.runs.now.entries) (record { number = c.args.part.number; ppid = c.args.part.ppid; payload = c.args.part.payload; used = 0 })
    (placed c.args.part.place c.args.runs.now.entries c.run_up_to-nearest.ensures.ordered)
    (ap (λ o. holds_some o c.args.part.place) (sym c.run_up_to-nearest.ensures.run) ∙ sym c.is_held_by.ensures ∙ c.if-is_held_by.false) c.requires.begins c.requires.ends refl
