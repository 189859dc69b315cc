-- The part is kept with the runs that it joins.
use Rattle.std.proofs.Common.{map, ap, true, false}
use Rattle.std.specs.Prelude.{is_some}
use Rattle.dcsctp_receive_ordered_map.specs.Entries.{count_up_to}
use Rattle.dcsctp_receive_reassembly.specs.Runs.{run_model, part_of}
use Rattle.dcsctp_receive_reassembly.proofs.JoinsLemmas.{adds_kept}
use Rattle.dcsctp_receive_reassembly.proofs.ResultFacts.{ok_then}
use Rattle.dcsctp_receive_reassembly.proofs.RunMapLemmas.{placed}
use Rattle.dcsctp_receive_reassembly.proofs.joining.keep.Goals as goal

pub returns-in-Some-Some-clause-adds : goal.returns-in-Some-Some-clause-adds
returns-in-Some-Some-clause-adds c =
    ok_then c.keep_between.result c.keep_between.ensures.ok (λ kept.
    adds_kept (part_of c.args.part) (map run_model c.args.runs.now.entries) c.args.joins (count_up_to c.args.part.place c.args.runs.now.entries) (map run_model c.keep_between.new.runs.entries) true true
    (placed c.args.part.place c.args.runs.now.entries c.requires.ordered) c.requires.joins c.requires.parts (ap is_some c.in-Some-Some.is-0) (ap is_some c.in-Some-Some.is-1) kept)

pub returns-in-Some-None-clause-adds : goal.returns-in-Some-None-clause-adds
returns-in-Some-None-clause-adds c =
    ok_then c.keep_before.result c.keep_before.ensures.ok (λ kept.
    adds_kept (part_of c.args.part) (map run_model c.args.runs.now.entries) c.args.joins (count_up_to c.args.part.place c.args.runs.now.entries) (map run_model c.keep_before.new.runs.entries) true false
    (placed c.args.part.place c.args.runs.now.entries c.requires.ordered) c.requires.joins c.requires.parts (ap is_some c.in-Some-None.is-0) (ap is_some c.in-Some-None.is-1) kept)

pub returns-in-None-Some-clause-adds : goal.returns-in-None-Some-clause-adds
returns-in-None-Some-clause-adds c =
    ok_then c.keep_behind.result c.keep_behind.ensures.ok (λ kept.
    adds_kept (part_of c.args.part) (map run_model c.args.runs.now.entries) c.args.joins (count_up_to c.args.part.place c.args.runs.now.entries) (map run_model c.keep_behind.new.runs.entries) false true
    (placed c.args.part.place c.args.runs.now.entries c.requires.ordered) c.requires.joins c.requires.parts (ap is_some c.in-None-Some.is-0) (ap is_some c.in-None-Some.is-1) kept)

pub returns-in-None-None-clause-adds : goal.returns-in-None-None-clause-adds
returns-in-None-None-clause-adds c =
    ok_then c.keep_alone.result c.keep_alone.ensures.ok (λ kept.
    adds_kept (part_of c.args.part) (map run_model c.args.runs.now.entries) c.args.joins (count_up_to c.args.part.place c.args.runs.now.entries) (map run_model c.keep_alone.new.runs.entries) false false
    (placed c.args.part.place c.args.runs.now.entries c.requires.ordered) c.requires.joins c.requires.parts (ap is_some c.in-None-None.is-0) (ap is_some c.in-None-None.is-1) kept)
