-- The runs that are taken out leave the index.
use Rattle.std.proofs.Common.{map}
use Rattle.dcsctp_receive_ordered_map.specs.Entries.{count_up_to}
use Rattle.dcsctp_receive_reassembly.specs.Runs.{run_model, part_of, whole_of}
use Rattle.dcsctp_receive_reassembly.proofs.UnorderedLemmas.{taken_index, models_ascend}
use Rattle.dcsctp_receive_reassembly.proofs.unordered.finish_part.Goals as goal

pub returns-clause-indexed : goal.returns-clause-indexed
returns-clause-indexed c =
    taken_index (count_up_to c.args.part.place c.args.runs.now.entries) (part_of c.args.part) (map run_model c.args.runs.now.entries) (map run_model c.finish.new.runs.entries) c.args.joins (whole_of c.in_ok-whole.whole) c.args.firsts.now c.forget.new.firsts c.forget-2.new.firsts
    (models_ascend c.args.runs.now.entries c.requires.ordered) c.requires.indexed c.requires.joins c.requires.place c.in_ok-whole.ensures.adds c.in_ok-whole.ensures.left c.forget.ensures c.forget-2.ensures
