-- The run that the part follows on begins where it did.
use Rattle.std.proofs.Common.{map, arith}
use Rattle.dcsctp_receive_ordered_map.specs.Entries.{count_up_to}
use Rattle.dcsctp_receive_reassembly.specs.Runs.{run_model, part_of}
use Rattle.dcsctp_receive_reassembly.proofs.UnorderedLemmas.{kept_index, models_ascend}
use Rattle.dcsctp_receive_reassembly.proofs.unordered.keep_part.Goals as goal

pub returns-clause-indexed : goal.returns-clause-indexed
returns-clause-indexed c =
    kept_index (count_up_to c.args.part.place c.args.runs.now.entries) (part_of c.args.part) (map run_model c.args.runs.now.entries) (map run_model c.keep.new.runs.entries) c.args.joins c.args.firsts.now c.forget.new.firsts
    c.requires.place (models_ascend c.args.runs.now.entries c.requires.ordered) c.requires.indexed c.requires.joins c.in_ok-keep.ensures.adds c.in_ok-keep.ensures.kept (grind (arith, c.is_none.ensures, c.if-is_none.false)) c.forget.ensures
