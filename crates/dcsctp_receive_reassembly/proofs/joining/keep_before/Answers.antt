-- The run before the part has it, and the others stay.
use Rattle.std.proofs.Common.{ap, sym, ◌∙◌}
use Rattle.std.specs.Option.{option_copied_mut}
use Rattle.dcsctp_receive_ordered_map.specs.Entries.{count_up_to}
use Rattle.dcsctp_receive_reassembly.specs.Runs.{part_of}
use Rattle.dcsctp_receive_reassembly.proofs.ResultFacts.{ok_then, err_then}
use Rattle.dcsctp_receive_reassembly.proofs.RunMapLemmas.{before_some, written_before, written_same}
use Rattle.dcsctp_receive_reassembly.proofs.joining.keep_before.Goals as goal

pub unwrap-requires : goal.unwrap-requires
unwrap-requires c =
    before_some (count_up_to c.args.part.place c.args.runs.now.entries) c.args.first c.args.runs.now c.get_mut.result c.get_mut.ensures.ordered c.requires.before c.get_mut.ensures.value

pub returns-clause-ok : goal.returns-clause-ok
returns-clause-ok c =
    ok_then c.append.result c.append.ensures.ok (λ appended.
    written_before (count_up_to c.args.part.place c.args.runs.now.entries) c.args.first (part_of c.args.part) c.args.runs.now (c.get_mut.follows.lender c.append.new.run) c.unwrap.result.now c.append.new.run
    c.get_mut.ensures.ordered c.requires.before (sym c.get_mut.ensures.value ∙ ap (λ o. option_copied_mut o) c.unwrap.ensures) (c.get_mut.follows.holds c.append.new.run) (appended c.args.first))

pub returns-clause-err : goal.returns-clause-err
returns-clause-err c =
    err_then c.append.result c.append.ensures.err (λ same.
    written_same c.args.first c.args.runs.now (c.get_mut.follows.lender c.append.new.run) c.unwrap.result.now c.append.new.run
    c.get_mut.ensures.ordered (sym c.get_mut.ensures.value ∙ ap (λ o. option_copied_mut o) c.unwrap.ensures) (c.get_mut.follows.holds c.append.new.run) (same c.args.first))
