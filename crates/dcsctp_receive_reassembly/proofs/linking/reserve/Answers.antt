-- The run that is lent reads as before, and has room.
use Rattle.std.proofs.Common.{ap, sym, subst, ◌∙◌}
use Rattle.std.specs.Option.{option_copied_mut}
use Rattle.dcsctp_receive_reassembly.specs.Runs.{HasRoomInRun}
use Rattle.dcsctp_receive_reassembly.proofs.ResultFacts.{ok_then}
use Rattle.dcsctp_receive_reassembly.proofs.RunMapLemmas.{written_same, written_found}
use Rattle.dcsctp_receive_reassembly.proofs.linking.reserve.Goals as goal

pub returns-clause-kept : goal.returns-clause-kept
returns-clause-kept c =
    written_same c.args.first c.args.runs.now (c.get_mut.follows.lender c.reserve_in.new.run) c.unwrap.result.now c.reserve_in.new.run
    c.get_mut.ensures.ordered (sym c.get_mut.ensures.value ∙ ap (λ o. option_copied_mut o) c.unwrap.ensures) (c.get_mut.follows.holds c.reserve_in.new.run) (c.reserve_in.ensures.kept c.args.first)

pub returns-clause-room : goal.returns-clause-room
returns-clause-room c =
    ok_then c.reserve_in.result c.reserve_in.ensures.room (λ room.
    subst (λ o. HasRoomInRun c.args.count o) (sym (written_found c.args.first c.args.runs.now (c.get_mut.follows.lender c.reserve_in.new.run) c.reserve_in.new.run c.requires.there (c.get_mut.follows.holds c.reserve_in.new.run))) room)
