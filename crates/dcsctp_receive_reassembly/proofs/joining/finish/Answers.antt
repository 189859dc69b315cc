-- The message is joined from the runs that are taken out.
use Rattle.std.proofs.Common.{◌≡◌, map, sym, ap, ◌∙◌}
use Rattle.std.specs.Prelude.{is_some}
use Rattle.dcsctp_receive_ordered_map.specs.Entries.{count_up_to}
use Rattle.dcsctp_api.specs.spec.queues.Runs.{run_before, run_behind}
use Rattle.dcsctp_receive_reassembly.specs.Runs.{run_model, part_of, lent_run}
use Rattle.dcsctp_receive_reassembly.proofs.JoinsLemmas.{before_begins, behind_begins, before_lent, behind_lent, adds_whole}
use Rattle.dcsctp_receive_reassembly.proofs.RunsLemmas.{IsOfMessage-whole, joins_where}
use Rattle.dcsctp_receive_reassembly.proofs.RunMapLemmas.{placed}
use Rattle.dcsctp_receive_reassembly.proofs.PartUsed.{whole_frees}
use Rattle.dcsctp_receive_reassembly.proofs.joining.finish.Goals as goal

pub returns-clause-left : goal.returns-clause-left
returns-clause-left c =
    let at = count_up_to c.args.part.place c.args.runs.now.entries in
    c.take_out.ensures at (before_begins (part_of c.args.part) (map run_model c.args.runs.now.entries) c.args.joins at c.requires.joins) (behind_begins (part_of c.args.part) (map run_model c.args.runs.now.entries) c.args.joins at c.requires.joins)

pub returns-clause-adds : goal.returns-clause-adds
returns-clause-adds c =
    let at = count_up_to c.args.part.place c.args.runs.now.entries in
    adds_whole (part_of c.args.part) (map run_model c.args.runs.now.entries) c.args.joins at (map run_model c.take_out.new.runs.entries) (lent_run c.run_at-before.result) (lent_run c.run_at-behind.result) c.in_ok-whole.whole
    (placed c.args.part.place c.args.runs.now.entries c.requires.ordered) c.requires.joins c.requires.whole
    (before_lent (part_of c.args.part) (map run_model c.args.runs.now.entries) c.args.joins at (lent_run c.run_at-before.result) c.requires.joins c.run_at-before.ensures)
    (behind_lent (part_of c.args.part) (map run_model c.args.runs.now.entries) c.args.joins at (lent_run c.run_at-behind.result) c.requires.joins c.run_at-behind.ensures)
    c.in_ok-whole.ensures.whole
    (c.take_out.ensures at (before_begins (part_of c.args.part) (map run_model c.args.runs.now.entries) c.args.joins at c.requires.joins) (behind_begins (part_of c.args.part) (map run_model c.args.runs.now.entries) c.args.joins at c.requires.joins))

pub returns-clause-number : goal.returns-clause-number
returns-clause-number c =
    let at = count_up_to c.args.part.place c.args.runs.now.entries in
    IsOfMessage-whole at (part_of c.args.part) (map run_model c.args.runs.now.entries) (lent_run c.run_at-before.result) (lent_run c.run_at-behind.result) c.in_ok-whole.whole
    (before_lent (part_of c.args.part) (map run_model c.args.runs.now.entries) c.args.joins at (lent_run c.run_at-before.result) c.requires.joins c.run_at-before.ensures) c.in_ok-whole.ensures.whole

pub returns-clause-used : goal.returns-clause-used
returns-clause-used c =
    let at = count_up_to c.args.part.place c.args.runs.now.entries in
    let before : lent_run c.run_at-before.result ≡ run_before (count_up_to c.args.part.place c.args.runs.now.entries) (map run_model c.args.runs.now.entries) (part_of c.args.part) =
    before_lent (part_of c.args.part) (map run_model c.args.runs.now.entries) c.args.joins at (lent_run c.run_at-before.result) c.requires.joins c.run_at-before.ensures in
    let behind : lent_run c.run_at-behind.result ≡ run_behind (part_of c.args.part) (count_up_to c.args.part.place c.args.runs.now.entries) (map run_model c.args.runs.now.entries) =
    behind_lent (part_of c.args.part) (map run_model c.args.runs.now.entries) c.args.joins at (lent_run c.run_at-behind.result) c.requires.joins c.run_at-behind.ensures in
    whole_frees c.args.overhead at c.in_ok-whole.whole.used (part_of c.args.part) (map run_model c.args.runs.now.entries) (map run_model c.take_out.new.runs.entries) (lent_run c.run_at-before.result) (lent_run c.run_at-behind.result) (is_some c.args.joins.first) (is_some c.args.joins.next)
    before behind
    (joins_where (run_before at (map run_model c.args.runs.now.entries) (part_of c.args.part)) c.args.joins.first c.requires.joins.first ∙ ap is_some (sym before))
    (joins_where (run_behind (part_of c.args.part) at (map run_model c.args.runs.now.entries)) c.args.joins.next c.requires.joins.next ∙ ap is_some (sym behind))
    c.in_ok-whole.ensures.used
    (c.take_out.ensures at (before_begins (part_of c.args.part) (map run_model c.args.runs.now.entries) c.args.joins at c.requires.joins) (behind_begins (part_of c.args.part) (map run_model c.args.runs.now.entries) c.args.joins at c.requires.joins))
