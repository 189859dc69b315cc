-- The first entry of the map is the first run.
use Rattle.dcsctp_receive_reassembly.proofs.RunDropLemmas.{begins_up_to-first}
use Rattle.dcsctp_receive_reassembly.proofs.runs.first_begins_up_to.Goals as goal

pub returns-in-Some : goal.returns-in-Some
returns-in-Some c = begins_up_to-first c.args.place c.in-Some.first.now c.in-Some.field-0-1.now c.args.runs.now.entries c.in-Some.ensures.first
