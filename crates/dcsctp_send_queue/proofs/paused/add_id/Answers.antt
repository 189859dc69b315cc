use Rattle.std.proofs.Common.{◌∙◌}
use Rattle.dcsctp_send_queue.proofs.PausedLemmas.{insert-with_id}
use Rattle.dcsctp_send_queue.proofs.paused.add_id.Goals as goal

pub returns-clause-ids : goal.returns-clause-ids
returns-clause-ids c = (rw c.unwrap-2.ensures at c.insert.ensures.items) ∙ insert-with_id c.args.ids.now.items c.args.id c.place_of-place.result c.place_of-place.ensures
