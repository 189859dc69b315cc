use Rattle.std.proofs.Common.{map, refl}
use Rattle.dcsctp_core.specs.types.queues.Messages.{message_content}
use Rattle.dcsctp_session.proofs.ManySending.{copies_sent}
use Rattle.dcsctp_session.proofs.session.Session.send_copies.Goals as goal

pub returns : goal.returns
returns c =
    copies_sent c.args.options.now c.args.messages.now (map message_content c.in-Ok.copies.items) c.send_many-outcome.result c.args.self.now c.args.results.now
    c.tell_outcome.result c.tell_outcome.new.results (record c.args.self.now { socket = c.send_many-outcome.new.self })
    (rw (← c.options-limit.ensures) c.in-Ok.ensures) c.send_many-outcome.ensures c.tell_outcome.ensures.status
    c.tell_outcome.ensures.results refl refl
