-- What was put is taken out again.
use Rattle.std.proofs.Common.{◌∙◌}
use Rattle.dcsctp_receive_reassembly.proofs.WaitingLemmas.{place_left}
use Rattle.dcsctp_receive_reassembly.proofs.stream.leave_place.Goals as goal

pub returns : goal.returns
returns c = λ before held. c.remove.ensures.entries ∙ place_left c.args.number before c.args.waiting.now.entries held
