use Rattle.std.proofs.Common.{ap, ◌∙◌}
use Rattle.dcsctp_core.specs.Timeout.{next_deadline}
use Rattle.dcsctp_core.specs.View.{endpoint_of}
use Rattle.dcsctp_core.proofs.TimeoutLemmas.{first_is_next}
use Rattle.dcsctp_core.proofs.timeout.poll_timeout.Goals as goal

pub returns : goal.returns
returns g c =
    c.not_before.ensures ∙ ap (next_deadline c.args.context.now.moment) c.first.ensures.first
    ∙ first_is_next (endpoint_of c.args.context.now) c.args.deadlines.now c.first.ensures.listing c.requires
