use Rattle.std.proofs.Common.{rules, map}
use Rattle.dcsctp_core.specs.wire.Content.{parameter_content}
use Rattle.dcsctp_core.specs.View.{view_of}
use Rattle.dcsctp_core_heartbeat.proofs.SendingLemmas.{answer_moves}
use Rattle.dcsctp_core_heartbeat.proofs.request.handle_heartbeat_request.Goals as goal

pub returns : goal.returns
returns g c =
    answer_moves g.R.Rng.stream (view_of c.args.context.now) (view_of c.answer_peer.new.self)
    (map parameter_content c.args.chunk.now.parameters.items) (search rules)
