use Rattle.std.proofs.Common.{rules, [], ◌∷◌}
use Rattle.dcsctp_core.specs.wire.Content.{no_user_data}
use Rattle.dcsctp_core.specs.spec.Packet.{error_of, plain}
use Rattle.dcsctp_core.specs.spec.endpoint.Endpoint.{held_by_core}
use Rattle.dcsctp_core.specs.View.{core_of, view_of}
use Rattle.dcsctp_core.proofs.SentLemmas.{told_moves}
use Rattle.dcsctp_core_data.proofs.refusal.tell_no_user_data.Goals as goal

pub returns : goal.returns
returns g c =
    let old = c.args.context.now in
    told_moves g.R.Rng.stream (view_of old) (view_of c.emit_to_peer.new.self) (plain (error_of (no_user_data c.args.tsn ∷ [])))
    (held_by_core (core_of old.state)) (search rules)
