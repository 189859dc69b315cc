use Rattle.dcsctp_core.proofs.RoundTripLemmas.{answered_view}
use Rattle.dcsctp_core.proofs.context.Context.end_heartbeat.Goals as goal

pub returns : goal.returns
returns g c =
    answered_view c.args.self.now _ c.stop.new.self c.reset.new.self c.observe_round_trip.new.self c.heartbeat_round_trip-round_trip.ensures c.stop.ensures c.reset.ensures c.observe_round_trip.ensures
