use Rattle.std.proofs.Common.{sym}
use Rattle.dcsctp_core.specs.View.{view_of}
use Rattle.dcsctp_core_heartbeat.proofs.SendingLemmas.{beat_moves}
use Rattle.dcsctp_core_heartbeat.proofs.timers.send_heartbeat.Goals as goal

pub returns : goal.returns
returns g c =
    beat_moves g.R.Rng.stream c.args.context.now c.next_heartbeat-counter.new.self (view_of c.emit_heartbeat.new.context) _
    c.next_heartbeat-counter.result (sym c.in-Some.ensures)
    c.next_heartbeat-counter.ensures.view c.next_heartbeat-counter.ensures.counter c.in_ok-emit_heartbeat.ensures
