use Rattle.std.proofs.Common.{refl, sym, ◌∙◌, arith}
use Rattle.dcsctp_receive_tracker.specs.Received.{ranges_of}
use Rattle.dcsctp_receive_tracker.specs.contracts.data_tracker.DataTracker.{the_view}
use Rattle.dcsctp_receive_tracker.proofs.ObservingLemmas.{moves}
use Rattle.dcsctp_receive_tracker.proofs.data_tracker.DataTracker.handle_forward_tsn.Goals as goal

-- src/data_tracker.rt:330:5
pub returns-clause-left : goal.returns-clause-left
returns-clause-left c =
    rw (← c.self.view_is, c.after_arrival-self-inside.ensures, c.stop.ensures)
    (moves c.args.new_cumulative_tsn c.number_of-number.result (the_view c.self.inside) _ c.advance-self-inside.result (ranges_of c.advance-self-inside.new.ranges) c.self.invariant.beyond c.number_of-number.ensures (omega (arith, c.if-cumulative-gt-LAST_CUMULATIVE.false)) (omega (arith, c.if-number_of-cumulative.false, c.number_of.ensures ∙ sym c.number_of-number.ensures)) c.advance-self-inside.ensures refl)
