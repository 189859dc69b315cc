-- The number after the cumulative one moves it, with what follows in a row.
use Rattle.std.proofs.Common.{arith}
use Rattle.dcsctp_receive_tracker.specs.Received.{ranges_of}
use Rattle.dcsctp_receive_tracker.proofs.ReceivedLemmas.{Receives-next}
use Rattle.dcsctp_receive_tracker.proofs.received.Received.receive.Goals as goal

pub returns-then-number-self-eq1-clause-ok : goal.returns-then-number-self-eq1-clause-ok
returns-then-number-self-eq1-clause-ok c =
    Receives-next c.args.number c.args.self.now.cumulative (ranges_of c.args.self.now.ranges) c.advance-self.result (ranges_of c.advance-self.new.ranges) (omega arith) c.requires c.advance-self.ensures
