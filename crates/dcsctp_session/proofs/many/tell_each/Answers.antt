use Rattle.std.proofs.Common.{arith, map, length, drop}
use Rattle.dcsctp_session.specs.Status.{status_number}
use Rattle.dcsctp_session.specs.Answering.{statuses_from_place}
use Rattle.dcsctp_session.proofs.ManyLemmas.{told_more}
use Rattle.dcsctp_session.proofs.many.tell_each.Goals as goal

pub loop-place-preserved : goal.loop-place-preserved
loop-place-preserved c =
    told_more (length c.args.results.now) c.loop-place.place c.loop-place.results (map status_number (statuses_from_place (length c.args.results.now) 0 c.args.refused.now))
    (drop c.loop-place.before c.args.refused.now) (drop c.status_at-status.result.1 c.args.refused.now) c.status_at-status.result.0 c.number.result
    c.loop-place-test.true c.status_at-status.ensures.status c.status_at-status.ensures.rest c.number.ensures c.loop-place.invariant
