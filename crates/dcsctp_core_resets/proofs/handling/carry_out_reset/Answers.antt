use Rattle.dcsctp_core_resets.specs.Resets.{reset_of_request}
use Rattle.dcsctp_core_resets.proofs.HandlingLemmas.{untouched, treated_none, deferred_by}
use Rattle.dcsctp_core_resets.proofs.handling.carry_out_reset.Goals as goal

pub returns-in-None : goal.returns-in-None
returns-in-None g c = rw c.in-None.is (treated_none c.args.treatment c.args.context.now)

pub returns-in-Nothing : goal.returns-in-Nothing
returns-in-Nothing g c = rw c.in-Some.is (rw c.in-Nothing.is (untouched c.args.context.now (reset_of_request c.in-Some.request)))

pub returns-in-Deferred : goal.returns-in-Deferred
returns-in-Deferred g c = rw c.in-Some.is (rw c.in-Deferred.is (deferred_by c.args.context.now c.defer.result c.defer.new.context (reset_of_request c.in-Some.request) c.defer.ensures))
