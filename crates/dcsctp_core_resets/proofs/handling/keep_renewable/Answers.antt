use Rattle.dcsctp_core_resets.proofs.HandlingLemmas.{as_was}
use Rattle.dcsctp_core_resets.specs.declared.requests.Treatment.TheVariants.{Nothing, Deferred}
use Rattle.std.proofs.Common.{refl}
use Rattle.dcsctp_core_resets.proofs.handling.keep_renewable.Goals as goal

pub returns-in-Nothing : goal.returns-in-Nothing
returns-in-Nothing g c = rw c.in-Nothing.is (as_was c.args.context.now c.args.last c.args.request Nothing refl)

pub returns-in-Deferred : goal.returns-in-Deferred
returns-in-Deferred g c = rw c.in-Deferred.is (as_was c.args.context.now c.args.last c.args.request Deferred refl)

pub returns-in-Performed : goal.returns-in-Performed
returns-in-Performed g c = rw c.in-Performed.is c.record_renewable.ensures

pub returns-in-Renewed : goal.returns-in-Renewed
returns-in-Renewed g c = rw c.in-Renewed.is c.record_renewable-in-Renewed.ensures
