use Rattle.dcsctp_delivery_sockets.proofs.turns.Tags.{tags_own, echoes_own, flushes_to}
use Rattle.dcsctp_delivery_sockets.proofs.turns_laws.tags_are_own.Goals as goal

pub returns-clause-admitted : goal.returns-clause-admitted
returns-clause-admitted c = tags_own

pub returns-clause-echoed : goal.returns-clause-echoed
returns-clause-echoed c = echoes_own

pub returns-clause-sent : goal.returns-clause-sent
returns-clause-sent c = flushes_to
