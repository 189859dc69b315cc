use Rattle.std.proofs.Common.{sym, ap, subst, ◌∙◌}
use Rattle.dcsctp_api.specs.spec.queues.SendQueue.{HaveBytes, CanGoOn}
use Rattle.dcsctp_api.specs.types.queues.SendStreams.{Stream}
use Rattle.dcsctp_send_queue.proofs.ProducingLemmas.{progress_some, progress_none}
use Rattle.dcsctp_send_queue.proofs.backlog.Backlog.next_progress.Goals as goal

pub returns-in-Some-clause-come : goal.returns-in-Some-clause-come
returns-in-Some-clause-come c message front =
    progress_some _ message _ (ap (λ (s : Stream). s.under_way) (sym c.at.ensures) ∙ (sym c.under_way.ensures.progress ∙ c.in-Some.is))

pub returns-in-None-clause-come : goal.returns-in-None-clause-come
returns-in-None-clause-come c message front =
    progress_none _ message _ (ap (λ (s : Stream). s.under_way) (sym c.at.ensures) ∙ (sym c.under_way.ensures.progress ∙ c.in-None.is)) (c.begun.ensures message front)

pub returns-in-Some-clause-bytes : goal.returns-in-Some-clause-bytes
returns-in-Some-clause-bytes c = subst HaveBytes c.at.ensures c.under_way.ensures.bytes

pub returns-in-None-clause-bytes : goal.returns-in-None-clause-bytes
returns-in-None-clause-bytes c = subst HaveBytes c.at.ensures c.under_way.ensures.bytes

pub returns-in-Some-clause-can : goal.returns-in-Some-clause-can
returns-in-Some-clause-can c = subst CanGoOn c.at.ensures c.under_way.ensures.can

pub returns-in-None-clause-can : goal.returns-in-None-clause-can
returns-in-None-clause-can c = subst CanGoOn c.at.ensures c.under_way.ensures.can
