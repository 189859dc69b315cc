use Rattle.dcsctp_core_resets.proofs.requests.answer_next.Goals as goal

pub returns-in-Early : goal.returns-in-Early
returns-in-Early c = λ base. rw c.in-Early.is (c.perform_or_defer.ensures base)

pub returns-in-Due : goal.returns-in-Due
returns-in-Due c = λ base. rw c.in-Due.is (c.perform_or_defer-in-Due.ensures base)

pub returns-in-Renewed : goal.returns-in-Renewed
returns-in-Renewed c = λ base. rw c.in-Renewed.is (c.renew.ensures base)
