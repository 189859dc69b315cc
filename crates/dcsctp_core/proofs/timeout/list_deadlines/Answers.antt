use Rattle.std.proofs.Common.{ap, ap₂, subst, sym, ◌∙◌}
use Rattle.dcsctp_transfer.specs.spec.endpoint.Endpoint.{closed}
use Rattle.dcsctp_core.specs.declared.deadlines.DeadlineKind.TheVariants.{T1}
use Rattle.dcsctp_core.specs.Listing.{with_entry}
use Rattle.dcsctp_core.specs.Timeout.{ListsDeadlines}
use Rattle.dcsctp_core.specs.View.{core_of, endpoint_of}
use Rattle.dcsctp_core.proofs.TimeoutLemmas.{relisted_is_told, lists_waiting, lists_echoed}
use Rattle.dcsctp_core.proofs.timeout.list_deadlines.Goals as goal

pub returns-in-Closed : goal.returns-in-Closed
returns-in-Closed g c =
    let e = endpoint_of c.args.context.now in
    subst (ListsDeadlines e) (sym (c.clear.ensures)) (relisted_is_told e (closed) (ap core_of c.in-Closed.is))

pub returns-in-CookieWait : goal.returns-in-CookieWait
returns-in-CookieWait g c =
    subst (ListsDeadlines (endpoint_of c.args.context.now)) (sym (c.add.ensures.added ∙ ap₂ (with_entry T1) c.next_expiry.ensures c.clear.ensures))
    (lists_waiting c.args.context.now c.in-CookieWait.wait c.in-CookieWait.is)

pub returns-in-CookieEchoed : goal.returns-in-CookieEchoed
returns-in-CookieEchoed g c =
    subst (ListsDeadlines (endpoint_of c.args.context.now)) (sym (c.add-in-CookieEchoed.ensures.added ∙ ap₂ (with_entry T1) c.next_expiry-in-CookieEchoed.ensures c.clear.ensures))
    (lists_echoed c.args.context.now c.in-CookieEchoed.echoed c.in-CookieEchoed.is)
