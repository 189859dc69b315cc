use Rattle.std.proofs.Common.{ap, sym, ◌∙◌}
use Rattle.dcsctp_core.specs.Timeout.{is_deadline_later, is_quiet}
use Rattle.dcsctp_core.specs.View.{core_of, endpoint_of}
use Rattle.dcsctp_core.proofs.TimeoutLemmas.{none_is_due}
use Rattle.dcsctp_core.proofs.timeout.is_quiet.Goals as goal

pub returns-in-Closed : goal.returns-in-Closed
returns-in-Closed g c =
    let answer = c.is_later.ensures ∙ ap (is_deadline_later c.args.now) c.first.ensures.first ∙ sym (ap (λ state. is_quiet (core_of state) c.args.now c.args.deadlines.now) c.in-Closed.is) in
    record { answer = answer; quiet = λ yes. none_is_due (endpoint_of c.args.context.now) c.args.now c.args.deadlines.now c.first.ensures.listing c.requires (sym answer ∙ yes) }

pub returns-in-CookieWait : goal.returns-in-CookieWait
returns-in-CookieWait g c =
    let answer = c.is_later-in-CookieWait.ensures ∙ ap (is_deadline_later c.args.now) c.first-in-CookieWait.ensures.first ∙ sym (ap (λ state. is_quiet (core_of state) c.args.now c.args.deadlines.now) c.in-CookieWait.is) in
    record { answer = answer; quiet = λ yes. none_is_due (endpoint_of c.args.context.now) c.args.now c.args.deadlines.now c.first-in-CookieWait.ensures.listing c.requires (sym answer ∙ yes) }

pub returns-in-Open : goal.returns-in-Open
returns-in-Open g c =
    let answer = c.is_later-in-Open.ensures ∙ ap (is_deadline_later c.args.now) c.first-in-Open.ensures.first ∙ sym (ap (λ state. is_quiet (core_of state) c.args.now c.args.deadlines.now) c.in-Open.is) in
    record { answer = answer; quiet = λ yes. none_is_due (endpoint_of c.args.context.now) c.args.now c.args.deadlines.now c.first-in-Open.ensures.listing c.requires (sym answer ∙ yes) }
