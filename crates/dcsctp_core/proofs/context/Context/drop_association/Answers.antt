use Rattle.std.proofs.Common.{ℕ, false, Option, None, ap, ◌∙◌}
use Rattle.dcsctp_core.specs.View.{view_of}
use Rattle.dcsctp_core.specs.declared.state.State.{State}
use Rattle.dcsctp_core.specs.declared.state.State.TheVariants.{Closed}
use Rattle.dcsctp_core.proofs.context.Context.drop_association.Goals as goal

pub returns-then-not-self-clause-view : goal.returns-then-not-self-clause-view
returns-then-not-self-clause-view g c =
    ap (λ (s : State). view_of (record c.args.self.now { heartbeat_sent = None; renewable = None; shutdown_asked = false; last_tag = c.ended_tag-self.result; state = s })) c.replace-ended.ensures.after
    ∙ ap (λ (last : Option ℕ). view_of (record c.args.self.now { heartbeat_sent = None; renewable = None; shutdown_asked = false; last_tag = last; state = Closed })) c.ended_tag-self.ensures

pub returns-in-Some-clause-view : goal.returns-in-Some-clause-view
returns-in-Some-clause-view g c =
    ap (λ (s : State). view_of (record c.args.self.now { heartbeat_sent = None; renewable = None; shutdown_asked = false; last_tag = c.ended_tag-self.result; state = s; left = c.in-Some.messages })) c.replace-ended.ensures.after
    ∙ ap (λ (last : Option ℕ). view_of (record c.args.self.now { heartbeat_sent = None; renewable = None; shutdown_asked = false; last_tag = last; state = Closed; left = c.in-Some.messages })) c.ended_tag-self.ensures
