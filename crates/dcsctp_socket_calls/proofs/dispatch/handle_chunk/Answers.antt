use Rattle.std.proofs.Common.{sym, ◌∙◌}
use Rattle.std.proofs.lemmas.Result.{err_from_is_err_and}
use Rattle.dcsctp_core.specs.wire.Content.{chunk_content}
use Rattle.dcsctp_core.specs.spec.Packet.{content_of_chunk}
use Rattle.dcsctp_core.specs.View.{view_of}
use Rattle.dcsctp_socket_calls.proofs.DispatchLemmas.{early_worked, violation_worked, violation_cut}
use Rattle.dcsctp_socket_calls.proofs.dispatch.handle_chunk.Goals as goal

pub returns-then-comes_early : goal.returns-then-comes_early
returns-then-comes_early g c =
    early_worked g.R.Rng.stream (view_of c.args.context.now) c.args.header_tag (content_of_chunk (chunk_content c.args.chunk.now)) (sym c.comes_early.ensures ∙ c.if-comes_early.true)

pub returns-in_ok-abort_association-in-Some : goal.returns-in_ok-abort_association-in-Some
returns-in_ok-abort_association-in-Some g c =
    violation_worked g.R.Rng.stream (view_of c.args.context.now) (view_of c.abort_association.new.context) c.args.header_tag (content_of_chunk (chunk_content c.args.chunk.now)) c.in-Some.violation
    (sym c.comes_early.ensures ∙ c.if-comes_early.false) (cc (c.violation_of.ensures, c.in-Some.is)) c.in_ok-abort_association-in-Some.ensures.turn

pub returns-in_err-abort_association-in-Some : goal.returns-in_err-abort_association-in-Some
returns-in_err-abort_association-in-Some g c =
    rw (err_from_is_err_and c.from_residual.result c.from_residual.ensures.1).1
    (violation_cut (view_of c.args.context.now) c.args.header_tag (content_of_chunk (chunk_content c.args.chunk.now)) c.in-Some.violation _
    (sym c.comes_early.ensures ∙ c.if-comes_early.false) (cc (c.violation_of.ensures, c.in-Some.is)) c.in_err-abort_association-in-Some.ensures.turn)
