use Rattle.std.proofs.Common.{refl}
use Rattle.std.proofs.lemmas.Result.{err_from_is_err_and}
use Rattle.dcsctp_core.specs.types.declared.ends.AbortReason.TheVariants.{CloseCalled}
use Rattle.dcsctp_core.specs.spec.association.Acts.{abort_with}
use Rattle.dcsctp_core.specs.View.{view_of}
use Rattle.dcsctp_core_ends.specs.Ends.{aborting_turn}
use Rattle.dcsctp_socket_calls.proofs.ActLemmas.{act_done, act_cut}
use Rattle.dcsctp_socket_calls.proofs.calls.close.Goals as goal

pub returns-clause-turn : goal.returns-clause-turn
returns-clause-turn g c = (
  tt,
  act_done g.R.Rng.stream (abort_with CloseCalled) (aborting_turn CloseCalled) (view_of c.args.context.now) (view_of c.begin_call.new.self) (view_of c.abort_association.new.context)
      c.begin_call.ensures (λ view. refl) c.in_ok-abort_association.ensures.turn,
)

pub returns-in_err-abort_association-clause-turn : goal.returns-in_err-abort_association-clause-turn
returns-in_err-abort_association-clause-turn g c =
    rw (err_from_is_err_and c.from_residual.result c.from_residual.ensures.1).1
    (act_cut (abort_with CloseCalled) (aborting_turn CloseCalled) (view_of c.args.context.now) (view_of c.begin_call.new.self) _
    c.begin_call.ensures (λ view. refl) c.in_err-abort_association.ensures.turn)
