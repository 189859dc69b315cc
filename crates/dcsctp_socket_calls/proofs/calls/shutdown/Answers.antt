use Rattle.std.proofs.Common.{refl}
use Rattle.std.proofs.lemmas.Result.{err_from_is_err_and}
use Rattle.dcsctp_core.specs.spec.association.Acts.{shut_down}
use Rattle.dcsctp_core.specs.View.{view_of}
use Rattle.dcsctp_core_ends.specs.Shutdown.{shut_down_turn}
use Rattle.dcsctp_socket_calls.proofs.ActLemmas.{act_done, act_cut}
use Rattle.dcsctp_socket_calls.proofs.calls.shutdown.Goals as goal

pub returns-clause-turn : goal.returns-clause-turn
returns-clause-turn g c = (
  tt,
  act_done g.R.Rng.stream shut_down shut_down_turn (view_of c.args.context.now) (view_of c.begin_call.new.self) (view_of c.do_shutdown.new.context)
      c.begin_call.ensures (λ view. refl) c.in_ok-do_shutdown.ensures.turn,
)

pub returns-in_err-do_shutdown-clause-turn : goal.returns-in_err-do_shutdown-clause-turn
returns-in_err-do_shutdown-clause-turn g c =
    rw (err_from_is_err_and c.from_residual.result c.from_residual.ensures.1).1
    (act_cut shut_down shut_down_turn (view_of c.args.context.now) (view_of c.begin_call.new.self) _
    c.begin_call.ensures (λ view. refl) c.in_err-do_shutdown.ensures.turn)
