use Rattle.std.proofs.Common.{refl, sym, ◌∙◌}
use Rattle.std.proofs.lemmas.Result.{err_from_is_err_and}
use Rattle.dcsctp_core.specs.View.{view_of}
use Rattle.dcsctp_core_ends.proofs.AbortLemmas.{aborts, aborts_in_part}
use Rattle.dcsctp_core_ends.proofs.aborting.abort_association.Goals as goal

pub returns-in_err-close_association : goal.returns-in_err-close_association
returns-in_err-close_association g c =
    let runs = sym c.is_closed.ensures ∙ c.if-is_closed.false in
    record {
      turn =
          rw (err_from_is_err_and c.from_residual-in_err-close_association.result c.from_residual-in_err-close_association.ensures.1).1
          (aborts_in_part g.R.Rng.stream (view_of c.args.context.now) (view_of c.send_abort.new.context) (view_of c.close_association.new.context) c.args.reason runs
          c.in_ok-send_abort.ensures c.in_err-close_association.ensures);
      closed = λ closed. absurd (cc);
    }

pub returns : goal.returns
returns g c =
    let runs = sym c.is_closed.ensures ∙ c.if-is_closed.false in
    record {
      turn =
          aborts g.R.Rng.stream (view_of c.args.context.now) (view_of c.send_abort.new.context) (view_of c.close_association.new.context) c.args.reason runs
          c.in_ok-send_abort.ensures c.in_ok-close_association.ensures;
      closed = λ closed. refl;
    }
