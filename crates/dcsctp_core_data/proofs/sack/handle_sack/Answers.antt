use Rattle.std.proofs.Common.{ap}
use Rattle.std.specs.Prelude.{is_some}
use Rattle.std.proofs.lemmas.Result.{err_from_is_err_and}
use Rattle.dcsctp_core.specs.wire.Content.{sack_content}
use Rattle.dcsctp_core.proofs.BelowLemmas.{sacks_lent}
use Rattle.dcsctp_core.proofs.LendingLemmas.{found, left_with}
use Rattle.dcsctp_core_data.proofs.SackLemmas.{taken, still_held, sack_done, sack_cut, sack_ignored, sack_unasked, sack_refused}
use Rattle.dcsctp_core_data.proofs.sack.handle_sack.Goals as goal

pub returns-in_default : goal.returns-in_default
returns-in_default g c =
    sack_unasked g.R.Rng.stream c.args.context.now c.report_no_tcb.result c.report_no_tcb.new.context (sack_content c.args.chunk.now)
    c.in_default.ensures.tcb c.report_no_tcb.ensures

pub returns-in_err-handled : goal.returns-in_err-handled
returns-in_err-handled g c =
    let old = c.args.context.now in
    let tcb = c.in-Some.tcb.now in
    let after = c.handle_sack.new.self in
    let content = sack_content c.args.chunk.now in
    rw (err_from_is_err_and c.from_residual.result c.from_residual.ensures.1).1
    (sack_refused old content (left_with old.state tcb after) c.handle_sack.new.events _
    (ap is_some (found old.state tcb c.in-Some.ensures.tcb)) (sacks_lent old.moment content old.state tcb after _ _ _ c.in-Some.ensures.tcb c.in_err-handled.ensures))

pub returns-in-Invalid : goal.returns-in-Invalid
returns-in-Invalid g c =
    let old = c.args.context.now in
    let tcb = c.in-Some.tcb.now in
    let after = c.handle_sack.new.self in
    let content = sack_content c.args.chunk.now in
    sack_ignored g.R.Rng.stream old content (left_with old.state tcb after) c.handle_sack.new.events
    (ap is_some (found old.state tcb c.in-Some.ensures.tcb)) (sacks_lent old.moment content old.state tcb after _ _ _ c.in-Some.ensures.tcb (rw c.in-Invalid.is at c.in_ok-handled.ensures))

pub returns-in_err-proceed-in-Valid : goal.returns-in_err-proceed-in-Valid
returns-in_err-proceed-in-Valid g c =
    let old = c.args.context.now in
    let tcb = c.in-Some.tcb.now in
    let after = c.handle_sack.new.self in
    let content = sack_content c.args.chunk.now in
    let left = left_with old.state tcb after in
    let shows = c.shows_peer-is_there.result in
    let sack = taken old content c.in-Valid.acknowledges shows left c.handle_sack.new.events
    (ap is_some (found old.state tcb c.in-Some.ensures.tcb)) c.shows_peer-is_there.ensures (sacks_lent old.moment content old.state tcb after _ _ _ c.in-Some.ensures.tcb (rw c.in-Valid.is at c.in_ok-handled.ensures)) in
    rw (err_from_is_err_and c.from_residual-in_err-proceed-in-Valid.result c.from_residual-in_err-proceed-in-Valid.ensures.1).1
    (sack_cut old content shows left c.handle_sack.new.events c.heed_answer.new.context c.proceed.new.context sack c.heed_answer.ensures
    (c.in_err-proceed-in-Valid.ensures (still_held old content shows left c.handle_sack.new.events c.heed_answer.new.context sack c.heed_answer.ensures)))

pub returns-in_ok-proceed-in-Valid : goal.returns-in_ok-proceed-in-Valid
returns-in_ok-proceed-in-Valid g c =
    let old = c.args.context.now in
    let tcb = c.in-Some.tcb.now in
    let after = c.handle_sack.new.self in
    let content = sack_content c.args.chunk.now in
    let left = left_with old.state tcb after in
    let shows = c.shows_peer-is_there.result in
    let sack = taken old content c.in-Valid.acknowledges shows left c.handle_sack.new.events
    (ap is_some (found old.state tcb c.in-Some.ensures.tcb)) c.shows_peer-is_there.ensures (sacks_lent old.moment content old.state tcb after _ _ _ c.in-Some.ensures.tcb (rw c.in-Valid.is at c.in_ok-handled.ensures)) in
    sack_done g.R.Rng.stream old content shows left c.handle_sack.new.events c.heed_answer.new.context c.proceed.new.context sack c.heed_answer.ensures
    (c.in_ok-proceed-in-Valid.ensures (still_held old content shows left c.handle_sack.new.events c.heed_answer.new.context sack c.heed_answer.ensures))
