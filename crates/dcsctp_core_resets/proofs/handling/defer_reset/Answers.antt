use Rattle.std.proofs.Common.{false, ap, ◌∙◌}
use Rattle.std.proofs.lemmas.Result.{on_ok_weaker, on_err_weaker}
use Rattle.dcsctp_core.specs.types.Ids.{stream_numbers}
use Rattle.dcsctp_core.specs.spec.Reconfiguration.{RequestedReset}
use Rattle.dcsctp_core.proofs.LendingLemmas.{changes_lent, changes_nobody, kept, left_with}
use Rattle.dcsctp_core_resets.specs.Resets.{DefersTo}
use Rattle.dcsctp_core_resets.proofs.handling.defer_reset.Goals as goal

pub returns-in-None : goal.returns-in-None
returns-in-None c =
    let reset : RequestedReset = record { last_tsn = c.args.last_tsn; streams = stream_numbers c.args.streams.now; is_new = false } in
    record { ok = changes_nobody (DefersTo reset) c.args.state.now c.in-None.ensures.tcb; err = tt }

pub returns-in-Some : goal.returns-in-Some
returns-in-Some c =
    let old = c.args.state.now in
    let tcb = c.in-Some.tcb.now in
    let reset : RequestedReset = record { last_tsn = c.args.last_tsn; streams = stream_numbers c.args.streams.now; is_new = false } in
    record {
      ok = on_ok_weaker c.defer_reset.result (changes_lent (DefersTo reset) old tcb c.defer_reset.new.self c.in-Some.ensures.tcb) c.defer_reset.ensures.ok;
      err = on_err_weaker c.defer_reset.result (λ same. ap (left_with old tcb) same ∙ kept old tcb c.in-Some.ensures.tcb) c.defer_reset.ensures.err;
    }
