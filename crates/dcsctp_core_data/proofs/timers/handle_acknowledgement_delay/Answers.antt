use Rattle.std.proofs.Common.{refl}
use Rattle.dcsctp_core_data.proofs.EndLemmas.{delay_told, delay_unasked}
use Rattle.dcsctp_core_data.proofs.timers.handle_acknowledgement_delay.Goals as goal

pub returns-in-None : goal.returns-in-None
returns-in-None g c = delay_unasked g.R.Rng.stream c.args.context.now c.in-None.ensures.tcb

pub returns-in-Some : goal.returns-in-Some
returns-in-Some g c =
    delay_told g.R.Rng.stream c.args.context.now _ c.in-Some.tcb.now c.expire_acknowledgement.new.self c.expire_acknowledgement.result refl c.in-Some.ensures.tcb
    c.expire_acknowledgement.ensures.answer c.expire_acknowledgement.ensures.left
