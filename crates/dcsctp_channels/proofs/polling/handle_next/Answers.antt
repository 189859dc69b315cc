use Rattle.std.proofs.Common.{sym, ◌∙◌}
use Rattle.dcsctp_channels.proofs.Loops.{told_in_turn, late_in_turn}
use Rattle.dcsctp_channels.proofs.polling.handle_next.Goals as goal

pub returns-then-event_is_due : goal.returns-then-event_is_due
returns-then-event_is_due g c = told_in_turn c.handle_told.result _ _ (sym c.event_is_due.ensures ∙ c.if-event_is_due.true) c.handle_told.ensures

pub returns : goal.returns
returns g c = late_in_turn c.do_late.result _ _ (record { no_event = sym c.event_is_due.ensures ∙ c.if-event_is_due.false; no_message = (cc) }) (cc) c.do_late.ensures
