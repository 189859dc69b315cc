use Rattle.std.proofs.Common.{refl}
use Rattle.dcsctp_delivery_sockets.proofs.sockets.Acts.{senders_act, receivers_act, receivers_handle}
use Rattle.dcsctp_delivery_sockets.proofs.sockets.Calls.{call_without}
use Rattle.dcsctp_delivery_sockets.proofs.sockets_laws.acts_keep_ends.Goals as goal

pub returns-clause-sends : goal.returns-clause-sends
returns-clause-sends c = λ seen options ends e queued past packets other their_past reading turns between answered reported taken resets back new few little.
    senders_act ends.calls seen options other their_past reading turns e queued past packets ends.calls.made (record { ends = ends; is = refl; between = between; answered = answered; reported = reported }) taken resets back new few little

pub returns-clause-calls : goal.returns-clause-calls
returns-clause-calls c = λ seen options ends e queued past packets other their_past reading call turns between answered reported few little user taken may new.
    receivers_act ends.calls options e queued past packets few little turns seen other their_past reading (record { ends = ends; is = refl; between = between; answered = answered; reported = reported }) (call_without other call turns user) taken may new

pub returns-clause-handles : goal.returns-clause-handles
returns-clause-handles c = λ seen options ends e queued past packets other their_past reading emission bytes turns between answered reported few little has go is new taken.
    receivers_handle ends.calls options e queued past packets few little seen other their_past reading emission bytes turns (record { ends = ends; is = refl; between = between; answered = answered; reported = reported }) has go is new taken
