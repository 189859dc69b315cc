use Rattle.dcsctp_delivery_sockets.proofs.associations.InOrder.{ends_arrive}
use Rattle.dcsctp_delivery_sockets.proofs.associations_laws.ends_arrive.Goals as goal

pub returns : goal.returns
returns c = λ these options ends e queued past packets other their_past reading between many few window.
    ends_arrive options ends e queued past packets other their_past reading between many few window these
