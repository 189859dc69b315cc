use Rattle.dcsctp_delivery_sockets.proofs.associations.InOrder.{ends_deliver_by_stream, ends_deliver_on_streams, ends_deliver_without_gaps}
use Rattle.dcsctp_delivery_sockets.proofs.associations_laws.ends_deliver_without_gaps.Goals as goal

pub returns-clause-streams : goal.returns-clause-streams
returns-clause-streams c = ends_deliver_by_stream

pub returns-clause-reliable : goal.returns-clause-reliable
returns-clause-reliable c = λ these options ends e queued past packets other their_past reading between many few window.
    ends_deliver_on_streams options ends e queued past packets other their_past reading between many few window these

pub returns-clause-all : goal.returns-clause-all
returns-clause-all c = ends_deliver_without_gaps
