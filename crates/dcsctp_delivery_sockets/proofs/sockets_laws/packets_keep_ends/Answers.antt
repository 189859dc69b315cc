use Rattle.std.proofs.Common.{refl}
use Rattle.dcsctp_spec_lemmas.specs.spec.Admission.{admits}
use Rattle.dcsctp_delivery_sockets.proofs.sockets.PacketTurns.{packet_goes}
use Rattle.dcsctp_delivery_sockets.proofs.sockets_laws.packets_keep_ends.Goals as goal

pub returns : goal.returns
returns c = λ seen options ends e queued past packets other their_past reading emission turns between answered reported few little has go new taken.
    packet_goes ends.calls options e queued past packets few little emission has seen other their_past reading turns (record { ends = ends; is = refl; between = between; answered = answered; reported = reported }) new go (admits other.core emission.packet) refl taken
