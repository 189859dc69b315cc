use Rattle.dcsctp_theorem_sockets.proofs.SocketsAlone.{socket_effects_in_place}
use Rattle.dcsctp_theorem_sockets.proofs.laws.socket_effects_in_place.Goals as goal

pub returns : goal.returns
returns c = socket_effects_in_place (record { chunks = c.chunks_are_controlled.ensures; acts = c.acts_are_controlled.ensures }) c.effects_in_place.ensures
