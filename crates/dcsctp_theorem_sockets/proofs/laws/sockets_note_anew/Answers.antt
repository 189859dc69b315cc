use Rattle.dcsctp_theorem_sockets.proofs.NotingAnew.{anew_is_noted}
use Rattle.dcsctp_theorem_sockets.proofs.laws.sockets_note_anew.Goals as goal

pub returns : goal.returns
returns c = anew_is_noted (record { chunks = c.chunks_are_controlled.ensures; acts = c.acts_are_controlled.ensures }) c.past_is_state.ensures
