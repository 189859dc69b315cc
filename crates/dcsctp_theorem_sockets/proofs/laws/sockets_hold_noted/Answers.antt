use Rattle.dcsctp_theorem_sockets.proofs.TellingEffects.{noted_is_held}
use Rattle.dcsctp_theorem_sockets.proofs.laws.sockets_hold_noted.Goals as goal

pub returns : goal.returns
returns c = noted_is_held (record { chunks = c.chunks_are_controlled.ensures; acts = c.acts_are_controlled.ensures }) c.past_is_state.ensures
