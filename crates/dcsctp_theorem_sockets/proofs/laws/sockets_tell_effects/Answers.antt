use Rattle.dcsctp_theorem_sockets.proofs.TellingEffects.{effects_are_told}
use Rattle.dcsctp_theorem_sockets.proofs.laws.sockets_tell_effects.Goals as goal

pub returns : goal.returns
returns c = effects_are_told (record { chunks = c.chunks_are_controlled.ensures; acts = c.acts_are_controlled.ensures })
