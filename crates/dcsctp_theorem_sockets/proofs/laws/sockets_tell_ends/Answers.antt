use Rattle.dcsctp_theorem_sockets.proofs.TellingEnds.{ends_are_told}
use Rattle.dcsctp_theorem_sockets.proofs.laws.sockets_tell_ends.Goals as goal

pub returns : goal.returns
returns c = ends_are_told (record { once = c.ends_once.ensures; acts = c.acts_are_controlled.ensures })
