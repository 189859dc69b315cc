use Rattle.dcsctp_theorem_sockets.proofs.Ages.{cookies_age}
use Rattle.dcsctp_theorem_sockets.proofs.cookies.cookies_age.Goals as goal

pub returns : goal.returns
returns c = cookies_age (record { chunks = c.chunks_are_controlled.ensures; acts = c.acts_are_controlled.ensures }) c.chunks_are_controlled.ensures c.cookies_were_given.ensures
