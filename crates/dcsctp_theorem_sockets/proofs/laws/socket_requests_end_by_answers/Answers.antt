use Rattle.dcsctp_theorem_sockets.proofs.OneSocket.{requests_end}
use Rattle.dcsctp_theorem_sockets.proofs.laws.socket_requests_end_by_answers.Goals as goal

pub returns : goal.returns
returns c = requests_end (record { answers = c.answers_end_requests.ensures; acts = c.acts_are_controlled.ensures })
