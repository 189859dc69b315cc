use Rattle.dcsctp_delivery_directions.proofs.directions.Requests.{requests_were_begun}
use Rattle.dcsctp_delivery_directions.proofs.directions.RequestCounts.{requests_are_sent}
use Rattle.dcsctp_delivery_directions.proofs.directions_laws.requests_are_begun.Goals as goal

pub returns-clause-begun : goal.returns-clause-begun
returns-clause-begun c = requests_were_begun

pub returns-clause-sent : goal.returns-clause-sent
returns-clause-sent c = requests_are_sent
