use Rattle.dcsctp_delivery_directions.proofs.receiving.Received.{receiving_keeps, forwarding_keeps}
use Rattle.dcsctp_delivery_directions.proofs.receiving.Reassembled.{left_keeps}
use Rattle.dcsctp_delivery_directions.proofs.receiving.Growing.{received_more, received_asked, received_awaited}
use Rattle.dcsctp_delivery_directions.proofs.receiving.Taking.{nothing_received, reads_on}
use Rattle.dcsctp_delivery_directions.proofs.receiving_laws.receiving_keeps.Goals as goal

pub returns-clause-data : goal.returns-clause-data
returns-clause-data c = λ queued history first read offset arrival old new cut told f. receiving_keeps queued history first cut told f read offset arrival old new

pub returns-clause-forward : goal.returns-clause-forward
returns-clause-forward c = λ queued history first read tsn entries old new cut told f. forwarding_keeps queued history first cut told f read tsn entries old new

pub returns-clause-reset : goal.returns-clause-reset
returns-clause-reset c = λ queued history first read streams tracker old new cut told f. left_keeps queued history first cut told f read streams tracker old new

pub returns-clause-more : goal.returns-clause-more
returns-clause-more c = received_more

pub returns-clause-asked : goal.returns-clause-asked
returns-clause-asked c = received_asked

pub returns-clause-awaited : goal.returns-clause-awaited
returns-clause-awaited c = received_awaited

pub returns-clause-begun : goal.returns-clause-begun
returns-clause-begun c = nothing_received

pub returns-clause-read : goal.returns-clause-read
returns-clause-read c = reads_on
