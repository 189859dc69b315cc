use Rattle.dcsctp_delivery_directions.proofs.receiving.Clear.{clear_through_data, clear_through_forward, clear_through_resets, clear_through_rest}
use Rattle.dcsctp_delivery_directions.proofs.receiving_laws.streams_stay_clear.Goals as goal

pub returns-clause-data : goal.returns-clause-data
returns-clause-data c = clear_through_data

pub returns-clause-forward : goal.returns-clause-forward
returns-clause-forward c = clear_through_forward

pub returns-clause-reset : goal.returns-clause-reset
returns-clause-reset c = clear_through_resets

pub returns-clause-rest : goal.returns-clause-rest
returns-clause-rest c = clear_through_rest
