use Rattle.dcsctp_delivery_directions.proofs.order.Order.{new_in_order, parts_stay, skips_stay, others_stay, come_between, resets_stay}
use Rattle.dcsctp_delivery_directions.proofs.order_laws.streams_stay_in_order.Goals as goal

pub returns-clause-new : goal.returns-clause-new
returns-clause-new c = new_in_order

pub returns-clause-parts : goal.returns-clause-parts
returns-clause-parts c = λ queued history id place all. parts_stay queued history id all place

pub returns-clause-skips : goal.returns-clause-skips
returns-clause-skips c = skips_stay

pub returns-clause-others : goal.returns-clause-others
returns-clause-others c = others_stay

pub returns-clause-resets : goal.returns-clause-resets
returns-clause-resets c = λ queued history floors id all. resets_stay queued history id all floors

pub returns-clause-between : goal.returns-clause-between
returns-clause-between c = come_between
