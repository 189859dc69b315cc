use Rattle.dcsctp_delivery_directions.proofs.sending.Queueing.{queueing_hold}
use Rattle.dcsctp_delivery_directions.proofs.sending.KeptQueues.{kept_hold, restarted_hold}
use Rattle.dcsctp_delivery_directions.proofs.sending.Settings.{setting_hold, committing_hold, rolling_back_hold}
use Rattle.dcsctp_delivery_directions.proofs.sending.Prepared.{preparing_hold}
use Rattle.dcsctp_delivery_directions.proofs.sending_laws.queueing_keeps.Goals as goal

pub returns-clause-added : goal.returns-clause-added
returns-clause-added c = queueing_hold

pub returns-clause-kept : goal.returns-clause-kept
returns-clause-kept c = kept_hold

pub returns-clause-restarted : goal.returns-clause-restarted
returns-clause-restarted c = restarted_hold

pub returns-clause-setting : goal.returns-clause-setting
returns-clause-setting c = setting_hold

pub returns-clause-prepared : goal.returns-clause-prepared
returns-clause-prepared c = preparing_hold

pub returns-clause-committed : goal.returns-clause-committed
returns-clause-committed c = committing_hold

pub returns-clause-rolled_back : goal.returns-clause-rolled_back
returns-clause-rolled_back c = rolling_back_hold
