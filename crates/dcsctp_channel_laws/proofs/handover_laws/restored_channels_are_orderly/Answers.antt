use Rattle.dcsctp_channel_laws.proofs.Restoring.{restored_are_orderly}
use Rattle.dcsctp_channel_laws.proofs.handover_laws.restored_channels_are_orderly.Goals as goal

pub returns : goal.returns
returns c = restored_are_orderly
