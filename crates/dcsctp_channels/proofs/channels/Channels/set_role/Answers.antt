use Rattle.std.proofs.Common.{Some, refl}
use Rattle.dcsctp_channel_calls.specs.Opening.{SetsRole}
use Rattle.dcsctp_channels.specs.Layer.{layer_view}
use Rattle.dcsctp_channels.proofs.Answering.{runs_out}
use Rattle.dcsctp_channels.proofs.Keeping.{keeps_same, keeps_then}
use Rattle.dcsctp_channels.proofs.channels.Channels.set_role.Goals as goal

pub returns-in-Err : goal.returns-in-Err
returns-in-Err g c =
    runs_out {A = Unit {0}} (λ done. SetsRole c.args.role) _ _ (layer_view c.begin_waiting.new.layer) c.fail.result c.if-self.false
    (keeps_then _ (record (layer_view c.args.self.now.layer) { role = Some c.args.role }) _ (keeps_same _ (record (layer_view c.args.self.now.layer) { role = Some c.args.role }) refl refl refl refl) c.begin_waiting.ensures.0) c.fail.ensures.fault c.fail.ensures.fails
