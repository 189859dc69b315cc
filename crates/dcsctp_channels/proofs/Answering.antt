-- A call in which an allocation failed.
use Rattle.std.proofs.Common.{◌≡◌, false, true, Err, sym, subst}
use Rattle.dcsctp_channel_calls.specs.api.declared.errors.SocketFault.{SocketFault}
use Rattle.dcsctp_channel_calls.specs.api.declared.errors.SocketFault.TheVariants.{OutOfMemory}
use Rattle.dcsctp_channel_calls.specs.View.{LayerView, ChannelsView}
use Rattle.dcsctp_channel_calls.specs.Calls.{KeepsTaking, Answers}

pub runs_out : {A : Type 0} (Done : A → ChannelsView → ChannelsView → Type 0) (old new : ChannelsView) (left : LayerView) (fault : SocketFault) → old.layer.failed ≡ false
    → KeepsTaking old.layer left → fault ≡ OutOfMemory → new.layer ≡ record left { failed = true } → Answers Done old (Err fault) new
runs_out Done old new left fault runs keeps is only =
    subst (λ (f : SocketFault). Answers Done old (Err f) new) (sym is) (record { runs = runs; left = left; keeps = keeps; only = only })
