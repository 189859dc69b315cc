-- What two sockets recover, by what the world shows of them.
use Rattle.std.proofs.Common.{◌≡◌, List, sym, subst}
use Rattle.dcsctp_core.specs.types.declared.options.Options.{Options}
use Rattle.dcsctp_core.specs.types.declared.schedule.Side.{Side}
use Rattle.dcsctp_core.specs.types.declared.schedule.Side.TheVariants as sides
use Rattle.dcsctp_core.specs.spec.endpoint.Endpoint.{Endpoint}
use Rattle.dcsctp_spec_runs.specs.Sockets.{Both, of_side, of_other, turns_after, endpoint_after}
use Rattle.dcsctp_delivery_recovery.specs.Received.{RunAllowsDelivery, AreEstablished}
use Rattle.dcsctp_delivery_recovery.specs.Recovered.{FollowRfc, RecoversLosses, SocketsRecoverLosses}
use Rattle.dcsctp_world.specs.Shown.{WorldView}
use Rattle.dcsctp_world.specs.Run.{IsRun}
use Rattle.dcsctp_world.specs.Promises.{ShownLossesComeThrough}

-- Two endpoints are these: so what holds of these holds of them.
shown_of : (e e' other other' : Endpoint) → e ≡ e' → other ≡ other' → (AreEstablished e' other' → RecoversLosses e' other') → AreEstablished e other → RecoversLosses e other
shown_of e e' other other' same same' holds both =
    subst (λ (x : Endpoint). RecoversLosses x other) (sym same)
    (subst (RecoversLosses e') (sym same')
    (holds (subst (AreEstablished e') same' (subst (λ (x : Endpoint). AreEstablished x other) same both))))

pub losses_shown : {R : Type 0} → SocketsRecoverLosses → (options : Both Options) (world : WorldView R) (run : IsRun options world) → RunAllowsDelivery options run.steps → FollowRfc options → (side : Side)
    → ShownLossesComeThrough (of_side side world.sides) (of_other side world.sides)
losses_shown law options world run allows follow sides.A =
    shown_of world.sides.a.socket.view.endpoint (endpoint_after options.a (turns_after run.steps).a) world.sides.b.socket.view.endpoint (endpoint_after options.b (turns_after run.steps).b)
    (run.sides sides.A).endpoint (run.sides sides.B).endpoint (law options run.steps allows follow sides.A)
losses_shown law options world run allows follow sides.B =
    shown_of world.sides.b.socket.view.endpoint (endpoint_after options.b (turns_after run.steps).b) world.sides.a.socket.view.endpoint (endpoint_after options.a (turns_after run.steps).a)
    (run.sides sides.B).endpoint (run.sides sides.A).endpoint (law options run.steps allows follow sides.B)
