use Rattle.std.proofs.Common.{ℕ, Option, Ok, List, refl, sym, subst}
use Rattle.dcsctp_spec_runs.specs.Sockets.{DeliveryTurns}
use Rattle.dcsctp_world.specs.declared.act.Reply.TheVariants.{NoCall}
use Rattle.dcsctp_world.specs.Growth.{HandlesAct, IsDeliveryReply}
use Rattle.dcsctp_world.specs.Parts.{shown_side}
use Rattle.dcsctp_world.proofs.Stopping.{grows_by_nothing}
use Rattle.dcsctp_world.proofs.watched_socket.WatchedSocket.deliver.Goals as goal

pub returns-in-None : goal.returns-in-None
returns-in-None g c =
    let old = c.args.self.now in
    let Delivers : Option (List ℕ) → Type 0 = λ bytes.
    HandlesAct g.R.Rng.stream (DeliveryTurns old.socket.view.endpoint bytes) (IsDeliveryReply bytes) (shown_side old) (Ok NoCall) (shown_side old) in
    subst Delivers (sym c.in-None.ensures) (refl, grows_by_nothing g.R.Rng.stream _ (shown_side old) refl c.requires)
