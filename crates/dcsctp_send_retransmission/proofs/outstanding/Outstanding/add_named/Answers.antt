use Rattle.std.proofs.Common.{◌≡◌, length, min, ap, subst, sym, arith}
use Rattle.dcsctp_send_retransmission.specs.NamedPlaces.{AreSettledBetween}
use Rattle.dcsctp_api.specs.spec.queues.Outstanding.{OutstandingState}
use Rattle.dcsctp_send_retransmission.proofs.SettledLemmas.{kept_with_named, settled_added}
use Rattle.dcsctp_send_retransmission.proofs.outstanding.Outstanding.add_named.Goals as goal

pub invariant_of-self : goal.invariant_of-self
invariant_of-self c =
    let P : OutstandingState → Type 0 = λ m. AreSettledBetween c.args.start c.args.end m.items in
    let row = subst P (sym c.self.view_is) c.requires in
    let limit : c.min-limit.result ≡ min c.args.end (length c.self.inside.items.items) = omega (arith, c.min-limit.ensures, c.len.ensures.value, ap (λ (m : OutstandingState). length m.items) c.self.view_is) in
    kept_with_named _ _ _ _ _ _ c.self.invariant (settled_added _ _ _ c.args.start c.args.end _ c.self.invariant.settled row limit c.add.ensures)
