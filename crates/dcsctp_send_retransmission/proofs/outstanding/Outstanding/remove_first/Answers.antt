use Rattle.std.proofs.Common.{◌≡◌, ◌<◌, length, ap, refl, ◌∙◌, arith}
use Rattle.std.proofs.Math.ListN.{length-drop}
use Rattle.dcsctp_api.specs.spec.queues.Outstanding.{OutstandingState}
use Rattle.dcsctp_send_retransmission.proofs.ItemsLemmas.{same_outstanding, drop_further}
use Rattle.dcsctp_send_retransmission.proofs.outstanding.Outstanding.remove_first.Goals as goal

pub loop-init : goal.loop-init
loop-init c =
    let fits : c.self.inside.first_tsn < 4294967296 = omega arith in
    (same_outstanding _ _ _ _ _ (omega (arith, ap (λ (m : OutstandingState). m.first_tsn) c.self.view_is)) refl, omega arith)

pub remove_one-requires : goal.remove_one-requires
remove_one-requires c =
    let same = ap (λ (m : OutstandingState). length m.items) c.loop.invariant.0 in
    omega (arith, c.requires, c.loop-test.true, length-drop c.loop.counter c.args.self.now.items)

pub loop-preserved : goal.loop-preserved
loop-preserved c =
    (rw (c.remove_one.ensures, c.loop.invariant.0) (same_outstanding _ _ _ _ _ (omega arith) (drop_further c.loop.counter c.args.self.now.items)), omega (arith, c.loop-test.true))

pub returns : goal.returns
returns c =
    let end : c.loop.counter ≡ c.args.count = omega (arith, c.loop.invariant.1, c.loop-test.false) in
    c.give_room_back.ensures ∙ c.loop.invariant.0 ∙ rw end refl
