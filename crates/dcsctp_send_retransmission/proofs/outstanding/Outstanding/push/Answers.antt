use Rattle.std.proofs.Common.{◌≡◌, ℕ, ◌<◌, ◌^◌, ◌+◌, List, length, ap, ◌∙◌, arith}
use Rattle.dcsctp_api.specs.types.declared.progress.Progress.{Progress}
use Rattle.dcsctp_api.specs.spec.queues.Items.{Item}
use Rattle.dcsctp_api.specs.spec.queues.Outstanding.{OutstandingState}
use Rattle.dcsctp_api.specs.types.queues.Progress.{is_marked}
use Rattle.dcsctp_send_retransmission.specs.Outstanding.{cursor_after}
use Rattle.dcsctp_send_retransmission.specs.Totals.{total_with}
use Rattle.dcsctp_send_retransmission.proofs.ItemsLemmas.{kept_added, sums_leave_room, size_bounded}
use Rattle.dcsctp_send_retransmission.proofs.SettledLemmas.{settled_pushed}
use Rattle.dcsctp_send_retransmission.proofs.outstanding.Outstanding.push.Goals as goal

pub add-requires : goal.add-requires
add-requires c =
    rw c.size-size.ensures
    (sums_leave_room _ c.self.inside.cursor c.self.inside.items.items _ _ _ (size_bounded c.self.inside.interleaving c.args.item) c.self.invariant)

pub invariant_of-self-2 : goal.invariant_of-self-2
invariant_of-self-2 c =
    let room : length c.self.inside.items.items + 1 < 2 ^ 31 = omega (arith, c.requires.room, ap (λ (m : OutstandingState). length m.items) c.self.view_is) in
    let far : c.item.inside.progress ≡ c.args.item.progress = ap (λ (x : Item). x.progress) c.item.view_is in
    let more = c.add.ensures ∙ ap (λ (p : Progress). total_with p c.size-size.result c.self.inside.totals) far in
    let marks = c.is_marked-is_marked.ensures ∙ ap (λ (p : Progress). is_marked p.state) far in
    let place : c.len.result ≡ length c.self.inside.items.items = omega (arith, c.len.ensures, c.in_ok-reserve.ensures.len, ap (λ (items : List Item). length items) c.in_ok-reserve.ensures.items) in
    let moves = c.cursor_after-self-inside.ensures ∙ ap (λ (k : ℕ). cursor_after c.is_marked-is_marked.result k c.self.inside.cursor) place in
    rw (c.push_back_reserved.ensures.items, c.in_ok-reserve.ensures.items)
    (kept_added _ _ c.self.inside.items.items _ _ c.args.item _ _ _ _ c.self.invariant room c.size-size.ensures more marks moves (settled_pushed _ _ _ c.self.invariant.settled) c.requires.bytes)
