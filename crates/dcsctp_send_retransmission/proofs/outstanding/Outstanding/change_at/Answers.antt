use Rattle.std.proofs.Common.{◌≡◌, ◌<◌, length, get_or, arith, ap, refl, subst, sym}
use Rattle.dcsctp_api.specs.spec.queues.Items.{Item, item_size}
use Rattle.dcsctp_api.specs.spec.queues.Outstanding.{OutstandingState, header_of}
use Rattle.dcsctp_send_retransmission.specs.Outstanding.{MayChange}
use Rattle.dcsctp_send_retransmission.proofs.BytesLemmas.{bytes_changed}
use Rattle.dcsctp_send_retransmission.proofs.ItemsLemmas.{changed_is, kept_replaced, room_without, sums_leave_room, size_bounded}
use Rattle.dcsctp_send_retransmission.proofs.SettledLemmas.{settled_replaced}
use Rattle.dcsctp_send_retransmission.proofs.outstanding.Outstanding.change_at.Goals as goal

pub add-requires : goal.add-requires
add-requires c =
    let small = size_bounded c.self.inside.interleaving c.index_mut-item.result.now in
    rw (c.remove.ensures, c.size-size.ensures)
    (room_without c.item.inside.progress _ _ _ (sums_leave_room _ c.self.inside.cursor c.self.inside.items.items _ _ _ small c.self.invariant))

pub invariant_of-self : goal.invariant_of-self
invariant_of-self c =
    let within : c.args.place < length c.self.inside.items.items = omega (arith, c.requires.place, ap (λ (m : OutstandingState). length m.items) c.self.view_is) in
    let P : Item → Type 0 = λ item. item ≡ get_or c.self.inside.items.items c.args.place item in
    let at = subst P (sym c.item.view_is) c.index_mut-item.ensures.value in
    let Q : Item → Type 0 = λ item. c.size-size.result ≡ item_size (header_of c.self.inside.interleaving) item in
    let sized = subst Q (sym c.item.view_is) c.size-size.ensures in
    let R : OutstandingState → Type 0 = λ m. MayChange c.args.change c.args.place m.items in
    let may = subst R (sym c.self.view_is) c.requires.may in
    kept_replaced _ _ _ _ _ _ _ _ _ _ _ _ _ _ c.self.invariant within at sized refl c.remove.ensures c.add.ensures c.is_marked.ensures c.cursor_after-self-inside.ensures
    (settled_replaced c.args.change c.self.inside.named _ c.self.inside.items.items c.args.place _ _ _ c.self.invariant.settled at c.changed-after.ensures c.is_unsettled_by.ensures c.clear_if.ensures)
    (bytes_changed c.args.change c.self.inside.items.items c.args.place _ _ c.self.invariant.bytes within at may c.changed-after.ensures)

pub returns : goal.returns
returns c =
    let within : c.args.place < length c.self.inside.items.items = omega (arith, c.requires.place, ap (λ (m : OutstandingState). length m.items) c.self.view_is) in
    let P : Item → Type 0 = λ item. item ≡ get_or c.self.inside.items.items c.args.place item in
    let at = subst P (sym c.item.view_is) c.index_mut-item.ensures.value in
    rw (← c.self.view_is)
    (let all = changed_is c.args.change c.args.place c.self.inside.items.items _ c.changed-after.result within at c.changed-after.ensures in
    ap (λ xs. record { first_tsn = c.self.inside.first_tsn; is_interleaved = c.self.inside.interleaving; items = xs }) all)
