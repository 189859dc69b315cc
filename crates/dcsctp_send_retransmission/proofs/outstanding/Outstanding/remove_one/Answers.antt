use Rattle.std.proofs.Common.{◌≡◌, ◌∷◌, List, subst, sym}
use Rattle.dcsctp_api.specs.spec.queues.Items.{Item, item_size}
use Rattle.dcsctp_api.specs.spec.queues.Outstanding.{header_of}
use Rattle.dcsctp_send_retransmission.specs.Outstanding.{AreItemsKept}
use Rattle.dcsctp_send_retransmission.specs.NamedPlaces.{AreSettled}
use Rattle.dcsctp_send_retransmission.proofs.ItemsLemmas.{kept_removed}
use Rattle.dcsctp_send_retransmission.proofs.SettledLemmas.{settled_removed}
use Rattle.dcsctp_send_retransmission.proofs.outstanding.Outstanding.remove_one.Goals as goal

pub invariant_of-self : goal.invariant_of-self
invariant_of-self c =
    let P : List Item → Type 0 = λ xs. AreItemsKept c.self.inside.interleaving c.self.inside.cursor xs c.self.inside.totals c.self.inside.named in
    let Q : List Item → Type 0 = λ xs. AreSettled c.self.inside.named xs in
    let R : Item → Type 0 = λ item. c.self.inside.items.items ≡ item ∷ c.pop_front.new.self.items in
    let S : Item → Type 0 = λ item. c.size-size.result ≡ item_size (header_of c.self.inside.interleaving) item in
    let items = subst R (sym c.item.view_is) c.in-Some.ensures.items in
    rw c.saturating_sub-self-inside.ensures
    (kept_removed _ _ _ _ _ _ _ _ _ (subst P items c.self.invariant) (subst S (sym c.item.view_is) c.size-size.ensures) c.remove.ensures (settled_removed _ _ _ _ (subst Q items c.self.invariant.settled) c.shift.ensures))
