use Rattle.std.proofs.Common.{refl, ◌∙◌, ap, sym, subst, not, ◌==◌, ℕ, ◌<◌, List, length}
use Rattle.std.proofs.lemmas.Result.{err_from_is_err_and}
use Rattle.dcsctp_send_retransmission.specs.spec.queues.Transfer.{Transfer}
use Rattle.dcsctp_send_retransmission.specs.Outstanding.{FindsPlaces}
use Rattle.dcsctp_transfer.specs.Adding.{AddsChunks}
use Rattle.dcsctp_transfer.proofs.FillingLemmas.{fills_none, fills_some, tells_filling}
use Rattle.dcsctp_transfer.proofs.transfer.Transfer.fill_packet.Goals as goal

pub returns-then-not-may_have_data-clause-ok : goal.returns-then-not-may_have_data-clause-ok
returns-then-not-may_have_data-clause-ok c =
    fills_none c.args.now c.args.self.now c.args.queue.now _ c.args.packet.now (sym c.may_have_data.ensures ∙ c.if-not-may_have_data.true)

pub returns-in_err-tsns-clause-told : goal.returns-in_err-tsns-clause-told
returns-in_err-tsns-clause-told c =
    rw (err_from_is_err_and c.from_residual.result c.from_residual.ensures.1).1
    (tells_filling c.args.now c.bytes_remaining-room.result c.args.self.now c.self.inside.retransmission_queue _ c.args.queue.now c.args.queue.now _ c.args.events.now _ _
    (ap (λ (t : Transfer). t.retransmission) c.self.view_is)
    refl
    c.bytes_remaining-room.ensures.value c.in_err-tsns.ensures.steps.fills)

pub returns-clause-ok : goal.returns-clause-ok
returns-clause-ok c =
    let state = c.get_chunks_to_send.new.self in
    let adds = subst (λ (tsns : List ℕ). AddsChunks state.outstanding tsns c.args.packet.now c.add_chunks.new.packet) c.deref.ensures.value c.add_chunks.ensures.adds in
    let places = subst (λ (tsns : List ℕ). 0 < length tsns → FindsPlaces state.outstanding) c.deref.ensures.value c.add_chunks.ensures.places in
    let answer = ap not (c.is_empty-has_some.ensures ∙ ap (λ (n : ℕ). n == 0) (sym c.deref.ensures.len ∙ ap length c.deref.ensures.value)) in
    rw c.take_back.ensures
    (fills_some c.args.now c.bytes_remaining-room.result c.args.self.now _ c.self.inside.retransmission_queue state c.args.queue.now c.args.queue.now c.get_chunks_to_send.new.queue c.args.events.now c.get_chunks_to_send.new.events c.args.packet.now c.add_chunks.new.packet c.in_ok-tsns.tsns (not c.is_empty-has_some.result)
    (ap (λ (t : Transfer). t.retransmission) c.self.view_is)
    refl
    c.bytes_remaining-room.ensures.value
    (ap (λ (t : Transfer). record t { retransmission = state }) c.self.view_is)
    (sym c.may_have_data.ensures ∙ c.if-not-may_have_data.false)
    c.in_ok-tsns.ensures.steps c.in_ok-tsns.ensures.fills places adds answer)
