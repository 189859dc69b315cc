use Rattle.std.proofs.Common.{◌≡◌, ◌+◌, ◌<◌, ◌^◌, false, length, refl, ap, sym, ◌∙◌}
use Rattle.dcsctp_send_queue.specs.Telling.{contents}
use Rattle.dcsctp_api.specs.spec.queues.Sending.{Fragment}
use Rattle.dcsctp_api.specs.spec.queues.Items.{Item}
use Rattle.dcsctp_send_retransmission.proofs.StatesLemmas.{same_at, on_ok_map, on_err_map, closes_rest, refuses_rest}
use Rattle.dcsctp_send_retransmission.proofs.retransmission_queue.RetransmissionQueue.close_message.Goals as goal

pub returns-clause-ok : goal.returns-clause-ok
returns-clause-ok c =
    rw (← c.self.view_is) (λ last at.
    let same = same_at c.self.inside.outstanding.items c.args.place c.item.result.now last c.item.ensures at in
    let ends : last.fragment.is_end ≡ false = ap (λ (x : Item). x.fragment.is_end) (sym (c.behind-self.view_is ∙ same)) ∙ (sym (ap (λ (f : Fragment). f.is_end) c.last.view_is) ∙ c.if-last.false) in
    let some = c.has_room.ensures in
    let room : length c.self.inside.outstanding.items + 1 < 2 ^ 31 = some.0 (rw c.if-not-has_room.false refl) in
    on_ok_map c.discard_rest.result
    (λ drops tsns room_left. closes_rest c.args.now last _ _ last.fragment.is_end ends room
    (record { outstanding = c.discard_rest.new.self; drops = drops; is = refl }))
    (c.discard_rest.ensures.ok last at))

pub returns-clause-front : goal.returns-clause-front
returns-clause-front c =
    rw (← c.self.view_is) (λ last at.
    let same = same_at c.self.inside.outstanding.items c.args.place c.item.result.now last c.item.ensures at in
    let ends : last.fragment.is_end ≡ false = ap (λ (x : Item). x.fragment.is_end) (sym (c.behind-self.view_is ∙ same)) ∙ (sym (ap (λ (f : Fragment). f.is_end) c.last.view_is) ∙ c.if-last.false) in
    let some = c.has_room.ensures in
    let room : length c.self.inside.outstanding.items + 1 < 2 ^ 31 = some.0 (rw c.if-not-has_room.false refl) in
    on_err_map c.discard_rest.result
    (λ refused. refuses_rest c.self.inside.outstanding.items last c.args.queue.now (contents c.args.events.now) (contents c.discard_rest.new.events) last.fragment.is_end ends room refused)
    (c.discard_rest.ensures.front last at))
