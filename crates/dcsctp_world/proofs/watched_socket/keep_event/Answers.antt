use Rattle.std.proofs.Common.{ℕ, Vec, ap, ◌∙◌}
use Rattle.std.specs.declared.alloc.Global.{Global}
use Rattle.std.proofs.lemmas.Result.{err_from_is_err_and}
use Rattle.std.proofs.lemmas.List.Elements.{same_from_all_zip}
use Rattle.dcsctp_world.proofs.Keeping.{kept_packet, kept_other, kept_packet_alone, kept_nothing}
use Rattle.dcsctp_world.proofs.watched_socket.keep_event.Goals as goal
use Rattle.dcsctp_world.proofs.watched_socket.keep_event.Goals.{in-SendPacket+in_ok-clone+in_ok-push, in_default}

pub returns : goal.returns
returns c =
    let old = c.args.events.now.items in
    let new = c.push-2.new.self.items in
    let packets = c.args.packets.now.items in
    let packets_now = c.match-event.packets.items in
    elim c.match-event.branch [
      | in-SendPacket+in_ok-clone+in_ok-push w ↦
          kept_packet old new packets packets_now c.args.event w.in-SendPacket.packet w.in_ok-clone.field-0 w.in-SendPacket.is
          (same_from_all_zip _ _ _ w.in_ok-clone.ensures.cases.0 (λ x y h. h)) c.in_ok-push-2.ensures.items
          (ap (λ (v : Vec (Vec ℕ Global) Global). v.items) w.packets-is ∙ w.in_ok-push.ensures.items)
      | in_default w ↦
          kept_other old new packets packets_now c.args.event w.in_default.not-SendPacket c.in_ok-push-2.ensures.items
          (ap (λ (v : Vec (Vec ℕ Global) Global). v.items) w.packets-is)
    ]

pub returns-in_err-push-2 : goal.returns-in_err-push-2
returns-in_err-push-2 c =
    let old = c.args.events.now.items in
    let new = c.push-2.new.self.items in
    let packets = c.args.packets.now.items in
    let packets_now = c.match-event.packets.items in
    rw (err_from_is_err_and c.from_residual-in_err-push-2.result c.from_residual-in_err-push-2.ensures.1).1
    (elim c.match-event.branch [
      | in-SendPacket+in_ok-clone+in_ok-push w ↦
          kept_packet_alone old new packets packets_now c.args.event w.in-SendPacket.packet w.in_ok-clone.field-0 w.in-SendPacket.is
          (same_from_all_zip _ _ _ w.in_ok-clone.ensures.cases.0 (λ x y h. h)) c.in_err-push-2.ensures.items
          (ap (λ (v : Vec (Vec ℕ Global) Global). v.items) w.packets-is ∙ w.in_ok-push.ensures.items)
      | in_default w ↦
          kept_nothing old new packets packets_now c.args.event c.in_err-push-2.ensures.items
          (ap (λ (v : Vec (Vec ℕ Global) Global). v.items) w.packets-is)
    ])
