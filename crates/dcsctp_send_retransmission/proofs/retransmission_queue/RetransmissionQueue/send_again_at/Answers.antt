use Rattle.std.proofs.Common.{◌≡◌, Bool, ◌+◌, ◌-◌, refl, ap, ◌∙◌, arith}
use Rattle.dcsctp_api.specs.types.declared.progress.Change.TheVariants.{SendAgain}
use Rattle.dcsctp_api.specs.spec.queues.Items.{item_size}
use Rattle.dcsctp_api.specs.spec.queues.Outstanding.{header, header_of}
use Rattle.dcsctp_api.specs.spec.queues.Retransmission.{RetransmissionState}
use Rattle.dcsctp_send_retransmission.specs.declared.packet.Packet.{Packet}
use Rattle.dcsctp_send_retransmission.specs.Sending.{KeepsAllFragments}
use Rattle.dcsctp_send_retransmission.proofs.SendingLemmas.{keeps_refl, fills_same, keeps_with, fragments_changed, filled_kept, filled_more}
use Rattle.dcsctp_send_retransmission.proofs.retransmission_queue.RetransmissionQueue.send_again_at.Goals as goal

pub returns-clause-fills : goal.returns-clause-fills
returns-clause-fills c =
    let size_is : c.size-size.result ≡ item_size (header c.args.self.now.outstanding) c.item-item.result.now =
    c.size-size.ensures ∙ ap (λ (b : Bool). item_size (header_of b) c.item-item.result.now) (c.is_interleaving.ensures ∙ ap (λ (q : RetransmissionState). q.outstanding.is_interleaved) c.self.view_is) in
    let after : Packet = record { tsns = c.push.new.self; room = c.args.packet.now.room - c.size-size.result } in
    let stage : RetransmissionState = record {
      outstanding = c.send_again.new.self;
      congestion = c.self.inside.congestion;
      timer = c.self.inside.timer;
      peer_window = c.self.inside.peer_window;
      partial_reliability = c.self.inside.partial_reliability;
      fast_retransmit_due = c.self.inside.fast_retransmit_due;
      reset_begun = c.self.inside.reset_begun;
      follows_rfc = c.self.inside.follows_rfc;
      has_measured = c.self.inside.has_measured;
      packets_retransmitted = c.self.inside.packets_retransmitted;
      bytes_retransmitted = c.self.inside.bytes_retransmitted;
    } in
    let keeps : KeepsAllFragments c.args.self.now stage =
    rw (c.send_again.ensures, ← c.self.view_is)
    (keeps_with _ _ (fragments_changed (SendAgain c.next_tsn-next.result) c.args.place (c.args.place + 1) c.self.inside.outstanding.items)) in
    record {
      keeps = keeps;
      filling = λ bytes filled.
          filled_kept bytes c.args.self.now stage after keeps
          (filled_more bytes c.args.self.now c.args.packet.now after c.args.place c.item-item.result.now c.tsn_at.result c.size-size.result filled
          (rw (← c.self.view_is) c.item-item.ensures) (rw (← c.self.view_is) c.tsn_at.ensures) size_is c.in_ok-push.ensures.items (omega (arith, c.if-packet-size.false)));
    }

pub returns-in_err-push-clause-fills : goal.returns-in_err-push-clause-fills
returns-in_err-push-clause-fills c = fills_same c.args.self.now c.args.self.now c.args.packet.now (record { tsns = c.push.new.self; room = c.args.packet.now.room }) (keeps_refl c.args.self.now) c.in_err-push.ensures.items refl
