use Rattle.std.proofs.Common.{◌≡◌, ◌+◌, ◌-◌, refl, arith}
use Rattle.std.proofs.lemmas.Result.{err_from_is_err_and}
use Rattle.dcsctp_api.specs.spec.queues.ItemMessages.{AreMessageItems}
use Rattle.dcsctp_send_retransmission.specs.States.{stage}
use Rattle.dcsctp_send_retransmission.proofs.StatesLemmas.{found}
use Rattle.dcsctp_send_retransmission.proofs.retransmission_queue.RetransmissionQueue.give_up.Goals as goal

pub returns-clause-whole : goal.returns-clause-whole
returns-clause-whole c = λ tsns room.
    let message : AreMessageItems c.args.place c.message_places-start.result.0 c.message_places-start.result.1 c.args.self.now.outstanding.items = rw (← c.self.view_is) c.message_places-start.ensures in
    let behind = message.1 in
    let to = behind.to in
    let within = behind.within in
    let end : c.message_places-start.result.1 - 1 + 1 ≡ c.message_places-start.result.1 = omega arith in
    let last = found c.args.self.now.outstanding.items (c.message_places-start.result.1 - 1) (omega arith) in
    record {
      start = c.message_places-start.result.0;
      last_place = c.message_places-start.result.1 - 1;
      message = rw end message;
      last = last.item;
      at = last.at;
      closed = stage c.close_message.new.self c.close_message.new.queue c.close_message.new.events tsns room;
      closes = c.in_ok-close_message.ensures.ok last.item last.at tsns room;
      is = rw (end, c.change_between.ensures, ← c.self-2.view_is) refl;
    }

pub returns-in_err-close_message-clause-front : goal.returns-in_err-close_message-clause-front
returns-in_err-close_message-clause-front c =
    let message : AreMessageItems c.args.place c.message_places-start.result.0 c.message_places-start.result.1 c.args.self.now.outstanding.items = rw (← c.self.view_is) c.message_places-start.ensures in
    let behind = message.1 in
    let to = behind.to in
    let within = behind.within in
    let end : c.message_places-start.result.1 - 1 + 1 ≡ c.message_places-start.result.1 = omega arith in
    let last = found c.args.self.now.outstanding.items (c.message_places-start.result.1 - 1) (omega arith) in
    rw (err_from_is_err_and c.from_residual.result c.from_residual.ensures.1).1 (record {
      last_place = c.message_places-start.result.1 - 1;
      message = rw end behind;
      last = last.item;
      at = last.at;
      tells = c.in_err-close_message.ensures.front last.item last.at;
    })
