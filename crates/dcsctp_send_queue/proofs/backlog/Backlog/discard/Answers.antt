use Rattle.std.proofs.Common.{ap, sym, refl, subst, is_some, length, ◌∙◌}
use Rattle.std.proofs.lemmas.Result.{err_from_is_err_and}
use Rattle.dcsctp_send_queue.proofs.GoingOnLemmas.{not_named, none_named, going_front, discarded_is, held-discarded}
use Rattle.dcsctp_send_queue.proofs.ResetLemmas.{apart_by, same_by}
use Rattle.dcsctp_send_queue.specs.Backlog.{queue_of}
use Rattle.dcsctp_api.specs.types.queues.SendStreams.{Stream, stream_at}
use Rattle.dcsctp_api.specs.spec.queues.Sending.{reserve_begun}
use Rattle.dcsctp_api.specs.spec.queues.SendQueue.{SendQueueState, CanGoOn, IsHeld}
use Rattle.dcsctp_send_queue.proofs.backlog.Backlog.discard.Goals as goal

pub returns-in_default-under_way-clause-ok : goal.returns-in_default-under_way-clause-ok
returns-in_default-under_way-clause-ok c =
    let idle = ap (λ (s : Stream). s.under_way) (sym c.at.ensures) ∙ (sym c.under_way.ensures.progress ∙ c.in_default-under_way.is) in
    (none_named (queue_of c.args.self.now) c.args.stream_id.0 c.args.message_id c.in-Ok.place c.in-Ok.ensures.ascending c.in-Ok.ensures.found idle, refl, refl)

pub returns-then-not-is_front_named-clause-ok : goal.returns-then-not-is_front_named-clause-ok
returns-then-not-is_front_named-clause-ok c =
    let goes = ap (λ (s : Stream). s.under_way) (sym c.at.ensures) ∙ (sym c.under_way.ensures.progress ∙ c.in-Some.is) in
    let front = going_front (stream_at c.args.self.now.streams c.in-Ok.place) (ap is_some goes) (subst CanGoOn c.at.ensures c.under_way.ensures.can) in
    let other = apart_by front.0.message_id c.args.message_id (sym (c.is_front_named.ensures front.0 front.1) ∙ c.if-not-is_front_named.true) in
    (not_named (queue_of c.args.self.now) c.args.stream_id.0 c.args.message_id c.in-Ok.place front.0 c.in-Ok.ensures.ascending c.in-Ok.ensures.found front.1 other, refl, refl)

pub returns-clause-ok : goal.returns-clause-ok
returns-clause-ok c =
    let goes = ap (λ (s : Stream). s.under_way) (sym c.at.ensures) ∙ (sym c.under_way.ensures.progress ∙ c.in-Some.is) in
    let front = going_front (stream_at c.args.self.now.streams c.in-Ok.place) (ap is_some goes) (subst CanGoOn c.at.ensures c.under_way.ensures.can) in
    record {
      named = record {
        place = c.in-Ok.place;
        within = c.in-Ok.ensures.found.0;
        is = c.in-Ok.ensures.found.1;
        under_way = c.in-Some.under_way;
        goes_on = goes;
        message = front.0;
        front = front.1;
        named = same_by front.0.message_id c.args.message_id (sym (c.is_front_named.ensures front.0 front.1) ∙ c.if-not-is_front_named.false);
      };
      left = discarded_is (queue_of c.args.self.now) (queue_of c.drop_front.new.self) (queue_of c.release.new.self) c.in-Ok.place front.0 c.in-Some.under_way c.args.stream_id.0 c.front_size-size.result
          c.reserve_begun.result (c.front_size-size.ensures front.0 front.1) c.reserve_begun.ensures (c.in_ok-drop_front.ensures.ok front.0 front.1) c.release.ensures;
      events = c.in_ok-drop_front.ensures.told front.0 front.1;
    }

pub returns-clause-held : goal.returns-clause-held
returns-clause-held c =
    let goes = ap (λ (s : Stream). s.under_way) (sym c.at.ensures) ∙ (sym c.under_way.ensures.progress ∙ c.in-Some.is) in
    let front = going_front (stream_at c.args.self.now.streams c.in-Ok.place) (ap is_some goes) (subst CanGoOn c.at.ensures c.under_way.ensures.can) in
    let left = discarded_is (queue_of c.args.self.now) (queue_of c.drop_front.new.self) (queue_of c.release.new.self) c.in-Ok.place front.0 c.in-Some.under_way c.args.stream_id.0 c.front_size-size.result
    c.reserve_begun.result (c.front_size-size.ensures front.0 front.1) c.reserve_begun.ensures (c.in_ok-drop_front.ensures.ok front.0 front.1) c.release.ensures in
    subst (λ (q : SendQueueState). IsHeld q.held q.streams) (sym left)
    (held-discarded (queue_of c.args.self.now) c.in-Ok.place c.in-Some.under_way.sent front.0 c.args.stream_id.0 (reserve_begun (length front.0.payload) c.in-Some.under_way) c.requires c.in-Ok.ensures.found.1)

pub returns-in_err-drop_front-clause-front : goal.returns-in_err-drop_front-clause-front
returns-in_err-drop_front-clause-front c =
    let goes = ap (λ (s : Stream). s.under_way) (sym c.at.ensures) ∙ (sym c.under_way.ensures.progress ∙ c.in-Some.is) in
    let front = going_front (stream_at c.args.self.now.streams c.in-Ok.place) (ap is_some goes) (subst CanGoOn c.at.ensures c.under_way.ensures.can) in
    rw (err_from_is_err_and c.from_residual.result c.from_residual.ensures.1).1 (record {
      named = record {
        place = c.in-Ok.place;
        within = c.in-Ok.ensures.found.0;
        is = c.in-Ok.ensures.found.1;
        under_way = c.in-Some.under_way;
        goes_on = goes;
        message = front.0;
        front = front.1;
        named = same_by front.0.message_id c.args.message_id (sym (c.is_front_named.ensures front.0 front.1) ∙ c.if-not-is_front_named.false);
      };
      tells = c.in_err-drop_front.ensures.front front.0 front.1;
    })
