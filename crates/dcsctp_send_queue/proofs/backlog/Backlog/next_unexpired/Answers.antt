use Rattle.std.proofs.Common.{inl, refl, ◌++◌, [], append_assoc, ap, sym, ◌∙◌, arith, rules}
use Rattle.std.proofs.lemmas.Result.{err_from_is_err_and}
use Rattle.dcsctp_send_queue.proofs.FrontLemmas.{front_from}
use Rattle.dcsctp_send_queue.proofs.GoingOnLemmas.{drops-held}
use Rattle.dcsctp_send_queue.specs.Telling.{contents}
use Rattle.dcsctp_api.specs.spec.queues.Sending.{none, more, drop_events}
use Rattle.dcsctp_api.specs.spec.queues.SendQueue.{SendQueueState}
use Rattle.dcsctp_send_queue.proofs.WaitingLemmas.{count_messages, count-without_rest, next_front}
use Rattle.dcsctp_send_queue.specs.Backlog.{queue_of}
use Rattle.dcsctp_send_queue.proofs.backlog.Backlog.next_unexpired.Goals as goal

pub loop-place-init : goal.loop-place-init
loop-place-init c = record { events = []; drops = none; told = search rules }

pub returns-then-not-is_front_expired-clause-ok : goal.returns-then-not-is_front_expired-clause-ok
returns-then-not-is_front_expired-clause-ok c =
    let next = c.in-Some.ensures.some in
    let front = next_front _ _ next in
    record {
      next = next;
      message = front.0;
      front = front.1;
      fresh = sym (c.is_front_expired.ensures front.0 front.1) ∙ c.if-not-is_front_expired.true;
    }

pub loop-place-smaller : goal.loop-place-smaller
loop-place-smaller c =
    let next = c.in-Some.ensures.some in
    let front = next_front _ _ next in
    let fewer = count-without_rest (queue_of c.loop-place.self) c.in-Some.place 0 front.0 next.within front.1 in
    let is = ap (λ (q : SendQueueState). count_messages q.streams) (c.in_ok-drop_front.ensures.ok front.0 front.1) in
    omega (arith, fewer, is)

pub loop-place-preserved : goal.loop-place-preserved
loop-place-preserved c =
    let next = c.in-Some.ensures.some in
    let front = next_front _ _ next in
    record {
      events = c.loop-place.invariant.events ++ drop_events c.in-Some.place 0 front.0 (queue_of c.loop-place.self);
      drops = rw (c.in_ok-drop_front.ensures.ok front.0 front.1) (more _ _ _ _ c.loop-place.invariant.drops next front.1 (sym (c.is_front_expired.ensures front.0 front.1) ∙ c.if-not-is_front_expired.false));
      told = c.in_ok-drop_front.ensures.told front.0 front.1 ∙ (ap (λ z. z ++ drop_events c.in-Some.place 0 front.0 (queue_of c.loop-place.self)) c.loop-place.invariant.told ∙ append_assoc (contents c.args.events.now) c.loop-place.invariant.events (drop_events c.in-Some.place 0 front.0 (queue_of c.loop-place.self)));
    }

pub returns-in_err-drop_front-clause-front : goal.returns-in_err-drop_front-clause-front
returns-in_err-drop_front-clause-front c max idle =
    let next = c.in-Some.ensures.some in
    let front = next_front _ _ next in
    rw (err_from_is_err_and c.from_residual.result c.from_residual.ensures.1).1 (rw c.in_err-drop_front.ensures.err (record {
      events = c.loop-place.invariant.events;
      drops = c.loop-place.invariant.drops;
      coming = drop_events c.in-Some.place 0 front.0 (queue_of c.loop-place.self);
      next = inl (record {
        idle = drops-held _ _ _ _ c.loop-place.invariant.drops ∙ idle;
        place = c.in-Some.place;
        message = front.0;
        next = next;
        front = front.1;
        expired = sym (c.is_front_expired.ensures front.0 front.1) ∙ c.if-not-is_front_expired.false;
        is = refl;
      });
      tells = front_from (contents c.loop-place.events) (contents c.args.events.now ++ c.loop-place.invariant.events) _ _ c.loop-place.invariant.told (c.in_err-drop_front.ensures.front front.0 front.1);
    }))
