use Rattle.std.proofs.Common.{[], ◌++◌, append-nil, inr, refl, sym, rules, subst, arith}
use Rattle.std.proofs.lemmas.Result.{err_from_is_err_and}
use Rattle.dcsctp_send_queue.proofs.FrontLemmas.{front_from}
use Rattle.dcsctp_send_queue.specs.Telling.{contents}
use Rattle.dcsctp_api.specs.types.queues.SendStreams.{stream_at}
use Rattle.dcsctp_api.specs.spec.queues.Sending.{none, produced_events}
use Rattle.dcsctp_send_queue.proofs.GoingOnLemmas.{held-produced, chosen_held, going_front}
use Rattle.dcsctp_send_queue.proofs.ProducingLemmas.{comes_as}
use Rattle.dcsctp_send_queue.proofs.FragmentLemmas.{has_size}
use Rattle.dcsctp_api.specs.spec.queues.SendQueue.{SendQueueState, IsHeld}
use Rattle.dcsctp_send_queue.specs.Backlog.{queue_of}
use Rattle.dcsctp_send_queue.proofs.backlog.Backlog.go_on.Goals as goal

pub place_of-place-requires : goal.place_of-place-requires
place_of-place-requires c = rw c.requires.goes_on at c.requires.held

pub produce-requires-clause-rest : goal.produce-requires-clause-rest
produce-requires-clause-rest c =
    let going = c.place_of-place.ensures.place in
    let front = going_front (stream_at c.args.self.now.streams c.place_of-place.result) going.goes_on c.next_progress-under_way.ensures.can in
    let from = comes_as (stream_at c.args.self.now.streams c.place_of-place.result) front.0 c.next_progress-under_way.result c.next_progress-under_way.ensures.can
    c.next_progress-under_way.ensures.bytes front.1 (c.next_progress-under_way.ensures.come front.0 front.1) in
    let less = from.less in
    record { within = going.within; message = front.0; front = front.1; rest = omega (arith, less) }

pub produce-requires-clause-stream : goal.produce-requires-clause-stream
produce-requires-clause-stream c =
    let going = c.place_of-place.ensures.place in
    let front = going_front (stream_at c.args.self.now.streams c.place_of-place.result) going.goes_on c.next_progress-under_way.ensures.can in
    let from = comes_as (stream_at c.args.self.now.streams c.place_of-place.result) front.0 c.next_progress-under_way.result c.next_progress-under_way.ensures.can
    c.next_progress-under_way.ensures.bytes front.1 (c.next_progress-under_way.ensures.come front.0 front.1) in
    from.is

pub returns-clause-ok : goal.returns-clause-ok
returns-clause-ok c now =
    let going = c.place_of-place.ensures.place in
    let front = going_front (stream_at c.args.self.now.streams c.place_of-place.result) going.goes_on c.next_progress-under_way.ensures.can in
    record {
      queue = (queue_of c.args.self.now);
      told = contents c.args.events.now;
      drops = record { events = []; drops = none; told = search rules };
      place = c.place_of-place.result;
      message = front.0;
      under_way = c.next_progress-under_way.result;
      front = front.1;
      chosen = chosen_held now c.args.max (queue_of c.args.self.now) c.place_of-place.result c.args.held c.args.self.now.held c.requires.goes_on going.is;
      come = c.next_progress-under_way.ensures.come front.0 front.1;
      is = c.in_ok-data.ensures.ok front.0 front.1;
      left = c.in_ok-data.ensures.left front.0 front.1;
      events = c.in_ok-data.ensures.told front.0 front.1;
    }

pub returns-clause-held : goal.returns-clause-held
returns-clause-held c =
    let going = c.place_of-place.ensures.place in
    let front = going_front (stream_at c.args.self.now.streams c.place_of-place.result) going.goes_on c.next_progress-under_way.ensures.can in
    let from = comes_as (stream_at c.args.self.now.streams c.place_of-place.result) front.0 c.next_progress-under_way.result c.next_progress-under_way.ensures.can c.next_progress-under_way.ensures.bytes front.1 (c.next_progress-under_way.ensures.come front.0 front.1) in
    subst (λ (q : SendQueueState). IsHeld q.held q.streams) (sym (c.in_ok-data.ensures.left front.0 front.1))
    (held-produced (queue_of c.args.self.now) c.place_of-place.result c.args.max front.0 c.next_progress-under_way.result going.within from.is c.requires.held)

pub returns-clause-size : goal.returns-clause-size
returns-clause-size c =
    let going = c.place_of-place.ensures.place in
    let front = going_front (stream_at c.args.self.now.streams c.place_of-place.result) going.goes_on c.next_progress-under_way.ensures.can in
    let from = comes_as (stream_at c.args.self.now.streams c.place_of-place.result) front.0 c.next_progress-under_way.result c.next_progress-under_way.ensures.can c.next_progress-under_way.ensures.bytes front.1 (c.next_progress-under_way.ensures.come front.0 front.1) in
    has_size c.in_ok-data.data front.0 c.next_progress-under_way.result c.args.max (c.in_ok-data.ensures.ok front.0 front.1) from.less c.requires.some

pub returns-in_err-data-clause-held : goal.returns-in_err-data-clause-held
returns-in_err-data-clause-held c = rw c.in_err-data.ensures.err c.requires.held

pub returns-in_err-data-clause-front : goal.returns-in_err-data-clause-front
returns-in_err-data-clause-front c now =
    let going = c.place_of-place.ensures.place in
    let front = going_front (stream_at c.args.self.now.streams c.place_of-place.result) going.goes_on c.next_progress-under_way.ensures.can in
    rw (err_from_is_err_and c.from_residual.result c.from_residual.ensures.1).1 (rw c.in_err-data.ensures.err (record {
      events = [];
      drops = none;
      coming = produced_events c.place_of-place.result c.args.max front.0 c.next_progress-under_way.result (queue_of c.args.self.now);
      next = inr (record {
        place = c.place_of-place.result;
        message = front.0;
        under_way = c.next_progress-under_way.result;
        front = front.1;
        chosen = chosen_held now c.args.max (queue_of c.args.self.now) c.place_of-place.result c.args.held c.args.self.now.held c.requires.goes_on going.is;
        come = c.next_progress-under_way.ensures.come front.0 front.1;
        is = refl;
      });
      tells = front_from (contents c.args.events.now) (contents c.args.events.now ++ []) _ _ (sym (append-nil (contents c.args.events.now))) (c.in_err-data.ensures.front front.0 front.1);
    }))
