use Rattle.std.proofs.Common.{◌++◌, inr, refl, ap, sym, ◌∙◌, arith, subst}
use Rattle.std.proofs.lemmas.Result.{err_from_is_err_and}
use Rattle.dcsctp_send_queue.specs.Telling.{contents}
use Rattle.dcsctp_api.specs.types.queues.SendStreams.{stream_at}
use Rattle.dcsctp_api.specs.spec.queues.Sending.{produced_events}
use Rattle.dcsctp_api.proofs.spec_lemmas.ChoosingLemmas.{chosen_within}
use Rattle.dcsctp_send_queue.proofs.FrontLemmas.{front_from}
use Rattle.dcsctp_send_queue.proofs.GoingOnLemmas.{held-produced, drops-held}
use Rattle.dcsctp_send_queue.proofs.UnderWayLemmas.{chosen_front}
use Rattle.dcsctp_send_queue.proofs.ProducingLemmas.{comes_as}
use Rattle.dcsctp_send_queue.proofs.FragmentLemmas.{has_size}
use Rattle.dcsctp_api.specs.spec.queues.SendQueue.{SendQueueState, IsHeld}
use Rattle.dcsctp_send_queue.specs.Backlog.{queue_of}
use Rattle.dcsctp_send_queue.proofs.backlog.Backlog.begin_next.Goals as goal

pub returns-in_err-turn-clause-held : goal.returns-in_err-turn-clause-held
returns-in_err-turn-clause-held c = let e = drops-held _ _ _ _ c.in_err-turn.ensures.err.drops ∙ c.requires.idle in rw e tt

pub returns-in_default-clause-held : goal.returns-in_default-clause-held
returns-in_default-clause-held c = let e = drops-held _ _ _ _ c.in_ok-turn.ensures.told.drops ∙ c.requires.idle in rw e tt

pub chosen_place-place-requires : goal.chosen_place-place-requires
chosen_place-place-requires c =
    let may = rw c.in-Some.is at c.in_ok-turn.ensures.ok in
    may.next.within

pub next_progress-under_way-requires : goal.next_progress-under_way-requires
next_progress-under_way-requires c =
    let may = rw c.in-Some.is at c.in_ok-turn.ensures.ok in
    chosen_within c.args.now c.args.max (queue_of c.next_unexpired.new.self) c.chosen_place-place.result (c.chosen_place-place.ensures c.args.now may)

pub produce-requires-clause-rest : goal.produce-requires-clause-rest
produce-requires-clause-rest c =
    let may = rw c.in-Some.is at c.in_ok-turn.ensures.ok in
    let queue : SendQueueState = queue_of c.next_unexpired.new.self in
    let chosen = c.chosen_place-place.ensures c.args.now may in
    let lt = chosen_within c.args.now c.args.max queue c.chosen_place-place.result chosen in
    let front = chosen_front c.args.now c.args.max queue c.chosen_place-place.result chosen c.next_progress-under_way.ensures.can in
    let from = comes_as (stream_at queue.streams c.chosen_place-place.result) front.0 c.next_progress-under_way.result c.next_progress-under_way.ensures.can
    c.next_progress-under_way.ensures.bytes front.1 (c.next_progress-under_way.ensures.come front.0 front.1) in
    let less = from.less in
    record { within = lt; message = front.0; front = front.1; rest = omega (arith, less) }

pub produce-requires-clause-stream : goal.produce-requires-clause-stream
produce-requires-clause-stream c =
    let may = rw c.in-Some.is at c.in_ok-turn.ensures.ok in
    let queue : SendQueueState = queue_of c.next_unexpired.new.self in
    let chosen = c.chosen_place-place.ensures c.args.now may in
    let front = chosen_front c.args.now c.args.max queue c.chosen_place-place.result chosen c.next_progress-under_way.ensures.can in
    let from = comes_as (stream_at queue.streams c.chosen_place-place.result) front.0 c.next_progress-under_way.result c.next_progress-under_way.ensures.can
    c.next_progress-under_way.ensures.bytes front.1 (c.next_progress-under_way.ensures.come front.0 front.1) in
    from.is

pub returns-in_err-data-clause-held : goal.returns-in_err-data-clause-held
returns-in_err-data-clause-held c =
    let e = ap (λ q. q.held) c.in_err-data.ensures.err ∙ (drops-held _ _ _ _ c.in_ok-turn.ensures.told.drops ∙ c.requires.idle) in
    rw e tt

pub returns-clause-held : goal.returns-clause-held
returns-clause-held c =
    let may = rw c.in-Some.is at c.in_ok-turn.ensures.ok in
    let queue : SendQueueState = queue_of c.next_unexpired.new.self in
    let chosen = c.chosen_place-place.ensures c.args.now may in
    let lt = chosen_within c.args.now c.args.max queue c.chosen_place-place.result chosen in
    let front = chosen_front c.args.now c.args.max queue c.chosen_place-place.result chosen c.next_progress-under_way.ensures.can in
    let from = comes_as (stream_at queue.streams c.chosen_place-place.result) front.0 c.next_progress-under_way.result c.next_progress-under_way.ensures.can
    c.next_progress-under_way.ensures.bytes front.1 (c.next_progress-under_way.ensures.come front.0 front.1) in
    let idle = drops-held _ _ _ _ c.in_ok-turn.ensures.told.drops ∙ c.requires.idle in
    subst (λ (q : SendQueueState). IsHeld q.held q.streams) (sym (c.in_ok-data.ensures.left front.0 front.1))
    (held-produced queue c.chosen_place-place.result c.args.max front.0 c.next_progress-under_way.result lt from.is (rw idle tt))

pub returns-clause-ok : goal.returns-clause-ok
returns-clause-ok c =
    let may = rw c.in-Some.is at c.in_ok-turn.ensures.ok in
    let queue : SendQueueState = queue_of c.next_unexpired.new.self in
    let chosen = c.chosen_place-place.ensures c.args.now may in
    let front = chosen_front c.args.now c.args.max queue c.chosen_place-place.result chosen c.next_progress-under_way.ensures.can in
    record {
      queue = queue;
      told = contents c.next_unexpired.new.events;
      drops = c.in_ok-turn.ensures.told;
      place = c.chosen_place-place.result;
      message = front.0;
      under_way = c.next_progress-under_way.result;
      front = front.1;
      chosen = rw c.requires.idle chosen;
      come = c.next_progress-under_way.ensures.come front.0 front.1;
      is = c.in_ok-data.ensures.ok front.0 front.1;
      left = c.in_ok-data.ensures.left front.0 front.1;
      events = c.in_ok-data.ensures.told front.0 front.1;
    }

pub returns-clause-size : goal.returns-clause-size
returns-clause-size c =
    let may = rw c.in-Some.is at c.in_ok-turn.ensures.ok in
    let queue : SendQueueState = queue_of c.next_unexpired.new.self in
    let chosen = c.chosen_place-place.ensures c.args.now may in
    let front = chosen_front c.args.now c.args.max queue c.chosen_place-place.result chosen c.next_progress-under_way.ensures.can in
    let from = comes_as (stream_at queue.streams c.chosen_place-place.result) front.0 c.next_progress-under_way.result c.next_progress-under_way.ensures.can
    c.next_progress-under_way.ensures.bytes front.1 (c.next_progress-under_way.ensures.come front.0 front.1) in
    has_size c.in_ok-data.data front.0 c.next_progress-under_way.result c.args.max (c.in_ok-data.ensures.ok front.0 front.1) from.less c.requires.some

pub returns-in_err-data-clause-front : goal.returns-in_err-data-clause-front
returns-in_err-data-clause-front c =
    let may = rw c.in-Some.is at c.in_ok-turn.ensures.ok in
    let queue : SendQueueState = queue_of c.next_unexpired.new.self in
    let chosen = c.chosen_place-place.ensures c.args.now may in
    let front = chosen_front c.args.now c.args.max queue c.chosen_place-place.result chosen c.next_progress-under_way.ensures.can in
    let told = c.in_ok-turn.ensures.told in
    rw (err_from_is_err_and c.from_residual-in_err-data.result c.from_residual-in_err-data.ensures.1).1 (rw c.in_err-data.ensures.err (record {
      events = told.events;
      drops = told.drops;
      coming = produced_events c.chosen_place-place.result c.args.max front.0 c.next_progress-under_way.result queue;
      next = inr (record {
        place = c.chosen_place-place.result;
        message = front.0;
        under_way = c.next_progress-under_way.result;
        front = front.1;
        chosen = rw c.requires.idle chosen;
        come = c.next_progress-under_way.ensures.come front.0 front.1;
        is = refl;
      });
      tells = front_from (contents c.next_unexpired.new.events) (contents c.args.events.now ++ told.events) _ _ told.told (c.in_err-data.ensures.front front.0 front.1);
    }))
