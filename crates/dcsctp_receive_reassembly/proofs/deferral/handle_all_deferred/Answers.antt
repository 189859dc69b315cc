-- What waited first is handled, and the rest still waits.
use Rattle.std.proofs.Common.{◌≡◌, ◌∷◌, [], ◌++◌, map, arith, sym, ◌∙◌}
use Rattle.std.specs.VecDeque.{deque_len}
use Rattle.dcsctp_receive_reassembly.specs.Reassembly.{incoming_of}
use Rattle.dcsctp_receive_reassembly.specs.Queue.{waiting_model}
use Rattle.dcsctp_receive_reassembly.proofs.WorkLemmas.{above_from, HandlesAll-more, first_of, worked_more, left_used}
use Rattle.dcsctp_receive_reassembly.proofs.deferral.handle_all_deferred.Goals as goal

pub loop-incoming-preserved-in_ok-handle_deferred : goal.loop-incoming-preserved-in_ok-handle_deferred
loop-incoming-preserved-in_ok-handle_deferred c =
    let next : c.loop-incoming.waiting.items ≡ c.index.result.now ∷ c.pop_front.new.self.items = first_of c.index.result.now c.loop-incoming.waiting.items c.pop_front.new.self.items (omega (arith, above_from (deque_len c.loop-incoming.waiting) (sym c.is_empty.ensures ∙ c.loop-incoming-test.true))) c.index.ensures c.pop_front.ensures.rest in
    record {
      done = c.loop-incoming.invariant.done ++ waiting_model c.index.result.now ∷ [];
      all = worked_more (map waiting_model c.args.waiting.now.items) c.loop-incoming.invariant.done c.index.result.now c.loop-incoming.waiting.items c.pop_front.new.self.items c.loop-incoming.invariant.all next;
      works = HandlesAll-more c.loop-incoming.invariant.done (waiting_model c.index.result.now) (incoming_of c.args.incoming.now) (incoming_of c.loop-incoming.incoming) (incoming_of c.handle_deferred.new.incoming) c.loop-incoming.invariant.works c.in_ok-handle_deferred.ensures.ok;
      used = omega (arith, c.loop-incoming.invariant.used, c.in_ok-handle_deferred.ensures.worked, left_used c.args.overhead c.index.result.now c.loop-incoming.waiting.items c.pop_front.new.self.items next);
    }
